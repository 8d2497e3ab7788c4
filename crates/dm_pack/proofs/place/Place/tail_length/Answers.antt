use Rattle.std.proofs.Common.{◌∙◌, sym, ap}
use Rattle.syncml_types.specs.Lengths.{up_to_most}
use Rattle.dm_pack.specs.Measures.{tail_length}
use Rattle.dm_pack.proofs.Within.{final_end, next_end, nothing_end}
use Rattle.dm_pack.proofs.place.Place.tail_length.Goals as goal

pub returns-in-Final : goal.returns-in-Final
returns-in-Final c =
    final_end c.args.self c.final_length.result c.final_length.ensures
    ∙ ap (λ t. up_to_most (tail_length c.args.self t)) (sym c.in-Final.is)

pub returns-in-NextMessage : goal.returns-in-NextMessage
returns-in-NextMessage c =
    next_end c.args.self c.asks_length.result.0 c.saturating_add.result c.asks_length.ensures.length
    c.saturating_add.ensures
    ∙ ap (λ t. up_to_most (tail_length c.args.self t)) (sym c.in-NextMessage.is)

pub returns-in-Nothing : goal.returns-in-Nothing
returns-in-Nothing c = nothing_end c.args.self ∙ ap (λ t. up_to_most (tail_length c.args.self t)) (sym c.in-Nothing.is)
