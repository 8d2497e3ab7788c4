use Rattle.std.proofs.Common.{◌∙◌, sym, ap}
use Rattle.syncml_parts.specs.Packing.{cut_data}
use Rattle.dm_pack.specs.Entries.{Entry}
use Rattle.dm_pack.specs.Measures.{apart_value, apart_sent}
use Rattle.dm_pack.proofs.Apart.{data_apart}
use Rattle.dm_pack.proofs.waiting.Waiting.left.Goals as goal

pub returns : goal.returns
returns c =
    let apart = c.self.inside.apart in
    c.left_of.ensures
    ∙ sym (data_apart c.self.inside.command (apart_value apart) (apart_sent apart) c.self.invariant)
    ∙ ap (λ (e : Entry). cut_data e.command) c.self.view_is
