use Rattle.std.proofs.Common.{◌∙◌, arith}
use Rattle.dm_pack.specs.Measures.{apart_value, apart_sent}
use Rattle.dm_pack.proofs.Parts.{kept_ids}
use Rattle.dm_pack.proofs.waiting.Waiting.ids.Goals as goal

pub ids_in-requires : goal.ids_in-requires
ids_in-requires c =
    let apart = c.self.inside.apart in
    let same =
    kept_ids c.self.inside.command (apart_value apart) (apart_sent apart) c.args.self.now
    c.self.invariant c.self.view_is in
    omega (arith, same, c.requires)

pub returns : goal.returns
returns c =
    let apart = c.self.inside.apart in
    c.ids_in.ensures
    ∙ kept_ids c.self.inside.command (apart_value apart) (apart_sent apart) c.args.self.now c.self.invariant
    c.self.view_is
