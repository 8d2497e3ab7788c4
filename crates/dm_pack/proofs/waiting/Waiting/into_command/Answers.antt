use Rattle.std.proofs.Common.{◌∙◌, arith}
use Rattle.dm_pack.specs.Measures.{apart_value, apart_sent}
use Rattle.dm_pack.proofs.Parts.{kept_ids}
use Rattle.dm_pack.proofs.Moving.{out_of}
use Rattle.dm_pack.proofs.waiting.Waiting.into_command.Goals as goal

pub numbered_with-requires : goal.numbered_with-requires
numbered_with-requires c =
    let apart = c.self.inside.apart in
    let same =
    kept_ids c.self.inside.command (apart_value apart) (apart_sent apart) c.args.self c.self.invariant c.self.view_is in
    omega (arith, same, c.requires)

pub returns : goal.returns
returns c =
    let apart = c.self.inside.apart in
    c.numbered_with.ensures
    ∙ out_of c.args.first c.self.inside.command (apart_value apart) c.into_left.result (apart_sent apart) c.args.self
    c.self.view_is c.into_left.ensures
