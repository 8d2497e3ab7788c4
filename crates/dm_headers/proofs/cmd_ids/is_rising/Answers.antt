use Rattle.std.proofs.Common.{rules, sym, ◌∙◌, arith}
use Rattle.dm_headers.proofs.Rises.{last_alone}
use Rattle.dm_headers.proofs.cmd_ids.is_rising.Goals as goal

pub returns : goal.returns
returns c =
    sym (c.loop-at.invariant.1 ∙ last_alone c.args.ids.now c.loop-at.at c.loop-at.invariant.0 (search (rules, arith)))
