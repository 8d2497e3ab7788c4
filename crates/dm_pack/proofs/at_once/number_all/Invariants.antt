use Rattle.std.proofs.Common.{◌≡◌, ◌+◌, ◌++◌, length, take, drop}
use Rattle.dm_pack.specs.Filling.{numbered}
use Rattle.dm_pack.specs.Measures.{ids_of}
use Rattle.dm_pack.proofs.at_once.number_all.Given as goal

abbrev pub invariant-loop-at : goal.invariant-loop-at
invariant-loop-at l =
    (l.next + ids_of (drop l.at l.commands) ≡ 1 + ids_of l.fn.commands)
    × (length l.commands ≡ length l.fn.commands)
    × (take l.at l.commands ++ numbered l.next (drop l.at l.commands) ≡ numbered 1 l.fn.commands)
