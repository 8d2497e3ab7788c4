use Rattle.std.proofs.Common.{◌≡◌, drop, length}
use Rattle.dm_acl.specs.Grammar.{with_names, unrepeated}
use Rattle.dm_acl.specs.Reading.{names_in}
use Rattle.dm_acl.proofs.reading.read_names.Given as goal

abbrev pub invariant-loop-name : goal.invariant-loop-name
invariant-loop-name l = with_names l.names (drop (length l.yielded) (names_in l.list)) ≡ unrepeated (names_in l.list)
