use Rattle.std.proofs.Common.{◌≡◌, ◌++◌, ◌∷◌, take}
use Rattle.std.specs.List.{flat_map}
use Rattle.dm_uri.proofs.Printing.{slashed}
use Rattle.dm_uri.proofs.writing.put_path.Given as goal

-- a `.`, and each name so far behind a slash
abbrev pub invariant-loop-name : goal.invariant-loop-name
invariant-loop-name l = l.out.items ≡ l.fn.out.items ++ 46 ∷ flat_map slashed (take l.name-index l.names)
