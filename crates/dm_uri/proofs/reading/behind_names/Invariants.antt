use Rattle.std.proofs.Common.{◌∷◌}
use Rattle.dm_uri.specs.Reading.{BeginsWithNames}
use Rattle.dm_uri.proofs.reading.behind_names.Given as goal

-- so many names so far, and the rest behind a slash
abbrev pub invariant-loop-before : goal.invariant-loop-before
invariant-loop-before l = BeginsWithNames l.text l.before (0x2F ∷ l.rest)
