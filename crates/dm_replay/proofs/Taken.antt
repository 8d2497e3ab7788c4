-- How much a run takes of its source.
use Rattle.std.proofs.Common.{ℕ, ◌≡◌, ◌≤◌, List, [], ap, arith}
use Rattle.std.specs.Prelude.{Option}
use Rattle.dm_base.specs.Lines.{LinesState, CountsTaken}
use Rattle.dm_base.proofs.Pending.{taken_more}
use Rattle.dm_replay.specs.Input.{TakesOnePast}

-- what was counted from nothing on
pub one_past : (a b : Option (List ℕ)) (new last : LinesState)
    → new ≡ record { line = []; pending = []; past = []; taken = 0 }
    → CountsTaken a b new.taken last.taken → last.taken ≤ 67108865 → TakesOnePast a b
one_past a b new last fresh taken limit =
    let none = ap (λ (s : LinesState). s.taken) fresh in (taken.0, taken.1, omega (arith, none, taken.2, limit))

-- the same in two steps
pub one_past_then : (a b c : Option (List ℕ)) (new mid last : LinesState)
    → new ≡ record { line = []; pending = []; past = []; taken = 0 }
    → CountsTaken a b new.taken mid.taken → CountsTaken b c mid.taken last.taken → last.taken ≤ 67108865
    → TakesOnePast a c
one_past_then a b c new mid last fresh first then_ limit =
    one_past a c new last fresh (taken_more a b c new.taken mid.taken last.taken first then_) limit
