-- Which answers a run over a trace ends by, and that its source is at its end where it ends well.
use Rattle.std.proofs.Common.{None, Some, ◌≡◌, ◌≢◌, ℕ, inl, inr, List, [], ◌∷◌, ◌++◌, sym, subst, ◌∙◌}
use Rattle.std.specs.Prelude.{Option}
use Rattle.std.specs.Io.KnownBytes.{Keeps, IsAtEnd, prepend_known}
use Rattle.dm_base.specs.Outside.{OfKnown}
use Rattle.dm_base.specs.Lines.{LinesState, CountsTaken, ahead}
use Rattle.dm_exit.specs.declared.exit.Exit.{Exit}
use Rattle.dm_exit.specs.declared.exit.Exit.TheVariants as exit
use Rattle.dm_exit.specs.Answers.{IsOfText, DoneAtEnd}
use Rattle.dm_exit.proofs.Parts.{part_of_text, part_not_done, end_of_text, end_not_done}
use Rattle.dm_replay.specs.declared.reading.Halt.{Halt}
use Rattle.dm_replay.specs.declared.reading.Halt.TheVariants as halt
use Rattle.dm_texts.specs.Lines.{bad_line}
use Rattle.dm_replay.specs.From.{PutsHalt, PutsBehind, PutsDueAndHalt}

-- ---- a run that halted

pub halt_of_text : (h : Halt) (old new : Option (List ℕ)) (e : Exit) → PutsHalt h old new e → IsOfText e
halt_of_text (halt.Bad n why) old new e p = end_of_text (bad_line n why) exit.BadInput old new e tt p
halt_of_text halt.TooLong old new e p = subst IsOfText (sym p.1) tt
halt_of_text halt.Read old new e p = subst IsOfText (sym p.1) tt
halt_of_text halt.Memory old new e p = subst IsOfText (sym p.1) tt

pub halt_not_done : (h : Halt) (old new : Option (List ℕ)) (e : Exit) → PutsHalt h old new e → e ≢ exit.Done
halt_not_done (halt.Bad n why) old new e p is =
    end_not_done (bad_line n why) exit.BadInput old new e (λ same. cc) p is
halt_not_done halt.TooLong old new e p is = let same = sym p.1 ∙ is in cc
halt_not_done halt.Read old new e p is = let same = sym p.1 ∙ is in cc
halt_not_done halt.Memory old new e p is = let same = sym p.1 ∙ is in cc

behind_of_text : (due : List ℕ) (h : Halt) (old new : Option (List ℕ)) (e : Exit) → PutsBehind due h old new e
    → IsOfText e
behind_of_text due h old new e p =
    elim p [ inl put ↦ halt_of_text h put.0 new e put.2 | inr part ↦ part_of_text due old new e part ]

behind_not_done : (due : List ℕ) (h : Halt) (old new : Option (List ℕ)) (e : Exit) → PutsBehind due h old new e
    → e ≢ exit.Done
behind_not_done due h old new e p is =
    elim p [ inl put ↦ halt_not_done h put.0 new e put.2 is | inr part ↦ part_not_done due old new e part is ]

pub due_of_text : (due : List ℕ) (h : Halt) (old new : Option (List ℕ)) (e : Exit) → PutsDueAndHalt due h old new e
    → IsOfText e
due_of_text due (halt.Bad n why) old new e p = behind_of_text due (halt.Bad n why) old new e p
due_of_text due halt.TooLong old new e p = behind_of_text due halt.TooLong old new e p
due_of_text due halt.Read old new e p = subst IsOfText (sym p.1) tt
due_of_text due halt.Memory old new e p = behind_of_text due halt.Memory old new e p

pub due_not_done : (due : List ℕ) (h : Halt) (old new : Option (List ℕ)) (e : Exit) → PutsDueAndHalt due h old new e
    → e ≢ exit.Done
due_not_done due (halt.Bad n why) old new e p is = behind_not_done due (halt.Bad n why) old new e p is
due_not_done due halt.TooLong old new e p is = behind_not_done due halt.TooLong old new e p is
due_not_done due halt.Read old new e p is = let same = sym p.1 ∙ is in cc
due_not_done due halt.Memory old new e p is = behind_not_done due halt.Memory old new e p is

-- ---- the end of the source

nothing_behind : (xs ys : List ℕ) → xs ++ ys ≡ [] → ys ≡ []
nothing_behind [] ys h = h
nothing_behind (x ∷ xs) ys h = cc

behind_ended : (xs ys : List ℕ) (left : Option (List ℕ)) → IsAtEnd (prepend_known xs (prepend_known ys left))
    → IsAtEnd left
behind_ended xs ys None h = tt
behind_ended xs ys (Some zs) h = nothing_behind ys zs (nothing_behind xs (ys ++ zs) h)

-- where nothing is to come, and it stays so, the source is at its end
pub source_ended : (a b : LinesState) (left rest : Option (List ℕ)) → Keeps (ahead a left) (ahead b rest)
    → IsAtEnd (ahead a left) → OfKnown left (λ _. IsAtEnd rest)
source_ended a b None rest kept ended = tt
source_ended a b (Some bytes) None kept ended = absurd kept
source_ended a b (Some bytes) (Some more) kept ended = behind_ended b.pending b.past (Some more) (kept ∙ ended)

-- bytes that were told at first are told later
pub ended_later : (a b rest : Option (List ℕ)) (n m : ℕ) (e : Exit) → CountsTaken a b n m → DoneAtEnd b rest e
    → DoneAtEnd a rest e
ended_later None b rest n m e taken h is = tt
ended_later (Some bytes) None rest n m e taken h is = absurd taken.1
ended_later (Some bytes) (Some more) rest n m e taken h is = h is
