-- Pieces that are taken one behind the other.
use Rattle.std.proofs.Common.{Bool, true, false, Ok, ◌≡◌, ◌<◌, ◌≤◌, ◌++◌, ◌∙◌, ℕ, List, [], sym, ap, length, append-nil}
use Rattle.std.proofs.Common.{append_assoc}
use Rattle.std.specs.declared.option.Option.{Option}
use Rattle.std.specs.Io.KnownBytes.{Consumes, IsAtEnd}
use Rattle.std.proofs.KnownBytes.{Consumes-nil, Consumes-trans}
use Rattle.dm_heads.specs.Taking.{TakesUpTo}

pub no_piece : (a : Option (List ℕ)) (before : List ℕ) → (piece : List ℕ) × Consumes a a piece × (before ≡ before ++ piece)
no_piece a before = ([], Consumes-nil a, sym (append-nil before))

pub more_taken : (a b c : Option (List ℕ)) (before mid now q : List ℕ)
    → (piece : List ℕ) × Consumes a b piece × (mid ≡ before ++ piece) → Consumes b c q → now ≡ mid ++ q
    → (piece : List ℕ) × Consumes a c piece × (now ≡ before ++ piece)
more_taken a b c before mid now q p gone is =
    (p.0 ++ q, Consumes-trans a b c p.0 q p.1 gone, is ∙ ap (λ l. l ++ q) p.2 ∙ append_assoc before p.0 q)

-- it came to its end, or not
pub reached : (old new : Option (List ℕ)) (before now : List ℕ) (end : ℕ) (b : Bool) → b ≡ true → TakesUpTo old new before now end (Ok b)
    → (piece : List ℕ) × Consumes old new piece × (now ≡ before ++ piece) × (end ≤ length now)
reached old new before now end true e t = t
reached old new before now end false e t = cc

pub ended_before : (old new : Option (List ℕ)) (before now : List ℕ) (end : ℕ) (b : Bool) → b ≡ false → TakesUpTo old new before now end (Ok b)
    → (piece : List ℕ) × Consumes old new piece × (now ≡ before ++ piece) × (length now < end) × IsAtEnd new
ended_before old new before now end true e t = cc
ended_before old new before now end false e t = t
