-- What an object tells, and what comes next of what is to come.
use Rattle.std.specs.Prelude.{List, [], ◌∷◌, Option, Some, None, ⊤}

-- it tells nothing, before and after; or what it tells has changed so
abbrev pub IfTold : {S : Type 0} → Option S → Option S → (S → S → Type 0) → Type 0
IfTold None None P = ⊤
IfTold None (Some t) P = ⊥
IfTold (Some s) None P = ⊥
IfTold (Some s) (Some t) P = P s t

-- the first of those to come; none where it isn't there, or nothing is to come
abbrev pub coming : {A : Type 0} → List (Option A) → Option A
coming [] = None
coming (x ∷ xs) = x
