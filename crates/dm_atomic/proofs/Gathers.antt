-- What gathering leaves is no larger than the greatest object.
use Rattle.std.proofs.Common.{◌≡◌, ℕ, ◌+◌, ◌≤◌, ◌==◌, ◌&&◌, Bool, true, false, not, if◌then◌else◌, List, [], ◌∷◌, ◌++◌}
use Rattle.std.proofs.Common.{length, refl, sym, ◌∙◌, arith, Option, None, Some, nat_lt}
use Rattle.std.specs.Prelude.{is_some, ⊤}
use Rattle.std.proofs.lemmas.List.{length-append}
use Rattle.std.proofs.lemmas.Bool.Decides.{nat_tests}
use Rattle.syncml_types.specs.Verbs.{is_write}
use Rattle.dm_objects.specs.declared.object.Object.{Object}
use Rattle.dm_objects.specs.declared.object.Begun.{Begun}
use Rattle.dm_objects.specs.declared.object.Object.TheVariants.{Nothing, Buffering, Skipping}
use Rattle.dm_objects.specs.declared.piece.Piece.{Piece}
use Rattle.dm_objects.specs.declared.piece.What.{What}
use Rattle.dm_objects.specs.declared.piece.What.TheVariants.{Whole, Buffered, Refused}
use Rattle.dm_objects.specs.Gathering.{Came, came, skipped, first_of_several, single, write_piece, by_rules}
use Rattle.dm_objects.specs.Gathering.{gather, continues, begun_object, whole_step}
use Rattle.dm_objects.specs.Seen.{present, is_unfinished, now_holding}
use Rattle.dm_atomic.specs.Engine.{FitsObject, IsShortWhat}

abbrev WhatFits : ℕ → What → Type 0
WhatFits max (Whole step) = is_write step.verb ≡ true → length step.value ≤ max
WhatFits max Buffered = ⊤
WhatFits max (Refused code) = ⊤

record CameFits (max : ℕ) (c : Came) : Type 0 where
  pub object_fits : FitsObject max c.object
  pub what_fits : WhatFits max c.what

within : (max n : ℕ) → nat_lt max n ≡ false → n ≤ max
within max n e = grind (arith, nat_tests)

single-fits : (max : ℕ) (piece : Piece) (large : Bool) → nat_lt max (length piece.step.value) ≡ large
    → CameFits max (if large then came Nothing (Refused 416) else came Nothing (Whole piece.step))
single-fits max piece true e = record { object_fits = tt; what_fits = tt }
single-fits max piece false e = record { object_fits = tt; what_fits = λ w. within max (length piece.step.value) e }

filled-fits : (max : ℕ) (piece : Piece) (size : ℕ) (full : Bool) → size ≤ max
    → CameFits max (if full then skipped piece 424 else came (Buffering (begun_object piece size)) Buffered)
filled-fits max piece size true h = record { object_fits = tt; what_fits = tt }
filled-fits max piece size false h = record { object_fits = h; what_fits = tt }

sized-fits : (max : ℕ) (piece : Piece) (size : ℕ) (large : Bool) → nat_lt max size ≡ large
    → CameFits max (if large then skipped piece 416
    else if nat_lt size (length piece.step.value) then skipped piece 424
    else came (Buffering (begun_object piece size)) Buffered)
sized-fits max piece size true e = record { object_fits = tt; what_fits = tt }
sized-fits max piece size false e =
    filled-fits max piece size (nat_lt size (length piece.step.value)) (within max size e)

first-fits : (max : ℕ) (piece : Piece) (size : Option ℕ) → CameFits max (first_of_several max piece size)
first-fits max piece None = record { object_fits = tt; what_fits = tt }
first-fits max piece (Some size) = sized-fits max piece size (nat_lt max size) refl

refused-fits : (max code : ℕ) (o : Object) (more : Bool) → FitsObject max o
    → CameFits max (came (if more then o else Nothing) (Refused code))
refused-fits max code o true f = record { object_fits = f; what_fits = tt }
refused-fits max code o false f = record { object_fits = tt; what_fits = tt }

last-fits : (max : ℕ) (begun : Begun) (piece : Piece) (whole : Bool)
    → length begun.value + length piece.step.value ≤ max
    → CameFits max (if whole then came Nothing (Whole (whole_step begun piece.step)) else came Nothing (Refused 424))
last-fits max begun piece true h = record {
  object_fits = tt;
  what_fits = λ w. omega (arith, h, length-append begun.value piece.step.value);
}
last-fits max begun piece false h = record { object_fits = tt; what_fits = tt }

more-fits : (max : ℕ) (begun : Begun) (piece : Piece) (more : Bool) → begun.size ≤ max
    → length begun.value + length piece.step.value ≤ max
    → CameFits max (if more then came (Buffering (record begun { value = begun.value ++ piece.step.value })) Buffered
    else if length begun.value + length piece.step.value == begun.size
    then came Nothing (Whole (whole_step begun piece.step)) else came Nothing (Refused 424))
more-fits max begun piece true f h = record { object_fits = f; what_fits = tt }
more-fits max begun piece false f h =
    last-fits max begun piece (length begun.value + length piece.step.value == begun.size) h

next-fits : (max : ℕ) (begun : Begun) (piece : Piece) (over : Bool) → begun.size ≤ max
    → nat_lt begun.size (length begun.value + length piece.step.value) ≡ over
    → CameFits max (if over then came (if piece.more then Skipping begun.key 424 else Nothing) (Refused 424)
    else if piece.more then came (Buffering (record begun { value = begun.value ++ piece.step.value })) Buffered
    else if length begun.value + length piece.step.value == begun.size
    then came Nothing (Whole (whole_step begun piece.step)) else came Nothing (Refused 424))
next-fits max begun piece true f e = refused-fits max 424 (Skipping begun.key 424) piece.more tt
next-fits max begun piece false f e =
    let h = within begun.size (length begun.value + length piece.step.value) e in
    more-fits max begun piece piece.more f (omega (arith, f, h))

nothing-fits : (max : ℕ) (piece : Piece) (more : Bool)
    → CameFits max (if more then first_of_several max piece piece.size else single max piece)
nothing-fits max piece true = first-fits max piece piece.size
nothing-fits max piece false = single-fits max piece (nat_lt max (length piece.step.value)) refl

write-fits : (max : ℕ) (o : Object) (piece : Piece) → FitsObject max o → CameFits max (write_piece max o piece)
write-fits max Nothing piece f = nothing-fits max piece piece.more
write-fits max (Buffering begun) piece f =
    next-fits max begun piece (nat_lt begun.size (length begun.value + length piece.step.value)) f refl
write-fits max (Skipping key code) piece f = refused-fits max code (Skipping key code) piece.more tt

other-fits : (max : ℕ) (o : Object) (piece : Piece) (more : Bool) → FitsObject max o → is_write piece.step.verb ≡ false
    → CameFits max (came o (if more then Refused 400 else Whole piece.step))
other-fits max o piece true f e = record { object_fits = f; what_fits = tt }
other-fits max o piece false f e = record { object_fits = f; what_fits = λ w. absurd (cc) }

targeted-fits : (max : ℕ) (o : Object) (piece : Piece) (bare : Bool) → FitsObject max o
    → CameFits max (if bare then came o (Refused 400) else write_piece max o piece)
targeted-fits max o piece true f = record { object_fits = f; what_fits = tt }
targeted-fits max o piece false f = write-fits max o piece f

rules-fit : (max : ℕ) (o : Object) (piece : Piece) (write : Bool) → FitsObject max o → is_write piece.step.verb ≡ write
    → CameFits max (if not write then came o (if piece.more then Refused 400 else Whole piece.step)
    else if piece.more && not (is_some piece.step.target) then came o (Refused 400) else write_piece max o piece)
rules-fit max o piece false f e = other-fits max o piece piece.more f e
rules-fit max o piece true f e = targeted-fits max o piece (piece.more && not (is_some piece.step.target)) f

gathered-fits : (max : ℕ) (o : Object) (piece : Piece) (continued : Bool) → FitsObject max o
    → CameFits max (by_rules max (if continued then o else Nothing) piece)
gathered-fits max o piece true f = rules-fit max o piece (is_write piece.step.verb) f refl
gathered-fits max o piece false f = rules-fit max Nothing piece (is_write piece.step.verb) tt refl

short-what : (max : ℕ) (w : What) → max ≤ 4194304 → WhatFits max w → IsShortWhat w
short-what max (Whole step) h f =
    λ write. let l = f write in omega (arith, l, h)
short-what max Buffered h f = tt
short-what max (Refused code) h f = tt

pub gather-fits : (max : ℕ) (o : Object) (piece : Piece) → FitsObject max o → FitsObject max (gather max o piece).object
unfolding gather
gather-fits max o piece f = (gathered-fits max o piece (continues o piece) f).object_fits

pub gather-short : (max : ℕ) (o : Object) (piece : Piece) → FitsObject max o → max ≤ 4194304
    → IsShortWhat (gather max o piece).what
unfolding gather
gather-short max o piece f h =
    short-what max _ h (gathered-fits max o piece (continues o piece) f).what_fits

-- ---- the present object

pub present-end : (os : List Object) (o : Object) → present (os ++ o ∷ []) ≡ o
present-end [] o = refl
present-end (a ∷ []) o = refl
present-end (a ∷ b ∷ os) o = present-end (b ∷ os) o

finished : (o : Object) → is_unfinished o ≡ false → o ≡ Nothing
finished Nothing e = refl
finished (Buffering begun) e = absurd (cc)
finished (Skipping key code) e = absurd (cc)

holding-is : (os : List Object) (next : Object) (a b : Bool) → is_unfinished (present os) ≡ a → is_unfinished next ≡ b
    → present (if not a && not b then os else os ++ next ∷ []) ≡ next
holding-is os next true b e f = present-end os next
holding-is os next false true e f = present-end os next
holding-is os next false false e f = finished (present os) e ∙ sym (finished next f)

pub present-holding : (os : List Object) (next : Object) → present (now_holding os next) ≡ next
present-holding os next = holding-is os next (is_unfinished (present os)) (is_unfinished next) refl refl
