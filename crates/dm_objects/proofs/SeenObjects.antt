-- How the objects seen follow from the present one and the changes.
use Rattle.std.proofs.Common.{◌≡◌, ℕ, ◌+◌, Bool, true, false, not, ◌&&◌, if◌then◌else◌, List, [], ◌∷◌, ◌++◌, length}
use Rattle.std.proofs.Common.{take, refl, sym, ◌∙◌, ap, subst, arith, append_assoc}
use Rattle.std.proofs.lemmas.List.{take_at, append-nil}
use Rattle.dm_objects.specs.declared.object.Object.{Object}
use Rattle.dm_objects.specs.declared.log.Past.{Past}
use Rattle.dm_objects.specs.declared.log.Past.TheVariants.{Same, Was, Grew}
use Rattle.dm_objects.specs.Seen.{Seen, before, first_or, seen_of, present, is_unfinished, now_holding}

first-append : (ps : List Past) (x now : Object) → first_or (seen_of ps x ++ now ∷ []) now ≡ first_or (seen_of ps x) x
first-append [] x now = refl
first-append (p ∷ ps) x now = refl

-- one change more is one object more
pub seen-push : (ps : List Past) (p : Past) (now : Object)
    → seen_of (ps ++ p ∷ []) now ≡ seen_of ps (before p now) ++ now ∷ []
seen-push [] p now = refl
seen-push (q ∷ ps) p now =
    let h = seen-push ps p now in
    ap (λ s. before q (first_or s now) ∷ s) h
    ∙ ap (λ x. before q x ∷ (seen_of ps (before p now) ++ now ∷ [])) (first-append ps (before p now) now)

pub seen_long : (ps : List Past) (now : Object) → length (seen_of ps now) ≡ length ps + 1
seen_long [] now = refl
seen_long (p ∷ ps) now = let h = seen_long ps now in omega (arith, h)

pub present_seen : (ps : List Past) (now : Object) → present (seen_of ps now) ≡ now
present_seen [] now = refl
present_seen (p ∷ []) now = refl
present_seen (p ∷ q ∷ ps) now = present_seen (q ∷ ps) now

pub was_seen : (ps qs : List Past) (old now : Object) → qs ≡ ps ++ Was old ∷ []
    → seen_of qs now ≡ seen_of ps old ++ now ∷ []
was_seen ps qs old now e = ap (λ x. seen_of x now) e ∙ seen-push ps (Was old) now

pub same_seen : (ps qs : List Past) (now : Object) → qs ≡ ps ++ Same ∷ [] → seen_of qs now ≡ seen_of ps now ++ now ∷ []
same_seen ps qs now e = ap (λ x. seen_of x now) e ∙ seen-push ps Same now

pub grew_seen : (ps qs : List Past) (n : ℕ) (old now : Object) → qs ≡ ps ++ Grew n ∷ [] → before (Grew n) now ≡ old
    → seen_of qs now ≡ seen_of ps old ++ now ∷ []
grew_seen ps qs n old now e f =
    ap (λ x. seen_of x now) e ∙ seen-push ps (Grew n) now ∙ ap (λ x. seen_of ps x ++ now ∷ []) f

-- where nothing was unfinished and nothing is, there is nothing new
pub nothing_new : (objects : List Object) (next : Object) → is_unfinished (present objects) ≡ false
    → is_unfinished next ≡ false → now_holding objects next ≡ objects
nothing_new objects next e f =
    ap (λ b. if not b && not (is_unfinished next) then objects else objects ++ next ∷ []) e
    ∙ ap (λ b. if not b then objects else objects ++ next ∷ []) f

and-false : (b : Bool) → b && false ≡ false
and-false true = refl
and-false false = refl

-- an object that is unfinished is one more
pub something_new : (objects : List Object) (next : Object) → is_unfinished next ≡ true
    → now_holding objects next ≡ objects ++ next ∷ []
something_new objects next e =
    ap (λ b. if not (is_unfinished (present objects)) && not b then objects else objects ++ next ∷ []) e
    ∙ ap (λ b. if b then objects else objects ++ next ∷ []) (and-false (not (is_unfinished (present objects))))

-- ---- the way back

abbrev pub holds : ℕ → List Object → Seen
holds max objects = record { max_obj = max; objects = objects }

-- what is seen now is a beginning of what was seen
abbrev pub Begins : List Object → List Object → Type 0
Begins now old = (rest : List Object) × (old ≡ now ++ rest)

pub begins : (seen : List Object) → Begins seen seen
begins seen = ([], sym (append-nil seen))

pub popped : (ps qs : List Past) (p : Past) (now : Object) (old : List Object) → qs ≡ ps ++ p ∷ []
    → Begins (seen_of qs now) old
    → Begins (seen_of ps (before p now)) old
popped ps qs p now old e h = (
  now ∷ h.0,
  h.1 ∙ ap (λ x. x ++ h.0) (ap (λ x. seen_of x now) e ∙ seen-push ps p now)
      ∙ append_assoc (seen_of ps (before p now)) (now ∷ []) h.0,
)

pub gone_back : (ps : List Past) (now : Object) (old : List Object) (mark : ℕ) → Begins (seen_of ps now) old
    → length ps ≡ mark
    → seen_of ps now ≡ take (mark + 1) old
gone_back ps now old mark h e =
    sym (take_at (seen_of ps now) h.0 (mark + 1) (let l = seen_long ps now in omega (arith, l, e)))
    ∙ ap (take (mark + 1)) (sym h.1)

-- an inbox with these objects has gone back to the mark
pub back_there : (old : Seen) (max0 : ℕ) (past0 : List Past) (o0 : Object)
    → record { max_obj = max0; objects = seen_of past0 o0 } ≡ old
    → (max : ℕ) (ps : List Past) (o : Object) (at mark : ℕ) → at ≡ mark → max ≡ max0
    → Begins (seen_of ps o) (seen_of past0 o0)
    → length ps ≡ at → holds max (seen_of ps o) ≡ holds old.max_obj (take (mark + 1) old.objects)
back_there old max0 past0 o0 e max ps o at mark same most begun long =
    subst (λ (s : Seen). holds max (seen_of ps o) ≡ holds s.max_obj (take (mark + 1) s.objects)) e
    (ap (λ x. holds x (seen_of ps o)) most
    ∙ ap (holds max0) (gone_back ps o (seen_of past0 o0) mark begun (long ∙ same)))
