-- Where a code was given for the whole of a command, nothing was executed for its place later.
use Rattle.std.proofs.Common.{zero, suc, ◌≡◌, ◌<◌, ◌≤◌, ◌+◌, ◌-◌, ℕ, Bool, true, false, List, [], ◌∷◌, ◌++◌, length}
use Rattle.std.proofs.Common.{take, drop, Option, None, Some, refl, sym, ◌∙◌, ap, subst, arith, take-append-drop}
use Rattle.std.proofs.Common.{nat_lt}
use Rattle.std.specs.Prelude.{slice_get}
use Rattle.std.specs.List.{AllByRecursion, Contains}
use Rattle.std.proofs.lemmas.List.{length-append}
use Rattle.std.proofs.lemmas.Bool.Decides.{nat_tests}
use Rattle.syncml_types.specs.declared.command.Step.{Step}
use Rattle.syncml_parts.specs.Numbering.{ids_in}
use Rattle.dm_job.specs.declared.job.JobEntry.{JobEntry}
use Rattle.dm_job.specs.Sound.{CanBeSent, AreNumbered, all_entries}
use Rattle.dm_world.specs.Acts.{Act, block, does, Joined, and_then, with_more, is_part_of, join, doing_acts, deeds_acts}
use Rattle.dm_world.specs.Acts.{job_acts}
use Rattle.dm_world.specs.Deeds.{Deed}
use Rattle.dm_world.specs.World.{InSession}
use Rattle.dm_world.specs.Commands.{outline, outlines, is_whole_act, IsJobAct, IsWholeDeed}
use Rattle.dm_world.specs.Places.{place_behind, IsExecutedAt}
use Rattle.dm_world.proofs.Lists.{either}
use Rattle.dm_world.proofs.Joins.{join-append}
use Rattle.dm_world.proofs.Executes.{done-append}
use Rattle.dm_world.proofs.Marks.{one-id}
use Rattle.dm_world.proofs.RowEntries.{OnlySteps}
use Rattle.dm_world.proofs.RowTaken.{wholes_of, IsOver, IsOverAt, IsWithin, AllPlaced}
use Rattle.dm_world.proofs.PlacedActs.{job-at}

-- ---- an entry by its number

number-above : (n : ℕ) (es : List JobEntry) (e : JobEntry) → AreNumbered n es → Contains es e → n ≤ e.number
number-above n [] e h (k, low, at) = absurd (omega (arith, low))
number-above n (x ∷ es) e h (zero, low, at) =
    let same = ap (λ (y : JobEntry). y.number) at in
    let first = h.0 in
    omega (arith, same, first)
number-above n (x ∷ es) e h (suc k, low, at) =
    let above = number-above (n + ids_in x.command) es e h.1 (k, omega (arith, low), at) in
    omega (arith, above)

one-entry : (n : ℕ) (es : List JobEntry) (e f : JobEntry) → AreNumbered n es → Contains es e → Contains es f
    → e.number ≡ f.number
    → e ≡ f
one-entry n [] e f h (k, low, at) c g = absurd (omega (arith, low))
one-entry n (x ∷ es) e f h (zero, low, at) (zero, l, a) g = sym at ∙ a
one-entry n (x ∷ es) e f h (zero, low, at) (suc j, l, a) g =
    let above = number-above (n + ids_in x.command) es f h.1 (j, omega (arith, l), a) in
    let same = ap (λ (y : JobEntry). y.number) at in
    let some = one-id x.command in
    let first = h.0 in
    absurd (omega (arith, above, same, some, first, g))
one-entry n (x ∷ es) e f h (suc k, low, at) (zero, l, a) g =
    let above = number-above (n + ids_in x.command) es e h.1 (k, omega (arith, low), at) in
    let same = ap (λ (y : JobEntry). y.number) a in
    let some = one-id x.command in
    let first = h.0 in
    absurd (omega (arith, above, same, some, first, g))
one-entry n (x ∷ es) e f h (suc k, low, at) (suc j, l, a) g =
    one-entry (n + ids_in x.command) es e f h.1 (k, omega (arith, low), at) (j, omega (arith, l), a) g

-- ---- what is whole stays whole

take-twice : (k j : ℕ) (xs : List (InSession Deed)) → k ≤ j → take k (take j xs) ≡ take k xs
take-twice zero j xs h = refl
take-twice (suc k) zero xs h = absurd (omega (arith, h))
take-twice (suc k) (suc j) [] h = refl
take-twice (suc k) (suc j) (x ∷ xs) h = ap (λ l. x ∷ l) (take-twice k j xs (omega (arith, h)))

wholes-more : (a b : List (InSession Deed)) → wholes_of a ≤ wholes_of (a ++ b)
wholes-more a b =
    let all = ap (λ l. length (join None l).whole) (done-append a b)
    ∙ ap (λ (j : Joined). length j.whole) (join-append None (deeds_acts a) (deeds_acts b)) in
    let long = length-append (join None (deeds_acts a)).whole
    (join (join None (deeds_acts a)).part (deeds_acts b)).whole in
    omega (arith, all, long)

wholes-later : (executed : List (InSession Deed)) (k j : ℕ) → k ≤ j
    → wholes_of (take k executed) ≤ wholes_of (take j executed)
wholes-later executed k j h =
    let split = take-append-drop k (take j executed) in
    let same = take-twice k j executed h in
    let more = wholes-more (take k (take j executed)) (drop k (take j executed)) in
    let one = ap wholes_of split in
    let two = ap wholes_of same in
    omega (arith, more, one, two)

step-whole : (o : Option Step) (s : Step) → 0 < length (join o (does s false ∷ [])).whole
step-whole None s = omega arith
step-whole (Some q) s =
    either (λ (j : Joined). 0 < length j.whole) (is_part_of q s) {x = and_then (does (with_more q s) false)
    (join None [])}
    {y = and_then (does q true) (and_then (does s false) (join None []))} (omega arith) (omega arith)

take-next : (executed : List (InSession Deed)) (k : ℕ) (x : InSession Deed) → slice_get executed k ≡ Some x
    → take (suc k) executed ≡ take k executed ++ x ∷ []
take-next [] k x e = cc
take-next (y ∷ ys) zero x e = let same : y ≡ x = cc in ap (λ z. z ∷ []) same
take-next (y ∷ ys) (suc k) x e = ap (λ l. y ∷ l) (take-next ys k x e)

-- behind a whole step one more is
wholes-next : (executed : List (InSession Deed)) (k : ℕ) (x : InSession Deed) (s : Step) → slice_get executed k ≡ Some x
    → doing_acts x.what.doing ≡ does s false ∷ []
    → wholes_of (take k executed) < wholes_of (take (suc k) executed)
wholes-next executed k x s e is =
    let j = join None (deeds_acts (take k executed)) in
    let acts-are : deeds_acts (take (suc k) executed) ≡ deeds_acts (take k executed) ++ does s false ∷ [] =
    ap deeds_acts (take-next executed k x e) ∙ done-append (take k executed) (x ∷ [])
    ∙ ap (λ l. deeds_acts (take k executed) ++ (l ++ [])) is in
    let all = ap (λ l. length (join None l).whole) acts-are
    ∙ ap (λ (z : Joined). length z.whole) (join-append None (deeds_acts (take k executed)) (does s false ∷ [])) in
    let long = length-append j.whole (join j.part (does s false ∷ [])).whole in
    let some = step-whole j.part s in
    omega (arith, all, long, some)

-- ---- the last

module _ (packages : List (List JobEntry)) (numbered : AreNumbered 1 (all_entries packages))
    (sound : AllByRecursion CanBeSent (all_entries packages)) (executed : List (InSession Deed))
    (all : AllPlaced packages executed) where
  same-outline : (n m place : ℕ) (a b : Act) → IsJobAct packages n (outline a) → IsJobAct packages m (outline b)
      → n - 1 ≡ place
      → m - 1 ≡ place
      → outline a ≡ outline b
  same-outline n m place a b h g e f =
      let x = job-at packages n (outline a) numbered sound h in
      let y = job-at packages m (outline b) numbered sound g in
      let one = subst (λ p. slice_get (job_acts packages) p ≡ Some x.act) e x.at in
      let two = subst (λ p. slice_get (job_acts packages) p ≡ Some y.act) f y.at in
      let same : x.act ≡ y.act = cc in
      sym x.outline_is ∙ ap outline same ∙ y.outline_is

  blocks-none : (k j n place : ℕ) (name : Act) (y : InSession Deed) → k < j
      → IsOver packages executed k n
      → n - 1 ≡ place
      → slice_get executed j ≡ Some y
      → (m : ℕ) → m - 1 ≡ place
      → (entry : JobEntry) → Contains (all_entries packages) entry
      → m ≡ entry.number
      → wholes_of (take j executed) + 1 < m + length (outlines entry.command)
      → (OnlySteps (doing_acts y.what.doing) → ⊥)
      → ⊥
  blocks-none k j n place name y low over e at m f entry within number few only = by (nat_lt j over.end) refl
    where
      by : (b : Bool) → nat_lt j over.end ≡ b → ⊥
      by true t = only (over.steps j y low (grind (arith, nat_tests)) at)
      by false t =
          let late : over.end ≤ j = grind (arith, nat_tests) in
          let more = wholes-later executed over.end j late in
          let done = over.all in
          let one = number-above 1 (all_entries packages) entry numbered within in
          let two = number-above 1 (all_entries packages) over.entry numbered over.of_job in
          let mine = over.number in
          let same : over.entry ≡ entry =
          one-entry 1 (all_entries packages) over.entry entry numbered over.of_job within
          (omega (arith, one, two, mine, number, e, f)) in
          let long = ap (λ (x : JobEntry). length (outlines x.command)) same in
          omega (arith, more, done, long, few, one, two, mine, number, e, f)

  by-acts : (k j n place : ℕ) (x y : InSession Deed) (a b : Act) → k < j
      → slice_get executed k ≡ Some x
      → slice_get executed j ≡ Some y
      → doing_acts x.what.doing ≡ a ∷ []
      → doing_acts y.what.doing ≡ b ∷ []
      → place_behind (join None (deeds_acts (take k executed))) a ≡ place
      → place_behind (join None (deeds_acts (take j executed))) b ≡ place
      → outline a ≡ outline b
      → IsWholeDeed x.what
      → IsOverAt packages executed k n x
      → n - 1 ≡ place
      → (m : ℕ) → m - 1 ≡ place → IsWithin packages (wholes_of (take j executed)) m b
      → ⊥
  by-acts k j n place x y (block name) (does s more) low e f g h p q same whole over num m mum within = absurd (cc)
  by-acts k j n place x y (does s more) (block name) low e f g h p q same whole over num m mum within = absurd (cc)
  by-acts k j n place x y (block name) (block other) low e f g h p q same whole over num m mum within =
      blocks-none k j n place (block name) y low (over name g) num f m mum within.0 within.1 within.2 within.3
      (λ o. subst OnlySteps h o)
  by-acts k j n place x y (does s true) (does t more) low e f g h p q same whole over num m mum within =
      absurd (let one = subst (AllByRecursion (λ a. is_whole_act a ≡ true)) g whole in let none = one.0 in cc)
  by-acts k j n place x y (does s false) (does t more) low e f g h p q same whole over num m mum within =
      let next = wholes-next executed k x s e g in
      let later = wholes-later executed (suc k) j (omega (arith, low)) in
      omega (arith, next, later, p, q)

  pub none-later : (k n place : ℕ) (x : InSession Deed) → IsExecutedAt executed k place x
      → IsWholeDeed x.what
      → IsOverAt packages executed k n x
      → n - 1 ≡ place
      → (j : ℕ) (y : InSession Deed) → k < j → IsExecutedAt executed j place y
      → ⊥
  none-later k n place x h whole over num j y low g =
      let a = all k x h.act h.is h.act_is in
      let b = all j y g.act g.is g.act_is in
      let first : a.0 - 1 ≡ place = at k (a.0 - 1) place x a.1 h in
      let second : b.0 - 1 ≡ place = at j (b.0 - 1) place y b.1 g in
      by-acts k j n place x y h.act g.act low h.is g.is h.act_is g.act_is h.place_is g.place_is
      (same-outline a.0 b.0 place h.act g.act a.2 b.2 first second) whole over num b.0 second b.3
    where
      one : (a b : Act) → a ∷ [] ≡ b ∷ [] → a ≡ b
      one a b e = cc

      at : (k p q : ℕ) (x : InSession Deed) → IsExecutedAt executed k p x → IsExecutedAt executed k q x → p ≡ q
      at k p q x h g =
          sym h.place_is
          ∙ ap (λ a. place_behind (join None (deeds_acts (take k executed))) a)
          (one h.act g.act (sym h.act_is ∙ g.act_is)) ∙ g.place_is
