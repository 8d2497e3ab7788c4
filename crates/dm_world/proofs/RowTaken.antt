-- What the client executes of the server's newest message is executed at the places of its numbers.
use Rattle.std.proofs.Common.{zero, suc, ◌≡◌, ◌<◌, ◌≤◌, ◌+◌, ◌-◌, ℕ, true, false, List, [], ◌∷◌, ◌++◌, length, take}
use Rattle.std.proofs.Common.{Option, None, Some, refl, sym, ◌∙◌, ap, subst, arith, ◌⊎◌, inl, inr, append_assoc}
use Rattle.std.specs.Prelude.{slice_get}
use Rattle.std.specs.List.{Contains}
use Rattle.std.proofs.lemmas.List.{length-append, take-append-le}
use Rattle.std.proofs.lemmas.Option.{slice_get_within}
use Rattle.syncml_types.specs.declared.command.Step.{Step}
use Rattle.dm_atomic.specs.declared.tasks.Named.{Named}
use Rattle.dm_atomic.specs.declared.tasks.Work.TheVariants as work
use Rattle.dm_job.specs.declared.job.JobEntry.{JobEntry}
use Rattle.dm_job.specs.Sound.{all_entries}
use Rattle.dm_service.specs.declared.sent.Sent.{Sent}
use Rattle.dm_world.specs.Deeds.{Doing, container, step, Deed}
use Rattle.dm_world.specs.Acts.{Act, block, does, Joined, and_then, with_more, is_part_of, doing_acts, deeds_acts, join}
use Rattle.dm_world.specs.World.{InSession, each_in_session}
use Rattle.dm_world.specs.Commands.{outline, outlines, IsJobAct}
use Rattle.dm_world.specs.Places.{place_behind, IsExecutedAt}
use Rattle.dm_world.proofs.Lists.{either}
use Rattle.dm_world.proofs.Joins.{join-append}
use Rattle.dm_world.proofs.Executes.{deed_acts, deeds-append, done-append, session-deeds}
use Rattle.dm_world.proofs.Position.{Whole}
use Rattle.dm_world.proofs.InOrder.{AreWhole}
use Rattle.dm_world.proofs.Rising.{Rises}
use Rattle.dm_world.proofs.Rows.{RowAct, at-row, low-row, closed-row}
use Rattle.dm_world.proofs.RowEntries.{WholeSteps, OnlySteps, steps-only}
use Rattle.dm_world.proofs.RowSent.{ClosesAt, InsideOf, RowSent, AllActs, all-at}
use Rattle.dm_world.proofs.Stay.{places-stay, in-both, get-here, take-here}

abbrev pub wholes_of : List (InSession Deed) → ℕ
wholes_of executed = length (join None (deeds_acts executed)).whole

-- behind what was executed as the k-th, steps alone were executed before the i-th
abbrev pub AreStepsBetween : List (InSession Deed) → ℕ → ℕ → Type 0
AreStepsBetween executed k i =
    (j : ℕ) (z : InSession Deed) → k < j → j < i → slice_get executed j ≡ Some z → OnlySteps (doing_acts z.what.doing)

-- The entry of the job with this number was executed to its end, and behind what was executed as the k-th came nothing
-- but its steps.
pub record IsOver (packages : List (List JobEntry)) (executed : List (InSession Deed)) (k n : ℕ) : Type 0 where
  pub end : ℕ
  pub within : end ≤ length executed
  pub steps : AreStepsBetween executed k end
  pub entry : JobEntry
  pub of_job : Contains (all_entries packages) entry
  pub number : n ≡ entry.number
  pub all : n + length (outlines entry.command) ≤ 1 + wholes_of (take end executed)

-- a container that was executed is
abbrev pub IsOverAt : List (List JobEntry) → List (InSession Deed) → ℕ → ℕ → InSession Deed → Type 0
IsOverAt packages executed k n x =
    (name : Named) → doing_acts x.what.doing ≡ block name ∷ [] → IsOver packages executed k n

-- whatever was executed in a session under the numbers of a command that is noted as sent was executed at its place,
-- and where it counts no part of it is left
abbrev pub IsPlaced : List (List JobEntry) → List (InSession Deed) → ℕ → Sent → Type 0
IsPlaced packages executed n y =
    (k : ℕ) (x : InSession Deed) → slice_get executed k ≡ Some x → x.session ≡ n → x.what.post.msg ≡ y.msg
    → x.what.post.command ≡ y.command
    → IsExecutedAt executed k (y.number - 1) x × (y.counts ≡ true → IsOverAt packages executed k y.number x)

pub over-later : (packages : List (List JobEntry)) (executed more : List (InSession Deed)) (k n : ℕ)
    → IsOver packages executed k n
    → IsOver packages (executed ++ more) k n
over-later packages executed more k n h =
    let low = h.within in
    let long = length-append executed more in
    record {
      end = h.end;
      within = omega (arith, low, long);
      steps = λ j z a b e. of j z a b (in-both executed more j z e);
      entry = h.entry;
      of_job = h.of_job;
      number = h.number;
      all = subst (λ l. n + length (outlines h.entry.command) ≤ 1 + wholes_of l)
          (sym (take-append-le h.end executed more low)) h.all;
    }
  where
    of : (j : ℕ) (z : InSession Deed) → k < j → j < h.end
        → (slice_get executed j ≡ Some z) ⊎ ((i : ℕ) × (j ≡ length executed + i) × (slice_get more i ≡ Some z))
        → OnlySteps (doing_acts z.what.doing)
    of j z a b (inl e) = h.steps j z a b e
    of j z a b (inr e) = absurd (let is = e.1 in let low = h.within in omega (arith, b, is, low))

-- ---- one of some that rise

above-at : (k end : ℕ) (ds : List Deed) (i : ℕ) (x : Deed) → Rises k end ds → slice_get ds i ≡ Some x
    → k ≤ x.post.command
above-at k end [] i x h e = cc
above-at k end (d ∷ ds) zero x h e = subst (λ (y : Deed). k ≤ y.post.command) (let z : d ≡ x = cc in z) h.0
above-at k end (d ∷ ds) (suc i) x h e =
    let above = above-at (suc d.post.command) end ds i x h.1 e in
    let first = h.0 in
    omega (arith, above, first)

-- it stands where its CmdID does
rises-at : (k end : ℕ) (before : List Deed) (d : Deed) (behind : List Deed) (i : ℕ) (x : Deed)
    → Rises k end (before ++ d ∷ behind)
    → slice_get (before ++ d ∷ behind) i ≡ Some x → x.post.command ≡ d.post.command
    → (i ≡ length before) × (d ≡ x)
rises-at k end [] d behind zero x h e f = (refl, (let z : d ≡ x = cc in z))
rises-at k end [] d behind (suc i) x h e f =
    absurd (let above = above-at (suc d.post.command) end behind i x h.1 e in omega (arith, above, f))
rises-at k end (b ∷ before) d behind zero x h e f =
    absurd (let same : b ≡ x = cc in
    let is = ap (λ (y : Deed). y.post.command) same in
    let above = above-at (suc b.post.command) end (before ++ d ∷ behind) (length before) d h.1
    (get-here before behind d) in omega (arith, above, is, f))
rises-at k end (b ∷ before) d behind (suc i) x h e f =
    let y = rises-at (suc b.post.command) end before d behind i x h.1 e f in (ap suc y.0, y.1)

session-append : (n : ℕ) (a b : List Deed) → each_in_session n (a ++ b) ≡ each_in_session n a ++ each_in_session n b
session-append n [] b = refl
session-append n (x ∷ a) b = ap (λ l. record { session = n; what = x } ∷ l) (session-append n a b)

session-long : (n : ℕ) (a : List Deed) → length (each_in_session n a) ≡ length a
session-long n [] = refl
session-long n (x ∷ a) = ap suc (session-long n a)

pub session-get : (n : ℕ) (ds : List Deed) (i : ℕ) (x : InSession Deed) → slice_get (each_in_session n ds) i ≡ Some x
    → (x.session ≡ n) × (slice_get ds i ≡ Some x.what)
session-get n [] i x e = cc
session-get n (d ∷ ds) zero x e =
    let same : record { session = n; what = d } ≡ x = cc in
    (sym (ap (λ (y : InSession Deed). y.session) same), ap (λ (y : InSession Deed). Some y.what) same)
session-get n (d ∷ ds) (suc i) x e = session-get n ds i x e

not-none : (a b : List Act) (x : Act) → a ++ x ∷ b ≡ [] → ⊥
not-none [] b x h = cc
not-none (y ∷ a) b x h = cc

-- ---- a message

take-in : (executed : List (InSession Deed)) (n : ℕ) (before behind : List Deed) (d : Deed)
    → take (length executed + length before) (executed ++ each_in_session n (before ++ d ∷ behind))
    ≡ executed ++ each_in_session n before
take-in executed n before behind d =
    let long = length-append executed (each_in_session n before) in
    let same = session-long n before in
    let e : length executed + length before ≡ length (executed ++ each_in_session n before) = omega (arith, long, same) in
    ap (λ l. take (length executed + length before) (executed ++ l)) (session-append n before (d ∷ behind))
    ∙ ap (take (length executed + length before))
    (sym (append_assoc executed (each_in_session n before) (each_in_session n (d ∷ behind))))
    ∙ ap (λ k. take k ((executed ++ each_in_session n before) ++ each_in_session n (d ∷ behind))) e
    ∙ take-here (executed ++ each_in_session n before) (each_in_session n (d ∷ behind))

-- the act at which a message has come, in the equation
whole-at : (job done rest : List Act) (before behind : List Deed) (d : Deed) (a : Act) → doing_acts d.doing ≡ a ∷ []
    → (deed_acts (before ++ d ∷ behind) ≡ []) ⊎ Whole job ((done ++ deed_acts (before ++ d ∷ behind)) ++ rest)
    → Whole job ((done ++ deed_acts before) ++ a ∷ (deed_acts behind ++ rest))
whole-at job done rest before behind d a e (inl h) =
    absurd (not-none (deed_acts before) (deed_acts behind) a
    (sym (deeds-append before (d ∷ behind) ∙ ap (λ l. deed_acts before ++ (l ++ deed_acts behind)) e) ∙ h))
whole-at job done rest before behind d a e (inr h) =
    subst (Whole job)
    (ap (λ l. (done ++ l) ++ rest) (deeds-append before (d ∷ behind))
    ∙ ap (λ l. (done ++ (deed_acts before ++ (l ++ deed_acts behind))) ++ rest) e
    ∙ ap (λ l. l ++ rest) (sym (append_assoc done (deed_acts before) (a ∷ deed_acts behind)))
    ∙ append_assoc (done ++ deed_acts before) (a ∷ deed_acts behind) rest) h

abbrev pub Comes : List Act → List Act → List (InSession Deed) → List Deed → Type 0
Comes job rest executed ds = (deed_acts ds ≡ []) ⊎ Whole job ((deeds_acts executed ++ deed_acts ds) ++ rest)

-- what has a number in the job is executed at its place
pub placed-at : (job rest : List Act) (executed : List (InSession Deed)) (n : ℕ) (before : List Deed) (d : Deed)
    (behind : List Deed) (a : Act) (number : ℕ) (x : InSession Deed) → AreWhole job
    → Comes job rest executed (before ++ d ∷ behind)
    → doing_acts d.doing ≡ a ∷ []
    → RowAct job number a (deed_acts behind ++ rest)
    → d ≡ x.what
    → slice_get (executed ++ each_in_session n (before ++ d ∷ behind)) (length executed + length before) ≡ Some x
    → IsExecutedAt (executed ++ each_in_session n (before ++ d ∷ behind)) (length executed + length before) (number - 1) x
placed-at job rest executed n before d behind a number x all e is row same at =
    let done = deeds_acts executed in
    let whole = whole-at job done rest before behind d a is e in
    let k = at-row job (done ++ deed_acts before) (deed_acts behind ++ rest) a number whole all row in
    record {
      is = at;
      act = a;
      act_is = ap (λ (d : Deed). doing_acts d.doing) (sym same) ∙ is;
      place_is =
          ap (λ l. place_behind (join None (deeds_acts l)) a) (take-in executed n before behind d)
          ∙ ap (λ l. place_behind (join None l) a)
          (done-append executed (each_in_session n before) ∙ ap (λ l. done ++ l) (session-deeds n before))
          ∙ omega (arith, k);
    }

-- ---- a container to its end

none-closes : (steps : List Act) → WholeSteps steps → (join None steps).part ≡ None
none-closes [] h = refl
none-closes (block name ∷ xs) h = absurd h
none-closes (does s true ∷ xs) h = absurd h
none-closes (does s false ∷ xs) h = none-closes xs h

whole-closes : (o : Option Step) (steps : List Act) → WholeSteps steps → 0 < length steps → (join o steps).part ≡ None
whole-closes o [] h some = absurd (omega (arith, some))
whole-closes o (block name ∷ xs) h some = absurd h
whole-closes o (does s true ∷ xs) h some = absurd h
whole-closes None (does s false ∷ xs) h some = none-closes xs h
whole-closes (Some q) (does s false ∷ xs) h some =
    either (λ (j : Joined). j.part ≡ None) (is_part_of q s) {x = and_then (does (with_more q s) false) (join None xs)}
    {y = and_then (does q true) (and_then (does s false) (join None xs))} (none-closes xs h) (none-closes xs h)

one-or-none : (d : Deed) → (doing_acts d.doing ≡ []) ⊎ ((a : Act) × (doing_acts d.doing ≡ a ∷ []))
one-or-none d = by d.doing
  where
    by : (x : Doing) → (doing_acts x ≡ []) ⊎ ((a : Act) × (doing_acts x ≡ a ∷ []))
    by (container name) = inr (block name, refl)
    by (step (work.Piece p)) = inr (does p.step p.more, refl)
    by (step (work.Alert code)) = inl refl

-- the deeds whose acts come first
record FirstDeeds (ds : List Deed) (xs : List Act) : Type 0 where
  first : List Deed
  others : List Deed
  are : ds ≡ first ++ others
  acts_are : deed_acts first ≡ xs

first-deeds : (ds : List Deed) (xs ys : List Act) → deed_acts ds ≡ xs ++ ys → FirstDeeds ds xs
first-deeds ds [] ys e = record { first = []; others = ds; are = refl; acts_are = refl }
first-deeds [] (a ∷ xs) ys e = absurd (cc)
first-deeds (d ∷ ds) (a ∷ xs) ys e = by (λ zs f. first-deeds ds zs ys f) (one-or-none d)
  where
    by : ((zs : List Act) → deed_acts ds ≡ zs ++ ys → FirstDeeds ds zs)
        → (doing_acts d.doing ≡ []) ⊎ ((b : Act) × (doing_acts d.doing ≡ b ∷ []))
        → FirstDeeds (d ∷ ds) (a ∷ xs)
    by later (inl none) =
        let r = later (a ∷ xs) (sym (ap (λ l. l ++ deed_acts ds) none) ∙ e) in
        record {
          first = d ∷ r.first;
          others = r.others;
          are = ap (λ l. d ∷ l) r.are;
          acts_are = ap (λ l. l ++ deed_acts r.first) none ∙ r.acts_are;
        }
    by later (inr one) =
        let both : one.0 ∷ deed_acts ds ≡ a ∷ (xs ++ ys) = sym (ap (λ l. l ++ deed_acts ds) one.1) ∙ e in
        let same : one.0 ≡ a = cc in
        let rest : deed_acts ds ≡ xs ++ ys = cc in
        let r = later xs rest in
        record {
          first = d ∷ r.first;
          others = r.others;
          are = ap (λ l. d ∷ l) r.are;
          acts_are = ap (λ l. l ++ deed_acts r.first) one.1 ∙ ap (λ b. b ∷ deed_acts r.first) same
              ∙ ap (λ l. a ∷ l) r.acts_are;
        }

only-first : (xs ys : List Act) → OnlySteps (xs ++ ys) → OnlySteps xs
only-first [] ys h = tt
only-first (block name ∷ xs) ys h = absurd h
only-first (does s more ∷ xs) ys h = only-first xs ys h

only-behind : (xs ys : List Act) → OnlySteps (xs ++ ys) → OnlySteps ys
only-behind [] ys h = h
only-behind (block name ∷ xs) ys h = absurd h
only-behind (does s more ∷ xs) ys h = only-behind xs ys h

deed-only : (ds : List Deed) (i : ℕ) (d : Deed) → OnlySteps (deed_acts ds) → slice_get ds i ≡ Some d
    → OnlySteps (doing_acts d.doing)
deed-only [] i d h e = cc
deed-only (x ∷ ds) zero d h e =
    let same : x ≡ d = cc in
    subst (λ (y : Deed). OnlySteps (doing_acts y.doing)) same (only-first (doing_acts x.doing) (deed_acts ds) h)
deed-only (x ∷ ds) (suc i) d h e = deed-only ds i d (only-behind (doing_acts x.doing) (deed_acts ds) h) e

-- what stands in the first of three lists, in the second, or behind it
in-second : (a b c : List (InSession Deed)) (j : ℕ) (z : InSession Deed) → slice_get (a ++ (b ++ c)) j ≡ Some z
    → length a ≤ j → j < length a + length b
    → (i : ℕ) × (slice_get b i ≡ Some z)
in-second a b c j z e low high = by (in-both a (b ++ c) j z e)
  where
    of : (i : ℕ) → j ≡ length a + i
        → (slice_get b i ≡ Some z) ⊎ ((k : ℕ) × (i ≡ length b + k) × (slice_get c k ≡ Some z))
        → (i : ℕ) × (slice_get b i ≡ Some z)
    of i is (inl f) = (i, f)
    of i is (inr f) = absurd (let more = f.1 in omega (arith, more, is, high))

    by : (slice_get a j ≡ Some z) ⊎ ((i : ℕ) × (j ≡ length a + i) × (slice_get (b ++ c) i ≡ Some z))
        → (i : ℕ) × (slice_get b i ≡ Some z)
    by (inl f) = absurd (let less = slice_get_within a j z f in omega (arith, less, low))
    by (inr f) = of f.0 f.1 (in-both b c f.0 z f.2)

pub over-now : (packages : List (List JobEntry)) (job rest : List Act) (executed : List (InSession Deed)) (n : ℕ)
    (before : List Deed) (d : Deed) (behind : List Deed) (name : Named) (number : ℕ) → AreWhole job
    → Comes job rest executed (before ++ d ∷ behind)
    → doing_acts d.doing ≡ block name ∷ []
    → ClosesAt packages job number (block name) (deed_acts behind) rest
    → IsOver packages (executed ++ each_in_session n (before ++ d ∷ behind)) (length executed + length before) number
over-now packages job rest executed n before d behind name number all e is h =
    let steps = h.0 in
    let more = h.1 in
    let r = first-deeds behind steps more h.2 in
    let done = deeds_acts executed in
    let head = executed ++ each_in_session n (before ++ d ∷ []) in
    let mid = each_in_session n r.first in
    let tail = each_in_session n r.others in
    let split : executed ++ each_in_session n (before ++ d ∷ behind) ≡ head ++ (mid ++ tail) =
    ap (λ l. executed ++ each_in_session n l) (sym (append_assoc before (d ∷ []) behind))
    ∙ ap (λ l. executed ++ l) (session-append n (before ++ d ∷ []) behind)
    ∙ sym (append_assoc executed (each_in_session n (before ++ d ∷ [])) (each_in_session n behind))
    ∙ ap (λ l. head ++ each_in_session n l) r.are ∙ ap (λ l. head ++ l) (session-append n r.first r.others) in
    let long = length-append executed (each_in_session n (before ++ d ∷ [])) in
    let mine = session-long n (before ++ d ∷ []) in
    let one = length-append before (d ∷ []) in
    let two = session-long n r.first in
    let three = ap length split ∙ length-append head (mid ++ tail) in
    let four = length-append mid tail in
    let until : length executed + length before + 1 + length r.first ≡ length (head ++ mid) =
    (let both = length-append head mid in omega (arith, long, mine, one, two, both)) in
    let whole = whole-at job done rest before behind d (block name) is e in
    let upto = (done ++ deed_acts before) ++ block name ∷ steps in
    let all-is : Whole job (upto ++ (more ++ rest)) =
    subst (Whole job)
    (ap (λ l. (done ++ deed_acts before) ++ block name ∷ (l ++ rest)) h.2
    ∙ ap (λ l. (done ++ deed_acts before) ++ block name ∷ l) (append_assoc steps more rest)
    ∙ sym (append_assoc (done ++ deed_acts before) (block name ∷ steps) (more ++ rest))) whole in
    let closed : (join None upto).part ≡ None =
    ap (λ l. (join None l).part) (sym (append_assoc (done ++ deed_acts before) (block name ∷ []) steps))
    ∙ ap (λ (j : Joined). j.part) (join-append None ((done ++ deed_acts before) ++ block name ∷ []) steps)
    ∙ whole-closes (join None ((done ++ deed_acts before) ++ block name ∷ [])).part steps h.3 h.4 in
    let count = closed-row job upto (more ++ rest) all-is all closed in
    let acts-are : deeds_acts (head ++ mid) ≡ upto =
    done-append head mid
    ∙ ap (λ l. l ++ deeds_acts mid)
    (done-append executed (each_in_session n (before ++ d ∷ []))
    ∙ ap (λ l. done ++ l) (session-deeds n (before ++ d ∷ []) ∙ deeds-append before (d ∷ [])
    ∙ ap (λ l. deed_acts before ++ (l ++ [])) is))
    ∙ ap (λ l. (done ++ (deed_acts before ++ block name ∷ [])) ++ l) (session-deeds n r.first ∙ r.acts_are)
    ∙ ap (λ l. l ++ steps) (sym (append_assoc done (deed_acts before) (block name ∷ [])))
    ∙ append_assoc (done ++ deed_acts before) (block name ∷ []) steps in
    let of-job = h.8 in
    subst (λ l. IsOver packages l (length executed + length before) number) (sym split)
    (record {
      end = length executed + length before + 1 + length r.first;
      within = (let all-long = length-append head (mid ++ tail) in omega (arith, long, mine, one, two, four, all-long));
      steps = λ j z a b f.
          (let i = in-second head mid tail j z f (omega (arith, a, long, mine, one))
          (omega (arith, b, long, mine, one, two)) in
          deed-only r.first i.0 z.what (subst OnlySteps (sym r.acts_are) (steps-only steps h.3))
          (session-get n r.first i.0 z i.1).1);
      entry = h.5;
      of_job = h.6;
      number = h.7;
      all =
          (let same : wholes_of (take (length executed + length before + 1 + length r.first) (head ++ (mid ++ tail)))
          ≡ length (join None upto).whole =
          ap (λ k. wholes_of (take k (head ++ (mid ++ tail)))) until
          ∙ ap (λ l. wholes_of (take (length (head ++ mid)) l)) (sym (append_assoc head mid tail))
          ∙ ap wholes_of (take-here (head ++ mid) tail) ∙ ap (λ l. length (join None l).whole) acts-are in
          omega (arith, same, count, of-job));
    })

pub placed-in : (packages : List (List JobEntry)) (job rest : List Act) (executed : List (InSession Deed)) (n end : ℕ)
    (ds : List Deed) (msg : ℕ) (y : Sent) (i : ℕ) (x : InSession Deed) → AreWhole job
    → Rises 1 end ds
    → RowSent packages job ds rest msg y
    → Comes job rest executed ds
    → slice_get (executed ++ each_in_session n ds) (length executed + i) ≡ Some x
    → slice_get ds i ≡ Some x.what
    → x.what.post.command ≡ y.command
    → IsExecutedAt (executed ++ each_in_session n ds) (length executed + i) (y.number - 1) x
    × (y.counts ≡ true → IsOverAt packages (executed ++ each_in_session n ds) (length executed + i) y.number x)
placed-in packages job rest executed n end ds msg y i x all rise row e is at f =
    let same = row.are in
    let here =
    rises-at 1 end row.before row.deed row.behind i x.what (subst (Rises 1 end) same rise)
    (subst (λ l. slice_get l i ≡ Some x.what) same at) (f ∙ sym row.command_is) in
    let comes = subst (Comes job rest executed) same e in
    subst
    (λ l. IsExecutedAt (executed ++ each_in_session n l) (length executed + i) (y.number - 1) x
    × (y.counts ≡ true → IsOverAt packages (executed ++ each_in_session n l) (length executed + i) y.number x)) (sym same)
    (subst
    (λ k. IsExecutedAt (executed ++ each_in_session n (row.before ++ row.deed ∷ row.behind)) (length executed + k)
    (y.number - 1) x
    × (y.counts ≡ true → IsOverAt packages (executed ++ each_in_session n (row.before ++ row.deed ∷ row.behind))
    (length executed + k) y.number x)) (sym here.0) (
      placed-at job rest executed n row.before row.deed row.behind row.act y.number x all comes row.act_is row.row
          here.1
          (subst
          (λ k. slice_get (executed ++ each_in_session n (row.before ++ row.deed ∷ row.behind))
          (length executed + k) ≡ Some x)
          here.0 (subst (λ l. slice_get (executed ++ each_in_session n l) (length executed + i) ≡ Some x) same is)),
      λ counts name block-is.
          (let acts = ap (λ (d : Deed). doing_acts d.doing) here.1 ∙ block-is in
          let act : row.act ≡ block name = one row.act (block name) (sym row.act_is ∙ acts) in
          over-now packages job rest executed n row.before row.deed row.behind name y.number all comes acts
          (subst (λ a. ClosesAt packages job y.number a (deed_acts row.behind) rest) act (row.closes counts))),
    ))
  where
    one : (a b : Act) → a ∷ [] ≡ b ∷ [] → a ≡ b
    one a b e = cc

-- ---- whatever was executed was

-- behind so many acts that are whole a container comes before the end of its entry
abbrev pub IsWithin : List (List JobEntry) → ℕ → ℕ → Act → Type 0
IsWithin packages done n (does s more) = Unit {0}
IsWithin packages done n (block name) =
    (e : JobEntry) × Contains (all_entries packages) e × (n ≡ e.number)
    × (done + 1 < n + length (outlines e.command))

-- each act that was executed is the one that the job has at its place, but for its value
abbrev pub AllPlaced : List (List JobEntry) → List (InSession Deed) → Type 0
AllPlaced packages executed =
    (k : ℕ) (x : InSession Deed) (a : Act) → slice_get executed k ≡ Some x → doing_acts x.what.doing ≡ a ∷ []
    → (n : ℕ) × IsExecutedAt executed k (n - 1) x × IsJobAct packages n (outline a)
    × IsWithin packages (wholes_of (take k executed)) n a

split-at : (ds : List Deed) (i : ℕ) (d : Deed) → slice_get ds i ≡ Some d
    → (before : List Deed) × (behind : List Deed) × (ds ≡ before ++ d ∷ behind) × (i ≡ length before)
split-at [] i d e = cc
split-at (x ∷ ds) zero d e = let same : x ≡ d = cc in ([], ds, ap (λ y. y ∷ ds) same, refl)
split-at (x ∷ ds) (suc i) d e =
    let rest = split-at ds i d e in (x ∷ rest.0, rest.1, ap (λ l. x ∷ l) rest.2, ap suc rest.3)

within-now : (packages : List (List JobEntry)) (job before xs : List Act) (a : Act) (n : ℕ)
    → Whole job (before ++ a ∷ xs)
    → AreWhole job
    → RowAct job n a xs
    → InsideOf packages job n a xs
    → IsWithin packages (length (join None before).whole) n a
within-now packages job before xs (does s more) n e w row h = tt
within-now packages job before xs (block name) n e w row h =
    let low = low-row job before xs name e w row.0 in
    let high = h.3 in (h.0, h.1, h.2, omega (arith, low, high))

pub all-placed : (packages : List (List JobEntry)) (job rest : List Act) (executed : List (InSession Deed)) (n : ℕ)
    (ds : List Deed) → AreWhole job
    → AllActs packages job (deed_acts ds) rest
    → Comes job rest executed ds
    → AllPlaced packages executed
    → AllPlaced packages (executed ++ each_in_session n ds)
all-placed packages job rest executed n ds whole all e old k x a is acts =
    by (in-both executed (each_in_session n ds) k x is)
  where
    by : (slice_get executed k ≡ Some x)
        ⊎ ((i : ℕ) × (k ≡ length executed + i) × (slice_get (each_in_session n ds) i ≡ Some x))
        → (m : ℕ) × IsExecutedAt (executed ++ each_in_session n ds) k (m - 1) x × IsJobAct packages m (outline a)
        × IsWithin packages (wholes_of (take k (executed ++ each_in_session n ds))) m a
    by (inl g) =
        let h = old k x a g acts in
        let low = slice_get_within executed k x g in (
          h.0,
          places-stay executed (each_in_session n ds) k (h.0 - 1) x h.1,
          h.2,
          subst (λ l. IsWithin packages (wholes_of l) h.0 a)
              (sym (take-append-le k executed (each_in_session n ds) (omega (arith, low)))) h.3,
        )
    by (inr g) =
        let s = split-at ds g.0 x.what (session-get n ds g.0 x g.2).1 in
        let before = s.0 in
        let behind = s.1 in
        let all-acts : deed_acts ds ≡ deed_acts before ++ a ∷ deed_acts behind =
        ap deed_acts s.2 ∙ deeds-append before (x.what ∷ behind)
        ∙ ap (λ l. deed_acts before ++ (l ++ deed_acts behind)) acts in
        let h = all-at packages job (deed_acts before) (deed_acts behind) rest a
        (subst (λ l. AllActs packages job l rest) all-acts all) in
        let here : k ≡ length executed + length before = g.1 ∙ ap (λ i. length executed + i) s.3 in (
          h.0,
          subst (λ j. IsExecutedAt (executed ++ each_in_session n ds) j (h.0 - 1) x) (sym here)
              (subst (λ l. IsExecutedAt (executed ++ each_in_session n l) (length executed + length before) (h.0 - 1) x)
              (sym s.2)
              (placed-at job rest executed n before x.what behind a h.0 x whole (subst (Comes job rest executed) s.2 e)
              acts h.1 refl
              (subst (λ l. slice_get (executed ++ each_in_session n l) (length executed + length before) ≡ Some x) s.2
              (subst (λ j. slice_get (executed ++ each_in_session n ds) j ≡ Some x) here is)))),
          h.2,
          subst (λ j. IsWithin packages (wholes_of (take j (executed ++ each_in_session n ds))) h.0 a) (sym here)
              (subst (λ l. IsWithin packages (wholes_of (take (length executed + length before) (executed
              ++ each_in_session n l))) h.0 a) (sym s.2)
              (subst (λ l. IsWithin packages (wholes_of l) h.0 a) (sym (take-in executed n before behind x.what))
              (subst (λ l. IsWithin packages (length (join None l).whole) h.0 a)
              (sym (done-append executed (each_in_session n before)
              ∙ ap (λ l. deeds_acts executed ++ l) (session-deeds n before)))
              (within-now packages job (deeds_acts executed ++ deed_acts before) (deed_acts behind ++ rest) a h.0
              (whole-at job (deeds_acts executed) rest before behind x.what a acts
              (subst (Comes job rest executed) s.2 e)) whole h.1 h.3)))),
        )
