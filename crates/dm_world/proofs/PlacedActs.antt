-- What was executed for a place is what the job has there, or a part of it.
use Rattle.std.proofs.Common.{zero, suc, ◌≡◌, ◌+◌, ◌-◌, ℕ, Bool, true, false, List, [], ◌∷◌, ◌++◌}
use Rattle.std.proofs.Common.{length, take, map, Option, None, Some, IfSome, refl, sym, ◌∙◌, ap, subst, arith}
use Rattle.std.proofs.Common.{append_assoc}
use Rattle.std.specs.Prelude.{slice_get}
use Rattle.std.specs.List.{AllByRecursion, Contains}
use Rattle.std.proofs.lemmas.List.{length-map, append-nil}
use Rattle.syncml_types.specs.declared.command.Step.{Step}
use Rattle.syncml_parts.specs.Numbering.{ids_in}
use Rattle.dm_job.specs.declared.job.JobEntry.{JobEntry}
use Rattle.dm_job.specs.Sound.{CanBeSent, AreNumbered, all_entries}
use Rattle.dm_world.specs.Acts.{Act, block, does, Joined, and_then, with_more, is_part_of, join, command_acts}
use Rattle.dm_world.specs.Acts.{doing_acts, deeds_acts, entries_acts, job_acts}
use Rattle.dm_world.specs.Deeds.{Deed}
use Rattle.dm_world.specs.World.{InSession, run}
use Rattle.dm_world.specs.Start.{at_start}
use Rattle.dm_world.specs.Order.{IsNext}
use Rattle.dm_world.specs.Commands.{outline, outlines, IsJobAct}
use Rattle.dm_world.specs.Places.{place_behind, IsPartOfAct, PlacesAreTheJobs}
use Rattle.dm_world.proofs.Lists.{either}
use Rattle.dm_world.proofs.Joins.{join-append}
use Rattle.dm_world.proofs.Executes.{done-append}
use Rattle.dm_world.proofs.InOrder.{AreWhole, whole-behind, job-whole, runs_in_order}
use Rattle.dm_world.proofs.Outlines.{job-each, acts-long}
use Rattle.dm_world.proofs.RowTaken.{AllPlaced}
use Rattle.dm_world.proofs.RowWorld.{all-rows}

-- ---- what the job has under a number

get-behind : {A : Type 0} (a b : List A) (i : ℕ) (x : A) → slice_get b i ≡ Some x
    → slice_get (a ++ b) (length a + i) ≡ Some x
get-behind [] b i x h = subst (λ k. slice_get b k ≡ Some x) (let e : i ≡ 0 + i = omega arith in e) h
get-behind (y ∷ a) b i x h =
    subst (λ k. slice_get (y ∷ (a ++ b)) k ≡ Some x)
    (let e : suc (length a + i) ≡ length (y ∷ a) + i = omega arith in e) (get-behind a b i x h)

get-front : {A : Type 0} (a b : List A) (i : ℕ) (x : A) → slice_get a i ≡ Some x → slice_get (a ++ b) i ≡ Some x
get-front [] b i x h = cc
get-front (y ∷ a) b zero x h = h
get-front (y ∷ a) b (suc i) x h = get-front a b i x h

-- of what has this outline
pub record HasOutline (xs : List Act) (i : ℕ) (a : Act) : Type 0 where
  pub act : Act
  pub at : slice_get xs i ≡ Some act
  pub outline_is : outline act ≡ a

unlined : (xs : List Act) (i : ℕ) (a : Act) → slice_get (map outline xs) i ≡ Some a → HasOutline xs i a
unlined [] i a h = cc
unlined (x ∷ xs) zero a h = record { act = x; at = refl; outline_is = cc }
unlined (x ∷ xs) (suc i) a h =
    let r = unlined xs i a h in record { act = r.act; at = r.at; outline_is = r.outline_is }

entry-at : (es : List JobEntry) (n : ℕ) (e : JobEntry) (i : ℕ) (a : Act) → AreNumbered n es
    → AllByRecursion CanBeSent es
    → Contains es e
    → slice_get (outlines e.command) i ≡ Some a
    → (j : ℕ) × (e.number + i ≡ n + j) × HasOutline (entries_acts es) j a
entry-at [] n e i a numbered h (k, low, at) x = absurd (omega (arith, low))
entry-at (f ∷ es) n e i a numbered h (zero, low, at) x =
    let r = unlined (command_acts f.command) i a
    (subst (λ (g : JobEntry). slice_get (outlines g.command) i ≡ Some a) (sym at) x) in
    let number = numbered.0 in
    let same = ap (λ (g : JobEntry). g.number) at in (
      i,
      omega (arith, number, same),
      record {
        act = r.act;
        at = get-front (command_acts f.command) (entries_acts es) i r.act r.at;
        outline_is = r.outline_is;
      },
    )
entry-at (f ∷ es) n e i a numbered h (suc k, low, at) x =
    let r = entry-at es (n + ids_in f.command) e i a numbered.1 h.1 (k, omega (arith, low), at) x in
    let long : length (command_acts f.command) ≡ ids_in f.command =
    sym (length-map (command_acts f.command) outline) ∙ acts-long f.command (job-each f.command h.0.steps) in
    let is = r.1 in
    let o = r.2 in (
      length (command_acts f.command) + r.0,
      omega (arith, long, is),
      record {
        act = o.act;
        at = get-behind (command_acts f.command) (entries_acts es) r.0 o.act o.at;
        outline_is = o.outline_is;
      },
    )

pub job-at : (packages : List (List JobEntry)) (n : ℕ) (a : Act) → AreNumbered 1 (all_entries packages)
    → AllByRecursion CanBeSent (all_entries packages)
    → IsJobAct packages n a
    → HasOutline (job_acts packages) (n - 1) a
job-at packages n a numbered h x =
    let r = entry-at (all_entries packages) 1 x.entry x.at a numbered h x.within x.act_is in
    let is = r.1 in
    let number = x.number_is in
    subst (λ k. HasOutline (job_acts packages) k a) (let e : r.0 ≡ n - 1 = omega (arith, is, number) in e) r.2

-- ---- the value

-- the first of these is a step whose value has these bytes
abbrev Holds : List ℕ → List Act → Type 0
Holds v [] = ⊥
Holds v (block name ∷ xs) = ⊥
Holds v (does s more ∷ xs) = (before : List ℕ) × (later : List ℕ) × (before ++ v ++ later ≡ s.value)

held-more : (v w : List ℕ) (xs : List Act) → (before : List ℕ) × (later : List ℕ) × (before ++ w ++ later ≡ v)
    → Holds v xs
    → Holds w xs
held-more v w [] p h = h
held-more v w (block name ∷ xs) p h = h
held-more v w (does s more ∷ xs) p h = (
  h.0 ++ p.0,
  p.1 ++ h.1,
  ap (λ l. l ++ (p.1 ++ h.1)) (append_assoc h.0 p.0 w) ∙ append_assoc h.0 (p.0 ++ w) (p.1 ++ h.1)
      ∙ ap (λ l. h.0 ++ l) (sym (append_assoc (p.0 ++ w) p.1 h.1)) ∙ ap (λ l. h.0 ++ (l ++ h.1)) p.2
      ∙ sym (append_assoc h.0 v h.1) ∙ h.2,
)

front-held : (v more : List ℕ) → (before : List ℕ) × (later : List ℕ) × (before ++ v ++ later ≡ v ++ more)
front-held v more = ([], more, refl)

-- a step of which a part has come holds it, where the job goes on with what was begun
part-held : (q : Step) (xs rest : List Act) → AreWhole ((join (Some q) xs).whole ++ rest)
    → IfSome (join (Some q) xs).part (IsNext rest)
    → Holds q.value ((join (Some q) xs).whole ++ rest)
part-held q [] [] w n = absurd n
part-held q [] (block name ∷ rest) w n = absurd n
part-held q [] (does s more ∷ rest) w n = ([], n.0, sym (ap (λ (t : Step). t.value) n.1))
part-held q (block name ∷ xs) rest w n = part-held q xs rest w n
part-held q (does s true ∷ xs) rest w n =
    either (λ (j : Joined). AreWhole (j.whole ++ rest) → IfSome j.part (IsNext rest) → Holds q.value (j.whole ++ rest))
    (is_part_of q s) {x = join (Some (with_more q s)) xs} {y = and_then (does q true) (join (Some s) xs)}
    (λ v m. held-more (q.value ++ s.value) q.value ((join (Some (with_more q s)) xs).whole ++ rest)
    (front-held q.value s.value) (part-held (with_more q s) xs rest v m)) (λ v m. absurd v) w n
part-held q (does s false ∷ xs) rest w n =
    either (λ (j : Joined). AreWhole (j.whole ++ rest) → IfSome j.part (IsNext rest) → Holds q.value (j.whole ++ rest))
    (is_part_of q s) {x = and_then (does (with_more q s) false) (join None xs)}
    {y = and_then (does q true) (and_then (does s false) (join None xs))} (λ v m. front-held q.value s.value)
    (λ v m. absurd v) w n

behind-held : (q v : List ℕ) → (before : List ℕ) × (later : List ℕ) × (before ++ v ++ later ≡ q ++ v)
behind-held q v = (q, [], append-nil (q ++ v))

-- so does one that comes now
now-held : (part : Option Step) (s : Step) (more : Bool) (xs rest : List Act)
    → AreWhole ((join part (does s more ∷ xs)).whole ++ rest)
    → IfSome (join part (does s more ∷ xs)).part (IsNext rest)
    → Holds s.value ((join part (does s more ∷ xs)).whole ++ rest)
now-held None s true xs rest w n = part-held s xs rest w n
now-held None s false xs rest w n = ([], [], append-nil s.value)
now-held (Some q) s true xs rest w n =
    either (λ (j : Joined). AreWhole (j.whole ++ rest) → IfSome j.part (IsNext rest) → Holds s.value (j.whole ++ rest))
    (is_part_of q s) {x = join (Some (with_more q s)) xs} {y = and_then (does q true) (join (Some s) xs)}
    (λ v m. held-more (q.value ++ s.value) s.value ((join (Some (with_more q s)) xs).whole ++ rest)
    (behind-held q.value s.value) (part-held (with_more q s) xs rest v m)) (λ v m. absurd v) w n
now-held (Some q) s false xs rest w n =
    either (λ (j : Joined). AreWhole (j.whole ++ rest) → IfSome j.part (IsNext rest) → Holds s.value (j.whole ++ rest))
    (is_part_of q s) {x = and_then (does (with_more q s) false) (join None xs)}
    {y = and_then (does q true) (and_then (does s false) (join None xs))} (λ v m. behind-held q.value s.value)
    (λ v m. absurd v) w n

-- ---- at a place

held-at : (a b : List Act) (v : List ℕ) (act : Act) → Holds v b → slice_get (a ++ b) (length a) ≡ Some act
    → Holds v (act ∷ [])
held-at [] [] v act h e = absurd h
held-at [] (block name ∷ b) v act h e = absurd h
held-at [] (does s more ∷ b) v act h e = let same : does s more ≡ act = cc in subst (λ x. Holds v (x ∷ [])) same h
held-at (y ∷ a) b v act h e = held-at a b v act h e

split-done : (executed : List (InSession Deed)) (k : ℕ) (x : InSession Deed) → slice_get executed k ≡ Some x
    → (behind : List (InSession Deed)) × (executed ≡ take k executed ++ x ∷ behind)
split-done [] k x e = cc
split-done (y ∷ ys) zero x e = let same : y ≡ x = cc in (ys, ap (λ z. z ∷ ys) same)
split-done (y ∷ ys) (suc k) x e = let r = split-done ys k x e in (r.0, ap (λ l. y ∷ l) r.1)

-- the value of a step that was executed is within that of the job's
value-at : (job : List Act) (executed behind : List (InSession Deed)) (k : ℕ) (x : InSession Deed) (s : Step)
    (more : Bool) (rest : List Act) (act : Act) → AreWhole job
    → executed ≡ take k executed ++ x ∷ behind
    → doing_acts x.what.doing ≡ does s more ∷ []
    → (join None (deeds_acts executed)).whole ++ rest ≡ job
    → IfSome (join None (deeds_acts executed)).part (IsNext rest)
    → slice_get job (length (join None (deeds_acts (take k executed))).whole) ≡ Some act
    → Holds s.value (act ∷ [])
value-at job executed behind k x s more rest act whole split is order next at =
    let done = deeds_acts (take k executed) in
    let j = join None done in
    let xs = deeds_acts behind in
    let acts-are : deeds_acts executed ≡ done ++ does s more ∷ xs =
    ap deeds_acts split ∙ done-append (take k executed) (x ∷ behind) ∙ ap (λ l. done ++ (l ++ xs)) is in
    let all = ap (join None) acts-are ∙ join-append None done (does s more ∷ xs) in
    let r = join j.part (does s more ∷ xs) in
    let job-is : j.whole ++ (r.whole ++ rest) ≡ job =
    sym (append_assoc j.whole r.whole rest) ∙ ap (λ (z : Joined). z.whole ++ rest) (sym all) ∙ order in
    held-at j.whole (r.whole ++ rest) s.value act
    (now-held j.part s more xs rest (whole-behind j.whole (r.whole ++ rest) (subst AreWhole (sym job-is) whole))
    (subst (λ o. IfSome o (IsNext rest)) (ap (λ (z : Joined). z.part) all) next))
    (subst (λ l. slice_get l (length j.whole) ≡ Some act) (sym job-is) at)

-- ---- the law

part-of : (a b : Act) → outline b ≡ outline a → ((s : Step) (more : Bool) → a ≡ does s more → Holds s.value (b ∷ []))
    → IsPartOfAct b a
part-of (block name) (block other) e h = cc
part-of (block name) (does s more) e h = absurd (cc)
part-of (does s more) (block name) e h = absurd (cc)
part-of (does t rest) (does s more) e h =
    let v = h t rest refl in
    let same : record s { value = [] } ≡ record t { value = [] } = cc in
    (v.0, v.1, v.2, sym (ap (λ (z : Step). record z { value = s.value }) same))

pub places_are_the_jobs : PlacesAreTheJobs
places_are_the_jobs c job hs k place x start range h =
    let w = run (at_start c job) hs in
    let all : AllPlaced job.packages w.executed = (all-rows c job hs start range).done in
    let r = all k x h.act h.is h.act_is in
    let o = job-at job.packages r.0 (outline h.act) start.sound.numbered start.sound.entries r.2 in
    let order = runs_in_order c job hs start range in
    let same : h.act ≡ r.1.act = one h.act r.1.act (sym h.act_is ∙ r.1.act_is) in
    let here : r.0 - 1 ≡ place =
    sym r.1.place_is ∙ ap (λ a. place_behind (join None (deeds_acts (take k w.executed))) a) (sym same) ∙ h.place_is in
    let at = subst (λ p. slice_get (job_acts job.packages) p ≡ Some o.act) here o.at in
    let split = split-done w.executed k x h.is in
    record {
      act = h.act;
      act_is = h.act_is;
      whole = o.act;
      at = at;
      part = part-of h.act o.act o.outline_is
          (λ s more e. value-at (job_acts job.packages) w.executed split.0 k x s more order.rest o.act
          (job-whole c job start) split.1 (h.act_is ∙ ap (λ a. a ∷ []) e) order.in_order order.next
          (subst (λ p. slice_get (job_acts job.packages) p ≡ Some o.act)
          (sym (ap (λ a. place_behind (join None (deeds_acts (take k w.executed))) a) (sym e) ∙ h.place_is)) at));
    }
  where
    one : (a b : Act) → a ∷ [] ≡ b ∷ [] → a ≡ b
    one a b e = cc
