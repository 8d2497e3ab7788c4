-- Going along the chain of a command meets its values, each once and in their order.
use Rattle.std.proofs.Common.{◌≡◌, ◌≢◌, ◌<◌, ◌≤◌, ◌+◌, ◌-◌, ◌==◌, ℕ, zero, suc, Bool, true, false, cond, List, []}
use Rattle.std.proofs.Common.{◌∷◌}
use Rattle.std.proofs.Common.{refl, sym, ap, ◌∙◌, arith, length, drop, get_or, set, subst, inl, inr, ◌⊎◌}
use Rattle.std.proofs.lemmas.Bool.{cases_eq}
use Rattle.std.proofs.lemmas.List.{drop-drop, drop_more, get_or_default, get_or-drop, length-drop}
use Rattle.std.proofs.lemmas.List.{get_or-set_same, get_or-set_other, length-set}
use Rattle.std.proofs.lemmas.Grind.{common_steps}
use Rattle.syncml_types.specs.declared.command.Step.{Step}
use Rattle.dm_report.specs.declared.kept.FoundValue.{FoundValue}
use Rattle.dm_report.specs.Kept.{values_at}
use Rattle.dm_report.specs.Chains.{first_from, next_value, IsChained}

-- ---- the first value of a command

first-behind : (place at : ℕ) (fs : List FoundValue) → at ≤ first_from place at fs
first-behind place at [] = omega arith
first-behind place at (f ∷ fs) = by_test (f.place == place) (first-behind place (at + 1) fs)
  where
    by_test : (b : Bool) → at + 1 ≤ first_from place (at + 1) fs → at ≤ cond b at (first_from place (at + 1) fs)
    by_test true h = omega arith
    by_test false h = omega arith

-- the values of a command are those from its first one on
values-first : (place at : ℕ) (fs : List FoundValue) (n : ℕ) → first_from place at fs ≡ at + n
    → values_at place fs ≡ values_at place (drop n fs)
values-first place at [] zero e = refl
values-first place at [] (suc n) e = refl
values-first place at (f ∷ fs) zero e = refl
values-first place at (f ∷ fs) (suc n) e = by_test (f.place == place) e (values-first place (at + 1) fs n)
  where
    by_test : (b : Bool) → cond b at (first_from place (at + 1) fs) ≡ at + suc n
        → (first_from place (at + 1) fs ≡ (at + 1) + n → values_at place fs ≡ values_at place (drop n fs))
        → cond b (f.value ∷ values_at place fs) (values_at place fs) ≡ values_at place (drop n fs)
    by_test true h k = absurd (omega arith)
    by_test false h k = k (omega arith)

first-met : (place at : ℕ) (fs : List FoundValue) (n : ℕ) (g : FoundValue) → first_from place at fs ≡ at + n
    → n < length fs → g ≡ get_or fs n g → g.place ≡ place
first-met place at [] n g e h i = absurd (omega arith)
first-met place at (f ∷ fs) zero g e h i = by_test (f.place == place) refl e
  where
    by_test : (b : Bool) → (f.place == place) ≡ b → cond b at (first_from place (at + 1) fs) ≡ at + 0
        → g.place ≡ place
    by_test true p q = rw i (grind (arith, common_steps))
    by_test false p q = absurd (omega (arith, first-behind place (at + 1) fs))
first-met place at (f ∷ fs) (suc n) g e h i = by_test (f.place == place) e (first-met place (at + 1) fs n g)
  where
    by_test : (b : Bool) → cond b at (first_from place (at + 1) fs) ≡ at + suc n
        → (first_from place (at + 1) fs ≡ (at + 1) + n → n < length fs → g ≡ get_or fs n g → g.place ≡ place)
        → g.place ≡ place
    by_test true q k = absurd (omega arith)
    by_test false q k = k (omega arith) (omega arith) i

-- ---- from a position on

pub next-behind : (place at : ℕ) (found : List FoundValue) → at ≤ next_value place at found
next-behind place at found = first-behind place at (drop at found)

pub values-next : (place at : ℕ) (found : List FoundValue)
    → values_at place (drop at found) ≡ values_at place (drop (next_value place at found) found)
values-next place at found =
    let n = next_value place at found - at in
    let e : next_value place at found ≡ at + n = omega (arith, next-behind place at found) in
    values-first place at (drop at found) n e
    ∙ ap (λ (fs : List FoundValue). values_at place fs) (drop-drop n at found)
    ∙ ap (λ (i : ℕ). values_at place (drop i found)) (sym e)

pub next-met : (place at : ℕ) (found : List FoundValue) (f : FoundValue)
    → next_value place at found < length found → f ≡ get_or found (next_value place at found) f → f.place ≡ place
next-met place at found f h i =
    let n = next_value place at found - at in
    let e : next_value place at found ≡ at + n = omega (arith, next-behind place at found) in
    let short : n < length (drop at found) = omega (arith, length-drop at found) in
    let here : f ≡ get_or (drop at found) n f =
    i ∙ ap (λ (k : ℕ). get_or found k f) e ∙ sym (get_or-drop at found n f) in
    first-met place at (drop at found) n f e short here

-- one value, and those behind it
pub values-step : (place at : ℕ) (found : List FoundValue) (f : FoundValue) → at < length found
    → f ≡ get_or found at f → f.place ≡ place
    → values_at place (drop at found)
    ≡ f.value ∷ values_at place (drop (next_value f.place (at + 1) found) found)
values-step place at found f h i e =
    let met : (f.place == place) ≡ true = grind (arith, common_steps) in
    ap (λ (fs : List FoundValue). values_at place fs)
    (drop_more found at f h ∙ ap (λ (g : FoundValue). g ∷ drop (at + 1) found) (sym i))
    ∙ rw met refl
    ∙ ap (λ (vs : List Step). f.value ∷ vs)
    (values-next place (at + 1) found
    ∙ ap (λ (p : ℕ). values_at place (drop (next_value p (at + 1) found) found)) (sym e))

-- ---- chaining one value more

front-of : (found : List FoundValue) (at : ℕ) (f : FoundValue) → at < length found → f ≡ get_or found at f
    → drop at found ≡ f ∷ drop (at + 1) found
front-of found at f h i = drop_more found at f h ∙ ap (λ (g : FoundValue). g ∷ drop (at + 1) found) (sym i)

next-here : (place at : ℕ) (found : List FoundValue) (f : FoundValue) → at < length found → f ≡ get_or found at f
    → f.place ≡ place → next_value place at found ≡ at
next-here place at found f h i e =
    let met : (f.place == place) ≡ true = grind (arith, common_steps) in
    rw (front-of found at f h i, met) refl

next-other : (place at : ℕ) (found : List FoundValue) (f : FoundValue) → at < length found → f ≡ get_or found at f
    → f.place ≢ place → next_value place at found ≡ next_value place (at + 1) found
next-other place at found f h i e =
    let unmet : (f.place == place) ≡ false = grind (arith, common_steps) in
    rw (front-of found at f h i, unmet) refl

read-same : (found : List FoundValue) (j at : ℕ) (g f : FoundValue) → j ≡ at → at < length found
    → g ≡ get_or found j g → f ≡ get_or found at f → g ≡ f
read-same found j at g f p h e i =
    e ∙ ap (λ (k : ℕ). get_or found k g) p ∙ get_or_default found at g f h ∙ sym i

pub chained-more : (found : List FoundValue) (at : ℕ) (f : FoundValue) (first next : List ℕ) → at < length found
    → f ≡ get_or found at f → f.place < length first → IsChained found (at + 1) first next
    → IsChained found at (set first f.place at) (set next at (get_or first f.place 0))
chained-more found at f first next h i within c = record {
  room = length-set next at (get_or first f.place 0) ∙ c.room;
  begins = λ place l. begun place (rw length-set at l) (cases_eq place f.place);
  goes_on = λ j g from short e l. gone j g from short e (rw length-set at l) (cases_eq j at);
}
  where
    begun : (place : ℕ) → place < length first → (place ≡ f.place) ⊎ (place ≢ f.place)
        → get_or (set first f.place at) place 0 ≡ next_value place at found
    begun place l (inl e) =
        rw e (get_or-set_same first f.place at 0 within ∙ sym (next-here f.place at found f h i refl))
    begun place l (inr apart) =
        get_or-set_other first f.place place at 0 apart ∙ c.begins place l
        ∙ sym (next-other place at found f h i (λ e. apart (sym e)))

    gone : (j : ℕ) (g : FoundValue) → at ≤ j → j < length found → g ≡ get_or found j g → g.place < length first
        → (j ≡ at) ⊎ (j ≢ at)
        → get_or (set next at (get_or first f.place 0)) j 0 ≡ next_value g.place (j + 1) found
    gone j g from short e l (inl p) =
        let room : at < length next = omega (arith, c.room) in
        let same : g ≡ f = read-same found j at g f p h e i in
        rw (p, same) (get_or-set_same next at (get_or first f.place 0) 0 room ∙ c.begins f.place within)
    gone j g from short e l (inr apart) =
        get_or-set_other next at j (get_or first f.place 0) 0 apart
        ∙ c.goes_on j g (omega arith) short e l

pub chained-apart : (found : List FoundValue) (at : ℕ) (f : FoundValue) (first next : List ℕ) → at < length found
    → f ≡ get_or found at f → length first ≤ f.place → IsChained found (at + 1) first next
    → IsChained found at first next
chained-apart found at f first next h i beyond c = record {
  room = c.room;
  begins = λ place l. c.begins place l ∙ sym (next-other place at found f h i (omega arith));
  goes_on = λ j g from short e l. gone j g from short e l (cases_eq j at);
}
  where
    gone : (j : ℕ) (g : FoundValue) → at ≤ j → j < length found → g ≡ get_or found j g → g.place < length first
        → (j ≡ at) ⊎ (j ≢ at) → get_or next j 0 ≡ next_value g.place (j + 1) found
    gone j g from short e l (inl p) =
        let same : g.place ≡ f.place = ap (λ (v : FoundValue). v.place) (read-same found j at g f p h e i) in
        absurd (omega arith)
    gone j g from short e l (inr apart) = c.goes_on j g (omega arith) short e l

-- ---- going along

-- what the first of a command's values promises
pub chain-starts : (found : List FoundValue) (first next : List ℕ) (place : ℕ) → IsChained found 0 first next
    → place < length first
    → (values_at place (drop (get_or first place 0) found) ≡ values_at place found)
    × ((f : FoundValue) → get_or first place 0 < length found → f ≡ get_or found (get_or first place 0) f
    → f.place ≡ place)
chain-starts found first next place c h =
    let e : get_or first place 0 ≡ next_value place 0 found = c.begins place h in (
      ap (λ (at : ℕ). values_at place (drop at found)) e ∙ sym (values-next place 0 found),
      λ f l i. next-met place 0 found f (subst (λ at. at < length found) e l)
          (i ∙ ap (λ (at : ℕ). get_or found at f) e),
    )

pub chain-goes-on : (found : List FoundValue) (first next : List ℕ) (place at : ℕ) (f : FoundValue)
    → IsChained found 0 first next → place < length first → at < length found → f ≡ get_or found at f
    → f.place ≡ place
    → (values_at place (drop at found) ≡ f.value ∷ values_at place (drop (get_or next at 0) found))
    × (at < get_or next at 0)
    × ((g : FoundValue) → get_or next at 0 < length found → g ≡ get_or found (get_or next at 0) g → g.place ≡ place)
chain-goes-on found first next place at f c h l i e =
    let inside : f.place < length first = omega arith in
    let p : get_or next at 0 ≡ next_value f.place (at + 1) found = c.goes_on at f (omega arith) l i inside in (
      values-step place at found f l i e
          ∙ ap (λ (n : ℕ). f.value ∷ values_at place (drop n found)) (sym p),
      omega (arith, p, next-behind f.place (at + 1) found),
      λ g short j. next-met f.place (at + 1) found g (subst (λ n. n < length found) p short)
          (j ∙ ap (λ (n : ℕ). get_or found n g) p) ∙ e,
    )
