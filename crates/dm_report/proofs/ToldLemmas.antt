-- What is told of commands, by their codes and the one list of their values.
use Rattle.std.proofs.Common.{None, Some, ◌≡◌, ◌<◌, ◌+◌, ◌==◌, ℕ, zero, suc, Bool, true, false, cond, not, List, []}
use Rattle.std.proofs.Common.{◌∷◌, ◌++◌, refl, sym, ap, ◌∙◌, arith, replicate, get_or, set}
use Rattle.std.proofs.lemmas.List.{append-nil, append_assoc, drop_more}
use Rattle.std.proofs.Common.{length, drop}
use Rattle.std.specs.Prelude.{Option, if◌then◌else◌, is_some, slice_get}
use Rattle.std.specs.List.{list_all}
use Rattle.std.proofs.lemmas.Grind.{common_steps}
use Rattle.syncml_types.specs.declared.command.Step.{Step}
use Rattle.dm_service.specs.Service.{Told}
use Rattle.dm_service.specs.Matching.{untold}
use Rattle.dm_service.specs.Report.{has_code}
use Rattle.dm_report.specs.declared.kept.FoundValue.{FoundValue}
use Rattle.dm_report.specs.declared.drafts.NewCode.{NewCode}
use Rattle.dm_report.specs.Known.{is_within, forgotten_within}
use Rattle.dm_report.specs.Kept.{values_at, told_from, coded_by, codes_without, found_without}

-- ---- codes

pub told-coded : (place : ℕ) (codes : List (Option ℕ)) (found : List FoundValue) (at code : ℕ)
    → told_from place (set codes at (Some code)) found
    ≡ set (told_from place codes found) at
    (record (get_or (told_from place codes found) at untold) { code = Some code })
told-coded place [] found at code = refl
told-coded place (c ∷ cs) found zero code = refl
told-coded place (c ∷ cs) found (suc at) code =
    ap (λ (ts : List Told). record { code = c; found = values_at place found } ∷ ts)
    (told-coded (place + 1) cs found at code)

pub coded_by-push : (new : List NewCode) (c : NewCode) (codes : List (Option ℕ))
    → coded_by (new ++ c ∷ []) codes ≡ set (coded_by new codes) c.place (Some c.code)
coded_by-push [] c codes = refl
coded_by-push (d ∷ ds) c codes = coded_by-push ds c (set codes d.place (Some d.code))

-- ---- values

same-test : (a b : ℕ) → a ≡ b → (a == b) ≡ true
same-test a b e = grind (arith, common_steps)

other-test : (a b : ℕ) → (a < b) → (a == b) ≡ false
other-test a b e = grind (arith, common_steps)

later-test : (a b : ℕ) → (b < a) → (a == b) ≡ false
later-test a b e = grind (arith, common_steps)

values-push : (place : ℕ) (found : List FoundValue) (f : FoundValue) (b : Bool) → (f.place == place) ≡ b
    → values_at place (found ++ f ∷ []) ≡ values_at place found ++ cond b (f.value ∷ []) []
values-push place [] f true e = rw e refl
values-push place [] f false e = rw e refl
values-push place (g ∷ gs) f b e = by_test (g.place == place) (values-push place gs f b e)
  where
    by_test : (t : Bool) → values_at place (gs ++ f ∷ []) ≡ values_at place gs ++ cond b (f.value ∷ []) []
        → cond t (g.value ∷ values_at place (gs ++ f ∷ [])) (values_at place (gs ++ f ∷ []))
        ≡ cond t (g.value ∷ values_at place gs) (values_at place gs) ++ cond b (f.value ∷ []) []
    by_test true k = ap (λ (vs : List Step). g.value ∷ vs) k
    by_test false k = k

values-same : (place : ℕ) (found : List FoundValue) (f : FoundValue) → f.place ≡ place
    → values_at place (found ++ f ∷ []) ≡ values_at place found ++ f.value ∷ []
values-same place found f e = values-push place found f true (same-test f.place place e)

values-other : (place : ℕ) (found : List FoundValue) (f : FoundValue) → (f.place == place) ≡ false
    → values_at place (found ++ f ∷ []) ≡ values_at place found
values-other place found f e = values-push place found f false e ∙ append-nil (values_at place found)

told-earlier : (place : ℕ) (codes : List (Option ℕ)) (found : List FoundValue) (f : FoundValue) → f.place < place
    → told_from place codes (found ++ f ∷ []) ≡ told_from place codes found
told-earlier place [] found f h = refl
told-earlier place (c ∷ cs) found f h =
    let next : f.place < place + 1 = omega arith in
    rw (values-other place found f (other-test f.place place h), told-earlier (place + 1) cs found f next) refl

pub told-found : (place : ℕ) (codes : List (Option ℕ)) (found : List FoundValue) (f : FoundValue) (at : ℕ)
    → f.place ≡ place + at
    → told_from place codes (found ++ f ∷ [])
    ≡ set (told_from place codes found) at (record (get_or (told_from place codes found) at untold) {
      found = (get_or (told_from place codes found) at untold).found ++ f.value ∷ [];
    })
told-found place [] found f at e = refl
told-found place (c ∷ cs) found f zero e =
    let here : f.place ≡ place = omega arith in
    let next : f.place < place + 1 = omega arith in
    rw (values-same place found f here, told-earlier (place + 1) cs found f next) refl
told-found place (c ∷ cs) found f (suc at) e =
    let ahead : place < f.place = omega arith in
    let next : f.place ≡ (place + 1) + at = omega arith in
    rw (values-other place found f (later-test f.place place ahead), told-found (place + 1) cs found f at next) refl

-- ---- nothing told

pub told_replicate : (place count : ℕ) → told_from place (replicate count None) [] ≡ replicate count untold
told_replicate place zero = refl
told_replicate place (suc count) = ap (λ (ts : List Told). untold ∷ ts) (told_replicate (place + 1) count)

-- ---- which commands have their codes

pub told_all_coded : (place : ℕ) (codes : List (Option ℕ)) (found : List FoundValue)
    → list_all has_code (told_from place codes found) ≡ list_all (λ (code : Option ℕ). is_some code) codes
told_all_coded place [] found = refl
told_all_coded place (c ∷ cs) found = rw (told_all_coded (place + 1) cs found) refl

-- ---- a package is given up

place-is : (f : FoundValue) (place : ℕ) → (f.place == place) ≡ true → f.place ≡ place
place-is f place e = grind (arith, common_steps)

values-without : (first count place : ℕ) (found : List FoundValue) (b : Bool)
    → is_within first count (place + 1) ≡ b
    → values_at place (found_without first count found) ≡ cond b [] (values_at place found)
values-without first count place [] true e = refl
values-without first count place [] false e = refl
values-without first count place (f ∷ fs) true e =
    by_tests (f.place == place) (is_within first count (f.place + 1)) refl refl
    (values-without first count place fs true e)
  where
    by_tests : (t u : Bool) → (f.place == place) ≡ t → is_within first count (f.place + 1) ≡ u
        → values_at place (found_without first count fs) ≡ []
        → values_at place (cond (not u) (f ∷ found_without first count fs) (found_without first count fs)) ≡ []
    by_tests t true p q k = k
    by_tests true false p q k = absurd (apart (rw (place-is f place p) at q))
      where
        apart : is_within first count (place + 1) ≡ false → ⊥
        apart h = cc
    by_tests false false p q k = rw p k
values-without first count place (f ∷ fs) false e =
    by_tests (f.place == place) (is_within first count (f.place + 1)) refl refl
    (values-without first count place fs false e)
  where
    by_tests : (t u : Bool) → (f.place == place) ≡ t → is_within first count (f.place + 1) ≡ u
        → values_at place (found_without first count fs) ≡ values_at place fs
        → values_at place (cond (not u) (f ∷ found_without first count fs) (found_without first count fs))
        ≡ cond t (f.value ∷ values_at place fs) (values_at place fs)
    by_tests true true p q k = absurd (apart (rw (place-is f place p) at q))
      where
        apart : is_within first count (place + 1) ≡ true → ⊥
        apart h = cc
    by_tests false true p q k = k
    by_tests true false p q k = rw p (ap (λ (vs : List Step). f.value ∷ vs) k)
    by_tests false false p q k = rw p k

pub told_without : (first count place : ℕ) (codes : List (Option ℕ)) (found : List FoundValue)
    → told_from place (codes_without first count place codes) (found_without first count found)
    ≡ forgotten_within first count (place + 1) (told_from place codes found)
told_without first count place [] found = refl
told_without first count place (c ∷ cs) found =
    by_test (is_within first count (place + 1)) (values-without first count place found _ refl)
    (told_without first count (place + 1) cs found)
  where
    by_test : (b : Bool)
        → values_at place (found_without first count found) ≡ cond b [] (values_at place found)
        → told_from (place + 1) (codes_without first count (place + 1) cs) (found_without first count found)
        ≡ forgotten_within first count (place + 1 + 1) (told_from (place + 1) cs found)
        → told_from place (cond b None c ∷ codes_without first count (place + 1) cs) (found_without first count found)
        ≡ cond b untold (record { code = c; found = values_at place found })
        ∷ forgotten_within first count (place + 1 + 1) (told_from (place + 1) cs found)
    by_test true k l = rw (k, l) refl
    by_test false k l = rw (k, l) refl

-- ---- a place that isn't there

pub set-absent : (codes : List (Option ℕ)) (at : ℕ) (code : Option ℕ) → None ≡ slice_get codes at
    → set codes at code ≡ codes
set-absent [] at code e = refl
set-absent (c ∷ cs) zero code e = absurd (cc)
set-absent (c ∷ cs) (suc at) code e = ap (λ (ds : List (Option ℕ)). c ∷ ds) (set-absent cs at code e)

-- one code more
pub codes-step : (first count at : ℕ) (codes kept next whole : List (Option ℕ)) (d : Option ℕ) → at < length codes
    → next ≡ kept ++ (if is_within first count (at + 1) then None else get_or codes at d) ∷ []
    → kept ++ codes_without first count at (drop at codes) ≡ whole
    → next ++ codes_without first count (at + 1) (drop (at + 1) codes) ≡ whole
codes-step first count at codes kept next whole d h e before =
    rw (e, append_assoc) (
    ap (λ (cs : List (Option ℕ)). kept ++ codes_without first count at cs) (sym (drop_more codes at d h)) ∙ before
    )
