-- The packages of a job that are left, and the one that was queued last.
use Rattle.std.proofs.Common.{◌≡◌, ◌<◌, ◌≤◌, ◌+◌, ◌-◌, ℕ, zero, suc, Bool, true, false, cond, List, []}
use Rattle.std.proofs.Common.{◌∷◌, drop, length, get_or, refl, sym, ap, ◌∙◌, arith, add-one, drop-cons}
use Rattle.std.specs.List.{AllByRecursion}
use Rattle.dm_job.specs.declared.job.Job.{Job}
use Rattle.dm_job.specs.declared.job.JobEntry.{JobEntry}
use Rattle.dm_service.specs.Packages.{package_put_back}

none-left : {A : Type 0} (n : ℕ) (xs : List A) → length xs ≤ n → drop n xs ≡ []
none-left zero [] h = refl
none-left zero (x ∷ xs) h = absurd (omega (arith, h))
none-left (suc n) [] h = refl
none-left (suc n) (x ∷ xs) h = none-left n xs (omega (arith, h))

-- the one at a place stands in front of those behind it
pub next_left : {A : Type 0} (n : ℕ) (xs : List A) (x : A) → n < length xs → x ≡ get_or xs n x
    → drop n xs ≡ x ∷ drop (n + 1) xs
next_left n xs x h e = rw (add-one n) (drop-cons xs n x h ∙ ap (λ y. y ∷ drop (suc n) xs) (sym e))

pub other_default : {A : Type 0} (n : ℕ) (xs : List A) (x d : A) → n < length xs → get_or xs n x ≡ get_or xs n d
other_default n [] x d h = absurd (omega (arith, h))
other_default zero (y ∷ ys) x d h = refl
other_default (suc n) (y ∷ ys) x d h = other_default n ys x d (omega (arith, h))

-- ---- given up

some-put : (p : List JobEntry) (ps : List (List JobEntry)) → 0 < length p → package_put_back p ps ≡ p ∷ ps
some-put [] ps h = absurd (omega (arith, h))
some-put (e ∷ es) ps h = refl

filled-at : (ps : List (List JobEntry)) (n : ℕ) → AllByRecursion (λ (es : List JobEntry). 0 < length es) ps
    → n < length ps → 0 < length (get_or ps n [])
filled-at [] n all h = absurd (omega (arith, h))
filled-at (p ∷ ps) zero all h = all.0
filled-at (p ∷ ps) (suc n) all h = filled-at ps n all.1 (omega (arith, h))

-- the one that was queued last stands in front again
back-step : (ps : List (List JobEntry)) (n : ℕ) → AllByRecursion (λ (es : List JobEntry). 0 < length es) ps → 0 < n
    → n ≤ length ps → drop (n - 1) ps ≡ package_put_back (get_or ps (n - 1) []) (drop n ps)
back-step ps n all some within =
    let low : n - 1 < length ps = omega (arith, some, within) in
    let same : n - 1 + 1 ≡ n = omega (arith, some) in
    next_left (n - 1) ps (get_or ps (n - 1) []) low (other_default (n - 1) ps [] (get_or ps (n - 1) []) low)
    ∙ ap (λ i. get_or ps (n - 1) [] ∷ drop i ps) same
    ∙ sym (some-put (get_or ps (n - 1) []) (drop n ps) (filled-at ps (n - 1) all low))

pub put_back_is : (job : Job) (next : ℕ) (queued : Bool)
    → AllByRecursion (λ (es : List JobEntry). 0 < length es) job.packages → next ≤ length job.packages
    → (queued ≡ true → 0 < next)
    → drop (cond queued (next - 1) next) job.packages
    ≡ package_put_back (cond queued (get_or job.packages (next - 1) []) []) (drop next job.packages)
put_back_is job next true all within behind = back-step job.packages next all (behind refl) within
put_back_is job next false all within behind = refl
