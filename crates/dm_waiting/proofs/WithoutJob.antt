-- Taking the entries of the job out, from the end on.
use Rattle.std.proofs.Common.{◌≡◌, ◌+◌, ◌&&◌, ◌<◌, ◌≤◌, ℕ, zero, suc, Bool, true, false, not, cond, List, [], ◌∷◌, ◌++◌}
use Rattle.std.proofs.Common.{length, take, drop, refl, sym, ap, ◌∙◌, arith, append_assoc}
use Rattle.std.specs.List.{filter, list_all}
use Rattle.std.proofs.lemmas.List.{length-append}
use Rattle.dm_service.specs.Service.{Waiting}
use Rattle.dm_service.specs.Packages.{is_of_job}

abbrev pub others : List Waiting → List Waiting
others = filter (λ w. not (is_of_job w))

none-step : (w : Waiting) (ws : List Waiting) (b : Bool) → (b && list_all is_of_job ws) ≡ true
    → (list_all is_of_job ws ≡ true → others ws ≡ []) → cond (not b) (w ∷ others ws) (others ws) ≡ []
none-step w ws true h f = f h
none-step w ws false h f = absurd (cc)

-- where all are of the job, no others are
none-left : (ws : List Waiting) → list_all is_of_job ws ≡ true → others ws ≡ []
none-left [] h = refl
none-left (w ∷ ws) h = none-step w ws (is_of_job w) h (none-left ws)

others-step : (w : Waiting) (vs ws : List Waiting) (b : Bool) → others (vs ++ ws) ≡ others vs ++ others ws
    → cond b (w ∷ others (vs ++ ws)) (others (vs ++ ws)) ≡ cond b (w ∷ others vs) (others vs) ++ others ws
others-step w vs ws true e = ap (λ (l : List Waiting). w ∷ l) e
others-step w vs ws false e = e

others-both : (vs ws : List Waiting) → others (vs ++ ws) ≡ others vs ++ others ws
others-both [] ws = refl
others-both (v ∷ vs) ws = others-step v vs ws (not (is_of_job v)) (others-both vs ws)

between : (start end : ℕ) (ws : List Waiting) → start ≤ end → drop start ws ≡ drop start (take end ws) ++ drop end ws
between zero zero ws h = refl
between zero (suc end) [] h = refl
between zero (suc end) (w ∷ ws) h = ap (λ (l : List Waiting). w ∷ l) (between zero end ws (omega arith))
between (suc start) zero ws h = absurd (omega (arith, h))
between (suc start) (suc end) [] h = refl
between (suc start) (suc end) (w ∷ ws) h = between start end ws (omega (arith, h))

-- what is left once those behind a place were gone through
abbrev pub left_at : ℕ → List Waiting → List Waiting
left_at at ws = take at ws ++ others (drop at ws)

-- entries of the job before it are given up
pub left_out : (start end : ℕ) (ws : List Waiting) → start ≤ end → list_all is_of_job (drop start (take end ws)) ≡ true
    → others (drop start ws) ≡ others (drop end ws)
left_out start end ws h all =
    ap others (between start end ws h) ∙ others-both (drop start (take end ws)) (drop end ws)
    ∙ ap (λ (l : List Waiting). l ++ others (drop end ws)) (none-left (drop start (take end ws)) all)

-- ---- one step

next-taken : (k end : ℕ) (w : Waiting) (ws : List Waiting) → drop k ws ≡ w ∷ drop (suc k) ws → k < end
    → drop k (take end ws) ≡ w ∷ drop (suc k) (take end ws)
next-taken k zero w ws is h = absurd (omega (arith, h))
next-taken zero (suc end) w [] is h = absurd (cc)
next-taken zero (suc end) w (x ∷ ws) is h =
    let same : x ≡ w = cc in ap (λ (y : Waiting). y ∷ take end ws) same
next-taken (suc k) (suc end) w [] is h = absurd (cc)
next-taken (suc k) (suc end) w (x ∷ ws) is h = next-taken k end w ws is (omega (arith, h))

-- one more entry of the job in front of others
pub one_more : (k start end : ℕ) (w : Waiting) (ws : List Waiting) → start ≡ suc k → start ≤ end
    → drop k ws ≡ w ∷ drop (k + 1) ws → is_of_job w ≡ true → list_all is_of_job (drop start (take end ws)) ≡ true
    → list_all is_of_job (drop k (take end ws)) ≡ true
one_more k start end w ws e h is job all =
    let one : k + 1 ≡ suc k = omega arith in
    let next : drop k ws ≡ w ∷ drop (suc k) ws = is ∙ ap (λ n. w ∷ drop n ws) one in
    ap (list_all is_of_job) (next-taken k end w ws next (omega (arith, e, h)))
    ∙ ap (λ b. b && list_all is_of_job (drop (suc k) (take end ws))) job
    ∙ ap (λ n. list_all is_of_job (drop n (take end ws))) (sym e) ∙ all

pub none_yet : (end : ℕ) (ws : List Waiting) → list_all is_of_job (drop end (take end ws)) ≡ true
none_yet zero ws = refl
none_yet (suc end) [] = refl
none_yet (suc end) (w ∷ ws) = none_yet end ws

taken-long : (at : ℕ) (ws : List Waiting) → at ≤ length ws → length (take at ws) ≡ at
taken-long zero ws h = refl
taken-long (suc at) [] h = absurd (omega (arith, h))
taken-long (suc at) (w ∷ ws) h = ap suc (taken-long at ws (omega (arith, h)))

drop-taken : (at : ℕ) (ws more : List Waiting) → at ≤ length ws → drop at (take at ws ++ more) ≡ more
drop-taken zero ws more h = refl
drop-taken (suc at) [] more h = absurd (omega (arith, h))
drop-taken (suc at) (w ∷ ws) more h = drop-taken at ws more (omega (arith, h))

take-taken : (start at : ℕ) (ws more : List Waiting) → start ≤ at → at ≤ length ws
    → take start (take at ws ++ more) ≡ take start ws
take-taken zero at ws more h k = refl
take-taken (suc start) zero ws more h k = absurd (omega (arith, h))
take-taken (suc start) (suc at) [] more h k = absurd (omega (arith, k))
take-taken (suc start) (suc at) (w ∷ ws) more h k =
    ap (λ (l : List Waiting). w ∷ l) (take-taken start at ws more (omega (arith, h)) (omega (arith, k)))

pub left_long : (at : ℕ) (ws : List Waiting) → at ≤ length ws → at ≤ length (left_at at ws)
left_long at ws h =
    let a = taken-long at ws h in let b = length-append (take at ws) (others (drop at ws)) in omega (arith, a, b)

given-up : (w : Waiting) (ws vs : List Waiting) → vs ≡ w ∷ ws → is_of_job w ≡ true → others vs ≡ others ws
given-up w ws vs is job =
    ap others is ∙ ap (λ b. cond (not b) (w ∷ others ws) (others ws)) job

pub job_step : (k start at : ℕ) (w : Waiting) (ws now new : List Waiting) → at ≡ suc k → start ≤ k → at ≤ length ws
    → now ≡ left_at at ws → drop k ws ≡ w ∷ drop (k + 1) ws → is_of_job w ≡ true
    → list_all is_of_job (drop start (take k ws)) ≡ true
    → new ≡ take start now ++ drop at now → new ≡ left_at start ws
job_step k start at w ws now new e h there is behind job all made =
    let next : k + 1 ≡ at = omega (arith, e) in
    let out : others (drop start ws) ≡ others (drop at ws) =
    left_out start k ws h all
    ∙ given-up w (drop at ws) (drop k ws) (behind ∙ ap (λ n. w ∷ drop n ws) next) job in
    made
    ∙ ap (λ (l : List Waiting). take start l ++ drop at l) is
    ∙ ap (λ (l : List Waiting). l ++ drop at (left_at at ws))
    (take-taken start at ws (others (drop at ws)) (omega (arith, e, h)) there)
    ∙ ap (λ (l : List Waiting). take start ws ++ l) (drop-taken at ws (others (drop at ws)) there)
    ∙ ap (λ (l : List Waiting). take start ws ++ l) (sym out)

take-more : (k : ℕ) (w : Waiting) (ws : List Waiting) → drop k ws ≡ w ∷ drop (suc k) ws
    → take (suc k) ws ≡ take k ws ++ w ∷ []
take-more zero w [] is = absurd (cc)
take-more zero w (x ∷ ws) is = let same : x ≡ w = cc in ap (λ (y : Waiting). y ∷ []) same
take-more (suc k) w [] is = absurd (cc)
take-more (suc k) w (x ∷ ws) is = ap (λ (l : List Waiting). x ∷ l) (take-more k w ws is)

stays : (w : Waiting) (ws vs : List Waiting) → vs ≡ w ∷ ws → is_of_job w ≡ false → others vs ≡ w ∷ others ws
stays w ws vs is job = ap others is ∙ ap (λ b. cond (not b) (w ∷ others ws) (others ws)) job

pub other_step : (k at : ℕ) (w : Waiting) (ws now : List Waiting) → at ≡ suc k → now ≡ left_at at ws
    → drop k ws ≡ w ∷ drop (k + 1) ws → is_of_job w ≡ false → now ≡ left_at k ws
other_step k at w ws now e is behind job =
    let one : k + 1 ≡ suc k = omega arith in
    let next : drop k ws ≡ w ∷ drop (suc k) ws = behind ∙ ap (λ n. w ∷ drop n ws) one in
    is ∙ ap (λ n. left_at n ws) e
    ∙ ap (λ (l : List Waiting). l ++ others (drop (suc k) ws)) (take-more k w ws next)
    ∙ append_assoc (take k ws) (w ∷ []) (others (drop (suc k) ws))
    ∙ ap (λ (l : List Waiting). take k ws ++ l) (sym (stays w (drop (suc k) ws) (drop k ws) next job))
