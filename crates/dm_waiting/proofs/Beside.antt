-- Entries beside what each carries.
use Rattle.std.proofs.Common.{◌≡◌, ◌≤◌, ◌||◌, ◌+◌, ◌-◌, ℕ, zero, suc, false, List, [], ◌∷◌, ◌++◌, map, length}
use Rattle.std.proofs.Common.{take, drop, IfSome, refl, sym, ap, subst, ◌∙◌, arith}
use Rattle.std.specs.Prelude.{is_some}
use Rattle.std.specs.List.{list_any}
use Rattle.syncml_types.specs.declared.command.Command.{Command}
use Rattle.dm_pack.specs.Entries.{Entry, whole_entry, rest_of}
use Rattle.dm_pack.specs.Filling.{next_rest, left_after}
use Rattle.dm_service.specs.Service.{Waiting}
use Rattle.dm_service.specs.Packages.{is_of_job}
use Rattle.dm_service.specs.Sending.{carried_on}
use Rattle.dm_waiting.specs.declared.loads.Load.{Load}
use Rattle.dm_waiting.specs.Held.{IsSmall}
use Rattle.dm_waiting.specs.Inside.{list_of, AreBeside, first_begun}

pub beside_long : (es : List Entry) (ls : List Load) → AreBeside es ls → length ls ≡ length es
beside_long [] [] h = refl
beside_long [] (l ∷ ls) h = absurd h
beside_long (e ∷ es) [] h = absurd h
beside_long (e ∷ es) (l ∷ ls) h = ap suc (beside_long es ls h.2)

pub list_long : (es : List Entry) (ls : List Load) → AreBeside es ls → length (list_of es ls) ≡ length es
list_long [] ls h = refl
list_long (e ∷ es) [] h = absurd h
list_long (e ∷ es) (l ∷ ls) h = ap suc (list_long es ls h.2)

pub entries_list : (es : List Entry) (ls : List Load) → AreBeside es ls
    → map (λ (w : Waiting). w.entry) (list_of es ls) ≡ es
entries_list [] ls h = refl
entries_list (e ∷ es) [] h = absurd h
entries_list (e ∷ es) (l ∷ ls) h = ap (λ (x : List Entry). e ∷ x) (entries_list es ls h.2)

-- of a list that is seen so
pub long_of : (es : List Entry) (ls : List Load) (ws : List Waiting) → AreBeside es ls → list_of es ls ≡ ws
    → length es ≡ length ws
long_of es ls ws h is = sym (list_long es ls h) ∙ ap length is

pub loads_long : (es : List Entry) (ls : List Load) (ws : List Waiting) → AreBeside es ls → list_of es ls ≡ ws
    → length ls ≡ length ws
loads_long es ls ws h is = beside_long es ls h ∙ long_of es ls ws h is

pub entries_are : (es : List Entry) (ls : List Load) (ws : List Waiting) → AreBeside es ls → list_of es ls ≡ ws
    → map (λ (w : Waiting). w.entry) ws ≡ es
entries_are es ls ws h is = ap (map (λ (w : Waiting). w.entry)) (sym is) ∙ entries_list es ls h

-- ---- behind one another

pub list_both : (es fs : List Entry) (ls ms : List Load) → AreBeside es ls
    → list_of (es ++ fs) (ls ++ ms) ≡ list_of es ls ++ list_of fs ms
list_both [] fs [] ms h = refl
list_both [] fs (l ∷ ls) ms h = absurd h
list_both (e ∷ es) fs [] ms h = absurd h
list_both (e ∷ es) fs (l ∷ ls) ms h =
    ap (λ (x : List Waiting). record { entry = e; carries = l.carries } ∷ x) (list_both es fs ls ms h.2)

pub beside_both : (es fs : List Entry) (ls ms : List Load) → AreBeside es ls → AreBeside fs ms
    → AreBeside (es ++ fs) (ls ++ ms)
beside_both [] fs [] ms h k = k
beside_both [] fs (l ∷ ls) ms h k = absurd h
beside_both (e ∷ es) fs [] ms h k = absurd h
beside_both (e ∷ es) fs (l ∷ ls) ms h k = (h.0, h.1, beside_both es fs ls ms h.2 k)

-- ---- some of them

pub beside_take : (n : ℕ) (es : List Entry) (ls : List Load) → AreBeside es ls → AreBeside (take n es) (take n ls)
beside_take zero es ls h = tt
beside_take (suc n) [] [] h = tt
beside_take (suc n) [] (l ∷ ls) h = absurd h
beside_take (suc n) (e ∷ es) [] h = absurd h
beside_take (suc n) (e ∷ es) (l ∷ ls) h = (h.0, h.1, beside_take n es ls h.2)

pub beside_drop : (n : ℕ) (es : List Entry) (ls : List Load) → AreBeside es ls → AreBeside (drop n es) (drop n ls)
beside_drop zero es ls h = h
beside_drop (suc n) [] [] h = tt
beside_drop (suc n) [] (l ∷ ls) h = absurd h
beside_drop (suc n) (e ∷ es) [] h = absurd h
beside_drop (suc n) (e ∷ es) (l ∷ ls) h = beside_drop n es ls h.2

pub list_take : (n : ℕ) (es : List Entry) (ls : List Load) → AreBeside es ls
    → list_of (take n es) (take n ls) ≡ take n (list_of es ls)
list_take zero es ls h = refl
list_take (suc n) [] [] h = refl
list_take (suc n) [] (l ∷ ls) h = absurd h
list_take (suc n) (e ∷ es) [] h = absurd h
list_take (suc n) (e ∷ es) (l ∷ ls) h =
    ap (λ (x : List Waiting). record { entry = e; carries = l.carries } ∷ x) (list_take n es ls h.2)

pub list_drop : (n : ℕ) (es : List Entry) (ls : List Load) → AreBeside es ls
    → list_of (drop n es) (drop n ls) ≡ drop n (list_of es ls)
list_drop zero es ls h = refl
list_drop (suc n) [] [] h = refl
list_drop (suc n) [] (l ∷ ls) h = absurd h
list_drop (suc n) (e ∷ es) [] h = absurd h
list_drop (suc n) (e ∷ es) (l ∷ ls) h = list_drop n es ls h.2

-- ---- what is left behind a message

beside-marked : (n : ℕ) (es : List Entry) (ls : List Load) → AreBeside es ls → AreBeside (next_rest n es) (first_begun n ls)
unfolding rest_of
beside-marked zero es ls h = h
beside-marked (suc n) [] [] h = tt
beside-marked (suc n) [] (l ∷ ls) h = absurd h
beside-marked (suc n) (e ∷ es) [] h = absurd h
beside-marked (suc n) (e ∷ es) (l ∷ ls) h = (refl, h.1, h.2)

pub beside_left : (whole n : ℕ) (es : List Entry) (ls : List Load) → AreBeside es ls
    → AreBeside (left_after es whole n) (first_begun n (drop whole ls))
unfolding left_after
beside_left whole n es ls h = beside-marked n (drop whole es) (drop whole ls) (beside_drop whole es ls h)

same-carried : (es : List Entry) (ls : List Load) → AreBeside es ls → list_of es ls ≡ carried_on es (list_of es ls)
same-carried [] ls h = refl
same-carried (e ∷ es) [] h = absurd h
same-carried (e ∷ es) (l ∷ ls) h =
    ap (λ (x : List Waiting). record { entry = e; carries = l.carries } ∷ x) (same-carried es ls h.2)

list-marked : (n : ℕ) (es : List Entry) (ls : List Load) → AreBeside es ls
    → list_of (next_rest n es) (first_begun n ls) ≡ carried_on (next_rest n es) (list_of es ls)
list-marked zero es ls h = same-carried es ls h
list-marked (suc n) [] [] h = refl
list-marked (suc n) [] (l ∷ ls) h = absurd h
list-marked (suc n) (e ∷ es) [] h = absurd h
list-marked (suc n) (e ∷ es) (l ∷ ls) h =
    ap (λ (x : List Waiting). record { entry = rest_of e (suc n); carries = l.carries } ∷ x) (same-carried es ls h.2)

pub list_left : (whole n : ℕ) (es : List Entry) (ls : List Load) → AreBeside es ls
    → list_of (left_after es whole n) (first_begun n (drop whole ls))
    ≡ carried_on (left_after es whole n) (drop whole (list_of es ls))
unfolding left_after
list_left whole n es ls h =
    list-marked n (drop whole es) (drop whole ls) (beside_drop whole es ls h)
    ∙ ap (carried_on (next_rest n (drop whole es))) (list_drop whole es ls h)

-- ---- seen so, behind an edit

pub beside_same : (es fs : List Entry) (ls ms : List Load) → fs ≡ es → ms ≡ ls → AreBeside es ls → AreBeside fs ms
beside_same es fs ls ms e f h = subst (λ x. AreBeside fs x) (sym f) (subst (λ x. AreBeside x ls) (sym e) h)

pub list_same : (es fs : List Entry) (ls ms : List Load) (ws : List Waiting) → fs ≡ es → ms ≡ ls → list_of es ls ≡ ws
    → list_of fs ms ≡ ws
list_same es fs ls ms ws e f is = ap (list_of fs) f ∙ ap (λ x. list_of x ls) e ∙ is

pub beside_pushed : (es fs : List Entry) (ls ms : List Load) (c : Command) (l : Load) → fs ≡ es ++ whole_entry c ∷ []
    → ms ≡ ls ++ l ∷ [] → l.begun ≡ false → IfSome l.carries IsSmall → AreBeside es ls → AreBeside fs ms
beside_pushed es fs ls ms c l e f begun small h =
    beside_same (es ++ whole_entry c ∷ []) fs (ls ++ l ∷ []) ms e f
    (beside_both es (whole_entry c ∷ []) ls (l ∷ []) h (begun, small, tt))

pub list_pushed : (es fs : List Entry) (ls ms : List Load) (ws : List Waiting) (c : Command) (l : Load)
    → fs ≡ es ++ whole_entry c ∷ [] → ms ≡ ls ++ l ∷ [] → AreBeside es ls → list_of es ls ≡ ws
    → list_of fs ms ≡ ws ++ record { entry = whole_entry c; carries = l.carries } ∷ []
list_pushed es fs ls ms ws c l e f h is =
    list_same (es ++ whole_entry c ∷ []) fs (ls ++ l ∷ []) ms _ e f
    (list_both es (whole_entry c ∷ []) ls (l ∷ []) h
    ∙ ap (λ (x : List Waiting). x ++ record { entry = whole_entry c; carries = l.carries } ∷ []) is)

pub jobs_any : (es : List Entry) (ls : List Load) (ws : List Waiting) → AreBeside es ls → list_of es ls ≡ ws
    → list_any (λ (l : Load). is_some l.carries) ls ≡ list_any is_of_job ws
jobs_any es ls ws h is = any-jobs es ls h ∙ ap (list_any is_of_job) is
  where
    any-jobs : (es : List Entry) (ls : List Load) → AreBeside es ls
        → list_any (λ (l : Load). is_some l.carries) ls ≡ list_any is_of_job (list_of es ls)
    any-jobs [] [] h = refl
    any-jobs [] (l ∷ ls) h = absurd h
    any-jobs (e ∷ es) [] h = absurd h
    any-jobs (e ∷ es) (l ∷ ls) h = ap (λ b. is_some l.carries || b) (any-jobs es ls h.2)

-- those between two places are given up
pub beside_out : (start end : ℕ) (es fs : List Entry) (ls ms : List Load) → start ≤ end
    → fs ≡ take start es ++ drop (start + (end - start)) es → ms ≡ take start ls ++ drop end ls → AreBeside es ls
    → AreBeside fs ms
beside_out start end es fs ls ms low e f h =
    let same : start + (end - start) ≡ end = omega (arith, low) in
    beside_same (take start es ++ drop end es) fs (take start ls ++ drop end ls) ms
    (e ∙ ap (λ n. take start es ++ drop n es) same) f
    (beside_both (take start es) (drop end es) (take start ls) (drop end ls) (beside_take start es ls h)
    (beside_drop end es ls h))

pub list_out : (start end : ℕ) (es fs : List Entry) (ls ms : List Load) (ws : List Waiting) → start ≤ end
    → fs ≡ take start es ++ drop (start + (end - start)) es → ms ≡ take start ls ++ drop end ls → AreBeside es ls
    → list_of es ls ≡ ws → list_of fs ms ≡ take start ws ++ drop end ws
list_out start end es fs ls ms ws low e f h is =
    let same : start + (end - start) ≡ end = omega (arith, low) in
    list_same (take start es ++ drop end es) fs (take start ls ++ drop end ls) ms _
    (e ∙ ap (λ n. take start es ++ drop n es) same) f
    (list_both (take start es) (drop end es) (take start ls) (drop end ls) (beside_take start es ls h)
    ∙ ap (λ (x : List Waiting). x ++ list_of (drop end es) (drop end ls)) (list_take start es ls h)
    ∙ ap (λ (x : List Waiting). take start (list_of es ls) ++ x) (list_drop end es ls h)
    ∙ ap (λ (x : List Waiting). take start x ++ drop end x) is)

-- the first ones, and those behind so many others
pub beside_kept : (front count : ℕ) (es fs gs : List Entry) (ls ms ns : List Load)
    → fs ≡ take 0 es ++ drop (0 + front) es → gs ≡ take count fs → ms ≡ drop front ls → ns ≡ take count ms
    → AreBeside es ls → AreBeside gs ns
beside_kept front count es fs gs ls ms ns e f g k h =
    let same : 0 + front ≡ front = omega arith in
    beside_same (take count fs) gs (take count ms) ns f k
    (beside_take count fs ms
    (beside_same (drop front es) fs (drop front ls) ms (e ∙ ap (λ n. drop n es) same) g (beside_drop front es ls h)))

pub list_kept : (front count : ℕ) (es fs gs : List Entry) (ls ms ns : List Load) (ws : List Waiting)
    → fs ≡ take 0 es ++ drop (0 + front) es → gs ≡ take count fs → ms ≡ drop front ls → ns ≡ take count ms
    → AreBeside es ls → list_of es ls ≡ ws → list_of gs ns ≡ take count (drop front ws)
list_kept front count es fs gs ls ms ns ws e f g k h is =
    let same : 0 + front ≡ front = omega arith in
    let entries : fs ≡ drop front es = e ∙ ap (λ n. drop n es) same in
    list_same (take count (drop front es)) gs (take count (drop front ls)) ns _ (f ∙ ap (take count) entries)
    (k ∙ ap (take count) g)
    (list_take count (drop front es) (drop front ls) (beside_drop front es ls h)
    ∙ ap (take count) (list_drop front es ls h ∙ ap (drop front) is))

-- what a message holds is taken off
pub beside_taken : (whole n : ℕ) (es fs : List Entry) (ls ms ns : List Load) → fs ≡ left_after es whole n
    → ms ≡ drop whole ls → ns ≡ first_begun n ms → AreBeside es ls → AreBeside fs ns
beside_taken whole n es fs ls ms ns e f g h =
    beside_same (left_after es whole n) fs (first_begun n (drop whole ls)) ns e (g ∙ ap (first_begun n) f)
    (beside_left whole n es ls h)

pub list_taken : (whole n : ℕ) (es fs : List Entry) (ls ms ns : List Load) (ws : List Waiting)
    → fs ≡ left_after es whole n → ms ≡ drop whole ls → ns ≡ first_begun n ms → AreBeside es ls → list_of es ls ≡ ws
    → list_of fs ns ≡ carried_on (left_after (map (λ (w : Waiting). w.entry) ws) whole n) (drop whole ws)
list_taken whole n es fs ls ms ns ws e f g h is =
    list_same (left_after es whole n) fs (first_begun n (drop whole ls)) ns _ e (g ∙ ap (first_begun n) f)
    (list_left whole n es ls h
    ∙ ap (λ (x : List Waiting). carried_on (left_after es whole n) (drop whole x)) is
    ∙ ap (λ (x : List Entry). carried_on (left_after x whole n) (drop whole ws)) (sym (entries_are es ls ws h is)))
