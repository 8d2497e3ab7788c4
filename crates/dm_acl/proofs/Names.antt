-- Names without repeats.
use Rattle.std.proofs.Common.{◌≡◌, ◌<◌, ◌+◌, ◌++◌, ◌&&◌, ℕ, List, [], ◌∷◌, length, drop, get_or, arith, refl, ap, sym}
use Rattle.std.proofs.Common.{◌∙◌, Bool, true, false, if◌then◌else◌, bytes_eq}
use Rattle.std.specs.List.{list_any, list_all}
use Rattle.std.proofs.lemmas.List.{at_drop_more, at_drop_all}
use Rattle.std.proofs.lemmas.List.Folds.{list_all-append}
use Rattle.dm_acl.specs.Grammar.{name_added, with_names, unrepeated}

pub names_more : (all : List (List ℕ)) (n m : ℕ) (name : List ℕ) (names new whole : List (List ℕ))
    → m ≡ n + 1 → (n < length all) × (name ≡ get_or all n name) → new ≡ name_added names name
    → with_names names (drop n all) ≡ whole → with_names new (drop m all) ≡ whole
names_more all n m name names new whole is turn h kept =
    ap (λ k. with_names new (drop k all)) is
    ∙ ap (λ s. with_names s (drop (n + 1) all)) h
    ∙ ap (λ p. with_names names (p ∷ drop (n + 1) all)) turn.1
    ∙ sym (at_drop_more (with_names names) all n name turn.0)
    ∙ kept

pub names_all : (all : List (List ℕ)) (n : ℕ) (names whole : List (List ℕ)) → n ≡ length all
    → with_names names (drop n all) ≡ whole → names ≡ whole
names_all all n names whole is kept = sym (at_drop_all (with_names names) all n (omega arith)) ∙ kept

-- ---- leaving out repeats twice is leaving them out once

with_append : (names xs ys : List (List ℕ)) → with_names names (xs ++ ys) ≡ with_names (with_names names xs) ys
with_append names [] ys = refl
with_append names (x ∷ xs) ys = with_append (name_added names x) xs ys

again_by : (found : Bool) (names : List (List ℕ)) (name : List ℕ)
    → list_any (λ other. bytes_eq other name) names ≡ found
    → unrepeated names ≡ names → unrepeated (name_added names name) ≡ name_added names name
again_by true names name is h =
    let e : name_added names name ≡ names = ap (λ t. if t then names else names ++ name ∷ []) is in
    ap unrepeated e ∙ h ∙ sym e
again_by false names name is h =
    let e : name_added names name ≡ names ++ name ∷ [] = ap (λ t. if t then names else names ++ name ∷ []) is in
    ap unrepeated e ∙ with_append [] names (name ∷ []) ∙ ap (λ t. name_added t name) h

again_from : (names more : List (List ℕ)) → unrepeated names ≡ names
    → unrepeated (with_names names more) ≡ with_names names more
again_from names [] h = h
again_from names (x ∷ xs) h = again_from (name_added names x) xs (again_by _ names x refl h)

pub again : (names : List (List ℕ)) → unrepeated (unrepeated names) ≡ unrepeated names
again names = again_from [] names refl

-- ---- good names stay good

good_by : (found : Bool) (test : List ℕ → Bool) (names : List (List ℕ)) (name : List ℕ) → list_all test names ≡ true
    → test name ≡ true
    → list_all test (if found then names else names ++ name ∷ []) ≡ true
good_by true test names name h one = h
good_by false test names name h one =
    list_all-append test names (name ∷ []) ∙ both (list_all test names) (test name) h one
  where
    both : (a b : Bool) → a ≡ true → b ≡ true → (a && (b && true)) ≡ true
    both true true e f = refl
    both true false e f = cc
    both false b e f = cc

pub good_from : (test : List ℕ → Bool) (names more : List (List ℕ)) → list_all test names ≡ true
    → list_all test more ≡ true → list_all test (with_names names more) ≡ true
good_from test names [] h m = h
good_from test names (x ∷ xs) h m =
    let parts = and_true (test x) (list_all test xs) m in
    good_from test (name_added names x) xs (good_by (list_any (λ other. bytes_eq other x) names) test names x h parts.0)
    parts.1
  where
    and_true : (a b : Bool) → (a && b) ≡ true → (a ≡ true) × (b ≡ true)
    and_true true b e = (refl, e)
    and_true false b e = cc
