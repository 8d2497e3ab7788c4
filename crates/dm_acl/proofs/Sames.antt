-- Two access lists are one where each of their entries is the same.
use Rattle.std.proofs.Common.{◌≡◌, ℕ, List, [], ◌∷◌, refl, ap, sym, ◌∙◌, subst, Bool, true, false, ◌&&◌, bytes_eq}
use Rattle.std.proofs.Common.{Option, Some, None}
use Rattle.std.proofs.lemmas.Slice.Eq.{bytes_eq-Decides}
use Rattle.dm_acl.specs.declared.values.Servers.{Servers}
use Rattle.dm_acl.specs.declared.values.Servers.TheVariants.{Everybody, Named}
use Rattle.dm_acl.specs.declared.values.Entries.{Entries}
use Rattle.dm_acl.specs.Same.{same_names, same_servers, same_entry, same_entries}
use Rattle.dm_acl.proofs.Splits.{and_true, both_true}

names_are : (xs ys : List (List ℕ)) → same_names xs ys ≡ true → xs ≡ ys
names_are [] [] h = refl
names_are [] (y ∷ ys) h = cc
names_are (x ∷ xs) [] h = cc
names_are (x ∷ xs) (y ∷ ys) h =
    let both = and_true (bytes_eq x y) (same_names xs ys) h in
    ap (λ n. n ∷ xs) ((bytes_eq-Decides x y).0 both.0) ∙ ap (λ ns. y ∷ ns) (names_are xs ys both.1)

servers_are : (s t : Servers) → same_servers s t ≡ true → s ≡ t
servers_are Everybody Everybody h = refl
servers_are Everybody (Named ys) h = cc
servers_are (Named xs) Everybody h = cc
servers_are (Named xs) (Named ys) h = ap (λ ns. Named ns) (names_are xs ys h)

entry_is : (a b : Option Servers) → same_entry a b ≡ true → a ≡ b
entry_is None None h = refl
entry_is None (Some t) h = cc
entry_is (Some s) None h = cc
entry_is (Some s) (Some t) h = ap (λ s. Some s) (servers_are s t h)

names_itself : (xs : List (List ℕ)) → same_names xs xs ≡ true
names_itself [] = refl
names_itself (x ∷ xs) = both_true (bytes_eq x x) (same_names xs xs) ((bytes_eq-Decides x x).1 refl) (names_itself xs)

servers_itself : (s : Servers) → same_servers s s ≡ true
servers_itself Everybody = refl
servers_itself (Named xs) = names_itself xs

entry_itself : (a : Option Servers) → same_entry a a ≡ true
entry_itself None = refl
entry_itself (Some s) = servers_itself s

five : (a b c d e : Bool) → (a && b && c && d && e) ≡ true → (a ≡ true) × (b ≡ true) × (c ≡ true) × (d ≡ true)
    × (e ≡ true)
five true true true true true h = (refl, refl, refl, refl, refl)
five false b c d e h = cc
five true false c d e h = cc
five true true false d e h = cc
five true true true false e h = cc
five true true true true false h = cc

all_five : (a b c d e : Bool) → a ≡ true → b ≡ true → c ≡ true → d ≡ true → e ≡ true → (a && b && c && d && e) ≡ true
all_five a b c d e ha hb hc hd he = rw (ha, hb, hc, hd, he) refl

entries_are : (x y : Entries) → same_entries x y ≡ true → x ≡ y
entries_are x y h =
    let all =
    five (same_entry x.add y.add) (same_entry x.delete y.delete) (same_entry x.exec y.exec) (same_entry x.get y.get)
    (same_entry x.replace y.replace) h in
    let a = entry_is x.add y.add all.0 in
    let d = entry_is x.delete y.delete all.1 in
    let e = entry_is x.exec y.exec all.2 in
    let g = entry_is x.get y.get all.3 in
    let r = entry_is x.replace y.replace all.4 in
    ap (λ (o : Option Servers). let z : Entries = record x { add = o } in z) a
    ∙ ap (λ (o : Option Servers). let z : Entries = record x { add = y.add; delete = o } in z) d
    ∙ ap (λ (o : Option Servers). let z : Entries = record x { add = y.add; delete = y.delete; exec = o } in z) e
    ∙ ap (λ (o : Option Servers). let z : Entries = record y { get = o; replace = x.replace } in z) g
    ∙ ap (λ (o : Option Servers). let z : Entries = record y { replace = o } in z) r

entries_itself : (x : Entries) → same_entries x x ≡ true
entries_itself x =
    all_five _ _ _ _ _ (entry_itself x.add) (entry_itself x.delete) (entry_itself x.exec) (entry_itself x.get)
    (entry_itself x.replace)

pub same_means : (r : Bool) (x y : Entries) → r ≡ same_entries x y → (r ≡ true → x ≡ y) × (x ≡ y → r ≡ true)
same_means r x y is = (
  λ h. entries_are x y (sym is ∙ h),
  λ e. is ∙ subst (λ z. same_entries x z ≡ true) e (entries_itself x),
)
