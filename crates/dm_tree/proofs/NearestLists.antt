-- The access list that decides is the nearest upwards that names the right.
use Rattle.std.proofs.Common.{◌↔◌, if◌then◌else◌, option_and_then}
use Rattle.dm_acl.specs.declared.values.Right.{Right}
use Rattle.dm_acl.specs.Grammar.{entry_of, allowed, allowed_in, has_entry}
use Rattle.dm_tree.specs.Laws.{NearestDecides, NoneDecides, NearestAllows}
use Rattle.dm_tree.specs.Rights.{acl_at, names, effective_upto, effective_path, allows, IsNearest, Allows}
use Rattle.dm_tree.proofs.Common.{◌≡◌, ℕ, zero, suc, ◌≤◌, ◌<◌, Bool, true, false, List, [], length, take, Option}
use Rattle.dm_tree.proofs.Common.{None, Some, refl, sym, ◌∙◌, ap, arith, inl, inr, cases_Bool, false_from_ne_true}
use Rattle.dm_tree.proofs.Common.{length-take, take-length, Entries, Path, Nodes, is_below}
use Rattle.dm_tree.proofs.Paths.{equal_below, below_equal, below_or_not}

-- the beginning of p with so many names
through_take : (p : Path) (k : ℕ) → k ≤ length p → is_below (take k p) p ≡ true
through_take p k within =
    let long : length (take k p) ≡ k = omega (arith, length-take k p) in
    below_equal (take k p) p (ap (λ n. take n p) long)

through_long : (r p : Path) → is_below r p ≡ true → length r ≤ length p
through_long r p through = omega (arith, ap length (equal_below r p through), length-take (length r) p)

-- none of the beginnings of p with up to k names names the right
upto_none : (m : Nodes) (p : Path) (right : Right) (k : ℕ) → effective_upto m p right k ≡ None
    → (i : ℕ) → i ≤ k → names m (take i p) right ≡ false
upto_none m p right zero e i within = elim (cases_Bool (names m [] right)) [
  | inl is ↦ absurd (let some = rw is at e in cc)
  | inr isnt ↦ let z : i ≡ 0 = omega (arith, within) in rw z isnt
]
upto_none m p right (suc k) e i within = elim (cases_Bool (names m (take (suc k) p) right)) [
  | inl is ↦ absurd (let some = rw is at e in cc)
  | inr isnt ↦ elim (below_or_not i (suc k)) [
    | inl less ↦ upto_none m p right k (rw isnt at e) i (omega (arith, less))
    | inr more ↦ let same : i ≡ suc k = omega (arith, within, more) in rw same isnt
  ]
]

-- what is found among them is the longest
pub record IsFoundUpto (m : Nodes) (p : Path) (right : Right) (k : ℕ) (q : Path) : Type 0 where
  pub at : ℕ
  pub within : at ≤ k
  pub is : q ≡ take at p
  pub named : names m (take at p) right ≡ true
  pub longest : (i : ℕ) → at < i → i ≤ k → names m (take i p) right ≡ false

upto_some : (m : Nodes) (p : Path) (right : Right) (k : ℕ) (q : Path) → effective_upto m p right k ≡ Some q
    → IsFoundUpto m p right k q
upto_some m p right zero q e = elim (cases_Bool (names m [] right)) [
  | inl is ↦ record {
    at = 0;
    within = omega arith;
    is = let found = rw is at e in cc;
    named = is;
    longest = λ i more within. absurd (omega (arith, more, within));
  }
  | inr isnt ↦ absurd (let none = rw isnt at e in cc)
]
upto_some m p right (suc k) q e = elim (cases_Bool (names m (take (suc k) p) right)) [
  | inl is ↦ record {
    at = suc k;
    within = omega arith;
    is = let found = rw is at e in cc;
    named = is;
    longest = λ i more within. absurd (omega (arith, more, within));
  }
  | inr isnt ↦
      let found = upto_some m p right k q (rw isnt at e) in
      record {
        at = found.at;
        within = omega (arith, found.within);
        is = found.is;
        named = found.named;
        longest = λ i more within. elim (below_or_not i (suc k)) [
          | inl less ↦ found.longest i more (omega (arith, less))
          | inr late ↦ let same : i ≡ suc k = omega (arith, within, late) in rw same isnt
        ];
      }
]

upto_nearest : (m : Nodes) (p : Path) (right : Right) (q : Path) → IsFoundUpto m p right (length p) q
    → IsNearest m p right q
upto_nearest m p right q found =
    let long : length (take found.at p) ≡ found.at = omega (arith, length-take found.at p, found.within) in
    record {
      through = rw found.is (through_take p found.at found.within);
      named = rw found.is found.named;
      longest = λ r through named. elim (below_or_not (length q) (length r)) [
        | inl less ↦ absurd (
            let same = equal_below r p through in
            let at : length q ≡ found.at = ap length found.is ∙ long in
            let bare = found.longest (length r) (omega (arith, less, at)) (through_long r p through) in
            let named_too : names m (take (length r) p) right ≡ true = rw same named in
            cc)
        | inr more ↦ omega (arith, more)
      ];
    }

-- there is one nearest alone
same_nearest : (m : Nodes) (p : Path) (right : Right) (q r : Path) → IsNearest m p right q → IsNearest m p right r
    → q ≡ r
same_nearest m p right q r a b =
    let long : length q ≡ length r = omega (arith, a.longest r b.through b.named, b.longest q a.through a.named) in
    sym (equal_below q p a.through) ∙ ap (λ n. take n p) long ∙ equal_below r p b.through

nearest_by : (m : Nodes) (p : Path) (right : Right) (q : Path) (o : Option Path) → effective_path m p right ≡ o
    → IsNearest m p right q → o ≡ Some q
nearest_by m p right q None e near = absurd (
    let bare = upto_none m p right (length p) e (length q) (through_long q p near.through) in
    let same = equal_below q p near.through in
    let named : names m (take (length q) p) right ≡ true = rw same near.named in
    cc)
nearest_by m p right q (Some r) e near =
    ap (λ s. Some s) (same_nearest m p right r q (upto_nearest m p right r (upto_some m p right (length p) r e)) near)

pub nearest_decides : NearestDecides
nearest_decides m p right q = (
  λ e. upto_nearest m p right q (upto_some m p right (length p) q e),
  λ near. nearest_by m p right q (effective_path m p right) refl near,
)

none_by : (m : Nodes) (p : Path) (right : Right) (o : Option Path) → effective_path m p right ≡ o
    → ((q : Path) → is_below q p ≡ true → names m q right ≡ false) → o ≡ None
none_by m p right None e bare = refl
none_by m p right (Some q) e bare =
    let near = upto_nearest m p right q (upto_some m p right (length p) q e) in
    let not_named = bare q near.through in
    let named = near.named in
    absurd (cc)

pub none_decides : NoneDecides
none_decides m p right = (
  λ e q through.
      let same = equal_below q p through in
      rw (sym same) (upto_none m p right (length p) e (length q) (through_long q p through)),
  λ bare. none_by m p right (effective_path m p right) refl bare,
)

-- ---- what it allows

entry_allows : (m : Nodes) (p q : Path) (server : List ℕ) (right : Right) → IsNearest m p right q → (o : Option Entries)
    → acl_at m q ≡ o → allowed_in (option_and_then (λ acl. entry_of acl right) o) server ≡ true
    → Allows m p server right
entry_allows m p q server right near None e h = absurd (cc)
entry_allows m p q server right near (Some acl) e h =
    record { nearest = q; decides = near; acl = acl; there = e; allowed = h }

may_by : (m : Nodes) (p : Path) (server : List ℕ) (right : Right) (o : Option Path) → effective_path m p right ≡ o
    → allowed_in (option_and_then (λ q. option_and_then (λ acl. entry_of acl right) (acl_at m q)) o) server ≡ true
    → Allows m p server right
may_by m p server right None e h = absurd (cc)
may_by m p server right (Some q) e h =
    entry_allows m p q server right ((nearest_decides m p right q).0 e) (acl_at m q) refl h

allows_by : (m : Nodes) (p : Path) (server : List ℕ) (right : Right) → Allows m p server right
    → allows m p server right ≡ true
allows_by m p server right h =
    let found = (nearest_decides m p right h.nearest).1 h.decides in
    rw (found, h.there) h.allowed

pub nearest_allows : NearestAllows
nearest_allows m p server right = (
  λ h. may_by m p server right (effective_path m p right) refl h,
  λ h. allows_by m p server right h,
)
