-- What fits a Meta is children of its rows, in any order and each once, or one MetInf that holds such.
use Rattle.std.specs.Prelude.{◌≡◌, ◌⊎◌, ℕ, suc, ◌+◌, Bool, true, false, ◌&&◌, if◌then◌else◌, List, [], ◌∷◌, set, Option}
use Rattle.std.specs.Prelude.{Some, None, IsTrue, refl, ⊤}
use Rattle.std.proofs.Common.{sym, ap, subst, ◌∙◌, arith, inl, inr}
use Rattle.wbxml_tables.specs.declared.Element.{Element}
use Rattle.wbxml_tables.specs.declared.Element.TheVariants.{EMetInf}
use Rattle.syncml_shape.specs.declared.rows.Kind.{Kind}
use Rattle.syncml_shape.specs.declared.rows.Kind.TheVariants as kinds
use Rattle.syncml_shape.specs.declared.rows.MetaRow.{MetaRow}
use Rattle.syncml_shape.specs.declared.rows.TheConstants as table
use Rattle.syncml_shape.specs.Forest.{Forest, nothing, text, opaque, bare, full}
use Rattle.syncml_shape.specs.Rows.{same, in_order, in_any_order, start, none_came, meta_place, after_meta}
use Rattle.syncml_shape.specs.Shape.{fits}
use Rattle.syncml_shape.specs.Children.{Child, as_child, children_in, has_text, meta_kind, AllOfMeta, AllOther}
use Rattle.syncml_shape.specs.Children.{AreUnlike, IsWrapped}
use Rattle.syncml_shape.specs.Laws.{FitsInAnyOrder, FitsMeta}
use Rattle.syncml_shape.proofs.Accepts.{and_true}
use Rattle.syncml_shape.proofs.Completes.{and_both}
use Rattle.syncml_shape.proofs.Names.{same_only}

-- whether the first row of the element has come; so it counts where there is none
abbrev has_come : List MetaRow → List Bool → Element → Bool
has_come [] came e = true
has_come (row ∷ rows) [] e = true
has_come (row ∷ rows) (c ∷ came) e = if same row.element e then c else has_come rows came e

if_true : {A : Type 0} (b : Bool) (x y : A) → b ≡ true → (if b then x else y) ≡ x
if_true true x y h = refl
if_true false x y h = cc

if_false : {A : Type 0} (b : Bool) (x y : A) → b ≡ false → (if b then x else y) ≡ y
if_false true x y h = cc
if_false false x y h = refl

-- what is known of a row that has not come, at an index from a place on
record Row (rows : List MetaRow) (came : List Bool) (e : Element) (n : ℕ) (x : Kind × ℕ) : Type 0 where
  index : ℕ
  place : x.1 ≡ n + index
  kind : meta_kind rows e ≡ Some x.0
  free : has_come rows came e ≡ false
  comes : has_come rows (set came index true) e ≡ true
  others : (d : Element) → (d ≡ e → ⊥) → has_come rows (set came index true) d ≡ has_come rows came d

other_row : (one e d : Element) (b c : Bool) (more : Bool) → same one e ≡ true → (d ≡ e → ⊥)
    → (if same one d then b else more) ≡ (if same one d then c else more)
other_row one e d b c more is not_same =
    elim (same one d) as (λ (t : Bool). same one d ≡ t → (if t then b else more) ≡ (if t then c else more)) [
      | true ↦ λ h. absurd (not_same (sym (same_only one d h) ∙ same_only one e is))
      | false ↦ λ h. refl
    ] refl

first_row : (row : MetaRow) (rows : List MetaRow) (came : List Bool) (e : Element) (n : ℕ) → same row.element e ≡ true
    → Row (row ∷ rows) (false ∷ came) e n (row.kind, n)
first_row row rows came e n is = record {
  index = 0;
  place = omega arith;
  kind = if_true (same row.element e) (Some row.kind) (meta_kind rows e) is;
  free = if_true (same row.element e) false (has_come rows came e) is;
  comes = if_true (same row.element e) true (has_come rows came e) is;
  others = λ d not_same. other_row row.element e d true false (has_come rows came d) is not_same;
}

later_row : (row : MetaRow) (rows : List MetaRow) (c : Bool) (came : List Bool) (e : Element) (n : ℕ) (x : Kind × ℕ)
    → same row.element e ≡ false → Row rows came e (n + 1) x
    → Row (row ∷ rows) (c ∷ came) e n x
later_row row rows c came e n x is r = record {
  index = suc r.index;
  place = omega (arith, r.place);
  kind = if_false (same row.element e) (Some row.kind) (meta_kind rows e) is ∙ r.kind;
  free = if_false (same row.element e) c (has_come rows came e) is ∙ r.free;
  comes = if_false (same row.element e) c (has_come rows (set came r.index true) e) is ∙ r.comes;
  others = λ d not_same. ap (λ (m : Bool). if same row.element d then c else m) (r.others d not_same);
}

pair_of : (k : Kind) (n : ℕ) (x : Kind × ℕ) (P : Kind × ℕ → Type 0) → ◌≡◌ {A = Option (Kind × ℕ)} (Some (k, n)) (Some x)
    → P (k, n) → P x
pair_of k n x P h p = let e : (k, n) ≡ x = cc in subst P e p

row_of_place : (rows : List MetaRow) (came : List Bool) (e : Element) (n : ℕ) (x : Kind × ℕ)
    → meta_place n rows came e ≡ Some x → Row rows came e n x
row_of_place [] came e n x h = cc
row_of_place (row ∷ rows) [] e n x h = cc
row_of_place (row ∷ rows) (true ∷ came) e n x h =
    (elim (same row.element e)
    as (λ (t : Bool). same row.element e ≡ t → (if t then None else meta_place (n + 1) rows came e) ≡ Some x
    → Row (row ∷ rows) (true ∷ came) e n x) [
      | true ↦ λ is w. cc
      | false ↦ λ is w. later_row row rows true came e n x is (row_of_place rows came e (n + 1) x w)
    ]) refl h
row_of_place (row ∷ rows) (false ∷ came) e n x h =
    (elim (same row.element e)
    as (λ (t : Bool). same row.element e ≡ t
    → if◌then◌else◌ {A = Option (Kind × ℕ)} t (Some (row.kind, n)) (meta_place (n + 1) rows came e) ≡ Some x
    → Row (row ∷ rows) (false ∷ came) e n x) [
      | true ↦ λ is w. pair_of row.kind n x (Row (row ∷ rows) (false ∷ came) e n) w (first_row row rows came e n is)
      | false ↦ λ is w. later_row row rows false came e n x is (row_of_place rows came e (n + 1) x w)
    ]) refl h

-- a row that has not come has a place
place_of_row : (rows : List MetaRow) (came : List Bool) (e : Element) (n : ℕ) (kind : Kind)
    → meta_kind rows e ≡ Some kind → has_come rows came e ≡ false
    → (at : ℕ) × (meta_place n rows came e ≡ Some (kind, at))
place_of_row [] came e n kind k free = cc
place_of_row (row ∷ rows) [] e n kind k free = cc
place_of_row (row ∷ rows) (c ∷ came) e n kind k free =
    (elim (same row.element e)
    as (λ (t : Bool). (if t then Some row.kind else meta_kind rows e) ≡ Some kind
    → (if t then c else has_come rows came e) ≡ false
    → (at : ℕ)
    × (if◌then◌else◌ {A = Option (Kind × ℕ)} t (if◌then◌else◌ {A = Option (Kind × ℕ)} c None (Some (row.kind, n)))
    (meta_place (n + 1) rows came e) ≡ Some (kind, at))) [
      | true ↦ λ k' free'. (n, free_row row.kind kind c n free' cc)
      | false ↦ λ k' free'. place_of_row rows came e (n + 1) kind k' free'
    ]) k free
  where
    free_row : (a b : Kind) (t : Bool) (m : ℕ) → t ≡ false → a ≡ b
        → if◌then◌else◌ {A = Option (Kind × ℕ)} t None (Some (a, m)) ≡ Some (b, m)
    free_row a b true m h e = cc
    free_row a b false m h e = ap (λ (k : Kind). Some (k, m)) e

-- ---- in any order, with what has come

abbrev AllFree : List Bool → List Child → Type 0
AllFree came [] = ⊤
AllFree came (child ∷ rest) = (has_come table.META came child.element ≡ false) × AllFree came rest

record AnyOrder (came : List Bool) (all : List Child) : Type 0 where
  of_meta : AllOfMeta all
  distinct : AreUnlike all
  free : AllFree came all

free_before : (all : List Child) (came : List Bool) (e : Element) (x : Kind × ℕ) (r : Row table.META came e 0 x)
    → AllFree (set came r.index true) all → AllOther e all × AllFree came all
free_before [] came e x r free = (tt, tt)
free_before (child ∷ all) came e x r free =
    let rest = free_before all came e x r free.1 in
    let other : child.element ≡ e → ⊥ = λ is.
    let now : has_come table.META (set came r.index true) child.element ≡ true =
    ap (has_come table.META (set came r.index true)) is ∙ r.comes in
    no_true (has_come table.META (set came r.index true) child.element) now free.0 in
    ((other, rest.0), (sym (r.others child.element other) ∙ free.0, rest.1))
  where
    no_true : (b : Bool) → b ≡ true → b ≡ false → ⊥
    no_true true h i = cc
    no_true false h i = cc

free_after : (all : List Child) (came : List Bool) (e : Element) (x : Kind × ℕ) (r : Row table.META came e 0 x)
    → AllOther e all → AllFree came all → AllFree (set came r.index true) all
free_after [] came e x r other free = tt
free_after (child ∷ all) came e x r other free =
    (r.others child.element other.0 ∙ free.0, free_after all came e x r other.1 free.1)

at_index : (came : List Bool) (at index : ℕ) → at ≡ 0 + index → set came at true ≡ set came index true
at_index came at index h = ap (λ n. set came n true) (h ∙ zero_more index)
  where
    zero_more : (n : ℕ) → 0 + n ≡ n
    zero_more n = omega arith

meta_child : (came : List Bool) (child : Child) (f : Forest) (o : Option (Kind × ℕ))
    → meta_place 0 table.META came child.element ≡ o
    → ((more : List Bool) → IsTrue (fits (in_any_order false more) f)
    → (has_text f ≡ false) × AnyOrder more (children_in f))
    → IsTrue (elim (after_meta came o) as (λ _. Bool) [
      | None ↦ false
      | Some x ↦ fits (start x.0) child.inner && fits x.1 f
    ])
    → (has_text f ≡ false) × AnyOrder came (child ∷ children_in f)
meta_child came child f None is ih h = cc
meta_child came child f (Some x) is ih h =
    let both = and_true (fits (start x.0) child.inner) (fits (in_any_order false (set came x.1 true)) f) h in
    let rest = ih (set came x.1 true) both.1 in
    let row = row_of_place table.META came child.element 0 x is in
    let before =
    free_before (children_in f) came child.element x row
    (subst (λ l. AllFree l (children_in f)) (at_index came x.1 row.index row.place) rest.1.free) in (
      rest.0,
      record {
        of_meta = ((x.0, row.kind, both.0), rest.1.of_meta);
        distinct = (before.0, rest.1.distinct);
        free = (row.free, before.1);
      },
    )

fit_any : (f : Forest) (came : List Bool) → IsTrue (fits (in_any_order false came) f)
    → (has_text f ≡ false) × AnyOrder came (children_in f)
fit_any nothing came h = (refl, record { of_meta = tt; distinct = tt; free = tt })
fit_any (text bytes f) came h = cc
fit_any (opaque bytes f) came h = cc
fit_any (bare e f) came h =
    meta_child came (record { element = e; inner = nothing }) f (meta_place 0 table.META came e) refl (fit_any f) h
fit_any (full e inner f) came h =
    meta_child came (record { element = e; inner = inner }) f (meta_place 0 table.META came e) refl (fit_any f) h

child_fits : (came : List Bool) (child : Child) (f : Forest) → AnyOrder came (child ∷ children_in f)
    → ((more : List Bool) → AnyOrder more (children_in f) → IsTrue (fits (in_any_order false more) f))
    → IsTrue (elim (after_meta came (meta_place 0 table.META came child.element)) as (λ _. Bool) [
      | None ↦ false
      | Some x ↦ fits (start x.0) child.inner && fits x.1 f
    ])
child_fits came child f any ih =
    let kind = any.of_meta.0.0 in
    let found = place_of_row table.META came child.element 0 kind any.of_meta.0.1 any.free.0 in
    let row = row_of_place table.META came child.element 0 (kind, found.0) found.1 in
    let free =
    subst (λ l. AllFree l (children_in f)) (sym (at_index came found.0 row.index row.place))
    (free_after (children_in f) came child.element (kind, found.0) row any.distinct.0 any.free.1) in
    subst (λ o.
    IsTrue (elim (after_meta came o) as (λ _. Bool) [
      | None ↦ false
      | Some x ↦ fits (start x.0) child.inner && fits x.1 f
    ])) (sym found.1)
    (and_both (fits (start kind) child.inner) (fits (in_any_order false (set came found.0 true)) f) any.of_meta.0.2
    (ih (set came found.0 true) (record { of_meta = any.of_meta.1; distinct = any.distinct.1; free = free })))

any_fits : (f : Forest) (came : List Bool) → has_text f ≡ false → AnyOrder came (children_in f)
    → IsTrue (fits (in_any_order false came) f)
any_fits nothing came t any = refl
any_fits (text bytes f) came t any = cc
any_fits (opaque bytes f) came t any = cc
any_fits (bare e f) came t any =
    child_fits came (record { element = e; inner = nothing }) f any (λ more. any_fits f more t)
any_fits (full e inner f) came t any =
    child_fits came (record { element = e; inner = inner }) f any (λ more. any_fits f more t)

-- ---- nothing has come yet

all_free : (all : List Child) → AllOfMeta all → AllFree none_came all
all_free [] of = tt
all_free (child ∷ all) of = (none_has_come table.META none_came child.element of.0.0 of.0.1 are_none, all_free all of.1)
  where
    AllNone : List MetaRow → List Bool → Type 0
    AllNone [] came = ⊤
    AllNone (row ∷ rows) [] = ⊥
    AllNone (row ∷ rows) (c ∷ came) = (c ≡ false) × AllNone rows came

    are_none : AllNone table.META none_came
    are_none = (refl, (refl, (refl, (refl, (refl, (refl, (refl, (refl, tt))))))))

    none_has_come : (rows : List MetaRow) (came : List Bool) (e : Element) (kind : Kind) → meta_kind rows e ≡ Some kind
        → AllNone rows came → has_come rows came e ≡ false
    none_has_come [] came e kind k h = cc
    none_has_come (row ∷ rows) [] e kind k h = absurd h
    none_has_come (row ∷ rows) (c ∷ came) e kind k h =
        (elim (same row.element e)
        as (λ (t : Bool). (if t then Some row.kind else meta_kind rows e) ≡ Some kind
        → (if t then c else has_come rows came e) ≡ false) [
          | true ↦ λ w. h.0
          | false ↦ λ w. none_has_come rows came e kind w h.1
        ]) k

pub fits_in_any_order : FitsInAnyOrder
fits_in_any_order f = (
  λ h. let any = fit_any f none_came h in (any.0, any.1.of_meta, any.1.distinct),
  λ parts. any_fits f none_came parts.0
      (record { of_meta = parts.1; distinct = parts.2; free = all_free (children_in f) parts.1 }),
)

-- ---- a Meta, of which one MetInf may hold the children

empty_fits : (f : Forest) → IsTrue (fits (in_order false []) f) → f ≡ nothing
empty_fits nothing h = refl
empty_fits (text bytes f) h = cc
empty_fits (opaque bytes f) h = cc
empty_fits (bare e f) h = cc
empty_fits (full e inner f) h = cc

no_children : (f : Forest) → has_text f ≡ false → children_in f ≡ [] → f ≡ nothing
no_children nothing t h = refl
no_children (text bytes f) t h = cc
no_children (opaque bytes f) t h = cc
no_children (bare e f) t h = cc
no_children (full e inner f) t h = cc

-- what fits behind the first child of a Meta
abbrev Behind : Bool → Element → Forest → Forest → Bool
Behind wrap e inner f =
    elim (if wrap && same e EMetInf then Some (kinds.MetInf, in_order false [])
    else after_meta none_came (meta_place 0 table.META none_came e)) as (λ _. Bool) [
      | None ↦ false
      | Some x ↦ fits (start x.0) inner && fits x.1 f
    ]

wrapped_or_not : (e : Element) (inner f tree : Forest) → has_text tree ≡ has_text f
    → children_in tree ≡ as_child e inner ∷ children_in f
    → fits (in_any_order false none_came) tree ≡ Behind false e inner f
    → IsTrue (Behind true e inner f) → IsTrue (fits (in_any_order false none_came) tree) ⊎ IsWrapped tree
wrapped_or_not e inner f tree t all is h =
    (elim (same e EMetInf) as (λ (b : Bool). same e EMetInf ≡ b
    → IsTrue (elim (if b then Some (kinds.MetInf, in_order false [])
    else after_meta none_came (meta_place 0 table.META none_came e)) as (λ _. Bool) [
      | None ↦ false
      | Some x ↦ fits (start x.0) inner && fits x.1 f
    ])
    → IsTrue (fits (in_any_order false none_came) tree) ⊎ IsWrapped tree) [
      | true ↦ λ w h'.
          let both = and_true (fits (start kinds.MetInf) inner) (fits (in_order false []) f) h' in
          let none = empty_fits f both.1 in
          inr (
            inner,
            t ∙ ap has_text none,
            all ∙ ap (λ c. as_child e inner ∷ children_in c) none
                ∙ ap (λ (n : Element). as_child n inner ∷ []) (same_only e EMetInf w),
            both.0,
          )
      | false ↦ λ w h'. inl (is ∙ h')
    ]) refl h

meta_either : (f : Forest) → IsTrue (fits (start kinds.Meta) f) → IsTrue (fits (start kinds.MetInf) f) ⊎ IsWrapped f
meta_either nothing h = inl refl
meta_either (text bytes f) h = cc
meta_either (opaque bytes f) h = cc
meta_either (bare e f) h = wrapped_or_not e nothing f (bare e f) refl refl refl h
meta_either (full e inner f) h = wrapped_or_not e inner f (full e inner f) refl refl refl h

-- a child of a Meta is no MetInf
not_wrap : (e : Element) (inner f : Forest) → IsTrue (Behind false e inner f) → IsTrue (Behind true e inner f)
not_wrap e inner f h =
    elim (same e EMetInf) as (λ (b : Bool). same e EMetInf ≡ b
    → IsTrue (elim (if b then Some (kinds.MetInf, in_order false [])
    else after_meta none_came (meta_place 0 table.META none_came e)) as (λ _. Bool) [
      | None ↦ false
      | Some x ↦ fits (start x.0) inner && fits x.1 f
    ])) [
      | true ↦ λ w. absurd (no_met_inf inner f (subst (λ n. IsTrue (Behind false n inner f)) (same_only e EMetInf w) h))
      | false ↦ λ w. h
    ] refl
  where
    no_met_inf : (i g : Forest) → IsTrue (Behind false EMetInf i g) → ⊥
    no_met_inf i g k = cc

inner_meta : (f : Forest) → IsTrue (fits (start kinds.MetInf) f) → IsTrue (fits (start kinds.Meta) f)
inner_meta nothing h = refl
inner_meta (text bytes f) h = cc
inner_meta (opaque bytes f) h = cc
inner_meta (bare e f) h = not_wrap e nothing f h
inner_meta (full e inner f) h = not_wrap e inner f h

wrapped_behind : (e : Element) (inner f held : Forest) → e ≡ EMetInf → inner ≡ held → f ≡ nothing
    → IsTrue (fits (start kinds.MetInf) held) → IsTrue (Behind true e inner f)
wrapped_behind e inner f held a b c h =
    subst (λ n. IsTrue (Behind true n inner f)) (sym a)
    (subst (λ n. IsTrue (Behind true EMetInf n f)) (sym b)
    (subst (λ n. IsTrue (Behind true EMetInf held n)) (sym c) (and_both (fits (start kinds.MetInf) held) true h refl)))

same_child : (a b : Child) (l m : List Child) → a ∷ l ≡ b ∷ m → (a ≡ b) × (l ≡ m)
same_child a b l m h = (cc, cc)

wrapped_meta : (f : Forest) → IsWrapped f → IsTrue (fits (start kinds.Meta) f)
wrapped_meta nothing w = let h = w.2 in cc
wrapped_meta (text bytes f) w = let h = w.1 in cc
wrapped_meta (opaque bytes f) w = let h = w.1 in cc
wrapped_meta (bare e f) w =
    let is = same_child (as_child e nothing) (as_child EMetInf w.0) (children_in f) [] w.2 in
    wrapped_behind e nothing f w.0 (ap (λ c. c.element) is.0) (ap (λ c. c.inner) is.0) (no_children f w.1 is.1) w.3
wrapped_meta (full e inner f) w =
    let is = same_child (as_child e inner) (as_child EMetInf w.0) (children_in f) [] w.2 in
    wrapped_behind e inner f w.0 (ap (λ c. c.element) is.0) (ap (λ c. c.inner) is.0) (no_children f w.1 is.1) w.3

pub fits_meta : FitsMeta
fits_meta f = (meta_either f, λ e. elim e [ inl a ↦ inner_meta f a | inr w ↦ wrapped_meta f w ])
