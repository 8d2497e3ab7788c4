-- What fits in the order of rows is children that follow the rows.
use Rattle.std.specs.Prelude.{◌≡◌, ◌≤◌, Bool, true, false, not, ◌&&◌, ◌||◌, if◌then◌else◌, List, [], ◌∷◌, ◌++◌, length}
use Rattle.std.specs.Prelude.{Option, Some, None, is_none, IsTrue, refl}
use Rattle.std.proofs.Common.{sym, ap, subst, ◌∙◌, arith}
use Rattle.wbxml_tables.specs.declared.Element.{Element}
use Rattle.syncml_shape.specs.declared.rows.Kind.{Kind}
use Rattle.syncml_shape.specs.declared.rows.Kind.TheVariants as kinds
use Rattle.syncml_shape.specs.declared.rows.Choice.{Choice}
use Rattle.syncml_shape.specs.declared.rows.Choice.TheVariants.{One, Commands, AtomicMembers, SequenceMembers}
use Rattle.syncml_shape.specs.declared.rows.ChildRow.{ChildRow}
use Rattle.syncml_shape.specs.declared.rows.TheConstants as table
use Rattle.syncml_shape.specs.Forest.{Forest, nothing, text, opaque, bare, full}
use Rattle.syncml_shape.specs.Rows.{same, atomic_member, sequence_member, command, kind_in, Content, in_order}
use Rattle.syncml_shape.specs.Rows.{in_any_order, pieces, start, in_row, next_row, after_row, all_optional, is_complete}
use Rattle.syncml_shape.specs.Shape.{fits}
use Rattle.syncml_shape.specs.Children.{Child, children_in, has_text, AllOf, IsInNumber, FollowRows}
use Rattle.syncml_shape.specs.Laws.{FitsInOrder, DocumentInOrder}
use Rattle.syncml_shape.proofs.Accepts.{and_true}
use Rattle.syncml_shape.proofs.Completes.{none_of, and_both}
use Rattle.syncml_shape.proofs.Names.{of_same}

-- what may still come of the first row: more where it has many, or nothing
abbrev IsLeft : Bool → ChildRow → List Child → Type 0
IsLeft false row here = IsInNumber row here
IsLeft true row here = row.many ≡ false → here ≡ []

abbrev Follows : Bool → List ChildRow → List Child → Type 0
Follows came [] all = all ≡ []
Follows came (row ∷ rows) all =
    (here : List Child) × (rest : List Child) × (all ≡ here ++ rest) × AllOf row.choice here × IsLeft came row here
    × FollowRows rows rest

begun : (rows : List ChildRow) (all : List Child) → FollowRows rows all → Follows false rows all
begun [] all f = f
begun (row ∷ rows) all f = f

not_begun : (rows : List ChildRow) (all : List Child) → Follows false rows all → FollowRows rows all
not_begun [] all f = f
not_begun (row ∷ rows) all f = f

-- ---- what fits follows the rows

no_child : (row : ChildRow) → row.required ≡ false → IsInNumber row []
no_child row optional =
    record { enough = λ h. let both : true ≡ false = sym h ∙ optional in cc; single = λ h. omega arith }

not_required : (b : Bool) → IsTrue (not b) → b ≡ false
not_required true h = cc
not_required false h = refl

all_left_out : (rows : List ChildRow) → IsTrue (all_optional rows) → FollowRows rows []
all_left_out [] h = refl
all_left_out (row ∷ rows) h =
    let both = and_true (not row.required) (all_optional rows) h in
    ([], [], refl, tt, no_child row (not_required row.required both.0), all_left_out rows both.1)

or_not : (came : Bool) (row : ChildRow) → IsTrue (came || not row.required) → IsLeft came row []
or_not true row h = λ m. refl
or_not false row h = no_child row (not_required row.required h)

complete_follows : (came : Bool) (rows : List ChildRow) → IsTrue (is_complete (in_order came rows)) → Follows came rows []
complete_follows came [] h = refl
complete_follows came (row ∷ rows) h =
    let both = and_true (came || not row.required) (all_optional rows) h in
    ([], [], refl, tt, or_not came row both.0, all_left_out rows both.1)

one_or_many : (came : Bool) (row : ChildRow) (child : Child) (here : List Child) → (came && not row.many) ≡ false
    → (row.many ≡ false → here ≡ []) → IsLeft came row (child ∷ here)
one_or_many true row child here t left = λ single. let both : not row.many ≡ true = ap not single in cc
one_or_many false row child here t left =
    record { enough = λ h. omega arith; single = λ h. omega (arith, ap length (left h)) }

passed_over : (came : Bool) (row : ChildRow) → (not came && row.required) ≡ false → IsLeft came row []
passed_over true row h = λ m. refl
passed_over false row h = no_child row h

when_true : (t : Bool) (o : Option (Kind × List ChildRow)) → t ≡ true → (if t then None else o) ≡ None
when_true true o h = refl
when_true false o h = cc

when_false : (t : Bool) (o : Option (Kind × List ChildRow)) → t ≡ false → (if t then None else o) ≡ o
when_false true o h = cc
when_false false o h = refl

-- the row of a child that came: its own, or a later one
own_row : (row : ChildRow) (rows : List ChildRow) (came : Bool) (child : Child) (k : Kind) (x : Kind × List ChildRow)
    (rest : List Child) → kind_in row.choice child.element ≡ Some k
    → (came && not row.many) ≡ false → (k, row ∷ rows) ≡ x → IsTrue (fits (start x.0) child.inner)
    → Follows true x.1 rest → Follows came (row ∷ rows) (child ∷ rest)
own_row row rows came child k x rest named t is fit follows =
    let more : Follows true (row ∷ rows) rest = subst (λ l. Follows true l rest) (sym (ap (λ y. y.1) is)) follows in
    let held : IsTrue (fits (start k) child.inner) =
    subst (λ y. IsTrue (fits (start y) child.inner)) (sym (ap (λ y. y.0) is)) fit in (
      child ∷ more.0,
      more.1,
      ap (λ l. child ∷ l) more.2,
      ((k, named, held), more.3),
      one_or_many came row child more.0 t more.4,
      more.5,
    )

row_follows : (rows : List ChildRow) (came : Bool) (child : Child) (x : Kind × List ChildRow) (rest : List Child)
    → next_row came rows child.element ≡ Some x
    → IsTrue (fits (start x.0) child.inner) → Follows true x.1 rest → Follows came rows (child ∷ rest)
row_follows [] came child x rest h fit follows = cc
row_follows (row ∷ rows) came child x rest h fit follows =
    (elim (kind_in row.choice child.element)
    as (λ o. kind_in row.choice child.element ≡ o → in_row o came row rows (next_row false rows child.element) ≡ Some x
    → Follows came (row ∷ rows) (child ∷ rest)) [
      | Some k ↦ λ named.
          (elim (came && not row.many)
          as (λ (t : Bool). (came && not row.many) ≡ t
          → in_row (Some k) came row rows (next_row false rows child.element) ≡ Some x
          → Follows came (row ∷ rows) (child ∷ rest)) [
            | true ↦ λ t w. let none : in_row (Some k) came row rows (next_row false rows child.element) ≡ None =
                when_true (came && not row.many) (Some (k, row ∷ rows)) t in cc
            | false ↦ λ t w.
                let some : in_row (Some k) came row rows (next_row false rows child.element) ≡ Some (k, row ∷ rows) =
                when_false (came && not row.many) (Some (k, row ∷ rows)) t in
                let is : (k, row ∷ rows) ≡ x = cc in
                own_row row rows came child k x rest named t is fit follows
          ]) refl
      | None ↦ λ named.
          (elim (not came && row.required)
          as (λ (t : Bool). (not came && row.required) ≡ t
          → in_row None came row rows (next_row false rows child.element) ≡ Some x
          → Follows came (row ∷ rows) (child ∷ rest)) [
            | true ↦ λ t w. let none : in_row None came row rows (next_row false rows child.element) ≡ None =
                when_true (not came && row.required) (next_row false rows child.element) t in cc
            | false ↦ λ t w.
                let later : in_row None came row rows (next_row false rows child.element)
                ≡ next_row false rows child.element =
                when_false (not came && row.required) (next_row false rows child.element) t in (
                  [],
                  child ∷ rest,
                  refl,
                  tt,
                  passed_over came row t,
                  not_begun rows (child ∷ rest) (row_follows rows false child x rest (sym later ∙ w) fit follows),
                )
          ]) refl
    ]) refl h

-- a child that fits behind rows, with what follows it
child_follows : (came : Bool) (rows : List ChildRow) (child : Child) (o : Option (Kind × List ChildRow)) (f : Forest)
    → next_row came rows child.element ≡ o
    → ((left : List ChildRow) → IsTrue (fits (in_order true left) f) → (has_text f ≡ false) × Follows true left (children_in f))
    → IsTrue (elim (after_row o) as (λ _. Bool) [ None ↦ false | Some x ↦ fits (start x.0) child.inner && fits x.1 f ])
    → (has_text f ≡ false) × Follows came rows (child ∷ children_in f)
child_follows came rows child None f is ih h = cc
child_follows came rows child (Some x) f is ih h =
    let both = and_true (fits (start x.0) child.inner) (fits (in_order true x.1) f) h in
    let rest = ih x.1 both.1 in
    (rest.0, row_follows rows came child x (children_in f) is both.0 rest.1)

pub fit_follows : (f : Forest) (came : Bool) (rows : List ChildRow) → IsTrue (fits (in_order came rows) f)
    → (has_text f ≡ false) × Follows came rows (children_in f)
fit_follows nothing came rows h = (refl, complete_follows came rows h)
fit_follows (text bytes f) came rows h = cc
fit_follows (opaque bytes f) came rows h = cc
fit_follows (bare e f) came rows h =
    child_follows came rows (record { element = e; inner = nothing }) (next_row came rows e) f refl
    (λ left. fit_follows f true left) h
fit_follows (full e inner f) came rows h =
    child_follows came rows (record { element = e; inner = inner }) (next_row came rows e) f refl
    (λ left. fit_follows f true left) h

-- ---- and back, where no element is named by two rows

abbrev pub are_apart_choices : Choice → Choice → Bool
are_apart_choices c (One e kind) = is_none (kind_in c e)
are_apart_choices (One e kind) Commands = is_none (command e)
are_apart_choices (One e kind) AtomicMembers = is_none (atomic_member e)
are_apart_choices (One e kind) SequenceMembers = is_none (sequence_member e)
are_apart_choices c d = false

abbrev is_apart : Choice → List ChildRow → Bool
is_apart c [] = true
is_apart c (row ∷ rows) = are_apart_choices c row.choice && is_apart c rows

abbrev are_apart : List ChildRow → Bool
are_apart [] = true
are_apart (row ∷ rows) = is_apart row.choice rows && are_apart rows

abbrev apart_content : Content → Bool
apart_content (in_order came rows) = are_apart rows
apart_content (in_any_order wrap came) = true
apart_content pieces = true

start_apart : (kind : Kind) → IsTrue (apart_content (start kind))
start_apart kinds.Message = refl
start_apart _ = refl

other_one : (one e : Element) (k kind : Kind) (o : Element → Option Kind) → IsTrue (is_none (o one)) → o e ≡ Some kind
    → (if same one e then Some k else None) ≡ None
other_one one e k kind o none is =
    elim (if same one e then Some k else None) as (λ x. (if same one e then Some k else None) ≡ x → x ≡ None) [
      | None ↦ λ w. refl
      | Some y ↦ λ w. let eq = of_same one e k y w in let never : o one ≡ None = none_of (o one) none in
          let here : o one ≡ Some kind = ap o eq.0 ∙ is in cc
    ] refl

apart_none : (c d : Choice) (e : Element) (kind : Kind) → IsTrue (are_apart_choices c d) → kind_in d e ≡ Some kind
    → kind_in c e ≡ None
apart_none c (One one k) e kind h is =
    subst (λ x. kind_in c x ≡ None) (of_same one e k kind is).0 (none_of (kind_in c one) h)
apart_none (One one k) Commands e kind h is = other_one one e k kind command h is
apart_none (One one k) AtomicMembers e kind h is = other_one one e k kind atomic_member h is
apart_none (One one k) SequenceMembers e kind h is = other_one one e k kind sequence_member h is
apart_none Commands Commands e kind h is = cc
apart_none Commands AtomicMembers e kind h is = cc
apart_none Commands SequenceMembers e kind h is = cc
apart_none AtomicMembers Commands e kind h is = cc
apart_none AtomicMembers AtomicMembers e kind h is = cc
apart_none AtomicMembers SequenceMembers e kind h is = cc
apart_none SequenceMembers Commands e kind h is = cc
apart_none SequenceMembers AtomicMembers e kind h is = cc
apart_none SequenceMembers SequenceMembers e kind h is = cc

-- the first of the children of later rows is of none that is apart from them
not_named : (rows : List ChildRow) (c : Choice) (child : Child) (all : List Child) → IsTrue (is_apart c rows)
    → FollowRows rows (child ∷ all) → kind_in c child.element ≡ None
not_named [] c child all h follows = cc
not_named (row ∷ rows) c child all h follows =
    let both = and_true (are_apart_choices c row.choice) (is_apart c rows) h in
    (elim follows.0 as (λ here. child ∷ all ≡ here ++ follows.1 → AllOf row.choice here
    → kind_in c child.element ≡ None) [
      | [] ↦ λ eq of. not_named rows c child all both.1 (subst (FollowRows rows) (sym eq) follows.5)
      | first ∷ here ↦ λ eq of.
          let is : first ≡ child = cc in
          let named : kind_in row.choice child.element ≡ Some of.0.0 =
          subst (λ x. kind_in row.choice x.element ≡ Some of.0.0) is of.0.1 in
          apart_none c row.choice child.element of.0.0 both.0 named
    ]) follows.2 follows.3

-- the child that comes first, and what follows it
record Next (came : Bool) (rows : List ChildRow) (child : Child) (all : List Child) : Type 0 where
  kind : Kind
  left : List ChildRow
  is : next_row came rows child.element ≡ Some (kind, left)
  fit : IsTrue (fits (start kind) child.inner)
  rest : Follows true left all
  apart : IsTrue (are_apart left)

may_come : (came : Bool) (row : ChildRow) (first : Child) (here : List Child) → IsLeft came row (first ∷ here)
    → (came && not row.many) ≡ false
may_come false row first here left = refl
may_come true row first here left =
    elim row.many as (λ (m : Bool). row.many ≡ m → not m ≡ false) [
      | true ↦ λ m. refl
      | false ↦ λ m. let none : first ∷ here ≡ [] = left m in cc
    ] refl

may_pass : (came : Bool) (row : ChildRow) → IsLeft came row [] → (not came && row.required) ≡ false
may_pass true row left = refl
may_pass false row left =
    elim row.required as (λ (r : Bool). row.required ≡ r → r ≡ false) [
      | false ↦ λ r. refl
      | true ↦ λ r. absurd (omega (arith, left.enough r))
    ] refl

empty_of : (here : List Child) → length here ≤ 0 → here ≡ []
empty_of [] h = refl
empty_of (c ∷ here) h = absurd (omega arith)

then_left : (came : Bool) (row : ChildRow) (first : Child) (here : List Child) → IsLeft came row (first ∷ here)
    → row.many ≡ false → here ≡ []
then_left true row first here left m = let none : first ∷ here ≡ [] = left m in cc
then_left false row first here left m = empty_of here (omega (arith, left.single m))

next_of : (rows : List ChildRow) (came : Bool) (child : Child) (all : List Child) → IsTrue (are_apart rows)
    → Follows came rows (child ∷ all) → Next came rows child all
next_of [] came child all h follows = cc
next_of (row ∷ rows) came child all h follows =
    let both = and_true (is_apart row.choice rows) (are_apart rows) h in
    (elim follows.0 as (λ here. child ∷ all ≡ here ++ follows.1 → AllOf row.choice here → IsLeft came row here
    → Next came (row ∷ rows) child all) [
      | first ∷ here ↦ λ eq of left.
          let is : first ≡ child = cc in
          let named : kind_in row.choice child.element ≡ Some of.0.0 =
          subst (λ x. kind_in row.choice x.element ≡ Some of.0.0) is of.0.1 in
          record {
            kind = of.0.0;
            left = row ∷ rows;
            is =
                ap (λ o. in_row o came row rows (next_row false rows child.element)) named
                ∙ ap (λ (t : Bool). if t then None else Some (of.0.0, row ∷ rows)) (may_come came row first here left);
            fit = subst (λ x. IsTrue (fits (start of.0.0) x.inner)) is of.0.2;
            rest = (here, follows.1, cc, of.1, then_left came row first here left, follows.5);
            apart = h;
          }
      | [] ↦ λ eq of left.
          let later : FollowRows rows (child ∷ all) = subst (FollowRows rows) (sym eq) follows.5 in
          let found = next_of rows false child all both.1 (begun rows (child ∷ all) later) in
          record {
            kind = found.kind;
            left = found.left;
            is =
                ap (λ o. in_row o came row rows (next_row false rows child.element))
                (not_named rows row.choice child all both.0 later)
                ∙ ap (λ (t : Bool). if t then None else next_row false rows child.element) (may_pass came row left)
                ∙ found.is;
            fit = found.fit;
            rest = found.rest;
            apart = found.apart;
          }
    ]) follows.2 follows.3 follows.4

nothing_here : (here rest : List Child) → [] ≡ here ++ rest → (here ≡ []) × (rest ≡ [])
nothing_here [] rest h = (refl, sym h)
nothing_here (c ∷ here) rest h = cc

optional_rows : (rows : List ChildRow) → FollowRows rows [] → IsTrue (all_optional rows)
optional_rows [] f = refl
optional_rows (row ∷ rows) f =
    let none = nothing_here f.0 f.1 f.2 in
    and_both (not row.required) (all_optional rows) (ap not (may_pass false row (subst (IsInNumber row) none.0 f.4)))
    (optional_rows rows (subst (FollowRows rows) none.1 f.5))

left_complete : (came : Bool) (row : ChildRow) → IsLeft came row [] → IsTrue (came || not row.required)
left_complete true row left = refl
left_complete false row left = ap not (may_pass false row left)

follows_complete : (came : Bool) (rows : List ChildRow) → Follows came rows [] → IsTrue (is_complete (in_order came rows))
follows_complete came [] f = refl
follows_complete came (row ∷ rows) f =
    let none = nothing_here f.0 f.1 f.2 in
    and_both (came || not row.required) (all_optional rows)
    (left_complete came row (subst (IsLeft came row) none.0 f.4))
    (optional_rows rows (subst (FollowRows rows) none.1 f.5))

fits_after : (came : Bool) (rows : List ChildRow) (e : Element) (kind : Kind) (left : List ChildRow) (inner f : Forest)
    → next_row came rows e ≡ Some (kind, left)
    → IsTrue (fits (start kind) inner) → IsTrue (fits (in_order true left) f)
    → IsTrue (elim (after_row (next_row came rows e)) as (λ _. Bool) [
      | None ↦ false
      | Some x ↦ fits (start x.0) inner && fits x.1 f
    ])
fits_after came rows e kind left inner f is a b =
    subst (λ o.
    IsTrue (elim (after_row o) as (λ _. Bool) [ None ↦ false | Some x ↦ fits (start x.0) inner && fits x.1 f ]))
    (sym is) (and_both (fits (start kind) inner) (fits (in_order true left) f) a b)

pub follows_fit : (f : Forest) (came : Bool) (rows : List ChildRow) → IsTrue (are_apart rows) → has_text f ≡ false
    → Follows came rows (children_in f) → IsTrue (fits (in_order came rows) f)
follows_fit nothing came rows h t follows = follows_complete came rows follows
follows_fit (text bytes f) came rows h t follows = cc
follows_fit (opaque bytes f) came rows h t follows = cc
follows_fit (bare e f) came rows h t follows =
    let next = next_of rows came (record { element = e; inner = nothing }) (children_in f) h follows in
    fits_after came rows e next.kind next.left nothing f next.is next.fit
    (follows_fit f true next.left next.apart t next.rest)
follows_fit (full e inner f) came rows h t follows =
    let next = next_of rows came (record { element = e; inner = inner }) (children_in f) h follows in
    fits_after came rows e next.kind next.left inner f next.is next.fit
    (follows_fit f true next.left next.apart t next.rest)

apart_of : (kind : Kind) (rows : List ChildRow) → start kind ≡ in_order false rows → IsTrue (are_apart rows)
apart_of kind rows is = subst (λ c. IsTrue (apart_content c)) is (start_apart kind)

pub fits_in_order : FitsInOrder
fits_in_order kind rows f is = (
  λ h. let both = fit_follows f false rows (subst (λ c. IsTrue (fits c f)) is h) in
      (both.0, not_begun rows (children_in f) both.1),
  λ both. subst (λ c. IsTrue (fits c f)) (sym is)
      (follows_fit f false rows (apart_of kind rows is) both.0 (begun rows (children_in f) both.1)),
)

pub document_in_order : DocumentInOrder
document_in_order f = (
  λ h. let both = fit_follows f false table.DOCUMENT h in (both.0, not_begun table.DOCUMENT (children_in f) both.1),
  λ both. follows_fit f false table.DOCUMENT refl both.0 (begun table.DOCUMENT (children_in f) both.1),
)
