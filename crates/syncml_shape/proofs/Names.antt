-- The table names no tag that is refused for its name.
use Rattle.std.specs.Prelude.{◌≡◌, ℕ, ◌+◌, Bool, true, false, not, ◌&&◌, if◌then◌else◌, List, [], ◌∷◌, Option, Some}
use Rattle.std.specs.Prelude.{None, is_none, IsTrue, set, refl}
use Rattle.std.proofs.Common.{sym, subst}
use denote.Enum.Bare.{same_true}
use Rattle.wbxml_tables.specs.contracts.Element.{the_type}
use Rattle.wbxml_tables.specs.declared.Element.{Element}
use Rattle.wbxml_tables.specs.declared.Element.TheVariants.{EAdd, EAlert, EAtomic, ECopy, EDelete, EExec, EGet, EMetInf}
use Rattle.wbxml_tables.specs.declared.Element.TheVariants.{EReplace, EResults, ESequence, EStatus}
use Rattle.syncml_shape.specs.declared.rows.Kind.{Kind}
use Rattle.syncml_shape.specs.declared.rows.Kind.TheVariants as kinds
use Rattle.syncml_shape.specs.declared.rows.Choice.{Choice}
use Rattle.syncml_shape.specs.declared.rows.Choice.TheVariants.{One, Commands, AtomicMembers, SequenceMembers}
use Rattle.syncml_shape.specs.declared.rows.ChildRow.{ChildRow}
use Rattle.syncml_shape.specs.declared.rows.MetaRow.{MetaRow}
use Rattle.syncml_shape.specs.declared.rows.TheConstants as table
use Rattle.syncml_shape.specs.Rows.{same, atomic_member, sequence_member, command, kind_in, Content, in_order}
use Rattle.syncml_shape.specs.Rows.{in_any_order, pieces, start, in_row, next_row, after_row, meta_place, after_meta}
use Rattle.syncml_shape.specs.Rows.{next_child}
use Rattle.syncml_shape.specs.Faults.{tag_fault}
use Rattle.syncml_shape.proofs.Accepts.{and_true}
use Rattle.syncml_shape.proofs.Completes.{none_of}

pub same_only : (a b : Element) → same a b ≡ true → a ≡ b
same_only a b h = same_true the_type tt a b h

-- under this parent no element of the choice is refused for its name
abbrev pub allows : Option Element → Choice → Bool
allows p (One e kind) = is_none (tag_fault p e)
allows p Commands = is_none (tag_fault p EAtomic) && is_none (tag_fault p ESequence)
allows p AtomicMembers = true
allows p SequenceMembers = is_none (tag_fault p EAtomic)

abbrev pub allows_rows : Option Element → List ChildRow → Bool
allows_rows p [] = true
allows_rows p (row ∷ rows) = allows p row.choice && allows_rows p rows

abbrev pub allows_content : Option Element → Content → Bool
allows_content p (in_order came rows) = allows_rows p rows
allows_content p (in_any_order wrap came) = true
allows_content p pieces = true

-- and none of what these elements hold
abbrev pub is_sound : Choice → Bool
is_sound (One e kind) = allows_content (Some e) (start kind)
is_sound Commands = true
is_sound AtomicMembers = true
is_sound SequenceMembers = true

abbrev pub are_sound : List ChildRow → Bool
are_sound [] = true
are_sound (row ∷ rows) = is_sound row.choice && are_sound rows

abbrev pub is_sound_content : Content → Bool
is_sound_content (in_order came rows) = are_sound rows
is_sound_content (in_any_order wrap came) = true
is_sound_content pieces = true

pub start_sound : (kind : Kind) → IsTrue (is_sound_content (start kind))
start_sound kinds.Message = refl
start_sound _ = refl

atomic_allowed : (p : Option Element) (e : Element) (kind : Kind) → atomic_member e ≡ Some kind → tag_fault p e ≡ None
atomic_allowed p EAdd kind h = refl
atomic_allowed p EAlert kind h = refl
atomic_allowed p ECopy kind h = refl
atomic_allowed p EDelete kind h = refl
atomic_allowed p EExec kind h = refl
atomic_allowed p EGet kind h = refl
atomic_allowed p EReplace kind h = refl
atomic_allowed p _ kind h = cc

sequence_allowed : (p : Option Element) (e : Element) (kind : Kind) → IsTrue (is_none (tag_fault p EAtomic))
    → sequence_member e ≡ Some kind → tag_fault p e ≡ None
sequence_allowed p EAtomic kind a h = none_of (tag_fault p EAtomic) a
sequence_allowed p e kind a h = atomic_allowed p e kind h

command_allowed : (p : Option Element) (e : Element) (kind : Kind) → IsTrue (is_none (tag_fault p EAtomic))
    → IsTrue (is_none (tag_fault p ESequence)) → command e ≡ Some kind → tag_fault p e ≡ None
command_allowed p EResults kind a s h = refl
command_allowed p EStatus kind a s h = refl
command_allowed p ESequence kind a s h = none_of (tag_fault p ESequence) s
command_allowed p e kind a s h = sequence_allowed p e kind a h

pub of_same : (one e : Element) (held kind : Kind) → (if same one e then Some held else None) ≡ Some kind
    → (one ≡ e) × (held ≡ kind)
of_same one e held kind h =
    (elim (same one e)
    as (λ (b : Bool). same one e ≡ b → (if b then Some held else None) ≡ Some kind → (one ≡ e) × (held ≡ kind)) [
      | true ↦ λ w h'. (same_only one e w, cc)
      | false ↦ λ w h'. cc
    ]) refl h

pub allowed : (p : Option Element) (c : Choice) (e : Element) (kind : Kind) → IsTrue (allows p c)
    → kind_in c e ≡ Some kind → tag_fault p e ≡ None
allowed p (One one held) e kind a h =
    subst (λ x. tag_fault p x ≡ None) (of_same one e held kind h).0 (none_of (tag_fault p one) a)
allowed p Commands e kind a h =
    let both = and_true (is_none (tag_fault p EAtomic)) (is_none (tag_fault p ESequence)) a in
    command_allowed p e kind both.0 both.1 h
allowed p AtomicMembers e kind a h = atomic_allowed p e kind h
allowed p SequenceMembers e kind a h = sequence_allowed p e kind a h

-- what a member holds is allowed in it
abbrev Holds : Element → Option Kind → Type 0
Holds e None = Unit {0}
Holds e (Some kind) = IsTrue (allows_content (Some e) (start kind))

atomic_holds : (e : Element) → Holds e (atomic_member e)
atomic_holds EAdd = refl
atomic_holds EAlert = refl
atomic_holds ECopy = refl
atomic_holds EDelete = refl
atomic_holds EExec = refl
atomic_holds EGet = refl
atomic_holds EReplace = refl
atomic_holds _ = tt

sequence_holds : (e : Element) → Holds e (sequence_member e)
sequence_holds EAtomic = refl
sequence_holds e = atomic_holds e

command_holds : (e : Element) → Holds e (command e)
command_holds EResults = refl
command_holds EStatus = refl
command_holds ESequence = refl
command_holds e = sequence_holds e

held : (e : Element) (o : Option Kind) (kind : Kind) → Holds e o → o ≡ Some kind
    → IsTrue (allows_content (Some e) (start kind))
held e None kind a h = cc
held e (Some k) kind a h = let same_kind : k ≡ kind = cc in
    subst (λ x. IsTrue (allows_content (Some e) (start x))) same_kind a

pub child_allowed : (c : Choice) (e : Element) (kind : Kind) → IsTrue (is_sound c) → kind_in c e ≡ Some kind
    → IsTrue (allows_content (Some e) (start kind))
child_allowed (One one k) e kind a h =
    let is = of_same one e k kind h in
    subst (λ x. IsTrue (allows_content (Some e) (start x))) is.1
    (subst (λ x. IsTrue (allows_content (Some x) (start k))) is.0 a)
child_allowed Commands e kind a h = held e (command e) kind (command_holds e) h
child_allowed AtomicMembers e kind a h = held e (atomic_member e) kind (atomic_holds e) h
child_allowed SequenceMembers e kind a h = held e (sequence_member e) kind (sequence_holds e) h

-- no tag that may come in the content is refused for its name under the parent
pub record IsNamed (p : Option Element) (c : Content) : Type 0 where
  pub here : IsTrue (allows_content p c)
  pub below : IsTrue (is_sound_content c)

-- so it is of the child that came, of what may come behind it, and of what it holds
pub record IsNamedNext (p : Option Element) (e : Element) (x : Kind × Content) : Type 0 where
  pub faultless : tag_fault p e ≡ None
  pub rest : IsNamed p x.1
  pub child : IsNamed (Some e) (start x.0)

record IsNamedRow (p : Option Element) (e : Element) (x : Kind × List ChildRow) : Type 0 where
  faultless : tag_fault p e ≡ None
  here : IsTrue (allows_rows p x.1)
  below : IsTrue (are_sound x.1)
  child : IsTrue (allows_content (Some e) (start x.0))

named_row : (p : Option Element) (row : ChildRow) (rows : List ChildRow) (e : Element) (came : Bool) (o : Option Kind)
    (later : Option (Kind × List ChildRow)) (x : Kind × List ChildRow)
    → kind_in row.choice e ≡ o → IsTrue (allows_rows p (row ∷ rows)) → IsTrue (are_sound (row ∷ rows))
    → (later ≡ Some x → IsNamedRow p e x)
    → in_row o came row rows later ≡ Some x → IsNamedRow p e x
named_row p row rows e came (Some kind) later x k a s below h =
    let choice = and_true (allows p row.choice) (allows_rows p rows) a in
    let sound = and_true (is_sound row.choice) (are_sound rows) s in
    (elim (came && not row.many)
    as (λ (t : Bool). (if t then None else Some (kind, row ∷ rows)) ≡ Some x → IsNamedRow p e x) [
      | true ↦ λ w. cc
      | false ↦ λ w. let eq : (kind, row ∷ rows) ≡ x = cc in
          subst (IsNamedRow p e) eq
          (record {
            faultless = allowed p row.choice e kind choice.0 k;
            here = a;
            below = s;
            child = child_allowed row.choice e kind sound.0 k;
          })
    ]) h
named_row p row rows e came None later x k a s below h =
    (elim (not came && row.required) as (λ (t : Bool). (if t then None else later) ≡ Some x → IsNamedRow p e x) [
      | true ↦ λ w. cc
      | false ↦ below
    ]) h

named_rows : (rows : List ChildRow) (p : Option Element) (came : Bool) (e : Element) (x : Kind × List ChildRow)
    → IsTrue (allows_rows p rows) → IsTrue (are_sound rows)
    → next_row came rows e ≡ Some x → IsNamedRow p e x
named_rows [] p came e x a s h = cc
named_rows (row ∷ rows) p came e x a s h =
    named_row p row rows e came (kind_in row.choice e) (next_row false rows e) x refl a s
    (named_rows rows p false e x (and_true (allows p row.choice) (allows_rows p rows) a).1
    (and_true (is_sound row.choice) (are_sound rows) s).1) h

after_named : (p : Option Element) (e : Element) (o : Option (Kind × List ChildRow)) (x : Kind × Content)
    → ((y : Kind × List ChildRow) → o ≡ Some y → IsNamedRow p e y)
    → after_row o ≡ Some x → IsNamedNext p e x
after_named p e None x n h = cc
after_named p e (Some y) x n h =
    let was = n y refl in
    let eq : (y.0, in_order true y.1) ≡ x = cc in
    subst (IsNamedNext p e) eq
    (record {
      faultless = was.faultless;
      rest = record { here = was.here; below = was.below };
      child = record { here = was.child; below = start_sound y.0 };
    })

abbrev allows_meta : Option Element → List MetaRow → Bool
allows_meta p [] = true
allows_meta p (row ∷ rows) =
    (is_none (tag_fault p row.element) && allows_content (Some row.element) (start row.kind)) && allows_meta p rows

record IsNamedMeta (p : Option Element) (e : Element) (x : Kind × ℕ) : Type 0 where
  faultless : tag_fault p e ≡ None
  child : IsTrue (allows_content (Some e) (start x.0))

named_meta_row : (p : Option Element) (row : MetaRow) (e : Element) (n : ℕ) (c : Bool) (x : Kind × ℕ) → row.element ≡ e
    → IsTrue (is_none (tag_fault p row.element) && allows_content (Some row.element) (start row.kind))
    → (if c then None else Some (row.kind, n)) ≡ Some x → IsNamedMeta p e x
named_meta_row p row e n true x is a h = cc
named_meta_row p row e n false x is a h =
    let both = and_true (is_none (tag_fault p row.element)) (allows_content (Some row.element) (start row.kind)) a in
    let eq : (row.kind, n) ≡ x = cc in
    subst (IsNamedMeta p e) eq
    (subst (λ y. IsNamedMeta p y (row.kind, n)) is
    (record { faultless = none_of (tag_fault p row.element) both.0; child = both.1 }))

named_meta : (rows : List MetaRow) (p : Option Element) (came : List Bool) (e : Element) (n : ℕ) (x : Kind × ℕ)
    → IsTrue (allows_meta p rows)
    → meta_place n rows came e ≡ Some x → IsNamedMeta p e x
named_meta [] p came e n x a h = cc
named_meta (row ∷ rows) p [] e n x a h = cc
named_meta (row ∷ rows) p (c ∷ came) e n x a h =
    let both =
    and_true (is_none (tag_fault p row.element) && allows_content (Some row.element) (start row.kind))
    (allows_meta p rows) a in
    (elim (same row.element e)
    as (λ (t : Bool). same row.element e ≡ t
    → (if t then (if c then None else Some (row.kind, n)) else meta_place (n + 1) rows came e) ≡ Some x
    → IsNamedMeta p e x) [
      | true ↦ λ w. named_meta_row p row e n c x (same_only row.element e w) both.0
      | false ↦ λ w. named_meta rows p came e (n + 1) x both.1
    ]) refl h

after_meta_named : (p : Option Element) (e : Element) (came : List Bool) (o : Option (Kind × ℕ)) (x : Kind × Content)
    → ((y : Kind × ℕ) → o ≡ Some y → IsNamedMeta p e y)
    → after_meta came o ≡ Some x → IsNamedNext p e x
after_meta_named p e came None x n h = cc
after_meta_named p e came (Some y) x n h =
    let was = n y refl in
    let eq : (y.0, in_any_order false (set came y.1 true)) ≡ x = cc in
    subst (IsNamedNext p e) eq
    (record {
      faultless = was.faultless;
      rest = record { here = refl; below = refl };
      child = record { here = was.child; below = start_sound y.0 };
    })

wrap_named : (p : Option Element) (e : Element) (x : Kind × Content) → e ≡ EMetInf
    → Some (kinds.MetInf, in_order false []) ≡ Some x → IsNamedNext p e x
wrap_named p e x is h =
    let eq : (kinds.MetInf, in_order false []) ≡ x = cc in
    subst (IsNamedNext p e) eq
    (subst (λ y. IsNamedNext p y (kinds.MetInf, in_order false [])) (sym is)
    (record {
      faultless = refl;
      rest = record { here = refl; below = refl };
      child = record { here = refl; below = refl };
    }))

pub next_named : (c : Content) (p : Option Element) (e : Element) (x : Kind × Content) → IsNamed p c → next_child c e ≡ Some x
    → IsNamedNext p e x
next_named (in_order came rows) p e x n h =
    after_named p e (next_row came rows e) x (λ y. named_rows rows p came e y n.here n.below) h
next_named (in_any_order wrap came) p e x n h =
    (elim (wrap && same e EMetInf)
    as (λ (t : Bool). (wrap && same e EMetInf) ≡ t
    → (if t then Some (kinds.MetInf, in_order false []) else after_meta came (meta_place 0 table.META came e)) ≡ Some x
    → IsNamedNext p e x) [
      | true ↦ λ w. wrap_named p e x (same_only e EMetInf (and_true wrap (same e EMetInf) w).1)
      | false ↦ λ w.
          after_meta_named p e came (meta_place 0 table.META came e) x (λ y. named_meta table.META p came e 0 y refl)
    ]) refl h
next_named pieces p e x n h = cc
