-- What an element's rows say of the child that comes, of what must still come, and of what may not come again.
use Rattle.std.specs.Prelude.{◌≡◌, ◌⊎◌, ℕ, ◌+◌, ◌==◌, set, Bool, true, false, not, ◌&&◌, ◌||◌, if◌then◌else◌, List, []}
use Rattle.std.specs.Prelude.{◌∷◌, Option, Some, None, IsTrue, ⊤, refl}
use Rattle.std.proofs.Common.{sym, subst, inl, inr}
use Rattle.wbxml_tables.specs.declared.Element.{Element}
use Rattle.wbxml_tables.specs.declared.Element.TheVariants.{EAdd, EAlert, EAtomic, ECopy, EDelete, EExec, EGet, EMetInf}
use Rattle.wbxml_tables.specs.declared.Element.TheVariants.{EReplace, EResults, ESequence, EStatus}
use Rattle.syncml_shape.specs.declared.rows.Kind.{Kind}
use Rattle.syncml_shape.specs.declared.rows.Kind.TheVariants as kinds
use Rattle.syncml_shape.specs.declared.rows.Choice.{Choice}
use Rattle.syncml_shape.specs.declared.rows.Choice.TheVariants.{One, Commands, AtomicMembers, SequenceMembers}
use Rattle.syncml_shape.specs.declared.rows.ChildRow.{ChildRow}
use Rattle.syncml_shape.specs.declared.rows.MetaRow.{MetaRow}
use Rattle.syncml_shape.specs.declared.rows.TheConstants as table
use Rattle.syncml_shape.specs.Rows.{same, atomic_member, sequence_member, command, kind_in, Content, in_order}
use Rattle.syncml_shape.specs.Rows.{in_any_order, pieces, in_row, next_row, after_row, meta_place, after_meta}
use Rattle.syncml_shape.specs.Rows.{next_child}
use Rattle.syncml_shape.specs.Rows.{all_optional, is_complete}
use Rattle.syncml_shape.proofs.Accepts.{and_true}
use Rattle.syncml_shape.proofs.Names.{same_only, of_same}

-- ---- kinds by what is held

abbrev pub sort : Kind → ℕ
sort kinds.Message = 1
sort kinds.Header = 2
sort kinds.Body = 3
sort kinds.Plain = 4
sort kinds.Exec = 4
sort kinds.Alert = 5
sort kinds.Atomic = 6
sort kinds.Sequence = 7
sort kinds.Status = 8
sort kinds.Results = 9
sort kinds.Item = 10
sort kinds.Loc = 11
sort kinds.Cred = 12
sort kinds.Chal = 13
sort kinds.Meta = 14
sort kinds.MetInf = 14
sort kinds.Text = 20
sort kinds.Bytes = 20
sort kinds.Id = 21
sort kinds.Code = 21
sort kinds.Size = 22
sort kinds.Flag = 23

-- ---- a test that each child which may come passes

abbrev pub atomic_all : (Element → Kind → Bool) → Bool
atomic_all q =
    q EAdd kinds.Plain
    && q EAlert kinds.Alert
    && q ECopy kinds.Plain
    && q EDelete kinds.Plain
    && q EExec kinds.Exec
    && q EGet kinds.Plain
    && q EReplace kinds.Plain

abbrev pub sequence_all : (Element → Kind → Bool) → Bool
sequence_all q = q EAtomic kinds.Atomic && atomic_all q

abbrev pub commands_all : (Element → Kind → Bool) → Bool
commands_all q = q EResults kinds.Results && q ESequence kinds.Sequence && q EStatus kinds.Status && sequence_all q

abbrev pub choice_all : (Element → Kind → Bool) → Choice → Bool
choice_all q (One e kind) = q e kind
choice_all q Commands = commands_all q
choice_all q AtomicMembers = atomic_all q
choice_all q SequenceMembers = sequence_all q

abbrev pub rows_all : (Element → Kind → Bool) → List ChildRow → Bool
rows_all q [] = true
rows_all q (row ∷ rows) = choice_all q row.choice && rows_all q rows

abbrev pub meta_all : (Element → Kind → Bool) → List MetaRow → Bool
meta_all q [] = true
meta_all q (row ∷ rows) = q row.element row.kind && meta_all q rows

abbrev pub all_pass : (Element → Kind → Bool) → Content → Bool
all_pass q (in_order came rows) = rows_all q rows
all_pass q (in_any_order wrap came) = q EMetInf kinds.MetInf && meta_all q table.META
all_pass q pieces = true

some_is : (a b : Kind) → ◌≡◌ {A = Option Kind} (Some a) (Some b) → a ≡ b
some_is a b h = cc

passed : (q : Element → Kind → Bool) (e : Element) (a b : Kind) → ◌≡◌ {A = Option Kind} (Some a) (Some b) → q e a ≡ true
    → q e b ≡ true
passed q e a b h p = subst (λ k. q e k ≡ true) (some_is a b h) p

atomic_passes : (q : Element → Kind → Bool) (e : Element) (k : Kind) → atomic_all q ≡ true → atomic_member e ≡ Some k
    → q e k ≡ true
atomic_passes q EAdd k p h =
    passed q EAdd kinds.Plain k h
    (and_true _ _ (and_true _ _ (and_true _ _ (and_true _ _ (and_true _ _ (and_true _ _ p).0).0).0).0).0).0
atomic_passes q EAlert k p h =
    passed q EAlert kinds.Alert k h
    (and_true _ _ (and_true _ _ (and_true _ _ (and_true _ _ (and_true _ _ (and_true _ _ p).0).0).0).0).0).1
atomic_passes q ECopy k p h =
    passed q ECopy kinds.Plain k h
    (and_true _ _ (and_true _ _ (and_true _ _ (and_true _ _ (and_true _ _ p).0).0).0).0).1
atomic_passes q EDelete k p h =
    passed q EDelete kinds.Plain k h (and_true _ _ (and_true _ _ (and_true _ _ (and_true _ _ p).0).0).0).1
atomic_passes q EExec k p h = passed q EExec kinds.Exec k h (and_true _ _ (and_true _ _ (and_true _ _ p).0).0).1
atomic_passes q EGet k p h = passed q EGet kinds.Plain k h (and_true _ _ (and_true _ _ p).0).1
atomic_passes q EReplace k p h = passed q EReplace kinds.Plain k h (and_true _ _ p).1
atomic_passes q _ k p h = cc

sequence_passes : (q : Element → Kind → Bool) (e : Element) (k : Kind) → sequence_all q ≡ true
    → sequence_member e ≡ Some k → q e k ≡ true
sequence_passes q EAtomic k p h = passed q EAtomic kinds.Atomic k h (and_true _ _ p).0
sequence_passes q e k p h = atomic_passes q e k (and_true _ _ p).1 h

command_passes : (q : Element → Kind → Bool) (e : Element) (k : Kind) → commands_all q ≡ true → command e ≡ Some k
    → q e k ≡ true
command_passes q EResults k p h =
    passed q EResults kinds.Results k h (and_true _ _ (and_true _ _ (and_true _ _ p).0).0).0
command_passes q ESequence k p h =
    passed q ESequence kinds.Sequence k h (and_true _ _ (and_true _ _ (and_true _ _ p).0).0).1
command_passes q EStatus k p h = passed q EStatus kinds.Status k h (and_true _ _ (and_true _ _ p).0).1
command_passes q e k p h = sequence_passes q e k (and_true _ _ p).1 h

pub choice_passes : (q : Element → Kind → Bool) (c : Choice) (e : Element) (k : Kind) → choice_all q c ≡ true
    → kind_in c e ≡ Some k → q e k ≡ true
choice_passes q (One one kind) e k p h =
    let is = of_same one e kind k h in subst (λ n. q n k ≡ true) is.0 (subst (λ n. q one n ≡ true) is.1 p)
choice_passes q Commands e k p h = command_passes q e k p h
choice_passes q AtomicMembers e k p h = atomic_passes q e k p h
choice_passes q SequenceMembers e k p h = sequence_passes q e k p h

-- ---- children that must still come

abbrev pub rows_need : (Element → Kind → Bool) → Bool → List ChildRow → Bool
rows_need p came [] = false
rows_need p came (row ∷ rows) = ((not came && row.required) && choice_all p row.choice) || rows_need p false rows

abbrev pub needs : (Element → Kind → Bool) → Content → Bool
needs p (in_order came rows) = rows_need p came rows
needs p (in_any_order wrap came) = false
needs p pieces = false

optional_need : (p : Element → Kind → Bool) (rows : List ChildRow) → IsTrue (all_optional rows)
    → rows_need p false rows ≡ false
optional_need p [] h = refl
optional_need p (row ∷ rows) h =
    let both = and_true (not row.required) (all_optional rows) h in
    optional row.required (choice_all p row.choice) (rows_need p false rows) both.0 (optional_need p rows both.1)
  where
    optional : (r c m : Bool) → IsTrue (not r) → m ≡ false → (((not false && r) && c) || m) ≡ false
    optional true c m h e = cc
    optional false c m h e = e

-- nothing must come in what is complete
pub complete_needs : (p : Element → Kind → Bool) (content : Content) → IsTrue (is_complete content)
    → needs p content ≡ false
complete_needs p (in_order came []) h = refl
complete_needs p (in_order came (row ∷ rows)) h =
    let both = and_true (came || not row.required) (all_optional rows) h in
    over came row.required (choice_all p row.choice) (rows_need p false rows) both.0 (optional_need p rows both.1)
  where
    over : (a r c m : Bool) → IsTrue (a || not r) → m ≡ false → (((not a && r) && c) || m) ≡ false
    over true r c m h e = e
    over false true c m h e = cc
    over false false c m h e = e
complete_needs p (in_any_order wrap came) h = refl
complete_needs p pieces h = refl

-- ---- a row of which one child comes at most, and nothing behind it

abbrev pub is_item : Element → Kind → Bool
is_item e kind = sort kind == 10

abbrev pub is_last : List ChildRow → Bool
is_last [] = true
is_last (row ∷ rows) = false

abbrev pub rows_end : List ChildRow → Bool
rows_end [] = true
rows_end (row ∷ rows) =
    (choice_all (λ e k. not (is_item e k)) row.choice || (not row.many && is_last rows)) && rows_end rows

-- an Item comes last and once
abbrev pub ends_in_item : Content → Bool
ends_in_item (in_order came rows) = rows_end rows
ends_in_item (in_any_order wrap came) = false
ends_in_item pieces = false

-- no more children may come
abbrev pub has_ended : Content → Bool
has_ended (in_order came []) = false
has_ended (in_order came (row ∷ rows)) = came && (not row.many && is_last rows)
has_ended (in_any_order wrap came) = false
has_ended pieces = false

-- ---- a child that comes

pub record Came (content : Content) (e : Element) (x : Kind × Content) : Type 0 where
  -- a test that all pass
  pub passes : (q : Element → Kind → Bool) → all_pass q content ≡ true → (q e x.0 ≡ true) × (all_pass q x.1 ≡ true)
  -- what must come no longer is this child, or had to come no longer before
  pub met : (p : Element → Kind → Bool) → needs p x.1 ≡ false → (needs p content ≡ false) ⊎ (p e x.0 ≡ true)
  pub item : ends_in_item content ≡ true → (ends_in_item x.1 ≡ true) × (is_item e x.0 ≡ true → has_ended x.1 ≡ true)
  pub open_still : has_ended content ≡ true → ⊥

abbrev RowsPassed : (Element → Kind → Bool) → List ChildRow → Element → Option (Kind × List ChildRow) → Type 0
RowsPassed q rows e None = ⊤
RowsPassed q rows e (Some x) = (q e x.0 ≡ true) × (rows_all q x.1 ≡ true)

rows_passed : (q : Element → Kind → Bool) (rows : List ChildRow) (came : Bool) (e : Element) → rows_all q rows ≡ true
    → RowsPassed q rows e (next_row came rows e)
rows_passed q [] came e h = tt
rows_passed q (row ∷ rows) came e h =
    let both = and_true (choice_all q row.choice) (rows_all q rows) h in
    elim (kind_in row.choice e)
    as (λ o. kind_in row.choice e ≡ o → RowsPassed q (row ∷ rows) e (in_row o came row rows (next_row false rows e))) [
      | Some k ↦ λ is. own (came && not row.many) k (choice_passes q row.choice e k both.0 is)
      | None ↦ λ is. later (not came && row.required) (next_row false rows e) (rows_passed q rows false e both.1)
    ] refl
  where
    own : (b : Bool) (k : Kind) → q e k ≡ true → RowsPassed q (row ∷ rows) e (if b then None else Some (k, row ∷ rows))
    own true k is = tt
    own false k is = (is, h)

    later : (b : Bool) (o : Option (Kind × List ChildRow)) → RowsPassed q rows e o
        → RowsPassed q (row ∷ rows) e (if b then None else o)
    later true o r = tt
    later false None r = tt
    later false (Some x) r = r

abbrev RowsMet : (Element → Kind → Bool) → Bool → Element → Option (Kind × List ChildRow) → Type 0
RowsMet p need e None = ⊤
RowsMet p need e (Some x) = rows_need p true x.1 ≡ false → (need ≡ false) ⊎ (p e x.0 ≡ true)

rows_met : (p : Element → Kind → Bool) (rows : List ChildRow) (came : Bool) (e : Element)
    → RowsMet p (rows_need p came rows) e (next_row came rows e)
rows_met p [] came e = tt
rows_met p (row ∷ rows) came e =
    elim (kind_in row.choice e)
    as (λ o. kind_in row.choice e ≡ o
    → RowsMet p (rows_need p came (row ∷ rows)) e (in_row o came row rows (next_row false rows e))) [
      | Some k ↦ λ is. own (came && not row.many) k is
      | None ↦ λ is.
          later came row.required (choice_all p row.choice) (rows_need p false rows) (next_row false rows e)
          (rows_met p rows false e)
    ] refl
  where
    now : (k : Kind) (c m : Bool) → choice_all p row.choice ≡ c → kind_in row.choice e ≡ Some k → m ≡ false
        → ((((not came && row.required) && c) || m) ≡ false) ⊎ (p e k ≡ true)
    now k true m c is none = inr (choice_passes p row.choice e k c is)
    now k false m c is none = inl (needless (not came && row.required) m none)
      where
        needless : (a m : Bool) → m ≡ false → ((a && false) || m) ≡ false
        needless true m e = e
        needless false m e = e

    own : (b : Bool) (k : Kind) → kind_in row.choice e ≡ Some k
        → RowsMet p (rows_need p came (row ∷ rows)) e (if b then None else Some (k, row ∷ rows))
    own true k is = tt
    own false k is = λ none. now k (choice_all p row.choice) (rows_need p false rows) refl is none

    later : (a r c m : Bool) (o : Option (Kind × List ChildRow)) → RowsMet p m e o
        → RowsMet p (((not a && r) && c) || m) e (if not a && r then None else o)
    later false true c m o met = tt
    later false false c m o met = met
    later true r c m o met = met

abbrev RowsEnd : Element → Option (Kind × List ChildRow) → Type 0
RowsEnd e None = ⊤
RowsEnd e (Some x) = (rows_end x.1 ≡ true) × (is_item e x.0 ≡ true → has_ended (in_order true x.1) ≡ true)

rows_ended : (rows : List ChildRow) (came : Bool) (e : Element) → rows_end rows ≡ true → RowsEnd e (next_row came rows e)
rows_ended [] came e h = tt
rows_ended (row ∷ rows) came e h =
    let both =
    and_true (choice_all (λ e k. not (is_item e k)) row.choice || (not row.many && is_last rows)) (rows_end rows) h in
    elim (kind_in row.choice e)
    as (λ o. kind_in row.choice e ≡ o → RowsEnd e (in_row o came row rows (next_row false rows e))) [
      | Some k ↦ λ is. own (came && not row.many) k is
      | None ↦ λ is. later (not came && row.required) (next_row false rows e) (rows_ended rows false e both.1)
    ] refl
  where
    the_last : (c m : Bool) (k : Kind) → choice_all (λ e k. not (is_item e k)) row.choice ≡ c → (c || m) ≡ true
        → kind_in row.choice e ≡ Some k → is_item e k ≡ true → m ≡ true
    the_last true m k c h is item =
        absurd (no_item (is_item e k) (choice_passes (λ e k. not (is_item e k)) row.choice e k c is) item)
      where
        no_item : (b : Bool) → not b ≡ true → b ≡ true → ⊥
        no_item true h e = cc
        no_item false h e = cc
    the_last false m k c h is item = h

    own : (b : Bool) (k : Kind) → kind_in row.choice e ≡ Some k → RowsEnd e (if b then None else Some (k, row ∷ rows))
    own true k is = tt
    own false k is = (
      h,
      λ item. the_last (choice_all (λ e k. not (is_item e k)) row.choice) (not row.many && is_last rows) k refl
          (and_true _ _ h).0 is item,
    )

    later : (b : Bool) (o : Option (Kind × List ChildRow)) → RowsEnd e o → RowsEnd e (if b then None else o)
    later true o r = tt
    later false o r = r

pub not_so : {A : Type 0} → false ≡ true → A
not_so h = cc

no_more : (came : Bool) (rows : List ChildRow) (e : Element) (x : Kind × List ChildRow) → has_ended (in_order came rows) ≡ true
    → next_row came rows e ≡ Some x → ⊥
no_more came [] e x h is = cc
no_more came (row ∷ []) e x h is =
    let both = and_true came (not row.many && true) h in
    never (kind_in row.choice e) came both.0 (and_true _ _ both.1).0 is
  where
    refuse : (b : Bool) (y : Kind × List ChildRow) → b ≡ true → (if b then None else Some y) ≡ Some x → ⊥
    refuse true y h is = cc
    refuse false y h is = cc

    never : (o : Option Kind) (a : Bool) → a ≡ true → not row.many ≡ true → in_row o a row [] None ≡ Some x → ⊥
    never o false c n is = cc
    never (Some k) true c n is = refuse (not row.many) (k, row ∷ []) n is
    never None true c n is = cc
no_more came (row ∷ other ∷ rows) e x h is = not_so (and_true _ _ (and_true came (not row.many && false) h).1).1

-- the children of a Meta

abbrev MetaPassed : (Element → Kind → Bool) → Element → Option (Kind × ℕ) → Type 0
MetaPassed q e None = ⊤
MetaPassed q e (Some x) = q e x.0 ≡ true

meta_passed : (q : Element → Kind → Bool) (rows : List MetaRow) (came : List Bool) (n : ℕ) (e : Element)
    → meta_all q rows ≡ true → MetaPassed q e (meta_place n rows came e)
meta_passed q [] came n e h = tt
meta_passed q (row ∷ rows) [] n e h = tt
meta_passed q (row ∷ rows) (c ∷ came) n e h =
    let both = and_true (q row.element row.kind) (meta_all q rows) h in
    elim (same row.element e)
    as (λ (b : Bool). same row.element e ≡ b
    → MetaPassed q e (if b then (if c then None else Some (row.kind, n)) else meta_place (n + 1) rows came e)) [
      | true ↦ λ is. here c (subst (λ d. q d row.kind ≡ true) (same_only row.element e is) both.0)
      | false ↦ λ is. meta_passed q rows came (n + 1) e both.1
    ] refl
  where
    here : (c : Bool) → q e row.kind ≡ true → MetaPassed q e (if c then None else Some (row.kind, n))
    here true h = tt
    here false h = h

-- ---- the child that comes next

came_in_order : (came : Bool) (rows : List ChildRow) (e : Element) (o : Option (Kind × List ChildRow)) (x : Kind × Content)
    → next_row came rows e ≡ o → after_row o ≡ Some x → Came (in_order came rows) e x
came_in_order came rows e None x is h = cc
came_in_order came rows e (Some y) x is h =
    let same_next : (y.0, in_order true y.1) ≡ x = cc in
    subst (Came (in_order came rows) e) same_next (record {
      passes = λ q all. subst (RowsPassed q rows e) is (rows_passed q rows came e all);
      met = λ p none. subst (RowsMet p (rows_need p came rows) e) is (rows_met p rows came e) none;
      item = λ ends. subst (RowsEnd e) is (rows_ended rows came e ends);
      open_still = λ ended. no_more came rows e y ended is;
    })

came_in_meta : (wrap : Bool) (came : List Bool) (e : Element) (o : Option (Kind × ℕ)) (x : Kind × Content)
    → meta_place 0 table.META came e ≡ o → after_meta came o ≡ Some x → Came (in_any_order wrap came) e x
came_in_meta wrap came e None x is h = cc
came_in_meta wrap came e (Some y) x is h =
    let same_next : (y.0, in_any_order false (set came y.1 true)) ≡ x = cc in
    subst (Came (in_any_order wrap came) e) same_next (record {
      passes = λ q all. (subst (MetaPassed q e) is (meta_passed q table.META came 0 e (and_true _ _ all).1), all);
      met = λ p none. inl refl;
      item = λ ends. not_so ends;
      open_still = λ ended. cc;
    })

came_wrapped : (came : List Bool) (e : Element) (x : Kind × Content) → same e EMetInf ≡ true
    → (kinds.MetInf, in_order false []) ≡ x → Came (in_any_order true came) e x
came_wrapped came e x is h =
    subst (Came (in_any_order true came) e) h (record {
      passes = λ q all.
          (subst (λ d. q d kinds.MetInf ≡ true) (sym (same_only e EMetInf is)) (and_true _ _ all).0, refl);
      met = λ p none. inl refl;
      item = λ ends. not_so ends;
      open_still = λ ended. cc;
    })

pub came : (content : Content) (e : Element) (x : Kind × Content) → next_child content e ≡ Some x → Came content e x
came (in_order c rows) e x h = came_in_order c rows e (next_row c rows e) x refl h
came (in_any_order false c) e x h = came_in_meta false c e (meta_place 0 table.META c e) x refl h
came (in_any_order true c) e x h =
    (elim (same e EMetInf)
    as (λ (b : Bool). same e EMetInf ≡ b
    → (if b then Some (kinds.MetInf, in_order false []) else after_meta c (meta_place 0 table.META c e)) ≡ Some x
    → Came (in_any_order true c) e x) [
      | true ↦ λ is h'. came_wrapped c e x is cc
      | false ↦ λ is h'. came_in_meta true c e (meta_place 0 table.META c e) x refl h'
    ]) refl h
came pieces e x h = cc
