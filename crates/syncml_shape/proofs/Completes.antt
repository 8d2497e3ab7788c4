-- What the steps have not refused can be completed.
use Rattle.std.specs.Prelude.{◌≡◌, ℕ, zero, suc, Bool, true, false, not, ◌&&◌, ◌||◌, if◌then◌else◌, List, [], ◌∷◌, ◌++◌}
use Rattle.std.specs.Prelude.{Option, Some, None, is_none, IsTrue, set, refl}
use Rattle.std.proofs.Common.{sym, ◌∙◌, ap, subst, append_assoc}
use Rattle.std.proofs.lemmas.List.{append_cancel_right}
use denote.Enum.Bare.{true_same}
use Rattle.wbxml_tables.specs.contracts.Element.{the_type}
use Rattle.wbxml_tables.specs.declared.Element.{Element}
use Rattle.wbxml_tables.specs.declared.Element.TheVariants.{EGet, EMetInf}
use Rattle.syncml_shape.specs.declared.rows.Kind.{Kind}
use Rattle.syncml_shape.specs.declared.rows.Kind.TheVariants as kinds
use Rattle.syncml_shape.specs.declared.rows.TheConstants as table
use Rattle.syncml_shape.specs.declared.rows.Choice.{Choice}
use Rattle.syncml_shape.specs.declared.rows.Choice.TheVariants.{One, Commands, AtomicMembers, SequenceMembers}
use Rattle.syncml_shape.specs.declared.rows.ChildRow.{ChildRow}
use Rattle.wbxml_tokens.specs.declared.token.Token.{Token}
use Rattle.wbxml_tokens.specs.declared.token.Token.TheVariants.{Tag, End, Text, Opaque}
use Rattle.syncml_shape.specs.Forest.{Forest, nothing, text, opaque, bare, full, spelling}
use Rattle.syncml_shape.specs.Rows.{Content, document, in_order, in_any_order, pieces, start, next_child, in_row}
use Rattle.syncml_shape.specs.Rows.{next_row}
use Rattle.syncml_shape.specs.Rows.{after_row, after_meta, meta_place, kind_in, is_complete, takes_text, same}
use Rattle.syncml_shape.specs.Shape.{fits, IsViable}
use Rattle.syncml_shape.specs.Steps.{Open, content_child, content_step, then_steps, steps, spellings, AllFit, Closes}
use Rattle.syncml_shape.proofs.Contents.{steps-append}
use Rattle.syncml_shape.proofs.Accepts.{and_true, steps-spelling, closes}

-- an element of a row, and what it holds
abbrev example_of : Choice → Element
example_of (One e kind) = e
example_of Commands = EGet
example_of AtomicMembers = EGet
example_of SequenceMembers = EGet

abbrev example_kind : Choice → Kind
example_kind (One e kind) = kind
example_kind Commands = kinds.Plain
example_kind AtomicMembers = kinds.Plain
example_kind SequenceMembers = kinds.Plain

-- one element for each row that still wants one
abbrev finish_rows : (Kind → Forest) → Bool → List ChildRow → Forest
finish_rows ex came [] = nothing
finish_rows ex came (row ∷ rows) =
    if not came && row.required
    then full (example_of row.choice) (ex (example_kind row.choice)) (finish_rows ex false rows)
    else finish_rows ex false rows

abbrev finish : (Kind → Forest) → Content → Forest
finish ex (in_order came rows) = finish_rows ex came rows
finish ex (in_any_order wrap came) = nothing
finish ex pieces = nothing

abbrev examples : ℕ → Kind → Forest
examples zero kind = nothing
examples (suc n) kind = finish (examples n) (start kind)

abbrev example : Kind → Forest
example = examples 6

example_fits : (kind : Kind) → IsTrue (fits (start kind) (example kind))
example_fits kinds.Message = refl
example_fits _ = refl

-- no later row has what this row has
abbrev avoids : Choice → List ChildRow → Bool
avoids c [] = true
avoids c (row ∷ rows) = is_none (kind_in c (example_of row.choice)) && avoids c rows

abbrev are_distinct : List ChildRow → Bool
are_distinct [] = true
are_distinct (row ∷ rows) = avoids row.choice rows && are_distinct rows

abbrev IsGood : Content → Type 0
IsGood (in_order came rows) = IsTrue (are_distinct rows)
IsGood (in_any_order wrap came) = Unit {0}
IsGood pieces = Unit {0}

start_good : (kind : Kind) → IsGood (start kind)
start_good kinds.Meta = tt
start_good kinds.MetInf = tt
start_good kinds.Text = tt
start_good kinds.Bytes = tt
start_good kinds.Id = tt
start_good kinds.Code = tt
start_good kinds.Size = tt
start_good _ = refl

-- the tree begins with no element that the row has
abbrev BeginsOutside : Choice → Forest → Type 0
BeginsOutside c nothing = Unit {0}
BeginsOutside c (text bytes rest) = ⊥
BeginsOutside c (opaque bytes rest) = ⊥
BeginsOutside c (bare e rest) = kind_in c e ≡ None
BeginsOutside c (full e inner rest) = kind_in c e ≡ None

pub none_of : {A : Type 0} (o : Option A) → IsTrue (is_none o) → o ≡ None
none_of None h = refl
none_of (Some x) h = cc

finish_outside : (ex : Kind → Forest) (c : Choice) (rows : List ChildRow) → IsTrue (avoids c rows)
    → BeginsOutside c (finish_rows ex false rows)
finish_outside ex c [] h = tt
finish_outside ex c (row ∷ rows) h =
    let both = and_true (is_none (kind_in c (example_of row.choice))) (avoids c rows) h in
    elim row.required
    as (λ b. BeginsOutside c (if not false && b
    then full (example_of row.choice) (ex (example_kind row.choice)) (finish_rows ex false rows)
    else finish_rows ex false rows)) [
      | true ↦ none_of (kind_in c (example_of row.choice)) both.0
      | false ↦ finish_outside ex c rows both.1
    ]

or_of : (a b : Bool) → (not a && b) ≡ false → a || not b ≡ true
or_of true b h = refl
or_of false true h = cc
or_of false false h = refl

complete_after : (came : Bool) (row : ChildRow) (rows : List ChildRow) → (not came && row.required) ≡ false
    → is_complete (in_order came (row ∷ rows)) ≡ is_complete (in_order false rows)
complete_after came row [] h = rw (or_of came row.required h)
complete_after came row (r ∷ rows) h = rw (or_of came row.required h)

next_after : (came : Bool) (row : ChildRow) (rows : List ChildRow) (e : Element) → (not came && row.required) ≡ false
    → kind_in row.choice e ≡ None → next_child (in_order came (row ∷ rows)) e ≡ next_child (in_order false rows) e
next_after came row rows e h n =
    ap (λ o. after_row (in_row o came row rows (next_row false rows e))) n
    ∙ ap (λ (t : Bool). after_row (if t then None else next_row false rows e)) h

-- what begins outside a row that is not wanted any more is what the later rows allow
skip : (came : Bool) (row : ChildRow) (rows : List ChildRow) (f : Forest) → (not came && row.required) ≡ false
    → BeginsOutside row.choice f → IsTrue (fits (in_order false rows) f) → IsTrue (fits (in_order came (row ∷ rows)) f)
skip came row rows nothing h o fit = complete_after came row rows h ∙ fit
skip came row rows (text b f) h o fit = absurd o
skip came row rows (opaque b f) h o fit = absurd o
skip came row rows (bare e f) h o fit = rw (next_after came row rows e h o, fits) fit
skip came row rows (full e i f) h o fit = rw (next_after came row rows e h o, fits) fit

eq-same : (e : Element) → same e e ≡ true
eq-same e = true_same the_type e e refl

own_kind : (c : Choice) → kind_in c (example_of c) ≡ Some (example_kind c)
own_kind (One e kind) = rw (eq-same e)
own_kind Commands = refl
own_kind AtomicMembers = refl
own_kind SequenceMembers = refl

pub and_both : (a b : Bool) → IsTrue a → IsTrue b → IsTrue (a && b)
and_both true b p q = q
and_both false b p q = cc

next_own : (came : Bool) (row : ChildRow) (rows : List ChildRow) → came ≡ false
    → next_child (in_order came (row ∷ rows)) (example_of row.choice)
    ≡ Some (example_kind row.choice, in_order true (row ∷ rows))
next_own came row rows w =
    ap (λ o. after_row (in_row o came row rows (next_row false rows (example_of row.choice)))) (own_kind row.choice)
    ∙ ap (λ (m : Bool). after_row (if m && not row.many then None else Some (example_kind row.choice, row ∷ rows))) w

fits_full : (c : Content) (e : Element) (x : Kind × Content) (i f : Forest) → next_child c e ≡ Some x
    → IsTrue (fits (start x.0) i) → IsTrue (fits x.1 f) → IsTrue (fits c (full e i f))
fits_full c e x i f n p q = rw (n, fits) (and_both (fits (start x.0) i) (fits x.1 f) p q)

and_false : (a b : Bool) → (not a && b) ≡ true → a ≡ false
and_false true b h = cc
and_false false b h = refl

finish_fits : (rows : List ChildRow) (came : Bool) → IsTrue (are_distinct rows)
    → IsTrue (fits (in_order came rows) (finish_rows example came rows))
finish_fits [] came h = refl
finish_fits (row ∷ rows) came h =
    let both = and_true (avoids row.choice rows) (are_distinct rows) h in
    let outside = finish_outside example row.choice rows both.0 in
    (elim (not came && row.required)
    as (λ t. (not came && row.required) ≡ t
    → IsTrue (fits (in_order came (row ∷ rows))
    (if t then full (example_of row.choice) (example (example_kind row.choice)) (finish_rows example false rows)
    else finish_rows example false rows))) [
      | true ↦ λ w.
          fits_full (in_order came (row ∷ rows)) (example_of row.choice)
          (example_kind row.choice, in_order true (row ∷ rows)) (example (example_kind row.choice))
          (finish_rows example false rows) (next_own came row rows (and_false came row.required w))
          (example_fits (example_kind row.choice))
          (skip true row rows (finish_rows example false rows) refl outside (finish_fits rows false both.1))
      | false ↦ λ w. skip came row rows (finish_rows example false rows) w outside (finish_fits rows false both.1)
    ]) refl

content_finish : (c : Content) → IsGood c → IsTrue (fits c (finish example c))
content_finish (in_order came rows) g = finish_fits rows came g
content_finish (in_any_order wrap came) g = refl
content_finish pieces g = refl

in_row_good : (o : Option Kind) (came : Bool) (row : ChildRow) (rows : List ChildRow) (later : Option (Kind × List ChildRow))
    (x : Kind × List ChildRow) → IsTrue (are_distinct (row ∷ rows)) → (later ≡ Some x → IsTrue (are_distinct x.1))
    → in_row o came row rows later ≡ Some x → IsTrue (are_distinct x.1)
in_row_good (Some kind) came row rows later x g below h =
    (elim (came && not row.many)
    as (λ (t : Bool). (if t then None else Some (kind, row ∷ rows)) ≡ Some x → IsTrue (are_distinct x.1)) [
      | true ↦ λ w. cc
      | false ↦ λ w. let e : row ∷ rows ≡ x.1 = cc in subst (λ r. IsTrue (are_distinct r)) e g
    ]) h
in_row_good None came row rows later x g below h =
    (elim (not came && row.required)
    as (λ (t : Bool). (if t then None else later) ≡ Some x → IsTrue (are_distinct x.1)) [
      | true ↦ λ w. cc
      | false ↦ below
    ]) h

next_row_good : (rows : List ChildRow) (came : Bool) (e : Element) (x : Kind × List ChildRow) → IsTrue (are_distinct rows)
    → next_row came rows e ≡ Some x → IsTrue (are_distinct x.1)
next_row_good [] came e x g h = cc
next_row_good (row ∷ rows) came e x g h =
    in_row_good (kind_in row.choice e) came row rows (next_row false rows e) x g
    (next_row_good rows false e x (and_true (avoids row.choice rows) (are_distinct rows) g).1) h

after_row_good : (o : Option (Kind × List ChildRow)) (x : Kind × Content)
    → ((y : Kind × List ChildRow) → o ≡ Some y → IsTrue (are_distinct y.1)) → after_row o ≡ Some x → IsGood x.1
after_row_good None x g h = cc
after_row_good (Some y) x g h = let e : in_order true y.1 ≡ x.1 = cc in subst IsGood e (g y refl)

after_meta_good : (came : List Bool) (o : Option (Kind × ℕ)) (x : Kind × Content) → after_meta came o ≡ Some x
    → IsGood x.1
after_meta_good came None x h = cc
after_meta_good came (Some y) x h = let eq : in_any_order false (set came y.1 true) ≡ x.1 = cc in subst IsGood eq tt

next_good : (c : Content) (e : Element) (x : Kind × Content) → IsGood c → next_child c e ≡ Some x → IsGood x.1
next_good (in_order came rows) e x g h = after_row_good (next_row came rows e) x (λ y. next_row_good rows came e y g) h
next_good (in_any_order wrap came) e x g h =
    (elim (wrap && same e EMetInf)
    as (λ (t : Bool).
    (if t then Some (kinds.MetInf, in_order false []) else after_meta came (meta_place 0 table.META came e)) ≡ Some x
    → IsGood x.1) [
      | true ↦ λ w. let eq : in_order false [] ≡ x.1 = cc in subst IsGood eq refl
      | false ↦ after_meta_good came (meta_place 0 table.META came e) x
    ]) h
next_good pieces e x g h = cc

abbrev AllGood : Open → Type 0
AllGood [] = Unit {0}
AllGood (c ∷ s) = IsGood c × AllGood s

with_child_good : (s : Open) (b : Bool) (o : Option (Kind × Content)) (s' : Open) → AllGood s
    → ((x : Kind × Content) → o ≡ Some x → IsGood x.1) → content_child s b o ≡ Some s' → AllGood s'
with_child_good s b None s' g n h = cc
with_child_good s true (Some x) s' g n h = let e : start x.0 ∷ x.1 ∷ s ≡ s' = cc in
    subst AllGood e (start_good x.0, (n x refl, g))
with_child_good s false (Some x) s' g n h =
    (elim (is_complete (start x.0)) as (λ (t : Bool). (if t then Some (x.1 ∷ s) else None) ≡ Some s' → AllGood s') [
      | true ↦ λ w. let e : x.1 ∷ s ≡ s' = cc in subst AllGood e (n x refl, g)
      | false ↦ λ w. cc
    ]) h

if_good : (t : Bool) (s s' : Open) → AllGood s → (if t then Some s else None) ≡ Some s' → AllGood s'
if_good true s s' g h = let e : s ≡ s' = cc in subst AllGood e g
if_good false s s' g h = cc

step_good : (t : Token) (s s' : Open) → AllGood s → content_step s t ≡ Some s' → AllGood s'
step_good t [] s' g h = cc
step_good End (c ∷ s) s' g h = if_good (is_complete c) s s' g.1 h
step_good (Text b) (c ∷ s) s' g h = if_good (takes_text c) (c ∷ s) s' g h
step_good (Opaque b) (c ∷ s) s' g h = if_good (takes_text c) (c ∷ s) s' g h
step_good (Tag e b) (c ∷ s) s' g h = with_child_good s b (next_child c e) s' g.1 (λ x. next_good c e x g.0) h

steps_good : (l : List Token) (s s' : Open) → AllGood s → steps s l ≡ Some s' → AllGood s'
steps_good [] s s' g h = let e : s ≡ s' = cc in subst AllGood e g
steps_good (t ∷ l) s s' g h =
    (elim (content_step s t) as (λ o. content_step s t ≡ o → then_steps o (λ m. steps m l) ≡ Some s' → AllGood s') [
      | None ↦ λ w h'. cc
      | Some m ↦ λ w h'. steps_good l m s' (step_good t s m g w) h'
    ]) refl h

-- the tokens that end all open elements
abbrev ending : Open → List Token
ending [] = []
ending (c ∷ s) = spelling (finish example c) ++ End ∷ ending s

-- the same without the last END
abbrev ending_before : Content → Open → List Token
ending_before c [] = spelling (finish example c)
ending_before c (d ∷ s) = spelling (finish example c) ++ End ∷ ending_before d s

ending-is : (c : Content) (s : Open) → ending (c ∷ s) ≡ ending_before c s ++ End ∷ []
ending-is c [] = refl
ending-is c (d ∷ s) =
    ap (λ l. spelling (finish example c) ++ End ∷ l) (ending-is d s)
    ∙ sym (append_assoc (spelling (finish example c)) (End ∷ ending_before d s) (End ∷ []))

steps-ending : (s : Open) → AllGood s → steps s (ending s) ≡ Some []
steps-ending [] g = refl
steps-ending (c ∷ s) g = steps-spelling (finish example c) c s (ending s) (content_finish c g.0) ∙ steps-ending s g.1

-- one tree, where one element is closed
pub one_tree : (c : Content) (l : List Token) → Closes (c ∷ []) l → (f : Forest) × (l ≡ spelling f ++ End ∷ [])
    × IsTrue (fits c f)
one_tree c l r =
    elim r.trees as (λ fs. l ≡ spellings fs → AllFit (c ∷ []) fs → (f : Forest) × (l ≡ spelling f ++ End ∷ [])
    × IsTrue (fits c f)) [
      | [] ↦ λ e a. absurd a
      | f ∷ [] ↦ λ e a. (f, e, a.0)
      | f ∷ g ∷ fs ↦ λ e a. absurd a.1
    ] r.spelled r.fit

-- the elements open after the tokens of a document, where they begin one
abbrev pub opened : List Token → Option Open
opened l = steps (document ∷ []) l

document_good : AllGood (document ∷ [])
document_good = (refl, tt)

pub viable-if : (l : List Token) (c : Content) (s : Open) → opened l ≡ Some (c ∷ s) → IsViable l
viable-if l c s h =
    let closed : opened (l ++ ending (c ∷ s)) ≡ Some [] =
    steps-append (document ∷ []) l (ending (c ∷ s)) ∙ ap (λ o. then_steps o (λ m. steps m (ending (c ∷ s)))) h
    ∙ steps-ending (c ∷ s) (steps_good l (document ∷ []) (c ∷ s) document_good h) in
    let tree = one_tree document (l ++ ending (c ∷ s)) (closes (l ++ ending (c ∷ s)) (document ∷ []) closed) in
    let whole : (l ++ ending_before c s) ++ End ∷ [] ≡ spelling tree.0 ++ End ∷ [] =
    append_assoc l (ending_before c s) (End ∷ []) ∙ ap (λ m. l ++ m) (sym (ending-is c s)) ∙ tree.1 in (
      ending_before c s,
      tree.0,
      record {
        spelled = append_cancel_right (l ++ ending_before c s) (spelling tree.0) (End ∷ []) whole;
        fitting = tree.2;
      },
    )

stops : (l : List Token) → steps [] (l ++ End ∷ []) ≡ Some [] → ⊥
stops [] h = cc
stops (t ∷ l) h = cc

pub viable-only : (l : List Token) → IsViable l → (c : Content) × (s : Open) × (opened l ≡ Some (c ∷ s))
viable-only l v =
    let more = v.0 in
    let tree = v.1 in
    let closed : opened (l ++ (more ++ End ∷ [])) ≡ Some [] =
    ap opened (sym (append_assoc l more (End ∷ [])) ∙ ap (λ m. m ++ End ∷ []) v.2.spelled)
    ∙ steps-spelling tree document [] [] v.2.fitting in
    let split : then_steps (opened l) (λ m. steps m (more ++ End ∷ [])) ≡ Some [] =
    sym (steps-append (document ∷ []) l (more ++ End ∷ [])) ∙ closed in
    (elim (opened l)
    as (λ o. then_steps o (λ m. steps m (more ++ End ∷ [])) ≡ Some []
    → (c : Content) × (s : Open) × (o ≡ Some (c ∷ s))) [
      | None ↦ λ w. cc
      | Some [] ↦ λ w. absurd (stops more w)
      | Some (c ∷ s) ↦ λ w. (c, s, refl)
    ]) split
