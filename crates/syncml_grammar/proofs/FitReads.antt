-- What the texts of a document's tree read as is fit.
use Rattle.std.specs.Prelude.{◌≡◌, ◌≤◌, ◌==◌, ◌&&◌, ◌||◌, ◌+◌, ℕ, Bool, true, false, not, nat_le, if◌then◌else◌, List}
use Rattle.std.specs.Prelude.{[], ◌∷◌, ◌++◌, length, Option, Some, None, IfSome, Result, Ok, Err, IsTrue, refl}
use Rattle.std.proofs.Common.{sym, ap, subst, ◌∙◌, inl, arith}
use Rattle.std.proofs.lemmas.Bool.{eqb-true, leb-true, leb-false, or_right}
use Rattle.std.proofs.lemmas.List.{length-append}
use Rattle.std.proofs.lemmas.Str.{is_utf8-from_IsUtf8, IsUtf8-nil}
use Rattle.std.specs.Str.{is_utf8}
use Rattle.std.specs.List.{AllByRecursion}
use Rattle.std.specs.Option.{is_none}
use Rattle.dm_base.specs.Limits.{text_limit}
use Rattle.wbxml_tables.specs.declared.Element.{Element}
use Rattle.wbxml_tables.specs.declared.Element.TheVariants.{ESyncML}
use Rattle.wbxml_tokens.specs.declared.reason.Reason.{Reason}
use Rattle.wbxml_tokens.specs.declared.reason.Reason.TheVariants.{Misplaced}
use Rattle.wbxml_tokens.specs.declared.reason.Reason.TheVariants as reasons
use Rattle.wbxml_tokens.specs.declared.token.Token.{Token}
use Rattle.wbxml_tokens.specs.declared.token.Token.TheVariants.{End}
use Rattle.syncml_shape.specs.declared.rows.Kind.{Kind}
use Rattle.syncml_shape.specs.declared.rows.Kind.TheVariants as kinds
use Rattle.syncml_shape.specs.declared.rows.TheConstants as table
use Rattle.syncml_shape.specs.Forest.{Forest, nothing, text, opaque, bare, full, spelling}
use Rattle.syncml_shape.specs.declared.rows.Choice.TheVariants.{One}
use Rattle.syncml_shape.specs.Rows.{same, Content, in_order, document, start, in_row, after_row, next_child}
use Rattle.syncml_shape.specs.Rows.{is_complete}
use Rattle.syncml_shape.specs.Rows.{takes_text}
use Rattle.syncml_shape.specs.Shape.{fits}
use Rattle.syncml_shape.proofs.Accepts.{and_true}
use Rattle.syncml_shape.proofs.Completes.{and_both}
use Rattle.syncml_types.specs.Message.{Parts}
use Rattle.syncml_types.specs.Canonical.{is_text}
use Rattle.syncml_types.specs.Fitness.{is_in_limit, is_number, IsFit}
use Rattle.syncml_types.specs.Verbs.{is_exec}
use Rattle.syncml_types.specs.declared.values.Header.{Header}
use Rattle.syncml_grammar.specs.declared.leaf.Leaf.{Leaf}
use Rattle.syncml_grammar.specs.declared.leaf.Leaf.TheVariants as leaves
use Rattle.syncml_grammar.specs.declared.leaf.Simple.{Simple}
use Rattle.syncml_grammar.specs.declared.leaf.Simple.TheVariants as simples
use Rattle.syncml_grammar.specs.declared.draft.MessageDraft.{MessageDraft}
use Rattle.syncml_grammar.specs.declared.draft.Draft.{Draft}
use Rattle.syncml_grammar.specs.declared.draft.Draft.TheVariants as draft
use Rattle.syncml_grammar.specs.Numbers.{number_in}
use Rattle.syncml_grammar.specs.Leaves.{short_number, ranged, closed_text, closed_number, closed_leaf}
use Rattle.syncml_grammar.specs.Drafts.{verb_of}
use Rattle.syncml_grammar.specs.Simples.{with_short, with_long, with_flag}
use Rattle.syncml_grammar.specs.Simples.{with_text as with_simple_text}
use Rattle.syncml_grammar.specs.Nodes.{with_inner}
use Rattle.syncml_grammar.specs.Values.{Value, of_leaf, of_draft, EndedElement, simple, node, fresh_value, with_text}
use Rattle.syncml_grammar.specs.Values.{simply, closed_value}
use Rattle.syncml_grammar.specs.Values.{draft_with, with_child}
use Rattle.syncml_grammar.specs.Reads.{Unread, ◌then◌, at_place, read, parts_from, parts_held}
use Rattle.syncml_grammar.specs.Building.{text_length}
use Rattle.syncml_grammar.specs.Laws.{ReadIsFit}
use Rattle.syncml_grammar.proofs.FitRows.{not_so, sort, all_pass, complete_needs, Came, came}
use Rattle.syncml_grammar.proofs.FitParts.{is_header, FitCommand, FitText, Ended, FitHeader, FitMessage, parts_fit}
use Rattle.syncml_grammar.proofs.FitSteps.{FitDraft, draft_sort, FitSimple, FitWhole, child_test, draft_step}

-- ---- what an open element holds

-- the elements of an Exec are those whose verb it is
abbrev pub verb_fits : Element → Kind → Bool
verb_fits e kinds.Plain = not (is_exec (verb_of e))
verb_fits e kinds.Exec = is_exec (verb_of e)
verb_fits e other = true

start_verbs : (k : Kind) → all_pass verb_fits (start k) ≡ true
start_verbs kinds.Message = refl
start_verbs _ = refl

abbrev FitLeaf : Kind → Leaf → Type 0
FitLeaf k (leaves.Text bytes) = sort k ≡ 20
FitLeaf k (leaves.Number digits) = ((sort k == 21) || (sort k == 22)) ≡ true
FitLeaf k leaves.Flag = sort k ≡ 23

abbrev FitValue : Kind → Content → Value → Type 0
FitValue k content (of_leaf leaf) = FitLeaf k leaf
FitValue k content (of_draft d) =
    (sort k ≡ draft_sort d) × (all_pass (child_test d) content ≡ true) × FitDraft content d

abbrev length_in : Value → ℕ
length_in (of_leaf (leaves.Text bytes)) = length bytes
length_in (of_leaf (leaves.Number digits)) = 0
length_in (of_leaf leaves.Flag) = 0
length_in (of_draft d) = 0

-- ---- before the first child

never : {A : Type 0} → true ≡ false → A
never h = cc

no_text : FitText []
no_text = record { plain = and_both (is_utf8 []) true (is_utf8-from_IsUtf8 [] IsUtf8-nil) refl; short = refl }

not_both : {A : Type 0} (b : Bool) → not b ≡ true → b ≡ true → A
not_both true h k = cc
not_both false h k = cc

fresh_fits : (k : Kind) (e : Element) → verb_fits e k ≡ true → FitValue k (start k) (fresh_value k e)
fresh_fits kinds.Message e v = (refl, refl, record { header = tt; present = λ h. never h; body = tt })
fresh_fits kinds.Header e v = (
  refl,
  refl,
  record {
    dtd = no_text;
    proto = no_text;
    session = no_text;
    target = record { uri = no_text; name = tt };
    source = record { uri = no_text; name = tt };
    resp_uri = tt;
    cred = tt;
    meta = tt;
    msg = λ h. never h;
  },
)
fresh_fits kinds.Body e v = (refl, refl, tt)
fresh_fits kinds.Plain e v = (
  refl,
  refl,
  record {
    meta = tt;
    correlator = tt;
    items = tt;
    id = λ h. never h;
    filled = λ h. never h;
    single = λ exec. not_both (is_exec (verb_of e)) v exec;
    correlates = or_right (is_exec (verb_of e)) true refl;
  },
)
fresh_fits kinds.Exec e v = (
  refl,
  and_both (is_exec (verb_of e)) true v refl,
  record {
    meta = tt;
    correlator = tt;
    items = tt;
    id = λ h. never h;
    filled = λ h. never h;
    single = λ exec. (refl, inl refl);
    correlates = or_right (is_exec (verb_of e)) true refl;
  },
)
fresh_fits kinds.Alert e v = (refl, refl, record { correlator = tt; items = tt; id = λ h. never h })
fresh_fits kinds.Atomic e v = (refl, refl, record { meta = tt; members = tt; id = λ h. never h; filled = λ h. never h })
fresh_fits kinds.Sequence e v =
    (refl, refl, record { meta = tt; members = tt; id = λ h. never h; filled = λ h. never h })
fresh_fits kinds.Status e v = (
  refl,
  refl,
  record {
    cmd = no_text;
    target_refs = tt;
    source_refs = tt;
    chal = tt;
    items = tt;
    id = λ h. never h;
    msg_ref = λ h. never h;
  },
)
fresh_fits kinds.Results e v = (
  refl,
  refl,
  record {
    meta = tt;
    target_ref = tt;
    source_ref = tt;
    items = tt;
    id = λ h. never h;
    msg_ref = refl;
    filled = λ h. never h;
  },
)
fresh_fits kinds.Item e v = (refl, refl, record { target = tt; source = tt; meta = tt; value = tt })
fresh_fits kinds.Loc e v = (refl, refl, record { uri = no_text; name = tt })
fresh_fits kinds.Cred e v = (refl, refl, record { meta = tt; value = refl })
fresh_fits kinds.Chal e v = (refl, refl, record { format = tt; media = tt; next_nonce = tt; mark = tt; version = tt })
fresh_fits kinds.Meta e v = (refl, refl, record { format = tt; media = tt; next_nonce = tt; mark = tt; version = tt })
fresh_fits kinds.MetInf e v = (refl, refl, record { format = tt; media = tt; next_nonce = tt; mark = tt; version = tt })
fresh_fits kinds.Text e v = refl
fresh_fits kinds.Bytes e v = refl
fresh_fits kinds.Id e v = refl
fresh_fits kinds.Code e v = refl
fresh_fits kinds.Size e v = refl
fresh_fits kinds.Flag e v = refl

fresh_length : (k : Kind) (e : Element) → length_in (fresh_value k e) ≡ 0
fresh_length kinds.Message e = refl
fresh_length _ e = refl

-- ---- at its end

short_text : (bytes : List ℕ) → length bytes ≤ text_limit → is_in_limit bytes ≡ true
short_text bytes h =
    elim (nat_le (length bytes) 2147483648) as (λ (b : Bool). nat_le (length bytes) 2147483648 ≡ b → b ≡ true) [
      | true ↦ λ is. refl
      | false ↦ λ is. absurd (omega (arith, h, leb-false (length bytes) 2147483648 is))
    ] refl

positive : (n : ℕ) → nat_le 1 n ≡ true → is_number n ≡ true
positive n h =
    elim (n == 0) as (λ (b : Bool). (n == 0) ≡ b → not b ≡ true) [
      | true ↦ λ is. absurd (omega (arith, eqb-true n 0 is, leb-true 1 n h))
      | false ↦ λ is. refl
    ] refl

same_simple : {A : Type 0} (a b : A) → ◌≡◌ {A = Result A Reason} (Ok a) (Ok b) → a ≡ b
same_simple a b h = cc

no_text_kind : {A : Type 0} (k : Kind) → sort k ≡ 20 → (sort k == 20) ≡ false → A
no_text_kind k is other = not_so (sym other ∙ ap (λ n. n == 20) is)

text_closed : (k : Kind) (bytes : List ℕ) (s : Simple) → sort k ≡ 20 → is_in_limit bytes ≡ true
    → closed_text k bytes ≡ Ok s → FitSimple k s
text_closed kinds.Bytes bytes s is short h =
    subst (FitSimple kinds.Bytes) (same_simple (simples.Text bytes) s h) (refl, short, λ other. never other)
text_closed kinds.Text bytes s is short h =
    (elim (is_text bytes)
    as (λ (b : Bool). is_text bytes ≡ b
    → if◌then◌else◌ {A = Result Simple Reason} b (Ok (simples.Text bytes)) (Err reasons.Text) ≡ Ok s
    → FitSimple kinds.Text s) [
      | true ↦ λ plain h'.
          subst (FitSimple kinds.Text) (same_simple (simples.Text bytes) s h') (refl, short, λ other. plain)
      | false ↦ λ plain h'. cc
    ]) refl h
text_closed k bytes s is short h = no_text_kind k is refl

number_closed : (least n : ℕ) (s : Simple) → short_number least n ≡ Ok s
    → (simples.Short n ≡ s) × (nat_le least n ≡ true)
number_closed least n s h =
    (elim (nat_le least n && nat_le n 4294967295)
    as (λ (b : Bool). (nat_le least n && nat_le n 4294967295) ≡ b
    → if◌then◌else◌ {A = Result Simple Reason} b (Ok (simples.Short n)) (Err reasons.Number) ≡ Ok s
    → (simples.Short n ≡ s) × (nat_le least n ≡ true)) [
      | true ↦ λ is h'. (same_simple (simples.Short n) s h', (and_true _ _ is).0)
      | false ↦ λ is h'. cc
    ]) refl h

ranged_fits : (k : Kind) (n : ℕ) (s : Simple) → ((sort k == 21) || (sort k == 22)) ≡ true → ranged k n ≡ Ok s
    → FitSimple k s
ranged_fits kinds.Size n s is h = subst (FitSimple kinds.Size) (same_simple (simples.Long n) s h) refl
ranged_fits kinds.Id n s is h =
    let short = number_closed 1 n s h in subst (FitSimple kinds.Id) short.0 (refl, λ other. positive n short.1)
ranged_fits kinds.Code n s is h =
    let short = number_closed 0 n s h in subst (FitSimple kinds.Code) short.0 (refl, λ other. never other)
ranged_fits _ n s is h = not_so is

leaf_closed : (k : Kind) (leaf : Leaf) (s : Simple) → FitLeaf k leaf → length_in (of_leaf leaf) ≤ text_limit
    → closed_leaf k leaf ≡ Ok s → FitSimple k s
leaf_closed k (leaves.Text bytes) s f short h = text_closed k bytes s f (short_text bytes short) h
leaf_closed k (leaves.Number digits) s f short h =
    (elim (number_in digits) as (λ o. closed_number k o ≡ Ok s → FitSimple k s) [
      | None ↦ λ h'. cc
      | Some n ↦ λ h'. ranged_fits k n s f h'
    ]) h
leaf_closed k leaves.Flag s f short h = subst (FitSimple k) (same_simple simples.Flag s h) f

value_closed : (k : Kind) (content : Content) (v : Value) (w : EndedElement) → FitValue k content v
    → IsTrue (is_complete content) → length_in v ≤ text_limit → closed_value k v ≡ Ok w → FitWhole k w
value_closed k content (of_leaf leaf) w f done short h =
    (elim (closed_leaf k leaf) as (λ o. closed_leaf k leaf ≡ o → simply o ≡ Ok w → FitWhole k w) [
      | Ok s ↦ λ is h'. subst (FitWhole k) (same_simple (simple s) w h') (leaf_closed k leaf s f short is)
      | Err reason ↦ λ is h'. cc
    ]) refl h
value_closed k content (of_draft d) w f done short h =
    subst (FitWhole k) (same_simple (node d) w h) (f.0, content, done, f.2)

-- ---- with one more child

record Stays (new old : Draft) : Type 0 where
  sort : draft_sort new ≡ draft_sort old
  test : child_test new ≡ child_test old

same_draft : (d : Draft) → Stays d d
same_draft d = record { sort = refl; test = refl }

stays_text : (d : Draft) (e : Element) (bytes : List ℕ) → Stays (with_simple_text d e bytes) d
stays_text (draft.Loc loc) e bytes = record { sort = refl; test = refl }
stays_text _ e bytes = record { sort = refl; test = refl }

stays_short : (d : Draft) (e : Element) (n : ℕ) → Stays (with_short d e n) d
stays_short (draft.Header h) e n = record { sort = refl; test = refl }
stays_short _ e n = record { sort = refl; test = refl }

stays_long : (d : Draft) (e : Element) (n : ℕ) → Stays (with_long d e n) d
stays_long (draft.Meta meta) e n = record { sort = refl; test = refl }
stays_long _ e n = record { sort = refl; test = refl }

stays_flag : (d : Draft) → Stays (with_flag d) d
stays_flag (draft.Body b) = record { sort = refl; test = refl }
stays_flag _ = record { sort = refl; test = refl }

stays_node : (d : Draft) (e : Element) (child : Draft) (content : Content) → FitDraft content d
    → Stays (with_inner d e child) d
stays_node draft.Document e child content f = absurd f
stays_node (draft.Plain c) e (draft.Meta meta) content f = record { sort = refl; test = refl }
stays_node (draft.Plain c) e (draft.Item item) content f = record { sort = refl; test = refl }
stays_node (draft.Plain c) e _ content f = record { sort = refl; test = refl }
stays_node _ e child content f = record { sort = refl; test = refl }

stays : (d : Draft) (e : Element) (w : EndedElement) (content : Content) → FitDraft content d → Stays (draft_with d e w) d
stays d e (simple (simples.Text bytes)) content f = stays_text d e bytes
stays d e (simple (simples.Short n)) content f = stays_short d e n
stays d e (simple (simples.Long n)) content f = stays_long d e n
stays d e (simple simples.Flag) content f = stays_flag d
stays d e (node child) content f = stays_node d e child content f

child_fits : (k : Kind) (content : Content) (v : Value) (e : Element) (x : Kind × Content) (w : EndedElement)
    → Came content e x → FitValue k content v → FitWhole x.0 w → FitValue k x.1 (with_child v e w)
child_fits k content (of_leaf leaf) e x w g f h = f
child_fits k content (of_draft d) e x w g f h =
    let stay = stays d e w content f.2 in
    let passed = g.passes (child_test d) f.1 in (
      f.0 ∙ sym stay.sort,
      subst (λ q. all_pass q x.1 ≡ true) (sym stay.test) passed.1,
      draft_step content x.1 e x.0 d w g passed.0 h f.2,
    )

child_length : (v : Value) (e : Element) (w : EndedElement) → length_in (with_child v e w) ≤ length_in v
child_length (of_leaf leaf) e w = omega arith
child_length (of_draft d) e w = omega arith

piece_fits : (k : Kind) (content : Content) (v : Value) (bytes : List ℕ) → FitValue k content v
    → FitValue k content (with_text v bytes)
piece_fits k content (of_leaf (leaves.Text before)) bytes f = f
piece_fits k content (of_leaf (leaves.Number digits)) bytes f = f
piece_fits k content (of_leaf leaves.Flag) bytes f = f
piece_fits k content (of_draft d) bytes f = f

piece_length : (v : Value) (bytes : List ℕ) → length_in (with_text v bytes) ≤ length_in v + length bytes
piece_length (of_leaf (leaves.Text before)) bytes = omega (arith, length-append before bytes)
piece_length (of_leaf (leaves.Number digits)) bytes = omega arith
piece_length (of_leaf leaves.Flag) bytes = omega arith
piece_length (of_draft d) bytes = omega arith

-- ---- a whole tree

text_length-append : (a b : List Token) → text_length (a ++ b) ≡ text_length a + text_length b
text_length-append [] b = omega arith
text_length-append (token ∷ a) b = omega (arith, text_length-append a b)

inner_length : (e : Element) (inner rest : Forest)
    → text_length (spelling (full e inner rest)) ≡ text_length (spelling inner) + text_length (spelling rest)
inner_length e inner rest = omega (arith, text_length-append (spelling inner) (End ∷ spelling rest))

-- what has been read behind all children
abbrev Read : Kind → Value → Type 0
Read k v = (content : Content) × IsTrue (is_complete content) × FitValue k content v × (length_in v ≤ text_limit)

-- of an element, a part of whose children was read
record Going (k : Kind) (content : Content) (v : Value) (left : ℕ) : Type 0 where
  verbs : all_pass verb_fits content ≡ true
  fit : FitValue k content v
  room : length_in v + left ≤ text_limit

fresh_going : (k : Kind) (e : Element) (left : ℕ) → verb_fits e k ≡ true → left ≤ text_limit
    → Going k (start k) (fresh_value k e) left
fresh_going k e left v h =
    record { verbs = start_verbs k; fit = fresh_fits k e v; room = omega (arith, h, fresh_length k e) }

child_going : (k : Kind) (content : Content) (v : Value) (e : Element) (x : Kind × Content) (w : EndedElement) (left more : ℕ)
    → Came content e x → Going k content v more → left ≤ more → FitWhole x.0 w
    → Going k x.1 (with_child v e w) left
child_going k content v e x w left more came_so going h fit = record {
  verbs = (came_so.passes verb_fits going.verbs).1;
  fit = child_fits k content v e x w came_so going.fit fit;
  room = omega (arith, going.room, h, child_length v e w);
}

piece_going : (k : Kind) (content : Content) (v : Value) (bytes : List ℕ) (left : ℕ)
    → Going k content v (length bytes + left) → Going k content (with_text v bytes) left
piece_going k content v bytes left going =
    record {
      verbs = going.verbs;
      fit = piece_fits k content v bytes going.fit;
      room = omega (arith, going.room, piece_length v bytes);
    }

-- an element that closes: its whole, and what was read behind it
closes_to : (at : ℕ) (o : Result EndedElement Reason) (f : EndedElement → Result (Value × ℕ) Unread) (out : Value × ℕ)
    → (at_place at o then f) ≡ Ok out → (w : EndedElement) × (o ≡ Ok w) × (f w ≡ Ok out)
closes_to at (Ok w) f out h = (w, refl, h)
closes_to at (Err reason) f out h = cc

reads_to : (o : Result (Value × ℕ) Unread) (f : Value × ℕ → Result (Value × ℕ) Unread) (out : Value × ℕ)
    → (o then f) ≡ Ok out → (p : Value × ℕ) × (o ≡ Ok p) × (f p ≡ Ok out)
reads_to (Ok p) f out h = (p, refl, h)
reads_to (Err reason) f out h = cc

same_read : (v : Value) (at : ℕ) (out : Value × ℕ) → ◌≡◌ {A = Result (Value × ℕ) Unread} (Ok (v, at)) (Ok out)
    → v ≡ out.0
same_read v at out h = let is : (v, at) ≡ out = cc in ap (λ p. p.0) is

read_fits : (tree : Forest) (k : Kind) (at : ℕ) (v : Value) (content : Content) (out : Value × ℕ)
    → Going k content v (text_length (spelling tree))
    → IsTrue (fits content tree) → read at v content tree ≡ Ok out → Read k out.0
read_fits nothing k at v content out going h r =
    subst (Read k) (same_read v at out r) (content, h, going.fit, omega (arith, going.room))
read_fits (text bytes f) k at v content out going h r =
    read_fits f k (at + 1) (with_text v bytes) content out
    (piece_going k content v bytes (text_length (spelling f)) going)
    (and_true (takes_text content) (fits content f) h).1 r
read_fits (opaque bytes f) k at v content out going h r =
    read_fits f k (at + 1) (with_text v bytes) content out
    (piece_going k content v bytes (text_length (spelling f)) going)
    (and_true (takes_text content) (fits content f) h).1 r
read_fits (bare e f) k at v content out going h r =
    (elim (next_child content e) as (λ o. next_child content e ≡ o
    → IsTrue (elim o as (λ _. Bool) [ None ↦ false | Some x ↦ is_complete (start x.0) && fits x.1 f ])
    → (elim o as (λ _. Result (Value × ℕ) Unread) [
      | None ↦ Err (record { at = at; reason = Misplaced })
      | Some x ↦ at_place at (closed_value x.0 (fresh_value x.0 e)) then (λ child. read (at + 1) (with_child v e child) x.1 f)
    ]) ≡ Ok out → Read k out.0) [
      | None ↦ λ n h' r'. not_so h'
      | Some x ↦ λ n h' r'.
          let fit = and_true (is_complete (start x.0)) (fits x.1 f) h' in
          let c = came content e x n in
          let shut =
          closes_to at (closed_value x.0 (fresh_value x.0 e)) (λ child. read (at + 1) (with_child v e child) x.1 f) out r' in
          let fresh_fit = fresh_fits x.0 e (c.passes verb_fits going.verbs).0 in
          let whole =
          value_closed x.0 (start x.0) (fresh_value x.0 e) shut.0 fresh_fit fit.0 (omega (arith, fresh_length x.0 e))
          shut.1 in
          read_fits f k (at + 1) (with_child v e shut.0) x.1 out
          (child_going k content v e x shut.0 (text_length (spelling f)) (text_length (spelling (bare e f))) c going
          (omega arith) whole) fit.1 shut.2
    ]) refl h r
read_fits (full e inner f) k at v content out going h r =
    (elim (next_child content e) as (λ o. next_child content e ≡ o
    → IsTrue (elim o as (λ _. Bool) [ None ↦ false | Some x ↦ fits (start x.0) inner && fits x.1 f ])
    → (elim o as (λ _. Result (Value × ℕ) Unread) [
      | None ↦ Err (record { at = at; reason = Misplaced })
      | Some x ↦ read (at + 1) (fresh_value x.0 e) (start x.0) inner then
          (λ p. at_place p.1 (closed_value x.0 p.0) then (λ child. read (p.1 + 1) (with_child v e child) x.1 f))
    ]) ≡ Ok out → Read k out.0) [
      | None ↦ λ n h' r'. not_so h'
      | Some x ↦ λ n h' r'.
          let fit = and_true (fits (start x.0) inner) (fits x.1 f) h' in
          let c = came content e x n in
          let run =
          reads_to (read (at + 1) (fresh_value x.0 e) (start x.0) inner)
          (λ p. at_place p.1 (closed_value x.0 p.0) then (λ child. read (p.1 + 1) (with_child v e child) x.1 f)) out r' in
          let shut =
          closes_to run.0.1 (closed_value x.0 run.0.0) (λ child. read (run.0.1 + 1) (with_child v e child) x.1 f) out run.2 in
          let all = read_fits inner x.0 (at + 1) (fresh_value x.0 e) (start x.0) run.0
          (fresh_going x.0 e (text_length (spelling inner)) (c.passes verb_fits going.verbs).0
          (omega (arith, going.room, inner_length e inner f))) fit.0 run.1 in
          let whole = value_closed x.0 all.0 run.0.0 shut.0 all.2 all.1 all.3 shut.1 in
          read_fits f k (run.0.1 + 1) (with_child v e shut.0) x.1 out
          (child_going k content v e x shut.0 (text_length (spelling f)) (text_length (spelling (full e inner f))) c
          going (omega (arith, inner_length e inner f)) whole) fit.1 shut.2
    ]) refl h r

-- ---- a document

-- nothing follows the SyncML
abbrev behind_message : Content
behind_message = in_order true table.DOCUMENT

no_more : (f : Forest) → IsTrue (fits behind_message f) → f ≡ nothing
no_more nothing h = refl
no_more (text bytes f) h = not_so h
no_more (opaque bytes f) h = not_so h
no_more (bare e f) h =
    (elim (next_child behind_message e)
    as (λ o. next_child behind_message e ≡ o
    → IsTrue (elim o as (λ _. Bool) [ None ↦ false | Some x ↦ is_complete (start x.0) && fits x.1 f ])
    → bare e f ≡ nothing) [
      | None ↦ λ n h'. not_so h'
      | Some x ↦ λ n h'. absurd ((came behind_message e x n).open_still refl)
    ]) refl h
no_more (full e inner f) h =
    (elim (next_child behind_message e)
    as (λ o. next_child behind_message e ≡ o
    → IsTrue (elim o as (λ _. Bool) [ None ↦ false | Some x ↦ fits (start x.0) inner && fits x.1 f ])
    → full e inner f ≡ nothing) [
      | None ↦ λ n h'. not_so h'
      | Some x ↦ λ n h'. absurd ((came behind_message e x n).open_still refl)
    ]) refl h

-- the one child is a message
document_next : (e : Element) (x : Kind × Content) → next_child document e ≡ Some x → (kinds.Message, behind_message) ≡ x
document_next e x h =
    (elim (same ESyncML e)
    as (λ (b : Bool).
    after_row (in_row (if b then Some kinds.Message else None) false
    (record { choice = One ESyncML kinds.Message; required = true; many = false }) [] None) ≡ Some x
    → (kinds.Message, behind_message) ≡ x) [
      | true ↦ λ h'. cc
      | false ↦ λ h'. cc
    ]) h

message_read : (v : Value) (w : EndedElement) → Read kinds.Message v → closed_value kinds.Message v ≡ Ok w
    → (m : MessageDraft) × (w ≡ node (draft.Message m)) × Ended FitMessage m
message_read (of_leaf (leaves.Text bytes)) w r h = not_so (ap (λ n. n == 20) r.2)
message_read (of_leaf (leaves.Number digits)) w r h = not_so r.2
message_read (of_leaf leaves.Flag) w r h = not_so (ap (λ n. n == 23) r.2)
message_read (of_draft (draft.Message m)) w r h = (m, sym (same_simple (node (draft.Message m)) w h), (r.0, r.1, r.2.2))
message_read (of_draft d) w r h = never (ap (λ n. 1 == n) r.2.0)

-- what the law says of a message's value
abbrev IsGood : Value → Type 0
IsGood value = (parts : Parts) × (parts_held value ≡ Some parts) × IsFit parts.header parts.body

header_good : (m : MessageDraft) (o : Option Header) → IfSome o (Ended FitHeader) → is_none o ≡ false
    → AllByRecursion FitCommand m.body
    → (parts : Parts) × (parts_from m o ≡ Some parts) × IsFit parts.header parts.body
header_good m None f some body = never some
header_good m (Some h) f some body =
    (record { header = h; body = m.body; last = m.last }, refl, parts_fit h m.body f body)

message_good : (m : MessageDraft) → Ended FitMessage m → IsGood (of_draft (draft.Message m))
message_good m (content, done, f) =
    header_good m m.header f.header (f.present (complete_needs is_header content done)) f.body

document_good : (e : Element) (w : EndedElement) (m : MessageDraft) (value : Value) → w ≡ node (draft.Message m)
    → with_child (of_draft draft.Document) e w ≡ value → Ended FitMessage m → IsGood value
document_good e w m value is gives f =
    subst IsGood (ap (with_child (of_draft draft.Document) e) (sym is) ∙ gives) (message_good m f)

message_opens : (k : Kind) → kinds.Message ≡ k → IsTrue (is_complete (start k)) → ⊥
message_opens k is h = not_so (subst (λ n. IsTrue (is_complete (start n))) (sym is) h)

pub read_is_fit : ReadIsFit
read_is_fit nothing value at h r short = not_so h
read_is_fit (text bytes f) value at h r short = not_so h
read_is_fit (opaque bytes f) value at h r short = not_so h
read_is_fit (bare e f) value at h r short =
    (elim (next_child document e)
    as (λ o. next_child document e ≡ o
    → IsTrue (elim o as (λ _. Bool) [ None ↦ false | Some x ↦ is_complete (start x.0) && fits x.1 f ]) → IsGood value) [
      | None ↦ λ n h'. not_so h'
      | Some x ↦ λ n h'.
          absurd (message_opens x.0 (ap (λ y. y.0) (document_next e x n))
          (and_true (is_complete (start x.0)) (fits x.1 f) h').0)
    ]) refl h
read_is_fit (full e inner f) value at h r short =
    (elim (next_child document e) as (λ o. next_child document e ≡ o
    → IsTrue (elim o as (λ _. Bool) [ None ↦ false | Some x ↦ fits (start x.0) inner && fits x.1 f ])
    → (elim o as (λ _. Result (Value × ℕ) Unread) [
      | None ↦ Err (record { at = 0; reason = Misplaced })
      | Some x ↦ read (0 + 1) (fresh_value x.0 e) (start x.0) inner then
          (λ p. at_place p.1 (closed_value x.0 p.0)
          then (λ child. read (p.1 + 1) (with_child (of_draft draft.Document) e child) x.1 f))
    ]) ≡ Ok (value, at) → IsGood value) [
      | None ↦ λ n h' r'. not_so h'
      | Some x ↦ λ n h' r'.
          let is = document_next e x n in
          let fit = and_true (fits (start x.0) inner) (fits x.1 f) h' in
          let run =
          reads_to (read (0 + 1) (fresh_value x.0 e) (start x.0) inner)
          (λ p. at_place p.1 (closed_value x.0 p.0)
          then (λ child. read (p.1 + 1) (with_child (of_draft draft.Document) e child) x.1 f)) (value, at) r' in
          let shut =
          closes_to run.0.1 (closed_value x.0 run.0.0)
          (λ child. read (run.0.1 + 1) (with_child (of_draft draft.Document) e child) x.1 f) (value, at) run.2 in
          let all = read_fits inner x.0 (0 + 1) (fresh_value x.0 e) (start x.0) run.0
          (fresh_going x.0 e (text_length (spelling inner)) ((came document e x n).passes verb_fits refl).0
          (omega (arith, short, inner_length e inner f))) fit.0 run.1 in
          let none = no_more f (subst (λ (y : Kind × Content). IsTrue (fits y.1 f)) (sym is) fit.1) in
          let message =
          message_read run.0.0 shut.0 (subst (λ (y : Kind × Content). Read y.0 run.0.0) (sym is) all)
          (subst (λ (y : Kind × Content). closed_value y.0 run.0.0 ≡ Ok shut.0) (sym is) shut.1) in
          let ends =
          subst (λ g. read (run.0.1 + 1) (with_child (of_draft draft.Document) e shut.0) x.1 g ≡ Ok (value, at)) none
          shut.2 in
          document_good e shut.0 message.0 value message.1
          (same_read (with_child (of_draft draft.Document) e shut.0) (run.0.1 + 1) (value, at) ends) message.2
    ]) refl h r
