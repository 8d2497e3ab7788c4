-- What is known of an element's parts stays known with one more child.
use Rattle.std.specs.Prelude.{◌≡◌, ◌⊎◌, ◌==◌, ◌&&◌, ◌||◌, ℕ, Bool, true, false, not, List, [], ◌∷◌, ◌++◌, length}
use Rattle.std.specs.Prelude.{IsTrue, refl}
use Rattle.std.proofs.Common.{sym, ap, subst, ◌∙◌, inl, inr, arith}
use Rattle.std.proofs.lemmas.Bool.{eqb-true, or_left}
use Rattle.std.proofs.lemmas.List.{length-append}
use Rattle.std.specs.List.{AllByRecursion}
use Rattle.wbxml_tables.specs.declared.Element.{Element}
use Rattle.wbxml_tables.specs.declared.Element.TheVariants.{ECmd, ECmdID, ECmdRef, EData, EFormat, ELocName, ELocURI}
use Rattle.wbxml_tables.specs.declared.Element.TheVariants.{EMark, EMsgID, EMsgRef, ENextNonce, ERespURI, ESessionID}
use Rattle.wbxml_tables.specs.declared.Element.TheVariants.{ESourceRef, ESize, EMaxMsgSize, ETarget, ETargetRef, EType}
use Rattle.wbxml_tables.specs.declared.Element.TheVariants.{EVerDTD, EVerProto, EVersion}
use Rattle.syncml_shape.specs.declared.rows.Kind.{Kind}
use Rattle.syncml_shape.specs.declared.rows.Kind.TheVariants as kinds
use Rattle.syncml_shape.specs.Rows.{same, Content, is_complete}
use Rattle.syncml_shape.proofs.Accepts.{and_true}
use Rattle.syncml_types.specs.declared.values.Loc.{Loc}
use Rattle.syncml_types.specs.declared.values.Meta.{Meta}
use Rattle.syncml_types.specs.declared.values.Item.{Item}
use Rattle.syncml_types.specs.declared.values.Cred.{Cred}
use Rattle.syncml_types.specs.declared.values.Header.{Header}
use Rattle.syncml_types.specs.declared.command.Plain.{Plain}
use Rattle.syncml_types.specs.declared.command.AlertCmd.{AlertCmd}
use Rattle.syncml_types.specs.declared.command.Member.{Member}
use Rattle.syncml_types.specs.declared.command.Member.TheVariants as member
use Rattle.syncml_types.specs.declared.command.Block.{Block}
use Rattle.syncml_types.specs.declared.command.SeqMember.{SeqMember}
use Rattle.syncml_types.specs.declared.command.SeqMember.TheVariants as seq_member
use Rattle.syncml_types.specs.declared.command.StatusCmd.{StatusCmd}
use Rattle.syncml_types.specs.declared.command.ResultsCmd.{ResultsCmd}
use Rattle.syncml_types.specs.declared.command.Command.TheVariants as command
use Rattle.syncml_types.specs.Canonical.{is_text}
use Rattle.syncml_types.specs.Fitness.{is_in_limit, is_number, is_filled}
use Rattle.syncml_types.specs.Verbs.{is_exec}
use Rattle.syncml_grammar.specs.declared.leaf.Simple.{Simple}
use Rattle.syncml_grammar.specs.declared.leaf.Simple.TheVariants as simples
use Rattle.syncml_grammar.specs.declared.draft.BodyDraft.{BodyDraft}
use Rattle.syncml_grammar.specs.declared.draft.MessageDraft.{MessageDraft}
use Rattle.syncml_grammar.specs.declared.draft.Draft.{Draft}
use Rattle.syncml_grammar.specs.declared.draft.Draft.TheVariants as draft
use Rattle.syncml_grammar.specs.Simples.{loc_with_text, meta_with_text, meta_with_size, header_with_text}
use Rattle.syncml_grammar.specs.Simples.{status_with_text, results_with_text, alert_with_number, status_with_number}
use Rattle.syncml_grammar.specs.Simples.{results_with_number}
use Rattle.syncml_grammar.specs.Nodes.{header_with_loc, item_with_loc}
use Rattle.syncml_grammar.specs.Values.{EndedElement, simple, node, draft_with}
use Rattle.syncml_grammar.proofs.FitRows.{sort, needs, is_item, ends_in_item, has_ended, Came}
use Rattle.syncml_grammar.proofs.FitParts.{number_of, is_header, is_member, is_seq_member, FitText, FitLoc, FitMeta}
use Rattle.syncml_grammar.proofs.FitParts.{FitItem, FitCred, FitHeader, FitPlain, FitAlert, FitMember, FitAtomic}
use Rattle.syncml_grammar.proofs.FitParts.{FitSeqMember, FitSequence, FitStatus, FitResults, FitCommand, FitMessage}

-- ---- what an element that has ended holds

abbrev pub is_bytes : Kind → Bool
is_bytes kinds.Bytes = true
is_bytes other = false

abbrev pub is_code : Kind → Bool
is_code kinds.Code = true
is_code other = false

abbrev pub FitDraft : Content → Draft → Type 0
FitDraft content draft.Document = ⊥
FitDraft content (draft.Message m) = FitMessage content m
FitDraft content (draft.Header h) = FitHeader content h
FitDraft content (draft.Body b) = AllByRecursion FitCommand b.commands
FitDraft content (draft.Plain c) = FitPlain content c
FitDraft content (draft.Alert c) = FitAlert content c
FitDraft content (draft.Atomic b) = FitAtomic content b
FitDraft content (draft.Sequence b) = FitSequence content b
FitDraft content (draft.Status c) = FitStatus content c
FitDraft content (draft.Results c) = FitResults content c
FitDraft content (draft.Item item) = FitItem item
FitDraft content (draft.Loc loc) = FitLoc loc
FitDraft content (draft.Cred cred) = FitCred cred
FitDraft content (draft.Chal meta) = FitMeta meta
FitDraft content (draft.Meta meta) = FitMeta meta

abbrev pub draft_sort : Draft → ℕ
draft_sort draft.Document = 0
draft_sort (draft.Message m) = 1
draft_sort (draft.Header h) = 2
draft_sort (draft.Body b) = 3
draft_sort (draft.Plain c) = 4
draft_sort (draft.Alert c) = 5
draft_sort (draft.Atomic b) = 6
draft_sort (draft.Sequence b) = 7
draft_sort (draft.Status c) = 8
draft_sort (draft.Results c) = 9
draft_sort (draft.Item item) = 10
draft_sort (draft.Loc loc) = 11
draft_sort (draft.Cred cred) = 12
draft_sort (draft.Chal meta) = 13
draft_sort (draft.Meta meta) = 14

abbrev pub FitSimple : Kind → Simple → Type 0
FitSimple k (simples.Text text) = (sort k ≡ 20) × (is_in_limit text ≡ true) × (is_bytes k ≡ false → is_text text ≡ true)
FitSimple k (simples.Short n) = (sort k ≡ 21) × (is_code k ≡ false → is_number n ≡ true)
FitSimple k (simples.Long n) = sort k ≡ 22
FitSimple k simples.Flag = sort k ≡ 23

abbrev pub FitWhole : Kind → EndedElement → Type 0
FitWhole k (simple s) = FitSimple k s
FitWhole k (node d) = (sort k ≡ draft_sort d) × (content : Content) × IsTrue (is_complete content) × FitDraft content d

-- ---- which children an element has, so far as it matters

abbrev text_alone : Element → Kind → Bool
text_alone e k = not (is_bytes k)

abbrev id_alone : Element → Kind → Bool
id_alone e k = not (is_code k)

abbrev header_child : Element → Kind → Bool
header_child e k = not (is_bytes k) && not (is_code k)

abbrev plain_child : Bool → Element → Kind → Bool
plain_child exec e k = (not (is_bytes k) && not (is_code k)) && (not (sort k == 20) || exec)

abbrev alert_child : Element → Kind → Bool
alert_child e k = not (is_bytes k) && (not (is_code k) || same EData e)

abbrev status_child : Element → Kind → Bool
status_child e k = not (is_bytes k) && (not (is_code k) || (same ECmdRef e || same EData e))

abbrev any_child : Element → Kind → Bool
any_child e k = true

abbrev pub child_test : Draft → Element → Kind → Bool
child_test (draft.Header h) = header_child
child_test (draft.Plain c) = plain_child (is_exec c.verb)
child_test (draft.Alert c) = alert_child
child_test (draft.Atomic b) = id_alone
child_test (draft.Sequence b) = id_alone
child_test (draft.Status c) = status_child
child_test (draft.Results c) = status_child
child_test (draft.Loc loc) = text_alone
child_test (draft.Meta meta) = text_alone
child_test other = any_child

-- ---- small steps

not_true : (b : Bool) → not b ≡ true → b ≡ false
not_true true h = cc
not_true false h = refl

or_false : (a : Bool) → (a || false) ≡ true → a ≡ true
or_false true h = refl
or_false false h = cc

refuted : {P : Type 0} (test : ℕ → Bool) (k : Kind) (s : ℕ) → sort k ≡ s → test s ≡ false → test (sort k) ≡ true → P
refuted test k s is other passed = let never : false ≡ true = sym other ∙ (ap test (sym is) ∙ passed) in cc

kept : {P : Type 0} {content after : Content} {e : Element} {k : Kind} (p : Element → Kind → Bool)
    → Came content e (k, after)
    → (p e k ≡ true → P) → (needs p content ≡ false → P) → needs p after ≡ false → P
kept {P} p g now before none = elim (g.met p none) as (λ _. P) [ inl h ↦ before h | inr h ↦ now h ]

-- what stays known where the child is no number
same_number : {P : Type 0} {content after : Content} {e : Element} {k : Kind} (one : Element) (s : ℕ)
    → Came content e (k, after)
    → sort k ≡ s → (s == 21) ≡ false → (needs (number_of one) content ≡ false → P) → needs (number_of one) after ≡ false
    → P
same_number {P} {content} {after} {e} {k} one s g is other before =
    kept (number_of one) g
    (λ passed. refuted (λ n. n == 21) k s is other (and_true (same one e) (sort k == 21) passed).1) before

same_items : {P : Type 0} {content after : Content} {e : Element} {k : Kind} (s : ℕ) → Came content e (k, after)
    → sort k ≡ s → (s == 10) ≡ false → (needs is_item content ≡ false → P) → needs is_item after ≡ false → P
same_items {P} {content} {after} {e} {k} s g is other before =
    kept is_item g (λ passed. refuted (λ n. n == 10) k s is other passed) before

same_members : {P : Type 0} {content after : Content} {e : Element} {k : Kind} (s : ℕ) → Came content e (k, after)
    → sort k ≡ s → ((s == 4) || (s == 5)) ≡ false → (needs is_member content ≡ false → P)
    → needs is_member after ≡ false → P
same_members {P} {content} {after} {e} {k} s g is other before =
    kept is_member g (λ passed. refuted (λ n. (n == 4) || (n == 5)) k s is other passed) before

same_seq_members : {P : Type 0} {content after : Content} {e : Element} {k : Kind} (s : ℕ) → Came content e (k, after)
    → sort k ≡ s → (((s == 4) || (s == 5)) || (s == 6)) ≡ false → (needs is_seq_member content ≡ false → P)
    → needs is_seq_member after ≡ false → P
same_seq_members {P} {content} {after} {e} {k} s g is other before =
    kept is_seq_member g (λ passed. refuted (λ n. ((n == 4) || (n == 5)) || (n == 6)) k s is other passed) before

other_element : {P : Type 0} (one e : Element) (k : Kind) → same one e ≡ false → number_of one e k ≡ true → P
other_element one e k other passed = let never : false ≡ true =
    sym other ∙ (and_true (same one e) (sort k == 21) passed).0 in cc

one_more : {A : Type 0} (P : A → Type 0) (xs : List A) (x : A) → AllByRecursion P xs → P x
    → AllByRecursion P (xs ++ x ∷ [])
one_more P [] x all h = (h, tt)
one_more P (y ∷ xs) x all h = (all.0, one_more P xs x all.1 h)

is_filled_more : {A : Type 0} (xs : List A) (x : A) → is_filled (xs ++ x ∷ []) ≡ true
is_filled_more xs x =
    elim (length (xs ++ x ∷ []) == 0) as (λ (b : Bool). (length (xs ++ x ∷ []) == 0) ≡ b → not b ≡ true) [
      | true ↦ λ is. absurd (omega (arith, length-append xs (x ∷ []), eqb-true (length (xs ++ x ∷ [])) 0 is))
      | false ↦ λ is. refl
    ] refl

fit_text : (k : Kind) (text : List ℕ) → not (is_bytes k) ≡ true → FitSimple k (simples.Text text) → FitText text
fit_text k text other h = record { plain = h.2 (not_true (is_bytes k) other); short = h.1 }

fit_number : (k : Kind) (n : ℕ) → not (is_code k) ≡ true → FitSimple k (simples.Short n) → is_number n ≡ true
fit_number k n other h = h.1 (not_true (is_code k) other)

-- ---- Loc, Meta, Item, Cred

loc_text : (loc : Loc) (e : Element) (text : List ℕ) → FitText text → FitLoc loc → FitLoc (loc_with_text loc e text)
loc_text loc ELocURI text t f = record { uri = t; name = f.name }
loc_text loc ELocName text t f = record { uri = f.uri; name = t }
loc_text loc _ text t f = f

meta_text : (meta : Meta) (e : Element) (text : List ℕ) → FitText text → FitMeta meta
    → FitMeta (meta_with_text meta e text)
meta_text meta EFormat text t f =
    record { format = t; media = f.media; next_nonce = f.next_nonce; mark = f.mark; version = f.version }
meta_text meta EType text t f =
    record { format = f.format; media = t; next_nonce = f.next_nonce; mark = f.mark; version = f.version }
meta_text meta ENextNonce text t f =
    record { format = f.format; media = f.media; next_nonce = t; mark = f.mark; version = f.version }
meta_text meta EMark text t f =
    record { format = f.format; media = f.media; next_nonce = f.next_nonce; mark = t; version = f.version }
meta_text meta EVersion text t f =
    record { format = f.format; media = f.media; next_nonce = f.next_nonce; mark = f.mark; version = t }
meta_text meta _ text t f = f

meta_size : (meta : Meta) (e : Element) (n : ℕ) → FitMeta meta → FitMeta (meta_with_size meta e n)
meta_size meta ESize n f =
    record { format = f.format; media = f.media; next_nonce = f.next_nonce; mark = f.mark; version = f.version }
meta_size meta EMaxMsgSize n f =
    record { format = f.format; media = f.media; next_nonce = f.next_nonce; mark = f.mark; version = f.version }
meta_size meta _ n f =
    record { format = f.format; media = f.media; next_nonce = f.next_nonce; mark = f.mark; version = f.version }

loc_step : (content after : Content) (e : Element) (k : Kind) (loc : Loc) (w : EndedElement) → Came content e (k, after)
    → text_alone e k ≡ true → FitWhole k w
    → FitLoc loc → FitDraft after (draft_with (draft.Loc loc) e w)
loc_step content after e k loc (simple (simples.Text text)) g ok h f = loc_text loc e text (fit_text k text ok h) f
loc_step content after e k loc (simple (simples.Short n)) g ok h f = f
loc_step content after e k loc (simple (simples.Long n)) g ok h f = f
loc_step content after e k loc (simple simples.Flag) g ok h f = f
loc_step content after e k loc (node d) g ok h f = f

meta_step : (content after : Content) (e : Element) (k : Kind) (meta : Meta) (w : EndedElement) → Came content e (k, after)
    → text_alone e k ≡ true → FitWhole k w
    → FitMeta meta → FitDraft after (draft_with (draft.Meta meta) e w)
meta_step content after e k meta (simple (simples.Text text)) g ok h f = meta_text meta e text (fit_text k text ok h) f
meta_step content after e k meta (simple (simples.Short n)) g ok h f = f
meta_step content after e k meta (simple (simples.Long n)) g ok h f = meta_size meta e n f
meta_step content after e k meta (simple simples.Flag) g ok h f = f
meta_step content after e k meta (node (draft.Meta m)) g ok h f = h.3
meta_step content after e k meta (node _) g ok h f = f

chal_step : (content after : Content) (e : Element) (k : Kind) (meta : Meta) (w : EndedElement) → FitWhole k w → FitMeta meta
    → FitDraft after (draft_with (draft.Chal meta) e w)
chal_step content after e k meta (simple (simples.Text text)) h f = f
chal_step content after e k meta (simple (simples.Short n)) h f = f
chal_step content after e k meta (simple (simples.Long n)) h f = f
chal_step content after e k meta (simple simples.Flag) h f = f
chal_step content after e k meta (node (draft.Meta m)) h f = h.3
chal_step content after e k meta (node _) h f = f

cred_step : (content after : Content) (e : Element) (k : Kind) (cred : Cred) (w : EndedElement) → FitWhole k w → FitCred cred
    → FitDraft after (draft_with (draft.Cred cred) e w)
cred_step content after e k cred (simple (simples.Text text)) h f = record { meta = f.meta; value = h.1 }
cred_step content after e k cred (simple (simples.Short n)) h f = f
cred_step content after e k cred (simple (simples.Long n)) h f = f
cred_step content after e k cred (simple simples.Flag) h f = f
cred_step content after e k cred (node (draft.Meta m)) h f = record { meta = h.3; value = f.value }
cred_step content after e k cred (node _) h f = f

item_loc : (item : Item) (e : Element) (loc : Loc) → FitLoc loc → FitItem item → FitItem (item_with_loc item e loc)
item_loc item ETarget loc h f = record { target = h; source = f.source; meta = f.meta; value = f.value }
item_loc item _ loc h f = record { target = f.target; source = h; meta = f.meta; value = f.value }

item_step : (content after : Content) (e : Element) (k : Kind) (item : Item) (w : EndedElement) → FitWhole k w → FitItem item
    → FitDraft after (draft_with (draft.Item item) e w)
item_step content after e k item (simple (simples.Text text)) h f =
    record { target = f.target; source = f.source; meta = f.meta; value = h.1 }
item_step content after e k item (simple (simples.Short n)) h f = f
item_step content after e k item (simple (simples.Long n)) h f = f
item_step content after e k item (simple simples.Flag) h f =
    record { target = f.target; source = f.source; meta = f.meta; value = f.value }
item_step content after e k item (node (draft.Loc loc)) h f = item_loc item e loc h.3 f
item_step content after e k item (node (draft.Meta m)) h f =
    record { target = f.target; source = f.source; meta = h.3; value = f.value }
item_step content after e k item (node _) h f = f

-- ---- a header

header_moved : {content after : Content} {e : Element} {k : Kind} (h : Header) (s : ℕ) → Came content e (k, after)
    → sort k ≡ s → (s == 21) ≡ false → FitHeader content h → FitHeader after h
header_moved h s g is other f = record {
  dtd = f.dtd;
  proto = f.proto;
  session = f.session;
  target = f.target;
  source = f.source;
  resp_uri = f.resp_uri;
  cred = f.cred;
  meta = f.meta;
  msg = same_number EMsgID s g is other f.msg;
}

header_text : {after : Content} (h : Header) (e : Element) (text : List ℕ) → FitText text → FitHeader after h
    → FitHeader after (header_with_text h e text)
header_text h EVerDTD text t f = record {
  dtd = t;
  proto = f.proto;
  session = f.session;
  target = f.target;
  source = f.source;
  resp_uri = f.resp_uri;
  cred = f.cred;
  meta = f.meta;
  msg = f.msg;
}
header_text h EVerProto text t f = record {
  dtd = f.dtd;
  proto = t;
  session = f.session;
  target = f.target;
  source = f.source;
  resp_uri = f.resp_uri;
  cred = f.cred;
  meta = f.meta;
  msg = f.msg;
}
header_text h ESessionID text t f = record {
  dtd = f.dtd;
  proto = f.proto;
  session = t;
  target = f.target;
  source = f.source;
  resp_uri = f.resp_uri;
  cred = f.cred;
  meta = f.meta;
  msg = f.msg;
}
header_text h ERespURI text t f = record {
  dtd = f.dtd;
  proto = f.proto;
  session = f.session;
  target = f.target;
  source = f.source;
  resp_uri = t;
  cred = f.cred;
  meta = f.meta;
  msg = f.msg;
}
header_text h _ text t f = f

header_loc : {after : Content} (h : Header) (e : Element) (loc : Loc) → FitLoc loc → FitHeader after h
    → FitHeader after (header_with_loc h e loc)
header_loc h ETarget loc l f = record {
  dtd = f.dtd;
  proto = f.proto;
  session = f.session;
  target = l;
  source = f.source;
  resp_uri = f.resp_uri;
  cred = f.cred;
  meta = f.meta;
  msg = f.msg;
}
header_loc h _ loc l f = record {
  dtd = f.dtd;
  proto = f.proto;
  session = f.session;
  target = f.target;
  source = l;
  resp_uri = f.resp_uri;
  cred = f.cred;
  meta = f.meta;
  msg = f.msg;
}

pub header_step : (content after : Content) (e : Element) (k : Kind) (h : Header) (w : EndedElement)
    → Came content e (k, after) → header_child e k ≡ true → FitWhole k w
    → FitHeader content h → FitDraft after (draft_with (draft.Header h) e w)
header_step content after e k h (simple (simples.Text text)) g ok fit f =
    header_text h e text (fit_text k text (and_true _ _ ok).0 fit) (header_moved h 20 g fit.0 refl f)
header_step content after e k h (simple (simples.Short n)) g ok fit f = record {
  dtd = f.dtd;
  proto = f.proto;
  session = f.session;
  target = f.target;
  source = f.source;
  resp_uri = f.resp_uri;
  cred = f.cred;
  meta = f.meta;
  msg = λ _. fit_number k n (and_true _ _ ok).1 fit;
}
header_step content after e k h (simple (simples.Long n)) g ok fit f = header_moved h 22 g fit refl f
header_step content after e k h (simple simples.Flag) g ok fit f = record {
  dtd = f.dtd;
  proto = f.proto;
  session = f.session;
  target = f.target;
  source = f.source;
  resp_uri = f.resp_uri;
  cred = f.cred;
  meta = f.meta;
  msg = same_number EMsgID 23 g fit refl f.msg;
}
header_step content after e k h (node (draft.Loc loc)) g ok fit f =
    header_loc h e loc fit.3 (header_moved h 11 g fit.0 refl f)
header_step content after e k h (node (draft.Cred cred)) g ok fit f = record {
  dtd = f.dtd;
  proto = f.proto;
  session = f.session;
  target = f.target;
  source = f.source;
  resp_uri = f.resp_uri;
  cred = fit.3;
  meta = f.meta;
  msg = same_number EMsgID 12 g fit.0 refl f.msg;
}
header_step content after e k h (node (draft.Meta m)) g ok fit f = record {
  dtd = f.dtd;
  proto = f.proto;
  session = f.session;
  target = f.target;
  source = f.source;
  resp_uri = f.resp_uri;
  cred = f.cred;
  meta = fit.3;
  msg = same_number EMsgID 14 g fit.0 refl f.msg;
}
header_step content after e k h (node d) g ok fit f = header_moved h (draft_sort d) g fit.0 refl f

-- ---- a command with items

same_single : {content after : Content} {e : Element} {k : Kind} (c : Plain) → Came content e (k, after)
    → FitPlain content c
    → is_exec c.verb ≡ true
    → (ends_in_item after ≡ true) × ((c.items ≡ []) ⊎ ((length c.items ≡ 1) × (has_ended after ≡ true)))
same_single {content} {after} c g f exec =
    let known = f.single exec in (
      (g.item known.0).0,
      elim known.1 as (λ _. (c.items ≡ []) ⊎ ((length c.items ≡ 1) × (has_ended after ≡ true))) [
        | inl none ↦ inl none
        | inr one ↦ absurd (g.open_still one.1)
      ],
    )

-- an Exec's one item
one_single : {content after : Content} {e : Element} {k : Kind} (c : Plain) (item : Item) → Came content e (k, after)
    → is_item e k ≡ true
    → (ends_in_item content ≡ true) × ((c.items ≡ []) ⊎ ((length c.items ≡ 1) × (has_ended content ≡ true)))
    → (ends_in_item after ≡ true)
    × ((c.items ++ item ∷ [] ≡ []) ⊎ ((length (c.items ++ item ∷ []) ≡ 1) × (has_ended after ≡ true)))
one_single {content} {after} c item g is known = (
  (g.item known.0).0,
  elim known.1 as (λ _.
      (c.items ++ item ∷ [] ≡ []) ⊎ ((length (c.items ++ item ∷ []) ≡ 1) × (has_ended after ≡ true))) [
        | inl none ↦ inr (ap (λ l. length (l ++ item ∷ [])) none, (g.item known.0).1 is)
        | inr one ↦ absurd (g.open_still one.1)
      ],
)

plain_moved : {content after : Content} {e : Element} {k : Kind} (c : Plain) (s : ℕ) → Came content e (k, after)
    → sort k ≡ s → (s == 21) ≡ false → (s == 10) ≡ false
    → FitPlain content c → FitPlain after c
plain_moved c s g is other unlike f = record {
  meta = f.meta;
  correlator = f.correlator;
  items = f.items;
  id = same_number ECmdID s g is other f.id;
  filled = same_items s g is unlike f.filled;
  single = same_single c g f;
  correlates = f.correlates;
}

plain_step : (content after : Content) (e : Element) (k : Kind) (c : Plain) (w : EndedElement) → Came content e (k, after)
    → plain_child (is_exec c.verb) e k ≡ true → FitWhole k w
    → FitPlain content c → FitDraft after (draft_with (draft.Plain c) e w)
plain_step content after e k c (simple (simples.Text text)) g ok h f = record {
  meta = f.meta;
  correlator = fit_text k text (and_true _ _ (and_true _ _ ok).0).0 h;
  items = f.items;
  id = same_number ECmdID 20 g h.0 refl f.id;
  filled = same_items 20 g h.0 refl f.filled;
  single = same_single c g f;
  correlates =
      or_left (is_exec c.verb) false (subst (λ n. (not (n == 20) || is_exec c.verb) ≡ true) h.0 (and_true _ _ ok).1);
}
plain_step content after e k c (simple (simples.Short n)) g ok h f = record {
  meta = f.meta;
  correlator = f.correlator;
  items = f.items;
  id = λ _. fit_number k n (and_true _ _ (and_true _ _ ok).0).1 h;
  filled = same_items 21 g h.0 refl f.filled;
  single = same_single c g f;
  correlates = f.correlates;
}
plain_step content after e k c (simple (simples.Long n)) g ok h f = plain_moved c 22 g h refl refl f
plain_step content after e k c (simple simples.Flag) g ok h f = record {
  meta = f.meta;
  correlator = f.correlator;
  items = f.items;
  id = same_number ECmdID 23 g h refl f.id;
  filled = same_items 23 g h refl f.filled;
  single = same_single c g f;
  correlates = f.correlates;
}
plain_step content after e k c (node (draft.Meta m)) g ok h f = record {
  meta = h.3;
  correlator = f.correlator;
  items = f.items;
  id = same_number ECmdID 14 g h.0 refl f.id;
  filled = same_items 14 g h.0 refl f.filled;
  single = same_single c g f;
  correlates = f.correlates;
}
plain_step content after e k c (node (draft.Item item)) g ok h f = record {
  meta = f.meta;
  correlator = f.correlator;
  items = one_more FitItem c.items item f.items h.3;
  id = same_number ECmdID 10 g h.0 refl f.id;
  filled = λ _. is_filled_more c.items item;
  single = λ exec. one_single c item g (ap (λ n. n == 10) h.0) (f.single exec);
  correlates = f.correlates;
}
plain_step content after e k c (node d) g ok h f = plain_moved c (draft_sort d) g h.0 refl refl f

-- ---- an Alert

alert_moved : {content after : Content} {e : Element} {k : Kind} (c : AlertCmd) (s : ℕ) → Came content e (k, after)
    → sort k ≡ s → (s == 21) ≡ false
    → FitAlert content c → FitAlert after c
alert_moved c s g is other f =
    record { correlator = f.correlator; items = f.items; id = same_number ECmdID s g is other f.id }

alert_number : {content after : Content} (e : Element) {k : Kind} (c : AlertCmd) (n : ℕ) → Came content e (k, after)
    → (not (is_code k) || same EData e) ≡ true
    → FitSimple k (simples.Short n) → FitAlert content c → FitAlert after (alert_with_number c e n)
alert_number EData {k} c n g ok h f = record {
  correlator = f.correlator;
  items = f.items;
  id = kept (number_of ECmdID) g (other_element ECmdID EData k refl) f.id;
}
alert_number _ {k} c n g ok h f =
    record { correlator = f.correlator; items = f.items; id = λ _. fit_number k n (or_false (not (is_code k)) ok) h }

alert_step : (content after : Content) (e : Element) (k : Kind) (c : AlertCmd) (w : EndedElement) → Came content e (k, after)
    → alert_child e k ≡ true → FitWhole k w
    → FitAlert content c → FitDraft after (draft_with (draft.Alert c) e w)
alert_step content after e k c (simple (simples.Text text)) g ok h f =
    record {
      correlator = fit_text k text (and_true _ _ ok).0 h;
      items = f.items;
      id = same_number ECmdID 20 g h.0 refl f.id;
    }
alert_step content after e k c (simple (simples.Short n)) g ok h f = alert_number e c n g (and_true _ _ ok).1 h f
alert_step content after e k c (simple (simples.Long n)) g ok h f = alert_moved c 22 g h refl f
alert_step content after e k c (simple simples.Flag) g ok h f =
    record { correlator = f.correlator; items = f.items; id = same_number ECmdID 23 g h refl f.id }
alert_step content after e k c (node (draft.Item item)) g ok h f =
    record {
      correlator = f.correlator;
      items = one_more FitItem c.items item f.items h.3;
      id = same_number ECmdID 10 g h.0 refl f.id;
    }
alert_step content after e k c (node d) g ok h f = alert_moved c (draft_sort d) g h.0 refl f

-- ---- an Atomic

atomic_moved : {content after : Content} {e : Element} {k : Kind} (b : Block Member) (s : ℕ) → Came content e (k, after)
    → sort k ≡ s → (s == 21) ≡ false → ((s == 4) || (s == 5)) ≡ false
    → FitAtomic content b → FitAtomic after b
atomic_moved b s g is other unlike f = record {
  meta = f.meta;
  members = f.members;
  id = same_number ECmdID s g is other f.id;
  filled = same_members s g is unlike f.filled;
}

atomic_member : {content after : Content} {e : Element} {k : Kind} (b : Block Member) (m : Member) (s : ℕ)
    → Came content e (k, after) → sort k ≡ s → (s == 21) ≡ false
    → FitMember m → FitAtomic content b → FitAtomic after (record b { members = b.members ++ m ∷ [] })
atomic_member b m s g is other h f = record {
  meta = f.meta;
  members = one_more FitMember b.members m f.members h;
  id = same_number ECmdID s g is other f.id;
  filled = λ _. is_filled_more b.members m;
}

atomic_step : (content after : Content) (e : Element) (k : Kind) (b : Block Member) (w : EndedElement)
    → Came content e (k, after)
    → id_alone e k ≡ true → FitWhole k w
    → FitAtomic content b → FitDraft after (draft_with (draft.Atomic b) e w)
atomic_step content after e k b (simple (simples.Text text)) g ok h f = atomic_moved b 20 g h.0 refl refl f
atomic_step content after e k b (simple (simples.Short n)) g ok h f =
    record {
      meta = f.meta;
      members = f.members;
      id = λ _. fit_number k n ok h;
      filled = same_members 21 g h.0 refl f.filled;
    }
atomic_step content after e k b (simple (simples.Long n)) g ok h f = atomic_moved b 22 g h refl refl f
atomic_step content after e k b (simple simples.Flag) g ok h f =
    record {
      meta = f.meta;
      members = f.members;
      id = same_number ECmdID 23 g h refl f.id;
      filled = same_members 23 g h refl f.filled;
    }
atomic_step content after e k b (node (draft.Meta m)) g ok h f =
    record {
      meta = h.3;
      members = f.members;
      id = same_number ECmdID 14 g h.0 refl f.id;
      filled = same_members 14 g h.0 refl f.filled;
    }
atomic_step content after e k b (node (draft.Plain c)) g ok h f =
    atomic_member b (member.One c) 4 g h.0 refl (h.1, h.2, h.3) f
atomic_step content after e k b (node (draft.Alert c)) g ok h f =
    atomic_member b (member.Alert c) 5 g h.0 refl (h.1, h.2, h.3) f
atomic_step content after e k b (node d) g ok h f = atomic_moved b (draft_sort d) g h.0 refl refl f

-- ---- a Sequence

sequence_moved : {content after : Content} {e : Element} {k : Kind} (b : Block SeqMember) (s : ℕ)
    → Came content e (k, after)
    → sort k ≡ s → (s == 21) ≡ false → (((s == 4) || (s == 5)) || (s == 6)) ≡ false
    → FitSequence content b → FitSequence after b
sequence_moved b s g is other unlike f = record {
  meta = f.meta;
  members = f.members;
  id = same_number ECmdID s g is other f.id;
  filled = same_seq_members s g is unlike f.filled;
}

sequence_member : {content after : Content} {e : Element} {k : Kind} (b : Block SeqMember) (m : SeqMember) (s : ℕ)
    → Came content e (k, after) → sort k ≡ s → (s == 21) ≡ false
    → FitSeqMember m → FitSequence content b → FitSequence after (record b { members = b.members ++ m ∷ [] })
sequence_member b m s g is other h f = record {
  meta = f.meta;
  members = one_more FitSeqMember b.members m f.members h;
  id = same_number ECmdID s g is other f.id;
  filled = λ _. is_filled_more b.members m;
}

sequence_step : (content after : Content) (e : Element) (k : Kind) (b : Block SeqMember) (w : EndedElement)
    → Came content e (k, after) → id_alone e k ≡ true → FitWhole k w
    → FitSequence content b → FitDraft after (draft_with (draft.Sequence b) e w)
sequence_step content after e k b (simple (simples.Text text)) g ok h f = sequence_moved b 20 g h.0 refl refl f
sequence_step content after e k b (simple (simples.Short n)) g ok h f =
    record {
      meta = f.meta;
      members = f.members;
      id = λ _. fit_number k n ok h;
      filled = same_seq_members 21 g h.0 refl f.filled;
    }
sequence_step content after e k b (simple (simples.Long n)) g ok h f = sequence_moved b 22 g h refl refl f
sequence_step content after e k b (simple simples.Flag) g ok h f =
    record {
      meta = f.meta;
      members = f.members;
      id = same_number ECmdID 23 g h refl f.id;
      filled = same_seq_members 23 g h refl f.filled;
    }
sequence_step content after e k b (node (draft.Meta m)) g ok h f =
    record {
      meta = h.3;
      members = f.members;
      id = same_number ECmdID 14 g h.0 refl f.id;
      filled = same_seq_members 14 g h.0 refl f.filled;
    }
sequence_step content after e k b (node (draft.Plain c)) g ok h f =
    sequence_member b (seq_member.Single (member.One c)) 4 g h.0 refl (h.1, h.2, h.3) f
sequence_step content after e k b (node (draft.Alert c)) g ok h f =
    sequence_member b (seq_member.Single (member.Alert c)) 5 g h.0 refl (h.1, h.2, h.3) f
sequence_step content after e k b (node (draft.Atomic a)) g ok h f =
    sequence_member b (seq_member.Atomic a) 6 g h.0 refl (h.1, h.2, h.3) f
sequence_step content after e k b (node d) g ok h f = sequence_moved b (draft_sort d) g h.0 refl refl f

-- ---- a Status

status_moved : {content after : Content} {e : Element} {k : Kind} (c : StatusCmd) (s : ℕ) → Came content e (k, after)
    → sort k ≡ s → (s == 21) ≡ false
    → FitStatus content c → FitStatus after c
status_moved c s g is other f = record {
  cmd = f.cmd;
  target_refs = f.target_refs;
  source_refs = f.source_refs;
  chal = f.chal;
  items = f.items;
  id = same_number ECmdID s g is other f.id;
  msg_ref = same_number EMsgRef s g is other f.msg_ref;
}

status_text : {after : Content} (c : StatusCmd) (e : Element) (text : List ℕ) → FitText text → FitStatus after c
    → FitStatus after (status_with_text c e text)
status_text c ECmd text t f = record {
  cmd = t;
  target_refs = f.target_refs;
  source_refs = f.source_refs;
  chal = f.chal;
  items = f.items;
  id = f.id;
  msg_ref = f.msg_ref;
}
status_text c ETargetRef text t f = record {
  cmd = f.cmd;
  target_refs = one_more FitText c.target_refs text f.target_refs t;
  source_refs = f.source_refs;
  chal = f.chal;
  items = f.items;
  id = f.id;
  msg_ref = f.msg_ref;
}
status_text c ESourceRef text t f = record {
  cmd = f.cmd;
  target_refs = f.target_refs;
  source_refs = one_more FitText c.source_refs text f.source_refs t;
  chal = f.chal;
  items = f.items;
  id = f.id;
  msg_ref = f.msg_ref;
}
status_text c _ text t f = f

status_number : {content after : Content} (e : Element) {k : Kind} (c : StatusCmd) (n : ℕ) → Came content e (k, after)
    → (not (is_code k) || (same ECmdRef e || same EData e)) ≡ true
    → FitSimple k (simples.Short n) → FitStatus content c → FitStatus after (status_with_number c e n)
status_number ECmdID {k} c n g ok h f = record {
  cmd = f.cmd;
  target_refs = f.target_refs;
  source_refs = f.source_refs;
  chal = f.chal;
  items = f.items;
  id = λ _. fit_number k n (or_false (not (is_code k)) ok) h;
  msg_ref = kept (number_of EMsgRef) g (other_element EMsgRef ECmdID k refl) f.msg_ref;
}
status_number EMsgRef {k} c n g ok h f = record {
  cmd = f.cmd;
  target_refs = f.target_refs;
  source_refs = f.source_refs;
  chal = f.chal;
  items = f.items;
  id = kept (number_of ECmdID) g (other_element ECmdID EMsgRef k refl) f.id;
  msg_ref = λ _. fit_number k n (or_false (not (is_code k)) ok) h;
}
status_number ECmdRef {k} c n g ok h f = record {
  cmd = f.cmd;
  target_refs = f.target_refs;
  source_refs = f.source_refs;
  chal = f.chal;
  items = f.items;
  id = kept (number_of ECmdID) g (other_element ECmdID ECmdRef k refl) f.id;
  msg_ref = kept (number_of EMsgRef) g (other_element EMsgRef ECmdRef k refl) f.msg_ref;
}
status_number e {k} c n g ok h f = record {
  cmd = f.cmd;
  target_refs = f.target_refs;
  source_refs = f.source_refs;
  chal = f.chal;
  items = f.items;
  id = kept (number_of ECmdID) g (other_element ECmdID e k refl) f.id;
  msg_ref = kept (number_of EMsgRef) g (other_element EMsgRef e k refl) f.msg_ref;
}

status_step : (content after : Content) (e : Element) (k : Kind) (c : StatusCmd) (w : EndedElement) → Came content e (k, after)
    → status_child e k ≡ true → FitWhole k w
    → FitStatus content c → FitDraft after (draft_with (draft.Status c) e w)
status_step content after e k c (simple (simples.Text text)) g ok h f =
    status_text c e text (fit_text k text (and_true _ _ ok).0 h) (status_moved c 20 g h.0 refl f)
status_step content after e k c (simple (simples.Short n)) g ok h f = status_number e c n g (and_true _ _ ok).1 h f
status_step content after e k c (simple (simples.Long n)) g ok h f = status_moved c 22 g h refl f
status_step content after e k c (simple simples.Flag) g ok h f = status_moved c 23 g h refl f
status_step content after e k c (node (draft.Chal m)) g ok h f = record {
  cmd = f.cmd;
  target_refs = f.target_refs;
  source_refs = f.source_refs;
  chal = h.3;
  items = f.items;
  id = same_number ECmdID 13 g h.0 refl f.id;
  msg_ref = same_number EMsgRef 13 g h.0 refl f.msg_ref;
}
status_step content after e k c (node (draft.Item item)) g ok h f = record {
  cmd = f.cmd;
  target_refs = f.target_refs;
  source_refs = f.source_refs;
  chal = f.chal;
  items = one_more FitItem c.items item f.items h.3;
  id = same_number ECmdID 10 g h.0 refl f.id;
  msg_ref = same_number EMsgRef 10 g h.0 refl f.msg_ref;
}
status_step content after e k c (node d) g ok h f = status_moved c (draft_sort d) g h.0 refl f

-- ---- Results

results_moved : {content after : Content} {e : Element} {k : Kind} (c : ResultsCmd) (s : ℕ) → Came content e (k, after)
    → sort k ≡ s → (s == 21) ≡ false → (s == 10) ≡ false
    → FitResults content c → FitResults after c
results_moved c s g is other unlike f = record {
  meta = f.meta;
  target_ref = f.target_ref;
  source_ref = f.source_ref;
  items = f.items;
  id = same_number ECmdID s g is other f.id;
  msg_ref = f.msg_ref;
  filled = same_items s g is unlike f.filled;
}

results_text : {after : Content} (c : ResultsCmd) (e : Element) (text : List ℕ) → FitText text → FitResults after c
    → FitResults after (results_with_text c e text)
results_text c ETargetRef text t f = record {
  meta = f.meta;
  target_ref = t;
  source_ref = f.source_ref;
  items = f.items;
  id = f.id;
  msg_ref = f.msg_ref;
  filled = f.filled;
}
results_text c ESourceRef text t f = record {
  meta = f.meta;
  target_ref = f.target_ref;
  source_ref = t;
  items = f.items;
  id = f.id;
  msg_ref = f.msg_ref;
  filled = f.filled;
}
results_text c _ text t f = f

results_number : {content after : Content} (e : Element) {k : Kind} (c : ResultsCmd) (n : ℕ) → Came content e (k, after)
    → (not (is_code k) || (same ECmdRef e || same EData e)) ≡ true
    → FitSimple k (simples.Short n) → FitResults content c → FitResults after (results_with_number c e n)
results_number ECmdID {k} c n g ok h f = record {
  meta = f.meta;
  target_ref = f.target_ref;
  source_ref = f.source_ref;
  items = f.items;
  id = λ _. fit_number k n (or_false (not (is_code k)) ok) h;
  msg_ref = f.msg_ref;
  filled = same_items 21 g h.0 refl f.filled;
}
results_number EMsgRef {k} c n g ok h f = record {
  meta = f.meta;
  target_ref = f.target_ref;
  source_ref = f.source_ref;
  items = f.items;
  id = kept (number_of ECmdID) g (other_element ECmdID EMsgRef k refl) f.id;
  msg_ref = fit_number k n (or_false (not (is_code k)) ok) h;
  filled = same_items 21 g h.0 refl f.filled;
}
results_number e {k} c n g ok h f = record {
  meta = f.meta;
  target_ref = f.target_ref;
  source_ref = f.source_ref;
  items = f.items;
  id = kept (number_of ECmdID) g (other_element ECmdID e k refl) f.id;
  msg_ref = f.msg_ref;
  filled = same_items 21 g h.0 refl f.filled;
}

results_step : (content after : Content) (e : Element) (k : Kind) (c : ResultsCmd) (w : EndedElement)
    → Came content e (k, after) → status_child e k ≡ true → FitWhole k w
    → FitResults content c → FitDraft after (draft_with (draft.Results c) e w)
results_step content after e k c (simple (simples.Text text)) g ok h f =
    results_text c e text (fit_text k text (and_true _ _ ok).0 h) (results_moved c 20 g h.0 refl refl f)
results_step content after e k c (simple (simples.Short n)) g ok h f = results_number e c n g (and_true _ _ ok).1 h f
results_step content after e k c (simple (simples.Long n)) g ok h f = results_moved c 22 g h refl refl f
results_step content after e k c (simple simples.Flag) g ok h f = results_moved c 23 g h refl refl f
results_step content after e k c (node (draft.Meta m)) g ok h f = record {
  meta = h.3;
  target_ref = f.target_ref;
  source_ref = f.source_ref;
  items = f.items;
  id = same_number ECmdID 14 g h.0 refl f.id;
  msg_ref = f.msg_ref;
  filled = same_items 14 g h.0 refl f.filled;
}
results_step content after e k c (node (draft.Item item)) g ok h f = record {
  meta = f.meta;
  target_ref = f.target_ref;
  source_ref = f.source_ref;
  items = one_more FitItem c.items item f.items h.3;
  id = same_number ECmdID 10 g h.0 refl f.id;
  msg_ref = f.msg_ref;
  filled = λ _. is_filled_more c.items item;
}
results_step content after e k c (node d) g ok h f = results_moved c (draft_sort d) g h.0 refl refl f

-- ---- a body, and a message

body_step : (content after : Content) (e : Element) (k : Kind) (b : BodyDraft) (w : EndedElement) → FitWhole k w
    → AllByRecursion FitCommand b.commands → FitDraft after (draft_with (draft.Body b) e w)
body_step content after e k b (simple (simples.Text text)) h f = f
body_step content after e k b (simple (simples.Short n)) h f = f
body_step content after e k b (simple (simples.Long n)) h f = f
body_step content after e k b (simple simples.Flag) h f = f
body_step content after e k b (node (draft.Plain c)) h f =
    one_more FitCommand b.commands (command.Plain c) f (h.1, h.2, h.3)
body_step content after e k b (node (draft.Alert c)) h f =
    one_more FitCommand b.commands (command.Alert c) f (h.1, h.2, h.3)
body_step content after e k b (node (draft.Atomic a)) h f =
    one_more FitCommand b.commands (command.Atomic a) f (h.1, h.2, h.3)
body_step content after e k b (node (draft.Sequence a)) h f =
    one_more FitCommand b.commands (command.Sequence a) f (h.1, h.2, h.3)
body_step content after e k b (node (draft.Status c)) h f =
    one_more FitCommand b.commands (command.Status c) f (h.1, h.2, h.3)
body_step content after e k b (node (draft.Results c)) h f =
    one_more FitCommand b.commands (command.Results c) f (h.1, h.2, h.3)
body_step content after e k b (node _) h f = f

message_moved : {content after : Content} {e : Element} {k : Kind} (m : MessageDraft) (s : ℕ)
    → Came content e (k, after) → sort k ≡ s → (s == 2) ≡ false
    → FitMessage content m → FitMessage after m
message_moved {content} {after} {e} {k} m s g is other f =
    record {
      header = f.header;
      present = kept is_header g (λ passed. refuted (λ n. n == 2) k s is other passed) f.present;
      body = f.body;
    }

message_step : (content after : Content) (e : Element) (k : Kind) (m : MessageDraft) (w : EndedElement)
    → Came content e (k, after) → FitWhole k w
    → FitMessage content m → FitDraft after (draft_with (draft.Message m) e w)
message_step content after e k m (simple (simples.Text text)) g h f = message_moved m 20 g h.0 refl f
message_step content after e k m (simple (simples.Short n)) g h f = message_moved m 21 g h.0 refl f
message_step content after e k m (simple (simples.Long n)) g h f = message_moved m 22 g h refl f
message_step content after e k m (simple simples.Flag) g h f = message_moved m 23 g h refl f
message_step content after e k m (node (draft.Header head)) g h f =
    record { header = (h.1, h.2, h.3); present = λ _. refl; body = f.body }
message_step content after e k m (node (draft.Body b)) g h f =
    record {
      header = f.header;
      present = kept is_header g (λ passed. refuted (λ n. n == 2) k 3 h.0 refl passed) f.present;
      body = h.3;
    }
message_step content after e k m (node d) g h f = message_moved m (draft_sort d) g h.0 refl f

-- ---- any

pub draft_step : (content after : Content) (e : Element) (k : Kind) (d : Draft) (w : EndedElement) → Came content e (k, after)
    → child_test d e k ≡ true → FitWhole k w
    → FitDraft content d → FitDraft after (draft_with d e w)
draft_step content after e k draft.Document w g ok h f = absurd f
draft_step content after e k (draft.Message m) w g ok h f = message_step content after e k m w g h f
draft_step content after e k (draft.Header head) w g ok h f = header_step content after e k head w g ok h f
draft_step content after e k (draft.Body b) w g ok h f = body_step content after e k b w h f
draft_step content after e k (draft.Plain c) w g ok h f = plain_step content after e k c w g ok h f
draft_step content after e k (draft.Alert c) w g ok h f = alert_step content after e k c w g ok h f
draft_step content after e k (draft.Atomic b) w g ok h f = atomic_step content after e k b w g ok h f
draft_step content after e k (draft.Sequence b) w g ok h f = sequence_step content after e k b w g ok h f
draft_step content after e k (draft.Status c) w g ok h f = status_step content after e k c w g ok h f
draft_step content after e k (draft.Results c) w g ok h f = results_step content after e k c w g ok h f
draft_step content after e k (draft.Item item) w g ok h f = item_step content after e k item w h f
draft_step content after e k (draft.Loc loc) w g ok h f = loc_step content after e k loc w g ok h f
draft_step content after e k (draft.Cred cred) w g ok h f = cred_step content after e k cred w h f
draft_step content after e k (draft.Chal meta) w g ok h f = chal_step content after e k meta w h f
draft_step content after e k (draft.Meta meta) w g ok h f = meta_step content after e k meta w g ok h f
