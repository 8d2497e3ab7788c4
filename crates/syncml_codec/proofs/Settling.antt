-- Which refusals bytes settle: all but truncated, which none do.
use Rattle.std.proofs.Common.{ℕ, ◌≡◌, ◌≤◌, List, [], ◌∷◌, ◌++◌, length, length-append, take, refl, sym, ap, ◌∙◌, subst}
use Rattle.std.proofs.Common.{arith, inl, inr}
use Rattle.std.proofs.lemmas.List.{append-nil, length-take, take_all}
use Rattle.std.specs.Prelude.{◌⊎◌, ◌||◌, Bool, true, false, if◌then◌else◌, Option, Some, None, Result, Ok, Err}
use Rattle.wbxml_ints.specs.Multibyte.{AreBytes}
use Rattle.wbxml_tables.specs.declared.Element.{Element}
use Rattle.wbxml_tokens.specs.declared.reason.Reason.{Reason}
use Rattle.wbxml_tokens.specs.declared.reason.Reason.TheVariants as reasons
use Rattle.wbxml_tokens.specs.declared.reason.Refusal.{Refusal}
use Rattle.wbxml_tokens.specs.declared.token.Token.{Token}
use Rattle.wbxml_tokens.specs.declared.token.Token.TheVariants.{Tag, End, Text, Opaque}
use Rattle.wbxml_tokens.specs.Reading.{most_bytes, reading}
use Rattle.wbxml_tokens.specs.Spelled.{IsWrong, IsWrongPrologue, RefusedAt, in_prologue, in_body, trailing}
use Rattle.wbxml_tokens.specs.Spelled.{unfinished_prologue, unfinished_body}
use Rattle.wbxml_tokens.proofs.Refusals.{refused_is_told}
use Rattle.syncml_shape.specs.Faults.{is_left_out, is_stray, is_nested, or_misplaced, innermost, open_elements}
use Rattle.syncml_shape.specs.Faults.{reason_in}
use Rattle.syncml_types.specs.Message.{Parts}
use Rattle.syncml_grammar.specs.Building.{Building}
use Rattle.syncml_grammar.specs.Refusals.{IsRefused}
use Rattle.syncml_grammar.specs.Taken.{tokens, HasRefused}
use Rattle.syncml_grammar.proofs.Reasons.{IsOfText, unread_is_text}
use Rattle.syncml_grammar.proofs.Taken.{built_is_taken}
use Rattle.syncml_codec.specs.Decoding.{built, first_refused, settled, parts_of, read_by, read_of}
use Rattle.syncml_codec.specs.Laws.{SettledIsForGood, RefusedIsSettled, RefusedTokenIsSettled, TruncatedIsOpen}
use Rattle.syncml_codec.proofs.Decoded.{token_unbuilt, bytes_of_front, settled_more, settled_read}

-- ---- no token and no byte is refused as truncated

fault_not : (a b : Bool)
    → or_misplaced (if a then Some reasons.Leftout else if b then Some reasons.Nested else None) ≡ reasons.Truncated → ⊥
fault_not true b e = cc
fault_not false true e = cc
fault_not false false e = cc

reason_not : (opened : List Element) (t : Token) → reason_in opened t ≡ reasons.Truncated → ⊥
reason_not opened (Tag e content) h =
    fault_not (is_left_out e || is_stray (innermost opened) e) (is_nested (innermost opened) e) h
reason_not opened End h = cc
reason_not opened (Text bytes) h = cc
reason_not opened (Opaque bytes) h = cc

text_not : (reason : Reason) → IsOfText reason → reason ≡ reasons.Truncated → ⊥
text_not reason (inl is) e = let never : reasons.Text ≡ reasons.Truncated = sym is ∙ e in cc
text_not reason (inr is) e = let never : reasons.Number ≡ reasons.Truncated = sym is ∙ e in cc

token_not : (before : List Token) (t : Token) (reason : Reason) → IsRefused before t reason → reason ≡ reasons.Truncated
    → ⊥
token_not before t reason (all_read, inl m) e = reason_not (open_elements before) t (sym m.named ∙ e)
token_not before t reason (all_read, inr (viable, closes)) e =
    text_not reason (unread_is_text viable.1 (record { at = length before; reason = reason }) viable.2.fitting
    (closes viable.0 viable.1 viable.2)) e

byte_not : {bytes : List ℕ} {at : ℕ} {reason : Reason} → RefusedAt bytes at reason → reason ≡ reasons.Truncated → ⊥
byte_not {bytes} {at} (in_prologue w) e = subst (IsWrongPrologue (take most_bytes bytes) at) e w
byte_not (in_body {table} {page} {rest = rest} u open_ w) e = subst (IsWrong page table rest) e w
byte_not (trailing u whole some few) e = cc
byte_not (unfinished_prologue u long) e = cc
byte_not (unfinished_body u open_ w long) e = cc

same_some : (f g : Refusal) → Some f ≡ Some g → f ≡ g
same_some f g e = cc

settled_by : (bytes : List ℕ) (f : Refusal) (r : Result Building Refusal) (o : Option Refusal) → AreBytes bytes
    → built bytes ≡ r → (reading bytes).refused ≡ o
    → first_refused r o ≡ Some f → f.reason ≡ reasons.Truncated → ⊥
settled_by bytes f (Err g) o fit is refused h e =
    let found : HasRefused (reading bytes).tokens f =
    (built_is_taken.refused (reading bytes).tokens f).0 (is ∙ ap (λ (x : Refusal). Err x) (same_some g f h)) in
    token_not (tokens found.0) found.1.token f.reason found.4 e
settled_by bytes f (Ok b) o fit is refused h e = byte_not ((refused_is_told bytes f.at f.reason fit).0 (refused ∙ h)) e

settled_not : (bytes : List ℕ) (f : Refusal) → AreBytes bytes → settled bytes ≡ Some f → f.reason ≡ reasons.Truncated
    → ⊥
unfolding settled
settled_not bytes f fit h e = settled_by bytes f (built bytes) (reading bytes).refused fit refl refl h e

-- ---- what is refused is settled, or the bytes end too early

abbrev IsSettled : Option Refusal → ℕ → Refusal → Type 0
IsSettled o n f = (o ≡ Some f) ⊎ (f ≡ record { at = n; reason = reasons.Truncated })

read_as : (o : Option Refusal) (p : Option Parts) (n : ℕ) (f : Refusal) → read_by o p n ≡ Err f → IsSettled o n f
read_as (Some g) p n f h = inl cc
read_as None (Some parts) n f h = cc
read_as None None n f h = inr cc

read_so : (bytes : List ℕ) (f : Refusal) → read_of bytes ≡ Err f → IsSettled (settled bytes) (length bytes) f
unfolding read_of
read_so bytes f h = read_as (settled bytes) (parts_of (built bytes)) (length bytes) f h

unless_truncated : (o : Option Refusal) (n : ℕ) (f : Refusal) → IsSettled o n f → (f.reason ≡ reasons.Truncated → ⊥)
    → o ≡ Some f
unless_truncated o n f (inl is) other = is
unless_truncated o n f (inr is) other = absurd (other (ap (λ (g : Refusal). g.reason) is))

pub refused_is_settled : RefusedIsSettled
refused_is_settled bytes f h other = unless_truncated (settled bytes) (length bytes) f (read_so bytes f h) other

-- the place of truncated is the length of the bytes
cut_at : (bytes : List ℕ) (f : Refusal) → AreBytes bytes → f.reason ≡ reasons.Truncated
    → IsSettled (settled bytes) (length bytes) f → f.at ≡ length bytes
cut_at bytes f fit e (inl is) = absurd (settled_not bytes f fit is e)
cut_at bytes f fit e (inr is) = ap (λ (g : Refusal). g.at) is

pub truncated_is_open : TruncatedIsOpen
truncated_is_open bytes more at fit h some h' =
    let f : Refusal = record { at = at; reason = reasons.Truncated } in
    let here = cut_at bytes f (bytes_of_front bytes more fit) refl (read_so bytes f h) in
    let there = cut_at (bytes ++ more) f fit refl (read_so (bytes ++ more) f h') in
    omega (arith, here, there, some, length-append bytes more)

-- ---- what holds whatever follows is settled

one_more : (bytes : List ℕ) → AreBytes bytes → AreBytes (bytes ++ 0 ∷ [])
one_more [] h = (omega arith, tt)
one_more (b ∷ bytes) h = (h.0, one_more bytes h.1)

always : (bytes : List ℕ) (f : Refusal) → AreBytes bytes → ((more : List ℕ) → read_of (bytes ++ more) ≡ Err f)
    → IsSettled (settled bytes) (length bytes) f → settled bytes ≡ Some f
always bytes f fit all (inl is) = is
always bytes f fit all (inr is) =
    let cut : Refusal = record { at = length bytes; reason = reasons.Truncated } in
    let here : read_of bytes ≡ Err cut =
    ap read_of (sym (append-nil bytes)) ∙ all [] ∙ ap (λ (g : Refusal). Err g) is in
    let there : read_of (bytes ++ 0 ∷ []) ≡ Err cut = all (0 ∷ []) ∙ ap (λ (g : Refusal). Err g) is in
    absurd (truncated_is_open bytes (0 ∷ []) (length bytes) (one_more bytes fit) here (omega arith) there)

pub settled_is_for_good : SettledIsForGood
settled_is_for_good bytes f fit = (
  λ h more. settled_read (bytes ++ more) f (settled_more bytes more f h),
  λ all. always bytes f fit all (read_so bytes f (ap read_of (sym (append-nil bytes)) ∙ all [])),
)

-- ---- the token that is refused

unbuilt_settled : (bytes : List ℕ) (f : Refusal) → built bytes ≡ Err f → settled bytes ≡ Some f
unfolding settled
unbuilt_settled bytes f is = ap (λ r. first_refused r (reading bytes).refused) is

few : (n : ℕ) (l : List ℕ) → length (take n l) ≤ n
few n l = omega (arith, length-take n l)

pub refused_token_is_settled : RefusedTokenIsSettled
refused_token_is_settled bytes at reason t =
    let first : List ℕ = t.prologue ++ t.body in
    let room : length first ≤ most_bytes = omega (
      arith,
      ap length t.whole,
      few most_bytes bytes,
      length-append t.prologue (t.body ++ t.rest),
      length-append t.body t.rest,
      length-append t.prologue t.body,
    ) in
    unbuilt_settled first (record { at = at; reason = reason })
    (token_unbuilt first at reason (record {
      table = t.table;
      prologue = t.prologue;
      body = t.body;
      rest = [];
      before = t.before;
      token = t.token;
      page = t.page;
      extent = t.extent;
      whole = take_all most_bytes first room ∙ ap (λ l. t.prologue ++ l) (sym (append-nil t.body));
      is_prologue = t.is_prologue;
      spells = t.spells;
      refused = t.refused;
    }))
