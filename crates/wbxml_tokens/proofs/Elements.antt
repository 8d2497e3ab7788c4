-- Tokens of one element lead from before it to its end, and no others do.
use Rattle.std.proofs.Common.{ℕ, zero, suc, ◌≡◌, ◌+◌, ◌-◌, List, [], ◌∷◌, ◌++◌, length, map, take, refl, sym, ap, ◌∙◌}
use Rattle.std.proofs.Common.{subst, arith, append_assoc, inl, inr}
use Rattle.std.proofs.lemmas.List.{append-nil, map-append}
use Rattle.std.specs.Prelude.{◌==◌, Bool, true, false, if◌then◌else◌, Option, Some, None}
use Rattle.wbxml_ints.specs.Multibyte.{AreBytes}
use Rattle.wbxml_tables.specs.declared.Element.{Element}
use Rattle.wbxml_tokens.specs.declared.reason.Reason.{Reason}
use Rattle.wbxml_tokens.specs.declared.reason.Reason.TheVariants as reasons
use Rattle.wbxml_tokens.specs.declared.reason.Refusal.{Refusal}
use Rattle.wbxml_tokens.specs.declared.token.Token.{Token}
use Rattle.wbxml_tokens.specs.declared.token.Token.TheVariants.{Tag, End, Text, Opaque}
use Rattle.wbxml_tokens.specs.declared.token.Placed.{Placed}
use Rattle.wbxml_tokens.specs.declared.extent.Extent.{Extent}
use Rattle.wbxml_tokens.specs.declared.extent.Extent.TheVariants as extents
use Rattle.wbxml_tokens.specs.Fronts.{Front, more, wrong, head, switch, token}
use Rattle.wbxml_tokens.specs.Reading.{Reader, Reading, first_reader, begun_by, most_bytes, taken_by, is_whole}
use Rattle.wbxml_tokens.specs.Reading.{behind_end}
use Rattle.wbxml_tokens.specs.Reading.{extent_after, found, met, limit, step_within, step_from, step_byte, reads}
use Rattle.wbxml_tokens.specs.Reading.{reading}
use Rattle.wbxml_tokens.specs.Reading.{refused_at_end, refusal_of}
use Rattle.wbxml_tokens.specs.Spelled.{IsWrong, IsWrongPrologue, RefusedAt, in_prologue, in_body, trailing}
use Rattle.wbxml_tokens.specs.Spelled.{unfinished_prologue, unfinished_body}
use Rattle.wbxml_tokens.specs.Whole.{IsContent, nothing, with_text, with_opaque, with_tag, with_element, IsElement}
use Rattle.wbxml_tokens.specs.Whole.{extent_behind, ElementIsWhole, tokens_read, DocumentIsElement, CutIsTruncated}
use Rattle.wbxml_tokens.proofs.Beyond.{takes_all}
use Rattle.wbxml_tokens.proofs.Refusals.{refused_is_told}

-- tokens lead from one extent to another, and each stands where the element isn't whole
abbrev Leads : Extent → List Token → Extent → Type 0
Leads extent [] end = extent ≡ end
Leads extent (t ∷ tokens) end = (is_whole extent ≡ false) × Leads (extent_after extent t) tokens end

leads-append : (extent middle end : Extent) (a b : List Token) → Leads extent a middle → Leads middle b end
    → Leads extent (a ++ b) end
leads-append extent middle end [] b h g = subst (λ x. Leads x b end) (sym h) g
leads-append extent middle end (t ∷ a) b h g = (h.0, leads-append (extent_after extent t) middle end a b h.1 g)

-- ---- an element leads to its end

-- behind the END of an element inside another
end_inside : (k : ℕ) → behind_end (suc k + 1) ≡ extents.Inside (suc k)
end_inside k =
    let inside : (suc k + 1 == 1) ≡ false = grind arith in
    let less : suc k + 1 - 1 ≡ suc k = omega arith in
    ap (λ (c : Bool). if c then extents.Whole else extents.Inside (suc k + 1 - 1)) inside ∙ ap extents.Inside less

end_deeper : (k : ℕ) → behind_end (suc (suc k)) ≡ extents.Inside (suc k)
end_deeper k =
    let same : suc (suc k) ≡ suc k + 1 = omega arith in ap behind_end same ∙ end_inside k

content_leads : {tokens : List Token} (k : ℕ) → IsContent tokens
    → Leads (extents.Inside (suc k)) tokens (extents.Inside (suc k))
content_leads k nothing = refl
content_leads k (with_text text h) = (refl, content_leads k h)
content_leads k (with_opaque bytes h) = (refl, content_leads k h)
content_leads k (with_tag e h) = (refl, content_leads k h)
content_leads k (with_element {content} {later} {tokens} e h g is) =
    let deeper : suc (suc k) ≡ suc k + 1 = omega arith in
    let inner : Leads (extents.Inside (suc k + 1)) content (extents.Inside (suc k + 1)) =
    subst (λ n. Leads (extents.Inside n) content (extents.Inside n)) deeper (content_leads (suc k) h) in
    let outer : Leads (extents.Inside (suc k + 1)) (End ∷ later) (extents.Inside (suc k)) =
    (refl, subst (λ x. Leads x later (extents.Inside (suc k))) (sym (end_inside k)) (content_leads k g)) in
    subst (λ y. Leads (extents.Inside (suc k)) y (extents.Inside (suc k))) (sym is) (
      refl,
      leads-append (extents.Inside (suc k + 1)) (extents.Inside (suc k + 1)) (extents.Inside (suc k)) content
          (End ∷ later) inner outer,
    )

element_leads : (tokens : List Token) → IsElement tokens → Leads extents.Before tokens extents.Whole
element_leads tokens (e, inl is) = subst (λ y. Leads extents.Before y extents.Whole) (sym is) (refl, refl)
element_leads tokens (e, inr (content, is, h)) =
    subst (λ y. Leads extents.Before y extents.Whole) (sym is) (
      refl,
      leads-append (extents.Inside 1) (extents.Inside 1) extents.Whole content (End ∷ []) (content_leads 0 h)
          (refl, refl),
    )

-- ---- what leads to an element's end is one

nothing_behind : (tokens : List Token) → Leads extents.Whole tokens extents.Whole → tokens ≡ []
nothing_behind [] h = refl
nothing_behind (t ∷ tokens) h = absurd (true_false h.0)
  where
    true_false : true ≡ false → ⊥
    true_false e = cc

never_whole : (tokens : List Token) → Leads extents.Never tokens extents.Whole → ⊥
never_whole [] h = cc
never_whole (t ∷ tokens) h = never_whole tokens h.1

-- the tokens close so many elements more than one: the content of the innermost, its END, and then those of the others
abbrev Closes : ℕ → List Token → Type 0
Closes zero tokens = (content : List Token) × (tokens ≡ content ++ End ∷ []) × IsContent content
Closes (suc k) tokens =
    (content later : List Token) × (tokens ≡ content ++ End ∷ later) × IsContent content × Closes k later

closes_on : (k : ℕ) (t : Token) (tokens : List Token)
    → ((content : List Token) → IsContent content → IsContent (t ∷ content)) → Closes k tokens → Closes k (t ∷ tokens)
closes_on zero t tokens on (content, is, h) = (t ∷ content, ap (λ y. t ∷ y) is, on content h)
closes_on (suc k) t tokens on (content, later, is, h, g) = (t ∷ content, later, ap (λ y. t ∷ y) is, on content h, g)

closes_around : (k : ℕ) (e : Element) (tokens : List Token) → Closes (suc k) tokens → Closes k (Tag e true ∷ tokens)
closes_around zero e tokens (inner, later, is, h, (content, is2, g)) = (
  Tag e true ∷ inner ++ End ∷ content,
  ap (λ y. Tag e true ∷ y) (is ∙ ap (λ y. inner ++ End ∷ y) is2 ∙ sym (append_assoc inner (End ∷ content) (End ∷ []))),
  with_element e h g refl,
)
closes_around (suc k) e tokens (inner, later, is, h, (content, later2, is2, g, others)) = (
  Tag e true ∷ inner ++ End ∷ content,
  later2,
  ap (λ y. Tag e true ∷ y)
      (is ∙ ap (λ y. inner ++ End ∷ y) is2 ∙ sym (append_assoc inner (End ∷ content) (End ∷ later2))),
  with_element e h g refl,
  others,
)

closes : (tokens : List Token) (k : ℕ) → Leads (extents.Inside (suc k)) tokens extents.Whole → Closes k tokens
closes [] k h = absurd (inside_whole k h)
  where
    inside_whole : (k : ℕ) → extents.Inside (suc k) ≡ extents.Whole → ⊥
    inside_whole k e = cc
closes (End ∷ tokens) zero h = ([], ap (λ y. End ∷ y) (nothing_behind tokens h.1), nothing)
closes (End ∷ tokens) (suc k) h =
    ([], tokens, refl, nothing, closes tokens k (subst (λ x. Leads x tokens extents.Whole) (end_deeper k) h.1))
closes (Text text ∷ tokens) k h = closes_on k (Text text) tokens (λ content g. with_text text g) (closes tokens k h.1)
closes (Opaque bytes ∷ tokens) k h =
    closes_on k (Opaque bytes) tokens (λ content g. with_opaque bytes g) (closes tokens k h.1)
closes (Tag e false ∷ tokens) k h = closes_on k (Tag e false) tokens (λ content g. with_tag e g) (closes tokens k h.1)
closes (Tag e true ∷ tokens) k h =
    let deeper : suc k + 1 ≡ suc (suc k) = omega arith in
    closes_around k e tokens
    (closes tokens (suc k) (subst (λ n. Leads (extents.Inside n) tokens extents.Whole) deeper h.1))

leads_element : (tokens : List Token) → Leads extents.Before tokens extents.Whole → IsElement tokens
leads_element [] h = absurd (before_whole h)
  where
    before_whole : extents.Before ≡ extents.Whole → ⊥
    before_whole e = cc
leads_element (End ∷ tokens) h = absurd (never_whole tokens h.1)
leads_element (Text text ∷ tokens) h = absurd (never_whole tokens h.1)
leads_element (Opaque bytes ∷ tokens) h = absurd (never_whole tokens h.1)
leads_element (Tag e false ∷ tokens) h = (e, inl (ap (λ y. Tag e false ∷ y) (nothing_behind tokens h.1)))
leads_element (Tag e true ∷ tokens) h =
    let c = closes tokens 0 h.1 in (e, inr (c.0, ap (λ y. Tag e true ∷ y) c.1, c.2))

-- ---- the extent behind tokens

leads_behind : (extent end : Extent) (tokens : List Token) → Leads extent tokens end → extent_behind extent tokens ≡ end
leads_behind extent end [] h = h
leads_behind extent end (t ∷ tokens) h = leads_behind (extent_after extent t) end tokens h.1

whole_not : (extent : Extent) → is_whole extent ≡ false → extent ≡ extents.Whole → ⊥
whole_not extent open_ e = true_false (sym (ap is_whole e) ∙ open_)
  where
    true_false : true ≡ false → ⊥
    true_false e = cc

-- no fewer of the tokens end the element
whole_at_last : (extent end : Extent) (tokens first later : List Token) → Leads extent tokens end
    → tokens ≡ first ++ later → extent_behind extent first ≡ extents.Whole → later ≡ []
whole_at_last extent end tokens first [] h is whole = refl
whole_at_last extent end tokens [] (t ∷ later) h is whole =
    absurd (whole_not extent (subst (λ y. Leads extent y end) is h).0 whole)
whole_at_last extent end [] (u ∷ first) (t ∷ later) h is whole = absurd cc
whole_at_last extent end (v ∷ tokens) (u ∷ first) (t ∷ later) h is whole =
    let same : v ≡ u = cc in
    let rest : tokens ≡ first ++ t ∷ later = cc in
    whole_at_last (extent_after extent v) end tokens first (t ∷ later) h.1 rest
    (ap (λ x. extent_behind (extent_after extent x) first) same ∙ whole)

whole_is : (extent : Extent) → is_whole extent ≡ true → extent ≡ extents.Whole
whole_is extents.Whole e = refl
whole_is extents.Before e = absurd cc
whole_is (extents.Inside n) e = absurd cc
whole_is extents.Never e = absurd cc

some_is_nil : (t : Token) (tokens : List Token) → t ∷ tokens ≡ [] → ⊥
some_is_nil t tokens e = cc

-- where no fewer end the element, the tokens lead there
behind_leads : (extent : Extent) (tokens : List Token) → extent_behind extent tokens ≡ extents.Whole
    → ((first later : List Token) → tokens ≡ first ++ later → extent_behind extent first ≡ extents.Whole → later ≡ [])
    → Leads extent tokens extents.Whole
behind_leads extent [] whole last = whole
behind_leads extent (t ∷ tokens) whole last = (
  open_here (is_whole extent) refl,
  behind_leads (extent_after extent t) tokens whole (λ first later is h. last (t ∷ first) later (ap (λ y. t ∷ y) is) h),
)
  where
    open_here : (c : Bool) → is_whole extent ≡ c → is_whole extent ≡ false
    open_here false e = e
    open_here true e = absurd (some_is_nil t tokens (last [] (t ∷ tokens) refl (whole_is extent e)))

pub element_is_whole : ElementIsWhole
element_is_whole tokens = (
  λ h. (
    leads_behind extents.Before extents.Whole tokens (element_leads tokens h),
    λ first later is whole.
        whole_at_last extents.Before extents.Whole tokens first later (element_leads tokens h) is whole,
  ),
  λ h. leads_element tokens (behind_leads extents.Before tokens h.0 h.1),
)

-- ---- the tokens of a reading

abbrev without_places : List Placed → List Token
without_places tokens = map (λ (p : Placed). p.token) tokens

-- the tokens so far lead to the reader's extent
abbrev Follows : Reading → Type 0
Follows x = Leads extents.Before (without_places x.tokens) x.reader.extent

met_follows : (x : Reading) (bytes : List ℕ) (part : Front) → is_whole x.reader.extent ≡ false → Follows x
    → Follows (met x bytes part)
met_follows x bytes more open_ h = h
met_follows x bytes (wrong at reason) open_ h = h
met_follows x bytes (head table used) open_ h =
    subst (λ y. Leads extents.Before (without_places y) x.reader.extent) (sym (append-nil x.tokens)) h
met_follows x bytes (switch page) open_ h =
    subst (λ y. Leads extents.Before (without_places y) x.reader.extent) (sym (append-nil x.tokens)) h
met_follows x bytes (token t used) open_ h =
    subst (λ y. Leads extents.Before y (extent_after x.reader.extent t))
    (sym (map-append (λ (p : Placed). p.token) x.tokens (record { at = x.reader.place; token = t } ∷ [])))
    (leads-append extents.Before x.reader.extent (extent_after x.reader.extent t) (without_places x.tokens) (t ∷ []) h
    (open_, refl))

open_by : (c : Bool) (o : Option Reason) → (if c then Some reasons.Trailing else o) ≡ None → c ≡ false
open_by true o h = absurd cc
open_by false o h = refl

within_follows : (x : Reading) (b : ℕ) (o : Option Reason) → limit x.reader ≡ o → Follows x
    → Follows (step_within o x b)
within_follows x b (Some reason) e h = h
within_follows x b None e h =
    let bytes : List ℕ = x.reader.held ++ b ∷ [] in
    met_follows x bytes (found x.reader bytes)
    (open_by (is_whole x.reader.extent) (if taken_by x.reader == most_bytes then Some reasons.Toolong else None) e) h

from_follows : (x : Reading) (b : ℕ) (o : Option Refusal) → Follows x → Follows (step_from o x b)
from_follows x b (Some f) h = h
from_follows x b None h = within_follows x b (limit x.reader) refl h

reads_follow : (bytes : List ℕ) (x : Reading) → Follows x → Follows (reads x bytes)
unfolding reads
reads_follow [] x h = h
reads_follow (b ∷ bytes) x h = reads_follow bytes (step_byte x b) (from_follows x b x.refused h)

reading_follows : (bytes : List ℕ) → Follows (reading bytes)
reading_follows bytes = reads_follow bytes (begun_by first_reader) refl

pub element_of_whole : (bytes : List ℕ) → is_whole (reading bytes).reader.extent ≡ true → IsElement (tokens_read bytes)
element_of_whole bytes h =
    leads_element (tokens_read bytes)
    (subst (Leads extents.Before (tokens_read bytes)) (whole_is (reading bytes).reader.extent h)
    (reading_follows bytes))

pub whole_of_element : (bytes : List ℕ) → IsElement (tokens_read bytes) → is_whole (reading bytes).reader.extent ≡ true
whole_of_element bytes h =
    ap is_whole
    (sym (leads_behind extents.Before (reading bytes).reader.extent (tokens_read bytes) (reading_follows bytes))
    ∙ leads_behind extents.Before extents.Whole (tokens_read bytes) (element_leads (tokens_read bytes) h))

none_by : (c : Bool) (f : Refusal) → (if c then None else Some f) ≡ None → c ≡ true
none_by true f h = refl
none_by false f h = absurd cc

-- the refusal of a document that ends where the reader stands
abbrev cut_by : Reader → Refusal
cut_by r = record { at = taken_by r; reason = reasons.Truncated }

whole_by : (bytes : List ℕ) (o : Option Refusal) → (reading bytes).refused ≡ o → refused_at_end o (reading bytes).reader ≡ None
    → ((reading bytes).refused ≡ None) × IsElement (tokens_read bytes)
whole_by bytes (Some f) e h = absurd cc
whole_by bytes None e h =
    (e, element_of_whole bytes (none_by (is_whole (reading bytes).reader.extent) (cut_by (reading bytes).reader) h))

ended_so : (bytes : List ℕ) (c : Bool) → (reading bytes).refused ≡ None → is_whole (reading bytes).reader.extent ≡ c
    → refusal_of bytes ≡ (if c then None else Some (cut_by (reading bytes).reader))
ended_so bytes c sound e =
    ap (λ o. refused_at_end o (reading bytes).reader) sound
    ∙ ap (λ (d : Bool). if d then None else Some (cut_by (reading bytes).reader)) e

pub document_is_element : DocumentIsElement
document_is_element bytes =
    (whole_by bytes (reading bytes).refused refl, λ h. ended_so bytes true h.0 (whole_of_element bytes h.1))

-- ---- documents that are cut

not_truncated : (bytes : List ℕ) (at : ℕ) (reason : Reason) → RefusedAt bytes at reason → reason ≡ reasons.Truncated → ⊥
not_truncated bytes at reason (in_prologue h) e = subst (IsWrongPrologue (take most_bytes bytes) at) e h
not_truncated bytes at reason (in_body {table} {page} {rest = rest} s open_ h) e = subst (IsWrong page table rest) e h
not_truncated bytes at reason (trailing s whole some room) e = cc
not_truncated bytes at reason (unfinished_prologue is long) e = cc
not_truncated bytes at reason (unfinished_body s open_ begun long) e = cc

taken_of : (bytes : List ℕ) → (reading bytes).refused ≡ None → taken_by (reading bytes).reader ≡ length bytes
taken_of bytes sound = omega (arith, takes_all bytes (begun_by first_reader) sound)

same_refusal : (f g : Refusal) → Some f ≡ Some g → f ≡ g
same_refusal f g e = cc

cut_there : (r : Reader) (at : ℕ) (c : Bool)
    → (if c then None else Some (cut_by r)) ≡ Some (record { at = at; reason = reasons.Truncated })
    → (c ≡ false) × (at ≡ taken_by r)
cut_there r at true h = absurd cc
cut_there r at false h =
    (refl, sym (ap (λ f. f.at) (same_refusal (cut_by r) (record { at = at; reason = reasons.Truncated }) h)))

true_false : true ≡ false → ⊥
true_false e = cc

cut_by_refusal : (bytes : List ℕ) (at : ℕ) (o : Option Refusal) → AreBytes bytes → (reading bytes).refused ≡ o
    → refused_at_end o (reading bytes).reader ≡ Some (record { at = at; reason = reasons.Truncated })
    → ((reading bytes).refused ≡ None) × (IsElement (tokens_read bytes) → ⊥) × (at ≡ length bytes)
cut_by_refusal bytes at (Some f) fit e h =
    absurd (not_truncated bytes at reasons.Truncated ((refused_is_told bytes at reasons.Truncated fit).0 (e ∙ h)) refl)
cut_by_refusal bytes at None fit e h =
    let there = cut_there (reading bytes).reader at (is_whole (reading bytes).reader.extent) h in
    (e, λ is. true_false (sym (whole_of_element bytes is) ∙ there.0), there.1 ∙ taken_of bytes e)

cut_of : (bytes : List ℕ) (at : ℕ) (c : Bool) → is_whole (reading bytes).reader.extent ≡ c
    → (reading bytes).refused ≡ None → (IsElement (tokens_read bytes) → ⊥) → at ≡ length bytes
    → refusal_of bytes ≡ Some (record { at = at; reason = reasons.Truncated })
cut_of bytes at true e sound none place = absurd (none (element_of_whole bytes e))
cut_of bytes at false e sound none place =
    ended_so bytes false sound e
    ∙ ap (λ n. Some (record { at = n; reason = reasons.Truncated })) (taken_of bytes sound ∙ sym place)

pub cut_is_truncated : CutIsTruncated
cut_is_truncated bytes at fit = (
  cut_by_refusal bytes at (reading bytes).refused fit refl,
  λ h. cut_of bytes at (is_whole (reading bytes).reader.extent) refl h.0 h.1 h.2,
)
