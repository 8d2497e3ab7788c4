-- The bytes that a writer has written spell the tokens that it was given.
use Rattle.std.specs.Prelude.{◌≡◌, ◌==◌, ◌<◌, ◌≤◌, ◌+◌, ◌%◌, ◌^◌, ℕ, Bool, true, false, if◌then◌else◌, nat_lt, List, []}
use Rattle.std.specs.Prelude.{◌∷◌, ◌++◌, length, map, None, refl}
use Rattle.std.proofs.Common.{sym, ap, subst, ◌∙◌, arith, append_assoc, inl}
use Rattle.std.proofs.lemmas.Bool.{eqb-true, ltb-true}
use Rattle.std.proofs.lemmas.List.{append-nil}
use Rattle.std.specs.List.{AllByRecursion}
use Rattle.wbxml_ints.specs.Multibyte.{IsMultibyte, shortest, digit_of}
use Rattle.wbxml_tables.specs.declared.Element.{Element}
use Rattle.wbxml_tables.specs.declared.Element.TheVariants as elements
use Rattle.wbxml_tables.specs.Tables.{page_of}
use Rattle.wbxml_tokens.specs.declared.token.Token.{Token}
use Rattle.wbxml_tokens.specs.declared.token.Token.TheVariants.{Tag, End, Text, Opaque}
use Rattle.wbxml_tokens.specs.declared.token.Placed.{Placed}
use Rattle.wbxml_tokens.specs.declared.extent.Extent.{Extent}
use Rattle.wbxml_tokens.specs.declared.extent.Extent.TheVariants as extents
use Rattle.wbxml_tokens.specs.Reading.{most_bytes, extent_after, is_whole, refusal_of}
use Rattle.wbxml_tokens.specs.Spelling.{WrittenSoFar, written_after, given, prologue, tag_byte, token_bytes, page_after}
use Rattle.wbxml_tokens.specs.Spelling.{spelled, page_behind}
use Rattle.wbxml_tokens.specs.Spelled.{IsPrologue, SpellsTokens, none, switch as a_switch, token as a_token}
use Rattle.wbxml_tokens.specs.Whole.{IsElement, extent_behind, tokens_read}
use Rattle.wbxml_tokens.specs.Written.{at_prologue, CanBeSpelled, AreInElement, IsWrittenOf, WrittenIsSpelled}
use Rattle.wbxml_tokens.specs.Written.{WrittenIsRead}
use Rattle.wbxml_tokens.proofs.Documents.{spelled_is_read}
use Rattle.wbxml_tokens.proofs.Elements.{document_is_element, element_is_whole}

-- ---- lengths

one_byte : (n : ℕ) → n < 0x80 → IsMultibyte n (n % 128 ∷ [])
one_byte n low = ((omega arith, omega (arith, low)), omega (arith, low))

two_bytes : (n : ℕ) → n < 0x4000 → IsMultibyte n (digit_of n 0x80 ∷ n % 128 ∷ [])
two_bytes n low = ((omega arith, omega arith, (omega arith, omega (arith, low))), omega (arith, low))

three_bytes : (n : ℕ) → n < 0x200000 → IsMultibyte n (digit_of n 0x4000 ∷ digit_of n 0x80 ∷ n % 128 ∷ [])
three_bytes n low =
    ((omega arith, omega arith, (omega arith, omega arith, (omega arith, omega (arith, low)))), omega (arith, low))

four_bytes : (n : ℕ) → n < 0x10000000
    → IsMultibyte n (digit_of n 0x200000 ∷ digit_of n 0x4000 ∷ digit_of n 0x80 ∷ n % 128 ∷ [])
four_bytes n low = (
  (omega arith, omega arith, (omega arith, omega arith, (omega arith, omega arith, (omega arith, omega (arith, low))))),
  omega (arith, low),
)

five_bytes : (n : ℕ) → n < 2 ^ 32
    → IsMultibyte n (digit_of n 0x10000000 ∷ digit_of n 0x200000 ∷ digit_of n 0x4000 ∷ digit_of n 0x80 ∷ n % 128 ∷ [])
five_bytes n low = (
  (
    omega arith,
    omega arith,
    (
      omega arith,
      omega arith,
      (omega arith, omega arith, (omega arith, omega arith, (omega arith, omega (arith, low)))),
    ),
  ),
  low,
)

pub shortest_spells : (n : ℕ) → n < 2 ^ 32 → IsMultibyte n (shortest n)
shortest_spells n low =
    by (nat_lt n 0x80) (nat_lt n 0x4000) (nat_lt n 0x200000) (nat_lt n 0x10000000) refl refl refl refl
  where
    by : (a b c d : Bool) → nat_lt n 0x80 ≡ a → nat_lt n 0x4000 ≡ b → nat_lt n 0x200000 ≡ c → nat_lt n 0x10000000 ≡ d
        → IsMultibyte n (if a then n % 128 ∷ []
        else if b then digit_of n 0x80 ∷ n % 128 ∷ []
        else if c then digit_of n 0x4000 ∷ digit_of n 0x80 ∷ n % 128 ∷ []
        else if d then digit_of n 0x200000 ∷ digit_of n 0x4000 ∷ digit_of n 0x80 ∷ n % 128 ∷ []
        else digit_of n 0x10000000 ∷ digit_of n 0x200000 ∷ digit_of n 0x4000 ∷ digit_of n 0x80 ∷ n % 128 ∷ [])
    by true b c d p q r s = one_byte n (ltb-true n 0x80 p)
    by false true c d p q r s = two_bytes n (ltb-true n 0x4000 q)
    by false false true d p q r s = three_bytes n (ltb-true n 0x200000 r)
    by false false false true p q r s = four_bytes n (ltb-true n 0x10000000 s)
    by false false false false p q r s = five_bytes n low

-- ---- tokens with their places

-- where a token begins, behind the switch to its page
abbrev token_place : ℕ → ℕ → Token → ℕ
token_place page at (Tag e content) = if page_of e == page then at else at + 2
token_place page at End = at
token_place page at (Text bytes) = at
token_place page at (Opaque bytes) = at

-- tokens from a page and a place on
abbrev pub placed : ℕ → ℕ → List Token → List Placed
placed page at [] = []
placed page at (t ∷ ts) =
    record { at = token_place page at t; token = t } ∷ placed (page_after page t) (at + length (token_bytes page t)) ts

pub placed_tokens : (page at : ℕ) (ts : List Token) → map (λ (p : Placed). p.token) (placed page at ts) ≡ ts
placed_tokens page at [] = refl
placed_tokens page at (t ∷ ts) =
    ap (λ l. t ∷ l) (placed_tokens (page_after page t) (at + length (token_bytes page t)) ts)

page_low : (e : Element) → page_of e < 2
page_low elements.EAdd = omega arith
page_low _ = omega arith

-- the bytes of a tag behind a tag of this page or another
abbrev tag_bytes : Bool → Element → Bool → List ℕ
tag_bytes same e content = if same then tag_byte e content ∷ [] else 0x00 ∷ page_of e ∷ tag_byte e content ∷ []

tag_step : {last : ℕ} {extent end : Extent} {ps : List Placed} {bytes : List ℕ} (page at : ℕ) (e : Element)
    (content : Bool) (b : Bool)
    → (page_of e == page) ≡ b → is_whole extent ≡ false
    → SpellsTokens [] (page_of e) (at + length (tag_bytes b e content)) (extent_after extent (Tag e content)) ps bytes
    last end
    → SpellsTokens [] page at extent (record { at = if b then at else at + 2; token = Tag e content } ∷ ps)
    (tag_bytes b e content ++ bytes) last end
tag_step {last} {extent} {end} {ps} {bytes} page at e content true same open_ rest =
    let on : page_of e ≡ page = eqb-true (page_of e) page same in
    a_token (Tag e content) (tag_byte e content ∷ []) bytes (tag_byte e content ∷ bytes) open_ (on, refl)
    (subst (λ p. SpellsTokens [] p (at + 1) (extent_after extent (Tag e content)) ps bytes last end) on rest) refl
tag_step {last} {extent} {end} {ps} {bytes} page at e content false same open_ rest =
    let place : at + 3 ≡ at + 2 + 1 = omega arith in
    a_switch open_ (page_low e)
    (a_token (Tag e content) (tag_byte e content ∷ []) bytes (tag_byte e content ∷ bytes) open_ (refl, refl)
    (subst (λ p. SpellsTokens [] (page_of e) p (extent_after extent (Tag e content)) ps bytes last end) place rest)
    refl)

-- the tokens from a page, a place and an extent on are spelled up to an extent
abbrev pub SpelledTo : ℕ → ℕ → Extent → List Token → Extent → Type 0
SpelledTo page at extent ts end =
    SpellsTokens [] page at extent (placed page at ts) (spelled page ts) (page_behind page ts) end

pub token_step : (page at : ℕ) (extent end : Extent) (t : Token) (ts : List Token) → CanBeSpelled t
    → is_whole extent ≡ false
    → SpelledTo (page_after page t) (at + length (token_bytes page t)) (extent_after extent t) ts end
    → SpelledTo page at extent (t ∷ ts) end
token_step page at extent end (Tag e content) ts h open_ rest =
    tag_step page at e content (page_of e == page) refl open_ rest
token_step page at extent end End ts h open_ rest =
    a_token End (0x01 ∷ []) (spelled page ts) (0x01 ∷ spelled page ts) open_ refl rest refl
token_step page at extent end (Text bytes) ts h open_ rest =
    a_token (Text bytes) (0x03 ∷ bytes ++ 0x00 ∷ []) (spelled page ts) ((0x03 ∷ bytes ++ 0x00 ∷ []) ++ spelled page ts)
    open_ (inl (refl, h)) rest refl
token_step page at extent end (Opaque bytes) ts h open_ rest =
    a_token (Opaque bytes) (0xc3 ∷ shortest (length bytes) ++ bytes) (spelled page ts)
    ((0xc3 ∷ shortest (length bytes) ++ bytes) ++ spelled page ts) open_
    (shortest (length bytes), refl, shortest_spells (length bytes) h) rest refl

tokens_spelled : (page at : ℕ) (extent : Extent) (ts : List Token) → AllByRecursion CanBeSpelled ts
    → AreInElement extent ts
    → SpelledTo page at extent ts (extent_behind extent ts)
tokens_spelled page at extent [] all inside = none
tokens_spelled page at extent (t ∷ ts) all inside =
    token_step page at extent (extent_behind extent (t ∷ ts)) t ts all.0 inside.0
    (tokens_spelled (page_after page t) (at + length (token_bytes page t)) (extent_after extent t) ts all.1 inside.1)

-- ---- documents

pub is_prologue : IsPrologue [] prologue
is_prologue = record {
  version = 3;
  identifier = 0xa4 ∷ 0x01 ∷ [];
  charset = 0x6a ∷ [];
  count = 0x00 ∷ [];
  is_version = (omega arith, omega arith);
  is_identifier = inl ((omega arith, omega arith, (omega arith, refl)), omega arith);
  is_charset = ((omega arith, refl), omega arith);
  is_count = ((omega arith, refl), omega arith);
  whole = refl;
}

pub given_bytes : (w : WrittenSoFar) (ts : List Token)
    → given written_after w ts ≡ record { bytes = w.bytes ++ spelled w.page ts; page = page_behind w.page ts }
given_bytes w [] = ap (λ b. record w { bytes = b }) (sym (append-nil w.bytes))
given_bytes w (t ∷ ts) =
    given_bytes (written_after w t) ts
    ∙ ap (λ b. record { bytes = b; page = page_behind (page_after w.page t) ts })
    (append_assoc w.bytes (token_bytes w.page t) (spelled (page_after w.page t) ts))

pub written_is_spelled : WrittenIsSpelled
written_is_spelled ts all inside =
    subst (IsWrittenOf ts) (sym (given_bytes at_prologue ts)) (record {
      body = spelled 0 ts;
      placed = placed 0 5 ts;
      whole = refl;
      is_prologue = is_prologue;
      tokens = placed_tokens 0 5 ts;
      spells = tokens_spelled 0 5 extents.Before ts all inside;
    })

cons_is_something : (t : Token) (ts : List Token) → t ∷ ts ≡ [] → ⊥
cons_is_something t ts e = cc

isnt_whole : (extent : Extent) (t : Token) (ts : List Token) → (extent ≡ extents.Whole → t ∷ ts ≡ [])
    → is_whole extent ≡ false
isnt_whole extents.Whole t ts ends = absurd (cons_is_something t ts (ends refl))
isnt_whole extents.Before t ts ends = refl
isnt_whole (extents.Inside depth) t ts ends = refl
isnt_whole extents.Never t ts ends = refl

in_element : (extent : Extent) (ts : List Token)
    → ((first later : List Token) → ts ≡ first ++ later → extent_behind extent first ≡ extents.Whole → later ≡ [])
    → AreInElement extent ts
in_element extent [] ends = tt
in_element extent (t ∷ ts) ends = (
  isnt_whole extent t ts (ends [] (t ∷ ts) refl),
  in_element (extent_after extent t) ts (λ first later e whole. ends (t ∷ first) later (ap (λ l. t ∷ l) e) whole),
)

pub written_is_read : WrittenIsRead
written_is_read ts all element room =
    let w : WrittenSoFar = given written_after at_prologue ts in
    let s : IsWrittenOf ts w =
    written_is_spelled ts all (in_element extents.Before ts ((element_is_whole ts).0 element).1) in
    let read =
    spelled_is_read [] prologue s.body s.placed w.page (extent_behind extents.Before ts) s.is_prologue s.spells
    (subst (λ b. length b ≤ most_bytes) s.whole room) in
    let same = ap (map (λ (p : Placed). p.token)) read.0 ∙ s.tokens in
    subst (λ b. (refusal_of b ≡ None) × (tokens_read b ≡ ts)) (sym s.whole)
    ((document_is_element (prologue ++ s.body)).1 (read.1, subst IsElement (sym same) element), same)
