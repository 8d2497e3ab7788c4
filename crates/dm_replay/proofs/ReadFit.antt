-- What bytes are read as is fit, and its numbers are in the ranges of their types.
use Rattle.std.proofs.Common.{◌≡◌, ◌≤◌, ◌<◌, ◌+◌, ◌*◌, ◌==◌, ℕ, suc, Bool, true, false, cond, List, [], ◌∷◌, ◌++◌}
use Rattle.std.proofs.Common.{length}
use Rattle.std.proofs.Common.{Option, None, Some, Ok, refl, sym, ap, subst, drop, arith, inl, inr}
use Rattle.std.proofs.lemmas.List.{length-append, length-drop}
use Rattle.std.proofs.Math.Nat.{mul-le-mul_left}
use Rattle.wbxml_ints.specs.Multibyte.{IsMultibyte, AreBytes}
use Rattle.wbxml_tokens.specs.declared.extent.Extent.{Extent}
use Rattle.wbxml_tokens.specs.declared.token.Placed.{Placed}
use Rattle.wbxml_tokens.specs.declared.token.Token.{Token}
use Rattle.wbxml_tokens.specs.declared.token.Token.TheVariants.{Tag, End, Text, Opaque}
use Rattle.wbxml_tokens.specs.Fronts.{until_zero, table_string}
use Rattle.wbxml_tokens.specs.Spelled.{IsPrologue, SpellsToken, SpellsTokens, none, switch, token}
use Rattle.syncml_shape.specs.Forest.{spelling}
use Rattle.syncml_types.specs.Message.{Parts}
use Rattle.syncml_types.specs.Fitness.{IsFit}
use Rattle.syncml_grammar.specs.Building.{bytes_of_text, text_length}
use Rattle.syncml_grammar.specs.Reads.{parts_held}
use Rattle.syncml_grammar.specs.Taken.{tokens}
use Rattle.syncml_grammar.proofs.FitReads.{read_is_fit}
use Rattle.syncml_codec.specs.Ranges.{AreNumbers}
use Rattle.syncml_codec.specs.Messages.{Spells}
use Rattle.syncml_codec.specs.Decoding.{read_of}
use Rattle.syncml_codec.proofs.Decoded.{spelled_is_read}
use Rattle.syncml_codec.proofs.InRange.{spelled_is_in_range}

-- ---- the text of one token

shorter_to_zero : (bytes : List ℕ) → length (until_zero bytes) ≤ length bytes
shorter_to_zero [] = omega arith
shorter_to_zero (b ∷ bs) = by_zero (b == 0) (shorter_to_zero bs)
  where
    by_zero : (c : Bool) → length (until_zero bs) ≤ length bs
        → length (cond c [] (b ∷ until_zero bs)) ≤ suc (length bs)
    by_zero true h = omega arith
    by_zero false h = omega (arith, h)

table_short : (table : List ℕ) (index : ℕ) → length (table_string table index) ≤ length table
table_short table index =
    let text = shorter_to_zero (drop index table) in
    let rest = length-drop index table in
    omega (arith, text, rest)

-- bytes that are a number are some
abbrev Two : List ℕ → Type 0
Two number = (k : ℕ) × (length number ≡ suc k)

number_there : (n : ℕ) (number : List ℕ) → IsMultibyte n number → Two number
number_there n [] h = absurd h.0
number_there n (b ∷ bs) h = (length bs, refl)

-- a text in its own bytes, and one of the table, which wants two at least
by_bytes : (text size table : ℕ) → text ≤ size → 2 * text ≤ (2 + table) * size
by_bytes text size table h = omega (arith, h)

by_table : (text size k table : ℕ) → size ≡ suc (suc k) → text ≤ table → 2 * text ≤ (2 + table) * size
by_table text size k table is h =
    let whole : 2 * text ≤ (2 + table) * suc (suc k) = omega (arith, h) in
    subst (λ n. 2 * text ≤ (2 + table) * n) (sym is) whole

token_text : (page : ℕ) (table : List ℕ) (t : Token) (first : List ℕ) → SpellsToken page table t first
    → 2 * bytes_of_text t ≤ (2 + length table) * length first
token_text page table (Tag e content) first h = omega arith
token_text page table End first h = omega arith
token_text page table (Opaque content) first h =
    let long = ap length h.1 in
    let parts = length-append h.0 content in
    by_bytes (length content) (length first) (length table) (omega (arith, long, parts))
token_text page table (Text text) first h = elim h [
  | inl inline ↦
      let long = ap length inline.0 in
      let parts = length-append text (0 ∷ []) in
      by_bytes (length text) (length first) (length table) (omega (arith, long, parts))
  | inr listed ↦
      let there = number_there listed.0 listed.1 listed.3 in
      let long = ap length listed.2 in
      let text_is = ap length listed.5 in
      let short = table_short table listed.0 in
      by_table (length text) (length first) there.0 (length table) (omega (arith, long, there.1))
      (omega (arith, text_is, short))
]

-- ---- the text of all tokens

both_texts : (a b x y n table : ℕ) → n ≡ a + b → 2 * x ≤ (2 + table) * a → 2 * y ≤ (2 + table) * b
    → 2 * (x + y) ≤ (2 + table) * n
both_texts a b x y n table is one others =
    let whole : 2 * (x + y) ≤ (2 + table) * (a + b) = omega (arith, one, others) in
    subst (λ m. 2 * (x + y) ≤ (2 + table) * m) (sym is) whole

longer_texts : (y n m table : ℕ) → n ≤ m → 2 * y ≤ (2 + table) * n → 2 * y ≤ (2 + table) * m
longer_texts y n m table more h =
    let most = mul-le-mul_left (2 + table) more in omega (arith, h, most)

tokens_text : {table : List ℕ} {page at last : ℕ} {extent end : Extent} {placed : List Placed} {bytes : List ℕ}
    → SpellsTokens table page at extent placed bytes last end
    → 2 * text_length (tokens placed) ≤ (2 + length table) * length bytes
tokens_text {table} none = omega arith
tokens_text {table} {placed = placed} (switch {bytes = bytes} open_ low rest) =
    longer_texts (text_length (tokens placed)) (length bytes) (suc (suc (length bytes))) (length table)
    (omega arith) (tokens_text rest)
tokens_text {table} {page = page} (token {tokens = placed} t first rest bytes open_ spells later is) =
    let size = ap length is in
    let parts = length-append first rest in
    both_texts (length first) (length rest) (bytes_of_text t) (text_length (tokens placed)) (length bytes) (length table)
    (omega (arith, size, parts)) (token_text page table t first spells) (tokens_text later)

table_in_prologue : (table prologue : List ℕ) → IsPrologue table prologue → 2 + length table ≤ length prologue
table_in_prologue table prologue h =
    let there = number_there (length table) h.count h.is_count in
    let whole = ap length h.whole in
    let outer = length-append h.identifier (h.charset ++ (h.count ++ table)) in
    let middle = length-append h.charset (h.count ++ table) in
    let inner = length-append h.count table in
    omega (arith, there.1, whole, outer, middle, inner)

few_texts : (text table body : ℕ) → 2 * text ≤ (2 + table) * body → 2 + table ≤ 65536 → body ≤ 65536
    → text ≤ 2147483648
few_texts text table body h few short =
    let most = mul-le-mul_left (2 + table) short in
    omega (arith, h, most, few)

-- ---- a message

same_parts : {a b : Parts} (o : Option Parts) → o ≡ Some a → o ≡ Some b → a ≡ b
same_parts None h k = cc
same_parts (Some x) h k = cc

pub spelled_is_fit : (bytes : List ℕ) (m : Parts) → Spells bytes m → IsFit m.header m.body
spelled_is_fit bytes m s =
    let tree = s.message.0 in
    let shape = s.message.1 in
    let reads = s.message.2 in
    let size = ap length s.whole in
    let parts = length-append s.prologue s.body in
    let begins = table_in_prologue s.table s.prologue s.is_prologue in
    let within = s.within in
    let short : text_length (tokens s.placed) ≤ 2147483648 =
    few_texts (text_length (tokens s.placed)) (length s.table) (length s.body) (tokens_text s.spells)
    (omega (arith, size, parts, begins, within)) (omega (arith, size, parts, within)) in
    let fit =
    read_is_fit tree reads.0 reads.1 shape.fitting reads.2
    (subst (λ ts. text_length ts ≤ 2147483648) shape.spelled short) in
    subst (λ (p : Parts). IsFit p.header p.body) (same_parts (parts_held reads.0) fit.1 reads.3) fit.2

pub read_is_held : (bytes : List ℕ) (m : Parts) → AreBytes bytes → read_of bytes ≡ Ok m
    → IsFit m.header m.body × AreNumbers m
read_is_held bytes m are is =
    let spells = (spelled_is_read bytes m are).0 is in
    (spelled_is_fit bytes m spells, spelled_is_in_range bytes m spells)
