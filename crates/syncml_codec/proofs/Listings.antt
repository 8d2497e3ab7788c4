-- What a lister was given is listed.
use Rattle.std.proofs.Common.{ℕ, zero, suc, ◌≡◌, ◌-◌, true, false, List, [], ◌∷◌, ◌++◌, refl, sym, ap, ◌∙◌, length}
use Rattle.std.proofs.Common.{take, append-nil, append_assoc, arith}
use Rattle.std.proofs.Math.Seq.{take-append_seam}
use Rattle.wbxml_tables.specs.Tables.{name_in_text}
use Rattle.wbxml_tokens.specs.declared.token.Token.{Token}
use Rattle.wbxml_tokens.specs.declared.token.Token.TheVariants.{Tag, End, Text, Opaque}
use Rattle.wbxml_tokens.specs.Spelling.{given}
use Rattle.syncml_types.specs.Message.{Parts}
use Rattle.syncml_types.specs.Canonical.{message_tokens}
use Rattle.syncml_codec.specs.Listing.{value_text, spaces, depth_above, feed_where, token_lines, listing_of, Listed}
use Rattle.syncml_codec.specs.Listing.{nothing_listed, listed_after}

spaces_more : (n : ℕ) → spaces n ++ 32 ∷ 32 ∷ [] ≡ spaces (suc n)
spaces_more zero = refl
spaces_more (suc n) = ap (λ l. 32 ∷ 32 ∷ l) (spaces_more n)

two_less : (n : ℕ) → suc (suc n) - 2 ≡ n
two_less n = omega arith

spaces_less : (n : ℕ) → take (length (spaces n) - 2) (spaces n) ≡ spaces (depth_above n)
spaces_less zero = refl
spaces_less (suc n) =
    ap (λ k. take k (32 ∷ 32 ∷ spaces n)) (two_less (length (spaces n)))
    ∙ ap (take (length (spaces n))) (sym (spaces_more n))
    ∙ take-append_seam (spaces n) (32 ∷ 32 ∷ [])

-- pieces behind a text, joined
joined : (a b c d e f : List ℕ) → a ++ b ++ c ++ d ++ e ++ f ≡ a ++ (b ++ c ++ d ++ e ++ f)
joined [] b c d e f = refl
joined (x ∷ a) b c d e f = ap (λ l. x ∷ l) (joined a b c d e f)

given_listed : (l : Listed) (depth : ℕ) (ts : List Token) → l.indent ≡ spaces depth
    → (given listed_after l ts).text ≡ l.text ++ token_lines depth l.is_open ts
given_listed l depth [] h = sym (append-nil l.text)
given_listed l depth (Tag e true ∷ ts) h =
    given_listed (listed_after l (Tag e true)) (suc depth) ts (ap (λ s. s ++ 32 ∷ 32 ∷ []) h ∙ spaces_more depth)
    ∙ joined l.text (feed_where l.is_open) l.indent (name_in_text e) [] (token_lines (suc depth) true ts)
    ∙ ap (λ s. l.text ++ (feed_where l.is_open ++ s ++ name_in_text e ++ [] ++ token_lines (suc depth) true ts)) h
given_listed l depth (Tag e false ∷ ts) h =
    given_listed (listed_after l (Tag e false)) depth ts h
    ∙ joined l.text (feed_where l.is_open) l.indent (name_in_text e) (10 ∷ []) (token_lines depth false ts)
    ∙ ap (λ s. l.text ++ (feed_where l.is_open ++ s ++ name_in_text e ++ 10 ∷ [] ++ token_lines depth false ts)) h
given_listed l depth (End ∷ ts) h =
    given_listed (listed_after l End) (depth_above depth) ts (ap (λ s. take (length s - 2) s) h ∙ spaces_less depth)
    ∙ append_assoc l.text (feed_where l.is_open) (token_lines (depth_above depth) false ts)
given_listed l depth (Text text ∷ ts) h =
    given_listed (listed_after l (Text text)) depth ts h
    ∙ append_assoc l.text (32 ∷ value_text text) (token_lines depth l.is_open ts)
given_listed l depth (Opaque bytes ∷ ts) h =
    given_listed (listed_after l (Opaque bytes)) depth ts h
    ∙ append_assoc l.text (32 ∷ value_text bytes) (token_lines depth l.is_open ts)

pub listed_text : (m : Parts) → (given listed_after nothing_listed (message_tokens m)).text ≡ listing_of m
listed_text m = given_listed nothing_listed 0 (message_tokens m) refl
