-- How long the tokens of bounded texts are at most, from any page on.
use Rattle.std.proofs.Common.{◌<◌, ◌≤◌, ◌+◌, ◌^◌, ℕ, false, List, [], ◌∷◌, ◌++◌, length, arith}
use Rattle.std.specs.Fmt.{decimal}
use Rattle.std.proofs.lemmas.Fmt.{length-decimal-le}
use Rattle.wbxml_tables.specs.declared.Element.{Element}
use Rattle.wbxml_tokens.specs.declared.token.Token.{Token}
use Rattle.wbxml_tokens.specs.declared.token.Token.TheVariants.{Tag}
use Rattle.wbxml_tokens.specs.Spelling.{spelled, page_behind}
use Rattle.syncml_types.specs.Canonical.{parent_tokens, element_tokens, text_tokens, number_tokens}
use Rattle.dm_pack.proofs.Within.{tag_most, apart, one_more, text_most, parent_most}

pub record Most (m : ℕ) (ts : List Token) : Type 0 where
  pub at : (p : ℕ) → length (spelled p ts) ≤ m

pub none : Most 0 []
none = record { at = λ p. omega arith }

pub most_append : {m n : ℕ} {ts us : List Token} → Most m ts → Most n us → Most (m + n) (ts ++ us)
most_append {m} {n} {ts} {us} a b =
    record {
      at = λ p.
          let whole = apart p ts us in
          let first = a.at p in
          let second = b.at (page_behind p ts) in
          omega (arith, whole, first, second);
    }

pub most_parent : {m : ℕ} {ts : List Token} (e : Element) → Most m ts → Most (m + 4) (parent_tokens e ts)
most_parent {m} {ts} e a = record { at = λ p. parent_most p e ts m a.at }

pub most_element : {m : ℕ} (ts : List Token) (e : Element) → Most m ts → Most (m + 4) (element_tokens e ts)
most_element [] e a =
    record {
      at = λ p.
          let tag = tag_most p e false in
          let whole = one_more p (Tag e false) [] in
          omega (arith, tag, whole);
    }
most_element (t ∷ ts) e a = most_parent e a

pub most_text : (n : ℕ) (e : Element) (t : List ℕ) → length t ≤ n → Most (n + 6) (text_tokens e t)
most_text n e t few = record { at = λ p. let most = text_most p e t in omega (arith, most, few) }

pub most_number : (e : Element) (n : ℕ) → n < 2 ^ 32 → Most 16 (number_tokens e n)
unfolding number_tokens
most_number e n low =
    record {
      at = λ p.
          let few = length-decimal-le 10 n (omega arith) (omega (arith, low)) (omega (arith, low)) in
          let most = text_most p e (decimal n) in
          omega (arith, few, most);
    }
