-- Tokens that are at most so many bytes longer than others, from whichever page.
use Rattle.std.proofs.Common.{◌≡◌, ◌<◌, ◌≤◌, ◌+◌, ◌*◌, ◌/◌, ◌==◌, ◌^◌, ℕ, zero, suc, Bool, true, false, if◌then◌else◌}
use Rattle.std.proofs.Common.{List, [], ◌∷◌, ◌++◌, length, length-append, refl, ap, ◌∙◌, arith}
use Rattle.std.proofs.lemmas.Bool.{eqb-true, eq-eqb}
use Rattle.std.proofs.lemmas.Fmt.{length-decimal-le, decimal_step, decimal_nonempty}
use Rattle.std.specs.Fmt.{decimal}
use Rattle.wbxml_tables.specs.declared.Element.{Element}
use Rattle.wbxml_tables.specs.Tables.{page_of}
use Rattle.wbxml_tokens.specs.declared.token.Token.{Token}
use Rattle.wbxml_tokens.specs.declared.token.Token.TheVariants.{Tag, End, Text, Opaque}
use Rattle.wbxml_tokens.specs.Spelling.{tag_byte, token_bytes, spelled, page_behind}
use Rattle.syncml_types.specs.Canonical.{parent_tokens, element_tokens, text_tokens, number_tokens}
use Rattle.syncml_parts.proofs.Parted.{page_append}
use Rattle.dm_pack.proofs.Within.{tag_most, tag_least, apart, one_more}

-- what it costs at most to come from one page to another
unfoldable pub gap : ℕ → ℕ → ℕ
gap p q = if p == q then 0 else 2

pub record Near (k : ℕ) (ts us : List Token) : Type 0 where
  pub at : (p q : ℕ)
      → length (spelled p ts) + gap (page_behind p ts) (page_behind q us) ≤ length (spelled q us) + gap p q + k

gap_by : (t : Bool) → (if t then 0 else 2) ≤ 2
gap_by true = omega arith
gap_by false = omega arith

pub gap_most : (p q : ℕ) → gap p q ≤ 2
unfolding gap
gap_most p q = gap_by (p == q)

pub gap_none : (p : ℕ) → gap p p ≡ 0
unfolding gap
gap_none p = ap (λ t. if t then 0 else 2) (eq-eqb p p refl)

same_gap : {a b c d : ℕ} → a ≡ b → c ≡ d → gap a c ≡ gap b d
same_gap x y = rw (x, y) refl

pub near_more : {j k : ℕ} {ts us : List Token} → Near j ts us → j ≤ k → Near k ts us
near_more n low = record { at = λ p q. let is = n.at p q in omega (arith, is, low) }

pub near_nothing : Near 0 [] []
near_nothing = record { at = λ p q. omega arith }

pub near_append : {j k : ℕ} {xs ys cs ds : List Token} → Near j xs ys → Near k cs ds
    → Near (j + k) (xs ++ cs) (ys ++ ds)
near_append {j} {k} {xs} {ys} {cs} {ds} m n =
    record {
      at = λ p q.
          let a = apart p xs cs in
          let b = apart q ys ds in
          let same = same_gap (page_append p xs cs) (page_append q ys ds) in
          let first = m.at p q in
          let second = n.at (page_behind p xs) (page_behind q ys) in
          omega (arith, a, b, same, first, second);
    }

-- ---- single tokens

same_tag_by : (same : Bool) (p t u : ℕ)
    → length ((if same then t ∷ [] else 0 ∷ p ∷ t ∷ []) ++ [])
    ≡ length ((if same then u ∷ [] else 0 ∷ p ∷ u ∷ []) ++ [])
same_tag_by true p t u = refl
same_tag_by false p t u = refl

same_tag : (e : Element) (c d : Bool) (q : ℕ) → length (spelled q (Tag e c ∷ [])) ≡ length (spelled q (Tag e d ∷ []))
same_tag e c d q = same_tag_by _ _ _ _

tag_by : (e : Element) (c d : Bool) (p q : ℕ) (t : Bool) → (p == q) ≡ t
    → length (spelled p (Tag e c ∷ [])) ≤ length (spelled q (Tag e d ∷ [])) + (if t then 0 else 2)
tag_by e c d p q true is =
    let same = eqb-true p q is in
    let long = ap (λ r. length (spelled r (Tag e c ∷ []))) same in
    let either = same_tag e c d q in
    omega (arith, long, either)
tag_by e c d p q false is =
    let most = tag_most p e c in
    let least = tag_least q e d in
    let a = one_more p (Tag e c) [] in
    let b = one_more q (Tag e d) [] in
    omega (arith, most, least, a, b)

near_tag : (e : Element) (c d : Bool) → Near 0 (Tag e c ∷ []) (Tag e d ∷ [])
unfolding gap
near_tag e c d =
    record {
      at = λ p q.
          let long = tag_by e c d p q (p == q) refl in
          let none = gap_none (page_of e) in
          omega (arith, long, none);
    }

pub near_text_token : (v w : List ℕ) → length v ≤ length w → Near 0 (Text v ∷ []) (Text w ∷ [])
near_text_token v w low =
    record {
      at = λ p q.
          let a = length-append v (0 ∷ []) in
          let b = length-append w (0 ∷ []) in
          let c = length-append (token_bytes p (Text v)) [] in
          let d = length-append (token_bytes q (Text w)) [] in
          omega (arith, a, b, c, d, low);
    }

near_end : Near 0 (End ∷ []) (End ∷ [])
near_end = record { at = λ p q. omega arith }

near_token : (t : Token) → Near 0 (t ∷ []) (t ∷ [])
near_token (Tag e c) = near_tag e c c
near_token End = near_end
near_token (Text v) = near_text_token v v (omega arith)
near_token (Opaque v) = record { at = λ p q. omega arith }

pub near_cons : {j k : ℕ} {t u : Token} {ts us : List Token} → Near j (t ∷ []) (u ∷ []) → Near k ts us
    → Near (j + k) (t ∷ ts) (u ∷ us)
near_cons m n = near_append m n

pub near_same : (ts : List Token) → Near 0 ts ts
near_same [] = near_nothing
near_same (t ∷ ts) = near_more (near_cons (near_token t) (near_same ts)) (omega arith)

-- what comes in between, or in another's place, costs its bytes, and at most the way back to the page
pub near_inserted : {us : List Token} (k : ℕ) (ts : List Token) → ((p : ℕ) → length (spelled p ts) + 2 ≤ k)
    → Near k ts us
near_inserted {us} k ts most =
    record {
      at = λ p q.
          let long = most p in
          let way = gap_most (page_behind p ts) (page_behind q us) in
          omega (arith, long, way);
    }

pub near_both : {k : ℕ} {xs ys cs ds : List Token} → Near 0 xs ys → Near k cs ds → Near k (xs ++ cs) (ys ++ ds)
near_both m n = near_more (near_append m n) (omega arith)

pub near_then : {k : ℕ} {xs ys : List Token} → Near k xs ys → (cs : List Token) → Near k (xs ++ cs) (ys ++ cs)
near_then n cs = near_more (near_append n (near_same cs)) (omega arith)

pub near_behind : {k : ℕ} {cs ds : List Token} (xs : List Token) → Near k cs ds → Near k (xs ++ cs) (xs ++ ds)
near_behind xs n = near_more (near_append (near_same xs) n) (omega arith)

-- ---- what is left out

far_tag : (p t : ℕ) (end : List ℕ) (same : Bool) → same ≡ false
    → 3 ≤ length ((if same then t ∷ [] else 0 ∷ p ∷ t ∷ []) ++ end)
far_tag p t end true h = absurd (cc)
far_tag p t end false h = omega arith

skip_by : (e : Element) (c : Bool) (p q : ℕ) (t : Bool) → (page_of e == q) ≡ t
    → gap p (page_of e) ≤ length (spelled q (Tag e c ∷ [])) + gap p q
skip_by e c p q true is =
    let alike = ap (gap p) (eqb-true (page_of e) q is) in
    omega (arith, alike)
skip_by e c p q false is =
    let way = gap_most p (page_of e) in
    let long = far_tag (page_of e) (tag_byte e c) [] (page_of e == q) is in
    omega (arith, way, long)

near_skipped : (t : Token) → Near 0 [] (t ∷ [])
near_skipped (Tag e c) = record { at = λ p q. let less = skip_by e c p q (page_of e == q) refl in omega (arith, less) }
near_skipped End = record { at = λ p q. omega arith }
near_skipped (Text v) = record { at = λ p q. omega arith }
near_skipped (Opaque v) = record { at = λ p q. omega arith }

pub near_missing : (us : List Token) → Near 0 [] us
near_missing [] = near_nothing
near_missing (u ∷ us) = near_both (near_skipped u) (near_missing us)

-- ---- elements

pub near_parent : {k : ℕ} {ts us : List Token} (e : Element) → Near k ts us
    → Near k (parent_tokens e ts) (parent_tokens e us)
near_parent e n = near_more (near_cons (near_tag e true true) (near_append n near_end)) (omega arith)

near_end_more : Near 0 [] (End ∷ [])
near_end_more = record { at = λ p q. omega arith }

near_end_less : Near 1 (End ∷ []) []
near_end_less = record { at = λ p q. omega arith }

pub near_element : {k : ℕ} (ts us : List Token) (e : Element) → Near k ts us
    → Near (k + 1) (element_tokens e ts) (element_tokens e us)
near_element [] [] e n = near_more (near_tag e false false) (omega arith)
near_element [] (u ∷ us) e n =
    near_more (near_cons (near_tag e false true) (near_append n (near_end_more))) (omega arith)
near_element (t ∷ ts) [] e n =
    near_more (near_cons (near_tag e true false) (near_append n (near_end_less))) (omega arith)
near_element (t ∷ ts) (u ∷ us) e n = near_more (near_parent e n) (omega arith)

pub near_text : (e : Element) (v w : List ℕ) → length v ≤ length w → Near 0 (text_tokens e v) (text_tokens e w)
unfolding text_tokens
near_text e [] [] low = near_tag e false false
near_text e [] (c ∷ cs) low =
    record {
      at = λ p q.
          let tag = (near_tag e false true).at p q in
          let one = one_more q (Tag e true) (Text (c ∷ cs) ∷ End ∷ []) in
          let alone = one_more q (Tag e true) [] in
          omega (arith, tag, one, alone);
    }
near_text e (b ∷ bs) [] low = absurd (omega (arith, low))
near_text e (b ∷ bs) (c ∷ cs) low =
    near_cons (near_tag e true true) (near_cons (near_text_token (b ∷ bs) (c ∷ cs) low) near_end)

-- ---- numbers

-- the powers of ten
abbrev tens : ℕ → ℕ
tens zero = 1
tens (suc k) = 10 * tens k

long_step : (n : ℕ) → 10 ≤ n → n < 2 ^ 64 → length (decimal n) ≡ length (decimal (n / 10)) + 1
long_step n least most = ap length (decimal_step n least most) ∙ length-append (decimal (n / 10)) _

tens_least : (k : ℕ) → 1 ≤ tens k
tens_least zero = omega arith
tens_least (suc k) = let least = tens_least k in omega (arith, least)

long_least : (k n : ℕ) → tens k ≤ n → n < 2 ^ 64 → suc k ≤ length (decimal n)
long_least zero n least most = decimal_nonempty n most
long_least (suc k) n least most =
    let some = tens_least k in
    let step = long_step n (omega (arith, least, some)) most in
    let rest = long_least k (n / 10) (omega (arith, least)) (omega (arith, most)) in
    omega (arith, step, rest)

-- a CmdID of a message, and one of ten digits
pub record NotLonger (n m count : ℕ) : Type 0 where
  pub low : n + count ≤ 2 ^ 32
  pub ten_digits : 1000000000 ≤ m
  pub high : m + count ≤ 2 ^ 32

pub shorter_number : (n m count : ℕ) → NotLonger n m count → 0 < count → length (decimal n) ≤ length (decimal m)
shorter_number n m count l some =
    let low = l.low in
    let digits = l.ten_digits in
    let high = l.high in
    let most = length-decimal-le 10 n (omega arith) (omega (arith, low, some)) (omega (arith, low, some)) in
    let least = long_least 9 m (omega (arith, digits)) (omega (arith, high, some)) in
    omega (arith, most, least)

pub near_number : (e : Element) (n m count : ℕ) → NotLonger n m count → 0 < count
    → Near 0 (number_tokens e n) (number_tokens e m)
unfolding number_tokens
near_number e n m count l some = near_text e (decimal n) (decimal m) (shorter_number n m count l some)
