-- Prologues that are spelled stand at the front of a document, and what stands there is spelled.
use Rattle.std.proofs.Common.{ℕ, suc, ◌≡◌, ◌<◌, ◌≤◌, ◌+◌, List, [], ◌∷◌, ◌++◌, length, length-append, take, drop, refl}
use Rattle.std.proofs.Common.{sym, ap, ◌∙◌, subst, arith, rules, append_assoc, inl, inr}
use Rattle.std.proofs.lemmas.List.{drop-drop, length-drop, length-take-le, drop_at, take_at}
use Rattle.std.proofs.Math.Seq.{take-add}
use Rattle.std.specs.Prelude.{◌==◌, ◌&&◌, Bool, true, false, if◌then◌else◌, nat_lt, nat_le, Option, Some, None, ⊤}
use Rattle.std.specs.Str.{bytes_eq}
use Rattle.wbxml_ints.specs.declared.Mb.{Mb}
use Rattle.wbxml_ints.specs.declared.Mb.TheVariants as mb
use Rattle.wbxml_ints.specs.Multibyte.{IsMultibyte, AreBytes, integer_at}
use Rattle.wbxml_ints.proofs.Functions.{at_is_found}
use Rattle.wbxml_tokens.specs.declared.reason.Reason.TheVariants as reasons
use Rattle.wbxml_tokens.specs.Fronts.{Front, more, wrong, head, switch, token, integer_then, identifier_number}
use Rattle.wbxml_tokens.specs.Fronts.{identifier_text, utf_8, table_string, is_identified, identified_head, table_in}
use Rattle.wbxml_tokens.specs.Fronts.{charset_in, behind_identifier, index_in, identifier_in, prologue_at}
use Rattle.wbxml_tokens.specs.Spelled.{IsIdentifier, IsPrologue}
use Rattle.wbxml_tokens.proofs.Spells.{integer_front, bytes_behind}

-- ---- a spelled prologue stands at the front

pub then_front : (place at n : ℕ) (number rest : List ℕ) (next : ℕ → ℕ → List ℕ → Front) → IsMultibyte n number
    → integer_then place at (integer_at (number ++ rest)) (number ++ rest) next ≡ next n (at + length number) rest
then_front place at n number rest next h =
    ap (λ r. integer_then place at r (number ++ rest) next) (integer_front number rest n h)
    ∙ ap (next n (at + length number)) (drop_at number rest (length number) refl)

pub same_bytes : (a b : List ℕ) → a ≡ b → bytes_eq a b ≡ true
same_bytes a b e = search rules

table_front : (index : Option ℕ) (at : ℕ) (table rest : List ℕ) → is_identified index table ≡ true
    → table_in index (length table) at (table ++ rest) ≡ head table (at + length table)
table_front index at table rest h =
    ap (λ (c : Bool). if c then identified_head index (take (length table) (table ++ rest)) (at + length table) else more)
    enough
    ∙ ap (λ t. identified_head index t (at + length table)) (take_at table rest (length table) refl)
    ∙ ap (λ (c : Bool). if c then head table (at + length table) else wrong 1 reasons.Publicid) h
  where
    enough : nat_le (length table) (length (table ++ rest)) ≡ true
    enough = let there : length table ≤ length (table ++ rest) = omega (arith, length-append table rest) in grind arith

behind_front : (index : Option ℕ) (at : ℕ) (charset count table rest : List ℕ) → IsMultibyte utf_8 charset
    → IsMultibyte (length table) count
    → is_identified index table ≡ true
    → behind_identifier index at (charset ++ (count ++ (table ++ rest)))
    ≡ head table (at + length charset + length count + length table)
behind_front index at charset count table rest is_charset is_count h =
    then_front at at utf_8 charset (count ++ (table ++ rest)) (charset_in index at) is_charset
    ∙ then_front (at + length charset) (at + length charset) (length table) count (table ++ rest) (table_in index)
    is_count
    ∙ table_front index (at + length charset + length count) table rest h

number_front : (identifier charset count table rest : List ℕ) → IsIdentifier table identifier
    → IsMultibyte utf_8 charset → IsMultibyte (length table) count
    → integer_then 1 1 (integer_at (identifier ++ (charset ++ (count ++ (table ++ rest)))))
    (identifier ++ (charset ++ (count ++ (table ++ rest)))) identifier_in
    ≡ head table (1 + length identifier + length charset + length count + length table)
number_front identifier charset count table rest (inl is) is_charset is_count =
    then_front 1 1 identifier_number identifier (charset ++ (count ++ (table ++ rest))) identifier_in is
    ∙ behind_front None (1 + length identifier) charset count table rest is_charset is_count refl
number_front identifier charset count table rest (inr (zeros, number, index, is, is_zero, is_index, low, text))
    is_charset is_count =
    let later : List ℕ = charset ++ (count ++ (table ++ rest)) in
    let below : nat_lt index (length table) ≡ true = grind arith in
    let known : is_identified (Some index) table ≡ true =
    ap (λ c. c && bytes_eq (table_string table index) identifier_text) below
    ∙ same_bytes (table_string table index) identifier_text text in
    let size : 1 + length zeros + length number ≡ 1 + length identifier =
    omega (arith, ap length is, length-append zeros number) in
    ap (λ y. integer_then 1 1 (integer_at y) y identifier_in)
    (ap (λ y. y ++ later) is ∙ append_assoc zeros number later)
    ∙ then_front 1 1 0 zeros (number ++ later) identifier_in is_zero
    ∙ then_front (1 + length zeros) (1 + length zeros) index number later index_in is_index
    ∙ behind_front (Some index) (1 + length zeros + length number) charset count table rest is_charset is_count known
    ∙ ap (λ n. head table (n + length charset + length count + length table)) size

pub prologue_front : (table pro rest : List ℕ) → IsPrologue table pro
    → prologue_at (pro ++ rest) ≡ head table (length pro)
unfolding prologue_at
prologue_front table pro rest p =
    let inner : List ℕ = p.identifier ++ (p.charset ++ (p.count ++ (table ++ rest))) in
    let parts : (p.identifier ++ (p.charset ++ (p.count ++ table))) ++ rest ≡ inner = simp append_assoc in
    let version : (nat_le 1 p.version && nat_le p.version 3) ≡ true = known p.version p.is_version.0 p.is_version.1 in
    let size : 1 + length p.identifier + length p.charset + length p.count + length table ≡ length pro =
    omega (
      arith,
      ap length p.whole,
      length-append p.identifier (p.charset ++ (p.count ++ table)),
      length-append p.charset (p.count ++ table),
      length-append p.count table,
    ) in
    ap (λ y. prologue_at (y ++ rest)) p.whole
    ∙ ap (λ (c : Bool).
    if c then integer_then 1 1 (integer_at ((p.identifier ++ (p.charset ++ (p.count ++ table))) ++ rest))
    ((p.identifier ++ (p.charset ++ (p.count ++ table))) ++ rest) identifier_in else wrong 0 reasons.Version) version
    ∙ ap (λ y. integer_then 1 1 (integer_at y) y identifier_in) parts
    ∙ number_front p.identifier p.charset p.count table rest p.is_identifier p.is_charset p.is_count
    ∙ ap (head table) size
  where
    known : (v : ℕ) → 1 ≤ v → v ≤ 3 → (nat_le 1 v && nat_le v 3) ≡ true
    known v a b = grind arith

-- ---- a prologue that stands at the front is spelled

-- an integer was read, and what follows it gives the rest
record Read (place at : ℕ) (bytes : List ℕ) (next : ℕ → ℕ → List ℕ → Front) (f : Front) : Type 0 where
  number : ℕ
  used : ℕ
  few : used ≤ length bytes
  spells : IsMultibyte number (take used bytes)
  gives : next number (at + used) (drop used bytes) ≡ f

then_there : (place at : ℕ) (bytes : List ℕ) (next : ℕ → ℕ → List ℕ → Front) (t : List ℕ) (u : ℕ) (r : Mb)
    → integer_at bytes ≡ r → AreBytes bytes
    → integer_then place at r bytes next ≡ head t u → Read place at bytes next (head t u)
then_there place at bytes next t u mb.More e fit is = absurd cc
then_there place at bytes next t u mb.TooBig e fit is = absurd cc
then_there place at bytes next t u (mb.Value n k) e fit is =
    let found = at_is_found bytes n k fit e in
    record { number = n; used = k; few = found.0; spells = found.1; gives = is }

-- the charset, the count and the table at the front of bytes that stand at a place
record Tail (index : Option ℕ) (at : ℕ) (bytes table : List ℕ) (size : ℕ) : Type 0 where
  charset : List ℕ
  count : List ℕ
  used : ℕ
  few : used ≤ length bytes
  whole : take used bytes ≡ charset ++ (count ++ table)
  is_charset : IsMultibyte utf_8 charset
  is_count : IsMultibyte (length table) count
  known : is_identified index table ≡ true
  end : size ≡ at + used

head_is : (index : Option ℕ) (strings t : List ℕ) (n u : ℕ) (c : Bool) → is_identified index strings ≡ c
    → (if c then head strings n else wrong 1 reasons.Publicid) ≡ head t u
    → (strings ≡ t) × (n ≡ u) × (is_identified index t ≡ true)
head_is index strings t n u true e is =
    let same : strings ≡ t = cc in (same, cc, ap (is_identified index) (sym same) ∙ e)
head_is index strings t n u false e is = absurd cc

table_there : (index : Option ℕ) (count at : ℕ) (bytes t : List ℕ) (u : ℕ) (c : Bool) → nat_le count (length bytes) ≡ c
    → (if c then identified_head index (take count bytes) (at + count) else more) ≡ head t u
    → (count ≤ length bytes) × (take count bytes ≡ t) × (u ≡ at + count) × (is_identified index t ≡ true)
table_there index count at bytes t u false e is = absurd cc
table_there index count at bytes t u true e is =
    let h = head_is index (take count bytes) t (at + count) u (is_identified index (take count bytes)) refl is in
    (search rules, h.0, sym h.1, h.2)

tail_of : (index : Option ℕ) (at k : ℕ) (bytes t : List ℕ) (u : ℕ) → AreBytes bytes → k ≤ length bytes
    → IsMultibyte utf_8 (take k bytes)
    → Read (at + k) (at + k) (drop k bytes) (table_in index) (head t u) → Tail index at bytes t u
tail_of index at k bytes t u fit few is_charset r =
    let rest : List ℕ = drop k bytes in
    let found =
    table_there index r.number (at + k + r.used) (drop r.used rest) t u (nat_le r.number (length (drop r.used rest)))
    refl r.gives in
    let long : length t ≡ r.number = ap length (sym found.1) ∙ length-take-le r.number (drop r.used rest) found.0 in
    record {
      charset = take k bytes;
      count = take r.used rest;
      used = k + (r.used + r.number);
      few = omega (arith, few, r.few, found.0, length-drop k bytes, length-drop r.used rest);
      whole =
          take-add k (r.used + r.number) bytes
          ∙ ap (λ y. take k bytes ++ y) (take-add r.used r.number rest ∙ ap (λ y. take r.used rest ++ y) found.1);
      is_charset = is_charset;
      is_count = subst (λ n. IsMultibyte n (take r.used rest)) (sym long) r.spells;
      known = found.3;
      end = omega (arith, found.2);
    }

charset_there : (index : Option ℕ) (place charset at : ℕ) (bytes t : List ℕ) (u : ℕ) (c : Bool) → (charset == utf_8) ≡ c
    → (if c then integer_then at at (integer_at bytes) bytes (table_in index) else wrong place reasons.Charset)
    ≡ head t u
    → (charset ≡ utf_8) × (integer_then at at (integer_at bytes) bytes (table_in index) ≡ head t u)
charset_there index place charset at bytes t u true e is = (search rules, is)
charset_there index place charset at bytes t u false e is = absurd cc

behind_there : (index : Option ℕ) (at : ℕ) (bytes t : List ℕ) (u : ℕ) → AreBytes bytes
    → behind_identifier index at bytes ≡ head t u → Tail index at bytes t u
behind_there index at bytes t u fit is =
    let r = then_there at at bytes (charset_in index at) t u (integer_at bytes) refl fit is in
    let c = charset_there index at r.number (at + r.used) (drop r.used bytes) t u (r.number == utf_8) refl r.gives in
    tail_of index at r.used bytes t u fit r.few (subst (λ n. IsMultibyte n (take r.used bytes)) c.0 r.spells)
    (then_there (at + r.used) (at + r.used) (drop r.used bytes) (table_in index) t u (integer_at (drop r.used bytes))
    refl (bytes_behind r.used bytes fit) c.1)

pub same_text : (a b : List ℕ) → bytes_eq a b ≡ true → a ≡ b
same_text a b e = search rules

-- an identifier, and what follows it
record Named (bytes table : List ℕ) (size : ℕ) : Type 0 where
  identifier : List ℕ
  index : Option ℕ
  used : ℕ
  few : used ≤ length bytes
  front_is : take used bytes ≡ identifier
  is_identifier : IsIdentifier table identifier
  tail : Tail index (1 + used) (drop used bytes) table size

by_number : (bytes t : List ℕ) (u used : ℕ) → AreBytes bytes → used ≤ length bytes
    → IsMultibyte identifier_number (take used bytes)
    → behind_identifier None (1 + used) (drop used bytes) ≡ head t u → Named bytes t u
by_number bytes t u used fit few spells is = record {
  identifier = take used bytes;
  index = None;
  used = used;
  few = few;
  front_is = refl;
  is_identifier = inl spells;
  tail = behind_there None (1 + used) (drop used bytes) t u (bytes_behind used bytes fit) is;
}

by_text : (bytes t : List ℕ) (u used : ℕ) → AreBytes bytes → used ≤ length bytes → IsMultibyte 0 (take used bytes)
    → Read (1 + used) (1 + used) (drop used bytes) index_in (head t u) → Named bytes t u
by_text bytes t u used fit few spells r =
    let rest : List ℕ = drop used bytes in
    let tail : Tail (Some r.number) (1 + used + r.used) (drop r.used rest) t u =
    behind_there (Some r.number) (1 + used + r.used) (drop r.used rest) t u
    (bytes_behind r.used rest (bytes_behind used bytes fit)) r.gives in
    let place : 1 + used + r.used ≡ 1 + (used + r.used) = omega arith in
    let known = both r.number t tail.known in
    record {
      identifier = take used bytes ++ take r.used rest;
      index = Some r.number;
      used = used + r.used;
      few = omega (arith, few, r.few, length-drop used bytes);
      front_is = take-add used r.used bytes;
      is_identifier = inr (take used bytes, take r.used rest, r.number, refl, spells, r.spells, known.0, known.1);
      tail = subst (λ n. Tail (Some r.number) n (drop (used + r.used) bytes) t u) place
          (subst (λ y. Tail (Some r.number) (1 + used + r.used) y t u) (drop-drop r.used used bytes) tail);
    }
  where
    both : (index : ℕ) (t : List ℕ)
        → (nat_lt index (length t) && bytes_eq (table_string t index) identifier_text) ≡ true
        → (index < length t) × (table_string t index ≡ identifier_text)
    both index t e = both_by (nat_lt index (length t)) refl e
      where
        both_by : (c : Bool) → nat_lt index (length t) ≡ c
            → (c && bytes_eq (table_string t index) identifier_text) ≡ true
            → (index < length t) × (table_string t index ≡ identifier_text)
        both_by true low e = (search rules, same_text (table_string t index) identifier_text e)
        both_by false low e = absurd cc

named_by : (bytes t : List ℕ) (u number used : ℕ) (c d : Bool) → (number == 0) ≡ c → (number == identifier_number) ≡ d
    → AreBytes bytes → used ≤ length bytes
    → IsMultibyte number (take used bytes)
    → (if c then integer_then (1 + used) (1 + used) (integer_at (drop used bytes)) (drop used bytes) index_in
    else if d then behind_identifier None (1 + used) (drop used bytes) else wrong 1 reasons.Publicid) ≡ head t u
    → Named bytes t u
named_by bytes t u number used true d e f fit few spells is =
    let zeros : number ≡ 0 = search rules in
    by_text bytes t u used fit few (subst (λ n. IsMultibyte n (take used bytes)) zeros spells)
    (then_there (1 + used) (1 + used) (drop used bytes) index_in t u (integer_at (drop used bytes)) refl
    (bytes_behind used bytes fit) is)
named_by bytes t u number used false true e f fit few spells is =
    let right : number ≡ identifier_number = search rules in
    by_number bytes t u used fit few (subst (λ n. IsMultibyte n (take used bytes)) right spells) is
named_by bytes t u number used false false e f fit few spells is = absurd cc

identifier_there : (bytes t : List ℕ) (u : ℕ) → AreBytes bytes
    → integer_then 1 1 (integer_at bytes) bytes identifier_in ≡ head t u → Named bytes t u
identifier_there bytes t u fit is =
    let r = then_there 1 1 bytes identifier_in t u (integer_at bytes) refl fit is in
    named_by bytes t u r.number r.used (r.number == 0) (r.number == identifier_number) refl refl fit r.few r.spells
    r.gives

version_by : (version : ℕ) (bytes t : List ℕ) (u : ℕ) (c : Bool) → (nat_le 1 version && nat_le version 3) ≡ c
    → AreBytes bytes
    → (if c then integer_then 1 1 (integer_at bytes) bytes identifier_in else wrong 0 reasons.Version) ≡ head t u
    → (u ≤ length (version ∷ bytes)) × IsPrologue t (take u (version ∷ bytes))
version_by version bytes t u false e fit is = absurd cc
version_by version bytes t u true e fit is =
    let n = identifier_there bytes t u fit is in
    let size : u ≡ suc (n.used + n.tail.used) = omega (arith, n.tail.end) in (
      omega (arith, size, n.few, n.tail.few, length-drop n.used bytes),
      record {
        version = version;
        identifier = n.identifier;
        charset = n.tail.charset;
        count = n.tail.count;
        is_version = (search rules, search rules);
        is_identifier = n.is_identifier;
        is_charset = n.tail.is_charset;
        is_count = n.tail.is_count;
        whole = ap (λ m. take m (version ∷ bytes)) size
            ∙ ap (λ y. version ∷ y)
            (take-add n.used n.tail.used bytes ∙ ap (λ y. y ++ take n.tail.used (drop n.used bytes)) n.front_is
            ∙ ap (λ y. n.identifier ++ y) n.tail.whole);
      },
    )

pub prologue_there : (bytes t : List ℕ) (u : ℕ) → AreBytes bytes → prologue_at bytes ≡ head t u
    → (u ≤ length bytes) × IsPrologue t (take u bytes)
unfolding prologue_at
prologue_there [] t u fit is = absurd cc
prologue_there (version ∷ bytes) t u fit is =
    version_by version bytes t u (nat_le 1 version && nat_le version 3) refl fit.1 is

-- ---- nothing else stands at the front of a document

abbrev pub OfPrologue : Front → Type 0
OfPrologue (switch page) = ⊥
OfPrologue (token t used) = ⊥
OfPrologue other = ⊤

of_then : (place at : ℕ) (bytes : List ℕ) (next : ℕ → ℕ → List ℕ → Front) (r : Mb)
    → ((n u : ℕ) (rest : List ℕ) → OfPrologue (next n u rest))
    → OfPrologue (integer_then place at r bytes next)
of_then place at bytes next mb.More h = tt
of_then place at bytes next mb.TooBig h = tt
of_then place at bytes next (mb.Value n u) h = h n (at + u) (drop u bytes)

of_if : (c : Bool) (f g : Front) → OfPrologue f → OfPrologue g → OfPrologue (if c then f else g)
of_if true f g a b = a
of_if false f g a b = b

of_table : (index : Option ℕ) (count at : ℕ) (bytes : List ℕ) → OfPrologue (table_in index count at bytes)
of_table index count at bytes =
    of_if (nat_le count (length bytes)) (identified_head index (take count bytes) (at + count)) more
    (of_if (is_identified index (take count bytes)) (head (take count bytes) (at + count)) (wrong 1 reasons.Publicid) tt
    tt) tt

of_charset : (index : Option ℕ) (place charset at : ℕ) (bytes : List ℕ)
    → OfPrologue (charset_in index place charset at bytes)
of_charset index place charset at bytes =
    of_if (charset == utf_8) (integer_then at at (integer_at bytes) bytes (table_in index))
    (wrong place reasons.Charset)
    (of_then at at bytes (table_in index) (integer_at bytes) (of_table index)) tt

of_behind : (index : Option ℕ) (at : ℕ) (bytes : List ℕ) → OfPrologue (behind_identifier index at bytes)
of_behind index at bytes = of_then at at bytes (charset_in index at) (integer_at bytes) (of_charset index at)

of_identifier : (number at : ℕ) (bytes : List ℕ) → OfPrologue (identifier_in number at bytes)
of_identifier number at bytes =
    of_if (number == 0) (integer_then at at (integer_at bytes) bytes index_in)
    (if number == identifier_number then behind_identifier None at bytes else wrong 1 reasons.Publicid)
    (of_then at at bytes index_in (integer_at bytes) (λ n u rest. of_behind (Some n) u rest))
    (of_if (number == identifier_number) (behind_identifier None at bytes) (wrong 1 reasons.Publicid)
    (of_behind None at bytes) tt)

pub of_prologue : (bytes : List ℕ) → OfPrologue (prologue_at bytes)
unfolding prologue_at
of_prologue [] = tt
of_prologue (version ∷ bytes) =
    of_if (nat_le 1 version && nat_le version 3) (integer_then 1 1 (integer_at bytes) bytes identifier_in)
    (wrong 0 reasons.Version)
    (of_then 1 1 bytes identifier_in (integer_at bytes) of_identifier) tt
