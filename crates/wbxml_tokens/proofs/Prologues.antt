-- What is refused at the front of a document.
use Rattle.std.proofs.Common.{ℕ, suc, ◌≡◌, ◌≤◌, ◌+◌, List, [], ◌∷◌, ◌++◌, length, length-append, take, drop, refl, sym}
use Rattle.std.proofs.Common.{ap, ◌∙◌, subst, arith, rules, append_assoc, inl, inr}
use Rattle.std.proofs.lemmas.List.{take-append-drop, length-take-le, take_at}
use Rattle.std.specs.Prelude.{◌==◌, ◌&&◌, Bool, true, false, if◌then◌else◌, nat_lt, nat_le, Option, Some, None, ⊤}
use Rattle.std.specs.Str.{bytes_eq}
use Rattle.wbxml_ints.specs.declared.Mb.{Mb}
use Rattle.wbxml_ints.specs.declared.Mb.TheVariants as mb
use Rattle.wbxml_ints.specs.Multibyte.{IsMultibyte, IsTooBig, AreBytes, integer_at}
use Rattle.wbxml_ints.proofs.Functions.{at_is_found, big_is_found}
use Rattle.wbxml_tokens.specs.declared.reason.Reason.{Reason}
use Rattle.wbxml_tokens.specs.declared.reason.Reason.TheVariants as reasons
use Rattle.wbxml_tokens.specs.Fronts.{Front, more, wrong, head, integer_then, identifier_number, identifier_text, utf_8}
use Rattle.wbxml_tokens.specs.Fronts.{table_string, is_identified, identified_head, table_in, charset_in}
use Rattle.wbxml_tokens.specs.Fronts.{behind_identifier}
use Rattle.wbxml_tokens.specs.Fronts.{index_in, identifier_in, prologue_at}
use Rattle.wbxml_tokens.specs.Spelled.{IsVersion, IsIdentifierBy, IsIndexOfText, UpToIdentifier, UpToIndex, UpToCharset}
use Rattle.wbxml_tokens.specs.Spelled.{UpToCount, UpToInteger, IsWrongPrologue, WrongPrologueIsRefused}
use Rattle.wbxml_tokens.proofs.Spells.{bytes_behind}
use Rattle.wbxml_tokens.proofs.Heads.{then_front, same_bytes, same_text}
use Rattle.wbxml_tokens.proofs.Wrongs.{too_big}

-- ---- what is wrong there is refused

version_known : (v : ℕ) → IsVersion v → (nat_le 1 v && nat_le v 3) ≡ true
version_known v (low, high) = grind arith

identifier_front : (version : ℕ) (rest : List ℕ) → IsVersion version
    → prologue_at (version ∷ rest) ≡ integer_then 1 1 (integer_at rest) rest identifier_in
unfolding prologue_at
identifier_front version rest h =
    ap (λ (c : Bool). if c then integer_then 1 1 (integer_at rest) rest identifier_in else wrong 0 reasons.Version)
    (version_known version h)

before_identifier : (before rest : List ℕ) → UpToIdentifier before
    → prologue_at (before ++ rest) ≡ integer_then 1 1 (integer_at rest) rest identifier_in
before_identifier before rest (version, is, h) = ap (λ y. prologue_at (y ++ rest)) is ∙ identifier_front version rest h

before_index : (before rest : List ℕ) → UpToIndex before
    → prologue_at (before ++ rest) ≡ integer_then (length before) (length before) (integer_at rest) rest index_in
before_index before rest (version, zeros, is, h, is_zero) =
    let size : 1 + length zeros ≡ length before = omega (arith, ap length is) in
    ap (λ y. prologue_at (y ++ rest)) is ∙ identifier_front version (zeros ++ rest) h
    ∙ then_front 1 1 0 zeros rest identifier_in is_zero
    ∙ ap (λ n. integer_then n n (integer_at rest) rest index_in) size

named_front : (index : Option ℕ) (version : ℕ) (identifier rest : List ℕ) → IsVersion version
    → IsIdentifierBy index identifier
    → prologue_at (version ∷ identifier ++ rest) ≡ behind_identifier index (suc (length identifier)) rest
named_front None version identifier rest h is =
    let size : 1 + length identifier ≡ suc (length identifier) = omega arith in
    identifier_front version (identifier ++ rest) h ∙ then_front 1 1 identifier_number identifier rest identifier_in is
    ∙ ap (λ n. behind_identifier None n rest) size
named_front (Some index) version identifier rest h (zeros, number, is, is_zero, is_index) =
    let size : length (version ∷ zeros) + length number ≡ suc (length identifier) =
    omega (arith, ap length is, length-append zeros number) in
    ap (λ y. prologue_at (version ∷ y)) (ap (λ y. y ++ rest) is ∙ append_assoc zeros number rest)
    ∙ before_index (version ∷ zeros) (number ++ rest) (version, zeros, refl, h, is_zero)
    ∙ then_front (length (version ∷ zeros)) (length (version ∷ zeros)) index number rest index_in is_index
    ∙ ap (λ n. behind_identifier (Some index) n rest) size

before_charset : (index : Option ℕ) (before rest : List ℕ) → UpToCharset index before
    → prologue_at (before ++ rest) ≡ behind_identifier index (length before) rest
before_charset index before rest (version, identifier, is, h, named) =
    ap (λ y. prologue_at (y ++ rest)) is ∙ named_front index version identifier rest h named
    ∙ ap (λ y. behind_identifier index (length y) rest) (sym is)

before_count : (index : Option ℕ) (before rest : List ℕ) → UpToCount index before
    → prologue_at (before ++ rest)
    ≡ integer_then (length before) (length before) (integer_at rest) rest (table_in index)
before_count index all rest (before, charset, is, h, is_charset) =
    let size : length before + length charset ≡ length all =
    omega (arith, ap length is, length-append before charset) in
    ap prologue_at (ap (λ y. y ++ rest) is ∙ append_assoc before charset rest)
    ∙ before_charset index before (charset ++ rest) h
    ∙ then_front (length before) (length before) utf_8 charset rest (charset_in index (length before)) is_charset
    ∙ ap (λ n. integer_then n n (integer_at rest) rest (table_in index)) size

big_then : (place at : ℕ) (rest : List ℕ) (next : ℕ → ℕ → List ℕ → Front) → IsTooBig rest
    → integer_then place at (integer_at rest) rest next ≡ wrong place reasons.Integer
big_then place at rest next big = ap (λ r. integer_then place at r rest next) (too_big rest big)

integer_wrong : (before rest : List ℕ) → UpToInteger before → IsTooBig rest
    → prologue_at (before ++ rest) ≡ wrong (length before) reasons.Integer
integer_wrong before rest (inl (version, is, h)) big =
    let size : 1 ≡ length before = omega (arith, ap length is) in
    before_identifier before rest (version, is, h) ∙ big_then 1 1 rest identifier_in big
    ∙ ap (λ n. wrong n reasons.Integer) size
integer_wrong before rest (inr (inl h)) big =
    before_index before rest h ∙ big_then (length before) (length before) rest index_in big
integer_wrong before rest (inr (inr (index, inl h))) big =
    before_charset index before rest h
    ∙ big_then (length before) (length before) rest (charset_in index (length before)) big
integer_wrong before rest (inr (inr (index, inr h))) big =
    before_count index before rest h ∙ big_then (length before) (length before) rest (table_in index) big

version_wrong : (version : ℕ) (rest : List ℕ) → (IsVersion version → ⊥)
    → prologue_at (version ∷ rest) ≡ wrong 0 reasons.Version
unfolding prologue_at
version_wrong version rest none = either (nat_le 1 version && nat_le version 3) refl
  where
    either : (c : Bool) → (nat_le 1 version && nat_le version 3) ≡ c
        → (if c then integer_then 1 1 (integer_at rest) rest identifier_in else wrong 0 reasons.Version)
        ≡ wrong 0 reasons.Version
    either true e = absurd (none (search rules, search rules))
    either false e = refl

number_wrong : (number at : ℕ) (bytes : List ℕ) → (number ≡ 0 → ⊥) → (number ≡ identifier_number → ⊥)
    → identifier_in number at bytes ≡ wrong 1 reasons.Publicid
number_wrong number at bytes not_zero not_it =
    let a : (number == 0) ≡ false = search rules in
    let b : (number == identifier_number) ≡ false = search rules in
    ap (λ (c : Bool). if c then integer_then at at (integer_at bytes) bytes index_in
    else if number == identifier_number then behind_identifier None at bytes else wrong 1 reasons.Publicid) a
    ∙ ap (λ (c : Bool). if c then behind_identifier None at bytes else wrong 1 reasons.Publicid) b

charset_wrong : (index : Option ℕ) (place charset at : ℕ) (bytes : List ℕ) → (charset ≡ utf_8 → ⊥)
    → charset_in index place charset at bytes ≡ wrong place reasons.Charset
charset_wrong index place charset at bytes other =
    let a : (charset == utf_8) ≡ false = search rules in
    ap (λ (c : Bool). if c then integer_then at at (integer_at bytes) bytes (table_in index)
    else wrong place reasons.Charset) a

-- an index that isn't that of the text
text_of : (index : ℕ) (table : List ℕ) (c d : Bool) → nat_lt index (length table) ≡ c
    → bytes_eq (table_string table index) identifier_text ≡ d → (c && d) ≡ true
    → IsIndexOfText table index
text_of index table true true low same e = (search rules, same_text (table_string table index) identifier_text same)
text_of index table true false low same e = absurd cc
text_of index table false d low same e = absurd cc

not_identified : (index : ℕ) (table : List ℕ) → (IsIndexOfText table index → ⊥)
    → is_identified (Some index) table ≡ false
not_identified index table none = either (is_identified (Some index) table) refl
  where
    either : (c : Bool) → is_identified (Some index) table ≡ c → is_identified (Some index) table ≡ false
    either false e = e
    either true e =
        absurd
        (none (text_of index table (nat_lt index (length table)) (bytes_eq (table_string table index) identifier_text)
        refl refl e))

text_wrong : (index at : ℕ) (table rest : List ℕ) → (IsIndexOfText table index → ⊥)
    → table_in (Some index) (length table) at (table ++ rest) ≡ wrong 1 reasons.Publicid
text_wrong index at table rest none =
    ap (λ (c : Bool). if c then identified_head (Some index) (take (length table) (table ++ rest)) (at + length table)
    else more) enough
    ∙ ap (λ t. identified_head (Some index) t (at + length table)) (take_at table rest (length table) refl)
    ∙ ap (λ (c : Bool). if c then head table (at + length table) else wrong 1 reasons.Publicid)
    (not_identified index table none)
  where
    enough : nat_le (length table) (length (table ++ rest)) ≡ true
    enough = let there : length table ≤ length (table ++ rest) = omega (arith, length-append table rest) in grind arith

pub wrong_prologue_refused : (bytes : List ℕ) (at : ℕ) (reason : Reason) → IsWrongPrologue bytes at reason
    → prologue_at bytes ≡ wrong at reason
wrong_prologue_refused bytes at reasons.Version (place, version, rest, is, none) =
    ap prologue_at is ∙ version_wrong version rest none ∙ ap (λ n. wrong n reasons.Version) (sym place)
wrong_prologue_refused bytes at reasons.Publicid
    (place, inl (before, identifier, rest, number, is, h, spells, not_zero, not_it)) =
    ap prologue_at is ∙ before_identifier before (identifier ++ rest) h
    ∙ then_front 1 1 number identifier rest identifier_in spells
    ∙ number_wrong number (1 + length identifier) rest not_zero not_it ∙ ap (λ n. wrong n reasons.Publicid) (sym place)
wrong_prologue_refused bytes at reasons.Publicid (place, inr (before, count, table, rest, index, is, h, spells, none)) =
    ap prologue_at is ∙ before_count (Some index) before (count ++ (table ++ rest)) h
    ∙ then_front (length before) (length before) (length table) count (table ++ rest) (table_in (Some index)) spells
    ∙ text_wrong index (length before + length count) table rest none ∙ ap (λ n. wrong n reasons.Publicid) (sym place)
wrong_prologue_refused bytes at reasons.Charset (before, charset, rest, index, number, is, place, h, spells, other) =
    ap prologue_at is ∙ before_charset index before (charset ++ rest) h
    ∙ then_front (length before) (length before) number charset rest (charset_in index (length before)) spells
    ∙ charset_wrong index (length before) number (length before + length charset) rest other
    ∙ ap (λ n. wrong n reasons.Charset) (sym place)
wrong_prologue_refused bytes at reasons.Integer (before, rest, is, place, h, big) =
    ap prologue_at is ∙ integer_wrong before rest h big ∙ ap (λ n. wrong n reasons.Integer) (sym place)
wrong_prologue_refused bytes at other h = absurd h

-- ---- what is refused there is wrong

abbrev Told : List ℕ → Front → Type 0
Told all (wrong at reason) = IsWrongPrologue all at reason
Told all other = ⊤

step_told : (all before bytes : List ℕ) (at : ℕ) (next : ℕ → ℕ → List ℕ → Front) (r : Mb) → integer_at bytes ≡ r
    → AreBytes bytes → all ≡ before ++ bytes → at ≡ length before
    → UpToInteger before
    → ((n used : ℕ) → used ≤ length bytes → IsMultibyte n (take used bytes)
    → Told all (next n (at + used) (drop used bytes)))
    → Told all (integer_then at at r bytes next)
step_told all before bytes at next mb.More e fit is place h later = tt
step_told all before bytes at next mb.TooBig e fit is place h later =
    (before, bytes, is, place, h, big_is_found bytes fit e)
step_told all before bytes at next (mb.Value n used) e fit is place h later =
    let found = at_is_found bytes n used fit e in later n used found.0 found.1

-- bytes before a number, and the number, are before what follows it
further : (all before bytes : List ℕ) (used : ℕ) → all ≡ before ++ bytes
    → all ≡ (before ++ take used bytes) ++ drop used bytes
further all before bytes used is =
    is ∙ ap (λ y. before ++ y) (sym (take-append-drop used bytes))
    ∙ sym (append_assoc before (take used bytes) (drop used bytes))

further_place : (before bytes : List ℕ) (at used : ℕ) → at ≡ length before → used ≤ length bytes
    → at + used ≡ length (before ++ take used bytes)
further_place before bytes at used place few =
    omega (arith, place, length-append before (take used bytes), length-take-le used bytes few)

identified_by : (index : ℕ) (table : List ℕ) → is_identified (Some index) table ≡ false → IsIndexOfText table index → ⊥
identified_by index table e (low, text) =
    let below : nat_lt index (length table) ≡ true = grind arith in
    true_false (sym (ap (λ c. c && bytes_eq (table_string table index) identifier_text) below
    ∙ same_bytes (table_string table index) identifier_text text) ∙ e)
  where
    true_false : true ≡ false → ⊥
    true_false e = cc

head_told : (all before count bytes : List ℕ) (index : Option ℕ) (n at : ℕ) (c : Bool)
    → is_identified index (take n bytes) ≡ c → UpToCount index before
    → all ≡ before ++ (count ++ bytes) → IsMultibyte n count → n ≤ length bytes
    → Told all (if c then head (take n bytes) at else wrong 1 reasons.Publicid)
head_told all before count bytes index n at true e h is spells few = tt
head_told all before count bytes None n at false e h is spells few = absurd cc
head_told all before count bytes (Some index) n at false e h is spells few = (
  refl,
  inr (
    before,
    count,
    take n bytes,
    drop n bytes,
    index,
    is ∙ ap (λ y. before ++ (count ++ y)) (sym (take-append-drop n bytes)),
    h,
    subst (λ m. IsMultibyte m count) (sym (length-take-le n bytes few)) spells,
    identified_by index (take n bytes) e,
  ),
)

table_told : (all before count bytes : List ℕ) (index : Option ℕ) (n at : ℕ) (c : Bool) → nat_le n (length bytes) ≡ c
    → UpToCount index before
    → all ≡ before ++ (count ++ bytes) → IsMultibyte n count
    → Told all (if c then identified_head index (take n bytes) (at + n) else more)
table_told all before count bytes index n at false e h is spells = tt
table_told all before count bytes index n at true e h is spells =
    head_told all before count bytes index n (at + n) (is_identified index (take n bytes)) refl h is spells
    (search rules)

count_told : (all before bytes : List ℕ) (index : Option ℕ) (at : ℕ) → AreBytes bytes → all ≡ before ++ bytes
    → at ≡ length before → UpToCount index before
    → Told all (integer_then at at (integer_at bytes) bytes (table_in index))
count_told all before bytes index at fit is place h =
    step_told all before bytes at (table_in index) (integer_at bytes) refl fit is place (inr (inr (index, inr h)))
    (λ n used few spells.
    table_told all before (take used bytes) (drop used bytes) index n (at + used) (nat_le n (length (drop used bytes)))
    refl h
    (is ∙ ap (λ y. before ++ y) (sym (take-append-drop used bytes))) spells)

charset_by : (all before bytes : List ℕ) (index : Option ℕ) (at n used : ℕ) (c : Bool) → (n == utf_8) ≡ c
    → AreBytes bytes → all ≡ before ++ bytes → at ≡ length before
    → UpToCharset index before → used ≤ length bytes → IsMultibyte n (take used bytes)
    → Told all (if c
    then integer_then (at + used) (at + used) (integer_at (drop used bytes)) (drop used bytes) (table_in index)
    else wrong at reasons.Charset)
charset_by all before bytes index at n used true e fit is place h few spells =
    let right : n ≡ utf_8 = search rules in
    count_told all (before ++ take used bytes) (drop used bytes) index (at + used) (bytes_behind used bytes fit)
    (further all before bytes used is)
    (further_place before bytes at used place few)
    (before, take used bytes, refl, h, subst (λ m. IsMultibyte m (take used bytes)) right spells)
charset_by all before bytes index at n used false e fit is place h few spells = (
  before,
  take used bytes,
  drop used bytes,
  index,
  n,
  is ∙ ap (λ y. before ++ y) (sym (take-append-drop used bytes)),
  place,
  h,
  spells,
  search rules,
)

charset_told : (all before bytes : List ℕ) (index : Option ℕ) (at : ℕ) → AreBytes bytes → all ≡ before ++ bytes
    → at ≡ length before → UpToCharset index before
    → Told all (behind_identifier index at bytes)
charset_told all before bytes index at fit is place h =
    step_told all before bytes at (charset_in index at) (integer_at bytes) refl fit is place (inr (inr (index, inl h)))
    (λ n used few spells. charset_by all before bytes index at n used (n == utf_8) refl fit is place h few spells)

index_told : (all before bytes : List ℕ) (at : ℕ) → AreBytes bytes → all ≡ before ++ bytes → at ≡ length before
    → UpToIndex before
    → Told all (integer_then at at (integer_at bytes) bytes index_in)
index_told all before bytes at fit is place (version, zeros, starts, h, is_zero) =
    step_told all before bytes at index_in (integer_at bytes) refl fit is place
    (inr (inl (version, zeros, starts, h, is_zero)))
    (λ n used few spells.
    charset_told all (before ++ take used bytes) (drop used bytes) (Some n) (at + used) (bytes_behind used bytes fit)
    (further all before bytes used is) (further_place before bytes at used place few) (
      version,
      zeros ++ take used bytes,
      ap (λ y. y ++ take used bytes) starts,
      h,
      (zeros, take used bytes, refl, is_zero, spells),
    ))

identifier_by : (version : ℕ) (bytes : List ℕ) (n used : ℕ) (c d : Bool) → (n == 0) ≡ c → (n == identifier_number) ≡ d
    → AreBytes bytes → IsVersion version
    → used ≤ length bytes → IsMultibyte n (take used bytes)
    → Told (version ∷ bytes)
    (if c then integer_then (1 + used) (1 + used) (integer_at (drop used bytes)) (drop used bytes) index_in
    else if d then behind_identifier None (1 + used) (drop used bytes) else wrong 1 reasons.Publicid)
identifier_by version bytes n used true d e f fit h few spells =
    let zero_is : n ≡ 0 = search rules in
    index_told (version ∷ bytes) (version ∷ take used bytes) (drop used bytes) (1 + used) (bytes_behind used bytes fit)
    (further (version ∷ bytes) (version ∷ []) bytes used refl) (further_place (version ∷ []) bytes 1 used refl few)
    (version, take used bytes, refl, h, subst (λ m. IsMultibyte m (take used bytes)) zero_is spells)
identifier_by version bytes n used false true e f fit h few spells =
    let right : n ≡ identifier_number = search rules in
    charset_told (version ∷ bytes) (version ∷ take used bytes) (drop used bytes) None (1 + used)
    (bytes_behind used bytes fit)
    (further (version ∷ bytes) (version ∷ []) bytes used refl) (further_place (version ∷ []) bytes 1 used refl few)
    (version, take used bytes, refl, h, subst (λ m. IsMultibyte m (take used bytes)) right spells)
identifier_by version bytes n used false false e f fit h few spells = (
  refl,
  inl (
    version ∷ [],
    take used bytes,
    drop used bytes,
    n,
    ap (λ y. version ∷ y) (sym (take-append-drop used bytes)),
    (version, refl, h),
    spells,
    search rules,
    search rules,
  ),
)

version_by : (version : ℕ) (bytes : List ℕ) (c : Bool) → (nat_le 1 version && nat_le version 3) ≡ c → AreBytes bytes
    → Told (version ∷ bytes)
    (if c then integer_then 1 1 (integer_at bytes) bytes identifier_in else wrong 0 reasons.Version)
version_by version bytes false e fit = (refl, version, bytes, refl, other)
  where
    true_false : true ≡ false → ⊥
    true_false e = cc

    other : IsVersion version → ⊥
    other h = true_false (sym (version_known version h) ∙ e)
version_by version bytes true e fit =
    let h : IsVersion version = (search rules, search rules) in
    step_told (version ∷ bytes) (version ∷ []) bytes 1 identifier_in (integer_at bytes) refl fit refl refl
    (inl (version, refl, h))
    (λ n used few spells.
    identifier_by version bytes n used (n == 0) (n == identifier_number) refl refl fit h few spells)

prologue_told : (bytes : List ℕ) → AreBytes bytes → Told bytes (prologue_at bytes)
unfolding prologue_at
prologue_told [] fit = tt
prologue_told (version ∷ bytes) fit = version_by version bytes (nat_le 1 version && nat_le version 3) refl fit.1

pub wrong_prologue_there : (bytes : List ℕ) (at : ℕ) (reason : Reason) → AreBytes bytes
    → prologue_at bytes ≡ wrong at reason → IsWrongPrologue bytes at reason
wrong_prologue_there bytes at reason fit is = subst (Told bytes) is (prologue_told bytes fit)

pub wrong_prologue_is_refused : WrongPrologueIsRefused
wrong_prologue_is_refused bytes at reason fit =
    (wrong_prologue_there bytes at reason fit, wrong_prologue_refused bytes at reason)
