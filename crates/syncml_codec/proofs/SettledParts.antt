-- A refusal of the reader's is settled by the bytes up to its place and six from there on.
use Rattle.std.proofs.Common.{ℕ, zero, suc, ◌≡◌, ◌<◌, ◌≤◌, ◌+◌, ◌*◌, ◌-◌, List, [], ◌∷◌, ◌++◌, length, length-append}
use Rattle.std.proofs.Common.{take, drop, append_assoc, refl, sym, ap, ◌∙◌, subst, arith, inl, inr}
use Rattle.std.proofs.lemmas.List.{length-take, take_all, take-take, take-append-drop}
use Rattle.std.proofs.lemmas.Bool.{cases_lt}
use Rattle.std.proofs.Math.Seq.{take-append-add}
use Rattle.std.specs.Prelude.{Some, Result, Ok, Err}
use Rattle.wbxml_ints.specs.Multibyte.{AreBytes, IsDigitsFrom, IsDigits, IsMultibyte, AllGoOn, IsTooBig}
use Rattle.wbxml_tokens.specs.declared.reason.Reason.{Reason}
use Rattle.wbxml_tokens.specs.declared.reason.Reason.TheVariants as reasons
use Rattle.wbxml_tokens.specs.declared.reason.Refusal.{Refusal}
use Rattle.wbxml_tokens.specs.declared.extent.Extent.{Extent}
use Rattle.wbxml_tokens.specs.Reading.{most_bytes, reading}
use Rattle.wbxml_tokens.specs.Taking.{taken_all, ◌>>=◌}
use Rattle.wbxml_tokens.specs.Spelled.{IsWrong, IsWrongPrologue, IsUnfinishedPrologue, ReadsUpTo, RefusedAt}
use Rattle.wbxml_tokens.specs.Spelled.{in_prologue, in_body, trailing, unfinished_prologue, unfinished_body}
use Rattle.wbxml_tokens.proofs.Refusals.{refused_is_told}
use Rattle.wbxml_tokens.proofs.Turns.{taken-append}
use Rattle.syncml_grammar.specs.Building.{Building, no_building}
use Rattle.syncml_grammar.specs.Taken.{building}
use Rattle.syncml_codec.specs.Messages.{NoTokenRefused}
use Rattle.syncml_codec.specs.Decoding.{built, first_refused, settled}
use Rattle.syncml_codec.specs.Laws.{RefusedPartIsSettled}
use Rattle.syncml_codec.proofs.Unrefused.{read_more}
use Rattle.syncml_codec.proofs.Decoded.{refused_token, take_over, bytes_of_front}

-- ---- integers

few_digits : (number value left : ℕ) (bytes : List ℕ) → IsDigitsFrom number value left bytes → length bytes ≤ left
few_digits number value left [] h = absurd h
few_digits number value zero (b ∷ bytes) h = absurd h
few_digits number value (suc left) (b ∷ []) h = omega arith
few_digits number value (suc left) (b ∷ c ∷ bytes) h =
    let rest = few_digits number (value * 128 + (b - 128)) left (c ∷ bytes) h.2 in omega (arith, rest)

used_few : (number used : ℕ) (bytes : List ℕ) → used ≤ length bytes → IsDigits number (take used bytes) → used ≤ 5
used_few number used bytes low h =
    let few = few_digits number 0 5 (take used bytes) h in omega (arith, few, low, length-take used bytes)

-- the first of bytes, which six are enough for
in_six : (used : ℕ) (bytes : List ℕ) → used ≤ 5 → take used (take 6 bytes) ≡ take used bytes
in_six used bytes few = take-take used 6 bytes (omega (arith, few))

room_in_six : (used : ℕ) (bytes : List ℕ) → used ≤ 5 → used ≤ length bytes → used ≤ length (take 6 bytes)
room_in_six used bytes few low = omega (arith, few, low, length-take 6 bytes)

too_big : (bytes : List ℕ) → IsTooBig bytes → IsTooBig (take 6 bytes)
too_big bytes (inl (five, on)) =
    inl (room_in_six 5 bytes (omega arith) five, subst AllGoOn (sym (in_six 5 bytes (omega arith))) on)
too_big bytes (inr (used, number, low, digits, big)) =
    let few = used_few number used bytes low digits in
    inr (
      used,
      number,
      room_in_six used bytes few low,
      subst (IsDigits number) (sym (in_six used bytes few)) digits,
      big,
    )

-- the same of the five bytes behind another
too_big_behind : (bytes : List ℕ) → IsTooBig bytes → IsTooBig (take 5 bytes)
too_big_behind bytes (inl (five, on)) =
    inl (omega (arith, five, length-take 5 bytes), subst AllGoOn (sym (take-take 5 5 bytes (omega arith))) on)
too_big_behind bytes (inr (used, number, low, digits, big)) =
    let few = used_few number used bytes low digits in
    inr (
      used,
      number,
      omega (arith, few, low, length-take 5 bytes),
      subst (IsDigits number) (sym (take-take used 5 bytes few)) digits,
      big,
    )

-- ---- parts

short_part : (page : ℕ) (table bytes : List ℕ) (reason : Reason) → IsWrong page table bytes reason
    → IsWrong page table (take 6 bytes) reason
short_part page table bytes reasons.Token (b, rest, is, none) = (b, take 5 rest, ap (take 6) is, none)
short_part page table bytes reasons.Tag (inl (other, rest, is, high)) = inl (other, take 4 rest, ap (take 6) is, high)
short_part page table bytes reasons.Tag (inr (b, rest, is, none)) = inr (b, take 5 rest, ap (take 6) is, none)
short_part page table bytes reasons.Integer (b, rest, is, which, big) =
    (b, take 5 rest, ap (take 6) is, which, too_big_behind rest big)
short_part page table bytes reasons.Index (rest, index, used, is, low, number, beyond) =
    let few = used_few index used rest low number.0 in (
      take 5 rest,
      index,
      used,
      ap (take 6) is,
      omega (arith, few, low, length-take 5 rest),
      subst (IsMultibyte index) (sym (take-take used 5 rest few)) number,
      beyond,
    )
short_part page table bytes _ w = absurd w

-- bytes that begin with others, up to six behind these
six_behind : (before rest bytes : List ℕ) (at : ℕ) → bytes ≡ before ++ rest → at ≡ length before
    → take (at + 6) bytes ≡ before ++ take 6 rest
six_behind before rest bytes at is place =
    ap (λ n. take (n + 6) bytes) place ∙ ap (take (length before + 6)) is ∙ take-append-add before rest 6

short_prologue : (bytes : List ℕ) (at : ℕ) (reason : Reason) → IsWrongPrologue bytes at reason
    → (reason ≡ reasons.Publicid → ⊥)
    → IsWrongPrologue (take (at + 6) bytes) at reason
short_prologue bytes at reasons.Version (first, version, rest, is, wrong) other =
    (first, version, take 5 rest, ap (λ n. take (n + 6) bytes) first ∙ ap (take 6) is, wrong)
short_prologue bytes at reasons.Publicid w other = absurd (other refl)
short_prologue bytes at reasons.Charset (before, charset, rest, index, number, is, place, upto, is_number, wrong)
    other =
    let few : length charset ≤ 6 = let digits = few_digits number 0 5 charset is_number.0 in omega (arith, digits) in (
      before,
      charset,
      take (6 - length charset) rest,
      index,
      number,
      six_behind before (charset ++ rest) bytes at is place ∙ ap (λ l. before ++ l) (take_over 6 charset rest few),
      place,
      upto,
      is_number,
      wrong,
    )
short_prologue bytes at reasons.Integer (before, rest, is, place, upto, big) other =
    (before, take 6 rest, six_behind before rest bytes at is place, place, upto, too_big rest big)
short_prologue bytes at _ w other = absurd w

-- ---- documents

take_both : (m n : ℕ) (l : List ℕ) → take m (take n l) ≡ take n (take m l)
take_both m n l = elim (cases_lt m n) [
  | inl less ↦ take-take m n l (omega (arith, less))
      ∙ sym (take_all n (take m l) (omega (arith, less, length-take m l)))
  | inr more ↦ take_all m (take n l) (omega (arith, more, length-take n l)) ∙ sym (take-take n m l more)
]

-- what is read up to a place, of fewer bytes behind it
reads_up_to : (bytes table : List ℕ) (page at : ℕ) (extent : Extent) (rest : List ℕ)
    → ReadsUpTo bytes table page at extent rest
    → ReadsUpTo (take (at + 6) bytes) table page at extent (take 6 rest)
reads_up_to bytes table page at extent rest u =
    let place : at ≡ length (u.prologue ++ u.body) = omega (arith, u.place, length-append u.prologue u.body) in
    record {
      prologue = u.prologue;
      body = u.body;
      tokens = u.tokens;
      whole =
          six_behind (u.prologue ++ u.body) rest bytes at (u.whole ∙ sym (append_assoc u.prologue u.body rest)) place
          ∙ append_assoc u.prologue u.body (take 6 rest);
      is_prologue = u.is_prologue;
      spells = u.spells;
      place = u.place;
    }

some_left : (rest : List ℕ) → 0 < length rest → 0 < length (take 6 rest)
some_left rest some = omega (arith, some, length-take 6 rest)

-- all that a document may have, of so many and six
all_of_most : (bytes : List ℕ) → take most_bytes (take (most_bytes + 6) bytes) ≡ take most_bytes bytes
all_of_most bytes = take-take most_bytes (most_bytes + 6) bytes (omega arith)

longer : (bytes : List ℕ) → most_bytes < length bytes → most_bytes < length (take (most_bytes + 6) bytes)
longer bytes long = omega (arith, long, length-take (most_bytes + 6) bytes)

short_refused : {bytes : List ℕ} {at : ℕ} {reason : Reason} → RefusedAt bytes at reason
    → (reason ≡ reasons.Publicid → ⊥)
    → RefusedAt (take (at + 6) bytes) at reason
short_refused {bytes} {at} {reason} (in_prologue w) other =
    in_prologue (subst (λ l. IsWrongPrologue l at reason) (take_both (at + 6) most_bytes bytes)
    (short_prologue (take most_bytes bytes) at reason w other))
short_refused {bytes} {at} {reason} (in_body {table} {page} {extent = extent} {rest = rest} u open_ w) other =
    in_body (subst (λ l. ReadsUpTo l table page at extent (take 6 rest)) (take_both (at + 6) most_bytes bytes)
    (reads_up_to (take most_bytes bytes) table page at extent rest u)) open_ (short_part page table rest reason w)
short_refused {bytes} {at} (trailing {table} {page} {extent = extent} {rest = rest} u whole some few) other =
    trailing (reads_up_to bytes table page at extent rest u) whole (some_left rest some) few
short_refused {bytes} (unfinished_prologue u long) other =
    unfinished_prologue (subst IsUnfinishedPrologue (sym (all_of_most bytes)) u) (longer bytes long)
short_refused {bytes} (unfinished_body {table} {page} {at} {extent} {rest} u open_ w long) other =
    unfinished_body (subst (λ l. ReadsUpTo l table page at extent rest) (sym (all_of_most bytes)) u) open_ w
    (longer bytes long)

-- ---- settled

-- what the grammar refuses of some bytes it refuses of all
built_more : (bytes later : List ℕ) (f : Refusal) → built bytes ≡ Err f → built (bytes ++ later) ≡ Err f
built_more bytes later f is =
    let m = read_more bytes later in
    ap (taken_all building no_building) m.1 ∙ taken-append building no_building (reading bytes).tokens m.0
    ∙ ap (λ r. r >>= (λ v. taken_all building v m.0)) is

settled_when : (front rest bytes : List ℕ) (f : Refusal) (r : Result Building Refusal) → AreBytes bytes
    → bytes ≡ front ++ rest → NoTokenRefused bytes
    → built front ≡ r → (reading front).refused ≡ Some f → settled front ≡ Some f
unfolding settled
settled_when front rest bytes f (Err g) fit split none is refused =
    absurd (none g.at g.reason (refused_token bytes g fit (ap built split ∙ built_more front rest g is)))
settled_when front rest bytes f (Ok b) fit split none is refused =
    ap (λ r. first_refused r (reading front).refused) is ∙ refused

pub refused_part_is_settled : RefusedPartIsSettled
refused_part_is_settled bytes at reason fit h none other =
    let front : List ℕ = take (at + 6) bytes in
    let split : bytes ≡ front ++ drop (at + 6) bytes = sym (take-append-drop (at + 6) bytes) in
    let fit_front : AreBytes front = bytes_of_front front (drop (at + 6) bytes) (subst AreBytes split fit) in
    settled_when front (drop (at + 6) bytes) bytes (record { at = at; reason = reason }) (built front) fit split none
    refl
    ((refused_is_told front at reason fit_front).1 (short_refused h other))
