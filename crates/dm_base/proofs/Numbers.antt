-- Decimal numbers out of text.
use Rattle.std.proofs.Common.{None, Some, Ok, Err, Bool, true, false, cond, ◌&&◌, ◌≡◌, ◌<◌, ◌^◌, ℕ, List, refl, sym, ap}
use Rattle.std.proofs.Common.{◌∙◌, length, arith, Result, ltb}
use Rattle.std.proofs.lemmas.Bool.{lt-ltb, ltb-true}
use Rattle.std.proofs.lemmas.Str.{IsUtf8-from_ascii}
use Rattle.std.proofs.lemmas.Str.Ascii.{IsAscii-from_reads}
use Rattle.std.proofs.lemmas.Str.Parse.{IsNumeralModel, numerals_by_value, tells_all_ascii_digits, parse_digits}
use Rattle.std.proofs.lemmas.Str.Parse.{digit_at}
use Rattle.std.specs.Str.{all_ascii_digits, IsUtf8}
use Rattle.std.specs.Str.Parse.{ParsesUnsigned, digits_value}
use Rattle.std.specs.Result.{result_ok}
use Rattle.dm_base.specs.Fields.{is_numeral, num_of}

own : IsNumeralModel (λ ds. all_ascii_digits ds ≡ true) (digits_value 10)
own = numerals_by_value _ tells_all_ascii_digits

first : (a b c : Bool) → (a && b && c) ≡ true → a ≡ true
first true b c h = refl
first false b c h = cc

middle : (a b c : Bool) → (a && b && c) ≡ true → b ≡ true
middle true true c h = refl
middle true false c h = cc
middle false b c h = cc

pub digits_of_number : (text : List ℕ) → is_numeral text ≡ true → all_ascii_digits text ≡ true
digits_of_number text holds = middle _ (all_ascii_digits text) _ holds

pub number_utf8 : (text : List ℕ) → is_numeral text ≡ true → IsUtf8 text
number_utf8 text holds =
    let digits = own.to text (digits_of_number text holds) in
    IsUtf8-from_ascii text
    (IsAscii-from_reads text (length text) (omega arith)
    (λ k low. let d = digit_at text k digits low in omega (arith, d.1)))

chosen : (b c : Bool) (v : ℕ) → b ≡ true → c ≡ true → cond (b && c) (Some v) None ≡ Some v
chosen b c v e f = rw (e, f) refl

refused : (b c : Bool) (v : ℕ) → (c ≡ true → ⊥) → cond (b && c) (Some v) None ≡ None
refused true true v never = absurd (never refl)
refused true false v never = refl
refused false c v never = refl

pub number_read : {E : Type 0} (text digits : List ℕ) (r : Result ℕ E) → digits ≡ text → is_numeral text ≡ true
    → ParsesUnsigned 64 10 digits r → result_ok r ≡ num_of text
number_read {E} text digits (Ok x) is holds h =
    let read = parse_digits own {E = E} 64 text (Ok x) (rw is at h) (digits_of_number text holds) in
    ap Some read.1 ∙ sym (chosen (is_numeral text) (ltb (digits_value 10 text) (2 ^ 64)) _ holds (lt-ltb _ _ read.0.1))
number_read {E} text digits (Err e) is holds h =
    let read = parse_digits own {E = E} 64 text (Err e) (rw is at h) (digits_of_number text holds) in
    let some : 0 < length text = ltb-true 0 (length text) (first _ (all_ascii_digits text) _ holds) in
    sym (refused (is_numeral text) (ltb (digits_value 10 text) (2 ^ 64)) _ (λ low. read (some, ltb-true _ _ low)))
