-- The numbers of a message, and the texts that tell them.
use Rattle.std.proofs.Common.{◌≡◌, ◌<◌, ◌==◌, ◌&&◌, ◌||◌, ◌^◌, ℕ, Bool, true, false, cond, not, List}
use Rattle.std.proofs.Common.{length, Option, Some, None, refl, sym, ◌∙◌, ap, arith, nat_lt, ◌⊎◌, inl}
use Rattle.std.proofs.Common.{inr}
use Rattle.std.specs.Prelude.{nat_eq, slice_index, unwrap_or}
use Rattle.std.specs.Fmt.{decimal}
use Rattle.std.specs.Str.{all_ascii_digits}
use Rattle.std.specs.Str.Parse.{digits_value}
use Rattle.std.proofs.lemmas.Bool.Decides.{nat_tests}
use Rattle.std.proofs.lemmas.Fmt.{digits_decimal, digits_value-decimal, decimal_nonempty, first_decimal}
use Rattle.std.proofs.lemmas.Str.Parse.{IsNumeralModel, numerals_by_value, tells_all_ascii_digits}
use Rattle.syncml_types.specs.Message.{Parts}
use Rattle.syncml_types.specs.declared.command.Command.{Command}
use Rattle.dm_base.specs.Fields.{is_numeral, num_of}
use Rattle.dm_headers.specs.Checks.{fault_of}
use Rattle.dm_pack.specs.Filling.{numbered}
use Rattle.dm_ends.specs.Commands.{session_of}
use Rattle.dm_service.specs.Events.{in_range, number_of}

-- ---- tests on numbers

pub record Lt (a b : ℕ) : Type 0 where
  pub lt : a < b
  pub yes : nat_lt a b ≡ true
  pub no : nat_lt b a ≡ false
  pub apart : nat_eq a b ≡ false
  pub apart' : nat_eq b a ≡ false

abbrev pub Order : ℕ → ℕ → Type 0
Order a b = Lt a b ⊎ (a ≡ b) ⊎ Lt b a

is-lt : (a b : ℕ) → nat_lt a b ≡ true → Lt a b
is-lt a b h =
    let l : a < b = grind (arith, nat_tests) in
    record {
      lt = l;
      yes = h;
      no = grind (arith, nat_tests);
      apart = grind (arith, nat_tests);
      apart' = grind (arith, nat_tests);
    }

pub lt-of : (a b : ℕ) → nat_lt a b ≡ true → a < b
lt-of a b h = grind (arith, nat_tests)

pub eq-of : (a b : ℕ) → nat_eq a b ≡ true → a ≡ b
eq-of a b h = grind (arith, nat_tests)

neither : (a b : ℕ) → nat_lt a b ≡ false → nat_lt b a ≡ false → a ≡ b
neither a b h k = grind (arith, nat_tests)

pub order : (a b : ℕ) → Order a b
order a b = first (nat_lt a b) (nat_lt b a) refl refl
  where
    first : (c d : Bool) → nat_lt a b ≡ c → nat_lt b a ≡ d → Order a b
    first true d e f = inl (is-lt a b e)
    first false true e f = inr (inr (is-lt b a f))
    first false false e f = inr (inl (neither a b e f))

pub eq-self : (a : ℕ) → nat_eq a a ≡ true
eq-self a = grind (arith, nat_tests)

pub lt-is : (a b : ℕ) → a < b → nat_lt a b ≡ true
lt-is a b h = grind (arith, nat_tests)

pub same-tests : (a b : ℕ) → a ≡ b
    → (nat_lt a b ≡ false) × (nat_lt b a ≡ false) × (nat_eq a b ≡ true) × (nat_eq b a ≡ true)
same-tests a b h =
    (grind (arith, nat_tests), grind (arith, nat_tests), grind (arith, nat_tests), grind (arith, nat_tests))

-- ---- a decimal text says its number

own_digits : IsNumeralModel (λ ds. all_ascii_digits ds ≡ true) (digits_value 10)
own_digits = numerals_by_value (λ ds. all_ascii_digits ds ≡ true) tells_all_ascii_digits

not-zero-digit : (d : ℕ) → 48 < d → not (nat_eq d 48) ≡ true
not-zero-digit d h = let e : nat_eq d 48 ≡ false = grind (arith, nat_tests) in ap not e

or-yes : (a b : Bool) → b ≡ true → (a || b) ≡ true
or-yes true b h = refl
or-yes false b h = h

all-three : (a b c : Bool) → a ≡ true → b ≡ true → c ≡ true → (a && b && c) ≡ true
all-three a b c h k l = rw (h, k, l) refl

decimal-numeral : (n : ℕ) → 0 < n → n < 2 ^ 32 → is_numeral (decimal n) ≡ true
decimal-numeral n low high =
    let small : n < 2 ^ 64 = omega (arith, high) in
    let some = decimal_nonempty n small in
    let first = first_decimal n low small in
    all-three (nat_lt 0 (length (decimal n))) (all_ascii_digits (decimal n)) _ (lt-is 0 (length (decimal n)) some)
    (digits_decimal own_digits n small)
    (or-yes (length (decimal n) == 1) _ (not-zero-digit (slice_index (decimal n) 0) first))

pub num-decimal : (n : ℕ) → 0 < n → n < 2 ^ 32 → num_of (decimal n) ≡ Some n
num-decimal n low high =
    let small : n < 2 ^ 64 = omega (arith, high) in
    let value : digits_value 10 (decimal n) ≡ n = digits_value-decimal own_digits n small in
    let fits : nat_lt (digits_value 10 (decimal n)) (2 ^ 64) ≡ true = rw value (lt-is n (2 ^ 64) small) in
    chosen (is_numeral (decimal n)) (nat_lt (digits_value 10 (decimal n)) (2 ^ 64)) (digits_value 10 (decimal n)) n
    (decimal-numeral n low high) fits value
  where
    chosen : (a b : Bool) (v n : ℕ) → a ≡ true → b ≡ true → v ≡ n → cond (a && b) (Some v) None ≡ Some n
    chosen a b v n h k e = rw (h, k, e) refl

-- ---- the number of a message's session

abbrev pub session_number : Parts → ℕ
session_number u = unwrap_or (number_of u) 0

pub record IsRead (u : Parts) : Type 0 where
  pub told : session_of u ≡ Some (session_number u)
  pub counted : number_of u ≡ Some (session_number u)

pub read-of : (u : Parts) (n : ℕ) → 0 < n → n < 2 ^ 32 → u.header.session ≡ decimal n
    → (session_number u ≡ n) × IsRead u
read-of u n low high e =
    let told : session_of u ≡ Some n = ap num_of e ∙ num-decimal n low high in
    let counted : number_of u ≡ Some n = ap in_range told ∙ in-range n low high in
    let is : session_number u ≡ n = ap (λ (o : Option ℕ). unwrap_or o 0) counted in
    (is, record { told = told ∙ ap Some (sym is); counted = counted ∙ ap Some (sym is) })
  where
    in-range : (n : ℕ) → 0 < n → n < 2 ^ 32 → in_range (Some n) ≡ Some n
    in-range n low high =
        let least = lt-is 0 n low in
        let most = lt-is n (2 ^ 32) high in
        rw (least, most) refl

-- ---- a message that an end sends

-- its CmdIDs are 1, 2, 3
abbrev pub HasNumbers : Parts → Type 0
HasNumbers m = (cs : List Command) × (m.body ≡ numbered 1 cs)

-- a message with these two numbers, in which nobody finds a fault
pub record IsSent (n k : ℕ) (m : Parts) : Type 0 where
  pub session : m.header.session ≡ decimal n
  pub id : m.header.msg ≡ k
  pub sound : fault_of m ≡ None
  pub body : HasNumbers m

pub record Numbered (n k : ℕ) (u : Parts) : Type 0 where
  pub session : session_number u ≡ n
  pub id : u.header.msg ≡ k
  pub read : IsRead u
  pub sound : fault_of u ≡ None
  pub body : HasNumbers u

pub sent-numbered : (n k : ℕ) (u : Parts) → 0 < n → n < 2 ^ 32 → IsSent n k u → Numbered n k u
sent-numbered n k u low high h =
    let x = read-of u n low high h.session in
    record { session = x.0; id = h.id; read = x.1; sound = h.sound; body = h.body }
