-- The commands that an entry holds, as they are put, are those of the definition.
use Rattle.std.proofs.Common.{◌≡◌, ◌==◌, ◌&&◌, ◌||◌, ◌+◌, ◌-◌, ◌<◌, ◌≤◌, ℕ, zero, suc, Bool, true, false, not, cond}
use Rattle.std.proofs.Common.{nat_lt, List, [], ◌∷◌, ◌++◌, length, take, Some, None, IfSome, refl, sym, ap, ◌∙◌, arith}
use Rattle.std.proofs.Common.{append_assoc}
use Rattle.std.specs.Prelude.{Option, Result, Ok, Err, OnErr}
use Rattle.std.proofs.lemmas.List.{append-nil}
use Rattle.std.proofs.lemmas.Bool.{eq-eqb, ne_eqb}
use Rattle.std.specs.List.{AllByRecursion}
use Rattle.std.proofs.Math.Seq.{take-append_seam}
use Rattle.dm_service.specs.declared.sent.Carried.{Carried}
use Rattle.dm_service.specs.declared.sent.Sent.{Sent}
use Rattle.dm_service.specs.Sending.{in_a_row, last_part_sent, rest_holds, but_the_last, part_holds}
use Rattle.dm_waiting.specs.Held.{row, ends, held, IsSmall, IsNumbered}

-- what stood in front still stands there
pub front_longer : {A : Type 0} (old more new : List A) → new ≡ old ++ more → take (length old) new ≡ old
front_longer old more new is = ap (take (length old)) is ∙ take-append_seam old more

pub front_self : {A : Type 0} (old : List A) → take (length old) old ≡ old
front_self [] = refl
front_self (x ∷ old) = ap (λ l. x ∷ l) (front_self old)

take-less : {A : Type 0} (m n : ℕ) (l : List A) → m ≤ n → take m (take n l) ≡ take m l
take-less zero n l h = refl
take-less (suc m) zero l h = absurd (omega (arith, h))
take-less (suc m) (suc n) [] h = refl
take-less (suc m) (suc n) (x ∷ l) h = ap (λ k. x ∷ k) (take-less m n l (omega (arith, h)))

taken-most : {A : Type 0} (n : ℕ) (l : List A) → length (take n l) ≤ length l
taken-most zero l = omega arith
taken-most (suc n) [] = omega arith
taken-most (suc n) (x ∷ l) = let rest = taken-most n l in omega (arith, rest)

-- and what stood in front of that
pub front_again : {A : Type 0} (old now new : List A) → take (length old) now ≡ old → take (length now) new ≡ now
    → take (length old) new ≡ old
front_again old now new e f =
    let most = taken-most (length old) now in
    let long = ap length e in
    sym (take-less (length old) (length now) new (omega (arith, most, long))) ∙ ap (take (length old)) f ∙ e

pub on_err : {A E : Type 0} (r : Result A E) (P : Type 0) → P → OnErr r P
on_err (Ok x) P h = tt
on_err (Err e) P h = h

-- ---- whole, or a part

row-whole : (first : Bool) (msg command number n : ℕ)
    → row false first msg command number n ≡ in_a_row msg command number n
row-whole first msg command number zero = refl
row-whole first msg command number (suc n) =
    ap (λ (l : List Sent). record { msg = msg; command = command; number = number; counts = true } ∷ l)
    (row-whole false msg (command + 1) (number + 1) n)

not-last : (n : ℕ) → (suc n == 0) ≡ false
not-last n = grind arith

row-later : (msg command number n : ℕ)
    → row true false msg command number n ≡ but_the_last (in_a_row msg command number n)
row-later msg command number zero = refl
row-later msg command number (suc zero) = refl
row-later msg command number (suc (suc n)) =
    ap
    (λ b. record { msg = msg; command = command; number = number; counts = not b }
    ∷ row true false msg (command + 1) (number + 1) (suc n))
    (not-last n)
    ∙ ap (λ (l : List Sent). record { msg = msg; command = command; number = number; counts = true } ∷ l)
    (row-later msg (command + 1) (number + 1) (suc n))

row-part : (msg command number n : ℕ) → row true true msg command number n ≡ part_holds (in_a_row msg command number n)
row-part msg command number zero = refl
row-part msg command number (suc n) =
    ap (λ (l : List Sent). record { msg = msg; command = command; number = number; counts = false } ∷ l)
    (row-later msg (command + 1) (number + 1) n)

ends-part : (msg command : ℕ) (c : Carried) → ends true msg command c ≡ part_holds (last_part_sent msg command c)
ends-part msg command c = by (nat_lt 1 c.count)
  where
    by : (b : Bool)
        → record { msg = msg; command = command; number = c.first; counts = false } ∷ cond b
        (record { msg = msg; command = command + 1; number = c.first + c.count - 1; counts = false } ∷ []) []
        ≡ part_holds (record { msg = msg; command = command; number = c.first; counts = true } ∷ cond b
        (record { msg = msg; command = command + 1; number = c.first + c.count - 1; counts = true } ∷ []) [])
    by true = refl
    by false = refl

pub held_whole : (msg command : ℕ) (begun : Bool) (o : Option Carried)
    → held false msg command begun o ≡ rest_holds msg command begun o
held_whole msg command begun None = refl
held_whole msg command true (Some c) = refl
held_whole msg command false (Some c) = row-whole true msg command c.first c.count

pub held_part : (msg command : ℕ) (begun : Bool) (o : Option Carried)
    → held true msg command begun o ≡ part_holds (rest_holds msg command begun o)
held_part msg command begun None = refl
held_part msg command true (Some c) = ends-part msg command c
held_part msg command false (Some c) = row-part msg command c.first c.count

-- ---- one after the other

pub row_starts : (part : Bool) (msg command number n : ℕ) (out : List Sent)
    → out ++ row part (0 == 0) msg (command + 0) (number + 0) (n - 0) ≡ out ++ row part true msg command number n
row_starts part msg command number n out =
    let one : command + 0 ≡ command = omega arith in
    let two : number + 0 ≡ number = omega arith in
    let three : n - 0 ≡ n = omega arith in
    ap (λ x. out ++ row part true msg x (number + 0) (n - 0)) one
    ∙ ap (λ x. out ++ row part true msg command x (n - 0)) two
    ∙ ap (λ x. out ++ row part true msg command number x) three

row-next : (part first : Bool) (msg command number n left : ℕ) → n ≡ suc left
    → row part first msg command number n
    ≡ record { msg = msg; command = command; number = number; counts = not (part && (first || left == 0)) }
    ∷ row part false msg (command + 1) (number + 1) left
row-next part first msg command number n left e = ap (row part first msg command number) e

last-of : (left m n : ℕ) → n ≡ m + left → (m == n) ≡ (left == 0)
last-of zero m n e = eq-eqb m n (omega (arith, e))
last-of (suc left) m n e = ne_eqb m n (λ q. absurd (omega (arith, e, q))) ∙ sym (not-last left)

-- the next of a row
pub row_goes : (part : Bool) (msg command number n at : ℕ) (out new whole : List Sent) → at < n
    → new ≡ out ++ record {
      msg = msg;
      command = command + at;
      number = number + at;
      counts = not (part && (at == 0 || at + 1 == n));
    } ∷ []
    → out ++ row part (at == 0) msg (command + at) (number + at) (n - at) ≡ whole
    → new ++ row part (at + 1 == 0) msg (command + (at + 1)) (number + (at + 1)) (n - (at + 1)) ≡ whole
row_goes part msg command number n at out new whole h made before =
    let left = n - (at + 1) in
    let more : n - at ≡ suc left = omega (arith, h) in
    let later : (at + 1 == 0) ≡ false = ne_eqb (at + 1) 0 (λ q. absurd (omega (arith, q))) in
    let last : (at + 1 == n) ≡ (left == 0) = last-of left (at + 1) n (omega (arith, h)) in
    let one : command + (at + 1) ≡ command + at + 1 = omega arith in
    let two : number + (at + 1) ≡ number + at + 1 = omega arith in
    ap (λ b. new ++ row part b msg (command + (at + 1)) (number + (at + 1)) left) later
    ∙ ap (λ x. new ++ row part false msg x (number + (at + 1)) left) one
    ∙ ap (λ x. new ++ row part false msg (command + at + 1) x left) two
    ∙ ap (λ (x : List Sent). x ++ row part false msg (command + at + 1) (number + at + 1) left) made
    ∙ append_assoc out _ _
    ∙ ap
    (λ b. out ++ record {
      msg = msg;
      command = command + at;
      number = number + at;
      counts = not (part && (at == 0 || b));
    } ∷ row part false msg (command + at + 1) (number + at + 1) left) last
    ∙ ap (λ (x : List Sent). out ++ x)
    (sym (row-next part (at == 0) msg (command + at) (number + at) (n - at) left more))
    ∙ before

pub row_ends : (part : Bool) (msg command number n at : ℕ) (out whole : List Sent) → n ≤ at
    → out ++ row part (at == 0) msg (command + at) (number + at) (n - at) ≡ whole → out ≡ whole
row_ends part msg command number n at out whole h before =
    let none : n - at ≡ 0 = omega (arith, h) in
    sym (append-nil out) ∙ ap (λ x. out ++ row part (at == 0) msg (command + at) (number + at) x) (sym none) ∙ before

-- ---- each has a number of the job

row-numbered : (part first : Bool) (msg command number n : ℕ) → 0 < number
    → AllByRecursion IsNumbered (row part first msg command number n)
row-numbered part first msg command number zero h = tt
row-numbered part first msg command number (suc n) h =
    (h, row-numbered part false msg (command + 1) (number + 1) n (omega (arith, h)))

ends-numbered : (part : Bool) (msg command : ℕ) (c : Carried) → 0 < c.first
    → AllByRecursion IsNumbered (ends part msg command c)
ends-numbered part msg command c h = by (nat_lt 1 c.count) refl
  where
    by : (b : Bool) → nat_lt 1 c.count ≡ b → AllByRecursion IsNumbered
        (record { msg = msg; command = command; number = c.first; counts = not part } ∷ cond b
        (record { msg = msg; command = command + 1; number = c.first + c.count - 1; counts = not part } ∷ []) [])
    by true e = let some : 1 < c.count = grind (arith, e) in (h, (omega (arith, h, some), tt))
    by false e = (h, tt)

pub held_numbered : (part : Bool) (msg command : ℕ) (begun : Bool) (o : Option Carried) → IfSome o IsSmall
    → AllByRecursion IsNumbered (held part msg command begun o)
held_numbered part msg command begun None h = tt
held_numbered part msg command true (Some c) h = ends-numbered part msg command c h.some
held_numbered part msg command false (Some c) h = row-numbered part true msg command c.first c.count h.some
