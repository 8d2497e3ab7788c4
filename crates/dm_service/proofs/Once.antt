-- In a session no command of the job goes out twice: however one counts the numbers of what was sent and of what waits,
-- they stay the same, and each stands in the job once.
use Rattle.std.proofs.Common.{None, Some, ◌≡◌, ◌<◌, ◌+◌, ◌-◌, ℕ, zero, suc, Bool, true, false, cond, List, [], ◌∷◌}
use Rattle.std.proofs.Common.{◌++◌, map, drop, refl, sym, ap, ◌∙◌, arith, nat_lt}
use Rattle.std.specs.Prelude.{Option, if◌then◌else◌}
use Rattle.syncml_parts.specs.Numbering.{ids_in}
use Rattle.dm_pack.specs.Entries.{rest_of}
use Rattle.dm_pack.specs.Filling.{next_rest}
use Rattle.dm_service.specs.declared.sent.Carried.{Carried}
use Rattle.dm_service.specs.declared.sent.Sent.{Sent}
use Rattle.dm_service.specs.Service.{Waiting}
use Rattle.dm_service.specs.Sending.{in_a_row, last_part_sent, rest_holds, but_the_last, part_holds, goes_out}
use Rattle.dm_service.specs.Sending.{carried_on}

-- ---- what a list of sent commands weighs

-- each command that counts weighs as its number does
abbrev pub weight : (ℕ → ℕ) → Sent → ℕ
weight f s = if s.counts then f s.number else 0

abbrev pub weigh : (ℕ → ℕ) → List Sent → ℕ
weigh f [] = 0
weigh f (s ∷ ss) = weight f s + weigh f ss

pub weigh_append : (f : ℕ → ℕ) (ss ts : List Sent) → weigh f (ss ++ ts) ≡ weigh f ss + weigh f ts
weigh_append f [] ts = omega arith
weigh_append f (s ∷ ss) ts = let rest = weigh_append f ss ts in omega (arith, rest)

-- numbers in a row
abbrev pub weigh_row : (ℕ → ℕ) → ℕ → ℕ → ℕ
weigh_row f number zero = 0
weigh_row f number (suc n) = f number + weigh_row f (number + 1) n

row-weighs : (f : ℕ → ℕ) (msg command number n : ℕ) → weigh f (in_a_row msg command number n) ≡ weigh_row f number n
row-weighs f msg command number zero = refl
row-weighs f msg command number (suc n) = let rest = row-weighs f msg (command + 1) (number + 1) n in
    omega (arith, rest)

-- ---- what an entry weighs

-- its first command and its last one, where it is in parts
abbrev pub weigh_ends : (ℕ → ℕ) → Carried → ℕ
weigh_ends f c = f c.first + (if nat_lt 1 c.count then f (c.first + c.count - 1) else 0)

abbrev pub weigh_carried : (ℕ → ℕ) → Bool → Option Carried → ℕ
weigh_carried f begun None = 0
weigh_carried f false (Some c) = weigh_row f c.first c.count
weigh_carried f true (Some c) = weigh_ends f c

abbrev pub weigh_waiting : (ℕ → ℕ) → List Waiting → ℕ
weigh_waiting f [] = 0
weigh_waiting f (w ∷ ws) = weigh_carried f w.entry.begun w.carries + weigh_waiting f ws

pub waiting_append : (f : ℕ → ℕ) (vs ws : List Waiting)
    → weigh_waiting f (vs ++ ws) ≡ weigh_waiting f vs + weigh_waiting f ws
waiting_append f [] ws = omega arith
waiting_append f (v ∷ vs) ws = let rest = waiting_append f vs ws in omega (arith, rest)

ends-weigh : (f : ℕ → ℕ) (msg command : ℕ) (c : Carried) → weigh f (last_part_sent msg command c) ≡ weigh_ends f c
ends-weigh f msg command c = by (nat_lt 1 c.count)
  where
    by : (b : Bool) → f c.first + weigh f (cond b
        (record { msg = msg; command = command + 1; number = c.first + c.count - 1; counts = true } ∷ []) [])
        ≡ f c.first + cond b (f (c.first + c.count - 1)) 0
    by true = omega arith
    by false = refl

-- the rest of it weighs as it does
rest-weighs : (f : ℕ → ℕ) (msg command : ℕ) (begun : Bool) (o : Option Carried)
    → weigh f (rest_holds msg command begun o) ≡ weigh_carried f begun o
rest-weighs f msg command begun None = refl
rest-weighs f msg command false (Some c) = row-weighs f msg command c.first c.count
rest-weighs f msg command true (Some c) = ends-weigh f msg command c

-- ---- a part

-- all but the last of some in a row
but-last : (f : ℕ → ℕ) (msg command number n : ℕ)
    → weigh f (but_the_last (in_a_row msg command number (suc n))) + f (number + n) ≡ weigh_row f number (suc n)
but-last f msg command number zero = let e : f (number + 0) ≡ f number = ap f (omega arith) in omega (arith, e)
but-last f msg command number (suc n) =
    let rest = but-last f msg (command + 1) (number + 1) n in
    let e : f (number + 1 + n) ≡ f (number + suc n) = ap f (omega arith) in
    omega (arith, rest, e)

head-again : (f : ℕ → ℕ) (s : Sent) (ss : List Sent) → weigh f (part_holds (s ∷ ss)) ≡ weigh f (but_the_last ss)
head-again f s ss = omega arith

two-ends : (f : ℕ → ℕ) (first n : ℕ) (b : Bool) → nat_lt 1 (suc (suc n)) ≡ b
    → f first + (if b then f (first + suc (suc n) - 1) else 0) ≡ f first + f (first + suc (suc n) - 1)
two-ends f first n true h = refl
two-ends f first n false h = absurd (grind (arith, h))

first-sums : (p b e last here row total : ℕ) → p ≡ b → e ≡ here + last → b + last ≡ row → total ≡ here + row
    → p + e ≡ total
first-sums p b e last here row total g h i j = omega (arith, g, h, i, j)

-- a first part and what follows it weigh as the whole entry
first-weighs : (f : ℕ → ℕ) (msg command first count : ℕ) → 0 < count
    → weigh f (part_holds (in_a_row msg command first count)) + weigh_ends f (record { first = first; count = count })
    ≡ weigh_row f first count
first-weighs f msg command first zero some = absurd (omega (arith, some))
first-weighs f msg command first (suc zero) some = omega arith
first-weighs f msg command first (suc (suc n)) some =
    let rest = but-last f msg (command + 1) (first + 1) n in
    let number : first + 1 + n ≡ first + suc (suc n) - 1 = omega arith in
    let e = ap f number in
    first-sums _ (weigh f (but_the_last (in_a_row msg (command + 1) (first + 1) (suc n)))) _
    (f (first + suc (suc n) - 1)) (f first) (weigh_row f (first + 1) (suc n)) _
    (head-again f (record { msg = msg; command = command; number = first; counts = true })
    (in_a_row msg (command + 1) (first + 1) (suc n)))
    (two-ends f first n (nat_lt 1 (suc (suc n))) refl)
    (ap (λ x. weigh f (but_the_last (in_a_row msg (command + 1) (first + 1) (suc n))) + x) (sym e) ∙ rest) refl

-- nothing of a later part counts
later-weighs : (f : ℕ → ℕ) (msg command : ℕ) (c : Carried) → weigh f (part_holds (last_part_sent msg command c)) ≡ 0
later-weighs f msg command c = let none = by (nat_lt 1 c.count) in omega (arith, none)
  where
    by : (b : Bool) → weigh f (but_the_last (cond b
        (record { msg = msg; command = command + 1; number = c.first + c.count - 1; counts = true } ∷ []) [])) ≡ 0
    by true = refl
    by false = refl

abbrev pub HasCommands : Option Carried → Type 0
HasCommands None = Unit {0}
HasCommands (Some c) = 0 < c.count

part-weighs : (f : ℕ → ℕ) (msg command : ℕ) (begun : Bool) (o : Option Carried) → HasCommands o
    → weigh f (part_holds (rest_holds msg command begun o)) + weigh_carried f true o ≡ weigh_carried f begun o
part-weighs f msg command begun None some = omega arith
part-weighs f msg command false (Some c) some = first-weighs f msg command c.first c.count some
part-weighs f msg command true (Some c) some =
    let none = later-weighs f msg command c in
    omega (arith, none)

-- ---- a message

abbrev pub AllHaveCommands : List Waiting → Type 0
AllHaveCommands [] = Unit {0}
AllHaveCommands (w ∷ ws) = HasCommands w.carries × AllHaveCommands ws

carried-same : (ws : List Waiting) → carried_on (map (λ (w : Waiting). w.entry) ws) ws ≡ ws
carried-same [] = refl
carried-same (w ∷ ws) = ap (λ rest. w ∷ rest) (carried-same ws)

part-out : (f : ℕ → ℕ) (msg command n : ℕ) (w : Waiting) (ws : List Waiting) → HasCommands w.carries
    → weigh f (part_holds (rest_holds msg command w.entry.begun w.carries))
    + weigh_waiting f (carried_on (rest_of w.entry (suc n) ∷ map (λ (w : Waiting). w.entry) ws) (w ∷ ws))
    ≡ weigh_waiting f (w ∷ ws)
unfolding rest_of
part-out f msg command n w ws some =
    let part = part-weighs f msg command w.entry.begun w.carries some in
    let same = ap (weigh_waiting f) (carried-same ws) in
    omega (arith, part, same)

-- what goes out and what is left weigh as what waited
pub out_weighs : (f : ℕ → ℕ) (msg command whole cut : ℕ) (ws : List Waiting) → AllHaveCommands ws
    → weigh f (goes_out msg command whole cut ws)
    + weigh_waiting f (carried_on (next_rest cut (map (λ (w : Waiting). w.entry) (drop whole ws))) (drop whole ws))
    ≡ weigh_waiting f ws
out_weighs f msg command zero zero [] all = refl
out_weighs f msg command zero (suc n) [] all = refl
out_weighs f msg command (suc whole) zero [] all = refl
out_weighs f msg command (suc whole) (suc n) [] all = refl
out_weighs f msg command zero zero (w ∷ ws) all =
    let same = ap (weigh_waiting f) (carried-same (w ∷ ws)) in
    omega (arith, same)
out_weighs f msg command zero (suc n) (w ∷ ws) all = part-out f msg command n w ws all.0
out_weighs f msg command (suc whole) cut (w ∷ ws) all =
    let rest = out_weighs f msg (command + ids_in w.entry.command) whole cut ws all.1 in
    let here = rest-weighs f msg command w.entry.begun w.carries in
    let both = weigh_append f (rest_holds msg command w.entry.begun w.carries)
    (goes_out msg (command + ids_in w.entry.command) whole cut ws) in
    omega (arith, rest, here, both)
