-- What waits at the server has the numbers of the job in a row, whole and where it was cut.
use Rattle.std.proofs.Common.{zero, suc, ◌≡◌, ◌<◌, ◌≤◌, ◌+◌, ◌-◌, ◌⊎◌, inl, inr, ℕ, Bool, true, false, cond, List, []}
use Rattle.std.proofs.Common.{◌∷◌, ◌++◌, length, take, drop, map, refl, sym, ◌∙◌, ap, subst, arith}
use Rattle.std.proofs.Common.{nat_lt}
use Rattle.std.proofs.lemmas.List.{length-append}
use Rattle.std.proofs.lemmas.Bool.Decides.{nat_tests}
use Rattle.syncml_types.specs.declared.command.Step.{Step}
use Rattle.dm_atomic.specs.declared.tasks.Named.{Named}
use Rattle.dm_service.specs.declared.sent.Carried.{Carried}
use Rattle.dm_world.specs.Acts.{Act, block, does}
use Rattle.dm_world.specs.Places.{last_block}
use Rattle.dm_world.specs.Commands.{outline}
use Rattle.dm_world.proofs.Joins.{AllBlocks, Splits}
use Rattle.dm_world.proofs.InOrder.{AreWhole}
use Rattle.dm_world.proofs.Outlines.{ends_of, last-at}
use Rattle.dm_world.proofs.Rows.{left, AreRows, rows-cut, SameLeft, cut-left, put-behind}

-- so many numbers from one on
abbrev pub numbers_from : ℕ → ℕ → List ℕ
numbers_from n zero = []
numbers_from n (suc k) = n ∷ numbers_from (n + 1) k

-- what an entry holds when the rest of it goes out, by numbers
abbrev pub held_numbers : Bool → Carried → List ℕ
held_numbers false c = numbers_from c.first c.count
held_numbers true c = c.first ∷ cond (nat_lt 1 c.count) ((c.first + c.count - 1) ∷ []) []

-- ---- the forms of what waits

abbrev pub WholeSteps : List Act → Type 0
WholeSteps [] = Unit {0}
WholeSteps (block name ∷ xs) = ⊥
WholeSteps (does s true ∷ xs) = ⊥
WholeSteps (does s false ∷ xs) = WholeSteps xs

-- a whole step, or a container of some
abbrev pub EntryForm : List Act → Type 0
EntryForm [] = ⊥
EntryForm (does s true ∷ xs) = ⊥
EntryForm (does s false ∷ xs) = xs ≡ []
EntryForm (block name ∷ []) = ⊥
EntryForm (block name ∷ x ∷ xs) = WholeSteps (x ∷ xs)

-- the rest of a step, or of the last one of a container
abbrev pub RestForm : ℕ → List Act → Type 0
RestForm count xs =
    ((s : Step) × (xs ≡ does s false ∷ []) × (count ≡ 1))
    ⊎ ((name : Named) × (s : Step) × (xs ≡ block name ∷ does s false ∷ []) × (1 < count))

abbrev pub FormOf : Bool → ℕ → List Act → Type 0
FormOf false count xs = EntryForm xs × (length xs ≡ count)
FormOf true count xs = RestForm count xs

-- it is the container of the steps that have the numbers behind its own
abbrev pub Contained : List Act → ℕ → ℕ → Type 0
Contained job first count =
    1 < count → (k : ℕ) → first ≤ k → k + 1 < first + count → first ≡ 1 + last_block 0 0 (take k job)

-- what waits for an entry of the job, with others behind it
pub record RowOf (job : List Act) (first count : ℕ) (begun : Bool) (xs rest : List Act) : Type 0 where
  pub count_is : first + count + left rest false ≡ length job + 1
  pub contains : Contained job first count
  pub form : FormOf begun count xs

-- ---- its acts have its numbers

steps-left : (xs rest : List Act) → WholeSteps xs → left (xs ++ rest) false ≡ length xs + left rest false
steps-left [] rest w = omega arith
steps-left (block name ∷ xs) rest w = absurd w
steps-left (does s true ∷ xs) rest w = absurd w
steps-left (does s false ∷ xs) rest w = let more = steps-left xs rest w in omega (arith, more)

steps-rows : (job xs rest : List Act) (n : ℕ) → WholeSteps xs → n + length xs + left rest false ≡ length job + 1
    → AreRows job xs (numbers_from n (length xs)) rest
steps-rows job [] rest n w e = tt
steps-rows job (block name ∷ xs) rest n w e = absurd w
steps-rows job (does s true ∷ xs) rest n w e = absurd w
steps-rows job (does s false ∷ xs) rest n w e =
    let behind = steps-left xs rest w in (
      omega (arith, e, behind),
      steps-rows job xs rest (n + 1) w (omega (arith, e)),
    )

fresh-rows : (job xs rest : List Act) (first count : ℕ) → EntryForm xs → length xs ≡ count
    → first + count + left rest false ≡ length job + 1
    → Contained job first count
    → AreRows job xs (numbers_from first (length xs)) rest
fresh-rows job [] rest first count f e c k = absurd f
fresh-rows job (does s true ∷ xs) rest first count f e c k = absurd f
fresh-rows job (does s false ∷ xs) rest first count f e c k =
    steps-rows job (does s false ∷ xs) rest first (subst WholeSteps (sym f) tt) (omega (arith, e, c))
fresh-rows job (block name ∷ []) rest first count f e c k = absurd f
fresh-rows job (block name ∷ block other ∷ xs) rest first count f e c k = absurd f
fresh-rows job (block name ∷ does s true ∷ xs) rest first count f e c k = absurd f
fresh-rows job (block name ∷ does s false ∷ xs) rest first count f e c k =
    let behind = steps-left xs rest f in
    let next : length job - suc (left (xs ++ rest) false) ≡ first = omega (arith, e, c, behind) in (
      (
        refl,
        k (omega (arith, e)) first (omega arith) (omega (arith, e))
            ∙ ap (λ i. 1 + last_block 0 0 (take i job)) (sym next),
      ),
      steps-rows job (does s false ∷ xs) rest (first + 1) f (omega (arith, e, c)),
    )

lt-no : (a b : ℕ) → b ≡ a → nat_lt a b ≡ false
lt-no a b h = grind (arith, nat_tests)

pub lt-yes : (a b : ℕ) → a < b → nat_lt a b ≡ true
lt-yes a b h = grind (arith, nat_tests)

rest-rows : (job xs rest : List Act) (c : Carried) → RestForm c.count xs
    → c.first + c.count + left rest false ≡ length job + 1
    → Contained job c.first c.count
    → AreRows job xs (held_numbers true c) rest
rest-rows job xs rest c (inl f) e k =
    let one = f.2 in
    subst (λ l. AreRows job l (held_numbers true c) rest) (sym f.1)
    (subst (λ b. AreRows job (does f.0 false ∷ []) (c.first ∷ cond b ((c.first + c.count - 1) ∷ []) []) rest)
    (sym (lt-no 1 c.count one)) (omega (arith, e, one), tt))
rest-rows job xs rest c (inr f) e k =
    let some = f.3 in
    let next : length job - suc (left rest false) ≡ c.first + c.count - 2 = omega (arith, e, some) in
    subst (λ l. AreRows job l (held_numbers true c) rest) (sym f.2)
    (subst
    (λ b. AreRows job (block f.0 ∷ does f.1 false ∷ []) (c.first ∷ cond b ((c.first + c.count - 1) ∷ []) []) rest)
    (sym (lt-yes 1 c.count some)) (
      (
        refl,
        k some (c.first + c.count - 2) (omega (arith, some)) (omega (arith, some))
            ∙ ap (λ i. 1 + last_block 0 0 (take i job)) (sym next),
      ),
      (omega (arith, e, some), tt),
    ))

pub held-rows : (job : List Act) (c : Carried) (begun : Bool) (xs rest : List Act)
    → RowOf job c.first c.count begun xs rest
    → AreRows job xs (held_numbers begun c) rest
held-rows job c false xs rest h =
    subst (λ n. AreRows job xs (numbers_from c.first n) rest) h.form.1
    (fresh-rows job xs rest c.first c.count h.form.0 h.form.1 h.count_is h.contains)
held-rows job c true xs rest h = rest-rows job xs rest c h.form h.count_is h.contains

-- ---- an entry cut

form-whole : (begun : Bool) (count : ℕ) (xs : List Act) → FormOf begun count xs → AreWhole xs
form-whole false count xs h = by xs h.0
  where
    steps : (xs : List Act) → WholeSteps xs → AreWhole xs
    steps [] h = tt
    steps (block name ∷ xs) h = absurd h
    steps (does s true ∷ xs) h = absurd h
    steps (does s false ∷ xs) h = steps xs h

    by : (xs : List Act) → EntryForm xs → AreWhole xs
    by [] h = tt
    by (does s true ∷ xs) h = absurd h
    by (does s false ∷ xs) h = subst AreWhole (sym h) tt
    by (block name ∷ []) h = absurd h
    by (block name ∷ x ∷ xs) h = steps (x ∷ xs) h
form-whole true count xs (inl h) = subst AreWhole (sym h.1) tt
form-whole true count xs (inr h) = subst AreWhole (sym h.2) tt

whole-last : (front : List Act) (s : Step) (more : Bool) → AreWhole (front ++ does s more ∷ []) → more ≡ false
whole-last [] s true h = absurd h
whole-last [] s false h = refl
whole-last (block name ∷ front) s more h = whole-last front s more h
whole-last (does t true ∷ front) s more h = absurd h
whole-last (does t false ∷ front) s more h = whole-last front s more h

-- as many acts as the first and the last of some make
abbrev ends_count : List Act → ℕ
ends_count xs = length (ends_of (map outline xs))

one-or-two : (begun : Bool) (count : ℕ) (xs : List Act) → FormOf begun count xs
    → ((count ≡ 1) × (ends_count xs ≡ 1)) ⊎ ((1 < count) × (ends_count xs ≡ 2))
one-or-two false count xs h = by xs h.0 h.1
  where
    by : (xs : List Act) → EntryForm xs → length xs ≡ count
        → ((count ≡ 1) × (ends_count xs ≡ 1)) ⊎ ((1 < count) × (ends_count xs ≡ 2))
    by [] f e = absurd f
    by (does s true ∷ xs) f e = absurd f
    by (does s false ∷ xs) f e =
        let none = ap length f in
        inl (omega (arith, e, none), ap (λ l. ends_count (does s false ∷ l)) f)
    by (block name ∷ []) f e = absurd f
    by (block name ∷ x ∷ xs) f e =
        let last = last-at (outline x) (map outline xs) in
        inr (omega (arith, e), ap (λ l. suc (length l)) last.1)
one-or-two true count xs (inl h) = inl (h.2, ap ends_count h.1)
one-or-two true count xs (inr h) = inr (h.3, ap ends_count h.2)

-- what is left of an entry that is cut has the form of a rest
cut-form : (count : ℕ) (rest again : List Act) (s : Step) → AllBlocks again → rest ≡ again ++ does s false ∷ []
    → ((count ≡ 1) × (length rest ≡ 1)) ⊎ ((1 < count) × (length rest ≡ 2))
    → RestForm count rest
cut-form count rest [] s b e (inl h) = inl (s, e, h.0)
cut-form count rest [] s b e (inr h) = absurd (let long = ap length e in let two = h.1 in omega (arith, long, two))
cut-form count rest (block name ∷ again) s b e (inl h) =
    absurd (let long = ap length e in let more = length-append again (does s false ∷ []) in let one = h.1 in
    omega (arith, long, more, one))
cut-form count rest (block name ∷ []) s b e (inr h) = inr (name, s, e, h.0)
cut-form count rest (block name ∷ x ∷ again) s b e (inr h) =
    absurd (let long = ap length e in let more = length-append again (does s false ∷ []) in let two = h.1 in
    omega (arith, long, more, two))
cut-form count rest (does t more ∷ again) s b e h = absurd b

-- the part has the numbers, and the rest waits for the same entry
pub record CutRows (job : List Act) (c : Carried) (begun : Bool) (xs part rest behind : List Act) : Type 0 where
  pub rows : AreRows job part (held_numbers begun c) (rest ++ behind)
  pub waits : RowOf job c.first c.count true rest behind
  pub same : SameLeft (part ++ (rest ++ behind)) (xs ++ behind)

pub cut-rows : (job : List Act) (c : Carried) (begun : Bool) (n : ℕ) (xs part rest behind : List Act)
    → Splits n xs part rest
    → length rest ≡ ends_count xs
    → RowOf job c.first c.count begun xs behind
    → CutRows job c begun xs part rest behind
cut-rows job c begun n xs part rest behind k long h = record {
  rows = subst (λ l. AreRows job l (held_numbers begun c) (rest ++ behind)) (sym k.part_is)
      (subst (λ l. AreRows job (k.front ++ does one true ∷ []) (held_numbers begun c) l) rest-then
      (rows-cut job k.front k.again behind k.step one two (held_numbers begun c) k.blocks
      (subst (λ l. AreRows job l (held_numbers begun c) behind) all (held-rows job c begun xs behind h))));
  waits = record {
    count_is = h.count_is;
    contains = h.contains;
    form = cut-form c.count rest k.again two k.blocks rest-is (by (one-or-two begun c.count xs h.form));
  };
  same = λ midway.
      ap (λ l. left (l ++ (rest ++ behind)) midway) k.part_is
      ∙ ap (λ l. left ((k.front ++ does one true ∷ []) ++ l) midway) (sym rest-then)
      ∙ ap (λ l. left l midway) (put-behind k.front (k.again ++ does two false ∷ behind) (does one true))
      ∙ sym (cut-left k.front k.again behind k.step one two k.blocks midway)
      ∙ ap (λ l. left l midway) (sym (put-behind k.front behind (does k.step false)))
      ∙ ap (λ l. left (l ++ behind) midway) (sym all);
}
  where
    one : Step
    one = record k.step { value = take n k.step.value }

    two : Step
    two = record k.step { value = drop n k.step.value }

    whole : k.more ≡ false
    whole = whole-last k.front k.step k.more (subst AreWhole k.all_is (form-whole begun c.count xs h.form))

    all : xs ≡ k.front ++ does k.step false ∷ []
    all = k.all_is ∙ ap (λ b. k.front ++ does k.step b ∷ []) whole

    rest-is : rest ≡ k.again ++ does two false ∷ []
    rest-is = k.rest_is ∙ ap (λ b. k.again ++ does two b ∷ []) whole

    rest-then : k.again ++ does two false ∷ behind ≡ rest ++ behind
    rest-then = sym (ap (λ l. l ++ behind) rest-is ∙ put-behind k.again behind (does two false))

    by : ((c.count ≡ 1) × (ends_count xs ≡ 1)) ⊎ ((1 < c.count) × (ends_count xs ≡ 2))
        → ((c.count ≡ 1) × (length rest ≡ 1)) ⊎ ((1 < c.count) × (length rest ≡ 2))
    by (inl x) = inl (x.0, long ∙ x.1)
    by (inr x) = inr (x.0, long ∙ x.1)

-- ---- steps, and a container before some

abbrev pub OnlySteps : List Act → Type 0
OnlySteps [] = Unit {0}
OnlySteps (block name ∷ xs) = ⊥
OnlySteps (does s more ∷ xs) = OnlySteps xs

abbrev pub HeadedSteps : List Act → Type 0
HeadedSteps [] = Unit {0}
HeadedSteps (does s more ∷ xs) = OnlySteps xs
HeadedSteps (block name ∷ []) = ⊥
HeadedSteps (block name ∷ x ∷ xs) = OnlySteps (x ∷ xs)

pub steps-only : (xs : List Act) → WholeSteps xs → OnlySteps xs
steps-only [] h = tt
steps-only (block name ∷ xs) h = absurd h
steps-only (does s true ∷ xs) h = absurd h
steps-only (does s false ∷ xs) h = steps-only xs h

pub form-headed : (begun : Bool) (count : ℕ) (xs : List Act) → FormOf begun count xs → HeadedSteps xs
form-headed false count xs h = by xs h.0
  where
    by : (xs : List Act) → EntryForm xs → HeadedSteps xs
    by [] h = absurd h
    by (does s true ∷ xs) h = absurd h
    by (does s false ∷ xs) h = subst OnlySteps (sym h) tt
    by (block name ∷ []) h = absurd h
    by (block name ∷ x ∷ xs) h = steps-only (x ∷ xs) h
form-headed true count xs (inl h) = subst HeadedSteps (sym h.1) tt
form-headed true count xs (inr h) = subst HeadedSteps (sym h.2) tt

only-lined : (xs : List Act) → OnlySteps xs → OnlySteps (map outline xs)
only-lined [] h = tt
only-lined (block name ∷ xs) h = absurd h
only-lined (does s more ∷ xs) h = only-lined xs h

only-unlined : (xs : List Act) → OnlySteps (map outline xs) → OnlySteps xs
only-unlined [] h = tt
only-unlined (block name ∷ xs) h = absurd h
only-unlined (does s more ∷ xs) h = only-unlined xs h

pub headed-lined : (xs : List Act) → HeadedSteps xs → HeadedSteps (map outline xs)
headed-lined [] h = tt
headed-lined (does s more ∷ xs) h = only-lined xs h
headed-lined (block name ∷ []) h = absurd h
headed-lined (block name ∷ x ∷ xs) h = only-lined (x ∷ xs) h

pub headed-unlined : (xs : List Act) → HeadedSteps (map outline xs) → HeadedSteps xs
headed-unlined [] h = tt
headed-unlined (does s more ∷ xs) h = only-unlined xs h
headed-unlined (block name ∷ []) h = absurd h
headed-unlined (block name ∷ x ∷ xs) h = only-unlined (x ∷ xs) h

-- a container that goes out, the whole of it or its rest, stands before whole steps
pub form-steps : (begun : Bool) (count : ℕ) (name : Named) (xs : List Act) → FormOf begun count (block name ∷ xs)
    → WholeSteps xs × (0 < length xs)
form-steps false count name [] h = absurd h.0
form-steps false count name (x ∷ xs) h = (h.0, omega arith)
form-steps true count name xs (inl h) = absurd (let e = h.1 in cc)
form-steps true count name xs (inr h) =
    let same : xs ≡ does h.1 false ∷ [] = cc in
    subst (λ l. WholeSteps l × (0 < length l)) (sym same) (tt, omega arith)

-- the second of its numbers
pub second-below : (begun : Bool) (c : Carried) (n m : ℕ) (ns : List ℕ) → held_numbers begun c ≡ n ∷ m ∷ ns
    → (c.first ≡ n) × (0 < c.count) × (m < c.first + c.count)
second-below false c n m ns e = by c.count e
  where
    by : (count : ℕ) → numbers_from c.first count ≡ n ∷ m ∷ ns
        → (c.first ≡ n) × (0 < count) × (m < c.first + count)
    by zero e = absurd (cc)
    by (suc zero) e = absurd (cc)
    by (suc (suc k)) e =
        let first : c.first ≡ n = cc in
        let second : c.first + 1 ≡ m = cc in
        (first, omega arith, omega (arith, second))
second-below true c n m ns e = by (nat_lt 1 c.count) refl e
  where
    by : (b : Bool) → nat_lt 1 c.count ≡ b
        → c.first ∷ cond b ((c.first + c.count - 1) ∷ []) [] ≡ n ∷ m ∷ ns
        → (c.first ≡ n) × (0 < c.count) × (m < c.first + c.count)
    by true f e =
        let first : c.first ≡ n = cc in
        let second : c.first + c.count - 1 ≡ m = cc in
        let some : 1 < c.count = grind (arith, nat_tests) in
        (first, omega (arith, some), omega (arith, second, some))
    by false f e = absurd (cc)
