-- Which number of the job an act has, by how many stand behind it, and at which place it is executed then.
use Rattle.std.proofs.Common.{suc, ◌≡◌, ◌≤◌, ◌+◌, ◌-◌, ℕ, Bool, true, false, List, [], ◌∷◌, ◌++◌}
use Rattle.std.proofs.Common.{length, take, Option, None, Some, refl, sym, ◌∙◌, ap, subst, arith}
use Rattle.std.specs.Prelude.{is_some}
use Rattle.std.proofs.lemmas.List.{length-append}
use Rattle.syncml_types.specs.declared.command.Step.{Step}
use Rattle.dm_atomic.specs.declared.tasks.Named.{Named}
use Rattle.dm_world.specs.Acts.{Act, block, does, Joined, and_then, with_more, is_part_of, join}
use Rattle.dm_world.specs.Places.{last_block, place_behind}
use Rattle.dm_world.proofs.Lists.{either}
use Rattle.dm_world.proofs.Joins.{join-append, AllBlocks}
use Rattle.dm_world.proofs.Position.{Whole}
use Rattle.dm_world.proofs.InOrder.{AreWhole, whole-behind}

-- so many of these acts will be whole, behind a step that has come in part or not
abbrev pub left : List Act → Bool → ℕ
left [] midway = 0
left (block name ∷ xs) false = suc (left xs false)
left (block name ∷ xs) true = left xs true
left (does s true ∷ xs) midway = left xs true
left (does s false ∷ xs) midway = suc (left xs false)

-- An act of this number with others behind it: a step has so many behind it as the job has behind that number, and a
-- container is the last one before the step that comes next.
abbrev pub RowAct : List Act → ℕ → Act → List Act → Type 0
RowAct job n (does s more) xs = n + left (does s more ∷ xs) true ≡ length job + 1
RowAct job n (block name) xs =
    (left xs true ≡ left xs false) × (n ≡ 1 + last_block 0 0 (take (length job - left xs true) job))

-- ---- how many

pub length-left : (o : Option Step) (xs : List Act) → (join o xs).part ≡ None → AreWhole (join o xs).whole
    → length (join o xs).whole ≡ left xs (is_some o)
length-left None [] e w = refl
length-left (Some p) [] e w = refl
length-left None (block name ∷ xs) e w = ap suc (length-left None xs e w)
length-left None (does s true ∷ xs) e w = length-left (Some s) xs e w
length-left None (does s false ∷ xs) e w = ap suc (length-left None xs e w)
length-left (Some p) (block name ∷ xs) e w = length-left (Some p) xs e w
length-left (Some p) (does s true ∷ xs) e w =
    either (λ (j : Joined). j.part ≡ None → AreWhole j.whole → length j.whole ≡ left xs true) (is_part_of p s)
    {x = join (Some (with_more p s)) xs} {y = and_then (does p true) (join (Some s) xs)}
    (λ f v. length-left (Some (with_more p s)) xs f v) (λ f v. absurd v) e w
length-left (Some p) (does s false ∷ xs) e w =
    either (λ (j : Joined). j.part ≡ None → AreWhole j.whole → length j.whole ≡ suc (left xs false)) (is_part_of p s)
    {x = and_then (does (with_more p s) false) (join None xs)}
    {y = and_then (does p true) (and_then (does s false) (join None xs))}
    (λ f v. ap suc (length-left None xs f v)) (λ f v. absurd v) e w

does-left : (s : Step) (more midway : Bool) (xs : List Act)
    → left (does s more ∷ xs) midway ≡ left (does s more ∷ xs) true
does-left s true midway xs = refl
does-left s false midway xs = refl

-- ---- the place

take-all : (a b : List Act) → take (length a) (a ++ b) ≡ a
take-all [] b = refl
take-all (x ∷ xs) b = ap (λ l. x ∷ l) (take-all xs b)

take-more : (a b : List Act) (x : Act) → take (length a + 1) (a ++ x ∷ b) ≡ a ++ x ∷ []
take-more a b x =
    let e : a ++ x ∷ b ≡ (a ++ x ∷ []) ++ b = sym (assoc a b x) in
    let long = length-append a (x ∷ []) in
    let k : length a + 1 ≡ length (a ++ x ∷ []) = omega (arith, long) in
    ap (take (length a + 1)) e ∙ ap (λ n. take n ((a ++ x ∷ []) ++ b)) k ∙ take-all (a ++ x ∷ []) b
  where
    assoc : (a b : List Act) (x : Act) → (a ++ x ∷ []) ++ b ≡ a ++ x ∷ b
    assoc [] b x = refl
    assoc (y ∷ ys) b x = ap (λ l. y ∷ l) (assoc ys b x)

last-here : (found at : ℕ) (w : List Act) (name : Named) → last_block found at (w ++ block name ∷ []) ≡ at + length w
last-here found at [] name = omega arith
last-here found at (block other ∷ w) name =
    last-here at (at + 1) w name ∙ (let e : at + 1 + length w ≡ at + suc (length w) = omega arith in e)
last-here found at (does s more ∷ w) name =
    last-here found (at + 1) w name ∙ (let e : at + 1 + length w ≡ at + suc (length w) = omega arith in e)

-- behind what is whole, and a step of which a part has come
at-rest : (job whole xs : List Act) (part : Option Step) (a : Act) (n : ℕ)
    → job ≡ whole ++ (join part (a ∷ xs)).whole
    → (join part (a ∷ xs)).part ≡ None
    → AreWhole (join part (a ∷ xs)).whole
    → RowAct job n a xs
    → n ≡ 1 + place_behind (record { whole = whole; part = part }) a
at-rest job whole xs part (does s more) n e p w row =
    let long = ap length e ∙ length-append whole (join part (does s more ∷ xs)).whole in
    let rest = length-left part (does s more ∷ xs) p w ∙ does-left s more (is_some part) xs in
    omega (arith, long, rest, row)
at-rest job whole xs None (block name) n e p w row =
    let long = ap length e ∙ length-append whole (join None (block name ∷ xs)).whole in
    let rest = length-left None (block name ∷ xs) p w in
    let same = row.0 in
    let high : length job - left xs true ≡ length whole + 1 = omega (arith, long, rest, same) in
    row.1
    ∙ ap (λ k. 1 + last_block 0 0 (take k job)) high
    ∙ ap (λ l. 1 + last_block 0 0 (take (length whole + 1) l)) e
    ∙ ap (λ l. 1 + last_block 0 0 l) (take-more whole (join None xs).whole (block name))
    ∙ ap (λ k. 1 + k) (last-here 0 0 whole name)
    ∙ (let z : 1 + (0 + length whole) ≡ 1 + length whole = omega arith in z)
at-rest job whole xs (Some q) (block name) n e p w row =
    let long = ap length e ∙ length-append whole (join (Some q) xs).whole in
    let rest = length-left (Some q) xs p w in
    let high : length job - left xs true ≡ length whole = omega (arith, long, rest) in
    row.1
    ∙ ap (λ k. 1 + last_block 0 0 (take k job)) high
    ∙ ap (λ l. 1 + last_block 0 0 (take (length whole) l)) e
    ∙ ap (λ l. 1 + last_block 0 0 l) (take-all whole (join (Some q) xs).whole)

-- an act that has a number of the job is executed at that place
pub at-row : (job before xs : List Act) (a : Act) (n : ℕ) → Whole job (before ++ a ∷ xs) → AreWhole job
    → RowAct job n a xs
    → n ≡ 1 + place_behind (join None before) a
at-row job before xs a n e w row =
    let j = join None before in
    let all = sym (join-append None before (a ∷ xs)) ∙ e in
    let whole : job ≡ j.whole ++ (join j.part (a ∷ xs)).whole = sym (ap (λ (z : Joined). z.whole) all) in
    at-rest job j.whole xs j.part a n whole (ap (λ (z : Joined). z.part) all)
    (whole-behind j.whole (join j.part (a ∷ xs)).whole (subst AreWhole whole w)) row

-- behind what is whole, the next step of a container is no earlier
low-rest : (job whole xs : List Act) (part : Option Step) (name : Named)
    → job ≡ whole ++ (join part (block name ∷ xs)).whole
    → (join part (block name ∷ xs)).part ≡ None
    → AreWhole (join part (block name ∷ xs)).whole
    → left xs true ≡ left xs false
    → length whole ≤ length job - left xs true
low-rest job whole xs None name e p w same =
    let long = ap length e ∙ length-append whole (join None (block name ∷ xs)).whole in
    let rest = length-left None (block name ∷ xs) p w in
    omega (arith, long, rest, same)
low-rest job whole xs (Some q) name e p w same =
    let long = ap length e ∙ length-append whole (join (Some q) xs).whole in
    let rest = length-left (Some q) xs p w in
    omega (arith, long, rest)

pub low-row : (job before xs : List Act) (name : Named) → Whole job (before ++ block name ∷ xs) → AreWhole job
    → left xs true ≡ left xs false
    → length (join None before).whole ≤ length job - left xs true
low-row job before xs name e w same =
    let j = join None before in
    let all = sym (join-append None before (block name ∷ xs)) ∙ e in
    let whole : job ≡ j.whole ++ (join j.part (block name ∷ xs)).whole = sym (ap (λ (z : Joined). z.whole) all) in
    low-rest job j.whole xs j.part name whole (ap (λ (z : Joined). z.part) all)
    (whole-behind j.whole (join j.part (block name ∷ xs)).whole (subst AreWhole whole w)) same

-- where no step has come in part, as many are whole as the others leave
pub closed-row : (job before xs : List Act) → Whole job (before ++ xs) → AreWhole job
    → (join None before).part ≡ None
    → length (join None before).whole + left xs false ≡ length job
closed-row job before xs e w closed =
    let j = join None before in
    let all = sym (join-append None before xs) ∙ e in
    let whole : job ≡ j.whole ++ (join j.part xs).whole = sym (ap (λ (z : Joined). z.whole) all) in
    let rest =
    length-left j.part xs (ap (λ (z : Joined). z.part) all)
    (whole-behind j.whole (join j.part xs).whole (subst AreWhole whole w)) in
    let same : left xs (is_some j.part) ≡ left xs false = ap (λ o. left xs (is_some o)) closed in
    let long = ap length whole ∙ length-append j.whole (join j.part xs).whole in
    omega (arith, rest, same, long)

-- ---- as many behind it

-- as many of both will be whole
abbrev pub SameLeft : List Act → List Act → Type 0
SameLeft xs ys = (midway : Bool) → left xs midway ≡ left ys midway

pub left-front : (front xs ys : List Act) → SameLeft xs ys → SameLeft (front ++ xs) (front ++ ys)
left-front [] xs ys h midway = h midway
left-front (block name ∷ front) xs ys h false = ap suc (left-front front xs ys h false)
left-front (block name ∷ front) xs ys h true = left-front front xs ys h true
left-front (does s true ∷ front) xs ys h midway = left-front front xs ys h true
left-front (does s false ∷ front) xs ys h midway = ap suc (left-front front xs ys h false)

pub row-same : (job xs ys : List Act) (a : Act) (n : ℕ) → SameLeft xs ys → RowAct job n a xs → RowAct job n a ys
row-same job xs ys (block name) n h row = (
  sym (h true) ∙ row.0 ∙ h false,
  row.1 ∙ ap (λ k. 1 + last_block 0 0 (take (length job - k) job)) (h true),
)
row-same job xs ys (does s true) n h row = ap (λ k. n + k) (sym (h true)) ∙ row
row-same job xs ys (does s false) n h row = ap (λ k. n + suc k) (sym (h false)) ∙ row

pub past-left : (again xs : List Act) → AllBlocks again → left (again ++ xs) true ≡ left xs true
past-left [] xs h = refl
past-left (block name ∷ again) xs h = past-left again xs h
past-left (does s more ∷ again) xs h = absurd h

-- a step cut in two, with containers again between the parts
pub cut-left : (front again rest : List Act) (s one two : Step) → AllBlocks again
    → SameLeft (front ++ does s false ∷ rest) (front ++ does one true ∷ (again ++ does two false ∷ rest))
cut-left front again rest s one two h =
    left-front front (does s false ∷ rest) (does one true ∷ (again ++ does two false ∷ rest))
    (λ midway. sym (past-left again (does two false ∷ rest) h))

-- ---- several in a row

-- each of these acts has its number
abbrev pub AreRows : List Act → List Act → List ℕ → List Act → Type 0
AreRows job [] [] rest = Unit {0}
AreRows job [] (n ∷ ns) rest = ⊥
AreRows job (a ∷ xs) [] rest = ⊥
AreRows job (a ∷ xs) (n ∷ ns) rest = RowAct job n a (xs ++ rest) × AreRows job xs ns rest

pub rows-same : (job xs : List Act) (ns : List ℕ) (rest more : List Act) → SameLeft rest more
    → AreRows job xs ns rest
    → AreRows job xs ns more
rows-same job [] [] rest more h k = tt
rows-same job [] (n ∷ ns) rest more h k = absurd k
rows-same job (a ∷ xs) [] rest more h k = absurd k
rows-same job (a ∷ xs) (n ∷ ns) rest more h k = (
  row-same job (xs ++ rest) (xs ++ more) a n (left-front xs rest more h) k.0,
  rows-same job xs ns rest more h k.1,
)

pub put-behind : (front rest : List Act) (a : Act) → (front ++ a ∷ []) ++ rest ≡ front ++ a ∷ rest
put-behind [] rest a = refl
put-behind (x ∷ front) rest a = ap (λ l. x ∷ l) (put-behind front rest a)

-- a part of an entry has the numbers that the whole has
pub rows-cut : (job front again rest : List Act) (s one two : Step) (ns : List ℕ) → AllBlocks again
    → AreRows job (front ++ does s false ∷ []) ns rest
    → AreRows job (front ++ does one true ∷ []) ns (again ++ does two false ∷ rest)
rows-cut job [] again rest s one two [] h k = absurd k
rows-cut job [] again rest s one two (n ∷ []) h k =
    (ap (λ i. n + i) (past-left again (does two false ∷ rest) h) ∙ k.0, tt)
rows-cut job [] again rest s one two (n ∷ m ∷ ns) h k = absurd k.1
rows-cut job (a ∷ front) again rest s one two [] h k = absurd k
rows-cut job (a ∷ front) again rest s one two (n ∷ ns) h k =
    let others = again ++ does two false ∷ rest in (
      row-same job ((front ++ does s false ∷ []) ++ rest) ((front ++ does one true ∷ []) ++ others) a n
          (λ midway.
          ap (λ l. left l midway) (put-behind front rest (does s false))
          ∙ cut-left front again rest s one two h midway
          ∙ ap (λ l. left l midway) (sym (put-behind front others (does one true))))
          k.0,
      rows-cut job front again rest s one two ns h k.1,
    )
