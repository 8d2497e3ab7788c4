-- Acts of lists, and parts joined: a step cut in two is joined to what it was.
use Rattle.std.proofs.Common.{◌≡◌, ℕ, Bool, true, false, cond, List, [], ◌∷◌, ◌++◌, Option, None, Some, refl, sym, ◌∙◌}
use Rattle.std.proofs.Common.{ap}
use Rattle.std.proofs.Common.{take, drop, append_assoc, take-append-drop}
use Rattle.std.specs.Prelude.{nat_eq, bytes_eq}
use Rattle.syncml_types.specs.declared.command.Step.{Step}
use Rattle.syncml_types.specs.declared.command.Command.{Command}
use Rattle.dm_uri.proofs.PathParts.{equal_bytes}
use Rattle.dm_objects.specs.declared.object.Key.{Key}
use Rattle.dm_objects.specs.Gathering.{is_same_key, is_same_text, is_same_place, verb_number}
use Rattle.dm_world.specs.Acts.{Act, block, does, Joined, and_then, with_more, is_part_of, join, acts, command_acts}
use Rattle.dm_world.proofs.Numbers.{eq-self}

bytes-same : (a : List ℕ) → bytes_eq a a ≡ true
bytes-same a = equal_bytes a a refl

pub acts-append : (a b : List Command) → acts (a ++ b) ≡ acts a ++ acts b
acts-append [] b = refl
acts-append (c ∷ cs) b = ap (λ x. command_acts c ++ x) (acts-append cs b)
    ∙ sym (append_assoc (command_acts c) (acts cs) (acts b))

-- ---- keys

same-text : (a : Option (List ℕ)) → is_same_text a a ≡ true
same-text None = refl
same-text (Some t) = bytes-same t

same-place : (a : Bool) → is_same_place a a ≡ true
same-place true = refl
same-place false = refl

pub same-key : (k : Key) → is_same_key k k ≡ true
same-key k =
    let e : nat_eq (verb_number k.verb) (verb_number k.verb) ≡ true = eq-self (verb_number k.verb) in
    rw (e, same-text k.target, same-place k.in_atomic) refl

-- ---- joining goes on from where it is

abbrev pub before : List Act → Joined → Joined
before acs j = record { whole = acs ++ j.whole; part = j.part }

join-does : (p s : Step) (more : Bool) (rest : Joined) (acs xs : List Act)
    → ((o : Option Step) → join o (acs ++ xs) ≡ before (join o acs).whole (join (join o acs).part xs))
    → join (Some p) (does s more ∷ (acs ++ xs)) ≡ before (join (Some p) (does s more ∷ acs)).whole
    (join (join (Some p) (does s more ∷ acs)).part xs)
join-does p s true rest acs xs h = by-key (is_part_of p s)
  where
    by-key : (c : Bool) → cond c (join (Some (with_more p s)) (acs ++ xs))
        (and_then (does p true) (join (Some s) (acs ++ xs)))
        ≡ before (cond c (join (Some (with_more p s)) acs) (and_then (does p true) (join (Some s) acs))).whole
        (join (cond c (join (Some (with_more p s)) acs) (and_then (does p true) (join (Some s) acs))).part xs)
    by-key true = h (Some (with_more p s))
    by-key false = ap (and_then (does p true)) (h (Some s))
join-does p s false rest acs xs h = by-key (is_part_of p s)
  where
    by-key : (c : Bool) → cond c (and_then (does (with_more p s) false) (join None (acs ++ xs)))
        (and_then (does p true) (and_then (does s false) (join None (acs ++ xs))))
        ≡ before (cond c (and_then (does (with_more p s) false) (join None acs))
        (and_then (does p true) (and_then (does s false) (join None acs)))).whole
        (join (cond c (and_then (does (with_more p s) false) (join None acs))
        (and_then (does p true) (and_then (does s false) (join None acs)))).part xs)
    by-key true = ap (and_then (does (with_more p s) false)) (h None)
    by-key false = ap (λ j. and_then (does p true) (and_then (does s false) j)) (h None)

pub join-append : (o : Option Step) (acs xs : List Act)
    → join o (acs ++ xs) ≡ before (join o acs).whole (join (join o acs).part xs)
join-append o [] xs = refl
join-append None (block name ∷ acs) xs = ap (and_then (block name)) (join-append None acs xs)
join-append None (does s true ∷ acs) xs = join-append (Some s) acs xs
join-append None (does s false ∷ acs) xs = ap (and_then (does s false)) (join-append None acs xs)
join-append (Some p) (block name ∷ acs) xs = join-append (Some p) acs xs
join-append (Some p) (does s more ∷ acs) xs = join-does p s more (join None []) acs xs (λ o. join-append o acs xs)

pub with-front : (o : Option Step) (front a b : List Act) → ((p : Option Step) → join p a ≡ join p b)
    → join o (front ++ a) ≡ join o (front ++ b)
with-front o front a b h = join-append o front a ∙ ap (before (join o front).whole) (h (join o front).part)
    ∙ sym (join-append o front b)

-- ---- a step cut in two

abbrev pub AllBlocks : List Act → Type 0
AllBlocks [] = Unit {0}
AllBlocks (block name ∷ acs) = AllBlocks acs
AllBlocks (does s more ∷ acs) = ⊥

-- the acts of an entry, of its part and of the rest
pub record Splits (n : ℕ) (all part rest : List Act) : Type 0 where
  pub front : List Act
  pub again : List Act
  pub step : Step
  pub more : Bool
  pub all_is : all ≡ front ++ does step more ∷ []
  pub part_is : part ≡ front ++ does (record step { value = take n step.value }) true ∷ []
  pub rest_is : rest ≡ again ++ does (record step { value = drop n step.value }) more ∷ []
  pub blocks : AllBlocks again

pub past-blocks : (p : Step) (again xs : List Act) → AllBlocks again → join (Some p) (again ++ xs) ≡ join (Some p) xs
past-blocks p [] xs h = refl
past-blocks p (block name ∷ acs) xs h = past-blocks p acs xs h
past-blocks p (does s more ∷ acs) xs h = absurd h

value-whole : (s : Step) (n : ℕ) → record s { value = take n s.value ++ drop n s.value } ≡ s
value-whole s n = ap (λ v. record s { value = v }) (take-append-drop n s.value)

-- a first part, then the rest
two-parts : (s : Step) (n : ℕ) (more : Bool) (xs : List Act)
    → join (Some (record s { value = take n s.value })) (does (record s { value = drop n s.value }) more ∷ xs) ≡
    join None (does s more ∷ xs)
two-parts s n true xs = rw same-key (ap (λ t. join (Some t) xs) (value-whole s n))
two-parts s n false xs = rw same-key (ap (λ t. and_then (does t false) (join None xs)) (value-whole s n))

-- a later part in two
more-whole : (p s : Step) (n : ℕ)
    → with_more (with_more p (record s { value = take n s.value })) (record s { value = drop n s.value }) ≡ with_more p
    s
more-whole p s n = ap (λ v. record p { value = v }) (append_assoc p.value (take n s.value) (drop n s.value)
    ∙ ap (λ v. p.value ++ v) (take-append-drop n s.value))

later-parts : (p s : Step) (n : ℕ) (more : Bool) (again xs : List Act) → AllBlocks again
    → join (Some p) (does (record s { value = take n s.value }) true ∷
    (again ++ does (record s { value = drop n s.value }) more ∷ xs)) ≡ join (Some p) (does s more ∷ xs)
later-parts p s n more again xs h = by-key more (is_part_of p s) refl
  where
    by-key : (more : Bool) (c : Bool) → is_part_of p s ≡ c
        → cond c (join (Some (with_more p (record s { value = take n s.value })))
        (again ++ does (record s { value = drop n s.value }) more ∷ xs))
        (and_then (does p true) (join (Some (record s { value = take n s.value }))
        (again ++ does (record s { value = drop n s.value }) more ∷ xs)))
        ≡ join (Some p) (does s more ∷ xs)
    by-key true true e = past-blocks _ again _ h ∙ rw e (ap (λ t. join (Some t) xs) (more-whole p s n))
    by-key false true e = past-blocks _ again _ h
        ∙ rw e (ap (λ t. and_then (does t false) (join None xs)) (more-whole p s n))
    by-key true false e = rw e (ap (and_then (does p true)) (past-blocks _ again _ h ∙ two-parts s n true xs))
    by-key false false e = rw e (ap (and_then (does p true)) (past-blocks _ again _ h ∙ two-parts s n false xs))

parts-joined : (o : Option Step) (s : Step) (n : ℕ) (more : Bool) (again xs : List Act) → AllBlocks again
    → join o (does (record s { value = take n s.value }) true ∷ (again ++ does (record s { value = drop n s.value })
    more ∷ xs)) ≡ join o (does s more ∷ xs)
parts-joined None s n more again xs h = past-blocks (record s { value = take n s.value }) again _ h
    ∙ two-parts s n more xs
parts-joined (Some p) s n more again xs h = later-parts p s n more again xs h

-- cutting an entry changes nothing of what is joined
pub split-joined : (o : Option Step) (n : ℕ) (all part rest xs : List Act) → Splits n all part rest
    → join o (part ++ (rest ++ xs)) ≡ join o (all ++ xs)
split-joined o n all part rest xs h =
    let s = h.step in
    let one = does (record s { value = take n s.value }) true in
    let two = does (record s { value = drop n s.value }) h.more in
    let start : join o (h.front ++ one ∷ (h.again ++ two ∷ xs)) ≡ join o (h.front ++ does s h.more ∷ xs) =
    join-append o h.front (one ∷ (h.again ++ two ∷ xs))
    ∙ ap (before (join o h.front).whole) (parts-joined (join o h.front).part s n h.more h.again xs h.blocks)
    ∙ sym (join-append o h.front (does s h.more ∷ xs)) in
    ap (λ x. join o (x ++ (rest ++ xs))) h.part_is ∙ ap (λ x. join o ((h.front ++ one ∷ []) ++ (x ++ xs))) h.rest_is
    ∙ ap (join o) (append_assoc h.front (one ∷ []) ((h.again ++ two ∷ []) ++ xs)
    ∙ ap (λ x. h.front ++ one ∷ x) (append_assoc h.again (two ∷ []) xs))
    ∙ start
    ∙ ap (join o) (sym (append_assoc h.front (does s h.more ∷ []) xs)) ∙ ap (λ x. join o (x ++ xs)) (sym h.all_is)
