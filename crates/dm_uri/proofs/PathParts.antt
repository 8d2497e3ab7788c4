-- Path parts: what stands between the slashes of one is the names that it spells, and no other names are.
use Rattle.std.proofs.Common.{ℕ, ◌≡◌, ◌≤◌, ◌<◌, List, [], ◌∷◌, ◌++◌, length, drop, get_or, arith, rules, refl, sym, ap}
use Rattle.std.proofs.Common.{◌∙◌, inl, inr}
use Rattle.std.specs.Prelude.{Bool, true, false, not, ◌||◌, nat_eq, if◌then◌else◌, bytes_eq, codes, ◌⊎◌}
use Rattle.std.specs.List.{list_all, slice_split, starts_with, AllPass}
use Rattle.std.proofs.lemmas.Bool.{and_parts, and_from}
use Rattle.std.proofs.lemmas.Slice.Eq.{bytes_eq-Decides}
use Rattle.std.proofs.lemmas.List.Sums.{AllPass-from_list_all}
use Rattle.std.proofs.lemmas.List.Splits.{join_with_byte-slice_split, slice_split_none, slice_split_at}
use Rattle.std.proofs.lemmas.Grind.{common_steps}
use Rattle.dm_uri.specs.Names.{is_name_byte, has_name_form, IsPathPart, SpellsPath, joined}
use Rattle.dm_uri.specs.Reading.{is_slash, is_root, without_front, names_in}
use Rattle.dm_uri.proofs.Limits.{some_parts}

pub same_bytes : (xs ys : List ℕ) → bytes_eq xs ys ≡ true → xs ≡ ys
same_bytes xs ys e = search (rules, bytes_eq-Decides)

pub equal_bytes : (xs ys : List ℕ) → xs ≡ ys → bytes_eq xs ys ≡ true
equal_bytes xs ys e = search (rules, bytes_eq-Decides)

-- ---- a path part is spelled by what stands between its slashes

spells_some : (names : List (List ℕ)) (part text : List ℕ) → 1 ≤ length names → joined names ≡ text
    → (part ≡ text) ⊎ (part ≡ codes "./" ++ text) → SpellsPath names part
spells_some [] part text h e either = absurd (omega (arith, h))
spells_some (n ∷ ns) part text h e (inl is) = inl (is ∙ sym e)
spells_some (n ∷ ns) part text h e (inr is) = inr (is ∙ ap (λ t. codes "./" ++ t) (sym e))

front_or_none : (part : List ℕ) (b : Bool) → starts_with nat_eq part (codes "./") ≡ b
    → (part ≡ (if b then drop 2 part else part)) ⊎ (part ≡ codes "./" ++ (if b then drop 2 part else part))
front_or_none part false e = inl refl
front_or_none [] true e = cc
front_or_none (x ∷ []) true e = grind (arith, common_steps)
front_or_none (x ∷ y ∷ rest) true e = inr (grind (arith, common_steps))

pub by_front : (part : List ℕ) → (part ≡ without_front part) ⊎ (part ≡ codes "./" ++ without_front part)
by_front part = front_or_none part (starts_with nat_eq part (codes "./")) refl

spells_root : (part : List ℕ) (b c : Bool) → bytes_eq part (codes ".") ≡ b → bytes_eq part (codes "./") ≡ c
    → (b || c) ≡ true → SpellsPath [] part
spells_root part true c e f h = inl (same_bytes part (codes ".") e)
spells_root part false true e f h = inr (same_bytes part (codes "./") f)
spells_root part false false e f h = cc

spells_by : (part : List ℕ) (b : Bool) → is_root part ≡ b
    → SpellsPath (if b then [] else slice_split is_slash (without_front part)) part
spells_by part true e = spells_root part (bytes_eq part (codes ".")) (bytes_eq part (codes "./")) refl refl e
spells_by part false e =
    spells_some (slice_split is_slash (without_front part)) part (without_front part) (some_parts (without_front part))
    (join_with_byte-slice_split 0x2F (without_front part)) (by_front part)

pub spelled : (part : List ℕ) → SpellsPath (names_in part) part
spelled part = spells_by part (is_root part) refl

-- ---- names of the form are those that stand between the slashes

no_slash_byte : (b : ℕ) → is_name_byte b ≡ true → is_slash b ≡ false
no_slash_byte b h = grind arith

no_slash_in : (name : List ℕ) → list_all is_name_byte name ≡ true → list_all (λ b. not (is_slash b)) name ≡ true
no_slash_in [] h = refl
no_slash_in (b ∷ bs) h =
    let both = and_parts (is_name_byte b) (list_all is_name_byte bs) h in
    and_from (not (is_slash b)) (list_all (λ b. not (is_slash b)) bs) (rw (no_slash_byte b both.0) refl)
    (no_slash_in bs both.1)

record IsForm (name : List ℕ) : Type 0 where
  some : 0 < length name
  bytes : list_all is_name_byte name ≡ true
  not_dot : bytes_eq name (codes ".") ≡ false
  not_dots : bytes_eq name (codes "..") ≡ false

form : (name : List ℕ) → has_name_form name ≡ true → IsForm name
form name h = grind (arith, common_steps)

apart : (name : List ℕ) → list_all is_name_byte name ≡ true → AllPass (λ b. not (is_slash b)) name
apart name h = AllPass-from_list_all (λ b. not (is_slash b)) name (no_slash_in name h)

without_slash : (name : List ℕ) → list_all is_name_byte name ≡ true → (k : ℕ) (d : ℕ) → k < length name
    → is_slash (get_or name k d) ≡ false
without_slash name h k d inside = grind (arith, common_steps, apart name h k d inside)

pub split-joined : (n : List ℕ) (ns : List (List ℕ)) → list_all has_name_form (n ∷ ns) ≡ true
    → slice_split is_slash (joined (n ∷ ns)) ≡ n ∷ ns
split-joined n [] h =
    let first = form n (and_parts (has_name_form n) true h).0 in
    slice_split_none is_slash n (without_slash n first.bytes)
split-joined n (m ∷ ms) h =
    let both = and_parts (has_name_form n) (list_all has_name_form (m ∷ ms)) h in
    slice_split_at is_slash n 0x2F (joined (m ∷ ms)) (without_slash n (form n both.0).bytes) refl
    ∙ ap (λ rest. n ∷ rest) (split-joined m ms both.1)

not_dot_first : (b : ℕ) (rest : List ℕ) → nat_eq b 0x2E ≡ false
    → (is_root (b ∷ rest) ≡ false) × (starts_with nat_eq (b ∷ rest) (codes "./") ≡ false)
not_dot_first b rest h = (grind (arith, common_steps), grind (arith, common_steps))

not_slash_next : (b c : ℕ) (rest : List ℕ) → nat_eq c 0x2F ≡ false
    → (is_root (b ∷ c ∷ rest) ≡ false) × (starts_with nat_eq (b ∷ c ∷ rest) (codes "./") ≡ false)
not_slash_next b c rest h = (grind (arith, common_steps), grind (arith, common_steps))

lone_byte : (b : ℕ) → has_name_form (b ∷ []) ≡ true → nat_eq b 0x2E ≡ false
lone_byte b h = grind (arith, common_steps)

next_byte : (b c : ℕ) (bs : List ℕ) → has_name_form (b ∷ c ∷ bs) ≡ true → nat_eq c 0x2F ≡ false
next_byte b c bs h = grind (arith, common_steps)

-- names that are joined are no root, and have no `./` in front
plain_joined : (n : List ℕ) (ns : List (List ℕ)) → has_name_form n ≡ true
    → (is_root (joined (n ∷ ns)) ≡ false) × (starts_with nat_eq (joined (n ∷ ns)) (codes "./") ≡ false)
plain_joined [] ns h = cc
plain_joined (b ∷ []) [] h = not_dot_first b [] (lone_byte b h)
plain_joined (b ∷ []) (m ∷ ms) h = not_dot_first b (0x2F ∷ joined (m ∷ ms)) (lone_byte b h)
plain_joined (b ∷ c ∷ bs) [] h = not_slash_next b c bs (next_byte b c bs h)
plain_joined (b ∷ c ∷ bs) (m ∷ ms) h = not_slash_next b c (bs ++ 0x2F ∷ joined (m ∷ ms)) (next_byte b c bs h)

front_joined : (n : List ℕ) (ns : List (List ℕ)) → has_name_form n ≡ true
    → is_root (codes "./" ++ joined (n ∷ ns)) ≡ false
front_joined [] ns h = cc
front_joined (b ∷ bs) [] h = refl
front_joined (b ∷ bs) (m ∷ ms) h = refl

pub only_names : (names : List (List ℕ)) (part : List ℕ) → IsPathPart names part → names_in part ≡ names
only_names [] part (h, inl e) = rw e refl
only_names [] part (h, inr e) = rw e refl
only_names (n ∷ ns) part (h, inl e) =
    let plain = plain_joined n ns (and_parts (has_name_form n) (list_all has_name_form ns) h).0 in
    ap names_in e ∙ rw (plain.0, plain.1) (split-joined n ns h)
only_names (n ∷ ns) part (h, inr e) =
    ap names_in e ∙ rw (front_joined n ns (and_parts (has_name_form n) (list_all has_name_form ns) h).0)
    (split-joined n ns h)
