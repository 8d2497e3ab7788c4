-- Names of the form that are within the limits make a path.
use Rattle.std.proofs.Common.{ℕ, ◌≡◌, ◌≤◌, ◌+◌, List, [], ◌∷◌, ◌++◌, length, arith, refl, ap, sym, subst, ◌∙◌, Bool}
use Rattle.std.proofs.Common.{false, not, if◌then◌else◌, Ok, Err}
use Rattle.std.specs.Prelude.{true, ◌&&◌, nat_le, codes}
use Rattle.std.specs.List.{list_all, slice_split}
use Rattle.std.proofs.lemmas.Bool.{and_parts, and_from}
use Rattle.std.proofs.lemmas.List.Splits.{length-slice_split, join_with_byte-slice_split}
use Rattle.dm_uri.specs.Names.{has_name_form, is_short_name, is_name, is_within_limits, IsPath, joined, printed_path}
use Rattle.dm_uri.specs.Reading.{is_slash, is_root, without_front, names_in, read_path}
use Rattle.dm_uri.specs.declared.uri.UriError.TheVariants as error

at_most : (m n : ℕ) → nat_le m n ≡ true → m ≤ n
at_most m n e = grind arith

pub at_most_again : (m n : ℕ) → m ≤ n → nat_le m n ≡ true
at_most_again m n h = grind arith

pub record IsWithin (names : List (List ℕ)) : Type 0 where
  pub short : list_all is_short_name names ≡ true
  pub few : length names ≤ 16
  pub written : length (printed_path names) ≤ 255

pub within : (names : List (List ℕ)) → is_within_limits names ≡ true → IsWithin names
within names h =
    let last =
    and_parts (list_all is_short_name names && nat_le (length names) 16) (nat_le (length (printed_path names)) 255) h in
    let first = and_parts (list_all is_short_name names) (nat_le (length names) 16) last.0 in
    record { short = first.0; few = at_most _ _ first.1; written = at_most _ _ last.1 }

pub all_names : (names : List (List ℕ)) → list_all has_name_form names ≡ true → list_all is_short_name names ≡ true
    → list_all is_name names ≡ true
all_names [] f s = refl
all_names (n ∷ ns) f s =
    let form = and_parts (has_name_form n) (list_all has_name_form ns) f in
    let short = and_parts (is_short_name n) (list_all is_short_name ns) s in
    and_from (is_name n) (list_all is_name ns) (and_from (has_name_form n) (is_short_name n) form.0 short.0)
    (all_names ns form.1 short.1)

pub all_forms : (names : List (List ℕ)) → list_all is_name names ≡ true → (list_all has_name_form names ≡ true)
    × (list_all is_short_name names ≡ true)
all_forms [] h = (refl, refl)
all_forms (n ∷ ns) h =
    let both = and_parts (is_name n) (list_all is_name ns) h in
    let first = and_parts (has_name_form n) (is_short_name n) both.0 in
    let rest = all_forms ns both.1 in (
      and_from (has_name_form n) (list_all has_name_form ns) first.0 rest.0,
      and_from (is_short_name n) (list_all is_short_name ns) first.1 rest.1,
    )

pub path_of_limits : (names : List (List ℕ)) → list_all has_name_form names ≡ true → is_within_limits names ≡ true
    → IsPath names
path_of_limits names f h =
    let limits = within names h in
    record { few = limits.few; names = all_names names f limits.short }

pub limits_of_path : (names : List (List ℕ)) → IsPath names → length (printed_path names) ≤ 255
    → is_within_limits names ≡ true
limits_of_path names path h =
    and_from (list_all is_short_name names && nat_le (length names) 16) (nat_le (length (printed_path names)) 255)
    (and_from (list_all is_short_name names) (nat_le (length names) 16) (all_forms names path.names).1
    (at_most_again _ _ path.few))
    (at_most_again _ _ h)

-- ---- the written form of what stands between slashes

printed_some : (names : List (List ℕ)) (text : List ℕ) → 1 ≤ length names → joined names ≡ text
    → printed_path names ≡ codes "./" ++ text
printed_some [] text h e = absurd (omega (arith, h))
printed_some (n ∷ ns) text h e = ap (λ t. codes "./" ++ t) e

pub some_parts : (text : List ℕ) → 1 ≤ length (slice_split is_slash text)
some_parts text = omega (arith, length-slice_split is_slash text)

pub printed-split : (text : List ℕ) → printed_path (slice_split is_slash text) ≡ codes "./" ++ text
printed-split text =
    printed_some (slice_split is_slash text) text (some_parts text) (join_with_byte-slice_split 0x2F text)

pub length_printed_split : (text : List ℕ) → length (printed_path (slice_split is_slash text)) ≡ length text + 2
length_printed_split text = rw (printed-split text) (omega arith)

-- ---- the names of a path that is read

judged : (form within : Bool) (names : List (List ℕ))
    → (if not form then Err error.Malformed else if not within then Err error.TooLong else Ok names) ≡ Ok names
    → (form ≡ true) × (within ≡ true)
judged true true names h = (refl, refl)
judged true false names h = cc
judged false within names h = cc

pub path_of_read : (names : List (List ℕ)) → read_path names ≡ Ok names → IsPath names
path_of_read names h =
    let both = judged (list_all has_name_form names) (is_within_limits names) names h in
    path_of_limits names both.0 both.1

-- what stands between the slashes of a path part that isn't the root's
pub names_here : (part text : List ℕ) → is_root part ≡ false → text ≡ without_front part
    → names_in part ≡ slice_split is_slash text
names_here part text other is =
    ap (λ b. if b then [] else slice_split is_slash (without_front part)) other ∙ ap (slice_split is_slash) (sym is)

pub path_here : (part text : List ℕ) → is_root part ≡ false → text ≡ without_front part
    → read_path (names_in part) ≡ Ok (names_in part)
    → IsPath (slice_split is_slash text)
path_here part text other is read = subst IsPath (names_here part text other is) (path_of_read (names_in part) read)
