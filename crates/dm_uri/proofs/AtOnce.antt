-- What one pass finds: names with a `/` between each two, and what stands behind them.
use Rattle.std.proofs.Common.{ℕ, ◌≡◌, ◌≤◌, ◌<◌, ◌+◌, ◌-◌, List, [], ◌∷◌, ◌++◌, length, take, drop, get_or, Some, Ok}
use Rattle.std.proofs.Common.{arith, refl, sym, ap, subst, ◌∙◌, inl, inr, append-nil, length-append, length-take}
use Rattle.std.proofs.Math.Seq.{take-append_seam}
use Rattle.std.specs.Prelude.{true, false, not, codes, ◌⊎◌, slice_index}
use Rattle.std.specs.List.{list_all, flat_map, slice_split, position_or_len, AllPass}
use Rattle.std.proofs.lemmas.Bool.{and_from}
use Rattle.std.proofs.lemmas.List.{take-append-drop}
use Rattle.std.proofs.lemmas.List.Sums.{fails_before_first, list_all-from_AllPass}
use Rattle.std.proofs.lemmas.List.Folds.{list_all-append}
use Rattle.std.proofs.lemmas.Grind.{common_steps}
use Rattle.dm_uri.specs.declared.uri.Query.{Query}
use Rattle.dm_uri.specs.Names.{is_name_byte, is_name, IsPath, joined}
use Rattle.dm_uri.specs.Grammar.{query_text, IsUriText}
use Rattle.dm_uri.specs.Reading.{is_slash, without_front, query_of, BeginsWithNames, IsReadAsUri}
use Rattle.dm_uri.proofs.Printing.{slashed, joined-slashed}
use Rattle.dm_uri.proofs.Limits.{all_forms, limits_of_path}
use Rattle.dm_uri.proofs.PathParts.{by_front, split-joined}
use Rattle.dm_uri.proofs.Cuts.{query_found}
use Rattle.dm_uri.proofs.BothWays.{uri_of, reads_grammar}

seam : (names : List (List ℕ)) (name behind : List ℕ)
    → flat_map slashed names ++ 0x2F ∷ (name ++ behind) ≡ flat_map slashed (names ++ name ∷ []) ++ behind
seam [] name behind = ap (λ t. 0x2F ∷ t ++ behind) (sym (append-nil name))
seam (n ∷ ns) name behind = grind (arith, common_steps, seam ns name behind)

-- one name more
pub one_more : (text rest : List ℕ) (count at : ℕ) → BeginsWithNames text count (0x2F ∷ rest)
    → is_name (take at rest) ≡ true
    → BeginsWithNames text (count + 1) (drop at rest)
one_more text rest count at b h = record {
  names = b.names ++ take at rest ∷ [];
  whole =
      b.whole ∙ ap (λ t. flat_map slashed b.names ++ 0x2F ∷ t) (sym (take-append-drop at rest))
      ∙ seam b.names (take at rest) (drop at rest);
  formed = list_all-append is_name b.names (take at rest ∷ []) ∙ and_from _ _ b.formed (and_from _ _ h refl);
  many = length-append b.names (take at rest ∷ []) ∙ ap (λ n. n + 1) b.many;
}

-- a text that begins with a slash
pub slash_first : (text : List ℕ) → 0 < length text → slice_index text 0 ≡ 0x2F
    → text ≡ 0x2F ∷ take (length text - 1) (drop 1 text)
slash_first [] some e = absurd (omega (arith, some))
slash_first (b ∷ bs) some e = grind (arith, common_steps, e)

all_name_bytes : (text : List ℕ) → AllPass is_name_byte (take (position_or_len (λ b. not (is_name_byte b)) text) text)
all_name_bytes text k d inside =
    let first : k < position_or_len (λ b. not (is_name_byte b)) text =
    omega (arith, inside, length-take (position_or_len (λ b. not (is_name_byte b)) text) text) in
    let passes : not (is_name_byte (get_or text k d)) ≡ false =
    fails_before_first (λ b. not (is_name_byte b)) text k d first in
    grind (arith, common_steps, first, passes)

-- the bytes in front of the first that is no name's
pub name_first : (text : List ℕ)
    → list_all is_name_byte (take (position_or_len (λ b. not (is_name_byte b)) text) text) ≡ true
name_first text = list_all-from_AllPass is_name_byte _ (all_name_bytes text)

-- ---- the whole text

cut : (text front behind : List ℕ) → text ≡ front ++ behind → take (length text - length behind) text ≡ front
cut text front behind e =
    let at : length text - length behind ≡ length front = omega (arith, ap length e, length-append front behind) in
    ap (λ n. take n text) at ∙ ap (take (length front)) e ∙ take-append_seam front behind

shorter : (text behind : List ℕ) (names : List (List ℕ)) → 0x2F ∷ text ≡ flat_map slashed names ++ behind
    → 1 ≤ length names
    → length behind ≤ length text
shorter text behind [] whole some = absurd (omega (arith, some))
shorter text behind (n ∷ ns) whole some =
    let rest : text ≡ (n ++ flat_map slashed ns) ++ behind = cc in
    omega (arith, ap length rest, length-append (n ++ flat_map slashed ns) behind)

pub not_longer : (text behind : List ℕ) (count : ℕ) → BeginsWithNames text count behind → 1 ≤ count
    → length behind ≤ length text
not_longer text behind count b some = shorter text behind b.names b.whole (omega (arith, b.many, some))

-- a text without a `./` in front, of some names and a query
record IsOf (text : List ℕ) (names : List (List ℕ)) (q : Query) : Type 0 where
  whole : text ≡ joined names ++ query_text q
  formed : list_all is_name names ≡ true
  few : length names ≤ 16
  short : length text ≤ 253

uri_text : (text rest n : List ℕ) (ns : List (List ℕ)) (q : Query) → IsOf rest (n ∷ ns) q
    → (text ≡ rest) ⊎ (text ≡ codes "./" ++ rest)
    → IsUriText text (uri_of (n ∷ ns) q)
uri_text text rest n ns q is either =
    let size : length rest ≡ length (joined (n ∷ ns)) + length (query_text q) =
    ap length is.whole ∙ length-append (joined (n ∷ ns)) (query_text q) in
    let forms = (all_forms (n ∷ ns) is.formed).0 in
    let within =
    limits_of_path (n ∷ ns) (record { few = is.few; names = is.formed }) (omega (arith, size, is.short)) in
    elim either [
      | inl e ↦ record {
        short = omega (arith, ap length e, is.short);
        part = joined (n ∷ ns);
        path = (forms, inl refl);
        within = within;
        whole = e ∙ is.whole;
      }
      | inr e ↦ record {
        short = omega (arith, ap length e, is.short);
        part = codes "./" ++ joined (n ∷ ns);
        path = (forms, inr refl);
        within = within;
        whole = e ∙ ap (λ t. codes "./" ++ t) is.whole;
      }
    ]

by_names : (text part n : List ℕ) (ns : List (List ℕ)) (q : Query) → IsOf (without_front text) (n ∷ ns) q
    → part ≡ joined (n ∷ ns)
    → IsReadAsUri text part q
by_names text part n ns q is e =
    let same : slice_split is_slash part ≡ n ∷ ns =
    ap (slice_split is_slash) e ∙ split-joined n ns (all_forms (n ∷ ns) is.formed).0 in record {
      path = subst IsPath (sym same) (record { few = is.few; names = is.formed });
      is =
          (reads_grammar text (uri_of (n ∷ ns) q)).1 (uri_text text (without_front text) n ns q is (by_front text))
          ∙ ap (λ names. Ok (uri_of names q)) (sym same);
    }

by_whole : (text rest behind : List ℕ) (names : List (List ℕ)) (q : Query) → rest ≡ without_front text
    → 0x2F ∷ rest ≡ flat_map slashed names ++ behind
    → list_all is_name names ≡ true → 1 ≤ length names → length names ≤ 16 → length rest ≤ 253
    → behind ≡ query_text q
    → IsReadAsUri text (take (length rest - length behind) rest) q
by_whole text rest behind [] q is whole formed some few short e = absurd (omega (arith, some))
by_whole text rest behind (n ∷ ns) q is whole formed some few short e =
    let all : 0x2F ∷ rest ≡ 0x2F ∷ joined (n ∷ ns) ++ behind =
    whole ∙ ap (λ t. t ++ behind) (sym (joined-slashed n ns)) in
    let cons : rest ≡ joined (n ∷ ns) ++ behind = cc in
    by_names text _ n ns q
    (subst (λ t. IsOf t (n ∷ ns) q) is (record {
      whole = cons ∙ ap (λ t. joined (n ∷ ns) ++ t) e;
      formed = formed;
      few = few;
      short = short;
    }))
    (cut rest (joined (n ∷ ns)) behind cons)

pub read_as : (text rest behind : List ℕ) (count : ℕ) (q : Query) → rest ≡ without_front text
    → BeginsWithNames rest count behind → 1 ≤ count → count ≤ 16 → length rest ≤ 253
    → query_of behind ≡ Some q
    → IsReadAsUri text (take (length rest - length behind) rest) q
read_as text rest behind count q is b some few short found =
    by_whole text rest behind b.names q is b.whole b.formed (omega (arith, b.many, some)) (omega (arith, b.many, few))
    short (query_found behind q found)
