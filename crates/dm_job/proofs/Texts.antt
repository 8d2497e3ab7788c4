-- A text and its lines.
use Rattle.std.proofs.Common.{◌≡◌, ◌==◌, ℕ, Bool, true, false, not, List, [], ◌∷◌, ◌++◌, length, cond}
use Rattle.std.proofs.Common.{refl, sym, ap, ◌∙◌, append_assoc, append-nil, flat_map, ltb-false}
use Rattle.std.specs.List.{AllByRecursion, list_all, onto_first, join_with_byte}
use Rattle.std.proofs.lemmas.Bool.{and_parts, and_from}
use Rattle.std.proofs.lemmas.List.Folds.{list_all-append}
use Rattle.std.proofs.lemmas.List.Splits.{join_with_byte-slice_split}
use Rattle.dm_job.specs.Grammar.{IsLine, with_feed}
use Rattle.dm_job.specs.Texts.{segments, is_long}

joined : (lines : List (List ℕ)) → join_with_byte 10 (lines ++ [] ∷ []) ≡ flat_map with_feed lines
joined [] = refl
joined (l ∷ []) = sym (append-nil (l ++ 10 ∷ []))
joined (l ∷ m ∷ ms) =
    ap (λ rest. l ++ 10 ∷ rest) (joined (m ∷ ms)) ∙ sym (append_assoc l (10 ∷ []) (flat_map with_feed (m ∷ ms)))

-- lines that nothing stands behind are the text
pub text_is : (text : List ℕ) (lines : List (List ℕ)) → segments text ≡ lines ++ [] ∷ [] → text ≡ flat_map with_feed lines
text_is text lines h = sym (join_with_byte-slice_split 10 text) ∙ ap (join_with_byte 10) h ∙ joined lines

abbrev is_feedless : List ℕ → Bool
is_feedless line = list_all (λ b. not (b == 10)) line

all_feedless : (text : List ℕ) → list_all is_feedless (segments text) ≡ true
all_feedless [] = refl
all_feedless (b ∷ bs) = by_feed (b == 10) refl (segments bs) (all_feedless bs)
  where
    by_feed : (c : Bool) → (b == 10) ≡ c → (s : List (List ℕ)) → list_all is_feedless s ≡ true
        → list_all is_feedless (cond c ([] ∷ s) (onto_first b s)) ≡ true
    by_feed true is s h = h
    by_feed false is [] h = and_from _ true (and_from _ true (ap not is) refl) refl
    by_feed false is (x ∷ xs) h =
        let both = and_parts (is_feedless x) (list_all is_feedless xs) h in
        and_from _ _ (and_from _ _ (ap not is) both.0) both.1

not_long : (b : Bool) → not b ≡ true → b ≡ false
not_long true h = absurd (cc)
not_long false h = refl

lines_right : (lines : List (List ℕ)) → list_all (λ l. not (is_long l)) lines ≡ true → list_all is_feedless lines ≡ true
    → AllByRecursion IsLine lines
lines_right [] short feedless = tt
lines_right (l ∷ ls) short feedless =
    let s = and_parts (not (is_long l)) (list_all (λ l. not (is_long l)) ls) short in
    let f = and_parts (is_feedless l) (list_all is_feedless ls) feedless in (
      record { short = ltb-false 8400000 (length l) (not_long (is_long l) s.0); feedless = f.0 },
      lines_right ls s.1 f.1,
    )

pub are_lines : (text : List ℕ) (lines : List (List ℕ)) → segments text ≡ lines ++ [] ∷ []
    → list_all (λ l. not (is_long l)) lines ≡ true → AllByRecursion IsLine lines
are_lines text lines h short =
    let all = sym (ap (list_all is_feedless) h) ∙ all_feedless text in
    let both = and_parts (list_all is_feedless lines) (list_all is_feedless ([] ∷ []))
    (sym (list_all-append is_feedless lines ([] ∷ [])) ∙ all) in
    lines_right lines short both.0
