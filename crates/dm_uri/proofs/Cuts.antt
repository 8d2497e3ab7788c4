-- A text is cut at its first `?`.
use Rattle.std.proofs.Common.{ℕ, ◌≡◌, List, [], ◌∷◌, ◌++◌, length, arith, refl, sym, ◌∙◌, inl, inr, Some, Option}
use Rattle.std.proofs.Math.Seq.{take-append_seam, drop-append_seam}
use Rattle.std.specs.Prelude.{Bool, true, false, not, bytes_eq, if◌then◌else◌}
use Rattle.std.specs.List.{list_all, find, position_or_len}
use Rattle.std.proofs.lemmas.Bool.{and_parts, and_from}
use Rattle.std.proofs.lemmas.List.{take-append-drop}
use Rattle.std.proofs.lemmas.List.Folds.{list_all-append}
use Rattle.std.proofs.lemmas.Grind.{common_steps}
use Rattle.dm_uri.specs.declared.uri.Prop.TheVariants as prop
use Rattle.dm_uri.specs.declared.uri.Query.{Query}
use Rattle.dm_uri.specs.declared.uri.Query.TheVariants as query
use Rattle.dm_uri.specs.Names.{is_name_byte, has_name_form, IsPathPart, joined}
use Rattle.dm_uri.specs.Grammar.{query_text}
use Rattle.dm_uri.specs.Refusals.{is_question, path_part, query_part}
use Rattle.dm_uri.specs.Reading.{queries, query_of}
use Rattle.dm_uri.proofs.PathParts.{same_bytes}

pub whole_text : (text : List ℕ) → path_part text ++ query_part text ≡ text
whole_text text = take-append-drop (position_or_len is_question text) text

-- ---- a path part has no `?`

abbrev is_other : ℕ → Bool
is_other b = not (is_question b)

no_question_byte : (b : ℕ) → is_name_byte b ≡ true → is_other b ≡ true
no_question_byte b h = grind arith

no_question_name : (bs : List ℕ) → list_all is_name_byte bs ≡ true → list_all is_other bs ≡ true
no_question_name [] h = refl
no_question_name (b ∷ bs) h =
    let both = and_parts (is_name_byte b) (list_all is_name_byte bs) h in
    and_from (is_other b) (list_all is_other bs) (no_question_byte b both.0) (no_question_name bs both.1)

name_bytes : (name : List ℕ) → has_name_form name ≡ true → list_all is_name_byte name ≡ true
name_bytes name h = grind (arith, common_steps)

no_question_joined : (names : List (List ℕ)) → list_all has_name_form names ≡ true
    → list_all is_other (joined names) ≡ true
no_question_joined [] h = refl
no_question_joined (n ∷ []) h = no_question_name n (name_bytes n (and_parts (has_name_form n) true h).0)
no_question_joined (n ∷ m ∷ ms) h =
    let both = and_parts (has_name_form n) (list_all has_name_form (m ∷ ms)) h in
    list_all-append is_other n (0x2F ∷ joined (m ∷ ms))
    ∙ and_from (list_all is_other n) (list_all is_other (joined (m ∷ ms))) (no_question_name n (name_bytes n both.0))
    (no_question_joined (m ∷ ms) both.1)

pub no_question : (names : List (List ℕ)) (part : List ℕ) → IsPathPart names part → list_all is_other part ≡ true
no_question [] part (h, inl e) = rw e refl
no_question [] part (h, inr e) = rw e refl
no_question (n ∷ ns) part (h, inl e) = rw e (no_question_joined (n ∷ ns) h)
no_question (n ∷ ns) part (h, inr e) = rw e (no_question_joined (n ∷ ns) h)

-- ---- the cut

place : (part rest : List ℕ) → list_all is_other part ≡ true → position_or_len is_question rest ≡ 0
    → position_or_len is_question (part ++ rest) ≡ length part
place [] rest h e = e
place (b ∷ bs) rest h e =
    let both = and_parts (is_other b) (list_all is_other bs) h in
    rw (both.0, place bs rest both.1 e) (omega arith)

begins_query : (q : Query) → position_or_len is_question (query_text q) ≡ 0
begins_query query.Plain = refl
begins_query (query.Prop prop.Acl) = refl
begins_query (query.Prop prop.Format) = refl
begins_query (query.Prop prop.Name) = refl
begins_query (query.Prop prop.Size) = refl
begins_query (query.Prop prop.Media) = refl
begins_query (query.Prop prop.Title) = refl
begins_query (query.Prop prop.VerNo) = refl
begins_query (query.Prop prop.TStamp) = refl
begins_query query.Struct = refl
begins_query query.StructData = refl

pub path_part-whole : (part : List ℕ) (q : Query) → list_all is_other part ≡ true
    → path_part (part ++ query_text q) ≡ part
path_part-whole part q h = rw (place part (query_text q) h (begins_query q)) (take-append_seam part (query_text q))

pub query_part-whole : (part : List ℕ) (q : Query) → list_all is_other part ≡ true
    → query_part (part ++ query_text q) ≡ query_text q
query_part-whole part q h = rw (place part (query_text q) h (begins_query q)) (drop-append_seam part (query_text q))

-- ---- queries

pub query_again : (q : Query) → query_of (query_text q) ≡ Some q
query_again query.Plain = refl
query_again (query.Prop prop.Acl) = refl
query_again (query.Prop prop.Format) = refl
query_again (query.Prop prop.Name) = refl
query_again (query.Prop prop.Size) = refl
query_again (query.Prop prop.Media) = refl
query_again (query.Prop prop.Title) = refl
query_again (query.Prop prop.VerNo) = refl
query_again (query.Prop prop.TStamp) = refl
query_again query.Struct = refl
query_again query.StructData = refl

passes_or_later : {X : Type 0} (p : X → Bool) (x : X) (found : Option X) (y : X) (b : Bool) → p x ≡ b
    → (if b then Some x else found) ≡ Some y → (found ≡ Some y → p y ≡ true) → p y ≡ true
passes_or_later p x found y true e h later = cc
passes_or_later p x found y false e h later = later h

found_passes : {X : Type 0} (p : X → Bool) (xs : List X) (y : X) → find p xs ≡ Some y → p y ≡ true
found_passes p [] y h = cc
found_passes p (x ∷ xs) y h = passes_or_later p x (find p xs) y (p x) refl h (found_passes p xs y)

pub query_found : (text : List ℕ) (q : Query) → query_of text ≡ Some q → text ≡ query_text q
query_found text q h =
    sym (same_bytes (query_text q) text (found_passes (λ query. bytes_eq (query_text query) text) queries q h))
