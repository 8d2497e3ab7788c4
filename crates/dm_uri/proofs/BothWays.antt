-- Reading is the grammar, and each refusal comes where it stands.
use Rattle.std.proofs.Common.{ℕ, ◌≡◌, ◌≤◌, ◌+◌, List, [], ◌∷◌, ◌++◌, length, arith, refl, sym, ap, subst, ◌∙◌, inl, inr}
use Rattle.std.proofs.Common.{Some, None, Option, Ok, Err, length-append}
use Rattle.std.specs.Prelude.{Bool, true, false, not, nat_lt, if◌then◌else◌, Result}
use Rattle.std.specs.List.{list_all}
use Rattle.std.proofs.lemmas.Bool.{ltb-false, le-ltb}
use Rattle.dm_uri.specs.declared.uri.Query.{Query}
use Rattle.dm_uri.specs.declared.uri.Uri.{Uri}
use Rattle.dm_uri.specs.declared.uri.UriError.{UriError}
use Rattle.dm_uri.specs.declared.uri.UriError.TheVariants as error
use Rattle.dm_uri.specs.Names.{has_name_form, is_within_limits, IsPath, IsPathPart, printed_path}
use Rattle.dm_uri.specs.Grammar.{query_text, printed, IsUriText}
use Rattle.dm_uri.specs.Refusals.{path_part, query_part}
use Rattle.dm_uri.specs.Reading.{names_in, query_of, with_query, parse_of}
use Rattle.dm_uri.specs.Laws.{ReadsGrammar, ReadsWritten, OneWritten}
use Rattle.dm_uri.proofs.Limits.{limits_of_path, all_forms}
use Rattle.dm_uri.proofs.PathParts.{spelled, only_names}
use Rattle.dm_uri.proofs.Cuts.{whole_text, no_question, path_part-whole, query_part-whole, query_again, query_found}

abbrev pub uri_of : List (List ℕ) → Query → Uri
uri_of path query = record { path = path; query = query }

-- what is answered, by what the tests say
abbrev pub answer : Bool → Bool → Bool → List (List ℕ) → Option Query → Result Uri UriError
answer long formed within names query =
    if long then Err error.TooLong
    else with_query (if not formed then Err error.Malformed else if not within then Err error.TooLong else Ok names)
    query

pub parse_tests : (text : List ℕ)
    → parse_of text ≡ answer (nat_lt 255 (length text)) (list_all has_name_form (names_in (path_part text)))
    (is_within_limits (names_in (path_part text))) (names_in (path_part text)) (query_of (query_part text))
unfolding parse_of
parse_tests text = refl

-- ---- what is read is in the grammar

record IsRead (long formed within : Bool) (names : List (List ℕ)) (query : Option Query) (uri : Uri) : Type 0 where
  is_short : long ≡ false
  is_formed : formed ≡ true
  is_within : within ≡ true
  path_is : names ≡ uri.path
  query_is : query ≡ Some uri.query

tests_of_read : (long formed within : Bool) (names : List (List ℕ)) (query : Option Query) (uri : Uri)
    → answer long formed within names query ≡ Ok uri → IsRead long formed within names query uri
tests_of_read true formed within names query uri h = cc
tests_of_read false false within names query uri h = cc
tests_of_read false true false names query uri h = cc
tests_of_read false true true names None uri h = cc
tests_of_read false true true names (Some query) uri h =
    let same : uri_of names query ≡ uri = cc in
    record {
      is_short = refl;
      is_formed = refl;
      is_within = refl;
      path_is = ap (λ (u : Uri). u.path) same;
      query_is = ap (λ (u : Uri). Some u.query) same;
    }

is_text : (text : List ℕ) (uri : Uri) → parse_of text ≡ Ok uri → IsUriText text uri
is_text text uri h =
    let tests = tests_of_read _ _ _ _ _ uri (sym (parse_tests text) ∙ h) in
    record {
      short = ltb-false 255 (length text) tests.is_short;
      part = path_part text;
      path =
          subst (λ names. IsPathPart names (path_part text)) tests.path_is (tests.is_formed, spelled (path_part text));
      within = rw (← tests.path_is) tests.is_within;
      whole =
          sym (whole_text text)
          ∙ ap (λ q. path_part text ++ q) (query_found (query_part text) uri.query tests.query_is);
    }

-- ---- what is in the grammar is read

answer_read : (long formed within : Bool) (names : List (List ℕ)) (query : Option Query) (uri : Uri) → long ≡ false
    → formed ≡ true → within ≡ true
    → names ≡ uri.path → query ≡ Some uri.query → answer long formed within names query ≡ Ok uri
answer_read long formed within names query uri a b c d e =
    rw (a, b, c) (rw e (ap (λ path. Ok (uri_of path uri.query)) d))

is_read : (text : List ℕ) (uri : Uri) → IsUriText text uri → parse_of text ≡ Ok uri
is_read text uri h =
    let clear = no_question uri.path h.part h.path in
    let part : path_part text ≡ h.part = ap path_part h.whole ∙ path_part-whole h.part uri.query clear in
    let names : names_in (path_part text) ≡ uri.path = ap names_in part ∙ only_names uri.path h.part h.path in
    let rest : query_part text ≡ query_text uri.query =
    ap query_part h.whole ∙ query_part-whole h.part uri.query clear in
    parse_tests text
    ∙ answer_read _ _ _ _ _ uri (le-ltb 255 (length text) h.short) (rw names h.path.0) (rw names h.within) names
    (ap query_of rest ∙ query_again uri.query)

pub reads_grammar : ReadsGrammar
reads_grammar text uri = (is_text text uri, is_read text uri)

-- ---- what is written is a text of its value

spells_printed : (names : List (List ℕ)) → list_all has_name_form names ≡ true → IsPathPart names (printed_path names)
spells_printed [] h = (refl, inl refl)
spells_printed (n ∷ ns) h = (h, inr refl)

pub text_of_written : (uri : Uri) → IsPath uri.path → length (printed uri) ≤ 255 → IsUriText (printed uri) uri
text_of_written uri path short =
    let split : length (printed uri) ≡ length (printed_path uri.path) + length (query_text uri.query) =
    length-append (printed_path uri.path) (query_text uri.query) in
    record {
      short = short;
      part = printed_path uri.path;
      path = spells_printed uri.path (all_forms uri.path path.names).0;
      within = limits_of_path uri.path path (omega (arith, split, short));
      whole = refl;
    }

pub reads_written : ReadsWritten
reads_written uri path short = is_read (printed uri) uri (text_of_written uri path short)

-- ---- and it tells the value

same_uri : (u v : Uri) → u.path ≡ v.path → u.query ≡ v.query → u ≡ v
same_uri u v p q = ap (λ path. uri_of path u.query) p ∙ ap (λ query. uri_of v.path query) q

tells_path : (uri : Uri) → list_all has_name_form uri.path ≡ true → names_in (path_part (printed uri)) ≡ uri.path
tells_path uri h =
    let part = spells_printed uri.path h in
    ap names_in (path_part-whole (printed_path uri.path) uri.query (no_question uri.path (printed_path uri.path) part))
    ∙ only_names uri.path (printed_path uri.path) part

tells_query : (uri : Uri) → list_all has_name_form uri.path ≡ true
    → query_of (query_part (printed uri)) ≡ Some uri.query
tells_query uri h =
    ap query_of (query_part-whole (printed_path uri.path) uri.query
    (no_question uri.path (printed_path uri.path) (spells_printed uri.path h)))
    ∙ query_again uri.query

same_some : (p q : Query) → Some p ≡ Some q → p ≡ q
same_some p q h = cc

same_written : (u v : Uri) → list_all has_name_form u.path ≡ true → list_all has_name_form v.path ≡ true
    → printed u ≡ printed v → u ≡ v
same_written u v f g h =
    same_uri u v (sym (tells_path u f) ∙ ap (λ text. names_in (path_part text)) h ∙ tells_path v g)
    (same_some u.query v.query (sym (tells_query u f) ∙ ap (λ text. query_of (query_part text)) h ∙ tells_query v g))

pub one_written : OneWritten
one_written s t u v p q = (same_written u v p.path.0 q.path.0, λ e. ap printed e)
