-- Each refusal comes exactly where it stands.
use Rattle.std.proofs.Common.{ℕ, ◌≡◌, List, length, refl, sym, ap, subst, ◌∙◌, inl, inr, Some, None, Option, Err}
use Rattle.std.specs.Prelude.{Bool, true, false, nat_lt}
use Rattle.std.specs.List.{list_all}
use Rattle.std.proofs.lemmas.Bool.{ltb-true, ltb-false, lt-ltb, le-ltb}
use Rattle.dm_uri.specs.declared.uri.Query.{Query}
use Rattle.dm_uri.specs.declared.uri.UriError.{UriError}
use Rattle.dm_uri.specs.declared.uri.UriError.TheVariants as error
use Rattle.dm_uri.specs.Names.{has_name_form, is_within_limits, IsPathPart}
use Rattle.dm_uri.specs.Grammar.{query_text}
use Rattle.dm_uri.specs.Refusals.{IsRefusedUri, path_part, query_part}
use Rattle.dm_uri.specs.Reading.{names_in, query_of, parse_of}
use Rattle.dm_uri.specs.Laws.{RefusesRest}
use Rattle.dm_uri.proofs.PathParts.{spelled, only_names}
use Rattle.dm_uri.proofs.Cuts.{query_again, query_found}
use Rattle.dm_uri.proofs.BothWays.{answer, parse_tests}

-- the four tests of a text
record Tests (text : List ℕ) (long formed within : Bool) (query : Option Query) : Type 0 where
  length_is : nat_lt 255 (length text) ≡ long
  form_is : list_all has_name_form (names_in (path_part text)) ≡ formed
  within_is : is_within_limits (names_in (path_part text)) ≡ within
  query_is : query_of (query_part text) ≡ query

-- where the names between the slashes aren't all of the form, no names are spelled
none_spelled : (text : List ℕ) → list_all has_name_form (names_in (path_part text)) ≡ false
    → (names : List (List ℕ)) → IsPathPart names (path_part text) → ⊥
none_spelled text h names p =
    let is = ap (λ ns. list_all has_name_form ns) (only_names names (path_part text) p) in
    let formed : list_all has_name_form names ≡ true = p.0 in
    cc

no_query : (text : List ℕ) → query_of text ≡ None → (query : Query) → text ≡ query_text query → ⊥
no_query text h query e =
    let found = ap query_of e ∙ query_again query in cc

refused_by : (text : List ℕ) (long formed within : Bool) (query : Option Query) (e : UriError)
    → Tests text long formed within query
    → answer long formed within (names_in (path_part text)) query ≡ Err e → IsRefusedUri text e
refused_by text true formed within query e t h =
    let same : error.TooLong ≡ e = cc in
    subst (λ e. IsRefusedUri text e) same (inl (ltb-true 255 (length text) t.length_is))
refused_by text false false within query e t h =
    let same : error.Malformed ≡ e = cc in
    subst (λ e. IsRefusedUri text e) same (ltb-false 255 (length text) t.length_is, none_spelled text t.form_is)
refused_by text false true false query e t h =
    let same : error.TooLong ≡ e = cc in
    subst (λ e. IsRefusedUri text e) same
    (inr (names_in (path_part text), (t.form_is, spelled (path_part text)), t.within_is))
refused_by text false true true None e t h =
    let same : error.UnknownQuery ≡ e = cc in
    subst (λ e. IsRefusedUri text e) same (
      ltb-false 255 (length text) t.length_is,
      (
        names_in (path_part text),
        (t.form_is, spelled (path_part text)),
        t.within_is,
        no_query (query_part text) t.query_is,
      ),
    )
refused_by text false true true (Some query) e t h = cc

is_refused : (text : List ℕ) (e : UriError) → parse_of text ≡ Err e → IsRefusedUri text e
is_refused text e h =
    refused_by text _ _ _ _ e (record { length_is = refl; form_is = refl; within_is = refl; query_is = refl })
    (sym (parse_tests text) ∙ h)

-- ---- the way back

answer_long : (long formed within : Bool) (names : List (List ℕ)) (query : Option Query) → long ≡ true
    → answer long formed within names query ≡ Err error.TooLong
answer_long long formed within names query a = rw a refl

answer_malformed : (long formed within : Bool) (names : List (List ℕ)) (query : Option Query) → long ≡ false
    → formed ≡ false
    → answer long formed within names query ≡ Err error.Malformed
answer_malformed long formed within names query a b = rw (a, b) refl

answer_past : (long formed within : Bool) (names : List (List ℕ)) (query : Option Query) → formed ≡ true
    → within ≡ false
    → answer long formed within names query ≡ Err error.TooLong
answer_past true formed within names query b c = refl
answer_past false formed within names query b c = rw (b, c) refl

answer_unknown : (long formed within : Bool) (names : List (List ℕ)) (query : Option Query) → long ≡ false
    → formed ≡ true → within ≡ true → query ≡ None
    → answer long formed within names query ≡ Err error.UnknownQuery
answer_unknown long formed within names query a b c d = rw (a, b, c, d) refl

not_formed : (text : List ℕ) (b : Bool) → list_all has_name_form (names_in (path_part text)) ≡ b
    → ((names : List (List ℕ)) → IsPathPart names (path_part text) → ⊥) → b ≡ false
not_formed text false e h = refl
not_formed text true e h = absurd (h (names_in (path_part text)) (e, spelled (path_part text)))

not_known : (text : List ℕ) (found : Option Query) → query_of text ≡ found
    → ((query : Query) → text ≡ query_text query → ⊥) → found ≡ None
not_known text None e h = refl
not_known text (Some query) e h = absurd (h query (query_found text query e))

-- what is said of names that are spelled, is said of those between the slashes
said_of_names : (test : List (List ℕ) → Bool) (b : Bool) (text : List ℕ) (names : List (List ℕ))
    → IsPathPart names (path_part text) → test names ≡ b
    → test (names_in (path_part text)) ≡ b
said_of_names test b text names p h = ap test (only_names names (path_part text) p) ∙ h

is_refusal : (text : List ℕ) (e : UriError) → IsRefusedUri text e → parse_of text ≡ Err e
is_refusal text error.TooLong (inl h) = parse_tests text ∙ answer_long _ _ _ _ _ (lt-ltb 255 (length text) h)
is_refusal text error.TooLong (inr (names, p, past)) =
    parse_tests text
    ∙ answer_past _ _ _ _ _ (said_of_names (λ ns. list_all has_name_form ns) true text names p p.0)
    (said_of_names is_within_limits false text names p past)
is_refusal text error.Malformed (short, none) =
    parse_tests text ∙ answer_malformed _ _ _ _ _ (le-ltb 255 (length text) short) (not_formed text _ refl none)
is_refusal text error.UnknownQuery (short, (names, p, within, unknown)) =
    parse_tests text
    ∙ answer_unknown _ _ _ _ _ (le-ltb 255 (length text) short)
    (said_of_names (λ ns. list_all has_name_form ns) true text names p p.0)
    (said_of_names is_within_limits true text names p within) (not_known (query_part text) _ refl unknown)
is_refusal text error.Memory h = absurd h

pub refuses_rest : RefusesRest
refuses_rest text e = (is_refused text e, is_refusal text e)
