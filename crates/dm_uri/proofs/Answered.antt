-- What a given answer says of its text.
use Rattle.std.proofs.Common.{ℕ, ◌≡◌, ◌≢◌, ◌≤◌, List, length, Ok, Err, refl, sym, ap, subst, ◌∙◌}
use Rattle.std.specs.Prelude.{Result, IfOk, IfErr, if◌then◌else◌}
use Rattle.std.proofs.lemmas.Bool.{le-ltb}
use Rattle.dm_uri.specs.declared.uri.Uri.{Uri}
use Rattle.dm_uri.specs.declared.uri.UriError.{UriError}
use Rattle.dm_uri.specs.declared.uri.UriError.TheVariants as error
use Rattle.dm_uri.specs.Grammar.{IsUriText}
use Rattle.dm_uri.specs.Refusals.{IsRefusedUri, path_part, query_part}
use Rattle.dm_uri.specs.Reading.{parse_of, names_in, query_of, read_path, with_query, IsAsRead}
use Rattle.dm_uri.proofs.BothWays.{reads_grammar}
use Rattle.dm_uri.proofs.Refusals.{refuses_rest}

pub accepted : (text : List ℕ) (r : Result Uri UriError) → IsAsRead r (parse_of text) → IfOk r (λ uri. IsUriText text uri)
accepted text (Ok uri) h = (reads_grammar text uri).0 h
accepted text (Err e) h = tt

pub refused : (text : List ℕ) (r : Result Uri UriError) → IsAsRead r (parse_of text)
    → IfErr r (λ e. e ≢ error.Memory → IsRefusedUri text e)
refused text (Ok uri) h = tt
refused text (Err error.Malformed) h = λ other. (refuses_rest text error.Malformed).0 h
refused text (Err error.TooLong) h = λ other. (refuses_rest text error.TooLong).0 h
refused text (Err error.UnknownQuery) h = λ other. (refuses_rest text error.UnknownQuery).0 h
refused text (Err error.Memory) h = λ other. absurd (other refl)

pub kept : (text : List ℕ) (r : Result Uri UriError) → IsAsRead r (parse_of text) → (uri : Uri) → IsUriText text uri
    → IsAsRead r (Ok uri)
kept text r given uri h = subst (IsAsRead r) ((reads_grammar text uri).1 h) given

pub told : (text : List ℕ) (e : UriError) → parse_of text ≡ Err e → IsAsRead {T = Uri} (Err e) (parse_of text)
told text error.Malformed h = h
told text error.TooLong h = h
told text error.UnknownQuery h = h
told text error.Memory h = absurd ((refuses_rest text error.Memory).0 h)

-- a path part that is refused
refused_path : (text : List ℕ) (e : UriError) → length text ≤ 255 → read_path (names_in (path_part text)) ≡ Err e
    → parse_of text ≡ Err e
unfolding parse_of
refused_path text e short refusal =
    ap (λ b. if b then Err error.TooLong
    else with_query (read_path (names_in (path_part text))) (query_of (query_part text))) (le-ltb _ _ short)
    ∙ ap (λ r. with_query r (query_of (query_part text))) refusal

pub path_told : (text part : List ℕ) (e : UriError) → length text ≤ 255 → part ≡ path_part text
    → read_path (names_in part) ≡ Err e
    → IsAsRead {T = Uri} (Err e) (parse_of text)
path_told text part e short is refusal =
    told text e (refused_path text e short (ap (λ p. read_path (names_in p)) (sym is) ∙ refusal))
