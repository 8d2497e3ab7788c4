-- How a text is read: the value, or the first refusal.
use Rattle.std.specs.Prelude.{◌≡◌, ◌<◌, ◌++◌, ◌==◌, ◌||◌, ℕ, Bool, not, nat_lt, nat_eq, if◌then◌else◌, List, [], ◌∷◌}
use Rattle.std.specs.Prelude.{length, drop, bytes_eq, codes, Option, Some, None, Result, Ok, Err, IsOk, IsTrue}
use Rattle.std.specs.List.{list_all, slice_split, starts_with, find, flat_map}
use Rattle.dm_uri.specs.Names.{has_name_form, is_short_name, is_name, is_within_limits, IsPath}
use Rattle.dm_uri.specs.Grammar.{query_text}
use Rattle.dm_uri.specs.Refusals.{path_part, query_part}
use Rattle.dm_uri.specs.declared.uri.Prop.TheVariants as prop
use Rattle.dm_uri.specs.declared.uri.Query.{Query}
use Rattle.dm_uri.specs.declared.uri.Query.TheVariants as query
use Rattle.dm_uri.specs.declared.uri.Uri.{Uri}
use Rattle.dm_uri.specs.declared.uri.UriError.{UriError}
use Rattle.dm_uri.specs.declared.uri.UriError.TheVariants as error

abbrev pub is_slash : ℕ → Bool
is_slash b = b == 0x2F

-- a text is cut at its first slash
pub record FirstPart (text front behind : List ℕ) : Type 0 where
  pub parts : slice_split is_slash text ≡ front ∷ slice_split is_slash behind
  pub shorter : length behind < length text

-- a text is so many names with a `/` between each two, and then what stands behind them; a `/` more in front of it
-- gives each name one
pub record BeginsWithNames (text : List ℕ) (count : ℕ) (behind : List ℕ) : Type 0 where
  pub names : List (List ℕ)
  pub whole : 0x2F ∷ text ≡ flat_map (λ name. 0x2F ∷ name) names ++ behind
  pub formed : IsTrue (list_all is_name names)
  pub many : length names ≡ count

abbrev pub is_root : List ℕ → Bool
is_root part = bytes_eq part (codes ".") || bytes_eq part (codes "./")

-- without a `./` in front
abbrev pub without_front : List ℕ → List ℕ
without_front part = if starts_with nat_eq part (codes "./") then drop 2 part else part

-- what stands between the slashes of a path part
abbrev pub names_in : List ℕ → List (List ℕ)
names_in part = if is_root part then [] else slice_split is_slash (without_front part)

abbrev pub queries : List Query
queries =
    query.Plain ∷ query.Prop prop.Acl ∷ query.Prop prop.Format ∷ query.Prop prop.Name ∷ query.Prop prop.Size
    ∷ query.Prop prop.Media
    ∷ query.Prop prop.Title ∷ query.Prop prop.VerNo ∷ query.Prop prop.TStamp ∷ query.Struct ∷ query.StructData ∷ []

abbrev pub query_of : List ℕ → Option Query
query_of text = find (λ query. bytes_eq (query_text query) text) queries

-- the path of these names, or the first reason why they are none
abbrev pub read_path : List (List ℕ) → Result (List (List ℕ)) UriError
read_path names =
    if not (list_all has_name_form names) then Err error.Malformed
    else if not (is_within_limits names) then Err error.TooLong
    else Ok names

abbrev pub with_query : Result (List (List ℕ)) UriError → Option Query → Result Uri UriError
with_query (Err e) query = Err e
with_query (Ok path) None = Err error.UnknownQuery
with_query (Ok path) (Some query) = Ok (record { path = path; query = query })

-- what a text means, or the first reason why it is no URI
unfoldable pub parse_of : List ℕ → Result Uri UriError
parse_of text =
    if nat_lt 255 (length text) then Err error.TooLong
    else with_query (read_path (names_in (path_part text))) (query_of (query_part text))

-- a text is read as the path of the names between the slashes of a part, and a query
pub record IsReadAsUri (text part : List ℕ) (query : Query) : Type 0 where
  pub path : IsPath (slice_split is_slash part)
  pub is : parse_of text ≡ Ok (record { path = slice_split is_slash part; query = query })

-- the name that a text is, or the first reason why it is none
unfoldable pub parse_name_of : List ℕ → Result (List ℕ) UriError
parse_name_of text =
    if not (has_name_form text) then Err error.Malformed
    else if not (is_short_name text) then Err error.TooLong
    else Ok text

-- an answer is the one that is read; want of memory comes only in place of a value
abbrev pub IsAsRead : {T : Type 0} → Result T UriError → Result T UriError → Type 0
IsAsRead (Ok value) read = read ≡ Ok value
IsAsRead (Err error.Memory) read = IsOk read
IsAsRead (Err error.Malformed) read = read ≡ Err error.Malformed
IsAsRead (Err error.TooLong) read = read ≡ Err error.TooLong
IsAsRead (Err error.UnknownQuery) read = read ≡ Err error.UnknownQuery
