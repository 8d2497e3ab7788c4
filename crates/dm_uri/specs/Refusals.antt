-- Why a text is refused.
use Rattle.std.specs.Prelude.{◌≡◌, ◌==◌, ◌≤◌, ◌<◌, ◌⊎◌, ℕ, Bool, false, IsTrue, List, length, drop}
use Rattle.std.specs.List.{before_first, position_or_len}
use Rattle.dm_uri.specs.Names.{IsPathPart, is_within_limits}
use Rattle.dm_uri.specs.Grammar.{query_text}
use Rattle.dm_uri.specs.declared.uri.Query.{Query}
use Rattle.dm_uri.specs.declared.uri.UriError.{UriError}
use Rattle.dm_uri.specs.declared.uri.UriError.TheVariants as error

abbrev pub is_question : ℕ → Bool
is_question b = b == 0x3F

-- what stands before the first `?`, or all where there is none
abbrev pub path_part : List ℕ → List ℕ
path_part text = before_first is_question text

-- what stands from the first `?` on
abbrev pub query_part : List ℕ → List ℕ
query_part text = drop (position_or_len is_question text) text

-- a path part of names of the form, which pass a limit
abbrev pub HasLongPath : List ℕ → Type 0
HasLongPath text = (names : List (List ℕ)) × IsPathPart names (path_part text) × (is_within_limits names ≡ false)

-- a path within the limits, and then no query's text
abbrev pub HasUnknownQuery : List ℕ → Type 0
HasUnknownQuery text =
    (names : List (List ℕ)) × IsPathPart names (path_part text) × IsTrue (is_within_limits names)
    × ((query : Query) → query_part text ≡ query_text query → ⊥)

-- why a text is refused: a long text goes before all else, and a path part out of form before its lengths
abbrev pub IsRefusedUri : List ℕ → UriError → Type 0
IsRefusedUri text error.TooLong = (255 < length text) ⊎ HasLongPath text
IsRefusedUri text error.Malformed = (length text ≤ 255) × ((names : List (List ℕ)) → IsPathPart names (path_part text) → ⊥)
IsRefusedUri text error.UnknownQuery = (length text ≤ 255) × HasUnknownQuery text
IsRefusedUri text error.Memory = ⊥
