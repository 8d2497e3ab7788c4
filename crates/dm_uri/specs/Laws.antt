-- What reading and writing have to do with the grammar.
use Rattle.std.specs.Prelude.{◌≡◌, ◌≤◌, ◌↔◌, ℕ, List, length, Ok, Err}
use Rattle.dm_uri.specs.Names.{IsPath}
use Rattle.dm_uri.specs.Grammar.{printed, IsUriText}
use Rattle.dm_uri.specs.Refusals.{IsRefusedUri}
use Rattle.dm_uri.specs.Reading.{parse_of}
use Rattle.dm_uri.specs.declared.uri.Uri.{Uri}
use Rattle.dm_uri.specs.declared.uri.UriError.{UriError}

-- a text is read as a value exactly where the grammar says that it is a text of this value
abbrev pub ReadsGrammar : Type 0
ReadsGrammar = (text : List ℕ) (uri : Uri) → (parse_of text ≡ Ok uri) ↔ IsUriText text uri

-- and each refusal comes exactly where it stands
abbrev pub RefusesRest : Type 0
RefusesRest = (text : List ℕ) (e : UriError) → (parse_of text ≡ Err e) ↔ IsRefusedUri text e

-- what is written is read again as the same value, where it isn't too long
abbrev pub ReadsWritten : Type 0
ReadsWritten = (uri : Uri) → IsPath uri.path → length (printed uri) ≤ 255 → parse_of (printed uri) ≡ Ok uri

-- texts of one value have one written form, and texts of two values have two
abbrev pub OneWritten : Type 0
OneWritten = (s t : List ℕ) (u v : Uri) → IsUriText s u → IsUriText t v → (printed u ≡ printed v) ↔ (u ≡ v)
