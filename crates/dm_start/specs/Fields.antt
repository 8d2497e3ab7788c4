-- What the fields of a start section say.
use Rattle.std.specs.Prelude.{◌==◌, ◌&&◌, ℕ, Bool, not, if◌then◌else◌, nat_le, List, [], ◌∷◌, length, take, drop}
use Rattle.std.specs.Prelude.{slice_index, bytes_eq, codes, Option, Some, None, unwrap_or, Result, Ok, Err}
use Rattle.std.specs.Char.{is_ascii_digit}
use Rattle.std.specs.List.{list_all}
use Rattle.dm_base.specs.Limits.{least_room, message_limit, object_limit}
use Rattle.dm_base.specs.Fields.{field_of, is_short, is_id, is_key, is_word, hex_of, num_of}
use Rattle.dm_base.specs.declared.values.Limits.{Limits}
use Rattle.dm_uri.specs.declared.uri.Query.{Query}
use Rattle.dm_uri.specs.declared.uri.Query.TheVariants as query
use Rattle.dm_uri.specs.declared.uri.Uri.{Uri}
use Rattle.dm_uri.specs.declared.uri.UriError.{UriError}
use Rattle.dm_uri.specs.Reading.{parse_of}
use Rattle.dm_auth.specs.declared.accounts.Account.{Account}
use Rattle.dm_tree.specs.declared.nodes.Stamp.{Stamp}
use Rattle.dm_tree.specs.Nodes.{Path, is_format, is_node_format}
use Rattle.dm_start.specs.declared.heads.DeviceInfo.{DeviceInfo}
use Rattle.dm_start.specs.declared.node_lines.LeafLine.{LeafLine}

-- ---- one field

abbrev pub plain_path : Query → Path → Option Path
plain_path query.Plain p = Some p
plain_path (query.Prop prop) p = None
plain_path query.Struct p = None
plain_path query.StructData p = None

abbrev pub path_read : Result Uri UriError → Option Path
path_read (Ok uri) = plain_path uri.query uri.path
path_read (Err e) = None

-- URI: one without a query, as its path
abbrev pub path_in : List ℕ → Option Path
path_in text = path_read (parse_of text)

-- STAMP: eight digits, `T`, six digits and `Z`
abbrev pub is_stamp : List ℕ → Bool
is_stamp text =
    length text == 16 && list_all is_ascii_digit (take 8 text) && slice_index text 8 == 84
    && list_all is_ascii_digit (take 6 (drop 9 text)) && slice_index text 15 == 90

abbrev pub stamp_in : List ℕ → Option Stamp
stamp_in text = if is_stamp text then Some (record { bytes = text }) else None

-- FORMAT: one of the eight but `node`
abbrev pub is_leaf_format : List ℕ → Bool
is_leaf_format text = is_format text && not (is_node_format text)

-- ---- the fields of a line, its word first

-- `device SHORT SHORT SHORT SHORT SHORT`
abbrev pub device_in : List (List ℕ) → Option DeviceInfo
device_in (word ∷ dev_id ∷ man ∷ model ∷ dm_v ∷ lang ∷ []) =
    if is_short dev_id && is_short man && is_short model && is_short dm_v && is_short lang
    then Some (record { dev_id = dev_id; man = man; model = model; dm_v = dm_v; lang = lang })
    else None
device_in other = None

-- `clock STAMP`
abbrev pub clock_in : List (List ℕ) → Option Stamp
clock_in (word ∷ stamp ∷ []) = stamp_in stamp
clock_in other = None

-- `interior URI`, `permanent URI` and `fumo URI`
abbrev pub only_path : List (List ℕ) → Option Path
only_path (word ∷ uri ∷ []) = path_in uri
only_path other = None

abbrev pub leaf_of : Option Path → List ℕ → List ℕ → Option (List ℕ) → Option LeafLine
leaf_of None format media bytes = None
leaf_of (Some p) format media None = None
leaf_of (Some p) format media (Some bytes) =
    Some (record { path = p; value = record { format = format; media = media; bytes = bytes } })

-- `leaf URI FORMAT WORD HEX`
abbrev pub leaf_in : List (List ℕ) → Option LeafLine
leaf_in (word ∷ uri ∷ format ∷ media ∷ bytes ∷ []) =
    if is_leaf_format format && is_word media then leaf_of (path_in uri) format media (hex_of bytes) else None
leaf_in other = None

-- a text for a node
abbrev pub text_for : Option Path → Option (List ℕ) → Option (Path × List ℕ)
text_for None text = None
text_for (Some p) None = None
text_for (Some p) (Some text) = Some (p, text)

-- `acl URI WORD`
abbrev pub acl_in : List (List ℕ) → Option (Path × List ℕ)
acl_in (word ∷ uri ∷ text ∷ []) = if is_word text then text_for (path_in uri) (Some text) else None
acl_in other = None

-- `title URI HEX`
abbrev pub title_in : List (List ℕ) → Option (Path × List ℕ)
title_in (word ∷ uri ∷ text ∷ []) = text_for (path_in uri) (hex_of text)
title_in other = None
