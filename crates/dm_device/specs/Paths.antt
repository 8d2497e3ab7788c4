-- The path that requests go to.
use Rattle.std.specs.Prelude.{◌&&◌, ◌==◌, ℕ, Bool, if◌then◌else◌, nat_le, List, [], ◌∷◌, length, drop, take, bytes_eq}
use Rattle.std.specs.Prelude.{codes, Option, Some, None}
use Rattle.std.specs.List.{list_all}

-- a byte that a path may have: neither blank nor control, and ASCII
abbrev pub is_plain_byte : ℕ → Bool
is_plain_byte b = nat_le 33 b && nat_le b 126

-- at most 1,024 bytes, all plain
abbrev pub is_plain_uri : List ℕ → Bool
is_plain_uri uri = nat_le (length uri) 1024 && list_all is_plain_byte uri

abbrev pub has_front : List ℕ → List ℕ → Bool
has_front front bytes = bytes_eq (take (length front) bytes) front

-- from the first slash on, where there is one
abbrev pub from_slash : List ℕ → Option (List ℕ)
from_slash [] = None
from_slash (b ∷ bs) = if b == 47 then Some (b ∷ bs) else from_slash bs

-- the path in a RespURI: itself where it begins with a slash, or what stands from the first slash behind the authority
-- on
abbrev pub path_in_uri : List ℕ → Option (List ℕ)
path_in_uri uri =
    if has_front (codes "/") uri then Some uri
    else if has_front (codes "http://") uri then from_slash (drop 7 uri)
    else if has_front (codes "https://") uri then from_slash (drop 8 uri)
    else None

abbrev pub path_told : List ℕ → Option (List ℕ)
path_told uri = if is_plain_uri uri then path_in_uri uri else None

abbrev pub path_by : Option (List ℕ) → List ℕ → List ℕ
path_by None path = path
path_by (Some told) path = told

-- the path of a request: the one that the last RespURI of the session gives; else the one that the run was given
abbrev pub request_path : Option (List ℕ) → List ℕ → List ℕ
request_path None path = path
request_path (Some uri) path = path_by (path_told uri) path
