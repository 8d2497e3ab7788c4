-- Names and paths. A `/` is byte 2F, and a `?` is byte 3F.
use Rattle.std.specs.Prelude.{◌≡◌, ◌==◌, ◌&&◌, ◌≤◌, ◌⊎◌, ◌++◌, ℕ, Bool, not, nat_le, IsTrue, List, [], ◌∷◌, length}
use Rattle.std.specs.Prelude.{bytes_eq, codes}
use Rattle.std.specs.List.{list_all, join_with_byte}

-- 21 to 7E but `/` and `?`
abbrev pub is_name_byte : ℕ → Bool
is_name_byte b = nat_le 0x21 b && nat_le b 0x7E && not (b == 0x2F) && not (b == 0x3F)

-- a name, however long: one such byte or more, and neither `.` nor `..`
abbrev pub has_name_form : List ℕ → Bool
has_name_form name =
    not (length name == 0) && list_all is_name_byte name && not (bytes_eq name (codes "."))
    && not (bytes_eq name (codes ".."))

abbrev pub is_short_name : List ℕ → Bool
is_short_name name = nat_le (length name) 64

abbrev pub is_name : List ℕ → Bool
is_name name = has_name_form name && is_short_name name

-- at most 16 names
pub record IsPath (path : List (List ℕ)) : Type 0 where
  pub few : length path ≤ 16
  pub names : IsTrue (list_all is_name path)

-- names with a `/` between each two
abbrev pub joined : List (List ℕ) → List ℕ
joined names = join_with_byte 0x2F names

-- a text of the path with these names: `.` or `./` is the root; other paths may have `./` in front
abbrev pub SpellsPath : List (List ℕ) → List ℕ → Type 0
SpellsPath [] text = (text ≡ codes ".") ⊎ (text ≡ codes "./")
SpellsPath (n ∷ ns) text = (text ≡ joined (n ∷ ns)) ⊎ (text ≡ codes "./" ++ joined (n ∷ ns))

-- the same of names that are of the form, however long and however many
abbrev pub IsPathPart : List (List ℕ) → List ℕ → Type 0
IsPathPart names text = IsTrue (list_all has_name_form names) × SpellsPath names text

-- the one written form of a path
abbrev pub printed_path : List (List ℕ) → List ℕ
printed_path [] = codes "."
printed_path (n ∷ ns) = codes "./" ++ joined (n ∷ ns)

-- the limits: 64 bytes for a name, 16 names, 255 bytes written
abbrev pub is_within_limits : List (List ℕ) → Bool
is_within_limits names =
    list_all is_short_name names && nat_le (length names) 16 && nat_le (length (printed_path names)) 255
