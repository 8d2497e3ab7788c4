-- What the searches through the rows find, row by row.
use Rattle.std.specs.Prelude.{◌&&◌, ◌-◌, ℕ, zero, suc, Bool, true, false, if◌then◌else◌, nat_eq, nat_lt, bytes_eq, List}
use Rattle.std.specs.Prelude.{[], ◌∷◌, ◌++◌, length, Option, Some, None, option_and_then}
use Rattle.std.specs.Option.{option_map_or, option_or}
use Rattle.std.specs.Ordering.{nat_cmp, is_lt}
use Rattle.std.specs.Cmp.Lexicographic.{slice_cmp}
use Rattle.std.specs.List.{position_from}
use Rattle.dm_acl.specs.declared.values.Right.{Right}
use Rattle.dm_acl.specs.Grammar.{has_entry, allowed}
use Rattle.dm_tree.specs.declared.rows.Row.{Row}
use Rattle.dm_tree.specs.Nodes.{Path}
use Rattle.dm_tree.specs.Rows.{row_at}

abbrev pub is_child : ℕ → List ℕ → Row → Bool
is_child id name r = r.attached && (nat_eq r.parent id && bytes_eq r.name name)

-- the first row that is a child of this name
abbrev pub child_of : List Row → ℕ → List ℕ → Option ℕ
child_of rows id name = position_from (is_child id name) 0 rows

abbrev pub find_from : List Row → ℕ → Path → Option ℕ
find_from rows id [] = Some id
find_from rows id (n ∷ ns) = option_and_then (λ k. find_from rows k ns) (child_of rows id n)

-- the names of the d rows from k upwards, the topmost first
abbrev pub path_up : List Row → ℕ → ℕ → Path
path_up rows zero k = []
path_up rows (suc d) k = path_up rows d (row_at rows k).parent ++ (row_at rows k).name ∷ []

-- the row has an access list that names the right
abbrev pub row_names : Row → Right → Bool
row_names r right = option_map_or (λ acl. has_entry acl right) r.node.acl false

-- the row has an access list that allows the right to the server
abbrev pub row_allows : Row → List ℕ → Right → Bool
row_allows r server right = option_map_or (λ acl. allowed acl server right) r.node.acl false

-- the first row that names the right among k and the d rows above it
abbrev pub deciding_row : List Row → Right → ℕ → ℕ → Option ℕ
deciding_row rows right zero k = if row_names (row_at rows k) right then Some k else None
deciding_row rows right (suc d) k =
    if row_names (row_at rows k) right then Some k else deciding_row rows right d (row_at rows k).parent

-- ---- how long paths are, once the row `id` bears the name

abbrev pub name_then : List Row → ℕ → List ℕ → ℕ → List ℕ
name_then rows id name k = if nat_eq k id then name else (row_at rows k).name

-- the names of the d rows from k upwards, each with a `/` in front, have no more bytes than there is room for
abbrev pub has_room : List Row → ℕ → List ℕ → ℕ → ℕ → ℕ → Bool
has_room rows id name zero k room = true
has_room rows id name (suc d) k room =
    if nat_lt (length (name_then rows id name k)) room
    then has_room rows id name d (row_at rows k).parent (room - length (name_then rows id name k) - 1)
    else false

-- ---- children in the order of their names

-- the name stands behind that of the row; all do where no row is given
abbrev pub comes_after : List Row → Option ℕ → List ℕ → Bool
comes_after rows None name = true
comes_after rows (Some k) name = is_lt (slice_cmp nat_cmp (row_at rows k).name name)

abbrev pub is_later_child : List Row → ℕ → Option ℕ → Row → Bool
is_later_child rows id after r = r.attached && (nat_eq r.parent id && comes_after rows after r.name)

-- the name stands before that of the best row so far
abbrev pub is_better : List Row → Option ℕ → Row → Bool
is_better rows None r = true
is_better rows (Some best) r = is_lt (slice_cmp nat_cmp r.name (row_at rows best).name)

abbrev pub is_next : List Row → ℕ → Option ℕ → Option ℕ → Row → Bool
is_next rows id after best r = is_later_child rows id after r && is_better rows best r

-- among the first n rows, the child of `id` behind a row whose name comes first
abbrev pub least_child : List Row → ℕ → Option ℕ → ℕ → Option ℕ
least_child rows id after zero = None
least_child rows id after (suc n) =
    if is_next rows id after (least_child rows id after n) (row_at rows n) then Some n else least_child rows id after n

-- the first sibling behind the row k or behind one of the d rows above it, up to `top`
abbrev pub next_past : List Row → ℕ → ℕ → ℕ → Option ℕ
next_past rows top zero k = None
next_past rows top (suc d) k =
    if nat_eq k top
    then None
    else option_or (least_child rows (row_at rows k).parent (Some k) (length rows))
    (next_past rows top d (row_at rows k).parent)

-- the first child, or else, and with `past`, the first sibling behind
abbrev pub next_on_walk : List Row → ℕ → ℕ → Bool → Option ℕ
next_on_walk rows top k true = next_past rows top (row_at rows k).depth k
next_on_walk rows top k false =
    option_or (least_child rows k None (length rows)) (next_past rows top (row_at rows k).depth k)
