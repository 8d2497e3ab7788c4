-- Which access list decides, as the rows and as the map have it.
use Rattle.std.proofs.Common.{if◌then◌else◌, option_and_then}
use Rattle.dm_acl.specs.declared.values.Right.{Right}
use Rattle.dm_acl.specs.Grammar.{entry_of, allowed, allowed_in}
use Rattle.dm_tree.specs.Rights.{acl_at, names, effective_upto, effective_path}
use Rattle.dm_tree.specs.Walks.{row_names, row_allows}
use Rattle.dm_tree.proofs.Common.{◌≡◌, ℕ, zero, suc, ◌≤◌, Bool, true, false, List, [], ◌∷◌, ◌++◌, length, take, Option}
use Rattle.dm_tree.proofs.Common.{None, Some, refl, sym, ◌∙◌, ap, subst, arith, length-append, option_map_or}
use Rattle.dm_tree.proofs.Common.{take-append-le, take-length, Entries, Row, Path, Nodes, row_at, walk, path_below}
use Rattle.dm_tree.proofs.Common.{path_of, IsLive, IsShaped, nodes, deciding_row}
use Rattle.dm_tree.proofs.RowPaths.{up_from, at_bottom, at_top}
use Rattle.dm_tree.proofs.RowMaps.{node_of_path}
use Rattle.dm_tree.proofs.LiveRows.{node_there, live_at}
use Rattle.dm_tree.proofs.NextNodes.{Shows}

upto_shorter : (m : Nodes) (p : Path) (n : List ℕ) (right : Right) (k : ℕ) → k ≤ length p
    → effective_upto m (p ++ n ∷ []) right k ≡ effective_upto m p right k
upto_shorter m p n right zero h = refl
upto_shorter m p n right (suc k) h =
    rw (take-append-le (suc k) p (n ∷ []) h, upto_shorter m p n right k (omega arith)) refl

-- one name further down
one_down : (m : Nodes) (p : Path) (name : List ℕ) (right : Right)
    → effective_path m (p ++ name ∷ []) right
    ≡ (if names m (p ++ name ∷ []) right then Some (p ++ name ∷ []) else effective_path m p right)
one_down m p name right =
    let long : length (p ++ name ∷ []) ≡ suc (length p) = omega (arith, length-append p (name ∷ [])) in
    let whole = ap (λ k. take k (p ++ name ∷ [])) (sym long) ∙ take-length (p ++ name ∷ []) in
    rw (long, whole, upto_shorter m p name right (length p) (omega arith)) refl

names-row : (rows : List Row) → IsShaped rows → (right : Right) (k : ℕ) (p : Path) → path_below rows 0 k ≡ Some p
    → names (nodes rows) p right ≡ row_names (row_at rows k) right
names-row rows shape right k p lies = rw (node_of_path rows shape k p lies) refl

-- the row k decides, or what decides above it
here_or_above : (rows : List Row) (k : ℕ) (p : Path) → path_below rows 0 k ≡ Some p → (b : Bool) (o : Option ℕ)
    (s : Option Path) → Shows rows o s → Shows rows (if b then Some k else o) (if b then Some p else s)
here_or_above rows k p lies true o s h = let at = live_at rows k p lies in (at.0, ap (λ q. Some q) (sym at.1))
here_or_above rows k p lies false o s h = h

-- the row that decides has the path that does
decides : (rows : List Row) → IsShaped rows → (right : Right) (d k : ℕ) (p : Path) → (row_at rows k).depth ≡ d
    → walk rows d 0 k ≡ Some p → Shows rows (deciding_row rows right d k) (effective_path (nodes rows) p right)
decides rows shape right zero k p deep e =
    let none = at_top rows zero 0 k p (at_bottom rows 0 k p e) e in
    let lies : path_below rows 0 k ≡ Some [] = rw deep (e ∙ ap (λ q. Some q) none) in
    rw (none, names-row rows shape right k [] lies)
    (here_or_above rows k [] lies (row_names (row_at rows k) right) None None refl)
decides rows shape right (suc d) k p deep e =
    let u = up_from rows shape d k p deep e in
    let n = (row_at rows k).name in
    let lies : path_below rows 0 k ≡ Some (u.0.above ++ n ∷ []) = rw deep (e ∙ ap (λ q. Some q) u.0.named) in
    rw (u.0.named, one_down (nodes rows) u.0.above n right, names-row rows shape right k (u.0.above ++ n ∷ []) lies)
    (here_or_above rows k (u.0.above ++ n ∷ []) lies (row_names (row_at rows k) right) _ _
    (decides rows shape right d (row_at rows k).parent u.0.above u.1 u.0.found))

pub decides-row : (rows : List Row) → IsShaped rows → (right : Right) (k : ℕ) → IsLive rows k → (o : Option ℕ)
    → o ≡ deciding_row rows right (row_at rows k).depth k
    → Shows rows o (effective_path (nodes rows) (path_of rows k) right)
decides-row rows shape right k live o e =
    subst (λ d. Shows rows d (effective_path (nodes rows) (path_of rows k) right)) (sym e)
    (decides rows shape right (row_at rows k).depth k (path_of rows k) refl live)

-- ---- what the deciding row allows

allowed_by_list : (o : Option Entries) (server : List ℕ) (right : Right)
    → option_map_or (λ acl. allowed acl server right) o false
    ≡ allowed_in (option_and_then (λ acl. entry_of acl right) o) server
allowed_by_list None server right = refl
allowed_by_list (Some acl) server right = refl

pub shown_allows : (rows : List Row) → IsShaped rows → (server : List ℕ) (right : Right) (o : Option ℕ)
    (s : Option Path) → Shows rows o s
    → option_map_or (λ j. row_allows (row_at rows j) server right) o false
    ≡ allowed_in (option_and_then (λ q. option_and_then (λ acl. entry_of acl right) (acl_at (nodes rows) q)) s) server
shown_allows rows shape server right None s h = rw h refl
shown_allows rows shape server right (Some j) s h =
    rw (h.1, node_there rows shape j h.0) (allowed_by_list (row_at rows j).node.acl server right)
