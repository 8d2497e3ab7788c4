-- A node, the one above it, and those beside it.
use Rattle.std.proofs.Common.{◌≡◌, ℕ, ◌<◌, true, false, not, nat_eq, List, [], ◌∷◌, ◌++◌, None, Some, refl, sym, ◌∙◌}
use Rattle.std.proofs.Common.{ap, arith}
use Rattle.std.proofs.lemmas.List.{length-append}
use Rattle.std.proofs.lemmas.Bool.Decides.{nat_tests}
use Rattle.std.specs.Prelude.{◌==◌, length, bytes_eq, is_some, option_and_then, ◌&&◌}
use Rattle.std.specs.Option.{option_map_or}
use Rattle.std.specs.FinMap.{get}
use Rattle.std.proofs.lemmas.Slice.Eq.{bytes_eq-Decides}
use Rattle.dm_tree.specs.declared.rows.Row.{Row}
use Rattle.dm_tree.specs.Nodes.{Path, Nodes, above, last_name}
use Rattle.dm_tree.specs.Rows.{row_at, nodes, ids, path_of, IsLive, IsTree}
use Rattle.dm_tree.proofs.RowPaths.{one_row, same_number}
use Rattle.dm_tree.proofs.RowMaps.{id_of}
use Rattle.dm_tree.proofs.Paths.{Ends, ends, none, last}
use Rattle.dm_tree.proofs.LiveRows.{above-append, last_name-append, has_parent, root_path, node_there}
use Rattle.dm_commands.specs.Table.{is_root_path, beside, is_own_name, is_taken_beside}

-- ---- the node above

-- only the root has none
pub top_alone : (rows : List Row) → IsTree rows → (k : ℕ) → IsLive rows k
    → None ≡ option_and_then (λ (n : List ℕ). get (ids rows) (above (path_of rows k))) (last_name (path_of rows k))
    → path_of rows k ≡ []
top_alone rows tree k live e =
    elim (nat_eq k 0) as (λ b. nat_eq k 0 ≡ b → path_of rows k ≡ []) [
      | true ↦ λ is. root_path rows tree.shape k is
      | false ↦ λ is.
          let up = has_parent rows tree.shape k live is in
          let up_id = (row_at rows k).parent in
          let named : last_name (path_of rows k) ≡ Some (row_at rows k).name =
          ap last_name up.path ∙ last_name-append (path_of rows up_id) (row_at rows k).name in
          let higher : above (path_of rows k) ≡ path_of rows up_id =
          ap above up.path ∙ above-append (path_of rows up_id) (row_at rows k).name in
          let there : get (ids rows) (above (path_of rows k)) ≡ Some up_id =
          ap (get (ids rows)) higher ∙ id_of rows tree.shape up_id (path_of rows up_id) up.live in
          let some : None ≡ Some up_id =
          e ∙ ap (option_and_then (λ (n : List ℕ). get (ids rows) (above (path_of rows k)))) named ∙ there in
          absurd (cc)
    ] refl

-- ---- the last name of a path

pub not_zero : (k : ℕ) → 0 < k → (k == 0) ≡ false
not_zero k more = grind (arith, nat_tests)

is_deeper : (q : Path) (n : List ℕ) → is_root_path (q ++ n ∷ []) ≡ false
is_deeper q n = not_zero (length (q ++ n ∷ [])) (omega (arith, length-append q (n ∷ [])))

pub split-ends : (p q : Path) (n : List ℕ) → p ≡ q ++ n ∷ [] → (is_root_path p ≡ false) × (above p ≡ q) × (p ≡ q ++ n ∷ [])
split-ends p q n e = (ap is_root_path e ∙ is_deeper q n, ap above e ∙ above-append q n, e)

-- ---- names beside it

own_end : (p : Path) → Ends p → (name : List ℕ) → is_own_name p name ≡ true → p ≡ beside p name
own_end p none name h = absurd (cc)
own_end p (last front n) name h =
    let named : bytes_eq n name ≡ true =
    ap (λ o. option_map_or (λ own. bytes_eq own name) o false) (sym (last_name-append front n)) ∙ h in
    ap (λ m. front ++ m ∷ []) ((bytes_eq-Decides n name).0 named)
    ∙ ap (λ q. q ++ name ∷ []) (sym (above-append front n))

-- a path under its own name is the path
pub own-path : (p : Path) (name : List ℕ) → is_own_name p name ≡ true → p ≡ beside p name
own-path p name h = own_end p (ends p) name h

pub path-own : (p : Path) (name : List ℕ) → p ≡ beside p name → is_own_name p name ≡ true
path-own p name e =
    ap (λ o. option_map_or (λ own. bytes_eq own name) o false) (ap last_name e ∙ last_name-append (above p) name)
    ∙ (bytes_eq-Decides name name).1 refl

-- no node has the name there
pub taken-none : (m : Nodes) (p : Path) (name : List ℕ) → get m (beside p name) ≡ None
    → is_taken_beside m p name ≡ false
taken-none m p name e = ap (λ o. is_some o && not (is_own_name p name)) e

-- one has, which may be the node itself
pub taken-other : (rows : List Row) → IsTree rows → (k other : ℕ) (name : List ℕ) → IsLive rows k → IsLive rows other
    → path_of rows other ≡ beside (path_of rows k) name
    → is_taken_beside (nodes rows) (path_of rows k) name ≡ not (nat_eq other k)
taken-other rows tree k other name live there e =
    let p = path_of rows k in
    let some : is_some (get (nodes rows) (beside p name)) ≡ true =
    ap (λ q. is_some (get (nodes rows) q)) (sym e) ∙ ap is_some (node_there rows tree.shape other there) in
    ap (λ b. b && not (is_own_name p name)) some ∙ ap not (
    elim (nat_eq other k) as (λ b. nat_eq other k ≡ b → is_own_name p name ≡ b) [
      | true ↦ λ is. path-own p name (ap (path_of rows) (sym (same_number other k is)) ∙ e)
      | false ↦ λ is.
          elim (is_own_name p name) as (λ b. is_own_name p name ≡ b → b ≡ false) [
            | true ↦ λ own.
                let same : other ≡ k =
                one_row rows tree.shape _ _ 0 other k p (there ∙ ap (λ q. Some q) (e ∙ sym (own-path p name own)))
                live in
                let yes : nat_eq other k ≡ true = ap (λ i. nat_eq i k) same ∙ Decides-eqb_itself k in
                absurd (cc)
            | false ↦ λ own. refl
          ] refl
    ] refl
    )
  where
    Decides-eqb_itself : (k : ℕ) → nat_eq k k ≡ true
    Decides-eqb_itself k = grind arith
