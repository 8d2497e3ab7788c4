-- A node that is put in place of another, and the access list of a start.
use Rattle.std.proofs.Common.{◌≡◌, ℕ, Bool, true, false, cond, List, [], Some, Ok, refl, sym, ◌∙◌, ap}
use Rattle.std.specs.Prelude.{codes, Result, option_map}
use Rattle.std.specs.Ordering.{eq_by_cmp}
use Rattle.std.specs.FinMap.{empty, get, insert, get-insert, same_map}
use Rattle.dm_acl.specs.declared.values.AclError.{AclError}
use Rattle.dm_acl.specs.declared.values.Entries.{Entries}
use Rattle.dm_acl.specs.Reading.{parse_of, after_part}
use Rattle.dm_tree.specs.declared.nodes.Node.{Node}
use Rattle.dm_tree.specs.declared.nodes.Stamp.{Stamp}
use Rattle.dm_tree.specs.declared.rows.Row.{Row}
use Rattle.dm_tree.specs.Nodes.{Path, Nodes, tree_order, root_node, counted}
use Rattle.dm_tree.specs.Rows.{nodes, ids, node_of, path_of}
use Rattle.dm_tree.proofs.NodesKept.{here_insert, some_node}
use Rattle.dm_tree.proofs.RowMaps.{get_nodes}
use Rattle.dm_tree.proofs.Paths.{tree_total, tree_exact}
use Rattle.dm_start.specs.Growing.{start_acl, bare_tree}

pub insert_twice : (m : Nodes) (p : Path) (a b : Node) → insert (insert m p a) p b ≡ insert m p b
insert_twice m p a b = same_map tree_total tree_exact _ _ (λ q.
    get-insert tree_total (insert m p a) p b q ∙ by_test q (eq_by_cmp tree_order q p) refl
    ∙ sym (get-insert tree_total m p b q))
  where
    by_test : (q : Path) (c : Bool) → eq_by_cmp tree_order q p ≡ c
        → cond c (Some b) (get (insert m p a) q) ≡ cond c (Some b) (get m q)
    by_test q true is = refl
    by_test q false is = get-insert tree_total m p a q ∙ rw is refl

pub start_text : parse_of (codes "Add=*&Get=*") ≡ Ok start_acl
unfolding parse_of after_part
start_text = refl

pub start_is : (acl : Entries) → parse_of (codes "Add=*&Get=*") ≡ Ok acl → acl ≡ start_acl
start_is acl e = same_ok acl start_acl (sym e ∙ start_text)
  where
    same_ok : (x y : Entries) → ◌≡◌ {A = Result Entries AclError} (Ok x) (Ok y) → x ≡ y
    same_ok x y h = cc

pub bare_is : (rows : List Row) (root : ℕ) (acl : Entries) (clock : Stamp)
    → nodes rows ≡ insert empty [] (root_node acl) → path_of rows root ≡ []
    → Some root ≡ get (ids rows) [] → acl ≡ start_acl
    → insert (nodes rows) (path_of rows root) (counted (node_of rows root) 0 clock) ≡ bare_tree clock
bare_is rows root acl clock is at id acl_is =
    let found : get (nodes rows) [] ≡ Some (node_of rows root) = get_nodes rows []
    ∙ ap (option_map (λ k. node_of rows k)) (sym id) in
    let made : get (nodes rows) [] ≡ Some (root_node acl) = ap (λ m. get m []) is
    ∙ here_insert empty [] (root_node acl) in
    let node : node_of rows root ≡ root_node acl = some_node _ _ (sym found ∙ made) in
    ap (λ p. insert (nodes rows) p (counted (node_of rows root) 0 clock)) at
    ∙ ap (λ x. insert (nodes rows) [] (counted x 0 clock)) (node ∙ ap root_node acl_is)
    ∙ ap (λ m. insert m [] (counted (root_node start_acl) 0 clock))
    (is ∙ ap (λ a. insert empty [] (root_node a)) acl_is)
    ∙ insert_twice empty [] (root_node start_acl) (counted (root_node start_acl) 0 clock)
