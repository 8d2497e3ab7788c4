-- What is kept beside the rows stays right with each edit.
use Rattle.dm_tree.specs.Rows.{StayLive}
use Rattle.std.specs.FinMap.{insert}
use Rattle.dm_tree.specs.Index.{IsKept}
use Rattle.dm_tree.proofs.Common.{◌≡◌, ◌∙◌, ℕ, ◌<◌, ◌∷◌, [], zero, suc, true, false, List, length}
use Rattle.dm_tree.proofs.Common.{refl, sym, ap, arith, Node, Row, blank, row_at, node_of, nodes, ids}
use Rattle.dm_tree.proofs.Common.{path_of, IsTree, IsLive, IsParkedTop, with_node, with_name, attached_as}
use Rattle.dm_tree.proofs.Common.{without_content, ChildList, no_children, children_at, IsChildList, IsIndex}
use Rattle.dm_tree.proofs.Common.{CanBeTakenOut, set, get_or-set_same, set-get_or, Entries, set-set}
use Rattle.dm_tree.proofs.SubtreeCuts.{live_attached}
use Rattle.dm_tree.proofs.LiveRows.{stay_live}
use Rattle.dm_tree.proofs.RootTree.{root_row, not_attached}
use Rattle.dm_tree.specs.Rows.{IsNoneParked}
use Rattle.dm_tree.proofs.Common.{length-set}
use Rattle.dm_tree.proofs.NodeEdits.{live_row, of_both, nodes-with_node, ids-with_node}
use Rattle.dm_tree.proofs.TreeEdits.{isnt_root}
use Rattle.dm_tree.proofs.IndexEdits.{index-with_node}
use Rattle.dm_tree.proofs.RowCounts.{sized-alike, alike-with_node, alike-with_name, alike-without_content}

-- a node is changed
pub kept-node : (inner rows new : List Row) (k : ℕ) (n : Node) → inner ≡ rows → IsLive rows k → new ≡ with_node rows k n
    → IsTree (with_node rows k n)
    → (kept : List ChildList) (sizes : List ℕ) → IsKept inner kept sizes → IsKept new kept sizes
kept-node inner rows new k n e live f tree kept sizes h =
    let was : IsKept rows kept sizes = rw e at h in
    let l = live_row rows was.tree.shape k live in
    rw f (record {
      tree = tree;
      index = index-with_node rows k n l kept was.index;
      sizes = sized-alike rows (with_node rows k n) (alike-with_node rows k n l) sizes was.sizes;
    })

-- what is parked was
parked_node : (rows : List Row) (k : ℕ) (n : Node) → k < length rows → IsNoneParked rows
    → IsNoneParked (with_node rows k n)
parked_node rows k n l none j p =
    let r = record (row_at rows k) { node = n } in
    none j (record {
      below_root = p.below_root;
      inside = let inside = p.inside in rw length-set at inside;
      out = sym (of_both rows k r (λ s. s.attached) refl j l) ∙ p.out;
      held = sym (of_both rows k r (λ s. s.given_up) refl j l) ∙ p.held;
    })

-- and that is all that has changed
pub record IsLaid (rows new : List Row) (k : ℕ) (n : Node) (kept : List ChildList) (sizes : List ℕ) : Type 0 where
  pub invariant : IsKept new kept sizes
  pub at_path : nodes new ≡ insert (nodes rows) (path_of rows k) n
  pub same_ids : ids new ≡ ids rows
  pub stays : StayLive rows new
  pub parked : IsNoneParked rows → IsNoneParked new

pub laid : (inner rows new : List Row) (k : ℕ) (n : Node) → inner ≡ rows → IsLive rows k → new ≡ with_node rows k n
    → IsTree (with_node rows k n)
    → (kept : List ChildList) (sizes : List ℕ) → IsKept inner kept sizes → IsLaid rows new k n kept sizes
laid inner rows new k n e live f tree kept sizes h =
    let shape = (rw e at h.tree).shape in
    let same = ap ids f ∙ ids-with_node rows shape k live n in
    record {
      invariant = kept-node inner rows new k n e live f tree kept sizes h;
      at_path = ap nodes f ∙ nodes-with_node rows shape k live n;
      same_ids = same;
      stays = stay_live rows new shape same;
      parked = λ none. rw f (parked_node rows k n (live_row rows shape k live) none);
    }

-- a name and a node are changed
pub kept-name : (inner rows new : List Row) (k : ℕ) (name : List ℕ) (n : Node) → inner ≡ rows → IsLive rows k
    → new ≡ with_name rows k name n → IsTree (with_name rows k name n)
    → (kept kept' : List ChildList) (sizes : List ℕ) → IsKept inner kept sizes → IsIndex new kept'
    → IsKept new kept' sizes
kept-name inner rows new k name n e live f tree kept kept' sizes h index =
    let was : IsKept rows kept sizes = rw e at h in
    let alike = alike-with_name rows k name n (live_row rows was.tree.shape k live) in
    record { tree = rw f tree; index = index; sizes = rw f (sized-alike rows _ alike sizes was.sizes) }

-- a subtree is given up
pub kept-given_up : (inner rows new : List Row) (k : ℕ) → inner ≡ rows → IsParkedTop rows k
    → new ≡ without_content rows k → IsTree (without_content rows k)
    → (kept kept' : List ChildList) (sizes : List ℕ) → IsKept inner kept sizes → IsIndex (without_content inner k) kept'
    → IsKept new kept' sizes
kept-given_up inner rows new k e top f tree kept kept' sizes h index =
    let was : IsKept rows kept sizes = rw e at h in
    let alike = alike-without_content rows k top.inside in
    rw f (record { tree = tree; index = rw e at index; sizes = sized-alike rows _ alike sizes was.sizes })

-- ---- a subtree is taken out

pub back_again : (rows now : List Row) (k : ℕ) → k < length rows → (row_at rows k).attached ≡ true
    → now ≡ attached_as rows k false → attached_as now k true ≡ rows
back_again rows now k l a e =
    rw (e, get_or-set_same rows k (record (row_at rows k) { attached = false }) blank l)
    (set-set rows k _ _ ∙ ap (λ b. set rows k (record (row_at rows k) { attached = b })) (sym a)
    ∙ set-get_or rows k blank)

-- ---- the tree that is its root

pub root-index : (name : List ℕ) (acl : Entries) → IsIndex (root_row name acl ∷ []) (no_children ∷ [])
unfolding root_row
root-index name acl = record { same = refl; each = one }
  where
    one : (k : ℕ) → k < 1 → IsChildList (root_row name acl ∷ []) k (children_at (no_children ∷ []) k)
    one zero l = record {
      order = λ i j h m. absurd (omega (arith, m));
      attached = λ i h. absurd (omega (arith, h));
      parent = λ i h. absurd (omega (arith, h));
      all = λ j a p. absurd (not_attached name acl j a);
      parked = refl;
      room = omega arith;
    }
    one (suc k) l = absurd (omega (arith, l))

-- ---- which row may be taken out

pub may_take : (rows : List Row) → IsTree rows → (k : ℕ) → IsLive rows k → (node_of rows k).permanent ≡ false
    → CanBeTakenOut rows k
may_take rows tree k live removable =
    let z = isnt_root rows tree k removable in
    let l = live_row rows tree.shape k live in
    let a = live_attached rows tree.shape k z live in
    record { inside = l; below_root = z; attached = a; held = (tree.each k l).attached a; shaped = tree.shape }
