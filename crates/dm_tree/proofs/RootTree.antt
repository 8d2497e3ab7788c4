-- The tree that is its root.
use Rattle.std.proofs.Common.{nat_lt}
use Rattle.std.proofs.lemmas.List.Sums.{AllPass-from_list_all}
use Rattle.std.specs.FinMap.{insert, empty}
use Rattle.dm_tree.specs.Nodes.{root_node, first_stamp, IsReadAgain}
use Rattle.dm_tree.proofs.Common.{◌≡◌, ℕ, zero, suc, ◌<◌, ◌≤◌, true, false, List, [], ◌∷◌, refl, arith, nat_tests}
use Rattle.dm_tree.proofs.Common.{Entries, is_name, is_within_limits, Node, Row, tree_order, IsStamp, blank, row_at}
use Rattle.dm_tree.proofs.Common.{IsShaped, IsRow, IsTree, IsLive, nodes, path_of}
use Rattle.dm_tree.proofs.NodeEdits.{live_row}
use Rattle.dm_tree.proofs.LiveRows.{len-nodes}

unfoldable pub root_row : List ℕ → Entries → Row
root_row name acl =
    record { parent = 0; depth = 0; attached = false; given_up = false; name = name; node = root_node acl }

-- what holds of the root and where no row is, holds of each row
each_of_one : (P : Row → Type 0) (r : Row) → P r → P blank → (k : ℕ) → P (row_at (r ∷ []) k)
each_of_one P r here beyond zero = here
each_of_one P r here beyond (suc k) = beyond

pub not_attached : (name : List ℕ) (acl : Entries) (k : ℕ) → (row_at (root_row name acl ∷ []) k).attached ≡ true → ⊥
unfolding root_row
not_attached name acl k e = let out = each_of_one (λ r. r.attached ≡ false) (root_row name acl) refl refl k in cc

shaped : (name : List ℕ) (acl : Entries) → IsShaped (root_row name acl ∷ [])
unfolding root_row
shaped name acl = record {
  rooted = omega arith;
  few = omega arith;
  at_root = refl;
  fixed = refl;
  inside = λ k l. each_of_one (λ r. r.parent < 1) (root_row name acl) (omega arith) (omega arith) k;
  falls = λ k at. absurd (not_attached name acl k at);
  shallow = each_of_one (λ r. r.depth ≤ 16) (root_row name acl) (omega arith) (omega arith);
  no_twins = λ i j a b p n. absurd (not_attached name acl i a);
}

pub nodes-root : (name : List ℕ) (acl : Entries)
    → nodes (root_row name acl ∷ []) ≡ insert (empty {X = Node} {R = tree_order}) [] (root_node acl)
unfolding root_row nodes
nodes-root name acl = refl

starts_at : IsStamp first_stamp
starts_at = record {
  long = refl;
  bytes = λ k l. grind (arith, nat_tests, AllPass-from_list_all (λ b. nat_lt b 256) first_stamp.bytes refl k 0 l);
}

pub starts : (name : List ℕ) (acl : Entries) → is_name name ≡ true → IsReadAgain acl → IsTree (root_row name acl ∷ [])
unfolding root_row
starts name acl n again = record {
  shape = shaped name acl;
  each = one;
  root = record { interior = refl; permanent = refl; acl = refl; media = refl; role = refl };
  children = λ k at. absurd (not_attached name acl k at);
  within = at_root;
  size = omega (arith, len-nodes (root_row name acl ∷ []) (shaped name acl));
}
  where
    at_root : (k : ℕ) → IsLive (root_row name acl ∷ []) k → is_within_limits (path_of (root_row name acl ∷ []) k) ≡ true
    at_root zero live = refl
    at_root (suc k) live = absurd (omega (arith, live_row (root_row name acl ∷ []) (shaped name acl) (suc k) live))

    one : (k : ℕ) → k < 1 → IsRow (row_at (root_row name acl ∷ []) k)
    one zero l = record {
      name = n;
      node = record {
        value = record { format = refl; kind = refl; empty = λ _. refl; media = omega arith; short = omega arith };
        acl = again;
        title = omega arith;
        verno = omega arith;
        stamp = starts_at;
      };
      attached = λ e. refl;
    }
    one (suc k) l = absurd (omega (arith, l))
