-- Where a new node may come to stand, and where not.
use Rattle.std.proofs.Common.{◌≡◌, ℕ, Bool, true, false, not, cond, List, [], ◌∷◌, ◌++◌, None, Some, Ok, Err, refl}
use Rattle.std.specs.Prelude.{◌==◌, ◌&&◌}
use Rattle.std.specs.FinMap.{get, insert, len}
use Rattle.dm_base.specs.declared.lines.LineReason.TheVariants as reason
use Rattle.dm_uri.specs.Names.{is_within_limits}
use Rattle.dm_tree.specs.declared.nodes.NewNode.{NewNode}
use Rattle.dm_tree.specs.declared.nodes.Node.{Node}
use Rattle.dm_tree.specs.declared.nodes.Stamp.{Stamp}
use Rattle.dm_tree.specs.Nodes.{Path, Nodes, made}
use Rattle.dm_tree.proofs.LiveRows.{above-append}
use Rattle.dm_start.specs.Growing.{takes_child, is_open, with_one}

and_false : (b : Bool) → (b && false) ≡ false
and_false true = refl
and_false false = refl

pub nothing_above : (m : Nodes) (r : Path) (n : List ℕ) (b : Bool) → get m r ≡ None → is_open m (r ++ n ∷ []) b ≡ false
nothing_above m r n b none = rw (above-append r n, none) (and_false _)

pub not_taken : (m : Nodes) (r : Path) (n : List ℕ) (x : Node) (b : Bool) → get m r ≡ Some x → takes_child b x ≡ false
    → is_open m (r ++ n ∷ []) b ≡ false
not_taken m r n x b there refused = rw (above-append r n, there, refused) (and_false _)

pub free_below : (m : Nodes) (r : Path) (n : List ℕ) (x : Node) (b : Bool) → get m r ≡ Some x → takes_child b x ≡ true
    → get m (r ++ n ∷ []) ≡ None → is_open m (r ++ n ∷ []) b ≡ true
free_below m r n x b there taken free = rw (above-append r n, there, taken, free) refl

-- ---- a node that comes in

pub not_within : (clock : Stamp) (m : Nodes) (p : Path) (new : NewNode) → is_within_limits p ≡ false
    → with_one clock m p new ≡ Err reason.Tree
not_within clock m p new refused = rw refused (by_open (is_open m p new.permanent))
  where
    by_open : (b : Bool)
        → (cond (b && false && not (len m == 65536)) (Ok (insert m p (made clock new))) (Err reason.Tree)) ≡ Err
        reason.Tree
    by_open true = refl
    by_open false = refl
