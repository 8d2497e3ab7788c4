use Rattle.dm_tree.proofs.Common.{◌≡◌, ◌∙◌, ◌<◌, ℕ, true, refl, ap, sym, subst, arith, get_or_default, Row, blank}
use Rattle.dm_tree.proofs.Common.{row_at, IsIndex}
use Rattle.dm_tree.proofs.GivenUpRows.{tree-given_up}
use Rattle.dm_tree.proofs.InvariantKept.{kept-given_up}
use Rattle.dm_tree.proofs.FreeingWalk.{IsGoing, to_go, going-begins, going-inside, child-read, none-read, left-below}
use Rattle.dm_tree.proofs.FreeingWalk.{going-down, fewer-down, going-up, fewer-up, going-ends}
use Rattle.dm_tree.proofs.discards.free_subtree.Goals as goal

pub loop-child-init : goal.loop-child-init
loop-child-init c =
    let old = c.args.rows.now.items in
    let tree = tree-given_up old c.requires.kept.tree c.args.top c.requires.parked in
    record {
      going = subst (λ r. IsGoing old c.args.top r c.args.top) (sym c.give_up_top.ensures.rows)
          (going-begins old c.requires.kept.tree c.args.top c.requires.parked);
      kept =
          kept-given_up old old c.give_up_top.new.rows.items c.args.top refl c.requires.parked
          c.give_up_top.ensures.rows tree
          c.args.index.now.items c.give_up_top.new.index.items c.args.sizes.now.items c.requires.kept
          (subst (λ r. IsIndex r c.give_up_top.new.index.items) c.give_up_top.ensures.rows c.give_up_top.ensures.index);
    }

-- the row that was read is a child of the one at which the loop is
pub free_child-requires-clause-left : goal.free_child-requires-clause-left
free_child-requires-clause-left c =
    left-below _ c.requires.kept.tree _ c.requires.parked c.loop-child.invariant.going c.in-Some.child
    (child-read c.loop-child.invariant.going c.loop-child.invariant.kept.index c.deref.ensures.value
    c.last_child.ensures c.in-Some.is)

child : (c : goal.After-free_child) → ((row_at c.loop-child.rows.items c.in-Some.child).attached ≡ true)
    × ((row_at c.loop-child.rows.items c.in-Some.child).parent ≡ c.loop-child.at)
child c =
    child-read c.loop-child.invariant.going c.loop-child.invariant.kept.index c.deref.ensures.value
    c.last_child.ensures c.in-Some.is

pub loop-child-smaller-in-Some : goal.loop-child-smaller-in-Some
loop-child-smaller-in-Some c =
    subst (λ r. to_go r c.in-Some.child < to_go c.loop-child.rows.items c.loop-child.at) (sym c.free_child.ensures.rows)
    (fewer-down _ c.requires.kept.tree _ c.requires.parked c.loop-child.invariant.going c.in-Some.child (child c))

pub loop-child-preserved-in-Some : goal.loop-child-preserved-in-Some
loop-child-preserved-in-Some c = record {
  going = subst (λ r. IsGoing c.args.rows.now.items c.args.top r c.in-Some.child) (sym c.free_child.ensures.rows)
      (going-down _ c.requires.kept.tree _ c.requires.parked c.loop-child.invariant.going c.in-Some.child (child c));
  kept = c.free_child.ensures.kept;
}

-- nothing is left below it
pub returns-then-at-top-clause-freed : goal.returns-then-at-top-clause-freed
returns-then-at-top-clause-freed c =
    going-ends _ c.requires.kept.tree _ c.requires.parked c.loop-child.invariant.going
    (none-read c.loop-child.invariant.going c.loop-child.invariant.kept.index c.deref.ensures.value
    c.last_child.ensures c.in-None.is) (omega (arith, c.if-at-top.true))

bare : (c : goal.After-index) → (j : ℕ) → (row_at c.loop-child.rows.items j).attached ≡ true
    → (row_at c.loop-child.rows.items j).parent ≡ c.loop-child.at → ⊥
bare c =
    none-read c.loop-child.invariant.going c.loop-child.invariant.kept.index c.deref.ensures.value
    c.last_child.ensures c.in-None.is

above : (c : goal.After-index) → (row_at c.loop-child.rows.items c.loop-child.at).parent ≡ c.index.result.now.parent
above c =
    ap (λ (r : Row). r.parent) (sym (c.index.ensures
    ∙ get_or_default c.loop-child.rows.items c.loop-child.at c.index.result.now blank
    (going-inside c.loop-child.invariant.going)))

pub loop-child-smaller : goal.loop-child-smaller
loop-child-smaller c =
    subst (λ i. to_go c.loop-child.rows.items i < to_go c.loop-child.rows.items c.loop-child.at) (above c)
    (fewer-up _ c.requires.kept.tree _ c.requires.parked c.loop-child.invariant.going (bare c)
    (λ e. omega (arith, e, c.if-at-top.false)))

pub loop-child-preserved : goal.loop-child-preserved
loop-child-preserved c = record {
  going = subst (IsGoing c.args.rows.now.items c.args.top c.loop-child.rows.items) (above c)
      (going-up _ c.requires.kept.tree _ c.requires.parked c.loop-child.invariant.going (bare c)
      (λ e. omega (arith, e, c.if-at-top.false)));
  kept = record {
    tree = c.loop-child.invariant.kept.tree;
    index = subst (λ r. IsIndex r c.offer.new.index.items) c.deref-in-None.ensures.value c.offer.ensures;
    sizes = c.loop-child.invariant.kept.sizes;
  };
}
