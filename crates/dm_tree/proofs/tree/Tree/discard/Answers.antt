use Rattle.dm_tree.specs.Frees.{IsFreed}
use Rattle.dm_tree.proofs.Common.{[], sym, subst, ap, arith, length, Tree, IsParkedTop, IsHeld, IsIndex}
use Rattle.dm_tree.proofs.EqualTrees.{tree_kept}
use Rattle.dm_tree.proofs.LiveRows.{stay_live}
use Rattle.dm_tree.proofs.tree.Tree.discard.Goals as goal

pub free_subtree-requires-clause-parked : goal.free_subtree-requires-clause-parked
free_subtree-requires-clause-parked c =
    subst (λ rows. IsParkedTop rows c.in-PutIn.id) (sym (ap (λ (t : Tree). t.rows) c.self.view_is))
    (subst (IsHeld c.args.self.now.rows) (sym c.in-PutIn.ensures) c.requires)

-- what was done
done : (c : goal.After-offer_above) → IsFreed c.args.self.now.rows c.in-PutIn.id c.free_subtree.new.rows.items
done c =
    subst (λ (t : Tree). IsFreed t.rows c.in-PutIn.id c.free_subtree.new.rows.items) c.self.view_is
    c.free_subtree.ensures.freed

pub offer_above-requires-clause-inside : goal.offer_above-requires-clause-inside
offer_above-requires-clause-inside c =
    omega (
      arith,
      ap length c.deref.ensures.value,
      c.free_subtree.ensures.freed.long,
      ap (λ (t : Tree). length t.rows) c.self.view_is,
      (subst (IsHeld c.args.self.now.rows) (sym c.in-PutIn.ensures) c.requires).inside,
    )

pub invariant_of-self : goal.invariant_of-self
invariant_of-self c = record {
  tree = c.free_subtree.ensures.kept.tree;
  index = subst (λ r. IsIndex r c.offer_above.new.index.items) c.deref.ensures.value c.offer_above.ensures;
  sizes = c.free_subtree.ensures.kept.sizes;
}

pub returns-in-PutIn-clause-nodes : goal.returns-in-PutIn-clause-nodes
returns-in-PutIn-clause-nodes c = (done c).alike.nodes [] tt tt

pub returns-in-PutIn-clause-ids : goal.returns-in-PutIn-clause-ids
returns-in-PutIn-clause-ids c = (done c).alike.ids [] tt tt

pub returns-in-PutIn-clause-stays : goal.returns-in-PutIn-clause-stays
returns-in-PutIn-clause-stays c =
    stay_live c.args.self.now.rows c.free_subtree.new.rows.items
    (tree_kept c.self.view_is c.self.invariant.tree).shape (returns-in-PutIn-clause-ids c)

pub returns-in-PutIn-clause-rows : goal.returns-in-PutIn-clause-rows
returns-in-PutIn-clause-rows c = rw (← c.in-PutIn.ensures) (done c).given

pub returns-in-PutIn-clause-alike : goal.returns-in-PutIn-clause-alike
returns-in-PutIn-clause-alike c = rw (← c.in-PutIn.ensures) (done c).alike

pub returns-in-PutIn-clause-parked : goal.returns-in-PutIn-clause-parked
returns-in-PutIn-clause-parked c = rw (← c.in-PutIn.ensures) (done c).parked

pub returns-in-PutIn-clause-used : goal.returns-in-PutIn-clause-used
returns-in-PutIn-clause-used c = rw (← c.in-PutIn.ensures) (done c).used

pub returns-in-PutIn-clause-given_back : goal.returns-in-PutIn-clause-given_back
returns-in-PutIn-clause-given_back c = rw (← c.in-PutIn.ensures) (done c).spent
