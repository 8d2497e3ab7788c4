use Rattle.dm_tree.specs.declared.nodes.Role.TheVariants as role
use Rattle.dm_tree.proofs.Common.{◌≡◌, ◌∙◌, ◌<◌, ℕ, Bool, List, length, get_or, ap, sym, arith, inl, inr}
use Rattle.dm_tree.proofs.Common.{get_or_default, Row, is_role, is_update_node, blank, node_of}
use Rattle.dm_tree.proofs.Paths.{same_or_not}
use Rattle.dm_tree.proofs.RoleSearch.{is_update}
use Rattle.dm_tree.proofs.update.update_row_from.Goals as goal

role_read : (rows : List Row) (k : ℕ) (r : Row) → k < length rows → (b : Bool)
    → b ≡ is_role (get_or rows k r).node.role role.UpdateNode → is_update_node (node_of rows k).role ≡ b
role_read rows k r l b e = rw (e, get_or_default rows k r blank l) (sym (is_update (node_of rows k).role))

pub loop-row-init : goal.loop-row-init
loop-row-init c k from to = absurd (omega (arith, from, to))

pub returns-then-is_role-clause-found : goal.returns-then-is_role-clause-found
returns-then-is_role-clause-found c = (
  (
    c.loop-row-test.true,
    role_read c.args.rows.now c.loop-row.row c.index-rows-row.result c.loop-row-test.true c.is_role.result
        c.is_role.ensures ∙ c.if-is_role.true,
  ),
  c.loop-row.invariant,
)

pub loop-row-preserved : goal.loop-row-preserved
loop-row-preserved c k from to = elim (same_or_not k c.loop-row.row) [
  | inl e ↦ ap (λ j. is_update_node (node_of c.args.rows.now j).role) e
      ∙ role_read c.args.rows.now c.loop-row.row c.index-rows-row.result c.loop-row-test.true c.is_role.result
      c.is_role.ensures ∙ c.if-is_role.false
  | inr d ↦ c.loop-row.invariant k from (omega (arith, to, d))
]

pub returns-clause-none : goal.returns-clause-none
returns-clause-none c none k from to = c.loop-row.invariant k from (omega (arith, to, c.loop-row-test.false))
