use Rattle.dm_tree.proofs.Common.{◌≡◌, ◌∙◌, ap, sym, subst, arith, length, set, get_or_default, ChildList, no_children}
use Rattle.dm_tree.proofs.Common.{children_at, IsIndex}
use Rattle.dm_tree.proofs.FreeingWalk.{renewed_index}
use Rattle.dm_tree.proofs.discards.offer.Goals as goal

pub returns-then-is_bare : goal.returns-then-is_bare
returns-then-is_bare c =
    let index = c.args.index.now.items in
    let lent : c.index_mut-children.result.now ≡ children_at index c.args.id =
    c.index_mut-children.ensures.value
    ∙ get_or_default index c.args.id c.index_mut-children.result.now no_children
    (omega (arith, c.requires.inside, c.requires.index.same)) in
    subst (λ l. IsIndex c.args.rows.now (set index c.args.id l)) (sym c.renew.ensures)
    (renewed_index c.args.rows.now index c.requires.index c.args.id c.requires.inside
    (ap (λ (l : ChildList). length l.ids) (sym lent) ∙ c.is_bare.ensures.ids c.if-is_bare.true)
    (ap (λ (l : ChildList). l.parked) (sym lent) ∙ c.is_bare.ensures.parked c.if-is_bare.true))
