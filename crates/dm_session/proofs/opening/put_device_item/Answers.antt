use Rattle.std.proofs.Common.{◌∷◌, [], ◌++◌, ◌∙◌, ap}
use Rattle.dm_tree.specs.Rows.{nodes}
use Rattle.dm_session.proofs.Told.{device_item_is}
use Rattle.dm_session.proofs.opening.put_device_item.Goals as goal

pub returns : goal.returns
returns c =
    c.in_ok-push.ensures.ok
    ∙ ap (λ item. c.args.items.now ++ item ∷ [])
    (c.source_item.ensures
    ∙ device_item_is (nodes c.args.tree.now.rows) c.args.name.now _ _ _ _ c.in_ok-path.ensures c.in_ok-printed.ensures
    c.in_ok-value.ensures c.in_ok-meta.ensures)
