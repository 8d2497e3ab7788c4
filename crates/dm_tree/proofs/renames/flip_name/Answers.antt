use Rattle.dm_tree.proofs.Common.{◌∙◌, ◌<◌, refl, ap, length, set, length-set, counted, node_of}
use Rattle.dm_tree.proofs.IndexEdits.{shaped-renode, named_node, index-set}
use Rattle.dm_tree.proofs.renames.flip_name.Goals as goal

pub swap_name-requires-clause-after : goal.swap_name-requires-clause-after
swap_name-requires-clause-after c =
    shaped-renode c.args.rows.now.items c.args.id c.args.name.now
    (counted (node_of c.args.rows.now.items c.args.id) c.args.verno.now c.args.stamp.now)
    (node_of c.args.rows.now.items c.args.id) c.requires.inside c.requires.after

pub returns-clause-rows : goal.returns-clause-rows
returns-clause-rows c =
    ap (λ n. set c.swap_name.new.rows.items c.args.id (record c.index_mut.result.now { node = n }))
    c.swap_counts.ensures.node
    ∙ named_node c.args.rows.now.items c.swap_name.new.rows.items c.args.id c.args.name.now
    (λ n. counted n c.args.verno.now c.args.stamp.now) c.requires.inside c.swap_name.ensures.rows
    c.index_mut.result.now c.index_mut.ensures.value

pub returns-clause-index : goal.returns-clause-index
returns-clause-index c =
    let l : c.args.id < length c.swap_name.new.rows.items =
    rw (c.swap_name.ensures.rows, length-set) c.requires.inside in
    index-set c.swap_name.new.rows.items c.args.id (record c.index_mut.result.now { node = c.swap_counts.new.node })
    c.index_mut.result.now l c.index_mut.ensures.value refl refl refl refl c.swap_name.new.index.items
    c.swap_name.ensures.index
