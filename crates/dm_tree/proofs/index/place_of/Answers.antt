use Rattle.std.proofs.Common.{rules, of_calls}
use Rattle.std.proofs.lemmas.Fn.{always_returns_same}
use Rattle.dm_tree.proofs.NamePlaces.{before, before_parted, place_is, confirmed}
use Rattle.dm_tree.proofs.index.place_of.Goals as goal

pub returns-then-precedes : goal.returns-then-precedes
returns-then-precedes c =
    confirmed c.args.rows.now c.args.ids.now c.args.name.now c.requires.inside c.requires.order
    c.partition_point-guess.result c.if-within.true (c.follows.ensures c.if-follows.true)
    (c.precedes.ensures c.if-precedes.true)

pub returns : goal.returns
returns c =
    let point =
    c.partition_point.ensures.partitioned
    (before c.args.rows.now c.args.ids.now c.args.name.now c.requires.inside c.requires.order)
    (always_returns_same _ _ _ (λ a r f k. search (rules, of_calls)))
    (before_parted c.args.rows.now c.args.ids.now c.args.name.now c.requires.inside c.requires.order) in
    place_is c.args.rows.now c.args.ids.now c.args.name.now c.requires.inside c.requires.order c.partition_point.result
    c.partition_point.ensures.bound point
