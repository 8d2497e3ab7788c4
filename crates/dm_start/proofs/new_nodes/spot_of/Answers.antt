use Rattle.std.proofs.Common.{◌∙◌, ap, sym}
use Rattle.std.specs.Option.{option_map}
use Rattle.dm_tree.specs.Rows.{nodes, node_of}
use Rattle.dm_start.specs.Growing.{takes_child, is_open}
use Rattle.dm_start.proofs.Spots.{nothing_above, not_taken}
use Rattle.dm_start.proofs.Laid.{spot, nothing}
use Rattle.dm_start.proofs.new_nodes.spot_of.Goals as goal

pub returns-in_err-parent : goal.returns-in_err-parent
returns-in_err-parent c =
    let m = nodes c.args.tree.now.rows in
    rw c.from_residual-in_err-parent.ensures
    (ap (λ p. is_open m p c.args.permanent) c.in_ok-name.ensures
    ∙ nothing_above m c.pop.new.self c.in_ok-name.name c.args.permanent c.in_err-parent.ensures.node)

pub returns-then-not-takes_child : goal.returns-then-not-takes_child
returns-then-not-takes_child c =
    let rows = c.args.tree.now.rows in
    let m = nodes rows in
    let permanent = c.args.permanent in
    let taken = ap (takes_child permanent) (sym c.view.ensures.node) ∙ sym c.takes_child.ensures
    ∙ c.if-not-takes_child.true in
    ap (λ p. is_open m p permanent) c.in_ok-name.ensures
    ∙ not_taken m c.pop.new.self c.in_ok-name.name
    (node_of rows c.in_ok-parent.parent) permanent c.in_ok-parent.ensures.node taken

pub returns : goal.returns
returns c =
    let rows = c.args.tree.now.rows in
    let permanent = c.args.permanent in
    let takes = ap (takes_child permanent) (sym c.view.ensures.node) ∙ sym c.takes_child.ensures
    ∙ c.if-not-takes_child.false in
    let free = c.child.ensures.node
    ∙ ap (option_map (node_of rows)) (nothing c.child.result (sym c.is_some.ensures ∙ c.if-is_some.false)) in
    spot rows c.args.path c.pop.new.self c.in_ok-name.name permanent c.in_ok-parent.parent c.in_ok-name.ensures
    c.in_ok-parent.ensures.live.0
    c.in_ok-parent.ensures.live.1 c.view.ensures.there takes free
