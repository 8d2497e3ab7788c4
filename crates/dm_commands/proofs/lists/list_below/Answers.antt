use Rattle.std.proofs.Common.{◌∙◌, sym, subst, length, ◌<◌, Some}
use Rattle.std.specs.Prelude.{not}
use Rattle.dm_tree.specs.Rows.{path_of}
use Rattle.dm_commands.specs.Outcomes.{asked_by}
use Rattle.dm_commands.proofs.Listings.{IsListing, IsNextAt, left_from, listing-starts, listing-goes-on, less_left}
use Rattle.dm_commands.proofs.lists.list_below.Goals as goal
use Rattle.dm_commands.proofs.lists.list_below.Goals.{then-shown+in_ok-put_listed, else-shown}

pub loop-at-init : goal.loop-at-init
loop-at-init c =
    subst (λ out. IsListing c.args.tree.now.rows (asked_by c.args.caller.now c.args.tree.now.clock)
    (path_of c.args.tree.now.rows c.args.top) c.args.with_values out (Some c.args.top))
    (sym c.new-out.ensures)
    (listing-starts c.args.tree.now.rows (asked_by c.args.caller.now c.args.tree.now.clock) c.args.with_values
    c.args.top c.requires.live c.requires.there)

pub loop-at-smaller : goal.loop-at-smaller
loop-at-smaller c =
    let rows = c.args.tree.now.rows in
    let top = path_of rows c.args.top in
    let n : IsNextAt rows top (path_of rows c.in-Some.here) (not c.allows-shown.result) c.next_below-at.result =
    record {
      live = c.next_below-at.ensures.live;
      behind = c.next_below-at.ensures.behind;
    } in
    subst (λ at. length (left_from rows top c.next_below-at.result) < length (left_from rows top at)) (sym c.in-Some.is)
    (less_left rows (asked_by c.args.caller.now c.args.tree.now.clock) top c.args.with_values c.loop-at.out
    c.in-Some.here c.next_below-at.result (not c.allows-shown.result) n)

pub loop-at-preserved : goal.loop-at-preserved
loop-at-preserved c =
    let rows = c.args.tree.now.rows in
    let s = asked_by c.args.caller.now c.args.tree.now.clock in
    let top = path_of rows c.args.top in
    let l = subst (λ at. IsListing rows s top c.args.with_values c.loop-at.out at) c.in-Some.is c.loop-at.invariant in
    let n : IsNextAt rows top (path_of rows c.in-Some.here) (not c.allows-shown.result) c.next_below-at.result =
    record {
      live = c.next_below-at.ensures.live;
      behind = c.next_below-at.ensures.behind;
    } in
    elim c.if-shown.branch [
      | then-shown+in_ok-put_listed w ↦
          listing-goes-on rows s top c.args.with_values c.loop-at.out c.if-shown.out c.in-Some.here
          c.next_below-at.result c.allows-shown.result l c.allows-shown.ensures n
          (λ _. w.out-is ∙ w.in_ok-put_listed.ensures) (λ no. absurd (let yes = w.if-shown.true in cc))
      | else-shown w ↦
          listing-goes-on rows s top c.args.with_values c.loop-at.out c.if-shown.out c.in-Some.here
          c.next_below-at.result c.allows-shown.result l c.allows-shown.ensures n
          (λ yes. absurd (let no = w.if-shown.false in cc)) (λ _. w.out-is)
    ]
