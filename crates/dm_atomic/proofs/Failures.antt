-- A task that is no success leaves the tree.
use Rattle.std.proofs.Common.{◌≡◌, ℕ, false, cond, List, Option, Some, refl, sym, ◌∙◌, ap, subst}
use Rattle.syncml_types.specs.declared.command.Step.{Step}
use Rattle.dm_objects.specs.declared.piece.Piece.{Piece}
use Rattle.dm_objects.specs.declared.piece.What.{What}
use Rattle.dm_objects.specs.declared.piece.What.TheVariants.{Whole, Buffered, Refused}
use Rattle.dm_objects.specs.Gathering.{gather}
use Rattle.dm_commands.specs.Laws.{ChangesNothing}
use Rattle.dm_commands.specs.Outcomes.{is_success}
use Rattle.dm_commands.proofs.Refusals.{refused_right, refused_step}
use Rattle.dm_atomic.specs.declared.tasks.Post.{Post}
use Rattle.dm_atomic.specs.declared.tasks.Work.{Work}
use Rattle.dm_atomic.specs.declared.tasks.Work.TheVariants as work
use Rattle.dm_atomic.specs.Run.{State, Running, Ran, started_by, step_ran, by_what, by_work, one_step}
use Rattle.dm_atomic.specs.Laws.{LeavesTree, FailedTaskLeavesTree, RefusedRightLeavesTree}

step-leaves : (r : Running) (s : State) (post : Post) (broken : Option (List ℕ)) (step : Step)
    → ChangesNothing r.setting s.tree step
    → LeavesTree s (step_ran r s post broken step)
step-leaves r s post broken step h = record {
  tree = h.tree;
  group = refl;
  started = ap (λ b. cond b (Some (started_by step)) s.started) h.started;
  found = h.found;
}

what-leaves : (r : Running) (s : State) (post : Post) (broken : Option (List ℕ)) (w : What)
    → is_success (by_what r s post broken w).report.code ≡ false → LeavesTree s (by_what r s post broken w)
what-leaves r s post broken (Whole step) e = step-leaves r s post broken step (refused_step r.setting s.tree step e)
what-leaves r s post broken Buffered e = record { tree = refl; group = refl; started = refl; found = refl }
what-leaves r s post broken (Refused code) e = record { tree = refl; group = refl; started = refl; found = refl }

-- another object doesn't matter
piece-leaves : (s : State) (ran : Ran) (piece : Piece) (r : Running)
    → LeavesTree (record s { object = (gather r.max_obj s.object piece).object }) ran
    → LeavesTree s ran
piece-leaves s ran piece r h = record { tree = h.tree; group = h.group; started = h.started; found = h.found }

work-leaves : (r : Running) (s : State) (post : Post) (w : Work) → is_success (by_work r s post w).report.code ≡ false
    → LeavesTree s (by_work r s post w)
work-leaves r s post (work.Piece piece) e =
    let g = gather r.max_obj s.object piece in
    let after = record s { object = g.object } in
    piece-leaves s (by_what r after post g.broken g.what) piece r (what-leaves r after post g.broken g.what e)
work-leaves r s post (work.Alert code) e = record { tree = refl; group = refl; started = refl; found = refl }

pub failed_task : FailedTaskLeavesTree
unfolding one_step
failed_task r s task e = work-leaves r s task.post task.work e

pub refused_right_leaves : RefusedRightLeavesTree
unfolding one_step
refused_right_leaves r s task piece step text uri asked is_piece is_whole target reads asks is_no =
    let g = gather r.max_obj s.object piece in
    let after = record s { object = g.object } in
    let same : by_work r s task.post task.work ≡ step_ran r after task.post g.broken step =
    ap (by_work r s task.post) is_piece ∙ ap (by_what r after task.post g.broken) is_whole in
    let h = refused_right r.setting s.tree step text uri asked target reads asks is_no in
    subst (λ ran. (is_success ran.report.code ≡ false) × LeavesTree s ran) (sym same) (
      h.code,
      piece-leaves s (step_ran r after task.post g.broken step) piece r
          (step-leaves r after task.post g.broken step h),
    )
