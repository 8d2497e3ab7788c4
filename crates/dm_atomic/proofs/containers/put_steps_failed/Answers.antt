use Rattle.std.proofs.Common.{◌≡◌, ◌∷◌, ◌++◌, map, subst, sym}
use Rattle.std.specs.Prelude.{OnOk}
use Rattle.dm_atomic.specs.Made.{all_reported, told}
use Rattle.dm_atomic.specs.Run.{undone, not_run}
use Rattle.dm_atomic.proofs.Telling.{told_both_ok}
use Rattle.dm_atomic.proofs.MadeAhead.{all_reported_append}
use Rattle.dm_atomic.proofs.containers.put_steps_failed.Goals as goal

pub returns-clause-ok : goal.returns-clause-ok
returns-clause-ok c =
    let before = map undone c.args.done.now in
    let behind = c.args.failed.now ∷ map not_run c.args.unrun.now in
    subst (λ made. OnOk c.put_failure.result (c.put_failure.new.out ≡ c.args.out.now ++ told made))
    (sym (all_reported_append before behind))
    (told_both_ok c.put_failure.result c.args.out.now c.put_undone.new.out c.put_failure.new.out
    (all_reported before) (all_reported behind)
    c.in_ok-put_undone.ensures.ok c.put_failure.ensures.ok)
