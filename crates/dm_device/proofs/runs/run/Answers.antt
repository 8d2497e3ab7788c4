use Rattle.std.proofs.Common.{sym, ◌∙◌}
use Rattle.dm_device.specs.Runs.{route_of}
use Rattle.dm_device.proofs.Composing.{run_for_memory, run_short, run_closed, run_followed}
use Rattle.dm_device.proofs.runs.run.Goals as goal

pub returns-in-Err-clause-runs : goal.returns-in-Err-clause-runs
returns-in-Err-clause-runs g c =
    run_for_memory _ _ _ (route_of c.args.words.now c.args.device.now.version) _ _ _ _ _

pub returns-in-Err-hold-clause-runs : goal.returns-in-Err-hold-clause-runs
returns-in-Err-hold-clause-runs g c =
    run_short _ _ _ _ _ (route_of c.args.words.now c.args.device.now.version) c.args.device.now.account
    c.args.words.now.kind c.args.words.now.session _ c.hold.new.client.machine c.in-Err-hold.exit _ _
    c.in-Err-hold.ensures.cut
    (rw c.in-Ok.ensures.machine at (c.in-Err-hold.ensures.holds (g.U.Updater.told c.args.updater.now)))

pub returns-then-leaves_update-clause-runs : goal.returns-then-leaves_update-clause-runs
returns-then-leaves_update-clause-runs g c =
    run_followed _ _ _ _ _ _ _ _ (route_of c.args.words.now c.args.device.now.version) c.args.device.now.account
    c.args.words.now.kind c.args.words.now.session _ _ c.in-Ok-hold.word _ _ _ _
    (rw c.in-Ok.ensures.machine at (c.in-Ok-hold.ensures.holds (g.U.Updater.told c.args.updater.now)))
    (sym c.leaves_update.ensures ∙ c.if-leaves_update.true)
    (rw c.in-Ok.ensures.version at (rw c.in-Ok.ensures.account at c.follow_up.ensures.follows))

pub returns-else-leaves_update-clause-runs : goal.returns-else-leaves_update-clause-runs
returns-else-leaves_update-clause-runs g c =
    run_closed _ _ _ _ _ _ (route_of c.args.words.now c.args.device.now.version) c.args.device.now.account
    c.args.words.now.kind c.args.words.now.session _ _ c.in-Ok-hold.word _ _ _ _
    (rw c.in-Ok.ensures.machine at (c.in-Ok-hold.ensures.holds (g.U.Updater.told c.args.updater.now)))
    (sym c.leaves_update.ensures ∙ c.if-leaves_update.false)
    (rw c.in-Ok.ensures.version at (c.close.ensures.closes (g.U.Updater.told c.args.updater.now)
    (g.N.Nonces.left c.hold.new.nonces)))
