use Rattle.std.proofs.Common.{ap, ◌∙◌}
use Rattle.dm_replay.specs.Events.{account_place as place_in}
use Rattle.dm_replay.specs.Trace.{servers_of}
use Rattle.dm_start.specs.Start.{told_of}
use Rattle.dm_device.specs.Outsides.{outside_of}
use Rattle.dm_device.proofs.Devices.{account_runs, answer_is_late, answer_is_managed, wanting}
use Rattle.dm_device.proofs.command.manage.Goals as goal

pub returns-in-Ok-clause-runs : goal.returns-in-Ok-clause-runs
returns-in-Ok-clause-runs g c =
    account_runs c.args.words.now (told_of c.args.start) c.in-Some.account c.in-Ok.client.machine _ _ _ _ _
    (c.in-Some.ensures.place ∙ ap (place_in (servers_of c.args.start.accounts)) c.as_slice.ensures) c.in-Ok.ensures.machine
    c.run.ensures.runs

pub returns-in-Ok-clause-untouched : goal.returns-in-Ok-clause-untouched
returns-in-Ok-clause-untouched g c = λ early. absurd (answer_is_late c.run.result c.run.ensures.answer early)

pub returns-in-Ok-clause-answer : goal.returns-in-Ok-clause-answer
returns-in-Ok-clause-answer g c = answer_is_managed c.run.result c.run.ensures.answer

pub returns-in-Err-clause-runs : goal.returns-in-Err-clause-runs
returns-in-Err-clause-runs g c =
    wanting c.args.words.now (told_of c.args.start)
    (outside_of (g.D.Dialer.told c.args.dialer.now) (g.U.Updater.told c.args.updater.now)
    (g.N.Nonces.left c.args.nonces.now)) (g.K.Sink.got c.args.out.now)
