use Rattle.dm_device.proofs.Devices.{known_runs, known_halts}
use Rattle.dm_device.proofs.command.device.Goals as goal

pub returns-in-Ok-clause-output : goal.returns-in-Ok-clause-output
returns-in-Ok-clause-output g c =
    known_runs (g.S.Source.left c.args.src.now) c.args.words.now c.in-Ok.start _ _ _ _ c.manage.result
    c.in-Ok.ensures.start c.manage.ensures.answer c.manage.ensures.runs

pub returns-in-Err-clause-output : goal.returns-in-Err-clause-output
returns-in-Err-clause-output g c =
    known_halts (g.S.Source.left c.args.src.now) c.args.words.now c.in-Err.halt _ _ _ c.put_halt.result
    c.in-Err.ensures.start c.put_halt.ensures.bytes
