use Rattle.dm_device.specs.Runs.{route_of}
use Rattle.dm_device.proofs.Running.{closes_whole, closes_in_part, closes_for_memory}
use Rattle.dm_device.proofs.runs.close.Goals as goal

pub returns-in-Err-clause-closes : goal.returns-in-Err-clause-closes
returns-in-Err-clause-closes g c us ns =
    closes_for_memory _ _ us ns (route_of c.args.words.now c.args.device.now.version) c.args.device.now.client.machine
    c.args.word _ _ c.in-Err.ensures.parts

pub returns-in-Ok-put_last-clause-closes : goal.returns-in-Ok-put_last-clause-closes
returns-in-Ok-put_last-clause-closes g c us ns =
    rw c.exit_of.ensures.exit (closes_whole _ _ us ns (route_of c.args.words.now c.args.device.now.version)
    c.args.device.now.client.machine c.args.word _ _ _ c.in-Ok.ensures.parts
    (rw c.tree.ensures.nodes at c.in-Ok-put_last.ensures.bytes))

pub returns-in-Err-put_last-clause-closes : goal.returns-in-Err-put_last-clause-closes
returns-in-Err-put_last-clause-closes g c us ns =
    closes_in_part _ _ us ns (route_of c.args.words.now c.args.device.now.version) c.args.device.now.client.machine
    c.args.word c.in-Err-put_last.exit _ _ _ c.in-Ok.ensures.parts
    (rw c.tree.ensures.nodes at c.in-Err-put_last.ensures.bytes)
