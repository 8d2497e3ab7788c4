use Rattle.dm_device.specs.Runs.{route_of}
use Rattle.dm_device.proofs.Composing.{follows_told, follows_short, follows_for_memory}
use Rattle.dm_device.proofs.runs.follow_up.Goals as goal

pub returns-in-Err-clause-follows : goal.returns-in-Err-clause-follows
returns-in-Err-clause-follows g c =
    follows_for_memory _ _ _ _ (route_of c.args.words.now c.args.device.now.version) _ _ _
    c.tell.new.device.client.machine
    _ _ c.in-Err.ensures.told

pub returns-in-Ok-hold-clause-follows : goal.returns-in-Ok-hold-clause-follows
returns-in-Ok-hold-clause-follows g c =
    follows_told _ _ _ _ _ _ _ (route_of c.args.words.now c.args.device.now.version) _ _ _ _ _ c.in-Ok-hold.word _ _
    _ _ _
    c.in-Ok.ensures.told c.in-Ok-hold.ensures.holds (rw c.in-Ok.ensures.version at c.close.ensures.closes)

pub returns-in-Err-hold-clause-follows : goal.returns-in-Err-hold-clause-follows
returns-in-Err-hold-clause-follows g c =
    follows_short _ _ _ _ _ _ (route_of c.args.words.now c.args.device.now.version) _ _ _ _ c.hold.new.client.machine
    c.in-Err-hold.exit _ _ _
    c.in-Err-hold.ensures.cut c.in-Ok.ensures.told c.in-Err-hold.ensures.holds
