use Rattle.dm_pair.proofs.Writing.{writes_there}
use Rattle.dm_pair.proofs.text.run_behind.Goals as goal

pub returns : goal.returns
returns c =
    writes_there c.run_events.result c.args.number _ _ _ _ c.args.text.now c.in_ok-ids.ensures
    c.in_ok-pairing.ensures.begun c.run_events.ensures
