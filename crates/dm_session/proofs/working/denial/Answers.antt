use Rattle.dm_session.proofs.Sendable.{own_header_ready}
use Rattle.dm_session.proofs.working.denial.Goals as goal

pub farewell-requires-clause-header : goal.farewell-requires-clause-header
farewell-requires-clause-header c =
    let w = c.args.work.now in
    let can = c.requires.can_answer in
    own_header_ready c.args.engine.now w.rest.now _ w.progress w.account.now c.in_ok-header.header
    c.tree.ensures.nodes c.in_ok-header.ensures can.limits can.device can.account can.number can.own
