use Rattle.std.proofs.Common.{◌∙◌, ap, refl}
use Rattle.syncml_types.specs.declared.values.Header.{Header}
use Rattle.dm_ends.specs.Farewells.{farewell}
use Rattle.dm_server.specs.Inside.{at_work}
use Rattle.dm_server.specs.Working.{with_account}
use Rattle.dm_server.proofs.Steps.{denied_sends, header_fits}
use Rattle.dm_server.proofs.working.denied.Goals as goal

pub farewell-requires-clause-header : goal.farewell-requires-clause-header
farewell-requires-clause-header c =
    let w = c.args.work.now in
    header_fits w.plan.now.job w.account.now w.progress w.message.now c.in_ok-header.header
    c.in_ok-header.ensures c.requires.limits c.requires.account c.requires.number c.requires.own c.requires.message.fit

pub returns-clause-state : goal.returns-clause-state
returns-clause-state c o g known before =
    let w = c.args.work.now in
    let job = with_account w.plan.now.job w.account.now in
    let m = w.message.now in
    denied_sends job w.run w.progress o g known before m c.args.code w.nonce.now.bytes
    c.in_ok-farewell.farewell.message
    (c.in_ok-farewell.ensures.message
    ∙ ap (λ (h : Header). farewell h m c.args.code w.nonce.now.bytes)
    (c.in_ok-header.ensures (at_work job w.run w.progress o g known before) refl))
