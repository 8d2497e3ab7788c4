use Rattle.std.proofs.Common.{◌∙◌, List, ap, subst, sym}
use Rattle.std.specs.List.{AllByRecursion}
use Rattle.dm_job.specs.declared.job.JobEntry.{JobEntry}
use Rattle.dm_service.specs.Ready.{IsReadyEntry}
use Rattle.dm_server.specs.Working.{with_account, sent_without, AreInARow, IsRange}
use Rattle.dm_server.proofs.Lefts.{given_up_is, holds_left}
use Rattle.dm_server.proofs.Rows.{newest_in_a_row, newest_ready}
use Rattle.dm_server.proofs.giving_up.give_up.Goals as goal

pub row_of-requires-clause-ready : goal.row_of-requires-clause-ready
row_of-requires-clause-ready c =
    subst (AllByRecursion IsReadyEntry) (sym c.newest.ensures)
    (newest_ready c.args.plan.now.job c.args.run.next c.args.run.queued c.requires.packages)

pub row_of-requires-clause-numbered : goal.row_of-requires-clause-numbered
row_of-requires-clause-numbered c =
    subst AreInARow (sym c.newest.ensures)
    (newest_in_a_row c.args.plan.now.job c.args.run.next c.args.run.queued c.requires.job.numbered)

pub returns-clause-given_up : goal.returns-clause-given_up
returns-clause-given_up c account p g before =
    let job = c.args.plan.now.job in
    given_up_is (with_account job account) c.args.run p c.args.outbox.now g c.args.findings.now
    c.in_ok-without.field-0 before c.place_before.result c.in_ok-first.first c.in_ok-first.count c.runs_after.result
    c.in_ok-without_job.field-0 c.in_ok-sent.sent
    (record { filled = c.requires.job.filled; numbered = c.requires.job.numbered })
    (record { within = c.requires.holds.place.within; behind = c.requires.holds.place.behind })
    (subst (λ (given : List JobEntry). IsRange given c.in_ok-first.first c.in_ok-first.count) c.newest.ensures
    c.in_ok-first.ensures) c.place_before.ensures c.runs_after.ensures c.in_ok-without_job.ensures
    (c.in_ok-sent.ensures ∙ ap (sent_without c.in_ok-first.first c.in_ok-first.count) c.as_slice.ensures)
    c.in_ok-without.ensures

pub returns-clause-holds : goal.returns-clause-holds
returns-clause-holds c =
    holds_left c.args.plan.now.job c.args.run c.args.outbox.now c.place_before.result c.in_ok-first.first
    c.in_ok-first.count c.runs_after.result c.in_ok-without_job.field-0 c.in_ok-sent.sent c.requires.holds
    c.place_before.ensures c.in_ok-without_job.ensures
    (c.in_ok-sent.ensures ∙ ap (sent_without c.in_ok-first.first c.in_ok-first.count) c.as_slice.ensures)
