use Rattle.std.proofs.Common.{◌+◌, arith, drop, map}
use Rattle.dm_pack.specs.Entries.{whole_entry}
use Rattle.dm_pack.proofs.Listed.{fresh_at, one_listed, listed_place}
use Rattle.dm_pack.proofs.Taking.{all_rest}
use Rattle.dm_pack.proofs.at_once.all_that_fit.Goals as goal

pub with_command-requires-clause-ready : goal.with_command-requires-clause-ready
with_command-requires-clause-ready c =
    let command = c.command_at-command.result.now in
    let first = fresh_at c.args.commands.now c.loop-at.at command c.command_at-command.ensures in
    (all_rest (drop c.loop-at.at (map whole_entry c.args.commands.now)) (whole_entry command)
    (drop (c.loop-at.at + 1) (map whole_entry c.args.commands.now)) first c.loop-at.invariant.ready).0

pub loop-at-preserved : goal.loop-at-preserved
loop-at-preserved c =
    one_listed c.args.header.now c.args.room c.loop-at.at c.args.commands.now c.command_at-command.result.now
    c.loop-at.place c.in-Some.next c.loop-at.invariant c.requires.room c.command_at-command.ensures c.in-Some.ensures

pub returns-clause-place : goal.returns-clause-place
returns-clause-place c =
    let end = c.loop-at-test.false in
    listed_place c.args.header.now c.args.room c.loop-at.at c.args.commands.now c.loop-at.place c.loop-at.invariant
    (omega (arith, end, c.len-at-end.ensures))
