use Rattle.dm_exit.specs.declared.exit.Exit.TheVariants as exit
use Rattle.dm_device.proofs.Running.{held_told, held_in_part_told, unfinished_told}
use Rattle.dm_device.proofs.runs.hold.Goals as goal

pub returns-in-Err-clause-holds : goal.returns-in-Err-clause-holds
returns-in-Err-clause-holds g c us =
    unfinished_told _ _ us _ _ _ _ c.args.number _ _ _ exit.NoMemory _
    (rw c.as_slice.ensures at (rw c.as_slice-2.ensures at c.in-Err.ensures.holds))

pub returns-in-Ok-put_session-clause-holds : goal.returns-in-Ok-put_session-clause-holds
returns-in-Ok-put_session-clause-holds g c us =
    held_told _ _ us _ _ _ _ c.args.number _ _ c.in-Ok.word _ _
    (rw c.as_slice.ensures at (rw c.as_slice-2.ensures at c.in-Ok.ensures.holds)) c.in-Ok-put_session.ensures.bytes

pub returns-in-Err-put_session-clause-holds : goal.returns-in-Err-put_session-clause-holds
returns-in-Err-put_session-clause-holds g c us =
    held_in_part_told _ _ us _ _ _ _ c.args.number _ _ c.in-Ok.word _ _ _
    (rw c.as_slice.ensures at (rw c.as_slice-2.ensures at c.in-Ok.ensures.holds)) c.in-Err-put_session.ensures.bytes
