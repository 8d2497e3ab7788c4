use Rattle.std.proofs.Common.{arith, [], None}
use Rattle.dm_pack.proofs.Ready.{IsText, status_ready}
use Rattle.parts_tests.proofs.queues.status_of.Goals as goal

pub returns : goal.returns
returns c =
    rw (c.new.ensures, c.new-2.ensures, c.new-3.ensures)
    (status_ready 1 c.args.cmd_ref c.args.cmd [] None 200 (omega arith) (omega arith)
    (omega (arith, c.ranges.cmd_ref.fits))
    (record { text = c.requires.text; few = c.requires.few }) tt tt (omega arith))
