use Rattle.dm_exit.specs.declared.exit.Exit.TheVariants as exit
use Rattle.dm_replay.specs.From.{ending_at}
use Rattle.dm_exit.proofs.Parts.{part_of_text, part_at_end, end_of_text}
use Rattle.dm_replay.proofs.Ended.{halt_of_text, halt_not_done}
use Rattle.dm_replay.proofs.Faults.{part_is_no_fault, end_is_no_fault, fault_behind}
use Rattle.dm_replay.proofs.Running.{so_breaks, so_whole, so_halts}
use Rattle.dm_replay.proofs.endings.put_end.Goals as goal

pub returns-in-Err-clause-output : goal.returns-in-Err-clause-output
returns-in-Err-clause-output g c =
    so_breaks _ c.args.version _ (ending_at c.args.number) c.args.due.now _ _ _ c.in-Err.ensures.bytes

pub returns-in-Ok-read_end-clause-output : goal.returns-in-Ok-read_end-clause-output
returns-in-Ok-read_end-clause-output g c =
    so_whole _ c.args.version _ (ending_at c.args.number) c.args.due.now _ _ _ _ c.in-Ok.ensures.bytes
    c.in-Ok-read_end.ensures.ending c.put_whole.ensures.bytes

pub returns-in-Err-read_end-clause-output : goal.returns-in-Err-read_end-clause-output
returns-in-Err-read_end-clause-output g c =
    so_halts _ c.args.version _ (ending_at c.args.number) c.in-Err-read_end.halt c.args.due.now _ _ _ _
    c.in-Ok.ensures.bytes c.in-Err-read_end.ensures.ending c.put_halt.ensures.bytes

pub returns-in-Err-clause-answered : goal.returns-in-Err-clause-answered
returns-in-Err-clause-answered g c is =
    absurd (part_is_no_fault _ _ c.args.due.now c.in-Err.exit c.in-Err.ensures.bytes is)

pub returns-in-Ok-read_end-clause-answered : goal.returns-in-Ok-read_end-clause-answered
returns-in-Ok-read_end-clause-answered g c is =
    absurd (end_is_no_fault _ exit.Done _ _ _ (λ same. cc) c.put_whole.ensures.bytes is)

pub returns-in-Err-read_end-clause-answered : goal.returns-in-Err-read_end-clause-answered
returns-in-Err-read_end-clause-answered g c is =
    fault_behind c.in-Err-read_end.halt c.args.due.now _ _ _ _ c.in-Ok.ensures.bytes c.put_halt.ensures.bytes is

pub returns-in-Err-clause-kind : goal.returns-in-Err-clause-kind
returns-in-Err-clause-kind g c = part_of_text c.args.due.now _ _ c.in-Err.exit c.in-Err.ensures.bytes

pub returns-in-Err-clause-ended : goal.returns-in-Err-clause-ended
returns-in-Err-clause-ended g c = part_at_end c.args.due.now _ _ _ _ c.in-Err.exit c.in-Err.ensures.bytes

pub returns-in-Ok-read_end-clause-kind : goal.returns-in-Ok-read_end-clause-kind
returns-in-Ok-read_end-clause-kind g c = end_of_text _ exit.Done _ _ _ tt c.put_whole.ensures.bytes

pub returns-in-Ok-read_end-clause-ended : goal.returns-in-Ok-read_end-clause-ended
returns-in-Ok-read_end-clause-ended g c = λ is. c.in-Ok-read_end.ensures.ended

pub returns-in-Err-read_end-clause-kind : goal.returns-in-Err-read_end-clause-kind
returns-in-Err-read_end-clause-kind g c = halt_of_text c.in-Err-read_end.halt _ _ _ c.put_halt.ensures.bytes

pub returns-in-Err-read_end-clause-ended : goal.returns-in-Err-read_end-clause-ended
returns-in-Err-read_end-clause-ended g c = λ is.
    absurd (halt_not_done c.in-Err-read_end.halt _ _ _ c.put_halt.ensures.bytes is)
