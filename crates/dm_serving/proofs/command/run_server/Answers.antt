use Rattle.dm_serving.proofs.Serving.{report_told, door_failed, memory_wanting}
use Rattle.dm_serving.proofs.command.run_server.Goals as goal

pub returns-in-Ok-clause-does : goal.returns-in-Ok-clause-does
returns-in-Ok-clause-does g c = λ job first.
    report_told c.args.words.now job c.as_slice-address.result.now c.args.server.now c.listen_and_answer.new.core _ _ _ _
    c.put_report.result c.as_slice-address.ensures first c.put_report.ensures.bytes c.in-Ok.ensures.run

pub returns-in-Err-Failed-clause-does : goal.returns-in-Err-Failed-clause-does
returns-in-Err-Failed-clause-does g c = λ job first.
    door_failed c.args.words.now job c.as_slice-address.result.now c.args.server.now c.listen_and_answer.new.core
    c.in-Err-Failed.field-0 _ _ _ c.as_slice-address.ensures first c.in-Err-Failed.field-0-is c.in-Err-Failed.ensures.run

pub returns-in-Err-Memory-clause-does : goal.returns-in-Err-Memory-clause-does
returns-in-Err-Memory-clause-does g c = λ job first.
    memory_wanting c.args.words.now job c.as_slice-address.result.now c.args.server.now c.listen_and_answer.new.core
    c.in-Err-Memory.field-0 _ _ _ c.as_slice-address.ensures first c.in-Err-Memory.field-0-is c.in-Err-Memory.ensures.run
