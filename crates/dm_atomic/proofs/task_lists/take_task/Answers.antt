use Rattle.std.proofs.Common.{◌∙◌, ap, get_or}
use Rattle.dm_atomic.proofs.TasksAhead.{next_taken}
use Rattle.dm_atomic.proofs.task_lists.take_task.Goals as goal

pub returns-clause-task : goal.returns-clause-task
returns-clause-task c =
    next_taken c.args.origin c.args.in_atomic c.args.command.now c.take_piece.new.command c.args.place
    c.index-as_slice-place.result c.in_ok-post.post c.in_ok-piece.piece c.requires.there
    (c.index-as_slice-place.is
    ∙ ap (λ xs. get_or xs c.args.place c.index-as_slice-place.result) c.as_slice.ensures)
    c.in_ok-post.ensures c.in_ok-piece.ensures.piece c.take_piece.ensures.left c.take_piece.ensures.count
    c.take_piece.ensures.others
