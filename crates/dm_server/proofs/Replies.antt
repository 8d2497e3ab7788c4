-- What the client's commands are answered, one after the other.
use Rattle.std.proofs.Common.{◌≡◌, ◌<◌, ◌+◌, ◌++◌, ℕ, List, length, drop, get_or, append_assoc, sym, ap, ◌∙◌}
use Rattle.syncml_types.specs.declared.command.Command.{Command}
use Rattle.dm_atomic.specs.declared.tasks.Origin.{Origin}
use Rattle.dm_atomic.specs.Answers.{statuses}
use Rattle.dm_atomic.specs.Made.{told}
use Rattle.dm_atomic.specs.Posts.{asked_posts}
use Rattle.dm_atomic.proofs.Telling.{told_append}
use Rattle.dm_service.specs.Answers.{code_for, answers_command, answers_all}
use Rattle.dm_server.proofs.Runs.{next_left}

pub one_more : (origin : Origin) (body : List Command) (at : ℕ) (x : Command) (code : ℕ) (whole out now : List Command)
    → out ++ told (answers_all origin (drop at body)) ≡ whole → at < length body → x ≡ get_or body at x
    → code ≡ code_for x → now ≡ out ++ told (statuses code (asked_posts origin x))
    → now ++ told (answers_all origin (drop (at + 1) body)) ≡ whole
one_more origin body at x code whole out now before low is told_so e =
    let rest = answers_all origin (drop (at + 1) body) in
    ap (λ cs. cs ++ told rest) (e ∙ ap (λ n. out ++ told (statuses n (asked_posts origin x))) told_so)
    ∙ append_assoc out (told (answers_command origin x)) (told rest)
    ∙ ap (λ cs. out ++ cs) (sym (told_append (answers_command origin x) rest))
    ∙ ap (λ l. out ++ told (answers_all origin l)) (sym (next_left at body x low is))
    ∙ before
