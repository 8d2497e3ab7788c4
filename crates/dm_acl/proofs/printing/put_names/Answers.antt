use Rattle.std.proofs.Common.{ap, ◌∙◌, ◌++◌}
use Rattle.dm_acl.proofs.Texts.{names_put}
use Rattle.dm_acl.proofs.printing.put_names.Goals as goal

pub returns-in_ok-put_more_names-in-Some : goal.returns-in_ok-put_more_names-in-Some
returns-in_ok-put_more_names-in-Some c =
    names_put c.args.out.now _ _ _ _ _ c.in-Some.ensures.cases.0
    (c.in_ok-extend-in-Some.ensures.ok ∙ ap (λ f. c.args.out.now ++ f) c.as_slice.ensures)
    c.in_ok-put_more_names-in-Some.ensures
