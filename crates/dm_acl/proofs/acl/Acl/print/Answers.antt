use Rattle.std.proofs.Common.{◌≤◌, length, ap, subst, ◌∙◌, Ok}
use Rattle.dm_acl.specs.Grammar.{printed}
use Rattle.dm_acl.specs.Reading.{parse_of}
use Rattle.dm_acl.proofs.Grammars.{printed_is_read}
use Rattle.dm_acl.proofs.acl.Acl.print.Goals as goal

pub returns-in-Ok-clause-again : goal.returns-in-Ok-clause-again
returns-in-Ok-clause-again c = λ short.
    let text = c.in-Ok.ensures ∙ ap printed c.as_ref.ensures in
    ap parse_of text
    ∙ printed_is_read c.self.inside.entries.value c.self.invariant (subst (λ t. length t ≤ 4096) text short)
    ∙ ap (λ a. Ok a) c.self.view_is
