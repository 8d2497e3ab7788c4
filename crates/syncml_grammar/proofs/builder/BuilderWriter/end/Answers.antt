use Rattle.std.proofs.Common.{rules, ap, ◌∙◌}
use Rattle.wbxml_tokens.specs.declared.token.Token.TheVariants.{End}
use Rattle.syncml_grammar.proofs.Runs.{building_more}
use Rattle.syncml_grammar.proofs.builder.BuilderWriter.end.Goals as goal

pub invariant_of-self : goal.invariant_of-self
invariant_of-self c =
    building_more (record { frames = c.self.inside.stack; room = c.self.inside.room; stopped = c.self.inside.stopped })
    End c.end.new.self c.self.inside.room
    c.self.invariant (ap (λ b. b.stopped) c.self.view_is ∙ c.in_ok-go_on.ensures.going) c.in-Ok.ensures (search rules)
