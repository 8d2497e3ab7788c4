use Rattle.std.proofs.Common.{rules, ap, ◌∙◌}
use Rattle.wbxml_tokens.specs.declared.token.Token.TheVariants.{Tag}
use Rattle.syncml_grammar.proofs.Runs.{building_more}
use Rattle.syncml_grammar.proofs.builder.BuilderWriter.tag.Goals as goal

pub invariant_of-self : goal.invariant_of-self
invariant_of-self c =
    building_more (record { frames = c.self.inside.stack; room = c.self.inside.room; stopped = c.self.inside.stopped })
    (Tag c.args.element c.args.content) c.tag.new.self c.self.inside.room
    c.self.invariant (ap (λ b. b.stopped) c.self.view_is ∙ c.in_ok-go_on.ensures.going) c.in-Ok.ensures (search rules)
