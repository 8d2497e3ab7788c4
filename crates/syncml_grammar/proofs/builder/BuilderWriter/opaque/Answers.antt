use Rattle.std.proofs.Common.{ap, ◌∙◌}
use Rattle.wbxml_tokens.specs.declared.token.Token.TheVariants.{Opaque}
use Rattle.syncml_grammar.proofs.Runs.{building_more}
use Rattle.syncml_grammar.proofs.builder.BuilderWriter.opaque.Goals as goal

pub invariant_of-self : goal.invariant_of-self
invariant_of-self c =
    building_more (record { frames = c.self.inside.stack; room = c.self.inside.room; stopped = c.self.inside.stopped })
    (Opaque c.args.bytes.now) c.piece.new.self c.piece.new.room
    c.self.invariant (ap (λ b. b.stopped) c.self.view_is ∙ c.in_ok-go_on.ensures.going) c.in-Ok.ensures.opaque
    c.in-Ok.ensures.room
