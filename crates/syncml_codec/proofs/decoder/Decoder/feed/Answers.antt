use Rattle.std.proofs.Common.{sym, ap, ◌∙◌}
use Rattle.syncml_codec.proofs.Feeding.{fed_stopped}
use Rattle.syncml_codec.proofs.decoder.Decoder.feed.Goals as goal

pub returns-in-Some-clause-told : goal.returns-in-Some-clause-told
returns-in-Some-clause-told c bytes h =
    (fed_stopped c.args.self.now bytes c.args.piece.now c.in-Some.error h
    (sym (ap (λ d. d.stopped) c.self.view_is) ∙ c.in-Some.is)).0

pub returns-in-Some-clause-decoded : goal.returns-in-Some-clause-decoded
returns-in-Some-clause-decoded c bytes h =
    (fed_stopped c.args.self.now bytes c.args.piece.now c.in-Some.error h
    (sym (ap (λ d. d.stopped) c.self.view_is) ∙ c.in-Some.is)).1
