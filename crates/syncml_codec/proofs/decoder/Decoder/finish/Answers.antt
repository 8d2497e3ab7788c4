use Rattle.std.proofs.Common.{sym, ap, ◌∙◌}
use Rattle.std.specs.Prelude.{ok_or}
use Rattle.syncml_grammar.specs.Building.{built_by}
use Rattle.syncml_codec.proofs.Feeding.{cut, finished_stopped, finished}
use Rattle.syncml_codec.proofs.decoder.Decoder.finish.Goals as goal

pub returns-in-Some-clause-read : goal.returns-in-Some-clause-read
returns-in-Some-clause-read c bytes h =
    finished_stopped c.args.self bytes c.in-Some.error h (sym (ap (λ d. d.stopped) c.self.view_is) ∙ c.in-Some.is)

pub returns-clause-read : goal.returns-clause-read
returns-clause-read c bytes h =
    finished c.args.self bytes c.finish_or.result h (sym (ap (λ d. d.stopped) c.self.view_is) ∙ c.in_default.is)
    (c.finish_or.ensures ∙ ap (λ d. ok_or (built_by d.building) (cut d)) c.self.view_is)
