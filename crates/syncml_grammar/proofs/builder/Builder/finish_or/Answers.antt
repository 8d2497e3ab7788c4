use Rattle.std.proofs.Common.{sym, ap, ◌∙◌, option_map}
use Rattle.syncml_grammar.specs.Opens.{parts_from_whole}
use Rattle.syncml_grammar.proofs.FitReads.{read_is_fit}
use Rattle.syncml_grammar.proofs.Answering.{fit_behind}
use Rattle.syncml_grammar.proofs.builder.Builder.finish_or.Goals as goal

pub of_parts-requires : goal.of_parts-requires
of_parts-requires g c =
    fit_behind read_is_fit
    (record { frames = c.self.inside.stack; room = c.self.inside.room; stopped = c.self.inside.stopped })
    (parts_from_whole c.in-Some-into_parts.parts)
    c.self.invariant c.in_default.is (sym c.into_parts.ensures ∙ ap (option_map parts_from_whole) c.in-Some-into_parts.is)
