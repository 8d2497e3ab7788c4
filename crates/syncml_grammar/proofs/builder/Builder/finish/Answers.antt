use Rattle.std.proofs.Common.{ap, ◌∙◌}
use Rattle.std.specs.Result.{result_ok}
use Rattle.syncml_grammar.specs.Building.{built_by}
use Rattle.syncml_grammar.proofs.Answering.{finish_spelled, found_again}
use Rattle.syncml_grammar.proofs.builder.Builder.finish.Goals as goal

pub returns-clause-message : goal.returns-clause-message
returns-clause-message c =
    let is = c.ok.ensures.value ∙ ap result_ok c.finish_or.ensures ∙ found_again (built_by c.args.self) _
    in λ tokens parts has. finish_spelled c.ok.result c.args.self tokens parts is has
