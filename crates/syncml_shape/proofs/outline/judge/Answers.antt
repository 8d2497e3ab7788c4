use Rattle.syncml_shape.proofs.Answering.{answer_exact, answer_only}
use Rattle.syncml_shape.proofs.outline.judge.Goals as goal

pub returns-clause-exact : goal.returns-clause-exact
returns-clause-exact c = answer_exact c.judged.result c.args.tokens.now c.judged.ensures

pub returns-clause-only : goal.returns-clause-only
returns-clause-only c = λ other judged. answer_only c.judged.result c.args.tokens.now other c.judged.ensures judged
