use Rattle.syncml_grammar.proofs.Answering.{answer_exact, answer_only}
use Rattle.syncml_grammar.proofs.verdict.judge.Goals as goal

pub returns-clause-exact : goal.returns-clause-exact
returns-clause-exact c = answer_exact c.judged.result c.args.tokens.now c.judged.ensures

pub returns-clause-only : goal.returns-clause-only
returns-clause-only c = λ other judges. answer_only c.judged.result c.args.tokens.now other c.judged.ensures judges
