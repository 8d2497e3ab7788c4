use Rattle.syncml_shape.proofs.Answering.{answer_taken, answer_refused}
use Rattle.syncml_shape.proofs.outline.Outline.take.Goals as goal

pub returns-clause-taken : goal.returns-clause-taken
returns-clause-taken c = λ before taken.
    answer_taken c.go_on.result c.args.self.now c.go_on.new.self c.args.token.now before c.go_on.ensures.step taken

pub returns-clause-refused : goal.returns-clause-refused
returns-clause-refused c = λ before reason taken.
    answer_refused c.go_on.result c.args.self.now c.go_on.new.self c.args.token.now before reason c.go_on.ensures.step
    taken
