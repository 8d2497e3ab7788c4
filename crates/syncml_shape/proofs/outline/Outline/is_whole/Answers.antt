use Rattle.syncml_shape.proofs.Answering.{answer_whole}
use Rattle.syncml_shape.proofs.outline.Outline.is_whole.Goals as goal

pub returns-clause-shape : goal.returns-clause-shape
returns-clause-shape c = λ tokens taken. answer_whole c.may_end.result c.args.self.now tokens c.may_end.ensures taken
