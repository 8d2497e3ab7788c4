use Rattle.dm_pack.proofs.Fixtures.{ok_text}
use Rattle.parts_tests.proofs.queues.text.Goals as goal

pub returns-clause-text : goal.returns-clause-text
returns-clause-text c = ok_text c.of_slice.result c.args.text.now c.requires.low c.of_slice.ensures
