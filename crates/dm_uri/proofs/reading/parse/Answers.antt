use Rattle.dm_uri.proofs.Answered.{accepted, refused, kept}
use Rattle.dm_uri.proofs.reading.parse.Goals as goal

pub returns-clause-ok : goal.returns-clause-ok
returns-clause-ok c = accepted c.args.text.now c.read.result c.read.ensures

pub returns-clause-err : goal.returns-clause-err
returns-clause-err c = refused c.args.text.now c.read.result c.read.ensures

pub returns-clause-only : goal.returns-clause-only
returns-clause-only c = kept c.args.text.now c.read.result c.read.ensures
