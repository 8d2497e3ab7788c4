use Rattle.dm_heads.proofs.Holding.{request_holds, posts_bring}
use Rattle.dm_heads.proofs.laws.requests_are_posts.Goals as goal

pub returns-clause-only : goal.returns-clause-only
returns-clause-only c = request_holds

pub returns-clause-each : goal.returns-clause-each
returns-clause-each c = posts_bring
