use Rattle.std.proofs.Common.{rules}
use Rattle.dm_acl.proofs.Sames.{same_means}
use Rattle.dm_acl.proofs.acl.Acl.is_same.Goals as goal

pub returns-clause-same : goal.returns-clause-same
returns-clause-same c = same_means c.same_entries.result c.args.self.now c.args.other.now (search rules)
