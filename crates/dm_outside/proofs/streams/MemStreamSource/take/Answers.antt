use Rattle.std.proofs.Common.{arith, ap}
use Rattle.dm_base.proofs.Known.{gave, gave_none}
use Rattle.dm_outside.proofs.streams.MemStreamSource.take.Goals as goal

pub returns-clause-bytes : goal.returns-clause-bytes
returns-clause-bytes c =
    let count = rw c.as_slice.ensures at c.fill_front-count.ensures.count in
    let front = rw c.as_slice.ensures at c.fill_front-count.ensures.front in (
      grind arith,
      gave c.self.inside.reply _ _ c.self.inside.at c.fill_front-count.result (ap (λ s. s.left) c.self.view_is) front,
      gave_none _ _ _ _ _ c.self.invariant.1 c.requires c.self.invariant.0 count,
    )
