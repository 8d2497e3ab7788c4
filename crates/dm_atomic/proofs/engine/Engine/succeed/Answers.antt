use Rattle.dm_atomic.specs.Engine.{state_of}
use Rattle.dm_atomic.proofs.Closings.{succeed_gives}
use Rattle.dm_atomic.proofs.engine.Engine.succeed.Goals as goal

pub returns-clause-gives : goal.returns-clause-gives
returns-clause-gives c =
    succeed_gives c.args.self.now (state_of c.close_group.new.self) c.args.post.now c.args.done c.args.out.now
    c.put_parts_done.new.out c.put_own_container.new.out c.requires.is_open c.in_ok-put_parts_done.ensures.ok
    c.in_ok-put_own_container.ensures.ok c.close_group.ensures.state
