use Rattle.std.proofs.Common.{◌≡◌, drop, length}
use Rattle.std.specs.List.{list_any}
use Rattle.dm_atomic.specs.Run.{run_members}
use Rattle.dm_atomic.specs.Engine.{state_of, running, IsSoundEngine}
use Rattle.dm_atomic.specs.Marks.{whole_of, Holds}
use Rattle.dm_atomic.specs.Stays.{seq_member_covers, StayBut}
use Rattle.dm_atomic.proofs.Giving.{IsGiving}
use Rattle.dm_atomic.proofs.engine.Engine.run_members.Given as goal

abbrev pub invariant-loop-place : goal.invariant-loop-place
invariant-loop-place l = record {
  giving : IsGiving
      (run_members (running l.fn.self l.caller) l.origin (state_of l.self) (drop l.place l.fn.members))
      (run_members (running l.fn.self l.caller) l.origin (state_of l.fn.self) l.fn.members) l.fn.out l.out;
  left : drop l.place l.members ≡ drop l.place l.fn.members;
  long : length l.members ≡ length l.fn.members;
  clock : l.self.tree.clock ≡ l.fn.self.tree.clock;
  max_obj : l.self.inbox.max_obj ≡ l.fn.self.inbox.max_obj;
  ids : StayBut (λ p. list_any (seq_member_covers p) l.fn.members) (whole_of l.fn.self) (whole_of l.self);
  marks : Holds l.fn.self l.self;
  sound : IsSoundEngine l.self;
}
