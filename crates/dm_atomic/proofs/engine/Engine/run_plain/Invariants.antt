use Rattle.std.proofs.Common.{◌≡◌, drop, false, length}
use Rattle.syncml_types.specs.declared.command.Command.TheVariants as commands
use Rattle.dm_atomic.specs.Tasks.{item_tasks, plain_tasks}
use Rattle.dm_atomic.specs.Run.{in_sequence}
use Rattle.dm_atomic.specs.Engine.{state_of, running, IsSoundEngine}
use Rattle.dm_atomic.specs.Marks.{whole_of, Holds}
use Rattle.dm_atomic.specs.Stays.{covers, StayBut}
use Rattle.dm_atomic.proofs.Covering.{IsWithin}
use Rattle.dm_atomic.proofs.Giving.{IsGiving}
use Rattle.dm_atomic.proofs.engine.Engine.run_plain.Given as goal

abbrev pub invariant-loop-place : goal.invariant-loop-place
invariant-loop-place l = record {
  giving : IsGiving
      (in_sequence (running l.fn.self l.caller) (state_of l.self)
      (item_tasks l.origin false l.command l.place (drop l.place l.command.items)))
      (in_sequence (running l.fn.self l.caller) (state_of l.fn.self) (plain_tasks l.origin false l.fn.command))
      l.fn.out l.out;
  within : IsWithin l.fn.command (item_tasks l.origin false l.command l.place (drop l.place l.command.items));
  count : length l.command.items ≡ length l.fn.command.items;
  clock : l.self.tree.clock ≡ l.fn.self.tree.clock;
  max_obj : l.self.inbox.max_obj ≡ l.fn.self.inbox.max_obj;
  ids : StayBut (covers (commands.Plain l.fn.command)) (whole_of l.fn.self) (whole_of l.self);
  marks : Holds l.fn.self l.self;
  sound : IsSoundEngine l.self;
}
