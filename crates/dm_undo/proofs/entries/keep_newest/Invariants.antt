use Rattle.std.proofs.Common.{suc, ◌≡◌, length, take, vec_capacity}
use Rattle.std.specs.Prelude.{reverse}
use Rattle.dm_undo.specs.Trees.{newest_first}
use Rattle.dm_undo.specs.Sound.{AreAllHeld}
use Rattle.dm_undo.proofs.Unwinds.{Giving}
use Rattle.dm_undo.proofs.entries.keep_newest.Given as goal

abbrev pub invariant-loop-entries : goal.invariant-loop-entries
invariant-loop-entries l = record {
  giving : Giving l.count (take l.count (reverse l.fn.entries.items)) l.entries.items l.tree.rows
      (take (suc l.count) (newest_first (length l.fn.entries.items) (reverse l.fn.entries.items) l.fn.tree.rows));
  parked : AreAllHeld (reverse l.fn.entries.items) l.fn.tree.rows → AreAllHeld (l.entries.items) l.tree.rows;
  room : vec_capacity l.entries ≡ vec_capacity l.fn.entries;
  clock : l.tree.clock ≡ l.fn.tree.clock;
}

abbrev pub decreases-loop-entries : goal.decreases-loop-entries
decreases-loop-entries l = length l.entries.items
