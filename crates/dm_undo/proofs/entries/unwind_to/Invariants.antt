use Rattle.std.proofs.Common.{◌≡◌, ◌≤◌, length, vec_capacity}
use Rattle.std.specs.Prelude.{reverse}
use Rattle.dm_undo.specs.Trees.{newest_first}
use Rattle.dm_undo.specs.Sound.{AreAllHeld}
use Rattle.dm_undo.proofs.Unwinds.{Unwound}
use Rattle.dm_undo.proofs.entries.unwind_to.Given as goal

abbrev pub invariant-loop-entries : goal.invariant-loop-entries
invariant-loop-entries l = record {
  low : l.mark ≤ length l.entries.items;
  high : length l.entries.items ≤ length l.fn.entries.items;
  left : Unwound (length l.fn.entries.items) (reverse l.fn.entries.items)
      (newest_first (length l.fn.entries.items) (reverse l.fn.entries.items) l.fn.tree.rows) l.entries.items
      l.tree.rows;
  parked : AreAllHeld (reverse l.fn.entries.items) l.fn.tree.rows → AreAllHeld (reverse l.entries.items) l.tree.rows;
  room : vec_capacity l.entries ≡ vec_capacity l.fn.entries;
  clock : l.tree.clock ≡ l.fn.tree.clock;
}

abbrev pub decreases-loop-entries : goal.decreases-loop-entries
decreases-loop-entries l = length l.entries.items
