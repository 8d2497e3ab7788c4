use Rattle.std.proofs.Common.{◌-◌, ◌≡◌, ◌≤◌, length, vec_capacity}
use Rattle.std.specs.Prelude.{reverse}
use Rattle.dm_undo.specs.Trees.{stage}
use Rattle.dm_undo.proofs.Steps.{partly}
use Rattle.dm_undo.proofs.entries.flip_forward.Given as goal

abbrev pub invariant-loop-k : goal.invariant-loop-k
invariant-loop-k l = record {
  low : length l.fn.entries.items - l.count ≤ l.k;
  high : l.k ≤ length l.fn.entries.items;
  long : length l.entries.items ≡ length l.fn.entries.items;
  room : vec_capacity l.entries ≡ vec_capacity l.fn.entries;
  here : partly (length l.fn.entries.items - l.k) (l.k - (length l.fn.entries.items - l.count))
      (reverse l.fn.entries.items) l.fn.tree.rows ≡ stage (reverse l.entries.items) l.tree.rows;
  clock : l.tree.clock ≡ l.fn.tree.clock;
}

abbrev pub decreases-loop-k : goal.decreases-loop-k
decreases-loop-k l = length l.fn.entries.items - l.k
