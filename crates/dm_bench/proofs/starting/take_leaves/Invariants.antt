use Rattle.std.proofs.Common.{◌≡◌, false}
use Rattle.dm_start.specs.Start.{section_at, is_begun}
use Rattle.dm_bench.specs.Start.{Leads, leaf_lines}
use Rattle.dm_bench.proofs.starting.take_leaves.Given as goal

abbrev pub invariant-leaves : goal.invariant-leaves
invariant-leaves l = record {
  open_ : is_begun (section_at l.reader) ≡ false;
  led : Leads (section_at l.fn.reader) (leaf_lines l.leaf) (section_at l.reader);
}
