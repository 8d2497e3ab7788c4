-- The summary of a workload.
use Rattle.std.specs.Prelude.{ℕ, List, ◌++◌, codes}
use Rattle.std.specs.Fmt.{decimal}
use Rattle.md5.specs.Md5.{md5}
use Rattle.dm_base.specs.Fields.{hex_text}
use Rattle.dm_base.specs.Lines.{line_feed}
use Rattle.dm_start.specs.TreeText.{tree_text}
use Rattle.dm_bench.specs.declared.running.AtomicCounts.{AtomicCounts}
use Rattle.dm_bench.specs.Start.{begun_machine}
use Rattle.dm_bench.specs.Running.{WorkloadRun, first_run, with_messages}

-- how many messages, how many of their Atomics were answered 200 and how many 507, and the digest of the tree text
abbrev pub summary : ℕ → AtomicCounts → List ℕ → List ℕ
summary messages tally digest =
    codes "bench " ++ decimal messages
    ++ codes " ok " ++ decimal tally.ok
    ++ codes " failed " ++ decimal tally.failed
    ++ codes " tree " ++ hex_text digest
    ++ line_feed

abbrev pub run_text : ℕ → WorkloadRun → List ℕ
run_text messages r = summary messages r.tally (md5 (tree_text 1 r.machine.engine.tree))

-- the line of a workload, by its three numbers
unfoldable pub bench_text : ℕ → ℕ → ℕ → List ℕ
bench_text seed nodes messages = run_text messages (with_messages nodes (first_run (begun_machine nodes) seed) messages)
