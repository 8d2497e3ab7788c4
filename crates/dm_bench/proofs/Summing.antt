-- The line of a workload.
use Rattle.std.proofs.Common.{◌≡◌, ℕ, List, Result, ap, subst, ◌∙◌}
use Rattle.std.specs.Prelude.{IfOk}
use Rattle.md5.specs.Md5.{md5}
use Rattle.dm_tree.specs.Nodes.{Nodes}
use Rattle.dm_machine.specs.Machine.{Machine}
use Rattle.dm_start.specs.TreeText.{tree_text}
use Rattle.dm_bench.specs.declared.running.AtomicCounts.{AtomicCounts}
use Rattle.dm_bench.specs.Start.{begun_machine}
use Rattle.dm_bench.specs.Running.{WorkloadRun, first_run, with_messages}
use Rattle.dm_bench.specs.Workload.{summary, run_text, bench_text}

pub line_is : (messages : ℕ) (r : WorkloadRun) (m : Machine) (t : AtomicCounts) (tree : Nodes) (digest line : List ℕ)
    → m ≡ r.machine → t ≡ r.tally → tree ≡ m.engine.tree → digest ≡ md5 (tree_text 1 tree)
    → line ≡ summary messages t digest → line ≡ run_text messages r
line_is messages r m t tree digest line is_m is_t is_tree is_digest is_line =
    is_line
    ∙ ap (summary messages t)
    (is_digest ∙ ap (λ x. md5 (tree_text 1 x)) (is_tree ∙ ap (λ (c : Machine). c.engine.tree) is_m))
    ∙ ap (λ x. summary messages x (md5 (tree_text 1 r.machine.engine.tree))) is_t

pub text_is : {E : Type 0} (seed nodes messages : ℕ) (first : Machine) (told : Result (List ℕ) E)
    → first ≡ begun_machine nodes
    → IfOk told (λ line. line ≡ run_text messages (with_messages nodes (first_run first seed) messages))
    → IfOk told (λ line. line ≡ bench_text seed nodes messages)
unfolding bench_text
text_is seed nodes messages first told is h =
    subst (λ c. IfOk told (λ line. line ≡ run_text messages (with_messages nodes (first_run c seed) messages))) is h
