-- The messages delivered, and what is counted of the answers.
use Rattle.std.specs.Prelude.{◌==◌, ◌&&◌, ◌+◌, ℕ, zero, suc, Bool, false, if◌then◌else◌, bytes_eq, replicate, List}
use Rattle.std.specs.Prelude.{codes}
use Rattle.std.specs.List.{list_any}
use Rattle.syncml_types.specs.declared.command.Command.{Command}
use Rattle.syncml_types.specs.declared.command.Command.TheVariants as command
use Rattle.syncml_types.specs.Canonical.{canonical}
use Rattle.syncml_codec.specs.Decoding.{read_of}
use Rattle.dm_machine.specs.Machine.{Machine}
use Rattle.dm_machine.specs.Events.{Event, message, Answer, sent}
use Rattle.dm_machine.specs.History.{answer_now, next}
use Rattle.dm_bench.specs.declared.running.AtomicCounts.{AtomicCounts}
use Rattle.dm_bench.specs.Words.{state_after}
use Rattle.dm_bench.specs.Messages.{message_of}

-- how far a workload has come: the client, the words to come, and what was counted
pub record WorkloadRun : Type 0 where
  pub machine : Machine
  pub words : ℕ
  pub tally : AtomicCounts

abbrev pub workload_run : Machine → ℕ → AtomicCounts → WorkloadRun
workload_run machine words tally = record { machine = machine; words = words; tally = tally }

-- nothing was counted
abbrev pub first_run : Machine → ℕ → WorkloadRun
first_run machine words = workload_run machine words (record { ok = 0; failed = 0 })

-- ---- what is counted

abbrev pub tells_atomic : ℕ → Command → Bool
tells_atomic code (command.Status c) = c.code == code && bytes_eq c.cmd (codes "Atomic")
tells_atomic code other = false

-- the answer is a message that tells this code of an Atomic
abbrev pub tells_code : ℕ → Answer → Bool
tells_code code (sent m) = list_any (tells_atomic code) m.body
tells_code code other = false

abbrev pub tallied : AtomicCounts → Answer → AtomicCounts
tallied t a = record {
  ok = t.ok + (if tells_code 200 a then 1 else 0);
  failed = t.failed + (if tells_code 507 a then 1 else 0);
}

-- ---- the run

-- the bytes of a message come, with a nonce of zeros
abbrev pub delivery : ℕ → ℕ → ℕ → Event
delivery nodes number s = message (read_of (canonical (message_of nodes number s))) (replicate 16 0)

-- with the message of this number delivered
unfoldable pub with_message : ℕ → ℕ → WorkloadRun → WorkloadRun
with_message nodes number r = record {
  machine = next r.machine (delivery nodes number r.words);
  words = state_after 9 r.words;
  tally = tallied r.tally (answer_now r.machine (delivery nodes number r.words));
}

-- with so many messages delivered, from number 1 on
unfoldable pub with_messages : ℕ → WorkloadRun → ℕ → WorkloadRun
with_messages nodes r zero = r
with_messages nodes r (suc done) = with_message nodes (suc done) (with_messages nodes r done)
