-- A server of a job that was read is ready.
use Rattle.std.proofs.Common.{ℕ, List, [], ◌∷◌, IsTrue}
use Rattle.std.proofs.Common.{arith}
use Rattle.std.specs.List.{AllByRecursion}
use Rattle.dm_base.specs.declared.values.Limits.{Limits}
use Rattle.dm_base.specs.Fields.{is_id, is_short}
use Rattle.dm_fields.specs.Fields.{are_limits}
use Rattle.dm_ends.specs.Ready.{IsReadyLimits}
use Rattle.dm_job.specs.declared.job.JobEntry.{JobEntry}
use Rattle.dm_job.specs.Sound.{CanBeSent, all_entries}
use Rattle.dm_service.specs.Ready.{IsReadyEntry}
use Rattle.dm_service.specs.Laws.{FirstIsReady}

entries-ready : (es : List JobEntry) → AllByRecursion CanBeSent es → AllByRecursion IsReadyEntry es
entries-ready [] h = tt
entries-ready (e ∷ es) h = (h.0.ready, entries-ready es h.1)

short-id : (text : List ℕ) → IsTrue (is_id text) → IsTrue (is_short text)
short-id text h = grind (arith, h)

limits-ready : (limits : Limits) → IsTrue (are_limits limits.max_msg limits.max_obj) → IsReadyLimits limits
limits-ready limits h = record { max_msg = grind (arith, h); max_obj = grind (arith, h) }

pub first_is_ready : FirstIsReady
first_is_ready job sound = record {
  limits = limits-ready job.limits sound.limits;
  account = record { server = short-id job.account.server sound.account.server; user = sound.account.user };
  job = entries-ready (all_entries job.packages) sound.entries;
  packages = entries-ready (all_entries job.packages) sound.entries;
  newest = tt;
  queue = tt;
  session = tt;
}
