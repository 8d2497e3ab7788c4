-- The packages of the job: when the next one is queued, and how one is given up.
use Rattle.std.specs.Prelude.{◌&&◌, ◌||◌, ◌+◌, ℕ, Bool, false, not, if◌then◌else◌, nat_lt, nat_le, List, [], ◌∷◌, ◌++◌}
use Rattle.std.specs.Prelude.{map, Option, None, Some, is_some}
use Rattle.std.specs.List.{list_any, filter}
use Rattle.syncml_parts.specs.Numbering.{ids_in}
use Rattle.dm_headers.specs.declared.standings.Standing.{Standing}
use Rattle.dm_pack.specs.Entries.{whole_entry}
use Rattle.dm_job.specs.declared.job.JobEntry.{JobEntry}
use Rattle.dm_service.specs.declared.sent.Sent.{Sent}
use Rattle.dm_service.specs.Service.{Waiting, Told, Session, Service}
use Rattle.dm_service.specs.Matching.{untold}

-- how many commands entries hold
abbrev pub commands_in : List JobEntry → ℕ
commands_in [] = 0
commands_in (e ∷ es) = ids_in e.command + commands_in es

-- ---- the next package

abbrev pub is_of_job : Waiting → Bool
is_of_job w = is_some w.carries

abbrev pub job_waiting : JobEntry → Waiting
job_waiting e = record {
  entry = whole_entry e.command;
  carries = Some (record { first = e.number; count = ids_in e.command });
}

abbrev pub queues_package : Service → List (List JobEntry) → Service
queues_package v [] = v
queues_package v (p ∷ ps) = record v { queue = v.queue ++ map job_waiting p; packages = ps; newest = p }

-- where the client is accepted and its package is at its end, once nothing of the job waits
abbrev pub next_package : Service → Standing → Service
next_package v s =
    if s.accepted && s.heard && not (list_any is_of_job v.queue) then queues_package v v.packages else v

-- ---- a package is given up

-- the command with this number is one of these entries'
abbrev pub holds_number : List JobEntry → ℕ → Bool
holds_number [] n = false
holds_number (e ∷ es) n = (nat_le e.number n && nat_lt n (e.number + ids_in e.command)) || holds_number es n

-- what was told of a package's commands is forgotten, by their numbers from n on
abbrev pub forgotten : List JobEntry → ℕ → List Told → List Told
forgotten given n [] = []
forgotten given n (t ∷ ts) = (if holds_number given n then untold else t) ∷ forgotten given (n + 1) ts

abbrev pub not_sent : List JobEntry → List Sent → List Sent
not_sent given sent = filter (λ (s : Sent). not (holds_number given s.number)) sent

abbrev pub package_put_back : List JobEntry → List (List JobEntry) → List (List JobEntry)
package_put_back [] ps = ps
package_put_back (e ∷ es) ps = (e ∷ es) ∷ ps

-- the job doesn't run in this session, where commands were sent in it and none of them is left; where none was sent,
-- it runs where it ran
abbrev pub runs_after : Option ℕ → List Sent → List Sent → Option ℕ
runs_after runs [] left = runs
runs_after runs (s ∷ ss) [] = None
runs_after runs (s ∷ ss) (x ∷ xs) = runs

-- The package that was queued last in this session counts as not queued, and what was told of its commands is
-- forgotten: codes, whole values, and the numbers under which they were sent. A value that is still being gathered
-- stays. A job that ran in an earlier session stays there.
unfoldable pub gives_up : Service → Session → Service
gives_up v s =
    let left = not_sent v.newest s.sent in
    record v {
      queue = filter (λ w. not (is_of_job w)) v.queue;
      packages = package_put_back v.newest v.packages;
      newest = [];
      runs_in = runs_after v.runs_in s.sent left;
      told = forgotten v.newest 1 v.told;
      session = Some (record s { sent = left });
    }
