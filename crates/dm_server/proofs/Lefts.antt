-- What is left once a package is given up.
use Rattle.std.proofs.Common.{◌≡◌, ◌≤◌, ◌-◌, ℕ, Bool, true, false, cond, not, List, [], drop, length, Some}
use Rattle.std.proofs.Common.{sym, ap, ◌∙◌, subst, arith}
use Rattle.std.specs.Prelude.{Option, if◌then◌else◌}
use Rattle.std.specs.List.{filter}
use Rattle.syncml_types.specs.Message.{Parts}
use Rattle.dm_job.specs.declared.job.Job.{Job}
use Rattle.dm_job.specs.declared.job.JobEntry.{JobEntry}
use Rattle.dm_report.specs.Known.{Known, GatheredSoFar, forgotten_within}
use Rattle.dm_service.specs.declared.progress.ServiceProgress.{ServiceProgress}
use Rattle.dm_service.specs.declared.sent.Sent.{Sent}
use Rattle.dm_report.specs.Sending.{AreCommands}
use Rattle.dm_service.specs.Laws.{AreInOrder}
use Rattle.dm_service.specs.Packages.{is_of_job, forgotten, gives_up, not_sent, package_put_back, runs_after}
use Rattle.dm_service.specs.Ready.{AreReadyWaiting}
use Rattle.dm_service.specs.Service.{Waiting, Told, Service}
use Rattle.dm_server.specs.declared.held.Run.{Run}
use Rattle.dm_server.specs.declared.held.Outbox.{Outbox}
use Rattle.dm_server.specs.Inside.{at_work, newest_of, session_with, IsNumberedJob, IsWithinJob}
use Rattle.dm_server.specs.Working.{sent_without, IsSendable, IsRange}
use Rattle.dm_server.proofs.Rows.{forgotten_is, left_commands, left_in_order, sent_is}
use Rattle.dm_server.proofs.Runs.{put_back_is}
use Rattle.dm_server.proofs.Sendable.{others_wait}

-- how far the job is then
abbrev pub run_left : ℕ → Option ℕ → Run
run_left next runs = record { next = next; queued = false; runs_in = runs }

abbrev pub outbox_left : List Waiting → List Sent → Outbox
outbox_left queue sent = record { queue = queue; sent = sent }

abbrev pub known_left : ℕ → ℕ → Known → Known
known_left first count k = record k { told = forgotten_within first count 1 k.told }

pub given_up_is : (job : Job) (run : Run) (p : ServiceProgress) (o : Outbox) (g : GatheredSoFar) (k known : Known)
    (before : Option Parts) (next first count : ℕ) (runs : Option ℕ) (queue : List Waiting) (sent : List Sent)
    → IsNumberedJob job → IsWithinJob job run → IsRange (newest_of job.packages run) first count
    → next ≡ (if run.queued then run.next - 1 else run.next) → runs ≡ runs_after run.runs_in o.sent sent
    → queue ≡ filter (λ w. not (is_of_job w)) o.queue → sent ≡ sent_without first count o.sent
    → known ≡ known_left first count k
    → at_work job (run_left next runs) p (outbox_left queue sent) g known before
    ≡ gives_up (at_work job run p o g k before) (session_with p o g)
unfolding gives_up
given_up_is job run p o g k known before next first count runs queue sent numbered place row next_is runs_is queue_is
    sent_so known_is =
    ap (λ x. at_work job (run_left next runs) p (outbox_left queue sent) g x before) known_is
    ∙ ap (λ q. build q (drop next job.packages) runs told sent) queue_is
    ∙ ap (λ ps. build waits ps runs told sent)
    (ap (λ n. drop n job.packages) next_is
    ∙ put_back_is job run.next run.queued numbered.filled place.within place.behind)
    ∙ ap (λ r. build waits packages r told sent) (runs_is ∙ ap (runs_after run.runs_in o.sent) left)
    ∙ ap (λ ts. build waits packages ran ts sent) (forgotten_is given first count 1 k.told row)
    ∙ ap (build waits packages ran forgets) left
  where
    v : Service
    v = at_work job run p o g k before

    given : List JobEntry
    given = newest_of job.packages run

    left : sent ≡ not_sent given o.sent
    left = sent_so ∙ sent_is given first count o.sent row

    build : List Waiting → List (List JobEntry) → Option ℕ → List Told → List Sent → Service
    build q ps r ts ss = record v {
      queue = q;
      packages = ps;
      newest = [];
      runs_in = r;
      told = ts;
      session = Some (record { progress = p; object = g.object; sent = ss });
    }

    waits : List Waiting
    waits = filter (λ w. not (is_of_job w)) o.queue

    packages : List (List JobEntry)
    packages = package_put_back given (drop run.next job.packages)

    ran : Option ℕ
    ran = runs_after run.runs_in o.sent (not_sent given o.sent)

    told : List Told
    told = forgotten_within first count 1 k.told

    forgets : List Told
    forgets = forgotten given 1 k.told

place-left : (ps : List (List JobEntry)) (next : ℕ) (queued : Bool) → next ≤ length ps
    → cond queued (next - 1) next ≤ length ps
place-left ps next true h = omega (arith, h)
place-left ps next false h = h

pub holds_left : (job : Job) (run : Run) (o : Outbox) (next first count : ℕ) (runs : Option ℕ) (queue : List Waiting)
    (sent : List Sent) → IsSendable job run o → next ≡ (if run.queued then run.next - 1 else run.next)
    → queue ≡ filter (λ w. not (is_of_job w)) o.queue → sent ≡ sent_without first count o.sent
    → IsSendable job (run_left next runs) (outbox_left queue sent)
holds_left job run o next first count runs queue sent h next_is queue_is sent_so = record {
  place = record {
    within = subst (λ n. n ≤ length job.packages) (sym next_is)
        (place-left job.packages run.next run.queued h.place.within);
    behind = λ e. absurd (cc);
  };
  queue = subst AreReadyWaiting (sym queue_is) (others_wait o.queue h.queue);
  commands = subst AreCommands (sym sent_so) (left_commands first count o.sent h.commands);
  order = subst AreInOrder (sym sent_so) (left_in_order first count o.sent h.order);
}
