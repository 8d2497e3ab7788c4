-- Tasks that are run one after another, up to the first that fails.
use Rattle.std.proofs.Common.{◌≡◌, ℕ, suc, ◌+◌, ◌<◌, ◌≤◌, true, false, List, [], ◌∷◌, ◌++◌, length, drop, get_or, refl}
use Rattle.std.proofs.Common.{sym, ◌∙◌, ap, subst, arith, append_assoc, add-one, drop-cons, None, Some}
use Rattle.std.specs.Prelude.{if◌then◌else◌}
use Rattle.std.proofs.lemmas.List.{append-nil, drop_all}
use Rattle.syncml_types.specs.declared.command.Command.{Command}
use Rattle.dm_tree.specs.declared.nodes.Stamp.{Stamp}
use Rattle.dm_objects.specs.declared.object.Object.{Object}
use Rattle.dm_commands.specs.Outcomes.{asked_by, is_success}
use Rattle.dm_atomic.specs.declared.tasks.Task.{Task}
use Rattle.dm_atomic.specs.declared.reports.Report.{Report}
use Rattle.dm_atomic.specs.declared.engine.Engine.{Engine}
use Rattle.dm_atomic.specs.Made.{Made, told, notice, IsInFront}
use Rattle.dm_atomic.specs.Run.{State, Running, Ran, Tried, one_step, after_success, tried, continues_or}
use Rattle.dm_atomic.specs.Run.{first_continues, left_by, left_object}
use Rattle.dm_atomic.specs.Engine.{running, Only, RunsTask, Tries}
use Rattle.dm_atomic.proofs.Telling.{told_both, some_more}

-- ---- who asks, and how large an object may be

pub running_stays : (e f : Engine) (caller : List ℕ) → f.tree.clock ≡ e.tree.clock → f.inbox.max_obj ≡ e.inbox.max_obj
    → running f caller ≡ running e caller
running_stays e f caller c m =
    ap (λ (x : Stamp). asking x f.inbox.max_obj) c ∙ ap (asking e.tree.clock) m
  where
    asking : Stamp → ℕ → Running
    asking clock max = record { setting = asked_by caller clock; max_obj = max }

pub runs_still : (e f : Engine) (caller : List ℕ) (s next : State) (t : Task) (report : Report)
    (before after : List Command) → Only e f → RunsTask (one_step (running f caller) s t) next report before after
    → RunsTask (one_step (running e caller) s t) next report before after
runs_still e f caller s next t report before after o h =
    subst (λ (r : Running). RunsTask (one_step r s t) next report before after)
    (running_stays e f caller o.clock o.max_obj) h

-- ---- what is left to be run

abbrev with_tried : List Made → List Report → Tried → Tried
with_tried notices done t = record t { notices = notices ++ t.notices; done = done ++ t.done }

-- some tasks were run with success, and the rest is left
pub record IsTrying (r : Running) (first now : State) (ts rest : List Task) (done : List Report)
    (before after : List Command) : Type 0 where
  pub notices : List Made
  pub told_is : after ≡ before ++ told notices
  pub goes_on : with_tried notices done (tried r now rest) ≡ tried r first ts

pub trying_starts : (r : Running) (s : State) (ts : List Task) (done : List Report) (out : List Command) → done ≡ []
    → IsTrying r s s ts ts done out out
trying_starts r s ts done out e = rw e (record { notices = []; told_is = sym (append-nil out); goes_on = refl })

next_tried : (r : Running) (s : State) (ts : List Task) (k : ℕ) (t : Task) → k < length ts → t ≡ get_or ts k t
    → tried r s (drop k ts) ≡ tried r s (t ∷ drop (k + 1) ts)
next_tried r s ts k t l is = rw (add-one k)
    (ap (tried r s) (drop-cons ts k t l ∙ ap (λ x. x ∷ drop (suc k) ts) (sym is)))

abbrev stops_at : Ran → List Task → Tried
stops_at first ts =
    record { state = first.state; notices = notice first.broken; done = []; failed = Some first.report; unrun = ts }

after-good : (r : Running) (s : State) (t : Task) (ts : List Task) → is_success (one_step r s t).report.code ≡ true
    → tried r s (t ∷ ts) ≡ after_success (one_step r s t) (tried r (one_step r s t).state ts)
after-good r s t ts ok =
    let f = one_step r s t in
    ap (λ b. if b then after_success f (tried r f.state ts) else stops_at f ts) ok

after-bad : (r : Running) (s : State) (t : Task) (ts : List Task) → is_success (one_step r s t).report.code ≡ false
    → tried r s (t ∷ ts) ≡ stops_at (one_step r s t) ts
after-bad r s t ts bad =
    let f = one_step r s t in
    ap (λ b. if b then after_success f (tried r f.state ts) else stops_at f ts) bad

behind : (notices : List Made) (done : List Report) (f : Ran) (t : Tried)
    → with_tried (notices ++ notice f.broken) (done ++ f.report ∷ []) t ≡ with_tried notices done (after_success f t)
behind notices done f t =
    ap (λ x. record t { notices = x; done = (done ++ f.report ∷ []) ++ t.done })
    (append_assoc notices (notice f.broken) t.notices)
    ∙ ap (λ x. record t { notices = notices ++ (notice f.broken ++ t.notices); done = x })
    (append_assoc done (f.report ∷ []) t.done)

code_is : (f : Ran) (report : Report) → report ≡ f.report → is_success f.report.code ≡ is_success report.code
code_is f report e = ap (λ (x : Report). is_success x.code) (sym e)

pub trying_goes_on : (r : Running) (first s next : State) (ts : List Task) (k : ℕ) (t : Task) (report : Report)
    (done more : List Report) (before now after : List Command)
    → IsTrying r first s ts (drop k ts) done before now → k < length ts → t ≡ get_or ts k t
    → RunsTask (one_step r s t) next report now after → is_success report.code ≡ true → more ≡ done ++ report ∷ []
    → IsTrying r first next ts (drop (k + 1) ts) more before after
trying_goes_on r first s next ts k t report done more before now after i l is h ok m =
    let f = one_step r s t in
    record {
      notices = i.notices ++ notice f.broken;
      told_is = told_both before now after i.notices (notice f.broken) i.told_is h.told_is;
      goes_on =
          ap (λ (x : State). with_tried (i.notices ++ notice f.broken) more (tried r x (drop (k + 1) ts))) h.state_is
          ∙ ap (λ x. with_tried (i.notices ++ notice f.broken) x (tried r f.state (drop (k + 1) ts)))
          (m ∙ ap (λ x. done ++ x ∷ []) h.report_is)
          ∙ behind i.notices done f (tried r f.state (drop (k + 1) ts))
          ∙ ap (with_tried i.notices done)
          (sym (next_tried r s ts k t l is ∙ after-good r s t (drop (k + 1) ts) (code_is f report h.report_is ∙ ok)))
          ∙ i.goes_on;
    }

pub trying_stops : (r : Running) (first s next : State) (ts : List Task) (k : ℕ) (t : Task) (report : Report)
    (done : List Report) (before now after : List Command)
    → IsTrying r first s ts (drop k ts) done before now → k < length ts → t ≡ get_or ts k t
    → RunsTask (one_step r s t) next report now after → is_success report.code ≡ false
    → Tries (tried r first ts) next done ts (Some (report, k + 1)) before after
trying_stops r first s next ts k t report done before now after i l is h bad =
    let f = one_step r s t in
    let e : with_tried i.notices done (stops_at f (drop (k + 1) ts)) ≡ tried r first ts =
    ap (with_tried i.notices done)
    (sym (next_tried r s ts k t l is ∙ after-bad r s t (drop (k + 1) ts) (code_is f report h.report_is ∙ bad)))
    ∙ i.goes_on in
    record {
      state_is = h.state_is ∙ ap (λ (x : Tried). x.state) e;
      done_is = sym (append-nil done) ∙ ap (λ (x : Tried). x.done) e;
      told_is =
          told_both before now after i.notices (notice f.broken) i.told_is h.told_is
          ∙ ap (λ (x : Tried). before ++ told x.notices) e;
      stop = (
        sym (ap (λ (x : Tried). x.failed) e) ∙ ap (λ x. Some x) (sym h.report_is),
        (sym (ap (λ (x : Tried). x.unrun) e), omega (arith, l)),
      );
    }

pub trying_ends : (r : Running) (first s : State) (ts : List Task) (k : ℕ) (done : List Report)
    (before now : List Command) → IsTrying r first s ts (drop k ts) done before now → length ts ≤ k
    → Tries (tried r first ts) s done ts None before now
trying_ends r first s ts k done before now i l =
    let e : with_tried i.notices done (tried r s []) ≡ tried r first ts =
    ap (λ x. with_tried i.notices done (tried r s x)) (sym (drop_all k ts l)) ∙ i.goes_on in
    record {
      state_is = ap (λ (x : Tried). x.state) e;
      done_is = sym (append-nil done) ∙ ap (λ (x : Tried). x.done) e;
      told_is =
          i.told_is ∙ ap (λ x. before ++ told x) (sym (append-nil i.notices))
          ∙ ap (λ (x : Tried). before ++ told x.notices) e;
      stop = sym (ap (λ (x : Tried). x.failed) e);
    }

pub trying_stands : (r : Running) (first s : State) (ts rest : List Task) (done : List Report)
    (before now : List Command) → IsTrying r first s ts rest done before now → IsInFront before now
trying_stands r first s ts rest done before now i = (told i.notices, i.told_is)

pub trying_breaks : (r : Running) (first s : State) (ts rest : List Task) (done : List Report)
    (before now after : List Command) → IsTrying r first s ts rest done before now → IsInFront now after
    → IsInFront before after
trying_breaks r first s ts rest done before now after i = some_more before now after i.notices i.told_is

-- a step more, which a want of memory cuts off
pub trying_is_cut : (r : Running) (first s next : State) (ts rest : List Task) (t : Task) (report : Report)
    (done : List Report) (before now after : List Command) → IsTrying r first s ts rest done before now
    → RunsTask (one_step r s t) next report now after → IsInFront before after
trying_is_cut r first s next ts rest t report done before now after i h =
    some_more before now after i.notices i.told_is (told (notice (one_step r s t).broken), h.told_is)

-- ---- tasks whose values were moved away, where those that are left are as they were

pub stopped_left : (t : Tried) (s : State) (done : List Report) (ts left : List Task) (report : Report) (ran : ℕ)
    (before after : List Command) → length left ≡ length ts → drop ran left ≡ drop ran ts
    → Tries t s done ts (Some (report, ran)) before after → Tries t s done left (Some (report, ran)) before after
stopped_left t s done ts left report ran before after long same h = record {
  state_is = h.state_is;
  done_is = h.done_is;
  told_is = h.told_is;
  stop = (h.stop.0, (h.stop.1.0 ∙ sym same, omega (arith, long, h.stop.1.1)));
}

pub ended_left : (t : Tried) (s : State) (done : List Report) (ts left : List Task) (before after : List Command)
    → Tries t s done ts None before after → Tries t s done left None before after
ended_left t s done ts left before after h =
    record { state_is = h.state_is; done_is = h.done_is; told_is = h.told_is; stop = h.stop }

-- ---- the tasks that are left

pub next_continues : (object : Object) (ts : List Task) (k : ℕ) (t : Task) → k < length ts → t ≡ get_or ts k t
    → first_continues object (drop k ts) ≡ continues_or object t.work (first_continues object (drop (k + 1) ts))
next_continues object ts k t l is = rw (add-one k)
    (ap (first_continues object) (drop-cons ts k t l ∙ ap (λ x. x ∷ drop (suc k) ts) (sym is)))

pub none_continues : (object : Object) (ts : List Task) (k : ℕ) → length ts ≤ k
    → first_continues object (drop k ts) ≡ false
none_continues object ts k l = ap (first_continues object) (drop_all k ts l)

pub next_left : (object : Object) (ts : List Task) (k : ℕ) (t : Task) → k < length ts → t ≡ get_or ts k t
    → left_object object (drop k ts) ≡ left_object (left_by object t.work) (drop (k + 1) ts)
next_left object ts k t l is = rw (add-one k)
    (ap (left_object object) (drop-cons ts k t l ∙ ap (λ x. x ∷ drop (suc k) ts) (sym is)))

pub none_left : (object : Object) (ts : List Task) (k : ℕ) → length ts ≤ k → left_object object (drop k ts) ≡ object
none_left object ts k l = ap (left_object object) (drop_all k ts l)

-- tasks are tried, one after the other
pub ruleset trying = (runs_still, trying_starts, trying_stands, trying_breaks)

-- what is left of the tasks, one after the other
pub ruleset leaving = (next_left, none_left)
