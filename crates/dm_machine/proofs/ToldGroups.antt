-- Sequences, atomics and groups on a ready state leave a ready state, and all that they make can be told.
use Rattle.std.proofs.Common.{◌<◌, ◌^◌, ℕ, Bool, true, false, cond, List, [], ◌∷◌, ◌++◌, map, Option, Some, None, arith}
use Rattle.std.specs.Prelude.{IfSome, unwrap_or, option_map}
use Rattle.std.specs.List.{AllByRecursion}
use Rattle.dm_tree.specs.Nodes.{Nodes}
use Rattle.dm_objects.specs.declared.object.Object.{Object}
use Rattle.dm_objects.specs.declared.object.Object.TheVariants.{Nothing, Buffering, Skipping}
use Rattle.dm_objects.specs.Inside.{is_buffering_inside, stays}
use Rattle.dm_objects.specs.Gathering.{key_of, buffered_target}
use Rattle.dm_commands.specs.Outcomes.{is_success}
use Rattle.dm_commands.specs.declared.outcome.Found.{Found}
use Rattle.dm_atomic.specs.declared.tasks.Post.{Post}
use Rattle.dm_atomic.specs.declared.tasks.Work.{Work}
use Rattle.dm_atomic.specs.declared.tasks.Work.TheVariants as work
use Rattle.dm_atomic.specs.declared.tasks.Task.{Task}
use Rattle.dm_atomic.specs.declared.reports.Report.{Report}
use Rattle.dm_atomic.specs.declared.reports.Part.{Part}
use Rattle.dm_atomic.specs.Engine.{FitsObject}
use Rattle.dm_atomic.specs.Made.{Made, reported, all_reported, notice}
use Rattle.dm_atomic.specs.Made as made
use Rattle.dm_atomic.specs.Run.{Group, State, Running, Next, quietly, one_step, undone, not_run, container, parts_done}
use Rattle.dm_atomic.specs.Run.{parts_undone, broken_group, break_of, break_group, breaks_first, one_alone, in_sequence}
use Rattle.dm_atomic.specs.Run.{Tried, after_success, tried, joins, left_by, left_object, opened, opens, with_part}
use Rattle.dm_atomic.specs.Run.{stays_open, succeeds, fails, closes, in_group, join_or_break, atomically, still_of}
use Rattle.dm_atomic.specs.Run.{still, abandoned}
use Rattle.dm_machine.specs.Ready.{IsReadyMade, IsReadyReport, IsReadyPart, IsReadyGroup, IsDevice, IsReadyObject}
use Rattle.dm_machine.specs.Ready.{IsReadyState}
use Rattle.dm_machine.proofs.ToldFound.{broken_is_ready}
use Rattle.dm_ends.proofs.Statuses.{IsReadyPost, status_is_ready}
use Rattle.dm_machine.proofs.ToldActs.{IsLow}
use Rattle.dm_machine.proofs.ToldSteps.{IsReadyTask, IsReadyRunning, step_ready}

abbrev pub AreReadyMade : List Made → Type 0
AreReadyMade ms = AllByRecursion IsReadyMade ms

abbrev AreReadyReports : List Report → Type 0
AreReadyReports rs = AllByRecursion IsReadyReport rs

-- a state, and what was made on the way to it
pub record IsReadyNext (max_obj : ℕ) (n : Next) : Type 0 where
  pub state : IsReadyState max_obj n.state
  pub made : AreReadyMade n.made

pub all_append : {X : Type 0} (P : X → Type 0) (xs ys : List X) → AllByRecursion P xs → AllByRecursion P ys
    → AllByRecursion P (xs ++ ys)
all_append P [] ys h k = k
all_append P (x ∷ xs) ys h k = (h.0, all_append P xs ys h.1 k)

made_append : (xs ys : List Made) → AreReadyMade xs → AreReadyMade ys → AreReadyMade (xs ++ ys)
made_append xs ys h k = all_append IsReadyMade xs ys h k

-- ---- reports

abbrev Answers : Post → Type 0
Answers p = (code : ℕ) → code < 2 ^ 32 → IsReadyMade (made.Status p code)

results_ready : (p : Post) (fs : List Found) → AllByRecursion (λ found. IsReadyMade (made.Result p found)) fs
    → AreReadyMade (map (made.Result p) fs)
results_ready p [] all = tt
results_ready p (f ∷ fs) all = (all.0, results_ready p fs all.1)

reported_ready : (r : Report) → IsReadyReport r → AreReadyMade (reported r)
reported_ready r is = (is.post r.code is.code, results_ready r.post r.found is.found)

all_reported_ready : (rs : List Report) → AreReadyReports rs → AreReadyMade (all_reported rs)
all_reported_ready [] all = tt
all_reported_ready (r ∷ rs) all =
    made_append (reported r) (all_reported rs) (reported_ready r all.0) (all_reported_ready rs all.1)

container_ready : (p : Post) (code : ℕ) (rs : List Report) → Answers p → IsLow code → AreReadyReports rs
    → AreReadyMade (container p code rs)
container_ready p code rs answers low all = (answers code low, all_reported_ready rs all)

undone_ready : (rs : List Report) → AreReadyReports rs → AreReadyReports (map undone rs)
undone_ready [] all = tt
undone_ready (r ∷ rs) all =
    let is = all.0 in
    (record { code = omega arith; post = is.post; found = tt }, undone_ready rs all.1)

not_run_ready : (ts : List Task) → AllByRecursion IsReadyTask ts → AreReadyReports (map not_run ts)
not_run_ready [] all = tt
not_run_ready (t ∷ ts) all =
    let is = all.0 in
    (record { code = omega arith; post = status_is_ready t.post is.post; found = tt }, not_run_ready ts all.1)

done_ready : (ps : List Part) → AllByRecursion IsReadyPart ps → AreReadyMade (parts_done ps)
done_ready [] all = tt
done_ready (p ∷ ps) all =
    let is = all.0 in
    made_append (container p.post 200 p.reports) (parts_done ps)
    (container_ready p.post 200 p.reports is.post (omega arith) is.reports) (done_ready ps all.1)

all_undone_ready : (ps : List Part) → AllByRecursion IsReadyPart ps → AreReadyMade (parts_undone ps)
all_undone_ready [] all = tt
all_undone_ready (p ∷ ps) all =
    let is = all.0 in
    made_append (container p.post 507 (map undone p.reports)) (parts_undone ps)
    (container_ready p.post 507 (map undone p.reports) is.post (omega arith) (undone_ready p.reports is.reports))
    (all_undone_ready ps all.1)

pub notice_ready : (o : Option (List ℕ)) → AreReadyMade (notice o)
notice_ready None = tt
notice_ready (Some target) = (broken_is_ready target, tt)

-- ---- a group that is broken

pub quiet_ready : (max : ℕ) (s : State) → IsReadyState max s → IsReadyNext max (quietly s)
quiet_ready max s state = record { state = state; made = tt }

broken_ready : (max : ℕ) (s : State) (g : Group) → IsReadyState max s → IsReadyGroup g
    → IsReadyNext max (broken_group s g)
broken_ready max s g state group = record {
  state = record { tree = group.base; fits = tt; object = tt; group = tt; started = state.started };
  made = made_append (notice (buffered_target s.object)) (parts_undone g.parts)
      (notice_ready (buffered_target s.object)) (all_undone_ready g.parts group.parts);
}

break_of_ready : (max : ℕ) (s : State) (o : Option Group) → IsReadyState max s → IfSome o IsReadyGroup
    → IsReadyNext max (break_of s o)
break_of_ready max s None state group = quiet_ready max s state
break_of_ready max s (Some g) state group = broken_ready max s g state group

break_ready : (max : ℕ) (s : State) → IsReadyState max s → IsReadyNext max (break_group s)
unfolding break_group
break_ready max s state = break_of_ready max s s.group state state.group

-- ---- tasks outside an Atomic

first_ready : (max : ℕ) (s : State) (w : Work) → IsReadyState max s → IsReadyNext max (breaks_first s w)
first_ready max s (work.Piece piece) state = break_ready max s state
first_ready max s (work.Alert code) state = quiet_ready max s state

alone_ready : (r : Running) (s : State) (t : Task) → IsReadyRunning r → IsReadyState r.max_obj s
    → IsReadyTask t → IsReadyNext r.max_obj (one_alone r s t)
alone_ready r s t running state ready =
    let first = first_ready r.max_obj s t.work state in
    let b = breaks_first s t.work in
    let done = step_ready r b.state t running first.state ready in
    let after = one_step r b.state t in
    record {
      state = done.state;
      made = made_append b.made (notice after.broken ++ reported after.report) first.made
          (made_append (notice after.broken) (reported after.report) (notice_ready after.broken)
          (reported_ready after.report done.report));
    }

pub sequence_ready : (r : Running) (s : State) (ts : List Task) → IsReadyRunning r
    → IsReadyState r.max_obj s → AllByRecursion IsReadyTask ts → IsReadyNext r.max_obj (in_sequence r s ts)
sequence_ready r s [] running state all = quiet_ready r.max_obj s state
sequence_ready r s (t ∷ ts) running state all =
    let first = alone_ready r s t running state all.0 in
    let rest = sequence_ready r (one_alone r s t).state ts running first.state all.1 in
    record {
      state = rest.state;
      made = made_append (one_alone r s t).made (in_sequence r (one_alone r s t).state ts).made first.made rest.made;
    }

-- ---- the tasks of an Atomic

record IsReadyTried (max_obj : ℕ) (t : Tried) : Type 0 where
  state : IsReadyState max_obj t.state
  notices : AreReadyMade t.notices
  done : AreReadyReports t.done
  failed : IfSome t.failed IsReadyReport
  unrun : AllByRecursion IsReadyTask t.unrun

tried_ready : (r : Running) (s : State) (ts : List Task) → IsReadyRunning r → IsReadyState r.max_obj s
    → AllByRecursion IsReadyTask ts → IsReadyTried r.max_obj (tried r s ts)
tried_ready r s [] running state all = record { state = state; notices = tt; done = tt; failed = tt; unrun = tt }
tried_ready r s (t ∷ ts) running state all =
    let first = one_step r s t in
    let is = step_ready r s t running state all.0 in
    let rest = tried_ready r first.state ts running is.state all.1 in
    let last : Tried = record {
      state = first.state;
      notices = notice first.broken;
      done = [];
      failed = Some first.report;
      unrun = ts;
    } in
    elim (is_success first.report.code)
    as (λ b. IsReadyTried r.max_obj (cond b (after_success first (tried r first.state ts)) last)) [
      | true ↦ record {
        state = rest.state;
        notices = made_append (notice first.broken) (tried r first.state ts).notices (notice_ready first.broken)
            rest.notices;
        done = (is.report, rest.done);
        failed = rest.failed;
        unrun = rest.unrun;
      }
      | false ↦ record {
        state = is.state;
        notices = notice_ready first.broken;
        done = tt;
        failed = is.report;
        unrun = all.1;
      }
    ]

-- ---- what is left of an object

record IsReadyLeft (max_obj : ℕ) (o : Object) : Type 0 where
  fits : FitsObject max_obj o
  object : IsReadyObject o

either_left : (max : ℕ) (b : Bool) (x y : Object) → IsReadyLeft max x → IsReadyLeft max y → IsReadyLeft max (cond b x y)
either_left max true x y h k = h
either_left max false x y h k = k

stays_ready : (max : ℕ) (o : Object) → IsReadyLeft max o → IsReadyLeft max (stays o)
stays_ready max Nothing is = is
stays_ready max (Buffering begun) is =
    either_left max begun.key.in_atomic (Skipping begun.key 500) (Buffering begun)
    (record { fits = tt; object = omega arith }) is
stays_ready max (Skipping key code) is = is

left_by_ready : (max : ℕ) (o : Object) (w : Work) → IsReadyLeft max o → IsReadyLeft max (left_by o w)
left_by_ready max o (work.Piece piece) is =
    either_left max piece.more (Skipping (key_of piece.step) 500) o (record { fits = tt; object = omega arith }) is
left_by_ready max o (work.Alert code) is = is

left_ready : (max : ℕ) (o : Object) (ts : List Task) → IsReadyLeft max o → IsReadyLeft max (left_object o ts)
left_ready max o [] is = is
left_ready max o (t ∷ ts) is = left_ready max (left_by o t.work) ts (left_by_ready max o t.work is)

-- ---- a group

either_group : (o : Option Group) (g : Group) → IfSome o IsReadyGroup → IsReadyGroup g → IsReadyGroup (unwrap_or o g)
either_group None g is ready = ready
either_group (Some h) g is ready = is

opened_ready : (max : ℕ) (s : State) → IsReadyState max s → IsReadyGroup (opened s)
opened_ready max s state =
    either_group s.group (record { base = s.tree; parts = [] }) state.group (record { base = state.tree; parts = tt })

opens_ready : (max : ℕ) (s : State) → IsReadyState max s → IsReadyState max (opens s)
opens_ready max s state = record {
  tree = state.tree;
  fits = state.fits;
  object = state.object;
  group = opened_ready max s state;
  started = state.started;
}

parts_ready : (g : Group) (post : Post) (rs : List Report) → IsReadyGroup g → Answers post → AreReadyReports rs
    → AllByRecursion IsReadyPart (g.parts ++ record { post = post; reports = rs } ∷ [])
parts_ready g post rs group answers all =
    all_append IsReadyPart g.parts _ group.parts (record { post = answers; reports = all }, tt)

module _ (max : ℕ) (g : Group) (post : Post) (t : Tried) (group : IsReadyGroup g) (answers : Answers post)
    (is : IsReadyTried max t) where
  stays_open_ready : IsReadyNext max (stays_open g post t)
  stays_open_ready = record {
    state = record {
      tree = is.state.tree;
      fits = is.state.fits;
      object = is.state.object;
      group = record { base = group.base; parts = parts_ready g post t.done group answers is.done };
      started = is.state.started;
    };
    made = tt;
  }

  succeeds_ready : IsReadyNext max (succeeds g post t)
  succeeds_ready = record {
    state = record {
      tree = is.state.tree;
      fits = is.state.fits;
      object = is.state.object;
      group = tt;
      started = is.state.started;
    };
    made = done_ready (with_part g post t).parts (parts_ready g post t.done group answers is.done);
  }

  fails_ready : (report : Report) → IsReadyReport report → IsReadyNext max (fails g post t report)
  fails_ready report ready =
      let left = left_ready max (stays t.state.object) t.unrun
      (stays_ready max t.state.object (record { fits = is.state.fits; object = is.state.object })) in
      let all : AreReadyReports (map undone t.done ++ report ∷ map not_run t.unrun) =
      all_append IsReadyReport (map undone t.done) (report ∷ map not_run t.unrun) (undone_ready t.done is.done)
      (ready, not_run_ready t.unrun is.unrun) in
      record {
        state = record {
          tree = group.base;
          fits = left.fits;
          object = left.object;
          group = tt;
          started = is.state.started;
        };
        made = made_append (parts_undone g.parts)
            (container post 507 (map undone t.done ++ report ∷ map not_run t.unrun))
            (all_undone_ready g.parts group.parts)
            (container_ready post 507 (map undone t.done ++ report ∷ map not_run t.unrun) answers (omega arith) all);
      }

  closes_ready : (o : Option Report) → IfSome o IsReadyReport → IsReadyNext max (closes g post t o)
  closes_ready (Some report) ready = fails_ready report ready
  closes_ready None ready =
      elim (is_buffering_inside t.state.object)
      as (λ b. IsReadyNext max (cond b (stays_open g post t) (succeeds g post t))) [
        | true ↦ stays_open_ready
        | false ↦ succeeds_ready
      ]

-- ---- an Atomic

in_group_ready : (r : Running) (s : State) (post : Post) (ts : List Task) → IsReadyRunning r
    → IsReadyState r.max_obj s → IsReadyPost post → AllByRecursion IsReadyTask ts
    → IsReadyNext r.max_obj (in_group r s post ts)
unfolding in_group
in_group_ready r s post ts running state is all =
    let t = tried r s ts in
    let ready = tried_ready r s ts running state all in
    let closed = closes_ready r.max_obj (opened s) post t (opened_ready r.max_obj s state) (status_is_ready post is)
    ready t.failed ready.failed in
    record {
      state = closed.state;
      made = made_append t.notices (closes (opened s) post t t.failed).made ready.notices closed.made;
    }

join_ready : (max : ℕ) (s : State) (ts : List Task) → IsReadyState max s → IsReadyNext max (join_or_break s ts)
join_ready max s ts state = elim (joins s ts) as (λ b. IsReadyNext max (cond b (quietly s) (break_group s))) [
  | true ↦ quiet_ready max s state
  | false ↦ break_ready max s state
]

pub atomic_ready : (r : Running) (s : State) (post : Post) (ts : List Task) → IsReadyRunning r
    → IsReadyState r.max_obj s → IsReadyPost post → AllByRecursion IsReadyTask ts
    → IsReadyNext r.max_obj (atomically r s post ts)
unfolding atomically
atomic_ready r s post ts running state is all =
    let b = join_or_break s ts in
    let first = join_ready r.max_obj s ts state in
    let rest = in_group_ready r (opens b.state) post ts running (opens_ready r.max_obj b.state first.state) is
    all in
    record {
      state = rest.state;
      made = made_append b.made (in_group r (opens b.state) post ts).made first.made rest.made;
    }

-- ---- what breaks what is unfinished

still_of_ready : (max : ℕ) (s : State) (o : Option Group) → IsReadyState max s → IfSome o IsReadyGroup
    → IsReadyNext max (still_of s o)
still_of_ready max s None state group = record {
  state = record { tree = state.tree; fits = tt; object = tt; group = state.group; started = state.started };
  made = notice_ready (buffered_target s.object);
}
still_of_ready max s (Some g) state group = broken_ready max s g state group

pub still_ready : (max : ℕ) (s : State) → IsReadyState max s → IsReadyNext max (still s)
unfolding still
still_ready max s state = still_of_ready max s s.group state state.group

base_device : (o : Option Group) (m : Nodes) → IfSome o IsReadyGroup → IsDevice m
    → IsDevice (unwrap_or (option_map (λ (g : Group). g.base) o) m)
base_device None m group device = device
base_device (Some g) m group device = group.base

pub abandoned_ready : (max : ℕ) (s : State) → IsReadyState max s → IsReadyState max (abandoned s)
unfolding abandoned
abandoned_ready max s state = record {
  tree = base_device s.group s.tree state.group state.tree;
  fits = tt;
  object = tt;
  group = tt;
  started = state.started;
}
