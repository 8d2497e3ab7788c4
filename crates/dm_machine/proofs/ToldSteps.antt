-- One task on a ready state leaves a ready state, and a report that can be told.
use Rattle.std.proofs.Common.{◌≡◌, ◌≤◌, ◌+◌, ◌==◌, ◌&&◌, ◌||◌, ℕ, Bool, true, false, cond, not, List, [], ◌∷◌, length}
use Rattle.std.proofs.Common.{Option, Some, None, refl, arith}
use Rattle.std.specs.Prelude.{IfSome, is_some, nat_lt, ⊤}
use Rattle.std.specs.List.{AllByRecursion}
use Rattle.syncml_types.specs.declared.command.Step.{Step}
use Rattle.syncml_types.specs.Canonical.{is_text}
use Rattle.syncml_types.specs.Verbs.{is_write}
use Rattle.dm_tree.specs.Nodes.{IsStamp}
use Rattle.dm_tree.specs.Devices.{IsText}
use Rattle.dm_objects.specs.declared.object.Object.{Object}
use Rattle.dm_objects.specs.declared.object.Begun.{Begun}
use Rattle.dm_objects.specs.declared.object.Object.TheVariants.{Nothing, Buffering, Skipping}
use Rattle.dm_objects.specs.declared.piece.Piece.{Piece}
use Rattle.dm_objects.specs.declared.piece.What.{What}
use Rattle.dm_objects.specs.declared.piece.What.TheVariants.{Whole, Buffered, Refused}
use Rattle.dm_objects.specs.Gathering.{Came, came, skipped, first_of_several, single, next_piece, write_piece}
use Rattle.dm_objects.specs.Gathering.{by_rules, gather, continues}
use Rattle.dm_commands.specs.Promises.{IsShortStep}
use Rattle.dm_commands.specs.Table.{act}
use Rattle.dm_commands.specs.declared.outcome.Found.{Found}
use Rattle.dm_atomic.specs.declared.tasks.Post.{Post}
use Rattle.dm_atomic.specs.declared.tasks.Work.{Work}
use Rattle.dm_atomic.specs.declared.tasks.Work.TheVariants as work
use Rattle.dm_atomic.specs.declared.tasks.Task.{Task}
use Rattle.dm_atomic.specs.declared.reports.Started.{Started}
use Rattle.dm_atomic.specs.Engine.{IsShortWhat}
use Rattle.dm_atomic.specs.Made as made
use Rattle.dm_atomic.specs.Run.{State, Running, Ran, ran, alert_code, started_by, step_ran, by_what, one_piece}
use Rattle.dm_atomic.specs.Run.{by_work, one_step}
use Rattle.dm_atomic.proofs.Gathers.{gather-fits, gather-short}
use Rattle.dm_machine.specs.Ready.{IsReadyMade, IsReadyReport, IsReadyObject, IsCorrelator, IsReadyState}
use Rattle.dm_machine.proofs.FormedDevices.{act_device}
use Rattle.dm_machine.proofs.ToldFound.{IsReadyFound, result_is_ready}
use Rattle.dm_ends.proofs.Statuses.{IsReadyPost, status_is_ready}
use Rattle.dm_machine.proofs.ToldActs.{IsLow, act_ready}

-- ---- tasks

-- a step whose Type and Correlator are texts
pub record IsReadyStep (step : Step) : Type 0 where
  pub media : IfSome step.media IsText
  pub correlator : IfSome step.correlator (λ text. is_text text ≡ true)

abbrev pub IsReadyWork : Work → Type 0
IsReadyWork (work.Piece piece) = IsReadyStep piece.step
IsReadyWork (work.Alert code) = ⊤

pub record IsReadyTask (t : Task) : Type 0 where
  pub post : IsReadyPost t.post
  pub work : IsReadyWork t.work

pub record IsReadyRunning (r : Running) : Type 0 where
  pub clock : IsStamp r.setting.clock
  pub max_obj : r.max_obj ≤ 4194304

-- ---- pieces

abbrev IsReadyWhat : What → Type 0
IsReadyWhat (Whole step) = IsReadyStep step
IsReadyWhat Buffered = ⊤
IsReadyWhat (Refused code) = IsLow code

record IsReadyCame (c : Came) : Type 0 where
  object : IsReadyObject c.object
  what : IsReadyWhat c.what

refused_came : (o : Object) (code : ℕ) → IsReadyObject o → IsLow code → IsReadyCame (came o (Refused code))
refused_came o code is low = record { object = is; what = low }

skipped_came : (piece : Piece) (code : ℕ) → IsLow code → IsReadyCame (skipped piece code)
skipped_came piece code low = record { object = low; what = low }

either_came : (b : Bool) (x y : Came) → IsReadyCame x → IsReadyCame y → IsReadyCame (cond b x y)
either_came true x y h k = h
either_came false x y h k = k

either_object : (b : Bool) (x y : Object) → IsReadyObject x → IsReadyObject y → IsReadyObject (cond b x y)
either_object true x y h k = h
either_object false x y h k = k

single_came : (max : ℕ) (piece : Piece) → IsReadyStep piece.step → IsReadyCame (single max piece)
single_came max piece is =
    either_came (nat_lt max (length piece.step.value)) _ _ (refused_came Nothing 416 tt (omega arith))
    (record { object = tt; what = is })

first_came : (max : ℕ) (piece : Piece) (size : Option ℕ) → IsReadyStep piece.step
    → IsReadyCame (first_of_several max piece size)
first_came max piece None is = skipped_came piece 411 (omega arith)
first_came max piece (Some size) is =
    either_came (nat_lt max size) _ _ (skipped_came piece 416 (omega arith))
    (either_came (nat_lt size (length piece.step.value)) _ _ (skipped_came piece 424 (omega arith))
    (record { object = is.media; what = tt }))

next_came : (begun : Begun) (piece : Piece) → IfSome begun.media IsText → IsReadyStep piece.step
    → IsReadyCame (next_piece begun piece)
next_came begun piece media is =
    let total = length begun.value + length piece.step.value in
    either_came (nat_lt begun.size total) _ _
    (refused_came _ 424 (either_object piece.more (Skipping begun.key 424) Nothing (omega arith) tt) (omega arith))
    (either_came piece.more _ _ (record { object = media; what = tt })
    (either_came (total == begun.size) _ _
    (record { object = tt; what = record { media = media; correlator = is.correlator } })
    (refused_came Nothing 424 tt (omega arith))))

write_came : (max : ℕ) (o : Object) (piece : Piece) → IsReadyObject o → IsReadyStep piece.step
    → IsReadyCame (write_piece max o piece)
write_came max Nothing piece o is =
    either_came piece.more _ _ (first_came max piece piece.size is) (single_came max piece is)
write_came max (Buffering begun) piece o is = next_came begun piece o is
write_came max (Skipping key code) piece o is =
    refused_came _ code (either_object piece.more (Skipping key code) Nothing o tt) o

other_what : (b : Bool) (step : Step) → IsReadyStep step → IsReadyWhat (cond b (Refused 400) (Whole step))
other_what true step is = omega arith
other_what false step is = is

rules_came : (max : ℕ) (o : Object) (piece : Piece) → IsReadyObject o → IsReadyStep piece.step
    → IsReadyCame (by_rules max o piece)
rules_came max o piece h is =
    either_came (not (is_write piece.step.verb)) _ _ (record { object = h; what = other_what piece.more piece.step is })
    (either_came (piece.more && not (is_some piece.step.target)) _ _ (refused_came o 400 h (omega arith))
    (write_came max o piece h is))

gathered_came : (max : ℕ) (o : Object) (piece : Piece) (continued : Bool) → IsReadyObject o → IsReadyStep piece.step
    → IsReadyCame (by_rules max (cond continued o Nothing) piece)
gathered_came max o piece continued h is =
    rules_came max (cond continued o Nothing) piece (either_object continued o Nothing h tt) is

gather_object : (max : ℕ) (o : Object) (piece : Piece) → IsReadyObject o → IsReadyStep piece.step
    → IsReadyObject (gather max o piece).object
unfolding gather
gather_object max o piece h is = (gathered_came max o piece (continues o piece) h is).object

gather_what : (max : ℕ) (o : Object) (piece : Piece) → IsReadyObject o → IsReadyStep piece.step
    → IsReadyWhat (gather max o piece).what
unfolding gather
gather_what max o piece h is = (gathered_came max o piece (continues o piece) h is).what

-- ---- reports

pub record IsReadyRan (max_obj : ℕ) (r : Ran) : Type 0 where
  pub state : IsReadyState max_obj r.state
  pub report : IsReadyReport r.report

found_made : (post : Post) (fs : List Found) → IsReadyPost post → AllByRecursion IsReadyFound fs
    → AllByRecursion (λ found. IsReadyMade (made.Result post found)) fs
found_made post [] is all = tt
found_made post (f ∷ fs) is all = (result_is_ready post f is all.0, found_made post fs is all.1)

pub report_ready : (post : Post) (code : ℕ) (found : List Found) → IsReadyPost post → IsLow code
    → AllByRecursion IsReadyFound found → IsReadyReport (record { post = post; code = code; found = found })
report_ready post code found is low all = record {
  code = low;
  post = status_is_ready post is;
  found = found_made post found is all;
}

ran_ready : (max : ℕ) (s : State) (post : Post) (code : ℕ) (broken : Option (List ℕ)) → IsReadyState max s
    → IsReadyPost post → IsLow code → IsReadyRan max (ran s post code broken)
ran_ready max s post code broken state is low = record { state = state; report = report_ready post code [] is low tt }

-- ---- one task

correlator_ready : (o : Option (List ℕ)) → IfSome o (λ text. is_text text ≡ true) → IfSome o (λ text. length text ≤ 255)
    → IfSome o IsCorrelator
correlator_ready None text short = tt
correlator_ready (Some t) text short = record { text_is = text; short = short }

started_ready : (step : Step) (before : Option Started) (b : Bool) → (b ≡ true → IfSome step.correlator IsCorrelator)
    → IfSome before (λ (u : Started). IfSome u.correlator IsCorrelator)
    → IfSome (cond b (Some (started_by step)) before) (λ (u : Started). IfSome u.correlator IsCorrelator)
started_ready step before true h k = h refl
started_ready step before false h k = k

whole_ready : (r : Running) (s : State) (post : Post) (broken : Option (List ℕ)) (step : Step)
    → IsReadyRunning r → IsReadyState r.max_obj s → IsReadyPost post → IsShortStep step → IsReadyStep step
    → IsReadyRan r.max_obj (step_ran r s post broken step)
whole_ready r s post broken step running state is short ready =
    let done = act_ready r.setting s.tree step state.tree in
    record {
      state = record {
        tree = act_device r.setting s.tree step running.clock short ready.media state.tree;
        fits = state.fits;
        object = state.object;
        group = state.group;
        started = started_ready step s.started (act r.setting s.tree step).started
            (λ e. correlator_ready step.correlator ready.correlator (done.correlator e)) state.started;
      };
      report = report_ready post (act r.setting s.tree step).code (act r.setting s.tree step).found is done.code
          done.found;
    }

what_ready : (r : Running) (s : State) (post : Post) (broken : Option (List ℕ)) (w : What)
    → IsReadyRunning r → IsReadyState r.max_obj s → IsReadyPost post → IsShortWhat w → IsReadyWhat w
    → IsReadyRan r.max_obj (by_what r s post broken w)
what_ready r s post broken (Whole step) running state is short ready =
    whole_ready r s post broken step running state is short ready
what_ready r s post broken Buffered running state is short ready =
    ran_ready r.max_obj s post 213 broken state is (omega arith)
what_ready r s post broken (Refused code) running state is short ready =
    ran_ready r.max_obj s post code broken state is ready

piece_ready : (r : Running) (s : State) (post : Post) (piece : Piece) → IsReadyRunning r
    → IsReadyState r.max_obj s
    → IsReadyPost post → IsReadyStep piece.step → IsReadyRan r.max_obj (one_piece r s post piece)
piece_ready r s post piece running state is ready =
    let g = gather r.max_obj s.object piece in
    what_ready r (record s { object = g.object }) post g.broken g.what running
    (record {
      tree = state.tree;
      fits = gather-fits r.max_obj s.object piece state.fits;
      object = gather_object r.max_obj s.object piece state.object ready;
      group = state.group;
      started = state.started;
    }) is (gather-short r.max_obj s.object piece state.fits running.max_obj)
    (gather_what r.max_obj s.object piece state.object ready)

low_alert : (b : Bool) → IsLow (cond b 200 406)
low_alert true = omega arith
low_alert false = omega arith

work_ready : (r : Running) (s : State) (post : Post) (w : Work) → IsReadyRunning r
    → IsReadyState r.max_obj s → IsReadyPost post → IsReadyWork w → IsReadyRan r.max_obj (by_work r s post w)
work_ready r s post (work.Piece piece) running state is ready =
    piece_ready r s post piece running state is ready
work_ready r s post (work.Alert code) running state is ready =
    ran_ready r.max_obj s post (alert_code code) None state is (low_alert (code == 1222 || code == 1225))

pub step_ready : (r : Running) (s : State) (t : Task) → IsReadyRunning r → IsReadyState r.max_obj s
    → IsReadyTask t → IsReadyRan r.max_obj (one_step r s t)
unfolding one_step
step_ready r s t running state ready = work_ready r s t.post t.work running state ready.post ready.work
