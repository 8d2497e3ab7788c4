use Rattle.std.proofs.Common.{sym, ◌∙◌, subst}
use Rattle.syncml_types.specs.declared.values.Header.{Header}
use Rattle.dm_atomic.specs.Run.{run_all}
use Rattle.dm_atomic.specs.Engine.{state_of, running, Gives}
use Rattle.dm_ends.specs.Commands.{origin_of}
use Rattle.dm_session.specs.Frames.{KeepsBut}
use Rattle.dm_session.specs.Stays.{body_covers}
use Rattle.dm_session.proofs.Frames.{keeps_then_none}
use Rattle.dm_session.proofs.Runs.{noisy_gives, quiet_gives}
use Rattle.dm_session.proofs.executing.execute.Goals as goal
use Rattle.dm_session.proofs.executing.execute.Goals.{then-quiet+in_ok-still, else-quiet}

pub returns-clause-gives : goal.returns-clause-gives
returns-clause-gives c =
    let r = running c.args.engine.now c.args.caller.now in
    let s = state_of c.args.engine.now in
    let m = c.args.message in
    let run = run_all r (origin_of m) s m.body in
    let out = c.args.out.now in
    let next = state_of c.run_all.new.engine in
    let first : Gives run next out c.run_all.new.out =
    subst (λ b. Gives (run_all r (origin_of m) s b) next out c.run_all.new.out)
    (c.as_mut_slice.ensures.value ∙ c.into_vec-body.ensures ∙ c.into_body.ensures)
    (subst
    (λ (h : Header).
    Gives (run_all r (record { msg = h.msg; quiet = h.no_resp }) s c.as_mut_slice.result.now) next out
    c.run_all.new.out)
    c.header-header.ensures.value c.in_ok-run_all.ensures.gives) in
    elim c.if-quiet.branch [
      | then-quiet+in_ok-still w ↦
          rw (w.engine-is, w.out-is)
          (quiet_gives m run next (state_of w.still.new.self) out c.run_all.new.out w.still.new.out
          (sym c.is_quiet-quiet.ensures ∙ w.if-quiet.true) first w.in_ok-still.ensures.gives)
      | else-quiet w ↦
          rw (w.engine-is, w.out-is)
          (noisy_gives m run next out c.run_all.new.out (sym c.is_quiet-quiet.ensures ∙ w.if-quiet.false) first)
    ]

pub returns-in_err-still-clause-keeps : goal.returns-in_err-still-clause-keeps
returns-in_err-still-clause-keeps c =
    let e = c.args.engine.now in
    let m = c.args.message in
    let ran : KeepsBut (body_covers m.body) e c.run_all.new.engine =
    subst (λ b. KeepsBut (body_covers b) e c.run_all.new.engine)
    (c.as_mut_slice.ensures.value ∙ c.into_vec-body.ensures ∙ c.into_body.ensures) c.in_ok-run_all.ensures.keeps in
    keeps_then_none (body_covers m.body) e c.run_all.new.engine c.still.new.self ran (record {
      clock = c.still.ensures.clock;
      max_obj = c.still.ensures.max_obj;
      ids = c.still.ensures.ids;
      marks = c.still.ensures.marks;
      sound = c.still.ensures.sound;
    })

pub returns-clause-keeps : goal.returns-clause-keeps
returns-clause-keeps c =
    let e = c.args.engine.now in
    let m = c.args.message in
    let ran : KeepsBut (body_covers m.body) e c.run_all.new.engine =
    subst (λ b. KeepsBut (body_covers b) e c.run_all.new.engine)
    (c.as_mut_slice.ensures.value ∙ c.into_vec-body.ensures ∙ c.into_body.ensures) c.in_ok-run_all.ensures.keeps in
    elim c.if-quiet.branch [
      | then-quiet+in_ok-still w ↦
          rw w.engine-is (keeps_then_none (body_covers m.body) e c.run_all.new.engine w.still.new.self ran (record {
            clock = w.still.ensures.clock;
            max_obj = w.still.ensures.max_obj;
            ids = w.still.ensures.ids;
            marks = w.still.ensures.marks;
            sound = w.still.ensures.sound;
          }))
      | else-quiet w ↦ rw w.engine-is ran
    ]
