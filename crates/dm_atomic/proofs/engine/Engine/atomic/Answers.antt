use Rattle.std.proofs.Common.{◌∙◌, ap}
use Rattle.dm_objects.specs.Seen.{Seen}
use Rattle.dm_atomic.specs.Engine.{state_of}
use Rattle.dm_atomic.proofs.Closings.{atomic_gives}
use Rattle.dm_atomic.proofs.Held.{holds_then}
use Rattle.dm_atomic.proofs.engine.Engine.atomic.Goals as goal

pub returns-clause-gives : goal.returns-clause-gives
returns-clause-gives c =
    let e = c.args.self.now in
    let b = c.join_or_break.new.self in
    let o = c.open_group.new.self in
    atomic_gives e o c.args.caller.now (state_of e) (state_of b) (state_of o) (state_of c.run_open.new.self) c.args.post
    c.args.tasks.now c.args.out.now c.join_or_break.new.out c.run_open.new.out
    (c.open_group.ensures.clock ∙ c.join_or_break.ensures.clock)
    (ap (λ (i : Seen). i.max_obj) c.open_group.ensures.inbox ∙ c.join_or_break.ensures.max_obj)
    c.in_ok-join_or_break.ensures.gives
    c.in_ok-open_group.ensures.state c.in_ok-run_open.ensures.gives

pub returns-clause-marks : goal.returns-clause-marks
returns-clause-marks c =
    let e = c.args.self.now in
    let b = c.join_or_break.new.self in
    let o = c.open_group.new.self in
    holds_then e o c.run_open.new.self (holds_then e b o c.join_or_break.ensures.marks c.open_group.ensures.marks)
    c.run_open.ensures.marks
