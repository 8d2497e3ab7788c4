use Rattle.dm_atomic.proofs.Held.{holds_self, holds_then}
use Rattle.engine_tests.proofs.engines.all_called.Goals as goal

pub loop-place-init : goal.loop-place-init
loop-place-init c = record { marks = holds_self c.args.engine.now; sound = c.requires.sound }

pub loop-place-preserved : goal.loop-place-preserved
loop-place-preserved c = record {
  marks = holds_then c.args.engine.now c.loop-place.engine c.called_by.new.engine c.loop-place.invariant.marks
      c.called_by.ensures.marks;
  sound = c.called_by.ensures.sound;
}

pub returns-in_err-called_by-clause-marks : goal.returns-in_err-called_by-clause-marks
returns-in_err-called_by-clause-marks c =
    holds_then c.args.engine.now c.loop-place.engine c.called_by.new.engine c.loop-place.invariant.marks
    c.called_by.ensures.marks
