use Rattle.std.proofs.Common.{subst, sym}
use Rattle.dm_objects.specs.Seen.{present}
use Rattle.dm_atomic.specs.Engine.{IsShortWhat}
use Rattle.dm_atomic.proofs.Gathers.{gather-short}
use Rattle.dm_atomic.proofs.Engines.{gathered-sound}
use Rattle.dm_atomic.proofs.Held.{holds_next}
use Rattle.dm_atomic.proofs.engine.Engine.gather.Goals as goal

pub returns-in_err-put_notice-clause-sound : goal.returns-in_err-put_notice-clause-sound
returns-in_err-put_notice-clause-sound c =
    gathered-sound c.args.self.now _ c.args.piece.now c.requires.sound c.in_ok-broken.ensures.ok.now

pub returns-clause-short : goal.returns-clause-short
returns-clause-short c =
    let e = c.args.self.now in
    subst IsShortWhat (sym c.in_ok-broken.ensures.ok.what)
    (gather-short e.inbox.max_obj (present e.inbox.objects) c.args.piece.now c.requires.sound.object
    c.requires.sound.max_obj)

pub returns-clause-sound : goal.returns-clause-sound
returns-clause-sound c =
    gathered-sound c.args.self.now _ c.args.piece.now c.requires.sound c.in_ok-broken.ensures.ok.now

pub returns-in_err-put_notice-clause-marks : goal.returns-in_err-put_notice-clause-marks
returns-in_err-put_notice-clause-marks c = holds_next c.args.self.now _ _ c.in_ok-broken.ensures.ok.now

pub returns-clause-marks : goal.returns-clause-marks
returns-clause-marks c = holds_next c.args.self.now _ _ c.in_ok-broken.ensures.ok.now
