use Rattle.std.proofs.Common.{subst, sym}
use Rattle.dm_atomic.specs.Engine.{state_of, IsShortWhat}
use Rattle.dm_atomic.proofs.Engines.{pieced_ok, passed_ok}
use Rattle.dm_atomic.proofs.Gathers.{gather-short}
use Rattle.dm_objects.specs.Seen.{present}
use Rattle.dm_objects.specs.InPlace.{what_of}
use Rattle.dm_atomic.proofs.Staying.{a_piece_stays}
use Rattle.dm_atomic.proofs.engine.Engine.one_piece.Goals as goal

pub whole_step-requires : goal.whole_step-requires
whole_step-requires c =
    let e = c.args.self.now in
    let takes = c.passes.ensures.takes c.if-passes.true in
    record {
      sound = c.requires.sound;
      short = subst IsShortWhat (sym takes.what)
          (gather-short e.inbox.max_obj (present e.inbox.objects) c.args.piece.now c.requires.sound.object
          c.requires.sound.max_obj);
    }

pub returns-then-passes-clause-ok : goal.returns-then-passes-clause-ok
returns-then-passes-clause-ok c =
    passed_ok c.whole_step.result c.args.self.now c.args.caller.now c.args.post.now c.args.piece.now
    (state_of c.whole_step.new.self) c.args.out.now (c.passes.ensures.takes c.if-passes.true) c.whole_step.ensures.ok

pub returns-clause-ok : goal.returns-clause-ok
returns-clause-ok c =
    let g = c.in_ok-sort.ensures in
    pieced_ok c.by_sort.result c.args.self.now c.gather.new.self c.args.caller.now c.args.post.now c.args.piece.now
    (what_of c.in_ok-sort.sort c.gather.new.piece.step) (state_of c.by_sort.new.self) c.args.out.now c.gather.new.out
    g.object g.what g.told c.by_sort.ensures.ok

pub returns-clause-ids : goal.returns-clause-ids
returns-clause-ids c =
    let e = c.args.self.now in
    a_piece_stays e c.gather.new.self c.by_sort.new.self c.args.piece.now
    (what_of c.in_ok-sort.sort c.gather.new.piece.step) (present e.inbox.objects)
    c.in_ok-sort.ensures.what c.gather.ensures.ids c.by_sort.ensures.ids
