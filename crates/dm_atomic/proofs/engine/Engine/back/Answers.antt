use Rattle.std.proofs.Common.{◌∙◌, refl, ap, take}
use Rattle.dm_atomic.specs.declared.engine.Engine.{Engine}
use Rattle.dm_atomic.proofs.Backs.{GoesBack, back_whole, back_past, back_earlier, back_sound}
use Rattle.dm_atomic.proofs.engine.Engine.back.Goals as goal

gone_to : goal.After-self-1 → Engine
gone_to c = record c.args.self.now {
  tree = c.unwind.new.tree;
  journal = c.unwind.new.self;
  inbox = c.back.new.self;
  is_open = c.args.mark.is_open;
  mark = c.reach_group.new.mark;
  parts = c.cut_to.new.self;
  started = c.reach_start.new.started;
  ended = c.reach_group.new.ended;
  starts = c.reach_start.new.starts;
}

gone : (c : goal.After-self-1) → GoesBack c.args.self.now (gone_to c) c.args.mark
unfolding gone_to
gone c = record {
  sound = c.unwind.ensures.sound;
  there = c.unwind.ensures.there;
  trees = c.unwind.ensures.recalls;
  alike = c.unwind.ensures.entries.0;
  long = c.unwind.ensures.entries.1;
  room = c.unwind.ensures.room;
  inbox = c.back.ensures;
  starts = c.reach_start.ensures.starts;
  started = c.reach_start.ensures.started;
  ended = c.reach_group.ensures.ended;
  capacity = c.reach_group.ensures.room;
  mark = c.reach_group.ensures.mark;
  parts = c.cut_to.ensures ∙ ap (take c.args.mark.parts) c.reach_group.ensures.parts;
  is_open = refl;
}

pub returns-clause-whole : goal.returns-clause-whole
unfolding gone_to
returns-clause-whole c = back_whole c.args.self.now (gone_to c) c.args.mark c.requires.held (gone c)

pub returns-clause-past : goal.returns-clause-past
unfolding gone_to
returns-clause-past c = back_past c.args.self.now (gone_to c) c.args.mark c.requires.held (gone c)

pub returns-clause-earlier : goal.returns-clause-earlier
unfolding gone_to
returns-clause-earlier c = back_earlier c.args.self.now (gone_to c) c.args.mark c.requires.held (gone c)

pub returns-clause-sound : goal.returns-clause-sound
unfolding gone_to
returns-clause-sound c = back_sound c.args.self.now (gone_to c) c.args.mark c.requires.held (gone c) c.requires.sound
