use Rattle.std.proofs.Common.{refl}
use Rattle.dm_atomic.specs.declared.engine.Engine.{Engine}
use Rattle.dm_atomic.proofs.Backs.{Settles, first_held, first_within, settled_whole, settled_past, settled_gone}
use Rattle.dm_atomic.proofs.Backs.{settled_sound}
use Rattle.dm_atomic.proofs.engine.Engine.settle.Goals as goal

pub settle-self-requires-clause-held : goal.settle-self-requires-clause-held
settle-self-requires-clause-held c =
    first_held c.args.self.now c.first_place-first.result c.requires.sound c.first_place-first.ensures

pub settle-self-requires-clause-within : goal.settle-self-requires-clause-within
settle-self-requires-clause-within c =
    first_within c.args.self.now c.first_place-first.result c.requires.sound c.first_place-first.ensures

settled_to : goal.After-clear-2 → Engine
settled_to c = record c.args.self.now {
  tree = c.settle-self.new.tree;
  journal = c.settle-self.new.self;
  inbox = c.settle.new.self;
  mark = c.settle-self.result;
  ended = c.clear-2.new.self;
  starts = c.clear.new.self;
}

settled : (c : goal.After-clear-2) → Settles c.args.self.now (settled_to c) c.first_place-first.result
unfolding settled_to
settled c = record {
  is_first = c.first_place-first.ensures;
  sound = c.settle-self.ensures.sound;
  there = c.settle-self.ensures.there;
  trees = c.settle-self.ensures.recalls;
  journal = c.settle-self.ensures.entries;
  mark = c.settle-self.ensures.mark;
  inbox = c.settle.ensures;
  starts = c.clear.ensures.items;
  ended = c.clear-2.ensures.items;
  capacity = c.clear-2.ensures.capacity;
  parts = refl;
  is_open = refl;
  started = refl;
}

pub returns-clause-whole : goal.returns-clause-whole
unfolding settled_to
returns-clause-whole c =
    settled_whole c.args.self.now (settled_to c) c.first_place-first.result c.requires.sound (settled c)

pub returns-clause-past : goal.returns-clause-past
unfolding settled_to
returns-clause-past c =
    settled_past c.args.self.now (settled_to c) c.first_place-first.result c.requires.sound (settled c)

pub returns-clause-gone : goal.returns-clause-gone
unfolding settled_to
returns-clause-gone c =
    settled_gone c.args.self.now (settled_to c) c.first_place-first.result c.requires.sound (settled c)

pub returns-clause-sound : goal.returns-clause-sound
unfolding settled_to
returns-clause-sound c =
    settled_sound c.args.self.now (settled_to c) c.first_place-first.result c.requires.sound (settled c)
