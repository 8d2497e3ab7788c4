use Rattle.std.proofs.Common.{◌∙◌, ap, ◌∷◌, [], ◌++◌, arith, length, refl}
use Rattle.dm_undo.specs.declared.entries.Entry.TheVariants.{Record, Flipped}
use Rattle.dm_undo.proofs.Unwinds.{unwound-first, opened, one_more, unwound-record, unwound-flipped, flipped-held}
use Rattle.dm_undo.proofs.Helds.{unwound_held-record, unwound_held-flipped}
use Rattle.dm_undo.proofs.entries.unwind_to.Goals as goal

pub take_back-requires-clause-tree : goal.take_back-requires-clause-tree
take_back-requires-clause-tree c =
    let is = c.take_last.ensures.items ∙ ap (λ e. c.take_last.new.self.items ++ e ∷ []) c.in-Record.is in
    (opened c.loop-entries.entries.items c.take_last.new.self.items (Record c.in-Record.undo) c.loop-entries.tree.rows
    is c.loop-entries.invariant.left.sound).0.tree

pub take_back-requires-clause-fits : goal.take_back-requires-clause-fits
take_back-requires-clause-fits c =
    let is = c.take_last.ensures.items ∙ ap (λ e. c.take_last.new.self.items ++ e ∷ []) c.in-Record.is in
    (opened c.loop-entries.entries.items c.take_last.new.self.items (Record c.in-Record.undo) c.loop-entries.tree.rows
    is c.loop-entries.invariant.left.sound).1.0.0

pub loop-entries-preserved-in-Record : goal.loop-entries-preserved-in-Record
loop-entries-preserved-in-Record c =
    let is = c.take_last.ensures.items ∙ ap (λ e. c.take_last.new.self.items ++ e ∷ []) c.in-Record.is in
    let less = ap length is ∙ one_more c.take_last.new.self.items (Record c.in-Record.undo) in
    record {
      low = omega (arith, c.loop-entries-test.true, c.len.ensures, c.loop-entries.entries.ok.0, less);
      high = omega (arith, c.loop-entries.invariant.high, less);
      left = unwound-record _ _ _ c.loop-entries.entries.items c.take_last.new.self.items c.in-Record.undo
          c.loop-entries.tree.rows _ c.loop-entries.invariant.high is c.loop-entries.invariant.left
          c.take_back.ensures.alike;
      parked = λ all. unwound_held-record c.loop-entries.entries.items c.take_last.new.self.items c.in-Record.undo
          c.loop-entries.tree.rows _ is
          (opened c.loop-entries.entries.items c.take_last.new.self.items (Record c.in-Record.undo)
          c.loop-entries.tree.rows is c.loop-entries.invariant.left.sound).1.0.0 c.take_back.ensures.parked
          (c.loop-entries.invariant.parked all);
      room = c.take_last.ensures.capacity ∙ c.loop-entries.invariant.room;
      clock = c.take_back.ensures.clock ∙ c.loop-entries.invariant.clock;
    }

pub flip_forward-requires-clause-held : goal.flip_forward-requires-clause-held
flip_forward-requires-clause-held c =
    let is = c.take_last.ensures.items ∙ ap (λ e. c.take_last.new.self.items ++ e ∷ []) c.in-Flipped.is in
    (flipped-held c.loop-entries.entries.items c.take_last.new.self.items c.in-Flipped.count c.loop-entries.tree.rows
    is c.loop-entries.invariant.left.sound).0

pub flip_forward-requires-clause-fit : goal.flip_forward-requires-clause-fit
flip_forward-requires-clause-fit c =
    let is = c.take_last.ensures.items ∙ ap (λ e. c.take_last.new.self.items ++ e ∷ []) c.in-Flipped.is in
    (flipped-held c.loop-entries.entries.items c.take_last.new.self.items c.in-Flipped.count c.loop-entries.tree.rows
    is c.loop-entries.invariant.left.sound).1

pub loop-entries-preserved : goal.loop-entries-preserved
loop-entries-preserved c =
    let is = c.take_last.ensures.items ∙ ap (λ e. c.take_last.new.self.items ++ e ∷ []) c.in-Flipped.is in
    let less = ap length is ∙ one_more c.take_last.new.self.items (Flipped c.in-Flipped.count) in
    record {
      low = omega (
        arith,
        c.loop-entries-test.true,
        c.len.ensures,
        c.loop-entries.entries.ok.0,
        less,
        c.flip_forward.ensures.len,
      );
      high = omega (arith, c.loop-entries.invariant.high, less, c.flip_forward.ensures.len);
      left = unwound-flipped _ _ _ c.loop-entries.entries.items c.take_last.new.self.items
          c.flip_forward.new.entries.items c.in-Flipped.count c.loop-entries.tree.rows _ c.loop-entries.invariant.high
          is c.loop-entries.invariant.left
          c.flip_forward.ensures.len c.flip_forward.ensures.stage;
      parked = λ all. unwound_held-flipped c.loop-entries.entries.items c.take_last.new.self.items
          c.flip_forward.new.entries.items c.in-Flipped.count c.loop-entries.tree.rows _ is
          (flipped-held c.loop-entries.entries.items c.take_last.new.self.items c.in-Flipped.count
          c.loop-entries.tree.rows is c.loop-entries.invariant.left.sound).1 c.flip_forward.ensures.stage
          (c.loop-entries.invariant.parked all);
      room = c.flip_forward.ensures.room ∙ c.take_last.ensures.capacity ∙ c.loop-entries.invariant.room;
      clock = c.flip_forward.ensures.clock ∙ c.loop-entries.invariant.clock;
    }

pub loop-entries-init : goal.loop-entries-init
loop-entries-init c = record {
  low = c.requires.held;
  high = omega arith;
  left = unwound-first c.args.entries.now.items c.args.tree.now.rows c.requires.sound;
  parked = λ all. all;
  room = refl;
  clock = refl;
}
