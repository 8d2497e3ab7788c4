use Rattle.std.proofs.Common.{◌∙◌, sym, ap, ◌-◌, ◌<◌, arith, length}
use Rattle.std.proofs.lemmas.List.{get_or_default}
use Rattle.std.proofs.Math.ListN.{set, length-set}
use Rattle.std.specs.Prelude.{reverse}
use Rattle.dm_tree.specs.Rows.{Tree}
use Rattle.dm_tree.specs.Undos.{flipped}
use Rattle.dm_undo.specs.declared.entries.Entry.TheVariants.{Record, Flipped}
use Rattle.dm_undo.specs.Trees.{stage}
use Rattle.dm_undo.proofs.Loops.{back, back_record}
use Rattle.dm_undo.proofs.entries.flip_back.Goals as goal

pub flip-requires : goal.flip-requires
flip-requires c =
    let b = back c.args.entries.now.items c.loop-k.entries.items c.args.tree.now.rows c.loop-k.tree.rows c.args.from
    c.loop-k.k (c.loop-k.k - 1) c.requires.records c.requires.sound
    (omega (arith, c.loop-k-test.true)) (omega (arith, c.loop-k-test.true)) c.loop-k.invariant.high
    c.loop-k.invariant.long c.loop-k.invariant.here in
    let inside : c.loop-k.k - 1 < length c.loop-k.entries.items =
    omega (arith, c.loop-k-test.true, c.loop-k.invariant.high, c.loop-k.invariant.long) in
    (back_record _ _ _ _ _ b c.in-Record.undo
    (sym (c.index_mut.ensures.value ∙ get_or_default _ _ _ (Flipped 0) inside) ∙ c.in-Record.is)).0

pub loop-k-preserved-in-Record : goal.loop-k-preserved-in-Record
loop-k-preserved-in-Record c =
    let b = back c.args.entries.now.items c.loop-k.entries.items c.args.tree.now.rows c.loop-k.tree.rows c.args.from
    c.loop-k.k (c.loop-k.k - 1) c.requires.records c.requires.sound
    (omega (arith, c.loop-k-test.true)) (omega (arith, c.loop-k-test.true)) c.loop-k.invariant.high
    c.loop-k.invariant.long c.loop-k.invariant.here in
    let inside : c.loop-k.k - 1 < length c.loop-k.entries.items =
    omega (arith, c.loop-k-test.true, c.loop-k.invariant.high, c.loop-k.invariant.long) in
    let r = back_record _ _ _ _ _ b c.in-Record.undo
    (sym (c.index_mut.ensures.value ∙ get_or_default _ _ _ (Flipped 0) inside) ∙ c.in-Record.is) in
    record {
      low = omega (arith, c.loop-k-test.true);
      high = omega (arith, c.loop-k.invariant.high);
      long = length-set c.loop-k.entries.items (c.loop-k.k - 1) _ ∙ c.loop-k.invariant.long;
      room = c.loop-k.invariant.room;
      here = r.1
          ∙ ap (λ u. stage (reverse (set c.loop-k.entries.items (c.loop-k.k - 1) (Record u)))
          (flipped c.loop-k.tree.rows c.in-Record.undo)) (sym c.flip.ensures.undo)
          ∙ ap (λ (t : Tree). stage (reverse (set c.loop-k.entries.items (c.loop-k.k - 1) (Record c.flip.new.undo)))
          t.rows) (sym c.flip.ensures.rows);
      clock = ap (λ (t : Tree). t.clock) c.flip.ensures.rows ∙ c.loop-k.invariant.clock;
    }

pub loop-k-preserved : goal.loop-k-preserved
loop-k-preserved c =
    let b = back c.args.entries.now.items c.loop-k.entries.items c.args.tree.now.rows c.loop-k.tree.rows c.args.from
    c.loop-k.k (c.loop-k.k - 1) c.requires.records c.requires.sound
    (omega (arith, c.loop-k-test.true)) (omega (arith, c.loop-k-test.true)) c.loop-k.invariant.high
    c.loop-k.invariant.long c.loop-k.invariant.here in
    let inside : c.loop-k.k - 1 < length c.loop-k.entries.items =
    omega (arith, c.loop-k-test.true, c.loop-k.invariant.high, c.loop-k.invariant.long) in
    absurd (c.in_default.not-Record b.undo (c.index_mut.ensures.value ∙ get_or_default _ _ _ (Flipped 0) inside ∙ b.is))
