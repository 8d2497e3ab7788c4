use Rattle.std.proofs.Common.{◌∙◌, sym, ap, ◌-◌, ◌<◌, arith, length, refl}
use Rattle.std.proofs.lemmas.List.{get_or_default}
use Rattle.std.proofs.Math.ListN.{set, length-set}
use Rattle.std.specs.Prelude.{reverse}
use Rattle.dm_tree.specs.Rows.{Tree}
use Rattle.dm_tree.specs.Undos.{flipped}
use Rattle.dm_undo.specs.declared.entries.Entry.TheVariants.{Record, Flipped}
use Rattle.dm_undo.specs.Trees.{stage}
use Rattle.dm_undo.proofs.Loops.{forth_at, none_forth}
use Rattle.dm_undo.proofs.entries.flip_forward.Goals as goal

pub loop-k-init : goal.loop-k-init
loop-k-init c = record {
  low = omega (arith, c.len.ensures, c.args.entries.now.ok.0);
  high = omega (arith, c.len.ensures, c.args.entries.now.ok.0);
  long = refl;
  room = refl;
  here = none_forth c.args.entries.now.items c.args.tree.now.rows c.args.count c.len.result
      (omega (arith, c.len.ensures, c.args.entries.now.ok.0)) c.requires.held;
  clock = refl;
}

pub flip-requires : goal.flip-requires
flip-requires c =
    let items = c.loop-k.entries.items in
    let high : c.loop-k.k < length c.args.entries.now.items =
    omega (arith, c.loop-k-test.true, c.len-in-loop-k.ensures, c.loop-k.entries.ok.0, c.loop-k.invariant.long) in
    let inside : c.loop-k.k < length items = omega (arith, high, c.loop-k.invariant.long) in
    (forth_at c.args.entries.now.items items c.args.tree.now.rows c.loop-k.tree.rows c.args.count
    (length c.args.entries.now.items - c.args.count) c.loop-k.k c.requires.held refl c.requires.fit
    c.loop-k.invariant.low high c.loop-k.invariant.long c.loop-k.invariant.here (Record c.in-Record.undo)
    (sym (c.index_mut.ensures.value ∙ get_or_default _ _ _ (Flipped 0) inside) ∙ c.in-Record.is)).fits

pub loop-k-preserved-in-Record : goal.loop-k-preserved-in-Record
loop-k-preserved-in-Record c =
    let items = c.loop-k.entries.items in
    let high : c.loop-k.k < length c.args.entries.now.items =
    omega (arith, c.loop-k-test.true, c.len-in-loop-k.ensures, c.loop-k.entries.ok.0, c.loop-k.invariant.long) in
    let inside : c.loop-k.k < length items = omega (arith, high, c.loop-k.invariant.long) in
    let f = forth_at c.args.entries.now.items items c.args.tree.now.rows c.loop-k.tree.rows c.args.count
    (length c.args.entries.now.items - c.args.count) c.loop-k.k c.requires.held refl c.requires.fit
    c.loop-k.invariant.low high c.loop-k.invariant.long c.loop-k.invariant.here (Record c.in-Record.undo)
    (sym (c.index_mut.ensures.value ∙ get_or_default _ _ _ (Flipped 0) inside) ∙ c.in-Record.is) in
    record {
      low = omega (arith, c.loop-k.invariant.low);
      high = omega (arith, high);
      long = length-set items c.loop-k.k _ ∙ c.loop-k.invariant.long;
      room = c.loop-k.invariant.room;
      here = f.next
          ∙ ap (λ u. stage (reverse (set items c.loop-k.k (Record u))) (flipped c.loop-k.tree.rows c.in-Record.undo))
          (sym c.flip.ensures.undo)
          ∙ ap (λ (t : Tree). stage (reverse (set items c.loop-k.k (Record c.flip.new.undo))) t.rows)
          (sym c.flip.ensures.rows);
      clock = ap (λ (t : Tree). t.clock) c.flip.ensures.rows ∙ c.loop-k.invariant.clock;
    }

pub loop-k-preserved : goal.loop-k-preserved
loop-k-preserved c =
    let items = c.loop-k.entries.items in
    let high : c.loop-k.k < length c.args.entries.now.items =
    omega (arith, c.loop-k-test.true, c.len-in-loop-k.ensures, c.loop-k.entries.ok.0, c.loop-k.invariant.long) in
    let inside : c.loop-k.k < length items = omega (arith, high, c.loop-k.invariant.long) in
    let is = sym (c.index_mut.ensures.value ∙ get_or_default _ _ _ (Flipped 0) inside) ∙ c.in_default.is in
    let f = forth_at c.args.entries.now.items items c.args.tree.now.rows c.loop-k.tree.rows c.args.count
    (length c.args.entries.now.items - c.args.count) c.loop-k.k c.requires.held refl c.requires.fit
    c.loop-k.invariant.low high c.loop-k.invariant.long c.loop-k.invariant.here (Flipped c.in_default.field-0) is in
    record {
      low = omega (arith, c.loop-k.invariant.low);
      high = omega (arith, high);
      long = length-set items c.loop-k.k _ ∙ c.loop-k.invariant.long;
      room = c.loop-k.invariant.room;
      here = f.next ∙ ap (λ x. stage (reverse (set items c.loop-k.k x)) c.loop-k.tree.rows)
          (sym c.in_default.is);
      clock = c.loop-k.invariant.clock;
    }
