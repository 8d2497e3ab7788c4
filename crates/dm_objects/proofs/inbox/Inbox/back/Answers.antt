use Rattle.std.proofs.Common.{refl, sym, ap, subst, arith, length, length-append, ◌∷◌, []}
use Rattle.dm_objects.specs.declared.object.Object.{Object}
use Rattle.dm_objects.specs.Seen.{Seen, seen_of}
use Rattle.dm_objects.proofs.SeenObjects.{Begins, begins, popped, back_there, seen_long}
use Rattle.dm_objects.proofs.inbox.Inbox.back.Goals as goal

pub loop-mark-init : goal.loop-mark-init
loop-mark-init c = record {
  seen = begins (seen_of c.self.inside.past.items c.self.inside.object);
  low =
      let long = seen_long c.self.inside.past.items c.self.inside.object in
      omega (arith, long, ap (λ (s : Seen). length s.objects) c.self.view_is, c.requires.held, c.mark.view_is);
  most = refl;
  room = c.self.invariant;
}

pub invariant_of-self : goal.invariant_of-self
invariant_of-self c = c.loop-mark.invariant.room

pub loop-mark-smaller : goal.loop-mark-smaller
loop-mark-smaller c =
    omega (arith, ap length c.in-Some.ensures.items, length-append c.pop.new.self.items (c.in-Some.past ∷ []))

pub loop-mark-preserved : goal.loop-mark-preserved
loop-mark-preserved c =
    let e = c.in-Some.ensures.items in
    let long = length-append c.pop.new.self.items (c.in-Some.past ∷ []) in
    record {
      seen =
          subst (λ (o : Object).
          Begins (seen_of c.pop.new.self.items o) (seen_of c.self.inside.past.items c.self.inside.object))
          (sym c.go_back.ensures)
          (popped c.pop.new.self.items c.loop-mark.self-inside.past.items c.in-Some.past c.loop-mark.self-inside.object
          (seen_of c.self.inside.past.items c.self.inside.object) e c.loop-mark.invariant.seen);
      low = omega (arith, c.loop-mark-test.true, c.len.ensures, c.loop-mark.self-inside.past.ok.0, ap length e, long);
      most = c.loop-mark.invariant.most;
      room = λ _.
          omega (
            arith,
            c.in-Some.ensures.capacity,
            c.loop-mark.self-inside.past.ok.0,
            c.pop.new.self.ok.0,
            c.loop-mark.self-inside.past.ok.1,
            ap length e,
            long,
          );
    }

pub returns : goal.returns
returns c =
    back_there c.args.self.now c.self.inside.max_obj c.self.inside.past.items c.self.inside.object c.self.view_is
    c.loop-mark.self-inside.max_obj c.loop-mark.self-inside.past.items c.loop-mark.self-inside.object c.mark.inside.at
    c.args.mark
    c.mark.view_is c.loop-mark.invariant.most c.loop-mark.invariant.seen
    (omega (arith, c.loop-mark-test.false, c.loop-mark.invariant.low, c.len.ensures, c.loop-mark.self-inside.past.ok.0))
