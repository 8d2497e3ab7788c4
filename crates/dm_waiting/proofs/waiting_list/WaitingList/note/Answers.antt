use Rattle.std.proofs.Common.{List, ◌≡◌, length, arith, sym, ap, subst, ◌∙◌}
use Rattle.dm_pack.specs.Entries.{Entry}
use Rattle.dm_waiting.specs.Inside.{IsMessageOf}
use Rattle.dm_waiting.proofs.Beside.{entries_are, beside_long}
use Rattle.dm_waiting.proofs.Filling.{whole_there, part_there, id_there, id_small, queue_there}
use Rattle.dm_waiting.proofs.Held.{front_again, front_longer}
use Rattle.dm_waiting.proofs.Out.{list_at, one_held, part_held, none_held}
use Rattle.dm_waiting.proofs.waiting_list.WaitingList.note.Goals as goal

pub id_at-requires : goal.id_at-requires
id_at-requires c =
    let are = entries_are c.self.inside.queue c.self.inside.loads.items c.args.self.now c.self.invariant
    c.self.view_is in
    let of = subst (λ (es : List Entry). IsMessageOf es c.args.filled.now) are c.requires in
    let low : length c.self.inside.loads.items ≡ length c.self.inside.queue = beside_long c.self.inside.queue
    c.self.inside.loads.items c.self.invariant in
    let there = whole_there c.self.inside.queue c.args.filled.now c.loop-at.at of c.loop-at-test.true in
    let same = ap length (c.as_slice-body.ensures ∙ c.body.ensures.value) in
    omega (arith, there, same)

pub index-requires : goal.index-requires
index-requires c =
    let are = entries_are c.self.inside.queue c.self.inside.loads.items c.args.self.now c.self.invariant
    c.self.view_is in
    let of = subst (λ (es : List Entry). IsMessageOf es c.args.filled.now) are c.requires in
    let low : length c.self.inside.loads.items ≡ length c.self.inside.queue = beside_long c.self.inside.queue
    c.self.inside.loads.items c.self.invariant in
    let there = of.taken.whole_there in
    let test = c.loop-at-test.true in
    omega (arith, low, there, test)

pub push_held-requires-clause-command : goal.push_held-requires-clause-command
push_held-requires-clause-command c =
    let are = entries_are c.self.inside.queue c.self.inside.loads.items c.args.self.now c.self.invariant
    c.self.view_is in
    let of = subst (λ (es : List Entry). IsMessageOf es c.args.filled.now) are c.requires in
    let low : length c.self.inside.loads.items ≡ length c.self.inside.queue = beside_long c.self.inside.queue
    c.self.inside.loads.items c.self.invariant in
    let test = c.loop-at-test.true in
    let id = id_there c.self.inside.queue c.args.filled.now c.loop-at.at c.id_at.result c.as_slice-body.result.now of
    (omega (arith, test)) (whole_there c.self.inside.queue c.args.filled.now c.loop-at.at of test)
    (c.as_slice-body.ensures ∙ c.body.ensures.value) c.id_at.ensures in
    let small = id_small c.self.inside.queue c.args.filled.now c.loop-at.at of (omega (arith, test)) in
    omega (arith, id, small)

pub push_held-requires-clause-small : goal.push_held-requires-clause-small
push_held-requires-clause-small c =
    let are = entries_are c.self.inside.queue c.self.inside.loads.items c.args.self.now c.self.invariant
    c.self.view_is in
    let of = subst (λ (es : List Entry). IsMessageOf es c.args.filled.now) are c.requires in
    let low : length c.self.inside.loads.items ≡ length c.self.inside.queue = beside_long c.self.inside.queue
    c.self.inside.loads.items c.self.invariant in
    let there = of.taken.whole_there in
    let test = c.loop-at-test.true in
    (list_at c.loop-at.at c.self.inside.queue c.self.inside.loads.items c.index.result.now c.self.invariant
    (omega (arith, there, test)) (sym c.index.ensures)).small

pub loop-at-preserved : goal.loop-at-preserved
loop-at-preserved c =
    let are = entries_are c.self.inside.queue c.self.inside.loads.items c.args.self.now c.self.invariant
    c.self.view_is in
    let of = subst (λ (es : List Entry). IsMessageOf es c.args.filled.now) are c.requires in
    let low : length c.self.inside.loads.items ≡ length c.self.inside.queue = beside_long c.self.inside.queue
    c.self.inside.loads.items c.self.invariant in
    let test = c.loop-at-test.true in
    let id = id_there c.self.inside.queue c.args.filled.now c.loop-at.at c.id_at.result c.as_slice-body.result.now of
    (omega (arith, test)) (whole_there c.self.inside.queue c.args.filled.now c.loop-at.at of test)
    (c.as_slice-body.ensures ∙ c.body.ensures.value) c.id_at.ensures in
    record {
      front = front_again c.args.out.now c.loop-at.out c.push_held.new.out c.loop-at.invariant.front
          (front_longer c.loop-at.out _ c.push_held.new.out c.in_ok-push_held.ensures.ok);
      whole = one_held c.args.msg c.args.filled.now.whole c.args.filled.now.cut c.loop-at.at c.id_at.result
          c.self.inside.queue c.self.inside.loads.items c.index.result.now c.args.out.now c.loop-at.out
          c.push_held.new.out
          c.self.invariant of.taken.whole_there test (sym c.index.ensures) id c.in_ok-push_held.ensures.ok
          c.loop-at.invariant.whole;
    }

pub id_at-requires-then-filled-gt0 : goal.id_at-requires-then-filled-gt0
id_at-requires-then-filled-gt0 c =
    let are = entries_are c.self.inside.queue c.self.inside.loads.items c.args.self.now c.self.invariant
    c.self.view_is in
    let of = subst (λ (es : List Entry). IsMessageOf es c.args.filled.now) are c.requires in
    let low : length c.self.inside.loads.items ≡ length c.self.inside.queue = beside_long c.self.inside.queue
    c.self.inside.loads.items c.self.invariant in
    let there = part_there c.self.inside.queue c.args.filled.now of c.if-filled-gt0.true in
    let same = ap length (c.as_slice-body.ensures ∙ c.body.ensures.value) in
    omega (arith, there, same)

pub index-requires-then-filled-gt0 : goal.index-requires-then-filled-gt0
index-requires-then-filled-gt0 c =
    let are = entries_are c.self.inside.queue c.self.inside.loads.items c.args.self.now c.self.invariant
    c.self.view_is in
    let of = subst (λ (es : List Entry). IsMessageOf es c.args.filled.now) are c.requires in
    let low : length c.self.inside.loads.items ≡ length c.self.inside.queue = beside_long c.self.inside.queue
    c.self.inside.loads.items c.self.invariant in
    let there = queue_there c.self.inside.queue c.args.filled.now of c.if-filled-gt0.true in
    omega (arith, low, there)

pub push_held-requires-then-filled-gt0-clause-command : goal.push_held-requires-then-filled-gt0-clause-command
push_held-requires-then-filled-gt0-clause-command c =
    let are = entries_are c.self.inside.queue c.self.inside.loads.items c.args.self.now c.self.invariant
    c.self.view_is in
    let of = subst (λ (es : List Entry). IsMessageOf es c.args.filled.now) are c.requires in
    let low : length c.self.inside.loads.items ≡ length c.self.inside.queue = beside_long c.self.inside.queue
    c.self.inside.loads.items c.self.invariant in
    let id = id_there c.self.inside.queue c.args.filled.now c.args.filled.now.whole c.id_at-then-filled-gt0.result
    c.as_slice-body.result.now of (omega arith)
    (part_there c.self.inside.queue c.args.filled.now of c.if-filled-gt0.true)
    (c.as_slice-body.ensures ∙ c.body.ensures.value) c.id_at-then-filled-gt0.ensures in
    let small = id_small c.self.inside.queue c.args.filled.now c.args.filled.now.whole of (omega arith) in
    omega (arith, id, small)

pub push_held-requires-then-filled-gt0-clause-small : goal.push_held-requires-then-filled-gt0-clause-small
push_held-requires-then-filled-gt0-clause-small c =
    let are = entries_are c.self.inside.queue c.self.inside.loads.items c.args.self.now c.self.invariant
    c.self.view_is in
    let of = subst (λ (es : List Entry). IsMessageOf es c.args.filled.now) are c.requires in
    let low : length c.self.inside.loads.items ≡ length c.self.inside.queue = beside_long c.self.inside.queue
    c.self.inside.loads.items c.self.invariant in
    (list_at c.args.filled.now.whole c.self.inside.queue c.self.inside.loads.items c.index-then-filled-gt0.result.now
    c.self.invariant (queue_there c.self.inside.queue c.args.filled.now of c.if-filled-gt0.true)
    (sym c.index-then-filled-gt0.ensures)).small

pub returns-in_ok-push_held-2-clause-ok : goal.returns-in_ok-push_held-2-clause-ok
returns-in_ok-push_held-2-clause-ok c =
    let are = entries_are c.self.inside.queue c.self.inside.loads.items c.args.self.now c.self.invariant
    c.self.view_is in
    let of = subst (λ (es : List Entry). IsMessageOf es c.args.filled.now) are c.requires in
    let low : length c.self.inside.loads.items ≡ length c.self.inside.queue = beside_long c.self.inside.queue
    c.self.inside.loads.items c.self.invariant in
    let end : c.loop-at.at ≡ c.args.filled.now.whole = omega (arith, c.loop-at-test.false) in
    let id = id_there c.self.inside.queue c.args.filled.now c.args.filled.now.whole c.id_at-then-filled-gt0.result
    c.as_slice-body.result.now of (omega arith)
    (part_there c.self.inside.queue c.args.filled.now of c.if-filled-gt0.true)
    (c.as_slice-body.ensures ∙ c.body.ensures.value) c.id_at-then-filled-gt0.ensures in
    part_held c.args.msg c.args.filled.now.whole c.args.filled.now.cut c.loop-at.at c.id_at-then-filled-gt0.result
    c.self.inside.queue c.self.inside.loads.items c.args.self.now c.index-then-filled-gt0.result.now c.args.out.now
    c.loop-at.out c.push_held-then-filled-gt0.new.out c.self.invariant c.self.view_is end
    (queue_there c.self.inside.queue c.args.filled.now of c.if-filled-gt0.true) c.if-filled-gt0.true
    (sym c.index-then-filled-gt0.ensures) id c.in_ok-push_held-2.ensures.ok c.loop-at.invariant.whole

pub returns-else-filled-gt0-clause-ok : goal.returns-else-filled-gt0-clause-ok
returns-else-filled-gt0-clause-ok c =
    let end : c.loop-at.at ≡ c.args.filled.now.whole = omega (arith, c.loop-at-test.false) in
    let none : c.args.filled.now.cut ≡ 0 = omega (arith, c.if-filled-gt0.false) in
    none_held c.args.msg c.args.filled.now.whole c.args.filled.now.cut c.loop-at.at c.self.inside.queue
    c.self.inside.loads.items c.args.self.now c.args.out.now c.loop-at.out c.self.view_is end none
    c.loop-at.invariant.whole
