use Rattle.std.proofs.Common.{◌<◌, length, Err, ap, subst, ◌∙◌, arith, length-append}
use Rattle.std.proofs.lemmas.Bool.Decides.{nat_tests}
use Rattle.dm_base.specs.Outside.{PutCounts}
use Rattle.dm_start.proofs.Putting.{IsCut, cut_at, front-starts, front-breaks_first, front-goes_on, front-breaks}
use Rattle.dm_start.proofs.Putting.{front-ends}
use Rattle.dm_start.proofs.pieces.put_value.Goals as goal

pub returns-in-Err-clause-bytes : goal.returns-in-Err-clause-bytes
returns-in-Err-clause-bytes g c =
    front-breaks_first _ _ c.args.text.now c.args.bytes.now c.split_at.result.0.now c.split_at.result.1.now
    c.put_digits.new.text c.args.text.now c.in-Err.fault
    (cut_at _ _ _ c.min.result c.split_at.ensures.front c.split_at.ensures.back
    (λ some. grind (arith, nat_tests, c.min.ensures, some))) c.in-Err.ensures.bytes

pub loop-rest-init : goal.loop-rest-init
loop-rest-init g c =
    record {
      front = front-starts _ _ c.args.text.now c.args.bytes.now c.split_at.result.0.now c.split_at.result.1.now
          c.put_digits.new.text (cut_at _ _ _ c.min.result c.split_at.ensures.front c.split_at.ensures.back
          (λ some. grind (arith, nat_tests, c.min.ensures, some))) c.in-Ok.ensures.bytes;
      few = c.in-Ok.ensures.few;
      count = c.in-Ok.ensures.count;
      source = c.put_digits.ensures.source;
    }

pub returns-in-Err-put_digits-clause-bytes : goal.returns-in-Err-put_digits-clause-bytes
returns-in-Err-put_digits-clause-bytes g c =
    let left : 0 < length c.loop-rest.rest.now =
    grind (arith, nat_tests, c.is_empty.ensures, c.loop-rest-test.true) in
    front-breaks _ _ _ c.args.text.now c.args.bytes.now c.loop-rest.rest.now c.loop-rest.text
    c.split_at-in-loop-rest.result.0.now c.split_at-in-loop-rest.result.1.now c.put_digits-in-loop-rest.new.text
    c.args.text.now c.in-Err-put_digits.fault c.loop-rest.invariant.front left
    (cut_at _ _ _ c.min-in-loop-rest.result c.split_at-in-loop-rest.ensures.front c.split_at-in-loop-rest.ensures.back
    (λ some. grind (arith, nat_tests, c.min-in-loop-rest.ensures, some))) c.in-Err-put_digits.ensures.bytes

pub returns-in-Err-put_digits-clause-count : goal.returns-in-Err-put_digits-clause-count
returns-in-Err-put_digits-clause-count g c =
    subst (λ n. PutCounts {T = Unit {0}} n (g.K.Sink.faults c.put_digits-in-loop-rest.new.out)
    (Err c.in-Err-put_digits.fault)) c.loop-rest.invariant.count c.in-Err-put_digits.ensures.count

pub returns-in-Err-put_digits-clause-source : goal.returns-in-Err-put_digits-clause-source
returns-in-Err-put_digits-clause-source g c =
    c.put_digits-in-loop-rest.ensures.source ∙ c.loop-rest.invariant.source

pub loop-rest-smaller : goal.loop-rest-smaller
loop-rest-smaller g c =
    let left : 0 < length c.loop-rest.rest.now =
    grind (arith, nat_tests, c.is_empty.ensures, c.loop-rest-test.true) in
    let cut : IsCut c.loop-rest.rest.now c.split_at-in-loop-rest.result.0.now c.split_at-in-loop-rest.result.1.now =
    cut_at _ _ _ c.min-in-loop-rest.result c.split_at-in-loop-rest.ensures.front c.split_at-in-loop-rest.ensures.back
    (λ some. grind (arith, nat_tests, c.min-in-loop-rest.ensures, some)) in
    let filled = cut.some left in
    let long = length-append c.split_at-in-loop-rest.result.0.now c.split_at-in-loop-rest.result.1.now in
    let whole = ap length cut.parts in
    omega (arith, filled, long, whole)

pub loop-rest-preserved : goal.loop-rest-preserved
loop-rest-preserved g c =
    let left : 0 < length c.loop-rest.rest.now =
    grind (arith, nat_tests, c.is_empty.ensures, c.loop-rest-test.true) in
    record {
      front = front-goes_on _ _ _ c.args.text.now c.args.bytes.now c.loop-rest.rest.now c.loop-rest.text
          c.split_at-in-loop-rest.result.0.now c.split_at-in-loop-rest.result.1.now
          c.put_digits-in-loop-rest.new.text c.loop-rest.invariant.front left
          (cut_at _ _ _ c.min-in-loop-rest.result c.split_at-in-loop-rest.ensures.front
          c.split_at-in-loop-rest.ensures.back (λ some. grind (arith, nat_tests, c.min-in-loop-rest.ensures, some)))
          c.in-Ok-put_digits.ensures.bytes;
      few = c.in-Ok-put_digits.ensures.few;
      count = c.in-Ok-put_digits.ensures.count ∙ c.loop-rest.invariant.count;
      source = c.put_digits-in-loop-rest.ensures.source ∙ c.loop-rest.invariant.source;
    }

pub returns-clause-bytes : goal.returns-clause-bytes
returns-clause-bytes g c =
    front-ends _ _ c.args.text.now c.args.bytes.now c.loop-rest.rest.now c.loop-rest.text
    (grind (arith, nat_tests, c.is_empty.ensures, c.loop-rest-test.false)) c.loop-rest.invariant.front

pub returns-clause-count : goal.returns-clause-count
returns-clause-count g c = c.loop-rest.invariant.count

pub returns-clause-source : goal.returns-clause-source
returns-clause-source g c = c.loop-rest.invariant.source

pub returns-clause-few : goal.returns-clause-few
returns-clause-few g c = c.loop-rest.invariant.few
