use Rattle.std.proofs.Common.{◌∙◌, take, arith}
use Rattle.std.proofs.lemmas.List.{take_all}
use Rattle.dm_base.proofs.HexDigits.{digits_more, front_stays, front_kept}
use Rattle.dm_base.proofs.digits.put_digits.Goals as goal

pub loop-rest-preserved : goal.loop-rest-preserved
loop-rest-preserved c =
    let block = c.split_at.result.0.now in
    let whole = take_all 16 block (omega (arith, c.split_at.ensures.front_len)) in
    record {
      digits = digits_more _ c.loop-rest.out c.extend.new.self c.loop-rest.rest.now (take 16 block)
          c.split_at.result.1.now c.digits_of.result 16 c.loop-rest.invariant.digits (whole ∙ c.split_at.ensures.front)
          c.split_at.ensures.back c.digits_of.ensures c.in_ok-extend.ensures.ok;
      front = front_stays _ c.loop-rest.out _ c.extend.new.self c.loop-rest.invariant.front c.in_ok-extend.ensures.ok;
    }

pub returns-clause-ok : goal.returns-clause-ok
returns-clause-ok c = rw c.loop-rest.invariant.digits at c.put_last.ensures.ok

pub returns-clause-front : goal.returns-clause-front
returns-clause-front c =
    front_kept c.put_last.result _ c.loop-rest.out _ c.put_last.new.out c.loop-rest.invariant.front
    c.put_last.ensures.ok c.put_last.ensures.err
