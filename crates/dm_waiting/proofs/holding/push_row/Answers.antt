use Rattle.std.proofs.Common.{◌+◌, ◌++◌, ◌∷◌, [], ◌∙◌, ap, arith, length, take}
use Rattle.dm_waiting.proofs.Held.{front_again, front_longer, front_self, on_err, row_starts, row_goes, row_ends}
use Rattle.dm_waiting.proofs.holding.push_row.Goals as goal

pub loop-at-init : goal.loop-at-init
loop-at-init c = record {
  front = front_self c.args.out.now;
  whole = row_starts c.args.part c.args.msg c.args.command c.args.carried.first c.args.carried.count c.args.out.now;
}

pub loop-at-preserved : goal.loop-at-preserved
loop-at-preserved c = record {
  front = front_again c.args.out.now c.loop-at.out c.push.new.self c.loop-at.invariant.front
      (front_longer c.loop-at.out _ c.push.new.self c.in_ok-push.ensures.ok);
  whole = row_goes c.args.part c.args.msg c.args.command c.args.carried.first c.args.carried.count c.loop-at.at
      c.loop-at.out c.push.new.self _ c.loop-at-test.true
      (c.in_ok-push.ensures.ok
      ∙ ap
      (λ b. c.loop-at.out ++ record {
        msg = c.args.msg;
        command = c.args.command + c.loop-at.at;
        number = c.args.carried.first + c.loop-at.at;
        counts = b;
      } ∷ [])
      c.tells_code.ensures)
      c.loop-at.invariant.whole;
}

pub returns-in_err-push-clause-err : goal.returns-in_err-push-clause-err
returns-in_err-push-clause-err c =
    on_err c.from_residual.result _
    (ap (take (length c.args.out.now)) c.in_err-push.ensures.err ∙ c.loop-at.invariant.front)

pub returns-clause-ok : goal.returns-clause-ok
returns-clause-ok c =
    row_ends c.args.part c.args.msg c.args.command c.args.carried.first c.args.carried.count c.loop-at.at
    c.loop-at.out _
    (omega (arith, c.loop-at-test.false)) c.loop-at.invariant.whole
