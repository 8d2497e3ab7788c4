use Rattle.std.proofs.Common.{Ok, Err, arith, refl, ◌∙◌}
use Rattle.dm_device.proofs.Told.{idle_after}
use Rattle.dm_device.proofs.Talking.{so_far_first, so_far_goes, so_far_ends, wants_in_exchange, wants_in_turn}
use Rattle.dm_device.proofs.Talking.{asked_last}
use Rattle.dm_device.proofs.Talking.{count_up, given_up}
use Rattle.dm_device.proofs.sessions.session.Goals as goal

pub exchanges-init : goal.exchanges-init
exchanges-init g c = record {
  idle = c.requires.idle;
  going = (omega arith, omega arith);
  so_far = so_far_first _ _ _ _ _;
  accounts = refl;
  count = omega arith;
}

pub returns-in-Err-clause-idle : goal.returns-in-Err-clause-idle
returns-in-Err-clause-idle g c = idle_after _ _ _ _ _ c.in-Err.ensures.told

pub returns-in-Err-clause-holds : goal.returns-in-Err-clause-holds
returns-in-Err-clause-holds g c =
    wants_in_exchange _ _ _ _ _ _ _ _ _ _ _ c.exchanges.invariant.so_far
    (asked_last _ _ _ _ _ _ _ c.again.ensures c.in-Err.ensures.told)

pub returns-in-Err-clause-accounts : goal.returns-in-Err-clause-accounts
returns-in-Err-clause-accounts g c = c.exchanges.invariant.accounts

pub returns-in-Err-clause-count : goal.returns-in-Err-clause-count
returns-in-Err-clause-count g c =
    count_up _ _ _ (Err c.in-Err.memory) c.exchanges.invariant.count c.in-Err.ensures.count

pub exchanges-smaller : goal.exchanges-smaller
exchanges-smaller g c =
    let goes = rw c.in-Ok-None.field-0-is at c.in-Ok-None.ensures.goes in
    let going = c.exchanges.invariant.going in
    omega (arith, goes.1, goes.0.0, goes.0.1, going.0, going.1)

pub exchanges-preserved : goal.exchanges-preserved
exchanges-preserved g c =
    let told = asked_last _ _ _ _ _ _ _ c.again.ensures c.in-Ok.ensures.told in
    let turned = rw c.in-Ok-None.field-0-is at c.in-Ok-None.ensures.turns in
    let goes = rw c.in-Ok-None.field-0-is at c.in-Ok-None.ensures.goes in
    record {
      idle = idle_after _ _ _ _ _ told;
      going = goes.0;
      so_far = so_far_goes _ _ _ _ _ _ _ _ _ _ _ _ _ _ c.exchanges.invariant.so_far told turned;
      accounts = c.in-Ok-None.ensures.accounts ∙ c.exchanges.invariant.accounts;
      count = count_up _ _ _ (Ok c.in-Ok.heard) c.exchanges.invariant.count c.in-Ok.ensures.count;
    }

pub exchanges-preserved-in-Ok-None : goal.exchanges-preserved-in-Ok-None
exchanges-preserved-in-Ok-None g c =
    let told = asked_last _ _ _ _ _ _ _ c.again.ensures c.in-Ok.ensures.told in
    let turned = rw c.in-Ok-None.field-0-is at c.in-Ok-None.ensures.turns in
    let goes = rw c.in-Ok-None.field-0-is at c.in-Ok-None.ensures.goes in
    record {
      idle = idle_after _ _ _ _ _ told;
      going = goes.0;
      so_far = so_far_goes _ _ _ _ _ _ _ _ _ _ _ _ _ _ c.exchanges.invariant.so_far told turned;
      accounts = c.in-Ok-None.ensures.accounts ∙ c.exchanges.invariant.accounts;
      count = count_up _ _ _ (Ok c.in-Ok.heard) c.exchanges.invariant.count c.in-Ok.ensures.count;
    }

pub returns-in-Ok-Some-clause-idle : goal.returns-in-Ok-Some-clause-idle
returns-in-Ok-Some-clause-idle g c = idle_after _ _ _ _ _ c.in-Ok.ensures.told

pub returns-in-Ok-Some-clause-holds : goal.returns-in-Ok-Some-clause-holds
returns-in-Ok-Some-clause-holds g c =
    let told = asked_last _ _ _ _ _ _ _ c.again.ensures c.in-Ok.ensures.told in
    let turned = rw c.in-Ok-Some.field-0-is at c.in-Ok-Some.ensures.turns in
    so_far_ends _ _ _ _ _ _ _ _ _ _ _ _ _ _ _ c.exchanges.invariant.so_far told turned

pub returns-in-Ok-Some-clause-accounts : goal.returns-in-Ok-Some-clause-accounts
returns-in-Ok-Some-clause-accounts g c = c.in-Ok-Some.ensures.accounts ∙ c.exchanges.invariant.accounts

pub returns-in-Ok-Some-clause-count : goal.returns-in-Ok-Some-clause-count
returns-in-Ok-Some-clause-count g c =
    given_up _ _ _ c.in-Ok.heard c.in-Ok-Some.word c.exchanges.invariant.count c.in-Ok.ensures.count
    (rw c.in-Ok-Some.field-0-is at c.in-Ok-Some.ensures.blames)

pub returns-in-Err-turn-clause-idle : goal.returns-in-Err-turn-clause-idle
returns-in-Err-turn-clause-idle g c = idle_after _ _ _ _ _ c.in-Ok.ensures.told

pub returns-in-Err-turn-clause-holds : goal.returns-in-Err-turn-clause-holds
returns-in-Err-turn-clause-holds g c =
    wants_in_turn _ _ _ _ _ _ _ _ _ _ c.exchanges.tally _ _ _ _ c.exchanges.invariant.so_far
    (asked_last _ _ _ _ _ _ _ c.again.ensures c.in-Ok.ensures.told) c.in-Err-turn.ensures.turns

pub returns-in-Err-turn-clause-accounts : goal.returns-in-Err-turn-clause-accounts
returns-in-Err-turn-clause-accounts g c = c.in-Err-turn.ensures.accounts ∙ c.exchanges.invariant.accounts

pub returns-in-Err-turn-clause-count : goal.returns-in-Err-turn-clause-count
returns-in-Err-turn-clause-count g c =
    count_up _ _ _ (Ok c.in-Ok.heard) c.exchanges.invariant.count c.in-Ok.ensures.count
