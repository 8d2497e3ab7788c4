use Rattle.dm_machine.specs.Events.{loss, act}
use Rattle.dm_replay.proofs.Answering.{on_ok}
use Rattle.dm_pair.specs.declared.events.PairEvent.TheVariants as event
use Rattle.dm_pair.specs.Seen.{seen}
use Rattle.dm_pair.proofs.Wording.{loss_sends, act_sends}
use Rattle.dm_pair.proofs.Both.{step_open, step_up, step_down, step_loss, step_act, end_words, end_state, words_then}
use Rattle.dm_pair.proofs.Both.{step_state, quiet_step}
use Rattle.dm_pair.proofs.pairing.step.Goals as goal

pub returns-in_ok-words-in-Open-clause-told : goal.returns-in_ok-words-in-Open-clause-told
returns-in_ok-words-in-Open-clause-told c =
    words_then c.extend.result (seen c.args.pairing.now) _ c.args.event
    (event.Open c.in-Open.account c.in-Open.kind c.in-Open.session) _ c.in_ok-words-in-Open.words.now _ _ c.in-Open.is
    (step_open (seen c.args.pairing.now) _ _ _) (c.in_ok-words-in-Open.ensures.step) c.extend.ensures.ok

pub returns-in_ok-words-in-Open-clause-state : goal.returns-in_ok-words-in-Open-clause-state
returns-in_ok-words-in-Open-clause-state c =
    on_ok _ _ (step_state (seen c.args.pairing.now) _ c.args.event
    (event.Open c.in-Open.account c.in-Open.kind c.in-Open.session) _ c.in_ok-words-in-Open.words.now c.in-Open.is
    (step_open (seen c.args.pairing.now) _ _ _) (c.in_ok-words-in-Open.ensures.step))

pub returns-in_ok-words-in-Up-clause-told : goal.returns-in_ok-words-in-Up-clause-told
returns-in_ok-words-in-Up-clause-told c =
    words_then c.extend-in-Up.result (seen c.args.pairing.now) _ c.args.event (event.Up c.in-Up.number) _
    c.in_ok-words-in-Up.words.now _ _ c.in-Up.is
    (step_up (seen c.args.pairing.now) _) (c.in_ok-words-in-Up.ensures.step) c.extend-in-Up.ensures.ok

pub returns-in_ok-words-in-Up-clause-state : goal.returns-in_ok-words-in-Up-clause-state
returns-in_ok-words-in-Up-clause-state c =
    on_ok _ _ (step_state (seen c.args.pairing.now) _ c.args.event (event.Up c.in-Up.number) _
    c.in_ok-words-in-Up.words.now c.in-Up.is
    (step_up (seen c.args.pairing.now) _) (c.in_ok-words-in-Up.ensures.step))

pub returns-in_ok-words-in-Down-clause-told : goal.returns-in_ok-words-in-Down-clause-told
returns-in_ok-words-in-Down-clause-told c =
    words_then c.extend-in-Down.result (seen c.args.pairing.now) _ c.args.event (event.Down c.in-Down.number) _
    c.in_ok-words-in-Down.words.now _ _ c.in-Down.is
    (step_down (seen c.args.pairing.now) _) (c.in_ok-words-in-Down.ensures.step) c.extend-in-Down.ensures.ok

pub returns-in_ok-words-in-Down-clause-state : goal.returns-in_ok-words-in-Down-clause-state
returns-in_ok-words-in-Down-clause-state c =
    on_ok _ _ (step_state (seen c.args.pairing.now) _ c.args.event (event.Down c.in-Down.number) _
    c.in_ok-words-in-Down.words.now c.in-Down.is
    (step_down (seen c.args.pairing.now) _) (c.in_ok-words-in-Down.ensures.step))

pub returns-in-Loss-clause-told : goal.returns-in-Loss-clause-told
returns-in-Loss-clause-told c =
    words_then c.extend-in-Loss.result (seen c.args.pairing.now) _ c.args.event (event.Loss) _ c.lose.result.now _ _
    c.in-Loss.is
    (step_loss (seen c.args.pairing.now))
    (quiet_step (seen c.args.pairing.now) loss _ _ c.lose.ensures.client (loss_sends _) c.lose.ensures.words)
    c.extend-in-Loss.ensures.ok

pub returns-in-Loss-clause-state : goal.returns-in-Loss-clause-state
returns-in-Loss-clause-state c =
    on_ok _ _ (step_state (seen c.args.pairing.now) _ c.args.event (event.Loss) _ c.lose.result.now c.in-Loss.is
    (step_loss (seen c.args.pairing.now))
    (quiet_step (seen c.args.pairing.now) loss _ _ c.lose.ensures.client (loss_sends _) c.lose.ensures.words))

pub returns-in_ok-words-in-Act-clause-told : goal.returns-in_ok-words-in-Act-clause-told
returns-in_ok-words-in-Act-clause-told c =
    words_then c.extend-in-Act.result (seen c.args.pairing.now) _ c.args.event (event.Act c.in-Act.ok) _
    c.in_ok-words-in-Act.words.now _ _ c.in-Act.is
    (step_act (seen c.args.pairing.now) _)
    (quiet_step (seen c.args.pairing.now) (act c.in-Act.ok) _ _ c.in_ok-words-in-Act.ensures.client
    (act_sends _ c.in-Act.ok) c.in_ok-words-in-Act.ensures.words) c.extend-in-Act.ensures.ok

pub returns-in_ok-words-in-Act-clause-state : goal.returns-in_ok-words-in-Act-clause-state
returns-in_ok-words-in-Act-clause-state c =
    on_ok _ _ (step_state (seen c.args.pairing.now) _ c.args.event (event.Act c.in-Act.ok) _
    c.in_ok-words-in-Act.words.now c.in-Act.is
    (step_act (seen c.args.pairing.now) _)
    (quiet_step (seen c.args.pairing.now) (act c.in-Act.ok) _ _ c.in_ok-words-in-Act.ensures.client
    (act_sends _ c.in-Act.ok) c.in_ok-words-in-Act.ensures.words))

pub returns-in-End-clause-told : goal.returns-in-End-clause-told
returns-in-End-clause-told c = end_words (seen c.args.pairing.now) c.args.event c.args.out.now c.in-End.is

pub returns-in-End-clause-state : goal.returns-in-End-clause-state
returns-in-End-clause-state c = end_state (seen c.args.pairing.now) c.args.event c.in-End.is
