use Rattle.dm_replay.proofs.Answering.{on_ok}
use Rattle.dm_pair.specs.Seen.{seen}
use Rattle.dm_pair.proofs.Both.{run_then, run_state}
use Rattle.dm_pair.proofs.pairing.run.Goals as goal

pub returns-clause-told : goal.returns-clause-told
returns-clause-told c =
    run_then c.extend-2.result (seen c.args.pairing.now) _ c.args.count c.args.out.now c.extend.new.self _
    c.in_ok-word.word.now c.in_ok-word.ensures.rounds c.in_ok-extend.ensures.ok c.extend-2.ensures.ok

pub returns-clause-state : goal.returns-clause-state
returns-clause-state c =
    on_ok _ _ (run_state (seen c.args.pairing.now) _ c.args.count c.in_ok-word.word.now c.in_ok-word.ensures.rounds)
