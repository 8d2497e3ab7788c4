use Rattle.dm_replay.proofs.Answering.{on_ok}
use Rattle.dm_pair.specs.Seen.{seen}
use Rattle.dm_pair.proofs.Both.{accounts_kept}
use Rattle.dm_pair.proofs.text.answer.Goals as goal

pub returns-clause-accounts : goal.returns-clause-accounts
returns-clause-accounts c =
    on_ok _ _ (accounts_kept (seen c.args.pairing.now) (seen c.step.new.pairing) c.args.event
    c.in_ok-step.ensures.state)
