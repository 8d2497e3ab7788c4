use Rattle.dm_machine.proofs.Accounts.{accounts_stay}
use Rattle.dm_machine.proofs.laws.accounts_stay.Goals as goal

pub returns : goal.returns
returns c = accounts_stay
