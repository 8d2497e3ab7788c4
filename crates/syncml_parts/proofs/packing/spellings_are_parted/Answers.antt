use Rattle.syncml_parts.proofs.Parted.{spells_commands}
use Rattle.syncml_parts.proofs.packing.spellings_are_parted.Goals as goal

pub returns-clause-commands : goal.returns-clause-commands
returns-clause-commands c = spells_commands
