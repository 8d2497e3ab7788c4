use Rattle.std.proofs.Common.{rules, string_bytes}
use Rattle.dm_words.proofs.Words.{texts_unplain}
use Rattle.dm_words.proofs.subcommands.read_subcommand.Goals as goal

pub returns-else-are_plain : goal.returns-else-are_plain
returns-else-are_plain c = texts_unplain string_bytes c.args.words.now (search rules)
