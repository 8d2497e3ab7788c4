use Rattle.std.proofs.Common.{take}
use Rattle.std.specs.List.{AllByRecursion}
use Rattle.syncml_codec.specs.Ranges.{CommandRange}
use Rattle.syncml_codec.proofs.ranges.commands_range.Given as goal

abbrev pub invariant-loop-command : goal.invariant-loop-command
invariant-loop-command l = AllByRecursion CommandRange (take l.command-index l.commands)
