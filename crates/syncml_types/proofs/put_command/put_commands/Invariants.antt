use Rattle.std.proofs.Common.{◌≡◌, drop}
use Rattle.wbxml_tokens.specs.Spelling.{given}
use Rattle.syncml_types.specs.Canonical.{commands_tokens}
use Rattle.syncml_types.proofs.put_command.put_commands.Given as goal

abbrev pub invariant-loop-command : goal.invariant-loop-command
invariant-loop-command g l =
    given g.W.Writer.after l.fn.w (commands_tokens l.command-items)
    ≡ given g.W.Writer.after l.w (commands_tokens (drop l.command-index l.command-items))
