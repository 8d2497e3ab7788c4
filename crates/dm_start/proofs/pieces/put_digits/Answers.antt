use Rattle.std.proofs.Common.{◌++◌}
use Rattle.dm_base.specs.declared.outside.Fault.TheVariants as fault
use Rattle.dm_base.specs.Fields.{hex_text}
use Rattle.dm_start.proofs.Putting.{puts_nothing, digits_some}
use Rattle.dm_start.proofs.pieces.put_digits.Goals as goal

pub returns-in-Err-clause-bytes : goal.returns-in-Err-clause-bytes
returns-in-Err-clause-bytes g c =
    puts_nothing _ (c.args.text.now ++ hex_text c.args.bytes.now) c.args.text.now fault.Memory
    (digits_some c.args.text.now c.args.bytes.now)
