use Rattle.dm_base.proofs.HexDigits.{digits_of_front}
use Rattle.dm_base.proofs.digits.put_last.Goals as goal

pub returns-clause-ok : goal.returns-clause-ok
returns-clause-ok c =
    rw (digits_of_front c.args.bytes.now c.copy_from_slice.new.self _ c.digits_of.result c.digits_of.ensures
    c.copy_from_slice.ensures.after) at c.extend.ensures.ok
