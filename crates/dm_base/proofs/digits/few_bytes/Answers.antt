use Rattle.std.proofs.Common.{length, drop, replicate, refl, arith, length-drop}
use Rattle.hex.specs.Hex.{is_hex_digit}
use Rattle.dm_base.proofs.HexReading.{front_read, all_drop}
use Rattle.dm_base.proofs.digits.few_bytes.Goals as goal

pub returns : goal.returns
returns c =
    let t = c.args.text.now in
    let zeros = replicate 32 48 in
    let counted = length-drop (length t) zeros in
    front_read t c.copy_from_slice.new.self (drop (length t) zeros) c.block_bytes.result c.requires.even
    (omega (arith, counted, c.requires.few, c.requires.even)) (all_drop is_hex_digit (length t) zeros refl)
    c.copy_from_slice.ensures.after c.block_bytes.ensures
