use Rattle.std.proofs.Common.{◌∙◌, ◌++◌, ap, arith, take, drop, length-drop, take-append-drop}
use Rattle.std.proofs.lemmas.List.{take_all}
use Rattle.std.proofs.lemmas.Simd.{length-chunk}
use Rattle.std.specs.Result.{result_ok}
use Rattle.hex.specs.Hex.{decode_of}
use Rattle.dm_base.proofs.digits.block_bytes.Goals as goal

pub bytes_of-requires-clause-second : goal.bytes_of-requires-clause-second
bytes_of-requires-clause-second c = length-chunk 16 16 c.args.text.now (omega (arith, c.requires))

pub returns : goal.returns
returns c =
    let t = c.args.text.now in
    let second = take_all 16 (drop 16 t) (omega (arith, length-drop 16 t, c.requires)) in
    c.bytes_of.ensures ∙ ap (λ l. result_ok (decode_of (take 16 t ++ l))) second
    ∙ ap (λ l. result_ok (decode_of l)) (take-append-drop 16 t)
