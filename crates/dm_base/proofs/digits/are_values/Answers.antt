use Rattle.std.proofs.Common.{◌∙◌, ap, arith, eqb, leb, w8}
use Rattle.std.proofs.lemmas.Simd.{bitmask_splat}
use Rattle.dm_base.proofs.HexReading.{all_lanes}
use Rattle.dm_base.proofs.digits.are_values.Goals as goal

pub returns : goal.returns
returns c =
    ap (λ m. eqb m 65535) (bitmask_splat w8 leb c.args.values 16 15 c.requires (omega arith))
    ∙ all_lanes (λ v. leb v 15) c.args.values c.requires
