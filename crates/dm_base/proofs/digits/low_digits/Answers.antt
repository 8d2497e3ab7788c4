use Rattle.std.proofs.Common.{◌%◌, ◌∙◌, bit_and, arith}
use Rattle.std.proofs.lemmas.Simd.{zip2_splat}
use Rattle.dm_base.specs.declared.digits.TheConstants.{DIGITS}
use Rattle.dm_base.proofs.Lanes.{low_ok, looked_up, low_places}
use Rattle.dm_base.proofs.digits.low_digits.Goals as goal

pub swizzle : goal.swizzle
swizzle c = low_ok c.args.bytes (c.requires, c.fits-bytes.1)

pub returns : goal.returns
returns c =
    let v = c.args.bytes in
    looked_up DIGITS (λ x. x % 16) v _ (c.requires, c.fits-bytes.1)
    (zip2_splat bit_and v 16 15 c.requires ∙ low_places v) (λ x h. omega arith)
