use Rattle.std.proofs.Common.{◌/◌, arith}
use Rattle.std.proofs.lemmas.Simd.{zip2_splat}
use Rattle.dm_base.specs.declared.digits.TheConstants.{DIGITS}
use Rattle.dm_base.proofs.Lanes.{down, high_ok, looked_up}
use Rattle.dm_base.proofs.digits.high_digits.Goals as goal

pub swizzle : goal.swizzle
swizzle c = high_ok c.args.bytes (c.requires, c.fits-bytes.1)

pub returns : goal.returns
returns c =
    let v = c.args.bytes in
    looked_up DIGITS (λ x. x / 16) v _ (c.requires, c.fits-bytes.1) (zip2_splat down v 16 4 c.requires)
    (λ x h. omega arith)
