use Rattle.std.proofs.Common.{◌≡◌, false, length, refl, arith}
use Rattle.std.specs.Prelude.{◌==◌}
use Rattle.std.proofs.lemmas.Bool.Decides.{nat_tests}
use Rattle.dm_acl.proofs.Grammars.{what_is_read_is_read_again}
use Rattle.dm_commands.proofs.Givens.{given-read}
use Rattle.dm_commands.proofs.props.given_acl.Goals as goal

pub returns-in-Ok-clause-given : goal.returns-in-Ok-clause-given
returns-in-Ok-clause-given c =
    let some : (length c.args.text.now == 0) ≡ false = grind (arith, nat_tests) in (
      refl,
      given-read c.args.text.now _ some c.in-Ok.ensures,
      what_is_read_is_read_again c.args.text.now _ c.in-Ok.ensures,
      λ h. refl,
    )
