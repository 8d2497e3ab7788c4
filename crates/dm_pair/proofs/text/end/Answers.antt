use Rattle.std.proofs.Common.{ap, sym, arith}
use Rattle.std.proofs.lemmas.Bool.Decides.{nat_tests}
use Rattle.std.proofs.lemmas.Grind.{common_steps}
use Rattle.dm_pair.specs.Texts.{behind_text}
use Rattle.dm_pair.specs.Seen.{seen}
use Rattle.dm_pair.proofs.Writing.{writes_same, something_behind}
use Rattle.dm_pair.proofs.text.end.Goals as goal

pub returns-then-not-is_empty : goal.returns-then-not-is_empty
returns-then-not-is_empty c =
    writes_same c.refused.result _ _ c.refused.ensures (ap (behind_text c.args.out)
    (sym (something_behind c.args.number (seen c.args.pairing.now) c.args.behind.now
    (λ none. grind (arith, nat_tests, common_steps, c.is_empty.ensures, c.if-not-is_empty.true, none)))))
