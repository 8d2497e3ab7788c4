use Rattle.std.proofs.Common.{not, arith}
use Rattle.std.proofs.lemmas.List.Sums.{prefix_len-le-length}
use Rattle.dm_uri.specs.Refusals.{is_question}
use Rattle.dm_uri.proofs.reading.keeps_rules.Goals as goal

pub split_at-requires : goal.split_at-requires
split_at-requires c = omega (arith, c.path_end.ensures, prefix_len-le-length (λ b. not (is_question b)) c.args.text.now)
