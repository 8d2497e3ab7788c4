use Rattle.std.proofs.Common.{not, arith, ap, take, ◌∙◌}
use Rattle.std.proofs.lemmas.List.Sums.{prefix_len-le-length}
use Rattle.dm_uri.specs.Refusals.{is_question}
use Rattle.dm_uri.proofs.Answered.{path_told}
use Rattle.dm_uri.proofs.reading.read_by_rules.Goals as goal

pub split_at-requires : goal.split_at-requires
split_at-requires c = omega (arith, c.path_end.ensures, prefix_len-le-length (λ b. not (is_question b)) c.args.text.now)

pub returns-in-Some : goal.returns-in-Some
returns-in-Some c =
    path_told c.args.text.now _ c.in-Some.refusal c.if-text-gt255.false
    (c.split_at.ensures.front ∙ ap (λ n. take n c.args.text.now) c.path_end.ensures) c.in-Some.ensures
