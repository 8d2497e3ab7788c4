use Rattle.std.proofs.Common.{◌≡◌, ◌<◌, ◌+◌, ◌∙◌, length, arith, not, sym, subst, take}
use Rattle.std.specs.Prelude.{true}
use Rattle.std.proofs.lemmas.List.Sums.{prefix_len-le-length}
use Rattle.dm_uri.specs.Names.{is_name_byte, is_name}
use Rattle.dm_uri.specs.Reading.{BeginsWithNames}
use Rattle.dm_uri.proofs.AtOnce.{name_first, one_more, slash_first}
use Rattle.dm_uri.proofs.reading.behind_names.Goals as goal

pub split_at-requires : goal.split_at-requires
split_at-requires c =
    omega (arith, c.name_end.ensures, prefix_len-le-length (λ b. not (not (is_name_byte b))) c.loop-before.rest.now)

pub is_name_of_bytes-requires : goal.is_name_of_bytes-requires
is_name_of_bytes-requires c = rw (c.split_at.ensures.front, c.name_end.ensures) (name_first c.loop-before.rest.now)

pub returns-then-is_empty-clause-names : goal.returns-then-is_empty-clause-names
returns-then-is_empty-clause-names c =
    let is : is_name (take c.name_end.result c.loop-before.rest.now) ≡ true =
    rw (← c.split_at.ensures.front) (sym c.is_name_of_bytes.ensures ∙ c.if-not-is_name_of_bytes.false) in
    rw c.split_at.ensures.back
    (one_more c.args.text.now c.loop-before.rest.now _ c.name_end.result c.loop-before.invariant is)

pub loop-before-preserved : goal.loop-before-preserved
loop-before-preserved c =
    let is : is_name (take c.name_end.result c.loop-before.rest.now) ≡ true =
    rw (← c.split_at.ensures.front) (sym c.is_name_of_bytes.ensures ∙ c.if-not-is_name_of_bytes.false) in
    let some : 0 < length c.split_at.result.1.now = grind (arith, c.is_empty.ensures, c.if-is_empty.false) in
    subst (BeginsWithNames c.args.text.now (c.loop-before.before + 1))
    (sym c.split_at.ensures.back ∙ slash_first c.split_at.result.1.now some c.if-behind-ne47.false)
    (one_more c.args.text.now c.loop-before.rest.now _ c.name_end.result c.loop-before.invariant is)
