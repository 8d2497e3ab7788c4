use Rattle.std.proofs.Common.{◌≡◌, ◌∙◌, ◌<◌, ap, sym, false, true, arith}
use Rattle.dm_ddf.specs.Rules.{has_named}
use Rattle.dm_ddf.proofs.Makings.{ok_then, found_name, taken_name, last_name_tried}
use Rattle.dm_ddf.proofs.making.free_name.Goals as goal

pub returns-then-not-has_named : goal.returns-then-not-has_named
returns-then-not-has_named c =
    let name = c.as_slice.ensures ∙ c.in_ok-name.ensures in
    let free = ap (has_named c.args.rules.now c.args.parent) (sym name) ∙ sym c.has_named.ensures
    ∙ c.if-not-has_named.true in
    c.in_ok-name.ensures
    ∙ sym (c.loop-number.invariant.1
    ∙ found_name c.args.rules.now c.args.parent c.loop-number.number (omega (arith, c.loop-number-test.true)) free)

pub loop-number-preserved : goal.loop-number-preserved
loop-number-preserved c =
    let name = c.as_slice.ensures ∙ c.in_ok-name.ensures in
    let used = ap (has_named c.args.rules.now c.args.parent) (sym name) ∙ sym c.has_named.ensures
    ∙ c.if-not-has_named.false in (
      omega (arith, c.loop-number-test.true),
      c.loop-number.invariant.1
          ∙ taken_name c.args.rules.now c.args.parent c.loop-number.number
          (omega (arith, c.loop-number-test.true)) used,
    )

pub returns : goal.returns
returns c =
    ok_then c.numbered_name-2.result
    (λ name is. is
    ∙ sym (c.loop-number.invariant.1
    ∙ last_name_tried c.args.rules.now c.args.parent c.loop-number.number
    (omega (arith, c.loop-number-test.false, c.loop-number.invariant.0))))
    c.numbered_name-2.ensures
