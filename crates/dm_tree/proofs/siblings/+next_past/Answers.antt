use Rattle.dm_tree.proofs.Common.{◌≡◌, refl, ◌<◌, sym, arith, nat_eq, false, get_or_default, nat_tests, blank}
use Rattle.dm_tree.proofs.LeastChild.{past_one}
use Rattle.dm_tree.proofs.siblings.+next_past.Goals as goal

pub returns-in-None : goal.returns-in-None
returns-in-None t c =
    let here = get_or_default c.args.rows.now c.args.at c.index-rows-at.result blank c.requires.inside in
    let some : 0 < c.args.left = omega (arith, c.if-left-eq0.false) in
    let other : nat_eq c.args.at c.args.top ≡ false = grind (arith, nat_tests, c.if-at-top.false) in
    let none = rw here at (sym c.in-None.ensures) in
    rw (c.next_past.ensures, here, past_one c.args.rows.now c.args.top c.args.left c.args.at some other, none) refl

pub returns-in-Some : goal.returns-in-Some
returns-in-Some t c =
    let here = get_or_default c.args.rows.now c.args.at c.index-rows-at.result blank c.requires.inside in
    let some : 0 < c.args.left = omega (arith, c.if-left-eq0.false) in
    let other : nat_eq c.args.at c.args.top ≡ false = grind (arith, nat_tests, c.if-at-top.false) in
    let found = rw here at (sym c.in-Some.ensures) in
    rw (past_one c.args.rows.now c.args.top c.args.left c.args.at some other, found) refl
