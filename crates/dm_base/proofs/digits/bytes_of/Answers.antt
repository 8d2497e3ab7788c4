use Rattle.std.proofs.Common.{Some, None, cond, ◌&&◌, ◌++◌, ◌∙◌, sym, ap, refl}
use Rattle.std.specs.List.{list_all}
use Rattle.dm_base.proofs.HexReading.{block_read, both_long, in_pairs, is_value, pairs}
use Rattle.dm_base.proofs.digits.bytes_of.Goals as goal

pub returns-then-not-first_are : goal.returns-then-not-first_are
returns-then-not-first_are c =
    let va = c.values_of-first_values.result in
    let vb = c.values_of-second_values.result in
    sym (block_read c.args.first c.args.second va vb c.are_values-first_are.result (list_all is_value vb)
    c.requires.first c.requires.second c.values_of-first_values.ensures c.values_of-second_values.ensures
    c.are_values-first_are.ensures refl
    ∙ ap (λ p. cond (p && list_all is_value vb) (Some (pairs (va ++ vb))) None) c.if-not-first_are.true)

pub returns-then-not-second_are : goal.returns-then-not-second_are
returns-then-not-second_are c =
    let va = c.values_of-first_values.result in
    let vb = c.values_of-second_values.result in
    let t = c.are_values-second_are.result in
    sym (block_read c.args.first c.args.second va vb c.are_values-first_are.result t c.requires.first c.requires.second
    c.values_of-first_values.ensures c.values_of-second_values.ensures c.are_values-first_are.ensures
    c.are_values-second_are.ensures ∙ ap (λ p. cond (p && t) (Some (pairs (va ++ vb))) None) c.if-not-first_are.false
    ∙ ap (λ p. cond p (Some (pairs (va ++ vb))) None) c.if-not-second_are.true)

pub returns : goal.returns
returns c =
    let va = c.values_of-first_values.result in
    let vb = c.values_of-second_values.result in
    let t = c.are_values-second_are.result in
    let long = both_long c.args.first c.args.second va vb c.requires.first c.requires.second
    c.values_of-first_values.ensures c.values_of-second_values.ensures in
    ap Some (in_pairs (va ++ vb) long)
    ∙ sym (block_read c.args.first c.args.second va vb c.are_values-first_are.result t c.requires.first
    c.requires.second c.values_of-first_values.ensures c.values_of-second_values.ensures c.are_values-first_are.ensures
    c.are_values-second_are.ensures ∙ ap (λ p. cond (p && t) (Some (pairs (va ++ vb))) None) c.if-not-first_are.false
    ∙ ap (λ p. cond p (Some (pairs (va ++ vb))) None) c.if-not-second_are.false)
