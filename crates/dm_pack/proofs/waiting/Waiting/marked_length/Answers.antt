use Rattle.std.proofs.Common.{◌∙◌, sym, ap, arith, option_map}
use Rattle.dm_pack.specs.Measures.{marked, marks_in, apart_value, apart_sent}
use Rattle.dm_pack.proofs.Marking.{marks_kept, marks_part}
use Rattle.dm_pack.proofs.waiting.Waiting.marked_length.Goals as goal

pub overflow_sub-result : goal.overflow_sub-result
overflow_sub-result c =
    let e = c.args.self.now in
    let command = c.self.inside.command in
    let value = apart_value c.self.inside.apart in
    let sent = apart_sent c.self.inside.apart in
    let size = c.size_of-size.result in
    let old = marks_kept command value sent e c.self.view_is ∙ ap marks_in (sym c.in-Some.ensures) in
    let new =
    marks_part command value sent size e c.self.invariant c.self.view_is c.requires.some c.size_of-size.ensures
    ∙ ap (λ o. marks_in (option_map (marked size) o)) (sym c.in-Some.ensures) in
    omega (arith, old, new, c.requires.marks, c.marked_cost.ensures.value, c.marks_cost.ensures.value)

pub returns-in-Some-clause-value : goal.returns-in-Some-clause-value
returns-in-Some-clause-value c =
    let e = c.args.self.now in
    let command = c.self.inside.command in
    let value = apart_value c.self.inside.apart in
    let sent = apart_sent c.self.inside.apart in
    let size = c.size_of-size.result in
    let old = marks_kept command value sent e c.self.view_is ∙ ap marks_in (sym c.in-Some.ensures) in
    let new =
    marks_part command value sent size e c.self.invariant c.self.view_is c.requires.some c.size_of-size.ensures
    ∙ ap (λ o. marks_in (option_map (marked size) o)) (sym c.in-Some.ensures) in
    omega (arith, old, new, c.requires.marks, c.marked_cost.ensures.value, c.marks_cost.ensures.value)
