use Rattle.std.proofs.Common.{List, ◌++◌, ◌∷◌, [], ◌∙◌, ap, refl, false}
use Rattle.dm_waiting.specs.declared.loads.Load.{Load}
use Rattle.dm_waiting.proofs.Beside.{beside_pushed, list_pushed}
use Rattle.dm_waiting.proofs.waiting_list.WaitingList.push.Goals as goal

pub invariant_of-self-2 : goal.invariant_of-self-2
invariant_of-self-2 c =
    let l : Load = record { carries = c.args.carries; begun = false } in
    beside_pushed c.self.inside.queue c.push_back.new.self c.self.inside.loads.items c.push_back_reserved.new.self.items
    c.args.entry l c.in_ok-push_back.ensures.ok
    (c.push_back_reserved.ensures.items ∙ ap (λ (ls : List Load). ls ++ l ∷ []) c.reserve.ensures.items) refl
    c.requires.small c.self.invariant

pub returns-clause-ok : goal.returns-clause-ok
returns-clause-ok c =
    let l : Load = record { carries = c.args.carries; begun = false } in
    list_pushed c.self.inside.queue c.push_back.new.self c.self.inside.loads.items c.push_back_reserved.new.self.items
    c.args.self.now c.args.entry l c.in_ok-push_back.ensures.ok
    (c.push_back_reserved.ensures.items ∙ ap (λ (ls : List Load). ls ++ l ∷ []) c.reserve.ensures.items)
    c.self.invariant c.self.view_is
