use Rattle.std.proofs.Common.{◌≤◌, ◌<◌, ◌+◌, ◌++◌, Ok, inl, inr, sym, ap, subst, ◌∙◌, take, drop, length}
use Rattle.dm_heads.specs.Messages.{Settles}
use Rattle.dm_heads.proofs.MoreBytes.{settles_sized, brings_cut}
use Rattle.dm_heads.proofs.Wanting.{behind_sized, failed_sized}
use Rattle.dm_heads.proofs.Pieces.{reached, ended_before}
use Rattle.dm_heads.specs.Receiving.{ReceivesBody}
use Rattle.dm_heads.proofs.receiving.take_sized.Goals as goal

pub returns-in-Ok-true-clause-bytes : goal.returns-in-Ok-true-clause-bytes
unfolding ReceivesBody
returns-in-Ok-true-clause-bytes g c =
    let t = reached _ _ _ _ _ _ c.in-Ok-true.field-0-test c.in-Ok-true.ensures.bytes in
    let long = subst (λ now. c.args.len + c.args.count ≤ length now) t.2 t.3 in
    let body = c.cut_to.ensures ∙ ap (take c.args.count) c.drop_front.ensures
    ∙ ap (λ now. take c.args.count (drop c.args.len now)) t.2 in
    let settled = settles_sized c.args.kind c.args.taken t.0 c.args.len c.args.count c.requires.within c.requires.head long in
    (t.0, t.1, inl (subst (λ b. Settles c.args.kind (c.args.taken ++ t.0) (Ok b)) (sym body) settled))

pub returns-in-Ok-false-clause-bytes : goal.returns-in-Ok-false-clause-bytes
unfolding ReceivesBody
returns-in-Ok-false-clause-bytes g c =
    let t = ended_before _ _ _ _ _ _ c.in-Ok-false.field-0-test c.in-Ok-false.ensures.bytes in
    let short = subst (λ now. length now < c.args.len + c.args.count) t.2 t.3 in
    (t.0, t.1, inr (t.4, brings_cut c.args.kind c.args.taken t.0 c.args.len c.args.count c.requires.within c.requires.head short))

pub returns-in-Ok-true-clause-asked : goal.returns-in-Ok-true-clause-asked
returns-in-Ok-true-clause-asked g c =
    behind_sized c.args.kind c.args.taken _ _ c.args.len c.args.count c.requires.within c.requires.head c.in-Ok-true.ensures.asked

pub returns-in-Ok-false-clause-asked : goal.returns-in-Ok-false-clause-asked
returns-in-Ok-false-clause-asked g c =
    behind_sized c.args.kind c.args.taken _ _ c.args.len c.args.count c.requires.within c.requires.head c.in-Ok-false.ensures.asked

pub returns-clause-asked : goal.returns-clause-asked
returns-clause-asked g c =
    behind_sized c.args.kind c.args.taken _ _ c.args.len c.args.count c.requires.within c.requires.head (rw c.in-Err-Memory.field-0-is at c.in-Err-Memory.ensures.asked)

pub returns-in-Err-Failed-clause-asked : goal.returns-in-Err-Failed-clause-asked
returns-in-Err-Failed-clause-asked g c =
    failed_sized c.args.kind c.args.taken _ _ c.args.len c.args.count c.requires.within c.requires.head
    (rw c.in-Err-Failed.field-0-is at c.in-Err-Failed.ensures.asked)
