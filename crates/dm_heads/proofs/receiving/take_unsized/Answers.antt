use Rattle.std.proofs.Common.{◌++◌, Ok, inl, inr, sym, ap, subst, ◌∙◌, drop, length, arith}
use Rattle.dm_heads.specs.Messages.{Brings}
use Rattle.dm_heads.proofs.MoreBytes.{settles_long, brings_unsized}
use Rattle.dm_heads.proofs.Wanting.{behind_unsized, failed_unsized}
use Rattle.dm_heads.proofs.Pieces.{reached, ended_before}
use Rattle.dm_heads.specs.Receiving.{ReceivesBody}
use Rattle.dm_heads.proofs.receiving.take_unsized.Goals as goal

pub returns-in-Ok-true-clause-bytes : goal.returns-in-Ok-true-clause-bytes
unfolding ReceivesBody
returns-in-Ok-true-clause-bytes g c =
    let t = reached _ _ _ _ _ _ c.in-Ok-true.field-0-test c.in-Ok-true.ensures.bytes in
    let joined = ap length t.2 in
    (t.0, t.1, inl (settles_long c.args.kind c.args.taken t.0 c.args.len c.requires.within c.requires.head (omega (arith, joined, t.3))))

pub returns-in-Ok-false-clause-bytes : goal.returns-in-Ok-false-clause-bytes
unfolding ReceivesBody
returns-in-Ok-false-clause-bytes g c =
    let t = ended_before _ _ _ _ _ _ c.in-Ok-false.field-0-test c.in-Ok-false.ensures.bytes in
    let joined = ap length t.2 in
    let body = c.drop_front.ensures ∙ ap (drop c.args.len) t.2 in
    let brought = brings_unsized c.args.kind c.args.taken t.0 c.args.len c.requires.within c.requires.head (omega (arith, joined, t.3)) in
    (t.0, t.1, inr (t.4, subst (λ b. Brings c.args.kind (c.args.taken ++ t.0) (Ok b)) (sym body) brought))

pub returns-in-Ok-true-clause-asked : goal.returns-in-Ok-true-clause-asked
returns-in-Ok-true-clause-asked g c =
    behind_unsized c.args.kind c.args.taken _ _ c.args.len _ c.requires.within (omega arith) c.requires.head c.in-Ok-true.ensures.asked

pub returns-in-Ok-false-clause-asked : goal.returns-in-Ok-false-clause-asked
returns-in-Ok-false-clause-asked g c =
    behind_unsized c.args.kind c.args.taken _ _ c.args.len _ c.requires.within (omega arith) c.requires.head c.in-Ok-false.ensures.asked

pub returns-clause-asked : goal.returns-clause-asked
returns-clause-asked g c =
    behind_unsized c.args.kind c.args.taken _ _ c.args.len _ c.requires.within (omega arith) c.requires.head (rw c.in-Err-Memory.field-0-is at c.in-Err-Memory.ensures.asked)

pub returns-in-Err-Failed-clause-asked : goal.returns-in-Err-Failed-clause-asked
returns-in-Err-Failed-clause-asked g c =
    failed_unsized c.args.kind c.args.taken _ _ c.args.len _ c.requires.within (omega arith) c.requires.head
    (rw c.in-Err-Failed.field-0-is at c.in-Err-Failed.ensures.asked)
