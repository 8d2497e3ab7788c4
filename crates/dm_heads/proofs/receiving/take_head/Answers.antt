use Rattle.std.proofs.Common.{arith, subst, ◌++◌}
use Rattle.std.proofs.KnownBytes.{Consumes-kept, Consumes-trans}
use Rattle.dm_heads.specs.Messages.{HasNoHead, MayBecomeHead}
use Rattle.dm_heads.proofs.MoreBytes.{full}
use Rattle.dm_heads.proofs.Wanting.{asked_then, failed_head}
use Rattle.dm_heads.proofs.receiving.take_head.Goals as goal

pub returns-then-len-ge-HEAD_LIMIT-clause-bytes : goal.returns-then-len-ge-HEAD_LIMIT-clause-bytes
returns-then-len-ge-HEAD_LIMIT-clause-bytes g c =
    let lacks = subst (HasNoHead c.args.kind) c.as_slice.ensures c.in-Partial.ensures.0 in (
      c.pieces.taken,
      c.pieces.invariant.so_far,
      full c.args.kind c.pieces.taken lacks (omega (arith, c.if-len-ge-HEAD_LIMIT.true, c.len.ensures)),
    )

pub returns-in-Err-Failed-clause-bytes : goal.returns-in-Err-Failed-clause-bytes
returns-in-Err-Failed-clause-bytes g c =
    let put = rw c.in-Err-Failed.field-0-is at c.in-Err-Failed.ensures.bytes in
    (c.pieces.taken, Consumes-kept _ _ _ c.pieces.taken c.pieces.invariant.so_far put.0)

pub returns-in-Err-Failed-clause-asked : goal.returns-in-Err-Failed-clause-asked
returns-in-Err-Failed-clause-asked g c =
    let put = rw c.in-Err-Failed.field-0-is at c.in-Err-Failed.ensures.bytes in
    failed_head c.args.kind _ _ _ c.pieces.taken c.pieces.invariant.so_far put.0
    (omega (arith, c.if-len-ge-HEAD_LIMIT.false, c.len.ensures)) (subst (HasNoHead c.args.kind) c.as_slice.ensures c.in-Partial.ensures.0)
    (subst (MayBecomeHead c.args.kind) c.as_slice.ensures c.in-Partial.ensures.1)

pub returns-in-Err-Memory-clause-bytes : goal.returns-in-Err-Memory-clause-bytes
returns-in-Err-Memory-clause-bytes g c =
    let later = rw c.in-Err-Memory.field-0-is at c.in-Err-Memory.ensures.bytes in
    (c.pieces.taken ++ later.0, Consumes-trans _ _ _ c.pieces.taken later.0 c.pieces.invariant.so_far later.1)

pub returns-in-Err-Memory-clause-asked : goal.returns-in-Err-Memory-clause-asked
returns-in-Err-Memory-clause-asked g c =
    let later = rw c.in-Err-Memory.field-0-is at c.in-Err-Memory.ensures.bytes in
    asked_then c.args.kind _ _ _ c.pieces.taken later.0 c.pieces.invariant.so_far later.1
    (omega (arith, c.if-len-ge-HEAD_LIMIT.false, c.len.ensures)) (subst (HasNoHead c.args.kind) c.as_slice.ensures c.in-Partial.ensures.0)
    (subst (MayBecomeHead c.args.kind) c.as_slice.ensures c.in-Partial.ensures.1) later.3
