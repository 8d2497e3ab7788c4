use Rattle.std.proofs.Common.{arith, refl, ◌++◌, ◌∙◌}
use Rattle.std.proofs.KnownBytes.{Consumes-kept, Consumes-trans}
use Rattle.dm_heads.proofs.Pieces.{no_piece, more_taken}
use Rattle.dm_heads.proofs.Wanting.{up_to_first, up_to_more, up_to_then, failed_up_to}
use Rattle.dm_heads.proofs.taking.take_up_to.Goals as goal

pub pieces-init : goal.pieces-init
pieces-init g c = record { so_far = no_piece _ _; asked = up_to_first _ _ _; count = refl; sink = refl }

pub pieces-preserved : goal.pieces-preserved
pieces-preserved g c =
    let piece = c.in-Ok.ensures.bytes in
    record {
      so_far = more_taken _ _ _ _ _ _ piece.0 c.pieces.invariant.so_far piece.1 piece.2;
      asked = up_to_more _ _ _ _ _ _ piece.0 _ c.pieces.invariant.asked (omega (arith, c.pieces-test.true, c.len.ensures)) piece.1
          (omega (arith, piece.3, piece.5)) piece.2;
      count = c.in-Ok.ensures.count ∙ c.pieces.invariant.count;
      sink = c.in-Ok.ensures.sink ∙ c.pieces.invariant.sink;
    }

pub returns-in-Err-Failed-clause-bytes : goal.returns-in-Err-Failed-clause-bytes
returns-in-Err-Failed-clause-bytes g c =
    let first = c.pieces.invariant.so_far in
    let put = rw c.in-Err-Failed.field-0-is at c.in-Err-Failed.ensures.bytes in
    (first.0, Consumes-kept _ _ _ first.0 first.1 put.0)

pub returns-in-Err-Failed-clause-asked : goal.returns-in-Err-Failed-clause-asked
returns-in-Err-Failed-clause-asked g c =
    let put = rw c.in-Err-Failed.field-0-is at c.in-Err-Failed.ensures.bytes in
    failed_up_to _ _ _ _ _ _ c.pieces.invariant.asked (omega (arith, c.pieces-test.true, c.len.ensures)) put.0

pub returns-in-Err-Memory-clause-bytes : goal.returns-in-Err-Memory-clause-bytes
returns-in-Err-Memory-clause-bytes g c =
    let first = c.pieces.invariant.so_far in
    let later = rw c.in-Err-Memory.field-0-is at c.in-Err-Memory.ensures.bytes in
    (first.0 ++ later.0, Consumes-trans _ _ _ first.0 later.0 first.1 later.1)

pub returns-in-Err-Memory-clause-asked : goal.returns-in-Err-Memory-clause-asked
returns-in-Err-Memory-clause-asked g c =
    let later = rw c.in-Err-Memory.field-0-is at c.in-Err-Memory.ensures.bytes in
    up_to_then _ _ _ _ _ later.0 _ c.pieces.invariant.asked (omega (arith, c.pieces-test.true, c.len.ensures)) later.1 later.3
