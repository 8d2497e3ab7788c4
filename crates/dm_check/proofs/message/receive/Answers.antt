use Rattle.std.proofs.Common.{arith, refl, sym, ap, subst, ◌∙◌, ◌≡◌, ◌+◌, ◌++◌, length, take, drop}
use Rattle.std.proofs.lemmas.List.{length-append, length-take, length-drop, take-append-le}
use Rattle.std.proofs.KnownBytes.{Consumes-trans}
use Rattle.std.specs.Io.KnownBytes.{Consumes}
use Rattle.syncml_codec.specs.Decoding.{settled, HasDecoded}
use Rattle.dm_check.specs.Receiving.{ReceiveCounts}
use Rattle.dm_check.proofs.Taking.{nothing_settled, unsettled_within, none_taken, took_none, took_piece}
use Rattle.dm_check.proofs.Taking.{stopped_received, asked_unsettled, no_fault, message_ended, stopped_ended}
use Rattle.dm_check.proofs.message.receive.Goals as goal

pub pieces-init : goal.pieces-init
pieces-init g c = record {
  within = let none = ap length c.new-bytes.ensures in omega (arith, none);
  unsettled = ap settled c.new-bytes.ensures ∙ nothing_settled;
  decoded = subst (HasDecoded c.new-decoder.result) (sym c.new-bytes.ensures) c.new-decoder.ensures.decoded;
  room = refl;
  taken = none_taken _ _ c.new-bytes.ensures;
  count = refl;
}

pub returns-in-Ok-eq0-clause-taken : goal.returns-in-Ok-eq0-clause-taken
returns-in-Ok-eq0-clause-taken g c =
    let room = length-take c.min-room.result c.pieces.buf in
    took_piece _ _ _ c.pieces.bytes c.take.new.buf c.in-Ok-eq0.field-0 c.min-room.result c.pieces.invariant.taken
    c.pieces.invariant.unsettled c.in-Ok-eq0.ensures.bytes.1
    (omega (arith, room, c.take.auto.buf)) (omega (arith, c.min-room.ensures))
    (omega (arith, c.min-room.ensures, c.len.ensures, c.pieces.invariant.within))

pub returns-in-Ok-eq0-clause-count : goal.returns-in-Ok-eq0-clause-count
returns-in-Ok-eq0-clause-count g c =
    subst (λ n. ReceiveCounts (g.S.Source.faults c.args.src.now) n c.finish.result)
    (sym (c.in-Ok-eq0.ensures.count ∙ c.pieces.invariant.count)) (c.finish.ensures.count _)

pub pieces-smaller : goal.pieces-smaller
pieces-smaller g c =
    let kept = c.in-Ok-keep.ensures.kept in
    let within = unsettled_within c.keep.new.bytes (ap settled kept ∙ c.in-Ok-keep.ensures.told) in
    let piece =
    take-append-le c.in-Ok.count c.take.new.buf (drop c.min-room.result c.pieces.buf) c.in-Ok.ensures.bytes.0 in
    let all = length-append c.pieces.bytes (take c.in-Ok.count c.take.new.buf) in
    let more : length c.keep.new.bytes ≡ length c.pieces.bytes + length (take c.in-Ok.count c.take.new.buf) =
    ap length (kept ∙ ap (λ l. c.pieces.bytes ++ l) piece) ∙ all in
    let front = length-take c.in-Ok.count c.take.new.buf in
    omega (arith, within, more, front, c.in-Ok.ensures.bytes.0, c.in-Ok.count-test)

pub pieces-preserved : goal.pieces-preserved
pieces-preserved g c =
    let kept = c.in-Ok-keep.ensures.kept in
    let unsettled = ap settled kept ∙ c.in-Ok-keep.ensures.told in
    let front = length-take c.min-room.result c.pieces.buf in
    let rest = length-drop c.min-room.result c.pieces.buf in
    let piece =
    take-append-le c.in-Ok.count c.take.new.buf (drop c.min-room.result c.pieces.buf) c.in-Ok.ensures.bytes.0 in
    let both = length-append c.take.new.buf (drop c.min-room.result c.pieces.buf) in
    record {
      within = unsettled_within c.keep.new.bytes unsettled;
      unsettled = unsettled;
      decoded = subst (HasDecoded c.keep.new.decoder) (sym kept) c.in-Ok-keep.ensures.decoded;
      room = omega (arith, front, rest, both, c.take.auto.buf, c.pieces.invariant.room);
      taken =
          subst (Consumes _ _) (sym (kept ∙ ap (λ l. c.pieces.bytes ++ l) piece))
          (Consumes-trans _ _ _ _ _ c.pieces.invariant.taken c.in-Ok.ensures.bytes.1);
      count = c.in-Ok.ensures.count ∙ c.pieces.invariant.count;
    }

pub returns-in-Err-keep-clause-received : goal.returns-in-Err-keep-clause-received
returns-in-Err-keep-clause-received g c =
    let piece =
    take-append-le c.in-Ok.count c.take.new.buf (drop c.min-room.result c.pieces.buf) c.in-Ok.ensures.bytes.0 in
    stopped_received _ _ _ c.in-Err-keep.error c.stopped.result
    (Consumes-trans _ _ _ _ _ c.pieces.invariant.taken (subst (Consumes _ _) (sym piece) c.in-Ok.ensures.bytes.1))
    c.in-Err-keep.ensures.told c.stopped.ensures.received

pub returns-in-Err-keep-clause-taken : goal.returns-in-Err-keep-clause-taken
returns-in-Err-keep-clause-taken g c =
    let room = length-take c.min-room.result c.pieces.buf in
    took_piece _ _ _ c.pieces.bytes c.take.new.buf c.in-Ok.count c.min-room.result c.pieces.invariant.taken
    c.pieces.invariant.unsettled c.in-Ok.ensures.bytes.1
    (omega (arith, room, c.take.auto.buf)) (omega (arith, c.min-room.ensures))
    (omega (arith, c.min-room.ensures, c.len.ensures, c.pieces.invariant.within))

pub returns-in-Err-clause-taken : goal.returns-in-Err-clause-taken
returns-in-Err-clause-taken g c =
    took_none _ _ _ c.pieces.bytes c.pieces.invariant.taken c.pieces.invariant.unsettled c.in-Err.ensures.bytes
    c.pieces.invariant.within

pub returns-in-Ok-eq0-clause-asked : goal.returns-in-Ok-eq0-clause-asked
returns-in-Ok-eq0-clause-asked g c = λ is. absurd (no_fault c.finish.result c.finish.ensures.count is)

pub returns-in-Err-keep-clause-asked : goal.returns-in-Err-keep-clause-asked
returns-in-Err-keep-clause-asked g c = λ is. absurd (no_fault c.stopped.result c.stopped.ensures.count is)

pub returns-in-Err-clause-asked : goal.returns-in-Err-clause-asked
returns-in-Err-clause-asked g c = λ is.
    asked_unsettled _ _ _ c.pieces.bytes c.pieces.invariant.taken c.pieces.invariant.unsettled c.in-Err.ensures.bytes

pub returns-in-Ok-eq0-clause-ended : goal.returns-in-Ok-eq0-clause-ended
returns-in-Ok-eq0-clause-ended g c =
    message_ended _ c.finish.result (c.in-Ok-eq0.ensures.bytes.2 (omega (arith, c.in-Ok-eq0.field-0-test)))

pub returns-in-Err-keep-clause-ended : goal.returns-in-Err-keep-clause-ended
returns-in-Err-keep-clause-ended g c =
    stopped_ended _ c.in-Err-keep.error c.stopped.result c.stopped.ensures.received
