use Rattle.std.proofs.Common.{refl, subst, sym, ◌∙◌, ◌≤◌, ◌-◌, length}
use Rattle.wbxml_tokens.specs.Fronts.{front}
use Rattle.wbxml_tokens.specs.Taking.{taking, GivesPart, stop_at, stopped_at}
use Rattle.wbxml_tokens.specs.Reading.{depth_of}
use Rattle.wbxml_tokens.specs.declared.reason.Stop.TheVariants as stops
use Rattle.wbxml_tokens.specs.declared.reason.Reason.TheVariants as reasons
use Rattle.wbxml_tokens.proofs.Handing.{on_ok_at, if_ok_back}
use Rattle.wbxml_tokens.specs.Parts.{reader_at, HasRoom}
use Rattle.wbxml_tokens.proofs.Turns.{trailing, first_given, room_given, found_in_body}
use Rattle.wbxml_tokens.proofs.state.next_part.Goals as goal

pub returns-then-is_whole-clause-gives : goal.returns-then-is_whole-clause-gives
returns-then-is_whole-clause-gives g c =
    trailing (taking g.T.Taker.placed g.T.Writer.after g.T.Writer.refusal) g.T.Writer.left
    (reader_at c.args.spot.now c.args.table.now) c.args.taker.now
    c.args.bytes.now (stop_at c.args.spot.now.place (stops.Refused reasons.Trailing))
    (sym c.is_whole.ensures ∙ c.if-is_whole.true) refl c.requires.some refl

pub returns-clause-gives : goal.returns-clause-gives
returns-clause-gives g c =
    first_given (taking g.T.Taker.placed g.T.Writer.after g.T.Writer.refusal) g.T.Writer.left
    (stopped_at c.args.spot.now.place c.part.result) (reader_at c.args.spot.now c.args.table.now)
    (reader_at c.part.new.spot c.args.table.now) c.args.taker.now c.part.new.taker c.args.bytes.now refl
    (sym c.is_whole.ensures ∙ c.if-is_whole.false)
    c.requires.room.1
    (subst (GivesPart (taking g.T.Taker.placed g.T.Writer.after g.T.Writer.refusal) g.T.Writer.left
    (stopped_at c.args.spot.now.place c.part.result) (reader_at c.args.spot.now c.args.table.now)
    (reader_at c.part.new.spot c.args.table.now) c.args.taker.now c.part.new.taker)
    (found_in_body (reader_at c.args.spot.now c.args.table.now) c.args.bytes.now c.requires.body) c.part.ensures.gives)

pub returns-clause-room : goal.returns-clause-room
returns-clause-room g c =
    if_ok_back c.args.spot.now.place c.part.result (λ size. HasRoom c.part.new.spot (length c.args.bytes.now - size))
    (room_given (taking g.T.Taker.placed g.T.Writer.after g.T.Writer.refusal) g.T.Writer.left
    (stopped_at c.args.spot.now.place c.part.result)
    (reader_at c.args.spot.now c.args.table.now)
    c.part.new.spot c.args.table.now c.args.taker.now c.part.new.taker
    (front c.args.spot.now.page c.args.table.now c.args.bytes.now) c.args.bytes.now
    c.part.ensures.gives
    (on_ok_at c.args.spot.now.place c.part.result (depth_of c.part.new.spot.extent ≤ c.part.new.spot.place)
    c.part.ensures.room)
    c.requires.room.1 (returns-clause-gives g c))
