use Rattle.std.proofs.Common.{◌∙◌, ap, sym, drop}
use Rattle.wbxml_tokens.specs.Reading.{begun_by, reads}
use Rattle.wbxml_tokens.specs.Parts.{reader_of, reader_at}
use Rattle.wbxml_tokens.specs.Taking.{taking}
use Rattle.wbxml_tokens.proofs.Holding.{emptied, read_again, feeds_all, stops_all, before_all}
use Rattle.wbxml_tokens.proofs.reader.State.read_held.Goals as goal

pub returns-in-Ok-all_parts-clause-feeds : goal.returns-in-Ok-all_parts-clause-feeds
returns-in-Ok-all_parts-clause-feeds g c =
    let all =
    feeds_all (taking g.T.Taker.placed g.T.Writer.after g.T.Writer.refusal) g.T.Writer.left c.in-Ok-all_parts.used
    (emptied (reader_of c.args.self.now))
    (reader_at c.all_parts.new.spot c.all_parts.new.table) c.args.taker.now c.all_parts.new.taker c.as_slice.result.now
    (reads (begun_by (reader_of c.args.self.now)) c.args.piece.now) c.in-Ok-all_parts.ensures.gives
    (read_again (reader_of c.args.self.now) c.args.piece.now c.requires.reached c.requires.some
    ∙ ap (reads (begun_by (emptied (reader_of c.args.self.now)))) (sym c.in-Ok.ensures.ok ∙ sym c.as_slice.ensures)) in
    (all.0, all.1)

pub returns-in-Ok-all_parts-clause-ok : goal.returns-in-Ok-all_parts-clause-ok
returns-in-Ok-all_parts-clause-ok g c =
    sym
    ((feeds_all (taking g.T.Taker.placed g.T.Writer.after g.T.Writer.refusal) g.T.Writer.left c.in-Ok-all_parts.used
    (emptied (reader_of c.args.self.now))
    (reader_at c.all_parts.new.spot c.all_parts.new.table) c.args.taker.now c.all_parts.new.taker c.as_slice.result.now
    (reads (begun_by (reader_of c.args.self.now)) c.args.piece.now) c.in-Ok-all_parts.ensures.gives
    (read_again (reader_of c.args.self.now) c.args.piece.now c.requires.reached c.requires.some
    ∙ ap (reads (begun_by (emptied (reader_of c.args.self.now)))) (sym c.in-Ok.ensures.ok ∙ sym c.as_slice.ensures))).2
    ∙ ap (λ h. record (reader_at c.all_parts.new.spot c.all_parts.new.table) { held = h })
    (ap (drop c.in-Ok-all_parts.used) c.as_slice.ensures ∙ sym c.drop_front.ensures))

pub returns-in-Err-all_parts-clause-feeds : goal.returns-in-Err-all_parts-clause-feeds
returns-in-Err-all_parts-clause-feeds g c =
    stops_all (taking g.T.Taker.placed g.T.Writer.after g.T.Writer.refusal) g.T.Writer.left c.in-Err-all_parts.error
    (emptied (reader_of c.args.self.now))
    (reader_at c.all_parts.new.spot c.all_parts.new.table) c.args.taker.now c.all_parts.new.taker c.as_slice.result.now
    (reads (begun_by (reader_of c.args.self.now)) c.args.piece.now) c.in-Err-all_parts.ensures.gives
    (read_again (reader_of c.args.self.now) c.args.piece.now c.requires.reached c.requires.some
    ∙ ap (reads (begun_by (emptied (reader_of c.args.self.now)))) (sym c.in-Ok.ensures.ok ∙ sym c.as_slice.ensures))

pub returns-in-Err-clause-feeds : goal.returns-in-Err-clause-feeds
returns-in-Err-clause-feeds g c =
    before_all (taking g.T.Taker.placed g.T.Writer.after g.T.Writer.refusal) g.T.Writer.left c.args.taker.now
    (reads (begun_by (reader_of c.args.self.now)) c.args.piece.now).tokens
