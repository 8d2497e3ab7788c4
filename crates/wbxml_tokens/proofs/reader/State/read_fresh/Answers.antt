use Rattle.std.proofs.Common.{ap}
use Rattle.wbxml_tokens.specs.Reading.{begun_by, reads}
use Rattle.wbxml_tokens.specs.Parts.{reader_of, reader_at}
use Rattle.wbxml_tokens.specs.Taking.{taking}
use Rattle.wbxml_tokens.proofs.Holding.{feeds_all, behind_all}
use Rattle.wbxml_tokens.proofs.reader.State.read_fresh.Goals as goal

pub returns-in-Err-extend-clause-feeds : goal.returns-in-Err-extend-clause-feeds
returns-in-Err-extend-clause-feeds g c =
    behind_all (taking g.T.Taker.placed g.T.Writer.after g.T.Writer.refusal) g.T.Writer.left c.args.taker.now
    c.all_parts.new.taker
    (reads (begun_by (reader_of c.args.self.now)) c.args.piece.now).tokens
    (feeds_all (taking g.T.Taker.placed g.T.Writer.after g.T.Writer.refusal) g.T.Writer.left c.in-Ok.used
    (reader_at c.args.self.now.spot c.args.self.now.table) (reader_at c.all_parts.new.spot c.all_parts.new.table)
    c.args.taker.now c.all_parts.new.taker
    c.args.piece.now (reads (begun_by (reader_of c.args.self.now)) c.args.piece.now) c.in-Ok.ensures.gives
    (ap (λ h. reads (begun_by (record (reader_at c.args.self.now.spot c.args.self.now.table) { held = h }))
    c.args.piece.now) c.requires.none)).0
