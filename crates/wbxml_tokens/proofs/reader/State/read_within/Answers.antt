use Rattle.wbxml_tokens.specs.Reading.{begun_by, reads}
use Rattle.wbxml_tokens.specs.Parts.{reader_of}
use Rattle.wbxml_tokens.specs.Taking.{taking}
use Rattle.wbxml_tokens.proofs.Holding.{text_feeds}
use Rattle.wbxml_tokens.proofs.reader.State.read_within.Goals as goal

pub returns-then-text_goes_on-clause-feeds : goal.returns-then-text_goes_on-clause-feeds
returns-then-text_goes_on-clause-feeds g c =
    text_feeds (taking g.T.Taker.placed g.T.Writer.after g.T.Writer.refusal) g.T.Writer.left c.read_text.result
    c.args.taker.now (reader_of c.read_text.new.self)
    (reads (begun_by (reader_of c.args.self.now)) c.args.piece.now) _ c.read_text.ensures.ok c.read_text.ensures.err
