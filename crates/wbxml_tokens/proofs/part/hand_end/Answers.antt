use Rattle.wbxml_tokens.specs.declared.token.Token.TheVariants as pieces
use Rattle.wbxml_tokens.specs.Taking.{taking}
use Rattle.wbxml_tokens.specs.Parts.{reader_at}
use Rattle.wbxml_tokens.proofs.Handing.{refused_by}
use Rattle.wbxml_tokens.proofs.part.hand_end.Goals as goal

pub returns-in-Err-clause-gives : goal.returns-in-Err-clause-gives
returns-in-Err-clause-gives g c table =
    refused_by (taking g.T.Taker.placed g.T.Writer.after g.T.Writer.refusal) g.T.Writer.left c.args.taker.now
    c.place.new.self c.end.new.self
    pieces.End c.args.size (reader_at c.args.spot.now table) (reader_at c.args.spot.now table)
    (g.T.Writer.told c.in-Err.error) c.stop_of.result c.place.ensures c.in-Err.ensures.taken c.stop_of.ensures
