use Rattle.std.proofs.Common.{rules}
use Rattle.wbxml_tokens.specs.Taking.{taking}
use Rattle.wbxml_tokens.proofs.Beyond.{ends, full_before, stops_piece}
use Rattle.wbxml_tokens.proofs.reader.Reader.feed.Goals as goal

pub end_piece-requires : goal.end_piece-requires
end_piece-requires g c =
    full_before c.args.self.now c.feed_within.new.self c.min.result c.args.piece.now c.split_at.result.0.now
    c.split_at.result.1.now
    c.split_at.ensures.front c.split_at.ensures.back c.in-Ok.ensures.feeds.1 c.in-Ok.ensures.ok
    (search rules) c.room.ensures.within

pub returns-in-Ok-clause-feeds : goal.returns-in-Ok-clause-feeds
returns-in-Ok-clause-feeds g c =
    ends (taking g.T.Taker.placed g.T.Writer.after g.T.Writer.refusal) g.T.Writer.left c.end_piece.result
    c.args.self.now c.feed_within.new.self
    c.args.taker.now c.feed_within.new.taker c.min.result c.args.piece.now c.split_at.result.0.now
    c.split_at.result.1.now
    c.split_at.ensures.front c.split_at.ensures.back c.in-Ok.ensures.feeds c.in-Ok.ensures.ok
    c.in-Ok.ensures.reached
    (full_before c.args.self.now c.feed_within.new.self c.min.result c.args.piece.now c.split_at.result.0.now
    c.split_at.result.1.now
    c.split_at.ensures.front c.split_at.ensures.back c.in-Ok.ensures.feeds.1 c.in-Ok.ensures.ok (search rules)
    c.room.ensures.within) c.end_piece.ensures

pub returns-in-Err-clause-feeds : goal.returns-in-Err-clause-feeds
returns-in-Err-clause-feeds g c =
    stops_piece (taking g.T.Taker.placed g.T.Writer.after g.T.Writer.refusal) g.T.Writer.left c.in-Err.error
    c.args.self.now c.args.taker.now c.feed_within.new.taker c.min.result
    c.args.piece.now c.split_at.result.0.now c.split_at.ensures.front c.in-Err.ensures.feeds
