use Rattle.syncml_codec.proofs.InRange.{spelled_is_in_range}
use Rattle.dm_server.proofs.server.Server.deliver.Goals as goal

pub take-answer-requires : goal.take-answer-requires
take-answer-requires c = record {
  message = record {
    fit = c.header.ensures.fit;
    numbers = spelled_is_in_range c.args.bytes.now c.in-Ok.message c.in-Ok.ensures.exact;
    nonce_long = c.whole.ensures.long;
    nonce_bytes = c.whole.ensures.bytes;
  };
}
