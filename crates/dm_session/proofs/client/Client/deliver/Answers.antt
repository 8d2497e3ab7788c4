use Rattle.std.proofs.Common.{◌≡◌, sym, subst, Ok}
use Rattle.syncml_codec.proofs.InRange.{spelled_is_in_range}
use Rattle.syncml_codec.specs.Decoding.{read_of}
use Rattle.dm_session.proofs.Clients.{read_as, read_untaken}
use Rattle.dm_session.specs.Stays.{read_covers, engine_in}
use Rattle.dm_session.proofs.Kept.{read_stay, kept_seen, kept_self}
use Rattle.dm_session.proofs.client.Client.deliver.Goals as goal

pub take-requires : goal.take-requires
take-requires c = record {
  message = record {
    fit = c.header.ensures.fit;
    numbers = spelled_is_in_range c.args.bytes.now c.in-Ok.message c.in-Ok.ensures.exact;
    nonce_long = c.whole.ensures.long;
    nonce_bytes = c.whole.ensures.bytes;
  };
}

pub returns-in-Ok-clause-answer : goal.returns-in-Ok-clause-answer
returns-in-Ok-clause-answer c =
    read_as c.take.result _ c.args.self.now.machine (read_of c.args.bytes.now) (Ok c.in-Ok.message)
    c.args.nonce.bytes
    c.in-Ok.ensures.read c.take.ensures.answer

pub returns-in-Ok-clause-ids : goal.returns-in-Ok-clause-ids
returns-in-Ok-clause-ids c =
    read_stay (read_of c.args.bytes.now) c.in-Ok.message (engine_in c.args.self.now) (engine_in c.take.new.self)
    c.in-Ok.ensures.read c.take.ensures.ids

pub returns-in-Ok-clause-untaken : goal.returns-in-Ok-clause-untaken
returns-in-Ok-clause-untaken c =
    read_untaken c.args.self.now.machine (read_of c.args.bytes.now) (Ok c.in-Ok.message) c.args.nonce.bytes
    (c.take.new.self ≡ c.args.self.now) c.in-Ok.ensures.read c.take.ensures.untaken

pub returns-in-Ok-clause-kept : goal.returns-in-Ok-clause-kept
returns-in-Ok-clause-kept c =
    kept_seen (read_covers (read_of c.args.bytes.now)) c.self.inside c.args.self.now (engine_in c.take.new.self)
    c.self.view_is (returns-in-Ok-clause-ids c)
