use Rattle.syncml_codec.proofs.CanonicalBytes.{canonical_spells}
use Rattle.syncml_codec.proofs.Decoded.{spelled_read}
use Rattle.syncml_codec.proofs.laws.encoded_is_read.Goals as goal

pub returns-clause-spelled : goal.returns-clause-spelled
returns-clause-spelled c short = canonical_spells _ c.header.ensures.fit c.numbers_are_in_range.ensures short

pub returns-clause-read : goal.returns-clause-read
returns-clause-read c short =
    spelled_read _ _ (canonical_spells _ c.header.ensures.fit c.numbers_are_in_range.ensures short)
