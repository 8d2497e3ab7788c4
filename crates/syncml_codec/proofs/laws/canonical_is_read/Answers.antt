use Rattle.syncml_types.specs.Canonical.{canonical}
use Rattle.syncml_codec.proofs.CanonicalBytes.{canonical_spells}
use Rattle.syncml_codec.proofs.Decoded.{spelled_read}
use Rattle.syncml_codec.proofs.laws.canonical_is_read.Goals as goal

pub returns : goal.returns
returns c = λ parts fit numbers short.
    let spells = canonical_spells parts fit numbers short in (spells, spelled_read (canonical parts) parts spells)
