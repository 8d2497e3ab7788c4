use Rattle.std.proofs.Common.{ap, ◌∙◌}
use Rattle.wbxml_tokens.specs.Reading.{begun_by}
use Rattle.wbxml_tokens.specs.Parts.{reader_of}
use Rattle.wbxml_tokens.proofs.Holding.{read_text}
use Rattle.wbxml_tokens.proofs.reader.State.read_text.Goals as goal

pub returns-clause-ok : goal.returns-clause-ok
returns-clause-ok c =
    ap (λ h. begun_by (record (reader_of c.args.self.now) { held = h })) c.in_ok-extend.ensures.ok
    ∙ read_text (reader_of c.args.self.now) c.args.piece.now c.requires.reached c.requires.some c.requires.room
    c.requires.text
