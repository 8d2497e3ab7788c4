use Rattle.std.proofs.Common.{rules, subst, ◌≤◌, ◌≡◌, length, get_or}
use Rattle.wbxml_tokens.specs.Parts.{reader_of}
use Rattle.wbxml_tokens.proofs.Holding.{text_begun, as_long}
use Rattle.wbxml_tokens.proofs.reader.State.text_goes_on.Goals as goal

pub returns-in-len1-up : goal.returns-in-len1-up
returns-in-len1-up c all =
    text_begun (reader_of c.args.self.now) c.args.piece.now c.requires
    (subst (λ y. 1 ≤ length y) c.as_slice.ensures c.in-len1-up.len_at_least)
    (subst (λ y. get_or y 0 0 ≡ 0x03) c.as_slice.ensures (search rules)) (search rules)
    (as_long c.args.piece.now c.before_zero.result.now c.before_zero.ensures (search rules))
