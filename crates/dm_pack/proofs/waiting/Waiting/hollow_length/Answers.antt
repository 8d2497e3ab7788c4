use Rattle.std.proofs.Common.{◌∙◌, sym, ap, subst, arith}
use Rattle.wbxml_tokens.specs.Spelling.{page_behind}
use Rattle.syncml_types.specs.Canonical.{command_tokens}
use Rattle.syncml_types.specs.Lengths.{spelled_length}
use Rattle.syncml_types.specs.Message.{HasShortItems}
use Rattle.syncml_parts.specs.Numbering.{with_numbers}
use Rattle.dm_pack.specs.Measures.{apart_value, apart_sent}
use Rattle.dm_pack.proofs.Fit.{hollow_items}
use Rattle.dm_pack.proofs.Measuring.{page_apart}
use Rattle.dm_pack.proofs.Parts.{kept, kept_ids}
use Rattle.dm_pack.proofs.waiting.Waiting.hollow_length.Goals as goal

pub numbered_length-requires-clause-short : goal.numbered_length-requires-clause-short
numbered_length-requires-clause-short c =
    let apart = c.self.inside.apart in
    subst HasShortItems
    (kept c.self.inside.command (apart_value apart) (apart_sent apart) c.args.self.now c.self.invariant c.self.view_is)
    (hollow_items c.args.self.now.command c.requires.fit)

pub numbered_length-requires-clause-room : goal.numbered_length-requires-clause-room
numbered_length-requires-clause-room c =
    let apart = c.self.inside.apart in
    let same =
    kept_ids c.self.inside.command (apart_value apart) (apart_sent apart) c.args.self.now
    c.self.invariant c.self.view_is in
    omega (arith, same, c.requires.room)

pub returns-clause-length : goal.returns-clause-length
returns-clause-length c =
    let apart = c.self.inside.apart in
    c.numbered_length.ensures.length
    ∙ ap (λ d. spelled_length 0 c.args.page (command_tokens (with_numbers c.args.first d)))
    (sym (kept c.self.inside.command (apart_value apart) (apart_sent apart) c.args.self.now c.self.invariant
    c.self.view_is))

pub returns-clause-page : goal.returns-clause-page
returns-clause-page c =
    let apart = c.self.inside.apart in
    c.numbered_length.ensures.page
    ∙ ap (λ d. page_behind c.args.page (command_tokens (with_numbers c.args.first d)))
    (sym (kept c.self.inside.command (apart_value apart) (apart_sent apart) c.args.self.now c.self.invariant
    c.self.view_is))
    ∙ page_apart c.args.page c.args.first c.args.self.now.command
