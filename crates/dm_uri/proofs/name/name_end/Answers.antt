use Rattle.std.proofs.Common.{rules, tests, ◌∙◌, ap, length, not}
use Rattle.std.specs.Prelude.{unwrap_or}
use Rattle.std.proofs.lemmas.Iterator.{YieldsList-from_slice}
use Rattle.std.proofs.lemmas.Iterator.Search.{position_from_yields_List}
use Rattle.dm_uri.specs.Names.{is_name_byte}
use Rattle.dm_uri.proofs.Pieces.{first_or_length}
use Rattle.dm_uri.proofs.name.name_end.Goals as goal

pub returns : goal.returns
returns c =
    c.unwrap_or.ensures
    ∙ ap (λ place. unwrap_or place (length c.args.text.now))
    (position_from_yields_List (λ b. not (is_name_byte b)) _ _ c.position.result c.position.ensures.ran
    (YieldsList-from_slice c.args.text.now c.iter.ensures.rest) (λ x b q k. search (rules, tests)))
    ∙ first_or_length (λ b. not (is_name_byte b)) c.args.text.now
