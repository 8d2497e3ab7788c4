use Rattle.std.proofs.Common.{sym, subst}
use Rattle.wbxml_tokens.specs.declared.token.Token.{Token}
use Rattle.wbxml_tokens.specs.declared.token.Token.TheVariants.{Tag, End}
use Rattle.syncml_grammar.specs.Verdicts.{GivesOne}
use Rattle.syncml_grammar.proofs.Answering.{one_step}
use Rattle.syncml_grammar.proofs.verdict.put.Goals as goal

pub returns-in-Tag : goal.returns-in-Tag
returns-in-Tag c =
    subst (λ (t : Token). GivesOne c.tag.result c.args.builder.now c.tag.new.self t) (sym c.in-Tag.is)
    (one_step c.tag.result c.args.builder.now c.tag.new.self (Tag c.in-Tag.element c.in-Tag.content) c.requires
    c.tag.ensures.ok c.tag.ensures.taken)

pub returns-in-End : goal.returns-in-End
returns-in-End c =
    subst (λ (t : Token). GivesOne c.end.result c.args.builder.now c.end.new.self t) (sym c.in-End.is)
    (one_step c.end.result c.args.builder.now c.end.new.self End c.requires c.end.ensures.ok c.end.ensures.taken)
