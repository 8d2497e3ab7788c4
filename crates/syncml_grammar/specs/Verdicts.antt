-- What is answered of tokens.
use Rattle.std.specs.Prelude.{◌≡◌, None, Result, Ok, Err, ⊤}
use Rattle.wbxml_tokens.specs.declared.token.Token.{Token}
use Rattle.wbxml_tokens.specs.declared.reason.Stop.{Stop}
use Rattle.wbxml_tokens.specs.declared.reason.Stop.TheVariants as stops
use Rattle.syncml_grammar.specs.declared.verdict.MessageVerdict.{MessageVerdict}
use Rattle.syncml_grammar.specs.declared.verdict.MessageVerdict.TheVariants as verdict
use Rattle.syncml_grammar.specs.Machine.{step}
use Rattle.syncml_grammar.specs.Building.{Building}
use Rattle.syncml_grammar.specs.Refusals.{message, unfinished, refused}
use Rattle.syncml_grammar.specs.Refusals.{Verdict as Judgement}

abbrev pub judgement : MessageVerdict → Judgement
judgement (verdict.Message parts) = message parts
judgement verdict.Unfinished = unfinished
judgement (verdict.Refused at reason) = refused at reason

-- what is answered of one more token
abbrev pub GivesOne : Result Unit Stop → Building → Building → Token → Type 0
GivesOne (Ok u) old new token = (step old.frames token ≡ Ok new.frames) × (new.stopped ≡ None)
GivesOne (Err (stops.Refused reason)) old new token = step old.frames token ≡ Err reason
GivesOne (Err stops.Memory) old new token = ⊤
