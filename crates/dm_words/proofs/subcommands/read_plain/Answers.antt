use Rattle.std.proofs.Common.{◌∙◌, arith, rules, string_bytes}
use Rattle.dm_words.proofs.Words.{named, unnamed, as_few, all_plain}
use Rattle.dm_words.proofs.subcommands.read_plain.Goals as goal

pub returns-in-Some : goal.returns-in-Some
returns-in-Some c =
    let few = as_few string_bytes c.args.words.now in
    c.subcommand_named.ensures
    ∙ named _ _ c.in-Ok-try_get_matches_from.matches c.in-Some.name.now c.in-Ok.ensures.app
    (omega (arith, few, c.requires.few))
    (all_plain string_bytes c.args.words.now ∙ c.requires.plain) c.in-Ok-try_get_matches_from.ensures.kinds
    c.in-Ok-try_get_matches_from.ensures.matches
    (search rules)

pub returns : goal.returns
returns c =
    let few = as_few string_bytes c.args.words.now in
    unnamed _ _ c.in-Err.error c.in-Ok.ensures.app (omega (arith, few, c.requires.few))
    (all_plain string_bytes c.args.words.now ∙ c.requires.plain)
    c.in-Err.ensures.kinds (λ e. c.in_default-kind.not-OutOfMemory (c.kind.ensures ∙ e))
