use Rattle.std.proofs.Common.{arith, ◌∙◌, sym, subst, Err}
use Rattle.dm_acl.specs.Reading.{Answers}
use Rattle.dm_acl.proofs.Grammars.{parse_short, parse_long, answers_short, read_acl}
use Rattle.dm_acl.proofs.acl.Acl.parse.Goals as goal

pub returns-then-text-gt-TEXT_LIMIT : goal.returns-then-text-gt-TEXT_LIMIT
returns-then-text-gt-TEXT_LIMIT c = parse_long c.args.text.now (omega arith)

pub returns-in-Some : goal.returns-in-Some
returns-in-Some c = parse_short c.args.text.now c.if-text-gt-TEXT_LIMIT.false ∙ c.in-Some.ensures

pub boxed-requires : goal.boxed-requires
boxed-requires c = read_acl c.args.text.now c.in-Ok.entries c.if-text-gt-TEXT_LIMIT.false c.in-Ok.ensures

pub returns-in-Ok : goal.returns-in-Ok
returns-in-Ok c =
    subst (Answers c.boxed.result) (sym (parse_short c.args.text.now c.if-text-gt-TEXT_LIMIT.false ∙ c.in-Ok.ensures))
    c.boxed.ensures

pub returns-in-Err : goal.returns-in-Err
returns-in-Err c = answers_short c.args.text.now (Err c.in-Err.error) c.if-text-gt-TEXT_LIMIT.false c.in-Err.ensures
