use Rattle.std.proofs.Common.{◌≡◌, ap, sym, ◌∙◌, is_some, not, false}
use Rattle.dm_acl.specs.declared.values.Servers.TheVariants.{Everybody}
use Rattle.dm_acl.specs.Grammar.{entry_of, with_servers}
use Rattle.dm_acl.specs.Reading.{entry_in}
use Rattle.dm_acl.proofs.Faults.{entry_named}
use Rattle.dm_acl.proofs.judging.put_right.Goals as goal

pub returns-in-Some-clause-new : goal.returns-in-Some-clause-new
returns-in-Some-clause-new c = λ yes.
    let free : is_some (entry_of c.args.named.now c.in-Some.right) ≡ false =
    ap is_some (sym c.of.ensures) ∙ c.is_none.ensures ∙ ap not c.if-is_none.true in
    let e =
    entry_named (entry_in c.args.part.now) c.args.named.now c.in-Some.right (sym c.entry_right.ensures ∙ c.in-Some.is)
    free in
    (e.0, e.1, e.2, c.put.ensures ∙ sym (ap (λ r. with_servers c.args.named.now r Everybody) e.3))
