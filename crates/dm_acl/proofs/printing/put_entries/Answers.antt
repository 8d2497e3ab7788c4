use Rattle.std.proofs.Common.{ap, ◌∙◌}
use Rattle.dm_acl.proofs.Texts.{written}
use Rattle.dm_acl.specs.declared.values.Right.TheVariants as right
use Rattle.dm_acl.specs.Printing.{with_entry_text}
use Rattle.dm_acl.proofs.printing.put_entries.Goals as goal

pub returns : goal.returns
returns c =
    let acl = c.args.entries.now in
    let start = c.in_ok-put_entry.ensures ∙ ap (λ out. with_entry_text out right.Add acl.add) c.new-out.ensures in
    written acl _ _ _ _ _ start c.in_ok-put_entry-2.ensures c.in_ok-put_entry-3.ensures c.in_ok-put_entry-4.ensures
    c.in_ok-put_entry-5.ensures
