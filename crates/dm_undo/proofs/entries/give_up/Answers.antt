use Rattle.std.proofs.Common.{sym, subst}
use Rattle.dm_tree.specs.Notes.{GoesAlike}
use Rattle.dm_undo.specs.Giving.{LeavesRow}
use Rattle.dm_undo.proofs.entries.give_up.Goals as goal

pub returns-in-Record-clause-alike : goal.returns-in-Record-clause-alike
returns-in-Record-clause-alike c =
    subst (λ e. GoesAlike (LeavesRow c.args.tree.now.rows e) c.args.tree.now.rows c.discard.new.self.rows)
    (sym c.in-Record.is) c.discard.ensures.alike
