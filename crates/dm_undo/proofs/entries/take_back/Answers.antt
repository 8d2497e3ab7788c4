use Rattle.std.proofs.Common.{ℕ, subst}
use Rattle.dm_tree.specs.Rows.{Tree, IsParkedTop}
use Rattle.dm_tree.specs.Undos.{flipped}
use Rattle.dm_tree.specs.Notes.{GoesAlike, Stays}
use Rattle.dm_undo.proofs.entries.take_back.Goals as goal

pub returns-clause-alike : goal.returns-clause-alike
returns-clause-alike c =
    subst (λ v. GoesAlike (Stays (flipped c.args.tree.now.rows c.args.undo) v)
    (flipped c.args.tree.now.rows c.args.undo) c.discard.new.self.rows) c.flip.ensures.undo
    (subst (λ (t : Tree). GoesAlike (Stays t.rows c.flip.new.undo) t.rows c.discard.new.self.rows) c.flip.ensures.rows
    c.discard.ensures.alike)

pub returns-clause-parked : goal.returns-clause-parked
returns-clause-parked c =
    subst (λ v. (k : ℕ) → IsParkedTop c.discard.new.self.rows k
    → IsParkedTop (flipped c.args.tree.now.rows c.args.undo) k × Stays (flipped c.args.tree.now.rows c.args.undo)
    v k) c.flip.ensures.undo
    (subst (λ (t : Tree). (k : ℕ) → IsParkedTop c.discard.new.self.rows k
    → IsParkedTop t.rows k × Stays t.rows c.flip.new.undo k) c.flip.ensures.rows c.discard.ensures.parked)
