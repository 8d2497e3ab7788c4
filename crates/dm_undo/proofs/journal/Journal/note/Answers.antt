use Rattle.std.proofs.Common.{◌≡◌, ◌∙◌, sym, ap, subst, ◌∷◌, []}
use Rattle.std.specs.Prelude.{reverse}
use Rattle.dm_undo.specs.declared.entries.Entry.TheVariants.{Record}
use Rattle.dm_undo.specs.Journals.{Journal}
use Rattle.dm_undo.specs.Trees.{maps_of, trees}
use Rattle.dm_undo.specs.Sound.{AreAllHeld, IsSound}
use Rattle.dm_undo.proofs.Unwinds.{last_first}
use Rattle.dm_undo.proofs.Told.{sound-noted, trees-noted}
use Rattle.dm_undo.proofs.Helds.{noted_held}
use Rattle.dm_undo.proofs.Marks.{recalls-more}
use Rattle.dm_undo.proofs.journal.Journal.note.Goals as goal

entries : (c : goal.After-push_reserved) → reverse c.push_reserved.new.self.items ≡ Record c.args.undo
    ∷ c.args.self.now.entries
entries c = ap reverse c.push_reserved.ensures.items ∙ last_first c.self.inside.entries.items (Record c.args.undo)
    ∙ ap (λ (k : Journal). Record c.args.undo ∷ k.entries) c.self.view_is

pub returns-clause-sound : goal.returns-clause-sound
returns-clause-sound c before now s t = subst (λ l. IsSound l now) (sym (entries c))
    (sound-noted c.args.self.now.entries before now c.args.undo s t)

pub returns-clause-trees : goal.returns-clause-trees
returns-clause-trees c before now s t = ap (λ l. trees l now) (entries c)
    ∙ trees-noted c.args.self.now.entries before now c.args.undo s t

pub returns-clause-parked : goal.returns-clause-parked
returns-clause-parked c before now t h = subst (λ l. AreAllHeld l now) (sym (entries c))
    (noted_held c.args.self.now.entries before now c.args.undo t h)

pub returns-clause-recalls : goal.returns-clause-recalls
returns-clause-recalls c before now s t =
    recalls-more c.args.self.now.entries (reverse c.push_reserved.new.self.items) before now (maps_of now ∷ [])
    (ap (λ l. trees l now) (entries c) ∙ trees-noted c.args.self.now.entries before now c.args.undo s t)
