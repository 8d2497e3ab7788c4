use Rattle.std.proofs.Common.{◌≡◌, ◌∙◌, ◌-◌, sym, ap, subst, length, drop}
use Rattle.std.specs.Prelude.{reverse}
use Rattle.std.proofs.lemmas.List.{length-reverse}
use Rattle.dm_undo.specs.Journals.{Journal}
use Rattle.dm_undo.specs.Entries.{AreAlike}
use Rattle.dm_undo.specs.Trees.{newest_first}
use Rattle.dm_undo.specs.Sound.{AreSoundStages}
use Rattle.dm_undo.proofs.Told.{Unwind, unwound, sound-kept, long-kept, told-kept}
use Rattle.dm_undo.proofs.Marks.{recalls-less}
use Rattle.dm_undo.proofs.journal.Journal.unwind.Goals as goal

pub unwind_to-requires-clause-sound : goal.unwind_to-requires-clause-sound
unwind_to-requires-clause-sound c = sound-kept c.self.inside.entries.items c.args.self.now.entries
    c.args.tree.now.rows (ap (λ (k : Journal). k.entries) c.self.view_is) c.requires.sound

after : (c : goal.After-unwind_to) → Unwind c.args.self.now.entries (reverse c.unwind_to.new.entries.items)
    c.args.tree.now.rows c.unwind_to.new.tree.rows c.args.mark
after c =
    let items = c.self.inside.entries.items in
    let es = c.args.self.now.entries in
    let es' = reverse c.unwind_to.new.entries.items in
    let rows' = c.unwind_to.new.tree.rows in
    let kept : reverse items ≡ es = ap (λ (k : Journal). k.entries) c.self.view_is in
    let place = c.mark.view_is in
    unwound es es' c.args.tree.now.rows rows' c.args.mark c.requires.held
    (length-reverse c.unwind_to.new.entries.items ∙ c.unwind_to.ensures.len ∙ place)
    (subst (λ n. AreSoundStages n es' rows') place c.unwind_to.ensures.sound)
    (ap (λ n. newest_first n es' rows') (sym place) ∙ c.unwind_to.ensures.trees
    ∙ ap (λ t. drop (length items - c.mark.inside.place) t) (told-kept items es c.args.tree.now.rows kept)
    ∙ ap (λ n. drop (n - c.mark.inside.place) (newest_first (length es) es c.args.tree.now.rows))
    (long-kept items es kept) ∙ ap (λ n. drop (length es - n) (newest_first (length es) es c.args.tree.now.rows))
    place)

pub returns-clause-sound : goal.returns-clause-sound
returns-clause-sound c = (after c).sound

pub returns-clause-there : goal.returns-clause-there
returns-clause-there c = (after c).there

pub returns-clause-trees : goal.returns-clause-trees
returns-clause-trees c = (after c).trees

pub returns-clause-recalls : goal.returns-clause-recalls
returns-clause-recalls c =
    recalls-less c.args.self.now.entries (reverse c.unwind_to.new.entries.items) c.args.tree.now.rows
    c.unwind_to.new.tree.rows c.args.mark c.requires.held (after c).trees

pub returns-clause-entries : goal.returns-clause-entries
returns-clause-entries c =
    let kept = ap (λ (k : Journal). k.entries) c.self.view_is in
    let es = c.args.self.now.entries in
    let es' = reverse c.unwind_to.new.entries.items in
    let far = ap (λ n. n - c.mark.inside.place) (long-kept c.self.inside.entries.items es kept)
    ∙ ap (λ n. length es - n) c.mark.view_is in (
      subst (λ l. AreAlike (drop (length es - c.args.mark) l) es') kept
          (subst (λ n. AreAlike (drop n (reverse c.self.inside.entries.items)) es') far c.unwind_to.ensures.entries),
      length-reverse c.unwind_to.new.entries.items ∙ c.unwind_to.ensures.len ∙ c.mark.view_is,
    )
