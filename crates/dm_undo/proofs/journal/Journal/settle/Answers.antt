use Rattle.std.proofs.Common.{◌≡◌, ◌∙◌, suc, ◌-◌, sym, ap, subst, length, take}
use Rattle.std.specs.Prelude.{reverse}
use Rattle.dm_undo.specs.Journals.{Journal}
use Rattle.dm_undo.specs.Trees.{newest_first}
use Rattle.dm_undo.specs.Sound.{AreSoundStages}
use Rattle.dm_undo.proofs.Told.{Settle, settled, sound-kept, long-kept, told-kept}
use Rattle.dm_undo.proofs.Marks.{recalls-from}
use Rattle.dm_undo.proofs.journal.Journal.settle.Goals as goal

pub keep_newest-requires-clause-sound : goal.keep_newest-requires-clause-sound
keep_newest-requires-clause-sound c = sound-kept c.self.inside.entries.items c.args.self.now.entries
    c.args.tree.now.rows (ap (λ (k : Journal). k.entries) c.self.view_is) c.requires.sound

after : (c : goal.After-self-1) → Settle c.args.self.now.entries (reverse c.keep_newest.new.entries.items)
    c.args.tree.now.rows c.keep_newest.new.tree.rows c.args.mark
after c =
    let items = c.self.inside.entries.items in
    let es = c.args.self.now.entries in
    let es' = reverse c.keep_newest.new.entries.items in
    let rows = c.args.tree.now.rows in
    let rows' = c.keep_newest.new.tree.rows in
    let kept : reverse items ≡ es = ap (λ (k : Journal). k.entries) c.self.view_is in
    let n = length es - c.args.mark in
    let count : c.len.result - c.mark.inside.place ≡ length es - c.args.mark =
    ap (λ m. m - c.mark.inside.place) (c.len.ensures ∙ c.self.inside.entries.ok.0 ∙ long-kept items es kept)
    ∙ ap (λ m. length es - m) c.mark.view_is in
    settled es es' rows rows' c.args.mark c.requires.held (c.keep_newest.ensures.entries
    ∙ ap (λ m. take m (reverse items)) count ∙ ap (take n) kept)
    (subst (λ m. AreSoundStages m es' rows') count c.keep_newest.ensures.sound)
    (ap (λ m. newest_first m es' rows') (sym count) ∙ c.keep_newest.ensures.trees
    ∙ ap (λ m. take (suc m) (newest_first (length items) (reverse items) rows)) count
    ∙ ap (take (suc n)) (told-kept items es rows kept))

pub returns-clause-sound : goal.returns-clause-sound
returns-clause-sound c = (after c).sound

pub returns-clause-there : goal.returns-clause-there
returns-clause-there c = (after c).there

pub returns-clause-trees : goal.returns-clause-trees
returns-clause-trees c = (after c).trees

pub returns-clause-recalls : goal.returns-clause-recalls
returns-clause-recalls c =
    recalls-from c.args.self.now.entries (reverse c.keep_newest.new.entries.items) c.args.tree.now.rows
    c.keep_newest.new.tree.rows c.args.mark (after c).trees
