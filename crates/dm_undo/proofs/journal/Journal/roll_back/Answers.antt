use Rattle.std.proofs.Common.{◌≡◌, ◌∙◌, ◌-◌, sym, ap, subst, ◌∷◌, [], length}
use Rattle.std.specs.Prelude.{reverse}
use Rattle.dm_undo.specs.declared.entries.Entry.TheVariants.{Flipped}
use Rattle.dm_undo.specs.Journals.{Journal}
use Rattle.dm_undo.specs.Trees.{stage, maps_of, flipped_back}
use Rattle.dm_undo.proofs.Unwinds.{last_first}
use Rattle.dm_undo.proofs.Told.{RollBack, rolled_back, sound-kept, long-kept}
use Rattle.dm_undo.proofs.Marks.{recalls-more}
use Rattle.dm_undo.proofs.journal.Journal.roll_back.Goals as goal

pub flip_back-requires-clause-sound : goal.flip_back-requires-clause-sound
flip_back-requires-clause-sound c = sound-kept c.self.inside.entries.items c.args.self.now.entries
    c.args.tree.now.rows (ap (λ (k : Journal). k.entries) c.self.view_is) c.requires.sound

after : (c : goal.After-push_reserved) → RollBack c.args.self.now.entries (reverse c.push_reserved.new.self.items)
    c.args.tree.now.rows c.flip_back.new.tree.rows c.args.mark
after c =
    let items = c.self.inside.entries.items in
    let es = c.args.self.now.entries in
    let kept : reverse items ≡ es = ap (λ (k : Journal). k.entries) c.self.view_is in
    let far : length items - c.mark.inside.place ≡ length es - c.args.mark = ap (λ n. n - c.mark.inside.place)
    (long-kept items es kept) ∙ ap (λ n. length es - n) c.mark.view_is in
    let count : c.len.result - c.mark.inside.place ≡ length es - c.args.mark = ap (λ n. n - c.mark.inside.place)
    (c.len.ensures ∙ c.self.inside.entries.ok.0) ∙ far in
    let back = reverse c.flip_back.new.entries.items in
    let final : reverse c.push_reserved.new.self.items ≡ Flipped (length es - c.args.mark) ∷ back =
    ap reverse c.push_reserved.ensures.items ∙ last_first c.flip_back.new.entries.items _
    ∙ ap (λ n. Flipped n ∷ back) count in
    let rolled_is : flipped_back (length es - c.args.mark) es c.args.tree.now.rows
    ≡ stage back c.flip_back.new.tree.rows =
    ap (λ n. flipped_back n es c.args.tree.now.rows) (sym far)
    ∙ ap (λ l. flipped_back (length items - c.mark.inside.place) l c.args.tree.now.rows) (sym kept)
    ∙ c.flip_back.ensures.stage in
    subst (λ l. RollBack es l c.args.tree.now.rows c.flip_back.new.tree.rows c.args.mark) (sym final)
    (rolled_back es back c.args.tree.now.rows c.flip_back.new.tree.rows c.args.mark c.requires.held c.requires.plain
    c.requires.sound rolled_is)

pub returns-clause-sound : goal.returns-clause-sound
returns-clause-sound c = (after c).sound

pub returns-clause-there : goal.returns-clause-there
returns-clause-there c = (after c).there

pub returns-clause-trees : goal.returns-clause-trees
returns-clause-trees c = (after c).trees

pub returns-clause-entries : goal.returns-clause-entries
returns-clause-entries c = (after c).entries

pub returns-clause-parked : goal.returns-clause-parked
returns-clause-parked c = (after c).parked

pub returns-clause-recalls : goal.returns-clause-recalls
returns-clause-recalls c =
    recalls-more c.args.self.now.entries (reverse c.push_reserved.new.self.items) c.args.tree.now.rows
    c.flip_back.new.tree.rows (maps_of c.flip_back.new.tree.rows ∷ []) (after c).trees
