use Rattle.std.proofs.Common.{◌≡◌, ◌∙◌, ◌∷◌, ap, arith, length}
use Rattle.dm_undo.specs.declared.entries.Entry.TheVariants.{Record}
use Rattle.dm_undo.specs.Journals.{Journal}
use Rattle.dm_undo.proofs.Noted.{notes-one}
use Rattle.tree_tests.proofs.journals.noted.Goals as goal

pub returns : goal.returns
returns c =
    let undo = c.in_ok-undo.undo in
    let kept = c.note.ensures.entries in
    let is : c.note.new.self.entries ≡ Record undo ∷ c.args.journal.now.entries =
    ap (λ (j : Journal). j.entries) kept ∙ ap (λ es. Record undo ∷ es) c.make_room.ensures.entries in
    notes-one c.args.journal.now c.note.new.self c.args.tree.now.rows c.put.new.tree.rows undo is
    (omega (
      arith,
      c.in_ok-make_room.ensures.more,
      ap (λ (j : Journal). j.room) kept,
      ap length is,
      ap length c.make_room.ensures.entries,
    )) c.in_ok-undo.ensures.edit
