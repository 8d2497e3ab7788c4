use Rattle.dm_tree.proofs.IndexEdits.{sized-flipped}
use Rattle.dm_tree.proofs.edits.recount.Goals as goal

pub returns-in_default : goal.returns-in_default
returns-in_default c =
    sized-flipped c.args.rows.now c.args.change.now c.requires.fits.inside c.in_default.not-TakeOut
    c.in_default.not-PutIn c.args.sizes.now.items c.requires.sizes
