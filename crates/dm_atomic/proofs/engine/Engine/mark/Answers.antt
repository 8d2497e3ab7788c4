use Rattle.std.proofs.Common.{◌∙◌, refl}
use Rattle.dm_atomic.proofs.Backs.{marked_recalls, marked_past, marked_latest}
use Rattle.dm_atomic.proofs.engine.Engine.mark.Goals as goal

pub returns-clause-recalls : goal.returns-clause-recalls
returns-clause-recalls c =
    let e = c.args.self.now in
    marked_recalls e _ c.requires.sound c.mark.ensures.place (c.mark.ensures.there e.tree.rows) c.mark-2.ensures
    (c.len.ensures ∙ e.starts.ok.0) (c.len-2.ensures ∙ e.ended.ok.0) c.len-3.ensures refl

pub returns-clause-past : goal.returns-clause-past
returns-clause-past c =
    let e = c.args.self.now in
    marked_past e _ c.requires.sound c.mark.ensures.place (c.mark.ensures.there e.tree.rows) c.mark-2.ensures
    (c.len.ensures ∙ e.starts.ok.0) (c.len-2.ensures ∙ e.ended.ok.0) c.len-3.ensures refl

pub returns-clause-latest : goal.returns-clause-latest
returns-clause-latest c =
    let e = c.args.self.now in
    marked_latest e _ c.requires.sound c.mark.ensures.place (c.mark.ensures.there e.tree.rows) c.mark-2.ensures
    (c.len.ensures ∙ e.starts.ok.0) (c.len-2.ensures ∙ e.ended.ok.0) c.len-3.ensures refl
