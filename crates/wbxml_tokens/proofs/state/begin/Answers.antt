use Rattle.std.proofs.Common.{rules, refl, subst, drop}
use Rattle.std.specs.Prelude.{Ok, Err}
use Rattle.wbxml_tokens.specs.Parts.{reader_at}
use Rattle.wbxml_tokens.specs.Taking.{taking, GivesAll}
use Rattle.wbxml_tokens.proofs.Loops.{so_far_none, so_far_one, all_but_one, all_after, entered}
use Rattle.wbxml_tokens.proofs.state.begin.Goals as goal

pub split_at-requires : goal.split_at-requires
split_at-requires g c =
    (entered (taking g.T.Taker.placed g.T.Writer.after g.T.Writer.refusal) g.T.Writer.left (Ok c.in-Ok.size)
    (reader_at c.args.spot.now c.args.table.now)
    (reader_at c.enter.new.spot c.enter.new.table) c.args.taker.now c.args.bytes.now refl c.requires.before
    c.requires.not_whole c.requires.room.1 c.in-Ok.ensures.gives).0

pub returns-in-Ok-eq0-clause-gives : goal.returns-in-Ok-eq0-clause-gives
returns-in-Ok-eq0-clause-gives g c =
    all_but_one (taking g.T.Taker.placed g.T.Writer.after g.T.Writer.refusal) g.T.Writer.left c.args.taker.now
    c.args.taker.now c.args.taker.now
    (reader_at c.args.spot.now c.args.table.now) (reader_at c.args.spot.now c.args.table.now)
    (reader_at c.enter.new.spot c.enter.new.table)
    c.args.bytes.now 0 c.in-Ok-eq0.field-0
    (so_far_none (taking g.T.Taker.placed g.T.Writer.after g.T.Writer.refusal) c.args.taker.now
    (reader_at c.args.spot.now c.args.table.now) c.args.bytes.now)
    (search rules) (search rules)
    (entered (taking g.T.Taker.placed g.T.Writer.after g.T.Writer.refusal) g.T.Writer.left (Ok c.in-Ok-eq0.field-0)
    (reader_at c.args.spot.now c.args.table.now)
    (reader_at c.enter.new.spot c.enter.new.table) c.args.taker.now c.args.bytes.now refl c.requires.before
    c.requires.not_whole c.requires.room.1 c.in-Ok-eq0.ensures.gives)

pub returns-in-Ok-parts-clause-gives : goal.returns-in-Ok-parts-clause-gives
returns-in-Ok-parts-clause-gives g c =
    all_after (taking g.T.Taker.placed g.T.Writer.after g.T.Writer.refusal) g.T.Writer.left (Ok c.in-Ok-parts.used)
    c.args.taker.now c.args.taker.now c.parts.new.taker
    (reader_at c.args.spot.now c.args.table.now) (reader_at c.enter.new.spot c.enter.new.table)
    (reader_at c.parts.new.spot c.enter.new.table)
    c.args.bytes.now c.in-Ok.size
    (so_far_one (taking g.T.Taker.placed g.T.Writer.after g.T.Writer.refusal) g.T.Writer.left c.args.taker.now
    c.args.taker.now (reader_at c.args.spot.now c.args.table.now) (reader_at c.enter.new.spot c.enter.new.table)
    c.args.bytes.now c.in-Ok.size (search rules)
    (entered (taking g.T.Taker.placed g.T.Writer.after g.T.Writer.refusal) g.T.Writer.left (Ok c.in-Ok.size)
    (reader_at c.args.spot.now c.args.table.now)
    (reader_at c.enter.new.spot c.enter.new.table) c.args.taker.now c.args.bytes.now refl c.requires.before
    c.requires.not_whole c.requires.room.1 c.in-Ok.ensures.gives))
    (entered (taking g.T.Taker.placed g.T.Writer.after g.T.Writer.refusal) g.T.Writer.left (Ok c.in-Ok.size)
    (reader_at c.args.spot.now c.args.table.now)
    (reader_at c.enter.new.spot c.enter.new.table) c.args.taker.now c.args.bytes.now refl c.requires.before
    c.requires.not_whole c.requires.room.1 c.in-Ok.ensures.gives).0
    (subst (λ t. GivesAll (taking g.T.Taker.placed g.T.Writer.after g.T.Writer.refusal) g.T.Writer.left
    (Ok c.in-Ok-parts.used) (reader_at c.enter.new.spot t) (reader_at c.parts.new.spot t)
    c.args.taker.now c.parts.new.taker (drop c.in-Ok.size c.args.bytes.now)) c.as_slice.ensures
    (subst (GivesAll (taking g.T.Taker.placed g.T.Writer.after g.T.Writer.refusal) g.T.Writer.left
    (Ok c.in-Ok-parts.used) (reader_at c.enter.new.spot c.as_slice.result.now)
    (reader_at c.parts.new.spot c.as_slice.result.now) c.args.taker.now c.parts.new.taker) c.split_at.ensures.back
    c.in-Ok-parts.ensures.gives))

pub returns-in-Err-parts-clause-gives : goal.returns-in-Err-parts-clause-gives
returns-in-Err-parts-clause-gives g c =
    all_after (taking g.T.Taker.placed g.T.Writer.after g.T.Writer.refusal) g.T.Writer.left (Err c.in-Err-parts.error)
    c.args.taker.now c.args.taker.now c.parts.new.taker
    (reader_at c.args.spot.now c.args.table.now) (reader_at c.enter.new.spot c.enter.new.table)
    (reader_at c.parts.new.spot c.enter.new.table)
    c.args.bytes.now c.in-Ok.size
    (so_far_one (taking g.T.Taker.placed g.T.Writer.after g.T.Writer.refusal) g.T.Writer.left c.args.taker.now
    c.args.taker.now (reader_at c.args.spot.now c.args.table.now) (reader_at c.enter.new.spot c.enter.new.table)
    c.args.bytes.now c.in-Ok.size (search rules)
    (entered (taking g.T.Taker.placed g.T.Writer.after g.T.Writer.refusal) g.T.Writer.left (Ok c.in-Ok.size)
    (reader_at c.args.spot.now c.args.table.now)
    (reader_at c.enter.new.spot c.enter.new.table) c.args.taker.now c.args.bytes.now refl c.requires.before
    c.requires.not_whole c.requires.room.1 c.in-Ok.ensures.gives))
    (entered (taking g.T.Taker.placed g.T.Writer.after g.T.Writer.refusal) g.T.Writer.left (Ok c.in-Ok.size)
    (reader_at c.args.spot.now c.args.table.now)
    (reader_at c.enter.new.spot c.enter.new.table) c.args.taker.now c.args.bytes.now refl c.requires.before
    c.requires.not_whole c.requires.room.1 c.in-Ok.ensures.gives).0
    (subst (λ t. GivesAll (taking g.T.Taker.placed g.T.Writer.after g.T.Writer.refusal) g.T.Writer.left
    (Err c.in-Err-parts.error) (reader_at c.enter.new.spot t) (reader_at c.parts.new.spot t)
    c.args.taker.now c.parts.new.taker (drop c.in-Ok.size c.args.bytes.now)) c.as_slice.ensures
    (subst (GivesAll (taking g.T.Taker.placed g.T.Writer.after g.T.Writer.refusal) g.T.Writer.left
    (Err c.in-Err-parts.error) (reader_at c.enter.new.spot c.as_slice.result.now)
    (reader_at c.parts.new.spot c.as_slice.result.now) c.args.taker.now c.parts.new.taker) c.split_at.ensures.back
    c.in-Err-parts.ensures.gives))

pub returns-in-Err-clause-gives : goal.returns-in-Err-clause-gives
returns-in-Err-clause-gives g c =
    entered (taking g.T.Taker.placed g.T.Writer.after g.T.Writer.refusal) g.T.Writer.left (Err c.in-Err.error)
    (reader_at c.args.spot.now c.args.table.now)
    (reader_at c.enter.new.spot c.enter.new.table) c.args.taker.now c.args.bytes.now refl c.requires.before
    c.requires.not_whole c.requires.room.1 c.in-Err.ensures.gives
