use Rattle.std.proofs.Common.{rules, refl, subst, sym, ap, ◌∙◌}
use Rattle.std.specs.Prelude.{Ok}
use Rattle.wbxml_tokens.specs.Parts.{reader_at}
use Rattle.wbxml_tokens.specs.Taking.{taking, GivesFirst, Stops, stop_at}
use Rattle.wbxml_tokens.specs.Reading.{begun_by, reads}
use Rattle.wbxml_tokens.proofs.Loops.{so_far_on, all_of_them, stopped}
use Rattle.wbxml_tokens.proofs.state.parts.Goals as goal

pub loop-at-preserved : goal.loop-at-preserved
loop-at-preserved g c = record {
  within = search rules;
  room = search rules;
  body = c.in-Ok.ensures.body;
  so_far =
      so_far_on (taking g.T.Taker.placed g.T.Writer.after g.T.Writer.refusal) g.T.Writer.left c.args.taker.now
      c.loop-at.taker c.next_part.new.taker
      (reader_at c.args.spot.now c.args.table.now) (reader_at c.loop-at.spot c.args.table.now)
      (reader_at c.next_part.new.spot c.args.table.now)
      c.args.bytes.now c.loop-at.at c.in-Ok.size c.loop-at.invariant.so_far (search rules)
      (subst (GivesFirst (taking g.T.Taker.placed g.T.Writer.after g.T.Writer.refusal) g.T.Writer.left (Ok c.in-Ok.size)
      (reader_at c.loop-at.spot c.args.table.now)
      (reader_at c.next_part.new.spot c.args.table.now) c.loop-at.taker c.next_part.new.taker)
      c.split_at.ensures.back c.in-Ok.ensures.gives);
}

pub returns-in-Err-clause-gives : goal.returns-in-Err-clause-gives
returns-in-Err-clause-gives g c =
    subst (λ e. Stops (taking g.T.Taker.placed g.T.Writer.after g.T.Writer.refusal) g.T.Writer.left e c.args.taker.now
    c.next_part.new.taker
    (reads (begun_by (reader_at c.args.spot.now c.args.table.now)) c.args.bytes.now))
    (sym (c.at.ensures ∙ ap (λ n. stop_at n c.in-Err.stop) c.in-Err.ensures.place))
    (stopped (taking g.T.Taker.placed g.T.Writer.after g.T.Writer.refusal) g.T.Writer.left
    (stop_at c.loop-at.spot.place c.in-Err.stop) c.args.taker.now
    c.loop-at.taker c.next_part.new.taker
    (reader_at c.args.spot.now c.args.table.now) (reader_at c.loop-at.spot c.args.table.now) c.args.bytes.now
    c.loop-at.at c.loop-at.invariant.so_far
    (subst (λ y. Stops (taking g.T.Taker.placed g.T.Writer.after g.T.Writer.refusal) g.T.Writer.left
    (stop_at c.loop-at.spot.place c.in-Err.stop) c.loop-at.taker
    c.next_part.new.taker (reads (begun_by (reader_at c.loop-at.spot c.args.table.now)) y))
    c.split_at.ensures.back c.in-Err.ensures.gives))

pub returns-clause-gives : goal.returns-clause-gives
returns-clause-gives g c =
    all_of_them (taking g.T.Taker.placed g.T.Writer.after g.T.Writer.refusal) g.T.Writer.left c.args.taker.now
    c.loop-at.taker
    (reader_at c.args.spot.now c.args.table.now) (reader_at c.loop-at.spot c.args.table.now) c.args.bytes.now
    c.loop-at.at c.loop-at.invariant.so_far
    c.loop-at.invariant.within (search rules) refl
