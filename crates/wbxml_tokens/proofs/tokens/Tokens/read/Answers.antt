use Rattle.std.proofs.Common.{refl, sym, ap, ◌∙◌, ◌≡◌, subst, take, ◌++◌}
use Rattle.std.specs.Prelude.{Ok, Err, None}
use Rattle.wbxml_tokens.specs.declared.reason.FeedError.TheVariants as errors
use Rattle.wbxml_tokens.specs.Reading.{begun_by, reads}
use Rattle.wbxml_tokens.specs.Taking.{Stops, taken_all}
use Rattle.wbxml_tokens.specs.Waiting.{HasRead}
use Rattle.wbxml_tokens.proofs.Queueing.{queueing, is_same, fed_ok, fed_refused, waiting_kept}
use Rattle.wbxml_tokens.proofs.tokens.Tokens.read.Goals as goal

pub returns-in-Ok-clause-refused : goal.returns-in-Ok-clause-refused
returns-in-Ok-clause-refused c bytes given r =
    (fed_ok c.args.self.now bytes c.args.piece.now given c.feed.new.self c.self.inside.queue c.feed.new.taker r
    c.requires (ap (λ h. h.waiting) c.self.view_is)
    (subst (λ x. (taken_all queueing c.self.inside.queue (reads (begun_by x) c.args.piece.now).tokens ≡ Ok c.feed.new.taker)
    × ((reads (begun_by x) c.args.piece.now).refused ≡ None))
    (ap (λ h. h.reader) c.self.view_is) c.in-Ok.ensures.feeds)
    (c.in-Ok.ensures.ok ∙ ap (λ h. (reads (begun_by h.reader) c.args.piece.now).reader) c.self.view_is)).0

pub returns-in-Ok-clause-read : goal.returns-in-Ok-clause-read
returns-in-Ok-clause-read c bytes given r =
    subst (λ f. HasRead (record { waiting = c.feed.new.taker.tokens; refused = f; reader = c.feed.new.self })
    (bytes ++ c.args.piece.now) given)
    (sym (ap (λ h. h.refused) c.self.view_is ∙ c.requires))
    (fed_ok c.args.self.now bytes c.args.piece.now given c.feed.new.self c.self.inside.queue c.feed.new.taker r
    c.requires (ap (λ h. h.waiting) c.self.view_is)
    (subst (λ x. (taken_all queueing c.self.inside.queue (reads (begun_by x) c.args.piece.now).tokens ≡ Ok c.feed.new.taker)
    × ((reads (begun_by x) c.args.piece.now).refused ≡ None))
    (ap (λ h. h.reader) c.self.view_is) c.in-Ok.ensures.feeds)
    (c.in-Ok.ensures.ok ∙ ap (λ h. (reads (begun_by h.reader) c.args.piece.now).reader) c.self.view_is)).1

pub returns-in-Err-Refused-clause-refused : goal.returns-in-Err-Refused-clause-refused
returns-in-Err-Refused-clause-refused c bytes given r =
    (fed_refused c.args.self.now bytes c.args.piece.now given c.feed.new.self c.self.inside.queue c.feed.new.taker
    c.in-Err-Refused.refusal r c.requires (ap (λ h. h.waiting) c.self.view_is)
    (subst (λ x. Stops queueing is_same (errors.Refused c.in-Err-Refused.refusal) c.self.inside.queue c.feed.new.taker
    (reads (begun_by x) c.args.piece.now))
    (ap (λ h. h.reader) c.self.view_is)
    (subst (λ e. Stops queueing is_same e c.self.inside.queue c.feed.new.taker
    (reads (begun_by c.self.inside.reader) c.args.piece.now)) c.in-Err-Refused.field-0-is
    c.in-Err-Refused.ensures.feeds))).0

pub returns-in-Err-Refused-clause-read : goal.returns-in-Err-Refused-clause-read
returns-in-Err-Refused-clause-read c bytes given r =
    (fed_refused c.args.self.now bytes c.args.piece.now given c.feed.new.self c.self.inside.queue c.feed.new.taker
    c.in-Err-Refused.refusal r c.requires (ap (λ h. h.waiting) c.self.view_is)
    (subst (λ x. Stops queueing is_same (errors.Refused c.in-Err-Refused.refusal) c.self.inside.queue c.feed.new.taker
    (reads (begun_by x) c.args.piece.now))
    (ap (λ h. h.reader) c.self.view_is)
    (subst (λ e. Stops queueing is_same e c.self.inside.queue c.feed.new.taker
    (reads (begun_by c.self.inside.reader) c.args.piece.now)) c.in-Err-Refused.field-0-is
    c.in-Err-Refused.ensures.feeds))).1

pub returns-in-Err-Memory-clause-memory : goal.returns-in-Err-Memory-clause-memory
returns-in-Err-Memory-clause-memory c lacks =
    ap (λ t. record { waiting = t; refused = c.self.inside.refused; reader = c.feed.new.self })
    (c.cut_to.ensures ∙ ap (λ n. take n c.feed.new.taker.tokens) c.len-waiting.ensures
    ∙ waiting_kept c.self.inside.queue c.feed.new.taker (reads (begun_by c.self.inside.reader) c.args.piece.now).tokens
    (subst (λ e. Stops queueing is_same e c.self.inside.queue c.feed.new.taker
    (reads (begun_by c.self.inside.reader) c.args.piece.now)) c.in-Err-Memory.field-0-is
    c.in-Err-Memory.ensures.feeds))
    ∙ ap (λ x. record { waiting = c.self.inside.queue.tokens; refused = c.self.inside.refused; reader = x })
    (c.in-Err-Memory.ensures.memory (ap Err c.in-Err-Memory.field-0-is))
    ∙ c.self.view_is

pub returns-in-Err-Memory-clause-read : goal.returns-in-Err-Memory-clause-read
returns-in-Err-Memory-clause-read c bytes given r = returns-in-Err-Memory-clause-memory c refl
