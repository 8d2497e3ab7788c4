-- A text that is whole ends with the tree and the report of the ends that its lines come to, and these are the world's.
use Rattle.std.proofs.Common.{◌≡◌, ◌+◌, ℕ, Bool, true, false, cond, List, [], ◌∷◌, ◌++◌, refl, sym, ◌∙◌, ap, subst}
use Rattle.std.proofs.Common.{append_assoc}
use Rattle.std.specs.Prelude.{Result, Ok, Err}
use Rattle.dm_base.specs.declared.lines.LineReason.{LineReason}
use Rattle.dm_base.specs.declared.lines.LineReason.TheVariants as reason
use Rattle.dm_job.specs.Laws.{JobsAreSound}
use Rattle.dm_job.specs.Texts.{segments, is_long}
use Rattle.dm_world.specs.World.{run}
use Rattle.dm_world.specs.Start.{at_start}
use Rattle.dm_pair.specs.Pairing.{Pairing}
use Rattle.dm_pair.specs.Texts.{TextStage, first, starting, jobbing, happening, over, TextTurn, text_turn, Written}
use Rattle.dm_pair.specs.Texts.{refuses, ends_at}
use Rattle.dm_pair.specs.Texts.{behind_text, goes_on, behind_turn, written_from, written, whole_ending}
use Rattle.dm_pair.specs.Schedules.{brought_by, brought, HasEnds}
use Rattle.dm_pair.specs.Begins.{lines_before_long}
use Rattle.dm_pair.specs.Whole.{EndsWithBoth, world_ending, TellsWorld, WholeTextsTellWorlds}
use Rattle.dm_pair.proofs.TextStarts.{texts_begin}

-- the end: nothing stands behind it
at-end : (n : ℕ) (p : Pairing) (behind : List (List ℕ)) → (ends_at n p behind).bad ≡ false
    → EndsWithBoth (over p) (lines_before_long behind) (ends_at n p behind).text
at-end n p [] h = absurd (cc)
at-end n p ([] ∷ []) h = record { ends = p; comes = refl; before = []; text_is = refl }
at-end n p ((b ∷ bs) ∷ []) h = absurd (cc)
at-end n p ([] ∷ line ∷ lines) h = absurd (cc)
at-end n p ((b ∷ bs) ∷ line ∷ lines) h = absurd (cc)

-- behind what a line wrote
more-written : (s t : TextStage) (lines : List (List ℕ)) (line written text : List ℕ)
    → text_turn s line ≡ Ok (record { stage = t; written = written })
    → EndsWithBoth t lines text
    → EndsWithBoth s (line ∷ lines) (written ++ text)
more-written s t lines line written text e h = record {
  ends = h.ends;
  comes = subst (λ x. HasEnds h.ends (brought_by x s (λ z. brought z lines))) (sym e) h.comes;
  before = written ++ h.before;
  text_is = ap (λ x. written ++ x) h.text_is ∙ sym (append_assoc written h.before (whole_ending h.ends));
}

-- whether or not the line was the last
stage-ends : (n : ℕ) (t : TextStage) (next : List ℕ) (others : List (List ℕ))
    → ((written_from n t (next ∷ others)).bad ≡ false
    → EndsWithBoth t (lines_before_long (next ∷ others)) (written_from n t (next ∷ others)).text)
    → (goes_on n t (next ∷ others) (written_from n t (next ∷ others))).bad ≡ false
    → EndsWithBoth t (lines_before_long (next ∷ others)) (goes_on n t (next ∷ others) (written_from n t (next ∷ others))).text
stage-ends n first next others k h = k h
stage-ends n (starting s) next others k h = k h
stage-ends n (jobbing told r) next others k h = k h
stage-ends n (happening ids p) next others k h = k h
stage-ends n (over p) next others k h = at-end n p (next ∷ others) h

turn-ends : (n : ℕ) (s : TextStage) (line next : List ℕ) (others : List (List ℕ)) (r : Result TextTurn LineReason)
    → text_turn s line ≡ r
    → ((t : TextStage) → (written_from (n + 1) t (next ∷ others)).bad ≡ false
    → EndsWithBoth t (lines_before_long (next ∷ others)) (written_from (n + 1) t (next ∷ others)).text)
    → (behind_turn n r (next ∷ others) (λ t. written_from (n + 1) t (next ∷ others))).bad ≡ false
    → EndsWithBoth s (line ∷ lines_before_long (next ∷ others))
    (behind_turn n r (next ∷ others) (λ t. written_from (n + 1) t (next ∷ others))).text
turn-ends n s line next others (Err why) e k h = absurd (cc)
turn-ends n s line next others (Ok t) e k h =
    more-written s t.stage (lines_before_long (next ∷ others)) line t.written
    (goes_on (n + 1) t.stage (next ∷ others) (written_from (n + 1) t.stage (next ∷ others))).text e
    (stage-ends (n + 1) t.stage next others (k t.stage) h)

line-ends : (n : ℕ) (s : TextStage) (line next : List ℕ) (others : List (List ℕ)) (b : Bool)
    → ((t : TextStage) → (written_from (n + 1) t (next ∷ others)).bad ≡ false
    → EndsWithBoth t (lines_before_long (next ∷ others)) (written_from (n + 1) t (next ∷ others)).text)
    → (cond b (refuses (n, reason.Long))
    (behind_turn n (text_turn s line) (next ∷ others) (λ t. written_from (n + 1) t (next ∷ others)))).bad ≡ false
    → EndsWithBoth s (cond b [] (line ∷ lines_before_long (next ∷ others)))
    (cond b (refuses (n, reason.Long))
    (behind_turn n (text_turn s line) (next ∷ others) (λ t. written_from (n + 1) t (next ∷ others)))).text
line-ends n s line next others true k h = absurd (cc)
line-ends n s line next others false k h = turn-ends n s line next others (text_turn s line) refl k h

pub whole-ends : (n : ℕ) (s : TextStage) (segs : List (List ℕ)) → (written_from n s segs).bad ≡ false
    → EndsWithBoth s (lines_before_long segs) (written_from n s segs).text
whole-ends n s [] h = absurd (cc)
whole-ends n s (tail ∷ []) h = absurd (cc)
whole-ends n s (line ∷ next ∷ others) h =
    line-ends n s line next others (is_long line) (λ t. whole-ends (n + 1) t (next ∷ others)) h

pub whole_texts_tell_worlds : JobsAreSound → WholeTextsTellWorlds
unfolding written
whole_texts_tell_worlds sound text h =
    let e = whole-ends 1 first (segments text) h in
    let b = texts_begin sound text e.ends e.comes in
    let w = run (at_start b.client b.job) b.on.schedule in
    let same : whole_ending e.ends ≡ world_ending w = rw (b.on.is_world.client, b.on.is_world.server) refl in
    record {
      client = b.client;
      job = b.job;
      schedule = b.on.schedule;
      start = b.start;
      is_schedule = b.on.is_schedule;
      before = e.before;
      text_is = e.text_is ∙ ap (λ x. e.before ++ x) same;
    }
