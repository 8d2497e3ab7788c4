-- What holds of the input over bytes that were taken, whatever comes behind them.
use Rattle.std.proofs.Common.{None, Some, Ok, Err, ◌≡◌, ◌≢◌, ◌<◌, ◌+◌, ℕ, true, false, inl, inr, List, [], ◌∷◌, ◌++◌}
use Rattle.std.proofs.Common.{sym, ap, subst, ◌∙◌, length, take, arith, length-take, append_assoc}
use Rattle.std.proofs.Common.{if◌then◌else◌}
use Rattle.std.proofs.lemmas.Bool.{cases_lt}
use Rattle.std.proofs.lemmas.List.{append_cancel_right, get_or-take}
use Rattle.std.proofs.KnownBytes.{Consumes-trans}
use Rattle.std.specs.declared.option.Option.{Option}
use Rattle.std.specs.declared.result.Result.{Result}
use Rattle.dm_base.specs.declared.outside.TakeError.{TakeError}
use Rattle.dm_base.specs.declared.outside.TakeError.TheVariants as take_error
use Rattle.dm_base.specs.declared.lines.LineOut.TheVariants as line_out
use Rattle.dm_base.specs.declared.lines.LineReason.{LineReason}
use Rattle.dm_base.specs.declared.lines.LineReason.TheVariants as reason
use Rattle.dm_base.specs.Lines.{LinesState, ReadsLine, CountsTaken, LeavesNoLine, IsFeedless, ahead, room}
use Rattle.dm_fields.specs.declared.errors.LineError.{LineError}
use Rattle.dm_fields.specs.declared.errors.LineError.TheVariants as line_error
use Rattle.dm_start.specs.declared.heads.Head.TheVariants.{First}
use Rattle.dm_start.specs.declared.telling.Phase.TheVariants as phase
use Rattle.dm_start.specs.Start.{Setup, Section, opening, telling, after_line, ReadsSection}
use Rattle.dm_replay.specs.declared.events.Event.{Event}
use Rattle.dm_replay.specs.declared.events.Event.TheVariants as event
use Rattle.dm_replay.specs.declared.reading.Halt.TheVariants as halt
use Rattle.dm_replay.specs.Input.{Input, input_of}
use Rattle.dm_replay.specs.Events.{event_of, is_end}
use Rattle.dm_replay.specs.Trace.{bad, stopped, began, no_events, event_line, events_from, start_from}
use Rattle.dm_replay.specs.Output.{begun_answers}
use Rattle.dm_replay.specs.From.{OverTaken, OfTaken, BeginsWithLine}
use Rattle.dm_replay.specs.From.{GoesOver, events_at, ending_at, begun_at, halt_after, halt_for}
use Rattle.dm_replay.proofs.Splits.{input_cut, input_past}
use Rattle.dm_replay.proofs.Fronts.{line_leads}
use Rattle.dm_replay.proofs.Sections.{section_more, section_whole}

-- ---- what holds over the bytes that were taken

pub over_then : (a b c : LinesState) (x y z : Option (List ℕ)) (P Q R : Input → Input → Type 0)
    → ((i j k : Input) → P i j → Q j k → R i k)
    → OverTaken a b x y P → OverTaken b c y z Q → OverTaken a c x z R
over_then a b c None y z P Q R both p q = tt
over_then a b c (Some xs) None z P Q R both p q = absurd p.1
over_then a b c (Some xs) (Some ys) z P Q R both p q = (
  p.0 ++ q.0,
  Consumes-trans (Some xs) (Some ys) z p.0 q.0 p.1 q.1,
  λ more. subst
      (λ l. R (input_of (room a) (a.pending ++ (a.past ++ l))) (input_of (room c) (c.pending ++ (c.past ++ more))))
      (sym (append_assoc p.0 q.0 more)) (both _ _ _ (p.2 (q.0 ++ more)) (q.2 more)),
)

pub over_ends : (a b : LinesState) (x y z : Option (List ℕ)) (P : Input → Input → Type 0) (Q R : Input → Type 0)
    → ((i j : Input) → P i j → Q j → R i)
    → OverTaken a b x y P → OfTaken b y z Q → OfTaken a x z R
over_ends a b None y z P Q R both p q = tt
over_ends a b (Some xs) None z P Q R both p q = absurd p.1
over_ends a b (Some xs) (Some ys) z P Q R both p q =
    (p.0 ++ q.0, Consumes-trans (Some xs) (Some ys) z p.0 q.0 p.1 q.1, both _ _ (p.2 q.0) q.2)

pub over_as : (a b : LinesState) (x y : Option (List ℕ)) (P Q : Input → Input → Type 0)
    → ((i j : Input) → P i j → Q i j) → OverTaken a b x y P → OverTaken a b x y Q
over_as a b None y P Q step p = tt
over_as a b (Some xs) y P Q step p = (p.0, p.1, λ more. step _ _ (p.2 more))

-- what was taken behind it says nothing more
pub over_counted : (a b : LinesState) (x y z : Option (List ℕ)) (before now : ℕ) (P : Input → Input → Type 0)
    (R : Input → Type 0) → ((i j : Input) → P i j → R i)
    → OverTaken a b x y P → CountsTaken y z before now → OfTaken a x z R
over_counted a b None y z before now P R step p q = tt
over_counted a b (Some xs) None z before now P R step p q = absurd p.1
over_counted a b (Some xs) (Some ys) z before now P R step p q =
    (p.0 ++ q.0, Consumes-trans (Some xs) (Some ys) z p.0 q.0 p.1 q.1, step _ _ (p.2 q.0))

pub of_taken : (a : LinesState) (x z : Option (List ℕ)) (Q R : Input → Type 0) → ((i : Input) → Q i → R i)
    → OfTaken a x z Q → OfTaken a x z R
of_taken a None z Q R step q = tt
of_taken a (Some xs) z Q R step q = (q.0, q.1, step _ q.2)

-- ---- a line

-- what was pending and what was taken are the line and what is pending then
pub line_over : (a b : LinesState) (x y : Option (List ℕ)) (line : List ℕ)
    → ReadsLine (room a) (ahead a x) (ahead b y) line (Ok line_out.Line)
    → CountsTaken x y a.taken b.taken → room b + (length line + 1) ≡ room a
    → OverTaken a b x y (λ i j. BeginsWithLine line i j)
line_over a b None y line read taken less = tt
line_over a b (Some xs) None line read taken less = absurd taken.1
line_over a b (Some xs) (Some ys) line read taken less = (
  taken.0,
  taken.1,
  λ more. line_leads (Some (a.pending ++ (a.past ++ (taken.0 ++ more)))) (Some (b.pending ++ (b.past ++ more)))
      (room a) (room b) line (read.0, read.1, read.2, same more) less,
)
  where
    both : (p q t l : List ℕ) → p ++ (q ++ (t ++ l)) ≡ (p ++ (q ++ t)) ++ l
    both p q t l = ap (λ s. p ++ s) (sym (append_assoc q t l)) ∙ sym (append_assoc p (q ++ t) l)

    fronts : a.pending ++ (a.past ++ taken.0) ≡ (line ++ 10 ∷ []) ++ (b.pending ++ b.past)
    fronts =
        append_cancel_right _ _ ys
        (sym (both a.pending a.past taken.0 ys) ∙ ap (λ l. a.pending ++ (a.past ++ l)) (sym taken.1) ∙ read.3
        ∙ ap (λ l. (line ++ 10 ∷ []) ++ l) (sym (append_assoc b.pending b.past ys))
        ∙ sym (append_assoc (line ++ 10 ∷ []) (b.pending ++ b.past) ys))

    same : (more : List ℕ) → a.pending ++ (a.past ++ (taken.0 ++ more))
        ≡ (line ++ 10 ∷ []) ++ (b.pending ++ (b.past ++ more))
    same more =
        both a.pending a.past taken.0 more ∙ ap (λ l. l ++ more) fronts
        ∙ append_assoc (line ++ 10 ∷ []) (b.pending ++ b.past) more
        ∙ ap (λ l. (line ++ 10 ∷ []) ++ l) (append_assoc b.pending b.past more)

feedless_take : (n : ℕ) (xs : List ℕ) → IsFeedless xs → IsFeedless (take n xs)
feedless_take n xs none k low feed =
    let e = length-take n xs in
    let below : k < n = omega (arith, e, low) in
    none k (omega (arith, e, low)) (sym (get_or-take n xs k 0 below) ∙ feed)

no_lines : (r : ℕ) (xs : List ℕ) → IsFeedless xs → (input_of r xs).lines ≡ []
no_lines r xs none =
    elim (cases_lt r (length xs)) [
      | inl less ↦ ap (λ (i : Input). i.lines) (input_past r xs (feedless_take r xs none) less)
      | inr more ↦ ap (λ (i : Input). i.lines) (input_cut r xs none more)
    ]

-- where the source failed, no line is whole in what was pending and what was taken
pub none_whole : (a b : LinesState) (x y : Option (List ℕ)) (error : TakeError)
    → ReadsLine (room a) (ahead a x) (ahead b y) b.line (Err error) → CountsTaken x y a.taken b.taken
    → LeavesNoLine (b.pending ++ b.past) (Err error)
    → halt_after error ≡ halt.Read → OfTaken a x y (λ i. i.lines ≡ [])
none_whole a b x y take_error.TooLong read taken none is = cc
none_whole a b x y take_error.Memory read taken none is = cc
none_whole a b None y take_error.Read read taken none is = tt
none_whole a b (Some xs) None take_error.Read read taken none is = absurd taken.1
none_whole a b (Some xs) (Some ys) take_error.Read read taken none is =
    (taken.0, taken.1, no_lines (room a) _ (subst IsFeedless same none.0))
  where
    same : b.pending ++ b.past ≡ a.pending ++ (a.past ++ taken.0)
    same =
        append_cancel_right _ _ ys
        (append_assoc b.pending b.past ys ∙ read
        ∙ ap (λ l. a.pending ++ (a.past ++ l)) taken.1
        ∙ ap (λ l. a.pending ++ l) (sym (append_assoc a.past taken.0 ys))
        ∙ sym (append_assoc a.pending (a.past ++ taken.0) ys))

-- ---- the start section

no_start : (n : ℕ) (s : Section) (i : Input) → i.lines ≡ [] → begun_answers (begun_at n s i) ≡ []
no_start n s i none = ap (λ lines. begun_answers (start_from n s lines i.tail i.more)) none

-- a line that isn't taken is no fault of the source
pub line_is_no_fault : (n : ℕ) (error : LineError) → halt_for n error ≢ halt.Read
line_is_no_fault n (line_error.Bad why) is = cc
line_is_no_fault n line_error.Memory is = cc

-- the section from a line on is the one behind it, whatever comes behind what was taken
abbrev pub SectionOver : LinesState → LinesState → Option (List ℕ) → Option (List ℕ) → ℕ → Section → Type 0
SectionOver a b left rest n s = OverTaken a b left rest (λ i j. begun_at 1 (opening First) i ≡ begun_at n s j)

pub section_goes : (a b c : LinesState) (x y z : Option (List ℕ)) (n : ℕ) (at next : Section) (line looked : List ℕ)
    → looked ≡ line → ReadsSection (after_line at looked) at next (Ok false)
    → SectionOver a b x y n at → OverTaken b c y z (λ i j. BeginsWithLine line i j) → SectionOver a c x z (n + 1) next
section_goes a b c x y z n at next line looked is read before leads =
    over_then a b c x y z (λ i j. begun_at 1 (opening First) i ≡ begun_at n at j) (λ i j. BeginsWithLine line i j)
    (λ i j. begun_at 1 (opening First) i ≡ begun_at (n + 1) next j)
    (λ i j k p q. section_more (Some i) (Some j) (Some k) n at next line looked is read p q) before leads

pub section_comes : (a b c : LinesState) (x y z : Option (List ℕ)) (n : ℕ) (at next : Section) (told : Setup)
    (line looked : List ℕ) → looked ≡ line → ReadsSection (after_line at looked) at next (Ok true)
    → next ≡ telling phase.Begun told
    → SectionOver a b x y n at → OverTaken b c y z (λ i j. BeginsWithLine line i j)
    → OverTaken a c x z (λ i j. begun_at 1 (opening First) i ≡ began (n + 1) told j)
section_comes a b c x y z n at next told line looked is read last before leads =
    over_then a b c x y z (λ i j. begun_at 1 (opening First) i ≡ begun_at n at j) (λ i j. BeginsWithLine line i j)
    (λ i j. begun_at 1 (opening First) i ≡ began (n + 1) told j)
    (λ i j k p q. section_whole (Some i) (Some j) (Some k) n at next told line looked is read last p q) before leads

pub section_fails : (a b : LinesState) (x y z : Option (List ℕ)) (n : ℕ) (s : Section)
    → SectionOver a b x y n s → OfTaken b y z (λ i. i.lines ≡ [])
    → OfTaken a x z (λ i. begun_answers (begun_at 1 (opening First) i) ≡ [])
section_fails a b x y z n s before none =
    over_ends a b x y z (λ i j. begun_at 1 (opening First) i ≡ begun_at n s j) (λ i. i.lines ≡ [])
    (λ i. begun_answers (begun_at 1 (opening First) i) ≡ []) (λ i j p q. ap begun_answers p ∙ no_start n s j q)
    before none

-- ---- the next event

no_event : (version : ℕ) (ids : List (List ℕ)) (n : ℕ) (i : Input) → i.lines ≡ []
    → (events_at version ids n i).events ≡ []
no_event version ids n i none = ap (λ lines. (events_from version ids n lines i.tail i.more).events) none

said_next : (version : ℕ) (ids : List (List ℕ)) (n : ℕ) (line looked : List ℕ) (said : Event) (i j : Input)
    → looked ≡ line → event_of version ids looked ≡ Ok said → BeginsWithLine line i j
    → events_at version ids n i ≡ event_line n (Ok said) (ending_at (n + 1) j) (events_at version ids (n + 1) j)
said_next version ids n line looked said i j is read leads =
    ap (events_at version ids n) leads.0
    ∙ ap (λ c. if c then no_events (stopped (bad n reason.Long)) else event_line n (event_of version ids line)
    (ending_at (n + 1) j) (events_at version ids (n + 1) j)) leads.1
    ∙ ap (λ (r : Result Event LineReason). event_line n r (ending_at (n + 1) j) (events_at version ids (n + 1) j))
    (ap (event_of version ids) (sym is) ∙ read)

said_over : (a b : LinesState) (x y : Option (List ℕ)) (version : ℕ) (ids : List (List ℕ)) (n : ℕ)
    (line looked : List ℕ) (said : Event) → looked ≡ line → event_of version ids looked ≡ Ok said
    → OverTaken a b x y (λ i j. BeginsWithLine line i j)
    → OverTaken a b x y (λ i j. events_at version ids n i
    ≡ event_line n (Ok said) (ending_at (n + 1) j) (events_at version ids (n + 1) j))
said_over a b x y version ids n line looked said is read leads =
    over_as a b x y (λ i j. BeginsWithLine line i j) (λ i j. events_at version ids n i
    ≡ event_line n (Ok said) (ending_at (n + 1) j) (events_at version ids (n + 1) j))
    (λ i j p. said_next version ids n line looked said i j is read p) leads

pub event_over : (a b : LinesState) (x y : Option (List ℕ)) (version : ℕ) (ids : List (List ℕ)) (n : ℕ)
    (line looked : List ℕ) (said : Event) → looked ≡ line → event_of version ids looked ≡ Ok said
    → is_end said ≡ false → OverTaken a b x y (λ i j. BeginsWithLine line i j)
    → GoesOver a b x y version ids n (Ok (Some said))
event_over a b x y version ids n line looked (event.Open account kind session) is read other leads =
    said_over a b x y version ids n line looked _ is read leads
event_over a b x y version ids n line looked (event.Msg nonce bytes) is read other leads =
    said_over a b x y version ids n line looked _ is read leads
event_over a b x y version ids n line looked event.Loss is read other leads =
    said_over a b x y version ids n line looked _ is read leads
event_over a b x y version ids n line looked (event.Act ok) is read other leads =
    said_over a b x y version ids n line looked _ is read leads
event_over a b x y version ids n line looked (event.Clock stamp) is read other leads =
    said_over a b x y version ids n line looked _ is read leads
event_over a b x y version ids n line looked event.End is read other leads = cc

pub end_over : (a b : LinesState) (x y : Option (List ℕ)) (version : ℕ) (ids : List (List ℕ)) (n : ℕ)
    (line looked : List ℕ) (said : Event) → looked ≡ line → event_of version ids looked ≡ Ok said
    → is_end said ≡ true → OverTaken a b x y (λ i j. BeginsWithLine line i j) → GoesOver a b x y version ids n (Ok None)
end_over a b x y version ids n line looked event.End is read last leads =
    said_over a b x y version ids n line looked event.End is read leads
end_over a b x y version ids n line looked (event.Open account kind session) is read last leads = cc
end_over a b x y version ids n line looked (event.Msg nonce bytes) is read last leads = cc
end_over a b x y version ids n line looked event.Loss is read last leads = cc
end_over a b x y version ids n line looked (event.Act ok) is read last leads = cc
end_over a b x y version ids n line looked (event.Clock stamp) is read last leads = cc

pub event_fails : (a : LinesState) (x y : Option (List ℕ)) (version : ℕ) (ids : List (List ℕ)) (n : ℕ)
    → OfTaken a x y (λ i. i.lines ≡ []) → OfTaken a x y (λ i. (events_at version ids n i).events ≡ [])
event_fails a x y version ids n none =
    of_taken a x y (λ i. i.lines ≡ []) (λ i. (events_at version ids n i).events ≡ [])
    (λ i q. no_event version ids n i q) none
