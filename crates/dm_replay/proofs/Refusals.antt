-- A line that is refused stops a run, and the first of them is what stops it.
use Rattle.std.proofs.Common.{suc, None, Some, Ok, Err, ◌≡◌, ◌≢◌, ◌<◌, ◌+◌, ◌==◌, ℕ, Bool, true, false, List, []}
use Rattle.std.proofs.Common.{◌∷◌, ◌++◌, refl, sym, ap, subst, ◌∙◌, length, take, arith, if◌then◌else◌, nat_lt}
use Rattle.std.proofs.Common.{inl, inr, append_assoc, append-nil, length-append}
use Rattle.std.proofs.lemmas.Bool.{ne_eqb}
use Rattle.std.specs.Prelude.{◌⊎◌, Option, Result}
use Rattle.dm_base.specs.Lines.{IsFeedless}
use Rattle.dm_base.specs.declared.lines.LineReason.{LineReason}
use Rattle.dm_base.specs.declared.lines.LineReason.TheVariants as reason
use Rattle.dm_machine.specs.Events.{Event as Happening}
use Rattle.dm_start.specs.declared.heads.Head.TheVariants.{First}
use Rattle.dm_start.specs.Start.{Setup, Section, opening, after_line}
use Rattle.dm_replay.specs.declared.events.Event.{Event}
use Rattle.dm_replay.specs.Input.{Input, Split, split, with_byte}
use Rattle.dm_replay.specs.Events.{event_of, happening_of}
use Rattle.dm_replay.specs.Trace.{Stop, bad, too_long, Ending, whole, stopped, Trace, Begun, unbegun, is_long}
use Rattle.dm_replay.specs.Trace.{tail_stop}
use Rattle.dm_replay.specs.Trace.{told_in, behind_begin, start_line, start_from, no_events, behind_said, event_line}
use Rattle.dm_replay.specs.Trace.{ending_behind, end_from, events_from, servers_of}
use Rattle.dm_replay.specs.Laws.{IsLine, AreLines, text_of}
use Rattle.dm_replay.specs.Refused.{Reached, in_start, among, behind_end, start_reaches, by_section, event_reaches}
use Rattle.dm_replay.specs.Refused.{by_event, reached_by, then_reached, lines_reach_from, BeginsLong, BeginsWith}
use Rattle.dm_replay.specs.Refused.{IsRefusedLine, IsExtra, IsRefusedNext, ending_stop}
use Rattle.dm_replay.specs.Refused.{begun_stop, RefusalsAreFirst, RefusalsAreTold}
use Rattle.dm_replay.proofs.Splits.{split_line, split_lead, split_tail, is_lt, not_lt, with_line}
use Rattle.dm_replay.proofs.Back.{AreShort, AreFeedless, is_short, joined, feedless, no_feed, nothing_feedless}

-- where a run stops that has come so far, by the lines from line n on
abbrev pub stop_from : ℕ → Reached → List (List ℕ) → List ℕ → Bool → Option Stop
stop_from n (in_start s) lines tail more = begun_stop (start_from n s lines tail more)
stop_from n (among told) lines tail more =
    ending_stop (events_from told.version (servers_of told.accounts) n lines tail more).ending
stop_from n behind_end lines tail more = ending_stop (end_from n lines tail more)

-- ---- values

abbrev pub reached_value : Reached → Result Reached LineReason → Reached
reached_value r (Ok x) = x
reached_value r (Err why) = r

abbrev pub taken_as : Reached → Result Reached LineReason
taken_as r = Ok r

ok_same : (a b : Reached) → taken_as a ≡ taken_as b → a ≡ b
ok_same a b h = ap (reached_value a) h

abbrev pub why_value : LineReason → Result Reached LineReason → LineReason
why_value w (Ok x) = w
why_value w (Err why) = why

abbrev pub refused_as : LineReason → Result Reached LineReason
refused_as why = Err why

err_same : (a b : LineReason) → refused_as a ≡ refused_as b → a ≡ b
err_same a b h = ap (why_value a) h

abbrev pub line_value : Option Stop → ℕ
line_value (Some (bad n why)) = n
line_value other = 0

abbrev pub reason_value : LineReason → Option Stop → LineReason
reason_value w (Some (bad n why)) = why
reason_value w other = w

same_line : (n m : ℕ) (v w : LineReason) → Some (bad n v) ≡ Some (bad m w) → m ≡ n
same_line n m v w h = ap line_value (sym h)

same_reason : (n m : ℕ) (v w : LineReason) → Some (bad n v) ≡ Some (bad m w) → w ≡ v
same_reason n m v w h = ap (reason_value v) (sym h)

-- ---- one line

told_taken : (o : Option Setup) (n : ℕ) (s : Section) (lines : List (List ℕ)) (tail : List ℕ) (more : Bool)
    → begun_stop (behind_begin n o (record { lines = lines; tail = tail; more = more })
    (start_from (n + 1) s lines tail more))
    ≡ stop_from (n + 1) (start_reaches s o) lines tail more
told_taken None n s lines tail more = refl
told_taken (Some told) n s lines tail more = refl

section_taken : (r : Result Section LineReason) (n : ℕ) (next : Reached) (lines : List (List ℕ)) (tail : List ℕ)
    (more : Bool) → by_section r ≡ Ok next
    → begun_stop (start_line n r (record { lines = lines; tail = tail; more = more })
    (λ p. start_from (n + 1) p lines tail more)) ≡ stop_from (n + 1) next lines tail more
section_taken (Ok s) n next lines tail more h =
    told_taken (told_in s) n s lines tail more
    ∙ ap (λ r. stop_from (n + 1) r lines tail more) (ok_same (start_reaches s (told_in s)) next h)
section_taken (Err why) n next lines tail more h = cc

event_taken : (o : Option Happening) (told : Setup) (n : ℕ) (lines : List (List ℕ)) (tail : List ℕ) (more : Bool)
    → ending_stop (behind_said o (end_from (n + 1) lines tail more)
    (events_from told.version (servers_of told.accounts) (n + 1) lines tail more)).ending
    ≡ stop_from (n + 1) (event_reaches told o) lines tail more
event_taken None told n lines tail more = refl
event_taken (Some e) told n lines tail more = refl

said_taken : (r : Result Event LineReason) (told : Setup) (n : ℕ) (next : Reached) (lines : List (List ℕ))
    (tail : List ℕ) (more : Bool) → by_event told r ≡ Ok next
    → ending_stop (event_line n r (end_from (n + 1) lines tail more)
    (events_from told.version (servers_of told.accounts) (n + 1) lines tail more)).ending
    ≡ stop_from (n + 1) next lines tail more
said_taken (Ok said) told n next lines tail more h =
    event_taken (happening_of said) told n lines tail more
    ∙ ap (λ r. stop_from (n + 1) r lines tail more) (ok_same (event_reaches told (happening_of said)) next h)
said_taken (Err why) told n next lines tail more h = cc

-- a line that is taken leaves the stop to those behind it
line_taken : (r next : Reached) (n : ℕ) (line : List ℕ) (lines : List (List ℕ)) (tail : List ℕ) (more : Bool)
    → is_long line ≡ false → reached_by r line ≡ Ok next
    → stop_from n r (line ∷ lines) tail more ≡ stop_from (n + 1) next lines tail more
line_taken (in_start s) next n line lines tail more short h =
    ap (λ c. begun_stop (if c then unbegun (bad n reason.Long) else start_line n (after_line s line)
    (record { lines = lines; tail = tail; more = more }) (λ p. start_from (n + 1) p lines tail more))) short
    ∙ section_taken (after_line s line) n next lines tail more h
line_taken (among told) next n line lines tail more short h =
    ap (λ c. ending_stop (if c then no_events (stopped (bad n reason.Long))
    else event_line n (event_of told.version (servers_of told.accounts) line) (end_from (n + 1) lines tail more)
    (events_from told.version (servers_of told.accounts) (n + 1) lines tail more)).ending) short
    ∙ said_taken (event_of told.version (servers_of told.accounts) line) told n next lines tail more h
line_taken behind_end next n line lines tail more short h = cc

section_refused : (r : Result Section LineReason) (n : ℕ) (why : LineReason) (i : Input) (rest : Section → Begun)
    → by_section r ≡ Err why → begun_stop (start_line n r i rest) ≡ Some (bad n why)
section_refused (Ok s) n why i rest h = cc
section_refused (Err w) n why i rest h = ap (λ x. Some (bad n x)) (err_same w why h)

said_refused : (r : Result Event LineReason) (told : Setup) (n : ℕ) (why : LineReason) (e : Ending) (t : Trace)
    → by_event told r ≡ Err why → ending_stop (event_line n r e t).ending ≡ Some (bad n why)
said_refused (Ok said) told n why e t h = cc
said_refused (Err w) told n why e t h = ap (λ x. Some (bad n x)) (err_same w why h)

-- a line that is refused is where a run stops
line_refused : (r : Reached) (n : ℕ) (why : LineReason) (line : List ℕ) (lines : List (List ℕ)) (tail : List ℕ)
    (more : Bool) → is_long line ≡ false → reached_by r line ≡ Err why
    → stop_from n r (line ∷ lines) tail more ≡ Some (bad n why)
line_refused (in_start s) n why line lines tail more short h =
    ap (λ c. begun_stop (if c then unbegun (bad n reason.Long) else start_line n (after_line s line)
    (record { lines = lines; tail = tail; more = more }) (λ p. start_from (n + 1) p lines tail more))) short
    ∙ section_refused (after_line s line) n why (record { lines = lines; tail = tail; more = more })
    (λ p. start_from (n + 1) p lines tail more) h
line_refused (among told) n why line lines tail more short h =
    ap (λ c. ending_stop (if c then no_events (stopped (bad n reason.Long))
    else event_line n (event_of told.version (servers_of told.accounts) line) (end_from (n + 1) lines tail more)
    (events_from told.version (servers_of told.accounts) (n + 1) lines tail more)).ending) short
    ∙ said_refused (event_of told.version (servers_of told.accounts) line) told n why (end_from (n + 1) lines tail more)
    (events_from told.version (servers_of told.accounts) (n + 1) lines tail more) h
line_refused behind_end n why line lines tail more short h = ap (λ x. Some (bad n x)) (err_same reason.Extra why h)

-- ---- the lines before

behind_one : (n k : ℕ) → n + 1 + k ≡ n + suc k
behind_one n k = omega arith

from_here : (n : ℕ) → n ≡ n + 0
from_here n = omega arith

not_long : (line : List ℕ) → IsLine line → is_long line ≡ false
not_long line h = not_lt 8400000 (length line) h.1

more_taken : (x : Result Reached LineReason) (r next : Reached) (n : ℕ) (line : List ℕ)
    (before behind : List (List ℕ)) (tail : List ℕ) (more : Bool) → IsLine line → reached_by r line ≡ x
    → ((mid : Reached) → lines_reach_from mid before ≡ Ok next
    → stop_from (n + 1) mid (before ++ behind) tail more ≡ stop_from (n + 1 + length before) next behind tail more)
    → then_reached x (λ mid. lines_reach_from mid before) ≡ Ok next
    → stop_from n r (line ∷ (before ++ behind)) tail more ≡ stop_from (n + suc (length before)) next behind tail more
more_taken (Ok mid) r next n line before behind tail more is_line is rec h =
    line_taken r mid n line (before ++ behind) tail more (not_long line is_line) is ∙ rec mid h
    ∙ ap (λ m. stop_from m next behind tail more) (behind_one n (length before))
more_taken (Err why) r next n line before behind tail more is_line is rec h = cc

lines_taken : (before behind : List (List ℕ)) (r next : Reached) (n : ℕ) (tail : List ℕ) (more : Bool)
    → AreLines before → lines_reach_from r before ≡ Ok next
    → stop_from n r (before ++ behind) tail more ≡ stop_from (n + length before) next behind tail more
lines_taken [] behind r next n tail more are h =
    ap (λ x. stop_from n x behind tail more) (ok_same r next h)
    ∙ ap (λ m. stop_from m next behind tail more) (from_here n)
lines_taken (line ∷ before) behind r next n tail more are h =
    more_taken (reached_by r line) r next n line before behind tail more are.0 refl
    (λ mid g. lines_taken before behind mid next (n + 1) tail more are.1 g) h

-- ---- what stands behind them

-- the start section or the events
abbrev pub IsBefore : Reached → Type 0
IsBefore (in_start s) = Unit {0}
IsBefore (among told) = Unit {0}
IsBefore behind_end = ⊥

stop_of_tail : (r : Reached) (n : ℕ) (tail : List ℕ) (more : Bool) → IsBefore r
    → stop_from n r [] tail more ≡ Some (tail_stop n tail more)
stop_of_tail (in_start s) n tail more is = refl
stop_of_tail (among told) n tail more is = refl
stop_of_tail behind_end n tail more is = absurd is

stop_of_long : (r : Reached) (n : ℕ) (line : List ℕ) (lines : List (List ℕ)) (tail : List ℕ) (more : Bool)
    → IsBefore r → is_long line ≡ true → stop_from n r (line ∷ lines) tail more ≡ Some (bad n reason.Long)
stop_of_long (in_start s) n line lines tail more is long =
    ap (λ c. begun_stop (if c then unbegun (bad n reason.Long) else start_line n (after_line s line)
    (record { lines = lines; tail = tail; more = more }) (λ p. start_from (n + 1) p lines tail more))) long
stop_of_long (among told) n line lines tail more is long =
    ap (λ c. ending_stop (if c then no_events (stopped (bad n reason.Long))
    else event_line n (event_of told.version (servers_of told.accounts) line) (end_from (n + 1) lines tail more)
    (events_from told.version (servers_of told.accounts) (n + 1) lines tail more)).ending) long
stop_of_long behind_end n line lines tail more is long = absurd is

tail_is : (c d : Bool) (n : ℕ) (tail : List ℕ) (more : Bool) → is_long tail ≡ c → more ≡ d
    → tail_stop n tail more ≡ (if c then bad n reason.Long else if d then too_long else bad n reason.Cut)
tail_is c d n tail more is comes =
    ap (λ x. if x then bad n reason.Long else if more then too_long else bad n reason.Cut) is
    ∙ ap (λ y. if c then bad n reason.Long else if y then too_long else bad n reason.Cut) comes

longer : (line more : List ℕ) → 8400000 < length line → is_long (line ++ more) ≡ true
longer line more h =
    let all = length-append line more in is_lt 8400000 (length (line ++ more)) (omega (arith, h, all))

long_led : (r : Reached) (n : ℕ) (line : List ℕ) (lines : List (List ℕ)) (tail : List ℕ) (more : Bool) → IsBefore r
    → 8400000 < length line
    → stop_from n r (with_line line lines tail).lines (with_line line lines tail).tail more
    ≡ Some (bad n reason.Long)
long_led r n line [] tail more is long =
    stop_of_tail r n (line ++ tail) more is
    ∙ ap Some (tail_is true more n (line ++ tail) more (longer line tail long) refl)
long_led r n line (first ∷ lines) tail more is long =
    stop_of_long r n (line ++ first) lines tail more is (longer line first long)

extra_led : (n : ℕ) (line : List ℕ) (lines : List (List ℕ)) (tail : List ℕ) (more : Bool) → 8400000 < length line
    → stop_from n behind_end (with_line line lines tail).lines (with_line line lines tail).tail more
    ≡ Some (bad n reason.Extra)
extra_led n line [] tail more long =
    ap (λ c. ending_stop (if c then stopped (bad n reason.Extra) else if more then stopped too_long
    else if length (line ++ tail) == 0 then whole else stopped (bad n reason.Extra))) (longer line tail long)
extra_led n line (first ∷ lines) tail more long = refl

-- the stop of a rest that splits so
split_stop : (r : Reached) (n : ℕ) (rest : List ℕ) (s : Split) (more : Bool) (stop : Option Stop) → split rest ≡ s
    → stop_from n r s.lines s.tail more ≡ stop
    → stop_from n r (split rest).lines (split rest).tail more ≡ stop
split_stop r n rest s more stop is h = ap (λ (x : Split). stop_from n r x.lines x.tail more) is ∙ h

line_stops : (r : Reached) (n : ℕ) (rest : List ℕ) (more : Bool) (why : LineReason) → IsBefore r
    → IsRefusedLine r rest more why
    → stop_from n r (split rest).lines (split rest).tail more ≡ Some (bad n why)
line_stops r n rest more why is h = elim h [
  | inl long ↦
      let l = long.0 in
      split_stop r n rest (with_line l.0 (split l.1).lines (split l.1).tail) more (Some (bad n why))
      (ap split l.2 ∙ split_lead l.0 l.1 l.3)
      (long_led r n l.0 (split l.1).lines (split l.1).tail more is l.4 ∙ ap (λ w. Some (bad n w)) (sym long.1))
  | inr others ↦ elim others [
    | inl cut ↦
        split_stop r n rest (record { lines = []; tail = rest }) more (Some (bad n why)) (split_tail rest cut.0.0)
        (stop_of_tail r n rest more is
        ∙ ap Some (tail_is false false n rest more (not_lt 8400000 (length rest) cut.0.1) cut.0.2)
        ∙ ap (λ w. Some (bad n w)) (sym cut.1))
    | inr line ↦
        let b = line.1 in
        split_stop r n rest (record { lines = line.0 ∷ (split b.0).lines; tail = (split b.0).tail }) more
        (Some (bad n why)) (ap split b.1 ∙ split_line line.0 b.0 b.2.0)
        (line_refused r n why line.0 (split b.0).lines (split b.0).tail more (not_long line.0 b.2) line.2)
  ]
]

end_is : (d : Bool) (n : ℕ) (tail : List ℕ) (more : Bool) → is_long tail ≡ false → more ≡ false
    → (length tail == 0) ≡ d → ending_behind n tail more ≡ (if d then whole else stopped (bad n reason.Extra))
end_is d n tail more short none is =
    ap (λ c. if c then stopped (bad n reason.Extra) else if more then stopped too_long
    else if length tail == 0 then whole else stopped (bad n reason.Extra)) short
    ∙ ap (λ c. if c then stopped too_long else if length tail == 0 then whole else stopped (bad n reason.Extra)) none
    ∙ ap (λ c. if c then whole else stopped (bad n reason.Extra)) is

some_there : (tail : List ℕ) → tail ≢ [] → (length tail == 0) ≡ false
some_there [] h = absurd (h refl)
some_there (x ∷ xs) h = ne_eqb (length (x ∷ xs)) 0 (λ is. omega (arith, is))

extra_stops : (n : ℕ) (rest : List ℕ) (more : Bool) → IsExtra rest more
    → stop_from n behind_end (split rest).lines (split rest).tail more ≡ Some (bad n reason.Extra)
extra_stops n rest more h = elim h [
  | inl l ↦
      split_stop behind_end n rest (with_line l.0 (split l.1).lines (split l.1).tail) more
      (Some (bad n reason.Extra)) (ap split l.2 ∙ split_lead l.0 l.1 l.3)
      (extra_led n l.0 (split l.1).lines (split l.1).tail more l.4)
  | inr others ↦ elim others [
    | inl cut ↦
        split_stop behind_end n rest (record { lines = []; tail = rest }) more (Some (bad n reason.Extra))
        (split_tail rest cut.0.0)
        (ap ending_stop (end_is false n rest more (not_lt 8400000 (length rest) cut.0.1) cut.0.2
        (some_there rest cut.1)))
    | inr line ↦
        let b = line.1 in
        split_stop behind_end n rest (record { lines = line.0 ∷ (split b.0).lines; tail = (split b.0).tail }) more
        (Some (bad n reason.Extra)) (ap split b.1 ∙ split_line line.0 b.0 b.2.0) refl
  ]
]

rest_stops : (r : Reached) (n : ℕ) (rest : List ℕ) (more : Bool) (why : LineReason) → IsRefusedNext r rest more why
    → stop_from n r (split rest).lines (split rest).tail more ≡ Some (bad n why)
rest_stops (in_start s) n rest more why h = line_stops (in_start s) n rest more why tt h
rest_stops (among told) n rest more why h = line_stops (among told) n rest more why tt h
rest_stops behind_end n rest more why h = extra_stops n rest more h.0 ∙ ap (λ w. Some (bad n w)) (sym h.1)

-- ---- a refusal is told

split_behind : (before : List (List ℕ)) (rest : List ℕ) → AreLines before
    → split (text_of before ++ rest) ≡ record { lines = before ++ (split rest).lines; tail = (split rest).tail }
split_behind [] rest are = refl
split_behind (line ∷ before) rest are =
    ap split (append_assoc line (10 ∷ text_of before) rest) ∙ split_line line (text_of before ++ rest) are.0.0
    ∙ ap (λ (s : Split). record { lines = line ∷ s.lines; tail = s.tail }) (split_behind before rest are.1)

pub refusals_are_told : RefusalsAreTold
refusals_are_told bytes n why h =
    let more = nat_lt 67108864 (length bytes) in
    ap (λ xs. stop_from 1 (in_start (opening First)) (split xs).lines (split xs).tail more) h.are
    ∙ ap (λ (s : Split). stop_from 1 (in_start (opening First)) s.lines s.tail more)
    (split_behind h.before h.rest h.lines)
    ∙ lines_taken h.before (split h.rest).lines (in_start (opening First)) h.reached 1 (split h.rest).tail more h.lines
    h.taken
    ∙ rest_stops h.reached (1 + length h.before) h.rest more why h.refused
    ∙ ap (λ m. Some (bad m why)) (sym h.number)

-- ---- what stops a run is a refusal

-- what is refused at the front of these lines and the tail behind them
abbrev pub FrontLine : Reached → List ℕ → LineReason → Type 0
FrontLine r line why =
    ((is_long line ≡ true) × (why ≡ reason.Long)) ⊎ ((is_long line ≡ false) × (reached_by r line ≡ Err why))

abbrev pub FrontTail : List ℕ → Bool → LineReason → Type 0
FrontTail tail more why =
    ((is_long tail ≡ true) × (why ≡ reason.Long)) ⊎ ((is_long tail ≡ false) × (more ≡ false) × (why ≡ reason.Cut))

abbrev pub EndTail : List ℕ → Bool → Type 0
EndTail tail more = (is_long tail ≡ true) ⊎ ((is_long tail ≡ false) × (more ≡ false) × (tail ≢ []))

abbrev pub Front : Reached → List (List ℕ) → List ℕ → Bool → LineReason → Type 0
Front behind_end (line ∷ lines) tail more why = why ≡ reason.Extra
Front behind_end [] tail more why = EndTail tail more × (why ≡ reason.Extra)
Front (in_start s) (line ∷ lines) tail more why = FrontLine (in_start s) line why
Front (in_start s) [] tail more why = FrontTail tail more why
Front (among told) (line ∷ lines) tail more why = FrontLine (among told) line why
Front (among told) [] tail more why = FrontTail tail more why

pub record Found (r : Reached) (n : ℕ) (lines : List (List ℕ)) (tail : List ℕ) (more : Bool) (m : ℕ)
    (why : LineReason) : Type 0 where
  pub before : List (List ℕ)
  pub behind : List (List ℕ)
  pub are : lines ≡ before ++ behind
  pub short : AreShort before
  pub number : m ≡ n + length before
  pub reached : Reached
  pub taken : lines_reach_from r before ≡ Ok reached
  pub front : Front reached behind tail more why

here : (r : Reached) (n : ℕ) (lines : List (List ℕ)) (tail : List ℕ) (more : Bool) (m : ℕ) (why : LineReason)
    → m ≡ n → Front r lines tail more why → Found r n lines tail more m why
here r n lines tail more m why is front = record {
  before = [];
  behind = lines;
  are = refl;
  short = tt;
  number = is ∙ from_here n;
  reached = r;
  taken = refl;
  front = front;
}

tail_found : (c d : Bool) (n m : ℕ) (tail : List ℕ) (more : Bool) (why : LineReason) → is_long tail ≡ c → more ≡ d
    → Some (if c then bad n reason.Long else if d then too_long else bad n reason.Cut) ≡ Some (bad m why)
    → (m ≡ n) × FrontTail tail more why
tail_found true d n m tail more why is comes h =
    (same_line n m reason.Long why h, inl (is, same_reason n m reason.Long why h))
tail_found false false n m tail more why is comes h =
    (same_line n m reason.Cut why h, inr (is, comes, same_reason n m reason.Cut why h))
tail_found false true n m tail more why is comes h = cc

tail_front : (n m : ℕ) (tail : List ℕ) (more : Bool) (why : LineReason)
    → Some (tail_stop n tail more) ≡ Some (bad m why) → (m ≡ n) × FrontTail tail more why
tail_front n m tail more why h = tail_found (is_long tail) more n m tail more why refl refl h

some_left : (tail : List ℕ) → (length tail == 0) ≡ false → tail ≢ []
some_left tail h is = let no = sym h ∙ ap (λ l. length l == 0) is in cc

end_found : (c d e : Bool) (n m : ℕ) (tail : List ℕ) (more : Bool) (why : LineReason) → is_long tail ≡ c → more ≡ d
    → (length tail == 0) ≡ e
    → ending_stop (if c then stopped (bad n reason.Extra) else if d then stopped too_long
    else if e then whole else stopped (bad n reason.Extra)) ≡ Some (bad m why)
    → (m ≡ n) × (EndTail tail more × (why ≡ reason.Extra))
end_found true d e n m tail more why is comes none h =
    (same_line n m reason.Extra why h, (inl is, same_reason n m reason.Extra why h))
end_found false true e n m tail more why is comes none h = cc
end_found false false true n m tail more why is comes none h = cc
end_found false false false n m tail more why is comes none h = (
  same_line n m reason.Extra why h,
  (inr (is, comes, some_left tail none), same_reason n m reason.Extra why h),
)

found_extra : (lines : List (List ℕ)) (n m : ℕ) (tail : List ℕ) (more : Bool) (why : LineReason)
    → stop_from n behind_end lines tail more ≡ Some (bad m why) → Found behind_end n lines tail more m why
found_extra [] n m tail more why h =
    let f = end_found (is_long tail) more (length tail == 0) n m tail more why refl refl refl h in
    here behind_end n [] tail more m why f.0 f.1
found_extra (line ∷ lines) n m tail more why h =
    here behind_end n (line ∷ lines) tail more m why (same_line n m reason.Extra why h)
    (same_reason n m reason.Extra why h)

-- such a line is refused before `end`
front_line : (r : Reached) (line : List ℕ) (lines : List (List ℕ)) (tail : List ℕ) (more : Bool) (why : LineReason)
    → IsBefore r → FrontLine r line why → Front r (line ∷ lines) tail more why
front_line (in_start s) line lines tail more why is h = h
front_line (among told) line lines tail more why is h = h
front_line behind_end line lines tail more why is h = absurd is

front_tail : (r : Reached) (tail : List ℕ) (more : Bool) (why : LineReason) → IsBefore r → FrontTail tail more why
    → Front r [] tail more why
front_tail (in_start s) tail more why is h = h
front_tail (among told) tail more why is h = h
front_tail behind_end tail more why is h = absurd is

-- one line more
found_more : (r next : Reached) (n m : ℕ) (line : List ℕ) (lines : List (List ℕ)) (tail : List ℕ) (more : Bool)
    (why : LineReason) → is_long line ≡ false → reached_by r line ≡ Ok next
    → Found next (n + 1) lines tail more m why → Found r n (line ∷ lines) tail more m why
found_more r next n m line lines tail more why short is f = record {
  before = line ∷ f.before;
  behind = f.behind;
  are = ap (λ ls. line ∷ ls) f.are;
  short = (is_short line short, f.short);
  number = f.number ∙ behind_one n (length f.before);
  reached = f.reached;
  taken = ap (λ x. then_reached x (λ p. lines_reach_from p f.before)) is ∙ f.taken;
  front = f.front;
}

found_by : (x : Result Reached LineReason) (r : Reached) (n m : ℕ) (line : List ℕ) (lines : List (List ℕ))
    (tail : List ℕ) (more : Bool) (why : LineReason) → IsBefore r → is_long line ≡ false → reached_by r line ≡ x
    → ((next : Reached) → stop_from (n + 1) next lines tail more ≡ Some (bad m why)
    → Found next (n + 1) lines tail more m why)
    → stop_from n r (line ∷ lines) tail more ≡ Some (bad m why) → Found r n (line ∷ lines) tail more m why
found_by (Ok next) r n m line lines tail more why before short is rec h =
    found_more r next n m line lines tail more why short is
    (rec next (sym (line_taken r next n line lines tail more short is) ∙ h))
found_by (Err w) r n m line lines tail more why before short is rec h =
    let same = sym (line_refused r n w line lines tail more short is) ∙ h in
    here r n (line ∷ lines) tail more m why (same_line n m w why same)
    (front_line r line lines tail more why before
    (inr (short, is ∙ ap Err (sym (same_reason n m w why same)))))

found_if : (c : Bool) (r : Reached) (n m : ℕ) (line : List ℕ) (lines : List (List ℕ)) (tail : List ℕ) (more : Bool)
    (why : LineReason) → IsBefore r → is_long line ≡ c
    → ((next : Reached) → stop_from (n + 1) next lines tail more ≡ Some (bad m why)
    → Found next (n + 1) lines tail more m why)
    → stop_from n r (line ∷ lines) tail more ≡ Some (bad m why) → Found r n (line ∷ lines) tail more m why
found_if true r n m line lines tail more why before long rec h =
    let same = sym (stop_of_long r n line lines tail more before long) ∙ h in
    here r n (line ∷ lines) tail more m why (same_line n m reason.Long why same)
    (front_line r line lines tail more why before (inl (long, same_reason n m reason.Long why same)))
found_if false r n m line lines tail more why before short rec h =
    found_by (reached_by r line) r n m line lines tail more why before short refl rec h

found_tail : (r : Reached) (n m : ℕ) (tail : List ℕ) (more : Bool) (why : LineReason) → IsBefore r
    → stop_from n r [] tail more ≡ Some (bad m why) → Found r n [] tail more m why
found_tail r n m tail more why before h =
    let f = tail_front n m tail more why (sym (stop_of_tail r n tail more before) ∙ h) in
    here r n [] tail more m why f.0 (front_tail r tail more why before f.1)

found : (lines : List (List ℕ)) (r : Reached) (n m : ℕ) (tail : List ℕ) (more : Bool) (why : LineReason)
    → stop_from n r lines tail more ≡ Some (bad m why) → Found r n lines tail more m why
found [] (in_start s) n m tail more why h = found_tail (in_start s) n m tail more why tt h
found [] (among told) n m tail more why h = found_tail (among told) n m tail more why tt h
found [] behind_end n m tail more why h = found_extra [] n m tail more why h
found (line ∷ lines) (in_start s) n m tail more why h =
    found_if (is_long line) (in_start s) n m line lines tail more why tt refl
    (λ next g. found lines next (n + 1) m tail more why g) h
found (line ∷ lines) (among told) n m tail more why h =
    found_if (is_long line) (among told) n m line lines tail more why tt refl
    (λ next g. found lines next (n + 1) m tail more why g) h
found (line ∷ lines) behind_end n m tail more why h = found_extra (line ∷ lines) n m tail more why h

-- ---- the bytes

fed_tail : (b : ℕ) (lines : List (List ℕ)) (tail : List ℕ) → (b == 10) ≡ false → IsFeedless tail
    → IsFeedless (with_byte b lines tail).tail
fed_tail b [] tail is h = no_feed b tail is h
fed_tail b (line ∷ lines) tail is h = h

feedless_tail_if : (c : Bool) (b : ℕ) (s : Split) → (b == 10) ≡ c → IsFeedless s.tail
    → IsFeedless (if c then record { lines = [] ∷ s.lines; tail = s.tail } else with_byte b s.lines s.tail).tail
feedless_tail_if true b s is h = h
feedless_tail_if false b s is h = fed_tail b s.lines s.tail is h

feedless_tail : (bytes : List ℕ) → IsFeedless (split bytes).tail
feedless_tail [] = nothing_feedless
feedless_tail (b ∷ bs) = feedless_tail_if (b == 10) b (split bs) refl (feedless_tail bs)

are_lines : (before behind : List (List ℕ)) → AreFeedless (before ++ behind) → AreShort before → AreLines before
are_lines [] behind h s = tt
are_lines (line ∷ before) behind h s = ((h.0, s.0), are_lines before behind h.1 s.1)

are_behind : (before behind : List (List ℕ)) → AreFeedless (before ++ behind) → AreFeedless behind
are_behind [] behind h = h
are_behind (line ∷ before) behind h = are_behind before behind h.1

text_parts : (before behind : List (List ℕ)) (tail : List ℕ)
    → text_of (before ++ behind) ++ tail ≡ text_of before ++ (text_of behind ++ tail)
text_parts [] behind tail = refl
text_parts (line ∷ before) behind tail =
    append_assoc line (10 ∷ text_of (before ++ behind)) tail
    ∙ ap (λ l. line ++ 10 ∷ l) (text_parts before behind tail)
    ∙ sym (append_assoc line (10 ∷ text_of before) (text_of behind ++ tail))

is_longer : (line : List ℕ) → is_long line ≡ true → 8400000 < length line
is_longer line h = grind arith

begins_long : (line : List ℕ) (lines : List (List ℕ)) (tail : List ℕ) → IsFeedless line → is_long line ≡ true
    → BeginsLong (text_of (line ∷ lines) ++ tail)
begins_long line lines tail feedless long =
    (line, 10 ∷ (text_of lines ++ tail), append_assoc line (10 ∷ text_of lines) tail, feedless, is_longer line long)

begins_with : (line : List ℕ) (lines : List (List ℕ)) (tail : List ℕ) → IsFeedless line → is_long line ≡ false
    → BeginsWith line (text_of (line ∷ lines) ++ tail)
begins_with line lines tail feedless short =
    (text_of lines ++ tail, append_assoc line (10 ∷ text_of lines) tail, (feedless, is_short line short))

line_of_front : (r : Reached) (line : List ℕ) (lines : List (List ℕ)) (tail : List ℕ) (more : Bool)
    (why : LineReason) → IsFeedless line → FrontLine r line why
    → IsRefusedLine r (text_of (line ∷ lines) ++ tail) more why
line_of_front r line lines tail more why feedless h = elim h [
  | inl long ↦ inl (begins_long line lines tail feedless long.0, long.1)
  | inr said ↦ inr (inr (line, begins_with line lines tail feedless said.0, said.1))
]

tail_of_front : (r : Reached) (tail : List ℕ) (more : Bool) (why : LineReason) → IsFeedless tail
    → FrontTail tail more why → IsRefusedLine r tail more why
tail_of_front r tail more why feedless h = elim h [
  | inl long ↦ inl ((tail, [], sym (append-nil tail), feedless, is_longer tail long.0), long.1)
  | inr cut ↦ inr (inl ((feedless, is_short tail cut.0, cut.1), cut.2))
]

extra_tail : (tail : List ℕ) (more : Bool) → IsFeedless tail → EndTail tail more → IsExtra tail more
extra_tail tail more feedless h = elim h [
  | inl long ↦ inl (tail, [], sym (append-nil tail), feedless, is_longer tail long)
  | inr cut ↦ inr (inl ((feedless, is_short tail cut.0, cut.1), cut.2))
]

extra_line : (c : Bool) (line : List ℕ) (lines : List (List ℕ)) (tail : List ℕ) (more : Bool) → is_long line ≡ c
    → IsFeedless line → IsExtra (text_of (line ∷ lines) ++ tail) more
extra_line true line lines tail more is feedless = inl (begins_long line lines tail feedless is)
extra_line false line lines tail more is feedless = inr (inr (line, begins_with line lines tail feedless is))

refused_front : (r : Reached) (lines : List (List ℕ)) (tail : List ℕ) (more : Bool) (why : LineReason)
    → AreFeedless lines → IsFeedless tail → Front r lines tail more why
    → IsRefusedNext r (text_of lines ++ tail) more why
refused_front (in_start s) [] tail more why are feedless h = tail_of_front (in_start s) tail more why feedless h
refused_front (among told) [] tail more why are feedless h = tail_of_front (among told) tail more why feedless h
refused_front behind_end [] tail more why are feedless h = (extra_tail tail more feedless h.0, h.1)
refused_front (in_start s) (line ∷ lines) tail more why are feedless h =
    line_of_front (in_start s) line lines tail more why are.0 h
refused_front (among told) (line ∷ lines) tail more why are feedless h =
    line_of_front (among told) line lines tail more why are.0 h
refused_front behind_end (line ∷ lines) tail more why are feedless h =
    (extra_line (is_long line) line lines tail more refl are.0, h)

pub refusals_are_first : RefusalsAreFirst
refusals_are_first bytes n why h =
    let seen = take 67108864 bytes in
    let more = nat_lt 67108864 (length bytes) in
    let f = found (split seen).lines (in_start (opening First)) 1 n (split seen).tail more why h in
    let are = subst AreFeedless f.are (feedless seen) in
    record {
      before = f.before;
      rest = text_of f.behind ++ (split seen).tail;
      are =
          sym (joined seen) ∙ ap (λ ls. text_of ls ++ (split seen).tail) f.are
          ∙ text_parts f.before f.behind (split seen).tail;
      lines = are_lines f.before f.behind are f.short;
      number = f.number;
      reached = f.reached;
      taken = f.taken;
      refused = refused_front f.reached f.behind (split seen).tail more why (are_behind f.before f.behind are)
          (feedless_tail seen) f.front;
    }
