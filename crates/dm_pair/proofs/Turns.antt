-- One line of a text, and what is written from the next on.
use Rattle.std.proofs.Common.{◌≡◌, ◌+◌, ℕ, true, false, List, [], ◌∷◌, ◌++◌, length, Option, Some, None, Result, Ok}
use Rattle.std.proofs.Common.{Err}
use Rattle.std.proofs.Common.{◌∙◌, ◌≤◌, refl, sym, ap, subst, cond, bytes_eq, codes, arith, length-append}
use Rattle.std.specs.Prelude.{is_some}
use Rattle.dm_base.specs.declared.lines.LineReason.{LineReason}
use Rattle.dm_base.specs.declared.lines.LineReason.TheVariants as reason
use Rattle.dm_base.specs.Lines.{line_feed}
use Rattle.dm_start.specs.declared.heads.Head.TheVariants as head
use Rattle.dm_start.specs.declared.telling.Phase.TheVariants as phase
use Rattle.dm_fields.specs.declared.errors.LineError.{LineError}
use Rattle.dm_fields.specs.declared.errors.LineError.TheVariants as line_error
use Rattle.dm_fields.specs.Refusing.{Refuses}
use Rattle.dm_start.specs.Start.{Setup, Section, opening, telling, is_begun, after_line as section_after}
use Rattle.dm_job.specs.declared.job.Job.{Job}
use Rattle.dm_job.specs.declared.draft.Reading.{Reading}
use Rattle.dm_job.specs.declared.draft.Reading.TheVariants as reading
use Rattle.dm_job.specs.Reading.{reading_after as job_after}
use Rattle.dm_job.specs.Texts.{segments, is_long, tail_reason, job_in, is_ended}
use Rattle.dm_job.proofs.Turns.{some_segments}
use Rattle.dm_replay.specs.Trace.{servers_of, told_in}
use Rattle.dm_pair.specs.declared.events.PairEvent.{PairEvent}
use Rattle.dm_pair.specs.declared.events.PairEvent.TheVariants as event
use Rattle.dm_pair.specs.Events.{pair_event_of}
use Rattle.dm_pair.specs.Pairing.{Pairing, step_of}
use Rattle.dm_pair.specs.Texts.{TextStage, first, starting, jobbing, happening, over, TextTurn, Written, text_turn}
use Rattle.dm_pair.specs.Texts.{silently, refuses}
use Rattle.dm_pair.specs.Texts.{behind_turn, behind_text, ends_at, written_from, pairing_of, start_turn}
use Rattle.dm_pair.specs.Texts.{job_turn}
use Rattle.dm_pair.specs.Texts.{event_turn, stage_after, stage_behind}
use Rattle.dm_pair.specs.declared.lines.TextHalt.{TextHalt}
use Rattle.dm_pair.specs.From.{rest_written, HaltsAs, text_halt_for}

-- ---- any line

-- the rest behind a line that is not too long
abbrev pub rest_behind : ℕ → Result TextTurn LineReason → List (List ℕ) → Written
rest_behind n x behind = behind_turn n x behind (λ t. written_from (n + 1) t behind)

one_turn : (n : ℕ) (s : TextStage) (line : List ℕ) (behind : List (List ℕ)) → (behind ≡ [] → ⊥)
    → written_from n s (line ∷ behind)
    ≡ cond (is_long line) (refuses (n, reason.Long)) (rest_behind n (text_turn s line) behind)
one_turn n s line [] some = absurd (some refl)
one_turn n s line (x ∷ xs) some = refl

pub long_line : (n : ℕ) (s : TextStage) (text line behind : List ℕ) → segments text ≡ line ∷ segments behind
    → is_long line ≡ true → rest_written n s text ≡ refuses (n, reason.Long)
long_line n s text line behind is long =
    ap (written_from n s) is ∙ one_turn n s line (segments behind) (some_segments behind)
    ∙ ap (λ b. cond b (refuses (n, reason.Long)) (rest_behind n (text_turn s line) (segments behind))) long

pub short_line : (n : ℕ) (s : TextStage) (text line behind : List ℕ) (x : Result TextTurn LineReason)
    → segments text ≡ line ∷ segments behind → is_long line ≡ false → text_turn s line ≡ x
    → rest_written n s text ≡ rest_behind n x (segments behind)
short_line n s text line behind x is short turned =
    ap (written_from n s) is ∙ one_turn n s line (segments behind) (some_segments behind)
    ∙ ap (λ b. cond b (refuses (n, reason.Long)) (rest_behind n (text_turn s line) (segments behind))) short
    ∙ ap (λ y. rest_behind n y (segments behind)) turned

pub refused_line : (n : ℕ) (s : TextStage) (text line behind : List ℕ) (why : LineReason)
    → segments text ≡ line ∷ segments behind → is_long line ≡ false → text_turn s line ≡ Err why
    → rest_written n s text ≡ refuses (n, why)
refused_line n s text line behind why is short turned = short_line n s text line behind (Err why) is short turned

-- no line feed ends the last line
pub unended_line : (n : ℕ) (s : TextStage) (text : List ℕ) → segments text ≡ text ∷ []
    → rest_written n s text ≡ refuses (n, tail_reason text)
unended_line n s text is = ap (written_from n s) is

-- ---- the first line

pub first_read : (text line behind : List ℕ) → segments text ≡ line ∷ segments behind → is_long line ≡ false
    → bytes_eq line (codes "dm-pair 1") ≡ true
    → rest_written 1 first text ≡ rest_written 2 (starting (opening (head.Device 1))) behind
unfolding text_turn
first_read text line behind is short same =
    short_line 1 first text line behind (Ok (silently (starting (opening (head.Device 1))))) is short turned
  where
    turned : text_turn first line ≡ Ok (silently (starting (opening (head.Device 1))))
    turned = ap (λ b. cond b (Ok (silently (starting (opening (head.Device 1))))) (Err reason.Word)) same

pub first_refused : (text line behind : List ℕ) → segments text ≡ line ∷ segments behind → is_long line ≡ false
    → bytes_eq line (codes "dm-pair 1") ≡ false
    → rest_written 1 first text ≡ refuses (1, reason.Word)
unfolding text_turn
first_refused text line behind is short other =
    refused_line 1 first text line behind reason.Word is short turned
  where
    turned : text_turn first line ≡ Err reason.Word
    turned = ap (λ b. cond b (Ok (silently (starting (opening (head.Device 1))))) (Err reason.Word)) other

-- ---- the start section

pub start_goes_on : (n : ℕ) (s next : Section) (text line behind : List ℕ) → segments text ≡ line ∷ segments behind
    → is_long line ≡ false → section_after s line ≡ Ok next → told_in next ≡ None
    → rest_written n (starting s) text ≡ rest_written (n + 1) (starting next) behind
unfolding text_turn
start_goes_on n s next text line behind is short read more =
    short_line n (starting s) text line behind (Ok (silently (starting next))) is short
    (turned ∙ ap (λ o. Ok (silently (stage_after next o))) more)
  where
    turned : text_turn (starting s) line ≡ Ok (silently (stage_after next (told_in next)))
    turned = ap start_turn read

pub start_ends : (n : ℕ) (s next : Section) (told : Setup) (text line behind : List ℕ)
    → segments text ≡ line ∷ segments behind → is_long line ≡ false → section_after s line ≡ Ok next
    → told_in next ≡ Some told → rest_written n (starting s) text ≡ rest_written (n + 1) (jobbing told reading.First) behind
unfolding text_turn
start_ends n s next told text line behind is short read begun =
    short_line n (starting s) text line behind (Ok (silently (jobbing told reading.First))) is short
    (turned ∙ ap (λ o. Ok (silently (stage_after next o))) begun)
  where
    turned : text_turn (starting s) line ≡ Ok (silently (stage_after next (told_in next)))
    turned = ap start_turn read

pub start_refused : (n : ℕ) (s : Section) (why : LineReason) (text line behind : List ℕ)
    → segments text ≡ line ∷ segments behind → is_long line ≡ false → section_after s line ≡ Err why
    → rest_written n (starting s) text ≡ refuses (n, why)
unfolding text_turn
start_refused n s why text line behind is short read =
    refused_line n (starting s) text line behind why is short turned
  where
    turned : text_turn (starting s) line ≡ Err why
    turned = ap start_turn read

-- ---- the job

pub job_goes_on : (n : ℕ) (told : Setup) (r next : Reading) (text line behind : List ℕ)
    → segments text ≡ line ∷ segments behind → is_long line ≡ false → job_after r line ≡ Ok next → job_in next ≡ None
    → rest_written n (jobbing told r) text ≡ rest_written (n + 1) (jobbing told next) behind
unfolding text_turn
job_goes_on n told r next text line behind is short read more =
    short_line n (jobbing told r) text line behind (Ok (silently (jobbing told next))) is short
    (turned ∙ ap (λ o. Ok (silently (stage_behind told next o))) more)
  where
    turned : text_turn (jobbing told r) line ≡ Ok (silently (stage_behind told next (job_in next)))
    turned = ap (job_turn told) read

pub job_ends : (n : ℕ) (told : Setup) (r next : Reading) (job : Job) (text line behind : List ℕ)
    → segments text ≡ line ∷ segments behind → is_long line ≡ false → job_after r line ≡ Ok next
    → job_in next ≡ Some job
    → rest_written n (jobbing told r) text ≡ rest_written (n + 1) (happening (servers_of told.accounts) (pairing_of told job)) behind
unfolding text_turn
job_ends n told r next job text line behind is short read ended =
    short_line n (jobbing told r) text line behind
    (Ok (silently (happening (servers_of told.accounts) (pairing_of told job)))) is short
    (turned ∙ ap (λ o. Ok (silently (stage_behind told next o))) ended)
  where
    turned : text_turn (jobbing told r) line ≡ Ok (silently (stage_behind told next (job_in next)))
    turned = ap (job_turn told) read

pub job_refused : (n : ℕ) (told : Setup) (r : Reading) (why : LineReason) (text line behind : List ℕ)
    → segments text ≡ line ∷ segments behind → is_long line ≡ false → job_after r line ≡ Err why
    → rest_written n (jobbing told r) text ≡ refuses (n, why)
unfolding text_turn
job_refused n told r why text line behind is short read =
    refused_line n (jobbing told r) text line behind why is short turned
  where
    turned : text_turn (jobbing told r) line ≡ Err why
    turned = ap (job_turn told) read

-- ---- the events

abbrev pub said_at : List (List ℕ) → Pairing → List ℕ → Result PairEvent LineReason
said_at ids p line = pair_event_of ids (length p.ups) (length p.downs) line

pub event_turned : (ids : List (List ℕ)) (p : Pairing) (line : List ℕ) (x : Result PairEvent LineReason)
    → said_at ids p line ≡ x → text_turn (happening ids p) line ≡ event_turn ids p x
unfolding text_turn
event_turned ids p line x said = ap (event_turn ids p) said

pub event_refused : (n : ℕ) (ids : List (List ℕ)) (p : Pairing) (why : LineReason) (text line behind : List ℕ)
    → segments text ≡ line ∷ segments behind → is_long line ≡ false → said_at ids p line ≡ Err why
    → rest_written n (happening ids p) text ≡ refuses (n, why)
event_refused n ids p why text line behind is short said =
    refused_line n (happening ids p) text line behind why is short (event_turned ids p line (Err why) said)

pub events_end : (n : ℕ) (ids : List (List ℕ)) (p : Pairing) (text line behind : List ℕ)
    → segments text ≡ line ∷ segments behind → is_long line ≡ false → said_at ids p line ≡ Ok event.End
    → rest_written n (happening ids p) text ≡ ends_at (n + 1) p (segments behind)
events_end n ids p text line behind is short said =
    short_line n (happening ids p) text line behind (Ok (silently (over p))) is short
    (event_turned ids p line (Ok event.End) said)

-- what is written for an event that isn't the end, and then the rest
abbrev pub told_then : ℕ → List (List ℕ) → Pairing → PairEvent → List ℕ → Written
told_then n ids p e behind =
    behind_text ((step_of p e).words ++ line_feed) (rest_written (n + 1) (happening ids (step_of p e).behind) behind)

pub event_goes_on : (n : ℕ) (ids : List (List ℕ)) (p : Pairing) (e : PairEvent) (text line behind : List ℕ)
    → segments text ≡ line ∷ segments behind → is_long line ≡ false → said_at ids p line ≡ Ok e
    → (e ≡ event.End → ⊥) → rest_written n (happening ids p) text ≡ told_then n ids p e behind
event_goes_on n ids p (event.Open account kind session) text line behind is short said goes =
    short_line n (happening ids p) text line behind _ is short (event_turned ids p line _ said)
event_goes_on n ids p (event.Up number) text line behind is short said goes =
    short_line n (happening ids p) text line behind _ is short (event_turned ids p line _ said)
event_goes_on n ids p (event.Down number) text line behind is short said goes =
    short_line n (happening ids p) text line behind _ is short (event_turned ids p line _ said)
event_goes_on n ids p event.Loss text line behind is short said goes =
    short_line n (happening ids p) text line behind _ is short (event_turned ids p line _ said)
event_goes_on n ids p (event.Act ok) text line behind is short said goes =
    short_line n (happening ids p) text line behind _ is short (event_turned ids p line _ said)
event_goes_on n ids p (event.Run count) text line behind is short said goes =
    short_line n (happening ids p) text line behind _ is short (event_turned ids p line _ said)
event_goes_on n ids p event.End text line behind is short said goes = absurd (goes refl)

-- ---- as the reading meets them

-- so many messages were sent up and down
pub said_of : (ids : List (List ℕ)) (p : Pairing) (line : List ℕ) (ups downs : ℕ) (x : Result PairEvent LineReason)
    → ups ≡ length p.ups → downs ≡ length p.downs → pair_event_of ids ups downs line ≡ x → said_at ids p line ≡ x
said_of ids p line ups downs x are are' said =
    ap (λ n. pair_event_of ids n (length p.downs) line) (sym are) ∙ ap (λ n. pair_event_of ids ups n line) (sym are') ∙ said

pub event_halts : (n : ℕ) (ids : List (List ℕ)) (p : Pairing) (text line behind : List ℕ) (ups downs : ℕ)
    (e : LineError) (now : TextHalt) → segments text ≡ line ∷ segments behind → is_long line ≡ false → ups ≡ length p.ups
    → downs ≡ length p.downs → Refuses (pair_event_of ids ups downs line) e → now ≡ text_halt_for n e
    → HaltsAs (rest_written n (happening ids p) text) now
event_halts n ids p text line behind ups downs (line_error.Bad why) now is short are are' said same =
    subst (HaltsAs (rest_written n (happening ids p) text)) (sym same)
    (event_refused n ids p why text line behind is short (said_of ids p line ups downs (Err why) are are' said))
event_halts n ids p text line behind ups downs line_error.Memory now is short are are' said same =
    subst (HaltsAs (rest_written n (happening ids p) text)) (sym same) tt

pub shorter : (text line behind : List ℕ) → text ≡ line ++ 10 ∷ behind → length behind + 1 ≤ length text
shorter text line behind is =
    let long = ap length is in
    let parts = length-append line (10 ∷ behind) in
    omega (arith, long, parts)

pub not_told : (s : Section) → is_begun s ≡ false → told_in s ≡ None
not_told (opening h) e = refl
not_told (telling phase.Accounts told) e = refl
not_told (telling phase.Nodes told) e = refl
not_told (telling phase.Begun told) e = cc

pub start_halts : (n : ℕ) (s : Section) (text line behind : List ℕ) (e : LineError)
    → segments text ≡ line ∷ segments behind → is_long line ≡ false → Refuses (section_after s line) e
    → HaltsAs (rest_written n (starting s) text) (text_halt_for n e)
start_halts n s text line behind (line_error.Bad why) is short read =
    start_refused n s why text line behind is short read
start_halts n s text line behind line_error.Memory is short read = tt

pub no_job : (r : Reading) → is_ended r ≡ false → job_in r ≡ None
no_job r e = none_of (job_in r) e
  where
    none_of : (o : Option Job) → is_some o ≡ false → o ≡ None
    none_of None h = refl
    none_of (Some job) h = cc

pub job_halts : (n : ℕ) (told : Setup) (r : Reading) (text line behind : List ℕ) (e : LineError)
    → segments text ≡ line ∷ segments behind → is_long line ≡ false → Refuses (job_after r line) e
    → HaltsAs (rest_written n (jobbing told r) text) (text_halt_for n e)
job_halts n told r text line behind (line_error.Bad why) is short read =
    job_refused n told r why text line behind is short read
job_halts n told r text line behind line_error.Memory is short read = tt

-- what the rest halts as, what is before it halts as too
pub halts_before : (w rest : Written) (h now : TextHalt) → w ≡ rest → now ≡ h → HaltsAs rest h → HaltsAs w now
halts_before w rest h now is same halts =
    subst (λ x. HaltsAs x now) (sym is) (subst (λ x. HaltsAs rest x) (sym same) halts)
