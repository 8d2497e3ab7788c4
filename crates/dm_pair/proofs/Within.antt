-- An event that is read is one of both ends.
use Rattle.std.proofs.Common.{◌≡◌, ℕ, Bool, true, false, List, Result, Ok}
use Rattle.std.proofs.Common.{Err, IfOk, refl, subst, length, codes, if◌then◌else◌}
use Rattle.std.specs.Prelude.{⊤}
use Rattle.dm_base.specs.declared.lines.LineReason.{LineReason}
use Rattle.dm_base.specs.declared.lines.LineReason.TheVariants as reason
use Rattle.dm_fields.specs.declared.errors.LineError.{LineError}
use Rattle.dm_fields.specs.Fields.{begins_with}
use Rattle.dm_replay.specs.declared.events.Event.{Event as TraceEvent}
use Rattle.dm_replay.specs.declared.events.Event.TheVariants as trace
use Rattle.dm_replay.specs.Events.{Reads, event_of as trace_event_of}
use Rattle.dm_replay.proofs.Saying.{is_of}
use Rattle.dm_pair.specs.declared.events.PairEvent.{PairEvent}
use Rattle.dm_pair.specs.Events.{IsPairEvent, said_of_trace, trace_line}

-- what is said is of them; of a refusal nothing is said
abbrev pub AreOf : ℕ → ℕ → ℕ → Result PairEvent LineReason → Type 0
AreOf accounts ups downs (Ok e) = IsPairEvent accounts ups downs e
AreOf accounts ups downs (Err why) = ⊤

pub read_within : (accounts ups downs : ℕ) (said : Result PairEvent LineReason) (r : Result PairEvent LineError)
    → AreOf accounts ups downs said → Reads said r → IfOk r (IsPairEvent accounts ups downs)
read_within accounts ups downs said (Ok e) h is = subst (AreOf accounts ups downs) is h
read_within accounts ups downs said (Err why) h is = tt

pub same_counts : (accounts ups downs u d : ℕ) (e : PairEvent) → u ≡ ups → d ≡ downs → IsPairEvent accounts u d e
    → IsPairEvent accounts ups downs e
same_counts accounts ups downs u d e are are' h =
    subst (λ n. IsPairEvent accounts ups n e) are' (subst (λ n. IsPairEvent accounts n d e) are h)

pub trace_within : (ids : List (List ℕ)) (ups downs : ℕ) (line : List ℕ)
    → AreOf (length ids) ups downs (trace_line ids line)
trace_within ids ups downs line = by_word (begins_with (codes "msg") line)
  where
    said : (x : Result TraceEvent LineReason) → trace_event_of 1 ids line ≡ x
        → AreOf (length ids) ups downs (said_of_trace x)
    said (Ok (trace.Open account kind session)) is = is_of 1 ids line (trace.Open account kind session) is refl
    said (Ok (trace.Msg nonce bytes)) is = tt
    said (Ok trace.Loss) is = tt
    said (Ok (trace.Act ok)) is = tt
    said (Ok (trace.Clock stamp)) is = tt
    said (Ok trace.End) is = tt
    said (Err why) is = tt

    by_word : (b : Bool)
        → AreOf (length ids) ups downs (if b then Err reason.Word else said_of_trace (trace_event_of 1 ids line))
    by_word true = tt
    by_word false = said (trace_event_of 1 ids line) refl
