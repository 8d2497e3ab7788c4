-- The input of `device`: a trace without events.
use Rattle.std.specs.Prelude.{◌+◌, ℕ, Bool, not, if◌then◌else◌, List, [], ◌∷◌, bytes_eq, codes, Result, Ok, Err}
use Rattle.dm_base.specs.declared.lines.LineReason.TheVariants as reason
use Rattle.dm_fields.specs.Fields.{begins_with}
use Rattle.dm_start.specs.Start.{Setup}
use Rattle.dm_replay.specs.Trace.{Stop, bad, Ending, whole, stopped, Begun, began, unbegun, begun_of, is_long}
use Rattle.dm_replay.specs.Trace.{tail_stop, end_from}

-- behind `begin` only `end` may stand, and nothing behind that: an event is another word there
abbrev pub end_line : ℕ → List ℕ → Ending → Ending
end_line n line behind =
    if not (begins_with (codes "end") line) then stopped (bad n reason.Word)
    else if bytes_eq line (codes "end") then behind
    else stopped (bad n reason.Fields)

-- from line n on, which stands behind `begin`
abbrev pub end_alone : ℕ → List (List ℕ) → List ℕ → Bool → Ending
end_alone n [] tail more = stopped (tail_stop n tail more)
end_alone n (line ∷ lines) tail more =
    if is_long line then stopped (bad n reason.Long) else end_line n line (end_from (n + 1) lines tail more)

abbrev pub setup_by : Setup → Ending → Result Setup Stop
setup_by told whole = Ok told
setup_by told (stopped stop) = Err stop

abbrev pub setup_behind : Begun → Result Setup Stop
setup_behind (unbegun stop) = Err stop
setup_behind (began n told i) = setup_by told (end_alone n i.lines i.tail i.more)

-- what the input tells, or where it stops before its end
abbrev pub setup_of : List ℕ → Result Setup Stop
setup_of bytes = setup_behind (begun_of bytes)
