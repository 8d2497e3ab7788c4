-- A whole trace is read line by line to its end.
use Rattle.std.proofs.Common.{suc, None, Some, Ok, Err, ◌≡◌, ◌≤◌, ◌+◌, ◌==◌, ℕ, false, List, [], ◌∷◌, ◌++◌, refl, sym}
use Rattle.std.proofs.Common.{ap, subst, ◌∙◌, length, arith, if◌then◌else◌, nat_lt}
use Rattle.std.proofs.lemmas.List.{take_all}
use Rattle.std.proofs.Math.Bool.{and-false}
use Rattle.std.specs.Prelude.{codes}
use Rattle.std.specs.declared.option.Option.{Option}
use Rattle.std.specs.declared.result.Result.{Result}
use Rattle.dm_base.specs.declared.lines.LineReason.{LineReason}
use Rattle.dm_base.specs.declared.lines.LineReason.TheVariants as reason
use Rattle.dm_machine.specs.Events.{Event as Happening}
use Rattle.dm_start.specs.declared.heads.Head.TheVariants.{First}
use Rattle.dm_start.specs.declared.telling.Phase.TheVariants as phase
use Rattle.dm_start.specs.Start.{Setup, Section, opening, telling, after_line, lines_after, behind_line}
use Rattle.dm_replay.specs.declared.events.Event.{Event}
use Rattle.dm_replay.specs.declared.events.Event.TheVariants as event
use Rattle.dm_replay.specs.Input.{Input, input_of, split}
use Rattle.dm_base.specs.Fields.{parts}
use Rattle.dm_replay.specs.Events.{event_of, clock_event}
use Rattle.dm_replay.specs.Trace.{bad, Ending, whole, stopped, Trace, behind_begin, behind_said, began, unbegun}
use Rattle.dm_replay.specs.Trace.{is_long, told_in, start_line, start_from, begun_of, no_events, with_event, event_line}
use Rattle.dm_replay.specs.Trace.{end_from, events_from, servers_of, trace_of}
use Rattle.dm_replay.specs.Output.{client_of, begun_text, begun_exit, events_text, ending_exit, replay_text}
use Rattle.dm_replay.specs.Output.{replay_exit}
use Rattle.dm_replay.specs.Laws.{IsLine, AreLines, text_of, happening_said, AreEvents, IsWholeTrace}
use Rattle.dm_replay.specs.Laws.{WholeTracesAreAnswered}
use Rattle.dm_replay.proofs.Splits.{split_line, not_lt}

-- ---- the text as lines

split_text : (lines : List (List ℕ)) → AreLines lines → split (text_of lines) ≡ record { lines = lines; tail = [] }
split_text [] h = refl
split_text (line ∷ lines) h =
    split_line line (text_of lines) h.0.0 ∙ ap (λ s. record { lines = line ∷ s.lines; tail = s.tail })
    (split_text lines h.1)

input_text : (r : ℕ) (lines : List (List ℕ)) → AreLines lines → length (text_of lines) ≤ r
    → input_of r (text_of lines) ≡ record { lines = lines; tail = []; more = false }
input_text r lines h fits =
    ap (λ xs. record { lines = (split xs).lines; tail = (split xs).tail; more = nat_lt r (length (text_of lines)) })
    (take_all r (text_of lines) fits)
    ∙ ap (λ s. record { lines = s.lines; tail = s.tail; more = nat_lt r (length (text_of lines)) }) (split_text lines h)
    ∙ ap (λ m. record { lines = lines; tail = []; more = m }) (not_lt r (length (text_of lines)) fits)

not_long : (line : List ℕ) → IsLine line → is_long line ≡ false
not_long line h = not_lt 8400000 (length line) h.1

-- ---- the start section

-- the lines behind line n, where no more bytes come
abbrev pub rest_of : List (List ℕ) → Input
rest_of lines = record { lines = lines; tail = []; more = false }

line_read : (n : ℕ) (s : Section) (line : List ℕ) (lines : List (List ℕ)) → IsLine line
    → start_from n s (line ∷ lines) [] false ≡ start_line n (after_line s line) (rest_of lines)
    (λ p. start_from (n + 1) p lines [] false)
line_read n s line lines is =
    ap (λ c. if c then unbegun (bad n reason.Long) else start_line n (after_line s line) (rest_of lines)
    (λ p. start_from (n + 1) p lines [] false)) (not_long line is)

pub of_told : (s : Section) (told : Setup) → told_in s ≡ Some told → s ≡ telling phase.Begun told
of_told (opening h) told e = cc
of_told (telling phase.Accounts t) told e = cc
of_told (telling phase.Nodes t) told e = cc
of_told (telling phase.Begun t) told e = let same : t ≡ told = cc in ap (telling phase.Begun) same

abbrev pub section_value : Section → Result Section (ℕ × LineReason) → Section
section_value s (Ok x) = x
section_value s (Err why) = s

-- nothing follows `begin`
none_behind : (n : ℕ) (told : Setup) (lines : List (List ℕ)) (x : Section)
    → lines_after n (telling phase.Begun told) lines ≡ Ok x → lines ≡ []
unfolding after_line
none_behind n told [] x h = refl
none_behind n told (line ∷ lines) x h = cc

behind_one : (n k : ℕ) → n + 1 + k ≡ n + suc k
behind_one n k = omega arith

same_section : (s t : Section) (r : Result Section (ℕ × LineReason)) → r ≡ Ok s → r ≡ Ok t → s ≡ t
same_section s t r h k = ap (section_value s) (sym h ∙ k)

none_told : (told : Setup) → None ≡ Some told → ⊥
none_told told h = cc

nothing_passes : (n : ℕ) (s : Section) (rest : List (List ℕ)) (told : Setup) → told_in s ≡ None
    → s ≡ telling phase.Begun told
    → start_from n s rest [] false ≡ began (n + 0) told (rest_of rest)
nothing_passes n s rest told new last = absurd (none_told told (sym new ∙ ap told_in last))

told_passes : (o : Option Setup) (n : ℕ) (next : Section) (start rest : List (List ℕ)) (told : Setup)
    → (told_in next ≡ None → lines_after (n + 1) next start ≡ Ok (telling phase.Begun told)
    → start_from (n + 1) next (start ++ rest) [] false ≡ began (n + 1 + length start) told (rest_of rest))
    → told_in next ≡ o → lines_after (n + 1) next start ≡ Ok (telling phase.Begun told)
    → start_line n (Ok next) (rest_of (start ++ rest)) (λ p. start_from (n + 1) p (start ++ rest) [] false)
    ≡ began (n + suc (length start)) told (rest_of rest)
told_passes None n next start rest told rec is g =
    ap (λ o. behind_begin n o (rest_of (start ++ rest)) (start_from (n + 1) next (start ++ rest) [] false)) is
    ∙ rec is g
    ∙ ap (λ m. began m told (rest_of rest)) (behind_one n (length start))
told_passes (Some other) n next start rest told rec is g =
    let last = of_told next other is in
    let g' = subst (λ x. lines_after (n + 1) x start ≡ Ok (telling phase.Begun told)) last g in
    let none = none_behind (n + 1) other start (telling phase.Begun told) g' in
    let same : telling phase.Begun other ≡ telling phase.Begun told =
    same_section (telling phase.Begun other) (telling phase.Begun told)
    (lines_after (n + 1) (telling phase.Begun other) start)
    (ap (lines_after (n + 1) (telling phase.Begun other)) none) g' in
    ap (λ o. behind_begin n o (rest_of (start ++ rest)) (start_from (n + 1) next (start ++ rest) [] false))
    (ap told_in (last ∙ same))
    ∙ ap (λ l. began (n + 1) told (rest_of (l ++ rest))) none
    ∙ ap (λ l. began (n + suc (length l)) told (rest_of rest)) (sym none)

line_passes : (r : Result Section LineReason) (n : ℕ) (start rest : List (List ℕ)) (told : Setup)
    → ((next : Section) → told_in next ≡ None → lines_after (n + 1) next start ≡ Ok (telling phase.Begun told)
    → start_from (n + 1) next (start ++ rest) [] false ≡ began (n + 1 + length start) told (rest_of rest))
    → behind_line n r (λ next. lines_after (n + 1) next start) ≡ Ok (telling phase.Begun told)
    → start_line n r (rest_of (start ++ rest)) (λ p. start_from (n + 1) p (start ++ rest) [] false)
    ≡ began (n + suc (length start)) told (rest_of rest)
line_passes (Ok next) n start rest told rec g = told_passes (told_in next) n next start rest told (rec next) refl g
line_passes (Err why) n start rest told rec g = cc

pub start_passes : (n : ℕ) (s : Section) (start rest : List (List ℕ)) (told : Setup) → told_in s ≡ None
    → lines_after n s start ≡ Ok (telling phase.Begun told)
    → AreLines (start ++ rest) → start_from n s (start ++ rest) [] false ≡ began (n + length start) told (rest_of rest)
start_passes n s [] rest told new h are =
    nothing_passes n s rest told new (same_section s (telling phase.Begun told) (Ok s) refl h)
start_passes n s (line ∷ start) rest told new h are =
    line_read n s line (start ++ rest) are.0
    ∙ line_passes (after_line s line) n start rest told
    (λ next new' g. start_passes (n + 1) next start rest told new' g are.1) h

-- ---- the events

end_says : (version : ℕ) (ids : List (List ℕ)) → event_of version ids (codes "end") ≡ Ok event.End
unfolding event_of
end_says version ids =
    ap (λ c. if c then clock_event (parts (codes "end")) else Ok event.End) (and-false (version == 2))

said_passes : (n : ℕ) (r : Result Event LineReason) (e : Happening) (behind : Ending) (rest : Trace)
    → happening_said r ≡ Some e
    → event_line n r behind rest ≡ with_event e rest
said_passes n (Ok said) e behind rest h = ap (λ o. behind_said o behind rest) h
said_passes n (Err why) e behind rest h = cc

pub events_pass : (version : ℕ) (ids : List (List ℕ)) (n : ℕ) (lines : List (List ℕ)) (events : List Happening)
    → AreEvents version ids lines events
    → AreLines (lines ++ codes "end" ∷ []) → events_from version ids n (lines ++ codes "end" ∷ []) [] false
    ≡ record { events = events; ending = whole }
events_pass version ids n [] events is are =
    ap (λ r. event_line n r whole (events_from version ids (n + 1) [] [] false)) (end_says version ids)
    ∙ ap (λ es. record { events = es; ending = whole }) (sym is)
events_pass version ids n (line ∷ lines) events is are =
    let after = lines ++ codes "end" ∷ [] in
    ap (λ c. if c then no_events (stopped (bad n reason.Long))
    else event_line n (event_of version ids line) (end_from (n + 1) after [] false)
    (events_from version ids (n + 1) after [] false)) (not_long line are.0)
    ∙ said_passes n (event_of version ids line) is.0 (end_from (n + 1) after [] false)
    (events_from version ids (n + 1) after [] false) is.2
    ∙ ap (with_event is.0) (events_pass version ids (n + 1) lines is.1 is.4 are.1)
    ∙ ap (λ es. record { events = es; ending = whole }) (sym is.3)

-- ---- the whole trace

lines_behind : (front rest : List (List ℕ)) → AreLines (front ++ rest) → AreLines rest
lines_behind [] rest h = h
lines_behind (line ∷ front) rest h = lines_behind front rest h.1

begun_found : (lines : List (List ℕ)) (told : Setup) (events : List Happening) → (f : IsWholeTrace lines told events)
    → length (text_of lines) ≤ 67108864
    → begun_of (text_of lines) ≡ began (1 + length f.start) told (rest_of (f.happenings ++ codes "end" ∷ []))
begun_found lines told events f fits =
    let rest = f.happenings ++ codes "end" ∷ [] in
    ap (λ (i : Input). start_from 1 (opening First) i.lines i.tail i.more) (input_text 67108864 lines f.are_lines fits)
    ∙ ap (λ l. start_from 1 (opening First) l [] false) f.in_order
    ∙ start_passes 1 (opening First) f.start rest told refl f.begins (subst AreLines f.in_order f.are_lines)

trace_passes : (n : ℕ) (lines : List (List ℕ)) (told : Setup) (events : List Happening)
    → (f : IsWholeTrace lines told events)
    → trace_of n told (rest_of (f.happenings ++ codes "end" ∷ [])) ≡ record { events = events; ending = whole }
trace_passes n lines told events f =
    events_pass told.version (servers_of told.accounts) n f.happenings events f.tells
    (lines_behind f.start (f.happenings ++ codes "end" ∷ []) (subst AreLines f.in_order f.are_lines))

pub whole_traces_are_answered : WholeTracesAreAnswered
unfolding replay_text replay_exit
whole_traces_are_answered lines told events f fits =
    let n : ℕ = 1 + length f.start in (
      ap begun_text (begun_found lines told events f fits)
          ∙ ap (events_text told.version (client_of told)) (trace_passes n lines told events f),
      ap begun_exit (begun_found lines told events f fits)
          ∙ ap (λ (t : Trace). ending_exit t.ending) (trace_passes n lines told events f),
    )
