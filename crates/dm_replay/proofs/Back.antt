-- A run that ends by Done went over a whole trace.
use Rattle.std.proofs.Common.{suc, zero, None, Some, Ok, Err, ◌≡◌, ◌≤◌, ◌+◌, ◌==◌, ◌&&◌, ℕ, Bool, true, false, List, []}
use Rattle.std.proofs.Common.{◌∷◌, ◌++◌, refl, sym, ap, subst, ◌∙◌, rules, length, take, arith, if◌then◌else◌, nat_lt}
use Rattle.std.proofs.Common.{append-nil}
use Rattle.std.proofs.lemmas.Bool.{eqb-true, eqb-false}
use Rattle.std.proofs.lemmas.List.{take_all}
use Rattle.std.specs.Prelude.{bytes_eq, codes, ⊤}
use Rattle.std.specs.declared.option.Option.{Option}
use Rattle.std.specs.declared.result.Result.{Result}
use Rattle.dm_base.specs.Lines.{IsFeedless}
use Rattle.dm_base.specs.declared.lines.LineReason.{LineReason}
use Rattle.dm_base.specs.declared.lines.LineReason.TheVariants as reason
use Rattle.dm_machine.specs.Events.{Event as Happening}
use Rattle.dm_start.specs.declared.heads.Head.TheVariants.{First}
use Rattle.dm_start.specs.declared.telling.Phase.TheVariants as phase
use Rattle.dm_start.specs.Start.{Setup, Section, opening, telling, after_line, lines_after, behind_line}
use Rattle.dm_exit.specs.declared.exit.Exit.TheVariants as exit
use Rattle.dm_replay.specs.declared.events.Event.{Event}
use Rattle.dm_replay.specs.declared.events.Event.TheVariants as event
use Rattle.dm_replay.specs.Input.{Split, input_of, split, with_byte}
use Rattle.dm_base.specs.Fields.{parts, is_id, challenge_of, hex_of}
use Rattle.dm_base.specs.declared.values.Nonce.{Nonce}
use Rattle.dm_tree.specs.declared.nodes.Stamp.{Stamp}
use Rattle.dm_machine.specs.declared.kinds.Initiator.{Initiator}
use Rattle.dm_start.specs.Fields.{clock_in}
use Rattle.dm_fields.specs.Fields.{begins_with}
use Rattle.dm_replay.specs.Events.{event_of, kind_of, session_in_text, account_place, opened_at, opened_by, open_in}
use Rattle.dm_replay.specs.Events.{msg_by}
use Rattle.dm_replay.specs.Events.{msg_in, act_in, clock_by, clock_event, alone}
use Rattle.dm_replay.specs.Trace.{Stop, bad, too_long, whole, stopped, began, unbegun, is_long, tail_stop, told_in}
use Rattle.dm_replay.specs.Trace.{behind_begin, start_line, start_from, no_events, event_line, end_from, events_from}
use Rattle.dm_replay.specs.Trace.{servers_of}
use Rattle.dm_replay.specs.Output.{begun_exit, stop_exit, ending_exit, replay_exit}
use Rattle.dm_replay.specs.Laws.{AreLines, text_of, happening_said, AreEvents, IsWholeTrace, OnlyTracesAreDone}
use Rattle.dm_replay.proofs.WholeTraces.{of_told}

-- no line has more bytes than it may
abbrev pub AreShort : List (List ℕ) → Type 0
AreShort [] = ⊤
AreShort (line ∷ lines) = (length line ≤ 8400000) × AreShort lines

pub is_short : (line : List ℕ) → is_long line ≡ false → length line ≤ 8400000
is_short line h = grind arith

stop_is_not_done : (stop : Stop) → stop_exit stop ≡ exit.Done → ⊥
stop_is_not_done (bad n why) h = cc
stop_is_not_done too_long h = cc

-- ---- the events

length_none : (xs : List ℕ) → (length xs == 0) ≡ true → xs ≡ []
length_none [] h = refl
length_none (x ∷ xs) h = absurd (let e = eqb-true (length (x ∷ xs)) 0 h in omega (arith, e))

end_at_back : (c d : Bool) (n : ℕ) (tail : List ℕ) (more : Bool) → (length tail == 0) ≡ d
    → ending_exit (if c then stopped (bad n reason.Extra) else if more then stopped
    too_long else if d then whole else stopped (bad n reason.Extra)) ≡ exit.Done
    → (tail ≡ []) × (more ≡ false)
end_at_back true d n tail more is h = cc
end_at_back false true n tail false is h = (length_none tail is, refl)
end_at_back false false n tail false is h = cc
end_at_back false d n tail true is h = cc

end_back : (n : ℕ) (lines : List (List ℕ)) (tail : List ℕ) (more : Bool)
    → ending_exit (end_from n lines tail more) ≡ exit.Done
    → (lines ≡ []) × (tail ≡ []) × (more ≡ false)
end_back n (line ∷ lines) tail more h = cc
end_back n [] tail more h = let e = end_at_back (is_long tail) (length tail == 0) n tail more refl h in (refl, e.0, e.1)

-- what whole events and their end are
pub record Happenings (version : ℕ) (ids : List (List ℕ)) (lines : List (List ℕ)) (tail : List ℕ)
    (more : Bool) : Type 0 where
  pub happenings : List (List ℕ)
  pub events : List Happening
  pub are : lines ≡ happenings ++ codes "end" ∷ []
  pub tell : AreEvents version ids happenings events
  pub short : AreShort lines
  pub no_tail : tail ≡ []
  pub no_more : more ≡ false

same_text : (xs ys : List ℕ) → bytes_eq xs ys ≡ true → xs ≡ ys
same_text xs ys h = search rules

ends_there : (version : ℕ) (ids : List (List ℕ)) (line : List ℕ) (lines : List (List ℕ)) (tail : List ℕ) (more : Bool)
    → length line ≤ 8400000
    → line ≡ codes "end" → (lines ≡ []) × (tail ≡ []) × (more ≡ false) → Happenings version ids (line ∷ lines) tail more
ends_there version ids line lines tail more short is h = record {
  happenings = [];
  events = [];
  are = ap (λ l. l ∷ lines) is ∙ ap (λ ls. codes "end" ∷ ls) h.0;
  tell = refl;
  short = (short, subst AreShort (sym h.0) tt);
  no_tail = h.1;
  no_more = h.2;
}

one_more : (version : ℕ) (ids : List (List ℕ)) (e : Happening) (line : List ℕ) (lines : List (List ℕ)) (tail : List ℕ)
    (more : Bool)
    → length line ≤ 8400000 → happening_said (event_of version ids line) ≡ Some e
    → Happenings version ids lines tail more
    → Happenings version ids (line ∷ lines) tail more
one_more version ids e line lines tail more short is rest = record {
  happenings = line ∷ rest.happenings;
  events = e ∷ rest.events;
  are = ap (λ ls. line ∷ ls) rest.are;
  tell = (e, rest.events, is, refl, rest.tell);
  short = (short, rest.short);
  no_tail = rest.no_tail;
  no_more = rest.no_more;
}

-- only the `end` line says that the trace ends
opened_goes_on : (ids : List (List ℕ)) (fields : List (List ℕ)) → open_in ids fields ≡ Ok event.End → ⊥
opened_goes_on ids [] h = cc
opened_goes_on ids (a ∷ []) h = cc
opened_goes_on ids (a ∷ b ∷ []) h = cc
opened_goes_on ids (a ∷ b ∷ c ∷ []) h = cc
opened_goes_on ids (a ∷ b ∷ c ∷ d ∷ []) h = opened (kind_of c) (session_in_text d) h
  where
    placed : (o : Option ℕ) (kind : Initiator) (session : ℕ) → opened_at o kind session ≡ Ok event.End → ⊥
    placed None kind session g = cc
    placed (Some account) kind session g = cc

    known : (c : Bool) (kind : Initiator) (session : ℕ)
        → (if c then opened_at (account_place ids b) kind session else Err reason.Fields) ≡ Ok event.End → ⊥
    known true kind session g = placed (account_place ids b) kind session g
    known false kind session g = cc

    opened : (k : Option Initiator) (n : Option ℕ) → opened_by ids b k n ≡ Ok event.End → ⊥
    opened None n g = cc
    opened (Some kind) None g = cc
    opened (Some kind) (Some session) g = known (is_id b) kind session g
opened_goes_on ids (a ∷ b ∷ c ∷ d ∷ e ∷ fields) h = cc

message_goes_on : (fields : List (List ℕ)) → msg_in fields ≡ Ok event.End → ⊥
message_goes_on [] h = cc
message_goes_on (a ∷ []) h = cc
message_goes_on (a ∷ b ∷ []) h = cc
message_goes_on (a ∷ b ∷ c ∷ []) h = read (challenge_of b) (hex_of c) h
  where
    read : (o : Option Nonce) (bytes : Option (List ℕ)) → msg_by o bytes ≡ Ok event.End → ⊥
    read None bytes g = cc
    read (Some nonce) None g = cc
    read (Some nonce) (Some bytes) g = cc
message_goes_on (a ∷ b ∷ c ∷ d ∷ fields) h = cc

abbrev pub alone_if : Bool → Event → Result Event LineReason
alone_if c said = if c then Ok said else Err reason.Fields

abbrev pub act_if : Bool → Bool → Result Event LineReason
act_if a b = if a then Ok (event.Act true) else if b then Ok (event.Act false) else Err reason.Fields

act_goes_on : (a b : Bool) → act_if a b ≡ Ok event.End → ⊥
act_goes_on true b h = cc
act_goes_on false true h = cc
act_goes_on false false h = cc

clock_goes_on : (o : Option Stamp) → clock_by o ≡ Ok event.End → ⊥
clock_goes_on None h = cc
clock_goes_on (Some stamp) h = cc

loss_goes_on : (c : Bool) → alone_if c event.Loss ≡ Ok event.End → ⊥
loss_goes_on true h = cc
loss_goes_on false h = cc

end_alone : (c : Bool) → alone_if c event.End ≡ Ok event.End → c ≡ true
end_alone true h = refl
end_alone false h = cc

ends_by : (a b c d e f : Bool) (version : ℕ) (ids : List (List ℕ)) (line : List ℕ)
    → (if a then open_in ids (parts line) else if b then msg_in (parts line) else if c then alone
    (codes "loss") line event.Loss
    else if d then act_in line else if e then clock_event (parts line) else if f then alone
    (codes "end") line event.End else Err reason.Word) ≡ Ok event.End
    → line ≡ codes "end"
ends_by true b c d e f version ids line h = absurd (opened_goes_on ids (parts line) h)
ends_by false true c d e f version ids line h = absurd (message_goes_on (parts line) h)
ends_by false false true d e f version ids line h = absurd (loss_goes_on (bytes_eq line (codes "loss")) h)
ends_by false false false true e f version ids line h =
    absurd (act_goes_on (bytes_eq line (codes "act ok")) (bytes_eq line (codes "act fail")) h)
ends_by false false false false true f version ids line h = absurd (clock_goes_on (clock_in (parts line)) h)
ends_by false false false false false true version ids line h =
    same_text line (codes "end") (end_alone (bytes_eq line (codes "end")) h)
ends_by false false false false false false version ids line h = cc

ends_only : (version : ℕ) (ids : List (List ℕ)) (line : List ℕ) → event_of version ids line ≡ Ok event.End
    → line ≡ codes "end"
unfolding event_of
ends_only version ids line h =
    ends_by (begins_with (codes "open") line) (begins_with (codes "msg") line) (begins_with (codes "loss") line)
    (begins_with (codes "act") line)
    (version == 2 && begins_with (codes "clock") line) (begins_with (codes "end") line) version ids line h

told_line : (r : Result Event LineReason) (version : ℕ) (ids : List (List ℕ)) (n : ℕ) (line : List ℕ)
    (lines : List (List ℕ)) (tail : List ℕ) (more : Bool)
    → length line ≤ 8400000 → event_of version ids line ≡ r
    → (ending_exit (events_from version ids (n + 1) lines tail more).ending ≡ exit.Done
    → Happenings version ids lines tail more)
    → ending_exit (event_line n r (end_from (n + 1) lines tail more)
    (events_from version ids (n + 1) lines tail more)).ending ≡ exit.Done
    → Happenings version ids (line ∷ lines) tail more
told_line (Ok (event.Open account kind session)) version ids n line lines tail more short is rest h =
    one_more version ids _ line lines tail more short (ap happening_said is) (rest h)
told_line (Ok (event.Msg nonce bytes)) version ids n line lines tail more short is rest h =
    one_more version ids _ line lines tail more short (ap happening_said is) (rest h)
told_line (Ok event.Loss) version ids n line lines tail more short is rest h =
    one_more version ids _ line lines tail more short (ap happening_said is) (rest h)
told_line (Ok (event.Act ok)) version ids n line lines tail more short is rest h =
    one_more version ids _ line lines tail more short (ap happening_said is) (rest h)
told_line (Ok (event.Clock stamp)) version ids n line lines tail more short is rest h =
    one_more version ids _ line lines tail more short (ap happening_said is) (rest h)
told_line (Ok event.End) version ids n line lines tail more short is rest h =
    ends_there version ids line lines tail more short (ends_only version ids line is)
    (end_back (n + 1) lines tail more h)
told_line (Err why) version ids n line lines tail more short is rest h = cc

short_line : (c : Bool) (version : ℕ) (ids : List (List ℕ)) (n : ℕ) (line : List ℕ) (lines : List (List ℕ))
    (tail : List ℕ) (more : Bool) → is_long line ≡ c
    → (ending_exit (events_from version ids (n + 1) lines tail more).ending ≡ exit.Done
    → Happenings version ids lines tail more)
    → ending_exit (if c then no_events (stopped (bad n reason.Long))
    else event_line n (event_of version ids line) (end_from (n + 1) lines tail more)
    (events_from version ids (n + 1) lines tail more)).ending ≡ exit.Done
    → Happenings version ids (line ∷ lines) tail more
short_line true version ids n line lines tail more is rest h = cc
short_line false version ids n line lines tail more is rest h =
    told_line (event_of version ids line) version ids n line lines tail more (is_short line is) refl rest h

events_back : (version : ℕ) (ids : List (List ℕ)) (n : ℕ) (lines : List (List ℕ)) (tail : List ℕ) (more : Bool)
    → ending_exit (events_from version ids n lines tail more).ending ≡ exit.Done
    → Happenings version ids lines tail more
events_back version ids n [] tail more h = absurd (stop_is_not_done (tail_stop n tail more) h)
events_back version ids n (line ∷ lines) tail more h =
    short_line (is_long line) version ids n line lines tail more refl
    (events_back version ids (n + 1) lines tail more) h

-- ---- the start section

pub record Beginning (n : ℕ) (s : Section) (lines : List (List ℕ)) (tail : List ℕ) (more : Bool) : Type 0 where
  pub start : List (List ℕ)
  pub behind : List (List ℕ)
  pub told : Setup
  pub are : lines ≡ start ++ behind
  pub tells : lines_after n s start ≡ Ok (telling phase.Begun told)
  pub short : AreShort start
  pub happenings : Happenings told.version (servers_of told.accounts) behind tail more

after_read : (n : ℕ) (s next : Section) (line : List ℕ) (start : List (List ℕ)) → after_line s line ≡ Ok next
    → lines_after n s (line ∷ start) ≡ lines_after (n + 1) next start
after_read n s next line start is =
    ap (λ (r : Result Section LineReason). behind_line n r (λ x. lines_after (n + 1) x start)) is

last_read : (n : ℕ) (s next : Section) (told : Setup) (line : List ℕ) (lines : List (List ℕ)) (tail : List ℕ)
    (more : Bool) → length line ≤ 8400000
    → after_line s line ≡ Ok next → told_in next ≡ Some told
    → begun_exit (began (n + 1) told (record { lines = lines; tail = tail; more = more })) ≡ exit.Done
    → Beginning n s (line ∷ lines) tail more
last_read n s next told line lines tail more short is last h = record {
  start = line ∷ [];
  behind = lines;
  told = told;
  are = refl;
  tells = after_read n s next line [] is ∙ ap Ok (of_told next told last);
  short = (short, tt);
  happenings = events_back told.version (servers_of told.accounts) (n + 1) lines tail more h;
}

more_read : (n : ℕ) (s next : Section) (line : List ℕ) (lines : List (List ℕ)) (tail : List ℕ) (more : Bool)
    → length line ≤ 8400000
    → after_line s line ≡ Ok next → Beginning (n + 1) next lines tail more → Beginning n s (line ∷ lines) tail more
more_read n s next line lines tail more short is rest = record {
  start = line ∷ rest.start;
  behind = rest.behind;
  told = rest.told;
  are = ap (λ ls. line ∷ ls) rest.are;
  tells = after_read n s next line rest.start is ∙ rest.tells;
  short = (short, rest.short);
  happenings = rest.happenings;
}

told_next : (o : Option Setup) (n : ℕ) (s next : Section) (line : List ℕ) (lines : List (List ℕ)) (tail : List ℕ)
    (more : Bool) → length line ≤ 8400000
    → after_line s line ≡ Ok next → told_in next ≡ o
    → (begun_exit (start_from (n + 1) next lines tail more) ≡ exit.Done → Beginning (n + 1) next lines tail more)
    → begun_exit (behind_begin n o (record { lines = lines; tail = tail; more = more })
    (start_from (n + 1) next lines tail more)) ≡ exit.Done
    → Beginning n s (line ∷ lines) tail more
told_next None n s next line lines tail more short is new rest h =
    more_read n s next line lines tail more short is (rest h)
told_next (Some told) n s next line lines tail more short is last rest h =
    last_read n s next told line lines tail more short is last h

read_line : (r : Result Section LineReason) (n : ℕ) (s : Section) (line : List ℕ) (lines : List (List ℕ))
    (tail : List ℕ) (more : Bool) → length line ≤ 8400000
    → after_line s line ≡ r
    → ((next : Section) → begun_exit (start_from (n + 1) next lines tail more) ≡ exit.Done
    → Beginning (n + 1) next lines tail more)
    → begun_exit (start_line n r (record { lines = lines; tail = tail; more = more })
    (λ next. start_from (n + 1) next lines tail more)) ≡ exit.Done
    → Beginning n s (line ∷ lines) tail more
read_line (Ok next) n s line lines tail more short is rest h =
    told_next (told_in next) n s next line lines tail more short is refl (rest next) h
read_line (Err why) n s line lines tail more short is rest h = cc

short_read : (c : Bool) (n : ℕ) (s : Section) (line : List ℕ) (lines : List (List ℕ)) (tail : List ℕ) (more : Bool)
    → is_long line ≡ c
    → ((next : Section) → begun_exit (start_from (n + 1) next lines tail more) ≡ exit.Done
    → Beginning (n + 1) next lines tail more)
    → begun_exit (if c then unbegun (bad n reason.Long)
    else start_line n (after_line s line) (record { lines = lines; tail = tail; more = more })
    (λ next. start_from (n + 1) next lines tail more)) ≡ exit.Done
    → Beginning n s (line ∷ lines) tail more
short_read true n s line lines tail more is rest h = cc
short_read false n s line lines tail more is rest h =
    read_line (after_line s line) n s line lines tail more (is_short line is) refl rest h

begun_back : (n : ℕ) (s : Section) (lines : List (List ℕ)) (tail : List ℕ) (more : Bool)
    → begun_exit (start_from n s lines tail more) ≡ exit.Done
    → Beginning n s lines tail more
begun_back n s [] tail more h = absurd (stop_is_not_done (tail_stop n tail more) h)
begun_back n s (line ∷ lines) tail more h =
    short_read (is_long line) n s line lines tail more refl (λ next. begun_back (n + 1) next lines tail more) h

-- ---- the bytes

abbrev pub AreFeedless : List (List ℕ) → Type 0
AreFeedless [] = ⊤
AreFeedless (line ∷ lines) = IsFeedless line × AreFeedless lines

pub no_feed : (b : ℕ) (bs : List ℕ) → (b == 10) ≡ false → IsFeedless bs → IsFeedless (b ∷ bs)
no_feed b bs is h zero below = eqb-false b 10 is
no_feed b bs is h (suc k) below = h k (omega (arith, below))

pub nothing_feedless : IsFeedless []
nothing_feedless k below = omega (arith, below)

fed : (b : ℕ) (lines : List (List ℕ)) (tail : List ℕ) → (b == 10) ≡ false → AreFeedless lines
    → AreFeedless (with_byte b lines tail).lines
fed b [] tail is h = tt
fed b (line ∷ lines) tail is h = (no_feed b line is h.0, h.1)

joined_byte : (b : ℕ) (lines : List (List ℕ)) (tail bs : List ℕ) → text_of lines ++ tail ≡ bs
    → text_of (with_byte b lines tail).lines ++ (with_byte b lines tail).tail ≡ b ∷ bs
joined_byte b [] tail bs h = ap (λ xs. b ∷ xs) h
joined_byte b (line ∷ lines) tail bs h = ap (λ xs. b ∷ xs) h

joined_if : (c : Bool) (b : ℕ) (s : Split) (bs : List ℕ) → (b == 10) ≡ c → text_of s.lines ++ s.tail ≡ bs
    → text_of (if c then record { lines = [] ∷ s.lines; tail = s.tail } else with_byte b s.lines s.tail).lines
    ++ (if c then record { lines = [] ∷ s.lines; tail = s.tail } else with_byte b s.lines s.tail).tail ≡ b ∷ bs
joined_if true b s bs is h = ap (λ xs. 10 ∷ xs) h ∙ ap (λ x. x ∷ bs) (sym (eqb-true b 10 is))
joined_if false b s bs is h = joined_byte b s.lines s.tail bs h

pub joined : (bytes : List ℕ) → text_of (split bytes).lines ++ (split bytes).tail ≡ bytes
joined [] = refl
joined (b ∷ bs) = joined_if (b == 10) b (split bs) bs refl (joined bs)

feedless_if : (c : Bool) (b : ℕ) (s : Split) → (b == 10) ≡ c → AreFeedless s.lines
    → AreFeedless (if c then record { lines = [] ∷ s.lines; tail = s.tail } else with_byte b s.lines s.tail).lines
feedless_if true b s is h = (nothing_feedless, h)
feedless_if false b s is h = fed b s.lines s.tail is h

pub feedless : (bytes : List ℕ) → AreFeedless (split bytes).lines
feedless [] = tt
feedless (b ∷ bs) = feedless_if (b == 10) b (split bs) refl (feedless bs)

are_lines : (lines : List (List ℕ)) → AreFeedless lines → AreShort lines → AreLines lines
are_lines [] h s = tt
are_lines (line ∷ lines) h s = ((h.0, s.0), are_lines lines h.1 s.1)

-- ---- the whole run

all_short : (front behind : List (List ℕ)) → AreShort front → AreShort behind → AreShort (front ++ behind)
all_short [] behind f b = b
all_short (line ∷ front) behind f b = (f.0, all_short front behind f.1 b)

is_within : (n m : ℕ) → nat_lt n m ≡ false → m ≤ n
is_within n m h = grind arith

found_trace : (lines : List (List ℕ)) (tail : List ℕ) (more : Bool) → AreFeedless lines
    → (b : Beginning 1 (opening First) lines tail more)
    → IsWholeTrace lines b.told b.happenings.events
found_trace lines tail more feedless b = record {
  start = b.start;
  happenings = b.happenings.happenings;
  in_order = b.are ∙ ap (λ ls. b.start ++ ls) b.happenings.are;
  are_lines = are_lines lines feedless (subst AreShort (sym b.are)
      (all_short b.start b.behind b.short b.happenings.short));
  begins = b.tells;
  tells = b.happenings.tell;
}

pub only_traces_are_done : OnlyTracesAreDone
unfolding replay_exit
only_traces_are_done bytes h =
    let i = input_of 67108864 bytes in
    let b = begun_back 1 (opening First) i.lines i.tail i.more h in
    let few = is_within 67108864 (length bytes) b.happenings.no_more in
    record {
      lines = i.lines;
      told = b.told;
      events = b.happenings.events;
      whole = found_trace i.lines i.tail i.more (feedless (take 67108864 bytes)) b;
      text =
          sym (take_all 67108864 bytes few) ∙ sym (joined (take 67108864 bytes))
          ∙ ap (λ xs. text_of i.lines ++ xs) b.happenings.no_tail ∙ append-nil (text_of i.lines);
      few = few;
    }
