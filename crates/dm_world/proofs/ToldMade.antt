-- A code that is told to the server was made by the client for what the server notes as sent.
use Rattle.std.proofs.Common.{zero, suc, ◌≡◌, ◌<◌, ◌+◌, ◌-◌, ◌==◌, ◌&&◌, ◌^◌, ℕ, Bool, true, false, cond, not, List, []}
use Rattle.std.proofs.Common.{◌∷◌, ◌++◌, Option, None, Some, IfSome, refl, sym, ◌∙◌, ap}
use Rattle.std.proofs.Common.{subst, arith, ◌⊎◌, inl, inr, nat_lt}
use Rattle.std.specs.Prelude.{slice_get, is_some}
use Rattle.std.specs.List.{Contains, list_any, filter}
use Rattle.std.proofs.lemmas.List.{append-nil}
use Rattle.syncml_types.specs.Message.{Parts}
use Rattle.syncml_parts.specs.Numbering.{ids_in}
use Rattle.dm_headers.specs.declared.checks.Side.TheVariants.{User}
use Rattle.dm_headers.specs.Checks.{fault_of, is_denied, passes}
use Rattle.dm_headers.specs.Standings.{Heard, hears}
use Rattle.dm_atomic.specs.Made.{Made, Status}
use Rattle.dm_ends.specs.Commands.{is_abort, session_of}
use Rattle.dm_job.specs.declared.job.JobEntry.{JobEntry}
use Rattle.dm_service.specs.declared.sent.Carried.{Carried}
use Rattle.dm_service.specs.declared.sent.Sent.{Sent}
use Rattle.dm_service.specs.Service.{Waiting, Session, Service}
use Rattle.dm_service.specs.Packages.{next_package, holds_number}
use Rattle.dm_service.specs.Packages.{gives_up}
use Rattle.dm_service.specs.Sending.{in_a_row, last_part_sent, rest_holds, but_the_last, part_holds, goes_out}
use Rattle.dm_service.specs.Sending.{sends}
use Rattle.dm_service.specs.Messages.{begins, first_session, ended, denies, after_status, matched_in, with_matched}
use Rattle.dm_service.specs.Messages.{tells}
use Rattle.dm_service.specs.Messages.{queues_answers, session_or, in_session, answers_message, by_header, accepts}
use Rattle.dm_service.specs.Events as server
use Rattle.dm_service.specs.History as server_runs
use Rattle.dm_service.specs.Pieces.{still_sent, is_read}
use Rattle.dm_service.specs.Laws.{code_at, IsTold}
use Rattle.dm_service.proofs.Codes.{codes_are_told, still_within, told_still}
use Rattle.dm_service.specs.Events.{arrival}
use Rattle.dm_world.specs.World.{InSession, World, Happening, opens, up_comes, down_comes, update_ends, clock_moves}
use Rattle.dm_world.specs.World.{is_lost}
use Rattle.dm_world.specs.World.{finds_no_memory, made_by, up_delivered, down_delivered}
use Rattle.dm_world.specs.World.{happens, run, Reply}
use Rattle.dm_world.specs.Commands.{WasMade, SaysWhatItMade, StandsAs}
use Rattle.dm_world.proofs.Lists.{either, Each, each-append}
use Rattle.dm_world.proofs.Numbers.{eq-of}
use Rattle.dm_world.proofs.SaysMade.{each-contains, made-later}

-- ---- what goes out has CmdIDs from 1 on

abbrev HasId : Sent → Type 0
HasId s = 0 < s.command

row-ids : (msg command number n : ℕ) → 0 < command → Each HasId (in_a_row msg command number n)
row-ids msg command number zero h = tt
row-ids msg command number (suc n) h = (h, row-ids msg (command + 1) (number + 1) n (omega arith))

alone-ids : (msg command : ℕ) (c : Carried) → 0 < command → Each HasId (last_part_sent msg command c)
alone-ids msg command c h = (h, either (Each HasId) (nat_lt 1 c.count) {y = []} (omega arith, tt) tt)

rest-ids : (msg command : ℕ) (begun : Bool) (o : Option Carried) → 0 < command
    → Each HasId (rest_holds msg command begun o)
rest-ids msg command begun None h = tt
rest-ids msg command false (Some c) h = row-ids msg command c.first c.count h
rest-ids msg command true (Some c) h = alone-ids msg command c h

last-ids : (ss : List Sent) → Each HasId ss → Each HasId (but_the_last ss)
last-ids [] h = tt
last-ids (s ∷ []) h = (h.0, tt)
last-ids (s ∷ t ∷ ss) h = (h.0, last-ids (t ∷ ss) h.1)

part-ids : (ss : List Sent) → Each HasId ss → Each HasId (part_holds ss)
part-ids [] h = tt
part-ids (s ∷ ss) h = (h.0, last-ids ss h.1)

out-ids : (msg command whole cut : ℕ) (ws : List Waiting) → 0 < command → Each HasId (goes_out msg command whole cut ws)
out-ids msg command whole cut [] h = tt
out-ids msg command zero zero (w ∷ ws) h = tt
out-ids msg command zero (suc n) (w ∷ ws) h =
    part-ids (rest_holds msg command w.entry.begun w.carries) (rest-ids msg command w.entry.begun w.carries h)
out-ids msg command (suc whole) cut (w ∷ ws) h =
    each-append HasId (rest_holds msg command w.entry.begun w.carries) _
    (rest-ids msg command w.entry.begun w.carries h)
    (out-ids msg (command + ids_in w.entry.command) whole cut ws (omega (arith, h)))

filter-ids : (p : Sent → Bool) (ss : List Sent) → Each HasId ss → Each HasId (filter p ss)
filter-ids p [] h = tt
filter-ids p (s ∷ ss) h =
    either (Each HasId) (p s) {x = s ∷ filter p ss} {y = filter p ss} (h.0, filter-ids p ss h.1) (filter-ids p ss h.1)

-- of all that a session sent
abbrev HasIds : Session → Type 0
HasIds s = Each HasId s.sent

abbrev pub HaveIds : Service → Type 0
HaveIds v = IfSome v.session HasIds

gives-ids : (v : Service) (s : Session) → HasIds s → HaveIds (gives_up v s)
unfolding gives_up
gives-ids v s h = filter-ids (λ (x : Sent). not (holds_number v.newest x.number)) s.sent h

sends-ids : (v : Service) (s : Session) (m : Parts) (code : ℕ) → HasIds s → HaveIds (sends v s m code)
unfolding sends
sends-ids v s m code h = each-append HasId s.sent _ h (out-ids _ 1 _ _ v.queue (omega arith))

denies-ids : (v : Service) (s : Session) (m : Parts) (code : ℕ) (nonce : List ℕ) → HasIds s
    → HaveIds (denies v s m code nonce)
unfolding denies
denies-ids v s m code nonce h = h

session-ids : (o : Option Session) (s : Session) → IfSome o HasIds → HasIds s → HasIds (session_or o s)
session-ids None s h k = k
session-ids (Some t) s h k = h

tells-ids : (v : Service) (s : Session) (m : Parts) (code : ℕ) → HaveIds v → HasIds s → HaveIds (tells v s m code)
tells-ids v s m code h k =
    either HaveIds (passes code) {x = with_matched v s (matched_in v s m)} {y = v} k h

message-ids : (v : Service) (s : Session) (m : Parts) (code : ℕ) (nonce : List ℕ) → HaveIds v → HasIds s
    → HaveIds (answers_message v s m code nonce)
message-ids v s m code nonce h k =
    let told = tells v s m code in
    let t = in_session told s in
    sends-ids (next_package (queues_answers told m code nonce) t.progress.standing) t m code
    (session-ids told.session s (tells-ids v s m code h k) k)

header-ids : (v : Service) (s : Session) (m : Parts) (h : Heard) (nonce : List ℕ) → HaveIds v → HasIds s
    → HaveIds (by_header v s m h nonce)
header-ids v s m h nonce all k =
    either HaveIds (not (is_some (fault_of m)) && list_any is_abort m.body) {x = ended v s}
    {y = cond h.second (denies v s m h.code nonce) (answers_message v s m h.code nonce)} k
    (either HaveIds h.second {x = denies v s m h.code nonce} {y = answers_message v s m h.code nonce}
    (denies-ids v s m h.code nonce k) (message-ids v s m h.code nonce all k))

accepts-ids : (v : Service) (s : Session) (m : Parts) (nonce : List ℕ) → HasIds s → HaveIds (accepts v s m nonce)
unfolding accepts
accepts-ids v s m nonce k =
    let h = hears User v.job.account s.progress.standing m nonce in
    let t : Session = record s { progress = record s.progress { standing = h.standing } } in
    let heard : Service = record v { job = record v.job { account = h.account }; session = Some t } in
    let w = after_status heard t s.progress.standing.we_failed h.status in
    let all : HaveIds w =
    either HaveIds (not s.progress.standing.we_failed && is_denied h.status) {x = gives_up heard t} {y = heard}
    (gives-ids heard t k) k in
    header-ids w (in_session w t) m h nonce all (session-ids w.session t all k)

opens-ids : (v : Service) (n : ℕ) (m : Parts) (nonce : List ℕ) → HaveIds (server.opens_session v n m nonce)
opens-ids v n m nonce = accepts-ids (begins v n) (first_session v.job.account n) m nonce tt

in-ids : (v : Service) (o : Option Session) (n : ℕ) (m : Parts) (nonce : List ℕ) → IfSome o HasIds
    → HaveIds (server.after_in_session v o n m nonce)
in-ids v None n m nonce h = opens-ids v n m nonce
in-ids v (Some s) n m nonce h =
    either HaveIds (s.progress.number == n) {x = accepts v s m nonce} {y = server.opens_session v n m nonce}
    (accepts-ids v s m nonce h) (opens-ids v n m nonce)

as-ids : (v : Service) (o : Option ℕ) (m : Parts) (nonce : List ℕ) → HaveIds v
    → HaveIds (server.after_number v o m nonce)
as-ids v None m nonce h = h
as-ids v (Some n) m nonce h = in-ids v v.session n m nonce h

next-ids : (v : Service) (m : Parts) (nonce : List ℕ) → HaveIds v → HaveIds (server_runs.next v (arrival m nonce))
unfolding server_runs.next server.takes server.after
next-ids v m nonce h =
    either HaveIds (server.takes_message v m) {x = server.after_number v (server.number_of m) m nonce} {y = v}
    (as-ids v (server.number_of m) m nonce h) h

up-ids : (w : World) (o : Option Parts) (nonce : List ℕ) → HaveIds w.server → HaveIds (up_delivered w o nonce).server
up-ids w None nonce h = h
up-ids w (Some m) nonce h = next-ids w.server m nonce h

down-ids : (w : World) (o : Option Reply) (nonce : List ℕ) → HaveIds w.server
    → HaveIds (down_delivered w o nonce).server
down-ids w None nonce h = h
down-ids w (Some d) nonce h = h

happens-ids : (w : World) (e : Happening) → HaveIds w.server → HaveIds (happens w e).server
unfolding happens
happens-ids w (opens account kind n) h = h
happens-ids w (up_comes k nonce) h = up-ids w (slice_get w.ups k) nonce h
happens-ids w (down_comes k nonce) h = down-ids w (slice_get w.downs k) nonce h
happens-ids w (update_ends ok) h = h
happens-ids w (clock_moves stamp) h = h
happens-ids w is_lost h = h
happens-ids w finds_no_memory h = h

pub run-ids : (w : World) (es : List Happening) → HaveIds w.server → HaveIds (run w es).server
run-ids w [] h = h
run-ids w (e ∷ es) h = run-ids (happens w e) es (happens-ids w e h)

-- ---- a code that is told now

-- by a message of the present session
record TellsNow (v : Service) (m : Parts) (place code : ℕ) : Type 0 where
  session : Session
  is_open : v.session ≡ Some session
  number : server.number_of m ≡ Some session.progress.number
  told : IsTold session.sent m.body place code

abbrev Comes : Service → Service → Parts → ℕ → ℕ → Type 0
Comes v x m place code =
    code_at x.told place ≡ Some code → (code_at v.told place ≡ Some code) ⊎ TellsNow v m place code

accepts-code : (v : Service) (s : Session) (m : Parts) (nonce : List ℕ) (place code : ℕ) → v.session ≡ Some s
    → server.number_of m ≡ Some s.progress.number
    → Comes v (accepts v s m nonce) m place code
accepts-code v s m nonce place code e f h = by (codes_are_told v s m nonce place code h)
  where
    by : (code_at v.told place ≡ Some code) ⊎ (IsTold (still_sent v s m nonce) m.body place code
        × (is_read v s m nonce ≡ true))
        → (code_at v.told place ≡ Some code) ⊎ TellsNow v m place code
    by (inl k) = inl k
    by (inr k) =
        inr (record {
          session = s;
          is_open = e;
          number = f;
          told = told_still v s m nonce m.body place code k.0;
        })

-- a session that begins has sent nothing
opens-code : (v : Service) (n : ℕ) (m : Parts) (nonce : List ℕ) (place code : ℕ)
    → Comes v (server.opens_session v n m nonce) m place code
opens-code v n m nonce place code h =
    by (codes_are_told (begins v n) (first_session v.job.account n) m nonce place code h)
  where
    by : (code_at v.told place ≡ Some code)
        ⊎ (IsTold (still_sent (begins v n) (first_session v.job.account n) m nonce) m.body place code
        × (is_read (begins v n) (first_session v.job.account n) m nonce ≡ true))
        → (code_at v.told place ≡ Some code) ⊎ TellsNow v m place code
    by (inl k) = inl k
    by (inr k) =
        absurd (none (still_within (begins v n) (first_session v.job.account n) m nonce k.0.command k.0.was_sent))
      where
        none : {x : Sent} → Contains [] x → ⊥
        none h = let low = h.1 in omega (arith, low)

in-code : (v : Service) (o : Option Session) (n : ℕ) (m : Parts) (nonce : List ℕ) (place code : ℕ) → v.session ≡ o
    → server.number_of m ≡ Some n
    → Comes v (server.after_in_session v o n m nonce) m place code
in-code v None n m nonce place code e f h = opens-code v n m nonce place code h
in-code v (Some s) n m nonce place code e f h = by (s.progress.number == n) refl h
  where
    by : (b : Bool) → (s.progress.number == n) ≡ b
        → Comes v (cond b (accepts v s m nonce) (server.opens_session v n m nonce)) m place code
    by true g k = accepts-code v s m nonce place code e (f ∙ ap Some (sym (eq-of s.progress.number n g))) k
    by false g k = opens-code v n m nonce place code k

as-code : (v : Service) (o : Option ℕ) (m : Parts) (nonce : List ℕ) (place code : ℕ) → server.number_of m ≡ o
    → Comes v (server.after_number v o m nonce) m place code
as-code v None m nonce place code e h = inl h
as-code v (Some n) m nonce place code e h = in-code v v.session n m nonce place code refl e h

next-code : (v : Service) (m : Parts) (nonce : List ℕ) (place code : ℕ)
    → Comes v (server_runs.next v (arrival m nonce)) m place code
unfolding server_runs.next server.takes server.after
next-code v m nonce place code h = by (server.takes_message v m) h
  where
    by : (b : Bool) → Comes v (cond b (server.after_number v (server.number_of m) m nonce) v) m place code
    by true k = as-code v (server.number_of m) m nonce place code refl k
    by false k = inl k

-- ---- and what was made for it

-- a command that the server notes as sent, and the Status that the client made for it
pub record NewCode (packages : List (List JobEntry)) (w : World) (place code : ℕ) : Type 0 where
  pub session : Session
  pub is_open : w.server.session ≡ Some session
  pub command : Sent
  pub was_sent : Contains session.sent command
  pub counts : command.counts ≡ true
  pub number : command.number - 1 ≡ place
  pub stands : StandsAs packages w.downs session.progress.number command
  pub made : WasMade w.made session.progress.number command.msg command.command code

pub read-range : (o : Option ℕ) (n : ℕ) → server.in_range o ≡ Some n → o ≡ Some n
read-range None n e = absurd (cc)
read-range (Some k) n e = by (nat_lt 0 k && nat_lt k (2 ^ 32)) e
  where
    by : (b : Bool) → cond b (Some k) None ≡ Some n → ◌≡◌ {A = Option ℕ} (Some k) (Some n)
    by true e = e
    by false e = absurd (cc)

open-ids : (o : Option Session) (s : Session) → IfSome o HasIds → o ≡ Some s → HasIds s
open-ids o s h e = subst (λ o. IfSome o HasIds) e h

-- what the server notes of its present session stands in its messages
abbrev pub NotesIt : List (List JobEntry) → World → Type 0
NotesIt packages w = (s : Session) (x : Sent) → w.server.session ≡ Some s → Contains s.sent x
    → StandsAs packages w.downs s.progress.number x

now-made : (packages : List (List JobEntry)) (w : World) (k : ℕ) (m : Parts) (place code : ℕ)
    → slice_get w.ups k ≡ Some m
    → SaysWhatItMade w
    → NotesIt packages w
    → HaveIds w.server
    → TellsNow w.server m place code
    → NewCode packages w place code
now-made packages w k m place code e says notes ids t =
    let s = t.session in
    let told = t.told in
    let some = each-contains HasId s.sent told.command (open-ids w.server.session s ids t.is_open) told.was_sent in
    let ref = told.cmd_ref in
    let made =
    says k m s.progress.number told.status e (read-range (session_of m) s.progress.number t.number) told.within
    (omega (arith, some, ref)) in
    record {
      session = s;
      is_open = t.is_open;
      command = told.command;
      was_sent = told.was_sent;
      counts = told.counts;
      number = told.number;
      stands = notes s told.command t.is_open told.was_sent;
      made = record {
        post = made.post;
        within =
            subst (λ code. Contains w.made (record { session = s.progress.number; what = Status made.post code }))
            told.code_is made.within;
        msg_is = made.msg_is ∙ sym told.msg_ref;
        command_is = made.command_is ∙ sym told.cmd_ref;
      };
    }

abbrev pub CodeIs : World → ℕ → ℕ → Type 0
CodeIs w place code = code_at w.server.told place ≡ Some code

up-code : (packages : List (List JobEntry)) (w : World) (k : ℕ) (o : Option Parts) (nonce : List ℕ)
    (place code : ℕ) → slice_get w.ups k ≡ o
    → SaysWhatItMade w
    → NotesIt packages w
    → HaveIds w.server
    → CodeIs (up_delivered w o nonce) place code
    → CodeIs w place code ⊎ NewCode packages w place code
up-code packages w k None nonce place code e says notes ids h = inl h
up-code packages w k (Some m) nonce place code e says notes ids h = by (next-code w.server m nonce place code h)
  where
    by : CodeIs w place code ⊎ TellsNow w.server m place code → CodeIs w place code ⊎ NewCode packages w place code
    by (inl x) = inl x
    by (inr x) = inr (now-made packages w k m place code e says notes ids x)

down-code : (w : World) (o : Option Reply) (nonce : List ℕ) (place code : ℕ)
    → CodeIs (down_delivered w o nonce) place code
    → CodeIs w place code
down-code w None nonce place code h = h
down-code w (Some d) nonce place code h = h

pub happens-code : (packages : List (List JobEntry)) (w : World) (e : Happening) (place code : ℕ) → SaysWhatItMade w
    → NotesIt packages w
    → HaveIds w.server
    → CodeIs (happens w e) place code
    → CodeIs w place code ⊎ NewCode packages w place code
unfolding happens
happens-code packages w (opens account kind n) place code says notes ids h = inl h
happens-code packages w (up_comes k nonce) place code says notes ids h =
    up-code packages w k (slice_get w.ups k) nonce place code refl says notes ids h
happens-code packages w (down_comes k nonce) place code says notes ids h =
    inl (down-code w (slice_get w.downs k) nonce place code h)
happens-code packages w (update_ends ok) place code says notes ids h = inl h
happens-code packages w (clock_moves stamp) place code says notes ids h = inl h
happens-code packages w is_lost place code says notes ids h = inl h
happens-code packages w finds_no_memory place code says notes ids h = inl h

-- ---- what was made stays made

abbrev pub IsMore : List (InSession Made) → List (InSession Made) → Type 0
IsMore made all = (more : List (InSession Made)) × (all ≡ made ++ more)

same-made : (made : List (InSession Made)) → IsMore made made
same-made made = ([], sym (append-nil made))

down-more : (w : World) (o : Option Reply) (nonce : List ℕ) → IsMore w.made (down_delivered w o nonce).made
down-more w None nonce = same-made w.made
down-more w (Some d) nonce = (made_by w.client w.client.session d.message nonce, refl)

up-more : (w : World) (o : Option Parts) (nonce : List ℕ) → IsMore w.made (up_delivered w o nonce).made
up-more w None nonce = same-made w.made
up-more w (Some m) nonce = same-made w.made

happens-more : (w : World) (e : Happening) → IsMore w.made (happens w e).made
unfolding happens
happens-more w (opens account kind n) = same-made w.made
happens-more w (up_comes k nonce) = up-more w (slice_get w.ups k) nonce
happens-more w (down_comes k nonce) = down-more w (slice_get w.downs k) nonce
happens-more w (update_ends ok) = same-made w.made
happens-more w (clock_moves stamp) = same-made w.made
happens-more w is_lost = same-made w.made
happens-more w finds_no_memory = same-made w.made

pub more-made : (made all : List (InSession Made)) (n msg cmd code : ℕ) → IsMore made all → WasMade made n msg cmd code
    → WasMade all n msg cmd code
more-made made all n msg cmd code x h =
    subst (λ l. WasMade l n msg cmd code) (sym x.1) (made-later made x.0 n msg cmd code h)

-- ---- over a schedule

pub run-snoc : (w : World) (done : List Happening) (e : Happening) → run w (done ++ e ∷ []) ≡ happens (run w done) e
run-snoc w [] e = refl
run-snoc w (x ∷ xs) e = run-snoc (happens w x) xs e

pub made-snoc : (w : World) (done : List Happening) (e : Happening)
    → IsMore (run w done).made (run w (done ++ e ∷ [])).made
made-snoc w done e =
    subst (λ (x : World). IsMore (run w done).made x.made) (sym (run-snoc w done e)) (happens-more (run w done) e)
