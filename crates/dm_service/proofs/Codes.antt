-- Each code that a server holds was told by a Status for what it sent in that session.
use Rattle.std.proofs.Common.{None, Some, ◌≡◌, ◌+◌, ◌-◌, ◌&&◌, ◌==◌, ◌⊎◌, ℕ, zero, suc, Bool, true, false, cond, not}
use Rattle.std.proofs.Common.{inl, inr}
use Rattle.std.proofs.Common.{List, [], ◌∷◌, ◌++◌, refl, sym, ap, subst, ◌∙◌, arith}
use Rattle.std.specs.Prelude.{Option, is_some, set, option_and_then}
use Rattle.std.specs.List.{Contains, list_any, filter}
use Rattle.syncml_types.specs.declared.command.StatusCmd.{StatusCmd}
use Rattle.syncml_types.specs.declared.command.ResultsCmd.{ResultsCmd}
use Rattle.syncml_types.specs.declared.values.Item.{Item}
use Rattle.syncml_types.specs.declared.command.Step.{Step}
use Rattle.syncml_types.specs.declared.command.Command.{Command}
use Rattle.syncml_types.specs.declared.command.Command.TheVariants as command
use Rattle.syncml_types.specs.Message.{Parts}
use Rattle.dm_headers.specs.declared.checks.Side.TheVariants.{User}
use Rattle.dm_headers.specs.declared.standings.Standing.{Standing}
use Rattle.dm_headers.specs.Checks.{fault_of, is_denied, passes}
use Rattle.dm_headers.specs.Standings.{hears}
use Rattle.dm_objects.specs.declared.piece.What.{What}
use Rattle.dm_objects.specs.declared.piece.What.TheVariants.{Whole, Buffered, Refused}
use Rattle.dm_objects.specs.Gathering.{gather}
use Rattle.dm_ends.specs.Commands.{is_abort}
use Rattle.dm_job.specs.declared.job.JobEntry.{JobEntry}
use Rattle.dm_service.specs.declared.sent.Sent.{Sent}
use Rattle.dm_service.specs.Service.{Told, Session, Service}
use Rattle.dm_service.specs.Matching.{find_sent, untold, told_at, with_code, coded, with_found, result_piece, Finding}
use Rattle.dm_service.specs.Matching.{found_in, takes_item, takes_items, takes_found, Matched, takes_command, matched}
use Rattle.dm_service.specs.Packages.{holds_number, not_sent, forgotten, queues_package, next_package, is_of_job}
use Rattle.dm_service.specs.Packages.{gives_up}
use Rattle.dm_service.specs.Sending.{sends}
use Rattle.dm_service.specs.Messages.{ended, denies, after_status, matched_in, with_matched, tells, queues_answers}
use Rattle.dm_service.specs.Messages.{in_session, answers_message, by_header, accepts}
use Rattle.dm_service.specs.Pieces.{still_sent, is_read}
use Rattle.dm_service.specs.Laws.{IsTold, code_at, CodesAreTold}
use Rattle.dm_service.proofs.Steps.{either}
use Rattle.dm_service.proofs.Gone.{found}

-- ---- elements

pub first_in : {A : Type 0} (x : A) (xs : List A) → Contains (x ∷ xs) x
first_in x xs = (0, omega arith, refl)

pub later_in : {A : Type 0} (x y : A) (ys : List A) → Contains ys x → Contains (y ∷ ys) x
later_in x y ys h = let l = h.1 in (suc h.0, omega (arith, l), h.2)

-- ---- what was sent

-- it was sent under these two numbers
pub record Named (sent : List Sent) (msg command : ℕ) (x : Sent) : Type 0 where
  pub within : Contains sent x
  pub msg_is : x.msg ≡ msg
  pub command_is : x.command ≡ command

named-later : (s : Sent) (ss : List Sent) (msg command : ℕ) (x : Sent) → Named ss msg command x
    → Named (s ∷ ss) msg command x
named-later s ss msg command x h =
    record { within = later_in x s ss h.within; msg_is = h.msg_is; command_is = h.command_is }

find-step : (msg command : ℕ) (s : Sent) (ss : List Sent) (a b : Bool) (x : Sent) → (s.msg == msg) ≡ a
    → (s.command == command) ≡ b
    → (find_sent msg command ss ≡ Some x → Named ss msg command x)
    → cond (a && b) (Some s) (find_sent msg command ss) ≡ Some x → Named (s ∷ ss) msg command x
find-step msg command s ss true true x e f rest h =
    let is : s ≡ x = cc in
    subst (λ y. Named (s ∷ ss) msg command y) is
    (record { within = first_in s ss; msg_is = grind (arith, e); command_is = grind (arith, f) })
find-step msg command s ss true false x e f rest h = named-later s ss msg command x (rest h)
find-step msg command s ss false b x e f rest h = named-later s ss msg command x (rest h)

pub find_named : (msg command : ℕ) (sent : List Sent) (x : Sent) → find_sent msg command sent ≡ Some x
    → Named sent msg command x
find_named msg command [] x h = absurd (cc)
find_named msg command (s ∷ ss) x h =
    find-step msg command s ss (s.msg == msg) (s.command == command) x refl refl (find_named msg command ss x) h

-- ---- a code

-- what is put at a place is there
set-code : (told : List Told) (k : ℕ) (t : Told) (place code : ℕ) → code_at (set told k t) place ≡ Some code
    → (code_at told place ≡ Some code) ⊎ ((place ≡ k) × (t.code ≡ Some code))
set-code [] k t place code h = inl h
set-code (x ∷ xs) zero t zero code h = inr (refl, h)
set-code (x ∷ xs) zero t (suc place) code h = inl h
set-code (x ∷ xs) (suc k) t zero code h = inl h
set-code (x ∷ xs) (suc k) t (suc place) code h = up (set-code xs k t place code h)
  where
    up : (code_at xs place ≡ Some code) ⊎ ((place ≡ k) × (t.code ≡ Some code))
        → (code_at xs place ≡ Some code) ⊎ ((suc place ≡ suc k) × (t.code ≡ Some code))
    up (inl h) = inl h
    up (inr h) = inr (ap suc h.0, h.1)

same-code : (a b : ℕ) → Some a ≡ Some b → a ≡ b
same-code a b h = cc

-- known before, or told by a Status among these commands
abbrev From : List Sent → List Command → List Told → ℕ → ℕ → Type 0
From sent cs told place code = (code_at told place ≡ Some code) ⊎ IsTold sent cs place code

by-sent : (sent : List Sent) (told : List Told) (c : StatusCmd) (cs : List Command) (place code : ℕ) (x : Sent)
    (b : Bool)
    → Named sent c.msg_ref c.cmd_ref x → x.counts ≡ b
    → code_at (cond b (with_code told x.number c.code) told) place ≡ Some code
    → From sent (command.Status c ∷ cs) told place code
by-sent sent told c cs place code x false is counts h = inl h
by-sent sent told c cs place code x true is counts h =
    or (set-code told (x.number - 1) (record (told_at told x.number) { code = Some c.code }) place code h)
  where
    or : (code_at told place ≡ Some code) ⊎ ((place ≡ x.number - 1) × (Some c.code ≡ Some code))
        → From sent (command.Status c ∷ cs) told place code
    or (inl h) = inl h
    or (inr h) = inr (record {
      status = c;
      within = first_in (command.Status c) cs;
      command = x;
      was_sent = is.within;
      msg_ref = is.msg_is;
      cmd_ref = is.command_is;
      counts = counts;
      number = sym h.0;
      code_is = same-code c.code code h.1;
    })

status-codes : (sent : List Sent) (told : List Told) (c : StatusCmd) (cs : List Command) (place code : ℕ)
    (o : Option Sent)
    → find_sent c.msg_ref c.cmd_ref sent ≡ o → code_at (coded told o c.code) place ≡ Some code
    → From sent (command.Status c ∷ cs) told place code
status-codes sent told c cs place code None e h = inl h
status-codes sent told c cs place code (Some x) e h =
    by-sent sent told c cs place code x x.counts (find_named c.msg_ref c.cmd_ref sent x e) refl h

-- ---- Results tell no code

found-code : (told : List Told) (number : ℕ) (step : Step) (place code : ℕ)
    → code_at (with_found told number step) place ≡ Some code → code_at told place ≡ Some code
found-code told number step place code h =
    or (set-code told (number - 1) (record (told_at told number) { found = (told_at told number).found ++ step ∷ [] })
    place
    code h)
  where
    or : (code_at told place ≡ Some code) ⊎ ((place ≡ number - 1) × ((told_at told number).code ≡ Some code))
        → code_at told place ≡ Some code
    or (inl h) = h
    or (inr h) = subst (λ k. code_at told k ≡ Some code) (sym h.0) h.1

what-code : (told : List Told) (number : ℕ) (w : What) (place code : ℕ)
    → code_at (found_in told number w) place ≡ Some code → code_at told place ≡ Some code
what-code told number (Whole step) place code h = found-code told number step place code h
what-code told number Buffered place code h = h
what-code told number (Refused c) place code h = h

items-code : (max number : ℕ) (r : ResultsCmd) (x : Finding) (items : List Item) (place code : ℕ)
    → code_at (takes_items max number r x items).told place ≡ Some code → code_at x.told place ≡ Some code
items-code max number r x [] place code h = h
items-code max number r x (i ∷ is) place code h =
    what-code x.told number (gather max x.object (result_piece r i)).what place code
    (items-code max number r (takes_item max number r x i) is place code h)

results-code : (max : ℕ) (o : Option Sent) (r : ResultsCmd) (x : Finding) (place code : ℕ)
    → code_at (takes_found max o r x).told place ≡ Some code → code_at x.told place ≡ Some code
results-code max None r x place code h = h
results-code max (Some s) r x place code h = items-code max s.number r x r.items place code h

-- ---- a whole message

command-codes : (max : ℕ) (sent : List Sent) (x : Matched) (c : Command) (cs : List Command) (place code : ℕ)
    → code_at (takes_command max sent x c).finding.told place ≡ Some code → From sent (c ∷ cs) x.finding.told place code
command-codes max sent x (command.Status c) cs place code h =
    status-codes sent x.finding.told c cs place code (find_sent c.msg_ref c.cmd_ref sent) refl h
command-codes max sent x (command.Results r) cs place code h =
    inl (results-code max (option_and_then (λ msg. find_sent msg r.cmd_ref sent) r.msg_ref) r x.finding place code h)
command-codes max sent x (command.Alert a) cs place code h = inl h
command-codes max sent x (command.Plain c) cs place code h = inl h
command-codes max sent x (command.Atomic b) cs place code h = inl h
command-codes max sent x (command.Sequence b) cs place code h = inl h

told-later : (sent : List Sent) (c : Command) (cs : List Command) (place code : ℕ) → IsTold sent cs place code
    → IsTold sent (c ∷ cs) place code
told-later sent c cs place code h = record {
  status = h.status;
  within = later_in (command.Status h.status) c cs h.within;
  command = h.command;
  was_sent = h.was_sent;
  msg_ref = h.msg_ref;
  cmd_ref = h.cmd_ref;
  counts = h.counts;
  number = h.number;
  code_is = h.code_is;
}

body-step : (max : ℕ) (sent : List Sent) (x : Matched) (c : Command) (cs : List Command) (place code : ℕ)
    → From sent cs (takes_command max sent x c).finding.told place code → From sent (c ∷ cs) x.finding.told place code
body-step max sent x c cs place code (inl h) = command-codes max sent x c cs place code h
body-step max sent x c cs place code (inr h) = inr (told-later sent c cs place code h)

body-codes : (max : ℕ) (sent : List Sent) (x : Matched) (cs : List Command) (place code : ℕ)
    → code_at (matched max sent x cs).finding.told place ≡ Some code → From sent cs x.finding.told place code
unfolding matched
body-codes max sent x [] place code h = inl h
body-codes max sent x (c ∷ cs) place code h =
    body-step max sent x c cs place code (body-codes max sent (takes_command max sent x c) cs place code h)

-- ---- the machine

-- known before, or told by a message that is read
abbrev Comes : List Sent → Parts → Bool → List Told → ℕ → ℕ → Type 0
Comes sent m read told place code =
    (code_at told place ≡ Some code) ⊎ (IsTold sent m.body place code × (read ≡ true))

passed : (sent : List Sent) (m : Parts) (read : Bool) (told : List Told) (place code : ℕ) → read ≡ true
    → From sent m.body told place code → Comes sent m read told place code
passed sent m read told place code p (inl h) = inl h
passed sent m read told place code p (inr h) = inr (h, p)

tells-codes : (v : Service) (s : Session) (m : Parts) (b : Bool) (place code : ℕ)
    → code_at (cond b (with_matched v s (matched_in v s m)) v).told place ≡ Some code
    → Comes s.sent m b v.told place code
tells-codes v s m true place code h =
    passed s.sent m true v.told place code refl (body-codes v.job.limits.max_obj s.sent _ m.body place code h)
tells-codes v s m false place code h = inl h

queues-told : (v : Service) (ps : List (List JobEntry)) → (queues_package v ps).told ≡ v.told
queues-told v [] = refl
queues-told v (p ∷ ps) = refl

package-told : (v : Service) (t : Standing) → (next_package v t).told ≡ v.told
package-told v t =
    either (λ (w : Service). w.told ≡ v.told) (t.accepted && t.heard && not (list_any is_of_job v.queue))
    (queues_package v v.packages) v (queues-told v v.packages) refl

sends-told : (v : Service) (s : Session) (m : Parts) (code : ℕ) → (sends v s m code).told ≡ v.told
unfolding sends
sends-told v s m code = refl

pub denies_told : (v : Service) (s : Session) (m : Parts) (code : ℕ) (nonce : List ℕ)
    → (denies v s m code nonce).told ≡ v.told
unfolding denies
denies_told v s m code nonce = refl

pub message_told : (v : Service) (s : Session) (m : Parts) (code : ℕ) (nonce : List ℕ)
    → (answers_message v s m code nonce).told ≡ (tells v s m code).told
message_told v s m code nonce =
    let told = tells v s m code in
    let t = in_session told s in
    let waits = queues_answers told m code nonce in
    sends-told (next_package waits t.progress.standing) t m code ∙ package-told waits t.progress.standing

header-by : (v : Service) (s : Session) (m : Parts) (header : ℕ) (nonce : List ℕ) (place code : ℕ)
    (abort second : Bool)
    → code_at
    (cond abort (ended v s) (cond second (denies v s m header nonce) (answers_message v s m header nonce))).told
    place ≡ Some code
    → Comes s.sent m (not abort && not second && passes header) v.told place code
header-by v s m header nonce place code true second h = inl h
header-by v s m header nonce place code false true h =
    inl (subst (λ t. code_at t place ≡ Some code) (denies_told v s m header nonce) h)
header-by v s m header nonce place code false false h =
    tells-codes v s m (passes header) place code
    (subst (λ t. code_at t place ≡ Some code) (message_told v s m header nonce) h)

-- ---- a package that is given up

forgotten-code : (given : List JobEntry) (n : ℕ) (told : List Told) (place code : ℕ)
    → code_at (forgotten given n told) place ≡ Some code → code_at told place ≡ Some code
forgotten-code given n [] place code h = h
forgotten-code given n (t ∷ ts) zero code h = here (holds_number given n) h
  where
    here : (b : Bool) → (cond b untold t).code ≡ Some code → t.code ≡ Some code
    here true h = absurd (cc)
    here false h = h
forgotten-code given n (t ∷ ts) (suc place) code h = forgotten-code given (n + 1) ts place code h

filter-step : {A : Type 0} (x y : A) (kept ys : List A) (b : Bool) → (Contains kept x → Contains ys x)
    → Contains (cond b (y ∷ kept) kept) x → Contains (y ∷ ys) x
filter-step x y kept ys false up h = later_in x y ys (up h)
filter-step x y kept ys true up (zero, l, e) = (zero, omega arith, e)
filter-step x y kept ys true up (suc k, l, e) = later_in x y ys (up (k, omega (arith, l), e))

pub filter_in : {A : Type 0} (p : A → Bool) (xs : List A) (x : A) → Contains (filter p xs) x → Contains xs x
filter_in p [] x h = h
filter_in p (y ∷ ys) x h = filter-step x y (filter p ys) ys (p y) (filter_in p ys x) h

-- a machine in its session, of which no more was told, and which has these sent
record Kept (told : List Told) (sent : List Sent) (w : Service) : Type 0 where
  session : Session
  is_it : w.session ≡ Some session
  same_sent : session.sent ≡ sent
  was_told : (place code : ℕ) → code_at w.told place ≡ Some code → code_at told place ≡ Some code

gives-kept : (v : Service) (s : Session) → Kept v.told (not_sent v.newest s.sent) (gives_up v s)
unfolding gives_up
gives-kept v s = record {
  session = _;
  is_it = refl;
  same_sent = refl;
  was_told = λ place code h. forgotten-code v.newest 1 v.told place code h;
}

status-kept : (v : Service) (s : Session) (b : Bool) → v.session ≡ Some s
    → Kept v.told (cond b (not_sent v.newest s.sent) s.sent) (cond b (gives_up v s) v)
status-kept v s true e = gives-kept v s
status-kept v s false e = record { session = s; is_it = e; same_sent = refl; was_told = λ place code h. h }

told-sent : (sent more : List Sent) (cs : List Command) (place code : ℕ)
    → ((x : Sent) → Contains sent x → Contains more x)
    → IsTold sent cs place code → IsTold more cs place code
told-sent sent more cs place code up h = record {
  status = h.status;
  within = h.within;
  command = h.command;
  was_sent = up h.command h.was_sent;
  msg_ref = h.msg_ref;
  cmd_ref = h.cmd_ref;
  counts = h.counts;
  number = h.number;
  code_is = h.code_is;
}

still-within : (given : List JobEntry) (sent : List Sent) (b : Bool) (x : Sent)
    → Contains (cond b (not_sent given sent) sent) x → Contains sent x
still-within given sent true x h = filter_in (λ (y : Sent). not (holds_number given y.number)) sent x h
still-within given sent false x h = h

-- what is still sent was sent
pub still_within : (v : Service) (s : Session) (m : Parts) (nonce : List ℕ) (x : Sent)
    → Contains (still_sent v s m nonce) x → Contains s.sent x
still_within v s m nonce x h =
    let heard = hears User v.job.account s.progress.standing m nonce in
    still-within v.newest s.sent (not s.progress.standing.we_failed && is_denied heard.status) x h

pub told_still : (v : Service) (s : Session) (m : Parts) (nonce : List ℕ) (cs : List Command) (place code : ℕ)
    → IsTold (still_sent v s m nonce) cs place code → IsTold s.sent cs place code
told_still v s m nonce cs place code h =
    told-sent (still_sent v s m nonce) s.sent cs place code (still_within v s m nonce) h

comes-kept : (told : List Told) (sent : List Sent) (w : Service) (m : Parts) (read : Bool) (place code : ℕ)
    (k : Kept told sent w)
    → Comes k.session.sent m read w.told place code → Comes sent m read told place code
comes-kept told sent w m read place code k (inl h) = inl (k.was_told place code h)
comes-kept told sent w m read place code k (inr h) =
    inr (subst (λ (l : List Sent). IsTold l m.body place code) k.same_sent h.0, h.1)

pub codes_are_told : CodesAreTold
unfolding accepts
codes_are_told v s m nonce place code h =
    let heard = hears User v.job.account s.progress.standing m nonce in
    let t : Session = record s { progress = record s.progress { standing = heard.standing } } in
    let u : Service = record v { job = record v.job { account = heard.account }; session = Some t } in
    let failed = s.progress.standing.we_failed in
    let w = after_status u t failed heard.status in
    let k = status-kept u t (not failed && is_denied heard.status) refl in
    let is_x : in_session w t ≡ k.session = found w.session t k.session k.is_it in
    let abort = not (is_some (fault_of m)) && list_any is_abort m.body in
    comes-kept v.told (still_sent v s m nonce) w m (is_read v s m nonce) place code k
    (header-by w k.session m heard.code nonce place code abort heard.second
    (subst (λ y. code_at (by_header w y m heard nonce).told place ≡ Some code) is_x h))
