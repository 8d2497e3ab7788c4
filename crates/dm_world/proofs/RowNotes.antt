-- What the server has to send stays in the row of the job's numbers, and what it notes as sent has its number.
use Rattle.std.proofs.Common.{◌≡◌, ◌+◌, ◌&&◌, ℕ, Bool, true, false, cond, not, List, [], ◌∷◌}
use Rattle.std.proofs.Common.{◌++◌, map, take, drop, Option, None, Some, IfSome, refl, sym, ◌∙◌, ap, subst}
use Rattle.std.proofs.Common.{◌⊎◌, inl, inr}
use Rattle.std.specs.Prelude.{is_some}
use Rattle.std.specs.List.{AllByRecursion, Contains, list_any, filter}
use Rattle.std.proofs.lemmas.List.Elements.{Contains-append_cases}
use Rattle.syncml_types.specs.declared.values.Header.{Header}
use Rattle.syncml_types.specs.declared.command.Command.{Command}
use Rattle.syncml_types.specs.Message.{Parts}
use Rattle.dm_headers.specs.declared.checks.Side.TheVariants.{User}
use Rattle.dm_headers.specs.declared.standings.Standing.{Standing}
use Rattle.dm_headers.specs.Checks.{fault_of, is_denied, passes}
use Rattle.dm_headers.specs.Standings.{Heard, hears}
use Rattle.dm_headers.specs.Headers.{header_answer}
use Rattle.dm_pack.specs.Filling.{commands_of, taken, cut, next_part, next_rest, tail_of, tail_commands, fill}
use Rattle.dm_ends.specs.Commands.{alert, is_abort, origin_of}
use Rattle.dm_job.specs.declared.job.JobEntry.{JobEntry}
use Rattle.dm_job.specs.Sound.{all_entries}
use Rattle.dm_service.specs.declared.sent.Carried.{Carried}
use Rattle.dm_service.specs.declared.sent.Sent.{Sent}
use Rattle.dm_service.specs.Service.{Waiting, Session, Service}
use Rattle.dm_service.specs.Packages.{is_of_job, job_waiting, queues_package, next_package, package_put_back, gives_up}
use Rattle.dm_service.specs.Answers.{command_answers}
use Rattle.dm_service.specs.Sending.{header_for, goes_out, carried_on, sends}
use Rattle.dm_service.specs.Messages.{first_session, begins, ended, denies, answer_waiting, after_status, matched_in}
use Rattle.dm_service.specs.Messages.{with_matched, tells, queues_answers, in_session, answers_message}
use Rattle.dm_service.specs.Messages.{by_header, accepts}
use Rattle.dm_service.specs.Events as server
use Rattle.dm_world.specs.Deeds.{all_deeds}
use Rattle.dm_world.specs.Acts.{Act, acts, command_acts, entries_acts, job_acts}
use Rattle.dm_world.specs.Packing.{acts_to_send}
use Rattle.dm_world.proofs.Lists.{either, either_is, Each}
use Rattle.dm_world.proofs.Client.{fill-header}
use Rattle.dm_world.proofs.Packing.{tail-acts, cut-there, numbered-acts}
use Rattle.dm_world.proofs.Keeps.{farewell-acts}
use Rattle.dm_world.proofs.Waits.{waiting_acts, report-acts, package-waits, entries-acts, job-acts}
use Rattle.dm_world.proofs.Returns.{IsReport, header-reports, made-reports}
use Rattle.dm_world.proofs.SaysMade.{each-contains}
use Rattle.dm_world.proofs.Marks.{WaitsOf, JobIs}
use Rattle.dm_world.proofs.Noted.{Notes, tells-notes, answers-notes, package-notes, status-notes, IsIn}
use Rattle.dm_world.proofs.Noted.{Within, session-within, status-within, tells-within, next-numbers}
use Rattle.dm_world.proofs.RowJob.{RowEntries, rows-behind}
use Rattle.dm_world.proofs.RowSent.{RowWaits, RowList, list-append, RowSent, AllActs, left_of, out-rows}

-- what the server has still to send, and may have again
pub record RowNotes (job : List Act) (v : Service) : Type 0 where
  pub queue : RowList job v.queue (job_acts v.packages)
  pub newest : RowEntries job (v.newest ++ all_entries v.packages)
  pub whole : RowEntries job (all_entries v.job.packages)

-- ---- what waits

answers-rows : (job : List Act) (cs : List Command) (rest : List Act) → Each IsReport cs
    → RowList job (map answer_waiting cs) rest
answers-rows job [] rest h = tt
answers-rows job (c ∷ cs) rest h = (report-acts c h.0, answers-rows job cs rest h.1)

answers-none : (cs : List Command) → Each IsReport cs → waiting_acts (map answer_waiting cs) ≡ []
answers-none [] h = refl
answers-none (c ∷ cs) h =
    ap (λ l. l ++ waiting_acts (map answer_waiting cs)) (report-acts c h.0) ∙ answers-none cs h.1

others-rows : (job : List Act) (ws : List Waiting) (rest more : List Act) → RowList job ws rest
    → RowList job (filter (λ w. not (is_of_job w)) ws) more
others-rows job [] rest more h = tt
others-rows job (w ∷ ws) rest more h =
    let others = filter (λ w. not (is_of_job w)) ws in
    either_is (λ l. RowList job l more) (not (is_of_job w)) {x = w ∷ others} {y = others}
    (λ e. (
      kept w.carries w.entry.begun (command_acts w.entry.command) (waiting_acts ws ++ rest)
          (waiting_acts others ++ more) e h.0,
      others-rows job ws rest more h.1,
    )) (λ e. others-rows job ws rest more h.1)
  where
    kept : (o : Option Carried) (begun : Bool) (xs a b : List Act) → not (is_some o) ≡ true
        → RowWaits job o begun xs a
        → RowWaits job o begun xs b
    kept None begun xs a b e h = h
    kept (Some c) begun xs a b e h = absurd (cc)

package-rows : (job : List Act) (p more : List JobEntry) → RowEntries job (p ++ more)
    → RowList job (map job_waiting p) (entries_acts more)
package-rows job [] more h = tt
package-rows job (e ∷ p) more h = (
  subst (RowWaits job (job_waiting e).carries false (command_acts e.command))
      (entries-acts p more ∙ ap (λ l. l ++ entries_acts more) (sym (package-waits p))) h.0,
  package-rows job p more h.1,
)

put-rows : (job : List Act) (p : List JobEntry) (ps : List (List JobEntry)) → RowEntries job (p ++ all_entries ps)
    → RowEntries job (all_entries (package_put_back p ps))
put-rows job [] ps h = h
put-rows job (e ∷ es) ps h = h

gives-rows : (job : List Act) (v : Service) (s : Session) → RowNotes job v → RowNotes job (gives_up v s)
unfolding gives_up
gives-rows job v s h = record {
  queue = others-rows job v.queue (job_acts v.packages) (job_acts (package_put_back v.newest v.packages)) h.queue;
  newest = put-rows job v.newest v.packages h.newest;
  whole = h.whole;
}

told-rows : (job : List Act) (v : Service) (s : Session) (m : Parts) (code : ℕ) → RowNotes job v
    → RowNotes job (tells v s m code)
told-rows job v s m code h =
    either (RowNotes job) (passes code) {x = with_matched v s (matched_in v s m)} {y = v}
    (record { queue = h.queue; newest = h.newest; whole = h.whole }) h

asked-rows : (job : List Act) (v : Service) (m : Parts) (code : ℕ) (nonce : List ℕ) → RowNotes job v
    → RowNotes job (queues_answers v m code nonce)
asked-rows job v m code nonce h =
    let first = map answer_waiting (header_answer m.header code nonce) in
    let cs = cond (passes code) (command_answers m) [] in
    let made = map answer_waiting cs in
    let rest = job_acts v.packages in
    let reports = made-reports m code in
    record {
      queue =
          list-append job (first ++ v.queue) made rest
          (list-append job first v.queue (waiting_acts made ++ rest)
          (answers-rows job (header_answer m.header code nonce) (waiting_acts v.queue ++ (waiting_acts made ++ rest))
          (header-reports m.header code nonce))
          (subst (λ l. RowList job v.queue (l ++ rest)) (sym (answers-none cs reports)) h.queue))
          (answers-rows job cs rest reports);
      newest = h.newest;
      whole = h.whole;
    }

queued-rows : (job : List Act) (v : Service) (ps : List (List JobEntry)) → v.packages ≡ ps → RowNotes job v
    → RowNotes job (queues_package v ps)
queued-rows job v [] e h = h
queued-rows job v (p ∷ ps) e h =
    let all = subst (λ l. RowEntries job (all_entries l)) e (rows-behind job v.newest (all_entries v.packages) h.newest)
    in
    record {
      queue =
          list-append job v.queue (map job_waiting p) (job_acts ps)
          (subst (RowList job v.queue)
          (ap job_acts e ∙ job-acts p ps ∙ ap (λ l. l ++ job_acts ps) (sym (package-waits p))) h.queue)
          (package-rows job p (all_entries ps) all);
      newest = all;
      whole = h.whole;
    }

next-rows : (job : List Act) (v : Service) (t : Standing) → RowNotes job v → RowNotes job (next_package v t)
next-rows job v t h =
    either (RowNotes job) (t.accepted && t.heard && not (list_any is_of_job v.queue))
    {x = queues_package v v.packages} {y = v} (queued-rows job v v.packages refl h) h

-- ---- what it notes

-- the reply has it, with its number
abbrev pub IsNew : List (List JobEntry) → List Act → Option Parts → Service → Sent → Type 0
IsNew packages job None x y = ⊥
IsNew packages job (Some m) x y = RowSent packages job (all_deeds (origin_of m) m.body) (acts_to_send x) m.header.msg y

-- it was noted before, or the reply has it
abbrev pub IsKnown : List (List JobEntry) → List Act → List Sent → Option Parts → Service → Session → Type 0
IsKnown packages job old reply x t = (y : Sent) → Contains t.sent y → Contains old y ⊎ IsNew packages job reply x y

-- and each act of it is the job's
abbrev pub IsReplyOf : List (List JobEntry) → List Act → Service → Option Parts → Type 0
IsReplyOf packages job x reply = IfSome reply (λ (m : Parts). AllActs packages job (acts m.body) (acts_to_send x))

pub record Rowed (packages : List (List JobEntry)) (job : List Act) (old : List Sent) (x : Service) : Type 0 where
  pub rows : RowNotes job x
  pub all : IsReplyOf packages job x (server.reply_of x)
  pub known : IfSome x.session (IsKnown packages job old (server.reply_of x) x)

fill-rows : (packages : List (List JobEntry)) (job : List Act) (ws : List Waiting) (h : Header) (room msg : ℕ)
    (heard : Bool) (rest : List Act) → AllByRecursion (WaitsOf packages) ws
    → RowList job ws rest
    → Each (RowSent packages job
    (all_deeds (origin_of (fill (map (λ (w : Waiting). w.entry) ws) h room heard).message)
    (fill (map (λ (w : Waiting). w.entry) ws) h room heard).message.body)
    (waiting_acts (carried_on (fill (map (λ (w : Waiting). w.entry) ws) h room heard).left
    (drop (fill (map (λ (w : Waiting). w.entry) ws) h room heard).whole ws)) ++ rest) msg)
    (goes_out msg 1 (fill (map (λ (w : Waiting). w.entry) ws) h room heard).whole
    (fill (map (λ (w : Waiting). w.entry) ws) h room heard).cut ws)
    × RowList job (carried_on (fill (map (λ (w : Waiting). w.entry) ws) h room heard).left
    (drop (fill (map (λ (w : Waiting). w.entry) ws) h room heard).whole ws)) rest
    × AllActs packages job (acts (fill (map (λ (w : Waiting). w.entry) ws) h room heard).message.body)
    (waiting_acts (carried_on (fill (map (λ (w : Waiting). w.entry) ws) h room heard).left
    (drop (fill (map (λ (w : Waiting). w.entry) ws) h room heard).whole ws)) ++ rest)
unfolding fill
fill-rows packages job ws h room msg heard rest all row =
    let es = map (λ (w : Waiting). w.entry) ws in
    let whole = taken h room [] es in
    let before = commands_of (take whole es) in
    let n = cut h room before (drop whole es) in
    let tail = tail_of (next_rest n (drop whole es)) heard in
    let x = out-rows packages job _ msg 1 whole n ws (tail_commands tail) rest (tail-acts tail)
    (λ e r k f g. cut-there h room before (drop whole es) e r k f g) all row in
    let all = before ++ next_part n (drop whole es) ++ tail_commands tail in (
      x.rows,
      x.waits,
      subst (λ l. AllActs packages job l (waiting_acts (left_of whole n ws) ++ rest)) (sym (numbered-acts 1 all)) x.all,
    )

out-known : (packages : List (List JobEntry)) (job : List Act) (old sent out : List Sent) (msg : ℕ) (m : Parts)
    (x : Service) → IsIn sent old
    → m.header.msg ≡ msg
    → Each (RowSent packages job (all_deeds (origin_of m) m.body) (acts_to_send x) msg) out
    → (y : Sent) → Contains (sent ++ out) y
    → Contains old y ⊎ IsNew packages job (Some m) x y
out-known packages job old sent out msg m x within f rows y h = by (Contains-append_cases sent out y h)
  where
    by : Contains sent y ⊎ Contains out y → Contains old y ⊎ IsNew packages job (Some m) x y
    by (inl k) = inl (within y k)
    by (inr k) =
        inr (subst (λ i. RowSent packages job (all_deeds (origin_of m) m.body) (acts_to_send x) i y) (sym f)
        (each-contains (RowSent packages job (all_deeds (origin_of m) m.body) (acts_to_send x) msg) out y rows k))

sends-rowed : (packages : List (List JobEntry)) (job : List Act) (v : Service) (s : Session) (m : Parts) (code : ℕ)
    (old : List Sent) → IsIn s.sent old
    → Notes packages v
    → RowNotes job v
    → Rowed packages job old (sends v s m code)
unfolding sends
sends-rowed packages job v s m code old within notes h =
    let p = s.progress in
    let header = header_for v p m in
    let f = fill (map (λ (w : Waiting). w.entry) v.queue) header p.standing.room p.standing.heard in
    let same = fill-header (map (λ (w : Waiting). w.entry) v.queue) header p.standing.room p.standing.heard in
    let msg = p.standing.own + 1 in
    let rows = fill-rows packages job v.queue header p.standing.room msg p.standing.heard (job_acts v.packages)
    notes.queue h.queue in
    record {
      rows = record { queue = rows.1; newest = h.newest; whole = h.whole };
      all = rows.2;
      known =
          out-known packages job old s.sent (goes_out msg 1 f.whole f.cut v.queue) msg f.message
          (sends v s m code) within
          (ap (λ (h : Header). h.msg) same ∙ (next-numbers v p m).1) rows.0;
    }

denies-rowed : (packages : List (List JobEntry)) (job : List Act) (v : Service) (s : Session) (m : Parts)
    (code : ℕ) (nonce : List ℕ)
    (old : List Sent) → IsIn s.sent old
    → RowNotes job v
    → Rowed packages job old (denies v s m code nonce)
unfolding denies
denies-rowed packages job v s m code nonce old within h = record {
  rows = record { queue = h.queue; newest = h.newest; whole = h.whole };
  all = subst (λ l. AllActs packages job l (acts_to_send v)) (sym
      (numbered-acts 1 (header_answer m.header code nonce ++ alert 1223 None [] ∷ []) ∙ farewell-acts m code nonce)) tt;
  known = λ y k. inl (within y k);
}

ended-rowed : (packages : List (List JobEntry)) (job : List Act) (v : Service) (s : Session) (old : List Sent)
    → IsIn s.sent old → RowNotes job v
    → Rowed packages job old (ended v s)
ended-rowed packages job v s old within h = record {
  rows = record { queue = h.queue; newest = h.newest; whole = h.whole };
  all = tt;
  known = λ y k. inl (within y k);
}

-- ---- a message

message-rowed : (packages : List (List JobEntry)) (job : List Act) (v : Service) (s : Session) (m : Parts) (code : ℕ)
    (nonce : List ℕ) (old : List Sent) → JobIs packages → IsIn s.sent old
    → Within old v.session
    → Notes packages v
    → RowNotes job v
    → Rowed packages job old (answers_message v s m code nonce)
message-rowed packages job v s m code nonce old is h k notes rows =
    let told = tells v s m code in
    let t = in_session told s in
    let waits = queues_answers told m code nonce in
    sends-rowed packages job (next_package waits t.progress.standing) t m code old
    (session-within old told.session s (tells-within v s m code old h k) h)
    (package-notes packages waits t.progress.standing is
    (answers-notes packages told m code nonce (tells-notes packages v s m code notes)))
    (next-rows job waits t.progress.standing (asked-rows job told m code nonce (told-rows job v s m code rows)))

header-rowed : (packages : List (List JobEntry)) (job : List Act) (v : Service) (s : Session) (m : Parts) (h : Heard)
    (nonce : List ℕ) (old : List Sent) → JobIs packages → IsIn s.sent old
    → Within old v.session
    → Notes packages v
    → RowNotes job v
    → Rowed packages job old (by_header v s m h nonce)
header-rowed packages job v s m h nonce old is within k notes rows =
    either (Rowed packages job old) (not (is_some (fault_of m)) && list_any is_abort m.body) {x = ended v s}
    {y = cond h.second (denies v s m h.code nonce) (answers_message v s m h.code nonce)}
    (ended-rowed packages job v s old within rows)
    (either (Rowed packages job old) h.second {x = denies v s m h.code nonce} {y = answers_message v s m h.code nonce}
    (denies-rowed packages job v s m h.code nonce old within rows)
    (message-rowed packages job v s m h.code nonce old is within k notes rows))

status-rows : (job : List Act) (v : Service) (s : Session) (failed : Bool) (status : ℕ) → RowNotes job v
    → RowNotes job (after_status v s failed status)
status-rows job v s failed status h =
    either (RowNotes job) (not failed && is_denied status) {x = gives_up v s} {y = v} (gives-rows job v s h) h

pub accepts-rowed : (packages : List (List JobEntry)) (job : List Act) (v : Service) (s : Session) (m : Parts)
    (nonce : List ℕ) → JobIs packages
    → Notes packages v
    → RowNotes job v
    → Rowed packages job s.sent (accepts v s m nonce)
unfolding accepts
accepts-rowed packages job v s m nonce is notes rows =
    let h = hears User v.job.account s.progress.standing m nonce in
    let t : Session = record s { progress = record s.progress { standing = h.standing } } in
    let heard : Service = record v { job = record v.job { account = h.account }; session = Some t } in
    let failed = s.progress.standing.we_failed in
    let w = after_status heard t failed h.status in
    let y = in_session w t in
    let within = status-within heard t failed h.status s.sent (λ y i. i) (λ y i. i) in
    header-rowed packages job w y m h nonce s.sent is (session-within s.sent w.session t within (λ y i. i)) within
    (status-notes packages heard t failed h.status
    (record { job = notes.job; packages_are = notes.packages_are; newest = notes.newest; queue = notes.queue }))
    (status-rows job heard t failed h.status
    (record { queue = rows.queue; newest = rows.newest; whole = rows.whole }))

pub opens-rowed : (packages : List (List JobEntry)) (job : List Act) (v : Service) (n : ℕ) (m : Parts)
    (nonce : List ℕ) → JobIs packages
    → Notes packages v
    → RowNotes job v
    → Rowed packages job [] (server.opens_session v n m nonce)
opens-rowed packages job v n m nonce is notes rows =
    accepts-rowed packages job (begins v n) (first_session v.job.account n) m nonce is
    (record {
      job = notes.job;
      packages_are =
          either (λ ps. AllByRecursion (Contains (all_entries packages)) (all_entries ps)) (is_some v.runs_in)
          {x = []} {y = v.job.packages} tt notes.job;
      newest = tt;
      queue = tt;
    })
    (record {
      queue = tt;
      newest = either (λ ps. RowEntries job (all_entries ps)) (is_some v.runs_in) {x = []} {y = v.job.packages} tt
          rows.whole;
      whole = rows.whole;
    })
