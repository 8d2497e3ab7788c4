-- What waits at the server, and the acts of a message and of what is left.
use Rattle.std.proofs.Common.{zero, suc, ◌≡◌, ◌<◌, ◌≤◌, ◌+◌, ◌&&◌, ℕ, Bool, true, false, not, List, []}
use Rattle.std.proofs.Common.{◌∷◌}
use Rattle.std.proofs.Common.{◌++◌, Option, None, Some, map, refl, sym, ◌∙◌, ap, subst, arith, take, drop, length}
use Rattle.std.proofs.Common.{append_assoc}
use Rattle.std.specs.List.{list_any}
use Rattle.std.proofs.lemmas.List.{append-nil, length-drop}
use Rattle.syncml_types.specs.declared.command.Step.{Step}
use Rattle.syncml_types.specs.declared.values.Header.{Header}
use Rattle.syncml_types.specs.declared.command.Command.{Command}
use Rattle.syncml_types.specs.declared.command.Command.TheVariants as command
use Rattle.syncml_types.specs.Message.{Parts}
use Rattle.syncml_parts.specs.Numbering.{ids_in}
use Rattle.dm_headers.specs.declared.standings.Standing.{Standing}
use Rattle.dm_headers.specs.Headers.{is_withheld as header_withheld, header_answer}
use Rattle.dm_atomic.specs.Made.{Made, Status, Result, Broken, told, command_told, is_suppressed}
use Rattle.dm_pack.specs.Entries.{Entry, part_of, rest_of}
use Rattle.dm_pack.specs.Filling.{fill, taken, cut, commands_of, next_part, next_rest}
use Rattle.dm_ends.specs.Commands.{is_report}
use Rattle.dm_job.specs.declared.job.JobEntry.{JobEntry}
use Rattle.dm_job.specs.Sound.{all_entries}
use Rattle.dm_service.specs.declared.sent.Carried.{Carried}
use Rattle.dm_service.specs.declared.sent.Sent.{Sent}
use Rattle.dm_service.specs.Service.{Waiting, Session, Service, entries_of}
use Rattle.dm_service.specs.Packages.{is_of_job, job_waiting, queues_package, next_package}
use Rattle.dm_service.specs.Sending.{header_for, in_a_row, rest_holds, part_holds, goes_out, carried_on, sends}
use Rattle.dm_service.specs.Messages.{answer_waiting}
use Rattle.dm_world.specs.Acts.{Act, command_acts, acts, entries_acts, job_acts, join}
use Rattle.dm_world.specs.Packing.{acts_to_send, IsCarried, IsOfJobOrReport}
use Rattle.dm_world.proofs.Lists.{either, Each, each-drop}
use Rattle.dm_world.proofs.Joins.{acts-append}
use Rattle.dm_world.proofs.Packing.{fill-joined, commands-append}

abbrev pub waiting_acts : List Waiting → List Act
waiting_acts ws = acts (commands_of (entries_of ws))

entries-append : (a b : List Waiting) → entries_of (a ++ b) ≡ entries_of a ++ entries_of b
entries-append [] b = refl
entries-append (w ∷ ws) b = ap (λ x. w.entry ∷ x) (entries-append ws b)

pub waiting-append : (a b : List Waiting) → waiting_acts (a ++ b) ≡ waiting_acts a ++ waiting_acts b
waiting-append a b =
    ap (λ x. acts (commands_of x)) (entries-append a b) ∙ ap acts (commands-append (entries_of a) (entries_of b))
    ∙ acts-append (commands_of (entries_of a)) (commands_of (entries_of b))

-- ---- what is told has no acts

entry-acts : (m : Made) → command_acts (command_told m) ≡ []
entry-acts (Status p code) = refl
entry-acts (Result p f) = refl
entry-acts (Broken t) = refl

pub told-acts : (ms : List Made) → acts (told ms) ≡ []
told-acts [] = refl
told-acts (m ∷ ms) =
    either (λ x. acts x ≡ []) (is_suppressed m) (told-acts ms)
    (ap (λ x. x ++ acts (told ms)) (entry-acts m) ∙ told-acts ms)

pub header-acts : (h : Header) (code : ℕ) (nonce : List ℕ) → acts (header_answer h code nonce) ≡ []
unfolding header_answer
header-acts h code nonce = either (λ x. acts x ≡ []) (header_withheld h code) refl refl

pub answers-acts : (cs : List Command) → waiting_acts (map answer_waiting cs) ≡ acts cs
answers-acts [] = refl
answers-acts (c ∷ cs) = ap (λ x. command_acts c ++ x) (answers-acts cs)

-- ---- the next package

pub package-waits : (es : List JobEntry) → waiting_acts (map job_waiting es) ≡ entries_acts es
package-waits [] = refl
package-waits (e ∷ es) = ap (λ x. command_acts e.command ++ x) (package-waits es)

pub entries-acts : (a b : List JobEntry) → entries_acts (a ++ b) ≡ entries_acts a ++ entries_acts b
entries-acts [] b = refl
entries-acts (e ∷ es) b =
    ap (λ x. command_acts e.command ++ x) (entries-acts es b)
    ∙ sym (append_assoc (command_acts e.command) (entries_acts es) (entries_acts b))

pub job-acts : (p : List JobEntry) (ps : List (List JobEntry)) → job_acts (p ∷ ps) ≡ entries_acts p ++ job_acts ps
job-acts p ps = entries-acts p (all_entries ps)

pub queues-rest : (v : Service) (ps : List (List JobEntry))
    → v.packages ≡ ps
    → acts_to_send (queues_package v ps) ≡ waiting_acts v.queue ++ job_acts ps
queues-rest v [] e = ap (λ x. waiting_acts v.queue ++ job_acts x) e
queues-rest v (p ∷ ps) e =
    ap (λ x. x ++ job_acts ps)
    (waiting-append v.queue (map job_waiting p) ∙ ap (λ x. waiting_acts v.queue ++ x) (package-waits p))
    ∙ append_assoc (waiting_acts v.queue) (entries_acts p) (job_acts ps)
    ∙ ap (λ x. waiting_acts v.queue ++ x) (sym (job-acts p ps))

pub next-rest : (v : Service) (s : Standing) → acts_to_send (next_package v s) ≡ acts_to_send v
next-rest v s =
    either (λ (x : Service). acts_to_send x ≡ acts_to_send v)
    (s.accepted && s.heard && not (list_any is_of_job v.queue))
    (queues-rest v v.packages refl) refl

-- ---- sending

carried-entries : (es : List Entry) (ws : List Waiting) → length es ≤ length ws → entries_of (carried_on es ws) ≡ es
carried-entries [] ws h = refl
carried-entries (e ∷ es) [] h = absurd (omega (arith, h))
carried-entries (e ∷ es) (w ∷ ws) h = ap (λ x. e ∷ x) (carried-entries es ws (omega (arith, h)))

pub entries-length : (ws : List Waiting) → length (entries_of ws) ≡ length ws
entries-length [] = refl
entries-length (w ∷ ws) = ap suc (entries-length ws)

rest-length : (n : ℕ) (es : List Entry) → length (next_rest n es) ≡ length es
rest-length zero es = refl
rest-length (suc n) [] = refl
rest-length (suc n) (e ∷ es) = refl

pub left-length : (ws : List Waiting) (header : Header) (room : ℕ) (heard : Bool)
    → length (fill (entries_of ws) header room heard).left
    ≡ length (drop (fill (entries_of ws) header room heard).whole ws)
unfolding fill
left-length ws header room heard =
    let es = entries_of ws in
    let whole = taken header room [] es in
    let n = cut header room (commands_of (take whole es)) (drop whole es) in
    let rest = rest-length n (drop whole es) in
    let dropped = length-drop whole es in
    let waiting = length-drop whole ws in
    let same = entries-length ws in
    omega (arith, rest, dropped, waiting, same)

left-fits : (ws : List Waiting) (header : Header) (room : ℕ) (heard : Bool)
    → length (fill (entries_of ws) header room heard).left
    ≤ length (drop (fill (entries_of ws) header room heard).whole ws)
left-fits ws header room heard = let e = left-length ws header room heard in omega (arith, e)

-- the message that answers another
abbrev pub message_from : Service → Session → Parts → Parts
message_from v s m =
    (fill (entries_of v.queue) (header_for v s.progress m) s.progress.standing.room s.progress.standing.heard).message

pub sends-joined : (v : Service) (s : Session) (m : Parts) (code : ℕ) (o : Option Step)
    → join o (acts (message_from v s m).body ++ acts_to_send (sends v s m code)) ≡ join o (acts_to_send v)
unfolding sends
sends-joined v s m code o =
    let p = s.progress in
    let header = header_for v p m in
    let f = fill (entries_of v.queue) header p.standing.room p.standing.heard in
    ap (λ x. join o (acts f.message.body ++ (acts (commands_of x) ++ job_acts v.packages)))
    (carried-entries f.left (drop f.whole v.queue) (left-fits v.queue header p.standing.room p.standing.heard))
    ∙ fill-joined o (entries_of v.queue) header p.standing.room p.standing.heard (job_acts v.packages)

-- ---- what goes out of the job is noted

pub report-acts : (c : Command) → is_report c ≡ true → command_acts c ≡ []
report-acts (command.Plain p) h = cc
report-acts (command.Alert a) h = cc
report-acts (command.Atomic b) h = cc
report-acts (command.Sequence b) h = cc
report-acts (command.Status c) h = refl
report-acts (command.Results c) h = refl

pub part-acts : (c : Command) (b : Bool) (n : ℕ) → is_report c ≡ true
    → command_acts (part_of (record { command = c; begun = b }) n) ≡ []
unfolding part_of
part-acts (command.Plain p) b n h = cc
part-acts (command.Alert a) b n h = cc
part-acts (command.Atomic x) b n h = cc
part-acts (command.Sequence x) b n h = cc
part-acts (command.Status c) b n h = refl
part-acts (command.Results c) b n h = refl

pub rest-report : (c : Command) (b : Bool) (n : ℕ) → is_report c ≡ true
    → is_report (rest_of (record { command = c; begun = b }) n).command ≡ true
unfolding rest_of
rest-report (command.Plain p) b n h = cc
rest-report (command.Alert a) b n h = cc
rest-report (command.Atomic x) b n h = cc
rest-report (command.Sequence x) b n h = cc
rest-report (command.Status c) b n h = refl
rest-report (command.Results c) b n h = refl

row-some : (msg id number n : ℕ) → 0 < n → in_a_row msg id number n ≡ [] → ⊥
row-some msg id number zero l h = omega (arith, l)
row-some msg id number (suc n) l h = cc

holds-some : (msg id : ℕ) (begun : Bool) (j : Carried) → 0 < j.count → rest_holds msg id begun (Some j) ≡ [] → ⊥
holds-some msg id false j l h = row-some msg id j.first j.count l h
holds-some msg id true j l h = cc

part-some : (xs : List Sent) → (xs ≡ [] → ⊥) → part_holds xs ≡ [] → ⊥
part-some [] h k = h refl
part-some (x ∷ xs) h k = cc

rest-none : (msg id : ℕ) (begun : Bool) (job : Option Carried) (c : Command) → IsCarried job c
    → rest_holds msg id begun job ≡ []
    → command_acts c ≡ []
rest-none msg id begun None c ok h = report-acts c ok
rest-none msg id begun (Some j) c ok h = absurd (holds-some msg id begun j ok h)

part-none : (msg id : ℕ) (begun : Bool) (job : Option Carried) (c : Command) (n : ℕ) → IsCarried job c
    → part_holds (rest_holds msg id begun job) ≡ []
    → command_acts (part_of (record { command = c; begun = begun }) n) ≡ []
part-none msg id begun None c n ok h = part-acts c begun n ok
part-none msg id begun (Some j) c n ok h = absurd (part-some (rest_holds msg id begun (Some j))
    (holds-some msg id begun j ok) h)

pub left-none : {A : Type 0} (a b : List A) → a ++ b ≡ [] → a ≡ []
left-none [] b h = refl
left-none (x ∷ a) b h = cc

pub right-none : {A : Type 0} (a b : List A) → a ++ b ≡ [] → b ≡ []
right-none [] b h = h
right-none (x ∷ a) b h = cc

pub out-acts : (msg id whole n : ℕ) (ws : List Waiting) → Each IsOfJobOrReport ws → goes_out msg id whole n ws ≡ []
    → acts (commands_of (take whole (entries_of ws))) ++ acts (next_part n (drop whole (entries_of ws))) ≡ []
out-acts msg id zero zero [] ok h = refl
out-acts msg id zero (suc n) [] ok h = refl
out-acts msg id (suc whole) zero [] ok h = refl
out-acts msg id (suc whole) (suc n) [] ok h = refl
out-acts msg id zero zero (w ∷ ws) ok h = refl
out-acts msg id zero (suc n) (w ∷ ws) ok h =
    append-nil _ ∙ part-none msg id w.entry.begun w.carries w.entry.command (suc n) ok.0 h
out-acts msg id (suc whole) n (w ∷ ws) ok h =
    let holds = rest_holds msg id w.entry.begun w.carries in
    let out = goes_out msg (id + ids_in w.entry.command) whole n ws in
    let first = rest-none msg id w.entry.begun w.carries w.entry.command ok.0 (left-none holds out h) in
    let more = out-acts msg (id + ids_in w.entry.command) whole n ws ok.1 (right-none holds out h) in
    ap (λ x. (x ++ acts (commands_of (take whole (entries_of ws)))) ++ acts (next_part n (drop whole (entries_of ws))))
    first
    ∙ more

-- ---- what waits stays in order

pub entries-drop : (n : ℕ) (ws : List Waiting) → drop n (entries_of ws) ≡ entries_of (drop n ws)
entries-drop zero ws = refl
entries-drop (suc n) [] = refl
entries-drop (suc n) (w ∷ ws) = entries-drop n ws

pub same-carried : (ws : List Waiting) → carried_on (entries_of ws) ws ≡ ws
same-carried [] = refl
same-carried (w ∷ ws) = ap (λ x. w ∷ x) (same-carried ws)

rest-ok : (job : Option Carried) (c : Command) (b : Bool) (n : ℕ) → IsCarried job c
    → IsCarried job (rest_of (record { command = c; begun = b }) n).command
rest-ok None c b n h = rest-report c b n h
rest-ok (Some j) c b n h = h

carried-ok : (n : ℕ) (ws : List Waiting) → Each IsOfJobOrReport ws
    → Each IsOfJobOrReport (carried_on (next_rest n (entries_of ws)) ws)
carried-ok zero ws h = subst (Each IsOfJobOrReport) (sym (same-carried ws)) h
carried-ok (suc n) [] h = tt
carried-ok (suc n) (w ∷ ws) h = (
  rest-ok w.carries w.entry.command w.entry.begun (suc n) h.0,
  subst (Each IsOfJobOrReport) (sym (same-carried ws))
      h.1,
)

pub left-ok : (ws : List Waiting) (header : Header) (room : ℕ) (heard : Bool) → Each IsOfJobOrReport ws
    → Each IsOfJobOrReport (carried_on (fill (entries_of ws) header room heard).left
    (drop (fill (entries_of ws) header room heard).whole ws))
unfolding fill
left-ok ws header room heard h =
    let es = entries_of ws in
    let whole = taken header room [] es in
    let n = cut header room (commands_of (take whole es)) (drop whole es) in
    subst (λ x. Each IsOfJobOrReport (carried_on (next_rest n x) (drop whole ws))) (sym (entries-drop whole ws))
    (carried-ok n (drop whole ws) (each-drop IsOfJobOrReport whole ws h))
