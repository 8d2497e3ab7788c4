-- What a server keeps of a message's alerts.
use Rattle.std.proofs.Common.{◌≡◌, ◌&&◌, ◌==◌, ℕ, Bool, true, false, cond, not, Some, List, [], ◌∷◌, ◌++◌, refl, sym}
use Rattle.std.proofs.Common.{ap, ◌∙◌, append_assoc, append-nil}
use Rattle.std.specs.Prelude.{is_some}
use Rattle.std.specs.List.{list_any, flat_map}
use Rattle.syncml_types.specs.declared.values.Item.{Item}
use Rattle.syncml_types.specs.declared.command.Command.{Command}
use Rattle.syncml_types.specs.declared.command.Command.TheVariants as command
use Rattle.syncml_types.specs.Message.{Parts}
use Rattle.dm_headers.specs.declared.checks.Side.TheVariants.{User}
use Rattle.dm_headers.specs.declared.standings.Standing.{Standing}
use Rattle.dm_headers.specs.Checks.{fault_of, is_denied, passes}
use Rattle.dm_headers.specs.Standings.{hears}
use Rattle.dm_ends.specs.Commands.{is_abort}
use Rattle.dm_job.specs.declared.job.JobEntry.{JobEntry}
use Rattle.dm_service.specs.declared.sent.KeptAlert.{KeptAlert}
use Rattle.dm_service.specs.declared.sent.Sent.{Sent}
use Rattle.dm_service.specs.Service.{Session, Service}
use Rattle.dm_service.specs.Matching.{kept_alert, Matched, takes_command, matched}
use Rattle.dm_service.specs.Packages.{queues_package, next_package, is_of_job, gives_up}
use Rattle.dm_service.specs.Sending.{sends}
use Rattle.dm_service.specs.Messages.{ended, denies, after_status, matched_in, with_matched, tells, queues_answers}
use Rattle.dm_service.specs.Messages.{in_session, answers_message, accepts}
use Rattle.dm_service.specs.Laws.{generic_alert, AlertsAreTold}
use Rattle.dm_service.proofs.Steps.{either}

-- ---- a message's commands

alert-kept : (alerts : List KeptAlert) (items : List Item) (b : Bool)
    → cond b (alerts ++ kept_alert items ∷ []) alerts ≡ alerts ++ cond b (kept_alert items ∷ []) []
alert-kept alerts items true = refl
alert-kept alerts items false = sym (append-nil alerts)

command-kept : (max : ℕ) (sent : List Sent) (x : Matched) (c : Command)
    → (takes_command max sent x c).alerts ≡ x.alerts ++ generic_alert c
command-kept max sent x (command.Alert a) = alert-kept x.alerts a.items (a.code == 1226)
command-kept max sent x (command.Status c) = sym (append-nil x.alerts)
command-kept max sent x (command.Results r) = sym (append-nil x.alerts)
command-kept max sent x (command.Plain c) = sym (append-nil x.alerts)
command-kept max sent x (command.Atomic b) = sym (append-nil x.alerts)
command-kept max sent x (command.Sequence b) = sym (append-nil x.alerts)

body-kept : (max : ℕ) (sent : List Sent) (x : Matched) (cs : List Command)
    → (matched max sent x cs).alerts ≡ x.alerts ++ flat_map generic_alert cs
unfolding matched
body-kept max sent x [] = sym (append-nil x.alerts)
body-kept max sent x (c ∷ cs) =
    body-kept max sent (takes_command max sent x c) cs
    ∙ ap (λ alerts. alerts ++ flat_map generic_alert cs) (command-kept max sent x c)
    ∙ append_assoc x.alerts (generic_alert c) (flat_map generic_alert cs)

-- ---- the machine

-- those of a message, where it is read, behind what was kept
abbrev with_alerts : List KeptAlert → List Command → Bool → List KeptAlert
with_alerts alerts cs read = alerts ++ cond read (flat_map generic_alert cs) []

tells-kept : (v : Service) (s : Session) (m : Parts) (b : Bool)
    → (cond b (with_matched v s (matched_in v s m)) v).alerts ≡ with_alerts v.alerts m.body b
tells-kept v s m true = body-kept v.job.limits.max_obj s.sent _ m.body
tells-kept v s m false = sym (append-nil v.alerts)

queues-kept : (v : Service) (ps : List (List JobEntry)) → (queues_package v ps).alerts ≡ v.alerts
queues-kept v [] = refl
queues-kept v (p ∷ ps) = refl

package-kept : (v : Service) (t : Standing) → (next_package v t).alerts ≡ v.alerts
package-kept v t =
    either (λ (w : Service). w.alerts ≡ v.alerts) (t.accepted && t.heard && not (list_any is_of_job v.queue))
    (queues_package v v.packages) v (queues-kept v v.packages) refl

sends-kept : (v : Service) (s : Session) (m : Parts) (code : ℕ) → (sends v s m code).alerts ≡ v.alerts
unfolding sends
sends-kept v s m code = refl

denies-kept : (v : Service) (s : Session) (m : Parts) (code : ℕ) (nonce : List ℕ)
    → (denies v s m code nonce).alerts ≡ v.alerts
unfolding denies
denies-kept v s m code nonce = refl

message-kept : (v : Service) (s : Session) (m : Parts) (code : ℕ) (nonce : List ℕ)
    → (answers_message v s m code nonce).alerts ≡ with_alerts v.alerts m.body (passes code)
message-kept v s m code nonce =
    let told = tells v s m code in
    let t = in_session told s in
    let waits = queues_answers told m code nonce in
    sends-kept (next_package waits t.progress.standing) t m code ∙ package-kept waits t.progress.standing
    ∙ tells-kept v s m (passes code)

header-kept : (v : Service) (s : Session) (m : Parts) (code : ℕ) (nonce : List ℕ) (abort second : Bool)
    → (cond abort (ended v s) (cond second (denies v s m code nonce) (answers_message v s m code nonce))).alerts
    ≡ with_alerts v.alerts m.body (not abort && not second && passes code)
header-kept v s m code nonce true second = sym (append-nil v.alerts)
header-kept v s m code nonce false true = denies-kept v s m code nonce ∙ sym (append-nil v.alerts)
header-kept v s m code nonce false false = message-kept v s m code nonce

gives-kept : (v : Service) (s : Session) → (gives_up v s).alerts ≡ v.alerts
unfolding gives_up
gives-kept v s = refl

status-kept : (v : Service) (s : Session) (failed : Bool) (status : ℕ)
    → (after_status v s failed status).alerts ≡ v.alerts
status-kept v s failed status =
    either (λ (w : Service). w.alerts ≡ v.alerts) (not failed && is_denied status) (gives_up v s) v
    (gives-kept v s) refl

pub alerts_are_told : AlertsAreTold
unfolding accepts
alerts_are_told v s m nonce =
    let heard = hears User v.job.account s.progress.standing m nonce in
    let t : Session = record s { progress = record s.progress { standing = heard.standing } } in
    let u : Service = record v { job = record v.job { account = heard.account }; session = Some t } in
    let failed = s.progress.standing.we_failed in
    let w = after_status u t failed heard.status in
    let abort = not (is_some (fault_of m)) && list_any is_abort m.body in
    header-kept w (in_session w t) m heard.code nonce abort heard.second
    ∙ ap (λ alerts. with_alerts alerts m.body (not abort && not heard.second && passes heard.code))
    (status-kept u t failed heard.status)
