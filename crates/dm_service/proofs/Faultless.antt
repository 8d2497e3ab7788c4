-- The message that is sent has no fault.
use Rattle.std.proofs.Common.{None, Some, ◌&&◌, ◌==◌, ℕ, Bool, true, cond, not, List, [], ◌∷◌, ◌++◌, map, take, drop}
use Rattle.std.specs.Prelude.{Option, Result, Ok, Err, is_some}
use Rattle.std.specs.List.{list_any}
use Rattle.syncml_types.specs.Message.{Parts}
use Rattle.wbxml_tokens.specs.declared.reason.Refusal.{Refusal}
use Rattle.dm_headers.specs.declared.checks.Side.TheVariants.{User, Server}
use Rattle.dm_headers.specs.Checks.{fault_of, login_of, is_denied}
use Rattle.dm_headers.specs.Headers.{header_answer}
use Rattle.dm_headers.specs.Standings.{Heard, hears}
use Rattle.dm_pack.specs.Filling.{fill, taken, cut, commands_of, next_part, next_rest, tail_of, tail_commands, is_final}
use Rattle.dm_ends.specs.Commands.{alert, is_abort}
use Rattle.dm_ends.proofs.Distinct.{makes_no_fault}
use Rattle.dm_service.specs.Service.{Waiting, Session, Service}
use Rattle.dm_service.specs.Packages.{gives_up}
use Rattle.dm_service.specs.Sending.{client_target, header_for, sends}
use Rattle.dm_service.specs.Messages.{begins, first_session, ended, denies, after_status, in_session}
use Rattle.dm_service.specs.Messages.{answers_message, by_header, accepts}
use Rattle.dm_service.specs.Events.{number_of, takes, opens_session, after_in_session, after_number, after_read, after}
use Rattle.dm_service.specs.History.{next}
use Rattle.dm_service.specs.Laws.{IsFaultless, SendsNoFault}
use Rattle.dm_service.proofs.Steps.{either}

sends-none : (v : Service) (s : Session) (m : Parts) (code : ℕ) → IsFaultless (sends v s m code)
unfolding sends fill
sends-none v s m code =
    let p = s.progress in
    let es = map (λ (w : Waiting). w.entry) v.queue in
    let header = header_for v p m in
    let whole = taken header p.standing.room [] es in
    let before = commands_of (take whole es) in
    let next = drop whole es in
    let n = cut header p.standing.room before next in
    let tail = tail_of (next_rest n next) p.standing.heard in
    makes_no_fault (login_of Server v.job.account) p.standing v.job.limits p.number (client_target m)
    (record { uri = v.job.account.server; name = None }) (before ++ next_part n next ++ tail_commands tail)
    (is_final tail)

denies-none : (v : Service) (s : Session) (m : Parts) (code : ℕ) (nonce : List ℕ)
    → IsFaultless (denies v s m code nonce)
unfolding denies
denies-none v s m code nonce =
    makes_no_fault (login_of Server v.job.account) s.progress.standing v.job.limits s.progress.number (client_target m)
    (record { uri = v.job.account.server; name = None })
    (header_answer m.header code nonce ++ alert 1223 None [] ∷ []) true

header-none : (v : Service) (s : Session) (m : Parts) (h : Heard) (nonce : List ℕ) → IsFaultless v
    → IsFaultless (by_header v s m h nonce)
header-none v s m h nonce is =
    either IsFaultless (not (is_some (fault_of m)) && list_any is_abort m.body) (ended v s)
    (cond h.second (denies v s m h.code nonce) (answers_message v s m h.code nonce)) is
    (either IsFaultless h.second (denies v s m h.code nonce) (answers_message v s m h.code nonce)
    (denies-none v s m h.code nonce) (sends-none _ _ m h.code))

gives-none : (v : Service) (s : Session) → IsFaultless v → IsFaultless (gives_up v s)
unfolding gives_up
gives-none v s is = is

status-none : (v : Service) (s : Session) (failed : Bool) (status : ℕ) → IsFaultless v
    → IsFaultless (after_status v s failed status)
status-none v s failed status is =
    either IsFaultless (not failed && is_denied status) (gives_up v s) v (gives-none v s is) is

accepts-none : (v : Service) (s : Session) (m : Parts) (nonce : List ℕ) → IsFaultless v
    → IsFaultless (accepts v s m nonce)
unfolding accepts
accepts-none v s m nonce is =
    let h = hears User v.job.account s.progress.standing m nonce in
    let t : Session = record s { progress = record s.progress { standing = h.standing } } in
    let heard : Service = record v { job = record v.job { account = h.account }; session = Some t } in
    let w = after_status heard t s.progress.standing.we_failed h.status in
    header-none w (in_session w t) m h nonce (status-none heard t s.progress.standing.we_failed h.status is)

acts-none : (v : Service) (o : Option Session) (n : ℕ) (m : Parts) (nonce : List ℕ) → IsFaultless v
    → IsFaultless (after_in_session v o n m nonce)
acts-none v None n m nonce is = accepts-none (begins v n) (first_session v.job.account n) m nonce is
acts-none v (Some s) n m nonce is =
    either IsFaultless (s.progress.number == n) (accepts v s m nonce) (opens_session v n m nonce) (accepts-none v s m nonce is)
    (accepts-none (begins v n) (first_session v.job.account n) m nonce is)

as-none : (v : Service) (o : Option ℕ) (m : Parts) (nonce : List ℕ) → IsFaultless v
    → IsFaultless (after_number v o m nonce)
as-none v None m nonce is = is
as-none v (Some n) m nonce is = acts-none v v.session n m nonce is

read-none : (v : Service) (read : Result Parts Refusal) (nonce : List ℕ) → IsFaultless v
    → IsFaultless (after_read v read nonce)
read-none v (Ok m) nonce is = as-none v (number_of m) m nonce is
read-none v (Err place) nonce is = is

pub sends_no_fault : SendsNoFault
unfolding next after
sends_no_fault v e is =
    either IsFaultless (takes v e) (after_read v e.read e.nonce) v (read-none v e.read e.nonce is) is
