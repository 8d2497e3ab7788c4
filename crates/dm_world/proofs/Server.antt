-- What a message that is taken does to the numbers of the server's machine.
use Rattle.std.proofs.Common.{◌≡◌, ◌+◌, ◌&&◌, ℕ, Bool, true, false, not, List, [], ◌∷◌, ◌++◌, Option, None, Some}
use Rattle.std.proofs.Common.{map, take, drop, refl, sym, ◌∙◌, ap, subst, ◌⊎◌, inl, inr}
use Rattle.std.specs.Prelude.{is_some}
use Rattle.std.specs.List.{list_any}
use Rattle.std.specs.Fmt.{decimal}
use Rattle.syncml_types.specs.declared.values.Header.{Header}
use Rattle.syncml_types.specs.Message.{Parts}
use Rattle.dm_headers.specs.declared.checks.Side.TheVariants.{User, Server}
use Rattle.dm_headers.specs.declared.standings.Standing.{Standing}
use Rattle.dm_auth.specs.declared.accounts.Account.{Account}
use Rattle.dm_headers.specs.Checks.{fault_of, login_of, is_denied, passes}
use Rattle.dm_headers.specs.Headers.{next_header, header_answer}
use Rattle.dm_headers.specs.Standings.{Heard, hears}
use Rattle.dm_pack.specs.Entries.{Entry}
use Rattle.dm_pack.specs.Filling.{fill, taken, cut, commands_of, next_part, next_rest, tail_of, tail_commands, is_final}
use Rattle.dm_ends.specs.Commands.{alert, is_abort}
use Rattle.dm_ends.proofs.Distinct.{makes_no_fault}
use Rattle.dm_service.specs.declared.progress.ServiceProgress.{ServiceProgress}
use Rattle.dm_service.specs.Service.{Waiting, Session, Service}
use Rattle.dm_service.specs.Packages.{gives_up, next_package}
use Rattle.dm_service.specs.Sending.{client_target, header_for, sends}
use Rattle.dm_service.specs.Messages.{denies, after_status, tells, queues_answers, session_or, in_session}
use Rattle.dm_service.specs.Messages.{answers_message, by_header, accepts}
use Rattle.dm_world.proofs.Lists.{either}
use Rattle.dm_world.proofs.Numbers.{IsSent}
use Rattle.dm_world.proofs.Client.{OpenAs, fill-body, fill-header}

-- how far a session has come: its number, the MsgID accepted last, and how many messages were sent
pub record Stands (n last own : ℕ) (p : ServiceProgress) : Type 0 where
  pub number : p.number ≡ n
  pub last_is : p.standing.last ≡ last
  pub own_is : p.standing.own ≡ own

-- after a message with this MsgID, where so many messages had been sent: it is answered, or the session is over
abbrev pub ServedAs : ℕ → ℕ → ℕ → Option Parts → Option Session → Type 0
ServedAs n last own sent None = ⊥
ServedAs n last own sent (Some t) =
    (Stands n last (own + 1) t.progress × (t.progress.answered ≡ true) × OpenAs (IsSent n (own + 1)) sent)
    ⊎ (Stands n last own t.progress × (t.progress.answered ≡ false) × (t.progress.is_over ≡ true))

abbrev pub Served : ℕ → ℕ → ℕ → Service → Type 0
Served n last own v = ServedAs n last own v.sent v.session

-- a machine whose session has come as far as this
abbrev pub HasProgress : ServiceProgress → Option Session → Type 0
HasProgress p None = ⊥
HasProgress p (Some x) = x.progress ≡ p

-- ---- the message

header-numbers : (v : Service) (p : ServiceProgress) (m : Parts)
    → ((header_for v p m).session ≡ decimal p.number) × ((header_for v p m).msg ≡ p.standing.own + 1)
unfolding next_header
header-numbers v p m = (refl, refl)

server-fault : (v : Service) (es : List Entry) (p : ServiceProgress) (m : Parts)
    → fault_of (fill es (header_for v p m) p.standing.room p.standing.heard).message ≡ None
unfolding fill
server-fault v es p m =
    let h = header_for v p m in
    let whole = taken h p.standing.room [] es in
    let before = commands_of (take whole es) in
    let n = cut h p.standing.room before (drop whole es) in
    let tail = tail_of (next_rest n (drop whole es)) p.standing.heard in
    makes_no_fault (login_of Server v.job.account) p.standing v.job.limits p.number (client_target m)
    (record { uri = v.job.account.server; name = None })
    (before ++ next_part n (drop whole es) ++ tail_commands tail) (is_final tail)

sent-is : (n own : ℕ) (p : ServiceProgress) (m : Parts) → p.number ≡ n → p.standing.own ≡ own
    → IsSent p.number (p.standing.own + 1) m
    → IsSent n (own + 1) m
sent-is n own p m e f h = record {
  session = h.session ∙ ap decimal e;
  id = h.id ∙ ap (λ k. k + 1) f;
  sound = h.sound;
  body = h.body;
}

sends-served : (v : Service) (s : Session) (m : Parts) (code n last own : ℕ) → Stands n last own s.progress
    → Served n last own (sends v s m code)
unfolding sends
sends-served v s m code n last own h =
    let p = s.progress in
    let es = map (λ (w : Waiting). w.entry) v.queue in
    let header = header_for v p m in
    let message = (fill es header p.standing.room p.standing.heard).message in
    let e = fill-header es header p.standing.room p.standing.heard in
    let numbers = header-numbers v p m in
    inl (
      record { number = h.number; last_is = h.last_is; own_is = ap (λ k. k + 1) h.own_is },
      refl,
      sent-is n own p message h.number h.own_is
          (record {
            session = ap (λ (x : Header). x.session) e ∙ numbers.0;
            id = ap (λ (x : Header). x.msg) e ∙ numbers.1;
            sound = server-fault v es p m;
            body = fill-body es header p.standing.room p.standing.heard;
          }),
    )

denies-served : (v : Service) (s : Session) (m : Parts) (code : ℕ) (nonce : List ℕ) (n last own : ℕ)
    → Stands n last own s.progress
    → Served n last own (denies v s m code nonce)
unfolding denies
denies-served v s m code nonce n last own h =
    let p = s.progress in
    let cs = header_answer m.header code nonce ++ alert 1223 None [] ∷ [] in
    let numbers = header-numbers v p m in
    inl (
      record { number = h.number; last_is = h.last_is; own_is = ap (λ k. k + 1) h.own_is },
      refl,
      sent-is n own p _ h.number h.own_is
          (record {
            session = numbers.0;
            id = numbers.1;
            sound =
                makes_no_fault (login_of Server v.job.account) p.standing v.job.limits p.number (client_target m)
                (record { uri = v.job.account.server; name = None }) cs true;
            body = (cs, refl);
          }),
    )

-- ---- the session on its way through a message

gives-has : (v : Service) (s : Session) → HasProgress s.progress (gives_up v s).session
unfolding gives_up
gives-has v s = refl

pub status-has : (v : Service) (s : Session) (failed : Bool) (status : ℕ) → HasProgress s.progress v.session
    → HasProgress s.progress (after_status v s failed status).session
status-has v s failed status h =
    either (λ (w : Service). HasProgress s.progress w.session) (not failed && is_denied status) (gives-has v s) h

pub tells-has : (v : Service) (s : Session) (m : Parts) (code : ℕ) → HasProgress s.progress v.session
    → HasProgress s.progress (tells v s m code).session
tells-has v s m code h = either (λ (w : Service). HasProgress s.progress w.session) (passes code) refl h

pub session-has : (p : ServiceProgress) (o : Option Session) (s : Session) → HasProgress p o → (session_or o s).progress ≡ p
session-has p None s h = absurd h
session-has p (Some x) s h = h

stands-by : (n last own : ℕ) (p q : ServiceProgress) → q ≡ p → Stands n last own p → Stands n last own q
stands-by n last own p q e h = subst (Stands n last own) (sym e) h

answers-served : (v : Service) (s : Session) (m : Parts) (code : ℕ) (nonce : List ℕ) (n last own : ℕ)
    → HasProgress s.progress v.session
    → Stands n last own s.progress
    → Served n last own (answers_message v s m code nonce)
answers-served v s m code nonce n last own k h =
    let told = tells v s m code in
    let t = in_session told s in
    let e = session-has s.progress told.session s (tells-has v s m code k) in
    sends-served (next_package (queues_answers told m code nonce) t.progress.standing) t m code n last own
    (stands-by n last own s.progress t.progress e h)

header-served : (v : Service) (s : Session) (m : Parts) (h : Heard) (nonce : List ℕ) (n last own : ℕ)
    → HasProgress s.progress v.session
    → Stands n last own s.progress
    → Served n last own (by_header v s m h nonce)
header-served v s m h nonce n last own k x =
    either (Served n last own) (not (is_some (fault_of m)) && list_any is_abort m.body)
    (inr (record { number = x.number; last_is = x.last_is; own_is = x.own_is }, refl, refl))
    (either (Served n last own) h.second (denies-served v s m h.code nonce n last own x)
    (answers-served v s m h.code nonce n last own k x))

pub heard-numbers : (a : Account) (s : Standing) (m : Parts) (nonce : List ℕ)
    → ((hears User a s m nonce).standing.last ≡ m.header.msg) × ((hears User a s m nonce).standing.own ≡ s.own)
unfolding hears
heard-numbers a s m nonce = (refl, refl)

pub has-itself : (p : ServiceProgress) (o : Option Session) (s : Session) → HasProgress p o
    → HasProgress (session_or o s).progress o
has-itself p None s h = absurd h
has-itself p (Some x) s h = refl

pub accepts-served : (v : Service) (s : Session) (m : Parts) (nonce : List ℕ)
    → Served s.progress.number m.header.msg s.progress.standing.own (accepts v s m nonce)
unfolding accepts
accepts-served v s m nonce =
    let h = hears User v.job.account s.progress.standing m nonce in
    let x = heard-numbers v.job.account s.progress.standing m nonce in
    let t : Session = record s { progress = record s.progress { standing = h.standing } } in
    let heard : Service = record v { job = record v.job { account = h.account }; session = Some t } in
    let w = after_status heard t s.progress.standing.we_failed h.status in
    let k = status-has heard t s.progress.standing.we_failed h.status refl in
    let y = in_session w t in
    header-served w y m h nonce s.progress.number m.header.msg s.progress.standing.own
    (has-itself t.progress w.session t k)
    (stands-by s.progress.number m.header.msg s.progress.standing.own t.progress y.progress
    (session-has t.progress w.session t k) (record { number = refl; last_is = x.0; own_is = x.1 }))
