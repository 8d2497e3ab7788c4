-- What a message makes of the machine, step by step.
use Rattle.std.proofs.Common.{◌≡◌, ◌&&◌, ◌||◌, ℕ, Bool, true, false, cond, not, List, codes, None}
use Rattle.std.proofs.Common.{Some, refl, sym, ap, ◌∙◌, subst, ◌<◌, ◌≤◌, ◌+◌, ◌^◌}
use Rattle.std.proofs.Common.{arith}
use Rattle.std.specs.Prelude.{Option, is_some, unwrap_or, bytes_eq}
use Rattle.std.specs.List.{list_any}
use Rattle.syncml_types.specs.declared.command.Command.{Command}
use Rattle.syncml_types.specs.declared.values.Header.{Header}
use Rattle.syncml_types.specs.Message.{Parts}
use Rattle.dm_auth.specs.declared.accounts.Account.{Account}
use Rattle.dm_auth.specs.declared.credentials.Verdict.{Verdict}
use Rattle.dm_auth.specs.declared.credentials.Verdict.TheVariants.{Missing, Accepted, Wrong}
use Rattle.dm_auth.specs.Digests.{verdict}
use Rattle.syncml_types.specs.declared.values.Cred.{Cred}
use Rattle.dm_headers.specs.declared.checks.Side.TheVariants.{User}
use Rattle.dm_headers.specs.CmdIds.{body_ids, has_twins}
use Rattle.dm_headers.specs.Checks.{Login, fault_of, verdict_code, judged, judged_by, header_code, is_denied, passes}
use Rattle.dm_headers.specs.declared.standings.Standing.{Standing}
use Rattle.dm_headers.specs.Standings.{Heard, hears}
use Rattle.dm_ends.specs.Commands.{is_abort}
use Rattle.dm_ends.specs.Farewells.{farewell}
use Rattle.dm_ends.specs.Ready.{IsReadyAccount, IsReadyLimits}
use Rattle.dm_ends.proofs.Hearing.{hears_ready}
use Rattle.dm_pack.specs.Filling.{IsReadyHeader}
use Rattle.syncml_types.specs.Fitness.{IsFit}
use Rattle.dm_service.proofs.Headers.{header_ready}
use Rattle.dm_job.specs.declared.job.Job.{Job}
use Rattle.dm_report.specs.Known.{Known, GatheredSoFar}
use Rattle.dm_service.specs.declared.progress.ServiceProgress.{ServiceProgress}
use Rattle.dm_service.specs.Messages.{first_service, after_status, ended, denies, by_header, accepts}
use Rattle.dm_service.specs.Sending.{header_for}
use Rattle.dm_service.specs.Service.{Session, Service}
use Rattle.dm_server.specs.declared.held.Run.{Run}
use Rattle.dm_server.specs.declared.held.Outbox.{Outbox}
use Rattle.dm_server.specs.declared.held.PresentSession.{PresentSession as Held}
use Rattle.dm_server.specs.declared.held.ServerWork.{ServerWork}
use Rattle.dm_server.specs.Inside.{at_work, session_with}
use Rattle.dm_server.specs.Working.{by_header_after, with_account, CanAccept, CanWork, IsFaultTold, IsReadyWork}

pub if_so : {A : Type 0} (b : Bool) (x y : A) → b ≡ true → cond b x y ≡ x
if_so true x y e = refl
if_so false x y e = absurd (cc)

pub if_not : {A : Type 0} (b : Bool) (x y : A) → b ≡ false → cond b x y ≡ y
if_not true x y e = absurd (cc)
if_not false x y e = refl

-- ---- a farewell

pub header_fits : (job : Job) (account : Account) (p : ServiceProgress) (m : Parts) (header : Header)
    → ((v : Service) → v.job ≡ with_account job account → header ≡ header_for v p m) → IsReadyLimits job.limits
    → IsReadyAccount account → p.number < 2 ^ 32 → p.standing.own + 1 < 2 ^ 32 → IsFit m.header m.body
    → IsReadyHeader header
header_fits job account p m header is limits named number own fit =
    let v : Service = first_service (with_account job account) in
    subst IsReadyHeader (sym (is v refl)) (header_ready v p m limits named number own fit)

-- how far the session is then
abbrev pub denied_progress : ServiceProgress → ServiceProgress
denied_progress p = record p {
  standing = record p.standing { own = p.standing.own + 1 };
  answered = true;
  is_over = true;
}

pub denied_sends : (job : Job) (run : Run) (p : ServiceProgress) (o : Outbox) (g : GatheredSoFar) (k : Known)
    (before : Option Parts) (m : Parts) (code : ℕ) (nonce : List ℕ) (sent : Parts)
    → sent ≡ farewell (header_for (at_work job run p o g k before) p m) m code nonce
    → at_work job run (denied_progress p) o g k (Some sent)
    ≡ denies (at_work job run p o g k before) (session_with p o g) m code nonce
unfolding denies
denied_sends job run p o g k before m code nonce sent is =
    ap (λ x. at_work job run (denied_progress p) o g k (Some x)) is

-- ---- the code of a header

abbrev tells_no_fault : ℕ → Bool
tells_no_fault code = passes code || is_denied code

judged-told : (v : Verdict) → tells_no_fault (verdict_code v) ≡ true
judged-told Missing = refl
judged-told Wrong = refl
judged-told Accepted = refl

by-accepted : (accepted : Bool) (v : Verdict) → tells_no_fault (cond accepted 200 (verdict_code v)) ≡ true
by-accepted true v = refl
by-accepted false v = judged-told v

judged-code : (accepted : Bool) (name password : Option (List ℕ)) (nonce : List ℕ) (cred : Option Cred)
    → tells_no_fault (judged accepted name password nonce cred) ≡ true
judged-code accepted (Some name) (Some password) nonce cred = by-accepted accepted (verdict name password nonce cred)
judged-code accepted (Some name) None nonce cred = refl
judged-code accepted None password nonce cred = refl

by-fault : (a b c : Bool) (code : ℕ) → tells_no_fault code ≡ true
    → tells_no_fault (unwrap_or (cond a (Some 505) (cond b (Some 513) (cond c (Some 400) None))) code)
    ≡ not (is_some {T = ℕ} (cond a (Some 505) (cond b (Some 513) (cond c (Some 400) None))))
by-fault true b c code h = refl
by-fault false true c code h = refl
by-fault false false true code h = refl
by-fault false false false code h = h

code-tells : (accepted : Bool) (login : Login) (m : Parts)
    → tells_no_fault (header_code accepted login m) ≡ not (is_some (fault_of m))
unfolding header_code
code-tells accepted login m =
    by-fault (not (bytes_eq m.header.dtd (codes "1.2"))) (not (bytes_eq m.header.proto (codes "DM/1.2")))
    (has_twins (body_ids m.body)) (judged_by accepted login m.header.cred)
    (judged-code accepted login.name login.password login.nonce m.header.cred)

pub fault_told : (a : Account) (p : ServiceProgress) (m : Parts) (nonce : List ℕ) (code : ℕ)
    → code ≡ (hears User a p.standing m nonce).code → tells_no_fault code ≡ not (is_some (fault_of m))
unfolding hears
fault_told a p m nonce code e = ap tells_no_fault e ∙ code-tells p.standing.accepted _ m

-- ---- by the header

pub aborted_is : (v : Service) (s : Session) (m : Parts) (h : Heard) (nonce : List ℕ)
    → (not (is_some (fault_of m)) && list_any is_abort m.body) ≡ true → ended v s ≡ by_header v s m h nonce
aborted_is v s m h nonce e = sym (if_so _ (ended v s) _ e)

both-so : (a b : Bool) → a ≡ true → b ≡ true → (a && b) ≡ true
both-so true b e f = f
both-so false b e f = absurd (cc)

-- an Alert 1223 in a message without a fault
pub abort_told : (m : Parts) (code : ℕ) (faultless aborts : Bool) (body : List Command)
    → tells_no_fault code ≡ not (is_some (fault_of m)) → faultless ≡ tells_no_fault code → faultless ≡ true
    → aborts ≡ list_any is_abort body → aborts ≡ true → body ≡ m.body
    → (not (is_some (fault_of m)) && list_any is_abort m.body) ≡ true
abort_told m code faultless aborts body e f g h k same =
    both-so _ _ (sym e ∙ sym f ∙ g) (sym (h ∙ ap (list_any is_abort) same) ∙ k)

-- ---- accepted

abbrev heard_of : Job → ServiceProgress → Parts → List ℕ → Heard
heard_of job p m nonce = hears User job.account p.standing m nonce

abbrev pub with_standing : ServiceProgress → Standing → ServiceProgress
with_standing p standing = record p { standing = standing }

abbrev progress_heard : ServiceProgress → Heard → ServiceProgress
progress_heard p h = with_standing p h.standing

pub accepted_is : (job : Job) (run : Run) (p next : ServiceProgress) (o : Outbox) (g : GatheredSoFar) (k : Known)
    (before : Option Parts) (m : Parts) (nonce : List ℕ) (account : Account) (status : ℕ) (v : Service)
    → account ≡ (heard_of job p m nonce).account → status ≡ (heard_of job p m nonce).status
    → next ≡ progress_heard p (heard_of job p m nonce)
    → v
    ≡ by_header_after (after_status (at_work (with_account job account) run next o g k before) (session_with next o g)
    p.standing.we_failed status) (session_with next o g) m (heard_of job p m nonce) nonce
    → v ≡ accepts (at_work job run p o g k before) (session_with p o g) m nonce
unfolding accepts
accepted_is job run p next o g k before m nonce account status v e c f is =
    let h = heard_of job p m nonce in
    let failed = p.standing.we_failed in
    is
    ∙ ap (λ a. by_header_after (after_status (at_work (with_account job a) run next o g k before)
    (session_with next o g) failed status) (session_with next o g) m h nonce) e
    ∙ ap (λ n. by_header_after (after_status (at_work (with_account job h.account) run next o g k before)
    (session_with next o g) failed n) (session_with next o g) m h nonce) c
    ∙ ap (λ x. by_header_after (after_status (at_work (with_account job h.account) run x o g k before)
    (session_with x o g) failed h.status) (session_with x o g) m h nonce) f

-- what its header leaves can be worked with
pub can_work : (w : ServerWork) (s : Held) (standing : Standing)
    → CanAccept w.plan.now.job w.run s w.message.now.header.msg → IsReadyWork w
    → w.account.now ≡ (heard_of w.plan.now.job s.progress w.message.now w.nonce.now.bytes).account
    → standing ≡ (heard_of w.plan.now.job s.progress w.message.now w.nonce.now.bytes).standing
    → w.progress ≡ with_standing s.progress standing → CanWork w s.outbox s.gathering
can_work w s standing can is e f next =
    let h = hears_ready User w.plan.now.job.account s.progress.standing w.message.now w.nonce.now.bytes can.named
    can.room in
    let own = can.own in
    let msg = is.numbers.header.msg in
    let same = ap (λ (x : Standing). x.own) f ∙ h.own in
    let low : standing.own + 1 < 2 ^ 32 = omega (arith, own, msg, same) in
    let room : (2048 ≤ standing.room) × (standing.room ≤ 65536) =
    subst (λ (x : Standing). (2048 ≤ x.room) × (x.room ≤ 65536)) (sym f) h.room in
    record {
      holds = can.holds;
      max_obj = can.max_obj;
      numbered = can.numbered;
      packages = can.packages;
      limits = can.limits;
      named = subst IsReadyAccount (sym e) h.account;
      number = subst (λ (p : ServiceProgress). p.number < 2 ^ 32) (sym next) can.number;
      own = subst (λ (p : ServiceProgress). p.standing.own + 1 < 2 ^ 32) (sym next) low;
      room = subst (λ (p : ServiceProgress). (2048 ≤ p.standing.room) × (p.standing.room ≤ 65536)) (sym next) room;
    }

pub fault_is_told : (job : Job) (p : ServiceProgress) (m : Parts) (nonce : List ℕ) (code : ℕ) → IsReadyAccount job.account
    → (2048 ≤ p.standing.room) × (p.standing.room ≤ 65536)
    → code ≡ (heard_of job p m nonce).code → IsFaultTold code m
fault_is_told job p m nonce code named room e = record {
  low = subst (λ n. n < 2 ^ 32) (sym e) (hears_ready User job.account p.standing m nonce named room).code;
  faultless = fault_told job.account p m nonce code e;
}
