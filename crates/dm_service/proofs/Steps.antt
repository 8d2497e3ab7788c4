-- What a message does that is taken, in numbers: it stands above what was accepted, and is the one accepted last then.
use Rattle.std.proofs.Common.{None, Some, ◌≡◌, ◌<◌, ◌==◌, ◌&&◌, ◌||◌, ◌⊎◌, ℕ, Bool, true, false, cond, not, inl, inr}
use Rattle.std.proofs.Common.{List, refl, ap, subst, ◌∙◌, arith, nat_lt}
use Rattle.std.specs.Prelude.{Option, Result, Ok, Err, ◌^◌, is_some}
use Rattle.std.specs.List.{list_any}
use Rattle.syncml_types.specs.Message.{Parts}
use Rattle.wbxml_tokens.specs.declared.reason.Refusal.{Refusal}
use Rattle.dm_headers.specs.declared.checks.Side.TheVariants.{User}
use Rattle.dm_headers.specs.declared.standings.Standing.{Standing}
use Rattle.dm_headers.specs.Checks.{fault_of, is_denied, passes}
use Rattle.dm_headers.specs.Standings.{Heard, hears}
use Rattle.dm_ends.specs.Commands.{is_abort, session_of}
use Rattle.dm_service.specs.declared.progress.ServiceProgress.{ServiceProgress}
use Rattle.dm_service.specs.Service.{Session, Service}
use Rattle.dm_service.specs.Packages.{gives_up, next_package}
use Rattle.dm_service.specs.Sending.{sends}
use Rattle.dm_service.specs.Messages.{first_session, begins, ended, denies, after_status, tells, queues_answers}
use Rattle.dm_service.specs.Messages.{in_session, session_or, answers_message, by_header, accepts}
use Rattle.dm_service.specs.Events.{Arrival, in_range, number_of, last_of, takes_in, takes_number, takes_read, takes}
use Rattle.dm_service.specs.Events.{opens_session}
use Rattle.dm_service.specs.Events.{after_in_session, after_number, after_read, after}

-- ---- the session of a machine

-- it is that of a number, and this MsgID was accepted last in it
abbrev pub IsAt : ℕ → ℕ → Option Session → Type 0
IsAt n msg None = ⊥
IsAt n msg (Some x) = (x.progress.number ≡ n) × (last_of x ≡ msg)

-- a MsgID of a session stands above what was accepted
abbrev pub IsAbove : Option Session → ℕ → ℕ → Type 0
IsAbove None n msg = Unit {0}
IsAbove (Some s) n msg = (s.progress.number < n) ⊎ ((s.progress.number ≡ n) × (last_of s < msg))

-- a machine whose session has come as far as this
abbrev pub Stands : ServiceProgress → Option Session → Type 0
Stands p None = ⊥
Stands p (Some x) = x.progress ≡ p

pub either : {A : Type 0} (P : A → Type 0) (b : Bool) (x y : A) → P x → P y → P (cond b x y)
either P true x y h k = h
either P false x y h k = k

-- ---- a message

gives-stands : (v : Service) (s : Session) → Stands s.progress (gives_up v s).session
unfolding gives_up
gives-stands v s = refl

status-stands : (v : Service) (s : Session) (failed : Bool) (status : ℕ) → Stands s.progress v.session
    → Stands s.progress (after_status v s failed status).session
status-stands v s failed status h =
    either (λ (w : Service). Stands s.progress w.session) (not failed && is_denied status) (gives_up v s) v
    (gives-stands v s) h

-- the session that a machine has
session-stands : (p : ServiceProgress) (o : Option Session) (s : Session) → Stands p o → (session_or o s).progress ≡ p
session-stands p None s h = absurd h
session-stands p (Some x) s h = h

tells-stands : (v : Service) (s : Session) (m : Parts) (code : ℕ) → Stands s.progress v.session
    → Stands s.progress (tells v s m code).session
tells-stands v s m code h =
    either (λ (w : Service). Stands s.progress w.session) (passes code) _ v refl h

sends-at : (v : Service) (s : Session) (m : Parts) (code n msg : ℕ) → s.progress.number ≡ n → last_of s ≡ msg
    → IsAt n msg (sends v s m code).session
unfolding sends
sends-at v s m code n msg e f = (e, f)

denies-at : (v : Service) (s : Session) (m : Parts) (code : ℕ) (nonce : List ℕ) (n msg : ℕ) → s.progress.number ≡ n
    → last_of s ≡ msg → IsAt n msg (denies v s m code nonce).session
unfolding denies
denies-at v s m code nonce n msg e f = (e, f)

answers-at : (v : Service) (s : Session) (m : Parts) (code : ℕ) (nonce : List ℕ) (n msg : ℕ)
    → Stands s.progress v.session
    → s.progress.number ≡ n → last_of s ≡ msg → IsAt n msg (answers_message v s m code nonce).session
answers-at v s m code nonce n msg h e f =
    let told = tells v s m code in
    let t = in_session told s in
    let p : t.progress ≡ s.progress = session-stands s.progress told.session s (tells-stands v s m code h) in
    sends-at (next_package (queues_answers told m code nonce) t.progress.standing) t m code n msg
    (ap (λ (q : ServiceProgress). q.number) p ∙ e) (ap (λ (q : ServiceProgress). q.standing.last) p ∙ f)

header-at : (v : Service) (s : Session) (m : Parts) (h : Heard) (nonce : List ℕ) (n msg : ℕ)
    → Stands s.progress v.session
    → s.progress.number ≡ n → last_of s ≡ msg → IsAt n msg (by_header v s m h nonce).session
header-at v s m h nonce n msg k e f =
    either (λ (w : Service). IsAt n msg w.session) (not (is_some (fault_of m)) && list_any is_abort m.body) (ended v s)
    (cond h.second (denies v s m h.code nonce) (answers_message v s m h.code nonce)) (e, f)
    (either (λ (w : Service). IsAt n msg w.session) h.second (denies v s m h.code nonce)
    (answers_message v s m h.code nonce) (denies-at v s m h.code nonce n msg e f)
    (answers-at v s m h.code nonce n msg k e f))

heard-last : (v : Service) (s : Standing) (m : Parts) (nonce : List ℕ)
    → (hears User v.job.account s m nonce).standing.last ≡ m.header.msg
unfolding hears
heard-last v s m nonce = refl

pub accepts_at : (v : Service) (s : Session) (m : Parts) (nonce : List ℕ)
    → IsAt s.progress.number m.header.msg (accepts v s m nonce).session
unfolding accepts
accepts_at v s m nonce =
    let h = hears User v.job.account s.progress.standing m nonce in
    let t : Session = record s { progress = record s.progress { standing = h.standing } } in
    let heard : Service = record v { job = record v.job { account = h.account }; session = Some t } in
    let w = after_status heard t s.progress.standing.we_failed h.status in
    let k = status-stands heard t s.progress.standing.we_failed h.status refl in
    let x = in_session w t in
    let p : x.progress ≡ t.progress = session-stands t.progress w.session t k in
    header-at w x m h nonce s.progress.number m.header.msg (stay w.session t k)
    (ap (λ (q : ServiceProgress). q.number) p)
    (ap (λ (q : ServiceProgress). q.standing.last) p ∙ heard-last v s.progress.standing m nonce)
  where
    stay : (o : Option Session) (t : Session) → Stands t.progress o → Stands (session_or o t).progress o
    stay None t h = absurd h
    stay (Some x) t h = refl

-- ---- what is taken

pub lt_of : (a b : ℕ) → nat_lt a b ≡ true → a < b
lt_of a b h = grind arith

pub record Step (o : Option Session) (read : Result Parts Refusal) (p : Option Session) : Type 0 where
  pub message : Parts
  pub is_read : read ≡ Ok message
  pub number : ℕ
  pub named : number_of message ≡ Some number
  pub some : 0 < number
  pub above : IsAbove o number message.header.msg
  pub at : IsAt number message.header.msg p

range-some : (o : Option ℕ) (n : ℕ) → in_range o ≡ Some n → 0 < n
range-some None n e = absurd (cc)
range-some (Some k) n e = by (nat_lt 0 k) (nat_lt k (2 ^ 32)) refl e
  where
    by : (a b : Bool) → nat_lt 0 k ≡ a → cond (a && b) (Some k) None ≡ Some n → 0 < n
    by true true h e = let f : k ≡ n = cc in let l = lt_of 0 k h in omega (arith, f, l)
    by true false h e = absurd (cc)
    by false b h e = absurd (cc)

takes-above : (o : Option Session) (n : ℕ) (m : Parts) → takes_in o n m ≡ true → IsAbove o n m.header.msg
takes-above None n m h = tt
takes-above (Some s) n m h =
    by (nat_lt s.progress.number n) (s.progress.number == n) (nat_lt (last_of s) m.header.msg) (not s.progress.is_over)
    refl refl refl h
  where
    by : (a b c d : Bool) → nat_lt s.progress.number n ≡ a → (s.progress.number == n) ≡ b
        → nat_lt (last_of s) m.header.msg ≡ c → (a || (b && c && d)) ≡ true → IsAbove (Some s) n m.header.msg
    by true b c d e f g h = inl (lt_of s.progress.number n e)
    by false true true d e f g h = inr (grind (arith, f), lt_of (last_of s) m.header.msg g)
    by false true false d e f g h = absurd (cc)
    by false false c d e f g h = absurd (cc)

acts-at : (v : Service) (o : Option Session) (n : ℕ) (m : Parts) (nonce : List ℕ)
    → IsAt n m.header.msg (after_in_session v o n m nonce).session
acts-at v None n m nonce = accepts_at (begins v n) (first_session v.job.account n) m nonce
acts-at v (Some s) n m nonce = by (s.progress.number == n) refl
  where
    by : (b : Bool) → (s.progress.number == n) ≡ b
        → IsAt n m.header.msg (cond b (accepts v s m nonce) (opens_session v n m nonce)).session
    by true e = let f : s.progress.number ≡ n = grind (arith, e) in
        subst (λ k. IsAt k m.header.msg (accepts v s m nonce).session) f (accepts_at v s m nonce)
    by false e = accepts_at (begins v n) (first_session v.job.account n) m nonce

pub step : (v : Service) (e : Arrival) → takes v e ≡ true → Step v.session e.read (after v e).session
unfolding takes after
step v e h = by e.read h
  where
    of_number : (m : Parts) (k : Option ℕ) → number_of m ≡ k → takes_number v.session k m ≡ true
        → Step v.session (Ok m) (after_number v k m e.nonce).session
    of_number m None f h = absurd (cc)
    of_number m (Some n) f h =
        record {
          message = m;
          is_read = refl;
          number = n;
          named = f;
          some = range-some (session_of m) n f;
          above = takes-above v.session n m h;
          at = acts-at v v.session n m e.nonce;
        }

    by : (read : Result Parts Refusal) → takes_read v read ≡ true
        → Step v.session read (after_read v read e.nonce).session
    by (Ok m) h = of_number m (number_of m) refl h
    by (Err place) h = absurd (cc)
