-- A message that comes to the server keeps what both ends have of the value that is on its way.
use Rattle.std.proofs.Common.{◌≡◌, ◌<◌, ◌≤◌, ◌+◌, ℕ, Bool, true, false, cond, not, List, [], ◌++◌}
use Rattle.std.proofs.Common.{Option, None, Some, IfSome, refl, sym, ◌∙◌, ap, subst, arith, ◌⊎◌, inl, inr}
use Rattle.std.specs.Prelude.{nat_eq}
use Rattle.std.specs.List.{Contains}
use Rattle.syncml_types.specs.declared.command.Step.{Step}
use Rattle.syncml_types.specs.Message.{Parts}
use Rattle.dm_atomic.specs.Made.{Made}
use Rattle.dm_pack.specs.Filling.{commands_of}
use Rattle.dm_machine.specs.Machine.{Machine, Session as Opened}
use Rattle.dm_service.specs.declared.sent.Sent.{Sent}
use Rattle.dm_service.specs.Service.{Told, Service, Session as Serving}
use Rattle.dm_service.specs.Messages as serving
use Rattle.dm_service.specs.Events as server
use Rattle.dm_service.specs.History as server_runs
use Rattle.dm_service.specs.Laws.{found_at}
use Rattle.dm_service.specs.Events.{arrival}
use Rattle.dm_world.specs.World.{InSession, Reply}
use Rattle.dm_world.specs.Acts.{Act}
use Rattle.dm_world.specs.Packing.{reply_acts}
use Rattle.dm_world.proofs.Lists.{either_is, and-right, Each, each-append, each-within, StandsIn}
use Rattle.dm_world.proofs.Numbers.{session_number, eq-of, eq-self}
use Rattle.dm_world.proofs.Client.{OpenAs}
use Rattle.dm_world.proofs.Server.{Served, ServedAs, accepts-served}
use Rattle.dm_world.proofs.Lockstep.{UpOk, Bound, Holds, PairOk, ServerOk, ServerFine, Before, is-next-up}
use Rattle.dm_world.proofs.Happens.{TakenUp, taken-turn, served-by}
use Rattle.dm_world.proofs.Turns.{bound-most}
use Rattle.dm_world.proofs.Serves.{Goes, Stops, Outcome_of, AfterMessage, status-is, accepts-outcome}
use Rattle.dm_world.proofs.ServerGoes.{served-last, base-queue}
use Rattle.dm_world.proofs.Position.{seen, sent_by, ByRun, Placed}
use Rattle.dm_world.proofs.Flows.{Going, Flow, WasFoundAs, IsSilent, FoundNone}
use Rattle.dm_world.proofs.Gathers.{IsNew, Among}
use Rattle.dm_world.proofs.ServerFlows.{HasNone, Accepted, accepts-leave}
use Rattle.dm_world.proofs.ClientFlows.{silent-flow}
use Rattle.dm_world.proofs.Holding.{UpTo, Ball, Keeps, Start, Left, message-left, found-nowhere, run-live}

-- what is known of the world beside
pub record Beside (job done : List Act) (c : Machine) (v : Service) (downs : List Reply) (ups : List Parts)
    (made : List (InSession Made)) (u : Parts) : Type 0 where
  pub holds : Holds c.begun c.session v.session downs ups
  pub placed : Placed job done c.session v downs ups
  pub keeps : Keeps c v ups made done
  pub within : StandsIn u ups
  pub silent : FoundNone made (session_number u) → Each IsSilent u.body
  pub low : (z : Going) (y : Serving) → v.session ≡ Some y → WasFoundAs made y.progress.number z → z.msg ≤ sent_by y

-- ---- in the session that the server has

same-start : (job done : List Act) (c : Machine) (v : Service) (y : Serving) (downs : List Reply) (ups : List Parts)
    (made : List (InSession Made)) (u : Parts) (nonce : List ℕ)
    → Beside job done c v downs ups made u
    → v.session ≡ Some y
    → session_number u ≡ y.progress.number
    → u.header.msg ≡ y.progress.standing.last + 1
    → y.progress.is_over ≡ false
    → Start made c v y y.progress.number u nonce
same-start job done c v y downs ups made u nonce b e n m o =
    let p = b.keeps.pends u b.within y e n m o in
    let sound = (each-within (UpOk c.begun v.session) ups u b.holds.ups_ok b.within).sound in
    let runs = subst (λ q. ByRun job done c.session v q downs ups v.runs_in) e b.placed.runs in
    record {
      going = p.going;
      later = p.later;
      flow = p.flow;
      fits = p.fits;
      was_found = p.was_found;
      mine = p.mine;
      low = λ z f. b.low z y e f;
      none = b.keeps.none_yet y e;
      first = λ t.
          found-nowhere job done c v y downs ups made y.progress.number v.runs_in b.keeps refl refl
          (λ r. (run-live job done c v y downs ups v.runs_in u runs r).1 b.within n
          (sym (status-is v.job.account y.progress.standing u nonce sound).denied
          ∙ and-right (not y.progress.standing.we_failed) _ t)) runs;
      unasked = λ a.
          found-nowhere job done c v y downs ups made y.progress.number v.runs_in b.keeps refl refl
          (λ r. absurd ((run-live job done c v y downs ups v.runs_in u runs r).0 (b.keeps.none_yet y e a).0)) runs;
    }

-- ---- in a new session

-- nothing was found in it
none-new : (job done : List Act) (c : Machine) (v : Service) (downs : List Reply) (ups : List Parts)
    (made : List (InSession Made)) (u : Parts) (n : ℕ)
    → Beside job done c v downs ups made u
    → ((y : Serving) → v.session ≡ Some y → y.progress.number < n)
    → FoundNone made n
none-new job done c v downs ups made u n b less post found k = by v.session refl (b.keeps.low _ k)
  where
    by : (o : Option Serving) → v.session ≡ o → UpTo o n → ⊥
    by None e h = h
    by (Some y) e h = let l = less y e in omega (arith, h, l)

abbrev is_open_in : ℕ → Option Opened → Bool
is_open_in n None = false
is_open_in n (Some s) = nat_eq s.progress.number n

-- what waits at a client that has begun it
waits-silent : (job done : List Act) (c : Machine) (v : Service) (downs : List Reply) (ups : List Parts)
    (made : List (InSession Made)) (u : Parts) (n : ℕ)
    → Beside job done c v downs ups made u
    → ((y : Serving) → v.session ≡ Some y → y.progress.number < n)
    → (o : Option Opened)
    → c.session ≡ o
    → Each IsSilent (cond (is_open_in n o) (commands_of c.queue) [])
waits-silent job done c v downs ups made u n b less None e = tt
waits-silent job done c v downs ups made u n b less (Some s) e = by (nat_eq s.progress.number n) refl
  where
    unseen : (o : Option Serving) → v.session ≡ o → PairOk (Some s) o → s.progress.number ≡ n → seen s ≡ 0
    unseen None f h q = h
    unseen (Some y) f h q = h.later (let l = less y f in omega (arith, l, q))

    by : (d : Bool) → nat_eq s.progress.number n ≡ d → Each IsSilent (cond d (commands_of c.queue) [])
    by true q =
        ((b.keeps.client s e).fresh
        (unseen v.session refl (subst (λ o. PairOk o v.session) e b.holds.pair_ok) (eq-of s.progress.number n q))).1
    by false q = tt

new-mine : (c : Machine) (n : ℕ) (s : Opened) → c.session ≡ Some s → s.progress.number ≡ n
    → cond (is_open_in n c.session) (commands_of c.queue) [] ≡ commands_of c.queue
new-mine c n s e f =
    ap (λ o. cond (is_open_in n o) (commands_of c.queue) []) e
    ∙ ap (λ b. cond b (commands_of c.queue) []) (ap (λ i. nat_eq i n) f ∙ eq-self n)

new-start : (job done : List Act) (c : Machine) (v : Service) (downs : List Reply) (ups : List Parts)
    (made : List (InSession Made)) (u : Parts) (nonce : List ℕ)
    → Beside job done c v downs ups made u
    → ((y : Serving) → v.session ≡ Some y → y.progress.number < session_number u)
    → Start made c (serving.begins v (session_number u)) (serving.first_session v.job.account (session_number u))
    (session_number u) u nonce
new-start job done c v downs ups made u nonce b less =
    let n = session_number u in
    let none = none-new job done c v downs ups made u n b less in
    let later = cond (is_open_in n c.session) (commands_of c.queue) [] in
    record {
      going = None;
      later = later;
      flow = silent-flow made n (u.body ++ later)
          (each-append IsSilent u.body later (b.silent none)
          (waits-silent job done c v downs ups made u n b less c.session refl));
      fits = refl;
      was_found = tt;
      mine = λ s e f. new-mine c n s e f;
      low = λ z f. absurd (none f.post z.found f.within);
      none = λ a. (refl, tt);
      first = λ t. none;
      unasked = λ a. none;
    }

-- ---- either

abbrev BaseIs : Service → ℕ → Service → Serving → Type 0
BaseIs v n base from =
    ((base ≡ v) × (v.session ≡ Some from))
    ⊎ ((base ≡ serving.begins v n) × (from ≡ serving.first_session v.job.account n))

start-of : (job done : List Act) (c : Machine) (v x : Service) (downs : List Reply) (ups : List Parts)
    (made : List (InSession Made)) (u : Parts) (nonce : List ℕ)
    → Beside job done c v downs ups made u
    → (k : TakenUp v v.session (session_number u) u nonce x)
    → u.header.msg ≡ k.own + 1
    → Start made c k.base k.from (session_number u) u nonce
start-of job done c v x downs ups made u nonce b k next = by k.base_is
  where
    in-session : (y : Serving) → Before (Some y) (session_number u) k.own → y.progress.number ≡ session_number u
        → (k.own ≡ y.progress.standing.last) × (y.progress.is_over ≡ false)
    in-session y (inl q) e = absurd (let less = q.0 in omega (arith, less, e))
    in-session y (inr q) e = (q.2, q.3)

    own-zero : k.from ≡ serving.first_session v.job.account (session_number u) → k.own ≡ 0
    own-zero e = sym k.own_is ∙ ap sent_by e

    less : k.own ≡ 0 → (y : Serving) → v.session ≡ Some y → y.progress.number < session_number u
    less z y e = of (subst (λ q. Before q (session_number u) k.own) e k.before)
      where
        of : Before (Some y) (session_number u) k.own → y.progress.number < session_number u
        of (inl q) = q.0
        of (inr q) =
            let fine : ServerFine c.begun y = subst (ServerOk c.begun) e b.holds.server_ok in
            let low = fine.low in
            let last = q.2 in
            absurd (omega (arith, low, last, z))

    by : BaseIs v (session_number u) k.base k.from → Start made c k.base k.from (session_number u) u nonce
    by (inl z) =
        let at = in-session k.from (subst (λ q. Before q (session_number u) k.own) z.1 k.before) k.number in
        subst (λ base. Start made c base k.from (session_number u) u nonce) (sym z.0)
        (subst (λ i. Start made c v k.from i u nonce) k.number
        (same-start job done c v k.from downs ups made u nonce b z.1 (sym k.number)
        (next ∙ ap (λ i. i + 1) at.0) at.1))
    by (inr z) =
        subst (λ base. Start made c base k.from (session_number u) u nonce) (sym z.0)
        (subst (λ from. Start made c (serving.begins v (session_number u)) from (session_number u) u nonce) (sym z.1)
        (new-start job done c v downs ups made u nonce b (less (own-zero z.1))))

-- ---- in which session the job runs then

abbrev RunsAs : Option ℕ → Option ℕ → ℕ → Type 0
RunsAs before then n = (then ≡ before) ⊎ (then ≡ Some n) ⊎ (then ≡ None)

outcome-runs : (v : Service) (y : Serving) (u : Parts) (x : Service) (t : Serving) → Outcome_of v y u x t
    → RunsAs v.runs_in x.runs_in y.progress.number
outcome-runs v y u x t (inl k) = by k.2.runs
  where
    by : ((x.runs_in ≡ v.runs_in) × (reply_acts (server.reply_of x) ≡ []) × (t.sent ≡ y.sent))
        ⊎ ((x.runs_in ≡ Some y.progress.number) × (t.sent ≡ [] → ⊥))
        → RunsAs v.runs_in x.runs_in y.progress.number
    by (inl z) = inl z.0
    by (inr z) = inr (inl z.0)
outcome-runs v y u x t (inr (inl k)) = inl k.runs_in
outcome-runs v y u x t (inr (inr k)) = by k.5
  where
    gave : ((k.0.runs_in ≡ None) × (k.1 ≡ [])) ⊎ ((k.0.runs_in ≡ v.runs_in) × (y.sent ≡ []) × (k.1 ≡ []))
        ⊎ ((k.0.runs_in ≡ v.runs_in) × (y.sent ≡ [] → ⊥) × (k.1 ≡ [] → ⊥))
        → x.runs_in ≡ k.0.runs_in
        → RunsAs v.runs_in x.runs_in y.progress.number
    gave (inl z) e = inr (inr (e ∙ z.0))
    gave (inr (inl z)) e = inl (e ∙ z.0)
    gave (inr (inr z)) e = inl (e ∙ z.0)

    sent : ((x.runs_in ≡ k.0.runs_in) × (reply_acts (server.reply_of x) ≡ []) × (t.sent ≡ k.1))
        ⊎ ((x.runs_in ≡ Some y.progress.number) × (t.sent ≡ [] → ⊥))
        → RunsAs v.runs_in x.runs_in y.progress.number
    sent (inl z) = gave k.4.runs z.0
    sent (inr z) = inr (inl z.0)

    by : ((t.progress.standing.own ≡ y.progress.standing.own + 1)
        × Goes k.0 x k.1 t.sent y.progress.number (reply_acts (server.reply_of x)))
        ⊎ Stops k.0 x k.1 t.sent t.progress.is_over (reply_acts (server.reply_of x))
        → RunsAs v.runs_in x.runs_in y.progress.number
    by (inl z) = sent z.1.runs
    by (inr z) = gave k.4.runs z.runs_in

base-runs : (v : Service) (n : ℕ) (base : Service) (from : Serving) → BaseIs v n base from
    → base.runs_in ≡ v.runs_in
base-runs v n base from (inl z) = ap (λ (q : Service). q.runs_in) z.0
base-runs v n base from (inr z) = ap (λ (q : Service). q.runs_in) z.0

base-told : (v : Service) (n : ℕ) (base : Service) (from : Serving) → BaseIs v n base from → base.told ≡ v.told
base-told v n base from (inl z) = ap (λ (q : Service). q.told) z.0
base-told v n base from (inr z) = ap (λ (q : Service). q.told) z.0

-- ---- all that is kept

-- a value that came with this message, for what the server has sent in its session before it
pub record CameNow (made : List (InSession Made)) (v : Service) (place : ℕ) (value : Step) : Type 0 where
  pub session : Serving
  pub is_open : v.session ≡ Some session
  pub new : IsNew made session.progress.number session.sent place value

abbrev pub Values : List (InSession Made) → Service → Service → Type 0
Values made v x = (place : ℕ) (value : Step) → Contains (found_at x.told place) value
    → Contains (found_at v.told place) value ⊎ CameNow made v place value

pub record KeepsOn (c : Machine) (v x : Service) (ups : List Parts) (made : List (InSession Made)) (done : List Act)
    : Type 0 where
  pub keeps : Keeps c x ups made done
  pub values : Values made v x

values-of : (made : List (InSession Made)) (v x base : Service) (from : Serving) (n : ℕ) (told : List Told)
    → BaseIs v n base from
    → from.progress.number ≡ n
    → base.told ≡ v.told
    → Among made n from.sent base.told x.told
    → Values made v x
values-of made v x base from n told is number same h place value k = by is (h place value k)
  where
    none : {y : Sent} → Contains [] y → ⊥
    none k = let low = k.1 in omega (arith, low)

    old : Contains (found_at base.told place) value → Contains (found_at v.told place) value
    old k = subst (λ l. Contains (found_at l place) value) same k

    by : BaseIs v n base from
        → Contains (found_at base.told place) value ⊎ IsNew made n from.sent place value
        → Contains (found_at v.told place) value ⊎ CameNow made v place value
    by is (inl k) = inl (old k)
    by (inl z) (inr k) =
        inr (record {
          session = from;
          is_open = z.1;
          new = subst (λ i. IsNew made i from.sent place value) (sym number) k;
        })
    by (inr z) (inr k) =
        absurd (none (subst (λ l. Contains l k.command) (ap (λ (q : Serving). q.sent) z.1) k.was_sent))

number-low : (c : Machine) (v : Service) (made : List (InSession Made)) (o : Option Serving) (n own : ℕ) (t : Serving)
    (i : ℕ) → Before o n own → t.progress.number ≡ n → UpTo o i → i ≤ t.progress.number
number-low c v made None n own t i b e h = absurd h
number-low c v made (Some y) n own t i (inl b) e h = let l = b.0 in omega (arith, l, e, h)
number-low c v made (Some y) n own t i (inr b) e h = let l = b.0 in omega (arith, l, e, h)

some-is : {A : Type 0} (x y : A) → ◌≡◌ {A = Option A} (Some x) (Some y) → x ≡ y
some-is x y e = cc

taken-keeps : (job done : List Act) (c : Machine) (v x : Service) (t : Serving) (downs ds : List Reply)
    (ups : List Parts) (made : List (InSession Made)) (u : Parts) (nonce : List ℕ)
    → (b : Beside job done c v downs ups made u)
    → (k : TakenUp v v.session (session_number u) u nonce x)
    → u.header.msg ≡ k.own + 1
    → x.session ≡ Some t
    → (t.progress.number ≡ session_number u) × (t.progress.standing.last ≡ u.header.msg)
    → Holds c.begun c.session (Some t) ds ups
    → RunsAs v.runs_in x.runs_in (session_number u)
    → (l : Start made c k.base k.from (session_number u) u nonce)
    → Left made (session_number u) k.from.sent k.base.told l.later x t
    → Keeps c x ups made done
taken-keeps job done c v x t downs ds ups made u nonce b k next e at after runs s l = record {
  low = λ i w.
      subst (λ o. UpTo o i.session) (sym e)
      (number-low c v made v.session (session_number u) k.own t i.session k.before at.0 (b.keeps.low i w));
  none_yet = λ y f. subst (HasNone x) (some-is t y (sym e ∙ f)) l.none;
  unmade = b.keeps.unmade;
  before = λ j n f less. by-runs j n f less runs;
  client = λ z f. record {
    free = (b.keeps.client z f).free;
    fresh = (b.keeps.client z f).fresh;
    undone = (b.keeps.client z f).undone;
    elsewhere = λ j g less. elsewhere z f j g less runs;
    ball = λ y g n own.
        (let same : t ≡ y = some-is t y (sym e ∙ g) in
        subst (Ball made c) same
        (let mine = s.mine z f (sym n ∙ ap (λ (q : Serving). q.progress.number) (sym same) ∙ at.0) in
        record {
          going = l.going;
          flow = subst (λ i. Flow made i l.going (commands_of c.queue)) (sym at.0)
              (subst (Flow made (session_number u) l.going) mine l.flow);
          fits = l.fits;
          was_found = subst (λ i. IfSome l.going (WasFoundAs made i)) (sym at.0) l.was_found;
        }));
  };
  pends = λ z w y g n m over.
      (let same : t ≡ y = some-is t y (sym e ∙ g) in
      absurd
      (let f = each-within (UpOk c.begun v.session) ups z b.holds.ups_ok w in
      let mine : session_number z ≡ session_number u = n ∙ ap (λ (q : Serving). q.progress.number) (sym same) ∙ at.0 in
      let most =
      bound-most v.session (session_number u) k.own z.header.msg k.before
      (subst (λ i. Bound v.session i z.header.msg) mine f.bound) in
      let last : y.progress.standing.last ≡ u.header.msg =
      ap (λ (q : Serving). q.progress.standing.last) (sym same) ∙ at.1 in
      omega (arith, most, last, m, next)));
}
  where
    by-runs : (j n : ℕ) → x.runs_in ≡ Some j → j < n → RunsAs v.runs_in x.runs_in (session_number u)
        → FoundNone made n
    by-runs j n f less (inl q) = b.keeps.before j n (sym q ∙ f) less
    by-runs j n f less (inr (inl q)) =
        λ post found h.
        (let same : session_number u ≡ j = some-is (session_number u) j (sym q ∙ f) in
        let is = at.0 in
        let most =
        number-low c v made v.session (session_number u) k.own t n k.before at.0 (b.keeps.low _ h) in
        omega (arith, same, most, less, is))
    by-runs j n f less (inr (inr q)) = absurd (cc)

    elsewhere : (z : Opened) → c.session ≡ Some z → (j : ℕ) → x.runs_in ≡ Some j → j < z.progress.number
        → RunsAs v.runs_in x.runs_in (session_number u)
        → c.engine.group ≡ None
    elsewhere z f j g less (inl q) = (b.keeps.client z f).elsewhere j (sym q ∙ g) less
    elsewhere z f j g less (inr (inl q)) =
        let same : session_number u ≡ j = some-is (session_number u) j (sym q ∙ g) in
        let is = at.0 in
        let pair = subst (λ o. PairOk o (Some t)) f after.pair_ok in
        ((b.keeps.client z f).fresh (pair.later (omega (arith, same, less, is)))).0
    elsewhere z f j g less (inr (inr q)) = absurd (cc)

open-one : {S : Type 0} (P : S → Type 0) (o : Option S) → OpenAs P o → (t : S) × (o ≡ Some t) × P t
open-one P None h = absurd h
open-one P (Some t) h = (t, refl, h)

-- a message that it takes
taken-on : (job done : List Act) (c : Machine) (v x : Service) (downs ds : List Reply) (ups : List Parts)
    (made : List (InSession Made)) (u : Parts) (nonce : List ℕ)
    → Beside job done c v downs ups made u
    → TakenUp v v.session (session_number u) u nonce x
    → Holds c.begun c.session x.session ds ups
    → KeepsOn c v x ups made done
taken-on job done c v x downs ds ups made u nonce b k after =
    let n = session_number u in
    let f = each-within (UpOk c.begun v.session) ups u b.holds.ups_ok b.within in
    let next = is-next-up v.session n k.own u.header.msg k.before f.bound k.later in
    let y = serving.accepts k.base k.from u nonce in
    let served : Served n u.header.msg k.own y =
    subst (λ i. Served i u.header.msg k.own y) k.number
    (subst (λ i. Served k.from.progress.number u.header.msg i y) k.own_is (accepts-served k.base k.from u nonce)) in
    let one =
    open-one (Accepted k.base k.from u nonce x) x.session
    (subst (λ (z : Service). OpenAs (Accepted k.base k.from u nonce z) z.session) (sym k.is)
    (accepts-leave k.base k.from u nonce)) in
    let t = one.0 in
    let stands =
    served-last n u.header.msg k.own x.sent (Some t)
    (subst (λ o. ServedAs n u.header.msg k.own x.sent o) one.1
    (subst (λ (z : Service). ServedAs n u.header.msg k.own z.sent z.session) (sym k.is) served)) in
    let am : AfterMessage k.base k.from u x t =
    subst (OpenAs (AfterMessage k.base k.from u x)) one.1
    (subst (λ (z : Service). OpenAs (AfterMessage k.base k.from u z) z.session) (sym k.is)
    (accepts-outcome k.base k.from u nonce f.sound (base-queue v n k.base k.from k.base_is b.placed.queue_ok))) in
    let runs =
    subst (λ i. RunsAs v.runs_in x.runs_in i) k.number
    (subst (λ r. RunsAs r x.runs_in k.from.progress.number) (base-runs v n k.base k.from k.base_is)
    (outcome-runs k.base k.from u x t am.outcome)) in
    let start = start-of job done c v x downs ups made u nonce b k next in
    let left = message-left made c k.base k.from n u nonce x t f.sound start one.2 in
    record {
      keeps = taken-keeps job done c v x t downs ds ups made u nonce b k next one.1 stands
          (subst (λ o. Holds c.begun c.session o ds ups) one.1 after) runs start left;
      values = values-of made v x k.base k.from n v.told k.base_is k.number (base-told v n k.base k.from k.base_is)
          left.values;
    }

same-on : (c : Machine) (v : Service) (ups : List Parts) (made : List (InSession Made)) (done : List Act)
    → Keeps c v ups made done
    → KeepsOn c v v ups made done
same-on c v ups made done h = record { keeps = h; values = λ place value k. inl k }

pub serve-keeps : (job done : List Act) (c : Machine) (v : Service) (downs : List Reply) (ups : List Parts)
    (made : List (InSession Made)) (u : Parts) (nonce : List ℕ)
    → Beside job done c v downs ups made u
    → KeepsOn c v (server_runs.next v (arrival u nonce)) ups made done
unfolding server_runs.next server.takes server.after
serve-keeps job done c v downs ups made u nonce b =
    let f = each-within (UpOk c.begun v.session) ups u b.holds.ups_ok b.within in
    let n = session_number u in
    let read : server.number_of u ≡ Some n = f.read.counted in
    subst (λ i. KeepsOn c v (cond (server.takes_number v.session i u) (server.after_number v i u nonce) v)
    ups made done) (sym read)
    (either_is (λ x. KeepsOn c v x ups made done) (server.takes_in v.session n u)
    {x = server.after_in_session v v.session n u nonce} {y = v}
    (λ t.
    (let k = taken-turn c.begun v v.session n u nonce refl b.holds.server_ok f.first t in
    taken-on job done c v (server.after_in_session v v.session n u nonce) downs _ ups made u nonce b k
    (served-by c.begun c.session v downs ups u nonce (server.after_in_session v v.session n u nonce) b.holds f
    b.within k)))
    (λ t. same-on c v ups made done b.keeps))
