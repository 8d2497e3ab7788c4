-- A message that comes to the server keeps what both ends have of the job, and what they know of refusals.
use Rattle.std.proofs.Common.{◌≡◌, ◌<◌, ◌≤◌, ◌+◌, ◌||◌, ℕ, Bool, true, false, cond, List, [], ◌∷◌}
use Rattle.std.proofs.Common.{Option, None, Some, refl, sym, ◌∙◌, ap, subst, arith, ◌⊎◌, inl, inr}
use Rattle.syncml_types.specs.Message.{Parts}
use Rattle.dm_pack.specs.Entries.{Entry}
use Rattle.dm_machine.specs.Machine.{Session as Opened}
use Rattle.dm_service.specs.Service.{Service, Session as Serving}
use Rattle.dm_service.specs.Messages as serving
use Rattle.dm_service.specs.Events as server
use Rattle.dm_service.specs.History as server_runs
use Rattle.dm_world.specs.World.{Reply}
use Rattle.dm_world.specs.World.{with_new, replied}
use Rattle.dm_world.specs.Acts.{Act}
use Rattle.dm_world.specs.Acts.{job_acts}
use Rattle.dm_world.specs.Lockstep.{first_of}
use Rattle.dm_world.specs.Packing.{reply_acts, IsOfJobOrReport}
use Rattle.dm_world.proofs.Lists.{both-ways, Each, each-within, StandsIn}
use Rattle.dm_world.proofs.Numbers.{session_number}
use Rattle.dm_world.proofs.Client.{OpenAs}
use Rattle.dm_world.proofs.Server.{Served, ServedAs, accepts-served}
use Rattle.dm_world.proofs.Lockstep.{UpOk, Holds, ServerOk, PairOk, Before}
use Rattle.dm_world.proofs.Lockstep.{is-next-up}
use Rattle.dm_world.proofs.Happens.{TakenUp, taken-turn, refusal-silent}
use Rattle.dm_world.proofs.Turns.{first-up, bound-most}
use Rattle.dm_world.proofs.Calm.{says}
use Rattle.dm_world.proofs.Refusals.{OpenFine, SessionFine}
use Rattle.dm_world.proofs.Serves.{Goes, Stops, AfterMessage, accepts-outcome}
use Rattle.dm_world.proofs.Serving.{reply_to, OwnIs, Turn, Comes, Step_of, same-runs, begun-runs}
use Rattle.dm_world.proofs.Position.{seen, sent_by, NewestSays, Silent, Placed}
use Rattle.dm_world.proofs.Position.{ByRun}
use Rattle.dm_service.specs.declared.sent.Sent.{Sent}
use Rattle.dm_service.specs.Events.{arrival}
use Rattle.dm_world.proofs.Lockstep.{Bound, ServerFine}
use Rattle.dm_world.proofs.Serves.{Outcome_of, GaveUp}
use Rattle.dm_world.proofs.Happens.{served-by}
use Rattle.dm_world.proofs.ClientGoes.{UpSays, Known, Aware}

-- ---- the server takes a message

-- the client's last MsgID that was accepted is the server's last that was sent before it took this one
last-is : (s : Opened) (y t : Option Serving) (n own k : ℕ) → PairOk (Some s) y → s.progress.number ≡ n → Before y n own
    → k ≡ own + 1
    → OpenAs (λ (z : Serving). (z.progress.number ≡ n) × (z.progress.standing.last ≡ k)) t
    → PairOk (Some s) t
    → s.progress.standing.own ≡ seen s + 1
    → seen s ≡ own
last-is s y None n own k p sn h e z q so = absurd z
last-is s y (Some t) n own k p sn h e z q so =
    let served = q.served (z.0 ∙ sym sn) in
    let last = z.1 in
    let low = lower y p h in
    omega (arith, served, last, e, so, low)
  where
    lower : (y : Option Serving) → PairOk (Some s) y → Before y n own → seen s ≤ own
    lower None p h = omega (arith, p)
    lower (Some y) p (inl h) = let a = p.later (let g = h.0 in omega (arith, g, sn)) in omega (arith, a)
    lower (Some y) p (inr h) = let a = p.took (h.0 ∙ sym sn) in let g = h.1 in omega (arith, a, g)

pub served-last : (n last own : ℕ) (sent : Option Parts) (o : Option Serving) → ServedAs n last own sent o
    → OpenAs (λ (z : Serving). (z.progress.number ≡ n) × (z.progress.standing.last ≡ last)) o
served-last n last own sent None h = absurd h
served-last n last own sent (Some t) (inl h) = (h.0.number, h.0.last_is)
served-last n last own sent (Some t) (inr h) = (h.0.number, h.0.last_is)

client-last : (b : ℕ) (o : Option Opened) (y t : Option Serving) (downs downs' : List Reply) (ups : List Parts)
    (n own k : ℕ)
    → Holds b o y downs ups
    → Holds b o t downs' ups
    → Before y n own
    → k ≡ own + 1
    → OpenAs (λ (z : Serving). (z.progress.number ≡ n) × (z.progress.standing.last ≡ k)) t
    → (s : Opened)
    → o ≡ Some s
    → s.progress.number ≡ n
    → seen s ≡ own
client-last b o y t downs downs' ups n own k h g f e z s os sn =
    let hs = subst (λ (o : Option Opened). Holds b o y downs ups) os h in
    let gs = subst (λ (o : Option Opened). Holds b o t downs' ups) os g in
    last-is s y t n own k hs.pair_ok sn f e z gs.pair_ok hs.client_ok.own

client-head : (b : ℕ) (o : Option Opened) (y : Option Serving) (downs : List Reply) (ups : List Parts) (u : Parts)
    (n own : ℕ)
    → Holds b o y downs ups
    → StandsIn u ups
    → session_number u ≡ n
    → u.header.msg ≡ own + 1
    → ((s : Opened) → o ≡ Some s → s.progress.number ≡ n → seen s ≡ own)
    → (s : Opened)
    → o ≡ Some s
    → s.progress.number ≡ n
    → first_of ups ≡ Some u
client-head b o y downs ups u n own h w un next l s os sn =
    let hs = subst (λ (o : Option Opened). Holds b o y downs ups) os h in
    let c = hs.client_ok in
    let so = c.own in
    let sl = l s os sn in
    first-up ups b s.progress.standing.own u c.newest h.ups_fall w (un ∙ (sym sn ∙ c.number))
    (omega (arith, next, so, sl))

-- no message of the session speaks of the server's next one
past-silent : (b n own : ℕ) (v : Option Serving) (ups : List Parts) → Before v n own → 0 < own → Each (UpOk b v) ups
    → Each UpSays ups
    → Silent n (own + 1) ups
past-silent b n own v [] bf some h f = tt
past-silent b n own v (u ∷ us) bf some h f = (
  (λ e. by e (says (own + 1) u) refl),
  past-silent b n own v us bf some h.1
      f.1,
)
  where
    by : session_number u ≡ n → (c : Bool) → says (own + 1) u ≡ c → says (own + 1) u ≡ false
    by e false q = q
    by e true q = absurd (at (f.0.past (own + 1) q))
      where
        most : u.header.msg ≤ own + 1
        most =
            bound-most v n own u.header.msg bf
            (subst (λ j. Bound v j u.header.msg) e h.0.bound)

        at : (own + 1 ≡ 1) ⊎ (own + 1 < u.header.msg) → ⊥
        at (inl one) = omega (arith, one, some)
        at (inr more) = let less = most in omega (arith, more, less)

served-own : (n last own : ℕ) (sent : Option Parts) (t : Serving) → ServedAs n last own sent (Some t)
    → OwnIs own (sent_by t) (cond t.progress.answered sent None)
served-own n last own None t (inl h) = absurd h.2
served-own n last own (Some m) t (inl h) =
    subst (λ b. OwnIs own (sent_by t) (cond b (Some m) None)) (sym h.1) h.0.own_is
served-own n last own sent t (inr h) = subst (λ b. OwnIs own (sent_by t) (cond b sent None)) (sym h.1) h.0.own_is

reply-is : (p : Option Parts) (u : Parts) → replied (server.sent_or_ended p) u ≡ reply_to u p
reply-is None u = refl
reply-is (Some m) u = refl

-- what is known of the message that the server took
pub record Took (b : ℕ) (o : Option Opened) (v : Service) (downs : List Reply) (ups : List Parts) (u : Parts)
    (n own : ℕ) : Type 0 where
  pub holds : Holds b o v.session downs ups
  pub within : StandsIn u ups
  pub mine : session_number u ≡ n
  pub says_fine : Each UpSays ups
  pub known : Known v.session ups
  pub aware : Aware o v.session ups
  pub rose : (s : Opened) → o ≡ Some s → s.progress.standing.they_failed ≡ true → 0 < seen s

or-yes : (a b : Bool) → a ≡ true → (a || b) ≡ true
or-yes true b e = refl
or-yes false b e = absurd (cc)

or-other : (a b : Bool) → b ≡ true → (a || b) ≡ true
or-other true b e = refl
or-other false b e = e

or-none : (a b : Bool) → (a || b) ≡ false → a ≡ false
or-none true b e = absurd (cc)
or-none false b e = refl

-- the server goes on in its session
known-same : (b : ℕ) (o : Option Opened) (v : Service) (y t : Serving) (downs : List Reply) (ups us : List Parts)
    (u : Parts) (n own : ℕ) (p : Option Parts)
    → y.progress.number ≡ n
    → t.progress.number ≡ n
    → own ≡ sent_by y
    → OwnIs own (sent_by t) p
    → (t.progress.standing.we_failed ≡ false → y.progress.standing.we_failed ≡ false)
    → Silent n (own + 1) us
    → Known (Some y) us
    → Known (Some t) us
known-same b o v y t downs ups [] u n own p yn tn yo oi failed past h = tt
known-same b o v y t downs ups (x ∷ us) u n own p yn tn yo oi failed past h =
    (by p oi, known-same b o v y t downs ups us u n own p yn tn yo oi failed past.1 h.1)
  where
    by : (p : Option Parts) → OwnIs own (sent_by t) p → session_number x ≡ t.progress.number
        → says (sent_by t) x ≡ true
        → t.progress.standing.we_failed ≡ false
        → sent_by t ≤ 1
    by None e f q w =
        let same : sent_by t ≡ sent_by y = e ∙ yo in
        let few = h.0 (f ∙ tn ∙ sym yn) (ap (λ j. says j x) (sym same) ∙ q) (failed w) in
        omega (arith, few, same)
    by (Some m) e f q w =
        absurd (let z = past.0 (f ∙ tn) in let r = ap (λ j. says j x) (sym e) ∙ q in cc)

known-begun : (t : Serving) (ups : List Parts) → sent_by t ≤ 1 → Known (Some t) ups
known-begun t [] few = tt
known-begun t (u ∷ us) few = ((λ e q w. few), known-begun t us few)

aware-same : (o : Option Opened) (y t : Serving) (ups : List Parts) (u : Parts) (n own : ℕ) → y.progress.number ≡ n
    → t.progress.number ≡ n
    → own ≡ sent_by y
    → 0 < own
    → t.progress.standing.we_failed ≡ (y.progress.standing.we_failed || says (sent_by y) u)
    → ((s : Opened) → o ≡ Some s → s.progress.number ≡ n → first_of ups ≡ Some u)
    → Aware o (Some y) ups
    → Aware o (Some t) ups
aware-same None y t ups u n own yn tn yo some failed head h = tt
aware-same (Some s) y t ups u n own yn tn yo some failed head h =
    λ e q. inl (failed ∙ by (h (e ∙ tn ∙ sym yn) q) (head s refl (e ∙ tn)))
  where
    told : (us : List Parts) → first_of us ≡ Some u → NewestSays 1 true us → says 1 u ≡ true
    told [] f d = absurd d
    told (z ∷ us) f d = let same : z ≡ u = cc in ap (says 1) (sym same) ∙ d

    by : (y.progress.standing.we_failed ≡ true) ⊎ ((seen s ≡ 1) × (sent_by y ≤ 1) × NewestSays 1 true ups)
        → first_of ups ≡ Some u
        → (y.progress.standing.we_failed || says (sent_by y) u) ≡ true
    by (inl z) f = or-yes y.progress.standing.we_failed (says (sent_by y) u) z
    by (inr z) f =
        let few = z.1 in
        let one : sent_by y ≡ 1 = omega (arith, few, yo, some) in
        or-other y.progress.standing.we_failed (says (sent_by y) u) (ap (λ j. says j u) one ∙ told ups f z.2)

aware-begun : (o : Option Opened) (t : Serving) (ups : List Parts) (n : ℕ) → t.progress.number ≡ n
    → ((s : Opened) → o ≡ Some s → s.progress.number ≡ n → seen s ≡ 0)
    → ((s : Opened) → o ≡ Some s → s.progress.standing.they_failed ≡ true → 0 < seen s)
    → Aware o (Some t) ups
aware-begun None t ups n tn zero_last rose = tt
aware-begun (Some s) t ups n tn zero_last rose =
    λ e q. absurd (let z = zero_last s refl (e ∙ tn) in let some = rose s refl q in omega (arith, z, some))

-- where it says that the last was refused, that was the first
comes-of : (v : Service) (y : Serving) (u : Parts) (x : Service) (t : Serving)
    → (says (sent_by y) u ≡ true → y.progress.standing.we_failed ≡ false → sent_by y ≤ 1)
    → AfterMessage v y u x t
    → Comes v y u x t (server.reply_of x)
comes-of v y u x t few h = record { outcome = by h.outcome }
  where
    by : Outcome_of v y u x t
        → ((says (sent_by y) u ≡ false) × (sent_by t ≡ sent_by y + 1)
        × Goes v x y.sent t.sent y.progress.number (reply_acts (server.reply_of x)))
        ⊎ Stops v x y.sent t.sent t.progress.is_over (reply_acts (server.reply_of x))
        ⊎ ((g : Service) × (gs : List Sent) × (says (sent_by y) u ≡ true) × (sent_by y ≤ 1)
        × GaveUp v g y.sent gs
        × Step_of g x gs t y.progress.number (sent_by y) (reply_acts (server.reply_of x)))
    by (inl k) = inl k
    by (inr (inl k)) = inr (inl k)
    by (inr (inr k)) = inr (inr (k.0, k.1, k.2, few k.2 k.3, k.4, k.5))

-- the service after a message of the world
pub record ServedOn (job done : List Act) (o : Option Opened) (downs : List Reply) (ups : List Parts) (u : Parts)
    (x : Service) : Type 0 where
  pub placed : Placed job done o x (with_new downs (reply_to u (server.reply_of x))) ups
  pub known : Known x.session ups
  pub aware : Aware o x.session ups

outcome-queue : (v : Service) (y : Serving) (u : Parts) (x : Service) (t : Serving)
    → Outcome_of v y u x t
    → Each IsOfJobOrReport x.queue × (x.job.packages ≡ v.job.packages)
outcome-queue v y u x t (inl k) = (k.2.queue_ok, k.2.job)
outcome-queue v y u x t (inr (inl k)) = (k.queue_ok, k.job)
outcome-queue v y u x t (inr (inr k)) = by k.5
  where
    by : Step_of k.0 x k.1 t y.progress.number (sent_by y) (reply_acts (server.reply_of x))
        → Each IsOfJobOrReport x.queue × (x.job.packages ≡ v.job.packages)
    by (inl z) = (z.1.queue_ok, z.1.job ∙ k.4.job)
    by (inr z) = (z.queue_ok, z.job ∙ k.4.job)

none-job : (job done : List Act) (o : Option Opened) (v : Service) (y : Option Serving) (downs : List Reply)
    (ups : List Parts) (r : Option ℕ)
    → ByRun job done o v y downs ups r
    → r ≡ None
    → done ≡ []
none-job job done o v None downs ups None h e = h
none-job job done o v (Some y) downs ups None h e = h.0
none-job job done o v y downs ups (Some n) h e = absurd (cc)

older-run : (job done : List Act) (o : Option Opened) (v : Service) (y : Option Serving) (downs : List Reply)
    (ups : List Parts) (r : Option ℕ) (n own : ℕ)
    → Before y n own
    → own ≡ 0
    → ((z : Serving) → y ≡ Some z → 0 < z.progress.standing.last)
    → ByRun job done o v y downs ups r
    → (k : ℕ)
    → r ≡ Some k
    → k < n
older-run job done o v None downs ups None n own bf e low h k q = cc
older-run job done o v None downs ups (Some m) n own bf e low h k q = absurd h
older-run job done o v (Some y) downs ups None n own bf e low h k q = cc
older-run job done o v (Some y) downs ups (Some m) n own (inl bf) e low h k q =
    let less = bf.0 in
    let at = h.low in
    let same : m ≡ k = cc in
    omega (arith, less, at, same)
older-run job done o v (Some y) downs ups (Some m) n own (inr bf) e low h k q =
    absurd (let some = low y refl in let last = bf.2 in omega (arith, e, some, last))

few-own : (own' : ℕ) (p : Option Parts) → OwnIs 0 own' p → own' ≤ 1
few-own own' None h = omega (arith, h)
few-own own' (Some m) h = omega (arith, h)

account-first : (v : Service) (n own : ℕ) (from : Serving) → from ≡ serving.first_session v.job.account n
    → sent_by from ≡ own
    → own ≡ 0
account-first v n own from e f = sym f ∙ ap sent_by e

served-on : (job done : List Act) (b : ℕ) (o : Option Opened) (v x : Service) (t : Serving) (downs ds : List Reply)
    (ups : List Parts) (u : Parts) (n : ℕ) (nonce : List ℕ)
    → x.session ≡ Some t
    → Placed job done o v downs ups
    → (k : TakenUp v v.session n u nonce x)
    → Took b o v downs ups u n k.own
    → u.header.msg ≡ k.own + 1
    → Holds b o x.session ds ups
    → ServedAs n u.header.msg k.own x.sent (Some t)
    → AfterMessage k.base k.from u x t
    → ServedOn job done o downs ups u x
served-on job done b o v x t downs ds ups u n nonce e h k w next after served am = by k.base_is
  where
    p : Option Parts
    p = server.reply_of x

    reply : OwnIs k.own (sent_by t) (server.reply_of x)
    reply =
        subst (λ z. OwnIs k.own (sent_by t) (cond (server.is_answered z) x.sent None)) (sym e)
        (served-own n u.header.msg k.own x.sent t served)

    stands : OpenAs (λ (z : Serving). (z.progress.number ≡ n) × (z.progress.standing.last ≡ u.header.msg)) (Some t)
    stands = served-last n u.header.msg k.own x.sent (Some t) served

    last : (s : Opened) → o ≡ Some s → s.progress.number ≡ n → seen s ≡ k.own
    last =
        client-last b o v.session (Some t) downs ds ups n k.own u.header.msg w.holds
        (subst (λ z. Holds b o z ds ups) e after) k.before next stands

    turn : Turn o t n k.own (sent_by t) (server.reply_of x)
    turn = record { number = stands.0; own_is = refl; reply = reply; last = last }

    head : (s : Opened) → o ≡ Some s → s.progress.number ≡ n → first_of ups ≡ Some u
    head = client-head b o v.session downs ups u n k.own w.holds w.within w.mine next last

    queue : Each IsOfJobOrReport x.queue × (x.job.packages ≡ k.base.job.packages)
    queue = outcome-queue k.base k.from u x t am.outcome

    on : (x.job.packages ≡ v.job.packages)
        → ByRun job done o x (Some t) (with_new downs (reply_to u (server.reply_of x))) ups x.runs_in
        → Known (Some t) ups
        → Aware o (Some t) ups
        → ServedOn job done o downs ups u x
    on ji runs known aware = record {
      placed = record {
        prefix = h.prefix;
        runs = subst (λ z. ByRun job done o x z (with_new downs (reply_to u (server.reply_of x))) ups x.runs_in) (sym e)
            runs;
        queue_ok = queue.0;
        job_is = ap job_acts ji ∙ h.job_is;
        whole = h.whole;
      };
      known = subst (λ z. Known z ups) (sym e) known;
      aware = subst (λ z. Aware o z ups) (sym e) aware;
    }

    by : ((k.base ≡ v) × (v.session ≡ Some k.from))
        ⊎ ((k.base ≡ serving.begins v n) × (k.from ≡ serving.first_session v.job.account n))
        → ServedOn job done o downs ups u x
    by (inl z) =
        let y = k.from in
        let bf : Before (Some y) n k.own = subst (λ q. Before q n k.own) z.1 k.before in
        let fine : ServerFine b y = subst (ServerOk b) z.1 w.holds.server_ok in
        let at = in-session bf in
        let some : 0 < k.own = let low = fine.low in let is = at.0 in omega (arith, low, is) in
        let past = past-silent b n k.own v.session ups k.before some w.holds.ups_ok w.says_fine in
        let after_v : AfterMessage v y u x t = subst (λ q. AfterMessage q y u x t) z.0 am in
        let known : Known (Some y) ups = subst (λ q. Known q ups) z.1 w.known in
        let few =
        each-within
        (λ (u : Parts). session_number u ≡ y.progress.number → says (sent_by y) u ≡ true
        → y.progress.standing.we_failed ≡ false → sent_by y ≤ 1) ups u known w.within (w.mine ∙ sym k.number) in
        on (queue.1 ∙ ap (λ (q : Service). q.job.packages) z.0)
        (same-runs job done o v x y t downs ups n k.own (sent_by t) u (server.reply_of x) v.runs_in h.whole turn
        (record {
          number = k.number;
          own_is = sym k.own_is;
          some = some;
          open_is = at.1;
          within = w.within;
          mine = w.mine;
          head = head;
          past = past;
        }) refl (comes-of v y u x t few after_v)
        (subst (λ q. ByRun job done o v q downs ups v.runs_in) z.1 h.runs))
        (known-same b o v y t downs ups ups u n k.own (server.reply_of x) k.number stands.0 (sym k.own_is) reply
        (λ q. or-none y.progress.standing.we_failed (says (sent_by y) u) (sym after_v.failed ∙ q)) past known)
        (aware-same o y t ups u n k.own k.number stands.0 (sym k.own_is) some after_v.failed head
        (subst (λ q. Aware o q ups) z.1 w.aware))
      where
        in-session : Before (Some k.from) n k.own
            → (k.own ≡ k.from.progress.standing.last) × (k.from.progress.is_over ≡ false)
        in-session (inl q) = absurd (let less = q.0 in let number = k.number in omega (arith, less, number))
        in-session (inr q) = (q.2, q.3)
    by (inr z) =
        let zero_own : k.own ≡ 0 = account-first v n k.own k.from z.1 k.own_is in
        let f = serving.first_session v.job.account n in
        let after_b : AfterMessage (serving.begins v n) f u x t =
        subst (λ q. AfterMessage q f u x t) z.0 (subst (λ q. AfterMessage k.base q u x t) z.1 am) in
        let first : Turn o t n 0 (sent_by t) (server.reply_of x) =
        subst (λ i. Turn o t n i (sent_by t) (server.reply_of x)) zero_own turn in
        let few = few-own (sent_by t) (server.reply_of x) first.reply in
        on (queue.1 ∙ ap (λ (q : Service). q.job.packages) z.0)
        (begun-runs job done o v x v.session t downs ups n (sent_by t) u (server.reply_of x) v.runs_in h.whole h.job_is
        first
        (older-run job done o v v.session downs ups v.runs_in n k.own k.before zero_own low-last h.runs) refl
        (comes-of (serving.begins v n) f u x t (λ q r. omega arith) after_b)
        (none-job job done o v v.session downs ups v.runs_in h.runs))
        (known-begun t ups few) (aware-begun o t ups n stands.0 first.last w.rose)
      where
        low-last : (y : Serving) → v.session ≡ Some y → 0 < y.progress.standing.last
        low-last y q =
            let fine : ServerFine b y = subst (ServerOk b) q w.holds.server_ok in fine.low

-- the service, its answer, and what the server's messages are then
pub record ServedWorld (job done : List Act) (o : Option Opened) (downs : List Reply) (ups : List Parts) (u : Parts)
    (x : Service) (a : server.Answer) : Type 0 where
  pub placed : Placed job done o x (with_new downs (replied a u)) ups
  pub known : Known x.session ups
  pub aware : Aware o x.session ups

pub base-queue : (v : Service) (n : ℕ) (base : Service) (from : Serving)
    → ((base ≡ v) × (v.session ≡ Some from))
    ⊎ ((base ≡ serving.begins v n) × (from ≡ serving.first_session v.job.account n))
    → Each IsOfJobOrReport v.queue
    → Each IsOfJobOrReport base.queue
base-queue v n base from (inl z) h = subst (λ (q : Service). Each IsOfJobOrReport q.queue) (sym z.0) h
base-queue v n base from (inr z) h = subst (λ (q : Service). Each IsOfJobOrReport q.queue) (sym z.0) tt

taken-on : (job done : List Act) (b : ℕ) (o : Option Opened) (v x : Service) (downs : List Reply) (ups : List Parts)
    (u : Parts) (n : ℕ) (nonce : List ℕ) (t : Option Serving)
    → x.session ≡ t
    → Placed job done o v downs ups
    → UpOk b v.session u
    → (k : TakenUp v v.session n u nonce x)
    → Took b o v downs ups u n k.own
    → Holds b o x.session (with_new downs (replied (server.sent_or_ended (server.reply_of x)) u)) ups
    → ServedAs n u.header.msg k.own x.sent t
    → OpenAs (AfterMessage k.base k.from u x) t
    → ServedWorld job done o downs ups u x (server.sent_or_ended (server.reply_of x))
taken-on job done b o v x downs ups u n nonce None e h f k w after served am = absurd served
taken-on job done b o v x downs ups u n nonce (Some t) e h f k w after served am =
    let next =
    is-next-up v.session n k.own u.header.msg k.before
    (subst (λ j. Bound v.session j u.header.msg) w.mine f.bound) k.later in
    let s = served-on job done b o v x t downs _ ups u n nonce e h k w next after served am in
    record {
      placed =
          subst (λ r. Placed job done o x (with_new downs r) ups) (sym (reply-is (server.reply_of x) u)) s.placed;
      known = s.known;
      aware = s.aware;
    }

took-on : (job done : List Act) (b : ℕ) (o : Option Opened) (v x : Service) (downs : List Reply) (ups : List Parts)
    (u : Parts) (nonce : List ℕ)
    → Placed job done o v downs ups
    → UpOk b v.session u
    → (k : TakenUp v v.session (session_number u) u nonce x)
    → Took b o v downs ups u (session_number u) k.own
    → Holds b o x.session (with_new downs (replied (server.sent_or_ended (server.reply_of x)) u)) ups
    → ServedWorld job done o downs ups u x (server.sent_or_ended (server.reply_of x))
took-on job done b o v x downs ups u nonce h f k w after =
    let n = session_number u in
    let y = serving.accepts k.base k.from u nonce in
    let served : Served n u.header.msg k.own y =
    subst (λ i. Served i u.header.msg k.own y) k.number
    (subst (λ i. Served k.from.progress.number u.header.msg i y) k.own_is (accepts-served k.base k.from u nonce)) in
    let am =
    accepts-outcome k.base k.from u nonce f.sound (base-queue v n k.base k.from k.base_is h.queue_ok) in
    taken-on job done b o v x downs ups u n nonce x.session refl h f k w after
    (subst (λ (z : Service). ServedAs n u.header.msg k.own z.sent z.session) (sym k.is) served)
    (subst (λ (z : Service). OpenAs (AfterMessage k.base k.from u z) z.session) (sym k.is) am)

pub serve-on : (job done : List Act) (b : ℕ) (o : Option Opened) (v : Service) (downs : List Reply) (ups : List Parts)
    (u : Parts) (nonce : List ℕ) (queue : List Entry)
    → Holds b o v.session downs ups
    → StandsIn u ups
    → Placed job done o v downs ups
    → OpenFine queue o
    → Each UpSays ups
    → Known v.session ups
    → Aware o v.session ups
    → ServedWorld job done o downs ups u (server_runs.next v (arrival u nonce))
    (server_runs.answer_now v (arrival u nonce))
unfolding server_runs.next server_runs.answer_now server.takes server.after server.taken_answer
serve-on job done b o v downs ups u nonce queue h w p q s known aware =
    let f = each-within (UpOk b v.session) ups u h.ups_ok w in
    let n = session_number u in
    let read : server.number_of u ≡ Some n = f.read.counted in
    subst
    (λ i. ServedWorld job done o downs ups u
    (cond (server.takes_number v.session i u) (server.after_number v i u nonce) v)
    (cond (server.takes_number v.session i u)
    (server.sent_or_ended (server.reply_of (server.after_number v i u nonce)))
    (server.refusal v (arrival u nonce) (server.reply_of v))))
    (sym read)
    (both-ways (ServedWorld job done o downs ups u) (server.takes_in v.session n u)
    (server.after_in_session v v.session n u nonce) v
    (server.sent_or_ended (server.reply_of (server.after_in_session v v.session n u nonce)))
    (server.refusal v (arrival u nonce) (server.reply_of v))
    (λ t.
    (let k = taken-turn b v v.session n u nonce refl h.server_ok f.first t in
    took-on job done b o v (server.after_in_session v v.session n u nonce) downs ups u nonce p f k
    (record {
      holds = h;
      within = w;
      mine = refl;
      says_fine = s;
      known = known;
      aware = aware;
      rose = λ z e r. rose-of o q z e r;
    })
    (served-by b o v downs ups u nonce (server.after_in_session v v.session n u nonce) h f w k)))
    (λ t. record {
      placed =
          subst (λ r. Placed job done o v (with_new downs r) ups)
          (sym (refusal-silent v u nonce (server.reply_of v))) p;
      known = known;
      aware = aware;
    }))
  where
    rose-of : (o : Option Opened) → OpenFine queue o → (z : Opened) → o ≡ Some z
        → z.progress.standing.they_failed ≡ true
        → 0 < seen z
    rose-of None q z e r = cc
    rose-of (Some x) q z e r =
        let fine : SessionFine queue z.progress.standing = subst (OpenFine queue) e q in fine.rose r
