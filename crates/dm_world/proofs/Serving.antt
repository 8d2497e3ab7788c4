-- A message that the server takes keeps what was executed, what is pending and what is still to be sent the job.
use Rattle.std.proofs.Common.{◌≡◌, ◌<◌, ◌≤◌, ◌+◌, ℕ, true, false, cond, List, [], ◌∷◌, ◌++◌, Option, None}
use Rattle.std.proofs.Common.{Some}
use Rattle.std.proofs.Common.{refl, sym, ◌∙◌, ap, subst, arith, ◌⊎◌, inl, inr}
use Rattle.std.specs.Prelude.{is_some, option_map}
use Rattle.syncml_types.specs.Message.{Parts}
use Rattle.dm_machine.specs.Machine.{Session as Opened}
use Rattle.dm_service.specs.declared.sent.Sent.{Sent}
use Rattle.dm_service.specs.Service.{Service, Session as Serving}
use Rattle.dm_service.specs.Messages.{begins, first_session}
use Rattle.dm_world.specs.World.{Reply, with_new}
use Rattle.dm_world.specs.Acts.{Act, entries_acts, job_acts, join}
use Rattle.dm_world.specs.Packing.{acts_to_send, reply_acts}
use Rattle.dm_world.specs.Lockstep.{first_of}
use Rattle.dm_world.proofs.Lists.{each-within, StandsIn}
use Rattle.dm_world.proofs.Numbers.{session_number}
use Rattle.dm_world.proofs.Joins.{with-front}
use Rattle.dm_world.proofs.Calm.{says}
use Rattle.dm_world.proofs.Serves.{Idle, returned, Goes, Stops, GaveUp}
use Rattle.dm_world.proofs.Position.{Whole, seen, sent_by, pending, NewestSays, InStep, IsRefused, IsDead, LiveAt}
use Rattle.dm_world.proofs.Position.{QuietAt, Returns, Denials, Silent, Live, ByRun, eq-or-less, pending-is}
use Rattle.dm_world.proofs.Position.{pending-none}

-- ---- the server takes a message

abbrev pub reply_to : Parts → Option Parts → Option Reply
reply_to u p = option_map (λ (m : Parts). record { message = m; answers = u }) p

abbrev pub OwnIs : ℕ → ℕ → Option Parts → Type 0
OwnIs own own' None = own' ≡ own
OwnIs own own' (Some m) = own' ≡ own + 1

own-more : (own own' : ℕ) (p : Option Parts) → OwnIs own own' p → own ≤ own'
own-more own own' None h = omega (arith, h)
own-more own own' (Some m) h = omega (arith, h)

-- the numbers of a turn of the server
pub record Turn (o : Option Opened) (t : Serving) (n own own' : ℕ) (p : Option Parts) : Type 0 where
  pub number : t.progress.number ≡ n
  pub own_is : sent_by t ≡ own'
  pub reply : OwnIs own own' p
  pub last : (s : Opened) → o ≡ Some s → s.progress.number ≡ n → seen s ≡ own

-- what is pending then
pending-after : (s : Opened) (t : Serving) (own own' : ℕ) (u : Parts) (p : Option Parts) (downs : List Reply)
    → OwnIs own own' p
    → sent_by t ≡ own'
    → seen s ≡ own
    → pending s t (with_new downs (reply_to u p)) ≡ reply_acts p
pending-after s t own own' u None downs i e l = pending-none s t downs (omega (arith, l, e, i))
pending-after s t own own' u (Some m) downs i e l =
    pending-is s t (record { message = m; answers = u } ∷ downs) (omega (arith, i, e, l))

quiet-after : (o : Option Opened) (t : Serving) (own own' n : ℕ) (u : Parts) (p : Option Parts) (downs : List Reply)
    → OwnIs own own' p
    → sent_by t ≡ own'
    → t.progress.number ≡ n
    → reply_acts p ≡ []
    → ((s : Opened) → o ≡ Some s → s.progress.number ≡ n → seen s ≡ own)
    → QuietAt o t (with_new downs (reply_to u p))
quiet-after None t own own' n u p downs i e tn z f = tt
quiet-after (Some s) t own own' n u p downs i e tn z f =
    λ sn. pending-after s t own own' u p downs i e (f s refl (sn ∙ tn)) ∙ z

-- ---- from a service that has the whole job before it, where nothing was executed

pub record Fresh (job : List Act) (x : Service) (t : Serving) (n : ℕ) (p : Option Parts) : Type 0 where
  pub whole : Whole job (reply_acts p ++ acts_to_send x)
  pub returns_job : Returns job x t
  pub runs : ((x.runs_in ≡ None) × (t.sent ≡ []) × (reply_acts p ≡ [])) ⊎ ((x.runs_in ≡ Some n) × (t.sent ≡ [] → ⊥))

all-denials : (done : List Act) (n own : ℕ) (ups : List Parts) → done ≡ [] → Denials done n own ups
all-denials done n own [] e = tt
all-denials done n own (u ∷ us) e = ((λ _ _. e), all-denials done n own us e)

fresh-runs : (job done : List Act) (o : Option Opened) (x : Service) (t : Serving) (downs : List Reply)
    (ups : List Parts) (n own own' : ℕ) (u : Parts) (p : Option Parts)
    → done ≡ []
    → Turn o t n own own' p
    → Fresh job x t n p
    → ByRun job done o x (Some t) (with_new downs (reply_to u p)) ups x.runs_in
fresh-runs job done o x t downs ups n own own' u p dn c f = by f.runs
  where
    live-client : (o : Option Opened) → ((s : Opened) → o ≡ Some s → s.progress.number ≡ n → seen s ≡ own)
        → LiveAt job done o x t (with_new downs (reply_to u p)) ups n
    live-client None l = tt
    live-client (Some s) l = λ sn. record {
      fresh = λ _. dn;
      how = inl (ap (λ d. join None (d ++ (pending s t (with_new downs (reply_to u p)) ++ acts_to_send x))) dn
          ∙ ap (λ q. join None (q ++ acts_to_send x)) (pending-after s t own own' u p downs c.reply c.own_is
          (l s refl sn))
          ∙ f.whole);
    }

    by : ((x.runs_in ≡ None) × (t.sent ≡ []) × (reply_acts p ≡ [])) ⊎ ((x.runs_in ≡ Some n) × (t.sent ≡ [] → ⊥))
        → ByRun job done o x (Some t) (with_new downs (reply_to u p)) ups x.runs_in
    by (inl i) =
        subst (ByRun job done o x (Some t) (with_new downs (reply_to u p)) ups) (sym i.0) (
          dn,
          record {
            rest = ap (λ m. join None (m ++ acts_to_send x)) (sym i.2) ∙ f.whole;
            returns_job = f.returns_job;
            none = i.1;
            quiet = quiet-after o t own own' n u p downs c.reply c.own_is c.number i.2 c.last;
          },
        )
    by (inr i) =
        subst (ByRun job done o x (Some t) (with_new downs (reply_to u p)) ups) (sym i.0)
        (record {
          low = (let tn = c.number in omega (arith, tn));
          later = λ l. absurd (let tn = c.number in omega (arith, l, tn));
          now = λ _. record {
            sent = i.1;
            returns_job = f.returns_job;
            denials = all-denials done n (sent_by t) ups dn;
            client = live-client o c.last;
          };
        })

-- before a message: the whole job is to be sent
pub record AtStart (job : List Act) (w : Service) (ss : List Sent) (n own : ℕ) : Type 0 where
  pub rest : Whole job (acts_to_send w)
  pub runs : ((w.runs_in ≡ None) × (ss ≡ [])) ⊎ ((w.runs_in ≡ Some n) × (ss ≡ [] → ⊥))
  -- where it has sent no message in the session it has queued nothing either
  pub fresh : own ≡ 0 → (w.newest ≡ []) × (job_acts w.packages ≡ job)
  pub given : own ≤ 1 → returned w ≡ job

-- its step
abbrev pub Step_of : Service → Service → List Sent → Serving → ℕ → ℕ → List Act → Type 0
Step_of w x ss t n own message =
    ((sent_by t ≡ own + 1) × Goes w x ss t.sent n message) ⊎ Stops w x ss t.sent t.progress.is_over message

start-fresh : (job : List Act) (o : Option Opened) (w x : Service) (t : Serving) (n own own' : ℕ) (p : Option Parts)
    (ss : List Sent)
    → AtStart job w ss n own
    → Turn o t n own own' p
    → Step_of w x ss t n own (reply_acts p)
    → Fresh job x t n p
start-fresh job o w x t n own own' p ss a c (inl k) = record {
  whole = k.1.joined None ∙ a.rest;
  returns_job = λ l.
      (let more = k.0 in
      let zero_own : own ≡ 0 = omega (arith, l, more) in
      let f = a.fresh zero_own in
      k.1.fresh f.0 ∙ f.1);
  runs = by k.1.runs a.runs;
}
  where
    by : ((x.runs_in ≡ w.runs_in) × (reply_acts p ≡ []) × (t.sent ≡ ss)) ⊎ ((x.runs_in ≡ Some n) × (t.sent ≡ [] → ⊥))
        → ((w.runs_in ≡ None) × (ss ≡ [])) ⊎ ((w.runs_in ≡ Some n) × (ss ≡ [] → ⊥))
        → ((x.runs_in ≡ None) × (t.sent ≡ []) × (reply_acts p ≡ [])) ⊎ ((x.runs_in ≡ Some n) × (t.sent ≡ [] → ⊥))
    by (inl i) (inl z) = inl (i.0 ∙ z.0, i.2 ∙ z.1, i.1)
    by (inl i) (inr z) = inr (i.0 ∙ z.0, λ e. z.1 (sym i.2 ∙ e))
    by (inr i) z = inr i
start-fresh job o w x t n own own' p ss a c (inr k) = record {
  whole = ap (λ m. join None (m ++ acts_to_send x)) k.none ∙ ap (join None) k.rest ∙ a.rest;
  returns_job = λ l.
      (let more = own-more own own' p c.reply in
      let oi = c.own_is in
      k.given ∙ a.given (omega (arith, l, more, oi)));
  runs = by a.runs;
}
  where
    by : ((w.runs_in ≡ None) × (ss ≡ [])) ⊎ ((w.runs_in ≡ Some n) × (ss ≡ [] → ⊥))
        → ((x.runs_in ≡ None) × (t.sent ≡ []) × (reply_acts p ≡ [])) ⊎ ((x.runs_in ≡ Some n) × (t.sent ≡ [] → ⊥))
    by (inl z) = inl (k.runs_in ∙ z.0, k.sent_is ∙ z.1, k.none)
    by (inr z) = inr (k.runs_in ∙ z.0, λ e. z.1 (sym k.sent_is ∙ e))

-- a service that gave up what was queued last has the whole job before it, where that was the first
gave-start : (job : List Act) (w g : Service) (ss gs : List Sent) (n own : ℕ) → Whole job job → returned w ≡ job
    → ((w.runs_in ≡ None) × (ss ≡ [])) ⊎ ((w.runs_in ≡ Some n) × (ss ≡ [] → ⊥))
    → GaveUp w g ss gs
    → AtStart job g gs n own
gave-start job w g ss gs n own whole e runs u = record {
  rest = ap (join None) (u.rest ∙ e) ∙ whole;
  runs = by runs u.runs;
  fresh = λ _. (u.newest, u.packages ∙ e);
  given = λ _. ap (λ z. entries_acts z ++ job_acts g.packages) u.newest ∙ u.packages ∙ e;
}
  where
    by : ((w.runs_in ≡ None) × (ss ≡ [])) ⊎ ((w.runs_in ≡ Some n) × (ss ≡ [] → ⊥))
        → ((g.runs_in ≡ None) × (gs ≡ [])) ⊎ ((g.runs_in ≡ w.runs_in) × (ss ≡ []) × (gs ≡ []))
        ⊎ ((g.runs_in ≡ w.runs_in) × (ss ≡ [] → ⊥) × (gs ≡ [] → ⊥))
        → ((g.runs_in ≡ None) × (gs ≡ [])) ⊎ ((g.runs_in ≡ Some n) × (gs ≡ [] → ⊥))
    by r (inl i) = inl i
    by (inl z) (inr (inl i)) = inl (i.0 ∙ z.0, i.2)
    by (inr z) (inr (inl i)) = absurd (z.1 i.1)
    by (inl z) (inr (inr i)) = absurd (i.1 z.1)
    by (inr z) (inr (inr i)) = inr (i.0 ∙ z.0, i.2)

-- what the server's message came to, with what is known of it
pub record Comes (v : Service) (y : Serving) (u : Parts) (x : Service) (t : Serving) (p : Option Parts) : Type 0 where
  pub outcome : ((says (sent_by y) u ≡ false) × (sent_by t ≡ sent_by y + 1) × Goes v x y.sent t.sent y.progress.number
      (reply_acts p))
      ⊎ Stops v x y.sent t.sent t.progress.is_over (reply_acts p)
      ⊎ ((g : Service) × (gs : List Sent) × (says (sent_by y) u ≡ true) × (sent_by y ≤ 1) × GaveUp v g y.sent gs
      × Step_of g x gs t y.progress.number (sent_by y) (reply_acts p))

start-runs : (job done : List Act) (o : Option Opened) (w x : Service) (f t : Serving) (downs : List Reply)
    (ups : List Parts) (n own own' : ℕ) (u : Parts) (p : Option Parts)
    → Whole job job
    → done ≡ []
    → f.progress.number ≡ n
    → sent_by f ≡ own
    → AtStart job w f.sent n own
    → Turn o t n own own' p
    → Comes w f u x t p
    → ByRun job done o x (Some t) (with_new downs (reply_to u p)) ups x.runs_in
start-runs job done o w x f t downs ups n own own' u p whole dn fn fo a c k = by k.outcome
  where
    to : (g : Service) (gs : List Sent) → AtStart job g gs n own
        → Step_of g x gs t f.progress.number (sent_by f) (reply_acts p)
        → ByRun job done o x (Some t) (with_new downs (reply_to u p)) ups x.runs_in
    to g gs z s =
        fresh-runs job done o x t downs ups n own own' u p dn c
        (start-fresh job o g x t n own own' p gs z c
        (subst (λ i. Step_of g x gs t i own (reply_acts p)) fn
        (subst (λ i. Step_of g x gs t f.progress.number i (reply_acts p)) fo s)))

    by : ((says (sent_by f) u ≡ false) × (sent_by t ≡ sent_by f + 1) × Goes w x f.sent t.sent f.progress.number
        (reply_acts p))
        ⊎ Stops w x f.sent t.sent t.progress.is_over (reply_acts p)
        ⊎ ((g : Service) × (gs : List Sent) × (says (sent_by f) u ≡ true) × (sent_by f ≤ 1) × GaveUp w g f.sent gs
        × Step_of g x gs t f.progress.number (sent_by f) (reply_acts p))
        → ByRun job done o x (Some t) (with_new downs (reply_to u p)) ups x.runs_in
    by (inl z) = to w f.sent a (inl (z.1, z.2))
    by (inr (inl z)) = to w f.sent a (inr z)
    by (inr (inr z)) =
        let few = z.3 in
        to z.0 z.1 (gave-start job w z.0 f.sent z.1 n own whole (a.given (omega (arith, few, fo))) a.runs z.4) z.5

-- ---- the job ran in an earlier session

later-after : (job done : List Act) (o : Option Opened) (x : Service) (t : Serving) (downs : List Reply)
    (ups : List Parts) (n own own' : ℕ) (u : Parts) (p : Option Parts) (k : ℕ)
    → k < n
    → Turn o t n own own' p
    → Idle x
    → x.runs_in ≡ Some k
    → t.sent ≡ []
    → reply_acts p ≡ []
    → ByRun job done o x (Some t) (with_new downs (reply_to u p)) ups x.runs_in
later-after job done o x t downs ups n own own' u p k l c i run none e =
    let tn = c.number in
    subst (ByRun job done o x (Some t) (with_new downs (reply_to u p)) ups) (sym run)
    (record {
      low = omega (arith, l, tn);
      later = λ _. record {
        idle = i;
        none = none;
        quiet = quiet-after o t own own' n u p downs c.reply c.own_is c.number e c.last;
      };
      now = λ z. absurd (omega (arith, z, l, tn));
    })

later-runs : (job done : List Act) (o : Option Opened) (w x : Service) (f t : Serving) (downs : List Reply)
    (ups : List Parts) (n own own' : ℕ) (u : Parts) (p : Option Parts) (k : ℕ)
    → k < n
    → Idle w
    → w.runs_in ≡ Some k
    → f.sent ≡ []
    → Turn o t n own own' p
    → Comes w f u x t p
    → ByRun job done o x (Some t) (with_new downs (reply_to u p)) ups x.runs_in
later-runs job done o w x f t downs ups n own own' u p k l i run none c z = by z.outcome
  where
    to : (g : Service) (gs : List Sent) (j own : ℕ) → Idle g → g.runs_in ≡ Some k → gs ≡ []
        → Step_of g x gs t j own (reply_acts p)
        → ByRun job done o x (Some t) (with_new downs (reply_to u p)) ups x.runs_in
    to g gs j own' gi gr gn (inl s) =
        let y = s.1.idle gi in
        later-after job done o x t downs ups n own _ u p k l c y.0 (y.1 ∙ gr) (y.3 ∙ gn) y.2
    to g gs j own' gi gr gn (inr s) =
        later-after job done o x t downs ups n own _ u p k l c (s.idle gi) (s.runs_in ∙ gr) (s.sent_is ∙ gn) s.none

    by : ((says (sent_by f) u ≡ false) × (sent_by t ≡ sent_by f + 1) × Goes w x f.sent t.sent f.progress.number
        (reply_acts p))
        ⊎ Stops w x f.sent t.sent t.progress.is_over (reply_acts p)
        ⊎ ((g : Service) × (gs : List Sent) × (says (sent_by f) u ≡ true) × (sent_by f ≤ 1) × GaveUp w g f.sent gs
        × Step_of g x gs t f.progress.number (sent_by f) (reply_acts p))
        → ByRun job done o x (Some t) (with_new downs (reply_to u p)) ups x.runs_in
    by (inl s) = to w f.sent f.progress.number (sent_by f) i run none (inl (s.1, s.2))
    by (inr (inl s)) = to w f.sent f.progress.number (sent_by f) i run none (inr s)
    by (inr (inr s)) =
        let g = s.4.idle i none in
        to s.0 s.1 f.progress.number (sent_by f) g.0 (g.1 ∙ run) g.2 s.5

-- ---- the job runs in this session

-- what is known where the server takes a message in its session
pub record InSession (o : Option Opened) (y : Serving) (ups : List Parts) (u : Parts) (n own : ℕ) : Type 0 where
  pub number : y.progress.number ≡ n
  pub own_is : own ≡ sent_by y
  pub some : 0 < own
  pub open_is : y.progress.is_over ≡ false
  pub within : StandsIn u ups
  pub mine : session_number u ≡ n
  pub head : (s : Opened) → o ≡ Some s → s.progress.number ≡ n → first_of ups ≡ Some u
  pub past : Silent n (own + 1) ups

no-past : (done : List Act) (n k : ℕ) (ups : List Parts) → Silent n k ups → Denials done n k ups
no-past done n k [] h = tt
no-past done n k (u ∷ us) h = ((λ e q. absurd (let z = h.0 e in cc)), no-past done n k us h.1)

live-goes : (job done : List Act) (o : Option Opened) (v x : Service) (y t : Serving) (downs : List Reply)
    (ups : List Parts) (n own own' : ℕ) (u : Parts) (p : Option Parts)
    → Turn o t n own own' p
    → InSession o y ups u n own
    → v.runs_in ≡ Some n
    → sent_by t ≡ own + 1
    → says own u ≡ false
    → Goes v x y.sent t.sent n (reply_acts p)
    → Live job done o v y downs ups n
    → ByRun job done o x (Some t) (with_new downs (reply_to u p)) ups x.runs_in
live-goes job done o v x y t downs ups n own own' u p c i run more calm k h =
    subst (ByRun job done o x (Some t) (with_new downs (reply_to u p)) ups) (sym (runs k.runs))
    (record {
      low = (let tn = c.number in omega (arith, tn));
      later = λ l. absurd (let tn = c.number in omega (arith, l, tn));
      now = λ _. record {
        sent = sent k.runs;
        returns_job = λ l. absurd (let some = i.some in omega (arith, l, more, some));
        denials = subst (λ j. Denials done n j ups) (sym more) (no-past done n (own + 1) ups i.past);
        client = at o c.last i.head h.client;
      };
    })
  where
    runs : ((x.runs_in ≡ v.runs_in) × (reply_acts p ≡ []) × (t.sent ≡ y.sent)) ⊎ ((x.runs_in ≡ Some n) × (t.sent ≡ []
        → ⊥))
        → x.runs_in ≡ Some n
    runs (inl z) = z.0 ∙ run
    runs (inr z) = z.0

    sent : ((x.runs_in ≡ v.runs_in) × (reply_acts p ≡ []) × (t.sent ≡ y.sent)) ⊎ ((x.runs_in ≡ Some n) × (t.sent ≡ []
        → ⊥))
        → t.sent ≡ [] → ⊥
    sent (inl z) e = h.sent (sym z.2 ∙ e)
    sent (inr z) e = z.1 e

    says-not : (us : List Parts) → first_of us ≡ Some u → NewestSays 1 true us → sent_by y ≤ 1 → ⊥
    says-not [] f d l = d
    says-not (z ∷ us) f d l =
        let same : z ≡ u = cc in
        let own_is = i.own_is in
        let some = i.some in
        let one : own ≡ 1 = omega (arith, l, own_is, some) in
        let q = ap (says 1) (sym same) ∙ d in
        let r = ap (λ j. says j u) (sym one) ∙ calm in
        cc

    at : (o : Option Opened) → ((s : Opened) → o ≡ Some s → s.progress.number ≡ n → seen s ≡ own)
        → ((s : Opened) → o ≡ Some s → s.progress.number ≡ n → first_of ups ≡ Some u)
        → LiveAt job done o v y downs ups n
        → LiveAt job done o x t (with_new downs (reply_to u p)) ups n
    at None f g a = tt
    at (Some s) f g a = λ sn. record { fresh = (a sn).fresh; how = by sn (a sn).how }
      where
        by : s.progress.number ≡ n → InStep job done s v y downs ⊎ IsRefused done s y ups ⊎ IsDead s y downs
            → InStep job done s x t (with_new downs (reply_to u p)) ⊎ IsRefused done s t ups
            ⊎ IsDead s t (with_new downs (reply_to u p))
        by sn (inl z) =
            let l = f s refl sn in
            let own_is = i.own_is in
            inl (ap (λ q. join None (done ++ (q ++ acts_to_send x)))
            (pending-after s t own own' u p downs c.reply c.own_is l)
            ∙ with-front None done (reply_acts p ++ acts_to_send x) (acts_to_send v) k.joined
            ∙ ap (λ q. join None (done ++ (q ++ acts_to_send v)))
            (sym (pending-none s y downs (omega (arith, l, own_is))))
            ∙ z)
        by sn (inr (inl z)) = absurd (says-not ups (g s refl sn) z.denied z.own)
        by sn (inr (inr z)) = absurd (let q = z.over in let r = i.open_is in cc)

live-stops : (job done : List Act) (o : Option Opened) (v x : Service) (y t : Serving) (downs : List Reply)
    (ups : List Parts) (n own own' : ℕ) (u : Parts) (p : Option Parts)
    → Turn o t n own own' p
    → InSession o y ups u n own
    → v.runs_in ≡ Some n
    → Stops v x y.sent t.sent t.progress.is_over (reply_acts p)
    → Live job done o v y downs ups n
    → ByRun job done o x (Some t) (with_new downs (reply_to u p)) ups x.runs_in
live-stops job done o v x y t downs ups n own own' u p c i run k h =
    subst (ByRun job done o x (Some t) (with_new downs (reply_to u p)) ups) (sym (k.runs_in ∙ run))
    (record {
      low = (let tn = c.number in omega (arith, tn));
      later = λ l. absurd (let tn = c.number in omega (arith, l, tn));
      now = λ _. record {
        sent = λ e. h.sent (sym k.sent_is ∙ e);
        returns_job = λ l.
            (let more = own-more own own' p c.reply in
            let oi = c.own_is in
            let own_is = i.own_is in
            k.given ∙ h.returns_job (omega (arith, l, more, oi, own_is)));
        denials = denied p c.reply;
        client = at o c.last h.client;
      };
    })
  where
    denied : (p : Option Parts) → OwnIs own own' p → Denials done n (sent_by t) ups
    denied None e = subst (λ j. Denials done n j ups) (sym (c.own_is ∙ e ∙ i.own_is)) h.denials
    denied (Some m) e = subst (λ j. Denials done n j ups) (sym (c.own_is ∙ e)) (no-past done n (own + 1) ups i.past)

    at : (o : Option Opened) → ((s : Opened) → o ≡ Some s → s.progress.number ≡ n → seen s ≡ own)
        → LiveAt job done o v y downs ups n
        → LiveAt job done o x t (with_new downs (reply_to u p)) ups n
    at None f a = tt
    at (Some s) f a = λ sn. record {
      fresh = (a sn).fresh;
      how = inr (inr (record {
        over = k.is_over;
        none = pending-after s t own own' u p downs c.reply c.own_is (f s refl sn) ∙ k.none;
      }));
    }

live-gives : (job done : List Act) (o : Option Opened) (v x g : Service) (gs : List Sent) (y t : Serving)
    (downs : List Reply) (ups : List Parts) (n own own' : ℕ) (u : Parts) (p : Option Parts)
    → Whole job job
    → Turn o t n own own' p
    → InSession o y ups u n own
    → v.runs_in ≡ Some n
    → says (sent_by y) u ≡ true
    → sent_by y ≤ 1
    → GaveUp v g y.sent gs
    → Step_of g x gs t n own (reply_acts p)
    → Live job done o v y downs ups n
    → ByRun job done o x (Some t) (with_new downs (reply_to u p)) ups x.runs_in
live-gives job done o v x g gs y t downs ups n own own' u p whole c i run denied few up k h =
    let dn : done ≡ [] =
    each-within (λ (u : Parts). session_number u ≡ n → says (sent_by y) u ≡ true
    → done ≡ []) ups u h.denials i.within
    i.mine denied in
    fresh-runs job done o x t downs ups n own own' u p dn c
    (start-fresh job o g x t n own own' p gs
    (gave-start job v g y.sent gs n own whole (h.returns_job few) (inr (run, h.sent)) up) c k)

live-runs : (job done : List Act) (o : Option Opened) (v x : Service) (y t : Serving) (downs : List Reply)
    (ups : List Parts) (n own own' : ℕ) (u : Parts) (p : Option Parts)
    → Whole job job
    → Turn o t n own own' p
    → InSession o y ups u n own
    → v.runs_in ≡ Some n
    → Comes v y u x t p
    → Live job done o v y downs ups n
    → ByRun job done o x (Some t) (with_new downs (reply_to u p)) ups x.runs_in
live-runs job done o v x y t downs ups n own own' u p whole c i run z h = by z.outcome
  where
    by : ((says (sent_by y) u ≡ false) × (sent_by t ≡ sent_by y + 1) × Goes v x y.sent t.sent y.progress.number
        (reply_acts p))
        ⊎ Stops v x y.sent t.sent t.progress.is_over (reply_acts p)
        ⊎ ((g : Service) × (gs : List Sent) × (says (sent_by y) u ≡ true) × (sent_by y ≤ 1) × GaveUp v g y.sent gs
        × Step_of g x gs t y.progress.number (sent_by y) (reply_acts p))
        → ByRun job done o x (Some t) (with_new downs (reply_to u p)) ups x.runs_in
    by (inl k) =
        live-goes job done o v x y t downs ups n own own' u p c i run (k.1 ∙ ap (λ j. j + 1) (sym i.own_is))
        (ap (λ j. says j u) i.own_is ∙ k.0) (subst (λ j. Goes v x y.sent t.sent j (reply_acts p)) i.number k.2) h
    by (inr (inl k)) = live-stops job done o v x y t downs ups n own own' u p c i run k h
    by (inr (inr k)) =
        live-gives job done o v x k.0 k.1 y t downs ups n own own' u p whole c i run k.2 k.3 k.4
        (subst (λ j. Step_of k.0 x k.1 t j own (reply_acts p)) i.number
        (subst (λ j. Step_of k.0 x k.1 t y.progress.number j (reply_acts p)) (sym i.own_is) k.5)) h

-- ---- whichever state it was in

-- the server goes on in its session
pub same-runs : (job done : List Act) (o : Option Opened) (v x : Service) (y t : Serving) (downs : List Reply)
    (ups : List Parts) (n own own' : ℕ) (u : Parts) (p : Option Parts) (r : Option ℕ)
    → Whole job job
    → Turn o t n own own' p
    → InSession o y ups u n own
    → v.runs_in ≡ r
    → Comes v y u x t p
    → ByRun job done o v (Some y) downs ups r
    → ByRun job done o x (Some t) (with_new downs (reply_to u p)) ups x.runs_in
same-runs job done o v x y t downs ups n own own' u p None whole c i run z h =
    start-runs job done o v x y t downs ups n own own' u p whole h.0 i.number (sym i.own_is)
    (record {
      rest = h.1.rest;
      runs = inl (run, h.1.none);
      fresh = λ e. absurd (let some = i.some in omega (arith, e, some));
      given = λ l. h.1.returns_job (let own_is = i.own_is in omega (arith, l, own_is));
    }) c z
same-runs job done o v x y t downs ups n own own' u p (Some k) whole c i run z h = by
    (eq-or-less k y.progress.number h.low)
  where
    by : (k ≡ y.progress.number) ⊎ (k < y.progress.number)
        → ByRun job done o x (Some t) (with_new downs (reply_to u p)) ups x.runs_in
    by (inr l) =
        let j = h.later l in
        later-runs job done o v x y t downs ups n own own' u p k (let e = i.number in omega (arith, e, l)) j.idle run
        j.none c z
    by (inl e) =
        let same : k ≡ n = e ∙ i.number in
        live-runs job done o v x y t downs ups n own own' u p whole c i (run ∙ ap (λ j. Some j) same) z
        (subst (Live job done o v y downs ups) same (h.now e))

begins-none : (v : Service) (n : ℕ) → v.runs_in ≡ None → (begins v n).packages ≡ v.job.packages
begins-none v n r = ap (λ o. cond (is_some o) [] v.job.packages) r

begins-idle : (v : Service) (n k : ℕ) → v.runs_in ≡ Some k → Idle (begins v n)
begins-idle v n k r = record {
  queue = tt;
  packages = ap (λ o. cond (is_some o) [] v.job.packages) r;
  newest = refl;
}

-- the server begins a session
pub begun-runs : (job done : List Act) (o : Option Opened) (v x : Service) (y : Option Serving) (t : Serving)
    (downs : List Reply) (ups : List Parts) (n own' : ℕ) (u : Parts) (p : Option Parts) (r : Option ℕ)
    → Whole job job
    → job_acts v.job.packages ≡ job
    → Turn o t n 0 own' p
    → ((k : ℕ) → r ≡ Some k → k < n)
    → v.runs_in ≡ r
    → Comes (begins v n) (first_session v.job.account n) u x t p
    → (r ≡ None → done ≡ [])
    → ByRun job done o x (Some t) (with_new downs (reply_to u p)) ups x.runs_in
begun-runs job done o v x y t downs ups n own' u p None whole ji c less run z dn =
    let e = begins-none v n run in
    start-runs job done o (begins v n) x (first_session v.job.account n) t downs ups n 0 own' u p whole (dn refl) refl
    refl
    (record {
      rest = ap (λ q. join None (job_acts q)) e ∙ ap (join None) ji ∙ whole;
      runs = inl (run, refl);
      fresh = λ _. (refl, ap job_acts e ∙ ji);
      given = λ _. ap job_acts e ∙ ji;
    }) c z
begun-runs job done o v x y t downs ups n own' u p (Some k) whole ji c less run z dn =
    later-runs job done o (begins v n) x (first_session v.job.account n) t downs ups n 0 own' u p k (less k refl)
    (begins-idle v n k run) run refl c z
