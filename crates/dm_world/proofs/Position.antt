-- What the client has executed of the job, what the server's newest message holds of it where the client has not taken
-- it, and what the server has still to send, are the job.
use Rattle.std.proofs.Common.{◌≡◌, ◌<◌, ◌≤◌, ℕ, Bool, true, false, cond, List, [], ◌∷◌, ◌++◌, Option, None}
use Rattle.std.proofs.Common.{Some}
use Rattle.std.proofs.Common.{refl, sym, ◌∙◌, ap, subst, arith, ◌⊎◌, inl, inr, append_assoc, nat_lt}
use Rattle.std.proofs.lemmas.List.{append-nil}
use Rattle.std.proofs.lemmas.Bool.Decides.{nat_tests}
use Rattle.syncml_types.specs.Message.{Parts}
use Rattle.dm_machine.specs.Machine.{Session as Opened}
use Rattle.dm_service.specs.Service.{Service, Session as Serving}
use Rattle.dm_world.specs.World.{Reply, with_new}
use Rattle.dm_world.specs.Acts.{Act, acts, job_acts, join}
use Rattle.dm_world.specs.Packing.{acts_to_send, IsOfJobOrReport}
use Rattle.dm_world.specs.Lockstep.{first_of}
use Rattle.dm_world.proofs.Lists.{Each, each-map}
use Rattle.dm_world.proofs.Numbers.{session_number}
use Rattle.dm_world.proofs.Lockstep.{ServerOk, NextIs, NextOk}
use Rattle.dm_world.proofs.Calm.{says}
use Rattle.dm_world.proofs.Serves.{Idle, returned}

-- these acts, joined, are the job
abbrev pub Whole : List Act → List Act → Type 0
Whole job xs = join None xs ≡ record { whole = job; part = None }

-- with some acts behind them they are
abbrev pub IsBegun : List Act → List Act → Type 0
IsBegun job done = (rest : List Act) × Whole job (done ++ rest)

abbrev pub seen : Opened → ℕ
seen s = s.progress.standing.last

abbrev pub sent_by : Serving → ℕ
sent_by y = y.progress.standing.own

abbrev pub first_acts : List Reply → List Act
first_acts [] = []
first_acts (d ∷ ds) = acts d.message.body

-- of the server's newest message, where the client has not taken it
abbrev pub pending : Opened → Serving → List Reply → List Act
pending s y downs = cond (nat_lt (seen s) (sent_by y)) (first_acts downs) []

-- the newest message of the client says of the server's message k that its header was refused, or not
abbrev pub NewestSays : ℕ → Bool → List Parts → Type 0
NewestSays k b [] = ⊥
NewestSays k b (u ∷ us) = says k u ≡ b

-- ---- the client in the session in which the job runs

-- both ends agree on what was executed
abbrev pub InStep : List Act → List Act → Opened → Service → Serving → List Reply → Type 0
InStep job done s v y downs = Whole job (done ++ (pending s y downs ++ acts_to_send v))

-- the client refused the server's first message, and the server doesn't know it
pub record IsRefused (done : List Act) (s : Opened) (y : Serving) (ups : List Parts) : Type 0 where
  pub none : done ≡ []
  pub last : seen s ≡ 1
  pub own : sent_by y ≤ 1
  pub denied : NewestSays 1 true ups

-- the server has ended the session
pub record IsDead (s : Opened) (y : Serving) (downs : List Reply) : Type 0 where
  pub over : y.progress.is_over ≡ true
  pub none : pending s y downs ≡ []

pub record AtClient (job done : List Act) (s : Opened) (v : Service) (y : Serving) (downs : List Reply)
    (ups : List Parts) : Type 0 where
  pub fresh : s.progress.standing.accepted ≡ false → done ≡ []
  pub how : InStep job done s v y downs ⊎ IsRefused done s y ups ⊎ IsDead s y downs

abbrev pub LiveAt : List Act → List Act → Option Opened → Service → Serving → List Reply → List Parts → ℕ → Type 0
LiveAt job done None v y downs ups n = Unit {0}
LiveAt job done (Some s) v y downs ups n = s.progress.number ≡ n → AtClient job done s v y downs ups

-- nothing of the job is on its way to the client
abbrev pub QuietAt : Option Opened → Serving → List Reply → Type 0
QuietAt None y downs = Unit {0}
QuietAt (Some s) y downs = s.progress.number ≡ y.progress.number → pending s y downs ≡ []

-- ---- the server

-- where its first message of the session is refused, the whole job is there again
abbrev pub Returns : List Act → Service → Serving → Type 0
Returns job v y = sent_by y ≤ 1 → returned v ≡ job

-- a message that says that the server's last was refused was sent before anything was executed
abbrev pub Denials : List Act → ℕ → ℕ → List Parts → Type 0
Denials done n own ups = Each (λ (u : Parts). session_number u ≡ n → says own u ≡ true → done ≡ []) ups

-- no message of the session speaks of the server's message k
abbrev pub Silent : ℕ → ℕ → List Parts → Type 0
Silent n k ups = Each (λ (u : Parts). session_number u ≡ n → says k u ≡ false) ups

pub record Live (job done : List Act) (o : Option Opened) (v : Service) (y : Serving) (downs : List Reply)
    (ups : List Parts) (n : ℕ) : Type 0 where
  pub sent : y.sent ≡ [] → ⊥
  pub returns_job : Returns job v y
  pub denials : Denials done n (sent_by y) ups
  pub client : LiveAt job done o v y downs ups n

pub record Later (o : Option Opened) (v : Service) (y : Serving) (downs : List Reply) : Type 0 where
  pub idle : Idle v
  pub none : y.sent ≡ []
  pub quiet : QuietAt o y downs

-- the job runs in session n: it is the server's session, or an earlier one
pub record Running (job done : List Act) (o : Option Opened) (v : Service) (y : Serving) (downs : List Reply)
    (ups : List Parts) (n : ℕ) : Type 0 where
  pub low : n ≤ y.progress.number
  pub later : n < y.progress.number → Later o v y downs
  pub now : n ≡ y.progress.number → Live job done o v y downs ups n

-- nothing of the job counts as sent
pub record NotYet (job : List Act) (o : Option Opened) (v : Service) (y : Serving) (downs : List Reply) : Type 0 where
  pub rest : Whole job (acts_to_send v)
  pub returns_job : Returns job v y
  pub none : y.sent ≡ []
  pub quiet : QuietAt o y downs

abbrev pub ByRun : List Act → List Act → Option Opened → Service → Option Serving → List Reply → List Parts → Option ℕ
    → Type 0
ByRun job done o v None downs ups None = done ≡ []
ByRun job done o v None downs ups (Some n) = ⊥
ByRun job done o v (Some y) downs ups None = (done ≡ []) × NotYet job o v y downs
ByRun job done o v (Some y) downs ups (Some n) = Running job done o v y downs ups n

pub record Placed (job done : List Act) (o : Option Opened) (v : Service) (downs : List Reply) (ups : List Parts) : Type
    0 where
  pub prefix : IsBegun job done
  pub runs : ByRun job done o v v.session downs ups v.runs_in
  pub queue_ok : Each IsOfJobOrReport v.queue
  pub job_is : job_acts v.job.packages ≡ job
  pub whole : Whole job job

-- ---- numbers

lt-yes : (a b : ℕ) → a < b → nat_lt a b ≡ true
lt-yes a b h = grind (arith, nat_tests)

lt-no : (a b : ℕ) → b ≤ a → nat_lt a b ≡ false
lt-no a b h = grind (arith, nat_tests)

pub eq-or-less : (a b : ℕ) → a ≤ b → (a ≡ b) ⊎ (a < b)
eq-or-less a b h = by (nat_lt a b) refl
  where
    by : (c : Bool) → nat_lt a b ≡ c → (a ≡ b) ⊎ (a < b)
    by true e = inr (grind (arith, nat_tests))
    by false e = inl (grind (arith, nat_tests))

pub pending-is : (s : Opened) (y : Serving) (downs : List Reply) → seen s < sent_by y
    → pending s y downs ≡ first_acts downs
pending-is s y downs h = ap (λ b. cond b (first_acts downs) []) (lt-yes (seen s) (sent_by y) h)

pub pending-none : (s : Opened) (y : Serving) (downs : List Reply) → sent_by y ≤ seen s → pending s y downs ≡ []
pending-none s y downs h = ap (λ b. cond b (first_acts downs) []) (lt-no (seen s) (sent_by y) h)

first-acts : (downs : List Reply) (d : Reply) → first_of downs ≡ Some d → first_acts downs ≡ acts d.message.body
first-acts [] d h = cc
first-acts (x ∷ xs) d h = ap of h
  where
    of : Option Reply → List Act
    of None = []
    of (Some y) = acts y.message.body

-- ---- the client begins a session

opened-runs : (job done : List Act) (o : Option Opened) (v : Service) (y : Option Serving) (downs : List Reply)
    (ups : List Parts) (r : Option ℕ) (b : ℕ) (t : Opened) (m : Parts)
    → ServerOk b y
    → b < t.progress.number
    → session_number m ≡ t.progress.number
    → ByRun job done o v y downs ups r
    → ByRun job done (Some t) v y downs (m ∷ ups) r
opened-runs job done o v None downs ups None b t m k l i h = h
opened-runs job done o v None downs ups (Some n) b t m k l i h = h
opened-runs job done o v (Some y) downs ups None b t m k l i h =
    let number = k.number in (
      h.0,
      record {
        rest = h.1.rest;
        returns_job = h.1.returns_job;
        none = h.1.none;
        quiet = λ e. absurd (omega (arith, number, l, e));
      },
    )
opened-runs job done o v (Some y) downs ups (Some n) b t m k l i h =
    let low = h.low in
    let number = k.number in
    record {
      low = low;
      later = λ e. (let x = h.later e in record {
        idle = x.idle;
        none = x.none;
        quiet = λ e. absurd (omega (arith, number, l, e));
      });
      now = λ e. (let x = h.now e in record {
        sent = x.sent;
        returns_job = x.returns_job;
        denials = ((λ f g. absurd (omega (arith, f, i, number, l, low))), x.denials);
        client = λ f. absurd (omega (arith, low, number, l, f));
      });
    }

pub placed-opened : (job done : List Act) (o : Option Opened) (v : Service) (downs : List Reply) (ups : List Parts)
    (b : ℕ) (t : Opened) (m : Parts)
    → ServerOk b v.session
    → b < t.progress.number
    → session_number m ≡ t.progress.number
    → Placed job done o v downs ups
    → Placed job done (Some t) v downs (m ∷ ups)
placed-opened job done o v downs ups b t m k l i h = record {
  prefix = h.prefix;
  runs = opened-runs job done o v v.session downs ups v.runs_in b t m k l i h.runs;
  queue_ok = h.queue_ok;
  job_is = h.job_is;
  whole = h.whole;
}

-- ---- the client takes a message

-- that it takes, while it is the newest, and of which no message of the session speaks yet
pub record Takes (s : Opened) (v : Service) (downs : List Reply) (ups : List Parts) (b : ℕ) (d : Reply) : Type 0 where
  pub number : s.progress.number ≡ b
  pub next : NextOk b s v.session d
  pub first : first_of downs ≡ Some d
  pub old : Silent b d.message.header.msg ups

pub pending-taken : (s : Opened) (y : Serving) (downs : List Reply) (b : ℕ) (d : Reply) → NextIs b s y d
    → first_of downs ≡ Some d
    → pending s y downs ≡ acts d.message.body
pending-taken s y downs b d x f =
    let id = x.id in
    let own = x.own in
    pending-is s y downs (omega (arith, id, own)) ∙ first-acts downs d f

-- the equation with the message in it, or the message has nothing of the job
abbrev pub Gains : List Act → List Act → Service → List Act → Type 0
Gains job done v message = (message ≡ []) ⊎ Whole job ((done ++ message) ++ acts_to_send v)

gains-live : (job done : List Act) (s : Opened) (v : Service) (y : Serving) (downs : List Reply) (ups : List Parts)
    (b : ℕ) (d : Reply)
    → NextIs b s y d
    → first_of downs ≡ Some d
    → AtClient job done s v y downs ups
    → Gains job done v (acts d.message.body)
gains-live job done s v y downs ups b d x f h = by h.how
  where
    by : InStep job done s v y downs ⊎ IsRefused done s y ups ⊎ IsDead s y downs
        → Gains job done v (acts d.message.body)
    by (inl k) =
        inr (ap (join None) (append_assoc done (acts d.message.body) (acts_to_send v))
        ∙ ap (λ p. join None (done ++ (p ++ acts_to_send v))) (sym (pending-taken s y downs b d x f)) ∙ k)
    by (inr (inl k)) =
        absurd (let id = x.id in let own = x.own in let last = k.last in let low = k.own in omega
        (arith, id, own, last, low))
    by (inr (inr k)) = inl (sym (pending-taken s y downs b d x f) ∙ k.none)

pub gains : (job done : List Act) (s : Opened) (v : Service) (y : Option Serving) (downs : List Reply)
    (ups : List Parts)
    (r : Option ℕ) (b : ℕ) (d : Reply)
    → s.progress.number ≡ b
    → NextOk b s y d
    → first_of downs ≡ Some d
    → ByRun job done (Some s) v y downs ups r
    → Gains job done v (acts d.message.body)
gains job done s v None downs ups r b d sb x f h = absurd x
gains job done s v (Some y) downs ups None b d sb x f h =
    inl (sym (pending-taken s y downs b d x f) ∙ h.1.quiet (sb ∙ sym x.number))
gains job done s v (Some y) downs ups (Some n) b d sb x f h = by (eq-or-less n y.progress.number h.low)
  where
    by : (n ≡ y.progress.number) ⊎ (n < y.progress.number) → Gains job done v (acts d.message.body)
    by (inl e) = gains-live job done s v y downs ups b d x f ((h.now e).client (sb ∙ sym x.number ∙ sym e))
    by (inr l) = inl (sym (pending-taken s y downs b d x f) ∙ (h.later l).quiet (sb ∙ sym x.number))

gains-prefix : (job done : List Act) (v : Service) (message : List Act) → Gains job done v message → IsBegun job done
    → IsBegun job (done ++ message)
gains-prefix job done v message (inl e) p =
    subst (IsBegun job) (sym (ap (λ m. done ++ m) e ∙ append-nil done)) p
gains-prefix job done v message (inr w) p = (acts_to_send v, w)

abbrev pub done_then : Bool → List Act → Reply → List Act
done_then true done d = done ++ acts d.message.body
done_then false done d = done

turned-prefix : (job done : List Act) (v : Service) (d : Reply) (run : Bool) → Gains job done v (acts d.message.body)
    → IsBegun job done
    → IsBegun job (done_then run done d)
turned-prefix job done v d true g p = gains-prefix job done v (acts d.message.body) g p
turned-prefix job done v d false g p = p

none-then : (done : List Act) (d : Reply) (run : Bool) → acts d.message.body ≡ [] → done ≡ []
    → done_then run done d ≡ []
none-then done d true e h = ap (λ m. done ++ m) e ∙ append-nil done ∙ h
none-then done d false e h = h

-- ---- it goes on: it ran the message, or it refused the first

-- what the turn came to, with the message that the client then sent
abbrev pub TurnIs : Opened → Reply → Bool → Opened → Parts → Type 0
TurnIs s d true t m = (says d.message.header.msg m ≡ false) × (t.progress.standing.accepted ≡ true)
TurnIs s d false t m =
    (s.progress.standing.accepted ≡ false) × (d.message.header.msg ≡ 1) × (says d.message.header.msg m ≡ true)

old-denials : (done : List Act) (s : Opened) (y : Serving) (ups : List Parts) (b n : ℕ) (d : Reply) (all : List Act)
    → NextIs b s y d
    → n ≡ b
    → Silent b d.message.header.msg ups
    → Denials all n (sent_by y) ups
old-denials done s y ups b n d all x nb old =
    each-map {P = λ (u : Parts). session_number u ≡ b → says d.message.header.msg u ≡ false}
    {Q = λ (u : Parts). session_number u ≡ n → says (sent_by y) u ≡ true → all ≡ []}
    (λ u h e k. absurd (let z = h (e ∙ nb) in let q = ap (λ i. says i u) (sym x.own) ∙ k in cc)) ups old

turned-denials : (done : List Act) (s t : Opened) (y : Serving) (ups : List Parts) (b n : ℕ) (d : Reply) (run : Bool)
    (m : Parts)
    → NextIs b s y d
    → n ≡ b
    → Silent b d.message.header.msg ups
    → (s.progress.standing.accepted ≡ false → done ≡ [])
    → TurnIs s d run t m
    → Denials (done_then run done d) n (sent_by y) (m ∷ ups)
turned-denials done s t y ups b n d run m x nb old fresh k =
    (new run k, old-denials done s y ups b n d (done_then run done d) x nb old)
  where
    new : (run : Bool) → TurnIs s d run t m → session_number m ≡ n → says (sent_by y) m ≡ true
        → done_then run done d ≡ []
    new true k e q = absurd (let z = ap (λ i. says i m) (sym x.own) ∙ q in let f = k.0 in cc)
    new false k e q = fresh k.0

turned-live : (job done : List Act) (s t : Opened) (v : Service) (y : Serving) (downs : List Reply) (ups : List Parts)
    (b : ℕ) (d : Reply) (run : Bool) (m : Parts)
    → NextIs b s y d
    → first_of downs ≡ Some d
    → TurnIs s d run t m
    → seen t ≡ d.message.header.msg
    → AtClient job done s v y downs ups
    → AtClient job (done_then run done d) t v y downs (m ∷ ups)
turned-live job done s t v y downs ups b d run m x f k tl h = record {
  fresh = new-fresh run k;
  how = by run k h.how;
}
  where
    none : pending t y downs ≡ []
    none = pending-none t y downs (let own = x.own in omega (arith, own, tl))

    new-fresh : (run : Bool) → TurnIs s d run t m → t.progress.standing.accepted ≡ false → done_then run done d ≡ []
    new-fresh true k e = absurd (let z = k.1 in cc)
    new-fresh false k e = h.fresh k.0

    by : (run : Bool) → TurnIs s d run t m → InStep job done s v y downs ⊎ IsRefused done s y ups ⊎ IsDead s y downs
        → InStep job (done_then run done d) t v y downs ⊎ IsRefused (done_then run done d) t y (m ∷ ups)
        ⊎ IsDead t y downs
    by true k (inl i) =
        inl (ap (λ p. join None ((done ++ acts d.message.body) ++ (p ++ acts_to_send v))) none
        ∙ ap (join None) (append_assoc done (acts d.message.body) (acts_to_send v))
        ∙ ap (λ p. join None (done ++ (p ++ acts_to_send v))) (sym (pending-taken s y downs b d x f)) ∙ i)
    by false k (inl i) =
        inr (inl (record {
          none = h.fresh k.0;
          last = tl ∙ k.1;
          own = (let own = x.own in let one = k.1 in omega (arith, own, one));
          denied = ap (λ i. says i m) (sym k.1) ∙ k.2;
        }))
    by run k (inr (inl i)) =
        absurd (let id = x.id in let own = x.own in let last = i.last in let low = i.own in omega
        (arith, id, own, last, low))
    by run k (inr (inr i)) = inr (inr (record { over = i.over; none = none }))

quiet-turned : (s t : Opened) (y : Serving) (downs : List Reply) (b : ℕ) (d : Reply) → NextIs b s y d
    → seen t ≡ d.message.header.msg
    → QuietAt (Some t) y downs
quiet-turned s t y downs b d x tl = λ _. pending-none t y downs (let own = x.own in omega (arith, own, tl))

turned-runs : (job done : List Act) (s t : Opened) (v : Service) (y : Option Serving) (downs : List Reply)
    (ups : List Parts) (r : Option ℕ) (b : ℕ) (d : Reply) (run : Bool) (m : Parts)
    → s.progress.number ≡ b
    → NextOk b s y d
    → first_of downs ≡ Some d
    → Silent b d.message.header.msg ups
    → seen t ≡ d.message.header.msg
    → TurnIs s d run t m
    → ByRun job done (Some s) v y downs ups r
    → ByRun job (done_then run done d) (Some t) v y downs (m ∷ ups) r
turned-runs job done s t v None downs ups r b d run m sb x f old tl k h = absurd x
turned-runs job done s t v (Some y) downs ups None b d run m sb x f old tl k h = (
  none-then done d run (sym (pending-taken s y downs b d x f) ∙ h.1.quiet (sb ∙ sym x.number)) h.0,
  record {
    rest = h.1.rest;
    returns_job = h.1.returns_job;
    none = h.1.none;
    quiet = quiet-turned s t y downs b d x tl;
  },
)
turned-runs job done s t v (Some y) downs ups (Some n) b d run m sb x f old tl k h = record {
  low = h.low;
  later = λ l. (let i = h.later l in record {
    idle = i.idle;
    none = i.none;
    quiet = quiet-turned s t y downs b d x tl;
  });
  now = λ e.
      (let i = h.now e in
      let c = i.client (sb ∙ sym x.number ∙ sym e) in
      record {
        sent = i.sent;
        returns_job = i.returns_job;
        denials = turned-denials done s t y ups b n d run m x (e ∙ x.number) old c.fresh k;
        client = λ _. turned-live job done s t v y downs ups b d run m x f k tl c;
      });
}

pub placed-turned : (job done : List Act) (s t : Opened) (v : Service) (downs : List Reply) (ups : List Parts) (b : ℕ)
    (d : Reply) (run : Bool) (m : Parts)
    → Takes s v downs ups b d
    → seen t ≡ d.message.header.msg
    → TurnIs s d run t m
    → Placed job done (Some s) v downs ups
    → Placed job (done_then run done d) (Some t) v downs (m ∷ ups)
placed-turned job done s t v downs ups b d run m x tl k h = record {
  prefix = turned-prefix job done v d run
      (gains job done s v v.session downs ups v.runs_in b d x.number x.next x.first h.runs) h.prefix;
  runs = turned-runs job done s t v v.session downs ups v.runs_in b d run m x.number x.next x.first x.old tl k h.runs;
  queue_ok = h.queue_ok;
  job_is = h.job_is;
  whole = h.whole;
}

-- ---- its session ends, perhaps with a farewell

abbrev pub IsLeaving : Opened → Reply → Bool → Option Parts → Type 0
IsLeaving s d run None = Unit {0}
IsLeaving s d run (Some m) =
    (run ≡ false) × (says d.message.header.msg m ≡ true → s.progress.standing.accepted ≡ false)

ended-denials : (done : List Act) (s : Opened) (y : Serving) (ups : List Parts) (b n : ℕ) (d : Reply) (run : Bool)
    (m : Option Parts)
    → NextIs b s y d
    → n ≡ b
    → Silent b d.message.header.msg ups
    → (s.progress.standing.accepted ≡ false → done ≡ [])
    → IsLeaving s d run m
    → Denials (done_then run done d) n (sent_by y) (with_new ups m)
ended-denials done s y ups b n d run None x nb old fresh k = old-denials done s y ups b n d (done_then run done d) x nb
    old
ended-denials done s y ups b n d true (Some m) x nb old fresh k = absurd (let z = k.0 in cc)
ended-denials done s y ups b n d false (Some m) x nb old fresh k =
    ((λ e q. fresh (k.1 (ap (λ i. says i m) (sym x.own) ∙ q))), old-denials done s y ups b n d done x nb old)

ended-runs : (job done : List Act) (s : Opened) (v : Service) (y : Option Serving) (downs : List Reply)
    (ups : List Parts) (r : Option ℕ) (b : ℕ) (d : Reply) (run : Bool) (m : Option Parts)
    → s.progress.number ≡ b
    → NextOk b s y d
    → first_of downs ≡ Some d
    → Silent b d.message.header.msg ups
    → IsLeaving s d run m
    → ByRun job done (Some s) v y downs ups r
    → ByRun job (done_then run done d) None v y downs (with_new ups m) r
ended-runs job done s v None downs ups r b d run m sb x f old k h = absurd x
ended-runs job done s v (Some y) downs ups None b d run m sb x f old k h = (
  none-then done d run (sym (pending-taken s y downs b d x f) ∙ h.1.quiet (sb ∙ sym x.number)) h.0,
  record { rest = h.1.rest; returns_job = h.1.returns_job; none = h.1.none; quiet = tt },
)
ended-runs job done s v (Some y) downs ups (Some n) b d run m sb x f old k h = record {
  low = h.low;
  later = λ l. (let i = h.later l in record { idle = i.idle; none = i.none; quiet = tt });
  now = λ e.
      (let i = h.now e in
      let c = i.client (sb ∙ sym x.number ∙ sym e) in
      record {
        sent = i.sent;
        returns_job = i.returns_job;
        denials = ended-denials done s y ups b n d run m x (e ∙ x.number) old c.fresh k;
        client = tt;
      });
}

pub placed-ended : (job done : List Act) (s : Opened) (v : Service) (downs : List Reply) (ups : List Parts) (b : ℕ)
    (d : Reply) (run : Bool) (m : Option Parts)
    → Takes s v downs ups b d
    → IsLeaving s d run m
    → Placed job done (Some s) v downs ups
    → Placed job (done_then run done d) None v downs (with_new ups m)
placed-ended job done s v downs ups b d run m x k h = record {
  prefix = turned-prefix job done v d run
      (gains job done s v v.session downs ups v.runs_in b d x.number x.next x.first h.runs) h.prefix;
  runs = ended-runs job done s v v.session downs ups v.runs_in b d run m x.number x.next x.first x.old k h.runs;
  queue_ok = h.queue_ok;
  job_is = h.job_is;
  whole = h.whole;
}
