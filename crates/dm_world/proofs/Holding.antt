-- What both ends have of the value that is on its way, and that the server keeps it when it takes a message.
use Rattle.std.proofs.Common.{◌≡◌, ◌<◌, ◌≤◌, ◌+◌, ℕ, Bool, true, false, cond, List, [], ◌∷◌, ◌++◌}
use Rattle.std.proofs.Common.{Option, None, Some, IfSome, refl, sym, ◌∙◌, ap, subst, arith, ◌⊎◌, inl, inr}
use Rattle.std.specs.List.{Contains}
use Rattle.syncml_types.specs.declared.command.Step.{Step}
use Rattle.syncml_types.specs.declared.command.Command.{Command}
use Rattle.syncml_types.specs.Message.{Parts}
use Rattle.dm_headers.specs.declared.checks.Side.TheVariants.{User}
use Rattle.dm_headers.specs.Checks.{passes, fault_of}
use Rattle.dm_headers.specs.Standings.{hears}
use Rattle.dm_objects.specs.declared.object.Object.{Object}
use Rattle.dm_atomic.specs.Made.{Made}
use Rattle.dm_pack.specs.Filling.{commands_of}
use Rattle.dm_machine.specs.Machine.{Machine, Session as Opened}
use Rattle.dm_service.specs.declared.sent.Sent.{Sent}
use Rattle.dm_service.specs.Service.{Told, Service, Session as Serving}
use Rattle.dm_service.specs.Messages as serving
use Rattle.dm_service.specs.Laws.{found_at}
use Rattle.dm_world.specs.World.{InSession, Reply}
use Rattle.dm_world.specs.Acts.{Act}
use Rattle.dm_world.proofs.Lists.{Each, each-within, StandsIn}
use Rattle.dm_world.proofs.Numbers.{session_number}
use Rattle.dm_world.proofs.Calm.{says}
use Rattle.dm_world.proofs.Position.{seen, sent_by, eq-or-less, ByRun}
use Rattle.dm_world.proofs.Flows.{Going, Flow, WasFoundAs, IsNothing, IsSilent, FoundNone, none-flows, silent-past}
use Rattle.dm_world.proofs.Flows.{flow-behind}
use Rattle.dm_world.proofs.Gathers.{Fits, IsNew, Among, Matched_as, message-matches, fits-more}
use Rattle.dm_world.proofs.ServerFlows.{HasNone, finding_by, Works, tells_first, Accepted}
use Rattle.dm_world.proofs.ServerFlows.{accepted-passes}
use Rattle.dm_world.proofs.ClientFlows.{Free}

-- ---- what is known of a value on its way

-- a session that the server has begun, or an earlier one
abbrev pub UpTo : Option Serving → ℕ → Type 0
UpTo None n = ⊥
UpTo (Some y) n = n ≤ y.progress.number

-- of the message of the client that the server will take: what it brings, and what waits at the client behind it
pub record Pend (made : List (InSession Made)) (c : Machine) (y : Serving) (u : Parts) : Type 0 where
  pub going : Option Going
  pub later : List Command
  pub flow : Flow made y.progress.number going (u.body ++ later)
  pub fits : Fits y.sent going y.object
  pub was_found : IfSome going (WasFoundAs made y.progress.number)
  pub mine : (s : Opened) → c.session ≡ Some s → s.progress.number ≡ y.progress.number → later ≡ commands_of c.queue

-- where the server has taken the client's newest message: what waits at the client
pub record Ball (made : List (InSession Made)) (c : Machine) (y : Serving) : Type 0 where
  pub going : Option Going
  pub flow : Flow made y.progress.number going (commands_of c.queue)
  pub fits : y.progress.is_over ≡ false → Fits y.sent going y.object
  pub was_found : IfSome going (WasFoundAs made y.progress.number)

-- of a session that is open at the client; where nothing was found in it no group is open
pub record Open (c : Machine) (v : Service) (made : List (InSession Made)) (done : List Act) (s : Opened) : Type 0 where
  pub free : Free s.progress.opening_at s.progress.opening_left c.queue
  pub fresh : seen s ≡ 0 → (c.engine.group ≡ None) × Each IsSilent (commands_of c.queue)
  pub undone : done ≡ [] → c.engine.group ≡ None
  pub elsewhere : (k : ℕ) → v.runs_in ≡ Some k → k < s.progress.number → c.engine.group ≡ None
  pub ball : (y : Serving) → v.session ≡ Some y → y.progress.number ≡ s.progress.number
      → s.progress.standing.own ≤ y.progress.standing.last
      → Ball made c y

pub record Keeps (c : Machine) (v : Service) (ups : List Parts) (made : List (InSession Made)) (done : List Act)
    : Type 0 where
  pub low : (x : InSession Made) → Contains made x → UpTo v.session x.session
  pub none_yet : (y : Serving) → v.session ≡ Some y → HasNone v y
  -- nothing was found where nothing was executed, nor in a session behind the one in which the job runs
  pub unmade : done ≡ [] → (n : ℕ) → FoundNone made n
  pub before : (k n : ℕ) → v.runs_in ≡ Some k → k < n → FoundNone made n
  pub client : (s : Opened) → c.session ≡ Some s → Open c v made done s
  pub pends : (u : Parts) → StandsIn u ups → (y : Serving) → v.session ≡ Some y
      → session_number u ≡ y.progress.number
      → u.header.msg ≡ y.progress.standing.last + 1
      → y.progress.is_over ≡ false
      → Pend made c y u

-- ---- a message that the server takes

-- what is known of it, and of the service and the session that it comes to
pub record Start (made : List (InSession Made)) (c : Machine) (base : Service) (from : Serving) (n : ℕ) (u : Parts)
    (nonce : List ℕ) : Type 0 where
  pub going : Option Going
  pub later : List Command
  pub flow : Flow made n going (u.body ++ later)
  pub fits : Fits from.sent going from.object
  pub was_found : IfSome going (WasFoundAs made n)
  pub mine : (s : Opened) → c.session ≡ Some s → s.progress.number ≡ n → later ≡ commands_of c.queue
  pub low : (z : Going) → WasFoundAs made n z → z.msg ≤ from.progress.standing.own
  pub none : HasNone base from
  pub first : tells_first base from u nonce ≡ true → FoundNone made n
  pub unasked : from.progress.standing.accepted ≡ false → FoundNone made n

-- and what it leaves
pub record Left (made : List (InSession Made)) (n : ℕ) (sent : List Sent) (told : List Told) (later : List Command)
    (x : Service) (t : Serving) : Type 0 where
  pub none : HasNone x t
  pub going : Option Going
  pub flow : Flow made n going later
  pub fits : t.progress.is_over ≡ false → Fits t.sent going t.object
  pub was_found : IfSome going (WasFoundAs made n)
  pub values : Among made n sent told x.told

fits-nothing : (sent more : List Sent) (o : Option Going) (object : Object) → IsNothing o → Fits sent o object
    → Fits more o object
fits-nothing sent more None object h k = k
fits-nothing sent more (Some x) object h k = absurd h

first-silent : (cs ds : List Command) → Each IsSilent (cs ++ ds) → Each IsSilent cs
first-silent [] ds h = tt
first-silent (c ∷ cs) ds h = (h.0, first-silent cs ds h.1)

-- of fewer commands that were sent
fewer-among : (made : List (InSession Made)) (n : ℕ) (few sent : List Sent) (told base now : List Told)
    → ((y : Sent) → Contains few y → Contains sent y)
    → ((place : ℕ) (value : Step) → Contains (found_at base place) value → Contains (found_at told place) value)
    → Among made n few base now
    → Among made n sent told now
fewer-among made n few sent told base now f g h place value v = by (h place value v)
  where
    by : Contains (found_at base place) value ⊎ IsNew made n few place value → Contains (found_at told place) value
        ⊎ IsNew made n sent place value
    by (inl k) = inl (g place value k)
    by (inr k) = inr (record {
      command = k.command;
      was_sent = f k.command k.was_sent;
      place_is = k.place_is;
      post = k.post;
      found = k.found;
      within = k.within;
      msg_is = k.msg_is;
      command_is = k.command_is;
      value_is = k.value_is;
    })

bool-of : (b : Bool) → (b ≡ true) ⊎ (b ≡ false)
bool-of true = inl refl
bool-of false = inr refl

-- where it doesn't pass nothing was found
unpassed : (made : List (InSession Made)) (c : Machine) (base : Service) (from : Serving) (n : ℕ) (u : Parts)
    (nonce : List ℕ)
    → fault_of u ≡ None
    → Start made c base from n u nonce
    → passes (hears User base.job.account from.progress.standing u nonce).code ≡ false
    → FoundNone made n
unpassed made c base from n u nonce f h e = by (bool-of from.progress.standing.accepted)
  where
    by : (from.progress.standing.accepted ≡ true) ⊎ (from.progress.standing.accepted ≡ false) → FoundNone made n
    by (inl a) = absurd (let p = accepted-passes base.job.account from.progress.standing u nonce f a in cc)
    by (inr a) = h.unasked a

matched-by : (made : List (InSession Made)) (c : Machine) (base : Service) (from : Serving) (n : ℕ) (u : Parts)
    (nonce : List ℕ) (x : Service) (t : Serving)
    → fault_of u ≡ None
    → (h : Start made c base from n u nonce)
    → (a : Accepted base from u nonce x t)
    → Matched_as made n a.from.sent a.base.told h.later
    (finding_by a.base a.from u (hears User base.job.account from.progress.standing u nonce).code)
matched-by made c base from n u nonce x t f h a =
    by (passes (hears User base.job.account from.progress.standing u nonce).code) refl
  where
    of : (tells_first base from u nonce ≡ true) ⊎ (a.from.sent ≡ from.sent) → Fits a.from.sent h.going a.from.object
    of (inl e) =
        fits-nothing from.sent a.from.sent h.going a.from.object
        (none-flows made n h.going (u.body ++ h.later) (h.first e) h.flow).0
        (subst (Fits from.sent h.going) (sym a.object) h.fits)
    of (inr e) =
        subst (λ l. Fits l h.going a.from.object) (sym e) (subst (Fits from.sent h.going) (sym a.object) h.fits)

    by : (b : Bool) → passes (hears User base.job.account from.progress.standing u nonce).code ≡ b
        → Matched_as made n a.from.sent a.base.told h.later
        (cond b (serving.matched_in a.base a.from u).finding
        (record { object = a.from.object; told = a.base.told }))
    by true e =
        message-matches a.base.job.limits.max_obj made n a.from.sent h.going
        (record {
          finding = record { object = a.from.object; told = a.base.told };
          alerts = a.base.alerts;
        }) u.body h.later (of a.sent) h.was_found h.flow
    by false e =
        let none = unpassed made c base from n u nonce f h e in
        let silent = (none-flows made n h.going (u.body ++ h.later) none h.flow).1 in
        record {
          going = h.going;
          fits = of a.sent;
          flow = silent-past made n u.body h.later (first-silent u.body h.later silent) h.going h.flow;
          was_found = h.was_found;
          values = λ place value k. inl k;
        }

low-going : (made : List (InSession Made)) (n own own' : ℕ) (o : Option Going)
    → ((z : Going) → WasFoundAs made n z → z.msg ≤ own)
    → own' ≡ own
    → IfSome o (WasFoundAs made n)
    → IfSome o (λ (z : Going). z.msg ≤ own')
low-going made n own own' None f e h = tt
low-going made n own own' (Some z) f e h = let l = f z h in omega (arith, l, e)

pub message-left : (made : List (InSession Made)) (c : Machine) (base : Service) (from : Serving) (n : ℕ) (u : Parts)
    (nonce : List ℕ) (x : Service) (t : Serving)
    → fault_of u ≡ None
    → (h : Start made c base from n u nonce)
    → Accepted base from u nonce x t
    → Left made n from.sent base.told h.later x t
message-left made c base from n u nonce x t f h a = by a.leaves.outcome
  where
    by : ((t.progress.is_over ≡ true) × (x.told ≡ a.base.told))
        ⊎ Works a.base a.from u (hears User base.job.account from.progress.standing u nonce).code x t
        → Left made n from.sent base.told h.later x t
    by (inl k) =
        let z = flow-behind made n h.going u.body h.later h.was_found h.flow in
        record {
          none = a.leaves.none (a.none h.none);
          going = z.going;
          flow = z.flow;
          fits = λ e. absurd (let o = k.0 in cc);
          was_found = z.was_found;
          values = λ place value v.
              inl (a.told place value (subst (λ l. Contains (found_at l place) value) k.1 v));
        }
    by (inr k) =
        let m = matched-by made c base from n u nonce x t f h a in
        record {
          none = a.leaves.none (a.none h.none);
          going = m.going;
          flow = m.flow;
          fits = λ e.
              subst (λ l. Fits l m.going t.object) (sym k.sent)
              (fits-more a.from.progress.standing.own a.from.sent k.out m.going t.object
              (low-going made n from.progress.standing.own a.from.progress.standing.own m.going h.low a.own
              m.was_found) k.next (subst (Fits a.from.sent m.going) (sym k.object) m.fits));
          was_found = m.was_found;
          values =
              fewer-among made n a.from.sent from.sent base.told a.base.told x.told a.within a.told
              (subst (Among made n a.from.sent a.base.told) (sym k.told) m.values);
        }

-- ---- where nothing was found

pub found-nowhere : (job done : List Act) (c : Machine) (v : Service) (y : Serving) (downs : List Reply)
    (ups : List Parts) (made : List (InSession Made)) (n : ℕ) (r : Option ℕ)
    → Keeps c v ups made done
    → v.runs_in ≡ r
    → y.progress.number ≡ n
    → (r ≡ Some n → done ≡ [])
    → ByRun job done c.session v (Some y) downs ups r
    → FoundNone made n
found-nowhere job done c v y downs ups made n None k e yn f h = k.unmade h.0 n
found-nowhere job done c v y downs ups made n (Some m) k e yn f h = by (eq-or-less m y.progress.number h.low)
  where
    by : (m ≡ y.progress.number) ⊎ (m < y.progress.number) → FoundNone made n
    by (inl q) = k.unmade (f (ap Some (q ∙ yn))) n
    by (inr q) = k.before m n e (omega (arith, q, yn))

pub run-live : (job done : List Act) (c : Machine) (v : Service) (y : Serving) (downs : List Reply) (ups : List Parts)
    (r : Option ℕ) (u : Parts)
    → ByRun job done c.session v (Some y) downs ups r
    → r ≡ Some y.progress.number
    → (y.sent ≡ [] → ⊥)
    × (StandsIn u ups → session_number u ≡ y.progress.number → says (sent_by y) u ≡ true → done ≡ [])
run-live job done c v y downs ups None u h e = absurd (cc)
run-live job done c v y downs ups (Some m) u h e =
    let same : m ≡ y.progress.number = cc in
    let live = h.now same in (
      live.sent,
      λ w n q.
          each-within (λ (u : Parts). session_number u ≡ m → says (sent_by y) u ≡ true → done ≡ []) ups u live.denials
          w (n ∙ sym same) q,
    )
