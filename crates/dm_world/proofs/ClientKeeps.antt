-- An event of the client keeps what both ends have of the value that is on its way.
use Rattle.std.proofs.Common.{◌≡◌, ◌<◌, ◌≤◌, ◌+◌, ◌&&◌, ◌^◌, ℕ, Bool, true, false, cond, not, List, [], ◌∷◌, ◌++◌}
use Rattle.std.proofs.Common.{Option, None, Some, IfSome, refl, sym, ◌∙◌, ap, subst, arith, ◌⊎◌, inl, inr, nat_lt}
use Rattle.std.proofs.Common.{length}
use Rattle.std.specs.Prelude.{Ok, slice_get, is_some}
use Rattle.std.specs.List.{Contains}
use Rattle.std.proofs.lemmas.List.{append-nil}
use Rattle.std.proofs.lemmas.List.Elements.{Contains-append_cases}
use Rattle.syncml_types.specs.declared.command.Command.{Command}
use Rattle.syncml_types.specs.Message.{Parts}
use Rattle.dm_tree.specs.declared.nodes.Stamp.{Stamp}
use Rattle.dm_atomic.specs.Made.{Made, Result}
use Rattle.dm_atomic.specs.Run.{Next}
use Rattle.dm_atomic.specs.Updates.{is_updating}
use Rattle.dm_pack.specs.Filling.{commands_of}
use Rattle.dm_machine.specs.declared.kinds.Initiator.{Initiator}
use Rattle.dm_machine.specs.Machine.{Machine, Session as Opened}
use Rattle.dm_machine.specs.Messages.{Outcome, goes_on, ends, begins, accepts, ends_update}
use Rattle.dm_machine.specs.Statuses.{is_executed, executed}
use Rattle.dm_machine.specs.Events as client
use Rattle.dm_machine.specs.History as client_runs
use Rattle.dm_machine.specs.Ready.{IsReadyMachine, IsReadyProgress}
use Rattle.dm_service.specs.Service.{Service, Session as Serving}
use Rattle.dm_world.specs.Deeds.{Deed}
use Rattle.dm_world.specs.World.{InSession, Reply, with_new, said, each_in_session, heard_by, deeds_in, made_in}
use Rattle.dm_world.specs.World.{deeds_by}
use Rattle.dm_world.specs.World.{made_by}
use Rattle.dm_world.specs.Acts.{Act, acts, deeds_acts}
use Rattle.dm_world.specs.Lockstep.{first_of}
use Rattle.dm_world.proofs.Lists.{both-ways, Each, each-within, StandsIn, picked}
use Rattle.dm_world.proofs.Numbers.{session_number, sent-numbered, lt-of}
use Rattle.dm_world.proofs.Client.{OpenAs, Begun, Turns as Numbers, Turned, begins-begun, message-turned}
use Rattle.dm_world.proofs.Lockstep.{Below, Holds, ServerOk, NextIs, NextOk, top}
use Rattle.dm_world.proofs.Happens.{taken-next, refusal-said, loss-said}
use Rattle.dm_world.proofs.Turns.{takes-newest}
use Rattle.dm_world.proofs.ClientGoes.{run-done}
use Rattle.dm_world.proofs.Waits.{left-none, right-none}
use Rattle.dm_world.proofs.Position.{seen, ByRun, Placed, pending-taken, done_then}
use Rattle.dm_world.proofs.Flows.{Going, Flow, WasFoundAs, IsSilent, FoundNone, none-flows, silent-front, flow-later}
use Rattle.dm_world.proofs.Flows.{later-found}
use Rattle.dm_world.proofs.Gathers.{Fits}
use Rattle.dm_world.proofs.Paired.{of-session}
use Rattle.dm_world.proofs.Unfound.{FindsNone, executed-none}
use Rattle.dm_world.proofs.ClientFlows.{Free, Turns, OutcomeTurns, message-turns, Opens, begins-opens}
use Rattle.dm_world.proofs.Holding.{UpTo, Pend, Ball, Open, Keeps}

some-is : {A : Type 0} (x y : A) → ◌≡◌ {A = Option A} (Some x) (Some y) → x ≡ y
some-is x y e = cc

-- ---- an event that leaves what it has to say

ball-same : (c c' : Machine) (made : List (InSession Made)) (y : Serving) → c'.queue ≡ c.queue → Ball made c y
    → Ball made c' y
ball-same c c' made y q h = record {
  going = h.going;
  flow = subst (λ l. Flow made y.progress.number h.going (commands_of l)) (sym q) h.flow;
  fits = h.fits;
  was_found = h.was_found;
}

keeps-same : (c c' : Machine) (v : Service) (ups : List Parts) (made : List (InSession Made)) (done : List Act)
    → c'.session ≡ c.session
    → c'.queue ≡ c.queue
    → (c.engine.group ≡ None → c'.engine.group ≡ None)
    → Keeps c v ups made done
    → Keeps c' v ups made done
keeps-same c c' v ups made done e q g h = record {
  low = h.low;
  none_yet = h.none_yet;
  unmade = h.unmade;
  before = h.before;
  client = λ s f.
      (let k = h.client s (sym e ∙ f) in
      record {
        free = subst (Free s.progress.opening_at s.progress.opening_left) (sym q) k.free;
        fresh = λ z.
            (let x = k.fresh z in (g x.0, subst (λ l. Each IsSilent (commands_of l)) (sym q) x.1));
        undone = λ z. g (k.undone z);
        elsewhere = λ j r l. g (k.elsewhere j r l);
        ball = λ y a b d. ball-same c c' made y q (k.ball y a b d);
      });
  pends = λ u w y a n m o.
      (let p = h.pends u w y a n m o in
      record {
        going = p.going;
        later = p.later;
        flow = p.flow;
        fits = p.fits;
        was_found = p.was_found;
        mine = λ s f i. p.mine s (sym e ∙ f) i ∙ ap commands_of (sym q);
      });
}

-- what is kept after the client did something and said something
abbrev pub Then : Service → List Parts → List (InSession Made) → List Act → Machine → client.Answer → Type 0
Then v ups made done c a = Keeps c v (with_new ups (said a)) made done

unsaid : (v : Service) (ups : List Parts) (made : List (InSession Made)) (done : List Act) (c : Machine)
    (a : client.Answer)
    → said a ≡ None
    → Keeps c v ups made done
    → Then v ups made done c a
unsaid v ups made done c a e h = subst (λ o. Keeps c v (with_new ups o) made done) (sym e) h

-- ---- it begins a session

second-silent : (cs ds : List Command) → Each IsSilent (cs ++ ds) → Each IsSilent ds
second-silent [] ds h = h
second-silent (c ∷ cs) ds h = second-silent cs ds h.1

found-before : (b n : ℕ) (made : List (InSession Made)) (v : Option Serving) → ServerOk b v → b < n
    → ((x : InSession Made) → Contains made x → UpTo v x.session)
    → FoundNone made n
found-before b n made None k l h post found w = h _ w
found-before b n made (Some y) k l h post found w = let i = h _ w in let m = k.number in omega (arith, i, m, l)

opened-keeps : (c d : Machine) (t : Opened) (v : Service) (ups : List Parts) (made : List (InSession Made))
    (done : List Act) (n : ℕ)
    → ServerOk c.begun v.session
    → c.begun < n
    → n < 2 ^ 32
    → d.session ≡ Some t
    → Begun n t
    → Opens made n d t
    → Keeps c v ups made done
    → Keeps d v (t.sent ∷ ups) made done
opened-keeps c d t v ups made done n k l high e g o h = record {
  low = h.low;
  none_yet = h.none_yet;
  unmade = h.unmade;
  before = h.before;
  client = λ s f.
      subst (Open d v made done) (some-is t s (sym e ∙ f))
      (record {
        free = o.streams.free;
        fresh = λ z. (
          o.group,
          second-silent t.sent.body (commands_of d.queue)
              (none-flows made n None (t.sent.body ++ commands_of d.queue)
              (found-before c.begun n made v.session k l h.low) o.streams.flow).1,
        );
        undone = λ z. o.group;
        elsewhere = λ j r i. o.group;
        ball = λ y a b i. absurd (let m = at-most y a in let number = g.number in omega (arith, m, b, l, number));
      });
  pends = λ u w y a i m q. of u y a w i m q;
}
  where
    at-most : (y : Serving) → v.session ≡ Some y → y.progress.number ≤ c.begun
    at-most y a = (subst (ServerOk c.begun) a k).number

    of-session-n : session_number t.sent ≡ n
    of-session-n = (sent-numbered n 1 t.sent (omega (arith, l)) high g.sent).session

    of : (u : Parts) (y : Serving) → v.session ≡ Some y → (u ≡ t.sent) ⊎ StandsIn u ups
        → session_number u ≡ y.progress.number
        → u.header.msg ≡ y.progress.standing.last + 1
        → y.progress.is_over ≡ false
        → Pend made d y u
    of u y a (inl w) i m q =
        absurd (let is = of-session-n in let z = at-most y a in let same = ap session_number w in
        omega (arith, is, z, same, i, l))
    of u y a (inr w) i m q =
        let p = h.pends u w y a i m q in
        record {
          going = p.going;
          later = p.later;
          flow = p.flow;
          fits = p.fits;
          was_found = p.was_found;
          mine = λ s f j.
              absurd
              (let z = at-most y a in
              let number = g.number in
              let same = ap (λ (x : Opened). x.progress.number) (some-is t s (sym e ∙ f)) in
              omega (arith, z, number, same, j, l));
        }

begun-keeps : (c d : Machine) (o : Option Opened) (v : Service) (ups : List Parts) (made : List (InSession Made))
    (done : List Act) (n : ℕ)
    → ServerOk c.begun v.session
    → c.begun < n
    → n < 2 ^ 32
    → d.session ≡ o
    → OpenAs (Begun n) o
    → OpenAs (Opens made n d) o
    → Keeps c v ups made done
    → Keeps d v (with_new ups (said (client.sent_in o))) made done
begun-keeps c d None v ups made done n k l high e g o h = absurd g
begun-keeps c d (Some t) v ups made done n k l high e g o h = opened-keeps c d t v ups made done n k l high e g o h

pub begins-keeps : (c : Machine) (v : Service) (ups : List Parts) (made : List (InSession Made)) (done : List Act)
    (account : ℕ) (kind : Initiator) (n : ℕ)
    → ServerOk c.begun v.session
    → n < 2 ^ 32
    → Keeps c v ups made done
    → Then v ups made done (client_runs.next c (client.opened account kind n))
    (client_runs.answer_now c (client.opened account kind n))
unfolding client_runs.next client_runs.answer_now client.takes client.after client.taken_answer client.refusal
begins-keeps c v ups made done account kind n k high h =
    let d = begins c account kind n in
    both-ways (Then v ups made done) (nat_lt c.begun n) d c (client.sent_in d.session) (client.exhausted c.begun)
    (λ t.
    begun-keeps c d d.session v ups made done n k (lt-of c.begun n t) high refl (begins-begun c account kind n)
    (begins-opens made c account kind n) h)
    (λ t. h)

-- ---- events in which no message plays a part

busy : (o : Option Opened) (b : Bool) → (not (is_some o) && b) ≡ true → o ≡ None
busy None b e = refl
busy (Some s) b e = absurd (cc)

none-some : (o : Option Opened) (s : Opened) → o ≡ None → o ≡ Some s → ⊥
none-some o s e f = cc

-- where no session is open
keeps-closed : (c d : Machine) (v : Service) (ups : List Parts) (made : List (InSession Made)) (done : List Act)
    → c.session ≡ None
    → d.session ≡ None
    → Keeps c v ups made done
    → Keeps d v ups made done
keeps-closed c d v ups made done e f h = record {
  low = h.low;
  none_yet = h.none_yet;
  unmade = h.unmade;
  before = h.before;
  client = λ s g. absurd (none-some d.session s f g);
  pends = λ u w y a n m o.
      (let p = h.pends u w y a n m o in
      record {
        going = p.going;
        later = p.later;
        flow = p.flow;
        fits = p.fits;
        was_found = p.was_found;
        mine = λ s g i. absurd (none-some d.session s f g);
      });
}

pub act-keeps : (c : Machine) (v : Service) (ups : List Parts) (made : List (InSession Made)) (done : List Act)
    (ok : Bool)
    → Keeps c v ups made done
    → Then v ups made done (client_runs.next c (client.act ok)) (client_runs.answer_now c (client.act ok))
unfolding client_runs.next client_runs.answer_now client.takes client.after client.taken_answer client.refusal
    ends_update
act-keeps c v ups made done ok h =
    both-ways (Then v ups made done) (not (is_some c.session) && is_updating c.engine.tree) (ends_update c ok) c
    client.acted client.not_now
    (λ t.
    (let e = busy c.session (is_updating c.engine.tree) t in
    keeps-closed c (ends_update c ok) v ups made done e e h))
    (λ t. h)

pub clock-keeps : (c : Machine) (v : Service) (ups : List Parts) (made : List (InSession Made)) (done : List Act)
    (stamp : Stamp)
    → Keeps c v ups made done
    → Then v ups made done (client_runs.next c (client.clock stamp)) (client_runs.answer_now c (client.clock stamp))
unfolding client_runs.next client_runs.answer_now client.takes client.after client.taken_answer
clock-keeps c v ups made done stamp h =
    keeps-same c (record c { clock = stamp }) v ups made done refl refl (λ e. e) h

pub loss-keeps : (c : Machine) (v : Service) (ups : List Parts) (made : List (InSession Made)) (done : List Act)
    → Keeps c v ups made done
    → Then v ups made done (client_runs.next c client.loss) (client_runs.answer_now c client.loss)
unfolding client_runs.next client_runs.answer_now client.takes client.refusal
loss-keeps c v ups made done h =
    unsaid v ups made done c (client.loss_answer c.session) (loss-said c.session) h

-- ---- it takes a message: what was made then

record NewFacts (v : Service) (made : List (InSession Made)) (done : List Act) (run : Next) (s : Opened) : Type 0 where
  low : (x : InSession Made) → Contains made x → UpTo v.session x.session
  unmade : done ≡ [] → (n : ℕ) → FoundNone made n
  before : (k n : ℕ) → v.runs_in ≡ Some k → k < n → FoundNone made n
  undone : done ≡ [] → run.state.group ≡ None
  elsewhere : (k : ℕ) → v.runs_in ≡ Some k → k < s.progress.number → run.state.group ≡ None

abbrev all_made : List (InSession Made) → Opened → Next → List (InSession Made)
all_made made s run = made ++ each_in_session s.progress.number run.made

more-none : (made : List (InSession Made)) (s : Opened) (run : Next) (n : ℕ) → FoundNone made n → FindsNone run
    → FoundNone (all_made made s run) n
more-none made s run n h k post found w =
    by (Contains-append_cases made (each_in_session s.progress.number run.made) _ w)
  where
    by : Contains made (record { session = n; what = Result post found })
        ⊎ Contains (each_in_session s.progress.number run.made) (record { session = n; what = Result post found })
        → ⊥
    by (inl x) = h post found x
    by (inr x) =
        k.none post found (of-session s.progress.number run.made (record { session = n; what = Result post found }) x).1

-- in another session
other-none : (made : List (InSession Made)) (s : Opened) (run : Next) (n : ℕ) → FoundNone made n
    → (s.progress.number ≡ n → FindsNone run)
    → FoundNone (all_made made s run) n
other-none made s run n h k post found w =
    by (Contains-append_cases made (each_in_session s.progress.number run.made) _ w)
  where
    by : Contains made (record { session = n; what = Result post found })
        ⊎ Contains (each_in_session s.progress.number run.made) (record { session = n; what = Result post found })
        → ⊥
    by (inl x) = h post found x
    by (inr x) =
        let y = of-session s.progress.number run.made (record { session = n; what = Result post found }) x in
        (k (sym y.0)).none post found y.1

done-none : (done : List Act) (d : Reply) (run : Bool) → done_then run done d ≡ []
    → (done ≡ []) × (run ≡ true → acts d.message.body ≡ [])
done-none done d true e =
    (left-none done (acts d.message.body) e, λ z. right-none done (acts d.message.body) e)
done-none done d false e = (e, λ z. absurd (cc))

-- in a session behind the one in which the job runs nothing is on its way
quiet-elsewhere : (job done : List Act) (s : Opened) (v : Service) (y : Serving) (downs : List Reply)
    (ups : List Parts) (r : Option ℕ) (b k : ℕ) (d : Reply)
    → NextIs b s y d
    → s.progress.number ≡ b
    → first_of downs ≡ Some d
    → ByRun job done (Some s) v (Some y) downs ups r
    → r ≡ Some k
    → k < s.progress.number
    → acts d.message.body ≡ []
quiet-elsewhere job done s v y downs ups None b k d x sb f h q l = absurd (cc)
quiet-elsewhere job done s v y downs ups (Some m) b k d x sb f h q l =
    let same : m ≡ k = some-is m k q in
    let number = x.number in
    sym (pending-taken s y downs b d x f)
    ∙ (h.later (omega (arith, same, number, sb, l))).quiet (sb ∙ sym number)

-- how the message stands
record Takes (job done : List Act) (c : Machine) (s : Opened) (v : Service) (y : Serving) (downs : List Reply)
    (ups : List Parts) (made : List (InSession Made)) (d : Reply) : Type 0 where
  open_is : c.session ≡ Some s
  serves : v.session ≡ Some y
  next : NextIs c.begun s y d
  number : s.progress.number ≡ c.begun
  own : s.progress.standing.own ≡ seen s + 1
  first : first_of downs ≡ Some d
  older : Each (Below c.begun (s.progress.standing.own + 1)) ups
  runs : ByRun job done (Some s) v (Some y) downs ups v.runs_in
  keeps : Keeps c v ups made done
  bound : s.progress.opening_at + s.progress.opening_left ≤ length c.queue

new-facts : (job done then : List Act) (c : Machine) (s : Opened) (v : Service) (y : Serving) (downs : List Reply)
    (ups : List Parts) (made : List (InSession Made)) (d : Reply) (nonce : List ℕ)
    → (x : Takes job done c s v y downs ups made d)
    → then ≡ done_then (is_executed s.progress d.message (heard_by c s.progress d.message nonce)) done d
    → NewFacts v (all_made made s (executed c s.progress d.message (heard_by c s.progress d.message nonce))) then
    (executed c s.progress d.message (heard_by c s.progress d.message nonce)) s
new-facts job done then c s v y downs ups made d nonce x e = record {
  low = λ i w. low-of i (Contains-append_cases made (each_in_session s.progress.number run.made) i w);
  unmade = λ z n.
      (let q = done-none done d (is_executed s.progress d.message (heard_by c s.progress d.message nonce)) (sym e ∙ z)
      in
      more-none made s run n (x.keeps.unmade q.0 n) (finds q.1 (at_client.undone q.0)));
  before = λ k n r l.
      other-none made s run n (x.keeps.before k n r l)
      (λ same. (let less : k < s.progress.number = omega (arith, same, l) in
      finds (λ z. quiet k r less) (at_client.elsewhere k r less)));
  undone = λ z.
      (let q = done-none done d (is_executed s.progress d.message (heard_by c s.progress d.message nonce)) (sym e ∙ z)
      in
      (finds q.1 (at_client.undone q.0)).group);
  elsewhere = λ k r l. (finds (λ z. quiet k r l) (at_client.elsewhere k r l)).group;
}
  where
    run : Next
    run = executed c s.progress d.message (heard_by c s.progress d.message nonce)

    at_client : Open c v made done s
    at_client = x.keeps.client s x.open_is

    quiet : (k : ℕ) → v.runs_in ≡ Some k → k < s.progress.number → acts d.message.body ≡ []
    quiet k r l = quiet-elsewhere job done s v y downs ups v.runs_in c.begun k d x.next x.number x.first x.runs r l

    finds : (is_executed s.progress d.message (heard_by c s.progress d.message nonce) ≡ true
        → acts d.message.body ≡ [])
        → c.engine.group ≡ None
        → FindsNone (executed c s.progress d.message (heard_by c s.progress d.message nonce))
    finds a g = executed-none c s.progress d.message (heard_by c s.progress d.message nonce) a g

    low-of : (i : InSession Made)
        → Contains made i
        ⊎ Contains (each_in_session s.progress.number
        (executed c s.progress d.message (heard_by c s.progress d.message nonce)).made) i
        → UpTo v.session i.session
    low-of i (inl w) = x.keeps.low i w
    low-of i (inr w) =
        let at = (of-session s.progress.number
        (executed c s.progress d.message (heard_by c s.progress d.message nonce)).made i w).0 in
        subst (λ o. UpTo o i.session) (sym x.serves)
        (let number = x.next.number in let mine = x.number in omega (arith, at, number, mine))

-- ---- it goes on

-- old messages are not to come any more
none-older : (job done : List Act) (c : Machine) (s : Opened) (v : Service) (y : Serving) (downs : List Reply)
    (ups : List Parts) (made : List (InSession Made)) (d : Reply) (u : Parts)
    → Takes job done c s v y downs ups made d
    → StandsIn u ups
    → session_number u ≡ y.progress.number
    → u.header.msg ≡ y.progress.standing.last + 1
    → ⊥
none-older job done c s v y downs ups made d u x w n m =
    let less =
    (each-within (Below c.begun (s.progress.standing.own + 1)) ups u x.older w).id (n ∙ x.next.number) in
    let last = x.next.last in
    omega (arith, less, m, last)

goes-keeps : (job done then : List Act) (c c' : Machine) (s t : Opened) (v : Service) (y : Serving)
    (downs : List Reply) (ups : List Parts) (made all : List (InSession Made)) (d : Reply) (run : Next)
    → (x : Takes job done c s v y downs ups made d)
    → c'.session ≡ Some t
    → Numbers s.progress d.message.header.msg t
    → (going : Option Going)
    → (y.progress.is_over ≡ false → Fits y.sent going y.object)
    → IfSome going (WasFoundAs all y.progress.number)
    → Turns all y.progress.number going run c' t
    → NewFacts v all then run s
    → Keeps c' v (t.sent ∷ ups) all then
goes-keeps job done then c c' s t v y downs ups made all d run x e g going fits found turn facts = record {
  low = facts.low;
  none_yet = x.keeps.none_yet;
  unmade = facts.unmade;
  before = facts.before;
  client = λ z f.
      subst (Open c' v all then) (some-is t z (sym e ∙ f))
      (record {
        free = turn.streams.free;
        fresh = λ i.
            absurd (let last = g.last in let id = x.next.id in omega (arith, last, id, i));
        undone = λ i. turn.group ∙ facts.undone i;
        elsewhere = λ k r l.
            turn.group ∙ facts.elsewhere k r (let same = g.number in omega (arith, same, l));
        ball = λ z q n l.
            absurd
            (let same : y ≡ z = some-is y z (sym x.serves ∙ q) in
            let own = g.own in
            let last = x.next.last in
            let is = ap (λ (i : Serving). i.progress.standing.last) same in
            omega (arith, own, last, is, l));
      });
  pends = λ u w z q n m o.
      (let same : y ≡ z = some-is y z (sym x.serves ∙ q) in
      subst (λ i. Pend all c' i u) same
      (of u w (n ∙ ap (λ (i : Serving). i.progress.number) (sym same))
      (m ∙ ap (λ (i : Serving). i.progress.standing.last + 1) (sym same))
      (ap (λ (i : Serving). i.progress.is_over) same ∙ o)));
}
  where
    of : (u : Parts) → (u ≡ t.sent) ⊎ StandsIn u ups → session_number u ≡ y.progress.number
        → u.header.msg ≡ y.progress.standing.last + 1
        → y.progress.is_over ≡ false
        → Pend all c' y u
    of u (inl w) n m o =
        subst (Pend all c' y) (sym w)
        (record {
          going = going;
          later = commands_of c'.queue;
          flow = turn.streams.flow;
          fits = fits o;
          was_found = found;
          mine = λ z f i. refl;
        })
    of u (inr w) n m o = absurd (none-older job done c s v y downs ups made d u x w n m)

-- ---- or its session ends

ends-keeps : (job done then : List Act) (c c' : Machine) (s : Opened) (v : Service) (y : Serving) (downs : List Reply)
    (ups : List Parts) (made all : List (InSession Made)) (d : Reply) (run : Next) (m : Option Parts)
    → (x : Takes job done c s v y downs ups made d)
    → c'.session ≡ None
    → (going : Option Going)
    → (y.progress.is_over ≡ false → Fits y.sent going y.object)
    → IfSome going (WasFoundAs all y.progress.number)
    → Flow all y.progress.number going (commands_of c.queue)
    → IfSome m (λ u. Each IsSilent u.body)
    → NewFacts v all then run s
    → Keeps c' v (with_new ups m) all then
ends-keeps job done then c c' s v y downs ups made all d run m x e going fits found flow silent facts = record {
  low = facts.low;
  none_yet = x.keeps.none_yet;
  unmade = facts.unmade;
  before = facts.before;
  client = λ z f. absurd (none-some c'.session z e f);
  pends = λ u w z q n i o.
      (let same : y ≡ z = some-is y z (sym x.serves ∙ q) in
      subst (λ k. Pend all c' k u) same
      (of m silent u w (n ∙ ap (λ (k : Serving). k.progress.number) (sym same))
      (i ∙ ap (λ (k : Serving). k.progress.standing.last + 1) (sym same))
      (ap (λ (k : Serving). k.progress.is_over) same ∙ o)));
}
  where
    old : (u : Parts) → StandsIn u ups → session_number u ≡ y.progress.number
        → u.header.msg ≡ y.progress.standing.last + 1
        → Pend all c' y u
    old u w n i = absurd (none-older job done c s v y downs ups made d u x w n i)

    of : (m : Option Parts) → IfSome m (λ u. Each IsSilent u.body) → (u : Parts) → StandsIn u (with_new ups m)
        → session_number u ≡ y.progress.number
        → u.header.msg ≡ y.progress.standing.last + 1
        → y.progress.is_over ≡ false
        → Pend all c' y u
    of None k u w n i o = old u w n i
    of (Some f) k u (inr w) n i o = old u w n i
    of (Some f) k u (inl w) n i o =
        subst (Pend all c' y) (sym w)
        (record {
          going = going;
          later = commands_of c.queue;
          flow = silent-front all y.progress.number f.body (commands_of c.queue) k going flow;
          fits = fits o;
          was_found = found;
          mine = λ z g j. absurd (none-some c'.session z e g);
        })

-- ---- a message

later-going : (made more : List (InSession Made)) (n : ℕ) (o : Option Going) → IfSome o (WasFoundAs made n)
    → IfSome o (WasFoundAs (made ++ more) n)
later-going made more n None h = tt
later-going made more n (Some x) h = later-found made more n x h

outcome-keeps : (job done then : List Act) (c : Machine) (s : Opened) (v : Service) (y : Serving) (downs : List Reply)
    (ups : List Parts) (made : List (InSession Made)) (d : Reply) (run : Next) (out : Outcome)
    → (x : Takes job done c s v y downs ups made d)
    → Turned s.progress d.message.header.msg c.begun out
    → (ball : Ball made c y)
    → OutcomeTurns (all_made made s run) s.progress.number ball.going run out
    → NewFacts v (all_made made s run) then run s
    → Then v ups (all_made made s run) then (client.outcome_machine out) (client.outcome_answer out)
outcome-keeps job done then c s v y downs ups made d run (goes_on c') x g ball turn facts = by c'.session refl g.1 turn
  where
    by : (o : Option Opened) → c'.session ≡ o → OpenAs (Numbers s.progress d.message.header.msg) o
        → OpenAs (Turns (all_made made s run) s.progress.number ball.going run c') o
        → Keeps c' v (with_new ups (said (client.sent_in o))) (all_made made s run) then
    by None e h k = absurd h
    by (Some t) e h k =
        goes-keeps job done then c c' s t v y downs ups made (all_made made s run) d run x e h ball.going ball.fits
        (later-going made (each_in_session s.progress.number run.made) y.progress.number ball.going ball.was_found)
        (subst (λ i. Turns (all_made made s run) i ball.going run c' t) (x.number ∙ sym x.next.number) k) facts
outcome-keeps job done then c s v y downs ups made d run (ends c' end) x g ball turn facts =
    ends-keeps job done then c c' s v y downs ups made (all_made made s run) d run
    (said (client.ended end c'.farewell)) x g.1 ball.going ball.fits
    (later-going made (each_in_session s.progress.number run.made) y.progress.number ball.going ball.was_found)
    (flow-later made (each_in_session s.progress.number run.made) y.progress.number ball.going (commands_of c.queue)
    ball.flow)
    turn facts

taken-keeps : (job : List Act) (executed_before : List (InSession Deed)) (c : Machine) (s : Opened) (v : Service)
    (y : Serving) (downs : List Reply) (ups : List Parts) (made : List (InSession Made)) (d : Reply) (nonce : List ℕ)
    → Takes job (deeds_acts executed_before) c s v y downs ups made d
    → Then v ups (made ++ made_in c s.progress d.message nonce)
    (deeds_acts (executed_before ++ deeds_in c s.progress d.message nonce))
    (client.outcome_machine (accepts c s.progress d.message nonce))
    (client.outcome_answer (accepts c s.progress d.message nonce))
taken-keeps job executed_before c s v y downs ups made d nonce x =
    let done = deeds_acts executed_before in
    let run = executed c s.progress d.message (heard_by c s.progress d.message nonce) in
    let o = x.keeps.client s x.open_is in
    let mine : y.progress.number ≡ s.progress.number = x.next.number ∙ sym x.number in
    let last = x.next.last in
    let ball = o.ball y x.serves mine (omega (arith, last)) in
    outcome-keeps job done (deeds_acts (executed_before ++ deeds_in c s.progress d.message nonce)) c s v y downs ups
    made
    d run (accepts c s.progress d.message nonce) x (message-turned c s.progress d.message nonce) ball
    (message-turns made ball.going c s.progress d.message nonce
    (subst (λ i. Flow made i ball.going (commands_of c.queue)) mine ball.flow) o.free x.bound)
    (new-facts job done (deeds_acts (executed_before ++ deeds_in c s.progress d.message nonce)) c s v y downs ups made d
    nonce x (run-done c s d nonce executed_before))

-- the server whose message it is
served-keeps : (job : List Act) (executed_before : List (InSession Deed)) (c : Machine) (s : Opened) (v : Service)
    (o : Option Serving) (downs : List Reply) (ups : List Parts) (made : List (InSession Made)) (k : ℕ) (d : Reply)
    (nonce : List ℕ)
    → c.session ≡ Some s
    → v.session ≡ o
    → slice_get downs k ≡ Some d
    → client.takes_message (Some s) d.message ≡ true
    → Holds c.begun (Some s) o downs ups
    → ByRun job (deeds_acts executed_before) (Some s) v o downs ups v.runs_in
    → Keeps c v ups made (deeds_acts executed_before)
    → s.progress.opening_at + s.progress.opening_left ≤ length c.queue
    → NextOk c.begun s o d
    → Then v ups (made ++ made_in c s.progress d.message nonce)
    (deeds_acts (executed_before ++ deeds_in c s.progress d.message nonce))
    (client.outcome_machine (accepts c s.progress d.message nonce))
    (client.outcome_answer (accepts c s.progress d.message nonce))
served-keeps job executed_before c s v None downs ups made k d nonce e f p t h r g l x = absurd x
served-keeps job executed_before c s v (Some y) downs ups made k d nonce e f p t h r g l x =
    taken-keeps job executed_before c s v y downs ups made d nonce
    (record {
      open_is = e;
      serves = f;
      next = x;
      number = h.client_ok.number;
      own = h.client_ok.own;
      first = (takes-newest c.begun (Some s) (Some y) downs ups k d p h t).0;
      older = top ups c.begun s.progress.standing.own h.client_ok.newest h.ups_fall;
      runs = r;
      keeps = g;
      bound = l;
    })

same-lists : (c : Machine) (v : Service) (ups : List Parts) (made : List (InSession Made))
    (executed_before : List (InSession Deed))
    → Keeps c v ups made (deeds_acts executed_before)
    → Keeps c v ups (made ++ []) (deeds_acts (executed_before ++ []))
same-lists c v ups made executed_before h =
    subst (λ m. Keeps c v ups m (deeds_acts (executed_before ++ []))) (sym (append-nil made))
    (subst (λ l. Keeps c v ups made (deeds_acts l)) (sym (append-nil executed_before)) h)

down-keeps : (job : List Act) (executed_before : List (InSession Deed)) (c : Machine) (o : Option Opened) (v : Service)
    (downs : List Reply) (ups : List Parts) (made : List (InSession Made)) (k : ℕ) (d : Reply) (nonce : List ℕ)
    (kept : Option Parts)
    → c.session ≡ o
    → slice_get downs k ≡ Some d
    → Holds c.begun o v.session downs ups
    → Placed job (deeds_acts executed_before) o v downs ups
    → IsReadyMachine c
    → Keeps c v ups made (deeds_acts executed_before)
    → Then v ups (made ++ made_by c o d.message nonce)
    (deeds_acts (executed_before ++ deeds_by c o d.message nonce))
    (cond (client.takes_message o d.message) (client.outcome_machine (client.message_outcome c o d.message nonce)) c)
    (cond (client.takes_message o d.message) (client.outcome_answer (client.message_outcome c o d.message nonce))
    (client.message_refusal o d.message kept))
down-keeps job executed_before c None v downs ups made k d nonce kept e p g h r x =
    same-lists c v ups made executed_before x
down-keeps job executed_before c (Some s) v downs ups made k d nonce kept e p g h r x =
    by (client.takes_message (Some s) d.message) refl
  where
    by : (t : Bool) → client.takes_message (Some s) d.message ≡ t
        → Then v ups (made ++ cond t (made_in c s.progress d.message nonce) [])
        (deeds_acts (executed_before ++ cond t (deeds_in c s.progress d.message nonce) []))
        (cond t (client.outcome_machine (accepts c s.progress d.message nonce)) c)
        (cond t (client.outcome_answer (accepts c s.progress d.message nonce))
        (client.message_refusal (Some s) d.message kept))
    by true t =
        let ready : IsReadyProgress c s.progress =
        subst (λ (o : Option Opened). IfSome o (λ (z : Opened). IsReadyProgress c z.progress)) e r.session in
        served-keeps job executed_before c s v v.session downs ups made k d nonce e refl p t g h.runs x ready.opening
        (taken-next c.begun s v.session downs ups d g (picked downs k d p) t)
    by false t =
        unsaid v ups (made ++ []) (deeds_acts (executed_before ++ [])) c
        (client.message_refusal (Some s) d.message kept)
        (refusal-said (Some s) d.message kept) (same-lists c v ups made executed_before x)

pub message-keeps : (job : List Act) (executed_before : List (InSession Deed)) (c : Machine) (v : Service)
    (downs : List Reply) (ups : List Parts) (made : List (InSession Made)) (k : ℕ) (d : Reply) (nonce : List ℕ)
    → slice_get downs k ≡ Some d
    → Holds c.begun c.session v.session downs ups
    → Placed job (deeds_acts executed_before) c.session v downs ups
    → IsReadyMachine c
    → Keeps c v ups made (deeds_acts executed_before)
    → Then v ups (made ++ made_by c c.session d.message nonce)
    (deeds_acts (executed_before ++ deeds_by c c.session d.message nonce))
    (client_runs.next c (client.message (Ok d.message) nonce))
    (client_runs.answer_now c (client.message (Ok d.message) nonce))
unfolding client_runs.next client_runs.answer_now client.takes client.after client.taken_answer client.refusal
message-keeps job executed_before c v downs ups made k d nonce p g h r x =
    down-keeps job executed_before c c.session v downs ups made k d nonce (client_runs.kept_in c.session) refl p g h r x
