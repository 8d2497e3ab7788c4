-- An event of the client keeps what both ends have of the job, and what they know of refusals.
use Rattle.std.proofs.Common.{◌≡◌, ◌<◌, ◌≤◌, ◌+◌, ◌^◌, ℕ, Bool, true, false, cond, List, [], ◌∷◌}
use Rattle.std.proofs.Common.{◌++◌, Option, None, Some, IfSome, refl, sym, ◌∙◌, ap, subst, arith, ◌⊎◌, inl, inr}
use Rattle.std.proofs.Common.{nat_lt}
use Rattle.std.specs.Prelude.{Ok, slice_get}
use Rattle.std.proofs.lemmas.List.{append-nil}
use Rattle.syncml_types.specs.Message.{Parts}
use Rattle.dm_headers.specs.Checks.{fault_of}
use Rattle.dm_tree.specs.declared.nodes.Stamp.{Stamp}
use Rattle.dm_pack.specs.Entries.{Entry}
use Rattle.dm_machine.specs.declared.kinds.Initiator.{Initiator}
use Rattle.dm_machine.specs.Machine.{Machine, Session as Opened}
use Rattle.dm_machine.specs.Messages.{Outcome, goes_on, ends, begins, accepts}
use Rattle.dm_machine.specs.Messages.{ends_update}
use Rattle.dm_machine.specs.Statuses.{is_executed}
use Rattle.dm_machine.specs.Events as client
use Rattle.dm_machine.specs.History as client_runs
use Rattle.dm_machine.specs.Ready.{IsReadyMachine, IsReadyProgress, IsReadyMessage}
use Rattle.dm_service.specs.Service.{Service, Session as Serving}
use Rattle.dm_world.specs.Deeds.{Deed, all_deeds}
use Rattle.dm_world.specs.World.{Reply, InSession as Within}
use Rattle.dm_world.specs.World.{with_new, said}
use Rattle.dm_world.specs.World.{each_in_session, heard_by, deeds_in, deeds_by, run}
use Rattle.dm_world.specs.Acts.{Act}
use Rattle.dm_world.specs.Acts.{deeds_acts}
use Rattle.dm_world.proofs.Lists.{both-ways, Each, each-within, picked}
use Rattle.dm_world.proofs.Numbers.{session_number, HasNumbers, sent-numbered, lt-of}
use Rattle.dm_world.proofs.Client.{OpenAs, MaybeSent, Begun, Turns, Turned, begins-begun, message-turned}
use Rattle.dm_world.proofs.Lockstep.{UpOk, DownOk, Below, Holds, ServerOk, NextOk, top}
use Rattle.dm_world.proofs.Happens.{taken-next, refusal-said, loss-said}
use Rattle.dm_world.proofs.Turns.{takes-newest}
use Rattle.dm_world.proofs.Executes.{done-append, executes_all}
use Rattle.dm_world.proofs.Calm.{Calm, body-calm, body-mild}
use Rattle.dm_world.proofs.Calm.{says}
use Rattle.dm_world.proofs.Refusals.{Quiet, OpenFine, SessionFine, begins-quiet, TurnIs as TurnFine, IfSaid, FineTurn}
use Rattle.dm_world.proofs.Refusals.{message-fine, acts-quiet}
use Rattle.dm_world.proofs.Position.{seen, sent_by, NewestSays, Silent, Placed, Takes, TurnIs, IsLeaving}
use Rattle.dm_world.proofs.Position.{done_then}
use Rattle.dm_world.proofs.Position.{placed-opened, placed-turned}
use Rattle.dm_world.proofs.Position.{placed-ended}
use Rattle.dm_ends.specs.Commands.{origin_of}

-- a message of the client says of the server's first message that it was refused, or of the last one before it; and its
-- own first says nothing
pub record UpSays (u : Parts) : Type 0 where
  pub past : (j : ℕ) → says j u ≡ true → (j ≡ 1) ⊎ (j < u.header.msg)
  pub first : u.header.msg ≡ 1 → (j : ℕ) → says j u ≡ false

-- where a message says that the server's last was refused, that was its first, or it knows of a refusal
abbrev pub Known : Option Serving → List Parts → Type 0
Known None ups = Unit {0}
Known (Some y) ups =
    Each (λ (u : Parts). session_number u ≡ y.progress.number → says (sent_by y) u ≡ true
    → y.progress.standing.we_failed ≡ false → sent_by y ≤ 1) ups

-- a client that refused a message has told so, or the server will take its newest
abbrev pub Aware : Option Opened → Option Serving → List Parts → Type 0
Aware None v ups = Unit {0}
Aware (Some s) None ups = Unit {0}
Aware (Some s) (Some y) ups =
    s.progress.number ≡ y.progress.number → s.progress.standing.they_failed ≡ true
    → (y.progress.standing.we_failed ≡ true) ⊎ ((seen s ≡ 1) × (sent_by y ≤ 1) × NewestSays 1 true ups)

-- ---- the client

pub record GoesOn (job done : List Act) (v : Service) (downs : List Reply) (ups : List Parts) (c : Machine)
    (a : client.Answer) : Type 0 where
  pub placed : Placed job done c.session v downs (with_new ups (said a))
  pub quiet : Quiet c
  pub says_fine : Each UpSays (with_new ups (said a))
  pub known : Known v.session (with_new ups (said a))
  pub aware : Aware c.session v.session (with_new ups (said a))

stays-so : (job done : List Act) (v : Service) (downs : List Reply) (ups : List Parts) (c : Machine) (a : client.Answer)
    → said a ≡ None
    → Placed job done c.session v downs ups
    → Quiet c
    → Each UpSays ups
    → Known v.session ups
    → Aware c.session v.session ups
    → GoesOn job done v downs ups c a
stays-so job done v downs ups c a e p q f k w = record {
  placed = subst (λ m. Placed job done c.session v downs (with_new ups m)) (sym e) p;
  quiet = q;
  says_fine = subst (λ m. Each UpSays (with_new ups m)) (sym e) f;
  known = subst (λ m. Known v.session (with_new ups m)) (sym e) k;
  aware = subst (λ m. Aware c.session v.session (with_new ups m)) (sym e) w;
}

known-new : (b : ℕ) (y : Option Serving) (ups : List Parts) (m : Parts) (n : ℕ) → ServerOk b y → b < n
    → session_number m ≡ n
    → Known y ups
    → Known y (m ∷ ups)
known-new b None ups m n k l e h = tt
known-new b (Some y) ups m n k l e h =
    let number = k.number in
    ((λ f g w. absurd (omega (arith, f, e, l, number))), h)

aware-new : (t : Opened) (y : Option Serving) (ups : List Parts) → seen t ≡ 0
    → (t.progress.standing.they_failed ≡ true → 0 < seen t)
    → Aware (Some t) y ups
aware-new t None ups e rose = tt
aware-new t (Some y) ups e rose = λ f g. absurd (let some = rose g in omega (arith, e, some))

opened-goes : (job done : List Act) (o o' : Option Opened) (v : Service) (downs : List Reply) (ups : List Parts)
    (b n : ℕ) (queue : List Entry)
    → n < 2 ^ 32
    → ServerOk b v.session
    → b < n
    → OpenAs (Begun n) o'
    → OpenAs (λ (t : Opened). Each Calm t.sent.body) o'
    → OpenFine queue o'
    → Placed job done o v downs ups
    → Each UpSays ups
    → Known v.session ups
    → Placed job done o' v downs (with_new ups (said (client.sent_in o')))
    × Each UpSays (with_new ups (said (client.sent_in o')))
    × Known v.session (with_new ups (said (client.sent_in o')))
    × Aware o' v.session (with_new ups (said (client.sent_in o')))
opened-goes job done o None v downs ups b n queue max k l g c q h f w = absurd g
opened-goes job done o (Some t) v downs ups b n queue max k l g c q h f w =
    let z = sent-numbered n 1 t.sent (omega (arith, l)) max g.sent in (
      placed-opened job done o v downs ups b t t.sent k (let e = g.number in omega (arith, e, l))
          (z.session ∙ sym g.number) h,
      (
        record {
          past = λ j e. absurd (let q = body-calm j t.sent.body c in cc);
          first = λ _ j. body-calm j t.sent.body c;
        },
        f,
      ),
      known-new b v.session ups t.sent n k l z.session w,
      aware-new t v.session (t.sent ∷ ups) g.last q.rose,
    )

pub begins-goes : (job done : List Act) (c : Machine) (v : Service) (downs : List Reply) (ups : List Parts)
    (account : ℕ) (kind : Initiator) (n : ℕ)
    → n < 2 ^ 32
    → ServerOk c.begun v.session
    → Placed job done c.session v downs ups
    → Quiet c
    → Each UpSays ups
    → Known v.session ups
    → Aware c.session v.session ups
    → GoesOn job done v downs ups (client_runs.next c (client.opened account kind n))
    (client_runs.answer_now c (client.opened account kind n))
unfolding client_runs.next client_runs.answer_now client.takes client.after client.taken_answer client.refusal
begins-goes job done c v downs ups account kind n max k h q f w a =
    both-ways (GoesOn job done v downs ups) (nat_lt c.begun n) (begins c account kind n) c
    (client.sent_in (begins c account kind n).session) (client.exhausted c.begun)
    (λ t.
    (let x = begins-quiet c account kind n in
    let y =
    opened-goes job done c.session (begins c account kind n).session v downs ups c.begun n
    (begins c account kind n).queue max k (lt-of c.begun n t) (begins-begun c account kind n) x.1 x.0.session h
    f
    w in
    record { placed = y.0; quiet = x.0; says_fine = y.1; known = y.2; aware = y.3 }))
    (λ t. record { placed = h; quiet = q; says_fine = f; known = w; aware = a })

-- ---- the client takes a message

-- what is executed of a message that is run, or not
abbrev deeds_if : Bool → ℕ → Parts → List (Within Deed)
deeds_if run n m = cond run (each_in_session n (all_deeds (origin_of m) m.body)) []

turn-is : (s t : Opened) (d : Reply) (run : Bool)
    → TurnFine s.progress.standing d.message.header.msg run t
    → TurnIs s d run t t.sent
turn-is s t d true (m, inl h) = (h.1, h.2)
turn-is s t d false (m, inl h) = absurd (let z = h.0 in cc)
turn-is s t d true (m, inr h) = absurd (let z = h.0 in cc)
turn-is s t d false (m, inr h) = (h.2, h.4, h.1)

known-turned : (b : ℕ) (s t : Opened) (y : Option Serving) (ups : List Parts) (d : Reply) (run : Bool) → NextOk b s y d
    → TurnFine s.progress.standing d.message.header.msg run t
    → Known y ups
    → Known y (t.sent ∷ ups)
known-turned b s t None ups d run x k h = absurd x
known-turned b s t (Some y) ups d run x k h = ((λ e q w. by k.1 (ap (λ i. says i t.sent) (sym x.own) ∙ q)), h)
  where
    by : ((run ≡ true) × (says d.message.header.msg t.sent ≡ false) × (t.progress.standing.accepted ≡ true)
        × (t.progress.standing.they_failed ≡ s.progress.standing.they_failed))
        ⊎ ((run ≡ false) × (says d.message.header.msg t.sent ≡ true) × (s.progress.standing.accepted ≡ false)
        × (seen s ≡ 0) × (d.message.header.msg ≡ 1))
        → says d.message.header.msg t.sent ≡ true
        → sent_by y ≤ 1
    by (inl i) q = absurd (let z = i.1 in cc)
    by (inr i) q = let one = i.4 in let own = x.own in omega (arith, one, own)

aware-turned : (b : ℕ) (s t : Opened) (y : Option Serving) (ups : List Parts) (d : Reply) (run : Bool)
    → s.progress.number ≡ b
    → NextOk b s y d
    → TurnFine s.progress.standing d.message.header.msg run t
    → seen t ≡ d.message.header.msg
    → Aware (Some s) y ups
    → Aware (Some t) y (t.sent ∷ ups)
aware-turned b s t None ups d run sb x k tl h = absurd x
aware-turned b s t (Some y) ups d run sb x k tl h = λ e q. by k.1 q
  where
    old : (y.progress.standing.we_failed ≡ true) ⊎ ((seen s ≡ 1) × (sent_by y ≤ 1) × NewestSays 1 true ups)
        → (y.progress.standing.we_failed ≡ true)
        ⊎ ((seen t ≡ 1) × (sent_by y ≤ 1) × NewestSays 1 true (t.sent ∷ ups))
    old (inl z) = inl z
    old (inr z) = absurd (let id = x.id in let own = x.own in let one = z.0 in let few = z.1 in omega
        (arith, id, own, one, few))

    by : ((run ≡ true) × (says d.message.header.msg t.sent ≡ false) × (t.progress.standing.accepted ≡ true)
        × (t.progress.standing.they_failed ≡ s.progress.standing.they_failed))
        ⊎ ((run ≡ false) × (says d.message.header.msg t.sent ≡ true) × (s.progress.standing.accepted ≡ false)
        × (seen s ≡ 0) × (d.message.header.msg ≡ 1))
        → t.progress.standing.they_failed ≡ true
        → (y.progress.standing.we_failed ≡ true)
        ⊎ ((seen t ≡ 1) × (sent_by y ≤ 1) × NewestSays 1 true (t.sent ∷ ups))
    by (inl i) q = old (h (sb ∙ sym x.number) (sym i.3 ∙ q))
    by (inr i) q =
        let one = i.4 in
        let own = x.own in
        inr (tl ∙ one, omega (arith, one, own), ap (λ j. says j t.sent) (sym one) ∙ i.1)

goes-on-with : (job : List Act) (done : List (Within Deed)) (s : Opened) (v : Service) (downs : List Reply)
    (ups : List Parts) (b : ℕ) (d : Reply) (run : Bool) (o : Option Opened)
    → Takes s v downs ups b d
    → s.progress.standing.own ≡ seen s + 1
    → OpenAs (Turns s.progress d.message.header.msg) o
    → OpenAs (TurnFine s.progress.standing d.message.header.msg run) o
    → Placed job (done_then run (deeds_acts done) d) o v downs (with_new ups (said (client.sent_in o)))
    ⊎ Placed job (deeds_acts done) (Some s) v downs ups
    → Each UpSays ups
    → Known v.session ups
    → Aware (Some s) v.session ups
    → Placed job (done_then run (deeds_acts done) d) o v downs (with_new ups (said (client.sent_in o)))
    × Each UpSays (with_new ups (said (client.sent_in o)))
    × Known v.session (with_new ups (said (client.sent_in o)))
    × Aware o v.session (with_new ups (said (client.sent_in o)))
goes-on-with job done s v downs ups b d run None x so g m h f w a = absurd g
goes-on-with job done s v downs ups b d run (Some t) x so g m h f w a = (
  placed h,
  (
    record {
      past = λ j e. inl (body-mild j t.sent.body m.0 e);
      first = λ e. absurd (let id = g.sent.id in omega (arith, e, id, so));
    },
    f,
  ),
  known-turned b s t v.session ups d run x.next m w,
  aware-turned b s t v.session ups d run x.number x.next m g.last a,
)
  where
    placed : Placed job (done_then run (deeds_acts done) d) (Some t) v downs (t.sent ∷ ups)
        ⊎ Placed job (deeds_acts done) (Some s) v downs ups
        → Placed job (done_then run (deeds_acts done) d) (Some t) v downs (t.sent ∷ ups)
    placed (inl h) = h
    placed (inr h) = placed-turned job (deeds_acts done) s t v downs ups b d run t.sent x g.last (turn-is s t d run m) h

next-id : (b : ℕ) (s : Opened) (y : Option Serving) (d : Reply) → NextOk b s y d → d.message.header.msg ≡ seen s + 1
next-id b s None d x = absurd x
next-id b s (Some y) d x = x.id

leaving : (s : Opened) (d : Reply) (run : Bool) (m : Option Parts)
    → IfSaid s.progress.standing d.message.header.msg run m
    → IsLeaving s d run m
leaving s d run None k = tt
leaving s d run (Some m) k = (k.0, λ q. (k.1 d.message.header.msg q).1)

known-ended : (b : ℕ) (s : Opened) (y : Option Serving) (ups : List Parts) (d : Reply) (run : Bool) (m : Option Parts)
    → s.progress.number ≡ b
    → NextOk b s y d
    → IfSaid s.progress.standing d.message.header.msg run m
    → Known y ups
    → Aware (Some s) y ups
    → Known y (with_new ups m)
known-ended b s None ups d run m sb x k h a = absurd x
known-ended b s (Some y) ups d run None sb x k h a = h
known-ended b s (Some y) ups d run (Some m) sb x k h a = ((λ e q w. few q w), h)
  where
    few : says (sent_by y) m ≡ true → y.progress.standing.we_failed ≡ false → sent_by y ≤ 1
    few q w = by (k.1 (sent_by y) q).2
      where
        told : (y.progress.standing.we_failed ≡ true) ⊎ ((seen s ≡ 1) × (sent_by y ≤ 1) × NewestSays 1 true ups)
            → sent_by y ≤ 1
        told (inl z) = absurd (cc)
        told (inr z) = z.1

        by : (seen s ≡ 0) ⊎ (s.progress.standing.they_failed ≡ true) → sent_by y ≤ 1
        by (inl z) = let id = x.id in let own = x.own in omega (arith, id, own, z)
        by (inr z) = told (a (sb ∙ sym x.number) z)

ends-with : (job : List Act) (done : List (Within Deed)) (s : Opened) (v : Service) (downs : List Reply)
    (ups : List Parts) (b : ℕ) (d : Reply) (run : Bool) (p : Option Parts)
    → Takes s v downs ups b d
    → s.progress.standing.own ≡ seen s + 1
    → MaybeSent s.progress.number (s.progress.standing.own + 1) p
    → IfSaid s.progress.standing d.message.header.msg run p
    → Placed job (deeds_acts done) (Some s) v downs ups
    → Each UpSays ups
    → Known v.session ups
    → Aware (Some s) v.session ups
    → Placed job (done_then run (deeds_acts done) d) None v downs (with_new ups p)
    × Each UpSays (with_new ups p)
    × Known v.session (with_new ups p)
ends-with job done s v downs ups b d run p x so i k h f w a = (
  placed-ended job (deeds_acts done) s v downs ups b d run p x (leaving s d run p k) h,
  by p i k,
  known-ended b s v.session ups d run p x.number x.next k w a,
)
  where
    by : (p : Option Parts) → MaybeSent s.progress.number (s.progress.standing.own + 1) p
        → IfSaid s.progress.standing d.message.header.msg run p
        → Each UpSays (with_new ups p)
    by None i k = f
    by (Some m) i k =
        let id = i.id in
        let next = next-id b s v.session d x.next in (
          record {
            past = λ j q. (let is = (k.1 j q).0 in inr (omega (arith, is, id, so, next)));
            first = λ e. absurd (omega (arith, e, id, so));
          },
          f,
        )

pub run-done : (c : Machine) (s : Opened) (d : Reply) (nonce : List ℕ) (done : List (Within Deed))
    → deeds_acts (done ++ deeds_in c s.progress d.message nonce)
    ≡ done_then (is_executed s.progress d.message (heard_by c s.progress d.message nonce)) (deeds_acts done) d
run-done c s d nonce done = by (is_executed s.progress d.message (heard_by c s.progress d.message nonce)) refl
  where
    by : (b : Bool) → is_executed s.progress d.message (heard_by c s.progress d.message nonce) ≡ b
        → deeds_acts (done ++ deeds_if b s.progress.number d.message) ≡ done_then b (deeds_acts done) d
    by true e =
        done-append done (deeds_if true s.progress.number d.message)
        ∙ ap (λ x. deeds_acts done ++ x)
        (ap (λ b. deeds_acts (deeds_if b s.progress.number d.message)) (sym e)
        ∙ executes_all c s.progress d.message nonce e)
    by false e = ap deeds_acts (append-nil done)

outcome-goes : (job : List Act) (done done' : List (Within Deed)) (s : Opened) (v : Service) (downs : List Reply)
    (ups : List Parts) (b : ℕ) (d : Reply) (run : Bool) (x : Outcome)
    → deeds_acts done' ≡ done_then run (deeds_acts done) d
    → Takes s v downs ups b d
    → s.progress.standing.own ≡ seen s + 1
    → Turned s.progress d.message.header.msg b x
    → FineTurn s.progress.standing d.message.header.msg run x
    → Placed job (deeds_acts done) (Some s) v downs ups
    → Each UpSays ups
    → Known v.session ups
    → Aware (Some s) v.session ups
    → GoesOn job (deeds_acts done') v downs ups (client.outcome_machine x) (client.outcome_answer x)
outcome-goes job done done' s v downs ups b d run (goes_on c) e x so t q h f w a =
    let y = goes-on-with job done s v downs ups b d run c.session x so t.1 q.1 (inr h) f w a in
    record {
      placed = subst (λ z. Placed job z c.session v downs (with_new ups (said (client.sent_in c.session)))) (sym e) y.0;
      quiet = q.0;
      says_fine = y.1;
      known = y.2;
      aware = y.3;
    }
outcome-goes job done done' s v downs ups b d run (ends c end) e x so t q h f w a =
    let y = ends-with job done s v downs ups b d run (said (client.ended end c.farewell)) x so t.2 q.1 h f w a in
    record {
      placed =
          subst (λ o. Placed job (deeds_acts done') o v downs (with_new ups (said (client.ended end c.farewell))))
          (sym t.1)
          (subst (λ z. Placed job z None v downs (with_new ups (said (client.ended end c.farewell)))) (sym e) y.0);
      quiet = q.0;
      says_fine = y.1;
      known = y.2;
      aware =
          subst (λ o. Aware o v.session (with_new ups (said (client.ended end c.farewell)))) (sym t.1) tt;
    }

down-body : (v : Option Serving) (ups : List Parts) (d : Reply) → DownOk v ups d
    → (fault_of d.message ≡ None) × HasNumbers d.message
down-body None ups d h = absurd h
down-body (Some y) ups d h = (h.sound, h.body)

-- no message of the session speaks of one that wasn't taken yet
old-silent : (b : ℕ) (s : Opened) (v : Option Serving) (ups : List Parts) (k : ℕ) → s.progress.standing.own ≡ seen s + 1
    → k ≡ seen s + 1
    → Each (UpOk b v) ups
    → Each (Below b (s.progress.standing.own + 1)) ups
    → Each UpSays ups
    → Silent b k ups
old-silent b s v [] k so ks h g f = tt
old-silent b s v (u ∷ us) k so ks h g f = ((λ e. by e (says k u) refl), old-silent b s v us k so ks h.1 g.1 f.1)
  where
    by : session_number u ≡ b → (c : Bool) → says k u ≡ c → says k u ≡ false
    by e false q = q
    by e true q = at (f.0.past k q)
      where
        at : (k ≡ 1) ⊎ (k < u.header.msg) → says k u ≡ false
        at (inl one) =
            let less = g.0.id e in
            let some = h.0.first in
            f.0.first (omega (arith, less, some, so, ks, one)) k
        at (inr more) = let less = g.0.id e in absurd (omega (arith, less, more, so, ks))

down-goes : (job : List Act) (done : List (Within Deed)) (c : Machine) (o : Option Opened) (v : Service)
    (downs : List Reply) (ups : List Parts) (k : ℕ) (d : Reply) (nonce : List ℕ) (kept : Option Parts)
    → c.session ≡ o
    → slice_get downs k ≡ Some d
    → Holds c.begun o v.session downs ups
    → Placed job (deeds_acts done) o v downs ups
    → Quiet c
    → IsReadyMachine c
    → IsReadyMessage d.message nonce
    → Each UpSays ups
    → Known v.session ups
    → Aware o v.session ups
    → GoesOn job (deeds_acts (done ++ deeds_by c o d.message nonce)) v downs ups
    (cond (client.takes_message o d.message) (client.outcome_machine (client.message_outcome c o d.message nonce)) c)
    (cond (client.takes_message o d.message) (client.outcome_answer (client.message_outcome c o d.message nonce))
    (client.message_refusal o d.message kept))
down-goes job done c None v downs ups k d nonce kept e p g h q r rm f w a =
    stays-so job (deeds_acts (done ++ [])) v downs ups c client.no_session refl
    (subst (λ o. Placed job (deeds_acts (done ++ [])) o v downs ups) (sym e)
    (subst (λ z. Placed job (deeds_acts z) None v downs ups) (sym (append-nil done)) h)) q f w
    (subst (λ o. Aware o v.session ups) (sym e) a)
down-goes job done c (Some s) v downs ups k d nonce kept e p g h q r rm f w a =
    by (client.takes_message (Some s) d.message) refl
  where
    by : (t : Bool) → client.takes_message (Some s) d.message ≡ t
        → GoesOn job (deeds_acts (done ++ cond t (deeds_in c s.progress d.message nonce) [])) v downs ups
        (cond t (client.outcome_machine (accepts c s.progress d.message nonce)) c)
        (cond t (client.outcome_answer (accepts c s.progress d.message nonce))
        (client.message_refusal (Some s) d.message kept))
    by true t =
        let x = taken-next c.begun s v.session downs ups d g (picked downs k d p) t in
        let b = down-body v.session ups d (each-within (DownOk v.session ups) downs d g.downs_ok (picked downs k d p))
        in
        let so = g.client_ok.own in
        let next = next-id c.begun s v.session d x in
        let ready : IsReadyProgress c s.progress =
        subst (λ (o : Option Opened). IfSome o (λ (z : Opened). IsReadyProgress c z.progress)) e r.session in
        let fine : SessionFine c.queue s.progress.standing = subst (OpenFine c.queue) e q.session in
        outcome-goes job done (done ++ deeds_in c s.progress d.message nonce) s v downs ups c.begun d
        (is_executed s.progress d.message (heard_by c s.progress d.message nonce))
        (accepts c s.progress d.message nonce) (run-done c s d nonce done)
        (record {
          number = g.client_ok.number;
          next = x;
          first = (takes-newest c.begun (Some s) v.session downs ups k d p g t).0;
          old = old-silent c.begun s v.session ups d.message.header.msg so next g.ups_ok
              (top ups c.begun s.progress.standing.own g.client_ok.newest g.ups_fall) f;
        })
        so (message-turned c s.progress d.message nonce)
        (message-fine c s d.message nonce e q fine r ready rm b.0 b.1 next) h f w a
    by false t =
        stays-so job (deeds_acts (done ++ [])) v downs ups c (client.message_refusal (Some s) d.message kept)
        (refusal-said (Some s) d.message kept)
        (subst (λ o. Placed job (deeds_acts (done ++ [])) o v downs ups) (sym e)
        (subst (λ z. Placed job (deeds_acts z) (Some s) v downs ups) (sym (append-nil done)) h)) q f w
        (subst (λ o. Aware o v.session ups) (sym e) a)

pub message-goes : (job : List Act) (done : List (Within Deed)) (c : Machine) (v : Service) (downs : List Reply)
    (ups : List Parts) (k : ℕ) (d : Reply) (nonce : List ℕ)
    → slice_get downs k ≡ Some d
    → Holds c.begun c.session v.session downs ups
    → Placed job (deeds_acts done) c.session v downs ups
    → Quiet c
    → IsReadyMachine c
    → IsReadyMessage d.message nonce
    → Each UpSays ups
    → Known v.session ups
    → Aware c.session v.session ups
    → GoesOn job (deeds_acts (done ++ deeds_by c c.session d.message nonce)) v downs ups
    (client_runs.next c (client.message (Ok d.message) nonce))
    (client_runs.answer_now c (client.message (Ok d.message) nonce))
unfolding client_runs.next client_runs.answer_now client.takes client.after client.taken_answer client.refusal
message-goes job done c v downs ups k d nonce p g h q r rm f w a =
    down-goes job done c c.session v downs ups k d nonce (client_runs.kept_in c.session) refl p g h q r rm f w a

pub act-goes : (job done : List Act) (c : Machine) (v : Service) (downs : List Reply) (ups : List Parts) (ok : Bool)
    → Placed job done c.session v downs ups
    → Quiet c
    → Each UpSays ups
    → Known v.session ups
    → Aware c.session v.session ups
    → GoesOn job done v downs ups (client_runs.next c (client.act ok)) (client_runs.answer_now c (client.act ok))
unfolding client_runs.next client_runs.answer_now client.after client.taken_answer client.refusal ends_update
act-goes job done c v downs ups ok h q f w a =
    both-ways (GoesOn job done v downs ups) (client.takes c (client.act ok)) (ends_update c ok) c client.acted
    client.not_now
    (λ t. record { placed = h; quiet = acts-quiet c ok q; says_fine = f; known = w; aware = a })
    (λ t. record { placed = h; quiet = q; says_fine = f; known = w; aware = a })

pub clock-goes : (job done : List Act) (c : Machine) (v : Service) (downs : List Reply) (ups : List Parts)
    (stamp : Stamp)
    → Placed job done c.session v downs ups
    → Quiet c
    → Each UpSays ups
    → Known v.session ups
    → Aware c.session v.session ups
    → GoesOn job done v downs ups (client_runs.next c (client.clock stamp))
    (client_runs.answer_now c (client.clock stamp))
unfolding client_runs.next client_runs.answer_now client.takes client.after client.taken_answer
clock-goes job done c v downs ups stamp h q f w a = record {
  placed = h;
  quiet = record { queue = q.queue; waits = q.waits; session = q.session };
  says_fine = f;
  known = w;
  aware = a;
}

pub loss-goes : (job done : List Act) (c : Machine) (v : Service) (downs : List Reply) (ups : List Parts)
    → Placed job done c.session v downs ups
    → Quiet c
    → Each UpSays ups
    → Known v.session ups
    → Aware c.session v.session ups
    → GoesOn job done v downs ups (client_runs.next c client.loss) (client_runs.answer_now c client.loss)
unfolding client_runs.next client_runs.answer_now client.takes client.refusal
loss-goes job done c v downs ups h q f w a =
    stays-so job done v downs ups c (client.loss_answer c.session) (loss-said c.session) h q f w a
