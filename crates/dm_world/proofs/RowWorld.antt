-- On every schedule, what was executed as a command that the server notes as sent was executed at its place of the job.
use Rattle.std.proofs.Common.{◌≡◌, ◌<◌, ◌+◌, ◌-◌, ◌==◌, ◌^◌, ℕ, Bool, true, false, cond, List, []}
use Rattle.std.proofs.Common.{◌∷◌, ◌++◌, length, Option, None, Some, IfSome, refl, sym, ◌∙◌, subst, arith}
use Rattle.std.proofs.Common.{◌⊎◌, inl, inr, append_assoc}
use Rattle.std.specs.Prelude.{slice_get}
use Rattle.std.specs.List.{Contains}
use Rattle.std.proofs.lemmas.List.{append-nil}
use Rattle.std.proofs.lemmas.Option.{slice_get_within}
use Rattle.syncml_types.specs.Message.{Parts}
use Rattle.dm_ends.specs.Commands.{origin_of}
use Rattle.dm_job.specs.declared.job.Job.{Job}
use Rattle.dm_job.specs.declared.job.JobEntry.{JobEntry}
use Rattle.dm_job.specs.Sound.{all_entries}
use Rattle.dm_machine.specs.Machine.{Machine, Session as Opened}
use Rattle.dm_machine.specs.Events as client
use Rattle.dm_machine.specs.Statuses.{is_executed}
use Rattle.dm_service.specs.declared.sent.Sent.{Sent}
use Rattle.dm_service.specs.Service.{Session, Service}
use Rattle.dm_service.specs.Messages.{accepts}
use Rattle.dm_service.specs.Events as server
use Rattle.dm_service.specs.History as server_runs
use Rattle.dm_service.specs.Events.{arrival}
use Rattle.dm_world.specs.Deeds.{Deed, all_deeds}
use Rattle.dm_world.specs.Acts.{Act, acts, deeds_acts, job_acts}
use Rattle.dm_world.specs.Lockstep.{first_of}
use Rattle.dm_world.specs.Packing.{acts_to_send}
use Rattle.dm_world.specs.World.{InSession, World, Reply, Happening, opens, up_comes, down_comes, update_ends}
use Rattle.dm_world.specs.World.{clock_moves, is_lost, finds_no_memory, with_new, replied, each_in_session, heard_by}
use Rattle.dm_world.specs.World.{deeds_in, deeds_by, down_delivered, up_delivered, happens, run}
use Rattle.dm_world.specs.Start.{at_start, IsWorldStart, IsInRange, IsSchedule}
use Rattle.dm_world.specs.Commands.{StandsInMessage}
use Rattle.dm_world.specs.Places.{IsExecutedAt}
use Rattle.dm_world.proofs.Lists.{both-ways, Each, each-within, picked}
use Rattle.dm_world.proofs.Numbers.{session_number, sent-numbered, eq-of}
use Rattle.dm_world.proofs.Server.{ServedAs, accepts-served}
use Rattle.dm_world.proofs.Lockstep.{UpOk, DownOk, DownFine, Below, Falls, message_of, Holds, Before}
use Rattle.dm_world.proofs.Happens.{TakenUp, taken-turn, taken-next, refusal-silent, run-sound, start-sound}
use Rattle.dm_world.proofs.Happens.{schedule-range}
use Rattle.dm_world.proofs.Turns.{takes-newest}
use Rattle.dm_world.proofs.Executes.{message-deeds}
use Rattle.dm_world.proofs.SaysMade.{each-contains}
use Rattle.dm_world.proofs.Position.{Whole, ByRun, sent_by, gains}
use Rattle.dm_world.proofs.InOrder.{AreWhole, Fair, all-fair, job-whole}
use Rattle.dm_world.proofs.Marks.{JobIs}
use Rattle.dm_world.proofs.Noted.{Notes, WorldNotes, ReplyRises, AllNoted, job-is, all-notes}
use Rattle.dm_world.proofs.Ranges.{all-first}
use Rattle.dm_world.proofs.Answered.{run-stands}
use Rattle.dm_world.proofs.ToldMade.{run-snoc}
use Rattle.dm_world.proofs.RowJob.{job-rows}
use Rattle.dm_world.proofs.GivenCodes.{IsOf, all-of, said-number, down-read}
use Rattle.dm_world.proofs.RowSent.{RowSent, AllActs}
use Rattle.dm_world.proofs.RowNotes.{RowNotes, IsNew, IsKnown, IsReplyOf, Rowed, accepts-rowed, opens-rowed}
use Rattle.dm_world.proofs.RowTaken.{IsOverAt, IsPlaced, over-later, session-get, Comes, placed-in, AllPlaced}
use Rattle.dm_world.proofs.RowTaken.{all-placed}
use Rattle.dm_world.proofs.Stay.{places-stay, in-both}

-- ---- what a session has sent

abbrev pub InNewest : List (List JobEntry) → List Act → Service → Session → List Reply → Sent → Type 0
InNewest packages job v t downs y =
    sent_by t ≡ t.progress.standing.last → y.msg ≡ sent_by t
    → IfSome (first_of downs) (λ (r : Reply). RowSent packages job (all_deeds (origin_of r.message) r.message.body)
    (acts_to_send v) (sent_by t) y)

-- each command that is noted as sent was executed at its place, or stands so in the newest message
abbrev pub SentPlaced : List (List JobEntry) → List Act → List (InSession Deed) → Service → List Reply → Session
    → Type 0
SentPlaced packages job executed v downs t =
    (y : Sent) → Contains t.sent y → IsPlaced packages executed t.progress.number y × InNewest packages job v t downs y

-- each act of the newest message of the session is the job's
abbrev pub NewestIsOf : List (List JobEntry) → List Act → Service → List Reply → Session → Type 0
NewestIsOf packages job v downs t =
    sent_by t ≡ t.progress.standing.last
    → IfSome (first_of downs) (λ (r : Reply). session_number r.message ≡ t.progress.number
    → AllActs packages job (acts r.message.body) (acts_to_send v))

pub record RowWorld (packages : List (List JobEntry)) (job : List Act) (w : World) : Type 0 where
  pub rows : RowNotes job w.server
  pub sent : IfSome w.server.session (SentPlaced packages job w.executed w.server w.downs)
  pub newest : IfSome w.server.session (NewestIsOf packages job w.server w.downs)
  pub done : AllPlaced packages w.executed

-- ---- the client takes the newest message

abbrev all_of : Reply → List Deed
all_of d = all_deeds (origin_of d.message) d.message.body

-- of the client's session, where it takes a message
record TakesNext (t : Session) (s : Opened) (downs : List Reply) (d : Reply) : Type 0 where
  number : s.progress.number ≡ t.progress.number
  own : sent_by t ≡ d.message.header.msg
  even : sent_by t ≡ t.progress.standing.last
  first : first_of downs ≡ Some d
  session : session_number d.message ≡ t.progress.number

get-of : (P : Deed → Type 0) (ds : List Deed) (i : ℕ) (x : Deed) → Each P ds → slice_get ds i ≡ Some x → P x
get-of P ds i x h e = each-within P ds x h (picked ds i x e)

executed-placed : (packages : List (List JobEntry)) (job : List Act) (w : World) (t : Session) (s : Opened)
    (d : Reply) (y : Sent)
    → AreWhole job
    → TakesNext t s w.downs d
    → ReplyRises d
    → Comes job (acts_to_send w.server) w.executed (all_of d)
    → IsPlaced packages w.executed t.progress.number y
    → InNewest packages job w.server t w.downs y
    → IsPlaced packages (w.executed ++ each_in_session s.progress.number (all_of d)) t.progress.number y
executed-placed packages job w t s d y all takes rise e old new k x is session msg command =
    by (in-both w.executed (each_in_session s.progress.number (all_of d)) k x is)
  where
    by : (slice_get w.executed k ≡ Some x)
        ⊎ ((i : ℕ) × (k ≡ length w.executed + i) × (slice_get (each_in_session s.progress.number (all_of d)) i ≡ Some x))
        → IsExecutedAt (w.executed ++ each_in_session s.progress.number (all_of d)) k (y.number - 1) x
        × (y.counts ≡ true
        → IsOverAt packages (w.executed ++ each_in_session s.progress.number (all_of d)) k y.number x)
    by (inl g) =
        let h = old k x g session msg command in
        let more = each_in_session s.progress.number (all_of d) in (
          places-stay w.executed more k (y.number - 1) x h.0,
          λ counts name is-block. over-later packages w.executed more k y.number (h.1 counts name is-block),
        )
    by (inr g) =
        let here = session-get s.progress.number (all_of d) g.0 x g.2 in
        let of = get-of (IsOf (origin_of d.message)) (all_of d) g.0 x.what
        (all-of (origin_of d.message) d.message.body) here.1 in
        let row =
        subst (λ o. IfSome o (λ (r : Reply). RowSent packages job (all_deeds (origin_of r.message) r.message.body)
        (acts_to_send w.server) (sent_by t) y)) takes.first (new takes.even (sym msg ∙ of ∙ sym takes.own)) in
        subst
        (λ k. IsExecutedAt (w.executed ++ each_in_session s.progress.number (all_of d)) k (y.number - 1) x
        × (y.counts ≡ true
        → IsOverAt packages (w.executed ++ each_in_session s.progress.number (all_of d)) k y.number x)) (sym g.1)
        (placed-in packages job (acts_to_send w.server) w.executed s.progress.number rise.0 (all_of d)
        (sent_by t) y g.0 x all
        rise.1 row e
        (subst (λ k. slice_get (w.executed ++ each_in_session s.progress.number (all_of d)) k ≡ Some x) g.1 is) here.1
        command)

-- the client's session and the server's, where a message is taken
takes-next : (b : ℕ) (t : Session) (s : Opened) (downs : List Reply) (ups : List Parts) (k : ℕ) (d : Reply)
    → slice_get downs k ≡ Some d
    → Holds b (Some s) (Some t) downs ups
    → client.takes_message (Some s) d.message ≡ true
    → TakesNext t s downs d
takes-next b t s downs ups k d e h taken =
    let x = taken-next b s (Some t) downs ups d h (picked downs k d e) taken in
    let own = x.own in
    let last = x.last in
    let id = x.id in
    let mine = h.client_ok.own in
    record {
      number = h.client_ok.number ∙ sym x.number;
      own = x.own;
      even = omega (arith, own, last, id, mine);
      first = (takes-newest b (Some s) (Some t) downs ups k d e h taken).0;
      session = x.session ∙ sym x.number;
    }

abbrev BothPlaced : List (List JobEntry) → List Act → World → Session → List (InSession Deed) → Type 0
BothPlaced packages job w t executed = AllPlaced packages executed × SentPlaced packages job executed w.server w.downs t

module _ (packages : List (List JobEntry)) (job : List Act) (many : ℕ) (w : World) (is : JobIs packages)
    (all : AreWhole job) (fair : Fair job many w) (notes : WorldNotes packages w) where
  -- what is executed of a message that it takes
  run-placed : (k : ℕ) (d : Reply) (nonce : List ℕ) (s : Opened) (t : Session)
      → slice_get w.downs k ≡ Some d
      → w.client.session ≡ Some s
      → w.server.session ≡ Some t
      → RowWorld packages job w
      → AllPlaced packages (w.executed ++ deeds_by w.client (Some s) d.message nonce)
      × SentPlaced packages job (w.executed ++ deeds_by w.client (Some s) d.message nonce) w.server w.downs t
  run-placed k d nonce s t e f g h = by (client.takes_message (Some s) d.message) refl
    where
      sent : SentPlaced packages job w.executed w.server w.downs t
      sent = subst (λ o. IfSome o (SentPlaced packages job w.executed w.server w.downs)) g h.sent

      stays : BothPlaced packages job w t (w.executed ++ [])
      stays = subst (BothPlaced packages job w t) (sym (append-nil w.executed)) (h.done, sent)

      run : (b : Bool) → client.takes_message (Some s) d.message ≡ true
          → BothPlaced packages job w t (w.executed ++ cond b (each_in_session s.progress.number (all_of d)) [])
      run false q = stays
      run true q =
          let sound = subst (λ o. Holds w.client.begun o w.server.session w.downs w.ups) f fair.sound in
          let holds = subst (λ o. Holds w.client.begun (Some s) o w.downs w.ups) g sound in
          let takes = takes-next w.client.begun t s w.downs w.ups k d e holds q in
          let next = taken-next w.client.begun s w.server.session w.downs w.ups d sound (picked w.downs k d e) q in
          let gain =
          gains job (deeds_acts w.executed) s w.server w.server.session w.downs w.ups w.server.runs_in w.client.begun d
          holds.client_ok.number next takes.first
          (subst (λ o. ByRun job (deeds_acts w.executed) o w.server w.server.session w.downs w.ups w.server.runs_in) f
          fair.placed.runs) in
          let same = message-deeds (origin_of d.message) d.message.body in
          let comes : Comes job (acts_to_send w.server) w.executed (all_of d) =
          subst (λ l. (l ≡ []) ⊎ Whole job ((deeds_acts w.executed ++ l) ++ acts_to_send w.server)) (sym same) gain in
          let newest = subst (λ o. IfSome o (NewestIsOf packages job w.server w.downs)) g h.newest in
          let of =
          subst (λ o. IfSome o (λ (r : Reply). session_number r.message ≡ t.progress.number
          → AllActs packages job (acts r.message.body) (acts_to_send w.server))) takes.first (newest takes.even)
          takes.session in (
            all-placed packages job (acts_to_send w.server) w.executed s.progress.number (all_of d) all
                (subst (λ l. AllActs packages job l (acts_to_send w.server)) (sym same) of) comes h.done,
            λ y i. (
              executed-placed packages job w t s d y all takes
                  (each-within ReplyRises w.downs d notes.rising (picked w.downs k d e)) comes (sent y i).0
                  (sent y i).1,
              (sent y i).1,
            ),
          )

      by : (b : Bool) → client.takes_message (Some s) d.message ≡ b
          → BothPlaced packages job w t (w.executed ++ cond b (deeds_in w.client s.progress d.message nonce) [])
      by false q = stays
      by true q = run (is_executed s.progress d.message (heard_by w.client s.progress d.message nonce)) q

  -- a client takes nothing while the server has no session
  none-placed : (k : ℕ) (d : Reply) (nonce : List ℕ) (s : Opened)
      → slice_get w.downs k ≡ Some d
      → w.client.session ≡ Some s
      → w.server.session ≡ None
      → RowWorld packages job w
      → AllPlaced packages (w.executed ++ deeds_by w.client (Some s) d.message nonce)
  none-placed k d nonce s e f g h =
      absurd (subst (λ o. DownOk o w.ups d) g
      (each-within (DownOk w.server.session w.ups) w.downs d fair.sound.downs_ok (picked w.downs k d e)))

  -- a message comes to the client
  client-rows : (k : ℕ) (o : Option Reply) (nonce : List ℕ) → slice_get w.downs k ≡ o → RowWorld packages job w
      → RowWorld packages job (down_delivered w o nonce)
  client-rows k None nonce e h = h
  client-rows k (Some d) nonce e h =
      let x = by w.client.session w.server.session refl refl in
      record { rows = h.rows; sent = x.1; newest = h.newest; done = x.0 }
    where
      by : (p : Option Opened) (o : Option Session) → w.client.session ≡ p → w.server.session ≡ o
          → AllPlaced packages (w.executed ++ deeds_by w.client p d.message nonce)
          × IfSome o (SentPlaced packages job (w.executed ++ deeds_by w.client p d.message nonce) w.server w.downs)
      by None o f g =
          subst (λ l. AllPlaced packages l × IfSome o (SentPlaced packages job l w.server w.downs))
          (sym (append-nil w.executed))
          (h.done, subst (λ o. IfSome o (SentPlaced packages job w.executed w.server w.downs)) g h.sent)
      by (Some s) None f g = (none-placed k d nonce s e f g h, tt)
      by (Some s) (Some t) f g = run-placed k d nonce s t e f g h

-- ---- a message comes to the server

-- it was noted before, in the same session, or the reply has it
abbrev FromBefore : List (List JobEntry) → List Act → Service → ℕ → Service → Session → Type 0
FromBefore packages job v n x t =
    (y : Sent) → Contains t.sent y
    → ((s : Session) × (v.session ≡ Some s) × (s.progress.number ≡ n) × Contains s.sent y)
    ⊎ IsNew packages job (server.reply_of x) x y

record Taken (packages : List (List JobEntry)) (job : List Act) (v : Service) (n : ℕ) (x : Service) : Type 0 where
  rows : RowNotes job x
  all : IsReplyOf packages job x (server.reply_of x)
  known : IfSome x.session (FromBefore packages job v n x)

no-element : {A : Type 0} {x : A} → Contains [] x → ⊥
no-element h = let none = h.1 in omega (arith, none)

opened-taken : (packages : List (List JobEntry)) (job : List Act) (v : Service) (n : ℕ) (x : Service)
    → Rowed packages job [] x → Taken packages job v n x
opened-taken packages job v n x h = record { rows = h.rows; all = h.all; known = by x.session h.known }
  where
    by : (o : Option Session) → IfSome o (IsKnown packages job [] (server.reply_of x) x)
        → IfSome o (FromBefore packages job v n x)
    by None k = tt
    by (Some t) k = λ y i. of y (k y i)
      where
        of : (y : Sent) → Contains [] y ⊎ IsNew packages job (server.reply_of x) x y
            → ((s : Session) × (v.session ≡ Some s) × (s.progress.number ≡ n) × Contains s.sent y)
            ⊎ IsNew packages job (server.reply_of x) x y
        of y (inl z) = absurd (no-element z)
        of y (inr z) = inr z

session-taken : (packages : List (List JobEntry)) (job : List Act) (v : Service) (n : ℕ) (s : Session)
    (x : Service) → v.session ≡ Some s
    → s.progress.number ≡ n
    → Rowed packages job s.sent x
    → Taken packages job v n x
session-taken packages job v n s x e f h = record { rows = h.rows; all = h.all; known = by x.session h.known }
  where
    by : (o : Option Session) → IfSome o (IsKnown packages job s.sent (server.reply_of x) x)
        → IfSome o (FromBefore packages job v n x)
    by None k = tt
    by (Some t) k = λ y i. of y (k y i)
      where
        of : (y : Sent) → Contains s.sent y ⊎ IsNew packages job (server.reply_of x) x y
            → ((s : Session) × (v.session ≡ Some s) × (s.progress.number ≡ n) × Contains s.sent y)
            ⊎ IsNew packages job (server.reply_of x) x y
        of y (inl z) = inl (s, e, f, z)
        of y (inr z) = inr z

in-taken : (packages : List (List JobEntry)) (job : List Act) (v : Service) (o : Option Session) (n : ℕ) (u : Parts)
    (nonce : List ℕ) → v.session ≡ o
    → JobIs packages
    → Notes packages v
    → RowNotes job v
    → Taken packages job v n (server.after_in_session v o n u nonce)
in-taken packages job v None n u nonce e is notes rows =
    opened-taken packages job v n (server.opens_session v n u nonce) (opens-rowed packages job v n u nonce is notes rows)
in-taken packages job v (Some s) n u nonce e is notes rows = by (s.progress.number == n) refl
  where
    by : (b : Bool) → (s.progress.number == n) ≡ b
        → Taken packages job v n (cond b (accepts v s u nonce) (server.opens_session v n u nonce))
    by true f =
        session-taken packages job v n s (accepts v s u nonce) e (eq-of s.progress.number n f)
        (accepts-rowed packages job v s u nonce is notes rows)
    by false f = opened-taken packages job v n (server.opens_session v n u nonce)
        (opens-rowed packages job v n u nonce is notes rows)

-- ---- the numbers of the session that took it

abbrev IsLastAt : ℕ → ℕ → Session → Type 0
IsLastAt n last t = (t.progress.number ≡ n) × (t.progress.standing.last ≡ last)

-- where it doesn't answer, it has sent less than it took
abbrev Behind : Option Parts → Option Session → Type 0
Behind None None = Unit {0}
Behind None (Some t) = sent_by t < t.progress.standing.last
Behind (Some m) o = Unit {0}

served-numbers : (n last own : ℕ) (sent : Option Parts) (o : Option Session) → 0 < n → n < 2 ^ 32
    → own < last
    → ServedAs n last own sent o
    → IfSome o (IsLastAt n last) × IfSome (cond (server.is_answered o) sent None) (λ m. session_number m ≡ n)
    × Behind (cond (server.is_answered o) sent None) o
served-numbers n last own sent None low high less h = absurd h
served-numbers n last own None (Some t) low high less (inl h) = absurd h.2
served-numbers n last own (Some m) (Some t) low high less (inl h) = (
  (h.0.number, h.0.last_is),
  subst (λ b. IfSome (cond b (Some m) None) (λ m. session_number m ≡ n)) (sym h.1)
      (sent-numbered n (own + 1) m low high h.2).session,
  subst (λ b. Behind (cond b (Some m) None) (Some t)) (sym h.1) tt,
)
served-numbers n last own sent (Some t) low high less (inr h) = (
  (h.0.number, h.0.last_is),
  subst (λ b. IfSome (cond b sent None) (λ m. session_number m ≡ n)) (sym h.1) tt,
  subst (λ b. Behind (cond b sent None) (Some t)) (sym h.1)
      (let mine = h.0.own_is in let last-is = h.0.last_is in omega (arith, less, mine, last-is)),
)

taken-numbers : (v : Service) (n : ℕ) (u : Parts) (nonce : List ℕ) (x : Service) → 0 < n → n < 2 ^ 32
    → TakenUp v v.session n u nonce x
    → IfSome x.session (IsLastAt n u.header.msg) × IfSome (server.reply_of x) (λ m. session_number m ≡ n)
    × Behind (server.reply_of x) x.session
taken-numbers v n u nonce x low high t =
    let y = accepts t.base t.from u nonce in
    let served = accepts-served t.base t.from u nonce in
    let at =
    subst (λ i. ServedAs i u.header.msg t.own y.sent y.session) t.number
    (subst (λ k. ServedAs t.from.progress.number u.header.msg k y.sent y.session) t.own_is served) in
    subst
    (λ (z : Service). IfSome z.session (IsLastAt n u.header.msg)
    × IfSome (server.reply_of z) (λ m. session_number m ≡ n)
    × Behind (server.reply_of z) z.session) (sym t.is)
    (served-numbers n u.header.msg t.own y.sent y.session low high t.later at)

-- ---- what it notes is placed

abbrev Answered : List (List JobEntry) → List Act → List (InSession Deed) → List Reply → Parts → Service
    → server.Answer → Type 0
Answered packages job executed downs u x a =
    RowNotes job x × IfSome x.session (SentPlaced packages job executed x (with_new downs (replied a u)))
    × IfSome x.session (NewestIsOf packages job x (with_new downs (replied a u)))

abbrev Answers : List (List JobEntry) → List Act → List (InSession Deed) → List Reply → Parts → Service
    → server.Answer → Type 0
Answers packages job executed downs u x a =
    Falls message_of (with_new downs (replied a u)) → Answered packages job executed downs u x a

get-of-deed : (P : InSession Deed → Type 0) (ds : List (InSession Deed)) (i : ℕ) (x : InSession Deed) → Each P ds
    → slice_get ds i ≡ Some x
    → P x
get-of-deed P ds i x h e = each-within P ds x h (picked ds i x e)

module _ (packages : List (List JobEntry)) (job : List Act) (many : ℕ) (w : World) (is : JobIs packages)
    (fair : Fair job many w) (notes : WorldNotes packages w) (stand : Each (StandsInMessage w.downs) w.executed) where
  -- nothing was executed of a message that wasn't sent yet
  new-placed : (m u : Parts) (n : ℕ) (x : Service) (y : Sent)
      → Falls message_of (record { message = m; answers = u } ∷ w.downs)
      → session_number m ≡ n
      → RowSent packages job (all_deeds (origin_of m) m.body) (acts_to_send x) m.header.msg y
      → IsPlaced packages w.executed n y
  new-placed m u n x y falls number row k z at session msg command =
      let s = get-of-deed (StandsInMessage w.downs) w.executed k z stand at in
      let of =
      each-contains (IsOf (origin_of s.reply.message)) (all_deeds (origin_of s.reply.message) s.reply.message.body)
      z.what (all-of (origin_of s.reply.message) s.reply.message.body) s.within in
      let stands = picked w.downs s.at s.reply s.was_sent in
      let ok = each-within (DownOk w.server.session w.ups) w.downs s.reply fair.sound.downs_ok stands in
      let here =
      said-number s.reply z.session (down-read w.server.session w.ups s.reply ok) s.session_is in
      let below = each-within (λ (r : Reply). Below (session_number m) m.header.msg r.message) w.downs s.reply falls.0
      stands in
      let less = below.id (here ∙ session ∙ sym number) in
      let same = row.msg_is in
      absurd (omega (arith, less, of, msg, same))

  -- what was noted before is older than the message that was taken
  old-low : (n : ℕ) (u : Parts) (nonce : List ℕ) (x : Service) (s : Session) (y : Sent)
      → TakenUp w.server w.server.session n u nonce x
      → w.server.session ≡ Some s
      → s.progress.number ≡ n
      → Contains s.sent y
      → y.msg < u.header.msg
  old-low n u nonce x s y t e f within =
      let stands = subst (λ o. IfSome o (AllNoted packages w.downs)) e notes.noted y within in
      let r = picked w.downs stands.at stands.reply stands.was_sent in
      let ok = each-within (DownOk w.server.session w.ups) w.downs stands.reply fair.sound.downs_ok r in
      let number =
      said-number stands.reply s.progress.number (down-read w.server.session w.ups stands.reply ok) stands.session_is
      in
      let fine : DownFine s.progress.number (sent_by s) w.ups stands.reply = subst (λ o. DownOk o w.ups stands.reply) e
      ok in
      let low = fine.own_is number in
      let same = stands.msg_is in
      let own = by (subst (λ o. Before o n t.own) e t.before) in
      let later = t.later in
      omega (arith, low, same, own, later)
    where
      by : Before (Some s) n t.own → t.own ≡ sent_by s
      by (inl b) = absurd (let less = b.0 in omega (arith, less, f))
      by (inr b) = b.1

  taken-placed : (n : ℕ) (u : Parts) (nonce : List ℕ) (x : Service)
      → 0 < n → n < 2 ^ 32
      → TakenUp w.server w.server.session n u nonce x
      → Taken packages job w.server n x
      → RowWorld packages job w
      → Falls message_of (with_new w.downs (replied (server.sent_or_ended (server.reply_of x)) u))
      → Answered packages job w.executed w.downs u x (server.sent_or_ended (server.reply_of x))
  taken-placed n u nonce x low high t taken h falls =
      let numbers = taken-numbers w.server n u nonce x low high t in (
        taken.rows,
        by x.session (server.reply_of x) numbers.0 numbers.1 taken.known falls,
        newest x.session (server.reply_of x) numbers.2 taken.all,
      )
    where
      newest : (o : Option Session) (r : Option Parts) → Behind r o → IsReplyOf packages job x r
          → IfSome o (NewestIsOf packages job x (with_new w.downs (replied (server.sent_or_ended r) u)))
      newest None r behind all = tt
      newest (Some z) None behind all = λ even. absurd (omega (arith, behind, even))
      newest (Some z) (Some m) behind all = λ even number. all

      old : (z s : Session) (y : Sent) → IsLastAt n u.header.msg z → w.server.session ≡ Some s
          → s.progress.number ≡ n
          → Contains s.sent y
          → (downs : List Reply)
          → IsPlaced packages w.executed z.progress.number y × InNewest packages job x z downs y
      old z s y at e f within downs =
          let placed = (subst (λ o. IfSome o
          (SentPlaced packages job w.executed w.server w.downs)) e h.sent y within).0 in (
            subst (λ i. IsPlaced packages w.executed i y) (f ∙ sym at.0) placed,
            λ even msg.
                (let less = old-low n u nonce x s y t e f within in
                let last = at.1 in absurd (omega (arith, less, last, even, msg))),
          )

      new : (z : Session) (y : Sent) (m : Parts) → IsLastAt n u.header.msg z → session_number m ≡ n
          → Falls message_of (record { message = m; answers = u } ∷ w.downs)
          → RowSent packages job (all_deeds (origin_of m) m.body) (acts_to_send x) m.header.msg y
          → IsPlaced packages w.executed z.progress.number y
          × InNewest packages job x z (record { message = m; answers = u } ∷ w.downs) y
      new z y m at number falls row = (
        subst (λ i. IsPlaced packages w.executed i y) (sym at.0) (new-placed m u n x y falls number row),
        λ even msg. subst (λ i. RowSent packages job (all_deeds (origin_of m) m.body) (acts_to_send x) i y)
            (sym row.msg_is ∙ msg) row,
      )

      by : (o : Option Session) (r : Option Parts) → IfSome o (IsLastAt n u.header.msg)
          → IfSome r (λ m. session_number m ≡ n)
          → IfSome o (λ z. (y : Sent) → Contains z.sent y
          → ((s : Session) × (w.server.session ≡ Some s) × (s.progress.number ≡ n) × Contains s.sent y)
          ⊎ IsNew packages job r x y)
          → Falls message_of (with_new w.downs (replied (server.sent_or_ended r) u))
          → IfSome o (SentPlaced packages job w.executed x (with_new w.downs (replied (server.sent_or_ended r) u)))
      by None r at number known falls = tt
      by (Some z) None at number known falls = λ y i. of y (known y i)
        where
          of : (y : Sent)
              → ((s : Session) × (w.server.session ≡ Some s) × (s.progress.number ≡ n) × Contains s.sent y) ⊎ ⊥
              → IsPlaced packages w.executed z.progress.number y × InNewest packages job x z w.downs y
          of y (inl k) = old z k.0 y at k.1 k.2 k.3 w.downs
          of y (inr k) = absurd k
      by (Some z) (Some m) at number known falls = λ y i. of y (known y i)
        where
          of : (y : Sent)
              → ((s : Session) × (w.server.session ≡ Some s) × (s.progress.number ≡ n) × Contains s.sent y)
              ⊎ IsNew packages job (Some m) x y
              → IsPlaced packages w.executed z.progress.number y
              × InNewest packages job x z (record { message = m; answers = u } ∷ w.downs) y
          of y (inl k) = old z k.0 y at k.1 k.2 k.3 (record { message = m; answers = u } ∷ w.downs)
          of y (inr k) = new z y m at number falls k

  unmoved-placed : (u : Parts) (nonce : List ℕ) → RowWorld packages job w
      → Answered packages job w.executed w.downs u w.server
      (server.refusal w.server (arrival u nonce) (server.reply_of w.server))
  unmoved-placed u nonce h = (
    h.rows,
    subst (λ r. IfSome w.server.session (SentPlaced packages job w.executed w.server (with_new w.downs r)))
        (sym (refusal-silent w.server u nonce (server.reply_of w.server))) h.sent,
    subst (λ r. IfSome w.server.session (NewestIsOf packages job w.server (with_new w.downs r)))
        (sym (refusal-silent w.server u nonce (server.reply_of w.server))) h.newest,
  )

  serve-rows : (k : ℕ) (u : Parts) (nonce : List ℕ) → slice_get w.ups k ≡ Some u
      → RowWorld packages job w
      → Falls message_of
      (with_new w.downs (replied (server_runs.answer_now w.server (arrival u nonce)) u))
      → Answered packages job w.executed w.downs u (server_runs.next w.server (arrival u nonce))
      (server_runs.answer_now w.server (arrival u nonce))
  unfolding server_runs.next server_runs.answer_now server.takes server.after server.taken_answer
  serve-rows k u nonce e h falls =
      let v = w.server in
      let f = each-within (UpOk w.client.begun v.session) w.ups u fair.sound.ups_ok (picked w.ups k u e) in
      let n = session_number u in
      let limit = fair.sound.limit in
      let most = f.high in
      let x = server.after_in_session v v.session n u nonce in
      subst
      (λ i. Answers packages job w.executed w.downs u (cond (server.takes_number v.session i u)
      (server.after_number v i u nonce) v)
      (cond (server.takes_number v.session i u) (server.sent_or_ended (server.reply_of
      (server.after_number v i u nonce)))
      (server.refusal v (arrival u nonce) (server.reply_of v))))
      (sym f.read.counted)
      (both-ways (Answers packages job w.executed w.downs u) (server.takes_in v.session n u) x v
      (server.sent_or_ended (server.reply_of x))
      (server.refusal v (arrival u nonce) (server.reply_of v))
      (λ t g. taken-placed n u nonce x f.low (omega (arith, limit, most))
      (taken-turn w.client.begun v v.session n u nonce refl fair.sound.server_ok f.first t)
      (in-taken packages job v v.session n u nonce refl is notes.notes h.rows) h g)
      (λ t g. unmoved-placed u nonce h)) falls

  server-rows : (k : ℕ) (o : Option Parts) (nonce : List ℕ) → slice_get w.ups k ≡ o
      → Falls message_of (up_delivered w o nonce).downs
      → RowWorld packages job w
      → RowWorld packages job (up_delivered w o nonce)
  server-rows k None nonce e falls h = h
  server-rows k (Some u) nonce e falls h =
      let x = serve-rows k u nonce e h falls in
      record { rows = x.0; sent = x.1; newest = x.2; done = h.done }

-- ---- the world

same-rows : (packages : List (List JobEntry)) (job : List Act) (w x : World) → x.server ≡ w.server
    → x.downs ≡ w.downs → x.executed ≡ w.executed
    → RowWorld packages job w
    → RowWorld packages job x
same-rows packages job w x e f g h = record {
  rows = subst (RowNotes job) (sym e) h.rows;
  sent = subst (λ v. IfSome v.session (SentPlaced packages job x.executed v x.downs)) (sym e)
      (subst (λ d. IfSome w.server.session (SentPlaced packages job x.executed w.server d)) (sym f)
      (subst (λ d. IfSome w.server.session (SentPlaced packages job d w.server w.downs)) (sym g) h.sent));
  newest = subst (λ v. IfSome v.session (NewestIsOf packages job v x.downs)) (sym e)
      (subst (λ d. IfSome w.server.session (NewestIsOf packages job w.server d)) (sym f) h.newest);
  done = subst (AllPlaced packages) (sym g) h.done;
}

happens-rows : (packages : List (List JobEntry)) (job : List Act) (many : ℕ) (w : World) (e : Happening)
    → JobIs packages
    → AreWhole job
    → Fair job many w
    → WorldNotes packages w
    → Each (StandsInMessage w.downs) w.executed
    → Falls message_of (happens w e).downs
    → RowWorld packages job w
    → RowWorld packages job (happens w e)
unfolding happens
happens-rows packages job many w (opens account kind n) is all fair notes stand falls h =
    same-rows packages job w _ refl refl refl h
happens-rows packages job many w (up_comes k nonce) is all fair notes stand falls h =
    server-rows packages job many w is fair notes stand k (slice_get w.ups k) nonce refl falls h
happens-rows packages job many w (down_comes k nonce) is all fair notes stand falls h =
    client-rows packages job many w is all fair notes k (slice_get w.downs k) nonce refl h
happens-rows packages job many w (update_ends ok) is all fair notes stand falls h =
    same-rows packages job w _ refl refl refl h
happens-rows packages job many w (clock_moves stamp) is all fair notes stand falls h =
    same-rows packages job w _ refl refl refl h
happens-rows packages job many w is_lost is all fair notes stand falls h = same-rows packages job w _ refl refl refl h
happens-rows packages job many w finds_no_memory is all fair notes stand falls h = h

step-rows : (c : Machine) (job : Job) (done : List Happening) (e : Happening) → IsWorldStart c job
    → IsSchedule c (done ++ e ∷ [])
    → RowWorld job.packages (job_acts job.packages) (run (at_start c job) done)
    → RowWorld job.packages (job_acts job.packages) (run (at_start c job) (done ++ e ∷ []))
step-rows c job done e start range h =
    let same = run-snoc (at_start c job) done e in
    let sound = run-sound (at_start c job) (done ++ e ∷ []) (schedule-range c (done ++ e ∷ []) range)
    (start-sound c job start) in
    subst (RowWorld job.packages (job_acts job.packages)) (sym same)
    (happens-rows job.packages (job_acts job.packages) (length c.accounts) (run (at_start c job) done) e
    (job-is job.packages start.sound.entries) (job-whole c job start)
    (all-fair c job done start (all-first (IsInRange c) done (e ∷ []) range)) (all-notes c job done start)
    (run-stands (at_start c job) done tt) (subst (λ (x : World). Falls message_of x.downs) same sound.downs_fall) h)

rows-on : (c : Machine) (job : Job) (done es : List Happening) → IsWorldStart c job → IsSchedule c (done ++ es)
    → RowWorld job.packages (job_acts job.packages) (run (at_start c job) done)
    → RowWorld job.packages (job_acts job.packages) (run (at_start c job) (done ++ es))
rows-on c job done [] start range h =
    subst (λ l. RowWorld job.packages (job_acts job.packages) (run (at_start c job) l)) (sym (append-nil done)) h
rows-on c job done (e ∷ es) start range h =
    let split : (done ++ e ∷ []) ++ es ≡ done ++ e ∷ es = append_assoc done (e ∷ []) es in
    subst (λ l. RowWorld job.packages (job_acts job.packages) (run (at_start c job) l)) split
    (rows-on c job (done ++ e ∷ []) es start (subst (IsSchedule c) (sym split) range)
    (step-rows c job done e start
    (all-first (IsInRange c) (done ++ e ∷ []) es (subst (IsSchedule c) (sym split) range)) h))

pub all-rows : (c : Machine) (job : Job) (hs : List Happening) → IsWorldStart c job → IsSchedule c hs
    → RowWorld job.packages (job_acts job.packages) (run (at_start c job) hs)
all-rows c job hs start range =
    let rows = job-rows (all_entries job.packages) start.sound.numbered start.sound.entries in
    rows-on c job [] hs start range
    (record {
      rows = record { queue = tt; newest = rows; whole = rows };
      sent = tt;
      newest = tt;
      done = λ k x a e. absurd (none k x e);
    })
  where
    none : (k : ℕ) (x : InSession Deed) → slice_get [] k ≡ Some x → ⊥
    none k x e = let low = slice_get_within [] k x e in omega (arith, low)
