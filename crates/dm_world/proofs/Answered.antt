-- Each Status that the client made answers something that it executed in the same session, and what it executed stands
-- in a message of the server.
use Rattle.std.proofs.Common.{zero, suc, ◌≡◌, ◌≤◌, ◌+◌, ◌&&◌, ℕ, Bool, true, false, cond, List, [], ◌∷◌, ◌++◌}
use Rattle.std.proofs.Common.{Option, None, Some, refl, sym, ◌∙◌, ap, subst, arith, nat_lt, append_assoc, ◌⊎◌, inl, inr}
use Rattle.std.specs.Prelude.{Ok, slice_get, nat_eq}
use Rattle.std.specs.List.{Contains, sum_by}
use Rattle.std.proofs.lemmas.List.{append-nil}
use Rattle.std.proofs.lemmas.List.Sums.{sum_by-append, sum_by-cons}
use Rattle.syncml_types.specs.declared.command.SeqMember.{SeqMember}
use Rattle.syncml_types.specs.declared.command.SeqMember.TheVariants as seq_member
use Rattle.syncml_types.specs.declared.command.Command.{Command}
use Rattle.syncml_types.specs.declared.command.Command.TheVariants as command
use Rattle.syncml_types.specs.Message.{Parts}
use Rattle.dm_atomic.specs.declared.tasks.Named.TheVariants as named
use Rattle.dm_atomic.specs.declared.tasks.Origin.{Origin}
use Rattle.dm_atomic.specs.declared.tasks.Post.{Post}
use Rattle.dm_atomic.specs.declared.tasks.Task.{Task}
use Rattle.dm_atomic.specs.Tasks.{item_tasks, member_tasks, members_tasks, container_post}
use Rattle.dm_atomic.specs.Posts.{task_posts, member_posts, members_posts, asked_posts, all_asked, made_posts}
use Rattle.dm_atomic.specs.Posts.{waiting_posts}
use Rattle.dm_atomic.specs.Made.{Made, Status, Result, Broken}
use Rattle.dm_atomic.specs.Run.{Group, abandoned}
use Rattle.dm_ends.specs.Commands.{session_of, is_same_number, origin_of}
use Rattle.dm_job.specs.declared.job.Job.{Job}
use Rattle.dm_tree.specs.declared.nodes.Stamp.{Stamp}
use Rattle.dm_machine.specs.declared.kinds.Initiator.{Initiator}
use Rattle.dm_machine.specs.declared.progress.Progress.{Progress}
use Rattle.dm_machine.specs.Machine.{Session, Machine}
use Rattle.dm_machine.specs.Sending.{sends}
use Rattle.dm_machine.specs.Messages.{Outcome, goes_on, ends, begins, accepts, ends_update}
use Rattle.dm_machine.specs.Statuses.{is_executed, executed, message_counted, session_counted, counted_at}
use Rattle.dm_machine.specs.Statuses.{asked_in_run, made_in_run, given_up_in_run}
use Rattle.dm_machine.specs.Events as client
use Rattle.dm_machine.specs.History as client_runs
use Rattle.dm_machine.proofs.StatusesInRuns.{one_status_in_runs}
use Rattle.dm_world.specs.Deeds.{Deed, step_deeds, member_deeds, members_deeds, command_deeds}
use Rattle.dm_world.specs.Deeds.{all_deeds}
use Rattle.dm_world.specs.World.{InSession, World, Reply, Happening, opens, up_comes, down_comes, update_ends}
use Rattle.dm_world.specs.World.{clock_moves}
use Rattle.dm_world.specs.World.{is_lost, finds_no_memory, with_new, replied, each_in_session, heard_by, deeds_in}
use Rattle.dm_world.specs.World.{made_in}
use Rattle.dm_world.specs.World.{deeds_by, made_by, down_delivered, up_delivered, happens, run}
use Rattle.dm_world.specs.Start.{at_start, IsWorldStart}
use Rattle.dm_world.specs.Commands.{WasExecuted, AnswersTheExecuted, StandsInMessage, ExecutesTheSent}
use Rattle.dm_world.proofs.Lists.{either, and-left, Each, each-map, each-append}
use Rattle.dm_world.proofs.Numbers.{eq-of, eq-self, same-tests}
use Rattle.dm_world.proofs.Client.{OpenAs, Turns, Turned, message-turned}
use Rattle.dm_world.proofs.SaysMade.{each-contains}
use Rattle.dm_service.specs.History as server_runs
use Rattle.dm_service.proofs.Codes.{first_in, later_in}
use Rattle.dm_service.specs.Events.{arrival}

-- ---- posts of what is executed

abbrev deed_posts : List Deed → List Post
deed_posts [] = []
deed_posts (d ∷ ds) = d.post ∷ deed_posts ds

posts-append : (a b : List Deed) → deed_posts (a ++ b) ≡ deed_posts a ++ deed_posts b
posts-append [] b = refl
posts-append (d ∷ ds) b = ap (λ x. d.post ∷ x) (posts-append ds b)

step-posts : (ts : List Task) → deed_posts (step_deeds ts) ≡ task_posts ts
step-posts [] = refl
step-posts (t ∷ ts) = ap (λ x. t.post ∷ x) (step-posts ts)

member-posts : (o : Origin) (m : SeqMember) → deed_posts (member_deeds o m) ≡ member_posts o m
member-posts o (seq_member.Single m) = step-posts (member_tasks o false m)
member-posts o (seq_member.Atomic b) =
    ap (λ x. container_post o b.id b.no_resp named.Atomic ∷ x) (step-posts (members_tasks o true b.members))

members-posts : (o : Origin) (ms : List SeqMember) → deed_posts (members_deeds o ms) ≡ members_posts o ms
members-posts o [] = refl
members-posts o (m ∷ ms) =
    posts-append (member_deeds o m) (members_deeds o ms)
    ∙ ap (λ x. x ++ deed_posts (members_deeds o ms)) (member-posts o m)
    ∙ ap (λ x. member_posts o m ++ x) (members-posts o ms)

command-posts : (o : Origin) (c : Command) → deed_posts (command_deeds o c) ≡ asked_posts o c
unfolding asked_posts
command-posts o (command.Plain p) = step-posts (item_tasks o false p 0 p.items)
command-posts o (command.Alert a) = refl
command-posts o (command.Atomic b) =
    ap (λ x. container_post o b.id b.no_resp named.Atomic ∷ x) (step-posts (members_tasks o true b.members))
command-posts o (command.Sequence b) =
    ap (λ x. container_post o b.id b.no_resp named.Sequence ∷ x) (members-posts o b.members)
command-posts o (command.Status c) = refl
command-posts o (command.Results c) = refl

all-posts : (o : Origin) (cs : List Command) → deed_posts (all_deeds o cs) ≡ all_asked o cs
all-posts o [] = refl
all-posts o (c ∷ cs) =
    posts-append (command_deeds o c) (all_deeds o cs)
    ∙ ap (λ x. x ++ deed_posts (all_deeds o cs)) (command-posts o c)
    ∙ ap (λ x. asked_posts o c ++ x) (all-posts o cs)

-- ---- posts of a session

abbrev posts_made : ℕ → List (InSession Made) → List Post
posts_made n [] = []
posts_made n (x ∷ xs) = cond (nat_eq x.session n) (made_posts (x.what ∷ [])) [] ++ posts_made n xs

abbrev posts_done : ℕ → List (InSession Deed) → List Post
posts_done n [] = []
posts_done n (x ∷ xs) = cond (nat_eq x.session n) (x.what.post ∷ []) [] ++ posts_done n xs

made-append : (n : ℕ) (xs ys : List (InSession Made)) → posts_made n (xs ++ ys) ≡ posts_made n xs ++ posts_made n ys
made-append n [] ys = refl
made-append n (x ∷ xs) ys =
    ap (λ l. cond (nat_eq x.session n) (made_posts (x.what ∷ [])) [] ++ l) (made-append n xs ys)
    ∙ sym (append_assoc (cond (nat_eq x.session n) (made_posts (x.what ∷ [])) []) (posts_made n xs) (posts_made n ys))

done-append : (n : ℕ) (xs ys : List (InSession Deed)) → posts_done n (xs ++ ys) ≡ posts_done n xs ++ posts_done n ys
done-append n [] ys = refl
done-append n (x ∷ xs) ys =
    ap (λ l. cond (nat_eq x.session n) (x.what.post ∷ []) [] ++ l) (done-append n xs ys)
    ∙ sym (append_assoc (cond (nat_eq x.session n) (x.what.post ∷ []) []) (posts_done n xs) (posts_done n ys))

one-made : (m : Made) (ms : List Made) → made_posts (m ∷ []) ++ made_posts ms ≡ made_posts (m ∷ ms)
one-made (Status post code) ms = refl
one-made (Result post found) ms = refl
one-made (Broken target) ms = refl

made-here : (n k : ℕ) (ms : List Made) → nat_eq k n ≡ true → posts_made n (each_in_session k ms) ≡ made_posts ms
made-here n k [] e = refl
made-here n k (m ∷ ms) e =
    ap (λ b. cond b (made_posts (m ∷ [])) [] ++ posts_made n (each_in_session k ms)) e
    ∙ ap (λ l. made_posts (m ∷ []) ++ l) (made-here n k ms e) ∙ one-made m ms

made-elsewhere : (n k : ℕ) (ms : List Made) → nat_eq k n ≡ false → posts_made n (each_in_session k ms) ≡ []
made-elsewhere n k [] e = refl
made-elsewhere n k (m ∷ ms) e =
    ap (λ b. cond b (made_posts (m ∷ [])) [] ++ posts_made n (each_in_session k ms)) e ∙ made-elsewhere n k ms e

done-here : (n k : ℕ) (ds : List Deed) → nat_eq k n ≡ true → posts_done n (each_in_session k ds) ≡ deed_posts ds
done-here n k [] e = refl
done-here n k (d ∷ ds) e =
    ap (λ b. cond b (d.post ∷ []) [] ++ posts_done n (each_in_session k ds)) e
    ∙ ap (λ l. d.post ∷ l) (done-here n k ds e)

done-elsewhere : (n k : ℕ) (ds : List Deed) → nat_eq k n ≡ false → posts_done n (each_in_session k ds) ≡ []
done-elsewhere n k [] e = refl
done-elsewhere n k (d ∷ ds) e =
    ap (λ b. cond b (d.post ∷ []) [] ++ posts_done n (each_in_session k ds)) e ∙ done-elsewhere n k ds e

-- ---- how often, by a weight

abbrev many : (Post → ℕ) → List Post → ℕ
many weight ps = sum_by weight ps

-- what an open group of this session will answer
abbrev waits : ℕ → (Post → ℕ) → Option Session → Option Group → ℕ
waits n weight None g = 0
waits n weight (Some s) g = cond (nat_eq s.progress.number n) (many weight (waiting_posts g)) 0

-- in this session no more was made and waits than was executed
abbrev AtMost : ℕ → (Post → ℕ) → List (InSession Made) → Option Session → Option Group → List (InSession Deed) → Type 0
AtMost n weight made o g done = many weight (posts_made n made) + waits n weight o g ≤ many weight (posts_done n done)

-- what is asked by an event that is taken was made, was given up, or waits
taken-balances : (c : Machine) (e : client.Event) (weight : Post → ℕ) → client.takes c e ≡ true
    → many weight (waiting_posts c.engine.group) + many weight ((counted_at c e).asked ++ [])
    ≡ many weight ((counted_at c e).made ++ []) + (many weight ((counted_at c e).given_up ++ [])
    + many weight (waiting_posts (client.after c e).engine.group))
taken-balances c e weight t =
    subst
    (λ b. many weight (waiting_posts c.engine.group)
    + many weight (asked_in_run c (cond b (e ∷ []) []))
    ≡ many weight (made_in_run c (cond b (e ∷ []) [])) + (many weight (given_up_in_run c (cond b (e ∷ []) []))
    + many weight (waiting_posts (client_runs.reached c (cond b (e ∷ []) [])).engine.group)))
    t (one_status_in_runs c (e ∷ []) weight)

session-balances : (c : Machine) (s : Session) (m : Parts) (nonce : List ℕ) (weight : Post → ℕ) → c.session ≡ Some s
    → client.takes_message (Some s) m ≡ true
    → many weight (waiting_posts c.engine.group) + many weight (message_counted c s.progress m nonce).asked
    ≡ many weight (message_counted c s.progress m nonce).made
    + (many weight (message_counted c s.progress m nonce).given_up
    + many weight (waiting_posts (client.outcome_machine (accepts c s.progress m nonce)).engine.group))
unfolding client.takes client.after
session-balances c s m nonce weight e t =
    let x = message_counted c s.progress m nonce in
    let taken : client.takes_message c.session m ≡ true = subst (λ o. client.takes_message o m ≡ true) (sym e) t in
    let all = subst
    (λ (o : Option Session). many weight (waiting_posts c.engine.group)
    + many weight ((session_counted c o m nonce).asked ++ [])
    ≡ many weight ((session_counted c o m nonce).made ++ [])
    + (many weight ((session_counted c o m nonce).given_up ++ [])
    + many weight (waiting_posts (client.outcome_machine (client.message_outcome c o m nonce)).engine.group)))
    e (taken-balances c (client.message (Ok m) nonce) weight taken) in
    let asked = sum_by-append weight x.asked [] in
    let made = sum_by-append weight x.made [] in
    let given_up = sum_by-append weight x.given_up [] in
    omega (arith, all, asked, made, given_up)

-- ---- a message that the client takes

waits-turned : (n : ℕ) (weight : Post → ℕ) (p : Progress) (msg b : ℕ) (x : Outcome) (g : Option Group)
    → Turned p msg b x
    → waits n weight (client.outcome_machine x).session g ≤ cond (nat_eq p.number n) (many weight (waiting_posts g)) 0
waits-turned n weight p msg b (goes_on c) g h = by c.session h.1
  where
    by : (o : Option Session) → OpenAs (Turns p msg) o
        → waits n weight o g ≤ cond (nat_eq p.number n) (many weight (waiting_posts g)) 0
    by None k = absurd k
    by (Some t) k =
        let same = ap (λ i. cond (nat_eq i n) (many weight (waiting_posts g)) 0) k.number in
        omega (arith, same)
waits-turned n weight p msg b (ends c e) g h =
    subst (λ o. waits n weight o g ≤ cond (nat_eq p.number n) (many weight (waiting_posts g)) 0) (sym h.1) (omega arith)

done-in : (n k : ℕ) (weight : Post → ℕ) (run : Bool) (ds : List Deed) (ps : List Post) → nat_eq k n ≡ true
    → deed_posts ds ≡ ps
    → many weight (posts_done n (cond run (each_in_session k ds) [])) ≡ many weight (cond run ps [])
done-in n k weight true ds ps e f = ap (many weight) (done-here n k ds e ∙ f)
done-in n k weight false ds ps e f = refl

done-out : (n k : ℕ) (weight : Post → ℕ) (run : Bool) (ds : List Deed) → nat_eq k n ≡ false
    → many weight (posts_done n (cond run (each_in_session k ds) [])) ≡ 0
done-out n k weight true ds e = ap (many weight) (done-elsewhere n k ds e)
done-out n k weight false ds e = refl

accepts-at-most : (n : ℕ) (weight : Post → ℕ) (c : Machine) (s : Session) (m : Parts) (nonce : List ℕ)
    (made : List (InSession Made)) (done : List (InSession Deed)) → c.session ≡ Some s
    → client.takes_message (Some s) m ≡ true
    → AtMost n weight made (Some s) c.engine.group done
    → AtMost n weight (made ++ made_in c s.progress m nonce) (client.outcome_machine (accepts c s.progress m nonce)).session
    (client.outcome_machine (accepts c s.progress m nonce)).engine.group (done ++ deeds_in c s.progress m nonce)
accepts-at-most n weight c s m nonce made done e t h = by (nat_eq s.progress.number n) refl
  where
    by : (b : Bool) → nat_eq s.progress.number n ≡ b
        → AtMost n weight (made ++ made_in c s.progress m nonce)
        (client.outcome_machine (accepts c s.progress m nonce)).session
        (client.outcome_machine (accepts c s.progress m nonce)).engine.group (done ++ deeds_in c s.progress m nonce)
    by true here =
        let p = s.progress in
        let run = is_executed p m (heard_by c p m nonce) in
        let ms = (executed c p m (heard_by c p m nonce)).made in
        let ds = all_deeds (origin_of m) m.body in
        let g = (client.outcome_machine (accepts c p m nonce)).engine.group in
        let all = session-balances c s m nonce weight e t in
        let a = ap (many weight) (made-append n made (each_in_session p.number ms)) in
        let b = sum_by-append weight (posts_made n made) (posts_made n (each_in_session p.number ms)) in
        let d = ap (many weight) (made-here n p.number ms here) in
        let f = ap (many weight) (done-append n done (cond run (each_in_session p.number ds) [])) in
        let i = sum_by-append weight (posts_done n done) (posts_done n (cond run (each_in_session p.number ds) [])) in
        let j = done-in n p.number weight run ds (all_asked (origin_of m) m.body) here
        (all-posts (origin_of m) m.body) in
        let before = ap (λ b. cond b (many weight (waiting_posts c.engine.group)) 0) here in
        let now = waits-turned n weight p m.header.msg c.begun (accepts c p m nonce) g (message-turned c p m nonce) in
        let most = ap (λ b. cond b (many weight (waiting_posts g)) 0) here in
        omega (arith, h, all, a, b, d, f, i, j, before, now, most)
    by false elsewhere =
        let p = s.progress in
        let run = is_executed p m (heard_by c p m nonce) in
        let ms = (executed c p m (heard_by c p m nonce)).made in
        let ds = all_deeds (origin_of m) m.body in
        let g = (client.outcome_machine (accepts c p m nonce)).engine.group in
        let a = ap (many weight) (made-append n made (each_in_session p.number ms)) in
        let b = sum_by-append weight (posts_made n made) (posts_made n (each_in_session p.number ms)) in
        let d = ap (many weight) (made-elsewhere n p.number ms elsewhere) in
        let f = ap (many weight) (done-append n done (cond run (each_in_session p.number ds) [])) in
        let i = sum_by-append weight (posts_done n done) (posts_done n (cond run (each_in_session p.number ds) [])) in
        let j = done-out n p.number weight run ds elsewhere in
        let now = waits-turned n weight p m.header.msg c.begun (accepts c p m nonce) g (message-turned c p m nonce) in
        let most = ap (λ b. cond b (many weight (waiting_posts g)) 0) elsewhere in
        omega (arith, h, a, b, d, f, i, j, now, most)

-- ---- events

-- the same, with nothing more
same-at-most : (n : ℕ) (weight : Post → ℕ) (made : List (InSession Made)) (o : Option Session) (g : Option Group)
    (done : List (InSession Deed)) → AtMost n weight made o g done
    → AtMost n weight (made ++ []) o g (done ++ [])
same-at-most n weight made o g done h =
    subst (λ l. AtMost n weight l o g (done ++ [])) (sym (append-nil made))
    (subst (λ l. AtMost n weight made o g l) (sym (append-nil done)) h)

down-at-most : (n : ℕ) (weight : Post → ℕ) (c : Machine) (o : Option Session) (m : Parts) (nonce : List ℕ)
    (made : List (InSession Made)) (done : List (InSession Deed)) (x : Machine) → c.session ≡ o
    → x ≡ cond (client.takes_message o m) (client.outcome_machine (client.message_outcome c o m nonce)) c
    → AtMost n weight made o c.engine.group done
    → AtMost n weight (made ++ made_by c o m nonce) x.session x.engine.group (done ++ deeds_by c o m nonce)
down-at-most n weight c None m nonce made done x e f h =
    subst (λ (x : Machine). AtMost n weight (made ++ []) x.session x.engine.group (done ++ [])) (sym f)
    (same-at-most n weight made c.session c.engine.group done
    (subst (λ o. AtMost n weight made o c.engine.group done) (sym e) h))
down-at-most n weight c (Some s) m nonce made done x e f h =
    subst
    (λ (x : Machine). AtMost n weight (made ++ made_by c (Some s) m nonce) x.session x.engine.group
    (done ++ deeds_by c (Some s) m nonce))
    (sym f)
    (by (client.takes_message (Some s) m) refl)
  where
    by : (b : Bool) → client.takes_message (Some s) m ≡ b
        → AtMost n weight (made ++ cond b (made_in c s.progress m nonce) [])
        (cond b (client.outcome_machine (accepts c s.progress m nonce)) c).session
        (cond b (client.outcome_machine (accepts c s.progress m nonce)) c).engine.group
        (done ++ cond b (deeds_in c s.progress m nonce) [])
    by true t = accepts-at-most n weight c s m nonce made done e t h
    by false t =
        same-at-most n weight made c.session c.engine.group done
        (subst (λ o. AtMost n weight made o c.engine.group done) (sym e) h)

-- a machine after an event, with what was made and executed before
abbrev Stays : ℕ → (Post → ℕ) → List (InSession Made) → List (InSession Deed) → Machine → Type 0
Stays n weight made done c = AtMost n weight made c.session c.engine.group done

zero-both : (b : Bool) → ◌≡◌ {A = ℕ} (cond b 0 0) 0
zero-both true = refl
zero-both false = refl

begins-stays : (n : ℕ) (weight : Post → ℕ) (made : List (InSession Made)) (done : List (InSession Deed)) (c : Machine)
    (account : ℕ) (kind : Initiator) (k : ℕ) → Stays n weight made done c
    → Stays n weight made done (begins c account kind k)
unfolding begins sends abandoned
begins-stays n weight made done c account kind k h = let none = zero-both (nat_eq k n) in omega (arith, h, none)

opened-stays : (n : ℕ) (weight : Post → ℕ) (made : List (InSession Made)) (done : List (InSession Deed)) (c : Machine)
    (account : ℕ) (kind : Initiator) (k : ℕ) → Stays n weight made done c
    → Stays n weight made done (client_runs.next c (client.opened account kind k))
unfolding client_runs.next client.takes client.after
opened-stays n weight made done c account kind k h =
    either (Stays n weight made done) (nat_lt c.begun k) {x = begins c account kind k} {y = c}
    (begins-stays n weight made done c account kind k h) h

act-stays : (n : ℕ) (weight : Post → ℕ) (made : List (InSession Made)) (done : List (InSession Deed)) (c : Machine)
    (ok : Bool) → Stays n weight made done c
    → Stays n weight made done (client_runs.next c (client.act ok))
unfolding client_runs.next client.after ends_update
act-stays n weight made done c ok h =
    either (Stays n weight made done) (client.takes c (client.act ok)) {x = ends_update c ok} {y = c} h h

clock-stays : (n : ℕ) (weight : Post → ℕ) (made : List (InSession Made)) (done : List (InSession Deed)) (c : Machine)
    (stamp : Stamp) → Stays n weight made done c
    → Stays n weight made done (client_runs.next c (client.clock stamp))
unfolding client_runs.next client.takes client.after
clock-stays n weight made done c stamp h = h

loss-stays : (n : ℕ) (weight : Post → ℕ) (made : List (InSession Made)) (done : List (InSession Deed)) (c : Machine)
    → Stays n weight made done c
    → Stays n weight made done (client_runs.next c client.loss)
unfolding client_runs.next client.takes
loss-stays n weight made done c h = h

message-is : (c : Machine) (m : Parts) (nonce : List ℕ) → client_runs.next c (client.message (Ok m) nonce)
    ≡ cond (client.takes_message c.session m) (client.outcome_machine (client.message_outcome c c.session m nonce)) c
unfolding client_runs.next client.takes client.after
message-is c m nonce = refl

-- ---- the world

abbrev Balanced : ℕ → (Post → ℕ) → World → Type 0
Balanced n weight w = Stays n weight w.made w.executed w.client

down-balanced : (n : ℕ) (weight : Post → ℕ) (w : World) (o : Option Reply) (nonce : List ℕ) → Balanced n weight w
    → Balanced n weight (down_delivered w o nonce)
down-balanced n weight w None nonce h = h
down-balanced n weight w (Some d) nonce h =
    down-at-most n weight w.client w.client.session d.message nonce w.made w.executed
    (client_runs.next w.client (client.message (Ok d.message) nonce)) refl (message-is w.client d.message nonce) h

up-balanced : (n : ℕ) (weight : Post → ℕ) (w : World) (o : Option Parts) (nonce : List ℕ) → Balanced n weight w
    → Balanced n weight (up_delivered w o nonce)
up-balanced n weight w None nonce h = h
up-balanced n weight w (Some m) nonce h = h

happens-balanced : (n : ℕ) (weight : Post → ℕ) (w : World) (e : Happening) → Balanced n weight w
    → Balanced n weight (happens w e)
unfolding happens
happens-balanced n weight w (opens account kind k) h = opened-stays n weight w.made w.executed w.client account kind k h
happens-balanced n weight w (up_comes k nonce) h = up-balanced n weight w (slice_get w.ups k) nonce h
happens-balanced n weight w (down_comes k nonce) h = down-balanced n weight w (slice_get w.downs k) nonce h
happens-balanced n weight w (update_ends ok) h = act-stays n weight w.made w.executed w.client ok h
happens-balanced n weight w (clock_moves stamp) h = clock-stays n weight w.made w.executed w.client stamp h
happens-balanced n weight w is_lost h = loss-stays n weight w.made w.executed w.client h
happens-balanced n weight w finds_no_memory h = h

run-balanced : (n : ℕ) (weight : Post → ℕ) (w : World) (es : List Happening) → Balanced n weight w
    → Balanced n weight (run w es)
run-balanced n weight w [] h = h
run-balanced n weight w (e ∷ es) h = run-balanced n weight (happens w e) es (happens-balanced n weight w e h)

start-balanced : (n : ℕ) (weight : Post → ℕ) (c : Machine) (job : Job) → IsWorldStart c job
    → Balanced n weight (at_start c job)
start-balanced n weight c job h =
    subst (λ o. AtMost n weight [] o c.engine.group []) (sym h.unused.1) (omega arith)

-- ---- what answers these two numbers

abbrev hits : ℕ → ℕ → Post → ℕ
hits msg cmd p = cond (nat_eq p.msg msg && nat_eq p.command cmd) 1 0

hit-one : (msg cmd : ℕ) (p : Post) → p.msg ≡ msg → p.command ≡ cmd → hits msg cmd p ≡ 1
hit-one msg cmd p e f =
    let a = (same-tests p.msg msg e).2 in
    let b = (same-tests p.command cmd f).2 in
    rw (a, b) refl

made-hits : (n msg cmd code : ℕ) (post : Post) (made : List (InSession Made))
    → Contains made (record { session = n; what = Status post code }) → post.msg ≡ msg → post.command ≡ cmd
    → 1 ≤ many (hits msg cmd) (posts_made n made)
made-hits n msg cmd code post [] (k, low, at) e f = absurd (omega (arith, low))
made-hits n msg cmd code post (x ∷ xs) (zero, low, at) e f =
    let here : 1 ≤ many (hits msg cmd) (post ∷ posts_made n xs) =
    (let first = sum_by-cons (hits msg cmd) post (posts_made n xs) in
    let one = hit-one msg cmd post e f in
    omega (arith, first, one)) in
    subst
    (λ (y : InSession Made). 1
    ≤ many (hits msg cmd) (cond (nat_eq y.session n) (made_posts (y.what ∷ [])) [] ++ posts_made n xs))
    (sym at)
    (subst (λ b. 1 ≤ many (hits msg cmd) (cond b (post ∷ []) [] ++ posts_made n xs)) (sym (eq-self n)) here)
made-hits n msg cmd code post (x ∷ xs) (suc k, low, at) e f =
    let rest = made-hits n msg cmd code post xs (k, omega (arith, low), at) e f in
    let first = cond (nat_eq x.session n) (made_posts (x.what ∷ [])) [] in
    let sum = sum_by-append (hits msg cmd) first (posts_made n xs) in
    omega (arith, rest, sum)

executed-later : (x : InSession Deed) (xs : List (InSession Deed)) (n msg cmd : ℕ) → WasExecuted xs n msg cmd
    → WasExecuted (x ∷ xs) n msg cmd
executed-later x xs n msg cmd h = record {
  deed = h.deed;
  within = later_in _ x xs h.within;
  msg_is = h.msg_is;
  command_is = h.command_is;
}

-- what stands first answers these two numbers, or what comes later does
first-hits : (n msg cmd : ℕ) (x : InSession Deed) (xs : List (InSession Deed)) (a b d : Bool) → nat_eq x.session n ≡ a
    → nat_eq x.what.post.msg msg ≡ b → nat_eq x.what.post.command cmd ≡ d
    → 1 ≤ many (hits msg cmd) (cond a (x.what.post ∷ []) [] ++ posts_done n xs)
    → WasExecuted (x ∷ xs) n msg cmd ⊎ (1 ≤ many (hits msg cmd) (posts_done n xs))
first-hits n msg cmd x xs true true true e f g h = inl (record {
  deed = x.what;
  within =
      subst (λ k. Contains (x ∷ xs) (record { session = k; what = x.what })) (eq-of x.session n e) (first_in x xs);
  msg_is = eq-of x.what.post.msg msg f;
  command_is = eq-of x.what.post.command cmd g;
})
first-hits n msg cmd x xs true true false e f g h =
    let first = sum_by-cons (hits msg cmd) x.what.post (posts_done n xs) in
    let none : hits msg cmd x.what.post ≡ 0 = rw (f, g) refl in
    inr (omega (arith, h, first, none))
first-hits n msg cmd x xs true false d e f g h =
    let first = sum_by-cons (hits msg cmd) x.what.post (posts_done n xs) in
    let none : hits msg cmd x.what.post ≡ 0 = rw f refl in
    inr (omega (arith, h, first, none))
first-hits n msg cmd x xs false b d e f g h = inr h

done-hits : (n msg cmd : ℕ) (done : List (InSession Deed)) → 1 ≤ many (hits msg cmd) (posts_done n done)
    → WasExecuted done n msg cmd
done-hits n msg cmd [] h = absurd (omega (arith, h))
done-hits n msg cmd (x ∷ xs) h =
    by (λ k. done-hits n msg cmd xs k)
    (first-hits n msg cmd x xs (nat_eq x.session n) (nat_eq x.what.post.msg msg) (nat_eq x.what.post.command cmd) refl
    refl
    refl h)
  where
    by : (1 ≤ many (hits msg cmd) (posts_done n xs) → WasExecuted xs n msg cmd)
        → WasExecuted (x ∷ xs) n msg cmd ⊎ (1 ≤ many (hits msg cmd) (posts_done n xs))
        → WasExecuted (x ∷ xs) n msg cmd
    by later (inl k) = k
    by later (inr k) = executed-later x xs n msg cmd (later k)

pub answers_the_executed : AnswersTheExecuted
answers_the_executed c job hs n msg cmd code start range h =
    let w = run (at_start c job) hs in
    let all = run-balanced n (hits msg cmd) (at_start c job) hs (start-balanced n (hits msg cmd) c job start) in
    let some = made-hits n msg cmd code h.post w.made h.within h.msg_is h.command_is in
    done-hits n msg cmd w.executed (omega (arith, all, some))

-- ---- what is executed stands in a message of the server

number-said : (o : Option ℕ) (n : ℕ) → is_same_number o n ≡ true → o ≡ Some n
number-said None n h = cc
number-said (Some k) n h = ap Some (eq-of k n h)

abbrev pub AllStand : List Reply → List (InSession Deed) → Type 0
AllStand downs = Each (StandsInMessage downs)

more-sent : (downs : List Reply) (o : Option Reply) (xs : List (InSession Deed)) → AllStand downs xs
    → AllStand (with_new downs o) xs
more-sent downs None xs h = h
more-sent downs (Some r) xs h =
    each-map {P = StandsInMessage downs} {Q = StandsInMessage (r ∷ downs)}
    (λ x s. record {
      at = suc s.at;
      reply = s.reply;
      was_sent = s.was_sent;
      session_is = s.session_is;
      within = s.within;
    }) xs h

these-stand : (downs : List Reply) (k : ℕ) (d : Reply) (n : ℕ) (ds : List Deed) → slice_get downs k ≡ Some d
    → session_of d.message ≡ Some n
    → ((x : Deed) → Contains ds x → Contains (all_deeds (origin_of d.message) d.message.body) x)
    → AllStand downs (each_in_session n ds)
these-stand downs k d n [] e f all = tt
these-stand downs k d n (x ∷ xs) e f all = (
  record { at = k; reply = d; was_sent = e; session_is = f; within = all x (first_in x xs) },
  these-stand downs k d n xs e f (λ y h. all y (later_in y x xs h)),
)

deeds-stand : (w : World) (k : ℕ) (d : Reply) (nonce : List ℕ) (o : Option Session) → slice_get w.downs k ≡ Some d
    → AllStand w.downs (deeds_by w.client o d.message nonce)
deeds-stand w k d nonce None e = tt
deeds-stand w k d nonce (Some s) e = by (client.takes_message (Some s) d.message) refl
  where
    by : (b : Bool) → client.takes_message (Some s) d.message ≡ b
        → AllStand w.downs (cond b (deeds_in w.client s.progress d.message nonce) [])
    by true t =
        let mine = and-left (client.is_of s d.message) (nat_lt (client.last_of s) d.message.header.msg) t in
        either (AllStand w.downs) (is_executed s.progress d.message (heard_by w.client s.progress d.message nonce))
        {x = each_in_session s.progress.number (all_deeds (origin_of d.message) d.message.body)} {y = []}
        (these-stand w.downs k d s.progress.number (all_deeds (origin_of d.message) d.message.body) e
        (number-said (session_of d.message) s.progress.number mine) (λ x h. h)) tt
    by false t = tt

abbrev pub Stand : World → Type 0
Stand w = AllStand w.downs w.executed

up-stands : (w : World) (o : Option Parts) (nonce : List ℕ) → Stand w → Stand (up_delivered w o nonce)
up-stands w None nonce h = h
up-stands w (Some m) nonce h =
    more-sent w.downs (replied (server_runs.answer_now w.server (arrival m nonce)) m) w.executed h

down-stands : (w : World) (k : ℕ) (o : Option Reply) (nonce : List ℕ) → slice_get w.downs k ≡ o → Stand w
    → Stand (down_delivered w o nonce)
down-stands w k None nonce e h = h
down-stands w k (Some d) nonce e h =
    each-append (StandsInMessage w.downs) w.executed (deeds_by w.client w.client.session d.message nonce) h
    (deeds-stand w k d nonce w.client.session e)

happens-stands : (w : World) (e : Happening) → Stand w → Stand (happens w e)
unfolding happens
happens-stands w (opens account kind n) h = h
happens-stands w (up_comes k nonce) h = up-stands w (slice_get w.ups k) nonce h
happens-stands w (down_comes k nonce) h = down-stands w k (slice_get w.downs k) nonce refl h
happens-stands w (update_ends ok) h = h
happens-stands w (clock_moves stamp) h = h
happens-stands w is_lost h = h
happens-stands w finds_no_memory h = h

pub run-stands : (w : World) (es : List Happening) → Stand w → Stand (run w es)
run-stands w [] h = h
run-stands w (e ∷ es) h = run-stands (happens w e) es (happens-stands w e h)

pub executes_the_sent : ExecutesTheSent
executes_the_sent c job hs x start range h =
    let w = run (at_start c job) hs in
    each-contains (StandsInMessage w.downs) w.executed x (run-stands (at_start c job) hs tt) h
