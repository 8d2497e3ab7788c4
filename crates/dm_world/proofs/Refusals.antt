-- The client executes each message that it takes, or refuses the server's first one and says so, or ends its session.
use Rattle.std.proofs.Common.{suc, ◌≡◌, ◌<◌, ◌≤◌, ◌+◌, ◌&&◌, ◌||◌, ◌^◌, ℕ, Bool, true, false, cond}
use Rattle.std.proofs.Common.{not}
use Rattle.std.proofs.Common.{List, [], ◌∷◌, ◌++◌, Option, None, Some, map, refl, sym, ◌∙◌, ap, subst, arith}
use Rattle.std.proofs.Common.{◌⊎◌, inl, inr, take, drop}
use Rattle.std.specs.Prelude.{codes, nat_eq, set, unwrap_or}
use Rattle.std.specs.List.{list_any, AllByRecursion}
use Rattle.std.specs.Option.{option_or}
use Rattle.std.proofs.lemmas.Bool.{eqb-false}
use Rattle.std.proofs.lemmas.Bool.Decides.{nat_tests}
use Rattle.syncml_types.specs.declared.values.Cred.{Cred}
use Rattle.syncml_types.specs.declared.values.Header.{Header}
use Rattle.syncml_types.specs.declared.command.StatusCmd.{StatusCmd}
use Rattle.syncml_types.specs.declared.command.Command.{Command}
use Rattle.syncml_types.specs.declared.command.Command.TheVariants as command
use Rattle.syncml_types.specs.Message.{Parts}
use Rattle.syncml_parts.specs.Numbering.{with_numbers}
use Rattle.dm_auth.specs.declared.accounts.Account.{Account}
use Rattle.dm_auth.specs.declared.credentials.Verdict.{Verdict}
use Rattle.dm_auth.specs.declared.credentials.Verdict.TheVariants.{Missing, Accepted, Wrong}
use Rattle.dm_auth.specs.Digests.{verdict, challenge}
use Rattle.dm_headers.specs.declared.checks.Side.TheVariants.{Server}
use Rattle.dm_headers.specs.declared.standings.Standing.{Standing}
use Rattle.dm_headers.specs.Checks.{Login, login_of, fault_of, judged, judged_by, verdict_code, header_code, is_denied}
use Rattle.dm_headers.specs.Checks.{is_challenged, passes, header_status, code_read}
use Rattle.dm_headers.specs.Headers.{is_withheld, status_of, header_answer}
use Rattle.dm_headers.specs.Standings.{Heard, hears}
use Rattle.dm_tree.specs.Nodes.{Nodes}
use Rattle.dm_atomic.specs.Posts.{all_asked, made_posts, waiting_posts}
use Rattle.dm_atomic.specs.Made.{told}
use Rattle.dm_atomic.specs.Run.{Next, abandoned, quietly}
use Rattle.dm_pack.specs.Entries.{Entry, IsReady, whole_entry}
use Rattle.dm_pack.specs.Filling.{fill, taken, cut, fits_room, commands_of, next_part, next_rest, tail_of}
use Rattle.dm_pack.specs.Filling.{tail_commands}
use Rattle.dm_pack.specs.Filling.{numbered, IsReadyHeader}
use Rattle.dm_pack.proofs.Progress.{the_first_goes_out}
use Rattle.dm_ends.specs.Commands.{alert, is_abort, origin_of}
use Rattle.dm_ends.proofs.Hearing.{hears_ready}
use Rattle.dm_machine.specs.declared.kinds.Initiator.{Initiator}
use Rattle.dm_machine.specs.declared.kinds.End.TheVariants.{Finished, Aborted}
use Rattle.dm_machine.specs.declared.progress.Progress.{Progress}
use Rattle.dm_machine.specs.declared.progress.UpdateResult.{UpdateResult}
use Rattle.dm_machine.specs.Machine.{Session, Machine}
use Rattle.dm_machine.specs.Opening.{result_alert, update_uri, device_told, opening, first_package}
use Rattle.dm_machine.specs.Sending.{header_from, sends}
use Rattle.dm_machine.specs.Messages.{Outcome, goes_on, ends, begins, Waits, waits_after, is_over}
use Rattle.dm_machine.specs.Messages.{account_at, closed, finished, first_progress, denied, run_of, answered, by_header}
use Rattle.dm_machine.specs.Messages.{execute, is_last_own, accepts, ends_update}
use Rattle.dm_machine.specs.Statuses.{is_executed}
use Rattle.dm_machine.specs.Events as client
use Rattle.dm_machine.specs.Ready.{IsReadyMachine, IsReadyProgress, IsReadyMessage}
use Rattle.dm_machine.proofs.Statuses.{one_status_each}
use Rattle.dm_machine.proofs.StaysSending.{apart}
use Rattle.dm_machine.proofs.StaysWaiting.{IsToSend, answering, behind_answer, header_to_send, account_ready}
use Rattle.dm_machine.proofs.StaysReady.{waits_ready}
use Rattle.dm_world.specs.World.{said}
use Rattle.dm_world.proofs.Lists.{either, either_is, Each, each-append}
use Rattle.dm_world.proofs.Numbers.{HasNumbers}
use Rattle.dm_world.proofs.Client.{OpenAs}
use Rattle.dm_world.proofs.Calm.{Counted, NoHeader, asked-counted, made-counted, Calm, Mild, CalmEntry, MildEntry}
use Rattle.dm_world.proofs.Calm.{IsMild}
use Rattle.dm_world.proofs.Calm.{commands-mild, entries-mild, fresh-calm, fresh-mild, told-calm, own-calm, own-mild}
use Rattle.dm_world.proofs.Calm.{says}
use Rattle.dm_world.proofs.Calm.{body-calm, body-mild, calm-kept, mild-kept, fill-each, again-each}

-- ---- the client's state

-- until it accepts the server it has refused all that came, and it refuses one at most and goes on
abbrev pub Trusts : Standing → Type 0
Trusts s =
    (s.accepted ≡ true)
    ⊎ ((s.accepted ≡ false)
    × (((s.they_failed ≡ false) × (s.last ≡ 0)) ⊎ ((s.they_failed ≡ true) × (s.last ≡ 1))))

pub record SessionFine (queue : List Entry) (s : Standing) : Type 0 where
  pub trusts : Trusts s
  pub rose : s.they_failed ≡ true → 0 < s.last
  pub unseen : s.last ≡ 0 → s.accepted ≡ false
  pub calm : s.they_failed ≡ false → Each CalmEntry queue

abbrev pub OpenFine : List Entry → Option Session → Type 0
OpenFine queue None = Unit {0}
OpenFine queue (Some s) = SessionFine queue s.progress.standing

pub record Quiet (c : Machine) : Type 0 where
  pub queue : Each MildEntry c.queue
  pub waits : NoHeader (waiting_posts c.engine.group)
  pub session : OpenFine c.queue c.session

closed-quiet : (c : Machine) → Quiet (closed c)
unfolding abandoned
closed-quiet c = record { queue = tt; waits = refl; session = tt }

finished-quiet : (c : Machine) → Quiet (finished c)
unfolding abandoned
finished-quiet c = record { queue = tt; waits = refl; session = tt }

-- ---- beginning

alerts-calm : (uri : List ℕ) (results : List UpdateResult) (more : List Command) → Each Calm more
    → Each Calm (map (result_alert uri) results ++ more)
alerts-calm uri [] more h = h
alerts-calm uri (r ∷ rs) more h = (tt, alerts-calm uri rs more h)

opening-calm : (kind : Initiator) (results : List UpdateResult) (tree : Nodes) → Each Calm (opening kind results tree)
opening-calm kind results tree = (tt, alerts-calm (update_uri tree) results (device_told tree ∷ []) (tt, tt))

first-calm : (c : Machine) (kind : Initiator) → Each CalmEntry (first_package c kind)
first-calm c kind = fresh-calm (opening kind c.results c.engine.tree) (opening-calm kind c.results c.engine.tree)

-- what a session that was sent for has: what waits, and the message
pub record SentFine (c : Machine) (s : Standing) (t : Session) : Type 0 where
  pub mild : IsMild t.sent
  pub standing : (t.progress.standing.accepted ≡ s.accepted) × (t.progress.standing.they_failed ≡ s.they_failed)
  pub last : t.progress.standing.last ≡ s.last

begins-sent : (c : Machine) (p : Progress) (a : Account) → Each CalmEntry c.queue
    → NoHeader (waiting_posts c.engine.group)
    → (p.standing.accepted ≡ false) × (p.standing.they_failed ≡ false) × (p.standing.last ≡ 0)
    → Quiet (sends c p a) × OpenAs (λ (t : Session). Each Calm t.sent.body) (sends c p a).session
unfolding sends
begins-sent c p a calm waits first =
    let h = header_from c p a in
    let f = fill-each Calm calm-kept c.queue h p.standing.room p.standing.heard calm in (
      record {
        queue = entries-mild (fill c.queue h p.standing.room p.standing.heard).left f.1;
        waits = waits;
        session = record {
          trusts = inr (first.0, inl (first.1, first.2));
          rose = λ e. absurd (let k = first.1 in cc);
          unseen = λ e. first.0;
          calm = λ e. f.1;
        };
      },
      f.0,
    )

pub begins-quiet : (c : Machine) (account : ℕ) (kind : Initiator) (n : ℕ)
    → Quiet (begins c account kind n)
    × OpenAs (λ (t : Session). Each Calm t.sent.body) (begins c account kind n).session
unfolding begins
begins-quiet c account kind n =
    let d = closed c in
    let first = first_package d kind in
    let p = first_progress account kind n first in
    let e : Machine = record d { queue = first; begun = n; resp_uri = None; farewell = None } in
    begins-sent e p (account_at d account) (first-calm d kind) (closed-quiet c).waits (refl, refl, refl)

-- ---- the header's code

-- it passes, or it refuses the server, which none was accepted of
abbrev pub CodeIs : Bool → ℕ → Type 0
CodeIs accepted code =
    ((passes code ≡ true) × (is_denied code ≡ false))
    ⊎ ((passes code ≡ false) × (is_denied code ≡ true) × (accepted ≡ false))

verdict-is : (accepted : Bool) (v : Verdict) → accepted ≡ false → CodeIs accepted (verdict_code v)
verdict-is accepted Accepted a = inl (refl, refl)
verdict-is accepted Missing a = inr (refl, refl, a)
verdict-is accepted Wrong a = inr (refl, refl, a)

judged-is : (accepted : Bool) (name password : Option (List ℕ)) (nonce : List ℕ) (cred : Option Cred)
    → CodeIs accepted (judged accepted name password nonce cred)
judged-is accepted None password nonce cred = inl (refl, refl)
judged-is accepted (Some name) None nonce cred = inl (refl, refl)
judged-is accepted (Some name) (Some password) nonce cred =
    either_is (CodeIs accepted) accepted {x = 200} {y = verdict_code (verdict name password nonce cred)}
    (λ e. inl (refl, refl)) (λ e. verdict-is accepted (verdict name password nonce cred) e)

code-is : (accepted : Bool) (login : Login) (m : Parts) → fault_of m ≡ None
    → CodeIs accepted (header_code accepted login m)
unfolding header_code
code-is accepted login m f =
    subst (λ x. CodeIs accepted (unwrap_or x (judged_by accepted login m.header.cred))) (sym f)
    (judged-is accepted login.name login.password login.nonce m.header.cred)

-- ---- the header's Status stands first in the message that answers

status-taken : (c : StatusCmd) (es : List Entry) (h : Header) (room : ℕ) (heard : Bool)
    → IsReady (whole_entry (command.Status c))
    → IsReadyHeader h
    → 2048 ≤ room
    → fits_room h room (command.Status c ∷ []) ≡ true
unfolding fill
status-taken c es h room heard ready header least =
    by (fits_room h room (command.Status c ∷ [])) refl
    (the_first_goes_out (whole_entry (command.Status c)) es h room heard ready header least)
  where
    by : (b : Bool) → fits_room h room (command.Status c ∷ []) ≡ b
        → (0 < cond b (suc (taken h room (command.Status c ∷ []) es)) 0)
        ⊎ ((cond b (suc (taken h room (command.Status c ∷ []) es)) 0 ≡ 0)
        × (0 < cut h room (commands_of (take (cond b (suc (taken h room (command.Status c ∷ []) es)) 0)
        (whole_entry (command.Status c) ∷ es)))
        (drop (cond b (suc (taken h room (command.Status c ∷ []) es)) 0) (whole_entry (command.Status c) ∷ es))))
        → b ≡ true
    by true e g = refl
    by false e (inl g) = absurd (omega (arith, g))
    by false e (inr g) = absurd (let z = g.1 in omega (arith, z))

status-first : (c : StatusCmd) (es : List Entry) (h : Header) (room : ℕ) (heard : Bool)
    → fits_room h room (command.Status c ∷ []) ≡ true
    → (more : List Command)
    × ((fill (whole_entry (command.Status c) ∷ es) h room heard).message.body
    ≡ with_numbers 1 (command.Status c) ∷ more)
unfolding fill
status-first c es h room heard e = by (fits_room h room (command.Status c ∷ [])) e
  where
    body_of : ℕ → List Command
    body_of whole =
        let all = whole_entry (command.Status c) ∷ es in
        let before = commands_of (take whole all) in
        let n = cut h room before (drop whole all) in
        numbered 1 (before ++ next_part n (drop whole all) ++ tail_commands
        (tail_of (next_rest n (drop whole all)) heard))

    by : (b : Bool) → b ≡ true
        → (more : List Command)
        × (body_of (cond b (suc (taken h room (command.Status c ∷ []) es)) 0) ≡ with_numbers 1 (command.Status c) ∷
        more)
    by true e = (_, refl)
    by false e = cc

abbrev own_status : Header → ℕ → List ℕ → StatusCmd
own_status h code nonce = record {
  id = 0;
  msg_ref = h.msg;
  cmd_ref = 0;
  cmd = codes "SyncHdr";
  target_refs = [];
  source_refs = [];
  chal = cond (is_challenged code) (Some (challenge nonce)) None;
  code = code;
  items = [];
}

first-says : (h : Header) (code : ℕ) (nonce : List ℕ) (more : List Command) → h.msg ≡ 1 → is_denied code ≡ true
    → is_denied (code_read (header_status 1 (with_numbers 1 (status_of h code nonce) ∷ more))) ≡ true
unfolding with_numbers
first-says h code nonce more one d = let e : nat_eq h.msg 1 ≡ true = rw one refl in rw e d

answer-is : (h : Header) (code : ℕ) (nonce : List ℕ) → is_denied code ≡ true
    → header_answer h code nonce ≡ status_of h code nonce ∷ []
unfolding header_answer
answer-is h code nonce d = by h.no_resp
  where
    by : (b : Bool) → cond (b && not (is_denied code)) [] (status_of h code nonce ∷ []) ≡ status_of h code nonce ∷ []
    by false = refl
    by true = rw d refl

says-refused : (m : Header) (code : ℕ) (nonce : List ℕ) (answer : List Command) (waiting : List Entry) (h : Header)
    (room : ℕ) (heard : Bool)
    → answer ≡ status_of m code nonce ∷ []
    → is_denied code ≡ true
    → m.msg ≡ 1
    → AllByRecursion IsReady (map whole_entry answer ++ waiting)
    → IsReadyHeader h
    → 2048 ≤ room
    → is_denied (code_read (header_status 1 (fill (map whole_entry answer ++ waiting) h room heard).message.body))
    ≡ true
says-refused m code nonce answer waiting h room heard e d one ready header least =
    let q : (map whole_entry answer ++ waiting) ≡ whole_entry (status_of m code nonce) ∷ waiting =
    ap (λ o. map whole_entry o ++ waiting) e in
    let first = subst (AllByRecursion IsReady) q ready in
    let taken = status-taken _ waiting h room heard first.0 header least in
    let f = status-first _ waiting h room heard taken in
    subst (λ z. is_denied (code_read (header_status 1 (fill z h room heard).message.body)) ≡ true) (sym q)
    (subst (λ b. is_denied (code_read (header_status 1 b)) ≡ true) (sym f.1) (first-says m code nonce f.0 one d))

-- ---- a turn of the client

-- how a message of this MsgID came to this session: it was executed and the client says so, or it was the server's
-- first, was refused, and the client says that
abbrev pub TurnIs : Standing → ℕ → Bool → Session → Type 0
TurnIs s k run t =
    IsMild t.sent
    × (((run ≡ true) × (says k t.sent ≡ false) × (t.progress.standing.accepted ≡ true)
    × (t.progress.standing.they_failed ≡ s.they_failed))
    ⊎ ((run ≡ false) × (says k t.sent ≡ true) × (s.accepted ≡ false) × (s.last ≡ 0) × (k ≡ 1)))

-- a farewell says nothing of other messages, and nothing of one whose sender was accepted
abbrev pub IfSaid : Standing → ℕ → Bool → Option Parts → Type 0
IfSaid s k run None = Unit {0}
IfSaid s k run (Some m) =
    (run ≡ false)
    × ((j : ℕ) → says j m ≡ true
    → (j ≡ k) × (s.accepted ≡ false) × ((s.last ≡ 0) ⊎ (s.they_failed ≡ true)))

abbrev pub FineTurn : Standing → ℕ → Bool → Outcome → Type 0
FineTurn s k run (goes_on c) = Quiet c × OpenAs (TurnIs s k run) c.session
FineTurn s k run (ends c e) = Quiet c × IfSaid s k run (said (client.ended e c.farewell))

-- what a header comes to
pub record HeardIs (s : Standing) (m : Parts) (h : Heard) : Type 0 where
  pub code : CodeIs s.accepted h.code
  pub failed : h.standing.they_failed ≡ (s.they_failed || is_denied h.code)
  pub accepted : h.standing.accepted ≡ (s.accepted || passes h.code)
  pub last : h.standing.last ≡ m.header.msg
  pub second : h.second ≡ false → (s.they_failed && is_denied h.code) ≡ false

or-first : (a b : Bool) → b ≡ false → (a || b) ≡ a
or-first true b e = refl
or-first false b e = e

or-second : (a b : Bool) → b ≡ true → (a || b) ≡ true
or-second true b e = refl
or-second false b e = e

either-false : (a b : Bool) → (a || b) ≡ false → a ≡ false
either-false true b h = cc
either-false false b h = refl

both-false : (a b : Bool) → b ≡ true → (a && b) ≡ false → a ≡ false
both-false true b e h = absurd (cc)
both-false false b e h = refl

heard-is : (a : Account) (s : Standing) (m : Parts) (nonce : List ℕ) → fault_of m ≡ None
    → HeardIs s m (hears Server a s m nonce)
unfolding hears
heard-is a s m nonce f = record {
  code = code-is s.accepted (login_of Server a) m f;
  failed = refl;
  accepted = refl;
  last = refl;
  second = λ e. either-false _ _ e;
}

-- ---- what is sent

sends-quiet : (c : Machine) (p : Progress) (a : Account) → Each MildEntry c.queue
    → NoHeader (waiting_posts c.engine.group)
    → SessionFine c.queue p.standing
    → Quiet (sends c p a)
unfolding sends
sends-quiet c p a mild waits f =
    let h = header_from c p a in
    record {
      queue = (fill-each Mild mild-kept c.queue h p.standing.room p.standing.heard mild).1;
      waits = waits;
      session = record {
        trusts = f.trusts;
        rose = f.rose;
        unseen = f.unseen;
        calm = λ e. (fill-each Calm calm-kept c.queue h p.standing.room p.standing.heard (f.calm e)).1;
      };
    }

-- the turn of a session that goes on with this message
sends-turn : (c : Machine) (p : Progress) (a : Account) (s : Standing) (k : ℕ) (run : Bool) → Each MildEntry c.queue
    → (((run ≡ true)
    × (is_denied (code_read (header_status k
    (fill c.queue (header_from c p a) p.standing.room p.standing.heard).message.body)) ≡ false)
    × (p.standing.accepted ≡ true) × (p.standing.they_failed ≡ s.they_failed))
    ⊎ ((run ≡ false)
    × (is_denied (code_read (header_status k
    (fill c.queue (header_from c p a) p.standing.room p.standing.heard).message.body)) ≡ true)
    × (s.accepted ≡ false) × (s.last ≡ 0) × (k ≡ 1)))
    → OpenAs (TurnIs s k run) (sends c p a).session
unfolding sends
sends-turn c p a s k run mild how =
    ((fill-each Mild mild-kept c.queue (header_from c p a) p.standing.room p.standing.heard mild).0, how)

-- ---- a message that passes

-- what waits behind the header
pub record WaitsFine (s : Standing) (h : Heard) (w : Waits) : Type 0 where
  pub standing : w.progress.standing ≡ h.standing
  pub mild : Each MildEntry w.queue
  pub calm : s.they_failed ≡ false → Each CalmEntry w.queue

passing-says : (c : Machine) (p : Progress) (a : Account) (s : Standing) (k : ℕ) → Each MildEntry c.queue
    → (s.they_failed ≡ false → Each CalmEntry c.queue)
    → (s.they_failed ≡ true → 0 < s.last)
    → k ≡ s.last + 1
    → is_denied (code_read (header_status k
    (fill c.queue (header_from c p a) p.standing.room p.standing.heard).message.body)) ≡ false
passing-says c p a s k mild calm rose next = by-failed s.they_failed refl
  where
    body : List Command
    body = (fill c.queue (header_from c p a) p.standing.room p.standing.heard).message.body

    by-said : (b : Bool) → is_denied (code_read (header_status k body)) ≡ b → s.they_failed ≡ true
        → is_denied (code_read (header_status k body)) ≡ false
    by-said false e t = e
    by-said true e t =
        let one =
        body-mild k body
        (fill-each Mild mild-kept c.queue (header_from c p a) p.standing.room p.standing.heard mild).0 e in
        let some = rose t in
        absurd (omega (arith, one, some, next))

    by-failed : (b : Bool) → s.they_failed ≡ b → is_denied (code_read (header_status k body)) ≡ false
    by-failed true t = by-said (is_denied (code_read (header_status k body))) refl t
    by-failed false t =
        body-calm k body
        (fill-each Calm calm-kept c.queue (header_from c p a) p.standing.room p.standing.heard (calm t)).0

answered-queue : (c : Machine) (w : Waits) (m : Parts) (h : Heard) (nonce : List ℕ) (n : Next)
    → Each MildEntry w.queue
    → Each Counted (made_posts n.made)
    → (is_denied h.code ≡ true → m.header.msg ≡ 1)
    → Each MildEntry (answering c w m h nonce n).queue
answered-queue c w m h nonce n mild made one =
    each-append MildEntry (map whole_entry (header_answer m.header h.code nonce)) _
    (fresh-mild (header_answer m.header h.code nonce) (own-mild m.header h.code nonce one))
    (each-append MildEntry w.queue _ mild
    (fresh-mild (told n.made) (commands-mild (told n.made) (told-calm n.made made))))

answered-calm : (c : Machine) (w : Waits) (m : Parts) (h : Heard) (nonce : List ℕ) (n : Next)
    → Each CalmEntry w.queue
    → Each Counted (made_posts n.made)
    → is_denied h.code ≡ false
    → Each CalmEntry (answering c w m h nonce n).queue
answered-calm c w m h nonce n calm made fine =
    each-append CalmEntry (map whole_entry (header_answer m.header h.code nonce)) _
    (fresh-calm (header_answer m.header h.code nonce) (own-calm m.header h.code nonce fine))
    (each-append CalmEntry w.queue _ calm (fresh-calm (told n.made) (told-calm n.made made)))

passing-fine : (c : Machine) (s : Standing) (w : Waits) (m : Parts) (h : Heard) (nonce : List ℕ) (n : Next) (run : Bool)
    → Trusts s
    → (s.they_failed ≡ true → 0 < s.last)
    → WaitsFine s h w → HeardIs s m h
    → passes h.code ≡ true
    → is_denied h.code ≡ false
    → Each Counted (made_posts n.made)
    → NoHeader (waiting_posts n.state.group)
    → m.header.msg ≡ s.last + 1
    → run ≡ true
    → FineTurn s m.header.msg run (answered c w m h nonce n)
passing-fine c s w m h nonce n run trusts rose q x pass fine made waits next ran =
    let e = answering c w m h nonce n in
    let p = behind_answer w m h nonce in
    let a = h.account in
    let mild = answered-queue c w m h nonce n q.mild made (λ d. absurd (cc)) in
    let calm : s.they_failed ≡ false → Each CalmEntry e.queue =
    λ t. answered-calm c w m h nonce n (q.calm t) made fine in
    let failed : p.standing.they_failed ≡ s.they_failed =
    ap (λ (z : Standing). z.they_failed) q.standing ∙ x.failed ∙ or-first s.they_failed (is_denied h.code) fine in
    let accepted : p.standing.accepted ≡ true =
    ap (λ (z : Standing). z.accepted) q.standing ∙ x.accepted ∙ or-second s.accepted (passes h.code) pass in
    let last : p.standing.last ≡ m.header.msg = ap (λ (z : Standing). z.last) q.standing ∙ x.last in
    either (FineTurn s m.header.msg run) (is_over m h.code (w.queue ++ map whole_entry (told n.made)))
    {x = ends (finished (record c { engine = n.state })) Finished} {y = goes_on (sends e p a)}
    (finished-quiet (record c { engine = n.state }), tt) (
      sends-quiet e p a mild waits
          (record {
            trusts = inl accepted;
            rose = λ _. omega (arith, last, next);
            unseen = λ z. absurd (omega (arith, z, last, next));
            calm = λ t. calm (sym failed ∙ t);
          }),
      sends-turn e p a s m.header.msg run mild
          (inl (ran, passing-says e p a s m.header.msg mild calm rose next, accepted, failed)),
    )

-- ---- a message that is refused

refusing-fine : (c : Machine) (s : Standing) (w : Waits) (m : Parts) (h : Heard) (nonce : List ℕ) (n : Next)
    (run : Bool)
    → Trusts s
    → WaitsFine s h w → HeardIs s m h
    → passes h.code ≡ false
    → is_denied h.code ≡ true
    → s.accepted ≡ false
    → h.second ≡ false
    → Each Counted (made_posts n.made)
    → NoHeader (waiting_posts n.state.group)
    → m.header.msg ≡ s.last + 1
    → run ≡ false
    → IsToSend (answering c w m h nonce n) (behind_answer w m h nonce) h.account
    → FineTurn s m.header.msg run (answered c w m h nonce n)
refusing-fine c s w m h nonce n run trusts q x pass deny none first made waits next ran to_send =
    let e = answering c w m h nonce n in
    let p = behind_answer w m h nonce in
    let a = h.account in
    let unfailed : s.they_failed ≡ false = both-false s.they_failed (is_denied h.code) deny (x.second first) in
    let zero_last : s.last ≡ 0 = is-first trusts unfailed in
    let one : m.header.msg ≡ 1 = omega (arith, next, zero_last) in
    let mild = answered-queue c w m h nonce n q.mild made (λ d. one) in
    let failed : p.standing.they_failed ≡ true =
    ap (λ (z : Standing). z.they_failed) q.standing ∙ x.failed ∙ or-second s.they_failed (is_denied h.code) deny in
    let accepted : p.standing.accepted ≡ false =
    ap (λ (z : Standing). z.accepted) q.standing ∙ x.accepted ∙ or-first s.accepted (passes h.code) pass ∙ none in
    let last : p.standing.last ≡ m.header.msg = ap (λ (z : Standing). z.last) q.standing ∙ x.last in
    let said_so =
    says-refused m.header h.code nonce (header_answer m.header h.code nonce) (w.queue ++ map whole_entry (told n.made))
    (header_from e p a) p.standing.room p.standing.heard (answer-is m.header h.code nonce deny) deny one
    to_send.apart.queue (header_to_send e p a to_send) to_send.progress.room.0 in
    either (FineTurn s m.header.msg run) (is_over m h.code (w.queue ++ map whole_entry (told n.made)))
    {x = ends (finished (record c { engine = n.state })) Finished} {y = goes_on (sends e p a)}
    (finished-quiet (record c { engine = n.state }), tt) (
      sends-quiet e p a mild waits
          (record {
            trusts = inr (accepted, inr (failed, last ∙ one));
            rose = λ _. omega (arith, last, one);
            unseen = λ z. absurd (omega (arith, z, last, one));
            calm = λ t. absurd (let k = failed in cc);
          }),
      sends-turn e p a s m.header.msg run mild
          (inr (
            ran,
            subst
                (λ k. is_denied (code_read (header_status k (fill e.queue (header_from e p a) p.standing.room
                p.standing.heard).message.body)) ≡ true)
                (sym one) said_so,
            none,
            zero_last,
            one,
          )),
    )
  where
    is-first : Trusts s → s.they_failed ≡ false → s.last ≡ 0
    is-first (inl t) u = absurd (let k = none in cc)
    is-first (inr (t, inl k)) u = k.1
    is-first (inr (t, inr k)) u = absurd (let f = k.0 in cc)

-- ---- a farewell

zero-code : is_denied (code_read None) ≡ false
zero-code = refl

farewell-says : (j : ℕ) (h : Header) (code : ℕ) (nonce : List ℕ)
    → is_denied (code_read (header_status j (numbered 1 (header_answer h code nonce ++ alert 1223 None [] ∷ [])))) ≡
    true
    → (j ≡ h.msg) × (is_denied code ≡ true)
unfolding header_answer with_numbers
farewell-says j h code nonce d = by (is_withheld h code) d
  where
    by-number : (b : Bool) → nat_eq h.msg j ≡ b
        → is_denied (code_read (option_or (cond b (Some (record (own_status h code nonce) { id = 1 })) None) None)) ≡
        true
        → (j ≡ h.msg) × (is_denied code ≡ true)
    by-number true e d = (let same : h.msg ≡ j = grind (arith, nat_tests) in sym same, d)
    by-number false e d = absurd (let z = zero-code in cc)

    by : (b : Bool)
        → is_denied (code_read (header_status j
        (numbered 1 (cond b [] (status_of h code nonce ∷ []) ++ alert 1223 None [] ∷ [])))) ≡ true
        → (j ≡ h.msg) × (is_denied code ≡ true)
    by true d = absurd (let z = zero-code in cc)
    by false d = by-number (nat_eq h.msg j) refl d

denied-fine : (c : Machine) (s : Standing) (w : Waits) (m : Parts) (h : Heard) (nonce : List ℕ) (run : Bool) → Trusts s
    → HeardIs s m h
    → run ≡ false
    → FineTurn s m.header.msg run (denied c w m h nonce)
denied-fine c s w m h nonce run trusts x ran =
    let q = closed-quiet c in (
      record { queue = q.queue; waits = q.waits; session = q.session },
      (
        ran,
        λ j d. (let f = farewell-says j m.header h.code nonce d in
            let none = unaccepted x.code f.1 in (f.0, none, failed trusts none)),
      ),
    )
  where
    unaccepted : CodeIs s.accepted h.code → is_denied h.code ≡ true → s.accepted ≡ false
    unaccepted (inl k) d = absurd (let f = k.1 in cc)
    unaccepted (inr k) d = k.2

    failed : Trusts s → s.accepted ≡ false → (s.last ≡ 0) ⊎ (s.they_failed ≡ true)
    failed (inl t) e = absurd (cc)
    failed (inr (t, inl k)) e = inl k.1
    failed (inr (t, inr k)) e = inr k.0

-- ---- the whole message

waits-fine : (c : Machine) (p : Progress) (h : Heard) → Each MildEntry c.queue
    → (p.standing.they_failed ≡ false → Each CalmEntry c.queue)
    → WaitsFine p.standing h (waits_after c p h)
waits-fine c p h mild calm =
    let first = first-calm c p.kind in
    either (WaitsFine p.standing h) (is_denied h.status)
    (record {
      standing = refl;
      mild = again-each MildEntry p.opening_at p.opening_left c.queue (first_package c p.kind) mild
          (entries-mild (first_package c p.kind) first);
      calm = λ e. again-each CalmEntry p.opening_at p.opening_left c.queue (first_package c p.kind) (calm e) first;
    })
    (record { standing = refl; mild = mild; calm = calm })

-- what is executed makes no Status for a header
run-counted : (c : Machine) (a : Account) (m : Parts) (code : ℕ) → HasNumbers m
    → NoHeader (waiting_posts c.engine.group)
    → Each Counted (made_posts (run_of c a m code).made)
    × NoHeader (waiting_posts (run_of c a m code).state.group)
run-counted c a m code body waits =
    either (λ (n : Next). Each Counted (made_posts n.made) × NoHeader (waiting_posts n.state.group)) (passes code)
    {x = execute c a m} {y = quietly c.engine}
    (made-counted (all_asked (origin_of m) m.body) (execute c a m).made c.engine.group (execute c a m).state.group
    (one_status_each c a m)
    (subst (λ cs. Each Counted (all_asked (origin_of m) cs)) (sym body.1)
    (asked-counted (origin_of m) 1 body.0 (omega arith))) waits)
    (tt, waits)

run-true : (a b c d : Bool) → a ≡ false → b ≡ false → c ≡ true → d ≡ false → (not a && (not b && (c && not d))) ≡ true
run-true a b c d e f g h = rw (e, f, g, h) refl

run-second : (a b c d : Bool) → b ≡ true → (not a && (not b && (c && not d))) ≡ false
run-second true b c d e = refl
run-second false b c d e = rw e refl

run-refused : (a b c d : Bool) → c ≡ false → (not a && (not b && (c && not d))) ≡ false
run-refused true b c d e = refl
run-refused false true c d e = refl
run-refused false false c d e = rw e refl

not-both : (a b : Bool) → a ≡ true → (a && b) ≡ false → b ≡ false
not-both true b e h = h
not-both false b e h = absurd (cc)

header-fine : (c : Machine) (p : Progress) (m : Parts) (nonce : List ℕ) (h : Heard) → is_last_own p ≡ false
    → Each MildEntry c.queue
    → NoHeader (waiting_posts c.engine.group)
    → SessionFine c.queue p.standing
    → HeardIs p.standing m h
    → HasNumbers m
    → m.header.msg ≡ p.standing.last + 1
    → IsToSend
    (answering (record c { accounts = set c.accounts p.account h.account })
    (waits_after (record c { accounts = set c.accounts p.account h.account }) p h) m h nonce
    (run_of (record c { accounts = set c.accounts p.account h.account }) h.account m h.code))
    (behind_answer (waits_after (record c { accounts = set c.accounts p.account h.account }) p h) m h nonce) h.account
    → FineTurn p.standing m.header.msg (is_executed p m h) (by_header c p m nonce h)
header-fine c p m nonce h full mild waits f x body next to_send =
    let d : Machine = record c { accounts = set c.accounts p.account h.account } in
    let w = waits_after d p h in
    let q = waits-fine d p h mild f.calm in
    let n = run_of d h.account m h.code in
    let made = run-counted d h.account m h.code body waits in
    let aborts = list_any is_abort m.body in
    let run = is_executed p m h in
    either_is (FineTurn p.standing m.header.msg run) h.second {x = denied d w m h nonce}
    {y = cond (passes h.code && aborts) (ends (closed d) Aborted) (answered d w m h nonce n)}
    (λ t. denied-fine d p.standing w m h nonce run f.trusts x
    (run-second (is_last_own p) h.second (passes h.code) aborts t))
    (λ t. either_is (FineTurn p.standing m.header.msg run) (passes h.code && aborts) {x = ends (closed d) Aborted}
    {y = answered d w m h nonce n} (λ u. (closed-quiet d, tt))
    (λ u. by-code x.code t u d w n run q made to_send
    (λ z. run-true (is_last_own p) h.second (passes h.code) aborts full t z (not-both (passes h.code) aborts z u))
    (λ z. run-refused (is_last_own p) h.second (passes h.code) aborts z)))
  where
    by-code : CodeIs p.standing.accepted h.code → h.second ≡ false → (passes h.code && list_any is_abort m.body) ≡ false
        → (d : Machine) (w : Waits) (n : Next) (run : Bool) → WaitsFine p.standing h w
        → Each Counted (made_posts n.made) × NoHeader (waiting_posts n.state.group)
        → IsToSend (answering d w m h nonce n) (behind_answer w m h nonce) h.account
        → (passes h.code ≡ true → run ≡ true) → (passes h.code ≡ false → run ≡ false)
        → FineTurn p.standing m.header.msg run (answered d w m h nonce n)
    by-code (inl k) t u d w n run q made ready yes-run no-run =
        passing-fine d p.standing w m h nonce n run f.trusts f.rose q x k.0 k.1 made.0 made.1 next (yes-run k.0)
    by-code (inr k) t u d w n run q made ready yes-run no-run =
        refusing-fine d p.standing w m h nonce n run f.trusts q x k.0 k.1 k.2 t made.0 made.1 next (no-run k.0) ready

pub message-fine : (c : Machine) (s : Session) (m : Parts) (nonce : List ℕ) → c.session ≡ Some s → Quiet c
    → SessionFine c.queue s.progress.standing
    → IsReadyMachine c
    → IsReadyProgress c s.progress
    → IsReadyMessage m nonce
    → fault_of m ≡ None
    → HasNumbers m
    → m.header.msg ≡ s.progress.standing.last + 1
    → FineTurn s.progress.standing m.header.msg
    (is_executed s.progress m (hears Server (account_at c s.progress.account) s.progress.standing m nonce))
    (accepts c s.progress m nonce)
unfolding accepts
message-fine c s m nonce e quiet f ready progress message fault body next =
    let p = s.progress in
    let d : Machine = record c { resp_uri = option_or m.header.resp_uri c.resp_uri } in
    let h = hears Server (account_at d p.account) p.standing m nonce in
    let run = is_executed p m h in
    either_is (FineTurn p.standing m.header.msg run) (is_last_own p) {x = ends (closed d) Aborted}
    {y = by_header d p m nonce h} (λ t. (closed-quiet d, tt))
    (λ t. header-fine d p m nonce h t quiet.queue quiet.waits f (heard-is (account_at d p.account) p.standing m nonce
    fault)
    body next
    (waits_ready c p m h nonce (apart c ready) progress message
    (hears_ready Server (account_at c p.account) p.standing m nonce
    (account_ready c p.account ready.accounts progress.account) progress.room) (own-next p t progress.own)))
  where
    own-next : (p : Progress) → is_last_own p ≡ false → p.standing.own < 2 ^ 32 → p.standing.own + 1 < 2 ^ 32
    own-next p is low = let other = eqb-false p.standing.own 4294967295 is in omega (arith, other, low)

pub acts-quiet : (c : Machine) (ok : Bool) → Quiet c → Quiet (ends_update c ok)
unfolding ends_update
acts-quiet c ok h = record { queue = h.queue; waits = h.waits; session = h.session }
