-- What an event that is taken does to the numbers of the client's machine.
use Rattle.std.proofs.Common.{◌≡◌, ◌+◌, ◌&&◌, ℕ, Bool, true, List, [], ◌∷◌, ◌++◌, Option, None, Some, map}
use Rattle.std.proofs.Common.{length, take, drop, refl, ◌∙◌, ap}
use Rattle.std.specs.Prelude.{set}
use Rattle.std.specs.List.{list_any}
use Rattle.std.specs.Option.{option_or}
use Rattle.std.specs.Fmt.{decimal}
use Rattle.syncml_types.specs.declared.values.Header.{Header}
use Rattle.syncml_types.specs.Message.{Parts}
use Rattle.dm_tree.specs.Devices.{device_id}
use Rattle.dm_auth.specs.declared.accounts.Account.{Account}
use Rattle.dm_headers.specs.declared.checks.Side.TheVariants.{User, Server}
use Rattle.dm_headers.specs.declared.standings.Standing.{Standing}
use Rattle.dm_headers.specs.Checks.{fault_of, login_of, is_denied, passes}
use Rattle.dm_headers.specs.Headers.{next_header, header_answer}
use Rattle.dm_headers.specs.Standings.{Heard, hears}
use Rattle.dm_atomic.specs.Made.{told}
use Rattle.dm_atomic.specs.Run.{Next}
use Rattle.dm_pack.specs.Entries.{Entry, whole_entry}
use Rattle.dm_pack.specs.Filling.{fill, taken, cut, commands_of, next_part, next_rest, tail_of, tail_commands, is_final}
use Rattle.dm_ends.specs.Commands.{alert}
use Rattle.dm_ends.proofs.Distinct.{makes_no_fault}
use Rattle.dm_machine.specs.declared.kinds.Initiator.{Initiator}
use Rattle.dm_machine.specs.declared.kinds.End.TheVariants.{Finished, Aborted}
use Rattle.dm_machine.specs.declared.progress.Progress.{Progress}
use Rattle.dm_machine.specs.Machine.{Session, Machine}
use Rattle.dm_machine.specs.Opening.{first_package}
use Rattle.dm_machine.specs.Sending.{header_from, sends}
use Rattle.dm_machine.specs.Messages.{Outcome, goes_on, ends, begins, Waits, waits_after, is_over}
use Rattle.dm_machine.specs.Messages.{is_abort}
use Rattle.dm_machine.specs.Messages.{account_at, closed, finished, first_progress, denied, run_of, answered, by_header}
use Rattle.dm_machine.specs.Messages.{is_last_own, accepts}
use Rattle.dm_machine.specs.Events as client
use Rattle.dm_world.specs.World.{said}
use Rattle.dm_world.proofs.Lists.{either}
use Rattle.dm_world.proofs.Numbers.{HasNumbers, IsSent}

-- of what may have been said
abbrev pub MaybeSent : ℕ → ℕ → Option Parts → Type 0
MaybeSent n k None = Unit {0}
MaybeSent n k (Some m) = IsSent n k m

abbrev pub OpenAs : {S : Type 0} → (S → Type 0) → Option S → Type 0
OpenAs P None = ⊥
OpenAs P (Some s) = P s

-- ---- sending

pub record Sends (p : Progress) (t : Session) : Type 0 where
  pub number : t.progress.number ≡ p.number
  pub last : t.progress.standing.last ≡ p.standing.last
  pub own : t.progress.standing.own ≡ p.standing.own + 1
  pub sent : IsSent p.number (p.standing.own + 1) t.sent

-- the commands that a message holds, before they are numbered
pub fill-body : (es : List Entry) (h : Header) (room : ℕ) (heard : Bool)
    → HasNumbers (fill es h room heard).message
unfolding fill
fill-body es h room heard =
    let whole = taken h room [] es in
    let before = commands_of (take whole es) in
    let n = cut h room before (drop whole es) in
    let tail = tail_of (next_rest n (drop whole es)) heard in
    (before ++ next_part n (drop whole es) ++ tail_commands tail, refl)

pub fill-header : (es : List Entry) (h : Header) (room : ℕ) (heard : Bool) → (fill es h room heard).message.header ≡ h
unfolding fill
fill-header es h room heard = refl

client-fault : (c : Machine) (p : Progress) (a : Account)
    → fault_of (fill c.queue (header_from c p a) p.standing.room p.standing.heard).message ≡ None
unfolding fill
client-fault c p a =
    let h = header_from c p a in
    let whole = taken h p.standing.room [] c.queue in
    let before = commands_of (take whole c.queue) in
    let n = cut h p.standing.room before (drop whole c.queue) in
    let tail = tail_of (next_rest n (drop whole c.queue)) p.standing.heard in
    makes_no_fault (login_of User a) p.standing c.limits p.number (record { uri = a.server; name = None })
    (record { uri = device_id c.engine.tree; name = a.user })
    (before ++ next_part n (drop whole c.queue) ++ tail_commands tail) (is_final tail)

header-numbers : (c : Machine) (p : Progress) (a : Account)
    → ((header_from c p a).session ≡ decimal p.number) × ((header_from c p a).msg ≡ p.standing.own + 1)
unfolding next_header
header-numbers c p a = (refl, refl)

pub sends-sends : (c : Machine) (p : Progress) (a : Account) → OpenAs (Sends p) (sends c p a).session
unfolding sends
sends-sends c p a =
    let h = header_from c p a in
    let e = fill-header c.queue h p.standing.room p.standing.heard in
    let numbers = header-numbers c p a in
    record {
      number = refl;
      last = refl;
      own = refl;
      sent = record {
        session = ap (λ (x : Header). x.session) e ∙ numbers.0;
        id = ap (λ (x : Header). x.msg) e ∙ numbers.1;
        sound = client-fault c p a;
        body = fill-body c.queue h p.standing.room p.standing.heard;
      };
    }

-- ---- beginning

pub record Begun (n : ℕ) (t : Session) : Type 0 where
  pub number : t.progress.number ≡ n
  pub last : t.progress.standing.last ≡ 0
  pub own : t.progress.standing.own ≡ 1
  pub sent : IsSent n 1 t.sent

begun-of : (n : ℕ) (p : Progress) (o : Option Session) → p.number ≡ n → p.standing.last ≡ 0 → p.standing.own ≡ 0
    → OpenAs (Sends p) o
    → OpenAs (Begun n) o
begun-of n p None e f g h = h
begun-of n p (Some t) e f g h =
    let first : p.standing.own + 1 ≡ 1 = ap (λ k. k + 1) g in
    record {
      number = h.number ∙ e;
      last = h.last ∙ f;
      own = h.own ∙ first;
      sent = rw (← e) (rw (← first) h.sent);
    }

pub begins-begun : (c : Machine) (account : ℕ) (kind : Initiator) (n : ℕ)
    → OpenAs (Begun n) (begins c account kind n).session
unfolding begins
begins-begun c account kind n =
    let d = closed c in
    let first = first_package d kind in
    let p = first_progress account kind n first in
    begun-of n p _ refl refl refl
    (sends-sends (record d { queue = first; begun = n; resp_uri = None; farewell = None }) p (account_at d account))

-- ---- a message

-- the session after a message with this MsgID
pub record Turns (p : Progress) (msg : ℕ) (t : Session) : Type 0 where
  pub number : t.progress.number ≡ p.number
  pub last : t.progress.standing.last ≡ msg
  pub own : t.progress.standing.own ≡ p.standing.own + 1
  pub sent : IsSent p.number (p.standing.own + 1) t.sent

abbrev pub Turned : Progress → ℕ → ℕ → Outcome → Type 0
Turned p msg b (goes_on c) = (c.begun ≡ b) × OpenAs (Turns p msg) c.session
Turned p msg b (ends c e) =
    (c.begun ≡ b) × (c.session ≡ None) × MaybeSent p.number (p.standing.own + 1) (said (client.ended e c.farewell))

-- how far a session has come, behind the header of a message with this MsgID
pub record Hears (p : Progress) (msg : ℕ) (q : Progress) : Type 0 where
  pub number : q.number ≡ p.number
  pub last : q.standing.last ≡ msg
  pub own : q.standing.own ≡ p.standing.own

sent-at : (a b c d : ℕ) (m : Parts) → a ≡ b → c ≡ d → IsSent a c m → IsSent b d m
sent-at a b c d m e f h = rw (← e) (rw (← f) h)

pub waits-hear : (c : Machine) (p : Progress) (h : Heard) (msg : ℕ) → h.standing.last ≡ msg
    → h.standing.own ≡ p.standing.own
    → Hears p msg (waits_after c p h).progress
waits-hear c p h msg e f =
    either (λ (w : Waits). Hears p msg w.progress) (is_denied h.status) (record { number = refl; last = e; own = f })
    (record { number = refl; last = e; own = f })

denied-turned : (c : Machine) (p : Progress) (w : Waits) (m : Parts) (h : Heard) (nonce : List ℕ)
    → Hears p m.header.msg w.progress
    → Turned p m.header.msg c.begun (denied c w m h nonce)
unfolding next_header
denied-turned c p w m h nonce x = (
  refl,
  refl,
  record {
    session = ap decimal x.number;
    id = ap (λ n. n + 1) x.own;
    sound =
        makes_no_fault (login_of User h.account) w.progress.standing c.limits w.progress.number
        (record { uri = h.account.server; name = None })
        (record { uri = device_id c.engine.tree; name = h.account.user })
        (header_answer m.header h.code nonce ++ alert 1223 None [] ∷ []) true;
    body = (header_answer m.header h.code nonce ++ alert 1223 None [] ∷ [], refl);
  },
)

then-turns : (p q : Progress) (msg : ℕ) (o : Option Session) → Hears p msg q → OpenAs (Sends q) o
    → OpenAs (Turns p msg) o
then-turns p q msg None h x = x
then-turns p q msg (Some t) h x =
    let own : q.standing.own + 1 ≡ p.standing.own + 1 = ap (λ k. k + 1) h.own in
    record {
      number = x.number ∙ h.number;
      last = x.last ∙ h.last;
      own = x.own ∙ own;
      sent = sent-at q.number p.number (q.standing.own + 1) (p.standing.own + 1) t.sent h.number own x.sent;
    }

sends-begun : (c : Machine) (p : Progress) (a : Account) → (sends c p a).begun ≡ c.begun
unfolding sends
sends-begun c p a = refl

answered-turned : (c : Machine) (p : Progress) (w : Waits) (m : Parts) (h : Heard) (nonce : List ℕ) (n : Next)
    → Hears p m.header.msg w.progress
    → Turned p m.header.msg c.begun (answered c w m h nonce n)
answered-turned c p w m h nonce n x =
    let d : Machine = record c { engine = n.state } in
    let answer = map whole_entry (header_answer m.header h.code nonce) in
    let waiting = w.queue ++ map whole_entry (told n.made) in
    let e : Machine = record d { queue = answer ++ waiting } in
    let q : Progress = record w.progress { opening_at = w.progress.opening_at + length answer } in
    either (Turned p m.header.msg c.begun) (is_over m h.code waiting) {x = ends (finished d) Finished}
    {y = goes_on (sends e q h.account)} (refl, refl, tt) (
      sends-begun e q h.account,
      then-turns p q m.header.msg (sends e q h.account).session
          (record { number = x.number; last = x.last; own = x.own }) (sends-sends e q h.account),
    )

by_header-turned : (c : Machine) (p : Progress) (m : Parts) (nonce : List ℕ) (h : Heard)
    → h.standing.last ≡ m.header.msg
    → h.standing.own ≡ p.standing.own
    → Turned p m.header.msg c.begun (by_header c p m nonce h)
by_header-turned c p m nonce h e f =
    let d : Machine = record c { accounts = set c.accounts p.account h.account } in
    let w = waits_after d p h in
    let x = waits-hear d p h m.header.msg e f in
    let aborts = passes h.code && list_any is_abort m.body in
    either (Turned p m.header.msg c.begun) h.second (denied-turned d p w m h nonce x)
    (either (Turned p m.header.msg c.begun) aborts {x = ends (closed d) Aborted} (refl, refl, tt)
    (answered-turned d p w m h nonce (run_of d h.account m h.code) x))

heard-numbers : (a : Account) (s : Standing) (m : Parts) (nonce : List ℕ)
    → ((hears Server a s m nonce).standing.last ≡ m.header.msg) × ((hears Server a s m nonce).standing.own ≡ s.own)
unfolding hears
heard-numbers a s m nonce = (refl, refl)

pub message-turned : (c : Machine) (p : Progress) (m : Parts) (nonce : List ℕ)
    → Turned p m.header.msg c.begun (accepts c p m nonce)
unfolding accepts
message-turned c p m nonce =
    let d : Machine = record c { resp_uri = option_or m.header.resp_uri c.resp_uri } in
    let a = account_at d p.account in
    let x = heard-numbers a p.standing m nonce in
    either (Turned p m.header.msg c.begun) (is_last_own p) {x = ends (closed d) Aborted} (refl, refl, tt)
    (by_header-turned d p m nonce (hears Server a p.standing m nonce) x.0 x.1)
