-- What a message leaves is what is said to be executed of it.
use Rattle.std.proofs.Common.{◌&&◌, ◌+◌, ℕ, Bool, true, false, cond, not, List, ◌++◌, length, refl}
use Rattle.std.specs.Prelude.{set, map}
use Rattle.std.specs.Option.{option_or}
use Rattle.std.specs.List.{list_any}
use Rattle.syncml_types.specs.Message.{Parts}
use Rattle.dm_headers.specs.Checks.{passes}
use Rattle.dm_headers.specs.declared.checks.Side.TheVariants.{Server}
use Rattle.dm_headers.specs.Headers.{header_answer}
use Rattle.dm_headers.specs.Standings.{Heard, hears}
use Rattle.dm_atomic.specs.Made.{Made, told}
use Rattle.dm_atomic.specs.Run.{State, Next, quietly, abandoned}
use Rattle.dm_pack.specs.Entries.{Entry, whole_entry}
use Rattle.dm_machine.specs.declared.kinds.End.TheVariants.{Aborted}
use Rattle.dm_machine.specs.declared.progress.Progress.{Progress}
use Rattle.dm_machine.specs.Machine.{Machine}
use Rattle.dm_machine.specs.Sending.{sends}
use Rattle.dm_machine.specs.Messages.{Outcome, ends, Waits, waits_after, account_at, closed, denied, is_abort}
use Rattle.dm_machine.specs.Messages.{execute, is_over, answered, is_last_own, accepts}
use Rattle.dm_world.specs.Leaving.{LeavesState, ExecutesAsSaid, QueuesMade, QueuesAsSaid}

either : (s : State) (b : Bool) (x y : Outcome) → LeavesState s x → LeavesState s y → LeavesState s (cond b x y)
either s true x y h k = h
either s false x y h k = k

answered-leaves : (c : Machine) (w : Waits) (m : Parts) (h : Heard) (nonce : List ℕ) (run : Next)
    → LeavesState run.state (answered c w m h nonce run)
unfolding sends abandoned
answered-leaves c w m h nonce run =
    either run.state (is_over m h.code (w.queue ++ map whole_entry (told run.made))) _ _ refl refl

-- by what the header comes to: an own MsgID that is the last, a second failure, a message that passes, an Alert 1223
by-cases : (c d : Machine) (w : Waits) (p : Progress) (m : Parts) (h : Heard) (nonce : List ℕ) (x y z : Outcome)
    (run : Next)
    → (last failed passed aborts : Bool)
    → LeavesState c.engine x → LeavesState c.engine y → LeavesState c.engine z
    → LeavesState (cond (not last && (not failed && (passed && not aborts))) run (quietly c.engine)).state
    (cond last x (cond failed y (cond (passed && aborts) z
    (answered d w m h nonce (cond passed run (quietly c.engine))))))
by-cases c d w p m h nonce x y z run true failed passed aborts a b e = a
by-cases c d w p m h nonce x y z run false true passed aborts a b e = b
by-cases c d w p m h nonce x y z run false false true true a b e = e
by-cases c d w p m h nonce x y z run false false true false a b e = answered-leaves d w m h nonce run
by-cases c d w p m h nonce x y z run false false false aborts a b e = answered-leaves d w m h nonce (quietly c.engine)

pub executes_as_said : ExecutesAsSaid
unfolding accepts abandoned execute
executes_as_said c p m nonce =
    let h = hears Server (account_at c p.account) p.standing m nonce in
    let b : Machine = record c { resp_uri = option_or m.header.resp_uri c.resp_uri } in
    let d : Machine = record b { accounts = set c.accounts p.account h.account } in
    let w = waits_after d p h in
    by-cases c d w p m h nonce (ends (closed b) Aborted) (denied d w m h nonce) (ends (closed d) Aborted)
    (execute c h.account m) (is_last_own p) h.second (passes h.code) (list_any is_abort m.body) refl refl refl

-- ---- what is queued

either-queues : (answers waited : List Entry) (made : List Made) (b : Bool) (x y : Outcome)
    → QueuesMade answers waited made x → QueuesMade answers waited made y → QueuesMade answers waited made (cond b x y)
either-queues answers waited made true x y h k = h
either-queues answers waited made false x y h k = k

answered-queues : (c : Machine) (w : Waits) (m : Parts) (h : Heard) (nonce : List ℕ) (run : Next)
    → QueuesMade (map whole_entry (header_answer m.header h.code nonce)) w.queue run.made (answered c w m h nonce run)
answered-queues c w m h nonce run =
    let answers = map whole_entry (header_answer m.header h.code nonce) in
    either-queues answers w.queue run.made (is_over m h.code (w.queue ++ map whole_entry (told run.made))) _ _ tt (
      record c { engine = run.state },
      record w.progress { opening_at = w.progress.opening_at + length answers },
      h.account,
      refl,
    )

queues-by-cases : (c d : Machine) (w : Waits) (m : Parts) (h : Heard) (nonce : List ℕ) (x y z : Outcome) (run : Next)
    → (last failed passed aborts : Bool)
    → ((made : List Made) → QueuesMade (map whole_entry (header_answer m.header h.code nonce)) w.queue made x)
    → ((made : List Made) → QueuesMade (map whole_entry (header_answer m.header h.code nonce)) w.queue made y)
    → ((made : List Made) → QueuesMade (map whole_entry (header_answer m.header h.code nonce)) w.queue made z)
    → QueuesMade (map whole_entry (header_answer m.header h.code nonce)) w.queue
    (cond (not last && (not failed && (passed && not aborts))) run (quietly c.engine)).made
    (cond last x (cond failed y (cond (passed && aborts) z
    (answered d w m h nonce (cond passed run (quietly c.engine))))))
queues-by-cases c d w m h nonce x y z run true failed passed aborts a b e =
    a (quietly c.engine).made
queues-by-cases c d w m h nonce x y z run false true passed aborts a b e =
    b (quietly c.engine).made
queues-by-cases c d w m h nonce x y z run false false true true a b e = e (quietly c.engine).made
queues-by-cases c d w m h nonce x y z run false false true false a b e = answered-queues d w m h nonce run
queues-by-cases c d w m h nonce x y z run false false false aborts a b e =
    answered-queues d w m h nonce (quietly c.engine)

pub queues_as_said : QueuesAsSaid
unfolding accepts execute
queues_as_said c p m nonce =
    let h = hears Server (account_at c p.account) p.standing m nonce in
    let b : Machine = record c { resp_uri = option_or m.header.resp_uri c.resp_uri } in
    let d : Machine = record b { accounts = set c.accounts p.account h.account } in
    let w = waits_after d p h in
    queues-by-cases c d w m h nonce (ends (closed b) Aborted) (denied d w m h nonce) (ends (closed d) Aborted)
    (execute c h.account m) (is_last_own p) h.second (passes h.code) (list_any is_abort m.body)
    (λ made. tt) (λ made. tt) (λ made. tt)
