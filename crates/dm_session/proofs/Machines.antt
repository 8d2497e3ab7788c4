-- A client's machine while a message is worked.
use Rattle.std.proofs.Common.{◌≡◌, ◌&&◌, ◌==◌, ◌<◌, ◌+◌, ◌^◌, ℕ, Bool, true, false, cond, List, [], ◌∷◌, ◌++◌, length}
use Rattle.std.proofs.Common.{map, zero, suc, refl, sym, ◌∙◌, ap, subst, arith}
use Rattle.std.specs.Prelude.{Option, None, Some, set, get_or, unwrap_or}
use Rattle.std.specs.Option.{option_to_list, option_or}
use Rattle.syncml_types.specs.declared.command.Command.{Command}
use Rattle.syncml_types.specs.declared.values.Header.{Header}
use Rattle.syncml_types.specs.Message.{Parts}
use Rattle.dm_auth.specs.declared.accounts.Account.{Account}
use Rattle.dm_headers.specs.Checks.{passes, is_denied}
use Rattle.dm_headers.specs.Headers.{header_answer}
use Rattle.dm_headers.specs.Standings.{Heard}
use Rattle.dm_pack.specs.Entries.{Entry, whole_entry}
use Rattle.dm_pack.specs.Filling.{fill}
use Rattle.dm_tree.specs.declared.nodes.Stamp.{Stamp}
use Rattle.dm_atomic.specs.declared.engine.Engine.{Engine}
use Rattle.dm_atomic.specs.Made.{told}
use Rattle.dm_atomic.specs.Run.{State, Next, abandoned}
use Rattle.dm_atomic.specs.Engine.{state_of}
use Rattle.dm_atomic.specs.Updates.{clock_of}
use Rattle.dm_machine.specs.declared.kinds.Initiator.{Initiator}
use Rattle.dm_machine.specs.declared.kinds.End.TheVariants.{Finished, Aborted}
use Rattle.dm_machine.specs.declared.progress.Progress.{Progress}
use Rattle.dm_machine.specs.Machine.{Machine}
use Rattle.dm_machine.specs.Sending.{header_from, moved_on, sends}
use Rattle.dm_machine.specs.Messages.{Outcome, goes_on, ends, Waits, waits_after, queued_again, opening_standing}
use Rattle.dm_machine.specs.Messages.{first_progress, closed, finished, is_over, answered, run_of, execute}
use Rattle.dm_session.specs.declared.rest.Rest.{Rest}
use Rattle.dm_session.specs.declared.rest.Session.{Session as Held}
use Rattle.dm_session.specs.Inside.{machine_of}
use Rattle.dm_session.specs.Working.{account_behind}

-- with another engine, clock and queue
abbrev pub with_state : Machine → Stamp → State → List Entry → Machine
with_state c stamp s q = record c { clock = stamp; engine = s; queue = q }

pub engine_moved : (e f : Engine) (q r : List Entry) (x : Rest) (s : State) → state_of f ≡ s → clock_of f ≡ clock_of e
    → machine_of f r x ≡ record (machine_of e q x) { engine = s; queue = r }
engine_moved e f q r x s h k =
    ap (λ t. with_state (machine_of e q x) (clock_of f) t r) h ∙ ap (λ t. with_state (machine_of e q x) t s r) k

-- ---- an answer

pub length_fresh : (cs : List Command) → length (map whole_entry cs) ≡ length cs
length_fresh [] = refl
length_fresh (c ∷ cs) = ap suc (length_fresh cs)

abbrev pub moved_by : Progress → ℕ → Progress
moved_by p n = record p { opening_at = p.opening_at + n }

abbrev sent_by : Machine → Waits → Account → State → List Command → List Command → ℕ → Outcome
sent_by c w a s front made n =
    goes_on (sends (record c { engine = s; queue = map whole_entry front ++ (w.queue ++ map whole_entry made) })
    (moved_by w.progress n) a)

pub answered_goes_on : (c : Machine) (w : Waits) (m : Parts) (h : Heard) (nonce : List ℕ) (run : Next)
    (front made : List Command)
    → front ≡ header_answer m.header h.code nonce → made ≡ told run.made
    → is_over m h.code (w.queue ++ map whole_entry made) ≡ false
    → sent_by c w h.account run.state front made (length front) ≡ answered c w m h nonce run
answered_goes_on c w m h nonce run front made f t o =
    ap (sent_by c w h.account run.state front made) (sym (length_fresh front))
    ∙ ap (λ x. sent_by c w h.account run.state x made (length (map whole_entry x))) f
    ∙ ap (λ x. sent_by c w h.account run.state answer x (length (map whole_entry answer))) t
    ∙ sym (not_over (is_over m h.code (w.queue ++ map whole_entry (told run.made)))
    (sym (ap (λ x. is_over m h.code (w.queue ++ map whole_entry x)) t) ∙ o))
  where
    answer : List Command
    answer = header_answer m.header h.code nonce

    not_over : (b : Bool) → b ≡ false
        → cond b (ends (finished (record c { engine = run.state })) Finished)
        (sent_by c w h.account run.state answer (told run.made) (length (map whole_entry answer)))
        ≡ sent_by c w h.account run.state answer (told run.made) (length (map whole_entry answer))
    not_over true e = absurd (cc)
    not_over false e = refl

pub answered_ends : (c : Machine) (w : Waits) (m : Parts) (h : Heard) (nonce : List ℕ) (run : Next)
    (made : List Command)
    → made ≡ told run.made → is_over m h.code (w.queue ++ map whole_entry made) ≡ true
    → ends (finished (record c { engine = run.state })) Finished ≡ answered c w m h nonce run
answered_ends c w m h nonce run made t o =
    sym (over (is_over m h.code (w.queue ++ map whole_entry (told run.made)))
    (sym (ap (λ x. is_over m h.code (w.queue ++ map whole_entry x)) t) ∙ o))
  where
    answer : List Command
    answer = header_answer m.header h.code nonce

    over : (b : Bool) → b ≡ true
        → cond b (ends (finished (record c { engine = run.state })) Finished)
        (sent_by c w h.account run.state answer (told run.made) (length (map whole_entry answer)))
        ≡ ends (finished (record c { engine = run.state })) Finished
    over true e = refl
    over false e = absurd (cc)

-- ---- a message that is sent

abbrev with_sent : Machine → List Entry → Progress → Parts → Machine
with_sent c q p m = record c { queue = q; session = Some (record { progress = p; sent = m }) }

pub sent_machine : (e : Engine) (q waiting : List Entry) (r : Rest) (p : Progress) (a : Account) (h : Header) (s : Held)
    → h ≡ header_from (machine_of e waiting r) p a
    → q ≡ (fill waiting h p.standing.room p.standing.heard).left
    → s.progress ≡ moved_on p (fill waiting h p.standing.room p.standing.heard)
    → s.sent.message ≡ (fill waiting h p.standing.room p.standing.heard).message
    → machine_of e q (record r { session = Some s }) ≡ sends (machine_of e waiting r) p a
unfolding sends
sent_machine e q waiting r p a h s is left progress message =
    let c = machine_of e waiting r in
    ap (λ x. with_sent c x s.progress s.sent.message) left
    ∙ ap (λ x. with_sent c (fill waiting h p.standing.room p.standing.heard).left x s.sent.message) progress
    ∙ ap (λ x. with_sent c (fill waiting h p.standing.room p.standing.heard).left
    (moved_on p (fill waiting h p.standing.room p.standing.heard)) x) message
    ∙ ap (λ x. with_sent c (fill waiting x p.standing.room p.standing.heard).left
    (moved_on p (fill waiting x p.standing.room p.standing.heard))
    (fill waiting x p.standing.room p.standing.heard).message) is

-- ---- the account

-- the account that was read at a place
pub account_is : (accounts shown : List Account) (at : ℕ) (account d : Account) → shown ≡ accounts
    → account ≡ get_or shown at account
    → at < length accounts → account ≡ get_or accounts at d
account_is accounts shown at account d same is low =
    is ∙ ap (λ xs. get_or xs at account) same ∙ other accounts at account low
  where
    other : (xs : List Account) (k : ℕ) (x : Account) → k < length xs → get_or xs k x ≡ get_or xs k d
    other [] k x l = absurd (omega (arith, l))
    other (y ∷ ys) zero x l = refl
    other (y ∷ ys) (suc k) x l = other ys k x (omega (arith, l))

pub account_put : (accounts : List Account) (at : ℕ) (account : Account) (next : Option Account) (d : Account)
    → account ≡ get_or accounts at d → at < length accounts
    → account_behind accounts at next ≡ set accounts at (unwrap_or next account)
account_put accounts at account None d is low = sym (set_same accounts at account d is low)
  where
    set_same : (xs : List Account) (k : ℕ) (x y : Account) → x ≡ get_or xs k y → k < length xs → set xs k x ≡ xs
    set_same [] k x y e l = refl
    set_same (z ∷ zs) zero x y e l = ap (λ w. w ∷ zs) e
    set_same (z ∷ zs) (suc k) x y e l = ap (λ w. z ∷ w) (set_same zs k x y e (omega (arith, l)))
account_put accounts at account (Some next) d is low = refl

-- ---- a session that begins

abbrev pub started : ℕ → Initiator → ℕ → ℕ → Progress
started account kind number n = record {
  number = number;
  account = account;
  kind = kind;
  standing = opening_standing;
  opening_at = 0;
  opening_left = n;
}

abbrev begun_by : Machine → List Entry → ℕ → Initiator → ℕ → ℕ → Account → Machine
begun_by c q account kind number n a =
    sends (record c { queue = q }) (started account kind number n) a

pub begun_machine : (c : Machine) (account : ℕ) (kind : Initiator) (number n : ℕ) (a b : Account) (q first : List Entry)
    → q ≡ first → n ≡ length q → a ≡ b
    → begun_by c q account kind number n a
    ≡ sends (record c { queue = first }) (first_progress account kind number first) b
begun_machine c account kind number n a b q first is long same =
    ap (λ x. begun_by c q account kind number x a) long
    ∙ ap (λ x. begun_by c x account kind number (length x) a) is
    ∙ ap (begun_by c first account kind number (length first)) same

-- ---- a session that ends

pub closed_machine : (e f : Engine) (q r : List Entry) (x : Rest) → state_of f ≡ abandoned (state_of e)
    → clock_of f ≡ clock_of e
    → r ≡ [] → machine_of f r (record x { session = None }) ≡ closed (machine_of e q x)
closed_machine e f q r x s k n =
    ap (λ t. with_state c (clock_of f) t r) s ∙ ap (λ t. with_state c t (abandoned (state_of e)) r) k
    ∙ ap (with_state c (clock_of e) (abandoned (state_of e))) n
  where
    c : Machine
    c = machine_of e q (record x { session = None })
