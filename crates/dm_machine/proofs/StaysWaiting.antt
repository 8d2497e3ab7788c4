-- What waits once a message was heard and executed can be sent, and so is what a session begins with.
use Rattle.std.proofs.Common.{◌≡◌, ◌<◌, ◌+◌, ◌^◌, ℕ, zero, suc, Bool, true, false, List, [], ◌∷◌, ◌++◌, length}
use Rattle.std.proofs.Common.{length-append, take, drop, map, set, get_or, None, refl, ap, arith, if◌then◌else◌}
use Rattle.std.specs.List.{AllByRecursion}
use Rattle.syncml_types.specs.declared.values.Header.{Header}
use Rattle.syncml_types.specs.Message.{Parts}
use Rattle.dm_auth.specs.declared.accounts.Account.{Account}
use Rattle.dm_headers.specs.Checks.{is_denied, passes}
use Rattle.dm_headers.specs.Standings.{Heard}
use Rattle.dm_headers.specs.Headers.{header_answer}
use Rattle.dm_atomic.specs.Made.{Made, told}
use Rattle.dm_atomic.specs.Run.{Next, quietly}
use Rattle.dm_pack.specs.Entries.{Entry, IsReady, whole_entry}
use Rattle.dm_pack.specs.Filling.{IsReadyHeader}
use Rattle.dm_pack.proofs.Taking.{all_behind}
use Rattle.dm_machine.specs.declared.kinds.Initiator.{Initiator}
use Rattle.dm_machine.specs.declared.progress.Progress.{Progress}
use Rattle.dm_machine.specs.Machine.{Machine}
use Rattle.dm_machine.specs.Opening.{first_package}
use Rattle.dm_machine.specs.Sending.{header_from, sends}
use Rattle.dm_machine.specs.Messages.{Waits, queued_again, waits_after, account_at, no_account, closed, first_progress}
use Rattle.dm_machine.specs.Messages.{begins, run_of, execute}
use Rattle.dm_machine.specs.Ready.{IsDevice, IsReadyAccount, AreReadyResults, IsReadyProgress, IsReadyMachine}
use Rattle.dm_machine.specs.Ready.{IsReadyMessage}
use Rattle.dm_machine.proofs.ToldGroups.{AreReadyMade, IsReadyNext, all_append, quiet_ready, abandoned_ready}
use Rattle.dm_machine.proofs.ToldMessages.{execute_ready, told_ready}
use Rattle.dm_machine.proofs.OwnHeaders.{header_ready}
use Rattle.dm_machine.proofs.OwnPackages.{package_ready}
use Rattle.dm_ends.proofs.Answers.{IsNonce, nonce_is, answer_ready}
use Rattle.dm_ends.proofs.Texts.{known_number}
use Rattle.dm_machine.proofs.StaysSending.{IsReadyApart, sends_ready}
use Rattle.dm_ends.proofs.Hearing.{IsReadyHeard}

-- ---- accounts

pub all_set : {A : Type 0} (P : A → Type 0) (xs : List A) (at : ℕ) (x : A) → AllByRecursion P xs → P x
    → AllByRecursion P (set xs at x)
all_set P [] at x all is = all
all_set P (y ∷ ys) zero x all is = (is, all.1)
all_set P (y ∷ ys) (suc at) x all is = (all.0, all_set P ys at x all.1 is)

all_at : {A : Type 0} (P : A → Type 0) (xs : List A) (at : ℕ) (d : A) → AllByRecursion P xs → at < length xs
    → P (get_or xs at d)
all_at P [] at d all low = absurd (omega (arith, low))
all_at P (y ∷ ys) zero d all low = all.0
all_at P (y ∷ ys) (suc at) d all low = all_at P ys at d all.1 (omega (arith, low))

pub set_long : {A : Type 0} (xs : List A) (at : ℕ) (x : A) → length (set xs at x) ≡ length xs
set_long [] at x = refl
set_long (y ∷ ys) zero x = refl
set_long (y ∷ ys) (suc at) x = ap suc (set_long ys at x)

pub account_ready : (c : Machine) (at : ℕ) → AllByRecursion IsReadyAccount c.accounts → at < length c.accounts
    → IsReadyAccount (account_at c at)
account_ready c at all low = all_at IsReadyAccount c.accounts at no_account all low

-- ---- what is about to be sent

pub record IsToSend (c : Machine) (p : Progress) (a : Account) : Type 0 where
  pub apart : IsReadyApart c
  pub progress : IsReadyProgress c p
  pub account : IsReadyAccount a
  pub own : p.standing.own + 1 < 2 ^ 32

pub header_to_send : (c : Machine) (p : Progress) (a : Account) → IsToSend c p a → IsReadyHeader (header_from c p a)
header_to_send c p a is = header_ready c p a is.apart.limits is.apart.engine.tree is.account is.progress.number is.own

pub to_send_ready : (c : Machine) (p : Progress) (a : Account) → IsToSend c p a → IsReadyMachine (sends c p a)
to_send_ready c p a is = sends_ready c p a is.apart is.progress is.own

-- ---- what waits once a header was heard

pub record IsReadyWaits (c : Machine) (own : ℕ) (w : Waits) : Type 0 where
  pub queue : AllByRecursion IsReady w.queue
  pub progress : IsReadyProgress (record c { queue = w.queue }) w.progress
  pub own_is : w.progress.standing.own ≡ own

all_front : (n : ℕ) (es : List Entry) → AllByRecursion IsReady es → AllByRecursion IsReady (take n es)
all_front zero es all = tt
all_front (suc n) [] all = tt
all_front (suc n) (e ∷ es) all = (all.0, all_front n es all.1)

pub again_queue_ready : (c : Machine) (w : Waits) → IsDevice c.engine.tree → AreReadyResults c.results
    → AllByRecursion IsReady w.queue → AllByRecursion IsReady (queued_again c w).queue
again_queue_ready c w device results all =
    let p = w.progress in
    let front = take p.opening_at w.queue in
    let behind = drop (p.opening_at + p.opening_left) w.queue in
    all_append IsReady (front ++ behind) (first_package c p.kind)
    (all_append IsReady front behind (all_front p.opening_at w.queue all)
    (all_behind w.queue (p.opening_at + p.opening_left) all))
    (package_ready c p.kind device results)

pub again_ready : (c : Machine) (own : ℕ) (w : Waits) → IsReadyApart c → IsReadyWaits c own w
    → IsReadyWaits c own (queued_again c w)
again_ready c own w ready is =
    let p = w.progress in
    let front = take p.opening_at w.queue in
    let behind = drop (p.opening_at + p.opening_left) w.queue in
    let first = first_package c p.kind in
    record {
      queue = again_queue_ready c w ready.engine.tree ready.results is.queue;
      progress = record {
        number = is.progress.number;
        account = is.progress.account;
        last = is.progress.last;
        own = is.progress.own;
        room = is.progress.room;
        opening = let whole = length-append (front ++ behind) first in omega (arith, whole);
      };
      own_is = is.own_is;
    }

again_if : (again : Bool) (c : Machine) (own : ℕ) (w : Waits) → IsReadyApart c → IsReadyWaits c own w
    → IsReadyWaits c own (if again then queued_again c w else w)
again_if true c own w ready is = again_ready c own w ready is
again_if false c own w ready is = is

pub waits_after_ready : (c : Machine) (p : Progress) (m : Parts) (h : Heard) → IsReadyApart c → IsReadyProgress c p
    → m.header.msg < 2 ^ 32 → IsReadyHeard p.standing m h → IsReadyWaits c p.standing.own (waits_after c p h)
waits_after_ready c p m h ready progress msg heard =
    again_if (is_denied h.status) c p.standing.own
    (record { progress = record p { standing = h.standing }; queue = c.queue }) ready
    (record {
      queue = ready.queue;
      progress = record {
        number = progress.number;
        account = progress.account;
        last = let same = heard.last in omega (arith, same, msg);
        own = let same = heard.own in let low = progress.own in omega (arith, same, low);
        room = heard.room;
        opening = progress.opening;
      };
      own_is = heard.own;
    })

-- ---- and once its commands were executed

run_if : (passed : Bool) (c : Machine) (a : Account) (m : Parts) (nonce : List ℕ) → IsReadyApart c
    → IsReadyMessage m nonce → IsReadyNext c.limits.max_obj (if passed then execute c a m else quietly c.engine)
run_if true c a m nonce ready message =
    execute_ready c a m ready.clock ready.limits.max_obj message.fit message.numbers ready.engine
run_if false c a m nonce ready message = quiet_ready c.limits.max_obj c.engine ready.engine

pub run_ready : (c : Machine) (a : Account) (m : Parts) (nonce : List ℕ) (code : ℕ) → IsReadyApart c
    → IsReadyMessage m nonce → IsReadyNext c.limits.max_obj (run_of c a m code)
run_ready c a m nonce code ready message = run_if (passes code) c a m nonce ready message

-- the header's Status, what waits, and what was made
pub queue_ready : (h : Header) (code : ℕ) (nonce : List ℕ) (queue : List Entry) (made : List Made) → 0 < h.msg
    → h.msg < 2 ^ 32 → code < 2 ^ 32 → IsNonce nonce → AllByRecursion IsReady queue → AreReadyMade made
    → AllByRecursion IsReady (map whole_entry (header_answer h code nonce) ++ (queue ++ map whole_entry (told made)))
queue_ready h code nonce queue made some msg low is waits ready =
    all_append IsReady (map whole_entry (header_answer h code nonce)) (queue ++ map whole_entry (told made))
    (answer_ready h code nonce some msg low is)
    (all_append IsReady queue (map whole_entry (told made)) waits (told_ready made ready))

-- the queue and the progress with which the message goes out that answers
abbrev pub answering : Machine → Waits → Parts → Heard → List ℕ → Next → Machine
answering c w m h nonce run = record c {
  engine = run.state;
  queue = map whole_entry (header_answer m.header h.code nonce) ++ (w.queue ++ map whole_entry (told run.made));
}

abbrev pub behind_answer : Waits → Parts → Heard → List ℕ → Progress
behind_answer w m h nonce = record w.progress {
  opening_at = w.progress.opening_at + length (map whole_entry (header_answer m.header h.code nonce));
}

pub answer_to_send : (c : Machine) (s : Progress) (w : Waits) (m : Parts) (h : Heard) (nonce : List ℕ) (run : Next)
    → IsReadyApart c → IsReadyWaits c s.standing.own w → IsReadyHeard s.standing m h → IsReadyMessage m nonce
    → IsReadyNext c.limits.max_obj run → s.standing.own + 1 < 2 ^ 32
    → IsToSend (answering c w m h nonce run) (behind_answer w m h nonce) h.account
answer_to_send c s w m h nonce run ready waits heard message ran own =
    let answer = map whole_entry (header_answer m.header h.code nonce) in
    let made = map whole_entry (told run.made) in
    record {
      apart = record {
        limits = ready.limits;
        clock = ready.clock;
        engine = ran.state;
        queue =
            queue_ready m.header h.code nonce w.queue run.made (known_number m message.fit) message.numbers.header.msg
            heard.code (nonce_is nonce message.nonce_long message.nonce_bytes) waits.queue ran.made;
        accounts = ready.accounts;
        results = ready.results;
      };
      progress = record {
        number = waits.progress.number;
        account = waits.progress.account;
        last = waits.progress.last;
        own = waits.progress.own;
        room = waits.progress.room;
        opening =
            let opening = waits.progress.opening in
            let whole = length-append answer (w.queue ++ made) in
            let rest = length-append w.queue made in
            omega (arith, opening, whole, rest);
      };
      account = heard.account;
      own = let same = waits.own_is in omega (arith, same, own);
    }

-- ---- a session that ends, and one that begins

pub closed_apart : (c : Machine) → IsReadyApart c → IsReadyApart (closed c)
closed_apart c ready = record {
  limits = ready.limits;
  clock = ready.clock;
  engine = abandoned_ready c.limits.max_obj c.engine ready.engine;
  queue = tt;
  accounts = ready.accounts;
  results = ready.results;
}

-- the machine with which its first message goes out
abbrev pub beginning : Machine → Initiator → ℕ → Machine
beginning c kind number =
    record (closed c) { queue = first_package (closed c) kind; begun = number; resp_uri = None; farewell = None }

pub begins_to_send : (c : Machine) (account : ℕ) (kind : Initiator) (number : ℕ) → IsReadyApart c
    → account < length c.accounts
    → number < 2 ^ 32
    → IsToSend (beginning c kind number) (first_progress account kind number (first_package (closed c) kind))
    (account_at (closed c) account)
begins_to_send c account kind number ready low small =
    let d = closed c in
    let is = closed_apart c ready in
    record {
      apart = record {
        limits = is.limits;
        clock = is.clock;
        engine = is.engine;
        queue = package_ready d kind is.engine.tree is.results;
        accounts = is.accounts;
        results = is.results;
      };
      progress = record {
        number = small;
        account = low;
        last = omega arith;
        own = omega arith;
        room = (omega arith, omega arith);
        opening = omega arith;
      };
      account = account_ready d account is.accounts low;
      own = omega arith;
    }

pub begins_ready : (c : Machine) (account : ℕ) (kind : Initiator) (number : ℕ) → IsReadyApart c → account < length c.accounts
    → number < 2 ^ 32 → IsReadyMachine (begins c account kind number)
unfolding begins
begins_ready c account kind number ready low small =
    to_send_ready (beginning c kind number) (first_progress account kind number (first_package (closed c) kind))
    (account_at (closed c) account)
    (begins_to_send c account kind number ready low small)
