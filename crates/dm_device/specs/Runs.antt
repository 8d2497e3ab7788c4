-- A whole run: a session, and behind it a farewell, or an update and one more session.
use Rattle.std.specs.Prelude.{◌≡◌, ◌≤◌, ◌+◌, ◌++◌, ◌⊎◌, ⊤, ℕ, Bool, true, false, if◌then◌else◌, List, [], ◌∷◌, drop}
use Rattle.std.specs.Prelude.{take}
use Rattle.std.specs.Prelude.{codes}
use Rattle.std.specs.Prelude.{Option, Some, None, option_map}
use Rattle.std.specs.Fmt.{decimal}
use Rattle.std.specs.Io.KnownBytes.{Appends}
use Rattle.dm_base.specs.Lines.{line_feed}
use Rattle.syncml_types.specs.Message.{Parts}
use Rattle.syncml_types.specs.Canonical.{canonical}
use Rattle.dm_atomic.specs.Updates.{is_updating}
use Rattle.dm_machine.specs.declared.kinds.Initiator.{Initiator}
use Rattle.dm_machine.specs.declared.kinds.Initiator.TheVariants.{ByClient}
use Rattle.dm_machine.specs.Machine.{Machine}
use Rattle.dm_machine.specs.Events.{opened, act}
use Rattle.dm_machine.specs.History.{next}
use Rattle.dm_outside.specs.declared.told.Update.{Update}
use Rattle.dm_session.specs.View.{package_started}
use Rattle.dm_exit.specs.declared.exit.Exit.{Exit}
use Rattle.dm_exit.specs.declared.exit.Exit.TheVariants as exit
use Rattle.dm_exit.specs.Puts.{PutsPrefix}
use Rattle.dm_replay.specs.Output.{tree_and_done}
use Rattle.dm_words.specs.declared.forms.DeviceWords.{DeviceWords}
use Rattle.dm_device.specs.declared.exchanging.ReplyHeard.{ReplyHeard}
use Rattle.dm_device.specs.declared.tally.Word.{Word}
use Rattle.dm_device.specs.declared.tally.Word.TheVariants as word
use Rattle.dm_device.specs.Outsides.{Outside, IsPosted, IsPostedInPart}
use Rattle.dm_device.specs.Sessions.{Going, SessionRun, at_first, session, request_of, bytes_or_none}

-- where a run's requests go, and by which version its tree is put
pub record Route : Type 0 where
  pub address : List ℕ
  pub path : List ℕ
  pub version : ℕ

abbrev pub route_of : DeviceWords → ℕ → Route
route_of w version = record { address = w.address; path = w.path; version = version }

-- what a run heard: in its first session; how the updater answered, none where it failed; in its second session; and
-- to its farewell, which nothing looks at
pub record Heards : Type 0 where
  pub first : List ReplyHeard
  pub updated : Option Bool
  pub second : List ReplyHeard
  pub parting : List ReplyHeard

abbrev pub heard_in : Heards → List ReplyHeard
heard_in h = h.first ++ (h.second ++ h.parting)

-- of a run or a part of it: its requests; the packages that the updater was given, with its answers; the nonces that
-- are left behind it; what it put; and how the run ended, none where it isn't over
pub record Run : Type 0 where
  pub requests : List (List ℕ)
  pub updates : List Update
  pub nonces : List (List ℕ)
  pub text : List ℕ
  pub exit : Option Exit

-- a part, and what follows it
abbrev pub both_parts : Run → Run → Run
both_parts a b = record {
  requests = a.requests ++ b.requests;
  updates = a.updates ++ b.updates;
  nonces = b.nonces;
  text = a.text ++ b.text;
  exit = b.exit;
}

-- ---- the parts

abbrev pub word_text : Word → List ℕ
word_text word.Finished = codes "finished"
word_text word.Aborted = codes "aborted"
word_text word.Denied = codes "denied"
word_text word.GaveUp = codes "gaveup"
word_text word.Peer = codes "peer"

-- `session NUMBER WORD`
abbrev pub session_line : ℕ → Word → List ℕ
session_line number w = codes "session " ++ decimal number ++ codes " " ++ word_text w ++ line_feed

-- its line is put as it ends
abbrev pub line_by : ℕ → Option Word → List ℕ
line_by number None = []
line_by number (Some w) = session_line number w

abbrev pub session_part : ℕ → SessionRun → Run
session_part number s = record {
  requests = s.requests;
  updates = [];
  nonces = s.going.nonces;
  text = line_by number s.word;
  exit = None;
}

abbrev pub exit_of_word : Word → Exit
exit_of_word word.Finished = exit.Done
exit_of_word word.Aborted = exit.Done
exit_of_word word.Denied = exit.Denied
exit_of_word word.GaveUp = exit.GaveUp
exit_of_word word.Peer = exit.Peer

-- the farewell of a session that was denied is posted once
abbrev pub farewell_bytes : Machine → Option (List ℕ)
farewell_bytes c = option_map (λ (m : Parts). canonical m) c.farewell

abbrev pub farewells : List ℕ → List ℕ → Machine → Word → List (List ℕ)
farewells address path c word.Denied = request_of address path c (farewell_bytes c) ∷ []
farewells address path c other = []

-- behind the last session: its farewell, and the tree
abbrev pub closing : Route → Machine → List (List ℕ) → Word → Run
closing r c nonces w = record {
  requests = farewells r.address r.path c w;
  updates = [];
  nonces = nonces;
  text = tree_and_done r.version c.engine.tree;
  exit = Some (exit_of_word w);
}

-- behind a session that isn't over
abbrev pub nothing_more : List (List ℕ) → Run
nothing_more nonces = record { requests = []; updates = []; nonces = nonces; text = []; exit = None }

abbrev pub closing_by : Route → Machine → List (List ℕ) → Option Word → Run
closing_by r c nonces None = nothing_more nonces
closing_by r c nonces (Some w) = closing r c nonces w

-- a session that no other follows
abbrev pub last_session : Route → ℕ → SessionRun → Run
last_session r number s = both_parts (session_part number s) (closing_by r s.going.machine s.going.nonces s.word)

-- the package that was started is given to the updater
abbrev pub given_part : Machine → List (List ℕ) → Option Bool → Run
given_part c nonces answer = record {
  requests = [];
  updates = record { bytes = bytes_or_none (package_started c.engine.tree); answer = answer } ∷ [];
  nonces = nonces;
  text = [];
  exit = None;
}

-- ---- the whole

-- a session that begins, with nothing lost
abbrev pub begun_session : Machine → ℕ → Initiator → ℕ → List (List ℕ) → Going
begun_session c account kind number nonces =
    record { machine = next c (opened account kind number); tally = at_first; nonces = nonces }

-- an update ended well only where the updater said so
abbrev pub ended_well : Option Bool → Bool
ended_well (Some true) = true
ended_well other = false

-- the session that tells the result of an update
abbrev pub telling : ℕ → ℕ → Machine → List (List ℕ) → Option Bool → Going
telling account number c nonces answer = begun_session (next c (act (ended_well answer))) account ByClient number nonces

-- an update, and the session with this number that tells its result
abbrev pub follow_up : Route → ℕ → ℕ → Machine → List (List ℕ) → Option Bool → List ReplyHeard → Run
follow_up r account number c nonces answer hs =
    both_parts (given_part c nonces answer)
    (last_session r number (session r.address r.path (telling account number c nonces answer) hs))

-- a session that finished or was aborted, and left an update
abbrev pub leaves_update : Word → Machine → Bool
leaves_update word.Finished c = is_updating c.engine.tree
leaves_update word.Aborted c = is_updating c.engine.tree
leaves_update other c = false

abbrev pub behind_first : Route → ℕ → ℕ → Machine → List (List ℕ) → Heards → Option Word → Run
behind_first r account number c nonces h None = nothing_more nonces
behind_first r account number c nonces h (Some w) =
    if leaves_update w c then follow_up r account (number + 1) c nonces h.updated h.second else closing r c nonces w

-- a whole run of a machine that has begun its first session, with the number
unfoldable pub device_run : Route → ℕ → ℕ → Going → Heards → Run
device_run r account number g h =
    let s = session r.address r.path g h.first in
    both_parts (session_part number s) (behind_first r account number s.going.machine s.going.nonces h s.word)

-- ---- what is told of it

-- all of it was done: its requests were posted and this was heard, its packages given, its nonces used, its text put
pub record IsDone (address : List ℕ) (r : Run) (hs : List ReplyHeard) (before after : Outside) (old new : Option (List ℕ))
    : Type 0
  where
    pub posts : IsPosted address r.requests hs before.calls after.calls
    pub updates : after.updates ≡ before.updates ++ r.updates
    pub nonces : after.nonces ≡ r.nonces
    pub text : Appends old new r.text

-- it ended before: the first of its requests were posted and at most one dial more was made, the first of its packages
-- given, at most one nonce more used, and a prefix of its text put
pub record IsCut (address : List ℕ) (r : Run) (hs : List ReplyHeard) (before after : Outside) (old new : Option (List ℕ))
    : Type 0
  where
    pub posts : IsPostedInPart address r.requests hs before.calls after.calls
    pub given : ℕ
    pub updates : after.updates ≡ before.updates ++ take given r.updates
    pub used : ℕ
    pub few : used ≤ 1
    pub nonces : after.nonces ≡ drop used r.nonces
    pub text : PutsPrefix old new r.text

-- a run or a part of it, by its answer: a fault of the sink or want of memory ended it, or it is over
abbrev pub EndsPart : List ℕ → Run → List ReplyHeard → Exit → Outside → Outside → Option (List ℕ) → Option (List ℕ) → Type 0
EndsPart address r hs exit.WriteFault before after old new = IsCut address r hs before after old new
EndsPart address r hs exit.NoMemory before after old new = IsCut address r hs before after old new
EndsPart address r hs e before after old new = IsDone address r hs before after old new × (r.exit ≡ Some e)

-- of two parts, one behind the other: nothing of the second was done, or all of the first
abbrev pub IsCutInOrder : List ℕ → Run → Run → List ReplyHeard → List ReplyHeard → Outside → Outside → Option (List ℕ)
    → Option (List ℕ) → Type 0
IsCutInOrder address a b hs gs before after old new = IsCut address a hs before after old new
    ⊎ ((between : Outside) × (mid : Option (List ℕ)) × IsDone address a hs before between old mid
    × IsCut address b gs between after mid new)

abbrev pub EndsInOrder : List ℕ → Run → Run → List ReplyHeard → List ReplyHeard → Exit → Outside → Outside → Option (List ℕ)
    → Option (List ℕ) → Type 0
EndsInOrder address a b hs gs exit.WriteFault before after old new = IsCutInOrder address a b hs gs before after old new
EndsInOrder address a b hs gs exit.NoMemory before after old new = IsCutInOrder address a b hs gs before after old new
EndsInOrder address a b hs gs e before after old new = ⊤

-- what is behind a first session
abbrev pub behind_session : Route → ℕ → ℕ → SessionRun → Heards → Run
behind_session r account number s h = behind_first r account number s.going.machine s.going.nonces h s.word

-- by what was heard; nothing behind the first session is done before that is over and its line was put
abbrev pub IsRun : Route → ℕ → ℕ → Going → Outside → Outside → Option (List ℕ) → Option (List ℕ) → Exit → Type 0
IsRun r account number g before after old new e =
    (h : Heards) × EndsPart r.address (device_run r account number g h) (heard_in h) e before after old new
    × EndsInOrder r.address (session_part number (session r.address r.path g h.first))
    (behind_session r account number (session r.address r.path g h.first) h) h.first (h.second ++ h.parting) e
    before after old new
