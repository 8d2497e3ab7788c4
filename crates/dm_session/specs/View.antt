-- A client as it is seen, and what its calls tell.
use Rattle.std.specs.Prelude.{◌≡◌, ℕ, if◌then◌else◌, List, Option, Result, Ok, Err, ⊤, IsSomeAnd}
use Rattle.std.specs.Prelude.{option_map, None}
use Rattle.syncml_types.specs.Canonical.{canonical}
use Rattle.dm_tree.specs.Nodes.{Nodes, Ids}
use Rattle.dm_tree.specs.Devices.{pkg_data, value_at}
use Rattle.dm_atomic.specs.Updates.{is_updating}
use Rattle.dm_machine.specs.Machine.{Session, Machine}
use Rattle.dm_machine.specs.Events.{Answer as Answered, sent, kept, stale, stranger, no_session, refused, exhausted}
use Rattle.dm_machine.specs.Events.{ended, acted, not_now}
use Rattle.dm_session.specs.declared.answers.Answer.{Answer}
use Rattle.dm_session.specs.declared.answers.Answer.TheVariants as answers
use Rattle.dm_session.specs.declared.answers.BeginError.{BeginError}
use Rattle.dm_session.specs.declared.answers.BeginError.TheVariants as errors
use Rattle.dm_session.specs.declared.answers.Acted.{Acted}
use Rattle.dm_session.specs.declared.answers.Acted.TheVariants as acts

-- its machine, and the numbers of its tree's nodes, also of those before an open group
pub record WholeMachine : Type 0 where
  pub machine : Machine
  pub ids : Ids
  pub base_ids : Option Ids

-- the answer to a message is this one, where Sent and Kept speak of the message sent last, and Ended of the farewell
abbrev pub Tells : Answer → Machine → Answered → Type 0
Tells answers.Sent c a = IsSomeAnd c.session (λ (s : Session). a ≡ sent s.sent)
Tells answers.Kept c a = IsSomeAnd c.session (λ (s : Session). a ≡ kept s.sent)
Tells (answers.Stale last) c a = a ≡ stale last
Tells answers.Stranger c a = a ≡ stranger
Tells answers.NoSession c a = a ≡ no_session
Tells (answers.Refused refusal) c a = a ≡ refused refusal
Tells (answers.Ended end) c a = a ≡ ended end c.farewell

-- what begins: a session whose first message is sent, or none since its number isn't above the last
abbrev pub Begins : Result (Unit {0}) BeginError → Machine → Answered → Type 0
Begins (Ok u) c a = IsSomeAnd c.session (λ (s : Session). a ≡ sent s.sent)
Begins (Err (errors.Exhausted last)) c a = a ≡ exhausted last
Begins (Err errors.Memory) c a = ⊤

abbrev pub TellsActed : Acted → Answered → Type 0
TellsActed acts.Done a = a ≡ acted
TellsActed acts.NotNow a = a ≡ not_now

-- the message sent last, while a session is open
abbrev pub sent_last : Machine → Option (List ℕ)
sent_last c = option_map (λ (s : Session). canonical s.sent) c.session

-- the value of PkgData, where an update runs
abbrev pub package_started : Nodes → Option (List ℕ)
package_started m = if is_updating m then option_map (value_at m) (pkg_data m) else None

-- where an open session stands: its number, and the MsgID of the last accepted message
abbrev pub position : Session → ℕ × ℕ
position s = (s.progress.number, s.progress.standing.last)
