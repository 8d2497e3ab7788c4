-- Over a run: which Statuses are owed for what is executed, which are made, and which are given up.
use Rattle.std.specs.Prelude.{◌≡◌, ◌+◌, ◌&&◌, ℕ, Bool, not, if◌then◌else◌, List, [], ◌∷◌, ◌++◌, Option, None, Some}
use Rattle.std.specs.Prelude.{Result, Ok, Err, ⊤}
use Rattle.std.specs.List.{list_any, sum_by}
use Rattle.syncml_types.specs.Message.{Parts}
use Rattle.wbxml_tokens.specs.declared.reason.Refusal.{Refusal}
use Rattle.dm_headers.specs.declared.checks.Side.TheVariants.{Server}
use Rattle.dm_headers.specs.Checks.{passes}
use Rattle.dm_headers.specs.Standings.{Heard, hears}
use Rattle.dm_atomic.specs.declared.tasks.Post.{Post}
use Rattle.dm_atomic.specs.Posts.{all_asked, made_posts, waiting_posts}
use Rattle.dm_atomic.specs.Run.{Group, State, Next, quietly}
use Rattle.dm_machine.specs.declared.progress.Progress.{Progress}
use Rattle.dm_machine.specs.Machine.{Machine, Session}
use Rattle.dm_machine.specs.Messages.{Outcome, goes_on, ends, account_at, execute, is_abort, is_last_own}
use Rattle.dm_machine.specs.Messages.{accepts}
use Rattle.dm_machine.specs.Events.{Event, opened, message, after}
use Rattle.dm_machine.specs.History.{fresh, reached}
use Rattle.dm_ends.specs.Commands.{origin_of}

-- what one event asks, what is made with it, and what is given up
pub record Counted : Type 0 where
  pub asked : List Post
  pub made : List Post
  pub given_up : List Post

abbrev pub nothing_counted : Counted
nothing_counted = record { asked = []; made = []; given_up = [] }

-- the session goes on behind the header of a message, and the message passes
abbrev pub is_executed : Progress → Parts → Heard → Bool
is_executed p m h = not (is_last_own p) && (not h.second && (passes h.code && not (list_any is_abort m.body)))

abbrev pub executed : Machine → Progress → Parts → Heard → Next
executed c p m h = if is_executed p m h then execute c h.account m else quietly c.engine

-- what waits for a group's close where the session ends
abbrev pub waiting_at : Outcome → Option Group → List Post
waiting_at (goes_on c) group = []
waiting_at (ends c end) group = waiting_posts group

abbrev pub message_counted : Machine → Progress → Parts → List ℕ → Counted
message_counted c p m nonce =
    let h = hears Server (account_at c p.account) p.standing m nonce in
    let run = executed c p m h in
    record {
      asked = if is_executed p m h then all_asked (origin_of m) m.body else [];
      made = made_posts run.made;
      given_up = waiting_at (accepts c p m nonce) run.state.group;
    }

abbrev pub session_counted : Machine → Option Session → Parts → List ℕ → Counted
session_counted c None m nonce = nothing_counted
session_counted c (Some s) m nonce = message_counted c s.progress m nonce

abbrev pub read_counted : Machine → Result Parts Refusal → List ℕ → Counted
read_counted c (Ok m) nonce = session_counted c c.session m nonce
read_counted c (Err place) nonce = nothing_counted

-- an open session ends where another begins
abbrev pub counted_at : Machine → Event → Counted
counted_at c (opened account kind number) = record nothing_counted { given_up = waiting_posts c.engine.group }
counted_at c (message read nonce) = read_counted c read nonce
counted_at c other = nothing_counted

abbrev pub asked_in_run : Machine → List Event → List Post
asked_in_run c [] = []
asked_in_run c (e ∷ es) = (counted_at c e).asked ++ asked_in_run (after c e) es

abbrev pub made_in_run : Machine → List Event → List Post
made_in_run c [] = []
made_in_run c (e ∷ es) = (counted_at c e).made ++ made_in_run (after c e) es

abbrev pub given_up_in_run : Machine → List Event → List Post
given_up_in_run c [] = []
given_up_in_run c (e ∷ es) = (counted_at c e).given_up ++ given_up_in_run (after c e) es

-- over all events that act, each step and each container that is executed has one Status made, in its message or later,
-- unless it still waits for its group's close, or its session ended while it waited: however one counts
abbrev pub OneStatusEachInRuns : Type 0
OneStatusEachInRuns = (c : Machine) (es : List Event) (weight : Post → ℕ)
    → sum_by weight (waiting_posts c.engine.group) + sum_by weight (asked_in_run c (fresh c es))
    ≡ sum_by weight (made_in_run c (fresh c es)) + (sum_by weight (given_up_in_run c (fresh c es))
    + sum_by weight (waiting_posts (reached c (fresh c es)).engine.group))

-- ---- what is counted is what the machine runs

abbrev pub GoesOnWith : State → Outcome → Type 0
GoesOnWith s (goes_on c) = c.engine ≡ s
GoesOnWith s (ends c end) = ⊤

-- where the session goes on, the machine has the state that the counted commands leave
abbrev pub CountsWhatRuns : Type 0
CountsWhatRuns = (c : Machine) (p : Progress) (m : Parts) (nonce : List ℕ)
    → GoesOnWith (executed c p m (hears Server (account_at c p.account) p.standing m nonce)).state (accepts c p m nonce)
