-- What a message that is accepted makes of a client.
use Rattle.std.specs.Prelude.{◌≡◌, ◌+◌, ℕ, List, [], ◌++◌, length, map, set, Option, None, Some, IfSome}
use Rattle.std.specs.Option.{option_or, option_to_list}
use Rattle.dm_auth.specs.declared.accounts.Account.{Account}
use Rattle.dm_headers.specs.declared.hearing.Heard.{Heard}
use Rattle.dm_headers.specs.Standings
use Rattle.syncml_types.specs.declared.command.Command.{Command}
use Rattle.dm_pack.specs.Entries.{Entry, whole_entry}
use Rattle.dm_atomic.specs.Made.{told as told_of}
use Rattle.dm_atomic.specs.Run.{State}
use Rattle.dm_atomic.specs.Run as Running
use Rattle.dm_ends.specs.declared.farewells.LastMessage.{LastMessage}
use Rattle.dm_machine.specs.declared.kinds.End.{End}
use Rattle.dm_machine.specs.declared.kinds.End.TheVariants.{Finished, Aborted, Denied}
use Rattle.dm_machine.specs.declared.progress.UpdateResult.{UpdateResult}
use Rattle.dm_machine.specs.declared.progress.Progress.{Progress}
use Rattle.dm_machine.specs.Machine.{Machine}
use Rattle.dm_machine.specs.Messages.{Outcome, goes_on, ends}
use Rattle.dm_session.specs.declared.answers.Answer.{Answer}
use Rattle.dm_session.specs.declared.answers.Answer.TheVariants as answers
use Rattle.dm_session.specs.declared.rest.Rest.{Rest}
use Rattle.dm_session.specs.declared.rest.Session.{Session}
use Rattle.dm_session.specs.declared.drafts.Next.{Next}
use Rattle.dm_session.specs.declared.drafts.Next.TheVariants as next
use Rattle.dm_session.specs.declared.drafts.ClientChanges.{ClientChanges}
use Rattle.dm_session.specs.Inside.{IsSpelled}

-- with other accounts and another RespURI
abbrev pub rest_told : Rest → List Account → Option (List ℕ) → Rest
rest_told r accounts uri = record r { accounts = accounts; resp_uri = uri }

-- what waits with a Status in front and what was made behind
abbrev pub waiting_with : Option Command → List Entry → List Command → List Entry
waiting_with status q made = map whole_entry (option_to_list status) ++ (q ++ map whole_entry made)

-- the first package's entries stand behind that Status
abbrev pub behind_status : Progress → Option Command → Progress
behind_status p status = record p { opening_at = p.opening_at + length (option_to_list status) }

-- the results of updates are told where the session is finished
abbrev pub results_behind : End → List UpdateResult → List UpdateResult
results_behind Finished results = []
results_behind Aborted results = results
results_behind Denied results = results

abbrev pub ended_rest : Rest → End → Option LastMessage → Rest
ended_rest r end farewell = record r {
  session = None;
  results = results_behind end r.results;
  farewell = option_or farewell r.farewell;
}

-- the session goes on, or has ended
abbrev pub rest_behind : Rest → Next → Rest
rest_behind r (next.GoesOn session) = record r { session = Some session }
rest_behind r (next.Ends end farewell) = ended_rest r end farewell

abbrev pub outcome : Machine → Next → Outcome
outcome c (next.GoesOn session) = goes_on c
outcome c (next.Ends end farewell) = ends c end

abbrev pub account_behind : List Account → ℕ → Option Account → List Account
account_behind accounts at None = accounts
account_behind accounts at (Some account) = set accounts at account

-- the whole: the RespURI, the account at its place, and what comes next
abbrev pub drafted : Rest → ℕ → ClientChanges → Rest
drafted r at d =
    rest_behind (rest_told r (account_behind r.accounts at d.account) (option_or d.resp_uri r.resp_uri)) d.next

abbrev pub answer_of : Next → Answer
answer_of (next.GoesOn session) = answers.Sent
answer_of (next.Ends end farewell) = answers.Ended end

-- the bytes that are kept beside a message spell it
abbrev pub IsNextSpelled : Next → Type 0
IsNextSpelled (next.GoesOn session) = IsSpelled session.sent
IsNextSpelled (next.Ends end farewell) = IfSome farewell IsSpelled

-- a session has begun
abbrev pub begun_rest : Rest → ℕ → Session → Rest
begun_rest r number first = record r { begun = number; session = Some first; resp_uri = None; farewell = None }

-- what was heard of a header, where the account with the nonces to use next is this
pub record HeardAs (heard : Heard) (account : Account) (h : Standings.Heard) : Type 0 where
  pub code : h.code ≡ heard.code
  pub status : h.status ≡ heard.status
  pub second : h.second ≡ heard.second
  pub account_is : h.account ≡ account

-- what was executed: the state behind it, and the entries that tell it
pub record Executed (run : Running.Next) (state : State) (made : List Command) : Type 0 where
  pub state_is : state ≡ run.state
  pub made_is : made ≡ told_of run.made
