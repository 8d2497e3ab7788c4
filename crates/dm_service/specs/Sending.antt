-- The server's next message, which commands of the job it holds, and whether it ends the session.
use Rattle.std.specs.Prelude.{◌==◌, ◌&&◌, ◌||◌, ◌+◌, ◌-◌, ℕ, zero, suc, Bool, true, false, not, if◌then◌else◌, nat_lt}
use Rattle.std.specs.Prelude.{List, [], ◌∷◌, ◌++◌, map, length, drop, codes, Option, None, Some, is_some}
use Rattle.std.specs.List.{list_any, list_all}
use Rattle.syncml_types.specs.declared.values.Header.{Header}
use Rattle.syncml_types.specs.declared.values.Loc.{Loc}
use Rattle.syncml_types.specs.declared.command.Command.{Command}
use Rattle.syncml_types.specs.declared.command.Command.TheVariants as command
use Rattle.syncml_types.specs.Message.{Parts}
use Rattle.syncml_parts.specs.Numbering.{ids_in}
use Rattle.dm_auth.specs.declared.accounts.Account.{Account}
use Rattle.dm_headers.specs.declared.checks.Side.TheVariants.{Server}
use Rattle.dm_headers.specs.declared.standings.Standing.{Standing}
use Rattle.dm_headers.specs.Checks.{login_of, passes}
use Rattle.dm_headers.specs.Headers.{next_header}
use Rattle.dm_pack.specs.Entries.{Entry}
use Rattle.dm_pack.specs.Filling.{Filling, fill, is_final}
use Rattle.dm_ends.specs.Commands.{is_report}
use Rattle.dm_service.specs.declared.progress.ServiceProgress.{ServiceProgress}
use Rattle.dm_service.specs.declared.sent.Carried.{Carried}
use Rattle.dm_service.specs.declared.sent.Sent.{Sent}
use Rattle.dm_service.specs.Service.{Waiting, Session, Service}

-- ---- the header

-- the client, by the Source of the message that is answered
abbrev pub client_target : Parts → Loc
client_target m = record {
  uri = if nat_lt 255 (length m.header.source.uri) then codes "device" else m.header.source.uri;
  name = None;
}

abbrev pub header_for : Service → ServiceProgress → Parts → Header
header_for v p m =
    next_header (login_of Server v.job.account) p.standing v.job.limits p.number
    (client_target m) (record { uri = v.job.account.server; name = None })

-- ---- the commands of the job that it holds

-- so many commands in a row, from a CmdID and from a number on
abbrev pub in_a_row : ℕ → ℕ → ℕ → ℕ → List Sent
in_a_row msg command number zero = []
in_a_row msg command number (suc n) =
    record { msg = msg; command = command; number = number; counts = true } ∷ in_a_row msg (command + 1) (number + 1) n

-- a later part holds the command itself, or the container and its last member alone
abbrev pub last_part_sent : ℕ → ℕ → Carried → List Sent
last_part_sent msg command c =
    record { msg = msg; command = command; number = c.first; counts = true }
    ∷ (if nat_lt 1 c.count
    then record { msg = msg; command = command + 1; number = c.first + c.count - 1; counts = true } ∷ [] else [])

-- what an entry holds when the rest of it goes out
abbrev pub rest_holds : ℕ → ℕ → Bool → Option Carried → List Sent
rest_holds msg command begun None = []
rest_holds msg command false (Some c) = in_a_row msg command c.first c.count
rest_holds msg command true (Some c) = last_part_sent msg command c

abbrev pub not_counting : Sent → Sent
not_counting s = record s { counts = false }

abbrev pub but_the_last : List Sent → List Sent
but_the_last [] = []
but_the_last (s ∷ []) = not_counting s ∷ []
but_the_last (s ∷ t ∷ ss) = s ∷ but_the_last (t ∷ ss)

-- where a part follows, its Statuses don't count: that of the command, which comes again, and of a container those of
-- itself and of its last member
abbrev pub part_holds : List Sent → List Sent
part_holds [] = []
part_holds (s ∷ ss) = not_counting s ∷ but_the_last ss

-- of the entries that wait so many whole ones, and a part of the next where bytes of it go out
abbrev pub goes_out : ℕ → ℕ → ℕ → ℕ → List Waiting → List Sent
goes_out msg command whole cut [] = []
goes_out msg command zero zero (w ∷ ws) = []
goes_out msg command zero (suc n) (w ∷ ws) = part_holds (rest_holds msg command w.entry.begun w.carries)
goes_out msg command (suc whole) cut (w ∷ ws) =
    rest_holds msg command w.entry.begun w.carries ++ goes_out msg (command + ids_in w.entry.command) whole cut ws

-- entries with what they carry
abbrev pub carried_on : List Entry → List Waiting → List Waiting
carried_on [] ws = []
carried_on (e ∷ es) [] = []
carried_on (e ∷ es) (w ∷ ws) = record w { entry = e } ∷ carried_on es ws

-- ---- the end of a session

-- Alert 1222, which asks for the next message
abbrev pub is_next_request : Command → Bool
is_next_request (command.Alert a) = a.code == 1222
is_next_request other = false

-- nothing waits at the client: its package is at its end, or it asks for the next message
abbrev pub is_done_there : Parts → ℕ → Bool
is_done_there m code = m.last || (passes code && list_any is_next_request m.body)

-- the client told in the session that it accepted the server's credential, where it is shown one
abbrev pub is_welcome : Account → Standing → Bool
is_welcome a s = not (is_some a.server_password) || s.welcomed

-- nothing is left on either side: the client is accepted, and has accepted the server where that shows a credential;
-- its own package is at its end, or it asks for the next message; the message has Final and no command, nothing waits,
-- and no package is left
abbrev pub is_last : Service → Standing → Parts → ℕ → Filling → Bool
is_last v s m code f =
    s.accepted && is_final f.tail && list_all is_report f.message.body && length v.packages == 0
    && is_done_there m code && is_welcome v.job.account s

-- ---- sending

-- the job runs in the session in which a command of it goes out
abbrev pub runs_in_after : Option ℕ → ℕ → List Sent → Option ℕ
runs_in_after runs number [] = runs
runs_in_after runs number (s ∷ ss) = Some number

-- with Final it is the client's turn
abbrev pub standing_sent : Standing → Filling → Standing
standing_sent s f = record s { own = s.own + 1; heard = if is_final f.tail then false else s.heard }

-- the answer to a message with this header code
unfoldable pub sends : Service → Session → Parts → ℕ → Service
sends v s m code =
    let p = s.progress in
    let f = fill (map (λ (w : Waiting). w.entry) v.queue) (header_for v p m) p.standing.room p.standing.heard in
    let out = goes_out (p.standing.own + 1) 1 f.whole f.cut v.queue in
    record v {
      queue = carried_on f.left (drop f.whole v.queue);
      runs_in = runs_in_after v.runs_in p.number out;
      session = Some (record s {
        progress = record p {
          standing = standing_sent p.standing f;
          answered = true;
          is_over = is_last v p.standing m code f;
        };
        sent = s.sent ++ out;
      });
      sent = Some f.message;
    }
