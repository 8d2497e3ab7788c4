-- What the header of a message comes to: its code, by the checks and by the credential that it shows.
use Rattle.std.specs.Prelude.{◌==◌, ◌&&◌, ◌||◌, ℕ, Bool, not, if◌then◌else◌, List, [], ◌∷◌, codes, bytes_eq, Option}
use Rattle.std.specs.Prelude.{None, Some, unwrap_or, is_some, option_and_then}
use Rattle.std.specs.Option.{option_or}
use Rattle.syncml_types.specs.declared.values.Cred.{Cred}
use Rattle.syncml_types.specs.declared.values.Meta.{Meta}
use Rattle.syncml_types.specs.declared.command.StatusCmd.{StatusCmd}
use Rattle.syncml_types.specs.declared.command.Command.{Command}
use Rattle.syncml_types.specs.declared.command.Command.TheVariants as command
use Rattle.syncml_types.specs.Message.{Parts}
use Rattle.dm_auth.specs.declared.accounts.Account.{Account}
use Rattle.dm_auth.specs.declared.credentials.Verdict.{Verdict}
use Rattle.dm_auth.specs.declared.credentials.Verdict.TheVariants.{Missing, Accepted, Wrong}
use Rattle.dm_auth.specs.Digests.{verdict, decoded_nonce}
use Rattle.dm_headers.specs.declared.checks.Side.{Side}
use Rattle.dm_headers.specs.declared.checks.Side.TheVariants.{Server, User}
use Rattle.dm_headers.specs.CmdIds.{body_ids, has_twins}

-- ---- what one side shows, and is checked by

pub record Login : Type 0 where
  pub name : Option (List ℕ)
  pub password : Option (List ℕ)
  pub nonce : List ℕ

abbrev pub login_of : Side → Account → Login
login_of Server a = record { name = Some a.server; password = a.server_password; nonce = a.server_nonce }
login_of User a = record { name = a.user; password = a.user_password; nonce = a.user_nonce }

abbrev pub other : Side → Side
other Server = User
other User = Server

abbrev pub with_nonce : Side → List ℕ → Account → Account
with_nonce Server nonce a = record a { server_nonce = nonce }
with_nonce User nonce a = record a { user_nonce = nonce }

-- with another nonce, where there is one
abbrev pub renewed : Side → Option (List ℕ) → Account → Account
renewed side None a = a
renewed side (Some nonce) a = with_nonce side nonce a

-- the nonces of both sides: of the one whose message this is, and of the other
abbrev pub with_both : Side → Option (List ℕ) → Option (List ℕ) → Account → Account
with_both theirs asked told a = renewed theirs asked (renewed (other theirs) told a)

-- ---- the header's code

-- the first fault: another version of the message, or of the protocol, or a CmdID that stands twice
abbrev pub fault_of : Parts → Option ℕ
fault_of m =
    if not (bytes_eq m.header.dtd (codes "1.2")) then Some 505
    else if not (bytes_eq m.header.proto (codes "DM/1.2")) then Some 513
    else if has_twins (body_ids m.body) then Some 400
    else None

abbrev pub verdict_code : Verdict → ℕ
verdict_code Missing = 407
verdict_code Wrong = 401
verdict_code Accepted = 212

-- a side with a name and a password is judged until one credential was accepted in the session
abbrev pub judged : Bool → Option (List ℕ) → Option (List ℕ) → List ℕ → Option Cred → ℕ
judged accepted (Some name) (Some password) nonce cred =
    if accepted then 200 else verdict_code (verdict name password nonce cred)
judged accepted (Some name) None nonce cred = 200
judged accepted None password nonce cred = 200

abbrev pub judged_by : Bool → Login → Option Cred → ℕ
judged_by accepted login cred = judged accepted login.name login.password login.nonce cred

unfoldable pub header_code : Bool → Login → Parts → ℕ
header_code accepted login m = unwrap_or (fault_of m) (judged_by accepted login m.header.cred)

-- the Status with this code holds a challenge
abbrev pub is_challenged : ℕ → Bool
is_challenged code = code == 212 || code == 401 || code == 407

-- a credential was wanted, and wasn't shown or is wrong
abbrev pub is_denied : ℕ → Bool
is_denied code = code == 401 || code == 407

-- the commands of the message count
abbrev pub passes : ℕ → Bool
passes code = code == 200 || code == 212

-- ---- the Status of the last message's header

abbrev pub is_for_header : ℕ → StatusCmd → Bool
is_for_header own c = c.cmd_ref == 0 && c.msg_ref == own

abbrev pub status_in : ℕ → Command → Option StatusCmd
status_in own (command.Status c) = if is_for_header own c then Some c else None
status_in own other = None

-- the first top-level Status for the header of the message with this MsgID
abbrev pub header_status : ℕ → List Command → Option StatusCmd
header_status own [] = None
header_status own (c ∷ cs) = option_or (status_in own c) (header_status own cs)

-- it is read in a message without fault
unfoldable pub status_read : ℕ → Parts → Option StatusCmd
status_read own m = if is_some (fault_of m) then None else header_status own m.body

-- its code; 0 where there is none
abbrev pub code_read : Option StatusCmd → ℕ
code_read None = 0
code_read (Some c) = c.code

abbrev pub told_nonce : Option Meta → Option (List ℕ)
told_nonce chal = option_and_then decoded_nonce (option_and_then (λ (m : Meta). m.next_nonce) chal)

-- the nonce that it tells this end to use next: what a challenge tells, where it is strict base64
abbrev pub nonce_in : Option StatusCmd → Option (List ℕ)
nonce_in None = None
nonce_in (Some c) = if is_challenged c.code then told_nonce c.chal else None
