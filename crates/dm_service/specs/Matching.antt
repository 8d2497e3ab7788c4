-- What a message of the client tells of the job's commands: their codes and what they found; and the alerts that are
-- kept.
use Rattle.std.specs.Prelude.{◌==◌, ◌&&◌, ◌-◌, ℕ, Bool, false, if◌then◌else◌, List, [], ◌∷◌, ◌++◌, set, get_or, Option}
use Rattle.std.specs.Prelude.{None}
use Rattle.std.specs.Prelude.{Some, unwrap_or, option_and_then}
use Rattle.syncml_types.specs.declared.values.Item.{Item}
use Rattle.syncml_types.specs.declared.values.Meta.{Meta}
use Rattle.syncml_types.specs.declared.command.AlertCmd.{AlertCmd}
use Rattle.syncml_types.specs.declared.command.Plain.{Plain}
use Rattle.syncml_types.specs.declared.command.ResultsCmd.{ResultsCmd}
use Rattle.syncml_types.specs.declared.command.StatusCmd.{StatusCmd}
use Rattle.syncml_types.specs.declared.command.Step.{Step}
use Rattle.syncml_types.specs.declared.command.Verb.TheVariants.{Replace}
use Rattle.syncml_types.specs.declared.command.Command.{Command}
use Rattle.syncml_types.specs.declared.command.Command.TheVariants as command
use Rattle.dm_objects.specs.declared.object.Object.{Object}
use Rattle.dm_objects.specs.declared.piece.Piece.{Piece}
use Rattle.dm_objects.specs.declared.piece.What.{What}
use Rattle.dm_objects.specs.declared.piece.What.TheVariants.{Whole, Buffered, Refused}
use Rattle.dm_objects.specs.Gathering.{gather}
use Rattle.dm_atomic.specs.Tasks.{piece_of}
use Rattle.dm_service.specs.declared.sent.KeptAlert.{KeptAlert}
use Rattle.dm_service.specs.declared.sent.Sent.{Sent}
use Rattle.dm_service.specs.Service.{Told}

-- ---- which command is meant

abbrev pub is_for : ℕ → ℕ → Sent → Bool
is_for msg command s = s.msg == msg && s.command == command

-- the command that was sent under a MsgID and a CmdID in this session
abbrev pub find_sent : ℕ → ℕ → List Sent → Option Sent
find_sent msg command [] = None
find_sent msg command (s ∷ ss) = if is_for msg command s then Some s else find_sent msg command ss

-- ---- codes

abbrev pub untold : Told
untold = record { code = None; found = [] }

-- what was told of the command with this number
abbrev pub told_at : List Told → ℕ → Told
told_at told number = get_or told (number - 1) untold

abbrev pub with_code : List Told → ℕ → ℕ → List Told
with_code told number code = set told (number - 1) (record (told_at told number) { code = Some code })

-- the Status of a part that more parts follow tells no code
abbrev pub coded : List Told → Option Sent → ℕ → List Told
coded told None code = told
coded told (Some s) code = if s.counts then with_code told s.number code else told

abbrev pub takes_status : List Sent → List Told → StatusCmd → List Told
takes_status sent told c = coded told (find_sent c.msg_ref c.cmd_ref sent) c.code

-- ---- values

abbrev pub with_found : List Told → ℕ → Step → List Told
with_found told number step =
    set told (number - 1) (record (told_at told number) { found = (told_at told number).found ++ step ∷ [] })

-- Results are gathered as a Replace outside an Atomic, whose targets are the Sources of their Items
abbrev pub as_replace : ResultsCmd → Plain
as_replace r = record {
  verb = Replace;
  id = r.id;
  no_resp = false;
  meta = r.meta;
  correlator = None;
  items = r.items;
}

abbrev pub to_source : Item → Item
to_source i = record i { target = i.source }

abbrev pub result_piece : ResultsCmd → Item → Piece
result_piece r i = piece_of false (as_replace r) (to_source i)

-- how far values have come
pub record Finding : Type 0 where
  pub object : Object
  pub told : List Told

-- a piece with which the value is whole
abbrev pub found_in : List Told → ℕ → What → List Told
found_in told number (Whole step) = with_found told number step
found_in told number Buffered = told
found_in told number (Refused code) = told

abbrev pub takes_item : ℕ → ℕ → ResultsCmd → Finding → Item → Finding
takes_item max number r x i =
    let g = gather max x.object (result_piece r i) in
    record { object = g.object; told = found_in x.told number g.what }

abbrev pub takes_items : ℕ → ℕ → ResultsCmd → Finding → List Item → Finding
takes_items max number r x [] = x
takes_items max number r x (i ∷ is) = takes_items max number r (takes_item max number r x i) is

abbrev pub takes_found : ℕ → Option Sent → ResultsCmd → Finding → Finding
takes_found max None r x = x
takes_found max (Some s) r x = takes_items max s.number r x r.items

-- the command of the job, as it was sent in this session, that Results name
abbrev pub results_for : List Sent → ResultsCmd → Option Sent
results_for sent r = option_and_then (λ msg. find_sent msg r.cmd_ref sent) r.msg_ref

-- Results that name no command of the job that was sent in this session are not gathered
abbrev pub takes_results : ℕ → List Sent → Finding → ResultsCmd → Finding
takes_results max sent x r = takes_found max (results_for sent r) r x

-- ---- alerts

abbrev pub item_media : Item → Option (List ℕ)
item_media i = option_and_then (λ (m : Meta). m.media) i.meta

abbrev pub kept_alert : List Item → KeptAlert
kept_alert [] = record { media = []; value = [] }
kept_alert (i ∷ is) = record { media = unwrap_or (item_media i) []; value = unwrap_or i.value [] }

-- the generic alert
abbrev pub takes_alert : List KeptAlert → AlertCmd → List KeptAlert
takes_alert alerts a = if a.code == 1226 then alerts ++ kept_alert a.items ∷ [] else alerts

-- ---- a whole message

pub record Matched : Type 0 where
  pub finding : Finding
  pub alerts : List KeptAlert

abbrev pub takes_command : ℕ → List Sent → Matched → Command → Matched
takes_command max sent x (command.Status c) =
    record x { finding = record x.finding { told = takes_status sent x.finding.told c } }
takes_command max sent x (command.Results r) = record x { finding = takes_results max sent x.finding r }
takes_command max sent x (command.Alert a) = record x { alerts = takes_alert x.alerts a }
takes_command max sent x (command.Plain c) = x
takes_command max sent x (command.Atomic b) = x
takes_command max sent x (command.Sequence b) = x

-- its top-level commands, in document order
unfoldable pub matched : ℕ → List Sent → Matched → List Command → Matched
matched max sent x [] = x
matched max sent x (c ∷ cs) = matched max sent (takes_command max sent x c) cs
