-- What both ends look for in a message, and the alerts that they make.
use Rattle.std.specs.Prelude.{◌==◌, ℕ, Bool, true, false, List, Option, None, Some}
use Rattle.dm_base.specs.Fields.{num_of}
use Rattle.syncml_types.specs.declared.values.Item.{Item}
use Rattle.syncml_types.specs.declared.command.Command.{Command}
use Rattle.syncml_types.specs.declared.command.Command.TheVariants as command
use Rattle.syncml_types.specs.Message.{Parts}
use Rattle.dm_atomic.specs.declared.tasks.Origin.{Origin}

-- what the Statuses for a message's commands tell of it
abbrev pub origin_of : Parts → Origin
origin_of m = record { msg = m.header.msg; quiet = m.header.no_resp }

abbrev pub alert : ℕ → Option (List ℕ) → List Item → Command
alert code correlator items =
    command.Alert (record { id = 0; no_resp = false; code = code; correlator = correlator; items = items })

-- Alert 1223, which ends the session
abbrev pub is_abort : Command → Bool
is_abort (command.Alert a) = a.code == 1223
is_abort other = false

abbrev pub is_report : Command → Bool
is_report (command.Status c) = true
is_report (command.Results c) = true
is_report other = false

-- the number that a message's SessionID is in decimal
abbrev pub session_of : Parts → Option ℕ
session_of m = num_of m.header.session

abbrev pub is_same_number : Option ℕ → ℕ → Bool
is_same_number None n = false
is_same_number (Some k) n = k == n
