-- The client's next message.
use Rattle.std.specs.Prelude.{◌+◌, ◌-◌, false, if◌then◌else◌, None, Some}
use Rattle.syncml_types.specs.declared.values.Header.{Header}
use Rattle.dm_tree.specs.Devices.{device_id}
use Rattle.dm_auth.specs.declared.accounts.Account.{Account}
use Rattle.dm_headers.specs.declared.checks.Side.TheVariants.{User}
use Rattle.dm_headers.specs.Checks.{login_of}
use Rattle.dm_headers.specs.Headers.{next_header}
use Rattle.dm_pack.specs.Filling.{Filling, fill, is_final}
use Rattle.dm_machine.specs.declared.progress.Progress.{Progress}
use Rattle.dm_machine.specs.Machine.{Machine}

-- to the server, from the device and its user
abbrev pub header_from : Machine → Progress → Account → Header
header_from c p a =
    next_header (login_of User a) p.standing c.limits p.number
    (record { uri = a.server; name = None }) (record { uri = device_id c.engine.tree; name = a.user })

-- what the message takes leaves the queue, entries of the first package too, and with Final it is the server's turn
abbrev pub moved_on : Progress → Filling → Progress
moved_on p f = record p {
  standing = record p.standing {
    own = p.standing.own + 1;
    heard = if is_final f.tail then false else p.standing.heard;
  };
  opening_at = p.opening_at - f.whole;
  opening_left = p.opening_left - (f.whole - p.opening_at);
}

unfoldable pub sends : Machine → Progress → Account → Machine
sends c p a =
    let f = fill c.queue (header_from c p a) p.standing.room p.standing.heard in
    record c { queue = f.left; session = Some (record { progress = moved_on p f; sent = f.message }) }
