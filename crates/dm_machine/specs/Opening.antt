-- The first package of a session: its Alert, the results of updates that weren't told yet, and what the device is.
use Rattle.std.specs.Prelude.{ℕ, Bool, false, List, [], ◌∷◌, ◌++◌, map, codes, Option, None, Some}
use Rattle.std.specs.Fmt.{decimal}
use Rattle.std.specs.Option.{option_map_or}
use Rattle.syncml_types.specs.declared.values.Meta.{Meta}
use Rattle.syncml_types.specs.declared.values.Item.{Item}
use Rattle.syncml_types.specs.declared.command.Verb.TheVariants.{Replace}
use Rattle.syncml_types.specs.declared.command.Command.{Command}
use Rattle.syncml_types.specs.declared.command.Command.TheVariants as command
use Rattle.syncml_types.specs.Message.{no_meta}
use Rattle.dm_uri.specs.Names.{printed_path}
use Rattle.dm_tree.specs.Nodes.{Nodes}
use Rattle.dm_tree.specs.Devices.{device_leaves, device_path, value_at, update_node}
use Rattle.dm_fumo.specs.States.{result_code}
use Rattle.dm_atomic.specs.Made.{source_item}
use Rattle.dm_pack.specs.Entries.{Entry, whole_entry}
pub use Rattle.dm_ends.specs.Commands.{alert}
use Rattle.dm_machine.specs.declared.kinds.Initiator.{Initiator}
use Rattle.dm_machine.specs.declared.kinds.Initiator.TheVariants.{ByServer, ByClient}
use Rattle.dm_machine.specs.declared.progress.UpdateResult.{UpdateResult}
use Rattle.dm_machine.specs.Machine.{Machine}

abbrev pub kind_code : Initiator → ℕ
kind_code ByServer = 1200
kind_code ByClient = 1201

abbrev pub typed_meta : List ℕ → List ℕ → Meta
typed_meta format media = record no_meta { format = Some format; media = Some media }

-- ---- results of updates

-- of the update at this node, by its printed path
abbrev pub result_item : List ℕ → Bool → Item
result_item node ok =
    source_item node (Some (typed_meta (codes "chr") (codes "org.openmobilealliance.dm.firmwareupdate.update")))
    (Some (decimal (result_code ok)))

abbrev pub result_alert : List ℕ → UpdateResult → Command
result_alert node result = alert 1226 result.correlator (result_item node result.ok ∷ [])

abbrev pub update_uri : Nodes → List ℕ
update_uri tree = option_map_or printed_path (update_node tree) []

-- ---- the device

abbrev pub device_item : Nodes → List ℕ → Item
device_item tree name =
    source_item (printed_path (device_path name)) (Some (typed_meta (codes "chr") (codes "text/plain")))
    (Some (value_at tree (device_path name)))

abbrev pub device_told : Nodes → Command
device_told tree = command.Plain (record {
  verb = Replace;
  id = 0;
  no_resp = false;
  meta = None;
  correlator = None;
  items = map (device_item tree) device_leaves;
})

-- ---- the package

abbrev pub opening : Initiator → List UpdateResult → Nodes → List Command
opening kind results tree =
    alert (kind_code kind) None [] ∷ map (result_alert (update_uri tree)) results ++ device_told tree ∷ []

abbrev pub first_package : Machine → Initiator → List Entry
first_package c kind = map whole_entry (opening kind c.results c.engine.tree)
