-- The update part of a tree, as steps read and write it.
use Rattle.std.specs.Prelude.{ℕ, Bool, if◌then◌else◌, List, [], bytes_eq, unwrap_or}
use Rattle.std.specs.Option.{option_map_or}
use Rattle.std.specs.Fmt.{decimal}
use Rattle.std.specs.FinMap.{insert}
use Rattle.std.specs.Str.Parse.{digits_value}
use Rattle.dm_fumo.specs.States.{after_write, after_result}
use Rattle.dm_tree.specs.declared.nodes.Node.{Node}
use Rattle.dm_tree.specs.declared.nodes.Stamp.{Stamp}
use Rattle.dm_tree.specs.Nodes.{Path, Nodes, changed, with_value}
use Rattle.dm_tree.specs.Devices.{pkg_data, state_node, value_at}
use Rattle.dm_commands.specs.Outcomes.{Setting, asked_by, node_at}

-- the state of the update, which State has as a decimal number
abbrev pub state_in_tree : Nodes → ℕ
state_in_tree m = digits_value 10 (option_map_or (value_at m) (state_node m) [])

-- the state after the package is written, by whether the new value is empty; a write during an update is refused
abbrev pub state_after_write : Nodes → Bool → ℕ
state_after_write m empty = unwrap_or (after_write (state_in_tree m) empty) (state_in_tree m)

-- a node with other bytes, which the clock stamps
abbrev pub rewritten : Setting → Node → List ℕ → Node
rewritten s node bytes = changed s.clock (with_value node (record node.value { bytes = bytes }))

abbrev pub rewritten_at : Setting → Nodes → Nodes → Path → List ℕ → Nodes
rewritten_at s before after q text =
    if bytes_eq (value_at before q) text then after else insert after q (rewritten s (node_at before q) text)

-- the tree after a step on the tree `before`, with the state that it leads to: State is written only where it changes
abbrev pub with_state : Setting → Nodes → Nodes → ℕ → Nodes
with_state s before after state =
    option_map_or (λ q. rewritten_at s before after q (decimal state)) (state_node before) after

-- ---- the end of an update

abbrev pub package_at : Stamp → Nodes → Bool → Path → Nodes
package_at clock m ok p = if ok then insert m p (rewritten (asked_by [] clock) (node_at m p) []) else m

-- the tree after the update ended: the package is empty where it succeeded, and State is that of the result
unfoldable pub update_ended : Stamp → Nodes → Bool → Nodes
update_ended clock m ok =
    with_state (asked_by [] clock) m (option_map_or (package_at clock m ok) (pkg_data m) m) (after_result ok)
