-- The values that a Replace gives.
use Rattle.std.proofs.Common.{◌≡◌, ◌≤◌, ℕ, false, length, None, sym, ◌∙◌, ap, subst}
use Rattle.std.specs.Prelude.{unwrap_or}
use Rattle.dm_uri.specs.declared.uri.Uri.{Uri}
use Rattle.syncml_types.specs.declared.command.Step.{Step}
use Rattle.dm_tree.specs.declared.nodes.Node.{Node}
use Rattle.dm_tree.specs.declared.nodes.Value.{Value}
use Rattle.dm_tree.specs.declared.rows.Row.{Row}
use Rattle.std.specs.Prelude.{List}
use Rattle.dm_tree.specs.Nodes.{IsValue, IsWellFormed, with_value, with_bytes}
use Rattle.dm_tree.specs.Rows.{blank_node, node_of, path_of, nodes, IsLive, IsTree}
use Rattle.dm_tree.proofs.LiveRows.{node_there}
use Rattle.dm_commands.specs.Outcomes.{Setting, first_refusal, node_at}
use Rattle.dm_commands.specs.Table.{value_refusals, replaced_value, kept_format, kept_media, has_bad_meta}
use Rattle.dm_commands.proofs.Keeping.{none_holds}
use Rattle.dm_commands.proofs.Updating.{replaced_is_value}

pub given_value : (s : Setting) (rows : List Row) → IsWellFormed (nodes rows) → IsTree rows
    → (step : Step) (uri : Uri) (id : ℕ) → IsLive rows id
    → path_of rows id ≡ uri.path → first_refusal (value_refusals s (nodes rows) step uri) ≡ None
    → length step.value ≤ 4194304
    → (value : Value) → value ≡ replaced_value (node_of rows id) step → IsValue false value
given_value s rows formed tree step uri id live path judged small value is =
    let tests = none_holds (value_refusals s (nodes rows) step uri) judged in
    let there = node_there rows tree.shape id live in
    let here : node_at (nodes rows) uri.path ≡ node_of rows id =
    ap (λ p. node_at (nodes rows) p) (sym path) ∙ ap (λ o. unwrap_or o blank_node) there in
    subst (IsValue false) (sym is)
    (replaced_is_value (node_of rows id) step (formed.each (path_of rows id) (node_of rows id) there)
    (ap (λ (x : Node). x.interior) (sym here) ∙ tests.1.1.0) tests.1.1.1.0
    (ap (λ (x : Node). has_bad_meta (kept_format x step) (kept_media x step)) (sym here) ∙ tests.1.1.1.1.1.0) small)

-- a Replace that gives neither a Format nor a Type gives the bytes alone
pub bytes_alone : (node : Node) (step : Step) → step.format ≡ None → step.media ≡ None
    → with_bytes node step.value ≡ with_value node (replaced_value node step)
bytes_alone node step format media =
    ap (λ o. with_value node (record {
      format = unwrap_or o node.value.format;
      media = node.value.media;
      bytes = step.value;
    })) (sym format)
    ∙ ap (λ o. with_value node (record {
      format = kept_format node step;
      media = unwrap_or o node.value.media;
      bytes = step.value;
    })) (sym media)
