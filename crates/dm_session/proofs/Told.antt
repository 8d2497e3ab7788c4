-- What a device tells of itself.
use Rattle.std.proofs.Common.{◌≡◌, ◌==◌, ℕ, true, List, [], ◌∷◌, ◌++◌, length, map, codes, Some, sym, ◌∙◌, ap, arith}
use Rattle.std.proofs.lemmas.Bool.{eqb-true}
use Rattle.std.proofs.lemmas.List.{append-nil}
use Rattle.syncml_types.specs.declared.command.Command.{Command}
use Rattle.syncml_types.specs.declared.values.Meta.{Meta}
use Rattle.dm_uri.specs.Names.{printed_path}
use Rattle.dm_tree.specs.Nodes.{Path, Nodes}
use Rattle.dm_tree.specs.Devices.{device_path, value_at}
use Rattle.dm_atomic.specs.Made.{source_item}
use Rattle.dm_machine.specs.declared.progress.UpdateResult.{UpdateResult}
use Rattle.dm_machine.specs.Opening.{typed_meta, device_item, result_alert}

pub device_item_is : (m : Nodes) (name uri value : List ℕ) (path : Path) (meta : Meta) → path ≡ device_path name
    → uri ≡ printed_path path → value ≡ value_at m path → meta ≡ typed_meta (codes "chr") (codes "text/plain")
    → source_item uri (Some meta) (Some value) ≡ device_item m name
device_item_is m name uri value path meta p u v t =
    ap (λ x. source_item x (Some meta) (Some value)) (u ∙ ap printed_path p)
    ∙ ap (λ x. source_item (printed_path (device_path name)) (Some x) (Some value)) t
    ∙ ap (λ x. source_item (printed_path (device_path name)) (Some (typed_meta (codes "chr") (codes "text/plain")))
    (Some x))
    (v ∙ ap (value_at m) p)

-- where no result waits, none is put
pub nothing_put : (out : List Command) (node : List ℕ) (results : List UpdateResult) → (length results == 0) ≡ true
    → out ≡ out ++ map (result_alert node) results
nothing_put out node [] none = sym (append-nil out)
nothing_put out node (r ∷ rs) none = absurd (omega (arith, eqb-true (length (r ∷ rs)) 0 none))
