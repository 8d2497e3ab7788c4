-- The words of std and of the specs that most of these proofs cite, passed on from one place. Declares nothing.
pub use Rattle.std.proofs.Common.{◌∙◌, ap, ◌≡◌, sym, length, subst, refl, List, arith, ℕ, true, ◌<◌, false, [], Some}
pub use Rattle.std.proofs.Common.{◌∷◌, ◌++◌, None, inl, inr, suc, zero, Bool, Option, nat_eq, ◌+◌, ◌≢◌, cond, ◌≤◌}
pub use Rattle.std.proofs.Common.{length-append, get_or, ◌-◌, append_assoc, drop, ◌^◌, ◌⊎◌, append-nil, take, ◌%◌, ap₂}
pub use Rattle.std.proofs.Common.{subst₂}
pub use Rattle.std.proofs.Math.ListN.{set, length-set, get_or-append}
pub use Rattle.std.proofs.Math.Seq.{take-length, get_or-append_seam}
pub use Rattle.std.proofs.lemmas.Bool.{false_from_ne_true, and_parts, cases_Bool, and_from, and_right}
pub use Rattle.std.proofs.lemmas.Bool.{true_from_ne_false}
pub use Rattle.std.proofs.lemmas.Bool.Decides.{nat_tests}
pub use Rattle.std.proofs.lemmas.List.{get_or-set_other, get_or-set_same, get_or_default, get_or_past, length-take}
pub use Rattle.std.proofs.lemmas.List.{take-append-le, set-get_or, set-set}
pub use Rattle.std.proofs.lemmas.Option.{IfSome_then, slice_get_within, get_or_from_slice_get}
pub use Rattle.std.specs.Cmp.{tied_itself}
pub use Rattle.std.specs.FinMap.{get, keys, get-insert, FinMap, entries, from_entries, len, same_map, contains_key}
pub use Rattle.std.specs.FinMap.{get-entries, get-from_entries, len-insert, is_sorted, entries_sorted}
pub use Rattle.std.specs.List.{list_all, filter}
pub use Rattle.std.specs.Option.{option_map, option_map_or}
pub use Rattle.std.specs.Ordering.{eq_by_cmp, is_lt, is_eq, ordering_reverse}
pub use Rattle.std.specs.Prelude.{◌&&◌, IfSome, is_some, not, unwrap_or, nat_lt, option_and_then, if◌then◌else◌}
pub use Rattle.std.specs.Prelude.{slice_get, IsTrue, nat_le}
pub use Rattle.std.specs.declared.cmp.Ordering.{Ordering}
pub use Rattle.std.specs.declared.cmp.Ordering.TheVariants.{Equal, Greater, Less}
pub use Rattle.std.specs.FinMap.Entries.{below_all}
pub use Rattle.dm_acl.specs.declared.values.Entries.{Entries}
pub use Rattle.dm_uri.specs.Names.{is_within_limits, is_name, joined, printed_path}
pub use Rattle.dm_tree.specs.Devices.{is_role, is_of_update, update_node, has_role, is_update_node}
pub use Rattle.dm_tree.specs.Edits.{attached_as, with_node, with_name, without_content, new_row, emptied, rekeyed}
pub use Rattle.dm_tree.specs.Edits.{paths_fit}
pub use Rattle.dm_tree.specs.Edits.{pruned, renamed}
pub use Rattle.dm_tree.specs.Fields.{with_field}
pub use Rattle.dm_tree.specs.Index.{IsIndex, ChildList, IsSized, no_children, children_at, IsChildList, IsPlace, IsPut}
pub use Rattle.dm_tree.specs.Index.{IsInOrder, IsPlacePast, CanBeTakenOut, is_named_before, is_parked_below}
pub use Rattle.dm_tree.specs.Index.{parked_below}
pub use Rattle.dm_tree.specs.Nodes.{Path, tree_order, Nodes, above, is_below, IsRoot, IsStamp, IsNode, IsChildOf}
pub use Rattle.dm_tree.specs.Nodes.{changed, last_name, counted}
pub use Rattle.dm_tree.specs.Notes.{GoesAlike, TakesEditBack}
pub use Rattle.dm_tree.specs.Order.{is_before, behind, below, children_behind, first_child, is_child_of, next_below}
pub use Rattle.dm_tree.specs.Order.{next_sibling}
pub use Rattle.dm_tree.specs.Reuse.{IsFreeRow, IsUsed, IsClear, IsLeftOver, freed, IsPlaced}
unfoldable pub use Rattle.dm_tree.specs.Rows.{nodes, ids}
pub use Rattle.dm_tree.specs.Rows.{row_at, path_of, IsTree, blank, IsShaped, IsLive, node_of, path_below, Tree, walk}
pub use Rattle.dm_tree.specs.Rows.{IsParkedTop, ids_below, IsRow, placed, nodes_at_paths}
pub use Rattle.dm_tree.specs.Undos.{flipped, row_of, Fits, turned, TakesBack, IsInserted, IsHeld, IsReadyChange}
pub use Rattle.dm_tree.specs.Undos.{all_flipped}
pub use Rattle.dm_tree.specs.Walks.{least_child, deciding_row, child_of, find_from, is_later_child, next_past, path_up}
pub use Rattle.dm_tree.specs.declared.nodes.Node.{Node}
pub use Rattle.dm_tree.specs.declared.nodes.Role.{Role}
pub use Rattle.dm_tree.specs.declared.nodes.Stamp.{Stamp}
pub use Rattle.dm_tree.specs.declared.rows.Change.{Change}
pub use Rattle.dm_tree.specs.declared.rows.Row.{Row}
