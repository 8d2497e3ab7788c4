-- Nodes keep their numbers.
use Rattle.std.proofs.Common.{◌≡◌, ℕ, not, cond, List, None, sym, ◌∙◌, ap}
use Rattle.std.specs.FinMap.{get}
use Rattle.dm_tree.specs.declared.rows.Row.{Row}
use Rattle.dm_tree.specs.Nodes.{Path, Ids, is_below}
use Rattle.dm_tree.specs.Rows.{ids, path_of, IsShaped, StayLive}
use Rattle.dm_tree.specs.Edits.{pruned, rekeyed, StayRenamed}
use Rattle.dm_tree.proofs.RowMaps.{found_live, id_of}
use Rattle.dm_tree.proofs.SubtreeCuts.{get-pruned}
use Rattle.dm_tree.proofs.RenamedRows.{rekeyed-apart}
use Rattle.dm_commands.specs.Promises.{KeepIdsBut, none_moved}

pub kept-same : (old new : Ids) → new ≡ old → KeepIdsBut none_moved old new
kept-same old new e p id is apart = ap (λ m. get m p) e ∙ is

-- nodes that stay live at their paths
pub kept-live : (old new : List Row) → IsShaped new → StayLive old new → KeepIdsBut none_moved (ids old) (ids new)
kept-live old new shape stays p id is apart =
    let found = found_live old p id is in
    let now = stays id found.0 in
    ap (get (ids new)) (sym (now.1 ∙ found.1)) ∙ id_of new shape id (path_of new id) now.0

-- nodes that stand elsewhere than below what is taken out
pub kept-pruned : (old new : Ids) (p : Path) → new ≡ pruned old p → KeepIdsBut (is_below p) old new
kept-pruned old new p e q id is apart =
    ap (λ m. get m q) e ∙ get-pruned old p q ∙ ap (λ b. cond (not b) (get old q) None) apart ∙ is

-- and elsewhere than below what gets another name
pub kept-renamed : (old new : List Row) (p : Path) (name : List ℕ) → IsShaped new → StayRenamed old new p name
    → KeepIdsBut (is_below p) (ids old) (ids new)
kept-renamed old new p name shape stays q id is apart =
    let found = found_live old q id is in
    let now : path_of new id ≡ q =
    stays.path id found.0 ∙ ap (rekeyed p name) found.1 ∙ rekeyed-apart p name q apart in
    ap (get (ids new)) (sym now) ∙ id_of new shape id (path_of new id) (stays.live id found.0)
