-- The tree text so far, and the nodes whose lines are left.
use Rattle.std.proofs.Common.{ℕ, ◌≡◌, ◌<◌, false, List, [], ◌∷◌, ◌++◌, length, Option, None, Some, refl, sym, ap, ◌∙◌}
use Rattle.std.proofs.Common.{arith, append_assoc, append-nil}
use Rattle.std.specs.Prelude.{IsTrue, IfSome, filter}
use Rattle.std.specs.List.{flat_map}
use Rattle.std.specs.Option.{option_map_or}
use Rattle.std.specs.FinMap.{get, keys}
use Rattle.dm_tree.specs.declared.nodes.Node.{Node}
use Rattle.dm_tree.specs.declared.rows.Row.{Row}
use Rattle.dm_tree.specs.Nodes.{Path, is_below}
use Rattle.dm_tree.specs.Rows.{nodes, path_of, IsLive}
use Rattle.dm_tree.specs.Order.{behind, below}
use Rattle.dm_tree.proofs.NodesBehind.{below-is}
use Rattle.dm_tree.proofs.Paths.{below_self}
use Rattle.dm_start.specs.TreeText.{line_at, tree_text}

-- the lines of these nodes
abbrev pub lines_of : List Row → ℕ → List Path → List ℕ
lines_of rows version ps = flat_map (line_at version (nodes rows)) ps

-- the nodes from this one on
abbrev pub left : List Row → Path → Option ℕ → List Path
left rows t at = option_map_or (λ k. path_of rows k ∷ behind (nodes rows) t (path_of rows k) false) at []

-- the walk goes on from such a node
abbrev pub IsOn : List Row → Path → ℕ → Type 0
IsOn rows t k = IsLive rows k × IsTrue (is_below t (path_of rows k))

pub record IsTextSoFar (rows : List Row) (version : ℕ) (t : Path) (out : List ℕ) (at : Option ℕ) : Type 0 where
  pub on : IfSome at (IsOn rows t)
  pub text : out ++ lines_of rows version (left rows t at) ≡ lines_of rows version (below (nodes rows) t)

pub text-starts : (rows : List Row) (version root : ℕ) (x : Node) → IsLive rows root
    → get (nodes rows) (path_of rows root) ≡ Some x
    → IsTextSoFar rows version (path_of rows root) [] (Some root)
text-starts rows version root x live there = record {
  on = (live, below_self (path_of rows root));
  text = ap (lines_of rows version) (sym (below-is (nodes rows) (path_of rows root) x there));
}

pub text-goes_on : (rows : List Row) (version : ℕ) (t : Path) (out : List ℕ) (here : ℕ) (next : Option ℕ)
    → IsTextSoFar rows version t out (Some here)
    → behind (nodes rows) t (path_of rows here) false ≡ left rows t next
    → IfSome next (IsOn rows t)
    → IsTextSoFar rows version t (out ++ line_at version (nodes rows) (path_of rows here)) next
text-goes_on rows version t out here next h rest on =
    let line = line_at version (nodes rows) (path_of rows here) in record {
      on = on;
      text =
          append_assoc out line (lines_of rows version (left rows t next))
          ∙ ap (λ r. out ++ (line ++ lines_of rows version r)) (sym rest) ∙ h.text;
    }

pub less_left : (rows : List Row) (t : Path) (here : ℕ) (next : Option ℕ)
    → behind (nodes rows) t (path_of rows here) false ≡ left rows t next
    → length (left rows t next) < length (left rows t (Some here))
less_left rows t here next rest = rw rest (omega arith)

all_below : (ps : List Path) → filter (λ q. is_below [] q) ps ≡ ps
all_below [] = refl
all_below (p ∷ ps) = ap (λ qs. p ∷ qs) (all_below ps)

-- below the root stand all nodes
pub all_lines : (rows : List Row) (version : ℕ) (t : Path) → t ≡ []
    → lines_of rows version (below (nodes rows) t) ≡ tree_text version (nodes rows)
unfolding tree_text
all_lines rows version t top =
    ap (λ p. lines_of rows version (below (nodes rows) p)) top
    ∙ ap (lines_of rows version) (all_below (keys (nodes rows)))

pub text-ends : (rows : List Row) (version : ℕ) (t : Path) (out : List ℕ) → t ≡ [] → IsTextSoFar rows version t out None
    → out ≡ tree_text version (nodes rows)
text-ends rows version t out top h = sym (append-nil out) ∙ h.text ∙ all_lines rows version t top

pub on_next : (rows : List Row) (t : Path) (q : ℕ → Type 0) (next : Option ℕ) → IfSome next (λ k. IsLive rows k × q k)
    → IfSome next (λ k. IsTrue (is_below t (path_of rows k))) → IfSome next (IsOn rows t)
on_next rows t q None live within = within
on_next rows t q (Some k) live within = (live.0, within)
