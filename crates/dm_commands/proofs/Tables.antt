-- How a list of refusals is read.
use Rattle.std.proofs.Common.{◌≡◌, ℕ, Bool, not, List, [], ◌∷◌, None, Some, ap}
use Rattle.std.specs.Prelude.{is_some}
use Rattle.std.specs.FinMap.{get}
use Rattle.dm_uri.specs.declared.uri.Uri.{Uri}
use Rattle.dm_tree.specs.declared.nodes.Node.{Node}
use Rattle.dm_tree.specs.Nodes.{Nodes}
use Rattle.dm_commands.specs.Outcomes.{Done, refused, first_refusal, refused_or, unless}
use Rattle.dm_commands.specs.Table.{replace_other}

pub none-refused : (rs : List (Bool × ℕ)) (m : Nodes) (effect : Done) → first_refusal rs ≡ None
    → refused_or rs m effect ≡ effect
none-refused rs m effect e = ap (λ o. unless o m effect) e

pub one-refused : (rs : List (Bool × ℕ)) (m : Nodes) (effect : Done) (code : ℕ) → first_refusal rs ≡ Some code
    → refused_or rs m effect ≡ refused m code
one-refused rs m effect code e = ap (λ o. unless o m effect) e

pub other-there : (m : Nodes) (uri : Uri) (n : Node) → get m uri.path ≡ Some n → replace_other m uri ≡ refused m 405
other-there m uri n e = ap (λ o. refused_or ((not (is_some o), 404) ∷ []) m (refused m 405)) e

pub other-none : (m : Nodes) (uri : Uri) → get m uri.path ≡ None → replace_other m uri ≡ refused m 404
other-none m uri e = ap (λ o. refused_or ((not (is_some o), 404) ∷ []) m (refused m 405)) e
