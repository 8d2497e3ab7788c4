-- How a Get ends: nothing is changed and nothing noted.
use Rattle.std.proofs.Common.{◌≡◌, ℕ, Bool, List, None, Some, refl, sym, subst, arith}
use Rattle.dm_tree.specs.Nodes.{Path}
use Rattle.dm_tree.specs.Rows.{Tree, nodes}
use Rattle.dm_undo.specs.Journals.{Journal}
use Rattle.dm_undo.proofs.Noted.{notes-none}
use Rattle.dm_commands.specs.declared.outcome.Outcome.{Outcome}
use Rattle.dm_commands.specs.Outcomes.{Done, Does, refused, unless, first_refusal, refused_or}
use Rattle.dm_commands.specs.Promises.{CarriesOut}

pub ends-same : (done : Done) (moved : Path → Bool) (journal : Journal) (tree : Tree) (outcome : Outcome)
    → Does done outcome (nodes tree.rows) → CarriesOut done moved journal tree journal tree outcome
ends-same done moved journal tree outcome does = record {
  does = does;
  ids = λ p id is apart. is;
  notes = notes-none journal journal tree.rows tree.rows refl (omega arith) refl;
  clock = refl;
}

-- with the first refusal that holds
pub first-refused : (rs : List (Bool × ℕ)) (effect : Done) (code : ℕ) (moved : Path → Bool) (journal : Journal)
    (tree : Tree) (outcome : Outcome)
    → first_refusal rs ≡ Some code → CarriesOut (refused (nodes tree.rows) code) moved journal tree journal tree outcome
    → CarriesOut (refused_or rs (nodes tree.rows) effect) moved journal tree journal tree outcome
first-refused rs effect code moved journal tree outcome e ends =
    subst (λ o. CarriesOut (unless o (nodes tree.rows) effect) moved journal tree journal tree outcome) (sym e) ends

-- or with its effect
pub none-refused : (rs : List (Bool × ℕ)) (effect : Done) (moved : Path → Bool) (journal : Journal) (tree : Tree)
    (outcome : Outcome)
    → first_refusal rs ≡ None → Does effect outcome (nodes tree.rows)
    → CarriesOut (refused_or rs (nodes tree.rows) effect) moved journal tree journal tree outcome
none-refused rs effect moved journal tree outcome e does =
    subst (λ o. CarriesOut (unless o (nodes tree.rows) effect) moved journal tree journal tree outcome) (sym e)
    (ends-same effect moved journal tree outcome does)
