-- What a step comes to, by its target and its verb.
use Rattle.std.proofs.Common.{◌≡◌, ℕ, Bool, sym, ◌∙◌, ap}
use Rattle.std.specs.Prelude.{Result, Err, IfOk, OnOk}
use Rattle.std.proofs.lemmas.Result.{IfOk-weaker}
use Rattle.syncml_types.specs.declared.command.Step.{Step}
use Rattle.dm_tree.specs.Nodes.{Path, Nodes}
use Rattle.dm_tree.specs.Rows.{Tree, ids}
use Rattle.dm_undo.specs.Journals.{Journal}
use Rattle.dm_commands.specs.declared.outcome.Outcome.{Outcome}
use Rattle.dm_commands.specs.Outcomes.{Setting, Done, refused}
use Rattle.dm_commands.specs.Table.{target_of, at_target, act}
use Rattle.dm_commands.specs.Promises.{CarriesOut, KeepIdsBut}

pub act-refused : (s : Setting) (m : Nodes) (step : Step) (code : ℕ) → Err code ≡ target_of step
    → refused m code ≡ act s m step
unfolding act
act-refused s m step code e = ap (at_target s m step) e

pub ended-ids : {E : Type 0} (r : Result Outcome E) (done : Done) (moved also : Path → Bool) (old : Journal)
    (before : Tree)
    (new : Journal) (now : Tree) → ((p : Path) → also p ≡ moved p)
    → IfOk r (CarriesOut done moved old before new now) → OnOk r (KeepIdsBut also (ids before.rows) (ids now.rows))
ended-ids r done moved also old before new now same ends =
    IfOk-weaker r (CarriesOut done moved old before new now) (λ outcome. KeepIdsBut also (ids before.rows) (ids now.rows))
    (λ outcome h p id is apart. h.ids p id is (sym (same p) ∙ apart)) ends
