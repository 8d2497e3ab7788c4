-- What marks recall.
use Rattle.std.proofs.Common.{◌≡◌, ℕ, suc, ◌+◌, ◌-◌, ◌≤◌, List, [], ◌++◌, length, take, drop, get_or, ◌∙◌, ap, arith}
use Rattle.std.proofs.Math.ListN.{get_or-append}
use Rattle.std.proofs.lemmas.List.{get_or-take, get_or-drop, length-append, length-take-le, length-drop}
use Rattle.dm_tree.specs.declared.rows.Row.{Row}
use Rattle.dm_undo.specs.declared.entries.Entry.{Entry}
use Rattle.dm_undo.specs.Trees.{Maps, maps_of, trees}
use Rattle.dm_undo.specs.Marks.{RecallsTrees, RecallsFrom}
use Rattle.dm_undo.proofs.Told.{length-trees}

pub recalls-more : (es es' : List Entry) (rows rows' : List Row) (more : List Maps)
    → trees es' rows' ≡ trees es rows ++ more → RecallsTrees (length es) es rows es' rows'
recalls-more es es' rows rows' more e mark h = (
  let long : length (trees es' rows') ≡ length (trees es rows) + length more =
      ap length e ∙ length-append (trees es rows) more in
      omega (arith, h, long, length-trees es rows, length-trees es' rows'),
  ap (λ l. get_or l mark (maps_of [])) e
      ∙ get_or-append (trees es rows) more (maps_of []) mark (omega (arith, h, length-trees es rows)),
)

pub recalls-less : (es es' : List Entry) (rows rows' : List Row) (last : ℕ) → last ≤ length es
    → trees es' rows' ≡ take (suc last) (trees es rows) → RecallsTrees last es rows es' rows'
recalls-less es es' rows rows' last held e mark h = (
  let long : length (trees es' rows') ≡ suc last =
      ap length e ∙ length-take-le (suc last) (trees es rows) (omega (arith, held, length-trees es rows)) in
      omega (arith, h, long, length-trees es' rows'),
  ap (λ l. get_or l mark (maps_of [])) e
      ∙ get_or-take (suc last) (trees es rows) mark (maps_of []) (omega (arith, h)),
)

pub recalls-from : (es es' : List Entry) (rows rows' : List Row) (first : ℕ)
    → trees es' rows' ≡ drop first (trees es rows) → RecallsFrom first es rows es' rows'
recalls-from es es' rows rows' first e mark h = (
  let long : length (trees es' rows') ≡ length (trees es rows) - first =
      ap length e ∙ length-drop first (trees es rows) in
      omega (arith, h, long, length-trees es rows, length-trees es' rows'),
  ap (λ l. get_or l mark (maps_of [])) e ∙ get_or-drop first (trees es rows) mark (maps_of []),
)
