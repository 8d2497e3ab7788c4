use Rattle.std.proofs.Common.{ap, ◌∙◌}
use Rattle.syncml_shape.specs.Places.{place_in}
use Rattle.syncml_shape.proofs.PlaceRows.{found_place, found_none}
use Rattle.syncml_shape.proofs.place.place_of.Goals as goal

pub returns-clause-found : goal.returns-clause-found
returns-clause-found c =
    found_place c.place_among.result c.args.parent c.args.child
    (c.place_among.ensures ∙ ap (λ rows. place_in 1 rows c.args.child) c.rows_of.ensures)

pub returns-clause-none : goal.returns-clause-none
returns-clause-none c =
    found_none c.place_among.result c.args.parent c.args.child
    (c.place_among.ensures ∙ ap (λ rows. place_in 1 rows c.args.child) c.rows_of.ensures)
