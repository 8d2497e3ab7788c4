use Rattle.std.proofs.Common.{◌++◌, ◌∷◌, ap, ◌∙◌}
use Rattle.std.specs.List.{flat_map}
use Rattle.std.proofs.lemmas.List.{take_all}
use Rattle.dm_uri.proofs.Printing.{slashed, printed_path-slashed}
use Rattle.dm_uri.proofs.writing.put_path.Goals as goal

pub returns : goal.returns
returns c =
    c.loop-name.invariant
    ∙ ap (λ names. c.args.out.now.items ++ 46 ∷ flat_map slashed names)
    (take_all _ c.args.names.now c.loop-name-test.false)
    ∙ ap (λ text. c.args.out.now.items ++ text) (printed_path-slashed c.args.names.now)
