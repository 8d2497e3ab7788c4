use Rattle.std.proofs.Common.{◌≡◌, sym, subst}
use Rattle.std.specs.Prelude.{false}
use Rattle.dm_uri.specs.Names.{IsPath}
use Rattle.dm_uri.specs.Reading.{is_root}
use Rattle.dm_uri.proofs.Limits.{path_here}
use Rattle.dm_uri.proofs.reading.path_of.Goals as goal

pub names_of-requires : goal.names_of-requires
names_of-requires c =
    let other : is_root c.args.part.now ≡ false = cc in
    (path_here c.args.part.now _ other c.without_front-text.ensures c.requires).names

pub of-requires : goal.of-requires
of-requires c =
    let other : is_root c.args.part.now ≡ false = cc in
    subst IsPath (sym c.in_ok-names_of.ensures)
    (path_here c.args.part.now _ other c.without_front-text.ensures c.requires)
