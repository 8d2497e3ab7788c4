use Rattle.std.proofs.Common.{◌≡◌, ◌∙◌, ◌<◌, ◌++◌, ◌∷◌, [], ap, sym, subst, length, nat_le, arith}
use Rattle.dm_uri.specs.Names.{printed_path, IsPath}
use Rattle.dm_tree.specs.Rows.{path_of}
use Rattle.dm_ddf.proofs.Makings.{by_print}
use Rattle.dm_ddf.proofs.making.is_within.Goals as goal

pub returns : goal.returns
returns c =
    let path = path_of c.args.tree.now.rows c.args.parent in
    let name = c.args.name.now in
    let few : length path < 16 =
    omega (arith, c.if-as_slice-ge-MOST_NAMES.false, ap length (c.as_slice-2.ensures.names ∙ c.in_ok-path.ensures)) in
    let whole = c.in_ok-push_name.ensures.ok ∙ ap (λ p. p ++ c.in_ok-copy.field-0 ∷ []) c.in_ok-path.ensures
    ∙ ap (λ n. path ++ n ∷ []) c.in_ok-copy.ensures in
    ap (λ n. nat_le n 255) (c.in_ok-length.ensures ∙ ap (λ p. length (printed_path p)) whole)
    ∙ sym (by_print path name (subst IsPath c.in_ok-path.ensures c.as_slice-2.ensures.path) c.as_slice.ensures.name few)
