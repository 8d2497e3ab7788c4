use Rattle.std.proofs.Common.{◌≤◌, ◌<◌, ◌++◌, ◌∷◌, [], length, ◌∙◌, ap, arith, append-nil}
use Rattle.dm_uri.specs.Names.{printed_path}
use Rattle.dm_start.proofs.Limits.{within}
use Rattle.dm_start.proofs.new_nodes.below.Goals as goal

pub returns : goal.returns
returns c =
    let path = c.args.path.now in
    let name = c.args.name.now in
    let few : length path < 16 = omega (arith, c.if-as_slice-ge16.false, ap length c.as_slice.ensures.names) in
    let text =
    ap length
    (c.in_ok-text_of.ensures ∙ append-nil (printed_path c.in_ok-longer.field-0)
    ∙ ap printed_path c.in_ok-longer.ensures.ok) in
    let short : length (printed_path (path ++ name ∷ [])) ≤ 255 =
    omega (arith, c.if-len-gt255.false, c.len.ensures, text) in
    (c.in_ok-longer.ensures.ok, within path name c.as_slice.ensures.path c.requires.name few short)
