use Rattle.std.proofs.Common.{◌≤◌, ℕ, List, [], ◌∷◌, ◌++◌, length, ◌∙◌, ap, subst}
use Rattle.dm_uri.specs.Names.{is_within_limits}
use Rattle.tree_bench.proofs.Limits.{few_names_fit}
use Rattle.tree_bench.proofs.build.put.Goals as goal

pub insert-requires-clause-within : goal.insert-requires-clause-within
insert-requires-clause-within c =
    let few = subst (λ (p : List (List ℕ)). length p ≤ 2) c.as_slice-2.ensures.names c.if-as_slice-gt2.false in
    ap (λ (p : List (List ℕ)). is_within_limits (p ++ c.args.name ∷ [])) c.in-Some.ensures.live.1
    ∙ few_names_fit c.args.above.now c.args.name c.as_slice-2.ensures.path c.as_slice.ensures.name few
