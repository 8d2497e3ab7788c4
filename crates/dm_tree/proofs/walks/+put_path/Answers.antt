use Rattle.std.proofs.lemmas.Grind.{common_steps}
use Rattle.dm_tree.proofs.Common.{arith}
use Rattle.dm_tree.proofs.UpwardSearch.{length-path_up, path_up_one}
use Rattle.dm_tree.proofs.walks.+put_path.Goals as goal

pub push-requires : goal.push-requires
push-requires t c = grind (arith, common_steps, length-path_up)

pub returns-in-Ok : goal.returns-in-Ok
returns-in-Ok t c = grind (arith, common_steps, path_up_one)
