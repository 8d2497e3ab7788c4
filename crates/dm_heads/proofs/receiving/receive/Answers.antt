use Rattle.dm_heads.proofs.BehindHeads.{receives_behind, receives_headless}
use Rattle.dm_heads.proofs.Wanting.{asks_whole}
use Rattle.dm_heads.proofs.receiving.receive.Goals as goal

pub returns-in-Ok-clause-bytes : goal.returns-in-Ok-clause-bytes
returns-in-Ok-clause-bytes g c = receives_behind c.args.kind _ _ _ _ _ c.in-Ok.ensures.bytes.0 c.take_body.ensures.bytes

pub returns-in-Ok-clause-asked : goal.returns-in-Ok-clause-asked
returns-in-Ok-clause-asked g c =
    asks_whole c.args.kind _ _ _ _ _ c.in-Ok.ensures.bytes.0 c.in-Ok.ensures.asked c.take_body.ensures.asked

pub returns-in-Err-clause-bytes : goal.returns-in-Err-clause-bytes
returns-in-Err-clause-bytes g c = receives_headless c.args.kind _ _ _ c.in-Err.ensures.bytes
