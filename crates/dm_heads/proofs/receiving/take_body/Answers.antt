use Rattle.std.proofs.Common.{refl, subst, drop}
use Rattle.dm_heads.specs.Messages.{HasHead}
use Rattle.dm_heads.proofs.Wanting.{behind_none}
use Rattle.dm_heads.proofs.BehindHeads.{settled_whole}
use Rattle.dm_heads.specs.Receiving.{ReceivesBody}
use Rattle.dm_heads.proofs.receiving.take_body.Goals as goal

pub returns-in-BadHead-clause-bytes : goal.returns-in-BadHead-clause-bytes
unfolding ReceivesBody
returns-in-BadHead-clause-bytes g c =
    settled_whole c.args.kind c.args.begun.taken _ (drop c.args.begun.len c.args.begun.taken) _ _
    (subst (λ v. HasHead c.args.kind c.args.begun.taken v (drop c.args.begun.len c.args.begun.taken)) c.in-BadHead.is c.requires.head) (λ more. refl)

pub returns-in-NotOk-clause-bytes : goal.returns-in-NotOk-clause-bytes
unfolding ReceivesBody
returns-in-NotOk-clause-bytes g c =
    settled_whole c.args.kind c.args.begun.taken _ (drop c.args.begun.len c.args.begun.taken) _ _
    (subst (λ v. HasHead c.args.kind c.args.begun.taken v (drop c.args.begun.len c.args.begun.taken)) c.in-NotOk.is c.requires.head) (λ more. refl)

pub returns-in-TooLong-clause-bytes : goal.returns-in-TooLong-clause-bytes
unfolding ReceivesBody
returns-in-TooLong-clause-bytes g c =
    settled_whole c.args.kind c.args.begun.taken _ (drop c.args.begun.len c.args.begun.taken) _ _
    (subst (λ v. HasHead c.args.kind c.args.begun.taken v (drop c.args.begun.len c.args.begun.taken)) c.in-TooLong.is c.requires.head) (λ more. refl)

pub returns-in-BadHead-clause-asked : goal.returns-in-BadHead-clause-asked
returns-in-BadHead-clause-asked g c = behind_none _ _ _

pub returns-in-NotOk-clause-asked : goal.returns-in-NotOk-clause-asked
returns-in-NotOk-clause-asked g c = behind_none _ _ _

pub returns-in-TooLong-clause-asked : goal.returns-in-TooLong-clause-asked
returns-in-TooLong-clause-asked g c = behind_none _ _ _
