use Rattle.std.proofs.Common.{Ok, Err}
use Rattle.dm_serving.proofs.Listening.{still_empty, not_listening, listened_then}
use Rattle.dm_serving.proofs.turns.listen_and_answer.Goals as goal

pub answer_all-requires : goal.answer_all-requires
answer_all-requires g c = record {
  empty = still_empty (g.P.Door.told c.args.door.now) (g.P.Door.told c.listen.new.self) c.args.address.now (Ok tt) c.requires.empty
      c.in-Ok.ensures.told;
}

pub returns-in-Ok-clause-run : goal.returns-in-Ok-clause-run
returns-in-Ok-clause-run g c =
    listened_then g.X.Core.machine c.args.address.now c.args.count c.args.core.now c.answer_all.new.core c.answer_all.result
    (g.P.Door.told c.args.door.now) (g.P.Door.told c.listen.new.self) (g.P.Door.told c.answer_all.new.door)
    (g.N.Nonces.left c.args.nonces.now) (g.N.Nonces.left c.answer_all.new.nonces) tt c.in-Ok.ensures.told
    c.answer_all.ensures.turns

pub returns-in-Err-clause-run : goal.returns-in-Err-clause-run
returns-in-Err-clause-run g c =
    not_listening g.X.Core.machine c.args.count c.args.core.now (g.P.Door.told c.args.door.now) (g.P.Door.told c.listen.new.self)
    c.args.address.now c.in-Err.fault (g.N.Nonces.left c.args.nonces.now) c.in-Err.ensures.told

pub returns-in-Err-clause-empty : goal.returns-in-Err-clause-empty
returns-in-Err-clause-empty g c =
    still_empty (g.P.Door.told c.args.door.now) (g.P.Door.told c.listen.new.self) c.args.address.now (Err c.in-Err.fault)
    c.requires.empty c.in-Err.ensures.told
