use Rattle.dm_device.proofs.Posted.{exchanged, not_dialled, not_asked, came, counted}
use Rattle.dm_device.proofs.exchanging.exchange.Goals as goal

pub returns-in-Err-Failed-clause-told : goal.returns-in-Err-Failed-clause-told
returns-in-Err-Failed-clause-told g c =
    not_dialled g.D.Conn.Source.left g.D.Conn.Sink.got _ _ _ _ c.requires.idle
    (rw c.in-Err-Failed.field-0-is at c.in-Err-Failed.ensures.told)

pub returns-in-Err-Memory-clause-told : goal.returns-in-Err-Memory-clause-told
returns-in-Err-Memory-clause-told g c =
    not_asked g.D.Conn.Source.left g.D.Conn.Sink.got _ _ _ _ c.requires.idle
    (rw c.in-Err-Memory.field-0-is at c.in-Err-Memory.ensures.told)

pub returns-clause-told : goal.returns-clause-told
returns-clause-told g c =
    rw c.heard_of.ensures (exchanged g.D.Conn.Source.left g.D.Conn.Sink.got g.D.Conn.Source.faults
    g.D.Conn.Sink.faults _
    c.post-reply.new.conn _ _ _ _ _ _ c.requires.idle c.in-Ok.ensures.told c.close.ensures.told
    (λ held holds new. came _ _ _ _ _ _ _ _ _ _ held c.post-reply.result c.in-Ok.ensures.fresh holds new
    c.post-reply.ensures.request c.post-reply.ensures.reply c.post-reply.ensures.count))

pub returns-clause-count : goal.returns-clause-count
returns-clause-count g c =
    rw c.heard_of.ensures (counted _ _ _ _ _ _ _ c.post-reply.result c.in-Ok.ensures.count c.in-Ok.ensures.fresh
    c.post-reply.ensures.count c.close.ensures.count)
