use Rattle.dm_serving.proofs.Turning.{turned, counts_kept}
use Rattle.dm_serving.proofs.turns.answer_one.Goals as goal

pub returns-clause-turn : goal.returns-clause-turn
returns-clause-turn g c =
    turned _ _ _ g.P.Conn.Source.left g.P.Conn.Sink.got g.P.Conn.Source.faults g.P.Conn.Sink.faults _ c.serve_one-served.new.conn
    _ _ _ _ _ _ _ _ c.fault_of.ensures c.requires.empty c.in_ok-conn.ensures.told c.in_ok-conn.ensures.fresh c.next.ensures.left
    c.serve_one-served.ensures.serves c.serve_one-served.ensures.count c.close.ensures.told

pub returns-clause-count : goal.returns-clause-count
returns-clause-count g c =
    counts_kept _ _ _ _ _ c.fault_of.ensures c.in_ok-conn.ensures.count c.close.ensures.count
