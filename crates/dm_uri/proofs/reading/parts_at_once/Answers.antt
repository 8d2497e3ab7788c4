use Rattle.std.proofs.Common.{sym, ◌∙◌}
use Rattle.dm_uri.proofs.AtOnce.{not_longer, read_as}
use Rattle.dm_uri.proofs.reading.parts_at_once.Goals as goal

pub overflow_sub-text : goal.overflow_sub-text
overflow_sub-text c =
    not_longer c.without_front-text.result.now c.in_ok-count.behind.now c.in_ok-count.count c.in_ok-count.ensures.names
    c.in_ok-count.ensures.count.0

pub returns : goal.returns
returns c =
    rw c.split_at.ensures.front
    (read_as c.args.text.now c.without_front-text.result.now c.in_ok-count.behind.now c.in_ok-count.count
    c.in_ok-query.query c.without_front-text.ensures c.in_ok-count.ensures.names c.in_ok-count.ensures.count.0
    c.in_ok-count.ensures.count.1 c.if-text-gt253.false (sym c.query_of.ensures ∙ c.in_ok-query.was))
