use Rattle.std.proofs.Common.{rules, ◌∷◌, ◌+◌, [], map, drop, refl}
use Rattle.dm_atomic.specs.Made.{Result}
use Rattle.dm_atomic.proofs.Telling.{telling_goes_on, telling_ends, telling_stops}
use Rattle.dm_atomic.proofs.MadeAhead.{next_found, none_ahead}
use Rattle.dm_atomic.proofs.entries.put_results.Goals as goal

pub returns-in_err-put_copied-clause-err : goal.returns-in_err-put_copied-clause-err
returns-in_err-put_copied-clause-err c =
    let stands = telling_stops c.args.out.now c.loop-found.out c.put_copied.new.out
    (map (Result c.args.post.now) (drop c.loop-found.found-index c.args.found.now))
    (map (Result c.args.post.now) c.args.found.now)
    c.loop-found.invariant c.in_err-put_copied.ensures.err in search rules

pub loop-found-preserved : goal.loop-found-preserved
loop-found-preserved c =
    telling_goes_on c.args.out.now c.loop-found.out c.put_copied.new.out
    (map (Result c.args.post.now) (drop c.loop-found.found-index c.args.found.now))
    (Result c.args.post.now c.found-item.result ∷ [])
    (map (Result c.args.post.now) (drop (c.loop-found.found-index + 1) c.args.found.now))
    (map (Result c.args.post.now) c.args.found.now)
    c.loop-found.invariant
    (next_found c.args.post.now c.args.found.now c.as_slice-found-items.result.now c.loop-found.found-index
    c.found-item.result c.as_slice-found-items.ensures c.loop-found-test.true c.found-item.is)
    c.in_ok-put_copied.ensures.ok

pub returns-clause-ok : goal.returns-clause-ok
returns-clause-ok c =
    telling_ends c.args.out.now c.loop-found.out
    (map (Result c.args.post.now) (drop c.loop-found.found-index c.args.found.now))
    (map (Result c.args.post.now) c.args.found.now)
    c.loop-found.invariant
    (none_ahead (map (Result c.args.post.now)) c.args.found.now c.as_slice-found-items.result.now
    c.loop-found.found-index c.as_slice-found-items.ensures c.loop-found-test.false refl)
