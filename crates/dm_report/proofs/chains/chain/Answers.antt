use Rattle.std.proofs.Common.{ap, get_or}
use Rattle.dm_report.specs.declared.kept.FoundValue.{FoundValue}
use Rattle.dm_report.proofs.ChainLemmas.{chained-more, chained-apart}
use Rattle.dm_report.proofs.chains.chain.Goals as goal

pub returns-then-place-first : goal.returns-then-place-first
returns-then-place-first c =
    let found = get_or c.args.found.now c.args.at c.index-found-at.result in
    chained-more c.args.found.now c.args.at found c.args.first.now c.args.next.now c.requires.within
    (ap (λ (f : FoundValue). get_or c.args.found.now c.args.at f) c.index-found-at.is) c.if-place-first.true
    c.requires.behind

pub returns-else-place-first : goal.returns-else-place-first
returns-else-place-first c =
    let found = get_or c.args.found.now c.args.at c.index-found-at.result in
    chained-apart c.args.found.now c.args.at found c.args.first.now c.args.next.now c.requires.within
    (ap (λ (f : FoundValue). get_or c.args.found.now c.args.at f) c.index-found-at.is) c.if-place-first.false
    c.requires.behind
