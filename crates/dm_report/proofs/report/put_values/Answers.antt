use Rattle.std.proofs.Common.{◌++◌, ◌∙◌, ap, sym, arith, List, get_or}
use Rattle.std.specs.List.{flat_map}
use Rattle.std.proofs.lemmas.List.{append_assoc}
use Rattle.syncml_types.specs.declared.command.Step.{Step}
use Rattle.dm_service.specs.Report.{result_line}
use Rattle.dm_report.specs.declared.kept.FoundValue.{FoundValue}
use Rattle.dm_report.proofs.ChainLemmas.{chain-starts, chain-goes-on}
use Rattle.dm_report.proofs.report.put_values.Goals as goal

pub loop-at-init : goal.loop-at-init
loop-at-init c =
    let s = chain-starts c.args.found.now c.args.first.now c.args.next.now c.args.place c.requires.chained
    c.requires.within in
    record { text = ap (λ (vs : List Step). c.args.out.now ++ flat_map result_line vs) s.0; met = λ f l i. s.1 f l i }

pub loop-at-smaller : goal.loop-at-smaller
loop-at-smaller c =
    let found = c.index-found-at.result in
    let s = chain-goes-on c.args.found.now c.args.first.now c.args.next.now c.args.place c.loop-at.at found
    c.requires.chained c.requires.within c.loop-at-test.true c.index-found-at.is
    (c.loop-at.invariant.met found c.loop-at-test.true c.index-found-at.is) in
    omega (arith, s.1, c.loop-at-test.true)

pub loop-at-preserved : goal.loop-at-preserved
loop-at-preserved c =
    let found = get_or c.args.found.now c.loop-at.at c.index-found-at.result in
    let is = ap (λ (f : FoundValue). get_or c.args.found.now c.loop-at.at f) c.index-found-at.is in
    let s = chain-goes-on c.args.found.now c.args.first.now c.args.next.now c.args.place c.loop-at.at found
    c.requires.chained c.requires.within c.loop-at-test.true is (c.loop-at.invariant.met found c.loop-at-test.true is)
    in
    record {
      text = rw (c.in_ok-put_result.ensures, append_assoc)
          (ap (λ (vs : List Step). c.loop-at.out ++ flat_map result_line vs) (sym s.0) ∙ c.loop-at.invariant.text);
      met = λ f l i. s.2 f l i;
    }
