use Rattle.std.proofs.Common.{◌-◌, ◌∙◌, arith}
use Rattle.dm_waiting.proofs.WithoutJob.{one_more}
use Rattle.dm_waiting.proofs.waiting_list.WaitingList.start_of_job.Goals as goal

pub loop-start-preserved : goal.loop-start-preserved
loop-start-preserved c =
    let some = c.loop-start-test.true in
    let within = c.loop-start.invariant.within in
    record {
      within = omega (arith, within);
      job = one_more (c.loop-start.start - 1) c.loop-start.start c.args.end c.is_of_job.ensures.entry c.args.self.now
          (omega (arith, some)) within c.is_of_job.ensures.behind (c.is_of_job.ensures.is ∙ c.if-is_of_job.true)
          c.loop-start.invariant.job;
    }
