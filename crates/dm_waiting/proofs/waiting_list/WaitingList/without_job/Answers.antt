use Rattle.std.proofs.Common.{◌-◌, ◌∙◌, arith}
use Rattle.dm_waiting.proofs.WithoutJob.{job_step, other_step}
use Rattle.dm_waiting.proofs.waiting_list.WaitingList.without_job.Goals as goal

pub loop-at-preserved-then-is_of_job : goal.loop-at-preserved-then-is_of_job
loop-at-preserved-then-is_of_job c =
    let some = c.loop-at-test.true in
    let within = c.loop-at.invariant.within in
    let start = c.start_of_job-start.ensures.start in
    record {
      within = omega (arith, start, within);
      others = job_step (c.loop-at.at - 1) c.start_of_job-start.result c.loop-at.at c.is_of_job.ensures.entry
          c.args.self.now c.loop-at.left c.take_out.new.self (omega (arith, some)) start within
          c.loop-at.invariant.others c.is_of_job.ensures.behind (c.is_of_job.ensures.is ∙ c.if-is_of_job.true)
          c.start_of_job-start.ensures.job c.take_out.ensures;
    }

pub loop-at-preserved : goal.loop-at-preserved
loop-at-preserved c =
    let some = c.loop-at-test.true in
    let within = c.loop-at.invariant.within in
    record {
      within = omega (arith, within);
      others = other_step (c.loop-at.at - 1) c.loop-at.at c.is_of_job.ensures.entry c.args.self.now c.loop-at.left
          (omega (arith, some)) c.loop-at.invariant.others c.is_of_job.ensures.behind
          (c.is_of_job.ensures.is ∙ c.if-is_of_job.false);
    }
