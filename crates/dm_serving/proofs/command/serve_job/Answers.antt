use Rattle.dm_serving.proofs.command.serve_job.Goals as goal

pub returns-in-Ok-clause-does : goal.returns-in-Ok-clause-does
returns-in-Ok-clause-does g c = c.run_server.ensures.does c.args.job c.in-Ok.ensures
