use Rattle.dm_serving.proofs.command.serve_text.Goals as goal

pub serve_job-requires-clause-sound : goal.serve_job-requires-clause-sound
serve_job-requires-clause-sound g c = c.jobs_are_sound.ensures c.args.text.now c.in-Ok.job c.in-Ok.ensures
