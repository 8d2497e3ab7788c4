use Rattle.server_tests.proofs.servers.server_of.Goals as goal

pub new-requires : goal.new-requires
new-requires c = c.jobs_are_sound.ensures _ c.in-Ok.job c.in-Ok.ensures
