use Rattle.std.proofs.Common.{List, ◌∙◌, ap, refl}
use Rattle.dm_job.specs.declared.job.JobEntry.{JobEntry}
use Rattle.dm_job.specs.Sound.{all_entries}
use Rattle.dm_service.specs.Packages.{commands_in}
use Rattle.dm_server.proofs.Services.{new_sound}
use Rattle.dm_server.proofs.server.Server.new.Goals as goal

pub invariant_of-result : goal.invariant_of-result
invariant_of-result c =
    new_sound _ c.in_ok-commands.commands c.requires refl refl refl c.in_ok-new.ensures
    (c.in_ok-commands.ensures ∙ ap (λ (ps : List (List JobEntry)). commands_in (all_entries ps)) c.as_slice.ensures)
