-- What holds of every run that serves a job.
use Rattle.std.specs.Prelude.{◌≡◌, ◌≤◌, ◌+◌, ℕ, List, length, Option}
use Rattle.dm_job.specs.declared.job.Job.{Job}
use Rattle.dm_exit.specs.declared.exit.Exit.{Exit}
use Rattle.dm_exit.specs.declared.exit.Exit.TheVariants as exit
use Rattle.dm_outside.specs.Doors.{accept_count}
use Rattle.dm_words.specs.declared.forms.ServeWords.{ServeWords}
use Rattle.dm_serving.specs.Turns.{DoorAndNonces}
use Rattle.dm_serving.specs.Serves.{JobDoes}

-- it asks for no more connections than its words say
abbrev pub FewAreAccepted : Type 0
FewAreAccepted = (w : ServeWords) (job : Job) (old new : Option (List ℕ)) (e : Exit) (s t : DoorAndNonces)
    → JobDoes w job old new e s t → accept_count t.door ≤ accept_count s.door + w.count

-- and where it ends well, for exactly as many
abbrev pub AllAreAccepted : Type 0
AllAreAccepted = (w : ServeWords) (job : Job) (old new : Option (List ℕ)) (s t : DoorAndNonces)
    → JobDoes w job old new exit.Done s t → accept_count t.door ≡ accept_count s.door + w.count

-- it listens at most once
abbrev pub OnceListens : Type 0
OnceListens = (w : ServeWords) (job : Job) (old new : Option (List ℕ)) (e : Exit) (s t : DoorAndNonces)
    → JobDoes w job old new e s t → length t.door.listened ≤ length s.door.listened + 1
