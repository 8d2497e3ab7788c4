-- What a run that serves does, by its words, its input, what the outside tells, what was put, and how it ended.
use Rattle.std.specs.Prelude.{◌≡◌, ◌≤◌, ◌<◌, ◌⊎◌, ◌++◌, ℕ, List, [], length, codes, Option, Result, Ok, Err, ⊤}
use Rattle.std.specs.Io.KnownBytes.{Appends}
use Rattle.dm_base.specs.Lines.{run_limit, line_feed}
use Rattle.dm_base.specs.declared.lines.LineReason.{LineReason}
use Rattle.dm_base.specs.declared.outside.Fault.{Fault}
use Rattle.dm_base.specs.declared.outside.Fault.TheVariants as fault
use Rattle.dm_outside.specs.Told.{IfTold}
use Rattle.dm_words.specs.declared.forms.ServeWords.{ServeWords}
use Rattle.dm_job.specs.declared.job.Job.{Job}
use Rattle.dm_job.specs.Texts.{job_of}
use Rattle.dm_service.specs.Service.{Service}
use Rattle.dm_service.specs.Messages.{first_service}
use Rattle.dm_service.specs.Report.{report_text}
use Rattle.dm_server.specs.Taking.{service_machine}
use Rattle.dm_texts.specs.Lines.{bad_line}
use Rattle.dm_exit.specs.declared.exit.Exit.{Exit}
use Rattle.dm_exit.specs.declared.exit.Exit.TheVariants as exit
use Rattle.dm_exit.specs.Answers.{IsOfText}
use Rattle.dm_exit.specs.Puts.{PutsPrefix, PutsEnd}
use Rattle.dm_serving.specs.Turns.{DoorAndNonces, ServingDoes}

-- what is written where a server stands so at the end
abbrev pub serving_text : Service → List ℕ
serving_text v = report_text v ++ codes "done" ++ line_feed

-- the run over the door of the server with this job, which stands so behind it
abbrev pub RunsServer : ServeWords → Job → Service → Result (Unit {0}) Fault → DoorAndNonces → DoorAndNonces → Type 0
RunsServer w job last r s t = ServingDoes service_machine w.address w.count (first_service job) last r s t

-- all connections were answered, and then the whole text was put
abbrev pub PutsReport : ServeWords → Job → Option (List ℕ) → Option (List ℕ) → DoorAndNonces → DoorAndNonces → Type 0
PutsReport w job old new s t = (last : Service) × RunsServer w job last (Ok tt) s t × Appends old new (serving_text last)

-- or a part of it
abbrev pub PutsReportPart : ServeWords → Job → Option (List ℕ) → Option (List ℕ) → DoorAndNonces → DoorAndNonces → Type 0
PutsReportPart w job old new s t = (last : Service) × RunsServer w job last (Ok tt) s t × PutsPrefix old new (serving_text last)

-- the run over the door ended by this, and nothing was put
abbrev pub StopsWaiting : ServeWords → Job → Fault → Option (List ℕ) → Option (List ℕ) → DoorAndNonces → DoorAndNonces → Type 0
StopsWaiting w job f old new s t = RunsServer w job (first_service job) (Err f) s t × Appends old new []

-- by the answer, where the input is this job
abbrev pub JobDoes : ServeWords → Job → Option (List ℕ) → Option (List ℕ) → Exit → DoorAndNonces → DoorAndNonces → Type 0
JobDoes w job old new exit.Done s t = PutsReport w job old new s t
JobDoes w job old new exit.DoorFault s t = StopsWaiting w job fault.Failed old new s t
JobDoes w job old new exit.WriteFault s t = PutsReportPart w job old new s t
JobDoes w job old new exit.NoMemory s t = PutsReportPart w job old new s t ⊎ StopsWaiting w job fault.Memory old new s t
JobDoes w job old new other s t = ⊥

-- the answers where the input is a job
abbrev pub IsOfJob : Exit → Type 0
IsOfJob exit.Done = ⊤
IsOfJob exit.DoorFault = ⊤
IsOfJob exit.WriteFault = ⊤
IsOfJob exit.NoMemory = ⊤
IsOfJob other = ⊥

-- the answers of `serve`
abbrev pub IsOfServe : Exit → Type 0
IsOfServe exit.DoorFault = ⊤
IsOfServe e = IsOfText e

-- by the answer: where the input is no job, the first line that is refused is told, and nothing is asked for
abbrev pub InputDoes : ServeWords → Result Job (ℕ × LineReason) → Option DoorAndNonces → Option DoorAndNonces → Option (List ℕ)
    → Option (List ℕ) → Exit → Type 0
InputDoes w (Ok job) before after old new e = IsOfJob e × IfTold before after (JobDoes w job old new e)
InputDoes w (Err refused) before after old new e =
    (after ≡ before) × PutsEnd (bad_line refused.0 refused.1) exit.BadInput old new e

-- nothing was asked for, and nothing was put
abbrev pub DoesNothing : Option DoorAndNonces → Option DoorAndNonces → Option (List ℕ) → Option (List ℕ) → Type 0
DoesNothing before after old new = (after ≡ before) × Appends old new []

-- by the answer, where this is the input, read to its end
abbrev pub TextDoes : ServeWords → List ℕ → Option DoorAndNonces → Option DoorAndNonces → Option (List ℕ) → Option (List ℕ) → Exit → Type 0
TextDoes w text before after old new e = ((e ≡ exit.NoMemory) × DoesNothing before after old new)
    ⊎ InputDoes w (job_of text) before after old new e

-- by the answer, where these are the bytes of the input
abbrev pub Serves : ServeWords → List ℕ → Option DoorAndNonces → Option DoorAndNonces → Option (List ℕ) → Option (List ℕ) → Exit → Type 0
Serves w bytes before after old new exit.TooLong = (run_limit < length bytes) × DoesNothing before after old new
Serves w bytes before after old new exit.ReadFault = DoesNothing before after old new
Serves w bytes before after old new exit.NoMemory = TextDoes w bytes before after old new exit.NoMemory
Serves w bytes before after old new e = (length bytes ≤ run_limit) × InputDoes w (job_of bytes) before after old new e

-- the answers before anything is asked for
abbrev pub IsBeforeDoor : Exit → Type 0
IsBeforeDoor exit.BadInput = ⊤
IsBeforeDoor exit.TooLong = ⊤
IsBeforeDoor exit.ReadFault = ⊤
IsBeforeDoor other = ⊥
