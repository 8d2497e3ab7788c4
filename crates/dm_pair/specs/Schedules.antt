-- Both ends on a text are the world on a schedule.
use Rattle.std.specs.Prelude.{◌≡◌, ℕ, List, [], ◌∷◌, ◌++◌, Result, Ok, Err}
use Rattle.dm_base.specs.declared.lines.LineReason.{LineReason}
use Rattle.syncml_types.specs.Message.{Parts}
use Rattle.syncml_types.specs.Canonical.{canonical}
use Rattle.dm_job.specs.declared.job.Job.{Job}
use Rattle.dm_machine.specs.Machine.{Machine}
use Rattle.dm_service.specs.Messages.{first_service}
use Rattle.dm_world.specs.World.{Reply, World, Happening, run}
use Rattle.dm_world.specs.Start.{at_start, IsWorldStart, IsSchedule}
use Rattle.dm_replay.specs.Trace.{servers_of}
use Rattle.dm_pair.specs.Pairing.{Pairing}
use Rattle.dm_pair.specs.Texts.{TextStage, first, starting, jobbing, happening, over, TextTurn, text_turn}

-- the bytes of what is listed with the newest first, the oldest first
abbrev pub in_bytes : {A : Type 0} → (A → Parts) → List A → List (List ℕ)
in_bytes message [] = []
in_bytes message (x ∷ xs) = in_bytes message xs ++ canonical (message x) ∷ []

abbrev pub itself : Parts → Parts
itself m = m

abbrev pub reply_message : Reply → Parts
reply_message d = d.message

-- the same two machines, and the same messages
pub record IsWorld (p : Pairing) (w : World) : Type 0 where
  pub client : p.client ≡ w.client
  pub server : p.server ≡ w.server
  pub ups : p.ups ≡ in_bytes itself w.ups
  pub downs : p.downs ≡ in_bytes reply_message w.downs

-- both ends before the first event
abbrev pub first_pairing : Machine → Job → Pairing
first_pairing c job = record { client = c; server = first_service job; ups = []; downs = []; deliveries = 0 }

-- how far lines bring a text: a line that is refused leaves it where it is
abbrev pub brought_by : Result TextTurn LineReason → TextStage → (TextStage → TextStage) → TextStage
brought_by (Err why) s rest = s
brought_by (Ok t) s rest = rest t.stage

abbrev pub brought : TextStage → List (List ℕ) → TextStage
brought s [] = s
brought s (line ∷ lines) = brought_by (text_turn s line) s (λ t. brought t lines)

-- among the events, or behind the end, both ends are these
abbrev pub HasEnds : Pairing → TextStage → Type 0
HasEnds p first = ⊥
HasEnds p (starting s) = ⊥
HasEnds p (jobbing told r) = ⊥
HasEnds p (happening ids q) = q ≡ p
HasEnds p (over q) = q ≡ p

-- a schedule on which the world comes to this
pub record OnSchedule (c : Machine) (job : Job) (p : Pairing) : Type 0 where
  pub schedule : List Happening
  pub is_schedule : IsSchedule c schedule
  pub is_world : IsWorld p (run (at_start c job) schedule)

-- so whatever lines stand behind a job
abbrev pub RunsOnSchedules : Type 0
RunsOnSchedules = (c : Machine) (job : Job) (lines : List (List ℕ)) (p : Pairing) → IsWorldStart c job
    → HasEnds p (brought (happening (servers_of c.accounts) (first_pairing c job)) lines)
    → OnSchedule c job p
