-- What a server knows of its job, what is gathered in a session, and what messages and reports make of both.
use Rattle.std.specs.Prelude.{◌≡◌, ◌+◌, ◌&&◌, ℕ, Bool, if◌then◌else◌, nat_lt, nat_le, List, [], ◌∷◌, is_some}
use Rattle.syncml_types.specs.declared.command.Command.{Command}
use Rattle.dm_objects.specs.declared.object.Object.{Object}
use Rattle.dm_service.specs.declared.sent.KeptAlert.{KeptAlert}
use Rattle.dm_service.specs.declared.sent.Sent.{Sent}
use Rattle.dm_service.specs.Service.{Told, Service}
use Rattle.dm_service.specs.Matching.{Matched, matched, untold}
use Rattle.dm_service.specs.Report.{report_text}

-- what was told of each command of the job, in order, and the alerts that are kept
pub record Known : Type 0 where
  pub told : List Told
  pub alerts : List KeptAlert

-- the value that is being gathered in a session, with the greatest that is taken
pub record GatheredSoFar : Type 0 where
  pub max_obj : ℕ
  pub object : Object

-- ---- a message

abbrev pub matched_of : Known → GatheredSoFar → Matched
matched_of known gathered = record {
  finding = record { object = gathered.object; told = known.told };
  alerts = known.alerts;
}

-- a message with these commands tells what it matches
pub record TellsOfJob (sent : List Sent) (body : List Command) (known next : Known) (before after : GatheredSoFar)
    : Type 0 where
  pub matched : matched_of next after ≡ matched before.max_obj sent (matched_of known before) body
  pub max_obj : after.max_obj ≡ before.max_obj

-- ---- a package is given up

-- one of so many numbers from the first on
abbrev pub is_within : ℕ → ℕ → ℕ → Bool
is_within first count number = nat_le first number && nat_lt number (first + count)

-- what was told of the commands of these numbers is forgotten; those of the list are numbered from n on
abbrev pub forgotten_within : ℕ → ℕ → ℕ → List Told → List Told
forgotten_within first count n [] = []
forgotten_within first count n (t ∷ ts) =
    (if is_within first count n then untold else t) ∷ forgotten_within first count (n + 1) ts

-- ---- the report

-- the report of every server that knows this of its job, by whether a command of it counts as sent
abbrev pub IsReport : Known → Bool → List ℕ → Type 0
IsReport known ran text =
    (v : Service) → v.told ≡ known.told → v.alerts ≡ known.alerts → is_some v.runs_in ≡ ran → text ≡ report_text v
