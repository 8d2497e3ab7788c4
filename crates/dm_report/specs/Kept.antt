-- How what is known of a job is kept: its codes in order, and its values in one list, in the order of their coming.
use Rattle.std.specs.Prelude.{◌==◌, ◌+◌, ◌++◌, ℕ, if◌then◌else◌, List, [], ◌∷◌, Option, None, Some, not, set}
use Rattle.std.specs.List.{filter}
use Rattle.syncml_types.specs.declared.command.Step.{Step}
use Rattle.dm_service.specs.Service.{Told}
use Rattle.dm_report.specs.declared.kept.FoundValue.{FoundValue}
use Rattle.dm_report.specs.declared.kept.Kept.{Kept}
use Rattle.dm_report.specs.declared.drafts.NewCode.{NewCode}
use Rattle.dm_report.specs.declared.drafts.Findings.{Findings}
use Rattle.dm_report.specs.Known.{Known, is_within}

-- the values that the command at a place found
abbrev pub values_at : ℕ → List FoundValue → List Step
values_at place [] = []
values_at place (f ∷ fs) = if f.place == place then f.value ∷ values_at place fs else values_at place fs

-- what was told of the commands from a place on
abbrev pub told_from : ℕ → List (Option ℕ) → List FoundValue → List Told
told_from place [] found = []
told_from place (code ∷ codes) found =
    record { code = code; found = values_at place found } ∷ told_from (place + 1) codes found

abbrev pub known_of : Kept → Known
known_of k = record { told = told_from 0 k.codes k.found; alerts = k.alerts }

-- the codes behind new ones, of which the last counts
abbrev pub coded_by : List NewCode → List (Option ℕ) → List (Option ℕ)
coded_by [] codes = codes
coded_by (c ∷ cs) codes = coded_by cs (set codes c.place (Some c.code))

-- what is kept behind a draft
abbrev pub kept_behind : Findings → Kept → Kept
kept_behind d k = record {
  codes = coded_by d.codes k.codes;
  found = k.found ++ d.found;
  alerts = k.alerts ++ d.alerts;
}

-- ---- a package is given up

abbrev pub codes_without : ℕ → ℕ → ℕ → List (Option ℕ) → List (Option ℕ)
codes_without first count place [] = []
codes_without first count place (code ∷ codes) =
    (if is_within first count (place + 1) then None else code) ∷ codes_without first count (place + 1) codes

abbrev pub found_without : ℕ → ℕ → List FoundValue → List FoundValue
found_without first count = filter (λ (f : FoundValue). not (is_within first count (f.place + 1)))
