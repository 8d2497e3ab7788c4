-- What a draft notes of a message's commands, whatever was known before.
use Rattle.std.specs.Prelude.{◌≡◌}
use Rattle.dm_objects.specs.Seen.{Seen}
use Rattle.dm_service.specs.Matching.{Matched, Finding}
use Rattle.dm_report.specs.declared.kept.Kept.{Kept}
use Rattle.dm_report.specs.declared.drafts.Findings.{Findings}
use Rattle.dm_report.specs.Known.{matched_of}
use Rattle.dm_report.specs.Kept.{known_of, kept_behind}
use Rattle.dm_report.specs.Receiving.{gathered_of}

-- what is matched with a draft
abbrev pub matched_by : Findings → Seen → Kept → Matched
matched_by d s k = matched_of (known_of (kept_behind d k)) (gathered_of s)

-- what is matched becomes this
pub record NotesMatched (step : Matched → Matched) (d e : Findings) (s t : Seen) : Type 0 where
  pub matched : (k : Kept) → matched_by e t k ≡ step (matched_by d s k)

abbrev pub on_finding : (Finding → Finding) → Matched → Matched
on_finding step x = record x { finding = step x.finding }
