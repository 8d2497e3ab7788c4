-- The report of a job: for the longest beginning of its commands that all have their codes, each code and what was
-- found; the alerts that were kept; and how far the job is.
use Rattle.std.specs.Prelude.{◌+◌, ℕ, Bool, not, if◌then◌else◌, List, [], ◌∷◌, ◌++◌, codes, Option, None, Some, is_some}
use Rattle.std.specs.Prelude.{unwrap_or}
use Rattle.std.specs.Fmt.{decimal}
use Rattle.std.specs.List.{list_all, flat_map}
use Rattle.dm_base.specs.Fields.{hex_text}
use Rattle.dm_base.specs.Lines.{line_feed}
use Rattle.syncml_types.specs.declared.command.Step.{Step}
use Rattle.dm_service.specs.declared.sent.KeptAlert.{KeptAlert}
use Rattle.dm_service.specs.Service.{Told, Service}

abbrev pub behind_space : List ℕ → List ℕ
behind_space text = codes " " ++ text

abbrev pub hex_field : Option (List ℕ) → List ℕ
hex_field bytes = behind_space (hex_text (unwrap_or bytes []))

-- URI FORMAT TYPE VALUE
abbrev pub result_line : Step → List ℕ
result_line found =
    codes "result" ++ hex_field found.target ++ hex_field found.format ++ hex_field found.media
    ++ hex_field (Some found.value)
    ++ line_feed

abbrev pub reported_status : ℕ → ℕ → List ℕ
reported_status number code = codes "status" ++ behind_space (decimal number) ++ behind_space (decimal code) ++ line_feed

-- of the commands from this number on
abbrev pub told_text : ℕ → List Told → List ℕ
told_text number [] = []
told_text number (t ∷ ts) = told_lines number t.code t.found (told_text (number + 1) ts)
  where
    told_lines : ℕ → Option ℕ → List Step → List ℕ → List ℕ
    told_lines number None found later = []
    told_lines number (Some code) found later = reported_status number code ++ flat_map result_line found ++ later

-- TYPE VALUE
abbrev pub alert_line : KeptAlert → List ℕ
alert_line a = codes "alert 1226" ++ hex_field (Some a.media) ++ hex_field (Some a.value) ++ line_feed

abbrev pub has_code : Told → Bool
has_code t = is_some t.code

-- no command counts as sent; each has its code; or neither
abbrev pub state_word : Service → List ℕ
state_word v =
    if not (is_some v.runs_in) then codes "waiting" else if list_all has_code v.told then codes "over"
    else codes "running"

unfoldable pub report_text : Service → List ℕ
report_text v =
    told_text 1 v.told ++ flat_map alert_line v.alerts ++ codes "state" ++ behind_space (state_word v) ++ line_feed
