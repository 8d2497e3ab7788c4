-- Where the reading of a text stops.
use Rattle.std.specs.Prelude.{◌≡◌, ◌≢◌, ◌⊎◌, ℕ, true, List, [], ◌∷◌, Result, Err, ⊤}
use Rattle.dm_base.specs.declared.lines.LineReason.TheVariants as reason
use Rattle.dm_fields.specs.declared.errors.LineError.{LineError}
use Rattle.dm_fields.specs.declared.errors.LineError.TheVariants as line_error
use Rattle.dm_job.specs.Texts.{is_long, tail_reason}
use Rattle.dm_ddf.specs.declared.errors.DdfError.{DdfError}
use Rattle.dm_ddf.specs.declared.errors.DdfError.TheVariants as ddf_error
use Rattle.dm_ddf.specs.Texts.{Refused}

abbrev pub error_at : ℕ → LineError → DdfError
error_at n (line_error.Bad why) = ddf_error.Bad n why
error_at n line_error.Memory = ddf_error.Memory

-- what is refused is this; want of memory says nothing
abbrev pub StopsAs : {X : Type 0} → Result X Refused → DdfError → Type 0
StopsAs wanted (ddf_error.Bad n why) = wanted ≡ Err (n, why)
StopsAs wanted ddf_error.Memory = ⊤

-- line n isn't whole, or too long
abbrev pub NoLine : ℕ → List (List ℕ) → DdfError → Type 0
NoLine n segs (ddf_error.Bad m why) =
    (m ≡ n) × (((tail : List ℕ) × (segs ≡ tail ∷ []) × (why ≡ tail_reason tail))
    ⊎ ((line : List ℕ) × (behind : List (List ℕ)) × (segs ≡ line ∷ behind) × (behind ≢ []) × (is_long line ≡ true)
    × (why ≡ reason.Long)))
NoLine n segs ddf_error.Memory = ⊥

-- more than an empty text stands there
abbrev pub IsMore : List (List ℕ) → Type 0
IsMore ([] ∷ []) = ⊥
IsMore other = ⊤
