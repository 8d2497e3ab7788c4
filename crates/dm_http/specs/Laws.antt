-- Which requests hold no message.
use Rattle.std.specs.Prelude.{ℕ, List, Ok, Err}
use Rattle.dm_heads.specs.declared.errors.HttpError.{HttpError}
use Rattle.dm_heads.specs.declared.heads.HeadKind.TheVariants as kind
use Rattle.dm_heads.specs.Messages.{Brings}
use Rattle.dm_heads.specs.Asking.{Wants}

-- those that are refused
abbrev pub RefusedHoldsNone : Type 0
RefusedHoldsNone = (bytes body : List ℕ) (e : HttpError) → Brings kind.Request bytes (Err e)
    → ¬ (Brings kind.Request bytes (Ok body))

-- those of which more is wanted
abbrev pub WantedHoldsNone : Type 0
WantedHoldsNone = (bytes body : List ℕ) → Wants kind.Request bytes → ¬ (Brings kind.Request bytes (Ok body))
