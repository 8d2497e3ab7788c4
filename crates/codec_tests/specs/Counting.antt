-- A taker that takes so many tokens more.
use Rattle.std.specs.Prelude.{ℕ, zero, suc, Option, Some, None}
use Rattle.wbxml_tokens.specs.declared.reason.Reason.{Reason}
use Rattle.wbxml_tokens.specs.declared.reason.Reason.TheVariants as reasons

-- it refuses the token behind them
abbrev pub refusal_of : ℕ → Option Reason
refusal_of zero = Some reasons.Leftout
refusal_of (suc n) = None
