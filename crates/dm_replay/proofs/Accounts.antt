-- No line of a trace makes accounts more or fewer.
use Rattle.std.proofs.Common.{◌≡◌, ℕ, ap, ◌∙◌, length}
use Rattle.std.specs.Prelude.{IfSome}
use Rattle.dm_machine.specs.Machine.{Machine}
use Rattle.dm_machine.specs.History.{next}
use Rattle.dm_machine.proofs.Accounts.{accounts_stay}
use Rattle.dm_replay.specs.declared.events.Event.{Event}
use Rattle.dm_replay.specs.declared.events.Event.TheVariants as event
use Rattle.dm_replay.specs.Events.{IsEventOf, happening_of}

pub said_many : (said : Event) (n : ℕ) (now after : Machine) → IsEventOf n said
    → IfSome (happening_of said) (λ e. after ≡ next now e)
    → length after.accounts ≡ length now.accounts
said_many (event.Open account kind session) n now after of acts =
    ap (λ (m : Machine). length m.accounts) acts ∙ accounts_stay now _
said_many (event.Msg nonce bytes) n now after of acts =
    ap (λ (m : Machine). length m.accounts) acts ∙ accounts_stay now _
said_many event.Loss n now after of acts = ap (λ (m : Machine). length m.accounts) acts ∙ accounts_stay now _
said_many (event.Act ok) n now after of acts = ap (λ (m : Machine). length m.accounts) acts ∙ accounts_stay now _
said_many (event.Clock stamp) n now after of acts = ap (λ (m : Machine). length m.accounts) acts ∙ accounts_stay now _
said_many event.End n now after of acts = absurd of
