-- What answers messages, seen as a machine.
use Rattle.std.specs.Prelude.{◌≡◌, ℕ, List, Option, IsSomeAnd}
use Rattle.dm_core.specs.declared.cores.ReplyKind.{ReplyKind}
use Rattle.dm_core.specs.declared.cores.ReplyKind.TheVariants as reply_kind

-- what a message is answered: a message in its bytes; that the session is over; or that it isn't taken
pub data CoreReply : Type 0 where
  message : List ℕ → CoreReply
  over : CoreReply
  bad : CoreReply

-- by the bytes of a message and a nonce: what it is answered, and what the state is then
pub record CoreMachine (S : Type 0) : Type 0 where
  pub reply : S → List ℕ → List ℕ → CoreReply
  pub next : S → List ℕ → List ℕ → S

-- the kind of this reply, where Message speaks of the message sent last
abbrev pub TellsReply : ReplyKind → Option (List ℕ) → CoreReply → Type 0
TellsReply reply_kind.Message last r = IsSomeAnd last (λ m. r ≡ message m)
TellsReply reply_kind.Over last r = r ≡ over
TellsReply reply_kind.Bad last r = r ≡ bad
