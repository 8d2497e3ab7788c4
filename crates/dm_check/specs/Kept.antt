-- What is answered to what a decoder says, and what is written of what was received.
use Rattle.std.specs.Prelude.{List, [], ℕ, Result, Ok, Err}
use Rattle.wbxml_tokens.specs.declared.reason.Refusal.{Refusal}
use Rattle.wbxml_tokens.specs.declared.reason.FeedError.{FeedError}
use Rattle.wbxml_tokens.specs.declared.reason.FeedError.TheVariants as errors
use Rattle.syncml_types.specs.Message.{Parts}
use Rattle.dm_base.specs.declared.outside.Fault.{Fault}
use Rattle.dm_base.specs.declared.outside.Fault.TheVariants as fault
use Rattle.dm_check.specs.Answers.{checked}
use Rattle.dm_check.specs.declared.message.Received.{Received}
use Rattle.dm_check.specs.declared.message.Received.TheVariants as received

-- what is answered where a decoder reads no more
abbrev pub answer_to : FeedError → Result Received Fault
answer_to (errors.Refused refusal) = Ok (received.Refused refusal)
answer_to errors.Memory = Err fault.Memory

-- what was read
abbrev pub read_in : Received → Result Parts Refusal
read_in (received.Message message bytes) = Ok message
read_in (received.Refused refusal) = Err refusal

-- the line of `check`
abbrev pub checked_in : Received → List ℕ
checked_in (received.Message message bytes) = checked bytes (Ok message)
checked_in (received.Refused refusal) = checked [] (Err refusal)
