-- What a server's calls tell of its machine, which it is seen as.
use Rattle.std.specs.Prelude.{◌≡◌, ℕ, List, Option, option_map, IsSomeAnd}
use Rattle.syncml_types.specs.Message.{Parts}
use Rattle.syncml_types.specs.Canonical.{canonical}
use Rattle.syncml_codec.specs.Decoding.{read_of}
use Rattle.dm_service.specs.Service.{Service}
use Rattle.dm_service.specs.Events.{Arrival, Answer as Answered, sent, kept, stale, stranger, refused, ended}
use Rattle.dm_server.specs.declared.answers.ServerAnswer.{ServerAnswer}
use Rattle.dm_server.specs.declared.answers.ServerAnswer.TheVariants as answers

-- the answer to a message is this one, where Sent and Kept speak of the message sent last
abbrev pub Tells : ServerAnswer → Service → Answered → Type 0
Tells answers.Sent v a = IsSomeAnd v.sent (λ m. a ≡ sent m)
Tells answers.Kept v a = IsSomeAnd v.sent (λ m. a ≡ kept m)
Tells answers.Stale v a = a ≡ stale
Tells answers.Stranger v a = a ≡ stranger
Tells (answers.Refused refusal) v a = a ≡ refused refusal
Tells answers.Ended v a = a ≡ ended

-- bytes come, with the nonce of a challenge
abbrev pub arrival_of : List ℕ → List ℕ → Arrival
arrival_of bytes nonce = record { read = read_of bytes; nonce = nonce }

-- the message sent last, in its bytes
abbrev pub sent_last : Service → Option (List ℕ)
sent_last v = option_map (λ (m : Parts). canonical m) v.sent
