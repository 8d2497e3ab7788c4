-- A server as what answers the messages that come over a network.
use Rattle.std.specs.Prelude.{ℕ, List}
use Rattle.syncml_types.specs.Canonical.{canonical}
use Rattle.dm_core.specs.Machines.{CoreReply, message, over, bad, CoreMachine}
use Rattle.dm_service.specs.Service.{Service}
use Rattle.dm_service.specs.Events.{Answer, sent, kept, ended}
use Rattle.dm_service.specs.History.{answer_now, next}
use Rattle.dm_server.specs.View.{arrival_of}

-- a message that is sent, or sent once more; the end of the session; every other answer is that it isn't taken
abbrev pub core_reply : Answer → CoreReply
core_reply (sent m) = message (canonical m)
core_reply (kept m) = message (canonical m)
core_reply ended = over
core_reply other = bad

abbrev pub service_reply : Service → List ℕ → List ℕ → CoreReply
service_reply v bytes nonce = core_reply (answer_now v (arrival_of bytes nonce))

abbrev pub service_next : Service → List ℕ → List ℕ → Service
service_next v bytes nonce = next v (arrival_of bytes nonce)

abbrev pub service_machine : CoreMachine Service
service_machine = record { reply = service_reply; next = service_next }
