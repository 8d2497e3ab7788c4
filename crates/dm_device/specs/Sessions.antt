-- The exchanges of one session: which requests they make, and how the session ends.
use Rattle.std.specs.Prelude.{◌<◌, ◌+◌, ◌*◌, ◌||◌, ◌++◌, ◌∷◌, [], ℕ, Bool, true, false, if◌then◌else◌, nat_lt, List}
use Rattle.std.specs.Prelude.{drop}
use Rattle.std.specs.Prelude.{Option, Some, None}
use Rattle.syncml_codec.specs.Decoding.{read_of}
use Rattle.dm_machine.specs.declared.kinds.End.{End}
use Rattle.dm_machine.specs.declared.kinds.End.TheVariants as ends
use Rattle.dm_machine.specs.Machine.{Machine}
use Rattle.dm_machine.specs.Events.{Event, message, Answer, sent, ended}
use Rattle.dm_machine.specs.History.{answer_now, next}
use Rattle.dm_outside.specs.Updates.{first_nonce}
use Rattle.dm_session.specs.View.{sent_last}
use Rattle.dm_http.specs.Texts.{request_text}
use Rattle.dm_device.specs.declared.exchanging.ReplyHeard.{ReplyHeard}
use Rattle.dm_device.specs.declared.exchanging.ReplyHeard.TheVariants as heard
use Rattle.dm_device.specs.declared.tally.Word.{Word}
use Rattle.dm_device.specs.declared.tally.Word.TheVariants as word
use Rattle.dm_device.specs.declared.tally.Tally.{Tally}
use Rattle.dm_device.specs.Paths.{request_path}

-- ---- what one exchange does

-- where a session stands: the client's machine, what was lost and accepted so far, and the nonces that are left
pub record Going : Type 0 where
  pub machine : Machine
  pub tally : Tally
  pub nonces : List (List ℕ)

-- behind an exchange: where the session stands, and the word by which it is over; none where it goes on
pub record Turn : Type 0 where
  pub going : Going
  pub word : Option Word

-- fewer than five in a row were lost, and fewer than 100,000 messages accepted
abbrev pub IsWithinLimits : Tally → Type 0
IsWithinLimits t = (t.lost < 5) × (t.accepted < 100000)

abbrev pub at_first : Tally
at_first = record { lost = 0; blamed = false; accepted = 0 }

abbrev pub after_loss : Tally → Bool → Tally
after_loss t blamed = record { lost = t.lost + 1; blamed = t.blamed || blamed; accepted = t.accepted }

-- the fifth in a row ends the session: it is the peer's where one of them was lost otherwise than by a fault
abbrev pub word_of_loss : Tally → Bool → Option Word
word_of_loss t blamed =
    if nat_lt (t.lost + 1) 5 then None else if t.blamed || blamed then Some word.Peer else Some word.GaveUp

abbrev pub after_accept : Tally → Tally
after_accept t = record { lost = 0; blamed = false; accepted = t.accepted + 1 }

-- the 100,000th accepted message ends the session
abbrev pub word_of_accept : Tally → Option Word
word_of_accept t = if nat_lt (t.accepted + 1) 100000 then None else Some word.Peer

abbrev pub word_of_end : End → Word
word_of_end ends.Finished = word.Finished
word_of_end ends.Aborted = word.Aborted
word_of_end ends.Denied = word.Denied

abbrev pub loses : Going → Bool → Turn
loses g blamed = record {
  going = record g { tally = after_loss g.tally blamed };
  word = word_of_loss g.tally blamed;
}

abbrev pub turn_accepting : Going → Turn
turn_accepting g = record { going = record g { tally = after_accept g.tally }; word = word_of_accept g.tally }

-- a message that is accepted is answered by one that is sent, or ends the session; every other answer is a loss, which
-- the reply has to answer for
abbrev pub turn_answering : Going → Answer → Turn
turn_answering g (sent m) = turn_accepting g
turn_answering g (ended end farewell) = record { going = g; word = Some (word_of_end end) }
turn_answering g other = loses g true

-- a body is a message, with the next nonce
abbrev pub arrives : Going → List ℕ → Event
arrives g bytes = message (read_of bytes) (first_nonce g.nonces)

abbrev pub delivered : Going → List ℕ → Going
delivered g bytes = record {
  machine = next g.machine (arrives g bytes);
  tally = g.tally;
  nonces = drop 1 g.nonces;
}

unfoldable pub turn : Going → ReplyHeard → Turn
turn g heard.Fault = loses g false
turn g heard.Refused = loses g true
turn g (heard.Body bytes) = turn_answering (delivered g bytes) (answer_now g.machine (arrives g bytes))

-- ---- all of them

-- the requests of a session, the word by which it is over, and where it stands then
pub record SessionRun : Type 0 where
  pub requests : List (List ℕ)
  pub word : Option Word
  pub going : Going

abbrev pub asks_all : List (List ℕ) → SessionRun → SessionRun
asks_all rs s = record { requests = rs ++ s.requests; word = s.word; going = s.going }

abbrev pub stopped : Going → Option Word → SessionRun
stopped g w = record { requests = []; word = w; going = g }

-- the session is over with a word, or goes on
abbrev pub unless_over : Option Word → Going → SessionRun → SessionRun
unless_over None g s = s
unless_over (Some w) g s = stopped g (Some w)

abbrev pub bytes_or_none : Option (List ℕ) → List ℕ
bytes_or_none None = []
bytes_or_none (Some bytes) = bytes

-- a request to an address with these bytes, to the path that the machine was told
abbrev pub request_of : List ℕ → List ℕ → Machine → Option (List ℕ) → List ℕ
request_of address path c bytes = request_text address (request_path c.resp_uri path) (bytes_or_none bytes)

-- the message sent last is posted
unfoldable pub asks : List ℕ → List ℕ → Machine → List ℕ
asks address path c = request_of address path c (sent_last c)

-- it is posted until the session is over, or no more was heard
abbrev pub session : List ℕ → List ℕ → Going → List ReplyHeard → SessionRun
session address path g [] = stopped g None
session address path g (h ∷ hs) = asks_all (asks address path g.machine ∷ [])
    (unless_over (turn g h).word (turn g h).going (session address path (turn g h).going hs))

-- five times the accepted messages and those lost in a row: each exchange behind which a session goes on raises it
abbrev pub tally_measure : Tally → ℕ
tally_measure t = 5 * t.accepted + t.lost
