-- What a run sends is spelled canonically, and no longer than the room that the server told.
use Rattle.std.specs.Prelude.{◌≡◌, ◌<◌, ◌+◌, ◌^◌, ◌⊎◌, ◌∷◌, [], ℕ, List, length, get_or, ⊤}
use Rattle.wbxml_ints.specs.Multibyte.{AreBytes}
use Rattle.dm_machine.specs.Laws.{IsShort}
use Rattle.dm_machine.specs.Machine.{Machine}
use Rattle.dm_machine.specs.Ready.{IsReadyMachine}
use Rattle.dm_device.specs.declared.exchanging.ReplyHeard.{ReplyHeard}
use Rattle.dm_device.specs.declared.exchanging.ReplyHeard.TheVariants as heard
use Rattle.dm_device.specs.Sessions.{Going, request_of, asks}
use Rattle.dm_device.specs.Runs.{Route, Heards, farewell_bytes, device_run}

-- a request has the message that a machine sent last, spelled canonically and within the room that its server told last,
-- or its farewell, which is within any room
abbrev pub IsAskedWithinRoom : List ℕ → List ℕ → List ℕ → Type 0
IsAskedWithinRoom address path request = (c : Machine) × IsShort c
    × ((request ≡ asks address path c) ⊎ (request ≡ request_of address path c (farewell_bytes c)))

abbrev pub AllAskedWithinRoom : List ℕ → List ℕ → List (List ℕ) → Type 0
AllAskedWithinRoom address path [] = ⊤
AllAskedWithinRoom address path (r ∷ rs) = IsAskedWithinRoom address path r × AllAskedWithinRoom address path rs

-- bodies are bytes
abbrev pub HeardBytes : List ReplyHeard → Type 0
HeardBytes [] = ⊤
HeardBytes (heard.Body bytes ∷ hs) = AreBytes bytes × HeardBytes hs
HeardBytes (other ∷ hs) = HeardBytes hs

-- and so are nonces, 16 each
abbrev pub IsNonceOfBytes : List ℕ → Type 0
IsNonceOfBytes nonce = (length nonce ≡ 16) × ((k : ℕ) → k < 16 → get_or nonce k 0 < 256)

abbrev pub NoncesOfBytes : List (List ℕ) → Type 0
NoncesOfBytes [] = ⊤
NoncesOfBytes (n ∷ ns) = IsNonceOfBytes n × NoncesOfBytes ns

-- from a machine that is ready and has sent nothing that is too long, whatever bytes are heard
abbrev pub RunsKeepToRoom : Type 0
RunsKeepToRoom =
    (r : Route) (account number : ℕ) (g : Going) (h : Heards)
    → IsReadyMachine g.machine → IsShort g.machine → account < length g.machine.accounts → number + 1 < 2 ^ 32
    → HeardBytes h.first → HeardBytes h.second → NoncesOfBytes g.nonces
    → AllAskedWithinRoom r.address r.path (device_run r account number g h).requests
