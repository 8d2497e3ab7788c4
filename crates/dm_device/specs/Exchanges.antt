-- One exchange, in what the dialer tells.
use Rattle.std.specs.Prelude.{◌≡◌, ◌<◌, ◌++◌, ◌∷◌, [], ℕ, List, take, Option, Some, Result, Ok, Err, ⊤}
use Rattle.dm_base.specs.Outside.{Rose}
use Rattle.dm_base.specs.declared.bytes.Memory.{Memory}
use Rattle.dm_heads.specs.declared.errors.HttpError.{HttpError}
use Rattle.dm_heads.specs.declared.errors.HttpError.TheVariants as error
use Rattle.dm_heads.specs.declared.heads.HeadKind.TheVariants as kind
use Rattle.dm_heads.specs.Messages.{Brings}
use Rattle.dm_outside.specs.Told.{IfTold}
use Rattle.dm_outside.specs.Calls.{Closed, Dial, failed, talked, Calls}
use Rattle.dm_device.specs.declared.exchanging.ReplyHeard.{ReplyHeard}
use Rattle.dm_device.specs.declared.exchanging.ReplyHeard.TheVariants as heard

-- what a post that was answered so brought; for want of memory nothing is heard
abbrev pub heard_of : Result (List ℕ) HttpError → Result ReplyHeard Memory
heard_of (Ok body) = Ok (heard.Body body)
heard_of (Err error.Failed) = Ok heard.Fault
heard_of (Err error.Memory) = Err record {}
heard_of (Err other) = Ok heard.Refused

-- a connection got the whole request, and failed at no call
abbrev pub GotWhole : Closed → List ℕ → Type 0
GotWhole c request = (c.faults ≡ 0) × (c.got ≡ Some request)

-- a connection got a prefix of the request
abbrev pub GotPart : Closed → List ℕ → Type 0
GotPart c request = (n : ℕ) × (c.got ≡ Some (take n request))

-- a connection to the address got the request and brought this; or it failed, or its dial did
abbrev pub IsExchange : List ℕ → Dial → ReplyHeard → List ℕ → Type 0
IsExchange address (failed a) heard.Fault request = a ≡ address
IsExchange address (failed a) other request = ⊥
IsExchange address (talked h c) (heard.Body body) request =
    (h.address ≡ address) × GotWhole c request × Brings kind.Reply h.held (Ok body)
IsExchange address (talked h c) heard.Fault request = (h.address ≡ address) × (0 < c.faults) × GotPart c request
IsExchange address (talked h c) heard.Refused request =
    (h.address ≡ address) × GotWhole c request × ((e : HttpError) × Brings kind.Reply h.held (Err e))

-- no dial, or one to the address, whose connection got a prefix of the request
abbrev pub IsCutDial : List ℕ → List ℕ → List Dial → Type 0
IsCutDial address request [] = ⊤
IsCutDial address request (failed a ∷ []) = a ≡ address
IsCutDial address request (talked h c ∷ []) = (h.address ≡ address) × GotPart c request
IsCutDial address request other = ⊥

-- a dial more at most was made, for want of memory
abbrev pub OneMore : List ℕ → List ℕ → Calls → Calls → Type 0
OneMore address request s t = (ds : List Dial) × (t.log ≡ s.log ++ ds) × IsCutDial address request ds

abbrev pub ExchangeDoes : List ℕ → List ℕ → Result ReplyHeard Memory → Calls → Calls → Type 0
ExchangeDoes address request (Ok h) s t =
    (t.out ≡ []) × (d : Dial) × (t.log ≡ s.log ++ d ∷ []) × IsExchange address d h request
ExchangeDoes address request (Err e) s t = (t.out ≡ []) × OneMore address request s t

-- by the answer: one dial was made, and this is what it brought; for want of memory one dial at most
unfoldable pub Exchanges : Option Calls → Option Calls → List ℕ → List ℕ → Result ReplyHeard Memory → Type 0
Exchanges old new address request r = IfTold old new (ExchangeDoes address request r)

-- the dialer's count rises exactly at a fault
abbrev pub ExchangeCounts : ℕ → ℕ → Result ReplyHeard Memory → Type 0
ExchangeCounts before now (Ok heard.Fault) = Rose before now
ExchangeCounts before now other = now ≡ before

-- the dials that were made, what they brought, and the requests that they were made for, one by one
abbrev pub Matches : List ℕ → List Dial → List ReplyHeard → List (List ℕ) → Type 0
Matches address [] [] [] = ⊤
Matches address (d ∷ ds) (h ∷ hs) (r ∷ rs) = IsExchange address d h r × Matches address ds hs rs
Matches address ds hs rs = ⊥
