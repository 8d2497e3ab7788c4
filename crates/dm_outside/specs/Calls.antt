-- What a dialer tells.
use Rattle.std.specs.Prelude.{◌≡◌, ◌<◌, ◌+◌, ℕ, suc, zero, List, [], ◌∷◌, ◌++◌, length, drop, Option, Some, None}
use Rattle.std.specs.Prelude.{Result, option_map}
use Rattle.std.specs.Prelude.{Ok, Err, ⊤, slice_get}
use Rattle.dm_base.specs.Outside.{Rose}
use Rattle.dm_base.specs.declared.outside.Fault.{Fault}
use Rattle.dm_base.specs.declared.outside.Fault.TheVariants as fault
use Rattle.dm_outside.specs.declared.told.Handed.{Handed}
use Rattle.dm_outside.specs.Streams.{Script}
use Rattle.dm_outside.specs.Told.{IfTold, coming}

-- a connection that was given back: how often it failed, what it has got, and what of what it held is left
pub record Closed : Type 0 where
  pub faults : ℕ
  pub got : Option (List ℕ)
  pub left : Option (List ℕ)

-- a dial that is over: it failed, at this address; or it made a connection, which was given back
pub data Dial : Type 0 where
  failed : List ℕ → Dial
  talked : Handed → Closed → Dial

-- what the connections to come are made of, none where the dial fails; those that are out, the first handed out first;
-- and the dials that are over, in order
pub record Calls : Type 0 where
  pub to_come : List (Option Script)
  pub out : List Handed
  pub log : List Dial

-- nothing was dialled yet
abbrev pub calls_of : List (Option Script) → Calls
calls_of conns = record { to_come = conns; out = []; log = [] }

-- a connection to an address, which holds this, was handed out
abbrev pub handed_out : Calls → List ℕ → List ℕ → Calls
handed_out s address held =
    record s { to_come = drop 1 s.to_come; out = s.out ++ (record { address = address; held = held }) ∷ [] }

abbrev pub dial_failed : Calls → List ℕ → Calls
dial_failed s address = record s { to_come = drop 1 s.to_come; log = s.log ++ failed address ∷ [] }

-- a dial: the next connection is handed out, or none is there
abbrev pub call_made : Calls → List ℕ → Option Script → Calls
call_made s address None = dial_failed s address
call_made s address (Some script) = handed_out s address script.held

-- a dial, by its answer: the next connection, which has got nothing; or a fault, where none comes next. For want of
-- memory it is no dial at all
abbrev pub DialDoes : {C : Type 0} → List ℕ → (C → Option (List ℕ)) → (C → Option (List ℕ)) → Result C Fault → Calls → Calls
    → Type 0
DialDoes address left got (Ok c) s t = (script : Script) × (coming s.to_come ≡ Some script)
    × (t ≡ handed_out s address script.held) × (left c ≡ Some script.held) × (got c ≡ Some [])
DialDoes address left got (Err fault.Failed) s t = (coming s.to_come ≡ None) × (t ≡ dial_failed s address)
DialDoes address left got (Err fault.Memory) s t = t ≡ s

abbrev pub Dials : {C : Type 0} → Option Calls → Option Calls → List ℕ → (C → Option (List ℕ)) → (C → Option (List ℕ))
    → Result C Fault → Type 0
Dials old new address left got r = IfTold old new (DialDoes address left got r)

-- what a connection comes to, by what is left of it, what it has got, and how often takes and puts failed
abbrev pub closed_conn : {C : Type 0} → (C → Option (List ℕ)) → (C → Option (List ℕ)) → (C → ℕ) → (C → ℕ) → C → Closed
closed_conn left got takes puts c = record { faults = takes c + puts c; got = got c; left = left c }

-- the connection that was handed out first, of those that are out, is given back
abbrev pub given_back : Calls → List Handed → Closed → Calls
given_back s [] c = s
given_back s (h ∷ hs) c = record s { out = hs; log = s.log ++ talked h c ∷ [] }

abbrev pub DialerCloses : Option Calls → Option Calls → Closed → Type 0
DialerCloses old new c = IfTold old new (λ s t. t ≡ given_back s s.out c)

-- a connection is out, where it tells them
abbrev pub HasOut : Option Calls → Type 0
HasOut None = ⊤
HasOut (Some s) = 0 < length s.out

-- no connection is out, where it tells them
abbrev pub IsIdle : Option Calls → Type 0
IsIdle None = ⊤
IsIdle (Some s) = s.out ≡ []

-- by how often a connection failed: a fault of one is a fault of the dialer
abbrev pub CloseCounts : ℕ → ℕ → ℕ → Type 0
CloseCounts before now zero = now ≡ before
CloseCounts before now (suc n) = Rose before now

-- the connections that were given back, in order
abbrev pub closed_in : List Dial → List Closed
closed_in [] = []
closed_in (failed address ∷ ds) = closed_in ds
closed_in (talked h c ∷ ds) = c ∷ closed_in ds

-- what the connection that was given back n-th, from 0, has got; none where fewer were given back
abbrev pub got_by : List Closed → ℕ → Option (Option (List ℕ))
got_by closed n = option_map (λ c. c.got) (slice_get closed n)
