-- What a door tells.
use Rattle.std.specs.Prelude.{◌≡◌, ◌<◌, ◌+◌, ℕ, Bool, IsTrue, IsFalse, List, [], ◌∷◌, ◌++◌, length, drop, Option, Some}
use Rattle.std.specs.Prelude.{None}
use Rattle.std.specs.Prelude.{Result, Ok, Err, ⊤}
use Rattle.dm_base.specs.declared.outside.Fault.{Fault}
use Rattle.dm_base.specs.declared.outside.Fault.TheVariants as fault
use Rattle.dm_outside.specs.Calls.{Closed}
use Rattle.dm_outside.specs.Streams.{Script}
use Rattle.dm_outside.specs.Told.{IfTold, coming}

-- a call of `accept` that is over: it failed; or it let in a connection, which held this up to its end and was given back
pub data Visit : Type 0 where
  missed : Visit
  visited : List ℕ → Closed → Visit

-- whether it can listen; where it was to listen; what the connections to come are made of, none where `accept` fails;
-- what each that is out held up to its end, the first let in first; and the calls of `accept` that are over, in order
pub record Doorway : Type 0 where
  pub listens : Bool
  pub listened : List (List ℕ)
  pub to_come : List (Option Script)
  pub out : List (List ℕ)
  pub log : List Visit

-- nothing was asked of it yet
abbrev pub doorway_of : Bool → List (Option Script) → Doorway
doorway_of listens conns = record { listens = listens; listened = []; to_come = conns; out = []; log = [] }

-- how often `accept` was called
abbrev pub accept_count : Doorway → ℕ
accept_count s = length s.out + length s.log

abbrev pub told_to_listen : Doorway → List ℕ → Doorway
told_to_listen s address = record s { listened = s.listened ++ address ∷ [] }

-- for want of memory it wasn't asked at all
abbrev pub ListenDoes : List ℕ → Result (Unit {0}) Fault → Doorway → Doorway → Type 0
ListenDoes address (Ok u) s t = IsTrue s.listens × (t ≡ told_to_listen s address)
ListenDoes address (Err fault.Failed) s t = IsFalse s.listens × (t ≡ told_to_listen s address)
ListenDoes address (Err fault.Memory) s t = t ≡ s

abbrev pub Listens : Option Doorway → Option Doorway → List ℕ → Result (Unit {0}) Fault → Type 0
Listens old new address r = IfTold old new (ListenDoes address r)

-- a connection that holds this was let in
abbrev pub let_in : Doorway → List ℕ → Doorway
let_in s held = record s { to_come = drop 1 s.to_come; out = s.out ++ held ∷ [] }

abbrev pub accept_failed : Doorway → Doorway
accept_failed s = record s { to_come = drop 1 s.to_come; log = s.log ++ missed ∷ [] }

-- `accept`: the next connection is let in, or none is there
abbrev pub accept_made : Doorway → Option Script → Doorway
accept_made s None = accept_failed s
accept_made s (Some script) = let_in s script.held

-- `accept`, by its answer: the next connection, which has got nothing; or a fault, where none comes next. For want of
-- memory it wasn't asked at all
abbrev pub AcceptDoes : {C : Type 0} → (C → Option (List ℕ)) → (C → Option (List ℕ)) → Result C Fault → Doorway → Doorway
    → Type 0
AcceptDoes left got (Ok c) s t = (script : Script) × (coming s.to_come ≡ Some script)
    × (t ≡ let_in s script.held) × (left c ≡ Some script.held) × (got c ≡ Some [])
AcceptDoes left got (Err fault.Failed) s t = (coming s.to_come ≡ None) × (t ≡ accept_failed s)
AcceptDoes left got (Err fault.Memory) s t = t ≡ s

abbrev pub Accepts : {C : Type 0} → Option Doorway → Option Doorway → (C → Option (List ℕ)) → (C → Option (List ℕ))
    → Result C Fault → Type 0
Accepts old new left got r = IfTold old new (AcceptDoes left got r)

-- the connection that was let in first, of those that are out, is given back
abbrev pub seen_off : Doorway → List (List ℕ) → Closed → Doorway
seen_off s [] c = s
seen_off s (held ∷ rest) c = record s { out = rest; log = s.log ++ visited held c ∷ [] }

abbrev pub DoorCloses : Option Doorway → Option Doorway → Closed → Type 0
DoorCloses old new c = IfTold old new (λ s t. t ≡ seen_off s s.out c)

-- a connection is out, where it tells them
abbrev pub HasVisitor : Option Doorway → Type 0
HasVisitor None = ⊤
HasVisitor (Some s) = 0 < length s.out

-- no connection is out, where it tells them
abbrev pub IsEmpty : Option Doorway → Type 0
IsEmpty None = ⊤
IsEmpty (Some s) = s.out ≡ []

-- the connections that were given back, in order
abbrev pub visitors_in : List Visit → List Closed
visitors_in [] = []
visitors_in (missed ∷ vs) = visitors_in vs
visitors_in (visited held c ∷ vs) = c ∷ visitors_in vs
