-- What an updater and a source of nonces tell.
use Rattle.std.specs.Prelude.{◌≡◌, ℕ, Bool, List, [], ◌∷◌, ◌++◌, drop, map, replicate, Option, Some, None, Result, Ok}
use Rattle.std.specs.Prelude.{Err}
use Rattle.dm_base.specs.declared.outside.Fault.{Fault}
use Rattle.dm_base.specs.declared.outside.Fault.TheVariants as fault
use Rattle.dm_base.specs.declared.values.Nonce.{Nonce}
use Rattle.dm_outside.specs.declared.told.Update.{Update}
use Rattle.dm_outside.specs.Told.{IfTold, coming}

-- a package that was given, with its answer; for want of memory none was
abbrev pub UpdateDoes : List ℕ → Result Bool Fault → List Update → List Update → Type 0
UpdateDoes bytes (Ok done) us vs = vs ≡ us ++ (record { bytes = bytes; answer = Some done }) ∷ []
UpdateDoes bytes (Err fault.Failed) us vs = vs ≡ us ++ (record { bytes = bytes; answer = None }) ∷ []
UpdateDoes bytes (Err fault.Memory) us vs = vs ≡ us

abbrev pub Updates : Option (List Update) → Option (List Update) → List ℕ → Result Bool Fault → Type 0
Updates old new bytes r = IfTold old new (UpdateDoes bytes r)

-- the next of the answers to come was given, or a fault where there is none; for want of memory all are still to come
abbrev pub AnswersNext : List (Option Bool) → List (Option Bool) → Result Bool Fault → Type 0
AnswersNext old new (Ok done) = (coming old ≡ Some done) × (new ≡ drop 1 old)
AnswersNext old new (Err fault.Failed) = (coming old ≡ None) × (new ≡ drop 1 old)
AnswersNext old new (Err fault.Memory) = new ≡ old

-- the bytes of nonces
abbrev pub nonces_of : List Nonce → List (List ℕ)
nonces_of nonces = map (λ n. n.bytes) nonces

-- the first of the nonces; zeros where none is left
abbrev pub first_nonce : List (List ℕ) → List ℕ
first_nonce [] = replicate 16 0
first_nonce (n ∷ ns) = n

abbrev pub GivesNonce : Option (List (List ℕ)) → Option (List (List ℕ)) → List ℕ → Type 0
GivesNonce old new nonce = IfTold old new (λ ns ms. (nonce ≡ first_nonce ns) × (ms ≡ drop 1 ns))
