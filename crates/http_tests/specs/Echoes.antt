-- A small core: it sends each message of two bytes or more back behind its nonce, is over by one byte, and takes no
-- message without bytes.
use Rattle.std.specs.Prelude.{ℕ, List, [], ◌∷◌, ◌++◌, Option, Some}
use Rattle.dm_core.specs.Machines.{CoreMachine, CoreReply, message, over, bad}

-- all that was delivered, each nonce with its message, and what was sent last
pub record EchoState : Type 0 where
  pub taken : List ℕ
  pub last : Option (List ℕ)

abbrev pub echo_reply : List ℕ → List ℕ → CoreReply
echo_reply [] nonce = bad
echo_reply (b ∷ []) nonce = over
echo_reply (b ∷ c ∷ rest) nonce = message (nonce ++ b ∷ c ∷ rest)

abbrev pub last_by : Option (List ℕ) → List ℕ → List ℕ → Option (List ℕ)
last_by last [] nonce = last
last_by last (b ∷ []) nonce = last
last_by last (b ∷ c ∷ rest) nonce = Some (nonce ++ b ∷ c ∷ rest)

abbrev pub echo_next : EchoState → List ℕ → List ℕ → EchoState
echo_next s bytes nonce = record { taken = s.taken ++ (nonce ++ bytes); last = last_by s.last bytes nonce }
