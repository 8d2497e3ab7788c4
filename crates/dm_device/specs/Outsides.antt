-- What the outside of a run tells, and what was posted.
use Rattle.std.specs.Prelude.{◌≡◌, ◌++◌, ℕ, List, take, Option, Some, None, ⊤}
use Rattle.dm_outside.specs.declared.told.Update.{Update}
use Rattle.dm_outside.specs.Calls.{Dial, Calls}
use Rattle.dm_device.specs.declared.exchanging.ReplyHeard.{ReplyHeard}
use Rattle.dm_http.specs.Texts.{request_text}
use Rattle.dm_device.specs.Exchanges.{IsCutDial, Matches}

-- what the outside tells: the calls of the dialer, what the updater was given, and the nonces that are left
pub record Outside : Type 0 where
  pub calls : Calls
  pub updates : List Update
  pub nonces : List (List ℕ)

-- where all three tell
abbrev pub outside_of : Option Calls → Option (List Update) → Option (List (List ℕ)) → Option Outside
outside_of (Some calls) (Some updates) (Some nonces) =
    Some (record { calls = calls; updates = updates; nonces = nonces })
outside_of told given left = None

-- what tells before tells behind it too, and this holds
abbrev pub OfTold : {S : Type 0} → Option S → Option S → (S → S → Type 0) → Type 0
OfTold None after P = ⊤
OfTold (Some before) None P = ⊥
OfTold (Some before) (Some after) P = P before after

-- these requests were posted, and this was heard, one by one
pub record IsPosted (address : List ℕ) (requests : List (List ℕ)) (hs : List ReplyHeard) (before after : Calls)
    : Type 0
  where
    pub dials : List Dial
    pub made : after.log ≡ before.log ++ dials
    pub matched : Matches address dials hs requests

-- the first of them were posted, and at most one dial more was made, to the address: its connection got a prefix of a
-- request there
pub record IsPostedInPart (address : List ℕ) (requests : List (List ℕ)) (hs : List ReplyHeard) (before after : Calls)
    : Type 0
  where
    pub dials : List Dial
    pub more : List Dial
    pub made : after.log ≡ before.log ++ (dials ++ more)
    pub path : List ℕ
    pub message : List ℕ
    pub cut : IsCutDial address (request_text address path message) more
    pub posted : ℕ
    pub matched : Matches address dials hs (take posted requests)
