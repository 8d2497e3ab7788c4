-- The connections of a run that waits for them: what each brought, what it is answered, and what it got.
use Rattle.std.specs.Prelude.{◌≡◌, ◌⊎◌, ℕ, zero, suc, List, [], ◌∷◌, ◌++◌, take, drop, Option, Some, Result, Ok, ⊤}
use Rattle.dm_heads.specs.declared.errors.HttpError.{HttpError}
use Rattle.dm_heads.specs.declared.heads.HeadKind.TheVariants as kind
use Rattle.dm_heads.specs.Messages.{Brings, Settles}
use Rattle.dm_core.specs.Machines.{CoreMachine}
use Rattle.dm_http.specs.Replies.{reply_bytes, refusal_reply}
use Rattle.dm_outside.specs.Calls.{Closed}
use Rattle.dm_outside.specs.Doors.{Visit, missed, visited}
use Rattle.dm_outside.specs.Updates.{first_nonce}

-- what the bytes that were taken from a connection hold: a whole request with a message, or none
pub data Brought : Type 0 where
  asked : List ℕ → Brought
  nothing : Brought

-- ---- what is answered

-- where the machine stands that answers, and the nonces that are left
pub record Serving (S : Type 0) : Type 0 where
  pub core : S
  pub nonces : List (List ℕ)

-- the reply to a message, or the refusal of what is no request with one
abbrev pub reply_to : {S : Type 0} → CoreMachine S → Serving S → Brought → List ℕ
reply_to m g (asked body) = reply_bytes (m.reply g.core body (first_nonce g.nonces))
reply_to m g nothing = refusal_reply

abbrev pub core_after : {S : Type 0} → CoreMachine S → Serving S → Brought → S
core_after m g (asked body) = m.next g.core body (first_nonce g.nonces)
core_after m g nothing = g.core

-- each connection takes one nonce, whatever it brought
abbrev pub serving_behind : {S : Type 0} → CoreMachine S → Serving S → Brought → Serving S
serving_behind m g b = record { core = core_after m g b; nonces = drop 1 g.nonces }

-- the replies to connections, one after the other
abbrev pub replies : {S : Type 0} → CoreMachine S → Serving S → List Brought → List (List ℕ)
replies m g [] = []
replies m g (b ∷ bs) = reply_to m g b ∷ replies m (serving_behind m g b) bs

-- where the machine stands behind them
abbrev pub serving_reached : {S : Type 0} → CoreMachine S → Serving S → List Brought → Serving S
serving_reached m g [] = g
serving_reached m g (b ∷ bs) = serving_reached m (serving_behind m g b) bs

-- ---- what the door tells

-- bytes hold a whole request with this message, or none
abbrev pub HoldsRequest : List ℕ → Brought → Type 0
HoldsRequest taken (asked body) = Brings kind.Request taken (Ok body)
HoldsRequest taken nothing = (body : List ℕ) → ¬ (Brings kind.Request taken (Ok body))

-- what was taken settles the answer, or it is all that the connection held
abbrev pub IsEnough : List ℕ → List ℕ → Type 0
IsEnough taken rest = ((r : Result (List ℕ) HttpError) × Settles kind.Request taken r) ⊎ (rest ≡ [])

-- a connection that failed nowhere got its whole reply, and what was taken of it is enough; one that failed got a prefix
abbrev pub GotReply : ℕ → List ℕ → List ℕ → Option (List ℕ) → List ℕ → Type 0
GotReply zero taken rest got reply = (got ≡ Some reply) × IsEnough taken rest
GotReply (suc faults) taken rest got reply = (n : ℕ) × (got ≡ Some (take n reply))

-- what a connection held is what was taken of it and the rest
abbrev pub LeavesRest : List ℕ → List ℕ → List ℕ → Closed → Type 0
LeavesRest held taken rest c = (held ≡ taken ++ rest) × (c.left ≡ Some rest)

-- a connection brought this and got that reply
abbrev pub IsVisit : Visit → Brought → List ℕ → Type 0
IsVisit missed b reply = ⊥
IsVisit (visited held c) b reply = (taken : List ℕ) × (rest : List ℕ) × LeavesRest held taken rest c × HoldsRequest taken b
    × GotReply c.faults taken rest c.got reply

-- connections, what they brought and the replies to it, one by one
abbrev pub AreVisits : List Visit → List Brought → List (List ℕ) → Type 0
AreVisits [] [] [] = ⊤
AreVisits (v ∷ vs) (b ∷ bs) (r ∷ rs) = IsVisit v b r × AreVisits vs bs rs
AreVisits vs bs rs = ⊥

-- what a connection got in which memory was wanting: a prefix of the reply to what it brought
abbrev pub GotBeginning : {S : Type 0} → CoreMachine S → Serving S → List ℕ → Closed → Type 0
GotBeginning m g held c = (b : Brought) × (taken : List ℕ) × (rest : List ℕ) × LeavesRest held taken rest c × HoldsRequest taken b
    × ((n : ℕ) × (c.got ≡ Some (take n (reply_to m g b))))

-- memory was wanting in a connection, before it got anything or behind it
abbrev pub IsCutVisit : {S : Type 0} → CoreMachine S → Serving S → Visit → Type 0
IsCutVisit m g missed = ⊥
IsCutVisit m g (visited held c) = (c.got ≡ Some []) ⊎ GotBeginning m g held c
