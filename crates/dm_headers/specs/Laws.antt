-- What holds of headers, over the definitions alone.
use Rattle.std.specs.Prelude.{◌≡◌, ℕ, true, false, List, Some}
use Rattle.syncml_types.specs.Message.{Parts}
use Rattle.dm_auth.specs.declared.accounts.Account.{Account}
use Rattle.dm_headers.specs.declared.checks.Side.{Side}
use Rattle.dm_headers.specs.declared.standings.Standing.{Standing}
use Rattle.dm_headers.specs.Checks.{fault_of}
use Rattle.dm_headers.specs.Standings.{hears, Heard}

-- in a message with a fault neither credentials nor the Status are read: nonces and acceptance stay, and no failure
-- counts
pub record ReadsNothing (a : Account) (s : Standing) (h : Heard) : Type 0 where
  pub account : h.account ≡ a
  pub accepted : h.standing.accepted ≡ s.accepted
  pub welcomed : h.standing.welcomed ≡ s.welcomed
  pub they_failed : h.standing.they_failed ≡ s.they_failed
  pub we_failed : h.standing.we_failed ≡ s.we_failed
  pub second : h.second ≡ false

abbrev pub FaultReadsNothing : Type 0
FaultReadsNothing = (theirs : Side) (a : Account) (s : Standing) (m : Parts) (nonce : List ℕ) (code : ℕ)
    → fault_of m ≡ Some code → ReadsNothing a s (hears theirs a s m nonce)

-- what was accepted once in a session stays so
pub record StaysAccepted (s : Standing) (h : Heard) : Type 0 where
  pub accepted : s.accepted ≡ true → h.standing.accepted ≡ true
  pub welcomed : s.welcomed ≡ true → h.standing.welcomed ≡ true

abbrev pub AcceptedForGood : Type 0
AcceptedForGood = (theirs : Side) (a : Account) (s : Standing) (m : Parts) (nonce : List ℕ)
    → StaysAccepted s (hears theirs a s m nonce)
