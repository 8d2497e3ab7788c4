-- The message with which a session is denied is short.
use Rattle.std.proofs.Common.{◌<◌, ◌≤◌, ◌^◌, ℕ, List, length}
use Rattle.syncml_types.specs.Message.{Parts}
use Rattle.syncml_types.specs.Canonical.{canonical}
use Rattle.dm_auth.specs.declared.accounts.Account.{Account}
use Rattle.dm_pack.specs.Filling.{IsReadyHeader}
use Rattle.dm_ends.proofs.Answers.{IsNonce}
use Rattle.dm_ends.proofs.ShortFarewells.{farewell_short as short_farewell}
use Rattle.dm_machine.specs.declared.progress.Progress.{Progress}
use Rattle.dm_machine.specs.Machine.{Machine}
use Rattle.dm_machine.specs.Sending.{header_from}
use Rattle.dm_machine.specs.Messages.{farewell_of}

-- at most 2,048 bytes
pub farewell_short : (c : Machine) (p : Progress) (a : Account) (m : Parts) (code : ℕ) (nonce : List ℕ)
    → IsReadyHeader (header_from c p a) → m.header.msg < 2 ^ 32 → code < 2 ^ 32 → IsNonce nonce
    → length (canonical (farewell_of c p a m code nonce)) ≤ 2048
farewell_short c p a m code nonce ready msg low is = short_farewell (header_from c p a) m code nonce ready msg low is
