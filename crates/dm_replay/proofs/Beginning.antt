-- A client can be made of a start section that was read.
use Rattle.std.proofs.Common.{◌≡◌, ◌<◌, ◌≤◌, ◌^◌, ℕ, true, List, [], ◌∷◌, arith}
use Rattle.std.proofs.lemmas.Grind.{common_steps}
use Rattle.std.specs.Prelude.{IsTrue}
use Rattle.std.specs.List.{AllByRecursion}
use Rattle.dm_base.specs.Fields.{is_short, is_id}
use Rattle.dm_base.specs.declared.values.Limits.{Limits}
use Rattle.dm_auth.specs.declared.accounts.Account.{Account}
use Rattle.dm_machine.specs.Ready.{IsReadyAccount, IsReadyLimits}
use Rattle.dm_tree.specs.Rows.{IsNoneParked}
use Rattle.dm_start.specs.declared.telling.Start.{Start}
use Rattle.dm_fields.specs.Fields.{are_limits}
use Rattle.dm_start.specs.Laws.{IsStart}
use Rattle.dm_fields.specs.Fields.{IsAccount}
use Rattle.dm_start.specs.Start.{told_of}
use Rattle.dm_replay.specs.From.{CanBegin}

id_is_short : (text : List ℕ) → IsTrue (is_id text) → IsTrue (is_short text)
id_is_short text h = grind (arith, common_steps)

pub ready_accounts : (accounts : List Account) → AllByRecursion IsAccount accounts → AllByRecursion IsReadyAccount accounts
ready_accounts [] h = tt
ready_accounts (a ∷ accounts) h =
    (record { server = id_is_short a.server h.0.server; user = h.0.user }, ready_accounts accounts h.1)

within_32 : (max_msg max_obj : ℕ) → are_limits max_msg max_obj ≡ true → max_msg < 2 ^ 32
within_32 max_msg max_obj h = grind (arith, common_steps)

within_most : (max_msg max_obj : ℕ) → are_limits max_msg max_obj ≡ true → max_obj ≤ 4194304
within_most max_msg max_obj h = grind (arith, common_steps)

pub ready_limits : (limits : Limits) → are_limits limits.max_msg limits.max_obj ≡ true → IsReadyLimits limits
ready_limits limits h = record {
  max_msg = within_32 limits.max_msg limits.max_obj h;
  max_obj = within_most limits.max_msg limits.max_obj h;
}

pub can_begin : (start : Start) → IsStart (told_of start) → IsNoneParked start.tree.rows → CanBegin start
can_begin start sound none = record {
  accounts = ready_accounts start.accounts sound.accounts;
  device = sound.device;
  parked = none;
  limits = ready_limits start.limits sound.limits;
}
