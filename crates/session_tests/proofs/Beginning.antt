-- A client may begin with what a start section told.
use Rattle.std.proofs.Common.{◌≡◌, ◌≤◌, ℕ, true, List, [], ◌∷◌, arith}
use Rattle.std.proofs.lemmas.Bool.{and_parts}
use Rattle.std.proofs.lemmas.Bool.Decides.{nat_tests}
use Rattle.std.specs.Prelude.{◌&&◌, nat_le}
use Rattle.std.specs.List.{AllByRecursion}
use Rattle.dm_auth.specs.declared.accounts.Account.{Account}
use Rattle.dm_machine.specs.Ready.{IsReadyAccount, IsReadyLimits}
use Rattle.dm_tree.specs.Rows.{IsNoneParked}
use Rattle.dm_start.specs.declared.telling.Start.{Start}
use Rattle.dm_fields.specs.Fields.{are_limits}
use Rattle.dm_start.specs.Start.{told_of}
use Rattle.dm_start.specs.Laws.{IsStart}
use Rattle.dm_fields.specs.Fields.{IsAccount}
use Rattle.session_tests.specs.Starts.{MayBegin}

account_ready : (a : Account) → IsAccount a → IsReadyAccount a
account_ready a is = record {
  server = (and_parts _ _ (and_parts _ _ is.server).0).0;
  user = is.user;
}

accounts_ready : (accounts : List Account) → AllByRecursion IsAccount accounts → AllByRecursion IsReadyAccount accounts
accounts_ready [] all = tt
accounts_ready (a ∷ others) all = (account_ready a all.0, accounts_ready others all.1)

below : (n m : ℕ) → nat_le n m ≡ true → n ≤ m
below n m h = grind (arith, nat_tests)

limits_ready : (max_msg max_obj : ℕ) → are_limits max_msg max_obj ≡ true
    → IsReadyLimits (record { max_msg = max_msg; max_obj = max_obj })
limits_ready max_msg max_obj h =
    let outer =
    and_parts (nat_le 2048 max_msg && nat_le max_msg 65536 && nat_le 1 max_obj) (nat_le max_obj 4194304) h in
    let inner = and_parts (nat_le 2048 max_msg && nat_le max_msg 65536) (nat_le 1 max_obj) outer.0 in
    let low : max_msg ≤ 65536 =
    below max_msg 65536 (and_parts (nat_le 2048 max_msg) (nat_le max_msg 65536) inner.0).1 in
    record { max_msg = omega (arith, low); max_obj = below max_obj 4194304 outer.1 }

pub may_begin : (start : Start) → IsStart (told_of start) → IsNoneParked start.tree.rows → MayBegin start
may_begin start is none = record {
  some = is.some;
  accounts = accounts_ready start.accounts is.accounts;
  device = is.device;
  parked = none;
  limits = limits_ready start.limits.max_msg start.limits.max_obj is.limits;
}
