-- A machine that sends its next message stays one whose messages can be sent.
use Rattle.std.proofs.Common.{◌≡◌, ◌<◌, ◌+◌, ◌-◌, ◌^◌, ℕ, zero, suc, Bool, List, [], ◌∷◌, length, take, drop, refl}
use Rattle.std.proofs.Common.{arith}
use Rattle.std.specs.List.{AllByRecursion}
use Rattle.std.proofs.lemmas.List.{length-drop}
use Rattle.syncml_types.specs.declared.values.Header.{Header}
use Rattle.dm_tree.specs.Nodes.{IsStamp}
use Rattle.dm_auth.specs.declared.accounts.Account.{Account}
use Rattle.dm_pack.specs.Entries.{Entry, IsReady}
use Rattle.dm_pack.specs.Filling.{taken, cut, commands_of, next_rest, left_after, fill}
use Rattle.dm_pack.proofs.Left.{what_is_left_is_ready}
use Rattle.dm_machine.specs.declared.progress.Progress.{Progress}
use Rattle.dm_machine.specs.Machine.{Machine}
use Rattle.dm_machine.specs.Sending.{header_from, sends}
use Rattle.dm_machine.specs.Ready.{AreReadyResults, IsReadyState, IsReadyAccount, IsReadyLimits, IsReadyProgress}
use Rattle.dm_machine.specs.Ready.{IsReadyMachine}

-- all of a machine but its session
pub record IsReadyApart (c : Machine) : Type 0 where
  pub limits : IsReadyLimits c.limits
  pub clock : IsStamp c.clock
  pub engine : IsReadyState c.limits.max_obj c.engine
  pub queue : AllByRecursion IsReady c.queue
  pub accounts : AllByRecursion IsReadyAccount c.accounts
  pub results : AreReadyResults c.results

pub apart : (c : Machine) → IsReadyMachine c → IsReadyApart c
apart c ready = record {
  limits = ready.limits;
  clock = ready.clock;
  engine = ready.engine;
  queue = ready.queue;
  accounts = ready.accounts;
  results = ready.results;
}

-- ---- what is left

long_rest : (n : ℕ) (es : List Entry) → length (next_rest n es) ≡ length es
long_rest zero es = refl
long_rest (suc n) [] = refl
long_rest (suc n) (e ∷ es) = refl

left_long : (es : List Entry) (h : Header) (room : ℕ) (heard : Bool)
    → length (fill es h room heard).left ≡ length es - (fill es h room heard).whole
unfolding fill
left_long es h room heard =
    let whole = taken h room [] es in
    let rest = long_rest (cut h room (commands_of (take whole es)) (drop whole es)) (drop whole es) in
    let dropped = length-drop whole es in
    omega (arith, rest, dropped)

left_ready : (es : List Entry) (h : Header) (room : ℕ) (heard : Bool) → AllByRecursion IsReady es
    → AllByRecursion IsReady (fill es h room heard).left
unfolding fill left_after
left_ready es h room heard all =
    what_is_left_is_ready es (taken h room [] es)
    (cut h room (commands_of (take (taken h room [] es) es)) (drop (taken h room [] es) es)) all

-- ---- the machine

pub sends_ready : (c : Machine) (p : Progress) (a : Account) → IsReadyApart c → IsReadyProgress c p
    → p.standing.own + 1 < 2 ^ 32 → IsReadyMachine (sends c p a)
unfolding sends
sends_ready c p a ready progress own =
    let h = header_from c p a in
    record {
      limits = ready.limits;
      clock = ready.clock;
      engine = ready.engine;
      queue = left_ready c.queue h p.standing.room p.standing.heard ready.queue;
      accounts = ready.accounts;
      results = ready.results;
      session = record {
        number = progress.number;
        account = progress.account;
        last = progress.last;
        own = own;
        room = progress.room;
        opening =
            let long = left_long c.queue h p.standing.room p.standing.heard in
            let opening = progress.opening in
            omega (arith, long, opening);
      };
    }
