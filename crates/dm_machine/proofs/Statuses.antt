-- Each step of a message has its Status, and a message that doesn't pass has none.
use Rattle.std.proofs.Common.{◌≡◌, ℕ, Bool, true, false, cond, List, [], ◌++◌, ap, arith}
use Rattle.std.specs.List.{sum_by}
use Rattle.std.proofs.lemmas.List.Sums.{sum_by-append}
use Rattle.syncml_types.specs.Message.{Parts}
use Rattle.dm_auth.specs.declared.accounts.Account.{Account}
use Rattle.dm_headers.specs.Checks.{passes}
use Rattle.dm_atomic.specs.declared.tasks.Post.{Post}
use Rattle.dm_atomic.specs.Posts.{NoneLost, made_posts, all_asked}
use Rattle.dm_atomic.specs.Run.{State, Next, quietly, run_all, still}
use Rattle.dm_atomic.proofs.Counts.{made-append}
use Rattle.dm_atomic.proofs.OneStatus.{none_lost, none_lost_in_quiet}
use Rattle.dm_machine.specs.Machine.{Machine}
use Rattle.dm_machine.specs.Messages.{running_for, is_quiet, execute, run_of}
use Rattle.dm_ends.specs.Commands.{origin_of}

-- and then what it breaks, which owes no more
then-quiet : (s : State) (asked : List Post) (run m : Next) → NoneLost asked run.made s.group run.state.group
    → NoneLost [] m.made run.state.group m.state.group → NoneLost asked (run.made ++ m.made) s.group m.state.group
then-quiet s asked run m h k weight =
    omega (
      arith,
      h weight,
      k weight,
      sum_by-append weight (made_posts run.made) (made_posts m.made),
      ap (sum_by weight) (made-append run.made m.made),
    )

quietly-none : (s : State) → NoneLost [] [] s.group s.group
quietly-none s weight = omega arith

quiet-none : (s : State) (b : Bool)
    → NoneLost [] (cond b (still s) (quietly s)).made s.group (cond b (still s) (quietly s)).state.group
quiet-none s true = none_lost_in_quiet s
quiet-none s false = quietly-none s

pub one_status_each : (c : Machine) (a : Account) (m : Parts)
    → NoneLost (all_asked (origin_of m) m.body) (execute c a m).made c.engine.group (execute c a m).state.group
unfolding execute
one_status_each c a m =
    let run = run_all (running_for c a) (origin_of m) c.engine m.body in
    then-quiet c.engine (all_asked (origin_of m) m.body) run
    (cond (is_quiet m) (still run.state) (quietly run.state))
    (none_lost (running_for c a) (origin_of m) c.engine m.body) (quiet-none run.state (is_quiet m))

pub unaccepted_executes_nothing : (c : Machine) (a : Account) (m : Parts) (code : ℕ) → passes code ≡ false
    → ((run_of c a m code).state ≡ c.engine) × ((run_of c a m code).made ≡ [])
unaccepted_executes_nothing c a m code f = (
  ap (λ b. (cond b (execute c a m) (quietly c.engine)).state) f,
  ap (λ b. (cond b (execute c a m) (quietly c.engine)).made) f,
)
