-- A message that asks for nothing finds nothing, where no group is open.
use Rattle.std.proofs.Common.{zero, suc, ◌≡◌, ℕ, Bool, true, false, cond, List, [], ◌∷◌, ◌++◌, Option, None, Some, refl}
use Rattle.std.proofs.Common.{sym, subst, arith, ◌⊎◌, inl, inr}
use Rattle.std.specs.List.{Contains}
use Rattle.std.proofs.lemmas.List.Elements.{Contains-append_cases}
use Rattle.syncml_types.specs.declared.values.Item.{Item}
use Rattle.syncml_types.specs.declared.command.Plain.{Plain}
use Rattle.syncml_types.specs.declared.command.AlertCmd.{AlertCmd}
use Rattle.syncml_types.specs.declared.command.Command.{Command}
use Rattle.syncml_types.specs.declared.command.Command.TheVariants as command
use Rattle.syncml_types.specs.Message.{Parts}
use Rattle.dm_auth.specs.declared.accounts.Account.{Account}
use Rattle.dm_headers.specs.Standings.{Heard}
use Rattle.dm_objects.specs.Gathering.{buffered_target}
use Rattle.dm_commands.specs.declared.outcome.Found.{Found}
use Rattle.dm_atomic.specs.declared.tasks.Origin.{Origin}
use Rattle.dm_atomic.specs.declared.tasks.Post.{Post}
use Rattle.dm_atomic.specs.Tasks.{item_tasks, plain_tasks, alert_task}
use Rattle.dm_atomic.specs.Made.{Made, Status, Result, Broken, notice}
use Rattle.dm_atomic.specs.Run.{Group, State, Running, Next, quietly, one_step, one_alone, in_sequence, run_command}
use Rattle.dm_atomic.specs.Run.{run_all, still_of, still}
use Rattle.dm_machine.specs.declared.progress.Progress.{Progress}
use Rattle.dm_machine.specs.Machine.{Machine}
use Rattle.dm_machine.specs.Messages.{running_for, is_quiet, quiet_after, execute}
use Rattle.dm_machine.specs.Statuses.{is_executed, executed}
use Rattle.dm_world.specs.Acts.{command_acts, acts, item_acts}
use Rattle.dm_world.proofs.Lists.{either}
use Rattle.dm_world.proofs.Waits.{left-none, right-none}
use Rattle.dm_ends.specs.Commands.{origin_of}

abbrev pub NoneFound : List Made → Type 0
NoneFound ms = (p : Post) (f : Found) → Contains ms (Result p f) → ⊥

-- no group is open, and no value was found
pub record FindsNone (x : Next) : Type 0 where
  pub group : x.state.group ≡ None
  pub none : NoneFound x.made

empty-none : NoneFound []
empty-none p f (k, low, at) = omega (arith, low)

append-none : (a b : List Made) → NoneFound a → NoneFound b → NoneFound (a ++ b)
append-none a b h k p f c = by (Contains-append_cases a b (Result p f) c)
  where
    by : Contains a (Result p f) ⊎ Contains b (Result p f) → ⊥
    by (inl x) = h p f x
    by (inr x) = k p f x

notice-none : (o : Option (List ℕ)) → NoneFound (notice o)
notice-none None = empty-none
notice-none (Some t) = one
  where
    one : NoneFound (Broken t ∷ [])
    one p f (zero, low, at) = cc
    one p f (suc k, low, at) = omega (arith, low)

quietly-none : (s : State) → s.group ≡ None → FindsNone (quietly s)
quietly-none s e = record { group = e; none = empty-none }

-- ---- commands

items-none : (a : Bool) (p : Plain) (is : List Item) → item_acts a p is ≡ [] → is ≡ []
items-none a p [] e = refl
items-none a p (i ∷ is) e = absurd (cc)

plain-none : (r : Running) (o : Origin) (s : State) (p : Plain) → item_acts false p p.items ≡ [] → s.group ≡ None
    → FindsNone (in_sequence r s (plain_tasks o false p))
plain-none r o s p e g =
    subst (λ is. FindsNone (in_sequence r s (item_tasks o false p 0 is))) (sym (items-none false p p.items e))
    (quietly-none s g)

alert-made : (r : Running) (s : State) (o : Origin) (a : AlertCmd) → s.group ≡ None
    → FindsNone (one_alone r s (alert_task o a))
unfolding one_step
alert-made r s o a g = record { group = g; none = one _ _ }
  where
    one : (q : Post) (code : ℕ) → NoneFound (Status q code ∷ [])
    one q code p f (zero, low, at) = cc
    one q code p f (suc k, low, at) = omega (arith, low)

alert-none : (r : Running) (o : Origin) (s : State) (a : AlertCmd) → s.group ≡ None
    → FindsNone (in_sequence r s (alert_task o a ∷ []))
alert-none r o s a g =
    let first = one_alone r s (alert_task o a) in
    let x = alert-made r s o a g in
    record { group = x.group; none = append-none first.made [] x.none empty-none }

command-none : (r : Running) (o : Origin) (s : State) (c : Command) → command_acts c ≡ [] → s.group ≡ None
    → FindsNone (run_command r o s c)
unfolding run_command
command-none r o s (command.Plain p) e g = plain-none r o s p e g
command-none r o s (command.Alert a) e g = alert-none r o s a g
command-none r o s (command.Atomic b) e g = absurd (cc)
command-none r o s (command.Sequence b) e g = absurd (cc)
command-none r o s (command.Status c) e g = quietly-none s g
command-none r o s (command.Results c) e g = quietly-none s g

commands-none : (r : Running) (o : Origin) (s : State) (cs : List Command) → acts cs ≡ [] → s.group ≡ None
    → FindsNone (run_all r o s cs)
commands-none r o s [] e g = quietly-none s g
commands-none r o s (c ∷ cs) e g =
    let first = run_command r o s c in
    let x = command-none r o s c (left-none (command_acts c) (acts cs) e) g in
    let y = commands-none r o first.state cs (right-none (command_acts c) (acts cs) e) x.group in
    record {
      group = y.group;
      none = append-none first.made (run_all r o first.state cs).made x.none y.none;
    }

-- ---- a message

still-none : (s : State) (g : Option Group) → g ≡ None → s.group ≡ None → FindsNone (still_of s g)
still-none s None e h = record { group = h; none = notice-none (buffered_target s.object) }
still-none s (Some g) e h = absurd (cc)

quiet-none : (m : Parts) (run : Next) → FindsNone run → FindsNone (quiet_after m run)
unfolding still
quiet-none m run h =
    let s = cond (is_quiet m) (still run.state) (quietly run.state) in
    let x = either FindsNone (is_quiet m) {x = still run.state} {y = quietly run.state}
    (still-none run.state run.state.group h.group h.group) (quietly-none run.state h.group) in
    record { group = x.group; none = append-none run.made s.made h.none x.none }

execute-none : (c : Machine) (a : Account) (m : Parts) → acts m.body ≡ [] → c.engine.group ≡ None
    → FindsNone (execute c a m)
unfolding execute
execute-none c a m e g =
    quiet-none m (run_all (running_for c a) (origin_of m) c.engine m.body)
    (commands-none (running_for c a) (origin_of m) c.engine m.body e g)

-- where it is executed
pub executed-none : (c : Machine) (p : Progress) (m : Parts) (h : Heard)
    → (is_executed p m h ≡ true → acts m.body ≡ [])
    → c.engine.group ≡ None
    → FindsNone (executed c p m h)
executed-none c p m h e g = by (is_executed p m h) e
  where
    by : (b : Bool) → (b ≡ true → acts m.body ≡ []) → FindsNone (cond b (execute c h.account m) (quietly c.engine))
    by true e = execute-none c h.account m (e refl) g
    by false e = quietly-none c.engine g
