-- Commands that are run one after another.
use Rattle.std.proofs.Common.{◌≡◌, ℕ, suc, ◌+◌, ◌<◌, ◌≤◌, false, List, [], ◌∷◌, ◌++◌, length, drop, get_or, refl}
use Rattle.std.proofs.Common.{sym, ◌∙◌, ap, subst, append_assoc, add-one, drop-cons}
use Rattle.std.proofs.lemmas.List.{append-nil, drop_all}
use Rattle.syncml_types.specs.declared.command.Command.{Command}
use Rattle.syncml_types.specs.declared.command.Block.{Block}
use Rattle.syncml_types.specs.declared.command.Plain.{Plain}
use Rattle.syncml_types.specs.declared.command.SeqMember.{SeqMember}
use Rattle.dm_atomic.specs.declared.tasks.Named.TheVariants as named
use Rattle.dm_atomic.specs.declared.tasks.Origin.{Origin}
use Rattle.dm_atomic.specs.declared.tasks.Task.{Task}
use Rattle.dm_atomic.specs.declared.reports.Report.{Report}
use Rattle.dm_atomic.specs.declared.engine.Engine.{Engine}
use Rattle.dm_atomic.specs.Made.{Made, Status, reported, told, notice, IsInFront}
use Rattle.dm_atomic.specs.Tasks.{item_tasks, container_post}
use Rattle.dm_atomic.specs.Run.{State, Running, Next, quietly, one_step, breaks_first, one_alone, in_sequence}
use Rattle.dm_atomic.specs.Run.{run_member, run_members, run_sequence}
use Rattle.dm_atomic.specs.Engine.{state_of, running, Gives, RunsTask}
use Rattle.dm_atomic.proofs.Tried.{running_stays}
use Rattle.dm_atomic.proofs.Telling.{told_both, some_more}

pub gives_quietly : (s : State) (out : List Command) → Gives (quietly s) s out out
gives_quietly s out = record { state_is = refl; told_is = sym (append-nil out) }

abbrev with_made : List Made → Next → Next
with_made made n = record n { made = made ++ n.made }

-- some were run, and the rest is left
pub record IsGiving (rest whole : Next) (before after : List Command) : Type 0 where
  pub made : List Made
  pub told_is : after ≡ before ++ told made
  pub goes_on : with_made made rest ≡ whole

pub giving_starts : (whole : Next) (out : List Command) → IsGiving whole whole out out
giving_starts whole out = record { made = []; told_is = sym (append-nil out); goes_on = refl }

pub giving_ends : (rest whole : Next) (s : State) (before now : List Command) → IsGiving rest whole before now
    → rest ≡ quietly s → Gives whole s before now
giving_ends rest whole s before now i e =
    let f : with_made i.made (quietly s) ≡ whole = ap (with_made i.made) (sym e) ∙ i.goes_on in
    record {
      state_is = ap (λ (n : Next). n.state) f;
      told_is =
          i.told_is ∙ ap (λ x. before ++ told x) (sym (append-nil i.made)) ∙ ap (λ (n : Next). before ++ told n.made) f;
    }

pub giving_breaks : (rest whole : Next) (before now after : List Command) → IsGiving rest whole before now
    → IsInFront now after → IsInFront before after
giving_breaks rest whole before now after i = some_more before now after i.made i.told_is

abbrev then_gives : Next → Next → Next
then_gives first rest = record { state = rest.state; made = first.made ++ rest.made }

giving-on : (rest first left whole : Next) (before now after : List Command) → IsGiving rest whole before now
    → rest ≡ then_gives first left → after ≡ now ++ told first.made → IsGiving left whole before after
giving-on rest first left whole before now after i e t = record {
  made = i.made ++ first.made;
  told_is = told_both before now after i.made first.made i.told_is t;
  goes_on =
      ap (λ x. record left { made = x }) (append_assoc i.made first.made left.made) ∙ ap (with_made i.made) (sym e)
      ∙ i.goes_on;
}

-- things that are run one after another, each from the state that the one before it left
goes-on : {X : Type 0} (one : State → X → Next) (every : State → List X → Next)
    → ((s : State) (x : X) (xs : List X) → every s (x ∷ xs) ≡ then_gives (one s x) (every (one s x).state xs))
    → (s next : State) (xs : List X) (k : ℕ) (x : X) (whole : Next) (before now after : List Command)
    → IsGiving (every s (drop k xs)) whole before now → k < length xs → x ≡ get_or xs k x
    → Gives (one s x) next now after → IsGiving (every next (drop (k + 1) xs)) whole before after
goes-on one every step s next xs k x whole before now after i l is h =
    let behind : drop k xs ≡ x ∷ drop (k + 1) xs =
    rw (add-one k) (drop-cons xs k x l ∙ ap (λ y. y ∷ drop (suc k) xs) (sym is)) in
    giving-on (every s (drop k xs)) (one s x) (every next (drop (k + 1) xs)) whole before now after i
    (ap (every s) behind ∙ step s x (drop (k + 1) xs)
    ∙ ap (λ y. then_gives (one s x) (every y (drop (k + 1) xs))) (sym h.state_is)) h.told_is

pub tasks_go_on : (r : Running) (s next : State) (ahead left : List Task) (t : Task) (whole : Next)
    (before now after : List Command) → IsGiving (in_sequence r s ahead) whole before now → ahead ≡ t ∷ left
    → Gives (one_alone r s t) next now after → IsGiving (in_sequence r next left) whole before after
tasks_go_on r s next ahead left t whole before now after i e h =
    giving-on (in_sequence r s ahead) (one_alone r s t) (in_sequence r next left) whole before now after i
    (ap (in_sequence r s) e ∙ ap (λ y. then_gives (one_alone r s t) (in_sequence r y left)) (sym h.state_is)) h.told_is

pub members_go_on : (r : Running) (origin : Origin) (s next : State) (ms : List SeqMember) (k : ℕ) (m : SeqMember)
    (whole : Next) (before now after : List Command) → IsGiving (run_members r origin s (drop k ms)) whole before now
    → k < length ms → m ≡ get_or ms k m → Gives (run_member r origin s m) next now after
    → IsGiving (run_members r origin next (drop (k + 1) ms)) whole before after
members_go_on r origin = goes-on (run_member r origin) (run_members r origin) (λ s m ms. refl)

pub items_over : (r : Running) (origin : Origin) (command : Plain) (s : State) (k : ℕ) → length command.items ≤ k
    → in_sequence r s (item_tasks origin false command k (drop k command.items)) ≡ quietly s
items_over r origin command s k l =
    ap (λ xs. in_sequence r s (item_tasks origin false command k xs)) (drop_all k command.items l)

pub members_over : (r : Running) (origin : Origin) (s : State) (ms : List SeqMember) (k : ℕ) → length ms ≤ k
    → run_members r origin s (drop k ms) ≡ quietly s
members_over r origin s ms k l = ap (run_members r origin s) (drop_all k ms l)

-- ---- with the engine's clock and greatest object, which stay

pub alone_still : (e f : Engine) (caller : List ℕ) (s next : State) (t : Task) (before after : List Command)
    → f.tree.clock ≡ e.tree.clock → f.inbox.max_obj ≡ e.inbox.max_obj
    → Gives (one_alone (running f caller) s t) next before after
    → Gives (one_alone (running e caller) s t) next before after
alone_still e f caller s next t before after c m = subst
    (λ (r : Running). Gives (one_alone r s t) next before after) (running_stays e f caller c m)

pub member_still : (e f : Engine) (caller : List ℕ) (origin : Origin) (s next : State) (m : SeqMember)
    (before after : List Command) → f.tree.clock ≡ e.tree.clock → f.inbox.max_obj ≡ e.inbox.max_obj
    → Gives (run_member (running f caller) origin s m) next before after
    → Gives (run_member (running e caller) origin s m) next before after
member_still e f caller origin s next m before after c l = subst
    (λ (r : Running). Gives (run_member r origin s m) next before after) (running_stays e f caller c l)

-- ---- one task, and a Sequence

pub alone_gives : (r : Running) (s broken next : State) (t : Task) (report : Report)
    (out first second third : List Command) → Gives (breaks_first s t.work) broken out first
    → RunsTask (one_step r broken t) next report first second → third ≡ second ++ told (reported report)
    → Gives (one_alone r s t) next out third
alone_gives r s broken next t report out first second third b h e =
    let start = breaks_first s t.work in
    let same : one_step r broken t ≡ one_step r start.state t = ap (λ x. one_step r x t) b.state_is in
    let ran = one_step r start.state t in
    let step : RunsTask ran next report first second = subst (λ x. RunsTask x next report first second) same h in
    record {
      state_is = step.state_is;
      told_is = told_both out first third start.made (notice ran.broken ++ reported ran.report) b.told_is
          (told_both first second third (notice ran.broken) (reported ran.report) step.told_is
          (e ∙ ap (λ x. second ++ told (reported x)) step.report_is));
    }

pub lone_gives : (r : Running) (s next : State) (t : Task) (out after : List Command)
    → Gives (one_alone r s t) next out after → Gives (in_sequence r s (t ∷ [])) next out after
lone_gives r s next t out after g = record {
  state_is = g.state_is;
  told_is = g.told_is ∙ ap (λ x. out ++ told x) (sym (append-nil (one_alone r s t).made));
}

pub sequence_gives : (r : Running) (origin : Origin) (s next : State) (b : Block SeqMember)
    (out first second : List Command)
    → first ≡ out ++ told (Status (container_post origin b.id b.no_resp named.Sequence) 200 ∷ [])
    → Gives (run_members r origin s b.members) next first second → Gives (run_sequence r origin s b) next out second
sequence_gives r origin s next b out first second e g =
    let status = Status (container_post origin b.id b.no_resp named.Sequence) 200 in
    record {
      state_is = g.state_is;
      told_is = told_both out first second (status ∷ []) (run_members r origin s b.members).made e g.told_is;
    }

pub gives_in_front : (n : Next) (s : State) (out after : List Command) → Gives n s out after → IsInFront out after
gives_in_front n s out after g = (told n.made, g.told_is)

pub gives_more : (n : Next) (s : State) (out first second : List Command) → Gives n s out first
    → IsInFront first second → IsInFront out second
gives_more n s out first second g = some_more out first second n.made g.told_is

pub alone_steps : (e f : Engine) (caller : List ℕ) (s next : State) (t : Task) (report : Report)
    (out first second third : List Command) → f.tree.clock ≡ e.tree.clock → f.inbox.max_obj ≡ e.inbox.max_obj
    → Gives (breaks_first s t.work) (state_of f) out first
    → RunsTask (one_step (running f caller) (state_of f) t) next report first second
    → third ≡ second ++ told (reported report) → Gives (one_alone (running e caller) s t) next out third
alone_steps e f caller s next t report out first second third c m b h w =
    alone_gives (running e caller) s (state_of f) next t report out first second third b
    (subst (λ (r : Running). RunsTask (one_step r (state_of f) t) next report first second)
    (running_stays e f caller c m) h) w

-- commands are run, one after the other
pub ruleset giving = (giving_starts, giving_breaks)
