-- A failed Atomic leaves the tree from before its first part.
use Rattle.std.proofs.Common.{◌≡◌, Bool, true, false, cond, List, [], ◌∷◌}
use Rattle.std.proofs.Common.{◌++◌, Option, None, Some, refl, sym, ◌∙◌, ap, subst}
use Rattle.std.specs.Prelude.{unwrap_or}
use Rattle.dm_atomic.specs.declared.reports.Part.{Part}
use Rattle.dm_tree.specs.Nodes.{Nodes}
use Rattle.dm_atomic.specs.declared.tasks.Post.{Post}
use Rattle.dm_atomic.specs.declared.tasks.Task.{Task}
use Rattle.dm_atomic.specs.declared.reports.Report.{Report}
use Rattle.dm_atomic.specs.Run.{State, Group, Running, Next, Tried, quietly, break_of, break_group, tried, joins}
use Rattle.dm_atomic.specs.Run.{opened, opens, closes, in_group, join_or_break, atomically, committed, still, still_of}
use Rattle.dm_atomic.specs.Run.{with_part, run_command, one_step}
use Rattle.dm_objects.specs.Inside.{is_buffering_inside}
use Rattle.dm_atomic.specs.Laws.{Restores, BrokenGroupRestores, QuietRestores, JoiningKeepsTheBase, AlertsLeaveAll}

-- after a group's close: it failed and the tree is its base, or it stays open over that base
pub record Closes (base : Nodes) (failed : Option Report) (n : Next) : Type 0 where
  pub fails : (report : Report) → failed ≡ Some report → (n.state.tree ≡ base) × (n.state.group ≡ None)
  pub stays_open : (g : Group) → n.state.group ≡ Some g → g.base ≡ base

broken-committed : (s : State) (g : Option Group) → s.group ≡ g → committed (break_of s g).state ≡ committed s
broken-committed s None e = refl
broken-committed s (Some g) e = rw e refl

first-committed : (s : State) (b : Bool) → committed (cond b (quietly s) (break_group s)).state ≡ committed s
unfolding break_group
first-committed s true = refl
first-committed s false = broken-committed s s.group refl

pub opened-base : (s : State) (g : Option Group) → s.group ≡ g → (opened s).base ≡ committed s
opened-base s None e = rw e refl
opened-base s (Some g) e = rw e refl

abbrev base_or : Nodes → Option Group → Nodes
base_or m None = m
base_or m (Some g) = g.base

closes-restores : (g : Group) (post : Post) (t : Tried) (f : Option Report) (inside : Bool)
    → is_buffering_inside t.state.object ≡ inside
    → Closes g.base f (closes g post t f)
closes-restores g post t None true i = rw i (record {
  fails = λ report h. absurd (cc);
  stays_open = λ other h. ap (base_or g.base) (sym h);
})
closes-restores g post t None false i =
    rw i (record { fails = λ report h. absurd (cc); stays_open = λ other h. absurd (cc) })
closes-restores g post t (Some report) inside i =
    record { fails = λ other h. (refl, refl); stays_open = λ other h. absurd (cc) }

pub in_group-closes : (r : Running) (s : State) (post : Post) (ts : List Task)
    → Closes (opened s).base (tried r s ts).failed (in_group r s post ts)
unfolding in_group
in_group-closes r s post ts =
    let t = tried r s ts in
    let h = closes-restores (opened s) post t t.failed (is_buffering_inside t.state.object) refl in
    record { fails = h.fails; stays_open = h.stays_open }

pub restores : (r : Running) (s : State) (post : Post) (ts : List Task) → Restores r s post ts
unfolding atomically
restores r s post ts =
    let b = join_or_break s ts in
    let h = in_group-closes r (opens b.state) post ts in
    let same = opened-base b.state b.state.group refl ∙ first-committed s (joins s ts) in
    record {
      fails = λ report e. let k = h.fails report e in (k.0 ∙ same, k.1);
      stays_open = λ g e. h.stays_open g e ∙ same;
    }

broken-restores : (s : State) (g : Option Group) → s.group ≡ g
    → ((break_of s g).state.tree ≡ committed s) × ((break_of s g).state.group ≡ None)
broken-restores s None e = rw e (refl, refl)
broken-restores s (Some g) e = rw e (refl, refl)

pub broken_restores : BrokenGroupRestores
unfolding break_group
broken_restores s = broken-restores s s.group refl

still-restores : (s : State) (g : Option Group) → s.group ≡ g
    → ((still_of s g).state.tree ≡ committed s) × ((still_of s g).state.group ≡ None)
still-restores s None e = rw e (refl, refl)
still-restores s (Some g) e = rw e (refl, refl)

pub quiet_restores : QuietRestores
unfolding still
quiet_restores s = still-restores s s.group refl

-- ---- an open group

-- a group that stays open is the one before with one part more
closes-extends : (g : Group) (post : Post) (t : Tried) (f : Option Report) (inside : Bool)
    → is_buffering_inside t.state.object ≡ inside
    → (h : Group) → (closes g post t f).state.group ≡ Some h → h ≡ with_part g post t
closes-extends g post t None true i = rw i (λ h e. sym (ap (λ o. unwrap_or o g) e))
closes-extends g post t None false i = rw i (λ h e. absurd (cc))
closes-extends g post t (Some report) inside i = λ h e. absurd (cc)

opened-same : (s : State) (g : Group) → s.group ≡ Some g → opened s ≡ g
opened-same s g e = ap (λ o. unwrap_or o (record { base = s.tree; parts = [] })) e

pub joining_keeps : JoiningKeepsTheBase
unfolding atomically in_group
joining_keeps r s post ts g h open_ joined e =
    let t = tried r (opens s) ts in
    let stays : (closes (opened s) post t t.failed).state.group ≡ Some h =
    subst (λ b. (in_group r (opens (cond b (quietly s) (break_group s)).state) post ts).state.group ≡ Some h)
    joined e in
    let is : h ≡ with_part (opened s) post t =
    closes-extends (opened s) post t t.failed (is_buffering_inside t.state.object) refl h stays in
    let same : opened s ≡ g = opened-same s g open_ in
    let part : Part = record { post = post; reports = t.done } in (
      ap (λ (x : Group). x.base) is ∙ ap (λ (x : Group). x.base) same,
      (part, ap (λ (x : Group). x.parts) is ∙ ap (λ (x : Group). x.parts ++ part ∷ []) same),
    )

pub alerts_leave : AlertsLeaveAll
unfolding run_command one_step
alerts_leave r origin s a = refl
