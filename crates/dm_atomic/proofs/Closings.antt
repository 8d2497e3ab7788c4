-- How a group ends, and an Atomic in it.
use Rattle.std.proofs.Common.{◌≡◌, ℕ, ◌≤◌, true, false, List, [], ◌∷◌, ◌++◌, drop, map, refl, sym, ◌∙◌, ap, subst}
use Rattle.std.proofs.Common.{append_assoc, Option, None, Some}
use Rattle.std.specs.Prelude.{Result, Ok, Err, OnOk, OnErr}
use Rattle.std.proofs.lemmas.List.{append-nil}
use Rattle.syncml_types.specs.declared.command.Command.{Command}
use Rattle.dm_undo.specs.Trees.{tree_at}
use Rattle.dm_objects.specs.declared.object.Object.{Object}
use Rattle.dm_objects.specs.Inside.{is_buffering_inside, stays}
use Rattle.dm_objects.specs.Seen.{Seen, present}
use Rattle.dm_atomic.specs.declared.tasks.Post.{Post}
use Rattle.dm_atomic.specs.declared.tasks.Task.{Task}
use Rattle.dm_atomic.specs.declared.reports.Part.{Part}
use Rattle.dm_atomic.specs.declared.reports.Report.{Report}
use Rattle.dm_atomic.specs.declared.engine.Engine.{Engine}
use Rattle.dm_atomic.specs.Made.{Made, told}
use Rattle.dm_atomic.specs.Run.{State, Group, Running, Next, Tried, break_group, undone, not_run, container, parts_done}
use Rattle.dm_atomic.specs.Run.{parts_undone, tried, joins, left_object, opened, opens, stays_open, succeeds, fails}
use Rattle.dm_atomic.specs.Run.{closes, in_group, join_or_break, atomically}
use Rattle.dm_atomic.specs.Engine.{state_of, running, FitsObject, IsSoundEngine, Gives, Tries}
use Rattle.dm_atomic.proofs.OneStatus.{tried-tries}
use Rattle.dm_atomic.proofs.Tried.{running_stays}
use Rattle.dm_atomic.proofs.Telling.{told_both}

-- ---- the calls that end a group

abbrev failed_tries : State → List Report → Report → List Task → Tried
failed_tries s done report unrun =
    record { state = s; notices = []; done = done; failed = Some report; unrun = unrun }

abbrev good_tries : State → List Report → Tried
good_tries s done = record { state = s; notices = []; done = done; failed = None; unrun = [] }

pub skipped_sound : (e : Engine) (i : Seen) → IsSoundEngine e → i.max_obj ≡ e.inbox.max_obj
    → (FitsObject e.inbox.max_obj (present e.inbox.objects) → FitsObject i.max_obj (present i.objects))
    → IsSoundEngine (record e { inbox = i })
skipped_sound e i s m fits = record {
  journal = s.journal;
  spare = s.spare;
  update = s.update;
  max_obj = subst (λ n. n ≤ 4194304) (sym m) s.max_obj;
  object = fits s.object;
  group = s.group;
  ended = s.ended;
  closed = s.closed;
}

pub fail_gives : (e : Engine) (i : Seen) (s : State) (post : Post) (done : List Report) (failed : Report)
    (unrun : List Task) (out first second : List Command) → e.is_open ≡ true
    → first ≡ out ++ told (parts_undone e.parts)
    → second ≡ first ++ told (container post 507 (map undone done ++ failed ∷ map not_run unrun))
    → present i.objects ≡ left_object (stays (present e.inbox.objects)) unrun
    → s ≡ record (state_of (record e { inbox = i })) {
      tree = (opened (state_of (record e { inbox = i }))).base;
      group = None;
    }
    → Gives (fails (opened (state_of e)) post (failed_tries (state_of e) done failed unrun) failed) s out second
fail_gives e i s post done failed unrun out first second o a b object is = record {
  state_is = is ∙ rw o (ap closed object);
  told_is =
      told_both out first second (parts_undone e.parts)
      (container post 507 (map undone done ++ failed ∷ map not_run unrun)) a b
      ∙ rw o refl;
}
  where
    closed : Object → State
    closed x = record {
      tree = (tree_at e.journal.entries e.tree.rows e.mark).nodes;
      object = x;
      group = None;
      started = e.started;
    }

parts_done-end : (ps : List Part) (p : Part)
    → parts_done (ps ++ p ∷ []) ≡ parts_done ps ++ container p.post 200 p.reports
parts_done-end [] p = append-nil (container p.post 200 p.reports)
parts_done-end (q ∷ ps) p =
    ap (λ x. container q.post 200 q.reports ++ x) (parts_done-end ps p)
    ∙ sym (append_assoc (container q.post 200 q.reports) (parts_done ps) (container p.post 200 p.reports))

pub succeed_gives : (e : Engine) (s : State) (post : Post) (done : List Report) (out first second : List Command)
    → e.is_open ≡ true → first ≡ out ++ told (parts_done e.parts) → second ≡ first ++ told (container post 200 done)
    → s ≡ record (state_of e) { group = None }
    → Gives (succeeds (opened (state_of e)) post (good_tries (state_of e) done)) s out second
succeed_gives e s post done out first second o a b is = record {
  state_is = is;
  told_is =
      told_both out first second (parts_done e.parts) (container post 200 done) a b
      ∙ ap (λ x. out ++ told x) (sym (parts_done-end e.parts (record { post = post; reports = done })))
      ∙ rw o refl;
}

pub stay_state : (e f : Engine) (post : Post) (done : List Report) → e.is_open ≡ true
    → f ≡ record e { parts = e.parts ++ record { post = post; reports = done } ∷ [] }
    → state_of f ≡ (stays_open (opened (state_of e)) post (good_tries (state_of e) done)).state
stay_state e f post done o is = ap state_of is ∙ rw o refl

-- a part more, or none after want of memory
pub record SameBut (e f : Engine) : Type 0 where
  pub clock : f.tree.clock ≡ e.tree.clock
  pub max_obj : f.inbox.max_obj ≡ e.inbox.max_obj

pub stay_same : {X Y : Type 0} (r : Result X Y) (e f : Engine) (parts : List Part)
    → OnOk r (f ≡ record e { parts = parts }) → OnErr r (f ≡ e) → SameBut e f
stay_same (Ok x) e f parts h k =
    record { clock = ap (λ (g : Engine). g.tree.clock) h; max_obj = ap (λ (g : Engine). g.inbox.max_obj) h }
stay_same (Err x) e f parts h k =
    record { clock = ap (λ (g : Engine). g.tree.clock) k; max_obj = ap (λ (g : Engine). g.inbox.max_obj) k }

-- ---- the close, where no step failed

pub stay_closes : (g : Group) (post : Post) (s next : State) (done : List Report) (out : List Command)
    → is_buffering_inside s.object ≡ true → next ≡ (stays_open g post (good_tries s done)).state
    → Gives (closes g post (good_tries s done) None) next out out
stay_closes g post s next done out b e = rw b (record { state_is = e; told_is = sym (append-nil out) })

pub succeed_closes : (g : Group) (post : Post) (s next : State) (done : List Report) (out after : List Command)
    → is_buffering_inside s.object ≡ false → Gives (succeeds g post (good_tries s done)) next out after
    → Gives (closes g post (good_tries s done) None) next out after
succeed_closes g post s next done out after b h = rw b h

-- ---- an Atomic in its open group

opened-is : (s : State) (g : Group) → s.group ≡ Some g → opened s ≡ g
opened-is s g e = rw e refl

-- the group stays while tasks are tried
same-group : (r : Running) (s m : State) (ts : List Task) (g : Group) → s.group ≡ Some g → m ≡ (tried r s ts).state
    → opened m ≡ opened s
same-group r s m ts g e is =
    opened-is m g (ap (λ (x : State). x.group) is ∙ (tried-tries r s ts).group ∙ e) ∙ sym (opened-is s g e)

abbrev whole_of : List Made → Next → Next
whole_of notices w = record { state = w.state; made = notices ++ w.made }

in_group-is : (r : Running) (s : State) (post : Post) (ts : List Task) (failed : Option Report)
    → (tried r s ts).failed ≡ failed
    → whole_of (tried r s ts).notices (closes (opened s) post (tried r s ts) failed) ≡ in_group r s post ts
unfolding in_group
in_group-is r s post ts failed e =
    ap (λ x. whole_of (tried r s ts).notices (closes (opened s) post (tried r s ts) x)) (sym e)

whole-gives : (notices : List Made) (w whole : Next) (s : State) (out mid after : List Command)
    → mid ≡ out ++ told notices → Gives w s mid after → whole_of notices w ≡ whole → Gives whole s out after
whole-gives notices w whole s out mid after e h is = record {
  state_is = h.state_is ∙ ap (λ (n : Next). n.state) is;
  told_is = told_both out mid after notices w.made e h.told_is ∙ ap (λ (n : Next). out ++ told n.made) is;
}

pub failed_in_group : (r : Running) (s m next : State) (g : Group) (post : Post) (ts left : List Task)
    (done : List Report) (report : Report) (ran : ℕ) (out mid after : List Command) → s.group ≡ Some g
    → Tries (tried r s ts) m done left (Some (report, ran)) out mid
    → Gives (fails (opened m) post (failed_tries m done report (drop ran left)) report) next mid after
    → Gives (in_group r s post ts) next out after
failed_in_group r s m next g post ts left done report ran out mid after e t h =
    let now = tried r s ts in
    let same : fails (opened m) post (failed_tries m done report (drop ran left)) report
    ≡ closes (opened s) post now (Some report) =
    ap (λ x. fails x post (failed_tries m done report (drop ran left)) report) (same-group r s m ts g e t.state_is)
    ∙ ap (λ (x : State). fails (opened s) post (failed_tries x done report (drop ran left)) report) t.state_is
    ∙ ap (λ x. fails (opened s) post (failed_tries now.state x report (drop ran left)) report) t.done_is
    ∙ ap (λ x. fails (opened s) post (failed_tries now.state now.done report x) report) (sym t.stop.1.0) in
    whole-gives now.notices (closes (opened s) post now (Some report)) (in_group r s post ts) next out mid after
    t.told_is (subst (λ w. Gives w next mid after) same h) (in_group-is r s post ts (Some report) t.stop.0)

pub done_in_group : (r : Running) (s m next : State) (g : Group) (post : Post) (ts left : List Task)
    (done : List Report) (out mid after : List Command) → s.group ≡ Some g
    → Tries (tried r s ts) m done left None out mid
    → Gives (closes (opened m) post (good_tries m done) None) next mid after
    → Gives (in_group r s post ts) next out after
done_in_group r s m next g post ts left done out mid after e t h =
    let now = tried r s ts in
    let same : closes (opened m) post (good_tries m done) None ≡ closes (opened s) post now None =
    ap (λ x. closes x post (good_tries m done) None) (same-group r s m ts g e t.state_is)
    ∙ ap (λ (x : State). closes (opened s) post (good_tries x done) None) t.state_is
    ∙ ap (λ x. closes (opened s) post (good_tries now.state x) None) t.done_is in
    whole-gives now.notices (closes (opened s) post now None) (in_group r s post ts) next out mid after
    t.told_is (subst (λ w. Gives w next mid after) same h) (in_group-is r s post ts None t.stop)

abbrev pub group_now : Engine → Group
group_now e = record { base = (tree_at e.journal.entries e.tree.rows e.mark).nodes; parts = e.parts }

pub group_is_open : (e : Engine) → e.is_open ≡ true → (state_of e).group ≡ Some (group_now e)
group_is_open e o = rw o refl

-- ---- an Atomic

pub joins_gives : (s : State) (ts : List Task) (out : List Command) → joins s ts ≡ true
    → Gives (join_or_break s ts) s out out
joins_gives s ts out j = rw j (record { state_is = refl; told_is = sym (append-nil out) })

pub breaks_gives : (s next : State) (ts : List Task) (out after : List Command) → joins s ts ≡ false
    → Gives (break_group s) next out after → Gives (join_or_break s ts) next out after
breaks_gives s next ts out after j h = rw j h

pub atomic_gives : (e f : Engine) (caller : List ℕ) (s b o next : State) (post : Post) (ts : List Task)
    (out mid after : List Command) → f.tree.clock ≡ e.tree.clock → f.inbox.max_obj ≡ e.inbox.max_obj
    → Gives (join_or_break s ts) b out mid → o ≡ opens b
    → Gives (in_group (running f caller) o post ts) next mid after
    → Gives (atomically (running e caller) s post ts) next out after
unfolding atomically
atomic_gives e f caller s b o next post ts out mid after c m first is h =
    let r = running e caller in
    let begun = join_or_break s ts in
    let same : in_group (running f caller) o post ts ≡ in_group r (opens begun.state) post ts =
    ap (λ x. in_group x o post ts) (running_stays e f caller c m)
    ∙ ap (λ x. in_group r x post ts) (is ∙ ap opens first.state_is) in
    let w = in_group r (opens begun.state) post ts in
    let g : Gives w next mid after = subst (λ x. Gives x next mid after) same h in
    record {
      state_is = g.state_is;
      told_is = told_both out mid after begun.made w.made first.told_is g.told_is;
    }
