-- What was started is what the tree tells, whatever an engine does.
use Rattle.std.proofs.Common.{◌≡◌, ◌==◌, ℕ, Bool, true, false, cond, List, [], ◌∷◌, Option, None, Some, refl, sym, ◌∙◌}
use Rattle.std.proofs.Common.{ap, subst, inl, inr}
use Rattle.std.specs.Prelude.{◌⊎◌, ◌||◌, All, IfSome, is_some}
use Rattle.std.specs.Fmt.{decimal, digits}
use Rattle.std.specs.Option.{option_map_or}
use Rattle.std.specs.Str.Parse.{digits_value}
use Rattle.std.proofs.lemmas.List.Elements.{All-head, All-tail}
use Rattle.syncml_types.specs.declared.command.Command.TheVariants as commands
use Rattle.syncml_types.specs.declared.command.SeqMember.{SeqMember}
use Rattle.syncml_types.specs.declared.command.SeqMember.TheVariants as seq
use Rattle.syncml_types.specs.declared.command.Step.{Step}
use Rattle.dm_tree.specs.declared.nodes.Stamp.{Stamp}
use Rattle.dm_fumo.specs.States.{progressing, after_result}
use Rattle.dm_tree.specs.declared.nodes.Node.{Node}
use Rattle.dm_tree.specs.declared.nodes.Role.TheVariants as role
use Rattle.dm_tree.specs.Nodes.{Path, Nodes}
use Rattle.dm_tree.specs.Devices.{is_update_state, HasUpdate, StaysForUpdate}
use Rattle.dm_tree.proofs.Devices.{update_is_found}
use Rattle.dm_tree.proofs.UpdateParts.{has_update}
use Rattle.dm_objects.specs.declared.object.Object.{Object}
use Rattle.dm_objects.specs.declared.piece.What.{What}
use Rattle.dm_objects.specs.declared.piece.What.TheVariants.{Whole, Buffered, Refused}
use Rattle.dm_objects.specs.Gathering.{gather}
use Rattle.dm_objects.specs.Inside.{is_buffering_inside}
use Rattle.dm_commands.specs.Outcomes.{Done, asked_by, node_at, is_success}
use Rattle.dm_commands.specs.Updates.{rewritten, rewritten_at, with_state, update_ended}
use Rattle.dm_commands.proofs.Ended.{running_has}
use Rattle.dm_commands.specs.Table.{act}
use Rattle.dm_atomic.specs.declared.tasks.Named.TheVariants as named
use Rattle.dm_atomic.specs.declared.tasks.Origin.{Origin}
use Rattle.dm_atomic.specs.declared.tasks.Post.{Post}
use Rattle.dm_atomic.specs.declared.tasks.Task.{Task}
use Rattle.dm_atomic.specs.declared.tasks.Work.{Work}
use Rattle.dm_atomic.specs.declared.tasks.Work.TheVariants as work
use Rattle.dm_atomic.specs.declared.reports.Report.{Report}
use Rattle.dm_atomic.specs.declared.reports.Started.{Started}
use Rattle.dm_atomic.specs.Tasks.{plain_tasks, alert_task, member_tasks, members_tasks, container_post}
use Rattle.dm_atomic.specs.Run.{State, Group, Running, Ran, Tried, quietly, started_by, by_what, by_work, one_step}
use Rattle.dm_atomic.specs.Run.{break_of, break_group, breaks_first, one_alone, in_sequence, after_success, tried}
use Rattle.dm_atomic.specs.Run.{joins, opened, opens, stays_open, succeeds, closes, in_group, join_or_break, atomically}
use Rattle.dm_atomic.specs.Run.{run_member, run_members, run_command, still, still_of, committed, abandoned}
use Rattle.dm_atomic.specs.Laws.{IsMarked}
use Rattle.dm_atomic.specs.Updates.{is_updating, begun, HasFixedUpdate, TellsStarted, BeginsTelling}
use Rattle.dm_atomic.specs.Updates.{CommandKeepsTelling, QuietKeepsTelling, ResultKeepsTelling}
use Rattle.dm_atomic.proofs.Anchors.{Lasts, anchored_of, fixed_then, lasts_itself, lasts_then, changed_lasts}
use Rattle.dm_atomic.proofs.Insides.{step-starts, members-marked}
use Rattle.dm_atomic.proofs.OneStatus.{failed_at, one_step-steps}
use Rattle.dm_atomic.proofs.Starting.{act_starts, act_lasts, written, led_lasts}
use Rattle.dm_atomic.proofs.UpdateEnds.{begun_with_its_update, runs, package_path, packed, node_of, ended}
use Rattle.dm_atomic.proofs.UpdateEnds as ends

-- the same of the tree before an open group
abbrev BaseTells : Option Started → Option Group → Type 0
BaseTells started o = IfSome o (λ (g : Group). HasFixedUpdate g.base × (is_updating g.base ≡ is_some started))

-- ---- one task

-- whether an update runs stays with what was started, or an update was started and runs
abbrev Goes : State → State → Type 0
Goes s t = ((is_updating t.tree ≡ is_updating s.tree) × (t.started ≡ s.started))
    ⊎ ((is_updating t.tree ≡ true) × (is_some t.started ≡ true))

record GoesOn (s t : State) : Type 0 where
  fixed : HasFixedUpdate t.tree
  goes : Goes s t

done-goes : (s : State) (step : Step) (done : Done) (object : Object)
    → is_updating done.tree ≡ is_updating s.tree || done.started
    → Goes s (record s {
      object = object;
      tree = done.tree;
      started = cond done.started (Some (started_by step)) s.started;
    })
done-goes s step done object e = by_started done.started refl e
  where
    or-false : (b : Bool) → b || false ≡ b
    or-false true = refl
    or-false false = refl

    or-true : (b : Bool) → b || true ≡ true
    or-true true = refl
    or-true false = refl

    by_started : (b : Bool) → done.started ≡ b → is_updating done.tree ≡ is_updating s.tree || b
        → Goes s (record s { object = object; tree = done.tree; started = cond b (Some (started_by step)) s.started })
    by_started true is f = inr (f ∙ or-true (is_updating s.tree), refl)
    by_started false is f = inl (f ∙ or-false (is_updating s.tree), refl)

what-goes : (r : Running) (s : State) (object : Object) (post : Post) (broken : Option (List ℕ)) (w : What)
    → HasFixedUpdate s.tree → GoesOn s (by_what r (record s { object = object }) post broken w).state
what-goes r s object post broken (Whole step) fixed = record {
  fixed = fixed_then s.tree (act r.setting s.tree step).tree fixed
      (act_lasts r.setting s.tree step fixed.anchored fixed.order);
  goes = done-goes s step (act r.setting s.tree step) object
      (act_starts r.setting s.tree step fixed.anchored fixed.order);
}
what-goes r s object post broken Buffered fixed = record { fixed = fixed; goes = inl (refl, refl) }
what-goes r s object post broken (Refused code) fixed = record { fixed = fixed; goes = inl (refl, refl) }

work-goes : (r : Running) (s : State) (post : Post) (w : Work) → HasFixedUpdate s.tree
    → GoesOn s (by_work r s post w).state
work-goes r s post (work.Piece piece) fixed =
    let g = gather r.max_obj s.object piece in what-goes r s g.object post g.broken g.what fixed
work-goes r s post (work.Alert code) fixed = record { fixed = fixed; goes = inl (refl, refl) }

step-goes : (r : Running) (s : State) (t : Task) → HasFixedUpdate s.tree → GoesOn s (one_step r s t).state
unfolding one_step
step-goes r s t fixed = work-goes r s t.post t.work fixed

told-then : (s t : State) → Goes s t → is_some s.started ≡ is_updating s.tree → is_some t.started ≡ is_updating t.tree
told-then s t (inl h) told = ap is_some h.1 ∙ told ∙ sym h.0
told-then s t (inr h) told = h.1 ∙ sym h.0

-- ---- tasks outside an Atomic

break-tells : (s : State) (g : Option Group) → s.group ≡ g → TellsStarted s
    → TellsStarted (break_of s g).state × ((break_of s g).state.group ≡ None)
break-tells s None e tells = (tells, e)
break-tells s (Some g) e tells =
    let base = subst (BaseTells s.started) e tells.base in
    (record { tree = base.0; told = sym base.1; base = tt }, refl)

group-tells : (s : State) → TellsStarted s → TellsStarted (break_group s).state × ((break_group s).state.group ≡ None)
unfolding break_group
group-tells s tells = break-tells s s.group refl tells

-- where no group is open
lone-tells : (r : Running) (s : State) (t : Task) → TellsStarted s → s.group ≡ None
    → TellsStarted (one_step r s t).state
lone-tells r s t tells closed =
    let h = step-goes r s t tells.tree in
    let group : (one_step r s t).state.group ≡ None = (one_step-steps r s t).group ∙ closed in
    record {
      tree = h.fixed;
      told = told-then s (one_step r s t).state h.goes tells.told;
      base = subst (BaseTells (one_step r s t).state.started) (sym group) tt;
    }

work-alone : (r : Running) (s : State) (t : Task) (w : Work) → t.work ≡ w → TellsStarted s
    → TellsStarted (one_step r (breaks_first s w).state t).state
unfolding one_step
work-alone r s t (work.Piece piece) e tells =
    let b = group-tells s tells in lone-tells r (break_group s).state t b.0 b.1
work-alone r s t (work.Alert code) e tells =
    subst (λ w. TellsStarted (by_work r s t.post w).state) (sym e) tells

alone-tells : (r : Running) (s : State) (t : Task) → TellsStarted s → TellsStarted (one_alone r s t).state
alone-tells r s t tells = work-alone r s t t.work refl tells

sequence-tells : (r : Running) (s : State) (ts : List Task) → TellsStarted s → TellsStarted (in_sequence r s ts).state
sequence-tells r s [] tells = tells
sequence-tells r s (t ∷ ts) tells = sequence-tells r (one_alone r s t).state ts (alone-tells r s t tells)

-- ---- an Atomic

-- in which nothing is started
record TriesOn (s : State) (t : State) : Type 0 where
  fixed : HasFixedUpdate t.tree
  runs : is_updating t.tree ≡ is_updating s.tree
  started : t.started ≡ s.started
  group : t.group ≡ s.group

inside-goes : (r : Running) (s : State) (t : Task) → IsMarked true t.work → HasFixedUpdate s.tree
    → is_some s.started ≡ is_updating s.tree → TriesOn s (one_step r s t).state
inside-goes r s t mark fixed told =
    let h = step-goes r s t fixed in
    let same = step-starts r s t mark in
    record {
      fixed = h.fixed;
      runs = by_goes h.goes same;
      started = same;
      group = (one_step-steps r s t).group;
    }
  where
    by_goes : Goes s (one_step r s t).state → (one_step r s t).state.started ≡ s.started
        → is_updating (one_step r s t).state.tree ≡ is_updating s.tree
    by_goes (inl h) same = h.0
    by_goes (inr h) same = h.0 ∙ sym h.1 ∙ ap is_some same ∙ told

tries-then : (s t u : State) → TriesOn s t → TriesOn t u → TriesOn s u
tries-then s t u a b = record {
  fixed = b.fixed;
  runs = b.runs ∙ a.runs;
  started = b.started ∙ a.started;
  group = b.group ∙ a.group;
}

tried-cond : (s : State) (ts : List Task) (first : Ran) (rest : Tried) (ok : Bool) → TriesOn s first.state
    → TriesOn first.state rest.state → TriesOn s (cond ok (after_success first rest) (failed_at first ts)).state
tried-cond s ts first rest true a b = tries-then s first.state rest.state a b
tried-cond s ts first rest false a b = a

tried-tells : (r : Running) (s : State) (ts : List Task) → All (λ t. IsMarked true t.work) ts → HasFixedUpdate s.tree
    → is_some s.started ≡ is_updating s.tree → TriesOn s (tried r s ts).state
tried-tells r s [] all fixed told = record { fixed = fixed; runs = refl; started = refl; group = refl }
tried-tells r s (t ∷ ts) all fixed told =
    let first = one_step r s t in
    let a = inside-goes r s t (All-head (λ t. IsMarked true t.work) t ts all) fixed told in
    tried-cond s ts first (tried r first.state ts) (is_success first.report.code) a
    (tried-tells r first.state ts (All-tail (λ t. IsMarked true t.work) t ts all) a.fixed
    (ap is_some a.started ∙ told ∙ sym a.runs))

module _ (g : Group) (post : Post) (t : Tried) (fixed : HasFixedUpdate t.state.tree)
    (told : is_some t.state.started ≡ is_updating t.state.tree) (base : HasFixedUpdate g.base)
    (same : is_updating g.base ≡ is_some t.state.started) where
  done-tells : (inside : Bool) → TellsStarted (cond inside (stays_open g post t) (succeeds g post t)).state
  done-tells true = record { tree = fixed; told = told; base = (base, same) }
  done-tells false = record { tree = fixed; told = told; base = tt }

  closes-tells : (f : Option Report) → TellsStarted (closes g post t f).state
  closes-tells None = done-tells (is_buffering_inside t.state.object)
  closes-tells (Some report) = record { tree = base; told = sym same; base = tt }

opened-tells : (s : State) (g : Option Group) → s.group ≡ g → TellsStarted s
    → HasFixedUpdate (opened s).base × (is_updating (opened s).base ≡ is_some s.started)
opened-tells s None e tells = rw e (tells.tree, sym tells.told)
opened-tells s (Some g) e tells =
    rw e (subst (BaseTells s.started) e tells.base)

in_group-tells : (r : Running) (s : State) (post : Post) (ts : List Task) → All (λ t. IsMarked true t.work) ts
    → HasFixedUpdate s.tree → is_some s.started ≡ is_updating s.tree → HasFixedUpdate (opened s).base
    → is_updating (opened s).base ≡ is_some s.started → TellsStarted (in_group r s post ts).state
unfolding in_group
in_group-tells r s post ts all fixed told base same =
    let t = tried r s ts in
    let h = tried-tells r s ts all fixed told in
    closes-tells (opened s) post t h.fixed (ap is_some h.started ∙ told ∙ sym h.runs) base
    (same ∙ ap is_some (sym h.started)) t.failed

first-tells : (s : State) (b : Bool) → TellsStarted s → TellsStarted (cond b (quietly s) (break_group s)).state
first-tells s true tells = tells
first-tells s false tells = (group-tells s tells).0

atomically-tells : (r : Running) (s : State) (post : Post) (ts : List Task) → All (λ t. IsMarked true t.work) ts
    → TellsStarted s → TellsStarted (atomically r s post ts).state
unfolding atomically
atomically-tells r s post ts all tells =
    let b = join_or_break s ts in
    let first = first-tells s (joins s ts) tells in
    let open_ = opened-tells b.state b.state.group refl first in
    in_group-tells r (opens b.state) post ts all first.tree first.told open_.0 open_.1

-- ---- commands

member-tells : (r : Running) (origin : Origin) (s : State) (m : SeqMember) → TellsStarted s
    → TellsStarted (run_member r origin s m).state
member-tells r origin s (seq.Single m) tells = sequence-tells r s (member_tasks origin false m) tells
member-tells r origin s (seq.Atomic b) tells =
    atomically-tells r s (container_post origin b.id b.no_resp named.Atomic) (members_tasks origin true b.members)
    (members-marked origin true b.members) tells

members-tell : (r : Running) (origin : Origin) (s : State) (ms : List SeqMember) → TellsStarted s
    → TellsStarted (run_members r origin s ms).state
members-tell r origin s [] tells = tells
members-tell r origin s (m ∷ ms) tells =
    members-tell r origin (run_member r origin s m).state ms (member-tells r origin s m tells)

pub command_keeps : CommandKeepsTelling
unfolding run_command
command_keeps r origin s (commands.Plain command) tells = sequence-tells r s (plain_tasks origin false command) tells
command_keeps r origin s (commands.Alert alert) tells = sequence-tells r s (alert_task origin alert ∷ []) tells
command_keeps r origin s (commands.Atomic b) tells =
    atomically-tells r s (container_post origin b.id b.no_resp named.Atomic) (members_tasks origin true b.members)
    (members-marked origin true b.members) tells
command_keeps r origin s (commands.Sequence b) tells = members-tell r origin s b.members tells
command_keeps r origin s (commands.Status c) tells = tells
command_keeps r origin s (commands.Results c) tells = tells

still-tells : (s : State) (g : Option Group) → s.group ≡ g → TellsStarted s → TellsStarted (still_of s g).state
still-tells s None e tells = record { tree = tells.tree; told = tells.told; base = tells.base }
still-tells s (Some g) e tells = (break-tells s (Some g) e tells).0

committed-tells : (s : State) (g : Option Group) → s.group ≡ g → TellsStarted s
    → HasFixedUpdate (committed s) × (is_some s.started ≡ is_updating (committed s))
committed-tells s None e tells = rw e (tells.tree, tells.told)
committed-tells s (Some g) e tells =
    let base = subst (BaseTells s.started) e tells.base in
    rw e (base.0, sym base.1)

pub quiet_keeps : QuietKeepsTelling
unfolding still abandoned
quiet_keeps s tells =
    let given = committed-tells s s.group refl tells in
    (still-tells s s.group refl tells, record { tree = given.0; told = given.1; base = tt })

-- ---- where an engine begins

pub begins_telling : BeginsTelling
unfolding begun
begins_telling m formed order = record {
  tree = record { order = order; anchored = anchored_of m formed };
  told = begun_with_its_update m order;
  base = tt;
}

-- ---- a result

back_of : (ok : Bool) → digits_value 10 (decimal (after_result ok)) ≡ after_result ok
unfolding digits
back_of true = refl
back_of false = refl

five_of : (ok : Bool) → is_update_state (decimal (after_result ok)) ≡ true
unfolding digits
five_of true = refl
five_of false = refl

over_then : (ok : Bool) → (after_result ok == progressing) ≡ false
over_then true = refl
over_then false = refl

module _ (clock : Stamp) (m : Nodes) (p : Path) (has : HasUpdate m p) where
  packed_lasts : (ok : Bool) → Lasts m (packed clock m p has ok)
  packed_lasts false = lasts_itself m
  packed_lasts true =
      let is = node_of clock m p has (package_path clock m p has) has.data_node has.data_stands.there in
      changed_lasts m (package_path clock m p has) has.data_node
      (rewritten (asked_by [] clock) (node_at m (package_path clock m p has)) []) has.data_stands.there (record {
        interior = ap (λ (x : Node). x.interior) is;
        permanent = λ h. ap (λ (x : Node). x.permanent) is ∙ h;
        role = ap (λ (x : Node). x.role) is;
        state = λ h. absurd (let other : role.PkgData ≡ role.State = sym has.data_stands.role_is ∙ h in cc);
      }) (ap (λ (x : Node). x.permanent) is)

  packed_has : (ok : Bool) → HasUpdate (packed clock m p has ok) p
  packed_has ok = has_update StaysForUpdate (λ x y h. h) m (packed clock m p has ok) (packed_lasts ok).keeps p has

  abbrev ended_as : Bool → Nodes
  ended_as ok = with_state (asked_by [] clock) m (packed clock m p has ok) (after_result ok)

  same_end : (ok : Bool) → update_ended clock m ok ≡ ended_as ok
  same_end ok =
      ended clock m p has ok
      ∙ sym (ap (λ o. option_map_or (λ q. rewritten_at (asked_by [] clock) m (packed clock m p has ok) q
      (decimal (after_result ok))) o (packed clock m p has ok)) (update_is_found m p has).2)

  result_lasts : (ok : Bool) → Lasts m (update_ended clock m ok)
  result_lasts ok = subst (Lasts m) (sym (same_end ok))
      (lasts_then m (packed clock m p has ok) (ended_as ok) (packed_lasts ok)
      (led_lasts (asked_by [] clock) m (packed clock m p has ok) p has (packed_has ok) (ends.still clock m p has ok)
      (after_result ok) (back_of ok) (five_of ok)))

  result_over : (ok : Bool) → is_updating (update_ended clock m ok) ≡ false
  result_over ok =
      ap is_updating (same_end ok)
      ∙ ap (λ k. k == progressing) (written (asked_by [] clock) m (packed clock m p has ok) p has (packed_has ok)
      (ends.still clock m p has ok) (after_result ok) (back_of ok) (five_of ok))
      ∙ over_then ok

pub result_keeps : ResultKeepsTelling
result_keeps clock s ok tells running closed =
    let has = running_has s.tree tells.tree.order (runs s.tree running) in
    record {
      tree = fixed_then s.tree (update_ended clock s.tree ok) tells.tree (result_lasts clock s.tree has.0 has.1 ok);
      told = sym (result_over clock s.tree has.0 has.1 ok);
      base = subst (BaseTells None) (sym closed) tt;
    }
