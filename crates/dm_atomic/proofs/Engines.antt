-- What noted steps leave of an engine's group, and of its soundness.
use Rattle.std.proofs.Common.{◌≡◌, ℕ, ◌+◌, ◌-◌, ◌<◌, ◌≤◌, Bool, true, false, if◌then◌else◌, List, [], ◌∷◌, ◌++◌, length}
use Rattle.std.proofs.Common.{refl, sym, ◌∙◌, ap, subst, arith, Option, None, Some}
use Rattle.std.specs.Prelude.{Result, Ok, Err, IfOk, OnOk, OnErr, vec_len, vec_capacity}
use Rattle.std.specs.Global.{Vec}
use Rattle.std.proofs.lemmas.List.{append-nil}
use Rattle.syncml_types.specs.declared.command.Command.{Command}
use Rattle.dm_tree.specs.declared.rows.Row.{Row}
use Rattle.dm_tree.specs.declared.nodes.Stamp.{Stamp}
use Rattle.dm_tree.specs.Nodes.{Nodes, IsWellFormed}
use Rattle.dm_tree.specs.Rows.{Tree, nodes}
use Rattle.dm_tree.specs.Devices.{IsUpdateInOrder}
use Rattle.dm_undo.specs.declared.entries.Entry.{Entry}
use Rattle.dm_undo.specs.Journals.{Journal}
use Rattle.dm_undo.specs.Trees.{Maps, maps_of, tree_at}
use Rattle.dm_undo.specs.declared.entries.Entry.TheVariants.{Flipped}
use Rattle.dm_undo.specs.Entries.{AreAlike, AreRecords}
use Rattle.dm_undo.specs.Sound.{IsSound}
use Rattle.dm_undo.specs.Notes.{Notes}
use Rattle.dm_undo.proofs.Shapes.{alike_long}
use Rattle.dm_undo.proofs.Noted.{notes-none, notes-then, notes-plain, notes-held}
use Rattle.dm_objects.specs.declared.object.Object.{Object}
use Rattle.dm_objects.specs.declared.piece.Piece.{Piece}
use Rattle.dm_objects.specs.declared.piece.What.{What}
use Rattle.dm_objects.specs.declared.piece.What.TheVariants.{Whole, Buffered, Refused}
use Rattle.dm_objects.specs.Gathering.{gather}
use Rattle.dm_objects.specs.Seen.{Seen, present, holding, Takes}
use Rattle.syncml_types.specs.declared.command.Step.{Step}
use Rattle.dm_commands.specs.declared.outcome.Outcome.{Outcome}
use Rattle.dm_commands.specs.Outcomes.{Done, asked_by, Does}
use Rattle.dm_commands.specs.Table.{act}
use Rattle.dm_commands.specs.Promises.{StaysAsBefore}
use Rattle.dm_commands.proofs.Keeping.{step_keeps_update}
use Rattle.dm_atomic.specs.declared.tasks.Post.{Post}
use Rattle.dm_atomic.specs.declared.reports.Part.{Part}
use Rattle.dm_atomic.specs.declared.reports.Started.{Started}
use Rattle.dm_atomic.specs.declared.engine.Engine.{Engine}
use Rattle.dm_atomic.specs.declared.engine.EndedGroup.{EndedGroup}
use Rattle.dm_atomic.specs.declared.reports.Report.{Report}
use Rattle.dm_atomic.specs.Made.{told, notice}
use Rattle.dm_atomic.specs.Run.{State, Group, Running, Ran, step_ran, started_by, by_what, one_piece, opened, opens}
use Rattle.dm_atomic.specs.Engine.{group_of, state_of, running, CanRollBack, FitsObject, IsSoundEngine, Only, Acts}
use Rattle.dm_atomic.specs.Engine.{RunsStep, RunsTask}
use Rattle.dm_atomic.proofs.Gathers.{gather-fits, present-holding}

-- ---- the group, while edits are noted

base-stays : (old new : Journal) (before now : List Row) (mark : ℕ) → Notes old before new now
    → IsSound old.entries before → mark ≤ length old.entries
    → tree_at new.entries now mark ≡ tree_at old.entries before mark
base-stays old new before now mark n s h = (n.recalls s mark h).1

pub group-stays : (old new : Journal) (before now : List Row) (is_open : Bool) (mark : ℕ) (parts : List Part)
    → Notes old before new now → IsSound old.entries before → (is_open ≡ true → CanRollBack before old mark)
    → group_of now new.entries is_open mark parts ≡ group_of before old.entries is_open mark parts
group-stays old new before now true mark parts n s g =
    ap (λ (m : Maps). group m.nodes) (base-stays old new before now mark n s (g refl).held)
  where
    group : Nodes → Option Group
    group m = Some (record { base = m; parts = parts })
group-stays old new before now false mark parts n s g = refl

can-roll-back : (old new : Journal) (before now : List Row) (mark : ℕ) → Notes old before new now
    → IsSound old.entries before → CanRollBack before old mark → CanRollBack now new mark
can-roll-back old new before now mark n s g = record {
  held = notes-held old new before now mark n g.held;
  plain = notes-plain old new before now mark n g.held g.plain;
  spare = omega (arith, g.spare, n.spare);
  update = subst (λ (m : Maps). IsUpdateInOrder m.nodes) (sym (base-stays old new before now mark n s g.held)) g.update;
}

-- ---- soundness

pub sound-after : (e f : Engine) → IsSoundEngine e → Only e f → IsUpdateInOrder (nodes f.tree.rows)
    → FitsObject f.inbox.max_obj (present f.inbox.objects) → IsSoundEngine f
sound-after e f s o u fits = record {
  journal = o.notes.sound s.journal;
  spare = omega (arith, s.spare, o.notes.spare);
  update = u;
  max_obj = subst (λ n. n ≤ 4194304) (sym o.max_obj) s.max_obj;
  object = fits;
  group = λ opened. subst (CanRollBack f.tree.rows f.journal) (sym o.mark)
      (can-roll-back e.journal f.journal e.tree.rows f.tree.rows e.mark o.notes s.journal
      (s.group (sym o.is_open ∙ opened)));
  ended = λ opened. subst (λ (v : Vec EndedGroup). vec_len v < vec_capacity v) (sym o.ended)
      (s.ended (sym o.is_open ∙ opened));
  closed = λ off. o.parts ∙ s.closed (sym o.is_open ∙ off);
}

-- another object is the present one
pub sound-holding : (e f : Engine) (next : Object) → IsSoundEngine e → f ≡ record e { inbox = holding e.inbox next }
    → FitsObject e.inbox.max_obj next → IsSoundEngine f
sound-holding e f next s is fits = subst IsSoundEngine (sym is) (record {
  journal = s.journal;
  spare = s.spare;
  update = s.update;
  max_obj = s.max_obj;
  object = subst (FitsObject e.inbox.max_obj) (sym (present-holding e.inbox.objects next)) fits;
  group = s.group;
  ended = s.ended;
  closed = s.closed;
})

pub only_then : (a b c : Engine) → Only a b → Only b c → Only a c
only_then a b c h k = record {
  is_open = k.is_open ∙ h.is_open;
  mark = k.mark ∙ h.mark;
  parts = k.parts ∙ h.parts;
  ended = k.ended ∙ h.ended;
  max_obj = k.max_obj ∙ h.max_obj;
  clock = k.clock ∙ h.clock;
  notes = notes-then a.journal b.journal c.journal a.tree.rows b.tree.rows c.tree.rows h.notes k.notes;
}

pub notes-as-before : (old new : Journal) (before now : Tree) → StaysAsBefore old before new now
    → Notes old before.rows new now.rows
notes-as-before old new before now s =
    notes-none old new before.rows now.rows s.entries s.room (ap (λ (t : Tree). t.rows) s.tree)

-- ---- a whole step

abbrev one : Nodes → Object → Option Group → Option Started → State
one t o g a = record { tree = t; object = o; group = g; started = a }

same-state : (t u : Nodes) (o : Object) (g h : Option Group) (a b : Option Started) → t ≡ u → g ≡ h → a ≡ b
    → one t o g a ≡ one u o h b
same-state t u o g h a b e f k = ap (λ x. one x o g a) e ∙ ap (λ x. one u o x a) f ∙ ap (λ x. one u o h x) k

pub stepped : (e m f : Engine) (caller : List ℕ) (post : Post) (step : Step) (outcome : Outcome) → IsSoundEngine e
    → Only e m → Acts e m caller step outcome
    → f ≡ record m { started = if outcome.started then Some (started_by step) else m.started; starts = f.starts }
    → state_of f ≡ (step_ran (running e caller) (state_of e) post None step).state
stepped e m f caller post step outcome s o d is =
    ap state_of is
    ∙ ap (λ (x : Seen). one (nodes m.tree.rows) (present x.objects)
    (group_of m.tree.rows m.journal.entries m.is_open m.mark m.parts)
    (if outcome.started then Some (started_by step) else m.started)) d.inbox
    ∙ same-state (nodes m.tree.rows) done.tree (present e.inbox.objects)
    (group_of m.tree.rows m.journal.entries m.is_open m.mark m.parts)
    (group_of e.tree.rows e.journal.entries e.is_open e.mark e.parts)
    (if outcome.started then Some (started_by step) else m.started)
    (if done.started then Some (started_by step) else e.started) d.does.tree
    (rw (o.is_open, o.mark, o.parts)
    (group-stays e.journal m.journal e.tree.rows m.tree.rows e.is_open e.mark e.parts o.notes s.journal s.group))
    (ap (λ x. if outcome.started then Some (started_by step) else x) d.started
    ∙ ap (λ x. if x then Some (started_by step) else e.started) d.does.started)
  where
    done : Done
    done = act (asked_by caller e.tree.clock) (nodes e.tree.rows) step

pub acted-sound : (e f : Engine) (caller : List ℕ) (step : Step) (outcome : Outcome) → IsSoundEngine e → Only e f
    → IsWellFormed (nodes e.tree.rows)
    → Does (act (asked_by caller e.tree.clock) (nodes e.tree.rows) step) outcome (nodes f.tree.rows)
    → f.inbox ≡ e.inbox → IsSoundEngine f
acted-sound e f caller step outcome s o w d i =
    sound-after e f s o
    (subst IsUpdateInOrder (sym d.tree)
    (step_keeps_update (asked_by caller e.tree.clock) (nodes e.tree.rows) step w s.update))
    (subst (λ (x : Seen). FitsObject x.max_obj (present x.objects)) (sym i) s.object)

pub only-acted : (e : Engine) (tree : Tree) (journal : Journal)
    → Notes e.journal e.tree.rows journal tree.rows → tree.clock ≡ e.tree.clock
    → Only e (record e { tree = tree; journal = journal })
only-acted e tree journal n c =
    record { is_open = refl; mark = refl; parts = refl; ended = refl; max_obj = refl; clock = c; notes = n }

pub sound-as-before : (e : Engine) (tree : Tree) (journal : Journal) → IsSoundEngine e
    → StaysAsBefore e.journal e.tree journal tree → tree.clock ≡ e.tree.clock
    → IsSoundEngine (record e { tree = tree; journal = journal })
sound-as-before e tree journal s b c =
    sound-after e (record e { tree = tree; journal = journal }) s
    (only-acted e tree journal (notes-as-before e.journal journal e.tree tree b) c)
    (subst (λ (t : Tree). IsUpdateInOrder (nodes t.rows)) (sym b.tree) s.update) s.object

-- what was started is no part of it
pub started_sound : (e f : Engine) (started : Option Started) → IsSoundEngine e
    → f ≡ record e { started = started; starts = f.starts } → IsSoundEngine f
started_sound e f started s is = subst IsSoundEngine (sym is) (record {
  journal = s.journal;
  spare = s.spare;
  update = s.update;
  max_obj = s.max_obj;
  object = s.object;
  group = s.group;
  ended = s.ended;
  closed = s.closed;
})

pub started_only : (e f : Engine) (started : Option Started) → f ≡ record e { started = started; starts = f.starts }
    → Only e f
started_only e f started is = subst (Only e) (sym is) (record {
  is_open = refl;
  mark = refl;
  parts = refl;
  ended = refl;
  max_obj = refl;
  clock = refl;
  notes = notes-none e.journal e.journal e.tree.rows e.tree.rows refl (omega arith) refl;
})

pub room_sound : (e : Engine) (starts : Vec (Option Started)) → IsSoundEngine e
    → IsSoundEngine (record e { starts = starts })
room_sound e starts s = started_sound e (record e { starts = starts }) e.started s refl

pub room_only : (e : Engine) (starts : Vec (Option Started)) → Only e (record e { starts = starts })
room_only e starts = started_only e (record e { starts = starts }) e.started refl

pub gathered-sound : (e : Engine) (i : Seen) (piece : Piece) → IsSoundEngine e
    → i ≡ holding e.inbox (gather e.inbox.max_obj (present e.inbox.objects) piece).object
    → IsSoundEngine (record e { inbox = i })
gathered-sound e i piece s is =
    sound-holding e (record e { inbox = i }) (gather e.inbox.max_obj (present e.inbox.objects) piece).object s
    (ap (λ (x : Seen). record e { inbox = x }) is)
    (gather-fits e.inbox.max_obj (present e.inbox.objects) piece s.object)

pub acted_notes : {X E : Type 0} (r : Result X E) (old new : Journal) (before now : Tree)
    → OnOk r (Notes old before.rows new now.rows) → OnErr r (StaysAsBefore old before new now)
    → Notes old before.rows new now.rows
acted_notes (Ok x) old new before now n b = n
acted_notes (Err x) old new before now n b = notes-as-before old new before now b

pub acted_sound : {E : Type 0} (r : Result Outcome E) (e : Engine) (tree : Tree) (journal : Journal) (caller : List ℕ)
    (step : Step) → IsSoundEngine e → IsWellFormed (nodes e.tree.rows)
    → IfOk r (λ outcome. Does (act (asked_by caller e.tree.clock) (nodes e.tree.rows) step) outcome (nodes tree.rows))
    → Only e (record e { tree = tree; journal = journal })
    → OnErr r (StaysAsBefore e.journal e.tree journal tree) → tree.clock ≡ e.tree.clock
    → IsSoundEngine (record e { tree = tree; journal = journal })
acted_sound (Ok outcome) e tree journal caller step s w d o b c =
    acted-sound e (record e { tree = tree; journal = journal }) caller step outcome s o w d refl
acted_sound (Err x) e tree journal caller step s w d o b c = sound-as-before e tree journal s b c

-- ---- a piece

by-what-same : (r : Running) (s : State) (post : Post) (b : Option (List ℕ)) (w : What)
    → ((by_what r s post b w).state ≡ (by_what r s post None w).state)
    × (((by_what r s post b w).report ≡ (by_what r s post None w).report) × ((by_what r s post b w).broken ≡ b))
by-what-same r s post b (Whole step) = (refl, (refl, refl))
by-what-same r s post b Buffered = (refl, (refl, refl))
by-what-same r s post b (Refused code) = (refl, (refl, refl))

pub pieced : (e m : Engine) (caller : List ℕ) (post : Post) (piece : Piece) (what : What) (s : State) (report : Report)
    (before after : List Command)
    → m ≡ record e { inbox = holding e.inbox (gather e.inbox.max_obj (present e.inbox.objects) piece).object }
    → what ≡ (gather e.inbox.max_obj (present e.inbox.objects) piece).what
    → after ≡ before ++ told (notice (gather e.inbox.max_obj (present e.inbox.objects) piece).broken)
    → RunsStep (by_what (running m caller) (state_of m) post None what) s report
    → RunsTask (one_piece (running e caller) (state_of e) post piece) s report before after
pieced e m caller post piece what s report before after is w t c =
    let g = gather e.inbox.max_obj (present e.inbox.objects) piece in
    let r = running e caller in
    let same = by-what-same r (behind g.object) post g.broken g.what in
    let q : by_what (running m caller) (state_of m) post None what ≡ by_what r (behind g.object) post None g.what =
    ap (λ (x : Engine). by_what (running x caller) (state_of x) post None what) is
    ∙ ap (λ o. by_what r (behind o) post None what) (present-holding e.inbox.objects g.object)
    ∙ ap (by_what r (behind g.object) post None) w in
    record {
      state_is = c.state_is ∙ ap (λ (x : Ran). x.state) q ∙ sym same.0;
      report_is = c.report_is ∙ ap (λ (x : Ran). x.report) q ∙ sym same.1.0;
      told_is = t ∙ ap (λ b. before ++ told (notice b)) (sym same.1.1);
    }
  where
    behind : Object → State
    behind o = record (state_of e) { object = o }

-- ---- a group that ends

pub closed_state : (e f : Engine) → f ≡ record e { is_open = false; parts = f.parts; ended = f.ended }
    → state_of f ≡ record (state_of e) { group = None }
closed_state e f is = ap state_of is

pub closed_sound : (e f : Engine) → f ≡ record e { is_open = false; parts = f.parts; ended = f.ended }
    → f.parts ≡ [] → IsSoundEngine e → IsSoundEngine f
closed_sound e f is empty s = subst IsSoundEngine (sym is) (record {
  journal = s.journal;
  spare = s.spare;
  update = s.update;
  max_obj = s.max_obj;
  object = s.object;
  group = λ x. absurd (cc);
  ended = λ x. absurd (cc);
  closed = λ x. empty;
})

abbrev rolled : Engine → Engine → Tree → Journal → Type 0
rolled e f tree journal =
    f ≡ record e { tree = tree; journal = journal; is_open = false; parts = f.parts; ended = f.ended }

pub rolled_state : (e f : Engine) (tree : Tree) (journal : Journal) → e.is_open ≡ true
    → maps_of tree.rows ≡ tree_at e.journal.entries e.tree.rows e.mark → rolled e f tree journal
    → state_of f ≡ record (state_of e) { tree = (opened (state_of e)).base; group = None }
rolled_state e f tree journal o there is = ap state_of is ∙ rw o (ap (λ (m : Maps). closed m.nodes) there)
  where
    closed : Nodes → State
    closed t = record (state_of e) { tree = t; group = None }

pub rolled_sound : (e f : Engine) (tree : Tree) (journal : Journal) (c : ℕ) → e.is_open ≡ true
    → IsSoundEngine e → IsSound journal.entries tree.rows
    → maps_of tree.rows ≡ tree_at e.journal.entries e.tree.rows e.mark
    → AreAlike (Flipped c ∷ e.journal.entries) journal.entries → journal.room ≡ e.journal.room
    → rolled e f tree journal → f.parts ≡ [] → IsSoundEngine f
rolled_sound e f tree journal c o s j there alike room is empty = subst IsSoundEngine (sym is) (record {
  journal = j;
  spare = omega (arith, (s.group o).spare, room, alike_long (Flipped c ∷ e.journal.entries) journal.entries alike);
  update = subst (λ (m : Maps). IsUpdateInOrder m.nodes) (sym there) (s.group o).update;
  max_obj = s.max_obj;
  object = s.object;
  group = λ x. absurd (cc);
  ended = λ x. absurd (cc);
  closed = λ x. empty;
})

-- the parts of an open group are no part of it
pub part_sound : (e : Engine) (parts : List Part) → IsSoundEngine e → e.is_open ≡ true
    → IsSoundEngine (record e { parts = parts })
part_sound e parts s o = record {
  journal = s.journal;
  spare = s.spare;
  update = s.update;
  max_obj = s.max_obj;
  object = s.object;
  group = s.group;
  ended = s.ended;
  closed = λ x. absurd (cc);
}

-- ---- a group that opens

pub opened_state : (e : Engine) (journal : Journal) (ended : Vec EndedGroup) (mark : ℕ) (none : List Part)
    → e.is_open ≡ false → tree_at journal.entries e.tree.rows mark ≡ maps_of e.tree.rows → none ≡ []
    → state_of (record e { journal = journal; is_open = true; mark = mark; parts = none; ended = ended })
    ≡ opens (state_of e)
opened_state e journal ended mark none o there n = rw (o, n) (ap (λ (m : Maps). over m.nodes) there)
  where
    over : Nodes → State
    over t = record (state_of e) { group = Some (record { base = t; parts = [] }) }

pub opened_sound : (e : Engine) (journal : Journal) (ended : Vec EndedGroup) (mark : ℕ) (none : List Part)
    → IsSoundEngine e → journal.entries ≡ e.journal.entries → length journal.entries + 2 ≤ journal.room
    → vec_len ended + 1 ≤ vec_capacity ended → mark ≡ length journal.entries
    → tree_at journal.entries e.tree.rows mark ≡ maps_of e.tree.rows
    → IsSoundEngine (record e { journal = journal; is_open = true; mark = mark; parts = none; ended = ended })
opened_sound e journal ended mark none s same room more place there = record {
  journal = subst (λ l. IsSound l e.tree.rows) (sym same) s.journal;
  spare = omega (arith, room);
  update = s.update;
  max_obj = s.max_obj;
  object = s.object;
  group = λ x. record {
    held = omega (arith, place);
    plain =
        let none_since : 0 ≡ length journal.entries - mark = omega (arith, place) in
        subst (λ n. AreRecords n journal.entries) none_since tt;
    spare = omega (arith, room);
    update = subst (λ (m : Maps). IsUpdateInOrder m.nodes) (sym there) s.update;
  };
  ended = λ x. omega (arith, more);
  closed = λ x. absurd (cc);
}

pub reserved_sound : (e : Engine) (journal : Journal) (ended : Vec EndedGroup) → IsSoundEngine e → e.is_open ≡ false
    → journal.entries ≡ e.journal.entries → e.journal.room ≤ journal.room
    → IsSoundEngine (record e { journal = journal; ended = ended })
reserved_sound e journal ended s o same room = record {
  journal = subst (λ l. IsSound l e.tree.rows) (sym same) s.journal;
  spare = omega (arith, s.spare, room, ap length same);
  update = s.update;
  max_obj = s.max_obj;
  object = s.object;
  group = λ x. absurd (cc);
  ended = λ x. absurd (cc);
  closed = s.closed;
}

pub reserved_state : (e : Engine) (journal : Journal) (ended : Vec EndedGroup) → journal.entries ≡ e.journal.entries
    → state_of (record e { journal = journal; ended = ended }) ≡ state_of e
reserved_state e journal ended same = ap over same
  where
    over : List Entry → State
    over l = record (state_of e) { group = group_of e.tree.rows l e.is_open e.mark e.parts }

pub pieced_ok : {E : Type 0} (result : Result Report E) (e m : Engine) (caller : List ℕ) (post : Post) (piece : Piece)
    (what : What) (s : State) (before after : List Command)
    → m ≡ record e { inbox = holding e.inbox (gather e.inbox.max_obj (present e.inbox.objects) piece).object }
    → what ≡ (gather e.inbox.max_obj (present e.inbox.objects) piece).what
    → after ≡ before ++ told (notice (gather e.inbox.max_obj (present e.inbox.objects) piece).broken)
    → IfOk result (λ report. RunsStep (by_what (running m caller) (state_of m) post None what) s report)
    → IfOk result (λ report. RunsTask (one_piece (running e caller) (state_of e) post piece) s report before after)
pieced_ok (Ok report) e m caller post piece what s before after is w t c =
    pieced e m caller post piece what s report before after is w t c
pieced_ok (Err x) e m caller post piece what s before after is w t c = c

-- a piece that is a whole step as it stands is run as it stands
pub passed_ok : {E : Type 0} (result : Result Report E) (e : Engine) (caller : List ℕ) (post : Post) (piece : Piece)
    (s : State) (out : List Command) → Takes e.inbox e.inbox piece (record { broken = None; what = Whole piece.step })
    → IfOk result (λ report. RunsStep (step_ran (running e caller) (state_of e) post None piece.step) s report)
    → IfOk result (λ report. RunsTask (one_piece (running e caller) (state_of e) post piece) s report out out)
passed_ok result e caller post piece s out t c =
    pieced_ok result e e caller post piece (Whole piece.step) s out out (ap (λ i. record e { inbox = i }) t.now) t.what
    (sym (append-nil out) ∙ ap (λ b. out ++ told (notice b)) t.broken) c

-- the clock is no part of it
pub clocked_sound : (e : Engine) (tree : Tree) (clock : Stamp) → IsSoundEngine e
    → tree ≡ record e.tree { clock = clock }
    → IsSoundEngine (record e { tree = tree })
clocked_sound e tree clock s is = subst (λ (t : Tree). IsSoundEngine (record e { tree = t })) (sym is) (record {
  journal = s.journal;
  spare = s.spare;
  update = s.update;
  max_obj = s.max_obj;
  object = s.object;
  group = s.group;
  ended = s.ended;
  closed = s.closed;
})

-- a group is opened
pub ruleset opening = (opened_state, opened_sound, reserved_sound, reserved_state)

-- an update is started, where there is room for it
pub ruleset starting = (room_sound, room_only, started_sound, started_only, only_then)
