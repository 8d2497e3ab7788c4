-- A group is open exactly while an object that was begun in an Atomic is being buffered.
use Rattle.std.proofs.Common.{◌≡◌, ℕ, ◌+◌, Bool, true, false, cond, List, [], ◌∷◌, length, Option, None, Some, refl}
use Rattle.std.proofs.Common.{sym, ◌∙◌, ap, subst}
use Rattle.std.specs.Prelude.{⊤, ◌&&◌, ◌==◌, not, nat_lt, is_some, All}
use Rattle.std.proofs.lemmas.Bool.{and_parts}
use Rattle.std.proofs.lemmas.List.Elements.{All-head, All-tail}
use Rattle.syncml_types.specs.declared.command.SeqMember.{SeqMember}
use Rattle.syncml_types.specs.declared.command.SeqMember.TheVariants as seq
use Rattle.syncml_types.specs.declared.command.Command.TheVariants as commands
use Rattle.syncml_types.specs.Verbs.{is_write}
use Rattle.dm_objects.specs.declared.object.Key.{Key}
use Rattle.dm_objects.specs.declared.object.Begun.{Begun}
use Rattle.dm_objects.specs.declared.object.Object.{Object}
use Rattle.dm_objects.specs.declared.object.Object.TheVariants.{Nothing, Buffering, Skipping}
use Rattle.dm_objects.specs.declared.piece.Piece.{Piece}
use Rattle.dm_objects.specs.declared.piece.What.{What}
use Rattle.dm_objects.specs.declared.piece.What.TheVariants.{Whole, Buffered, Refused}
use Rattle.dm_objects.specs.Gathering.{Came, key_of, verb_number, is_same_text, is_same_place, is_same_key, continues}
use Rattle.dm_objects.specs.Gathering.{first_of_several, next_piece, write_piece, by_rules, gather}
use Rattle.dm_atomic.specs.declared.tasks.Named.TheVariants as named
use Rattle.dm_atomic.specs.declared.tasks.Origin.{Origin}
use Rattle.dm_atomic.specs.declared.tasks.Post.{Post}
use Rattle.dm_atomic.specs.declared.tasks.Task.{Task}
use Rattle.dm_atomic.specs.declared.tasks.Work.{Work}
use Rattle.dm_atomic.specs.declared.tasks.Work.TheVariants as work
use Rattle.dm_atomic.specs.declared.reports.Report.{Report}
use Rattle.dm_atomic.specs.Tasks.{plain_tasks, alert_task, member_tasks, members_tasks, container_post}
use Rattle.dm_atomic.specs.Run.{State, Group, Running, Tried, by_what, by_work, one_step, break_group, breaks_first}
use Rattle.dm_atomic.specs.Run.{one_alone, in_sequence, tried, left_by, left_object, opened, opens, closes, in_group}
use Rattle.dm_atomic.specs.Run.{join_or_break, atomically, run_member, run_members, run_command, still, still_of}
use Rattle.dm_atomic.specs.Run.{abandoned}
use Rattle.dm_objects.specs.Inside.{is_buffering_inside, stays}
use Rattle.dm_atomic.specs.Laws.{IsMarked, IsOpenForObject, EndsBoth, CommandKeepsOpen, QuietEndsBoth}
use Rattle.dm_atomic.proofs.Insides.{plain-marked, alert-marked, member-marked}
use Rattle.dm_atomic.proofs.OneStatus.{one_step-steps}
use Rattle.dm_atomic.proofs.Restores.{broken_restores}

-- ---- what gathering buffers has the mark of the piece

abbrev HasMark : Bool → Object → Type 0
HasMark b (Buffering begun) = begun.key.in_atomic ≡ b
HasMark b Nothing = ⊤
HasMark b (Skipping key code) = ⊤

same_place : (a b : Bool) → is_same_place a b ≡ true → a ≡ b
same_place true true e = refl
same_place true false e = absurd (cc)
same_place false true e = absurd (cc)
same_place false false e = refl

same_key : (k o : Key) → is_same_key k o ≡ true → k.in_atomic ≡ o.in_atomic
same_key k o e =
    let same = verb_number k.verb == verb_number o.verb && is_same_text k.target o.target in
    let parts = and_parts same (is_same_place k.in_atomic o.in_atomic) e in
    same_place k.in_atomic o.in_atomic parts.1

continued-mark : (object : Object) (piece : Piece) (b : Bool) → continues object piece ≡ b
    → HasMark piece.step.in_atomic (cond b object Nothing)
continued-mark object piece false e = tt
continued-mark Nothing piece true e = tt
continued-mark (Skipping key code) piece true e = tt
continued-mark (Buffering begun) piece true e = same_key begun.key (key_of piece.step) e

mark-cond : (i b : Bool) (c d : Came) → HasMark i c.object → HasMark i d.object → HasMark i (cond b c d).object
mark-cond i true c d h k = h
mark-cond i false c d h k = k

mark-object : (i b : Bool) (c d : Object) → HasMark i c → HasMark i d → HasMark i (cond b c d)
mark-object i true c d h k = h
mark-object i false c d h k = k

first-mark : (max : ℕ) (piece : Piece) (size : Option ℕ)
    → HasMark piece.step.in_atomic (first_of_several max piece size).object
first-mark max piece None = tt
first-mark max piece (Some size) =
    mark-cond piece.step.in_atomic (nat_lt max size) _ _ tt
    (mark-cond piece.step.in_atomic (nat_lt size (length piece.step.value)) _ _ tt refl)

next-mark : (begun : Begun) (piece : Piece) → begun.key.in_atomic ≡ piece.step.in_atomic
    → HasMark piece.step.in_atomic (next_piece begun piece).object
next-mark begun piece e =
    let i = piece.step.in_atomic in
    let total = length begun.value + length piece.step.value in
    mark-cond i (nat_lt begun.size total) _ _ (mark-object i piece.more (Skipping begun.key 424) Nothing tt tt)
    (mark-cond i piece.more _ _ e (mark-cond i (total == begun.size) _ _ tt tt))

write-mark : (max : ℕ) (object : Object) (piece : Piece) → HasMark piece.step.in_atomic object
    → HasMark piece.step.in_atomic (write_piece max object piece).object
write-mark max Nothing piece h =
    mark-cond piece.step.in_atomic piece.more _ _ (first-mark max piece piece.size)
    (mark-cond piece.step.in_atomic (nat_lt max (length piece.step.value)) _ _ tt tt)
write-mark max (Buffering begun) piece h = next-mark begun piece h
write-mark max (Skipping key code) piece h =
    mark-object piece.step.in_atomic piece.more (Skipping key code) Nothing tt tt

rules-mark : (max : ℕ) (object : Object) (piece : Piece) → HasMark piece.step.in_atomic object
    → HasMark piece.step.in_atomic (by_rules max object piece).object
rules-mark max object piece h =
    let i = piece.step.in_atomic in
    mark-cond i (not (is_write piece.step.verb)) _ _ h
    (mark-cond i (piece.more && not (is_some piece.step.target)) _ _ h (write-mark max object piece h))

gather-mark : (max : ℕ) (object : Object) (piece : Piece)
    → HasMark piece.step.in_atomic (gather max object piece).object
unfolding gather
gather-mark max object piece =
    rules-mark max (cond (continues object piece) object Nothing) piece
    (continued-mark object piece (continues object piece) refl)

outside : (object : Object) → HasMark false object → is_buffering_inside object ≡ false
outside (Buffering begun) h = h
outside Nothing h = refl
outside (Skipping key code) h = refl

-- ---- tasks outside an Atomic

what-object : (r : Running) (s : State) (post : Post) (broken : Option (List ℕ)) (w : What)
    → (by_what r s post broken w).state.object ≡ s.object
what-object r s post broken (Whole step) = refl
what-object r s post broken Buffered = refl
what-object r s post broken (Refused code) = refl

-- a step of a verb outside, where no group is open
piece-outside : (r : Running) (s : State) (t : Task) (piece : Piece) → piece.step.in_atomic ≡ false
    → is_buffering_inside (by_work r s t.post (work.Piece piece)).state.object ≡ false
piece-outside r s t piece mark =
    let g = gather r.max_obj s.object piece in
    ap is_buffering_inside (what-object r (record s { object = g.object }) t.post g.broken g.what)
    ∙ outside g.object (subst (λ b. HasMark b g.object) mark (gather-mark r.max_obj s.object piece))

alone-work : (r : Running) (s : State) (t : Task) (w : Work) → t.work ≡ w → IsMarked false w → IsOpenForObject s
    → IsOpenForObject (one_alone r s t).state
unfolding one_step
alone-work r s t (work.Piece piece) e mark h =
    let b = break_group s in
    let group : (one_alone r s t).state.group ≡ None =
    (one_step-steps r (breaks_first s t.work).state t).group
    ∙ ap (λ w. (breaks_first s w).state.group) e ∙ (broken_restores s).1 in
    let object : is_buffering_inside (one_alone r s t).state.object ≡ false =
    ap (λ w. is_buffering_inside (by_work r (breaks_first s w).state t.post w).state.object) e
    ∙ piece-outside r b.state t piece mark in
    ap is_some group ∙ sym object
alone-work r s t (work.Alert code) e mark h =
    subst (λ w. IsOpenForObject (by_work r (breaks_first s w).state t.post w).state) (sym e) h

in-sequence : (r : Running) (s : State) (ts : List Task) → All (λ t. IsMarked false t.work) ts → IsOpenForObject s
    → IsOpenForObject (in_sequence r s ts).state
in-sequence r s [] all h = h
in-sequence r s (t ∷ ts) all h =
    in-sequence r (one_alone r s t).state ts (All-tail (λ t. IsMarked false t.work) t ts all)
    (alone-work r s t t.work refl (All-head (λ t. IsMarked false t.work) t ts all) h)

-- ---- an Atomic

stays-outside : (object : Object) → is_buffering_inside (stays object) ≡ false
stays-outside Nothing = refl
stays-outside (Skipping key code) = refl
stays-outside (Buffering begun) = by_mark begun.key.in_atomic refl
  where
    by_mark : (b : Bool) → begun.key.in_atomic ≡ b
        → is_buffering_inside (cond b (Skipping begun.key 500) (Buffering begun)) ≡ false
    by_mark true e = refl
    by_mark false e = e

left-cond : (object : Object) (piece : Piece) (b : Bool) → is_buffering_inside object ≡ false
    → is_buffering_inside (cond b (Skipping (key_of piece.step) 500) object) ≡ false
left-cond object piece true h = refl
left-cond object piece false h = h

left-work : (object : Object) (w : Work) → is_buffering_inside object ≡ false
    → is_buffering_inside (left_by object w) ≡ false
left-work object (work.Piece piece) h = left-cond object piece piece.more h
left-work object (work.Alert code) h = h

left-outside : (object : Object) (ts : List Task) → is_buffering_inside object ≡ false
    → is_buffering_inside (left_object object ts) ≡ false
left-outside object [] h = h
left-outside object (t ∷ ts) h = left-outside (left_by object t.work) ts (left-work object t.work h)

closes-open : (g : Group) (post : Post) (t : Tried) (f : Option Report) (inside : Bool)
    → is_buffering_inside t.state.object ≡ inside
    → IsOpenForObject (closes g post t f).state
closes-open g post t None true e = rw e (sym e)
closes-open g post t None false e = rw e (sym e)
closes-open g post t (Some report) inside e =
    sym (left-outside (stays t.state.object) t.unrun (stays-outside t.state.object))

group-open : (r : Running) (s : State) (post : Post) (ts : List Task) → IsOpenForObject (in_group r s post ts).state
unfolding in_group
group-open r s post ts =
    let t = tried r s ts in
    closes-open (opened s) post t t.failed (is_buffering_inside t.state.object) refl

atomically-open : (r : Running) (s : State) (post : Post) (ts : List Task)
    → IsOpenForObject (atomically r s post ts).state
unfolding atomically
atomically-open r s post ts = group-open r (opens (join_or_break s ts).state) post ts

-- ---- commands

member-open : (r : Running) (origin : Origin) (s : State) (m : SeqMember) → IsOpenForObject s
    → IsOpenForObject (run_member r origin s m).state
member-open r origin s (seq.Single m) h = in-sequence r s (member_tasks origin false m) (member-marked origin false m) h
member-open r origin s (seq.Atomic b) h =
    atomically-open r s (container_post origin b.id b.no_resp named.Atomic) (members_tasks origin true b.members)

members-open : (r : Running) (origin : Origin) (s : State) (ms : List SeqMember) → IsOpenForObject s
    → IsOpenForObject (run_members r origin s ms).state
members-open r origin s [] h = h
members-open r origin s (m ∷ ms) h =
    members-open r origin (run_member r origin s m).state ms (member-open r origin s m h)

pub command_open : CommandKeepsOpen
unfolding run_command
command_open r origin s (commands.Plain command) h =
    in-sequence r s (plain_tasks origin false command) (plain-marked origin false command) h
command_open r origin s (commands.Alert alert) h =
    in-sequence r s (alert_task origin alert ∷ []) (alert-marked origin false alert) h
command_open r origin s (commands.Atomic b) h =
    atomically-open r s (container_post origin b.id b.no_resp named.Atomic) (members_tasks origin true b.members)
command_open r origin s (commands.Sequence b) h = members-open r origin s b.members h
command_open r origin s (commands.Status c) h = h
command_open r origin s (commands.Results c) h = h

still-ends : (s : State) (g : Option Group) → s.group ≡ g → EndsBoth (still_of s g).state
still-ends s None e = (e, refl)
still-ends s (Some g) e = (refl, refl)

pub quiet_ends_both : QuietEndsBoth
unfolding still abandoned
quiet_ends_both s = (still-ends s s.group refl, (refl, refl))
