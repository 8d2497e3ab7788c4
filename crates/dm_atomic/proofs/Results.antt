-- What an engine is where it begins, and after the result of its update.
use Rattle.std.proofs.Common.{◌≡◌, ℕ, ◌+◌, ◌-◌, ◌≤◌, Bool, true, false, List, [], ◌∷◌, ◌++◌, length, sym, ◌∙◌, ap}
use Rattle.std.proofs.Common.{subst, arith, Option, None}
use Rattle.std.specs.Global.{Vec}
use Rattle.dm_tree.specs.declared.rows.Row.{Row}
use Rattle.dm_tree.specs.Nodes.{Nodes}
use Rattle.dm_tree.specs.Rows.{Tree, nodes}
use Rattle.dm_tree.specs.Devices.{IsUpdateInOrder}
use Rattle.dm_undo.specs.declared.entries.Entry.{Entry}
use Rattle.dm_undo.specs.Journals.{Journal}
use Rattle.dm_undo.specs.Notes.{Notes}
use Rattle.dm_undo.specs.Sound.{IsSound}
use Rattle.dm_objects.specs.declared.object.Object.{Object}
use Rattle.dm_objects.specs.declared.object.Object.TheVariants.{Nothing}
use Rattle.dm_objects.specs.Seen.{Seen, present}
use Rattle.dm_commands.specs.Promises.{StaysAsBefore}
use Rattle.dm_commands.specs.Updates.{update_ended}
use Rattle.dm_atomic.specs.declared.reports.Started.{Started}
use Rattle.dm_atomic.specs.declared.engine.Engine.{Engine}
use Rattle.dm_atomic.specs.Run.{State, Group}
use Rattle.dm_atomic.specs.Engine.{group_of, state_of, FitsObject, IsSoundEngine}
use Rattle.dm_atomic.specs.Marks.{no_past, Holds}
use Rattle.dm_atomic.specs.Updates.{clock_of, is_updating, update_of, begun, update_finished}
use Rattle.dm_atomic.proofs.Engines.{group-stays, only-acted, sound-after, sound-as-before, notes-as-before}
use Rattle.dm_atomic.proofs.Engines.{started_sound, room_sound}
use Rattle.dm_atomic.proofs.Held.{past, same-past, holds_then, holds_room, holds_noted, holds_started}
use Rattle.dm_atomic.proofs.UpdateEnds.{ended_in_order}

-- ---- a new engine

pub begun_state : (m : Nodes) (i : Seen) (max : ℕ) (started : Option Started)
    → i ≡ record { max_obj = max; objects = Nothing ∷ [] } → started ≡ update_of m
    → record { tree = m; object = present i.objects; group = None; started = started } ≡ begun m
unfolding begun
begun_state m i max started is told = ap (λ (x : Seen). over (present x.objects) started) is ∙ ap (over Nothing) told
  where
    over : Object → Option Started → State
    over o s = record { tree = m; object = o; group = None; started = s }

pub begun_past : (es : List Entry) (i : Seen) (max starts groups : ℕ) → es ≡ []
    → i ≡ record { max_obj = max; objects = Nothing ∷ [] } → starts ≡ 0 → groups ≡ 0
    → past (length es) (length i.objects - 1) starts groups ≡ no_past
begun_past es i max starts groups none is no_starts no_groups =
    same-past _ 0 _ 0 _ 0 _ 0 (ap length none) (omega (arith, ap (λ (x : Seen). length x.objects) is)) no_starts
    no_groups

pub begun_sound : (f : Engine) (max : ℕ) → f.is_open ≡ false → f.parts ≡ [] → IsSound f.journal.entries f.tree.rows
    → length f.journal.entries + 1 ≤ f.journal.room → IsUpdateInOrder (nodes f.tree.rows) → max ≤ 4194304
    → f.inbox ≡ record { max_obj = max; objects = Nothing ∷ [] } → IsSoundEngine f
begun_sound f max closed empty sound room order small is = record {
  journal = sound;
  spare = omega (arith, room);
  update = order;
  max_obj = subst (λ (i : Seen). i.max_obj ≤ 4194304) (sym is) small;
  object = subst (λ (i : Seen). FitsObject i.max_obj (present i.objects)) (sym is) tt;
  group = λ o. absurd (cc);
  ended = λ o. absurd (cc);
  closed = λ _. empty;
}

-- ---- a result

module _ (e : Engine) (tree : Tree) (journal : Journal) (ok : Bool) (s : IsSoundEngine e)
    (n : Notes e.journal e.tree.rows journal tree.rows)
    (is : nodes tree.rows ≡ update_ended e.tree.clock (nodes e.tree.rows) ok) where
  abbrev over : Nodes → Option Group → State
  over t g = record { tree = t; object = present e.inbox.objects; group = g; started = None }

  pub finished_state : (f : Engine) → f ≡ record e { tree = tree; journal = journal; started = None; starts = f.starts }
      → state_of f ≡ update_finished (clock_of e) (state_of e) ok
  finished_state f same =
      ap state_of same
      ∙ ap (λ t. over t (group_of tree.rows journal.entries e.is_open e.mark e.parts)) is
      ∙ ap (over (update_ended e.tree.clock (nodes e.tree.rows) ok))
      (group-stays e.journal journal e.tree.rows tree.rows e.is_open e.mark e.parts n s.journal s.group)

  pub finished_sound : (f : Engine) → f ≡ record e { tree = tree; journal = journal; started = None; starts = f.starts }
      → is_updating (nodes e.tree.rows) ≡ true → tree.clock ≡ e.tree.clock → IsSoundEngine f
  finished_sound f same running clock =
      let m = record e { tree = tree; journal = journal } in
      started_sound m f None
      (sound-after e m s (only-acted e tree journal n clock)
      (subst IsUpdateInOrder (sym is) (ended_in_order e.tree.clock (nodes e.tree.rows) ok s.update running)) s.object)
      same

  pub finished_holds : (f : Engine) (starts : Vec (Option Started)) → starts.items ≡ e.starts.items
      → f ≡ record e { tree = tree; journal = journal; started = None; starts = f.starts }
      → f.starts.items ≡ starts.items ++ e.started ∷ [] → Holds e f
  finished_holds f starts room same more =
      let m = record e { starts = starts } in
      let l = record m { tree = tree; journal = journal } in
      holds_then e m f (holds_room e starts room)
      (holds_then m l f (holds_noted m tree journal (room_sound e starts s) n) (holds_started l f None same more))

-- after want of memory
module _ (e : Engine) (starts : Vec (Option Started)) (tree : Tree) (journal : Journal)
    (b : StaysAsBefore e.journal e.tree journal tree) where
  pub before_state : state_of (record e { starts = starts; tree = tree; journal = journal }) ≡ state_of e
  before_state = ap (λ (t : Tree). over t.rows journal.entries) b.tree ∙ ap (over e.tree.rows) b.entries
    where
      over : List Row → List Entry → State
      over rows es = record (state_of e) { tree = nodes rows; group = group_of rows es e.is_open e.mark e.parts }

  pub before_sound : IsSoundEngine e → tree.clock ≡ e.tree.clock
      → IsSoundEngine (record e { starts = starts; tree = tree; journal = journal })
  before_sound s clock = sound-as-before (record e { starts = starts }) tree journal (room_sound e starts s) b clock

  pub before_holds : IsSoundEngine e → starts.items ≡ e.starts.items
      → Holds e (record e { starts = starts; tree = tree; journal = journal })
  before_holds s room =
      let m = record e { starts = starts } in
      holds_then e m (record m { tree = tree; journal = journal }) (holds_room e starts room)
      (holds_noted m tree journal (room_sound e starts s) (notes-as-before e.journal journal e.tree tree b))
