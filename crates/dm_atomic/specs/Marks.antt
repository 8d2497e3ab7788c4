-- What the marks of an engine recall: all of it.
use Rattle.std.specs.Prelude.{◌≡◌, ◌≤◌, ◌<◌, ◌+◌, ◌-◌, ℕ, Bool, true, false, if◌then◌else◌, List, [], ◌∷◌, ◌++◌, length}
use Rattle.std.specs.Prelude.{take, drop, get_or, Option, None, Some}
use Rattle.dm_tree.specs.declared.rows.Row.{Row}
use Rattle.dm_tree.specs.Nodes.{Ids}
use Rattle.dm_tree.specs.Rows.{ids}
use Rattle.dm_tree.specs.Devices.{IsUpdateInOrder}
use Rattle.dm_undo.specs.Sound.{AreAllHeld}
use Rattle.dm_undo.specs.declared.entries.Entry.{Entry}
use Rattle.dm_undo.specs.Entries.{AreRecords}
use Rattle.dm_undo.specs.Trees.{Maps, tree_at}
use Rattle.dm_objects.specs.declared.object.Object.{Object}
use Rattle.dm_objects.specs.Seen.{Seen, present}
use Rattle.dm_atomic.specs.declared.reports.Part.{Part}
use Rattle.dm_atomic.specs.declared.reports.Started.{Started}
use Rattle.dm_atomic.specs.declared.engine.Engine.{Engine}
use Rattle.dm_atomic.specs.declared.engine.EndedGroup.{EndedGroup}
use Rattle.dm_atomic.specs.declared.marks.EngineMark.{EngineMark}
use Rattle.dm_atomic.specs.Run.{State}
use Rattle.dm_atomic.specs.Engine.{group_of, state_of, FitsObject}

-- ---- all of an engine

-- its state, and the numbers of its nodes, also of those before an open group
pub record Whole : Type 0 where
  pub state : State
  pub ids : Ids
  pub base_ids : Option Ids

abbrev pub base_ids_of : List Row → List Entry → Bool → ℕ → Option Ids
base_ids_of rows es is_open mark = if is_open then Some (tree_at es rows mark).ids else None

abbrev pub whole_of : Engine → Whole
whole_of e = record {
  state = state_of e;
  ids = ids e.tree.rows;
  base_ids = base_ids_of e.tree.rows e.journal.entries e.is_open e.mark;
}

-- ---- what stood there since the engine was settled, what stands there now last

abbrev pub no_group : EndedGroup
no_group = record { mark = 0; parts = [] }

abbrev pub groups : List EndedGroup → ℕ → List Part → List EndedGroup
groups ended mark parts = ended ++ record { mark = mark; parts = parts } ∷ []

abbrev pub group_at : Engine → ℕ → EndedGroup
group_at e n = get_or (groups e.ended.items e.mark e.parts) n no_group

abbrev pub starts_of : Engine → List (Option Started)
starts_of e = e.starts.items ++ e.started ∷ []

-- how much is known of what stood there before, and before a group that is open: entries of the journal, objects, what
-- was started, and groups that ended
pub record Past : Type 0 where
  pub entries : ℕ
  pub objects : ℕ
  pub starts : ℕ
  pub groups : ℕ

abbrev pub past_of : Engine → Past
past_of e = record {
  entries = if e.is_open then e.mark else length e.journal.entries;
  objects = length e.inbox.objects - 1;
  starts = length e.starts.items;
  groups = length e.ended.items;
}

abbrev pub no_past : Past
no_past = record { entries = 0; objects = 0; starts = 0; groups = 0 }

-- ---- marks

abbrev pub tree_there : Engine → ℕ → Maps
tree_there e mark = tree_at e.journal.entries e.tree.rows mark

-- what stood where the mark was taken; of a group that was open there, the parts that it had then
abbrev pub recalled : Engine → EngineMark → Whole
recalled e m = record {
  state = record {
    tree = (tree_there e m.journal).nodes;
    object = present (take (m.inbox + 1) e.inbox.objects);
    group = group_of e.tree.rows e.journal.entries m.is_open (group_at e m.groups).mark
        (take m.parts (group_at e m.groups).parts);
    started = get_or (starts_of e) m.starts None;
  };
  ids = (tree_there e m.journal).ids;
  base_ids = base_ids_of e.tree.rows e.journal.entries m.is_open (group_at e m.groups).mark;
}

-- and what was known there of what stood before
abbrev pub past_at : Engine → EngineMark → Past
past_at e m = record {
  entries = if m.is_open then (group_at e m.groups).mark else m.journal;
  objects = m.inbox;
  starts = m.starts;
  groups = m.groups;
}

-- the group that was open there is known still, and could be rolled back from there
pub record IsOpenAt (e : Engine) (m : EngineMark) : Type 0 where
  pub present : m.groups ≡ length e.ended.items → e.is_open ≡ true
  pub parts : m.parts ≤ length (group_at e m.groups).parts
  pub mark : (group_at e m.groups).mark ≤ m.journal
  pub plain : AreRecords (m.journal - (group_at e m.groups).mark)
      (drop (length e.journal.entries - m.journal) e.journal.entries)
  pub spare : m.journal + 1 < e.journal.room
  pub update : IsUpdateInOrder (tree_there e (group_at e m.groups).mark).nodes

-- all that stood there is known still; where no group was open there were no parts
pub record IsKnownStill (e : Engine) (m : EngineMark) : Type 0 where
  pub journal : m.journal ≤ length e.journal.entries
  pub inbox : m.inbox < length e.inbox.objects
  pub starts : m.starts ≤ length e.starts.items
  pub groups : m.groups ≤ length e.ended.items
  pub update : IsUpdateInOrder (tree_there e m.journal).nodes
  pub object : FitsObject e.inbox.max_obj (present (take (m.inbox + 1) e.inbox.objects))
  pub group : m.is_open ≡ true → IsOpenAt e m
  pub closed : m.is_open ≡ false → m.parts ≡ 0

-- the mark can be gone back to, and this stood there
pub record Recalls (e : Engine) (m : EngineMark) (w : Whole) : Type 0 where
  pub held : IsKnownStill e m
  pub there : recalled e m ≡ w

-- every subtree that is parked is held by a record of the journal: none was left over
abbrev pub LeavesNone : Engine → Type 0
LeavesNone e = AreAllHeld e.journal.entries e.tree.rows

-- each mark that could be gone back to can be still, and recalls what it did, with as much known of what stood before
-- it; and where no subtree was left over, none is
pub record Holds (old new : Engine) : Type 0 where
  pub marks : (m : EngineMark) (w : Whole) → Recalls old m w → Recalls new m w
  pub pasts : (m : EngineMark) → IsKnownStill old m → past_at new m ≡ past_at old m
  pub parked : LeavesNone old → LeavesNone new

-- objects were held, one behind the other
pub record ObjectsGo (old new : Seen) : Type 0 where
  pub more : List Object
  pub objects : new.objects ≡ old.objects ++ more
  pub max_obj : new.max_obj ≡ old.max_obj

-- a mark that was taken no later than another
pub record IsEarlier (k m : EngineMark) : Type 0 where
  pub journal : k.journal ≤ m.journal
  pub inbox : k.inbox ≤ m.inbox
  pub starts : k.starts ≤ m.starts
  pub groups : k.groups ≤ m.groups
  pub same : k.is_open ≡ true → k.groups ≡ m.groups → (k.parts ≤ m.parts) × (m.is_open ≡ true)
