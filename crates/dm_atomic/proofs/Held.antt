-- Marks, while an engine goes on.
use Rattle.std.proofs.Common.{◌≡◌, ℕ, ◌+◌, ◌-◌, ◌<◌, ◌≤◌, Bool, true, false, not, ◌&&◌, if◌then◌else◌, List, [], ◌∷◌}
use Rattle.std.proofs.Common.{◌++◌, length, take, drop, get_or, refl, sym, ◌∙◌, ap, subst, arith, append_assoc}
use Rattle.std.proofs.Common.{length-append, Option, None, Some, inl, inr}
use Rattle.std.specs.Global.{Vec}
use Rattle.std.proofs.Math.ListN.{get_or-append}
use Rattle.std.proofs.Math.Seq.{get_or-append_seam, drop-append_seam}
use Rattle.std.proofs.lemmas.List.{append-nil, take-append-le, drop-drop}
use Rattle.dm_tree.specs.declared.nodes.Stamp.{Stamp}
use Rattle.dm_tree.specs.declared.rows.Row.{Row}
use Rattle.dm_tree.specs.Nodes.{Ids}
use Rattle.dm_tree.specs.Rows.{Tree}
use Rattle.dm_tree.specs.Devices.{IsUpdateInOrder}
use Rattle.dm_tree.proofs.Paths.{same_or_not}
use Rattle.dm_undo.specs.declared.entries.Entry.{Entry}
use Rattle.dm_undo.specs.declared.entries.Entry.TheVariants.{Record, Flipped}
use Rattle.dm_undo.specs.Journals.{Journal}
use Rattle.dm_undo.specs.Entries.{AreAlike, AreRecords}
use Rattle.dm_undo.specs.Trees.{Maps, tree_at}
use Rattle.dm_undo.specs.Marks.{RecallsTrees}
use Rattle.dm_undo.specs.Sound.{AreAllHeld}
use Rattle.dm_undo.specs.Notes.{Notes}
use Rattle.dm_undo.proofs.Shapes.{alike_self, alike_long, alike_drop, records_alike}
use Rattle.dm_objects.specs.declared.object.Object.{Object}
use Rattle.dm_objects.specs.Inside.{is_buffering_inside, stays, failed_inside}
use Rattle.dm_objects.specs.Seen.{Seen, present, is_unfinished, holding}
use Rattle.dm_atomic.specs.declared.reports.Part.{Part}
use Rattle.dm_atomic.specs.declared.reports.Started.{Started}
use Rattle.dm_atomic.specs.declared.engine.Engine.{Engine}
use Rattle.dm_atomic.specs.declared.engine.EndedGroup.{EndedGroup}
use Rattle.dm_atomic.specs.declared.marks.EngineMark.{EngineMark}
use Rattle.dm_atomic.specs.Run.{Group}
use Rattle.dm_atomic.specs.Engine.{group_of, FitsObject, IsSoundEngine}
use Rattle.dm_atomic.specs.Marks.{Whole, base_ids_of, no_group, groups, group_at, starts_of, tree_there, recalled, Past}
use Rattle.dm_atomic.specs.Marks.{past_at, IsOpenAt, IsKnownStill, Holds, ObjectsGo}

-- ---- the journal goes on

drop-none : {A : Type 0} (l : List A) → drop 0 l ≡ l
drop-none [] = refl
drop-none (x ∷ l) = refl

pub record JournalGoes (old new : Journal) (before now : List Row) : Type 0 where
  pub trees : RecallsTrees (length old.entries) old.entries before new.entries now
  pub longer : length old.entries ≤ length new.entries
  pub alike : AreAlike old.entries (drop (length new.entries - length old.entries) new.entries)
  pub room : old.room ≤ new.room
  pub parked : AreAllHeld old.entries before → AreAllHeld new.entries now

pub journal-same : (old new : Journal) (before now : List Row) → new.entries ≡ old.entries → old.room ≤ new.room
    → now ≡ before → JournalGoes old new before now
journal-same old new before now e r f = record {
  trees = λ mark h.
      (omega (arith, h, ap length e), ap (λ l. tree_at l now mark) e ∙ ap (λ x. tree_at old.entries x mark) f);
  longer = omega (arith, ap length e);
  alike = subst (AreAlike old.entries)
      (sym (ap (λ l. drop (length l - length old.entries) l) e
      ∙ ap (λ n. drop n old.entries) (let z : length old.entries - length old.entries ≡ 0 = omega arith in z)
      ∙ drop-none old.entries)) (alike_self old.entries);
  room = r;
  parked = λ all. subst (AreAllHeld new.entries) (sym f) (subst (λ l. AreAllHeld l before) (sym e) all);
}

pub journal-noted : (old new : Journal) (before now : List Row) → Notes old before new now
    → length old.entries < old.room
    → RecallsTrees (length old.entries) old.entries before new.entries now → JournalGoes old new before now
journal-noted old new before now n spare trees = record {
  trees = trees;
  longer = omega (arith, long);
  alike = subst (AreAlike old.entries)
      (sym (ap (drop (length new.entries - length old.entries)) n.entries
      ∙ ap (λ k. drop k (n.newer ++ old.entries))
      (let z : length new.entries - length old.entries ≡ length n.newer = omega (arith, long) in z)
      ∙ drop-append_seam n.newer old.entries)) (alike_self old.entries);
  room = omega (arith, spare, n.spare, long);
  parked = n.parked;
}
  where
    long : length new.entries ≡ length n.newer + length old.entries
    long = ap length n.entries ∙ length-append n.newer old.entries

alike-rest : (c : ℕ) (es fs : List Entry) → AreAlike (Flipped c ∷ es) fs → AreAlike es (drop 1 fs)
alike-rest c es [] a = absurd a
alike-rest c es (Record v ∷ fs) a = absurd a
alike-rest c es (Flipped d ∷ fs) a = subst (AreAlike es) (sym (drop-none fs)) a.1

pub journal-rolled : (old new : Journal) (before now : List Row) (c : ℕ)
    → RecallsTrees (length old.entries) old.entries before new.entries now
    → AreAlike (Flipped c ∷ old.entries) new.entries → new.room ≡ old.room
    → (AreAllHeld old.entries before → AreAllHeld new.entries now) → JournalGoes old new before now
journal-rolled old new before now c trees a r parked =
    let long = alike_long (Flipped c ∷ old.entries) new.entries a in
    record {
      trees = trees;
      longer = omega (arith, long);
      alike = subst (λ n. AreAlike old.entries (drop n new.entries))
          (let z : 1 ≡ length new.entries - length old.entries = omega (arith, long) in z)
          (alike-rest c old.entries new.entries a);
      room = omega (arith, r);
      parked = parked;
    }

drop-alike : (old new : List Entry) (m : ℕ) → m ≤ length old → length old ≤ length new
    → AreAlike old (drop (length new - length old) new)
    → AreAlike (drop (length old - m) old) (drop (length new - m) new)
drop-alike old new m l h a =
    let k = length old - m in
    let far : (length new - length old) + k ≡ length new - m = omega (arith, l, h) in
    subst (AreAlike (drop k old)) (drop-drop k (length new - length old) new ∙ ap (λ n. drop n new) far)
    (alike_drop k old (drop (length new - length old) new) a)

-- ---- objects are held, one behind the other

pub objects_same : (old new : Seen) → new ≡ old → ObjectsGo old new
objects_same old new e = subst (ObjectsGo old) (sym e)
    (record { more = []; objects = sym (append-nil old.objects); max_obj = refl })

pub objects_self : (s : Seen) → ObjectsGo s s
objects_self s = objects_same s s refl

pub objects_then : (a b c : Seen) → ObjectsGo a b → ObjectsGo b c → ObjectsGo a c
objects_then a b c g h = record {
  more = g.more ++ h.more;
  objects = h.objects ∙ ap (λ l. l ++ h.more) g.objects ∙ append_assoc a.objects g.more h.more;
  max_obj = h.max_obj ∙ g.max_obj;
}

pub objects_next : (old new : Seen) (next : Object) → new ≡ holding old next → ObjectsGo old new
objects_next old new next e = subst (ObjectsGo old) (sym e)
    (by_test (not (is_unfinished (present old.objects)) && not (is_unfinished next)))
  where
    by_test : (b : Bool)
        → ObjectsGo old (record old { objects = if b then old.objects else old.objects ++ next ∷ [] })
    by_test true = record { more = []; objects = sym (append-nil old.objects); max_obj = refl }
    by_test false = record { more = next ∷ []; objects = refl; max_obj = refl }

pub objects_failed : (old new : Seen) → new ≡ failed_inside old → ObjectsGo old new
objects_failed old new e = subst (ObjectsGo old) (sym e) (by_test (is_buffering_inside (present old.objects)))
  where
    by_test : (b : Bool) → ObjectsGo old (if b then holding old (stays (present old.objects)) else old)
    by_test true = objects_next old (holding old (stays (present old.objects))) (stays (present old.objects)) refl
    by_test false = objects_same old old refl

-- ---- updates are started

pub record StartsGo (old new : Engine) : Type 0 where
  pub longer : length old.starts.items ≤ length new.starts.items
  pub more : List (Option Started)
  pub starts : starts_of new ≡ starts_of old ++ more

pub starts-same : (old new : Engine) → new.starts.items ≡ old.starts.items → new.started ≡ old.started
    → StartsGo old new
starts-same old new e f = record {
  longer = omega (arith, ap length e);
  more = [];
  starts =
      ap (λ l. l ++ new.started ∷ []) e ∙ ap (λ s. old.starts.items ++ s ∷ []) f
      ∙ sym (append-nil (old.starts.items ++ old.started ∷ []));
}

pub starts-more : (old new : Engine) → new.starts.items ≡ old.starts.items ++ old.started ∷ [] → StartsGo old new
starts-more old new e = record {
  longer = omega (arith, ap length e, length-append old.starts.items (old.started ∷ []));
  more = new.started ∷ [];
  starts = ap (λ l. l ++ new.started ∷ []) e;
}

-- ---- groups open and end

pub record GroupGoes (old new : Engine) (n : ℕ) : Type 0 where
  pub mark : (group_at new n).mark ≡ (group_at old n).mark
  pub more : List Part
  pub parts : (group_at new n).parts ≡ (group_at old n).parts ++ more
  pub present : n ≡ length new.ended.items → new.is_open ≡ true

pub record GroupsGo (old new : Engine) : Type 0 where
  pub longer : length old.ended.items ≤ length new.ended.items
  pub each : (n : ℕ) → n ≤ length old.ended.items → (n ≡ length old.ended.items → old.is_open ≡ true)
      → GroupGoes old new n

goes-same : (old new : Engine) (n : ℕ) → group_at new n ≡ group_at old n
    → (n ≡ length new.ended.items → new.is_open ≡ true) → GroupGoes old new n
goes-same old new n e p = record {
  mark = ap (λ (g : EndedGroup). g.mark) e;
  more = [];
  parts = ap (λ (g : EndedGroup). g.parts) e ∙ sym (append-nil (group_at old n).parts);
  present = p;
}

-- a group that ended before
before-both : (old new : Engine) (n : ℕ) → new.ended.items ≡ old.ended.items → n < length old.ended.items
    → group_at new n ≡ group_at old n
before-both old new n e l =
    ap (λ x. get_or (x ++ record { mark = new.mark; parts = new.parts } ∷ []) n no_group) e
    ∙ get_or-append old.ended.items (record { mark = new.mark; parts = new.parts } ∷ []) no_group n l
    ∙ sym (get_or-append old.ended.items (record { mark = old.mark; parts = old.parts } ∷ []) no_group n l)

pub at-end : (e : Engine) (n : ℕ) → n ≡ length e.ended.items
    → group_at e n ≡ record { mark = e.mark; parts = e.parts }
at-end e n is =
    ap (group_at e) is
    ∙ get_or-append_seam e.ended.items (record { mark = e.mark; parts = e.parts }) [] no_group

pub groups-more : (old new : Engine) (more : List Part) → new.ended.items ≡ old.ended.items → new.is_open ≡ old.is_open
    → new.mark ≡ old.mark → new.parts ≡ old.parts ++ more → GroupsGo old new
groups-more old new more e o m p = record {
  longer = omega (arith, ap length e);
  each = λ n l h. elim (same_or_not n (length old.ended.items)) [
    | inl s ↦
        let was = at-end old n s in
        let is = at-end new n (s ∙ sym (ap length e)) in
        record {
          mark = ap (λ (g : EndedGroup). g.mark) is ∙ m ∙ sym (ap (λ (g : EndedGroup). g.mark) was);
          more = more;
          parts =
              ap (λ (g : EndedGroup). g.parts) is ∙ p
              ∙ sym (ap (λ (g : EndedGroup). g.parts ++ more) was);
          present = λ _. o ∙ h s;
        }
    | inr d ↦ goes-same old new n (before-both old new n e (omega (arith, l, d)))
        (λ s. absurd (d (s ∙ ap length e)))
  ];
}

pub groups-same : (old new : Engine) → new.ended.items ≡ old.ended.items → new.is_open ≡ old.is_open
    → new.mark ≡ old.mark → new.parts ≡ old.parts → GroupsGo old new
groups-same old new e o m p = groups-more old new [] e o m (p ∙ sym (append-nil old.parts))

pub groups-ended : (old new : Engine)
    → new.ended.items ≡ old.ended.items ++ record { mark = old.mark; parts = old.parts } ∷ [] → GroupsGo old new
groups-ended old new e =
    let long : length new.ended.items ≡ length old.ended.items + 1 =
    ap length e ∙ length-append old.ended.items (record { mark = old.mark; parts = old.parts } ∷ []) in
    record {
      longer = omega (arith, long);
      each = λ n l h. goes-same old new n
          (ap (λ x. get_or (x ++ record { mark = new.mark; parts = new.parts } ∷ []) n no_group) e
          ∙ get_or-append (groups old.ended.items old.mark old.parts)
          (record { mark = new.mark; parts = new.parts } ∷ []) no_group n
          (omega (arith, l, length-append old.ended.items (record { mark = old.mark; parts = old.parts } ∷ []))))
          (λ s. absurd (omega (arith, s, l, long)));
    }

pub groups-opened : (old new : Engine) → old.is_open ≡ false → new.ended.items ≡ old.ended.items → GroupsGo old new
groups-opened old new o e = record {
  longer = omega (arith, ap length e);
  each = λ n l h. elim (same_or_not n (length old.ended.items)) [
    | inl s ↦ absurd (let is : old.is_open ≡ true = h s in cc)
    | inr d ↦ goes-same old new n (before-both old new n e (omega (arith, l, d)))
        (λ s. absurd (d (s ∙ ap length e)))
  ];
}

-- ---- what is held, and what it recalls

open-holds : (old new : Engine) (m : EngineMark) → JournalGoes old.journal new.journal old.tree.rows new.tree.rows
    → GroupGoes old new m.groups → m.journal ≤ length old.journal.entries → IsOpenAt old m → IsOpenAt new m
open-holds old new m j g h o =
    let base = j.trees (group_at old m.groups).mark (omega (arith, o.mark, h)) in
    record {
      present = g.present;
      parts = omega (arith, o.parts, ap length g.parts, length-append (group_at old m.groups).parts g.more);
      mark = omega (arith, g.mark, o.mark);
      plain =
          subst (λ k. AreRecords (m.journal - k) (drop (length new.journal.entries - m.journal) new.journal.entries))
          (sym g.mark)
          (records_alike (m.journal - (group_at old m.groups).mark)
          (drop (length old.journal.entries - m.journal) old.journal.entries)
          (drop (length new.journal.entries - m.journal) new.journal.entries)
          (drop-alike old.journal.entries new.journal.entries m.journal h j.longer j.alike) o.plain);
      spare = omega (arith, o.spare, j.room);
      update = subst (λ (x : Maps). IsUpdateInOrder x.nodes) (sym (ap (tree_there new) g.mark ∙ base.1)) o.update;
    }

taken : (old new : Seen) (n : ℕ) → ObjectsGo old new → n < length old.objects
    → take (n + 1) new.objects ≡ take (n + 1) old.objects
taken old new n o l = ap (take (n + 1)) o.objects ∙ take-append-le (n + 1) old.objects o.more (omega (arith, l))

held-holds : (old new : Engine) (m : EngineMark) → JournalGoes old.journal new.journal old.tree.rows new.tree.rows
    → ObjectsGo old.inbox new.inbox → StartsGo old new → GroupsGo old new → IsKnownStill old m → IsKnownStill new m
held-holds old new m j o s g h = record {
  journal = omega (arith, h.journal, j.longer);
  inbox = omega (arith, h.inbox, ap length o.objects, length-append old.inbox.objects o.more);
  starts = omega (arith, h.starts, s.longer);
  groups = omega (arith, h.groups, g.longer);
  update = subst (λ (x : Maps). IsUpdateInOrder x.nodes) (sym (j.trees m.journal h.journal).1) h.update;
  object = subst (λ n. FitsObject n (present (take (m.inbox + 1) new.inbox.objects))) (sym o.max_obj)
      (subst (λ l. FitsObject old.inbox.max_obj (present l)) (sym (taken old.inbox new.inbox m.inbox o h.inbox))
      h.object);
  group = λ is. let at = h.group is in
      open-holds old new m j (g.each m.groups h.groups at.present) h.journal at;
  closed = h.closed;
}

pub group-kept : (is : Bool) (rows rows' : List Row) (es es' : List Entry) (k k' : ℕ) (ps ps' : List Part)
    → (is ≡ true → (tree_at es' rows' k' ≡ tree_at es rows k) × (ps' ≡ ps))
    → group_of rows' es' is k' ps' ≡ group_of rows es is k ps
group-kept true rows rows' es es' k k' ps ps' f =
    let h = f refl in
    ap (λ (x : Maps). over x ps') h.0 ∙ ap (over (tree_at es rows k)) h.1
  where
    over : Maps → List Part → Option Group
    over x l = Some (record { base = x.nodes; parts = l })
group-kept false rows rows' es es' k k' ps ps' f = refl

pub base-ids-kept : (is : Bool) (rows rows' : List Row) (es es' : List Entry) (k k' : ℕ)
    → (is ≡ true → tree_at es' rows' k' ≡ tree_at es rows k) → base_ids_of rows' es' is k' ≡ base_ids_of rows es is k
base-ids-kept true rows rows' es es' k k' f = ap (λ (x : Maps). over x.ids) (f refl)
  where
    over : Ids → Option Ids
    over i = Some i
base-ids-kept false rows rows' es es' k k' f = refl

abbrev pub all_of : Maps → Object → Option Group → Option Started → Option Ids → Whole
all_of t o g s i = record {
  state = record { tree = t.nodes; object = o; group = g; started = s };
  ids = t.ids;
  base_ids = i;
}

pub same-whole : (t t' : Maps) (o o' : Object) (g g' : Option Group) (s s' : Option Started) (i i' : Option Ids)
    → t ≡ t' → o ≡ o' → g ≡ g' → s ≡ s' → i ≡ i' → all_of t o g s i ≡ all_of t' o' g' s' i'
same-whole t t' o o' g g' s s' i i' a b c d e =
    ap (λ x. all_of x o g s i) a ∙ ap (λ x. all_of t' x g s i) b ∙ ap (λ x. all_of t' o' x s i) c
    ∙ ap (λ x. all_of t' o' g' x i) d ∙ ap (all_of t' o' g' s') e

recalled-holds : (old new : Engine) (m : EngineMark) → JournalGoes old.journal new.journal old.tree.rows new.tree.rows
    → ObjectsGo old.inbox new.inbox → StartsGo old new → GroupsGo old new → IsKnownStill old m
    → recalled new m ≡ recalled old m
recalled-holds old new m j o s g h =
    same-whole (tree_there new m.journal) (tree_there old m.journal) _ _ _ _ _ _ _ _
    (j.trees m.journal h.journal).1
    (ap present (taken old.inbox new.inbox m.inbox o h.inbox))
    (group-kept m.is_open old.tree.rows new.tree.rows old.journal.entries new.journal.entries _ _ _ _
    (λ is. (base is, parts is)))
    (ap (λ l. get_or l m.starts None) s.starts
    ∙ get_or-append (starts_of old) s.more None m.starts
    (omega (arith, h.starts, length-append old.starts.items (old.started ∷ []))))
    (base-ids-kept m.is_open old.tree.rows new.tree.rows old.journal.entries new.journal.entries _ _ base)
  where
    goes : m.is_open ≡ true → GroupGoes old new m.groups
    goes is = g.each m.groups h.groups (h.group is).present

    base : m.is_open ≡ true → tree_there new (group_at new m.groups).mark ≡ tree_there old (group_at old m.groups).mark
    base is =
        let at = h.group is in
        ap (tree_there new) (goes is).mark
        ∙ (j.trees (group_at old m.groups).mark (omega (arith, at.mark, h.journal))).1

    parts : m.is_open ≡ true → take m.parts (group_at new m.groups).parts ≡ take m.parts (group_at old m.groups).parts
    parts is =
        ap (take m.parts) (goes is).parts
        ∙ take-append-le m.parts (group_at old m.groups).parts (goes is).more (h.group is).parts

-- ---- what was known where a mark was taken

abbrev pub past : ℕ → ℕ → ℕ → ℕ → Past
past entries objects starts groups =
    record { entries = entries; objects = objects; starts = starts; groups = groups }

pub same-past : (a a' b b' c c' d d' : ℕ) → a ≡ a' → b ≡ b' → c ≡ c' → d ≡ d' → past a b c d ≡ past a' b' c' d'
same-past a a' b b' c c' d d' p q r s =
    ap (λ x. past x b c d) p ∙ ap (λ x. past a' x c d) q ∙ ap (λ x. past a' b' x d) r ∙ ap (past a' b' c') s

-- the entries before a group that is open, or all
pub entries-before : (b : Bool) (m m' n n' : ℕ) → (b ≡ true → m ≡ m') → (b ≡ false → n ≡ n')
    → (if b then m else n) ≡ (if b then m' else n')
entries-before true m m' n n' h k = h refl
entries-before false m m' n n' h k = k refl

past-holds : (old new : Engine) (m : EngineMark) → GroupsGo old new → IsKnownStill old m → past_at new m ≡ past_at old m
past-holds old new m g h =
    ap (λ n. past n m.inbox m.starts m.groups)
    (entries-before m.is_open (group_at new m.groups).mark (group_at old m.groups).mark m.journal m.journal
    (λ is. (g.each m.groups h.groups (h.group is).present).mark) (λ is. refl))

pub holds_by : (old new : Engine) → JournalGoes old.journal new.journal old.tree.rows new.tree.rows
    → ObjectsGo old.inbox new.inbox → StartsGo old new → GroupsGo old new → Holds old new
holds_by old new j o s g = record {
  marks = λ m w r. record {
    held = held-holds old new m j o s g r.held;
    there = recalled-holds old new m j o s g r.held ∙ r.there;
  };
  pasts = λ m h. past-holds old new m g h;
  parked = j.parked;
}

-- ---- one step and another

pub holds_self : (e : Engine) → Holds e e
holds_self e = record { marks = λ m w r. r; pasts = λ m h. refl; parked = λ all. all }

pub holds_then : (a b c : Engine) → Holds a b → Holds b c → Holds a c
holds_then a b c g h = record {
  marks = λ m w r. h.marks m w (g.marks m w r);
  pasts = λ m held.
      h.pasts m (g.marks m (recalled a m) (record { held = held; there = refl })).held ∙ g.pasts m held;
  parked = λ all. h.parked (g.parked all);
}

-- ---- single steps

pub holds_objects : (e : Engine) (i : Seen) → ObjectsGo e.inbox i → Holds e (record e { inbox = i })
holds_objects e i o =
    let f = record e { inbox = i } in
    holds_by e f (journal-same e.journal e.journal e.tree.rows e.tree.rows refl (omega arith) refl) o
    (starts-same e f refl refl) (groups-same e f refl refl refl refl)

pub holds_next : (e : Engine) (i : Seen) (next : Object) → i ≡ holding e.inbox next → Holds e (record e { inbox = i })
holds_next e i next is = holds_objects e i (objects_next e.inbox i next is)

pub holds_inbox : (e : Engine) (i : Seen) → i ≡ e.inbox → Holds e (record e { inbox = i })
holds_inbox e i is = holds_objects e i (objects_same e.inbox i is)

pub holds_journal : (e : Engine) (tree : Tree) (journal : Journal) → JournalGoes e.journal journal e.tree.rows tree.rows
    → Holds e (record e { tree = tree; journal = journal })
holds_journal e tree journal j =
    let f = record e { tree = tree; journal = journal } in
    holds_by e f j (objects_same e.inbox e.inbox refl) (starts-same e f refl refl) (groups-same e f refl refl refl refl)

pub holds_noted : (e : Engine) (tree : Tree) (journal : Journal) → IsSoundEngine e
    → Notes e.journal e.tree.rows journal tree.rows → Holds e (record e { tree = tree; journal = journal })
holds_noted e tree journal s n =
    holds_journal e tree journal
    (journal-noted e.journal journal e.tree.rows tree.rows n s.spare (n.recalls s.journal))

pub holds_clocked : (e : Engine) (tree : Tree) (clock : Stamp) → tree ≡ record e.tree { clock = clock }
    → Holds e (record e { tree = tree })
holds_clocked e tree clock is =
    holds_journal e tree e.journal
    (journal-same e.journal e.journal e.tree.rows tree.rows refl (omega arith) (ap (λ (t : Tree). t.rows) is))

-- room for what was started
pub holds_room : (e : Engine) (starts : Vec (Option Started)) → starts.items ≡ e.starts.items
    → Holds e (record e { starts = starts })
holds_room e starts is =
    let f = record e { starts = starts } in
    holds_by e f (journal-same e.journal e.journal e.tree.rows e.tree.rows refl (omega arith) refl)
    (objects_same e.inbox e.inbox refl) (starts-same e f is refl) (groups-same e f refl refl refl refl)

pub holds_started : (e f : Engine) (next : Option Started) → f ≡ record e { started = next; starts = f.starts }
    → f.starts.items ≡ e.starts.items ++ e.started ∷ [] → Holds e f
holds_started e f next is more = subst (Holds e) (sym is)
    (let g = record e { started = next; starts = f.starts } in
    holds_by e g (journal-same e.journal e.journal e.tree.rows e.tree.rows refl (omega arith) refl)
    (objects_same e.inbox e.inbox refl) (starts-more e g more) (groups-same e g refl refl refl refl))

pub holds_part : (e : Engine) (parts more : List Part) → parts ≡ e.parts ++ more → Holds e (record e { parts = parts })
holds_part e parts more is =
    let f = record e { parts = parts } in
    holds_by e f (journal-same e.journal e.journal e.tree.rows e.tree.rows refl (omega arith) refl)
    (objects_same e.inbox e.inbox refl) (starts-same e f refl refl) (groups-more e f more refl refl refl is)

pub holds_ended : (e f : Engine) → f ≡ record e { is_open = false; parts = f.parts; ended = f.ended }
    → f.ended.items ≡ e.ended.items ++ record { mark = e.mark; parts = e.parts } ∷ [] → Holds e f
holds_ended e f is more = subst (Holds e) (sym is)
    (let g = record e { is_open = false; parts = f.parts; ended = f.ended } in
    holds_by e g (journal-same e.journal e.journal e.tree.rows e.tree.rows refl (omega arith) refl)
    (objects_same e.inbox e.inbox refl) (starts-same e g refl refl) (groups-ended e g more))

pub holds_reserved : (e : Engine) (journal : Journal) → journal.entries ≡ e.journal.entries
    → e.journal.room ≤ journal.room → Holds e (record e { journal = journal })
holds_reserved e journal is room =
    holds_journal e e.tree journal (journal-same e.journal journal e.tree.rows e.tree.rows is room refl)

pub holds_opened : (e : Engine) (journal : Journal) (ended : Vec EndedGroup) (is_open : Bool) (mark : ℕ)
    (parts : List Part) → e.is_open ≡ false → journal.entries ≡ e.journal.entries → e.journal.room ≤ journal.room
    → ended.items ≡ e.ended.items
    → Holds e (record e { journal = journal; is_open = is_open; mark = mark; parts = parts; ended = ended })
holds_opened e journal ended is_open mark parts o is room same =
    let f = record e { journal = journal; is_open = is_open; mark = mark; parts = parts; ended = ended } in
    holds_by e f (journal-same e.journal journal e.tree.rows e.tree.rows is room refl)
    (objects_same e.inbox e.inbox refl) (starts-same e f refl refl) (groups-opened e f o same)
