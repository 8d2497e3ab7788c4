-- Marks that are taken and gone back to, and an engine that is settled.
use Rattle.std.proofs.Common.{◌≡◌, ℕ, zero, suc, ◌+◌, ◌-◌, ◌<◌, ◌≤◌, Bool, true, false, if◌then◌else◌, List, [], ◌∷◌}
use Rattle.std.proofs.Common.{◌++◌, length, take, drop, get_or, refl, sym, ◌∙◌, ap, subst, arith, length-append, None}
use Rattle.std.proofs.Common.{inl, inr}
use Rattle.std.specs.Prelude.{vec_len, vec_capacity}
use Rattle.std.proofs.Math.ListN.{get_or-append}
use Rattle.std.proofs.Math.Seq.{get_or-append_seam, take-length}
use Rattle.std.proofs.lemmas.List.{take-append-le, take-take, length-take-le, get_or-take, drop-drop}
use Rattle.dm_tree.specs.declared.rows.Row.{Row}
use Rattle.dm_tree.specs.Devices.{IsUpdateInOrder}
use Rattle.dm_tree.proofs.Paths.{same_or_not}
use Rattle.dm_undo.specs.declared.entries.Entry.{Entry}
use Rattle.dm_undo.specs.declared.entries.Entry.TheVariants.{Record, Flipped}
use Rattle.dm_undo.specs.Journals.{Journal}
use Rattle.dm_undo.specs.Entries.{AreAlike, AreRecords, StaysWithin}
use Rattle.dm_undo.specs.Trees.{Maps, maps_of, tree_at}
use Rattle.dm_undo.specs.Marks.{RecallsTrees, RecallsFrom}
use Rattle.dm_undo.specs.Sound.{IsSound}
use Rattle.dm_undo.proofs.Noted.{within-records}
use Rattle.dm_undo.proofs.Told.{at_end}
use Rattle.dm_undo.proofs.Shapes.{alike_drop, records_alike}
use Rattle.dm_objects.specs.Seen.{Seen, present}
use Rattle.dm_atomic.specs.declared.reports.Part.{Part}
use Rattle.dm_atomic.specs.declared.engine.Engine.{Engine}
use Rattle.dm_atomic.specs.declared.engine.EndedGroup.{EndedGroup}
use Rattle.dm_atomic.specs.declared.marks.EngineMark.{EngineMark}
use Rattle.dm_atomic.specs.Engine.{group_of, state_of, FitsObject, IsSoundEngine}
use Rattle.dm_atomic.specs.Marks.{Whole, base_ids_of, whole_of, no_group, group_at, starts_of, tree_there, recalled}
use Rattle.dm_atomic.specs.Marks.{past_of, past_at, no_past, IsOpenAt, IsKnownStill, Recalls, IsEarlier}
use Rattle.dm_atomic.proofs.Held.{at-end, group-kept, base-ids-kept, same-whole, same-past, entries-before}

drop-none : {A : Type 0} (l : List A) (n : ℕ) → n ≡ 0 → drop n l ≡ l
drop-none [] zero e = refl
drop-none (x ∷ l) zero e = refl
drop-none l (suc n) e = absurd (omega (arith, e))

none-taken : {A : Type 0} (l : List A) (n : ℕ) → n ≡ 0 → take n l ≡ []
none-taken [] zero e = refl
none-taken (x ∷ l) zero e = refl
none-taken l (suc n) e = absurd (omega (arith, e))

few-taken : {A : Type 0} (k n : ℕ) (l : List A) → k ≤ n → k ≤ length l → k ≤ length (take n l)
few-taken k zero [] h g = omega (arith, h)
few-taken k zero (x ∷ l) h g = omega (arith, h)
few-taken k (suc n) [] h g = g
few-taken zero (suc n) (x ∷ l) h g = omega arith
few-taken (suc k) (suc n) (x ∷ l) h g =
    let r = few-taken k n l (omega (arith, h)) (omega (arith, g)) in omega (arith, r)

-- ---- a mark that is taken

module _ (e : Engine) (m : EngineMark) (s : IsSoundEngine e) (j : m.journal ≡ length e.journal.entries)
    (t : tree_at e.journal.entries e.tree.rows m.journal ≡ maps_of e.tree.rows)
    (i : m.inbox + 1 ≡ length e.inbox.objects)
    (a : m.starts ≡ length e.starts.items) (g : m.groups ≡ length e.ended.items) (p : m.parts ≡ length e.parts)
    (o : m.is_open ≡ e.is_open) where
  all : take (m.inbox + 1) e.inbox.objects ≡ e.inbox.objects
  all = ap (λ n. take n e.inbox.objects) i ∙ take-length e.inbox.objects

  mark_is : (group_at e m.groups).mark ≡ e.mark
  mark_is = ap (λ (x : EndedGroup). x.mark) (at-end e m.groups g)

  parts_are : (group_at e m.groups).parts ≡ e.parts
  parts_are = ap (λ (x : EndedGroup). x.parts) (at-end e m.groups g)

  open_there : m.is_open ≡ true → IsOpenAt e m
  open_there is =
      let can = s.group (sym o ∙ is) in
      record {
        present = λ _. sym o ∙ is;
        parts = omega (arith, p, ap length parts_are);
        mark = omega (arith, mark_is, can.held, j);
        plain =
            subst (λ l. AreRecords (m.journal - (group_at e m.groups).mark) l)
            (sym (drop-none e.journal.entries (length e.journal.entries - m.journal) (omega (arith, j))))
            (subst (λ n. AreRecords n e.journal.entries)
            (let q : length e.journal.entries - e.mark ≡ m.journal - (group_at e m.groups).mark =
            omega (arith, j, mark_is) in q)
            can.plain);
        spare = omega (arith, j, can.spare);
        update = subst (λ n. IsUpdateInOrder (tree_there e n).nodes) (sym mark_is) can.update;
      }

  pub marked_recalls : Recalls e m (whole_of e)
  marked_recalls = record {
    held = record {
      journal = omega (arith, j);
      inbox = omega (arith, i);
      starts = omega (arith, a);
      groups = omega (arith, g);
      update = subst (λ (x : Maps). IsUpdateInOrder x.nodes) (sym t) s.update;
      object = subst (λ l. FitsObject e.inbox.max_obj (present l)) (sym all) s.object;
      group = open_there;
      closed = λ off. p ∙ ap length (s.closed (sym o ∙ off));
    };
    there =
        same-whole (tree_there e m.journal) (maps_of e.tree.rows) _ _ _ _ _ _ _ _ t (ap present all)
        (ap (λ b. group_of e.tree.rows e.journal.entries b (group_at e m.groups).mark
        (take m.parts (group_at e m.groups).parts)) o
        ∙ group-kept e.is_open e.tree.rows e.tree.rows e.journal.entries e.journal.entries e.mark
        (group_at e m.groups).mark e.parts (take m.parts (group_at e m.groups).parts)
        (λ _. (
          ap (tree_there e) mark_is,
          ap (take m.parts) parts_are ∙ ap (λ n. take n e.parts) p ∙ take-length e.parts,
        )))
        (ap (λ n. get_or (starts_of e) n None) a ∙ get_or-append_seam e.starts.items e.started [] None)
        (ap (λ b. base_ids_of e.tree.rows e.journal.entries b (group_at e m.groups).mark) o
        ∙ base-ids-kept e.is_open e.tree.rows e.tree.rows e.journal.entries e.journal.entries e.mark
        (group_at e m.groups).mark (λ _. ap (tree_there e) mark_is));
  }

  pub marked_past : past_at e m ≡ past_of e
  marked_past =
      same-past _ _ _ _ _ _ _ _
      (ap (λ b. if b then (group_at e m.groups).mark else m.journal) o
      ∙ entries-before e.is_open (group_at e m.groups).mark e.mark m.journal (length e.journal.entries)
      (λ is. mark_is) (λ is. j))
      (let q : m.inbox ≡ length e.inbox.objects - 1 = omega (arith, i) in q) a g

  -- no mark that is held was taken later
  pub marked_latest : (k : EngineMark) → IsKnownStill e k → IsEarlier k m
  marked_latest k h = record {
    journal = omega (arith, h.journal, j);
    inbox = omega (arith, h.inbox, i);
    starts = omega (arith, h.starts, a);
    groups = omega (arith, h.groups, g);
    same = λ is at.
        let was = h.group is in
        let last : k.groups ≡ length e.ended.items = at ∙ g in (
          omega (arith, was.parts, ap (λ (x : EndedGroup). length x.parts) (at-end e k.groups last), p),
          o ∙ was.present last,
        );
  }

-- ---- what is reached

module _ {A : Type 0} (l r : List A) (x d : A) (n : ℕ) (inside : n < length l) (is : take (n + 1) l ≡ r ++ x ∷ []) where
  long : length r ≡ n
  long = omega (arith, inside, ap length is, length-take-le (n + 1) l (omega (arith, inside)), length-append r (x ∷ []))

  pub cut_rest : r ≡ take n l
  cut_rest =
      sym (take-length r) ∙ sym (take-append-le (length r) r (x ∷ []) (omega arith))
      ∙ ap (take (length r)) (sym is) ∙ ap (λ k. take k (take (n + 1) l)) long
      ∙ take-take n (n + 1) l (omega arith)

  pub cut_last : x ≡ get_or l n d
  cut_last =
      sym (get_or-append_seam r x [] d) ∙ ap (λ k. get_or k (length r) d) (sym is)
      ∙ ap (λ k. get_or (take (n + 1) l) k d) long ∙ get_or-take (n + 1) l n d (omega arith)

-- ---- back

pub record GoesBack (e f : Engine) (m : EngineMark) : Type 0 where
  pub sound : IsSound f.journal.entries f.tree.rows
  pub there : maps_of f.tree.rows ≡ tree_there e m.journal
  pub trees : RecallsTrees m.journal e.journal.entries e.tree.rows f.journal.entries f.tree.rows
  pub alike : AreAlike (drop (length e.journal.entries - m.journal) e.journal.entries) f.journal.entries
  pub long : length f.journal.entries ≡ m.journal
  pub room : f.journal.room ≡ e.journal.room
  pub inbox : f.inbox ≡ record e.inbox { objects = take (m.inbox + 1) e.inbox.objects }
  pub starts : f.starts.items ≡ take m.starts e.starts.items
  pub started : f.started ≡ get_or (starts_of e) m.starts None
  pub ended : f.ended.items ≡ take m.groups e.ended.items
  pub capacity : vec_capacity f.ended ≡ vec_capacity e.ended
  pub mark : f.mark ≡ (group_at e m.groups).mark
  pub parts : f.parts ≡ take m.parts (group_at e m.groups).parts
  pub is_open : f.is_open ≡ m.is_open

module _ (e f : Engine) (m : EngineMark) (h : IsKnownStill e m) (b : GoesBack e f m) where
  base : m.is_open ≡ true → tree_there f f.mark ≡ tree_there e (group_at e m.groups).mark
  base is = ap (tree_there f) b.mark ∙ (b.trees (group_at e m.groups).mark (h.group is).mark).1

  gone_there : whole_of f ≡ recalled e m
  gone_there =
      same-whole (maps_of f.tree.rows) (tree_there e m.journal) _ _ _ _ _ _ _ _ b.there
      (ap (λ (i : Seen). present i.objects) b.inbox)
      (ap (λ x. group_of f.tree.rows f.journal.entries x f.mark f.parts) b.is_open
      ∙ group-kept m.is_open e.tree.rows f.tree.rows e.journal.entries f.journal.entries (group_at e m.groups).mark
      f.mark
      (take m.parts (group_at e m.groups).parts) f.parts (λ is. (base is, b.parts)))
      b.started
      (ap (λ x. base_ids_of f.tree.rows f.journal.entries x f.mark) b.is_open
      ∙ base-ids-kept m.is_open e.tree.rows f.tree.rows e.journal.entries f.journal.entries (group_at e m.groups).mark
      f.mark base)

  pub back_whole : (w : Whole) → Recalls e m w → whole_of f ≡ w
  back_whole w r = gone_there ∙ r.there

  ended_long : length f.ended.items ≡ m.groups
  ended_long = ap length b.ended ∙ length-take-le m.groups e.ended.items h.groups

  pub back_past : past_of f ≡ past_at e m
  back_past =
      same-past _ _ _ _ _ _ _ _
      (ap (λ x. if x then f.mark else length f.journal.entries) b.is_open
      ∙ entries-before m.is_open f.mark (group_at e m.groups).mark (length f.journal.entries) m.journal
      (λ is. b.mark) (λ is. b.long))
      (let q : length f.inbox.objects - 1 ≡ m.inbox = omega (
        arith,
        ap (λ (i : Seen). length i.objects) b.inbox,
        length-take-le (m.inbox + 1) e.inbox.objects (omega (arith, h.inbox)),
      ) in q)
      (ap length b.starts ∙ length-take-le m.starts e.starts.items h.starts) ended_long

  has_room : IsSoundEngine e → m.is_open ≡ true → vec_len f.ended < vec_capacity f.ended
  has_room s is = elim (same_or_not m.groups (length e.ended.items)) [
    | inl last ↦
        omega (arith, f.ended.ok.0, e.ended.ok.0, ended_long, last, b.capacity, s.ended ((h.group is).present last))
    | inr other ↦
        omega (arith, f.ended.ok.0, e.ended.ok.0, e.ended.ok.1, ended_long, other, h.groups, b.capacity)
  ]

  pub back_sound : IsSoundEngine e → IsSoundEngine f
  back_sound s = record {
    journal = b.sound;
    spare = omega (arith, s.spare, b.long, b.room, h.journal);
    update = subst (λ (x : Maps). IsUpdateInOrder x.nodes) (sym b.there) h.update;
    max_obj = subst (λ (i : Seen). i.max_obj ≤ 4194304) (sym b.inbox) s.max_obj;
    object = subst (λ (i : Seen). FitsObject i.max_obj (present i.objects)) (sym b.inbox) h.object;
    group = λ is.
        let at = h.group (sym b.is_open ∙ is) in
        record {
          held = omega (arith, b.mark, b.long, at.mark);
          plain = subst (λ n. AreRecords n f.journal.entries)
              (let q : m.journal - (group_at e m.groups).mark ≡ length f.journal.entries - f.mark =
              omega (arith, b.long, b.mark) in q)
              (records_alike (m.journal - (group_at e m.groups).mark)
              (drop (length e.journal.entries - m.journal) e.journal.entries) f.journal.entries b.alike at.plain);
          spare = omega (arith, at.spare, b.long, b.room);
          update = subst (λ (x : Maps). IsUpdateInOrder x.nodes) (sym (base (sym b.is_open ∙ is))) at.update;
        };
    ended = λ is. has_room s (sym b.is_open ∙ is);
    closed = λ off. b.parts ∙ none-taken (group_at e m.groups).parts m.parts (h.closed (sym b.is_open ∙ off));
  }

  -- ---- an earlier mark

  -- what it recalls of its group
  record KeepsGroup (k : EngineMark) : Type 0 where
    mark : (group_at f k.groups).mark ≡ (group_at e k.groups).mark
    long : k.parts ≤ length (group_at f k.groups).parts
    parts : take k.parts (group_at f k.groups).parts ≡ take k.parts (group_at e k.groups).parts

  keeps-group : (k : EngineMark) → IsEarlier k m → k.is_open ≡ true → IsOpenAt e k → KeepsGroup k
  keeps-group k early is at = elim (same_or_not k.groups m.groups) [
    | inl s ↦
        let here : group_at f k.groups ≡ record { mark = f.mark; parts = f.parts } =
        at-end f k.groups (s ∙ sym ended_long) in
        let few : k.parts ≤ m.parts = (early.same is s).0 in
        let parts : (group_at f k.groups).parts ≡ take m.parts (group_at e k.groups).parts =
        ap (λ (x : EndedGroup). x.parts) here ∙ b.parts ∙ ap (λ n. take m.parts (group_at e n).parts) (sym s) in
        record {
          mark = ap (λ (x : EndedGroup). x.mark) here ∙ b.mark ∙ ap (λ n. (group_at e n).mark) (sym s);
          long = omega (arith, ap length parts, few-taken k.parts m.parts (group_at e k.groups).parts few at.parts);
          parts = ap (take k.parts) parts ∙ take-take k.parts m.parts (group_at e k.groups).parts few;
        }
    | inr d ↦
        let less : k.groups < m.groups = omega (arith, early.groups, d) in
        let same : group_at f k.groups ≡ group_at e k.groups =
        get_or-append f.ended.items (record { mark = f.mark; parts = f.parts } ∷ []) no_group k.groups
        (omega (arith, less, ended_long))
        ∙ ap (λ l. get_or l k.groups no_group) b.ended
        ∙ get_or-take m.groups e.ended.items k.groups no_group less
        ∙ sym (get_or-append e.ended.items (record { mark = e.mark; parts = e.parts } ∷ []) no_group k.groups
        (omega (arith, less, h.groups))) in
        record {
          mark = ap (λ (x : EndedGroup). x.mark) same;
          long = omega (arith, at.parts, ap (λ (x : EndedGroup). length x.parts) same);
          parts = ap (λ (x : EndedGroup). take k.parts x.parts) same;
        }
  ]

  earlier-open : (k : EngineMark) → IsEarlier k m → k.is_open ≡ true → IsOpenAt e k → IsOpenAt f k
  earlier-open k early is at =
      let kept = keeps-group k early is at in
      let far : (length e.journal.entries - m.journal) + (m.journal - k.journal)
      ≡ length e.journal.entries - k.journal =
      omega (arith, h.journal, early.journal) in
      record {
        present = λ s. b.is_open ∙ (early.same is (s ∙ ended_long)).1;
        parts = kept.long;
        mark = omega (arith, kept.mark, at.mark);
        plain =
            subst (λ n. AreRecords (k.journal - n) (drop (length f.journal.entries - k.journal) f.journal.entries))
            (sym kept.mark)
            (records_alike (k.journal - (group_at e k.groups).mark)
            (drop (length e.journal.entries - k.journal) e.journal.entries)
            (drop (length f.journal.entries - k.journal) f.journal.entries)
            (subst (λ n. AreAlike (drop (length e.journal.entries - k.journal) e.journal.entries)
            (drop n f.journal.entries))
            (let q : m.journal - k.journal ≡ length f.journal.entries - k.journal = omega (arith, b.long) in q)
            (subst (λ l. AreAlike l (drop (m.journal - k.journal) f.journal.entries))
            (drop-drop (m.journal - k.journal) (length e.journal.entries - m.journal) e.journal.entries
            ∙ ap (λ n. drop n e.journal.entries) far)
            (alike_drop (m.journal - k.journal) (drop (length e.journal.entries - m.journal) e.journal.entries)
            f.journal.entries b.alike)))
            at.plain);
        spare = omega (arith, at.spare, b.room);
        update = subst (λ (x : Maps). IsUpdateInOrder x.nodes)
            (sym (ap (tree_there f) kept.mark
            ∙ (b.trees (group_at e k.groups).mark (omega (arith, at.mark, early.journal))).1)) at.update;
      }

  taken : (k : EngineMark) → IsEarlier k m → take (k.inbox + 1) f.inbox.objects ≡ take (k.inbox + 1) e.inbox.objects
  taken k early =
      ap (λ (i : Seen). take (k.inbox + 1) i.objects) b.inbox
      ∙ take-take (k.inbox + 1) (m.inbox + 1) e.inbox.objects (omega (arith, early.inbox))

  earlier-held : (k : EngineMark) → IsKnownStill e k → IsEarlier k m → IsKnownStill f k
  earlier-held k hk early = record {
    journal = omega (arith, b.long, early.journal);
    inbox = omega (
      arith,
      ap (λ (i : Seen). length i.objects) b.inbox,
      length-take-le (m.inbox + 1) e.inbox.objects (omega (arith, h.inbox)),
      early.inbox,
    );
    starts = omega (arith, ap length b.starts, length-take-le m.starts e.starts.items h.starts, early.starts);
    groups = omega (arith, ended_long, early.groups);
    update = subst (λ (x : Maps). IsUpdateInOrder x.nodes) (sym (b.trees k.journal early.journal).1) hk.update;
    object = subst (λ n. FitsObject n (present (take (k.inbox + 1) f.inbox.objects)))
        (sym (ap (λ (i : Seen). i.max_obj) b.inbox))
        (subst (λ l. FitsObject e.inbox.max_obj (present l)) (sym (taken k early)) hk.object);
    group = λ is. earlier-open k early is (hk.group is);
    closed = hk.closed;
  }

  earlier-there : (k : EngineMark) → IsKnownStill e k → IsEarlier k m → recalled f k ≡ recalled e k
  earlier-there k hk early =
      same-whole (tree_there f k.journal) (tree_there e k.journal) _ _ _ _ _ _ _ _
      (b.trees k.journal early.journal).1 (ap present (taken k early))
      (group-kept k.is_open e.tree.rows f.tree.rows e.journal.entries f.journal.entries (group_at e k.groups).mark
      (group_at f k.groups).mark (take k.parts (group_at e k.groups).parts) (take k.parts (group_at f k.groups).parts)
      (λ is. (first is, (keeps-group k early is (hk.group is)).parts)))
      started
      (base-ids-kept k.is_open e.tree.rows f.tree.rows e.journal.entries f.journal.entries (group_at e k.groups).mark
      (group_at f k.groups).mark first)
    where
      first : k.is_open ≡ true → tree_there f (group_at f k.groups).mark ≡ tree_there e (group_at e k.groups).mark
      first is =
          ap (tree_there f) (keeps-group k early is (hk.group is)).mark
          ∙ (b.trees (group_at e k.groups).mark (omega (arith, (hk.group is).mark, early.journal))).1

      starts_long : length f.starts.items ≡ m.starts
      starts_long = ap length b.starts ∙ length-take-le m.starts e.starts.items h.starts

      started : get_or (starts_of f) k.starts None ≡ get_or (starts_of e) k.starts None
      started = elim (same_or_not k.starts m.starts) [
        | inl s ↦
            ap (λ n. get_or (starts_of f) n None) (s ∙ sym starts_long)
            ∙ get_or-append_seam f.starts.items f.started [] None ∙ b.started
            ∙ ap (λ n. get_or (starts_of e) n None) (sym s)
        | inr d ↦
            let less : k.starts < m.starts = omega (arith, early.starts, d) in
            get_or-append f.starts.items (f.started ∷ []) None k.starts (omega (arith, less, starts_long))
            ∙ ap (λ l. get_or l k.starts None) b.starts
            ∙ get_or-take m.starts e.starts.items k.starts None less
            ∙ sym (get_or-append e.starts.items (e.started ∷ []) None k.starts (omega (arith, less, h.starts)))
      ]

  pub back_earlier : (k : EngineMark) (w : Whole) → Recalls e k w → IsEarlier k m → Recalls f k w
  back_earlier k w r early = record {
    held = earlier-held k r.held early;
    there = earlier-there k r.held early ∙ r.there;
  }

-- ---- an engine that is settled

abbrev pub first_of : Engine → ℕ
first_of e = if e.is_open then e.mark else length e.journal.entries

pub first_held : (e : Engine) (first : ℕ) → IsSoundEngine e → first ≡ first_of e → first ≤ length e.journal.entries
first_held e first s is = by_open e.is_open refl is
  where
    by_open : (b : Bool) → e.is_open ≡ b → first ≡ (if b then e.mark else length e.journal.entries)
        → first ≤ length e.journal.entries
    by_open true o f = omega (arith, f, (s.group o).held)
    by_open false o f = omega (arith, f)

none_taken : (es : List Entry) (n : ℕ) → n ≡ 0 → StaysWithin (take n es)
none_taken [] zero e = tt
none_taken (x ∷ es) zero e = tt
none_taken es (suc n) e = absurd (omega (arith, e))

pub first_within : (e : Engine) (first : ℕ) → IsSoundEngine e → first ≡ first_of e
    → StaysWithin (take (length e.journal.entries - first) e.journal.entries)
first_within e first s is = by_open e.is_open refl is
  where
    by_open : (b : Bool) → e.is_open ≡ b → first ≡ (if b then e.mark else length e.journal.entries)
        → StaysWithin (take (length e.journal.entries - first) e.journal.entries)
    by_open true o f = subst (λ n. StaysWithin (take (length e.journal.entries - n) e.journal.entries)) (sym f)
        (within-records (length e.journal.entries - e.mark) e.journal.entries (s.group o).plain)
    by_open false o f = none_taken e.journal.entries (length e.journal.entries - first) (omega (arith, f))

pub record Settles (e f : Engine) (first : ℕ) : Type 0 where
  pub is_first : first ≡ first_of e
  pub sound : IsSound f.journal.entries f.tree.rows
  pub there : maps_of f.tree.rows ≡ maps_of e.tree.rows
  pub trees : RecallsFrom first e.journal.entries e.tree.rows f.journal.entries f.tree.rows
  pub journal : f.journal ≡ record e.journal {
    entries = take (length e.journal.entries - first) e.journal.entries;
    room = e.journal.room - first;
  }
  pub mark : f.mark ≡ 0
  pub inbox : f.inbox ≡ record e.inbox { objects = present e.inbox.objects ∷ [] }
  pub starts : f.starts.items ≡ []
  pub ended : f.ended.items ≡ []
  pub capacity : vec_capacity f.ended ≡ vec_capacity e.ended
  pub parts : f.parts ≡ e.parts
  pub is_open : f.is_open ≡ e.is_open
  pub started : f.started ≡ e.started

records_take : (c : ℕ) (es : List Entry) → AreRecords c es → AreRecords c (take c es)
records_take zero [] h = tt
records_take zero (e ∷ es) h = tt
records_take (suc c) [] h = absurd h
records_take (suc c) (Record u ∷ es) h = records_take c es h
records_take (suc c) (Flipped d ∷ es) h = absurd h

either-is : (b : Bool) (m n k : ℕ) → m ≡ k → (b ≡ false → n ≡ k) → (if b then m else n) ≡ k
either-is true m n k is other = is
either-is false m n k is other = other refl

closed-by : (b : Bool) (rows : List Row) (es : List Entry) (mark : ℕ) (parts : List Part)
    → group_of rows es b mark parts ≡ None → b ≡ false
closed-by true rows es mark parts none = absurd (cc)
closed-by false rows es mark parts none = refl

module _ (e f : Engine) (first : ℕ) (s : IsSoundEngine e) (x : Settles e f first) where
  at_mark : e.is_open ≡ true → first ≡ e.mark
  at_mark o = x.is_first ∙ ap (λ b. if b then e.mark else length e.journal.entries) o

  kept_base : e.is_open ≡ true → tree_there f f.mark ≡ tree_there e e.mark
  kept_base o =
      ap (tree_there f) x.mark
      ∙ (x.trees 0 (omega (arith, first_held e first s x.is_first))).1
      ∙ ap (tree_there e) (let q : first + 0 ≡ e.mark = omega (arith, at_mark o) in q)

  pub settled_whole : whole_of f ≡ whole_of e
  settled_whole =
      same-whole (maps_of f.tree.rows) (maps_of e.tree.rows) _ _ _ _ _ _ _ _ x.there
      (ap (λ (i : Seen). present i.objects) x.inbox)
      (ap (λ b. group_of f.tree.rows f.journal.entries b f.mark f.parts) x.is_open
      ∙ group-kept e.is_open e.tree.rows f.tree.rows e.journal.entries f.journal.entries e.mark f.mark e.parts f.parts
      (λ o. (kept_base o, x.parts)))
      x.started
      (ap (λ b. base_ids_of f.tree.rows f.journal.entries b f.mark) x.is_open
      ∙ base-ids-kept e.is_open e.tree.rows f.tree.rows e.journal.entries f.journal.entries e.mark f.mark kept_base)

  entries_are : f.journal.entries ≡ take (length e.journal.entries - first) e.journal.entries
  entries_are = ap (λ (j : Journal). j.entries) x.journal

  entries_long : length f.journal.entries ≡ length e.journal.entries - first
  entries_long =
      ap length entries_are ∙ length-take-le (length e.journal.entries - first) e.journal.entries (omega arith)

  room_is : f.journal.room ≡ e.journal.room - first
  room_is = ap (λ (j : Journal). j.room) x.journal

  closed_first : e.is_open ≡ false → first ≡ length e.journal.entries
  closed_first o = x.is_first ∙ ap (λ b. if b then e.mark else length e.journal.entries) o

  one_object : length f.inbox.objects ≡ 1
  one_object = ap (λ (i : Seen). length i.objects) x.inbox

  no_entries : f.is_open ≡ false → length f.journal.entries ≡ 0
  no_entries o = omega (arith, entries_long, closed_first (sym x.is_open ∙ o))

  pub settled_past : past_of f ≡ no_past
  settled_past =
      same-past _ 0 _ 0 _ 0 _ 0
      (either-is f.is_open f.mark (length f.journal.entries) 0 x.mark no_entries)
      (let q : length f.inbox.objects - 1 ≡ 0 = omega (arith, one_object) in q) (ap length x.starts) (ap length x.ended)

  -- where no group is open, each mark that is held is the present one
  is-closed : (state_of f).group ≡ None → f.is_open ≡ false
  is-closed = closed-by f.is_open f.tree.rows f.journal.entries f.mark f.parts

  mark-closed : (k : EngineMark) → f.is_open ≡ false → IsKnownStill f k → (b : Bool) → k.is_open ≡ b → k.is_open ≡ false
  mark-closed k closed h true o =
      let again : f.is_open ≡ true = (h.group o).present (omega (arith, h.groups, ap length x.ended)) in
      absurd (cc)
  mark-closed k closed h false o = o

  present-again : (k : EngineMark) → (state_of f).group ≡ None → IsKnownStill f k → recalled f k ≡ whole_of f
  present-again k closed h =
      let off = is-closed closed in
      let mark-off = mark-closed k off h k.is_open refl in
      let objects : k.inbox + 1 ≡ length f.inbox.objects = omega (arith, h.inbox, one_object) in
      let starts : k.starts ≡ length f.starts.items = omega (arith, h.starts, ap length x.starts) in
      same-whole (tree_there f k.journal) (maps_of f.tree.rows) _ _ _ _ _ _ _ _
      (at_end f.journal.entries f.tree.rows k.journal (omega (arith, h.journal, no_entries off)))
      (ap present (ap (λ n. take n f.inbox.objects) objects ∙ take-length f.inbox.objects))
      (ap (λ b. group_of f.tree.rows f.journal.entries b (group_at f k.groups).mark
      (take k.parts (group_at f k.groups).parts)) mark-off ∙ sym closed)
      (ap (λ n. get_or (starts_of f) n None) starts ∙ get_or-append_seam f.starts.items f.started [] None)
      (ap (λ b. base_ids_of f.tree.rows f.journal.entries b (group_at f k.groups).mark) mark-off
      ∙ sym (ap (λ b. base_ids_of f.tree.rows f.journal.entries b f.mark) off))

  pub settled_gone : (state_of f).group ≡ None → (k : EngineMark) (w : Whole) → Recalls f k w → w ≡ whole_of f
  settled_gone closed k w r = sym r.there ∙ present-again k closed r.held

  pub settled_sound : IsSoundEngine f
  settled_sound = record {
    journal = x.sound;
    spare = omega (arith, s.spare, entries_long, room_is, first_held e first s x.is_first);
    update = subst (λ (y : Maps). IsUpdateInOrder y.nodes) (sym x.there) s.update;
    max_obj = subst (λ (i : Seen). i.max_obj ≤ 4194304) (sym x.inbox) s.max_obj;
    object = subst (λ (i : Seen). FitsObject i.max_obj (present i.objects)) (sym x.inbox) s.object;
    group = λ is.
        let o : e.is_open ≡ true = sym x.is_open ∙ is in
        let can = s.group o in
        let c = length e.journal.entries - e.mark in
        record {
          held = omega (arith, x.mark);
          plain = subst (λ n. AreRecords n f.journal.entries)
              (let q : c ≡ length f.journal.entries - f.mark = omega (arith, x.mark, entries_long, at_mark o) in q)
              (subst (AreRecords c)
              (sym (entries_are ∙ ap (λ n. take (length e.journal.entries - n) e.journal.entries) (at_mark o)))
              (records_take c e.journal.entries can.plain));
          spare = omega (arith, can.spare, entries_long, room_is, first_held e first s x.is_first);
          update = subst (λ (y : Maps). IsUpdateInOrder y.nodes) (sym (kept_base o)) can.update;
        };
    ended = λ is.
        omega (arith, s.ended (sym x.is_open ∙ is), x.capacity, f.ended.ok.0, ap length x.ended);
    closed = λ off. x.parts ∙ s.closed (sym x.is_open ∙ off);
  }
