-- One call more in the record of a disk in memory.
use Rattle.std.proofs.Common.{◌≡◌, ◌⊎◌, inl, inr, ⊎_elim, ℕ, zero, suc, ◌+◌, ◌≤◌}
use Rattle.std.proofs.Common.{List, [], ◌∷◌, ◌++◌, length, refl, sym, subst, arith, length-append}
use Rattle.dm_disk.specs.declared.memory.Call.{Call}
use Rattle.std.proofs.Common.{ap, ◌∙◌}
use Rattle.std.proofs.Common.{take, get_or, ◌<◌}
use Rattle.std.proofs.lemmas.List.{take_more}
use Rattle.std.specs.Prelude.{Some, Ok, Err}
use Rattle.dm_base.specs.declared.outside.Fault.{Fault}
use Rattle.dm_base.specs.Outside.{PutCounts}
use Rattle.dm_disk.specs.declared.memory.Call.TheVariants.{Write, Sync}
use Rattle.dm_disk.specs.Disk.{Elapses, IsLeftTorn, LeavesNoMore, IsSameDisk, DiskWrites, DiskSyncs, patched}
use Rattle.dm_disk.proofs.Torn.{patched_torn, torn_none}
use Rattle.dm_disk.specs.Memory.{Snapshot, at_rest, after_call, after_calls}
use Rattle.dm_disk.specs.Memory.{IsImage, IsLeftSince, AreWithin, MemState, disk_state}

pub calls_more : (s : Snapshot) (calls : List Call) (x : Call)
    → after_calls s (calls ++ x ∷ []) ≡ after_call (after_calls s calls) x
calls_more s [] x = refl
calls_more s (call ∷ calls) x = calls_more (after_call s call) calls x

more_else : (s : Snapshot) (calls : List Call) (x : Call) (t : ℕ) (c : List ℕ) → t ≤ length calls
    → IsLeftSince s (calls ++ x ∷ []) t c → IsLeftSince s calls t c ⊎ IsImage (after_calls s (calls ++ x ∷ [])) c
more_else s [] x zero c le h = h
more_else s [] x (suc t) c le h = absurd (none le)
  where
    none : suc t ≤ 0 → ⊥
    none le = omega (arith, le)
more_else s (call ∷ calls) x zero c le (inl h) = inl (inl h)
more_else s (call ∷ calls) x zero c le (inr h) =
    ⊎_elim (λ was. inl (inr was)) (λ now. inr now) (more_else (after_call s call) calls x zero c (omega arith) h)
more_else s (call ∷ calls) x (suc t) c le h = more_else (after_call s call) calls x t c (omega (arith, le)) h

more_keeps : (s : Snapshot) (calls : List Call) (x : Call) (t : ℕ) (c : List ℕ) → IsLeftSince s calls t c
    → t ≤ length calls → IsLeftSince s (calls ++ x ∷ []) t c
more_keeps s [] x zero c h le = inl h
more_keeps s [] x (suc t) c h le = absurd (none le)
  where
    none : suc t ≤ 0 → ⊥
    none le = omega (arith, le)
more_keeps s (call ∷ calls) x zero c (inl h) le = inl h
more_keeps s (call ∷ calls) x zero c (inr h) le = inr (more_keeps (after_call s call) calls x zero c h (omega arith))
more_keeps s (call ∷ calls) x (suc t) c h le = more_keeps (after_call s call) calls x t c h (omega (arith, le))

-- a call more in the record
pub elapses_call : (old new : MemState) (x : Call) → new.first ≡ old.first → new.done ≡ old.done ++ x ∷ []
    → Elapses (disk_state old) (disk_state new)
elapses_call old new x same more = record {
  later = omega (arith, ap length more, length-append old.done (x ∷ []));
  nothing_else = λ t c le h.
      subst (λ (calls : List Call). IsLeftSince (at_rest old.first) old.done t c
      ⊎ IsImage (after_calls (at_rest new.first) calls) c) (sym more)
      (subst (λ (f : List ℕ). IsLeftSince (at_rest old.first) old.done t c
      ⊎ IsImage (after_calls (at_rest f) (old.done ++ x ∷ [])) c) (sym same)
      (more_else (at_rest old.first) old.done x t c le
      (subst (λ (f : List ℕ). IsLeftSince (at_rest f) (old.done ++ x ∷ []) t c) same
      (subst (λ (calls : List Call). IsLeftSince (at_rest new.first) calls t c) more h))));
  keeps = λ t c le h.
      subst (λ (calls : List Call). IsLeftSince (at_rest new.first) calls t c) (sym more)
      (subst (λ (f : List ℕ). IsLeftSince (at_rest f) (old.done ++ x ∷ []) t c) (sym same)
      (more_keeps (at_rest old.first) old.done x t c h le));
}

-- ---- the snapshot behind one call more

snapshot_more : (old new : MemState) (x : Call) → new.first ≡ old.first → new.done ≡ old.done ++ x ∷ []
    → after_calls (at_rest new.first) new.done ≡ after_call (after_calls (at_rest old.first) old.done) x
snapshot_more old new x same more =
    ap (λ (f : List ℕ). after_calls (at_rest f) new.done) same
    ∙ ap (λ (calls : List Call). after_calls (at_rest old.first) calls) more
    ∙ calls_more (at_rest old.first) old.done x

pub write_left : (old new : MemState) (at : ℕ) (v : List ℕ) → new.first ≡ old.first
    → new.done ≡ old.done ++ Write at v ∷ [] → (c : List ℕ) → (disk_state new).may_leave c
    → IsLeftTorn (disk_state old) at (length v) c
write_left old new at v same more c h = subst (λ (s : Snapshot). IsImage s c)
    (snapshot_more old new (Write at v) same more) h

pub sync_left : (old new : MemState) → new.first ≡ old.first → new.done ≡ old.done ++ Sync ∷ []
    → old.bytes ≡ (after_calls (at_rest old.first) old.done).now → (c : List ℕ) → (disk_state new).may_leave c
    → c ≡ old.bytes
sync_left old new same more now c h =
    subst (λ (s : Snapshot). IsImage s c) (snapshot_more old new Sync same more) h ∙ sym now

-- what a read gives is among what a crash may leave
record IsGood (n : ℕ) (s : Snapshot) : Type 0 where
  long : length s.now ≡ n
  left : IsImage s s.now

good_call : (n : ℕ) (s : Snapshot) (call : Call) → IsGood n s → AreWithin n (call ∷ []) → IsGood n (after_call s call)
good_call n s (Write at bytes) good fit =
    let torn = patched_torn at bytes s.now (omega (arith, good.long, fit.0)) in
    record { long = torn.long ∙ good.long; left = (s.now, good.left, torn) }
good_call n s Sync good fit = record { long = good.long; left = refl }

good_calls : (n : ℕ) (s : Snapshot) (calls : List Call) → IsGood n s → AreWithin n calls
    → IsGood n (after_calls s calls)
good_calls n s [] good fit = good
good_calls n s (Write at bytes ∷ calls) good fit =
    good_calls n (after_call s (Write at bytes)) calls (good_call n s (Write at bytes) good (fit.0, tt)) fit.1
good_calls n s (Sync ∷ calls) good fit = good_calls n (after_call s Sync) calls (good_call n s Sync good tt) fit

pub now_left : (m : MemState) → AreWithin (length m.first) m.done → m.bytes ≡ (after_calls (at_rest m.first) m.done).now
    → (disk_state m).may_leave m.bytes
now_left m fit now =
    let good = good_calls (length m.first) (at_rest m.first) m.done (record { long = refl; left = refl }) fit in
    subst (λ (l : List ℕ). IsImage (after_calls (at_rest m.first) m.done) l) (sym now) good.left

pub within_more : (n : ℕ) (calls : List Call) (call : Call) → AreWithin n calls → AreWithin n (call ∷ [])
    → AreWithin n (calls ++ call ∷ [])
within_more n [] call h k = k
within_more n (Write at bytes ∷ calls) call h k = (h.0, within_more n calls call h.1 k)
within_more n (Sync ∷ calls) call h k = within_more n calls call h k

-- ---- what the calls say

elapses_same : (old new : MemState) → new.first ≡ old.first → new.done ≡ old.done
    → Elapses (disk_state old) (disk_state new)
elapses_same old new same calls = record {
  later = omega (arith, ap length calls);
  nothing_else = λ t c le h. inl (subst (λ (l : List Call). IsLeftSince (at_rest old.first) l t c) calls
      (subst (λ (f : List ℕ). IsLeftSince (at_rest f) new.done t c) same h));
  keeps = λ t c le h. subst (λ (l : List Call). IsLeftSince (at_rest new.first) l t c) (sym calls)
      (subst (λ (f : List ℕ). IsLeftSince (at_rest f) old.done t c) (sym same) h);
}

same_left : (old new : MemState) → new.first ≡ old.first → new.done ≡ old.done
    → LeavesNoMore (disk_state old) (disk_state new)
same_left old new same calls c h =
    subst (λ (l : List Call). IsImage (after_calls (at_rest old.first) l) c) calls
    (subst (λ (f : List ℕ). IsImage (after_calls (at_rest f) new.done) c) same h)

module _ (old new : MemState) (first : new.first ≡ old.first) where
  same_disk : length new.bytes ≡ length old.bytes → IsSameDisk (disk_state old) (disk_state new)
  same_disk long = record { size = long; tells = refl; told = refl }

  pub write_fails : (at : ℕ) (bytes : List ℕ) (e : Fault) → new.bytes ≡ old.bytes → new.done ≡ old.done
      → PutCounts {T = Unit {0}} old.faults new.faults (Err e)
      → DiskWrites at bytes (disk_state old) (disk_state new) (Err e)
  write_fails at bytes e same calls count = record {
    seen = tt;
    same = same_disk (ap length same);
    crash = λ c h. (c, same_left old new first calls c h, torn_none at (length bytes) c);
    time = elapses_same old new first calls;
    count = count;
  }

  pub write_done : (at : ℕ) (bytes : List ℕ) (v : List ℕ) → v ≡ bytes → at + length bytes ≤ length old.bytes
      → new.done ≡ old.done ++ Write at v ∷ [] → new.bytes ≡ patched at bytes old.bytes → new.faults ≡ old.faults
      → DiskWrites at bytes (disk_state old) (disk_state new) (Ok tt)
  write_done at bytes v is within calls now count = record {
    seen = ap (λ (l : List ℕ). Some l) now;
    same = same_disk (ap length now ∙ (patched_torn at bytes old.bytes within).long);
    crash = λ c h. subst (λ (n : ℕ). IsLeftTorn (disk_state old) at n c) (ap length is)
        (write_left old new at v first calls c h);
    time = elapses_call old new (Write at v) first calls;
    count = count;
  }

  pub sync_done : new.bytes ≡ old.bytes → new.done ≡ old.done ++ Sync ∷ [] → new.faults ≡ old.faults
      → old.bytes ≡ (after_calls (at_rest old.first) old.done).now → AreWithin (length old.first) old.done
      → DiskSyncs (disk_state old) (disk_state new) (Ok tt)
  sync_done same calls count now fit = record {
    durable = λ told c h. sync_left old new first calls now c h ∙ sym same;
    seen = ap (λ (l : List ℕ). Some l) same;
    same = same_disk (ap length same);
    crash = λ c h. subst (λ (l : List ℕ). (disk_state old).may_leave l) (sym (sync_left old new first calls now c h))
        (now_left old fit now);
    time = elapses_call old new Sync first calls;
    count = count;
  }

-- ---- the invariant

pub written_inside : (first old bytes : List ℕ) (calls new : List Call) (at : ℕ) (v : List ℕ)
    → old ≡ (after_calls (at_rest first) calls).now → length old ≡ length first → AreWithin (length first) calls
    → new ≡ calls ++ Write at v ∷ [] → bytes ≡ patched at v old → at + length v ≤ length old
    → (bytes ≡ (after_calls (at_rest first) new).now) × (length bytes ≡ length first) × AreWithin (length first) new
written_inside first old bytes calls new at v now long fit more is within = (
  is ∙ ap (λ (l : List ℕ). patched at v l) now
      ∙ ap (λ (s : Snapshot). s.now) (sym (calls_more (at_rest first) calls (Write at v)))
      ∙ ap (λ (l : List Call). (after_calls (at_rest first) l).now) (sym more),
  ap length is ∙ (patched_torn at v old within).long ∙ long,
  subst (λ (l : List Call). AreWithin (length first) l) (sym more)
      (within_more (length first) calls (Write at v) fit (omega (arith, within, long), tt)),
)

pub synced_inside : (first bytes : List ℕ) (calls new : List Call) → bytes ≡ (after_calls (at_rest first) calls).now
    → length bytes ≡ length first → AreWithin (length first) calls → new ≡ calls ++ Sync ∷ []
    → (bytes ≡ (after_calls (at_rest first) new).now) × (length bytes ≡ length first) × AreWithin (length first) new
synced_inside first bytes calls new now long fit more = (
  now ∙ ap (λ (s : Snapshot). s.now) (sym (calls_more (at_rest first) calls Sync))
      ∙ ap (λ (l : List Call). (after_calls (at_rest first) l).now) (sym more),
  long,
  subst (λ (l : List Call). AreWithin (length first) l) (sym more) (within_more (length first) calls Sync fit tt),
)

-- ---- one of the calls

pub within_at : (n : ℕ) (calls : List Call) (i : ℕ) (x : Call) → AreWithin n calls → i < length calls
    → get_or calls i x ≡ x
    → AreWithin n (x ∷ [])
within_at n [] i x fit lt is = absurd (none lt)
  where
    none : i < 0 → ⊥
    none h = omega (arith, h)
within_at n (Write at bytes ∷ calls) zero x fit lt is = subst (λ (y : Call). AreWithin n (y ∷ [])) is (fit.0, tt)
within_at n (Sync ∷ calls) zero x fit lt is = subst (λ (y : Call). AreWithin n (y ∷ [])) is tt
within_at n (Write at bytes ∷ calls) (suc i) x fit lt is = within_at n calls i x fit.1 (omega (arith, lt)) is
within_at n (Sync ∷ calls) (suc i) x fit lt is = within_at n calls i x fit (omega (arith, lt)) is

pub calls_next : (s : Snapshot) (calls : List Call) (i : ℕ) (x : Call) → i < length calls → get_or calls i x ≡ x
    → after_calls s (take (i + 1) calls) ≡ after_call (after_calls s (take i calls)) x
calls_next s calls i x lt is =
    ap (λ (l : List Call). after_calls s l) (take_more calls i x lt ∙ ap (λ (y : Call). take i calls ++ y ∷ []) is)
    ∙ calls_more s (take i calls) x
