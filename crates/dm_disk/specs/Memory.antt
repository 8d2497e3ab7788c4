-- A disk in memory, which keeps what was written and synced on it.
use Rattle.std.specs.Prelude.{◌≡◌, ◌≤◌, ◌⊎◌, ◌+◌, ◌++◌, ⊤, ℕ, zero, suc, true, List, [], ◌∷◌, length, Some, Result}
use Rattle.std.specs.Prelude.{Ok, Err}
use Rattle.std.proofs.Common.{inr, refl}
use Rattle.dm_base.specs.Memory.{one_more}
use Rattle.dm_base.specs.declared.outside.Failed.{Failed}
use Rattle.dm_base.specs.declared.outside.Fault.{Fault}
use Rattle.dm_base.specs.declared.outside.Fault.TheVariants as fault
use Rattle.dm_disk.specs.declared.memory.Call.{Call}
use Rattle.dm_disk.specs.declared.memory.Call.TheVariants.{Write, Sync}
use Rattle.dm_disk.specs.Disk.{DiskState, IsDisk, IsTorn, patched}

-- what a read gives, what was there at the last sync, and the ranges that were written since, the newest first
pub record Snapshot : Type 0 where
  pub now : List ℕ
  pub synced : List ℕ
  pub pending : List (ℕ × ℕ)

-- no write is pending
abbrev pub at_rest : List ℕ → Snapshot
at_rest bytes = record { now = bytes; synced = bytes; pending = [] }

abbrev pub after_call : Snapshot → Call → Snapshot
after_call s (Write at bytes) = record s { now = patched at bytes s.now; pending = (at, length bytes) ∷ s.pending }
after_call s Sync = at_rest s.now

abbrev pub after_calls : Snapshot → List Call → Snapshot
after_calls s [] = s
after_calls s (call ∷ calls) = after_calls (after_call s call) calls

-- any bytes in each of the ranges
abbrev pub IsTornBy : List (ℕ × ℕ) → List ℕ → List ℕ → Type 0
IsTornBy [] b c = c ≡ b
IsTornBy (range ∷ ranges) b c = (m : List ℕ) × IsTornBy ranges b m × IsTorn range.0 range.1 m c

-- a crash may leave it
abbrev pub IsImage : Snapshot → List ℕ → Type 0
IsImage s c = IsTornBy s.pending s.synced c

-- a crash may leave it after so many of these calls, or more
abbrev pub IsLeftSince : Snapshot → List Call → ℕ → List ℕ → Type 0
IsLeftSince s [] t c = IsImage s c
IsLeftSince s (call ∷ calls) zero c = IsImage s c ⊎ IsLeftSince (after_call s call) calls zero c
IsLeftSince s (call ∷ calls) (suc t) c = IsLeftSince (after_call s call) calls t c

-- each write was within so many bytes
abbrev pub AreWithin : ℕ → List Call → Type 0
AreWithin n [] = ⊤
AreWithin n (Write at bytes ∷ calls) = (at + length bytes ≤ n) × AreWithin n calls
AreWithin n (Sync ∷ calls) = AreWithin n calls

-- a disk in memory: what it held at first and holds now, the writes and syncs that were done, which calls fail, and how
-- many calls and faults there were
pub record MemState : Type 0 where
  pub first : List ℕ
  pub bytes : List ℕ
  pub done : List Call
  pub fails : List ℕ
  pub calls : ℕ
  pub faults : ℕ

-- a disk that holds these bytes, all of them for good
abbrev pub disk_of : List ℕ → List ℕ → MemState
disk_of bytes fails = record { first = bytes; bytes = bytes; done = []; fails = fails; calls = 0; faults = 0 }

-- a call that fails is one call and one fault more, and leaves what a read gives
abbrev pub after_fault : MemState → MemState
after_fault m = record m { calls = one_more m.calls; faults = one_more m.faults }

-- a read is one call more
abbrev pub MemReads : MemState → MemState → Result (Unit {0}) Failed → Type 0
MemReads old new (Ok u) = new ≡ record old { calls = one_more old.calls }
MemReads old new (Err e) = new ≡ after_fault old

-- a write or a sync is one call more, and is noted where it succeeds; for want of memory it is no call at all
abbrev pub MemDoes : Call → List ℕ → MemState → MemState → Result (Unit {0}) Fault → Type 0
MemDoes call bytes old new (Ok u) =
    new ≡ record old { bytes = bytes; done = old.done ++ call ∷ []; calls = one_more old.calls }
MemDoes call bytes old new (Err fault.Failed) = new ≡ after_fault old
MemDoes call bytes old new (Err fault.Memory) = new ≡ old

abbrev pub disk_state : MemState → DiskState
disk_state m = record {
  size = length m.bytes;
  seen = Some m.bytes;
  tells = true;
  may_leave = IsImage (after_calls (at_rest m.first) m.done);
  moment = length m.done;
  left_since = IsLeftSince (at_rest m.first) m.done;
  faults = m.faults;
}

now_counts : (s : Snapshot) (calls : List Call) (t : ℕ) (c : List ℕ) → IsImage (after_calls s calls) c
    → IsLeftSince s calls t c
now_counts s [] t c h = h
now_counts s (call ∷ calls) zero c h = inr (now_counts (after_call s call) calls zero c h)
now_counts s (call ∷ calls) (suc t) c h = now_counts (after_call s call) calls t c h

now_alone : (s : Snapshot) (calls : List Call) (c : List ℕ) → IsLeftSince s calls (length calls) c
    → IsImage (after_calls s calls) c
now_alone s [] c h = h
now_alone s (call ∷ calls) c h = now_alone (after_call s call) calls c h

pub mem_disk : (m : MemState) → IsDisk (disk_state m)
mem_disk m = record {
  long = refl;
  counts_now = λ t c le h. now_counts (at_rest m.first) m.done t c h;
  only_now = λ c h. now_alone (at_rest m.first) m.done c h;
}
