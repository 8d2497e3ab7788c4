-- A disk of a fixed length that may lose power: what a read gives, and what a crash may leave.
use Rattle.std.specs.Prelude.{◌≡◌, ◌≤◌, ◌⊎◌, ◌+◌, ◌++◌, ℕ, Bool, IsTrue, List, length, take, drop, Option, Result}
use Rattle.std.specs.Prelude.{option_map, is_some, OnOk}
use Rattle.dm_base.specs.Outside.{OfKnown, TakeCounts, PutCounts}
use Rattle.dm_base.specs.declared.outside.Failed.{Failed}
use Rattle.dm_base.specs.declared.outside.Fault.{Fault}

-- what a disk tells of itself at a moment
pub record DiskState : Type 1 where
  -- how many bytes it has
  pub size : ℕ
  -- what a read gives, where it tells that
  pub seen : Option (List ℕ)
  -- whether it tells what a crash may leave
  pub tells : Bool
  -- what a crash now may leave
  pub may_leave : List ℕ → Type 0
  -- a number that never falls
  pub moment : ℕ
  -- what a crash at some moment from that one on may have left
  pub left_since : ℕ → List ℕ → Type 0
  -- how often it has failed
  pub faults : ℕ

-- these bytes stand from a place on, and the others stay
abbrev pub patched : ℕ → List ℕ → List ℕ → List ℕ
patched at bytes old = take at old ++ bytes ++ drop (at + length bytes) old

-- any bytes in the range, and the same outside
pub record IsTorn (at n : ℕ) (old new : List ℕ) : Type 0 where
  pub before : take at new ≡ take at old
  pub behind : drop (at + n) new ≡ drop (at + n) old
  pub long : length new ≡ length old

-- its size, and what it tells, don't change
pub record IsSameDisk (old new : DiskState) : Type 0 where
  pub size : new.size ≡ old.size
  pub tells : new.tells ≡ old.tells
  pub told : is_some new.seen ≡ is_some old.seen

-- time goes on: what a crash since a moment may have left is what it may have left before, or what it may leave now
pub record Elapses (old new : DiskState) : Type 0 where
  pub later : old.moment ≤ new.moment
  pub nothing_else : (t : ℕ) (c : List ℕ) → t ≤ old.moment → new.left_since t c → old.left_since t c ⊎ new.may_leave c
  pub keeps : (t : ℕ) (c : List ℕ) → t ≤ old.moment → old.left_since t c → new.left_since t c

-- a crash leaves what a read gives, and nothing else
abbrev pub IsOnDisk : DiskState → Type 0
IsOnDisk d = OfKnown d.seen (λ s. (c : List ℕ) → d.may_leave c → c ≡ s)

-- a crash leaves nothing that it might not have left before
abbrev pub LeavesNoMore : DiskState → DiskState → Type 0
LeavesNoMore old new = (c : List ℕ) → new.may_leave c → old.may_leave c

-- what a crash may have left before, with any bytes in the range
abbrev pub IsLeftTorn : DiskState → ℕ → ℕ → List ℕ → Type 0
IsLeftTorn d at n c = (b : List ℕ) × d.may_leave b × IsTorn at n b c

-- a read gives the bytes from a place on, and changes nothing of what is seen or left
pub record DiskReads (at : ℕ) (old new : DiskState) (result : Result (Unit {0}) Failed) (buf : List ℕ) : Type 0 where
  pub bytes : OnOk result (OfKnown old.seen (λ s. buf ≡ take (length buf) (drop at s)))
  pub same : IsSameDisk old new
  pub seen : new.seen ≡ old.seen
  pub crash : LeavesNoMore old new
  pub time : Elapses old new
  pub count : TakeCounts old.faults new.faults result

-- a write is seen at Ok; whatever it answers, a crash may leave any bytes in its range
pub record DiskWrites (at : ℕ) (bytes : List ℕ) (old new : DiskState) (result : Result (Unit {0}) Fault) : Type 0 where
  pub seen : OnOk result (new.seen ≡ option_map (patched at bytes) old.seen)
  pub same : IsSameDisk old new
  pub crash : (c : List ℕ) → new.may_leave c → IsLeftTorn old at (length bytes) c
  pub time : Elapses old new
  pub count : PutCounts old.faults new.faults result

-- after a sync that succeeds a crash leaves what a read gives
pub record DiskSyncs (old new : DiskState) (result : Result (Unit {0}) Fault) : Type 0 where
  pub durable : OnOk result (IsTrue old.tells → IsOnDisk new)
  pub seen : new.seen ≡ old.seen
  pub same : IsSameDisk old new
  pub crash : LeavesNoMore old new
  pub time : Elapses old new
  pub count : PutCounts old.faults new.faults result

-- what holds of a disk at each moment
pub record IsDisk (d : DiskState) : Type 0 where
  pub long : OfKnown d.seen (λ s. length s ≡ d.size)
  -- this moment is one of those since an earlier one
  pub counts_now : (t : ℕ) (c : List ℕ) → t ≤ d.moment → d.may_leave c → d.left_since t c
  -- since this moment there is no other
  pub only_now : (c : List ℕ) → d.left_since d.moment c → d.may_leave c

-- what a crash at any moment since an earlier one may leave is what it may have left before these calls, or has P
pub record LeavesOnly (old new : DiskState) (P : List ℕ → Type 0) : Type 0 where
  pub later : old.moment ≤ new.moment
  pub each : (t : ℕ) (c : List ℕ) → t ≤ old.moment → new.left_since t c → old.left_since t c ⊎ P c
