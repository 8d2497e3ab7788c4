-- How a run of calls goes on.
use Rattle.std.proofs.Common.{inl, inr, ⊎_elim, ℕ, List, arith}
use Rattle.dm_disk.specs.Disk.{DiskState, Elapses, LeavesOnly}

pub leaves-none : (d : DiskState) (P : List ℕ → Type 0) → LeavesOnly d d P
leaves-none d P = record { later = omega arith; each = λ t c le left. inl left }

-- one call, after which a crash leaves what has P
pub leaves-call : (old new : DiskState) (P : List ℕ → Type 0) → Elapses old new
    → ((c : List ℕ) → new.may_leave c → P c) → LeavesOnly old new P
leaves-call old new P time here = record {
  later = time.later;
  each = λ t c le left. ⊎_elim (λ was. inl was) (λ now. inr (here c now)) (time.nothing_else t c le left);
}

pub leaves-more : (a b c : DiskState) (P : List ℕ → Type 0) → LeavesOnly a b P → LeavesOnly b c P → LeavesOnly a c P
leaves-more a b c P first second = record {
  later = omega (arith, first.later, second.later);
  each = λ t im le left. ⊎_elim (first.each t im le) (λ now. inr now)
      (second.each t im (omega (arith, le, first.later)) left);
}

pub leaves-weaker : (a b : DiskState) (P Q : List ℕ → Type 0) → ((c : List ℕ) → P c → Q c) → LeavesOnly a b P
    → LeavesOnly a b Q
leaves-weaker a b P Q so l = record {
  later = l.later;
  each = λ t c le left. ⊎_elim (λ was. inl was) (λ p. inr (so c p)) (l.each t c le left);
}
