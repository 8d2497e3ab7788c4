-- What a list ends as, once a `&mut` to one of its values has ended.
use Rattle.std.specs.Prelude.{ℕ, List, Option, slice_set}
use Rattle.std.specs.Borrow.{LendsIf, Fml, RattleType, MutBor}
use Rattle.dm_base.specs.contracts.list.List.{the_row}

module _ (T : RattleType) (list : MutBor (List T.Denot)) where
  -- the first value is the last one written through r, and at `None` the list stays as it is
  abbrev pub lends_first : Option (MutBor T.Denot) → Fml
  lends_first r = LendsIf (the_row T) T list r (slice_set list.now 0) list.now

  -- the value at a place is the last one written through r
  abbrev pub lends_at : ℕ → Option (MutBor T.Denot) → Fml
  lends_at at r = LendsIf (the_row T) T list r (slice_set list.now at) list.now
