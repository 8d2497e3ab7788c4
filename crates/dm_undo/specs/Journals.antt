-- A journal as contracts see it.
use Rattle.std.specs.Prelude.{ℕ, List}
use Rattle.dm_undo.specs.declared.entries.Entry.{Entry}

-- its entries, the newest first, and for how many room was made
pub record Journal : Type 0 where
  pub entries : List Entry
  pub room : ℕ
