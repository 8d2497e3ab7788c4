-- How a text is written, entry by entry.
use Rattle.std.specs.Prelude.{ℕ, List, [], ◌∷◌, ◌++◌, Option, Some, None}
use Rattle.dm_acl.specs.declared.values.Right.{Right}
use Rattle.dm_acl.specs.declared.values.Servers.{Servers}
use Rattle.dm_acl.specs.Grammar.{entry_text}

-- a text with one more, behind a `&` where something stands before it
abbrev pub behind_sign : List ℕ → List ℕ → List ℕ
behind_sign [] text = text
behind_sign (b ∷ bs) text = (b ∷ bs) ++ 38 ∷ text

abbrev pub with_entry_text : List ℕ → Right → Option Servers → List ℕ
with_entry_text out right None = out
with_entry_text out right (Some s) = behind_sign out (entry_text (record { right = right; servers = s }))
