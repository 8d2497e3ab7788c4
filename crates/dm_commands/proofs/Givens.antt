-- Access lists that texts give.
use Rattle.std.proofs.Common.{◌≡◌, ℕ, false, List, length, Some, sym, ◌∙◌, ap}
use Rattle.std.specs.Prelude.{◌==◌, if◌then◌else◌, None, Ok}
use Rattle.dm_acl.specs.declared.values.Entries.{Entries}
use Rattle.dm_acl.specs.Reading.{parse_of}
use Rattle.dm_commands.specs.Table.{acl_given, entries_read}

pub given-read : (text : List ℕ) (acl : Entries) → (length text == 0) ≡ false → parse_of text ≡ Ok acl
    → Some acl ≡ acl_given text
given-read text acl e f =
    sym (ap (λ b. if b then None else entries_read (parse_of text)) e ∙ ap entries_read f)
