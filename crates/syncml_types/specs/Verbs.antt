-- What verbs ask for.
use Rattle.std.specs.Prelude.{Bool, true, false}
use Rattle.syncml_types.specs.declared.command.Verb.{Verb}
use Rattle.syncml_types.specs.declared.command.Verb.TheVariants as verb

abbrev pub is_exec : Verb → Bool
is_exec verb.Exec = true
is_exec other = false

-- its command puts a value into the tree
abbrev pub is_write : Verb → Bool
is_write verb.Add = true
is_write verb.Replace = true
is_write other = false
