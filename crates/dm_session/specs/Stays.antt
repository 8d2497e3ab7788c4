-- Which nodes keep their numbers while a client's calls are made.
use Rattle.std.specs.Prelude.{Bool, false, List, Result, Ok, Err}
use Rattle.std.specs.List.{list_any}
use Rattle.wbxml_tokens.specs.declared.reason.Refusal.{Refusal}
use Rattle.syncml_types.specs.declared.command.Command.{Command}
use Rattle.syncml_types.specs.Message.{Parts}
use Rattle.dm_tree.specs.Nodes.{Path}
use Rattle.dm_atomic.specs.Marks.{Whole as AllOf}
use Rattle.dm_atomic.specs.Stays.{covers}
use Rattle.dm_session.specs.View.{WholeMachine}

-- paths that the commands of a body cover
abbrev pub body_covers : List Command → Path → Bool
body_covers body p = list_any (λ c. covers c p) body

-- and those of what is read of bytes: a message, or a refusal, which covers none
abbrev pub read_covers : Result Parts Refusal → Path → Bool
read_covers (Ok m) p = body_covers m.body p
read_covers (Err refusal) p = false

-- a client's tree with its numbers, as its engine has them
abbrev pub engine_in : WholeMachine → AllOf
engine_in w = record { state = w.machine.engine; ids = w.ids; base_ids = w.base_ids }
