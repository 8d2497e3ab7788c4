-- What the client's commands are answered: the server executes none of them.
use Rattle.std.specs.Prelude.{ℕ, List, [], ◌∷◌, ◌++◌, map}
use Rattle.syncml_types.specs.declared.command.Verb.{Verb}
use Rattle.syncml_types.specs.declared.command.Verb.TheVariants.{Replace}
use Rattle.syncml_types.specs.declared.command.Command.{Command}
use Rattle.syncml_types.specs.declared.command.Command.TheVariants as command
use Rattle.syncml_types.specs.Message.{Parts}
use Rattle.dm_atomic.specs.declared.tasks.Origin.{Origin}
use Rattle.dm_atomic.specs.declared.tasks.Post.{Post}
use Rattle.dm_atomic.specs.Posts.{asked_posts}
use Rattle.dm_atomic.specs.Made.{Made, Status, told}
use Rattle.dm_ends.specs.Commands.{origin_of}

abbrev pub verb_code : Verb → ℕ
verb_code Replace = 200
verb_code other = 406

-- an Alert and a Replace outside of containers are taken; all else is no command for a server
abbrev pub code_for : Command → ℕ
code_for (command.Plain c) = verb_code c.verb
code_for (command.Alert a) = 200
code_for other = 406

-- each step and each container of a command has this one code
abbrev pub answers_command : Origin → Command → List Made
answers_command origin c = map (λ (post : Post). Status post (code_for c)) (asked_posts origin c)

abbrev pub answers_all : Origin → List Command → List Made
answers_all origin [] = []
answers_all origin (c ∷ cs) = answers_command origin c ++ answers_all origin cs

unfoldable pub command_answers : Parts → List Command
command_answers m = told (answers_all (origin_of m) m.body)
