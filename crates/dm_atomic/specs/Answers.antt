-- What a command is answered that isn't executed.
use Rattle.std.specs.Prelude.{ℕ, List, map}
use Rattle.dm_atomic.specs.declared.tasks.Post.{Post}
use Rattle.dm_atomic.specs.Made.{Made, Status}

-- a Status for each of these, all with one code
abbrev pub statuses : ℕ → List Post → List Made
statuses code posts = map (λ (post : Post). Status post code) posts
