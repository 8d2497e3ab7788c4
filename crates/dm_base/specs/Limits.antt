-- The limits that several crates speak of, in bytes where nothing else is said.
use Rattle.std.specs.Prelude.{ℕ}

-- the longest message
abbrev pub message_limit : ℕ
message_limit = 65536

-- the least room for a message that a peer may tell
abbrev pub least_room : ℕ
least_room = 2048

-- the longest value of a leaf, and the longest object
abbrev pub object_limit : ℕ
object_limit = 4194304

-- the longest text or data of a message value
abbrev pub text_limit : ℕ
text_limit = 2147483648

-- how many nodes a tree has at most
abbrev pub node_limit : ℕ
node_limit = 65536
