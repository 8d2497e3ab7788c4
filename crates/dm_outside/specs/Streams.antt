-- A stream in memory, which tells all that it holds.
use Rattle.std.specs.Prelude.{◌≡◌, ◌++◌, ℕ, List, [], map, min, length, take, drop, All, Option, IfSome, option_map}
use Rattle.std.specs.Prelude.{Result}
use Rattle.std.specs.Prelude.{Ok, Err}
use Rattle.dm_base.specs.Memory.{one_more}
use Rattle.dm_base.specs.declared.outside.Failed.{Failed}
use Rattle.dm_base.specs.declared.outside.Fault.{Fault}
use Rattle.dm_base.specs.declared.outside.Fault.TheVariants as fault

-- what a stream is made of: the bytes that it gives, how many bytes a call moves at most, and which calls fail
pub record Script : Type 0 where
  pub held : List ℕ
  pub piece : ℕ
  pub fails : List ℕ

-- a stream: what is left, what it has got, how many bytes a call moves at most, which calls fail, how many calls there
-- were, and how many takes and how many puts of them failed
pub record StreamState : Type 0 where
  pub left : List ℕ
  pub got : List ℕ
  pub piece : ℕ
  pub fails : List ℕ
  pub calls : ℕ
  pub takes : ℕ
  pub puts : ℕ

-- the stream that is made of this
abbrev pub stream_of : Script → StreamState
stream_of s = record { left = s.held; got = []; piece = s.piece; fails = s.fails; calls = 0; takes = 0; puts = 0 }

-- what a stream gives from here on, and where it fails
abbrev pub script_of : StreamState → Script
script_of s = record { held = s.left; piece = s.piece; fails = s.fails }

-- nothing was asked of it yet
abbrev pub IsUntouched : StreamState → Type 0
IsUntouched s = s ≡ stream_of (script_of s)

-- no stream of a list was used before
abbrev pub AreUntouched : List (Option StreamState) → Type 0
AreUntouched conns = All (λ conn. IfSome conn IsUntouched) conns

abbrev pub scripts_of : List (Option StreamState) → List (Option Script)
scripts_of conns = map (option_map script_of) conns

-- what the stream that is made of this holds, where there is one
abbrev pub bytes_held : Option Script → Option (List ℕ)
bytes_held script = option_map (λ s. s.held) script

-- a take is one call more: it fails, or gives as many bytes as the piece, the room and what is left allow
abbrev pub StreamTakes : StreamState → StreamState → ℕ → Result ℕ Failed → Type 0
StreamTakes old new room (Ok n) = (n ≡ min old.piece (min room (length old.left)))
    × (new ≡ record old { left = drop n old.left; calls = one_more old.calls })
StreamTakes old new room (Err e) = new ≡ record old { calls = one_more old.calls; takes = one_more old.takes }

-- a put is one call more: it fails, or takes as many bytes as the piece allows; for want of memory it is no call at all
abbrev pub StreamPuts : StreamState → StreamState → List ℕ → Result ℕ Fault → Type 0
StreamPuts old new bytes (Ok n) = (n ≡ min old.piece (length bytes))
    × (new ≡ record old { got = old.got ++ take n bytes; calls = one_more old.calls })
StreamPuts old new bytes (Err fault.Failed) = new ≡ record old { calls = one_more old.calls; puts = one_more old.puts }
StreamPuts old new bytes (Err fault.Memory) = new ≡ old
