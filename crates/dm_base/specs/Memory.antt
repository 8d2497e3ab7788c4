-- A source and a sink in memory, which tell all that they hold.
use Rattle.std.specs.Prelude.{◌≡◌, ◌+◌, ◌-◌, ◌^◌, ◌++◌, ℕ, List, min, Result, Ok, Err}
use Rattle.dm_base.specs.declared.outside.Fault.{Fault}
use Rattle.dm_base.specs.declared.outside.Fault.TheVariants as fault

-- a source: what is left, how many bytes a call gives at most, which calls fail, how many calls and faults there were
pub record SourceState : Type 0 where
  pub left : List ℕ
  pub piece : ℕ
  pub fails : List ℕ
  pub calls : ℕ
  pub faults : ℕ

-- a sink: what it has got, which calls fail, how many calls and faults there were
pub record SinkState : Type 0 where
  pub got : List ℕ
  pub fails : List ℕ
  pub calls : ℕ
  pub faults : ℕ

-- one call more, or the last number that a count has
abbrev pub one_more : ℕ → ℕ
one_more n = min (n + 1) (2 ^ 64 - 1)

-- a put is one call more, which takes the whole piece or fails; for want of memory it is no call at all
abbrev pub SinkPuts : SinkState → SinkState → List ℕ → Result ℕ Fault → Type 0
SinkPuts old new piece (Ok n) = new ≡ record old { got = old.got ++ piece; calls = one_more old.calls }
SinkPuts old new piece (Err fault.Failed) = new ≡ record old { calls = one_more old.calls; faults = one_more old.faults }
SinkPuts old new piece (Err fault.Memory) = new ≡ old
