use Rattle.std.proofs.Common.{length, ◌-◌, ◌≡◌, ◌≤◌}
use Rattle.std.specs.Prelude.{true}
use Rattle.wbxml_tokens.specs.Taking.{taking}
use Rattle.wbxml_tokens.specs.Parts.{reader_at, HasRoom}
use Rattle.wbxml_tokens.proofs.Loops.{SoFar}
use Rattle.wbxml_tokens.proofs.state.parts.Given as goal

abbrev pub invariant-loop-at : goal.invariant-loop-at
invariant-loop-at g l = record {
  within : l.at ≤ length l.bytes;
  room : HasRoom l.spot (length l.bytes - l.at);
  body : l.spot.is_in_body ≡ true;
  so_far : SoFar (taking g.T.Taker.placed g.T.Writer.after g.T.Writer.refusal) l.fn.taker l.taker
      (reader_at l.fn.spot l.table) (reader_at l.spot l.table) l.bytes l.at;
}

abbrev pub decreases-loop-at : goal.decreases-loop-at
decreases-loop-at g l = length l.bytes - l.at
