use Rattle.std.proofs.Common.{length, ◌-◌, ◌≡◌, ◌≤◌}
use Rattle.std.specs.Prelude.{None}
use Rattle.std.specs.Io.KnownBytes.{Consumes}
use Rattle.syncml_codec.specs.Decoding.{settled, HasDecoded}
use Rattle.dm_check.proofs.message.receive.Given as goal

abbrev pub invariant-pieces : goal.invariant-pieces
invariant-pieces g l = record {
  within : length l.bytes ≤ 65536;
  unsettled : settled l.bytes ≡ None;
  decoded : HasDecoded l.decoder l.bytes;
  room : length l.buf ≡ 4096;
  taken : Consumes (g.S.Source.left l.fn.src) (g.S.Source.left l.src) l.bytes;
  count : g.S.Source.faults l.src ≡ g.S.Source.faults l.fn.src;
}

abbrev pub decreases-pieces : goal.decreases-pieces
decreases-pieces g l = 65536 - length l.bytes
