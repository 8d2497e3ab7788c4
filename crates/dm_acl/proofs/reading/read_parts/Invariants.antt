use Rattle.std.proofs.Common.{◌≡◌, ◌≤◌, ◌+◌, drop, length}
use Rattle.dm_acl.specs.Grammar.{no_entries}
use Rattle.dm_acl.specs.Reading.{parts_in, after_parts}
use Rattle.dm_acl.proofs.Parts.{room}
use Rattle.dm_acl.proofs.reading.read_parts.Given as goal

abbrev pub invariant-loop-part : goal.invariant-loop-part
invariant-loop-part l = record {
  room : l.at + room (drop (length l.yielded) (parts_in l.text)) ≤ 4097;
  kept : after_parts l.entries l.at (drop (length l.yielded) (parts_in l.text))
      ≡ after_parts no_entries 0 (parts_in l.text);
}
