use Rattle.std.proofs.Common.{◌≡◌, ◌≤◌, ◌+◌, drop, length}
use Rattle.dm_acl.specs.declared.values.Entries.{Entries}
use Rattle.dm_acl.specs.Grammar.{no_entries}
use Rattle.dm_acl.specs.Reading.{parts_in, after_parts}
use Rattle.dm_acl.proofs.Parts.{room}
use Rattle.dm_acl.proofs.Faults.{AreNamedAlike}
use Rattle.dm_acl.proofs.judging.first_fault.Given as goal

-- entries of the commands so far are what the parts so far leave
abbrev pub invariant-loop-part : goal.invariant-loop-part
invariant-loop-part l = record {
  room : l.at + room (drop (length l.yielded) (parts_in l.text)) ≤ 4097;
  kept : (acl : Entries) × AreNamedAlike acl l.named
      × (after_parts acl l.at (drop (length l.yielded) (parts_in l.text)) ≡ after_parts no_entries 0 (parts_in l.text));
}
