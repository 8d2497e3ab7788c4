use Rattle.std.proofs.Common.{◌≡◌, length, take}
use Rattle.dm_disk.specs.Memory.{at_rest, after_calls, IsImage}
use Rattle.dm_disk.proofs.memory.MemDisk.image.Given as goal

abbrev pub invariant-loop-i : goal.invariant-loop-i
invariant-loop-i l = record {
  now : l.now.items ≡ (after_calls (at_rest l.self.first) (take l.i l.self.done)).now;
  image : IsImage (after_calls (at_rest l.self.first) (take l.i l.self.done)) l.image.items;
  long : length l.image.items ≡ length l.now.items;
  size : length l.now.items ≡ length l.self.first;
}
