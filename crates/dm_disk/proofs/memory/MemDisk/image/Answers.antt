use Rattle.std.proofs.Common.{rules, ◌≡◌, ◌∙◌, ◌<◌, ℕ, length, take, get_or, sym, ap, subst}
use Rattle.dm_disk.specs.Memory.{MemState, Snapshot, at_rest, after_calls, IsImage, AreWithin}
use Rattle.dm_disk.proofs.Recorded.{within_at, calls_next}
use Rattle.dm_disk.proofs.memory.MemDisk.image.Goals as goal

pub apply-requires-clause-within : goal.apply-requires-clause-within
apply-requires-clause-within c =
    let lt : c.loop-i.i < length c.args.self.now.done = search rules in
    let is : get_or c.args.self.now.done c.loop-i.i c.index-as_slice-i.result ≡ c.index-as_slice-i.result =
    search rules in
    let fit = subst (λ (m : MemState). AreWithin (length m.first) m.done) c.self.view_is c.self.invariant.2 in
    within_at (length c.loop-i.now.items) c.args.self.now.done c.loop-i.i c.index-as_slice-i.result
    (subst (λ (n : ℕ). AreWithin n c.args.self.now.done) (sym c.loop-i.invariant.size) fit) lt is

pub loop-i-preserved : goal.loop-i-preserved
loop-i-preserved c =
    let lt : c.loop-i.i < length c.args.self.now.done = search rules in
    let is : get_or c.args.self.now.done c.loop-i.i c.index-as_slice-i.result ≡ c.index-as_slice-i.result =
    search rules in
    let s = after_calls (at_rest c.args.self.now.first) (take c.loop-i.i c.args.self.now.done) in
    let next = calls_next
    (at_rest c.args.self.now.first) c.args.self.now.done c.loop-i.i c.index-as_slice-i.result lt is in
    let now_is = sym c.loop-i.invariant.now in
    record {
      now = c.in_ok-pending.ensures.now s now_is ∙ ap (λ (x : Snapshot). x.now) (sym next);
      image = subst (λ (x : Snapshot). IsImage x c.apply.new.image.items) (sym next)
          (c.in_ok-pending.ensures.image s now_is c.loop-i.invariant.image);
      long = c.in_ok-pending.ensures.image_long ∙ sym c.in_ok-pending.ensures.now_long;
      size = c.in_ok-pending.ensures.now_long ∙ c.loop-i.invariant.size;
    }
