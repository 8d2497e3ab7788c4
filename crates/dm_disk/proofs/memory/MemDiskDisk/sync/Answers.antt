use Rattle.std.proofs.Common.{rules, ◌≡◌, ◌∙◌, ◌++◌, ◌∷◌, [], ap, subst, length}
use Rattle.dm_disk.specs.declared.memory.Call.TheVariants.{Sync}
use Rattle.dm_disk.specs.Memory.{MemState, at_rest, after_calls, AreWithin}
use Rattle.dm_disk.proofs.Recorded.{sync_done, synced_inside}
use Rattle.dm_disk.proofs.memory.MemDiskDisk.sync.Goals as goal

pub invariant_of-self-2 : goal.invariant_of-self-2
invariant_of-self-2 c =
    let more : c.push.new.self ≡ c.self.inside.done ++ Sync ∷ [] = search rules in
    synced_inside c.self.inside.first.items c.self.inside.bytes.items c.self.inside.done c.push.new.self
    c.self.invariant.0 c.self.invariant.1 c.self.invariant.2 more

pub returns-clause-told : goal.returns-clause-told
returns-clause-told c =
    let more : c.push.new.self ≡ c.self.inside.done ++ Sync ∷ [] = search rules in
    let new : MemState = record {
      first = c.self.inside.first.items;
      bytes = c.self.inside.bytes.items;
      done = c.push.new.self;
      fails = c.self.inside.fails;
      calls = c.saturating_add-self-inside-2.result;
      faults = c.self.inside.faults;
    } in
    sync_done c.args.self.now new (ap (λ (m : MemState). m.first) c.self.view_is)
    (ap (λ (m : MemState). m.bytes) c.self.view_is)
    (more ∙ ap (λ (m : MemState). m.done ++ Sync ∷ []) c.self.view_is)
    (ap (λ (m : MemState). m.faults) c.self.view_is)
    (subst (λ (m : MemState). m.bytes ≡ (after_calls (at_rest m.first) m.done).now) c.self.view_is c.self.invariant.0)
    (subst (λ (m : MemState). AreWithin (length m.first) m.done) c.self.view_is c.self.invariant.2)
