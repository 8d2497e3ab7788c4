use Rattle.std.proofs.Common.{rules, ◌≡◌, ◌∙◌, ◌++◌, ◌∷◌, [], sym, ap, length, arith}
use Rattle.dm_base.specs.declared.outside.Fault.TheVariants.{Failed, Memory}
use Rattle.dm_disk.specs.declared.memory.Call.TheVariants.{Write}
use Rattle.dm_disk.specs.Memory.{MemState}
use Rattle.dm_disk.specs.Disk.{patched}
use Rattle.dm_disk.proofs.Recorded.{write_fails, write_done, written_inside}
use Rattle.dm_disk.proofs.memory.MemDiskDisk.write.Goals as goal

pub returns-then-fails_now-clause-told : goal.returns-then-fails_now-clause-told
returns-then-fails_now-clause-told c =
    let new : MemState = record {
      first = c.self.inside.first.items;
      bytes = c.self.inside.bytes.items;
      done = c.self.inside.done;
      fails = c.self.inside.fails;
      calls = c.saturating_add-self-inside.result;
      faults = c.saturating_add-self-inside-then-fails_now.result;
    } in
    write_fails c.args.self.now new (ap (λ (m : MemState). m.first) c.self.view_is) c.args.at c.args.bytes.now Failed
    (ap (λ (m : MemState). m.bytes) c.self.view_is) (ap (λ (m : MemState). m.done) c.self.view_is) (search rules)

pub returns-then-is_err-clause-told : goal.returns-then-is_err-clause-told
returns-then-is_err-clause-told c =
    let same : c.push.new.self ≡ c.self.inside.done = search rules in
    let new : MemState = record {
      first = c.self.inside.first.items;
      bytes = c.self.inside.bytes.items;
      done = c.push.new.self;
      fails = c.self.inside.fails;
      calls = c.self.inside.calls;
      faults = c.self.inside.faults;
    } in
    write_fails c.args.self.now new (ap (λ (m : MemState). m.first) c.self.view_is) c.args.at c.args.bytes.now Memory
    (ap (λ (m : MemState). m.bytes) c.self.view_is) (same ∙ ap (λ (m : MemState). m.done) c.self.view_is)
    (ap (λ (m : MemState). m.faults) c.self.view_is)

pub invariant_of-self-2 : goal.invariant_of-self-2
invariant_of-self-2 c =
    let copied : c.in-Ok.copy ≡ c.args.bytes.now = search rules in
    let more : c.push.new.self ≡ c.self.inside.done ++ Write c.args.at c.in-Ok.copy ∷ [] = search rules in
    written_inside c.self.inside.first.items c.self.inside.bytes.items c.overwrite.new.bytes.items c.self.inside.done
    c.push.new.self c.args.at c.in-Ok.copy c.self.invariant.0 c.self.invariant.1 c.self.invariant.2 more
    (c.overwrite.ensures ∙ ap (λ l. patched c.args.at l c.self.inside.bytes.items) (sym copied))
    (omega (arith, c.requires, ap length copied, ap (λ (m : MemState). length m.bytes) c.self.view_is))

pub returns-clause-told : goal.returns-clause-told
returns-clause-told c =
    let copied : c.in-Ok.copy ≡ c.args.bytes.now = search rules in
    let more : c.push.new.self ≡ c.self.inside.done ++ Write c.args.at c.in-Ok.copy ∷ [] = search rules in
    let new : MemState = record {
      first = c.self.inside.first.items;
      bytes = c.overwrite.new.bytes.items;
      done = c.push.new.self;
      fails = c.self.inside.fails;
      calls = c.saturating_add-self-inside-2.result;
      faults = c.self.inside.faults;
    } in
    write_done c.args.self.now new (ap (λ (m : MemState). m.first) c.self.view_is) c.args.at c.args.bytes.now
    c.in-Ok.copy copied c.requires
    (more ∙ ap (λ (m : MemState). m.done ++ Write c.args.at c.in-Ok.copy ∷ []) c.self.view_is)
    (c.overwrite.ensures ∙ ap (λ (m : MemState). patched c.args.at c.args.bytes.now m.bytes) c.self.view_is)
    (ap (λ (m : MemState). m.faults) c.self.view_is)
