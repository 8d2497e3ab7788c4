use Rattle.std.proofs.Common.{arith, ap, ◌∙◌, ◌+◌, ◌-◌, drop, length}
use Rattle.std.proofs.lemmas.List.{length-take}
use Rattle.dm_base.proofs.Pending.{range_behind}
use Rattle.dm_base.proofs.pending_bytes.PendingBytes.give_line.Goals as goal

pub returns-clause-bytes : goal.returns-clause-bytes
returns-clause-bytes c =
    let inside = c.self.inside in
    let seen = ap (λ s. s.bytes) c.self.view_is in
    let size = length-take (inside.end - inside.given) (drop inside.given inside.held.items) in
    let long = ap length seen in
    range_behind inside.held.items inside.given (c.args.count + 1) inside.end (omega (arith, size, long, c.requires))
    ∙ ap (drop (c.args.count + 1)) seen
