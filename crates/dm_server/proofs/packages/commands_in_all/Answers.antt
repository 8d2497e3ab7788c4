use Rattle.std.proofs.Common.{refl}
use Rattle.dm_server.proofs.Rows.{commands_step, shown_at, shown_ready}
use Rattle.dm_server.proofs.packages.commands_in_all.Goals as goal

pub commands_in-requires : goal.commands_in-requires
commands_in-requires c =
    let at = c.loop-package.package-index in
    shown_ready c.args.packages.now at c.as_slice.result.now
    (shown_at c.args.packages.now c.args.packages.now at c.package-item.result c.as_slice.result.now refl
    c.loop-package-test.true c.package-item.is c.as_slice.ensures) c.requires

pub loop-package-preserved : goal.loop-package-preserved
loop-package-preserved c =
    commands_step c.args.packages.now c.loop-package.package-index c.loop-package.count c.in_ok-more.more
    c.in-Some.next _ c.package-item.result c.as_slice.result.now c.loop-package.invariant c.loop-package-test.true
    c.package-item.is c.as_slice.ensures c.in_ok-more.ensures c.in-Some.ensures.1
