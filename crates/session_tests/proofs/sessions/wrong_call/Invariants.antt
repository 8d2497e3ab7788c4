use Rattle.std.specs.Prelude.{◌<◌, length}
use Rattle.session_tests.proofs.sessions.wrong_call.Given as goal

abbrev pub invariant-loop-number : goal.invariant-loop-number
invariant-loop-number l = 0 < length l.client.machine.accounts
