use Rattle.dm_pack.proofs.Ready.{IsText}
use Rattle.dm_pack.proofs.Fixtures.{header_ready}
use Rattle.parts_tests.proofs.queues.least_header.Goals as goal

pub returns : goal.returns
returns c =
    rw (c.in_ok-new.ensures, c.empty.ensures)
    (header_ready c.in_ok-text.field-0 c.in_ok-text-2.field-0 c.in_ok-text-3.field-0 c.in_ok-text-4.field-0
    c.in_ok-text-5.field-0
    (record { text = c.in_ok-text.ensures.text; few = c.in_ok-text.ensures.few })
    (record { text = c.in_ok-text-2.ensures.text; few = c.in_ok-text-2.ensures.few })
    (record { text = c.in_ok-text-3.ensures.text; few = c.in_ok-text-3.ensures.few })
    (record { text = c.in_ok-text-4.ensures.text; few = c.in_ok-text-4.ensures.few })
    (record { text = c.in_ok-text-5.ensures.text; few = c.in_ok-text-5.ensures.few }))
