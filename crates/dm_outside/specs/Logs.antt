-- What a dialer and a door in memory keep of the calls that are over, as they tell it.
use Rattle.dm_outside.specs.declared.dialers.Over.{Over}
use Rattle.dm_outside.specs.declared.dialers.Over.TheVariants as over
use Rattle.dm_outside.specs.declared.doors.Past.{Past}
use Rattle.dm_outside.specs.declared.doors.Past.TheVariants as past
use Rattle.dm_outside.specs.Calls.{Dial, failed, talked}
use Rattle.dm_outside.specs.Doors.{Visit, missed, visited}
use Rattle.dm_outside.specs.Memory.{closed_stream}

abbrev pub dial_of : Over → Dial
dial_of (over.Failed address) = failed address
dial_of (over.Talked handed conn) = talked handed (closed_stream conn)

abbrev pub visit_of : Past → Visit
visit_of past.Missed = missed
visit_of (past.Visited held conn) = visited held (closed_stream conn)
