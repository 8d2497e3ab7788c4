use Rattle.std.proofs.Common.{◌≡◌, drop}
use Rattle.dm_service.specs.Matching.{matched}
use Rattle.dm_report.specs.declared.kept.Kept.{Kept}
use Rattle.dm_report.specs.Receiving.{HoldsOn}
use Rattle.dm_report.specs.Notes.{matched_by}
use Rattle.dm_report.proofs.drafts.note_commands.Given as goal

abbrev pub invariant-loop-command : goal.invariant-loop-command
invariant-loop-command l = record {
  held : HoldsOn l.fn.inbox l.inbox;
  matched : (k : Kept)
      → matched l.fn.inbox.max_obj l.sent (matched_by l.draft l.inbox k) (drop l.command-index l.body)
      ≡ matched l.fn.inbox.max_obj l.sent (matched_by l.fn.draft l.fn.inbox k) l.body;
}
