use Rattle.std.proofs.Common.{◌≡◌, drop}
use Rattle.dm_service.specs.Matching.{Finding, takes_items}
use Rattle.dm_report.specs.declared.kept.Kept.{Kept}
use Rattle.dm_report.specs.Receiving.{HoldsOn}
use Rattle.dm_report.specs.Notes.{matched_by, on_finding}
use Rattle.dm_report.proofs.drafts.note_items.Given as goal

abbrev pub invariant-loop-item : goal.invariant-loop-item
invariant-loop-item l = record {
  held : HoldsOn l.fn.inbox l.inbox;
  matched : (k : Kept)
      → on_finding (λ (x : Finding). takes_items l.fn.inbox.max_obj l.number l.results x
      (drop l.item-index l.item-items)) (matched_by l.draft l.inbox k)
      ≡ on_finding (λ (x : Finding). takes_items l.fn.inbox.max_obj l.number l.results x l.item-items)
      (matched_by l.fn.draft l.fn.inbox k);
  all : l.item-items ≡ l.results.items;
}
