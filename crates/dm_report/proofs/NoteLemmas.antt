-- What a draft notes.
use Rattle.std.proofs.Common.{Some, ◌≡◌, ◌+◌, ◌-◌, ℕ, true, List, [], ◌∷◌, ◌++◌, refl, ◌∙◌, arith}
use Rattle.std.specs.Prelude.{Option}
use Rattle.std.proofs.lemmas.List.{append_assoc}
use Rattle.syncml_types.specs.declared.values.Item.{Item}
use Rattle.syncml_types.specs.declared.command.ResultsCmd.{ResultsCmd}
use Rattle.syncml_types.specs.declared.command.StatusCmd.{StatusCmd}
use Rattle.syncml_types.specs.declared.command.Step.{Step}
use Rattle.dm_objects.specs.declared.piece.What.{What}
use Rattle.dm_objects.specs.declared.piece.What.TheVariants.{Whole}
use Rattle.dm_objects.specs.Seen.{Seen}
use Rattle.dm_service.specs.declared.sent.Sent.{Sent}
use Rattle.dm_service.specs.Service.{Told}
use Rattle.dm_service.specs.Matching.{Finding, find_sent, coded, with_code, takes_status, found_in}
use Rattle.dm_service.specs.Matching.{result_piece, takes_item}
use Rattle.dm_report.specs.declared.kept.FoundValue.{FoundValue}
use Rattle.dm_report.specs.declared.kept.Kept.{Kept}
use Rattle.dm_report.specs.declared.drafts.NewCode.{NewCode}
use Rattle.dm_report.specs.declared.drafts.Findings.{Findings}
use Rattle.dm_report.specs.Kept.{coded_by}
use Rattle.dm_report.specs.Receiving.{Comes}
use Rattle.dm_report.specs.Notes.{NotesMatched, matched_by, on_finding}
use Rattle.dm_report.proofs.ToldLemmas.{told-coded, coded_by-push, told-found}

-- ---- one thing noted

pub notes-code : (d : Findings) (new : List NewCode) (s : Seen) (number code : ℕ)
    → new ≡ d.codes ++ record { place = number - 1; code = code } ∷ []
    → NotesMatched (on_finding (λ x. record x { told = with_code x.told number code })) d (record d { codes = new }) s s
notes-code d new s number code q = rw q record {
  matched = λ k. rw (
    coded_by-push d.codes (record { place = number - 1; code = code }) k.codes,
    told-coded 0 (coded_by d.codes k.codes) (k.found ++ d.found) (number - 1) code,
  ) refl;
}

pub notes-status : (sent : List Sent) (status : StatusCmd) (d : Findings) (new : List NewCode) (command : Sent)
    → Some command ≡ find_sent status.msg_ref status.cmd_ref sent → command.counts ≡ true
    → new ≡ d.codes ++ record { place = command.number - 1; code = status.code } ∷ [] → (s : Seen)
    → NotesMatched (on_finding (λ x. record x { told = takes_status sent x.told status })) d (record d { codes = new }) s s
notes-status sent status d new command e counts q s = record {
  matched = λ k. (notes-code d new s command.number status.code q).matched k
      ∙ told-so (matched_by d s k).finding.told (find_sent status.msg_ref status.cmd_ref sent) e k;
}
  where
    told-so : (told : List Told) (o : Option Sent) → Some command ≡ o → (k : Kept)
        → on_finding (λ (x : Finding). record x { told = with_code x.told command.number status.code })
        (matched_by d s k)
        ≡ on_finding (λ (x : Finding). record x { told = coded x.told o status.code }) (matched_by d s k)
    told-so told o p k = rw (← p, counts) refl

pub notes-value : (d : Findings) (new : List FoundValue) (number : ℕ) (value : Step) (what : What)
    → what ≡ Whole value → new ≡ d.found ++ record { place = number - 1; value = value } ∷ [] → (s : Seen)
    → NotesMatched (on_finding (λ x. record x { told = found_in x.told number what })) d (record d { found = new }) s s
notes-value d new number value what w q s = rw (q, w) record {
  matched = λ k.
      let here : number - 1 ≡ 0 + (number - 1) = omega arith in
      rw (
        ← append_assoc k.found d.found (record { place = number - 1; value = value } ∷ []),
        told-found 0 (coded_by d.codes k.codes) (k.found ++ d.found) (record { place = number - 1; value = value })
            (number - 1) here,
      ) refl;
}

-- ---- an Item of Results

pub notes-item : (number : ℕ) (results : ResultsCmd) (item : Item) (d e : Findings) (s t : Seen) (what : What)
    → NotesMatched (on_finding (λ x. record x { told = found_in x.told number what })) d e t t
    → Comes s t (result_piece results item) what
    → NotesMatched (on_finding (λ x. takes_item s.max_obj number results x item)) d e s t
notes-item number results item d e s t what n h = record { matched = λ k. n.matched k ∙ rw (h.now, h.is) refl }
