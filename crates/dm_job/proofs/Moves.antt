-- What a line that says no command does outside of containers.
use Rattle.std.proofs.Common.{◌≡◌, ℕ, Bool, true, false, List, None, Ok, Err, cond}
use Rattle.std.proofs.Common.{codes, bytes_eq}
use Rattle.dm_base.specs.declared.lines.LineReason.TheVariants as reason
use Rattle.dm_fields.specs.Fields.{begins_with}
use Rattle.dm_fields.proofs.Told.{allowed, same_ok}
use Rattle.dm_job.specs.declared.draft.JobDraft.{JobDraft}
use Rattle.dm_job.specs.declared.draft.LinePlace.TheVariants as place
use Rattle.dm_job.specs.Commands.{new_atomic, new_sequence}
use Rattle.dm_job.specs.Reading.{adds, word_alone, outside, when}

pub data Move (d next : JobDraft) (line : List ℕ) : Type 0 where
  opens_atomic : bytes_eq line (codes "atomic") ≡ true → adds d place.Container new_atomic ≡ next → Move d next line
  opens_sequence : bytes_eq line (codes "sequence") ≡ true → adds d place.Container new_sequence ≡ next
      → Move d next line
  parts_ : bytes_eq line (codes "package") ≡ true → record d { place = place.Between } ≡ next → Move d next line
  ends : bytes_eq line (codes "end") ≡ true → record d { place = place.End } ≡ next → Move d next line

pub when_is : (b : Bool) (x d : JobDraft) → when b x ≡ Ok d → (b ≡ true) × (x ≡ d)
when_is b x d e = let told = allowed b (Ok x) reason.Fields d e in (told.0, same_ok x d told.1)

pub moves : (d next : JobDraft) (line : List ℕ) → outside d line None ≡ Ok next → Move d next line
moves d next line e =
    by_word (begins_with (codes "atomic") line) (begins_with (codes "sequence") line)
    (begins_with (codes "package") line)
    (begins_with (codes "end") line) e
  where
    by_word : (a s p f : Bool)
        → cond a (word_alone (codes "atomic") line (adds d place.Container new_atomic))
        (cond s (word_alone (codes "sequence") line (adds d place.Container new_sequence))
        (cond p (word_alone (codes "package") line (record d { place = place.Between }))
        (cond f (word_alone (codes "end") line (record d { place = place.End })) (Err reason.Word)))) ≡ Ok next
        → Move d next line
    by_word true s p f k =
        let told = when_is (bytes_eq line (codes "atomic")) (adds d place.Container new_atomic) next k in
        opens_atomic told.0 told.1
    by_word false true p f k =
        let told = when_is (bytes_eq line (codes "sequence")) (adds d place.Container new_sequence) next k in
        opens_sequence told.0 told.1
    by_word false false true f k =
        let told = when_is (bytes_eq line (codes "package")) (record d { place = place.Between }) next k in
        parts_ told.0 told.1
    by_word false false false true k =
        let told = when_is (bytes_eq line (codes "end")) (record d { place = place.End }) next k in
        ends told.0 told.1
    by_word false false false false k = absurd (cc)
