-- The last command can be measured, whatever line came.
use Rattle.std.proofs.Common.{◌≡◌, ◌+◌, ◌&&◌, ℕ, Bool, true, List, [], ◌∷◌, ◌++◌, Option, Some}
use Rattle.std.proofs.Common.{None, Result, Ok, Err}
use Rattle.std.proofs.Common.{refl, subst, ◌∙◌, arith, codes, bytes_eq}
use Rattle.std.proofs.Common.{length-append}
use Rattle.std.specs.List.{list_all}
use Rattle.std.proofs.lemmas.Bool.{and_from}
use Rattle.std.proofs.lemmas.List.Folds.{list_all-append}
use Rattle.dm_base.specs.Fields.{parts}
use Rattle.dm_base.specs.declared.lines.LineReason.{LineReason}
use Rattle.dm_base.specs.declared.lines.LineReason.TheVariants as reason
use Rattle.syncml_types.specs.declared.command.Verb.{Verb}
use Rattle.syncml_types.specs.declared.command.Plain.{Plain}
use Rattle.syncml_types.specs.declared.command.Member.TheVariants as member
use Rattle.syncml_types.specs.declared.command.SeqMember.{SeqMember}
use Rattle.syncml_types.specs.declared.command.SeqMember.TheVariants as seq_member
use Rattle.syncml_types.specs.declared.command.Command.{Command}
use Rattle.syncml_types.specs.declared.command.Command.TheVariants as command
use Rattle.syncml_types.specs.Fitness.{is_in_limit, item_data, member_data, seq_member_data, command_data}
use Rattle.syncml_parts.specs.Numbering.{ids_in, ids_in_seq_members}
use Rattle.dm_fields.specs.Fields.{begins_with, account_in, limits_in}
use Rattle.dm_fields.proofs.Told.{said, allowed, same_ok}
use Rattle.dm_job.specs.declared.draft.JobDraft.{JobDraft}
use Rattle.dm_job.specs.declared.draft.LinePlace.{LinePlace}
use Rattle.dm_job.specs.declared.draft.LinePlace.TheVariants as place
use Rattle.dm_job.specs.declared.draft.Reading.{Reading}
use Rattle.dm_job.specs.declared.draft.Reading.TheVariants as reading
use Rattle.dm_job.specs.Commands.{verb_in, plain_in}
use Rattle.dm_job.specs.Commands.{new_atomic, new_sequence, with_member}
use Rattle.dm_job.specs.Reading.{empty_draft, adds, draft_joined, entry_joined, inside, outside, draft_after}
use Rattle.dm_job.specs.Reading.{with_draft, reading_after}
use Rattle.dm_job.specs.Reading.{last_may_close, close_line}
use Rattle.dm_job.specs.Measures.{CanBeMeasured, CanClose, CanGoOn}
use Rattle.dm_job.proofs.Ends.{entry_added, entry_changed}
use Rattle.dm_job.proofs.Goods.{plain_good}
use Rattle.dm_job.proofs.Moves.{Move, opens_atomic, opens_sequence, parts_, ends, when_is, moves}

-- ---- what a line says has Data that can be spelled

abbrev HasShortValue : Plain → Type 0
HasShortValue p = list_all (item_data is_in_limit) p.items ≡ true

plain_short : (v : Verb) (fields : List (List ℕ)) (p : Plain) → plain_in v fields ≡ Some p → HasShortValue p
plain_short v fields p e = (plain_good v fields p e).short_data

-- ---- commands can be measured

plain_measured : (p : Plain) → HasShortValue p → CanBeMeasured (command.Plain p)
unfolding command_data ids_in
plain_measured p h = record { short = h; flat = omega arith }

atomic_measured : CanBeMeasured new_atomic
unfolding command_data ids_in
atomic_measured = record { short = refl; flat = omega arith }

sequence_measured : CanBeMeasured new_sequence
unfolding command_data ids_in ids_in_seq_members
sequence_measured = record { short = refl; flat = omega arith }

pub one_more_id : (ms : List SeqMember) (p : Plain)
    → ids_in_seq_members (ms ++ seq_member.Single (member.One p) ∷ []) ≡ ids_in_seq_members ms + 1
unfolding ids_in_seq_members
one_more_id [] p = refl
one_more_id (m ∷ ms) p = let rest = one_more_id ms p in omega (arith, rest)

all_and : {A : Type 0} (test : A → Bool) (xs : List A) (x : A) → list_all test xs ≡ true → test x ≡ true
    → list_all test (xs ++ x ∷ []) ≡ true
all_and test xs x h k = list_all-append test xs (x ∷ []) ∙ and_from _ _ h (and_from _ true k refl)

member_measured : (c : Command) (p : Plain) → HasShortValue p → CanBeMeasured c → CanBeMeasured (with_member c p)
unfolding command_data ids_in seq_member_data member_data
member_measured (command.Atomic b) p h c =
    let flat = c.flat in
    let long = length-append b.members (member.One p ∷ []) in
    record {
      short = all_and (member_data is_in_limit) b.members (member.One p) c.short h;
      flat = omega (arith, flat, long);
    }
member_measured (command.Sequence b) p h c =
    let flat = c.flat in
    let long = length-append b.members (seq_member.Single (member.One p) ∷ []) in
    let more = one_more_id b.members p in
    record {
      short = all_and (seq_member_data is_in_limit) b.members (seq_member.Single (member.One p)) c.short h;
      flat = omega (arith, flat, long, more);
    }
member_measured (command.Plain q) p h c = c
member_measured (command.Alert a) p h c = c
member_measured (command.Status s) p h c = c
member_measured (command.Results r) p h c = c

-- ---- lines among commands

abbrev Measured : JobDraft → Type 0
Measured d = CanClose d.job.packages

adds_measured : (d : JobDraft) (next : LinePlace) (c : Command) → CanBeMeasured c → Measured (adds d next c)
adds_measured d next c h = entry_added (λ e. CanBeMeasured e.command) d.place d.job.packages _ h

joins_measured : (d : JobDraft) (p : Plain) → HasShortValue p → Measured d → Measured (draft_joined d p)
joins_measured d p h m =
    entry_changed (λ e. CanBeMeasured e.command) (entry_joined p) d.job.packages (λ e k. member_measured e.command p h k) m

close_measured : (d next : JobDraft) (line : List ℕ) → close_line d line ≡ Ok next → Measured d → Measured next
close_measured d next line e m =
    subst Measured (when_is (bytes_eq line (codes "close") && last_may_close d.job.packages)
    (record d { place = place.Package }) next e).1 m

inside_measured : (d next : JobDraft) (line : List ℕ) (o : Option Verb) → inside d line o ≡ Ok next → Measured d
    → Measured next
inside_measured d next line (Some v) e m =
    let s = said reason.Fields (plain_in v (parts line)) (λ p. Ok (draft_joined d p)) next e in
    subst Measured (same_ok _ next s.rest) (joins_measured d s.value (plain_short v (parts line) s.value s.is) m)
inside_measured d next line None e m =
    let told = allowed (begins_with (codes "close") line) (close_line d line) reason.Word next e in
    close_measured d next line told.1 m

between_measured : (d next : JobDraft) (line : List ℕ) → Move d next line → Measured d → Measured next
between_measured d next line (opens_atomic w is) m =
    subst Measured is (adds_measured d place.Container new_atomic atomic_measured)
between_measured d next line (opens_sequence w is) m =
    subst Measured is (adds_measured d place.Container new_sequence sequence_measured)
between_measured d next line (parts_ w is) m = subst Measured is m
between_measured d next line (ends w is) m = subst Measured is m

outside_measured : (d next : JobDraft) (line : List ℕ) (o : Option Verb) → outside d line o ≡ Ok next → Measured d
    → Measured next
outside_measured d next line (Some v) e m =
    let s = said reason.Fields (plain_in v (parts line)) (λ p. Ok (adds d place.Package (command.Plain p))) next e in
    subst Measured (same_ok _ next s.rest)
    (adds_measured d place.Package (command.Plain s.value)
    (plain_measured s.value (plain_short v (parts line) s.value s.is)))
outside_measured d next line None e m = between_measured d next line (moves d next line e) m

draft_measured : (at : LinePlace) (d next : JobDraft) (line : List ℕ) → draft_after at d line ≡ Ok next → Measured d
    → Measured next
draft_measured place.Between d next line e m = outside_measured d next line (verb_in line) e m
draft_measured place.Package d next line e m = outside_measured d next line (verb_in line) e m
draft_measured place.Container d next line e m = inside_measured d next line (verb_in line) e m
draft_measured place.End d next line e m = absurd (cc)

-- ---- any line

same_reading : (x y : Reading) → ◌≡◌ {A = Result Reading LineReason} (Ok x) (Ok y) → x ≡ y
same_reading x y e = cc

pub can_go_on : (r next : Reading) (line : List ℕ) → reading_after r line ≡ Ok next → CanGoOn r → CanGoOn next
unfolding reading_after
can_go_on reading.First next line e h =
    let told = allowed _ (Ok reading.Server) reason.Word next e in subst CanGoOn (same_reading _ next told.1) tt
can_go_on reading.Server next line e h =
    let told = allowed (begins_with (codes "server") line) _ reason.Word next e in
    let s = said reason.Fields (account_in (parts line)) (λ account. Ok (reading.Limits account)) next told.1 in
    subst CanGoOn (same_reading _ next s.rest) tt
can_go_on (reading.Limits account) next line e h =
    let told = allowed (begins_with (codes "limits") line) _ reason.Word next e in
    let s =
    said reason.Fields (limits_in (parts line)) (λ l. Ok (reading.Commands (empty_draft account l))) next told.1 in
    subst CanGoOn (same_reading _ next s.rest) tt
can_go_on (reading.Commands d) next line e h = by_draft (draft_after d.place d line) refl e
  where
    by_draft : (x : Result JobDraft LineReason) → draft_after d.place d line ≡ x → with_draft x ≡ Ok next → CanGoOn next
    by_draft (Ok n) is k = subst CanGoOn (same_reading _ next k) (draft_measured d.place d n line is h)
    by_draft (Err why) is k = absurd (cc)
