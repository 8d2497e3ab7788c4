-- The numbers of each job that is read are in the ranges of their types.
use Rattle.std.proofs.Common.{◌+◌, ◌&&◌, ℕ, Bool, true, false, cond, List, [], ◌∷◌, ◌++◌, Option, None, Some, IfSome}
use Rattle.std.proofs.Common.{subst, arith}
use Rattle.std.specs.Prelude.{codes, bytes_eq, Result, Ok, Err, option_map}
use Rattle.std.specs.List.{AllByRecursion}
use Rattle.dm_base.specs.declared.lines.LineReason.{LineReason}
use Rattle.dm_base.specs.declared.lines.LineReason.TheVariants as reason
use Rattle.dm_base.specs.declared.values.Limits.{Limits}
use Rattle.dm_base.specs.Fields.{parts, is_short, is_word}
use Rattle.syncml_types.specs.declared.values.Meta.{Meta}
use Rattle.syncml_types.specs.declared.command.Verb.{Verb}
use Rattle.syncml_types.specs.declared.command.Verb.TheVariants as verb
use Rattle.syncml_types.specs.declared.command.Plain.{Plain}
use Rattle.syncml_types.specs.declared.command.Member.TheVariants as member
use Rattle.syncml_types.specs.declared.command.SeqMember.TheVariants as seq_member
use Rattle.syncml_types.specs.declared.command.Command.{Command}
use Rattle.syncml_types.specs.declared.command.Command.TheVariants as command
use Rattle.syncml_parts.specs.Packing.{last_changed}
use Rattle.syncml_codec.specs.Ranges.{MetaRange, PlainRange, MemberRange, SeqMemberRange, CommandRange}
use Rattle.dm_auth.specs.declared.accounts.Account.{Account}
use Rattle.dm_fields.specs.Fields.{begins_with, opt_of, account_in, limits_in}
use Rattle.dm_fields.specs.Refusing.{or_refused}
use Rattle.dm_job.specs.declared.job.Job.{Job}
use Rattle.dm_job.specs.declared.job.JobEntry.{JobEntry}
use Rattle.dm_job.specs.declared.draft.JobDraft.{JobDraft}
use Rattle.dm_job.specs.declared.draft.LinePlace.{LinePlace}
use Rattle.dm_job.specs.declared.draft.LinePlace.TheVariants as place
use Rattle.dm_job.specs.declared.draft.Reading.{Reading}
use Rattle.dm_job.specs.declared.draft.Reading.TheVariants as reading
use Rattle.dm_job.specs.Commands.{meta_of, item_of, plain_of, bare_in, exec_in, hex_data_in, plain_written, write_in}
use Rattle.dm_job.specs.Commands.{verb_in}
use Rattle.dm_job.specs.Commands.{plain_in, new_atomic, new_sequence, with_member}
use Rattle.dm_job.specs.Reading.{empty_draft, entry_put, adds, entry_joined, draft_joined}
use Rattle.dm_job.specs.Reading.{last_may_close, when, close_line, inside, outside, draft_after, with_draft}
use Rattle.dm_job.specs.Reading.{reading_after, reading_behind}
use Rattle.dm_job.specs.Sound.{all_entries}
use Rattle.dm_job.specs.Texts.{segments, is_long, ended_at, job_in, end_at, end_or, job_from, job_of}
use Rattle.dm_world.specs.Start.{JobsAreInRange}
use Rattle.dm_world.proofs.Lists.{either}
use Rattle.dm_world.proofs.Ranges.{all-append}

-- ---- the command that a line says

meta-range : (format media : Option (List ℕ)) → IfSome (meta_of format media) MetaRange
meta-range None None = tt
meta-range (Some format) media = record { size = tt; max_msg = tt; max_obj = tt }
meta-range None (Some media) = record { size = tt; max_msg = tt; max_obj = tt }

plain-of : (v : Verb) (correlator : Option (List ℕ)) (uri : List ℕ) (meta : Option Meta) (value : Option (List ℕ))
    → IfSome meta MetaRange
    → PlainRange (plain_of v correlator (item_of uri meta value))
plain-of v correlator uri meta value h = record { id = omega arith; meta = tt; items = (h, tt) }

if-plain : (b : Bool) (p : Plain) → PlainRange p → IfSome (cond b (Some p) None) PlainRange
if-plain true p h = h
if-plain false p h = tt

bare-range : (v : Verb) (fields : List (List ℕ)) → IfSome (bare_in v fields) PlainRange
bare-range v [] = tt
bare-range v (word ∷ []) = tt
bare-range v (word ∷ uri ∷ []) = if-plain (is_word uri) _ (plain-of v None uri None None tt)
bare-range v (word ∷ uri ∷ more ∷ rest) = tt

exec-range : (fields : List (List ℕ)) → IfSome (exec_in fields) PlainRange
exec-range [] = tt
exec-range (word ∷ []) = tt
exec-range (word ∷ uri ∷ []) = tt
exec-range (word ∷ uri ∷ correlator ∷ []) =
    if-plain (is_word uri && is_short correlator) _ (plain-of verb.Exec (opt_of correlator) uri None None tt)
exec-range (word ∷ uri ∷ correlator ∷ more ∷ rest) = tt

written-range : (v : Verb) (uri format media : List ℕ) (o : Option (List ℕ))
    → IfSome (option_map (plain_written v uri format media) o) PlainRange
written-range v uri format media None = tt
written-range v uri format media (Some bytes) =
    plain-of v None uri (meta_of (opt_of format) (opt_of media)) (Some bytes)
    (meta-range (opt_of format) (opt_of media))

write-range : (v : Verb) (fields : List (List ℕ)) → IfSome (write_in v fields) PlainRange
write-range v [] = tt
write-range v (a ∷ []) = tt
write-range v (a ∷ b ∷ []) = tt
write-range v (a ∷ b ∷ c ∷ []) = tt
write-range v (a ∷ b ∷ c ∷ d ∷ []) = tt
write-range v (word ∷ uri ∷ format ∷ media ∷ bytes ∷ []) =
    either (λ (o : Option Plain). IfSome o PlainRange) (is_word uri && is_short format && is_word media)
    {x = option_map (plain_written v uri format media) (hex_data_in bytes)} {y = None}
    (written-range v uri format media (hex_data_in bytes)) tt
write-range v (a ∷ b ∷ c ∷ d ∷ e ∷ more ∷ rest) = tt

plain-range : (v : Verb) (fields : List (List ℕ)) → IfSome (plain_in v fields) PlainRange
plain-range verb.Get fields = bare-range verb.Get fields
plain-range verb.Delete fields = bare-range verb.Delete fields
plain-range verb.Add fields = write-range verb.Add fields
plain-range verb.Replace fields = write-range verb.Replace fields
plain-range verb.Exec fields = exec-range fields
plain-range verb.Copy fields = tt

-- ---- packages

abbrev JobRange : JobEntry → Type 0
JobRange e = CommandRange e.command

abbrev PackagesRange : List (List JobEntry) → Type 0
PackagesRange = AllByRecursion (AllByRecursion JobRange)

flat-range : (ps : List (List JobEntry)) → PackagesRange ps → AllByRecursion JobRange (all_entries ps)
flat-range [] h = tt
flat-range (p ∷ ps) h = all-append JobRange p (all_entries ps) h.0 (flat-range ps h.1)

last-range : {A : Type 0} (P : A → Type 0) (f : A → A) → ((x : A) → P x → P (f x)) → (xs : List A) → AllByRecursion P xs
    → AllByRecursion P (last_changed f xs)
last-range P f one [] h = tt
last-range P f one (x ∷ []) h = (one x h.0, tt)
last-range P f one (x ∷ y ∷ xs) h = (h.0, last-range P f one (y ∷ xs) h.1)

behind-range : (ps : List (List JobEntry)) (e : JobEntry) → PackagesRange ps → JobRange e
    → PackagesRange (last_changed (λ es. es ++ e ∷ []) ps)
behind-range ps e h k =
    last-range (AllByRecursion JobRange) (λ es. es ++ e ∷ []) (λ es is. all-append JobRange es (e ∷ []) is (k, tt)) ps h

entry-range : (p : LinePlace) (ps : List (List JobEntry)) (e : JobEntry) → PackagesRange ps → JobRange e
    → PackagesRange (entry_put p ps e)
entry-range place.Between ps e h k = all-append (AllByRecursion JobRange) ps ((e ∷ []) ∷ []) h ((k, tt), tt)
entry-range place.Package ps e h k = behind-range ps e h k
entry-range place.Container ps e h k = behind-range ps e h k
entry-range place.End ps e h k = behind-range ps e h k

with-member : (c : Command) (p : Plain) → CommandRange c → PlainRange p → CommandRange (with_member c p)
with-member (command.Plain c) p h k = h
with-member (command.Alert c) p h k = h
with-member (command.Atomic b) p h k = record {
  id = h.id;
  meta = h.meta;
  members = all-append MemberRange b.members (member.One p ∷ []) h.members (k, tt);
}
with-member (command.Sequence b) p h k = record {
  id = h.id;
  meta = h.meta;
  members = all-append SeqMemberRange b.members (seq_member.Single (member.One p) ∷ []) h.members (k, tt);
}
with-member (command.Status c) p h k = h
with-member (command.Results c) p h k = h

-- ---- a line

abbrev DraftRange : JobDraft → Type 0
DraftRange d = PackagesRange d.job.packages

abbrev DraftResult : Result JobDraft LineReason → Type 0
DraftResult (Ok d) = DraftRange d
DraftResult (Err why) = Unit {0}

adds-range : (d : JobDraft) (next : LinePlace) (c : Command) → DraftRange d → CommandRange c → DraftRange (adds d next c)
adds-range d next c h k = entry-range d.place d.job.packages _ h k

joins-range : (d : JobDraft) (p : Plain) → DraftRange d → PlainRange p → DraftRange (draft_joined d p)
joins-range d p h k =
    last-range (AllByRecursion JobRange) (last_changed (entry_joined p))
    (λ es is. last-range JobRange (entry_joined p) (λ e r. with-member e.command p r k) es is) d.job.packages h

when-range : (b : Bool) (d : JobDraft) → DraftRange d → DraftResult (when b d)
when-range true d h = h
when-range false d h = tt

said-range : (o : Option Plain) (next : Plain → JobDraft) → IfSome o PlainRange
    → ((p : Plain) → PlainRange p → DraftRange (next p))
    → DraftResult (or_refused reason.Fields o (λ p. Ok (next p)))
said-range None next h one = tt
said-range (Some p) next h one = one p h

inside-range : (d : JobDraft) (line : List ℕ) (o : Option Verb) → DraftRange d → DraftResult (inside d line o)
inside-range d line (Some v) h =
    said-range (plain_in v (parts line)) (draft_joined d) (plain-range v (parts line)) (λ p k. joins-range d p h k)
inside-range d line None h =
    either DraftResult (begins_with (codes "close") line) {x = close_line d line} {y = Err reason.Word}
    (when-range (bytes_eq line (codes "close") && last_may_close d.job.packages) (record d { place = place.Package }) h)
    tt

outside-range : (d : JobDraft) (line : List ℕ) (o : Option Verb) → DraftRange d → DraftResult (outside d line o)
outside-range d line (Some v) h =
    said-range (plain_in v (parts line)) (λ p. adds d place.Package (command.Plain p)) (plain-range v (parts line))
    (λ p k. adds-range d place.Package (command.Plain p) h k)
outside-range d line None h =
    either DraftResult (begins_with (codes "atomic") line)
    (when-range (bytes_eq line (codes "atomic")) (adds d place.Container new_atomic)
    (adds-range d place.Container new_atomic h (record { id = omega arith; meta = tt; members = tt })))
    (either DraftResult (begins_with (codes "sequence") line)
    (when-range (bytes_eq line (codes "sequence")) (adds d place.Container new_sequence)
    (adds-range d place.Container new_sequence h (record { id = omega arith; meta = tt; members = tt })))
    (either DraftResult (begins_with (codes "package") line)
    (when-range (bytes_eq line (codes "package")) (record d { place = place.Between }) h)
    (either DraftResult (begins_with (codes "end") line) {y = Err reason.Word}
    (when-range (bytes_eq line (codes "end")) (record d { place = place.End }) h) tt)))

draft-range : (p : LinePlace) (d : JobDraft) (line : List ℕ) → DraftRange d → DraftResult (draft_after p d line)
draft-range place.Between d line h = outside-range d line (verb_in line) h
draft-range place.Package d line h = outside-range d line (verb_in line) h
draft-range place.Container d line h = inside-range d line (verb_in line) h
draft-range place.End d line h = tt

-- ---- lines

abbrev ReadingRange : Reading → Type 0
ReadingRange reading.First = Unit {0}
ReadingRange reading.Server = Unit {0}
ReadingRange (reading.Limits account) = Unit {0}
ReadingRange (reading.Commands d) = DraftRange d

abbrev ReadingResult : Result Reading LineReason → Type 0
ReadingResult (Ok r) = ReadingRange r
ReadingResult (Err why) = Unit {0}

account-range : (o : Option Account)
    → ReadingResult (or_refused reason.Fields o (λ account. Ok (reading.Limits account)))
account-range None = tt
account-range (Some account) = tt

limits-range : (account : Account) (o : Option Limits)
    → ReadingResult (or_refused reason.Fields o (λ limits. Ok (reading.Commands (empty_draft account limits))))
limits-range account None = tt
limits-range account (Some limits) = tt

commands-range : (r : Result JobDraft LineReason) → DraftResult r → ReadingResult (with_draft r)
commands-range (Ok d) h = h
commands-range (Err why) h = tt

line-range : (r : Reading) (line : List ℕ) → ReadingRange r → ReadingResult (reading_after r line)
unfolding reading_after
line-range reading.First line h =
    either ReadingResult (bytes_eq line (codes "dm-job 1")) {x = Ok reading.Server} {y = Err reason.Word} tt tt
line-range reading.Server line h =
    either ReadingResult (begins_with (codes "server") line) {y = Err reason.Word}
    (account-range (account_in (parts line))) tt
line-range (reading.Limits account) line h =
    either ReadingResult (begins_with (codes "limits") line) {y = Err reason.Word}
    (limits-range account (limits_in (parts line))) tt
line-range (reading.Commands d) line h = commands-range (draft_after d.place d line) (draft-range d.place d line h)

-- ---- a text

abbrev JobResult : Result Job (ℕ × LineReason) → Type 0
JobResult (Ok job) = PackagesRange job.packages
JobResult (Err refused) = Unit {0}

end-range : (n : ℕ) (job : Job) (behind : List (List ℕ)) → PackagesRange job.packages → JobResult (end_at n job behind)
end-range n job [] h = tt
end-range n job ([] ∷ []) h = h
end-range n job ([] ∷ next ∷ others) h = tt
end-range n job ((b ∷ bs) ∷ others) h = tt

ended-range : (p : LinePlace) (job : Job) → PackagesRange job.packages
    → IfSome (ended_at p job) (λ (j : Job). PackagesRange j.packages)
ended-range place.End job h = h
ended-range place.Between job h = tt
ended-range place.Package job h = tt
ended-range place.Container job h = tt

in-range : (r : Reading) → ReadingRange r → IfSome (job_in r) (λ (j : Job). PackagesRange j.packages)
in-range reading.First h = tt
in-range reading.Server h = tt
in-range (reading.Limits account) h = tt
in-range (reading.Commands d) h = ended-range d.place d.job h

or-range : (n : ℕ) (o : Option Job) (behind : List (List ℕ)) (rest : Result Job (ℕ × LineReason))
    → IfSome o (λ (j : Job). PackagesRange j.packages) → JobResult rest
    → JobResult (end_or n o behind rest)
or-range n None behind rest h k = k
or-range n (Some job) behind rest h k = end-range (n + 1) job behind h

behind-line : (n : ℕ) (r : Result Reading LineReason) (rest : Reading → Result Job (ℕ × LineReason)) → ReadingResult r
    → ((next : Reading) → ReadingRange next → JobResult (rest next))
    → JobResult (reading_behind n r rest)
behind-line n (Ok next) rest h one = one next h
behind-line n (Err why) rest h one = tt

from-range : (n : ℕ) (r : Reading) (lines : List (List ℕ)) → ReadingRange r → JobResult (job_from n r lines)
from-range n r [] h = tt
from-range n r (tail ∷ []) h = tt
from-range n r (line ∷ next ∷ others) h =
    either JobResult (is_long line) {x = Err (n, reason.Long)} tt
    (behind-line n (reading_after r line) _ (line-range r line h)
    (λ read is. or-range n (job_in read) (next ∷ others) (job_from (n + 1) read (next ∷ others)) (in-range read is)
    (from-range (n + 1) read (next ∷ others) is)))

pub jobs_are_in_range : JobsAreInRange
unfolding job_of
jobs_are_in_range text job e =
    flat-range job.packages (subst JobResult e (from-range 1 reading.First (segments text) tt))
