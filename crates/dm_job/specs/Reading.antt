-- A job, line by line: what each line does where it stands, or why it is refused there.
use Rattle.std.specs.Prelude.{◌+◌, ◌&&◌, ℕ, Bool, false, if◌then◌else◌, List, [], ◌∷◌, ◌++◌, bytes_eq, codes}
use Rattle.std.specs.Prelude.{Option, Some, None, option_and_then, Result, Ok, Err}
use Rattle.std.specs.Option.{option_map_or}
use Rattle.dm_base.specs.declared.lines.LineReason.{LineReason}
use Rattle.dm_base.specs.declared.lines.LineReason.TheVariants as reason
use Rattle.dm_base.specs.declared.values.Limits.{Limits}
use Rattle.dm_base.specs.Fields.{parts}
use Rattle.syncml_types.specs.declared.command.Verb.{Verb}
use Rattle.syncml_types.specs.declared.command.Plain.{Plain}
use Rattle.syncml_types.specs.declared.command.Command.{Command}
use Rattle.syncml_types.specs.declared.command.Command.TheVariants as command
use Rattle.syncml_parts.specs.Packing.{last_changed, list_last}
use Rattle.dm_auth.specs.declared.accounts.Account.{Account}
use Rattle.dm_fields.specs.Fields.{begins_with, account_in, limits_in}
use Rattle.dm_fields.specs.Refusing.{or_refused}
use Rattle.dm_job.specs.declared.job.JobEntry.{JobEntry}
use Rattle.dm_job.specs.declared.draft.JobDraft.{JobDraft}
use Rattle.dm_job.specs.declared.draft.LinePlace.{LinePlace}
use Rattle.dm_job.specs.declared.draft.LinePlace.TheVariants as place
use Rattle.dm_job.specs.declared.draft.Reading.{Reading}
use Rattle.dm_job.specs.declared.draft.Reading.TheVariants as reading
use Rattle.dm_job.specs.Commands.{verb_in, plain_in, new_atomic, new_sequence, with_member, may_close}

-- ---- the first lines

-- no command came
abbrev pub empty_draft : Account → Limits → JobDraft
empty_draft account limits = record {
  job = record { account = account; limits = limits; packages = [] };
  place = place.Between;
  count = 0;
}

-- `dm-job 1`, and no other text
abbrev pub first_line : List ℕ → Result Reading LineReason
first_line line = if bytes_eq line (codes "dm-job 1") then Ok reading.Server else Err reason.Word

-- `server ID OPT KEY OPT OPT KEY`
abbrev pub server_line : List ℕ → Result Reading LineReason
server_line line =
    if begins_with (codes "server") line
    then or_refused reason.Fields (account_in (parts line)) (λ account. Ok (reading.Limits account))
    else Err reason.Word

-- `limits NUM NUM`
abbrev pub limits_line : Account → List ℕ → Result Reading LineReason
limits_line account line =
    if begins_with (codes "limits") line
    then or_refused reason.Fields (limits_in (parts line))
    (λ limits. Ok (reading.Commands (empty_draft account limits)))
    else Err reason.Word

-- ---- commands

-- the first command behind a `package` line begins another package, so that none is empty
abbrev pub entry_put : LinePlace → List (List JobEntry) → JobEntry → List (List JobEntry)
entry_put place.Between ps e = ps ++ (e ∷ []) ∷ []
entry_put other ps e = last_changed (λ es. es ++ e ∷ []) ps

-- commands are numbered from 1, a container before its members
abbrev pub adds : JobDraft → LinePlace → Command → JobDraft
adds d next c = record {
  job = record d.job { packages = entry_put d.place d.job.packages (record { number = d.count + 1; command = c }) };
  place = next;
  count = d.count + 1;
}

abbrev pub entry_joined : Plain → JobEntry → JobEntry
entry_joined p e = record e { command = with_member e.command p }

-- the container that is open is the last command
abbrev pub draft_joined : JobDraft → Plain → JobDraft
draft_joined d p = record d {
  job = record d.job { packages = last_changed (last_changed (entry_joined p)) d.job.packages };
  count = d.count + 1;
}

abbrev pub last_entry : List (List JobEntry) → Option JobEntry
last_entry ps = option_and_then list_last (list_last ps)

abbrev pub last_may_close : List (List JobEntry) → Bool
last_may_close ps = option_map_or (λ (e : JobEntry). may_close e.command) (last_entry ps) false

-- ---- the lines of commands

abbrev pub when : Bool → JobDraft → Result JobDraft LineReason
when right next = if right then Ok next else Err reason.Fields

-- a line that is its word alone
abbrev pub word_alone : List ℕ → List ℕ → JobDraft → Result JobDraft LineReason
word_alone word line next = when (bytes_eq line word) next

-- the command that the fields say
abbrev pub fields_said : Verb → List ℕ → (Plain → JobDraft) → Result JobDraft LineReason
fields_said v line next = or_refused reason.Fields (plain_in v (parts line)) (λ p. Ok (next p))

-- `close`: the fields are refused too where the container is empty or too long
abbrev pub close_line : JobDraft → List ℕ → Result JobDraft LineReason
close_line d line =
    when (bytes_eq line (codes "close") && last_may_close d.job.packages) (record d { place = place.Package })

-- in a container: a command, or `close`
abbrev pub inside : JobDraft → List ℕ → Option Verb → Result JobDraft LineReason
inside d line (Some v) = fields_said v line (draft_joined d)
inside d line None = if begins_with (codes "close") line then close_line d line else Err reason.Word

-- outside of containers: a command, or a line that begins a container, parts packages or ends the job
abbrev pub outside : JobDraft → List ℕ → Option Verb → Result JobDraft LineReason
outside d line (Some v) = fields_said v line (λ p. adds d place.Package (command.Plain p))
outside d line None =
    if begins_with (codes "atomic") line then word_alone (codes "atomic") line (adds d place.Container new_atomic)
    else if begins_with (codes "sequence") line then word_alone (codes "sequence") line (adds d place.Container new_sequence)
    else if begins_with (codes "package") line then word_alone (codes "package") line (record d { place = place.Between })
    else if begins_with (codes "end") line then word_alone (codes "end") line (record d { place = place.End })
    else Err reason.Word

-- nothing stands behind `end`
abbrev pub draft_after : LinePlace → JobDraft → List ℕ → Result JobDraft LineReason
draft_after place.Between d line = outside d line (verb_in line)
draft_after place.Package d line = outside d line (verb_in line)
draft_after place.Container d line = inside d line (verb_in line)
draft_after place.End d line = Err reason.Word

abbrev pub with_draft : Result JobDraft LineReason → Result Reading LineReason
with_draft (Ok d) = Ok (reading.Commands d)
with_draft (Err why) = Err why

-- ---- any line

unfoldable pub reading_after : Reading → List ℕ → Result Reading LineReason
reading_after reading.First line = first_line line
reading_after reading.Server line = server_line line
reading_after (reading.Limits account) line = limits_line account line
reading_after (reading.Commands d) line = with_draft (draft_after d.place d line)

-- line n was read, and others follow
abbrev pub reading_behind : {X : Type 0} → ℕ → Result Reading LineReason → (Reading → Result X (ℕ × LineReason))
    → Result X (ℕ × LineReason)
reading_behind n (Ok next) rest = rest next
reading_behind n (Err why) rest = Err (n, why)

-- the lines from line n on: how far they come, or the number of the first that is refused, and why
abbrev pub reading_after_all : ℕ → Reading → List (List ℕ) → Result Reading (ℕ × LineReason)
reading_after_all n r [] = Ok r
reading_after_all n r (line ∷ lines) = reading_behind n (reading_after r line) (λ next. reading_after_all (n + 1) next lines)
