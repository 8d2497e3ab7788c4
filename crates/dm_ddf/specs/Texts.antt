-- Texts with a description: what their lines tell one after the other, and what is written for them.
use Rattle.std.specs.Prelude.{◌≡◌, ◌+◌, ℕ, Bool, true, false, if◌then◌else◌, nat_lt, List, [], ◌∷◌, ◌++◌, length}
use Rattle.std.specs.Prelude.{bytes_eq, codes, Option, Some, None, Result, Ok, Err, ⊤}
use Rattle.std.specs.Fmt.{decimal}
use Rattle.dm_base.specs.Lines.{run_limit, line_feed}
use Rattle.dm_base.specs.declared.lines.LineReason.{LineReason}
use Rattle.dm_base.specs.declared.lines.LineReason.TheVariants as reason
use Rattle.dm_fields.specs.Fields.{begins_with}
use Rattle.dm_uri.specs.Names.{printed_path}
use Rattle.dm_tree.specs.Nodes.{Path, Nodes}
use Rattle.dm_tree.specs.Rows.{nodes}
use Rattle.dm_start.specs.declared.heads.Head.TheVariants as head
use Rattle.dm_start.specs.declared.telling.Phase.TheVariants as phase
use Rattle.dm_start.specs.Start.{Setup, Section, opening, telling, told_of, after_line as section_after}
use Rattle.dm_start.specs.TreeText.{tree_text}
use Rattle.dm_job.specs.Texts.{segments, is_long, unended}
use Rattle.dm_texts.specs.Lines.{bad_line}
use Rattle.dm_exit.specs.declared.exit.Exit.{Exit}
use Rattle.dm_exit.specs.declared.exit.Exit.TheVariants as exit
use Rattle.dm_ddf.specs.declared.errors.DdfError.{DdfError}
use Rattle.dm_ddf.specs.declared.errors.DdfError.TheVariants as ddf_error
use Rattle.dm_ddf.specs.declared.rules.Ddf.{Ddf}
use Rattle.dm_ddf.specs.declared.reader.DdfProgress.{DdfProgress}
use Rattle.dm_ddf.specs.declared.reader.DdfProgress.TheVariants as progress
use Rattle.dm_ddf.specs.declared.conforming.Why.{Why}
use Rattle.dm_ddf.specs.declared.conforming.Why.TheVariants as why
use Rattle.dm_ddf.specs.Breaches.{first_breach}
use Rattle.dm_ddf.specs.Making.{asked_tree}
use Rattle.dm_ddf.specs.Reading.{progress_after, described}

-- ---- lines one after another

-- the first line that is refused, and why
abbrev pub Refused : Type 0
Refused = ℕ × LineReason

abbrev pub then_read : {X Y : Type 0} → Result X Refused → (X → Result Y Refused) → Result Y Refused
then_read (Ok x) next = next x
then_read (Err refused) next = Err refused

-- what lines told, the number of the next one, and what stands behind them
abbrev pub ToldBefore : Type 0 → Type 0
ToldBefore X = X × ℕ × List (List ℕ)

abbrev pub when_told : {X : Type 0} → ℕ → Option X → List (List ℕ) → Result (ToldBefore X) Refused → Result
    (ToldBefore X) Refused
when_told n (Some x) behind rest = Ok (x, n, behind)
when_told n None behind rest = rest

abbrev pub when_read : {S X : Type 0} → ℕ → Result S LineReason → (S → Result (ToldBefore X) Refused) → Result
    (ToldBefore X) Refused
when_read n (Ok s) next = next s
when_read n (Err why) next = Err (n, why)

-- lines from line n on, each of which leads on by `after`, up to the first behind which something is told
abbrev pub lines_from : {S X : Type 0} → (S → List ℕ → Result S LineReason) → (S → Option X) → ℕ → S → List (List ℕ)
    → Result (ToldBefore X) Refused
lines_from after told n s [] = Err (n, reason.Cut)
lines_from after told n s (tail ∷ []) = Err (unended n tail)
lines_from after told n s (line ∷ next ∷ others) =
    if is_long line then Err (n, reason.Long)
    else when_read n (after s line)
    (λ read. when_told (n + 1) (told read) (next ∷ others) (lines_from after told (n + 1) read (next ∷ others)))

-- nothing stands behind the last line
abbrev pub with_nothing_behind : {X : Type 0} → ℕ → X → List (List ℕ) → Result X Refused
with_nothing_behind n x ([] ∷ []) = Ok x
with_nothing_behind n x other = Err (n, reason.Extra)

-- ---- the parts of a text

-- a description, from `dm-ddf 1` to its `end`
abbrev pub ddf_from : ℕ → DdfProgress → List (List ℕ) → Result (ToldBefore Ddf) Refused
ddf_from n p behind = lines_from progress_after described n p behind

-- what a start section told, where `begin` came
abbrev pub setup_in : Section → Option Setup
setup_in (opening h) = None
setup_in (telling phase.Accounts told) = None
setup_in (telling phase.Nodes told) = None
setup_in (telling phase.Begun told) = Some told

-- the start section of a trace of either version
abbrev pub setup_lines_from : ℕ → Section → List (List ℕ) → Result (ToldBefore Setup) Refused
setup_lines_from n s behind = lines_from section_after setup_in n s behind

-- `end`, and no other line
abbrev pub end_after : Bool → List ℕ → Result Bool LineReason
end_after when_ended line =
    if bytes_eq line (codes "end") then Ok true
    else if begins_with (codes "end") line then Err reason.Fields
    else Err reason.Word

abbrev pub when_ended : Bool → Option Bool
when_ended true = Some true
when_ended false = None

abbrev pub end_lines_from : ℕ → List (List ℕ) → Result (ToldBefore Bool) Refused
end_lines_from n behind = lines_from end_after when_ended n false behind

-- ---- the whole texts

-- the description that a text is
unfoldable pub ddf_of : List ℕ → Result Ddf Refused
ddf_of text = then_read (ddf_from 1 progress.First (segments text)) (λ d. with_nothing_behind d.1 d.0 d.2)

abbrev pub why_word : Why → List ℕ
why_word why.NoRule = codes "norule"
why_word why.Format = codes "format"
why_word why.Scope = codes "scope"
why_word why.Access = codes "access"
why_word (why.Few r) = codes "few " ++ decimal r
why_word (why.Many r) = codes "many " ++ decimal r

abbrev pub verdict_text : Option (Path × Why) → List ℕ
verdict_text None = codes "conforms"
verdict_text (Some breach) = codes "breaks " ++ printed_path breach.0 ++ codes " " ++ why_word breach.1

abbrev pub verdict_line : Ddf → Setup → List ℕ
verdict_line ddf told = verdict_text (first_breach told.nodes ddf.rules) ++ line_feed

-- `end`, and nothing behind it
abbrev pub ending_from : ℕ → List (List ℕ) → Result Bool Refused
ending_from n behind = then_read (end_lines_from n behind) (λ e. with_nothing_behind e.1 e.0 e.2)

-- the start section of a tree, and `end`
abbrev pub setup_from : ℕ → List (List ℕ) → Result Setup Refused
setup_from n behind =
    then_read (setup_lines_from n (opening head.First) behind) (λ s. then_read (ending_from s.1 s.2) (λ e. Ok s.0))

-- what is told of what stands behind a description
abbrev pub behind_ddf : ToldBefore Ddf → Result (List ℕ) Refused
behind_ddf d = then_read (setup_from d.1 d.2) (λ told. Ok (verdict_line d.0 told))

-- what is told of a text with a description and a tree
unfoldable pub conform_of : List ℕ → Result (List ℕ) Refused
conform_of text = then_read (ddf_from 1 progress.First (segments text)) behind_ddf

-- the tree text, of version 1, of the tree that a description asks for
abbrev pub asked_text : Ddf → List ℕ
asked_text d = tree_text 1 (asked_tree d.rules)

-- what is told of a text with a description alone
unfoldable pub make_of : List ℕ → Result (List ℕ) Refused
make_of text = then_read (ddf_of text) (λ d. Ok (asked_text d))

-- ---- what is written and answered

abbrev pub answer_for : Result (List ℕ) Refused → List ℕ
answer_for (Ok text) = text ++ codes "done" ++ line_feed
answer_for (Err refused) = bad_line refused.0 refused.1

abbrev pub exit_for : Result (List ℕ) Refused → Exit
exit_for (Ok text) = exit.Done
exit_for (Err refused) = exit.BadInput

-- more bytes than are looked at
abbrev pub is_past_limit : List ℕ → Bool
is_past_limit bytes = nat_lt run_limit (length bytes)

-- nothing is written where the input is too long
unfoldable pub text_said : (List ℕ → Result (List ℕ) Refused) → List ℕ → List ℕ
text_said says bytes = if is_past_limit bytes then [] else answer_for (says bytes)

unfoldable pub exit_of_text : (List ℕ → Result (List ℕ) Refused) → List ℕ → Exit
exit_of_text says bytes = if is_past_limit bytes then exit.TooLong else exit_for (says bytes)

-- ---- how the parts are read

-- what was told is the wanted thing, or the first line that is refused; want of memory may come in the place of each
abbrev pub GivesTold : {X : Type 0} → Result X Refused → Result X DdfError → Type 0
GivesTold wanted (Ok x) = wanted ≡ Ok x
GivesTold wanted (Err (ddf_error.Bad n why)) = wanted ≡ Err (n, why)
GivesTold wanted (Err ddf_error.Memory) = ⊤
