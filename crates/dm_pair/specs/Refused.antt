-- What it means that a text of both ends is refused at a line, by the lines before it and what stands there.
use Rattle.std.specs.Prelude.{◌≡◌, ◌≢◌, ◌⊎◌, ◌≤◌, ◌+◌, ℕ, true, false, not, List, [], ◌∷◌, ◌++◌, length, Result, Ok}
use Rattle.std.specs.Prelude.{Err}
use Rattle.std.specs.List.{list_all}
use Rattle.dm_base.specs.Lines.{run_limit}
use Rattle.dm_base.specs.declared.lines.LineReason.{LineReason}
use Rattle.dm_base.specs.declared.lines.LineReason.TheVariants as reason
use Rattle.dm_exit.specs.declared.exit.Exit.TheVariants as exit
use Rattle.dm_job.specs.Texts.{segments, is_long}
use Rattle.dm_texts.specs.Lines.{bad_line}
use Rattle.dm_pair.specs.Texts.{TextStage, first, starting, jobbing, happening, over, TextTurn, silently, text_turn}
use Rattle.dm_pair.specs.Texts.{pair_text, pair_exit}

-- ---- lines that are taken

-- this is written in front of what is written for the lines behind
abbrev pub behind_written : List ℕ → Result TextTurn LineReason → Result TextTurn LineReason
behind_written text (Ok t) = Ok (record { stage = t.stage; written = text ++ t.written })
behind_written text (Err why) = Err why

abbrev pub and_turns : Result TextTurn LineReason → (TextStage → Result TextTurn LineReason) → Result TextTurn LineReason
and_turns (Ok t) rest = behind_written t.written (rest t.stage)
and_turns (Err why) rest = Err why

-- the stage behind lines that are all taken, with all that is written for them
abbrev pub turns_from : TextStage → List (List ℕ) → Result TextTurn LineReason
turns_from s [] = Ok (silently s)
turns_from s (line ∷ lines) = and_turns (text_turn s line) (λ next. turns_from next lines)

-- ---- a line that is refused

-- a line within its limit is refused for what it says where it stands, or because no line feed ends it
abbrev pub IsWrongLine : LineReason → TextStage → List ℕ → List (List ℕ) → Type 0
IsWrongLine why s line [] = why ≡ reason.Cut
IsWrongLine why s line (next ∷ others) = text_turn s line ≡ Err why

abbrev pub IsWrongOrLong : LineReason → TextStage → List ℕ → List (List ℕ) → Type 0
IsWrongOrLong why s line behind =
    ((is_long line ≡ true) × (why ≡ reason.Long)) ⊎ ((is_long line ≡ false) × IsWrongLine why s line behind)

-- where the lines before have come so far, and these segments stand behind it: nothing may stand behind `end`
abbrev pub IsRefusedBehind : LineReason → TextStage → List ℕ → List (List ℕ) → Type 0
IsRefusedBehind why first line behind = IsWrongOrLong why first line behind
IsRefusedBehind why (starting s) line behind = IsWrongOrLong why (starting s) line behind
IsRefusedBehind why (jobbing told r) line behind = IsWrongOrLong why (jobbing told r) line behind
IsRefusedBehind why (happening ids p) line behind = IsWrongOrLong why (happening ids p) line behind
IsRefusedBehind why (over p) line behind = (why ≡ reason.Extra) × (line ∷ behind ≢ [] ∷ [])

-- line n is the first that is refused, of a text that isn't too long: those before it are taken, each within its limit
pub record IsRefusedText (bytes : List ℕ) (n : ℕ) (why : LineReason) : Type 0 where
  pub few : length bytes ≤ run_limit
  pub before : List (List ℕ)
  pub line : List ℕ
  pub behind : List (List ℕ)
  pub are : segments bytes ≡ before ++ line ∷ behind
  pub number : n ≡ 1 + length before
  pub short : list_all (λ l. not (is_long l)) before ≡ true
  pub reached : TextTurn
  pub taken : turns_from first before ≡ Ok reached
  pub refused : IsRefusedBehind why reached.stage line behind

-- ---- the laws

-- where a text is refused, a line is the first that is
abbrev pub TextRefusalsAreFirst : Type 0
TextRefusalsAreFirst =
    (bytes : List ℕ) → pair_exit bytes ≡ exit.BadInput → (n : ℕ) × (why : LineReason) × IsRefusedText bytes n why

-- and of a text with such a line what is written for those before it stands, and then its number and why
abbrev pub TextRefusalsAreTold : Type 0
TextRefusalsAreTold =
    (bytes : List ℕ) (n : ℕ) (why : LineReason) → (r : IsRefusedText bytes n why)
    → (pair_text bytes ≡ r.reached.written ++ bad_line n why) × (pair_exit bytes ≡ exit.BadInput)
