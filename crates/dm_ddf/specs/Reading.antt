-- A description, line by line: what each line does where it stands, or why it is refused there.
use Rattle.std.specs.Prelude.{◌≡◌, ◌&&◌, ◌||◌, ◌+◌, ℕ, Bool, true, false, not, if◌then◌else◌, nat_le, nat_lt, List}
use Rattle.std.specs.Prelude.{[], ◌∷◌, ◌++◌, length, take}
use Rattle.std.specs.Prelude.{bytes_eq, codes, set, slice_get, option_and_then, Option, Some, None, Result, Ok, Err}
use Rattle.std.specs.Option.{option_map_or}
use Rattle.dm_base.specs.declared.lines.LineReason.{LineReason}
use Rattle.dm_base.specs.declared.lines.LineReason.TheVariants as reason
use Rattle.dm_base.specs.Fields.{parts}
use Rattle.dm_fields.specs.Fields.{begins_with}
use Rattle.dm_fields.specs.declared.errors.LineError.{LineError}
use Rattle.dm_fields.specs.Refusing.{or_refused, Refuses}
use Rattle.dm_ddf.specs.declared.rules.Ddf.{Ddf}
use Rattle.dm_ddf.specs.declared.rules.Occurs.{Occurs}
use Rattle.dm_ddf.specs.declared.rules.Occurs.TheVariants as occurs
use Rattle.dm_ddf.specs.declared.rules.Rule.{Rule}
use Rattle.dm_ddf.specs.declared.rules.RuleLine.{RuleLine}
use Rattle.dm_ddf.specs.declared.reader.RuleList.{RuleList}
use Rattle.dm_ddf.specs.declared.reader.DdfProgress.{DdfProgress}
use Rattle.dm_ddf.specs.declared.reader.DdfProgress.TheVariants as progress
use Rattle.dm_ddf.specs.Fields.{rule_in}
use Rattle.dm_ddf.specs.Rules.{top_rule, has_named, is_wild, is_inner}

-- the top alone; a rule of DEPTH 1 comes right below it
abbrev pub no_rules : RuleList
no_rules = record { rules = top_rule ∷ []; above = 0 ∷ [] }

-- ---- one rule

abbrev pub is_single : Occurs → Bool
is_single occurs.One = true
is_single occurs.ZeroOrOne = true
is_single occurs.ZeroOrMore = false
is_single occurs.OneOrMore = false
is_single (occurs.ZeroOrN n) = false
is_single (occurs.OneOrN n) = false

-- how many bytes the path of names from the root has when it is printed, each `*` counted as five bytes
abbrev pub written_below : ℕ → List ℕ → ℕ
written_below above name = above + 1 + (if is_wild name then 5 else length name)

-- the rule may stand right below this one, names there aside: this is `node`, a name other than `*` is for one node at
-- most, no permanent node stands below another one, and the path is short enough
abbrev pub takes_rule : Rule → RuleLine → Bool
takes_rule parent said =
    is_inner parent && (is_wild said.name || is_single said.occurs) && (parent.permanent || not said.permanent)
    && nat_le (written_below parent.written said.name) 255

-- how long its path is, where it may stand there
abbrev pub written_at : List Rule → ℕ → RuleLine → Rule → Option ℕ
written_at rules p said parent =
    if takes_rule parent said && not (has_named rules p said.name) then Some (written_below parent.written said.name)
    else None

abbrev pub may_come : List Rule → ℕ → RuleLine → Option ℕ
may_come rules p said = option_and_then (written_at rules p said) (slice_get rules p)

abbrev pub new_rule : ℕ → ℕ → RuleLine → Rule
new_rule p written said = record {
  name = said.name;
  permanent = said.permanent;
  access = said.access;
  formats = said.formats;
  occurs = said.occurs;
  parent = p;
  children = [];
  written = written;
}

abbrev pub with_child_rule : ℕ → Rule → Rule
with_child_rule n rule = record rule { children = rule.children ++ n ∷ [] }

abbrev pub with_child_at : List Rule → ℕ → ℕ → List Rule
with_child_at rules p n = option_map_or (λ rule. set rules p (with_child_rule n rule)) (slice_get rules p) rules

-- the rule comes behind all others, as the last right below the rule p; rules may come right below it then, or below
-- those above it
abbrev pub with_rule_line : RuleList → ℕ → ℕ → RuleLine → RuleList
with_rule_line l p written said = record {
  rules = with_child_at l.rules p (length l.rules) ++ new_rule p written said ∷ [];
  above = take (said.level + 1) l.above ++ length l.rules ∷ [];
}

abbrev pub below_parent : RuleList → RuleLine → ℕ → Result RuleList LineReason
below_parent l said p = or_refused reason.Tree (may_come l.rules p said) (λ written. Ok (with_rule_line l p written
    said))

-- its parent is the last rule of a DEPTH one less, whose list has not ended
abbrev pub placed_rule : RuleList → RuleLine → Result RuleList LineReason
placed_rule l said = or_refused reason.Tree (slice_get l.above said.level) (below_parent l said)

-- at most 4,096 rules
abbrev pub rule_line : RuleList → List (List ℕ) → Result RuleList LineReason
rule_line l fields =
    if nat_le (length l.rules) 4096 then or_refused reason.Fields (rule_in fields) (placed_rule l) else Err
    reason.Fields

-- ---- any line

-- `dm-ddf 1`, and no other text
abbrev pub ddf_first_line : List ℕ → Result DdfProgress LineReason
ddf_first_line line = if bytes_eq line (codes "dm-ddf 1") then Ok (progress.Rules no_rules) else Err reason.Word

abbrev pub with_rules : Result RuleList LineReason → Result DdfProgress LineReason
with_rules (Ok l) = Ok (progress.Rules l)
with_rules (Err why) = Err why

-- `end`
abbrev pub ddf_end_line : RuleList → List ℕ → Result DdfProgress LineReason
ddf_end_line l line =
    if bytes_eq line (codes "end") then Ok (progress.End (record { rules = l.rules })) else Err reason.Fields

abbrev pub ddf_later_line : RuleList → List ℕ → Result DdfProgress LineReason
ddf_later_line l line =
    if begins_with (codes "rule") line then with_rules (rule_line l (parts line))
    else if begins_with (codes "end") line then ddf_end_line l line
    else Err reason.Word

abbrev pub progress_after : DdfProgress → List ℕ → Result DdfProgress LineReason
progress_after progress.First line = ddf_first_line line
progress_after (progress.Rules l) line = ddf_later_line l line
progress_after (progress.End d) line = Err reason.Word

-- the description, where `end` came
abbrev pub described : DdfProgress → Option Ddf
described progress.First = None
described (progress.Rules l) = None
described (progress.End d) = Some d

-- ---- how it is answered

abbrev pub SaysProgress : {S : Type 0} → Result S LineReason → Result S LineError → Type 0
SaysProgress wanted (Ok x) = wanted ≡ Ok x
SaysProgress wanted (Err e) = Refuses wanted e

abbrev pub ReadsRules : {S : Type 0} {T : Type 0} → Result S LineReason → S → Result T LineError → Type 0
ReadsRules wanted new (Ok x) = wanted ≡ Ok new
ReadsRules wanted new (Err e) = Refuses wanted e
