-- What a start section tells wherever it has come to: what a client may begin with, a well-formed tree and a stamp.
use Rattle.std.proofs.Common.{◌≡◌, ◌+◌, ℕ, Bool, true, false, cond, List, [], ◌∷◌, length, Ok, Err, refl, subst}
use Rattle.std.specs.Prelude.{◌==◌, ◌&&◌, ⊤, Result, bytes_eq, codes, not, nat_lt}
use Rattle.dm_base.specs.Fields.{parts}
use Rattle.dm_base.specs.declared.lines.LineReason.{LineReason}
use Rattle.dm_base.specs.declared.lines.LineReason.TheVariants as reason
use Rattle.dm_base.specs.declared.values.Limits.{Limits}
use Rattle.dm_tree.specs.declared.nodes.Stamp.{Stamp}
use Rattle.dm_tree.specs.Nodes.{Nodes, first_stamp, IsStamp, IsWellFormed}
use Rattle.dm_start.specs.declared.heads.DeviceInfo.{DeviceInfo}
use Rattle.dm_start.specs.declared.heads.Head.{Head}
use Rattle.dm_start.specs.declared.heads.Head.TheVariants as head
use Rattle.dm_start.specs.declared.telling.Phase.{Phase}
use Rattle.dm_start.specs.declared.telling.Phase.TheVariants as phase
use Rattle.dm_start.specs.Fields.{device_in, clock_in}
use Rattle.dm_fields.specs.Fields.{begins_with, limits_in, account_in}
use Rattle.dm_start.specs.Growing.{nodes_after}
use Rattle.dm_start.specs.Start.{Setup, Section, opening, telling, version_in, accounts_next, behind_limits}
use Rattle.dm_start.specs.Start.{after_opening}
use Rattle.dm_start.specs.Start.{is_known, account_added, account_line, begin_line, with_nodes, later_line}
use Rattle.dm_start.specs.Start.{after_telling, after_line, behind_line, lines_after, section_of_lines}
use Rattle.dm_start.specs.Soundness.{IsShortDevice, IsSoundHead, IsSoundSection}
use Rattle.dm_fields.proofs.Told.{said, allowed, passed, same_ok}
use Rattle.dm_start.proofs.Sound.{sound_line}
use Rattle.dm_replay.proofs.StartStamps.{first_is_stamp, clock_is_stamp}
use Rattle.dm_replay.proofs.StartTrees.{node_line_formed, start_formed}

pub record HasTree (told : Setup) : Type 0 where
  pub tree : IsWellFormed told.nodes
  pub clock : IsStamp told.clock

abbrev pub TellsTree : Section → Type 0
TellsTree (opening h) = ⊤
TellsTree (telling p told) = HasTree told

-- ---- the first lines

started_tells : (version : ℕ) (d : DeviceInfo) (l : Limits) (clock : Stamp) → IsShortDevice d → IsStamp clock
    → TellsTree (accounts_next version d l clock)
started_tells version d l clock short stamp = record { tree = start_formed clock stamp d short; clock = stamp }

behind_tells : (version : ℕ) (d : DeviceInfo) (l : Limits) → IsShortDevice d → TellsTree (behind_limits version d l)
behind_tells version d l short = by_version (version == 2)
  where
    by_version : (b : Bool) → TellsTree (cond b (opening (head.Clock d l)) (accounts_next version d l first_stamp))
    by_version true = tt
    by_version false = started_tells version d l first_stamp short first_is_stamp

opening_tells : (h : Head) (line : List ℕ) (t : Section) → IsSoundHead h → after_opening h line ≡ Ok t → TellsTree t
opening_tells head.First line t sound e =
    let s = said reason.Word (version_in line) (λ v. Ok (opening (head.Device v))) t e in
    subst TellsTree (same_ok _ t s.rest) tt
opening_tells (head.Device v) line t sound e =
    let word = allowed (begins_with (codes "device") line) _ reason.Word t e in
    let s = said reason.Fields (device_in (parts line)) (λ d. Ok (opening (head.Limits v d))) t word.1 in
    subst TellsTree (same_ok _ t s.rest) tt
opening_tells (head.Limits v d) line t sound e =
    let word = allowed (begins_with (codes "limits") line) _ reason.Word t e in
    let s = said reason.Fields (limits_in (parts line)) (λ l. Ok (behind_limits v d l)) t word.1 in
    subst TellsTree (same_ok _ t s.rest) (behind_tells v d s.value sound.1)
opening_tells (head.Clock d l) line t sound e =
    let word = allowed (begins_with (codes "clock") line) _ reason.Word t e in
    let s = said reason.Fields (clock_in (parts line)) (λ clock. Ok (accounts_next 2 d l clock)) t word.1 in
    subst TellsTree (same_ok _ t s.rest)
    (started_tells 2 d l s.value sound.0 (clock_is_stamp (parts line) s.value s.is))

-- ---- the lines behind them

account_tells : (told : Setup) (line : List ℕ) (t : Section) → HasTree told → account_line told line ≡ Ok t
    → TellsTree t
account_tells told line t has e =
    let s = said reason.Fields (account_in (parts line)) (account_added told) t e in
    let room = nat_lt (length told.accounts) 16 in
    let known = is_known told.accounts s.value.server in
    let may = allowed (room && not known) _ reason.Account t s.rest in
    subst TellsTree (same_ok _ t may.1) (record { tree = has.tree; clock = has.clock })

grown_tells : (told : Setup) (r : Result Nodes LineReason) (t : Section) → IsStamp told.clock
    → ((n : Nodes) → r ≡ Ok n → IsWellFormed n) → with_nodes told r ≡ Ok t → TellsTree t
grown_tells told (Err why) t clock formed e = absurd (cc)
grown_tells told (Ok n) t clock formed e =
    subst TellsTree (same_ok _ t e) (record { tree = formed n refl; clock = clock })

later_tells : (told : Setup) (line : List ℕ) (t : Section) → HasTree told → later_line told line ≡ Ok t → TellsTree t
later_tells told line t has e = by_word (begins_with (codes "begin") line) e
  where
    by_word : (b : Bool)
        → cond b (begin_line told line) (with_nodes told (nodes_after told.clock told.nodes line)) ≡ Ok t
        → TellsTree t
    by_word true h =
        let whole = allowed (bytes_eq line (codes "begin")) (Ok (telling phase.Begun told)) reason.Fields t h in
        subst TellsTree (same_ok _ t whole.1) has
    by_word false h =
        grown_tells told (nodes_after told.clock told.nodes line) t has.clock
        (λ n is. node_line_formed told.clock has.clock told.nodes n has.tree line is) h

telling_tells : (p : Phase) (told : Setup) (line : List ℕ) (t : Section) → HasTree told
    → after_telling p told line ≡ Ok t → TellsTree t
telling_tells phase.Accounts told line t has e = by_word (begins_with (codes "account") line) e
  where
    by_word : (b : Bool)
        → cond b (account_line told line)
        (cond (length told.accounts == 0) (Err reason.Word) (later_line told line)) ≡ Ok t → TellsTree t
    by_word true h = account_tells told line t has h
    by_word false h =
        let some = passed (length told.accounts == 0) (later_line told line) reason.Word t h in
        later_tells told line t has some.1
telling_tells phase.Nodes told line t has e = later_tells told line t has e
telling_tells phase.Begun told line t has e = absurd (cc)

-- ---- all lines

pub record IsGoodSection (s : Section) : Type 0 where
  pub sound : IsSoundSection s
  pub tells : TellsTree s

pub good_line : (s : Section) (line : List ℕ) (t : Section) → IsGoodSection s → after_line s line ≡ Ok t
    → IsGoodSection t
unfolding after_line
good_line (opening h) line t good e =
    record { sound = sound_line (opening h) line t good.sound e; tells = opening_tells h line t good.sound e }
good_line (telling p told) line t good e =
    record { sound = sound_line (telling p told) line t good.sound e; tells = telling_tells p told line t good.tells e }

behind_good : (lines : List (List ℕ)) (n : ℕ) (s t : Section) (line : List ℕ) (r : Result Section LineReason)
    → IsGoodSection s → after_line s line ≡ r
    → behind_line n r (λ next. lines_after (n + 1) next lines) ≡ Ok t
    → ((next : Section) → IsGoodSection next → lines_after (n + 1) next lines ≡ Ok t → IsGoodSection t)
    → IsGoodSection t
behind_good lines n s t line (Err why) good is h rest = absurd (cc)
behind_good lines n s t line (Ok next) good is h rest = rest next (good_line s line next good is) h

same_section : (x y : Section) → ◌≡◌ {A = Result Section (ℕ × LineReason)} (Ok x) (Ok y) → x ≡ y
same_section x y h = cc

good_lines : (lines : List (List ℕ)) (n : ℕ) (s t : Section) → IsGoodSection s → lines_after n s lines ≡ Ok t
    → IsGoodSection t
good_lines [] n s t good e = subst IsGoodSection (same_section s t e) good
good_lines (line ∷ lines) n s t good e =
    behind_good lines n s t line (after_line s line) good refl e
    (λ next next_good h. good_lines lines (n + 1) next t next_good h)

pub told_is_good : (lines : List (List ℕ)) (told : Setup) → section_of_lines lines ≡ Ok (telling phase.Begun told)
    → IsGoodSection (telling phase.Begun told)
told_is_good lines told e =
    good_lines lines 1 (opening head.First) (telling phase.Begun told) (record { sound = tt; tells = tt }) e
