-- What a message promises: what it doesn't hold is left, can still be sent, and each message gets on.
use Rattle.std.specs.Prelude.{◌≡◌, ◌⊎◌, ◌<◌, ◌≤◌, ℕ, suc, Bool, true, false, List, [], ◌∷◌, ◌++◌, length, take}
use Rattle.std.specs.List.{AllByRecursion}
use Rattle.dm_base.specs.Limits.{least_room}
use Rattle.wbxml_tokens.specs.Spelling.{spelled}
use Rattle.syncml_types.specs.declared.values.Header.{Header}
use Rattle.syncml_types.specs.Canonical.{command_tokens}
use Rattle.syncml_parts.specs.Numbering.{with_numbers}
use Rattle.syncml_parts.specs.Packing.{cut_data}
use Rattle.dm_pack.specs.Entries.{Entry, IsReady, part_of, rest_of}
use Rattle.dm_pack.specs.Filling.{Filling, fill, fits_room, taken, commands_of, greatest, left_after, IsReadyHeader}

-- the whole entries and the part that a message tells of, taken off, leave what it leaves
abbrev pub TheRestIsLeft : Type 0
TheRestIsLeft = (es : List Entry) (h : Header) (room : ℕ) (heard : Bool)
    → left_after es (fill es h room heard).whole (fill es h room heard).cut ≡ (fill es h room heard).left

-- as many entries as fit are taken: the message fits with each number of them up to that one, and not with one more
abbrev pub TakesTheMost : Type 0
TakesTheMost = (h : Header) (room : ℕ) (es : List Entry)
    → ((k : ℕ) → 0 < k → k ≤ taken h room [] es → fits_room h room (commands_of (take k es)) ≡ true)
    × (taken h room [] es < length es → fits_room h room (commands_of (take (suc (taken h room [] es)) es)) ≡ false)

-- a cut is the greatest: its number passes, where it isn't 0, and no greater one up to the most does
abbrev pub CutsTheMost : Type 0
CutsTheMost = (passes : ℕ → Bool) (most : ℕ)
    → (0 < greatest passes most → passes (greatest passes most) ≡ true)
    × ((k : ℕ) → greatest passes most < k → k ≤ most → passes k ≡ false)

-- the Data of a part and that of the rest are the whole Data
abbrev pub CutDataIsJoined : Type 0
CutDataIsJoined = (e : Entry) (n : ℕ)
    → cut_data (part_of e n) ++ cut_data (rest_of e n).command ≡ cut_data e.command

-- what is left of entries that can be sent can be sent
abbrev pub WhatIsLeftIsReady : Type 0
WhatIsLeftIsReady =
    (es : List Entry) (whole n : ℕ) → AllByRecursion IsReady es → AllByRecursion IsReady (left_after es whole n)

-- the entry at a place goes out whole, or the message ends with a part of it of at least one byte
abbrev pub GoesOut : ℕ → Filling → Type 0
GoesOut at filling = (at < filling.whole) ⊎ ((filling.whole ≡ at) × (0 < filling.cut))

-- the first entry always gets on
abbrev pub TheFirstGoesOut : Type 0
TheFirstGoesOut =
    (e : Entry) (es : List Entry) (h : Header) (room : ℕ) (heard : Bool) → IsReady e → IsReadyHeader h
    → least_room ≤ room
    → GoesOut 0 (fill (e ∷ es) h room heard)

-- at most 250 bytes at the head of a message, as the Status of a header
abbrev pub IsShortStatus : Entry → Type 0
IsShortStatus e = length (spelled 0 (command_tokens (with_numbers 1 e.command))) ≤ 250

-- and so does the one behind a short first entry
abbrev pub TheSecondGoesOut : Type 0
TheSecondGoesOut = (first e : Entry) (es : List Entry) (h : Header) (room : ℕ) (heard : Bool)
    → IsShortStatus first → IsReady e → IsReadyHeader h → least_room ≤ room
    → GoesOut 1 (fill (first ∷ e ∷ es) h room heard)
