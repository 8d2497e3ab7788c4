-- What reading, printing and the tests of an access list mean, in the words of the grammar.
use Rattle.std.specs.Prelude.{◌≡◌, ◌⊎◌, ◌↔◌, ◌==◌, ◌<◌, ◌≤◌, ℕ, Bool, true, false, not, bytes_eq, List, [], ◌∷◌, ◌++◌}
use Rattle.std.specs.Prelude.{length, Ok, Err, ⊤}
use Rattle.std.specs.List.{AllByRecursion, list_all, list_any, flat_map}
use Rattle.dm_acl.specs.declared.values.Right.{Right}
use Rattle.dm_acl.specs.declared.values.AclError.TheVariants as error
use Rattle.dm_acl.specs.declared.values.AclEntry.{AclEntry}
use Rattle.dm_acl.specs.declared.values.Entries.{Entries}
use Rattle.dm_acl.specs.Grammar.{IsEntry, Names, AreOnce, entry_text, IsTextOf, meaning, printed, IsAcl, allowed}
use Rattle.dm_acl.specs.Grammar.{has_entry, allowed_by, unrepeated}
use Rattle.dm_acl.specs.Reading.{parse_of}

-- ---- a text is read exactly where it is one, as what it means

abbrev pub WhatIsReadIsMeant : Type 0
WhatIsReadIsMeant =
    (text : List ℕ) (acl : Entries) → parse_of text ≡ Ok acl → (es : List AclEntry) × IsTextOf es text × (acl ≡ meaning es)

abbrev pub WhatIsWrittenIsRead : Type 0
WhatIsWrittenIsRead = (es : List AclEntry) (text : List ℕ) → IsTextOf es text → parse_of text ≡ Ok (meaning es)

-- ---- the first fault

-- no byte of a text is this one
abbrev pub has_no : ℕ → List ℕ → Bool
has_no c text = list_all (λ b. not (b == c)) text

-- entries, each with a `&` behind it
abbrev pub front_text : List AclEntry → List ℕ
front_text es = flat_map (λ e. entry_text e ++ 38 ∷ []) es

-- nothing, or a `&` and more
abbrev pub IsBehind : List ℕ → Type 0
IsBehind [] = ⊤
IsBehind (b ∷ bs) = b ≡ 38

-- a part is no entry, or an entry whose command the entries before it name
abbrev pub IsFault : List AclEntry → List ℕ → Type 0
IsFault before part = (e : AclEntry) → IsEntry e → part ≡ entry_text e → Names before e.right

-- good entries of different commands, and behind them a fault, at a place
pub record HasFaultAt (text : List ℕ) (at : ℕ) : Type 0 where
  pub before : List AclEntry
  pub part : List ℕ
  pub rest : List ℕ
  pub good : AllByRecursion IsEntry before
  pub once : AreOnce before
  pub text_is : text ≡ front_text before ++ part ++ rest
  pub whole : has_no 38 part ≡ true
  pub behind : IsBehind rest
  pub fault : IsFault before part
  pub at_is : at ≡ length (front_text before)

-- where a text is refused: at its first fault; at 4,096 where it is longer
abbrev pub IsMalformedAt : List ℕ → ℕ → Type 0
IsMalformedAt text at = ((4096 < length text) × (at ≡ 4096)) ⊎ ((length text ≤ 4096) × HasFaultAt text at)

abbrev pub FirstFaultIsTold : Type 0
FirstFaultIsTold = (text : List ℕ) (at : ℕ) → (parse_of text ≡ Err (error.Malformed at)) ↔ IsMalformedAt text at

abbrev pub OnlyFaultsAreTold : Type 0
OnlyFaultsAreTold = (text : List ℕ) → parse_of text ≡ Err error.Memory → ⊥

-- ---- what is printed is read again

abbrev pub PrintedIsRead : Type 0
PrintedIsRead = (acl : Entries) → IsAcl acl → length (printed acl) ≤ 4096 → parse_of (printed acl) ≡ Ok acl

-- what is read of a text is printed in no more bytes than the text has
abbrev pub PrintedIsNoLonger : Type 0
PrintedIsNoLonger = (text : List ℕ) (acl : Entries) → parse_of text ≡ Ok acl → length (printed acl) ≤ length text

-- and so in 4,096 at most
abbrev pub PrintedIsShort : Type 0
PrintedIsShort = (text : List ℕ) (acl : Entries) → parse_of text ≡ Ok acl → length (printed acl) ≤ 4096

-- and read again as the same
abbrev pub WhatIsReadIsReadAgain : Type 0
WhatIsReadIsReadAgain = (text : List ℕ) (acl : Entries) → parse_of text ≡ Ok acl → parse_of (printed acl) ≡ Ok acl

-- every text that is read means an access list
abbrev pub ReadIsAcl : Type 0
ReadIsAcl = (text : List ℕ) (acl : Entries) → parse_of text ≡ Ok acl → IsAcl acl

-- ---- repeats of names

-- the name is one of the names
abbrev pub is_one_of : List ℕ → List (List ℕ) → Bool
is_one_of name names = list_any (λ other. bytes_eq other name) names

-- no name stands twice
abbrev pub AreDistinct : List (List ℕ) → Type 0
AreDistinct [] = ⊤
AreDistinct (name ∷ names) = (is_one_of name names ≡ false) × AreDistinct names

-- without repeats no name stands twice, and the same names stand there
abbrev pub RepeatsAreLeftOut : Type 0
RepeatsAreLeftOut =
    (names : List (List ℕ))
    → AreDistinct (unrepeated names) × ((name : List ℕ) → is_one_of name (unrepeated names) ≡ is_one_of name names)

-- ---- what entries as written allow

-- an entry of the command that everybody or the server may use
abbrev pub Allow : List AclEntry → List ℕ → Right → Type 0
Allow [] server right = ⊥
Allow (e ∷ es) server right = ((e.right ≡ right) × (allowed_by e.servers server ≡ true)) ⊎ Allow es server right

-- a server is allowed a command where an entry as written allows it
abbrev pub EntriesAllow : Type 0
EntriesAllow = (es : List AclEntry) (server : List ℕ) (right : Right) → AreOnce es
    → (allowed (meaning es) server right ≡ true) ↔ Allow es server right

-- a command has an entry where one is written
abbrev pub EntriesName : Type 0
EntriesName = (es : List AclEntry) (right : Right) → (has_entry (meaning es) right ≡ true) ↔ Names es right
