-- Tags that are refused for their name, and the first token that is refused.
use Rattle.std.specs.Prelude.{◌≡◌, ℕ, Bool, true, false, not, ◌&&◌, ◌||◌, if◌then◌else◌, List, [], ◌∷◌, ◌++◌, length}
use Rattle.std.specs.Prelude.{Option, Some, None}
use Rattle.wbxml_tokens.specs.declared.reason.Reason.{Reason}
use Rattle.wbxml_tokens.specs.declared.reason.Reason.TheVariants.{Leftout, Nested, Misplaced}
use Rattle.wbxml_tables.specs.declared.Element.{Element}
use Rattle.wbxml_tables.specs.declared.Element.TheVariants.{EAnchor, EArchive, EAtomic, ECred, EEMI, EField}
use Rattle.wbxml_tables.specs.declared.Element.TheVariants.{EFieldLevel, EFilter, EFilterType, EFreeID, EFreeMem, ELang}
use Rattle.wbxml_tables.specs.declared.Element.TheVariants.{ELast, EMap, EMapItem, EMem, EMove, ENext, ENoResults}
use Rattle.wbxml_tables.specs.declared.Element.TheVariants.{ENumberOfChanges, EPut, ERecord, ESearch, ESequence}
use Rattle.wbxml_tables.specs.declared.Element.TheVariants.{ESftDel, ESharedMem, ESourceParent, ESync, ESyncHdr}
use Rattle.wbxml_tables.specs.declared.Element.TheVariants.{ETargetParent}
use Rattle.wbxml_tokens.specs.declared.token.Token.{Token}
use Rattle.wbxml_tokens.specs.declared.token.Token.TheVariants.{Tag, End, Text, Opaque}
use Rattle.syncml_shape.specs.Rows.{same}
use Rattle.syncml_shape.specs.Shape.{IsViable}

-- the elements that this profile leaves out, wherever they stand
abbrev pub is_left_out : Element → Bool
is_left_out EArchive = true
is_left_out EField = true
is_left_out EFilter = true
is_left_out EFilterType = true
is_left_out ELang = true
is_left_out EMap = true
is_left_out EMapItem = true
is_left_out EMove = true
is_left_out ENoResults = true
is_left_out ENumberOfChanges = true
is_left_out EPut = true
is_left_out ERecord = true
is_left_out ESearch = true
is_left_out ESftDel = true
is_left_out ESourceParent = true
is_left_out ESync = true
is_left_out ETargetParent = true
is_left_out EAnchor = true
is_left_out EEMI = true
is_left_out EFieldLevel = true
is_left_out EFreeID = true
is_left_out EFreeMem = true
is_left_out ELast = true
is_left_out EMem = true
is_left_out ENext = true
is_left_out ESharedMem = true
is_left_out other = false

abbrev pub is_in : Element → Option Element → Bool
is_in e None = false
is_in e (Some parent) = same e parent

-- a Cred stands in a SyncHdr alone
abbrev pub is_stray : Option Element → Element → Bool
is_stray parent e = same ECred e && not (is_in ESyncHdr parent)

-- an Atomic holds no container, and a Sequence no Sequence
abbrev pub is_nested : Option Element → Element → Bool
is_nested parent e =
    same EAtomic e && is_in EAtomic parent
    || same ESequence e && (is_in EAtomic parent || is_in ESequence parent)

-- why a tag is refused for its own name and its parent's
abbrev pub tag_fault : Option Element → Element → Option Reason
tag_fault parent e =
    if is_left_out e || is_stray parent e then Some Leftout
    else if is_nested parent e then Some Nested
    else None

abbrev pub without_first : List Element → List Element
without_first [] = []
without_first (e ∷ opened) = opened

-- the open elements behind one more token, the innermost first
abbrev pub open_after : List Element → Token → List Element
open_after opened (Tag e true) = e ∷ opened
open_after opened (Tag e false) = opened
open_after opened End = without_first opened
open_after opened (Text bytes) = opened
open_after opened (Opaque bytes) = opened

abbrev pub open_behind : List Element → List Token → List Element
open_behind opened [] = opened
open_behind opened (token ∷ tokens) = open_behind (open_after opened token) tokens

abbrev pub open_elements : List Token → List Element
open_elements tokens = open_behind [] tokens

abbrev pub innermost : List Element → Option Element
innermost [] = None
innermost (e ∷ opened) = Some e

abbrev pub or_misplaced : Option Reason → Reason
or_misplaced None = Misplaced
or_misplaced (Some reason) = reason

-- why a token is refused, where it is: for its name, or else for its place
abbrev pub reason_in : List Element → Token → Reason
reason_in opened (Tag e content) = or_misplaced (tag_fault (innermost opened) e)
reason_in opened End = Misplaced
reason_in opened (Text bytes) = Misplaced
reason_in opened (Opaque bytes) = Misplaced

-- some document begins with these tokens, and none with these and the next
pub record IsRefused (before : List Token) (token : Token) (reason : Reason) : Type 0 where
  pub viable : IsViable before
  pub not_viable : IsViable (before ++ token ∷ []) → ⊥
  pub named : reason ≡ reason_in (open_elements before) token

-- the token at a place is refused
abbrev pub IsRefusedAt : List Token → ℕ → Reason → Type 0
IsRefusedAt tokens at reason =
    (before : List Token) × (token : Token) × (rest : List Token)
    × (tokens ≡ before ++ token ∷ rest) × (length before ≡ at) × IsRefused before token reason
