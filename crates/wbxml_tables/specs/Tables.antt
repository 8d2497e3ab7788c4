-- The code pages: page 0 is the representation protocol, page 1 the meta information.
use Rattle.std.specs.Prelude.{◌≡◌, ◌==◌, ◌&&◌, ◌++◌, ◌∷◌, [], ℕ, Bool, true, not, if◌then◌else◌, List, Option, Some}
use Rattle.std.specs.Prelude.{None, codes}
use Rattle.wbxml_tables.specs.declared.CodeRow.{CodeRow}
use Rattle.wbxml_tables.specs.declared.TheConstants as table
use Rattle.wbxml_tables.specs.declared.Element.{Element}
use Rattle.wbxml_tables.specs.declared.Element.TheVariants.{EAdd, EAlert, EArchive, EAtomic, EChal, ECmd, ECmdID}
use Rattle.wbxml_tables.specs.declared.Element.TheVariants.{ECmdRef, ECopy, ECred, EData, EDelete, EExec, EFinal, EGet}
use Rattle.wbxml_tables.specs.declared.Element.TheVariants.{EItem, ELang, ELocName, ELocURI, EMap, EMapItem, EMeta}
use Rattle.wbxml_tables.specs.declared.Element.TheVariants.{EMsgID, EMsgRef, ENoResp, ENoResults, EPut, EReplace}
use Rattle.wbxml_tables.specs.declared.Element.TheVariants.{ERespURI, EResults, ESearch, ESequence, ESessionID, ESftDel}
use Rattle.wbxml_tables.specs.declared.Element.TheVariants.{ESource, ESourceRef, EStatus, ESync, ESyncBody, ESyncHdr}
use Rattle.wbxml_tables.specs.declared.Element.TheVariants.{ESyncML, ETarget, ETargetRef, EVerDTD, EVerProto}
use Rattle.wbxml_tables.specs.declared.Element.TheVariants.{ENumberOfChanges, EMoreData, EField, EFilter, ERecord}
use Rattle.wbxml_tables.specs.declared.Element.TheVariants.{EFilterType, ESourceParent, ETargetParent, EMove}
use Rattle.wbxml_tables.specs.declared.Element.TheVariants.{ECorrelator, EAnchor, EEMI, EFormat, EFreeID, EFreeMem}
use Rattle.wbxml_tables.specs.declared.Element.TheVariants.{ELast, EMark, EMaxMsgSize, EMem, EMetInf, ENext, ENextNonce}
use Rattle.wbxml_tables.specs.declared.Element.TheVariants.{ESharedMem, ESize, EType, EVersion, EMaxObjSize}
use Rattle.wbxml_tables.specs.declared.Element.TheVariants.{EFieldLevel}

-- the page of an element
abbrev pub page_of : Element → ℕ
page_of EAnchor = 1
page_of EEMI = 1
page_of EFormat = 1
page_of EFreeID = 1
page_of EFreeMem = 1
page_of ELast = 1
page_of EMark = 1
page_of EMaxMsgSize = 1
page_of EMem = 1
page_of EMetInf = 1
page_of ENext = 1
page_of ENextNonce = 1
page_of ESharedMem = 1
page_of ESize = 1
page_of EType = 1
page_of EVersion = 1
page_of EMaxObjSize = 1
page_of EFieldLevel = 1
page_of other = 0

-- the code of an element on its page
abbrev pub code_on_page : Element → ℕ
code_on_page EAdd = 0x05
code_on_page EAlert = 0x06
code_on_page EArchive = 0x07
code_on_page EAtomic = 0x08
code_on_page EChal = 0x09
code_on_page ECmd = 0x0a
code_on_page ECmdID = 0x0b
code_on_page ECmdRef = 0x0c
code_on_page ECopy = 0x0d
code_on_page ECred = 0x0e
code_on_page EData = 0x0f
code_on_page EDelete = 0x10
code_on_page EExec = 0x11
code_on_page EFinal = 0x12
code_on_page EGet = 0x13
code_on_page EItem = 0x14
code_on_page ELang = 0x15
code_on_page ELocName = 0x16
code_on_page ELocURI = 0x17
code_on_page EMap = 0x18
code_on_page EMapItem = 0x19
code_on_page EMeta = 0x1a
code_on_page EMsgID = 0x1b
code_on_page EMsgRef = 0x1c
code_on_page ENoResp = 0x1d
code_on_page ENoResults = 0x1e
code_on_page EPut = 0x1f
code_on_page EReplace = 0x20
code_on_page ERespURI = 0x21
code_on_page EResults = 0x22
code_on_page ESearch = 0x23
code_on_page ESequence = 0x24
code_on_page ESessionID = 0x25
code_on_page ESftDel = 0x26
code_on_page ESource = 0x27
code_on_page ESourceRef = 0x28
code_on_page EStatus = 0x29
code_on_page ESync = 0x2a
code_on_page ESyncBody = 0x2b
code_on_page ESyncHdr = 0x2c
code_on_page ESyncML = 0x2d
code_on_page ETarget = 0x2e
code_on_page ETargetRef = 0x2f
code_on_page EVerDTD = 0x31
code_on_page EVerProto = 0x32
code_on_page ENumberOfChanges = 0x33
code_on_page EMoreData = 0x34
code_on_page EField = 0x35
code_on_page EFilter = 0x36
code_on_page ERecord = 0x37
code_on_page EFilterType = 0x38
code_on_page ESourceParent = 0x39
code_on_page ETargetParent = 0x3a
code_on_page EMove = 0x3b
code_on_page ECorrelator = 0x3c
code_on_page EAnchor = 0x05
code_on_page EEMI = 0x06
code_on_page EFormat = 0x07
code_on_page EFreeID = 0x08
code_on_page EFreeMem = 0x09
code_on_page ELast = 0x0a
code_on_page EMark = 0x0b
code_on_page EMaxMsgSize = 0x0c
code_on_page EMem = 0x0d
code_on_page EMetInf = 0x0e
code_on_page ENext = 0x0f
code_on_page ENextNonce = 0x10
code_on_page ESharedMem = 0x11
code_on_page ESize = 0x12
code_on_page EType = 0x13
code_on_page EVersion = 0x14
code_on_page EMaxObjSize = 0x15
code_on_page EFieldLevel = 0x16

-- an element has this code on this page
abbrev pub HasCode : ℕ → ℕ → Element → Type 0
HasCode page code element = (page_of element ≡ page) × (code_on_page element ≡ code)

-- elements with the same code on the same page are the same
abbrev pub CodesAreDistinct : Type 0
CodesAreDistinct = (a b : Element) → page_of a ≡ page_of b → code_on_page a ≡ code_on_page b → a ≡ b

-- the name of an element, as it stands between the brackets of a tag
abbrev pub name_in_text : Element → List ℕ
name_in_text EAdd = codes "Add"
name_in_text EAlert = codes "Alert"
name_in_text EArchive = codes "Archive"
name_in_text EAtomic = codes "Atomic"
name_in_text EChal = codes "Chal"
name_in_text ECmd = codes "Cmd"
name_in_text ECmdID = codes "CmdID"
name_in_text ECmdRef = codes "CmdRef"
name_in_text ECopy = codes "Copy"
name_in_text ECred = codes "Cred"
name_in_text EData = codes "Data"
name_in_text EDelete = codes "Delete"
name_in_text EExec = codes "Exec"
name_in_text EFinal = codes "Final"
name_in_text EGet = codes "Get"
name_in_text EItem = codes "Item"
name_in_text ELang = codes "Lang"
name_in_text ELocName = codes "LocName"
name_in_text ELocURI = codes "LocURI"
name_in_text EMap = codes "Map"
name_in_text EMapItem = codes "MapItem"
name_in_text EMeta = codes "Meta"
name_in_text EMsgID = codes "MsgID"
name_in_text EMsgRef = codes "MsgRef"
name_in_text ENoResp = codes "NoResp"
name_in_text ENoResults = codes "NoResults"
name_in_text EPut = codes "Put"
name_in_text EReplace = codes "Replace"
name_in_text ERespURI = codes "RespURI"
name_in_text EResults = codes "Results"
name_in_text ESearch = codes "Search"
name_in_text ESequence = codes "Sequence"
name_in_text ESessionID = codes "SessionID"
name_in_text ESftDel = codes "SftDel"
name_in_text ESource = codes "Source"
name_in_text ESourceRef = codes "SourceRef"
name_in_text EStatus = codes "Status"
name_in_text ESync = codes "Sync"
name_in_text ESyncBody = codes "SyncBody"
name_in_text ESyncHdr = codes "SyncHdr"
name_in_text ESyncML = codes "SyncML"
name_in_text ETarget = codes "Target"
name_in_text ETargetRef = codes "TargetRef"
name_in_text EVerDTD = codes "VerDTD"
name_in_text EVerProto = codes "VerProto"
name_in_text ENumberOfChanges = codes "NumberOfChanges"
name_in_text EMoreData = codes "MoreData"
name_in_text EField = codes "Field"
name_in_text EFilter = codes "Filter"
name_in_text ERecord = codes "Record"
name_in_text EFilterType = codes "FilterType"
name_in_text ESourceParent = codes "SourceParent"
name_in_text ETargetParent = codes "TargetParent"
name_in_text EMove = codes "Move"
name_in_text ECorrelator = codes "Correlator"
name_in_text EAnchor = codes "Anchor"
name_in_text EEMI = codes "EMI"
name_in_text EFormat = codes "Format"
name_in_text EFreeID = codes "FreeID"
name_in_text EFreeMem = codes "FreeMem"
name_in_text ELast = codes "Last"
name_in_text EMark = codes "Mark"
name_in_text EMaxMsgSize = codes "MaxMsgSize"
name_in_text EMem = codes "Mem"
name_in_text EMetInf = codes "MetInf"
name_in_text ENext = codes "Next"
name_in_text ENextNonce = codes "NextNonce"
name_in_text ESharedMem = codes "SharedMem"
name_in_text ESize = codes "Size"
name_in_text EType = codes "Type"
name_in_text EVersion = codes "Version"
name_in_text EMaxObjSize = codes "MaxObjSize"
name_in_text EFieldLevel = codes "FieldLevel"

-- ---- the tables

-- the element of the first row with this page and code
abbrev pub element_in : List CodeRow → ℕ → ℕ → Option Element
element_in [] page code = None
element_in (r ∷ rows) page code = if r.page == page && r.code == code then Some r.element else element_in rows page code

-- the element of a code on a page, by the rows of both tables
unfoldable pub element_at : ℕ → ℕ → Option Element
element_at page code = element_in (table.PROTOCOL.rows ++ table.META.rows) page code

-- no row has this page and code
abbrev pub is_absent : ℕ → ℕ → List CodeRow → Bool
is_absent page code [] = true
is_absent page code (r ∷ rows) = not (r.page == page && r.code == code) && is_absent page code rows

-- no two rows have the same page and code
abbrev pub are_distinct : List CodeRow → Bool
are_distinct [] = true
are_distinct (r ∷ rows) = is_absent r.page r.code rows && are_distinct rows

-- each row is of this page
abbrev pub are_on_page : ℕ → List CodeRow → Bool
are_on_page page [] = true
are_on_page page (r ∷ rows) = r.page == page && are_on_page page rows
