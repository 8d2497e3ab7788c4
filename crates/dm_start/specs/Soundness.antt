-- What holds of a start section wherever it has come to, whatever its lines were.
use Rattle.std.specs.Prelude.{◌≡◌, ◌≤◌, ◌<◌, ◌⊎◌, true, length, ⊤}
use Rattle.std.specs.List.{AllByRecursion}
use Rattle.dm_base.specs.Fields.{is_short}
use Rattle.dm_tree.specs.Devices.{IsDeviceTree}
use Rattle.dm_tree.specs.Rows.{IsNoneParked}
use Rattle.dm_start.specs.declared.heads.DeviceInfo.{DeviceInfo}
use Rattle.dm_start.specs.declared.heads.Head.{Head}
use Rattle.dm_start.specs.declared.heads.Head.TheVariants as head
use Rattle.dm_start.specs.declared.telling.Phase.{Phase}
use Rattle.dm_start.specs.declared.telling.Phase.TheVariants as phase
use Rattle.dm_start.specs.declared.reader.SectionPlace.{SectionPlace}
use Rattle.dm_start.specs.declared.reader.SectionPlace.TheVariants as place
use Rattle.dm_fields.specs.Fields.{are_limits}
use Rattle.dm_start.specs.Laws.{AreApart}
use Rattle.dm_fields.specs.Fields.{IsAccount}
use Rattle.dm_start.specs.Start.{Setup, Section, opening, telling}

-- what a device tells of itself is SHORT
pub record IsShortDevice (d : DeviceInfo) : Type 0 where
  pub dev_id : is_short d.dev_id ≡ true
  pub man : is_short d.man ≡ true
  pub model : is_short d.model ≡ true
  pub dm_v : is_short d.dm_v ≡ true
  pub lang : is_short d.lang ≡ true

-- what is told so far, where accounts may still come
pub record IsToldSoFar (told : Setup) : Type 0 where
  pub version : (told.version ≡ 1) ⊎ (told.version ≡ 2)
  pub limits : are_limits told.limits.max_msg told.limits.max_obj ≡ true
  pub few : length told.accounts ≤ 16
  pub accounts : AllByRecursion IsAccount told.accounts
  pub apart : AreApart told.accounts
  pub device : IsDeviceTree told.nodes

abbrev pub IsSoundHead : Head → Type 0
IsSoundHead head.First = ⊤
IsSoundHead (head.Device v) = (v ≡ 1) ⊎ (v ≡ 2)
IsSoundHead (head.Limits v d) = ((v ≡ 1) ⊎ (v ≡ 2)) × IsShortDevice d
IsSoundHead (head.Clock d l) = IsShortDevice d × (are_limits l.max_msg l.max_obj ≡ true)

-- behind the accounts there is one at least
abbrev pub IsSoundPhase : Phase → Setup → Type 0
IsSoundPhase phase.Accounts told = IsToldSoFar told
IsSoundPhase phase.Nodes told = IsToldSoFar told × (0 < length told.accounts)
IsSoundPhase phase.Begun told = IsToldSoFar told × (0 < length told.accounts)

abbrev pub IsSoundSection : Section → Type 0
IsSoundSection (opening h) = IsSoundHead h
IsSoundSection (telling p told) = IsSoundPhase p told

-- nothing is parked in the tree, where one is told
abbrev pub HasNoneParked : SectionPlace → Type 0
HasNoneParked (place.Opening h) = ⊤
HasNoneParked (place.Telling p start) = IsNoneParked start.tree.rows
