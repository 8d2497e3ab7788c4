-- What `device` does, by its words, its input, and what the outside tells.
use Rattle.std.specs.Prelude.{◌≡◌, ◌++◌, ℕ, List, [], codes, Option, Some, None, Result, Ok, Err, ⊤}
use Rattle.std.specs.Io.KnownBytes.{Appends, IsAtEnd}
use Rattle.dm_base.specs.Lines.{line_feed}
use Rattle.dm_base.specs.Outside.{OfKnown}
use Rattle.dm_start.specs.Start.{Setup}
use Rattle.dm_exit.specs.declared.exit.Exit.{Exit}
use Rattle.dm_exit.specs.declared.exit.Exit.TheVariants as exit
use Rattle.dm_exit.specs.Puts.{Ends, PutsEnd}
use Rattle.dm_replay.specs.Events.{account_place}
use Rattle.dm_replay.specs.Trace.{Stop, servers_of}
use Rattle.dm_replay.specs.Output.{client_of, stop_text, stop_exit}
use Rattle.dm_words.specs.declared.forms.DeviceWords.{DeviceWords}
use Rattle.dm_device.specs.Inputs.{setup_of}
use Rattle.dm_device.specs.Outsides.{Outside, OfTold}
use Rattle.dm_device.specs.Runs.{route_of, begun_session, IsRun}

-- answers that are given before anything but the source was asked
abbrev pub IsEarly : Exit → Type 0
IsEarly exit.Usage = ⊤
IsEarly exit.BadInput = ⊤
IsEarly exit.TooLong = ⊤
IsEarly exit.ReadFault = ⊤
IsEarly other = ⊥

-- the answers of `device`
abbrev pub IsOfDevice : Exit → Type 0
IsOfDevice exit.DoorFault = ⊥
IsOfDevice exit.DiskFault = ⊥
IsOfDevice exit.StoreFull = ⊥
IsOfDevice exit.BadStore = ⊥
IsOfDevice other = ⊤

-- answers that are given once the input was read to its end
abbrev pub IsBehindInput : Exit → Type 0
IsBehindInput exit.Done = ⊤
IsBehindInput exit.Usage = ⊤
IsBehindInput exit.GaveUp = ⊤
IsBehindInput exit.Denied = ⊤
IsBehindInput exit.Peer = ⊤
IsBehindInput other = ⊥

-- these come only where the source is at its end
abbrev pub EndsBehindInput : Option (List ℕ) → Option (List ℕ) → Exit → Type 0
EndsBehindInput old new e = IsBehindInput e → OfKnown old (λ _. IsAtEnd new)

abbrev pub usage_line : List ℕ
usage_line =
    codes "usage: dmtool replay | device ADDRESS SERVER KIND SESSION PATH | serve ADDRESS COUNT | pair | show | check"
    ++ (codes " | bench SEED NODES MESSAGES | conform | make" ++ line_feed)

-- no account has the server's name: the usage line is put
abbrev pub NamesNobody : Option (List ℕ) → Option (List ℕ) → Exit → Type 0
NamesNobody old new e = PutsEnd usage_line exit.Usage old new e

-- the run of the client over the account at this place, where there is one
abbrev pub RunsAs : DeviceWords → Setup → Option ℕ → Option (List ℕ) → Option (List ℕ) → Exit → Outside → Outside
    → Type 0
RunsAs w told None old new e before after = (after ≡ before) × NamesNobody old new e
RunsAs w told (Some account) old new e before after =
    IsRun (route_of w told.version) account w.session
    (begun_session (client_of told) account w.kind w.session before.nonces) before after old new e

-- the account is the first that has the server's name
abbrev pub RunsWith : DeviceWords → Setup → Option (List ℕ) → Option (List ℕ) → Exit → Outside → Outside → Type 0
RunsWith w told old new e before after = RunsAs w told (account_place (servers_of told.accounts) w.server) old new e before after

-- an input that is refused is told, and nothing else is asked
abbrev pub RunsBy : DeviceWords → Result Setup Stop → Option (List ℕ) → Option (List ℕ) → Exit → Outside → Outside
    → Type 0
RunsBy w (Err stop) old new e before after = (after ≡ before) × Ends (stop_text stop) (stop_exit stop) old new e
RunsBy w (Ok told) old new e before after = RunsWith w told old new e before after

-- where the source failed nothing was put; else the run is the one that the words and the input ask for
abbrev pub RunsOver : DeviceWords → List ℕ → Option (List ℕ) → Option (List ℕ) → Exit → Outside → Outside → Type 0
RunsOver w bytes old new exit.ReadFault before after = (after ≡ before) × Appends old new []
RunsOver w bytes old new e before after = RunsBy w (setup_of bytes) old new e before after

-- where all of the outside tells
unfoldable pub Devices : DeviceWords → List ℕ → Option Outside → Option Outside → Option (List ℕ) → Option (List ℕ)
    → Exit → Type 0
Devices w bytes before after old new e = OfTold before after (RunsOver w bytes old new e)
