-- What a run puts, by the form of its words.
use Rattle.std.specs.Prelude.{◌≡◌, ℕ, List, Option, Some, None, ⊤}
use Rattle.std.specs.Io.KnownBytes.{Appends}
use Rattle.dm_base.specs.Outside.{OfKnown}
use Rattle.dm_exit.specs.declared.exit.Exit.{Exit}
use Rattle.dm_exit.specs.declared.exit.Exit.TheVariants as exit
use Rattle.dm_exit.specs.Answers.{DoneAtEnd}
use Rattle.dm_exit.specs.Puts.{PutsPrefix, PutsEnd, Ends}
use Rattle.dm_replay.specs.Input.{TakesOnePast}
use Rattle.dm_replay.specs.Output.{Replays}
use Rattle.dm_check.specs.Answers.{show_text, check_text, message_exit}
use Rattle.dm_check.specs.Receiving.{TakesNoMore, Unsettled}
use Rattle.dm_bench.specs.Workload.{bench_text}
use Rattle.dm_pair.specs.Texts.{pair_text, pair_exit}
use Rattle.dm_ddf.specs.Texts.{conform_of, make_of, text_said, exit_of_text}
use Rattle.dm_device.specs.Devices.{Devices, EndsBehindInput, usage_line}
use Rattle.dm_device.specs.Outsides.{outside_of as device_outside}
use Rattle.dm_serving.specs.Serves.{Serves}
use Rattle.dm_serving.specs.Turns.{door_and_nonces}
use Rattle.dm_cli.specs.Reaching.{ReachTold}
use Rattle.dm_words.specs.declared.forms.Form.{Form}
use Rattle.dm_words.specs.declared.forms.Form.TheVariants as forms

-- the usage line was put, or a part of it
abbrev pub PutsUsage : Option (List ℕ) → Option (List ℕ) → Exit → Type 0
PutsUsage old new exit.Usage = Appends old new usage_line
PutsUsage old new exit.WriteFault = PutsPrefix old new usage_line
PutsUsage old new exit.NoMemory = PutsPrefix old new usage_line
PutsUsage old new other = ⊥

-- what a run puts, by the form of its words: the usage line, a text over the bytes that the source tells, the line of a
-- workload, over its numbers, or what a device or a server does over what the outside tells besides
unfoldable pub Runs : Option Form → Option (List ℕ) → ReachTold → ReachTold → Option (List ℕ) → Option (List ℕ) → Exit
    → Type 0
Runs None left before after old new e = PutsUsage old new e
Runs (Some forms.Replay) left before after old new e = OfKnown left (λ bytes. Replays bytes old new e)
Runs (Some (forms.Device w)) left before after old new e = OfKnown left (λ bytes. Devices w bytes
    (device_outside before.dialer before.updates before.nonces) (device_outside after.dialer after.updates after.nonces)
    old new e)
Runs (Some (forms.Serve w)) left before after old new e = OfKnown left (λ bytes. Serves w bytes
    (door_and_nonces before.door before.nonces) (door_and_nonces after.door after.nonces) old new e)
Runs (Some forms.Pair) left before after old new e =
    OfKnown left (λ bytes. Ends (pair_text bytes) (pair_exit bytes) old new e)
Runs (Some forms.Show) left before after old new e =
    OfKnown left (λ bytes. Ends (show_text bytes) (message_exit bytes) old new e)
Runs (Some forms.Check) left before after old new e =
    OfKnown left (λ bytes. Ends (check_text bytes) (message_exit bytes) old new e)
Runs (Some (forms.Bench seed nodes messages)) left before after old new e =
    PutsEnd (bench_text seed nodes messages) exit.Done old new e
Runs (Some forms.Conform) left before after old new e =
    OfKnown left (λ bytes. Ends (text_said conform_of bytes) (exit_of_text conform_of bytes) old new e)
Runs (Some forms.Make) left before after old new e =
    OfKnown left (λ bytes. Ends (text_said make_of bytes) (exit_of_text make_of bytes) old new e)

-- what a run takes of its source: nothing where its words have no form or ask for a workload, of a text at most one
-- byte past those that it looks at, and of one message at most a piece more than what settles no refusal
unfoldable pub TakesFor : {S : Type 0} → (S → Option (List ℕ)) → Option Form → S → S → Type 0
TakesFor left None old new = new ≡ old
TakesFor left (Some forms.Show) old new = TakesNoMore (left old) (left new)
TakesFor left (Some forms.Check) old new = TakesNoMore (left old) (left new)
TakesFor left (Some (forms.Bench seed nodes messages)) old new = new ≡ old
TakesFor left (Some other) old new = TakesOnePast (left old) (left new)

-- where the source of one message failed, nothing that was taken of it settles a refusal: no source is asked behind one
unfoldable pub AsksForMore : Option Form → Option (List ℕ) → Option (List ℕ) → Exit → Type 0
AsksForMore (Some forms.Show) old new e = e ≡ exit.ReadFault → Unsettled old new
AsksForMore (Some forms.Check) old new e = e ≡ exit.ReadFault → Unsettled old new
AsksForMore other old new e = ⊤

-- a run that reads its source ends well only where that is at its end
unfoldable pub ReadsToEnd : Option Form → Option (List ℕ) → Option (List ℕ) → Exit → Type 0
ReadsToEnd None old new e = ⊤
ReadsToEnd (Some (forms.Bench seed nodes messages)) old new e = ⊤
ReadsToEnd (Some (forms.Device w)) old new e = EndsBehindInput old new e
ReadsToEnd (Some other) old new e = DoneAtEnd old new e

-- the status that the program ends with; 12 is none
abbrev pub process_status : Exit → ℕ
process_status exit.Done = 0
process_status exit.Usage = 2
process_status exit.BadInput = 3
process_status exit.ReadFault = 4
process_status exit.WriteFault = 5
process_status exit.NoMemory = 6
process_status exit.GaveUp = 7
process_status exit.Denied = 8
process_status exit.TooLong = 9
process_status exit.DoorFault = 10
process_status exit.Peer = 11
process_status exit.DiskFault = 13
process_status exit.StoreFull = 14
process_status exit.BadStore = 15
