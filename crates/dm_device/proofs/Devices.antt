-- A whole run of `device`, from its parts.
use Rattle.std.proofs.Common.{◌≡◌, ◌≢◌, ℕ, List, [], refl, sym, subst, arith, inl, inr, Ok, Err, Some, None}
use Rattle.std.proofs.Common.{append-nil}
use Rattle.std.specs.Prelude.{Option, Result}
use Rattle.std.specs.Io.KnownBytes.{Appends, Keeps, IsAtEnd}
use Rattle.dm_base.specs.Outside.{OfKnown}
use Rattle.dm_machine.specs.Machine.{Machine}
use Rattle.dm_start.specs.declared.telling.Start.{Start}
use Rattle.dm_start.specs.Start.{Setup, told_of}
use Rattle.dm_exit.specs.declared.exit.Exit.{Exit}
use Rattle.dm_exit.specs.declared.exit.Exit.TheVariants as exit
use Rattle.dm_exit.specs.Answers.{IsOfText}
use Rattle.dm_exit.specs.Causes.{SourceCause, DialerCause}
use Rattle.dm_exit.specs.Puts.{PutsEnd, PutsPart}
use Rattle.dm_exit.proofs.Parts.{ends_put, prefix_none, kept_appends}
use Rattle.dm_replay.specs.declared.reading.Halt.{Halt}
use Rattle.dm_replay.specs.declared.reading.Halt.TheVariants as halt
use Rattle.dm_replay.specs.Events.{account_place}
use Rattle.dm_replay.specs.From.{PutsHalt, HaltCounts}
use Rattle.dm_replay.specs.Output.{client_of, stop_text}
use Rattle.dm_replay.specs.Trace.{Stop, bad, servers_of}
use Rattle.dm_replay.proofs.Ended.{halt_of_text, halt_not_done}
use Rattle.dm_replay.proofs.Faults.{end_is_no_fault}
use Rattle.dm_words.specs.declared.forms.DeviceWords.{DeviceWords}
use Rattle.dm_device.specs.Inputs.{setup_of}
use Rattle.dm_device.specs.Reading.{ReadsSetup}
use Rattle.dm_device.specs.Outsides.{Outside, OfTold}
use Rattle.dm_device.specs.Runs.{route_of}
use Rattle.dm_device.specs.Ending.{IsAnswer, RunDoes}
use Rattle.dm_device.specs.Devices.{IsEarly, IsBehindInput, EndsBehindInput, RunsAs, RunsWith, RunsBy, RunsOver}
use Rattle.dm_device.specs.Devices.{Devices, IsOfDevice, usage_line}
use Rattle.dm_device.specs.Managing.{IsManaged}
use Rattle.dm_device.proofs.Composing.{run_untouched}
use Rattle.dm_device.proofs.Told.{told_as, told_same}

-- ---- the answers

managed_is_no_fault : (e : Exit) → IsManaged e → e ≢ exit.ReadFault
managed_is_no_fault e m is = subst IsManaged is m

pub answer_is_managed : (e : Exit) → IsAnswer e → IsManaged e
answer_is_managed exit.Usage a = absurd a
answer_is_managed other a = a

pub answer_is_late : (e : Exit) → IsAnswer e → IsEarly e → ⊥
answer_is_late exit.Usage a early = a
answer_is_late exit.BadInput a early = a
answer_is_late exit.TooLong a early = a
answer_is_late exit.ReadFault a early = a
answer_is_late other a early = early

pub managed_source : (before now : ℕ) (e : Exit) → IsManaged e → now ≡ before → SourceCause before now e
managed_source before now exit.ReadFault m is = absurd m
managed_source before now other m is = is

not_behind : (e : Exit) → IsOfText e → e ≢ exit.Done → IsBehindInput e → ⊥
not_behind exit.Done t n b = n refl
not_behind exit.Usage t n b = t
not_behind exit.GaveUp t n b = t
not_behind exit.Denied t n b = t
not_behind exit.Peer t n b = t
not_behind other t n b = b

-- a run that halts in its input says nothing of the end of the source
pub halt_ended : (h : Halt) (old new left rest : Option (List ℕ)) (e : Exit) → PutsHalt h old new e
    → EndsBehindInput left rest e
halt_ended h old new left rest e p b =
    absurd (not_behind e (halt_of_text h old new e p) (halt_not_done h old new e p) b)

text_dialer : (n : ℕ) (e : Exit) → IsOfText e → DialerCause n n e
text_dialer n exit.GaveUp t = absurd t
text_dialer n other t = omega arith

pub halt_dialer : (h : Halt) (old new : Option (List ℕ)) (n : ℕ) (e : Exit) → PutsHalt h old new e → DialerCause n n e
halt_dialer h old new n e p = text_dialer n e (halt_of_text h old new e p)

pub known_later : (a b rest : Option (List ℕ)) (e : Exit) → OfKnown a (λ _. IsAtEnd rest) → EndsBehindInput a rest e
known_later a b rest e ended b' = ended

unless_fault : (before now : ℕ) (e : Exit) → e ≢ exit.ReadFault → now ≡ before → SourceCause before now e
unless_fault before now exit.ReadFault other is = absurd (other refl)
unless_fault before now other' other is = is

pub halt_source : (h : Halt) (old new : Option (List ℕ)) (before now : ℕ) (e : Exit)
    → HaltCounts {T = Start} before now (Err h) → PutsHalt h old new e → SourceCause before now e
halt_source (halt.Bad n why) old new before now e count p =
    unless_fault before now e (end_is_no_fault (stop_text (bad n why)) exit.BadInput old new e (λ same. cc) p) count
halt_source halt.TooLong old new before now e count p = subst (SourceCause before now) (sym p.1) count
halt_source halt.Read old new before now e count p = subst (SourceCause before now) (sym p.1) count
halt_source halt.Memory old new before now e count p = subst (SourceCause before now) (sym p.1) count

-- ---- nothing is put

nothing_appended : (x : Option (List ℕ)) → Appends x x []
nothing_appended None = tt
nothing_appended (Some xs) = sym (append-nil xs)

-- no account has the name
pub nobody : (w : DeviceWords) (told : Setup) (o : Option Outside) (old new : Option (List ℕ)) (e : Exit)
    → account_place (servers_of told.accounts) w.server ≡ None → PutsEnd usage_line exit.Usage old new e
    → OfTold o o (RunsWith w told old new e)
nobody w told o old new e is put =
    told_same o _ (λ s. subst (λ at. RunsAs w told at old new e s s) (sym is) (refl, put))

part_is_managed : (text : List ℕ) (old new : Option (List ℕ)) (e : Exit) → PutsPart old new text e → IsManaged e
part_is_managed text old new exit.WriteFault h = tt
part_is_managed text old new exit.NoMemory h = tt
part_is_managed text old new other h = absurd h

pub usage_is_managed : (old new : Option (List ℕ)) (e : Exit) → PutsEnd usage_line exit.Usage old new e → IsManaged e
usage_is_managed old new e h =
    elim h [
      | inl put ↦ subst IsManaged (sym put.1) tt
      | inr part ↦ part_is_managed usage_line old new e part
    ]

part_dialer : (n : ℕ) (text : List ℕ) (old new : Option (List ℕ)) (e : Exit) → PutsPart old new text e
    → DialerCause n n e
part_dialer n text old new exit.WriteFault h = omega arith
part_dialer n text old new exit.NoMemory h = omega arith
part_dialer n text old new other h = absurd h

pub usage_dialer : (n : ℕ) (old new : Option (List ℕ)) (e : Exit) → PutsEnd usage_line exit.Usage old new e
    → DialerCause n n e
usage_dialer n old new e h =
    elim h [
      | inl put ↦ subst (DialerCause n n) (sym put.1) (omega arith)
      | inr part ↦ part_dialer n usage_line old new e part
    ]

-- ---- the kinds

pub managed_of_device : (e : Exit) → IsManaged e → IsOfDevice e
managed_of_device exit.DoorFault m = m
managed_of_device exit.DiskFault m = m
managed_of_device exit.StoreFull m = m
managed_of_device exit.BadStore m = m
managed_of_device other m = tt

text_of_device : (e : Exit) → IsOfText e → IsOfDevice e
text_of_device exit.DoorFault t = t
text_of_device exit.DiskFault t = t
text_of_device exit.StoreFull t = t
text_of_device exit.BadStore t = t
text_of_device other t = tt

pub halt_of_device : (h : Halt) (old new : Option (List ℕ)) (e : Exit) → PutsHalt h old new e → IsOfDevice e
halt_of_device h old new e p = text_of_device e (halt_of_text h old new e p)

-- memory was wanting before the run
wanting_run : (w : DeviceWords) (told : Setup) (account : ℕ) (old new : Option (List ℕ)) (s : Outside) → Keeps old new
    → RunsAs w told (Some account) old new exit.NoMemory s s
wanting_run w told account old new s kept =
    run_untouched (route_of w told.version) account w.kind w.session (client_of told) old new s kept

wanting_as : (w : DeviceWords) (told : Setup) (at : Option ℕ) (old new : Option (List ℕ)) (s : Outside) → Keeps old new
    → RunsAs w told at old new exit.NoMemory s s
wanting_as w told None old new s kept = (refl, inr (prefix_none old new usage_line kept))
wanting_as w told (Some account) old new s kept = wanting_run w told account old new s kept

wanting_by : (w : DeviceWords) (r : Result Setup Stop) (old new : Option (List ℕ)) (s : Outside) → Keeps old new
    → RunsBy w r old new exit.NoMemory s s
wanting_by w (Err stop) old new s kept = (refl, prefix_none old new (stop_text stop) kept)
wanting_by w (Ok told) old new s kept = wanting_as w told (account_place (servers_of told.accounts) w.server) old new s kept

-- ---- an input that is whole

keeps_same : (x : Option (List ℕ)) → Keeps x x
keeps_same None = tt
keeps_same (Some bytes) = refl

pub wanting : (w : DeviceWords) (told : Setup) (o : Option Outside) (got : Option (List ℕ))
    → OfTold o o (RunsWith w told got got exit.NoMemory)
wanting w told o got =
    told_same o _
    (λ s. wanting_as w told (account_place (servers_of told.accounts) w.server) got got s (keeps_same got))

-- the run over an account
pub account_runs : (w : DeviceWords) (told : Setup) (account : ℕ) (c : Machine) (before after : Option Outside)
    (old new : Option (List ℕ)) (e : Exit) → Some account ≡ account_place (servers_of told.accounts) w.server
    → c ≡ client_of told
    → OfTold before after (RunDoes (route_of w told.version) account w.kind w.session c old new e)
    → OfTold before after (RunsWith w told old new e)
account_runs w told account c before after old new e at is ran =
    told_as before after _ _
    (λ s t p. subst (λ a. RunsAs w told a old new e s t) at
    (subst (λ m. RunDoes (route_of w told.version) account w.kind w.session m old new e s t) is p)) ran

-- ---- by the bytes

over : (w : DeviceWords) (bytes : List ℕ) (old new : Option (List ℕ)) (e : Exit) (s t : Outside) → e ≢ exit.ReadFault
    → RunsBy w (setup_of bytes) old new e s t → RunsOver w bytes old new e s t
over w bytes old new exit.ReadFault s t other runs = absurd (other refl)
over w bytes old new e s t other runs = runs

pub known_runs : (left : Option (List ℕ)) (w : DeviceWords) (start : Start) (before after : Option Outside)
    (old new : Option (List ℕ)) (e : Exit) → OfKnown left (λ bytes. ReadsSetup bytes (Ok start)) → IsManaged e
    → OfTold before after (RunsWith w (told_of start) old new e)
    → OfKnown left (λ bytes. Devices w bytes before after old new e)
unfolding Devices
known_runs None w start before after old new e reads managed runs = tt
known_runs (Some bytes) w start before after old new e reads managed runs =
    told_as before after _ _
    (λ s t p. over w bytes old new e s t (managed_is_no_fault e managed)
    (subst (λ r. RunsBy w r old new e s t) (sym reads) p)) runs

-- ---- an input that is refused

halt_over : (w : DeviceWords) (bytes : List ℕ) (h : Halt) (old new : Option (List ℕ)) (e : Exit) (s : Outside)
    → ReadsSetup bytes (Err h) → PutsHalt h old new e → RunsOver w bytes old new e s s
halt_over w bytes (halt.Bad n why) old new e s is p =
    over w bytes old new e s s (end_is_no_fault (stop_text (bad n why)) exit.BadInput old new e (λ same. cc) p)
    (subst (λ r. RunsBy w r old new e s s) (sym is)
    (refl, ends_put (stop_text (bad n why)) exit.BadInput old new e (λ a. (a, refl)) p))
halt_over w bytes halt.TooLong old new e s is p =
    subst (λ x. RunsOver w bytes old new x s s) (sym p.1)
    (subst (λ r. RunsBy w r old new exit.TooLong s s) (sym is) (refl, (kept_appends old new p.0, refl)))
halt_over w bytes halt.Read old new e s is p =
    subst (λ x. RunsOver w bytes old new x s s) (sym p.1) (refl, kept_appends old new p.0)
halt_over w bytes halt.Memory old new e s is p =
    subst (λ x. RunsOver w bytes old new x s s) (sym p.1) (wanting_by w (setup_of bytes) old new s p.0)

pub known_halts : (left : Option (List ℕ)) (w : DeviceWords) (h : Halt) (o : Option Outside) (old new : Option (List ℕ))
    (e : Exit) → OfKnown left (λ bytes. ReadsSetup bytes (Err h)) → PutsHalt h old new e
    → OfKnown left (λ bytes. Devices w bytes o o old new e)
unfolding Devices
known_halts None w h o old new e reads p = tt
known_halts (Some bytes) w h o old new e reads p = told_same o _ (λ s. halt_over w bytes h old new e s reads p)
