-- How a run that serves ends.
use Rattle.std.proofs.Common.{◌≡◌, ◌≢◌, ◌∙◌, ◌+◌, ◌++◌, ◌<◌, ◌≤◌, ℕ, List, inl, inr, refl, sym, ap, subst, Ok, Err}
use Rattle.std.proofs.Common.{Result, Some, None}
use Rattle.std.proofs.Common.{length, arith, length-append, append-nil}
use Rattle.std.proofs.KnownBytes.{Appends-nil}
use Rattle.std.specs.Prelude.{⊤}
use Rattle.std.specs.declared.option.Option.{Option}
use Rattle.std.specs.Io.KnownBytes.{Consumes, IsAtEnd}
use Rattle.dm_base.specs.Outside.{OfKnown, TakesAll}
use Rattle.dm_base.specs.declared.lines.LineReason.{LineReason}
use Rattle.dm_base.specs.declared.outside.Fault.{Fault}
use Rattle.dm_base.specs.declared.outside.Fault.TheVariants as fault
use Rattle.dm_base.specs.declared.outside.TakeError.TheVariants as take_error
use Rattle.dm_outside.specs.Told.{IfTold}
use Rattle.dm_words.specs.declared.forms.ServeWords.{ServeWords}
use Rattle.dm_job.specs.declared.job.Job.{Job}
use Rattle.dm_job.specs.Texts.{job_of}
use Rattle.dm_service.specs.Service.{Service}
use Rattle.dm_service.specs.Messages.{first_service}
use Rattle.dm_server.specs.Taking.{service_machine}
use Rattle.dm_texts.specs.Lines.{bad_line}
use Rattle.dm_exit.specs.declared.exit.Exit.{Exit}
use Rattle.dm_exit.specs.declared.exit.Exit.TheVariants as exit
use Rattle.dm_exit.specs.Causes.{SourceCause, DoorCause}
use Rattle.dm_exit.specs.Puts.{PutsPart, PutsEnd}
use Rattle.dm_serving.specs.Turns.{DoorAndNonces, ServingDoes}
use Rattle.dm_serving.specs.Serves.{serving_text, RunsServer, JobDoes, IsOfJob, InputDoes, TextDoes, Serves}
use Rattle.dm_serving.specs.Serves.{IsBeforeDoor}
use Rattle.dm_serving.proofs.Gathering.{told_same, told_as}

-- ---- behind the door

part_does : (w : ServeWords) (job : Job) (d : Service) (old new : Option (List ℕ)) (e : Exit) (s t : DoorAndNonces)
    → RunsServer w job d (Ok tt) s t → PutsPart old new (serving_text d) e → JobDoes w job old new e s t
part_does w job d old new exit.WriteFault s t run part = (d, run, part)
part_does w job d old new exit.NoMemory s t run part = inl (d, run, part)
part_does w job d old new other s t run part = absurd part

report_does : (w : ServeWords) (job : Job) (d : Service) (old new : Option (List ℕ)) (e : Exit) (s t : DoorAndNonces)
    → PutsEnd (serving_text d) exit.Done old new e → RunsServer w job d (Ok tt) s t → JobDoes w job old new e s t
report_does w job d old new e s t put run =
    elim put [
      | inl whole ↦ subst (λ x. JobDoes w job old new x s t) (sym whole.1) (d, run, whole.0)
      | inr part ↦ part_does w job d old new e s t run part
    ]

abbrev RunsFrom : ServeWords → List ℕ → Service → Service → Result (Unit {0}) Fault → DoorAndNonces → DoorAndNonces → Type 0
RunsFrom w address c d r s t = ServingDoes service_machine address w.count c d r s t

-- the run began at the address of the words, with the server of the job
from_job : (w : ServeWords) (job : Job) (address : List ℕ) (c d : Service) (r : Result (Unit {0}) Fault) (o p : Option DoorAndNonces)
    → address ≡ w.address → c ≡ first_service job → IfTold o p (RunsFrom w address c d r) → IfTold o p (RunsServer w job d r)
from_job w job address c d r o p at first run =
    subst (λ x. IfTold o p (RunsFrom w w.address x d r)) first (subst (λ a. IfTold o p (RunsFrom w a c d r)) at run)

pub report_told : (w : ServeWords) (job : Job) (address : List ℕ) (c d : Service) (o p : Option DoorAndNonces)
    (old new : Option (List ℕ)) (e : Exit) → address ≡ w.address → c ≡ first_service job
    → PutsEnd (serving_text d) exit.Done old new e → IfTold o p (RunsFrom w address c d (Ok tt)) → IfTold o p (JobDoes w job old new e)
report_told w job address c d o p old new e at first put run =
    told_as o p (RunsServer w job d (Ok tt)) (JobDoes w job old new e) (λ s t r. report_does w job d old new e s t put r)
    (from_job w job address c d (Ok tt) o p at first run)

pub door_failed : (w : ServeWords) (job : Job) (address : List ℕ) (c d : Service) (f : Fault) (o p : Option DoorAndNonces)
    (old : Option (List ℕ)) → address ≡ w.address → c ≡ first_service job → f ≡ fault.Failed
    → IfTold o p (RunsFrom w address c d (Err f)) → IfTold o p (JobDoes w job old old exit.DoorFault)
door_failed w job address c d f o p old at first is run =
    told_as o p (RunsServer w job d (Err fault.Failed)) (JobDoes w job old old exit.DoorFault) (λ s t r. (r, Appends-nil old))
    (from_job w job address c d (Err fault.Failed) o p at first (subst (λ x. IfTold o p (RunsFrom w address c d (Err x))) is run))

pub memory_wanting : (w : ServeWords) (job : Job) (address : List ℕ) (c d : Service) (f : Fault) (o p : Option DoorAndNonces)
    (old : Option (List ℕ)) → address ≡ w.address → c ≡ first_service job → f ≡ fault.Memory
    → IfTold o p (RunsFrom w address c d (Err f)) → IfTold o p (JobDoes w job old old exit.NoMemory)
memory_wanting w job address c d f o p old at first is run =
    told_as o p (RunsServer w job d (Err fault.Memory)) (JobDoes w job old old exit.NoMemory) (λ s t r. inr (r, Appends-nil old))
    (from_job w job address c d (Err fault.Memory) o p at first (subst (λ x. IfTold o p (RunsFrom w address c d (Err x))) is run))

pub never_begun : (w : ServeWords) (job : Job) (o : Option DoorAndNonces) (old : Option (List ℕ))
    → IfTold o o (JobDoes w job old old exit.NoMemory)
never_begun w job o old = told_same o (JobDoes w job old old exit.NoMemory) (λ s. inr (inl refl, Appends-nil old))

-- ---- which answers there are

part_kind : (text : List ℕ) (old new : Option (List ℕ)) (e : Exit) → PutsPart old new text e → IsOfJob e
part_kind text old new exit.WriteFault h = tt
part_kind text old new exit.NoMemory h = tt
part_kind text old new other h = absurd h

pub report_kind : (text : List ℕ) (old new : Option (List ℕ)) (e : Exit) → PutsEnd text exit.Done old new e → IsOfJob e
report_kind text old new e h = elim h [ inl put ↦ subst IsOfJob (sym put.1) tt | inr part ↦ part_kind text old new e part ]

not_door : (text : List ℕ) (good : Exit) (old new : Option (List ℕ)) → good ≢ exit.DoorFault
    → PutsEnd text good old new exit.DoorFault → ⊥
not_door text good old new other (inl put) = other (sym put.1)
not_door text good old new other (inr part) = part

-- where a text is put the door isn't asked
pub door_kept : (text : List ℕ) (good : Exit) (before now : ℕ) (old new : Option (List ℕ)) (e : Exit) → good ≢ exit.DoorFault
    → PutsEnd text good old new e → now ≡ before → DoorCause before now e
door_kept text good before now old new exit.DoorFault other put same = absurd (not_door text good old new other put)
door_kept text good before now old new e other put same = same

pub done_no_door : exit.Done ≢ exit.DoorFault
done_no_door is = cc

pub bad_no_door : exit.BadInput ≢ exit.DoorFault
bad_no_door is = cc

pub not_before : (e : Exit) → IsOfJob e → IsBeforeDoor e → ⊥
not_before exit.BadInput job before = job
not_before exit.TooLong job before = job
not_before exit.ReadFault job before = job
not_before other job before = before

-- ---- the input

pub job_served : (w : ServeWords) (text : List ℕ) (job : Job) (before after : Option DoorAndNonces) (old new : Option (List ℕ)) (e : Exit)
    → job_of text ≡ Ok job → IsOfJob e → IfTold before after (JobDoes w job old new e) → TextDoes w text before after old new e
job_served w text job before after old new e is kind does =
    inr (subst (λ r. InputDoes w r before after old new e) (sym is) (kind, does))

pub refused_told : (w : ServeWords) (text : List ℕ) (n : ℕ) (why : LineReason) (before : Option DoorAndNonces) (old new : Option (List ℕ)) (e : Exit)
    → job_of text ≡ Err (n, why) → PutsEnd (bad_line n why) exit.BadInput old new e → TextDoes w text before before old new e
refused_told w text n why before old new e is put =
    inr (subst (λ r. InputDoes w r before before old new e) (sym is) (refl, put))

pub text_wanting : (w : ServeWords) (text : List ℕ) (before : Option DoorAndNonces) (old : Option (List ℕ))
    → TextDoes w text before before old old exit.NoMemory
text_wanting w text before old = inl (refl, (refl, Appends-nil old))

-- ---- all of it

-- the answers that tell nothing of a text
abbrev IsUnread : Exit → Type 0
IsUnread exit.ReadFault = ⊤
IsUnread exit.TooLong = ⊤
IsUnread other = ⊥

put_unread : (text : List ℕ) (old new : Option (List ℕ)) (e : Exit) → IsUnread e → PutsEnd text exit.BadInput old new e → ⊥
put_unread text old new exit.ReadFault x (inl put) = cc
put_unread text old new exit.ReadFault x (inr part) = part
put_unread text old new exit.TooLong x (inl put) = cc
put_unread text old new exit.TooLong x (inr part) = part
put_unread text old new other x h = x

input_unread : (w : ServeWords) (r : Result Job (ℕ × LineReason)) (before after : Option DoorAndNonces) (old new : Option (List ℕ)) (e : Exit)
    → IsUnread e → InputDoes w r before after old new e → ⊥
input_unread w (Ok job) before after old new exit.ReadFault x d = d.0
input_unread w (Ok job) before after old new exit.TooLong x d = d.0
input_unread w (Ok job) before after old new other x d = x
input_unread w (Err why) before after old new e x d = put_unread (bad_line why.0 why.1) old new e x d.1

text_unread : (w : ServeWords) (text : List ℕ) (before after : Option DoorAndNonces) (old new : Option (List ℕ)) (e : Exit)
    → IsUnread e → TextDoes w text before after old new e → ⊥
text_unread w text before after old new e x (inl none) = subst IsUnread none.0 x
text_unread w text before after old new e x (inr d) = input_unread w (job_of text) before after old new e x d

source_by : (before now : ℕ) (e : Exit) → (IsUnread e → ⊥) → now ≡ before → SourceCause before now e
source_by before now exit.ReadFault read same = absurd (read tt)
source_by before now e read same = same

-- where the input was read to its end, its source didn't fail
pub source_kept : (w : ServeWords) (text : List ℕ) (o p : Option DoorAndNonces) (old new : Option (List ℕ)) (before now : ℕ) (e : Exit)
    → TextDoes w text o p old new e → now ≡ before → SourceCause before now e
source_kept w text o p old new before now e d same = source_by before now e (λ x. text_unread w text o p old new e x d) same

only_input : (w : ServeWords) (text : List ℕ) (before after : Option DoorAndNonces) (old new : Option (List ℕ)) (e : Exit)
    → e ≢ exit.NoMemory → TextDoes w text before after old new e → InputDoes w (job_of text) before after old new e
only_input w text before after old new e other (inl none) = absurd (other none.0)
only_input w text before after old new e other (inr d) = d

served : (w : ServeWords) (bytes : List ℕ) (before after : Option DoorAndNonces) (old new : Option (List ℕ)) (e : Exit)
    → length bytes ≤ 67108864 → TextDoes w bytes before after old new e → Serves w bytes before after old new e
served w bytes before after old new exit.TooLong short d =
    absurd (text_unread w bytes before after old new exit.TooLong tt d)
served w bytes before after old new exit.ReadFault short d =
    absurd (text_unread w bytes before after old new exit.ReadFault tt d)
served w bytes before after old new exit.NoMemory short d = d
served w bytes before after old new e short d =
    (short, only_input w bytes before after old new e (λ is. cc) d)

-- all of it was taken
taken_is : (bytes : List ℕ) (left : Option (List ℕ)) (input : List ℕ) → Consumes (Some bytes) left input
    → IsAtEnd left → bytes ≡ input
taken_is bytes None input taken end = absurd taken
taken_is bytes (Some ys) input taken end = taken ∙ ap (λ l. input ++ l) end ∙ append-nil input

pub all_served : (w : ServeWords) (left rest : Option (List ℕ)) (input text : List ℕ) (before after : Option DoorAndNonces)
    (old new : Option (List ℕ)) (e : Exit) → TakesAll left rest 67108864 (Ok input) → text ≡ input
    → TextDoes w text before after old new e → OfKnown left (λ bytes. Serves w bytes before after old new e)
all_served w None rest input text before after old new e took is d = tt
all_served w (Some bytes) rest input text before after old new e took is d =
    subst (λ b. Serves w b before after old new e) (sym (taken_is bytes rest input took.1 took.2))
    (served w input before after old new e took.0 (subst (λ x. TextDoes w x before after old new e) is d))

longer : (bytes : List ℕ) (left : Option (List ℕ)) (input : List ℕ) → length input ≡ 67108864 + 1
    → Consumes (Some bytes) left input → 67108864 < length bytes
longer bytes None input long taken = absurd taken
longer bytes (Some ys) input long taken =
    let whole = ap length taken in
    let parts = length-append input ys in
    omega (arith, long, whole, parts)

pub too_long : (w : ServeWords) (left rest : Option (List ℕ)) (before : Option DoorAndNonces) (old : Option (List ℕ))
    → TakesAll left rest 67108864 (Err take_error.TooLong) → OfKnown left (λ bytes. Serves w bytes before before old old exit.TooLong)
too_long w None rest before old took = tt
too_long w (Some bytes) rest before old took = (longer bytes rest took.0 took.1 took.2, (refl, Appends-nil old))

pub unread : (w : ServeWords) (left : Option (List ℕ)) (before : Option DoorAndNonces) (old : Option (List ℕ))
    → OfKnown left (λ bytes. Serves w bytes before before old old exit.ReadFault)
unread w None before old = tt
unread w (Some bytes) before old = (refl, Appends-nil old)

pub unread_wanting : (w : ServeWords) (left : Option (List ℕ)) (before : Option DoorAndNonces) (old : Option (List ℕ))
    → OfKnown left (λ bytes. Serves w bytes before before old old exit.NoMemory)
unread_wanting w None before old = tt
unread_wanting w (Some bytes) before old = inl (refl, (refl, Appends-nil old))
