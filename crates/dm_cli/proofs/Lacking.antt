-- A run that ends before its form is known puts nothing, which is a prefix of every text.
use Rattle.std.proofs.Common.{◌≡◌, ℕ, List, [], inl, inr, refl, sym, arith}
use Rattle.std.specs.Io.KnownBytes.{Appends, Consumes, Keeps}
use Rattle.std.specs.Prelude.{Option, Some, None}
use Rattle.std.proofs.lemmas.List.{append-nil}
use Rattle.dm_exit.specs.declared.exit.Exit.{Exit}
use Rattle.dm_exit.specs.declared.exit.Exit.TheVariants as exit
use Rattle.dm_exit.specs.Puts.{PutsPrefix}
use Rattle.dm_words.specs.declared.forms.Form.{Form}
use Rattle.dm_words.specs.declared.forms.Form.TheVariants as forms
use Rattle.dm_check.specs.Receiving.{TakesNoMore}
use Rattle.dm_check.proofs.Taking.{nothing_settled}
use Rattle.dm_replay.specs.declared.reading.Halt.TheVariants as halt
use Rattle.dm_replay.specs.Input.{TakesOnePast}
use Rattle.dm_device.specs.Outsides.{outside_of}
use Rattle.dm_device.proofs.Devices.{known_halts}
use Rattle.dm_cli.specs.declared.reach.Reach.{Reach}
use Rattle.dm_cli.specs.Forms.{Runs, TakesFor, AsksForMore, ReadsToEnd}
use Rattle.dm_cli.specs.Reaching.{ReachTold, Reaches, IsAnswerOf}

nothing : (old : Option (List ℕ)) (text : List ℕ) → PutsPrefix old old text
nothing None text = (0, tt)
nothing (Some xs) text = (0, sym (append-nil xs))

appends_nothing : (old : Option (List ℕ)) → Appends old old []
appends_nothing None = tt
appends_nothing (Some xs) = sym (append-nil xs)

keeps_same : (old : Option (List ℕ)) → Keeps old old
keeps_same None = tt
keeps_same (Some xs) = refl

pub lacking : (form : Option Form) (left : Option (List ℕ)) (told : ReachTold) (old : Option (List ℕ))
    → Runs form left told told old old exit.NoMemory
unfolding Runs
lacking None left told old = nothing old _
lacking (Some forms.Replay) None told old = tt
lacking (Some (forms.Device w)) None told old = tt
lacking (Some (forms.Serve w)) None told old = tt
lacking (Some forms.Pair) None told old = tt
lacking (Some forms.Show) None told old = tt
lacking (Some forms.Check) None told old = tt
lacking (Some (forms.Bench seed nodes messages)) left told old = inr (nothing old _)
lacking (Some forms.Conform) None told old = tt
lacking (Some forms.Replay) (Some bytes) told old = nothing old _
lacking (Some (forms.Serve w)) (Some bytes) told old = inl (refl, (refl, appends_nothing old))
lacking (Some forms.Pair) (Some bytes) told old = nothing old _
lacking (Some forms.Show) (Some bytes) told old = nothing old _
lacking (Some forms.Check) (Some bytes) told old = nothing old _
lacking (Some forms.Conform) (Some bytes) told old = nothing old _
lacking (Some forms.Make) None told old = tt
lacking (Some forms.Make) (Some bytes) told old = nothing old _
lacking (Some (forms.Device w)) (Some bytes) told old =
    known_halts (Some bytes) w halt.Memory (outside_of told.dialer told.updates told.nonces) old old exit.NoMemory tt
    (keeps_same old, refl)

consumes_nothing : (left : Option (List ℕ)) → Consumes left left []
consumes_nothing None = tt
consumes_nothing (Some bytes) = refl

takes_nothing : (left : Option (List ℕ)) → TakesNoMore left left
takes_nothing left = ([], [], consumes_nothing left, nothing_settled, omega arith, omega arith)

takes_none : (left : Option (List ℕ)) → TakesOnePast left left
takes_none left = ([], consumes_nothing left, omega arith)

-- and takes nothing
pub untaken : {S : Type 0} (left : S → Option (List ℕ)) (form : Option Form) (src : S) → TakesFor left form src src
unfolding TakesFor
untaken left None src = refl
untaken left (Some forms.Replay) src = takes_none (left src)
untaken left (Some (forms.Device w)) src = takes_none (left src)
untaken left (Some (forms.Serve w)) src = takes_none (left src)
untaken left (Some forms.Pair) src = takes_none (left src)
untaken left (Some forms.Show) src = takes_nothing (left src)
untaken left (Some forms.Check) src = takes_nothing (left src)
untaken left (Some (forms.Bench seed nodes messages)) src = refl
untaken left (Some forms.Conform) src = takes_none (left src)
untaken left (Some forms.Make) src = takes_none (left src)

-- and asks for nothing more
pub unasked : (form : Option Form) (left : Option (List ℕ)) (e : Exit) → AsksForMore form left left e
unfolding AsksForMore
unasked None left e = tt
unasked (Some forms.Replay) left e = tt
unasked (Some (forms.Device w)) left e = tt
unasked (Some (forms.Serve w)) left e = tt
unasked (Some forms.Pair) left e = tt
unasked (Some forms.Show) left e = λ _. ([], consumes_nothing left, nothing_settled)
unasked (Some forms.Check) left e = λ _. ([], consumes_nothing left, nothing_settled)
unasked (Some (forms.Bench seed nodes messages)) left e = tt
unasked (Some forms.Conform) left e = tt
unasked (Some forms.Make) left e = tt

-- and isn't well
pub unended : (form : Option Form) (old new : Option (List ℕ)) → ReadsToEnd form old new exit.NoMemory
unfolding ReadsToEnd
unended None old new = tt
unended (Some forms.Replay) old new = λ is. cc
unended (Some (forms.Device w)) old new = λ behind. absurd behind
unended (Some (forms.Serve w)) old new = λ is. cc
unended (Some forms.Pair) old new = λ is. cc
unended (Some forms.Show) old new = λ is. cc
unended (Some forms.Check) old new = λ is. cc
unended (Some (forms.Bench seed nodes messages)) old new = tt
unended (Some forms.Conform) old new = λ is. cc
unended (Some forms.Make) old new = λ is. cc

pub formless : (form : Option Form) (old new : Option (List ℕ)) (e : Exit) → form ≡ None → ReadsToEnd form old new e
unfolding ReadsToEnd
formless None old new e is = tt
formless (Some form) old new e is = cc

-- and reaches nothing
pub unreached : {D P U N : Type 0} (dials : D → ℕ) (doors : P → ℕ) (form : Option Form) (reach : Reach D P U N)
    → Reaches dials doors form reach reach exit.NoMemory
unfolding Reaches
unreached dials doors None reach = refl
unreached dials doors (Some forms.Replay) reach = refl
unreached dials doors (Some (forms.Device w)) reach = (refl, omega arith, λ early. absurd early)
unreached dials doors (Some (forms.Serve w)) reach = (refl, refl, refl, λ _. refl)
unreached dials doors (Some forms.Pair) reach = refl
unreached dials doors (Some forms.Show) reach = refl
unreached dials doors (Some forms.Check) reach = refl
unreached dials doors (Some (forms.Bench seed nodes messages)) reach = refl
unreached dials doors (Some forms.Conform) reach = refl
unreached dials doors (Some forms.Make) reach = refl

pub formless_reach : {D P U N : Type 0} (dials : D → ℕ) (doors : P → ℕ) (form : Option Form) (reach : Reach D P U N)
    (e : Exit) → form ≡ None → Reaches dials doors form reach reach e
unfolding Reaches
formless_reach dials doors None reach e is = refl
formless_reach dials doors (Some form) reach e is = cc

-- want of memory is an answer of every form
pub answerable : (form : Option Form) → IsAnswerOf form exit.NoMemory
unfolding IsAnswerOf
answerable None = tt
answerable (Some forms.Replay) = tt
answerable (Some (forms.Device w)) = tt
answerable (Some (forms.Serve w)) = tt
answerable (Some forms.Pair) = tt
answerable (Some forms.Show) = tt
answerable (Some forms.Check) = tt
answerable (Some (forms.Bench seed nodes messages)) = tt
answerable (Some forms.Conform) = tt
answerable (Some forms.Make) = tt
