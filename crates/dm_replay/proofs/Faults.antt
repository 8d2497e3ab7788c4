-- Where the source fails, all that was due was put.
use Rattle.std.proofs.Common.{◌≡◌, ◌≢◌, inl, inr, List, ℕ, sym, subst, ◌∙◌}
use Rattle.std.specs.Prelude.{Option}
use Rattle.std.specs.Io.KnownBytes.{Appends}
use Rattle.std.proofs.KnownBytes.{Appends-kept}
use Rattle.dm_exit.specs.declared.exit.Exit.{Exit}
use Rattle.dm_exit.specs.declared.exit.Exit.TheVariants as exit
use Rattle.dm_exit.specs.Puts.{PutsPart, PutsEnd}
use Rattle.dm_replay.specs.declared.reading.Halt.{Halt}
use Rattle.dm_replay.specs.declared.reading.Halt.TheVariants as halt
use Rattle.dm_replay.specs.From.{PutsHalt}

pub part_is_no_fault : (old new : Option (List ℕ)) (text : List ℕ) (e : Exit) → PutsPart old new text e
    → e ≢ exit.ReadFault
part_is_no_fault old new text e h is = subst (PutsPart old new text) is h

pub end_is_no_fault : (text : List ℕ) (good : Exit) (old new : Option (List ℕ)) (e : Exit) → good ≢ exit.ReadFault
    → PutsEnd text good old new e → e ≢ exit.ReadFault
end_is_no_fault text good old new e other h is =
    elim h [ inl put ↦ other (sym put.1 ∙ is) | inr part ↦ part_is_no_fault old new text e part is ]

pub other_is_no_fault : (good e : Exit) → e ≡ good → good ≢ exit.ReadFault → e ≢ exit.ReadFault
other_is_no_fault good e same other is = other (sym same ∙ is)

pub fault_behind : (h : Halt) (due : List ℕ) (old mid new : Option (List ℕ)) (e : Exit) → Appends old mid due
    → PutsHalt h mid new e → e ≡ exit.ReadFault → Appends old new due
fault_behind (halt.Bad n why) due old mid new e put p is =
    absurd (end_is_no_fault _ exit.BadInput mid new e (λ same. cc) p is)
fault_behind halt.TooLong due old mid new e put p is =
    absurd (other_is_no_fault exit.TooLong e p.1 (λ same. cc) is)
fault_behind halt.Read due old mid new e put p is = Appends-kept old mid new due put p.0
fault_behind halt.Memory due old mid new e put p is =
    absurd (other_is_no_fault exit.NoMemory e p.1 (λ same. cc) is)
