-- What was put of a text that stands between others, and how a run ends then.
use Rattle.std.proofs.Common.{None, Some, ◌≢◌, ◌∙◌, ◌+◌, ℕ, inl, inr, List, [], ◌++◌, sym, subst}
use Rattle.std.proofs.Common.{length, arith, append-nil}
use Rattle.std.proofs.lemmas.Bool.{cases_lt}
use Rattle.std.proofs.lemmas.List.{take-append-le, take_all}
use Rattle.std.proofs.Math.Seq.{take-append_seam, take-append-add}
use Rattle.std.proofs.KnownBytes.{Appends-trans}
use Rattle.std.specs.declared.option.Option.{Option}
use Rattle.std.specs.Io.KnownBytes.{Appends, Keeps, IsAtEnd}
use Rattle.dm_exit.specs.declared.exit.Exit.{Exit}
use Rattle.dm_exit.specs.declared.exit.Exit.TheVariants as exit
use Rattle.dm_exit.specs.Answers.{IsOfText, DoneAtEnd}
use Rattle.dm_exit.specs.Puts.{PutsPrefix, PutsPart, PutsEnd, Ends}

-- ---- a part of a text

pub kept_appends : (old new : Option (List ℕ)) → Keeps old new → Appends old new []
kept_appends None new h = tt
kept_appends (Some xs) None h = absurd h
kept_appends (Some xs) (Some ys) h = h ∙ sym (append-nil xs)

pub prefix_none : (old new : Option (List ℕ)) (text : List ℕ) → Keeps old new → PutsPrefix old new text
prefix_none old new text h = (0, kept_appends old new h)

-- a prefix of the front is a prefix of the whole
pub prefix_of_front : (old new : Option (List ℕ)) (front rest : List ℕ) → PutsPrefix old new front
    → PutsPrefix old new (front ++ rest)
prefix_of_front old new front rest h =
    elim (cases_lt (length front) h.0) [
      | inl more ↦ (
        length front,
        subst (Appends old new)
            (take_all h.0 front (omega (arith, more)) ∙ sym (take-append_seam front rest)) h.1,
      )
      | inr less ↦ (h.0, subst (Appends old new) (sym (take-append-le h.0 front rest less)) h.1)
    ]

-- a prefix of what stands behind a part that was put whole
pub prefix_behind : (old mid new : Option (List ℕ)) (done rest : List ℕ) → Appends old mid done
    → PutsPrefix mid new rest → PutsPrefix old new (done ++ rest)
prefix_behind old mid new done rest put h = (
  length done + h.0,
  subst (Appends old new) (sym (take-append-add done rest h.0))
      (Appends-trans old mid new _ _ put h.1),
)

-- the front of a text breaks
pub front_breaks : (old new : Option (List ℕ)) (front rest : List ℕ) (e : Exit) → PutsPart old new front e
    → PutsPart old new (front ++ rest) e
front_breaks old new front rest exit.WriteFault h = prefix_of_front old new front rest h
front_breaks old new front rest exit.NoMemory h = prefix_of_front old new front rest h
front_breaks old new front rest other h = absurd h

-- what follows the front breaks
pub rest_breaks : (old mid new : Option (List ℕ)) (front rest : List ℕ) (e : Exit) → Appends old mid front
    → PutsPart mid new rest e → PutsPart old new (front ++ rest) e
rest_breaks old mid new front rest exit.WriteFault put h = prefix_behind old mid new front rest put h
rest_breaks old mid new front rest exit.NoMemory put h = prefix_behind old mid new front rest put h
rest_breaks old mid new front rest other put h = absurd h

-- ---- the end of a run

pub ends_part : (text : List ℕ) (good : Exit) (old new : Option (List ℕ)) (e : Exit) → PutsPart old new text e
    → Ends text good old new e
ends_part text good old new exit.WriteFault h = h
ends_part text good old new exit.NoMemory h = h
ends_part text good old new other h = absurd h

pub ends_after : (done text : List ℕ) (good : Exit) (old mid new : Option (List ℕ)) (e : Exit) → Appends old mid done
    → Ends text good mid new e
    → Ends (done ++ text) good old new e
ends_after done text good old mid new exit.Done put h = (Appends-trans old mid new _ _ put h.0, h.1)
ends_after done text good old mid new exit.BadInput put h = (Appends-trans old mid new _ _ put h.0, h.1)
ends_after done text good old mid new exit.TooLong put h = (Appends-trans old mid new _ _ put h.0, h.1)
ends_after done text good old mid new exit.ReadFault put h = prefix_behind old mid new done text put h
ends_after done text good old mid new exit.WriteFault put h = prefix_behind old mid new done text put h
ends_after done text good old mid new exit.NoMemory put h = prefix_behind old mid new done text put h
ends_after done text good old mid new other put h = absurd h

-- for an answer whose end is the whole text, what puts it ends so
pub ends_put : (text : List ℕ) (good : Exit) (old new : Option (List ℕ)) (e : Exit)
    → (Appends old new text → Ends text good old new good)
    → PutsEnd text good old new e → Ends text good old new e
ends_put text good old new e full h =
    elim h [
      | inl put ↦ subst (λ x. Ends text good old new x) (sym put.1)
          (full put.0)
      | inr part ↦ ends_part text good old new e part
    ]

-- ---- the answers of a text

-- a text that is put in part has an answer of texts, which isn't Done
pub part_of_text : (text : List ℕ) (old new : Option (List ℕ)) (e : Exit) → PutsPart old new text e → IsOfText e
part_of_text text old new exit.WriteFault h = tt
part_of_text text old new exit.NoMemory h = tt
part_of_text text old new other h = absurd h

pub part_not_done : (text : List ℕ) (old new : Option (List ℕ)) (e : Exit) → PutsPart old new text e
    → e ≢ exit.Done
part_not_done text old new e h is = subst (PutsPart old new text) is h

-- a text and then its answer
pub end_of_text : (text : List ℕ) (good : Exit) (old new : Option (List ℕ)) (e : Exit) → IsOfText good
    → PutsEnd text good old new e → IsOfText e
end_of_text text good old new e is h =
    elim h [ inl put ↦ subst IsOfText (sym put.1) is | inr part ↦ part_of_text text old new e part ]

pub end_not_done : (text : List ℕ) (good : Exit) (old new : Option (List ℕ)) (e : Exit) → good ≢ exit.Done
    → PutsEnd text good old new e → e ≢ exit.Done
end_not_done text good old new e other h is =
    elim h [ inl put ↦ other (sym put.1 ∙ is) | inr part ↦ part_not_done text old new e part is ]

-- a part of a text is no good end of it, wherever the source is
pub part_at_end : (text : List ℕ) (old new left rest : Option (List ℕ)) (e : Exit) → PutsPart old new text e
    → DoneAtEnd left rest e
part_at_end text old new left rest e h is = absurd (part_not_done text old new e h is)

-- where the source is at its end, a run may end well
pub at_end_done : (old new : Option (List ℕ)) (e : Exit) → IsAtEnd new → DoneAtEnd old new e
at_end_done None new e h is = tt
at_end_done (Some bytes) new e h is = h
