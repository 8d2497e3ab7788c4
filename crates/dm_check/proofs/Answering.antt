-- What is put of what was received is what is put of the bytes of the source.
use Rattle.std.proofs.Common.{ℕ, ◌≡◌, List, refl, sym, ap, ◌∙◌, subst, inl, inr}
use Rattle.std.specs.Prelude.{Option, Some, None, Result, Ok, Err}
use Rattle.std.specs.Io.KnownBytes.{Appends}
use Rattle.dm_base.specs.Outside.{OfKnown}
use Rattle.wbxml_tokens.specs.declared.reason.Refusal.{Refusal}
use Rattle.syncml_types.specs.Message.{Parts}
use Rattle.syncml_codec.specs.Decoding.{read_of}
use Rattle.dm_exit.specs.declared.exit.Exit.{Exit}
use Rattle.dm_exit.specs.declared.exit.Exit.TheVariants as exit
use Rattle.dm_exit.specs.Causes.{SourceCause}
use Rattle.dm_exit.specs.Puts.{PutsPrefix, PutsPart, PutsEnd, Ends}
use Rattle.dm_exit.specs.Answers.{IsOfText, DoneAtEnd}
use Rattle.dm_exit.proofs.Parts.{ends_put, prefix_none, end_of_text, end_not_done, at_end_done}
use Rattle.dm_check.specs.declared.message.Received.{Received}
use Rattle.dm_check.specs.declared.message.Received.TheVariants as received
use Rattle.dm_check.specs.Receiving.{Receives, MessageAtEnd}
use Rattle.dm_check.specs.Answers.{check_answer, checked, exit_of, show_text, check_text, message_exit}
use Rattle.dm_check.specs.Kept.{read_in, checked_in}

-- ---- a text and its answer

full : (text : List ℕ) (r : Result Parts Refusal) (old new : Option (List ℕ)) → Appends old new text
    → Ends text (exit_of r) old new (exit_of r)
full text (Ok message) old new h = (h, refl)
full text (Err refusal) old new h = (h, refl)

ends_by : (text : List ℕ) (r : Result Parts Refusal) (good : Exit) (old new : Option (List ℕ)) (e : Exit)
    → good ≡ exit_of r → PutsEnd text good old new e → Ends text (exit_of r) old new e
ends_by text r good old new e is h =
    ends_put text (exit_of r) old new e (full text r old new) (subst (λ g. PutsEnd text g old new e) is h)

read_received : (bytes : List ℕ) (r : Received) → Receives (Ok r) bytes → read_of bytes ≡ read_in r
read_received bytes (received.Message message kept) h = h.1
read_received bytes (received.Refused refusal) h = h

-- ---- the listing

shown_by : (bytes : List ℕ) (r : Result Parts Refusal) (old new : Option (List ℕ)) (e : Exit) → read_of bytes ≡ r
    → Ends (check_answer r) (exit_of r) old new e
    → Ends (show_text bytes) (message_exit bytes) old new e
unfolding show_text message_exit
shown_by bytes r old new e is h = subst (λ x. Ends (check_answer x) (exit_of x) old new e) (sym is) h

pub all_shown : (left : Option (List ℕ)) (r : Received) (text : List ℕ) (good : Exit) (old new : Option (List ℕ))
    (e : Exit) → OfKnown left (Receives (Ok r)) → text ≡ check_answer (read_in r)
    → good ≡ exit_of (read_in r) → PutsEnd text good old new e
    → OfKnown left (λ bytes. Ends (show_text bytes) (message_exit bytes) old new e)
all_shown None r text good old new e h same is p = tt
all_shown (Some bytes) r text good old new e h same is p =
    shown_by bytes (read_in r) old new e (read_received bytes r h)
    (subst (λ t. Ends t (exit_of (read_in r)) old new e) same (ends_by text (read_in r) good old new e is p))

-- ---- the line of `check`

checked_by : (bytes : List ℕ) (r : Result Parts Refusal) (old new : Option (List ℕ)) (e : Exit) → read_of bytes ≡ r
    → Ends (checked bytes r) (exit_of r) old new e
    → Ends (check_text bytes) (message_exit bytes) old new e
unfolding check_text message_exit
checked_by bytes r old new e is h = subst (λ x. Ends (checked bytes x) (exit_of x) old new e) (sym is) h

line_of : (bytes : List ℕ) (r : Received) → Receives (Ok r) bytes → checked_in r ≡ checked bytes (read_in r)
line_of bytes (received.Message message kept) h = ap (λ b. checked b (Ok message)) h.0
line_of bytes (received.Refused refusal) h = refl

pub all_checked : (left : Option (List ℕ)) (r : Received) (text : List ℕ) (good : Exit) (old new : Option (List ℕ))
    (e : Exit) → OfKnown left (Receives (Ok r)) → text ≡ checked_in r
    → good ≡ exit_of (read_in r) → PutsEnd text good old new e
    → OfKnown left (λ bytes. Ends (check_text bytes) (message_exit bytes) old new e)
all_checked None r text good old new e h same is p = tt
all_checked (Some bytes) r text good old new e h same is p =
    checked_by bytes (read_in r) old new e (read_received bytes r h)
    (subst (λ t. Ends t (exit_of (read_in r)) old new e) (same ∙ line_of bytes r h)
    (ends_by text (read_in r) good old new e is p))

-- ---- nothing is put

keeps_all : (old : Option (List ℕ)) (text : List ℕ) → PutsPrefix old old text
keeps_all None text = prefix_none None None text tt
keeps_all (Some xs) text = prefix_none (Some xs) (Some xs) text refl

pub unread : (left : Option (List ℕ)) (text : List ℕ → List ℕ) (good : List ℕ → Exit) (old : Option (List ℕ))
    → OfKnown left (λ bytes. Ends (text bytes) (good bytes) old old exit.ReadFault)
unread None text good old = tt
unread (Some bytes) text good old = keeps_all old (text bytes)

pub lacking : (left : Option (List ℕ)) (text : List ℕ → List ℕ) (good : List ℕ → Exit) (old : Option (List ℕ))
    → OfKnown left (λ bytes. Ends (text bytes) (good bytes) old old exit.NoMemory)
lacking None text good old = tt
lacking (Some bytes) text good old = keeps_all old (text bytes)

-- ---- causes

no_read_fault : (r : Result Parts Refusal) → exit_of r ≡ exit.ReadFault → ⊥
no_read_fault (Ok message) e = cc
no_read_fault (Err refusal) e = cc

part_no_read : (text : List ℕ) (old new : Option (List ℕ)) (e : Exit) → PutsPart old new text e → e ≡ exit.ReadFault → ⊥
part_no_read text old new e h is = subst (PutsPart old new text) is h

cause_by : (e : Exit) (before now : ℕ) → (e ≡ exit.ReadFault → ⊥) → now ≡ before → SourceCause before now e
cause_by exit.ReadFault before now other h = absurd (other refl)
cause_by other before now unlike h = h

pub no_read : (r : Received) (text : List ℕ) (good : Exit) (old new : Option (List ℕ)) (e : Exit)
    → good ≡ exit_of (read_in r) → PutsEnd text good old new e → e ≡ exit.ReadFault → ⊥
no_read r text good old new e is h fault = elim h [
  | inl put ↦ no_read_fault (read_in r) (sym is ∙ sym put.1 ∙ fault)
  | inr part ↦ part_no_read text old new e part fault
]

pub source_cause : (r : Received) (text : List ℕ) (good : Exit) (old new : Option (List ℕ)) (e : Exit) (before now : ℕ)
    → good ≡ exit_of (read_in r) → PutsEnd text good old new e
    → now ≡ before → SourceCause before now e
source_cause r text good old new e before now is h same =
    cause_by e before now (no_read r text good old new e is h) same

-- ---- answers

pub answer_of_text : (r : Received) (text : List ℕ) (good : Exit) (old new : Option (List ℕ)) (e : Exit)
    → good ≡ exit_of (read_in r) → PutsEnd text good old new e → IsOfText e
answer_of_text (received.Message message bytes) text good old new e is h =
    end_of_text text good old new e (subst IsOfText (sym is) tt) h
answer_of_text (received.Refused refusal) text good old new e is h =
    end_of_text text good old new e (subst IsOfText (sym is) tt) h

-- Done is answered for a message alone
pub answer_ended : (left rest : Option (List ℕ)) (r : Received) (text : List ℕ) (good : Exit)
    (old new : Option (List ℕ)) (e : Exit) → MessageAtEnd rest (Ok r) → good ≡ exit_of (read_in r)
    → PutsEnd text good old new e → DoneAtEnd left rest e
answer_ended left rest (received.Message message bytes) text good old new e ended is h = at_end_done left rest e ended
answer_ended left rest (received.Refused refusal) text good old new e ended is h = λ done.
    absurd (end_not_done text good old new e (λ same. let both = sym is ∙ same in cc) h done)
