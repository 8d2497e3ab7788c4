-- What is answered to events that aren't messages, and which of them leave the machine as it is.
use Rattle.std.proofs.Common.{◌≡◌, ◌++◌, ℕ, Bool, true, false, List, Some, None, Ok, Err, OnOk, refl, sym, ap}
use Rattle.std.proofs.Common.{◌∙◌, if◌then◌else◌}
use Rattle.std.specs.Prelude.{codes}
use Rattle.std.specs.Option.{option_map}
use Rattle.std.specs.declared.option.Option.{Option}
use Rattle.std.specs.declared.result.Result.{Result}
use Rattle.dm_base.specs.Fields.{hex_text}
use Rattle.syncml_types.specs.Canonical.{canonical}
use Rattle.dm_tree.specs.declared.nodes.Stamp.{Stamp}
use Rattle.dm_machine.specs.declared.kinds.Initiator.{Initiator}
use Rattle.dm_machine.specs.Machine.{Session, Machine}
use Rattle.dm_machine.specs.Events.{Answer, clocked, exhausted, clock, opened, loss, loss_answer, sent_in, takes, after}
use Rattle.dm_machine.specs.Events.{taken_answer, refusal}
use Rattle.dm_machine.specs.History.{answer_now, next, kept_in}
use Rattle.dm_replay.specs.Output.{answer_line}

pub clock_answered : (c : Machine) (stamp : Stamp) → answer_now c (clock stamp) ≡ clocked
unfolding answer_now takes taken_answer
clock_answered c stamp = refl

loss_answered : (c : Machine) → answer_now c loss ≡ loss_answer c.session
unfolding answer_now takes refusal
loss_answered c = refl

pub loss_keeps : (c : Machine) → next c loss ≡ c
unfolding next takes
loss_keeps c = refl

again_by : (o : Option Session) (bytes : List ℕ) → Some bytes ≡ option_map (λ (s : Session). canonical s.sent) o
    → codes "again " ++ hex_text bytes ≡ answer_line (loss_answer o)
unfolding answer_line
again_by None bytes h = cc
again_by (Some s) bytes h = let same : bytes ≡ canonical s.sent = cc in ap (λ b. codes "again " ++ hex_text b) same

nobody_by : (o : Option Session) → None ≡ option_map (λ (s : Session). canonical s.sent) o
    → codes "nosession" ≡ answer_line (loss_answer o)
unfolding answer_line
nobody_by None h = refl
nobody_by (Some s) h = cc

pub again_line : (c : Machine) (bytes : List ℕ) → Some bytes ≡ option_map (λ (s : Session). canonical s.sent) c.session
    → codes "again " ++ hex_text bytes ≡ answer_line (answer_now c loss)
again_line c bytes h = again_by c.session bytes h ∙ ap answer_line (sym (loss_answered c))

pub nobody_line : (c : Machine) → None ≡ option_map (λ (s : Session). canonical s.sent) c.session
    → codes "nosession" ≡ answer_line (answer_now c loss)
nobody_line c h = nobody_by c.session h ∙ ap answer_line (sym (loss_answered c))

pub on_ok : {T E : Type 0} (r : Result T E) (P : Type 0) → P → OnOk r P
on_ok (Ok x) P p = p
on_ok (Err e) P p = tt

-- a session that isn't begun leaves the machine as it is
untaken : (c : Bool) (o : Option Session) (other : Answer) (last : ℕ) (s t : Machine)
    → (if c then sent_in o else other) ≡ exhausted last
    → (if c then t else s) ≡ s
untaken true None other last s t h = cc
untaken true (Some x) other last s t h = cc
untaken false o other last s t h = refl

pub exhausted_keeps : (c : Machine) (account : ℕ) (kind : Initiator) (number last : ℕ)
    → answer_now c (opened account kind number) ≡ exhausted last
    → next c (opened account kind number) ≡ c
unfolding answer_now next taken_answer
exhausted_keeps c account kind number last h =
    untaken (takes c (opened account kind number)) _ (refusal c (opened account kind number) (kept_in c.session)) last c
    (after c (opened account kind number)) h
