-- Commands of a body that are run one after another.
use Rattle.std.proofs.Common.{◌≡◌, ℕ, suc, ◌+◌, ◌<◌, List, ◌∷◌, ◌++◌, length, drop, get_or, Bool, true, false}
use Rattle.std.proofs.Common.{cond, refl, sym, ◌∙◌, ap, subst, append_assoc, add-one, drop-cons}
use Rattle.std.proofs.lemmas.List.{append-nil}
use Rattle.syncml_types.specs.declared.command.Command.{Command}
use Rattle.syncml_types.specs.Message.{Parts}
use Rattle.dm_atomic.specs.declared.tasks.Origin.{Origin}
use Rattle.dm_atomic.specs.declared.engine.Engine.{Engine}
use Rattle.dm_atomic.specs.Made.{Made, told}
use Rattle.dm_atomic.specs.Run.{State, Running, Next, quietly, run_command, run_all, still}
use Rattle.dm_atomic.specs.Engine.{running, Gives}
use Rattle.dm_atomic.specs.Updates.{clock_of, max_obj_of}
use Rattle.dm_atomic.proofs.Giving.{IsGiving}
use Rattle.dm_atomic.proofs.Telling.{told_both}
use Rattle.dm_atomic.proofs.Tried.{running_stays}
use Rattle.dm_machine.specs.Messages.{is_quiet, quiet_after}

abbrev with_made : List Made → Next → Next
with_made made n = record n { made = made ++ n.made }

abbrev then_gives : Next → Next → Next
then_gives first rest = record { state = rest.state; made = first.made ++ rest.made }

giving-on : (rest first left whole : Next) (before now after : List Command) → IsGiving rest whole before now
    → rest ≡ then_gives first left → after ≡ now ++ told first.made → IsGiving left whole before after
giving-on rest first left whole before now after i e t = record {
  made = i.made ++ first.made;
  told_is = told_both before now after i.made first.made i.told_is t;
  goes_on =
      ap (λ x. record left { made = x }) (append_assoc i.made first.made left.made) ∙ ap (with_made i.made) (sym e)
      ∙ i.goes_on;
}

pub run_goes_on : (r : Running) (o : Origin) (s next : State) (cs : List Command) (k : ℕ) (c : Command) (whole : Next)
    (before now after : List Command) → IsGiving (run_all r o s (drop k cs)) whole before now → k < length cs
    → c ≡ get_or cs k c → Gives (run_command r o s c) next now after
    → IsGiving (run_all r o next (drop (k + 1) cs)) whole before after
run_goes_on r o s next cs k c whole before now after i l is h =
    giving-on (run_all r o s (drop k cs)) (run_command r o s c) (run_all r o next (drop (k + 1) cs)) whole before now
    after i
    (ap (run_all r o s) behind
    ∙ ap (λ y. then_gives (run_command r o s c) (run_all r o y (drop (k + 1) cs))) (sym h.state_is))
    h.told_is
  where
    behind : drop k cs ≡ c ∷ drop (k + 1) cs
    behind = rw (add-one k) (drop-cons cs k c l ∙ ap (λ y. y ∷ drop (suc k) cs) (sym is))

pub run_still : (e f : Engine) (caller : List ℕ) (o : Origin) (s next : State) (c : Command)
    (before after : List Command)
    → clock_of f ≡ clock_of e → max_obj_of f ≡ max_obj_of e
    → Gives (run_command (running f caller) o s c) next before after
    → Gives (run_command (running e caller) o s c) next before after
run_still e f caller o s next c before after k m =
    subst (λ (r : Running). Gives (run_command r o s c) next before after) (running_stays e f caller k m)

-- ---- the whole message

pub noisy_gives : (m : Parts) (run : Next) (s : State) (out after : List Command) → is_quiet m ≡ false
    → Gives run s out after
    → Gives (quiet_after m run) s out after
noisy_gives m run s out after q g = record {
  state_is = g.state_is ∙ ap (λ (n : Next). n.state) (sym (kept (is_quiet m) q));
  told_is = g.told_is ∙ ap (λ (n : Next). out ++ told n.made) (sym (kept (is_quiet m) q));
}
  where
    broken : Bool → Next
    broken b = let s = cond b (still run.state) (quietly run.state) in
        record { state = s.state; made = run.made ++ s.made }

    kept : (b : Bool) → b ≡ false → broken b ≡ run
    kept true e = absurd (cc)
    kept false e = ap (λ x. record run { made = x }) (append-nil run.made)

pub quiet_gives : (m : Parts) (run : Next) (s next : State) (out first second : List Command) → is_quiet m ≡ true
    → Gives run s out first
    → Gives (still s) next first second → Gives (quiet_after m run) next out second
quiet_gives m run s next out first second q g h = record {
  state_is =
      h.state_is ∙ ap (λ x. (still x).state) g.state_is ∙ ap (λ (n : Next). n.state) (sym (broke (is_quiet m) q));
  told_is = told_both out first second run.made (still s).made g.told_is h.told_is
      ∙ ap (λ x. out ++ told (run.made ++ (still x).made)) g.state_is
      ∙ ap (λ (n : Next). out ++ told n.made) (sym (broke (is_quiet m) q));
}
  where
    broken : Bool → Next
    broken b = let s = cond b (still run.state) (quietly run.state) in
        record { state = s.state; made = run.made ++ s.made }

    broke : (b : Bool) → b ≡ true
        → broken b ≡ record { state = (still run.state).state; made = run.made ++ (still run.state).made }
    broke true e = refl
    broke false e = absurd (cc)
