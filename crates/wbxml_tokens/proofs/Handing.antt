-- A token that a writer doesn't take.
use Rattle.std.proofs.Common.{ℕ, ◌≡◌, refl, sym, subst, inr}
use Rattle.std.specs.Prelude.{Option, Some, None, Result, Ok, Err, OnOk, IfOk}
use Rattle.wbxml_tokens.specs.declared.reason.Reason.{Reason}
use Rattle.wbxml_tokens.specs.declared.token.Token.{Token}
use Rattle.wbxml_tokens.specs.Fronts.{token}
use Rattle.wbxml_tokens.specs.Reading.{Reader}
use Rattle.wbxml_tokens.specs.declared.reason.Stop.{Stop}
use Rattle.wbxml_tokens.specs.Taking.{Taking, TellsReason, GivesPart, stop_of, stop_at, stopped_at}

refused_so : {W : Type 0} (k : Taking W) (left : W → W → Type 0) (w v : W) (t : Token) (size : ℕ) (r s : Reader)
    (why : Option Reason)
    → TellsReason left (k.placed w r.place) v why (k.refusal (k.placed w r.place) t)
    → GivesPart k left (Err (stop_at r.place (stop_of why))) r s w v (token t size)
refused_so k left w v t size r s (Some reason) h = inr (rw h refl)
refused_so k left w v t size r s None h = ((0, w, refl, inr (r.place, h)), tt)

-- a writer that was told the place refuses the token, or lacks memory for it
pub refused_by : {W : Type 0} (k : Taking W) (left : W → W → Type 0) (w w1 v : W) (t : Token) (size : ℕ) (r s : Reader)
    (why : Option Reason) (stop : Stop)
    → w1 ≡ k.placed w r.place → TellsReason left w1 v why (k.refusal w1 t) → stop ≡ stop_of why
    → GivesPart k left (stopped_at r.place (Err stop)) r s w v (token t size)
refused_by k left w w1 v t size r s why stop placed tells is =
    subst (λ x. GivesPart k left (Err (stop_at r.place x)) r s w v (token t size)) (sym is)
    (refused_so k left w v t size r s why (subst (λ x. TellsReason left x v why (k.refusal x t)) placed tells))

-- an answer with its place
pub on_ok_at : (place : ℕ) (r : Result ℕ Stop) (P : Type 0) → OnOk r P → OnOk (stopped_at place r) P
on_ok_at place (Ok n) P h = h
on_ok_at place (Err stop) P h = tt

pub if_ok_back : (place : ℕ) (r : Result ℕ Stop) (P : ℕ → Type 0) → IfOk (stopped_at place r) P → IfOk r P
if_ok_back place (Ok n) P h = h
if_ok_back place (Err stop) P h = tt
