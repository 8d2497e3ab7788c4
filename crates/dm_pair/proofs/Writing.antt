-- What is written, and what is written behind it.
use Rattle.std.proofs.Common.{◌≡◌, ◌∙◌, ◌++◌, ◌==◌, ℕ, Bool, true, false, List, [], ◌∷◌, refl, sym, ap, length, IfOk}
use Rattle.std.proofs.Common.{append_assoc, cond}
use Rattle.std.specs.List.{onto_first}
use Rattle.std.specs.Prelude.{Result, Ok, Err}
use Rattle.dm_base.specs.declared.bytes.Memory.{Memory}
use Rattle.dm_base.specs.declared.lines.LineReason.TheVariants as reason
use Rattle.dm_job.specs.Texts.{segments}
use Rattle.dm_job.proofs.Turns.{some_segments}
use Rattle.dm_pair.specs.declared.lines.TextHalt.{TextHalt}
use Rattle.dm_pair.specs.Pairing.{Pairing}
use Rattle.dm_pair.specs.Texts.{Written, first, happening, refuses, behind_text, ends_at, written}
use Rattle.dm_pair.specs.From.{rest_written, HaltsAs}
use Rattle.dm_pair.specs.declared.text.PairOut.{PairOut}
use Rattle.dm_pair.specs.Seen.{wrote, all_written, written_in}

-- where something was written, it is this
abbrev pub Writes : Result PairOut Memory → Written → Type 0
Writes r w = IfOk r (λ o. written_in o ≡ w)

pub writes_same : (r : Result PairOut Memory) (w v : Written) → Writes r w → w ≡ v → Writes r v
writes_same (Ok o) w v h same = h ∙ same
writes_same (Err e) w v h same = tt

pub writes_rest : (r : Result PairOut Memory) (rest : Written) (h : TextHalt) (out : List ℕ)
    → IfOk r (λ o. (w : Written) → HaltsAs w h → written_in o ≡ behind_text out w)
    → HaltsAs rest h → Writes r (behind_text out rest)
writes_rest (Ok o) rest h out says halts = says rest halts
writes_rest (Err e) rest h out says halts = tt

-- behind nothing
pub writes_first : (r : Result PairOut Memory) (rest : Written) (h : TextHalt) (out : List ℕ) → out ≡ []
    → IfOk r (λ o. (w : Written) → HaltsAs w h → written_in o ≡ behind_text out w)
    → HaltsAs rest h → Writes r rest
writes_first r rest h out none says halts =
    writes_same r (behind_text out rest) rest (writes_rest r rest h out says halts)
    (ap (λ t. behind_text t rest) none)

pub writes_there : (r : Result PairOut Memory) (n : ℕ) (ids servers : List (List ℕ)) (p q : Pairing) (text : List ℕ)
    → ids ≡ servers → p ≡ q → Writes r (rest_written n (happening ids p) text)
    → Writes r (rest_written n (happening servers q) text)
writes_there r n ids servers p q text are is h =
    writes_same r (rest_written n (happening ids p) text) (rest_written n (happening servers q) text) h
    (ap (λ i. rest_written n (happening i p) text) are ∙ ap (λ x. rest_written n (happening servers x) text) is)

pub text_is : (r : Result PairOut Memory) (text : List ℕ) (w : Written) → Writes r w → rest_written 1 first text ≡ w
    → IfOk r (λ o. all_written o ≡ (written text).text)
unfolding written
text_is (Ok o) text w h is = ap (λ x. x.text) (h ∙ sym is)
text_is (Err e) text w h is = tt

pub bad_is : (r : Result PairOut Memory) (text : List ℕ) (w : Written) → Writes r w → rest_written 1 first text ≡ w
    → IfOk r (λ o. o.bad ≡ (written text).bad)
unfolding written
bad_is (Ok o) text w h is = ap (λ x. x.bad) (h ∙ sym is)
bad_is (Err e) text w h is = tt

-- text by text
pub texts_join : (a b : List ℕ) (w : Written) → behind_text a (behind_text b w) ≡ behind_text (a ++ b) w
texts_join a b w = ap (λ t. wrote t w.bad) (sym (append_assoc a b w.text))

pub event_written : (whole rest w : Written) (out now told : List ℕ) → whole ≡ behind_text out rest
    → rest ≡ behind_text told w → now ≡ out ++ told → whole ≡ behind_text now w
event_written whole rest w out now told is goes adds =
    is ∙ ap (behind_text out) goes ∙ texts_join out told w ∙ ap (λ t. behind_text t w) (sym adds)

-- ---- behind the `end` line

pub something_behind : (n : ℕ) (p : Pairing) (text : List ℕ) → (length text ≡ 0 → ⊥)
    → ends_at n p (segments text) ≡ refuses (n, reason.Extra)
something_behind n p [] some = absurd (some refl)
something_behind n p (b ∷ bs) some = by_feed (b == 10) (segments bs) (some_segments bs)
  where
    by_feed : (f : Bool) (s : List (List ℕ)) → (s ≡ [] → ⊥)
        → ends_at n p (cond f ([] ∷ s) (onto_first b s)) ≡ refuses (n, reason.Extra)
    by_feed true [] h = absurd (h refl)
    by_feed true (x ∷ xs) h = refl
    by_feed false [] h = refl
    by_feed false (x ∷ xs) h = refl
