use Rattle.std.proofs.Common.{◌≡◌, ℕ, Bool, true, false, not, ◌&&◌, ◌==◌, List, sym, ◌∙◌, ap, refl}
use Rattle.std.specs.List.{list_all}
use Rattle.std.specs.Str.{IsUtf8, is_utf8}
use Rattle.std.proofs.lemmas.Str.{is_utf8-from_IsUtf8, IsUtf8-from_is_utf8}
use Rattle.syncml_types.specs.Canonical.{is_text}
use Rattle.syncml_types.proofs.put_value.is_plain_text.Goals as goal

text_where : (bs : List ℕ) → IsUtf8 bs → list_all (λ b. not (b == 0)) bs ≡ is_text bs
text_where bs u = sym (ap (λ b. b && list_all (λ b. not (b == 0)) bs) (is_utf8-from_IsUtf8 bs u))

no_text : (b c : Bool) (bs : List ℕ) → is_utf8 bs ≡ b → (IsUtf8 bs → ⊥) → (b && c) ≡ false
no_text true c bs e n = absurd (n (IsUtf8-from_is_utf8 bs e))
no_text false c bs e n = refl

pub returns-in-Ok : goal.returns-in-Ok
returns-in-Ok c = c.has_no_zero.ensures ∙ text_where _ c.in-Ok.ensures.cases.1

pub returns-in-Err : goal.returns-in-Err
returns-in-Err c = sym (no_text (is_utf8 c.args.bytes.now) _ c.args.bytes.now refl c.in-Err.ensures.cases.0)
