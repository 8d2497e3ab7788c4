-- The steps over tokens, one list after the other.
use Rattle.std.specs.Prelude.{◌≡◌, List, [], ◌∷◌, ◌++◌, Some, None, refl}
use Rattle.wbxml_tokens.specs.declared.token.Token.{Token}
use Rattle.syncml_shape.specs.Steps.{Open, content_step, then_steps, steps}

pub steps-append : (s : Open) (a b : List Token) → steps s (a ++ b) ≡ then_steps (steps s a) (λ s'. steps s' b)
steps-append s [] b = refl
steps-append s (t ∷ a) b =
    elim (content_step s t) as (λ o.
    then_steps o (λ s'. steps s' (a ++ b)) ≡ then_steps (then_steps o (λ s'. steps s' a)) (λ s'. steps s' b)) [
      | None ↦ refl
      | Some s' ↦ steps-append s' a b
    ]
