-- Tokens given one list after the other.
use Rattle.std.proofs.Common.{◌≡◌, List, [], ◌∷◌, ◌++◌, refl}
use Rattle.wbxml_tokens.specs.declared.token.Token.{Token}
use Rattle.wbxml_tokens.specs.Spelling.{given}

pub given_append : {W : Type 0} (after : W → Token → W) (w : W) (a b : List Token)
    → given after w (a ++ b) ≡ given after (given after w a) b
given_append after w [] b = refl
given_append after w (t ∷ a) b = given_append after (after w t) a b
