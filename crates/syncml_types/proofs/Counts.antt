-- A counter that was given tokens has counted their bytes.
use Rattle.std.proofs.Common.{ℕ, suc, ◌≡◌, ◌≤◌, ◌+◌, ◌-◌, ◌^◌, List, [], ◌∷◌, sym, ap, ◌∙◌, length, length-append}
use Rattle.std.proofs.Common.{arith}
use Rattle.wbxml_tokens.specs.declared.token.Token.{Token}
use Rattle.wbxml_tokens.specs.Spelling.{token_bytes, page_after, spelled, page_behind, given}
use Rattle.syncml_types.specs.declared.lengths.Counter.{Counter}
use Rattle.syncml_types.specs.Message.{Parts}
use Rattle.syncml_types.specs.Canonical.{canonical, message_tokens}
use Rattle.syncml_types.specs.Lengths.{up_to_most, spelled_length, counter_after, counter_past}

most : (a : ℕ) → a ≤ 2 ^ 64 - 1 → a ≡ up_to_most (a + 0)
most a h = omega (arith, h)

most_twice : (a b c : ℕ) → up_to_most (up_to_most (a + b) + c) ≡ up_to_most (a + (b + c))
most_twice a b c = omega arith

most_fits : (n : ℕ) → up_to_most n ≤ 2 ^ 64 - 1
most_fits n = omega arith

pub given_counted : (c : Counter) (tokens : List Token) → c.count ≤ 2 ^ 64 - 1
    → given counter_after c tokens ≡ counter_past c tokens
given_counted c [] h = ap (λ n. record { count = n; page = c.page }) (most c.count h)
given_counted c (t ∷ ts) h =
    given_counted (counter_after c t) ts (most_fits (c.count + length (token_bytes c.page t)))
    ∙ ap (λ n. record { count = n; page = page_behind (page_after c.page t) ts })
    (most_twice c.count (length (token_bytes c.page t)) (length (spelled (page_after c.page t) ts))
    ∙ ap (λ n. up_to_most (c.count + n))
    (sym (length-append (token_bytes c.page t) (spelled (page_after c.page t) ts))))

behind_five : (n : ℕ) → suc (suc (suc (suc (suc n)))) ≡ 5 + n
behind_five n = omega arith

-- the length of a whole spelling, behind its prologue
pub canonical_counted : (m : Parts) → up_to_most (length (canonical m)) ≡ spelled_length 5 0 (message_tokens m)
unfolding canonical
canonical_counted m = ap up_to_most (behind_five (length (spelled 0 (message_tokens m))))
