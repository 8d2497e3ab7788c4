-- What the two ends can rely on.
use Rattle.std.specs.Prelude.{◌≡◌, ℕ, List, Some}
use Rattle.dm_auth.specs.Digests.{verdict, credential}
use Rattle.dm_auth.specs.declared.credentials.Verdict.TheVariants.{Accepted}

-- what one end shows is accepted by the other that knows the same
abbrev pub CredentialIsAccepted : Type 0
CredentialIsAccepted =
    (user password nonce : List ℕ) → verdict user password nonce (Some (credential user password nonce)) ≡ Accepted
