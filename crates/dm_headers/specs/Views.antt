-- What calls answer of a header.
use Rattle.std.specs.Prelude.{◌≡◌, unwrap_or}
use Rattle.dm_auth.specs.declared.accounts.Account.{Account}
use Rattle.dm_headers.specs.declared.hearing.Heard.{Heard}
use Rattle.dm_headers.specs.Standings as standings

-- where no account is told, it is as it was
pub record TellsHeard (heard : Heard) (account : Account) (wanted : standings.Heard) : Type 0 where
  pub code : heard.code ≡ wanted.code
  pub status : heard.status ≡ wanted.status
  pub standing : heard.standing ≡ wanted.standing
  pub account_is : unwrap_or heard.account account ≡ wanted.account
  pub second : heard.second ≡ wanted.second
