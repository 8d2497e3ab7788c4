-- What an end may meet: names, limits and messages with which all that it makes fits into messages.
use Rattle.std.specs.Prelude.{◌≡◌, ◌<◌, ◌≤◌, ◌^◌, ℕ, List, length, get_or, ⊤, IsTrue, IfSome, Result, Ok, Err}
use Rattle.dm_base.specs.Fields.{is_short}
use Rattle.dm_base.specs.Limits.{object_limit}
use Rattle.dm_base.specs.declared.values.Limits.{Limits}
use Rattle.syncml_types.specs.Message.{Parts}
use Rattle.syncml_types.specs.Fitness.{IsFit}
use Rattle.syncml_codec.specs.Ranges.{AreNumbers}
use Rattle.wbxml_tokens.specs.declared.reason.Refusal.{Refusal}
use Rattle.dm_auth.specs.declared.accounts.Account.{Account}

-- names of at most 64 bytes
pub record IsReadyAccount (a : Account) : Type 0 where
  pub server : IsTrue (is_short a.server)
  pub user : IfSome a.user (λ name. IsTrue (is_short name))

pub record IsReadyLimits (limits : Limits) : Type 0 where
  pub max_msg : limits.max_msg < 2 ^ 32
  pub max_obj : limits.max_obj ≤ object_limit

-- a message that can be held, and a nonce of sixteen bytes
pub record IsReadyMessage (m : Parts) (nonce : List ℕ) : Type 0 where
  pub fit : IsFit m.header m.body
  pub numbers : AreNumbers m
  pub nonce_long : length nonce ≡ 16
  pub nonce_bytes : (k : ℕ) → k < 16 → get_or nonce k 0 < 256

abbrev pub IsReadyRead : Result Parts Refusal → List ℕ → Type 0
IsReadyRead (Ok m) nonce = IsReadyMessage m nonce
IsReadyRead (Err refusal) nonce = ⊤
