-- What the fields of a line say.
use Rattle.std.specs.Prelude.{◌&&◌, ℕ, Bool, IsTrue, if◌then◌else◌, nat_le, List, [], ◌∷◌, bytes_eq, codes}
use Rattle.std.specs.Prelude.{Option, Some, None, IfSome, unwrap_or}
use Rattle.dm_base.specs.Limits.{least_room, message_limit, object_limit}
use Rattle.dm_base.specs.Fields.{field_of, is_short, is_id, is_key, hex_of, num_of}
use Rattle.dm_base.specs.declared.values.Limits.{Limits}
use Rattle.dm_auth.specs.declared.accounts.Account.{Account}

abbrev pub first_word : List ℕ → List ℕ
first_word line = unwrap_or (field_of line 0) []

abbrev pub begins_with : List ℕ → List ℕ → Bool
begins_with word line = bytes_eq (first_word line) word

-- ---- one field

-- OPT: a SHORT, or `-` for none
abbrev pub opt_of : List ℕ → Option (List ℕ)
opt_of text = if bytes_eq text (codes "-") then None else Some text

-- KEY: the bytes that it stands for
abbrev pub key_in : List ℕ → Option (List ℕ)
key_in text = if is_key text then hex_of text else None

-- ---- the fields of a line, its word first

abbrev pub are_limits : ℕ → ℕ → Bool
are_limits max_msg max_obj =
    nat_le least_room max_msg && nat_le max_msg message_limit && nat_le 1 max_obj && nat_le max_obj object_limit

abbrev pub limits_of : Option ℕ → Option ℕ → Option Limits
limits_of None max_obj = None
limits_of (Some max_msg) None = None
limits_of (Some max_msg) (Some max_obj) =
    if are_limits max_msg max_obj then Some (record { max_msg = max_msg; max_obj = max_obj }) else None

-- `limits NUM NUM`
abbrev pub limits_in : List (List ℕ) → Option Limits
limits_in (word ∷ max_msg ∷ max_obj ∷ []) = limits_of (num_of max_msg) (num_of max_obj)
limits_in other = None

abbrev pub account_of : List ℕ → List ℕ → Option (List ℕ) → List ℕ → List ℕ → Option (List ℕ) → Option Account
account_of server password None user user_password user_nonce = None
account_of server password (Some nonce) user user_password None = None
account_of server password (Some nonce) user user_password (Some user_nonce) = Some (record {
  server = server;
  server_password = opt_of password;
  server_nonce = nonce;
  user = opt_of user;
  user_password = opt_of user_password;
  user_nonce = user_nonce;
})

-- `account ID OPT KEY OPT OPT KEY`
abbrev pub account_in : List (List ℕ) → Option Account
account_in (word ∷ server ∷ password ∷ nonce ∷ user ∷ user_password ∷ user_nonce ∷ []) =
    if is_id server && is_short password && is_short user && is_short user_password
    then account_of server password (key_in nonce) user user_password (key_in user_nonce)
    else None
account_in other = None

-- the names of an account have the forms of their fields
pub record IsAccount (a : Account) : Type 0 where
  pub server : IsTrue (is_id a.server)
  pub server_password : IfSome a.server_password (λ text. IsTrue (is_short text))
  pub user : IfSome a.user (λ text. IsTrue (is_short text))
  pub user_password : IfSome a.user_password (λ text. IsTrue (is_short text))
