-- Credentials of the type `syncml:auth-md5` (SyncML representation protocol, "MD5 digest").
use Rattle.std.specs.Prelude.{◌&&◌, ℕ, Bool, true, false, if◌then◌else◌, List, ◌∷◌, ◌++◌, codes, bytes_eq, Option, Some}
use Rattle.std.specs.Prelude.{None}
use Rattle.std.specs.Result.{result_ok}
use Rattle.md5.specs.Md5.{md5}
use Rattle.base64.specs.Engines.{standard}
use Rattle.base64.specs.GeneralPurpose.{encode_of, decode_of}
use Rattle.syncml_types.specs.declared.values.Meta.{Meta}
use Rattle.syncml_types.specs.declared.values.Cred.{Cred}
use Rattle.syncml_types.specs.Message.{no_meta}
use Rattle.dm_auth.specs.declared.credentials.Verdict.{Verdict}
use Rattle.dm_auth.specs.declared.credentials.Verdict.TheVariants.{Missing, Accepted, Wrong}

-- the base64 text of bytes, with padding
abbrev pub base64_of : List ℕ → List ℕ
base64_of bytes = encode_of standard bytes

-- the bytes of a base64 text; none where padding is missing or spare bits aren't zero
abbrev pub decoded_nonce : List ℕ → Option (List ℕ)
decoded_nonce text = result_ok (decode_of standard text)

-- MD5 of the text of MD5 of `user:password`, a colon and the nonce
abbrev pub digest_of : List ℕ → List ℕ → List ℕ → List ℕ
digest_of user password nonce = md5 (base64_of (md5 (user ++ 58 ∷ password)) ++ 58 ∷ nonce)

-- the text is there, and is this
abbrev pub is_this : List ℕ → Option (List ℕ) → Bool
is_this wanted None = false
is_this wanted (Some text) = bytes_eq text wanted

-- the text is this, where it is there
abbrev pub is_this_or_none : List ℕ → Option (List ℕ) → Bool
is_this_or_none wanted None = true
is_this_or_none wanted (Some text) = bytes_eq text wanted

-- the Type is `syncml:auth-md5`, and the Format `b64` or absent
abbrev pub is_md5_meta : Option Meta → Bool
is_md5_meta None = false
is_md5_meta (Some meta) = is_this (codes "syncml:auth-md5") meta.media && is_this_or_none (codes "b64") meta.format

-- what a credential comes to
abbrev pub verdict : List ℕ → List ℕ → List ℕ → Option Cred → Verdict
verdict user password nonce None = Missing
verdict user password nonce (Some cred) =
    if is_md5_meta cred.meta && bytes_eq cred.value (base64_of (digest_of user password nonce)) then Accepted else Wrong

-- Format `b64` and Type `syncml:auth-md5`, and a nonce to use next or none
abbrev pub md5_meta : Option (List ℕ) → Meta
md5_meta next = record no_meta {
  format = Some (codes "b64");
  media = Some (codes "syncml:auth-md5");
  next_nonce = next;
}

-- what a sender shows
abbrev pub credential : List ℕ → List ℕ → List ℕ → Cred
credential user password nonce =
    record { meta = Some (md5_meta None); value = base64_of (digest_of user password nonce) }

-- what the other end is asked to use next
abbrev pub challenge : List ℕ → Meta
challenge nonce = md5_meta (Some (base64_of nonce))
