-- What an end says of a header, and in its own.
use Rattle.std.specs.Prelude.{◌+◌, ◌&&◌, ℕ, Bool, false, not, if◌then◌else◌, List, [], ◌∷◌, codes, Option, None, Some}
use Rattle.std.specs.Fmt.{decimal}
use Rattle.dm_base.specs.declared.values.Limits.{Limits}
use Rattle.syncml_types.specs.declared.values.Cred.{Cred}
use Rattle.syncml_types.specs.declared.values.Header.{Header}
use Rattle.syncml_types.specs.declared.values.Loc.{Loc}
use Rattle.syncml_types.specs.declared.values.Meta.{Meta}
use Rattle.syncml_types.specs.declared.command.Command.{Command}
use Rattle.syncml_types.specs.declared.command.Command.TheVariants as command
use Rattle.syncml_types.specs.Message.{no_meta}
use Rattle.dm_auth.specs.Digests.{credential, challenge}
use Rattle.dm_headers.specs.declared.standings.Standing.{Standing}
use Rattle.dm_headers.specs.Checks.{Login, is_challenged, is_denied}

-- ---- the Status of a header

-- NoResp in the header suppresses it, but where it asks for a credential
abbrev pub is_withheld : Header → ℕ → Bool
is_withheld h code = h.no_resp && not (is_denied code)

abbrev pub status_of : Header → ℕ → List ℕ → Command
status_of h code nonce = command.Status (record {
  id = 0;
  msg_ref = h.msg;
  cmd_ref = 0;
  cmd = codes "SyncHdr";
  target_refs = [];
  source_refs = [];
  chal = if is_challenged code then Some (challenge nonce) else None;
  code = code;
  items = [];
})

-- the entries that tell a header's code
unfoldable pub header_answer : Header → ℕ → List ℕ → List Command
header_answer h code nonce = if is_withheld h code then [] else status_of h code nonce ∷ []

-- ---- a header of one's own

-- a side without a password shows no credential
abbrev pub credential_shown : Option (List ℕ) → Option (List ℕ) → List ℕ → Option Cred
credential_shown (Some name) (Some password) nonce = Some (credential name password nonce)
credential_shown (Some name) None nonce = None
credential_shown None password nonce = None

-- it stands in each message until the other end accepted one
abbrev pub cred_of : Login → Bool → Option Cred
cred_of login welcomed = if welcomed then None else credential_shown login.name login.password login.nonce

abbrev pub limits_meta : Limits → Meta
limits_meta limits = record no_meta { max_msg = Some limits.max_msg; max_obj = Some limits.max_obj }

-- the header of the next message
unfoldable pub next_header : Login → Standing → Limits → ℕ → Loc → Loc → Header
next_header login s limits session target source = record {
  dtd = codes "1.2";
  proto = codes "DM/1.2";
  session = decimal session;
  msg = s.own + 1;
  target = target;
  source = source;
  resp_uri = None;
  no_resp = false;
  cred = cred_of login s.welcomed;
  meta = Some (limits_meta limits);
}
