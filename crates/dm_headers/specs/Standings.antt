-- How the two ends of a session stand to each other, and what a message changes of it.
use Rattle.std.specs.Prelude.{◌==◌, ◌&&◌, ◌||◌, ℕ, Bool, List, None, Some, option_and_then, nat_lt, if◌then◌else◌}
use Rattle.std.specs.Option.{option_map_or}
use Rattle.dm_base.specs.Limits.{least_room, message_limit}
use Rattle.syncml_types.specs.declared.values.Header.{Header}
use Rattle.syncml_types.specs.declared.values.Meta.{Meta}
use Rattle.syncml_types.specs.Message.{Parts}
use Rattle.dm_auth.specs.declared.accounts.Account.{Account}
use Rattle.dm_headers.specs.declared.checks.Side.{Side}
use Rattle.dm_headers.specs.declared.standings.Standing.{Standing}
use Rattle.dm_headers.specs.Checks.{login_of, with_both, header_code, is_challenged, is_denied, passes, status_read}
use Rattle.dm_headers.specs.Checks.{code_read, nonce_in}

-- a room that is told counts from 2,048 to 65,536
abbrev pub room_told : ℕ → ℕ
room_told told =
    if nat_lt told least_room then least_room else if nat_lt message_limit told then message_limit else told

-- the last room that a message told
abbrev pub room_after : ℕ → Header → ℕ
room_after room h = option_map_or room_told (option_and_then (λ (m : Meta). m.max_msg) h.meta) room

abbrev pub standing_after : Standing → Parts → ℕ → ℕ → Standing
standing_after s m code status = record {
  last = m.header.msg;
  own = s.own;
  heard = s.heard || m.last;
  room = room_after s.room m.header;
  they_failed = s.they_failed || is_denied code;
  we_failed = s.we_failed || is_denied status;
  accepted = s.accepted || passes code;
  welcomed = s.welcomed || status == 212;
}

-- a second failure of the side whose message this is, or one that it tells of the other side
abbrev pub is_second : Standing → ℕ → ℕ → Bool
is_second s code status = (s.they_failed && is_denied code) || (s.we_failed && is_denied status)

-- what a message's header comes to
pub record Heard : Type 0 where
  -- its code
  pub code : ℕ
  -- the code of the Status that is read in it for the last message's header; 0 where none is
  pub status : ℕ
  pub standing : Standing
  -- with the nonces to use next
  pub account : Account
  pub second : Bool

-- of a message of `theirs`, where a challenge tells `nonce`
unfoldable pub hears : Side → Account → Standing → Parts → List ℕ → Heard
hears theirs a s m nonce =
    let code = header_code s.accepted (login_of theirs a) m in
    let read = status_read s.own m in
    record {
      code = code;
      status = code_read read;
      standing = standing_after s m code (code_read read);
      account = with_both theirs (if is_challenged code then Some nonce else None) (nonce_in read) a;
      second = is_second s code (code_read read);
    }
