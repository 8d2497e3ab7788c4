-- What a message's header comes to: a code of 32 bits, an account of the same names, and a room in its range.
use Rattle.std.proofs.Common.{◌≡◌, ◌<◌, ◌≤◌, ◌^◌, ℕ, Bool, true, false, List, Option, Some, None, IfSome, refl, arith}
use Rattle.std.proofs.Common.{if◌then◌else◌}
use Rattle.std.specs.Prelude.{nat_lt, unwrap_or, option_and_then}
use Rattle.std.specs.Option.{option_map_or}
use Rattle.std.proofs.lemmas.Bool.{ltb-false}
use Rattle.syncml_types.specs.declared.values.Cred.{Cred}
use Rattle.syncml_types.specs.declared.values.Meta.{Meta}
use Rattle.syncml_types.specs.Message.{Parts}
use Rattle.dm_auth.specs.declared.accounts.Account.{Account}
use Rattle.dm_auth.specs.declared.credentials.Verdict.{Verdict}
use Rattle.dm_auth.specs.declared.credentials.Verdict.TheVariants.{Missing, Accepted, Wrong}
use Rattle.dm_auth.specs.Digests.{verdict}
use Rattle.dm_headers.specs.declared.checks.Side.{Side}
use Rattle.dm_headers.specs.declared.checks.Side.TheVariants.{Server, User}
use Rattle.dm_headers.specs.declared.standings.Standing.{Standing}
use Rattle.dm_headers.specs.Checks.{Login, login_of, other, renewed, with_both, fault_of, verdict_code, judged}
use Rattle.dm_headers.specs.Checks.{judged_by, header_code}
use Rattle.dm_headers.specs.Standings.{room_told, Heard, hears}
use Rattle.dm_ends.specs.Ready.{IsReadyAccount}

-- ---- the code

verdict_low : (v : Verdict) → verdict_code v < 2 ^ 32
verdict_low Missing = omega arith
verdict_low Wrong = omega arith
verdict_low Accepted = omega arith

unless_low : (accepted : Bool) (v : Verdict) → (if accepted then 200 else verdict_code v) < 2 ^ 32
unless_low true v = omega arith
unless_low false v = verdict_low v

judged_low : (accepted : Bool) (name password : Option (List ℕ)) (nonce : List ℕ) (cred : Option Cred)
    → judged accepted name password nonce cred < 2 ^ 32
judged_low accepted None password nonce cred = omega arith
judged_low accepted (Some name) None nonce cred = omega arith
judged_low accepted (Some name) (Some password) nonce cred = unless_low accepted (verdict name password nonce cred)

fault_low : (dtd proto twins : Bool)
    → IfSome (if dtd then Some 505 else if proto then Some 513 else if twins then Some 400 else None)
    (λ code. code < 2 ^ 32)
fault_low true proto twins = omega arith
fault_low false true twins = omega arith
fault_low false false true = omega arith
fault_low false false false = tt

or_low : (fault : Option ℕ) (code : ℕ) → IfSome fault (λ code. code < 2 ^ 32) → code < 2 ^ 32
    → unwrap_or fault code < 2 ^ 32
or_low None code fault low = low
or_low (Some fault) code low other = low

code_low : (accepted : Bool) (login : Login) (m : Parts) → header_code accepted login m < 2 ^ 32
unfolding header_code
code_low accepted login m =
    or_low (fault_of m) (judged_by accepted login m.header.cred) (fault_low _ _ _)
    (judged_low accepted login.name login.password login.nonce m.header.cred)

-- ---- the account

renewed_ready : (side : Side) (nonce : Option (List ℕ)) (a : Account) → IsReadyAccount a
    → IsReadyAccount (renewed side nonce a)
renewed_ready side None a ready = ready
renewed_ready Server (Some nonce) a ready = record { server = ready.server; user = ready.user }
renewed_ready User (Some nonce) a ready = record { server = ready.server; user = ready.user }

both_ready : (theirs : Side) (asked told : Option (List ℕ)) (a : Account) → IsReadyAccount a
    → IsReadyAccount (with_both theirs asked told a)
both_ready theirs asked told a ready =
    renewed_ready theirs asked (renewed (other theirs) told a) (renewed_ready (other theirs) told a ready)

-- ---- the room

abbrev pub IsRoom : ℕ → Type 0
IsRoom room = (2048 ≤ room) × (room ≤ 65536)

low_room : (told : ℕ) (low high : Bool) → nat_lt told 2048 ≡ low → nat_lt 65536 told ≡ high
    → IsRoom (if low then 2048 else if high then 65536 else told)
low_room told true high a b = (omega arith, omega arith)
low_room told false true a b = (omega arith, omega arith)
low_room told false false a b = (ltb-false told 2048 a, ltb-false 65536 told b)

told_room : (told : Option ℕ) (room : ℕ) → IsRoom room → IsRoom (option_map_or room_told told room)
told_room None room is = is
told_room (Some told) room is = low_room told (nat_lt told 2048) (nat_lt 65536 told) refl refl

-- ---- the whole

pub record IsReadyHeard (s : Standing) (m : Parts) (h : Heard) : Type 0 where
  pub code : h.code < 2 ^ 32
  pub account : IsReadyAccount h.account
  pub last : h.standing.last ≡ m.header.msg
  pub own : h.standing.own ≡ s.own
  pub room : IsRoom h.standing.room

pub hears_ready : (theirs : Side) (a : Account) (s : Standing) (m : Parts) (nonce : List ℕ) → IsReadyAccount a
    → IsRoom s.room → IsReadyHeard s m (hears theirs a s m nonce)
unfolding hears
hears_ready theirs a s m nonce account room = record {
  code = code_low s.accepted (login_of theirs a) m;
  account = both_ready theirs _ _ a account;
  last = refl;
  own = refl;
  room = told_room (option_and_then (λ (meta : Meta). meta.max_msg) m.header.meta) s.room room;
}
