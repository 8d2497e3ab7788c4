-- What both ends make by themselves has its numbers in the ranges of their types: headers, the Statuses of headers, and
-- farewells.
use Rattle.std.proofs.Common.{◌<◌, ◌+◌, ◌^◌, ℕ, Bool, true, false, List, [], ◌∷◌, ◌++◌, Option, None, Some, IfSome}
use Rattle.std.proofs.Common.{arith, if◌then◌else◌}
use Rattle.std.specs.List.{AllByRecursion}
use Rattle.dm_base.specs.declared.values.Limits.{Limits}
use Rattle.syncml_types.specs.declared.values.Header.{Header}
use Rattle.syncml_types.specs.declared.values.Loc.{Loc}
use Rattle.syncml_types.specs.Message.{Parts}
use Rattle.syncml_codec.specs.Ranges.{MetaRange, CredRange, HeaderRange, CommandRange}
use Rattle.dm_auth.specs.Digests.{challenge}
use Rattle.dm_headers.specs.declared.standings.Standing.{Standing}
use Rattle.dm_headers.specs.Checks.{Login, is_challenged}
use Rattle.dm_headers.specs.Headers.{is_withheld, status_of, header_answer, credential_shown, cred_of, next_header}
use Rattle.dm_pack.specs.Filling.{IsReadyHeader}
use Rattle.dm_ends.specs.Commands.{alert}
use Rattle.dm_ends.specs.Farewells.{farewell}
use Rattle.dm_ends.specs.Ready.{IsReadyLimits, IsReadyMessage}
use Rattle.dm_ends.proofs.Answers.{nonce_is}
use Rattle.dm_ends.proofs.ShortFarewells.{farewell_fit, farewell_short}
use Rattle.dm_ends.proofs.Texts.{known_number}
use Rattle.dm_world.proofs.Ranges.{all-append, IsShortHeld, made-held}

-- ---- a header

shown-range : (name password : Option (List ℕ)) (nonce : List ℕ) → IfSome (credential_shown name password nonce) CredRange
shown-range None password nonce = tt
shown-range (Some name) None nonce = tt
shown-range (Some name) (Some password) nonce = record { size = tt; max_msg = tt; max_obj = tt }

cred-range : (login : Login) (welcomed : Bool) → IfSome (cred_of login welcomed) CredRange
cred-range login true = tt
cred-range login false = shown-range login.name login.password login.nonce

pub header-range : (login : Login) (s : Standing) (limits : Limits) (session : ℕ) (target source : Loc)
    → s.own + 1 < 2 ^ 32 → IsReadyLimits limits
    → HeaderRange (next_header login s limits session target source)
unfolding next_header
header-range login s limits session target source low ready =
    let message = ready.max_msg in
    let object = ready.max_obj in
    record {
      msg = low;
      cred = cred-range login s.welcomed;
      meta = record { size = tt; max_msg = omega (arith, message); max_obj = omega (arith, object) };
    }

-- ---- the Status of a header

chal-range : (asks : Bool) (nonce : List ℕ) → IfSome (if asks then Some (challenge nonce) else None) MetaRange
chal-range true nonce = record { size = tt; max_msg = tt; max_obj = tt }
chal-range false nonce = tt

answer-unless : (withheld : Bool) (h : Header) (code : ℕ) (nonce : List ℕ) → h.msg < 2 ^ 32 → code < 2 ^ 32
    → AllByRecursion CommandRange (if withheld then [] else status_of h code nonce ∷ [])
answer-unless true h code nonce msg low = tt
answer-unless false h code nonce msg low = (
  record {
    id = omega arith;
    msg_ref = msg;
    cmd_ref = omega arith;
    code = low;
    chal = chal-range (is_challenged code) nonce;
    items = tt;
  },
  tt,
)

pub answer-range : (h : Header) (code : ℕ) (nonce : List ℕ) → h.msg < 2 ^ 32 → code < 2 ^ 32
    → AllByRecursion CommandRange (header_answer h code nonce)
unfolding header_answer
answer-range h code nonce msg low = answer-unless (is_withheld h code) h code nonce msg low

-- ---- a farewell

pub farewell-held : (own : Header) (m : Parts) (code : ℕ) (nonce : List ℕ) → IsReadyHeader own → HeaderRange own
    → IsReadyMessage m nonce → code < 2 ^ 32
    → IsShortHeld (farewell own m code nonce)
farewell-held own m code nonce ready range is low =
    let msg = is.numbers.header.msg in
    let sixteen = nonce_is nonce is.nonce_long is.nonce_bytes in
    let short = farewell_short own m code nonce ready msg low sixteen in
    made-held own (header_answer m.header code nonce ++ alert 1223 None [] ∷ []) true range
    (farewell_fit own m code nonce ready (known_number m is.fit) msg low sixteen)
    (all-append CommandRange (header_answer m.header code nonce) (alert 1223 None [] ∷ [])
    (answer-range m.header code nonce msg low) (record { id = omega arith; code = omega arith; items = tt }, tt))
    (omega (arith, short))
