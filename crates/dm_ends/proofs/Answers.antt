-- The Status of a header can be sent, and is short.
use Rattle.std.proofs.Common.{◌≡◌, ◌<◌, ◌^◌, ℕ, zero, suc, Bool, true, false, List, [], ◌∷◌, length, codes, get_or, map}
use Rattle.std.proofs.Common.{Option, Some, None, refl, arith, if◌then◌else◌}
use Rattle.std.specs.List.{AllByRecursion}
use Rattle.wbxml_tables.specs.declared.Element.TheVariants.{EChal, ECmd, ECmdID, ECmdRef, EData, EFormat, EMeta}
use Rattle.wbxml_tables.specs.declared.Element.TheVariants.{EMsgRef, ENextNonce, EStatus, EType}
use Rattle.syncml_types.specs.declared.values.Meta.{Meta}
use Rattle.syncml_types.specs.declared.values.Header.{Header}
use Rattle.syncml_types.specs.Canonical.{optional, meta_tokens, chal_tokens, items_tokens, texts_tokens, status_tokens}
use Rattle.syncml_types.specs.Canonical.{command_tokens}
use Rattle.syncml_parts.specs.Numbering.{with_numbers}
use Rattle.dm_auth.specs.Digests.{base64_of, challenge}
use Rattle.dm_headers.specs.Checks.{is_challenged}
use Rattle.dm_headers.specs.Headers.{is_withheld, status_of, header_answer}
use Rattle.dm_pack.specs.Entries.{IsReady, whole_entry}
use Rattle.dm_pack.specs.Laws.{IsShortStatus}
use Rattle.dm_pack.proofs.Most.{Most, none, most_append, most_parent, most_element, most_text, most_number}
use Rattle.dm_pack.proofs.Ready.{IsChal, status_ready}
use Rattle.dm_ends.proofs.Texts.{AreBytes, base64_text, literal}

-- ---- a nonce

-- sixteen bytes
pub record IsNonce (nonce : List ℕ) : Type 0 where
  pub long : length nonce ≡ 16
  pub bytes : AreBytes nonce

bytes_are : (xs : List ℕ) (n : ℕ) → length xs ≡ n → ((k : ℕ) → k < n → get_or xs k 0 < 256) → AreBytes xs
bytes_are [] n long at = tt
bytes_are (x ∷ xs) zero long at = absurd (omega (arith, long))
bytes_are (x ∷ xs) (suc n) long at =
    (at 0 (omega arith), bytes_are xs n (omega (arith, long)) (λ k low. at (suc k) (omega (arith, low))))

pub nonce_is : (nonce : List ℕ) → length nonce ≡ 16 → ((k : ℕ) → k < 16 → get_or nonce k 0 < 256) → IsNonce nonce
nonce_is nonce long at = record { long = long; bytes = bytes_are nonce 16 long at }

-- ---- a challenge

abbrev asked : ℕ → List ℕ → Option Meta
asked code nonce = if is_challenged code then Some (challenge nonce) else None

challenge_is : (asks : Bool) (nonce : List ℕ) → IsNonce nonce → IsChal (if asks then Some (challenge nonce) else None)
challenge_is true nonce is = record {
  format = codes "b64";
  media = codes "syncml:auth-md5";
  nonce = base64_of nonce;
  is = refl;
  format_text = literal 20 (codes "b64") refl (omega arith);
  media_text = literal 40 (codes "syncml:auth-md5") refl (omega arith);
  nonce_text =
      let text = base64_text nonce is.bytes is.long in
      let few = text.few in
      record { text = text.text; few = omega (arith, few) };
}
challenge_is false nonce is = tt

challenge_most : (asks : Bool) (nonce : List ℕ) → IsNonce nonce
    → Most 68 (optional chal_tokens (if asks then Some (challenge nonce) else None))
unfolding chal_tokens meta_tokens
challenge_most true nonce is =
    let text = base64_text nonce is.bytes is.long in
    let meta = most_element _ EMeta
    (most_append (most_append (most_append (most_append (most_append (most_append (most_append
    (most_text 3 EFormat (codes "b64") (omega arith))
    (most_text 15 EType (codes "syncml:auth-md5") (omega arith))) none)
    (most_text 24 ENextNonce (base64_of nonce) text.few)) none) none) none) none) in
    let inside = most_parent EChal meta in
    record { at = λ p. let most = inside.at p in omega (arith, most) }
challenge_most false nonce is = record { at = λ p. omega arith }

-- ---- the Status

pub status_most : (h : Header) (code : ℕ) (nonce : List ℕ) → h.msg < 2 ^ 32 → code < 2 ^ 32 → IsNonce nonce
    → Most 250 (command_tokens (with_numbers 1 (status_of h code nonce)))
unfolding command_tokens with_numbers status_tokens texts_tokens items_tokens
status_most h code nonce msg low is =
    let inside = most_append (most_append (most_append (most_append (most_append (most_append (most_append (most_append
    (most_number ECmdID 1 (omega arith)) (most_number EMsgRef h.msg msg)) (most_number ECmdRef 0 (omega arith)))
    (most_text 7 ECmd (codes "SyncHdr") (omega arith)))
    none) none) (challenge_most (is_challenged code) nonce is)) (most_number EData code low)) none in
    record { at = λ p. let most = (most_parent EStatus inside).at p in omega (arith, most) }

header_status_ready : (h : Header) (code : ℕ) (nonce : List ℕ) → 0 < h.msg → h.msg < 2 ^ 32 → code < 2 ^ 32
    → IsNonce nonce → IsReady (whole_entry (status_of h code nonce))
header_status_ready h code nonce some msg low is =
    status_ready h.msg 0 (codes "SyncHdr") [] (asked code nonce) code some msg (omega arith)
    (literal 20 (codes "SyncHdr") refl (omega arith)) tt
    (challenge_is (is_challenged code) nonce is) low

ready_unless : (withheld : Bool) (h : Header) (code : ℕ) (nonce : List ℕ) → 0 < h.msg → h.msg < 2 ^ 32 → code < 2 ^ 32
    → IsNonce nonce → AllByRecursion IsReady (map whole_entry (if withheld then [] else status_of h code nonce ∷ []))
ready_unless true h code nonce some msg low is = tt
ready_unless false h code nonce some msg low is = (header_status_ready h code nonce some msg low is, tt)

pub answer_ready : (h : Header) (code : ℕ) (nonce : List ℕ) → 0 < h.msg → h.msg < 2 ^ 32 → code < 2 ^ 32 → IsNonce nonce
    → AllByRecursion IsReady (map whole_entry (header_answer h code nonce))
unfolding header_answer
answer_ready h code nonce some msg low is = ready_unless (is_withheld h code) h code nonce some msg low is

short_unless : (withheld : Bool) (h : Header) (code : ℕ) (nonce : List ℕ) → h.msg < 2 ^ 32 → code < 2 ^ 32
    → IsNonce nonce → AllByRecursion IsShortStatus (map whole_entry (if withheld then [] else status_of h code nonce ∷ []))
short_unless true h code nonce msg low is = tt
short_unless false h code nonce msg low is = ((status_most h code nonce msg low is).at 0, tt)

-- at most 250 bytes
pub answer_short : (h : Header) (code : ℕ) (nonce : List ℕ) → h.msg < 2 ^ 32 → code < 2 ^ 32 → IsNonce nonce
    → AllByRecursion IsShortStatus (map whole_entry (header_answer h code nonce))
unfolding header_answer
answer_short h code nonce msg low is = short_unless (is_withheld h code) h code nonce msg low is
