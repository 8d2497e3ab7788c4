-- The bytes before the first refusal of the reader, and the tokens that are read of them.
use Rattle.std.proofs.Common.{ℕ, ◌≡◌, ◌<◌, ◌≤◌, List, [], ◌∷◌, ◌++◌, length, take, drop, refl, sym, ap, ◌∙◌, subst}
use Rattle.std.proofs.Common.{arith, append_assoc, inl, inr}
use Rattle.std.proofs.lemmas.List.{append-nil, length-drop, length-take-le}
use Rattle.std.proofs.lemmas.Bool.{cases_lt}
use Rattle.std.specs.Prelude.{◌==◌, Bool, true, false, if◌then◌else◌, Option, Some, None}
use Rattle.wbxml_tokens.specs.declared.reason.Reason.{Reason}
use Rattle.wbxml_tokens.specs.declared.reason.Reason.TheVariants as reasons
use Rattle.wbxml_tokens.specs.declared.reason.Refusal.{Refusal}
use Rattle.wbxml_tokens.specs.declared.token.Placed.{Placed}
use Rattle.wbxml_tokens.specs.declared.extent.Extent.{Extent}
use Rattle.wbxml_tokens.specs.Fronts.{Front, more, wrong, head, switch, token}
use Rattle.wbxml_tokens.specs.Reading.{Reader, Reading, first_reader, begun_by, most_bytes, taken_by, is_whole, found}
use Rattle.wbxml_tokens.specs.Reading.{met}
use Rattle.wbxml_tokens.specs.Reading.{limit, step_byte, step_from, step_within, reads, reading}
use Rattle.wbxml_tokens.specs.Spelled.{SpellsTokens, none, switch as a_switch, token as a_token}
use Rattle.wbxml_tokens.proofs.Steps.{reads-append, stays}
use Rattle.wbxml_tokens.proofs.Turns.{reads-told}
use Rattle.wbxml_tokens.proofs.Beyond.{takes_all, limit_refuses, in_two}

pub some_not_none : (f : Refusal) → Some f ≡ None → ⊥
some_not_none f e = cc

refused_none : (x : Reading) (f : Refusal) → x.refused ≡ Some f → x.refused ≡ None → ⊥
refused_none x f is is_none = some_not_none f (sym is ∙ is_none)

-- ---- a refusal adds no token

met_adds_none : (x : Reading) (bytes : List ℕ) (part : Front) (f : Refusal) → x.refused ≡ None
    → (met x bytes part).refused ≡ Some f → (met x bytes part).tokens ≡ x.tokens
met_adds_none x bytes more f going h = refl
met_adds_none x bytes (wrong at reason) f going h = refl
met_adds_none x bytes (head table used) f going h = absurd (refused_none x f h going)
met_adds_none x bytes (switch page) f going h = absurd (refused_none x f h going)
met_adds_none x bytes (token t used) f going h = absurd (refused_none x f h going)

within_adds_none : (x : Reading) (b : ℕ) (o : Option Reason) (f : Refusal) → x.refused ≡ None
    → (step_within o x b).refused ≡ Some f → (step_within o x b).tokens ≡ x.tokens
within_adds_none x b (Some reason) f going h = refl
within_adds_none x b None f going h =
    met_adds_none x (x.reader.held ++ b ∷ []) (found x.reader (x.reader.held ++ b ∷ [])) f going h

from_adds_none : (x : Reading) (b : ℕ) (o : Option Refusal) (f : Refusal) → x.refused ≡ o → o ≡ None
    → (step_from o x b).refused ≡ Some f → (step_from o x b).tokens ≡ x.tokens
from_adds_none x b (Some g) f is going h = refl
from_adds_none x b None f is going h = within_adds_none x b (limit x.reader) f is h

-- ---- the front

-- bytes of which none is refused, and of which the same tokens are read as of all
pub record HasFront (x : Reading) (bytes : List ℕ) : Type 0 where
  pub front : List ℕ
  pub rest : List ℕ
  pub split : bytes ≡ front ++ rest
  pub sound : (reads x front).refused ≡ None
  pub tokens : (reads x front).tokens ≡ (reads x bytes).tokens

front_by : (x : Reading) (b : ℕ) (bytes : List ℕ) (o : Option Refusal) → x.refused ≡ None → (step_byte x b).refused ≡ o
    → ((step_byte x b).refused ≡ None → HasFront (step_byte x b) bytes) → HasFront x (b ∷ bytes)
unfolding reads
front_by x b bytes None going is later =
    let h : HasFront (step_byte x b) bytes = later is in
    record { front = b ∷ h.front; rest = h.rest; split = ap (λ l. b ∷ l) h.split; sound = h.sound; tokens = h.tokens }
front_by x b bytes (Some f) going is later = record {
  front = [];
  rest = b ∷ bytes;
  split = refl;
  sound = going;
  tokens = sym (ap (λ y. y.tokens) (stays (step_byte x b) f bytes is) ∙ from_adds_none x b x.refused f refl going is);
}

pub front_of : (bytes : List ℕ) (x : Reading) → x.refused ≡ None → HasFront x bytes
unfolding reads
front_of [] x going = record { front = []; rest = []; split = refl; sound = going; tokens = refl }
front_of (b ∷ bytes) x going = front_by x b bytes (step_byte x b).refused going refl (front_of bytes (step_byte x b))

-- ---- bytes of which none is refused are no more than a document may have

limit_of : (r : Reader) (whole : Bool) → is_whole r.extent ≡ whole → taken_by r ≡ most_bytes
    → (reason : Reason) × (limit r ≡ Some reason)
limit_of r true is full = (
  reasons.Trailing,
  ap (λ (c : Bool). if c then Some reasons.Trailing else if taken_by r == most_bytes then Some reasons.Toolong
      else None) is,
)
limit_of r false is full = (
  reasons.Toolong,
  ap (λ (c : Bool). if c then Some reasons.Trailing else if taken_by r == most_bytes then Some reasons.Toolong
      else None) is
      ∙ ap (λ (c : Bool). if c then Some reasons.Toolong else None) at_most,
)
  where
    at_most : (taken_by r == most_bytes) ≡ true
    at_most = grind arith

sound_before : (x : Reading) (bytes : List ℕ) (o : Option Refusal) → x.refused ≡ o → (reads x bytes).refused ≡ None
    → x.refused ≡ None
sound_before x bytes None is h = is
sound_before x bytes (Some f) is h = absurd (refused_none x f is (ap (λ y. y.refused) (sym (stays x f bytes is)) ∙ h))

refused_beyond : (bytes : List ℕ) → most_bytes < length bytes → (reading bytes).refused ≡ None → ⊥
refused_beyond bytes long sound =
    let x : Reading = reading (take most_bytes bytes) in
    let split : reading bytes ≡ reads x (drop most_bytes bytes) = in_two (begun_by first_reader) most_bytes bytes in
    let early : x.refused ≡ None =
    sound_before x (drop most_bytes bytes) x.refused refl (sym (ap (λ y. y.refused) split) ∙ sound) in
    let full : taken_by x.reader ≡ most_bytes =
    omega (
      arith,
      takes_all (take most_bytes bytes) (begun_by first_reader) early,
      length-take-le most_bytes bytes (omega (arith, long)),
    ) in
    let why = limit_of x.reader (is_whole x.reader.extent) refl full in
    let stopped =
    limit_refuses x why.0 most_bytes (drop most_bytes bytes) early why.1 full
    (omega (arith, long, length-drop most_bytes bytes)) in
    some_not_none (record { at = most_bytes; reason = why.0 }) (sym (ap (λ y. y.refused) (split ∙ stopped)) ∙ sound)

pub sound_within : (bytes : List ℕ) → (reading bytes).refused ≡ None → length bytes ≤ most_bytes
sound_within bytes sound = elim (cases_lt most_bytes (length bytes)) [
  | inl long ↦ absurd (refused_beyond bytes long sound)
  | inr short ↦ short
]

-- ---- more bytes only add tokens

pub read_more : (bytes later : List ℕ)
    → (tokens : List Placed) × ((reading (bytes ++ later)).tokens ≡ (reading bytes).tokens ++ tokens)
read_more bytes later =
    let x : Reading = reading bytes in (
      (reads (record x { tokens = [] }) later).tokens,
      ap (λ y. y.tokens) (reads-append (begun_by first_reader) bytes later)
          ∙ ap (λ t. (reads (record x { tokens = t }) later).tokens) (sym (append-nil x.tokens))
          ∙ ap (λ y. y.tokens) (reads-told x.tokens (record x { tokens = [] }) later),
    )

pub refused_more : (bytes later : List ℕ) (f : Refusal) → (reading bytes).refused ≡ Some f
    → reading (bytes ++ later) ≡ reading bytes
refused_more bytes later f is = reads-append (begun_by first_reader) bytes later ∙ stays (reading bytes) f later is

-- ---- the bytes of the first tokens

-- what spells tokens begins with what spells the first of them
pub record BeginsWith (table : List ℕ) (page at : ℕ) (extent : Extent) (first : List Placed) (bytes : List ℕ) :
    Type 0 where
  pub body : List ℕ
  pub rest : List ℕ
  pub last : ℕ
  pub end : Extent
  pub split : bytes ≡ body ++ rest
  pub spells : SpellsTokens table page at extent first body last end

pub begins_with : {table : List ℕ} {page at last : ℕ} {extent end : Extent} {tokens : List Placed} {bytes : List ℕ}
    → SpellsTokens table page at extent tokens bytes last end
    → (first later : List Placed) → tokens ≡ first ++ later → BeginsWith table page at extent first bytes
begins_with {page = page} {extent = extent} none [] later is =
    record { body = []; rest = []; last = page; end = extent; split = refl; spells = none }
begins_with none (p ∷ first) later is = cc
begins_with (a_switch {other = other} {bytes = bytes} open_ low rest) first later is =
    let b = begins_with rest first later is in
    record {
      body = 0x00 ∷ other ∷ b.body;
      rest = b.rest;
      last = b.last;
      end = b.end;
      split = ap (λ l. 0x00 ∷ other ∷ l) b.split;
      spells = a_switch open_ low b.spells;
    }
begins_with {page = page} {extent = extent} (a_token t front rest bytes open_ spelt next whole) [] later is =
    record { body = []; rest = bytes; last = page; end = extent; split = refl; spells = none }
begins_with {table} {page} {at} {extent = extent} (a_token {tokens = tokens} t front rest bytes open_ spelt next whole)
    (p ∷ first) later is =
    let b = begins_with next first later (tail_is (record { at = at; token = t }) p tokens (first ++ later) is) in
    subst (λ (q : Placed). BeginsWith table page at extent (q ∷ first) bytes)
    (head_is (record { at = at; token = t }) p tokens (first ++ later) is)
    (record {
      body = front ++ b.body;
      rest = b.rest;
      last = b.last;
      end = b.end;
      split = whole ∙ ap (λ l. front ++ l) b.split ∙ sym (append_assoc front b.body b.rest);
      spells = a_token t front b.body (front ++ b.body) open_ spelt b.spells refl;
    })
  where
    head_is : (a b : Placed) (as' bs : List Placed) → a ∷ as' ≡ b ∷ bs → a ≡ b
    head_is a b as' bs e = cc

    tail_is : (a b : Placed) (as' bs : List Placed) → a ∷ as' ≡ b ∷ bs → as' ≡ bs
    tail_is a b as' bs e = cc
