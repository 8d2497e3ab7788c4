-- What the first part of bytes gives to a taker.
use Rattle.std.proofs.Common.{ℕ, zero, suc, ◌≡◌, ◌<◌, ◌≤◌, ◌+◌, ◌-◌, List, [], ◌∷◌, ◌++◌, length, take, drop, refl, sym}
use Rattle.std.proofs.Common.{ap, ◌∙◌, subst, arith, append_assoc, inl, inr}
use Rattle.std.proofs.lemmas.List.{append-nil, take-append-le, take_all}
use Rattle.std.proofs.Math.Seq.{take-append-add, take-append_seam}
use Rattle.std.proofs.lemmas.Bool.{cases_lt}
use Rattle.std.specs.Prelude.{◌==◌, Bool, true, false, if◌then◌else◌, Option, Some, None, Result, Ok, Err, OnOk, IfOk}
use Rattle.wbxml_tokens.specs.declared.reason.Reason.{Reason}
use Rattle.wbxml_tokens.specs.declared.reason.Reason.TheVariants as reasons
use Rattle.wbxml_tokens.specs.declared.reason.Refusal.{Refusal}
use Rattle.wbxml_tokens.specs.declared.reason.FeedError.{FeedError}
use Rattle.wbxml_tokens.specs.declared.reason.FeedError.TheVariants as errors
use Rattle.wbxml_tokens.specs.declared.token.Placed.{Placed}
use Rattle.wbxml_tokens.specs.Fronts.{Front, more, wrong, head, switch, token, front, prologue_at}
use Rattle.wbxml_tokens.specs.Reading.{Reader, Reading, begun_by, most_bytes, depth_of, is_whole, taken_by, found}
use Rattle.wbxml_tokens.specs.Reading.{size_of, reader_behind, tokens_of, refuse, met, limit, step_within, step_from}
use Rattle.wbxml_tokens.specs.Reading.{step_byte}
use Rattle.wbxml_tokens.specs.Reading.{reads}
use Rattle.wbxml_tokens.specs.declared.spot.Spot.{Spot}
use Rattle.wbxml_tokens.specs.Parts.{reader_at, HasRoom}
use Rattle.wbxml_tokens.specs.Taking.{Taking, Stops, IsFirst, StopsAmong, RefusesPart, GivesPart, GivesFirst}
use Rattle.wbxml_tokens.specs.Taking.{PassesPart, told_before}
use Rattle.wbxml_tokens.specs.Taking.{taken_all, taken_one, ◌>>=◌}
use Rattle.wbxml_tokens.proofs.Settled.{Settles}
use Rattle.wbxml_tokens.proofs.Steps.{found_settled, walk, Walks, past, stays, IsPart, more_is_none}

-- ---- tokens before those of a reading

met_told : (ts : List Placed) (x : Reading) (bytes : List ℕ) (f : Front)
    → met (told_before ts x) bytes f ≡ told_before ts (met x bytes f)
met_told ts x bytes more = refl
met_told ts x bytes (wrong at reason) = refl
met_told ts x bytes (head table size) =
    ap (λ t. record {
      tokens = t;
      refused = x.refused;
      reader = record (reader_behind x.reader (head table size)) { held = drop size bytes };
    })
    (append_assoc ts x.tokens [])
met_told ts x bytes (switch page) =
    ap (λ t. record {
      tokens = t;
      refused = x.refused;
      reader = record (reader_behind x.reader (switch page)) { held = drop 2 bytes };
    })
    (append_assoc ts x.tokens [])
met_told ts x bytes (token t0 size) =
    ap (λ t. record {
      tokens = t;
      refused = x.refused;
      reader = record (reader_behind x.reader (token t0 size)) { held = drop size bytes };
    })
    (append_assoc ts x.tokens (record { at = x.reader.place; token = t0 } ∷ []))

within_told : (ts : List Placed) (x : Reading) (b : ℕ) (o : Option Reason)
    → step_within o (told_before ts x) b ≡ told_before ts (step_within o x b)
within_told ts x b (Some reason) = refl
within_told ts x b None = met_told ts x (x.reader.held ++ b ∷ []) (found x.reader (x.reader.held ++ b ∷ []))

from_told : (ts : List Placed) (x : Reading) (b : ℕ) (o : Option Refusal)
    → step_from o (told_before ts x) b ≡ told_before ts (step_from o x b)
from_told ts x b (Some f) = refl
from_told ts x b None = within_told ts x b (limit x.reader)

pub reads-told : (ts : List Placed) (x : Reading) (bytes : List ℕ) → reads (told_before ts x) bytes ≡ told_before ts (reads x bytes)
unfolding reads
reads-told ts x [] = refl
reads-told ts x (b ∷ bytes) = ap (λ y. reads y bytes) (from_told ts x b x.refused) ∙ reads-told ts (step_byte x b) bytes

-- ---- tokens handed one list after the other

one_append : {W : Type 0} (k : Taking W) (ps b : List Placed) (r : Result W Refusal)
    → ((v : W) → taken_all k v (ps ++ b) ≡ (taken_all k v ps >>= (λ u. taken_all k u b)))
    → (r >>= (λ v. taken_all k v (ps ++ b))) ≡ ((r >>= (λ v. taken_all k v ps)) >>= (λ u. taken_all k u b))
one_append k ps b (Ok v) h = h v
one_append k ps b (Err f) h = refl

pub taken-append : {W : Type 0} (k : Taking W) (w : W) (a b : List Placed)
    → taken_all k w (a ++ b) ≡ (taken_all k w a >>= (λ v. taken_all k v b))
taken-append k w [] b = refl
taken-append k w (p ∷ ps) b =
    one_append k ps b (taken_one k (k.refusal (k.placed w p.at) p.token) w p) (λ v. taken-append k v ps b)

pub taken_both : {W : Type 0} (k : Taking W) (w v u : W) (a b : List Placed) → taken_all k w a ≡ Ok v → taken_all k v b ≡ Ok u
    → taken_all k w (a ++ b) ≡ Ok u
taken_both k w v u a b h g = taken-append k w a b ∙ ap (λ r. r >>= (λ z. taken_all k z b)) h ∙ g

-- what stops a taker after tokens that it took stops it on the whole
pub stops_told : {W : Type 0} (k : Taking W) (left : W → W → Type 0) (e : FeedError) (w v u : W) (ts : List Placed)
    (x : Reading)
    → taken_all k w ts ≡ Ok v → Stops k left e v u x → Stops k left e w u (told_before ts x)
stops_told k left (errors.Refused f) w v u ts x h (inl refused) =
    inl (taken-append k w ts x.tokens ∙ ap (λ r. r >>= (λ z. taken_all k z x.tokens)) h ∙ refused)
stops_told k left (errors.Refused f) w v u ts x h (inr (all, refused)) =
    inr (taken_both k w v u ts x.tokens h all, refused)
stops_told k left errors.Memory w v u ts x h (n, z, some, is_left) = (
  length ts + n,
  z,
  ap (taken_all k w) (take-append-add ts x.tokens n) ∙ taken_both k w v z ts (take n x.tokens) h some,
  is_left,
)

-- ---- one turn

pub part_size : (r : Reader) (bytes : List ℕ) (part : Front) → Settles 0 (found r) bytes part
    → size_of part ≤ length bytes
part_size r bytes more s = omega arith
part_size r bytes (wrong at reason) s = omega arith
part_size r bytes (head table size) s = omega (arith, s.1, s.2)
part_size r bytes (switch page) s = omega (arith, s.1, s.2)
part_size r bytes (token t size) s = omega (arith, s.1, s.2)

pub nothing : (r : Reader) → found r [] ≡ more
unfolding front prologue_at
nothing r = in_body_or_not r.is_in_body
  where
    in_body_or_not : (c : Bool) → (if c then front r.page r.table [] else prologue_at []) ≡ more
    in_body_or_not true = refl
    in_body_or_not false = refl

-- a part has a byte at least
has_bytes : (r : Reader) (bytes : List ℕ) (part : Front) (k : ℕ) → IsPart part
    → ((rest : List ℕ) → found r (take k bytes ++ rest) ≡ part) → 0 < k
has_bytes r bytes part zero p settled = absurd (more_is_none part p (sym (nothing r) ∙ settled []))
has_bytes r bytes part (suc k) p settled = omega arith

part_positive : (r : Reader) (bytes : List ℕ) (part : Front) → IsPart part → Settles 0 (found r) bytes part
    → 0 < size_of part
part_positive r bytes more p s = absurd p
part_positive r bytes (wrong at reason) p s = absurd p
part_positive r bytes (head table size) p s = omega (arith, s.1, has_bytes r bytes (head table size) s.0 p s.3)
part_positive r bytes (switch page) p s = omega arith
part_positive r bytes (token t size) p s = omega (arith, s.1, has_bytes r bytes (token t size) s.0 p s.3)

-- a reader that holds nothing
abbrev pub Between : Reader → List ℕ → Type 0
Between r bytes = (r.held ≡ []) × (is_whole r.extent ≡ false) × (r.place + length bytes ≤ most_bytes)

pub walks_first : (r : Reader) (bytes : List ℕ) → Between r bytes → Walks (begun_by r) bytes bytes (found r bytes)
walks_first r bytes b = walk bytes [] (begun_by r) refl b.0 b.1 (omega (arith, b.2)) (nothing r)

holds_none : (r : Reader) (part : Front) → r.held ≡ [] → IsPart part
    → record (reader_behind r part) { held = [] } ≡ reader_behind r part
holds_none r more e p = absurd p
holds_none r (wrong at reason) e p = absurd p
holds_none r (head table size) e p = ap (λ h. record (reader_behind r (head table size)) { held = h }) (sym e)
holds_none r (switch page) e p = ap (λ h. record (reader_behind r (switch page)) { held = h }) (sym e)
holds_none r (token t size) e p = ap (λ h. record (reader_behind r (token t size)) { held = h }) (sym e)

past_told : (r : Reader) (part : Front) → r.held ≡ [] → IsPart part
    → past (begun_by r) part ≡ told_before (tokens_of r.place part) (begun_by (reader_behind r part))
past_told r part e p =
    ap (λ h. record { tokens = tokens_of r.place part; refused = None; reader = h }) (holds_none r part e p)
    ∙ ap (λ t. record { tokens = t; refused = None; reader = reader_behind r part })
    (sym (append-nil (tokens_of r.place part)))

pub of_walk : (r : Reader) (bytes : List ℕ) (part : Front) → IsPart part → Walks (begun_by r) bytes bytes part
    → reads (begun_by r) bytes ≡ reads (past (begun_by r) part) (drop (size_of part) bytes)
of_walk r bytes more p w = absurd p
of_walk r bytes (wrong at reason) p w = absurd p
of_walk r bytes (head table size) p w = w
of_walk r bytes (switch page) p w = w
of_walk r bytes (token t size) p w = w

-- reading goes on behind a part
pub after_part : (r : Reader) (bytes : List ℕ) (part : Front) → Between r bytes → IsPart part → found r bytes ≡ part
    → reads (begun_by r) bytes
    ≡ told_before (tokens_of r.place part) (reads (begun_by (reader_behind r part)) (drop (size_of part) bytes))
after_part r bytes part b p is =
    of_walk r bytes part p (subst (Walks (begun_by r) bytes bytes) is (walks_first r bytes b))
    ∙ ap (λ x. reads x (drop (size_of part) bytes)) (past_told r part b.0 p)
    ∙ reads-told (tokens_of r.place part) (begun_by (reader_behind r part)) (drop (size_of part) bytes)

-- what stops among some tokens stops among more
pub stops_before : {W : Type 0} (k : Taking W) (left : W → W → Type 0) (w v : W) (ts later : List Placed)
    → StopsAmong k left w v ts → StopsAmong k left w v (ts ++ later)
stops_before k left w v ts later (n, z, some, is_left) = elim (cases_lt (length ts) n) [
  | inl above ↦ (
    length ts,
    z,
    ap (taken_all k w) (take-append_seam ts later ∙ sym (take_all n ts (omega (arith, above)))) ∙ some,
    is_left,
  )
  | inr below ↦ (n, z, ap (taken_all k w) (take-append-le n ts later below) ∙ some, is_left)
]

stops_first : {W : Type 0} (k : Taking W) (left : W → W → Type 0) (e : FeedError) (r s : Reader) (w v : W)
    (bytes : List ℕ) (part : Front) → Between r bytes → IsPart part
    → found r bytes ≡ part → GivesPart k left (Err e) r s w v part → Stops k left e w v (reads (begun_by r) bytes)
stops_first k left (errors.Refused f) r s w v bytes part b p is (inl h) = absurd (no_refusal part p h.0)
  where
    no_refusal : (part : Front) → IsPart part → RefusesPart r.place part f → ⊥
    no_refusal more p h = absurd p
    no_refusal (wrong at reason) p h = absurd p
    no_refusal (head table size) p h = absurd h
    no_refusal (switch page) p h = absurd h
    no_refusal (token t size) p h = absurd h
stops_first k left (errors.Refused f) r s w v bytes part b p is (inr h) =
    let later : List Placed = (reads (begun_by (reader_behind r part)) (drop (size_of part) bytes)).tokens in
    inl (ap (λ x. taken_all k w x.tokens) (after_part r bytes part b p is) ∙ taken-append k w (tokens_of r.place part) later
    ∙ ap (λ y. y >>= (λ u. taken_all k u later)) h)
stops_first k left errors.Memory r s w v bytes part b p is h =
    let later : List Placed = (reads (begun_by (reader_behind r part)) (drop (size_of part) bytes)).tokens in
    subst (StopsAmong k left w v) (sym (ap (λ x. x.tokens) (after_part r bytes part b p is)))
    (stops_before k left w v (tokens_of r.place part) later h.0)

wrong_refused : {W : Type 0} (k : Taking W) (left : W → W → Type 0) (r : Reader) (w v : W) (bytes : List ℕ)
    (part : Front) (f : Refusal)
    → Walks (begun_by r) bytes bytes part → RefusesPart r.place part f → v ≡ w
    → IsFirst (taken_all k w (reads (begun_by r) bytes).tokens) v (reads (begun_by r) bytes).refused f
wrong_refused k left r w v bytes more f walked h e = absurd h
wrong_refused k left r w v bytes (wrong at reason) f walked h e =
    inr (ap (taken_all k w) walked.1 ∙ ap Ok (sym e), walked.0 ∙ ap Some (sym h))
wrong_refused k left r w v bytes (head table size) f walked h e = absurd h
wrong_refused k left r w v bytes (switch page) f walked h e = absurd h
wrong_refused k left r w v bytes (token t size) f walked h e = absurd h

-- an answer that is an error
stops_turn : {W : Type 0} (k : Taking W) (left : W → W → Type 0) (e : FeedError) (r s : Reader) (w v : W)
    (bytes : List ℕ) (part : Front) → Between r bytes
    → found r bytes ≡ part → GivesPart k left (Err e) r s w v part → Stops k left e w v (reads (begun_by r) bytes)
stops_turn k left (errors.Refused f) r s w v bytes more b is (inl h) = absurd h.0
stops_turn k left (errors.Refused f) r s w v bytes more b is (inr h) = absurd cc
stops_turn k left errors.Memory r s w v bytes more b is h =
    stops_before k left w v [] (reads (begun_by r) bytes).tokens h.0
stops_turn k left (errors.Refused f) r s w v bytes (wrong at reason) b is (inl h) =
    wrong_refused k left r w v bytes (wrong at reason) f
    (subst (Walks (begun_by r) bytes bytes) is (walks_first r bytes b)) h.0 h.1
stops_turn k left (errors.Refused f) r s w v bytes (wrong at reason) b is (inr h) = absurd cc
stops_turn k left errors.Memory r s w v bytes (wrong at reason) b is h = absurd h.1
stops_turn k left e r s w v bytes (head table size) b is h =
    stops_first k left e r s w v bytes (head table size) b tt is h
stops_turn k left e r s w v bytes (switch page) b is h = stops_first k left e r s w v bytes (switch page) b tt is h
stops_turn k left e r s w v bytes (token t size) b is h = stops_first k left e r s w v bytes (token t size) b tt is h

goes_on : (n : ℕ) (r s : Reader) (bytes : List ℕ) (part : Front) → Between r bytes → IsPart part → found r bytes ≡ part
    → n ≡ size_of part → s ≡ reader_behind r part
    → PassesPart n (tokens_of r.place part) r s bytes
goes_on zero r s bytes part b p is size behind_it =
    absurd (omega (
      arith,
      size,
      part_positive r bytes part p (subst (Settles 0 (found r) bytes) is (found_settled r bytes)),
    ))
goes_on (suc n) r s bytes part b p is size behind_it =
    after_part r bytes part b p is
    ∙ ap (λ x. told_before (tokens_of r.place part) (reads (begun_by x) (drop (size_of part) bytes))) (sym behind_it)
    ∙ ap (λ m. told_before (tokens_of r.place part) (reads (begun_by s) (drop m bytes))) (sym size)

takes_turn : {W : Type 0} (k : Taking W) (left : W → W → Type 0) (n : ℕ) (r s : Reader) (w v : W) (bytes : List ℕ)
    (part : Front) → Between r bytes
    → found r bytes ≡ part → GivesPart k left (Ok n) r s w v part → GivesFirst k left (Ok n) r s w v bytes
takes_turn k left n r s w v bytes more b is (size, behind_it, handed, t) = (
  omega (arith, size),
  [],
  handed,
  subst (λ m. PassesPart m [] r s bytes) (sym size)
      (refl, behind_it, is, b.1, subst (Walks (begun_by r) bytes bytes) is (walks_first r bytes b)),
)
takes_turn k left n r s w v bytes (wrong at reason) b is (size, behind_it, handed, t) = absurd t
takes_turn k left n r s w v bytes (head table m) b is (size, behind_it, handed, t) = (
  omega (arith, size, part_size r bytes (head table m) (subst (Settles 0 (found r) bytes) is (found_settled r bytes))),
  [],
  handed,
  goes_on n r s bytes (head table m) b tt is size behind_it,
)
takes_turn k left n r s w v bytes (switch page) b is (size, behind_it, handed, t) = (
  omega (arith, size, part_size r bytes (switch page) (subst (Settles 0 (found r) bytes) is (found_settled r bytes))),
  [],
  handed,
  goes_on n r s bytes (switch page) b tt is size behind_it,
)
takes_turn k left n r s w v bytes (token t0 m) b is (size, behind_it, handed, t) = (
  omega (arith, size, part_size r bytes (token t0 m) (subst (Settles 0 (found r) bytes) is (found_settled r bytes))),
  tokens_of r.place (token t0 m),
  handed,
  goes_on n r s bytes (token t0 m) b tt is size behind_it,
)

-- what reading the part at the front gives is what reading the bytes gives
pub first_given : {W : Type 0} (k : Taking W) (left : W → W → Type 0) (answer : Result ℕ FeedError) (r s : Reader)
    (w v : W) (bytes : List ℕ) → r.held ≡ []
    → is_whole r.extent ≡ false → r.place + length bytes ≤ most_bytes → GivesPart k left answer r s w v (found r bytes)
    → GivesFirst k left answer r s w v bytes
first_given k left (Ok n) r s w v bytes none open_ room h =
    takes_turn k left n r s w v bytes (found r bytes) (none, open_, room) refl h
first_given k left (Err e) r s w v bytes none open_ room h =
    stops_turn k left e r s w v bytes (found r bytes) (none, open_, room) refl h

-- ---- where no further byte is taken

limit_stops : {W : Type 0} (k : Taking W) (left : W → W → Type 0) (r : Reader) (w : W) (reason : Reason) (at : ℕ)
    (bytes : List ℕ) → limit r ≡ Some reason → taken_by r ≡ at
    → 0 < length bytes
    → Stops k left (errors.Refused (record { at = at; reason = reason })) w w (reads (begun_by r) bytes)
unfolding reads
limit_stops k left r w reason at [] is place some = absurd (omega (arith, some))
limit_stops k left r w reason at (b ∷ bytes) is place some =
    let stopped : reads (begun_by r) (b ∷ bytes) ≡ refuse (begun_by r) at reason =
    ap (λ o. reads (step_within o (begun_by r) b) bytes) is ∙ ap (λ n. reads (refuse (begun_by r) n reason) bytes) place
    ∙ stays (refuse (begun_by r) at reason) (record { at = at; reason = reason }) bytes refl in
    inr (ap (λ x. taken_all k w x.tokens) stopped, ap (λ x. x.refused) stopped)

-- a byte behind the whole body
pub trailing : {W : Type 0} (k : Taking W) (left : W → W → Type 0) (r : Reader) (w : W) (bytes : List ℕ) (e : FeedError)
    → is_whole r.extent ≡ true → r.held ≡ []
    → 0 < length bytes → e ≡ errors.Refused (record { at = r.place; reason = reasons.Trailing })
    → Stops k left e w w (reads (begun_by r) bytes)
trailing k left r w bytes e whole none some is =
    subst (λ x. Stops k left x w w (reads (begun_by r) bytes)) (sym is)
    (limit_stops k left r w reasons.Trailing r.place bytes
    (ap (λ (c : Bool). if c then Some reasons.Trailing else if taken_by r == most_bytes then Some reasons.Toolong
    else None) whole)
    (omega (arith, ap length none)) some)

-- byte 65,537
pub too_long : {W : Type 0} (k : Taking W) (left : W → W → Type 0) (r : Reader) (w : W) (bytes : List ℕ) (e : FeedError)
    → is_whole r.extent ≡ false → taken_by r ≡ most_bytes
    → 0 < length bytes → e ≡ errors.Refused (record { at = most_bytes; reason = reasons.Toolong })
    → Stops k left e w w (reads (begun_by r) bytes)
too_long k left r w bytes e open_ full some is =
    subst (λ x. Stops k left x w w (reads (begun_by r) bytes)) (sym is)
    (limit_stops k left r w reasons.Toolong most_bytes bytes
    (ap (λ (c : Bool). if c then Some reasons.Trailing else if taken_by r == most_bytes then Some reasons.Toolong
    else None) open_
    ∙ ap (λ (c : Bool). if c then Some reasons.Toolong else None) at_most)
    full some)
  where
    at_most : (taken_by r == most_bytes) ≡ true
    at_most = grind arith

place_behind : (r : Reader) (part : Front) → (reader_behind r part).place ≡ r.place + size_of part
place_behind r more = omega arith
place_behind r (wrong at reason) = omega arith
place_behind r (head table size) = refl
place_behind r (switch page) = refl
place_behind r (token t size) = refl

pub place_given : {W : Type 0} (k : Taking W) (left : W → W → Type 0) (n : ℕ) (r s : Reader) (w v : W) (part : Front)
    → GivesPart k left (Ok n) r s w v part → s.place ≡ r.place + n
place_given k left n r s w v part (size, behind_it, handed, t) =
    ap (λ x. x.place) behind_it ∙ place_behind r part ∙ ap (λ m. r.place + m) (sym size)

pub found_in_body : (r : Reader) (bytes : List ℕ) → r.is_in_body ≡ true → front r.page r.table bytes ≡ found r bytes
found_in_body r bytes e = sym (ap (λ (c : Bool). if c then front r.page r.table bytes else prologue_at bytes) e)

pub room_given : {W : Type 0} (k : Taking W) (left : W → W → Type 0) (answer : Result ℕ FeedError) (r : Reader)
    (s : Spot) (table : List ℕ) (w v : W) (part : Front) (bytes : List ℕ)
    → GivesPart k left answer r (reader_at s table) w v part → OnOk answer (depth_of s.extent ≤ s.place)
    → r.place + length bytes ≤ most_bytes
    → GivesFirst k left answer r (reader_at s table) w v bytes → IfOk answer (λ size. HasRoom s (length bytes - size))
room_given k left (Ok n) r s table w v part bytes h deep room first =
    let there : s.place ≡ r.place + n = place_given k left n r (reader_at s table) w v part h in
    (deep, omega (arith, there, room, first.0))
room_given k left (Err e) r s table w v part bytes h deep room first = tt
