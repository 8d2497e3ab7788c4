-- The bytes that a reader has taken, and those behind the last that it may take.
use Rattle.std.proofs.Common.{ℕ, suc, ◌≡◌, ◌<◌, ◌≤◌, ◌+◌, ◌-◌, List, [], ◌∷◌, ◌++◌, length, length-append, take, drop}
use Rattle.std.proofs.Common.{refl, sym, ap, ◌∙◌, subst, arith, inl, inr, min}
use Rattle.std.proofs.lemmas.List.{append-nil, take-append-drop, length-drop, length-take}
use Rattle.std.specs.Prelude.{◌==◌, Bool, true, false, if◌then◌else◌, Option, Some, None, Result, Ok, Err}
use Rattle.wbxml_tokens.specs.declared.reason.Reason.{Reason}
use Rattle.wbxml_tokens.specs.declared.reason.Reason.TheVariants as reasons
use Rattle.wbxml_tokens.specs.declared.reason.Refusal.{Refusal}
use Rattle.wbxml_tokens.specs.declared.reason.FeedError.{FeedError}
use Rattle.wbxml_tokens.specs.declared.reason.FeedError.TheVariants as errors
use Rattle.wbxml_tokens.specs.declared.token.Placed.{Placed}
use Rattle.wbxml_tokens.specs.Fronts.{Front, more, wrong, head, switch, token}
use Rattle.wbxml_tokens.specs.Reading.{Reader, Reading, begun_by, most_bytes, taken_by, is_whole, found, size_of}
use Rattle.wbxml_tokens.specs.Reading.{refuse, met, limit, step_within, step_from, step_byte, reads}
use Rattle.wbxml_tokens.specs.Taking.{Taking, Stops, StopsAmong, Feeds, taken_all, ◌>>=◌}
use Rattle.wbxml_tokens.specs.Parts.{IsReached, IsBeyond, EndsPiece}
use Rattle.wbxml_tokens.proofs.Steps.{reads-append, stays, found_settled}
use Rattle.wbxml_tokens.proofs.Turns.{part_size, reads-told, taken-append, stops_before}

-- ---- all bytes are taken

some_is_none : (f : Refusal) → Some f ≡ None → ⊥
some_is_none f e = cc

met_takes : (x : Reading) (bytes : List ℕ) (part : Front) → size_of part ≤ length bytes
    → (met x bytes part).refused ≡ None
    → taken_by (met x bytes part).reader ≡ x.reader.place + length bytes
met_takes x bytes more few h = refl
met_takes x bytes (wrong at reason) few h =
    absurd (some_is_none (record { at = x.reader.place + at; reason = reason }) h)
met_takes x bytes (head table size) few h = omega (arith, few, length-drop size bytes)
met_takes x bytes (switch page) few h = omega (arith, few, length-drop 2 bytes)
met_takes x bytes (token t size) few h = omega (arith, few, length-drop size bytes)

within_takes : (x : Reading) (b : ℕ) (o : Option Reason) → (step_within o x b).refused ≡ None
    → taken_by (step_within o x b).reader ≡ suc (taken_by x.reader)
within_takes x b (Some reason) h = absurd (some_is_none (record { at = taken_by x.reader; reason = reason }) h)
within_takes x b None h =
    let bytes : List ℕ = x.reader.held ++ b ∷ [] in
    let all =
    met_takes x bytes (found x.reader bytes)
    (part_size x.reader bytes (found x.reader bytes) (found_settled x.reader bytes)) h in
    omega (arith, all, length-append x.reader.held (b ∷ []))

from_takes : (x : Reading) (b : ℕ) (o : Option Refusal) → x.refused ≡ o → (step_from o x b).refused ≡ None
    → taken_by (step_from o x b).reader ≡ suc (taken_by x.reader)
from_takes x b (Some f) e h = absurd (some_is_none f (sym e ∙ h))
from_takes x b None e h = within_takes x b (limit x.reader) h

takes_on : (x : Reading) (b : ℕ) (bs : List ℕ) (o : Option Refusal) → (step_byte x b).refused ≡ o
    → (reads (step_byte x b) bs).refused ≡ None
    → ((reads (step_byte x b) bs).refused ≡ None
    → taken_by (reads (step_byte x b) bs).reader ≡ taken_by (step_byte x b).reader + length bs)
    → taken_by (reads (step_byte x b) bs).reader ≡ taken_by x.reader + length (b ∷ bs)
takes_on x b bs (Some f) e h later =
    absurd (some_is_none f (sym e ∙ ap (λ y. y.refused) (sym (stays (step_byte x b) f bs e)) ∙ h))
takes_on x b bs None e h later =
    let one : taken_by (step_byte x b).reader ≡ suc (taken_by x.reader) = from_takes x b x.refused refl e in
    omega (arith, one, later h)

pub takes_all : (bytes : List ℕ) (x : Reading) → (reads x bytes).refused ≡ None
    → taken_by (reads x bytes).reader ≡ taken_by x.reader + length bytes
unfolding reads
takes_all [] x h = omega arith
takes_all (b ∷ bs) x h = takes_on x b bs (step_byte x b).refused refl h (takes_all bs (step_byte x b))

-- ---- no byte is taken behind the last

pub limit_refuses : (x : Reading) (reason : Reason) (at : ℕ) (bytes : List ℕ) → x.refused ≡ None
    → limit x.reader ≡ Some reason → taken_by x.reader ≡ at
    → 0 < length bytes → reads x bytes ≡ refuse x at reason
unfolding reads
limit_refuses x reason at [] sound is place some = absurd (omega (arith, some))
limit_refuses x reason at (b ∷ bytes) sound is place some =
    ap (λ o. reads (step_from o x b) bytes) sound ∙ ap (λ o. reads (step_within o x b) bytes) is
    ∙ ap (λ n. reads (refuse x n reason) bytes) place
    ∙ stays (refuse x at reason) (record { at = at; reason = reason }) bytes refl

stops_beyond : {W : Type 0} (k : Taking W) (left : W → W → Type 0) (w v : W) (x : Reading) (reason : Reason) (at : ℕ)
    (bytes : List ℕ) → taken_all k w x.tokens ≡ Ok v
    → x.refused ≡ None → limit x.reader ≡ Some reason → taken_by x.reader ≡ at → 0 < length bytes
    → Stops k left (errors.Refused (record { at = at; reason = reason })) w v (reads x bytes)
stops_beyond k left w v x reason at bytes handed sound is place some =
    let stopped : reads x bytes ≡ refuse x at reason = limit_refuses x reason at bytes sound is place some in
    inr (ap (λ y. taken_all k w y.tokens) stopped ∙ handed, ap (λ y. y.refused) stopped)

full_limit : (r : Reader) → is_whole r.extent ≡ false → taken_by r ≡ most_bytes → limit r ≡ Some reasons.Toolong
full_limit r open_ full =
    ap (λ (c : Bool). if c then Some reasons.Trailing else if taken_by r == most_bytes then Some reasons.Toolong
    else None) open_
    ∙ ap (λ (c : Bool). if c then Some reasons.Toolong else None) at_most
  where
    at_most : (taken_by r == most_bytes) ≡ true
    at_most = grind arith

whole_limit : (r : Reader) → is_whole r.extent ≡ true → limit r ≡ Some reasons.Trailing
whole_limit r whole =
    ap (λ (c : Bool). if c then Some reasons.Trailing else if taken_by r == most_bytes then Some reasons.Toolong
    else None) whole

-- the refusal behind a piece of which all that may be taken was taken
pub beyond : {W : Type 0} (k : Taking W) (left : W → W → Type 0) (w v : W) (x : Reading) (bytes : List ℕ)
    (e : FeedError) → taken_all k w x.tokens ≡ Ok v
    → x.refused ≡ None → IsReached x.reader → taken_by x.reader ≡ most_bytes → 0 < length bytes → IsBeyond e x.reader
    → Stops k left e w v (reads x bytes)
beyond k left w v x bytes e handed sound reached full some (inl (whole, is)) =
    subst (λ y. Stops k left y w v (reads x bytes)) (sym is)
    (stops_beyond k left w v x reasons.Trailing x.reader.place bytes handed sound (whole_limit x.reader whole)
    (omega (arith, ap length (reached.at_end whole))) some)
beyond k left w v x bytes e handed sound reached full some (inr (open_, is)) =
    subst (λ y. Stops k left y w v (reads x bytes)) (sym is)
    (stops_beyond k left w v x reasons.Toolong most_bytes bytes handed sound (full_limit x.reader open_ full) full some)

-- a piece read in two parts
pub in_two : (x : Reading) (n : ℕ) (piece : List ℕ) → reads x piece ≡ reads (reads x (take n piece)) (drop n piece)
in_two x n piece = ap (reads x) (sym (take-append-drop n piece)) ∙ reads-append x (take n piece) (drop n piece)

-- what the two parts of a piece give
pub ends : {W : Type 0} (k : Taking W) (left : W → W → Type 0) (answer : Result Unit FeedError) (r s : Reader) (w v : W)
    (n : ℕ) (piece within rest : List ℕ)
    → within ≡ take n piece → rest ≡ drop n piece → (taken_all k w (reads (begun_by r) within).tokens ≡ Ok v)
    × ((reads (begun_by r) within).refused ≡ None)
    → s ≡ (reads (begun_by r) within).reader → IsReached s → (0 < length rest → taken_by s ≡ most_bytes)
    → EndsPiece answer s rest
    → Feeds k left answer w v (reads (begun_by r) piece)
unfolding reads
ends k left answer r s w v n piece within rest is_within is_rest handed is_reader reached full h =
    subst (Feeds k left answer w v) (sym (in_two (begun_by r) n piece))
    (subst (λ y. Feeds k left answer w v (reads (reads (begun_by r) y) (drop n piece))) is_within
    (subst (λ y. Feeds k left answer w v (reads (reads (begun_by r) within) y)) is_rest (either answer h)))
  where
    either : (answer : Result Unit FeedError) → EndsPiece answer s rest
        → Feeds k left answer w v (reads (reads (begun_by r) within) rest)
    either (Ok u) none = subst (λ y. Feeds k left (Ok u) w v (reads (reads (begun_by r) within) y)) (sym none) handed
    either (Err e) (some, is_beyond) =
        beyond k left w v (reads (begun_by r) within) rest e handed.0 handed.1 (subst IsReached is_reader reached)
        (ap taken_by (sym is_reader) ∙ full some) some (subst (IsBeyond e) is_reader is_beyond)

-- as many bytes as a document may have were taken, where some are left
pub full_before : (r s : Reader) (n : ℕ) (piece within rest : List ℕ) → within ≡ take n piece → rest ≡ drop n piece
    → (reads (begun_by r) within).refused ≡ None
    → s ≡ (reads (begun_by r) within).reader → n ≡ min (length piece) (most_bytes - taken_by r)
    → taken_by r ≤ most_bytes → 0 < length rest → taken_by s ≡ most_bytes
full_before r s n piece within rest is_within is_rest sound is_reader is_n few some =
    let all = takes_all within (begun_by r) sound in
    omega (
      arith,
      ap taken_by is_reader,
      all,
      ap length is_within,
      length-take n piece,
      ap length is_rest,
      length-drop n piece,
      is_n,
      few,
      some,
    )

-- tokens stay
longer : (x : Reading) (bytes : List ℕ)
    → (reads x bytes).tokens ≡ x.tokens ++ (reads (record x { tokens = [] }) bytes).tokens
longer x bytes =
    ap (λ t. (reads (record x { tokens = t }) bytes).tokens) (sym (append-nil x.tokens))
    ∙ ap (λ y. y.tokens) (reads-told x.tokens (record x { tokens = [] }) bytes)

stops_longer : {W : Type 0} (k : Taking W) (left : W → W → Type 0) (e : FeedError) (w v : W) (x : Reading)
    (bytes : List ℕ) → Stops k left e w v x → Stops k left e w v (reads x bytes)
stops_longer k left (errors.Refused f) w v x bytes (inl refused) =
    let later : List Placed = (reads (record x { tokens = [] }) bytes).tokens in
    inl (ap (taken_all k w) (longer x bytes) ∙ taken-append k w x.tokens later
    ∙ ap (λ r. r >>= (λ z. taken_all k z later)) refused)
stops_longer k left (errors.Refused f) w v x bytes (inr (all, refused)) =
    let same : reads x bytes ≡ x = stays x f bytes refused in
    inr (ap (λ y. taken_all k w y.tokens) same ∙ all, ap (λ y. y.refused) same ∙ refused)
stops_longer k left errors.Memory w v x bytes h =
    subst (StopsAmong k left w v) (sym (longer x bytes))
    (stops_before k left w v x.tokens (reads (record x { tokens = [] }) bytes).tokens h)

-- what stops the first part of a piece stops the piece
pub stops_piece : {W : Type 0} (k : Taking W) (left : W → W → Type 0) (e : FeedError) (r : Reader) (w v : W) (n : ℕ)
    (piece within : List ℕ) → within ≡ take n piece
    → Stops k left e w v (reads (begun_by r) within) → Stops k left e w v (reads (begun_by r) piece)
stops_piece k left e r w v n piece within is h =
    subst (Stops k left e w v) (sym (in_two (begun_by r) n piece))
    (stops_longer k left e w v (reads (begun_by r) (take n piece)) (drop n piece)
    (subst (λ y. Stops k left e w v (reads (begun_by r) y)) is h))
