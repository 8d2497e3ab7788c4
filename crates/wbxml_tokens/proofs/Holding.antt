-- Pieces behind bytes that are held.
use Rattle.std.proofs.Common.{ℕ, ◌≡◌, ◌<◌, ◌≤◌, ◌+◌, List, [], ◌∷◌, ◌++◌, length, drop, refl, sym, ap, ◌∙◌, subst}
use Rattle.std.proofs.Common.{arith, rules, inl, get_or}
use Rattle.std.proofs.lemmas.List.{append-nil}
use Rattle.std.proofs.Math.Seq.{take-length}
use Rattle.std.specs.Prelude.{◌==◌, Bool, true, false, if◌then◌else◌, nat_lt, None, Result, Ok, Err, OnOk, IfErr}
use Rattle.wbxml_tokens.specs.declared.reason.FeedError.{FeedError}
use Rattle.wbxml_tokens.specs.declared.reason.FeedError.TheVariants as errors
use Rattle.wbxml_tokens.specs.declared.token.Placed.{Placed}
use Rattle.wbxml_tokens.specs.declared.token.Token.TheVariants.{Text}
use Rattle.wbxml_tokens.specs.Fronts.{more, token, until_zero, text_in, front}
use Rattle.wbxml_tokens.specs.Reading.{Reader, Reading, begun_by, most_bytes, taken_by, is_whole, found, reads}
use Rattle.wbxml_tokens.specs.Taking.{Taking, Stops, StopsAmong, Feeds, GivesAll, taken_all}
use Rattle.wbxml_tokens.specs.Parts.{IsReached}
use Rattle.wbxml_tokens.proofs.Steps.{reads-append, walk, Walks}
use Rattle.wbxml_tokens.proofs.Turns.{nothing, found_in_body}

-- a reader without what it holds
abbrev pub emptied : Reader → Reader
emptied r = record r { held = [] }

not_whole : (r : Reader) → IsReached r → 0 < length r.held → (c : Bool) → is_whole r.extent ≡ c
    → is_whole r.extent ≡ false
not_whole r h some true e = absurd (omega (arith, some, ap length (h.at_end e)))
not_whole r h some false e = e

held_again : (r : Reader) → IsReached r → 0 < length r.held → reads (begun_by (emptied r)) r.held ≡ begun_by r
held_again r h some =
    subst (Walks (begun_by (emptied r)) r.held r.held) h.begun
    (walk r.held [] (begun_by (emptied r)) refl refl (not_whole r h some (is_whole r.extent) refl)
    (omega (arith, h.within)) (nothing (emptied r)))

-- what is read behind bytes that are held is read behind none
pub read_again : (r : Reader) (piece : List ℕ) → IsReached r → 0 < length r.held
    → reads (begun_by r) piece ≡ reads (begun_by (emptied r)) (r.held ++ piece)
read_again r piece h some =
    sym (reads-append (begun_by (emptied r)) r.held piece ∙ ap (λ x. reads x piece) (held_again r h some))

pub feeds_all : {W : Type 0} (k : Taking W) (left : W → W → Type 0) (used : ℕ) (r s : Reader) (w v : W) (bytes : List ℕ)
    (x : Reading)
    → GivesAll k left (Ok used) r s w v bytes → x ≡ reads (begun_by r) bytes
    → (taken_all k w x.tokens ≡ Ok v) × (x.refused ≡ None) × (x.reader ≡ record s { held = drop used bytes })
feeds_all k left used r s w v bytes x (few, tokens, handed, same, begun, empty) is = (
  ap (λ y. taken_all k w y.tokens) (is ∙ same) ∙ ap (taken_all k w) (append-nil tokens) ∙ handed,
  ap (λ y. y.refused) (is ∙ same),
  ap (λ y. y.reader) (is ∙ same),
)

pub stops_all : {W : Type 0} (k : Taking W) (left : W → W → Type 0) (e : FeedError) (r s : Reader) (w v : W)
    (bytes : List ℕ) (x : Reading)
    → GivesAll k left (Err e) r s w v bytes → x ≡ reads (begun_by r) bytes → Stops k left e w v x
stops_all k left e r s w v bytes x h is = subst (Stops k left e w v) (sym is) h

-- want of memory before any token, and behind all
pub before_all : {W : Type 0} (k : Taking W) (left : W → W → Type 0) (w : W) (tokens : List Placed)
    → StopsAmong k left w w tokens
before_all k left w tokens = (0, w, refl, inl refl)

pub behind_all : {W : Type 0} (k : Taking W) (left : W → W → Type 0) (w v : W) (tokens : List Placed)
    → taken_all k w tokens ≡ Ok v → StopsAmong k left w v tokens
behind_all k left w v tokens h = (length tokens, v, ap (taken_all k w) (take-length tokens) ∙ h, inl refl)

-- ---- texts that go on

shorter : (bytes : List ℕ) → length (until_zero bytes) ≤ length bytes
shorter [] = omega arith
shorter (b ∷ bs) = shorter_by (b == 0) b bs (shorter bs)
  where
    shorter_by : (c : Bool) (b : ℕ) (bs : List ℕ) → length (until_zero bs) ≤ length bs
        → length (if c then [] else b ∷ until_zero bs) ≤ length (b ∷ bs)
    shorter_by true b bs h = omega arith
    shorter_by false b bs h = omega (arith, h)

both_by : (c : Bool) (b : ℕ) (bs more_bytes : List ℕ) → (b == 0) ≡ c
    → (length (until_zero bs) ≡ length bs → until_zero (bs ++ more_bytes) ≡ bs ++ more_bytes)
    → length (if c then [] else b ∷ until_zero bs) ≡ length (b ∷ bs)
    → until_zero (b ∷ bs ++ more_bytes) ≡ b ∷ bs ++ more_bytes
both_by true b bs more_bytes e h all = absurd (omega (arith, all))
both_by false b bs more_bytes e h all =
    ap (λ (c : Bool). if c then [] else b ∷ until_zero (bs ++ more_bytes)) e ∙ ap (λ y. b ∷ y) (h (omega (arith, all)))

-- no byte of both is 0
none_in_both : (bytes more_bytes : List ℕ) → length (until_zero bytes) ≡ length bytes
    → until_zero more_bytes ≡ more_bytes
    → until_zero (bytes ++ more_bytes) ≡ bytes ++ more_bytes
none_in_both [] more_bytes all rest = rest
none_in_both (b ∷ bs) more_bytes all rest =
    both_by (b == 0) b bs more_bytes refl (λ h. none_in_both bs more_bytes h rest) all

not_token : (bytes : List ℕ) (c : Bool) → nat_lt (length (until_zero bytes)) (length bytes) ≡ c
    → (if c then token (Text (until_zero bytes)) (length (until_zero bytes) + 2) else more) ≡ more
    → length (until_zero bytes) ≡ length bytes
not_token bytes true e h = absurd cc
not_token bytes false e h =
    let least : length bytes ≤ length (until_zero bytes) = search rules in
    omega (arith, least, shorter bytes)

still_more : (bytes : List ℕ) → until_zero bytes ≡ bytes → text_in (until_zero bytes) bytes ≡ more
still_more bytes e =
    let same : nat_lt (length (until_zero bytes)) (length bytes) ≡ false =
    ap (λ y. nat_lt (length y) (length bytes)) e ∙ not_less (length bytes) in
    ap (λ (c : Bool). if c then token (Text (until_zero bytes)) (length (until_zero bytes) + 2) else more) same
  where
    not_less : (n : ℕ) → nat_lt n n ≡ false
    not_less n = grind arith

pub text_on : (r : Reader) (text piece : List ℕ) → r.is_in_body ≡ true → found r (0x03 ∷ text) ≡ more
    → until_zero piece ≡ piece
    → found r (0x03 ∷ text ++ piece) ≡ more
unfolding front
text_on r text piece body begun none =
    let in_front : front r.page r.table (0x03 ∷ text) ≡ more = found_in_body r (0x03 ∷ text) body ∙ begun in
    sym (found_in_body r (0x03 ∷ text ++ piece) body)
    ∙ still_more (text ++ piece)
    (none_in_both text piece (not_token text (nat_lt (length (until_zero text)) (length text)) refl in_front) none)

-- what is held, and a piece that ends no part of it
pub read_text : (r : Reader) (piece : List ℕ) → IsReached r → 0 < length r.held → taken_by r + length piece ≤ most_bytes
    → found r (r.held ++ piece) ≡ more
    → begun_by (record r { held = r.held ++ piece }) ≡ reads (begun_by r) piece
read_text r piece h some room is =
    sym (subst (Walks (begun_by r) (r.held ++ piece) piece) is
    (walk piece r.held (begun_by r) refl refl (not_whole r h some (is_whole r.extent) refl) (omega (arith, room))
    h.begun))

-- what a piece behind a text that goes on gives
pub text_feeds : {W : Type 0} (k : Taking W) (left : W → W → Type 0) (answer : Result Unit FeedError) (w : W)
    (s : Reader) (x : Reading) (same : Type 0)
    → OnOk answer (begun_by s ≡ x) → IfErr answer (λ e. (e ≡ errors.Memory) × same) → Feeds k left answer w w x
text_feeds k left (Ok u) w s x same ok err = (ap (λ y. taken_all k w y.tokens) (sym ok), ap (λ y. y.refused) (sym ok))
text_feeds k left (Err e) w s x same ok err =
    subst (λ y. Stops k left y w w x) (sym err.0) (before_all k left w x.tokens)

pub text_begun : (r : Reader) (piece : List ℕ) → IsReached r → 1 ≤ length r.held → get_or r.held 0 0 ≡ 0x03
    → r.is_in_body ≡ true → until_zero piece ≡ piece
    → found r (r.held ++ piece) ≡ more
text_begun r piece h some first body none = from_first r.held refl
  where
    from_first : (held : List ℕ) → r.held ≡ held → found r (r.held ++ piece) ≡ more
    from_first [] e = absurd (omega (arith, some, ap length e))
    from_first (b ∷ text) e =
        let is_text : b ≡ 0x03 = ap (λ y. get_or y 0 0) (sym e) ∙ first in
        let all : r.held ≡ 0x03 ∷ text = e ∙ ap (λ x. x ∷ text) is_text in
        ap (λ y. found r (y ++ piece)) all ∙ text_on r text piece body (ap (found r) (sym all) ∙ h.begun) none

pub as_long : (bytes front : List ℕ) → front ≡ until_zero bytes → length front ≡ length bytes → until_zero bytes ≡ bytes
as_long bytes front is all = none_left bytes (ap length (sym is) ∙ all)
  where
    none_left : (bytes : List ℕ) → length (until_zero bytes) ≡ length bytes → until_zero bytes ≡ bytes
    none_left bytes e = subst (λ y. until_zero y ≡ y) (append-nil bytes) (none_in_both bytes [] e refl)
