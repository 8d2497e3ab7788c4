-- Tokens that a reader hands to a queue.
use Rattle.std.proofs.Common.{ℕ, ◌≡◌, List, [], ◌∷◌, ◌++◌, length, take, refl, sym, ap, ◌∙◌, append_assoc, inl, inr}
use Rattle.std.proofs.lemmas.List.{append-nil}
use Rattle.std.proofs.Math.Seq.{take-append_seam}
use Rattle.std.specs.Prelude.{Some, None, Result, Ok, Err}
use Rattle.wbxml_tokens.specs.declared.reason.Refusal.{Refusal}
use Rattle.wbxml_tokens.specs.declared.reason.FeedError.TheVariants as errors
use Rattle.wbxml_tokens.specs.declared.token.Placed.{Placed}
use Rattle.wbxml_tokens.specs.Reading.{Reader, Reading, begun_by, first_reader, reads, reading}
use Rattle.wbxml_tokens.specs.Taking.{Taking, Stops, StopsAmong, told_before, taken_all}
use Rattle.wbxml_tokens.specs.Waiting.{WaitingTokens, waiting_after, Held, HasRead}
use Rattle.wbxml_tokens.proofs.Steps.{reads-append, stays}
use Rattle.wbxml_tokens.proofs.Turns.{reads-told}

-- the queue as a taker
abbrev pub queueing : Taking WaitingTokens
queueing = record { placed = λ w at. record w { at = at }; after = waiting_after; refusal = λ w t. None }

abbrev pub is_same : WaitingTokens → WaitingTokens → Type 0
is_same old new = new ≡ old

-- it takes all tokens
record Queued (w : WaitingTokens) (tokens : List Placed) : Type 0 where
  last : WaitingTokens
  handed : taken_all queueing w tokens ≡ Ok last
  longer : last.tokens ≡ w.tokens ++ tokens

queued : (w : WaitingTokens) (tokens : List Placed) → Queued w tokens
queued w [] = record { last = w; handed = refl; longer = sym (append-nil w.tokens) }
queued w (p ∷ ps) =
    let q : Queued (waiting_after (record w { at = p.at }) p.token) ps =
    queued (waiting_after (record w { at = p.at }) p.token) ps in
    record { last = q.last; handed = q.handed; longer = q.longer ∙ append_assoc w.tokens (p ∷ []) ps }

ok_is : (a b : WaitingTokens) → ◌≡◌ {A = Result WaitingTokens Refusal} (Ok a) (Ok b) → a ≡ b
ok_is a b e = cc

pub waiting_longer : (w v : WaitingTokens) (tokens : List Placed) → taken_all queueing w tokens ≡ Ok v
    → v.tokens ≡ w.tokens ++ tokens
waiting_longer w v tokens h =
    let q : Queued w tokens = queued w tokens in ap (λ z. z.tokens) (ok_is v q.last (sym h ∙ q.handed)) ∙ q.longer

never_refuses : (w : WaitingTokens) (tokens : List Placed) (f : Refusal) → taken_all queueing w tokens ≡ Err f → ⊥
never_refuses w tokens f h =
    let q : Queued w tokens = queued w tokens in no_both q.last (sym q.handed ∙ h)
  where
    no_both : (v : WaitingTokens) → Ok v ≡ Err f → ⊥
    no_both v e = cc

-- what wants memory leaves the tokens that waited
pub waiting_kept : (w v : WaitingTokens) (tokens : List Placed) → StopsAmong queueing is_same w v tokens
    → take (length w.tokens) v.tokens ≡ w.tokens
waiting_kept w v tokens (n, z, some, inl same) =
    ap (take (length w.tokens)) (ap (λ y. y.tokens) same ∙ waiting_longer w z (take n tokens) some)
    ∙ take-append_seam w.tokens (take n tokens)
waiting_kept w v tokens (n, z, some, inr (at, same)) =
    ap (take (length w.tokens)) (ap (λ y. y.tokens) same ∙ waiting_longer w z (take n tokens) some)
    ∙ take-append_seam w.tokens (take n tokens)

-- ---- reading on

read_on : (h : Held) (bytes piece : List ℕ) (given : List Placed) → HasRead h bytes given → h.refused ≡ None
    → reading (bytes ++ piece) ≡ told_before (reading bytes).tokens (reads (begun_by h.reader) piece)
read_on h bytes piece given r none =
    let x : Reading = reading bytes in
    reads-append (begun_by first_reader) bytes piece
    ∙ ap (λ y. reads y piece)
    (ap (λ f. record { tokens = x.tokens; refused = f; reader = x.reader }) (r.refused ∙ none)
    ∙ ap (λ t. record { tokens = t; refused = None; reader = x.reader }) (sym (append-nil x.tokens)))
    ∙ reads-told x.tokens (begun_by x.reader) piece
    ∙ ap (λ y. told_before x.tokens (reads (begun_by y) piece)) (sym (r.reader none))

tokens_on : (h : Held) (bytes piece : List ℕ) (given : List Placed) (w v : WaitingTokens) → HasRead h bytes given
    → h.refused ≡ None → w.tokens ≡ h.waiting
    → taken_all queueing w (reads (begun_by h.reader) piece).tokens ≡ Ok v
    → (reading (bytes ++ piece)).tokens ≡ given ++ v.tokens
tokens_on h bytes piece given w v r none same handed =
    let later : List Placed = (reads (begun_by h.reader) piece).tokens in
    ap (λ y. y.tokens) (read_on h bytes piece given r none) ∙ ap (λ t. t ++ later) r.tokens
    ∙ append_assoc given h.waiting later
    ∙ ap (λ t. given ++ t) (ap (λ t. t ++ later) (sym same) ∙ sym (waiting_longer w v later handed))

pub fed_ok : (h : Held) (bytes piece : List ℕ) (given : List Placed) (s : Reader) (w v : WaitingTokens)
    → HasRead h bytes given → h.refused ≡ None → w.tokens ≡ h.waiting
    → (taken_all queueing w (reads (begun_by h.reader) piece).tokens ≡ Ok v)
    × ((reads (begun_by h.reader) piece).refused ≡ None) → s ≡ (reads (begun_by h.reader) piece).reader
    → ((reading (bytes ++ piece)).refused ≡ None)
    × HasRead (record { waiting = v.tokens; refused = None; reader = s }) (bytes ++ piece) given
fed_ok h bytes piece given s w v r none same (handed, sound) is_reader =
    let on : reading (bytes ++ piece) ≡ told_before (reading bytes).tokens (reads (begun_by h.reader) piece) =
    read_on h bytes piece given r none in (
      ap (λ y. y.refused) on ∙ sound,
      record {
        tokens = tokens_on h bytes piece given w v r none same handed;
        refused = ap (λ y. y.refused) on ∙ sound;
        reader = λ _. is_reader ∙ sym (ap (λ y. y.reader) on);
      },
    )

pub fed_refused : (h : Held) (bytes piece : List ℕ) (given : List Placed) (s : Reader) (w v : WaitingTokens) (f : Refusal)
    → HasRead h bytes given → h.refused ≡ None
    → w.tokens ≡ h.waiting → Stops queueing is_same (errors.Refused f) w v (reads (begun_by h.reader) piece)
    → ((reading (bytes ++ piece)).refused ≡ Some f)
    × HasRead (record { waiting = v.tokens; refused = Some f; reader = s }) (bytes ++ piece) given
fed_refused h bytes piece given s w v f r none same (inl refused) =
    absurd (never_refuses w (reads (begun_by h.reader) piece).tokens f refused)
fed_refused h bytes piece given s w v f r none same (inr (handed, refused)) =
    let on : reading (bytes ++ piece) ≡ told_before (reading bytes).tokens (reads (begun_by h.reader) piece) =
    read_on h bytes piece given r none in (
      ap (λ y. y.refused) on ∙ refused,
      record {
        tokens = tokens_on h bytes piece given w v r none same handed;
        refused = ap (λ y. y.refused) on ∙ refused;
        reader = λ e. absurd (some_not_none e);
      },
    )
  where
    some_not_none : Some f ≡ None → ⊥
    some_not_none e = cc

-- after a refusal no byte counts
pub still_refused : (h : Held) (bytes piece : List ℕ) (given : List Placed) (f : Refusal) → HasRead h bytes given
    → h.refused ≡ Some f
    → ((reading (bytes ++ piece)).refused ≡ Some f) × HasRead h (bytes ++ piece) given
still_refused h bytes piece given f r is =
    let same : reading (bytes ++ piece) ≡ reading bytes =
    reads-append (begun_by first_reader) bytes piece ∙ stays (reading bytes) f piece (r.refused ∙ is) in (
      ap (λ y. y.refused) same ∙ r.refused ∙ is,
      record {
        tokens = ap (λ y. y.tokens) same ∙ r.tokens;
        refused = ap (λ y. y.refused) same ∙ r.refused;
        reader = λ e. r.reader e ∙ sym (ap (λ y. y.reader) same);
      },
    )
