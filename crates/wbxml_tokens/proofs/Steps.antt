-- What reading bytes gives, by what stands at their front.
use Rattle.std.proofs.Common.{ℕ, ◌≡◌, ◌<◌, ◌≤◌, ◌+◌, List, [], ◌∷◌, ◌++◌, length, length-append, take, drop}
use Rattle.std.proofs.Common.{take-append-drop, refl, sym, ap, ◌∙◌, subst, arith, append_assoc, inl, inr}
use Rattle.std.proofs.lemmas.List.{take-append-le, append-nil}
use Rattle.std.proofs.Math.Seq.{take-length, drop-length, drop-append_seam}
use Rattle.std.proofs.lemmas.Bool.{cases_lt}
use Rattle.std.specs.Prelude.{◌==◌, Bool, true, false, if◌then◌else◌, Some, None, ⊤}
use Rattle.wbxml_tokens.specs.declared.reason.Reason.TheVariants as reasons
use Rattle.wbxml_tokens.specs.declared.reason.Refusal.{Refusal}
use Rattle.wbxml_tokens.specs.Fronts.{Front, more, wrong, head, switch, token, front, prologue_at}
use Rattle.wbxml_tokens.specs.Reading.{Reader, Reading, most_bytes, is_whole, taken_by, found, size_of, reader_behind}
use Rattle.wbxml_tokens.specs.Reading.{tokens_of, refuse, met, limit, step_within, step_from, step_byte, reads}
use Rattle.wbxml_tokens.proofs.Settled.{Settles, front_settled, prologue_settled}

pub reads-append : (x : Reading) (a b : List ℕ) → reads x (a ++ b) ≡ reads (reads x a) b
unfolding reads
reads-append x [] b = refl
reads-append x (byte ∷ a) b = reads-append (step_byte x byte) a b

-- a refusal stays
pub stays : (x : Reading) (f : Refusal) (bytes : List ℕ) → x.refused ≡ Some f → reads x bytes ≡ x
unfolding reads
stays x f [] is = refl
stays x f (byte ∷ bytes) is =
    let same : step_byte x byte ≡ x = ap (λ o. step_from o x byte) is in ap (λ y. reads y bytes) same ∙ stays x f bytes is

pub found_settled : (r : Reader) (bytes : List ℕ) → Settles 0 (found r) bytes (found r bytes)
found_settled r bytes = in_body_or_not r.is_in_body
  where
    in_body_or_not : (c : Bool)
        → Settles 0 (λ bs. if c then front r.page r.table bs else prologue_at bs) bytes
        (if c then front r.page r.table bytes else prologue_at bytes)
    in_body_or_not true = front_settled r.page r.table bytes
    in_body_or_not false = prologue_settled bytes

no_limit : (r : Reader) → is_whole r.extent ≡ false → taken_by r < most_bytes → limit r ≡ None
no_limit r open_ room =
    let low : (taken_by r == most_bytes) ≡ false = grind arith in
    ap (λ (c : Bool). if c then Some reasons.Trailing else if taken_by r == most_bytes then Some reasons.Toolong
    else None) open_
    ∙ ap (λ (c : Bool). if c then Some reasons.Toolong else None) low

one_step : (x : Reading) (byte : ℕ) → x.refused ≡ None → is_whole x.reader.extent ≡ false
    → taken_by x.reader < most_bytes
    → step_byte x byte ≡ met x (x.reader.held ++ byte ∷ []) (found x.reader (x.reader.held ++ byte ∷ []))
one_step x byte sound open_ room =
    ap (λ o. step_from o x byte) sound ∙ ap (λ o. step_within o x byte) (no_limit x.reader open_ room)

-- a reading behind a part
abbrev pub past : Reading → Front → Reading
past x part = record x {
  tokens = x.tokens ++ tokens_of x.reader.place part;
  reader = record (reader_behind x.reader part) { held = [] };
}

-- what reading more bytes gives, by what stands at the front of all bytes since the place
abbrev pub Walks : Reading → List ℕ → List ℕ → Front → Type 0
Walks x all bytes more = reads x bytes ≡ record x { reader = record x.reader { held = all } }
Walks x all bytes (wrong at reason) =
    ((reads x bytes).refused ≡ Some (record { at = x.reader.place + at; reason = reason }))
    × ((reads x bytes).tokens ≡ x.tokens)
Walks x all bytes part = reads x bytes ≡ reads (past x part) (drop (size_of part) all)

-- the same reading, with other bytes held
abbrev holding : Reading → List ℕ → Reading
holding x h = record x { reader = record x.reader { held = h } }

walks_on : (x : Reading) (h all bs : List ℕ) (b : ℕ) (f : Front) → reads x (b ∷ bs) ≡ reads (holding x h) bs
    → Walks (holding x h) all bs f → Walks x all (b ∷ bs) f
walks_on x h all bs b more e w = e ∙ w
walks_on x h all bs b (wrong at reason) e w = (ap (λ y. y.refused) e ∙ w.0, ap (λ y. y.tokens) e ∙ w.1)
walks_on x h all bs b (head table size) e w = e ∙ w
walks_on x h all bs b (switch page) e w = e ∙ w
walks_on x h all bs b (token t size) e w = e ∙ w

abbrev pub IsPart : Front → Type 0
IsPart more = ⊥
IsPart (wrong at reason) = ⊥
IsPart other = ⊤

part_walks : (x : Reading) (all bytes : List ℕ) (part : Front) → IsPart part
    → reads x bytes ≡ reads (past x part) (drop (size_of part) all) → Walks x all bytes part
part_walks x all bytes more p e = absurd p
part_walks x all bytes (wrong at reason) p e = absurd p
part_walks x all bytes (head table size) p e = e
part_walks x all bytes (switch page) p e = e
part_walks x all bytes (token t size) p e = e

part_met : (x : Reading) (bytes : List ℕ) (part : Front) → IsPart part → drop (size_of part) bytes ≡ []
    → met x bytes part ≡ past x part
part_met x bytes more p e = absurd p
part_met x bytes (wrong at reason) p e = absurd p
part_met x bytes (head table size) p e =
    ap (λ k. record x { tokens = x.tokens ++ []; reader = record (reader_behind x.reader (head table size)) { held = k } }) e
part_met x bytes (switch page) p e =
    ap (λ k. record x { tokens = x.tokens ++ []; reader = record (reader_behind x.reader (switch page)) { held = k } }) e
part_met x bytes (token t size) p e =
    ap (λ k. record x {
      tokens = x.tokens ++ record { at = x.reader.place; token = t } ∷ [];
      reader = record (reader_behind x.reader (token t size)) { held = k };
    }) e

pub more_is_none : (part : Front) → IsPart part → more ≡ part → ⊥
more_is_none more p e = absurd p
more_is_none (wrong at reason) p e = absurd p
more_is_none (head table size) p e = cc
more_is_none (switch page) p e = cc
more_is_none (token t size) p e = cc

-- a part that the last byte makes whole has all bytes
has_all : (r : Reader) (h : List ℕ) (b : ℕ) (part : Front) (k : ℕ) → IsPart part → found r h ≡ more
    → k ≤ length (h ++ b ∷ [])
    → ((rest : List ℕ) → found r (take k (h ++ b ∷ []) ++ rest) ≡ part) → k ≡ length (h ++ b ∷ [])
has_all r h b part k p begun few settled = elim (cases_lt (length h) k) [
  | inl above ↦ omega (arith, above, few, length-append h (b ∷ []))
  | inr below ↦ absurd (more_is_none part p (sym begun ∙ ap (found r) (sym (take-append-drop k h))
      ∙ ap (λ y. found r (y ++ drop k h)) (sym (take-append-le k h (b ∷ []) below)) ∙ settled (drop k h)))
]

walk_part : (x : Reading) (h bs : List ℕ) (b : ℕ) (part : Front) → IsPart part → step_byte x b ≡ met x (h ++ b ∷ []) part
    → found x.reader h ≡ more
    → (k : ℕ) → size_of part ≡ 0 + k → k ≤ length (h ++ b ∷ [])
    → ((rest : List ℕ) → found x.reader (take k (h ++ b ∷ []) ++ rest) ≡ part)
    → Walks x (h ++ b ∷ bs) (b ∷ bs) (found x.reader (h ++ b ∷ bs))
unfolding reads
walk_part x h bs b part p stepped begun k is few settled =
    let all_of : k ≡ length (h ++ b ∷ []) = has_all x.reader h b part k p begun few settled in
    let size : size_of part ≡ length (h ++ b ∷ []) = omega (arith, is, all_of) in
    let same : found x.reader (h ++ b ∷ bs) ≡ part =
    ap (found x.reader) (sym (append_assoc h (b ∷ []) bs))
    ∙ ap (λ y. found x.reader (y ++ bs)) (sym (ap (λ n. take n (h ++ b ∷ [])) all_of ∙ take-length (h ++ b ∷ [])))
    ∙ settled bs in
    let empty : drop (size_of part) (h ++ b ∷ []) ≡ [] =
    ap (λ n. drop n (h ++ b ∷ [])) size ∙ drop-length (h ++ b ∷ []) in
    let rest : bs ≡ drop (size_of part) (h ++ b ∷ bs) =
    sym (ap (λ n. drop n (h ++ b ∷ bs)) size ∙ ap (drop (length (h ++ b ∷ []))) (sym (append_assoc h (b ∷ []) bs))
    ∙ drop-append_seam (h ++ b ∷ []) bs) in
    subst (Walks x (h ++ b ∷ bs) (b ∷ bs)) (sym same)
    (part_walks x (h ++ b ∷ bs) (b ∷ bs) part p
    (ap (λ y. reads y bs) (stepped ∙ part_met x (h ++ b ∷ []) part p empty) ∙ ap (reads (past x part)) rest))

walk_by : (x : Reading) (h bs : List ℕ) (b : ℕ) (g : Front) → found x.reader (h ++ b ∷ []) ≡ g
    → step_byte x b ≡ met x (h ++ b ∷ []) g
    → found x.reader h ≡ more → Settles 0 (found x.reader) (h ++ b ∷ []) g
    → (found x.reader (h ++ b ∷ []) ≡ more
    → Walks (holding x (h ++ b ∷ [])) ((h ++ b ∷ []) ++ bs) bs (found x.reader ((h ++ b ∷ []) ++ bs)))
    → Walks x (h ++ b ∷ bs) (b ∷ bs) (found x.reader (h ++ b ∷ bs))
unfolding reads
walk_by x h bs b more is stepped begun settled later =
    subst (λ y. Walks x y (b ∷ bs) (found x.reader y)) (append_assoc h (b ∷ []) bs)
    (walks_on x (h ++ b ∷ []) ((h ++ b ∷ []) ++ bs) bs b (found x.reader ((h ++ b ∷ []) ++ bs))
    (ap (λ y. reads y bs) stepped) (later is))
walk_by x h bs b (wrong at reason) is stepped begun settled later =
    let same : found x.reader (h ++ b ∷ bs) ≡ wrong at reason =
    ap (found x.reader) (sym (append_assoc h (b ∷ []) bs)) ∙ settled bs in
    let left : reads x (b ∷ bs) ≡ refuse x (x.reader.place + at) reason =
    ap (λ y. reads y bs) stepped
    ∙ stays (refuse x (x.reader.place + at) reason) (record { at = x.reader.place + at; reason = reason }) bs refl in
    subst (Walks x (h ++ b ∷ bs) (b ∷ bs)) (sym same) (ap (λ y. y.refused) left, ap (λ y. y.tokens) left)
walk_by x h bs b (head table size) is stepped begun t later =
    walk_part x h bs b (head table size) tt stepped begun t.0 t.1 t.2 t.3
walk_by x h bs b (switch page) is stepped begun t later =
    walk_part x h bs b (switch page) tt stepped begun t.0 t.1 t.2 t.3
walk_by x h bs b (token t0 size) is stepped begun t later =
    walk_part x h bs b (token t0 size) tt stepped begun t.0 t.1 t.2 t.3

pub walk : (bytes h : List ℕ) (x : Reading) → x.refused ≡ None → x.reader.held ≡ h → is_whole x.reader.extent ≡ false
    → x.reader.place + length h + length bytes ≤ most_bytes → found x.reader h ≡ more
    → Walks x (h ++ bytes) bytes (found x.reader (h ++ bytes))
unfolding reads
walk [] h x sound held open_ room begun =
    let none : found x.reader (h ++ []) ≡ more = ap (found x.reader) (append-nil h) ∙ begun in
    subst (Walks x (h ++ []) []) (sym none) (ap (holding x) (held ∙ sym (append-nil h)))
walk (b ∷ bs) h x sound held open_ room begun =
    let stepped : step_byte x b ≡ met x (h ++ b ∷ []) (found x.reader (h ++ b ∷ [])) =
    one_step x b sound open_ (omega (arith, room, ap length held))
    ∙ ap (λ y. met x (y ++ b ∷ []) (found x.reader (y ++ b ∷ []))) held in
    walk_by x h bs b (found x.reader (h ++ b ∷ [])) refl stepped begun (found_settled x.reader (h ++ b ∷ []))
    (walk bs (h ++ b ∷ []) (holding x (h ++ b ∷ [])) sound refl open_ (omega (arith, room, length-append h (b ∷ []))))
