-- Bodies that spell tokens are read as them, and what is read is spelled.
use Rattle.std.proofs.Common.{ℕ, zero, suc, ◌≡◌, ◌<◌, ◌≤◌, ◌+◌, List, [], ◌∷◌, ◌++◌, length, length-append, take, drop}
use Rattle.std.proofs.Common.{refl, sym, ap, ◌∙◌, subst, arith, append_assoc}
use Rattle.std.proofs.lemmas.List.{take-append-drop, length-drop, length-take-le, drop_at}
use Rattle.std.specs.Prelude.{◌==◌, Bool, true, false, if◌then◌else◌, nat_lt, Some, None}
use Rattle.wbxml_ints.specs.Multibyte.{AreBytes}
use Rattle.wbxml_tokens.specs.declared.reason.Reason.TheVariants as reasons
use Rattle.wbxml_tokens.specs.declared.reason.Refusal.{Refusal}
use Rattle.wbxml_tokens.specs.declared.token.Placed.{Placed}
use Rattle.wbxml_tokens.specs.declared.extent.Extent.{Extent}
use Rattle.wbxml_tokens.specs.Fronts.{Front, more, wrong, head, switch, token, front}
use Rattle.wbxml_tokens.specs.Reading.{Reader, Reading, begun_by, most_bytes, is_whole, extent_after, taken_by, refuse}
use Rattle.wbxml_tokens.specs.Reading.{limit, step_within, reads}
use Rattle.wbxml_tokens.specs.Taking.{told_before}
use Rattle.wbxml_tokens.specs.Spelled.{SpellsTokens, none, switch as a_switch, token as a_token}
use Rattle.wbxml_tokens.proofs.Steps.{Walks, stays}
use Rattle.wbxml_tokens.proofs.Turns.{after_part, found_in_body, walks_first}
use Rattle.wbxml_tokens.proofs.Spells.{spelled_front, front_spelt, switch_there, bytes_after, no_head, token_has_bytes}

-- a reader of the body between two parts
abbrev pub body_at : List ℕ → ℕ → ℕ → Extent → Reader
body_at table page at extent =
    record { place = at; held = []; is_in_body = true; table = table; page = page; extent = extent }

pub switch_front : (page other : ℕ) (table bytes : List ℕ) → other < 2
    → front page table (0x00 ∷ other ∷ bytes) ≡ switch other
unfolding front
switch_front page other table bytes low =
    let below : nat_lt other 2 ≡ true = grind arith in
    ap (λ (c : Bool). if c then switch other else wrong 0 reasons.Tag) below

told-told : (a b : List Placed) (x : Reading) → told_before a (told_before b x) ≡ told_before (a ++ b) x
told-told a b x = ap (λ t. record x { tokens = t }) (sym (append_assoc a b x.tokens))

-- tokens that are spelled are read
pub spelled_read : {table : List ℕ} {page at last : ℕ} {extent end : Extent} {tokens : List Placed} {bytes : List ℕ}
    → SpellsTokens table page at extent tokens bytes last end
    → at + length bytes ≤ most_bytes
    → reads (begun_by (body_at table page at extent)) bytes
    ≡ told_before tokens (begun_by (body_at table last (at + length bytes) end))
unfolding reads
spelled_read {table} {page} {at} {extent = extent} none room =
    let same : at ≡ at + 0 = omega arith in ap (λ n. begun_by (body_at table page n extent)) same
spelled_read {table} {page} {at} {last} {extent} {end} {tokens}
    (a_switch {other = other} {bytes = bytes} open_ low rest) room =
    let place : at + 2 + length bytes ≡ at + suc (suc (length bytes)) = omega arith in
    after_part (body_at table page at extent) (0x00 ∷ other ∷ bytes) (switch other) (refl, open_, room) tt
    (sym (found_in_body (body_at table page at extent) (0x00 ∷ other ∷ bytes) refl)
    ∙ switch_front page other table bytes low)
    ∙ spelled_read rest (omega (arith, room)) ∙ ap (λ n. told_before tokens (begun_by (body_at table last n end))) place
spelled_read {table} {page} {at} {last} {extent} {end}
    (a_token {tokens = tokens} t first rest bytes open_ spells later is) room =
    let r : Reader = body_at table page at extent in
    let size : length bytes ≡ length first + length rest = ap length is ∙ length-append first rest in
    let place : at + length first + length rest ≡ at + length bytes = omega (arith, size) in
    after_part r bytes (token t (length first)) (refl, open_, room) tt
    (sym (found_in_body r bytes refl) ∙ ap (front page table) is ∙ spelled_front page table t first rest spells)
    ∙ ap (λ y. told_before (record { at = at; token = t } ∷ [])
    (reads (begun_by (body_at table page (at + length first) (extent_after extent t))) y))
    (ap (drop (length first)) is ∙ drop_at first rest (length first) refl)
    ∙ ap (told_before (record { at = at; token = t } ∷ [])) (spelled_read later (omega (arith, room, size)))
    ∙ told-told (record { at = at; token = t } ∷ []) tokens
    (begun_by (body_at table last (at + length first + length rest) end))
    ∙ ap (λ n. told_before (record { at = at; token = t } ∷ tokens) (begun_by (body_at table last n end))) place

-- ---- what is read is spelled

-- the bytes are those of the tokens that were read, and then what is held, a part that isn't whole
pub record IsSpelt (table : List ℕ) (page at : ℕ) (extent : Extent) (bytes : List ℕ) (x : Reading) : Type 0 where
  pub body : List ℕ
  pub last : ℕ
  pub end : Extent
  pub held : List ℕ
  pub whole : bytes ≡ body ++ held
  pub spells : SpellsTokens table page at extent x.tokens body last end
  pub reader : x.reader ≡ record (body_at table last (at + length body) end) { held = held }
  pub begun : front last table held ≡ more
  pub ended : is_whole end ≡ true → held ≡ []

some_not_none : (f : Refusal) → Some f ≡ None → ⊥
some_not_none f e = cc

-- behind a part that is spelled
spelt_on : (table : List ℕ) (page at page2 at2 : ℕ) (extent extent2 : Extent) (bytes rest : List ℕ) (size : ℕ)
    (tokens : List Placed) (x y : Reading)
    → x ≡ told_before tokens y → rest ≡ drop size bytes → at2 ≡ at + size → size ≤ length bytes
    → ((body : List ℕ) (last : ℕ) (end : Extent) → SpellsTokens table page2 at2 extent2 y.tokens body last end
    → SpellsTokens table page at extent (tokens ++ y.tokens) (take size bytes ++ body) last end)
    → IsSpelt table page2 at2 extent2 rest y → IsSpelt table page at extent bytes x
spelt_on table page at page2 at2 extent extent2 bytes rest size tokens x y is is_rest place few more_spelled s =
    record {
      body = take size bytes ++ s.body;
      last = s.last;
      end = s.end;
      held = s.held;
      whole =
          sym (take-append-drop size bytes) ∙ ap (λ z. take size bytes ++ z) (sym is_rest ∙ s.whole)
          ∙ sym (append_assoc (take size bytes) s.body s.held);
      spells =
          subst (λ t. SpellsTokens table page at extent t (take size bytes ++ s.body) s.last s.end)
          (ap (λ z. z.tokens) (sym is)) (more_spelled s.body s.last s.end s.spells);
      reader = ap (λ z. z.reader) is ∙ s.reader
          ∙ ap (λ n. record (body_at table s.last n s.end) { held = s.held })
          (omega (arith, place, length-append (take size bytes) s.body, length-take-le size bytes few));
      begun = s.begun;
      ended = s.ended;
    }

-- nothing more than the part that isn't whole
spelt_none : (table : List ℕ) (page at : ℕ) (extent : Extent) (bytes : List ℕ) (x : Reading)
    → x ≡ begun_by (record (body_at table page at extent) { held = bytes })
    → front page table bytes ≡ more → (is_whole extent ≡ true → bytes ≡ []) → IsSpelt table page at extent bytes x
spelt_none table page at extent bytes x is begun ended = record {
  body = [];
  last = page;
  end = extent;
  held = bytes;
  whole = refl;
  spells = subst (λ t. SpellsTokens table page at extent t [] page extent) (ap (λ z. z.tokens) (sym is)) none;
  reader = ap (λ z. z.reader) is ∙ ap (λ n. record (body_at table page n extent) { held = bytes }) place;
  begun = begun;
  ended = ended;
}
  where
    place : at ≡ at + 0
    place = omega arith

pub refused_none : (x : Reading) (f : Refusal) → x.refused ≡ Some f → x.refused ≡ None → ⊥
refused_none x f is h = some_not_none f (sym is ∙ h)

-- no byte is taken behind the whole element
whole_ends : (table : List ℕ) (page at : ℕ) (extent : Extent) (bytes : List ℕ) → is_whole extent ≡ true
    → (reads (begun_by (body_at table page at extent)) bytes).refused ≡ None → bytes ≡ []
unfolding reads
whole_ends table page at extent [] whole h = refl
whole_ends table page at extent (b ∷ bs) whole h =
    let r : Reader = body_at table page at extent in
    let limited : limit r ≡ Some reasons.Trailing =
    ap (λ (c : Bool). if c then Some reasons.Trailing else if taken_by r == most_bytes then Some reasons.Toolong
    else None) whole in
    let stopped : reads (begun_by r) (b ∷ bs) ≡ refuse (begun_by r) (taken_by r) reasons.Trailing =
    ap (λ o. reads (step_within o (begun_by r) b) bs) limited
    ∙ stays (refuse (begun_by r) (taken_by r) reasons.Trailing) (record { at = taken_by r; reason = reasons.Trailing })
    bs refl in
    absurd (refused_none (reads (begun_by r) (b ∷ bs)) (record { at = taken_by r; reason = reasons.Trailing })
    (ap (λ x. x.refused) stopped) h)

-- what is read of bytes is spelled, where they are at most so many
abbrev Again : List ℕ → ℕ → Type 0
Again table n =
    (page at : ℕ) (extent : Extent) (bytes : List ℕ) → length bytes ≤ n → AreBytes bytes
    → at + length bytes ≤ most_bytes
    → (reads (begun_by (body_at table page at extent)) bytes).refused ≡ None
    → IsSpelt table page at extent bytes (reads (begun_by (body_at table page at extent)) bytes)

one_part : (n : ℕ) (table : List ℕ) (page at page2 : ℕ) (extent extent2 : Extent) (bytes : List ℕ) (size : ℕ)
    (tokens : List Placed) → Again table n
    → reads (begun_by (body_at table page at extent)) bytes
    ≡ told_before tokens (reads (begun_by (body_at table page2 (at + size) extent2)) (drop size bytes))
    → 0 < size → size ≤ length bytes → length bytes ≤ suc n → AreBytes bytes → at + length bytes ≤ most_bytes
    → (reads (begun_by (body_at table page at extent)) bytes).refused ≡ None
    → ((later : List Placed) (body : List ℕ) (last : ℕ) (end : Extent)
    → SpellsTokens table page2 (at + size) extent2 later body last end
    → SpellsTokens table page at extent (tokens ++ later) (take size bytes ++ body) last end)
    → IsSpelt table page at extent bytes (reads (begun_by (body_at table page at extent)) bytes)
one_part n table page at page2 extent extent2 bytes size tokens again is some few short fit room h more_spelled =
    let y : Reading = reads (begun_by (body_at table page2 (at + size) extent2)) (drop size bytes) in
    spelt_on table page at page2 (at + size) extent extent2 bytes (drop size bytes) size tokens
    (reads (begun_by (body_at table page at extent)) bytes) y
    is refl refl few (more_spelled y.tokens)
    (again page2 (at + size) extent2 (drop size bytes) (omega (arith, short, some, length-drop size bytes))
    (bytes_after size bytes fit)
    (omega (arith, room, few, length-drop size bytes)) (sym (ap (λ x. x.refused) is) ∙ h))

part_first : (n : ℕ) (table : List ℕ) (page at : ℕ) (extent : Extent) (bytes : List ℕ) (f : Front) → Again table n
    → front page table bytes ≡ f → is_whole extent ≡ false
    → length bytes ≤ suc n → AreBytes bytes → at + length bytes ≤ most_bytes
    → (reads (begun_by (body_at table page at extent)) bytes).refused ≡ None
    → IsSpelt table page at extent bytes (reads (begun_by (body_at table page at extent)) bytes)
part_first n table page at extent bytes more again is open_ short fit room h =
    let r : Reader = body_at table page at extent in
    let walked : Walks (begun_by r) bytes bytes more =
    subst (Walks (begun_by r) bytes bytes) (sym (found_in_body r bytes refl) ∙ is)
    (walks_first r bytes (refl, open_, room)) in
    spelt_none table page at extent bytes (reads (begun_by r) bytes) walked is
    (λ whole. absurd (true_false (sym whole ∙ open_)))
  where
    true_false : true ≡ false → ⊥
    true_false e = cc
part_first n table page at extent bytes (wrong place reason) again is open_ short fit room h =
    let r : Reader = body_at table page at extent in
    let walked : Walks (begun_by r) bytes bytes (wrong place reason) =
    subst (Walks (begun_by r) bytes bytes) (sym (found_in_body r bytes refl) ∙ is)
    (walks_first r bytes (refl, open_, room)) in
    absurd (refused_none (reads (begun_by r) bytes) (record { at = at + place; reason = reason }) walked.0 h)
part_first n table page at extent bytes (head t size) again is open_ short fit room h =
    absurd (no_head page table bytes t size fit is)
part_first n table page at extent bytes (switch other) again is open_ short fit room h =
    let r : Reader = body_at table page at extent in
    let there = switch_there page table bytes other fit is in
    one_part n table page at other extent extent bytes 2 [] again
    (after_part r bytes (switch other) (refl, open_, room) tt (sym (found_in_body r bytes refl) ∙ is)) (omega arith)
    (omega (arith, ap length there.1)) short fit room h
    (λ later body last end s.
    subst (λ y. SpellsTokens table page at extent later (y ++ body) last end) (sym (ap (take 2) there.1))
    (a_switch open_ there.0 s))
part_first n table page at extent bytes (token t size) again is open_ short fit room h =
    let r : Reader = body_at table page at extent in
    let spelt = front_spelt page table bytes t size fit is in
    let long : length (take size bytes) ≡ size = length-take-le size bytes spelt.0 in
    one_part n table page at page extent (extent_after extent t) bytes size (record { at = at; token = t } ∷ []) again
    (after_part r bytes (token t size) (refl, open_, room) tt (sym (found_in_body r bytes refl) ∙ is))
    (token_has_bytes page table bytes t size fit is)
    spelt.0 short fit room h
    (λ later body last end s. a_token t (take size bytes) body (take size bytes ++ body) open_ spelt.1
    (subst (λ k. SpellsTokens table page (at + k) (extent_after extent t) later body last end) (sym long) s) refl)

whole_read : (table : List ℕ) (page at : ℕ) (extent : Extent) (bytes : List ℕ) → is_whole extent ≡ true
    → (reads (begun_by (body_at table page at extent)) bytes).refused ≡ None
    → IsSpelt table page at extent bytes (reads (begun_by (body_at table page at extent)) bytes)
unfolding reads front
whole_read table page at extent bytes whole h =
    let none_left : bytes ≡ [] = whole_ends table page at extent bytes whole h in
    spelt_none table page at extent bytes (reads (begun_by (body_at table page at extent)) bytes)
    (ap (reads (begun_by (body_at table page at extent))) none_left
    ∙ ap (λ y. begun_by (record (body_at table page at extent) { held = y })) (sym none_left))
    (ap (front page table) none_left) (λ _. none_left)

by_extent : (n : ℕ) (table : List ℕ) (page at : ℕ) (extent : Extent) (bytes : List ℕ) (c : Bool) → Again table n
    → is_whole extent ≡ c → length bytes ≤ suc n → AreBytes bytes
    → at + length bytes ≤ most_bytes → (reads (begun_by (body_at table page at extent)) bytes).refused ≡ None
    → IsSpelt table page at extent bytes (reads (begun_by (body_at table page at extent)) bytes)
by_extent n table page at extent bytes true again e short fit room h = whole_read table page at extent bytes e h
by_extent n table page at extent bytes false again e short fit room h =
    part_first n table page at extent bytes (front page table bytes) again refl e short fit room h

no_bytes : (table : List ℕ) (page at : ℕ) (extent : Extent) (bytes : List ℕ) → length bytes ≤ 0
    → IsSpelt table page at extent bytes (reads (begun_by (body_at table page at extent)) bytes)
unfolding reads front
no_bytes table page at extent [] short =
    spelt_none table page at extent [] (begun_by (body_at table page at extent)) refl refl (λ _. refl)
no_bytes table page at extent (b ∷ bs) short = absurd (omega (arith, short))

-- the tokens that are read of the body, where nothing is refused, are spelled by its bytes
pub read_spelt : (n : ℕ) (table : List ℕ) → Again table n
read_spelt zero table page at extent bytes short fit room h = no_bytes table page at extent bytes short
read_spelt (suc n) table page at extent bytes short fit room h =
    by_extent n table page at extent bytes (is_whole extent) (read_spelt n table) refl short fit room h
