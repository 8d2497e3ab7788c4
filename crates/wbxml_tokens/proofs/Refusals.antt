-- Where and why documents are refused.
use Rattle.std.proofs.Common.{ℕ, zero, suc, ◌≡◌, ◌<◌, ◌≤◌, ◌+◌, List, [], ◌∷◌, ◌++◌, length, length-append, take, drop}
use Rattle.std.proofs.Common.{refl, sym, ap, ◌∙◌, subst, arith, append_assoc, inl, inr}
use Rattle.std.proofs.lemmas.List.{take-append-drop, length-drop, length-take, length-take-le, append-nil, take_all}
use Rattle.std.proofs.lemmas.Bool.{cases_lt}
use Rattle.std.specs.Prelude.{◌==◌, Bool, true, false, if◌then◌else◌, Option, Some, None, ◌⊎◌}
use Rattle.wbxml_ints.specs.Multibyte.{AreBytes}
use Rattle.wbxml_tokens.specs.declared.reason.Reason.{Reason}
use Rattle.wbxml_tokens.specs.declared.reason.Reason.TheVariants as reasons
use Rattle.wbxml_tokens.specs.declared.reason.Refusal.{Refusal}
use Rattle.wbxml_tokens.specs.declared.token.Placed.{Placed}
use Rattle.wbxml_tokens.specs.declared.extent.Extent.{Extent}
use Rattle.wbxml_tokens.specs.declared.extent.Extent.TheVariants as extents
use Rattle.wbxml_tokens.specs.Fronts.{Front, more, wrong, head, switch, token, front, prologue_at}
use Rattle.wbxml_tokens.specs.Reading.{Reader, Reading, first_reader, begun_by, most_bytes, taken_by, is_whole}
use Rattle.wbxml_tokens.specs.Reading.{extent_after, refuse, limit, reads, reading}
use Rattle.wbxml_tokens.specs.Taking.{told_before}
use Rattle.wbxml_tokens.specs.Spelled.{IsPrologue, SpellsTokens, none, switch as a_switch, token as a_token, IsWrong}
use Rattle.wbxml_tokens.specs.Spelled.{ReadsUpTo, RefusedAt, in_prologue, in_body, trailing, unfinished_prologue}
use Rattle.wbxml_tokens.specs.Spelled.{unfinished_body, RefusedIsTold}
use Rattle.wbxml_tokens.proofs.Steps.{Walks, stays, reads-append}
use Rattle.wbxml_tokens.proofs.Turns.{after_part, found_in_body, walks_first, reads-told}
use Rattle.wbxml_tokens.proofs.Beyond.{limit_refuses, takes_all}
use Rattle.wbxml_tokens.proofs.Spells.{front_spelt, switch_there, bytes_after, no_head, token_has_bytes}
use Rattle.wbxml_tokens.proofs.Bodies.{body_at, refused_none}
use Rattle.wbxml_tokens.proofs.Documents.{spelled_reading, entered_body, known, Known}
use Rattle.wbxml_tokens.proofs.Heads.{prologue_there, OfPrologue, of_prologue}
use Rattle.wbxml_tokens.proofs.Wrongs.{wrong_there, wrong_refused}
use Rattle.wbxml_tokens.proofs.Unfinished.{unfinished_prologue_is, prologue_waits, unfinished_part_is, part_waits}
use Rattle.wbxml_tokens.proofs.Prologues.{wrong_prologue_refused, wrong_prologue_there}

-- ---- the body, where it is refused

-- the bytes are those of tokens, and what follows is refused: a byte behind the whole element, or a part that is wrong
record IsStopped (table : List ℕ) (page at : ℕ) (extent : Extent) (bytes : List ℕ) (f : Refusal) : Type 0 where
  body : List ℕ
  tokens : List Placed
  last : ℕ
  end : Extent
  rest : List ℕ
  whole : bytes ≡ body ++ rest
  spells : SpellsTokens table page at extent tokens body last end
  place : f.at ≡ at + length body
  why : ((is_whole end ≡ true) × (0 < length rest) × (f.reason ≡ reasons.Trailing))
      ⊎ ((is_whole end ≡ false) × IsWrong last table rest f.reason)

stopped_on : (table : List ℕ) (page at page2 : ℕ) (extent extent2 : Extent) (bytes : List ℕ) (size : ℕ)
    (tokens : List Placed) (f : Refusal) → size ≤ length bytes
    → ((later : List Placed) (body : List ℕ) (last : ℕ) (end : Extent)
    → SpellsTokens table page2 (at + size) extent2 later body last end
    → SpellsTokens table page at extent (tokens ++ later) (take size bytes ++ body) last end)
    → IsStopped table page2 (at + size) extent2 (drop size bytes) f → IsStopped table page at extent bytes f
stopped_on table page at page2 extent extent2 bytes size tokens f few more_spelled s = record {
  body = take size bytes ++ s.body;
  tokens = tokens ++ s.tokens;
  last = s.last;
  end = s.end;
  rest = s.rest;
  whole =
      sym (take-append-drop size bytes) ∙ ap (λ z. take size bytes ++ z) s.whole
      ∙ sym (append_assoc (take size bytes) s.body s.rest);
  spells = more_spelled s.tokens s.body s.last s.end s.spells;
  place = omega (arith, s.place, length-append (take size bytes) s.body, length-take-le size bytes few);
  why = s.why;
}

stopped_here : (table : List ℕ) (page at : ℕ) (extent : Extent) (bytes : List ℕ) (f : Refusal) → f.at ≡ at
    → ((is_whole extent ≡ true) × (0 < length bytes) × (f.reason ≡ reasons.Trailing))
    ⊎ ((is_whole extent ≡ false) × IsWrong page table bytes f.reason)
    → IsStopped table page at extent bytes f
stopped_here table page at extent bytes f place why = record {
  body = [];
  tokens = [];
  last = page;
  end = extent;
  rest = bytes;
  whole = refl;
  spells = none;
  place = omega (arith, place);
  why = why;
}

abbrev Stops : List ℕ → ℕ → Type 0
Stops table n =
    (page at : ℕ) (extent : Extent) (bytes : List ℕ) (f : Refusal) → length bytes ≤ n → AreBytes bytes
    → at + length bytes ≤ most_bytes
    → (reads (begun_by (body_at table page at extent)) bytes).refused ≡ Some f → IsStopped table page at extent bytes f

same_refusal : (f g : Refusal) → Some f ≡ Some g → f ≡ g
same_refusal f g e = cc

part_stops : (n : ℕ) (table : List ℕ) (page at : ℕ) (extent : Extent) (bytes : List ℕ) (f : Refusal) (part : Front)
    → Stops table n → front page table bytes ≡ part
    → is_whole extent ≡ false → length bytes ≤ suc n → AreBytes bytes → at + length bytes ≤ most_bytes
    → (reads (begun_by (body_at table page at extent)) bytes).refused ≡ Some f → IsStopped table page at extent bytes f
part_stops n table page at extent bytes f more again is open_ short fit room h =
    let r : Reader = body_at table page at extent in
    let walked : Walks (begun_by r) bytes bytes more =
    subst (Walks (begun_by r) bytes bytes) (sym (found_in_body r bytes refl) ∙ is)
    (walks_first r bytes (refl, open_, room)) in
    absurd (none_is_some f (sym (ap (λ x. x.refused) walked) ∙ h))
  where
    none_is_some : (f : Refusal) → None ≡ Some f → ⊥
    none_is_some f e = cc
part_stops n table page at extent bytes f (wrong place reason) again is open_ short fit room h =
    let r : Reader = body_at table page at extent in
    let walked : Walks (begun_by r) bytes bytes (wrong place reason) =
    subst (Walks (begun_by r) bytes bytes) (sym (found_in_body r bytes refl) ∙ is)
    (walks_first r bytes (refl, open_, room)) in
    let there = wrong_there page table bytes place reason fit is in
    let same : f ≡ record { at = at + place; reason = reason } =
    same_refusal f (record { at = at + place; reason = reason }) (sym h ∙ walked.0) in
    stopped_here table page at extent bytes f (omega (arith, ap (λ x. x.at) same, there.0))
    (inr (open_, subst (IsWrong page table bytes) (sym (ap (λ x. x.reason) same)) there.1))
part_stops n table page at extent bytes f (head t size) again is open_ short fit room h =
    absurd (no_head page table bytes t size fit is)
part_stops n table page at extent bytes f (switch other) again is open_ short fit room h =
    let r : Reader = body_at table page at extent in
    let there = switch_there page table bytes other fit is in
    let few : 2 ≤ length bytes = omega (arith, ap length there.1) in
    stopped_on table page at other extent extent bytes 2 [] f few
    (λ later body last end s.
    subst (λ y. SpellsTokens table page at extent later (y ++ body) last end) (sym (ap (take 2) there.1))
    (a_switch open_ there.0 s))
    (again other (at + 2) extent (drop 2 bytes) f (omega (arith, short, few, length-drop 2 bytes))
    (bytes_after 2 bytes fit)
    (omega (arith, room, few, length-drop 2 bytes))
    (sym (ap (λ x. x.refused)
    (after_part r bytes (switch other) (refl, open_, room) tt (sym (found_in_body r bytes refl) ∙ is))) ∙ h))
part_stops n table page at extent bytes f (token t size) again is open_ short fit room h =
    let r : Reader = body_at table page at extent in
    let spelt = front_spelt page table bytes t size fit is in
    let long : length (take size bytes) ≡ size = length-take-le size bytes spelt.0 in
    let some : 0 < size = token_has_bytes page table bytes t size fit is in
    stopped_on table page at page extent (extent_after extent t) bytes size (record { at = at; token = t } ∷ []) f
    spelt.0
    (λ later body last end s. a_token t (take size bytes) body (take size bytes ++ body) open_ spelt.1
    (subst (λ k. SpellsTokens table page (at + k) (extent_after extent t) later body last end) (sym long) s) refl)
    (again page (at + size) (extent_after extent t) (drop size bytes) f
    (omega (arith, short, some, spelt.0, length-drop size bytes)) (bytes_after size bytes fit)
    (omega (arith, room, spelt.0, length-drop size bytes))
    (sym (ap (λ x. x.refused)
    (after_part r bytes (token t size) (refl, open_, room) tt (sym (found_in_body r bytes refl) ∙ is))) ∙ h))

whole_limit : (r : Reader) → is_whole r.extent ≡ true → limit r ≡ Some reasons.Trailing
whole_limit r whole =
    ap (λ (c : Bool). if c then Some reasons.Trailing else if taken_by r == most_bytes then Some reasons.Toolong
    else None) whole

whole_stops : (table : List ℕ) (page at : ℕ) (extent : Extent) (bytes : List ℕ) (f : Refusal) → is_whole extent ≡ true
    → (reads (begun_by (body_at table page at extent)) bytes).refused ≡ Some f → IsStopped table page at extent bytes f
unfolding reads
whole_stops table page at extent [] f whole h = absurd cc
whole_stops table page at extent (b ∷ bs) f whole h =
    let r : Reader = body_at table page at extent in
    let refused : reads (begun_by r) (b ∷ bs) ≡ refuse (begun_by r) (at + 0) reasons.Trailing =
    limit_refuses (begun_by r) reasons.Trailing (at + 0) (b ∷ bs) refl (whole_limit r whole) refl (omega arith) in
    let same : f ≡ record { at = at + 0; reason = reasons.Trailing } =
    same_refusal f (record { at = at + 0; reason = reasons.Trailing }) (sym h ∙ ap (λ x. x.refused) refused) in
    stopped_here table page at extent (b ∷ bs) f (omega (arith, ap (λ x. x.at) same))
    (inl (whole, omega arith, ap (λ x. x.reason) same))

stops_by : (n : ℕ) (table : List ℕ) (page at : ℕ) (extent : Extent) (bytes : List ℕ) (f : Refusal) (c : Bool)
    → Stops table n → is_whole extent ≡ c → length bytes ≤ suc n
    → AreBytes bytes → at + length bytes ≤ most_bytes
    → (reads (begun_by (body_at table page at extent)) bytes).refused ≡ Some f → IsStopped table page at extent bytes f
stops_by n table page at extent bytes f true again e short fit room h = whole_stops table page at extent bytes f e h
stops_by n table page at extent bytes f false again e short fit room h =
    part_stops n table page at extent bytes f (front page table bytes) again refl e short fit room h

no_bytes : (table : List ℕ) (page at : ℕ) (extent : Extent) (bytes : List ℕ) (f : Refusal) → length bytes ≤ 0
    → (reads (begun_by (body_at table page at extent)) bytes).refused ≡ Some f → ⊥
unfolding reads
no_bytes table page at extent [] f short h = cc
no_bytes table page at extent (b ∷ bs) f short h = omega (arith, short)

body_stops : (n : ℕ) (table : List ℕ) → Stops table n
body_stops zero table page at extent bytes f short fit room h = absurd (no_bytes table page at extent bytes f short h)
body_stops (suc n) table page at extent bytes f short fit room h =
    stops_by n table page at extent bytes f (is_whole extent) (body_stops n table) refl short fit room h

-- ---- documents

bytes_front : (n : ℕ) (bytes : List ℕ) → AreBytes bytes → AreBytes (take n bytes)
bytes_front zero bytes h = tt
bytes_front (suc n) [] h = tt
bytes_front (suc n) (b ∷ bs) h = (h.0, bytes_front n bs h.1)

front_room : (bytes : List ℕ) → length (take most_bytes bytes) ≤ most_bytes
front_room bytes = omega (arith, length-take most_bytes bytes)

-- bytes are read in two parts
in_two : (bytes : List ℕ) → reading bytes ≡ reads (reading (take most_bytes bytes)) (drop most_bytes bytes)
in_two bytes =
    ap reading (sym (take-append-drop most_bytes bytes))
    ∙ reads-append (begun_by first_reader) (take most_bytes bytes) (drop most_bytes bytes)

refused_front : (bytes : List ℕ) (g : Refusal) → (reading (take most_bytes bytes)).refused ≡ Some g
    → (reading bytes).refused ≡ Some g
refused_front bytes g h =
    ap (λ x. x.refused) (in_two bytes ∙ stays (reading (take most_bytes bytes)) g (drop most_bytes bytes) h) ∙ h

-- the bytes up to a place lead to a reader of the body
up_to : (bytes table rest : List ℕ) (page at : ℕ) (extent : Extent) (s : ReadsUpTo bytes table page at extent rest)
    → at ≤ most_bytes
    → reading bytes ≡ told_before [] (told_before s.tokens (reads (begun_by (body_at table page at extent)) rest))
up_to bytes table rest page at extent s room =
    let short : length (s.prologue ++ s.body) ≤ most_bytes =
    omega (arith, room, s.place, length-append s.prologue s.body) in
    let start : reading (s.prologue ++ s.body) ≡ told_before [] (told_before s.tokens (begun_by (body_at table page at extent))) =
    spelled_reading table s.prologue s.body s.tokens page extent s.is_prologue s.spells short
    ∙ ap (λ n. told_before [] (told_before s.tokens (begun_by (body_at table page n extent)))) (sym s.place) in
    ap reading (s.whole ∙ sym (append_assoc s.prologue s.body rest))
    ∙ reads-append (begun_by first_reader) (s.prologue ++ s.body) rest
    ∙ ap (λ x. reads x rest) start
    ∙ reads-told [] (told_before s.tokens (begun_by (body_at table page at extent))) rest
    ∙ ap (told_before []) (reads-told s.tokens (begun_by (body_at table page at extent)) rest)

place_within : (bytes table rest : List ℕ) (page at : ℕ) (extent : Extent) → ReadsUpTo bytes table page at extent rest
    → at + length rest ≡ length bytes
place_within bytes table rest page at extent s =
    omega (arith, s.place, ap length s.whole, length-append s.prologue (s.body ++ rest), length-append s.body rest)

zero_place : (at : ℕ) (reason : Reason)
    → ◌≡◌ {A = Option Refusal} (Some (record { at = at + 0; reason = reason }))
    (Some (record { at = at; reason = reason }))
zero_place at reason =
    let same : at + 0 ≡ at = omega arith in ap (λ n. Some (record { at = n; reason = reason })) same

wrong_stops : (table rest : List ℕ) (page at : ℕ) (extent : Extent) (reason : Reason) → is_whole extent ≡ false
    → at + length rest ≤ most_bytes → IsWrong page table rest reason
    → (reads (begun_by (body_at table page at extent)) rest).refused ≡ Some (record { at = at; reason = reason })
wrong_stops table rest page at extent reason open_ room h =
    let r : Reader = body_at table page at extent in
    let walked : Walks (begun_by r) rest rest (wrong 0 reason) =
    subst (Walks (begun_by r) rest rest) (sym (found_in_body r rest refl) ∙ wrong_refused page table rest reason h)
    (walks_first r rest (refl, open_, room)) in
    walked.0 ∙ zero_place at reason

whole_refuses : (table rest : List ℕ) (page at : ℕ) (extent : Extent) → is_whole extent ≡ true → 0 < length rest
    → (reads (begun_by (body_at table page at extent)) rest).refused
    ≡ Some (record { at = at; reason = reasons.Trailing })
whole_refuses table rest page at extent whole some =
    let r : Reader = body_at table page at extent in
    ap (λ x. x.refused) (limit_refuses (begun_by r) reasons.Trailing (at + 0) rest refl (whole_limit r whole) refl some)
    ∙ zero_place at reasons.Trailing

full_limit : (r : Reader) → is_whole r.extent ≡ false → taken_by r ≡ most_bytes → limit r ≡ Some reasons.Toolong
full_limit r open_ full =
    ap (λ (c : Bool). if c then Some reasons.Trailing else if taken_by r == most_bytes then Some reasons.Toolong
    else None) open_
    ∙ ap (λ (c : Bool). if c then Some reasons.Toolong else None) at_most
  where
    at_most : (taken_by r == most_bytes) ≡ true
    at_most = grind arith

-- all that a document may have was taken, and it isn't whole
long_refused : (bytes : List ℕ) → (reading (take most_bytes bytes)).refused ≡ None
    → is_whole (reading (take most_bytes bytes)).reader.extent ≡ false
    → most_bytes < length bytes → (reading bytes).refused ≡ Some (record { at = most_bytes; reason = reasons.Toolong })
long_refused bytes sound open_ long =
    let x : Reading = reading (take most_bytes bytes) in
    let full : taken_by x.reader ≡ most_bytes =
    takes_all (take most_bytes bytes) (begun_by first_reader) sound ∙ all_there in
    ap (λ y. y.refused) (in_two bytes
    ∙ limit_refuses x reasons.Toolong most_bytes (drop most_bytes bytes) sound (full_limit x.reader open_ full) full
    (omega (arith, long, length-drop most_bytes bytes)))
  where
    all_there : 0 + 0 + length (take most_bytes bytes) ≡ most_bytes
    all_there = omega (arith, length-take most_bytes bytes, long)

told_sound : (bytes table rest : List ℕ) (page at : ℕ) (extent : Extent) → ReadsUpTo bytes table page at extent rest
    → at + length rest ≤ most_bytes → is_whole extent ≡ false
    → front page table rest ≡ more → ((reading bytes).refused ≡ None) × (is_whole (reading bytes).reader.extent ≡ false)
told_sound bytes table rest page at extent s room open_ begun =
    let r : Reader = body_at table page at extent in
    let read = up_to bytes table rest page at extent s (omega (arith, room)) in
    let walked : Walks (begun_by r) rest rest more =
    subst (Walks (begun_by r) rest rest) (sym (found_in_body r rest refl) ∙ begun)
    (walks_first r rest (refl, open_, room)) in (
      ap (λ x. x.refused) read ∙ ap (λ x. x.refused) walked,
      ap (λ x. is_whole x.reader.extent) read ∙ ap (λ x. is_whole x.reader.extent) walked ∙ open_,
    )

begun_sound : (bytes : List ℕ) → length bytes ≤ most_bytes → prologue_at bytes ≡ more
    → ((reading bytes).refused ≡ None) × (is_whole (reading bytes).reader.extent ≡ false)
begun_sound bytes room is =
    let walked : Walks (begun_by first_reader) bytes bytes more =
    subst (Walks (begun_by first_reader) bytes bytes) is (walks_first first_reader bytes (refl, refl, omega (arith, room))) in
    (ap (λ x. x.refused) walked, ap (λ x. is_whole x.reader.extent) walked)

bytes_left : (a b : List ℕ) → AreBytes (a ++ b) → AreBytes b
bytes_left [] b h = h
bytes_left (x ∷ a) b h = bytes_left a b h.1

-- what the relation refuses is refused
told_refused : (bytes : List ℕ) (at : ℕ) (reason : Reason) → AreBytes bytes → RefusedAt bytes at reason
    → (reading bytes).refused ≡ Some (record { at = at; reason = reason })
told_refused bytes at reason fit (in_prologue h) =
    let first : List ℕ = take most_bytes bytes in
    let walked : Walks (begun_by first_reader) first first (wrong at reason) =
    subst (Walks (begun_by first_reader) first first) (wrong_prologue_refused first at reason h)
    (walks_first first_reader first (refl, refl, omega (arith, front_room bytes))) in
    let same : 0 + at ≡ at = omega arith in
    refused_front bytes (record { at = at; reason = reason })
    (walked.0 ∙ ap (λ n. Some (record { at = n; reason = reason })) same)
told_refused bytes at reason fit (in_body {table} {page} {extent = extent} {rest = rest} s open_ h) =
    let size = place_within (take most_bytes bytes) table rest page at extent s in
    refused_front bytes (record { at = at; reason = reason })
    (ap (λ x. x.refused)
    (up_to (take most_bytes bytes) table rest page at extent s (omega (arith, size, front_room bytes)))
    ∙ wrong_stops table rest page at extent reason open_ (omega (arith, size, front_room bytes)) h)
told_refused bytes at reason fit (trailing {table} {page} {extent = extent} {rest = rest} s whole some room) =
    ap (λ x. x.refused) (up_to bytes table rest page at extent s room)
    ∙ whole_refuses table rest page at extent whole some
told_refused bytes at reason fit (unfinished_prologue is long) =
    let first : List ℕ = take most_bytes bytes in
    let sound =
    begun_sound first (front_room bytes)
    (prologue_waits first (prologue_at first) (bytes_front most_bytes bytes fit) is refl) in
    long_refused bytes sound.0 sound.1 long
told_refused bytes at reason fit (unfinished_body {table} {page} {at = at2} {extent} {rest} s open_ begun long) =
    let first : List ℕ = take most_bytes bytes in
    let size = place_within first table rest page at2 extent s in
    let fit_rest =
    bytes_left s.body rest
    (bytes_left s.prologue (s.body ++ rest) (subst AreBytes s.whole (bytes_front most_bytes bytes fit))) in
    let sound = told_sound first table rest page at2 extent s (omega (arith, size, front_room bytes)) open_
    (part_waits page table rest (front page table rest) fit_rest begun refl) in
    long_refused bytes sound.0 sound.1 long

-- ---- what is refused, the relation refuses

-- the bytes before what stops the body
stopped_up_to : (bytes later table : List ℕ) (used : ℕ) (f : Refusal) → IsPrologue table (take used bytes)
    → used ≤ length bytes
    → (s : IsStopped table 0 used extents.Before (drop used bytes) f)
    → ReadsUpTo (bytes ++ later) table s.last f.at s.end (s.rest ++ later)
stopped_up_to bytes later table used f p few s = record {
  prologue = take used bytes;
  body = s.body;
  tokens = s.tokens;
  whole =
      ap (λ y. y ++ later) (sym (take-append-drop used bytes) ∙ ap (λ y. take used bytes ++ y) s.whole)
      ∙ simp append_assoc;
  is_prologue = p;
  spells =
      subst (λ n. SpellsTokens table 0 n extents.Before s.tokens s.body s.last s.end)
      (sym (length-take-le used bytes few)) s.spells;
  place = omega (arith, s.place, length-take-le used bytes few);
}

stopped_place : (bytes table : List ℕ) (used : ℕ) (f : Refusal) → used ≤ length bytes
    → (s : IsStopped table 0 used extents.Before (drop used bytes) f)
    → f.at ≤ length bytes
stopped_place bytes table used f few s =
    omega (arith, s.place, ap length s.whole, length-append s.body s.rest, length-drop used bytes, few)

in_either : (bytes table : List ℕ) (used : ℕ) (f : Refusal) → IsPrologue table (take used (take most_bytes bytes))
    → used ≤ length (take most_bytes bytes)
    → (s : IsStopped table 0 used extents.Before (drop used (take most_bytes bytes)) f)
    → ((is_whole s.end ≡ true) × (0 < length s.rest) × (f.reason ≡ reasons.Trailing))
    ⊎ ((is_whole s.end ≡ false) × IsWrong s.last table s.rest f.reason)
    → RefusedAt bytes f.at f.reason
in_either bytes table used f p few s (inl (whole, some, why)) =
    let first : List ℕ = take most_bytes bytes in
    let later : List ℕ = drop most_bytes bytes in
    subst (RefusedAt bytes f.at) (sym why)
    (trailing (subst (λ y. ReadsUpTo y table s.last f.at s.end (s.rest ++ later)) (take-append-drop most_bytes bytes)
    (stopped_up_to first later table used f p few s))
    whole (omega (arith, some, length-append s.rest later))
    (omega (arith, stopped_place first table used f few s, front_room bytes)))
in_either bytes table used f p few s (inr (open_, h)) =
    let first : List ℕ = take most_bytes bytes in
    in_body (subst (λ y. ReadsUpTo y table s.last f.at s.end s.rest) (append-nil first)
    (subst (ReadsUpTo (first ++ []) table s.last f.at s.end) (append-nil s.rest)
    (stopped_up_to first [] table used f p few s))) open_ h

front_by : (bytes : List ℕ) (f : Refusal) (part : Front) → AreBytes bytes
    → (reading (take most_bytes bytes)).refused ≡ Some f → prologue_at (take most_bytes bytes) ≡ part
    → RefusedAt bytes f.at f.reason
front_by bytes f more fit h is =
    absurd (refused_none (reading (take most_bytes bytes)) f h
    (begun_sound (take most_bytes bytes) (front_room bytes) is).0)
front_by bytes f (wrong at reason) fit h is =
    let first : List ℕ = take most_bytes bytes in
    let walked : Walks (begun_by first_reader) first first (wrong at reason) =
    subst (Walks (begun_by first_reader) first first) is
    (walks_first first_reader first (refl, refl, omega (arith, front_room bytes))) in
    let same : f ≡ record { at = 0 + at; reason = reason } =
    same_refusal f (record { at = 0 + at; reason = reason }) (sym h ∙ walked.0) in
    let place : at ≡ f.at = omega (arith, ap (λ x. x.at) same) in
    in_prologue (wrong_prologue_there first f.at f.reason (bytes_front most_bytes bytes fit)
    (is ∙ ap (λ n. wrong n reason) place ∙ ap (wrong f.at) (sym (ap (λ x. x.reason) same))))
front_by bytes f (head table used) fit h is =
    let first : List ℕ = take most_bytes bytes in
    let there = prologue_there first table used (bytes_front most_bytes bytes fit) is in
    let s =
    body_stops (length (drop used first)) table 0 used extents.Before (drop used first) f (omega arith)
    (bytes_after used first (bytes_front most_bytes bytes fit))
    (omega (arith, front_room bytes, there.0, length-drop used first))
    (sym (ap (λ x. x.refused) (entered_body first table used (front_room bytes) is)) ∙ h) in
    in_either bytes table used f there.1 there.0 s s.why
front_by bytes f (switch page) fit h is = absurd (subst OfPrologue is (of_prologue (take most_bytes bytes)))
front_by bytes f (token t used) fit h is = absurd (subst OfPrologue is (of_prologue (take most_bytes bytes)))

-- nothing of the first bytes is refused, so one byte more is
beyond_by : (bytes : List ℕ) (f : Refusal) (whole : Bool) → AreBytes bytes
    → (reading (take most_bytes bytes)).refused ≡ None → (reading bytes).refused ≡ Some f
    → is_whole (reading (take most_bytes bytes)).reader.extent ≡ whole → most_bytes < length bytes
    → Known (take most_bytes bytes) → RefusedAt bytes f.at f.reason
beyond_by bytes f true fit sound h e long (inr (none_read, is, before)) =
    absurd (true_false (sym e ∙ ap is_whole before))
  where
    true_false : true ≡ false → ⊥
    true_false h = cc
beyond_by bytes f false fit sound h e long (inr (none_read, is, before)) =
    let same : f ≡ record { at = most_bytes; reason = reasons.Toolong } =
    same_refusal f (record { at = most_bytes; reason = reasons.Toolong }) (sym h ∙ long_refused bytes sound e long) in
    subst (λ g. RefusedAt bytes g.at g.reason) (sym same)
    (unfinished_prologue (unfinished_prologue_is (take most_bytes bytes) is) long)
beyond_by bytes f false fit sound h e long (inl (s, extent)) =
    let same : f ≡ record { at = most_bytes; reason = reasons.Toolong } =
    same_refusal f (record { at = most_bytes; reason = reasons.Toolong }) (sym h ∙ long_refused bytes sound e long) in
    subst (λ g. RefusedAt bytes g.at g.reason) (sym same)
    (unfinished_body (record {
      prologue = s.prologue;
      body = s.body;
      tokens = (reading (take most_bytes bytes)).tokens;
      whole = s.whole;
      is_prologue = s.is_prologue;
      spells = s.spells;
      place = refl;
    }) (ap is_whole (sym extent) ∙ e) (unfinished_part_is s.page s.table s.rest s.begun) long)
beyond_by bytes f true fit sound h e long (inl (s, extent)) =
    let later : List ℕ = drop most_bytes bytes in
    let whole : is_whole s.extent ≡ true = ap is_whole (sym extent) ∙ e in
    let empty : s.rest ≡ [] = s.ended whole in
    let there : ReadsUpTo bytes s.table s.page (length s.prologue + length s.body) s.extent later = record {
      prologue = s.prologue;
      body = s.body;
      tokens = (reading (take most_bytes bytes)).tokens;
      whole =
          sym (take-append-drop most_bytes bytes)
          ∙ ap (λ y. y ++ later) (s.whole ∙ ap (λ y. s.prologue ++ (s.body ++ y)) empty)
          ∙ simp (append_assoc, append-nil);
      is_prologue = s.is_prologue;
      spells = s.spells;
      place = refl;
    } in
    let room : length s.prologue + length s.body ≤ most_bytes =
    omega (
      arith,
      ap length s.whole,
      length-append s.prologue (s.body ++ s.rest),
      length-append s.body s.rest,
      front_room bytes,
    ) in
    let some : 0 < length later = omega (arith, long, length-drop most_bytes bytes) in
    let told_it : (reading bytes).refused
    ≡ Some (record { at = length s.prologue + length s.body; reason = reasons.Trailing }) =
    ap (λ x. x.refused) (up_to bytes s.table later s.page (length s.prologue + length s.body) s.extent there room)
    ∙ whole_refuses s.table later s.page (length s.prologue + length s.body) s.extent whole some in
    let same : f ≡ record { at = length s.prologue + length s.body; reason = reasons.Trailing } =
    same_refusal f (record { at = length s.prologue + length s.body; reason = reasons.Trailing }) (sym h ∙ told_it) in
    subst (λ g. RefusedAt bytes g.at g.reason) (sym same) (trailing there whole some room)

is_longer : (bytes : List ℕ) (f : Refusal) → (reading (take most_bytes bytes)).refused ≡ None
    → (reading bytes).refused ≡ Some f → most_bytes < length bytes
is_longer bytes f sound h = elim (cases_lt most_bytes (length bytes)) [
  | inl long ↦ long
  | inr short ↦
      absurd (refused_none (reading bytes) f h
      (ap (λ y. (reading y).refused) (sym (take_all most_bytes bytes short)) ∙ sound))
]

refused_by : (bytes : List ℕ) (f : Refusal) (o : Option Refusal) → AreBytes bytes
    → (reading (take most_bytes bytes)).refused ≡ o → (reading bytes).refused ≡ Some f
    → RefusedAt bytes f.at f.reason
refused_by bytes f (Some g) fit e h =
    let same : f ≡ g = same_refusal f g (sym h ∙ refused_front bytes g e) in
    front_by bytes f (prologue_at (take most_bytes bytes)) fit (e ∙ ap Some (sym same)) refl
refused_by bytes f None fit e h =
    beyond_by bytes f (is_whole (reading (take most_bytes bytes)).reader.extent) fit e h refl (is_longer bytes f e h)
    (known (take most_bytes bytes) (bytes_front most_bytes bytes fit) (front_room bytes) e)

pub refused_is_told : RefusedIsTold
refused_is_told bytes at reason fit = (
  λ h. refused_by bytes (record { at = at; reason = reason }) (reading (take most_bytes bytes)).refused fit refl h,
  told_refused bytes at reason fit,
)
