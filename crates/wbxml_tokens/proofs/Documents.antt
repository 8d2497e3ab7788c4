-- Documents that spell tokens are read as them, and what is read is spelled.
use Rattle.std.proofs.Common.{ℕ, ◌≡◌, ◌≤◌, ◌+◌, List, [], ◌++◌, length, length-append, take, drop, refl, sym, ap, ◌∙◌}
use Rattle.std.proofs.Common.{subst, arith, inl, inr}
use Rattle.std.proofs.lemmas.List.{take-append-drop, length-drop, length-take-le, append-nil, drop_at}
use Rattle.std.specs.Prelude.{None, ◌⊎◌}
use Rattle.wbxml_ints.specs.Multibyte.{AreBytes}
use Rattle.wbxml_tokens.specs.declared.token.Placed.{Placed}
use Rattle.wbxml_tokens.specs.declared.extent.Extent.{Extent}
use Rattle.wbxml_tokens.specs.declared.extent.Extent.TheVariants as extents
use Rattle.wbxml_tokens.specs.Fronts.{Front, more, wrong, head, switch, token, prologue_at}
use Rattle.wbxml_tokens.specs.Reading.{first_reader, begun_by, most_bytes, reads, reading}
use Rattle.wbxml_tokens.specs.Taking.{told_before}
use Rattle.wbxml_tokens.specs.Spelled.{IsPrologue, SpellsTokens, IsReadSo, SpelledTokensAreRead, ReadIsSpelled}
use Rattle.wbxml_tokens.proofs.Steps.{Walks}
use Rattle.wbxml_tokens.proofs.Turns.{after_part, walks_first}
use Rattle.wbxml_tokens.proofs.Spells.{bytes_after}
use Rattle.wbxml_tokens.proofs.Bodies.{body_at, spelled_read, read_spelt, refused_none}
use Rattle.wbxml_tokens.proofs.Heads.{prologue_front, prologue_there, OfPrologue, of_prologue}

-- a whole prologue leads to the body
pub entered_body : (bytes table : List ℕ) (used : ℕ) → length bytes ≤ most_bytes → prologue_at bytes ≡ head table used
    → reading bytes ≡ told_before [] (reads (begun_by (body_at table 0 used extents.Before)) (drop used bytes))
entered_body bytes table used room is =
    let place : 0 + used ≡ used = omega arith in
    after_part first_reader bytes (head table used) (refl, refl, omega (arith, room)) tt is
    ∙ ap (λ n. told_before [] (reads (begun_by (body_at table 0 n extents.Before)) (drop used bytes))) place

-- a document that spells tokens leads to a reader of the body
pub spelled_reading : (table prologue body : List ℕ) (tokens : List Placed) (page : ℕ) (extent : Extent)
    → IsPrologue table prologue
    → SpellsTokens table 0 (length prologue) extents.Before tokens body page extent
    → length (prologue ++ body) ≤ most_bytes
    → reading (prologue ++ body)
    ≡ told_before [] (told_before tokens (begun_by (body_at table page (length prologue + length body) extent)))
spelled_reading table prologue body tokens page extent is_prologue spells room =
    entered_body (prologue ++ body) table (length prologue) room (prologue_front table prologue body is_prologue)
    ∙ ap (λ y. told_before [] (reads (begun_by (body_at table 0 (length prologue) extents.Before)) y))
    (drop_at prologue body (length prologue) refl)
    ∙ ap (told_before []) (spelled_read spells (omega (arith, room, length-append prologue body)))

pub spelled_is_read : SpelledTokensAreRead
spelled_is_read table prologue body tokens page extent is_prologue spells room =
    let all : reading (prologue ++ body)
    ≡ told_before [] (told_before tokens (begun_by (body_at table page (length prologue + length body) extent))) =
    spelled_reading table prologue body tokens page extent is_prologue spells room in
    (ap (λ x. x.tokens) all ∙ append-nil tokens, ap (λ x. x.refused) all, ap (λ x. x.reader.extent) all)

-- what is known of bytes of which none is refused: what they spell, and how far the element has come
abbrev pub Known : List ℕ → Type 0
Known bytes =
    ((s : IsReadSo bytes (reading bytes).tokens) × ((reading bytes).reader.extent ≡ s.extent))
    ⊎ (((reading bytes).tokens ≡ []) × (prologue_at bytes ≡ more) × ((reading bytes).reader.extent ≡ extents.Before))

known_by : (bytes : List ℕ) (f : Front) → AreBytes bytes → length bytes ≤ most_bytes → (reading bytes).refused ≡ None
    → prologue_at bytes ≡ f → Known bytes
known_by bytes more fit room sound is =
    let walked : Walks (begun_by first_reader) bytes bytes more =
    subst (Walks (begun_by first_reader) bytes bytes) is (walks_first first_reader bytes (refl, refl, omega (arith, room))) in
    inr (ap (λ x. x.tokens) walked, is, ap (λ x. x.reader.extent) walked)
known_by bytes (wrong at reason) fit room sound is =
    let walked : Walks (begun_by first_reader) bytes bytes (wrong at reason) =
    subst (Walks (begun_by first_reader) bytes bytes) is (walks_first first_reader bytes (refl, refl, omega (arith, room))) in
    absurd (refused_none (reading bytes) (record { at = 0 + at; reason = reason }) walked.0 sound)
known_by bytes (head table used) fit room sound is =
    let there = prologue_there bytes table used fit is in
    let entered = entered_body bytes table used room is in
    let long : length (take used bytes) ≡ used = length-take-le used bytes there.0 in
    let spelt =
    read_spelt (length (drop used bytes)) table 0 used extents.Before (drop used bytes) (omega arith)
    (bytes_after used bytes fit)
    (omega (arith, room, there.0, length-drop used bytes)) (sym (ap (λ y. y.refused) entered) ∙ sound) in
    inl (
      record {
        table = table;
        prologue = take used bytes;
        body = spelt.body;
        rest = spelt.held;
        page = spelt.last;
        extent = spelt.end;
        whole = sym (take-append-drop used bytes) ∙ ap (λ y. take used bytes ++ y) spelt.whole;
        is_prologue = there.1;
        spells =
            subst (λ n. SpellsTokens table 0 n extents.Before (reading bytes).tokens spelt.body spelt.last spelt.end)
            (sym long)
            (subst (λ t. SpellsTokens table 0 used extents.Before t spelt.body spelt.last spelt.end)
            (ap (λ y. y.tokens) (sym entered)) spelt.spells);
        begun = spelt.begun;
        ended = spelt.ended;
      },
      ap (λ y. y.reader.extent) entered ∙ ap (λ y. y.extent) spelt.reader,
    )
known_by bytes (switch page) fit room sound is = absurd (subst OfPrologue is (of_prologue bytes))
known_by bytes (token t used) fit room sound is = absurd (subst OfPrologue is (of_prologue bytes))

pub known : (bytes : List ℕ) → AreBytes bytes → length bytes ≤ most_bytes → (reading bytes).refused ≡ None → Known bytes
known bytes fit room sound = known_by bytes (prologue_at bytes) fit room sound refl

of_known : (bytes : List ℕ) → Known bytes → IsReadSo bytes (reading bytes).tokens
    ⊎ (((reading bytes).tokens ≡ []) × (prologue_at bytes ≡ more))
of_known bytes (inl k) = inl k.0
of_known bytes (inr k) = inr (k.0, k.1)

pub read_is_spelled : ReadIsSpelled
read_is_spelled bytes fit room sound = of_known bytes (known bytes fit room sound)
