-- A decoder that is fed pieces stands behind their bytes.
use Rattle.std.proofs.Common.{ℕ, suc, ◌≡◌, ◌<◌, ◌+◌, ◌-◌, ◌^◌, min, List, [], ◌∷◌, ◌++◌, length, length-append, refl}
use Rattle.std.proofs.Common.{sym, ap, ◌∙◌, subst, arith, inl, inr}
use Rattle.std.proofs.lemmas.List.{append-nil}
use Rattle.std.specs.Prelude.{Option, Some, None, Result, Ok, Err, ok_or, get_or}
use Rattle.wbxml_ints.specs.Multibyte.{AreBytes}
use Rattle.wbxml_tokens.specs.declared.reason.Refusal.{Refusal}
use Rattle.wbxml_tokens.specs.declared.reason.FeedError.{FeedError}
use Rattle.wbxml_tokens.specs.declared.reason.FeedError.TheVariants as errors
use Rattle.wbxml_tokens.specs.declared.reason.Reason.TheVariants as reasons
use Rattle.wbxml_tokens.specs.declared.token.Placed.{Placed}
use Rattle.wbxml_tokens.specs.Reading.{Reading, first_reader, begun_by, reads, reading}
use Rattle.wbxml_tokens.specs.Taking.{taken_all, told_before, IsFirst, Stops, ◌>>=◌}
use Rattle.wbxml_tokens.proofs.Steps.{reads-append}
use Rattle.wbxml_tokens.proofs.Turns.{reads-told, taken-append}
use Rattle.syncml_types.specs.Message.{Parts}
use Rattle.syncml_grammar.specs.Building.{Building, IsLacking, no_building, built_by}
use Rattle.syncml_grammar.specs.Taken.{building}
use Rattle.syncml_codec.specs.Messages.{Spells, MessageRefusedAt}
use Rattle.syncml_codec.specs.Decoding.{built, first_refused, settled, parts_of, read_by, read_of, IsRead, Decodes}
use Rattle.syncml_codec.specs.Decoding.{TellsSettled, Decoding, StandsBehind, HasDecoded}
use Rattle.syncml_codec.proofs.Unrefused.{sound_within}
use Rattle.syncml_codec.proofs.Decoded.{spelled_is_read, refused_is_read, settled_more, settled_read}

pub nothing_fed : (d : Decoding) → d ≡ record { reader = first_reader; building = no_building; length = 0; stopped = None }
    → HasDecoded d []
unfolding HasDecoded settled reads
nothing_fed d is = subst (λ (e : Decoding). StandsBehind e.stopped e []) (sym is) (refl, refl, refl, refl)

-- ---- one more piece

-- a decoder that nothing has stopped
abbrev Stands : Decoding → List ℕ → Type 0
Stands d bytes =
    (settled bytes ≡ None) × (d.reader ≡ (reading bytes).reader) × (built bytes ≡ Ok d.building)
    × (d.length ≡ length bytes)

stands_by : (d : Decoding) (bytes : List ℕ) → d.stopped ≡ None → HasDecoded d bytes → Stands d bytes
unfolding HasDecoded
stands_by d bytes going h = subst (λ o. StandsBehind o d bytes) going h

sound_by : (r : Result Building Refusal) (o : Option Refusal) → first_refused r o ≡ None → o ≡ None
sound_by (Ok b) o h = h
sound_by (Err f) o h = cc

sound_of : (bytes : List ℕ) → settled bytes ≡ None → (reading bytes).refused ≡ None
unfolding settled
sound_of bytes h = sound_by (built bytes) (reading bytes).refused h

read_on : (d : Decoding) (bytes piece : List ℕ) → Stands d bytes
    → reading (bytes ++ piece) ≡ told_before (reading bytes).tokens (reads (begun_by d.reader) piece)
read_on d bytes piece s =
    let x : Reading = reading bytes in
    reads-append (begun_by first_reader) bytes piece
    ∙ ap (λ y. reads y piece)
    (ap (λ f. record { tokens = x.tokens; refused = f; reader = x.reader }) (sound_of bytes s.0)
    ∙ ap (λ t. record { tokens = t; refused = None; reader = x.reader }) (sym (append-nil x.tokens)))
    ∙ reads-told x.tokens (begun_by x.reader) piece
    ∙ ap (λ y. told_before x.tokens (reads (begun_by y) piece)) (sym s.1)

built_on : (d : Decoding) (bytes piece : List ℕ) → Stands d bytes
    → built (bytes ++ piece) ≡ taken_all building d.building (reads (begun_by d.reader) piece).tokens
built_on d bytes piece s =
    let later : List Placed = (reads (begun_by d.reader) piece).tokens in
    ap (λ (x : Reading). taken_all building no_building x.tokens) (read_on d bytes piece s)
    ∙ taken-append building no_building (reading bytes).tokens later ∙ ap (λ r. r >>= (λ v. taken_all building v later)) s.2

settled_on : (bytes : List ℕ) (r : Result Building Refusal) (o : Option Refusal) → built bytes ≡ r
    → (reading bytes).refused ≡ o → settled bytes ≡ first_refused r o
unfolding settled
settled_on bytes r o is refused = ap (λ b. first_refused b (reading bytes).refused) is ∙ ap (first_refused r) refused

-- a piece of which nothing is refused
pub fed_ok : (d e : Decoding) (bytes piece : List ℕ) → HasDecoded d bytes → d.stopped ≡ None → e.stopped ≡ None
    → (taken_all building d.building (reads (begun_by d.reader) piece).tokens ≡ Ok e.building)
    × ((reads (begun_by d.reader) piece).refused ≡ None)
    → e.reader ≡ (reads (begun_by d.reader) piece).reader → e.length ≡ min (d.length + length piece) (2 ^ 64 - 1)
    → (settled (bytes ++ piece) ≡ None) × HasDecoded e (bytes ++ piece)
unfolding HasDecoded
fed_ok d e bytes piece h going goes_on (handed, sound) is_reader is_length =
    let x = stands_by d bytes going h in
    let on = read_on d bytes piece x in
    let all : (reading (bytes ++ piece)).refused ≡ None = ap (λ y. y.refused) on ∙ sound in
    let is : built (bytes ++ piece) ≡ Ok e.building = built_on d bytes piece x ∙ handed in
    let none_settled : settled (bytes ++ piece) ≡ None = settled_on (bytes ++ piece) (Ok e.building) None is all in
    let count : e.length ≡ length (bytes ++ piece) =
    omega (arith, is_length, x.3, length-append bytes piece, sound_within (bytes ++ piece) all) in (
      none_settled,
      subst (λ o. StandsBehind o e (bytes ++ piece)) (sym goes_on)
          (none_settled, is_reader ∙ sym (ap (λ y. y.reader) on), is, count),
    )

-- a piece of which something is refused
fed_refused : (d e : Decoding) (bytes piece : List ℕ) (b : Building) (f : Refusal) → HasDecoded d bytes
    → d.stopped ≡ None
    → IsFirst (taken_all building d.building (reads (begun_by d.reader) piece).tokens) b
    (reads (begun_by d.reader) piece).refused f → e.stopped ≡ Some (errors.Refused f)
    → (settled (bytes ++ piece) ≡ Some f) × HasDecoded e (bytes ++ piece)
unfolding HasDecoded
fed_refused d e bytes piece b f h going first stops =
    let x = stands_by d bytes going h in
    let is = refused_so first x in
    (is, subst (λ o. StandsBehind o e (bytes ++ piece)) (sym stops) is)
  where
    refused_so : IsFirst (taken_all building d.building (reads (begun_by d.reader) piece).tokens) b
        (reads (begun_by d.reader) piece).refused f → Stands d bytes → settled (bytes ++ piece) ≡ Some f
    refused_so (inl handed) x =
        settled_on (bytes ++ piece) (Err f) (reading (bytes ++ piece)).refused (built_on d bytes piece x ∙ handed) refl
    refused_so (inr (handed, refused)) x =
        settled_on (bytes ++ piece) (Ok b) (Some f) (built_on d bytes piece x ∙ handed)
        (ap (λ y. y.refused) (read_on d bytes piece x) ∙ refused)

-- a piece for which memory lacked
fed_lacking : (e : Decoding) (bytes : List ℕ) → e.stopped ≡ Some errors.Memory → HasDecoded e bytes
unfolding HasDecoded
fed_lacking e bytes stops = subst (λ o. StandsBehind o e bytes) (sym stops) tt

-- a piece that is answered by an error
pub fed_error : (d e : Decoding) (bytes piece : List ℕ) (error : FeedError) → HasDecoded d bytes → d.stopped ≡ None
    → Stops building IsLacking error d.building e.building (reads (begun_by d.reader) piece) → e.stopped ≡ Some error
    → TellsSettled (Err error) (settled (bytes ++ piece)) × HasDecoded e (bytes ++ piece)
fed_error d e bytes piece (errors.Refused f) h going first stops =
    fed_refused d e bytes piece e.building f h going first stops
fed_error d e bytes piece errors.Memory h going lacking stops = (tt, fed_lacking e (bytes ++ piece) stops)

-- a piece behind what stopped the decoder
pub fed_stopped : (d : Decoding) (bytes piece : List ℕ) (e : FeedError) → HasDecoded d bytes → d.stopped ≡ Some e
    → TellsSettled (Err e) (settled (bytes ++ piece)) × HasDecoded d (bytes ++ piece)
unfolding HasDecoded
fed_stopped d bytes piece (errors.Refused f) h stops =
    let is = settled_more bytes piece f (subst (λ o. StandsBehind o d bytes) stops h) in
    (is, subst (λ o. StandsBehind o d (bytes ++ piece)) (sym stops) is)
fed_stopped d bytes piece errors.Memory h stops = (tt, fed_lacking d (bytes ++ piece) stops)

-- ---- the end

pub finished_stopped : (d : Decoding) (bytes : List ℕ) (e : FeedError) → HasDecoded d bytes → d.stopped ≡ Some e
    → IsRead (Err e) (read_of bytes)
unfolding HasDecoded
finished_stopped d bytes (errors.Refused f) h stops = settled_read bytes f (subst (λ o. StandsBehind o d bytes) stops h)
finished_stopped d bytes errors.Memory h stops = tt

read_when_open : (d : Decoding) (bytes : List ℕ) (p : Option Parts) → Stands d bytes → built_by d.building ≡ p
    → read_of bytes ≡ read_by None p (length bytes)
unfolding read_of
read_when_open d bytes p s is =
    ap (λ o. read_by o (parts_of (built bytes)) (length bytes)) s.0
    ∙ ap (λ q. read_by None q (length bytes)) (ap parts_of s.2 ∙ is)

pub finished_whole : (d : Decoding) (bytes : List ℕ) (parts : Parts) → HasDecoded d bytes → d.stopped ≡ None
    → Some parts ≡ built_by d.building → read_of bytes ≡ Ok parts
finished_whole d bytes parts h going is = read_when_open d bytes (Some parts) (stands_by d bytes going h) (sym is)

pub finished_cut : (d : Decoding) (bytes : List ℕ) → HasDecoded d bytes → d.stopped ≡ None → None ≡ built_by d.building
    → read_of bytes ≡ Err (record { at = d.length; reason = reasons.Truncated })
finished_cut d bytes h going is =
    let s = stands_by d bytes going h in
    read_when_open d bytes None s (sym is) ∙ ap (λ n. Err (record { at = n; reason = reasons.Truncated })) (sym s.3)

-- what a decoder that nothing has stopped answers at its end
abbrev pub cut : Decoding → FeedError
cut d = errors.Refused (record { at = d.length; reason = reasons.Truncated })

either : (d : Decoding) (bytes : List ℕ) → HasDecoded d bytes → d.stopped ≡ None → (found : Option Parts)
    → found ≡ built_by d.building
    → IsRead (ok_or found (cut d)) (read_of bytes)
either d bytes h going None is = finished_cut d bytes h going is
either d bytes h going (Some parts) is = finished_whole d bytes parts h going is

pub finished : (d : Decoding) (bytes : List ℕ) (r : Result Parts FeedError) → HasDecoded d bytes → d.stopped ≡ None
    → r ≡ ok_or (built_by d.building) (cut d) → IsRead r (read_of bytes)
finished d bytes r h going is =
    subst (λ answer. IsRead answer (read_of bytes)) (sym is) (either d bytes h going (built_by d.building) refl)

-- ---- what an answer means

pub are_bytes : (bytes : List ℕ) → ((i : ℕ) → get_or bytes i 0 < 256) → AreBytes bytes
are_bytes [] h = tt
are_bytes (b ∷ bytes) h = (h 0, are_bytes bytes (λ i. h (suc i)))

pub answer_exact : (r : Result Parts FeedError) (bytes : List ℕ) → AreBytes bytes → IsRead r (read_of bytes)
    → Decodes r bytes
answer_exact (Ok parts) bytes fit h = (spelled_is_read bytes parts fit).0 h
answer_exact (Err (errors.Refused f)) bytes fit h = (refused_is_read bytes f fit).0 h
answer_exact (Err errors.Memory) bytes fit h = tt

pub answer_message : (r : Result Parts FeedError) (bytes : List ℕ) (parts : Parts) → AreBytes bytes
    → IsRead r (read_of bytes) → Spells bytes parts → IsRead r (Ok parts)
answer_message r bytes parts fit h s = subst (IsRead r) ((spelled_is_read bytes parts fit).1 s) h

pub answer_refusal : (r : Result Parts FeedError) (bytes : List ℕ) (f : Refusal) → AreBytes bytes
    → IsRead r (read_of bytes) → MessageRefusedAt bytes f.at f.reason → IsRead r (Err f)
answer_refusal r bytes f fit h x = subst (IsRead r) ((refused_is_read bytes f fit).1 x) h
