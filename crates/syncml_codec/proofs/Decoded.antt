-- What is read of bytes is the message that they spell, and what is refused is what is refused first.
use Rattle.std.proofs.Common.{ℕ, zero, suc, ◌≡◌, ◌≤◌, ◌-◌, List, [], ◌∷◌, ◌++◌, length, take, drop, refl, sym, ap, ◌∙◌}
use Rattle.std.proofs.Common.{subst, arith, append_assoc, inl, inr}
use Rattle.std.proofs.lemmas.List.{append-nil, length-append, length-take, take-append-drop}
use Rattle.std.specs.Prelude.{◌==◌, Bool, true, false, if◌then◌else◌, Option, Some, None, Result, Ok, Err}
use Rattle.wbxml_ints.specs.Multibyte.{AreBytes}
use Rattle.wbxml_tokens.specs.declared.reason.Reason.{Reason}
use Rattle.wbxml_tokens.specs.declared.reason.Reason.TheVariants as reasons
use Rattle.wbxml_tokens.specs.declared.reason.Refusal.{Refusal}
use Rattle.wbxml_tokens.specs.declared.token.Placed.{Placed}
use Rattle.wbxml_tokens.specs.declared.extent.Extent.TheVariants as extents
use Rattle.wbxml_tokens.specs.Reading.{Reader, Reading, first_reader, begun_by, most_bytes, taken_by, is_whole, limit}
use Rattle.wbxml_tokens.specs.Reading.{reading}
use Rattle.wbxml_tokens.specs.Taking.{taken_all, ◌>>=◌}
use Rattle.wbxml_tokens.specs.Spelled.{RefusedAt}
use Rattle.wbxml_tokens.proofs.Documents.{known, Known, spelled_is_read as spelled_tokens_are_read}
use Rattle.wbxml_tokens.proofs.Refusals.{refused_is_told}
use Rattle.wbxml_tokens.proofs.Elements.{whole_of_element}
use Rattle.wbxml_tokens.proofs.Turns.{taken-append}
use Rattle.wbxml_tokens.proofs.Beyond.{limit_refuses}
use Rattle.wbxml_tokens.proofs.Steps.{reads-append}
use Rattle.syncml_types.specs.Message.{Parts}
use Rattle.syncml_grammar.specs.Reads.{SpellsParts}
use Rattle.syncml_grammar.specs.Machine.{finished_parts}
use Rattle.syncml_grammar.specs.Building.{Building, no_building, built_by, unless_stopped, HasBuilt}
use Rattle.syncml_grammar.specs.Taken.{building, tokens, HasRefused}
use Rattle.syncml_grammar.proofs.Judging.{spelled_taken, finished_spelled}
use Rattle.syncml_grammar.proofs.Taken.{built_is_taken}
use Rattle.syncml_codec.specs.Messages.{Spells, TokenRefusedAt, NoTokenRefused, MessageRefusedAt, by_grammar, by_reader}
use Rattle.syncml_codec.specs.Messages.{cut}
use Rattle.syncml_codec.specs.Decoding.{built, first_refused, settled, parts_of, read_by, read_of}
use Rattle.syncml_codec.specs.Laws.{SpelledIsRead, RefusedIsRead, OneIsSpelled, NoneGoesOn}
use Rattle.syncml_codec.proofs.Unrefused.{some_not_none, HasFront, front_of, sound_within, read_more, refused_more}
use Rattle.syncml_codec.proofs.Unrefused.{begins_with}
use Rattle.syncml_codec.proofs.Documents.{element_of_parts}

ok_not_err : {A E : Type 0} (a : A) (e : E) → Ok a ≡ Err e → ⊥
ok_not_err a e h = cc

-- ---- what is read, by what was built and what was refused

read_when : (bytes : List ℕ) (r : Result Building Refusal) (o : Option Refusal) (p : Option Parts) → built bytes ≡ r
    → (reading bytes).refused ≡ o → parts_of r ≡ p
    → read_of bytes ≡ read_by (first_refused r o) p (length bytes)
unfolding read_of settled
read_when bytes r o p is refused parts =
    ap (λ b. read_by (first_refused b (reading bytes).refused) (parts_of b) (length bytes)) is
    ∙ ap (λ f. read_by (first_refused r f) (parts_of r) (length bytes)) refused
    ∙ ap (λ q. read_by (first_refused r o) q (length bytes)) parts

read_refused : (bytes : List ℕ) (b : Building) (f : Refusal) → built bytes ≡ Ok b → (reading bytes).refused ≡ Some f
    → read_of bytes ≡ Err f
read_refused bytes b f is refused = read_when bytes (Ok b) (Some f) (built_by b) is refused refl

read_unbuilt : (bytes : List ℕ) (f : Refusal) → built bytes ≡ Err f → read_of bytes ≡ Err f
read_unbuilt bytes f is = read_when bytes (Err f) (reading bytes).refused None is refl refl

-- ---- what bytes spell

built_of : (placed : List Placed) (parts : Parts) → SpellsParts (tokens placed) parts
    → (b : Building) × (taken_all building no_building placed ≡ Ok b) × (built_by b ≡ Some parts)
built_of placed parts s =
    let t = spelled_taken (tokens placed) parts s in
    let w = built_is_taken.taken_whole placed t.0 t.1 in
    let h : HasBuilt w.0 (tokens placed) = built_is_taken.built placed w.0 w.1 in
    (w.0, w.1, ap (λ o. unless_stopped o (finished_parts w.0.frames)) h.0 ∙ ap finished_parts w.2 ∙ t.2)

spelled_reading : (bytes : List ℕ) (parts : Parts) (s : Spells bytes parts)
    → ((reading bytes).tokens ≡ s.placed) × ((reading bytes).refused ≡ None)
spelled_reading bytes parts s =
    let r =
    spelled_tokens_are_read s.table s.prologue s.body s.placed s.page s.extent s.is_prologue s.spells
    (subst (λ l. length l ≤ most_bytes) s.whole s.within) in
    subst (λ l. ((reading l).tokens ≡ s.placed) × ((reading l).refused ≡ None)) (sym s.whole) (r.0, r.1)

-- what spells a message is read as it, of whatever numbers the bytes are
pub spelled_read : (bytes : List ℕ) (parts : Parts) → Spells bytes parts → read_of bytes ≡ Ok parts
spelled_read bytes parts s =
    let r = spelled_reading bytes parts s in
    let b = built_of s.placed parts s.message in
    read_when bytes (Ok b.0) None (Some parts) (ap (taken_all building no_building) r.0 ∙ b.1) r.1 b.2

-- the extent behind the bytes of a message
whole_when : (bytes : List ℕ) (parts : Parts) → SpellsParts (tokens (reading bytes).tokens) parts
    → is_whole (reading bytes).reader.extent ≡ true
whole_when bytes parts s = whole_of_element bytes (element_of_parts (tokens (reading bytes).tokens) parts s)

not_whole : extents.Before ≡ extents.Whole → ⊥
not_whole e = cc

spells_by : (bytes : List ℕ) (parts : Parts) → length bytes ≤ most_bytes
    → SpellsParts (tokens (reading bytes).tokens) parts → Known bytes → Spells bytes parts
spells_by bytes parts room spelled (inl (s, extent)) =
    let empty : s.rest ≡ [] = s.ended (ap is_whole (sym extent) ∙ whole_when bytes parts spelled) in
    record {
      table = s.table;
      prologue = s.prologue;
      body = s.body;
      placed = (reading bytes).tokens;
      page = s.page;
      extent = s.extent;
      whole = s.whole ∙ ap (λ y. s.prologue ++ (s.body ++ y)) empty ∙ ap (λ y. s.prologue ++ y) (append-nil s.body);
      within = room;
      is_prologue = s.is_prologue;
      spells = s.spells;
      message = spelled;
    }
spells_by bytes parts room spelled (inr (none_read, is, before)) =
    absurd (never (sym (ap is_whole before) ∙ whole_when bytes parts spelled))
  where
    never : false ≡ true → ⊥
    never e = cc

spells_when : (bytes : List ℕ) (b : Building) (parts : Parts) → AreBytes bytes → built bytes ≡ Ok b
    → (reading bytes).refused ≡ None → built_by b ≡ Some parts → Spells bytes parts
spells_when bytes b parts fit is sound by_parts =
    let h : HasBuilt b (tokens (reading bytes).tokens) = built_is_taken.built (reading bytes).tokens b is in
    let spelled =
    finished_spelled (tokens (reading bytes).tokens) b.frames parts h.1
    (sym (ap (λ o. unless_stopped o (finished_parts b.frames)) h.0) ∙ by_parts) in
    let room = sound_within bytes sound in
    spells_by bytes parts room spelled (known bytes fit room sound)

read_spells : (bytes : List ℕ) (parts : Parts) (r : Result Building Refusal) (o : Option Refusal) (p : Option Parts)
    → AreBytes bytes → built bytes ≡ r
    → (reading bytes).refused ≡ o → parts_of r ≡ p → read_by (first_refused r o) p (length bytes) ≡ Ok parts
    → Spells bytes parts
read_spells bytes parts (Err f) o p fit is refused by_parts h = absurd (ok_not_err parts f (sym h))
read_spells bytes parts (Ok b) (Some f) p fit is refused by_parts h = absurd (ok_not_err parts f (sym h))
read_spells bytes parts (Ok b) None None fit is refused by_parts h =
    absurd (ok_not_err parts (record { at = length bytes; reason = reasons.Truncated }) (sym h))
read_spells bytes parts (Ok b) None (Some q) fit is refused by_parts h =
    spells_when bytes b parts fit is refused (by_parts ∙ ap Some (same h))
  where
    same : ◌≡◌ {A = Result Parts Refusal} (Ok q) (Ok parts) → q ≡ parts
    same e = cc

pub spelled_is_read : SpelledIsRead
spelled_is_read bytes parts fit = (
  λ h. read_spells bytes parts (built bytes) (reading bytes).refused (parts_of (built bytes)) fit refl refl refl
      (sym (read_when bytes (built bytes) (reading bytes).refused (parts_of (built bytes)) refl refl refl) ∙ h),
  spelled_read bytes parts,
)

-- ---- tokens that the grammar refuses

-- where a token is refused, so are the tokens that are read
pub token_unbuilt : (bytes : List ℕ) (at : ℕ) (reason : Reason) → TokenRefusedAt bytes at reason
    → built bytes ≡ Err (record { at = at; reason = reason })
token_unbuilt bytes at reason t =
    let q : Placed = record { at = at; token = t.token } in
    let first : List ℕ = t.prologue ++ t.body in
    let later : List ℕ = t.rest ++ drop most_bytes bytes in
    let whole : bytes ≡ first ++ later =
    sym (take-append-drop most_bytes bytes) ∙ ap (λ l. l ++ drop most_bytes bytes) t.whole
    ∙ in_three t.prologue t.body t.rest (drop most_bytes bytes) in
    let room : length first ≤ most_bytes = omega (
      arith,
      ap length t.whole,
      few most_bytes bytes,
      length-append t.prologue (t.body ++ t.rest),
      length-append t.body t.rest,
      length-append t.prologue t.body,
    ) in
    let r =
    spelled_tokens_are_read t.table t.prologue t.body (t.before ++ q ∷ []) t.page t.extent t.is_prologue t.spells
    room in
    let m = read_more first later in
    let all : (reading bytes).tokens ≡ t.before ++ q ∷ m.0 =
    ap (λ l. (reading l).tokens) whole ∙ m.1 ∙ ap (λ l. l ++ m.0) r.0 ∙ append_assoc t.before (q ∷ []) m.0 in
    (built_is_taken.refused (reading bytes).tokens (record { at = at; reason = reason })).1
    (t.before, q, m.0, all, t.refused, refl)
  where
    in_three : (p b r d : List ℕ) → (p ++ (b ++ r)) ++ d ≡ (p ++ b) ++ (r ++ d)
    in_three p b r d =
        append_assoc p (b ++ r) d ∙ ap (λ l. p ++ l) (append_assoc b r d) ∙ sym (append_assoc p b (r ++ d))

    few : (n : ℕ) (l : List ℕ) → length (take n l) ≤ n
    few n l = omega (arith, length-take n l)

none_refused : (bytes : List ℕ) (b : Building) → built bytes ≡ Ok b → NoTokenRefused bytes
none_refused bytes b is at reason t =
    ok_not_err b (record { at = at; reason = reason }) (sym is ∙ token_unbuilt bytes at reason t)

-- the first bytes of some that begin with others
pub take_over : (n : ℕ) (a b : List ℕ) → length a ≤ n → take n (a ++ b) ≡ a ++ take (n - length a) b
take_over n [] b few = let same : n ≡ n - 0 = omega arith in ap (λ m. take m b) same
take_over zero (x ∷ a) b few = absurd (omega (arith, few))
take_over (suc n) (x ∷ a) b few =
    let same : n - length a ≡ suc n - length (x ∷ a) = omega arith in
    ap (λ l. x ∷ l) (take_over n a b (omega (arith, few)) ∙ ap (λ m. a ++ take m b) same)

-- and back
token_by : (bytes : List ℕ) (f : Refusal) (h : HasFront (begun_by first_reader) bytes) → HasRefused (reading bytes).tokens f
    → Known h.front → TokenRefusedAt bytes f.at f.reason
token_by bytes f h (before, p, later, split, refused, place) (inl (s, extent)) =
    let q : Placed = record { at = f.at; token = p.token } in
    let same : p ≡ q = ap (λ n. record { at = n; token = p.token }) (sym place) in
    let all : (reading h.front).tokens ≡ (before ++ q ∷ []) ++ later =
    h.tokens ∙ split ∙ ap (λ (r : Placed). before ++ r ∷ later) same ∙ sym (append_assoc before (q ∷ []) later) in
    let b = begins_with s.spells (before ++ q ∷ []) later all in
    let room : length h.front ≤ most_bytes = sound_within h.front h.sound in
    record {
      table = s.table;
      prologue = s.prologue;
      body = b.body;
      rest = b.rest ++ (s.rest ++ take (most_bytes - length h.front) h.rest);
      before = before;
      token = p.token;
      page = b.last;
      extent = b.end;
      whole = ap (take most_bytes) h.split ∙ take_over most_bytes h.front h.rest room
          ∙ ap (λ l. l ++ take (most_bytes - length h.front) h.rest)
          (s.whole ∙ ap (λ l. s.prologue ++ (l ++ s.rest)) b.split)
          ∙ in_parts s.prologue b.body b.rest s.rest (take (most_bytes - length h.front) h.rest);
      is_prologue = s.is_prologue;
      spells = b.spells;
      refused = refused;
    }
  where
    in_parts : (p b r s t : List ℕ) → (p ++ ((b ++ r) ++ s)) ++ t ≡ p ++ (b ++ (r ++ (s ++ t)))
    in_parts p b r s t =
        append_assoc p ((b ++ r) ++ s) t ∙ ap (λ l. p ++ l) (append_assoc (b ++ r) s t ∙ append_assoc b r (s ++ t))
token_by bytes f h (before, p, later, split, refused, place) (inr (none_read, is, at_first)) =
    absurd (some_token before p later (sym (h.tokens ∙ split) ∙ none_read))
  where
    some_token : (before : List Placed) (p : Placed) (later : List Placed) → before ++ p ∷ later ≡ [] → ⊥
    some_token [] p later e = cc
    some_token (b ∷ before) p later e = cc

pub bytes_of_front : (a b : List ℕ) → AreBytes (a ++ b) → AreBytes a
bytes_of_front [] b h = tt
bytes_of_front (x ∷ a) b h = (h.0, bytes_of_front a b h.1)

pub refused_token : (bytes : List ℕ) (f : Refusal) → AreBytes bytes → built bytes ≡ Err f
    → TokenRefusedAt bytes f.at f.reason
refused_token bytes f fit is =
    let h : HasFront (begun_by first_reader) bytes = front_of bytes (begun_by first_reader) refl in
    token_by bytes f h ((built_is_taken.refused (reading bytes).tokens f).0 is)
    (known h.front (bytes_of_front h.front h.rest (subst AreBytes h.split fit)) (sound_within h.front h.sound) h.sound)

-- ---- refusals

same_refusal : (f g : Refusal) → ◌≡◌ {A = Result Parts Refusal} (Err f) (Err g) → f ≡ g
same_refusal f g e = cc

told_by : (bytes : List ℕ) (f : Refusal) (r : Result Building Refusal) (o : Option Refusal) (p : Option Parts)
    → AreBytes bytes → built bytes ≡ r
    → (reading bytes).refused ≡ o → parts_of r ≡ p → read_by (first_refused r o) p (length bytes) ≡ Err f
    → MessageRefusedAt bytes f.at f.reason
told_by bytes f (Err g) o p fit is refused by_parts h =
    subst (λ (e : Refusal). MessageRefusedAt bytes e.at e.reason) (same_refusal g f h)
    (by_grammar (refused_token bytes g fit is))
told_by bytes f (Ok b) (Some g) p fit is refused by_parts h =
    subst (λ (e : Refusal). MessageRefusedAt bytes e.at e.reason) (same_refusal g f h)
    (by_reader ((refused_is_told bytes g.at g.reason fit).0 refused) (none_refused bytes b is))
told_by bytes f (Ok b) None (Some q) fit is refused by_parts h = absurd (ok_not_err q f h)
told_by bytes f (Ok b) None None fit is refused by_parts h =
    subst (λ (e : Refusal). MessageRefusedAt bytes e.at e.reason)
    (same_refusal (record { at = length bytes; reason = reasons.Truncated }) f h)
    (cut
    (λ at reason x. some_not_none (record { at = at; reason = reason }) (sym ((refused_is_told bytes at reason fit).1 x)
    ∙ refused))
    (none_refused bytes b is)
    (λ parts s. ok_not_err parts f
    (sym (spelled_read bytes parts s) ∙ read_when bytes (Ok b) None None is refused by_parts ∙ h)))

reader_told : (bytes : List ℕ) (at : ℕ) (reason : Reason) (r : Result Building Refusal) → AreBytes bytes
    → built bytes ≡ r → RefusedAt bytes at reason → NoTokenRefused bytes
    → read_of bytes ≡ Err (record { at = at; reason = reason })
reader_told bytes at reason (Err f) fit is x none = absurd (none f.at f.reason (refused_token bytes f fit is))
reader_told bytes at reason (Ok b) fit is x none =
    read_refused bytes b (record { at = at; reason = reason }) is ((refused_is_told bytes at reason fit).1 x)

cut_told : (bytes : List ℕ) (r : Result Building Refusal) (o : Option Refusal) (p : Option Parts) → AreBytes bytes
    → built bytes ≡ r → (reading bytes).refused ≡ o → parts_of r ≡ p
    → ((at : ℕ) (reason : Reason) → RefusedAt bytes at reason → ⊥) → NoTokenRefused bytes
    → ((parts : Parts) → Spells bytes parts → ⊥)
    → read_of bytes ≡ Err (record { at = length bytes; reason = reasons.Truncated })
cut_told bytes (Err f) o p fit is refused by_parts no_byte no_token none =
    absurd (no_token f.at f.reason (refused_token bytes f fit is))
cut_told bytes (Ok b) (Some f) p fit is refused by_parts no_byte no_token none =
    absurd (no_byte f.at f.reason ((refused_is_told bytes f.at f.reason fit).0 refused))
cut_told bytes (Ok b) None (Some parts) fit is refused by_parts no_byte no_token none =
    absurd (none parts (spells_when bytes b parts fit is refused by_parts))
cut_told bytes (Ok b) None None fit is refused by_parts no_byte no_token none =
    read_when bytes (Ok b) None None is refused by_parts

refused_read : (bytes : List ℕ) (at : ℕ) (reason : Reason) → AreBytes bytes → MessageRefusedAt bytes at reason
    → read_of bytes ≡ Err (record { at = at; reason = reason })
refused_read bytes at reason fit (by_grammar t) =
    read_unbuilt bytes (record { at = at; reason = reason }) (token_unbuilt bytes at reason t)
refused_read bytes at reason fit (by_reader x none) = reader_told bytes at reason (built bytes) fit refl x none
refused_read bytes at reason fit (cut no_byte no_token none) =
    cut_told bytes (built bytes) (reading bytes).refused (parts_of (built bytes)) fit refl refl refl no_byte no_token
    none

pub refused_is_read : RefusedIsRead
refused_is_read bytes f fit = (
  λ h. told_by bytes f (built bytes) (reading bytes).refused (parts_of (built bytes)) fit refl refl refl
      (sym (read_when bytes (built bytes) (reading bytes).refused (parts_of (built bytes)) refl refl refl) ∙ h),
  refused_read bytes f.at f.reason fit,
)

-- ---- one message, and none behind it

pub one_is_spelled : OneIsSpelled
one_is_spelled bytes a b fit x y = same (sym (spelled_read bytes a x) ∙ spelled_read bytes b y)
  where
    same : ◌≡◌ {A = Result Parts Refusal} (Ok a) (Ok b) → a ≡ b
    same e = cc

goes_no_further : (bytes later : List ℕ) (a : Parts) → Spells bytes a → (reading (bytes ++ later)).refused ≡ None
    → later ≡ []
goes_no_further bytes [] a s sound = refl
goes_no_further bytes (b ∷ later) a s sound =
    let x : Reading = reading bytes in
    let r = spelled_reading bytes a s in
    let whole = whole_when bytes a (subst (λ l. SpellsParts (tokens l) a) (sym r.0) s.message) in
    let why : limit x.reader ≡ Some reasons.Trailing =
    ap (λ (c : Bool). if c then Some reasons.Trailing else at_limit x.reader) whole in
    let stopped = limit_refuses x reasons.Trailing (taken_by x.reader) (b ∷ later) r.1 why refl (omega arith) in
    absurd (some_not_none (record { at = taken_by x.reader; reason = reasons.Trailing })
    (sym (ap (λ y. y.refused) (reads-append (begun_by first_reader) bytes (b ∷ later) ∙ stopped)) ∙ sound))
  where
    at_limit : Reader → Option Reason
    at_limit r = if taken_by r == most_bytes then Some reasons.Toolong else None

pub none_goes_on : NoneGoesOn
none_goes_on bytes later a b fit x y = goes_no_further bytes later a x (spelled_reading (bytes ++ later) b y).1

-- ---- refusals that are settled

settled_by : (bytes later : List ℕ) (f : Refusal) (r : Result Building Refusal) (o : Option Refusal) → built bytes ≡ r
    → (reading bytes).refused ≡ o → first_refused r o ≡ Some f
    → first_refused (built (bytes ++ later)) (reading (bytes ++ later)).refused ≡ Some f
settled_by bytes later f (Err g) o is refused h =
    let m = read_more bytes later in
    ap (λ r. first_refused r (reading (bytes ++ later)).refused)
    (ap (taken_all building no_building) m.1 ∙ taken-append building no_building (reading bytes).tokens m.0
    ∙ ap (λ r. r >>= (λ v. taken_all building v m.0)) is) ∙ h
settled_by bytes later f (Ok b) o is refused h =
    ap (λ (x : Reading). first_refused (taken_all building no_building x.tokens) x.refused)
    (refused_more bytes later f (refused ∙ h))
    ∙ ap (λ r. first_refused r (reading bytes).refused) is ∙ refused ∙ h

-- what is settled stays
pub settled_more : (bytes later : List ℕ) (f : Refusal) → settled bytes ≡ Some f → settled (bytes ++ later) ≡ Some f
unfolding settled
settled_more bytes later f h = settled_by bytes later f (built bytes) (reading bytes).refused refl refl h

pub settled_read : (bytes : List ℕ) (f : Refusal) → settled bytes ≡ Some f → read_of bytes ≡ Err f
unfolding read_of
settled_read bytes f h = ap (λ o. read_by o (parts_of (built bytes)) (length bytes)) h
