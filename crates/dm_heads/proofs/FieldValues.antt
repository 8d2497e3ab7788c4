-- What the fields of a name say of a body.
use Rattle.std.proofs.Common.{◌≡◌, ◌≤◌, ℕ, Bool, true, false, cond, List, [], ◌∷◌, refl, sym, ap, ◌∙◌, map, length, leb}
use Rattle.std.proofs.Common.{leb-true, le-leb, arith}
use Rattle.std.specs.Prelude.{◌&&◌, ◌||◌, not, codes, filter, IsTrue}
use Rattle.std.specs.List.{list_any}
use Rattle.std.specs.Str.Parse.{digits_value}
use Rattle.dm_base.specs.Fields.{is_numeral}
use Rattle.dm_heads.specs.declared.extents.BodyExtent.{BodyExtent}
use Rattle.dm_heads.specs.declared.extents.BodyExtent.TheVariants as extent
use Rattle.dm_heads.specs.Extents.{is_named, extent_stated, extent_by, body_extent}
use Rattle.dm_heads.specs.Laws.{values_named, IsUncoded, StatesLength, StatesNoLength}

neither : (a b : Bool) → (a || b) ≡ false → (a ≡ false) × (b ≡ false)
neither true b e = cc
neither false b e = (refl, e)

filter_none : {X : Type 0} (p : X → Bool) (xs : List X) → list_any p xs ≡ false → filter p xs ≡ []
filter_none p [] e = refl
filter_none p (x ∷ xs) e =
    let both = neither (p x) (list_any p xs) e in
    ap (λ b. cond b (x ∷ filter p xs) (filter p xs)) both.0 ∙ filter_none p xs both.1

none_named : (name : List ℕ) (fs : List (List ℕ × List ℕ)) → list_any (is_named name) fs ≡ false → values_named name fs ≡ []
none_named name fs e = ap (map (λ (f : List ℕ × List ℕ). f.1)) (filter_none (is_named name) fs e)

values_at : (name : List ℕ) (f : List ℕ × List ℕ) (fs : List (List ℕ × List ℕ)) (b : Bool) → is_named name f ≡ b
    → values_named name (f ∷ fs) ≡ map (λ (g : List ℕ × List ℕ). g.1) (cond b (f ∷ filter (is_named name) fs) (filter (is_named name) fs))
values_at name f fs b e =
    ap (λ c. map (λ (g : List ℕ × List ℕ). g.1) (cond c (f ∷ filter (is_named name) fs) (filter (is_named name) fs))) e

-- one field of the name says the length
abbrev OneSays : List ℕ → List (List ℕ × List ℕ) → ℕ → Type 0
OneSays name fs n = (text : List ℕ) × (values_named name fs ≡ text ∷ []) × (extent_stated text ≡ extent.Sized n)

one_at : (name : List ℕ) (f : List ℕ × List ℕ) (fs : List (List ℕ × List ℕ)) (n : ℕ) (a b : Bool) → is_named name f ≡ a
    → list_any (is_named name) fs ≡ b → cond (not a) (extent_by name fs) (cond b extent.Faulty (extent_stated f.1)) ≡ extent.Sized n
    → (extent_by name fs ≡ extent.Sized n → OneSays name fs n) → OneSays name (f ∷ fs) n
one_at name f fs n false b ea eb e later = let one = later e in (one.0, values_at name f fs false ea ∙ one.1, one.2)
one_at name f fs n true true ea eb e later = cc
one_at name f fs n true false ea eb e later =
    (f.1, values_at name f fs true ea ∙ ap (λ vs. f.1 ∷ vs) (none_named name fs eb), e)

one_says : (name : List ℕ) (fs : List (List ℕ × List ℕ)) (n : ℕ) → extent_by name fs ≡ extent.Sized n → OneSays name fs n
one_says name [] n e = cc
one_says name (f ∷ fs) n e =
    one_at name f fs n (is_named name f) (list_any (is_named name) fs) refl refl e (λ h. one_says name fs n h)

unsaid_at : (d : ℕ) (a b c : Bool) → cond (not (a && b)) extent.Faulty (cond c (extent.Sized d) extent.TooLong) ≡ extent.Unsized → ⊥
unsaid_at d true true true e = cc
unsaid_at d true true false e = cc
unsaid_at d true false c e = cc
unsaid_at d false b c e = cc

none_at : (name : List ℕ) (f : List ℕ × List ℕ) (fs : List (List ℕ × List ℕ)) (a b : Bool) → is_named name f ≡ a
    → cond (not a) (extent_by name fs) (cond b extent.Faulty (extent_stated f.1)) ≡ extent.Unsized
    → (extent_by name fs ≡ extent.Unsized → values_named name fs ≡ []) → values_named name (f ∷ fs) ≡ []
none_at name f fs false b ea e later = values_at name f fs false ea ∙ later e
none_at name f fs true true ea e later = cc
none_at name f fs true false ea e later =
    absurd (unsaid_at (digits_value 10 f.1) (is_numeral f.1) (leb (length f.1) 20) (leb (digits_value 10 f.1) 65536) e)

none_says : (name : List ℕ) (fs : List (List ℕ × List ℕ)) → extent_by name fs ≡ extent.Unsized → values_named name fs ≡ []
none_says name [] e = refl
none_says name (f ∷ fs) e =
    none_at name f fs (is_named name f) (list_any (is_named name) fs) refl e (λ h. none_says name fs h)

said_at : (d n : ℕ) (a b c : Bool) → cond (not (a && b)) extent.Faulty (cond c (extent.Sized d) extent.TooLong) ≡ extent.Sized n
    → (a ≡ true) × (b ≡ true) × (c ≡ true) × (d ≡ n)
said_at d n true true true e = (refl, refl, refl, cc)
said_at d n true true false e = cc
said_at d n true false c e = cc
said_at d n false b c e = cc

said : (text : List ℕ) (n : ℕ) → extent_stated text ≡ extent.Sized n
    → IsTrue (is_numeral text) × (length text ≤ 20) × (digits_value 10 text ≡ n) × (digits_value 10 text ≤ 65536)
said text n e =
    let at = said_at (digits_value 10 text) n (is_numeral text) (leb (length text) 20) (leb (digits_value 10 text) 65536) e in
    (at.0, leb-true (length text) 20 at.1, at.3, leb-true (digits_value 10 text) 65536 at.2)

uncoded_at : (b : Bool) (plain e : BodyExtent) → cond b extent.Faulty plain ≡ e → (e ≡ extent.Faulty → ⊥)
    → (b ≡ false) × (plain ≡ e)
uncoded_at true plain e is sound = absurd (sound cc)
uncoded_at false plain e is sound = (refl, is)

pub sized_fields : (fields : List (List ℕ × List ℕ)) (n : ℕ) → body_extent fields ≡ extent.Sized n → IsUncoded fields × StatesLength fields n
unfolding body_extent
sized_fields fields n e =
    let plain = uncoded_at (list_any (is_named (codes "transfer-encoding")) fields) (extent_by (codes "content-length") fields)
    (extent.Sized n) e (λ h. cc) in
    let one = one_says (codes "content-length") fields n plain.1 in
    let says = said one.0 n one.2 in (
      none_named (codes "transfer-encoding") fields plain.0,
      (one.0, one.1, says.0, says.1, says.2, subst_le says.2 says.3),
    )
  where
    subst_le : {a b : ℕ} → a ≡ b → a ≤ 65536 → b ≤ 65536
    subst_le e h = omega (arith, e, h)

pub unsized_fields : (fields : List (List ℕ × List ℕ)) → body_extent fields ≡ extent.Unsized → IsUncoded fields × StatesNoLength fields
unfolding body_extent
unsized_fields fields e =
    let plain = uncoded_at (list_any (is_named (codes "transfer-encoding")) fields) (extent_by (codes "content-length") fields)
    extent.Unsized e (λ h. cc) in
    (none_named (codes "transfer-encoding") fields plain.0, none_says (codes "content-length") fields plain.1)

-- ---- and back: what fields say, as a test finds it

either : (a b : Bool) → a ≡ false → b ≡ false → (a || b) ≡ false
either true b ea eb = cc
either false b ea eb = eb

unnamed_at : (name : List ℕ) (f : List ℕ × List ℕ) (fs : List (List ℕ × List ℕ)) (b : Bool) → is_named name f ≡ b
    → values_named name (f ∷ fs) ≡ [] → (values_named name fs ≡ [] → list_any (is_named name) fs ≡ false)
    → list_any (is_named name) (f ∷ fs) ≡ false
unnamed_at name f fs true ea e later = absurd (no_value f.1 (values_named name fs) (sym (values_at name f fs true ea) ∙ e))
  where
    no_value : (v : List ℕ) (vs : List (List ℕ)) → v ∷ vs ≡ [] → ⊥
    no_value v vs e = cc
unnamed_at name f fs false ea e later =
    either (is_named name f) (list_any (is_named name) fs) ea (later (sym (values_at name f fs false ea) ∙ e))

unnamed : (name : List ℕ) (fs : List (List ℕ × List ℕ)) → values_named name fs ≡ [] → list_any (is_named name) fs ≡ false
unnamed name [] e = refl
unnamed name (f ∷ fs) e = unnamed_at name f fs (is_named name f) refl e (λ h. unnamed name fs h)

single : (v w : List ℕ) (vs : List (List ℕ)) → v ∷ vs ≡ w ∷ [] → (v ≡ w) × (vs ≡ [])
single v w vs e = (cc, cc)

stated_at : (name : List ℕ) (f : List ℕ × List ℕ) (fs : List (List ℕ × List ℕ)) (text : List ℕ) (b : Bool) → is_named name f ≡ b
    → values_named name (f ∷ fs) ≡ text ∷ [] → (values_named name fs ≡ text ∷ [] → extent_by name fs ≡ extent_stated text)
    → extent_by name (f ∷ fs) ≡ extent_stated text
stated_at name f fs text false ea e later =
    ap (λ c. cond (not c) (extent_by name fs) (cond (list_any (is_named name) fs) extent.Faulty (extent_stated f.1))) ea
    ∙ later (sym (values_at name f fs false ea) ∙ e)
stated_at name f fs text true ea e later =
    let one = single f.1 text (values_named name fs) (sym (values_at name f fs true ea) ∙ e) in
    ap (λ c. cond (not c) (extent_by name fs) (cond (list_any (is_named name) fs) extent.Faulty (extent_stated f.1))) ea
    ∙ ap (λ c. cond c extent.Faulty (extent_stated f.1)) (unnamed name fs one.1) ∙ ap extent_stated one.0

stated_once : (name : List ℕ) (fs : List (List ℕ × List ℕ)) (text : List ℕ) → values_named name fs ≡ text ∷ [] → extent_by name fs ≡ extent_stated text
stated_once name [] text e = cc
stated_once name (f ∷ fs) text e = stated_at name f fs text (is_named name f) refl e (λ h. stated_once name fs text h)

unstated_at : (name : List ℕ) (f : List ℕ × List ℕ) (fs : List (List ℕ × List ℕ)) (b : Bool) → is_named name f ≡ b
    → values_named name (f ∷ fs) ≡ [] → (values_named name fs ≡ [] → extent_by name fs ≡ extent.Unsized)
    → extent_by name (f ∷ fs) ≡ extent.Unsized
unstated_at name f fs true ea e later = absurd (no_value f.1 (values_named name fs) (sym (values_at name f fs true ea) ∙ e))
  where
    no_value : (v : List ℕ) (vs : List (List ℕ)) → v ∷ vs ≡ [] → ⊥
    no_value v vs e = cc
unstated_at name f fs false ea e later =
    ap (λ c. cond (not c) (extent_by name fs) (cond (list_any (is_named name) fs) extent.Faulty (extent_stated f.1))) ea
    ∙ later (sym (values_at name f fs false ea) ∙ e)

unstated : (name : List ℕ) (fs : List (List ℕ × List ℕ)) → values_named name fs ≡ [] → extent_by name fs ≡ extent.Unsized
unstated name [] e = refl
unstated name (f ∷ fs) e = unstated_at name f fs (is_named name f) refl e (λ h. unstated name fs h)

says_at : (d : ℕ) (a b c : Bool) → a ≡ true → b ≡ true → c ≡ true
    → cond (not (a && b)) extent.Faulty (cond c (extent.Sized d) extent.TooLong) ≡ extent.Sized d
says_at d true true true ea eb ec = refl
says_at d true true false ea eb ec = cc
says_at d true false c ea eb ec = cc
says_at d false b c ea eb ec = cc

says : (text : List ℕ) (n : ℕ) → IsTrue (is_numeral text) → length text ≤ 20 → digits_value 10 text ≡ n → n ≤ 65536
    → extent_stated text ≡ extent.Sized n
says text n digits few is low =
    says_at (digits_value 10 text) (is_numeral text) (leb (length text) 20) (leb (digits_value 10 text) 65536) digits
    (le-leb (length text) 20 few) (le-leb (digits_value 10 text) 65536 (omega (arith, is, low))) ∙ ap extent.Sized is

pub fields_sized : (fields : List (List ℕ × List ℕ)) (n : ℕ) → IsUncoded fields → StatesLength fields n → body_extent fields ≡ extent.Sized n
unfolding body_extent
fields_sized fields n plain s =
    ap (λ c. cond c extent.Faulty (extent_by (codes "content-length") fields)) (unnamed (codes "transfer-encoding") fields plain)
    ∙ stated_once (codes "content-length") fields s.0 s.1 ∙ says s.0 n s.2 s.3 s.4 s.5

pub fields_unsized : (fields : List (List ℕ × List ℕ)) → IsUncoded fields → StatesNoLength fields → body_extent fields ≡ extent.Unsized
unfolding body_extent
fields_unsized fields plain none =
    ap (λ c. cond c extent.Faulty (extent_by (codes "content-length") fields)) (unnamed (codes "transfer-encoding") fields plain)
    ∙ unstated (codes "content-length") fields none
