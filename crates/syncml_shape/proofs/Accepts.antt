-- What fits is stepped over, and steps that end all are over what fits.
use Rattle.std.specs.Prelude.{◌≡◌, Bool, true, false, ◌&&◌, if◌then◌else◌, List, [], ◌∷◌, ◌++◌, Option, Some, None}
use Rattle.std.specs.Prelude.{IsTrue, refl}
use Rattle.std.proofs.Common.{sym, ◌∙◌, ap, append_assoc}
use Rattle.wbxml_tables.specs.declared.Element.{Element}
use Rattle.syncml_shape.specs.declared.rows.Kind.{Kind}
use Rattle.wbxml_tokens.specs.declared.token.Token.{Token}
use Rattle.wbxml_tokens.specs.declared.token.Token.TheVariants.{Tag, End, Text, Opaque}
use Rattle.syncml_shape.specs.Forest.{Forest, nothing, text, opaque, bare, full, spelling}
use Rattle.syncml_shape.specs.Rows.{Content, start, next_child, is_complete, takes_text}
use Rattle.syncml_shape.specs.Shape.{fits}
use Rattle.syncml_shape.specs.Steps.{Open, content_child, then_steps, steps, spellings, AllFit, Closes}

pub and_true : (a b : Bool) → IsTrue (a && b) → IsTrue a × IsTrue b
and_true true b h = (refl, h)
and_true false b h = cc

-- a step that is taken where a test holds
taken : (b : Bool) (s : Open) (f : Open → Option Open) → IsTrue b → then_steps (if b then Some s else None) f ≡ f s
taken true s f h = refl
taken false s f h = cc

regroup : (a b : List Token) (x y : Token) (l : List Token) → (a ++ x ∷ b) ++ y ∷ l ≡ a ++ x ∷ (b ++ y ∷ l)
regroup a b x y l = append_assoc a (x ∷ b) (y ∷ l)

-- what fits is stepped over to its END
pub steps-spelling : (f : Forest) (c : Content) (s : Open) (l : List Token) → IsTrue (fits c f)
    → steps (c ∷ s) (spelling f ++ End ∷ l) ≡ steps s l
steps-spelling nothing c s l h = taken (is_complete c) s (λ s'. steps s' l) h
steps-spelling (text b f) c s l h =
    let both = and_true (takes_text c) (fits c f) h in
    taken (takes_text c) (c ∷ s) (λ s'. steps s' (spelling f ++ End ∷ l)) both.0 ∙ steps-spelling f c s l both.1
steps-spelling (opaque b f) c s l h =
    let both = and_true (takes_text c) (fits c f) h in
    taken (takes_text c) (c ∷ s) (λ s'. steps s' (spelling f ++ End ∷ l)) both.0 ∙ steps-spelling f c s l both.1
steps-spelling (bare e f) c s l h =
    (elim (next_child c e)
    as (λ o. IsTrue (elim o as (λ _. Bool) [ None ↦ false | Some x ↦ is_complete (start x.0) && fits x.1 f ])
    → then_steps (content_child s false o) (λ s'. steps s' (spelling f ++ End ∷ l)) ≡ steps s l) [
      | None ↦ λ h'. cc
      | Some x ↦ λ h'. let both = and_true (is_complete (start x.0)) (fits x.1 f) h' in
          taken (is_complete (start x.0)) (x.1 ∷ s) (λ s'. steps s' (spelling f ++ End ∷ l)) both.0
          ∙ steps-spelling f x.1 s l both.1
    ]) h
steps-spelling (full e i f) c s l h =
    (elim (next_child c e)
    as (λ o. IsTrue (elim o as (λ _. Bool) [ None ↦ false | Some x ↦ fits (start x.0) i && fits x.1 f ])
    → then_steps (content_child s true o) (λ s'. steps s' ((spelling i ++ End ∷ spelling f) ++ End ∷ l)) ≡ steps s l) [
      | None ↦ λ h'. cc
      | Some x ↦ λ h'. let both = and_true (fits (start x.0) i) (fits x.1 f) h' in
          ap (steps (start x.0 ∷ x.1 ∷ s)) (regroup (spelling i) (spelling f) End End l)
          ∙ steps-spelling i (start x.0) (x.1 ∷ s) (spelling f ++ End ∷ l) both.0 ∙ steps-spelling f x.1 s l both.1
    ]) h

-- a step that was taken by a test
was_taken : (b : Bool) (s : Open) (f : Open → Option Open) (r : Open)
    → then_steps (if b then Some s else None) f ≡ Some r → IsTrue b × (f s ≡ Some r)
was_taken true s f r h = (refl, h)
was_taken false s f r h = cc

with_piece : (c : Content) (s : Open) (l : List Token) (t : Token) → (g : Forest → Forest)
    → ((f : Forest) → spelling (g f) ≡ t ∷ spelling f) → ((f : Forest) → fits c (g f) ≡ takes_text c && fits c f)
    → IsTrue (takes_text c) → Closes (c ∷ s) l → Closes (c ∷ s) (t ∷ l)
with_piece c s l t g sp ft h r = elim r.trees as (λ fs. l ≡ spellings fs → AllFit (c ∷ s) fs → Closes (c ∷ s) (t ∷ l)) [
  | [] ↦ λ e a. absurd a
  | f ∷ fs ↦ λ e a.
      record { trees = g f ∷ fs; spelled = rw (sp f) (ap (λ m. t ∷ m) e); fit = (rw (ft f) (rw h a.0), a.1) }
] r.spelled r.fit

with_end : (c : Content) (s : Open) (l : List Token) → IsTrue (is_complete c) → Closes s l → Closes (c ∷ s) (End ∷ l)
with_end c s l h r = record { trees = nothing ∷ r.trees; spelled = ap (λ m. End ∷ m) r.spelled; fit = (h, r.fit) }

with_bare : (c : Content) (s : Open) (e : Element) (x : Kind × Content) (l : List Token) → next_child c e ≡ Some x
    → IsTrue (is_complete (start x.0)) → Closes (x.1 ∷ s) l → Closes (c ∷ s) (Tag e false ∷ l)
with_bare c s e x l n h r =
    elim r.trees as (λ fs. l ≡ spellings fs → AllFit (x.1 ∷ s) fs → Closes (c ∷ s) (Tag e false ∷ l)) [
      | [] ↦ λ e a. absurd a
      | f ∷ fs ↦ λ eq a.
          record { trees = bare e f ∷ fs; spelled = ap (λ m. Tag e false ∷ m) eq; fit = (rw (n, fits) (rw h a.0), a.1) }
    ] r.spelled r.fit

with_full : (c : Content) (s : Open) (e : Element) (x : Kind × Content) (l : List Token) → next_child c e ≡ Some x
    → Closes (start x.0 ∷ x.1 ∷ s) l → Closes (c ∷ s) (Tag e true ∷ l)
with_full c s e x l n r =
    elim r.trees as (λ fs. l ≡ spellings fs → AllFit (start x.0 ∷ x.1 ∷ s) fs → Closes (c ∷ s) (Tag e true ∷ l)) [
      | [] ↦ λ e a. absurd a
      | i ∷ [] ↦ λ e a. absurd a.1
      | i ∷ f ∷ fs ↦ λ eq a.
          record {
            trees = full e i f ∷ fs;
            spelled =
                ap (λ m. Tag e true ∷ m) eq
                ∙ ap (λ m. Tag e true ∷ m) (sym (append_assoc (spelling i) (End ∷ spelling f) (End ∷ spellings fs)));
            fit = (rw (n, fits) (rw a.0 a.1.0), a.1.1);
          }
    ] r.spelled r.fit

-- a run that closes all open elements is over trees that fit
pub closes : (l : List Token) (s : Open) → steps s l ≡ Some [] → Closes s l
closes [] [] h = record { trees = []; spelled = refl; fit = tt }
closes [] (c ∷ s) h = cc
closes (t ∷ l) [] h = cc
closes (End ∷ l) (c ∷ s) h =
    let was = was_taken (is_complete c) s (λ s'. steps s' l) [] h in
    with_end c s l was.0 (closes l s was.1)
closes (Text b ∷ l) (c ∷ s) h =
    let was = was_taken (takes_text c) (c ∷ s) (λ s'. steps s' l) [] h in
    with_piece c s l (Text b) (text b) (λ f. refl) (λ f. refl) was.0 (closes l (c ∷ s) was.1)
closes (Opaque b ∷ l) (c ∷ s) h =
    let was = was_taken (takes_text c) (c ∷ s) (λ s'. steps s' l) [] h in
    with_piece c s l (Opaque b) (opaque b) (λ f. refl) (λ f. refl) was.0 (closes l (c ∷ s) was.1)
closes (Tag e true ∷ l) (c ∷ s) h =
    (elim (next_child c e)
    as (λ o. next_child c e ≡ o → then_steps (content_child s true o) (λ s'. steps s' l) ≡ Some []
    → Closes (c ∷ s) (Tag e true ∷ l)) [
      | None ↦ λ n h'. cc
      | Some x ↦ λ n h'. with_full c s e x l n (closes l (start x.0 ∷ x.1 ∷ s) h')
    ]) refl h
closes (Tag e false ∷ l) (c ∷ s) h =
    (elim (next_child c e)
    as (λ o. next_child c e ≡ o → then_steps (content_child s false o) (λ s'. steps s' l) ≡ Some []
    → Closes (c ∷ s) (Tag e false ∷ l)) [
      | None ↦ λ n h'. cc
      | Some x ↦ λ n h'. let was = was_taken (is_complete (start x.0)) (x.1 ∷ s) (λ s'. steps s' l) [] h' in
          with_bare c s e x l n was.0 (closes l (x.1 ∷ s) was.1)
    ]) refl h
