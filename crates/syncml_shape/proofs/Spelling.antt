-- A list of tokens spells one tree at most.
use Rattle.std.specs.Prelude.{◌≡◌, List, [], ◌∷◌, ◌++◌, refl}
use Rattle.std.proofs.Common.{sym, ap, ◌∙◌, append_assoc}
use Rattle.wbxml_tokens.specs.declared.token.Token.{Token}
use Rattle.wbxml_tokens.specs.declared.token.Token.TheVariants.{End}
use Rattle.syncml_shape.specs.Forest.{Forest, nothing, text, opaque, bare, full, spelling}
use Rattle.syncml_shape.specs.Laws.{OneTree}

nested : (a b l : List Token) → (a ++ End ∷ b) ++ End ∷ l ≡ a ++ End ∷ (b ++ End ∷ l)
nested a b l = append_assoc a (End ∷ b) (End ∷ l)

-- what stands before the END that ends it is told by the tokens
pub same_front : (f g : Forest) (l m : List Token) → spelling f ++ End ∷ l ≡ spelling g ++ End ∷ m → (f ≡ g) × (l ≡ m)
same_front nothing nothing l m h = (refl, cc)
same_front nothing (text b g) l m h = cc
same_front nothing (opaque b g) l m h = cc
same_front nothing (bare e g) l m h = cc
same_front nothing (full e i g) l m h = cc
same_front (text a f) (text b g) l m h =
    let rest = same_front f g l m cc in let bytes : a ≡ b = cc in
    (ap (λ x. text x f) bytes ∙ ap (text b) rest.0, rest.1)
same_front (text a f) nothing l m h = cc
same_front (text a f) (opaque b g) l m h = cc
same_front (text a f) (bare e g) l m h = cc
same_front (text a f) (full e i g) l m h = cc
same_front (opaque a f) (opaque b g) l m h =
    let rest = same_front f g l m cc in let bytes : a ≡ b = cc in
    (ap (λ x. opaque x f) bytes ∙ ap (opaque b) rest.0, rest.1)
same_front (opaque a f) nothing l m h = cc
same_front (opaque a f) (text b g) l m h = cc
same_front (opaque a f) (bare e g) l m h = cc
same_front (opaque a f) (full e i g) l m h = cc
same_front (bare d f) (bare e g) l m h =
    let rest = same_front f g l m cc in let name : d ≡ e = cc in (ap (λ x. bare x f) name ∙ ap (bare e) rest.0, rest.1)
same_front (bare d f) nothing l m h = cc
same_front (bare d f) (text b g) l m h = cc
same_front (bare d f) (opaque b g) l m h = cc
same_front (bare d f) (full e i g) l m h = cc
same_front (full d i f) (full e j g) l m h =
    let behind : (spelling i ++ End ∷ spelling f) ++ End ∷ l ≡ (spelling j ++ End ∷ spelling g) ++ End ∷ m = cc in
    let inner =
    same_front i j (spelling f ++ End ∷ l) (spelling g ++ End ∷ m)
    (sym (nested (spelling i) (spelling f) l) ∙ behind ∙ nested (spelling j) (spelling g) m) in
    let rest = same_front f g l m inner.1 in
    let name : d ≡ e = cc in
    (ap (λ x. full x i f) name ∙ ap (λ x. full e x f) inner.0 ∙ ap (full e j) rest.0, rest.1)
same_front (full d i f) nothing l m h = cc
same_front (full d i f) (text b g) l m h = cc
same_front (full d i f) (opaque b g) l m h = cc
same_front (full d i f) (bare e g) l m h = cc

pub one_tree_at_most : OneTree
one_tree_at_most tokens a b x y = (same_front a b [] [] (ap (λ l. l ++ End ∷ []) (sym x.spelled ∙ y.spelled))).0
