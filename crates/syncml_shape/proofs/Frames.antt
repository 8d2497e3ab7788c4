-- The step over the open elements with their names is the step over what may still come in them.
use Rattle.std.specs.Prelude.{◌≡◌, Bool, true, false, if◌then◌else◌, List, [], ◌∷◌, Option, Some, None, IsTrue, Ok, Err}
use Rattle.std.specs.Prelude.{refl}
use Rattle.std.proofs.Common.{sym, ap, subst, ◌∙◌}
use Rattle.wbxml_tokens.specs.declared.reason.Reason.{Reason}
use Rattle.wbxml_tokens.specs.declared.reason.Reason.TheVariants.{Misplaced}
use Rattle.wbxml_tables.specs.declared.Element.{Element}
use Rattle.wbxml_tokens.specs.declared.token.Token.{Token}
use Rattle.wbxml_tokens.specs.declared.token.Token.TheVariants.{Tag, End, Text, Opaque}
use Rattle.syncml_shape.specs.declared.rows.Kind.{Kind}
use Rattle.syncml_shape.specs.Rows.{Content, start, next_child, is_complete, takes_text}
use Rattle.syncml_shape.specs.Faults.{tag_fault, innermost, open_after, reason_in, or_misplaced}
use Rattle.syncml_shape.specs.Machine.{Frame, began, with_child, with_tag, with_end, with_text, step}
use Rattle.syncml_shape.specs.Steps.{Open}
use Rattle.syncml_shape.specs.Steps.{content_child, content_step}
use Rattle.syncml_shape.proofs.Names.{IsNamed, next_named}

abbrev pub contents_of : List Frame → List Content
contents_of [] = []
contents_of (f ∷ s) = f.content ∷ contents_of s

-- the table names no tag in these that is refused for its name
abbrev pub AllNamed : List Frame → Type 0
AllNamed [] = Unit {0}
AllNamed (f ∷ s) = IsNamed f.element f.content × AllNamed s

-- the frames are those of the open elements, and the document below them
abbrev pub AreOf : List Frame → List Element → Type 0
AreOf [] es = ⊥
AreOf (f ∷ []) [] = f.element ≡ None
AreOf (f ∷ []) (e ∷ es) = ⊥
AreOf (f ∷ g ∷ s) [] = ⊥
AreOf (f ∷ g ∷ s) (e ∷ es) = (f.element ≡ Some e) × AreOf (g ∷ s) es

-- what a step that is taken leaves
pub record Taken (s after : List Frame) (es : List Element) (t : Token) : Type 0 where
  pub named : AllNamed after
  pub contents : content_step (contents_of s) t ≡ Some (contents_of after)
  pub elements : AreOf after (open_after es t)

-- what is known of a step that is refused
abbrev pub LeavesNone : Option Open → Type 0
LeavesNone None = Unit {0}
LeavesNone (Some []) = Unit {0}
LeavesNone (Some (c ∷ s)) = ⊥

pub record NotTaken (s : List Frame) (es : List Element) (t : Token) (reason : Reason) : Type 0 where
  pub none : LeavesNone (content_step (contents_of s) t)
  pub named : reason ≡ reason_in es t

pub head-of : (f : Frame) (s : List Frame) (es : List Element) → AreOf (f ∷ s) es → f.element ≡ innermost es
head-of f [] [] a = a
head-of f [] (e ∷ es) a = absurd a
head-of f (g ∷ s) [] a = absurd a
head-of f (g ∷ s) (e ∷ es) a = a.0

-- another content at the front
same_element : (f : Frame) (c : Content) (s : List Frame) (es : List Element) → AreOf (f ∷ s) es
    → AreOf (record f { content = c } ∷ s) es
same_element f c [] [] a = a
same_element f c [] (e ∷ es) a = absurd a
same_element f c (g ∷ s) [] a = absurd a
same_element f c (g ∷ s) (e ∷ es) a = a

new_child : (e : Element) (kind : Kind) (f : Frame) (c : Content) (s : List Frame) (es : List Element)
    → AreOf (f ∷ s) es → AreOf (began e kind ∷ record f { content = c } ∷ s) (e ∷ es)
new_child e kind f c s es a = (refl, same_element f c s es a)

if_taken : (t : Bool) (s : List Frame) (after : List Frame) → (if t then Ok s else Err Misplaced) ≡ Ok after
    → IsTrue t × (s ≡ after)
if_taken true s after h = (refl, cc)
if_taken false s after h = cc

if_some : (t : Bool) (s : Open) → IsTrue t → (if t then Some s else None) ≡ Some s
if_some true s h = refl
if_some false s h = cc

child_taken : (f : Frame) (s : List Frame) (es : List Element) (e : Element) (b : Bool) (x : Kind × Content)
    (after : List Frame) → AllNamed (f ∷ s) → AreOf (f ∷ s) es
    → next_child f.content e ≡ Some x → with_child f s e b x ≡ Ok after → Taken (f ∷ s) after es (Tag e b)
child_taken f s es e true x after n a is h =
    let was = next_named f.content f.element e x n.0 is in
    let eq : began e x.0 ∷ record f { content = x.1 } ∷ s ≡ after = cc in
    subst (λ r. Taken (f ∷ s) r es (Tag e true)) eq (record {
      named = (was.child, (was.rest, n.1));
      contents = ap (content_child (contents_of s) true) is;
      elements = new_child e x.0 f x.1 s es a;
    })
child_taken f s es e false x after n a is h =
    let was = next_named f.content f.element e x n.0 is in
    let took = if_taken (is_complete (start x.0)) (record f { content = x.1 } ∷ s) after h in
    subst (λ r. Taken (f ∷ s) r es (Tag e false)) took.1 (record {
      named = (was.rest, n.1);
      contents =
          ap (content_child (contents_of s) false) is ∙ if_some (is_complete (start x.0)) (x.1 ∷ contents_of s) took.0;
      elements = same_element f x.1 s es a;
    })

tag_taken : (f : Frame) (s : List Frame) (es : List Element) (e : Element) (b : Bool) (fault : Option Reason)
    (o : Option (Kind × Content)) (after : List Frame)
    → AllNamed (f ∷ s) → AreOf (f ∷ s) es → next_child f.content e ≡ o → with_tag f s e b fault o ≡ Ok after
    → Taken (f ∷ s) after es (Tag e b)
tag_taken f s es e b (Some reason) o after n a is h = cc
tag_taken f s es e b None None after n a is h = cc
tag_taken f s es e b None (Some x) after n a is h = child_taken f s es e b x after n a is h

text_taken : (f : Frame) (s : List Frame) (es : List Element) (t : Token) (after : List Frame) → AllNamed (f ∷ s)
    → AreOf (f ∷ s) es
    → content_step (contents_of (f ∷ s)) t ≡ (if takes_text f.content then Some (contents_of (f ∷ s)) else None)
    → open_after es t ≡ es
    → with_text f s ≡ Ok after → Taken (f ∷ s) after es t
text_taken f s es t after n a steps opens h =
    let took = if_taken (takes_text f.content) (f ∷ s) after h in
    subst (λ r. Taken (f ∷ s) r es t) took.1 (record {
      named = n;
      contents = steps ∙ if_some (takes_text f.content) (contents_of (f ∷ s)) took.0;
      elements = subst (AreOf (f ∷ s)) (sym opens) a;
    })

end_taken : (f : Frame) (s : List Frame) (es : List Element) (after : List Frame) → AllNamed (f ∷ s) → AreOf (f ∷ s) es
    → with_end f s ≡ Ok after → Taken (f ∷ s) after es End
end_taken f [] es after n a h = cc
end_taken f (g ∷ s) [] after n a h = absurd a
end_taken f (g ∷ s) (e ∷ es) after n a h =
    let took = if_taken (is_complete f.content) (g ∷ s) after h in
    subst (λ r. Taken (f ∷ g ∷ s) r (e ∷ es) End) took.1 (record {
      named = n.1;
      contents = if_some (is_complete f.content) (contents_of (g ∷ s)) took.0;
      elements = a.1;
    })

pub step_taken : (t : Token) (s : List Frame) (es : List Element) (after : List Frame) → AllNamed s → AreOf s es
    → step s t ≡ Ok after → Taken s after es t
step_taken t [] es after n a h = absurd a
step_taken (Tag e b) (f ∷ s) es after n a h =
    tag_taken f s es e b (tag_fault f.element e) (next_child f.content e) after n a refl h
step_taken End (f ∷ s) es after n a h = end_taken f s es after n a h
step_taken (Text b) (f ∷ s) es after n a h = text_taken f s es (Text b) after n a refl refl h
step_taken (Opaque b) (f ∷ s) es after n a h = text_taken f s es (Opaque b) after n a refl refl h

-- ---- a step that is refused

if_refused : (t : Bool) (s : List Frame) (reason : Reason) → (if t then Ok s else Err Misplaced) ≡ Err reason
    → (t ≡ false) × (reason ≡ Misplaced)
if_refused true s reason h = cc
if_refused false s reason h = (refl, cc)

if_none : (t : Bool) (s : Open) → t ≡ false → LeavesNone (if t then Some s else None)
if_none true s h = cc
if_none false s h = tt

none_of_no_child : (s : Open) (b : Bool) → LeavesNone (content_child s b None)
none_of_no_child s true = tt
none_of_no_child s false = tt

-- a tag that is refused for its name may not come
fault_may_not : (f : Frame) (e : Element) (reason : Reason) (o : Option (Kind × Content)) → IsNamed f.element f.content
    → tag_fault f.element e ≡ Some reason → next_child f.content e ≡ o → o ≡ None
fault_may_not f e reason None n fault is = refl
fault_may_not f e reason (Some x) n fault is =
    let none : tag_fault f.element e ≡ None = (next_named f.content f.element e x n is).faultless in cc

tag_none : (f : Frame) (s : List Frame) (e : Element) (b : Bool) → next_child f.content e ≡ None
    → LeavesNone (content_step (contents_of (f ∷ s)) (Tag e b))
tag_none f s e b is =
    subst (λ o. LeavesNone (content_child (contents_of s) b o)) (sym is) (none_of_no_child (contents_of s) b)

child_refused : (f : Frame) (s : List Frame) (e : Element) (b : Bool) (x : Kind × Content) (reason : Reason)
    → next_child f.content e ≡ Some x → with_child f s e b x ≡ Err reason
    → LeavesNone (content_step (contents_of (f ∷ s)) (Tag e b)) × (reason ≡ Misplaced)
child_refused f s e true x reason is h = cc
child_refused f s e false x reason is h =
    let was = if_refused (is_complete (start x.0)) (record f { content = x.1 } ∷ s) reason h in (
      subst (λ o. LeavesNone (content_child (contents_of s) false o)) (sym is)
          (if_none (is_complete (start x.0)) (x.1 ∷ contents_of s) was.0),
      was.1,
    )

tag_refused : (f : Frame) (s : List Frame) (e : Element) (b : Bool) (fault : Option Reason)
    (o : Option (Kind × Content)) (reason : Reason) → IsNamed f.element f.content
    → tag_fault f.element e ≡ fault → next_child f.content e ≡ o → with_tag f s e b fault o ≡ Err reason
    → LeavesNone (content_step (contents_of (f ∷ s)) (Tag e b)) × (reason ≡ or_misplaced fault)
tag_refused f s e b (Some r) o reason n fault is h = (tag_none f s e b (is ∙ fault_may_not f e r o n fault is), cc)
tag_refused f s e b None None reason n fault is h = (tag_none f s e b is, cc)
tag_refused f s e b None (Some x) reason n fault is h = child_refused f s e b x reason is h

end_refused : (f : Frame) (s : List Frame) (reason : Reason) → with_end f s ≡ Err reason
    → LeavesNone (content_step (contents_of (f ∷ s)) End) × (reason ≡ Misplaced)
end_refused f [] reason h = (
  elim (is_complete f.content) as (λ (t : Bool). LeavesNone (if t then Some [] else None)) [ true ↦ tt | false ↦ tt ],
  cc,
)
end_refused f (g ∷ s) reason h =
    let was = if_refused (is_complete f.content) (g ∷ s) reason h in
    (if_none (is_complete f.content) (contents_of (g ∷ s)) was.0, was.1)

text_refused : (f : Frame) (s : List Frame) (reason : Reason) → with_text f s ≡ Err reason
    → LeavesNone (if takes_text f.content then Some (contents_of (f ∷ s)) else None) × (reason ≡ Misplaced)
text_refused f s reason h =
    let was = if_refused (takes_text f.content) (f ∷ s) reason h in
    (if_none (takes_text f.content) (contents_of (f ∷ s)) was.0, was.1)

pub step_refused : (t : Token) (s : List Frame) (es : List Element) (reason : Reason) → AllNamed s → AreOf s es
    → step s t ≡ Err reason → NotTaken s es t reason
step_refused t [] es reason n a h = absurd a
step_refused (Tag e b) (f ∷ s) es reason n a h =
    let was = tag_refused f s e b (tag_fault f.element e) (next_child f.content e) reason n.0 refl refl h in
    record { none = was.0; named = was.1 ∙ ap (λ p. or_misplaced (tag_fault p e)) (head-of f s es a) }
step_refused End (f ∷ s) es reason n a h = let was = end_refused f s reason h in record { none = was.0; named = was.1 }
step_refused (Text b) (f ∷ s) es reason n a h = let was = text_refused f s reason h in
    record { none = was.0; named = was.1 }
step_refused (Opaque b) (f ∷ s) es reason n a h = let was = text_refused f s reason h in
    record { none = was.0; named = was.1 }
