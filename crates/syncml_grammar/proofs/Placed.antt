-- The steps over the tokens of a tree read the tree, and stop where it is unread.
use Rattle.std.specs.Prelude.{◌≡◌, ℕ, ◌+◌, ◌≤◌, length, Bool, true, false, ◌&&◌, if◌then◌else◌, List, [], ◌∷◌, ◌++◌}
use Rattle.std.specs.Prelude.{Some, None, Result, Ok, Err, IsTrue, refl}
use Rattle.std.proofs.Common.{sym, ◌∙◌, ap, append_assoc, append-nil, arith}
use Rattle.wbxml_tokens.specs.declared.reason.Reason.TheVariants.{Misplaced}
use Rattle.wbxml_tables.specs.declared.Element.{Element}
use Rattle.wbxml_tokens.specs.declared.token.Token.{Token}
use Rattle.wbxml_tokens.specs.declared.token.Token.TheVariants.{Tag, End}
use Rattle.syncml_shape.specs.declared.rows.Kind.{Kind}
use Rattle.syncml_shape.specs.Forest.{Forest, nothing, text, opaque, bare, full, spelling}
use Rattle.syncml_shape.specs.Rows.{Content, document, start, next_child, is_complete, takes_text}
use Rattle.syncml_shape.specs.Shape.{fits, HasShape}
use Rattle.syncml_shape.specs.Faults.{tag_fault}
use Rattle.syncml_shape.proofs.Accepts.{and_true}
use Rattle.syncml_shape.proofs.Names.{IsNamed, next_named}
use Rattle.syncml_grammar.specs.Values.{Value, fresh_value, closed_value, with_text, with_child, of_draft}
use Rattle.syncml_grammar.specs.declared.draft.Draft.TheVariants as draft
use Rattle.syncml_grammar.specs.Reads.{Unread, at_place, read, read_document, ◌then◌}
use Rattle.syncml_grammar.specs.Machine.{Frame, root, began, on_end, with_tag, on_tag, on_next, on_piece, step}
use Rattle.syncml_grammar.specs.Building.{frames_behind}

-- the open elements behind tokens, or the place and the reason of the first that is refused, where they begin at a
-- place
abbrev pub run_at : ℕ → List Frame → List Token → Result (List Frame) Unread
run_at n s [] = Ok s
run_at n s (t ∷ l) = at_place n (step s t) then (λ m. run_at (n + 1) m l)

-- what may still come after a tree that fits
abbrev pub rest_of : Content → Forest → Content
rest_of c nothing = c
rest_of c (text b f) = rest_of c f
rest_of c (opaque b f) = rest_of c f
rest_of c (bare e f) = elim (next_child c e) [ None ↦ c | Some x ↦ rest_of x.1 f ]
rest_of c (full e i f) = elim (next_child c e) [ None ↦ c | Some x ↦ rest_of x.1 f ]

pub rest_complete : (f : Forest) (c : Content) → IsTrue (fits c f) → IsTrue (is_complete (rest_of c f))
rest_complete nothing c h = h
rest_complete (text b f) c h = rest_complete f c (and_true (takes_text c) (fits c f) h).1
rest_complete (opaque b f) c h = rest_complete f c (and_true (takes_text c) (fits c f) h).1
rest_complete (bare e f) c h =
    (elim (next_child c e)
    as (λ o. IsTrue (elim o as (λ _. Bool) [ None ↦ false | Some x ↦ is_complete (start x.0) && fits x.1 f ])
    → IsTrue (is_complete (elim o as (λ _. Content) [ None ↦ c | Some x ↦ rest_of x.1 f ]))) [
      | None ↦ λ w. cc
      | Some x ↦ λ w. rest_complete f x.1 (and_true (is_complete (start x.0)) (fits x.1 f) w).1
    ]) h
rest_complete (full e i f) c h =
    (elim (next_child c e)
    as (λ o. IsTrue (elim o as (λ _. Bool) [ None ↦ false | Some x ↦ fits (start x.0) i && fits x.1 f ])
    → IsTrue (is_complete (elim o as (λ _. Content) [ None ↦ c | Some x ↦ rest_of x.1 f ]))) [
      | None ↦ λ w. cc
      | Some x ↦ λ w. rest_complete f x.1 (and_true (fits (start x.0) i) (fits x.1 f) w).1
    ]) h

-- ---- steps that are taken

-- a frame with other content and value
abbrev pub at : Frame → Content → Value → Frame
at f c value = record f { content = c; value = value }

piece_taken : (top : Frame) (below : List Frame) (bytes : List ℕ) → IsTrue (takes_text top.content)
    → on_piece top below bytes ≡ Ok (record top { value = with_text top.value bytes } ∷ below)
piece_taken top below bytes h =
    ap (λ (t : Bool). (if t then Ok (record top { value = with_text top.value bytes }) else Err Misplaced)
    then (λ after. Ok (after ∷ below))) h

end_taken : (e : Element) (kind : Kind) (c : Content) (value : Value) (parent : Frame) → IsTrue (is_complete c)
    → on_end (at (began e kind) c value) parent
    ≡ (closed_value kind value then (λ whole. Ok (record parent { value = with_child parent.value e whole })))
end_taken e kind c value parent h =
    ap (λ (t : Bool).
    if t then (closed_value kind value then (λ whole. Ok (record parent { value = with_child parent.value e whole })))
    else Err Misplaced) h

tag_taken : (top : Frame) (below : List Frame) (e : Element) (b : Bool) (x : Kind × Content)
    → tag_fault top.element e ≡ None → next_child top.content e ≡ Some x
    → on_tag top below e b (tag_fault top.element e) ≡ with_tag (record top { content = x.1 }) below e b x.0
tag_taken top below e b x fault is = ap (on_tag top below e b) fault ∙ ap (on_next top below e b) is

-- ---- the steps over a tree that fits

-- over a tree in an element and then on
abbrev pub Reads : Forest → ℕ → Frame → Content → Value → List Frame → List Token → Type 0
Reads f n fr c value s l =
    run_at n (at fr c value ∷ s) (spelling f ++ l)
    ≡ (read n value c f then (λ p. run_at p.1 (at fr (rest_of c f) p.0 ∷ s) l))

reads_bare : (e : Element) (f : Forest) (n : ℕ) (fr : Frame) (c : Content) (value : Value) (s : List Frame)
    (l : List Token) (x : Kind × Content)
    → ((child : Value) → Reads f (n + 1) fr x.1 child s l) → tag_fault fr.element e ≡ None → next_child c e ≡ Some x
    → IsTrue (is_complete (start x.0))
    → (at_place n (step (at fr c value ∷ s) (Tag e false)) then (λ m. run_at (n + 1) m (spelling f ++ l)))
    ≡ ((at_place n (closed_value x.0 (fresh_value x.0 e)) then (λ child. read (n + 1) (with_child value e child) x.1 f))
    then (λ p. run_at p.1 (at fr (rest_of x.1 f) p.0 ∷ s) l))
reads_bare e f n fr c value s l x rest fault is done =
    ap (λ r. at_place n r then (λ m. run_at (n + 1) m (spelling f ++ l)))
    (tag_taken (at fr c value) s e false x fault is)
    ∙ ap (λ r. at_place n (r then (λ p. Ok (p ∷ s))) then (λ m. run_at (n + 1) m (spelling f ++ l)))
    (end_taken e x.0 (start x.0) (fresh_value x.0 e) (at fr x.1 value) done)
    ∙ (elim (closed_value x.0 (fresh_value x.0 e)) as (λ r.
    (at_place n ((r then (λ whole. Ok (at fr x.1 (with_child value e whole)))) then (λ p. Ok (p ∷ s)))
    then (λ m. run_at (n + 1) m (spelling f ++ l)))
    ≡ ((at_place n r then (λ child. read (n + 1) (with_child value e child) x.1 f))
    then (λ p. run_at p.1 (at fr (rest_of x.1 f) p.0 ∷ s) l))) [
      | Ok child ↦ rest (with_child value e child)
      | Err reason ↦ refl
    ])

-- over the END of a child, and on
reads_end : (e : Element) (f : Forest) (n : ℕ) (fr : Frame) (c : Content) (value : Value) (s : List Frame)
    (l : List Token) (x : Kind × Content) (inner : Content) (child : Value)
    → ((whole : Value) → Reads f (n + 1) fr x.1 whole s l) → IsTrue (is_complete inner)
    → run_at n (at (began e x.0) inner child ∷ at fr x.1 value ∷ s) (End ∷ (spelling f ++ l))
    ≡ ((at_place n (closed_value x.0 child) then (λ whole. read (n + 1) (with_child value e whole) x.1 f))
    then (λ p. run_at p.1 (at fr (rest_of x.1 f) p.0 ∷ s) l))
reads_end e f n fr c value s l x inner child rest done =
    ap (λ r. at_place n (r then (λ p. Ok (p ∷ s))) then (λ m. run_at (n + 1) m (spelling f ++ l)))
    (end_taken e x.0 inner child (at fr x.1 value) done)
    ∙ (elim (closed_value x.0 child) as (λ r.
    (at_place n ((r then (λ whole. Ok (at fr x.1 (with_child value e whole)))) then (λ p. Ok (p ∷ s)))
    then (λ m. run_at (n + 1) m (spelling f ++ l)))
    ≡ ((at_place n r then (λ whole. read (n + 1) (with_child value e whole) x.1 f))
    then (λ p. run_at p.1 (at fr (rest_of x.1 f) p.0 ∷ s) l))) [
      | Ok whole ↦ rest (with_child value e whole)
      | Err reason ↦ refl
    ])

reads_full : (e : Element) (i f : Forest) (n : ℕ) (fr : Frame) (c : Content) (value : Value) (s : List Frame)
    (l : List Token) (x : Kind × Content)
    → Reads i (n + 1) (began e x.0) (start x.0) (fresh_value x.0 e) (at fr x.1 value ∷ s) (End ∷ (spelling f ++ l))
    → ((place : ℕ) (whole : Value) → Reads f (place + 1) fr x.1 whole s l)
    → tag_fault fr.element e ≡ None → next_child c e ≡ Some x → IsTrue (fits (start x.0) i)
    → (at_place n (step (at fr c value ∷ s) (Tag e true))
    then (λ m. run_at (n + 1) m ((spelling i ++ End ∷ spelling f) ++ l)))
    ≡ ((read (n + 1) (fresh_value x.0 e) (start x.0) i
    then (λ p. at_place p.1 (closed_value x.0 p.0) then (λ child. read (p.1 + 1) (with_child value e child) x.1 f)))
    then (λ p. run_at p.1 (at fr (rest_of x.1 f) p.0 ∷ s) l))
reads_full e i f n fr c value s l x inner rest fault is fit =
    ap (λ r. at_place n r then (λ m. run_at (n + 1) m ((spelling i ++ End ∷ spelling f) ++ l)))
    (tag_taken (at fr c value) s e true x fault is)
    ∙ ap (run_at (n + 1) (began e x.0 ∷ at fr x.1 value ∷ s)) (append_assoc (spelling i) (End ∷ spelling f) l)
    ∙ inner
    ∙ (elim (read (n + 1) (fresh_value x.0 e) (start x.0) i) as (λ r.
    (r
    then (λ p. run_at p.1 (at (began e x.0) (rest_of (start x.0) i) p.0 ∷ at fr x.1 value ∷ s)
    (End ∷ (spelling f ++ l))))
    ≡ ((r then (λ p. at_place p.1 (closed_value x.0 p.0) then (λ child. read (p.1 + 1) (with_child value e child) x.1 f)))
    then (λ p. run_at p.1 (at fr (rest_of x.1 f) p.0 ∷ s) l))) [
      | Ok p ↦
          reads_end e f p.1 fr c value s l x (rest_of (start x.0) i) p.0 (rest p.1) (rest_complete i (start x.0) fit)
      | Err unread ↦ refl
    ])

pub reads : (f : Forest) (n : ℕ) (fr : Frame) (c : Content) (value : Value) (s : List Frame) (l : List Token)
    → IsNamed fr.element c → IsTrue (fits c f) → Reads f n fr c value s l
reads nothing n fr c value s l named h = refl
reads (text b f) n fr c value s l named h =
    let both = and_true (takes_text c) (fits c f) h in
    ap (λ r. at_place n r then (λ m. run_at (n + 1) m (spelling f ++ l))) (piece_taken (at fr c value) s b both.0)
    ∙ reads f (n + 1) fr c (with_text value b) s l named both.1
reads (opaque b f) n fr c value s l named h =
    let both = and_true (takes_text c) (fits c f) h in
    ap (λ r. at_place n r then (λ m. run_at (n + 1) m (spelling f ++ l))) (piece_taken (at fr c value) s b both.0)
    ∙ reads f (n + 1) fr c (with_text value b) s l named both.1
reads (bare e f) n fr c value s l named h =
    (elim (next_child c e) as (λ o. next_child c e ≡ o
    → IsTrue (elim o as (λ _. Bool) [ None ↦ false | Some x ↦ is_complete (start x.0) && fits x.1 f ])
    → (at_place n (step (at fr c value ∷ s) (Tag e false)) then (λ m. run_at (n + 1) m (spelling f ++ l)))
    ≡ ((elim o as (λ _. Result (Value × ℕ) Unread) [
      | None ↦ Err (record { at = n; reason = Misplaced })
      | Some x ↦ at_place n (closed_value x.0 (fresh_value x.0 e)) then (λ child. read (n + 1) (with_child value e child) x.1 f)
    ]) then (λ p. run_at p.1 (at fr (elim o as (λ _. Content) [ None ↦ c | Some x ↦ rest_of x.1 f ]) p.0 ∷ s) l))) [
      | None ↦ λ is w. cc
      | Some x ↦ λ is w.
          let both = and_true (is_complete (start x.0)) (fits x.1 f) w in
          let names = next_named c fr.element e x named is in
          reads_bare e f n fr c value s l x (λ child. reads f (n + 1) fr x.1 child s l names.rest both.1)
          names.faultless is both.0
    ]) refl h
reads (full e i f) n fr c value s l named h =
    (elim (next_child c e) as (λ o. next_child c e ≡ o
    → IsTrue (elim o as (λ _. Bool) [ None ↦ false | Some x ↦ fits (start x.0) i && fits x.1 f ])
    → (at_place n (step (at fr c value ∷ s) (Tag e true))
    then (λ m. run_at (n + 1) m ((spelling i ++ End ∷ spelling f) ++ l)))
    ≡ ((elim o as (λ _. Result (Value × ℕ) Unread) [
      | None ↦ Err (record { at = n; reason = Misplaced })
      | Some x ↦ read (n + 1) (fresh_value x.0 e) (start x.0) i
          then (λ p. at_place p.1 (closed_value x.0 p.0) then (λ child. read (p.1 + 1) (with_child value e child) x.1 f))
    ]) then (λ p. run_at p.1 (at fr (elim o as (λ _. Content) [ None ↦ c | Some x ↦ rest_of x.1 f ]) p.0 ∷ s) l))) [
      | None ↦ λ is w. cc
      | Some x ↦ λ is w.
          let both = and_true (fits (start x.0) i) (fits x.1 f) w in
          let names = next_named c fr.element e x named is in
          reads_full e i f n fr c value s l x
          (reads i (n + 1) (began e x.0) (start x.0) (fresh_value x.0 e) (at fr x.1 value ∷ s) (End ∷ (spelling f ++ l))
          names.child both.0)
          (λ place whole. reads f (place + 1) fr x.1 whole s l names.rest both.1) names.faultless is both.0
    ]) refl h

-- ---- a whole document

root_named : IsNamed root.element root.content
root_named = record { here = refl; below = refl }

-- the frames behind a document that is read
abbrev pub behind : Forest → Value → List Frame
behind tree value = at root (rest_of document tree) value ∷ []

pub run_document : (tokens : List Token) (tree : Forest) → HasShape tokens tree
    → run_at 0 (root ∷ []) tokens ≡ (read_document tree then (λ p. Ok (behind tree p.0)))
run_document tokens tree h =
    ap (run_at 0 (root ∷ [])) (h.spelled ∙ sym (append-nil (spelling tree)))
    ∙ reads tree 0 root document (of_draft draft.Document) [] [] root_named h.fitting

-- ---- a run and the frames behind

pub run_of : (l : List Token) (n : ℕ) (s m : List Frame) → frames_behind s l ≡ Ok m → run_at n s l ≡ Ok m
run_of [] n s m h = let is : s ≡ m = cc in ap Ok is
run_of (t ∷ l) n s m h =
    (elim (step s t)
    as (λ r. (r then (λ k. frames_behind k l)) ≡ Ok m → (at_place n r then (λ k. run_at (n + 1) k l)) ≡ Ok m) [
      | Ok k ↦ run_of l (n + 1) k m
      | Err reason ↦ λ w. cc
    ]) h

pub behind_of : (l : List Token) (n : ℕ) (s m : List Frame) → run_at n s l ≡ Ok m → frames_behind s l ≡ Ok m
behind_of [] n s m h = let is : s ≡ m = cc in ap Ok is
behind_of (t ∷ l) n s m h =
    (elim (step s t)
    as (λ r. (at_place n r then (λ k. run_at (n + 1) k l)) ≡ Ok m → (r then (λ k. frames_behind k l)) ≡ Ok m) [
      | Ok k ↦ behind_of l (n + 1) k m
      | Err reason ↦ λ w. cc
    ]) h

pub run_on : (a b : List Token) (n : ℕ) (s m : List Frame) → frames_behind s a ≡ Ok m
    → run_at n s (a ++ b) ≡ run_at (n + length a) m b
run_on [] b n s m h = let is : s ≡ m = cc in ap (λ k. run_at n k b) is ∙ ap (λ k. run_at k m b) (omega arith)
run_on (x ∷ a) b n s m h =
    (elim (step s x)
    as (λ r. (r then (λ k. frames_behind k a)) ≡ Ok m
    → (at_place n r then (λ k. run_at (n + 1) k (a ++ b))) ≡ run_at (n + length (x ∷ a)) m b) [
      | Ok k ↦ λ w. run_on a b (n + 1) k m w ∙ ap (λ p. run_at p m b) (omega arith)
      | Err reason ↦ λ w. cc
    ]) h

-- a run stops no earlier than it begins
pub stops_later : (l : List Token) (n : ℕ) (s : List Frame) (u : Unread) → run_at n s l ≡ Err u → n ≤ u.at
stops_later [] n s u h = cc
stops_later (t ∷ l) n s u h =
    (elim (step s t) as (λ r. (at_place n r then (λ k. run_at (n + 1) k l)) ≡ Err u → n ≤ u.at) [
      | Ok k ↦ λ w. let later = stops_later l (n + 1) k u w in omega (arith, later)
      | Err reason ↦ λ w. let is : record { at = n; reason = reason } ≡ u = cc in
          let place : n ≡ u.at = ap (λ (x : Unread). x.at) is in omega (arith, place)
    ]) h
