-- Trees that tokens spell, each put before a rest: where they fit, and what they are read as.
use Rattle.std.specs.Prelude.{◌≡◌, ◌<◌, ◌+◌, ◌^◌, ◌&&◌, ◌||◌, ℕ, Bool, true, false, not, if◌then◌else◌, List, [], ◌∷◌}
use Rattle.std.specs.Prelude.{◌++◌, length, Option, Some, None, IfSome, Result, Ok, Err, IsTrue, refl}
use Rattle.std.proofs.Common.{sym, ap, subst, ◌∙◌, append_assoc}
use Rattle.std.proofs.lemmas.List.{append-nil}
use Rattle.std.specs.List.{AllByRecursion, flat_map, list_all}
use denote.Enum.Bare.{true_same}
use Rattle.wbxml_tables.specs.contracts.Element.{the_type}
use Rattle.wbxml_tables.specs.declared.Element.{Element}
use Rattle.wbxml_tables.specs.declared.Element.TheVariants.{EMetInf}
use Rattle.wbxml_tokens.specs.declared.reason.Reason.TheVariants.{Misplaced}
use Rattle.wbxml_tokens.specs.declared.token.Token.{Token}
use Rattle.wbxml_tokens.specs.declared.token.Token.TheVariants.{Tag, End, Text, Opaque}
use Rattle.wbxml_tokens.specs.Spelled.{HasNoZero}
use Rattle.wbxml_tokens.specs.Written.{CanBeSpelled}
use Rattle.syncml_shape.specs.declared.rows.Kind.{Kind}
use Rattle.syncml_shape.specs.declared.rows.Kind.TheVariants as kinds
use Rattle.syncml_shape.specs.declared.rows.Choice.TheVariants.{One}
use Rattle.syncml_shape.specs.declared.rows.ChildRow.{ChildRow}
use Rattle.syncml_shape.specs.Forest.{Forest, nothing, text, opaque, bare, full, spelling}
use Rattle.syncml_shape.specs.Rows.{same, Content, in_order, in_any_order, none_came, start, in_row, next_row}
use Rattle.syncml_shape.specs.Rows.{after_row, next_child, all_optional, is_complete, takes_text}
use Rattle.syncml_shape.specs.Shape.{fits}
use Rattle.syncml_shape.proofs.Accepts.{and_true}
use Rattle.syncml_shape.proofs.Completes.{and_both}
use Rattle.syncml_shape.proofs.Names.{same_only}
use Rattle.syncml_types.specs.Canonical.{parent_tokens, element_tokens, flag_tokens, optional}
use Rattle.syncml_types.specs.Fitness.{all_of, is_filled}
use Rattle.syncml_grammar.specs.declared.leaf.Simple.TheVariants as simples
use Rattle.syncml_grammar.specs.Values.{Value, EndedElement, simple, fresh_value, with_text, closed_value, with_child}
use Rattle.syncml_grammar.specs.Reads.{Unread, ◌then◌, at_place, read}

-- ---- trees before a rest

-- Before a rest stand trees that the tokens spell. They fit where the rest fits, and lead from one content and value to
-- another.
pub record Puts (c : Content) (v : Value) (tokens : List Token) (d : Content) (w : Value) : Type 0 where
  pub front : Forest → Forest
  pub place : ℕ → ℕ
  pub written : AllByRecursion CanBeSpelled tokens
  pub spells : (rest : Forest) → spelling (front rest) ≡ tokens ++ spelling rest
  pub fit : (rest : Forest) → IsTrue (fits d rest) → IsTrue (fits c (front rest))
  pub reads : (at : ℕ) (rest : Forest) → IsTrue (fits d rest) → read at v c (front rest) ≡ read (place at) w d rest

pub puts_none : {c : Content} {v : Value} → Puts c v [] c v
puts_none = record {
  front = λ rest. rest;
  place = λ at. at;
  written = tt;
  spells = λ rest. refl;
  fit = λ rest h. h;
  reads = λ at rest h. refl;
}

pub all_append : {A : Type 0} (P : A → Type 0) (xs ys : List A) → AllByRecursion P xs → AllByRecursion P ys
    → AllByRecursion P (xs ++ ys)
all_append P [] ys a b = b
all_append P (x ∷ xs) ys a b = (a.0, all_append P xs ys a.1 b)

infixl 10 ◌behind◌
pub ◌behind◌ : {c d f : Content} {v w x : Value} {ts us : List Token} → Puts c v ts d w → Puts d w us f x
    → Puts c v (ts ++ us) f x
◌behind◌ {ts = ts} {us = us} a b = record {
  front = λ rest. a.front (b.front rest);
  place = λ at. b.place (a.place at);
  written = all_append CanBeSpelled ts us a.written b.written;
  spells = λ rest.
      a.spells (b.front rest) ∙ ap (λ l. ts ++ l) (b.spells rest) ∙ sym (append_assoc ts us (spelling rest));
  fit = λ rest h. a.fit (b.front rest) (b.fit rest h);
  reads = λ at rest h. a.reads at (b.front rest) (b.fit rest h) ∙ b.reads (a.place at) rest h;
}

-- ---- elements

pub puts_bare : {c d : Content} {v : Value} (e : Element) (k : Kind) (whole : EndedElement) → next_child c e ≡ Some (k, d)
    → IsTrue (is_complete (start k))
    → closed_value k (fresh_value k e) ≡ Ok whole → Puts c v (Tag e false ∷ []) d (with_child v e whole)
puts_bare {c} {d} {v} e k whole n done is = record {
  front = λ rest. bare e rest;
  place = λ at. at + 1;
  written = (tt, tt);
  spells = λ rest. refl;
  fit = λ rest h.
      ap (λ (o : Option (Kind × Content)).
      elim o as (λ _. Bool) [ None ↦ false | Some x ↦ is_complete (start x.0) && fits x.1 rest ]) n
      ∙ and_both (is_complete (start k)) (fits d rest) done h;
  reads = λ at rest h.
      ap (λ (o : Option (Kind × Content)). elim o as (λ _. Result (Value × ℕ) Unread) [
        | None ↦ Err (record { at = at; reason = Misplaced })
        | Some x ↦ at_place at (closed_value x.0 (fresh_value x.0 e)) then (λ child. read (at + 1) (with_child v e child) x.1 rest)
      ]) n
      ∙ ap (λ r. at_place at r then (λ child. read (at + 1) (with_child v e child) d rest)) is;
}

pub puts_full : {c d f : Content} {v w : Value} {ts : List Token} (e : Element) (k : Kind) (whole : EndedElement)
    → next_child c e ≡ Some (k, d)
    → Puts (start k) (fresh_value k e) ts f w → IsTrue (is_complete f) → closed_value k w ≡ Ok whole
    → Puts c v (parent_tokens e ts) d (with_child v e whole)
puts_full {c} {d} {f} {v} {w} {ts} e k whole n inner done is = record {
  front = λ rest. full e (inner.front nothing) rest;
  place = λ at. inner.place (at + 1) + 1;
  written = (tt, all_append CanBeSpelled ts (End ∷ []) inner.written (tt, tt));
  spells = λ rest.
      ap (λ l. Tag e true ∷ (l ++ End ∷ spelling rest)) (inner.spells nothing ∙ append-nil ts)
      ∙ ap (λ l. Tag e true ∷ l) (sym (append_assoc ts (End ∷ []) (spelling rest)));
  fit = λ rest h.
      ap (λ (o : Option (Kind × Content)).
      elim o as (λ _. Bool) [ None ↦ false | Some x ↦ fits (start x.0) (inner.front nothing) && fits x.1 rest ]) n
      ∙ and_both (fits (start k) (inner.front nothing)) (fits d rest) (inner.fit nothing done) h;
  reads = λ at rest h.
      ap (λ (o : Option (Kind × Content)). elim o as (λ _. Result (Value × ℕ) Unread) [
        | None ↦ Err (record { at = at; reason = Misplaced })
        | Some x ↦ read (at + 1) (fresh_value x.0 e) (start x.0) (inner.front nothing) then
            (λ p. at_place p.1 (closed_value x.0 p.0) then (λ child. read (p.1 + 1) (with_child v e child) x.1 rest))
      ]) n
      ∙ ap (λ r. r then (λ p. at_place p.1 (closed_value k p.0) then (λ child. read (p.1 + 1) (with_child v e child) d rest)))
      (inner.reads (at + 1) nothing done)
      ∙ ap (λ r. at_place (inner.place (at + 1)) r
      then (λ child. read (inner.place (at + 1) + 1) (with_child v e child) d rest)) is;
}

no_tree : (f : Forest) → spelling f ≡ [] → f ≡ nothing
no_tree nothing h = refl
no_tree (text bytes rest) h = absurd cc
no_tree (opaque bytes rest) h = absurd cc
no_tree (bare e rest) h = absurd cc
no_tree (full e content rest) h = absurd cc

same_read : (a b : Value) (m n : ℕ) → ◌≡◌ {A = Result (Value × ℕ) Unread} (Ok (a, m)) (Ok (b, n)) → a ≡ b
same_read a b m n h =
    let pair : ◌≡◌ {A = Value × ℕ} (a, m) (b, n) = cc in ap (λ (p : Value × ℕ). p.0) pair

-- an element that is its tag alone where it has no children
pub puts_element : {c d f : Content} {v w : Value} {ts : List Token} (e : Element) (k : Kind) (whole : EndedElement)
    → next_child c e ≡ Some (k, d)
    → Puts (start k) (fresh_value k e) ts f w → IsTrue (is_complete f) → closed_value k w ≡ Ok whole
    → Puts c v (element_tokens e ts) d (with_child v e whole)
puts_element {f = f} {w = w} {ts = []} e k whole n inner done is =
    let none : inner.front nothing ≡ nothing = no_tree (inner.front nothing) (inner.spells nothing) in
    let same : fresh_value k e ≡ w = same_read (fresh_value k e) w 0 (inner.place 0)
    (ap (λ tree. read 0 (fresh_value k e) (start k) tree) (sym none) ∙ inner.reads 0 nothing done) in
    puts_bare e k whole n (subst (λ tree. IsTrue (fits (start k) tree)) none (inner.fit nothing done))
    (ap (closed_value k) same ∙ is)
puts_element {ts = t ∷ ts} e k whole n inner done is = puts_full e k whole n inner done is

pub puts_text : {c : Content} {v : Value} (bytes : List ℕ) → HasNoZero bytes → IsTrue (takes_text c)
    → Puts c v (Text bytes ∷ []) c (with_text v bytes)
puts_text {c} {v} bytes none takes = record {
  front = λ rest. text bytes rest;
  place = λ at. at + 1;
  written = (none, tt);
  spells = λ rest. refl;
  fit = λ rest h. and_both (takes_text c) (fits c rest) takes h;
  reads = λ at rest h. refl;
}

pub puts_opaque : {c : Content} {v : Value} (bytes : List ℕ) → length bytes < 2 ^ 32 → IsTrue (takes_text c)
    → Puts c v (Opaque bytes ∷ []) c (with_text v bytes)
puts_opaque {c} {v} bytes short takes = record {
  front = λ rest. opaque bytes rest;
  place = λ at. at + 1;
  written = (short, tt);
  spells = λ rest. refl;
  fit = λ rest h. and_both (takes_text c) (fits c rest) takes h;
  reads = λ at rest h. refl;
}

-- ---- rows that are passed over

-- whatever may come next in the second may come in the first, with the same behind it
pub record Covers (c d : Content) : Type 0 where
  pub next : (e : Element) (x : Kind × Content) → next_child d e ≡ Some x → next_child c e ≡ Some x
  pub complete : IsTrue (is_complete d) → IsTrue (is_complete c)
  pub no_text : takes_text d ≡ false

pub none_some : {A P : Type 0} (x : A) → None ≡ Some x → P
none_some x h = cc

never : {P : Type 0} → false ≡ true → P
never h = cc

came_bare : (d : Content) (e : Element) (rest : Forest) → IsTrue (fits d (bare e rest))
    → (x : Kind × Content) × (next_child d e ≡ Some x) × IsTrue (is_complete (start x.0) && fits x.1 rest)
came_bare d e rest h =
    (elim (next_child d e)
    as (λ (o : Option (Kind × Content)). next_child d e ≡ o
    → IsTrue (elim o as (λ _. Bool) [ None ↦ false | Some x ↦ is_complete (start x.0) && fits x.1 rest ])
    → (x : Kind × Content) × (next_child d e ≡ Some x) × IsTrue (is_complete (start x.0) && fits x.1 rest)) [
      | None ↦ λ is g. never g
      | Some x ↦ λ is g. (x, is, g)
    ]) refl h

came_full : (d : Content) (e : Element) (i rest : Forest) → IsTrue (fits d (full e i rest))
    → (x : Kind × Content) × (next_child d e ≡ Some x) × IsTrue (fits (start x.0) i && fits x.1 rest)
came_full d e i rest h =
    (elim (next_child d e)
    as (λ (o : Option (Kind × Content)). next_child d e ≡ o
    → IsTrue (elim o as (λ _. Bool) [ None ↦ false | Some x ↦ fits (start x.0) i && fits x.1 rest ])
    → (x : Kind × Content) × (next_child d e ≡ Some x) × IsTrue (fits (start x.0) i && fits x.1 rest)) [
      | None ↦ λ is g. never g
      | Some x ↦ λ is g. (x, is, g)
    ]) refl h

no_piece : {P : Type 0} (d : Content) (f : Forest) → takes_text d ≡ false → IsTrue (takes_text d && fits d f) → P
no_piece d f none h = never (sym none ∙ (and_true (takes_text d) (fits d f) h).0)

covered_fit : {c d : Content} → Covers c d → (f : Forest) → IsTrue (fits d f) → IsTrue (fits c f)
covered_fit {c} {d} g nothing h = g.complete h
covered_fit {c} {d} g (text bytes rest) h = no_piece d rest g.no_text h
covered_fit {c} {d} g (opaque bytes rest) h = no_piece d rest g.no_text h
covered_fit {c} {d} g (bare e rest) h =
    let came = came_bare d e rest h in
    ap (λ (o : Option (Kind × Content)).
    elim o as (λ _. Bool) [ None ↦ false | Some x ↦ is_complete (start x.0) && fits x.1 rest ]) (g.next e came.0 came.1)
    ∙ came.2
covered_fit {c} {d} g (full e i rest) h =
    let came = came_full d e i rest h in
    ap (λ (o : Option (Kind × Content)).
    elim o as (λ _. Bool) [ None ↦ false | Some x ↦ fits (start x.0) i && fits x.1 rest ]) (g.next e came.0 came.1)
    ∙ came.2

covered_read : {c d : Content} → Covers c d → (at : ℕ) (v : Value) (f : Forest) → IsTrue (fits d f)
    → read at v c f ≡ read at v d f
covered_read {c} {d} g at v nothing h = refl
covered_read {c} {d} g at v (text bytes rest) h = no_piece d rest g.no_text h
covered_read {c} {d} g at v (opaque bytes rest) h = no_piece d rest g.no_text h
covered_read {c} {d} g at v (bare e rest) h =
    let came = came_bare d e rest h in
    ap (λ (o : Option (Kind × Content)). elim o as (λ _. Result (Value × ℕ) Unread) [
      | None ↦ Err (record { at = at; reason = Misplaced })
      | Some x ↦ at_place at (closed_value x.0 (fresh_value x.0 e)) then (λ child. read (at + 1) (with_child v e child) x.1 rest)
    ]) (g.next e came.0 came.1 ∙ sym came.1)
covered_read {c} {d} g at v (full e i rest) h =
    let came = came_full d e i rest h in
    ap (λ (o : Option (Kind × Content)). elim o as (λ _. Result (Value × ℕ) Unread) [
      | None ↦ Err (record { at = at; reason = Misplaced })
      | Some x ↦ read (at + 1) (fresh_value x.0 e) (start x.0) i then
          (λ p. at_place p.1 (closed_value x.0 p.0) then (λ child. read (p.1 + 1) (with_child v e child) x.1 rest))
    ]) (g.next e came.0 came.1 ∙ sym came.1)

pub puts_then : {c d f : Content} {v w : Value} {ts : List Token} → Puts c v ts d w → Covers d f → Puts c v ts f w
puts_then p g = record {
  front = p.front;
  place = p.place;
  written = p.written;
  spells = p.spells;
  fit = λ rest h. p.fit rest (covered_fit g rest h);
  reads = λ at rest h. p.reads at rest (covered_fit g rest h) ∙ covered_read g (p.place at) _ rest h;
}

-- a row of one element
abbrev pub row : Element → Kind → Bool → Bool → ChildRow
row e k required many = record { choice = One e k; required = required; many = many }

pub next_here : (e : Element) (k : Kind) (r m came : Bool) (rows : List ChildRow) → (came && not m) ≡ false
    → next_child (in_order came (row e k r m ∷ rows)) e ≡ Some (k, in_order true (row e k r m ∷ rows))
next_here e k r m came rows again =
    ap (λ (b : Bool). after_row (in_row (if b then Some k else None) came (row e k r m) rows (next_row false rows e)))
    (true_same the_type e e refl)
    ∙ ap (λ (b : Bool). after_row (if b then None else Some (k, row e k r m ∷ rows))) again

complete_all : (rows : List ChildRow) → IsTrue (is_complete (in_order false rows)) → IsTrue (all_optional rows)
complete_all [] h = refl
complete_all (one ∷ rows) h = h

passed : (came r : Bool) → (came || not r) ≡ true → (not came && r) ≡ false
passed true r h = refl
passed false true h = cc
passed false false h = refl

-- a row of an element that no later row has
pub skips : (e : Element) (k : Kind) (r m came : Bool) (rows : List ChildRow) → next_row false rows e ≡ None
    → (came || not r) ≡ true
    → Covers (in_order came (row e k r m ∷ rows)) (in_order false rows)
skips e k r m came rows none over = record {
  next = λ other x h.
      (elim (same e other)
      as (λ (b : Bool). same e other ≡ b
      → after_row (in_row (if b then Some k else None) came (row e k r m) rows (next_row false rows other)) ≡ Some x) [
        | true ↦ λ is.
            none_some x (sym (ap after_row (subst (λ n. next_row false rows n ≡ None) (same_only e other is) none)) ∙ h)
        | false ↦ λ is.
            ap (λ (b : Bool). after_row (if b then None else next_row false rows other)) (passed came r over) ∙ h
      ]) refl;
  complete = λ h. and_both (came || not r) (all_optional rows) over (complete_all rows h);
  no_text = refl;
}

-- the last row
pub ends : (last : ChildRow) (came : Bool) → (came || not last.required) ≡ true
    → Covers (in_order came (last ∷ [])) (in_order false [])
ends last came over = record {
  next = λ other x h. none_some x h;
  complete = λ h. and_both (came || not last.required) true over refl;
  no_text = refl;
}

-- a Meta in which no MetInf comes
pub unwrapped : Covers (in_any_order true none_came) (in_any_order false none_came)
unwrapped = record {
  next = λ other x h.
      (elim (same other EMetInf)
      as (λ (b : Bool). same other EMetInf ≡ b
      → (if true && b then Some (kinds.MetInf, in_order false []) else next_child (in_any_order false none_came) other)
      ≡ Some x) [
        | true ↦ λ is. none_some x (sym (ap (next_child (in_any_order false none_came)) (same_only other EMetInf is)) ∙ h)
        | false ↦ λ is. h
      ]) refl;
  complete = λ h. refl;
  no_text = refl;
}

-- ---- what may be absent, and lists

-- an optional row
pub puts_optional : {A : Type 0} {c d : Content} (P : A → Type 0) (tokens : A → List Token) (value : Option A → Value)
    (o : Option A)
    → IfSome o P → Covers c d → ((x : A) → P x → Puts c (value None) (tokens x) d (value (Some x)))
    → Puts c (value None) (optional tokens o) d (value o)
puts_optional P tokens value None h g one = puts_then puts_none g
puts_optional P tokens value (Some x) h g one = one x h

-- a child in any order
pub puts_perhaps : {A : Type 0} (P : A → Type 0) (tokens : A → List Token) (content : Option A → Content)
    (value : Option A → Value) (o : Option A)
    → IfSome o P → ((x : A) → P x → Puts (content None) (value None) (tokens x) (content (Some x)) (value (Some x)))
    → Puts (content None) (value None) (optional tokens o) (content o) (value o)
puts_perhaps P tokens content value None h one = puts_none
puts_perhaps P tokens content value (Some x) h one = one x h

-- a flag
pub puts_flag : (e : Element) (rows : List ChildRow) (value : Bool → Value) (b : Bool) → next_row false rows e ≡ None
    → with_child (value false) e (simple simples.Flag) ≡ value true
    → Puts (in_order false (row e kinds.Flag false false ∷ rows)) (value false) (flag_tokens e b) (in_order false rows)
    (value b)
unfolding flag_tokens
puts_flag e rows value false none same = puts_then puts_none (skips e kinds.Flag false false false rows none refl)
puts_flag e rows value true none same =
    subst (λ w. Puts (in_order false (row e kinds.Flag false false ∷ rows)) (value false) (Tag e false ∷ [])
    (in_order false rows) w) same
    (puts_then (puts_bare e kinds.Flag (simple simples.Flag) (next_here e kinds.Flag false false false rows refl) refl
    refl) (skips e kinds.Flag false false true rows none refl))

-- what one more of a list does, behind those that came
abbrev pub PutsOne : {A : Type 0} → List ChildRow → (List A → Value) → (A → List Token) → A → Type 0
PutsOne {A} rows value tokens x =
    (came : Bool) (before : List A)
    → Puts (in_order came rows) (value before) (tokens x) (in_order true rows) (value (before ++ x ∷ []))

pub puts_more : {A : Type 0} {d : Content} (rows : List ChildRow) (value : List A → Value) (tokens : A → List Token)
    (xs before : List A)
    → AllByRecursion (PutsOne rows value tokens) xs → Covers (in_order true rows) d
    → Puts (in_order true rows) (value before) (flat_map tokens xs) d (value (before ++ xs))
puts_more rows value tokens [] before h g =
    subst (λ l. Puts (in_order true rows) (value before) [] _ (value l)) (sym (append-nil before))
    (puts_then puts_none g)
puts_more {d = d} rows value tokens (x ∷ xs) before h g =
    subst (λ l. Puts (in_order true rows) (value before) (tokens x ++ flat_map tokens xs) d (value l))
    (append_assoc before (x ∷ []) xs)
    (h.0 true before behind puts_more rows value tokens xs (before ++ x ∷ []) h.1 g)

-- a list that isn't empty
pub puts_filled : {A : Type 0} {d : Content} (rows : List ChildRow) (value : List A → Value) (tokens : A → List Token)
    (xs : List A) → is_filled xs ≡ true
    → AllByRecursion (PutsOne rows value tokens) xs → Covers (in_order true rows) d
    → Puts (in_order false rows) (value []) (flat_map tokens xs) d (value xs)
puts_filled rows value tokens [] some h g = never some
puts_filled rows value tokens (x ∷ xs) some h g = h.0 false [] behind puts_more rows value tokens xs (x ∷ []) h.1 g

pub puts_list : {A : Type 0} {d : Content} (rows : List ChildRow) (value : List A → Value) (tokens : A → List Token)
    (xs : List A)
    → AllByRecursion (PutsOne rows value tokens) xs → Covers (in_order false rows) d → Covers (in_order true rows) d
    → Puts (in_order false rows) (value []) (flat_map tokens xs) d (value xs)
puts_list rows value tokens [] h g more = puts_then puts_none g
puts_list rows value tokens (x ∷ xs) h g more = h.0 false [] behind puts_more rows value tokens xs (x ∷ []) h.1 more

-- ---- what holds of each

pub some_of : {A : Type 0} (test : A → Bool) (o : Option A) → all_of test o ≡ true → IfSome o (λ x. test x ≡ true)
some_of test None h = tt
some_of test (Some x) h = h

pub each_of : {A : Type 0} (test : A → Bool) (xs : List A) → list_all test xs ≡ true
    → AllByRecursion (λ x. test x ≡ true) xs
each_of test [] h = tt
each_of test (x ∷ xs) h = let both = and_true (test x) (list_all test xs) h in (both.0, each_of test xs both.1)

pub each_so : {A : Type 0} (P Q : A → Type 0) (xs : List A) → ((x : A) → P x → Q x) → AllByRecursion P xs
    → AllByRecursion Q xs
each_so P Q [] so p = tt
each_so P Q (x ∷ xs) so p = (so x p.0, each_so P Q xs so p.1)
