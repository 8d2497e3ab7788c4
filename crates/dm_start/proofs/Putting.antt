-- The tree text so far, of which a front was put and the rest waits.
use Rattle.std.proofs.Common.{ℕ, ◌≡◌, ◌<◌, ◌≤◌, ◌+◌, ◌/◌, ◌%◌, false, List, [], ◌∷◌, ◌++◌, length, take, drop, min}
use Rattle.std.proofs.Common.{Option, None, Some, Ok, Err, refl, sym, ap, subst, ◌∙◌, arith}
use Rattle.std.proofs.Common.{append_assoc, append-nil, length-append, length-take, take-append-drop}
use Rattle.std.proofs.lemmas.List.{take-append-le}
use Rattle.std.proofs.Math.Seq.{take-append-add}
use Rattle.std.proofs.KnownBytes.{Appends-nil, Appends-trans}
use Rattle.std.specs.Prelude.{Result, IfSome, slice_index}
use Rattle.std.specs.Option.{option_map_or}
use Rattle.std.specs.FinMap.{get}
use Rattle.std.specs.Io.KnownBytes.{Appends}
use Rattle.hex.specs.Hex.{encode_with, lower_digits}
use Rattle.dm_base.specs.declared.outside.Fault.{Fault}
use Rattle.dm_base.specs.Fields.{hex_text}
use Rattle.dm_base.specs.Lines.{line_feed}
use Rattle.dm_base.specs.Outside.{PutsAll}
use Rattle.dm_tree.specs.declared.nodes.Node.{Node}
use Rattle.dm_tree.specs.declared.rows.Row.{Row}
use Rattle.dm_tree.specs.Nodes.{Path, Nodes}
use Rattle.dm_tree.specs.Rows.{nodes, path_of, IsLive}
use Rattle.dm_tree.specs.Order.{behind}
use Rattle.dm_start.specs.TreeText.{line_front, bytes_text, node_line, line_at, tree_text, PutsOn}
use Rattle.dm_start.proofs.TextWalk.{lines_of, left, IsOn, IsTextSoFar, text-starts, text-goes_on, text-ends, all_lines}

-- ---- a front of a text

-- a proper prefix of what waits is one of the whole
proper : (whole done text rest : List ℕ) (n : ℕ) → whole ≡ done ++ (text ++ rest) → n < length text
    → length done + n < length whole
proper whole done text rest n is less =
    let all = ap length is in
    let outer = length-append done (text ++ rest) in
    let inner = length-append text rest in
    omega (arith, all, outer, inner, less)

front : (whole done text rest : List ℕ) (n : ℕ) → whole ≡ done ++ (text ++ rest) → n < length text
    → take (length done + n) whole ≡ done ++ take n text
front whole done text rest n is less =
    ap (take (length done + n)) is ∙ take-append-add done (text ++ rest) n
    ∙ ap (λ l. done ++ l) (take-append-le n text rest (omega (arith, less)))

-- a proper prefix of the text was put, for any error
abbrev pub PutsFront : Option (List ℕ) → Option (List ℕ) → List ℕ → Type 0
PutsFront old new text = (n : ℕ) × (n < length text) × Appends old new (take n text)

pub front_put : (old mid new : Option (List ℕ)) (whole done text rest : List ℕ) → Appends old mid done
    → PutsFront mid new text → whole ≡ done ++ (text ++ rest) → PutsFront old new whole
front_put old mid new whole done text rest put h is = (
  length done + h.0,
  proper whole done text rest h.0 is h.1,
  subst (Appends old new) (sym (front whole done text rest h.0 is h.1)) (Appends-trans old mid new _ _ put h.2),
)

-- nothing of what waits was put
pub none_put : (old new : Option (List ℕ)) (whole done text : List ℕ) → Appends old new done → 0 < length text
    → whole ≡ done ++ text → PutsFront old new whole
none_put old new whole done text put some is =
    front_put old new new whole done text [] put (0, some, Appends-nil new)
    (is ∙ ap (λ l. done ++ l) (sym (append-nil text)))

-- ---- a longer text

-- nothing was put of what is to be put
pub puts_nothing : (old : Option (List ℕ)) (text rest : List ℕ) (e : Fault) → 0 < length text
    → PutsOn old old text rest (Err e)
puts_nothing old text rest e some = (0, some, Appends-nil old)

-- a front of what came first was put, and then of what waits and of what came behind
pub puts_then : (old mid new : Option (List ℕ)) (text a more b rest : List ℕ) (r : Result (Unit {0}) Fault)
    → PutsOn old mid (text ++ a) more (Ok tt) → PutsOn mid new (more ++ b) rest r
    → PutsOn old new (text ++ (a ++ b)) rest r
puts_then old mid new text a more b rest (Ok u) p q =
    let whole : text ++ (a ++ b) ≡ p.0 ++ (more ++ b) =
    sym (append_assoc text a b) ∙ ap (λ l. l ++ b) p.2 ∙ append_assoc p.0 more b in (
      p.0 ++ q.0,
      Appends-trans old mid new _ _ p.1 q.1,
      whole ∙ ap (λ l. p.0 ++ l) q.2 ∙ sym (append_assoc p.0 q.0 rest),
    )
puts_then old mid new text a more b rest (Err e) p q =
    front_put old mid new (text ++ (a ++ b)) p.0 (more ++ b) [] p.1 q
    (sym (append_assoc text a b) ∙ ap (λ l. l ++ b) p.2 ∙ append_assoc p.0 more b
    ∙ ap (λ l. p.0 ++ l) (sym (append-nil (more ++ b))))

-- what was to come behind didn't
pub puts_less : (old mid : Option (List ℕ)) (text a more b rest : List ℕ) (e : Fault)
    → PutsOn old mid (text ++ a) more (Ok tt) → 0 < length b → PutsOn old mid (text ++ (a ++ b)) rest (Err e)
puts_less old mid text a more b rest e p some =
    let inner = length-append more b in
    none_put old mid (text ++ (a ++ b)) p.0 (more ++ b) p.1 (omega (arith, inner, some))
    (sym (append_assoc text a b) ∙ ap (λ l. l ++ b) p.2 ∙ append_assoc p.0 more b)

-- a proper prefix of what came first was put, and nothing behind
pub puts_early : (old new : Option (List ℕ)) (text a b more rest : List ℕ) (e : Fault)
    → PutsOn old new (text ++ a) more (Err e) → PutsOn old new (text ++ (a ++ b)) rest (Err e)
puts_early old new text a b more rest e p =
    front_put old old new (text ++ (a ++ b)) [] (text ++ a) b (Appends-nil old) p (sym (append_assoc text a b))

-- ---- the digits of a value

digits_append : (t xs ys : List ℕ) → encode_with t (xs ++ ys) ≡ encode_with t xs ++ encode_with t ys
unfolding encode_with
digits_append t [] ys = refl
digits_append t (b ∷ xs) ys =
    ap (λ rest. slice_index t (b / 16) ∷ slice_index t (b % 16) ∷ rest) (digits_append t xs ys)

hex_append : (xs ys : List ℕ) → 0 < length xs → 0 < length ys → hex_text (xs ++ ys) ≡ hex_text xs ++ hex_text ys
hex_append (x ∷ xs) (y ∷ ys) h g = digits_append lower_digits (x ∷ xs) (y ∷ ys)
hex_append [] ys h g = absurd (omega (arith, h))
hex_append (x ∷ xs) [] h g = absurd (omega (arith, g))

pub digits_some : (text bytes : List ℕ) → 0 < length (text ++ hex_text bytes)
unfolding encode_with
digits_some text [] = let long = length-append text (hex_text []) in omega (arith, long)
digits_some text (b ∷ bs) = let long = length-append text (hex_text (b ∷ bs)) in omega (arith, long)

-- bytes cut in two, of which the first has some where there are any
pub record IsCut (bytes first rest : List ℕ) : Type 0 where
  pub parts : first ++ rest ≡ bytes
  pub some : 0 < length bytes → 0 < length first

pub cut_at : (bytes first rest : List ℕ) (m : ℕ) → first ≡ take m bytes → rest ≡ drop m bytes
    → (0 < length bytes → 0 < m) → IsCut bytes first rest
cut_at bytes first rest m front back some = record {
  parts = ap (λ l. l ++ rest) front ∙ ap (λ l. take m bytes ++ l) back ∙ take-append-drop m bytes;
  some = λ there.
      let taken : length first ≡ min m (length bytes) = ap length front ∙ length-take m bytes in
      let more = some there in omega (arith, taken, there, more);
}

less_behind : (bytes first rest : List ℕ) → IsCut bytes first rest → length rest ≤ length bytes
less_behind bytes first rest cut =
    let long = length-append first rest in
    let whole = ap length cut.parts in omega (arith, long, whole)

-- a proper prefix of the digits of a front is one of all
pub cut_short : (old new : Option (List ℕ)) (text front rest bytes more any : List ℕ) (e : Fault)
    → front ++ rest ≡ bytes → (0 < length rest → 0 < length front)
    → PutsOn old new (text ++ hex_text front) more (Err e) → PutsOn old new (text ++ hex_text bytes) any (Err e)
cut_short old new text front [] bytes more any e parts some put =
    subst (λ l. PutsOn old new (text ++ hex_text l) any (Err e)) (sym (append-nil front) ∙ parts) put
cut_short old new text front (b ∷ rest) bytes more any e parts some put =
    subst (λ l. PutsOn old new (text ++ l) any (Err e))
    (sym (hex_append front (b ∷ rest) (some (omega arith)) (omega arith)) ∙ ap hex_text parts)
    (puts_early old new text (hex_text front) (hex_text (b ∷ rest)) more any e put)

-- the digits of a front of the bytes came behind the text
pub record IsFrontPut (old new : Option (List ℕ)) (text bytes rest more : List ℕ) : Type 0 where
  pub front : List ℕ
  pub parts : front ++ rest ≡ bytes
  pub some : 0 < length rest → 0 < length front
  pub put : PutsOn old new (text ++ hex_text front) more (Ok tt)

pub front-starts : (old new : Option (List ℕ)) (text bytes first rest more : List ℕ) → IsCut bytes first rest
    → PutsOn old new (text ++ hex_text first) more (Ok tt) → IsFrontPut old new text bytes rest more
front-starts old new text bytes first rest more cut put = record {
  front = first;
  parts = cut.parts;
  some = λ left. let less = less_behind bytes first rest cut in cut.some (omega (arith, left, less));
  put = put;
}

pub front-breaks_first : (old new : Option (List ℕ)) (text bytes first rest more any : List ℕ) (e : Fault)
    → IsCut bytes first rest → PutsOn old new (text ++ hex_text first) more (Err e)
    → PutsOn old new (text ++ hex_text bytes) any (Err e)
front-breaks_first old new text bytes first rest more any e cut put =
    cut_short old new text first rest bytes more any e cut.parts
    (λ left. let less = less_behind bytes first rest cut in cut.some (omega (arith, left, less))) put

both : (old mid new : Option (List ℕ)) (text bytes rest more chunk behind last : List ℕ) (r : Result (Unit {0}) Fault)
    → (h : IsFrontPut old mid text bytes rest more) → 0 < length rest → IsCut rest chunk behind
    → PutsOn mid new (more ++ hex_text chunk) last r → PutsOn old new (text ++ hex_text (h.front ++ chunk)) last r
both old mid new text bytes rest more chunk behind last r h left cut put =
    subst (λ digits. PutsOn old new (text ++ digits) last r)
    (sym (hex_append h.front chunk (h.some left) (cut.some left)))
    (puts_then old mid new text (hex_text h.front) more (hex_text chunk) last r h.put put)

-- the front and the chunk behind it are the whole but for the rest
joined : (front rest bytes chunk behind : List ℕ) → front ++ rest ≡ bytes → chunk ++ behind ≡ rest
    → (front ++ chunk) ++ behind ≡ bytes
joined front rest bytes chunk behind outer inner =
    append_assoc front chunk behind ∙ ap (λ l. front ++ l) inner ∙ outer

more_there : (front chunk : List ℕ) → 0 < length chunk → 0 < length (front ++ chunk)
more_there front chunk some = let long = length-append front chunk in omega (arith, long, some)

pub front-goes_on : (old mid new : Option (List ℕ)) (text bytes rest more chunk behind last : List ℕ)
    → IsFrontPut old mid text bytes rest more → 0 < length rest → IsCut rest chunk behind
    → PutsOn mid new (more ++ hex_text chunk) last (Ok tt) → IsFrontPut old new text bytes behind last
front-goes_on old mid new text bytes rest more chunk behind last h left cut put = record {
  front = h.front ++ chunk;
  parts = joined h.front rest bytes chunk behind h.parts cut.parts;
  some = λ any. more_there h.front chunk (cut.some left);
  put = both old mid new text bytes rest more chunk behind last (Ok tt) h left cut put;
}

-- a proper prefix of the digits was put
pub front-breaks : (old mid new : Option (List ℕ)) (text bytes rest more chunk behind last any : List ℕ) (e : Fault)
    → IsFrontPut old mid text bytes rest more → 0 < length rest → IsCut rest chunk behind
    → PutsOn mid new (more ++ hex_text chunk) last (Err e) → PutsOn old new (text ++ hex_text bytes) any (Err e)
front-breaks old mid new text bytes rest more chunk behind last any e h left cut put =
    cut_short old new text (h.front ++ chunk) behind bytes last any e
    (joined h.front rest bytes chunk behind h.parts cut.parts) (λ any. more_there h.front chunk (cut.some left))
    (both old mid new text bytes rest more chunk behind last (Err e) h left cut put)

-- no digit is left
pub front-ends : (old new : Option (List ℕ)) (text bytes rest more : List ℕ) → length rest ≤ 0
    → IsFrontPut old new text bytes rest more → PutsOn old new (text ++ hex_text bytes) more (Ok tt)
front-ends old new text bytes [] more none h =
    subst (λ l. PutsOn old new (text ++ hex_text l) more (Ok tt)) (sym (append-nil h.front) ∙ h.parts) h.put
front-ends old new text bytes (b ∷ rest) more none h = absurd (omega (arith, none))

-- ---- the walk

-- each line has its line feed
fed_some : (line : List ℕ) → 0 < length (line ++ line_feed)
fed_some line = let long = length-append line line_feed in omega (arith, long)

line_some : (version : ℕ) (p : Path) (x : Node) → 0 < length (node_line version p x)
unfolding node_line
line_some version p x = fed_some (line_front version p x ++ bytes_text x)

pub line_there : (m : Nodes) (version : ℕ) (p : Path) (x : Node) (text : List ℕ) → get m p ≡ Some x
    → 0 < length (text ++ line_at version m p)
line_there m version p x text there =
    let some = line_some version p x in
    let long = length-append text (node_line version p x) in rw there (omega (arith, some, long))

-- behind its front the rest of a line was put, or a part of it
pub line_put : (old new : Option (List ℕ)) (m : Nodes) (version : ℕ) (p : Path) (x : Node) (text more rest : List ℕ)
    (r : Result (Unit {0}) Fault) → get m p ≡ Some x → more ≡ text ++ line_front version p x
    → PutsOn old new (more ++ (bytes_text x ++ line_feed)) rest r → PutsOn old new (text ++ line_at version m p) rest r
unfolding node_line
line_put old new m version p x text more rest r there is put =
    let front = line_front version p x in
    let behind = bytes_text x in
    let whole : more ++ (behind ++ line_feed) ≡ text ++ ((front ++ behind) ++ line_feed) =
    ap (λ l. l ++ (behind ++ line_feed)) is ∙ append_assoc text front (behind ++ line_feed)
    ∙ ap (λ l. text ++ l) (sym (append_assoc front behind line_feed)) in
    subst (λ o. PutsOn old new (text ++ option_map_or (node_line version p) o []) rest r) (sym there)
    (subst (λ l. PutsOn old new l rest r) whole put)

pub record IsPutSoFar (rows : List Row) (version : ℕ) (t : Path) (old new : Option (List ℕ)) (text : List ℕ)
    (at : Option ℕ) : Type 0 where
  pub done : List ℕ
  pub put : Appends old new done
  pub so_far : IsTextSoFar rows version t (done ++ text) at

pub put-starts : (rows : List Row) (version root : ℕ) (x : Node) (old : Option (List ℕ)) → IsLive rows root
    → get (nodes rows) (path_of rows root) ≡ Some x
    → IsPutSoFar rows version (path_of rows root) old old [] (Some root)
put-starts rows version root x old live there = record {
  done = [];
  put = Appends-nil old;
  so_far = text-starts rows version root x live there;
}

-- a line came behind what waits, and a front of both was put
pub put-goes_on : (rows : List Row) (version : ℕ) (t : Path) (old mid new : Option (List ℕ)) (text more rest : List ℕ)
    (here : ℕ) (next : Option ℕ)
    → IsPutSoFar rows version t old mid text (Some here)
    → more ≡ text ++ line_at version (nodes rows) (path_of rows here)
    → PutsOn mid new more rest (Ok tt)
    → behind (nodes rows) t (path_of rows here) false ≡ left rows t next
    → IfSome next (IsOn rows t)
    → IsPutSoFar rows version t old new rest next
put-goes_on rows version t old mid new text more rest here next h is p others on =
    let line = line_at version (nodes rows) (path_of rows here) in
    let same : (h.done ++ text) ++ line ≡ (h.done ++ p.0) ++ rest =
    append_assoc h.done text line ∙ ap (λ l. h.done ++ l) (sym is ∙ p.2) ∙ sym (append_assoc h.done p.0 rest) in
    record {
      done = h.done ++ p.0;
      put = Appends-trans old mid new _ _ h.put p.1;
      so_far = subst (λ out. IsTextSoFar rows version t out next) same
          (text-goes_on rows version t (h.done ++ text) here next h.so_far others on);
    }

-- the whole text is what was put, what waits, this line and those of the nodes behind
whole_is : (rows : List Row) (version : ℕ) (t : Path) (old new : Option (List ℕ)) (text : List ℕ) (here : ℕ)
    → t ≡ [] → (h : IsPutSoFar rows version t old new text (Some here))
    → tree_text version (nodes rows)
    ≡ h.done ++ ((text ++ line_at version (nodes rows) (path_of rows here))
    ++ lines_of rows version (behind (nodes rows) t (path_of rows here) false))
whole_is rows version t old new text here top h =
    let line = line_at version (nodes rows) (path_of rows here) in
    let others = lines_of rows version (behind (nodes rows) t (path_of rows here) false) in
    sym (h.so_far.text ∙ all_lines rows version t top) ∙ append_assoc h.done text (line ++ others)
    ∙ ap (λ l. h.done ++ l) (sym (append_assoc text line others))

-- the line that came behind what waits was put in part, with what waits
pub line_breaks : (rows : List Row) (version : ℕ) (t : Path) (old mid new : Option (List ℕ)) (text more : List ℕ)
    (here : ℕ) → t ≡ [] → IsPutSoFar rows version t old mid text (Some here)
    → more ≡ text ++ line_at version (nodes rows) (path_of rows here) → PutsFront mid new more
    → PutsFront old new (tree_text version (nodes rows))
line_breaks rows version t old mid new text more here top h is p =
    front_put old mid new (tree_text version (nodes rows)) h.done more _ h.put p
    (whole_is rows version t old mid text here top h
    ∙ ap (λ l. h.done ++ (l ++ lines_of rows version (behind (nodes rows) t (path_of rows here) false))) (sym is))

-- what waits in the end is put
pub put-ends : (rows : List Row) (version : ℕ) (t : Path) (old mid new : Option (List ℕ)) (text : List ℕ)
    (r : Result (Unit {0}) Fault) → t ≡ [] → IsPutSoFar rows version t old mid text None
    → PutsAll mid new r text → PutsAll old new r (tree_text version (nodes rows))
put-ends rows version t old mid new text (Ok u) top h p =
    subst (Appends old new) (text-ends rows version t (h.done ++ text) top h.so_far)
    (Appends-trans old mid new _ _ h.put p)
put-ends rows version t old mid new text (Err e) top h p =
    front_put old mid new (tree_text version (nodes rows)) h.done text [] h.put p
    (sym (text-ends rows version t (h.done ++ text) top h.so_far) ∙ ap (λ l. h.done ++ l) (sym (append-nil text)))
