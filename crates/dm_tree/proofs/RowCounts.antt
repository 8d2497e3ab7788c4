-- How many rows lie at and below each row, and how that changes where a row is put in or taken out.
use Rattle.std.specs.Prelude.{⊤}
use Rattle.dm_tree.specs.declared.rows.Change.TheVariants as change
use Rattle.dm_tree.proofs.Common.{◌≡◌, ◌≢◌, ℕ, zero, suc, ◌+◌, ◌<◌, ◌≤◌, Bool, true, false, cond, nat_eq, List, [], ◌∷◌}
use Rattle.dm_tree.proofs.Common.{length, Option, refl, sym, ◌∙◌, ap, subst, arith, inl, inr, get_or}
use Rattle.dm_tree.proofs.Common.{is_some, set, length-set, nat_tests}
use Rattle.dm_tree.proofs.Common.{get_or-set_same, get_or-set_other, get_or_default, Node, Row, Path, blank, row_at}
use Rattle.dm_tree.proofs.Common.{walk, path_below, placed, ids_below, IsShaped, attached_as, with_node, with_name}
use Rattle.dm_tree.proofs.Common.{without_content, IsSized}
use Rattle.dm_tree.proofs.RowPaths.{attached_row, not_same}
use Rattle.dm_tree.proofs.Paths.{same_or_not}
use Rattle.dm_tree.proofs.NodeEdits.{of_both}
use Rattle.dm_tree.proofs.UpwardSearch.{length-ids_below}
use Rattle.dm_tree.proofs.GivenUpRows.{self_below}
use Rattle.dm_tree.proofs.SubtreeCuts.{shaped-detached}
use Rattle.dm_tree.proofs.UndoFlips.{flipped_twice}

-- ---- whether a row lies below another, without the path

abbrev pub lies : List Row → ℕ → ℕ → ℕ → Bool
lies rows zero top j = nat_eq j top
lies rows (suc d) top j =
    cond (nat_eq j top) true (cond (row_at rows j).attached (lies rows d top (row_at rows j).parent) false)

abbrev pub lies_below : List Row → ℕ → ℕ → Bool
lies_below rows top j = lies rows (row_at rows j).depth top j

is_some-walk : (rows : List Row) (d top j : ℕ) → is_some (walk rows d top j) ≡ lies rows d top j
is_some-walk rows zero top j = grind arith
is_some-walk rows (suc d) top j =
    let up = is_some-walk rows d top (row_at rows j).parent in
    grind arith

lies_here : (rows : List Row) (d k : ℕ) → lies rows d k k ≡ true
lies_here rows d k = sym (is_some-walk rows d k k) ∙ ap is_some (self_below rows d k)

-- a row that isn't attached lies below no other
lies_no_more : (rows : List Row) (d k at : ℕ) → k ≢ at → (row_at rows at).attached ≡ false → lies rows d k at ≡ false
lies_no_more rows zero k at h out = grind (arith, nat_tests)
lies_no_more rows (suc d) k at h out = grind (arith, nat_tests)

lies_on : (rows : List Row) → IsShaped rows → (k at : ℕ) → k ≢ at → (row_at rows at).attached ≡ true
    → lies_below rows k at ≡ lies_below rows k (row_at rows at).parent
lies_on rows shape k at h is = rw (shape.falls at is) (rw (not_same at k (λ e. h (sym e)), is) refl)

-- nothing lies below a row that lies deeper
not_deeper : (rows : List Row) → IsShaped rows → (d top j : ℕ) → (row_at rows j).depth ≡ d → d < (row_at rows top).depth
    → lies rows d top j ≡ false
not_deeper rows shape zero top j deep less =
    let other : j ≢ top = λ e. omega (arith, ap (λ i. (row_at rows i).depth) e) in grind (arith, nat_tests)
not_deeper rows shape (suc d) top j deep less =
    let other : j ≢ top = λ e. omega (arith, ap (λ i. (row_at rows i).depth) e) in
    let falls = shape.falls j in
    let up = not_deeper rows shape d top (row_at rows j).parent in
    grind (arith, nat_tests)

-- ---- where rows agree on the way upwards

-- two lists of rows agree on these rows, from which one comes up to no others
record Agree (a b : List Row) (On : ℕ → Type 0) : Type 0 where
  parent : (k : ℕ) → On k → (row_at a k).parent ≡ (row_at b k).parent
  depth : (k : ℕ) → On k → (row_at a k).depth ≡ (row_at b k).depth
  attached : (k : ℕ) → On k → (row_at a k).attached ≡ (row_at b k).attached
  closed : (k : ℕ) → On k → (row_at b k).attached ≡ true → On (row_at b k).parent

agree : (a b : List Row) (On : ℕ → Type 0) → Agree a b On → (d top j : ℕ) → On j → lies a d top j ≡ lies b d top j
agree a b On same zero top j on = refl
agree a b On same (suc d) top j on =
    let up : (row_at b j).attached ≡ true → lies a d top (row_at b j).parent ≡ lies b d top (row_at b j).parent =
    λ at. agree a b On same d top (row_at b j).parent (same.closed j on at) in
    let parent = same.parent j on in
    let attached = same.attached j on in
    grind arith

below_agree : (a b : List Row) (On : ℕ → Type 0) → Agree a b On → (top j : ℕ) → On j
    → lies_below a top j ≡ lies_below b top j
below_agree a b On same top j on =
    ap (λ d. lies a d top j) (same.depth j on) ∙ agree a b On same (row_at b j).depth top j on

-- ---- how many

abbrev share : Bool → ℕ → ℕ
share b n = cond b n 0

abbrev bit : Bool → ℕ
bit b = share b 1

-- one row more
next_size : (rows : List Row) (top n : ℕ)
    → length (ids_below rows top (suc n)) ≡ length (ids_below rows top n) + bit (lies_below rows top n)
next_size rows top n =
    long (path_below rows top n) ∙ ap (λ b. length (ids_below rows top n) + bit b) (is_some-walk rows _ top n)
  where
    long : (o : Option Path)
        → length (placed o n (ids_below rows top n)) ≡ length (ids_below rows top n) + bit (is_some o)
    long o = grind arith

-- where the same rows lie below, they are as many
same_count : (a b : List Row) (top n : ℕ) → ((k : ℕ) → k < n → lies_below a top k ≡ lies_below b top k)
    → length (ids_below a top n) ≡ length (ids_below b top n)
same_count a b top zero same = refl
same_count a b top (suc n) same =
    let rest = same_count a b top n (λ k l. same k (omega (arith, l))) in
    let last = ap bit (same n (omega arith)) in
    omega (arith, next_size a top n, next_size b top n)

-- ---- a row is put in or taken out: the numbers of those above it are off by as many as it has

-- those of the row `at` and of each row above it are too small by `more`, and too large by `fewer`
pub record AreOff (rows : List Row) (more fewer : ℕ) (sizes : List ℕ) (at : ℕ) : Type 0 where
  pub inside : at < length rows
  pub same : length sizes ≡ length rows
  pub each : (k : ℕ) → k < length rows
      → get_or sizes k 0 + share (lies_below rows k at) more
      ≡ length (ids_below rows k (length rows)) + share (lies_below rows k at) fewer

-- what the numbers of rows of another state say
counted_before : (rows old : List Row) → length old ≡ length rows → (sizes : List ℕ) → IsSized old sizes
    → (k : ℕ) → k < length rows → get_or sizes k 0 ≡ length (ids_below old k (length rows))
counted_before rows old long sizes sized k l =
    sized.each k (omega (arith, long, l)) ∙ ap (λ n. length (ids_below old k n)) long

-- the same rows with a row in and out
module _ (on : List Row) (shape : IsShaped on) (id : ℕ) (is : (row_at on id).attached ≡ true) where
  -- the rows without it
  abbrev off : List Row
  off = attached_as on id false

  -- whether a row lies above it
  abbrev above : ℕ → Bool
  above top = lies_below on top (row_at on id).parent

  long : length off ≡ length on
  long = length-set on id _

  place : (0 < id) × (id < length on)
  place = attached_row on shape id is

  depth : (k : ℕ) → (row_at off k).depth ≡ (row_at on k).depth
  depth k = of_both on id _ (λ r. r.depth) refl k place.1

  beside : (k : ℕ) → k ≢ id → row_at off k ≡ row_at on k
  beside k d = get_or-set_other on id k _ blank d

  shape_off : IsShaped off
  shape_off = shaped-detached on shape id place.0 place.1

  not_above : (top : ℕ) → (row_at on id).depth ≤ (row_at on top).depth → above top ≡ false
  not_above top h = not_deeper on shape _ top (row_at on id).parent refl (omega (arith, h, shape.falls id is))

  -- below each row lies what lay there, and below those above it also what lies below it
  lies_more : (top d j : ℕ) → (row_at on j).depth ≡ d
      → bit (lies on d top j) ≡ bit (lies off d top j) + share (above top) (bit (lies off d id j))
  lies_more top zero j deep =
      let other : j ≢ id = λ h. omega (arith, deep, shape.falls id is, ap (λ i. (row_at on i).depth) h) in
      grind (arith, nat_tests)
  lies_more top (suc d) j deep = elim (same_or_not j id) [
    | inl h ↦
        let falls : (row_at on (row_at on id).parent).depth ≡ d =
        omega (arith, shape.falls id is, ap (λ i. (row_at on i).depth) h, deep) in
        let one : lies on d top (row_at on id).parent ≡ above top =
        ap (λ e. lies on e top (row_at on id).parent) (sym falls) in
        let gone : (row_at off id).attached ≡ false =
        ap (λ (r : Row). r.attached) (get_or-set_same on id _ blank place.1) in
        let none : id ≡ top → above top ≡ false = λ t. not_above top (omega (arith, ap (λ i. (row_at on i).depth) t)) in
        rw (h, is, gone, one) (grind (arith, nat_tests))
    | inr h ↦
        let same = beside j h in
        let falls = shape.falls j in
        let up = lies_more top d (row_at on j).parent in
        let less = not_deeper off shape_off (suc d) id j (depth j ∙ deep) in
        let here = depth id in
        let more : j ≡ top → (row_at on id).depth ≤ (row_at on j).depth → above top ≡ false =
        λ t m. not_above top (omega (arith, ap (λ i. (row_at on i).depth) t, m)) in
        grind (arith, nat_tests)
  ]

  -- the way up from its parent doesn't go through it
  same_above : (top : ℕ) → lies_below off top (row_at off id).parent ≡ above top
  same_above top =
      let up = (row_at on id).parent in
      let one = lies_more top (row_at on up).depth up refl in
      let none = not_deeper off shape_off _ id up (depth up) (omega (arith, depth id, shape.falls id is)) in
      ap (lies_below off top) (of_both on id _ (λ r. r.parent) refl id place.1) ∙ ap (λ d. lies off d top up) (depth up)
      ∙ grind arith

  -- so they are so many more
  sizes_more : (top n : ℕ) → length (ids_below on top n)
      ≡ length (ids_below off top n) + share (above top) (length (ids_below off id n))
  sizes_more top zero = grind arith
  sizes_more top (suc n) =
      let one : bit (lies_below on top n) ≡ bit (lies_below off top n) + share (above top) (bit (lies_below off id n)) =
      lies_more top _ n refl
      ∙ ap (λ d. bit (lies off d top n) + share (above top) (bit (lies off d id n))) (sym (depth n)) in
      grind (arith, next_size on top n, next_size off top n, next_size off id n, one, sizes_more top n)

  -- it has as many itself
  same_size : (n : ℕ) → length (ids_below on id n) ≡ length (ids_below off id n)
  same_size n = let none : above id ≡ false = not_above id (omega arith) in rw none at (sizes_more id n) ∙ omega arith

  counted_as : (n : ℕ) (sizes : List ℕ) → n ≡ get_or sizes id n → length sizes ≡ length on → n ≡ get_or sizes id 0
  counted_as n sizes read same = read ∙ get_or_default sizes id n 0 (omega (arith, same, place.1))

  -- the row has been put in
  pub off_put_in : (sizes : List ℕ) → IsSized off sizes → (n : ℕ) → n ≡ get_or sizes id n
      → AreOff on n 0 sizes (row_at on id).parent
  off_put_in sizes sized n read =
      let same = sized.same ∙ long in
      let before = counted_before on off long sizes sized in
      let more : n ≡ length (ids_below off id (length on)) = counted_as n sizes read same ∙ before id place.1 in
      record {
        inside = shape.inside id place.1;
        same = same;
        each = λ k l. rw (before k l, more) (grind (arith, sizes_more k (length on)));
      }

  -- it has been taken out
  off_out : (sizes : List ℕ) → IsSized on sizes → (n : ℕ) → n ≡ get_or sizes id n
      → AreOff off 0 n sizes (row_at off id).parent
  off_out sizes sized n read =
      let inside : id < length off = omega (arith, long, place.1) in
      let before = counted_before off on (sym long) sizes sized in
      let fewer : n ≡ length (ids_below off id (length off)) =
      counted_as n sizes read sized.same ∙ before id inside ∙ same_size (length off) in
      record {
        inside = shape_off.inside id inside;
        same = sized.same ∙ sym long;
        each = λ k l. rw (before k l, same_above k, fewer) (grind (arith, sizes_more k (length off)));
      }

-- ---- they are put right, from there upwards

module _ {rows : List Row} {more fewer : ℕ} {sizes : List ℕ} {at : ℕ} (is : AreOff rows more fewer sizes at) where
  -- the number that is read is that of the row, and is off
  pub read_off : (n : ℕ) → n ≡ get_or sizes at n
      → (n + more ≡ length (ids_below rows at (length rows)) + fewer) × (n + more ≤ length rows + fewer)
  read_off n e =
      let read : n ≡ get_or sizes at 0 = e ∙ get_or_default sizes at n 0 (omega (arith, is.same, is.inside)) in
      let here = rw (lies_here rows (row_at rows at).depth at) at (is.each at is.inside) in
      (omega (arith, read, here), omega (arith, read, here, length-ids_below rows at (length rows)))

  -- it is put right, and with it all from there upwards are but for those of which the test says so
  put_right : (v n : ℕ) → n ≡ get_or sizes at n → v + fewer ≡ n + more → (still : ℕ → Bool) → still at ≡ false
      → ((k : ℕ) → k ≢ at → lies_below rows k at ≡ still k) → (k : ℕ) → k < length rows
      → get_or (set sizes at v) k 0 + share (still k) more
      ≡ length (ids_below rows k (length rows)) + share (still k) fewer
  put_right v n read e still none others k l = elim (same_or_not k at) [
    | inl h ↦
        let now = get_or-set_same sizes at v 0 (omega (arith, is.same, is.inside)) in
        rw (h, none) (omega (arith, now, (read_off n read).0, e))
    | inr h ↦ rw (get_or-set_other sizes at k v 0 h, ← others k h) (is.each k l)
  ]

  -- the row that is read, and the one above it
  read_row : (r : Row) → get_or rows at r ≡ row_at rows at
  read_row r = get_or_default rows at r blank is.inside

  pub less_deep : IsShaped rows → (r s : Row) → (get_or rows at r).attached ≡ true
      → (row_at rows (get_or rows at s).parent).depth < (row_at rows at).depth
  less_deep shape r s e = rw (read_row s) (let on = rw (read_row r) at e in omega (arith, shape.falls at on))

  pub off_up : IsShaped rows → (r s : Row) → (get_or rows at r).attached ≡ true → (v n : ℕ) → n ≡ get_or sizes at n
      → v + fewer ≡ n + more → AreOff rows more fewer (set sizes at v) (get_or rows at s).parent
  off_up shape r s e v n read right =
      let on : (row_at rows at).attached ≡ true = rw (read_row r) at e in
      rw (read_row s) (record {
        inside = shape.inside at is.inside;
        same = length-set sizes at v ∙ is.same;
        each =
            put_right v n read right (λ k. lies_below rows k (row_at rows at).parent)
            (not_deeper rows shape _ at (row_at rows at).parent refl (omega (arith, shape.falls at on)))
            (λ k h. lies_on rows shape k at h on);
      })

  pub off_last : (r : Row) → (get_or rows at r).attached ≡ false → (v n : ℕ) → n ≡ get_or sizes at n
      → v + fewer ≡ n + more → IsSized rows (set sizes at v)
  off_last r e v n read right =
      let out : (row_at rows at).attached ≡ false = rw (read_row r) at e in
      let all = put_right v n read right (λ k. false) refl (λ k h. lies_no_more rows _ k at h out) in
      record { same = length-set sizes at v ∙ is.same; each = λ k l. omega (arith, all k l) }

pub off_taken_out : (rows : List Row) (id : ℕ) → id < length rows → (row_at rows id).attached ≡ false
    → IsShaped (attached_as rows id true)
    → (sizes : List ℕ) → IsSized (attached_as rows id true) sizes → (n : ℕ) → n ≡ get_or sizes id n
    → AreOff rows 0 n sizes (row_at rows id).parent
off_taken_out rows id l out shape sizes sized n read =
    let is : (row_at (attached_as rows id true) id).attached ≡ true = rw get_or-set_same refl in
    subst (λ r. AreOff r 0 n sizes (row_at r id).parent) (flipped_twice rows (change.PutIn id) l out)
    (off_out (attached_as rows id true) shape id is sizes sized n read)

-- ---- names and nodes don't matter

pub record LieAlike (rows rows' : List Row) : Type 0 where
  pub parent : (k : ℕ) → (row_at rows' k).parent ≡ (row_at rows k).parent
  pub depth : (k : ℕ) → (row_at rows' k).depth ≡ (row_at rows k).depth
  pub attached : (k : ℕ) → (row_at rows' k).attached ≡ (row_at rows k).attached
  pub long : length rows' ≡ length rows

pub sized-alike : (rows rows' : List Row) → LieAlike rows rows' → (sizes : List ℕ) → IsSized rows sizes
    → IsSized rows' sizes
sized-alike rows rows' same sizes sized = record {
  same = sized.same ∙ sym same.long;
  each =
      λ k l. counted_before rows' rows (sym same.long) sizes sized k l
      ∙ sym (same_count rows' rows k (length rows') (λ j m. below_agree rows' rows (λ i. ⊤) (record {
        parent = λ i _. same.parent i;
        depth = λ i _. same.depth i;
        attached = λ i _. same.attached i;
        closed = λ i _ at. tt;
      }) k j tt));
}

alike-set : (rows : List Row) (k : ℕ) (r : Row) → r.parent ≡ (row_at rows k).parent → r.depth ≡ (row_at rows k).depth
    → r.attached ≡ (row_at rows k).attached → k < length rows → LieAlike rows (set rows k r)
alike-set rows k r parent depth attached l = record {
  parent = λ j. of_both rows k r (λ s. s.parent) parent j l;
  depth = λ j. of_both rows k r (λ s. s.depth) depth j l;
  attached = λ j. of_both rows k r (λ s. s.attached) attached j l;
  long = length-set rows k r;
}

pub alike-with_node : (rows : List Row) (k : ℕ) (n : Node) → k < length rows → LieAlike rows (with_node rows k n)
alike-with_node rows k n = alike-set rows k _ refl refl refl

pub alike-with_name : (rows : List Row) (k : ℕ) (name : List ℕ) (n : Node) → k < length rows
    → LieAlike rows (with_name rows k name n)
alike-with_name rows k name n = alike-set rows k _ refl refl refl

pub alike-without_content : (rows : List Row) (k : ℕ) → k < length rows → LieAlike rows (without_content rows k)
alike-without_content rows k = alike-set rows k _ refl refl refl

-- ---- the root alone

pub sized-root : (r : Row) → IsSized (r ∷ []) (1 ∷ [])
sized-root r = record { same = refl; each = one }
  where
    one : (k : ℕ) → k < 1 → get_or (1 ∷ []) k 0 ≡ length (ids_below (r ∷ []) k 1)
    one zero l = rw (self_below (r ∷ []) r.depth 0) refl
    one (suc k) l = absurd (omega (arith, l))
