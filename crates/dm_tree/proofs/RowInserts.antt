-- A new node takes a number that nobody holds.
use Rattle.std.specs.FinMap.{insert}
use Rattle.dm_tree.specs.declared.rows.Change.TheVariants as change
use Rattle.dm_tree.specs.Rows.{IsParked}
use Rattle.dm_tree.specs.Edits.{IsGrown}
use Rattle.dm_tree.proofs.Common.{◌≡◌, ◌≢◌, ℕ, ◌+◌, ◌<◌, ◌≤◌, true, false, List, [], ◌∷◌, ◌++◌, length, None, Some}
use Rattle.dm_tree.proofs.Common.{refl, sym, ◌∙◌, ap, subst, arith, inl, inr, is_some, get_or-set_same, option_map, get}
use Rattle.dm_tree.proofs.Common.{len, len-insert, contains_key, is_name, is_within_limits, Node, Row, Change, IsNode}
use Rattle.dm_tree.proofs.Common.{row_at, node_of, walk, path_below, path_of, ids, nodes, IsShaped, IsTree, IsLive}
use Rattle.dm_tree.proofs.Common.{IsParkedTop, attached_as, new_row, row_of, flipped, Fits, IsInserted, GoesAlike}
use Rattle.dm_tree.proofs.Common.{TakesEditBack, IsUsed, IsPlaced}
use Rattle.dm_tree.proofs.Paths.{same_or_not, tree_total}
use Rattle.dm_tree.proofs.RowPaths.{Child, child_below, not_zero, some_path}
use Rattle.dm_tree.proofs.RowMaps.{get_nodes, id_of}
use Rattle.dm_tree.proofs.NodeEdits.{live_row}
use Rattle.dm_tree.proofs.TreeEdits.{parent_is_shallow}
use Rattle.dm_tree.proofs.LiveRows.{live_at, stay_live-insert}
use Rattle.dm_tree.proofs.UndoFlips.{length-flipped, parked_top-same}
use Rattle.dm_tree.proofs.FlippedRows.{other_row, kin-flipped}
use Rattle.dm_tree.proofs.ClearRows.{live-off}
use Rattle.dm_tree.proofs.FlipsBeside.{alike-beside, alike-fewer}
use Rattle.dm_tree.proofs.NewRows.{IsNewAt, IsNewcomer, IsAside, new_at, with_row-placed, new-as, other_path, no_root}
use Rattle.dm_tree.proofs.NewRows.{not_there, walk_beside, clear_used, clear_new, clear_out, shaped_new, tree_new}
use Rattle.dm_tree.proofs.NewRows.{tree_aside, ids_out, nodes_out, ids_in, nodes_in}

-- ---- flips beside it

-- a flip does the same to rows that are the same
flipped-same : (a b : List Row) (u : Change) → row_of u < length a → row_of u < length b
    → row_at b (row_of u) ≡ row_at a (row_of u) → row_at (flipped b u) (row_of u) ≡ row_at (flipped a u) (row_of u)
flipped-same a b (change.PutIn k) l m e = simp (get_or-set_same, e)
flipped-same a b u l m e = simp (get_or-set_same, node_of, e)

-- whatever is flipped beside it, the new row stays new
lasts : {rows now : List Row} {k : ℕ} {r : Row} (u : Change) → (row_of u ≡ k → ⊥) → row_of u < length rows
    → IsNewAt rows now k r → IsNewAt (flipped rows u) (flipped now u) k r
lasts {rows} {now} {k} u apart l new = record {
  below_root = new.below_root;
  inside = omega (arith, length-flipped now u, new.inside);
  few = omega (arith, length-flipped now u, new.few);
  longer = omega (arith, length-flipped now u, length-flipped rows u, new.longer);
  before = λ j m d. omega (arith, length-flipped rows u, new.before j (omega (arith, length-flipped now u, m)) d);
  parent = omega (arith, length-flipped rows u, new.parent);
  here = other_row now u k apart ∙ new.here;
  other = λ j d. elim (same_or_not (row_of u) j) [
    | inl e ↦
        subst (λ i. row_at (flipped now u) i ≡ row_at (flipped rows u) i) e
        (flipped-same rows now u l (omega (arith, l, new.longer)) (new.other (row_of u) apart))
    | inr h ↦ other_row now u j h ∙ new.other j d ∙ sym (other_row rows u j h)
  ];
  out = ap (λ (s : Row). s.attached) (other_row rows u k apart) ∙ new.out;
  apart = λ j used.
      let given = kin-flipped (λ s. s.given_up) (λ s a name n. refl) rows u l j in
      let was = new.apart j (omega (arith, length-flipped rows u, used.0), λ z. sym given ∙ used.1 z) in
      (was.0, λ z p. was.1 z (sym (kin-flipped (λ s. s.parent) (λ s a name n. refl) rows u l j) ∙ p));
}

-- a new row out of the tree leaves the Undos of all rows that are in use usable
pub alike-aside : (rows now : List Row) (k : ℕ) (r : Row) → IsTree rows → IsNewAt rows now k r → IsAside r
    → GoesAlike (IsUsed rows) rows now
alike-aside rows now k r tree new aside =
    alike-fewer (λ j. j ≡ k → ⊥) (IsUsed rows) (λ j used. (new.apart j used).0)
    (alike-beside k (λ a b. IsNewAt a b k r) (record {
      lasts = λ a b u d f new. lasts u d f.inside new;
      longer = λ a b new. new.longer;
      other = λ a b new. new.other;
      tree = λ a b tree new. tree_aside tree new aside;
      nodes = λ a b tree new. nodes_out tree new aside.out (tree_aside tree new aside).shape;
      ids = λ a b tree new. ids_out tree new aside.out (tree_aside tree new aside).shape;
      clear = λ a b tree new i j d c. clear_out tree new aside.out i j d c;
    }) rows now tree new)

-- ---- a new node

-- what an insert asks for
pub record IsWelcome (rows : List Row) (k : ℕ) (n : List ℕ) (new : Node) : Type 0 where
  pub live : IsLive rows k
  pub interior : (node_of rows k).interior ≡ true
  pub free : get (ids rows) (path_of rows k ++ n ∷ []) ≡ None
  pub within : is_within_limits (path_of rows k ++ n ∷ []) ≡ true
  pub permanent : new.permanent ≡ true → (node_of rows k).permanent ≡ true
  pub node : IsNode new
  pub name : is_name n ≡ true
  pub size : len (nodes rows) < 65536

-- no child of a name that is not there
no_child : (rows : List Row) → IsShaped rows → (k : ℕ) → IsLive rows k → (name : List ℕ)
    → get (ids rows) (path_of rows k ++ name ∷ []) ≡ None → (j : ℕ) → Child rows k name j → ⊥
no_child rows shape k live name free j child =
    let there =
    id_of rows shape j (path_of rows k ++ name ∷ []) (child_below rows shape k j (path_of rows k) name live child) in cc

-- what an insert promises of the node
pub record IsArrived (rows now : List Row) (id k : ℕ) (name : List ℕ) (node : Node) : Type 0 where
  pub tree : IsTree now
  pub inserted : IsInserted rows now k name node id (change.TakeOut id)
  pub edit : TakesEditBack (change.TakeOut id) rows now
  pub live : IsLive now id × (path_of now id ≡ path_of rows k ++ name ∷ [])

module _ (rows now : List Row) (id : ℕ) (tree : IsTree rows) (k : ℕ) (name : List ℕ) (node : Node)
    (may : IsWelcome rows k name node) (placed : IsPlaced rows now id (new_row rows k name node)) where
  new : IsNewAt rows now id (new_row rows k name node)
  new = new_at rows now tree id (new_row rows k name node) placed (live_row rows tree.shape k may.live)

  -- its number is neither that of a row in the tree nor that of a parked one
  no_live : (j : ℕ) → IsLive rows j → j ≢ id
  no_live j = not_there tree new j (path_of rows j)

  no_top : (j : ℕ) → IsParkedTop rows j → j ≢ id
  no_top j p = (new.apart j (p.inside, λ _. p.held)).0

  no_parked : (j : ℕ) → IsParked rows j → j ≢ id
  no_parked j held = other_path tree new held.0 j held.2 (λ e. no_top held.0 held.1 (sym e)) held.3

  shallow : (new_row rows k name node).depth ≤ 16
  shallow = omega (arith, parent_is_shallow rows tree.shape k may.live name may.within)

  newcomer : IsNewcomer rows id (new_row rows k name node)
  newcomer = record {
    shallow = shallow;
    row = record { name = may.name; node = may.node; attached = λ _. refl };
    below = λ at. record {
      away = no_live k may.live;
      deep = refl;
      named = no_child rows tree.shape k may.live name may.free;
      child = record { interior = may.interior; permanent = may.permanent };
    };
  }

  path : path_below now 0 id ≡ Some (path_of rows k ++ name ∷ [])
  path =
      let other = not_zero id (no_root tree new) in
      let above = walk_beside tree new (row_at rows k).depth 0 k (no_live k may.live) in
      rw new.here (rw (other, new.here, above, may.live) refl)

  nodes_then : nodes now ≡ insert (nodes rows) (path_of rows k ++ name ∷ []) node
  nodes_then = nodes_in tree new (shaped_new tree new newcomer) (path_of rows k ++ name ∷ []) path

  ids_then : ids now ≡ insert (ids rows) (path_of rows k ++ name ∷ []) id
  ids_then = ids_in tree new (shaped_new tree new newcomer) (path_of rows k ++ name ∷ []) path

  tree_then : IsTree now
  tree_then = tree_new tree new newcomer
      (λ p e. subst (λ q. is_within_limits q ≡ true) (some_path _ p (sym path ∙ e)) may.within)
      (omega (arith, may.size, one_more_node))
    where
      not_yet : contains_key (nodes rows) (path_of rows k ++ name ∷ []) ≡ false
      not_yet =
          ap is_some (get_nodes rows (path_of rows k ++ name ∷ [])
          ∙ ap (option_map (λ j. (row_at rows j).node)) may.free)

      one_more_node : len (nodes now) ≡ len (nodes rows) + 1
      one_more_node =
          ap len nodes_then ∙ len-insert tree_total (nodes rows) (path_of rows k ++ name ∷ []) node
          ∙ rw not_yet refl

  grown_then : IsGrown rows now id
  grown_then = record {
    free = (λ live. no_live id live refl, λ held. no_parked id held refl);
    longer = new.longer;
    live = λ j live. new.other j (no_live j live);
    parked = λ j held. new.other j (no_parked j held);
  }

  -- ---- taken back

  aside : IsAside (record (new_row rows k name node) { attached = false })
  aside = record {
    out = refl;
    row = record { name = may.name; node = may.node; attached = λ _. refl };
    shallow = shallow;
  }

  back : IsNewAt rows (attached_as now id false) id (record (new_row rows k name node) { attached = false })
  back = new-as rows now id (new_row rows k name node) false new

  fits_then : Fits now (change.TakeOut id)
  fits_then = record {
    inside = new.inside;
    ready = ap (λ (s : Row). s.attached) new.here;
    sound = tree_aside tree back aside;
  }

  -- ---- the whole of what it promises

  inserted_then : IsInserted rows now k name node id (change.TakeOut id)
  inserted_then = record {
    nodes = nodes_then;
    ids = ids_then;
    stays = stay_live-insert rows now tree.shape (path_of rows k ++ name ∷ []) id may.free ids_then;
    row = with_row-placed rows now id (new_row rows k name node) placed;
    grown = grown_then;
    undo = record {
      change = refl;
      fits = fits_then;
      nodes = nodes_out tree back refl fits_then.sound.shape;
      ids = ids_out tree back refl fits_then.sound.shape;
    };
  }

  no_new_top : (j : ℕ) → IsParkedTop now j → IsParkedTop rows j
  no_new_top j p =
      let apart : j ≢ id = λ e. (let at : (row_at now j).attached ≡ true =
      ap (λ i. (row_at now i).attached) e ∙ ap (λ (s : Row). s.attached) new.here in let out = p.out in cc) in
      parked_top-same now rows j (new.before j p.inside apart) (sym (new.other j apart)) p

  edit_then : TakesEditBack (change.TakeOut id) rows now
  edit_then = record {
    tree = tree_then;
    fits = fits_then;
    alike = alike-aside rows _ id _ tree back aside;
    parked = λ j p. parked_top-same rows now j (omega (arith, p.inside, new.longer)) (new.other j (no_top j p)) p;
    held = tt;
    only = λ j p. inl (no_new_top j p);
    used = (new.inside, λ z. ap (λ (s : Row). s.given_up) new.here);
    stays = λ j used. (
      omega (arith, used.0, new.longer),
      λ z. ap (λ (s : Row). s.given_up) (new.other j (new.apart j used).0) ∙ used.1 z,
    );
    apart = λ j p. record {
      other = λ e. no_top j p (sym e);
      parent =
          λ y d. ap (λ (s : Row). walk now d j s.parent) new.here ∙ walk_beside tree new d j k (no_live k may.live)
          ∙ live-off rows tree.shape j p.below_root p.out d k may.live;
    };
    clear = λ j i p used c. clear_used tree new j i used c;
    fresh = λ used. (new.apart id used).0 refl;
    begins = clear_new tree new;
  }

  pub arrived : IsArrived rows now id k name node
  arrived = record {
    tree = tree_then;
    inserted = inserted_then;
    edit = edit_then;
    live = live_at now id (path_of rows k ++ name ∷ []) path;
  }
