-- What the search for the first child finds.
use Rattle.dm_tree.specs.Walks.{is_better}
use Rattle.std.specs.Option.{option_or}
use Rattle.dm_tree.proofs.Common.{◌≡◌, ℕ, zero, suc, ◌-◌, ◌<◌, Bool, true, false, nat_eq, List, length, Option, None}
use Rattle.dm_tree.proofs.Common.{Some, refl, sym, ap, subst, arith, inl, inr, ◌&&◌, if◌then◌else◌, is_lt, tied_itself}
use Rattle.dm_tree.proofs.Common.{false_from_ne_true, Row, row_at, is_later_child, least_child, next_past}
use Rattle.dm_tree.proofs.Paths.{same_or_not}
use Rattle.dm_tree.proofs.PathOrder.{name_order, name_total, is_less}

-- the next sibling, or else what is found one row further up
pub past_one : (rows : List Row) (top d k : ℕ) → 0 < d → nat_eq k top ≡ false
    → next_past rows top d k ≡ option_or (least_child rows (row_at rows k).parent (Some k) (length rows))
    (next_past rows top (d - 1) (row_at rows k).parent)
past_one rows top zero k some other = absurd (omega arith)
past_one rows top (suc d) k some other = let e : suc d - 1 ≡ d = omega arith in rw (other, e) refl

-- none of the first n rows is a child behind `after`
abbrev pub HasNoChild : List Row → ℕ → Option ℕ → ℕ → Type 0
HasNoChild rows id after n = (j : ℕ) → j < n → is_later_child rows id after (row_at rows j) ≡ false

-- the row c is the one among the first n whose name comes first
pub record IsLeast (rows : List Row) (id : ℕ) (after : Option ℕ) (n c : ℕ) : Type 0 where
  pub inside : c < n
  pub child : is_later_child rows id after (row_at rows c) ≡ true
  pub least : (j : ℕ) → j < n → is_later_child rows id after (row_at rows j) ≡ true
      → is_lt (name_order (row_at rows j).name (row_at rows c).name) ≡ false

abbrev pub IsLeastChild : List Row → ℕ → Option ℕ → ℕ → Option ℕ → Type 0
IsLeastChild rows id after n None = HasNoChild rows id after n
IsLeastChild rows id after n (Some c) = IsLeast rows id after n c

pub itself_not_less : (a : List ℕ) → is_lt (name_order a a) ≡ false
itself_not_less a = ap is_lt (tied_itself name_total a)

-- what isn't before b isn't before what is before b
pub not_before_less : (a b c : List ℕ) → is_lt (name_order a b) ≡ false → is_lt (name_order c b) ≡ true
    → is_lt (name_order a c) ≡ false
not_before_less a b c h k = false_from_ne_true (is_lt (name_order a c)) (λ is.
    (let less : is_lt (name_order a b) ≡ true =
    ap is_lt (name_total.trans a c b (is_less (name_order a c) is) (is_less (name_order c b) k)) in cc))

module _ (rows : List Row) (id : ℕ) (after : Option ℕ) (n : ℕ) where
  -- the row j is no child that stands before the row c
  abbrev IsNotBefore : ℕ → ℕ → Type 0
  IsNotBefore c j =
      is_later_child rows id after (row_at rows j) ≡ true
      → is_lt (name_order (row_at rows j).name (row_at rows c).name) ≡ false

  one_more : (c : ℕ) → c < suc n → is_later_child rows id after (row_at rows c) ≡ true
      → ((j : ℕ) → j < n → IsNotBefore c j) → IsNotBefore c n → IsLeast rows id after (suc n) c
  one_more c inside child before here = record {
    inside = inside;
    child = child;
    least = λ j l. elim (same_or_not j n) [
      | inl e ↦ subst (IsNotBefore c) (sym e) here
      | inr d ↦ before j (omega arith)
    ];
  }

  step : (o : Option ℕ) → IsLeastChild rows id after n o → (later : Bool)
      → is_later_child rows id after (row_at rows n) ≡ later
      → (better : Bool) → is_better rows o (row_at rows n) ≡ better
      → IsLeastChild rows id after (suc n) (if later && better then Some n else o)
  step None h false e better f = λ j l. elim (same_or_not j n) [ inl s ↦ rw s e | inr d ↦ h j (omega arith) ]
  step None h true e true f =
      one_more n (omega arith) e (λ j l is. let no_child = h j l in absurd (cc))
      (λ _. itself_not_less (row_at rows n).name)
  step None h true e false f = absurd (cc)
  step (Some b) h false e better f = one_more b (omega (arith, h.inside)) h.child h.least (λ is. absurd (cc))
  step (Some b) h true e true f =
      one_more n (omega arith) e (λ j l is.
      not_before_less (row_at rows j).name (row_at rows b).name (row_at rows n).name (h.least j l is) f)
      (λ _. itself_not_less (row_at rows n).name)
  step (Some b) h true e false f = one_more b (omega (arith, h.inside)) h.child h.least (λ _. f)

pub least-is : (rows : List Row) (id : ℕ) (after : Option ℕ) (n : ℕ)
    → IsLeastChild rows id after n (least_child rows id after n)
least-is rows id after zero = λ j l. absurd (omega arith)
least-is rows id after (suc n) =
    step rows id after n (least_child rows id after n) (least-is rows id after n)
    (is_later_child rows id after (row_at rows n)) refl
    (is_better rows (least_child rows id after n) (row_at rows n)) refl
