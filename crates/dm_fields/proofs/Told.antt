-- What lines that are taken tell.
use Rattle.std.proofs.Common.{◌≡◌, ℕ, Bool, true, false, cond, List, [], ◌∷◌, Option, None, Some, Ok, Err, refl, subst}
use Rattle.std.specs.Prelude.{◌&&◌, Result, bytes_eq, IfSome, codes}
use Rattle.dm_base.specs.Fields.{is_short, is_id, num_of}
use Rattle.dm_base.specs.declared.values.Limits.{Limits}
use Rattle.dm_base.specs.declared.lines.LineReason.{LineReason}
use Rattle.dm_auth.specs.declared.accounts.Account.{Account}
use Rattle.dm_fields.specs.Fields.{opt_of, key_in, are_limits, limits_of, limits_in, account_of, account_in, IsAccount}
use Rattle.dm_fields.specs.Refusing.{or_refused}

-- ---- what an answer tells of the tests before it

pub record Said {X Y : Type 0} (o : Option X) (next : X → Result Y LineReason) (y : Y) : Type 0 where
  pub value : X
  pub is : o ≡ Some value
  pub rest : next value ≡ Ok y

pub said : {X Y : Type 0} (why : LineReason) (o : Option X) (next : X → Result Y LineReason) (y : Y)
    → or_refused why o next ≡ Ok y → Said o next y
said why None next y e = absurd (cc)
said why (Some x) next y e = record { value = x; is = refl; rest = e }

pub allowed : {Y : Type 0} (b : Bool) (r : Result Y LineReason) (why : LineReason) (y : Y) → cond b r (Err why) ≡ Ok y
    → (b ≡ true) × (r ≡ Ok y)
allowed true r why y e = (refl, e)
allowed false r why y e = absurd (cc)

pub passed : {Y : Type 0} (b : Bool) (r : Result Y LineReason) (why : LineReason) (y : Y) → cond b (Err why) r ≡ Ok y
    → (b ≡ false) × (r ≡ Ok y)
passed true r why y e = absurd (cc)
passed false r why y e = (refl, e)

pub same_ok : {Y : Type 0} (x y : Y) → ◌≡◌ {A = Result Y LineReason} (Ok x) (Ok y) → x ≡ y
same_ok x y e = cc

pub some_if : {X : Type 0} (b : Bool) (o : Option X) (x : X) → cond b o None ≡ Some x → (b ≡ true) × (o ≡ Some x)
some_if true o x e = (refl, e)
some_if false o x e = absurd (cc)

-- ---- limits

pub in_limits : (fields : List (List ℕ)) (l : Limits) → limits_in fields ≡ Some l
    → are_limits l.max_msg l.max_obj ≡ true
in_limits [] l e = absurd (cc)
in_limits (w ∷ []) l e = absurd (cc)
in_limits (w ∷ a ∷ []) l e = absurd (cc)
in_limits (w ∷ a ∷ b ∷ []) l e = by_numbers (num_of a) (num_of b) e
  where
    by_numbers : (x y : Option ℕ) → limits_of x y ≡ Some l → are_limits l.max_msg l.max_obj ≡ true
    by_numbers None y h = absurd (cc)
    by_numbers (Some x) None h = absurd (cc)
    by_numbers (Some x) (Some y) h =
        let told = some_if (are_limits x y) (Some (record { max_msg = x; max_obj = y })) l h in
        let same : record { max_msg = x; max_obj = y } ≡ l = some_limits _ l told.1 in
        subst (λ (m : Limits). are_limits m.max_msg m.max_obj ≡ true) same told.0
      where
        some_limits : (m n : Limits) → Some m ≡ Some n → m ≡ n
        some_limits m n q = cc
in_limits (w ∷ a ∷ b ∷ c ∷ rest) l e = absurd (cc)

-- ---- accounts

four : (a b c d : Bool) → (a && b && c && d) ≡ true → (a ≡ true) × (b ≡ true) × (c ≡ true) × (d ≡ true)
four true true true true h = (refl, refl, refl, refl)
four false b c d h = absurd (cc)
four true false c d h = absurd (cc)
four true true false d h = absurd (cc)
four true true true false h = absurd (cc)

opt_short : (text : List ℕ) → is_short text ≡ true → IfSome (opt_of text) (λ t. is_short t ≡ true)
opt_short text h = by_dash (bytes_eq text (codes "-"))
  where
    by_dash : (b : Bool) → IfSome (cond b None (Some text)) (λ t. is_short t ≡ true)
    by_dash true = tt
    by_dash false = h

pub is_account : (fields : List (List ℕ)) (a : Account) → account_in fields ≡ Some a → IsAccount a
is_account [] a e = absurd (cc)
is_account (w ∷ []) a e = absurd (cc)
is_account (w ∷ s ∷ []) a e = absurd (cc)
is_account (w ∷ s ∷ p ∷ []) a e = absurd (cc)
is_account (w ∷ s ∷ p ∷ n ∷ []) a e = absurd (cc)
is_account (w ∷ s ∷ p ∷ n ∷ u ∷ []) a e = absurd (cc)
is_account (w ∷ s ∷ p ∷ n ∷ u ∷ q ∷ []) a e = absurd (cc)
is_account (w ∷ s ∷ p ∷ n ∷ u ∷ q ∷ m ∷ []) a e =
    let told = some_if _ (account_of s p (key_in n) u q (key_in m)) a e in
    let all = four (is_id s) (is_short p) (is_short u) (is_short q) told.0 in
    by_keys all.0 all.1 all.2 all.3 (key_in n) (key_in m) told.1
  where
    some_account : (x y : Account) → Some x ≡ Some y → x ≡ y
    some_account x y h = cc

    by_keys : is_id s ≡ true → is_short p ≡ true → is_short u ≡ true → is_short q ≡ true → (k l : Option (List ℕ))
        → account_of s p k u q l ≡ Some a → IsAccount a
    by_keys hs hp hu hq None l h = absurd (cc)
    by_keys hs hp hu hq (Some k) None h = absurd (cc)
    by_keys hs hp hu hq (Some k) (Some l) h =
        subst IsAccount (some_account _ a h) (record {
          server = hs;
          server_password = opt_short p hp;
          user = opt_short u hu;
          user_password = opt_short q hq;
        })
is_account (w ∷ s ∷ p ∷ n ∷ u ∷ q ∷ m ∷ x ∷ rest) a e = absurd (cc)
