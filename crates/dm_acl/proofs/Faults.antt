-- A text is read part by part up to its first fault.
use Rattle.std.proofs.Common.{◌≡◌, ◌⊎◌, inl, inr, ◌+◌, ℕ, List, [], ◌∷◌, ◌++◌, length, map, refl, ap, sym, ◌∙◌, subst}
use Rattle.std.proofs.Common.{Bool, true, false, is_some, arith, Option, Some, None, Result, Ok, Err, length-append}
use Rattle.std.specs.Prelude.{option_map}
use Rattle.std.specs.List.{AllByRecursion}
use Rattle.dm_acl.specs.declared.values.Right.{Right}
use Rattle.dm_acl.specs.declared.values.Servers.{Servers}
use Rattle.dm_acl.specs.declared.values.AclError.{AclError}
use Rattle.dm_acl.specs.declared.values.AclError.TheVariants as error
use Rattle.dm_acl.specs.declared.values.AclEntry.{AclEntry}
use Rattle.dm_acl.specs.declared.values.Entries.{Entries}
use Rattle.dm_acl.specs.Grammar.{IsEntry, entry_text, entry_of, with_servers, with_entry, with_entries, meant_entry}
use Rattle.dm_acl.specs.Reading.{entry_in, put_new, put_entry, after_part, go_on, after_parts}
use Rattle.dm_acl.specs.Laws.{front_text}
use Rattle.dm_acl.proofs.Commands.{AreNew, put, put_here}
use Rattle.dm_acl.proofs.EntryTexts.{entry_read, entry_from}

ok≢err : {A : Type 0} (x : A) (e : AclError) → Ok x ≡ Err e → ⊥
ok≢err x e h = cc

same_ok : (a b : Entries) → ◌≡◌ {A = Result Entries AclError} (Ok a) (Ok b) → a ≡ b
same_ok a b e = cc

same_fault : (a b : ℕ) → ◌≡◌ {A = Result Entries AclError} (Err (error.Malformed a)) (Err (error.Malformed b)) → a ≡ b
same_fault a b e = cc

-- ---- one part

-- a part that is taken is an entry of a command that has none yet
taken_by : (t : Bool) (acl next : Entries) (at : ℕ) (e : AclEntry) → put_new t acl at e ≡ Ok next
    → (t ≡ false) × (next ≡ with_entry acl e)
taken_by true acl next at e h = absurd (ok≢err next _ (sym h))
taken_by false acl next at e h = (refl, sym (same_ok _ _ h))

not_some : {A : Type 0} (o : Option A) → is_some o ≡ false → o ≡ None
not_some None h = refl
not_some (Some x) h = cc

taken_in : (o : Option AclEntry) (acl next : Entries) (at : ℕ) → put_entry acl at o ≡ Ok next
    → (e : AclEntry) × (o ≡ Some e) × (entry_of acl e.right ≡ None) × (next ≡ with_entry acl e)
taken_in None acl next at h = absurd (ok≢err next _ (sym h))
taken_in (Some e) acl next at h =
    let got = taken_by (is_some (entry_of acl e.right)) acl next at e h in
    (e, refl, not_some (entry_of acl e.right) got.0, got.1)

part_taken : (acl next : Entries) (at : ℕ) (part : List ℕ) → after_part acl at part ≡ Ok next
    → (w : AclEntry) × IsEntry w × (part ≡ entry_text w) × (entry_of acl w.right ≡ None)
    × (next ≡ with_entry acl (meant_entry w))
unfolding after_part
part_taken acl next at part h =
    let got = taken_in (entry_in part) acl next at h in
    let from = entry_from part got.0 got.1 in
    let w = from.0 in (
      w,
      from.1,
      from.2,
      subst (λ (e : AclEntry). entry_of acl e.right ≡ None) from.3 got.2,
      got.3 ∙ ap (with_entry acl) from.3,
    )

-- an entry of a command that has none yet is taken
part_read : (acl : Entries) (at : ℕ) (w : AclEntry) → IsEntry w → entry_of acl w.right ≡ None
    → after_part acl at (entry_text w) ≡ Ok (with_entry acl (meant_entry w))
unfolding after_part
part_read acl at w good free =
    ap (put_entry acl at) (entry_read w good) ∙ ap (λ t. put_new (is_some t) acl at (meant_entry w)) free

-- a fault, as the entries so far show it
abbrev pub IsFaultIn : Entries → List ℕ → Type 0
IsFaultIn acl part = (e : AclEntry) → IsEntry e → part ≡ entry_text e → is_some (entry_of acl e.right) ≡ true

refused_by : (t : Bool) (acl : Entries) (at bad : ℕ) (e : AclEntry) → put_new t acl at e ≡ Err (error.Malformed bad)
    → (bad ≡ at) × (t ≡ true)
refused_by true acl at bad e h = (sym (same_fault at bad h), refl)
refused_by false acl at bad e h = absurd (ok≢err _ _ h)

some≢none : {A : Type 0} (x : A) → None ≡ Some x → ⊥
some≢none x h = cc

same_some : (a b : AclEntry) → Some a ≡ Some b → a ≡ b
same_some a b h = cc

refused_in : (o : Option AclEntry) (acl : Entries) (at bad : ℕ) → put_entry acl at o ≡ Err (error.Malformed bad)
    → (bad ≡ at) × ((e : AclEntry) → o ≡ Some e → is_some (entry_of acl e.right) ≡ true)
refused_in None acl at bad h = (sym (same_fault at bad h), λ e is. absurd (some≢none e is))
refused_in (Some e) acl at bad h =
    let got = refused_by (is_some (entry_of acl e.right)) acl at bad e h in
    (got.0, λ f is. subst (λ (e : AclEntry). is_some (entry_of acl e.right) ≡ true) (same_some e f is) got.1)

part_refused : (acl : Entries) (at bad : ℕ) (part : List ℕ) → after_part acl at part ≡ Err (error.Malformed bad)
    → (bad ≡ at) × IsFaultIn acl part
unfolding after_part
part_refused acl at bad part h =
    let got = refused_in (entry_in part) acl at bad h in
    (got.0, λ e good is. got.1 (meant_entry e) (ap entry_in is ∙ entry_read e good))

fault_in : (o : Option AclEntry) (acl : Entries) (at : ℕ)
    → ((e : AclEntry) → o ≡ Some e → is_some (entry_of acl e.right) ≡ true) → put_entry acl at o ≡ Err (error.Malformed at)
fault_in None acl at h = refl
fault_in (Some e) acl at h = ap (λ t. put_new t acl at e) (h e refl)

part_fault : (acl : Entries) (at : ℕ) (part : List ℕ) → IsFaultIn acl part
    → after_part acl at part ≡ Err (error.Malformed at)
unfolding after_part
part_fault acl at part fault =
    fault_in (entry_in part) acl at (λ e is.
    let from = entry_from part e is in
    subst (λ (e : AclEntry). is_some (entry_of acl e.right) ≡ true) (sym from.3) (fault from.0 from.1 from.2))

-- a refusal is never want of memory
part_told : (acl : Entries) (at : ℕ) (part : List ℕ) → after_part acl at part ≡ Err error.Memory → ⊥
unfolding after_part
part_told acl at part h = told_in (entry_in part) h
  where
    told_by : (t : Bool) (e : AclEntry) → put_new t acl at e ≡ Err error.Memory → ⊥
    told_by true e h = cc
    told_by false e h = cc

    told_in : (o : Option AclEntry) → put_entry acl at o ≡ Err error.Memory → ⊥
    told_in None h = cc
    told_in (Some e) h = told_by (is_some (entry_of acl e.right)) e h

-- ---- all parts

on_ok : (r : Result Entries AclError) (f : Entries → Result Entries AclError) (out : Entries) → go_on r f ≡ Ok out
    → (next : Entries) × (r ≡ Ok next) × (f next ≡ Ok out)
on_ok (Ok next) f out h = (next, refl, h)
on_ok (Err e) f out h = absurd (ok≢err out e (sym h))

-- parts that are all taken are entries of different commands
pub parts_taken : (parts : List (List ℕ)) (acl out : Entries) (at : ℕ) → after_parts acl at parts ≡ Ok out
    → (es : List AclEntry) × AllByRecursion IsEntry es × AreNew acl es × (parts ≡ map entry_text es)
    × (out ≡ with_entries acl es)
parts_taken [] acl out at h = ([], tt, tt, refl, sym (same_ok acl out h))
parts_taken (part ∷ parts) acl out at h =
    let step = on_ok (after_part acl at part) (λ next. after_parts next (at + (length part + 1)) parts) out h in
    let one = part_taken acl step.0 at part step.1 in
    let w = one.0 in
    let next = with_entry acl (meant_entry w) in
    let after : after_parts next (at + (length part + 1)) parts ≡ Ok out =
    ap (λ a. after_parts a (at + (length part + 1)) parts) (sym one.4) ∙ step.2 in
    let rest = parts_taken parts next out (at + (length part + 1)) after in (
      w ∷ rest.0,
      (one.1, rest.1),
      (one.3, rest.2),
      ap (λ p. p ∷ parts) one.2 ∙ ap (λ ps. entry_text w ∷ ps) rest.3,
      rest.4,
    )

-- such entries are all taken
pub parts_read : (es : List AclEntry) (acl : Entries) (at : ℕ) → AllByRecursion IsEntry es → AreNew acl es
    → after_parts acl at (map entry_text es) ≡ Ok (with_entries acl es)
parts_read [] acl at good new = refl
parts_read (e ∷ es) acl at good new =
    ap (λ r. go_on r (λ next. after_parts next (at + (length (entry_text e) + 1)) (map entry_text es)))
    (part_read acl at e good.0 new.0)
    ∙ parts_read es (with_entry acl (meant_entry e)) (at + (length (entry_text e) + 1)) good.1 new.1

on_err : (r : Result Entries AclError) (f : Entries → Result Entries AclError) (e : AclError) → go_on r f ≡ Err e
    → (r ≡ Err e) ⊎ ((next : Entries) × (r ≡ Ok next) × (f next ≡ Err e))
on_err (Ok next) f e h = inr (next, refl, h)
on_err (Err d) f e h = inl (ap (λ x. Err x) (same_err d e h))
  where
    same_err : (a b : AclError) → ◌≡◌ {A = Result Entries AclError} (Err a) (Err b) → a ≡ b
    same_err a b h = cc

-- entries, the part behind them at which reading stops, and the parts after it
pub record Stops (acl : Entries) (at : ℕ) (parts : List (List ℕ)) (bad : ℕ) : Type 0 where
  pub before : List AclEntry
  pub part : List ℕ
  pub later : List (List ℕ)
  pub good : AllByRecursion IsEntry before
  pub new : AreNew acl before
  pub parts_are : parts ≡ map entry_text before ++ part ∷ later
  pub fault : IsFaultIn (with_entries acl before) part
  pub bad_is : bad ≡ at + length (front_text before)

stops_here : (acl : Entries) (at bad : ℕ) (part : List ℕ) (parts : List (List ℕ))
    → after_part acl at part ≡ Err (error.Malformed bad) → Stops acl at (part ∷ parts) bad
stops_here acl at bad part parts h =
    let got = part_refused acl at bad part h in
    record {
      before = [];
      part = part;
      later = parts;
      good = tt;
      new = tt;
      parts_are = refl;
      fault = got.1;
      bad_is = omega (arith, got.0);
    }

front_more : (e : AclEntry) (es : List AclEntry)
    → length (front_text (e ∷ es)) ≡ length (entry_text e) + 1 + length (front_text es)
front_more e es =
    let one = length-append (entry_text e ++ 38 ∷ []) (front_text es) in
    let two = length-append (entry_text e) (38 ∷ []) in
    omega (arith, one, two)

stops_later : (acl next : Entries) (at bad : ℕ) (part : List ℕ) (parts : List (List ℕ)) (w : AclEntry)
    → IsEntry w → part ≡ entry_text w → entry_of acl w.right ≡ None
    → Stops (with_entry acl (meant_entry w)) (at + (length part + 1)) parts bad → Stops acl at (part ∷ parts) bad
stops_later acl next at bad part parts w good is free rest =
    let l : length part ≡ length (entry_text w) = ap length is in
    let front = front_more w rest.before in
    record {
      before = w ∷ rest.before;
      part = rest.part;
      later = rest.later;
      good = (good, rest.good);
      new = (free, rest.new);
      parts_are = ap (λ p. p ∷ parts) is ∙ ap (λ ps. entry_text w ∷ ps) rest.parts_are;
      fault = rest.fault;
      bad_is = omega (arith, l, front, rest.bad_is);
    }

-- reading stops at a fault
pub parts_stop : (parts : List (List ℕ)) (acl : Entries) (at bad : ℕ)
    → after_parts acl at parts ≡ Err (error.Malformed bad) → Stops acl at parts bad
parts_stop [] acl at bad h = absurd (ok≢err acl (error.Malformed bad) h)
parts_stop (part ∷ parts) acl at bad h =
    stop_by (λ next after. parts_stop parts next (at + (length part + 1)) bad after)
    (on_err (after_part acl at part) (λ next. after_parts next (at + (length part + 1)) parts) (error.Malformed bad) h)
  where
    stop_by : ((next : Entries) → after_parts next (at + (length part + 1)) parts ≡ Err (error.Malformed bad)
        → Stops next (at + (length part + 1)) parts bad)
        → (after_part acl at part ≡ Err (error.Malformed bad))
        ⊎ ((next : Entries) × (after_part acl at part ≡ Ok next)
        × (after_parts next (at + (length part + 1)) parts ≡ Err (error.Malformed bad)))
        → Stops acl at (part ∷ parts) bad
    stop_by rest (inl here) = stops_here acl at bad part parts here
    stop_by rest (inr there) =
        let one = part_taken acl there.0 at part there.1 in
        let next = with_entry acl (meant_entry one.0) in
        let after : after_parts next (at + (length part + 1)) parts ≡ Err (error.Malformed bad) =
        ap (λ a. after_parts a (at + (length part + 1)) parts) (sym one.4) ∙ there.2 in
        stops_later acl next at bad part parts one.0 one.1 one.2 one.3 (rest next after)

-- at a fault behind entries of different commands reading stops
pub parts_stopped : (es : List AclEntry) (acl : Entries) (at : ℕ) (part : List ℕ) (later : List (List ℕ))
    → AllByRecursion IsEntry es → AreNew acl es → IsFaultIn (with_entries acl es) part
    → after_parts acl at (map entry_text es ++ part ∷ later) ≡ Err (error.Malformed (at + length (front_text es)))
parts_stopped [] acl at part later good new fault =
    ap (λ r. go_on r (λ next. after_parts next (at + (length part + 1)) later)) (part_fault acl at part fault)
    ∙ ap (λ n. Err (error.Malformed n)) (omega arith)
parts_stopped (e ∷ es) acl at part later good new fault =
    let front = front_more e es in
    ap (λ r. go_on r (λ next. after_parts next (at + (length (entry_text e) + 1)) (map entry_text es ++ part ∷ later)))
    (part_read acl at e good.0 new.0)
    ∙ parts_stopped es (with_entry acl (meant_entry e)) (at + (length (entry_text e) + 1)) part later good.1 new.1 fault
    ∙ ap (λ n. Err (error.Malformed n)) (omega (arith, front))

pub parts_told : (parts : List (List ℕ)) (acl : Entries) (at : ℕ) → after_parts acl at parts ≡ Err error.Memory → ⊥
parts_told [] acl at h = ok≢err acl error.Memory h
parts_told (part ∷ parts) acl at h =
    told_by (λ next. parts_told parts next (at + (length part + 1)))
    (on_err (after_part acl at part) (λ next. after_parts next (at + (length part + 1)) parts) error.Memory h)
  where
    told_by : ((next : Entries) → after_parts next (at + (length part + 1)) parts ≡ Err error.Memory → ⊥)
        → (after_part acl at part ≡ Err error.Memory)
        ⊎ ((next : Entries) × (after_part acl at part ≡ Ok next)
        × (after_parts next (at + (length part + 1)) parts ≡ Err error.Memory)) → ⊥
    told_by rest (inl here) = part_told acl at part here
    told_by rest (inr there) = rest there.0 there.2

-- ---- by the commands alone that have an entry

-- two lists have entries for the same commands
abbrev pub AreNamedAlike : Entries → Entries → Type 0
AreNamedAlike acl named = (r : Right) → is_some (entry_of acl r) ≡ is_some (entry_of named r)

has_here : (acl : Entries) (a r : Right) (s : Servers) → a ≡ r → is_some (entry_of (with_servers acl a s) r) ≡ true
has_here acl a r s same =
    subst (λ r. is_some (entry_of (with_servers acl a s) r) ≡ true) same (ap is_some (put_here acl a s))

pub named_more : (acl named : Entries) (a : Right) (s t : Servers) → AreNamedAlike acl named
    → AreNamedAlike (with_servers acl a s) (with_servers named a t)
named_more acl named a s t alike r = by_put (put acl a r s) (put named a r t)
  where
    by_put : ((a ≡ r) × (entry_of (with_servers acl a s) r ≡ Some s))
        ⊎ (entry_of (with_servers acl a s) r ≡ entry_of acl r)
        → ((a ≡ r) × (entry_of (with_servers named a t) r ≡ Some t))
        ⊎ (entry_of (with_servers named a t) r ≡ entry_of named r)
        → is_some (entry_of (with_servers acl a s) r) ≡ is_some (entry_of (with_servers named a t) r)
    by_put (inl same) other = has_here acl a r s same.0 ∙ sym (has_here named a r t same.0)
    by_put (inr kept) (inl same) = has_here acl a r s same.0 ∙ sym (has_here named a r t same.0)
    by_put (inr kept) (inr also) = ap is_some kept ∙ alike r ∙ sym (ap is_some also)

pub alike_taken : (acl named : Entries) (at : ℕ) (part : List ℕ) (e : AclEntry) → AreNamedAlike acl named
    → entry_in part ≡ Some e
    → entry_of named e.right ≡ None → after_part acl at part ≡ Ok (with_entry acl e)
unfolding after_part
alike_taken acl named at part e alike is free =
    ap (put_entry acl at) is ∙ ap (λ t. put_new t acl at e) (alike e.right ∙ ap is_some free)

pub alike_refused : (acl named : Entries) (at : ℕ) (part : List ℕ) → AreNamedAlike acl named
    → ((e : AclEntry) → entry_in part ≡ Some e → is_some (entry_of named e.right) ≡ true)
    → after_part acl at part ≡ Err (error.Malformed at)
unfolding after_part
alike_refused acl named at part alike has = fault_in (entry_in part) acl at (λ e is. alike e.right ∙ has e is)

-- a part that is an entry of a command that has none yet
pub entry_named : (o : Option AclEntry) (named : Entries) (right : Right)
    → option_map (λ (e : AclEntry). e.right) o ≡ Some right
    → is_some (entry_of named right) ≡ false
    → (e : AclEntry) × (o ≡ Some e) × (entry_of named e.right ≡ None) × (e.right ≡ right)
entry_named None named right is free = cc
entry_named (Some e) named right is free =
    let same : e.right ≡ right = cc in
    (e, refl, subst (λ r. entry_of named r ≡ None) (sym same) (not_some (entry_of named right) free), same)
