-- As many entries are taken as fit, as much Data of the next one is cut off as fits, and none of it is lost.
use Rattle.std.proofs.Common.{◌≡◌, ◌<◌, ◌≤◌, ℕ, zero, suc, Bool, true, false, List, [], ◌∷◌, ◌++◌, length, take, refl}
use Rattle.std.proofs.Common.{sym}
use Rattle.std.proofs.Common.{◌∙◌, ap, subst, append_assoc, arith, if◌then◌else◌, nat_le, Option, Some, None}
use Rattle.std.proofs.Common.{option_map}
use Rattle.std.proofs.lemmas.Bool.{leb-true, leb-false}
use Rattle.std.proofs.lemmas.List.{take-append-drop}
use Rattle.syncml_types.specs.declared.values.Item.{Item}
use Rattle.syncml_parts.specs.Packing.{cut_changed, cut_data, cut_item, data_in, bytes_in}
use Rattle.syncml_types.specs.declared.values.Header.{Header}
use Rattle.syncml_types.specs.declared.command.Command.{Command}
use Rattle.dm_pack.specs.Entries.{Entry, part_item, part_of, rest_item, rest_of}
use Rattle.dm_pack.specs.Filling.{fits_room, taken, commands_of, greatest}
use Rattle.dm_pack.specs.Laws.{TakesTheMost, CutsTheMost, CutDataIsJoined}
use Rattle.dm_pack.proofs.Changing.{item_changed}
use Rattle.dm_pack.proofs.Parts.{item_alone}

-- ---- whole entries

one_more : (h : Header) (room : ℕ) (before : List Command) (e : Entry) (es : List Entry) (k : ℕ)
    → fits_room h room (before ++ e.command ∷ []) ≡ true
    → ((j : ℕ) → 0 < j → j ≤ taken h room (before ++ e.command ∷ []) es
    → fits_room h room ((before ++ e.command ∷ []) ++ commands_of (take j es)) ≡ true)
    → k ≤ taken h room (before ++ e.command ∷ []) es
    → fits_room h room (before ++ e.command ∷ commands_of (take k es)) ≡ true
one_more h room before e es zero x ih l = x
one_more h room before e es (suc j) x ih l =
    ap (fits_room h room) (sym (append_assoc before (e.command ∷ []) (commands_of (take (suc j) es))))
    ∙ ih (suc j) (omega arith) l

taken_fit : (h : Header) (room : ℕ) (before : List Command) (es : List Entry) (k : ℕ) → 0 < k
    → k ≤ taken h room before es → fits_room h room (before ++ commands_of (take k es)) ≡ true
taken_fit h room before [] k some l = absurd (omega (arith, some, l))
taken_fit h room before (e ∷ es) zero some l = absurd (omega (arith, some))
taken_fit h room before (e ∷ es) (suc k) some l =
    let next = before ++ e.command ∷ [] in
    elim (fits_room h room next) as (λ b. fits_room h room next ≡ b
    → suc k ≤ (if b then suc (taken h room next es) else 0)
    → fits_room h room (before ++ e.command ∷ commands_of (take k es)) ≡ true) [
      | true ↦ λ x m. one_more h room before e es k x (λ j a b. taken_fit h room next es j a b) (omega (arith, m))
      | false ↦ λ x m. absurd (omega (arith, m))
    ] refl l

taken_stops : (h : Header) (room : ℕ) (before : List Command) (es : List Entry)
    → taken h room before es < length es
    → fits_room h room (before ++ commands_of (take (suc (taken h room before es)) es)) ≡ false
taken_stops h room before [] l = absurd (omega (arith, l))
taken_stops h room before (e ∷ es) l =
    let next = before ++ e.command ∷ [] in
    elim (fits_room h room next) as (λ b. fits_room h room next ≡ b
    → (if b then suc (taken h room next es) else 0) < suc (length es)
    → fits_room h room (before ++ commands_of (take (suc (if b then suc (taken h room next es) else 0)) (e ∷ es))) ≡ false) [
      | true ↦ λ x m. ap (fits_room h room) (sym (append_assoc before (e.command ∷ [])
          (commands_of (take (suc (taken h room next es)) es)))) ∙ taken_stops h room next es (omega (arith, m))
      | false ↦ λ x m. x
    ] refl l

pub takes_the_most : TakesTheMost
takes_the_most h room es = (λ k a b. taken_fit h room [] es k a b, λ l. taken_stops h room [] es l)

-- ---- the cut

above_by : (passes : ℕ → Bool) (m k : ℕ) (t : Bool) → nat_le k m ≡ t → k ≤ suc m → passes (suc m) ≡ false
    → (k ≤ m → passes k ≡ false) → passes k ≡ false
above_by passes m k true e l next below = below (leb-true k m e)
above_by passes m k false e l next below =
    let more = leb-false k m e in
    let same : suc m ≡ k = omega (arith, more, l) in
    subst (λ x. passes x ≡ false) same next

pub cuts_the_most : CutsTheMost
cuts_the_most passes zero = (λ some. absurd (omega (arith, some)), λ k a b. absurd (omega (arith, a, b)))
cuts_the_most passes (suc m) =
    let below = cuts_the_most passes m in
    elim (passes (suc m)) as (λ t. passes (suc m) ≡ t
    → (0 < (if t then suc m else greatest passes m) → passes (if t then suc m else greatest passes m) ≡ true)
    × ((k : ℕ) → (if t then suc m else greatest passes m) < k → k ≤ suc m → passes k ≡ false)) [
      | true ↦ λ e. (λ some. e, λ k a b. absurd (omega (arith, a, b)))
      | false ↦ λ e. (below.0, λ k a b. above_by passes m k (nat_le k m) refl b e (below.1 k a))
    ] refl

-- ---- what is cut

joined_item : (begun : Bool) (n : ℕ) (o : Option Item)
    → data_in (option_map (part_item begun n) o) ++ data_in (option_map (rest_item n) o) ≡ data_in o
joined_item begun n None = refl
joined_item begun n (Some i) = take-append-drop n (bytes_in i.value)

pub cut_data_is_joined : CutDataIsJoined
unfolding part_of rest_of
cut_data_is_joined e n =
    let part = ap data_in (item_changed (part_item e.begun n) e.command) in
    let rest =
    ap data_in (item_alone (cut_changed (rest_item n) e.command) ∙ item_changed (rest_item n) e.command) in
    ap (λ a. a ++ cut_data (rest_of e n).command) part
    ∙ ap (λ b. data_in (option_map (part_item e.begun n) (cut_item e.command)) ++ b) rest
    ∙ joined_item e.begun n (cut_item e.command)
