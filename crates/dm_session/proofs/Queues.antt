-- A queue to which entries are put, and out of which a message is filled.
use Rattle.std.proofs.Common.{◌≡◌, ◌≤◌, ℕ, Bool, List, [], ◌∷◌, ◌++◌, length, map, take, drop, Option, None, Some, refl}
use Rattle.std.proofs.Common.{◌∙◌, ap, arith}
use Rattle.std.specs.Option.{option_to_list}
use Rattle.std.proofs.Math.Seq.{take-append_seam}
use Rattle.syncml_types.specs.declared.command.Command.{Command}
use Rattle.syncml_types.specs.declared.values.Header.{Header}
use Rattle.dm_pack.specs.Entries.{Entry, whole_entry}
use Rattle.dm_pack.specs.Filling.{fill, left_after}

-- what stood in front is still there
pub front_stays : (old more new : List Entry) → new ≡ old ++ more → take (length old) new ≡ old
front_stays old more new is = ap (take (length old)) is ∙ take-append_seam old more

pub front_still : (old now more new : List Entry) → now ≡ old ++ more → new ≡ now → take (length old) new ≡ old
front_still old now more new was is = front_stays old more new (is ∙ was)

-- the entries that were put in front are taken out
pub front_gone : (entry : Option Command) (old now : List Entry) (count : ℕ) → count ≡ length (option_to_list entry)
    → now ≡ map whole_entry (option_to_list entry) ++ old → drop count now ≡ old
front_gone None old now count few is = ap (λ n. drop n now) few ∙ whole now ∙ is
  where
    whole : (l : List Entry) → drop 0 l ≡ l
    whole [] = refl
    whole (x ∷ l) = refl
front_gone (Some e) old now count few is = ap (λ n. drop n now) few ∙ ap (drop 1) is ∙ whole old
  where
    whole : (l : List Entry) → drop 1 (whole_entry e ∷ l) ≡ l
    whole [] = refl
    whole (x ∷ l) = refl

pub front_long : (entry : Option Command) (old now : List Entry) (count : ℕ) → count ≡ length (option_to_list entry)
    → now ≡ map whole_entry (option_to_list entry) ++ old → count ≤ length now
front_long None old now count few is = omega (arith, few)
front_long (Some e) old now count few is = omega (arith, few, ap length is)

-- what is left of the queue when a message is out
pub left_is : (es new : List Entry) (header : Header) (room : ℕ) (heard : Bool) (whole cut : ℕ)
    → whole ≡ (fill es header room heard).whole → cut ≡ (fill es header room heard).cut → new ≡ left_after es whole cut
    → new ≡ (fill es header room heard).left
unfolding fill left_after
left_is es new header room heard whole cut w c is =
    is ∙ ap (λ n. left_after es n cut) w ∙ ap (left_after es (fill es header room heard).whole) c

pub none_waits : (q : List Entry) → length q ≡ 0 → q ≡ []
none_waits [] none = refl
none_waits (e ∷ es) none = absurd (omega (arith, none))
