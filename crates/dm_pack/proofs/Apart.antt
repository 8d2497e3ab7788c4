-- Data kept apart from its command.
use Rattle.std.proofs.Common.{◌≡◌, ◌<◌, ◌-◌, ℕ, false, List, [], ◌∷◌, length, take, drop, length-drop, Option, Some}
use Rattle.std.proofs.Common.{None, IfSome, option_map, refl, sym, ap, ◌∙◌, arith}
use Rattle.std.proofs.lemmas.List.{take_all}
use Rattle.syncml_types.specs.declared.values.Item.{Item}
use Rattle.syncml_types.specs.declared.command.Command.{Command}
use Rattle.syncml_parts.specs.Packing.{cut_item, cut_changed, cut_data, bytes_in, data_in}
use Rattle.syncml_parts.specs.Pages.{with_item_value}
use Rattle.dm_pack.specs.Entries.{whole_entry}
use Rattle.dm_pack.specs.Measures.{hollow_item, put_back, entry_left, HasEmptyData, IsTakenApart}
use Rattle.dm_pack.proofs.Changing.{agree_at, unchanged, no_item, twice, item_changed}

-- ---- what was taken out

hollow_bytes : (o : Option (List ℕ)) → bytes_in (option_map (λ _. []) o) ≡ []
hollow_bytes None = refl
hollow_bytes (Some v) = refl

hollow_in : (o : Option Item) → data_in (option_map hollow_item o) ≡ []
hollow_in None = refl
hollow_in (Some i) = hollow_bytes i.value

pub hollow_data : (c : Command) → cut_data (cut_changed hollow_item c) ≡ []
hollow_data c = ap data_in (item_changed hollow_item c) ∙ hollow_in (cut_item c)

empty_value : (o : Option (List ℕ)) → bytes_in o ≡ [] → option_map (λ _. []) o ≡ o
empty_value None h = refl
empty_value (Some v) h = ap Some (sym h)

empty_item : (o : Option Item) → data_in o ≡ [] → IfSome o (λ i. hollow_item i ≡ i)
empty_item None h = tt
empty_item (Some i) h = ap (λ v. record i { value = v }) (empty_value i.value h)

-- a command without Data is as it is without it
pub nothing_out : (c : Command) → cut_data c ≡ [] → cut_changed hollow_item c ≡ c
nothing_out c h = unchanged hollow_item c (empty_item (cut_item c) h)

some_bytes : (o : Option (List ℕ)) → 0 < length (bytes_in o) → o ≡ Some (bytes_in o)
some_bytes None h = absurd (omega (arith, h))
some_bytes (Some v) h = refl

pub record HasData (c : Command) : Type 0 where
  pub item : Item
  pub is : cut_item c ≡ Some item
  pub value : item.value ≡ Some (cut_data c)

has_data_in : (c : Command) (o : Option Item) → cut_item c ≡ o → 0 < length (data_in o) → HasData c
has_data_in c None is h = absurd (omega (arith, h))
has_data_in c (Some i) is h = record {
  item = i;
  is = is;
  value = some_bytes i.value h ∙ ap (λ o. Some (data_in o)) (sym is);
}

-- where there is Data, an item has it
pub has_data : (c : Command) → 0 < length (cut_data c) → HasData c
has_data c h = has_data_in c (cut_item c) refl h

pub hollow_has : (c : Command) → 0 < length (cut_data c) → HasEmptyData (cut_changed hollow_item c)
hollow_has c h =
    let d = has_data c h in
    record {
      item = hollow_item d.item;
      is = item_changed hollow_item c ∙ ap (option_map hollow_item) d.is;
      empty = ap (option_map (λ _. [])) d.value;
    }

pub taken_apart : (c : Command) → IsTakenApart (cut_changed hollow_item c) (cut_data c) 0
taken_apart c = record {
  hollow = hollow_data c;
  place = hollow_has c;
  within = omega arith;
  some_left = λ h. h;
}

-- ---- and put back

back_at : (b : ℕ) (bs : List ℕ) (c : Command) (d : HasData c) → b ∷ bs ≡ cut_data c
    → cut_changed (with_item_value (b ∷ bs)) (cut_changed hollow_item c) ≡ c
back_at b bs c d same =
    twice (with_item_value (b ∷ bs)) hollow_item c
    ∙ agree_at (λ i. with_item_value (b ∷ bs) (hollow_item i)) (λ i. i) c d.item d.is
    (ap (λ v. record d.item { value = Some v }) same ∙ ap (λ v. record d.item { value = v }) (sym d.value))
    ∙ unchanged (λ i. i) c (itself (cut_item c))
  where
    itself : (o : Option Item) → IfSome o (λ i. i ≡ i)
    itself None = tt
    itself (Some i) = refl

back_by : (c : Command) (v : List ℕ) → v ≡ cut_data c → put_back v (cut_changed hollow_item c) ≡ c
back_by c [] same = nothing_out c (sym same)
back_by c (b ∷ bs) same = back_at b bs c (has_data c (let long = ap length same in omega (arith, long))) same

pub put_back_again : (c : Command) → put_back (cut_data c) (cut_changed hollow_item c) ≡ c
put_back_again c = back_by c (cut_data c) refl

pub fresh_apart : (c : Command) → entry_left (cut_changed hollow_item c) (cut_data c) 0 ≡ whole_entry c
fresh_apart c = ap (λ d. record { command = d; begun = false }) (put_back_again c)

data_put : (b : ℕ) (bs : List ℕ) (c : Command) (e : HasEmptyData c)
    → cut_data (cut_changed (with_item_value (b ∷ bs)) c) ≡ b ∷ bs
data_put b bs c e = ap data_in (item_changed (with_item_value (b ∷ bs)) c ∙ ap (option_map (with_item_value (b ∷ bs))) e.is)

data_by : (c : Command) (v : List ℕ) → cut_data c ≡ [] → (0 < length v → HasEmptyData c) → cut_data (put_back v c) ≡ v
data_by c [] hollow place = hollow
data_by c (b ∷ bs) hollow place = data_put b bs c (place (omega arith))

rest_place : (c : Command) (value : List ℕ) (sent : ℕ) → IsTakenApart c value sent → 0 < length (drop sent value)
    → HasEmptyData c
rest_place c value sent a h = let long = length-drop sent value in a.place (omega (arith, h, long))

-- the Data of the entry is what is left of it
pub data_apart : (c : Command) (value : List ℕ) (sent : ℕ) → IsTakenApart c value sent
    → cut_data (entry_left c value sent).command ≡ drop sent value
data_apart c value sent a = data_by c (drop sent value) a.hollow (rest_place c value sent a)

hollow_put : (b : ℕ) (bs : List ℕ) (c : Command) → cut_data c ≡ [] → HasEmptyData c
    → cut_changed hollow_item (cut_changed (with_item_value (b ∷ bs)) c) ≡ c
hollow_put b bs c hollow e =
    twice hollow_item (with_item_value (b ∷ bs)) c
    ∙ agree_at (λ i. hollow_item (with_item_value (b ∷ bs) i)) hollow_item c e.item e.is
    (ap (λ v. record e.item { value = v }) (sym (ap (option_map (λ _. [])) e.empty)))
    ∙ nothing_out c hollow

hollow_by : (c : Command) (v : List ℕ) → cut_data c ≡ [] → (0 < length v → HasEmptyData c)
    → cut_changed hollow_item (put_back v c) ≡ c
hollow_by c [] hollow place = nothing_out c hollow
hollow_by c (b ∷ bs) hollow place = hollow_put b bs c hollow (place (omega arith))

-- and the command that is kept is the entry's without it
pub hollow_apart : (c : Command) (value : List ℕ) (sent : ℕ) → IsTakenApart c value sent
    → cut_changed hollow_item (entry_left c value sent).command ≡ c
hollow_apart c value sent a = hollow_by c (drop sent value) a.hollow (rest_place c value sent a)

pub drop_slice : (sent : ℕ) (value : List ℕ) → take (length value - sent) (drop sent value) ≡ drop sent value
drop_slice sent value = let long = length-drop sent value in
    take_all (length value - sent) (drop sent value) (omega (arith, long))

pub untaken : (c : Command) → cut_item c ≡ None → cut_changed hollow_item c ≡ c
untaken c h = no_item hollow_item c h

-- an item that was written in place of the command's own
pub written : (f : Item → Item) (c : Command) (i j : Item) → cut_item c ≡ Some i → j ≡ f i
    → cut_changed (λ _. j) c ≡ cut_changed f c
written f c i j h e = agree_at (λ _. j) f c i h e
