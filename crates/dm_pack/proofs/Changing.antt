-- The item whose Data may be cut, changed where it stands.
use Rattle.std.proofs.Common.{◌≡◌, List, [], ◌∷◌, Option, Some, None, IfSome, option_map, option_and_then, refl, sym}
use Rattle.std.proofs.Common.{ap, ◌∙◌}
use Rattle.syncml_types.specs.declared.values.Item.{Item}
use Rattle.syncml_types.specs.declared.command.Verb.{Verb}
use Rattle.syncml_types.specs.declared.command.Verb.TheVariants as verb
use Rattle.syncml_types.specs.declared.command.Member.{Member}
use Rattle.syncml_types.specs.declared.command.Member.TheVariants as member
use Rattle.syncml_types.specs.declared.command.SeqMember.{SeqMember}
use Rattle.syncml_types.specs.declared.command.SeqMember.TheVariants as seq_member
use Rattle.syncml_types.specs.declared.command.Command.{Command}
use Rattle.syncml_types.specs.declared.command.Command.TheVariants as command
use Rattle.syncml_parts.specs.Packing.{only_item, write_item, member_item, seq_member_item, list_last, cut_item}
use Rattle.syncml_parts.specs.Packing.{only_changed, write_changed, member_changed, seq_member_changed, last_changed}
use Rattle.syncml_parts.specs.Packing.{cut_changed}
use Rattle.syncml_parts.proofs.Last.{last_next}

-- ---- two changes that agree on the item

abbrev pub Agree : (Item → Item) → (Item → Item) → Option Item → Type 0
Agree f g o = IfSome o (λ i. f i ≡ g i)

agree_only : (f g : Item → Item) (is : List Item) → Agree f g (only_item is) → only_changed f is ≡ only_changed g is
agree_only f g [] h = refl
agree_only f g (i ∷ []) h = ap (λ x. x ∷ []) h
agree_only f g (i ∷ j ∷ is) h = refl

agree_write : (f g : Item → Item) (v : Verb) (is : List Item) → Agree f g (write_item v is)
    → write_changed f v is ≡ write_changed g v is
agree_write f g verb.Add is h = agree_only f g is h
agree_write f g verb.Replace is h = agree_only f g is h
agree_write f g verb.Copy is h = refl
agree_write f g verb.Delete is h = refl
agree_write f g verb.Exec is h = refl
agree_write f g verb.Get is h = refl

agree_member : (f g : Item → Item) (m : Member) → Agree f g (member_item m) → member_changed f m ≡ member_changed g m
agree_member f g (member.One c) h = ap (λ is. member.One (record c { items = is })) (agree_write f g c.verb c.items h)
agree_member f g (member.Alert c) h = refl

agree_seq_member : (f g : Item → Item) (m : SeqMember) → Agree f g (seq_member_item m)
    → seq_member_changed f m ≡ seq_member_changed g m
agree_seq_member f g (seq_member.Single m) h = ap seq_member.Single (agree_member f g m h)
agree_seq_member f g (seq_member.Atomic b) h = refl

agree_last : {A : Type 0} (f g : Item → Item) (item : A → Option Item) (changed : (Item → Item) → A → A)
    → ((x : A) → Agree f g (item x) → changed f x ≡ changed g x)
    → (xs : List A) → Agree f g (option_and_then item (list_last xs))
    → last_changed (changed f) xs ≡ last_changed (changed g) xs
agree_last f g item changed one [] h = refl
agree_last f g item changed one (x ∷ []) h = ap (λ y. y ∷ []) (one x h)
agree_last f g item changed one (x ∷ y ∷ xs) h =
    ap (λ l. x ∷ l) (agree_last f g item changed one (y ∷ xs) (rw (sym (last_next x y xs)) h))

pub agree : (f g : Item → Item) (c : Command) → Agree f g (cut_item c) → cut_changed f c ≡ cut_changed g c
agree f g (command.Plain c) h = ap (λ is. command.Plain (record c { items = is })) (agree_write f g c.verb c.items h)
agree f g (command.Alert c) h = refl
agree f g (command.Atomic b) h =
    ap (λ ms. command.Atomic (record b { members = ms }))
    (agree_last f g member_item member_changed (agree_member f g) b.members h)
agree f g (command.Sequence b) h =
    ap (λ ms. command.Sequence (record b { members = ms }))
    (agree_last f g seq_member_item seq_member_changed (agree_seq_member f g) b.members h)
agree f g (command.Status c) h = refl
agree f g (command.Results c) h = ap (λ is. command.Results (record c { items = is })) (agree_only f g c.items h)

-- ---- no change

same_only : (is : List Item) → only_changed (λ i. i) is ≡ is
same_only [] = refl
same_only (i ∷ []) = refl
same_only (i ∷ j ∷ is) = refl

same_write : (v : Verb) (is : List Item) → write_changed (λ i. i) v is ≡ is
same_write verb.Add is = same_only is
same_write verb.Replace is = same_only is
same_write verb.Copy is = refl
same_write verb.Delete is = refl
same_write verb.Exec is = refl
same_write verb.Get is = refl

same_member : (m : Member) → member_changed (λ i. i) m ≡ m
same_member (member.One c) = ap (λ is. member.One (record c { items = is })) (same_write c.verb c.items)
same_member (member.Alert c) = refl

same_seq_member : (m : SeqMember) → seq_member_changed (λ i. i) m ≡ m
same_seq_member (seq_member.Single m) = ap seq_member.Single (same_member m)
same_seq_member (seq_member.Atomic b) = refl

same_last : {A : Type 0} (changed : A → A) → ((x : A) → changed x ≡ x) → (xs : List A) → last_changed changed xs ≡ xs
same_last changed one [] = refl
same_last changed one (x ∷ []) = ap (λ y. y ∷ []) (one x)
same_last changed one (x ∷ y ∷ xs) = ap (λ l. x ∷ l) (same_last changed one (y ∷ xs))

pub same : (c : Command) → cut_changed (λ i. i) c ≡ c
same (command.Plain c) = ap (λ is. command.Plain (record c { items = is })) (same_write c.verb c.items)
same (command.Alert c) = refl
same (command.Atomic b) =
    ap (λ ms. command.Atomic (record b { members = ms })) (same_last (member_changed (λ i. i)) same_member b.members)
same (command.Sequence b) =
    ap (λ ms. command.Sequence (record b { members = ms }))
    (same_last (seq_member_changed (λ i. i)) same_seq_member b.members)
same (command.Status c) = refl
same (command.Results c) = ap (λ is. command.Results (record c { items = is })) (same_only c.items)

pub unchanged : (f : Item → Item) (c : Command) → Agree f (λ i. i) (cut_item c) → cut_changed f c ≡ c
unchanged f c h = agree f (λ i. i) c h ∙ same c

none_agrees : (f : Item → Item) (o : Option Item) → o ≡ None → Agree f (λ i. i) o
none_agrees f None h = tt
none_agrees f (Some i) h = absurd (cc)

-- a command without that item stays
pub no_item : (f : Item → Item) (c : Command) → cut_item c ≡ None → cut_changed f c ≡ c
no_item f c h = unchanged f c (none_agrees f (cut_item c) h)

some_agrees : (f g : Item → Item) (o : Option Item) (i : Item) → o ≡ Some i → f i ≡ g i → Agree f g o
some_agrees f g None i h e = absurd (cc)
some_agrees f g (Some j) i h e = let is : j ≡ i = cc in rw is e

pub agree_at : (f g : Item → Item) (c : Command) (i : Item) → cut_item c ≡ Some i → f i ≡ g i
    → cut_changed f c ≡ cut_changed g c
agree_at f g c i h e = agree f g c (some_agrees f g (cut_item c) i h e)

-- ---- one change after another

twice_only : (f g : Item → Item) (is : List Item) → only_changed f (only_changed g is) ≡ only_changed (λ i. f (g i)) is
twice_only f g [] = refl
twice_only f g (i ∷ []) = refl
twice_only f g (i ∷ j ∷ is) = refl

twice_write : (f g : Item → Item) (v : Verb) (is : List Item)
    → write_changed f v (write_changed g v is) ≡ write_changed (λ i. f (g i)) v is
twice_write f g verb.Add is = twice_only f g is
twice_write f g verb.Replace is = twice_only f g is
twice_write f g verb.Copy is = refl
twice_write f g verb.Delete is = refl
twice_write f g verb.Exec is = refl
twice_write f g verb.Get is = refl

twice_member : (f g : Item → Item) (m : Member)
    → member_changed f (member_changed g m) ≡ member_changed (λ i. f (g i)) m
twice_member f g (member.One c) = ap (λ is. member.One (record c { items = is })) (twice_write f g c.verb c.items)
twice_member f g (member.Alert c) = refl

twice_seq_member : (f g : Item → Item) (m : SeqMember)
    → seq_member_changed f (seq_member_changed g m) ≡ seq_member_changed (λ i. f (g i)) m
twice_seq_member f g (seq_member.Single m) = ap seq_member.Single (twice_member f g m)
twice_seq_member f g (seq_member.Atomic b) = refl

-- a change of the last of a list behind another
twice_last : {A : Type 0} (p q r : A → A) → ((x : A) → p (q x) ≡ r x) → (xs : List A)
    → last_changed p (last_changed q xs) ≡ last_changed r xs
twice_last p q r one [] = refl
twice_last p q r one (x ∷ []) = ap (λ y. y ∷ []) (one x)
twice_last p q r one (x ∷ y ∷ []) = ap (λ z. x ∷ z ∷ []) (one y)
twice_last p q r one (x ∷ y ∷ z ∷ xs) = ap (λ l. x ∷ l) (twice_last p q r one (y ∷ z ∷ xs))

pub twice : (f g : Item → Item) (c : Command) → cut_changed f (cut_changed g c) ≡ cut_changed (λ i. f (g i)) c
twice f g (command.Plain c) = ap (λ is. command.Plain (record c { items = is })) (twice_write f g c.verb c.items)
twice f g (command.Alert c) = refl
twice f g (command.Atomic b) =
    ap (λ ms. command.Atomic (record b { members = ms }))
    (twice_last (member_changed f) (member_changed g) (member_changed (λ i. f (g i))) (twice_member f g) b.members)
twice f g (command.Sequence b) =
    ap (λ ms. command.Sequence (record b { members = ms }))
    (twice_last (seq_member_changed f) (seq_member_changed g) (seq_member_changed (λ i. f (g i))) (twice_seq_member f g)
    b.members)
twice f g (command.Status c) = refl
twice f g (command.Results c) = ap (λ is. command.Results (record c { items = is })) (twice_only f g c.items)

-- ---- the item of a changed command

item_only : (f : Item → Item) (is : List Item) → only_item (only_changed f is) ≡ option_map f (only_item is)
item_only f [] = refl
item_only f (i ∷ []) = refl
item_only f (i ∷ j ∷ is) = refl

item_write : (f : Item → Item) (v : Verb) (is : List Item)
    → write_item v (write_changed f v is) ≡ option_map f (write_item v is)
item_write f verb.Add is = item_only f is
item_write f verb.Replace is = item_only f is
item_write f verb.Copy is = refl
item_write f verb.Delete is = refl
item_write f verb.Exec is = refl
item_write f verb.Get is = refl

item_member : (f : Item → Item) (m : Member) → member_item (member_changed f m) ≡ option_map f (member_item m)
item_member f (member.One c) = item_write f c.verb c.items
item_member f (member.Alert c) = refl

item_seq_member : (f : Item → Item) (m : SeqMember)
    → seq_member_item (seq_member_changed f m) ≡ option_map f (seq_member_item m)
item_seq_member f (seq_member.Single m) = item_member f m
item_seq_member f (seq_member.Atomic b) = refl

last_of_changed : {A : Type 0} (changed : A → A) (xs : List A)
    → list_last (last_changed changed xs) ≡ option_map changed (list_last xs)
last_of_changed changed [] = refl
last_of_changed changed (x ∷ []) = refl
last_of_changed changed (x ∷ y ∷ []) = refl
last_of_changed changed (x ∷ y ∷ z ∷ xs) =
    last_next x y (last_changed changed (z ∷ xs)) ∙ last_of_changed changed (y ∷ z ∷ xs)
    ∙ ap (option_map changed) (sym (last_next x y (z ∷ xs)))

item_of : {A : Type 0} (f : Item → Item) (item : A → Option Item) (changed : A → A)
    → ((x : A) → item (changed x) ≡ option_map f (item x))
    → (o : Option A) → option_and_then item (option_map changed o) ≡ option_map f (option_and_then item o)
item_of f item changed one None = refl
item_of f item changed one (Some x) = one x

item_last : {A : Type 0} (f : Item → Item) (item : A → Option Item) (changed : A → A)
    → ((x : A) → item (changed x) ≡ option_map f (item x))
    → (xs : List A) → option_and_then item (list_last (last_changed changed xs))
    ≡ option_map f (option_and_then item (list_last xs))
item_last f item changed one xs =
    ap (option_and_then item) (last_of_changed changed xs) ∙ item_of f item changed one (list_last xs)

pub item_changed : (f : Item → Item) (c : Command) → cut_item (cut_changed f c) ≡ option_map f (cut_item c)
item_changed f (command.Plain c) = item_write f c.verb c.items
item_changed f (command.Alert c) = refl
item_changed f (command.Atomic b) = item_last f member_item (member_changed f) (item_member f) b.members
item_changed f (command.Sequence b) = item_last f seq_member_item (seq_member_changed f) (item_seq_member f) b.members
item_changed f (command.Status c) = refl
item_changed f (command.Results c) = item_only f c.items
