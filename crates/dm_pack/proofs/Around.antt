-- A command's tokens around those of the item whose Data may be cut.
use Rattle.std.proofs.Common.{◌≡◌, true, List, [], ◌∷◌, ◌++◌, Option, Some, option_and_then, sym, ap, ◌∙◌, append_assoc}
use Rattle.std.specs.List.{flat_map}
use Rattle.wbxml_tables.specs.declared.Element.{Element}
use Rattle.wbxml_tokens.specs.declared.token.Token.{Token}
use Rattle.wbxml_tokens.specs.declared.token.Token.TheVariants.{Tag, End}
use Rattle.syncml_types.specs.declared.values.Item.{Item}
use Rattle.syncml_types.specs.declared.command.Verb.{Verb}
use Rattle.syncml_types.specs.declared.command.Verb.TheVariants as verb
use Rattle.syncml_types.specs.declared.command.Member.{Member}
use Rattle.syncml_types.specs.declared.command.Member.TheVariants as member
use Rattle.syncml_types.specs.declared.command.SeqMember.{SeqMember}
use Rattle.syncml_types.specs.declared.command.SeqMember.TheVariants as seq_member
use Rattle.syncml_types.specs.declared.command.Command.{Command}
use Rattle.syncml_types.specs.declared.command.Command.TheVariants as command
use Rattle.syncml_types.specs.Canonical.{parent_tokens, item_tokens, items_tokens, plain_tokens, member_tokens}
use Rattle.syncml_types.specs.Canonical.{members_tokens, atomic_tokens, seq_member_tokens, seq_members_tokens}
use Rattle.syncml_types.specs.Canonical.{sequence_tokens, results_tokens, command_tokens}
use Rattle.syncml_parts.specs.Packing.{only_item, write_item, member_item, seq_member_item, list_last, cut_item}
use Rattle.syncml_parts.specs.Packing.{only_changed, write_changed, member_changed, seq_member_changed, last_changed}
use Rattle.syncml_parts.specs.Packing.{cut_changed}
use Rattle.syncml_parts.proofs.Last.{last_next}

-- whatever the item is changed to, the rest stays
pub record Around (i : Item) (tokens : (Item → Item) → List Token) : Type 0 where
  pub before : List Token
  pub after : List Token
  pub is : (f : Item → Item) → tokens f ≡ before ++ item_tokens (f i) ++ after

around_front : {i : Item} {tokens : (Item → Item) → List Token} (front : List Token) → Around i tokens
    → Around i (λ f. front ++ tokens f)
around_front {i} front a = record {
  before = front ++ a.before;
  after = a.after;
  is = λ f.
      ap (λ l. front ++ l) (a.is f)
      ∙ sym (append_assoc front (a.before ++ item_tokens (f i)) a.after)
      ∙ ap (λ l. l ++ a.after) (sym (append_assoc front a.before (item_tokens (f i))));
}

around_back : {i : Item} {tokens : (Item → Item) → List Token} (back : List Token) → Around i tokens
    → Around i (λ f. tokens f ++ back)
around_back {i} back a = record {
  before = a.before;
  after = a.after ++ back;
  is = λ f. ap (λ l. l ++ back) (a.is f) ∙ append_assoc (a.before ++ item_tokens (f i)) a.after back;
}

around_parent : {i : Item} {tokens : (Item → Item) → List Token} (e : Element) → Around i tokens
    → Around i (λ f. parent_tokens e (tokens f))
around_parent e a = around_front (Tag e true ∷ []) (around_back (End ∷ []) a)

around_only : (is : List Item) (i : Item) → only_item is ≡ Some i → Around i (λ f. items_tokens (only_changed f is))
unfolding items_tokens
around_only [] i h = absurd (cc)
around_only (j ∷ []) i h =
    let same : j ≡ i = cc in
    record { before = []; after = []; is = λ f. ap (λ x. item_tokens (f x) ++ []) same }
around_only (j ∷ k ∷ is) i h = absurd (cc)

around_write : (v : Verb) (is : List Item) (i : Item) → write_item v is ≡ Some i
    → Around i (λ f. items_tokens (write_changed f v is))
around_write verb.Add is i h = around_only is i h
around_write verb.Replace is i h = around_only is i h
around_write verb.Copy is i h = absurd (cc)
around_write verb.Delete is i h = absurd (cc)
around_write verb.Exec is i h = absurd (cc)
around_write verb.Get is i h = absurd (cc)

around_member : (m : Member) (i : Item) → member_item m ≡ Some i → Around i (λ f. member_tokens (member_changed f m))
unfolding member_tokens plain_tokens
around_member (member.One c) i h = around_parent _ (around_front _ (around_write c.verb c.items i h))
around_member (member.Alert c) i h = absurd (cc)

around_seq_member : (m : SeqMember) (i : Item) → seq_member_item m ≡ Some i
    → Around i (λ f. seq_member_tokens (seq_member_changed f m))
unfolding seq_member_tokens
around_seq_member (seq_member.Single m) i h = around_member m i h
around_seq_member (seq_member.Atomic b) i h = absurd (cc)

around_last : {A : Type 0} (tokens : A → List Token) (item : A → Option Item) (changed : (Item → Item) → A → A)
    → ((x : A) (i : Item) → item x ≡ Some i → Around i (λ f. tokens (changed f x)))
    → (xs : List A) (i : Item) → option_and_then item (list_last xs) ≡ Some i
    → Around i (λ f. flat_map tokens (last_changed (changed f) xs))
around_last tokens item changed one [] i h = absurd (cc)
around_last tokens item changed one (x ∷ []) i h = around_back [] (one x i h)
around_last tokens item changed one (x ∷ y ∷ xs) i h =
    around_front (tokens x)
    (around_last tokens item changed one (y ∷ xs) i (ap (option_and_then item) (sym (last_next x y xs)) ∙ h))

pub around : (c : Command) (i : Item) → cut_item c ≡ Some i → Around i (λ f. command_tokens (cut_changed f c))
unfolding command_tokens plain_tokens results_tokens atomic_tokens sequence_tokens members_tokens seq_members_tokens
around (command.Plain c) i h = around_parent _ (around_front _ (around_write c.verb c.items i h))
around (command.Alert c) i h = absurd (cc)
around (command.Atomic b) i h =
    around_parent _ (around_front _ (around_last member_tokens member_item member_changed around_member b.members i h))
around (command.Sequence b) i h =
    around_parent _
    (around_front _ (around_last seq_member_tokens seq_member_item seq_member_changed around_seq_member b.members i h))
around (command.Status c) i h = absurd (cc)
around (command.Results c) i h = around_parent _ (around_front _ (around_only c.items i h))
