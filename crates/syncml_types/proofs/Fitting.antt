-- Parts that are fit can be spelled, and a spelling that isn't long has no long piece.
use Rattle.std.proofs.Common.{◌≡◌, ◌≤◌, ◌<◌, ◌+◌, ◌&&◌, ◌||◌, ℕ, Bool, true, false, not, if◌then◌else◌, List, [], ◌∷◌}
use Rattle.std.proofs.Common.{◌++◌, length, Option, Some, None, IfSome, nat_lt, nat_le, refl, sym, ap, ◌∙◌, arith}
use Rattle.std.specs.List.{list_all, flat_map, AllByRecursion}
use Rattle.std.proofs.lemmas.Bool.{and_parts, ltb-false, leb-true}
use Rattle.std.proofs.lemmas.List.Folds.{list_all-append}
use Rattle.syncml_types.specs.declared.values.Loc.{Loc}
use Rattle.syncml_types.specs.declared.values.Meta.{Meta}
use Rattle.syncml_types.specs.declared.values.Item.{Item}
use Rattle.syncml_types.specs.declared.values.Cred.{Cred}
use Rattle.syncml_types.specs.declared.values.Header.{Header}
use Rattle.syncml_types.specs.declared.command.Member.{Member}
use Rattle.syncml_types.specs.declared.command.Member.TheVariants as member
use Rattle.syncml_types.specs.declared.command.SeqMember.{SeqMember}
use Rattle.syncml_types.specs.declared.command.SeqMember.TheVariants as seq_member
use Rattle.syncml_types.specs.declared.command.Command.{Command}
use Rattle.syncml_types.specs.declared.command.Command.TheVariants as command
use Rattle.syncml_types.specs.declared.message.Unfit.{Unfit}
use Rattle.syncml_types.specs.declared.message.Unfit.TheVariants as unfit
use Rattle.syncml_types.specs.Message.{Parts, IsShortData, HasShortData, HasShortMember, HasShortSeqMember}
use Rattle.syncml_types.specs.Message.{HasShortItems, FitsSpelling}
use Rattle.syncml_types.specs.Canonical.{canonical}
use Rattle.syncml_types.proofs.Pieces.{texts_short, data_short}
use Rattle.syncml_types.specs.Fitness.{all_of, is_in_limit, item_data, header_data, member_data, seq_member_data}
use Rattle.syncml_types.specs.Fitness.{command_data, message_data, message_texts, IsFit, first_unfit}

-- ---- short Data can be spelled

short_is : (bytes : List ℕ) → is_in_limit bytes ≡ true → IsShortData bytes
short_is bytes h = leb-true (length bytes) 2147483648 h

each : {A : Type 0} (test : A → Bool) (P : A → Type 0) → ((x : A) → test x ≡ true → P x)
    → (xs : List A) → list_all test xs ≡ true → AllByRecursion P xs
each test P one [] h = tt
each test P one (x ∷ xs) h =
    let parts = and_parts (test x) (list_all test xs) h in (one x parts.0, each test P one xs parts.1)

some_short : (o : Option (List ℕ)) → all_of is_in_limit o ≡ true → IfSome o IsShortData
some_short None h = tt
some_short (Some bytes) h = short_is bytes h

short_item : (item : Item) → item_data is_in_limit item ≡ true → HasShortData item
unfolding item_data
short_item item h = some_short item.value h

short_items : (items : List Item) → list_all (item_data is_in_limit) items ≡ true → AllByRecursion HasShortData items
short_items items h = each (item_data is_in_limit) HasShortData short_item items h

short_member : (m : Member) → member_data is_in_limit m ≡ true → HasShortMember m
unfolding member_data
short_member (member.One c) h = short_items c.items h
short_member (member.Alert c) h = short_items c.items h

short_members : (ms : List Member) → list_all (member_data is_in_limit) ms ≡ true → AllByRecursion HasShortMember ms
short_members ms h = each (member_data is_in_limit) HasShortMember short_member ms h

short_seq_member : (m : SeqMember) → seq_member_data is_in_limit m ≡ true → HasShortSeqMember m
unfolding seq_member_data
short_seq_member (seq_member.Single m) h = short_member m h
short_seq_member (seq_member.Atomic b) h = short_members b.members h

short_command : (c : Command) → command_data is_in_limit c ≡ true → HasShortItems c
unfolding command_data
short_command (command.Plain c) h = short_items c.items h
short_command (command.Alert c) h = short_items c.items h
short_command (command.Atomic b) h = short_members b.members h
short_command (command.Sequence b) h = each (seq_member_data is_in_limit) HasShortSeqMember short_seq_member b.members h
short_command (command.Status c) h = short_items c.items h
short_command (command.Results c) h = short_items c.items h

short_cred : (o : Option Cred) → all_of (λ (c : Cred). is_in_limit c.value) o ≡ true
    → IfSome o (λ (c : Cred). IsShortData c.value)
short_cred None h = tt
short_cred (Some c) h = short_is c.value h

pub spellable_data : (h : Header) (body : List Command) → message_data is_in_limit h body ≡ true → FitsSpelling h body
unfolding header_data
spellable_data h body e =
    let parts = and_parts (header_data is_in_limit h) (list_all (command_data is_in_limit) body) e in
    record {
      cred = short_cred h.cred parts.0;
      body = each (command_data is_in_limit) HasShortItems short_command body parts.1;
    }

pub spellable : (h : Header) (body : List Command) → IsFit h body → FitsSpelling h body
spellable h body fit = spellable_data h body fit.short_data

-- ---- long Data makes a long spelling

short_or_long : (n : ℕ) (long : Bool) → nat_lt 65536 n ≡ long → long ≡ false → n ≤ 65536
short_or_long n long e h = ltb-false 65536 n (e ∙ h)

long_where : (m : Parts) (long : Bool) → nat_lt 65536 (length (canonical m)) ≡ long
    → message_data is_in_limit m.header m.body ≡ false → long ≡ true
long_where m true e h = refl
long_where m false e h = let short = data_short m (short_or_long (length (canonical m)) false e refl) in cc

pub long_data : (m : Parts) → message_data is_in_limit m.header m.body ≡ false
    → nat_lt 65536 (length (canonical m)) ≡ true
long_data m h = long_where m (nat_lt 65536 (length (canonical m))) refl h

-- ---- parts without a reason against them are fit

not_bad : (good : Bool) (reason : Unfit) (more : Option Unfit) → (if not good then Some reason else more) ≡ None
    → (good ≡ true) × (more ≡ None)
not_bad true reason more h = (refl, h)
not_bad false reason more h = cc

not_long : (n : ℕ) (long : Bool) → nat_lt 65536 n ≡ long → (if long then Some unfit.TooLong else None) ≡ None
    → n ≤ 65536
not_long n true e h = cc
not_long n false e h = ltb-false 65536 n e

pub fit_of : (m : Parts) → first_unfit m ≡ None → IsFit m.header m.body
unfolding first_unfit
fit_of m h =
    let a = not_bad _ _ _ h in
    let b = not_bad _ _ _ a.1 in
    let c = not_bad _ _ _ b.1 in
    let d = not_bad _ _ _ c.1 in
    let short = not_long (length (canonical m)) _ refl d.1 in
    record {
      texts = a.0;
      numbers = b.0;
      filled = c.0;
      correlators = d.0;
      short_texts = texts_short m short;
      short_data = data_short m short;
    }
