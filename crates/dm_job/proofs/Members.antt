-- A container is measured without the Data of its last member.
use Rattle.std.proofs.Common.{◌≡◌, ◌<◌, ◌≤◌, ◌&&◌, ◌^◌, ◌-◌, ℕ, Bool, true, false, List, [], ◌∷◌, length, Option}
use Rattle.std.proofs.Common.{None}
use Rattle.std.proofs.Common.{Some, refl, sym, ap, arith, ◌∙◌, nat_le, nat_lt}
use Rattle.std.specs.Prelude.{min}
use Rattle.std.proofs.lemmas.Bool.Decides.{nat_tests}
use Rattle.syncml_types.specs.declared.values.Item.{Item}
use Rattle.syncml_types.specs.declared.command.SeqMember.{SeqMember}
use Rattle.syncml_types.specs.declared.command.SeqMember.TheVariants as seq_member
use Rattle.syncml_types.specs.declared.command.Command.{Command}
use Rattle.syncml_types.specs.declared.command.Command.TheVariants as command
use Rattle.syncml_types.specs.Message.{HasShortItems}
use Rattle.syncml_types.specs.Fitness.{is_in_limit, item_data, command_data}
use Rattle.syncml_types.specs.Lengths.{up_to_most}
use Rattle.syncml_parts.specs.Numbering.{ids_in, ids_in_seq_member, ids_in_seq_members}
use Rattle.syncml_parts.specs.Packing.{cut_item, cut_changed}
use Rattle.dm_pack.specs.Entries.{without_value, bare_length}
use Rattle.dm_pack.proofs.Changing.{Agree, twice, unchanged}
use Rattle.dm_pack.proofs.Fit.{Keeps, data_changed, short_items}
use Rattle.dm_pack.proofs.Numbers.{ids_changed, many_bytes}
use Rattle.dm_job.specs.Commands.{member_count, may_close}
use Rattle.dm_job.specs.Measures.{value_in, with_data}

-- ---- Data taken out and put back

put_again : (o : Option Item) (v : Option (List ℕ)) → v ≡ value_in o → Agree (with_data v) (λ i. i) o
put_again None v e = tt
put_again (Some i) v e = rw e refl

pub taken_and_put : (c : Command) (v : Option (List ℕ)) → v ≡ value_in (cut_item c)
    → cut_changed (with_data v) (cut_changed without_value c) ≡ c
taken_and_put c v e = twice (with_data v) without_value c ∙ unchanged (with_data v) c (put_again (cut_item c) v e)

without_keeps : Keeps is_in_limit without_value
unfolding item_data
without_keeps i h = refl

pub short_without : (c : Command) → command_data is_in_limit c ≡ true → HasShortItems (cut_changed without_value c)
short_without c h = short_items (cut_changed without_value c) (data_changed is_in_limit without_value without_keeps c h)

pub ids_without : (c : Command) (n : ℕ) → ids_in c ≤ n → ids_in (cut_changed without_value c) ≤ n
ids_without c n h = let same = ids_changed without_value c in omega (arith, same, h)

-- ---- many members are long

some_ids : (m : SeqMember) → 1 ≤ ids_in_seq_member m
some_ids (seq_member.Single m) = omega arith
some_ids (seq_member.Atomic b) = omega arith

members_ids : (ms : List SeqMember) → length ms ≤ ids_in_seq_members ms
unfolding ids_in_seq_members
members_ids [] = omega arith
members_ids (m ∷ ms) = let one = some_ids m in let rest = members_ids ms in omega (arith, one, rest)

count_ids : (c : Command) → member_count c ≤ ids_in c
unfolding ids_in
count_ids (command.Plain c) = omega arith
count_ids (command.Alert c) = omega arith
count_ids (command.Atomic b) = omega arith
count_ids (command.Sequence b) = let some = members_ids b.members in omega (arith, some)
count_ids (command.Status c) = omega arith
count_ids (command.Results c) = omega arith

many_long : (c : Command) → 1000 < member_count c → 1000 < bare_length c
many_long c h =
    let ids = count_ids c in
    let same = ids_changed without_value c in
    let bytes = many_bytes 0 1000000000 (cut_changed without_value c) in
    omega (arith, h, ids, same, bytes)

-- ---- the test

over : (n : ℕ) → 1000 < n → nat_le n 1000 ≡ false
over n h = grind (arith, nat_tests)

no_second : (a b : Bool) → b ≡ false → (a && b) ≡ false
no_second true b h = h
no_second false b h = refl

-- no members, or too many
pub stays_open : (c : Command) → member_count c ≡ 0 → false ≡ may_close c
stays_open c h = sym (ap (λ n. nat_lt 0 n && nat_le (bare_length c) 1000) h)

pub too_many : (c : Command) → 1000 < member_count c → false ≡ may_close c
too_many c h = sym (no_second (nat_lt 0 (member_count c)) _ (over (bare_length c) (many_long c h)))

some_members : (n : ℕ) → 0 < n → nat_lt 0 n ≡ true
some_members n h = grind (arith, nat_tests)

same_test : (n : ℕ) → nat_le (min n (2 ^ 64 - 1)) 1000 ≡ nat_le n 1000
same_test n = by_test (nat_le n 1000) refl
  where
    under : (n : ℕ) → nat_le n 1000 ≡ true → nat_le (min n (2 ^ 64 - 1)) 1000 ≡ true
    under n h = grind (arith, nat_tests)

    past : (n : ℕ) → nat_le n 1000 ≡ false → nat_le (min n (2 ^ 64 - 1)) 1000 ≡ false
    past n h = grind (arith, nat_tests)

    by_test : (b : Bool) → nat_le n 1000 ≡ b → nat_le (min n (2 ^ 64 - 1)) 1000 ≡ b
    by_test true h = under n h
    by_test false h = past n h

pub closes_by : (c : Command) (n : ℕ) → 0 < member_count c → n ≡ up_to_most (bare_length c)
    → nat_le n 1000 ≡ may_close c
closes_by c n some is =
    ap (λ n. nat_le n 1000) is ∙ same_test (bare_length c)
    ∙ sym (ap (λ b. b && nat_le (bare_length c) 1000) (some_members (member_count c) some))
