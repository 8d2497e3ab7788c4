-- The CmdIDs of a message that is numbered are in a row, so no two of them are equal.
use Rattle.std.proofs.Common.{◌≡◌, ◌+◌, ◌&&◌, ℕ, zero, suc, Bool, true, false, List, [], ◌∷◌, ◌++◌, length, map, refl}
use Rattle.std.proofs.Common.{sym}
use Rattle.std.proofs.Common.{ap, ◌∙◌, arith, nat_lt}
use Rattle.syncml_types.specs.declared.command.Member.{Member}
use Rattle.syncml_types.specs.declared.command.Member.TheVariants as member
use Rattle.syncml_types.specs.declared.command.SeqMember.{SeqMember}
use Rattle.syncml_types.specs.declared.command.SeqMember.TheVariants as seq_member
use Rattle.syncml_types.specs.declared.command.Command.{Command}
use Rattle.syncml_types.specs.declared.command.Command.TheVariants as command
use Rattle.syncml_parts.specs.Numbering.{with_number, numbered_members, numbered_seq_members, ids_in_seq_members}
use Rattle.syncml_parts.specs.Numbering.{ids_in}
use Rattle.syncml_parts.specs.Numbering.{with_numbers}
use Rattle.dm_headers.specs.CmdIds.{member_id, seq_members_ids, command_ids, body_ids, has_twins}
use Rattle.dm_headers.specs.Headers.{next_header}
use Rattle.dm_headers.specs.Rising.{is_rising}
use Rattle.dm_headers.proofs.Rises.{rising_alone}
use Rattle.dm_pack.specs.Filling.{numbered}
use Rattle.dm_ends.specs.Laws.{MakesNoFault}

-- ---- numbers in a row

abbrev pub in_a_row : ℕ → ℕ → List ℕ
in_a_row n zero = []
in_a_row n (suc k) = n ∷ in_a_row (n + 1) k

row-both : (n a b : ℕ) → in_a_row n (a + b) ≡ in_a_row n a ++ in_a_row (n + a) b
row-both n zero b =
    let whole : 0 + b ≡ b = omega arith in
    let place : n ≡ n + 0 = omega arith in
    ap (in_a_row n) whole ∙ ap (λ k. in_a_row k b) place
row-both n (suc a) b =
    let more : suc a + b ≡ suc (a + b) = omega arith in
    let place : n + 1 + a ≡ n + suc a = omega arith in
    ap (in_a_row n) more ∙ ap (λ x. n ∷ x) (row-both (n + 1) a b)
    ∙ ap (λ k. n ∷ (in_a_row (n + 1) a ++ in_a_row k b)) place

next-above : (n : ℕ) → nat_lt n (n + 1) ≡ true
next-above n = grind arith

row-rises : (n k : ℕ) → is_rising (in_a_row n k) ≡ true
row-rises n zero = refl
row-rises n (suc zero) = refl
row-rises n (suc (suc k)) =
    ap (λ b. b && is_rising (in_a_row (n + 1) (suc k))) (next-above n) ∙ row-rises (n + 1) (suc k)

-- ---- CmdIDs

number-is : (n : ℕ) (m : Member) → member_id (with_number n m) ≡ n
number-is n (member.One c) = refl
number-is n (member.Alert a) = refl

members-row : (n : ℕ) (ms : List Member) → map member_id (numbered_members n ms) ≡ in_a_row n (length ms)
unfolding numbered_members
members-row n [] = refl
members-row n (m ∷ ms) =
    ap (λ x. x ∷ map member_id (numbered_members (n + 1) ms)) (number-is n m)
    ∙ ap (λ x. n ∷ x) (members-row (n + 1) ms)

-- a container with its members
block-row : (n k : ℕ) → n ∷ in_a_row (n + 1) k ≡ in_a_row n (1 + k)
block-row n k = let more : 1 + k ≡ suc k = omega arith in ap (in_a_row n) (sym more)

sequence-row : (n : ℕ) (ms : List SeqMember)
    → seq_members_ids (numbered_seq_members n ms) ≡ in_a_row n (ids_in_seq_members ms)
unfolding numbered_seq_members ids_in_seq_members
sequence-row n [] = refl
sequence-row n (seq_member.Single m ∷ ms) =
    ap (λ x. x ∷ seq_members_ids (numbered_seq_members (n + 1) ms)) (number-is n m)
    ∙ ap (λ x. n ∷ x) (sequence-row (n + 1) ms) ∙ block-row n (ids_in_seq_members ms)
sequence-row n (seq_member.Atomic b ∷ ms) =
    let k = length b.members in
    ap (λ x. (n ∷ x) ++ seq_members_ids (numbered_seq_members (n + (1 + k)) ms)) (members-row (n + 1) b.members)
    ∙ ap (λ x. x ++ seq_members_ids (numbered_seq_members (n + (1 + k)) ms)) (block-row n k)
    ∙ ap (λ x. in_a_row n (1 + k) ++ x) (sequence-row (n + (1 + k)) ms)
    ∙ sym (row-both n (1 + k) (ids_in_seq_members ms))

command-row : (n : ℕ) (c : Command) → command_ids (with_numbers n c) ≡ in_a_row n (ids_in c)
unfolding with_numbers ids_in
command-row n (command.Plain c) = refl
command-row n (command.Alert c) = refl
command-row n (command.Atomic b) =
    ap (λ x. n ∷ x) (members-row (n + 1) b.members) ∙ block-row n (length b.members)
command-row n (command.Sequence b) =
    ap (λ x. n ∷ x) (sequence-row (n + 1) b.members) ∙ block-row n (ids_in_seq_members b.members)
command-row n (command.Status c) = refl
command-row n (command.Results c) = refl

abbrev total : List Command → ℕ
total [] = 0
total (c ∷ cs) = ids_in c + total cs

body-row : (n : ℕ) (cs : List Command) → body_ids (numbered n cs) ≡ in_a_row n (total cs)
body-row n [] = refl
body-row n (c ∷ cs) =
    ap (λ x. x ++ body_ids (numbered (n + ids_in c) cs)) (command-row n c)
    ∙ ap (λ x. in_a_row n (ids_in c) ++ x) (body-row (n + ids_in c) cs)
    ∙ sym (row-both n (ids_in c) (total cs))

pub distinct : (cs : List Command) → has_twins (body_ids (numbered 1 cs)) ≡ false
distinct cs = ap has_twins (body-row 1 cs) ∙ rising_alone (in_a_row 1 (total cs)) (row-rises 1 (total cs))

pub makes_no_fault : MakesNoFault
unfolding next_header
makes_no_fault login s limits session target source cs last = rw (distinct cs) refl
