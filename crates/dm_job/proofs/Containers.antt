-- A container of commands that can be sent can be sent where it may end.
use Rattle.std.proofs.Common.{◌≡◌, ◌==◌, ℕ, Bool, true, false, not, List, [], ◌∷◌, ◌++◌, length, map}
use Rattle.std.proofs.Common.{◌+◌, refl, sym, ap, ◌∙◌, arith, length-append, nat_le, nat_lt, None}
use Rattle.std.specs.List.{list_all, AllByRecursion}
use Rattle.std.proofs.lemmas.Bool.{and_from, and_parts, leb-true, ltb-true, ne_eqb}
use Rattle.syncml_types.specs.declared.command.Plain.{Plain}
use Rattle.syncml_types.specs.declared.command.Member.{Member}
use Rattle.syncml_types.specs.declared.command.Member.TheVariants as member
use Rattle.syncml_types.specs.declared.command.SeqMember.{SeqMember}
use Rattle.syncml_types.specs.declared.command.Command.{Command}
use Rattle.syncml_types.specs.declared.command.Command.TheVariants as command
use Rattle.syncml_types.specs.Canonical.{is_text}
use Rattle.syncml_types.specs.Fitness.{is_in_limit, member_texts, seq_member_texts, atomic_texts, sequence_texts}
use Rattle.syncml_types.specs.Fitness.{command_texts}
use Rattle.syncml_types.specs.Fitness.{member_data, seq_member_data, command_data, command_numbers, atomic_numbers}
use Rattle.syncml_types.specs.Fitness.{member_filled, seq_member_filled, atomic_filled, command_filled}
use Rattle.syncml_types.specs.Fitness.{member_correlates, seq_member_correlates, command_correlates}
use Rattle.syncml_parts.specs.Numbering.{ids_in, with_numbers}
use Rattle.dm_pack.specs.Entries.{IsReady, IsFitCommand, whole_entry, bare_length}
use Rattle.dm_pack.proofs.Fit.{are_numbered, are_seq_numbered}
use Rattle.dm_job.specs.Commands.{with_member, member_count, may_close}
use Rattle.dm_job.specs.Grammar.{Kind, atomic, sequence, single_member, container_command}
use Rattle.dm_job.specs.Sound.{IsStepMember, IsStepSeqMember, IsJobCommand}
use Rattle.dm_job.proofs.Going.{one_more_id}
use Rattle.dm_job.proofs.Goods.{IsGood}

-- ---- members

all_members : (test : Member → Bool) → ((p : Plain) → IsGood p → test (member.One p) ≡ true) → (ps : List Plain)
    → AllByRecursion IsGood ps → list_all test (map member.One ps) ≡ true
all_members test one [] h = refl
all_members test one (p ∷ ps) h = and_from _ _ (one p h.0) (all_members test one ps h.1)

all_singles : (test : SeqMember → Bool) → ((p : Plain) → IsGood p → test (single_member p) ≡ true) → (ps : List Plain)
    → AllByRecursion IsGood ps → list_all test (map single_member ps) ≡ true
all_singles test one [] h = refl
all_singles test one (p ∷ ps) h = and_from _ _ (one p h.0) (all_singles test one ps h.1)

member_steps : (ps : List Plain) → AllByRecursion IsGood ps → AllByRecursion IsStepMember (map member.One ps)
member_steps [] h = tt
member_steps (p ∷ ps) h = (h.0.step, member_steps ps h.1)

single_steps : (ps : List Plain) → AllByRecursion IsGood ps → AllByRecursion IsStepSeqMember (map single_member ps)
single_steps [] h = tt
single_steps (p ∷ ps) h = (h.0.step, single_steps ps h.1)

pub container_steps : (k : Kind) (ps : List Plain) → AllByRecursion IsGood ps → IsJobCommand (container_command k ps)
container_steps atomic ps h = (refl, member_steps ps h)
container_steps sequence ps h = (refl, single_steps ps h)

filled : (n : ℕ) → nat_lt 0 n ≡ true → not (n == 0) ≡ true
filled n h = let some = ltb-true 0 n h in ap not (ne_eqb n 0 (λ e. omega (arith, e, some)))

-- ---- the whole

container_fit : (k : Kind) (ps : List Plain) → AllByRecursion IsGood ps
    → nat_lt 0 (member_count (container_command k ps)) ≡ true
    → IsFitCommand (container_command k ps)
unfolding member_texts seq_member_texts atomic_texts sequence_texts command_texts member_data seq_member_data
    command_data
    command_numbers atomic_numbers member_filled seq_member_filled atomic_filled command_filled
    member_correlates seq_member_correlates command_correlates with_numbers
container_fit atomic ps h some =
    record {
      texts = all_members (member_texts is_text) (λ p good. good.texts) ps h;
      numbers = are_numbered 2 (map member.One ps) (omega arith);
      filled =
          and_from _ _ (filled (length (map member.One ps)) some)
          (all_members member_filled (λ p good. good.filled) ps h);
      correlators = all_members member_correlates (λ p good. good.correlates) ps h;
      short_texts = all_members (member_texts is_in_limit) (λ p good. good.short_texts) ps h;
      short_data = all_members (member_data is_in_limit) (λ p good. good.short_data) ps h;
    }
container_fit sequence ps h some =
    record {
      texts = all_singles (seq_member_texts is_text) (λ p good. good.texts) ps h;
      numbers = are_seq_numbered 2 (map single_member ps) (omega arith);
      filled =
          and_from _ _ (filled (length (map single_member ps)) some)
          (all_singles seq_member_filled (λ p good. good.filled) ps h);
      correlators = all_singles seq_member_correlates (λ p good. good.correlates) ps h;
      short_texts = all_singles (seq_member_texts is_in_limit) (λ p good. good.short_texts) ps h;
      short_data = all_singles (seq_member_data is_in_limit) (λ p good. good.short_data) ps h;
    }

pub container_ready : (k : Kind) (ps : List Plain) → AllByRecursion IsGood ps → may_close (container_command k ps) ≡ true
    → IsReady (whole_entry (container_command k ps))
container_ready k ps h may = by_kind k (and_parts (nat_lt 0 (member_count (container_command k ps))) _ may)
  where
    by_kind : (k : Kind) → (nat_lt 0 (member_count (container_command k ps)) ≡ true)
        × (nat_le (bare_length (container_command k ps)) 1000 ≡ true)
        → IsReady (whole_entry (container_command k ps))
    by_kind atomic both = record { fit = container_fit atomic ps h both.0; short = leb-true _ 1000 both.1 }
    by_kind sequence both = record { fit = container_fit sequence ps h both.0; short = leb-true _ 1000 both.1 }

-- ---- a container grows

-- of commands that can be sent
pub record IsGrown (c : Command) : Type 0 where
  pub kind : Kind
  pub plains : List Plain
  pub is : c ≡ container_command kind plains
  pub good : AllByRecursion IsGood plains

pub map_more : {A B : Type 0} (f : A → B) (xs : List A) (x : A) → map f (xs ++ x ∷ []) ≡ map f xs ++ f x ∷ []
map_more f [] x = refl
map_more f (y ∷ ys) x = ap (λ l. f y ∷ l) (map_more f ys x)

pub one_member : (k : Kind) (ps : List Plain) (p : Plain) → with_member (container_command k ps) p ≡ container_command k (ps ++ p ∷ [])
one_member atomic ps p =
    ap (λ ms. command.Atomic (record { id = 0; no_resp = false; meta = None; members = ms }))
    (sym (map_more member.One ps p))
one_member sequence ps p =
    ap (λ ms. command.Sequence (record { id = 0; no_resp = false; meta = None; members = ms }))
    (sym (map_more single_member ps p))

pub all_more : {A : Type 0} (P : A → Type 0) (xs : List A) (x : A) → AllByRecursion P xs → P x
    → AllByRecursion P (xs ++ x ∷ [])
all_more P [] x h k = (k, tt)
all_more P (y ∷ ys) x h k = (h.0, all_more P ys x h.1 k)

pub grown_more : (c : Command) (p : Plain) → IsGrown c → IsGood p → IsGrown (with_member c p)
grown_more c p g good = record {
  kind = g.kind;
  plains = g.plains ++ p ∷ [];
  is = ap (λ d. with_member d p) g.is ∙ one_member g.kind g.plains p;
  good = all_more IsGood g.plains p g.good good;
}

pub longer_ids : (k : Kind) (ps : List Plain) (p : Plain)
    → ids_in (with_member (container_command k ps) p) ≡ ids_in (container_command k ps) + 1
unfolding ids_in
longer_ids atomic ps p =
    let long = length-append (map member.One ps) (member.One p ∷ []) in
    omega (arith, long)
longer_ids sequence ps p = let more = one_more_id (map single_member ps) p in omega (arith, more)
