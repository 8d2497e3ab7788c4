-- What holds of a job that was read.
use Rattle.std.specs.Prelude.{◌≡◌, ◌<◌, ◌+◌, ⊤, ℕ, false, IsTrue, List, [], ◌∷◌, length}
use Rattle.std.specs.List.{AllByRecursion, flat_map}
use Rattle.syncml_types.specs.declared.values.Item.{Item}
use Rattle.syncml_types.specs.declared.command.Plain.{Plain}
use Rattle.syncml_types.specs.declared.command.Member.{Member}
use Rattle.syncml_types.specs.declared.command.Member.TheVariants as member
use Rattle.syncml_types.specs.declared.command.SeqMember.{SeqMember}
use Rattle.syncml_types.specs.declared.command.SeqMember.TheVariants as seq_member
use Rattle.syncml_types.specs.declared.command.Command.{Command}
use Rattle.syncml_types.specs.declared.command.Command.TheVariants as command
use Rattle.syncml_parts.specs.Numbering.{ids_in}
use Rattle.dm_pack.specs.Entries.{IsReady, whole_entry}
use Rattle.dm_fields.specs.Fields.{are_limits}
use Rattle.dm_fields.specs.Fields.{IsAccount}
use Rattle.dm_job.specs.declared.job.Job.{Job}
use Rattle.dm_job.specs.declared.job.JobEntry.{JobEntry}

-- one whole item, and a Status is wanted
pub record IsStep (p : Plain) : Type 0 where
  pub item : Item
  pub only : p.items ≡ item ∷ []
  pub whole : item.more ≡ false
  pub answered : p.no_resp ≡ false

abbrev pub IsStepMember : Member → Type 0
IsStepMember (member.One p) = IsStep p
IsStepMember (member.Alert a) = ⊥

abbrev pub IsStepSeqMember : SeqMember → Type 0
IsStepSeqMember (seq_member.Single m) = IsStepMember m
IsStepSeqMember (seq_member.Atomic b) = ⊥

-- a command, or a container of commands for which a Status is wanted too
abbrev pub IsJobCommand : Command → Type 0
IsJobCommand (command.Plain p) = IsStep p
IsJobCommand (command.Atomic b) = (b.no_resp ≡ false) × AllByRecursion IsStepMember b.members
IsJobCommand (command.Sequence b) = (b.no_resp ≡ false) × AllByRecursion IsStepSeqMember b.members
IsJobCommand other = ⊥

-- it can be sent
pub record CanBeSent (e : JobEntry) : Type 0 where
  pub steps : IsJobCommand e.command
  pub ready : IsReady (whole_entry e.command)

abbrev pub the_same : {A : Type 0} → A → A
the_same x = x

-- those of all packages, in order
abbrev pub all_entries : List (List JobEntry) → List JobEntry
all_entries packages = flat_map the_same packages

-- numbered from one on, a container before its members
abbrev pub AreNumbered : ℕ → List JobEntry → Type 0
AreNumbered n [] = ⊤
AreNumbered n (e ∷ es) = (e.number ≡ n) × AreNumbered (n + ids_in e.command) es

pub record IsSoundJob (job : Job) : Type 0 where
  pub account : IsAccount job.account
  pub limits : IsTrue (are_limits job.limits.max_msg job.limits.max_obj)
  pub filled : AllByRecursion (λ (es : List JobEntry). 0 < length es) job.packages
  pub entries : AllByRecursion CanBeSent (all_entries job.packages)
  pub numbered : AreNumbered 1 (all_entries job.packages)
