-- What a job is, as a grammar.
use Rattle.std.specs.Prelude.{◌≡◌, ◌≤◌, ◌==◌, ◌+◌, ℕ, Bool, true, false, not, IsTrue, List, [], ◌∷◌, ◌++◌, length, map}
use Rattle.std.specs.Prelude.{filter}
use Rattle.std.specs.Prelude.{codes, Some, None}
use Rattle.std.specs.List.{AllByRecursion, flat_map, list_all}
use Rattle.dm_base.specs.Fields.{parts}
use Rattle.dm_base.specs.Lines.{line_limit, line_feed}
use Rattle.syncml_types.specs.declared.command.Verb.{Verb}
use Rattle.syncml_types.specs.declared.command.Plain.{Plain}
use Rattle.syncml_types.specs.declared.command.Member.TheVariants as member
use Rattle.syncml_types.specs.declared.command.SeqMember.{SeqMember}
use Rattle.syncml_types.specs.declared.command.SeqMember.TheVariants as seq_member
use Rattle.syncml_types.specs.declared.command.Command.{Command}
use Rattle.syncml_types.specs.declared.command.Command.TheVariants as command
use Rattle.syncml_parts.specs.Numbering.{ids_in}
use Rattle.dm_fields.specs.Fields.{begins_with, account_in, limits_in}
use Rattle.dm_job.specs.declared.job.Job.{Job}
use Rattle.dm_job.specs.declared.job.JobEntry.{JobEntry}
use Rattle.dm_job.specs.Commands.{verb_in, plain_in, may_close}

-- ---- commands

-- a line, and the command that it says
pub record Said : Type 0 where
  pub line : List ℕ
  pub says : Plain

pub record IsSaid (s : Said) : Type 0 where
  pub verb : Verb
  pub named : verb_in s.line ≡ Some verb
  pub fields : plain_in verb (parts s.line) ≡ Some s.says

pub data Kind : Type 0 where
  atomic : Kind
  sequence : Kind

abbrev pub kind_word : Kind → List ℕ
kind_word atomic = codes "atomic"
kind_word sequence = codes "sequence"

abbrev pub single_member : Plain → SeqMember
single_member p = seq_member.Single (member.One p)

abbrev pub container_command : Kind → List Plain → Command
container_command atomic ps = command.Atomic (record { id = 0; no_resp = false; meta = None; members = map member.One ps })
container_command sequence ps = command.Sequence (record { id = 0; no_resp = false; meta = None; members = map single_member ps })

-- a command, or a container with its members
pub data Stanza : Type 0 where
  one : Said → Stanza
  block : Kind → List Said → Stanza

abbrev pub said_line : Said → List ℕ
said_line s = s.line

abbrev pub said_plain : Said → Plain
said_plain s = s.says

abbrev pub lines_of : Stanza → List (List ℕ)
lines_of (one s) = s.line ∷ []
lines_of (block k ss) = kind_word k ∷ map said_line ss ++ codes "close" ∷ []

abbrev pub command_of : Stanza → Command
command_of (one s) = command.Plain s.says
command_of (block k ss) = container_command k (map said_plain ss)

abbrev pub IsStanza : Stanza → Type 0
IsStanza (one s) = IsSaid s
IsStanza (block k ss) = AllByRecursion IsSaid ss × IsTrue (may_close (command_of (block k ss)))

abbrev pub AreStanzas : List Stanza → Type 0
AreStanzas ss = AllByRecursion IsStanza ss

-- ---- packages

-- a `package` line stands between two
abbrev pub package_lines : List (List Stanza) → List (List ℕ)
package_lines [] = []
package_lines (p ∷ []) = flat_map lines_of p
package_lines (p ∷ q ∷ rest) = flat_map lines_of p ++ codes "package" ∷ package_lines (q ∷ rest)

-- commands are numbered from one on, a container before its members
abbrev pub numbered_entries : ℕ → List Stanza → List JobEntry
numbered_entries n [] = []
numbered_entries n (s ∷ rest) = record { number = n; command = command_of s } ∷ numbered_entries (n + ids_in (command_of s)) rest

-- how many numbers they have
abbrev pub ids_of_stanzas : List Stanza → ℕ
ids_of_stanzas [] = 0
ids_of_stanzas (s ∷ rest) = ids_in (command_of s) + ids_of_stanzas rest

abbrev pub numbered_packages : ℕ → List (List Stanza) → List (List JobEntry)
numbered_packages n [] = []
numbered_packages n (p ∷ ps) = numbered_entries n p ∷ numbered_packages (n + ids_of_stanzas p) ps

abbrev pub has_some : {A : Type 0} → List A → Bool
has_some [] = false
has_some (x ∷ xs) = true

-- empty packages are passed over
abbrev pub packages_of : List (List Stanza) → List (List JobEntry)
packages_of ps = filter has_some (numbered_packages 1 ps)

-- ---- the whole

-- the lines of a job
pub record IsJob (lines : List (List ℕ)) (job : Job) : Type 0 where
  pub server : List ℕ
  pub limits : List ℕ
  pub packages : List (List Stanza)
  pub are : lines ≡ codes "dm-job 1" ∷ server ∷ limits ∷ package_lines packages ++ codes "end" ∷ []
  pub server_named : begins_with (codes "server") server ≡ true
  pub account : account_in (parts server) ≡ Some job.account
  pub limits_named : begins_with (codes "limits") limits ≡ true
  pub told : limits_in (parts limits) ≡ Some job.limits
  pub right : AllByRecursion AreStanzas packages
  pub made : job.packages ≡ packages_of packages

-- at most as many bytes as a line may have, and no line feed among them
pub record IsLine (line : List ℕ) : Type 0 where
  pub short : length line ≤ line_limit
  pub feedless : list_all (λ b. not (b == 10)) line ≡ true

abbrev pub with_feed : List ℕ → List ℕ
with_feed line = line ++ line_feed

-- the text of a job
pub record IsJobText (text : List ℕ) (job : Job) : Type 0 where
  pub lines : List (List ℕ)
  pub is : text ≡ flat_map with_feed lines
  pub right : AllByRecursion IsLine lines
  pub job_is : IsJob lines job
