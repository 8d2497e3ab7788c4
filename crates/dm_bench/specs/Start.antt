-- What the client begins with: the start section of a trace with a tree of so many leaves in groups of 256.
use Rattle.std.specs.Prelude.{◌≡◌, ◌==◌, ◌<◌, ◌≤◌, ◌/◌, ◌%◌, ℕ, zero, suc, if◌then◌else◌, List, [], ◌∷◌, ◌++◌, codes}
use Rattle.std.specs.Prelude.{length, Result, Ok, Err}
use Rattle.std.specs.Fmt.{decimal}
use Rattle.std.specs.FinMap.{empty}
use Rattle.dm_base.specs.Fields.{hex_text}
use Rattle.dm_base.specs.declared.lines.LineReason.{LineReason}
use Rattle.dm_tree.specs.Nodes.{first_stamp}
use Rattle.dm_machine.specs.declared.kinds.Initiator.TheVariants.{ByClient}
use Rattle.dm_machine.specs.Machine.{Machine}
use Rattle.dm_machine.specs.Events.{opened}
use Rattle.dm_machine.specs.History.{next}
use Rattle.dm_start.specs.declared.telling.Phase.TheVariants as phase
use Rattle.dm_start.specs.declared.telling.Start.{Start}
use Rattle.dm_start.specs.Start.{Setup, Section, opening, telling, after_line, section_of_lines}
use Rattle.dm_replay.specs.From.{CanBegin}
use Rattle.dm_replay.specs.Output.{client_of}

-- ---- the names

abbrev pub group_uri : ℕ → List ℕ
group_uri group = codes "./B/g" ++ decimal group

abbrev pub leaf_uri : ℕ → List ℕ
leaf_uri leaf = group_uri (leaf / 256) ++ codes "/n" ++ decimal leaf

-- ---- the lines

-- the device, its limits, one account without passwords and users, full rights at the root, and the node above all
-- groups
abbrev pub head_lines : List (List ℕ)
head_lines =
    codes "dm-trace 1"
    ∷ codes "device d m o 1.2 en"
    ∷ codes "limits 65536 4194304"
    ∷ codes "account b - - - - -"
    ∷ codes "acl . Add=*&Delete=*&Exec=*&Get=*&Replace=*"
    ∷ codes "interior ./B"
    ∷ []

-- a leaf holds its number
abbrev pub workload_leaf : ℕ → List ℕ
workload_leaf leaf = codes "leaf " ++ leaf_uri leaf ++ codes " chr text/plain " ++ hex_text (decimal leaf)

-- the group stands in front of its first leaf
abbrev pub group_lines : ℕ → List (List ℕ)
group_lines leaf = if leaf % 256 == 0 then (codes "interior " ++ group_uri (leaf / 256)) ∷ [] else []

abbrev pub lines_at : ℕ → List (List ℕ)
lines_at leaf = group_lines leaf ++ workload_leaf leaf ∷ []

-- those of all leaves below this number
abbrev pub leaf_lines : ℕ → List (List ℕ)
leaf_lines zero = []
leaf_lines (suc leaf) = leaf_lines leaf ++ lines_at leaf

abbrev pub start_lines : ℕ → List (List ℕ)
start_lines nodes = head_lines ++ leaf_lines nodes ++ codes "begin" ∷ []

-- ---- what they tell

-- nothing
abbrev pub empty_setup : Setup
empty_setup = record {
  version = 1;
  limits = record { max_msg = 65536; max_obj = 4194304 };
  accounts = [];
  nodes = empty;
  clock = first_stamp;
}

-- what a whole section told; of lines that are none, nothing
abbrev pub setup_told : Result Section (ℕ × LineReason) → Setup
setup_told (Ok (telling p told)) = told
setup_told (Ok (opening h)) = empty_setup
setup_told (Err why) = empty_setup

-- what the lines of a tree with so many leaves tell
unfoldable pub start_of : ℕ → Setup
start_of nodes = setup_told (section_of_lines (start_lines nodes))

-- the client with the account's session 1, which the client asks for
unfoldable pub begun_machine : ℕ → Machine
begun_machine nodes = next (client_of (start_of nodes)) (opened 0 ByClient 1)

-- ---- how the lines are taken

-- these lines lead from one place of the section to another
abbrev pub Leads : Section → List (List ℕ) → Section → Type 0
Leads s [] t = t ≡ s
Leads s (line ∷ lines) t = (next : Section) × (after_line s line ≡ Ok next) × Leads next lines t

-- the last line leads from here to its end
abbrev pub EndsSection : Section → Setup → Type 0
EndsSection s told = after_line s (codes "begin") ≡ Ok (telling phase.Begun told)

-- a client can be made of the start, with an account
pub record MayBegin (start : Start) : Type 0 where
  pub client : CanBegin start
  pub some : 0 < length start.accounts

-- no line of a workload's start section is refused, so that all of it is told
abbrev pub WorkloadIsTold : Type 0
WorkloadIsTold =
    (nodes : ℕ) → nodes ≤ 60000 → section_of_lines (start_lines nodes) ≡ Ok (telling phase.Begun (start_of nodes))
