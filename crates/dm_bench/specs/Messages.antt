-- The messages of the workload: each is one Atomic of four Replaces, of leaves and with values that the words give.
use Rattle.std.specs.Prelude.{◌==◌, ◌%◌, ℕ, true, false, if◌then◌else◌, List, [], ◌∷◌, codes, Some, None}
use Rattle.std.specs.Fmt.{decimal}
use Rattle.syncml_types.specs.declared.values.Loc.{Loc}
use Rattle.syncml_types.specs.declared.values.Item.{Item}
use Rattle.syncml_types.specs.declared.values.Header.{Header}
use Rattle.syncml_types.specs.declared.command.Verb.TheVariants.{Replace}
use Rattle.syncml_types.specs.declared.command.Member.{Member}
use Rattle.syncml_types.specs.declared.command.Member.TheVariants as member
use Rattle.syncml_types.specs.declared.command.Command.{Command}
use Rattle.syncml_types.specs.declared.command.Command.TheVariants as command
use Rattle.syncml_types.specs.Message.{Parts}
use Rattle.dm_bench.specs.Words.{word, state_after}
use Rattle.dm_bench.specs.Start.{leaf_uri}

abbrev pub loc : List ℕ → Loc
loc uri = record { uri = uri; name = None }

abbrev pub item : List ℕ → List ℕ → Item
item target value =
    record { target = Some (loc target); source = None; meta = None; value = Some value; more = false }

-- a Replace without Meta
abbrev pub plain_replace : ℕ → List ℕ → List ℕ → Member
plain_replace id target value = member.One (record {
  verb = Replace;
  id = id;
  no_resp = false;
  meta = None;
  correlator = None;
  items = item target value ∷ [];
})

-- a word gives the leaf, and the next one the value
abbrev pub leaf_write : ℕ → ℕ → ℕ → Member
leaf_write id nodes s = plain_replace id (leaf_uri (word s % nodes)) (decimal (word (state_after 1 s)))

-- in one of eight messages no node stands at the target of the last Replace
abbrev pub last_target : ℕ → ℕ → List ℕ
last_target nodes s = if word s % 8 == 0 then codes "./B/none" else leaf_uri (word (state_after 1 s) % nodes)

abbrev pub last_write : ℕ → ℕ → ℕ → Member
last_write id nodes s = plain_replace id (last_target nodes s) (decimal (word (state_after 2 s)))

abbrev pub members : ℕ → ℕ → List Member
members nodes s =
    leaf_write 2 nodes s
    ∷ leaf_write 3 nodes (state_after 2 s)
    ∷ leaf_write 4 nodes (state_after 4 s)
    ∷ last_write 5 nodes (state_after 6 s)
    ∷ []

abbrev pub header : ℕ → Header
header number = record {
  dtd = codes "1.2";
  proto = codes "DM/1.2";
  session = codes "1";
  msg = number;
  target = loc (codes "d");
  source = loc (codes "b");
  resp_uri = None;
  no_resp = false;
  cred = None;
  meta = None;
}

abbrev pub body : List Member → List Command
body members = command.Atomic (record { id = 1; no_resp = false; meta = None; members = members }) ∷ []

-- the message of this number, by nine words
unfoldable pub message_of : ℕ → ℕ → ℕ → Parts
message_of nodes number s = record { header = header number; body = body (members nodes s); last = true }
