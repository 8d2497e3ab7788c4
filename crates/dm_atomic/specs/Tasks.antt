-- The tasks of a command, in document order, and what the Status of each answers.
use Rattle.std.specs.Prelude.{◌||◌, ℕ, suc, Bool, if◌then◌else◌, nat_lt, List, [], ◌∷◌, ◌++◌, length, codes, Option}
use Rattle.std.specs.Prelude.{None, unwrap_or, option_map, option_and_then}
use Rattle.std.specs.Option.{option_or}
use Rattle.syncml_types.specs.declared.values.Loc.{Loc}
use Rattle.syncml_types.specs.declared.values.Meta.{Meta}
use Rattle.syncml_types.specs.declared.values.Item.{Item}
use Rattle.syncml_types.specs.declared.command.Verb.{Verb}
use Rattle.syncml_types.specs.declared.command.Verb.TheVariants as verb
use Rattle.syncml_types.specs.declared.command.Plain.{Plain}
use Rattle.syncml_types.specs.declared.command.AlertCmd.{AlertCmd}
use Rattle.syncml_types.specs.declared.command.Member.{Member}
use Rattle.syncml_types.specs.declared.command.Member.TheVariants as member
use Rattle.dm_objects.specs.declared.piece.Piece.{Piece}
use Rattle.dm_atomic.specs.declared.tasks.Origin.{Origin}
use Rattle.dm_atomic.specs.declared.tasks.Named.{Named}
use Rattle.dm_atomic.specs.declared.tasks.Named.TheVariants as named
use Rattle.dm_atomic.specs.declared.tasks.Post.{Post}
use Rattle.dm_atomic.specs.declared.tasks.Work.TheVariants as work
use Rattle.dm_atomic.specs.declared.tasks.Task.{Task}

abbrev pub verb_text : Verb → List ℕ
verb_text verb.Add = codes "Add"
verb_text verb.Copy = codes "Copy"
verb_text verb.Delete = codes "Delete"
verb_text verb.Exec = codes "Exec"
verb_text verb.Get = codes "Get"
verb_text verb.Replace = codes "Replace"

abbrev pub named_text : Named → List ℕ
named_text (named.Verb v) = verb_text v
named_text named.Alert = codes "Alert"
named_text named.Atomic = codes "Atomic"
named_text named.Sequence = codes "Sequence"

-- a child of the first Meta, or else of the second
abbrev pub child_of_either : {X : Type 0} → (Meta → Option X) → Option Meta → Option Meta → Option X
child_of_either child own other = option_or (option_and_then child own) (option_and_then child other)

-- a child of the item's Meta, or else of the command's
abbrev pub meta_child : {X : Type 0} → (Meta → Option X) → Item → Plain → Option X
meta_child child item command = child_of_either child item.meta command.meta

abbrev pub target_text : Item → Option (List ℕ)
target_text item = option_map (λ (l : Loc). l.uri) item.target

-- an item without Data gives the empty value
abbrev pub piece_of : Bool → Plain → Item → Piece
piece_of in_atomic command item = record {
  step = record {
    verb = command.verb;
    target = target_text item;
    format = meta_child (λ m. m.format) item command;
    media = meta_child (λ m. m.media) item command;
    value = unwrap_or item.value [];
    correlator = command.correlator;
    in_atomic = in_atomic;
  };
  size = meta_child (λ m. m.size) item command;
  more = item.more;
}

-- NoResp of the command suppresses its own Statuses, and that of the header all
abbrev pub item_post : Origin → Plain → ℕ → Item → Post
item_post origin command place item = record {
  msg = origin.msg;
  command = command.id;
  place = place;
  name = named.Verb command.verb;
  target = if nat_lt 1 (length command.items) then target_text item else None;
  quiet = origin.quiet || command.no_resp;
}

abbrev pub item_task : Origin → Bool → Plain → ℕ → Item → Task
item_task origin in_atomic command place item =
    record { post = item_post origin command place item; work = work.Piece (piece_of in_atomic command item) }

abbrev pub item_tasks : Origin → Bool → Plain → ℕ → List Item → List Task
item_tasks origin in_atomic command place [] = []
item_tasks origin in_atomic command place (item ∷ items) =
    item_task origin in_atomic command place item ∷ item_tasks origin in_atomic command (suc place) items

-- a task for each item
abbrev pub plain_tasks : Origin → Bool → Plain → List Task
plain_tasks origin in_atomic command = item_tasks origin in_atomic command 0 command.items

-- an Alert is one task, whatever its items
abbrev pub alert_task : Origin → AlertCmd → Task
alert_task origin alert = record {
  post = record {
    msg = origin.msg;
    command = alert.id;
    place = 0;
    name = named.Alert;
    target = None;
    quiet = origin.quiet || alert.no_resp;
  };
  work = work.Alert alert.code;
}

abbrev pub member_tasks : Origin → Bool → Member → List Task
member_tasks origin in_atomic (member.One command) = plain_tasks origin in_atomic command
member_tasks origin in_atomic (member.Alert alert) = alert_task origin alert ∷ []

abbrev pub members_tasks : Origin → Bool → List Member → List Task
members_tasks origin in_atomic [] = []
members_tasks origin in_atomic (m ∷ ms) = member_tasks origin in_atomic m ++ members_tasks origin in_atomic ms

abbrev pub container_post : Origin → ℕ → Bool → Named → Post
container_post origin id no_resp name =
    record { msg = origin.msg; command = id; place = 0; name = name; target = None; quiet = origin.quiet || no_resp }
