-- What is made for the peer while commands are executed, and the entries that tell it.
use Rattle.std.specs.Prelude.{◌≡◌, ℕ, Bool, false, if◌then◌else◌, List, [], ◌∷◌, ◌++◌, map, Option, None, Some, is_ok}
use Rattle.syncml_types.specs.declared.values.Meta.{Meta}
use Rattle.syncml_types.specs.declared.values.Item.{Item}
use Rattle.syncml_types.specs.declared.command.Command.{Command}
use Rattle.syncml_types.specs.declared.command.Command.TheVariants as commands
use Rattle.syncml_types.specs.Message.{no_meta}
use Rattle.dm_uri.specs.Reading.{parse_of}
use Rattle.dm_commands.specs.declared.outcome.Found.{Found}
use Rattle.dm_atomic.specs.declared.tasks.Post.{Post}
use Rattle.dm_atomic.specs.declared.reports.Report.{Report}
use Rattle.dm_atomic.specs.Tasks.{named_text}

-- a Status with its code, a value that was found, or the notice that the object of this target was broken
pub data Made : Type 0 where
  Status : Post → ℕ → Made
  Result : Post → Found → Made
  Broken : List ℕ → Made

-- a task's Status, and then its Results
abbrev pub reported : Report → List Made
reported report = Status report.post report.code ∷ map (Result report.post) report.found

abbrev pub all_reported : List Report → List Made
all_reported [] = []
all_reported (r ∷ rs) = reported r ++ all_reported rs

abbrev pub notice : Option (List ℕ) → List Made
notice None = []
notice (Some target) = Broken target ∷ []

-- ---- the entries

abbrev pub found_meta : Found → Meta
found_meta found = record no_meta { format = Some found.format; media = found.media }

abbrev pub source_item : List ℕ → Option Meta → Option (List ℕ) → Item
source_item uri meta value = record {
  target = None;
  source = Some (record { uri = uri; name = None });
  meta = meta;
  value = value;
  more = false;
}

-- a text that is read as a URI
abbrev pub uri_in : Option (List ℕ) → List (List ℕ)
uri_in None = []
uri_in (Some text) = if is_ok (parse_of text) then text ∷ [] else []

-- what tells it; CmdIDs are set on sending
abbrev pub command_told : Made → Command
command_told (Status post code) = commands.Status (record {
  id = 0;
  msg_ref = post.msg;
  cmd_ref = post.command;
  cmd = named_text post.name;
  target_refs = uri_in post.target;
  source_refs = [];
  chal = None;
  code = code;
  items = [];
})
command_told (Result post found) = commands.Results (record {
  id = 0;
  msg_ref = Some post.msg;
  cmd_ref = post.command;
  meta = None;
  target_ref = None;
  source_ref = None;
  items = source_item found.uri (Some (found_meta found)) found.value ∷ [];
})
command_told (Broken target) = commands.Alert (record {
  id = 0;
  no_resp = false;
  code = 1225;
  correlator = None;
  items = map (λ uri. source_item uri None None) (uri_in (Some target));
})

abbrev pub is_suppressed : Made → Bool
is_suppressed (Status post code) = post.quiet
is_suppressed (Result post found) = false
is_suppressed (Broken target) = false

-- a Status that is suppressed is made, and not told
abbrev pub told : List Made → List Command
told [] = []
told (m ∷ ms) = if is_suppressed m then told ms else command_told m ∷ told ms

-- what stood before is in front
abbrev pub IsInFront : List Command → List Command → Type 0
IsInFront before after = (more : List Command) × (after ≡ before ++ more)
