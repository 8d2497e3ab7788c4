-- What a step promises beside its outcome.
use Rattle.std.specs.Prelude.{◌≡◌, ◌≤◌, ◌&&◌, ℕ, Bool, true, false, length, Some, Result, Ok, Err}
use Rattle.std.specs.Option.{option_map_or}
use Rattle.std.specs.FinMap.{get}
use Rattle.dm_base.specs.Limits.{object_limit}
use Rattle.syncml_types.specs.declared.command.Step.{Step}
use Rattle.syncml_types.specs.declared.command.Verb.{Verb}
use Rattle.syncml_types.specs.declared.command.Verb.TheVariants as verb
use Rattle.syncml_types.specs.Verbs.{is_write}
use Rattle.dm_uri.specs.declared.uri.Prop.TheVariants as prop
use Rattle.dm_uri.specs.declared.uri.Query.{Query}
use Rattle.dm_uri.specs.declared.uri.Query.TheVariants as query
use Rattle.dm_uri.specs.declared.uri.Uri.{Uri}
use Rattle.dm_uri.specs.declared.uri.UriError.{UriError}
use Rattle.dm_uri.specs.Reading.{parse_of}
use Rattle.dm_tree.specs.Nodes.{Path, Ids, is_below}
use Rattle.dm_tree.specs.Rows.{Tree, nodes, ids}
use Rattle.dm_undo.specs.Journals.{Journal}
use Rattle.dm_undo.specs.Notes.{Notes}
use Rattle.dm_commands.specs.declared.outcome.Outcome.{Outcome}
use Rattle.dm_commands.specs.Outcomes.{Done, Does}

-- what goes into the tree has at most 4,194,304 bytes
abbrev pub IsShortStep : Step → Type 0
IsShortStep step = is_write step.verb ≡ true → length step.value ≤ object_limit

-- ---- the nodes that a step moves or takes away

abbrev pub is_name_query : Query → Bool
is_name_query (query.Prop prop.Name) = true
is_name_query other = false

-- a Delete, or a Replace of a name
abbrev pub moves : Verb → Query → Bool
moves verb.Delete q = true
moves verb.Replace q = is_name_query q
moves verb.Add q = false
moves verb.Copy q = false
moves verb.Exec q = false
moves verb.Get q = false

abbrev pub is_moved_at : Verb → Result Uri UriError → Path → Bool
is_moved_at v (Ok uri) p = moves v uri.query && is_below uri.path p
is_moved_at v (Err e) p = false

-- the path is at or below the target of a Delete or of a Replace of a name
abbrev pub is_moved : Step → Path → Bool
is_moved step p = option_map_or (λ text. is_moved_at step.verb (parse_of text) p) step.target false

-- every node but those at such paths keeps its number, under its path
abbrev pub KeepIdsBut : (Path → Bool) → Ids → Ids → Type 0
KeepIdsBut moved old new = (p : Path) (id : ℕ) → get old p ≡ Some id → moved p ≡ false → get new p ≡ Some id

abbrev pub KeepsIds : Step → Ids → Ids → Type 0
KeepsIds step old new = KeepIdsBut (is_moved step) old new

-- a step came to what the table says; its edits were noted, and the clock stays
pub record CarriesOut (done : Done) (moved : Path → Bool) (old : Journal) (before : Tree) (new : Journal) (now : Tree)
    (outcome : Outcome) : Type 0 where
  pub does : Does done outcome (nodes now.rows)
  pub ids : KeepIdsBut moved (ids before.rows) (ids now.rows)
  pub notes : Notes old before.rows new now.rows
  pub clock : now.clock ≡ before.clock

abbrev pub none_moved : Path → Bool
none_moved p = false

-- ---- after want of memory

-- tree and entries are as before; room that was made may stay
pub record StaysAsBefore (old : Journal) (before : Tree) (new : Journal) (now : Tree) : Type 0 where
  pub tree : now ≡ before
  pub entries : new.entries ≡ old.entries
  pub room : old.room ≤ new.room
