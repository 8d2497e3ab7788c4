-- The step table: for each verb the refusals in order, each with its code, and the effect where none of them holds.
use Rattle.std.specs.Prelude.{◌==◌, ◌&&◌, ◌||◌, ℕ, Bool, true, false, not, if◌then◌else◌, nat_lt, List, [], ◌∷◌, ◌++◌}
use Rattle.std.specs.Prelude.{length, codes, bytes_eq, is_some, is_ok, unwrap_or, Option, Some, None, Result, Ok, Err}
use Rattle.std.specs.Option.{option_map_or}
use Rattle.std.specs.FinMap.{get, insert, len}
use Rattle.dm_base.specs.Limits.{node_limit}
use Rattle.syncml_types.specs.Canonical.{is_text}
use Rattle.syncml_types.specs.declared.command.Step.{Step}
use Rattle.syncml_types.specs.declared.command.Verb.{Verb}
use Rattle.syncml_types.specs.declared.command.Verb.TheVariants as verb
use Rattle.syncml_types.specs.Verbs.{is_exec}
use Rattle.dm_uri.specs.declared.uri.Prop.{Prop}
use Rattle.dm_uri.specs.declared.uri.Prop.TheVariants as prop
use Rattle.dm_uri.specs.declared.uri.Query.{Query}
use Rattle.dm_uri.specs.declared.uri.Query.TheVariants as query
use Rattle.dm_uri.specs.declared.uri.Uri.{Uri}
use Rattle.dm_uri.specs.declared.uri.UriError.{UriError}
use Rattle.dm_uri.specs.declared.uri.UriError.TheVariants as uri_error
use Rattle.dm_uri.specs.Names.{has_name_form, is_short_name}
use Rattle.dm_uri.specs.Reading.{parse_of}
use Rattle.dm_acl.specs.declared.values.Entries.{Entries}
use Rattle.dm_acl.specs.declared.values.AclError.{AclError}
use Rattle.dm_acl.specs.declared.values.Right.TheVariants as right
use Rattle.dm_acl.specs.Reading.{parse_of as read_acl}
use Rattle.dm_fumo.specs.States.{progressing, may_exec}
use Rattle.dm_tree.specs.declared.nodes.Node.{Node}
use Rattle.dm_tree.specs.declared.nodes.Role.TheVariants as role
use Rattle.dm_tree.specs.declared.nodes.Stamp.{Stamp}
use Rattle.dm_tree.specs.declared.nodes.Value.{Value}
use Rattle.dm_tree.specs.Nodes.{Path, Nodes, is_format, is_node_format, changed, with_value, with_acl, with_title}
use Rattle.dm_tree.specs.Nodes.{above, last_name}
use Rattle.dm_tree.specs.Rights.{allows}
use Rattle.dm_tree.specs.Edits.{pruned, renamed, paths_fit}
use Rattle.dm_tree.specs.Devices.{is_role}
use Rattle.dm_commands.specs.Outcomes.{Setting, Done, refused, changed_to, done_finding, first_refusal, refused_or}
use Rattle.dm_commands.specs.Outcomes.{no_node}
use Rattle.dm_commands.specs.Outcomes.{node_at}
use Rattle.dm_commands.specs.Updates.{state_in_tree, state_after_write, with_state}
use Rattle.dm_commands.specs.Finding.{found_by}

abbrev pub has_query : Query → Bool
has_query query.Plain = false
has_query (query.Prop p) = true
has_query query.Struct = true
has_query query.StructData = true

abbrev pub is_root_path : Path → Bool
is_root_path p = length p == 0

-- a Format that isn't one of the eight, or a Type of more than 255 bytes
abbrev pub has_bad_meta : List ℕ → List ℕ → Bool
has_bad_meta format media = not (is_format format) || nat_lt 255 (length media)

-- ---- Exec

-- the update node, with a package and no update running
abbrev pub exec_refusals : Setting → Nodes → Step → Uri → List (Bool × ℕ)
exec_refusals s m step uri =
    (has_query uri.query, 405)
    ∷ (no_node m uri.path, 404)
    ∷ (not (allows m uri.path s.caller right.Exec), 425)
    ∷ (not (is_role (node_at m uri.path).role role.UpdateNode), 406)
    ∷ (not (may_exec (state_in_tree m)), 405)
    ∷ (option_map_or (λ text. nat_lt 255 (length text)) step.correlator false, 400)
    ∷ []

-- the update is started
abbrev pub started : Setting → Nodes → Done
started s m = record { tree = with_state s m m progressing; code = 202; found = []; started = true }

abbrev pub exec : Setting → Nodes → Step → Uri → Done
exec s m step uri = refused_or (exec_refusals s m step uri) m (started s m)

-- ---- Get

abbrev pub asks_size : Query → Bool
asks_size (query.Prop prop.Size) = true
asks_size other = false

abbrev pub get_refusals : Setting → Nodes → Uri → List (Bool × ℕ)
get_refusals s m uri =
    (no_node m uri.path, 404)
    ∷ (not (allows m uri.path s.caller right.Get), 425)
    ∷ (asks_size uri.query && (node_at m uri.path).interior, 406)
    ∷ []

abbrev pub get_ : Setting → Nodes → Uri → Done
get_ s m uri = refused_or (get_refusals s m uri) m (done_finding m (found_by s m uri uri.query))

-- ---- Add

abbrev pub added_format : Step → List ℕ
added_format step = unwrap_or step.format (codes "chr")

-- an interior node has the empty Type, where none is given
abbrev pub added_media : Step → List ℕ
added_media step = unwrap_or step.media (if is_node_format (added_format step) then [] else codes "text/plain")

-- a new node has no access list, no title and VerNo 0
abbrev pub added_node : Stamp → Step → Node
added_node clock step = record {
  interior = is_node_format (added_format step);
  value = record { format = added_format step; media = added_media step; bytes = step.value };
  acl = None;
  title = [];
  verno = 0;
  stamp = clock;
  permanent = false;
  role = role.Plain;
}

-- what is refused of a new node, wherever it comes
abbrev pub node_refusals : Nodes → Step → List (Bool × ℕ)
node_refusals m step =
    (has_bad_meta (added_format step) (added_media step), 415)
    ∷ (is_node_format (added_format step) && not (length step.value == 0), 400)
    ∷ (len m == node_limit, 500)
    ∷ []

abbrev pub add_refusals : Setting → Nodes → Step → Uri → List (Bool × ℕ)
add_refusals s m step uri =
    (has_query uri.query, 405)
    ∷ (is_root_path uri.path, 418)
    ∷ (no_node m (above uri.path), 404)
    ∷ (not (node_at m (above uri.path)).interior, 405)
    ∷ (not (allows m (above uri.path) s.caller right.Add), 425)
    ∷ (is_some (get m uri.path), 418)
    ∷ node_refusals m step

abbrev pub add : Setting → Nodes → Step → Uri → Done
add s m step uri = refused_or (add_refusals s m step uri) m (changed_to (insert m uri.path (added_node s.clock step)))

-- ---- Replace of a value

-- a Format or a Type that isn't given is kept
abbrev pub kept_format : Node → Step → List ℕ
kept_format node step = unwrap_or step.format node.value.format

abbrev pub kept_media : Node → Step → List ℕ
kept_media node step = unwrap_or step.media node.value.media

abbrev pub replaced_value : Node → Step → Value
replaced_value node step = record { format = kept_format node step; media = kept_media node step; bytes = step.value }

-- what only the device writes: its information, and State; and the package while it is installed
abbrev pub is_kept_from : Nodes → Node → Bool
is_kept_from m node =
    (is_role node.role role.ReadOnly || is_role node.role role.State)
    || (is_role node.role role.PkgData && (state_in_tree m == progressing))

abbrev pub value_refusals : Setting → Nodes → Step → Uri → List (Bool × ℕ)
value_refusals s m step uri =
    (no_node m uri.path, 404)
    ∷ (not (allows m uri.path s.caller right.Replace), 425)
    ∷ ((node_at m uri.path).interior, 405)
    ∷ (option_map_or is_node_format step.format false, 405)
    ∷ (is_kept_from m (node_at m uri.path), 405)
    ∷ (has_bad_meta (kept_format (node_at m uri.path) step) (kept_media (node_at m uri.path) step), 415)
    ∷ []

abbrev pub valued : Setting → Nodes → Step → Path → Nodes
valued s m step p = insert m p (changed s.clock (with_value (node_at m p) (replaced_value (node_at m p) step)))

-- a new package leads to another state
abbrev pub after_value : Setting → Nodes → Step → Path → Nodes
after_value s m step p =
    if is_role (node_at m p).role role.PkgData
    then with_state s m (valued s m step p) (state_after_write m (length step.value == 0))
    else valued s m step p

abbrev pub replace_value : Setting → Nodes → Step → Uri → Done
replace_value s m step uri = refused_or (value_refusals s m step uri) m (changed_to (after_value s m step uri.path))

-- ---- Replace of an access list

-- the node whose Replace decides: the parent of a leaf, and an interior node itself
abbrev pub acl_decider : Nodes → Path → Path
acl_decider m p = if (node_at m p).interior then p else above p

-- a text that is no access list; and the empty one at the root, which keeps its list
abbrev pub acl_text_refusals : List ℕ → Bool → List (Bool × ℕ)
acl_text_refusals text at_root =
    (not (length text == 0) && not (is_ok (read_acl text)), 400)
    ∷ (length text == 0 && at_root, 405)
    ∷ []

abbrev pub acl_refusals : Setting → Nodes → Step → Uri → List (Bool × ℕ)
acl_refusals s m step uri =
    (no_node m uri.path, 404)
    ∷ (not (allows m (acl_decider m uri.path) s.caller right.Replace), 425)
    ∷ acl_text_refusals step.value (is_root_path uri.path)

abbrev pub entries_read : Result Entries AclError → Option Entries
entries_read (Ok acl) = Some acl
entries_read (Err e) = None

-- the empty text takes the list away
abbrev pub acl_given : List ℕ → Option Entries
acl_given text = if length text == 0 then None else entries_read (read_acl text)

abbrev pub replace_acl : Setting → Nodes → Step → Uri → Done
replace_acl s m step uri =
    refused_or (acl_refusals s m step uri) m
    (changed_to (insert m uri.path (changed s.clock (with_acl (node_at m uri.path) (acl_given step.value)))))

-- ---- Replace of a name

-- the path beside p of this name
abbrev pub beside : Path → List ℕ → Path
beside p name = above p ++ name ∷ []

abbrev pub is_own_name : Path → List ℕ → Bool
is_own_name p name = option_map_or (λ own. bytes_eq own name) (last_name p) false

-- another node beside p has the name
abbrev pub is_taken_beside : Nodes → Path → List ℕ → Bool
is_taken_beside m p name = is_some (get m (beside p name)) && not (is_own_name p name)

-- a text that is no name, or a long one
abbrev pub name_text_refusals : List ℕ → List (Bool × ℕ)
name_text_refusals text = (not (has_name_form text), 400) ∷ (not (is_short_name text), 414) ∷ []

-- a node that the caller may not rename
abbrev pub rename_refusals : Setting → Nodes → Uri → List (Bool × ℕ)
rename_refusals s m uri =
    (no_node m uri.path, 404)
    ∷ (not (allows m uri.path s.caller right.Replace), 425)
    ∷ ((node_at m uri.path).permanent, 405)
    ∷ []

abbrev pub name_refusals : Setting → Nodes → Step → Uri → List (Bool × ℕ)
name_refusals s m step uri =
    rename_refusals s m uri
    ++ name_text_refusals step.value
    ++ (is_taken_beside m uri.path step.value, 418)
    ∷ (not (paths_fit m uri.path step.value), 414)
    ∷ []

-- all that stands below the node goes with it
abbrev pub renamed_at : Setting → Nodes → Path → List ℕ → Nodes
renamed_at s m p name = insert (renamed m p name) (beside p name) (changed s.clock (node_at m p))

abbrev pub replace_name : Setting → Nodes → Step → Uri → Done
replace_name s m step uri = refused_or (name_refusals s m step uri) m (changed_to (renamed_at s m uri.path step.value))

-- ---- Replace of a title, and of what no command writes

abbrev pub title_refusals : Setting → Nodes → Step → Uri → List (Bool × ℕ)
title_refusals s m step uri =
    (no_node m uri.path, 404)
    ∷ (not (allows m uri.path s.caller right.Replace), 425)
    ∷ (nat_lt 255 (length step.value) || not (is_text step.value), 400)
    ∷ []

abbrev pub replace_title : Setting → Nodes → Step → Uri → Done
replace_title s m step uri =
    refused_or (title_refusals s m step uri) m
    (changed_to (insert m uri.path (changed s.clock (with_title (node_at m uri.path) step.value))))

abbrev pub replace_other : Nodes → Uri → Done
replace_other m uri = refused_or ((no_node m uri.path, 404) ∷ []) m (refused m 405)

abbrev pub replace_prop : Setting → Nodes → Step → Uri → Prop → Done
replace_prop s m step uri prop.Acl = replace_acl s m step uri
replace_prop s m step uri prop.Name = replace_name s m step uri
replace_prop s m step uri prop.Title = replace_title s m step uri
replace_prop s m step uri prop.Format = replace_other m uri
replace_prop s m step uri prop.Size = replace_other m uri
replace_prop s m step uri prop.Media = replace_other m uri
replace_prop s m step uri prop.VerNo = replace_other m uri
replace_prop s m step uri prop.TStamp = replace_other m uri

abbrev pub replace : Setting → Nodes → Step → Uri → Query → Done
replace s m step uri query.Plain = replace_value s m step uri
replace s m step uri (query.Prop p) = replace_prop s m step uri p
replace s m step uri query.Struct = replace_other m uri
replace s m step uri query.StructData = replace_other m uri

-- ---- Delete

abbrev pub delete_refusals : Setting → Nodes → Uri → List (Bool × ℕ)
delete_refusals s m uri =
    (has_query uri.query, 405)
    ∷ (no_node m uri.path, 404)
    ∷ (not (allows m uri.path s.caller right.Delete), 425)
    ∷ ((node_at m uri.path).permanent, 405)
    ∷ []

abbrev pub delete : Setting → Nodes → Uri → Done
delete s m uri = refused_or (delete_refusals s m uri) m (changed_to (pruned m uri.path))

-- ---- the whole table

-- the code of a target that is no URI
abbrev pub uri_code : UriError → ℕ
uri_code uri_error.Malformed = 400
uri_code uri_error.TooLong = 414
uri_code uri_error.UnknownQuery = 406
uri_code uri_error.Memory = 400

abbrev pub by_verb : Setting → Nodes → Step → Uri → Verb → Done
by_verb s m step uri verb.Copy = refused m 406
by_verb s m step uri verb.Exec = exec s m step uri
by_verb s m step uri verb.Get = get_ s m uri
by_verb s m step uri verb.Add = add s m step uri
by_verb s m step uri verb.Replace = replace s m step uri uri.query
by_verb s m step uri verb.Delete = delete s m uri

abbrev pub is_copy : Verb → Bool
is_copy verb.Copy = true
is_copy other = false

-- what is refused whatever the target is: a Copy, and an Exec in an Atomic
abbrev pub step_refusals : Step → List (Bool × ℕ)
step_refusals step = (is_copy step.verb, 406) ∷ (is_exec step.verb && step.in_atomic, 405) ∷ []

abbrev pub uri_or_code : Result Uri UriError → Result Uri ℕ
uri_or_code (Ok uri) = Ok uri
uri_or_code (Err e) = Err (uri_code e)

abbrev pub target_in : Option (List ℕ) → Result Uri ℕ
target_in None = Err 400
target_in (Some text) = uri_or_code (parse_of text)

abbrev pub target_unless : Option ℕ → Step → Result Uri ℕ
target_unless (Some code) step = Err code
target_unless None step = target_in step.target

-- the target of a step; or the code with which it is refused, whatever the tree is
abbrev pub target_of : Step → Result Uri ℕ
target_of step = target_unless (first_refusal (step_refusals step)) step

abbrev pub at_target : Setting → Nodes → Step → Result Uri ℕ → Done
at_target s m step (Err code) = refused m code
at_target s m step (Ok uri) = by_verb s m step uri step.verb

-- one step of a caller on a tree
unfoldable pub act : Setting → Nodes → Step → Done
act s m step = at_target s m step (target_of step)
