-- Which paths a step moves.
use Rattle.std.proofs.Common.{◌≡◌, ℕ, false, List, Option, None, Some, ap}
use Rattle.std.specs.Prelude.{Result, Ok, Err}
use Rattle.std.specs.Option.{option_map_or}
use Rattle.syncml_types.specs.declared.command.Step.{Step}
use Rattle.syncml_types.specs.declared.command.Verb.{Verb}
use Rattle.dm_uri.specs.declared.uri.Uri.{Uri}
use Rattle.dm_uri.specs.declared.uri.UriError.{UriError}
use Rattle.dm_uri.specs.Reading.{parse_of}
use Rattle.dm_tree.specs.Nodes.{Path}
use Rattle.dm_commands.specs.Outcomes.{first_refusal}
use Rattle.dm_commands.specs.Table.{step_refusals, uri_or_code, target_in, target_unless, target_of}
use Rattle.dm_commands.specs.Promises.{is_moved, is_moved_at}

read_as : (r : Result Uri UriError) (uri : Uri) → uri_or_code r ≡ Ok uri → r ≡ Ok uri
read_as (Ok u) uri e = cc
read_as (Err e) uri h = absurd (cc)

moved_in : (verb : Verb) (t : Option (List ℕ)) (uri : Uri) (p : Path) → target_in t ≡ Ok uri
    → option_map_or (λ text. is_moved_at verb (parse_of text) p) t false ≡ is_moved_at verb (Ok uri) p
moved_in verb None uri p e = absurd (cc)
moved_in verb (Some text) uri p e = ap (λ r. is_moved_at verb r p) (read_as (parse_of text) uri e)

moved_unless : (o : Option ℕ) (step : Step) (uri : Uri) (p : Path) → target_unless o step ≡ Ok uri
    → is_moved step p ≡ is_moved_at step.verb (Ok uri) p
moved_unless None step uri p e = moved_in step.verb step.target uri p e
moved_unless (Some code) step uri p e = absurd (cc)

pub moved-at : (step : Step) (uri : Uri) (p : Path) → target_of step ≡ Ok uri
    → is_moved step p ≡ is_moved_at step.verb (Ok uri) p
moved-at step uri p e = moved_unless (first_refusal (step_refusals step)) step uri p e
