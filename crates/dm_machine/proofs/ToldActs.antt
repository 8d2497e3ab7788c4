-- What one step comes to can be sent: its code is a number of 32 bits, what it found is ready, and where it started the
-- update its Correlator is short.
use Rattle.std.proofs.Common.{◌≡◌, ◌<◌, ◌≤◌, ◌^◌, ℕ, Bool, true, false, cond, List, [], ◌∷◌, length, Option, Some, None}
use Rattle.std.proofs.Common.{Ok, Err, refl, arith}
use Rattle.std.specs.Prelude.{Result, IfSome, nat_lt}
use Rattle.std.specs.List.{AllByRecursion}
use Rattle.std.specs.Option.{option_map_or}
use Rattle.std.proofs.lemmas.Bool.{ltb-false}
use Rattle.syncml_types.specs.declared.command.Step.{Step}
use Rattle.syncml_types.specs.declared.command.Verb.{Verb}
use Rattle.syncml_types.specs.declared.command.Verb.TheVariants as verb
use Rattle.dm_uri.specs.declared.uri.Prop.{Prop}
use Rattle.dm_uri.specs.declared.uri.Prop.TheVariants as prop
use Rattle.dm_uri.specs.declared.uri.Query.{Query}
use Rattle.dm_uri.specs.declared.uri.Query.TheVariants as query
use Rattle.dm_uri.specs.declared.uri.Uri.{Uri}
use Rattle.dm_uri.specs.declared.uri.UriError.{UriError}
use Rattle.dm_uri.specs.declared.uri.UriError.TheVariants as uri_error
use Rattle.dm_uri.specs.Reading.{parse_of}
use Rattle.dm_tree.specs.Nodes.{Nodes}
use Rattle.dm_commands.specs.Outcomes.{Setting, Done, refused, unless, first_refusal, no_node}
use Rattle.dm_commands.specs.Table.{started, exec, exec_refusals, get_, get_refusals, add, node_refusals, add_refusals}
use Rattle.dm_commands.specs.Table.{replace_value, value_refusals, replace_acl, acl_refusals, replace_name}
use Rattle.dm_commands.specs.Table.{name_refusals, replace_title, title_refusals, replace_other, replace_prop, replace}
use Rattle.dm_commands.specs.Table.{delete, delete_refusals, uri_code, uri_or_code, by_verb, step_refusals, target_in}
use Rattle.dm_commands.specs.Table.{target_unless, target_of, at_target, act}
use Rattle.dm_commands.proofs.Keeping.{none_holds}
use Rattle.dm_machine.specs.Ready.{IsDevice}
use Rattle.dm_machine.proofs.ToldFound.{IsReadyFound, found_ready}

abbrev pub IsLow : ℕ → Type 0
IsLow code = code < 2 ^ 32

pub record IsReadyDone (step : Step) (d : Done) : Type 0 where
  pub code : IsLow d.code
  pub found : AllByRecursion IsReadyFound d.found
  pub correlator : d.started ≡ true → IfSome step.correlator (λ text. length text ≤ 255)

-- ---- refusals

abbrev AreLow : List (Bool × ℕ) → Type 0
AreLow rs = AllByRecursion (λ r. IsLow r.1) rs

low_refusal : (rs : List (Bool × ℕ)) → AreLow rs → IfSome (first_refusal rs) IsLow
low_refusal [] low = tt
low_refusal (r ∷ rs) low = elim r.0 as (λ b. IfSome (cond b (Some r.1) (first_refusal rs)) IsLow) [
  | true ↦ low.0
  | false ↦ low_refusal rs low.1
]

refused_ready : (step : Step) (m : Nodes) (code : ℕ) → IsLow code
    → IsReadyDone step (record { tree = m; code = code; found = []; started = false })
refused_ready step m code low = record { code = low; found = tt; correlator = λ e. absurd (cc) }

changed_ready : (step : Step) (m : Nodes)
    → IsReadyDone step (record { tree = m; code = 200; found = []; started = false })
changed_ready step m = refused_ready step m 200 (omega arith)

unless_ready : (step : Step) (o : Option ℕ) (m : Nodes) (effect : Done) → IfSome o IsLow
    → (o ≡ None → IsReadyDone step effect) → IsReadyDone step (unless o m effect)
unless_ready step None m effect low is = is refl
unless_ready step (Some code) m effect low is = refused_ready step m code low

changed_unless : (step : Step) (rs : List (Bool × ℕ)) (m n : Nodes) → AreLow rs
    → IsReadyDone step (unless (first_refusal rs) m (record { tree = n; code = 200; found = []; started = false }))
changed_unless step rs m n low =
    unless_ready step (first_refusal rs) m _ (low_refusal rs low) (λ e. changed_ready step n)

-- ---- by the verb

short_correlator : (o : Option (List ℕ)) → option_map_or (λ text. nat_lt 255 (length text)) o false ≡ false
    → IfSome o (λ text. length text ≤ 255)
short_correlator None e = tt
short_correlator (Some text) e = ltb-false 255 (length text) e

exec_ready : (s : Setting) (m : Nodes) (step : Step) (uri : Uri) → IsReadyDone step (exec s m step uri)
exec_ready s m step uri =
    let rs = exec_refusals s m step uri in
    unless_ready step (first_refusal rs) m (started s m)
    (low_refusal rs (omega arith, (omega arith, (omega arith, (omega arith, (omega arith, (omega arith, tt)))))))
    (λ e. record {
      code = omega arith;
      found = tt;
      correlator = λ is. short_correlator step.correlator (none_holds rs e).1.1.1.1.1.0;
    })

get_ready : (s : Setting) (m : Nodes) (step : Step) (text : List ℕ) (uri : Uri) → IsDevice m → parse_of text ≡ Ok uri
    → IsReadyDone step (get_ s m uri)
get_ready s m step text uri device e =
    let rs = get_refusals s m uri in
    unless_ready step (first_refusal rs) m _ (low_refusal rs (omega arith, (omega arith, (omega arith, tt))))
    (λ none. record {
      code = omega arith;
      found = found_ready s m text uri uri.query device e;
      correlator = λ is. absurd (cc);
    })

add_ready : (s : Setting) (m : Nodes) (step : Step) (uri : Uri) → IsReadyDone step (add s m step uri)
add_ready s m step uri =
    let three_low : AreLow (node_refusals m step) = (omega arith, (omega arith, (omega arith, tt))) in
    changed_unless step (add_refusals s m step uri) m _
    (omega arith, (omega arith, (omega arith, (omega arith, (omega arith, (omega arith, three_low))))))

value_ready : (s : Setting) (m : Nodes) (step : Step) (uri : Uri) → IsReadyDone step (replace_value s m step uri)
value_ready s m step uri =
    changed_unless step (value_refusals s m step uri) m _
    (omega arith, (omega arith, (omega arith, (omega arith, (omega arith, (omega arith, tt))))))

acl_ready : (s : Setting) (m : Nodes) (step : Step) (uri : Uri) → IsReadyDone step (replace_acl s m step uri)
acl_ready s m step uri =
    changed_unless step (acl_refusals s m step uri) m _ (omega arith, (omega arith, (omega arith, (omega arith, tt))))

name_ready : (s : Setting) (m : Nodes) (step : Step) (uri : Uri) → IsReadyDone step (replace_name s m step uri)
name_ready s m step uri =
    changed_unless step (name_refusals s m step uri) m _
    (omega arith, (omega arith, (omega arith, (omega arith, (omega arith, (omega arith, (omega arith, tt)))))))

title_ready : (s : Setting) (m : Nodes) (step : Step) (uri : Uri) → IsReadyDone step (replace_title s m step uri)
title_ready s m step uri =
    changed_unless step (title_refusals s m step uri) m _ (omega arith, (omega arith, (omega arith, tt)))

other_ready : (m : Nodes) (step : Step) (uri : Uri) → IsReadyDone step (replace_other m uri)
other_ready m step uri =
    let rs : List (Bool × ℕ) = (no_node m uri.path, 404) ∷ [] in
    let low : IsLow 405 = omega arith in
    unless_ready step (first_refusal rs) m (refused m 405) (low_refusal rs (omega arith, tt))
    (λ e. refused_ready step m 405 low)

prop_ready : (s : Setting) (m : Nodes) (step : Step) (uri : Uri) (p : Prop)
    → IsReadyDone step (replace_prop s m step uri p)
prop_ready s m step uri prop.Acl = acl_ready s m step uri
prop_ready s m step uri prop.Name = name_ready s m step uri
prop_ready s m step uri prop.Title = title_ready s m step uri
prop_ready s m step uri prop.Format = other_ready m step uri
prop_ready s m step uri prop.Size = other_ready m step uri
prop_ready s m step uri prop.Media = other_ready m step uri
prop_ready s m step uri prop.VerNo = other_ready m step uri
prop_ready s m step uri prop.TStamp = other_ready m step uri

replace_ready : (s : Setting) (m : Nodes) (step : Step) (uri : Uri) (q : Query)
    → IsReadyDone step (replace s m step uri q)
replace_ready s m step uri query.Plain = value_ready s m step uri
replace_ready s m step uri (query.Prop p) = prop_ready s m step uri p
replace_ready s m step uri query.Struct = other_ready m step uri
replace_ready s m step uri query.StructData = other_ready m step uri

delete_ready : (s : Setting) (m : Nodes) (step : Step) (uri : Uri) → IsReadyDone step (delete s m uri)
delete_ready s m step uri =
    changed_unless step (delete_refusals s m uri) m _ (omega arith, (omega arith, (omega arith, (omega arith, tt))))

verb_ready : (s : Setting) (m : Nodes) (step : Step) (text : List ℕ) (uri : Uri) (v : Verb) → IsDevice m
    → parse_of text ≡ Ok uri → IsReadyDone step (by_verb s m step uri v)
verb_ready s m step text uri verb.Copy device e = refused_ready step m 406 (omega arith)
verb_ready s m step text uri verb.Exec device e = exec_ready s m step uri
verb_ready s m step text uri verb.Get device e = get_ready s m step text uri device e
verb_ready s m step text uri verb.Add device e = add_ready s m step uri
verb_ready s m step text uri verb.Replace device e = replace_ready s m step uri uri.query
verb_ready s m step text uri verb.Delete device e = delete_ready s m step uri

-- ---- by the target

-- a URI that was read, or a code
abbrev IsRead : Result Uri ℕ → Type 0
IsRead (Ok uri) = (text : List ℕ) × (parse_of text ≡ Ok uri)
IsRead (Err code) = IsLow code

low_error : (e : UriError) → IsLow (uri_code e)
low_error uri_error.Malformed = omega arith
low_error uri_error.TooLong = omega arith
low_error uri_error.UnknownQuery = omega arith
low_error uri_error.Memory = omega arith

text_read : (text : List ℕ) (r : Result Uri UriError) → parse_of text ≡ r → IsRead (uri_or_code r)
text_read text (Ok uri) e = (text, e)
text_read text (Err x) e = low_error x

target_read : (o : Option (List ℕ)) → IsRead (target_in o)
target_read None = omega arith
target_read (Some text) = text_read text (parse_of text) refl

read_unless : (o : Option ℕ) (step : Step) → IfSome o IsLow → IsRead (target_unless o step)
read_unless (Some code) step low = low
read_unless None step low = target_read step.target

step_read : (step : Step) → IsRead (target_of step)
step_read step =
    read_unless (first_refusal (step_refusals step)) step
    (low_refusal (step_refusals step) (omega arith, (omega arith, tt)))

at_target_ready : (s : Setting) (m : Nodes) (step : Step) (r : Result Uri ℕ) → IsDevice m → IsRead r
    → IsReadyDone step (at_target s m step r)
at_target_ready s m step (Ok uri) device is = verb_ready s m step is.0 uri step.verb device is.1
at_target_ready s m step (Err code) device is = refused_ready step m code is

pub act_ready : (s : Setting) (m : Nodes) (step : Step) → IsDevice m → IsReadyDone step (act s m step)
unfolding act
act_ready s m step device = at_target_ready s m step (target_of step) device (step_read step)
