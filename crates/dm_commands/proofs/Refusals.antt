-- What is refused changes nothing, whatever the verb is.
use Rattle.std.proofs.Common.{◌≡◌, ℕ, Bool, true, false, cond, List, [], ◌∷◌, Option, None, Some, Ok, Err, refl, sym}
use Rattle.std.proofs.Common.{◌∙◌, ap, subst}
use Rattle.std.specs.Prelude.{◌&&◌, ◌||◌, ◌==◌, ⊤, not, Result}
use Rattle.std.specs.List.{list_any, list_all}
use Rattle.syncml_types.specs.declared.command.Step.{Step}
use Rattle.syncml_types.specs.declared.command.Verb.{Verb}
use Rattle.syncml_types.specs.declared.command.Verb.TheVariants as verb
use Rattle.syncml_types.specs.Verbs.{is_exec}
use Rattle.dm_uri.specs.declared.uri.Prop.{Prop}
use Rattle.dm_uri.specs.declared.uri.Prop.TheVariants as prop
use Rattle.dm_uri.specs.declared.uri.Query.{Query}
use Rattle.dm_uri.specs.declared.uri.Query.TheVariants as query
use Rattle.dm_uri.specs.declared.uri.Uri.{Uri}
use Rattle.dm_uri.specs.declared.uri.UriError.{UriError}
use Rattle.dm_uri.specs.declared.uri.UriError.TheVariants as uri_error
use Rattle.dm_uri.specs.Reading.{parse_of}
use Rattle.dm_acl.specs.declared.values.Right.{Right}
use Rattle.dm_acl.specs.declared.values.Right.TheVariants as right
use Rattle.dm_tree.specs.Nodes.{Path, Nodes, above}
use Rattle.dm_tree.specs.Rights.{allows}
use Rattle.dm_commands.specs.Outcomes.{Setting, Done, refused, first_refusal, refused_or, unless, no_node, node_at}
use Rattle.dm_commands.specs.Outcomes.{is_success}
use Rattle.dm_commands.specs.Table.{is_copy, has_query, is_root_path, exec_refusals, get_refusals, add_refusals}
use Rattle.dm_commands.specs.Table.{value_refusals, acl_refusals, acl_decider, name_refusals, title_refusals}
use Rattle.dm_commands.specs.Table.{replace_other, replace_prop, replace, delete_refusals, uri_or_code, by_verb}
use Rattle.dm_commands.specs.Table.{target_in, target_unless, target_of, at_target, act}
use Rattle.dm_commands.specs.Laws.{asked_place, asked_right, replace_place, ChangesNothing, RefusedRightChangesNothing}
use Rattle.dm_commands.specs.Laws.{RefusedStepChangesNothing, NothingStartsInAtomic, IsDenied}
use Rattle.dm_commands.specs.Laws.{OnlyRefusedRightsAreDenied}

-- the tree is as before, the code is no success, and there is nothing else
pub record IsNothing (m : Nodes) (d : Done) : Type 0 where
  pub tree : d.tree ≡ m
  pub code : is_success d.code ≡ false
  pub found : d.found ≡ []
  pub started : d.started ≡ false

nothing : (m : Nodes) (code : ℕ) → is_success code ≡ false → IsNothing m (refused m code)
nothing m code is_no = record { tree = refl; code = is_no; found = refl; started = refl }

-- no code of these refusals is a success
abbrev fails : List (Bool × ℕ) → Bool
fails rs = list_all (λ r. not (is_success r.1)) rs

to_false : (b : Bool) → not b ≡ true → b ≡ false
to_false true e = absurd (cc)
to_false false e = refl

both : (a b : Bool) → a && b ≡ true → (a ≡ true) × (b ≡ true)
both true true e = (refl, refl)
both true false e = absurd (cc)
both false b e = absurd (cc)

-- one of the refusals holds
refuses : (rs : List (Bool × ℕ)) (m : Nodes) (effect : Done) → fails rs ≡ true → list_any (λ r. r.0) rs ≡ true
    → IsNothing m (refused_or rs m effect)
refuses [] m effect all any = absurd (cc)
refuses (r ∷ rs) m effect all any =
    let parts = both (not (is_success r.1)) (fails rs) all in
    elim r.0 as (λ b. r.0 ≡ b → IsNothing m (unless (cond b (Some r.1) (first_refusal rs)) m effect)) [
      | true ↦ λ e. nothing m r.1 (to_false (is_success r.1) parts.0)
      | false ↦ λ e. refuses rs m effect parts.1 (sym (ap (λ b. b || list_any (λ r. r.0) rs) e) ∙ any)
    ] refl

-- ---- a right that is refused

-- a right is asked for, and refused
abbrev IsRefusedAt : Nodes → Path → List ℕ → Option Right → Type 0
IsRefusedAt m p caller None = ⊥
IsRefusedAt m p caller (Some right) = allows m p caller right ≡ false

second : (a x rest : Bool) → x ≡ false → a || (not x || rest) ≡ true
second true x rest e = refl
second false true rest e = absurd (cc)
second false false rest e = refl

third : (a b x rest : Bool) → x ≡ false → a || (b || (not x || rest)) ≡ true
third true b x rest e = refl
third false b x rest e = second b x rest e

fifth : (a b c d x rest : Bool) → x ≡ false → a || (b || (c || (d || (not x || rest)))) ≡ true
fifth true b c d x rest e = refl
fifth false true c d x rest e = refl
fifth false false c d x rest e = third c d x rest e

module _ (s : Setting) (m : Nodes) (step : Step) (uri : Uri) where
  other_refused : IsNothing m (replace_other m uri)
  other_refused = elim (no_node m uri.path) as (λ b. IsNothing m (unless (cond b (Some 404) None) m (refused m 405))) [
    | true ↦ nothing m 404 refl
    | false ↦ nothing m 405 refl
  ]

  prop_refused : (p : Prop) → allows m (replace_place m uri.path (query.Prop p)) s.caller right.Replace ≡ false
      → IsNothing m (replace_prop s m step uri p)
  prop_refused prop.Acl is_no =
      refuses (acl_refusals s m step uri) m _ refl
      (second (no_node m uri.path) (allows m (acl_decider m uri.path) s.caller right.Replace) _ is_no)
  prop_refused prop.Name is_no =
      refuses (name_refusals s m step uri) m _ refl
      (second (no_node m uri.path) (allows m uri.path s.caller right.Replace) _ is_no)
  prop_refused prop.Title is_no =
      refuses (title_refusals s m step uri) m _ refl
      (second (no_node m uri.path) (allows m uri.path s.caller right.Replace) _ is_no)
  prop_refused prop.Format is_no = other_refused
  prop_refused prop.Size is_no = other_refused
  prop_refused prop.Media is_no = other_refused
  prop_refused prop.VerNo is_no = other_refused
  prop_refused prop.TStamp is_no = other_refused

  replace_refused : (q : Query) → allows m (replace_place m uri.path q) s.caller right.Replace ≡ false
      → IsNothing m (replace s m step uri q)
  replace_refused query.Plain is_no =
      refuses (value_refusals s m step uri) m _ refl
      (second (no_node m uri.path) (allows m uri.path s.caller right.Replace) _ is_no)
  replace_refused (query.Prop p) is_no = prop_refused p is_no
  replace_refused query.Struct is_no = other_refused
  replace_refused query.StructData is_no = other_refused

  verb_refused : (v : Verb) → IsRefusedAt m (asked_place m uri.path uri.query v) s.caller (asked_right v)
      → IsNothing m (by_verb s m step uri v)
  verb_refused verb.Copy is_no = nothing m 406 refl
  verb_refused verb.Exec is_no =
      refuses (exec_refusals s m step uri) m _ refl
      (third (has_query uri.query) (no_node m uri.path) (allows m uri.path s.caller right.Exec) _ is_no)
  verb_refused verb.Get is_no =
      refuses (get_refusals s m uri) m _ refl
      (second (no_node m uri.path) (allows m uri.path s.caller right.Get) _ is_no)
  verb_refused verb.Add is_no =
      refuses (add_refusals s m step uri) m _ refl
      (fifth (has_query uri.query) (is_root_path uri.path) (no_node m (above uri.path))
      (not (node_at m (above uri.path)).interior) (allows m (above uri.path) s.caller right.Add) _ is_no)
  verb_refused verb.Replace is_no = replace_refused uri.query is_no
  verb_refused verb.Delete is_no =
      refuses (delete_refusals s m uri) m _ refl
      (third (has_query uri.query) (no_node m uri.path) (allows m uri.path s.caller right.Delete) _ is_no)

-- ---- the whole step

-- by whether the step is refused whatever its target is
module _ (P : Done → Type 0) (s : Setting) (m : Nodes) (step : Step) where
  by_target : ((a b : Bool) → is_copy step.verb ≡ a → is_exec step.verb && step.in_atomic ≡ b
      → P (at_target s m step (target_unless (cond a (Some 406) (cond b (Some 405) None)) step)))
      → P (at_target s m step (target_of step))
  by_target all = all (is_copy step.verb) (is_exec step.verb && step.in_atomic) refl refl

nothing_changed : (s : Setting) (m : Nodes) (step : Step) → IsNothing m (act s m step) → ChangesNothing s m step
nothing_changed s m step n = record { tree = n.tree; code = n.code; found = n.found; started = n.started }

pub refused_right : RefusedRightChangesNothing
unfolding act
refused_right s m step text uri asked target reads asks is_no =
    nothing_changed s m step (by_target (IsNothing m) s m step by_place)
  where
    at_uri : IsNothing m (at_target s m step (target_in step.target))
    at_uri =
        subst (λ t. IsNothing m (at_target s m step (target_in t))) (sym target)
        (subst (λ r. IsNothing m (at_target s m step (uri_or_code r))) (sym reads)
        (verb_refused s m step uri step.verb
        (subst (IsRefusedAt m (asked_place m uri.path uri.query step.verb) s.caller) (sym asks) is_no)))

    by_place : (a b : Bool) → is_copy step.verb ≡ a → is_exec step.verb && step.in_atomic ≡ b
        → IsNothing m (at_target s m step (target_unless (cond a (Some 406) (cond b (Some 405) None)) step))
    by_place true b x y = nothing m 406 refl
    by_place false true x y = nothing m 405 refl
    by_place false false x y = at_uri

-- ---- success or nothing

data Settled (m : Nodes) (d : Done) : Type 0 where
  succeeds : is_success d.code ≡ true → Settled m d
  comes_to_nothing : IsNothing m d → Settled m d

settled_first : (rs : List (Bool × ℕ)) (m : Nodes) (effect : Done) → fails rs ≡ true → Settled m effect
    → Settled m (refused_or rs m effect)
settled_first [] m effect all e = e
settled_first (r ∷ rs) m effect all e =
    let parts = both (not (is_success r.1)) (fails rs) all in
    elim r.0 as (λ b. Settled m (unless (cond b (Some r.1) (first_refusal rs)) m effect)) [
      | true ↦ comes_to_nothing (nothing m r.1 (to_false (is_success r.1) parts.0))
      | false ↦ settled_first rs m effect parts.1 e
    ]

module _ (s : Setting) (m : Nodes) (step : Step) (uri : Uri) where
  settled_prop : (p : Prop) → Settled m (replace_prop s m step uri p)
  settled_prop prop.Acl = settled_first (acl_refusals s m step uri) m _ refl (succeeds refl)
  settled_prop prop.Name = settled_first (name_refusals s m step uri) m _ refl (succeeds refl)
  settled_prop prop.Title = settled_first (title_refusals s m step uri) m _ refl (succeeds refl)
  settled_prop prop.Format = comes_to_nothing (other_refused s m step uri)
  settled_prop prop.Size = comes_to_nothing (other_refused s m step uri)
  settled_prop prop.Media = comes_to_nothing (other_refused s m step uri)
  settled_prop prop.VerNo = comes_to_nothing (other_refused s m step uri)
  settled_prop prop.TStamp = comes_to_nothing (other_refused s m step uri)

  settled_replace : (q : Query) → Settled m (replace s m step uri q)
  settled_replace query.Plain = settled_first (value_refusals s m step uri) m _ refl (succeeds refl)
  settled_replace (query.Prop p) = settled_prop p
  settled_replace query.Struct = comes_to_nothing (other_refused s m step uri)
  settled_replace query.StructData = comes_to_nothing (other_refused s m step uri)

  settled_verb : (v : Verb) → Settled m (by_verb s m step uri v)
  settled_verb verb.Copy = comes_to_nothing (nothing m 406 refl)
  settled_verb verb.Exec = settled_first (exec_refusals s m step uri) m _ refl (succeeds refl)
  settled_verb verb.Get = settled_first (get_refusals s m uri) m _ refl (succeeds refl)
  settled_verb verb.Add = settled_first (add_refusals s m step uri) m _ refl (succeeds refl)
  settled_verb verb.Replace = settled_replace uri.query
  settled_verb verb.Delete = settled_first (delete_refusals s m uri) m _ refl (succeeds refl)

settled_uri : (s : Setting) (m : Nodes) (step : Step) (r : Result Uri UriError)
    → Settled m (at_target s m step (uri_or_code r))
settled_uri s m step (Ok uri) = settled_verb s m step uri step.verb
settled_uri s m step (Err uri_error.Malformed) = comes_to_nothing (nothing m 400 refl)
settled_uri s m step (Err uri_error.TooLong) = comes_to_nothing (nothing m 414 refl)
settled_uri s m step (Err uri_error.UnknownQuery) = comes_to_nothing (nothing m 406 refl)
settled_uri s m step (Err uri_error.Memory) = comes_to_nothing (nothing m 400 refl)

settled_target : (s : Setting) (m : Nodes) (step : Step) (t : Option (List ℕ))
    → Settled m (at_target s m step (target_in t))
settled_target s m step None = comes_to_nothing (nothing m 400 refl)
settled_target s m step (Some text) = settled_uri s m step (parse_of text)

settled_act : (s : Setting) (m : Nodes) (step : Step) → Settled m (act s m step)
unfolding act
settled_act s m step = by_target (Settled m) s m step by_place
  where
    by_place : (a b : Bool) → is_copy step.verb ≡ a → is_exec step.verb && step.in_atomic ≡ b
        → Settled m (at_target s m step (target_unless (cond a (Some 406) (cond b (Some 405) None)) step))
    by_place true b x y = comes_to_nothing (nothing m 406 refl)
    by_place false true x y = comes_to_nothing (nothing m 405 refl)
    by_place false false x y = settled_target s m step step.target

pub refused_step : RefusedStepChangesNothing
refused_step s m step is_no = by_end (settled_act s m step)
  where
    by_end : Settled m (act s m step) → ChangesNothing s m step
    by_end (succeeds is_yes) = absurd (cc)
    by_end (comes_to_nothing n) = nothing_changed s m step n

-- ---- what starts the update

starts_not : (rs : List (Bool × ℕ)) (m : Nodes) (effect : Done) → effect.started ≡ false
    → (refused_or rs m effect).started ≡ false
starts_not rs m effect is_no = by_first (first_refusal rs)
  where
    by_first : (o : Option ℕ) → (unless o m effect).started ≡ false
    by_first None = is_no
    by_first (Some code) = refl

module _ (s : Setting) (m : Nodes) (step : Step) (uri : Uri) where
  prop_starts_not : (p : Prop) → (replace_prop s m step uri p).started ≡ false
  prop_starts_not prop.Acl = starts_not (acl_refusals s m step uri) m _ refl
  prop_starts_not prop.Name = starts_not (name_refusals s m step uri) m _ refl
  prop_starts_not prop.Title = starts_not (title_refusals s m step uri) m _ refl
  prop_starts_not prop.Format = (other_refused s m step uri).started
  prop_starts_not prop.Size = (other_refused s m step uri).started
  prop_starts_not prop.Media = (other_refused s m step uri).started
  prop_starts_not prop.VerNo = (other_refused s m step uri).started
  prop_starts_not prop.TStamp = (other_refused s m step uri).started

  replace_starts_not : (q : Query) → (replace s m step uri q).started ≡ false
  replace_starts_not query.Plain = starts_not (value_refusals s m step uri) m _ refl
  replace_starts_not (query.Prop p) = prop_starts_not p
  replace_starts_not query.Struct = (other_refused s m step uri).started
  replace_starts_not query.StructData = (other_refused s m step uri).started

  verb_starts_not : (v : Verb) → is_exec v ≡ false → (by_verb s m step uri v).started ≡ false
  verb_starts_not verb.Copy is_no = refl
  verb_starts_not verb.Exec is_no = absurd (cc)
  verb_starts_not verb.Get is_no = starts_not (get_refusals s m uri) m _ refl
  verb_starts_not verb.Add is_no = starts_not (add_refusals s m step uri) m _ refl
  verb_starts_not verb.Replace is_no = replace_starts_not uri.query
  verb_starts_not verb.Delete is_no = starts_not (delete_refusals s m uri) m _ refl

target_starts_not : (s : Setting) (m : Nodes) (step : Step) → is_exec step.verb ≡ false → (t : Result Uri ℕ)
    → (at_target s m step t).started ≡ false
target_starts_not s m step is_no (Ok uri) = verb_starts_not s m step uri step.verb is_no
target_starts_not s m step is_no (Err code) = refl

pub nothing_in_atomic : NothingStartsInAtomic
unfolding act
nothing_in_atomic s m step inside = by_target (λ d. d.started ≡ false) s m step by_place
  where
    no_exec : (e i : Bool) → i ≡ true → e && i ≡ false → e ≡ false
    no_exec true true i h = absurd (cc)
    no_exec true false i h = absurd (cc)
    no_exec false b i h = refl

    by_place : (a b : Bool) → is_copy step.verb ≡ a → is_exec step.verb && step.in_atomic ≡ b
        → (at_target s m step (target_unless (cond a (Some 406) (cond b (Some 405) None)) step)).started ≡ false
    by_place true b x y = refl
    by_place false true x y = refl
    by_place false false x y =
        target_starts_not s m step (no_exec (is_exec step.verb) step.in_atomic inside y) (target_in step.target)

-- ---- 425 comes from a refused right alone

-- of these refusals none has 425 but where x is false
abbrev Blames : Bool → List (Bool × ℕ) → Type 0
Blames x [] = ⊤
Blames x (r ∷ rs) = ((r.1 == 425) ≡ true → r.0 ≡ true → x ≡ false) × Blames x rs

denied_first : (rs : List (Bool × ℕ)) (m : Nodes) (effect : Done) (x : Bool) → Blames x rs
    → (effect.code == 425) ≡ false → ((refused_or rs m effect).code == 425) ≡ true → x ≡ false
denied_first [] m effect x b is_no h = absurd (cc)
denied_first (r ∷ rs) m effect x b is_no h =
    elim r.0 as (λ c. r.0 ≡ c → ((unless (cond c (Some r.1) (first_refusal rs)) m effect).code == 425) ≡ true
    → x ≡ false) [
      | true ↦ λ e k. b.0 k e
      | false ↦ λ e k. denied_first rs m effect x b.1 is_no k
    ] refl h

module _ (s : Setting) (m : Nodes) (step : Step) (uri : Uri) where
  denied_other : (x : Bool) → ((replace_other m uri).code == 425) ≡ true → x ≡ false
  denied_other x =
      elim (no_node m uri.path) as (λ b. ((unless (cond b (Some 404) None) m (refused m 405)).code == 425) ≡ true
      → x ≡ false) [
        | true ↦ λ h. absurd (cc)
        | false ↦ λ h. absurd (cc)
      ]

  denied_prop : (p : Prop) → ((replace_prop s m step uri p).code == 425) ≡ true
      → allows m (replace_place m uri.path (query.Prop p)) s.caller right.Replace ≡ false
  denied_prop prop.Acl =
      denied_first (acl_refusals s m step uri) m _ (allows m (acl_decider m uri.path) s.caller right.Replace)
      (λ e h. absurd (cc), (λ e h. to_false _ h, (λ e h. absurd (cc), (λ e h. absurd (cc), tt)))) refl
  denied_prop prop.Name =
      denied_first (name_refusals s m step uri) m _ (allows m uri.path s.caller right.Replace) (
        λ e h. absurd (cc),
        (
          λ e h. to_false _ h,
          (
            λ e h. absurd (cc),
            (
              λ e h. absurd (cc),
              (
                λ e h. absurd (cc),
                (λ e h. absurd (cc), (λ e h. absurd (cc), tt)),
              ),
            ),
          ),
        ),
      ) refl
  denied_prop prop.Title =
      denied_first (title_refusals s m step uri) m _ (allows m uri.path s.caller right.Replace)
      (λ e h. absurd (cc), (λ e h. to_false _ h, (λ e h. absurd (cc), tt))) refl
  denied_prop prop.Format = denied_other _
  denied_prop prop.Size = denied_other _
  denied_prop prop.Media = denied_other _
  denied_prop prop.VerNo = denied_other _
  denied_prop prop.TStamp = denied_other _

  denied_replace : (q : Query) → ((replace s m step uri q).code == 425) ≡ true
      → allows m (replace_place m uri.path q) s.caller right.Replace ≡ false
  denied_replace query.Plain =
      denied_first (value_refusals s m step uri) m _ (allows m uri.path s.caller right.Replace) (
        λ e h. absurd (cc),
        (
          λ e h. to_false _ h,
          (
            λ e h. absurd (cc),
            (
              λ e h. absurd (cc),
              (
                λ e h. absurd (cc),
                (λ e h. absurd (cc), tt),
              ),
            ),
          ),
        ),
      ) refl
  denied_replace (query.Prop p) = denied_prop p
  denied_replace query.Struct = denied_other _
  denied_replace query.StructData = denied_other _

  denied_verb : (v : Verb) → ((by_verb s m step uri v).code == 425) ≡ true
      → IsRefusedAt m (asked_place m uri.path uri.query v) s.caller (asked_right v)
  denied_verb verb.Copy h = absurd (cc)
  denied_verb verb.Exec h =
      denied_first (exec_refusals s m step uri) m _ (allows m uri.path s.caller right.Exec) (
        λ e h. absurd (cc),
        (
          λ e h. absurd (cc),
          (
            λ e h. to_false _ h,
            (
              λ e h. absurd (cc),
              (
                λ e h. absurd (cc),
                (λ e h. absurd (cc), tt),
              ),
            ),
          ),
        ),
      ) refl h
  denied_verb verb.Get h =
      denied_first (get_refusals s m uri) m _ (allows m uri.path s.caller right.Get)
      (λ e h. absurd (cc), (λ e h. to_false _ h, (λ e h. absurd (cc), tt))) refl h
  denied_verb verb.Add h =
      denied_first (add_refusals s m step uri) m _ (allows m (above uri.path) s.caller right.Add) (
        λ e h. absurd (cc),
        (
          λ e h. absurd (cc),
          (
            λ e h. absurd (cc),
            (
              λ e h. absurd (cc),
              (
                λ e h. to_false _ h,
                (λ e h. absurd (cc), (λ e h. absurd (cc), (λ e h. absurd (cc), (λ e h. absurd (cc), tt)))),
              ),
            ),
          ),
        ),
      ) refl h
  denied_verb verb.Replace h = denied_replace uri.query h
  denied_verb verb.Delete h =
      denied_first (delete_refusals s m uri) m _ (allows m uri.path s.caller right.Delete)
      (λ e h. absurd (cc), (λ e h. absurd (cc), (λ e h. to_false _ h, (λ e h. absurd (cc), tt)))) refl h

denied_uri : (s : Setting) (m : Nodes) (step : Step) (text : List ℕ) → step.target ≡ Some text
    → (r : Result Uri UriError) → parse_of text ≡ r → ((at_target s m step (uri_or_code r)).code == 425) ≡ true
    → IsDenied s m step
denied_uri s m step text target (Ok uri) reads h =
    by_right (asked_right step.verb) refl (denied_verb s m step uri step.verb h)
  where
    by_right : (o : Option Right) → asked_right step.verb ≡ o
        → IsRefusedAt m (asked_place m uri.path uri.query step.verb) s.caller o → IsDenied s m step
    by_right None asks is_no = absurd is_no
    by_right (Some asked) asks is_no = record {
      text = text;
      uri = uri;
      asked = asked;
      target = target;
      reads = reads;
      asks = asks;
      right = is_no;
    }
denied_uri s m step text target (Err uri_error.Malformed) reads h = absurd (cc)
denied_uri s m step text target (Err uri_error.TooLong) reads h = absurd (cc)
denied_uri s m step text target (Err uri_error.UnknownQuery) reads h = absurd (cc)
denied_uri s m step text target (Err uri_error.Memory) reads h = absurd (cc)

denied_target : (s : Setting) (m : Nodes) (step : Step) (t : Option (List ℕ)) → step.target ≡ t
    → ((at_target s m step (target_in t)).code == 425) ≡ true → IsDenied s m step
denied_target s m step None target h = absurd (cc)
denied_target s m step (Some text) target h = denied_uri s m step text target (parse_of text) refl h

pub only_refused : OnlyRefusedRightsAreDenied
unfolding act
only_refused s m step e =
    by_target (λ d. (d.code == 425) ≡ true → IsDenied s m step) s m step by_place (ap (λ c. c == 425) e)
  where
    by_place : (a b : Bool) → is_copy step.verb ≡ a → is_exec step.verb && step.in_atomic ≡ b
        → ((at_target s m step (target_unless (cond a (Some 406) (cond b (Some 405) None)) step)).code == 425) ≡ true
        → IsDenied s m step
    by_place true b x y h = absurd (cc)
    by_place false true x y h = absurd (cc)
    by_place false false x y h = denied_target s m step step.target refl h
