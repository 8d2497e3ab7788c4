-- A step leaves every node but its target, State and those that a Delete or a rename moves.
use Rattle.std.proofs.Common.{◌≡◌, ℕ, Bool, true, false, cond, List, []}
use Rattle.std.proofs.Common.{◌∷◌, ◌++◌, length, drop, not, Option, None, Some}
use Rattle.std.proofs.Common.{refl, sym, ◌∙◌, ap, subst, inl, inr}
use Rattle.std.proofs.lemmas.Bool.{cases_Bool}
use Rattle.std.specs.Prelude.{◌==◌, bytes_eq}
use Rattle.std.specs.Option.{option_map_or}
use Rattle.std.specs.Fmt.{decimal}
use Rattle.std.specs.FinMap.{get, insert}
use Rattle.syncml_types.specs.declared.command.Step.{Step}
use Rattle.syncml_types.specs.declared.command.Verb.{Verb}
use Rattle.syncml_types.specs.declared.command.Verb.TheVariants as verb
use Rattle.dm_uri.specs.declared.uri.Prop.{Prop}
use Rattle.dm_uri.specs.declared.uri.Prop.TheVariants as prop
use Rattle.dm_uri.specs.declared.uri.Query.{Query}
use Rattle.dm_uri.specs.declared.uri.Query.TheVariants as query
use Rattle.dm_uri.specs.declared.uri.Uri.{Uri}
use Rattle.dm_tree.specs.declared.nodes.Node.{Node}
use Rattle.dm_tree.specs.Edits.{rekeyed, renamed}
use Rattle.dm_tree.specs.Nodes.{Path, Nodes, is_below}
use Rattle.dm_tree.specs.Devices.{is_role, state_node, value_at}
use Rattle.dm_tree.specs.declared.nodes.Role.TheVariants as role
use Rattle.dm_tree.proofs.MapKeys.{moved_from, moved_to}
use Rattle.dm_tree.proofs.PathOrder.{below_append}
use Rattle.dm_tree.proofs.Paths.{below_self}
use Rattle.dm_tree.proofs.RenamedRows.{rekeyed-apart, rekeyed-below}
use Rattle.dm_tree.proofs.RowMaps.{insert_beside}
use Rattle.dm_tree.proofs.SubtreeCuts.{get-pruned}
use Rattle.dm_fumo.specs.States.{progressing}
use Rattle.dm_commands.specs.Outcomes.{Setting, Done, unless, first_refusal, no_node, node_at}
use Rattle.dm_commands.specs.Updates.{state_after_write, rewritten_at, with_state, rewritten}
use Rattle.dm_commands.specs.Table as table
use Rattle.dm_commands.specs.Table.{act, beside}
use Rattle.dm_commands.specs.Promises.{moves, is_name_query}
use Rattle.dm_commands.specs.Laws.{StepLeavesOthers}
use Rattle.dm_commands.proofs.Keeping.{unless_is}

-- ---- another name

module _ (m : Nodes) (p q : Path) (name : List ℕ) (apart : is_below p q ≡ false)
    (new : is_below (beside p name) q ≡ false) where
  -- nothing comes to the path from elsewhere
  alone : (a : Path) → rekeyed p name a ≡ q → a ≡ q
  alone a e = elim (cases_Bool (is_below p a)) [
    | inr other ↦ sym (rekeyed-apart p name a other) ∙ e
    | inl is ↦
        let to : beside p name ++ drop (length p) a ≡ q = sym (rekeyed-below p name a not_root is) ∙ e in
        let yes : is_below (beside p name) q ≡ true =
        ap (is_below (beside p name)) (sym to) ∙ below_append (beside p name) (drop (length p) a) in
        absurd (cc)
  ]
    where
      root_above : is_below [] q ≡ true
      root_above = refl

      not_root : p ≡ [] → ⊥
      not_root is = let yes : is_below p q ≡ true = ap (λ r. is_below r q) is ∙ root_above in cc

  renamed_at : (o : Option Node) → get m q ≡ o → (r : Option Node) → get (renamed m p name) q ≡ r → r ≡ o
  renamed_at (Some x) there r e =
      sym e ∙ ap (get (renamed m p name)) (sym (rekeyed-apart p name q apart))
      ∙ moved_to (rekeyed p name) m q x (λ a y f same. alone a (same ∙ rekeyed-apart p name q apart)) there
  renamed_at None there None e = refl
  renamed_at None there (Some y) e =
      let from = moved_from (rekeyed p name) m q y e in
      let there_too : get m q ≡ Some y = ap (get m) (sym (alone from.0 from.2)) ∙ from.1 in
      absurd (cc)

  leaves_renamed : get (renamed m p name) q ≡ get m q
  leaves_renamed = renamed_at (get m q) refl (get (renamed m p name) q) refl

  not_new : q ≡ beside p name → ⊥
  not_new is = let yes : is_below (beside p name) q ≡ true =
      ap (is_below (beside p name)) is ∙ below_self (beside p name) in cc

-- ---- by the verb

abbrev Leaves : Nodes → Path → Nodes → Type 0
Leaves m q n = get n q ≡ get m q

-- a row of the table that holds changes nothing
effect_leaves : (rs : List (Bool × ℕ)) (m : Nodes) (effect : Done) (q : Path) → Leaves m q effect.tree
    → Leaves m q (unless (first_refusal rs) m effect).tree
effect_leaves rs m effect q leaves = unless_is (Leaves m q) (first_refusal rs) m effect refl (λ _. leaves)

-- State has another text
state_led : (s : Setting) (m n : Nodes) (q : Path) (state : ℕ) → (state_node m ≡ Some q → ⊥)
    → Leaves n q (with_state s m n state)
state_led s m n q state other = by_place (state_node m) refl
  where
    by_text : (at : Path) → (q ≡ at → ⊥) → (b : Bool)
        → Leaves n q (cond b n (insert n at (rewritten s (node_at m at) (decimal state))))
    by_text at beside_it true = refl
    by_text at beside_it false = insert_beside n at q (rewritten s (node_at m at) (decimal state)) beside_it

    by_place : (o : Option Path) → state_node m ≡ o
        → Leaves n q (option_map_or (λ at. rewritten_at s m n at (decimal state)) o n)
    by_place None is = refl
    by_place (Some at) is =
        by_text at (λ same. other (is ∙ ap (λ x. Some x) (sym same))) (bytes_eq (value_at m at) (decimal state))

module _ (s : Setting) (m : Nodes) (step : Step) (uri : Uri) (q : Path) (target : q ≡ uri.path → ⊥)
    (state : state_node m ≡ Some q → ⊥) where
  leaves_put : (x : Node) → Leaves m q (insert m uri.path x)
  leaves_put x = insert_beside m uri.path q x target

  leaves_other : Leaves m q (table.replace_other m uri).tree
  leaves_other = effect_leaves ((no_node m uri.path, 404) ∷ []) m _ q refl

  leaves_exec : Leaves m q (table.exec s m step uri).tree
  leaves_exec = effect_leaves (table.exec_refusals s m step uri) m _ q (state_led s m m q progressing state)

  -- the package, which State follows, or another leaf
  leaves_value : Leaves m q (table.replace_value s m step uri).tree
  leaves_value =
      effect_leaves (table.value_refusals s m step uri) m _ q (by_role (is_role (node_at m uri.path).role role.PkgData))
    where
      valued : Nodes
      valued = table.valued s m step uri.path

      by_role : (b : Bool)
          → Leaves m q (cond b (with_state s m valued (state_after_write m (length step.value == 0))) valued)
      by_role true = state_led s m valued q (state_after_write m (length step.value == 0)) state ∙ leaves_put _
      by_role false = leaves_put _

  leaves_name : is_below uri.path q ≡ false → is_below (beside uri.path step.value) q ≡ false
      → Leaves m q (table.replace_name s m step uri).tree
  leaves_name apart new = effect_leaves (table.name_refusals s m step uri) m _ q
      (insert_beside (renamed m uri.path step.value) (beside uri.path step.value) q _
      (not_new m uri.path q step.value apart new)
      ∙ leaves_renamed m uri.path q step.value apart new)

  leaves_prop : (p : Prop) → (is_name_query (query.Prop p) ≡ true → is_below uri.path q ≡ false)
      → (is_name_query (query.Prop p) ≡ true → is_below (beside uri.path step.value) q ≡ false)
      → Leaves m q (table.replace_prop s m step uri p).tree
  leaves_prop prop.Acl a b = effect_leaves (table.acl_refusals s m step uri) m _ q (leaves_put _)
  leaves_prop prop.Name a b = leaves_name (a refl) (b refl)
  leaves_prop prop.Title a b = effect_leaves (table.title_refusals s m step uri) m _ q (leaves_put _)
  leaves_prop prop.Format a b = leaves_other
  leaves_prop prop.Size a b = leaves_other
  leaves_prop prop.Media a b = leaves_other
  leaves_prop prop.VerNo a b = leaves_other
  leaves_prop prop.TStamp a b = leaves_other

  leaves_replace : (r : Query) → (is_name_query r ≡ true → is_below uri.path q ≡ false)
      → (is_name_query r ≡ true → is_below (beside uri.path step.value) q ≡ false)
      → Leaves m q (table.replace s m step uri r).tree
  leaves_replace query.Plain a b = leaves_value
  leaves_replace (query.Prop p) a b = leaves_prop p a b
  leaves_replace query.Struct a b = leaves_other
  leaves_replace query.StructData a b = leaves_other

  leaves_delete : is_below uri.path q ≡ false → Leaves m q (table.delete s m uri).tree
  leaves_delete apart = effect_leaves (table.delete_refusals s m uri) m _ q
      (get-pruned m uri.path q ∙ ap (λ b. cond (not b) (get m q) None) apart)

  leaves_verb : (v : Verb) → (moves v uri.query ≡ true → is_below uri.path q ≡ false)
      → (is_name_query uri.query ≡ true → is_below (beside uri.path step.value) q ≡ false)
      → Leaves m q (table.by_verb s m step uri v).tree
  leaves_verb verb.Copy a b = refl
  leaves_verb verb.Exec a b = leaves_exec
  leaves_verb verb.Get a b = effect_leaves (table.get_refusals s m uri) m _ q refl
  leaves_verb verb.Add a b = effect_leaves (table.add_refusals s m step uri) m _ q (leaves_put _)
  leaves_verb verb.Replace a b = leaves_replace uri.query a b
  leaves_verb verb.Delete a b = leaves_delete (a refl)

-- ---- the whole step

pub step_leaves_others : StepLeavesOthers
unfolding act
step_leaves_others s m step text uri q target reads elsewhere =
    by_refusal (first_refusal (table.step_refusals step))
  where
    at_uri : Leaves m q (table.at_target s m step (table.target_in step.target)).tree
    at_uri =
        subst (λ t. Leaves m q (table.at_target s m step (table.target_in t)).tree) (sym target)
        (subst (λ r. Leaves m q (table.at_target s m step (table.uri_or_code r)).tree) (sym reads)
        (leaves_verb s m step uri q elsewhere.target elsewhere.state step.verb elsewhere.moved elsewhere.name))

    by_refusal : (o : Option ℕ) → Leaves m q (table.at_target s m step (table.target_unless o step)).tree
    by_refusal None = at_uri
    by_refusal (Some code) = refl
