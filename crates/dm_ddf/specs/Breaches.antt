-- Where a tree breaks a description: the breaches of each node in their order, and the first of a tree.
use Rattle.std.specs.Prelude.{◌==◌, ◌&&◌, ◌||◌, ℕ, Bool, not, if◌then◌else◌, List, [], ◌∷◌, length, filter, slice_get}
use Rattle.std.specs.Prelude.{Option, Some}
use Rattle.std.specs.Prelude.{None, true, false, option_map, option_and_then, unwrap_or}
use Rattle.std.specs.Option.{option_map_or, option_or}
use Rattle.std.specs.FinMap.{get, keys}
use Rattle.dm_acl.specs.declared.values.Entries.{Entries}
use Rattle.dm_acl.specs.declared.values.Right.{Right}
use Rattle.dm_acl.specs.declared.values.Right.TheVariants as right
use Rattle.dm_acl.specs.Grammar.{has_entry}
use Rattle.dm_tree.specs.declared.nodes.Node.{Node}
use Rattle.dm_tree.specs.Nodes.{Path, Nodes, last_name}
use Rattle.dm_tree.specs.Order.{children}
use Rattle.dm_ddf.specs.declared.rules.Access.{Access}
use Rattle.dm_ddf.specs.declared.rules.Rule.{Rule}
use Rattle.dm_ddf.specs.declared.rules.Occurs.{Occurs}
use Rattle.dm_ddf.specs.declared.conforming.Why.{Why}
use Rattle.dm_ddf.specs.declared.conforming.Why.TheVariants as why
use Rattle.dm_ddf.specs.Fields.{has_access, has_format}
use Rattle.dm_ddf.specs.Rules.{rule_at, child_rules, child_rule, stands_for, are_few, are_many}

-- the first that is told of the members of a list
abbrev pub first_told : {X : Type 0} {Y : Type 0} → (X → Option Y) → List X → Option Y
first_told f [] = None
first_told f (x ∷ xs) = option_or (f x) (first_told f xs)

-- ---- which rule a node stands for

-- the rule for which a node stands that has this path from one that stands for the rule k
abbrev pub rule_from : List Rule → ℕ → Path → Option ℕ
rule_from rules k [] = Some k
rule_from rules k (name ∷ names) = option_and_then (λ r. rule_from rules r names) (child_rule rules k name)

-- the root stands for the top
abbrev pub rule_for : List Rule → Path → Option ℕ
rule_for rules p = rule_from rules 0 p

-- ---- the node itself

abbrev pub may_have : Access → Entries → Right → Bool
may_have access acl command = not (has_entry acl command) || has_access access command

-- each command of the list is among those of ACCESS
abbrev pub is_within_access : Access → Entries → Bool
is_within_access access acl =
    may_have access acl right.Add && may_have access acl right.Delete && may_have access acl right.Exec
    && may_have access acl right.Get && may_have access acl right.Replace

abbrev pub same_scope : Bool → Bool → Bool
same_scope true b = b
same_scope false b = not b

-- the Format of an interior node is `node`
abbrev pub own_breach : Rule → Node → Option Why
own_breach rule x =
    if not (has_format rule.formats x.value.format) then Some why.Format
    else if not (same_scope x.permanent rule.permanent) then Some why.Scope
    else if not (option_map_or (is_within_access rule.access) x.acl true) then Some why.Access
    else None

-- ---- its children

-- how many children of the node at p, which stands for the rule k, stand for the rule r
abbrev pub standing : Nodes → List Rule → Path → ℕ → ℕ → ℕ
standing m rules p k r = length (filter (λ q. stands_for rules k (unwrap_or (last_name q) []) r) (children m p))

abbrev pub count_breach : ℕ → Occurs → ℕ → Option Why
count_breach r occurs count =
    if are_few occurs count then Some (why.Few r) else if are_many occurs count then Some (why.Many r) else None

-- by the child rules in their order
abbrev pub counts_breach : Nodes → List Rule → Path → ℕ → Option Why
counts_breach m rules p k =
    first_told (λ r. count_breach r (rule_at rules r).occurs (standing m rules p k r)) (child_rules rules k)

-- ---- a node

abbrev pub inner_breach : Nodes → List Rule → Path → Node → ℕ → Option Why
inner_breach m rules p x k = if x.interior then counts_breach m rules p k else None

-- of the root, which has no name, only the children are looked at
abbrev pub outer_breach : List Rule → Option (List ℕ) → Node → ℕ → Option Why
outer_breach rules None x k = None
outer_breach rules (Some name) x k = option_and_then (λ (rule : Rule). own_breach rule x) (slice_get rules k)

abbrev pub rule_breach : Nodes → List Rule → Path → Node → Option ℕ → Option Why
rule_breach m rules p x None = Some why.NoRule
rule_breach m rules p x (Some k) = option_or (outer_breach rules (last_name p) x k) (inner_breach m rules p x k)

-- the first breach of the node x, which stands at p
abbrev pub node_breach : Nodes → List Rule → Path → Node → Option Why
node_breach m rules p x = rule_breach m rules p x (rule_for rules p)

abbrev pub breach_at : Nodes → List Rule → Path → Option Why
breach_at m rules p = option_and_then (node_breach m rules p) (get m p)

-- ---- a tree

abbrev pub breach_with : Nodes → List Rule → Path → Option (Path × Why)
breach_with m rules p = option_map (λ w. (p, w)) (breach_at m rules p)

-- the first of these nodes that has a breach, and its first
abbrev pub breach_among : Nodes → List Rule → List Path → Option (Path × Why)
breach_among m rules ps = first_told (breach_with m rules) ps

-- in the order of the tree text
unfoldable pub first_breach : Nodes → List Rule → Option (Path × Why)
first_breach m rules = breach_among m rules (keys m)
