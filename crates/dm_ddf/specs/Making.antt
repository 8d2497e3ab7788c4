-- The tree that a description asks for, made rule by rule.
use Rattle.std.specs.Prelude.{◌&&◌, ◌||◌, ◌+◌, ℕ, zero, suc, Bool}
use Rattle.std.specs.Prelude.{not, if◌then◌else◌, List, [], ◌∷◌, ◌++◌, get_or, codes}
use Rattle.std.specs.Prelude.{Option, Some, None, drop}
use Rattle.std.specs.Fmt.{decimal}
use Rattle.std.specs.FinMap.{insert, empty}
use Rattle.dm_tree.specs.declared.nodes.NewNode.{NewNode}
use Rattle.dm_tree.specs.declared.nodes.Role.TheVariants.{Plain}
use Rattle.dm_tree.specs.declared.nodes.Value.{Value}
use Rattle.dm_tree.specs.Nodes.{Path, Nodes, first_stamp, made, root_node, is_format, is_node_format}
use Rattle.dm_start.specs.Growing.{start_acl, value_of, interior_value, new_node, may_stand}
use Rattle.dm_ddf.specs.declared.rules.Rule.{Rule}
use Rattle.dm_ddf.specs.Rules.{is_inner, is_needed, is_wild, has_named}

-- the root alone, with the access list `Add=*&Get=*`
abbrev pub only_root : Nodes
only_root = insert empty [] (root_node start_acl)

-- ---- the node for a rule

-- `x1`, `x2` and so on
abbrev pub numbered_name : ℕ → List ℕ
numbered_name n = codes "x" ++ decimal n

-- the first of these, from the n-th on, that no rule right below p has; when so many had one, the next
unfoldable pub free_name : List Rule → ℕ → ℕ → ℕ → List ℕ
free_name rules p n zero = numbered_name n
free_name rules p n (suc more) =
    if has_named rules p (numbered_name n) then free_name rules p (n + 1) more else numbered_name n

-- the rule's name; for `*` the first of `x1`, `x2` and so on that no rule beside it has, which are 4,095 at most
abbrev pub made_name : List Rule → Rule → List ℕ
made_name rules rule = if is_wild rule.name then free_name rules rule.parent 1 4095 else rule.name

-- its Format is the first of the rule's
abbrev pub first_format : Rule → List ℕ
first_format rule = get_or rule.formats 0 []

-- a leaf has the Type text/plain and no byte
abbrev pub made_value : Rule → Value
made_value rule = if is_inner rule then interior_value else value_of (first_format rule) (codes "text/plain") []

-- neither access list nor title; permanent where SCOPE is perm
abbrev pub made_node : Rule → NewNode
made_node rule = new_node (is_inner rule) (made_value rule) rule.permanent Plain

-- ---- rule by rule

-- the nodes so far, and for each rule so far the path of its node, if one was made
pub record Making : Type 0 where
  pub nodes : Nodes
  pub paths : List (Option Path)

abbrev pub without_node : Making → Making
without_node m = record m { paths = m.paths ++ None ∷ [] }

abbrev pub with_rule_node : Making → Path → NewNode → Making
with_rule_node m p new = record { nodes = insert m.nodes p (made first_stamp new); paths = m.paths ++ Some p ∷ [] }

-- its Format is one for a leaf, or it is interior
abbrev pub has_format_for : Rule → Bool
has_format_for rule = is_inner rule || (is_format (first_format rule) && not (is_node_format (first_format rule)))

-- a node of this rule may stand there: it always may where the rules were read of a text
abbrev pub may_be_made : Nodes → Path → Rule → Bool
may_be_made m p rule = has_format_for rule && may_stand m p rule.permanent

abbrev pub made_at : Making → Path → Rule → Making
made_at m p rule = if may_be_made m.nodes p rule then with_rule_node m p (made_node rule) else without_node m

-- below the node for the rule above, if one was made
abbrev pub made_below : List Rule → Making → Rule → Option Path → Making
made_below rules m rule None = without_node m
made_below rules m rule (Some above) = made_at m (above ++ made_name rules rule ∷ []) rule

-- where one at least is needed
abbrev pub after_rule : List Rule → Making → Rule → Making
after_rule rules m rule =
    if is_needed rule.occurs then made_below rules m rule (get_or m.paths rule.parent None) else without_node m

abbrev pub after_rules : List Rule → Making → List Rule → Making
after_rules rules m [] = m
after_rules rules m (rule ∷ others) = after_rules rules (after_rule rules m rule) others

-- the root stands for the top, which comes before all rules
unfoldable pub asked_tree : List Rule → Nodes
asked_tree rules =
    (after_rules rules (record { nodes = only_root; paths = Some [] ∷ [] }) (drop 1 rules)).nodes
