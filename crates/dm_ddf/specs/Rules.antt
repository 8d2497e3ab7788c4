-- A description: rules for the nodes of a tree. The rules are numbered from 1 by their lines; number 0 is the top, for
-- which the root stands.
use Rattle.std.specs.Prelude.{◌==◌, ◌&&◌, ◌||◌, ℕ, Bool, true, false, not, nat_le, nat_lt, List, [], ◌∷◌, length}
use Rattle.std.specs.Prelude.{get_or}
use Rattle.std.specs.Prelude.{bytes_eq, codes, Option, Some, None, find}
use Rattle.std.specs.List.{list_any}
use Rattle.dm_ddf.specs.declared.rules.Access.{Access}
use Rattle.dm_ddf.specs.declared.rules.Occurs.{Occurs}
use Rattle.dm_ddf.specs.declared.rules.Occurs.TheVariants as occurs
use Rattle.dm_ddf.specs.declared.rules.Rule.{Rule}

abbrev pub no_access : Access
no_access = record { add = false; delete = false; exec = false; get = false; replace = false }

-- the top is for a permanent interior node, and its name is never looked at
abbrev pub top_rule : Rule
top_rule = record {
  name = codes "top";
  permanent = true;
  access = no_access;
  formats = codes "node" ∷ [];
  occurs = occurs.One;
  parent = 0;
  children = [];
  written = 1;
}

abbrev pub rule_at : List Rule → ℕ → Rule
rule_at rules k = get_or rules k top_rule

-- the numbers of the rules right below a rule, in order
abbrev pub child_rules : List Rule → ℕ → List ℕ
child_rules rules k = (rule_at rules k).children

-- the rule for every name that no rule beside it has
abbrev pub is_wild : List ℕ → Bool
is_wild name = bytes_eq name (codes "*")

-- a rule right below the rule k has this name
abbrev pub has_named : List Rule → ℕ → List ℕ → Bool
has_named rules k name = list_any (λ s. bytes_eq (rule_at rules s).name name) (child_rules rules k)

-- a child of this name of a node that stands for the rule k stands for the rule r, one right below k: r has that name,
-- or is `*` and no rule right below k has it
abbrev pub stands_for : List Rule → ℕ → List ℕ → ℕ → Bool
stands_for rules k name r =
    bytes_eq (rule_at rules r).name name
    || (is_wild (rule_at rules r).name && not (has_named rules k name))

-- the rule that such a child stands for
abbrev pub child_rule : List Rule → ℕ → List ℕ → Option ℕ
child_rule rules k name = find (stands_for rules k name) (child_rules rules k)

-- a rule for interior nodes
abbrev pub is_inner : Rule → Bool
is_inner rule = list_any (λ f. bytes_eq f (codes "node")) rule.formats

-- ---- how many children may stand for a rule

-- one at least
abbrev pub is_needed : Occurs → Bool
is_needed occurs.One = true
is_needed occurs.ZeroOrOne = false
is_needed occurs.ZeroOrMore = false
is_needed occurs.OneOrMore = true
is_needed (occurs.ZeroOrN n) = false
is_needed (occurs.OneOrN n) = true

-- too few of them, and too many
abbrev pub are_few : Occurs → ℕ → Bool
are_few rule count = is_needed rule && count == 0

abbrev pub are_many : Occurs → ℕ → Bool
are_many occurs.One count = nat_lt 1 count
are_many occurs.ZeroOrOne count = nat_lt 1 count
are_many occurs.ZeroOrMore count = false
are_many occurs.OneOrMore count = false
are_many (occurs.ZeroOrN n) count = nat_lt n count
are_many (occurs.OneOrN n) count = nat_lt n count
