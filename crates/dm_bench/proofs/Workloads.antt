-- No line of a workload's start section is refused.
use Rattle.std.proofs.Common.{◌≡◌, ◌≢◌, ◌≤◌, ◌<◌, ◌+◌, ℕ, true, false, List, [], ◌∷◌, ◌++◌, None, Some, Ok, refl, sym}
use Rattle.std.proofs.Common.{ap, subst, ◌∙◌}
use Rattle.std.proofs.Common.{arith}
use Rattle.std.specs.Prelude.{codes, IsTrue}
use Rattle.std.specs.FinMap.{get, insert, len, empty, get-empty, get-insert, len-empty}
use Rattle.dm_base.specs.Laws.{HexIsReadAgain}
use Rattle.dm_base.specs.declared.lines.LineReason.TheVariants as reason
use Rattle.dm_base.specs.declared.values.Limits.{Limits}
use Rattle.dm_uri.specs.Reading.{parse_of}
use Rattle.dm_acl.specs.declared.values.Entries.{Entries}
use Rattle.dm_acl.specs.declared.values.Servers.TheVariants.{Everybody}
use Rattle.dm_acl.specs.Reading.{parse_of as parse_acl, after_part}
use Rattle.dm_auth.specs.declared.accounts.Account.{Account}
use Rattle.dm_tree.specs.declared.nodes.Node.{Node}
use Rattle.dm_tree.specs.declared.nodes.Role.TheVariants as role
use Rattle.dm_tree.specs.Nodes.{Path, Nodes, tree_order, first_stamp, made, counted, root_node, with_acl}
use Rattle.dm_tree.proofs.Paths.{tree_total}
use Rattle.dm_tree.proofs.RowMaps.{insert_here, insert_beside}
use Rattle.dm_start.specs.declared.heads.DeviceInfo.{DeviceInfo}
use Rattle.dm_start.specs.declared.heads.Head.TheVariants as head
use Rattle.dm_start.specs.declared.telling.Phase.TheVariants as phase
use Rattle.dm_start.specs.Growing.{new_node, interior_value, start_acl, bare_tree, device_part, all_inserted}
use Rattle.dm_start.specs.Growing.{start_nodes}
use Rattle.dm_start.specs.Growing.{nodes_after, with_acl_at, with_one}
use Rattle.dm_fields.specs.Refusing.{or_refused}
use Rattle.dm_start.specs.Start.{Setup, Section, opening, telling, after_line, lines_after, section_of_lines}
use Rattle.dm_start.specs.Start.{with_nodes}
use Rattle.dm_bench.specs.Start.{Leads, head_lines, leaf_lines, start_lines, setup_told, start_of, WorkloadIsTold}
use Rattle.dm_bench.proofs.Leading.{head_leads, leads_on, leads_to}
use Rattle.dm_bench.proofs.Naming.{group_path, leaf_path}
use Rattle.dm_bench.proofs.Growing.{Grown, top_path, insert_most, stands, grown_by, ends, leaves_led}

abbrev device : DeviceInfo
device = record {
  dev_id = codes "d";
  man = codes "m";
  model = codes "o";
  dm_v = codes "1.2";
  lang = codes "en";
}

abbrev limits : Limits
limits = record { max_msg = 65536; max_obj = 4194304 }

abbrev account : Account
account = record {
  server = codes "b";
  server_password = None;
  server_nonce = [];
  user = None;
  user_password = None;
  user_nonce = [];
}

-- full rights for everybody
abbrev rights : Entries
rights = record {
  add = Some Everybody;
  delete = Some Everybody;
  exec = Some Everybody;
  get = Some Everybody;
  replace = Some Everybody;
}

abbrev first_nodes : Nodes
first_nodes = start_nodes first_stamp device

abbrev told_with : List Account → Nodes → Setup
told_with accounts nodes =
    record { version = 1; limits = limits; accounts = accounts; nodes = nodes; clock = first_stamp }

abbrev old_root : Node
old_root = counted (root_node start_acl) 0 first_stamp

abbrev new_root : Node
new_root = with_acl old_root (Some rights)

abbrev second_nodes : Nodes
second_nodes = insert first_nodes [] new_root

abbrev top_node : Node
top_node = made first_stamp (new_node true interior_value false role.Plain)

abbrev third_nodes : Nodes
third_nodes = insert second_nodes top_path top_node

-- ---- the tree before the first group

root_there : get first_nodes [] ≡ Some old_root
unfolding start_nodes
root_there = simp (get-insert {X = Node} tree_total) refl

none_below : (rest : Path) → get first_nodes (codes "B" ∷ rest) ≡ None
unfolding start_nodes
none_below rest = simp (get-insert {X = Node} tree_total, get-empty {X = Node} tree_order) refl

still_none : (rest : Path) → get second_nodes (codes "B" ∷ rest) ≡ None
still_none rest = insert_beside first_nodes [] (codes "B" ∷ rest) new_root (λ e. cc) ∙ none_below rest

most_inserted : (m : Nodes) (n : ℕ) (p : Path) (x : Node) → len m ≤ n → len (insert m p x) ≤ n + 1
most_inserted m n p x h = let more = insert_most m p x in omega (arith, more, h)

first_few : len first_nodes ≤ 7
unfolding start_nodes
first_few =
    most_inserted _ 6 _ _
    (most_inserted _ 5 _ _
    (most_inserted _ 4 _ _
    (most_inserted _ 3 _ _
    (most_inserted _ 2 _ _
    (most_inserted _ 1 _ _
    (most_inserted empty 0 [] old_root (let none = len-empty tree_order Node in omega (arith, none))))))))

second_few : len second_nodes ≤ 8
second_few = most_inserted first_nodes 7 [] new_root first_few

third_few : len third_nodes ≤ 9
third_few = most_inserted second_nodes 8 top_path top_node second_few

first_grown : Grown (told_with (account ∷ []) third_nodes) 0 0
first_grown = record {
  top = top_node;
  top_there = insert_here second_nodes top_path top_path top_node refl;
  top_takes = refl;
  there = λ g l. absurd (omega (arith, l));
  no_group = λ g l k.
      insert_beside second_nodes top_path (group_path g) top_node (λ e. cc) ∙ still_none _;
  no_leaf = λ k l f.
      insert_beside second_nodes top_path (leaf_path k) top_node (λ e. cc) ∙ still_none _;
  room = let few = third_few in omega (arith, few);
}

-- ---- the lines in front of the leaves

line_one : after_line (opening head.First) (codes "dm-trace 1") ≡ Ok (opening (head.Device 1))
unfolding after_line
line_one = refl

line_two : after_line (opening (head.Device 1)) (codes "device d m o 1.2 en") ≡ Ok (opening (head.Limits 1 device))
unfolding after_line
line_two = refl

line_three : after_line (opening (head.Limits 1 device)) (codes "limits 65536 4194304")
    ≡ Ok (telling phase.Accounts (told_with [] first_nodes))
unfolding after_line
line_three = refl

line_four : after_line (telling phase.Accounts (told_with [] first_nodes)) (codes "account b - - - - -")
    ≡ Ok (telling phase.Accounts (told_with (account ∷ []) first_nodes))
unfolding after_line
line_four = refl

line_five : after_line (telling phase.Accounts (told_with (account ∷ []) first_nodes))
    (codes "acl . Add=*&Delete=*&Exec=*&Get=*&Replace=*")
    ≡ Ok (telling phase.Nodes (told_with (account ∷ []) second_nodes))
unfolding after_line nodes_after parse_of parse_acl after_part
line_five =
    ap (λ o. with_nodes (told_with (account ∷ []) first_nodes)
    (or_refused reason.Tree o (λ node. Ok (insert first_nodes [] (with_acl node (Some rights)))))) root_there

line_six : after_line (telling phase.Nodes (told_with (account ∷ []) second_nodes)) (codes "interior ./B")
    ≡ Ok (telling phase.Nodes (told_with (account ∷ []) third_nodes))
unfolding after_line nodes_after parse_of
line_six =
    ap (with_nodes (told_with (account ∷ []) second_nodes))
    (stands first_stamp second_nodes top_path (new_node true interior_value false role.Plain) new_root refl
    (still_none []) (insert_here first_nodes [] [] new_root refl) refl refl
    (let few = second_few in omega (arith, few)))

head_led : Leads (opening head.First) head_lines (telling phase.Nodes (told_with (account ∷ []) third_nodes))
head_led = head_leads _ _ _ _ _ _ _ line_one line_two line_three line_four line_five line_six

-- ---- the whole section

pub workload_is_told : HexIsReadAgain → WorkloadIsTold
unfolding start_of
workload_is_told again nodes few =
    let led = leaves_led again (told_with (account ∷ []) third_nodes) nodes few first_grown in
    let all =
    leads_on head_lines (leaf_lines nodes) (opening head.First)
    (telling phase.Nodes (told_with (account ∷ []) third_nodes)) (telling phase.Nodes led.behind) head_led led.leads in
    let is : section_of_lines (start_lines nodes) ≡ Ok (telling phase.Begun led.behind) =
    leads_to (head_lines ++ leaf_lines nodes) 1 (opening head.First) (telling phase.Nodes led.behind) led.behind all
    (ends led.behind) in
    is ∙ ap (λ told. Ok (telling phase.Begun told)) (sym (ap setup_told is))
