-- The nodes of a device come to stand one after another.
use Rattle.std.proofs.Common.{◌≡◌, ℕ, List, [], Ok, refl, sym, ◌∙◌, ap}
use Rattle.std.specs.Prelude.{Result}
use Rattle.std.specs.FinMap.{get-insert, get-empty, len-insert, len-empty}
use Rattle.dm_base.specs.declared.lines.LineReason.{LineReason}
use Rattle.dm_base.specs.declared.values.Limits.{Limits}
use Rattle.dm_auth.specs.declared.accounts.Account.{Account}
use Rattle.dm_tree.specs.declared.nodes.Node.{Node}
use Rattle.dm_tree.specs.declared.nodes.Stamp.{Stamp}
use Rattle.dm_tree.specs.Nodes.{Nodes, tree_order}
use Rattle.dm_tree.specs.Rows.{Tree, nodes}
use Rattle.dm_tree.proofs.Paths.{tree_total}
use Rattle.dm_fields.specs.declared.errors.LineError.{LineError}
use Rattle.dm_fields.specs.declared.errors.LineError.TheVariants as line_error
use Rattle.dm_start.specs.declared.heads.DeviceInfo.{DeviceInfo}
use Rattle.dm_start.specs.declared.telling.Phase.TheVariants as phase
use Rattle.dm_start.specs.Growing.{with_all, bare_tree, device_part, start_nodes}
use Rattle.dm_fields.specs.Refusing.{Refuses}
use Rattle.dm_start.specs.Start.{Section, telling, accounts_next, told_of}

pub device_stands : (clock : Stamp) (d : DeviceInfo)
    → with_all clock (bare_tree clock) (device_part d) ≡ Ok (start_nodes clock d)
unfolding start_nodes
device_stands clock d =
    simp (
      get-insert {X = Node} tree_total,
      get-empty {X = Node} tree_order,
      len-insert {X = Node} tree_total,
      len-empty tree_order Node,
    ) refl

pub never_refused : (clock : Stamp) (d : DeviceInfo) (wanted : Result Section LineReason) (e : LineError)
    → Refuses (with_all clock (bare_tree clock) (device_part d)) e → Refuses wanted e
never_refused clock d wanted (line_error.Bad why) said = absurd (let stands = device_stands clock d in cc)
never_refused clock d wanted line_error.Memory said = tt

pub started_is : (version : ℕ) (d : DeviceInfo) (limits : Limits) (clock : Stamp) (accounts : List Account) (tree : Tree)
    → accounts ≡ []
    → with_all clock (bare_tree clock) (device_part d) ≡ Ok (nodes tree.rows) → tree.clock ≡ clock
    → accounts_next version d limits clock
    ≡ telling phase.Accounts (told_of (record { version = version; limits = limits; accounts = accounts; tree = tree }))
started_is version d limits clock accounts tree none said at =
    let same : start_nodes clock d ≡ nodes tree.rows = same_ok _ _ (sym (device_stands clock d) ∙ said) in
    ap (λ n. telling phase.Accounts
    (record { version = version; limits = limits; accounts = []; nodes = n; clock = clock })) same
    ∙ ap (λ a. telling phase.Accounts
    (record { version = version; limits = limits; accounts = a; nodes = nodes tree.rows; clock = clock }))
    (sym none)
    ∙ ap (λ k. telling phase.Accounts
    (record { version = version; limits = limits; accounts = accounts; nodes = nodes tree.rows; clock = k }))
    (sym at)
  where
    same_ok : (x y : Nodes) → ◌≡◌ {A = Result Nodes LineReason} (Ok x) (Ok y) → x ≡ y
    same_ok x y h = cc
