-- A new node of which nothing is refused.
use Rattle.std.proofs.Common.{◌≡◌, ◌≤◌, ℕ, Bool, true, false, not, List, [], ◌∷◌, length, Option, None, refl, sym, ◌∙◌}
use Rattle.std.proofs.Common.{ap, subst, arith}
use Rattle.std.proofs.lemmas.Bool.Decides.{nat_tests}
use Rattle.std.specs.Prelude.{◌==◌, ◌&&◌, ◌||◌, nat_lt, IfSome}
use Rattle.dm_acl.specs.declared.values.Entries.{Entries}
use Rattle.dm_tree.specs.declared.nodes.NewNode.{NewNode}
use Rattle.dm_tree.specs.declared.nodes.Node.{Node}
use Rattle.dm_tree.specs.declared.nodes.Stamp.{Stamp}
use Rattle.dm_tree.specs.Nodes.{Nodes, is_format, is_node_format, made, first_stamp, IsValue, IsReadAgain, IsNewNode}
use Rattle.syncml_types.specs.declared.command.Step.{Step}
use Rattle.dm_commands.proofs.Besides.{not_zero}
use Rattle.dm_commands.specs.Outcomes.{first_refusal}
use Rattle.std.specs.FinMap.{len}
use Rattle.dm_commands.specs.Table.{has_bad_meta, added_format, added_media, added_node, node_refusals}

-- where nothing was refused, no test holds
pub passed : (b : Bool) (code : ℕ) (rs : List (Bool × ℕ)) → first_refusal ((b, code) ∷ rs) ≡ None
    → (b ≡ false) × (first_refusal rs ≡ None)
passed true code rs e = absurd (cc)
passed false code rs e = (refl, e)

neither : (a b : Bool) → (not a || b) ≡ false → (a ≡ true) × (b ≡ false)
neither true b e = (refl, e)
neither false b e = absurd (cc)

is_empty : (text : List ℕ) → (b : Bool) → (b && not (length text == 0)) ≡ false → b ≡ true → text ≡ []
is_empty [] b e h = refl
is_empty (x ∷ xs) true e h =
    let some : (length (x ∷ xs) == 0) ≡ false = not_zero (length (x ∷ xs)) (omega arith) in
    let both : true ≡ false = sym (ap not some) ∙ e in
    absurd (cc)
is_empty (x ∷ xs) false e h = absurd (cc)

not_more : (n : ℕ) → nat_lt 255 n ≡ false → n ≤ 255
not_more n e = grind (arith, nat_tests)

pub added_value : (m : Nodes) (step : Step) → first_refusal (node_refusals m step) ≡ None → length step.value ≤ 4194304
    → IsValue (added_node first_stamp step).interior (added_node first_stamp step).value
added_value m step e short =
    let format = added_format step in
    let media = added_media step in
    let full = (len m == 65536, 500) ∷ [] in
    let lacks = is_node_format format && not (length step.value == 0) in
    let meta = passed (has_bad_meta format media) 415 ((lacks, 400) ∷ full) e in
    let texts = neither (is_format format) (nat_lt 255 (length media)) meta.0 in
    let bytes = passed lacks 400 full meta.1 in
    record {
      format = texts.0;
      kind = refl;
      empty = is_empty step.value (is_node_format format) bytes.0;
      media = not_more (length media) texts.1;
      short = short;
    }

-- what is made of it is what the table says
pub added_new : (m : Nodes) (step : Step) (new : NewNode) → ((clock : Stamp) → made clock new ≡ added_node clock step)
    → first_refusal (node_refusals m step) ≡ None → length step.value ≤ 4194304 → IsNewNode new
added_new m step new e passed short =
    let is = e first_stamp in
    record {
      value = subst (λ (n : Node). IsValue n.interior n.value) (sym is) (added_value m step passed short);
      acl = subst (λ (o : Option Entries). IfSome o IsReadAgain) (sym (ap (λ (n : Node). n.acl) is)) tt;
      title = omega (arith, ap (λ (n : Node). length n.title) is);
    }
