-- A message has no more CmdIDs than bytes.
use Rattle.std.proofs.Common.{◌≡◌, ◌≤◌, ◌+◌, ℕ, zero, suc, Bool, List, [], ◌∷◌, length, length-append, take}
use Rattle.std.proofs.Common.{ap, ◌∙◌, arith}
use Rattle.wbxml_tokens.specs.Spelling.{spelled, page_behind}
use Rattle.syncml_types.specs.declared.values.Header.{Header}
use Rattle.syncml_types.specs.declared.command.Command.{Command}
use Rattle.syncml_types.specs.Message.{Parts}
use Rattle.syncml_types.specs.Canonical.{canonical, commands_tokens}
use Rattle.syncml_parts.specs.Numbering.{with_numbers, ids_in}
use Rattle.syncml_parts.proofs.Parted.{spells_commands}
use Rattle.dm_pack.specs.Filling.{numbered}
use Rattle.dm_pack.specs.Measures.{ids_of}
use Rattle.dm_pack.proofs.Numbers.{many_bytes}
use Rattle.dm_pack.proofs.Measuring.{one_alone, long_parted}

ids-bytes : (page n : ℕ) (cs : List Command) → ids_of cs ≤ length (spelled page (commands_tokens (numbered n cs)))
ids-bytes page n [] = omega arith
ids-bytes page n (c ∷ cs) =
    let d = with_numbers n c in
    let ns = numbered (n + ids_in c) cs in
    let behind = page_behind page (commands_tokens (d ∷ [])) in
    let both = ap length (spells_commands page (d ∷ []) ns).0
    ∙ length-append (spelled page (commands_tokens (d ∷ []))) (spelled behind (commands_tokens ns)) in
    let first = ap (λ ts. length (spelled page ts)) (one_alone d) in
    let one = many_bytes page n c in
    let rest = ids-bytes behind (n + ids_in c) cs in
    omega (arith, both, first, one, rest)

body-low : (h : Header) (cs : List Command) (last : Bool)
    → ids_of cs ≤ length (canonical (record { header = h; body = numbered 1 cs; last = last }))
body-low h [] last = omega arith
body-low h (c ∷ cs) last =
    let many = ids-bytes 0 1 (c ∷ cs) in
    let long = long_parted h (numbered 1 (c ∷ cs)) last (omega arith) in
    omega (arith, many, long)

ids-taken : (at : ℕ) (cs : List Command) → ids_of (take at cs) ≤ ids_of cs
ids-taken zero cs = omega arith
ids-taken (suc at) [] = omega arith
ids-taken (suc at) (c ∷ cs) = let rest = ids-taken at cs in omega (arith, rest)

pub ids_low : (m : Parts) (cs : List Command) (at : ℕ) → m.body ≡ numbered 1 cs → length (canonical m) ≤ 65536
    → 1 + ids_of (take at cs) ≤ 70000
ids_low m cs at is short =
    let same = ap (λ (b : List Command). length (canonical (record { header = m.header; body = b; last = m.last })))
    is in
    let most = body-low m.header cs m.last in
    let some = ids-taken at cs in
    omega (arith, same, most, some, short)
