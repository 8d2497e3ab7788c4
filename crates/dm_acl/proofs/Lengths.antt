-- How long texts are: what is read is printed in no more bytes.
use Rattle.std.proofs.Common.{◌≡◌, ◌≤◌, ◌+◌, ℕ, List, [], ◌∷◌, ◌++◌, length, map, arith, refl, ap, ◌∙◌, Bool, true}
use Rattle.std.proofs.Common.{false, if◌then◌else◌, bytes_eq, Option, Some, None}
use Rattle.std.specs.List.{join_with_byte, list_any}
use Rattle.std.proofs.lemmas.List.{length-append, map-append}
use Rattle.dm_acl.specs.declared.values.Right.{Right}
use Rattle.dm_acl.specs.declared.values.Right.TheVariants as right
use Rattle.dm_acl.specs.declared.values.Servers.{Servers}
use Rattle.dm_acl.specs.declared.values.Servers.TheVariants.{Everybody, Named}
use Rattle.dm_acl.specs.declared.values.AclEntry.{AclEntry}
use Rattle.dm_acl.specs.declared.values.Entries.{Entries}
use Rattle.dm_acl.specs.Grammar.{servers_text, head_of, entry_text, entries_text, name_added, with_names, unrepeated}
use Rattle.dm_acl.specs.Grammar.{meant, meant_entry, with_servers, with_entry, with_entries, no_entries, entry_for}
use Rattle.dm_acl.specs.Grammar.{entries_in, printed}

-- the bytes of pieces, and one for each
abbrev size : List (List ℕ) → ℕ
size [] = 0
size (x ∷ xs) = length x + 1 + size xs

size_append : (xs ys : List (List ℕ)) → size (xs ++ ys) ≡ size xs + size ys
size_append [] ys = omega arith
size_append (x ∷ xs) ys = let e = size_append xs ys in omega (arith, e)

joined_size : (c : ℕ) (x : List ℕ) (xs : List (List ℕ)) → length (join_with_byte c (x ∷ xs)) + 1 ≡ size (x ∷ xs)
joined_size c x [] = omega arith
joined_size c x (y ∷ ys) =
    let e = joined_size c y ys in
    let l = length-append x (c ∷ join_with_byte c (y ∷ ys)) in
    omega (arith, e, l)

-- ---- names without repeats

name_by : (found : Bool) (names : List (List ℕ)) (name : List ℕ)
    → size (if found then names else names ++ name ∷ []) ≤ size names + (length name + 1)
name_by true names name = omega arith
name_by false names name = let e = size_append names (name ∷ []) in omega (arith, e)

names_size : (names more : List (List ℕ)) → size (with_names names more) ≤ size names + size more
names_size names [] = omega arith
names_size names (x ∷ xs) =
    let a = names_size (name_added names x) xs in
    let b = name_by (list_any (λ other. bytes_eq other x) names) names x in
    omega (arith, a, b)

joined_shorter : (c : ℕ) (xs ys : List (List ℕ)) → size xs ≤ size ys
    → length (join_with_byte c xs) ≤ length (join_with_byte c ys)
joined_shorter c [] ys h = omega arith
joined_shorter c (x ∷ xs) [] h = absurd (omega (arith, h))
joined_shorter c (x ∷ xs) (y ∷ ys) h =
    let a = joined_size c x xs in
    let b = joined_size c y ys in
    omega (arith, a, b, h)

meant_shorter : (s : Servers) → length (servers_text (meant s)) ≤ length (servers_text s)
meant_shorter Everybody = omega arith
meant_shorter (Named names) =
    let h = names_size [] names in
    joined_shorter 43 (unrepeated names) names (omega (arith, h))

entry_shorter : (r : Right) (s : Servers)
    → length (head_of r ++ servers_text (meant s)) ≤ length (head_of r ++ servers_text s)
entry_shorter r s =
    let h = meant_shorter s in
    let a = length-append (head_of r) (servers_text (meant s)) in
    let b = length-append (head_of r) (servers_text s) in
    omega (arith, h, a, b)

-- ---- the entries of an access list

-- the bytes of an entry's text, and one, where there is an entry
cost : Right → Option Servers → ℕ
cost r None = 0
cost r (Some s) = length (head_of r ++ servers_text s) + 1

total : Entries → ℕ
total acl =
    cost right.Add acl.add + cost right.Delete acl.delete + cost right.Exec acl.exec + cost right.Get acl.get
    + cost right.Replace acl.replace

put_total : (acl : Entries) (r : Right) (s : Servers) → total (with_servers acl r s) ≤ total acl + cost r (Some s)
unfolding total
put_total acl right.Add s = omega arith
put_total acl right.Delete s = omega arith
put_total acl right.Exec s = omega arith
put_total acl right.Get s = omega arith
put_total acl right.Replace s = omega arith

cost_some : (r : Right) (s : Servers) → cost r (Some s) ≡ length (head_of r ++ servers_text s) + 1
unfolding cost
cost_some r s = refl

entries_total : (es : List AclEntry) (acl : Entries) → total (with_entries acl es) ≤ total acl + size (map entry_text es)
entries_total [] acl = omega arith
entries_total (e ∷ es) acl =
    let a = entries_total es (with_entry acl (meant_entry e)) in
    let b = put_total acl e.right (meant e.servers) in
    let c = cost_some e.right (meant e.servers) in
    let d = entry_shorter e.right e.servers in
    omega (arith, a, b, c, d)

none_total : total no_entries ≡ 0
unfolding total cost
none_total = refl

for_size : (r : Right) (o : Option Servers) → size (map entry_text (entry_for r o)) ≡ cost r o
unfolding cost
for_size r None = refl
for_size r (Some s) = omega arith

both_size : (xs ys : List AclEntry)
    → size (map entry_text (xs ++ ys)) ≡ size (map entry_text xs) + size (map entry_text ys)
both_size xs ys = ap size (map-append entry_text xs ys) ∙ size_append (map entry_text xs) (map entry_text ys)

-- five lists of entries, one behind the other
five_size : (a b c d e : List AclEntry) → size (map entry_text (a ++ b ++ c ++ d ++ e))
    ≡ size (map entry_text a) + size (map entry_text b) + size (map entry_text c) + size (map entry_text d)
    + size (map entry_text e)
five_size a b c d e =
    let w = both_size (a ++ b ++ c ++ d) e in
    let x = both_size (a ++ b ++ c) d in
    let y = both_size (a ++ b) c in
    let z = both_size a b in
    omega (arith, w, x, y, z)

in_total : (acl : Entries) → size (map entry_text (entries_in acl)) ≡ total acl
unfolding total
in_total acl =
    let all : size (map entry_text (entries_in acl)) ≡ _ =
    five_size (entry_for right.Add acl.add) (entry_for right.Delete acl.delete) (entry_for right.Exec acl.exec)
    (entry_for right.Get acl.get) (entry_for right.Replace acl.replace) in
    let a = for_size right.Add acl.add in
    let d = for_size right.Delete acl.delete in
    let e = for_size right.Exec acl.exec in
    let g = for_size right.Get acl.get in
    let r = for_size right.Replace acl.replace in
    omega (arith, all, a, d, e, g, r)

-- what entries mean is printed in no more bytes than they are written in
pub printed_shorter : (es : List AclEntry) → length (printed (with_entries no_entries es)) ≤ length (entries_text es)
unfolding printed
printed_shorter es =
    let acl = with_entries no_entries es in
    let a = entries_total es no_entries in
    let b = in_total acl in
    let c = none_total in
    joined_shorter 38 (map entry_text (entries_in acl)) (map entry_text es) (omega (arith, a, b, c))
