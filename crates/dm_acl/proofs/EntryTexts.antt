-- An entry and its text.
use Rattle.std.proofs.Common.{◌≡◌, ◌==◌, ◌&&◌, ℕ, List, [], ◌∷◌, ◌++◌, length, drop, refl, ap, sym, ◌∙◌, subst, Bool}
use Rattle.std.proofs.Common.{true, false, not, if◌then◌else◌, rules, Option, Some, None, Decides, bytes_eq, nat_lt}
use Rattle.std.proofs.Common.{nat_le}
use Rattle.std.specs.Prelude.{codes}
use Rattle.std.specs.List.{join_with_byte, list_all, AllByRecursion}
use Rattle.std.proofs.lemmas.Slice.Eq.{bytes_eq-Decides, starts_is}
use Rattle.std.proofs.lemmas.List.Folds.{list_all-append}
use Rattle.std.proofs.lemmas.Bool.{false≢true}
use borrow.Author.Tests.{tests}
use Rattle.dm_base.specs.Fields.{is_visible, is_acl_sign}
use Rattle.dm_acl.specs.declared.values.Right.{Right}
use Rattle.dm_acl.specs.declared.values.Right.TheVariants as right
use Rattle.dm_acl.specs.declared.values.Servers.{Servers}
use Rattle.dm_acl.specs.declared.values.Servers.TheVariants.{Everybody, Named}
use Rattle.dm_acl.specs.declared.values.AclEntry.{AclEntry}
use Rattle.dm_acl.specs.Grammar.{is_name_byte, is_server_name, IsServers, IsEntry, servers_text, head_of, entry_text}
use Rattle.dm_acl.specs.Grammar.{meant, meant_entry, unrepeated}
use Rattle.dm_acl.specs.Reading.{names_in, named, servers_in, begins_entry, right_in, entry_with, entry_behind}
use Rattle.dm_acl.specs.Reading.{entry_in}
use Rattle.dm_acl.specs.Laws.{has_no}
use Rattle.dm_acl.proofs.Splits.{and_true, both_true, not_true, split_joined, joined_split}

-- ---- a good name has none of the signs

no_sign : (c b : ℕ) → is_acl_sign c ≡ true → is_name_byte b ≡ true → not (b == c) ≡ true
no_sign c b sign good = ap not (by_test (b == c) refl)
  where
    by_test : (t : Bool) → (b == c) ≡ t → (b == c) ≡ false
    by_test true is =
        let same : b ≡ c = search (rules, tests) in
        let none = (and_true (is_visible b) (not (is_acl_sign b)) good).1 in
        absurd (false≢true (sym (ap not (ap is_acl_sign same ∙ sign)) ∙ none))
    by_test false is = is

no_signs : (c : ℕ) (name : List ℕ) → is_acl_sign c ≡ true → list_all is_name_byte name ≡ true → has_no c name ≡ true
no_signs c [] sign good = refl
no_signs c (b ∷ bs) sign good =
    let parts = and_true (is_name_byte b) (list_all is_name_byte bs) good in
    both_true (not (b == c)) (has_no c bs) (no_sign c b sign parts.0) (no_signs c bs sign parts.1)

name_parts : (name : List ℕ) → is_server_name name ≡ true
    → (nat_lt 0 (length name) ≡ true) × (list_all is_name_byte name ≡ true)
name_parts name good =
    let outer = and_true (nat_lt 0 (length name) && nat_le (length name) 64) (list_all is_name_byte name) good in
    let inner = and_true (nat_lt 0 (length name)) (nat_le (length name) 64) outer.0 in
    (inner.0, outer.1)

clear_names : (c : ℕ) (names : List (List ℕ)) → is_acl_sign c ≡ true → list_all is_server_name names ≡ true
    → AllByRecursion (λ part. has_no c part ≡ true) names
clear_names c [] sign good = tt
clear_names c (n ∷ ns) sign good =
    let parts = and_true (is_server_name n) (list_all is_server_name ns) good in
    (no_signs c n sign (name_parts n parts.0).1, clear_names c ns sign parts.1)

-- ---- a list of servers

not_star : (b : ℕ) (bs : List ℕ) → is_name_byte b ≡ true → bytes_eq (b ∷ bs) (codes "*") ≡ false
not_star b bs good = ap (λ t. t && bytes_eq bs []) (not_true (b == 42) (no_sign 42 b refl good))

list_read : (b : ℕ) (bs : List ℕ) (names : List (List ℕ)) → is_name_byte b ≡ true → list_all is_server_name names ≡ true
    → names_in (b ∷ bs) ≡ names
    → servers_in (b ∷ bs) ≡ Some (Named (unrepeated names))
list_read b bs names first good is =
    ap (λ t. if t then Some Everybody else named (list_all is_server_name (names_in (b ∷ bs))) (names_in (b ∷ bs)))
    (not_star b bs first)
    ∙ ap (λ ns. named (list_all is_server_name ns) ns) is
    ∙ ap (λ t. named t names) good

servers_read : (s : Servers) → IsServers s → servers_in (servers_text s) ≡ Some (meant s)
servers_read Everybody h = refl
servers_read (Named []) h = refl
servers_read (Named ([] ∷ ns)) h = cc
servers_read (Named ((b ∷ bs) ∷ [])) h =
    let good = (and_true (is_server_name (b ∷ bs)) (list_all is_server_name []) h).0 in
    let first = and_true (is_name_byte b) (list_all is_name_byte bs) (name_parts (b ∷ bs) good).1 in
    list_read b bs ((b ∷ bs) ∷ []) first.0 h (split_joined 43 (b ∷ bs) [] (clear_names 43 ((b ∷ bs) ∷ []) refl h))
servers_read (Named ((b ∷ bs) ∷ n ∷ ns)) h =
    let good = (and_true (is_server_name (b ∷ bs)) (list_all is_server_name (n ∷ ns)) h).0 in
    let first = and_true (is_name_byte b) (list_all is_name_byte bs) (name_parts (b ∷ bs) good).1 in
    list_read b (bs ++ 43 ∷ join_with_byte 43 (n ∷ ns)) ((b ∷ bs) ∷ n ∷ ns) first.0 h
    (split_joined 43 (b ∷ bs) (n ∷ ns) (clear_names 43 ((b ∷ bs) ∷ n ∷ ns) refl h))

none≢some : {A : Type 0} {x : A} → None ≡ Some x → ⊥
none≢some e = cc

named_of : (t : Bool) (names : List (List ℕ)) (s : Servers) → list_all is_server_name names ≡ t → named t names ≡ Some s
    → (list_all is_server_name names ≡ true) × (s ≡ meant (Named names))
named_of true names s is h = (is, cc)
named_of false names s is h = absurd (none≢some h)

servers_by : (t : Bool) (b : ℕ) (bs : List ℕ) (s : Servers) → bytes_eq (b ∷ bs) (codes "*") ≡ t
    → (if t then Some Everybody else named (list_all is_server_name (names_in (b ∷ bs))) (names_in (b ∷ bs))) ≡ Some s
    → (w : Servers) × IsServers w × (b ∷ bs ≡ servers_text w) × (s ≡ meant w)
servers_by true b bs s is h = (Everybody, tt, (bytes_eq-Decides (b ∷ bs) (codes "*")).0 is, cc)
servers_by false b bs s is h =
    let got = named_of (list_all is_server_name (names_in (b ∷ bs))) (names_in (b ∷ bs)) s refl h in
    (Named (names_in (b ∷ bs)), got.0, sym (joined_split 43 (b ∷ bs)), got.1)

servers_of : (list : List ℕ) (s : Servers) → servers_in list ≡ Some s
    → (w : Servers) × IsServers w × (list ≡ servers_text w) × (s ≡ meant w)
servers_of [] s h = (Named [], refl, refl, cc)
servers_of (b ∷ bs) s h = servers_by (bytes_eq (b ∷ bs) (codes "*")) b bs s refl h

-- ---- an entry

right_read : (r : Right) (list : List ℕ) → right_in (head_of r ++ list) ≡ Some r
right_read right.Add list = refl
right_read right.Delete list = refl
right_read right.Exec list = refl
right_read right.Get list = refl
right_read right.Replace list = refl

behind_head : (r : Right) (list : List ℕ) → drop (length (head_of r)) (head_of r ++ list) ≡ list
behind_head right.Add list = refl
behind_head right.Delete list = refl
behind_head right.Exec list = refl
behind_head right.Get list = refl
behind_head right.Replace list = refl

-- the text of an entry is read as what it means
pub entry_read : (e : AclEntry) → IsEntry e → entry_in (entry_text e) ≡ Some (meant_entry e)
entry_read e good =
    ap (entry_behind (entry_text e)) (right_read e.right (servers_text e.servers))
    ∙ ap (λ list. entry_with e.right (servers_in list)) (behind_head e.right (servers_text e.servers))
    ∙ ap (entry_with e.right) (servers_read e.servers good)

-- ---- and back

eqb-both : (a b : ℕ) → Decides (a == b) (a ≡ b)
eqb-both a b = (λ h. search (rules, tests), λ h. search (rules, tests))

begun : (part : List ℕ) (r : Right) → begins_entry part r ≡ true → part ≡ head_of r ++ drop (length (head_of r)) part
begun part r h = (starts_is eqb-both part (head_of r) (begins_entry part r) refl).0 h

right_by : (part : List ℕ) (r got : Right) (t : Bool) (rest : Option Right) → begins_entry part r ≡ t
    → (rest ≡ Some got → begins_entry part got ≡ true)
    → (if t then Some r else rest) ≡ Some got → begins_entry part got ≡ true
right_by part r got true rest is below h = subst (λ r. begins_entry part r ≡ true) (some_same r got h) is
  where
    some_same : (a b : Right) → Some a ≡ Some b → a ≡ b
    some_same a b e = cc
right_by part r got false rest is below h = below h

right_of : (part : List ℕ) (got : Right) → right_in part ≡ Some got → begins_entry part got ≡ true
right_of part got h =
    right_by part right.Add got (begins_entry part right.Add) _ refl
    (right_by part right.Delete got (begins_entry part right.Delete) _ refl
    (right_by part right.Exec got (begins_entry part right.Exec) _ refl
    (right_by part right.Get got (begins_entry part right.Get) _ refl
    (right_by part right.Replace got (begins_entry part right.Replace) None refl (λ e. absurd (none≢some e))))))
    h

with_of : (r : Right) (o : Option Servers) (e : AclEntry) → entry_with r o ≡ Some e
    → (s : Servers) × (o ≡ Some s) × (e ≡ record { right = r; servers = s })
with_of r None e h = absurd (none≢some h)
with_of r (Some s) e h = (s, refl, cc)

behind_of : (part : List ℕ) (o : Option Right) (e : AclEntry) → entry_behind part o ≡ Some e
    → (r : Right) × (o ≡ Some r) × (entry_with r (servers_in (drop (length (head_of r)) part)) ≡ Some e)
behind_of part None e h = absurd (none≢some h)
behind_of part (Some r) e h = (r, refl, h)

-- what is read as an entry is the text of one, as what it means
pub entry_from : (part : List ℕ) (e : AclEntry) → entry_in part ≡ Some e → (w : AclEntry) × IsEntry w × (part ≡ entry_text w)
    × (e ≡ meant_entry w)
entry_from part e h =
    let named = behind_of part (right_in part) e h in
    let r = named.0 in
    let got = with_of r (servers_in (drop (length (head_of r)) part)) e named.2 in
    let list = servers_of (drop (length (head_of r)) part) got.0 got.1 in (
      record { right = r; servers = list.0 },
      list.1,
      begun part r (right_of part r named.1) ∙ ap (λ l. head_of r ++ l) list.2,
      got.2 ∙ ap (λ s. record { right = r; servers = s }) list.3,
    )

-- ---- no `&` stands in an entry

clear_more : (names : List (List ℕ)) (n : List ℕ) → has_no 38 n ≡ true
    → AllByRecursion (λ part. has_no 38 part ≡ true) names → has_no 38 (join_with_byte 43 (n ∷ names)) ≡ true
clear_more [] n one h = one
clear_more (m ∷ ms) n one h =
    list_all-append (λ b. not (b == 38)) n (43 ∷ join_with_byte 43 (m ∷ ms))
    ∙ both_true (has_no 38 n) (has_no 38 (43 ∷ join_with_byte 43 (m ∷ ms))) one (clear_more ms m h.0 h.1)

clear_servers : (s : Servers) → IsServers s → has_no 38 (servers_text s) ≡ true
clear_servers Everybody h = refl
clear_servers (Named []) h = refl
clear_servers (Named (n ∷ ns)) h =
    let all = clear_names 38 (n ∷ ns) refl h in
    clear_more ns n all.0 all.1

clear_head : (r : Right) (list : List ℕ) → has_no 38 list ≡ true → has_no 38 (head_of r ++ list) ≡ true
clear_head right.Add list h = h
clear_head right.Delete list h = h
clear_head right.Exec list h = h
clear_head right.Get list h = h
clear_head right.Replace list h = h

pub clear_entry : (e : AclEntry) → IsEntry e → has_no 38 (entry_text e) ≡ true
clear_entry e h = clear_head e.right (servers_text e.servers) (clear_servers e.servers h)
