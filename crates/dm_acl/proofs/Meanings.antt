-- What the entries of a text mean, and what an access list is written as.
use Rattle.std.proofs.Common.{◌≡◌, ◌⊎◌, inl, inr, ◌<◌, ℕ, List, [], ◌∷◌, ◌++◌, length, refl, ap, sym, ◌∙◌, subst, Bool}
use Rattle.std.proofs.Common.{true, false, ◌||◌, is_some, arith, if◌then◌else◌, bytes_eq, Option, Some, None}
use Rattle.std.specs.List.{AllByRecursion, list_any}
use Rattle.std.proofs.lemmas.List.Folds.{list_any-append}
use Rattle.std.proofs.lemmas.Slice.Eq.{bytes_eq-Decides}
use Rattle.dm_acl.specs.declared.values.Right.{Right}
use Rattle.dm_acl.specs.declared.values.Right.TheVariants as right
use Rattle.dm_acl.specs.declared.values.Servers.{Servers}
use Rattle.dm_acl.specs.declared.values.Servers.TheVariants.{Everybody, Named}
use Rattle.dm_acl.specs.declared.values.AclEntry.{AclEntry}
use Rattle.dm_acl.specs.declared.values.Entries.{Entries}
use Rattle.dm_acl.specs.Grammar.{is_server_name, IsServers, IsEntry, Names, AreOnce, entry_of, name_added, with_names}
use Rattle.dm_acl.specs.Grammar.{meant, meant_entry, with_entry, with_entries, no_entries, entry_for, entries_in}
use Rattle.dm_acl.specs.Grammar.{AreMeant, IsAcl, allowed_by, allowed_in, allowed}
use Rattle.dm_acl.specs.Laws.{Allow, is_one_of, AreDistinct, RepeatsAreLeftOut}
use Rattle.std.proofs.lemmas.Bool.{false≢true}
use Rattle.dm_acl.proofs.Names.{again, good_from}
use Rattle.dm_acl.proofs.Commands.{put, put_here, none_at, AreNew, has_from_named, named_of_has}

-- ---- the entries of a text are good, and none has a name twice

meant_good : (s : Servers) → IsServers s → AreMeant (Some (meant s))
meant_good Everybody h = (tt, refl)
meant_good (Named names) h = (good_from is_server_name [] names refl h, ap (λ ns. Named ns) (again names))

meant_by : (acl : Entries) (e : AclEntry) (r : Right) → IsEntry e → AreMeant (entry_of acl r)
    → ((e.right ≡ r) × (entry_of (with_entry acl (meant_entry e)) r ≡ Some (meant e.servers)))
    ⊎ (entry_of (with_entry acl (meant_entry e)) r ≡ entry_of acl r)
    → AreMeant (entry_of (with_entry acl (meant_entry e)) r)
meant_by acl e r good had (inl same) = subst AreMeant (sym same.1) (meant_good e.servers good)
meant_by acl e r good had (inr kept) = subst AreMeant (sym kept) had

meant_all : (es : List AclEntry) (acl : Entries) → AllByRecursion IsEntry es → ((r : Right) → AreMeant (entry_of acl r))
    → (r : Right) → AreMeant (entry_of (with_entries acl es) r)
meant_all [] acl good had r = had r
meant_all (e ∷ es) acl good had r =
    meant_all es (with_entry acl (meant_entry e)) good.1
    (λ r. meant_by acl e r good.0 (had r) (put acl e.right r (meant e.servers))) r

pub acl_of : (es : List AclEntry) → 0 < length es → AllByRecursion IsEntry es → IsAcl (with_entries no_entries es)
acl_of [] some good = absurd (omega arith)
acl_of (e ∷ es) some good = record {
  some = (e.right, has_from_named (e ∷ es) no_entries e.right (inl refl));
  good = meant_all (e ∷ es) no_entries good (λ r. subst AreMeant (sym (none_at r)) tt);
}

-- ---- the entries in the order of the commands mean the access list

all_append : (xs ys : List AclEntry) → AllByRecursion IsEntry xs → AllByRecursion IsEntry ys
    → AllByRecursion IsEntry (xs ++ ys)
all_append [] ys a b = b
all_append (x ∷ xs) ys a b = (a.0, all_append xs ys a.1 b)

new_append : (xs ys : List AclEntry) (acl : Entries) → AreNew acl xs → AreNew (with_entries acl xs) ys
    → AreNew acl (xs ++ ys)
new_append [] ys acl a b = b
new_append (x ∷ xs) ys acl a b = (a.0, new_append xs ys (with_entry acl (meant_entry x)) a.1 b)

with_append : (xs ys : List AclEntry) (acl : Entries) → with_entries acl (xs ++ ys) ≡ with_entries (with_entries acl xs) ys
with_append [] ys acl = refl
with_append (x ∷ xs) ys acl = with_append xs ys (with_entry acl (meant_entry x))

abbrev with_option : Entries → Right → Option Servers → Entries
with_option acl right.Add o = record acl { add = o }
with_option acl right.Delete o = record acl { delete = o }
with_option acl right.Exec o = record acl { exec = o }
with_option acl right.Get o = record acl { get = o }
with_option acl right.Replace o = record acl { replace = o }

own_option : (acl : Entries) (r : Right) → with_option acl r (entry_of acl r) ≡ acl
own_option acl right.Add = refl
own_option acl right.Delete = refl
own_option acl right.Exec = refl
own_option acl right.Get = refl
own_option acl right.Replace = refl

some_option : (acl : Entries) (r : Right) (s : Servers)
    → with_entries acl (record { right = r; servers = s } ∷ []) ≡ with_option acl r (Some (meant s))
some_option acl right.Add s = refl
some_option acl right.Delete s = refl
some_option acl right.Exec s = refl
some_option acl right.Get s = refl
some_option acl right.Replace s = refl

for_option : (acl : Entries) (r : Right) (o : Option Servers) → AreMeant o → entry_of acl r ≡ None
    → with_entries acl (entry_for r o) ≡ with_option acl r o
for_option acl r None h free = sym (own_option acl r) ∙ ap (with_option acl r) free
for_option acl r (Some s) h free = some_option acl r s ∙ ap (λ s. with_option acl r (Some s)) h.1

for_good : (r : Right) (o : Option Servers) → AreMeant o → AllByRecursion IsEntry (entry_for r o)
for_good r None h = tt
for_good r (Some s) h = (h.0, tt)

for_new : (acl : Entries) (r : Right) (o : Option Servers) → entry_of acl r ≡ None → AreNew acl (entry_for r o)
for_new acl r None free = tt
for_new acl r (Some s) free = (free, tt)

-- what is known of entries that mean an access list
record Mean (es : List AclEntry) (acl : Entries) : Type 0 where
  good : AllByRecursion IsEntry es
  new : AreNew no_entries es
  means : with_entries no_entries es ≡ acl

mean_more : (es : List AclEntry) (acl : Entries) (r : Right) (o : Option Servers) → AreMeant o → entry_of acl r ≡ None
    → Mean es acl → Mean (es ++ entry_for r o) (with_option acl r o)
mean_more es acl r o h free m = record {
  good = all_append es (entry_for r o) m.good (for_good r o h);
  new =
      new_append es (entry_for r o) no_entries m.new
      (subst (λ a. AreNew a (entry_for r o)) (sym m.means) (for_new acl r o free));
  means =
      with_append es (entry_for r o) no_entries ∙ ap (λ a. with_entries a (entry_for r o)) m.means
      ∙ for_option acl r o h free;
}

mean_in : (acl : Entries) → IsAcl acl → Mean (entries_in acl) acl
mean_in acl is =
    let a1 : Entries = record no_entries { add = acl.add } in
    let a2 : Entries = record a1 { delete = acl.delete } in
    let a3 : Entries = record a2 { exec = acl.exec } in
    let a4 : Entries = record a3 { get = acl.get } in
    let none : Mean [] no_entries = record { good = tt; new = tt; means = refl } in
    let m1 = mean_more [] no_entries right.Add acl.add (is.good right.Add) refl none in
    let m2 = mean_more (entry_for right.Add acl.add) a1 right.Delete acl.delete (is.good right.Delete) refl m1 in
    let m3 =
    mean_more (entry_for right.Add acl.add ++ entry_for right.Delete acl.delete) a2 right.Exec acl.exec
    (is.good right.Exec) refl m2 in
    let m4 =
    mean_more (entry_for right.Add acl.add ++ entry_for right.Delete acl.delete ++ entry_for right.Exec acl.exec) a3
    right.Get acl.get (is.good right.Get) refl m3 in
    mean_more (entry_for right.Add acl.add ++ entry_for right.Delete acl.delete ++ entry_for right.Exec acl.exec
    ++ entry_for right.Get acl.get) a4 right.Replace acl.replace (is.good right.Replace) refl m4

pub entries_good : (acl : Entries) → IsAcl acl → AllByRecursion IsEntry (entries_in acl)
entries_good acl is = (mean_in acl is).good

pub entries_new : (acl : Entries) → IsAcl acl → AreNew no_entries (entries_in acl)
entries_new acl is = (mean_in acl is).new

pub entries_mean : (acl : Entries) → IsAcl acl → with_entries no_entries (entries_in acl) ≡ acl
entries_mean acl is = (mean_in acl is).means

some_named : (es : List AclEntry) (r : Right) → Names es r → 0 < length es
some_named [] r h = absurd h
some_named (e ∷ es) r h = omega arith

pub entries_some : (acl : Entries) → IsAcl acl → 0 < length (entries_in acl)
entries_some acl is =
    let r = is.some.0 in
    let has = subst (λ a. is_some (entry_of a r) ≡ true) (sym (entries_mean acl is)) is.some.1 in
    some_named (entries_in acl) r (named_of_has (entries_in acl) r has)

-- ---- whom entries allow

-- a name stays among names without repeats
found_any : (names : List (List ℕ)) (name server : List ℕ) → list_any (λ other. bytes_eq other name) names ≡ true
    → name ≡ server → list_any (λ n. bytes_eq n server) names ≡ true
found_any names name server found same = subst (λ s. list_any (λ n. bytes_eq n s) names ≡ true) same found

or_same : (a b : Bool) → (b ≡ true → a ≡ true) → a ≡ (a || b)
or_same true b h = refl
or_same false true h = h refl
or_same false false h = refl

or_false : (a : Bool) → (a || false) ≡ a
or_false true = refl
or_false false = refl

any_by : (found : Bool) (names : List (List ℕ)) (name server : List ℕ)
    → list_any (λ other. bytes_eq other name) names ≡ found
    → list_any (λ n. bytes_eq n server) (if found then names else names ++ name ∷ [])
    ≡ (list_any (λ n. bytes_eq n server) names || bytes_eq name server)
any_by true names name server is =
    or_same (list_any (λ n. bytes_eq n server) names) (bytes_eq name server)
    (λ h. found_any names name server is ((bytes_eq-Decides name server).0 h))
any_by false names name server is =
    list_any-append (λ n. bytes_eq n server) names (name ∷ [])
    ∙ ap (λ b. list_any (λ n. bytes_eq n server) names || b) (or_false (bytes_eq name server))

or_assoc : (a b c : Bool) → ((a || b) || c) ≡ (a || (b || c))
or_assoc true b c = refl
or_assoc false b c = refl

any_kept : (names more : List (List ℕ)) (server : List ℕ)
    → list_any (λ n. bytes_eq n server) (with_names names more)
    ≡ (list_any (λ n. bytes_eq n server) names || list_any (λ n. bytes_eq n server) more)
any_kept names [] server = sym (or_false (list_any (λ n. bytes_eq n server) names))
any_kept names (x ∷ xs) server =
    any_kept (name_added names x) xs server
    ∙ ap (λ b. b || list_any (λ n. bytes_eq n server) xs)
    (any_by (list_any (λ other. bytes_eq other x) names) names x server refl)
    ∙ or_assoc (list_any (λ n. bytes_eq n server) names) (bytes_eq x server) (list_any (λ n. bytes_eq n server) xs)

-- ---- each name stands once

not_same : (a b : List ℕ) → bytes_eq a b ≡ false → bytes_eq b a ≡ false
not_same a b h = by_test (bytes_eq b a) refl
  where
    by_test : (t : Bool) → bytes_eq b a ≡ t → bytes_eq b a ≡ false
    by_test true is =
        let same : bytes_eq a b ≡ true = (bytes_eq-Decides a b).1 (sym ((bytes_eq-Decides b a).0 is)) in
        absurd (false≢true (sym h ∙ same))
    by_test false is = is

or_parts : (a b : Bool) → (a || b) ≡ false → (a ≡ false) × (b ≡ false)
or_parts true b e = cc
or_parts false b e = (refl, e)

distinct_push : (names : List (List ℕ)) (name : List ℕ) → AreDistinct names → is_one_of name names ≡ false
    → AreDistinct (names ++ name ∷ [])
distinct_push [] name h none = (refl, tt)
distinct_push (n ∷ ns) name h none =
    let parts = or_parts (bytes_eq n name) (is_one_of name ns) none in (
      list_any-append (λ other. bytes_eq other n) ns (name ∷ [])
          ∙ ap (λ b. b || (bytes_eq name n || false)) h.0
          ∙ ap (λ b. b || false) (not_same n name parts.0),
      distinct_push ns name h.1 parts.1,
    )

distinct_by : (found : Bool) (names : List (List ℕ)) (name : List ℕ) → is_one_of name names ≡ found → AreDistinct names
    → AreDistinct (if found then names else names ++ name ∷ [])
distinct_by true names name is h = h
distinct_by false names name is h = distinct_push names name h is

distinct_from : (names more : List (List ℕ)) → AreDistinct names → AreDistinct (with_names names more)
distinct_from names [] h = h
distinct_from names (x ∷ xs) h = distinct_from (name_added names x) xs (distinct_by (is_one_of x names) names x refl h)

pub repeats_are_left_out : RepeatsAreLeftOut
repeats_are_left_out names = (distinct_from [] names tt, λ name. any_kept [] names name)

-- ---- what an entry allows

meant_allows : (s : Servers) (server : List ℕ) → allowed_by (meant s) server ≡ allowed_by s server
meant_allows Everybody server = refl
meant_allows (Named names) server = any_kept [] names server

not_named : (acl : Entries) (e : AclEntry) (r : Right) → (e.right ≡ r → ⊥)
    → entry_of (with_entry acl (meant_entry e)) r ≡ entry_of acl r
not_named acl e r other = by_put (put acl e.right r (meant e.servers))
  where
    by_put : ((e.right ≡ r) × (entry_of (with_entry acl (meant_entry e)) r ≡ Some (meant e.servers)))
        ⊎ (entry_of (with_entry acl (meant_entry e)) r ≡ entry_of acl r)
        → entry_of (with_entry acl (meant_entry e)) r ≡ entry_of acl r
    by_put (inl same) = absurd (other same.0)
    by_put (inr kept) = kept

stays : (es : List AclEntry) (acl : Entries) (r : Right) → (Names es r → ⊥)
    → entry_of (with_entries acl es) r ≡ entry_of acl r
stays [] acl r none = refl
stays (e ∷ es) acl r none =
    stays es (with_entry acl (meant_entry e)) r (λ named. none (inr named))
    ∙ not_named acl e r (λ same. none (inl same))

allow_to : (es : List AclEntry) (acl : Entries) (server : List ℕ) (r : Right) → AreOnce es → Allow es server r
    → allowed (with_entries acl es) server r ≡ true
allow_to [] acl server r once h = absurd h
allow_to (e ∷ es) acl server r once (inl here) =
    ap (λ o. allowed_in o server)
    (stays es (with_entry acl (meant_entry e)) r (λ named. once.0 (subst (Names es) (sym here.0) named))
    ∙ sym (ap (entry_of (with_entry acl (meant_entry e))) here.0) ∙ put_here acl e.right (meant e.servers))
    ∙ meant_allows e.servers server ∙ here.1
allow_to (e ∷ es) acl server r once (inr later) = allow_to es (with_entry acl (meant_entry e)) server r once.1 later

allow_from : (es : List AclEntry) (acl : Entries) (server : List ℕ) (r : Right)
    → allowed (with_entries acl es) server r ≡ true → Allow es server r ⊎ (allowed acl server r ≡ true)
allow_from [] acl server r h = inr h
allow_from (e ∷ es) acl server r h =
    by_rest (allow_from es (with_entry acl (meant_entry e)) server r h)
  where
    by_rest : Allow es server r ⊎ (allowed (with_entry acl (meant_entry e)) server r ≡ true)
        → Allow (e ∷ es) server r ⊎ (allowed acl server r ≡ true)
    by_rest (inl later) = inl (inr later)
    by_rest (inr now) = by_put (put acl e.right r (meant e.servers))
      where
        by_put : ((e.right ≡ r) × (entry_of (with_entry acl (meant_entry e)) r ≡ Some (meant e.servers)))
            ⊎ (entry_of (with_entry acl (meant_entry e)) r ≡ entry_of acl r)
            → Allow (e ∷ es) server r ⊎ (allowed acl server r ≡ true)
        by_put (inl same) =
            inl (inl (same.0, sym (meant_allows e.servers server) ∙ sym (ap (λ o. allowed_in o server) same.1) ∙ now))
        by_put (inr kept) = inr (sym (ap (λ o. allowed_in o server) kept) ∙ now)

none_allowed : (server : List ℕ) (r : Right) → allowed no_entries server r ≡ true → ⊥
none_allowed server r h = false_true (sym (ap (λ o. allowed_in o server) (none_at r)) ∙ h)
  where
    false_true : false ≡ true → ⊥
    false_true e = cc

pub entries_allow : (es : List AclEntry) (server : List ℕ) (r : Right) → AreOnce es
    → (allowed (with_entries no_entries es) server r ≡ true → Allow es server r)
    × (Allow es server r → allowed (with_entries no_entries es) server r ≡ true)
entries_allow es server r once =
    (λ h. by_from (allow_from es no_entries server r h), allow_to es no_entries server r once)
  where
    by_from : Allow es server r ⊎ (allowed no_entries server r ≡ true) → Allow es server r
    by_from (inl h) = h
    by_from (inr none) = absurd (none_allowed server r none)
