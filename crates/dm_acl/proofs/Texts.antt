-- How the parts of a text stand one behind the other.
use Rattle.std.proofs.Common.{◌≡◌, ℕ, List, [], ◌∷◌, ◌++◌, map, refl, ap, sym, ◌∙◌, append_assoc, append-nil, Option}
use Rattle.std.proofs.Common.{Some, None}
use Rattle.std.specs.List.{join_with_byte, flat_map}
use Rattle.dm_acl.specs.declared.values.Right.{Right}
use Rattle.dm_acl.specs.declared.values.Right.TheVariants as right
use Rattle.dm_acl.specs.declared.values.Servers.{Servers}
use Rattle.dm_acl.specs.declared.values.AclEntry.{AclEntry}
use Rattle.dm_acl.specs.declared.values.Entries.{Entries}
use Rattle.dm_acl.specs.Grammar.{head_of, servers_text, entry_text, entries_text, entry_for, entries_in, printed}
use Rattle.dm_acl.specs.Printing.{behind_sign, with_entry_text}

-- joined pieces are the first, and each other one behind a sign
pub joined : (c : ℕ) (x : List ℕ) (ys : List (List ℕ)) → join_with_byte c (x ∷ ys) ≡ x ++ flat_map (λ y. c ∷ y) ys
joined c x [] = sym (append-nil x)
joined c x (y ∷ ys) = ap (λ r. x ++ c ∷ r) (joined c y ys)

pub names_put : (old mid new first : List ℕ) (more names : List (List ℕ)) → names ≡ first ∷ more → mid ≡ old ++ first
    → new ≡ mid ++ flat_map (λ y. 43 ∷ y) more → new ≡ old ++ join_with_byte 43 names
names_put old mid new first more names is one rest =
    rest ∙ ap (λ m. m ++ flat_map (λ y. 43 ∷ y) more) one
    ∙ append_assoc old first (flat_map (λ y. 43 ∷ y) more)
    ∙ ap (λ t. old ++ t) (sym (ap (join_with_byte 43) is ∙ joined 43 first more))

-- ---- entry by entry

abbrev add_texts : List ℕ → List AclEntry → List ℕ
add_texts out [] = out
add_texts out (e ∷ es) = add_texts (behind_sign out (entry_text e)) es

one : (out : List ℕ) (r : Right) (o : Option Servers) → with_entry_text out r o ≡ add_texts out (entry_for r o)
one out r None = refl
one out r (Some s) = refl

more : (out : List ℕ) (xs ys : List AclEntry) → add_texts (add_texts out xs) ys ≡ add_texts out (xs ++ ys)
more out [] ys = refl
more out (x ∷ xs) ys = more (behind_sign out (entry_text x)) xs ys

behind : (b : ℕ) (bs : List ℕ) (es : List AclEntry)
    → add_texts (b ∷ bs) es ≡ (b ∷ bs) ++ flat_map (λ y. 38 ∷ y) (map entry_text es)
behind b bs [] = sym (append-nil (b ∷ bs))
behind b bs (e ∷ es) =
    behind b (bs ++ 38 ∷ entry_text e) es
    ∙ append_assoc (b ∷ bs) (38 ∷ entry_text e) (flat_map (λ y. 38 ∷ y) (map entry_text es))

first : (r : Right) (s : Servers) (es : List AclEntry)
    → add_texts (head_of r ++ servers_text s) es ≡ (head_of r ++ servers_text s)
    ++ flat_map (λ y. 38 ∷ y) (map entry_text es)
first right.Add s es = behind _ _ es
first right.Delete s es = behind _ _ es
first right.Exec s es = behind _ _ es
first right.Get s es = behind _ _ es
first right.Replace s es = behind _ _ es

all : (es : List AclEntry) → add_texts [] es ≡ entries_text es
all [] = refl
all (e ∷ es) = first e.right e.servers es ∙ sym (joined 38 (entry_text e) (map entry_text es))

two : (out next : List ℕ) (xs : List AclEntry) (r : Right) (o : Option Servers) → out ≡ add_texts [] xs
    → next ≡ with_entry_text out r o → next ≡ add_texts [] (xs ++ entry_for r o)
two out next xs r o before e =
    e ∙ one out r o ∙ ap (λ t. add_texts t (entry_for r o)) before ∙ more [] xs (entry_for r o)

pub written : (acl : Entries) (a b c d e : List ℕ)
    → a ≡ with_entry_text [] right.Add acl.add → b ≡ with_entry_text a right.Delete acl.delete
    → c ≡ with_entry_text b right.Exec acl.exec
    → d ≡ with_entry_text c right.Get acl.get → e ≡ with_entry_text d right.Replace acl.replace → e ≡ printed acl
unfolding printed
written acl a b c d e ha hb hc hd he =
    let s1 = ha ∙ one [] right.Add acl.add in
    let one_in = entry_for right.Add acl.add in
    let two_in = one_in ++ entry_for right.Delete acl.delete in
    let three_in = two_in ++ entry_for right.Exec acl.exec in
    let s2 = two a b one_in right.Delete acl.delete s1 hb in
    let s3 = two b c two_in right.Exec acl.exec s2 hc in
    let s4 = two c d three_in right.Get acl.get s3 hd in
    let s5 = two d e (three_in ++ entry_for right.Get acl.get) right.Replace acl.replace s4 he in
    s5 ∙ all (entries_in acl)
