-- The entries of an access list, command by command.
use Rattle.std.proofs.Common.{◌≡◌, ◌⊎◌, inl, inr, List, [], ◌∷◌, refl, ap, sym, ◌∙◌, subst, true, false, Option, Some}
use Rattle.std.proofs.Common.{None, is_some}
use Rattle.std.specs.Bool.{⊤}
use Rattle.dm_acl.specs.declared.values.Right.{Right}
use Rattle.dm_acl.specs.declared.values.Right.TheVariants as right
use Rattle.dm_acl.specs.declared.values.Servers.{Servers}
use Rattle.dm_acl.specs.declared.values.AclEntry.{AclEntry}
use Rattle.dm_acl.specs.declared.values.Entries.{Entries}
use Rattle.dm_acl.specs.Grammar.{Names, AreOnce, entry_of, with_servers, with_entry, with_entries, meant, meant_entry}
use Rattle.dm_acl.specs.Grammar.{no_entries}

-- an entry is put for its command, and the others stay
pub put : (acl : Entries) (a r : Right) (s : Servers) → ((a ≡ r) × (entry_of (with_servers acl a s) r ≡ Some s))
    ⊎ (entry_of (with_servers acl a s) r ≡ entry_of acl r)
put acl right.Add right.Add s = inl (refl, refl)
put acl right.Add right.Delete s = inr refl
put acl right.Add right.Exec s = inr refl
put acl right.Add right.Get s = inr refl
put acl right.Add right.Replace s = inr refl
put acl right.Delete right.Add s = inr refl
put acl right.Delete right.Delete s = inl (refl, refl)
put acl right.Delete right.Exec s = inr refl
put acl right.Delete right.Get s = inr refl
put acl right.Delete right.Replace s = inr refl
put acl right.Exec right.Add s = inr refl
put acl right.Exec right.Delete s = inr refl
put acl right.Exec right.Exec s = inl (refl, refl)
put acl right.Exec right.Get s = inr refl
put acl right.Exec right.Replace s = inr refl
put acl right.Get right.Add s = inr refl
put acl right.Get right.Delete s = inr refl
put acl right.Get right.Exec s = inr refl
put acl right.Get right.Get s = inl (refl, refl)
put acl right.Get right.Replace s = inr refl
put acl right.Replace right.Add s = inr refl
put acl right.Replace right.Delete s = inr refl
put acl right.Replace right.Exec s = inr refl
put acl right.Replace right.Get s = inr refl
put acl right.Replace right.Replace s = inl (refl, refl)

pub put_here : (acl : Entries) (r : Right) (s : Servers) → entry_of (with_servers acl r s) r ≡ Some s
put_here acl right.Add s = refl
put_here acl right.Delete s = refl
put_here acl right.Exec s = refl
put_here acl right.Get s = refl
put_here acl right.Replace s = refl

pub none_at : (r : Right) → entry_of no_entries r ≡ None
none_at right.Add = refl
none_at right.Delete = refl
none_at right.Exec = refl
none_at right.Get = refl
none_at right.Replace = refl

-- entries one after the other, each of a command that has none yet
abbrev pub AreNew : Entries → List AclEntry → Type 0
AreNew acl [] = ⊤
AreNew acl (e ∷ es) = (entry_of acl e.right ≡ None) × AreNew (with_entry acl (meant_entry e)) es

-- none of the entries' commands has an entry
abbrev pub AreFree : Entries → List AclEntry → Type 0
AreFree acl es = (r : Right) → Names es r → entry_of acl r ≡ None

some≢none : {A : Type 0} (x : A) (o : Option A) → o ≡ Some x → o ≡ None → ⊥
some≢none x o a b = cc

free_next : (acl : Entries) (e : AclEntry) (es : List AclEntry) → (Names es e.right → ⊥) → AreFree acl (e ∷ es)
    → AreFree (with_entry acl (meant_entry e)) es
free_next acl e es other free r named =
    free_by (put acl e.right r (meant e.servers))
  where
    free_by : ((e.right ≡ r) × (entry_of (with_entry acl (meant_entry e)) r ≡ Some (meant e.servers)))
        ⊎ (entry_of (with_entry acl (meant_entry e)) r ≡ entry_of acl r)
        → entry_of (with_entry acl (meant_entry e)) r ≡ None
    free_by (inl same) = absurd (other (subst (Names es) (sym same.0) named))
    free_by (inr kept) = kept ∙ free r (inr named)

pub new_from_once : (es : List AclEntry) (acl : Entries) → AreOnce es → AreFree acl es → AreNew acl es
new_from_once [] acl once free = tt
new_from_once (e ∷ es) acl once free =
    (free e.right (inl refl), new_from_once es (with_entry acl (meant_entry e)) once.1 (free_next acl e es once.0 free))

free_first : (acl : Entries) (e : AclEntry) (es : List AclEntry) → entry_of acl e.right ≡ None
    → AreFree (with_entry acl (meant_entry e)) es → AreFree acl (e ∷ es)
free_first acl e es none free r (inl same) = subst (λ r. entry_of acl r ≡ None) same none
free_first acl e es none free r (inr named) =
    free_by (put acl e.right r (meant e.servers))
  where
    free_by : ((e.right ≡ r) × (entry_of (with_entry acl (meant_entry e)) r ≡ Some (meant e.servers)))
        ⊎ (entry_of (with_entry acl (meant_entry e)) r ≡ entry_of acl r) → entry_of acl r ≡ None
    free_by (inl same) = absurd (some≢none _ _ same.1 (free r named))
    free_by (inr kept) = sym kept ∙ free r named

pub once_from_new : (es : List AclEntry) (acl : Entries) → AreNew acl es → AreOnce es × AreFree acl es
once_from_new [] acl new = (tt, λ r h. absurd h)
once_from_new (e ∷ es) acl new =
    let rest = once_from_new es (with_entry acl (meant_entry e)) new.1 in (
      (λ named. some≢none _ _ (put_here acl e.right (meant e.servers)) (rest.1 e.right named), rest.0),
      free_first acl e es new.0 rest.1,
    )

pub new_of_once : (es : List AclEntry) → AreOnce es → AreNew no_entries es
new_of_once es once = new_from_once es no_entries once (λ r h. none_at r)

-- ---- which commands have an entry

has_next : (acl : Entries) (e : AclEntry) (r : Right) → is_some (entry_of (with_entry acl (meant_entry e)) r) ≡ true
    → (e.right ≡ r) ⊎ (is_some (entry_of acl r) ≡ true)
has_next acl e r h =
    has_by (put acl e.right r (meant e.servers))
  where
    has_by : ((e.right ≡ r) × (entry_of (with_entry acl (meant_entry e)) r ≡ Some (meant e.servers)))
        ⊎ (entry_of (with_entry acl (meant_entry e)) r ≡ entry_of acl r)
        → (e.right ≡ r) ⊎ (is_some (entry_of acl r) ≡ true)
    has_by (inl same) = inl same.0
    has_by (inr kept) = inr (sym (ap is_some kept) ∙ h)

has_kept : (acl : Entries) (e : AclEntry) (r : Right) → is_some (entry_of acl r) ≡ true
    → is_some (entry_of (with_entry acl (meant_entry e)) r) ≡ true
has_kept acl e r h =
    has_by (put acl e.right r (meant e.servers))
  where
    has_by : ((e.right ≡ r) × (entry_of (with_entry acl (meant_entry e)) r ≡ Some (meant e.servers)))
        ⊎ (entry_of (with_entry acl (meant_entry e)) r ≡ entry_of acl r)
        → is_some (entry_of (with_entry acl (meant_entry e)) r) ≡ true
    has_by (inl same) = ap is_some same.1
    has_by (inr kept) = ap is_some kept ∙ h

-- a command has an entry where one of the entries names it, or where it had one
pub named_from_has : (es : List AclEntry) (acl : Entries) (r : Right) → is_some (entry_of (with_entries acl es) r) ≡ true
    → Names es r ⊎ (is_some (entry_of acl r) ≡ true)
named_from_has [] acl r h = inr h
named_from_has (e ∷ es) acl r h =
    named_by (named_from_has es (with_entry acl (meant_entry e)) r h)
  where
    named_by : Names es r ⊎ (is_some (entry_of (with_entry acl (meant_entry e)) r) ≡ true)
        → Names (e ∷ es) r ⊎ (is_some (entry_of acl r) ≡ true)
    named_by (inl named) = inl (inr named)
    named_by (inr has) = first_by (has_next acl e r has)
      where
        first_by : (e.right ≡ r) ⊎ (is_some (entry_of acl r) ≡ true)
            → Names (e ∷ es) r ⊎ (is_some (entry_of acl r) ≡ true)
        first_by (inl same) = inl (inl same)
        first_by (inr had) = inr had

pub has_stays : (es : List AclEntry) (acl : Entries) (r : Right) → is_some (entry_of acl r) ≡ true
    → is_some (entry_of (with_entries acl es) r) ≡ true
has_stays [] acl r h = h
has_stays (e ∷ es) acl r h = has_stays es (with_entry acl (meant_entry e)) r (has_kept acl e r h)

pub has_from_named : (es : List AclEntry) (acl : Entries) (r : Right) → Names es r
    → is_some (entry_of (with_entries acl es) r) ≡ true
has_from_named [] acl r h = absurd h
has_from_named (e ∷ es) acl r (inl same) =
    has_stays es (with_entry acl (meant_entry e)) r
    (subst (λ r. is_some (entry_of (with_entry acl (meant_entry e)) r) ≡ true) same
    (ap is_some (put_here acl e.right (meant e.servers))))
has_from_named (e ∷ es) acl r (inr named) = has_from_named es (with_entry acl (meant_entry e)) r named

pub named_of_has : (es : List AclEntry) (r : Right) → is_some (entry_of (with_entries no_entries es) r) ≡ true → Names es r
named_of_has es r h =
    named_by (named_from_has es no_entries r h)
  where
    named_by : Names es r ⊎ (is_some (entry_of no_entries r) ≡ true) → Names es r
    named_by (inl named) = named
    named_by (inr has) = absurd (some_at (sym has ∙ ap is_some (none_at r)))
      where
        some_at : true ≡ false → ⊥
        some_at e = cc
