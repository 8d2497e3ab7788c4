-- What stanzas make: lines, numbers and packages, with one stanza more and with one package more.
use Rattle.std.proofs.Common.{◌≡◌, ◌<◌, ◌+◌, ℕ, List, [], ◌∷◌, ◌++◌, length, filter, flat_map}
use Rattle.std.proofs.Common.{codes}
use Rattle.std.proofs.Common.{refl, sym, ap, subst, ◌∙◌, arith, append_assoc, append-nil, add-zero}
use Rattle.std.proofs.lemmas.Grind.{flat_map-append}
use Rattle.std.proofs.lemmas.List.Elements.{filter-append}
use Rattle.syncml_types.specs.declared.command.Command.{Command}
use Rattle.syncml_parts.specs.Numbering.{ids_in}
use Rattle.syncml_parts.specs.Packing.{last_changed}
use Rattle.dm_job.specs.declared.job.JobEntry.{JobEntry}
use Rattle.dm_job.specs.declared.draft.LinePlace.{LinePlace}
use Rattle.dm_job.specs.declared.draft.LinePlace.TheVariants as place
use Rattle.dm_job.specs.Reading.{entry_put}
use Rattle.dm_job.specs.Grammar.{Stanza, lines_of, command_of, package_lines, numbered_entries, ids_of_stanzas}
use Rattle.dm_job.specs.Grammar.{numbered_packages, has_some}
use Rattle.dm_job.specs.Grammar.{packages_of}
use Rattle.dm_job.proofs.Entries.{changed_append}

abbrev pub package_word : List ℕ
package_word = codes "package"

-- ---- lines

flat_more : (p : List Stanza) (s : Stanza) → flat_map lines_of (p ++ s ∷ []) ≡ flat_map lines_of p ++ lines_of s
flat_more p s = flat_map-append lines_of p (s ∷ []) ∙ ap (λ l. flat_map lines_of p ++ l) (append-nil (lines_of s))

-- one stanza more, in the last package
pub lines_more : (whole : List (List Stanza)) (p : List Stanza) (s : Stanza)
    → package_lines (whole ++ (p ++ s ∷ []) ∷ []) ≡ package_lines (whole ++ p ∷ []) ++ lines_of s
lines_more [] p s = flat_more p s
lines_more (q ∷ []) p s =
    ap (λ l. flat_map lines_of q ++ package_word ∷ l) (flat_more p s)
    ∙ sym (append_assoc (flat_map lines_of q) (package_word ∷ flat_map lines_of p) (lines_of s))
lines_more (q ∷ r ∷ rest) p s =
    ap (λ l. flat_map lines_of q ++ package_word ∷ l) (lines_more (r ∷ rest) p s)
    ∙ sym (append_assoc (flat_map lines_of q) (package_word ∷ package_lines ((r ∷ rest) ++ p ∷ [])) (lines_of s))

parted : (p : List Stanza) (ps : List (List Stanza))
    → package_lines ((p ∷ ps) ++ [] ∷ []) ≡ package_lines (p ∷ ps) ++ package_word ∷ []
parted p [] = refl
parted p (q ∷ qs) =
    ap (λ l. flat_map lines_of p ++ package_word ∷ l) (parted q qs)
    ∙ sym (append_assoc (flat_map lines_of p) (package_word ∷ package_lines (q ∷ qs)) (package_word ∷ []))

-- one package more, which is empty so far
pub lines_parted : (whole : List (List Stanza)) (p : List Stanza)
    → package_lines ((whole ++ p ∷ []) ++ [] ∷ []) ≡ package_lines (whole ++ p ∷ []) ++ package_word ∷ []
lines_parted [] p = parted p []
lines_parted (q ∷ rest) p = parted q (rest ++ p ∷ [])

-- ---- numbers

abbrev pub total : List (List Stanza) → ℕ
total [] = 0
total (p ∷ ps) = ids_of_stanzas p + total ps

pub ids_more : (p : List Stanza) (s : Stanza) → ids_of_stanzas (p ++ s ∷ []) ≡ ids_of_stanzas p + ids_in (command_of s)
ids_more [] s = omega arith
ids_more (x ∷ xs) s = let rest = ids_more xs s in omega (arith, rest)

pub total_more : (whole : List (List Stanza)) (p : List Stanza) → total (whole ++ p ∷ []) ≡ total whole + ids_of_stanzas p
total_more [] p = omega arith
total_more (q ∷ qs) p = let rest = total_more qs p in omega (arith, rest)

-- ---- entries

abbrev pub entry_of : ℕ → Command → JobEntry
entry_of n c = record { number = n; command = c }

pub entries_more : (n m : ℕ) (p : List Stanza) (s : Stanza) → m ≡ n + ids_of_stanzas p
    → numbered_entries n (p ++ s ∷ []) ≡ numbered_entries n p ++ entry_of m (command_of s) ∷ []
entries_more n m [] s is = ap (λ k. entry_of k (command_of s) ∷ []) (sym (is ∙ add-zero n))
entries_more n m (x ∷ xs) s is =
    ap (λ l. entry_of n (command_of x) ∷ l) (entries_more (n + ids_in (command_of x)) m xs s (omega (arith, is)))

pub entries_long : (n : ℕ) (p : List Stanza) → length (numbered_entries n p) ≡ length p
entries_long n [] = refl
entries_long n (s ∷ rest) = let more = entries_long (n + ids_in (command_of s)) rest in omega (arith, more)

numbered_more : (n m : ℕ) (whole : List (List Stanza)) (p : List Stanza) → m ≡ n + total whole
    → numbered_packages n (whole ++ p ∷ []) ≡ numbered_packages n whole ++ numbered_entries m p ∷ []
numbered_more n m [] p is = ap (λ k. numbered_entries k p ∷ []) (sym (is ∙ add-zero n))
numbered_more n m (q ∷ qs) p is =
    ap (λ l. numbered_entries n q ∷ l) (numbered_more (n + ids_of_stanzas q) m qs p (omega (arith, is)))

-- ---- packages

-- with the last one, where it has commands
abbrev pub with_last : List (List JobEntry) → List JobEntry → List (List JobEntry)
with_last ps [] = ps
with_last ps (e ∷ es) = ps ++ (e ∷ es) ∷ []

pub with_some : (ps : List (List JobEntry)) (es : List JobEntry) → 0 < length es → with_last ps es ≡ ps ++ es ∷ []
with_some ps [] h = absurd (omega (arith, h))
with_some ps (e ∷ es) h = refl

last_kept : (ps : List (List JobEntry)) (es : List JobEntry) → ps ++ filter has_some (es ∷ []) ≡ with_last ps es
last_kept ps [] = append-nil ps
last_kept ps (e ∷ es) = refl

-- the packages, and the last of them apart
pub packages_more : (m : ℕ) (whole : List (List Stanza)) (p : List Stanza) → m ≡ 1 + total whole
    → packages_of (whole ++ p ∷ []) ≡ with_last (packages_of whole) (numbered_entries m p)
packages_more m whole p is =
    ap (filter has_some) (numbered_more 1 m whole p is)
    ∙ filter-append has_some (numbered_packages 1 whole) (numbered_entries m p ∷ [])
    ∙ last_kept (packages_of whole) (numbered_entries m p)

-- where the next command of a package stands
abbrev pub Stands : LinePlace → List JobEntry → Type 0
Stands place.Between es = es ≡ []
Stands place.Package es = 0 < length es
Stands place.Container es = ⊥
Stands place.End es = ⊥

some_more : (ps : List (List JobEntry)) (es : List JobEntry) (e : JobEntry)
    → with_last ps (es ++ e ∷ []) ≡ ps ++ (es ++ e ∷ []) ∷ []
some_more ps [] e = refl
some_more ps (x ∷ xs) e = refl

pub entry_comes : (at : LinePlace) (ps : List (List JobEntry)) (es : List JobEntry) (e : JobEntry) → Stands at es
    → entry_put at (with_last ps es) e ≡ with_last ps (es ++ e ∷ [])
entry_comes place.Between ps es e h =
    subst (λ x. entry_put place.Between (with_last ps x) e ≡ with_last ps (x ++ e ∷ [])) (sym h) refl
entry_comes place.Package ps es e h =
    ap (last_changed (λ x. x ++ e ∷ [])) (with_some ps es h)
    ∙ changed_append (λ x. x ++ e ∷ []) ps (es ∷ []) (omega arith) ∙ sym (some_more ps es e)
entry_comes place.Container ps es e h = absurd h
entry_comes place.End ps es e h = absurd h

-- the last entry of the last package is changed
pub last_entry_changes : (f : JobEntry → JobEntry) (ps : List (List JobEntry)) (es : List JobEntry) (e : JobEntry)
    → last_changed (last_changed f) (with_last ps (es ++ e ∷ [])) ≡ with_last ps (es ++ f e ∷ [])
last_entry_changes f ps es e =
    ap (last_changed (last_changed f)) (some_more ps es e)
    ∙ changed_append (last_changed f) ps ((es ++ e ∷ []) ∷ []) (omega arith)
    ∙ ap (λ x. ps ++ x ∷ []) (changed_append f es (e ∷ []) (omega arith)) ∙ sym (some_more ps es (f e))
