-- All entries of packages, in order, after one comes or is changed.
use Rattle.std.proofs.Common.{◌≡◌, ◌<◌, ◌+◌, ℕ, List, [], ◌∷◌, ◌++◌, length}
use Rattle.std.proofs.Common.{refl, sym, ap}
use Rattle.std.proofs.Common.{◌∙◌, arith, append_assoc, append-nil, length-append, option_and_then}
use Rattle.std.specs.Prelude.{⊤}
use Rattle.std.specs.List.{AllByRecursion}
use Rattle.syncml_parts.specs.Numbering.{ids_in}
use Rattle.syncml_parts.specs.Packing.{list_last, last_changed}
use Rattle.syncml_parts.proofs.Last.{last_next}
use Rattle.dm_pack.proofs.Numbers.{length_last}
use Rattle.dm_job.specs.declared.job.JobEntry.{JobEntry}
use Rattle.dm_job.specs.declared.draft.LinePlace.{LinePlace}
use Rattle.dm_job.specs.declared.draft.LinePlace.TheVariants as place
use Rattle.dm_job.specs.Reading.{entry_put, last_entry}
use Rattle.dm_job.specs.Sound.{all_entries, AreNumbered}
use Rattle.dm_job.proofs.Containers.{all_more}

abbrev pub IsFilled : List JobEntry → Type 0
IsFilled es = 0 < length es

abbrev pub AreFilled : List (List JobEntry) → Type 0
AreFilled ps = AllByRecursion IsFilled ps

-- a package that the next command stands in is there
abbrev pub IsBehind : LinePlace → List (List JobEntry) → Type 0
IsBehind place.Between ps = ⊤
IsBehind place.Package ps = 0 < length ps
IsBehind place.Container ps = 0 < length ps
IsBehind place.End ps = ⊤

-- ---- one comes

added_first : (ps : List (List JobEntry)) (e : JobEntry) → all_entries (ps ++ (e ∷ []) ∷ []) ≡ all_entries ps ++ e ∷ []
added_first [] e = refl
added_first (x ∷ xs) e = ap (λ l. x ++ l) (added_first xs e) ∙ sym (append_assoc x (all_entries xs) (e ∷ []))

added_last : (ps : List (List JobEntry)) (e : JobEntry) → 0 < length ps
    → all_entries (last_changed (λ es. es ++ e ∷ []) ps) ≡ all_entries ps ++ e ∷ []
added_last [] e h = absurd (omega (arith, h))
added_last (x ∷ []) e h = append-nil (x ++ e ∷ []) ∙ ap (λ l. l ++ e ∷ []) (sym (append-nil x))
added_last (x ∷ y ∷ ys) e h =
    ap (λ l. x ++ l) (added_last (y ∷ ys) e (omega arith)) ∙ sym (append_assoc x (all_entries (y ∷ ys)) (e ∷ []))

-- where the next command may stand
abbrev pub Goes : LinePlace → Type 0
Goes place.Between = ⊤
Goes place.Package = ⊤
Goes place.Container = ⊥
Goes place.End = ⊥

pub all_added : (at : LinePlace) (ps : List (List JobEntry)) (e : JobEntry) → Goes at → IsBehind at ps
    → all_entries (entry_put at ps e) ≡ all_entries ps ++ e ∷ []
all_added place.Between ps e goes h = added_first ps e
all_added place.Package ps e goes h = added_last ps e h
all_added place.Container ps e goes h = absurd goes
all_added place.End ps e goes h = absurd goes

filled_last : (f : List JobEntry → List JobEntry) (ps : List (List JobEntry))
    → ((es : List JobEntry) → IsFilled es → IsFilled (f es))
    → AreFilled ps → AreFilled (last_changed f ps)
filled_last f [] keeps h = tt
filled_last f (x ∷ []) keeps h = (keeps x h.0, tt)
filled_last f (x ∷ y ∷ ys) keeps h = (h.0, filled_last f (y ∷ ys) keeps h.1)

more_filled : (es : List JobEntry) (e : JobEntry) → IsFilled (es ++ e ∷ [])
more_filled es e = let long = length-append es (e ∷ []) in omega (arith, long)

pub added_filled : (at : LinePlace) (ps : List (List JobEntry)) (e : JobEntry) → AreFilled ps
    → AreFilled (entry_put at ps e)
added_filled place.Between ps e h = all_more IsFilled ps (e ∷ []) h (omega arith)
added_filled place.Package ps e h = filled_last (λ es. es ++ e ∷ []) ps (λ es k. more_filled es e) h
added_filled place.Container ps e h = filled_last (λ es. es ++ e ∷ []) ps (λ es k. more_filled es e) h
added_filled place.End ps e h = filled_last (λ es. es ++ e ∷ []) ps (λ es k. more_filled es e) h

pub added_some : (at : LinePlace) (ps : List (List JobEntry)) (e : JobEntry) → Goes at → IsBehind at ps
    → 0 < length (entry_put at ps e)
added_some place.Between ps e goes h = let long = length-append ps ((e ∷ []) ∷ []) in omega (arith, long)
added_some place.Package ps e goes h = let long = length_last (λ es. es ++ e ∷ []) ps in omega (arith, long, h)
added_some place.Container ps e goes h = absurd goes
added_some place.End ps e goes h = absurd goes

-- ---- the last one is changed

pub changed_append : {A : Type 0} (f : A → A) (xs ys : List A) → 0 < length ys
    → last_changed f (xs ++ ys) ≡ xs ++ last_changed f ys
changed_append f [] ys h = refl
changed_append f (x ∷ []) [] h = absurd (omega (arith, h))
changed_append f (x ∷ []) (y ∷ ys) h = refl
changed_append f (x ∷ z ∷ zs) ys h = ap (λ l. x ∷ l) (changed_append f (z ∷ zs) ys h)

some_entries : (x : List JobEntry) (xs : List (List JobEntry)) → IsFilled x → 0 < length (all_entries (x ∷ xs))
some_entries x xs h = let long = length-append x (all_entries xs) in omega (arith, long, h)

pub all_changed : (f : JobEntry → JobEntry) (ps : List (List JobEntry)) → AreFilled ps
    → all_entries (last_changed (last_changed f) ps) ≡ last_changed f (all_entries ps)
all_changed f [] h = refl
all_changed f (x ∷ []) h = append-nil (last_changed f x) ∙ ap (last_changed f) (sym (append-nil x))
all_changed f (x ∷ y ∷ ys) h =
    ap (λ l. x ++ l) (all_changed f (y ∷ ys) h.1)
    ∙ sym (changed_append f x (all_entries (y ∷ ys)) (some_entries y ys h.1.0))

pub changed_filled : (f : JobEntry → JobEntry) (ps : List (List JobEntry)) → AreFilled ps
    → AreFilled (last_changed (last_changed f) ps)
changed_filled f ps h =
    filled_last (last_changed f) ps (λ es k. (let long = length_last f es in omega (arith, long, k))) h

-- ---- the last one

last_append : {A : Type 0} (xs : List A) (y : A) (ys : List A) → list_last (xs ++ y ∷ ys) ≡ list_last (y ∷ ys)
last_append [] y ys = refl
last_append (x ∷ []) y ys = last_next x y ys
last_append (x ∷ z ∷ zs) y ys = last_next x z (zs ++ y ∷ ys) ∙ last_append (z ∷ zs) y ys

last_behind : {A : Type 0} (xs ys : List A) → 0 < length ys → list_last (xs ++ ys) ≡ list_last ys
last_behind xs [] h = absurd (omega (arith, h))
last_behind xs (y ∷ ys) h = last_append xs y ys

pub last_is_of_all : (ps : List (List JobEntry)) → AreFilled ps → last_entry ps ≡ list_last (all_entries ps)
last_is_of_all [] h = refl
last_is_of_all (x ∷ []) h = ap list_last (sym (append-nil x))
last_is_of_all (x ∷ y ∷ ys) h =
    ap (option_and_then list_last) (last_next x y ys) ∙ last_is_of_all (y ∷ ys) h.1
    ∙ sym (last_behind x (all_entries (y ∷ ys)) (some_entries y ys h.1.0))

-- ---- numbers

-- numbered from one on to another, which the next one gets
abbrev pub Numbered : ℕ → List JobEntry → ℕ → Type 0
Numbered n [] m = n ≡ m
Numbered n (e ∷ es) m = (e.number ≡ n) × Numbered (n + ids_in e.command) es m

pub numbered_more : (n m k : ℕ) (es : List JobEntry) (e : JobEntry) → Numbered n es m → e.number ≡ m
    → m + ids_in e.command ≡ k → Numbered n (es ++ e ∷ []) k
numbered_more n m k [] e h is next = (is ∙ sym h, ap (λ x. x + ids_in e.command) h ∙ next)
numbered_more n m k (x ∷ xs) e h is next = (h.0, numbered_more (n + ids_in x.command) m k xs e h.1 is next)

pub numbered_longer : (n m : ℕ) (es : List JobEntry) (e f : JobEntry) → Numbered n (es ++ e ∷ []) m
    → f.number ≡ e.number
    → ids_in f.command ≡ ids_in e.command + 1 → Numbered n (es ++ f ∷ []) (m + 1)
numbered_longer n m [] e f h is more = (is ∙ h.0, (let end = h.1 in omega (arith, end, more)))
numbered_longer n m (x ∷ xs) e f h is more = (h.0, numbered_longer (n + ids_in x.command) m xs e f h.1 is more)

pub are_numbered : (n m : ℕ) (es : List JobEntry) → Numbered n es m → AreNumbered n es
are_numbered n m [] h = tt
are_numbered n m (e ∷ es) h = (h.0, are_numbered (n + ids_in e.command) m es h.1)
