-- The last entry of packages, after one comes or is changed.
use Rattle.std.proofs.Common.{◌≡◌, List, [], ◌∷◌, ◌++◌, Option, Some, None, option_map, option_and_then, refl, sym}
use Rattle.std.proofs.Common.{ap, subst}
use Rattle.std.proofs.Common.{◌∙◌, IfSome}
use Rattle.syncml_parts.specs.Packing.{list_last, last_changed}
use Rattle.syncml_parts.proofs.Last.{last_next}
use Rattle.dm_job.specs.declared.job.JobEntry.{JobEntry}
use Rattle.dm_job.specs.declared.draft.LinePlace.{LinePlace}
use Rattle.dm_job.specs.declared.draft.LinePlace.TheVariants as place
use Rattle.dm_job.specs.Reading.{entry_put, last_entry}

-- ---- the last of a list

pub last_added : {A : Type 0} (xs : List A) (x : A) → list_last (xs ++ x ∷ []) ≡ Some x
last_added [] x = refl
last_added (y ∷ []) x = last_next y x []
last_added (y ∷ z ∷ zs) x = last_next y z (zs ++ x ∷ []) ∙ last_added (z ∷ zs) x

pub last_mapped : {A : Type 0} (f : A → A) (xs : List A) → list_last (last_changed f xs) ≡ option_map f (list_last xs)
last_mapped f [] = refl
last_mapped f (x ∷ []) = refl
last_mapped f (x ∷ y ∷ []) = last_next x (f y) [] ∙ sym (ap (option_map f) (last_next x y []))
last_mapped f (x ∷ y ∷ z ∷ zs) =
    last_next x y (last_changed f (z ∷ zs)) ∙ last_mapped f (y ∷ z ∷ zs)
    ∙ sym (ap (option_map f) (last_next x y (z ∷ zs)))

-- ---- the last entry

abbrev AtLast : (JobEntry → Type 0) → Option (List JobEntry) → Type 0
AtLast P o = IfSome (option_and_then list_last o) P

at_added : (P : JobEntry → Type 0) (es : List JobEntry) (e : JobEntry) → P e → AtLast P (Some (es ++ e ∷ []))
at_added P es e h = subst (λ o. IfSome o P) (sym (last_added es e)) h

to_last : (P : JobEntry → Type 0) (ps : List (List JobEntry)) (e : JobEntry) → P e
    → IfSome (last_entry (last_changed (λ es. es ++ e ∷ []) ps)) P
to_last P ps e h = subst (AtLast P) (sym (last_mapped (λ es. es ++ e ∷ []) ps)) (by_last (list_last ps))
  where
    by_last : (o : Option (List JobEntry)) → AtLast P (option_map (λ es. es ++ e ∷ []) o)
    by_last None = tt
    by_last (Some es) = at_added P es e h

pub entry_added : (P : JobEntry → Type 0) (at : LinePlace) (ps : List (List JobEntry)) (e : JobEntry) → P e
    → IfSome (last_entry (entry_put at ps e)) P
entry_added P place.Between ps e h = subst (AtLast P) (sym (last_added ps (e ∷ []))) h
entry_added P place.Package ps e h = to_last P ps e h
entry_added P place.Container ps e h = to_last P ps e h
entry_added P place.End ps e h = to_last P ps e h

pub entry_changed : (P : JobEntry → Type 0) (f : JobEntry → JobEntry) (ps : List (List JobEntry))
    → ((e : JobEntry) → P e → P (f e))
    → IfSome (last_entry ps) P → IfSome (last_entry (last_changed (last_changed f) ps)) P
entry_changed P f ps keeps h =
    subst (AtLast P) (sym (last_mapped (last_changed f) ps)) (by_last (list_last ps) h)
  where
    by_entry : (o : Option JobEntry) → IfSome o P → IfSome (option_map f o) P
    by_entry None k = tt
    by_entry (Some e) k = keeps e k

    by_last : (o : Option (List JobEntry)) → AtLast P o → AtLast P (option_map (last_changed f) o)
    by_last None k = tt
    by_last (Some es) k = subst (λ o. IfSome o P) (sym (last_mapped f es)) (by_entry (list_last es) k)
