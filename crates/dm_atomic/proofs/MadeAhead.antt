-- What is made for the values, reports, tasks and parts that are left.
use Rattle.std.proofs.Common.{◌≡◌, ℕ, suc, ◌+◌, ◌<◌, ◌≤◌, List, [], ◌∷◌, ◌++◌, length, map, drop, get_or, refl, sym}
use Rattle.std.proofs.Common.{◌∙◌, ap, append_assoc, add-one, drop-cons}
use Rattle.std.proofs.lemmas.List.{append-nil, drop_all}
use Rattle.syncml_types.specs.declared.command.Command.{Command}
use Rattle.dm_commands.specs.declared.outcome.Found.{Found}
use Rattle.dm_atomic.specs.declared.tasks.Post.{Post}
use Rattle.dm_atomic.specs.declared.tasks.Task.{Task}
use Rattle.dm_atomic.specs.declared.reports.Report.{Report}
use Rattle.dm_atomic.specs.declared.reports.Part.{Part}
use Rattle.dm_atomic.specs.Made.{Made, Status, Result, reported, all_reported, told}
use Rattle.dm_atomic.specs.Run.{undone, not_run, container, parts_done, parts_undone}
use Rattle.dm_atomic.proofs.Telling.{told_both}

ahead : {X : Type 0} (made : List X → List Made) (xs shown : List X) (k : ℕ) (x : X)
    → shown ≡ xs → k < length shown → x ≡ get_or shown k x → made (drop k xs) ≡ made (x ∷ drop (k + 1) xs)
ahead made xs shown k x e l is = rw (sym e)
    (rw (add-one k) (ap made (drop-cons shown k x l ∙ ap (λ y. y ∷ drop (suc k) shown) (sym is))))

pub none_ahead : {X : Type 0} (made : List X → List Made) (xs shown : List X) (k : ℕ)
    → shown ≡ xs → length shown ≤ k → made [] ≡ [] → made (drop k xs) ≡ []
none_ahead made xs shown k e l none = rw (sym e) (ap made (drop_all k shown l) ∙ none)

pub next_found : (post : Post) (xs shown : List Found) (k : ℕ) (x : Found)
    → shown ≡ xs → k < length shown → x ≡ get_or shown k x
    → map (Result post) (drop k xs) ≡ (Result post x ∷ []) ++ map (Result post) (drop (k + 1) xs)
next_found post = ahead (map (Result post))

pub next_report : (xs shown : List Report) (k : ℕ) (x : Report)
    → shown ≡ xs → k < length shown → x ≡ get_or shown k x
    → all_reported (drop k xs) ≡ reported x ++ all_reported (drop (k + 1) xs)
next_report = ahead all_reported

pub next_undone : (xs shown : List Report) (k : ℕ) (x : Report)
    → shown ≡ xs → k < length shown → x ≡ get_or shown k x
    → all_reported (map undone (drop k xs)) ≡ (Status x.post 216 ∷ []) ++ all_reported (map undone (drop (k + 1) xs))
next_undone = ahead (λ xs. all_reported (map undone xs))

pub next_not_run : (xs shown : List Task) (k : ℕ) (x : Task)
    → shown ≡ xs → k < length shown → x ≡ get_or shown k x
    → all_reported (map not_run (drop k xs)) ≡ (Status x.post 215 ∷ []) ++ all_reported (map not_run (drop (k + 1) xs))
next_not_run = ahead (λ xs. all_reported (map not_run xs))

pub next_done : (xs shown : List Part) (k : ℕ) (x : Part)
    → shown ≡ xs → k < length shown → x ≡ get_or shown k x
    → parts_done (drop k xs) ≡ container x.post 200 x.reports ++ parts_done (drop (k + 1) xs)
next_done = ahead parts_done

pub next_part_undone : (xs shown : List Part) (k : ℕ) (x : Part)
    → shown ≡ xs → k < length shown → x ≡ get_or shown k x
    → parts_undone (drop k xs) ≡ container x.post 507 (map undone x.reports) ++ parts_undone (drop (k + 1) xs)
next_part_undone = ahead parts_undone

pub all_reported_append : (a b : List Report) → all_reported (a ++ b) ≡ all_reported a ++ all_reported b
all_reported_append [] b = refl
all_reported_append (r ∷ a) b =
    ap (λ x. reported r ++ x) (all_reported_append a b)
    ∙ sym (append_assoc (reported r) (all_reported a) (all_reported b))

-- some reports were told, and the next one
pub reports_more : (out now next : List Command) (done : List Report) (r : Report)
    → now ≡ out ++ told (all_reported done) → next ≡ now ++ told (reported r)
    → next ≡ out ++ told (all_reported (done ++ r ∷ []))
reports_more out now next done r e f =
    told_both out now next (all_reported done) (reported r) e f
    ∙ ap (λ ms. out ++ told ms)
    (sym (all_reported_append done (r ∷ []) ∙ ap (λ ms. all_reported done ++ ms) (append-nil (reported r))))
