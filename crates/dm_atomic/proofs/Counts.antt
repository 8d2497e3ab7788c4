-- What the Statuses of made lists answer.
use Rattle.std.proofs.Common.{◌≡◌, ℕ, List, [], ◌∷◌, ◌++◌, Option, None, Some, map, refl, sym, ◌∙◌, ap, append_assoc}
use Rattle.dm_commands.specs.declared.outcome.Found.{Found}
use Rattle.dm_atomic.specs.declared.tasks.Post.{Post}
use Rattle.dm_atomic.specs.declared.tasks.Task.{Task}
use Rattle.dm_atomic.specs.declared.reports.Report.{Report}
use Rattle.dm_atomic.specs.declared.reports.Part.{Part}
use Rattle.dm_atomic.specs.Made.{Made, Status, Result, Broken, reported, all_reported, notice}
use Rattle.dm_atomic.specs.Run.{undone, not_run, container, parts_done, parts_undone}
use Rattle.dm_atomic.specs.Posts.{task_posts, made_posts, report_posts, part_posts}

pub made-append : (a b : List Made) → made_posts (a ++ b) ≡ made_posts a ++ made_posts b
made-append [] b = refl
made-append (Status p code ∷ ms) b = ap (λ x. p ∷ x) (made-append ms b)
made-append (Result p found ∷ ms) b = made-append ms b
made-append (Broken target ∷ ms) b = made-append ms b

made-results : (p : Post) (found : List Found) (more : List Made)
    → made_posts (map (Result p) found ++ more) ≡ made_posts more
made-results p [] more = refl
made-results p (f ∷ fs) more = made-results p fs more

pub made-reported : (r : Report) (more : List Made) → made_posts (reported r ++ more) ≡ r.post ∷ made_posts more
made-reported r more = ap (λ x. r.post ∷ x) (made-results r.post r.found more)

made-all : (rs : List Report) (more : List Made)
    → made_posts (all_reported rs ++ more) ≡ report_posts rs ++ made_posts more
made-all [] more = refl
made-all (r ∷ rs) more =
    ap made_posts (append_assoc (reported r) (all_reported rs) more)
    ∙ made-reported r (all_reported rs ++ more)
    ∙ ap (λ x. r.post ∷ x) (made-all rs more)

-- a notice is no Status
pub made-notice : (target : Option (List ℕ)) (more : List Made) → made_posts (notice target ++ more) ≡ made_posts more
made-notice None more = refl
made-notice (Some target) more = refl

pub report-append : (a b : List Report) → report_posts (a ++ b) ≡ report_posts a ++ report_posts b
report-append [] b = refl
report-append (r ∷ rs) b = ap (λ x. r.post ∷ x) (report-append rs b)

pub report-undone : (rs : List Report) → report_posts (map undone rs) ≡ report_posts rs
report-undone [] = refl
report-undone (r ∷ rs) = ap (λ x. r.post ∷ x) (report-undone rs)

pub report-not_run : (ts : List Task) → report_posts (map not_run ts) ≡ task_posts ts
report-not_run [] = refl
report-not_run (t ∷ ts) = ap (λ x. t.post ∷ x) (report-not_run ts)

pub made-container : (p : Post) (code : ℕ) (rs : List Report) (more : List Made)
    → made_posts (container p code rs ++ more) ≡ p ∷ (report_posts rs ++ made_posts more)
made-container p code rs more = ap (λ x. p ∷ x) (made-all rs more)

pub made-parts_done : (ps : List Part) (more : List Made)
    → made_posts (parts_done ps ++ more) ≡ part_posts ps ++ made_posts more
made-parts_done [] more = refl
made-parts_done (p ∷ ps) more =
    ap made_posts (append_assoc (container p.post 200 p.reports) (parts_done ps) more)
    ∙ made-container p.post 200 p.reports (parts_done ps ++ more)
    ∙ ap (λ x. p.post ∷ (report_posts p.reports ++ x)) (made-parts_done ps more)
    ∙ ap (λ x. p.post ∷ x) (sym (append_assoc (report_posts p.reports) (part_posts ps) (made_posts more)))

pub made-parts_undone : (ps : List Part) (more : List Made)
    → made_posts (parts_undone ps ++ more) ≡ part_posts ps ++ made_posts more
made-parts_undone [] more = refl
made-parts_undone (p ∷ ps) more =
    ap made_posts (append_assoc (container p.post 507 (map undone p.reports)) (parts_undone ps) more)
    ∙ made-container p.post 507 (map undone p.reports) (parts_undone ps ++ more)
    ∙ ap (λ x. p.post ∷ (x ++ made_posts (parts_undone ps ++ more))) (report-undone p.reports)
    ∙ ap (λ x. p.post ∷ (report_posts p.reports ++ x)) (made-parts_undone ps more)
    ∙ ap (λ x. p.post ∷ x) (sym (append_assoc (report_posts p.reports) (part_posts ps) (made_posts more)))

pub part-append : (ps qs : List Part) → part_posts (ps ++ qs) ≡ part_posts ps ++ part_posts qs
part-append [] qs = refl
part-append (p ∷ ps) qs =
    ap (λ x. p.post ∷ (report_posts p.reports ++ x)) (part-append ps qs)
    ∙ ap (λ x. p.post ∷ x) (sym (append_assoc (report_posts p.reports) (part_posts ps) (part_posts qs)))
