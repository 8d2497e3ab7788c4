-- The text of the report, put together.
use Rattle.std.proofs.Common.{◌≡◌, ◌<◌, ◌+◌, ℕ, Bool, not, List, [], ◌∷◌, ◌++◌, sym, ap, ◌∙◌}
use Rattle.std.proofs.Common.{length, drop, get_or}
use Rattle.std.specs.Prelude.{codes, is_some, if◌then◌else◌}
use Rattle.std.specs.List.{flat_map, list_all}
use Rattle.std.proofs.lemmas.List.{append_assoc, drop_more}
use Rattle.dm_service.specs.Service.{Service}
use Rattle.dm_service.specs.Report.{told_text, alert_line, has_code, report_text}
use Rattle.dm_report.specs.Known.{Known}

-- one line more
pub lines-more : {X : Type 0} (f : X → List ℕ) (xs : List X) (at : ℕ) (x : X) (out next whole : List ℕ)
    → at < length xs → x ≡ get_or xs at x → next ≡ out ++ f x → out ++ flat_map f (drop at xs) ≡ whole
    → next ++ flat_map f (drop (at + 1) xs) ≡ whole
lines-more {X} f xs at x out next whole h i e before =
    let front : drop at xs ≡ x ∷ drop (at + 1) xs =
    drop_more xs at x h ∙ ap (λ (y : X). y ∷ drop (at + 1) xs) (sym i) in
    rw (e, append_assoc) (ap (λ (ys : List X). out ++ flat_map f ys) (sym front) ∙ before)

pub reported : (v : Service) (k : Known) (ran : Bool) (told alerts state word whole : List ℕ) → v.told ≡ k.told
    → v.alerts ≡ k.alerts → is_some v.runs_in ≡ ran → told ≡ told_text 1 k.told
    → alerts ≡ told ++ flat_map alert_line k.alerts → state ≡ alerts ++ codes "state "
    → word ≡ (if not ran then codes "waiting" else if list_all has_code k.told then codes "over" else codes "running")
    → whole ≡ (state ++ word) ++ 10 ∷ [] → whole ≡ report_text v
unfolding report_text
reported v k ran told alerts state word whole p q r a b c d e =
    rw (e, c, b, a, d, p, q, r) (ap (λ (text : List ℕ). text ++ 10 ∷ [])
    (append_assoc (told_text 1 k.told ++ flat_map alert_line k.alerts) (codes "state ")
    (if not ran then codes "waiting" else if list_all has_code k.told then codes "over" else codes "running")
    ∙ sym (append_assoc (told_text 1 k.told ++ flat_map alert_line k.alerts) (codes "state")
    (codes " "
    ++ (if not ran then codes "waiting" else if list_all has_code k.told then codes "over" else codes "running")))))
