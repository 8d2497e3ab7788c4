-- The commands of a package are numbered in a row, and what is given up with it.
use Rattle.std.proofs.Common.{◌≡◌, ◌<◌, ◌≤◌, ◌+◌, ◌-◌, ℕ, zero, suc, Bool, true, false, cond, not, List, [], ◌∷◌}
use Rattle.std.proofs.Common.{Some, ◌++◌, drop, length, get_or, refl, sym, ap, ◌∙◌, subst, arith}
use Rattle.std.specs.List.{AllByRecursion, filter, slice_get}
use Rattle.syncml_parts.specs.Numbering.{ids_in}
use Rattle.dm_job.specs.declared.job.Job.{Job}
use Rattle.dm_job.specs.declared.job.JobEntry.{JobEntry}
use Rattle.dm_job.specs.Sound.{all_entries, AreNumbered}
use Rattle.dm_report.specs.Known.{is_within, forgotten_within}
use Rattle.dm_report.specs.Sending.{AreCommands}
use Rattle.dm_report.proofs.PackageLemmas.{holds-within}
use Rattle.dm_service.specs.declared.sent.Sent.{Sent}
use Rattle.dm_service.specs.Laws.{IsSentBefore, AreInOrder}
use Rattle.dm_service.specs.Packages.{commands_in, forgotten, not_sent}
use Rattle.dm_service.specs.Ready.{IsReadyEntry, AreReadyPackages}
use Rattle.dm_service.specs.Service.{Told}
use Rattle.dm_waiting.specs.View.{IsNumberedEntry}
use Rattle.dm_server.specs.Working.{sent_without, IsRange, AreInARow}
use Rattle.dm_server.proofs.Runs.{next_left, other_default}

pub ready_one : (es : List JobEntry) (at : ℕ) (e : JobEntry) → AllByRecursion IsReadyEntry es → at < length es
    → e ≡ get_or es at e → IsReadyEntry e
ready_one [] at e h low is = absurd (omega (arith, low))
ready_one (d ∷ ds) zero e h low is = subst IsReadyEntry (sym is) h.0
ready_one (d ∷ ds) (suc at) e h low is = ready_one ds at e h.1 (omega (arith, low)) is

-- ---- how many

pub commands_both : (es fs : List JobEntry) → commands_in (es ++ fs) ≡ commands_in es + commands_in fs
commands_both [] fs = omega arith
commands_both (e ∷ es) fs = let rest = commands_both es fs in omega (arith, rest)

pub commands_step : (ps : List (List JobEntry)) (at count more next whole : ℕ) (p entries : List JobEntry)
    → count + commands_in (all_entries (drop at ps)) ≡ whole → at < length ps → p ≡ get_or ps at p → entries ≡ p
    → more ≡ commands_in entries → next ≡ count + more
    → next + commands_in (all_entries (drop (at + 1) ps)) ≡ whole
commands_step ps at count more next whole p entries before low is e many sum =
    let behind = ap (λ l. commands_in (all_entries l)) (next_left at ps p low is) in
    let both = commands_both p (all_entries (drop (at + 1) ps)) in
    let of_this = many ∙ ap commands_in e in
    omega (arith, before, behind, both, of_this, sum)

-- ---- numbers

-- those of the entries behind some
behind-numbered : (n : ℕ) (es fs : List JobEntry) → AreNumbered n (es ++ fs) → AreNumbered (n + commands_in es) fs
behind-numbered n [] fs h = subst (λ k. AreNumbered k fs) (let e : n ≡ n + 0 = omega arith in e) h
behind-numbered n (e ∷ es) fs h =
    let same : n + ids_in e.command + commands_in es ≡ n + (ids_in e.command + commands_in es) = omega arith in
    subst (λ k. AreNumbered k fs) same (behind-numbered (n + ids_in e.command) es fs h.1)

front-numbered : (n : ℕ) (es fs : List JobEntry) → AreNumbered n (es ++ fs) → AreNumbered n es
front-numbered n [] fs h = tt
front-numbered n (e ∷ es) fs h = (h.0, front-numbered (n + ids_in e.command) es fs h.1)

-- a package of a job, from some number on
pub record IsNumberedFrom (low : ℕ) (es : List JobEntry) : Type 0 where
  pub first : ℕ
  pub above : low ≤ first
  pub numbered : AreNumbered first es

at-place : (n at : ℕ) (ps : List (List JobEntry)) → AreNumbered n (all_entries ps) → IsNumberedFrom n (get_or ps at [])
at-place n at [] h = record { first = n; above = omega arith; numbered = tt }
at-place n zero (p ∷ ps) h =
    record { first = n; above = omega arith; numbered = front-numbered n p (all_entries ps) h }
at-place n (suc at) (p ∷ ps) h =
    let rest = at-place (n + commands_in p) at ps (behind-numbered n p (all_entries ps) h) in
    let above = rest.above in
    record { first = rest.first; above = omega (arith, above); numbered = rest.numbered }

all-above : (low n : ℕ) (es : List JobEntry) → low < n → AreNumbered n es
    → AllByRecursion (λ (e : JobEntry). low < e.number) es
all-above low n [] h k = tt
all-above low n (e ∷ es) h k = (
  subst (λ m. low < m) (sym k.0) h,
  all-above low (n + ids_in e.command) es (omega (arith, h)) k.1,
)

-- each has a number from 1 on
pub package_numbered : (job : Job) (at : ℕ) (p : List JobEntry) → AreNumbered 1 (all_entries job.packages)
    → p ≡ get_or job.packages at [] → AllByRecursion IsNumberedEntry p
package_numbered job at p h e =
    let is = at-place 1 at job.packages h in
    let above = is.above in
    subst (AllByRecursion IsNumberedEntry) (sym e)
    (all-above 0 is.first (get_or job.packages at []) (omega (arith, above)) is.numbered)

front-ready : (es fs : List JobEntry) → AllByRecursion IsReadyEntry (es ++ fs) → AllByRecursion IsReadyEntry es
front-ready [] fs h = tt
front-ready (e ∷ es) fs h = (h.0, front-ready es fs h.1)

behind-ready : (es fs : List JobEntry) → AllByRecursion IsReadyEntry (es ++ fs) → AllByRecursion IsReadyEntry fs
behind-ready [] fs h = h
behind-ready (e ∷ es) fs h = behind-ready es fs h.1

pub ready_at : (ps : List (List JobEntry)) (at : ℕ) → AreReadyPackages ps
    → AllByRecursion IsReadyEntry (get_or ps at [])
ready_at [] at h = tt
ready_at (p ∷ ps) zero h = front-ready p (all_entries ps) h
ready_at (p ∷ ps) (suc at) h = ready_at ps at (behind-ready p (all_entries ps) h)

-- the package at a place, as it is shown
pub shown_at : (ps shown : List (List JobEntry)) (at : ℕ) (p entries : List JobEntry) → shown ≡ ps → at < length shown
    → p ≡ get_or shown at p → entries ≡ p → entries ≡ get_or ps at []
shown_at ps shown at p entries same low is e =
    e ∙ is ∙ other_default at shown p [] low ∙ ap (λ (xs : List (List JobEntry)). get_or xs at []) same

pub shown_ready : (ps : List (List JobEntry)) (at : ℕ) (entries : List JobEntry) → entries ≡ get_or ps at []
    → AreReadyPackages ps → AllByRecursion IsReadyEntry entries
shown_ready ps at entries e h = subst (AllByRecursion IsReadyEntry) (sym e) (ready_at ps at h)

pub newest_in_a_row : (job : Job) (next : ℕ) (queued : Bool) → AreNumbered 1 (all_entries job.packages)
    → AreInARow (cond queued (get_or job.packages (next - 1) []) [])
newest_in_a_row job next true h =
    let is = at-place 1 (next - 1) job.packages h in record { first = is.first; numbered = is.numbered }
newest_in_a_row job next false h = record { first = 1; numbered = tt }

pub newest_ready : (job : Job) (next : ℕ) (queued : Bool) → AreReadyPackages job.packages
    → AllByRecursion IsReadyEntry (cond queued (get_or job.packages (next - 1) []) [])
newest_ready job next true h = ready_at job.packages (next - 1) h
newest_ready job next false h = tt

-- ---- a row

pub some_row : (given : List JobEntry) (e : JobEntry) (count : ℕ) → AreInARow given → Some e ≡ slice_get given 0
    → count ≡ commands_in given → IsRange given e.number count
some_row [] e count row is few n = absurd (cc)
some_row (d ∷ ds) e count row is few n =
    let same : e ≡ d = cc in
    holds-within row.first (d ∷ ds) n row.numbered
    ∙ ap (λ first. is_within first (commands_in (d ∷ ds)) n)
    (sym (ap (λ (x : JobEntry). x.number) same ∙ row.numbered.0))
    ∙ ap (λ k. is_within e.number k n) (sym few)

-- ---- what is given up

pub forgotten_is : (given : List JobEntry) (first count n : ℕ) (told : List Told) → IsRange given first count
    → forgotten_within first count n told ≡ forgotten given n told
forgotten_is given first count n [] row = refl
forgotten_is given first count n (t ∷ ts) row =
    rw (row n, forgotten_is given first count (n + 1) ts row) refl

pub sent_is : (given : List JobEntry) (first count : ℕ) (sent : List Sent) → IsRange given first count
    → sent_without first count sent ≡ not_sent given sent
sent_is given first count [] row = refl
sent_is given first count (s ∷ ss) row = rw (row s.number, sent_is given first count ss row) refl

-- ---- what is left is as it was

left-all : (P : Sent → Type 0) (p : Sent → Bool) (ss : List Sent) → AllByRecursion P ss
    → AllByRecursion P (filter p ss)
left-all P p [] h = tt
left-all P p (s ∷ ss) h = step (p s) (left-all P p ss h.1)
  where
    step : (b : Bool) → AllByRecursion P (filter p ss) → AllByRecursion P (cond b (s ∷ filter p ss) (filter p ss))
    step true rest = (h.0, rest)
    step false rest = rest

pub left_commands : (first count : ℕ) (sent : List Sent) → AreCommands sent
    → AreCommands (sent_without first count sent)
left_commands first count sent h =
    left-all (λ (s : Sent). 0 < s.number) (λ (s : Sent). not (is_within first count s.number)) sent h

left-order : (p : Sent → Bool) (ss : List Sent) → AreInOrder ss → AreInOrder (filter p ss)
left-order p [] h = tt
left-order p (s ∷ ss) h = step (p s) (left-all (IsSentBefore s) p ss h.0) (left-order p ss h.1)
  where
    step : (b : Bool) → AllByRecursion (IsSentBefore s) (filter p ss) → AreInOrder (filter p ss)
        → AreInOrder (cond b (s ∷ filter p ss) (filter p ss))
    step true all rest = (all, rest)
    step false all rest = rest

pub left_in_order : (first count : ℕ) (sent : List Sent) → AreInOrder sent
    → AreInOrder (sent_without first count sent)
left_in_order first count sent h = left-order (λ (s : Sent). not (is_within first count s.number)) sent h
