-- What stands in a message of the server stands there with CmdIDs that rise, so each has one of its own.
use Rattle.std.proofs.Common.{zero, suc, ◌≡◌, ◌≤◌, ◌+◌, ℕ, Bool, true, List, [], ◌∷◌, ◌++◌, length, map}
use Rattle.std.proofs.Common.{take, drop, Option, None, Some, sym, ◌∙◌, ap, subst, arith}
use Rattle.std.specs.List.{AllByRecursion, Contains}
use Rattle.syncml_types.specs.declared.values.Header.{Header}
use Rattle.syncml_types.specs.declared.command.Command.{Command}
use Rattle.syncml_types.specs.declared.command.Command.TheVariants as command
use Rattle.syncml_types.specs.Message.{Parts}
use Rattle.syncml_parts.specs.Numbering.{ids_in, with_numbers}
use Rattle.dm_headers.specs.Headers.{header_answer}
use Rattle.dm_atomic.specs.declared.tasks.Origin.{Origin}
use Rattle.dm_pack.specs.declared.filled.Tail.{Tail}
use Rattle.dm_pack.specs.declared.filled.Tail.TheVariants.{Final, NextMessage, Nothing}
use Rattle.dm_pack.specs.Entries.{Entry, part_of}
use Rattle.dm_pack.specs.Filling.{numbered, commands_of, taken, cut, next_part, next_rest, tail_of}
use Rattle.dm_pack.specs.Filling.{tail_commands, fill}
use Rattle.dm_pack.specs.Measures.{ids_of}
use Rattle.dm_ends.specs.Commands.{alert, is_report, origin_of}
use Rattle.dm_ends.specs.Farewells.{farewell}
use Rattle.dm_job.specs.declared.job.JobEntry.{JobEntry}
use Rattle.dm_service.specs.declared.sent.Carried.{Carried}
use Rattle.dm_service.specs.Service.{Waiting}
use Rattle.dm_world.specs.Deeds.{Deed, command_deeds, all_deeds}
use Rattle.dm_world.specs.Acts.{Act}
use Rattle.dm_world.specs.Commands.{outlines}
use Rattle.dm_world.proofs.Ranges.{all-append, all-front, all-behind}
use Rattle.dm_world.proofs.Returns.{IsReport, header-reports}
use Rattle.dm_world.proofs.Lists.{Each}
use Rattle.dm_world.proofs.Outlines.{acts-long, Marked, command-marked}
use Rattle.dm_world.proofs.Marks.{WaitsAs, WaitsOf, part-carries}

-- ---- CmdIDs that rise

-- from one number on, and below another
abbrev pub Rises : ℕ → ℕ → List Deed → Type 0
Rises k end [] = k ≤ end
Rises k end (d ∷ ds) = (k ≤ d.post.command) × Rises (suc d.post.command) end ds

rises-from : (j k end : ℕ) (ds : List Deed) → j ≤ k → Rises k end ds → Rises j end ds
rises-from j k end [] l h = omega (arith, l, h)
rises-from j k end (d ∷ ds) l h = (let low = h.0 in omega (arith, l, low), h.1)

rises-append : (k m end : ℕ) (xs ys : List Deed) → Rises k m xs → Rises m end ys → Rises k end (xs ++ ys)
rises-append k m end [] ys h g = rises-from k m end ys h g
rises-append k m end (d ∷ ds) ys h g = (h.0, rises-append (suc d.post.command) m end ds ys h.1 g)

marked-rises : (ds : List Deed) (k : ℕ) (xs : List Act) → Marked ds k xs → Rises k (k + length xs) ds
marked-rises [] k [] h = omega arith
marked-rises [] k (a ∷ xs) h = absurd h
marked-rises (d ∷ ds) k [] h = absurd h
marked-rises (d ∷ ds) k (a ∷ xs) h =
    let same = h.0 in
    let rest = marked-rises ds (k + 1) xs h.2 in
    let from : suc d.post.command ≡ k + 1 = omega (arith, same) in
    let end : k + 1 + length xs ≡ k + length (a ∷ xs) = omega arith in (
      omega (arith, same),
      subst (λ i. Rises i (k + length (a ∷ xs)) ds) (sym from) (subst (λ i. Rises (k + 1) i ds) end rest),
    )

rises-above : (k end : ℕ) (ds : List Deed) (x : Deed) → Rises k end ds → Contains ds x → k ≤ x.post.command
rises-above k end [] x h (i, low, at) = absurd (omega (arith, low))
rises-above k end (d ∷ ds) x h (zero, low, at) = subst (λ (y : Deed). k ≤ y.post.command) at h.0
rises-above k end (d ∷ ds) x h (suc i, low, at) =
    let above = rises-above (suc d.post.command) end ds x h.1 (i, omega (arith, low), at) in
    let first = h.0 in
    omega (arith, above, first)

-- so a CmdID names one thing
pub rises-one : (k end : ℕ) (ds : List Deed) (x y : Deed) → Rises k end ds → Contains ds x → Contains ds y
    → x.post.command ≡ y.post.command
    → x ≡ y
rises-one k end [] x y h (i, low, at) c e = absurd (omega (arith, low))
rises-one k end (d ∷ ds) x y h (zero, low, at) (zero, l, a) e = sym at ∙ a
rises-one k end (d ∷ ds) x y h (zero, low, at) (suc j, l, a) e =
    let above = rises-above (suc d.post.command) end ds y h.1 (j, omega (arith, l), a) in
    let same = ap (λ (z : Deed). z.post.command) at in
    absurd (omega (arith, above, same, e))
rises-one k end (d ∷ ds) x y h (suc i, low, at) (zero, l, a) e =
    let above = rises-above (suc d.post.command) end ds x h.1 (i, omega (arith, low), at) in
    let same = ap (λ (z : Deed). z.post.command) a in
    absurd (omega (arith, above, same, e))
rises-one k end (d ∷ ds) x y h (suc i, low, at) (suc j, l, a) e =
    rises-one (suc d.post.command) end ds x y h.1 (i, omega (arith, low), at) (j, omega (arith, l), a) e

-- ---- commands whose CmdIDs rise

abbrev RisesIn : Command → Type 0
RisesIn c = (o : Origin) (k : ℕ) → Rises k (k + ids_in c) (command_deeds o (with_numbers k c))

report-rises : (c : Command) → is_report c ≡ true → RisesIn c
unfolding with_numbers ids_in
report-rises (command.Plain p) h o k = absurd (cc)
report-rises (command.Alert a) h o k = absurd (cc)
report-rises (command.Atomic b) h o k = absurd (cc)
report-rises (command.Sequence b) h o k = absurd (cc)
report-rises (command.Status s) h o k = omega arith
report-rises (command.Results r) h o k = omega arith

alert-rises : (code : ℕ) (correlator : Option (List ℕ)) → RisesIn (alert code correlator [])
unfolding with_numbers ids_in
alert-rises code correlator o k = (omega arith, omega arith)

waits-rises : (packages : List (List JobEntry)) (carried : Option Carried) (begun : Bool) (x : Command)
    → WaitsAs packages carried begun x
    → RisesIn x
waits-rises packages None begun x h o k = report-rises x h o k
waits-rises packages (Some c) begun x h o k =
    subst (λ n. Rises k (k + n) (command_deeds o (with_numbers k x))) (acts-long x h.one)
    (marked-rises (command_deeds o (with_numbers k x)) k (outlines x) (command-marked o k x h.one))

body-rises : (o : Origin) (k : ℕ) (cs : List Command) → AllByRecursion RisesIn cs
    → Rises k (k + ids_of cs) (all_deeds o (numbered k cs))
body-rises o k [] h = omega arith
body-rises o k (c ∷ cs) h =
    let rest = body-rises o (k + ids_in c) cs h.1 in
    let end : k + ids_in c + ids_of cs ≡ k + ids_of (c ∷ cs) = omega arith in
    rises-append k (k + ids_in c) (k + ids_of (c ∷ cs)) (command_deeds o (with_numbers k c))
    (all_deeds o (numbered (k + ids_in c) cs)) (h.0 o k)
    (subst (λ i. Rises (k + ids_in c) i (all_deeds o (numbered (k + ids_in c) cs))) end rest)

-- ---- a message

abbrev pub IsRising : Parts → Type 0
IsRising m = (end : ℕ) × Rises 1 end (all_deeds (origin_of m) m.body)

-- an entry whole, and a part of it
abbrev EntryRises : Entry → Type 0
EntryRises e = RisesIn e.command × ((n : ℕ) → RisesIn (part_of e n))

entries-rise : (packages : List (List JobEntry)) (ws : List Waiting) → AllByRecursion (WaitsOf packages) ws
    → AllByRecursion EntryRises (map (λ (w : Waiting). w.entry) ws)
entries-rise packages [] h = tt
entries-rise packages (w ∷ ws) h = (
  (
    waits-rises packages w.carries w.entry.begun w.entry.command h.0.0,
    λ n. waits-rises packages w.carries w.entry.begun (part_of w.entry n) (part-carries packages w n w.carries h.0.0),
  ),
  entries-rise packages ws h.1,
)

commands-rise : (es : List Entry) → AllByRecursion EntryRises es → AllByRecursion RisesIn (commands_of es)
commands-rise [] h = tt
commands-rise (e ∷ es) h = (h.0.0, commands-rise es h.1)

next-rises : (n : ℕ) (es : List Entry) → AllByRecursion EntryRises es → AllByRecursion RisesIn (next_part n es)
next-rises zero es h = tt
next-rises (suc n) [] h = tt
next-rises (suc n) (e ∷ es) h = (h.0.1 (suc n), tt)

tail-rises : (t : Tail) → AllByRecursion RisesIn (tail_commands t)
tail-rises Final = tt
tail-rises NextMessage = (alert-rises 1222 None, tt)
tail-rises Nothing = tt

pub fill-rises : (packages : List (List JobEntry)) (ws : List Waiting) (h : Header) (room : ℕ) (heard : Bool)
    → AllByRecursion (WaitsOf packages) ws
    → IsRising (fill (map (λ (w : Waiting). w.entry) ws) h room heard).message
unfolding fill
fill-rises packages ws h room heard all =
    let es = map (λ (w : Waiting). w.entry) ws in
    let rise = entries-rise packages ws all in
    let whole = taken h room [] es in
    let before = commands_of (take whole es) in
    let n = cut h room before (drop whole es) in
    let tail = tail_commands (tail_of (next_rest n (drop whole es)) heard) in
    let part = next_part n (drop whole es) in (
      1 + ids_of (before ++ part ++ tail),
      body-rises _ 1 (before ++ part ++ tail)
          (all-append RisesIn (before ++ part) tail
          (all-append RisesIn before part
          (commands-rise (take whole es) (all-front EntryRises whole es rise))
          (next-rises n (drop whole es) (all-behind EntryRises whole es rise)))
          (tail-rises (tail_of (next_rest n (drop whole es)) heard))),
    )

reports-rise : (cs : List Command) → Each IsReport cs → AllByRecursion RisesIn cs
reports-rise [] h = tt
reports-rise (c ∷ cs) h = (report-rises c h.0, reports-rise cs h.1)

pub farewell-rises : (own : Header) (m : Parts) (code : ℕ) (nonce : List ℕ) → IsRising (farewell own m code nonce)
farewell-rises own m code nonce =
    let words = header_answer m.header code nonce in
    let last = alert 1223 None [] ∷ [] in (
      1 + ids_of (words ++ last),
      body-rises _ 1 (words ++ last)
          (all-append RisesIn words last (reports-rise words (header-reports m.header code nonce))
          (alert-rises 1223 None, tt)),
    )
