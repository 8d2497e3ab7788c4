-- What a message that is taken makes of the numbers: what was sent and what waits hold each command once.
use Rattle.std.proofs.Common.{None, Some, ◌≡◌, ◌<◌, ◌≤◌, ◌+◌, ◌==◌, ◌&&◌, ◌||◌, ℕ, zero, suc, Bool, true, false, cond}
use Rattle.std.proofs.Common.{not, List, [], ◌∷◌, ◌++◌, map, take, drop, refl, sym, ap, subst, ◌∙◌, arith, nat_lt}
use Rattle.std.proofs.Common.{nat_le}
use Rattle.std.specs.Prelude.{Option, is_some, if◌then◌else◌}
use Rattle.std.specs.List.{filter, list_any}
use Rattle.syncml_types.specs.Message.{Parts}
use Rattle.syncml_types.specs.declared.command.Command.{Command}
use Rattle.syncml_types.specs.declared.command.Command.TheVariants as command
use Rattle.syncml_parts.specs.Numbering.{ids_in}
use Rattle.dm_headers.specs.declared.checks.Side.TheVariants.{User}
use Rattle.dm_headers.specs.declared.standings.Standing.{Standing}
use Rattle.dm_headers.specs.Checks.{fault_of, is_denied, passes}
use Rattle.dm_headers.specs.Headers.{header_answer}
use Rattle.dm_headers.specs.Standings.{Heard, hears}
use Rattle.dm_pack.specs.Entries.{Entry}
use Rattle.dm_pack.specs.Filling.{next_rest, fill, taken, cut, commands_of}
use Rattle.dm_ends.specs.Commands.{is_abort}
use Rattle.dm_job.specs.declared.job.JobEntry.{JobEntry}
use Rattle.dm_job.specs.Sound.{all_entries, AreNumbered}
use Rattle.dm_service.specs.declared.sent.Carried.{Carried}
use Rattle.dm_service.specs.declared.sent.Sent.{Sent}
use Rattle.dm_service.specs.Service.{Waiting, Session, Service}
use Rattle.dm_service.specs.Packages.{commands_in, is_of_job, job_waiting, queues_package, next_package, holds_number}
use Rattle.dm_service.specs.Packages.{not_sent, package_put_back, runs_after, gives_up}
use Rattle.dm_service.specs.Answers.{command_answers}
use Rattle.dm_service.specs.Sending.{header_for, goes_out, carried_on, sends, runs_in_after}
use Rattle.dm_service.specs.Messages.{ended, denies, answer_waiting, after_status, tells, queues_answers, session_or}
use Rattle.dm_service.specs.Messages.{in_session, answers_message, by_header, accepts}
use Rattle.dm_service.specs.Laws.{times_sent, IsRunBy}
use Rattle.dm_service.proofs.Steps.{either}
use Rattle.dm_service.proofs.Once.{weigh, weigh_append, weigh_row, weigh_carried, weigh_waiting, waiting_append}
use Rattle.dm_service.proofs.Once.{HasCommands, AllHaveCommands, out_weighs}

-- ---- one number

abbrev pub bit : Bool → ℕ
bit b = if b then 1 else 0

-- 1 at a number, 0 elsewhere
abbrev pub is : ℕ → ℕ → ℕ
is n k = bit (k == n)

pub times_weigh : (n : ℕ) (ss : List Sent) → times_sent n ss ≡ weigh (is n) ss
times_weigh n [] = refl
times_weigh n (s ∷ ss) = let rest = times_weigh n ss in omega (arith, rest)

not-here : (n k : ℕ) (b : Bool) → (k == n) ≡ b → n < k → bit b ≡ 0
not-here n k true e l = let f : k ≡ n = grind (arith, e) in absurd (omega (arith, f, l))
not-here n k false e l = refl

not-is : (n k : ℕ) → n < k → is n k ≡ 0
not-is n k l = not-here n k (k == n) refl l

-- a row behind a number doesn't hold it
row-behind : (n number count : ℕ) → n < number → weigh_row (is n) number count ≡ 0
row-behind n number zero l = refl
row-behind n number (suc count) l =
    let here = not-is n number l in
    let rest = row-behind n (number + 1) count (omega (arith, l)) in
    omega (arith, here, rest)

once-step : (n number count : ℕ) (b : Bool) → (number == n) ≡ b → weigh_row (is n) (number + 1) count ≤ 1
    → bit b + weigh_row (is n) (number + 1) count ≤ 1
once-step n number count true e h =
    let f : number ≡ n = grind (arith, e) in
    let rest = row-behind n (number + 1) count (omega (arith, f)) in
    omega (arith, rest)
once-step n number count false e h = omega (arith, h)

-- a row holds a number once
row-once : (n number count : ℕ) → weigh_row (is n) number count ≤ 1
row-once n number zero = omega arith
row-once n number (suc count) = once-step n number count (number == n) refl (row-once n (number + 1) count)

row-both : (f : ℕ → ℕ) (number a b : ℕ) → weigh_row f number (a + b) ≡ weigh_row f number a + weigh_row f (number + a) b
row-both f number zero b =
    let e : weigh_row f number (0 + b) ≡ weigh_row f number b = ap (λ k. weigh_row f number k) (omega arith) in
    let g : weigh_row f (number + 0) b ≡ weigh_row f number b = ap (λ k. weigh_row f k b) (omega arith) in
    omega (arith, e, g)
row-both f number (suc a) b =
    let rest = row-both f (number + 1) a b in
    let more : suc a + b ≡ suc (a + b) = omega arith in
    let whole = ap (λ k. weigh_row f number k) more in
    let e : weigh_row f (number + 1 + a) b ≡ weigh_row f (number + suc a) b = ap (λ k. weigh_row f k b) (omega arith) in
    omega (arith, rest, whole, e)

-- ---- entries of the job

abbrev pub weigh_entries : (ℕ → ℕ) → List JobEntry → ℕ
weigh_entries f [] = 0
weigh_entries f (e ∷ es) = weigh_row f e.number (ids_in e.command) + weigh_entries f es

entries-append : (f : ℕ → ℕ) (ds es : List JobEntry)
    → weigh_entries f (ds ++ es) ≡ weigh_entries f ds + weigh_entries f es
entries-append f [] es = omega arith
entries-append f (d ∷ ds) es = let rest = entries-append f ds es in omega (arith, rest)

-- entries that are numbered in order are a row
numbered-row : (f : ℕ → ℕ) (k : ℕ) (es : List JobEntry) → AreNumbered k es
    → weigh_entries f es ≡ weigh_row f k (commands_in es)
numbered-row f k [] h = refl
numbered-row f k (e ∷ es) h =
    let rest = numbered-row f (k + ids_in e.command) es h.1 in
    let both = row-both f k (ids_in e.command) (commands_in es) in
    let here : weigh_row f e.number (ids_in e.command) ≡ weigh_row f k (ids_in e.command) =
    ap (λ j. weigh_row f j (ids_in e.command)) h.0 in
    omega (arith, rest, both, here)

pub job_once : (n : ℕ) (ps : List (List JobEntry)) → AreNumbered 1 (all_entries ps)
    → weigh_entries (is n) (all_entries ps) ≤ 1
job_once n ps h =
    let row = numbered-row (is n) 1 (all_entries ps) h in
    let once = row-once n 1 (commands_in (all_entries ps)) in
    omega (arith, row, once)

-- ---- what waits

some-ids : (c : Command) → 0 < ids_in c
unfolding ids_in
some-ids (command.Plain c) = omega arith
some-ids (command.Alert c) = omega arith
some-ids (command.Atomic b) = omega arith
some-ids (command.Sequence b) = omega arith
some-ids (command.Status c) = omega arith
some-ids (command.Results c) = omega arith

job-weighs : (f : ℕ → ℕ) (es : List JobEntry) → weigh_waiting f (map job_waiting es) ≡ weigh_entries f es
job-weighs f [] = refl
job-weighs f (e ∷ es) = let rest = job-weighs f es in omega (arith, rest)

job-has : (es : List JobEntry) → AllHaveCommands (map job_waiting es)
job-has [] = tt
job-has (e ∷ es) = (some-ids e.command, job-has es)

answers-weigh : (f : ℕ → ℕ) (cs : List Command) → weigh_waiting f (map answer_waiting cs) ≡ 0
answers-weigh f [] = refl
answers-weigh f (c ∷ cs) = let rest = answers-weigh f cs in omega (arith, rest)

answers-have : (cs : List Command) → AllHaveCommands (map answer_waiting cs)
answers-have [] = tt
answers-have (c ∷ cs) = (tt, answers-have cs)

have-both : (vs ws : List Waiting) → AllHaveCommands vs → AllHaveCommands ws → AllHaveCommands (vs ++ ws)
have-both [] ws h k = k
have-both (v ∷ vs) ws h k = (h.0, have-both vs ws h.1 k)

have-left : (n : ℕ) (ws : List Waiting) → AllHaveCommands ws → AllHaveCommands (drop n ws)
have-left zero ws h = h
have-left (suc n) [] h = tt
have-left (suc n) (w ∷ ws) h = have-left n ws h.1

have-carried : (es : List Entry) (ws : List Waiting) → AllHaveCommands ws → AllHaveCommands (carried_on es ws)
have-carried [] ws h = tt
have-carried (e ∷ es) [] h = tt
have-carried (e ∷ es) (w ∷ ws) h = (h.0, have-carried es ws h.1)

-- ---- what is given up

abbrev keeps-answer : Option Carried → Waiting → List Waiting → List Waiting
keeps-answer o w ws = cond (not (is_some o)) (w ∷ ws) ws

others-step : (f : ℕ → ℕ) (w : Waiting) (ws : List Waiting) (o : Option Carried) → w.carries ≡ o
    → weigh_waiting f ws ≡ 0 → weigh_waiting f (keeps-answer o w ws) ≡ 0
others-step f w ws None e rest =
    let none : weigh_carried f w.entry.begun w.carries ≡ 0 = ap (weigh_carried f w.entry.begun) e in
    omega (arith, none, rest)
others-step f w ws (Some c) e rest = rest

others-weigh : (f : ℕ → ℕ) (ws : List Waiting) → weigh_waiting f (filter (λ w. not (is_of_job w)) ws) ≡ 0
others-weigh f [] = refl
others-weigh f (w ∷ ws) =
    others-step f w (filter (λ w. not (is_of_job w)) ws) w.carries refl (others-weigh f ws)

others-have-step : (w : Waiting) (ws : List Waiting) (o : Option Carried) → w.carries ≡ o → AllHaveCommands ws
    → AllHaveCommands (keeps-answer o w ws)
others-have-step w ws None e rest = (subst HasCommands (sym e) tt, rest)
others-have-step w ws (Some c) e rest = rest

others-have : (ws : List Waiting) → AllHaveCommands (filter (λ w. not (is_of_job w)) ws)
others-have [] = tt
others-have (w ∷ ws) = others-have-step w (filter (λ w. not (is_of_job w)) ws) w.carries refl (others-have ws)

fewer-step : (f : ℕ → ℕ) (s : Sent) (left ss : List Sent) (b : Bool) → weigh f left ≤ weigh f ss
    → weigh f (cond b (s ∷ left) left) ≤ weigh f (s ∷ ss)
fewer-step f s left ss true h = omega (arith, h)
fewer-step f s left ss false h = omega (arith, h)

fewer : (f : ℕ → ℕ) (given : List JobEntry) (ss : List Sent) → weigh f (not_sent given ss) ≤ weigh f ss
fewer f given [] = omega arith
fewer f given (s ∷ ss) =
    fewer-step f s (not_sent given ss) ss (not (holds_number given s.number)) (fewer f given ss)

light : (n : ℕ) (s : Sent) (left : List Sent) (counts : Bool) → is n s.number ≡ 0 → weigh (is n) left ≡ 0
    → cond counts (is n s.number) 0 + weigh (is n) left ≡ 0
light n s left true here rest = omega (arith, here, rest)
light n s left false here rest = omega (arith, rest)

left-step : (n : ℕ) (given : List JobEntry) (s : Sent) (left : List Sent) (a b : Bool) → (s.number == n) ≡ a
    → holds_number given s.number ≡ b → holds_number given n ≡ true → weigh (is n) left ≡ 0
    → weigh (is n) (cond (not b) (s ∷ left) left) ≡ 0
left-step n given s left a true e f h rest = rest
left-step n given s left true false e f h rest =
    let k : s.number ≡ n = grind (arith, e) in
    let g : holds_number given n ≡ false = ap (holds_number given) (sym k) ∙ f in
    absurd (cc)
left-step n given s left false false e f h rest =
    light n s left s.counts (ap bit e) rest

-- nothing of a package is left of what was sent
none-left : (n : ℕ) (given : List JobEntry) (ss : List Sent) → holds_number given n ≡ true
    → weigh (is n) (not_sent given ss) ≡ 0
none-left n given [] h = refl
none-left n given (s ∷ ss) h =
    left-step n given s (not_sent given ss) (s.number == n) (holds_number given s.number) refl refl h
    (none-left n given ss h)

beyond-here : (n number : ℕ) (b : Bool) → (number == n) ≡ b → number < n → bit b ≡ 0
beyond-here n number true e l = let f : number ≡ n = grind (arith, e) in absurd (omega (arith, f, l))
beyond-here n number false e l = refl

-- a row before a number doesn't hold it
row-before : (n number count : ℕ) → number + count ≤ n → weigh_row (is n) number count ≡ 0
row-before n number zero l = refl
row-before n number (suc count) l =
    let here = beyond-here n number (number == n) refl (omega (arith, l)) in
    let rest = row-before n (number + 1) count (omega (arith, l)) in
    omega (arith, here, rest)

without-row : (n number count : ℕ) (a b : Bool) → nat_le number n ≡ a → nat_lt n (number + count) ≡ b
    → (a && b) ≡ false → weigh_row (is n) number count ≡ 0
without-row n number count false b e f h = let l : n < number = grind (arith, e) in row-behind n number count l
without-row n number count true true e f h = absurd (cc)
without-row n number count true false e f h = let l : number + count ≤ n = grind (arith, f) in
    row-before n number count l

without-step : (n : ℕ) (e : JobEntry) (es : List JobEntry) (a b : Bool)
    → (nat_le e.number n && nat_lt n (e.number + ids_in e.command)) ≡ a → holds_number es n ≡ b → (a || b) ≡ false
    → (holds_number es n ≡ false → weigh_entries (is n) es ≡ 0)
    → weigh_row (is n) e.number (ids_in e.command) + weigh_entries (is n) es ≡ 0
without-step n e es true b p q h rest = absurd (cc)
without-step n e es false true p q h rest = absurd (cc)
without-step n e es false false p q h rest =
    let here = without-row n e.number (ids_in e.command) (nat_le e.number n) (nat_lt n (e.number + ids_in e.command))
    refl refl p in
    let later = rest q in
    omega (arith, here, later)

without : (n : ℕ) (es : List JobEntry) → holds_number es n ≡ false → weigh_entries (is n) es ≡ 0
without n [] h = refl
without n (e ∷ es) h =
    without-step n e es (nat_le e.number n && nat_lt n (e.number + ids_in e.command)) (holds_number es n) refl refl h
    (without n es)

-- ---- the invariant

-- of the commands that were sent, wait, or are in packages that wait, each is there once
pub record Once (n : ℕ) (v : Service) (s : Session) : Type 0 where
  pub job : weigh_entries (is n) (all_entries v.job.packages) ≤ 1
  pub total : weigh (is n) s.sent + weigh_waiting (is n) v.queue + weigh_entries (is n) (all_entries v.packages) ≤ 1
  pub packages : weigh_entries (is n) v.newest + weigh_entries (is n) (all_entries v.packages) ≤ 1
  pub queue : AllHaveCommands v.queue
  pub run : IsRunBy v.runs_in s.progress.number s.sent

-- a machine in its session
pub record Holds (n : ℕ) (v : Service) : Type 0 where
  pub session : Session
  pub is_it : v.session ≡ Some session
  pub once : Once n v session

put-back-weighs : (f : ℕ → ℕ) (p : List JobEntry) (ps : List (List JobEntry))
    → weigh_entries f (all_entries (package_put_back p ps)) ≡ weigh_entries f p + weigh_entries f (all_entries ps)
put-back-weighs f [] ps = omega arith
put-back-weighs f (e ∷ es) ps = entries-append f (e ∷ es) (all_entries ps)

given-up : (n : ℕ) (v : Service) (s : Session) (b : Bool) → holds_number v.newest n ≡ b → Once n v s
    → weigh (is n) (not_sent v.newest s.sent) + weigh_entries (is n) v.newest
    + weigh_entries (is n) (all_entries v.packages)
    ≤ 1
given-up n v s true e h =
    let none = none-left n v.newest s.sent e in
    let most = h.packages in
    omega (arith, none, most)
given-up n v s false e h =
    let light = without n v.newest e in
    let few = fewer (is n) v.newest s.sent in
    let most = h.total in
    omega (arith, light, few, most)

run-left : (given : List JobEntry) (runs : Option ℕ) (number : ℕ) (sent : List Sent) → IsRunBy runs number sent
    → IsRunBy (runs_after runs sent (not_sent given sent)) number (not_sent given sent)
run-left given runs number [] h = tt
run-left given runs number (s ∷ ss) h = left (not_sent given (s ∷ ss))
  where
    left : (xs : List Sent) → IsRunBy (runs_after runs (s ∷ ss) xs) number xs
    left [] = tt
    left (x ∷ xs) = h

run-more : (runs : Option ℕ) (number : ℕ) (sent out : List Sent) → IsRunBy runs number sent
    → IsRunBy (runs_in_after runs number out) number (sent ++ out)
run-more runs number [] [] h = tt
run-more runs number [] (x ∷ xs) h = refl
run-more runs number (s ∷ ss) [] h = h
run-more runs number (s ∷ ss) (x ∷ xs) h = refl

gives-once : (n : ℕ) (v : Service) (s : Session) → Once n v s → Holds n (gives_up v s)
unfolding gives_up
gives-once n v s h =
    let most = given-up n v s (holds_number v.newest n) refl h in
    let back = put-back-weighs (is n) v.newest v.packages in
    let none = others-weigh (is n) v.queue in
    let place = h.packages in
    record {
      session = _;
      is_it = refl;
      once = record {
        job = h.job;
        total = omega (arith, most, back, none);
        packages = omega (arith, back, place);
        queue = others-have v.queue;
        run = run-left v.newest v.runs_in s.progress.number s.sent h.run;
      };
    }

status-once : (n : ℕ) (v : Service) (s : Session) (failed : Bool) (status : ℕ) → v.session ≡ Some s → Once n v s
    → Holds n (after_status v s failed status)
status-once n v s failed status e h =
    either (Holds n) (not failed && is_denied status) (gives_up v s) v (gives-once n v s h)
    (record { session = s; is_it = e; once = h })

-- ---- a message

tells-once : (n : ℕ) (v : Service) (s : Session) (m : Parts) (code : ℕ) → v.session ≡ Some s → Once n v s
    → Holds n (tells v s m code)
tells-once n v s m code e h =
    either (Holds n) (passes code) _ v
    (record {
      session = _;
      is_it = refl;
      once = record {
        job = h.job;
        total = h.total;
        packages = h.packages;
        queue = h.queue;
        run = h.run;
      };
    })
    (record { session = s; is_it = e; once = h })

answers-once : (n : ℕ) (v : Service) (s : Session) (m : Parts) (code : ℕ) (nonce : List ℕ) → Once n v s
    → Once n (queues_answers v m code nonce) s
answers-once n v s m code nonce h =
    let first = map answer_waiting (header_answer m.header code nonce) in
    let made = map answer_waiting (if passes code then command_answers m else []) in
    let whole = waiting_append (is n) (first ++ v.queue) made in
    let front = waiting_append (is n) first v.queue in
    let none = answers-weigh (is n) (header_answer m.header code nonce) in
    let also = answers-weigh (is n) (if passes code then command_answers m else []) in
    let most = h.total in
    record {
      job = h.job;
      run = h.run;
      total = omega (arith, whole, front, none, also, most);
      packages = h.packages;
      queue = have-both (first ++ v.queue) made
          (have-both first v.queue (answers-have (header_answer m.header code nonce)) h.queue)
          (answers-have (if passes code then command_answers m else []));
    }

queues-once : (n : ℕ) (v : Service) (s : Session) (ps : List (List JobEntry)) → v.packages ≡ ps → Once n v s
    → Once n (queues_package v ps) s
queues-once n v s [] e h = h
queues-once n v s (p ∷ ps) e h =
    let is_all : weigh_entries (is n) (all_entries v.packages)
    ≡ weigh_entries (is n) p + weigh_entries (is n) (all_entries ps) =
    ap (λ q. weigh_entries (is n) (all_entries q)) e ∙ entries-append (is n) p (all_entries ps) in
    let whole = waiting_append (is n) v.queue (map job_waiting p) in
    let new = job-weighs (is n) p in
    let most = h.total in
    let place = h.packages in
    record {
      job = h.job;
      run = h.run;
      total = omega (arith, is_all, whole, new, most);
      packages = omega (arith, is_all, place);
      queue = have-both v.queue (map job_waiting p) h.queue (job-has p);
    }

package-once : (n : ℕ) (v : Service) (s : Session) (t : Standing) → Once n v s → Once n (next_package v t) s
package-once n v s t h =
    either (λ w. Once n w s) (t.accepted && t.heard && not (list_any is_of_job v.queue))
    (queues_package v v.packages) v (queues-once n v s v.packages refl h) h

pub map_drop : (k : ℕ) (ws : List Waiting)
    → drop k (map (λ (w : Waiting). w.entry) ws) ≡ map (λ (w : Waiting). w.entry) (drop k ws)
map_drop zero ws = refl
map_drop (suc k) [] = refl
map_drop (suc k) (w ∷ ws) = map_drop k ws

sends-once : (n : ℕ) (v : Service) (s : Session) (m : Parts) (code : ℕ) → Once n v s → Holds n (sends v s m code)
unfolding sends fill
sends-once n v s m code h =
    let p = s.progress in
    let es = map (λ (w : Waiting). w.entry) v.queue in
    let header = header_for v p m in
    let whole = taken header p.standing.room [] es in
    let bytes = cut header p.standing.room (commands_of (take whole es)) (drop whole es) in
    let out = goes_out (p.standing.own + 1) 1 whole bytes v.queue in
    let left : carried_on (next_rest bytes (drop whole es)) (drop whole v.queue)
    ≡ carried_on (next_rest bytes (map (λ (w : Waiting). w.entry) (drop whole v.queue))) (drop whole v.queue) =
    ap (λ x. carried_on (next_rest bytes x) (drop whole v.queue)) (map_drop whole v.queue) in
    let weighs = ap (weigh_waiting (is n)) left in
    let moved = out_weighs (is n) (p.standing.own + 1) 1 whole bytes v.queue h.queue in
    let both = weigh_append (is n) s.sent out in
    let most = h.total in
    record {
      session = _;
      is_it = refl;
      once = record {
        job = h.job;
        run = run-more v.runs_in p.number s.sent out h.run;
        total = omega (arith, weighs, moved, both, most);
        packages = h.packages;
        queue = have-carried (next_rest bytes (drop whole es)) (drop whole v.queue) (have-left whole v.queue h.queue);
      };
    }

ended-once : (n : ℕ) (v : Service) (s : Session) → Once n v s → Holds n (ended v s)
ended-once n v s h =
    record {
      session = _;
      is_it = refl;
      once = record {
        job = h.job;
        total = h.total;
        packages = h.packages;
        queue = h.queue;
        run = h.run;
      };
    }

denies-once : (n : ℕ) (v : Service) (s : Session) (m : Parts) (code : ℕ) (nonce : List ℕ) → Once n v s
    → Holds n (denies v s m code nonce)
unfolding denies
denies-once n v s m code nonce h =
    record {
      session = _;
      is_it = refl;
      once = record {
        job = h.job;
        total = h.total;
        packages = h.packages;
        queue = h.queue;
        run = h.run;
      };
    }

-- the session that a machine has is the one that is found in it
pub found : (o : Option Session) (s x : Session) → o ≡ Some x → session_or o s ≡ x
found None s x e = absurd (cc)
found (Some y) s x e = cc

message-once : (n : ℕ) (v : Service) (s : Session) (m : Parts) (code : ℕ) (nonce : List ℕ) → v.session ≡ Some s
    → Once n v s → Holds n (answers_message v s m code nonce)
message-once n v s m code nonce e h =
    let told = tells v s m code in
    let k = tells-once n v s m code e h in
    let t = in_session told s in
    let is_t : t ≡ k.session = found told.session s k.session k.is_it in
    let once : Once n told t = subst (λ x. Once n told x) (sym is_t) k.once in
    let waits = queues_answers told m code nonce in
    sends-once n (next_package waits t.progress.standing) t m code
    (package-once n waits t t.progress.standing (answers-once n told t m code nonce once))

header-once : (n : ℕ) (v : Service) (s : Session) (m : Parts) (h : Heard) (nonce : List ℕ) → v.session ≡ Some s
    → Once n v s → Holds n (by_header v s m h nonce)
header-once n v s m h nonce e once =
    either (Holds n) (not (is_some (fault_of m)) && list_any is_abort m.body) (ended v s)
    (cond h.second (denies v s m h.code nonce) (answers_message v s m h.code nonce)) (ended-once n v s once)
    (either (Holds n) h.second (denies v s m h.code nonce) (answers_message v s m h.code nonce)
    (denies-once n v s m h.code nonce once) (message-once n v s m h.code nonce e once))

pub accepts_once : (n : ℕ) (v : Service) (s : Session) (m : Parts) (nonce : List ℕ) → Once n v s
    → Holds n (accepts v s m nonce)
unfolding accepts
accepts_once n v s m nonce h =
    let heard = hears User v.job.account s.progress.standing m nonce in
    let t : Session = record s { progress = record s.progress { standing = heard.standing } } in
    let w : Service = record v { job = record v.job { account = heard.account }; session = Some t } in
    let once : Once n w t = record {
      job = h.job;
      total = h.total;
      packages = h.packages;
      queue = h.queue;
      run = h.run;
    } in
    let u = after_status w t s.progress.standing.we_failed heard.status in
    let k = status-once n w t s.progress.standing.we_failed heard.status refl once in
    let x = in_session u t in
    let is_x : x ≡ k.session = found u.session t k.session k.is_it in
    header-once n u x m heard nonce (k.is_it ∙ ap Some (sym is_x)) (subst (λ y. Once n u y) (sym is_x) k.once)
