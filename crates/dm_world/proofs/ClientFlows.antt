-- What a client sends, and what waits there, are the pieces of values that it found, in order: whatever it takes.
use Rattle.std.proofs.Common.{zero, suc, ◌≡◌, ◌≤◌, ◌+◌, ◌-◌, ◌&&◌, ℕ, Bool, false, cond, List, [], ◌∷◌, ◌++◌}
use Rattle.std.proofs.Common.{map, length, take, drop, Option, None, Some, IfSome, refl, sym, ◌∙◌, ap, subst, arith}
use Rattle.std.specs.List.{list_any}
use Rattle.std.specs.Option.{option_or}
use Rattle.std.proofs.lemmas.List.{length-append}
use Rattle.syncml_types.specs.declared.values.Header.{Header}
use Rattle.syncml_types.specs.declared.command.Command.{Command}
use Rattle.syncml_types.specs.declared.command.Command.TheVariants as command
use Rattle.syncml_types.specs.Message.{Parts}
use Rattle.syncml_parts.specs.Numbering.{ids_in, with_numbers}
use Rattle.dm_tree.specs.Nodes.{Nodes}
use Rattle.dm_auth.specs.declared.accounts.Account.{Account}
use Rattle.dm_headers.specs.Checks.{is_denied, passes}
use Rattle.dm_headers.specs.Headers.{is_withheld, header_answer}
use Rattle.dm_headers.specs.Standings.{Heard}
use Rattle.dm_atomic.specs.Made.{Made, told}
use Rattle.dm_atomic.specs.Run.{Next, abandoned}
use Rattle.dm_pack.specs.Entries.{Entry, whole_entry, rest_of}
use Rattle.dm_pack.specs.Filling.{numbered, commands_of, taken, cut, next_rest, fill}
use Rattle.dm_ends.specs.Commands.{alert}
use Rattle.dm_machine.specs.declared.kinds.Initiator.{Initiator}
use Rattle.dm_machine.specs.declared.kinds.End.TheVariants.{Finished, Aborted}
use Rattle.dm_machine.specs.declared.progress.Progress.{Progress}
use Rattle.dm_machine.specs.declared.progress.UpdateResult.{UpdateResult}
use Rattle.dm_machine.specs.Machine.{Session, Machine}
use Rattle.dm_machine.specs.Opening.{result_alert, update_uri, device_told, opening, first_package}
use Rattle.dm_machine.specs.Sending.{header_from, sends}
use Rattle.dm_machine.specs.Messages.{Outcome, goes_on, ends, begins, Waits, waits_after, queued_again, is_over}
use Rattle.dm_machine.specs.Messages.{account_at, closed, finished, first_progress, denied, run_of, answered, by_header}
use Rattle.dm_machine.specs.Messages.{is_last_own, is_abort, accepts}
use Rattle.dm_machine.specs.Statuses.{executed}
use Rattle.dm_machine.proofs.StaysReady.{heard_by as machine_heard}
use Rattle.dm_machine.proofs.StaysWaiting.{answering, behind_answer, beginning}
use Rattle.dm_machine.specs.Events as client
use Rattle.dm_world.specs.World.{InSession, said, each_in_session, heard_by, made_in}
use Rattle.dm_world.proofs.Lists.{either, either_is, Each, each-append}
use Rattle.dm_world.proofs.Client.{OpenAs}
use Rattle.dm_world.proofs.Packing.{commands-append}
use Rattle.dm_world.proofs.SaysMade.{AreMade, run-made, run-within}
use Rattle.dm_world.proofs.Flows.{Going, Flow, IsSilent, silent-front, flow-append, flow-fill, flow-later, told-flow}
use Rattle.dm_world.proofs.Flows.{fresh-commands, FlowsOn, flow-cons, silent-one, silent-off}

-- ---- the first package holds no Results

abbrev pub IsSilentEntry : Entry → Type 0
IsSilentEntry e = IsSilent e.command

-- nor do the entries of it that wait: so many from this place on
abbrev pub Free : ℕ → ℕ → List Entry → Type 0
Free zero left es = Each IsSilentEntry (take left es)
Free (suc at) left [] = Unit {0}
Free (suc at) left (e ∷ es) = Free at left es

free-nil : (at left : ℕ) → Free at left []
free-nil zero zero = tt
free-nil zero (suc left) = tt
free-nil (suc at) left = tt

free-drop : (k at left at' left' : ℕ) (es : List Entry) → at' ≡ at - k → left' ≡ left - (k - at) → Free at left es
    → Free at' left' (drop k es)
free-drop zero at left at' left' es e f h =
    let same : at ≡ at' = omega (arith, e) in
    let rest : left ≡ left' = omega (arith, f) in
    subst (λ l. Free at' l es) rest (subst (λ a. Free a left es) same h)
free-drop (suc k) at left at' left' [] e f h = free-nil at' left'
free-drop (suc k) zero zero at' left' (x ∷ es) e f h =
    let same : 0 ≡ at' = omega (arith, e) in
    let rest : 0 ≡ left' = omega (arith, f) in
    subst (λ l. Free at' l (drop k es)) rest (subst (λ a. Free a 0 (drop k es)) same tt)
free-drop (suc k) zero (suc left) at' left' (x ∷ es) e f h =
    free-drop k zero left at' left' es (omega (arith, e)) (omega (arith, f)) h.1
free-drop (suc k) (suc at) left at' left' (x ∷ es) e f h =
    free-drop k at left at' left' es (omega (arith, e)) (omega (arith, f)) h

silent-rest : (c : Command) (b : Bool) (n : ℕ) → IsSilent c
    → IsSilent (rest_of (record { command = c; begun = b }) n).command
unfolding rest_of
silent-rest (command.Results r) b n h = h
silent-rest (command.Plain p) b n h = tt
silent-rest (command.Alert a) b n h = tt
silent-rest (command.Atomic x) b n h = tt
silent-rest (command.Sequence x) b n h = tt
silent-rest (command.Status s) b n h = tt

free-rest : (n at left : ℕ) (es : List Entry) → Free at left es → Free at left (next_rest n es)
free-rest zero at left es h = h
free-rest (suc n) at left [] h = free-nil at left
free-rest (suc n) zero zero (e ∷ es) h = tt
free-rest (suc n) zero (suc left) (e ∷ es) h = (silent-rest e.command e.begun (suc n) h.0, h.1)
free-rest (suc n) (suc at) left (e ∷ es) h = h

free-left : (es : List Entry) (header : Header) (room : ℕ) (heard : Bool) (at left : ℕ) → Free at left es
    → Free (at - (fill es header room heard).whole) (left - ((fill es header room heard).whole - at))
    (fill es header room heard).left
unfolding fill
free-left es header room heard at left h =
    let whole = taken header room [] es in
    let n = cut header room (commands_of (take whole es)) (drop whole es) in
    free-rest n (at - whole) (left - (whole - at)) (drop whole es)
    (free-drop whole at left (at - whole) (left - (whole - at)) es refl refl h)

free-front : (xs es : List Entry) (at at' left : ℕ) → at' ≡ at + length xs → Free at left es
    → Free at' left (xs ++ es)
free-front [] es at at' left e h =
    let same : at ≡ at' = omega (arith, e) in subst (λ a. Free a left es) same h
free-front (x ∷ xs) es at zero left e h = absurd (omega (arith, e))
free-front (x ∷ xs) es at (suc at') left e h = free-front xs es at at' left (omega (arith, e)) h

free-behind : (at left : ℕ) (es ys : List Entry) → at + left ≤ length es → Free at left es → Free at left (es ++ ys)
free-behind zero zero [] ys l h = tt
free-behind zero (suc left) [] ys l h = absurd (omega (arith, l))
free-behind (suc at) left [] ys l h = absurd (omega (arith, l))
free-behind zero zero (e ∷ es) ys l h = tt
free-behind zero (suc left) (e ∷ es) ys l h = (h.0, free-behind zero left es ys (omega (arith, l)) h.1)
free-behind (suc at) left (e ∷ es) ys l h = free-behind at left es ys (omega (arith, l)) h

silent-take : (n : ℕ) (es : List Entry) → Each IsSilentEntry es → Each IsSilentEntry (take n es)
silent-take zero es h = tt
silent-take (suc n) [] h = tt
silent-take (suc n) (e ∷ es) h = (h.0, silent-take n es h.1)

free-last : (rest first : List Entry) (left : ℕ) → Each IsSilentEntry first → Free (length rest) left (rest ++ first)
free-last [] first left h = silent-take left first h
free-last (e ∷ es) first left h = free-last es first left h

-- ---- it may be taken out

without-first : (made : List (InSession Made)) (n left : ℕ) (es : List Entry) → Each IsSilentEntry (take left es)
    → FlowsOn made n (commands_of es) (commands_of (drop left es))
without-first made n zero es h o f = f
without-first made n (suc left) [] h o f = f
without-first made n (suc left) (e ∷ es) h o f =
    without-first made n left es h.1 o (silent-off made n e.command (commands_of es) h.0 o f)

without-free : (made : List (InSession Made)) (n at left k : ℕ) (es : List Entry) → k ≡ at + left → Free at left es
    → FlowsOn made n (commands_of es) (commands_of (take at es ++ drop k es))
without-free made n zero left k es e h =
    let same : left ≡ k = omega (arith, e) in
    subst (λ i. FlowsOn made n (commands_of es) (commands_of (drop i es))) same (without-first made n left es h)
without-free made n (suc at) left zero es e h = absurd (omega (arith, e))
without-free made n (suc at) left (suc k) [] e h = λ o f. f
without-free made n (suc at) left (suc k) (x ∷ es) e h =
    flow-cons made n x.command (commands_of es) (commands_of (take at es ++ drop k es))
    (without-free made n at left k es (omega (arith, e)) h)

-- ---- what is queued beside Results

pub silent-flow : (made : List (InSession Made)) (n : ℕ) (cs : List Command) → Each IsSilent cs → Flow made n None cs
silent-flow made n [] h = tt
silent-flow made n (c ∷ cs) h = silent-one made n c cs h.0 None (silent-flow made n cs h.1)

header-silent : (h : Header) (code : ℕ) (nonce : List ℕ) → Each IsSilent (header_answer h code nonce)
unfolding header_answer
header-silent h code nonce = either (Each IsSilent) (is_withheld h code) tt (tt, tt)

alerts-silent : (uri : List ℕ) (results : List UpdateResult) (more : List Command) → Each IsSilent more
    → Each IsSilent (map (result_alert uri) results ++ more)
alerts-silent uri [] more h = h
alerts-silent uri (r ∷ rs) more h = (tt, alerts-silent uri rs more h)

opening-silent : (kind : Initiator) (results : List UpdateResult) (tree : Nodes) → Each IsSilent (opening kind results tree)
opening-silent kind results tree = (tt, alerts-silent (update_uri tree) results (device_told tree ∷ []) (tt, tt))

fresh-silent : (cs : List Command) → Each IsSilent cs → Each IsSilentEntry (map whole_entry cs)
fresh-silent [] h = tt
fresh-silent (c ∷ cs) h = (h.0, fresh-silent cs h.1)

first-silent : (c : Machine) (kind : Initiator) → Each IsSilentEntry (first_package c kind)
first-silent c kind =
    fresh-silent (opening kind c.results c.engine.tree) (opening-silent kind c.results c.engine.tree)

first-flow : (made : List (InSession Made)) (n : ℕ) (c : Machine) (kind : Initiator)
    → Flow made n None (commands_of (first_package c kind))
first-flow made n c kind =
    subst (Flow made n None) (sym (fresh-commands (opening kind c.results c.engine.tree)))
    (silent-flow made n (opening kind c.results c.engine.tree) (opening-silent kind c.results c.engine.tree))

-- ---- what waits behind a header

record Waiting (made : List (InSession Made)) (n : ℕ) (o : Option Going) (w : Waits) : Type 0 where
  flow : Flow made n o (commands_of w.queue)
  free : Free w.progress.opening_at w.progress.opening_left w.queue
  bound : w.progress.opening_at + w.progress.opening_left ≤ length w.queue

again-waiting : (made : List (InSession Made)) (n : ℕ) (o : Option Going) (c : Machine) (w : Waits)
    → Waiting made n o w
    → Waiting made n o (queued_again c w)
again-waiting made n o c w h =
    let p = w.progress in
    let rest = take p.opening_at w.queue ++ drop (p.opening_at + p.opening_left) w.queue in
    let first = first_package c p.kind in
    let long = length-append rest first in
    record {
      flow = subst (Flow made n o) (sym (commands-append rest first))
          (flow-append made n (commands_of rest) (commands_of first) (first-flow made n c p.kind) o
          (without-free made n p.opening_at p.opening_left (p.opening_at + p.opening_left) w.queue refl h.free o
          h.flow));
      free = free-last rest first (length first) (first-silent c p.kind);
      bound = omega (arith, long);
    }

after-waiting : (made : List (InSession Made)) (n : ℕ) (o : Option Going) (c : Machine) (p : Progress) (h : Heard)
    → Flow made n o (commands_of c.queue)
    → Free p.opening_at p.opening_left c.queue
    → p.opening_at + p.opening_left ≤ length c.queue
    → Waiting made n o (waits_after c p h)
after-waiting made n o c p h f g l =
    let w : Waits = record { progress = record p { standing = h.standing }; queue = c.queue } in
    either (Waiting made n o) (is_denied h.status) {x = queued_again c w} {y = w}
    (again-waiting made n o c w (record { flow = f; free = g; bound = l })) (record { flow = f; free = g; bound = l })

-- ---- what is sent, and what is left then

pub record Streams (made : List (InSession Made)) (n : ℕ) (o : Option Going) (c : Machine) (t : Session) : Type 0 where
  pub flow : Flow made n o (t.sent.body ++ commands_of c.queue)
  pub free : Free t.progress.opening_at t.progress.opening_left c.queue

-- with the group that this leaves
pub record Turns (made : List (InSession Made)) (n : ℕ) (o : Option Going) (run : Next) (c : Machine) (t : Session)
    : Type 0 where
  pub streams : Streams made n o c t
  pub group : c.engine.group ≡ run.state.group

sends-turns : (made : List (InSession Made)) (n : ℕ) (o : Option Going) (run : Next) (c : Machine) (p : Progress)
    (a : Account)
    → Flow made n o (commands_of c.queue)
    → Free p.opening_at p.opening_left c.queue
    → c.engine.group ≡ run.state.group
    → OpenAs (Turns made n o run (sends c p a)) (sends c p a).session
unfolding sends
sends-turns made n o run c p a f g e =
    let h = header_from c p a in
    record {
      streams = record {
        flow = flow-fill made n c.queue h p.standing.room p.standing.heard o f;
        free = free-left c.queue h p.standing.room p.standing.heard p.opening_at p.opening_left g;
      };
      group = e;
    }

-- or it ends, and what it says then holds no Results
abbrev pub OutcomeTurns : List (InSession Made) → ℕ → Option Going → Next → Outcome → Type 0
OutcomeTurns made n o run (goes_on c) = OpenAs (Turns made n o run c) c.session
OutcomeTurns made n o run (ends c e) = IfSome (said (client.ended e c.farewell)) (λ m. Each IsSilent m.body)

number-silent : (n : ℕ) (c : Command) → IsSilent c → IsSilent (with_numbers n c)
unfolding with_numbers
number-silent n (command.Results r) h = h
number-silent n (command.Plain p) h = tt
number-silent n (command.Alert a) h = tt
number-silent n (command.Atomic b) h = tt
number-silent n (command.Sequence b) h = tt
number-silent n (command.Status s) h = tt

numbers-silent : (n : ℕ) (cs : List Command) → Each IsSilent cs → Each IsSilent (numbered n cs)
numbers-silent n [] h = tt
numbers-silent n (c ∷ cs) h = (number-silent n c h.0, numbers-silent (n + ids_in c) cs h.1)

denied-turns : (all : List (InSession Made)) (n : ℕ) (o : Option Going) (run : Next) (c : Machine) (w : Waits)
    (m : Parts) (h : Heard) (nonce : List ℕ)
    → OutcomeTurns all n o run (denied c w m h nonce)
denied-turns all n o run c w m h nonce =
    numbers-silent 1 (header_answer m.header h.code nonce ++ alert 1223 None [] ∷ [])
    (each-append IsSilent (header_answer m.header h.code nonce) (alert 1223 None [] ∷ [])
    (header-silent m.header h.code nonce) (tt, tt))

answering-turns : (all : List (InSession Made)) (n : ℕ) (o : Option Going) (c : Machine) (w : Waits) (m : Parts)
    (h : Heard) (nonce : List ℕ) (run other : Next)
    → run ≡ other
    → AreMade all n run.made
    → Waiting all n o w
    → OpenAs (Turns all n o other (sends (answering c w m h nonce run) (behind_answer w m h nonce) h.account))
    (sends (answering c w m h nonce run) (behind_answer w m h nonce) h.account).session
answering-turns all n o c w m h nonce run other e f k =
    let own = header_answer m.header h.code nonce in
    let answer = map whole_entry own in
    let made = map whole_entry (told run.made) in
    let waits : commands_of (w.queue ++ made) ≡ commands_of w.queue ++ told run.made =
    commands-append w.queue made ∙ ap (λ l. commands_of w.queue ++ l) (fresh-commands (told run.made)) in
    let all_are : commands_of (answer ++ (w.queue ++ made)) ≡ own ++ (commands_of w.queue ++ told run.made) =
    commands-append answer (w.queue ++ made) ∙ ap (λ l. l ++ commands_of (w.queue ++ made)) (fresh-commands own)
    ∙ ap (λ l. own ++ l) waits in
    sends-turns all n o other (answering c w m h nonce run) (behind_answer w m h nonce) h.account
    (subst (Flow all n o) (sym all_are)
    (silent-front all n own (commands_of w.queue ++ told run.made) (header-silent m.header h.code nonce) o
    (flow-append all n (commands_of w.queue) (told run.made) (told-flow all n run.made f) o k.flow)))
    (free-front answer (w.queue ++ made) w.progress.opening_at (w.progress.opening_at + length answer)
    w.progress.opening_left refl
    (free-behind w.progress.opening_at w.progress.opening_left w.queue made k.bound k.free))
    (ap (λ (x : Next). x.state.group) e)

header-turns : (made : List (InSession Made)) (o : Option Going) (c : Machine) (p : Progress) (m : Parts)
    (nonce : List ℕ) (h : Heard)
    → is_last_own p ≡ false
    → Flow made p.number o (commands_of c.queue)
    → Free p.opening_at p.opening_left c.queue
    → p.opening_at + p.opening_left ≤ length c.queue
    → OutcomeTurns (made ++ each_in_session p.number (executed c p m h).made) p.number o (executed c p m h)
    (by_header (record c { resp_uri = option_or m.header.resp_uri c.resp_uri }) p m nonce h)
header-turns made o c p m nonce h last f g l =
    let n = p.number in
    let other = executed c p m h in
    let all = made ++ each_in_session n other.made in
    let d = machine_heard c p m h in
    let w = waits_after d p h in
    let run = run_of d h.account m h.code in
    let aborts = passes h.code && list_any is_abort m.body in
    let later = flow-later made (each_in_session n other.made) n o (commands_of c.queue) f in
    either_is (OutcomeTurns all n o other) h.second {x = denied d w m h nonce}
    {y = cond aborts (ends (closed d) Aborted) (answered d w m h nonce run)}
    (λ t. denied-turns all n o other d w m h nonce)
    (λ first. either_is (OutcomeTurns all n o other) aborts {x = ends (closed d) Aborted}
    {y = answered d w m h nonce run} (λ t. tt)
    (λ goes. either (OutcomeTurns all n o other) (is_over m h.code (w.queue ++ map whole_entry (told run.made)))
    {x = ends (finished (record d { engine = run.state })) Finished}
    {y = goes_on (sends (answering d w m h nonce run) (behind_answer w m h nonce) h.account)} tt
    (let same = run-made c p m h last first goes in
    answering-turns all n o d w m h nonce run other same
    (run-within made n run other.made (ap (λ (x : Next). x.made) same))
    (after-waiting all n o d p h later g l))))

-- a message that the client takes
pub message-turns : (made : List (InSession Made)) (o : Option Going) (c : Machine) (p : Progress) (m : Parts)
    (nonce : List ℕ)
    → Flow made p.number o (commands_of c.queue)
    → Free p.opening_at p.opening_left c.queue
    → p.opening_at + p.opening_left ≤ length c.queue
    → OutcomeTurns (made ++ made_in c p m nonce) p.number o (executed c p m (heard_by c p m nonce))
    (accepts c p m nonce)
unfolding accepts
message-turns made o c p m nonce f g l =
    let d : Machine = record c { resp_uri = option_or m.header.resp_uri c.resp_uri } in
    let h = heard_by c p m nonce in
    either_is (OutcomeTurns (made ++ made_in c p m nonce) p.number o (executed c p m h)) (is_last_own p)
    {x = ends (closed d) Aborted} {y = by_header d p m nonce h} (λ t. tt)
    (λ t. header-turns made o c p m nonce h t f g l)

-- ---- beginning

-- it sends what isn't Results, and no group is open
pub record Opens (made : List (InSession Made)) (n : ℕ) (c : Machine) (t : Session) : Type 0 where
  pub streams : Streams made n None c t
  pub group : c.engine.group ≡ None

open-opens : (made : List (InSession Made)) (n : ℕ) (run : Next) (c : Machine) (o : Option Session)
    → run.state.group ≡ None
    → OpenAs (Turns made n None run c) o
    → OpenAs (Opens made n c) o
open-opens made n run c None e h = h
open-opens made n run c (Some t) e h = record { streams = h.streams; group = h.group ∙ e }

pub begins-opens : (made : List (InSession Made)) (c : Machine) (account : ℕ) (kind : Initiator) (n : ℕ)
    → OpenAs (Opens made n (begins c account kind n)) (begins c account kind n).session
unfolding begins abandoned
begins-opens made c account kind n =
    let first = first_package (closed c) kind in
    let run : Next = record { state = (closed c).engine; made = [] } in
    open-opens made n run (begins c account kind n) (begins c account kind n).session refl
    (sends-turns made n None run (beginning c kind n) (first_progress account kind n first)
    (account_at (closed c) account) (first-flow made n (closed c) kind)
    (first-silent-from first (first-silent (closed c) kind))
    refl)
  where
    first-silent-from : (first : List Entry) → Each IsSilentEntry first → Free 0 (length first) first
    first-silent-from first h = silent-take (length first) first h
