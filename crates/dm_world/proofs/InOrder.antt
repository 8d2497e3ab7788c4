-- The client executes the job in order, each command once, whatever is lost, repeated and reordered.
use Rattle.std.proofs.Common.{◌≡◌, ◌<◌, ◌^◌, ℕ, Bool, true, false, List, [], ◌∷◌}
use Rattle.std.proofs.Common.{◌++◌, Option, None, Some, refl, sym, ◌∙◌, ap, subst, arith}
use Rattle.std.proofs.Common.{length, IfSome, append_assoc}
use Rattle.std.specs.Prelude.{Ok, slice_get}
use Rattle.std.specs.List.{AllByRecursion}
use Rattle.syncml_types.specs.declared.command.Plain.{Plain}
use Rattle.syncml_types.specs.declared.command.Step.{Step}
use Rattle.syncml_types.specs.declared.command.Member.{Member}
use Rattle.syncml_types.specs.declared.command.Member.TheVariants as member
use Rattle.syncml_types.specs.declared.command.SeqMember.{SeqMember}
use Rattle.syncml_types.specs.declared.command.SeqMember.TheVariants as seq_member
use Rattle.syncml_types.specs.declared.command.Command.{Command}
use Rattle.syncml_types.specs.declared.command.Command.TheVariants as command
use Rattle.syncml_types.specs.Message.{Parts}
use Rattle.dm_atomic.specs.Posts.{waiting_posts}
use Rattle.dm_job.specs.declared.job.Job.{Job}
use Rattle.dm_job.specs.declared.job.JobEntry.{JobEntry}
use Rattle.dm_job.specs.Sound.{IsStep, IsStepMember, IsStepSeqMember, IsJobCommand, CanBeSent, all_entries}
use Rattle.dm_machine.specs.Machine.{Machine}
use Rattle.dm_machine.specs.Events as client
use Rattle.dm_machine.specs.History as client_runs
use Rattle.dm_machine.specs.Ready.{IsReadyMachine, IsReadyMessage}
use Rattle.dm_machine.proofs.StaysReady.{stays_ready}
use Rattle.dm_machine.proofs.Accounts.{accounts_stay}
use Rattle.dm_world.specs.World.{InSession, World, Reply, Happening, opens, up_comes, down_comes, update_ends}
use Rattle.dm_world.specs.World.{clock_moves, is_lost, finds_no_memory, client_has}
use Rattle.dm_world.specs.World.{down_delivered, up_delivered, happens, run}
use Rattle.dm_world.specs.Start.{at_start, IsWorldStart, IsNonce, IsInRange, IsSchedule}
use Rattle.dm_world.specs.Acts.{Act, block, does, Joined, and_then, with_more, is_part_of, join, item_acts}
use Rattle.dm_world.specs.Acts.{members_acts}
use Rattle.dm_world.specs.Acts.{seq_members_acts, command_acts, deeds_acts, entries_acts, job_acts}
use Rattle.dm_world.specs.Deeds.{Deed}
use Rattle.dm_world.specs.Order.{IsNext, ExecutesInOrder, RunsInOrder}
use Rattle.dm_world.proofs.Lists.{either, Each, each-within, picked}
use Rattle.dm_world.proofs.Joins.{join-append}
use Rattle.dm_world.proofs.Ranges.{all-first, IsShortHeld}
use Rattle.dm_world.proofs.ReadAgain.{all-read}
use Rattle.dm_world.proofs.Happens.{Sound}
use Rattle.dm_world.proofs.Happens.{InRange, happens-sound, start-sound, schedule-range}
use Rattle.dm_world.proofs.Calm.{NoHeader, MildEntry}
use Rattle.dm_world.proofs.Refusals.{Quiet, OpenFine}
use Rattle.dm_world.proofs.Position.{Whole, IsBegun, Placed}
use Rattle.dm_tree.specs.Nodes.{IsStamp}
use Rattle.dm_atomic.specs.Tasks.{piece_of}
use Rattle.dm_world.proofs.ClientGoes.{UpSays, Known, Aware, GoesOn, begins-goes, message-goes, act-goes, clock-goes}
use Rattle.dm_world.proofs.ClientGoes.{loss-goes}
use Rattle.dm_world.proofs.ServerGoes.{serve-on}

-- ---- the world

pub record Fair (job : List Act) (many : ℕ) (w : World) : Type 0 where
  pub sound : Sound w
  pub placed : Placed job (deeds_acts w.executed) w.client.session w.server w.downs w.ups
  pub quiet : Quiet w.client
  pub ready : IsReadyMachine w.client
  pub accounts : length w.client.accounts ≡ many
  pub says_fine : Each UpSays w.ups
  pub known : Known w.server.session w.ups
  pub aware : Aware w.client.session w.server.session w.ups

has-fair : (job : List Act) (many : ℕ) (w : World) (e : client.Event) → Sound (client_has w e)
    → IsReadyMachine (client_runs.next w.client e)
    → length w.client.accounts ≡ many
    → GoesOn job (deeds_acts w.executed) w.server w.downs w.ups (client_runs.next w.client e)
    (client_runs.answer_now w.client e)
    → Fair job many (client_has w e)
has-fair job many w e s r a g = record {
  sound = s;
  placed = g.placed;
  quiet = g.quiet;
  ready = r;
  accounts = accounts_stay w.client e ∙ a;
  says_fine = g.says_fine;
  known = g.known;
  aware = g.aware;
}

up-fair : (job : List Act) (many : ℕ) (w : World) (u : Option Parts) (k : ℕ) (nonce : List ℕ) → slice_get w.ups k ≡ u
    → Sound (up_delivered w u nonce)
    → Fair job many w
    → Fair job many (up_delivered w u nonce)
up-fair job many w None k nonce e s h = h
up-fair job many w (Some u) k nonce e s h =
    let x =
    serve-on job (deeds_acts w.executed) w.client.begun w.client.session w.server w.downs w.ups u nonce
    w.client.queue
    h.sound (picked w.ups k u e) h.placed h.quiet.session h.says_fine h.known h.aware in
    record {
      sound = s;
      placed = x.placed;
      quiet = h.quiet;
      ready = h.ready;
      accounts = h.accounts;
      says_fine = h.says_fine;
      known = x.known;
      aware = x.aware;
    }

-- each message that the server has sent can be held
abbrev SendsHeld : World → Type 0
SendsHeld w = Each (λ (d : Reply). IsShortHeld d.message) w.downs

down-fair : (job : List Act) (many : ℕ) (w : World) (d : Option Reply) (k : ℕ) (nonce : List ℕ)
    → slice_get w.downs k ≡ d
    → IsNonce nonce
    → SendsHeld w
    → Sound (down_delivered w d nonce)
    → Fair job many w
    → Fair job many (down_delivered w d nonce)
down-fair job many w None k nonce e i held s h = h
down-fair job many w (Some d) k nonce e i held s h =
    let m = (each-within (λ (d : Reply). IsShortHeld d.message) w.downs d held (picked w.downs k d e)).held in
    let message : IsReadyMessage d.message nonce =
    record { fit = m.fit; numbers = m.numbers; nonce_long = i.long; nonce_bytes = i.bytes } in
    let event = client.message (Ok d.message) nonce in
    let g =
    message-goes job w.executed w.client w.server w.downs w.ups k d nonce e h.sound h.placed h.quiet h.ready message
    h.says_fine h.known h.aware in
    record {
      sound = s;
      placed = g.placed;
      quiet = g.quiet;
      ready = stays_ready w.client event h.ready message;
      accounts = accounts_stay w.client event ∙ h.accounts;
      says_fine = g.says_fine;
      known = g.known;
      aware = g.aware;
    }

-- what an event's values are, by the accounts that the client had at first
abbrev InRangeOf : ℕ → Happening → Type 0
InRangeOf many (opens account kind number) = (account < many) × (number < 2 ^ 32)
InRangeOf many (up_comes k nonce) = Unit {0}
InRangeOf many (down_comes k nonce) = IsNonce nonce
InRangeOf many (update_ends ok) = Unit {0}
InRangeOf many (clock_moves stamp) = IsStamp stamp
InRangeOf many is_lost = Unit {0}
InRangeOf many finds_no_memory = Unit {0}

fair-then : (job : List Act) (many : ℕ) (w : World) (e : Happening) → InRangeOf many e → SendsHeld w
    → Sound (happens w e)
    → Fair job many w
    → Fair job many (happens w e)
unfolding happens
fair-then job many w (opens account kind n) r held s h =
    has-fair job many w (client.opened account kind n) s
    (stays_ready w.client (client.opened account kind n) h.ready
    (let few = r.0 in let same = h.accounts in (omega (arith, few, same), r.1))) h.accounts
    (begins-goes job (deeds_acts w.executed) w.client w.server w.downs w.ups account kind n r.1 h.sound.server_ok
    h.placed
    h.quiet h.says_fine h.known h.aware)
fair-then job many w (up_comes k nonce) r held s h = up-fair job many w (slice_get w.ups k) k nonce refl s h
fair-then job many w (down_comes k nonce) r held s h =
    down-fair job many w (slice_get w.downs k) k nonce refl r held s h
fair-then job many w (update_ends ok) r held s h =
    has-fair job many w (client.act ok) s (stays_ready w.client (client.act ok) h.ready tt) h.accounts
    (act-goes job (deeds_acts w.executed) w.client w.server w.downs w.ups ok h.placed h.quiet h.says_fine h.known
    h.aware)
fair-then job many w (clock_moves stamp) r held s h =
    has-fair job many w (client.clock stamp) s (stays_ready w.client (client.clock stamp) h.ready r) h.accounts
    (clock-goes job (deeds_acts w.executed) w.client w.server w.downs w.ups stamp h.placed h.quiet h.says_fine h.known
    h.aware)
fair-then job many w is_lost r held s h =
    has-fair job many w client.loss s (stays_ready w.client client.loss h.ready tt) h.accounts
    (loss-goes job (deeds_acts w.executed) w.client w.server w.downs w.ups h.placed h.quiet h.says_fine h.known h.aware)
fair-then job many w finds_no_memory r held s h = h

run-fair : (job : List Act) (many : ℕ) (w : World) (es : List Happening) → Each (InRangeOf many) es → Each InRange es
    → ((before after : List Happening) → before ++ after ≡ es → SendsHeld (run w before))
    → Fair job many w
    → Fair job many (run w es)
run-fair job many w [] r i held h = h
run-fair job many w (e ∷ es) r i held h =
    run-fair job many (happens w e) es r.1 i.1 (λ xs ys q. held (e ∷ xs) ys (ap (λ z. e ∷ z) q))
    (fair-then job many w e r.0 (held [] (e ∷ es) refl) (happens-sound w e i.0 h.sound) h)

-- ---- the beginning: a job asks for whole steps

abbrev pub AreWhole : List Act → Type 0
AreWhole [] = Unit {0}
AreWhole (block name ∷ xs) = AreWhole xs
AreWhole (does s true ∷ xs) = ⊥
AreWhole (does s false ∷ xs) = AreWhole xs

pub whole-append : (a b : List Act) → AreWhole a → AreWhole b → AreWhole (a ++ b)
whole-append [] b h k = k
whole-append (block name ∷ a) b h k = whole-append a b h k
whole-append (does s true ∷ a) b h k = absurd h
whole-append (does s false ∷ a) b h k = whole-append a b h k

whole-joined : (xs : List Act) → AreWhole xs → Whole xs xs
whole-joined [] h = refl
whole-joined (block name ∷ xs) h = ap (and_then (block name)) (whole-joined xs h)
whole-joined (does s true ∷ xs) h = absurd h
whole-joined (does s false ∷ xs) h = ap (and_then (does s false)) (whole-joined xs h)

step-whole : (a : Bool) (p : Plain) → IsStep p → AreWhole (item_acts a p p.items)
step-whole a p h =
    subst (λ is. AreWhole (item_acts a p is)) (sym h.only)
    (one h.item.more h.whole)
  where
    one : (b : Bool) → b ≡ false
        → AreWhole (does ((piece_of a p h.item).step) b ∷ [])
    one false e = tt
    one true e = absurd (cc)

members-whole : (a : Bool) (ms : List Member) → AllByRecursion IsStepMember ms → AreWhole (members_acts a ms)
members-whole a [] h = tt
members-whole a (member.One p ∷ ms) h =
    whole-append (item_acts a p p.items) (members_acts a ms) (step-whole a p h.0) (members-whole a ms h.1)
members-whole a (member.Alert c ∷ ms) h = absurd h.0

seq-whole : (ms : List SeqMember) → AllByRecursion IsStepSeqMember ms → AreWhole (seq_members_acts ms)
seq-whole [] h = tt
seq-whole (seq_member.Single (member.One p) ∷ ms) h =
    whole-append (item_acts false p p.items) (seq_members_acts ms) (step-whole false p h.0) (seq-whole ms h.1)
seq-whole (seq_member.Single (member.Alert c) ∷ ms) h = absurd h.0
seq-whole (seq_member.Atomic b ∷ ms) h = absurd h.0

pub command-whole : (c : Command) → IsJobCommand c → AreWhole (command_acts c)
command-whole (command.Plain p) h = step-whole false p h
command-whole (command.Alert a) h = absurd h
command-whole (command.Atomic b) h = members-whole true b.members h.1
command-whole (command.Sequence b) h = seq-whole b.members h.1
command-whole (command.Status c) h = absurd h
command-whole (command.Results c) h = absurd h

entries-whole : (es : List JobEntry) → AllByRecursion CanBeSent es → AreWhole (entries_acts es)
entries-whole [] h = tt
entries-whole (e ∷ es) h =
    whole-append (command_acts e.command) (entries_acts es) (command-whole e.command h.0.steps) (entries-whole es h.1)

-- ---- what comes behind a part is the rest of it

pub whole-behind : (a b : List Act) → AreWhole (a ++ b) → AreWhole b
whole-behind [] b h = h
whole-behind (block name ∷ a) b h = whole-behind a b h
whole-behind (does s true ∷ a) b h = absurd h
whole-behind (does s false ∷ a) b h = whole-behind a b h

-- more of a part goes on as what the part goes on as
part-more : (p s : Step) (xs : List Act) → IsNext xs (with_more p s) → IsNext xs p
part-more p s [] h = h
part-more p s (block name ∷ xs) h = h
part-more p s (does t more ∷ xs) h =
    (s.value ++ h.0, h.1 ∙ ap (λ v. record p { value = v }) (append_assoc p.value s.value h.0))

-- where nothing is left open in the end, and all is whole
abbrev ClosesWith : Step → Joined → Type 0
ClosesWith p j = j.part ≡ None → AreWhole j.whole → IsNext j.whole p

part-next : (p : Step) (xs : List Act) → ClosesWith p (join (Some p) xs)
part-next p [] e w = absurd (cc)
part-next p (block name ∷ xs) e w = part-next p xs e w
part-next p (does s true ∷ xs) e w =
    either (ClosesWith p) (is_part_of p s) {x = join (Some (with_more p s)) xs}
    {y = and_then (does p true) (join (Some s) xs)}
    (λ f v. part-more p s (join (Some (with_more p s)) xs).whole (part-next (with_more p s) xs f v))
    (λ f v. absurd v) e w
part-next p (does s false ∷ xs) e w =
    either (ClosesWith p) (is_part_of p s) {x = and_then (does (with_more p s) false) (join None xs)}
    {y = and_then (does p true) (and_then (does s false) (join None xs))} (λ f v. (s.value, refl)) (λ f v. absurd v) e
    w

begun-order : (packages : List (List JobEntry)) (executed : List (InSession Deed)) → AreWhole (job_acts packages)
    → IsBegun (job_acts packages) (deeds_acts executed)
    → ExecutesInOrder packages executed
begun-order packages executed whole h =
    let done = deeds_acts executed in
    let j = join None done in
    let rest = join j.part h.0 in
    let order : j.whole ++ rest.whole ≡ job_acts packages =
    ap (λ (x : Joined). x.whole) (sym (join-append None done h.0)) ∙ ap (λ (x : Joined). x.whole) h.1 in
    let closed : rest.part ≡ None =
    ap (λ (x : Joined). x.part) (sym (join-append None done h.0)) ∙ ap (λ (x : Joined). x.part) h.1 in
    record {
      rest = rest.whole;
      in_order = order;
      next = by j.part closed (whole-behind j.whole rest.whole (subst AreWhole (sym order) whole));
    }
  where
    by : (o : Option Step) → (join o h.0).part ≡ None → AreWhole (join o h.0).whole
        → IfSome o (IsNext (join o h.0).whole)
    by None e w = tt
    by (Some p) e w = part-next p h.0 e w

pub job-whole : (c : Machine) (job : Job) → IsWorldStart c job → AreWhole (job_acts job.packages)
job-whole c job h = entries-whole (all_entries job.packages) h.sound.entries

start-fair : (c : Machine) (job : Job) → IsWorldStart c job
    → Fair (job_acts job.packages) (length c.accounts) (at_start c job)
start-fair c job h = record {
  sound = start-sound c job h;
  placed = record {
    prefix = (job_acts job.packages, whole-joined (job_acts job.packages) (job-whole c job h));
    runs = refl;
    queue_ok = tt;
    job_is = refl;
    whole = whole-joined (job_acts job.packages) (job-whole c job h);
  };
  quiet = record {
    queue = subst (Each MildEntry) (sym h.empty) tt;
    waits = subst (λ g. NoHeader (waiting_posts g)) (sym h.no_group) refl;
    session = subst (OpenFine c.queue) (sym h.unused.1) tt;
  };
  ready = h.ready;
  accounts = refl;
  says_fine = tt;
  known = tt;
  aware = subst (λ o. Aware o None []) (sym h.unused.1) tt;
}

range-of : (c : Machine) (e : Happening) → IsInRange c e → InRangeOf (length c.accounts) e
range-of c (opens account kind n) h = h
range-of c (up_comes k nonce) h = tt
range-of c (down_comes k nonce) h = h
range-of c (update_ends ok) h = tt
range-of c (clock_moves stamp) h = h
range-of c is_lost h = tt
range-of c finds_no_memory h = tt

ranges-of : (c : Machine) (es : List Happening) → IsSchedule c es → Each (InRangeOf (length c.accounts)) es
ranges-of c [] h = tt
ranges-of c (e ∷ es) h = (range-of c e h.0, ranges-of c es h.1)

pub all-fair : (c : Machine) (job : Job) (hs : List Happening) → IsWorldStart c job → IsSchedule c hs
    → Fair (job_acts job.packages) (length c.accounts) (run (at_start c job) hs)
all-fair c job hs start range =
    run-fair (job_acts job.packages) (length c.accounts) (at_start c job) hs (ranges-of c hs range)
    (schedule-range c hs range) held (start-fair c job start)
  where
    held : (before after : List Happening) → before ++ after ≡ hs → SendsHeld (run (at_start c job) before)
    held before after e =
        (all-read c job before start (all-first (IsInRange c) before after (subst (IsSchedule c) (sym e) range))).downs

pub runs_in_order : RunsInOrder
runs_in_order c job hs start range =
    begun-order job.packages (run (at_start c job) hs).executed (job-whole c job start)
    (all-fair c job hs start range).placed.prefix
