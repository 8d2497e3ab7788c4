-- What the delivery of a message comes to.
use Rattle.std.proofs.Common.{◌≡◌, ◌+◌, ℕ, Bool, false, refl, ap, sym, ◌∙◌, add-one, Option, Some, None}
use Rattle.std.specs.Prelude.{if◌then◌else◌, option_map, IsSomeAnd}
use Rattle.std.specs.List.{list_any}
use Rattle.syncml_types.specs.Message.{Parts}
use Rattle.dm_machine.specs.Machine.{Session, Machine}
use Rattle.dm_machine.specs.Events.{Event, Answer, sent, kept}
use Rattle.dm_session.specs.declared.answers.Answer.{Answer as Told}
use Rattle.dm_session.specs.declared.answers.Answer.TheVariants as told
use Rattle.dm_session.specs.View.{Tells}
use Rattle.dm_machine.specs.History.{answer_now, next}
use Rattle.dm_bench.specs.declared.running.AtomicCounts.{AtomicCounts}
use Rattle.dm_bench.specs.Words.{state_after}
use Rattle.dm_bench.specs.Running.{WorkloadRun, workload_run, first_run, tells_atomic, tells_code, tallied, delivery}
use Rattle.dm_bench.specs.Running.{with_message}
use Rattle.dm_bench.specs.Running.{with_messages}

-- ---- what an answer tells

kept_tells : (s : Option Session) (code : ℕ) (a : Answer) → IsSomeAnd s (λ (x : Session). a ≡ kept x.sent)
    → false ≡ tells_code code a
kept_tells None code a h = absurd h
kept_tells (Some s) code a h = sym (ap (tells_code code) h)

-- an answer without a new message tells nothing
pub other_tells : (answer : Told) (c : Machine) (code : ℕ) (a : Answer) → (answer ≡ told.Sent → ⊥) → Tells answer c a
    → false ≡ tells_code code a
other_tells told.Sent c code a other h = absurd (other refl)
other_tells told.Kept c code a other h = kept_tells c.session code a h
other_tells (told.Stale last) c code a other h = sym (ap (tells_code code) h)
other_tells told.Stranger c code a other h = sym (ap (tells_code code) h)
other_tells told.NoSession c code a other h = sym (ap (tells_code code) h)
other_tells (told.Refused refusal) c code a other h = sym (ap (tells_code code) h)
other_tells (told.Ended end) c code a other h = sym (ap (tells_code code) h)

same_message : (m n : Parts) → Some m ≡ Some n → m ≡ n
same_message m n e = cc

pub some_tells : (s : Option Session) (code : ℕ) (a : Answer) (m : Parts)
    → Some m ≡ option_map (λ (x : Session). x.sent) s → IsSomeAnd s (λ (x : Session). a ≡ sent x.sent)
    → list_any (tells_atomic code) m.body ≡ tells_code code a
some_tells None code a m is h = absurd h
some_tells (Some s) code a m is h =
    ap (λ n. list_any (tells_atomic code) n.body) (same_message m s.sent is) ∙ sym (ap (tells_code code) h)

pub none_tells : (s : Option Session) (code : ℕ) (a : Answer) (told : Bool)
    → (let nobody : Option Parts = None in nobody) ≡ option_map (λ (x : Session). x.sent) s
    → IsSomeAnd s (λ (x : Session). a ≡ sent x.sent) → told ≡ tells_code code a
none_tells None code a told is h = absurd h
none_tells (Some s) code a told is h = cc

-- ---- the run

pub counted_is : (t : AtomicCounts) (a : Answer) (x y : ℕ) (p q : Bool) → x ≡ (if p then 1 else 0) → y ≡ (if q then 1 else 0)
    → p ≡ tells_code 200 a → q ≡ tells_code 507 a
    → (let counts : AtomicCounts = record { ok = t.ok + x; failed = t.failed + y } in counts) ≡ tallied t a
counted_is t a x y p q is_x is_y is_p is_q =
    let now : ℕ → ℕ → AtomicCounts = λ m n. record { ok = t.ok + m; failed = t.failed + n } in
    ap (λ m. now m y) (is_x ∙ ap (λ b. if b then 1 else 0) is_p)
    ∙ ap (λ n. now (if tells_code 200 a then 1 else 0) n) (is_y ∙ ap (λ b. if b then 1 else 0) is_q)

pub delivered_is : (nodes number : ℕ) (r : WorkloadRun) (e : Event) (m : Machine) (words : ℕ) (t : AtomicCounts)
    → e ≡ delivery nodes number r.words → m ≡ next r.machine e → words ≡ state_after 9 r.words
    → t ≡ tallied r.tally (answer_now r.machine e) → workload_run m words t ≡ with_message nodes number r
unfolding with_message
delivered_is nodes number r e m words t is_e is_m is_words is_t =
    ap (λ x. workload_run x words t) (is_m ∙ ap (next r.machine) is_e)
    ∙ ap (λ x. workload_run (next r.machine (delivery nodes number r.words)) x t) is_words
    ∙ ap (λ x. workload_run (next r.machine (delivery nodes number r.words)) (state_after 9 r.words) x)
    (is_t ∙ ap (λ x. tallied r.tally (answer_now r.machine x)) is_e)

pub none_delivered : (nodes : ℕ) (m : Machine) (words seed : ℕ) → words ≡ seed
    → first_run m words ≡ with_messages nodes (first_run m seed) 0
unfolding with_messages
none_delivered nodes m words seed is = ap (first_run m) is

messages_more : (nodes : ℕ) (r : WorkloadRun) (done : ℕ)
    → with_messages nodes r (done + 1) ≡ with_message nodes (done + 1) (with_messages nodes r done)
unfolding with_messages
messages_more nodes r done = rw add-one refl

pub one_more : (nodes : ℕ) (r now then' : WorkloadRun) (done : ℕ) → now ≡ with_messages nodes r done
    → then' ≡ with_message nodes (done + 1) now → then' ≡ with_messages nodes r (done + 1)
one_more nodes r now then' done before is =
    is ∙ ap (with_message nodes (done + 1)) before ∙ sym (messages_more nodes r done)

pub all_machine : (nodes : ℕ) (r : WorkloadRun) (done messages : ℕ) (m : Machine) (words : ℕ) (t : AtomicCounts) → done ≡ messages
    → workload_run m words t ≡ with_messages nodes r done → m ≡ (with_messages nodes r messages).machine
all_machine nodes r done messages m words t all is =
    ap (λ (x : WorkloadRun). x.machine) is ∙ ap (λ n. (with_messages nodes r n).machine) all

pub all_tally : (nodes : ℕ) (r : WorkloadRun) (done messages : ℕ) (m : Machine) (words : ℕ) (t : AtomicCounts) → done ≡ messages
    → workload_run m words t ≡ with_messages nodes r done → t ≡ (with_messages nodes r messages).tally
all_tally nodes r done messages m words t all is =
    ap (λ (x : WorkloadRun). x.tally) is ∙ ap (λ n. (with_messages nodes r n).tally) all
