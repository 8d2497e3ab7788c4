-- The answers by the history are those of a machine that keeps one message, and accepted message numbers rise.
use Rattle.std.proofs.Common.{None, Some, ◌≡◌, ◌<◌, ◌==◌, ◌&&◌, ◌||◌, ◌⊎◌, ℕ, Bool, true, false, cond, not, inl, inr}
use Rattle.std.proofs.Common.{List, []}
use Rattle.std.proofs.Common.{◌∷◌, ◌++◌, refl, sym, ap, subst, ◌∙◌, arith, nat_lt}
use Rattle.std.specs.Prelude.{Option, Result, Ok, Err}
use Rattle.syncml_types.specs.Message.{Parts}
use Rattle.wbxml_tokens.specs.declared.reason.Refusal.{Refusal}
use Rattle.dm_ends.specs.Commands.{is_same_number}
use Rattle.dm_service.specs.Service.{Session, Service}
use Rattle.dm_service.specs.Events.{Arrival, number_of, last_of, takes_in, takes_number, takes_read, takes, after}
use Rattle.dm_service.specs.Events.{taken_answer, reply_of, sent_or_ended, kept_or_ended, old_in, stale, ended}
use Rattle.dm_service.specs.Events.{old_message}
use Rattle.dm_service.specs.Events.{number_refusal, read_refusal, refusal}
use Rattle.dm_service.specs.History.{fresh, reached, message_sent, reads_as, first_reply, reply_in, first_to}
use Rattle.dm_service.specs.History.{answer_after, answers_after, answer_now, next, answers_from, state_from}
use Rattle.dm_service.specs.Laws.{IsUnused, StateIsEnough, Position, position_of}
use Rattle.dm_service.specs.Laws.{IsBefore, Rise, AcceptedNumbersRise}
use Rattle.dm_service.proofs.Steps.{IsAt, IsAbove, Step, step}

-- ---- the state

state-step : (s : Service) (e : Arrival) (es : List Arrival) (b : Bool)
    → reached (after s e) (fresh (after s e) es) ≡ state_from (after s e) es → reached s (fresh s es) ≡ state_from s es
    → reached s (cond b (e ∷ fresh (after s e) es) (fresh s es)) ≡ state_from (cond b (after s e) s) es
state-step s e es true taken left = taken
state-step s e es false taken left = left

-- the state that the taken messages lead to is the state after all
pub state_by_state : (s : Service) (es : List Arrival) → reached s (fresh s es) ≡ state_from s es
unfolding next
state_by_state s [] = refl
state_by_state s (e ∷ es) = state-step s e es (takes s e) (state_by_state (after s e) es) (state_by_state s es)

-- each message is taken in its turn
abbrev pub AllTaken : Service → List Arrival → Type 0
AllTaken s [] = Unit {0}
AllTaken s (e ∷ es) = (takes s e ≡ true) × AllTaken (after s e) es

fresh-step : (s : Service) (e : Arrival) (es : List Arrival) (b : Bool) → takes s e ≡ b
    → AllTaken (after s e) (fresh (after s e) es)
    → AllTaken s (fresh s es) → AllTaken s (cond b (e ∷ fresh (after s e) es) (fresh s es))
fresh-step s e es true is taken left = (is, taken)
fresh-step s e es false is taken left = left

pub fresh_taken : (s : Service) (es : List Arrival) → AllTaken s (fresh s es)
fresh_taken s [] = tt
fresh_taken s (e ∷ es) = fresh-step s e es (takes s e) refl (fresh_taken (after s e) es) (fresh_taken s es)

-- ---- what the message accepted last was answered with

-- the first reply to the message accepted last is the state's, where one of these messages was it
abbrev Known : Service → List Arrival → Session → Type 0
Known s es x =
    ((first_reply s es x.progress.number (last_of x) ≡ reply_of (reached s es))
    × IsAbove s.session x.progress.number (last_of x))
    ⊎ ((s.session ≡ Some x) × (reached s es ≡ s))

above-more : (o : Option Session) (n msg : ℕ) (p : Option Session) (k last : ℕ) → IsAbove o n msg → IsAt n msg p
    → IsAbove p k last → IsAbove o k last
above-more None n msg p k last a h b = tt
above-more (Some s) n msg None k last a h b = absurd h
above-more (Some s) n msg (Some x) k last (inl a) h (inl b) = let e = h.0 in inl (omega (arith, a, b, e))
above-more (Some s) n msg (Some x) k last (inl a) h (inr b) = let e = h.0 in let f = b.0 in inl (omega (arith, a, e, f))
above-more (Some s) n msg (Some x) k last (inr a) h (inl b) = let e = h.0 in let f = a.0 in inl (omega (arith, b, e, f))
above-more (Some s) n msg (Some x) k last (inr a) h (inr b) =
    let e = h.0 in
    let f = h.1 in
    let g = a.1 in
    let i = b.1 in
    inr (a.0 ∙ sym h.0 ∙ b.0, omega (arith, f, g, i))

other-message : (m : Parts) (n : ℕ) (p : Option Session) (k last : ℕ) → number_of m ≡ Some n → IsAt n m.header.msg p
    → IsAbove p k last → (is_same_number (number_of m) k && m.header.msg == last) ≡ false
other-message m n None k last e h b = absurd h
other-message m n (Some x) k last e h (inl b) =
    rw e (let f = h.0 in let g : n < k = omega (arith, b, f) in by (n == k) (m.header.msg == last) refl g)
  where
    by : (c d : Bool) → (n == k) ≡ c → n < k → (c && d) ≡ false
    by true d i l = let j : n ≡ k = grind (arith, i) in absurd (omega (arith, j, l))
    by false d i l = refl
other-message m n (Some x) k last e h (inr b) =
    rw e (let f = h.1 in let g = b.1 in let l : m.header.msg < last = omega (arith, f, g) in
    by (n == k) (m.header.msg == last) refl l)
  where
    by : (c d : Bool) → (m.header.msg == last) ≡ d → m.header.msg < last → (c && d) ≡ false
    by c true i l = let j : m.header.msg ≡ last = grind (arith, i) in absurd (omega (arith, j, l))
    by true false i l = refl
    by false false i l = refl

same-message : (m : Parts) (n : ℕ) (x : Session) → number_of m ≡ Some n → IsAt n m.header.msg (Some x)
    → (is_same_number (number_of m) x.progress.number && m.header.msg == last_of x) ≡ true
same-message m n x e h = rw (e, h.0, h.1) (let a : (n == n) ≡ true = grind arith in
    let b : (m.header.msg == m.header.msg) ≡ true = grind arith in rw (a, b) refl)

sent-back : (r : Option Parts) → message_sent (sent_or_ended r) ≡ r
sent-back None = refl
sent-back (Some m) = refl

answer-back : (s : Service) (e : Arrival) → message_sent (taken_answer s e) ≡ reply_of (after s e)
unfolding taken_answer
answer-back s e = sent-back (reply_of (after s e))

reads-read : (e : Arrival) (m : Parts) (k last : ℕ) (b : Bool) → e.read ≡ Ok m
    → (is_same_number (number_of m) k && m.header.msg == last) ≡ b → reads_as e.read k last ≡ b
reads-read e m k last b f g = rw f g

step-known : (s : Service) (e : Arrival) (es : List Arrival) (x : Session)
    → Step s.session e.read (after s e).session → Known (after s e) es x → Known s (e ∷ es) x
step-known s e es x h (inl k) =
    let not_it = other-message h.message h.number (after s e).session x.progress.number (last_of x) h.named h.at k.1 in
    let not_read = reads-read e h.message x.progress.number (last_of x) false h.is_read not_it in
    inl (
      ap (λ b. cond b (message_sent (taken_answer s e)) (first_reply (after s e) es x.progress.number (last_of x)))
          not_read ∙ k.0,
      above-more s.session h.number h.message.header.msg (after s e).session x.progress.number (last_of x) h.above h.at
          k.1,
    )
step-known s e es x h (inr k) =
    let at : IsAt h.number h.message.header.msg (Some x) = subst (λ o. IsAt h.number h.message.header.msg o) k.0 h.at in
    let read = reads-read e h.message x.progress.number (last_of x) true h.is_read
    (same-message h.message h.number x h.named at) in
    inl (
      ap (λ b. cond b (message_sent (taken_answer s e)) (first_reply (after s e) es x.progress.number (last_of x))) read
          ∙ answer-back s e ∙ ap reply_of (sym k.1),
      subst (λ n. IsAbove s.session n (last_of x)) (sym at.0)
          (subst (λ i. IsAbove s.session h.number i) (sym at.1) h.above),
    )

known : (s : Service) (es : List Arrival) (x : Session) → AllTaken s es → (reached s es).session ≡ Some x → Known s es x
known s [] x a e = inr (e, refl)
known s (f ∷ es) x a e = step-known s f es x (step s f a.0) (known (after s f) es x a.1 e)

first-known : (s : Service) (es : List Arrival) (x : Session) → IsUnused s → Known s es x
    → first_reply s es x.progress.number (last_of x) ≡ reply_of (reached s es)
first-known s es x u (inl k) = k.0
first-known s es x u (inr k) = let e = sym u ∙ k.0 in absurd (cc)

-- ---- answers

-- where a message isn't taken, a reply counts for the one accepted last alone
old-same : (x : Session) (k : ℕ) (m : Parts) (f g : Option Parts)
    → (k ≡ x.progress.number → m.header.msg ≡ last_of x → f ≡ g)
    → takes_in (Some x) k m ≡ false → old_message x k m f ≡ old_message x k m g
old-same x k m f g same h =
    by (nat_lt k x.progress.number) (nat_lt m.header.msg (last_of x)) (m.header.msg == last_of x)
    (nat_lt x.progress.number k) refl refl refl h
  where
    by : (a b c d : Bool) → nat_lt k x.progress.number ≡ a → (m.header.msg == last_of x) ≡ c
        → nat_lt x.progress.number k ≡ d
        → (d || (x.progress.number == k && nat_lt (last_of x) m.header.msg && not x.progress.is_over)) ≡ false
        → cond a stale (cond b stale (cond c (kept_or_ended f) ended))
        ≡ cond a stale (cond b stale (cond c (kept_or_ended g) ended))
    by true b c d p q r t = refl
    by false true c d p q r t = refl
    by false false false d p q r t = refl
    by false false true true p q r t = absurd (cc)
    by false false true false p q r t =
        let e : k ≡ x.progress.number = grind (arith, p, r) in
        let i : m.header.msg ≡ last_of x = grind (arith, q) in
        ap kept_or_ended (same e i)

refusal-same : (s : Service) (acted : List Arrival) (e : Arrival) → IsUnused s → AllTaken s acted
    → takes (reached s acted) e ≡ false
    → refusal (reached s acted) e (first_to s acted e.read) ≡ refusal (reached s acted) e (reply_of (reached s acted))
unfolding takes refusal
refusal-same s acted e u a h = by e.read h
  where
    now : Service
    now = reached s acted

    in_it : (o : Option Session) (m : Parts) (k : ℕ) → now.session ≡ o → takes_in o k m ≡ false
        → old_in o k m (first_reply s acted k m.header.msg) ≡ old_in o k m (reply_of now)
    in_it None m k f h = refl
    in_it (Some x) m k f h =
        old-same x k m (first_reply s acted k m.header.msg) (reply_of now)
        (λ p q. ap (λ n. first_reply s acted n m.header.msg) p ∙ ap (λ i. first_reply s acted x.progress.number i) q
        ∙ first-known s acted x u (known s acted x a f)) h

    named : (m : Parts) (k : Option ℕ) → takes_number now.session k m ≡ false
        → number_refusal now k m (reply_in s acted k m.header.msg) ≡ number_refusal now k m (reply_of now)
    named m None h = refl
    named m (Some k) h = in_it now.session m k refl h

    by : (read : Result Parts Refusal) → takes_read now read ≡ false
        → read_refusal now read (first_to s acted read) ≡ read_refusal now read (reply_of now)
    by (Ok m) h = named m (number_of m) h
    by (Err place) h = refl

answer-step : (s : Service) (acted : List Arrival) (e : Arrival) (b : Bool) → IsUnused s → AllTaken s acted
    → takes (reached s acted) e ≡ b
    → cond b (taken_answer (reached s acted) e) (refusal (reached s acted) e (first_to s acted e.read))
    ≡ cond b (taken_answer (reached s acted) e) (refusal (reached s acted) e (reply_of (reached s acted)))
answer-step s acted e true u a h = refl
answer-step s acted e false u a h = refusal-same s acted e u a h

answer-same : (s : Service) (before : List Arrival) (e : Arrival) → IsUnused s
    → answer_after s before e ≡ answer_now (state_from s before) e
unfolding answer_now
answer-same s before e u =
    answer-step s (fresh s before) e (takes (reached s (fresh s before)) e) u (fresh_taken s before) refl
    ∙ ap (λ t. answer_now t e) (state_by_state s before)

state-more : (s : Service) (before : List Arrival) (e : Arrival)
    → state_from s (before ++ e ∷ []) ≡ next (state_from s before) e
state-more s [] e = refl
state-more s (f ∷ before) e = state-more (next s f) before e

answers-same : (s : Service) (before es : List Arrival) → IsUnused s
    → answers_after s before es ≡ answers_from (state_from s before) es
answers-same s before [] u = refl
answers-same s before (e ∷ es) u =
    ap (λ a. a ∷ answers_after s (before ++ e ∷ []) es) (answer-same s before e u)
    ∙ ap (λ l. answer_now (state_from s before) e ∷ l)
    (answers-same s (before ++ e ∷ []) es u ∙ ap (λ t. answers_from t es) (state-more s before e))

-- the answers by the history are those by the state
pub state_is_enough : StateIsEnough
state_is_enough s es u = (answers-same s [] es u, state_by_state s es)

-- ---- numbers rise

-- the last message that was taken stood at this position
abbrev StandsAt : Position → Option Session → Type 0
StandsAt p None = p.session ≡ 0
StandsAt p (Some y) = (p.session ≡ y.progress.number) × (p.msg ≡ last_of y)

step-before : (p : Position) (o : Option Session) (n msg : ℕ) → StandsAt p o → 0 < n → IsAbove o n msg
    → IsBefore p (record { session = n; msg = msg })
step-before p None n msg h some a = inl (omega (arith, h, some))
step-before p (Some y) n msg h some (inl a) = let e = h.0 in inl (omega (arith, a, e))
step-before p (Some y) n msg h some (inr a) = let e = h.1 in let l = a.1 in inr (h.0 ∙ a.0, omega (arith, e, l))

step-at : (n msg : ℕ) (o : Option Session) → IsAt n msg o → StandsAt (record { session = n; msg = msg }) o
step-at n msg None h = absurd h
step-at n msg (Some x) h = (sym h.0, sym h.1)

position-is : (e : Arrival) (m : Parts) (n : ℕ) → e.read ≡ Ok m → number_of m ≡ Some n
    → position_of e ≡ record { session = n; msg = m.header.msg }
position-is e m n f g = rw (f, g) refl

rises : (s : Service) (es : List Arrival) (p : Position) → StandsAt p s.session → AllTaken s es → Rise p es
rises s [] p h a = tt
rises s (e ∷ es) p h a =
    let k = step s e a.0 in
    let q : Position = record { session = k.number; msg = k.message.header.msg } in
    let is : position_of e ≡ q = position-is e k.message k.number k.is_read k.named in
    subst (λ r. IsBefore p r × Rise r es) (sym is) (
      step-before p s.session k.number k.message.header.msg h k.some k.above,
      rises (after s e) es q (step-at k.number k.message.header.msg (after s e).session k.at) a.1,
    )

unused-at : (o : Option Session) → o ≡ None → StandsAt (record { session = 0; msg = 0 }) o
unused-at None e = refl
unused-at (Some y) e = absurd (cc)

pub accepted_numbers_rise : AcceptedNumbersRise
accepted_numbers_rise s es u =
    rises s (fresh s es) (record { session = 0; msg = 0 }) (unused-at s.session u) (fresh_taken s es)
