-- The answers by the history are those of a machine that keeps one message.
use Rattle.std.proofs.Common.{None, Some, ◌≡◌, ◌<◌, ◌≤◌, ◌==◌, ◌&&◌, ◌⊎◌, ℕ, Bool, true, false, cond, inl, inr, List}
use Rattle.std.proofs.Common.{[], ◌∷◌, ◌++◌, refl, sym, ap, subst, ◌∙◌, arith, nat_lt}
use Rattle.std.specs.Prelude.{Option, Ok, Err}
use Rattle.syncml_types.specs.Message.{Parts}
use Rattle.dm_machine.specs.Machine.{Session, Machine}
use Rattle.dm_machine.specs.Events.{Event, clock, opened, message, loss, act, session_of, is_same_number, last_of}
use Rattle.dm_machine.specs.Events.{takes}
use Rattle.dm_machine.specs.Events.{after, taken_answer}
use Rattle.dm_machine.specs.History.{fresh, reached, message_sent, is_message, first_reply, reply_in, first_to}
use Rattle.dm_machine.specs.History.{answer_after, answers_after, kept_in, answer_now, next, answers_from, state_from}
use Rattle.dm_machine.specs.Laws.{IsUnused, StateIsEnough}
use Rattle.dm_machine.proofs.Steps.{Left, Starts, Steps, steps, IsLastOf, AskedFor, refusal_same}

-- ---- the state

state-step : (s : Machine) (e : Event) (es : List Event) (b : Bool)
    → reached (after s e) (fresh (after s e) es) ≡ state_from (after s e) es → reached s (fresh s es) ≡ state_from s es
    → reached s (cond b (e ∷ fresh (after s e) es) (fresh s es)) ≡ state_from (cond b (after s e) s) es
state-step s e es true acted left = acted
state-step s e es false acted left = left

-- the state that the acting events lead to is the state after all
pub state_by_state : (s : Machine) (es : List Event) → reached s (fresh s es) ≡ state_from s es
unfolding next
state_by_state s [] = refl
state_by_state s (e ∷ es) = state-step s e es (takes s e) (state_by_state (after s e) es) (state_by_state s es)

-- each event acts in its turn
abbrev pub AllAct : Machine → List Event → Type 0
AllAct s [] = Unit {0}
AllAct s (e ∷ es) = (takes s e ≡ true) × AllAct (after s e) es

fresh-step : (s : Machine) (e : Event) (es : List Event) (b : Bool) → takes s e ≡ b
    → AllAct (after s e) (fresh (after s e) es)
    → AllAct s (fresh s es) → AllAct s (cond b (e ∷ fresh (after s e) es) (fresh s es))
fresh-step s e es true is acted left = (is, acted)
fresh-step s e es false is acted left = left

pub fresh_act : (s : Machine) (es : List Event) → AllAct s (fresh s es)
fresh_act s [] = tt
fresh_act s (e ∷ es) = fresh-step s e es (takes s e) refl (fresh_act (after s e) es) (fresh_act s es)

-- ---- an open session has the number begun last

abbrev pub Well : ℕ → Option Session → Type 0
Well b None = Unit {0}
Well b (Some y) = y.progress.number ≡ b

left-well : (b number msg : ℕ) (a : Option Parts) (p : Option Session) → number ≡ b → Left number msg a p → Well b p
left-well b number msg a None w h = tt
left-well b number msg a (Some x) w h = h.0 ∙ w

starts-well : (c number : ℕ) (p : Option Session) → c ≡ number → Starts number p → Well c p
starts-well c number None e h = tt
starts-well c number (Some x) e h = h.0 ∙ sym e

same-well : (b c : ℕ) (o p : Option Session) → c ≡ b → p ≡ o → Well b o → Well c p
same-well b c o p e f w = subst (λ q. Well c q) (sym f) (subst (λ n. Well n o) (sym e) w)

step-well : (b : ℕ) (o : Option Session) (e : Event) (a : Option Parts) (c : ℕ) (p : Option Session) → Well b o
    → Steps b o e a c p → Well c p
step-well b o (clock stamp) a c p w h = same-well b c o p h.0 h.1 w
step-well b o (opened account kind number) a c p w h = starts-well c number p h.1.0 h.1.1
step-well b None (message (Ok m) nonce) a c p w h = absurd h.1
step-well b (Some y) (message (Ok m) nonce) a c p w h = left-well c y.progress.number m.header.msg a p
    (w ∙ sym h.0) h.1.1.1
step-well b o (message (Err place) nonce) a c p w h = absurd h.1
step-well b o loss a c p w h = absurd h
step-well b o (act ok) a c p w h = same-well b c o p h.0 h.1 w

pub well_after : (s : Machine) (e : Event) → takes s e ≡ true → Well s.begun s.session
    → Well (after s e).begun (after s e).session
well_after s e t w =
    step-well s.begun s.session e (message_sent (taken_answer s e)) (after s e).begun (after s e).session w
    (steps s e t)

-- ---- a session that stands beyond another state

abbrev pub Beyond : ℕ → Option Session → Session → Type 0
Beyond b None x = b < x.progress.number
Beyond b (Some y) x = (b < x.progress.number) ⊎ ((b ≡ x.progress.number) × (last_of y < last_of x))

above-beyond : (b : ℕ) (o : Option Session) (x : Session) → b < x.progress.number → Beyond b o x
above-beyond b None x h = h
above-beyond b (Some y) x h = inl h

not-below : (b : ℕ) (o : Option Session) (x : Session) → Beyond b o x → b ≤ x.progress.number
not-below b None x h = omega (arith, h)
not-below b (Some y) x (inl h) = omega (arith, h)
not-below b (Some y) x (inr h) = let e = h.0 in omega (arith, e)

same-beyond : (b c : ℕ) (o p : Option Session) (x : Session) → c ≡ b → p ≡ o → Beyond c p x → Beyond b o x
same-beyond b c o p x e f h = subst (λ q. Beyond b q x) f (subst (λ n. Beyond n p x) e h)

left-beyond : (b c msg : ℕ) (y : Session) (a : Option Parts) (p : Option Session) (x : Session) → c ≡ b
    → last_of y < msg
    → Left y.progress.number msg a p → Beyond c p x → Beyond b (Some y) x
left-beyond b c msg y a None x e m l h = inl (omega (arith, e, h))
left-beyond b c msg y a (Some z) x e m l (inl h) = inl (omega (arith, e, h))
left-beyond b c msg y a (Some z) x e m l (inr h) =
    let i = l.1.0 in
    let j = h.1 in
    inr (sym e ∙ h.0, omega (arith, i, j, m))

-- ---- the first coming of the message that was accepted last

is-it : (k : Option ℕ) (n i j : ℕ) → k ≡ Some n → i ≡ j → (is_same_number k n && i == j) ≡ true
is-it None n i j e f = cc
is-it (Some k) n i j e f = let same : k ≡ n = cc in grind (arith, same, f)

not-number : (k : Option ℕ) (n m i j : ℕ) → k ≡ Some m → m < n → (is_same_number k n && i == j) ≡ false
not-number None n m i j e h = cc
not-number (Some k) n m i j e h = let same : k ≡ m = cc in grind (arith, same, h)

not-msg : (c : Bool) (i j : ℕ) → i < j → (c && i == j) ≡ false
not-msg c i j h = grind (arith, h)

left-not : (k : Option ℕ) (b c msg : ℕ) (y : Session) (a : Option Parts) (p : Option Session) (x : Session)
    → y.progress.number ≡ b → c ≡ b → k ≡ Some y.progress.number → Left y.progress.number msg a p → Beyond c p x
    → (is_same_number k x.progress.number && msg == last_of x) ≡ false
left-not k b c msg y a None x w e is l h =
    not-number k x.progress.number y.progress.number msg (last_of x) is (omega (arith, w, e, h))
left-not k b c msg y a (Some z) x w e is l (inl h) =
    not-number k x.progress.number y.progress.number msg (last_of x) is (omega (arith, w, e, h))
left-not k b c msg y a (Some z) x w e is l (inr h) =
    not-msg (is_same_number k x.progress.number) msg (last_of x) (let i = l.1.0 in let j = h.1 in omega (arith, i, j))

abbrev number-or : Option Session → ℕ
number-or None = 0
number-or (Some y) = y.progress.number

abbrev last-or : Option Session → ℕ
last-or None = 0
last-or (Some y) = last_of y

abbrev sent-or : Option Session → Option Parts
sent-or None = None
sent-or (Some y) = Some y.sent

-- the first reply is known, and the session stands beyond; or nothing moved since it stood there
abbrev Known : ℕ → Option Session → Option Parts → Session → Type 0
Known b o first x = ((first ≡ Some x.sent) × Beyond b o x) ⊎ ((o ≡ Some x) × (first ≡ None))

same-known : (b c : ℕ) (o p : Option Session) (first : Option Parts) (x : Session) → c ≡ b → p ≡ o → Known c p first x
    → Known b o first x
same-known b c o p first x e f (inl h) = inl (h.0, same-beyond b c o p x e f h.1)
same-known b c o p first x e f (inr h) = inr (sym f ∙ h.0, h.1)

starts-zero : (number : ℕ) (p : Option Session) (x : Session) → Starts number p → p ≡ Some x → last_of x ≡ 0
starts-zero number None x h e = cc
starts-zero number (Some z) x h e = sym (ap last-or e) ∙ h.1

opened-known : (b number c : ℕ) (o p : Option Session) (first : Option Parts) (x : Session) → 0 < last_of x → b < number
    → c ≡ number → Starts number p → Known c p first x → Known b o first x
opened-known b number c o p first x some l e h (inl k) =
    let low = not-below c p x k.1 in
    inl (k.0, above-beyond b o x (omega (arith, low, e, l)))
opened-known b number c o p first x some l e h (inr k) =
    let zero = starts-zero number p x h k.0 in
    absurd (omega (arith, zero, some))

left-first : (k : Option ℕ) (number msg : ℕ) (a : Option Parts) (p : Option Session) (first : Option Parts)
    (x : Session)
    → k ≡ Some number → Left number msg a p → p ≡ Some x
    → cond (is_same_number k x.progress.number && msg == last_of x) a first ≡ Some x.sent
left-first k number msg a None first x is l e = cc
left-first k number msg a (Some z) first x is l e =
    let n : number ≡ x.progress.number = sym l.0 ∙ ap number-or e in
    let i : msg ≡ last_of x = sym l.1.0 ∙ ap last-or e in
    ap (λ c. cond c a first) (is-it k x.progress.number msg (last_of x) (is ∙ ap Some n) i) ∙ l.1.1 ∙ ap sent-or e

left-stands : (b c msg : ℕ) (y : Session) (a : Option Parts) (p : Option Session) (x : Session) → y.progress.number ≡ b
    → last_of y < msg → Left y.progress.number msg a p → p ≡ Some x → Beyond b (Some y) x
left-stands b c msg y a None x w m l e = cc
left-stands b c msg y a (Some z) x w m l e =
    let at : last_of x ≡ msg = sym (ap last-or e) ∙ l.1.0 in
    inr (sym w ∙ sym l.0 ∙ ap number-or e, omega (arith, at, m))

message-known : (b c : ℕ) (y : Session) (m : Parts) (a : Option Parts) (p : Option Session) (first : Option Parts)
    (x : Session) → y.progress.number ≡ b → c ≡ b → session_of m ≡ Some y.progress.number → last_of y < m.header.msg
    → Left y.progress.number m.header.msg a p → Known c p first x
    → Known b (Some y) (cond (is_same_number (session_of m) x.progress.number && m.header.msg == last_of x) a first) x
message-known b c y m a p first x w e is l h (inl k) =
    inl (
      ap (λ t. cond t a first) (left-not (session_of m) b c m.header.msg y a p x w e is h k.1) ∙ k.0,
      left-beyond b c m.header.msg y a p x e l h k.1,
    )
message-known b c y m a p first x w e is l h (inr k) =
    inl (
      left-first (session_of m) y.progress.number m.header.msg a p first x is h k.0,
      left-stands b c m.header.msg y a p x w l h k.0,
    )

step-known : (b : ℕ) (o : Option Session) (e : Event) (a : Option Parts) (c : ℕ) (p : Option Session)
    (first : Option Parts) (x : Session) → Well b o → 0 < last_of x → Steps b o e a c p → Known c p first x
    → Known b o (cond (is_message e x.progress.number (last_of x)) a first) x
step-known b o (clock stamp) a c p first x w some h k = same-known b c o p first x h.0 h.1 k
step-known b o (opened account kind number) a c p first x w some h k =
    opened-known b number c o p first x some h.0 h.1.0 h.1.1 k
step-known b None (message (Ok m) nonce) a c p first x w some h k = absurd h.1
step-known b (Some y) (message (Ok m) nonce) a c p first x w some h k =
    message-known b c y m a p first x w h.0 h.1.0 h.1.1.0 h.1.1.1 k
step-known b o (message (Err place) nonce) a c p first x w some h k = absurd h.1
step-known b o loss a c p first x w some h k = absurd h
step-known b o (act ok) a c p first x w some h k = same-known b c o p first x h.0 h.1 k

known : (s : Machine) (es : List Event) (x : Session) → Well s.begun s.session → AllAct s es
    → (reached s es).session ≡ Some x → 0 < last_of x
    → Known s.begun s.session (first_reply s es x.progress.number (last_of x)) x
known s [] x w a e some = inr (e, refl)
known s (f ∷ es) x w a e some =
    let t = after s f in
    step-known s.begun s.session f (message_sent (taken_answer s f)) t.begun t.session
    (first_reply t es x.progress.number (last_of x)) x w some (steps s f a.0)
    (known t es x (well_after s f a.0 w) a.1 e some)

-- ---- no message at MsgID 0 acts

step-some : (b : ℕ) (o : Option Session) (f : Event) (a : Option Parts) (c : ℕ) (p : Option Session) (n : ℕ)
    → Steps b o f a c p → is_message f n 0 ≡ false
step-some b o (clock stamp) a c p n h = refl
step-some b o (opened account kind number) a c p n h = refl
step-some b None (message (Ok m) nonce) a c p n h = absurd h.1
step-some b (Some y) (message (Ok m) nonce) a c p n h =
    let more = h.1.1.0 in
    let some : 0 < m.header.msg = omega (arith, more) in
    grind (arith, some)
step-some b o (message (Err place) nonce) a c p n h = absurd h.1
step-some b o loss a c p n h = absurd h
step-some b o (act ok) a c p n h = refl

none-at-zero : (s : Machine) (es : List Event) (n : ℕ) → AllAct s es → first_reply s es n 0 ≡ None
none-at-zero s [] n a = refl
none-at-zero s (f ∷ es) n a =
    let t = after s f in
    ap (λ c. cond c (message_sent (taken_answer s f)) (first_reply t es n 0))
    (step-some s.begun s.session f (message_sent (taken_answer s f)) t.begun t.session n (steps s f a.0))
    ∙ none-at-zero t es n a.1

-- ---- answers

unused-well : (b : ℕ) (o : Option Session) → o ≡ None → Well b o
unused-well b None e = tt
unused-well b (Some y) e = cc

first-known : (b : ℕ) (o : Option Session) (first : Option Parts) (x : Session) → o ≡ None → Known b o first x
    → first ≡ Some x.sent
first-known b o first x e (inl k) = k.0
first-known b o first x e (inr k) = absurd (cc)

started : (s : Machine) (acted : List Event) (x : Session) → IsUnused s → AllAct s acted
    → (reached s acted).session ≡ Some x → 0 < last_of x
    → first_reply s acted x.progress.number (last_of x) ≡ Some x.sent
started s acted x u a e some =
    first-known s.begun s.session _ x u.1 (known s acted x (unused-well s.begun s.session u.1) a e some)

kept-by : (s : Machine) (acted : List Event) (x : Session) (i : ℕ) (c : Bool) → nat_lt 0 i ≡ c → last_of x ≡ i
    → IsUnused s
    → AllAct s acted → (reached s acted).session ≡ Some x
    → first_reply s acted x.progress.number i ≡ cond c (Some x.sent) None
kept-by s acted x i true t l u a e =
    let some : 0 < last_of x = grind (arith, t, l) in
    ap (λ i. first_reply s acted x.progress.number i) (sym l) ∙ started s acted x u a e some
kept-by s acted x i false t l u a e =
    let zero : i ≡ 0 = grind (arith, t) in
    ap (λ i. first_reply s acted x.progress.number i) zero ∙ none-at-zero s acted x.progress.number a

kept-same : (s : Machine) (acted : List Event) (o : Option Session) (k : Option ℕ) (i : ℕ) → IsUnused s → AllAct s acted
    → (reached s acted).session ≡ o → IsLastOf o k i → reply_in s acted k i ≡ kept_in o
kept-same s acted None k i u a e h = absurd h
kept-same s acted (Some x) k i u a e h =
    ap (λ k. reply_in s acted k i) h.0 ∙ ap (λ i. first_reply s acted x.progress.number i) (sym h.1)
    ∙ kept-by s acted x (last_of x) (nat_lt 0 (last_of x)) refl refl u a e

asked-same : (s : Machine) (acted : List Event) (e : Event) → IsUnused s → AllAct s acted
    → AskedFor (reached s acted).session e → first_to s acted e ≡ kept_in (reached s acted).session
asked-same s acted (clock stamp) u a h = absurd h
asked-same s acted (opened account kind number) u a h = absurd h
asked-same s acted (message (Ok m) nonce) u a h =
    kept-same s acted (reached s acted).session (session_of m) m.header.msg u a refl h
asked-same s acted (message (Err place) nonce) u a h = absurd h
asked-same s acted loss u a h = absurd h
asked-same s acted (act ok) u a h = absurd h

answer-same : (s : Machine) (before : List Event) (e : Event) → IsUnused s
    → answer_after s before e ≡ answer_now (state_from s before) e
unfolding answer_now
answer-same s before e u =
    let acted = fresh s before in
    let now = reached s acted in
    ap (λ r. cond (takes now e) (taken_answer now e) r)
    (refusal_same now e (first_to s acted e) (kept_in now.session) (asked-same s acted e u (fresh_act s before)))
    ∙ ap (λ t. answer_now t e) (state_by_state s before)

state-more : (s : Machine) (before : List Event) (e : Event)
    → state_from s (before ++ e ∷ []) ≡ next (state_from s before) e
state-more s [] e = refl
state-more s (f ∷ before) e = state-more (next s f) before e

answers-same : (s : Machine) (before es : List Event) → IsUnused s
    → answers_after s before es ≡ answers_from (state_from s before) es
answers-same s before [] u = refl
answers-same s before (e ∷ es) u =
    ap (λ a. a ∷ answers_after s (before ++ e ∷ []) es) (answer-same s before e u)
    ∙ ap (λ l. answer_now (state_from s before) e ∷ l)
    (answers-same s (before ++ e ∷ []) es u ∙ ap (λ t. answers_from t es) (state-more s before e))

-- the answers by the history are those by the state
pub state_is_enough : StateIsEnough
state_is_enough s es u = (answers-same s [] es u, state_by_state s es)
