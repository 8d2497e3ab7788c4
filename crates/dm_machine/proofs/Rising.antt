-- Accepted message numbers rise.
use Rattle.std.proofs.Common.{None, Some, ◌≡◌, ◌≤◌, ℕ, inl, inr, List, [], ◌∷◌, sym, subst, ap, ◌∙◌, arith}
use Rattle.std.specs.Prelude.{Option, Ok, Err}
use Rattle.syncml_types.specs.Message.{Parts}
use Rattle.dm_machine.specs.Machine.{Session, Machine}
use Rattle.dm_machine.specs.Events.{Event, clock, opened, message, loss, act, session_of, last_of, after, taken_answer}
use Rattle.dm_machine.specs.History.{fresh, message_sent}
use Rattle.dm_machine.specs.Laws.{Position, number_or_zero, position_of, Precedes, or_last, Rise, AcceptedNumbersRise}
use Rattle.dm_machine.proofs.Steps.{Left, Starts, Steps, steps}
use Rattle.dm_machine.proofs.History.{AllAct, fresh_act, Well, well_after}

-- the last event that stood somewhere stood at this position
abbrev StandsAt : Position → ℕ → Option Session → Type 0
StandsAt p b None = p.session ≤ b
StandsAt p b (Some y) = (p.session ≡ y.progress.number) × (p.msg ≡ last_of y)

not-above : (p : Position) (b : ℕ) (o : Option Session) → Well b o → StandsAt p b o → p.session ≤ b
not-above p b None w h = h
not-above p b (Some y) w h = let e = h.0 in omega (arith, e, w)

starts-at : (number c : ℕ) (o : Option Session) → c ≡ number → Starts number o
    → StandsAt (record { session = number; msg = 0 }) c o
starts-at number c None e h = omega (arith, e)
starts-at number c (Some x) e h = (sym h.0, sym h.1)

left-at : (k : Option ℕ) (number msg b c : ℕ) (a : Option Parts) (o : Option Session) → number ≡ b → c ≡ b
    → k ≡ Some number → Left number msg a o → StandsAt (record { session = number_or_zero k; msg = msg }) c o
left-at k number msg b c a None w e is h =
    let n : number_or_zero k ≡ number = ap number_or_zero is in
    omega (arith, n, w, e)
left-at k number msg b c a (Some x) w e is h = (ap number_or_zero is ∙ sym h.0, sym h.1.0)

same-at : (p : Position) (b c : ℕ) (o q : Option Session) → c ≡ b → q ≡ o → StandsAt p b o → StandsAt p c q
same-at p b c o q e f h = subst (λ x. StandsAt p c x) (sym f) (subst (λ n. StandsAt p n o) (sym e) h)

step-before : (p : Position) (b : ℕ) (o : Option Session) (e : Event) (a : Option Parts) (c : ℕ) (q : Option Session)
    → Well b o → StandsAt p b o → Steps b o e a c q → Precedes p (position_of e)
step-before p b o (clock stamp) a c q w h s = tt
step-before p b o (opened account kind number) a c q w h s =
    let more = s.0 in
    let low = not-above p b o w h in
    inl (omega (arith, more, low))
step-before p b None (message (Ok m) nonce) a c q w h s = absurd s.1
step-before p b (Some y) (message (Ok m) nonce) a c q w h s =
    let more = s.1.1.0 in
    let at = h.1 in
    inr (h.0 ∙ sym (ap number_or_zero s.1.0), omega (arith, more, at))
step-before p b o (message (Err place) nonce) a c q w h s = absurd s.1
step-before p b o loss a c q w h s = absurd s
step-before p b o (act ok) a c q w h s = tt

step-at : (p : Position) (b : ℕ) (o : Option Session) (e : Event) (a : Option Parts) (c : ℕ) (q : Option Session)
    → Well b o → StandsAt p b o → Steps b o e a c q → StandsAt (or_last p (position_of e)) c q
step-at p b o (clock stamp) a c q w h s = same-at p b c o q s.0 s.1 h
step-at p b o (opened account kind number) a c q w h s = starts-at number c q s.1.0 s.1.1
step-at p b None (message (Ok m) nonce) a c q w h s = absurd s.1
step-at p b (Some y) (message (Ok m) nonce) a c q w h s =
    left-at (session_of m) y.progress.number m.header.msg b c a q w s.0 s.1.0 s.1.1.1
step-at p b o (message (Err place) nonce) a c q w h s = absurd s.1
step-at p b o loss a c q w h s = absurd s
step-at p b o (act ok) a c q w h s = same-at p b c o q s.0 s.1 h

acting-rise : (s : Machine) (es : List Event) (p : Position) → Well s.begun s.session → StandsAt p s.begun s.session
    → AllAct s es → Rise p es
acting-rise s [] p w h a = tt
acting-rise s (e ∷ es) p w h a =
    let t = after s e in
    let sent = message_sent (taken_answer s e) in
    let step = steps s e a.0 in (
      step-before p s.begun s.session e sent t.begun t.session w h step,
      acting-rise t es (or_last p (position_of e)) (well_after s e a.0 w)
          (step-at p s.begun s.session e sent t.begun t.session w h step) a.1,
    )

unused-well : (b : ℕ) (o : Option Session) → o ≡ None → Well b o
unused-well b None e = tt
unused-well b (Some y) e = cc

unused-at : (b : ℕ) (o : Option Session) → o ≡ None → StandsAt (record { session = 0; msg = 0 }) b o
unused-at b None e = omega arith
unused-at b (Some y) e = cc

pub accepted_numbers_rise : AcceptedNumbersRise
accepted_numbers_rise s es u =
    acting-rise s (fresh s es) (record { session = 0; msg = 0 }) (unused-well s.begun s.session u.1)
    (unused-at s.begun s.session u.1) (fresh_act s es)
