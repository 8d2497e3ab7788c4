-- One turn at the door, from what the door, the nonces and the exchange tell.
use Rattle.std.proofs.Common.{◌≡◌, ◌+◌, ◌++◌, ℕ, List, [], ◌∷◌, inl, inr, sym, ap, subst, ◌∙◌, arith, length, drop}
use Rattle.std.proofs.Common.{Ok, Err, Result, Some, None, length-append}
use Rattle.std.specs.declared.option.Option.{Option}
use Rattle.dm_base.specs.Outside.{PutCounts}
use Rattle.dm_base.specs.declared.outside.Fault.{Fault}
use Rattle.dm_base.specs.declared.outside.Fault.TheVariants as fault
use Rattle.dm_heads.specs.declared.errors.HttpError.{HttpError}
use Rattle.dm_heads.specs.declared.errors.HttpError.TheVariants as error
use Rattle.dm_core.specs.Machines.{CoreMachine}
use Rattle.dm_http.specs.Posts.{StreamCounts}
use Rattle.dm_http.specs.Serves.{ServesOne}
use Rattle.dm_outside.specs.Calls.{Closed, closed_conn}
use Rattle.dm_outside.specs.Doors.{Doorway, Visit, visited, Accepts, DoorCloses, HasVisitor, IsEmpty, let_in, seen_off}
use Rattle.dm_outside.specs.Told.{IfTold}
use Rattle.dm_outside.specs.Updates.{GivesNonce, first_nonce}
use Rattle.dm_serving.specs.Visits.{core_after}
use Rattle.dm_serving.specs.Turns.{DoorAndNonces, door_and_nonces, visited_by, serving_at, IsTurn, VisitDoes, IsServed}
use Rattle.dm_serving.specs.Turns.{EndsRun}
use Rattle.dm_serving.proofs.Visiting.{IsAnswered, answered, cut_by}

-- ---- who is out

pub has_visitor : {C : Type 0} (left got : C → Option (List ℕ)) (c : C) (told0 told1 : Option Doorway)
    → Accepts told0 told1 left got (Ok c) → HasVisitor told1
has_visitor left got c None None d = tt
has_visitor left got c None (Some t) d = absurd d
has_visitor left got c (Some s) None d = absurd d
has_visitor left got c (Some s) (Some t) d =
    let long = length-append s.out (d.0.held ∷ []) in
    let same = ap (λ (w : Doorway). length w.out) d.2 in
    omega (arith, long, same)

-- the door behind a connection that was let in and given back, where none was out
round : (s t u : Doorway) (held : List ℕ) (c : Closed) → s.out ≡ [] → t ≡ let_in s held → u ≡ seen_off t t.out c
    → u ≡ record { listens = s.listens; listened = s.listened; to_come = drop 1 s.to_come; out = []; log = s.log ++ visited held c ∷ [] }
round s t u held c empty came closed =
    closed ∙ ap (λ w. seen_off w w.out c) came ∙ ap (λ o. seen_off (let_in s held) (o ++ held ∷ []) c) empty

none_out : (s : Doorway) (v : Visit) → s.out ≡ []
    → record { listens = s.listens; listened = s.listened; to_come = drop 1 s.to_come; out = []; log = s.log ++ v ∷ [] }
    ≡ visited_by s (v ∷ [])
none_out s v empty =
    ap (λ o. record { listens = s.listens; listened = s.listened; to_come = drop 1 s.to_come; out = o; log = s.log ++ v ∷ [] }) (sym empty)

visited_one : (s t u : Doorway) (held : List ℕ) (c : Closed) → s.out ≡ [] → t ≡ let_in s held → u ≡ seen_off t t.out c
    → u ≡ visited_by s (visited held c ∷ [])
visited_one s t u held c empty came closed = round s t u held c empty came closed ∙ none_out s (visited held c) empty

pub empty_again : {C : Type 0} (left got : C → Option (List ℕ)) (c0 : C) (k : Closed) (told0 told1 told2 : Option Doorway)
    → IsEmpty told0 → Accepts told0 told1 left got (Ok c0) → DoorCloses told1 told2 k → IsEmpty told2
empty_again left got c0 k None None None empty d closed = tt
empty_again left got c0 k None None (Some u) empty d closed = absurd closed
empty_again left got c0 k None (Some t) told2 empty d closed = absurd d
empty_again left got c0 k (Some s) None told2 empty d closed = absurd d
empty_again left got c0 k (Some s) (Some t) None empty d closed = absurd closed
empty_again left got c0 k (Some s) (Some t) (Some u) empty d closed =
    ap (λ (w : Doorway). w.out) (round s t u d.0.held k empty d.2 closed)

pub empty_missed : {C : Type 0} (left got : C → Option (List ℕ)) (f : Fault) (told0 told1 : Option Doorway)
    → IsEmpty told0 → Accepts {C = C} told0 told1 left got (Err f) → IsEmpty told1
empty_missed left got f None None empty d = tt
empty_missed left got f None (Some t) empty d = absurd d
empty_missed left got f (Some s) None empty d = absurd d
empty_missed left got fault.Failed (Some s) (Some t) empty d = ap (λ (w : Doorway). w.out) d.1 ∙ empty
empty_missed left got fault.Memory (Some s) (Some t) empty d = ap (λ (w : Doorway). w.out) d ∙ empty

-- ---- no connection came

pub not_let_in : {S C : Type 0} (m : CoreMachine S) (c : S) (left got : C → Option (List ℕ)) (f : Fault) (told0 told1 : Option Doorway)
    (rest : Option (List (List ℕ))) → Accepts {C = C} told0 told1 left got (Err f)
    → IfTold (door_and_nonces told0 rest) (door_and_nonces told1 rest) (VisitDoes m c c (Err f))
not_let_in m c left got f None None rest d = tt
not_let_in m c left got f None (Some t) rest d = absurd d
not_let_in m c left got f (Some s) None rest d = absurd d
not_let_in m c left got f (Some s) (Some t) None d = tt
not_let_in m c left got fault.Failed (Some s) (Some t) (Some ns) d = ap (λ w. record { door = w; nonces = ns }) d.1
not_let_in m c left got fault.Memory (Some s) (Some t) (Some ns) d = inl (ap (λ w. record { door = w; nonces = ns }) d)

-- ---- a connection came

-- a connection was let in, something was done with it, and it was given back
let_through : {C : Type 0} (left got : C → Option (List ℕ)) (takes puts : C → ℕ) (c0 c1 : C) (nonce : List ℕ)
    (told0 told1 told2 : Option Doorway) (left0 left1 : Option (List (List ℕ))) (P : DoorAndNonces → DoorAndNonces → Type 0)
    → IsEmpty told0 → Accepts told0 told1 left got (Ok c0) → GivesNonce left0 left1 nonce
    → DoorCloses told1 told2 (closed_conn left got takes puts c1)
    → ((s u : DoorAndNonces) (held : List ℕ) → left c0 ≡ Some held → got c0 ≡ Some [] → nonce ≡ first_nonce s.nonces
    → u.nonces ≡ drop 1 s.nonces → u.door ≡ visited_by s.door (visited held (closed_conn left got takes puts c1) ∷ []) → P s u)
    → IfTold (door_and_nonces told0 left0) (door_and_nonces told2 left1) P
let_through left got takes puts c0 c1 nonce None None None left0 left1 P empty d n k h = tt
let_through left got takes puts c0 c1 nonce None None (Some u) left0 left1 P empty d n k h = absurd k
let_through left got takes puts c0 c1 nonce None (Some t) told2 left0 left1 P empty d n k h = absurd d
let_through left got takes puts c0 c1 nonce (Some s) None told2 left0 left1 P empty d n k h = absurd d
let_through left got takes puts c0 c1 nonce (Some s) (Some t) None left0 left1 P empty d n k h = absurd k
let_through left got takes puts c0 c1 nonce (Some s) (Some t) (Some u) None None P empty d n k h = tt
let_through left got takes puts c0 c1 nonce (Some s) (Some t) (Some u) None (Some ms) P empty d n k h = absurd n
let_through left got takes puts c0 c1 nonce (Some s) (Some t) (Some u) (Some ns) None P empty d n k h = absurd n
let_through left got takes puts c0 c1 nonce (Some s) (Some t) (Some u) (Some ns) (Some ms) P empty d n k h =
    h (record { door = s; nonces = ns }) (record { door = u; nonces = ms }) d.0.held d.3 d.4 n.0 n.1
    (visited_one s t u d.0.held (closed_conn left got takes puts c1) empty d.2 k)

-- the exchange began where the connection was new
abbrev ServesAt : {S : Type 0} → CoreMachine S → List ℕ → S → S → Option (List ℕ) → Option (List ℕ) → Option (List ℕ)
    → Option (List ℕ) → Result (Unit {0}) HttpError → Type 0
ServesAt m nonce c d left0 got0 left got r =
    ServesOne m nonce (record { left = left0; got = got0; core = c }) (record { left = left; got = got; core = d }) r

at_first : {S : Type 0} (m : CoreMachine S) (c d : S) (nonce first : List ℕ) (held : List ℕ) (left0 got0 left got : Option (List ℕ))
    (r : Result (Unit {0}) HttpError) → left0 ≡ Some held → got0 ≡ Some [] → nonce ≡ first
    → ServesAt m nonce c d left0 got0 left got r → ServesAt m first c d (Some held) (Some []) left got r
at_first m c d nonce first held left0 got0 left got r holds new is serves =
    subst (λ n. ServesAt m n c d (Some held) (Some []) left got r) is
    (subst (λ g. ServesAt m nonce c d (Some held) g left got r) new
    (subst (λ l. ServesAt m nonce c d l got0 left got r) holds serves))

counts_first : (t0 t p0 p : ℕ) (r : Result (Unit {0}) HttpError) → (t0 ≡ 0) × (p0 ≡ 0) → StreamCounts t0 t p0 p r
    → StreamCounts 0 t 0 p r
counts_first t0 t p0 p r fresh counts =
    subst (λ k. StreamCounts 0 t k p r) fresh.1 (subst (λ k. StreamCounts k t p0 p r) fresh.0 counts)

made_turn : {S : Type 0} (m : CoreMachine S) (c d : S) (s u : DoorAndNonces) (v : Visit) → IsAnswered m (serving_at c s.nonces) d v
    → u.nonces ≡ drop 1 s.nonces → u.door ≡ visited_by s.door (v ∷ []) → IsTurn m c d s u
made_turn m c d s u v a gone came = record {
  visit = v;
  brought = a.0;
  answered = a.1;
  door = came;
  behind = ap (λ x. serving_at x u.nonces) a.2 ∙ ap (serving_at (core_after m (serving_at c s.nonces) a.0)) gone;
}

let_in_answered : {S C : Type 0} (m : CoreMachine S) (c d : S) (left got : C → Option (List ℕ)) (takes puts : C → ℕ) (c0 c1 : C)
    (nonce : List ℕ) (r : Result (Unit {0}) HttpError) (told0 told1 told2 : Option Doorway) (left0 left1 : Option (List (List ℕ)))
    (u : Unit {0}) → IsServed r → IsEmpty told0 → Accepts told0 told1 left got (Ok c0) → (takes c0 ≡ 0) × (puts c0 ≡ 0)
    → GivesNonce left0 left1 nonce → ServesAt m nonce c d (left c0) (got c0) (left c1) (got c1) r
    → StreamCounts (takes c0) (takes c1) (puts c0) (puts c1) r → DoorCloses told1 told2 (closed_conn left got takes puts c1)
    → IfTold (door_and_nonces told0 left0) (door_and_nonces told2 left1) (VisitDoes m c d (Ok u))
let_in_answered m c d left got takes puts c0 c1 nonce r told0 told1 told2 left0 left1 u over empty came fresh given serves counts closed =
    let_through left got takes puts c0 c1 nonce told0 told1 told2 left0 left1 (IsTurn m c d) empty came given closed
    (λ s t held holds new is gone seen. made_turn m c d s t (visited held (closed_conn left got takes puts c1))
    (answered m c d s.nonces held (left c1) (got c1) (takes c1) (puts c1) r over
    (at_first m c d nonce (first_nonce s.nonces) held (left c0) (got c0) (left c1) (got c1) r holds new is serves)
    (counts_first (takes c0) (takes c1) (puts c0) (puts c1) r fresh counts)) gone seen)

let_in_cut : {S C : Type 0} (m : CoreMachine S) (c d : S) (left got : C → Option (List ℕ)) (takes puts : C → ℕ) (c0 c1 : C)
    (nonce : List ℕ) (told0 told1 told2 : Option Doorway) (left0 left1 : Option (List (List ℕ))) → IsEmpty told0
    → Accepts told0 told1 left got (Ok c0) → GivesNonce left0 left1 nonce
    → ServesAt m nonce c d (left c0) (got c0) (left c1) (got c1) (Err error.Memory)
    → DoorCloses told1 told2 (closed_conn left got takes puts c1)
    → IfTold (door_and_nonces told0 left0) (door_and_nonces told2 left1) (VisitDoes m c d (Err fault.Memory))
let_in_cut m c d left got takes puts c0 c1 nonce told0 told1 told2 left0 left1 empty came given serves closed =
    let_through left got takes puts c0 c1 nonce told0 told1 told2 left0 left1 (VisitDoes m c d (Err fault.Memory)) empty came given closed
    (λ s t held holds new is gone seen. inr (record {
      visit = visited held (closed_conn left got takes puts c1);
      cut = cut_by m c d s.nonces held (left c1) (got c1) (takes c1 + puts c1)
          (at_first m c d nonce (first_nonce s.nonces) held (left c0) (got c0) (left c1) (got c1) (Err error.Memory) holds new is serves);
      door = seen;
      nonces = gone;
    }))

-- by how the exchange ended
pub turned : {S C : Type 0} (m : CoreMachine S) (c d : S) (left got : C → Option (List ℕ)) (takes puts : C → ℕ) (c0 c1 : C)
    (nonce : List ℕ) (r : Result (Unit {0}) HttpError) (out : Result (Unit {0}) Fault) (told0 told1 told2 : Option Doorway)
    (left0 left1 : Option (List (List ℕ))) → EndsRun r out → IsEmpty told0 → Accepts told0 told1 left got (Ok c0)
    → (takes c0 ≡ 0) × (puts c0 ≡ 0) → GivesNonce left0 left1 nonce → ServesAt m nonce c d (left c0) (got c0) (left c1) (got c1) r
    → StreamCounts (takes c0) (takes c1) (puts c0) (puts c1) r → DoorCloses told1 told2 (closed_conn left got takes puts c1)
    → IfTold (door_and_nonces told0 left0) (door_and_nonces told2 left1) (VisitDoes m c d out)
turned m c d left got takes puts c0 c1 nonce r (Ok u) told0 told1 told2 left0 left1 ends empty came fresh given serves counts closed =
    let_in_answered m c d left got takes puts c0 c1 nonce r told0 told1 told2 left0 left1 u ends empty came fresh given serves counts closed
turned m c d left got takes puts c0 c1 nonce r (Err fault.Failed) told0 told1 told2 left0 left1 ends empty came fresh given serves counts closed =
    absurd ends
turned m c d left got takes puts c0 c1 nonce r (Err fault.Memory) told0 told1 told2 left0 left1 ends empty came fresh given serves counts closed =
    let_in_cut m c d left got takes puts c0 c1 nonce told0 told1 told2 left0 left1 empty came given
    (subst (ServesAt m nonce c d (left c0) (got c0) (left c1) (got c1)) ends serves) closed

-- the door's count stays where a connection came
pub counts_kept : (before mid now : ℕ) (r : Result (Unit {0}) HttpError) (out : Result (Unit {0}) Fault) → EndsRun r out
    → mid ≡ before → now ≡ mid → PutCounts before now out
counts_kept before mid now r (Ok u) ends came closed = closed ∙ came
counts_kept before mid now r (Err fault.Failed) ends came closed = absurd ends
counts_kept before mid now r (Err fault.Memory) ends came closed = closed ∙ came
