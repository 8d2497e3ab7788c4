-- From one turn at the door to the next.
use Rattle.std.proofs.Common.{◌≡◌, ◌<◌, ◌+◌, ◌++◌, ℕ, List, [], ◌∷◌, inl, inr, refl, sym, ap, subst, ◌∙◌, length, drop}
use Rattle.std.proofs.Common.{Err, Some, None, append-nil, append_assoc, length-append, drop-drop}
use Rattle.std.specs.declared.option.Option.{Option}
use Rattle.dm_base.specs.declared.outside.Fault.{Fault}
use Rattle.dm_base.specs.declared.outside.Fault.TheVariants as fault
use Rattle.dm_core.specs.Machines.{CoreMachine}
use Rattle.dm_outside.specs.Doors.{Doorway, Visit, missed}
use Rattle.dm_outside.specs.Told.{IfTold}
use Rattle.dm_serving.specs.Visits.{Brought, Serving, reply_to, serving_behind, replies, serving_reached, IsVisit}
use Rattle.dm_serving.specs.Visits.{AreVisits, IsCutVisit}
use Rattle.dm_serving.specs.Turns.{DoorAndNonces, visited_by, serving_at, IsTurn, IsCutTurn, VisitDoes, AllCame}
use Rattle.dm_serving.specs.Turns.{OneMissed, OneCut, AllDo}

-- ---- what is told, step by step

pub told_same : {O : Type 0} (o : Option O) (P : O → O → Type 0) → ((s : O) → P s s) → IfTold o o P
told_same None P h = tt
told_same (Some s) P h = h s

pub told_then : {O : Type 0} (o p q : Option O) (P Q R : O → O → Type 0) → ((s t u : O) → P s t → Q t u → R s u)
    → IfTold o p P → IfTold p q Q → IfTold o q R
told_then None None None P Q R h a b = tt
told_then None None (Some u) P Q R h a b = absurd b
told_then None (Some t) q P Q R h a b = absurd a
told_then (Some s) None q P Q R h a b = absurd a
told_then (Some s) (Some t) None P Q R h a b = absurd b
told_then (Some s) (Some t) (Some u) P Q R h a b = h s t u a b

pub told_as : {O : Type 0} (o p : Option O) (P Q : O → O → Type 0) → ((s t : O) → P s t → Q s t) → IfTold o p P → IfTold o p Q
told_as None None P Q h a = tt
told_as None (Some t) P Q h a = absurd a
told_as (Some s) None P Q h a = absurd a
told_as (Some s) (Some t) P Q h a = h s t a

-- ---- one connection more

replies_more : {S : Type 0} (m : CoreMachine S) (g : Serving S) (bs : List Brought) (b : Brought)
    → replies m g (bs ++ b ∷ []) ≡ replies m g bs ++ reply_to m (serving_reached m g bs) b ∷ []
replies_more m g [] b = refl
replies_more m g (x ∷ bs) b = ap (λ rs. reply_to m g x ∷ rs) (replies_more m (serving_behind m g x) bs b)

reached_more : {S : Type 0} (m : CoreMachine S) (g : Serving S) (bs : List Brought) (b : Brought)
    → serving_reached m g (bs ++ b ∷ []) ≡ serving_behind m (serving_reached m g bs) b
reached_more m g [] b = refl
reached_more m g (x ∷ bs) b = reached_more m (serving_behind m g x) bs b

matches_more : (vs : List Visit) (bs : List Brought) (rs : List (List ℕ)) (v : Visit) (b : Brought) (r : List ℕ)
    → AreVisits vs bs rs → IsVisit v b r → AreVisits (vs ++ v ∷ []) (bs ++ b ∷ []) (rs ++ r ∷ [])
matches_more [] [] [] v b r m x = (x, tt)
matches_more (w ∷ vs) (c ∷ bs) (q ∷ rs) v b r m x = (m.0, matches_more vs bs rs v b r m.1 x)
matches_more [] [] (q ∷ rs) v b r m x = absurd m
matches_more [] (c ∷ bs) rs v b r m x = absurd m
matches_more (w ∷ vs) [] rs v b r m x = absurd m
matches_more (w ∷ vs) (c ∷ bs) [] v b r m x = absurd m

-- the door behind these calls, and then those
visited_then : (s : Doorway) (vs ws : List Visit) → visited_by (visited_by s vs) ws ≡ visited_by s (vs ++ ws)
visited_then s vs ws =
    ap (λ xs. record s { to_come = xs; log = (s.log ++ vs) ++ ws })
    (drop-drop (length ws) (length vs) s.to_come ∙ ap (λ n. drop n s.to_come) (sym (length-append vs ws)))
    ∙ ap (λ xs. record s { to_come = drop (length (vs ++ ws)) s.to_come; log = xs }) (append_assoc s.log vs ws)

pub visited_none : (s : Doorway) → s ≡ visited_by s []
visited_none s = ap (λ xs. record s { log = xs }) (sym (append-nil s.log))

-- ---- all so far

pub first_came : {S : Type 0} (m : CoreMachine S) (c : S) (s : DoorAndNonces) → AllCame m 0 c c s s
first_came m c s = record {
  visits = [];
  brought = [];
  answered = tt;
  all = refl;
  door = visited_none s.door;
  behind = refl;
}

door_then : (s t u : Doorway) (vs ws : List Visit) → t ≡ visited_by s vs → u ≡ visited_by t ws → u ≡ visited_by s (vs ++ ws)
door_then s t u vs ws a b = b ∙ ap (λ d. visited_by d ws) a ∙ visited_then s vs ws

pub one_came : {S : Type 0} (m : CoreMachine S) (n : ℕ) (c d e : S) (s t u : DoorAndNonces) → AllCame m n c d s t → IsTurn m d e t u
    → AllCame m (n + 1) c e s u
one_came m n c d e s t u far turn =
    let g = serving_at c s.nonces in
    let last = serving_reached m g far.brought in
    let came = subst (λ w. IsVisit turn.visit turn.brought (reply_to m w turn.brought)) far.behind turn.answered in
    record {
      visits = far.visits ++ turn.visit ∷ [];
      brought = far.brought ++ turn.brought ∷ [];
      answered = subst (AreVisits (far.visits ++ turn.visit ∷ []) (far.brought ++ turn.brought ∷ []))
          (sym (replies_more m g far.brought turn.brought))
          (matches_more far.visits far.brought (replies m g far.brought) turn.visit turn.brought
          (reply_to m last turn.brought) far.answered came);
      all = length-append far.visits (turn.visit ∷ []) ∙ ap (λ k. k + 1) far.all;
      door = door_then s.door t.door u.door far.visits (turn.visit ∷ []) far.door turn.door;
      behind = turn.behind ∙ ap (λ w. serving_behind m w turn.brought) far.behind ∙ sym (reached_more m g far.brought turn.brought);
    }

pub one_missed : {S : Type 0} (m : CoreMachine S) (n count : ℕ) (c d e : S) (s t u : DoorAndNonces) → n < count → AllCame m n c d s t
    → VisitDoes m d e (Err fault.Failed) t u → OneMissed m count c s u
one_missed m n count c d e s t u low far turn = record {
  visits = far.visits;
  brought = far.brought;
  answered = far.answered;
  fewer = subst (λ k. k < count) (sym far.all) low;
  door = door_then s.door t.door u.door far.visits (missed ∷ []) far.door (ap (λ (o : DoorAndNonces). o.door) turn);
  nonces = ap (λ (o : DoorAndNonces). o.nonces) turn ∙ ap (λ (w : Serving _). w.nonces) far.behind;
}

-- memory was wanting before a connection came
cut_before : {S : Type 0} (m : CoreMachine S) (n count : ℕ) (c d : S) (s t u : DoorAndNonces) → n < count → AllCame m n c d s t → u ≡ t
    → OneCut m count c s u
cut_before m n count c d s t u low far same = record {
  visits = far.visits;
  cut = [];
  brought = far.brought;
  answered = far.answered;
  last = tt;
  fewer = subst (λ k. k < count) (sym far.all) low;
  door = ap (λ (o : DoorAndNonces). o.door) same ∙ far.door ∙ ap (visited_by s.door) (sym (append-nil far.visits));
  nonces = ap (λ (o : DoorAndNonces). o.nonces) same ∙ ap (λ (w : Serving _). w.nonces) far.behind;
}

cut_in : {S : Type 0} (m : CoreMachine S) (n count : ℕ) (c d : S) (s t u : DoorAndNonces) → n < count → AllCame m n c d s t → IsCutTurn m d t u
    → OneCut m count c s u
cut_in m n count c d s t u low far turn = record {
  visits = far.visits;
  cut = turn.visit ∷ [];
  brought = far.brought;
  answered = far.answered;
  last = subst (λ w. IsCutVisit m w turn.visit) far.behind turn.cut;
  fewer = subst (λ k. k < count) (sym far.all) low;
  door = door_then s.door t.door u.door far.visits (turn.visit ∷ []) far.door turn.door;
  nonces = turn.nonces ∙ ap (λ (w : Serving _). drop 1 w.nonces) far.behind;
}

pub one_cut : {S : Type 0} (m : CoreMachine S) (n count : ℕ) (c d e : S) (s t u : DoorAndNonces) → n < count → AllCame m n c d s t
    → VisitDoes m d e (Err fault.Memory) t u → OneCut m count c s u
one_cut m n count c d e s t u low far (inl same) = cut_before m n count c d s t u low far same
one_cut m n count c d e s t u low far (inr turn) = cut_in m n count c d s t u low far turn

-- by the answer of a turn that ended the run
pub one_ended : {S : Type 0} (m : CoreMachine S) (n count : ℕ) (c d e : S) (f : Fault) → n < count → (s t u : DoorAndNonces)
    → AllCame m n c d s t → VisitDoes m d e (Err f) t u → AllDo m count c e (Err f) s u
one_ended m n count c d e fault.Failed low s t u far turn = one_missed m n count c d e s t u low far turn
one_ended m n count c d e fault.Memory low s t u far turn = one_cut m n count c d e s t u low far turn
