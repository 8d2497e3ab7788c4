-- What a caller of a dialer or a door knows of a connection that it was handed.
use Rattle.std.proofs.Common.{◌≡◌, ◌∷◌, ◌++◌, [], ℕ, List, Some, None, Ok, ap, arith, length, drop, length-append}
use Rattle.std.specs.declared.option.Option.{Option}
use Rattle.dm_outside.specs.Calls.{Closed, Calls, Dials, HasOut, handed_out, given_back, talked}
use Rattle.dm_outside.specs.Doors.{Doorway, Accepts, HasVisitor, let_in, seen_off, visited}

-- a connection that was dialled is out, so it can be given back
pub has_out : {C : Type 0} (left got : C → Option (List ℕ)) (c : C) (old new : Option Calls) (address : List ℕ)
    → Dials old new address left got (Ok c) → HasOut new
has_out left got c None None address d = tt
has_out left got c None (Some t) address d = absurd d
has_out left got c (Some s) None address d = absurd d
has_out left got c (Some s) (Some t) address d =
    let long = length-append s.out ((record { address = address; held = d.0.held }) ∷ []) in
    let same = ap (λ (w : Calls). length w.out) d.2 in
    omega (arith, long, same)

-- a connection that was let in is out, so it can be given back
pub has_visitor : {C : Type 0} (left got : C → Option (List ℕ)) (c : C) (old new : Option Doorway)
    → Accepts old new left got (Ok c) → HasVisitor new
has_visitor left got c None None d = tt
has_visitor left got c None (Some t) d = absurd d
has_visitor left got c (Some s) None d = absurd d
has_visitor left got c (Some s) (Some t) d =
    let long = length-append s.out (d.0.held ∷ []) in
    let same = ap (λ (w : Doorway). length w.out) d.2 in
    omega (arith, long, same)

-- where no connection was out, one that was dialled and given back is the last of the log
pub given_back-handed_out : (s : Calls) (address held : List ℕ) (c : Closed) → s.out ≡ []
    → given_back (handed_out s address held) (handed_out s address held).out c
    ≡ record s { to_come = drop 1 s.to_come; out = []; log = s.log ++ talked (record { address = address; held = held }) c ∷ [] }
given_back-handed_out s address held c idle =
    ap (λ out. given_back (handed_out s address held) (out ++ (record { address = address; held = held }) ∷ []) c) idle

-- where no connection was out, one that was let in and given back is the last of the log
pub seen_off-let_in : (s : Doorway) (held : List ℕ) (c : Closed) → s.out ≡ []
    → seen_off (let_in s held) (let_in s held).out c
    ≡ record s { to_come = drop 1 s.to_come; out = []; log = s.log ++ visited held c ∷ [] }
seen_off-let_in s held c idle = ap (λ out. seen_off (let_in s held) (out ++ held ∷ []) c) idle
