-- A run over all of the outside, from its parts.
use Rattle.std.proofs.Common.{◌≡◌, ◌+◌, ℕ, true, false, List, [], refl, sym, ◌∙◌, arith, Ok, Err, None}
use Rattle.std.proofs.Common.{inl, inr, append-nil, ap, Some}
use Rattle.std.specs.Io.KnownBytes.{Keeps}
use Rattle.std.specs.Prelude.{Option}
use Rattle.dm_base.specs.declared.bytes.Memory.{Memory}
use Rattle.dm_machine.specs.declared.kinds.Initiator.{Initiator}
use Rattle.dm_machine.specs.Machine.{Machine}
use Rattle.dm_machine.specs.Events.{opened}
use Rattle.dm_machine.specs.History.{next}
use Rattle.dm_outside.specs.declared.told.Update.{Update}
use Rattle.dm_outside.specs.Calls.{Calls}
use Rattle.dm_exit.specs.declared.exit.Exit.{Exit}
use Rattle.dm_exit.specs.declared.exit.Exit.TheVariants as exit
use Rattle.dm_device.specs.declared.tally.Word.{Word}
use Rattle.dm_device.specs.Outsides.{Outside, outside_of, OfTold, IsPostedInPart}
use Rattle.dm_device.specs.Runs.{Route, begun_session, follow_up, leaves_update}
use Rattle.dm_device.specs.Ending.{IsCutShort, HoldDoes, CloseDoes, MayHaveGiven, TellDoes, FollowDoes, RunDoes}
use Rattle.dm_exit.proofs.Parts.{prefix_none}
use Rattle.dm_device.proofs.Putting.{empty_prefix}
use Rattle.dm_device.proofs.Told.{told_then, told_as, told_same}
use Rattle.dm_device.proofs.Running.{updates_told, follows_whole, follows_cut, run_cut, run_closes, run_follows}

-- ---- behind the first session

-- a session was held and the run closed
abbrev pub HeldAndClosed : Route → ℕ → Machine → Machine → Word → Exit → Option (List ℕ) → Option (List ℕ)
    → Option (List ℕ) → Outside → Outside → Type 0
HeldAndClosed r number d e w x old mid new s u = (t : Outside)
    × HoldDoes r.address r.path number d e old mid (Ok w) s t × CloseDoes r e w mid new x t u

pub follows_told : (d0 d1 d2 : Option Calls) (u0 u1 : Option (List Update)) (n0 n1 : Option (List (List ℕ))) (r : Route)
    (account number : ℕ) (c d e : Machine) (w : Word) (x : Exit) (v : Unit {0}) (old mid new : Option (List ℕ))
    → OfTold u0 u1 (TellDoes account number c d (Ok v))
    → ((us : Option (List Update)) → OfTold (outside_of d0 us n0) (outside_of d1 us n1)
    (HoldDoes r.address r.path number d e old mid (Ok w)))
    → ((us : Option (List Update)) (ns : Option (List (List ℕ))) → OfTold (outside_of d1 us ns) (outside_of d2 us ns)
    (CloseDoes r e w mid new x))
    → OfTold (outside_of d0 u0 n0) (outside_of d2 u1 n1) (FollowDoes r account number c old new x)
follows_told d0 d1 d2 u0 u1 n0 n1 r account number c d e w x v old mid new tells holds closes =
    told_then (outside_of d0 u0 n0) (outside_of d0 u1 n0) (outside_of d2 u1 n1) _
    (HeldAndClosed r number d e w x old mid new) _
    (λ s t z p q. follows_whole r account number c d e p.0.0 w x s t q.0 z old mid new p.0.1 p.0.2 p.1 p.2 q.1 q.2)
    (updates_told d0 u0 u1 n0 (TellDoes account number c d (Ok v)) tells)
    (told_then (outside_of d0 u1 n0) (outside_of d1 u1 n1) (outside_of d2 u1 n1) _ _
    (HeldAndClosed r number d e w x old mid new) (λ s t z p q. (t, p, q)) (holds u1) (closes u1 n1))

pub follows_short : (d0 d1 : Option Calls) (u0 u1 : Option (List Update)) (n0 n1 : Option (List (List ℕ))) (r : Route)
    (account number : ℕ) (c d e : Machine) (x : Exit) (v : Unit {0}) (old new : Option (List ℕ)) → IsCutShort x
    → OfTold u0 u1 (TellDoes account number c d (Ok v))
    → ((us : Option (List Update)) → OfTold (outside_of d0 us n0) (outside_of d1 us n1)
    (HoldDoes r.address r.path number d e old new (Err x)))
    → OfTold (outside_of d0 u0 n0) (outside_of d1 u1 n1) (FollowDoes r account number c old new x)
follows_short d0 d1 u0 u1 n0 n1 r account number c d e x v old new short tells holds =
    told_then (outside_of d0 u0 n0) (outside_of d0 u1 n0) (outside_of d1 u1 n1) _ _ _
    (λ s t z p q. follows_cut r account number c d e p.0.0 x s t z old new p.0.1 p.0.2 p.1 p.2 short q)
    (updates_told d0 u0 u1 n0 (TellDoes account number c d (Ok v)) tells) (holds u1)

nothing_asked : (address : List ℕ) (requests : List (List ℕ)) (s t : Calls) → t ≡ s
    → IsPostedInPart address requests [] s t
nothing_asked address requests s t same = record {
  dials = [];
  more = [];
  made = ap (λ (k : Calls). k.log) same ∙ sym (append-nil s.log);
  path = [];
  message = [];
  cut = tt;
  posted = 0;
  matched = tt;
}

may_have_given : (r : Route) (account number : ℕ) (c : Machine) (old : Option (List ℕ)) (s t : Outside)
    → MayHaveGiven c s.updates t.updates → t.calls ≡ s.calls → t.nonces ≡ s.nonces
    → FollowDoes r account number c old old exit.NoMemory s t
may_have_given r account number c old s t (inl none) calls nonces =
    let run = follow_up r account number c s.nonces None [] in (
      None,
      [],
      [],
      record {
        posts = nothing_asked r.address run.requests s.calls t.calls calls;
        given = 0;
        updates = none ∙ sym (append-nil s.updates);
        used = 0;
        few = omega arith;
        nonces = nonces;
        text = empty_prefix old run.text;
      },
    )
may_have_given r account number c old s t (inr gave) calls nonces =
    let run = follow_up r account number c s.nonces gave.0 [] in (
      gave.0,
      [],
      [],
      record {
        posts = nothing_asked r.address run.requests s.calls t.calls calls;
        given = 1;
        updates = gave.1;
        used = 0;
        few = omega arith;
        nonces = nonces;
        text = empty_prefix old run.text;
      },
    )

pub follows_for_memory : (told : Option Calls) (u0 u1 : Option (List Update)) (n : Option (List (List ℕ))) (r : Route)
    (account number : ℕ) (c d : Machine) (m : Memory) (old : Option (List ℕ))
    → OfTold u0 u1 (TellDoes account number c d (Err m))
    → OfTold (outside_of told u0 n) (outside_of told u1 n) (FollowDoes r account number c old old exit.NoMemory)
follows_for_memory told u0 u1 n r account number c d m old tells =
    told_as (outside_of told u0 n) (outside_of told u1 n) _ _
    (λ s t p. may_have_given r account number c old s t p.0 p.1 p.2)
    (updates_told told u0 u1 n (TellDoes account number c d (Err m)) tells)

-- ---- the whole run

-- nothing was done at all
pub run_untouched : (r : Route) (account : ℕ) (kind : Initiator) (number : ℕ) (c : Machine) (old new : Option (List ℕ))
    (s : Outside) → Keeps old new → RunDoes r account kind number c old new exit.NoMemory s s
run_untouched r account kind number c old new s kept =
    run_cut r account number (begun_session c account kind number s.nonces) [] exit.NoMemory s s old new tt
    (record {
      posts = nothing_asked r.address [] s.calls s.calls refl;
      given = 0;
      updates = sym (append-nil s.updates);
      used = 0;
      few = omega arith;
      nonces = refl;
      text = prefix_none old new [] kept;
    })

keeps_itself : (x : Option (List ℕ)) → Keeps x x
keeps_itself None = tt
keeps_itself (Some bytes) = refl

pub run_for_memory : (told : Option Calls) (us : Option (List Update)) (n : Option (List (List ℕ))) (r : Route)
    (account : ℕ) (kind : Initiator) (number : ℕ) (c : Machine) (old : Option (List ℕ))
    → OfTold (outside_of told us n) (outside_of told us n) (RunDoes r account kind number c old old exit.NoMemory)
run_for_memory told us n r account kind number c old =
    told_same (outside_of told us n) _ (λ s. run_untouched r account kind number c old old s (keeps_itself old))

pub run_short : (d0 d1 : Option Calls) (us : Option (List Update)) (n0 n1 : Option (List (List ℕ))) (r : Route)
    (account : ℕ) (kind : Initiator) (number : ℕ) (c e : Machine) (x : Exit) (old new : Option (List ℕ)) → IsCutShort x
    → OfTold (outside_of d0 us n0) (outside_of d1 us n1)
    (HoldDoes r.address r.path number (next c (opened account kind number)) e old new (Err x))
    → OfTold (outside_of d0 us n0) (outside_of d1 us n1) (RunDoes r account kind number c old new x)
run_short d0 d1 us n0 n1 r account kind number c e x old new short holds =
    told_as (outside_of d0 us n0) (outside_of d1 us n1) _ _
    (λ s t p. run_cut r account number (begun_session c account kind number s.nonces) p.0 x s t old new short p.1) holds

pub run_closed : (d0 d1 d2 : Option Calls) (us : Option (List Update)) (n0 n1 : Option (List (List ℕ))) (r : Route)
    (account : ℕ) (kind : Initiator) (number : ℕ) (c d : Machine) (w : Word) (x : Exit) (old mid new : Option (List ℕ))
    → OfTold (outside_of d0 us n0) (outside_of d1 us n1)
    (HoldDoes r.address r.path number (next c (opened account kind number)) d old mid (Ok w))
    → leaves_update w d ≡ false
    → OfTold (outside_of d1 us n1) (outside_of d2 us n1) (CloseDoes r d w mid new x)
    → OfTold (outside_of d0 us n0) (outside_of d2 us n1) (RunDoes r account kind number c old new x)
run_closed d0 d1 d2 us n0 n1 r account kind number c d w x old mid new holds leaves closes =
    told_then (outside_of d0 us n0) (outside_of d1 us n1) (outside_of d2 us n1) _ _ _
    (λ s t u p q. run_closes r account number (begun_session c account kind number s.nonces) p.0 d w x s t u old mid new p.1 p.2
    p.3 leaves q)
    holds closes

pub run_followed : (d0 d1 d2 : Option Calls) (u0 u1 : Option (List Update)) (n0 n1 n2 : Option (List (List ℕ)))
    (r : Route) (account : ℕ) (kind : Initiator) (number : ℕ) (c d : Machine) (w : Word) (x : Exit)
    (old mid new : Option (List ℕ))
    → OfTold (outside_of d0 u0 n0) (outside_of d1 u0 n1)
    (HoldDoes r.address r.path number (next c (opened account kind number)) d old mid (Ok w))
    → leaves_update w d ≡ true
    → OfTold (outside_of d1 u0 n1) (outside_of d2 u1 n2) (FollowDoes r account (number + 1) d mid new x)
    → OfTold (outside_of d0 u0 n0) (outside_of d2 u1 n2) (RunDoes r account kind number c old new x)
run_followed d0 d1 d2 u0 u1 n0 n1 n2 r account kind number c d w x old mid new holds leaves follows =
    told_then (outside_of d0 u0 n0) (outside_of d1 u0 n1) (outside_of d2 u1 n2) _ _ _
    (λ s t u p q. run_follows r account number (begun_session c account kind number s.nonces) p.0 d w x s t u old mid new
    p.1 p.2
    p.3 leaves q)
    holds follows
