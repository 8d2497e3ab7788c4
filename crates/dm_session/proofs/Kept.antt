-- Nodes that keep their numbers while a client works.
use Rattle.std.proofs.Common.{◌≡◌, ◌&&◌, ℕ, ◌<◌, Bool, true, not, List, length, get_or, refl, sym, ◌∙◌, subst, Option}
use Rattle.std.proofs.Common.{None, Some}
use Rattle.std.specs.Prelude.{Result, Ok, is_some, option_map}
use Rattle.wbxml_tokens.specs.declared.reason.Refusal.{Refusal}
use Rattle.syncml_types.specs.declared.command.Command.{Command}
use Rattle.syncml_types.specs.Message.{Parts}
use Rattle.dm_tree.specs.Nodes.{Path, Ids}
use Rattle.dm_commands.specs.Promises.{KeepIdsBut}
use Rattle.dm_pack.specs.Entries.{Entry}
use Rattle.dm_atomic.specs.declared.engine.Engine.{Engine}
use Rattle.dm_atomic.specs.Engine.{state_of}
use Rattle.dm_atomic.specs.Marks.{Whole as AllOf, whole_of}
use Rattle.dm_atomic.specs.Stays.{covers, StayBut}
use Rattle.dm_atomic.specs.Updates.{is_updating}
use Rattle.dm_atomic.proofs.Staying.{stay_self, stay_then, stay_within, stay_closed, none_at, base_closed}
use Rattle.dm_machine.specs.Events.{act, takes}
use Rattle.dm_session.specs.declared.client.Client.TheInside.{Inside}
use Rattle.dm_session.specs.declared.rest.Rest.{Rest}
use Rattle.dm_session.specs.declared.rest.Session.{Session}
use Rattle.dm_session.specs.Inside.{machine_of, session_in, whole_client}
use Rattle.dm_session.specs.View.{WholeMachine}
use Rattle.dm_session.specs.Stays.{body_covers, read_covers, engine_in}

-- ---- the commands of a body

pub body_goes_on : (e m f : Engine) (cs : List Command) (k : ℕ) (c : Command) → k < length cs → c ≡ get_or cs k c
    → StayBut (body_covers cs) (whole_of e) (whole_of m) → StayBut (covers c) (whole_of m) (whole_of f)
    → StayBut (body_covers cs) (whole_of e) (whole_of f)
body_goes_on e m f cs k c l is a b =
    stay_then (body_covers cs) (whole_of e) (whole_of m) (whole_of f) a
    (stay_within (covers c) (body_covers cs) (whole_of m) (whole_of f)
    (λ p u. none_at (λ d. covers d p) cs k c l is u) b)

-- ---- what is all as it was

pub stay_is : (c : Path → Bool) (v w : AllOf) → w ≡ v → StayBut c v w
stay_is c v w e = subst (StayBut c v) (sym e) (stay_self c v)

pub stay_settled : (c : Path → Bool) (v w x : AllOf) → x ≡ w → StayBut c v w → StayBut c v x
stay_settled c v w x e = subst (StayBut c v) (sym e)

-- ---- a client

pub seen_stay : (c : Path → Bool) (i : Inside) (old : WholeMachine) (w : AllOf) → whole_client i ≡ old
    → StayBut c (whole_of i.engine) w → StayBut c (engine_in old) w
seen_stay c i old w e = subst (λ (x : WholeMachine). StayBut c (engine_in x) w) e

pub read_stay : (read : Result Parts Refusal) (m : Parts) (v w : AllOf) → read ≡ Ok m → StayBut (body_covers m.body) v w
    → StayBut (read_covers read) v w
read_stay read m v w e = subst (λ x. StayBut (read_covers x) v w) (sym e)

pub kept_self : (c : Path → Bool) (i : Ids) → KeepIdsBut c i i
kept_self c i p id there u = there

-- where no group was open, a node keeps its number in the tree
pub kept_seen : (c : Path → Bool) (i : Inside) (old : WholeMachine) (w : AllOf) → whole_client i ≡ old
    → StayBut c (engine_in old) w → old.machine.engine.group ≡ None → KeepIdsBut c old.ids w.ids
kept_seen c i old w e stay closed =
    stay_closed c (engine_in old) w
    (subst (λ (x : WholeMachine). x.machine.engine.group ≡ None → x.base_ids ≡ None) e (base_closed i.engine) closed) stay

-- an update ends where no session is open
pub not_open : (e : Engine) (q : List Entry) (r : Rest) (ok : Bool) → takes (machine_of e q r) (act ok) ≡ true
    → r.session ≡ None
unfolding takes
not_open e q r ok t = none r.session (is_updating (state_of e).tree) t
  where
    none : (s : Option Session) (b : Bool) → not (is_some (option_map session_in s)) && b ≡ true → s ≡ None
    none None b h = refl
    none (Some s) b h = absurd (cc)

-- where no group was open, and none is
pub closed_same : (e f : Engine) → (state_of e).group ≡ None → (state_of f).group ≡ None
    → (whole_of f).base_ids ≡ (whole_of e).base_ids
closed_same e f h k = base_closed f k ∙ sym (base_closed e h)
