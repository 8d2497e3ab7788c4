-- What a client's fields stand for.
use Rattle.std.specs.Prelude.{◌≡◌, List, None, option_map, IfSome}
use Rattle.syncml_types.specs.Message.{Parts}
use Rattle.syncml_types.specs.Canonical.{canonical}
use Rattle.dm_pack.specs.Entries.{Entry}
use Rattle.dm_atomic.specs.declared.engine.Engine.{Engine}
use Rattle.dm_atomic.specs.Engine.{state_of, IsSoundEngine}
use Rattle.dm_atomic.specs.Marks.{whole_of, past_of, no_past, LeavesNone}
use Rattle.dm_atomic.specs.Updates.{clock_of, max_obj_of, TellsStarted}
use Rattle.dm_ends.specs.declared.farewells.LastMessage.{LastMessage}
use Rattle.dm_machine.specs.Machine.{Machine, Session}
use Rattle.dm_machine.specs.Ready.{IsReadyMachine}
use Rattle.dm_session.specs.declared.rest.Session.{Session as Held}
use Rattle.dm_session.specs.declared.rest.Rest.{Rest}
use Rattle.dm_session.specs.declared.client.Client.TheInside.{Inside}
use Rattle.dm_session.specs.View.{WholeMachine}

abbrev pub session_in : Held → Session
session_in s = record { progress = s.progress; sent = s.sent.message }

abbrev pub message_in : LastMessage → Parts
message_in s = s.message

-- the machine of an engine, a queue and the rest
abbrev pub machine_of : Engine → List Entry → Rest → Machine
machine_of e q r = record {
  limits = r.limits;
  clock = clock_of e;
  engine = state_of e;
  queue = q;
  accounts = r.accounts;
  session = option_map session_in r.session;
  begun = r.begun;
  results = r.results;
  resp_uri = r.resp_uri;
  farewell = option_map message_in r.farewell;
}

abbrev pub whole_client : Inside → WholeMachine
whole_client c = record {
  machine = machine_of c.engine c.queue c.rest;
  ids = (whole_of c.engine).ids;
  base_ids = (whole_of c.engine).base_ids;
}

-- the bytes that are kept beside a message spell it
abbrev pub IsSpelled : LastMessage → Type 0
IsSpelled s = s.bytes ≡ canonical s.message

-- what holds of a machine whose engine can go on
pub record CanWorkOn (e : Engine) (q : List Entry) (r : Rest) : Type 0 where
  pub engine : IsSoundEngine e
  pub max_obj : max_obj_of e ≡ r.limits.max_obj
  pub ready : IsReadyMachine (machine_of e q r)

pub record IsConsistent (c : Inside) : Type 0 where
  pub goes_on : CanWorkOn c.engine c.queue c.rest
  pub sent : IfSome c.rest.session (λ (s : Held). IsSpelled s.sent)
  pub farewell : IfSome c.rest.farewell IsSpelled
  -- nothing is known of what stood before, so nothing piles up
  pub settled : past_of c.engine ≡ no_past
  -- no subtree is left over that nothing would ever free
  pub none_left : LeavesNone c.engine
  -- what was started is what the tree tells
  pub told : TellsStarted (state_of c.engine)
  -- a group is open only while a session is
  pub closed : c.rest.session ≡ None → (state_of c.engine).group ≡ None
