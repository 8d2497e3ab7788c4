-- What a message does that is accepted, and what it is answered.
use Rattle.std.specs.Prelude.{◌&&◌, ◌+◌, ℕ, Bool, true, false, not, if◌then◌else◌, List, [], ◌++◌, map, replicate}
use Rattle.std.specs.Prelude.{Option, None, Some, is_some}
use Rattle.std.specs.List.{list_any}
use Rattle.syncml_types.specs.declared.command.Command.{Command}
use Rattle.syncml_types.specs.Message.{Parts}
use Rattle.dm_auth.specs.declared.accounts.Account.{Account}
use Rattle.dm_headers.specs.declared.checks.Side.TheVariants.{User}
use Rattle.dm_headers.specs.Checks.{fault_of, is_denied, passes}
use Rattle.dm_headers.specs.Standings.{Heard, hears}
use Rattle.dm_headers.specs.Headers.{header_answer}
use Rattle.dm_objects.specs.declared.object.Object.TheVariants.{Nothing}
use Rattle.dm_pack.specs.Entries.{whole_entry}
use Rattle.dm_ends.specs.Beginning.{first_standing}
use Rattle.dm_ends.specs.Commands.{is_abort}
use Rattle.dm_ends.specs.Farewells.{farewell}
use Rattle.dm_job.specs.declared.job.Job.{Job}
use Rattle.dm_job.specs.Sound.{all_entries}
use Rattle.dm_service.specs.Service.{Waiting, Session, Service}
use Rattle.dm_service.specs.Matching.{Matched, matched, untold}
use Rattle.dm_service.specs.Packages.{commands_in, gives_up, next_package}
use Rattle.dm_service.specs.Answers.{command_answers}
use Rattle.dm_service.specs.Sending.{header_for, sends}

-- ---- beginning

-- a server that no message has come to yet
abbrev pub first_service : Job → Service
first_service job = record {
  job = job;
  queue = [];
  packages = job.packages;
  newest = [];
  runs_in = None;
  told = replicate (commands_in (all_entries job.packages)) untold;
  alerts = [];
  session = None;
  sent = None;
}

-- ---- another session

-- a client with a name and a password has to show a credential
abbrev pub asks_credential : Account → Bool
asks_credential a = is_some a.user && is_some a.user_password

abbrev pub first_session : Account → ℕ → Session
first_session a number = record {
  progress = record {
    number = number;
    standing = first_standing false (not (asks_credential a));
    answered = false;
    is_over = false;
  };
  object = Nothing;
  sent = [];
}

-- What waits is given up. The job begins in it, unless a command of it was sent in an earlier one.
abbrev pub begins : Service → ℕ → Service
begins v number = record v {
  queue = [];
  packages = if is_some v.runs_in then [] else v.job.packages;
  newest = [];
  session = Some (first_session v.job.account number);
}

-- ---- ends

-- without an answer
abbrev pub ended : Service → Session → Service
ended v s = record v { session = Some (record s { progress = record s.progress { answered = false; is_over = true } }) }

-- with a farewell, since a credential of one side was missing or wrong for the second time
unfoldable pub denies : Service → Session → Parts → ℕ → List ℕ → Service
denies v s m code nonce =
    let p = s.progress in
    record v {
      session = Some (record s {
        progress = record p {
          standing = record p.standing { own = p.standing.own + 1 };
          answered = true;
          is_over = true;
        };
      });
      sent = Some (farewell (header_for v p m) m code nonce);
    }

-- ---- a message

abbrev pub answer_waiting : Command → Waiting
answer_waiting c = record { entry = whole_entry c; carries = None }

-- the first 401 or 407 of a session that the client tells of the server gives up the package that was queued last
abbrev pub after_status : Service → Session → Bool → ℕ → Service
after_status v s failed status = if not failed && is_denied status then gives_up v s else v

-- what it tells of the job's commands, where it passes the checks of its header
abbrev pub matched_in : Service → Session → Parts → Matched
matched_in v s m =
    matched v.job.limits.max_obj s.sent
    (record { finding = record { object = s.object; told = v.told }; alerts = v.alerts }) m.body

abbrev pub with_matched : Service → Session → Matched → Service
with_matched v s x = record v {
  told = x.finding.told;
  alerts = x.alerts;
  session = Some (record s { object = x.finding.object });
}

abbrev pub tells : Service → Session → Parts → ℕ → Service
tells v s m code = if passes code then with_matched v s (matched_in v s m) else v

-- the header's Status goes before what waits, and the answers to the commands behind it
abbrev pub queues_answers : Service → Parts → ℕ → List ℕ → Service
queues_answers v m code nonce = record v {
  queue = map answer_waiting (header_answer m.header code nonce) ++ v.queue
      ++ map answer_waiting (if passes code then command_answers m else []);
}

-- the present session of a machine that has one
abbrev pub session_or : Option Session → Session → Session
session_or None s = s
session_or (Some t) s = t

abbrev pub in_session : Service → Session → Session
in_session v s = session_or v.session s

-- what is told is noted, what is asked is answered, the next package is queued, and a message is sent
abbrev pub answers_message : Service → Session → Parts → ℕ → List ℕ → Service
answers_message v s m code nonce =
    let told = tells v s m code in
    let t = in_session told s in
    sends (next_package (queues_answers told m code nonce) t.progress.standing) t m code

abbrev pub by_header : Service → Session → Parts → Heard → List ℕ → Service
by_header v s m h nonce =
    if not (is_some (fault_of m)) && list_any is_abort m.body then ended v s
    else if h.second then denies v s m h.code nonce
    else answers_message v s m h.code nonce

-- a message of the session, whose account and standing become what its header comes to
unfoldable pub accepts : Service → Session → Parts → List ℕ → Service
accepts v s m nonce =
    let h = hears User v.job.account s.progress.standing m nonce in
    let t = record s { progress = record s.progress { standing = h.standing } } in
    let heard = record v { job = record v.job { account = h.account }; session = Some t } in
    let w = after_status heard t s.progress.standing.we_failed h.status in
    by_header w (in_session w t) m h nonce
