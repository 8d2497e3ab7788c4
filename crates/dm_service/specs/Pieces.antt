-- The pieces of values that a server has read in its session.
use Rattle.std.specs.Prelude.{◌==◌, ◌&&◌, ℕ, Bool, not, if◌then◌else◌, List, [], ◌∷◌, ◌++◌, map, Option, None, Some}
use Rattle.std.specs.Prelude.{is_some}
use Rattle.std.specs.Prelude.{Result, Ok, Err}
use Rattle.std.specs.List.{list_any}
use Rattle.syncml_types.specs.declared.command.ResultsCmd.{ResultsCmd}
use Rattle.syncml_types.specs.declared.command.Command.{Command}
use Rattle.syncml_types.specs.declared.command.Command.TheVariants as command
use Rattle.syncml_types.specs.Message.{Parts}
use Rattle.wbxml_tokens.specs.declared.reason.Refusal.{Refusal}
use Rattle.dm_headers.specs.declared.checks.Side.TheVariants.{User}
use Rattle.dm_headers.specs.Checks.{fault_of, is_denied, passes}
use Rattle.dm_headers.specs.Standings.{hears}
use Rattle.dm_objects.specs.declared.piece.Piece.{Piece}
use Rattle.dm_ends.specs.Commands.{is_abort}
use Rattle.dm_service.specs.declared.sent.Sent.{Sent}
use Rattle.dm_service.specs.Service.{Session, Service}
use Rattle.dm_service.specs.Matching.{results_for, result_piece}
use Rattle.dm_service.specs.Packages.{not_sent}
use Rattle.dm_service.specs.Messages.{first_session, begins}
use Rattle.dm_service.specs.Events.{Arrival, number_of, takes}
use Rattle.dm_service.specs.History.{next}

-- ---- in a message

-- one for each Item of Results that name a command which was sent
abbrev pub pieces_for : Option Sent → ResultsCmd → List Piece
pieces_for None r = []
pieces_for (Some s) r = map (result_piece r) r.items

abbrev pub pieces_of : List Sent → Command → List Piece
pieces_of sent (command.Results r) = pieces_for (results_for sent r) r
pieces_of sent (command.Status c) = []
pieces_of sent (command.Alert a) = []
pieces_of sent (command.Plain c) = []
pieces_of sent (command.Atomic b) = []
pieces_of sent (command.Sequence b) = []

-- those that these commands bring, in document order
abbrev pub pieces_in : List Sent → List Command → List Piece
pieces_in sent [] = []
pieces_in sent (c ∷ cs) = pieces_of sent c ++ pieces_in sent cs

-- the commands of the session that a message may name: the Status for the header may give up those of a package
abbrev pub still_sent : Service → Session → Parts → List ℕ → List Sent
still_sent v s m nonce =
    let h = hears User v.job.account s.progress.standing m nonce in
    if not s.progress.standing.we_failed && is_denied h.status then not_sent v.newest s.sent else s.sent

-- the commands of a message are looked at: it doesn't abort the session, no side failed for the second time, and its
-- header passes the checks
abbrev pub is_read : Service → Session → Parts → List ℕ → Bool
is_read v s m nonce =
    let h = hears User v.job.account s.progress.standing m nonce in
    not (not (is_some (fault_of m)) && list_any is_abort m.body) && not h.second && passes h.code

abbrev pub pieces_read : Service → Session → Parts → List ℕ → List Piece
pieces_read v s m nonce = if is_read v s m nonce then pieces_in (still_sent v s m nonce) m.body else []

-- ---- in a session

abbrev pub pieces_first : Service → ℕ → Parts → List ℕ → List Piece
pieces_first v n m nonce = pieces_read (begins v n) (first_session v.job.account n) m nonce

-- behind those that were read in the session before a message; a session that begins has read none
abbrev pub pieces_with : Service → Option Session → List Piece → ℕ → Parts → List ℕ → List Piece
pieces_with v None ps n m nonce = pieces_first v n m nonce
pieces_with v (Some s) ps n m nonce =
    if s.progress.number == n then ps ++ pieces_read v s m nonce else pieces_first v n m nonce

abbrev pub pieces_as : Service → List Piece → Option ℕ → Parts → List ℕ → List Piece
pieces_as v ps None m nonce = ps
pieces_as v ps (Some n) m nonce = pieces_with v v.session ps n m nonce

abbrev pub pieces_told : Service → List Piece → Result Parts Refusal → List ℕ → List Piece
pieces_told v ps (Ok m) nonce = pieces_as v ps (number_of m) m nonce
pieces_told v ps (Err place) nonce = ps

abbrev pub pieces_behind : Service → List Piece → Arrival → List Piece
pieces_behind v ps e = if takes v e then pieces_told v ps e.read e.nonce else ps

-- the pieces that a server has read in its present session, in order, where it had read these before all that came
abbrev pub pieces_from : Service → List Piece → List Arrival → List Piece
pieces_from v ps [] = ps
pieces_from v ps (e ∷ es) = pieces_from (next v e) (pieces_behind v ps e) es
