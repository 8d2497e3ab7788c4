-- Each value that a server holds is what gathering makes of the pieces that it read in one session, put together from
-- the whole run of those of its object.
use Rattle.std.proofs.Common.{None, Some, ◌≡◌, ◌-◌, ◌==◌, ◌&&◌, ◌⊎◌, ℕ, zero, suc, Bool, true, false, cond, not, inl}
use Rattle.std.proofs.Common.{inr}
use Rattle.std.proofs.Common.{List, [], ◌∷◌, ◌++◌, refl, sym, ap, subst, ◌∙◌, arith, get_or, replicate, append_assoc}
use Rattle.std.proofs.lemmas.List.{map-append}
use Rattle.std.specs.Prelude.{Option, Result, Ok, Err, is_some, map}
use Rattle.std.specs.List.{Contains, list_any}
use Rattle.syncml_types.specs.declared.command.ResultsCmd.{ResultsCmd}
use Rattle.syncml_types.specs.declared.values.Item.{Item}
use Rattle.syncml_types.specs.declared.command.Step.{Step}
use Rattle.syncml_types.specs.declared.command.Command.{Command}
use Rattle.syncml_types.specs.declared.command.Command.TheVariants as command
use Rattle.syncml_types.specs.Message.{Parts}
use Rattle.wbxml_tokens.specs.declared.reason.Refusal.{Refusal}
use Rattle.dm_headers.specs.declared.checks.Side.TheVariants.{User}
use Rattle.dm_headers.specs.Checks.{fault_of, is_denied, passes}
use Rattle.dm_headers.specs.Standings.{hears}
use Rattle.dm_objects.specs.declared.object.Object.{Object}
use Rattle.dm_objects.specs.declared.object.Object.TheVariants.{Nothing}
use Rattle.dm_objects.specs.declared.piece.Piece.{Piece}
use Rattle.dm_objects.specs.declared.piece.What.TheVariants.{Whole}
use Rattle.dm_objects.specs.Gathering.{gather}
use Rattle.dm_objects.specs.Laws.{gather_all}
use Rattle.dm_objects.proofs.Together.{wholes_are_put_together}
use Rattle.dm_ends.specs.Commands.{is_abort}
use Rattle.dm_job.specs.Sound.{all_entries}
use Rattle.dm_service.specs.declared.sent.Sent.{Sent}
use Rattle.dm_service.specs.Service.{Told, Session, Service}
use Rattle.dm_service.specs.Matching.{untold, result_piece, Matched, takes_command, matched}
use Rattle.dm_service.specs.Packages.{commands_in}
use Rattle.dm_service.specs.Sending.{sends}
use Rattle.dm_service.specs.Messages.{first_service, first_session, begins, ended, denies, after_status, matched_in}
use Rattle.dm_service.specs.Messages.{with_matched, in_session, answers_message, by_header, accepts}
use Rattle.dm_service.specs.Events.{Arrival, number_of, takes, opens_session, after_in_session, after_number}
use Rattle.dm_service.specs.Events.{after_read, after}
use Rattle.dm_service.specs.History.{next, state_from}
use Rattle.dm_service.specs.Pieces.{still_sent, is_read, pieces_for, pieces_of, pieces_in, pieces_read, pieces_first}
use Rattle.dm_service.specs.Pieces.{pieces_with, pieces_as, pieces_told, pieces_behind}
use Rattle.dm_service.specs.Laws.{sent_in, IsFound, found_at, IsResultRead, ValuesAreRead}
use Rattle.dm_service.proofs.Steps.{either}
use Rattle.dm_service.proofs.Gone.{found}
use Rattle.dm_service.proofs.Codes.{still_within}
use Rattle.dm_service.proofs.Limits.{SameLimits, limit-stays}
use Rattle.dm_service.proofs.Values.{stands-in, gather-all-more, command-left, Kept, status-kept, values_are_found}

-- ---- the object behind a message

body-left : (max : ℕ) (sent : List Sent) (x : Matched) (cs : List Command)
    → (matched max sent x cs).finding.object ≡ gather_all max x.finding.object (pieces_in sent cs)
unfolding matched
body-left max sent x [] = refl
body-left max sent x (c ∷ cs) =
    body-left max sent (takes_command max sent x c) cs
    ∙ ap (λ (o : Object). gather_all max o (pieces_in sent cs)) (command-left max sent x c)
    ∙ sym (gather-all-more max x.finding.object (pieces_of sent c) (pieces_in sent cs))

-- in a session that gathers this object
abbrev Has : Object → Option Session → Type 0
Has object None = ⊥
Has object (Some s) = s.object ≡ object

tells-left : (v : Service) (s : Session) (m : Parts) (b : Bool) → v.session ≡ Some s
    → (in_session (cond b (with_matched v s (matched_in v s m)) v) s).object
    ≡ gather_all v.job.limits.max_obj s.object (cond b (pieces_in s.sent m.body) [])
tells-left v s m true e = body-left v.job.limits.max_obj s.sent _ m.body
tells-left v s m false e = ap (λ (x : Session). x.object) (found v.session s s e)

message-has : (v : Service) (s : Session) (m : Parts) (code : ℕ) (nonce : List ℕ) → v.session ≡ Some s
    → Has (gather_all v.job.limits.max_obj s.object (cond (passes code) (pieces_in s.sent m.body) []))
    (answers_message v s m code nonce).session
unfolding sends
message-has v s m code nonce e = tells-left v s m (passes code) e

denies-has : (v : Service) (s : Session) (m : Parts) (code : ℕ) (nonce : List ℕ)
    → Has s.object (denies v s m code nonce).session
unfolding denies
denies-has v s m code nonce = refl

header-has : (v : Service) (s : Session) (m : Parts) (code : ℕ) (nonce : List ℕ) (abort second : Bool)
    → v.session ≡ Some s
    → Has (gather_all v.job.limits.max_obj s.object
    (cond (not abort && not second && passes code) (pieces_in s.sent m.body) []))
    (cond abort (ended v s) (cond second (denies v s m code nonce) (answers_message v s m code nonce))).session
header-has v s m code nonce true second e = refl
header-has v s m code nonce false true e = denies-has v s m code nonce
header-has v s m code nonce false false e = message-has v s m code nonce e

-- what a session has gathered, with what was sent in it, the limit and the session exchanged for equal ones
kept-has : (max : ℕ) (told : List Told) (object : Object) (sent : List Sent) (w : Service)
    (k : Kept max told object sent w)
    (m : Parts) (read : Bool) (o : Option Session)
    → Has (gather_all w.job.limits.max_obj k.session.object (cond read (pieces_in k.session.sent m.body) [])) o
    → Has (gather_all max object (cond read (pieces_in sent m.body) [])) o
kept-has max told object sent w k m read o h =
    subst (λ (x : Object). Has x o)
    (ap (λ (i : ℕ). gather_all i k.session.object (cond read (pieces_in k.session.sent m.body) [])) k.limit
    ∙ ap (λ (x : Object). gather_all max x (cond read (pieces_in k.session.sent m.body) [])) k.same_object
    ∙ ap (λ (l : List Sent). gather_all max object (cond read (pieces_in l m.body) [])) k.same_sent) h

accepts-has : (v : Service) (s : Session) (m : Parts) (nonce : List ℕ)
    → Has (gather_all v.job.limits.max_obj s.object (pieces_read v s m nonce)) (accepts v s m nonce).session
unfolding accepts
accepts-has v s m nonce =
    let heard = hears User v.job.account s.progress.standing m nonce in
    let t : Session = record s { progress = record s.progress { standing = heard.standing } } in
    let u : Service = record v { job = record v.job { account = heard.account }; session = Some t } in
    let failed = s.progress.standing.we_failed in
    let w = after_status u t failed heard.status in
    let k = status-kept u t (not failed && is_denied heard.status) refl in
    let is_x : in_session w t ≡ k.session = found w.session t k.session k.is_it in
    let abort = not (is_some (fault_of m)) && list_any is_abort m.body in
    kept-has v.job.limits.max_obj v.told s.object (still_sent v s m nonce) w k m (is_read v s m nonce)
    (by_header w (in_session w t) m heard nonce).session
    (subst (λ (y : Session).
    Has (gather_all w.job.limits.max_obj k.session.object
    (cond (is_read v s m nonce) (pieces_in k.session.sent m.body) []))
    (by_header w y m heard nonce).session) (sym is_x)
    (header-has w k.session m heard.code nonce abort heard.second k.is_it))

-- ---- the object of a session

-- the object that the session gathers is the one that these pieces leave
abbrev Gathers : ℕ → List Piece → Option Session → Type 0
Gathers max ps None = Unit {0}
Gathers max ps (Some s) = s.object ≡ gather_all max Nothing ps

has-gathers : (max : ℕ) (ps : List Piece) (o : Option Session) → Has (gather_all max Nothing ps) o → Gathers max ps o
has-gathers max ps None h = tt
has-gathers max ps (Some s) h = h

first-gathers : (max : ℕ) (v : Service) (n : ℕ) (m : Parts) (nonce : List ℕ) → v.job.limits.max_obj ≡ max
    → Gathers max (pieces_first v n m nonce) (opens_session v n m nonce).session
first-gathers max v n m nonce limit =
    has-gathers max (pieces_first v n m nonce) (opens_session v n m nonce).session
    (subst (λ (i : ℕ). Has (gather_all i Nothing (pieces_first v n m nonce)) (opens_session v n m nonce).session) limit
    (accepts-has (begins v n) (first_session v.job.account n) m nonce))

later-gathers : (max : ℕ) (v : Service) (s : Session) (ps : List Piece) (m : Parts) (nonce : List ℕ)
    → v.job.limits.max_obj ≡ max → s.object ≡ gather_all max Nothing ps
    → Gathers max (ps ++ pieces_read v s m nonce) (accepts v s m nonce).session
later-gathers max v s ps m nonce limit h =
    let new = pieces_read v s m nonce in
    has-gathers max (ps ++ new) (accepts v s m nonce).session
    (subst (λ (x : Object). Has x (accepts v s m nonce).session)
    (ap (λ (i : ℕ). gather_all i s.object new) limit ∙ ap (λ (x : Object). gather_all max x new) h
    ∙ sym (gather-all-more max Nothing ps new))
    (accepts-has v s m nonce))

acts-gathers : (max : ℕ) (v : Service) (o : Option Session) (ps : List Piece) (n : ℕ) (m : Parts) (nonce : List ℕ)
    → v.job.limits.max_obj ≡ max → Gathers max ps o
    → Gathers max (pieces_with v o ps n m nonce) (after_in_session v o n m nonce).session
acts-gathers max v None ps n m nonce limit h = first-gathers max v n m nonce limit
acts-gathers max v (Some s) ps n m nonce limit h = by (s.progress.number == n)
  where
    by : (b : Bool)
        → Gathers max (cond b (ps ++ pieces_read v s m nonce) (pieces_first v n m nonce))
        (cond b (accepts v s m nonce) (opens_session v n m nonce)).session
    by true = later-gathers max v s ps m nonce limit h
    by false = first-gathers max v n m nonce limit

-- ---- a state of the machine

record Sound (max : ℕ) (ps : List Piece) (v : Service) : Type 0 where
  limit : v.job.limits.max_obj ≡ max
  gathers : Gathers max ps v.session

acts-limits : (v : Service) (o : Option Session) (n : ℕ) (m : Parts) (nonce : List ℕ)
    → SameLimits v (after_in_session v o n m nonce)
acts-limits v None n m nonce = limit-stays (begins v n) (first_session v.job.account n) m nonce
acts-limits v (Some s) n m nonce =
    either (SameLimits v) (s.progress.number == n) (accepts v s m nonce) (opens_session v n m nonce) (limit-stays v s m nonce)
    (limit-stays (begins v n) (first_session v.job.account n) m nonce)

as-sound : (max : ℕ) (v : Service) (ps : List Piece) (o : Option ℕ) (m : Parts) (nonce : List ℕ) → Sound max ps v
    → Sound max (pieces_as v ps o m nonce) (after_number v o m nonce)
as-sound max v ps None m nonce h = h
as-sound max v ps (Some n) m nonce h = record {
  limit = ap (λ l. l.max_obj) (acts-limits v v.session n m nonce) ∙ h.limit;
  gathers = acts-gathers max v v.session ps n m nonce h.limit h.gathers;
}

read-sound : (max : ℕ) (v : Service) (ps : List Piece) (read : Result Parts Refusal) (nonce : List ℕ) → Sound max ps v
    → Sound max (pieces_told v ps read nonce) (after_read v read nonce)
read-sound max v ps (Ok m) nonce h = as-sound max v ps (number_of m) m nonce h
read-sound max v ps (Err place) nonce h = h

next-sound : (max : ℕ) (v : Service) (ps : List Piece) (e : Arrival) → Sound max ps v
    → Sound max (pieces_behind v ps e) (next v e)
unfolding next after
next-sound max v ps e h = by (takes v e)
  where
    by : (b : Bool) → Sound max (cond b (pieces_told v ps e.read e.nonce) ps) (cond b (after_read v e.read e.nonce) v)
    by true = read-sound max v ps e.read e.nonce h
    by false = h

-- ---- a value in a message

-- in a session, and among the pieces that were read in it with this message
record Reads (max : ℕ) (o : Option Session) (ps : List Piece) (m : Parts) (place : ℕ) (value : Step) : Type 0 where
  results : ResultsCmd
  within : Contains m.body (command.Results results)
  item : Item
  item_within : Contains results.items item
  command : Sent
  was_sent : Contains (sent_in o) command
  msg_ref : results.msg_ref ≡ Some command.msg
  cmd_ref : command.command ≡ results.cmd_ref
  number : command.number - 1 ≡ place
  before : List Piece
  behind : List Piece
  pieces : ps ≡ before ++ result_piece results item ∷ behind
  gathered : (gather max (gather_all max Nothing before) (result_piece results item)).what ≡ Whole value

abbrev Comes : Service → Option Session → List Piece → Parts → ℕ → Step → Type 0
Comes v o ps m place value =
    Contains (found_at v.told place) value ⊎ Reads v.job.limits.max_obj o ps m place value

pieces-apart : (sent : List Sent) (front : List Command) (c : Command) (behind : List Command)
    → pieces_in sent (front ++ c ∷ behind) ≡ pieces_in sent front ++ (pieces_of sent c ++ pieces_in sent behind)
pieces-apart sent [] c behind = refl
pieces-apart sent (x ∷ front) c behind =
    ap (λ (l : List Piece). pieces_of sent x ++ l) (pieces-apart sent front c behind)
    ∙ sym (append_assoc (pieces_of sent x) (pieces_in sent front) (pieces_of sent c ++ pieces_in sent behind))

-- an element among some that stand between others
between : (front early : List Piece) (x : Piece) (late behind : List Piece)
    → front ++ ((early ++ x ∷ late) ++ behind) ≡ (front ++ early) ++ x ∷ (late ++ behind)
between front early x late behind =
    ap (λ (l : List Piece). front ++ l) (append_assoc early (x ∷ late) behind)
    ∙ sym (append_assoc front early (x ∷ (late ++ behind)))

found-pieces : (max : ℕ) (sent : List Sent) (object : Object) (cs : List Command) (place : ℕ) (value : Step)
    (f : IsFound max sent object cs place value)
    → pieces_in sent cs
    ≡ (pieces_in sent f.front ++ map (result_piece f.results) f.earlier) ++ result_piece f.results f.item
    ∷ (map (result_piece f.results) f.later ++ pieces_in sent f.behind)
found-pieces max sent object cs place value f =
    let piece = result_piece f.results in
    ap (pieces_in sent) f.stands ∙ pieces-apart sent f.front (command.Results f.results) f.behind
    ∙ ap (λ (l : List Piece). pieces_in sent f.front ++ (l ++ pieces_in sent f.behind))
    (ap (λ (o : Option Sent). pieces_for o f.results) f.is_for ∙ ap (map piece) f.items_are
    ∙ map-append piece f.earlier (f.item ∷ f.later))
    ∙ between (pieces_in sent f.front) (map piece f.earlier) (piece f.item) (map piece f.later)
    (pieces_in sent f.behind)

found-reads : (v : Service) (s : Session) (m : Parts) (nonce : List ℕ) (ps : List Piece) (place : ℕ) (value : Step)
    → s.object ≡ gather_all v.job.limits.max_obj Nothing ps
    → IsFound v.job.limits.max_obj (still_sent v s m nonce) s.object m.body place value → is_read v s m nonce ≡ true
    → Reads v.job.limits.max_obj (Some s) (ps ++ pieces_read v s m nonce) m place value
found-reads v s m nonce ps place value h f read =
    let max = v.job.limits.max_obj in
    let sent = still_sent v s m nonce in
    let piece = result_piece f.results in
    let early = pieces_in sent f.front ++ map piece f.earlier in
    let late = map piece f.later ++ pieces_in sent f.behind in
    let whole : (gather max (gather_all max Nothing (ps ++ early)) (piece f.item)).what ≡ Whole value =
    ap (λ (x : Object). (gather max x (piece f.item)).what)
    (gather-all-more max Nothing ps early ∙ ap (λ (x : Object). gather_all max x early) (sym h)) ∙ f.whole in
    record {
      results = f.results;
      within = stands-in f.front (command.Results f.results) f.behind m.body f.stands;
      item = f.item;
      item_within = stands-in f.earlier f.item f.later f.results.items f.items_are;
      command = f.command;
      was_sent = still_within v s m nonce f.command f.was_sent;
      msg_ref = f.msg_ref;
      cmd_ref = f.cmd_ref;
      number = f.number;
      before = ps ++ early;
      behind = late;
      pieces = ap (λ (b : Bool). ps ++ cond b (pieces_in sent m.body) []) read
          ∙ ap (λ (l : List Piece). ps ++ l) (found-pieces max sent s.object m.body place value f)
          ∙ sym (append_assoc ps early (piece f.item ∷ late));
      gathered = whole;
    }

accepts-reads : (v : Service) (s : Session) (m : Parts) (nonce : List ℕ) (ps : List Piece) (place : ℕ) (value : Step)
    → s.object ≡ gather_all v.job.limits.max_obj Nothing ps
    → Contains (found_at (accepts v s m nonce).told place) value
    → Comes v (Some s) (ps ++ pieces_read v s m nonce) m place value
accepts-reads v s m nonce ps place value h k = by (values_are_found v s m nonce place value k)
  where
    by : Contains (found_at v.told place) value
        ⊎ (IsFound v.job.limits.max_obj (still_sent v s m nonce) s.object m.body place value
        × (is_read v s m nonce ≡ true))
        → Comes v (Some s) (ps ++ pieces_read v s m nonce) m place value
    by (inl h) = inl h
    by (inr f) = inr (found-reads v s m nonce ps place value h f.0 f.1)

-- nothing was sent before the first message of a session, so no Results are for it
opens-reads : (v : Service) (o : Option Session) (n : ℕ) (m : Parts) (nonce : List ℕ) (place : ℕ) (value : Step)
    → Contains (found_at (opens_session v n m nonce).told place) value → Comes v o (pieces_first v n m nonce) m place value
opens-reads v o n m nonce place value h =
    by (accepts-reads (begins v n) (first_session v.job.account n) m nonce [] place value refl h)
  where
    none : (x : Sent) → Contains [] x → Comes v o (pieces_first v n m nonce) m place value
    none x (k, l, e) = absurd (omega (arith, l))

    by : Comes (begins v n) (Some (first_session v.job.account n)) (pieces_first v n m nonce) m place value
        → Comes v o (pieces_first v n m nonce) m place value
    by (inl h) = inl h
    by (inr r) = none r.command r.was_sent

acts-reads : (max : ℕ) (v : Service) (o : Option Session) (n : ℕ) (m : Parts) (nonce : List ℕ) (ps : List Piece)
    (place : ℕ) (value : Step)
    → v.job.limits.max_obj ≡ max → Gathers max ps o
    → Contains (found_at (after_in_session v o n m nonce).told place) value
    → Comes v o (pieces_with v o ps n m nonce) m place value
acts-reads max v None n m nonce ps place value limit g h = opens-reads v None n m nonce place value h
acts-reads max v (Some s) n m nonce ps place value limit g h = by (s.progress.number == n) h
  where
    by : (b : Bool) → Contains (found_at (cond b (accepts v s m nonce) (opens_session v n m nonce)).told place) value
        → Comes v (Some s) (cond b (ps ++ pieces_read v s m nonce) (pieces_first v n m nonce)) m place value
    by true h =
        accepts-reads v s m nonce ps place value (g ∙ ap (λ (i : ℕ). gather_all i Nothing ps) (sym limit)) h
    by false h = opens-reads v (Some s) n m nonce place value h

-- ---- what comes

-- known before, or in this message
abbrev Tells : Service → List Piece → Result Parts Refusal → List ℕ → ℕ → Step → Type 0
Tells v ps read nonce place value =
    Contains (found_at v.told place) value
    ⊎ ((m : Parts) × (read ≡ Ok m) × Reads v.job.limits.max_obj v.session (pieces_told v ps read nonce) m place value)

as-reads : (max : ℕ) (v : Service) (o : Option ℕ) (m : Parts) (nonce : List ℕ) (ps : List Piece) (place : ℕ)
    (value : Step)
    → Sound max ps v → Contains (found_at (after_number v o m nonce).told place) value
    → Comes v v.session (pieces_as v ps o m nonce) m place value
as-reads max v None m nonce ps place value s h = inl h
as-reads max v (Some n) m nonce ps place value s h =
    acts-reads max v v.session n m nonce ps place value s.limit s.gathers h

read-reads : (max : ℕ) (v : Service) (read : Result Parts Refusal) (nonce : List ℕ) (ps : List Piece) (place : ℕ)
    (value : Step)
    → Sound max ps v → Contains (found_at (after_read v read nonce).told place) value
    → Tells v ps read nonce place value
read-reads max v (Err refusal) nonce ps place value s h = inl h
read-reads max v (Ok m) nonce ps place value s h = by (as-reads max v (number_of m) m nonce ps place value s h)
  where
    by : Comes v v.session (pieces_as v ps (number_of m) m nonce) m place value → Tells v ps (Ok m) nonce place value
    by (inl h) = inl h
    by (inr r) = inr (m, refl, r)

is-read : (max : ℕ) (v : Service) (ps : List Piece) (e : Arrival) (es : List Arrival) (place : ℕ) (value : Step)
    → v.job.limits.max_obj ≡ max → takes v e ≡ true → Tells v ps e.read e.nonce place value
    → Contains (found_at v.told place) value ⊎ IsResultRead max v ps (e ∷ es) place value
is-read max v ps e es place value limit t (inl h) = inl h
is-read max v ps e es place value limit t (inr (m, read, r)) =
    inr (record {
      done = [];
      message = e;
      later = es;
      came = refl;
      parts = m;
      parts_are = read;
      results = r.results;
      within = r.within;
      item = r.item;
      item_within = r.item_within;
      command = r.command;
      was_sent = r.was_sent;
      msg_ref = r.msg_ref;
      cmd_ref = r.cmd_ref;
      number = r.number;
      before = r.before;
      behind = r.behind;
      pieces = ap (λ (b : Bool). cond b (pieces_told v ps e.read e.nonce) ps) t ∙ r.pieces;
      gathered = ap (λ (i : ℕ). (gather i (gather_all i Nothing r.before) (result_piece r.results r.item)).what)
          (sym limit) ∙ r.gathered;
      together = wholes_are_put_together v.job.limits.max_obj r.before (result_piece r.results r.item) value
          r.gathered;
    })

next-reads : (max : ℕ) (v : Service) (ps : List Piece) (e : Arrival) (es : List Arrival) (place : ℕ) (value : Step)
    → Sound max ps v → Contains (found_at (next v e).told place) value
    → Contains (found_at v.told place) value ⊎ IsResultRead max v ps (e ∷ es) place value
unfolding next after
next-reads max v ps e es place value s h = by (takes v e) refl h
  where
    by : (b : Bool) → takes v e ≡ b → Contains (found_at (cond b (after_read v e.read e.nonce) v).told place) value
        → Contains (found_at v.told place) value ⊎ IsResultRead max v ps (e ∷ es) place value
    by true t h = is-read max v ps e es place value s.limit t (read-reads max v e.read e.nonce ps place value s h)
    by false t h = inl h

later-read : (max : ℕ) (v : Service) (ps : List Piece) (e : Arrival) (es : List Arrival) (place : ℕ) (value : Step)
    → IsResultRead max (next v e) (pieces_behind v ps e) es place value → IsResultRead max v ps (e ∷ es) place value
later-read max v ps e es place value r = record {
  done = e ∷ r.done;
  message = r.message;
  later = r.later;
  came = ap (λ (l : List Arrival). e ∷ l) r.came;
  parts = r.parts;
  parts_are = r.parts_are;
  results = r.results;
  within = r.within;
  item = r.item;
  item_within = r.item_within;
  command = r.command;
  was_sent = r.was_sent;
  msg_ref = r.msg_ref;
  cmd_ref = r.cmd_ref;
  number = r.number;
  before = r.before;
  behind = r.behind;
  pieces = r.pieces;
  gathered = r.gathered;
  together = r.together;
}

all-read : (max : ℕ) (v : Service) (ps : List Piece) (es : List Arrival) (place : ℕ) (value : Step) → Sound max ps v
    → Contains (found_at (state_from v es).told place) value
    → Contains (found_at v.told place) value ⊎ IsResultRead max v ps es place value
all-read max v ps [] place value s h = inl h
all-read max v ps (e ∷ es) place value s h =
    by (all-read max (next v e) (pieces_behind v ps e) es place value (next-sound max v ps e s) h)
  where
    by : Contains (found_at (next v e).told place) value ⊎ IsResultRead max (next v e) (pieces_behind v ps e) es place value
        → Contains (found_at v.told place) value ⊎ IsResultRead max v ps (e ∷ es) place value
    by (inl h) = next-reads max v ps e es place value s h
    by (inr r) = inr (later-read max v ps e es place value r)

-- at first nothing was found
untold-at : (n place : ℕ) → get_or (replicate n untold) place untold ≡ untold
untold-at zero place = refl
untold-at (suc n) zero = refl
untold-at (suc n) (suc place) = untold-at n place

pub values_are_read : ValuesAreRead
values_are_read job es place value h =
    by (all-read job.limits.max_obj (first_service job) [] es place value (record { limit = refl; gathers = tt }) h)
  where
    none : Contains [] value → IsResultRead job.limits.max_obj (first_service job) [] es place value
    none (k, l, e) = absurd (omega (arith, l))

    by : Contains (found_at (first_service job).told place) value
        ⊎ IsResultRead job.limits.max_obj (first_service job) [] es place value
        → IsResultRead job.limits.max_obj (first_service job) [] es place value
    by (inl h) =
        none (subst (λ (l : List Step). Contains l value)
        (ap (λ (t : Told). t.found) (untold-at (commands_in (all_entries job.packages)) place)) h)
    by (inr r) = r
