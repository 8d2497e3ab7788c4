-- Each value that a server holds came whole by Results for what it sent in that session.
use Rattle.std.proofs.Common.{None, Some, ◌≡◌, ◌+◌, ◌-◌, ◌&&◌, ◌⊎◌, ℕ, zero, suc, Bool, true, false, cond, not}
use Rattle.std.proofs.Common.{inl, inr, List, [], ◌∷◌, ◌++◌, refl, sym, ap, subst, ◌∙◌, arith, get_or, append_assoc}
use Rattle.std.specs.Prelude.{Option, is_some, set, option_and_then}
use Rattle.std.specs.Prelude.{map}
use Rattle.std.specs.List.{Contains, list_any}
use Rattle.syncml_types.specs.declared.command.ResultsCmd.{ResultsCmd}
use Rattle.syncml_types.specs.declared.values.Item.{Item}
use Rattle.syncml_types.specs.declared.command.Step.{Step}
use Rattle.syncml_types.specs.declared.command.Command.{Command}
use Rattle.syncml_types.specs.declared.command.Command.TheVariants as command
use Rattle.syncml_types.specs.Message.{Parts}
use Rattle.dm_headers.specs.declared.checks.Side.TheVariants.{User}
use Rattle.dm_headers.specs.Checks.{fault_of, is_denied, passes}
use Rattle.dm_headers.specs.Standings.{hears}
use Rattle.dm_objects.specs.declared.object.Object.{Object}
use Rattle.dm_objects.specs.declared.piece.Piece.{Piece}
use Rattle.dm_objects.specs.declared.piece.What.{What}
use Rattle.dm_objects.specs.declared.piece.What.TheVariants.{Whole, Buffered, Refused}
use Rattle.dm_objects.specs.Gathering.{gather}
use Rattle.dm_objects.specs.Laws.{gather_all}
use Rattle.dm_ends.specs.Commands.{is_abort}
use Rattle.dm_job.specs.declared.job.JobEntry.{JobEntry}
use Rattle.dm_service.specs.declared.sent.Sent.{Sent}
use Rattle.dm_service.specs.Service.{Told, Session, Service}
use Rattle.dm_service.specs.Matching.{find_sent, results_for, untold, told_at, with_code, coded, result_piece, Finding}
use Rattle.dm_service.specs.Matching.{found_in}
use Rattle.dm_service.specs.Matching.{takes_item, takes_items, takes_found, Matched, takes_command, matched}
use Rattle.dm_service.specs.Packages.{holds_number, not_sent, forgotten, gives_up}
use Rattle.dm_service.specs.Messages.{ended, denies, after_status, matched_in, with_matched, in_session}
use Rattle.dm_service.specs.Messages.{answers_message}
use Rattle.dm_service.specs.Messages.{by_header, accepts}
use Rattle.dm_service.specs.Pieces.{still_sent, is_read, pieces_for, pieces_of, pieces_in}
use Rattle.dm_service.specs.Laws.{IsFound, found_at, ValuesAreFound}
use Rattle.dm_service.proofs.Gone.{found}
use Rattle.dm_service.proofs.Codes.{first_in, later_in, find_named, denies_told, message_told}

-- ---- elements

-- one more
last-or : {A : Type 0} (xs : List A) (y x : A) → Contains (xs ++ y ∷ []) x → Contains xs x ⊎ (y ≡ x)
last-or [] y x (zero, l, e) = inr e
last-or [] y x (suc k, l, e) = absurd (omega (arith, l))
last-or (z ∷ xs) y x (zero, l, e) = inl (zero, omega arith, e)
last-or (z ∷ xs) y x (suc k, l, e) = up (last-or xs y x (k, omega (arith, l), e))
  where
    up : Contains xs x ⊎ (y ≡ x) → Contains (z ∷ xs) x ⊎ (y ≡ x)
    up (inl h) = inl (later_in x z xs h)
    up (inr h) = inr h

-- what stands between others is among them
middle : {A : Type 0} (front : List A) (x : A) (behind : List A) → Contains (front ++ x ∷ behind) x
middle [] x behind = first_in x behind
middle (y ∷ ys) x behind = later_in x y (ys ++ x ∷ behind) (middle ys x behind)

pub stands-in : {A : Type 0} (front : List A) (x : A) (behind xs : List A) → xs ≡ front ++ x ∷ behind → Contains xs x
stands-in front x behind xs e = subst (λ l. Contains l x) (sym e) (middle front x behind)

-- what is put at a place is there
set-found : (told : List Told) (k : ℕ) (t : Told) (place : ℕ) (value : Step)
    → Contains (found_at (set told k t) place) value
    → Contains (found_at told place) value ⊎ ((place ≡ k) × Contains t.found value)
set-found [] k t place value h = inl h
set-found (x ∷ xs) zero t zero value h = inr (refl, h)
set-found (x ∷ xs) zero t (suc place) value h = inl h
set-found (x ∷ xs) (suc k) t zero value h = inl h
set-found (x ∷ xs) (suc k) t (suc place) value h = up (set-found xs k t place value h)
  where
    up : Contains (found_at xs place) value ⊎ ((place ≡ k) × Contains t.found value)
        → Contains (found_at xs place) value ⊎ ((suc place ≡ suc k) × Contains t.found value)
    up (inl h) = inl h
    up (inr h) = inr (ap suc h.0, h.1)

-- the same as before at that place
at-place : (told : List Told) (k place : ℕ) (value : Step)
    → Contains (found_at told place) value ⊎ ((place ≡ k) × Contains (get_or told k untold).found value)
    → Contains (found_at told place) value
at-place told k place value (inl h) = h
at-place told k place value (inr h) = subst (λ j. Contains (found_at told j) value) (sym h.0) h.1

-- ---- a Status finds no value

code-found : (told : List Told) (number code place : ℕ) (value : Step)
    → Contains (found_at (with_code told number code) place) value → Contains (found_at told place) value
code-found told number code place value h =
    at-place told (number - 1) place value
    (set-found told (number - 1) (record (told_at told number) { code = Some code }) place value h)

coded-found : (told : List Told) (o : Option Sent) (code place : ℕ) (value : Step)
    → Contains (found_at (coded told o code) place) value → Contains (found_at told place) value
coded-found told None code place value h = h
coded-found told (Some s) code place value h = by s.counts h
  where
    by : (b : Bool) → Contains (found_at (cond b (with_code told s.number code) told) place) value
        → Contains (found_at told place) value
    by true h = code-found told s.number code place value h
    by false h = h

-- ---- pieces

-- behind some pieces come others
pub gather-all-more : (max : ℕ) (object : Object) (ps qs : List Piece)
    → gather_all max object (ps ++ qs) ≡ gather_all max (gather_all max object ps) qs
gather-all-more max object [] qs = refl
gather-all-more max object (p ∷ ps) qs = gather-all-more max (gather max object p).object ps qs

-- ---- Results

-- known before, or found by an Item of these Results behind those in front of it
abbrev FromItem : ℕ → ResultsCmd → Object → List Item → ℕ → List Told → ℕ → Step → Type 0
FromItem max r object items number told place value =
    Contains (found_at told place) value
    ⊎ ((earlier : List Item) × (item : Item) × (later : List Item) × (items ≡ earlier ++ item ∷ later)
    × ((gather max (gather_all max object (map (result_piece r) earlier)) (result_piece r item)).what ≡ Whole value)
    × (number - 1 ≡ place))

item-found : (max number : ℕ) (r : ResultsCmd) (x : Finding) (i : Item) (is : List Item) (w : What) (place : ℕ)
    (value : Step)
    → (gather max x.object (result_piece r i)).what ≡ w → Contains (found_at (found_in x.told number w) place) value
    → FromItem max r x.object (i ∷ is) number x.told place value
item-found max number r x i is Buffered place value e h = inl h
item-found max number r x i is (Refused c) place value e h = inl h
item-found max number r x i is (Whole step) place value e h =
    put (set-found x.told (number - 1)
    (record (told_at x.told number) { found = (told_at x.told number).found ++ step ∷ [] }) place value h)
  where
    new : place ≡ number - 1 → Contains (told_at x.told number).found value ⊎ (step ≡ value)
        → FromItem max r x.object (i ∷ is) number x.told place value
    new p (inl h) = inl (subst (λ j. Contains (found_at x.told j) value) (sym p) h)
    new p (inr h) = inr ([], i, is, refl, e ∙ ap Whole h, sym p)

    put : Contains (found_at x.told place) value
        ⊎ ((place ≡ number - 1) × Contains ((told_at x.told number).found ++ step ∷ []) value)
        → FromItem max r x.object (i ∷ is) number x.told place value
    put (inl h) = inl h
    put (inr h) = new h.0 (last-or (told_at x.told number).found step value h.1)

items-found : (max number : ℕ) (r : ResultsCmd) (x : Finding) (items : List Item) (place : ℕ) (value : Step)
    → Contains (found_at (takes_items max number r x items).told place) value
    → FromItem max r x.object items number x.told place value
items-found max number r x [] place value h = inl h
items-found max number r x (i ∷ is) place value h =
    up (items-found max number r (takes_item max number r x i) is place value h)
  where
    up : FromItem max r (takes_item max number r x i).object is number (takes_item max number r x i).told place value
        → FromItem max r x.object (i ∷ is) number x.told place value
    up (inl h) =
        item-found max number r x i is (gather max x.object (result_piece r i)).what place value refl h
    up (inr (earlier, item, later, items, whole, number)) =
        inr (i ∷ earlier, item, later, ap (λ (l : List Item). i ∷ l) items, whole, number)

-- what Items leave of the object
items-left : (max number : ℕ) (r : ResultsCmd) (x : Finding) (items : List Item)
    → (takes_items max number r x items).object ≡ gather_all max x.object (map (result_piece r) items)
items-left max number r x [] = refl
items-left max number r x (i ∷ is) = items-left max number r (takes_item max number r x i) is

-- known before, or found by Results among these commands
abbrev From : ℕ → List Sent → Object → List Command → List Told → ℕ → Step → Type 0
From max sent before cs told place value =
    Contains (found_at told place) value ⊎ IsFound max sent before cs place value

is-found : (max : ℕ) (sent : List Sent) (r : ResultsCmd) (before : Object) (cs : List Command) (told : List Told)
    (s : Sent) (place : ℕ)
    (value : Step) → results_for sent r ≡ Some s → Contains sent s → r.msg_ref ≡ Some s.msg → s.command ≡ r.cmd_ref
    → FromItem max r before r.items s.number told place value
    → From max sent before (command.Results r ∷ cs) told place value
is-found max sent r before cs told s place value is within msg ref (inl h) = inl h
is-found max sent r before cs told s place value is within msg ref
    (inr (earlier, item, later, items, whole, number)) =
    inr (record {
      front = [];
      results = r;
      behind = cs;
      stands = refl;
      earlier = earlier;
      item = item;
      later = later;
      items_are = items;
      whole = whole;
      command = s;
      is_for = is;
      was_sent = within;
      msg_ref = msg;
      cmd_ref = ref;
      number = number;
    })

ref-found : (max : ℕ) (sent : List Sent) (r : ResultsCmd) (cs : List Command) (x : Finding) (ref : Option ℕ)
    (o : Option Sent)
    (place : ℕ) (value : Step) → r.msg_ref ≡ ref → option_and_then (λ msg. find_sent msg r.cmd_ref sent) ref ≡ o
    → Contains (found_at (takes_found max o r x).told place) value
    → From max sent x.object (command.Results r ∷ cs) x.told place value
ref-found max sent r cs x ref None place value e f h = inl h
ref-found max sent r cs x None (Some s) place value e f h = absurd (cc)
ref-found max sent r cs x (Some msg) (Some s) place value e f h =
    let named = find_named msg r.cmd_ref sent s f in
    is-found max sent r x.object cs x.told s place value
    (ap (option_and_then (λ (n : ℕ). find_sent n r.cmd_ref sent)) e ∙ f) named.within
    (e ∙ ap Some (sym named.msg_is)) named.command_is
    (items-found max s.number r x r.items place value h)

-- ---- a whole message

-- what a command leaves of the object
found-left : (max : ℕ) (o : Option Sent) (r : ResultsCmd) (x : Finding)
    → (takes_found max o r x).object ≡ gather_all max x.object (pieces_for o r)
found-left max None r x = refl
found-left max (Some s) r x = items-left max s.number r x r.items

pub command-left : (max : ℕ) (sent : List Sent) (x : Matched) (c : Command)
    → (takes_command max sent x c).finding.object ≡ gather_all max x.finding.object (pieces_of sent c)
command-left max sent x (command.Status c) = refl
command-left max sent x (command.Results r) = found-left max (results_for sent r) r x.finding
command-left max sent x (command.Alert a) = refl
command-left max sent x (command.Plain c) = refl
command-left max sent x (command.Atomic b) = refl
command-left max sent x (command.Sequence b) = refl

command-found : (max : ℕ) (sent : List Sent) (x : Matched) (c : Command) (cs : List Command) (place : ℕ) (value : Step)
    → Contains (found_at (takes_command max sent x c).finding.told place) value
    → From max sent x.finding.object (c ∷ cs) x.finding.told place value
command-found max sent x (command.Status c) cs place value h =
    inl (coded-found x.finding.told (find_sent c.msg_ref c.cmd_ref sent) c.code place value h)
command-found max sent x (command.Results r) cs place value h =
    ref-found max sent r cs x.finding r.msg_ref _ place value refl refl h
command-found max sent x (command.Alert a) cs place value h = inl h
command-found max sent x (command.Plain c) cs place value h = inl h
command-found max sent x (command.Atomic b) cs place value h = inl h
command-found max sent x (command.Sequence b) cs place value h = inl h

found-later : (max : ℕ) (sent : List Sent) (before after : Object) (c : Command) (cs : List Command) (place : ℕ)
    (value : Step)
    → after ≡ gather_all max before (pieces_of sent c) → IsFound max sent after cs place value
    → IsFound max sent before (c ∷ cs) place value
found-later max sent before after c cs place value left h =
    let first = pieces_of sent c in
    let front = pieces_in sent h.front in
    let items = map (result_piece h.results) h.earlier in
    record {
      front = c ∷ h.front;
      results = h.results;
      behind = h.behind;
      stands = ap (λ (l : List Command). c ∷ l) h.stands;
      earlier = h.earlier;
      item = h.item;
      later = h.later;
      items_are = h.items_are;
      whole = subst (λ (o : Object). (gather max o (result_piece h.results h.item)).what ≡ Whole value)
          (ap (λ (o : Object). gather_all max o (front ++ items)) left
          ∙ sym (gather-all-more max before first (front ++ items))
          ∙ ap (gather_all max before) (sym (append_assoc first front items)))
          h.whole;
      command = h.command;
      is_for = h.is_for;
      was_sent = h.was_sent;
      msg_ref = h.msg_ref;
      cmd_ref = h.cmd_ref;
      number = h.number;
    }

body-step : (max : ℕ) (sent : List Sent) (x : Matched) (c : Command) (cs : List Command) (place : ℕ) (value : Step)
    → From max sent (takes_command max sent x c).finding.object cs (takes_command max sent x c).finding.told place value
    → From max sent x.finding.object (c ∷ cs) x.finding.told place value
body-step max sent x c cs place value (inl h) = command-found max sent x c cs place value h
body-step max sent x c cs place value (inr h) =
    inr (found-later max sent x.finding.object (takes_command max sent x c).finding.object c cs place value
    (command-left max sent x c) h)

body-found : (max : ℕ) (sent : List Sent) (x : Matched) (cs : List Command) (place : ℕ) (value : Step)
    → Contains (found_at (matched max sent x cs).finding.told place) value
    → From max sent x.finding.object cs x.finding.told place value
unfolding matched
body-found max sent x [] place value h = inl h
body-found max sent x (c ∷ cs) place value h =
    body-step max sent x c cs place value (body-found max sent (takes_command max sent x c) cs place value h)

-- ---- the machine

-- known before, or found by a message that is read
abbrev Comes : ℕ → List Sent → Object → Parts → Bool → List Told → ℕ → Step → Type 0
Comes max sent object m read told place value =
    Contains (found_at told place) value ⊎ (IsFound max sent object m.body place value × (read ≡ true))

passed : (max : ℕ) (sent : List Sent) (object : Object) (m : Parts) (read : Bool) (told : List Told) (place : ℕ)
    (value : Step)
    → read ≡ true → From max sent object m.body told place value
    → Comes max sent object m read told place value
passed max sent object m read told place value p (inl h) = inl h
passed max sent object m read told place value p (inr h) = inr (h, p)

tells-found : (v : Service) (s : Session) (m : Parts) (b : Bool) (place : ℕ) (value : Step)
    → Contains (found_at (cond b (with_matched v s (matched_in v s m)) v).told place) value
    → Comes v.job.limits.max_obj s.sent s.object m b v.told place value
tells-found v s m true place value h =
    passed v.job.limits.max_obj s.sent s.object m true v.told place value refl
    (body-found v.job.limits.max_obj s.sent _ m.body place value h)
tells-found v s m false place value h = inl h

header-by : (v : Service) (s : Session) (m : Parts) (code : ℕ) (nonce : List ℕ) (place : ℕ) (value : Step)
    (abort second : Bool)
    → Contains
    (found_at (cond abort (ended v s) (cond second (denies v s m code nonce) (answers_message v s m code nonce))).told
    place) value
    → Comes v.job.limits.max_obj s.sent s.object m (not abort && not second && passes code) v.told place value
header-by v s m code nonce place value true second h = inl h
header-by v s m code nonce place value false true h =
    inl (subst (λ t. Contains (found_at t place) value) (denies_told v s m code nonce) h)
header-by v s m code nonce place value false false h =
    tells-found v s m (passes code) place value
    (subst (λ t. Contains (found_at t place) value) (message_told v s m code nonce) h)

-- ---- a package that is given up

forgotten-found : (given : List JobEntry) (n : ℕ) (told : List Told) (place : ℕ) (value : Step)
    → Contains (found_at (forgotten given n told) place) value → Contains (found_at told place) value
forgotten-found given n [] place value h = h
forgotten-found given n (t ∷ ts) zero value h = here (holds_number given n) h
  where
    here : (b : Bool) → Contains (cond b untold t).found value → Contains t.found value
    here true (k, l, e) = absurd (omega (arith, l))
    here false h = h
forgotten-found given n (t ∷ ts) (suc place) value h = forgotten-found given (n + 1) ts place value h

-- a machine in its session, of which no more was found, which has these sent and gathers the same object
pub record Kept (max : ℕ) (told : List Told) (object : Object) (sent : List Sent) (w : Service) : Type 0 where
  pub session : Session
  pub is_it : w.session ≡ Some session
  pub limit : w.job.limits.max_obj ≡ max
  pub same_sent : session.sent ≡ sent
  pub same_object : session.object ≡ object
  pub was_found : (place : ℕ) (value : Step) → Contains (found_at w.told place) value → Contains (found_at told place)
      value

gives-kept : (v : Service) (s : Session)
    → Kept v.job.limits.max_obj v.told s.object (not_sent v.newest s.sent) (gives_up v s)
unfolding gives_up
gives-kept v s = record {
  session = _;
  is_it = refl;
  limit = refl;
  same_sent = refl;
  same_object = refl;
  was_found = λ place value h. forgotten-found v.newest 1 v.told place value h;
}

pub status-kept : (v : Service) (s : Session) (b : Bool) → v.session ≡ Some s
    → Kept v.job.limits.max_obj v.told s.object (cond b (not_sent v.newest s.sent) s.sent) (cond b (gives_up v s) v)
status-kept v s true e = gives-kept v s
status-kept v s false e = record {
  session = s;
  is_it = e;
  limit = refl;
  same_sent = refl;
  same_object = refl;
  was_found = λ place value h. h;
}

comes-kept : (max : ℕ) (told : List Told) (object : Object) (sent : List Sent) (w : Service) (m : Parts)
    (read : Bool) (place : ℕ) (value : Step) (k : Kept max told object sent w)
    → Comes max k.session.sent k.session.object m read w.told place value
    → Comes max sent object m read told place value
comes-kept max told object sent w m read place value k (inl h) = inl (k.was_found place value h)
comes-kept max told object sent w m read place value k (inr h) =
    inr (
      subst (λ (o : Object). IsFound max sent o m.body place value) k.same_object
          (subst (λ (l : List Sent). IsFound max l k.session.object m.body place value) k.same_sent h.0),
      h.1,
    )

pub values_are_found : ValuesAreFound
unfolding accepts
values_are_found v s m nonce place value h =
    let heard = hears User v.job.account s.progress.standing m nonce in
    let t : Session = record s { progress = record s.progress { standing = heard.standing } } in
    let u : Service = record v { job = record v.job { account = heard.account }; session = Some t } in
    let failed = s.progress.standing.we_failed in
    let w = after_status u t failed heard.status in
    let k = status-kept u t (not failed && is_denied heard.status) refl in
    let is_x : in_session w t ≡ k.session = found w.session t k.session k.is_it in
    let abort = not (is_some (fault_of m)) && list_any is_abort m.body in
    comes-kept v.job.limits.max_obj v.told s.object (still_sent v s m nonce) w m (is_read v s m nonce) place value k
    (subst (λ max. Comes max k.session.sent k.session.object m (is_read v s m nonce) w.told place value) k.limit
    (header-by w k.session m heard.code nonce place value abort heard.second
    (subst (λ y. Contains (found_at (by_header w y m heard nonce).told place) value) is_x h)))
