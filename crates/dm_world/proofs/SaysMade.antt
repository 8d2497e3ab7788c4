-- Each Status that the client sends for a command was made by it in the session of its message.
use Rattle.std.proofs.Common.{zero, suc, ◌≡◌, ◌<◌, ◌&&◌, ◌^◌, ℕ, Bool, true, false, cond, not, List, [], ◌∷◌, ◌++◌}
use Rattle.std.proofs.Common.{map, Option, None, Some, IfSome, refl, sym, ◌∙◌, ap, subst, arith}
use Rattle.std.proofs.Common.{◌⊎◌, inl, inr, nat_lt, take, drop, append_assoc}
use Rattle.std.specs.Prelude.{option_and_then}
use Rattle.std.proofs.lemmas.List.{append-nil, take-append-drop}
use Rattle.std.specs.Prelude.{Ok, slice_get}
use Rattle.std.specs.Option.{option_or}
use Rattle.std.specs.Fmt.{decimal}
use Rattle.std.specs.List.{Contains, list_any}
use Rattle.std.proofs.lemmas.List.Elements.{Contains-append_left, Contains-append_right}
use Rattle.syncml_types.specs.declared.values.Header.{Header}
use Rattle.syncml_types.specs.declared.command.StatusCmd.{StatusCmd}
use Rattle.syncml_types.specs.declared.command.Command.{Command}
use Rattle.syncml_types.specs.declared.command.Command.TheVariants as command
use Rattle.syncml_types.specs.declared.values.Meta.{Meta}
use Rattle.syncml_types.specs.declared.values.Item.{Item}
use Rattle.syncml_parts.specs.Packing.{bytes_in, only_changed}
use Rattle.syncml_types.specs.Message.{Parts}
use Rattle.syncml_parts.specs.Numbering.{with_numbers}
use Rattle.dm_tree.specs.declared.nodes.Stamp.{Stamp}
use Rattle.dm_tree.specs.Nodes.{Nodes}
use Rattle.dm_auth.specs.declared.accounts.Account.{Account}
use Rattle.dm_headers.specs.declared.checks.Side.TheVariants.{Server}
use Rattle.dm_headers.specs.Checks.{is_denied, passes}
use Rattle.dm_headers.specs.Standings.{Heard, hears}
use Rattle.dm_headers.specs.Headers.{is_withheld as header_withheld, header_answer, next_header}
use Rattle.dm_commands.specs.declared.outcome.Found.{Found}
use Rattle.dm_atomic.specs.Made.{Made, Status, Result, Broken, told, source_item, found_meta}
use Rattle.dm_atomic.specs.Run.{Next, quietly}
use Rattle.dm_pack.specs.Entries.{Entry, whole_entry, part_of, rest_of, part_item, rest_item, with_size}
use Rattle.dm_base.specs.Fields.{num_of}
use Rattle.dm_ends.specs.Commands.{alert, session_of}
use Rattle.dm_job.specs.declared.job.Job.{Job}
use Rattle.dm_machine.specs.declared.kinds.Initiator.{Initiator}
use Rattle.dm_machine.specs.declared.kinds.End.TheVariants.{Finished, Aborted}
use Rattle.dm_machine.specs.declared.progress.Progress.{Progress}
use Rattle.dm_machine.specs.declared.progress.UpdateResult.{UpdateResult}
use Rattle.dm_machine.specs.Machine.{Session, Machine}
use Rattle.dm_machine.specs.Opening.{result_alert, update_uri, device_told, opening, first_package}
use Rattle.dm_machine.specs.Sending.{header_from, sends}
use Rattle.dm_machine.specs.Messages.{Outcome, goes_on, ends, begins, Waits, waits_after, queued_again, is_over}
use Rattle.dm_machine.specs.Messages.{account_at, closed, finished, first_progress, denied, run_of, answered, by_header}
use Rattle.dm_machine.specs.Messages.{execute, is_last_own, is_abort, accepts, ends_update}
use Rattle.dm_machine.specs.Statuses.{executed}
use Rattle.dm_machine.specs.Events as client
use Rattle.dm_machine.specs.History as client_runs
use Rattle.dm_machine.proofs.StaysReady.{heard_by as machine_heard}
use Rattle.dm_machine.proofs.StaysWaiting.{answering, behind_answer, beginning}
use Rattle.dm_service.proofs.Codes.{first_in, later_in}
use Rattle.dm_world.specs.World.{InSession, World, Reply, Happening, opens, up_comes, down_comes, update_ends}
use Rattle.dm_world.specs.World.{clock_moves, is_lost, finds_no_memory, said, each_in_session, heard_by, made_in}
use Rattle.dm_world.specs.World.{made_by}
use Rattle.dm_world.specs.World.{client_has, down_delivered, up_delivered, happens, run}
use Rattle.dm_world.specs.Start.{at_start, IsWorldStart, IsSchedule}
use Rattle.dm_world.specs.Commands.{WasMade, IsPartOf, WasFound, SaysTheMade, SaysTheFound}
use Rattle.dm_world.proofs.Lists.{either, either_is, both-ways, Each, each-map, each-append, each-within, each-new}
use Rattle.dm_world.proofs.Lists.{picked}
use Rattle.dm_world.proofs.Numbers.{num-decimal, lt-of}
use Rattle.dm_world.proofs.Client.{Sends, sends-sends, OpenAs, waits-hear}
use Rattle.dm_world.proofs.Calm.{Kept, OfEntry, numbered-each, fill-each, again-each}
use Rattle.dm_world.proofs.Lockstep.{ClientOk}
use Rattle.dm_world.proofs.Happens.{refusal-said, loss-said, Sound, InRange, happens-sound, start-sound, schedule-range}

-- ---- elements

pub contains-map : {A B : Type 0} (f : A → B) (xs : List A) (x : A) → Contains xs x → Contains (map f xs) (f x)
contains-map f [] x (k, low, at) = absurd (omega (arith, low))
contains-map f (y ∷ ys) x (zero, low, at) = (zero, omega arith, ap f at)
contains-map f (y ∷ ys) x (suc k, low, at) =
    later_in (f x) (f y) (map f ys) (contains-map f ys x (k, omega (arith, low), at))

pub each-contains : {A : Type 0} (P : A → Type 0) (xs : List A) (x : A) → Each P xs → Contains xs x → P x
each-contains P [] x h (k, low, at) = absurd (omega (arith, low))
each-contains P (y ∷ ys) x h (zero, low, at) = subst P at h.0
each-contains P (y ∷ ys) x h (suc k, low, at) = each-contains P ys x h.1 (k, omega (arith, low), at)

-- ---- a command that says only what was made

abbrev pub Tells : List (InSession Made) → ℕ → Command → Type 0
Tells made n (command.Status s) = (s.cmd_ref ≡ 0) ⊎ WasMade made n s.msg_ref s.cmd_ref s.code
Tells made n (command.Plain p) = Unit {0}
Tells made n (command.Alert a) = Unit {0}
Tells made n (command.Atomic b) = Unit {0}
Tells made n (command.Sequence b) = Unit {0}
Tells made n (command.Results r) = WasFound made n r.msg_ref r.cmd_ref r.items

tells-numbers : (made : List (InSession Made)) (k n : ℕ) (c : Command) → Tells made k c
    → Tells made k (with_numbers n c)
unfolding with_numbers
tells-numbers made k n (command.Plain p) h = tt
tells-numbers made k n (command.Alert a) h = tt
tells-numbers made k n (command.Atomic b) h = tt
tells-numbers made k n (command.Sequence b) h = tt
tells-numbers made k n (command.Status s) h = h
tells-numbers made k n (command.Results r) h = h

-- a part of a part of a value is a part of it
cut-bytes : (n : ℕ) (before behind bytes whole : List ℕ) → before ++ bytes ++ behind ≡ whole
    → before ++ take n bytes ++ (drop n bytes ++ behind) ≡ whole
cut-bytes n before behind bytes whole e =
    append_assoc before (take n bytes) (drop n bytes ++ behind)
    ∙ ap (λ l. before ++ l) (sym (append_assoc (take n bytes) (drop n bytes) behind))
    ∙ ap (λ l. before ++ (l ++ behind)) (take-append-drop n bytes)
    ∙ sym (append_assoc before bytes behind) ∙ e

left-bytes : (n : ℕ) (before behind bytes whole : List ℕ) → before ++ bytes ++ behind ≡ whole
    → (before ++ take n bytes) ++ drop n bytes ++ behind ≡ whole
left-bytes n before behind bytes whole e =
    ap (λ l. l ++ behind) (append_assoc before (take n bytes) (drop n bytes))
    ∙ ap (λ l. before ++ l ++ behind) (take-append-drop n bytes) ∙ e

pub sized-format : (size : ℕ) (o : Option Meta)
    → option_and_then (λ (m : Meta). m.format) (with_size size o) ≡ option_and_then (λ (m : Meta). m.format) o
sized-format size None = refl
sized-format size (Some m) = refl

pub sized-media : (size : ℕ) (o : Option Meta)
    → option_and_then (λ (m : Meta). m.media) (with_size size o) ≡ option_and_then (λ (m : Meta). m.media) o
sized-media size None = refl
sized-media size (Some m) = refl

part-part : (found : Found) (begun : Bool) (n : ℕ) (i : Item) → IsPartOf found i → IsPartOf found (part_item begun n i)
part-part found true n i h = record {
  source = h.source;
  format = h.format;
  media = h.media;
  before = h.before;
  behind = drop n (bytes_in i.value) ++ h.behind;
  bytes = cut-bytes n h.before h.behind (bytes_in i.value) (bytes_in found.value) h.bytes;
}
part-part found false n i h = record {
  source = h.source;
  format = sized-format _ i.meta ∙ h.format;
  media = sized-media _ i.meta ∙ h.media;
  before = h.before;
  behind = drop n (bytes_in i.value) ++ h.behind;
  bytes = cut-bytes n h.before h.behind (bytes_in i.value) (bytes_in found.value) h.bytes;
}

rest-part : (found : Found) (n : ℕ) (i : Item) → IsPartOf found i → IsPartOf found (rest_item n i)
rest-part found n i h = record {
  source = h.source;
  format = h.format;
  media = h.media;
  before = h.before ++ take n (bytes_in i.value);
  behind = h.behind;
  bytes = left-bytes n h.before h.behind (bytes_in i.value) (bytes_in found.value) h.bytes;
}

changed-found : (made : List (InSession Made)) (k : ℕ) (f : Item → Item)
    → ((found : Found) (i : Item) → IsPartOf found i → IsPartOf found (f i))
    → (msg : Option ℕ) (cmd : ℕ) (items : List Item) → WasFound made k msg cmd items
    → WasFound made k msg cmd (only_changed f items)
changed-found made k f one msg cmd items h = record {
  post = h.post;
  found = h.found;
  within = h.within;
  msg_is = h.msg_is;
  command_is = h.command_is;
  item = f h.item;
  only = ap (only_changed f) h.only;
  part = one h.found h.item h.part;
}

tells-part : (made : List (InSession Made)) (k : ℕ) (c : Command) (b : Bool) (n : ℕ) → Tells made k c
    → Tells made k (part_of (record { command = c; begun = b }) n)
unfolding part_of
tells-part made k (command.Plain p) b n h = tt
tells-part made k (command.Alert a) b n h = tt
tells-part made k (command.Atomic x) b n h = tt
tells-part made k (command.Sequence x) b n h = tt
tells-part made k (command.Status s) b n h = h
tells-part made k (command.Results r) b n h =
    changed-found made k (part_item b n) (λ found i p. part-part found b n i p) r.msg_ref r.cmd_ref r.items h

tells-rest : (made : List (InSession Made)) (k : ℕ) (c : Command) (b : Bool) (n : ℕ) → Tells made k c
    → Tells made k (rest_of (record { command = c; begun = b }) n).command
unfolding rest_of
tells-rest made k (command.Plain p) b n h = tt
tells-rest made k (command.Alert a) b n h = tt
tells-rest made k (command.Atomic x) b n h = tt
tells-rest made k (command.Sequence x) b n h = tt
tells-rest made k (command.Status s) b n h = h
tells-rest made k (command.Results r) b n h =
    changed-found made k (rest_item n) (λ found i p. rest-part found n i p) r.msg_ref r.cmd_ref r.items h

tells-kept : (made : List (InSession Made)) (k : ℕ) → Kept (Tells made k)
tells-kept made k =
    record { numbers = tells-numbers made k; part = tells-part made k; rest = tells-rest made k; next = tt }

pub made-later : (made more : List (InSession Made)) (n msg cmd code : ℕ) → WasMade made n msg cmd code
    → WasMade (made ++ more) n msg cmd code
made-later made more n msg cmd code h = record {
  post = h.post;
  within = Contains-append_left made more _ h.within;
  msg_is = h.msg_is;
  command_is = h.command_is;
}

found-later : (made more : List (InSession Made)) (n : ℕ) (msg : Option ℕ) (cmd : ℕ) (items : List Item)
    → WasFound made n msg cmd items
    → WasFound (made ++ more) n msg cmd items
found-later made more n msg cmd items h = record {
  post = h.post;
  found = h.found;
  within = Contains-append_left made more _ h.within;
  msg_is = h.msg_is;
  command_is = h.command_is;
  item = h.item;
  only = h.only;
  part = h.part;
}

pub tells-later : (made more : List (InSession Made)) (n : ℕ) (c : Command) → Tells made n c → Tells (made ++ more) n c
tells-later made more n (command.Status s) (inl e) = inl e
tells-later made more n (command.Status s) (inr h) = inr (made-later made more n s.msg_ref s.cmd_ref s.code h)
tells-later made more n (command.Plain p) h = tt
tells-later made more n (command.Alert a) h = tt
tells-later made more n (command.Atomic b) h = tt
tells-later made more n (command.Sequence b) h = tt
tells-later made more n (command.Results r) h = found-later made more n r.msg_ref r.cmd_ref r.items h

-- ---- entries

abbrev pub Tell : List (InSession Made) → ℕ → List Entry → Type 0
Tell made n = Each (OfEntry (Tells made n))

abbrev TellAll : List (InSession Made) → ℕ → List Command → Type 0
TellAll made n = Each (Tells made n)

fresh-tell : (made : List (InSession Made)) (n : ℕ) (cs : List Command) → TellAll made n cs
    → Tell made n (map whole_entry cs)
fresh-tell made n [] h = tt
fresh-tell made n (c ∷ cs) h = (h.0, fresh-tell made n cs h.1)

-- all of these were made in this session
abbrev pub AreMade : List (InSession Made) → ℕ → List Made → Type 0
AreMade all n ms = (x : Made) → Contains ms x → Contains all (record { session = n; what = x })

told-tell : (all : List (InSession Made)) (n : ℕ) (ms : List Made) → AreMade all n ms → TellAll all n (told ms)
told-tell all n [] f = tt
told-tell all n (m ∷ ms) f = by m (f m (first_in m ms)) (told-tell all n ms (λ x h. f x (later_in x m ms h)))
  where
    by : (m : Made) → Contains all (record { session = n; what = m }) → TellAll all n (told ms)
        → TellAll all n (told (m ∷ ms))
    by (Status post code) h rest =
        either (TellAll all n) post.quiet rest
        (inr (record { post = post; within = h; msg_is = refl; command_is = refl }), rest)
    by (Result post found) h rest = (
      record {
        post = post;
        found = found;
        within = h;
        msg_is = refl;
        command_is = refl;
        item = source_item found.uri (Some (found_meta found)) found.value;
        only = refl;
        part = record {
          source = refl;
          format = refl;
          media = refl;
          before = [];
          behind = [];
          bytes = append-nil (bytes_in found.value);
        };
      },
      rest,
    )
    by (Broken target) h rest = (tt, rest)

header-tells : (made : List (InSession Made)) (n : ℕ) (h : Header) (code : ℕ) (nonce : List ℕ)
    → TellAll made n (header_answer h code nonce)
unfolding header_answer
header-tells made n h code nonce = either (TellAll made n) (header_withheld h code) tt (inl refl, tt)

alerts-tell : (made : List (InSession Made)) (n : ℕ) (uri : List ℕ) (results : List UpdateResult) (more : List Command)
    → TellAll made n more
    → TellAll made n (map (result_alert uri) results ++ more)
alerts-tell made n uri [] more h = h
alerts-tell made n uri (r ∷ rs) more h = (tt, alerts-tell made n uri rs more h)

opening-tells : (made : List (InSession Made)) (n : ℕ) (kind : Initiator) (results : List UpdateResult) (tree : Nodes)
    → TellAll made n (opening kind results tree)
opening-tells made n kind results tree =
    (tt, alerts-tell made n (update_uri tree) results (device_told tree ∷ []) (tt, tt))

first-tells : (made : List (InSession Made)) (n : ℕ) (c : Machine) (kind : Initiator) → Tell made n (first_package c kind)
first-tells made n c kind =
    fresh-tell made n (opening kind c.results c.engine.tree) (opening-tells made n kind c.results c.engine.tree)

waits-tell : (made : List (InSession Made)) (n : ℕ) (c : Machine) (p : Progress) (h : Heard) → Tell made n c.queue
    → Tell made n (waits_after c p h).queue
waits-tell made n c p h all =
    let w : Waits = record { progress = record p { standing = h.standing }; queue = c.queue } in
    either (λ (w : Waits). Tell made n w.queue) (is_denied h.status) {x = queued_again c w} {y = w}
    (again-each (OfEntry (Tells made n)) p.opening_at p.opening_left c.queue (first_package c p.kind) all
    (first-tells made n c p.kind)) all

-- ---- a machine, and the message that it sends first now

abbrev pub OpenTell : List (InSession Made) → List Entry → Option Session → Type 0
OpenTell made queue None = Unit {0}
OpenTell made queue (Some s) = Tell made s.progress.number queue

-- a message of this session that says only what was made
abbrev pub Says : List (InSession Made) → ℕ → Parts → Type 0
Says made n m = (m.header.session ≡ decimal n) × Each (Tells made n) m.body

pub record Speaks (made : List (InSession Made)) (n : ℕ) (c : Machine) (a : client.Answer) : Type 0 where
  pub queue : OpenTell made c.queue c.session
  pub message : IfSome (said a) (Says made n)

abbrev OutcomeSpeaks : List (InSession Made) → ℕ → Outcome → Type 0
OutcomeSpeaks made n x = Speaks made n (client.outcome_machine x) (client.outcome_answer x)

sent-speaks : (made : List (InSession Made)) (n : ℕ) (queue : List Entry) (o : Option Session)
    → OpenAs (λ (t : Session). (t.progress.number ≡ n) × Says made n t.sent) o
    → Tell made n queue
    → OpenTell made queue o × IfSome (said (client.sent_in o)) (Says made n)
sent-speaks made n queue None h k = absurd h
sent-speaks made n queue (Some t) h k = (subst (λ i. Tell made i queue) (sym h.0) k, h.1)

-- the commands of the message that goes out, and what is left
sends-tell : (made : List (InSession Made)) (n : ℕ) (c : Machine) (p : Progress) (a : Account) → Tell made n c.queue
    → OpenAs (λ (t : Session). Each (Tells made n) t.sent.body) (sends c p a).session × Tell made n (sends c p a).queue
unfolding sends
sends-tell made n c p a h =
    fill-each (Tells made n) (tells-kept made n) c.queue (header_from c p a) p.standing.room p.standing.heard h

sends-speaks : (made : List (InSession Made)) (n : ℕ) (c : Machine) (p : Progress) (a : Account) → p.number ≡ n
    → Tell made n c.queue
    → Speaks made n (sends c p a) (client.sent_in (sends c p a).session)
sends-speaks made n c p a e h =
    let x = sends-tell made n c p a h in
    let y = sent-speaks made n (sends c p a).queue (sends c p a).session
    (both (sends c p a).session (sends-sends c p a) x.0) x.1 in
    record { queue = y.0; message = y.1 }
  where
    both : (o : Option Session) → OpenAs (Sends p) o → OpenAs (λ (t : Session). Each (Tells made n) t.sent.body) o
        → OpenAs (λ (t : Session). (t.progress.number ≡ n) × Says made n t.sent) o
    both None h k = absurd h
    both (Some t) h k = (h.number ∙ e, (h.sent.session ∙ ap decimal e, k))

-- ---- a message

-- what is executed is what was counted as executed
same-run : (last second passed abort : Bool) (x y : Next) → last ≡ false → second ≡ false → (passed && abort) ≡ false
    → cond passed x y ≡ cond (not last && (not second && (passed && not abort))) x y
same-run true second passed abort x y e f g = absurd (cc)
same-run false true passed abort x y e f g = absurd (cc)
same-run false false true true x y e f g = absurd (cc)
same-run false false true false x y e f g = refl
same-run false false false abort x y e f g = refl

pub run-made : (c : Machine) (p : Progress) (m : Parts) (h : Heard) → is_last_own p ≡ false → h.second ≡ false
    → (passes h.code && list_any is_abort m.body) ≡ false
    → run_of (machine_heard c p m h) h.account m h.code ≡ executed c p m h
unfolding execute
run-made c p m h e f g =
    same-run (is_last_own p) h.second (passes h.code) (list_any is_abort m.body) (execute c h.account m)
    (quietly c.engine) e f g

pub run-within : (made : List (InSession Made)) (n : ℕ) (r : Next) (ms : List Made) → r.made ≡ ms
    → AreMade (made ++ each_in_session n ms) n r.made
run-within made n r ms e x h =
    Contains-append_right made (each_in_session n ms) _
    (contains-map (λ (x : Made). record { session = n; what = x }) ms x (subst (λ l. Contains l x) e h))

answering-tells : (all : List (InSession Made)) (n : ℕ) (c : Machine) (w : Waits) (m : Parts) (h : Heard)
    (nonce : List ℕ) (run : Next) → Tell all n w.queue
    → AreMade all n run.made
    → Tell all n (answering c w m h nonce run).queue
answering-tells all n c w m h nonce run waits f =
    each-append (OfEntry (Tells all n)) _ _
    (fresh-tell all n (header_answer m.header h.code nonce) (header-tells all n m.header h.code nonce))
    (each-append (OfEntry (Tells all n)) w.queue _ waits
    (fresh-tell all n (told run.made) (told-tell all n run.made f)))

denied-speaks : (all : List (InSession Made)) (n : ℕ) (c : Machine) (w : Waits) (m : Parts) (h : Heard)
    (nonce : List ℕ) → w.progress.number ≡ n
    → OutcomeSpeaks all n (denied c w m h nonce)
unfolding next_header
denied-speaks all n c w m h nonce e = record {
  queue = tt;
  message = (
    ap decimal e,
    numbered-each (Tells all n) (tells-kept all n) 1 (header_answer m.header h.code nonce ++ alert 1223 None [] ∷ [])
        (each-append (Tells all n) (header_answer m.header h.code nonce) (alert 1223 None [] ∷ [])
        (header-tells all n m.header h.code nonce) (tt, tt)),
  );
}

ended-speaks : (all : List (InSession Made)) (n : ℕ) (c : Machine) → OutcomeSpeaks all n (ends (closed c) Aborted)
ended-speaks all n c = record { queue = tt; message = tt }

header-speaks : (made : List (InSession Made)) (c : Machine) (p : Progress) (m : Parts) (nonce : List ℕ) (h : Heard)
    → is_last_own p ≡ false
    → h.standing.last ≡ m.header.msg
    → h.standing.own ≡ p.standing.own
    → Tell made p.number c.queue
    → OutcomeSpeaks (made ++ each_in_session p.number (executed c p m h).made) p.number
    (by_header (record c { resp_uri = option_or m.header.resp_uri c.resp_uri }) p m nonce h)
header-speaks made c p m nonce h last low own queue =
    let all = made ++ each_in_session p.number (executed c p m h).made in
    let d = machine_heard c p m h in
    let w = waits_after d p h in
    let run = run_of d h.account m h.code in
    let aborts = passes h.code && list_any is_abort m.body in
    let number = (waits-hear d p h m.header.msg low own).number in
    let later : Tell all p.number c.queue =
    each-map {P = OfEntry (Tells made p.number)} {Q = OfEntry (Tells all p.number)}
    (λ (e : Entry). tells-later made (each_in_session p.number (executed c p m h).made) p.number e.command) c.queue queue in
    let waiting = waits-tell all p.number d p h later in
    either_is (OutcomeSpeaks all p.number) h.second {x = denied d w m h nonce}
    {y = cond aborts (ends (closed d) Aborted) (answered d w m h nonce run)}
    (λ t. denied-speaks all p.number d w m h nonce number)
    (λ first. either_is (OutcomeSpeaks all p.number) aborts {x = ends (closed d) Aborted}
    {y = answered d w m h nonce run}
    (λ t. ended-speaks all p.number d)
    (λ goes. either (OutcomeSpeaks all p.number) (is_over m h.code (w.queue ++ map whole_entry (told run.made)))
    {x = ends (finished (record d { engine = run.state })) Finished}
    {y = goes_on (sends (answering d w m h nonce run) (behind_answer w m h nonce) h.account)}
    (record { queue = tt; message = tt })
    (sends-speaks all p.number (answering d w m h nonce run) (behind_answer w m h nonce) h.account number
    (answering-tells all p.number d w m h nonce run waiting
    (run-within made p.number run (executed c p m h).made
    (ap (λ (n : Next). n.made) (run-made c p m h last first goes)))))))

heard-numbers : (a : Account) (p : Progress) (m : Parts) (nonce : List ℕ)
    → ((hears Server a p.standing m nonce).standing.last ≡ m.header.msg)
    × ((hears Server a p.standing m nonce).standing.own ≡ p.standing.own)
unfolding hears
heard-numbers a p m nonce = (refl, refl)

accepts-speaks : (made : List (InSession Made)) (c : Machine) (p : Progress) (m : Parts) (nonce : List ℕ)
    → Tell made p.number c.queue
    → OutcomeSpeaks (made ++ made_in c p m nonce) p.number (accepts c p m nonce)
unfolding accepts
accepts-speaks made c p m nonce queue =
    let d : Machine = record c { resp_uri = option_or m.header.resp_uri c.resp_uri } in
    let h = heard_by c p m nonce in
    let x = heard-numbers (account_at c p.account) p m nonce in
    either_is (OutcomeSpeaks (made ++ made_in c p m nonce) p.number) (is_last_own p) {x = ends (closed d) Aborted}
    {y = by_header d p m nonce h} (λ t. ended-speaks (made ++ made_in c p m nonce) p.number d)
    (λ t. header-speaks made c p m nonce h t x.0 x.1 queue)

-- ---- events

-- a message of some session that says only what was made in it
abbrev pub SaysOfIts : List (InSession Made) → Parts → Type 0
SaysOfIts made m = (n : ℕ) × (session_of m ≡ Some n) × Each (Tells made n) m.body

-- what an event leaves: what waits, and what is sent
pub record Utters (made : List (InSession Made)) (c : Machine) (a : client.Answer) : Type 0 where
  pub queue : OpenTell made c.queue c.session
  pub message : IfSome (said a) (SaysOfIts made)

some-said : (made : List (InSession Made)) (n : ℕ) (o : Option Parts) → 0 < n → n < 2 ^ 32 → IfSome o (Says made n)
    → IfSome o (SaysOfIts made)
some-said made n None low high h = tt
some-said made n (Some m) low high h = (n, ap num_of h.0 ∙ num-decimal n low high, h.1)

speaks-utters : (made : List (InSession Made)) (n : ℕ) (c : Machine) (a : client.Answer) → 0 < n → n < 2 ^ 32
    → Speaks made n c a
    → Utters made c a
speaks-utters made n c a low high h = record {
  queue = h.queue;
  message = some-said made n (said a) low high h.message;
}

silent : (made : List (InSession Made)) (c : Machine) (a : client.Answer) → said a ≡ None
    → OpenTell made c.queue c.session
    → Utters made c a
silent made c a e h = record { queue = h; message = subst (λ o. IfSome o (SaysOfIts made)) (sym e) tt }

abbrev pub After : List (InSession Made) → Machine → client.Event → Type 0
After made c e = Utters made (client_runs.next c e) (client_runs.answer_now c e)

abbrev pub IsNumbered : Session → Type 0
IsNumbered s = (0 < s.progress.number) × (s.progress.number < 2 ^ 32)

down-by : (made : List (InSession Made)) (c : Machine) (o : Option Session) (m : Parts) (nonce : List ℕ)
    (kept : Option Parts) → c.session ≡ o
    → IfSome o IsNumbered
    → OpenTell made c.queue o
    → Utters (made ++ made_by c o m nonce)
    (cond (client.takes_message o m) (client.outcome_machine (client.message_outcome c o m nonce)) c)
    (cond (client.takes_message o m) (client.outcome_answer (client.message_outcome c o m nonce))
    (client.message_refusal o m kept))
down-by made c None m nonce kept e range h =
    record { queue = subst (λ o. OpenTell (made ++ []) c.queue o) (sym e) tt; message = tt }
down-by made c (Some s) m nonce kept e range h = by (client.takes_message (Some s) m)
  where
    same : OpenTell (made ++ []) c.queue c.session
    same =
        subst (λ o. OpenTell (made ++ []) c.queue o) (sym e)
        (each-map {P = OfEntry (Tells made s.progress.number)} {Q = OfEntry (Tells (made ++ []) s.progress.number)}
        (λ (x : Entry). tells-later made [] s.progress.number x.command) c.queue h)

    by : (b : Bool) → Utters (made ++ cond b (made_in c s.progress m nonce) [])
        (cond b (client.outcome_machine (accepts c s.progress m nonce)) c)
        (cond b (client.outcome_answer (accepts c s.progress m nonce)) (client.message_refusal (Some s) m kept))
    by true =
        speaks-utters (made ++ made_in c s.progress m nonce) s.progress.number
        (client.outcome_machine (accepts c s.progress m nonce)) (client.outcome_answer (accepts c s.progress m nonce))
        range.0 range.1 (accepts-speaks made c s.progress m nonce h)
    by false = silent (made ++ []) c (client.message_refusal (Some s) m kept) (refusal-said (Some s) m kept) same

message-utters : (made : List (InSession Made)) (c : Machine) (m : Parts) (nonce : List ℕ)
    → IfSome c.session IsNumbered
    → OpenTell made c.queue c.session
    → After (made ++ made_by c c.session m nonce) c (client.message (Ok m) nonce)
unfolding client_runs.next client_runs.answer_now client.takes client.after client.taken_answer client.refusal
message-utters made c m nonce range h =
    down-by made c c.session m nonce (client_runs.kept_in c.session) refl range h

begins-utters : (made : List (InSession Made)) (c : Machine) (account : ℕ) (kind : Initiator) (n : ℕ) → 0 < n → n < 2 ^ 32
    → Utters made (begins c account kind n) (client.sent_in (begins c account kind n).session)
unfolding begins
begins-utters made c account kind n low high =
    let first = first_package (closed c) kind in
    speaks-utters made n _ _ low high
    (sends-speaks made n (beginning c kind n) (first_progress account kind n first) (account_at (closed c) account) refl
    (first-tells made n (closed c) kind))

opened-utters : (made : List (InSession Made)) (c : Machine) (account : ℕ) (kind : Initiator) (n : ℕ) → n < 2 ^ 32
    → OpenTell made c.queue c.session
    → After made c (client.opened account kind n)
unfolding client_runs.next client_runs.answer_now client.takes client.after client.taken_answer client.refusal
opened-utters made c account kind n high h =
    both-ways (Utters made) (nat_lt c.begun n) (begins c account kind n) c
    (client.sent_in (begins c account kind n).session) (client.exhausted c.begun)
    (λ t. begins-utters made c account kind n (let above = lt-of c.begun n t in omega (arith, above)) high)
    (λ t. record { queue = h; message = tt })

act-utters : (made : List (InSession Made)) (c : Machine) (ok : Bool) → OpenTell made c.queue c.session
    → After made c (client.act ok)
unfolding client_runs.next client_runs.answer_now client.after client.taken_answer client.refusal ends_update
act-utters made c ok h =
    both-ways (Utters made) (client.takes c (client.act ok)) (ends_update c ok) c client.acted client.not_now
    (λ t. record { queue = h; message = tt }) (λ t. record { queue = h; message = tt })

clock-utters : (made : List (InSession Made)) (c : Machine) (stamp : Stamp) → OpenTell made c.queue c.session
    → After made c (client.clock stamp)
unfolding client_runs.next client_runs.answer_now client.takes client.after client.taken_answer
clock-utters made c stamp h = record { queue = h; message = tt }

loss-utters : (made : List (InSession Made)) (c : Machine) → OpenTell made c.queue c.session
    → After made c client.loss
unfolding client_runs.next client_runs.answer_now client.takes client.refusal
loss-utters made c h = silent made c (client.loss_answer c.session) (loss-said c.session) h

-- ---- the world

record Honest (w : World) : Type 0 where
  sound : Sound w
  queue : OpenTell w.made w.client.queue w.client.session
  ups : Each (SaysOfIts w.made) w.ups

numbered-by : (b : ℕ) (ups : List Parts) (o : Option Session) → ClientOk b ups o → IfSome o IsNumbered
numbered-by b ups None h = tt
numbered-by b ups (Some s) h =
    let same = h.number in
    let low = h.low in
    let high = h.high in
    (omega (arith, same, low), omega (arith, same, high))

says-later : (made more : List (InSession Made)) (ups : List Parts) → Each (SaysOfIts made) ups
    → Each (SaysOfIts (made ++ more)) ups
says-later made more ups h =
    each-map {P = SaysOfIts made} {Q = SaysOfIts (made ++ more)}
    (λ m x. (
      x.0,
      x.1,
      each-map {P = Tells made x.0} {Q = Tells (made ++ more) x.0} (tells-later made more x.0) m.body x.2,
    )) ups h

client-honest : (w : World) (e : client.Event) → Sound (client_has w e) → Honest w → After w.made w.client e
    → Honest (client_has w e)
client-honest w e sound h x = record {
  sound = sound;
  queue = x.queue;
  ups = each-new (SaysOfIts w.made) w.ups (said (client_runs.answer_now w.client e)) h.ups x.message;
}

down-honest : (w : World) (d : Option Reply) (nonce : List ℕ) → Sound (down_delivered w d nonce) → Honest w
    → Honest (down_delivered w d nonce)
down-honest w None nonce sound h = h
down-honest w (Some d) nonce sound h =
    let more = made_by w.client w.client.session d.message nonce in
    let range = numbered-by w.client.begun w.ups w.client.session h.sound.client_ok in
    let x = message-utters w.made w.client d.message nonce range h.queue in
    record {
      sound = sound;
      queue = x.queue;
      ups =
          each-new (SaysOfIts (w.made ++ more)) w.ups
          (said (client_runs.answer_now w.client (client.message (Ok d.message) nonce)))
          (says-later w.made more w.ups h.ups) x.message;
    }

up-honest : (w : World) (u : Option Parts) (nonce : List ℕ) → Sound (up_delivered w u nonce) → Honest w
    → Honest (up_delivered w u nonce)
up-honest w None nonce sound h = h
up-honest w (Some u) nonce sound h = record { sound = sound; queue = h.queue; ups = h.ups }

happens-honest : (w : World) (e : Happening) → InRange e → Honest w → Honest (happens w e)
unfolding happens
happens-honest w (opens account kind n) r h =
    client-honest w (client.opened account kind n) (happens-sound w (opens account kind n) r h.sound) h
    (opened-utters w.made w.client account kind n r h.queue)
happens-honest w (up_comes k nonce) r h =
    up-honest w (slice_get w.ups k) nonce (happens-sound w (up_comes k nonce) r h.sound) h
happens-honest w (down_comes k nonce) r h =
    down-honest w (slice_get w.downs k) nonce (happens-sound w (down_comes k nonce) r h.sound) h
happens-honest w (update_ends ok) r h =
    client-honest w (client.act ok) (happens-sound w (update_ends ok) r h.sound) h
    (act-utters w.made w.client ok h.queue)
happens-honest w (clock_moves stamp) r h =
    client-honest w (client.clock stamp) (happens-sound w (clock_moves stamp) r h.sound) h
    (clock-utters w.made w.client stamp h.queue)
happens-honest w is_lost r h =
    client-honest w client.loss (happens-sound w is_lost r h.sound) h (loss-utters w.made w.client h.queue)
happens-honest w finds_no_memory r h = h

run-honest : (w : World) (es : List Happening) → Each InRange es → Honest w → Honest (run w es)
run-honest w [] r h = h
run-honest w (e ∷ es) r h = run-honest (happens w e) es r.1 (happens-honest w e r.0 h)

start-honest : (c : Machine) (job : Job) → IsWorldStart c job → Honest (at_start c job)
start-honest c job h = record {
  sound = start-sound c job h;
  queue = subst (OpenTell [] c.queue) (sym h.unused.1) tt;
  ups = tt;
}

-- ---- the law

status-made : (made : List (InSession Made)) (n : ℕ) (s : StatusCmd) → Tells made n (command.Status s) → 0 < s.cmd_ref
    → WasMade made n s.msg_ref s.cmd_ref s.code
status-made made n s (inl e) some = absurd (omega (arith, e, some))
status-made made n s (inr h) some = h

same-session : (a b : ℕ) (o : Option ℕ) → o ≡ Some a → o ≡ Some b → a ≡ b
same-session a b o e f = cc

-- a command in a message of the client
sent-tells : (c : Machine) (job : Job) (hs : List Happening) (k : ℕ) (m : Parts) (n : ℕ) (x : Command)
    → IsWorldStart c job
    → IsSchedule c hs
    → slice_get (run (at_start c job) hs).ups k ≡ Some m
    → session_of m ≡ Some n
    → Contains m.body x
    → Tells (run (at_start c job) hs).made n x
sent-tells c job hs k m n x start range e read within =
    let w = run (at_start c job) hs in
    let h = run-honest (at_start c job) hs (schedule-range c hs range) (start-honest c job start) in
    let u = each-within (SaysOfIts w.made) w.ups m h.ups (picked w.ups k m e) in
    let tells : Each (Tells w.made n) m.body =
    subst (λ i. Each (Tells w.made i) m.body) (same-session u.0 n (session_of m) u.1 read) u.2 in
    each-contains (Tells w.made n) m.body x tells within

pub says_the_made : SaysTheMade
says_the_made c job hs start range k m n status e read within some =
    status-made (run (at_start c job) hs).made n status
    (sent-tells c job hs k m n (command.Status status) start range e read within) some

pub says_the_found : SaysTheFound
says_the_found c job hs start range k m n results e read within =
    sent-tells c job hs k m n (command.Results results) start range e read within
