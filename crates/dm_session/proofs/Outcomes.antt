-- What a message that is accepted comes to, as its outcome by the machine.
use Rattle.std.proofs.Common.{◌≡◌, ◌&&◌, ◌==◌, ◌<◌, ◌+◌, ◌^◌, ℕ, Bool, true, false, cond, List, [], ◌∷◌, ◌++◌, length}
use Rattle.std.proofs.Common.{map, refl, sym, ◌∙◌, ap, subst, arith, None, Some}
use Rattle.std.proofs.Common.{take, drop}
use Rattle.std.proofs.lemmas.Bool.{ne_eqb, eqb-false}
use Rattle.std.specs.Prelude.{Option, set, get_or, unwrap_or}
use Rattle.std.specs.List.{list_all}
use Rattle.std.specs.Option.{option_or}
use Rattle.syncml_types.specs.declared.command.Command.{Command}
use Rattle.syncml_types.specs.declared.values.Header.{Header}
use Rattle.syncml_types.specs.Message.{Parts}
use Rattle.dm_tree.specs.declared.nodes.Stamp.{Stamp}
use Rattle.dm_auth.specs.declared.accounts.Account.{Account}
use Rattle.dm_headers.specs.Checks.{passes, is_denied}
use Rattle.dm_headers.specs.Headers.{header_answer}
use Rattle.dm_headers.specs.declared.checks.Side.TheVariants.{Server}
use Rattle.dm_headers.specs.declared.hearing.Heard as hearing
use Rattle.dm_headers.specs.declared.standings.Standing.{Standing}
use Rattle.dm_headers.specs.Standings.{Heard, hears}
use Rattle.dm_pack.specs.Entries.{Entry, whole_entry}
use Rattle.dm_commands.specs.Outcomes.{asked_by}
use Rattle.dm_atomic.specs.declared.engine.Engine.{Engine}
use Rattle.dm_atomic.specs.Made.{told}
use Rattle.dm_atomic.specs.Run.{State, Next, quietly, run_all, abandoned}
use Rattle.dm_atomic.specs.Engine.{state_of, running, Gives}
use Rattle.dm_atomic.specs.Updates.{clock_of, max_obj_of}
use Rattle.dm_machine.specs.declared.kinds.End.TheVariants.{Finished, Aborted, Denied}
use Rattle.dm_machine.specs.declared.progress.Progress.{Progress}
use Rattle.dm_machine.specs.Machine.{Machine}
use Rattle.dm_machine.specs.Sending.{sends}
use Rattle.dm_machine.specs.Messages.{Outcome, goes_on, ends, Waits, waits_after, queued_again, closed, finished}
use Rattle.dm_machine.specs.Messages.{is_report, is_over, answered, run_of, execute, quiet_after}
use Rattle.dm_machine.specs.Messages.{farewell_of, denied, by_header, no_account, is_last_own, accepts}
use Rattle.dm_machine.specs.Ready.{IsReadyProgress}
use Rattle.dm_ends.proofs.Hearing.{IsReadyHeard}
use Rattle.dm_ends.specs.Commands.{origin_of}
use Rattle.dm_session.specs.declared.drafts.Next as drafts
use Rattle.dm_session.specs.declared.drafts.Next.TheVariants as ends_with
use Rattle.dm_session.specs.declared.rest.Rest.{Rest}
use Rattle.dm_session.specs.Inside.{machine_of}
use Rattle.dm_session.specs.Working.{outcome, rest_behind, account_behind, HeardAs, Executed}
use Rattle.dm_session.specs.Working.{rest_told as told_rest}
use Rattle.dm_session.proofs.Machines.{moved_by, account_put, closed_machine, engine_moved, answered_goes_on}
use Rattle.dm_session.proofs.Machines.{answered_ends}

-- ---- the commands

abbrev executed : Account → Parts → Stamp → ℕ → State → Next
executed a m stamp most s =
    quiet_after m (run_all (record { setting = asked_by a.server stamp; max_obj = most }) (origin_of m) s m.body)

pub ran_executes : (c : Machine) (a : Account) (m : Parts) (code : ℕ) (e : Engine) (s : State) (caller : List ℕ)
    (out made : List Command) → passes code ≡ true → c.engine ≡ state_of e → c.clock ≡ clock_of e
    → c.limits.max_obj ≡ max_obj_of e → out ≡ [] → caller ≡ a.server
    → Gives (quiet_after m (run_all (running e caller) (origin_of m) (state_of e) m.body)) s out made
    → Executed (run_of c a m code) s made
unfolding execute
ran_executes c a m code e s caller out made p i k l none who g = all (passes code) p
  where
    given : Gives (executed a m (clock_of e) (max_obj_of e) (state_of e)) s out made
    given =
        subst (λ x. Gives (quiet_after m (run_all (running e x) (origin_of m) (state_of e) m.body)) s out made) who g

    same : executed a m (clock_of e) (max_obj_of e) (state_of e) ≡ executed a m c.clock c.limits.max_obj c.engine
    same =
        ap (λ x. executed a m x (max_obj_of e) (state_of e)) (sym k)
        ∙ ap (λ x. executed a m c.clock x (state_of e)) (sym l)
        ∙ ap (executed a m c.clock c.limits.max_obj) (sym i)

    all : (b : Bool) → b ≡ true → Executed (cond b (execute c a m) (quietly c.engine)) s made
    all true h = record {
      state_is = given.state_is ∙ ap (λ (n : Next). n.state) same;
      made_is = given.told_is ∙ ap (λ x. x ++ told (executed a m (clock_of e) (max_obj_of e) (state_of e)).made) none
          ∙ ap (λ (n : Next). told n.made) same;
    }
    all false h = absurd (cc)

-- ---- an answer

and_false : (b c : Bool) → c ≡ false → (b && c) ≡ false
and_false true c e = e
and_false false c e = refl

-- something waits
long_waits : (xs ys zs : List Entry) (y : Entry) → (length ((xs ++ y ∷ ys) ++ zs) == 0) ≡ false
long_waits [] ys zs y = ne_eqb (length (y ∷ (ys ++ zs))) 0 (λ e. absurd (omega (arith, e)))
long_waits (x ∷ xs) ys zs y = ne_eqb (length (x ∷ ((xs ++ y ∷ ys) ++ zs))) 0 (λ e. absurd (omega (arith, e)))

not_over : (m : Parts) (code : ℕ) (xs ys zs : List Entry) (y : Entry) → is_over m code ((xs ++ y ∷ ys) ++ zs) ≡ false
not_over m code xs ys zs y =
    and_false (passes code && m.last && list_all is_report m.body) (length ((xs ++ y ∷ ys) ++ zs) == 0)
    (long_waits xs ys zs y)

again_not_over : (c : Machine) (w : Waits) (m : Parts) (code : ℕ) (zs : List Entry)
    → is_over m code ((queued_again c w).queue ++ zs) ≡ false
again_not_over c w m code zs =
    let p = w.progress in
    not_over m code (take p.opening_at w.queue ++ drop (p.opening_at + p.opening_left) w.queue) _ zs _

waits_if : (c : Machine) (w : Waits) (b : Bool) → b ≡ true → cond b (queued_again c w) w ≡ queued_again c w
waits_if c w true e = refl
waits_if c w false e = absurd (cc)

waits_not : (c : Machine) (w : Waits) (b : Bool) → b ≡ false → cond b (queued_again c w) w ≡ w
waits_not c w true e = absurd (cc)
waits_not c w false e = refl

pub again_answered : (e f : Engine) (q : List Entry) (r : Rest) (p : Progress) (w : Waits) (m : Parts) (h : Heard)
    (nonce : List ℕ)
    (a : Account) (run : Next) (front made : List Command) → is_denied h.status ≡ true
    → w ≡ queued_again (machine_of e q r) (record { progress = record p { standing = h.standing }; queue = q })
    → state_of f ≡ run.state → clock_of f ≡ clock_of e → a ≡ h.account → front ≡ header_answer m.header h.code nonce
    → made ≡ told run.made
    → goes_on (sends (machine_of f (map whole_entry front ++ (w.queue ++ map whole_entry made)) r)
    (moved_by w.progress (length front)) a)
    ≡ answered (machine_of e q r) (waits_after (machine_of e q r) p h) m h nonce run
again_answered e f q r p w m h nonce a run front made d i s k same is t =
    let c = machine_of e q r in
    let before : Waits = record { progress = record p { standing = h.standing }; queue = q } in
    ap (λ (x : Waits).
    goes_on (sends (machine_of f (map whole_entry front ++ (x.queue ++ map whole_entry made)) r)
    (moved_by x.progress (length front)) a)) i
    ∙ ap (λ x. goes_on (sends x (moved_by (queued_again c before).progress (length front)) a))
    (engine_moved e f q (map whole_entry front ++ ((queued_again c before).queue ++ map whole_entry made)) r
    run.state s k)
    ∙ ap (λ x.
    goes_on
    (sends (record c {
      engine = run.state;
      queue = map whole_entry front ++ ((queued_again c before).queue ++ map whole_entry made);
    }) (moved_by (queued_again c before).progress (length front)) x)) same
    ∙ answered_goes_on c (queued_again c before) m h nonce run front made is t
    (again_not_over c before m h.code (map whole_entry made))
    ∙ ap (λ x. answered c x m h nonce run) (sym (waits_if c before (is_denied h.status) d))

pub answered_or_ended : (e f : Engine) (q : List Entry) (r : Rest) (p : Progress) (m : Parts) (h : Heard)
    (nonce : List ℕ)
    (a : Account) (run : Next) (front made : List Command) → is_denied h.status ≡ false
    → state_of f ≡ run.state → clock_of f ≡ clock_of e → a ≡ h.account → front ≡ header_answer m.header h.code nonce
    → made ≡ told run.made
    → cond (is_over m h.code (q ++ map whole_entry made)) (ends (finished (machine_of f q r)) Finished)
    (goes_on (sends (machine_of f (map whole_entry front ++ (q ++ map whole_entry made)) r)
    (moved_by (record p { standing = h.standing }) (length front)) a))
    ≡ answered (machine_of e q r) (waits_after (machine_of e q r) p h) m h nonce run
answered_or_ended e f q r p m h nonce a run front made d s k same is t =
    over (is_over m h.code (q ++ map whole_entry made)) refl
    ∙ ap (λ x. answered c x m h nonce run) (sym (waits_not c before (is_denied h.status) d))
  where
    c : Machine
    c = machine_of e q r

    before : Waits
    before = record { progress = record p { standing = h.standing }; queue = q }

    over : (b : Bool) → is_over m h.code (q ++ map whole_entry made) ≡ b
        → cond b (ends (finished (machine_of f q r)) Finished)
        (goes_on (sends (machine_of f (map whole_entry front ++ (q ++ map whole_entry made)) r)
        (moved_by (record p { standing = h.standing }) (length front)) a)) ≡ answered c before m h nonce run
    over true o =
        ap (λ x. ends (finished x) Finished) (engine_moved e f q q r run.state s k)
        ∙ answered_ends c before m h nonce run made t o
    over false o =
        ap (λ x. goes_on (sends x (moved_by (record p { standing = h.standing }) (length front)) a))
        (engine_moved e f q (map whole_entry front ++ (q ++ map whole_entry made)) r run.state s k)
        ∙ ap (λ x.
        goes_on (sends (record c { engine = run.state; queue = map whole_entry front ++ (q ++ map whole_entry made) })
        (moved_by (record p { standing = h.standing }) (length front)) x)) same
        ∙ answered_goes_on c before m h nonce run front made is t o

-- ---- a session that is denied

farewell_same : (c : Machine) (w : Waits) (b : Bool) (a : Account) (m : Parts) (code : ℕ) (nonce : List ℕ)
    → farewell_of c w.progress a m code nonce ≡ farewell_of c (cond b (queued_again c w) w).progress a m code nonce
farewell_same c w true a m code nonce = refl
farewell_same c w false a m code nonce = refl

pub denied_is : (c d : Machine) (p q : Progress) (m : Parts) (nonce : List ℕ) (h : Heard) (a : Account) (code : ℕ)
    (sent : Parts)
    → h.second ≡ true → h.account ≡ a → h.code ≡ code → record p { standing = h.standing } ≡ q
    → sent ≡ farewell_of (record c { accounts = set c.accounts p.account h.account }) q a m code nonce
    → d ≡ record (closed (record c { accounts = set c.accounts p.account h.account })) { farewell = Some sent }
    → ends d Denied ≡ by_header c p m nonce h
denied_is c d p q m nonce h a code sent second same is at told_is closed_is =
    ap (λ x. ends x Denied)
    (closed_is ∙ ap (λ x. record (closed b) { farewell = Some x })
    (told_is ∙ ap (λ x. farewell_of b x a m code nonce) (sym at)
    ∙ ap (λ x. farewell_of b before.progress x m code nonce) (sym same)
    ∙ ap (λ x. farewell_of b before.progress h.account m x nonce) (sym is)
    ∙ farewell_same b before (is_denied h.status) h.account m h.code nonce))
    ∙ sym (if_second h.second _ second)
  where
    b : Machine
    b = record c { accounts = set c.accounts p.account h.account }

    before : Waits
    before = record { progress = record p { standing = h.standing }; queue = b.queue }

    if_second : (x : Bool) (y : Outcome) → x ≡ true
        → cond x (denied b (waits_after b p h) m h nonce) y ≡ denied b (waits_after b p h) m h nonce
    if_second true y e = refl
    if_second false y e = absurd (cc)

-- ---- a message that is new

pub heard_progress : (c : Machine) (p : Progress) (m : Parts) (h : Heard) (s : Standing) → IsReadyProgress c p
    → IsReadyHeard p.standing m h → m.header.msg < 2 ^ 32 → s ≡ h.standing
    → IsReadyProgress c (record p { standing = s })
heard_progress c p m h s is heard msg e =
    subst (λ x. IsReadyProgress c (record p { standing = x })) (sym e)
    (record {
      number = is.number;
      account = is.account;
      last = let same = heard.last in omega (arith, same, msg);
      own = let same = heard.own in let low = is.own in omega (arith, same, low);
      room = heard.room;
      opening = is.opening;
    })

not_last : (p : Progress) (b : Bool) (x y : Outcome) → is_last_own p ≡ false → cond (is_last_own p) x y ≡ y
not_last p b x y e = other (is_last_own p) e
  where
    other : (b : Bool) → b ≡ false → cond b x y ≡ y
    other true e = absurd (cc)
    other false e = refl

is_last : (p : Progress) (x y : Outcome) → is_last_own p ≡ true → cond (is_last_own p) x y ≡ x
is_last p x y e = this (is_last_own p) e
  where
    this : (b : Bool) → b ≡ true → cond b x y ≡ x
    this true e = refl
    this false e = absurd (cc)

abbrev done_by : Engine → List Entry → Rest → List Account → Option (List ℕ) → drafts.Next → Outcome
done_by f q r accounts uri n = outcome (machine_of f q (rest_behind (told_rest r accounts uri) n)) n

abbrev heard_at : Engine → List Entry → Rest → Progress → Parts → List ℕ → Account → Outcome
heard_at e q r p m nonce a =
    by_header (machine_of e q (told_rest r r.accounts (option_or m.header.resp_uri r.resp_uri))) p m nonce
    (hears Server a p.standing m nonce)

pub accepted_by_header : (e f : Engine) (q x : List Entry) (r : Rest) (p : Progress) (m : Parts) (nonce : List ℕ)
    (next : Option Account) (a renewed : Account) (uri : Option (List ℕ)) (n : drafts.Next) → is_last_own p ≡ false
    → a ≡ get_or r.accounts p.account no_account → p.account < length r.accounts → renewed ≡ unwrap_or next a
    → uri ≡ m.header.resp_uri
    → done_by f x r (set r.accounts p.account renewed) (option_or m.header.resp_uri r.resp_uri) n
    ≡ heard_at e q r p m nonce a
    → done_by f x r (account_behind r.accounts p.account next) (option_or uri r.resp_uri) n
    ≡ accepts (machine_of e q r) p m nonce
unfolding accepts
accepted_by_header e f q x r p m nonce next a renewed uri n last is low new same done =
    ap (λ y. done_by f x r y (option_or uri r.resp_uri) n) (account_put r.accounts p.account a next no_account is low)
    ∙ ap (λ y. done_by f x r (set r.accounts p.account y) (option_or uri r.resp_uri) n) (sym new)
    ∙ ap (λ y. done_by f x r (set r.accounts p.account renewed) (option_or y r.resp_uri) n) same
    ∙ done ∙ ap (heard_at e q r p m nonce) is
    ∙ sym (not_last p true _ _ last)

pub accepted_last : (e f : Engine) (q x : List Entry) (r : Rest) (p : Progress) (m : Parts) (nonce : List ℕ)
    (uri : Option (List ℕ))
    → is_last_own p ≡ true → state_of f ≡ abandoned (state_of e) → clock_of f ≡ clock_of e → x ≡ []
    → uri ≡ m.header.resp_uri
    → done_by f x r r.accounts (option_or uri r.resp_uri) (ends_with.Ends Aborted None)
    ≡ accepts (machine_of e q r) p m nonce
unfolding accepts
accepted_last e f q x r p m nonce uri last s k none same =
    ap (λ y. ends y Aborted) (closed_machine e f q x (told_rest r r.accounts (option_or uri r.resp_uri)) s k none)
    ∙ ap (λ y. ends (closed (machine_of e q (told_rest r r.accounts (option_or y r.resp_uri)))) Aborted) same
    ∙ sym (is_last p _ _ last)

pub goes_unless : (b : Bool) (x : Outcome) (c d : Machine) → b ≡ false → c ≡ d → goes_on c ≡ cond b x (goes_on d)
goes_unless true x c d e same = absurd (cc)
goes_unless false x c d e same = ap goes_on same

-- ---- by what was heard

pub heard_run : (c : Machine) (heard : hearing.Heard) (a : Account) (h : Heard) (m : Parts) → HeardAs heard a h
    → run_of c a m heard.code ≡ run_of c h.account m h.code
heard_run c heard a h m is =
    ap (λ x. run_of c x m heard.code) (sym is.account_is) ∙ ap (run_of c h.account m) (sym is.code)

pub heard_front : (front : List Command) (header : Header) (heard : hearing.Heard) (a : Account) (h : Heard) (m : Parts)
    (nonce : List ℕ) → HeardAs heard a h → front ≡ header_answer header heard.code nonce → header ≡ m.header
    → front ≡ header_answer m.header h.code nonce
heard_front front header heard a h m nonce is e same =
    e ∙ ap (λ x. header_answer x heard.code nonce) same ∙ ap (λ x. header_answer m.header x nonce) (sym is.code)

-- the session is finished where the message has nothing more and no entry waits
abbrev pub or_ends_if : Bool → Engine → List Entry → Rest → Progress → Account → List Command → List Command → Outcome
or_ends_if nothing_more f q r p a front made =
    cond (nothing_more && length (q ++ map whole_entry made) == 0) (ends (finished (machine_of f q r)) Finished)
    (goes_on (sends (machine_of f (map whole_entry front ++ (q ++ map whole_entry made)) r)
    (moved_by p (length front)) a))

abbrev or_ends : Engine → List Entry → Rest → Parts → ℕ → Progress → Account → List Command → List Command → Outcome
or_ends f q r m code p a front made =
    or_ends_if (passes code && m.last && list_all is_report m.body) f q r p a front made

pub or_ends_heard : (f : Engine) (q : List Entry) (r : Rest) (m : Parts) (heard : hearing.Heard) (a : Account)
    (h : Heard)
    (p : Progress) (at : Progress) (front made : List Command) → HeardAs heard a h
    → record p { standing = h.standing } ≡ at
    → or_ends f q r m heard.code at a front made
    ≡ or_ends f q r m h.code (record p { standing = h.standing }) a front made
or_ends_heard f q r m heard a h p at front made is same =
    ap (λ x. or_ends f q r m x at a front made) (sym is.code)
    ∙ ap (λ x. or_ends f q r m h.code x a front made) (sym same)

abbrev pub with_standing : Progress → Standing → Progress
with_standing p s = record p { standing = s }

pub own_next : (n own : ℕ) → n ≡ own → own < 2 ^ 32 → (own ≡ 4294967295 → ⊥) → n + 1 < 2 ^ 32
own_next n own same low other = let apart = ne_eqb own 4294967295 other in
    let less = eqb-false own 4294967295 apart in omega (arith, same, low, less)
