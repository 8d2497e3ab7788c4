-- What is about to be sent can be sent.
use Rattle.std.proofs.Common.{◌≡◌, ◌<◌, ◌≤◌, ◌+◌, ◌^◌, ◌∙◌, ℕ, Bool, true, false, cond, List, [], ◌∷◌, ◌++◌, length}
use Rattle.std.proofs.Common.{map, refl, sym, ap, subst, None, Some}
use Rattle.std.specs.List.{AllByRecursion}
use Rattle.std.specs.Prelude.{Option, IfSome}
use Rattle.std.specs.Option.{option_to_list}
use Rattle.syncml_types.specs.declared.values.Header.{Header}
use Rattle.syncml_types.specs.declared.command.Command.{Command}
use Rattle.syncml_types.specs.Message.{Parts}
use Rattle.syncml_types.specs.Fitness.{IsFit}
use Rattle.syncml_parts.specs.Numbering.{ids_in}
use Rattle.dm_tree.specs.Nodes.{Nodes}
use Rattle.dm_tree.specs.Devices.{device_id}
use Rattle.dm_auth.specs.declared.accounts.Account.{Account}
use Rattle.dm_headers.specs.declared.checks.Side.TheVariants.{User}
use Rattle.dm_headers.specs.Checks.{login_of}
use Rattle.dm_headers.specs.Headers.{header_answer, is_withheld, status_of, next_header}
use Rattle.dm_pack.specs.Entries.{Entry, IsReady, whole_entry}
use Rattle.dm_pack.specs.Filling.{numbered, IsReadyHeader}
use Rattle.dm_atomic.specs.declared.engine.Engine.{Engine}
use Rattle.dm_atomic.specs.Engine.{state_of}
use Rattle.dm_atomic.specs.Made.{told}
use Rattle.dm_machine.specs.declared.progress.Progress.{Progress}
use Rattle.dm_machine.specs.Machine.{Machine}
use Rattle.dm_machine.specs.Messages.{Waits, queued_again, run_of}
use Rattle.dm_machine.specs.declared.kinds.Initiator.{Initiator}
use Rattle.dm_machine.specs.Opening.{alert, opening, first_package}
use Rattle.dm_machine.specs.Sending.{header_from}
use Rattle.dm_machine.specs.Ready.{IsDevice, IsReadyAccount, IsReadyLimits, IsReadyMachine, IsReadyMessage}
use Rattle.dm_machine.specs.Ready.{IsReadyProgress, AreReadyResults}
use Rattle.dm_machine.proofs.ToldGroups.{all_append}
use Rattle.dm_machine.proofs.ToldMessages.{told_ready}
use Rattle.dm_ends.proofs.Answers.{nonce_is, answer_ready}
use Rattle.dm_ends.proofs.ShortFarewells.{last_words_fit}
use Rattle.dm_machine.proofs.OwnHeaders.{header_ready}
use Rattle.dm_machine.proofs.OwnPackages.{package_ready}
use Rattle.dm_ends.proofs.Texts.{known_number}
use Rattle.dm_machine.proofs.StaysSending.{apart}
use Rattle.dm_machine.proofs.StaysWaiting.{IsReadyWaits, again_ready, run_ready}
use Rattle.dm_session.specs.declared.rest.Rest.{Rest}
use Rattle.dm_session.specs.Inside.{machine_of}

-- a header's Status, what waits, and what was made
pub answer_waits : (c : Machine) (a : Account) (m : Parts) (nonce : List ℕ) (code : ℕ) (q : List Entry)
    (front made : List Command)
    → IsReadyMachine c → IsReadyMessage m nonce → code < 2 ^ 32 → AllByRecursion IsReady q
    → front ≡ header_answer m.header code nonce → made ≡ told (run_of c a m code).made
    → AllByRecursion IsReady (map whole_entry front ++ (q ++ map whole_entry made))
answer_waits c a m nonce code q front made ready message low waits f t =
    let ran = run_ready c a m nonce code (apart c ready) message in
    let answer = answer_ready m.header code nonce (known_number m message.fit) message.numbers.header.msg low
    (nonce_is nonce message.nonce_long message.nonce_bytes) in
    all_append IsReady (map whole_entry front) (q ++ map whole_entry made)
    (subst (λ cs. AllByRecursion IsReady (map whole_entry cs)) (sym f) answer)
    (all_append IsReady q (map whole_entry made) waits
    (subst (λ cs. AllByRecursion IsReady (map whole_entry cs)) (sym t) (told_ready (run_of c a m code).made ran.made)))

-- what waits with the first package again
pub again_waits : (c : Machine) (p : Progress) (w : Waits) → IsReadyMachine c → IsReadyProgress c p
    → w ≡ queued_again c (record { progress = p; queue = c.queue }) → IsReadyWaits c p.standing.own w
again_waits c p w ready is e =
    subst (IsReadyWaits c p.standing.own) (sym e)
    (again_ready c p.standing.own (record { progress = p; queue = c.queue }) (apart c ready)
    (record { queue = ready.queue; progress = is; own_is = refl }))

-- ---- a header of one's own

abbrev header_over : Rest → Nodes → Progress → Account → Header
header_over r m p a =
    next_header (login_of User a) p.standing r.limits p.number (record { uri = a.server; name = None })
    (record { uri = device_id m; name = a.user })

pub own_header : (e : Engine) (q : List Entry) (r : Rest) (m : Nodes) (p : Progress) (a : Account) (h : Header)
    → m ≡ (state_of e).tree → h ≡ header_over r m p a → h ≡ header_from (machine_of e q r) p a
own_header e q r m p a h t is = is ∙ ap (λ x. header_over r x p a) t

pub own_header_ready : (e : Engine) (r : Rest) (m : Nodes) (p : Progress) (a : Account) (h : Header)
    → m ≡ (state_of e).tree
    → h ≡ header_over r m p a → IsReadyLimits r.limits → IsDevice (state_of e).tree → IsReadyAccount a
    → p.number < 2 ^ 32 → p.standing.own + 1 < 2 ^ 32 → IsReadyHeader h
own_header_ready e r m p a h t is limits device account number own =
    subst IsReadyHeader (sym (own_header e [] r m p a h t is))
    (header_ready (machine_of e [] r) p a limits device account number own)

-- ---- the first package

pub opening_waits : (e : Engine) (r : Rest) (kind : Initiator) (first : List Command) (m : Nodes) (q : List Entry) → q ≡ []
    → m ≡ (state_of e).tree → first ≡ opening kind r.results m
    → q ++ map whole_entry first ≡ first_package (machine_of e [] r) kind
opening_waits e r kind first m q none t is =
    ap (λ x. x ++ map whole_entry first) none ∙ ap (map whole_entry) (is ∙ ap (opening kind r.results) t)

pub opening_ready : (e : Engine) (r : Rest) (kind : Initiator) (waiting : List Entry)
    → waiting ≡ first_package (machine_of e [] r) kind → IsDevice (state_of e).tree → AreReadyResults r.results
    → AllByRecursion IsReady waiting
opening_ready e r kind waiting is device results =
    subst (AllByRecursion IsReady) (sym is) (package_ready (machine_of e [] r) kind device results)
