-- A session, from one exchange to the next.
use Rattle.std.proofs.Common.{◌≡◌, ◌≤◌, ◌++◌, ℕ, Bool, true, false, List, [], ◌∷◌, refl, sym, ap, subst, ◌∙◌, arith}
use Rattle.std.proofs.Common.{length, take, drop, Ok, Err, Some, None, append-nil, append_assoc}
use Rattle.std.proofs.lemmas.List.{take_all}
use Rattle.std.specs.Prelude.{Option, Result, IsSomeAnd}
use Rattle.dm_base.specs.Outside.{Rose}
use Rattle.dm_base.specs.declared.bytes.Memory.{Memory}
use Rattle.syncml_codec.specs.Decoding.{read_of}
use Rattle.dm_machine.specs.Machine.{Machine}
use Rattle.dm_machine.specs.Machine.{Session as Open}
use Rattle.dm_machine.specs.Events.{message, Answer as Answered, sent, kept}
use Rattle.dm_machine.specs.History.{answer_now, next}
use Rattle.dm_outside.specs.declared.told.Update.{Update}
use Rattle.dm_outside.specs.Calls.{Closed, Dial, failed, talked, Calls}
use Rattle.dm_outside.specs.Updates.{first_nonce, GivesNonce}
use Rattle.dm_session.specs.declared.answers.Answer.{Answer}
use Rattle.dm_session.specs.declared.answers.Answer.TheVariants as told
use Rattle.dm_session.specs.View.{Tells, sent_last}
use Rattle.dm_device.specs.declared.exchanging.ReplyHeard.{ReplyHeard}
use Rattle.dm_device.specs.declared.exchanging.ReplyHeard.TheVariants as heard
use Rattle.dm_device.specs.declared.tally.Word.{Word}
use Rattle.dm_device.specs.declared.tally.Word.TheVariants as word
use Rattle.dm_device.specs.declared.tally.Tally.{Tally}
use Rattle.dm_http.specs.Texts.{request_text}
use Rattle.dm_device.specs.Paths.{request_path}
use Rattle.dm_device.specs.Exchanges.{IsExchange, ExchangeDoes, ExchangeCounts, Exchanges, Matches, GotWhole, GotPart}
use Rattle.dm_device.specs.Exchanges.{IsCutDial}
use Rattle.dm_device.specs.Outsides.{Outside, outside_of, OfTold, IsPosted}
use Rattle.dm_device.specs.Sessions.{Going, Turn, SessionRun, at_first, turn, turn_answering, turn_accepting, loses}
use Rattle.dm_device.specs.Sessions.{session, asks}
use Rattle.dm_device.specs.Sessions.{asks_all}
use Rattle.dm_device.specs.Sessions.{word_of_loss, after_loss}
use Rattle.dm_device.specs.Sessions.{stopped, unless_over, request_of, bytes_or_none}
use Rattle.dm_device.specs.Holding.{going_at, turned_by, UsesOne, TurnDoes, GivesUpAt, session_at}
use Rattle.dm_device.specs.Holding.{SessionDoes, SessionHolds, SessionCounts}
use Rattle.dm_device.proofs.Told.{told_then, told_as, told_same, if_told, StepDoes, step_told}

-- ---- a body

as_sent : (o : Option Open) (g : Going) (a : Answered) → IsSomeAnd o (λ (s : Open). a ≡ sent s.sent)
    → turn_answering g a ≡ turn_accepting g
as_sent None g a h = absurd h
as_sent (Some s) g a h = ap (turn_answering g) h

as_kept : (o : Option Open) (g : Going) (a : Answered) → IsSomeAnd o (λ (s : Open). a ≡ kept s.sent)
    → turn_answering g a ≡ loses g true
as_kept None g a h = absurd h
as_kept (Some s) g a h = ap (turn_answering g) h

-- what is answered does what the client's word for it does
by_word : (g : Going) (c : Machine) (answer : Answer) (a : Answered) → Tells answer c a
    → turn_answering g a ≡ turned_by g answer
by_word g c told.Sent a h = as_sent c.session g a h
by_word g c told.Kept a h = as_kept c.session g a h
by_word g c (told.Stale last) a h = ap (turn_answering g) h
by_word g c told.Stranger a h = ap (turn_answering g) h
by_word g c told.NoSession a h = ap (turn_answering g) h
by_word g c (told.Refused refusal) a h = ap (turn_answering g) h
by_word g c (told.Ended end) a h = ap (turn_answering g) h

body_turns : (c d : Machine) (t u : Tally) (bytes nonce : List ℕ) (ns ms : List (List ℕ)) (answer : Answer)
    (w : Option Word) → Tells answer d (answer_now c (message (read_of bytes) nonce))
    → d ≡ next c (message (read_of bytes) nonce)
    → turned_by (going_at d t ms) answer ≡ record { going = going_at d u ms; word = w }
    → (nonce ≡ first_nonce ns) × (ms ≡ drop 1 ns)
    → turn (going_at c t ns) (heard.Body bytes) ≡ record { going = going_at d u ms; word = w }
unfolding turn
body_turns c d t u bytes nonce ns ms answer w tells is turned used =
    ap (λ n. turn_answering (going_at (next c (message (read_of bytes) n)) t (drop 1 ns))
    (answer_now c (message (read_of bytes) n))) (sym used.0)
    ∙ ap (λ l. turn_answering (going_at (next c (message (read_of bytes) nonce)) t l)
    (answer_now c (message (read_of bytes) nonce))) (sym used.1)
    ∙ ap (λ m. turn_answering (going_at m t ms) (answer_now c (message (read_of bytes) nonce))) (sym is)
    ∙ by_word (going_at d t ms) d answer (answer_now c (message (read_of bytes) nonce)) tells
    ∙ turned

pub body_heard : (left0 left1 : Option (List (List ℕ))) (c d : Machine) (t u : Tally) (bytes nonce : List ℕ)
    (answer : Answer) (w : Option Word) → Tells answer d (answer_now c (message (read_of bytes) nonce))
    → d ≡ next c (message (read_of bytes) nonce)
    → ((e : Machine) (ns : List (List ℕ))
    → turned_by (going_at e t ns) answer ≡ record { going = going_at e u ns; word = w })
    → GivesNonce left0 left1 nonce → OfTold left0 left1 (TurnDoes c d t u (heard.Body bytes) (Ok w))
body_heard left0 left1 c d t u bytes nonce answer w tells is turned gives =
    told_as left0 left1 (λ ns ms. (nonce ≡ first_nonce ns) × (ms ≡ drop 1 ns)) _
    (λ ns ms used. body_turns c d t u bytes nonce ns ms answer w tells is (turned d ms) used)
    (if_told left0 left1 _ gives)

pub body_wants : (left0 left1 : Option (List (List ℕ))) (c d : Machine) (t u : Tally) (bytes nonce : List ℕ)
    (m : Memory)
    → GivesNonce left0 left1 nonce → OfTold left0 left1 (TurnDoes c d t u (heard.Body bytes) (Err m))
body_wants left0 left1 c d t u bytes nonce m gives =
    told_as left0 left1 (λ ns ms. (nonce ≡ first_nonce ns) × (ms ≡ drop 1 ns)) _
    (λ ns ms used. (1, omega arith, used.1)) (if_told left0 left1 _ gives)

-- ---- a loss

lost : (c : Machine) (t u : Tally) (blamed : Bool) (w : Option Word) (ns : List (List ℕ)) → w ≡ word_of_loss t blamed
    → u ≡ after_loss t blamed → loses (going_at c t ns) blamed ≡ record { going = going_at c u ns; word = w }
lost c t u blamed w ns word tally =
    ap (λ v. record { going = going_at c v ns; word = word_of_loss t blamed }) (sym tally)
    ∙ ap (λ o. record { going = going_at c u ns; word = o }) (sym word)

pub fault_heard : (left : Option (List (List ℕ))) (c : Machine) (t u : Tally) (w : Option Word)
    → w ≡ word_of_loss t false → u ≡ after_loss t false → OfTold left left (TurnDoes c c t u heard.Fault (Ok w))
unfolding turn
fault_heard left c t u w word tally = told_same left _ (λ ns. lost c t u false w ns word tally)

pub refusal_heard : (left : Option (List (List ℕ))) (c : Machine) (t u : Tally) (w : Option Word)
    → w ≡ word_of_loss t true → u ≡ after_loss t true → OfTold left left (TurnDoes c c t u heard.Refused (Ok w))
unfolding turn
refusal_heard left c t u w word tally = told_same left _ (λ ns. lost c t u true w ns word tally)

-- ---- the session so far

-- the requests so far were posted, and the session goes on behind them, whatever more is heard
abbrev pub KnownSoFar : List ℕ → List ℕ → Machine → Machine → Tally → Outside → Outside → Type 0
KnownSoFar address path c d t before after = (hs : List ReplyHeard) × (rs : List (List ℕ))
    × IsPosted address rs hs before.calls after.calls
    × ((more : List ReplyHeard) → session_at address path c before.nonces (hs ++ more)
    ≡ asks_all rs (session address path (going_at d t after.nonces) more))
    × (after.updates ≡ before.updates)

abbrev pub SoFar : Option Calls → Option Calls → Option (List (List ℕ)) → Option (List (List ℕ)) → Machine → Machine
    → Tally → List ℕ → List ℕ → Type 0
SoFar told0 told1 left0 left1 c d t address path = (us : Option (List Update))
    → OfTold (outside_of told0 us left0) (outside_of told1 us left1) (KnownSoFar address path c d t)

nothing_posted : (address : List ℕ) (s : Calls) → IsPosted address [] [] s s
nothing_posted address s = record { dials = []; made = sym (append-nil s.log); matched = tt }

pub so_far_first : (told : Option Calls) (left : Option (List (List ℕ))) (c : Machine) (address path : List ℕ)
    → SoFar told told left left c c at_first address path
so_far_first told left c address path us =
    told_same (outside_of told us left) _ (λ s. ([], [], nothing_posted address s.calls, (λ more. refl), refl))

matches_more : (address : List ℕ) (ds : List Dial) (hs : List ReplyHeard) (rs : List (List ℕ)) (d : Dial) (h : ReplyHeard)
    (r : List ℕ) → Matches address ds hs rs → IsExchange address d h r
    → Matches address (ds ++ d ∷ []) (hs ++ h ∷ []) (rs ++ r ∷ [])
matches_more address [] [] [] d h r m x = (x, tt)
matches_more address (e ∷ ds) (g ∷ hs) (q ∷ rs) d h r m x = (m.0, matches_more address ds hs rs d h r m.1 x)
matches_more address [] [] (q ∷ rs) d h r m x = absurd m
matches_more address [] (g ∷ hs) rs d h r m x = absurd m
matches_more address (e ∷ ds) [] rs d h r m x = absurd m
matches_more address (e ∷ ds) (g ∷ hs) [] d h r m x = absurd m

posted_more : (address : List ℕ) (rs : List (List ℕ)) (hs : List ReplyHeard) (s t u : Calls) (h : ReplyHeard) (r : List ℕ)
    → IsPosted address rs hs s t → ExchangeDoes address r (Ok h) t u
    → IsPosted address (rs ++ r ∷ []) (hs ++ h ∷ []) s u
posted_more address rs hs s t u h r p x = record {
  dials = p.dials ++ x.1 ∷ [];
  made = x.2 ∙ ap (λ l. l ++ x.1 ∷ []) p.made ∙ append_assoc s.log p.dials (x.1 ∷ []);
  matched = matches_more address p.dials hs rs x.1 h r p.matched x.3;
}

asks_then : (rs qs : List (List ℕ)) (s : SessionRun) → asks_all rs (asks_all qs s) ≡ asks_all (rs ++ qs) s
asks_then rs qs s =
    ap (λ l. record { requests = l; word = s.word; going = s.going }) (sym (append_assoc rs qs s.requests))

-- an exchange behind which the session goes on
goes_on : (address path : List ℕ) (g k : Going) (h : ReplyHeard) (more : List ReplyHeard)
    → turn g h ≡ record { going = k; word = None }
    → session address path g (h ∷ more) ≡ asks_all (asks address path g.machine ∷ []) (session address path k more)
goes_on address path g k h more e =
    ap (λ (t : Turn). asks_all (asks address path g.machine ∷ [])
    (unless_over t.word t.going (session address path t.going more))) e

is_over : (address path : List ℕ) (g k : Going) (h : ReplyHeard) (w : Word)
    → turn g h ≡ record { going = k; word = Some w }
    → session address path g (h ∷ []) ≡ asks_all (asks address path g.machine ∷ []) (stopped k (Some w))
is_over address path g k h w e =
    ap (λ (t : Turn). asks_all (asks address path g.machine ∷ [])
    (unless_over t.word t.going (session address path t.going []))) e

known_goes : (address path : List ℕ) (c d e : Machine) (t w : Tally) (h : ReplyHeard) (x y z : Outside)
    → KnownSoFar address path c d t x y
    → StepDoes address (asks address path d) (Ok h) (TurnDoes d e t w h (Ok None)) y z
    → KnownSoFar address path c e w x z
known_goes address path c d e t w h x y z far step =
    let hs = far.0 in
    let rs = far.1 in
    let r = asks address path d in (
      hs ++ h ∷ [],
      rs ++ r ∷ [],
      posted_more address rs hs x.calls y.calls z.calls h r far.2 step.0,
      (λ more. ap (session_at address path c x.nonces) (append_assoc hs (h ∷ []) more)
          ∙ far.3 (h ∷ more)
          ∙ ap (asks_all rs) (goes_on address path (going_at d t y.nonces) (going_at e w z.nonces) h more step.1)
          ∙ asks_then rs (r ∷ []) (session address path (going_at e w z.nonces) more)),
      step.2 ∙ far.4,
    )

pub so_far_goes : (told0 told1 told2 : Option Calls) (left0 left1 left2 : Option (List (List ℕ))) (c d e : Machine)
    (t w : Tally) (address path : List ℕ) (h : ReplyHeard)
    → SoFar told0 told1 left0 left1 c d t address path → Exchanges told1 told2 address (asks address path d) (Ok h)
    → OfTold left1 left2 (TurnDoes d e t w h (Ok None)) → SoFar told0 told2 left0 left2 c e w address path
so_far_goes told0 told1 told2 left0 left1 left2 c d e t w address path h far x turned us =
    told_then (outside_of told0 us left0) (outside_of told1 us left1) (outside_of told2 us left2) _ _ _
    (λ s y z. known_goes address path c d e t w h s y z)
    (far us)
    (step_told told1 told2 us left1 left2 address (asks address path d) (Ok h) (TurnDoes d e t w h (Ok None)) x turned)

-- ---- the session is over

known_ends : (address path : List ℕ) (c d e : Machine) (t w : Tally) (h : ReplyHeard) (v : Word) (x y z : Outside)
    → KnownSoFar address path c d t x y
    → StepDoes address (asks address path d) (Ok h) (TurnDoes d e t w h (Ok (Some v))) y z
    → SessionDoes address path c e (Ok v) x z
known_ends address path c d e t w h v x y z far step =
    let hs = far.0 in
    let rs = far.1 in
    let r = asks address path d in
    let all : session_at address path c x.nonces (hs ++ h ∷ []) ≡ asks_all (rs ++ r ∷ [])
    (stopped (going_at e w z.nonces) (Some v)) =
    far.3 (h ∷ [])
    ∙ ap (asks_all rs) (is_over address path (going_at d t y.nonces) (going_at e w z.nonces) h v step.1)
    ∙ asks_then rs (r ∷ []) (stopped (going_at e w z.nonces) (Some v)) in
    let asked : (session_at address path c x.nonces (hs ++ h ∷ [])).requests ≡ rs ++ r ∷ [] =
    ap (λ (s : SessionRun). s.requests) all ∙ append-nil (rs ++ r ∷ []) in (
      hs ++ h ∷ [],
      record {
        posts = subst (λ l. IsPosted address l (hs ++ h ∷ []) x.calls z.calls) (sym asked)
            (posted_more address rs hs x.calls y.calls z.calls h r far.2 step.0);
        word = ap (λ (s : SessionRun). s.word) all;
        machine = ap (λ (s : SessionRun). s.going.machine) all;
        nonces = sym (ap (λ (s : SessionRun). s.going.nonces) all);
        updates = step.2 ∙ far.4;
      },
    )

pub so_far_ends : (told0 told1 told2 : Option Calls) (left0 left1 left2 : Option (List (List ℕ))) (c d e : Machine)
    (t w : Tally) (address path : List ℕ) (h : ReplyHeard) (v : Word)
    → SoFar told0 told1 left0 left1 c d t address path → Exchanges told1 told2 address (asks address path d) (Ok h)
    → OfTold left1 left2 (TurnDoes d e t w h (Ok (Some v)))
    → SessionHolds told0 told2 left0 left2 c e address path (Ok v)
unfolding SessionHolds
so_far_ends told0 told1 told2 left0 left1 left2 c d e t w address path h v far x turned us =
    told_then (outside_of told0 us left0) (outside_of told1 us left1) (outside_of told2 us left2) _ _ _
    (λ s y z. known_ends address path c d e t w h v s y z)
    (far us)
    (step_told told1 told2 us left1 left2 address (asks address path d) (Ok h) (TurnDoes d e t w h (Ok (Some v))) x
    turned)

-- ---- memory was wanting

whole_part : (c : Closed) (request : List ℕ) → GotWhole c request → GotPart c request
whole_part c request got =
    (length request, got.1 ∙ ap Some (sym (take_all (length request) request (omega arith))))

-- the request that was cut goes to a path, with a message
asked_part : (address path : List ℕ) (c : Machine) (more : List Dial) → IsCutDial address (asks address path c) more
    → IsCutDial address (request_text address (request_path c.resp_uri path) (bytes_or_none (sent_last c))) more
unfolding asks
asked_part address path c more cut = cut

-- an exchange that brought something got its request, or a part of it
cut_of : (address : List ℕ) (d : Dial) (h : ReplyHeard) (request : List ℕ) → IsExchange address d h request
    → IsCutDial address request (d ∷ [])
cut_of address (failed a) heard.Fault request x = x
cut_of address (failed a) heard.Refused request x = absurd x
cut_of address (failed a) (heard.Body body) request x = absurd x
cut_of address (talked t c) heard.Fault request x = (x.0, x.2)
cut_of address (talked t c) heard.Refused request x = (x.0, whole_part c request x.1)
cut_of address (talked t c) (heard.Body body) request x = (x.0, whole_part c request x.1)

known_wants : (address path : List ℕ) (c d e : Machine) (t : Tally) (m : Memory) (x y z : Outside) (more : List Dial)
    → KnownSoFar address path c d t x y → z.calls.log ≡ y.calls.log ++ more → IsCutDial address (asks address path d) more
    → UsesOne y.nonces z.nonces → z.updates ≡ y.updates → SessionDoes address path c e (Err m) x z
known_wants address path c d e t m x y z more far grown cut used same =
    let hs = far.0 in
    let rs = far.1 in
    let p = far.2 in
    let all : session_at address path c x.nonces hs ≡ asks_all rs (stopped (going_at d t y.nonces) None) =
    ap (session_at address path c x.nonces) (sym (append-nil hs)) ∙ far.3 [] in
    let asked : (session_at address path c x.nonces hs).requests ≡ rs =
    ap (λ (s : SessionRun). s.requests) all ∙ append-nil rs in (
      hs,
      record {
        posts = record {
          dials = p.dials;
          more = more;
          made = grown ∙ ap (λ l. l ++ more) p.made ∙ append_assoc x.calls.log p.dials more;
          path = request_path d.resp_uri path;
          message = bytes_or_none (sent_last d);
          cut = asked_part address path d more cut;
          posted = length rs;
          matched = subst (Matches address p.dials hs)
              (sym (ap (take (length rs)) asked ∙ take_all (length rs) rs (omega arith))) p.matched;
        };
        word = ap (λ (s : SessionRun). s.word) all;
        nonces = subst (λ l. UsesOne l z.nonces) (sym (ap (λ (s : SessionRun). s.going.nonces) all)) used;
        updates = same ∙ far.4;
      },
    )

pub wants_in_exchange : (told0 told1 told2 : Option Calls) (left0 left1 : Option (List (List ℕ))) (c d : Machine)
    (t : Tally) (address path : List ℕ) (m : Memory)
    → SoFar told0 told1 left0 left1 c d t address path → Exchanges told1 told2 address (asks address path d) (Err m)
    → SessionHolds told0 told2 left0 left1 c d address path (Err m)
unfolding SessionHolds
wants_in_exchange told0 told1 told2 left0 left1 c d t address path m far x us =
    told_then (outside_of told0 us left0) (outside_of told1 us left1) (outside_of told2 us left1) _ _ _
    (λ s y z now step. known_wants address path c d d t m s y z step.0.1.0 now step.0.1.1 step.0.1.2
    (0, omega arith, step.1) step.2)
    (far us)
    (step_told told1 told2 us left1 left1 address (asks address path d) (Err m) (λ ns ms. ms ≡ ns) x
    (told_same left1 _ (λ ns. refl)))

pub wants_in_turn : (told0 told1 told2 : Option Calls) (left0 left1 left2 : Option (List (List ℕ))) (c d e : Machine)
    (t w : Tally) (address path : List ℕ) (h : ReplyHeard) (m : Memory)
    → SoFar told0 told1 left0 left1 c d t address path → Exchanges told1 told2 address (asks address path d) (Ok h)
    → OfTold left1 left2 (TurnDoes d e t w h (Err m)) → SessionHolds told0 told2 left0 left2 c e address path (Err m)
unfolding SessionHolds
wants_in_turn told0 told1 told2 left0 left1 left2 c d e t w address path h m far x turned us =
    told_then (outside_of told0 us left0) (outside_of told1 us left1) (outside_of told2 us left2) _ _ _
    (λ s y z now step. known_wants address path c d e t m s y z (step.0.1 ∷ []) now step.0.2
    (cut_of address step.0.1 h (asks address path d) step.0.3) step.1 step.2)
    (far us)
    (step_told told1 told2 us left1 left2 address (asks address path d) (Ok h) (TurnDoes d e t w h (Err m)) x turned)

-- ---- the dialer's count

not_fallen : (before now : ℕ) (r : Result ReplyHeard Memory) → ExchangeCounts before now r → before ≤ now
not_fallen before now (Ok heard.Fault) h = h.0
not_fallen before now (Ok heard.Refused) h = omega (arith, h)
not_fallen before now (Ok (heard.Body bytes)) h = omega (arith, h)
not_fallen before now (Err m) h = omega (arith, h)

pub count_up : (a b c : ℕ) (r : Result ReplyHeard Memory) → a ≤ b → ExchangeCounts b c r → a ≤ c
count_up a b c r low count = let same = not_fallen b c r count in omega (arith, low, same)

rose_later : (a b c : ℕ) → a ≤ b → Rose b c → Rose a c
rose_later a b c low rose = let p = rose.0 in let q = rose.1 in (omega (arith, low, p), omega (arith, low, q))

-- it rose where the session was given up
pub given_up : (a b c : ℕ) (h : ReplyHeard) (w : Word) → a ≤ b → ExchangeCounts b c (Ok h) → GivesUpAt h (Ok (Some w))
    → SessionCounts a c (Ok w)
given_up a b c h word.Finished low count is = let p = not_fallen b c (Ok h) count in omega (arith, low, p)
given_up a b c h word.Aborted low count is = let p = not_fallen b c (Ok h) count in omega (arith, low, p)
given_up a b c h word.Denied low count is = let p = not_fallen b c (Ok h) count in omega (arith, low, p)
given_up a b c h word.Peer low count is = let p = not_fallen b c (Ok h) count in omega (arith, low, p)
given_up a b c heard.Fault word.GaveUp low count is = rose_later a b c low count
given_up a b c heard.Refused word.GaveUp low count is = absurd is
given_up a b c (heard.Body bytes) word.GaveUp low count is = absurd is

-- ---- the message sent last is posted

pub asked_last : (told0 told1 : Option Calls) (address path : List ℕ) (c : Machine) (m : Option (List ℕ))
    (r : Result ReplyHeard Memory) → m ≡ sent_last c → Exchanges told0 told1 address (request_of address path c m) r
    → Exchanges told0 told1 address (asks address path c) r
unfolding asks
asked_last told0 told1 address path c m r is x =
    subst (λ o. Exchanges told0 told1 address (request_of address path c o) r) is x
