-- What an exchange makes of a connection that was let in.
use Rattle.std.proofs.Common.{◌≡◌, ◌<◌, ◌+◌, ◌⊎◌, ℕ, zero, suc, Bool, true, false, cond, leb, List, [], inl, inr, refl}
use Rattle.std.proofs.Common.{sym, ap, subst, ◌∙◌}
use Rattle.std.proofs.Common.{Ok, Err, Result, Some, None, arith, length, take, append-nil}
use Rattle.std.specs.declared.option.Option.{Option}
use Rattle.std.specs.Io.KnownBytes.{Appends, Consumes, IsAtEnd, Keeps}
use Rattle.dm_base.specs.Outside.{Rose}
use Rattle.dm_heads.specs.declared.errors.HttpError.{HttpError}
use Rattle.dm_heads.specs.declared.errors.HttpError.TheVariants as error
use Rattle.dm_heads.specs.declared.extents.BodyExtent.{BodyExtent}
use Rattle.dm_heads.specs.declared.extents.BodyExtent.TheVariants as extent
use Rattle.dm_heads.specs.declared.extents.HeadVerdict.{HeadVerdict}
use Rattle.dm_heads.specs.declared.extents.HeadVerdict.TheVariants as verdict
use Rattle.dm_heads.specs.declared.heads.HeadKind.TheVariants as kind
use Rattle.dm_heads.specs.Extents.{sized_verdict}
use Rattle.dm_heads.specs.Messages.{HasHead, Brings, Settles, body_of}
use Rattle.dm_heads.specs.Asking.{Wants, WantsBody}
use Rattle.dm_heads.specs.Receiving.{TakesWhole}
use Rattle.dm_heads.proofs.OneAnswer.{one_answer_each}
use Rattle.dm_heads.proofs.MoreBytes.{left_if, not_leb, given, refused}
use Rattle.dm_core.specs.Machines.{CoreMachine}
use Rattle.dm_http.specs.Posts.{PutsBeginning, StreamCounts}
use Rattle.dm_http.specs.Replies.{refusal_reply}
use Rattle.dm_http.specs.Serves.{ExchangeState, RefusesRequest, AnswersRequest, StopsTaking, StopsReplying}
use Rattle.dm_http.specs.Serves.{StopsRefusing, ServesOne, reply_for}
use Rattle.dm_outside.specs.Calls.{Closed}
use Rattle.dm_outside.specs.Doors.{Visit, visited}
use Rattle.dm_outside.specs.Updates.{first_nonce}
use Rattle.dm_serving.specs.Visits.{Brought, asked, nothing, Serving, reply_to, core_after, HoldsRequest, IsEnough}
use Rattle.dm_serving.specs.Visits.{IsVisit, GotBeginning, IsCutVisit}
use Rattle.dm_serving.specs.Turns.{serving_at, IsServed}

-- ---- what was taken holds no whole request

other_answers : (body : List ℕ) (e : HttpError) → refused e ≡ given body → ⊥
other_answers body e is = cc

-- bytes that bring a refusal bring no message
refused_none : (taken : List ℕ) (e : HttpError) → Brings kind.Request taken (refused e) → HoldsRequest taken nothing
unfolding Brings
refused_none taken e brings body (inl x) = other_answers body e (one_answer_each kind.Request taken (given body) (refused e) x brings)
refused_none taken e brings body (inr h) = h

not_unsized : (b : Bool) (e : BodyExtent) → verdict.Unsized ≡ cond b (sized_verdict e) verdict.BadHead → ⊥
not_unsized false e is = cc
not_unsized true extent.Faulty is = cc
not_unsized true extent.TooLong is = cc
not_unsized true (extent.Sized n) is = cc
not_unsized true extent.Unsized is = cc

-- a request's head says its length
request_sized : (taken rest : List ℕ) → HasHead kind.Request taken verdict.Unsized rest → ⊥
unfolding HasHead
request_sized taken rest h = not_unsized _ _ h.4

open_none : (taken : List ℕ) (v : HeadVerdict) (rest body : List ℕ) → HasHead kind.Request taken v rest → WantsBody v rest
    → given body ≡ body_of v rest → ⊥
open_none taken (verdict.Sized n) rest body head wants is =
    other_answers body error.Cut (left_if (leb n (length rest)) (given (take n rest)) (refused error.Cut) (not_leb n (length rest) wants) ∙ sym is)
open_none taken verdict.Unsized rest body head wants is = request_sized taken rest head
open_none taken verdict.BadHead rest body head wants is = wants
open_none taken (verdict.NotOk code) rest body head wants is = wants
open_none taken verdict.TooLong rest body head wants is = wants

no_head : (taken : List ℕ) (body : List ℕ) → ((v : HeadVerdict) (rest : List ℕ) → HasHead kind.Request taken v rest → ⊥)
    → Brings kind.Request taken (given body) → ⊥
unfolding Brings
no_head taken body none (inl x) = none x.0 x.1 x.2
no_head taken body none (inr h) = h

-- bytes that want more bring no message
wanted_none : (taken : List ℕ) → Wants kind.Request taken → HoldsRequest taken nothing
wanted_none taken (inl w) body brings = no_head taken body w.1 brings
wanted_none taken (inr w) body brings =
    open_none taken w.0 w.1 body w.2 w.3
    (one_answer_each kind.Request taken (body_of w.0 w.1) (given body) (w.0, w.1, w.2, refl) brings)

-- ---- what was taken, and what was got

taken_brings : (taken : List ℕ) (new : Option (List ℕ)) (r : Result (List ℕ) HttpError)
    → Settles kind.Request taken r ⊎ (IsAtEnd new × Brings kind.Request taken r) → Brings kind.Request taken r
taken_brings taken new r (inl s) = subst (λ b. Brings kind.Request b r) (append-nil taken) (s [])
taken_brings taken new r (inr e) = e.1

enough : (taken rest : List ℕ) (r : Result (List ℕ) HttpError)
    → Settles kind.Request taken r ⊎ (IsAtEnd (Some rest) × Brings kind.Request taken r) → IsEnough taken rest
enough taken rest r (inl s) = inl (r, s)
enough taken rest r (inr e) = inr e.0

got_all : (got : Option (List ℕ)) (text : List ℕ) → Appends (Some []) got text → got ≡ Some text
got_all None text h = absurd h
got_all (Some x) text h = ap Some h

nothing_got : (got : Option (List ℕ)) → Keeps (Some []) got → Appends (Some []) got (take 0 refusal_reply)
nothing_got None h = absurd h
nothing_got (Some x) h = h

got_none : (got : Option (List ℕ)) → Keeps (Some []) got → got ≡ Some []
got_none None h = absurd h
got_none (Some x) h = ap Some h

rose_some : (now : ℕ) → Rose 0 now → 0 < now
rose_some now rose = omega (arith, rose.1)

abbrev closed_as : ℕ → Option (List ℕ) → Option (List ℕ) → Closed
closed_as f got left = record { faults = f; got = got; left = left }

-- it got its whole reply
whole : (held : List ℕ) (f : ℕ) (got left : Option (List ℕ)) (r : Result (List ℕ) HttpError) (b : Brought) (reply : List ℕ)
    → f ≡ 0 → TakesWhole kind.Request [] (Some held) left r → ((taken : List ℕ) → Brings kind.Request taken r → HoldsRequest taken b)
    → Appends (Some []) got reply → IsVisit (visited held (closed_as f got left)) b reply
whole held zero got None r b reply none w holds put = absurd w.1
whole held zero got (Some rest) r b reply none w holds put =
    (w.0, rest, (w.1, refl), holds w.0 (taken_brings w.0 (Some rest) r w.2), (got_all got reply put, enough w.0 rest r w.2))
whole held (suc f) got left r b reply none w holds put = absurd (omega (arith, none))

-- it failed
part : (held : List ℕ) (f : ℕ) (got left : Option (List ℕ)) (taken : List ℕ) (b : Brought) (reply : List ℕ)
    → 0 < f → Consumes (Some held) left taken → HoldsRequest taken b → PutsBeginning (Some []) got reply
    → IsVisit (visited held (closed_as f got left)) b reply
part held zero got left taken b reply some gone holds put = absurd (omega (arith, some))
part held (suc f) got None taken b reply some gone holds put = absurd gone
part held (suc f) got (Some rest) taken b reply some gone holds put =
    (taken, rest, (gone, refl), holds, (put.0, got_all got (take put.0 reply) put.1))

-- memory was wanting behind what was taken
cut_part : {S : Type 0} (m : CoreMachine S) (g : Serving S) (held : List ℕ) (f : ℕ) (got left : Option (List ℕ))
    (taken : List ℕ) (b : Brought) → Consumes (Some held) left taken → HoldsRequest taken b
    → PutsBeginning (Some []) got (reply_to m g b) → GotBeginning m g held (closed_as f got left)
cut_part m g held f got None taken b gone holds put = absurd gone
cut_part m g held f got (Some rest) taken b gone holds put =
    (b, taken, rest, (gone, refl), holds, (put.0, got_all got (take put.0 (reply_to m g b)) put.1))

-- ---- by the answer of the exchange

abbrev exchange_at : {S : Type 0} → Option (List ℕ) → Option (List ℕ) → S → ExchangeState S
exchange_at left got core = record { left = left; got = got; core = core }

-- a connection brought something, got the reply to that, and the machine is where that leads
abbrev pub IsAnswered : {S : Type 0} → CoreMachine S → Serving S → S → Visit → Type 0
IsAnswered m g d v = (b : Brought) × IsVisit v b (reply_to m g b) × (d ≡ core_after m g b)

none_failed : (a b c d : ℕ) → a ≡ 0 → c ≡ 0 → (b ≡ a) × (d ≡ c) → b + d ≡ 0
none_failed a b c d e f same = let p = same.0 in let q = same.1 in omega (arith, e, f, p, q)

some_failed : (t p : ℕ) → (Rose 0 t × (p ≡ 0)) ⊎ ((t ≡ 0) × Rose 0 p) → 0 < t + p
some_failed t p (inl r) = let a = rose_some t r.0 in omega (arith, a)
some_failed t p (inr r) = let a = rose_some p r.1 in omega (arith, a)

refused_visit : {S : Type 0} (m : CoreMachine S) (c d : S) (nonces : List (List ℕ)) (held : List ℕ) (left got : Option (List ℕ))
    (f : ℕ) (e : HttpError) → f ≡ 0 → RefusesRequest (exchange_at (Some held) (Some []) c) (exchange_at left got d) e
    → IsAnswered m (serving_at c nonces) d (visited held (closed_as f got left))
refused_visit m c d nonces held left got f e none r =
    (nothing, whole held f got left (refused e) nothing refusal_reply none r.0 (λ taken. refused_none taken e) r.1, r.2)

abbrev OnTaking : {S : Type 0} → S → S → List ℕ → Option (List ℕ) → Option (List ℕ) → Type 0
OnTaking c d held left got = StopsTaking (exchange_at (Some held) (Some []) c) (exchange_at left got d)

abbrev OnReplying : {S : Type 0} → CoreMachine S → List (List ℕ) → S → S → List ℕ → Option (List ℕ) → Option (List ℕ) → Type 0
OnReplying m nonces c d held left got =
    StopsReplying m (first_nonce nonces) (exchange_at (Some held) (Some []) c) (exchange_at left got d)

abbrev OnRefusing : {S : Type 0} → S → S → List ℕ → Option (List ℕ) → Option (List ℕ) → Type 0
OnRefusing c d held left got = StopsRefusing (exchange_at (Some held) (Some []) c) (exchange_at left got d)

failed_visit : {S : Type 0} (m : CoreMachine S) (c d : S) (nonces : List (List ℕ)) (held : List ℕ) (left got : Option (List ℕ)) (f : ℕ)
    → 0 < f → OnTaking c d held left got ⊎ (OnReplying m nonces c d held left got ⊎ OnRefusing c d held left got)
    → IsAnswered m (serving_at c nonces) d (visited held (closed_as f got left))
failed_visit m c d nonces held left got f some (inl x) = (
  nothing,
  part held f got left x.0.0 nothing refusal_reply some x.0.1 (wanted_none x.0.0 x.0.2)
      (0, nothing_got got x.1),
  x.2,
)
failed_visit m c d nonces held left got f some (inr (inl x)) =
    let w = x.1.0 in (
      asked x.0,
      part held f got left w.0 (asked x.0) (reply_for m (first_nonce nonces) c x.0) some w.1
          (taken_brings w.0 left (given x.0) w.2) x.2,
      x.1.1,
    )
failed_visit m c d nonces held left got f some (inr (inr x)) =
    let w = x.1 in (
      nothing,
      part held f got left w.0 nothing refusal_reply some w.1
          (refused_none w.0 x.0 (taken_brings w.0 left (refused x.0) w.2)) x.2,
      x.3,
    )

replied_visit : {S : Type 0} (m : CoreMachine S) (c d : S) (nonces : List (List ℕ)) (held : List ℕ) (left got : Option (List ℕ)) (f : ℕ)
    → f ≡ 0 → AnswersRequest m (first_nonce nonces) (exchange_at (Some held) (Some []) c) (exchange_at left got d)
    → IsAnswered m (serving_at c nonces) d (visited held (closed_as f got left))
replied_visit m c d nonces held left got f none x =
    (asked x.0, whole held f got left (given x.0) (asked x.0) (reply_for m (first_nonce nonces) c x.0) none x.1.0 (λ taken h. h) x.2, x.1.1)

pub answered : {S : Type 0} (m : CoreMachine S) (c d : S) (nonces : List (List ℕ)) (held : List ℕ) (left got : Option (List ℕ))
    (t p : ℕ) (r : Result (Unit {0}) HttpError) → IsServed r
    → ServesOne m (first_nonce nonces) (exchange_at (Some held) (Some []) c) (exchange_at left got d) r → StreamCounts 0 t 0 p r
    → IsAnswered m (serving_at c nonces) d (visited held (closed_as (t + p) got left))
unfolding ServesOne StreamCounts
answered m c d nonces held left got t p (Ok u) over serves counts =
    replied_visit m c d nonces held left got (t + p) (none_failed 0 t 0 p refl refl counts) serves
answered m c d nonces held left got t p (Err error.Failed) over serves counts =
    failed_visit m c d nonces held left got (t + p) (some_failed t p counts) serves
answered m c d nonces held left got t p (Err error.Memory) over serves counts = absurd over
answered m c d nonces held left got t p (Err error.BadHead) over serves counts =
    refused_visit m c d nonces held left got (t + p) error.BadHead (none_failed 0 t 0 p refl refl counts) serves
answered m c d nonces held left got t p (Err error.TooLong) over serves counts =
    refused_visit m c d nonces held left got (t + p) error.TooLong (none_failed 0 t 0 p refl refl counts) serves
answered m c d nonces held left got t p (Err error.Cut) over serves counts =
    refused_visit m c d nonces held left got (t + p) error.Cut (none_failed 0 t 0 p refl refl counts) serves
answered m c d nonces held left got t p (Err (error.NotOk code)) over serves counts = absurd serves

pub cut_by : {S : Type 0} (m : CoreMachine S) (c d : S) (nonces : List (List ℕ)) (held : List ℕ) (left got : Option (List ℕ)) (f : ℕ)
    → ServesOne m (first_nonce nonces) (exchange_at (Some held) (Some []) c) (exchange_at left got d) (Err error.Memory)
    → IsCutVisit m (serving_at c nonces) (visited held (closed_as f got left))
unfolding ServesOne
cut_by m c d nonces held left got f (inl x) = inl (got_none got x.1)
cut_by m c d nonces held left got f (inr (inl x)) =
    let w = x.1.0 in
    inr (cut_part m (serving_at c nonces) held f got left w.0 (asked x.0) w.1 (taken_brings w.0 left (given x.0) w.2) x.2)
cut_by m c d nonces held left got f (inr (inr x)) =
    let w = x.1 in
    inr (cut_part m (serving_at c nonces) held f got left w.0 nothing w.1
    (refused_none w.0 x.0 (taken_brings w.0 left (refused x.0) w.2)) x.2)
