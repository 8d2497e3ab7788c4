-- What the parts of one exchange of a server make together.
use Rattle.std.proofs.Common.{◌≡◌, ◌++◌, ◌⊎◌, ℕ, List, [], inl, inr, refl, sym, subst, Result, Ok, Err}
use Rattle.std.specs.declared.option.Option.{Option}
use Rattle.std.specs.Io.KnownBytes.{IsAtEnd}
use Rattle.dm_core.specs.Machines.{CoreMachine}
use Rattle.dm_heads.specs.declared.errors.HttpError.{HttpError}
use Rattle.dm_heads.specs.declared.errors.HttpError.TheVariants as error
use Rattle.dm_heads.specs.declared.heads.HeadKind.TheVariants as kind
use Rattle.dm_heads.specs.Messages.{Brings, Settles}
use Rattle.dm_heads.specs.Receiving.{ReceivesBody, TakesWhole}
use Rattle.dm_heads.proofs.Holding.{no_request_status}
use Rattle.dm_http.specs.Serves.{AnswersMessage, ExchangeState, IsUnread, PutsRefusal, PutsText, RefusesRequest}
use Rattle.dm_http.specs.Serves.{ServesOne}

pub put_known : (old new : Option (List ℕ)) (text wanted : List ℕ) (r : Result (Unit {0}) HttpError) → text ≡ wanted
    → PutsText old new text r → PutsText old new wanted r
put_known old new text wanted r same put = subst (λ t. PutsText old new t r) same put

-- ---- a request that was read

serves : {S : Type 0} (m : CoreMachine S) (nonce : List ℕ) (l0 l1 g0 g1 : Option (List ℕ)) (s t : S) (body : List ℕ)
    (r : Result (Unit {0}) HttpError) → TakesWhole kind.Request [] l0 l1 (Ok body) → AnswersMessage m nonce g0 g1 s t body r
    → ServesOne m nonce (record { left = l0; got = g0; core = s }) (record { left = l1; got = g1; core = t }) r
unfolding ServesOne AnswersMessage
serves m nonce l0 l1 g0 g1 s t body (Ok u) whole (inl put) = (body, (whole, put.0), put.1)
serves m nonce l0 l1 g0 g1 s t body (Ok u) whole (inr none) = cc
serves m nonce l0 l1 g0 g1 s t body (Err error.Failed) whole (inl put) = inr (inl (body, (whole, put.0), put.1))
serves m nonce l0 l1 g0 g1 s t body (Err error.Failed) whole (inr none) = cc
serves m nonce l0 l1 g0 g1 s t body (Err error.Memory) whole (inl put) = inr (inl (body, (whole, put.0), put.1))
serves m nonce l0 l1 g0 g1 s t body (Err error.Memory) whole (inr none) = inl ((whole.0, whole.1), none.1, none.2)
serves m nonce l0 l1 g0 g1 s t body (Err error.BadHead) whole (inl put) = absurd put.1
serves m nonce l0 l1 g0 g1 s t body (Err error.BadHead) whole (inr none) = cc
serves m nonce l0 l1 g0 g1 s t body (Err error.TooLong) whole (inl put) = absurd put.1
serves m nonce l0 l1 g0 g1 s t body (Err error.TooLong) whole (inr none) = cc
serves m nonce l0 l1 g0 g1 s t body (Err error.Cut) whole (inl put) = absurd put.1
serves m nonce l0 l1 g0 g1 s t body (Err error.Cut) whole (inr none) = cc
serves m nonce l0 l1 g0 g1 s t body (Err (error.NotOk code)) whole (inl put) = absurd put.1
serves m nonce l0 l1 g0 g1 s t body (Err (error.NotOk code)) whole (inr none) = cc

pub serves_read : {S : Type 0} (m : CoreMachine S) (nonce : List ℕ) (l0 l1 l2 g0 g1 g2 : Option (List ℕ)) (s t : S)
    (body slice : List ℕ) (r : Result (Unit {0}) HttpError) → slice ≡ body → ReceivesBody kind.Request [] l0 l1 (Ok body)
    → l2 ≡ l1 → g1 ≡ g0 → AnswersMessage m nonce g1 g2 s t slice r
    → ServesOne m nonce (record { left = l0; got = g0; core = s }) (record { left = l2; got = g2; core = t }) r
unfolding ReceivesBody
serves_read m nonce l0 l1 l2 g0 g1 g2 s t body slice r same taken left got put =
    let at = subst (λ g. AnswersMessage m nonce g g2 s t body r) got (subst (λ b. AnswersMessage m nonce g1 g2 s t b r) same put) in
    let whole = subst (λ l. TakesWhole kind.Request [] l0 l (Ok body)) (sym left) taken in
    serves m nonce l0 l2 g0 g2 s t body r whole at

-- ---- a request that wasn't

taken_whole : (l0 l1 : Option (List ℕ)) (e : HttpError) → IsUnread e → ReceivesBody kind.Request [] l0 l1 (Err e)
    → TakesWhole kind.Request [] l0 l1 (Err e)
unfolding ReceivesBody
taken_whole l0 l1 error.BadHead unread taken = taken
taken_whole l0 l1 error.TooLong unread taken = taken
taken_whole l0 l1 error.Cut unread taken = taken
taken_whole l0 l1 error.Failed unread taken = absurd unread
taken_whole l0 l1 error.Memory unread taken = absurd unread
taken_whole l0 l1 (error.NotOk code) unread taken = absurd unread

told : {S : Type 0} (m : CoreMachine S) (nonce : List ℕ) (old new : ExchangeState S) (e : HttpError) → IsUnread e
    → RefusesRequest old new e → ServesOne m nonce old new (Err e)
unfolding ServesOne
told m nonce old new error.BadHead unread h = h
told m nonce old new error.TooLong unread h = h
told m nonce old new error.Cut unread h = h
told m nonce old new error.Failed unread h = absurd unread
told m nonce old new error.Memory unread h = absurd unread
told m nonce old new (error.NotOk code) unread h = absurd unread

refuses : {S : Type 0} (m : CoreMachine S) (nonce : List ℕ) (l0 l1 g0 g1 : Option (List ℕ)) (s : S) (why : HttpError)
    (r : Result (Unit {0}) HttpError) → IsUnread why → TakesWhole kind.Request [] l0 l1 (Err why) → PutsRefusal g0 g1 why r
    → ServesOne m nonce (record { left = l0; got = g0; core = s }) (record { left = l1; got = g1; core = s }) r
unfolding ServesOne
refuses m nonce l0 l1 g0 g1 s why (Ok u) unread whole put = absurd put
refuses m nonce l0 l1 g0 g1 s why (Err e) unread whole (inl put) =
    subst (λ x. ServesOne m nonce (record { left = l0; got = g0; core = s }) (record { left = l1; got = g1; core = s }) (Err x))
    (sym put.0) (told m nonce _ _ why unread (whole, put.1, refl))
refuses m nonce l0 l1 g0 g1 s why (Err error.Failed) unread whole (inr put) = inr (inr (why, whole, put, refl))
refuses m nonce l0 l1 g0 g1 s why (Err error.Memory) unread whole (inr put) = inr (inr (why, whole, put, refl))
refuses m nonce l0 l1 g0 g1 s why (Err error.BadHead) unread whole (inr put) = absurd put
refuses m nonce l0 l1 g0 g1 s why (Err error.TooLong) unread whole (inr put) = absurd put
refuses m nonce l0 l1 g0 g1 s why (Err error.Cut) unread whole (inr put) = absurd put
refuses m nonce l0 l1 g0 g1 s why (Err (error.NotOk code)) unread whole (inr put) = absurd put

pub serves_unread : {S : Type 0} (m : CoreMachine S) (nonce : List ℕ) (l0 l1 l2 g0 g1 g2 : Option (List ℕ)) (s : S)
    (e why : HttpError) (r : Result (Unit {0}) HttpError) → e ≡ why → IsUnread why → ReceivesBody kind.Request [] l0 l1 (Err e)
    → l2 ≡ l1 → g1 ≡ g0 → PutsRefusal g1 g2 why r
    → ServesOne m nonce (record { left = l0; got = g0; core = s }) (record { left = l2; got = g2; core = s }) r
serves_unread m nonce l0 l1 l2 g0 g1 g2 s e why r is unread taken left got put =
    let at = subst (λ g. PutsRefusal g g2 why r) got put in
    let known = subst (λ x. ReceivesBody kind.Request [] l0 l1 (Err x)) is taken in
    let whole = taken_whole l0 l2 why unread (subst (λ l. ReceivesBody kind.Request [] l0 l (Err why)) (sym left) known) in
    refuses m nonce l0 l2 g0 g2 s why r unread whole at

-- ---- a request is never refused for a status

by_settled : (piece : List ℕ) (new : Option (List ℕ)) (code : ℕ) → Settles kind.Request piece (Err (error.NotOk code))
    ⊎ (IsAtEnd new × Brings kind.Request piece (Err (error.NotOk code))) → ⊥
by_settled piece new code (inl s) = no_request_status (piece ++ []) code (s [])
by_settled piece new code (inr e) = no_request_status piece code e.1

status_whole : (l0 l1 : Option (List ℕ)) (code : ℕ) → ReceivesBody kind.Request [] l0 l1 (Err (error.NotOk code))
    → TakesWhole kind.Request [] l0 l1 (Err (error.NotOk code))
unfolding ReceivesBody
status_whole l0 l1 code taken = taken

pub never_for_status : (l0 l1 : Option (List ℕ)) (e : HttpError) (code : ℕ) → e ≡ error.NotOk code
    → ReceivesBody kind.Request [] l0 l1 (Err e) → ⊥
never_for_status l0 l1 e code is taken =
    let whole = status_whole l0 l1 code (subst (λ x. ReceivesBody kind.Request [] l0 l1 (Err x)) is taken) in
    by_settled whole.0 l1 code whole.2
