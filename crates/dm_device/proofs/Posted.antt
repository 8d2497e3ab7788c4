-- One exchange, from what the dial, the post and the close do.
use Rattle.std.proofs.Common.{◌≡◌, ◌<◌, ◌+◌, ◌++◌, ◌⊎◌, ℕ, suc, zero, List, [], ◌∷◌, inl, inr, refl, sym, ap, subst}
use Rattle.std.proofs.Common.{◌∙◌}
use Rattle.std.proofs.Common.{arith, length, take, drop, Ok, Err, Some, None, append-nil, length-append}
use Rattle.std.specs.Prelude.{Option, Result}
use Rattle.std.specs.Io.KnownBytes.{Appends, IsAtEnd}
use Rattle.dm_base.specs.Outside.{Rose}
use Rattle.dm_base.specs.declared.outside.Fault.TheVariants as fault
use Rattle.dm_base.specs.declared.bytes.Memory.{Memory}
use Rattle.dm_heads.specs.declared.errors.HttpError.{HttpError}
use Rattle.dm_heads.specs.declared.errors.HttpError.TheVariants as error
use Rattle.dm_heads.specs.declared.heads.HeadKind.{HeadKind}
use Rattle.dm_heads.specs.declared.heads.HeadKind.TheVariants as kind
use Rattle.dm_heads.specs.Messages.{Brings, Settles}
use Rattle.dm_heads.specs.Receiving.{ReceivesBody, TakesWhole}
use Rattle.dm_http.specs.Posts.{PutsRequest, TakesReply, StreamCounts}
use Rattle.dm_outside.specs.Calls.{Closed, Dial, failed, talked, Calls, Dials, DialerCloses, closed_conn, handed_out}
use Rattle.dm_outside.specs.Calls.{given_back, HasOut, CloseCounts, IsIdle}
use Rattle.dm_device.specs.declared.exchanging.ReplyHeard.{ReplyHeard}
use Rattle.dm_device.specs.declared.exchanging.ReplyHeard.TheVariants as heard
use Rattle.dm_device.specs.Exchanges.{heard_of, IsExchange, IsCutDial, ExchangeDoes, Exchanges}
use Rattle.dm_device.specs.Exchanges.{ExchangeCounts}

-- ---- the dial and the close

pub has_out : {C : Type 0} (left got : C → Option (List ℕ)) (c : C) (told0 told1 : Option Calls) (address : List ℕ)
    → Dials told0 told1 address left got (Ok c) → HasOut told1
has_out left got c None None address d = tt
has_out left got c None (Some t) address d = absurd d
has_out left got c (Some s) None address d = absurd d
has_out left got c (Some s) (Some t) address d =
    let long = length-append s.out ((record { address = address; held = d.0.held }) ∷ []) in
    let same = ap (λ (w : Calls). length w.out) d.2 in
    omega (arith, long, same)

-- the calls after a connection was handed out and given back, where none was out
round : (s t u : Calls) (address held : List ℕ) (c : Closed) → s.out ≡ [] → t ≡ handed_out s address held
    → u ≡ given_back t t.out c
    → u ≡ record {
      to_come = drop 1 s.to_come;
      out = [];
      log = s.log ++ talked (record { address = address; held = held }) c ∷ [];
    }
round s t u address held c idle dialled closed =
    closed ∙ ap (λ w. given_back w w.out c) dialled
    ∙ ap (λ o. given_back (handed_out s address held) (o ++ (record { address = address; held = held }) ∷ []) c) idle

-- what a dial brought, or what was done of it for want of memory
abbrev Brought : List ℕ → List ℕ → Dial → Result ReplyHeard Memory → Type 0
Brought address request d (Ok h) = IsExchange address d h request
Brought address request d (Err e) = IsCutDial address request (d ∷ [])

-- by what was heard: one dial was made, and this is it
does : (s u : Calls) (address request : List ℕ) (d : Dial) (r : Result ReplyHeard Memory) → u.out ≡ []
    → u.log ≡ s.log ++ d ∷ [] → Brought address request d r → ExchangeDoes address request r s u
does s u address request d (Ok h) out log is = (out, d, log, is)
does s u address request d (Err e) out log is = (out, (d ∷ [], log, is))

pub exchanged : {C : Type 0} (left got : C → Option (List ℕ)) (takes puts : C → ℕ) (c0 c1 : C)
    (told0 told1 told2 : Option Calls) (address request : List ℕ) (r : Result ReplyHeard Memory)
    → IsIdle told0 → Dials told0 told1 address left got (Ok c0)
    → DialerCloses told1 told2 (closed_conn left got takes puts c1)
    → ((held : List ℕ) → left c0 ≡ Some held → got c0 ≡ Some []
    → Brought address request (talked (record { address = address; held = held }) (closed_conn left got takes puts c1))
    r)
    → Exchanges told0 told2 address request r
unfolding Exchanges
exchanged left got takes puts c0 c1 None None None address request r idle d k f = tt
exchanged left got takes puts c0 c1 None None (Some u) address request r idle d k f = absurd k
exchanged left got takes puts c0 c1 None (Some t) told2 address request r idle d k f = absurd d
exchanged left got takes puts c0 c1 (Some s) None told2 address request r idle d k f = absurd d
exchanged left got takes puts c0 c1 (Some s) (Some t) None address request r idle d k f = absurd k
exchanged left got takes puts c0 c1 (Some s) (Some t) (Some u) address request r idle d k f =
    let e = round s t u address d.0.held (closed_conn left got takes puts c1) idle d.2 k in
    does s u address request (talked (record { address = address; held = d.0.held })
    (closed_conn left got takes puts c1))
    r (ap (λ (w : Calls). w.out) e) (ap (λ (w : Calls). w.log) e) (f d.0.held d.3 d.4)

pub not_dialled : {C : Type 0} (left got : C → Option (List ℕ)) (told0 told1 : Option Calls) (address request : List ℕ)
    → IsIdle told0 → Dials {C = C} told0 told1 address left got (Err fault.Failed)
    → Exchanges told0 told1 address request (Ok heard.Fault)
unfolding Exchanges
not_dialled left got None None address request idle d = tt
not_dialled left got None (Some t) address request idle d = absurd d
not_dialled left got (Some s) None address request idle d = absurd d
not_dialled left got (Some s) (Some t) address request idle d =
    (ap (λ (w : Calls). w.out) d.1 ∙ idle, failed address, ap (λ (w : Calls). w.log) d.1, refl)

pub not_asked : {C : Type 0} (left got : C → Option (List ℕ)) (told0 told1 : Option Calls) (address request : List ℕ)
    → IsIdle told0 → Dials {C = C} told0 told1 address left got (Err fault.Memory)
    → Exchanges told0 told1 address request (Err record {})
unfolding Exchanges
not_asked left got None None address request idle d = tt
not_asked left got None (Some t) address request idle d = absurd d
not_asked left got (Some s) None address request idle d = absurd d
not_asked left got (Some s) (Some t) address request idle d =
    (ap (λ (w : Calls). w.out) d ∙ idle, ([], ap (λ (w : Calls). w.log) d ∙ sym (append-nil s.log), tt))

-- ---- the post

by_settled : (k : HeadKind) (piece left : List ℕ) (r : Result (List ℕ) HttpError)
    → Settles k piece r ⊎ (IsAtEnd (Some left) × Brings k piece r) → Brings k (piece ++ left) r
by_settled k piece left r (inl s) = s left
by_settled k piece left r (inr e) =
    subst (λ x. Brings k (piece ++ x) r) (sym e.0) (subst (λ b. Brings k b r) (sym (append-nil piece)) e.1)

-- what was taken says what all of the connection's bytes bring
heard_whole : (k : HeadKind) (held : List ℕ) (old new : Option (List ℕ)) (r : Result (List ℕ) HttpError)
    → old ≡ Some held → TakesWhole k [] old new r → Brings k held r
heard_whole k held None new r e w = cc
heard_whole k held (Some all) None r e w = absurd w.1
heard_whole k held (Some all) (Some left) r e w =
    subst (λ b. Brings k b r) (sym w.1 ∙ ap (list_or []) e) (by_settled k w.0 left r w.2)
  where
    list_or : List ℕ → Option (List ℕ) → List ℕ
    list_or other None = other
    list_or other (Some xs) = xs

-- a connection that had got nothing got this
got_is : (old new : Option (List ℕ)) (text : List ℕ) → old ≡ Some [] → Appends old new text → new ≡ Some text
got_is None new text e h = cc
got_is (Some x) None text e h = absurd h
got_is (Some x) (Some y) text e h = ap Some (h ∙ ap (λ o. list_or o ++ text) e)
  where
    list_or : Option (List ℕ) → List ℕ
    list_or None = []
    list_or (Some xs) = xs

rose_some : (before now : ℕ) → before ≡ 0 → Rose before now → 0 < now
rose_some zero now e rose = omega (arith, rose.1)
rose_some (suc n) now e rose = absurd (omega (arith, e))

failed_some : (a b c d : ℕ) → a ≡ 0 → c ≡ 0 → StreamCounts {T = List ℕ} a b c d (Err error.Failed) → 0 < b + d
unfolding StreamCounts
failed_some a b c d e f (inl r) = let p = rose_some a b e r.0 in omega (arith, p)
failed_some a b c d e f (inr r) = let p = rose_some c d f r.1 in omega (arith, p)

none_failed : (a b c d : ℕ) → (a ≡ 0) × (c ≡ 0) → (b ≡ a) × (d ≡ c) → b + d ≡ 0
none_failed a b c d fresh same =
    let e = fresh.0 in
    let f = fresh.1 in
    let g = same.0 in
    let h = same.1 in
    omega (arith, e, f, g, h)

-- what a post brought over a connection that was just handed out
pub came : (left0 left1 got0 got1 : Option (List ℕ)) (takes0 takes1 puts0 puts1 : ℕ) (address request held : List ℕ)
    (r : Result (List ℕ) HttpError)
    → (takes0 ≡ 0) × (puts0 ≡ 0) → left0 ≡ Some held → got0 ≡ Some []
    → PutsRequest got0 got1 request r → TakesReply left0 left1 r → StreamCounts takes0 takes1 puts0 puts1 r
    → Brought address request
    (talked (record { address = address; held = held }) (record { faults = takes1 + puts1; got = got1; left = left1 }))
    (heard_of r)
unfolding PutsRequest TakesReply ReceivesBody StreamCounts
came l0 l1 g0 g1 t0 t1 p0 p1 address request held (Ok body) fresh holds new put taken count = (
  refl,
  (none_failed t0 t1 p0 p1 fresh count, got_is g0 g1 request new put),
  heard_whole kind.Reply held l0 l1 (Ok body) holds taken,
)
came l0 l1 g0 g1 t0 t1 p0 p1 address request held (Err error.Failed) fresh holds new put taken count = (
  refl,
  failed_some t0 t1 p0 p1 fresh.0 fresh.1 count,
  (put.0, got_is g0 g1 (take put.0 request) new put.1),
)
came l0 l1 g0 g1 t0 t1 p0 p1 address request held (Err error.Memory) fresh holds new put taken count = (
  refl,
  (put.0, got_is g0 g1 (take put.0 request) new put.1),
)
came l0 l1 g0 g1 t0 t1 p0 p1 address request held (Err error.BadHead) fresh holds new put taken count = (
  refl,
  (none_failed t0 t1 p0 p1 fresh count, got_is g0 g1 request new put),
  (error.BadHead, heard_whole kind.Reply held l0 l1 (Err error.BadHead) holds taken),
)
came l0 l1 g0 g1 t0 t1 p0 p1 address request held (Err (error.NotOk code)) fresh holds new put taken count = (
  refl,
  (none_failed t0 t1 p0 p1 fresh count, got_is g0 g1 request new put),
  (error.NotOk code, heard_whole kind.Reply held l0 l1 (Err (error.NotOk code)) holds taken),
)
came l0 l1 g0 g1 t0 t1 p0 p1 address request held (Err error.TooLong) fresh holds new put taken count = (
  refl,
  (none_failed t0 t1 p0 p1 fresh count, got_is g0 g1 request new put),
  (error.TooLong, heard_whole kind.Reply held l0 l1 (Err error.TooLong) holds taken),
)
came l0 l1 g0 g1 t0 t1 p0 p1 address request held (Err error.Cut) fresh holds new put taken count = (
  refl,
  (none_failed t0 t1 p0 p1 fresh count, got_is g0 g1 request new put),
  (error.Cut, heard_whole kind.Reply held l0 l1 (Err error.Cut) holds taken),
)

-- ---- the dialer's count

same_count : (before now n : ℕ) → n ≡ 0 → CloseCounts before now n → now ≡ before
same_count before now zero e h = h
same_count before now (suc n) e h = absurd (omega (arith, e))

risen_count : (before now n : ℕ) → 0 < n → CloseCounts before now n → Rose before now
risen_count before now zero e h = absurd (omega (arith, e))
risen_count before now (suc n) e h = h

-- it stays where the stream's counts did
kept : (f0 f1 f2 t0 t1 p0 p1 : ℕ) → f1 ≡ f0 → (t0 ≡ 0) × (p0 ≡ 0) → (t1 ≡ t0) × (p1 ≡ p0)
    → CloseCounts f1 f2 (t1 + p1) → f2 ≡ f0
kept f0 f1 f2 t0 t1 p0 p1 dialled fresh same closed =
    same_count f1 f2 (t1 + p1) (none_failed t0 t1 p0 p1 fresh same) closed ∙ dialled

pub counted : (f0 f1 f2 t0 t1 p0 p1 : ℕ) (r : Result (List ℕ) HttpError) → f1 ≡ f0 → (t0 ≡ 0) × (p0 ≡ 0)
    → StreamCounts t0 t1 p0 p1 r → CloseCounts f1 f2 (t1 + p1) → ExchangeCounts f0 f2 (heard_of r)
unfolding StreamCounts
counted f0 f1 f2 t0 t1 p0 p1 (Ok body) dialled fresh same closed = kept f0 f1 f2 t0 t1 p0 p1 dialled fresh same closed
counted f0 f1 f2 t0 t1 p0 p1 (Err error.Failed) dialled fresh same closed =
    subst (λ f. Rose f f2) dialled
    (risen_count f1 f2 (t1 + p1) (failed_some t0 t1 p0 p1 fresh.0 fresh.1 same) closed)
counted f0 f1 f2 t0 t1 p0 p1 (Err error.Memory) dialled fresh same closed =
    kept f0 f1 f2 t0 t1 p0 p1 dialled fresh same closed
counted f0 f1 f2 t0 t1 p0 p1 (Err error.BadHead) dialled fresh same closed =
    kept f0 f1 f2 t0 t1 p0 p1 dialled fresh same closed
counted f0 f1 f2 t0 t1 p0 p1 (Err (error.NotOk code)) dialled fresh same closed =
    kept f0 f1 f2 t0 t1 p0 p1 dialled fresh same closed
counted f0 f1 f2 t0 t1 p0 p1 (Err error.TooLong) dialled fresh same closed =
    kept f0 f1 f2 t0 t1 p0 p1 dialled fresh same closed
counted f0 f1 f2 t0 t1 p0 p1 (Err error.Cut) dialled fresh same closed =
    kept f0 f1 f2 t0 t1 p0 p1 dialled fresh same closed
