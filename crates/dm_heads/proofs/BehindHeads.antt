-- From the head and the body to the whole message.
use Rattle.std.proofs.Common.{◌≡◌, ◌++◌, ℕ, List, [], inl, inr, sym, subst, Result, Ok, Err, append-nil}
use Rattle.std.specs.declared.option.Option.{Option}
use Rattle.std.proofs.KnownBytes.{Consumes-nil, Consumes-trans}
use Rattle.std.specs.Io.KnownBytes.{Consumes}
use Rattle.dm_heads.specs.declared.errors.HttpError.{HttpError}
use Rattle.dm_heads.specs.declared.errors.HttpError.TheVariants as error
use Rattle.dm_heads.specs.declared.extents.HeadVerdict.{HeadVerdict}
use Rattle.dm_heads.specs.declared.heads.HeadKind.{HeadKind}
use Rattle.dm_heads.specs.Messages.{HasHead, Brings, Settles, body_of}
use Rattle.dm_heads.specs.Receiving.{ReceivesBody, TakesPart, TakesWhole, TakesHead}
use Rattle.dm_heads.proofs.HeadLemmas.{never_more}
use Rattle.dm_heads.proofs.MoreBytes.{settles}

-- a head that settles the answer does so with no byte more
pub settled_whole : (k : HeadKind) (taken : List ℕ) (v : HeadVerdict) (rest : List ℕ) (left : Option (List ℕ)) (r : Result (List ℕ) HttpError)
    → HasHead k taken v rest → ((more : List ℕ) → r ≡ body_of v (rest ++ more)) → TakesWhole k taken left left r
settled_whole k taken v rest left r o same =
    ([], Consumes-nil left, inl (subst (λ bytes. Settles k bytes r) (sym (append-nil taken)) (settles k taken v rest r o same)))

whole_behind : (k : HeadKind) (old mid new : Option (List ℕ)) (taken : List ℕ) (r : Result (List ℕ) HttpError)
    → Consumes old mid taken → TakesWhole k taken mid new r → TakesWhole k [] old new r
whole_behind k old mid new taken r first later =
    (taken ++ later.0, Consumes-trans old mid new taken later.0 first later.1, later.2)

part_behind : (old mid new : Option (List ℕ)) (taken : List ℕ) → Consumes old mid taken → TakesPart mid new → TakesPart old new
part_behind old mid new taken first later = (taken ++ later.0, Consumes-trans old mid new taken later.0 first later.1)

-- what was taken behind a head, with the head
pub receives_behind : (k : HeadKind) (old mid new : Option (List ℕ)) (taken : List ℕ) (r : Result (List ℕ) HttpError)
    → Consumes old mid taken → ReceivesBody k taken mid new r → ReceivesBody k [] old new r
unfolding ReceivesBody
receives_behind k old mid new taken (Ok body) first later = whole_behind k old mid new taken (Ok body) first later
receives_behind k old mid new taken (Err error.Failed) first later = part_behind old mid new taken first later
receives_behind k old mid new taken (Err error.Memory) first later = part_behind old mid new taken first later
receives_behind k old mid new taken (Err error.BadHead) first later = whole_behind k old mid new taken (Err error.BadHead) first later
receives_behind k old mid new taken (Err (error.NotOk code)) first later = whole_behind k old mid new taken (Err (error.NotOk code)) first later
receives_behind k old mid new taken (Err error.TooLong) first later = whole_behind k old mid new taken (Err error.TooLong) first later
receives_behind k old mid new taken (Err error.Cut) first later = whole_behind k old mid new taken (Err error.Cut) first later

-- bytes that never have a head settle that, and a stream that ended inside a head brings nothing
pub receives_headless : (k : HeadKind) (old new : Option (List ℕ)) (e : HttpError) → TakesHead k old new (Err e)
    → ReceivesBody k [] old new (Err e)
unfolding ReceivesBody Brings
receives_headless k old new error.BadHead h = (h.0, h.1, inl (λ more. inr (never_more k h.0 more h.2)))
receives_headless k old new error.Cut h = (h.0, h.1, inr (h.2, inr h.3))
receives_headless k old new error.Failed h = h
receives_headless k old new error.Memory h = h
receives_headless k old new (error.NotOk code) h = absurd h
receives_headless k old new error.TooLong h = absurd h
