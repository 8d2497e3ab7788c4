-- What a whole head and the bytes behind it bring, whatever follows.
use Rattle.std.proofs.Common.{◌≡◌, ◌<◌, ◌≤◌, ◌+◌, ◌++◌, ℕ, Bool, true, false, cond, leb, List, inl, refl, sym, ap}
use Rattle.std.proofs.Common.{subst}
use Rattle.std.proofs.Common.{◌∙◌, arith, length, take, drop, Result, Ok, Err, length-append, length-drop}
use Rattle.std.proofs.Common.{take-append-drop}
use Rattle.std.proofs.Common.{le-leb, leb-true, take_at}
use Rattle.std.proofs.lemmas.List.{take-append-le, drop-append-le}
use Rattle.httparse.specs.Grammar.{print_request, print_response}
use Rattle.dm_heads.specs.declared.errors.HttpError.{HttpError}
use Rattle.dm_heads.specs.declared.errors.HttpError.TheVariants as error
use Rattle.dm_heads.specs.declared.extents.HeadVerdict.{HeadVerdict}
use Rattle.dm_heads.specs.declared.extents.HeadVerdict.TheVariants as verdict
use Rattle.dm_heads.specs.declared.heads.HeadKind.{HeadKind}
use Rattle.dm_heads.specs.declared.heads.HeadKind.TheVariants as kind
use Rattle.dm_heads.specs.Messages.{HasHead, HasNoHead, NeverHasHead, body_of, Brings, Settles}
use Rattle.dm_heads.proofs.HeadLemmas.{has_head_more}

pub taken_if : {A : Type 0} (b : Bool) (x y : A) → b ≡ true → x ≡ cond b x y
taken_if true x y h = refl
taken_if false x y h = cc

pub left_if : {A : Type 0} (b : Bool) (x y : A) → b ≡ false → y ≡ cond b x y
left_if true x y h = cc
left_if false x y h = refl

not_leb_if : (a b : ℕ) (c : Bool) → leb a b ≡ c → b < a → c ≡ false
not_leb_if a b true h low = absurd (let le = leb-true a b h in omega (arith, le, low))
not_leb_if a b false h low = refl

pub not_leb : (a b : ℕ) → b < a → leb a b ≡ false
not_leb a b low = not_leb_if a b (leb a b) refl low

-- a whole head settles the answer where all that follows leaves it
pub settles : (k : HeadKind) (bytes : List ℕ) (v : HeadVerdict) (rest : List ℕ) (r : Result (List ℕ) HttpError)
    → HasHead k bytes v rest → ((more : List ℕ) → r ≡ body_of v (rest ++ more)) → Settles k bytes r
unfolding Brings
settles k bytes v rest r o same more = inl (v, rest ++ more, has_head_more k bytes more v rest o, same more)

pub brings : (k : HeadKind) (bytes : List ℕ) (v : HeadVerdict) (rest : List ℕ) (r : Result (List ℕ) HttpError)
    → HasHead k bytes v rest → r ≡ body_of v rest → Brings k bytes r
unfolding Brings
brings k bytes v rest r o same = inl (v, rest, o, same)

abbrev pub given : List ℕ → Result (List ℕ) HttpError
given body = Ok body

abbrev pub refused : HttpError → Result (List ℕ) HttpError
refused e = Err e

pub sized_more : (n : ℕ) (rest more : List ℕ) → n ≤ length rest → given (take n rest) ≡ body_of (verdict.Sized n) (rest ++ more)
sized_more n rest more long =
    let fits = le-leb n (length (rest ++ more)) (let a = length-append rest more in omega (arith, a, long)) in
    ap Ok (sym (take-append-le n rest more long)) ∙ taken_if (leb n (length (rest ++ more))) (Ok (take n (rest ++ more))) (Err error.Cut) fits

-- the rest behind a head that was taken earlier
pub rest_more : (taken piece : List ℕ) (len : ℕ) → len ≤ length taken → drop len (taken ++ piece) ≡ drop len taken ++ piece
rest_more taken piece len within = drop-append-le len taken piece within

pub settles_sized : (k : HeadKind) (taken piece : List ℕ) (len n : ℕ) → len ≤ length taken
    → HasHead k taken (verdict.Sized n) (drop len taken) → len + n ≤ length (taken ++ piece)
    → Settles k (taken ++ piece) (Ok (take n (drop len (taken ++ piece))))
settles_sized k taken piece len n within o long =
    let is = rest_more taken piece len within in
    let size : n ≤ length (drop len (taken ++ piece)) = let a = length-drop len (taken ++ piece) in omega (arith, a, long) in
    settles k (taken ++ piece) (verdict.Sized n) (drop len (taken ++ piece)) _
    (subst (HasHead k (taken ++ piece) (verdict.Sized n)) (sym is) (has_head_more k taken piece (verdict.Sized n) (drop len taken) o))
    (λ more. sized_more n (drop len (taken ++ piece)) more size)

pub brings_cut : (k : HeadKind) (taken piece : List ℕ) (len n : ℕ) → len ≤ length taken
    → HasHead k taken (verdict.Sized n) (drop len taken) → length (taken ++ piece) < len + n
    → Brings k (taken ++ piece) (Err error.Cut)
brings_cut k taken piece len n within o short =
    let is = rest_more taken piece len within in
    let rest = drop len (taken ++ piece) in
    let low : length rest < n = let a = length-drop len (taken ++ piece) in let b = length-append taken piece in omega (arith, a, b, short, within) in
    brings k (taken ++ piece) (verdict.Sized n) rest (Err error.Cut)
    (subst (HasHead k (taken ++ piece) (verdict.Sized n)) (sym is) (has_head_more k taken piece (verdict.Sized n) (drop len taken) o))
    (left_if (leb n (length rest)) (Ok (take n rest)) (Err error.Cut) (not_leb n (length rest) low))

long_more : (rest more : List ℕ) → 65536 < length rest → refused error.TooLong ≡ body_of verdict.Unsized (rest ++ more)
long_more rest more long =
    let high : 65536 < length (rest ++ more) = let a = length-append rest more in omega (arith, a, long) in
    left_if (leb (length (rest ++ more)) 65536) (Ok (rest ++ more)) (Err error.TooLong) (not_leb (length (rest ++ more)) 65536 high)

pub settles_long : (k : HeadKind) (taken piece : List ℕ) (len : ℕ) → len ≤ length taken
    → HasHead k taken verdict.Unsized (drop len taken) → len + 65537 ≤ length (taken ++ piece)
    → Settles k (taken ++ piece) (Err error.TooLong)
settles_long k taken piece len within o long =
    let is = rest_more taken piece len within in
    let size : 65536 < length (drop len (taken ++ piece)) = let a = length-drop len (taken ++ piece) in omega (arith, a, long) in
    settles k (taken ++ piece) verdict.Unsized (drop len (taken ++ piece)) _
    (subst (HasHead k (taken ++ piece) verdict.Unsized) (sym is) (has_head_more k taken piece verdict.Unsized (drop len taken) o))
    (λ more. long_more (drop len (taken ++ piece)) more size)

pub brings_unsized : (k : HeadKind) (taken piece : List ℕ) (len : ℕ) → len ≤ length taken
    → HasHead k taken verdict.Unsized (drop len taken) → length (taken ++ piece) < len + 65537
    → Brings k (taken ++ piece) (Ok (drop len (taken ++ piece)))
brings_unsized k taken piece len within o short =
    let is = rest_more taken piece len within in
    let rest = drop len (taken ++ piece) in
    let low : length rest ≤ 65536 = let a = length-drop len (taken ++ piece) in let b = length-append taken piece in omega (arith, a, b, short, within) in
    brings k (taken ++ piece) verdict.Unsized rest (Ok rest)
    (subst (HasHead k (taken ++ piece) verdict.Unsized) (sym is) (has_head_more k taken piece verdict.Unsized (drop len taken) o))
    (taken_if (leb (length rest) 65536) (Ok rest) (Err error.TooLong) (le-leb (length rest) 65536 low))

-- a text at the front of more bytes than it has stands at the front of them
front_is : (text bytes more rest : List ℕ) → length text ≤ length bytes → bytes ++ more ≡ text ++ rest
    → bytes ≡ text ++ drop (length text) bytes
front_is text bytes more rest long same =
    let same_front : take (length text) bytes ≡ text =
    sym (take-append-le (length text) bytes more long) ∙ ap (take (length text)) same ∙ take_at text rest (length text) refl in
    sym (take-append-drop (length text) bytes) ∙ ap (λ front. front ++ drop (length text) bytes) same_front

-- where 8,192 bytes hold no whole head, none will be
pub full : (k : HeadKind) (bytes : List ℕ) → HasNoHead k bytes → 8192 ≤ length bytes → NeverHasHead k bytes
unfolding HasHead
full kind.Reply bytes none long more v rest o =
    let text = print_response o.0 in
    let front = front_is text bytes more rest (let short = o.3 in omega (arith, short, long)) o.1.1 in
    none v (drop (length text) bytes) (o.0, (o.1.0, front), o.2, o.3, o.4)
full kind.Request bytes none long more v rest o =
    let text = print_request o.0 in
    let front = front_is text bytes more rest (let short = o.3 in omega (arith, short, long)) o.1.1 in
    none v (drop (length text) bytes) (o.0, (o.1.0, front), o.2, o.3, o.4)
