-- A head is read once, so a message is.
use Rattle.std.proofs.Common.{◌≡◌, ◌<◌, ◌≤◌, ◌++◌, ℕ, zero, suc, List, [], ◌∷◌, inl, inr, refl, sym, ap, subst, ◌∙◌}
use Rattle.std.proofs.Common.{map, take, length, Result, Ok, Err}
use Rattle.std.proofs.Common.{arith, leb, le-leb, append_assoc, length-append}
use Rattle.httparse.specs.Grammar.{RequestHead, ResponseHead, status_code}
use Rattle.httparse.specs.Spans.{name_and_value}
use Rattle.httparse.proofs.GrammarLemmas.{request_unique, response_unique}
use Rattle.dm_heads.specs.declared.errors.HttpError.{HttpError}
use Rattle.dm_heads.specs.declared.errors.HttpError.TheVariants as error
use Rattle.dm_heads.specs.declared.extents.HeadVerdict.{HeadVerdict}
use Rattle.dm_heads.specs.declared.extents.HeadVerdict.TheVariants as verdict
use Rattle.dm_heads.specs.declared.heads.HeadKind.{HeadKind}
use Rattle.dm_heads.specs.declared.heads.HeadKind.TheVariants as kind
use Rattle.dm_heads.specs.Extents.{reply_verdict, request_verdict}
use Rattle.dm_heads.specs.Messages.{HasHead, HeadedAnswer, HasNoHead, Headless, HeadlessAnswer, Brings, body_of}
use Rattle.dm_heads.specs.Asking.{WantsBody}
use Rattle.dm_heads.specs.Laws.{OneAnswerEach, SettledStays, LengthEndsBody, WantedIsUnsettled}
use Rattle.dm_heads.proofs.HeadLemmas.{has_head_more, never_has_no_head}
use Rattle.dm_heads.proofs.MoreBytes.{settles, sized_more, taken_if, left_if, not_leb, given, refused}

has_head_once : (k : HeadKind) (bytes : List ℕ) (v w : HeadVerdict) (rest other : List ℕ) → HasHead k bytes v rest → HasHead k bytes w other
    → (v ≡ w) × (rest ≡ other)
unfolding HasHead
has_head_once kind.Reply bytes v w rest other o p =
    let same = response_unique bytes o.0 p.0 rest other o.1 p.1 in
    (o.4 ∙ ap (λ (h : ResponseHead). reply_verdict (status_code h) (map name_and_value h.fields)) same.0 ∙ sym p.4, same.1)
has_head_once kind.Request bytes v w rest other o p =
    let same = request_unique bytes o.0 p.0 rest other o.1 p.1 in
    (o.4 ∙ ap (λ (h : RequestHead). request_verdict h.method (map name_and_value h.fields)) same.0 ∙ sym p.4, same.1)

headless : (k : HeadKind) (bytes : List ℕ) (e : HttpError) → Headless k bytes e → HasNoHead k bytes
headless k bytes error.BadHead h = never_has_no_head k bytes h
headless k bytes error.Cut h = h.1
headless k bytes error.Failed h = absurd h
headless k bytes error.Memory h = absurd h
headless k bytes (error.NotOk code) h = absurd h
headless k bytes error.TooLong h = absurd h

other_answer : (k : HeadKind) (bytes : List ℕ) (r s : Result (List ℕ) HttpError) → HeadedAnswer k bytes r → HeadlessAnswer k bytes s
    → s ≡ r
other_answer k bytes r (Ok b) x h = absurd h
other_answer k bytes r (Err e) x h = absurd (headless k bytes e h x.0 x.1 x.2)

pub one_answer_each : OneAnswerEach
unfolding Brings
one_answer_each k bytes r s x (inl y) =
    let same = has_head_once k bytes x.0 y.0 x.1 y.1 x.2 y.2 in
    y.3 ∙ ap (λ v. body_of v y.1) (sym same.0) ∙ ap (body_of x.0) (sym same.1) ∙ sym x.3
one_answer_each k bytes r s x (inr h) = other_answer k bytes r s x h

pub settled_stays : SettledStays
settled_stays k bytes more r settled others = subst (λ all. Brings k all r) (sym (append_assoc bytes more others)) (settled (more ++ others))

pub length_ends_body : LengthEndsBody
length_ends_body k bytes rest n head long = settles k bytes (verdict.Sized n) rest _ head (λ more. sized_more n rest more long)

-- ---- behind a head that wants more

zeros : ℕ → List ℕ
zeros zero = []
zeros (suc n) = 0 ∷ zeros n

length-zeros : (n : ℕ) → length (zeros n) ≡ n
unfolding zeros
length-zeros zero = refl
length-zeros (suc n) = ap suc (length-zeros n)

other_answers : (body : List ℕ) (e : HttpError) → refused e ≡ given body → ⊥
other_answers body e is = cc

open_body : (v : HeadVerdict) (rest : List ℕ) → WantsBody v rest
    → ((more : List ℕ) → body_of v (rest ++ []) ≡ body_of v (rest ++ more)) → ⊥
open_body verdict.BadHead rest wants same = wants
open_body (verdict.NotOk code) rest wants same = wants
open_body verdict.TooLong rest wants same = wants
open_body (verdict.Sized n) rest wants same =
    let more = zeros n in
    let short : length (rest ++ []) < n = let a = length-append rest [] in omega (arith, a, wants) in
    let long : n ≤ length (rest ++ more) = let a = length-append rest more in let b = length-zeros n in omega (arith, a, b) in
    let cut = left_if (leb n (length (rest ++ []))) (given (take n (rest ++ []))) (refused error.Cut) (not_leb n (length (rest ++ [])) short) in
    let whole = taken_if (leb n (length (rest ++ more))) (given (take n (rest ++ more))) (refused error.Cut) (le-leb n (length (rest ++ more)) long) in
    other_answers _ _ (cut ∙ same more ∙ sym whole)
open_body verdict.Unsized rest wants same =
    let more = zeros 65537 in
    let short : length (rest ++ []) ≤ 65536 = let a = length-append rest [] in omega (arith, a, wants) in
    let long : 65536 < length (rest ++ more) = let a = length-append rest more in let b = length-zeros 65537 in omega (arith, a, b) in
    let whole = taken_if (leb (length (rest ++ [])) 65536) (given (rest ++ [])) (refused error.TooLong) (le-leb (length (rest ++ [])) 65536 short) in
    let too_long = left_if (leb (length (rest ++ more)) 65536) (given (rest ++ more)) (refused error.TooLong) (not_leb (length (rest ++ more)) 65536 long) in
    other_answers _ _ (too_long ∙ sym (same more) ∙ sym whole)

pub wanted_is_unsettled : WantedIsUnsettled
wanted_is_unsettled k bytes v rest r head wants settled =
    let at : (more : List ℕ) → r ≡ body_of v (rest ++ more) = λ more.
    one_answer_each k (bytes ++ more) (body_of v (rest ++ more)) r (v, rest ++ more, has_head_more k bytes more v rest head, refl) (settled more) in
    open_body v rest wants (λ more. sym (at []) ∙ at more)
