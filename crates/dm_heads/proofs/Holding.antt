-- What a head that is read holds.
use Rattle.std.proofs.Common.{◌≡◌, ◌≤◌, ◌≢◌, ℕ, Bool, true, false, cond, leb, leb-true, eqb, eqb-true, eq-eqb, le-leb}
use Rattle.std.proofs.Common.{List, inl, inr, refl, sym, ap}
use Rattle.std.proofs.Common.{◌∙◌, length, take, map, Result, Ok, Err}
use Rattle.std.proofs.lemmas.Bool.{eqb-false}
use Rattle.std.specs.Prelude.{◌⊎◌, bytes_eq, codes}
use Rattle.std.proofs.lemmas.Slice.Eq.{bytes_eq-Decides}
use Rattle.httparse.specs.Grammar.{RequestHead, ResponseHead, status_code}
use Rattle.httparse.specs.Spans.{name_and_value}
use Rattle.dm_heads.specs.declared.errors.HttpError.{HttpError}
use Rattle.dm_heads.specs.declared.errors.HttpError.TheVariants as error
use Rattle.dm_heads.specs.declared.extents.BodyExtent.{BodyExtent}
use Rattle.dm_heads.specs.declared.extents.BodyExtent.TheVariants as extent
use Rattle.dm_heads.specs.declared.extents.HeadVerdict.{HeadVerdict}
use Rattle.dm_heads.specs.declared.extents.HeadVerdict.TheVariants as verdict
use Rattle.dm_heads.specs.declared.heads.HeadKind.TheVariants as kind
use Rattle.dm_heads.specs.Extents.{body_extent, status_verdict, reply_verdict, sized_verdict, request_verdict}
use Rattle.dm_heads.specs.Messages.{HasHead, Brings, body_of}
use Rattle.dm_heads.specs.Laws.{IsSizedBody, IsWholeBody, IsPost, IsOkReply, RequestHolds, ReplyHolds, PostsBring}
use Rattle.dm_heads.specs.Laws.{OkRepliesBring}
use Rattle.dm_heads.specs.Laws.{ReplyStatusHolds, NoRequestStatus}
use Rattle.dm_heads.proofs.FieldValues.{sized_fields, unsized_fields, fields_sized, fields_unsized}
use Rattle.dm_heads.proofs.MoreBytes.{given, refused, taken_if}

-- ---- a body, by the verdict

abbrev GivesBody : HeadVerdict → List ℕ → List ℕ → Type 0
GivesBody (verdict.Sized n) rest body = (n ≤ length rest) × (body ≡ take n rest)
GivesBody verdict.Unsized rest body = (length rest ≤ 65536) × (body ≡ rest)
GivesBody other rest body = ⊥

given_if : (b : Bool) (body other : List ℕ) (e : HttpError) → given body ≡ cond b (given other) (refused e) → (b ≡ true) × (body ≡ other)
given_if true body other e is = (refl, cc)
given_if false body other e is = cc

gives : (v : HeadVerdict) (rest body : List ℕ) → given body ≡ body_of v rest → GivesBody v rest body
gives verdict.BadHead rest body e = cc
gives (verdict.NotOk code) rest body e = cc
gives verdict.TooLong rest body e = cc
gives (verdict.Sized n) rest body e =
    let at = given_if (leb n (length rest)) body (take n rest) error.Cut e in (leb-true n (length rest) at.0, at.1)
gives verdict.Unsized rest body e =
    let at = given_if (leb (length rest) 65536) body rest error.TooLong e in (leb-true (length rest) 65536 at.0, at.1)

-- ---- requests

post_sized : (e : BodyExtent) (n : ℕ) → verdict.Sized n ≡ sized_verdict e → e ≡ extent.Sized n
post_sized extent.Faulty n is = cc
post_sized extent.TooLong n is = cc
post_sized (extent.Sized m) n is = cc
post_sized extent.Unsized n is = cc

post_if : (b : Bool) (e : BodyExtent) (n : ℕ) → verdict.Sized n ≡ cond b (sized_verdict e) verdict.BadHead
    → (b ≡ true) × (e ≡ extent.Sized n)
post_if true e n is = (refl, post_sized e n is)
post_if false e n is = cc

sized_always : (e : BodyExtent) → verdict.Unsized ≡ sized_verdict e → ⊥
sized_always extent.Faulty is = cc
sized_always extent.TooLong is = cc
sized_always (extent.Sized m) is = cc
sized_always extent.Unsized is = cc

never_unsized : (b : Bool) (e : BodyExtent) → verdict.Unsized ≡ cond b (sized_verdict e) verdict.BadHead → ⊥
never_unsized true e is = sized_always e is
never_unsized false e is = cc

is_post : (h : RequestHead) (v : HeadVerdict) (rest body : List ℕ) → v ≡ request_verdict h.method (map name_and_value h.fields)
    → GivesBody v rest body → IsPost h rest body
is_post h verdict.BadHead rest body is got = absurd got
is_post h (verdict.NotOk code) rest body is got = absurd got
is_post h verdict.TooLong rest body is got = absurd got
is_post h verdict.Unsized rest body is got =
    absurd (never_unsized (bytes_eq h.method (codes "POST")) (body_extent (map name_and_value h.fields)) is)
is_post h (verdict.Sized n) rest body is got =
    let at = post_if (bytes_eq h.method (codes "POST")) (body_extent (map name_and_value h.fields)) n is in
    let fields = sized_fields (map name_and_value h.fields) n at.1 in
    record {
      method = (bytes_eq-Decides h.method (codes "POST")).0 at.0;
      uncoded = fields.0;
      sized = (n, fields.1, got.0, got.1);
    }

pub request_holds : RequestHolds
unfolding Brings HasHead
request_holds bytes body (inl x) =
    (x.2.0, x.1, x.2.1, is_post x.2.0 x.0 x.1 body x.2.4 (gives x.0 x.1 body x.3))
request_holds bytes body (inr h) = absurd h

no_status : (e : BodyExtent) (code : ℕ) → verdict.NotOk code ≡ sized_verdict e → ⊥
no_status extent.Faulty code is = cc
no_status extent.TooLong code is = cc
no_status (extent.Sized n) code is = cc
no_status extent.Unsized code is = cc

no_status_if : (b : Bool) (e : BodyExtent) (code : ℕ) → verdict.NotOk code ≡ cond b (sized_verdict e) verdict.BadHead → ⊥
no_status_if true e code is = no_status e code is
no_status_if false e code is = cc

-- only a head with another status is refused for it
told_if : (b : Bool) (body : List ℕ) (e : HttpError) (code : ℕ) → refused (error.NotOk code) ≡ cond b (given body) (refused e)
    → e ≡ error.NotOk code
told_if true body e code is = cc
told_if false body e code is = cc

told : (v : HeadVerdict) (rest : List ℕ) (code : ℕ) → refused (error.NotOk code) ≡ body_of v rest → v ≡ verdict.NotOk code
told verdict.BadHead rest code is = cc
told (verdict.NotOk other) rest code is = cc
told verdict.TooLong rest code is = cc
told (verdict.Sized n) rest code is = let e = told_if (leb n (length rest)) (take n rest) error.Cut code is in cc
told verdict.Unsized rest code is = let e = told_if (leb (length rest) 65536) rest error.TooLong code is in cc

pub no_request_status : NoRequestStatus
unfolding Brings HasHead
no_request_status bytes code (inl x) =
    no_status_if (bytes_eq x.2.0.method (codes "POST")) (body_extent (map name_and_value x.2.0.fields)) code
    (sym (told x.0 x.1 code x.3) ∙ x.2.4)
no_request_status bytes code (inr h) = h

-- ---- replies

ok_sized : (e : BodyExtent) (code n : ℕ) → verdict.Sized n ≡ status_verdict code e → (eqb code 200 ≡ true) × (e ≡ extent.Sized n)
ok_sized extent.Faulty code n is = cc
ok_sized extent.TooLong code n is = by_test (eqb code 200) is
  where
    by_test : (b : Bool) → verdict.Sized n ≡ cond b verdict.TooLong (verdict.NotOk code) → (eqb code 200 ≡ true) × (extent.TooLong ≡ extent.Sized n)
    by_test true h = cc
    by_test false h = cc
ok_sized (extent.Sized m) code n is = by_test (eqb code 200) refl is
  where
    by_test : (b : Bool) → eqb code 200 ≡ b → verdict.Sized n ≡ cond b (verdict.Sized m) (verdict.NotOk code)
        → (eqb code 200 ≡ true) × (extent.Sized m ≡ extent.Sized n)
    by_test true e h = (e, cc)
    by_test false e h = cc
ok_sized extent.Unsized code n is = by_test (eqb code 200) is
  where
    by_test : (b : Bool) → verdict.Sized n ≡ cond b verdict.Unsized (verdict.NotOk code) → (eqb code 200 ≡ true) × (extent.Unsized ≡ extent.Sized n)
    by_test true h = cc
    by_test false h = cc

ok_unsized : (e : BodyExtent) (code : ℕ) → verdict.Unsized ≡ status_verdict code e → (eqb code 200 ≡ true) × (e ≡ extent.Unsized)
ok_unsized extent.Faulty code is = cc
ok_unsized extent.TooLong code is = by_test (eqb code 200) is
  where
    by_test : (b : Bool) → verdict.Unsized ≡ cond b verdict.TooLong (verdict.NotOk code) → (eqb code 200 ≡ true) × (extent.TooLong ≡ extent.Unsized)
    by_test true h = cc
    by_test false h = cc
ok_unsized (extent.Sized m) code is = by_test (eqb code 200) is
  where
    by_test : (b : Bool) → verdict.Unsized ≡ cond b (verdict.Sized m) (verdict.NotOk code) → (eqb code 200 ≡ true) × (extent.Sized m ≡ extent.Unsized)
    by_test true h = cc
    by_test false h = cc
ok_unsized extent.Unsized code is = by_test (eqb code 200) refl is
  where
    by_test : (b : Bool) → eqb code 200 ≡ b → verdict.Unsized ≡ cond b verdict.Unsized (verdict.NotOk code)
        → (eqb code 200 ≡ true) × (extent.Unsized ≡ extent.Unsized)
    by_test true e h = (e, refl)
    by_test false e h = cc

is_ok_reply : (h : ResponseHead) (v : HeadVerdict) (rest body : List ℕ) → v ≡ reply_verdict (status_code h) (map name_and_value h.fields)
    → GivesBody v rest body → IsOkReply h rest body
is_ok_reply h verdict.BadHead rest body is got = absurd got
is_ok_reply h (verdict.NotOk code) rest body is got = absurd got
is_ok_reply h verdict.TooLong rest body is got = absurd got
is_ok_reply h (verdict.Sized n) rest body is got =
    let at = ok_sized (body_extent (map name_and_value h.fields)) (status_code h) n is in
    let fields = sized_fields (map name_and_value h.fields) n at.1 in
    record { status = eqb-true (status_code h) 200 at.0; uncoded = fields.0; behind = inl (n, fields.1, got.0, got.1) }
is_ok_reply h verdict.Unsized rest body is got =
    let at = ok_unsized (body_extent (map name_and_value h.fields)) (status_code h) is in
    let fields = unsized_fields (map name_and_value h.fields) at.1 in
    record { status = eqb-true (status_code h) 200 at.0; uncoded = fields.0; behind = inr (fields.1, got.0, got.1) }

pub reply_holds : ReplyHolds
unfolding Brings HasHead
reply_holds bytes body (inl x) =
    (x.2.0, x.1, x.2.1, is_ok_reply x.2.0 x.0 x.1 body x.2.4 (gives x.0 x.1 body x.3))
reply_holds bytes body (inr h) = absurd h

told_at : (b : Bool) (v : HeadVerdict) (code other : ℕ) → verdict.NotOk code ≡ cond b v (verdict.NotOk other)
    → (verdict.NotOk code ≡ v → ⊥) → (b ≡ false) × (other ≡ code)
told_at true v code other is sound = absurd (sound is)
told_at false v code other is sound = (refl, cc)

status_told : (e : BodyExtent) (other code : ℕ) → verdict.NotOk code ≡ status_verdict other e → (eqb other 200 ≡ false) × (other ≡ code)
status_told extent.Faulty other code is = cc
status_told extent.TooLong other code is = told_at (eqb other 200) verdict.TooLong code other is (λ h. cc)
status_told (extent.Sized n) other code is = told_at (eqb other 200) (verdict.Sized n) code other is (λ h. cc)
status_told extent.Unsized other code is = told_at (eqb other 200) verdict.Unsized code other is (λ h. cc)

pub reply_status_holds : ReplyStatusHolds
unfolding Brings HasHead
reply_status_holds bytes code (inl x) =
    let at = status_told (body_extent (map name_and_value x.2.0.fields)) (status_code x.2.0) code (sym (told x.0 x.1 code x.3) ∙ x.2.4) in
    (x.2.0, x.1, x.2.1, at.1, other_than_200 (status_code x.2.0) code at.1 at.0)
  where
    other_than_200 : (other code : ℕ) → other ≡ code → eqb other 200 ≡ false → code ≢ 200
    other_than_200 other code same differs is = eqb-false other 200 differs (same ∙ is)
reply_status_holds bytes code (inr h) = absurd h

-- ---- and back: heads that hold this bring the message

sized_body : (n : ℕ) (rest body : List ℕ) → n ≤ length rest → body ≡ take n rest → given body ≡ body_of (verdict.Sized n) rest
sized_body n rest body long is =
    ap Ok is ∙ taken_if (leb n (length rest)) (given (take n rest)) (refused error.Cut) (le-leb n (length rest) long)

whole_body : (rest body : List ℕ) → length rest ≤ 65536 → body ≡ rest → given body ≡ body_of verdict.Unsized rest
whole_body rest body short is =
    ap Ok is ∙ taken_if (leb (length rest) 65536) (given rest) (refused error.TooLong) (le-leb (length rest) 65536 short)

pub posts_bring : PostsBring
unfolding Brings HasHead
posts_bring bytes body h rest reads few short post =
    let fields = map name_and_value h.fields in
    let n = post.sized.0 in
    let extent_is = fields_sized fields n post.uncoded post.sized.1 in
    let verdict_is : request_verdict h.method fields ≡ verdict.Sized n =
    ap (λ b. cond b (sized_verdict (body_extent fields)) verdict.BadHead) ((bytes_eq-Decides h.method (codes "POST")).1 post.method)
    ∙ ap sized_verdict extent_is in
    inl (verdict.Sized n, rest, (h, reads, few, short, sym verdict_is), sized_body n rest body post.sized.2 post.sized.3)

of_ok : (code : ℕ) (e : BodyExtent) (v : HeadVerdict) → code ≡ 200 → e ≡ extent.Unsized → v ≡ verdict.Unsized → v ≡ status_verdict code e
of_ok code extent.Faulty v c e is = cc
of_ok code extent.TooLong v c e is = cc
of_ok code (extent.Sized m) v c e is = cc
of_ok code extent.Unsized v c e is =
    is ∙ ap (λ b. cond b verdict.Unsized (verdict.NotOk code)) (sym (eq-eqb code 200 c))

of_ok_sized : (code n : ℕ) (e : BodyExtent) (v : HeadVerdict) → code ≡ 200 → e ≡ extent.Sized n → v ≡ verdict.Sized n → v ≡ status_verdict code e
of_ok_sized code n extent.Faulty v c e is = cc
of_ok_sized code n extent.TooLong v c e is = cc
of_ok_sized code n extent.Unsized v c e is = cc
of_ok_sized code n (extent.Sized m) v c e is =
    let same : verdict.Sized n ≡ verdict.Sized m = cc in
    is ∙ same ∙ ap (λ b. cond b (verdict.Sized m) (verdict.NotOk code)) (sym (eq-eqb code 200 c))

pub ok_replies_bring : OkRepliesBring
unfolding Brings HasHead
ok_replies_bring bytes body h rest reads few short ok = by_body ok.behind
  where
    by_body : IsSizedBody (map name_and_value h.fields) rest body ⊎ IsWholeBody (map name_and_value h.fields) rest body
        → Brings kind.Reply bytes (Ok body)
    by_body (inl sized) =
        let extent_is = fields_sized (map name_and_value h.fields) sized.0 ok.uncoded sized.1 in
        let verdict_is = of_ok_sized (status_code h) sized.0 (body_extent (map name_and_value h.fields)) (verdict.Sized sized.0) ok.status extent_is refl in
        inl (verdict.Sized sized.0, rest, (h, reads, few, short, verdict_is), sized_body sized.0 rest body sized.2 sized.3)
    by_body (inr whole) =
        let extent_is = fields_unsized (map name_and_value h.fields) ok.uncoded whole.0 in
        let verdict_is = of_ok (status_code h) (body_extent (map name_and_value h.fields)) verdict.Unsized ok.status extent_is refl in
        inl (verdict.Unsized, rest, (h, reads, few, short, verdict_is), whole_body rest body whole.1 whole.2)
