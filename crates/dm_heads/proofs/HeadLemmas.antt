-- What a parser's answer says of the front of the bytes.
use Rattle.std.proofs.Common.{◌≡◌, ◌≤◌, ◌++◌, ℕ, List, [], All, sym, ap, subst, ◌∙◌, arith, length, map, take}
use Rattle.std.proofs.Common.{length-take, append_assoc, append-nil}
use Rattle.std.proofs.lemmas.List.{length-map}
use Rattle.std.proofs.lemmas.List.Elements.{All-weaker}
use Rattle.httparse.specs.declared.spans.HeaderSpan.{HeaderSpan}
use Rattle.httparse.specs.declared.spans.ResponseSpans.{ResponseSpans}
use Rattle.httparse.specs.declared.spans.RequestSpans.{RequestSpans}
use Rattle.httparse.specs.Grammar.{Field, print_request, print_response}
use Rattle.httparse.specs.Grammar.{HasNoRequest, HasNoResponse, status_code}
use Rattle.httparse.specs.Spans.{name_and_value, header_bytes, IsHeaderWithin, AreFieldsAt}
use Rattle.httparse.specs.Spans.{IsRequestWithin, IsRequestOf, RequestOverflows, IsResponseWithin, IsResponseOf}
use Rattle.httparse.specs.Spans.{ResponseOverflows}
use Rattle.httparse.proofs.GrammarLemmas.{ReadsRequest-append, ReadsResponse-append}
use Rattle.dm_heads.specs.declared.extents.HeadVerdict.{HeadVerdict}
use Rattle.dm_heads.specs.declared.heads.HeadKind.{HeadKind}
use Rattle.dm_heads.specs.declared.heads.HeadKind.TheVariants as kind
use Rattle.dm_heads.specs.declared.heads.HeadSoFar.{HeadSoFar}
use Rattle.dm_heads.specs.declared.heads.HeadSoFar.TheVariants as so_far
use Rattle.dm_heads.specs.Extents.{reply_verdict, request_verdict}
use Rattle.dm_heads.specs.Messages.{HasReplyHead, HasRequestHead, HasHead, HasNoHead, NeverHasHead, MayBecomeHead}
use Rattle.dm_heads.specs.Messages.{IsReplySoFar, IsRequestSoFar, IsHeadSoFar}

-- headers within a part of the bytes are within the bytes
pub within_all : (n m : ℕ) (hs : List HeaderSpan) → n ≤ m → All (IsHeaderWithin n) hs → All (IsHeaderWithin m) hs
within_all n m hs le all = All-weaker (IsHeaderWithin n) (IsHeaderWithin m) (λ h w.
    ((w.0.0, omega (arith, w.0.1)), (w.1.0, omega (arith, w.1.1)))) hs all

-- as many fields as headers
few_fields : (bytes : List ℕ) (headers : List HeaderSpan) (count : ℕ) (fields : List Field) → length headers ≡ 32
    → AreFieldsAt bytes headers count fields → length fields ≤ 32
few_fields bytes headers count fields room same =
    let long = ap length same in
    let a = length-map (take count headers) (header_bytes bytes) in
    let b = length-map fields name_and_value in
    let c = length-take count headers in
    omega (arith, long, a, b, c, room)

pub whole_reply : (bytes : List ℕ) (headers : List HeaderSpan) (spans : ResponseSpans) (v : HeadVerdict)
    → length bytes ≤ 8192 → length headers ≡ 32
    → IsResponseWithin bytes headers spans → IsResponseOf bytes headers spans
    → v ≡ reply_verdict spans.code (map (header_bytes bytes) (take spans.headers headers))
    → IsReplySoFar bytes (so_far.Whole v spans.len)
whole_reply bytes headers spans v short room within complete is =
    let h = complete.0 in
    let at = complete.1 in
    let few = few_fields bytes headers spans.headers h.fields room at.fields in
    let size : length (print_response h) ≤ 8192 = omega (arith, at.len, within.section.len_fits, short) in
    let said : v ≡ reply_verdict (status_code h) (map name_and_value h.fields) =
    is ∙ ap (reply_verdict spans.code) at.fields
    ∙ ap (λ c. reply_verdict c (map name_and_value h.fields)) at.code in
    (within.section.len_fits, (h, at.reads, few, size, said))

pub whole_request : (bytes : List ℕ) (headers : List HeaderSpan) (spans : RequestSpans) (method : List ℕ) (v : HeadVerdict)
    → length bytes ≤ 8192 → length headers ≡ 32
    → IsRequestWithin bytes headers spans → IsRequestOf bytes headers spans
    → method ≡ Rattle.httparse.specs.Spans.span_bytes bytes spans.method
    → v ≡ request_verdict method (map (header_bytes bytes) (take spans.headers headers))
    → IsRequestSoFar bytes (so_far.Whole v spans.len)
whole_request bytes headers spans method v short room within complete named is =
    let h = complete.0 in
    let at = complete.1 in
    let few = few_fields bytes headers spans.headers h.fields room at.fields in
    let size : length (print_request h) ≤ 8192 = omega (arith, at.len, within.section.len_fits, short) in
    let said : v ≡ request_verdict h.method (map name_and_value h.fields) =
    is ∙ ap (request_verdict method) at.fields
    ∙ ap (λ m. request_verdict m (map name_and_value h.fields)) (named ∙ at.method) in
    (within.section.len_fits, (h, at.reads, few, size, said))

pub no_reply_yet : (bytes : List ℕ) → HasNoResponse bytes → (v : HeadVerdict) (rest : List ℕ) → ¬ (HasReplyHead bytes v rest)
no_reply_yet bytes none v rest o = none o.0 rest o.1

pub no_request_yet : (bytes : List ℕ) → HasNoRequest bytes → (v : HeadVerdict) (rest : List ℕ) → ¬ (HasRequestHead bytes v rest)
no_request_yet bytes none v rest o = none o.0 rest o.1

pub never_reply : (bytes : List ℕ) → ResponseOverflows 32 bytes → IsReplySoFar bytes so_far.Never
never_reply bytes over more v rest o = let many = over more o.0 rest o.1 in omega (arith, many, o.2)

pub never_request : (bytes : List ℕ) → RequestOverflows 32 bytes → IsRequestSoFar bytes so_far.Never
never_request bytes over more v rest o = let many = over more o.0 rest o.1 in omega (arith, many, o.2)

pub so_far_of_reply : (k : HeadKind) (bytes : List ℕ) (f : HeadSoFar) → k ≡ kind.Reply → IsReplySoFar bytes f → IsHeadSoFar k bytes f
unfolding HasHead MayBecomeHead
so_far_of_reply kind.Reply bytes (so_far.Whole v n) e known = known
so_far_of_reply kind.Reply bytes so_far.Partial e known = known
so_far_of_reply kind.Reply bytes so_far.Never e known = known
so_far_of_reply kind.Request bytes f e known = cc

pub so_far_of_request : (k : HeadKind) (bytes : List ℕ) (f : HeadSoFar) → k ≡ kind.Request → IsRequestSoFar bytes f → IsHeadSoFar k bytes f
unfolding HasHead MayBecomeHead
so_far_of_request kind.Request bytes (so_far.Whole v n) e known = known
so_far_of_request kind.Request bytes so_far.Partial e known = known
so_far_of_request kind.Request bytes so_far.Never e known = known
so_far_of_request kind.Reply bytes f e known = cc

-- a head stays whatever follows
pub has_head_more : (k : HeadKind) (bytes more : List ℕ) (v : HeadVerdict) (rest : List ℕ)
    → HasHead k bytes v rest → HasHead k (bytes ++ more) v (rest ++ more)
unfolding HasHead
has_head_more kind.Reply bytes more v rest o = (o.0, ReadsResponse-append bytes o.0 rest more o.1, o.2, o.3, o.4)
has_head_more kind.Request bytes more v rest o = (o.0, ReadsRequest-append bytes o.0 rest more o.1, o.2, o.3, o.4)

pub never_more : (k : HeadKind) (bytes more : List ℕ) → NeverHasHead k bytes → NeverHasHead k (bytes ++ more)
never_more k bytes more never others = subst (HasNoHead k) (sym (append_assoc bytes more others)) (never (more ++ others))

pub never_has_no_head : (k : HeadKind) (bytes : List ℕ) → NeverHasHead k bytes → HasNoHead k bytes
never_has_no_head k bytes never = subst (HasNoHead k) (append-nil bytes) (never [])
