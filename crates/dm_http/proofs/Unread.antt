-- A request that is refused, or of which more is wanted, holds no message.
use Rattle.std.proofs.Common.{◌≡◌, ℕ, Bool, true, false, List, inl, inr, refl, sym, ◌∙◌, map, take, length, leb}
use Rattle.std.proofs.Common.{cond}
use Rattle.std.specs.Prelude.{bytes_eq, codes}
use Rattle.httparse.specs.Spans.{name_and_value}
use Rattle.dm_heads.specs.declared.errors.HttpError.{HttpError}
use Rattle.dm_heads.specs.declared.errors.HttpError.TheVariants as error
use Rattle.dm_heads.specs.declared.extents.BodyExtent.{BodyExtent}
use Rattle.dm_heads.specs.declared.extents.BodyExtent.TheVariants as extent
use Rattle.dm_heads.specs.declared.extents.HeadVerdict.{HeadVerdict}
use Rattle.dm_heads.specs.declared.extents.HeadVerdict.TheVariants as verdict
use Rattle.dm_heads.specs.declared.heads.HeadKind.TheVariants as kind
use Rattle.dm_heads.specs.Extents.{body_extent, sized_verdict}
use Rattle.dm_heads.specs.Messages.{Brings, HasHead, body_of}
use Rattle.dm_heads.specs.Asking.{WantsBody}
use Rattle.dm_heads.proofs.MoreBytes.{left_if, not_leb, given, refused}
use Rattle.dm_heads.proofs.OneAnswer.{one_answer_each}
use Rattle.dm_http.specs.Laws.{RefusedHoldsNone, WantedHoldsNone}

other_answers : (body : List ℕ) (e : HttpError) → refused e ≡ given body → ⊥
other_answers body e is = cc

pub refused_holds_none : RefusedHoldsNone
unfolding Brings
refused_holds_none bytes body e (inl headed) held =
    other_answers body e (sym (one_answer_each kind.Request bytes (refused e) (given body) headed held))
refused_holds_none bytes body e (inr headless) (inl headed) =
    other_answers body e (one_answer_each kind.Request bytes (given body) (refused e) headed (inr headless))
refused_holds_none bytes body e (inr headless) (inr h) = absurd h

-- a request says its length
sized_if : (b : Bool) (e : BodyExtent) → verdict.Unsized ≡ cond b (sized_verdict e) verdict.BadHead → ⊥
sized_if false e is = cc
sized_if true extent.Faulty is = cc
sized_if true extent.TooLong is = cc
sized_if true (extent.Sized n) is = cc
sized_if true extent.Unsized is = cc

says_its_length : (bytes rest : List ℕ) → HasHead kind.Request bytes verdict.Unsized rest → ⊥
unfolding HasHead
says_its_length bytes rest head =
    sized_if (bytes_eq head.0.method (codes "POST")) (body_extent (map name_and_value head.0.fields)) head.4

open_body : (bytes rest body : List ℕ) (v : HeadVerdict) → HasHead kind.Request bytes v rest → WantsBody v rest → given body ≡ body_of v rest
    → ⊥
open_body bytes rest body verdict.BadHead head wants is = absurd wants
open_body bytes rest body (verdict.NotOk code) head wants is = absurd wants
open_body bytes rest body verdict.TooLong head wants is = absurd wants
open_body bytes rest body verdict.Unsized head wants is = says_its_length bytes rest head
open_body bytes rest body (verdict.Sized n) head wants is =
    let cut = left_if (leb n (length rest)) (given (take n rest)) (refused error.Cut) (not_leb n (length rest) wants) in
    other_answers body error.Cut (cut ∙ sym is)

pub wanted_holds_none : WantedHoldsNone
unfolding Brings
wanted_holds_none bytes body (inl none) (inl headed) = none.1 headed.0 headed.1 headed.2
wanted_holds_none bytes body (inl none) (inr h) = absurd h
wanted_holds_none bytes body (inr more) held =
    open_body bytes more.1 body more.0 more.2 more.3
    (one_answer_each kind.Request bytes (body_of more.0 more.1) (given body) (more.0, more.1, more.2, refl) held)
