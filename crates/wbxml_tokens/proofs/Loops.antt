-- Parts read one after the other.
use Rattle.std.proofs.Common.{ℕ, zero, suc, ◌≡◌, ◌<◌, ◌≤◌, ◌+◌, List, [], ◌++◌, length, drop, refl, sym, ap, ◌∙◌, subst}
use Rattle.std.proofs.Common.{arith, append_assoc, inl}
use Rattle.std.proofs.lemmas.List.{length-drop, drop-drop, append-nil}
use Rattle.std.proofs.Math.ListN.{drop_of_length-le}
use Rattle.std.specs.Prelude.{Bool, true, false, if◌then◌else◌, None, Result, Ok, Err}
use Rattle.wbxml_tokens.specs.declared.reason.FeedError.{FeedError}
use Rattle.wbxml_tokens.specs.declared.reason.FeedError.TheVariants as errors
use Rattle.wbxml_tokens.specs.declared.token.Placed.{Placed}
use Rattle.wbxml_tokens.specs.Fronts.{Front, front, prologue_at}
use Rattle.wbxml_tokens.specs.Reading.{Reader, Reading, begun_by, most_bytes, is_whole, found, reads}
use Rattle.wbxml_tokens.specs.Taking.{Taking, Stops, GivesPart, GivesNoToken, GivesFirst, GivesAll, told_before}
use Rattle.wbxml_tokens.specs.Taking.{taken_all}
use Rattle.wbxml_tokens.proofs.Turns.{nothing, stops_told, taken_both, first_given}

-- so many bytes were read, and their tokens handed on
pub record SoFar {W : Type 0} (k : Taking W) (first w : W) (start r : Reader) (bytes : List ℕ) (at : ℕ) : Type 0 where
  pub tokens : List Placed
  pub handed : taken_all k first tokens ≡ Ok w
  pub same : reads (begun_by start) bytes ≡ told_before tokens (reads (begun_by r) (drop at bytes))

told-append : (a b : List Placed) (x : Reading) → told_before a (told_before b x) ≡ told_before (a ++ b) x
told-append a b x = ap (λ t. record x { tokens = t }) (sym (append_assoc a b x.tokens))

pub so_far_none : {W : Type 0} (k : Taking W) (w : W) (r : Reader) (bytes : List ℕ) → SoFar k w w r r bytes 0
so_far_none k w r bytes = record { tokens = []; handed = refl; same = refl }

-- one part more
pub so_far_on : {W : Type 0} (k : Taking W) (left : W → W → Type 0) (first w v : W) (start r s : Reader)
    (bytes : List ℕ) (at n : ℕ) → SoFar k first w start r bytes at
    → 0 < n → GivesFirst k left (Ok n) r s w v (drop at bytes) → SoFar k first v start s bytes (at + n)
so_far_on k left first w v start r s bytes at zero so some h = absurd (omega (arith, some))
so_far_on k left first w v start r s bytes at (suc n) so some (few, tokens, handed, on) = record {
  tokens = so.tokens ++ tokens;
  handed = taken_both k first w v so.tokens tokens so.handed handed;
  same =
      so.same ∙ ap (told_before so.tokens) on
      ∙ told-append so.tokens tokens (reads (begun_by s) (drop (suc n) (drop at bytes)))
      ∙ ap (λ y. told_before (so.tokens ++ tokens) (reads (begun_by s) y)) (drop-drop (suc n) at bytes);
}

-- the next part isn't whole
pub all_but_one : {W : Type 0} (k : Taking W) (left : W → W → Type 0) (first w v : W) (start r s : Reader)
    (bytes : List ℕ) (at n : ℕ) → SoFar k first w start r bytes at
    → at ≤ length bytes → n ≡ 0 → GivesFirst k left (Ok n) r s w v (drop at bytes)
    → GivesAll k left (Ok at) start s first v bytes
all_but_one {W} k left first w v start r s bytes at n so few none h = from_zero n none h
  where
    from_zero : (n : ℕ) → n ≡ 0 → GivesFirst k left (Ok n) r s w v (drop at bytes)
        → GivesAll k left (Ok at) start s first v bytes
    from_zero (suc n) none h = absurd (omega (arith, none))
    from_zero zero none (small, tokens, handed, (empty, same, begun, open_, all)) = (
      few,
      so.tokens ++ tokens,
      taken_both k first w v so.tokens tokens so.handed handed,
      so.same ∙ ap (told_before so.tokens) all
          ∙ ap (λ t. record { tokens = t; refused = None; reader = record r { held = drop at bytes } })
          (tokens_same tokens empty)
          ∙ ap (λ x. told_before (so.tokens ++ tokens) (begun_by (record x { held = drop at bytes }))) (sym same),
      ap (λ x. found x (drop at bytes)) same ∙ begun,
      λ whole. absurd (never (ap (λ x. is_whole x.extent) (sym same) ∙ whole) open_),
    )
      where
        tokens_same : (tokens : List Placed) → tokens ≡ [] → (so.tokens ++ []) ≡ ((so.tokens ++ tokens) ++ [])
        tokens_same tokens empty = ap (λ t. t ++ []) (sym (append-nil so.tokens) ∙ ap (λ t. so.tokens ++ t) (sym empty))

        never : is_whole r.extent ≡ true → is_whole r.extent ≡ false → ⊥
        never a b = cc

-- no byte is left
pub all_of_them : {W : Type 0} (k : Taking W) (left : W → W → Type 0) (first w : W) (start r : Reader) (bytes : List ℕ)
    (at : ℕ) → SoFar k first w start r bytes at
    → at ≤ length bytes → length bytes ≤ at → r.held ≡ [] → GivesAll k left (Ok at) start r first w bytes
unfolding reads
all_of_them k left first w start r bytes at so few all none =
    let empty : drop at bytes ≡ [] = drop_of_length-le bytes all in (
      few,
      so.tokens,
      so.handed,
      so.same ∙ ap (λ y. told_before so.tokens (reads (begun_by r) y)) empty
          ∙ ap (λ h. told_before so.tokens (begun_by (record r { held = h }))) (none ∙ sym empty),
      ap (found r) empty ∙ nothing r,
      λ _. empty,
    )

-- the next part stops it
pub stopped : {W : Type 0} (k : Taking W) (left : W → W → Type 0) (e : FeedError) (first w v : W) (start r : Reader)
    (bytes : List ℕ) (at : ℕ) → SoFar k first w start r bytes at
    → Stops k left e w v (reads (begun_by r) (drop at bytes)) → Stops k left e first v (reads (begun_by start) bytes)
stopped k left e first w v start r bytes at so h =
    subst (Stops k left e first v) (sym so.same)
    (stops_told k left e first w v so.tokens (reads (begun_by r) (drop at bytes)) so.handed h)

-- an answer that counts from so many bytes before
abbrev pub moved : ℕ → Result ℕ FeedError → Result ℕ FeedError
moved n (Ok used) = Ok (n + used)
moved n (Err e) = Err e

-- the parts behind a part
pub all_after : {W : Type 0} (k : Taking W) (left : W → W → Type 0) (answer : Result ℕ FeedError) (first w v : W)
    (start r s : Reader) (bytes : List ℕ) (n : ℕ)
    → SoFar k first w start r bytes n → n ≤ length bytes → GivesAll k left answer r s w v (drop n bytes)
    → GivesAll k left (moved n answer) start s first v bytes
all_after k left (Ok used) first w v start r s bytes n so few (small, tokens, handed, same, begun, empty) =
    let there : drop used (drop n bytes) ≡ drop (n + used) bytes = drop-drop used n bytes in (
      omega (arith, small, few, length-drop n bytes),
      so.tokens ++ tokens,
      taken_both k first w v so.tokens tokens so.handed handed,
      so.same ∙ ap (told_before so.tokens) same
          ∙ told-append so.tokens tokens (begun_by (record s { held = drop used (drop n bytes) }))
          ∙ ap (λ h. told_before (so.tokens ++ tokens) (begun_by (record s { held = h }))) there,
      ap (found s) (sym there) ∙ begun,
      λ whole. sym there ∙ empty whole,
    )
all_after k left (Err e) first w v start r s bytes n so few h = stopped k left e first w v start r bytes n so h

-- a prologue, which gives no token
pub head_given : {W : Type 0} (k : Taking W) (left : W → W → Type 0) (answer : Result ℕ FeedError) (r s : Reader)
    (w : W) (part : Front)
    → GivesNoToken answer r s part → GivesPart k left answer r s w w part
head_given k left (Ok n) r s w part (size, behind_it, none, is_taken) = (size, behind_it, ap (taken_all k w) none, is_taken)
head_given k left (Err (errors.Refused f)) r s w part h = inl (h, refl)
head_given k left (Err errors.Memory) r s w part h = ((0, w, refl, inl refl), h)

pub found_before : (r : Reader) (bytes : List ℕ) → r.is_in_body ≡ false → prologue_at bytes ≡ found r bytes
found_before r bytes e = sym (ap (λ (c : Bool). if c then front r.page r.table bytes else prologue_at bytes) e)

pub entered : {W : Type 0} (k : Taking W) (left : W → W → Type 0) (answer : Result ℕ FeedError) (r s : Reader) (w : W)
    (bytes : List ℕ) → r.held ≡ []
    → r.is_in_body ≡ false → is_whole r.extent ≡ false → r.place + length bytes ≤ most_bytes
    → GivesNoToken answer r s (prologue_at bytes)
    → GivesFirst k left answer r s w w bytes
entered k left answer r s w bytes none before open_ room h =
    first_given k left answer r s w w bytes none open_ room
    (head_given k left answer r s w (found r bytes) (subst (GivesNoToken answer r s) (found_before r bytes before) h))

-- the first part
pub so_far_one : {W : Type 0} (k : Taking W) (left : W → W → Type 0) (w v : W) (r s : Reader) (bytes : List ℕ) (n : ℕ)
    → 0 < n → GivesFirst k left (Ok n) r s w v bytes
    → SoFar k w v r s bytes n
so_far_one k left w v r s bytes n some h =
    let same : 0 + n ≡ n = omega arith in
    subst (SoFar k w v r s bytes) same (so_far_on k left w w v r r s bytes 0 n (so_far_none k w r bytes) some h)
