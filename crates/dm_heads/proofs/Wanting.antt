-- When a source is asked again: one ask behind another.
use Rattle.std.proofs.Common.{◌≡◌, ◌<◌, ◌≤◌, ◌+◌, ◌++◌, ◌⊎◌, ℕ, Result, Ok, Err, List, [], inl, inr, refl, sym, ap}
use Rattle.std.proofs.Common.{subst, ◌∙◌}
use Rattle.std.proofs.Common.{arith, length, drop, append-nil, append_assoc, length-append, length-drop}
use Rattle.std.specs.declared.option.Option.{Option}
use Rattle.std.specs.Io.KnownBytes.{Consumes, Keeps}
use Rattle.std.proofs.KnownBytes.{Consumes-nil, Consumes-trans, Consumes-kept}
use Rattle.dm_heads.specs.declared.errors.HttpError.{HttpError}
use Rattle.dm_heads.specs.declared.errors.HttpError.TheVariants as error
use Rattle.dm_heads.specs.declared.extents.HeadVerdict.TheVariants as verdict
use Rattle.dm_heads.specs.declared.heads.HeadKind.{HeadKind}
use Rattle.dm_heads.specs.Messages.{HasHead, HasNoHead, MayBecomeHead}
use Rattle.dm_heads.specs.Taking.{AskedUpTo}
use Rattle.dm_heads.specs.Asking.{Wants, LastAsk, Asked, AskedUnsettled, Asks, AskedBehind, AsksBehind}
use Rattle.dm_heads.proofs.HeadLemmas.{has_head_more}
use Rattle.dm_heads.proofs.MoreBytes.{rest_more}

-- ---- up to a length

abbrev pub UpToNow : Option (List ℕ) → Option (List ℕ) → List ℕ → List ℕ → ℕ → Type 0
UpToNow old new start now end = (p : List ℕ) × (q : List ℕ) × Consumes old new (p ++ q) × (length q ≤ 4096) × (now ≡ start ++ (p ++ q))
    × ((p ++ q ≡ []) ⊎ (length (start ++ p) < end))

pub up_to_first : (old : Option (List ℕ)) (start : List ℕ) (end : ℕ) → UpToNow old old start start end
up_to_first old start end = ([], [], Consumes-nil old, omega arith, sym (append-nil start), inl refl)

pub up_to_more : (a b c : Option (List ℕ)) (start mid now piece : List ℕ) (end : ℕ) → UpToNow a b start mid end → length mid < end
    → Consumes b c piece → length piece ≤ 4096 → now ≡ mid ++ piece → UpToNow a c start now end
up_to_more a b c start mid now piece end u low gone small is =
    let p = u.0 ++ u.1 in
    let joined : now ≡ start ++ (p ++ piece) = is ∙ ap (λ l. l ++ piece) u.4 ∙ append_assoc start p piece in
    (p, piece, Consumes-trans a b c p piece u.2 gone, small, joined, inr (subst (λ l. length l < end) u.4 low))

pub up_to_then : (a b c : Option (List ℕ)) (start mid piece : List ℕ) (end : ℕ) → UpToNow a b start mid end → length mid < end
    → Consumes b c piece → length piece ≤ 4096 → AskedUpTo a c start end
up_to_then a b c start mid piece end u low gone small =
    let more = up_to_more a b c start mid (mid ++ piece) piece end u low gone small refl in (more.0, more.1, more.2, more.3, more.5)

-- ---- the head

pub first_ask : (k : HeadKind) → LastAsk k []
first_ask k = ([], [], refl, omega arith, inl refl)

pub next_ask : (k : HeadKind) (taken now piece : List ℕ) → length taken < 8192 → HasNoHead k taken → MayBecomeHead k taken → length piece ≤ 4096 → now ≡ taken ++ piece
    → LastAsk k now
next_ask k taken now piece short lacks may small is = (taken, piece, is, small, inr (inl (short, lacks, may)))

pub asked_then : (k : HeadKind) (a b c : Option (List ℕ)) (taken piece : List ℕ) → Consumes a b taken → Consumes b c piece
    → length taken < 8192 → HasNoHead k taken → MayBecomeHead k taken → length piece ≤ 4096 → Asked k a c
asked_then k a b c taken piece first gone short lacks may small =
    (taken ++ piece, Consumes-trans a b c taken piece first gone, next_ask k taken (taken ++ piece) piece short lacks may small refl)

-- ---- the body

sized_wants : (k : HeadKind) (head p : List ℕ) (len n : ℕ) → len ≤ length head → HasHead k head (verdict.Sized n) (drop len head)
    → length (head ++ p) < len + n → Wants k (head ++ p)
sized_wants k head p len n within o low =
    inr (
      verdict.Sized n,
      drop len (head ++ p),
      subst (HasHead k (head ++ p) (verdict.Sized n)) (sym (rest_more head p len within)) (has_head_more k head p (verdict.Sized n) (drop len head) o),
      (let a = length-drop len (head ++ p) in let b = length-append head p in omega (arith, a, b, low, within)),
    )

unsized_wants : (k : HeadKind) (head p : List ℕ) (len : ℕ) → len ≤ length head → HasHead k head verdict.Unsized (drop len head)
    → length (head ++ p) < len + 65537 → Wants k (head ++ p)
unsized_wants k head p len within o low =
    inr (
      verdict.Unsized,
      drop len (head ++ p),
      subst (HasHead k (head ++ p) verdict.Unsized) (sym (rest_more head p len within)) (has_head_more k head p verdict.Unsized (drop len head) o),
      (let a = length-drop len (head ++ p) in omega (arith, a, low)),
    )

sized_asked : (k : HeadKind) (head p q : List ℕ) (len n : ℕ) → len ≤ length head → HasHead k head (verdict.Sized n) (drop len head)
    → (p ++ q ≡ []) ⊎ (length (head ++ p) < len + n) → (p ++ q ≡ []) ⊎ Wants k (head ++ p)
sized_asked k head p q len n within o (inl none) = inl none
sized_asked k head p q len n within o (inr low) = inr (sized_wants k head p len n within o low)

unsized_asked : (k : HeadKind) (head p q : List ℕ) (len : ℕ) → len ≤ length head → HasHead k head verdict.Unsized (drop len head)
    → (p ++ q ≡ []) ⊎ (length (head ++ p) < len + 65537) → (p ++ q ≡ []) ⊎ Wants k (head ++ p)
unsized_asked k head p q len within o (inl none) = inl none
unsized_asked k head p q len within o (inr low) = inr (unsized_wants k head p len within o low)

pub behind_sized : (k : HeadKind) (head : List ℕ) (old new : Option (List ℕ)) (len n : ℕ) → len ≤ length head
    → HasHead k head (verdict.Sized n) (drop len head) → AskedUpTo old new head (len + n) → AskedBehind k head old new
behind_sized k head old new len n within o u = (u.0, u.1, u.2, u.3, sized_asked k head u.0 u.1 len n within o u.4)

pub behind_unsized : (k : HeadKind) (head : List ℕ) (old new : Option (List ℕ)) (len end : ℕ) → len ≤ length head
    → end ≡ len + 65537 → HasHead k head verdict.Unsized (drop len head) → AskedUpTo old new head end → AskedBehind k head old new
behind_unsized k head old new len end within is o u =
    let asked = subst (λ n. (u.0 ++ u.1 ≡ []) ⊎ (length (head ++ u.0) < n)) is u.4 in
    (u.0, u.1, u.2, u.3, unsized_asked k head u.0 u.1 len within o asked)

pub behind_none : (k : HeadKind) (head : List ℕ) (left : Option (List ℕ)) → AskedBehind k head left left
behind_none k head left = ([], [], Consumes-nil left, omega arith, inl refl)

-- ---- behind a head

both_asked : (k : HeadKind) (a b c : Option (List ℕ)) (head p q : List ℕ) → Consumes a b head → LastAsk k head → Consumes b c (p ++ q) → length q ≤ 4096
    → (p ++ q ≡ []) ⊎ Wants k (head ++ p) → Asked k a c
both_asked k a b c head p q first ask gone small (inl none) =
    (head, subst (Consumes a c) (append-nil head) (Consumes-trans a b c head [] first (subst (Consumes b c) none gone)), ask)
both_asked k a b c head p q first ask gone small (inr wants) =
    (head ++ (p ++ q), Consumes-trans a b c head (p ++ q) first gone, (head ++ p, q, sym (append_assoc head p q), small, inr wants))

whole_asked : (k : HeadKind) (a b c : Option (List ℕ)) (head : List ℕ) → Consumes a b head → LastAsk k head
    → AskedBehind k head b c → Asked k a c
whole_asked k a b c head first ask later = both_asked k a b c head later.0 later.1 first ask later.2 later.3 later.4

pub asks_whole : (k : HeadKind) (a b c : Option (List ℕ)) (head : List ℕ) (r : Result (List ℕ) HttpError) → Consumes a b head → LastAsk k head
    → AsksBehind k head b c r → Asks k a c r
asks_whole k a b c head (Ok body) first ask later = whole_asked k a b c head first ask later
asks_whole k a b c head (Err error.Failed) first ask later =
    (head ++ later.0, Consumes-trans a b c head later.0 first later.1, later.2)
asks_whole k a b c head (Err error.Memory) first ask later = whole_asked k a b c head first ask later
asks_whole k a b c head (Err error.BadHead) first ask later = whole_asked k a b c head first ask later
asks_whole k a b c head (Err (error.NotOk code)) first ask later = whole_asked k a b c head first ask later
asks_whole k a b c head (Err error.TooLong) first ask later = whole_asked k a b c head first ask later
asks_whole k a b c head (Err error.Cut) first ask later = whole_asked k a b c head first ask later

-- ---- where the source failed

pub failed_up_to : (a b c : Option (List ℕ)) (start mid : List ℕ) (end : ℕ) → UpToNow a b start mid end → length mid < end → Keeps b c
    → (p : List ℕ) × Consumes a c p × (length (start ++ p) < end)
failed_up_to a b c start mid end u low kept =
    (u.0 ++ u.1, Consumes-kept a b c (u.0 ++ u.1) u.2 kept, subst (λ l. length l < end) u.4 low)

pub failed_head : (k : HeadKind) (a b c : Option (List ℕ)) (taken : List ℕ) → Consumes a b taken → Keeps b c
    → length taken < 8192 → HasNoHead k taken → MayBecomeHead k taken → AskedUnsettled k a c
failed_head k a b c taken first kept short lacks may = (taken, Consumes-kept a b c taken first kept, inl (short, lacks, may))

pub failed_sized : (k : HeadKind) (head : List ℕ) (old new : Option (List ℕ)) (len n : ℕ) → len ≤ length head
    → HasHead k head (verdict.Sized n) (drop len head) → (p : List ℕ) × Consumes old new p × (length (head ++ p) < len + n)
    → (p : List ℕ) × Consumes old new p × Wants k (head ++ p)
failed_sized k head old new len n within o u = (u.0, u.1, sized_wants k head u.0 len n within o u.2)

pub failed_unsized : (k : HeadKind) (head : List ℕ) (old new : Option (List ℕ)) (len end : ℕ) → len ≤ length head
    → end ≡ len + 65537 → HasHead k head verdict.Unsized (drop len head) → (p : List ℕ) × Consumes old new p × (length (head ++ p) < end)
    → (p : List ℕ) × Consumes old new p × Wants k (head ++ p)
failed_unsized k head old new len end within is o u =
    (u.0, u.1, unsized_wants k head u.0 len within o (subst (λ n. length (head ++ u.0) < n) is u.2))
