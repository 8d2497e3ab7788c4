-- Lines out of the bytes that are pending.
use Rattle.std.proofs.Common.{None, Some, Ok, Err, Bool, true, false, inl, inr, ◌≡◌, ◌<◌, ◌≤◌, ◌+◌, ◌-◌, ℕ, List, []}
use Rattle.std.proofs.Common.{◌∷◌, ◌++◌, refl, sym, ap, subst, ◌∙◌, take, drop, length, get_or, arith, length-append}
use Rattle.std.proofs.Common.{take-append-drop, append_assoc, append-nil, MatchOption, is_some}
use Rattle.std.proofs.lemmas.List.{drop_more, get_or_append_left, get_or-drop, get_or-take, length-drop, length-take-le}
use Rattle.std.proofs.Common.{slice_range, take-add, drop-drop, ap₂}
use Rattle.std.proofs.lemmas.List.{take_all, drop-take, length-take, take-take}
use Rattle.dm_base.specs.declared.outside.Failed.{Failed}
use Rattle.dm_base.specs.Lines.{PutsPending}
use Rattle.std.proofs.Math.Seq.{take-append_seam}
use Rattle.std.proofs.lemmas.Bool.{cases_lt, eq-eqb, eqb-true}
use Rattle.memchr.specs.Find.{IsFirstByte, Nowhere, Passes, is_byte}
use Rattle.std.proofs.KnownBytes.{Consumes-trans, Consumes-kept}
use Rattle.std.specs.declared.option.Option.{Option}
use Rattle.std.specs.Io.KnownBytes.{Consumes, Keeps, prepend_known}
use Rattle.dm_base.specs.declared.outside.TakeError.{TakeError}
use Rattle.dm_base.specs.declared.outside.TakeError.TheVariants.{Read, TooLong, Memory}
use Rattle.dm_base.specs.declared.lines.LineOut.TheVariants as line_out
use Rattle.dm_base.specs.declared.lines.LineReason.TheVariants as reason
use Rattle.dm_base.specs.Outside.{OfKnown, TakesSome}
use Rattle.dm_base.specs.Lines.{LinesState, FillsPending, ReadsLine, ahead, behind_pending, IsFeedless, IsLongLine}
use Rattle.dm_base.specs.Lines.{CountsTaken}
use Rattle.dm_base.specs.Lines.{AskedForMore, LeavesNoLine, HasFeed, IsPastRoom, room, line_limit}

-- no line feed among the first n bytes
abbrev pub IsClear : List ℕ → ℕ → Type 0
IsClear bytes n = (k : ℕ) → k < n → get_or bytes k 0 ≡ 10 → ⊥

pub feedless_front : (bytes : List ℕ) (n : ℕ) → n ≤ length bytes → IsClear bytes n → IsFeedless (take n bytes)
feedless_front bytes n within clear k below is =
    let lt : k < n = let e = length-take-le n bytes within in omega (arith, e, below) in
    clear k lt (sym (get_or-take n bytes k 0 lt) ∙ is)

pub clear_more : (bytes more : List ℕ) (n : ℕ) → n ≤ length bytes → IsClear bytes n → IsClear (bytes ++ more) n
clear_more bytes more n within clear k lt is =
    let low : k < length bytes = omega arith in
    clear k lt (sym (get_or_append_left bytes more 0 k low) ∙ is)

-- a line feed stands behind the line
pub split_at_feed : (bytes : List ℕ) (at : ℕ) → at < length bytes → get_or bytes at 0 ≡ 10
    → bytes ≡ take at bytes ++ 10 ∷ drop (at + 1) bytes
split_at_feed bytes at within is =
    sym (take-append-drop at bytes)
    ∙ ap (λ l. take at bytes ++ l) (drop_more bytes at 0 within ∙ ap (λ b. b ∷ drop (at + 1) bytes) is)

-- what was to come is the line, its line feed and what is to come
pub gave_line : (a left : Option (List ℕ)) (bytes new : List ℕ) (at : ℕ) → at < length bytes → get_or bytes at 0 ≡ 10
    → new ≡ drop (at + 1) bytes
    → Keeps a (prepend_known bytes left) → Consumes a (prepend_known new left) (take at bytes ++ 10 ∷ [])
gave_line None left bytes new at within is rest kept = tt
gave_line (Some x) None bytes new at within is rest kept = absurd kept
gave_line (Some x) (Some y) bytes new at within is rest kept =
    sym kept ∙ ap (λ l. l ++ y) (split_at_feed bytes at within is ∙ ap (λ l. take at bytes ++ 10 ∷ l) (sym rest))
    ∙ append_assoc (take at bytes) (10 ∷ new) y ∙ sym (append_assoc (take at bytes) (10 ∷ []) (new ++ y))

pub line_given : (a left : Option (List ℕ)) (old new : LinesState) (at r : ℕ)
    → (at < length old.pending) × (get_or old.pending at 0 ≡ 10) × IsClear old.pending at → at ≤ 8400000 → room old ≡ r
    → new.line ≡ take at old.pending → new ≡ record old { line = new.line; pending = drop (at + 1) old.pending }
    → Keeps a (ahead old left) → ReadsLine r a (ahead new left) new.line (Ok line_out.Line)
line_given a left old new at r found short same is rest kept =
    let all : length (take at old.pending) ≡ at = length-take-le at old.pending (omega (arith, found.0)) in
    let long : length new.line ≡ at = ap length is ∙ all in (
      subst IsFeedless (sym is) (feedless_front old.pending at (omega (arith, found.0)) found.2),
      omega (arith, long, short),
      omega (arith, long, found.0, same),
      subst (λ s. Consumes a (ahead s left) (new.line ++ 10 ∷ [])) (sym rest)
          (subst (λ l. Consumes a (prepend_known (drop (at + 1) old.pending) (behind_pending old left)) (l ++ 10 ∷ [])) (sym is)
          (gave_line a (behind_pending old left) old.pending _ at found.0 found.1 refl kept)),
    )

pub too_long : (a b : Option (List ℕ)) (bytes : List ℕ) (n r : ℕ) → n ≤ length bytes → 8400000 < n → length bytes ≤ r
    → IsClear bytes n → Keeps a (prepend_known bytes b) → OfKnown a (IsLongLine r)
too_long None b bytes n r within long low clear kept = tt
too_long (Some x) None bytes n r within long low clear kept = absurd kept
too_long (Some x) (Some y) bytes n r within long low clear kept =
    let e = length-take-le n bytes within in (
      take n bytes,
      drop n bytes ++ y,
      sym kept ∙ ap (λ l. l ++ y) (sym (take-append-drop n bytes)) ∙ append_assoc (take n bytes) (drop n bytes) y,
      feedless_front bytes n within clear,
      omega (arith, e, long),
      omega (arith, e, within, low),
    )

-- the pending bytes are fewer than a run looks at
pub long_line : (a left : Option (List ℕ)) (s : LinesState) (n r : ℕ) → n ≤ length s.pending → 8400000 < n
    → IsClear s.pending n
    → room s ≡ r → Keeps a (ahead s left) → ReadsLine r a (ahead s left) s.line (Ok (line_out.Bad reason.Long))
long_line a left s n r within long clear same kept =
    (kept, too_long a (behind_pending s left) s.pending n r within long (omega (arith, same)) clear kept)

-- bytes that were taken became pending
pub pending_more : (a left rest : Option (List ℕ)) (bytes more : List ℕ) → Keeps a (prepend_known bytes left)
    → Consumes left rest more → Keeps a (prepend_known (bytes ++ more) rest)
pending_more None left rest bytes more kept taken = tt
pending_more (Some x) None rest bytes more kept taken = absurd kept
pending_more (Some x) (Some y) None bytes more kept taken = absurd taken
pending_more (Some x) (Some y) (Some z) bytes more kept taken =
    append_assoc bytes more z ∙ ap (λ l. bytes ++ l) (sym taken) ∙ kept

-- with no byte past the limit, what the source gave stood behind
pub behind_taken : (left rest : Option (List ℕ)) (past new bytes : List ℕ) → past ≡ [] → new ≡ []
    → Consumes left rest bytes → Consumes (prepend_known past left) (prepend_known new rest) bytes
behind_taken None rest past new bytes e f h = tt
behind_taken (Some x) None past new bytes e f h = absurd h
behind_taken (Some x) (Some y) past new bytes e f h = ap (λ l. l ++ x) e ∙ h ∙ ap (λ l. bytes ++ (l ++ y)) (sym f)

pub taken_more : (a b c : Option (List ℕ)) (first now then' : ℕ) → CountsTaken a b first now → CountsTaken b c now then'
    → CountsTaken a c first then'
taken_more a b c first now then' p q = (
  p.0 ++ q.0,
  Consumes-trans a b c _ _ p.1 q.1,
  let e = length-append p.0 q.0 in omega (arith, e, p.2, q.2),
)

pub taken_kept : (a b c : Option (List ℕ)) (first now then' : ℕ) → CountsTaken a b first now → then' ≡ now → Keeps b c
    → CountsTaken a c first then'
taken_kept a b c first now then' p e same = (p.0, Consumes-kept a b c _ p.1 same, e ∙ p.2)

pub taken_at_error : (a left rest : Option (List ℕ)) (old new : LinesState) (error : TakeError) (first : ℕ)
    → FillsPending old new left rest (Err error) → CountsTaken a left first old.taken
    → CountsTaken a rest first new.taken
taken_at_error a left rest old new Read first h taken =
    taken_kept a left rest first _ _ taken (ap (λ s. s.taken) h.0) h.1
taken_at_error a left rest old new TooLong first h taken = taken_more a left rest first _ _ taken h.0
taken_at_error a left rest old new Memory first h taken =
    taken_kept a left rest first _ _ taken (ap (λ s. s.taken) h.0) h.1

-- the pending bytes are all that a run looks at, without a line feed, and another byte comes
pub past_room : (a b : Option (List ℕ)) (bytes : List ℕ) (r : ℕ) → Keeps a (prepend_known bytes b)
    → OfKnown b (λ s. 0 < length s) → r ≡ length bytes → length bytes ≤ 8400000 → IsClear bytes (length bytes)
    → OfKnown a (IsPastRoom r)
past_room None b bytes r kept more all short clear = tt
past_room (Some x) None bytes r kept more all short clear = absurd kept
past_room (Some x) (Some y) bytes r kept more all short clear =
    let e = ap length kept in
    let joined = length-append bytes y in
    let front = take-append_seam bytes y in
    record {
      more = omega (arith, e, joined, more, all);
      short = omega (arith, all, short);
      feedless = subst (λ n. IsFeedless (take n x)) (sym all)
          (subst (λ l. IsFeedless (take (length bytes) l)) kept (subst IsFeedless (sym front) clear));
    }

-- what is to come stays where the source kept what it had left
pub kept_ahead : (a left rest : Option (List ℕ)) (s : LinesState) → Keeps a (ahead s left) → Keeps left rest
    → Keeps a (ahead s rest)
kept_ahead None left rest s kept stays = tt
kept_ahead (Some x) None rest s kept stays = absurd kept
kept_ahead (Some x) (Some y) None s kept stays = absurd stays
kept_ahead (Some x) (Some y) (Some z) s kept stays = ap (λ l. s.pending ++ (s.past ++ l)) stays ∙ kept

-- the pending bytes hold no whole line, and no piece came
pub line_stops : (a left rest : Option (List ℕ)) (first old new : LinesState) (n : ℕ) (error : TakeError)
    → FillsPending old new left rest (Err error) → n ≡ length old.pending → n ≤ 8400000 → IsClear old.pending n
    → room old ≡ room first → Keeps a (ahead old left) → ReadsLine (room first) a (ahead new rest) new.line (Err error)
line_stops a left rest first old new n Read fill all short clear same kept =
    subst (λ s. Keeps a (ahead s rest)) (sym fill.0) (kept_ahead a left rest old kept fill.1)
line_stops a left rest first old new n TooLong fill all short clear same kept =
    let full = fill.1 in
    past_room a (behind_pending old left) old.pending (room first) kept fill.2 (omega (arith, same, full))
    (omega (arith, all, short)) (subst (λ m. IsClear old.pending m) all clear)
line_stops a left rest first old new n Memory fill all short clear same kept =
    subst (λ s. Keeps a (ahead s rest)) (sym fill.0) (kept_ahead a left rest old kept fill.1)

-- after a piece more, by what `fill` says of it
pub filled_within : (old new : LinesState) (left rest : Option (List ℕ)) (b : Bool) (n : ℕ) → b ≡ true
    → FillsPending old new left rest (Ok b) → n ≡ length old.pending → n ≤ length new.pending
filled_within old new left rest false n e h is = cc
filled_within old new left rest true n e h is =
    let a = length-append old.pending h.0 in let m = ap (λ s. length s.pending) h.2 in omega (arith, a, m, is)

pub filled_clear : (old new : LinesState) (left rest : Option (List ℕ)) (b : Bool) (n : ℕ) → b ≡ true
    → FillsPending old new left rest (Ok b) → n ≡ length old.pending
    → IsClear old.pending n → IsClear new.pending n
filled_clear old new left rest false n e h is clear = cc
filled_clear old new left rest true n e h is clear =
    subst (λ s. IsClear s.pending n) (sym h.2) (clear_more old.pending h.0 n (omega (arith, is)) clear)

pub filled_ahead : (a : Option (List ℕ)) (old new : LinesState) (left rest : Option (List ℕ)) (b : Bool) → b ≡ true
    → FillsPending old new left rest (Ok b) → Keeps a (ahead old left) → Keeps a (ahead new rest)
filled_ahead a old new left rest false e h kept = cc
filled_ahead a old new left rest true e h kept =
    subst (λ s. Keeps a (ahead s rest)) (sym h.2)
    (pending_more a (behind_pending old left) (prepend_known [] rest) old.pending h.0 kept
    (behind_taken left rest old.past [] h.0 h.3 refl h.4))

pub filled_taken : (a : Option (List ℕ)) (old new : LinesState) (left rest : Option (List ℕ)) (b : Bool) (first : ℕ)
    → b ≡ true → FillsPending old new left rest (Ok b) → CountsTaken a left first old.taken
    → CountsTaken a rest first new.taken
filled_taken a old new left rest false first e h taken = cc
filled_taken a old new left rest true first e h taken =
    taken_more a left rest _ _ _ taken (h.0, h.4, ap (λ s. s.taken) h.2)

pub filled_room : (old new : LinesState) (left rest : Option (List ℕ)) (b : Bool) → b ≡ true
    → FillsPending old new left rest (Ok b) → room new ≡ room old
filled_room old new left rest false e h = cc
filled_room old new left rest true e h =
    let n = ap (λ s. length s.pending) h.2 in let m = length-append old.pending h.0 in let t = ap (λ s. s.taken) h.2 in
    let u = h.5 in omega (arith, n, m, t, u)

-- all that stands behind a place, as a slice has it
pub slice_behind : (bytes : List ℕ) (from : ℕ) → take (length bytes - from) (drop from bytes) ≡ drop from bytes
slice_behind bytes from =
    let size = length-drop from bytes in take_all (length bytes - from) (drop from bytes) (omega (arith, size))

-- no line feed from a place on up to another, as a search behind that place tells
no_feed_behind : (bytes : List ℕ) (from end : ℕ) → Nowhere (Passes (is_byte 10) (drop from bytes)) 0 end
    → (k : ℕ) → from ≤ k → k < from + end → get_or bytes k 0 ≡ 10 → ⊥
no_feed_behind bytes from end none k low below feed =
    let there : from + (k - from) ≡ k = omega (arith, low) in
    let is : get_or (drop from bytes) (k - from) 0 ≡ 10 =
    get_or-drop from bytes (k - from) 0 ∙ ap (λ n. get_or bytes n 0) there ∙ feed in
    none (k - from) (omega arith) (omega (arith, low, below)) (eq-eqb (get_or (drop from bytes) (k - from) 0) 10 is)

-- the place that a search behind another found
pub feed_behind : (bytes : List ℕ) (from at : ℕ) → IsFirstByte (is_byte 10) (drop from bytes) (Some at)
    → (from ≤ from + at) × (from + at < length bytes) × (get_or bytes (from + at) 0 ≡ 10)
    × ((k : ℕ) → from ≤ k → k < from + at → get_or bytes k 0 ≡ 10 → ⊥)
feed_behind bytes from at found =
    let size = length-drop from bytes in
    let high = found.0.high in (
      omega arith,
      omega (arith, size, high),
      sym (get_or-drop from bytes at 0) ∙ eqb-true _ 10 found.1,
      no_feed_behind bytes from at found.0.before,
    )

-- the search behind a place found none
pub none_behind : (bytes : List ℕ) (from : ℕ) → IsFirstByte (is_byte 10) (drop from bytes) None
    → (k : ℕ) → from ≤ k → k < length bytes → get_or bytes k 0 ≡ 10 → ⊥
none_behind bytes from none k low below =
    let size = length-drop from bytes in
    no_feed_behind bytes from (length (drop from bytes)) none k low (omega (arith, size, low, below))

-- none before a place, and none from there to another
pub clear_to : (bytes looked : List ℕ) (n at : ℕ) → looked ≡ bytes → IsClear bytes n
    → ((k : ℕ) → n ≤ k → k < at → get_or looked k 0 ≡ 10 → ⊥) → IsClear bytes at
clear_to bytes looked n at was front later k below feed =
    elim (cases_lt k n) [ inl lt ↦ front k lt feed | inr le ↦ later k le below (ap (λ l. get_or l k 0) was ∙ feed) ]

-- the place that `feed_from` found
pub found_at : (bytes looked : List ℕ) (n at : ℕ) → looked ≡ bytes → IsClear bytes n
    → (n ≤ at) × (at < length looked) × (get_or looked at 0 ≡ 10)
    × ((k : ℕ) → n ≤ k → k < at → get_or looked k 0 ≡ 10 → ⊥)
    → (at < length bytes) × (get_or bytes at 0 ≡ 10) × IsClear bytes at
found_at bytes looked n at was clear found = (
  (let m = ap length was in let b = found.1 in omega (arith, m, b)),
  sym (ap (λ l. get_or l at 0) was) ∙ found.2,
  clear_to bytes looked n at was clear found.3,
)

-- it found none, so none is pending
pub none_found : (bytes looked : List ℕ) (n m : ℕ) → looked ≡ bytes → m ≡ length bytes → IsClear bytes n
    → ((k : ℕ) → n ≤ k → k < length looked → get_or looked k 0 ≡ 10 → ⊥) → IsClear bytes m
none_found bytes looked n m was all clear none =
    clear_to bytes looked n m was clear
    (λ k low below feed. none k low (let e = ap length was in omega (arith, e, all, below)) feed)

-- where nothing was asked for before and no line feed is pending, none was pending at first
pub feed_missed : (first now : LinesState) (n : ℕ) {A : Type 0} {Same : Type 0} → HasFeed first.pending
    → n ≡ length now.pending → IsClear now.pending n → (HasFeed first.pending → (now ≡ first) × Same) → A
feed_missed first now n feed all clear unasked =
    let same = ap (λ s. s.pending) (unasked feed).0 in
    let within = ap length same in
    absurd (clear feed.0 (omega (arith, all, within, feed.1)) (ap (λ l. get_or l feed.0 0) same ∙ feed.2))

-- so an error comes only where none was pending
pub asked_for_more : (first now : LinesState) (n : ℕ) {Same : Type 0} (error : TakeError)
    → n ≡ length now.pending → IsClear now.pending n → (HasFeed first.pending → (now ≡ first) × Same)
    → AskedForMore first.pending (Err error)
asked_for_more first now n error all clear unasked =
    λ k low feed. feed_missed first now n (k, low, feed) all clear unasked

-- and none is held back even then
no_line_left : (old new : LinesState) (n : ℕ) → new ≡ record old { line = new.line } → old.past ≡ []
    → n ≡ length old.pending → n ≤ line_limit → IsClear old.pending n
    → IsFeedless (new.pending ++ new.past) × (length (new.pending ++ new.past) ≤ line_limit)
no_line_left old new n same none all short clear =
    subst (λ bytes. IsFeedless bytes × (length bytes ≤ line_limit))
    (sym (ap (λ s. s.pending ++ s.past) same ∙ ap (λ past. old.pending ++ past) none ∙ append-nil old.pending))
    (subst (λ m. IsClear old.pending m) all clear, omega (arith, all, short))

pub asked_last : (old new : LinesState) (left rest : Option (List ℕ)) (n : ℕ) (error : TakeError)
    → FillsPending old new left rest (Err error) → n ≡ length old.pending → n ≤ line_limit → IsClear old.pending n
    → LeavesNoLine (new.pending ++ new.past) (Err error)
asked_last old new left rest n TooLong fill all short clear = tt
asked_last old new left rest n Read fill all short clear = no_line_left old new n fill.0 fill.2 all short clear
asked_last old new left rest n Memory fill all short clear = no_line_left old new n fill.0 fill.2 all short clear

-- what a search from the front says where it found a place
pub line_there : (bytes looked : List ℕ) (r : Option ℕ) → looked ≡ bytes
    → MatchOption r ((k : ℕ) → 0 ≤ k → k < length looked → get_or looked k 0 ≡ 10 → ⊥)
    (λ at. (0 ≤ at) × (at < length looked) × (get_or looked at 0 ≡ 10)
    × ((k : ℕ) → 0 ≤ k → k < at → get_or looked k 0 ≡ 10 → ⊥))
    → is_some r ≡ true → (at : ℕ) × (at < length bytes) × (get_or bytes at 0 ≡ 10)
line_there bytes looked None was found some = cc
line_there bytes looked (Some at) was found some =
    (at, subst (λ l. at < length l) was found.1, sym (ap (λ l. get_or l at 0) was) ∙ found.2)

-- ---- the bytes of a list, and the part of them that is pending

-- the part from a later place on
pub range_behind : (xs : List ℕ) (from n end : ℕ) → from + n ≤ end
    → slice_range xs (from + n) end ≡ drop n (slice_range xs from end)
range_behind xs from n end within =
    let long : n + (end - (from + n)) ≡ end - from = omega (arith, within) in
    ap (take (end - (from + n))) (sym (drop-drop n from xs))
    ∙ sym (drop-take n (end - (from + n)) (drop from xs)) ∙ ap (λ k. drop n (take k (drop from xs))) long

-- a part that ends at a place looks at nothing behind it
range_within : (old new : List ℕ) (from end : ℕ) → from ≤ end → take end new ≡ take end old
    → slice_range new from end ≡ slice_range old from end
range_within old new from end low same = by_front new ∙ ap (drop from) same ∙ sym (by_front old)
  where
    by_front : (xs : List ℕ) → slice_range xs from end ≡ drop from (take end xs)
    by_front xs = let long : from + (end - from) ≡ end = omega (arith, low) in
        sym (drop-take from (end - from) xs) ∙ ap (λ k. drop from (take k xs)) long

-- bytes that are put behind the part
pub range_longer : (old new : List ℕ) (from end n : ℕ) → from ≤ end → take end new ≡ take end old
    → slice_range new from (end + n) ≡ slice_range old from end ++ take n (drop end new)
range_longer old new from end n low same =
    let sum : (end - from) + n ≡ end + n - from = omega (arith, low) in
    let there : from + (end - from) ≡ end = omega (arith, low) in
    ap (λ k. take k (drop from new)) (sym sum) ∙ take-add (end - from) n (drop from new)
    ∙ ap₂ (λ a b. a ++ take n b) (range_within old new from end low same)
    (drop-drop (end - from) from new ∙ ap (λ k. drop k new) there)

-- what a source put into the room behind the pending bytes is pending then
pub put_pending : (old room kept : List ℕ) (from end n count size : ℕ) (left rest : Option (List ℕ)) → from ≤ end
    → length room ≡ size → take end room ≡ take end old
    → TakesSome {E = Failed} left rest (Ok n) (take count (drop end room))
    → PutsPending (slice_range old from end)
    (slice_range (take size (room ++ drop (length room) kept)) from (end + n)) left rest count (Ok n)
put_pending old room kept from end n count size left rest low long same took =
    let whole : take size (room ++ drop (length room) kept) ≡ room =
    ap (λ k. take k (room ++ drop (length room) kept)) (sym long) ∙ take-append_seam room (drop (length room) kept) in
    let fits = length-take count (drop end room) in
    let within = took.0 in
    let few : n ≤ count = omega (arith, fits, within) in (
      take n (take count (drop end room)),
      length-take-le n (take count (drop end room)) within,
      few,
      ap (λ l. slice_range l from (end + n)) whole ∙ range_longer old room from end n low same
          ∙ ap (λ l. slice_range old from end ++ l) (sym (take-take n count (drop end room) few)),
      took.1,
      took.2,
    )
