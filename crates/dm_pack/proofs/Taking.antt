-- Entries taken from the front, one by one.
use Rattle.std.proofs.Common.{◌≡◌, ◌≤◌, ◌+◌, ℕ, zero, suc, Bool, true, false, if◌then◌else◌, List, [], ◌∷◌, ◌++◌}
use Rattle.std.proofs.Common.{length, take, drop, Some, None, refl, sym, ap, ◌∙◌, arith}
use Rattle.std.proofs.Math.Seq.{take-add}
use Rattle.std.proofs.lemmas.List.{drop_all}
use Rattle.std.specs.List.{AllByRecursion}
use Rattle.syncml_types.specs.declared.values.Header.{Header}
use Rattle.syncml_types.specs.declared.command.Command.{Command}
use Rattle.syncml_parts.specs.Numbering.{with_numbers}
use Rattle.dm_pack.specs.declared.place.Place.{Place}
use Rattle.dm_pack.specs.Entries.{Entry, IsReady, IsFitCommand}
use Rattle.dm_pack.specs.Filling.{numbered, fits_room, commands_of, taken, next_part, tail_commands}
use Rattle.syncml_types.specs.Fitness.{IsFit}
use Rattle.dm_pack.specs.declared.filled.Tail.{Tail}
use Rattle.dm_pack.specs.declared.filled.Tail.TheVariants.{Final, NextMessage, Nothing}
use Rattle.dm_pack.proofs.Fit.{numbered_fit, part_fit, asks_fit}
use Rattle.dm_pack.specs.Measures.{place_past, fits_at, within, place_of}
use Rattle.dm_pack.proofs.Numbers.{numbered_append}
use Rattle.dm_pack.proofs.Measuring.{behind_is, fits_next, next_low}
use Rattle.std.proofs.lemmas.Bool.{leb-true}

map_append : (es ds : List Entry) → commands_of (es ++ ds) ≡ commands_of es ++ commands_of ds
map_append [] ds = refl
map_append (e ∷ es) ds = ap (λ l. e.command ∷ l) (map_append es ds)

pub commands_next : (es : List Entry) (at : ℕ) (e : Entry) (rest : List Entry) → drop at es ≡ e ∷ rest
    → commands_of (take (at + 1) es) ≡ commands_of (take at es) ++ e.command ∷ []
commands_next es at e rest is =
    ap commands_of (take-add at 1 es ∙ ap (λ l. take at es ++ take 1 l) is) ∙ map_append (take at es) (e ∷ [])

was_within_by : (room : ℕ) (p q : Place) (t : Bool) → fits_at room p ≡ t → Some q ≡ (if t then Some p else None)
    → (q ≡ p) × (fits_at room p ≡ true)
was_within_by room p q true e h = (let same : q ≡ p = cc in same, e)
was_within_by room p q false e h = absurd (cc)

pub was_within : (room : ℕ) (p q : Place) → Some q ≡ within room p → (q ≡ p) × (fits_at room p ≡ true)
was_within room p q h = was_within_by room p q (fits_at room p) refl h

was_not_by : (room : ℕ) (p : Place) (t : Bool) → fits_at room p ≡ t → None ≡ (if t then Some p else None)
    → fits_at room p ≡ false
was_not_by room p true e h = absurd (cc)
was_not_by room p false e h = e

pub was_not_within : (room : ℕ) (p : Place) → None ≡ within room p → fits_at room p ≡ false
was_not_within room p h = was_not_by room p (fits_at room p) refl h

-- what holds where so many entries were taken
pub record HasTaken (h : Header) (room : ℕ) (es : List Entry) (at : ℕ) (place : Place) (body : List Command) :
    Type 0 where
  pub rest : at + taken h room (commands_of (take at es)) (drop at es) ≡ taken h room [] es
  pub place_is : place ≡ place_of h (commands_of (take at es))
  pub body_is : body ≡ numbered 1 (commands_of (take at es))
  pub used_low : place.used ≤ 65536
  pub next_is_low : place.next ≤ 1 + place.used
  pub ready : AllByRecursion IsReady (drop at es)

pub taken_one : (h : Header) (room : ℕ) (cs : List Command) (e : Entry) (es : List Entry)
    → fits_room h room (cs ++ e.command ∷ []) ≡ true
    → taken h room cs (e ∷ es) ≡ suc (taken h room (cs ++ e.command ∷ []) es)
taken_one h room cs e es fit = rw fit refl

pub taken_none : (h : Header) (room : ℕ) (cs : List Command) (e : Entry) (es : List Entry)
    → fits_room h room (cs ++ e.command ∷ []) ≡ false
    → taken h room cs (e ∷ es) ≡ 0
taken_none h room cs e es fit = rw fit refl

fit_low : (room : ℕ) (p : Place) → fits_at room p ≡ true → p.used ≤ room
fit_low room p h = let low = leb-true _ room h in omega (arith, low)

pub all_rest : (xs : List Entry) (e : Entry) (rest : List Entry) → xs ≡ e ∷ rest → AllByRecursion IsReady xs
    → IsReady e × AllByRecursion IsReady rest
all_rest [] e rest is h = absurd (let long = ap length is in omega (arith, long))
all_rest (x ∷ xs) e rest is h =
    let first : x ≡ e = cc in
    let others : xs ≡ rest = cc in
    (rw (sym first) h.0, rw (sym others) h.1)

pub one_more : (h : Header) (room at : ℕ) (es : List Entry) (e : Entry) (place next : Place) (body later : List Command)
    → HasTaken h room es at place body
    → room ≤ 65536 → drop at es ≡ e ∷ drop (at + 1) es → Some next ≡ within room (place_past place e.command)
    → later ≡ body ++ with_numbers place.next e.command ∷ [] → HasTaken h room es (at + 1) next later
one_more h room at es e place next body later t most is some pushed =
    let cs = commands_of (take at es) in
    let was = was_within room (place_past place e.command) next some in
    let more = commands_next es at e (drop (at + 1) es) is in
    let fit : fits_room h room (cs ++ e.command ∷ []) ≡ true =
    fits_next h room cs e.command ∙ ap (λ p. fits_at room (place_past p e.command)) (sym t.place_is) ∙ was.1 in
    let one = ap (taken h room cs) is ∙ taken_one h room cs e (drop (at + 1) es) fit in
    let same = ap (λ l. taken h room l (drop (at + 1) es)) more in
    let before = t.rest in
    let used = ap (λ (p : Place). p.used) was.0 in
    let number = ap (λ (p : Place). p.next) was.0 in
    let low = fit_low room (place_past place e.command) was.1 in
    let next_bound = next_low place e.command t.next_is_low in
    record {
      rest = omega (arith, one, same, before);
      place_is =
          was.0 ∙ ap (λ p. place_past p e.command) t.place_is ∙ behind_is h cs e.command ∙ ap (place_of h) (sym more);
      body_is =
          pushed
          ∙ ap (λ b. b ++ with_numbers place.next e.command ∷ []) t.body_is
          ∙ ap (λ (p : Place). numbered 1 cs ++ with_numbers p.next e.command ∷ []) t.place_is
          ∙ sym (numbered_append 1 cs (e.command ∷ []))
          ∙ ap (numbered 1) (sym more);
      used_low = omega (arith, used, low, most);
      next_is_low = omega (arith, used, number, next_bound);
      ready = (all_rest (drop at es) e (drop (at + 1) es) is t.ready).1;
    }

pub ended : (h : Header) (room at : ℕ) (es : List Entry) (e : Entry) (place : Place) (body : List Command)
    → HasTaken h room es at place body
    → drop at es ≡ e ∷ drop (at + 1) es → None ≡ within room (place_past place e.command) → at ≡ taken h room [] es
ended h room at es e place body t is none =
    let cs = commands_of (take at es) in
    let fit : fits_room h room (cs ++ e.command ∷ []) ≡ false =
    fits_next h room cs e.command ∙ ap (λ p. fits_at room (place_past p e.command)) (sym t.place_is)
    ∙ was_not_within room (place_past place e.command) none in
    let stop = ap (taken h room cs) is ∙ taken_none h room cs e (drop (at + 1) es) fit in
    let before = t.rest in
    omega (arith, stop, before)

pub all_taken : (h : Header) (room at : ℕ) (es : List Entry) (place : Place) (body : List Command)
    → HasTaken h room es at place body
    → length es ≤ at → at ≡ taken h room [] es
all_taken h room at es place body t whole =
    let stop = ap (taken h room (commands_of (take at es))) (drop_all at es whole) in
    let before = t.rest in
    omega (arith, stop, before)

pub none_yet : (h : Header) (room : ℕ) (es : List Entry) (place : Place) (body : List Command) → place ≡ place_of h []
    → body ≡ []
    → place.used ≤ 65536 → place.next ≤ 1 + place.used → AllByRecursion IsReady es → HasTaken h room es 0 place body
none_yet h room es place body p b low next ready = record {
  rest = omega arith;
  place_is = p;
  body_is = b;
  used_low = low;
  next_is_low = next;
  ready = ready;
}

-- ---- what is sent is fit

all_append : {A : Type 0} (P : A → Type 0) (xs ys : List A) → AllByRecursion P xs → AllByRecursion P ys
    → AllByRecursion P (xs ++ ys)
all_append P [] ys h k = k
all_append P (x ∷ xs) ys h k = (h.0, all_append P xs ys h.1 k)

all_fit : (es : List Entry) (n : ℕ) → AllByRecursion IsReady es → AllByRecursion IsFitCommand (commands_of (take n es))
all_fit es zero h = tt
all_fit [] (suc n) h = tt
all_fit (e ∷ es) (suc n) h = (h.0.fit, all_fit es n h.1)

pub all_behind : (es : List Entry) (n : ℕ) → AllByRecursion IsReady es → AllByRecursion IsReady (drop n es)
all_behind es zero h = h
all_behind [] (suc n) h = tt
all_behind (e ∷ es) (suc n) h = all_behind es n h.1

next_fit : (n : ℕ) (es : List Entry) → AllByRecursion IsReady es → AllByRecursion IsFitCommand (next_part n es)
next_fit zero es h = tt
next_fit (suc n) [] h = tt
next_fit (suc n) (e ∷ es) h = (part_fit e (suc n) h.0.fit, tt)

tail_fit : (t : Tail) → AllByRecursion IsFitCommand (tail_commands t)
tail_fit Final = tt
tail_fit NextMessage = (asks_fit, tt)
tail_fit Nothing = tt

pub message_fit : (h : Header) (es : List Entry) (whole n : ℕ) (t : Tail) → IsFit h [] → AllByRecursion IsReady es
    → IsFit h (numbered 1 (commands_of (take whole es) ++ next_part n (drop whole es) ++ tail_commands t))
message_fit h es whole n t fit all =
    numbered_fit h (commands_of (take whole es) ++ next_part n (drop whole es) ++ tail_commands t) fit
    (all_append IsFitCommand (commands_of (take whole es) ++ next_part n (drop whole es)) (tail_commands t)
    (all_append IsFitCommand (commands_of (take whole es)) (next_part n (drop whole es)) (all_fit es whole all)
    (next_fit n (drop whole es) (all_behind es whole all)))
    (tail_fit t))
