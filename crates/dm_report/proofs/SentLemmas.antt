-- Halving a list of what was sent, which is in the order of MsgIDs and CmdIDs.
use Rattle.std.proofs.Common.{None, Some, ◌≡◌, ◌<◌, ◌&&◌, ◌==◌, ℕ, Bool, true, false, cond, List, [], ◌∷◌, ◌++◌}
use Rattle.std.proofs.Common.{refl, sym, ap, subst, ◌∙◌, arith}
use Rattle.std.proofs.Common.{length, take, drop, get_or}
use Rattle.std.proofs.lemmas.List.{take-append-drop, drop_more, length-drop}
use Rattle.std.proofs.Common.{inl, inr, ◌||◌, nat_lt}
use Rattle.std.specs.Prelude.{IfSome, Option}
use Rattle.std.specs.List.{AllByRecursion}
use Rattle.std.proofs.lemmas.Grind.{common_steps}
use Rattle.dm_service.specs.declared.sent.Sent.{Sent}
use Rattle.dm_service.specs.Laws.{IsSentBefore, AreInOrder}
use Rattle.dm_service.specs.Matching.{is_for, find_sent}
use Rattle.dm_report.specs.Sending.{is_sent_before, AreCommands}

-- ---- parts of a list in order

pub order-front : (front : List Sent) (s : Sent) (behind : List Sent) → AreInOrder (front ++ s ∷ behind)
    → AreInOrder front
order-front [] s behind h = tt
order-front (t ∷ ts) s behind h = (all-front ts h.0, order-front ts s behind h.1)
  where
    all-front : (ss : List Sent) → AllByRecursion (IsSentBefore t) (ss ++ s ∷ behind)
        → AllByRecursion (IsSentBefore t) ss
    all-front [] k = tt
    all-front (u ∷ us) k = (k.0, all-front us k.1)

pub order-behind : (front : List Sent) (s : Sent) (behind : List Sent) → AreInOrder (front ++ s ∷ behind)
    → AllByRecursion (IsSentBefore s) behind × AreInOrder behind
order-behind [] s behind h = h
order-behind (t ∷ ts) s behind h = order-behind ts s behind h.1

-- ---- which one is meant

numbers-earlier : (a b m n msg command : ℕ) → a < m → (nat_lt m msg || (m == msg && nat_lt n command)) ≡ true
    → (a == msg && b == command) ≡ false
numbers-earlier a b m n msg command h e = grind (arith, common_steps)

numbers-lower : (a b m n msg command : ℕ) → a ≡ m → b < n → (nat_lt m msg || (m == msg && nat_lt n command)) ≡ true
    → (a == msg && b == command) ≡ false
numbers-lower a b m n msg command h k e = grind (arith, common_steps)

numbers-apart : (a b m n msg command : ℕ) → a < m → (m == msg && n == command) ≡ true
    → (a == msg && b == command) ≡ false
numbers-apart a b m n msg command h e = grind (arith, common_steps)

numbers-below : (a b m n msg command : ℕ) → a ≡ m → b < n → (m == msg && n == command) ≡ true
    → (a == msg && b == command) ≡ false
numbers-below a b m n msg command h k e = grind (arith, common_steps)

numbers-later : (a b m n msg command : ℕ) → a < m → (a == msg && b == command) ≡ false
    → (nat_lt a msg || (a == msg && nat_lt b command)) ≡ false → (m == msg && n == command) ≡ false
numbers-later a b m n msg command h e f = grind (arith, common_steps)

numbers-higher : (a b m n msg command : ℕ) → a ≡ m → b < n → (a == msg && b == command) ≡ false
    → (nat_lt a msg || (a == msg && nat_lt b command)) ≡ false → (m == msg && n == command) ≡ false
numbers-higher a b m n msg command h k e f = grind (arith, common_steps)

-- one that stands before another that isn't behind the place isn't meant
earlier : (s t : Sent) (msg command : ℕ) → IsSentBefore s t → is_sent_before t msg command ≡ true
    → is_for msg command s ≡ false
earlier s t msg command (inl h) e = numbers-earlier s.msg s.command t.msg t.command msg command h e
earlier s t msg command (inr h) e = numbers-lower s.msg s.command t.msg t.command msg command h.0 h.1 e

at-place : (s t : Sent) (msg command : ℕ) → IsSentBefore s t → is_for msg command t ≡ true
    → is_for msg command s ≡ false
at-place s t msg command (inl h) e = numbers-apart s.msg s.command t.msg t.command msg command h e
at-place s t msg command (inr h) e = numbers-below s.msg s.command t.msg t.command msg command h.0 h.1 e

later : (s t : Sent) (msg command : ℕ) → IsSentBefore s t → is_for msg command s ≡ false
    → is_sent_before s msg command ≡ false → is_for msg command t ≡ false
later s t msg command (inl h) e f = numbers-later s.msg s.command t.msg t.command msg command h e f
later s t msg command (inr h) e f = numbers-higher s.msg s.command t.msg t.command msg command h.0 h.1 e f

numbers-other : (a b msg command : ℕ) → (nat_lt a msg || (a == msg && nat_lt b command)) ≡ true
    → (a == msg && b == command) ≡ false
numbers-other a b msg command e = grind (arith, common_steps)

before-is-other : (s : Sent) (msg command : ℕ) → is_sent_before s msg command ≡ true → is_for msg command s ≡ false
before-is-other s msg command e = numbers-other s.msg s.command msg command e

find-none : (msg command : ℕ) (s : Sent) (ss : List Sent) → is_for msg command s ≡ false
    → is_sent_before s msg command ≡ false → AllByRecursion (IsSentBefore s) ss → find_sent msg command ss ≡ None
find-none msg command s [] e f h = refl
find-none msg command s (t ∷ ts) e f h =
    rw (later s t msg command h.0 e f) (find-none msg command s ts e f h.1)

pub find-behind : (msg command : ℕ) (front : List Sent) (s : Sent) (behind : List Sent)
    → AreInOrder (front ++ s ∷ behind) → is_sent_before s msg command ≡ true
    → find_sent msg command (front ++ s ∷ behind) ≡ find_sent msg command behind
find-behind msg command [] s behind h e = rw (before-is-other s msg command e) refl
find-behind msg command (t ∷ ts) s behind h e =
    rw (earlier t s msg command (middle ts h.0) e) (find-behind msg command ts s behind h.1 e)
  where
    middle : (ss : List Sent) → AllByRecursion (IsSentBefore t) (ss ++ s ∷ behind) → IsSentBefore t s
    middle [] k = k.0
    middle (u ∷ us) k = middle us k.1

pub find-at : (msg command : ℕ) (front : List Sent) (s : Sent) (behind : List Sent)
    → AreInOrder (front ++ s ∷ behind) → is_for msg command s ≡ true
    → find_sent msg command (front ++ s ∷ behind) ≡ Some s
find-at msg command [] s behind h e = rw e refl
find-at msg command (t ∷ ts) s behind h e =
    rw (at-place t s msg command (middle ts h.0) e) (find-at msg command ts s behind h.1 e)
  where
    middle : (ss : List Sent) → AllByRecursion (IsSentBefore t) (ss ++ s ∷ behind) → IsSentBefore t s
    middle [] k = k.0
    middle (u ∷ us) k = middle us k.1

pub find-front : (msg command : ℕ) (front : List Sent) (s : Sent) (behind : List Sent)
    → AreInOrder (front ++ s ∷ behind) → is_for msg command s ≡ false → is_sent_before s msg command ≡ false
    → find_sent msg command (front ++ s ∷ behind) ≡ find_sent msg command front
find-front msg command [] s behind h e f = rw e (find-none msg command s behind e f h.0)
find-front msg command (t ∷ ts) s behind h e f =
    by_test (is_for msg command t) (find-front msg command ts s behind h.1 e f)
  where
    by_test : (b : Bool) → find_sent msg command (ts ++ s ∷ behind) ≡ find_sent msg command ts
        → cond b (Some t) (find_sent msg command (ts ++ s ∷ behind)) ≡ cond b (Some t) (find_sent msg command ts)
    by_test true k = refl
    by_test false k = k

-- ---- what is found has a number

pub found-numbered : (msg command : ℕ) (ss : List Sent) → AreCommands ss
    → IfSome (find_sent msg command ss) (λ (s : Sent). 0 < s.number)
found-numbered msg command [] h = tt
found-numbered msg command (s ∷ ss) h = by_test (is_for msg command s) (found-numbered msg command ss h.1)
  where
    by_test : (b : Bool) → IfSome (find_sent msg command ss) (λ (s : Sent). 0 < s.number)
        → IfSome (cond b (Some s) (find_sent msg command ss)) (λ (s : Sent). 0 < s.number)
    by_test true k = h.0
    by_test false k = k

-- ---- halves

-- a list is a front, a middle, and what is behind it
pub record IsHalved (rest front back : List Sent) (s : Sent) : Type 0 where
  pub parts : rest ≡ front ++ s ∷ drop 1 back

pub halved : (rest front back : List Sent) (n : ℕ) (d : Sent) → front ≡ take n rest → back ≡ drop n rest
    → n < length rest → IsHalved rest front back (get_or back 0 d)
halved rest front back n d e f h =
    let long : 0 < length back = omega (arith, ap length f, length-drop n rest) in
    let met : back ≡ get_or back 0 d ∷ drop 1 back = drop_more back 0 d long in
    record {
      parts = sym (take-append-drop n rest) ∙ ap (λ (ss : List Sent). ss ++ drop n rest) (sym e)
          ∙ ap (λ (ss : List Sent). front ++ ss) (sym f ∙ met);
    }

pub middle-found : (msg command : ℕ) (rest front back : List Sent) (s : Sent) → IsHalved rest front back s
    → AreInOrder rest → is_for msg command s ≡ true → find_sent msg command rest ≡ Some s
middle-found msg command rest front back s h o e =
    ap (λ (ss : List Sent). find_sent msg command ss) h.parts
    ∙ find-at msg command front s (drop 1 back) (rw h.parts at o) e

pub behind-found : (msg command : ℕ) (rest front back behind : List Sent) (s : Sent) → IsHalved rest front back s
    → behind ≡ drop 1 back → AreInOrder rest → is_sent_before s msg command ≡ true
    → (find_sent msg command rest ≡ find_sent msg command behind) × AreInOrder behind
behind-found msg command rest front back behind s h b o e =
    let p : AreInOrder (front ++ s ∷ drop 1 back) = rw h.parts at o in
    rw b (
      ap (λ (ss : List Sent). find_sent msg command ss) h.parts
          ∙ find-behind msg command front s (drop 1 back) p e,
      (order-behind front s (drop 1 back) p).1,
    )

pub front-found : (msg command : ℕ) (rest front back : List Sent) (s : Sent) → IsHalved rest front back s
    → AreInOrder rest → is_for msg command s ≡ false → is_sent_before s msg command ≡ false
    → (find_sent msg command rest ≡ find_sent msg command front) × AreInOrder front
front-found msg command rest front back s h o e f =
    let p : AreInOrder (front ++ s ∷ drop 1 back) = rw h.parts at o in (
      ap (λ (ss : List Sent). find_sent msg command ss) h.parts ∙ find-front msg command front s (drop 1 back) p e f,
      order-front front s (drop 1 back) p,
    )

-- the one that is found, where it is this one
pub numbered-at : (msg command : ℕ) (ss : List Sent) (s : Sent) → AreCommands ss
    → Some s ≡ find_sent msg command ss → 0 < s.number
numbered-at msg command ss s h e =
    subst (λ (o : Option Sent). IfSome o (λ (t : Sent). 0 < t.number)) (sym e) (found-numbered msg command ss h)
