-- A value that comes whole is the bytes of all pieces of its object, one behind the other.
use Rattle.std.proofs.Common.{◌≡◌, ℕ, ◌&&◌, ◌+◌, ◌==◌, Bool, true, false, not, cond, List, [], ◌∷◌, ◌++◌, length}
use Rattle.std.proofs.Common.{nat_lt, None, Some, refl, sym, ◌∙◌, ap, subst, arith, append_assoc, append-nil}
use Rattle.std.specs.Prelude.{Option, is_some, IfSome}
use Rattle.std.specs.List.{AllByRecursion, last_or}
use Rattle.std.proofs.lemmas.Bool.{and_parts, and_from, false_from_ne_true}
use Rattle.std.proofs.lemmas.Bool.Decides.{nat_tests}
use Rattle.std.proofs.lemmas.Slice.Eq.{bytes_eq-Decides}
use Rattle.std.proofs.lemmas.List.{flat_map_more}
use Rattle.syncml_types.specs.declared.command.Step.{Step}
use Rattle.syncml_types.specs.declared.command.Verb.{Verb}
use Rattle.syncml_types.specs.declared.command.Verb.TheVariants.{Add, Copy, Delete, Exec, Get, Replace}
use Rattle.syncml_types.specs.Verbs.{is_write}
use Rattle.dm_objects.specs.declared.object.Key.{Key}
use Rattle.dm_objects.specs.declared.object.Begun.{Begun}
use Rattle.dm_objects.specs.declared.object.Object.{Object}
use Rattle.dm_objects.specs.declared.object.Object.TheVariants.{Nothing, Buffering, Skipping}
use Rattle.dm_objects.specs.declared.piece.Piece.{Piece}
use Rattle.dm_objects.specs.declared.piece.What.{What}
use Rattle.dm_objects.specs.declared.piece.What.TheVariants.{Whole, Buffered, Refused}
use Rattle.dm_objects.specs.Gathering.{key_of, verb_number, is_same_text, is_same_place, is_same_key, continues, Came}
use Rattle.dm_objects.specs.Gathering.{came, skipped, begun_object, first_of_several, single, whole_step}
use Rattle.dm_objects.specs.Gathering.{next_piece, write_piece, by_rules, gather}
use Rattle.dm_objects.specs.Laws.{gather_all, bytes_of, wants_more, is_earlier, IsPutTogether, WholesArePutTogether}

-- ---- keys that are the same are equal

verb_with : ℕ → Verb
verb_with number =
    cond (number == 0) Add (cond (number == 1) Copy (cond (number == 2) Delete
    (cond (number == 3) Exec (cond (number == 4) Get Replace))))

with-number : (verb : Verb) → verb_with (verb_number verb) ≡ verb
unfolding verb_with
with-number Add = refl
with-number Copy = refl
with-number Delete = refl
with-number Exec = refl
with-number Get = refl
with-number Replace = refl

equal : (m n : ℕ) → m == n ≡ true → m ≡ n
equal m n e = grind (arith, nat_tests)

same-verb : (verb other : Verb) → verb_number verb == verb_number other ≡ true → verb ≡ other
same-verb verb other e =
    sym (with-number verb) ∙ ap verb_with (equal (verb_number verb) (verb_number other) e) ∙ with-number other

same-text : (text other : Option (List ℕ)) → is_same_text text other ≡ true → text ≡ other
same-text None None e = refl
same-text None (Some other) e = absurd (cc)
same-text (Some text) None e = absurd (cc)
same-text (Some text) (Some other) e = ap Some ((bytes_eq-Decides text other).0 e)

same-place : (inside other : Bool) → is_same_place inside other ≡ true → inside ≡ other
same-place true true e = refl
same-place true false e = absurd (cc)
same-place false true e = absurd (cc)
same-place false false e = refl

same-key : (key other : Key) → is_same_key key other ≡ true → key ≡ other
same-key key other e =
    let of_verb = verb_number key.verb == verb_number other.verb in
    let of_text = is_same_text key.target other.target in
    let both = and_parts (of_verb && of_text) (is_same_place key.in_atomic other.in_atomic) e in
    let front = and_parts of_verb of_text both.0 in
    let verb : key.verb ≡ other.verb = same-verb key.verb other.verb front.0 in
    let target : key.target ≡ other.target = same-text key.target other.target front.1 in
    let place : key.in_atomic ≡ other.in_atomic = same-place key.in_atomic other.in_atomic both.1 in
    λ i. record { verb = verb i; target = target i; in_atomic = place i }

-- ---- a piece behind which more of its object is to come

wants : (piece : Piece) → wants_more piece ≡ true
    → (piece.more ≡ true) × (is_write piece.step.verb ≡ true) × (is_some piece.step.target ≡ true)
wants piece e =
    let all = and_parts (piece.more && is_write piece.step.verb) (is_some piece.step.target) e in
    let front = and_parts piece.more (is_write piece.step.verb) all.0 in
    (front.0, front.1, all.1)

-- of an object with this key
abbrev HasKey : Object → Key → Type 0
HasKey Nothing key = ⊥
HasKey (Buffering begun) key = begun.key ≡ key
HasKey (Skipping of_it code) key = of_it ≡ key

-- the object behind a piece is that of the piece, where more of it is to come
abbrev Waits : Piece → Object → Type 0
Waits piece object = wants_more piece ≡ true → HasKey object (key_of piece.step)

ends-all : (piece : Piece) → piece.more ≡ false → (object : Object) → Waits piece object
ends-all piece m object w = let more : piece.more ≡ true = (wants piece w).0 in absurd (cc)

-- no earlier piece of an object with this key ends these pieces
abbrev IsFront : List Piece → Key → Type 0
IsFront old key = IfSome (last_or None old) (λ p. wants_more p && is_same_key (key_of p.step) key ≡ false)

-- ---- the object behind some pieces

-- more of an object with this key is to come behind the piece
abbrev IsPart : Key → Piece → Type 0
IsPart key piece = (piece.more ≡ true) × (key_of piece.step ≡ key)

-- the last of these pieces are those of an object that is being buffered, and it begins with the first of them
record IsBegun (done : List Piece) (begun : Begun) : Type 0 where
  old : List Piece
  first : Piece
  more : List Piece
  run : done ≡ old ++ first ∷ more
  writes : is_write begun.key.verb ≡ true
  named : is_some begun.key.target ≡ true
  parts : AllByRecursion (IsPart begun.key) (first ∷ more)
  begins : IsFront old begun.key
  bytes : begun.value ≡ bytes_of (first ∷ more)
  format_is : begun.format ≡ first.step.format
  media_is : begun.media ≡ first.step.media

abbrev Held : List Piece → Object → Type 0
Held done Nothing = Unit {0}
Held done (Buffering begun) = IsBegun done begun
Held done (Skipping key code) = Unit {0}

record Fits (done : List Piece) (object : Object) : Type 0 where
  held : Held done object
  waits : IfSome (last_or None done) (λ p. Waits p object)

-- a piece that meets this object continues it, and where it meets none, it begins an object of its own
abbrev Goes : List Piece → Object → Piece → Type 0
Goes done Nothing piece = IsFront done (key_of piece.step)
Goes done (Buffering begun) piece = is_same_key begun.key (key_of piece.step) ≡ true
Goes done (Skipping key code) piece = is_same_key key (key_of piece.step) ≡ true

-- what a piece comes to is so again, and a value that comes whole is put together
abbrev Does : List Piece → Piece → Came → Type 0
Does done piece c =
    Held (done ++ piece ∷ []) c.object × Waits piece c.object
    × ((value : Step) → c.what ≡ Whole value → IsPutTogether done piece value)

-- ---- a piece alone

abbrev value_or : Step → What → Step
value_or step (Whole value) = value
value_or step Buffered = step
value_or step (Refused code) = step

alone : (done : List Piece) (piece : Piece) → IsFront done (key_of piece.step) → piece.more ≡ false
    → (value : Step) → Whole piece.step ≡ Whole value → IsPutTogether done piece value
alone done piece f m value e =
    let is : piece.step ≡ value = ap (value_or piece.step) e in
    record {
      old = done;
      earlier = [];
      run = sym (append-nil done);
      of_one = tt;
      begins = f;
      ends = m;
      bytes = ap (λ (s : Step). s.value) (sym is) ∙ sym (append-nil piece.step.value);
      format = ap (λ (s : Step). s.format) (sym is);
      media = ap (λ (s : Step). s.media) (sym is);
      target = ap (λ (s : Step). s.target) (sym is);
    }

not-whole : (done : List Piece) (piece : Piece) (code : ℕ) (value : Step) → Refused code ≡ Whole value
    → IsPutTogether done piece value
not-whole done piece code value e = absurd (cc)

not-yet : (done : List Piece) (piece : Piece) (value : Step) → Buffered ≡ Whole value
    → IsPutTogether done piece value
not-yet done piece value e = absurd (cc)

single-does : (done : List Piece) (piece : Piece) (b : Bool) → IsFront done (key_of piece.step) → piece.more ≡ false
    → Does done piece (cond b (came Nothing (Refused 416)) (came Nothing (Whole piece.step)))
single-does done piece true f m = (tt, ends-all piece m Nothing, not-whole done piece 416)
single-does done piece false f m = (tt, ends-all piece m Nothing, alone done piece f m)

-- ---- the first of several

begun-fits : (done : List Piece) (piece : Piece) (size : ℕ) → is_write piece.step.verb ≡ true
    → is_some piece.step.target ≡ true → IsFront done (key_of piece.step) → piece.more ≡ true
    → IsBegun (done ++ piece ∷ []) (begun_object piece size)
begun-fits done piece size w n f m = record {
  old = done;
  first = piece;
  more = [];
  run = refl;
  writes = w;
  named = n;
  parts = ((m, refl), tt);
  begins = f;
  bytes = sym (append-nil piece.step.value);
  format_is = refl;
  media_is = refl;
}

sized-does : (done : List Piece) (piece : Piece) (size : ℕ) (b c : Bool) → is_write piece.step.verb ≡ true
    → is_some piece.step.target ≡ true → IsFront done (key_of piece.step) → piece.more ≡ true
    → Does done piece
    (cond b (skipped piece 416) (cond c (skipped piece 424) (came (Buffering (begun_object piece size)) Buffered)))
sized-does done piece size true c w n f m = (tt, λ x. refl, not-whole done piece 416)
sized-does done piece size false true w n f m = (tt, λ x. refl, not-whole done piece 424)
sized-does done piece size false false w n f m = (begun-fits done piece size w n f m, λ x. refl, not-yet done piece)

first-does : (max : ℕ) (done : List Piece) (piece : Piece) (size : Option ℕ) → is_write piece.step.verb ≡ true
    → is_some piece.step.target ≡ true → IsFront done (key_of piece.step) → piece.more ≡ true
    → Does done piece (first_of_several max piece size)
first-does max done piece None w n f m = (tt, λ x. refl, not-whole done piece 411)
first-does max done piece (Some size) w n f m =
    sized-does done piece size (nat_lt max size) (nat_lt size (length piece.step.value)) w n f m

-- ---- one more

one-more : (P : Piece → Type 0) (ps : List Piece) (p : Piece) → AllByRecursion P ps → P p
    → AllByRecursion P (ps ++ p ∷ [])
one-more P [] p h k = (k, tt)
one-more P (q ∷ qs) p h k = (h.0, one-more P qs p h.1 k)

behind : (done : List Piece) (piece : Piece) (begun : Begun) (h : IsBegun done begun)
    → done ++ piece ∷ [] ≡ h.old ++ h.first ∷ (h.more ++ piece ∷ [])
behind done piece begun h =
    ap (λ (l : List Piece). l ++ piece ∷ []) h.run ∙ append_assoc h.old (h.first ∷ h.more) (piece ∷ [])

bytes-more : (done : List Piece) (piece : Piece) (begun : Begun) (h : IsBegun done begun)
    → begun.value ++ piece.step.value ≡ bytes_of (h.first ∷ (h.more ++ piece ∷ []))
bytes-more done piece begun h =
    ap (λ (l : List ℕ). l ++ piece.step.value) h.bytes
    ∙ flat_map_more (λ (p : Piece). p.step.value) [] (h.first ∷ h.more) piece

grown : (done : List Piece) (piece : Piece) (begun : Begun) → IsBegun done begun
    → is_same_key begun.key (key_of piece.step) ≡ true → piece.more ≡ true
    → IsBegun (done ++ piece ∷ []) (record begun { value = begun.value ++ piece.step.value })
grown done piece begun h s m = record {
  old = h.old;
  first = h.first;
  more = h.more ++ piece ∷ [];
  run = behind done piece begun h;
  writes = h.writes;
  named = h.named;
  parts = one-more (IsPart begun.key) (h.first ∷ h.more) piece h.parts
      (m, sym (same-key begun.key (key_of piece.step) s));
  begins = h.begins;
  bytes = bytes-more done piece begun h;
  format_is = h.format_is;
  media_is = h.media_is;
}

-- the pieces of the object are earlier ones of that which a piece with its key ends
earlier-piece : (last : Piece) (key : Key) (p : Piece) → is_same_key key (key_of last.step) ≡ true
    → is_write key.verb ≡ true → is_some key.target ≡ true → IsPart key p → is_earlier last p ≡ true
earlier-piece last key p s w n h =
    let is = sym h.1 in
    let writes : is_write p.step.verb ≡ true = subst (λ (k : Key). is_write k.verb ≡ true) is w in
    let named : is_some p.step.target ≡ true = subst (λ (k : Key). is_some k.target ≡ true) is n in
    let same : is_same_key (key_of p.step) (key_of last.step) ≡ true =
    subst (λ (k : Key). is_same_key k (key_of last.step) ≡ true) is s in
    and_from (wants_more p) _ (and_from (p.more && is_write p.step.verb) _ (and_from p.more _ h.0 writes) named) same

all-earlier : (last : Piece) (key : Key) (ps : List Piece) → is_same_key key (key_of last.step) ≡ true
    → is_write key.verb ≡ true → is_some key.target ≡ true → AllByRecursion (IsPart key) ps
    → AllByRecursion (λ (p : Piece). is_earlier last p ≡ true) ps
all-earlier last key [] s w n h = tt
all-earlier last key (p ∷ ps) s w n h = (earlier-piece last key p s w n h.0, all-earlier last key ps s w n h.1)

ended : (done : List Piece) (piece : Piece) (begun : Begun) → IsBegun done begun
    → is_same_key begun.key (key_of piece.step) ≡ true → piece.more ≡ false
    → (value : Step) → Whole (whole_step begun piece.step) ≡ Whole value → IsPutTogether done piece value
ended done piece begun h s m value e =
    let is : whole_step begun piece.step ≡ value = ap (value_or piece.step) e in
    record {
      old = h.old;
      earlier = h.first ∷ h.more;
      run = h.run;
      of_one = all-earlier piece begun.key (h.first ∷ h.more) s h.writes h.named h.parts;
      begins = subst (IsFront h.old) (same-key begun.key (key_of piece.step) s) h.begins;
      ends = m;
      bytes = ap (λ (x : Step). x.value) (sym is) ∙ bytes-more done piece begun h;
      format = ap (λ (x : Step). x.format) (sym is) ∙ h.format_is;
      media = ap (λ (x : Step). x.media) (sym is) ∙ h.media_is;
      target = ap (λ (x : Step). x.target) (sym is);
    }

next-by : (done : List Piece) (piece : Piece) (begun : Begun) (over more full : Bool) → piece.more ≡ more
    → IsBegun done begun → is_same_key begun.key (key_of piece.step) ≡ true
    → Does done piece
    (cond over (came (cond more (Skipping begun.key 424) Nothing) (Refused 424))
    (cond more (came (Buffering (record begun { value = begun.value ++ piece.step.value })) Buffered)
    (cond full (came Nothing (Whole (whole_step begun piece.step))) (came Nothing (Refused 424)))))
next-by done piece begun true true full m h s =
    (tt, λ x. same-key begun.key (key_of piece.step) s, not-whole done piece 424)
next-by done piece begun true false full m h s = (tt, ends-all piece m Nothing, not-whole done piece 424)
next-by done piece begun false true full m h s =
    (grown done piece begun h s m, λ x. same-key begun.key (key_of piece.step) s, not-yet done piece)
next-by done piece begun false false true m h s = (tt, ends-all piece m Nothing, ended done piece begun h s m)
next-by done piece begun false false false m h s = (tt, ends-all piece m Nothing, not-whole done piece 424)

next-does : (done : List Piece) (piece : Piece) (begun : Begun) → IsBegun done begun
    → is_same_key begun.key (key_of piece.step) ≡ true → Does done piece (next_piece begun piece)
next-does done piece begun h s =
    let total = length begun.value + length piece.step.value in
    next-by done piece begun (nat_lt begun.size total) piece.more (total == begun.size) refl h s

-- ---- a write

begins-does : (max : ℕ) (done : List Piece) (piece : Piece) (more : Bool) → piece.more ≡ more
    → is_write piece.step.verb ≡ true → (piece.more ≡ true → is_some piece.step.target ≡ true)
    → IsFront done (key_of piece.step)
    → Does done piece (cond more (first_of_several max piece piece.size) (single max piece))
begins-does max done piece true m w n f = first-does max done piece piece.size w (n m) f m
begins-does max done piece false m w n f = single-does done piece (nat_lt max (length piece.step.value)) f m

skips-does : (done : List Piece) (piece : Piece) (key : Key) (code : ℕ) (more : Bool) → piece.more ≡ more
    → is_same_key key (key_of piece.step) ≡ true
    → Does done piece (came (cond more (Skipping key code) Nothing) (Refused code))
skips-does done piece key code true m s = (tt, λ x. same-key key (key_of piece.step) s, not-whole done piece code)
skips-does done piece key code false m s = (tt, ends-all piece m Nothing, not-whole done piece code)

write-does : (max : ℕ) (done : List Piece) (object : Object) (piece : Piece) → Held done object
    → Goes done object piece → is_write piece.step.verb ≡ true
    → (piece.more ≡ true → is_some piece.step.target ≡ true) → Does done piece (write_piece max object piece)
write-does max done Nothing piece h g w n = begins-does max done piece piece.more refl w n g
write-does max done (Buffering begun) piece h g w n = next-does done piece begun h g
write-does max done (Skipping key code) piece h g w n = skips-does done piece key code piece.more refl g

-- ---- other verbs, and a write in pieces without a target, which continue no object

other-verb : (done : List Piece) (object : Object) (piece : Piece) → Held done object → Goes done object piece
    → is_write piece.step.verb ≡ false → Held (done ++ piece ∷ []) object
other-verb done Nothing piece h g w = tt
other-verb done (Buffering begun) piece h g w =
    let is : is_write piece.step.verb ≡ true =
    subst (λ (k : Key). is_write k.verb ≡ true) (same-key begun.key (key_of piece.step) g) h.writes in
    absurd (cc)
other-verb done (Skipping key code) piece h g w = tt

no-target : (done : List Piece) (object : Object) (piece : Piece) → Held done object → Goes done object piece
    → is_some piece.step.target ≡ false → Held (done ++ piece ∷ []) object
no-target done Nothing piece h g n = tt
no-target done (Buffering begun) piece h g n =
    let is : is_some piece.step.target ≡ true =
    subst (λ (k : Key). is_some k.target ≡ true) (same-key begun.key (key_of piece.step) g) h.named in
    absurd (cc)
no-target done (Skipping key code) piece h g n = tt

-- pieces of an object are writes, so none is an earlier one of another verb's
other-apart : (p piece : Piece) → is_write piece.step.verb ≡ false
    → wants_more p && is_same_key (key_of p.step) (key_of piece.step) ≡ true → ⊥
other-apart p piece w e =
    let both = and_parts (wants_more p) (is_same_key (key_of p.step) (key_of piece.step)) e in
    let is : is_write piece.step.verb ≡ true =
    subst (λ (k : Key). is_write k.verb ≡ true) (same-key (key_of p.step) (key_of piece.step) both.1)
    (wants p both.0).1 in
    cc

other-front : (done : List Piece) (piece : Piece) → is_write piece.step.verb ≡ false
    → IsFront done (key_of piece.step)
other-front done piece w = by (last_or None done)
  where
    by : (o : Option Piece)
        → IfSome o (λ p. wants_more p && is_same_key (key_of p.step) (key_of piece.step) ≡ false)
    by None = tt
    by (Some p) = false_from_ne_true _ (other-apart p piece w)

passes-does : (done : List Piece) (object : Object) (piece : Piece) (more : Bool) → piece.more ≡ more
    → is_write piece.step.verb ≡ false → Held (done ++ piece ∷ []) object
    → Does done piece (came object (cond more (Refused 400) (Whole piece.step)))
passes-does done object piece more m w h = (h, waits, wholes more m)
  where
    waits : Waits piece object
    waits x = let is : is_write piece.step.verb ≡ true = (wants piece x).1 in absurd (cc)

    wholes : (b : Bool) → piece.more ≡ b → (value : Step) → cond b (Refused 400) (Whole piece.step) ≡ Whole value
        → IsPutTogether done piece value
    wholes true m = not-whole done piece 400
    wholes false m = alone done piece (other-front done piece w) m

-- ---- by all rules

none-so : (more target : Bool) → more && not target ≡ false → more ≡ true → target ≡ true
none-so more true e m = refl
none-so true false e m = absurd (cc)
none-so false false e m = absurd (cc)

targeted-does : (max : ℕ) (done : List Piece) (object : Object) (piece : Piece) (b : Bool)
    → piece.more && not (is_some piece.step.target) ≡ b → Held done object → Goes done object piece
    → is_write piece.step.verb ≡ true
    → Does done piece (cond b (came object (Refused 400)) (write_piece max object piece))
targeted-does max done object piece true e h g w =
    (no-target done object piece h g untargeted, waits, not-whole done piece 400)
  where
    none : (b : Bool) → not b ≡ true → b ≡ false
    none true e = absurd (cc)
    none false e = refl

    untargeted : is_some piece.step.target ≡ false
    untargeted = none (is_some piece.step.target) (and_parts piece.more (not (is_some piece.step.target)) e).1

    waits : Waits piece object
    waits x =
        let is : is_some piece.step.target ≡ true = (wants piece x).2 in
        let is_not : is_some piece.step.target ≡ false = untargeted in
        absurd (cc)
targeted-does max done object piece false e h g w =
    write-does max done object piece h g w (none-so piece.more (is_some piece.step.target) e)

rules-by : (max : ℕ) (done : List Piece) (object : Object) (piece : Piece) (w : Bool) → is_write piece.step.verb ≡ w
    → Held done object → Goes done object piece
    → Does done piece
    (cond (not w) (came object (cond piece.more (Refused 400) (Whole piece.step)))
    (cond (piece.more && not (is_some piece.step.target)) (came object (Refused 400)) (write_piece max object piece)))
rules-by max done object piece true e h g =
    targeted-does max done object piece (piece.more && not (is_some piece.step.target)) refl h g e
rules-by max done object piece false e h g =
    passes-does done object piece piece.more refl e (other-verb done object piece h g e)

rules-does : (max : ℕ) (done : List Piece) (object : Object) (piece : Piece) → Held done object
    → Goes done object piece → Does done piece (by_rules max object piece)
rules-does max done object piece h g = rules-by max done object piece (is_write piece.step.verb) refl h g

goes-on : (done : List Piece) (object : Object) (piece : Piece) → continues object piece ≡ true
    → Goes done object piece
goes-on done Nothing piece e = absurd (cc)
goes-on done (Buffering begun) piece e = e
goes-on done (Skipping key code) piece e = e

-- a piece with the key of the object continues it
has-more : (object : Object) (key : Key) (piece : Piece) → HasKey object key
    → is_same_key key (key_of piece.step) ≡ true → continues object piece ≡ true
has-more Nothing key piece h s = absurd h
has-more (Buffering begun) key piece h s = ap (λ (k : Key). is_same_key k (key_of piece.step)) h ∙ s
has-more (Skipping of_it code) key piece h s = ap (λ (k : Key). is_same_key k (key_of piece.step)) h ∙ s

-- so one that doesn't continue it begins an object of its own
begins-anew : (done : List Piece) (object : Object) (piece : Piece) → continues object piece ≡ false
    → IfSome (last_or None done) (λ p. Waits p object) → IsFront done (key_of piece.step)
begins-anew done object piece e = by (last_or None done)
  where
    apart : (p : Piece) → Waits p object
        → wants_more p && is_same_key (key_of p.step) (key_of piece.step) ≡ true → ⊥
    apart p h x =
        let both = and_parts (wants_more p) (is_same_key (key_of p.step) (key_of piece.step)) x in
        let goes : continues object piece ≡ true =
        has-more object (key_of p.step) piece (h both.0) both.1 in
        cc

    by : (o : Option Piece) → IfSome o (λ p. Waits p object)
        → IfSome o (λ p. wants_more p && is_same_key (key_of p.step) (key_of piece.step) ≡ false)
    by None h = tt
    by (Some p) h = false_from_ne_true _ (apart p h)

met-does : (max : ℕ) (done : List Piece) (object : Object) (piece : Piece) (b : Bool) → continues object piece ≡ b
    → Fits done object → Does done piece (by_rules max (cond b object Nothing) piece)
met-does max done object piece true e h = rules-does max done object piece h.held (goes-on done object piece e)
met-does max done object piece false e h =
    rules-does max done Nothing piece tt (begins-anew done object piece e h.waits)

gather-does : (max : ℕ) (done : List Piece) (object : Object) (piece : Piece) → Fits done object
    → Held (done ++ piece ∷ []) (gather max object piece).object × Waits piece (gather max object piece).object
    × ((value : Step) → (gather max object piece).what ≡ Whole value → IsPutTogether done piece value)
unfolding gather
gather-does max done object piece h = met-does max done object piece (continues object piece) refl h

-- ---- all that came before

last-is : (o : Option Piece) (ps : List Piece) (p : Piece) → last_or o (ps ++ p ∷ []) ≡ Some p
last-is o [] p = refl
last-is o (q ∷ qs) p = last-is (Some q) qs p

piece-fits : (max : ℕ) (done : List Piece) (object : Object) (p : Piece) → Fits done object
    → Fits (done ++ p ∷ []) (gather max object p).object
piece-fits max done object p h =
    let does = gather-does max done object p h in
    record {
      held = does.0;
      waits = subst (λ (o : Option Piece). IfSome o (λ q. Waits q (gather max object p).object))
          (sym (last-is None done p)) does.1;
    }

pieces-fit : (max : ℕ) (done : List Piece) (object : Object) (ps : List Piece) → Fits done object
    → Fits (done ++ ps) (gather_all max object ps)
pieces-fit max done object [] h = subst (λ (d : List Piece). Fits d object) (sym (append-nil done)) h
pieces-fit max done object (p ∷ ps) h =
    subst (λ (d : List Piece). Fits d (gather_all max (gather max object p).object ps)) (append_assoc done (p ∷ []) ps)
    (pieces-fit max (done ++ p ∷ []) (gather max object p).object ps (piece-fits max done object p h))

pub wholes_are_put_together : WholesArePutTogether
wholes_are_put_together max before last value e =
    (gather-does max before (gather_all max Nothing before) last
    (pieces-fit max [] Nothing before (record { held = tt; waits = tt }))).2 value e
