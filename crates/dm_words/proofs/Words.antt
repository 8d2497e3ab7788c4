-- What clap answers to at most one plain word.
use Rattle.std.proofs.Common.{◌≡◌, ◌<◌, ◌≤◌, ◌==◌, ◌&&◌, ℕ, List, [], ◌∷◌, Bool, true, false, not, refl, Option, Some}
use Rattle.std.proofs.Common.{None, option_and_then, inl, inr, ap, ◌∙◌, sym, subst, length, arith}
use Rattle.std.specs.Prelude.{codes, bytes_eq, option_map, map, take, drop, Box}
use Rattle.std.specs.Box.{box_value}
use Rattle.std.specs.List.{list_all}
use Rattle.std.proofs.lemmas.Slice.Eq.{bytes_eq-Decides}
use Rattle.clap.specs.Words.{App, Row, Text, subcommand_of, subcommand_name_of, subcommand_rows, subcommand_rows_of}
use Rattle.clap.specs.Words.{HasMatchesOf, is_simple}
use Rattle.clap.specs.Values.{kind_of}
use Rattle.clap.specs.declared.error.Error.{Error}
use Rattle.clap.specs.declared.parser.matches.ArgMatches.{ArgMatches}
use Rattle.clap.specs.declared.parser.matches.ArgMatches.TheViews.{out-ArgMatches, out-SubCommand}
use Rattle.clap.specs.declared.parser.matches.SubCommand.{SubCommand}
use Rattle.clap.specs.Faults.{fault_of, is_simple_and_free}
use Rattle.clap.specs.Kinds.{Kinds, IsAmong, HasKind}
use Rattle.clap.specs.declared.error.kind.ErrorKind.{ErrorKind}
use Rattle.clap.specs.declared.error.kind.ErrorKind.TheVariants as kind
use Rattle.clap.proofs.OnLiterals.{clap_on_literals}
use Rattle.dm_words.specs.Forms.{subcommand_in, subcommand_of as subcommand_named, is_plain, form_with, form_of}
use Rattle.dm_words.specs.Forms.{three, five}
use Rattle.dm_words.specs.Commands.{tool}
use Rattle.dm_words.specs.declared.subcommands.Subcommand.{Subcommand}
use Rattle.dm_words.specs.declared.subcommands.Subcommand.TheVariants as named_by

pub simple : is_simple_and_free tool ≡ true
unfolding clap_on_literals
simple = refl

no_words : fault_of tool [] ≡ kind.MissingSubcommand ∷ []
unfolding clap_on_literals
no_words = refl

one_replay : fault_of tool (codes "replay" ∷ []) ≡ []
unfolding clap_on_literals
one_replay = refl

one_device : fault_of tool (codes "device" ∷ []) ≡ []
unfolding clap_on_literals
one_device = refl

one_serve : fault_of tool (codes "serve" ∷ []) ≡ []
unfolding clap_on_literals
one_serve = refl

one_pair : fault_of tool (codes "pair" ∷ []) ≡ []
unfolding clap_on_literals
one_pair = refl

one_show : fault_of tool (codes "show" ∷ []) ≡ []
unfolding clap_on_literals
one_show = refl

one_check : fault_of tool (codes "check" ∷ []) ≡ []
unfolding clap_on_literals
one_check = refl

one_bench : fault_of tool (codes "bench" ∷ []) ≡ []
unfolding clap_on_literals
one_bench = refl

one_conform : fault_of tool (codes "conform" ∷ []) ≡ []
unfolding clap_on_literals
one_conform = refl

one_make : fault_of tool (codes "make" ∷ []) ≡ []
unfolding clap_on_literals
one_make = refl

one_other : (b : ℕ) (bs : List ℕ) → (b == 45) ≡ false
    → bytes_eq (codes "replay") (b ∷ bs) ≡ false
    → bytes_eq (codes "device") (b ∷ bs) ≡ false
    → bytes_eq (codes "serve") (b ∷ bs) ≡ false
    → bytes_eq (codes "pair") (b ∷ bs) ≡ false
    → bytes_eq (codes "show") (b ∷ bs) ≡ false
    → bytes_eq (codes "check") (b ∷ bs) ≡ false
    → bytes_eq (codes "bench") (b ∷ bs) ≡ false
    → bytes_eq (codes "conform") (b ∷ bs) ≡ false
    → bytes_eq (codes "make") (b ∷ bs) ≡ false
    → fault_of tool ((b ∷ bs) ∷ []) ≡ kind.UnknownArgument ∷ kind.InvalidSubcommand ∷ []
unfolding clap_on_literals
one_other b bs low h0 h1 h2 h3 h4 h5 h6 h7 h8 = simp (low, h0, h1, h2, h3, h4, h5, h6, h7, h8) refl

-- ---- one word

not_empty : (k : ErrorKind) (ks : Kinds) → k ∷ ks ≡ [] → ⊥
not_empty k ks e = cc

abbrev pub told : Option (Text × List Row) → Option Subcommand
told found = option_and_then (λ p. subcommand_named p.0) found

-- what clap answers to words is their form
abbrev pub IsAnswered : List (List ℕ) → Type 0
IsAnswered words = (fault_of tool words ≡ [] → told (subcommand_of tool words) ≡ subcommand_in words)
    × ((k : ErrorKind) → IsAmong k (fault_of tool words) → subcommand_in words ≡ None)

named_replay : told (subcommand_of tool (codes "replay" ∷ [])) ≡ Some named_by.Replay
unfolding clap_on_literals
named_replay = refl

named_device : told (subcommand_of tool (codes "device" ∷ [])) ≡ Some named_by.Device
unfolding clap_on_literals
named_device = refl

named_serve : told (subcommand_of tool (codes "serve" ∷ [])) ≡ Some named_by.Serve
unfolding clap_on_literals
named_serve = refl

named_pair : told (subcommand_of tool (codes "pair" ∷ [])) ≡ Some named_by.Pair
unfolding clap_on_literals
named_pair = refl

named_show : told (subcommand_of tool (codes "show" ∷ [])) ≡ Some named_by.Show
unfolding clap_on_literals
named_show = refl

named_check : told (subcommand_of tool (codes "check" ∷ [])) ≡ Some named_by.Check
unfolding clap_on_literals
named_check = refl

named_bench : told (subcommand_of tool (codes "bench" ∷ [])) ≡ Some named_by.Bench
unfolding clap_on_literals
named_bench = refl

named_conform : told (subcommand_of tool (codes "conform" ∷ [])) ≡ Some named_by.Conform
unfolding clap_on_literals
named_conform = refl

named_make : told (subcommand_of tool (codes "make" ∷ [])) ≡ Some named_by.Make
unfolding clap_on_literals
named_make = refl

none_among : (k : ErrorKind) (ks : Kinds) → ks ≡ [] → IsAmong k ks → ⊥
none_among k [] is h = h
none_among k (x ∷ xs) is h = absurd (not_empty x xs is)

-- a word that is a subcommand
subcommand : (word : List ℕ) (f : Subcommand) → fault_of tool (word ∷ []) ≡ []
    → told (subcommand_of tool (word ∷ [])) ≡ Some f → subcommand_named word ≡ Some f → IsAnswered (word ∷ [])
subcommand word f sound found is =
    (λ _. found ∙ sym is, λ k h. absurd (none_among k (fault_of tool (word ∷ [])) sound h))

-- words that clap refuses
refused : (words : List (List ℕ)) (k : ErrorKind) (ks : Kinds) → fault_of tool words ≡ k ∷ ks
    → subcommand_in words ≡ None → IsAnswered words
refused words k ks is none = (λ sound. absurd (not_empty k ks (sym is ∙ sound)), λ _ _. none)

turned : (a b : List ℕ) → bytes_eq a b ≡ false → bytes_eq b a ≡ false
turned a b h = turned_by (bytes_eq b a) refl
  where
    never : true ≡ false → ⊥
    never e = cc

    turned_by : (t : Bool) → bytes_eq b a ≡ t → t ≡ false
    turned_by false is = refl
    turned_by true is = absurd (never (sym ((bytes_eq-Decides a b).1 (sym ((bytes_eq-Decides b a).0 is))) ∙ h))

other_word : (b : ℕ) (bs : List ℕ) (t0 t1 t2 t3 t4 t5 t6 t7 t8 : Bool) → (b == 45) ≡ false
    → bytes_eq (b ∷ bs) (codes "replay") ≡ t0
    → bytes_eq (b ∷ bs) (codes "device") ≡ t1
    → bytes_eq (b ∷ bs) (codes "serve") ≡ t2
    → bytes_eq (b ∷ bs) (codes "pair") ≡ t3
    → bytes_eq (b ∷ bs) (codes "show") ≡ t4
    → bytes_eq (b ∷ bs) (codes "check") ≡ t5
    → bytes_eq (b ∷ bs) (codes "bench") ≡ t6
    → bytes_eq (b ∷ bs) (codes "conform") ≡ t7
    → bytes_eq (b ∷ bs) (codes "make") ≡ t8
    → IsAnswered ((b ∷ bs) ∷ [])
other_word b bs true t1 t2 t3 t4 t5 t6 t7 t8 low is0 is1 is2 is3 is4 is5 is6 is7 is8 =
    subst (λ word. IsAnswered (word ∷ [])) (sym ((bytes_eq-Decides (b ∷ bs) (codes "replay")).0 is0))
    (subcommand (codes "replay") named_by.Replay one_replay named_replay refl)
other_word b bs false true t2 t3 t4 t5 t6 t7 t8 low is0 is1 is2 is3 is4 is5 is6 is7 is8 =
    subst (λ word. IsAnswered (word ∷ [])) (sym ((bytes_eq-Decides (b ∷ bs) (codes "device")).0 is1))
    (subcommand (codes "device") named_by.Device one_device named_device refl)
other_word b bs false false true t3 t4 t5 t6 t7 t8 low is0 is1 is2 is3 is4 is5 is6 is7 is8 =
    subst (λ word. IsAnswered (word ∷ [])) (sym ((bytes_eq-Decides (b ∷ bs) (codes "serve")).0 is2))
    (subcommand (codes "serve") named_by.Serve one_serve named_serve refl)
other_word b bs false false false true t4 t5 t6 t7 t8 low is0 is1 is2 is3 is4 is5 is6 is7 is8 =
    subst (λ word. IsAnswered (word ∷ [])) (sym ((bytes_eq-Decides (b ∷ bs) (codes "pair")).0 is3))
    (subcommand (codes "pair") named_by.Pair one_pair named_pair refl)
other_word b bs false false false false true t5 t6 t7 t8 low is0 is1 is2 is3 is4 is5 is6 is7 is8 =
    subst (λ word. IsAnswered (word ∷ [])) (sym ((bytes_eq-Decides (b ∷ bs) (codes "show")).0 is4))
    (subcommand (codes "show") named_by.Show one_show named_show refl)
other_word b bs false false false false false true t6 t7 t8 low is0 is1 is2 is3 is4 is5 is6 is7 is8 =
    subst (λ word. IsAnswered (word ∷ [])) (sym ((bytes_eq-Decides (b ∷ bs) (codes "check")).0 is5))
    (subcommand (codes "check") named_by.Check one_check named_check refl)
other_word b bs false false false false false false true t7 t8 low is0 is1 is2 is3 is4 is5 is6 is7 is8 =
    subst (λ word. IsAnswered (word ∷ [])) (sym ((bytes_eq-Decides (b ∷ bs) (codes "bench")).0 is6))
    (subcommand (codes "bench") named_by.Bench one_bench named_bench refl)
other_word b bs false false false false false false false true t8 low is0 is1 is2 is3 is4 is5 is6 is7 is8 =
    subst (λ word. IsAnswered (word ∷ [])) (sym ((bytes_eq-Decides (b ∷ bs) (codes "conform")).0 is7))
    (subcommand (codes "conform") named_by.Conform one_conform named_conform refl)
other_word b bs false false false false false false false false true low is0 is1 is2 is3 is4 is5 is6 is7 is8 =
    subst (λ word. IsAnswered (word ∷ [])) (sym ((bytes_eq-Decides (b ∷ bs) (codes "make")).0 is8))
    (subcommand (codes "make") named_by.Make one_make named_make refl)
other_word b bs false false false false false false false false false low is0 is1 is2 is3 is4 is5 is6 is7 is8 =
    refused ((b ∷ bs) ∷ []) kind.UnknownArgument (kind.InvalidSubcommand ∷ [])
    (one_other b bs low
    (turned (b ∷ bs) (codes "replay") is0)
    (turned (b ∷ bs) (codes "device") is1)
    (turned (b ∷ bs) (codes "serve") is2)
    (turned (b ∷ bs) (codes "pair") is3)
    (turned (b ∷ bs) (codes "show") is4)
    (turned (b ∷ bs) (codes "check") is5)
    (turned (b ∷ bs) (codes "bench") is6)
    (turned (b ∷ bs) (codes "conform") is7)
    (turned (b ∷ bs) (codes "make") is8))
    (no_subcommand (b ∷ bs) is0 is1 is2 is3 is4 is5 is6 is7 is8)
  where
    no_subcommand : (word : List ℕ)
        → bytes_eq word (codes "replay") ≡ false
        → bytes_eq word (codes "device") ≡ false
        → bytes_eq word (codes "serve") ≡ false
        → bytes_eq word (codes "pair") ≡ false
        → bytes_eq word (codes "show") ≡ false
        → bytes_eq word (codes "check") ≡ false
        → bytes_eq word (codes "bench") ≡ false
        → bytes_eq word (codes "conform") ≡ false
        → bytes_eq word (codes "make") ≡ false
        → subcommand_named word ≡ None
    no_subcommand word h0 h1 h2 h3 h4 h5 h6 h7 h8 = simp (h0, h1, h2, h3, h4, h5, h6, h7, h8) refl

no_hyphen : (b : ℕ) (t : Bool) → (b == 45) ≡ t → (not t && true) ≡ true → t ≡ false
no_hyphen b false is h = refl
no_hyphen b true is h = cc

pub answered : (words : List (List ℕ)) → length words ≤ 1 → list_all is_plain words ≡ true → IsAnswered words
answered [] few plain = refused [] kind.MissingSubcommand [] no_words refl
answered ([] ∷ words) few plain = cc
answered ((b ∷ bs) ∷ []) few plain =
    other_word b bs
    (bytes_eq (b ∷ bs) (codes "replay"))
    (bytes_eq (b ∷ bs) (codes "device"))
    (bytes_eq (b ∷ bs) (codes "serve"))
    (bytes_eq (b ∷ bs) (codes "pair"))
    (bytes_eq (b ∷ bs) (codes "show"))
    (bytes_eq (b ∷ bs) (codes "check"))
    (bytes_eq (b ∷ bs) (codes "bench"))
    (bytes_eq (b ∷ bs) (codes "conform"))
    (bytes_eq (b ∷ bs) (codes "make"))
    (no_hyphen b (b == 45) refl plain) refl refl refl refl refl refl refl refl refl
answered ((b ∷ bs) ∷ word ∷ words) few plain = absurd (omega (arith, few))

-- ---- the answers of clap

rows_named : (m : ArgMatches) → option_map (λ p. p.0) (subcommand_rows_of m) ≡ subcommand_name_of m
rows_named m = by_box (out-ArgMatches m).subcommand
  where
    by_box : {Z : Type 0} (b : Option (Box SubCommand Z))
        → option_map (λ p. p.0) (subcommand_rows b) ≡ option_map (λ b. (out-SubCommand (box_value b)).name.now) b
    by_box None = refl
    by_box (Some b) = refl

told_name : (found : Option (Text × List Row)) (name : List ℕ) → option_map (λ p. p.0) found ≡ Some name
    → told found ≡ subcommand_named name
told_name (Some p) name h = ap subcommand_named (same h)
  where
    same : Some p.0 ≡ Some name → p.0 ≡ name
    same e = cc
told_name None name h = cc

is_simple_too : is_simple tool ≡ true
unfolding clap_on_literals
is_simple_too = refl

-- clap took the words, and this is the name of the subcommand
pub named : (a : App) (words : List (List ℕ)) (m : ArgMatches) (name : List ℕ) → a ≡ tool → length words ≤ 1
    → list_all is_plain words ≡ true
    → (is_simple_and_free a ≡ true → fault_of a words ≡ []) → HasMatchesOf a words m → subcommand_name_of m ≡ Some name
    → subcommand_named name ≡ subcommand_in words
named a words m name is few plain sound found by_name =
    let rows : subcommand_rows_of m ≡ subcommand_of tool words =
    (found (ap is_simple is ∙ is_simple_too)).1 ∙ ap (λ x. subcommand_of x words) is in
    let none : fault_of tool words ≡ [] =
    ap (λ x. fault_of x words) (sym is) ∙ sound (ap is_simple_and_free is ∙ simple) in
    sym (told_name (subcommand_of tool words) name (ap (option_map (λ p. p.0)) (sym rows) ∙ rows_named m ∙ by_name))
    ∙ (answered words few plain).0 none

-- clap refused them
pub unnamed : (a : App) (words : List (List ℕ)) (e : Error) → a ≡ tool → length words ≤ 1
    → list_all is_plain words ≡ true
    → (is_simple_and_free a ≡ true → HasKind (fault_of a words) e) → (kind_of e ≡ kind.OutOfMemory → ⊥)
    → None ≡ subcommand_in words
unnamed a words e is few plain why other =
    elim (why (ap is_simple_and_free is ∙ simple)) [
      | inl memory ↦ absurd (other memory)
      | inr among ↦ sym ((answered words few plain).1 (kind_of e)
          (subst (λ x. IsAmong (kind_of e) (fault_of x words)) is among))
    ]

pub as_few : {S : Type 0} (bytes : S → List ℕ) (words : List S) → length (map bytes words) ≡ length words
as_few bytes [] = refl
as_few bytes (w ∷ words) = let h = as_few bytes words in omega (arith, h)

pub all_plain : {S : Type 0} (bytes : S → List ℕ) (words : List S)
    → list_all is_plain (map bytes words) ≡ list_all (λ word. is_plain (bytes word)) words
all_plain bytes [] = refl
all_plain bytes (w ∷ words) = ap (λ t. is_plain (bytes w) && t) (all_plain bytes words)

-- ---- words that clap isn't asked of

word_unplain : (word : List ℕ) (t : Bool) → is_plain word ≡ t → t ≡ false → None ≡ subcommand_named word
word_unplain [] t is h = refl
word_unplain (b ∷ bs) true is h = cc
word_unplain (b ∷ bs) false is h = subst (λ x. None ≡ subcommand_named (x ∷ bs)) (sym hyphen) refl
  where
    hyphen : b ≡ 45
    hyphen = grind (arith, is)

unplain_by : (word : List ℕ) (t : Bool) → is_plain word ≡ t → (t && true) ≡ false → None ≡ subcommand_named word
unplain_by word true is h = cc
unplain_by word false is h = word_unplain word false is refl

unplain : (words : List (List ℕ)) → list_all is_plain words ≡ false → None ≡ subcommand_in words
unplain [] h = cc
unplain (word ∷ []) h = unplain_by word (is_plain word) refl h
unplain (word ∷ other ∷ words) h = refl

pub texts_unplain : {S : Type 0} (bytes : S → List ℕ) (words : List S)
    → list_all (λ word. is_plain (bytes word)) words ≡ false → None ≡ subcommand_in (map bytes words)
texts_unplain bytes words h = unplain (map bytes words) (all_plain bytes words ∙ h)

-- ---- all words

pub some_form : {S : Type 0} (bytes : S → List ℕ) (words first behind : List S) (s : Subcommand) → 1 ≤ length words
    → first ≡ take 1 words → behind ≡ drop 1 words → Some s ≡ subcommand_in (map bytes first)
    → form_with s (map bytes behind) ≡ form_of (map bytes words)
some_form bytes [] first behind s some front back is = absurd (omega (arith, some))
some_form bytes (w ∷ words) first behind s some front back is =
    ap (λ ws. form_with s (map bytes ws)) back
    ∙ ap (option_and_then (λ x. form_with x (map bytes words))) (is ∙ ap (λ ws. subcommand_in (map bytes ws)) front)

pub no_form : {S : Type 0} (bytes : S → List ℕ) (words first : List S) → 1 ≤ length words → first ≡ take 1 words
    → None ≡ subcommand_in (map bytes first) → None ≡ form_of (map bytes words)
no_form bytes [] first some front is = absurd (omega (arith, some))
no_form bytes (w ∷ words) first some front is =
    ap (option_and_then (λ x. form_with x (map bytes words))) (is ∙ ap (λ ws. subcommand_in (map bytes ws)) front)

pub too_few : {S : Type 0} (bytes : S → List ℕ) (words : List S) → length words < 1 → None ≡ form_of (map bytes words)
too_few bytes [] few = refl
too_few bytes (w ∷ words) few = absurd (omega (arith, few))

-- ---- more words, or fewer, than a form has

pub fewer_than_three : {S : Type 0} (bytes : S → List ℕ) (words : List S) → length words < 3
    → None ≡ three (map bytes words)
fewer_than_three bytes [] few = refl
fewer_than_three bytes (a ∷ []) few = refl
fewer_than_three bytes (a ∷ b ∷ []) few = refl
fewer_than_three bytes (a ∷ b ∷ c ∷ words) few = absurd (omega (arith, few))

pub more_than_three : {S : Type 0} (bytes : S → List ℕ) (words : List S) → 4 ≤ length words
    → None ≡ three (map bytes words)
more_than_three bytes [] many = refl
more_than_three bytes (a ∷ []) many = refl
more_than_three bytes (a ∷ b ∷ []) many = refl
more_than_three bytes (a ∷ b ∷ c ∷ []) many = absurd (omega (arith, many))
more_than_three bytes (a ∷ b ∷ c ∷ d ∷ words) many = refl

pub fewer_than_five : {S : Type 0} (bytes : S → List ℕ) (words : List S) → length words < 5
    → None ≡ five (map bytes words)
fewer_than_five bytes [] few = refl
fewer_than_five bytes (a ∷ []) few = refl
fewer_than_five bytes (a ∷ b ∷ []) few = refl
fewer_than_five bytes (a ∷ b ∷ c ∷ []) few = refl
fewer_than_five bytes (a ∷ b ∷ c ∷ d ∷ []) few = refl
fewer_than_five bytes (a ∷ b ∷ c ∷ d ∷ e ∷ words) few = absurd (omega (arith, few))

pub more_than_five : {S : Type 0} (bytes : S → List ℕ) (words : List S) → 6 ≤ length words
    → None ≡ five (map bytes words)
more_than_five bytes [] many = refl
more_than_five bytes (a ∷ []) many = refl
more_than_five bytes (a ∷ b ∷ []) many = refl
more_than_five bytes (a ∷ b ∷ c ∷ []) many = refl
more_than_five bytes (a ∷ b ∷ c ∷ d ∷ []) many = refl
more_than_five bytes (a ∷ b ∷ c ∷ d ∷ e ∷ []) many = absurd (omega (arith, many))
more_than_five bytes (a ∷ b ∷ c ∷ d ∷ e ∷ f ∷ words) many = refl
