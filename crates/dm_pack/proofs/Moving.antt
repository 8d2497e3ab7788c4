-- A message filled out of a queue that gives its entries up.
use Rattle.std.proofs.Common.{◌≡◌, ◌≤◌, ◌<◌, ◌+◌, ℕ, zero, suc, Bool, List, [], ◌∷◌, ◌++◌, length, take, drop, refl}
use Rattle.std.proofs.Common.{sym, ap}
use Rattle.std.proofs.Common.{◌∙◌, subst, arith}
use Rattle.std.proofs.lemmas.List.{drop-drop, length-drop}
use Rattle.syncml_types.specs.declared.values.Header.{Header}
use Rattle.syncml_types.specs.declared.command.Command.{Command}
use Rattle.syncml_parts.specs.Numbering.{with_numbers}
use Rattle.dm_pack.specs.declared.place.Place.{Place}
use Rattle.dm_pack.specs.declared.filled.Tail.{Tail}
use Rattle.dm_pack.specs.Entries.{Entry}
use Rattle.dm_pack.specs.Filling.{Filling, numbered, commands_of, taken, next_part, next_rest, tail_of, tail_commands}
use Rattle.dm_pack.specs.Filling.{fill, left_after, HasMore}
use Rattle.dm_pack.specs.Measures.{behind_all, place_of, cut_at, put_back, entry_left}
use Rattle.dm_pack.proofs.Left.{fill_taken, the_rest_is_left}
use Rattle.dm_pack.proofs.Packed.{Packs}
use Rattle.dm_pack.proofs.Parts.{put_numbered}
use Rattle.dm_pack.proofs.Taking.{HasTaken}

-- so many entries were taken, and those behind them are left
pub record HasMoved (h : Header) (room : ℕ) (es q : List Entry) (at : ℕ) (place : Place) (body : List Command) :
    Type 0 where
  pub taken : HasTaken h room es at place body
  pub queue : q ≡ drop at es

pub none_moved : (es : List Entry) → es ≡ drop 0 es
none_moved [] = refl
none_moved (e ∷ es) = refl

-- the first of those that are left
pub first_left : (es q : List Entry) (at : ℕ) (e : Entry) → q ≡ drop at es → q ≡ e ∷ drop 1 q
    → drop at es ≡ e ∷ drop (at + 1) es
first_left es q at e is first =
    sym is ∙ first ∙ ap (λ l. e ∷ l) (ap (drop 1) is ∙ drop-drop 1 at es)

pub rest_left : (es q : List Entry) (at : ℕ) → q ≡ drop at es → drop 1 q ≡ drop (at + 1) es
rest_left es q at is = ap (drop 1) is ∙ drop-drop 1 at es

pub some_left : (es q : List Entry) (at : ℕ) → q ≡ drop at es → at < length es → 0 < length q
some_left es q at is low =
    let long = ap length is in
    let size = length-drop at es in
    omega (arith, long, size, low)

-- the same, step by step
pub packs_left : (h : Header) (es q : List Entry) (room : ℕ) (heard : Bool) (whole n : ℕ) (place reached : Place)
    (t : Tail) (first more body : List Command)
    → q ≡ drop whole es → whole ≡ taken h room [] es → place ≡ place_of h (commands_of (take whole es))
    → first ≡ numbered 1 (commands_of (take whole es)) → n ≡ cut_at place room q
    → reached ≡ behind_all place (next_part n q)
    → more ≡ first ++ numbered place.next (next_part n q) → t ≡ tail_of q heard
    → body ≡ more ++ numbered reached.next (tail_commands t)
    → Packs h es room heard whole n place reached t first more body
packs_left h es q room heard whole n place reached t first more body is w p f c r m l b = record {
  whole_is = w;
  place_is = p;
  first_is = f;
  cut_there = c ∙ ap (cut_at place room) is;
  reached_is = r ∙ ap (λ l. behind_all place (next_part n l)) is;
  more_is = m ∙ ap (λ l. first ++ numbered place.next (next_part n l)) is;
  tail_there = l ∙ ap (λ l. tail_of l heard) is;
  body_is = b;
}

-- ---- the entries themselves

pub whole_value : (v : List ℕ) (sent : ℕ) → sent ≤ 0 → v ≡ drop sent v
whole_value v sent none = let zero_sent : 0 ≡ sent = omega (arith, none) in whole v ∙ ap (λ n. drop n v) zero_sent
  where
    whole : (l : List ℕ) → l ≡ drop 0 l
    whole [] = refl
    whole (x ∷ l) = refl

-- the command that waits, with its Data
pub out_of : (first : ℕ) (c : Command) (value rest : List ℕ) (sent : ℕ) (e : Entry) → entry_left c value sent ≡ e
    → rest ≡ drop sent value → put_back rest (with_numbers first c) ≡ with_numbers first e.command
out_of first c value rest sent e is left =
    put_numbered first rest c ∙ ap (λ w. with_numbers first (put_back w c)) left
    ∙ ap (λ (x : Entry). with_numbers first x.command) is

-- ---- the part that went out

pub can_go_on : (es q : List Entry) (h : Header) (room : ℕ) (heard : Bool) (whole n : ℕ) → q ≡ drop whole es
    → whole ≡ (fill es h room heard).whole → n ≡ (fill es h room heard).cut → HasMore n q
can_go_on es q h room heard whole n is w c =
    let part = (fill_taken es h room heard).part_there in
    subst (HasMore n) (sym (is ∙ ap (λ k. drop k es) w))
    (subst (λ k. HasMore k (drop (fill es h room heard).whole es)) (sym c) part)

pub left_behind : (es q : List Entry) (h : Header) (room : ℕ) (heard : Bool) (whole n : ℕ) → q ≡ drop whole es
    → whole ≡ (fill es h room heard).whole → n ≡ (fill es h room heard).cut
    → next_rest n q ≡ (fill es h room heard).left
unfolding left_after
left_behind es q h room heard whole n is w c =
    ap (λ l. next_rest n l) is ∙ ap (λ k. next_rest n (drop k es)) w
    ∙ ap (λ k. next_rest k (drop (fill es h room heard).whole es)) c
    ∙ the_rest_is_left es h room heard
