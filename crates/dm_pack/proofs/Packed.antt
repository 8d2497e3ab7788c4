-- What is packed step by step is the message of the definition.
use Rattle.std.proofs.Common.{◌≡◌, ℕ, Bool, List, [], ◌∷◌, ◌++◌, take, drop, refl, sym, ap, ◌∙◌, append_assoc, Result}
use Rattle.std.proofs.Common.{Ok, Err, IfOk}
use Rattle.std.proofs.lemmas.List.{append-nil}
use Rattle.syncml_types.specs.declared.values.Header.{Header}
use Rattle.syncml_types.specs.declared.command.Command.{Command}
use Rattle.syncml_types.specs.Message.{Parts}
use Rattle.syncml_types.specs.Fitness.{IsFit}
use Rattle.std.specs.List.{AllByRecursion}
use Rattle.dm_pack.specs.declared.place.Place.{Place}
use Rattle.dm_pack.specs.declared.filled.Tail.{Tail}
use Rattle.dm_pack.specs.Entries.{Entry, IsReady}
use Rattle.dm_pack.specs.Filling.{Filling, numbered, commands_of, taken, cut, next_part, next_rest, tail_of}
use Rattle.dm_pack.specs.Filling.{tail_commands, is_final, fill}
use Rattle.dm_pack.specs.Measures.{behind_all, place_of, cut_at}
use Rattle.dm_pack.proofs.Greatest.{cut_is, tail_is, whole_body}
use Rattle.dm_pack.proofs.Measuring.{behind_is}
use Rattle.dm_pack.proofs.Taking.{message_fit}

pub if_ok : {A E : Type 0} (r : Result A E) (P Q : A → Type 0) → ((a : A) → P a → Q a) → IfOk r P → IfOk r Q
if_ok (Ok a) P Q f h = f a h
if_ok (Err e) P Q f h = tt

pub record Packs (h : Header) (es : List Entry) (room : ℕ) (heard : Bool) (whole n : ℕ) (place reached : Place)
    (t : Tail) (first more body : List Command) : Type 0 where
  pub whole_is : whole ≡ taken h room [] es
  pub place_is : place ≡ place_of h (commands_of (take whole es))
  pub first_is : first ≡ numbered 1 (commands_of (take whole es))
  pub cut_there : n ≡ cut_at place room (drop whole es)
  pub reached_is : reached ≡ behind_all place (next_part n (drop whole es))
  pub more_is : more ≡ first ++ numbered place.next (next_part n (drop whole es))
  pub tail_there : t ≡ tail_of (drop whole es) heard
  pub body_is : body ≡ more ++ numbered reached.next (tail_commands t)

abbrev pub at_once : Header → List Entry → ℕ → ℕ → Tail → Filling
at_once h es whole n t = record {
  message = record {
    header = h;
    body = numbered 1 (commands_of (take whole es) ++ next_part n (drop whole es) ++ tail_commands t);
    last = is_final t;
  };
  left = next_rest n (drop whole es);
  whole = whole;
  cut = n;
  tail = t;
}

same_filling : (h : Header) (es : List Entry) (w v n m : ℕ) (t u : Tail) → w ≡ v → n ≡ m → t ≡ u
    → at_once h es w n t ≡ at_once h es v m u
same_filling h es w v n m t u x y z = rw (x, y, z) refl

filled_at : (h : Header) (es : List Entry) (room : ℕ) (heard : Bool) (whole n : ℕ) (t : Tail)
    → whole ≡ taken h room [] es
    → n ≡ cut h room (commands_of (take whole es)) (drop whole es) → t ≡ tail_of (next_rest n (drop whole es)) heard
    → at_once h es whole n t ≡ fill es h room heard
unfolding fill
filled_at h es room heard whole n t hw hn ht =
    let all = taken h room [] es in
    let cuts = hn ∙ ap (λ w. cut h room (commands_of (take w es)) (drop w es)) hw in
    same_filling h es whole all n (cut h room (commands_of (take all es)) (drop all es)) t _ hw cuts
    (ht ∙ ap (λ w. tail_of (next_rest n (drop w es)) heard) hw
    ∙ ap (λ k. tail_of (next_rest k (drop all es)) heard) cuts)

pub packed : (h : Header) (es : List Entry) (room : ℕ) (heard : Bool) (whole n : ℕ) (place reached : Place) (t : Tail)
    (first more body : List Command)
    → Packs h es room heard whole n place reached t first more body → at_once h es whole n t ≡ fill es h room heard
packed h es room heard whole n place reached t first more body p =
    filled_at h es room heard whole n t p.whole_is
    (p.cut_there ∙ ap (λ q. cut_at q room (drop whole es)) p.place_is
    ∙ sym (cut_is h room (commands_of (take whole es)) (drop whole es)))
    (tail_is n (drop whole es) heard t p.tail_there)

all_behind : (h : Header) (before cs : List Command) → behind_all (place_of h before) cs ≡ place_of h (before ++ cs)
all_behind h before [] = ap (place_of h) (sym (append-nil before))
all_behind h before (c ∷ cs) =
    ap (λ p. behind_all p cs) (behind_is h before c)
    ∙ all_behind h (before ++ c ∷ []) cs
    ∙ ap (place_of h) (append_assoc before (c ∷ []) cs)

pub packed_place : (h : Header) (es : List Entry) (room : ℕ) (heard : Bool) (whole n : ℕ) (place reached : Place)
    (t : Tail) (first more body : List Command)
    → Packs h es room heard whole n place reached t first more body
    → reached ≡ place_of h (commands_of (take whole es) ++ next_part n (drop whole es))
packed_place h es room heard whole n place reached t first more body p =
    p.reached_is ∙ ap (λ q. behind_all q (next_part n (drop whole es))) p.place_is
    ∙ all_behind h (commands_of (take whole es)) (next_part n (drop whole es))

pub packed_body : (h : Header) (es : List Entry) (room : ℕ) (heard : Bool) (whole n : ℕ) (place reached : Place)
    (t : Tail) (first more body : List Command)
    → Packs h es room heard whole n place reached t first more body
    → body ≡ numbered 1 (commands_of (take whole es) ++ next_part n (drop whole es) ++ tail_commands t)
packed_body h es room heard whole n place reached t first more body p =
    p.body_is
    ∙ ap (λ l. l ++ numbered reached.next (tail_commands t))
    (p.more_is ∙ ap (λ l. l ++ numbered place.next (next_part n (drop whole es))) p.first_is)
    ∙ whole_body (commands_of (take whole es)) (next_part n (drop whole es)) (tail_commands t) place.next reached.next
    (ap (λ (q : Place). q.next) p.place_is)
    (ap (λ (q : Place). q.next) (packed_place h es room heard whole n place reached t first more body p))

abbrev pub parts_of : Header → List Command → Bool → Parts
parts_of h body last = record { header = h; body = body; last = last }

same_parts : (h g : Header) (a b : List Command) (x y : Bool) → h ≡ g → a ≡ b → x ≡ y → parts_of h a x ≡ parts_of g b y
same_parts h g a b x y p q r = rw (p, q, r) refl

pub packed_message : (h g : Header) (es : List Entry) (room : ℕ) (heard last : Bool) (whole n : ℕ)
    (place reached : Place) (t : Tail) (first more body : List Command)
    → Packs h es room heard whole n place reached t first more body → g ≡ h → last ≡ is_final t
    → parts_of g body last ≡ (fill es h room heard).message
packed_message h g es room heard last whole n place reached t first more body p same final =
    same_parts g h body _ last (is_final t) same (packed_body h es room heard whole n place reached t first more body p)
    final
    ∙ ap (λ (f : Filling). f.message) (packed h es room heard whole n place reached t first more body p)

pub packed_fit : (h g : Header) (es : List Entry) (room : ℕ) (heard : Bool) (whole n : ℕ) (place reached : Place)
    (t : Tail) (first more body : List Command)
    → Packs h es room heard whole n place reached t first more body → g ≡ h → IsFit h [] → AllByRecursion IsReady es
    → IsFit g body
packed_fit h g es room heard whole n place reached t first more body p same fit all =
    rw (same, packed_body h es room heard whole n place reached t first more body p)
    (message_fit h es whole n t fit all)
