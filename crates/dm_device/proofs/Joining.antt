-- Parts of a run, one behind the other.
use Rattle.std.proofs.Common.{◌≡◌, ◌+◌, ◌++◌, ℕ, List, [], ◌∷◌, sym, ap, subst, ◌∙◌, arith, length, take, drop}
use Rattle.std.proofs.Common.{append-nil, append_assoc, inl, inr}
use Rattle.std.proofs.lemmas.Bool.{cases_lt}
use Rattle.std.proofs.lemmas.List.{take-append-le, take_all}
use Rattle.std.proofs.Math.Seq.{take-append_seam, take-append-add}
use Rattle.std.proofs.KnownBytes.{Appends-trans}
use Rattle.std.specs.Prelude.{Option}
use Rattle.dm_outside.specs.Calls.{Dial, Calls}
use Rattle.dm_exit.specs.declared.exit.Exit.{Exit}
use Rattle.dm_exit.specs.declared.exit.Exit.TheVariants as exit
use Rattle.dm_exit.proofs.Parts.{prefix_of_front, prefix_behind}
use Rattle.dm_device.specs.declared.exchanging.ReplyHeard.{ReplyHeard}
use Rattle.dm_device.specs.Exchanges.{Matches}
use Rattle.dm_device.specs.Outsides.{Outside, IsPosted, IsPostedInPart}
use Rattle.dm_device.specs.Runs.{Run, both_parts, IsDone, IsCut, EndsPart, EndsInOrder}
use Rattle.dm_device.specs.Ending.{IsCutShort}

-- ---- requests

matches_both : (address : List ℕ) (ds es : List Dial) (hs gs : List ReplyHeard) (rs qs : List (List ℕ))
    → Matches address ds hs rs → Matches address es gs qs → Matches address (ds ++ es) (hs ++ gs) (rs ++ qs)
matches_both address [] es [] gs [] qs m n = n
matches_both address (d ∷ ds) es (h ∷ hs) gs (r ∷ rs) qs m n = (m.0, matches_both address ds es hs gs rs qs m.1 n)
matches_both address [] es [] gs (r ∷ rs) qs m n = absurd m
matches_both address [] es (h ∷ hs) gs rs qs m n = absurd m
matches_both address (d ∷ ds) es [] gs rs qs m n = absurd m
matches_both address (d ∷ ds) es (h ∷ hs) gs [] qs m n = absurd m

posted_both : (address : List ℕ) (rs qs : List (List ℕ)) (hs gs : List ReplyHeard) (s t u : Calls)
    → IsPosted address rs hs s t → IsPosted address qs gs t u → IsPosted address (rs ++ qs) (hs ++ gs) s u
posted_both address rs qs hs gs s t u p q = record {
  dials = p.dials ++ q.dials;
  made = q.made ∙ ap (λ l. l ++ q.dials) p.made ∙ append_assoc s.log p.dials q.dials;
  matched = matches_both address p.dials q.dials hs gs rs qs p.matched q.matched;
}

-- the first of a front are the first of the whole
take_front : {A : Type 0} (n : ℕ) (front rest : List A) → (m : ℕ) × (take n front ≡ take m (front ++ rest))
take_front n front rest =
    elim (cases_lt (length front) n) [
      | inl more ↦ (length front, take_all n front (omega (arith, more)) ∙ sym (take-append_seam front rest))
      | inr less ↦ (n, sym (take-append-le n front rest less))
    ]

part_of_both : (address : List ℕ) (rs qs : List (List ℕ)) (hs : List ReplyHeard) (s t : Calls)
    → IsPostedInPart address rs hs s t → IsPostedInPart address (rs ++ qs) hs s t
part_of_both address rs qs hs s t p =
    let n = take_front p.posted rs qs in record {
      dials = p.dials;
      more = p.more;
      made = p.made;
      path = p.path;
      message = p.message;
      cut = p.cut;
      posted = n.0;
      matched = subst (Matches address p.dials hs) n.1 p.matched;
    }

posted_then_part : (address : List ℕ) (rs qs : List (List ℕ)) (hs gs : List ReplyHeard) (s t u : Calls)
    → IsPosted address rs hs s t → IsPostedInPart address qs gs t u → IsPostedInPart address (rs ++ qs) (hs ++ gs) s u
posted_then_part address rs qs hs gs s t u p q = record {
  dials = p.dials ++ q.dials;
  more = q.more;
  made = q.made ∙ ap (λ l. l ++ (q.dials ++ q.more)) p.made ∙ append_assoc s.log p.dials (q.dials ++ q.more)
      ∙ ap (λ l. s.log ++ l) (sym (append_assoc p.dials q.dials q.more));
  path = q.path;
  message = q.message;
  cut = q.cut;
  posted = length rs + q.posted;
  matched = subst (Matches address (p.dials ++ q.dials) (hs ++ gs)) (sym (take-append-add rs qs q.posted))
      (matches_both address p.dials q.dials hs gs rs (take q.posted qs) p.matched q.matched);
}

-- all of them are a part
pub all_in_part : (address : List ℕ) (rs : List (List ℕ)) (hs : List ReplyHeard) (s t : Calls) → IsPosted address rs hs s t
    → IsPostedInPart address rs hs s t
all_in_part address rs hs s t p = record {
  dials = p.dials;
  more = [];
  made = p.made ∙ ap (λ l. s.log ++ l) (sym (append-nil p.dials));
  path = [];
  message = [];
  cut = tt;
  posted = length rs;
  matched = subst (Matches address p.dials hs) (sym (take_all (length rs) rs (omega arith))) p.matched;
}

-- ---- parts

pub done_both : (address : List ℕ) (a b : Run) (hs gs : List ReplyHeard) (s t u : Outside) (old mid new : Option (List ℕ))
    → IsDone address a hs s t old mid → IsDone address b gs t u mid new
    → IsDone address (both_parts a b) (hs ++ gs) s u old new
done_both address a b hs gs s t u old mid new p q = record {
  posts = posted_both address a.requests b.requests hs gs s.calls t.calls u.calls p.posts q.posts;
  updates = q.updates ∙ ap (λ l. l ++ b.updates) p.updates ∙ append_assoc s.updates a.updates b.updates;
  nonces = q.nonces;
  text = Appends-trans old mid new a.text b.text p.text q.text;
}

-- the first part is cut, and of the second nothing was done
pub cut_first : (address : List ℕ) (a b : Run) (hs : List ReplyHeard) (s t : Outside) (old new : Option (List ℕ))
    → b.nonces ≡ a.nonces → IsCut address a hs s t old new → IsCut address (both_parts a b) hs s t old new
cut_first address a b hs s t old new same p =
    let n = take_front p.given a.updates b.updates in record {
      posts = part_of_both address a.requests b.requests hs s.calls t.calls p.posts;
      given = n.0;
      updates = p.updates ∙ ap (λ l. s.updates ++ l) n.1;
      used = p.used;
      few = p.few;
      nonces = p.nonces ∙ ap (drop p.used) (sym same);
      text = prefix_of_front old new a.text b.text p.text;
    }

pub cut_second : (address : List ℕ) (a b : Run) (hs gs : List ReplyHeard) (s t u : Outside) (old mid new : Option (List ℕ))
    → IsDone address a hs s t old mid → IsCut address b gs t u mid new
    → IsCut address (both_parts a b) (hs ++ gs) s u old new
cut_second address a b hs gs s t u old mid new p q = record {
  posts = posted_then_part address a.requests b.requests hs gs s.calls t.calls u.calls p.posts q.posts;
  given = length a.updates + q.given;
  updates = q.updates ∙ ap (λ l. l ++ take q.given b.updates) p.updates
      ∙ append_assoc s.updates a.updates (take q.given b.updates)
      ∙ ap (λ l. s.updates ++ l) (sym (take-append-add a.updates b.updates q.given));
  used = q.used;
  few = q.few;
  nonces = q.nonces;
  text = prefix_behind old mid new a.text b.text p.text q.text;
}

-- by the answer of the second
pub ends_both : (address : List ℕ) (a b : Run) (hs gs : List ReplyHeard) (e : Exit) (s t u : Outside)
    (old mid new : Option (List ℕ)) → IsDone address a hs s t old mid → EndsPart address b gs e t u mid new
    → EndsPart address (both_parts a b) (hs ++ gs) e s u old new
ends_both address a b hs gs exit.WriteFault s t u old mid new p q = cut_second address a b hs gs s t u old mid new p q
ends_both address a b hs gs exit.NoMemory s t u old mid new p q = cut_second address a b hs gs s t u old mid new p q
ends_both address a b hs gs exit.Done s t u old mid new p q = (done_both address a b hs gs s t u old mid new p q.0, q.1)
ends_both address a b hs gs exit.Usage s t u old mid new p q =
    (done_both address a b hs gs s t u old mid new p q.0, q.1)
ends_both address a b hs gs exit.BadInput s t u old mid new p q =
    (done_both address a b hs gs s t u old mid new p q.0, q.1)
ends_both address a b hs gs exit.ReadFault s t u old mid new p q =
    (done_both address a b hs gs s t u old mid new p q.0, q.1)
ends_both address a b hs gs exit.GaveUp s t u old mid new p q =
    (done_both address a b hs gs s t u old mid new p q.0, q.1)
ends_both address a b hs gs exit.Denied s t u old mid new p q =
    (done_both address a b hs gs s t u old mid new p q.0, q.1)
ends_both address a b hs gs exit.TooLong s t u old mid new p q =
    (done_both address a b hs gs s t u old mid new p q.0, q.1)
ends_both address a b hs gs exit.DoorFault s t u old mid new p q =
    (done_both address a b hs gs s t u old mid new p q.0, q.1)
ends_both address a b hs gs exit.Peer s t u old mid new p q = (done_both address a b hs gs s t u old mid new p q.0, q.1)
ends_both address a b hs gs exit.DiskFault s t u old mid new p q =
    (done_both address a b hs gs s t u old mid new p q.0, q.1)
ends_both address a b hs gs exit.StoreFull s t u old mid new p q =
    (done_both address a b hs gs s t u old mid new p q.0, q.1)
ends_both address a b hs gs exit.BadStore s t u old mid new p q =
    (done_both address a b hs gs s t u old mid new p q.0, q.1)

-- the second is done behind the first
pub in_order : (address : List ℕ) (a b : Run) (hs gs : List ReplyHeard) (e : Exit) (s t u : Outside)
    (old mid new : Option (List ℕ)) → IsDone address a hs s t old mid → EndsPart address b gs e t u mid new
    → EndsInOrder address a b hs gs e s u old new
in_order address a b hs gs exit.WriteFault s t u old mid new p q = inr (t, mid, p, q)
in_order address a b hs gs exit.NoMemory s t u old mid new p q = inr (t, mid, p, q)
in_order address a b hs gs other s t u old mid new p q = tt

-- or nothing of it
pub first_alone : (address : List ℕ) (a b : Run) (hs gs : List ReplyHeard) (e : Exit) (s t : Outside)
    (old new : Option (List ℕ)) → IsCutShort e → IsCut address a hs s t old new
    → EndsInOrder address a b hs gs e s t old new
first_alone address a b hs gs exit.WriteFault s t old new short cut = inl cut
first_alone address a b hs gs exit.NoMemory s t old new short cut = inl cut
first_alone address a b hs gs other s t old new short cut = tt
