-- What several puts and takes in a row do to known bytes.
use Rattle.std.proofs.Common.{◌≡◌, ◌<◌, ◌≤◌, ◌+◌, ◌-◌, ℕ, List, [], ◌++◌, sym, ap, subst, ◌∙◌, take, drop, length, min}
use Rattle.std.proofs.Common.{arith, length-drop, take-append-drop}
use Rattle.std.proofs.lemmas.List.{drop-drop, take_rest, drop_all}
use Rattle.std.proofs.Math.Seq.{take-add}
use Rattle.std.proofs.KnownBytes.{Appends-trans, Consumes-trans}
use Rattle.std.specs.declared.option.Option.{Option}
use Rattle.std.specs.Io.KnownBytes.{Appends, Consumes}

-- the front was put, and then the front of the rest
pub puts_more : (a b c : Option (List ℕ)) (bytes : List ℕ) (at n : ℕ)
    → Appends a b (take at bytes) → Appends b c (take n (drop at bytes)) → Appends a c (take (at + n) bytes)
puts_more a b c bytes at n p q = subst (Appends a c) (sym (take-add at n bytes)) (Appends-trans a b c _ _ p q)

-- more was taken
abbrev pub takes_more : (a b c : Option (List ℕ)) (bs cs : List ℕ) → Consumes a b bs → Consumes b c cs
    → Consumes a c (bs ++ cs)
takes_more = Consumes-trans

-- what a source in memory gave is the front of what it had left
pub gave : (bytes left front : List ℕ) (at n : ℕ) → drop at bytes ≡ left
    → front ≡ take n (take (length bytes - at) (drop at bytes)) → left ≡ front ++ drop (at + n) bytes
gave bytes left front at n is e =
    let whole : front ≡ take n left = e ∙ ap (take n) (take_rest bytes at ∙ is) in
    sym (take-append-drop n left) ∙ ap (λ l. l ++ drop n left) (sym whole)
    ∙ ap (λ l. front ++ l) (ap (drop n) (sym is) ∙ drop-drop n at bytes)

-- it gives none at its end alone
pub gave_none : (bytes : List ℕ) (at n piece room : ℕ) → 0 < piece → 0 < room → at ≤ length bytes
    → n ≡ min piece (min room (length (take (length bytes - at) (drop at bytes)))) → n ≡ 0 → drop (at + n) bytes ≡ []
gave_none bytes at n piece room some large within e none =
    let left : length (take (length bytes - at) (drop at bytes)) ≡ length bytes - at =
    ap length (take_rest bytes at) ∙ length-drop at bytes in
    let end : length bytes ≤ at + n = omega (arith, e, left) in
    drop_all _ bytes end
