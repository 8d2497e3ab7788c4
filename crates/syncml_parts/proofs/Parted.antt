-- Spellings taken apart.
use Rattle.std.proofs.Common.{◌≡◌, ◌<◌, ◌≤◌, ◌+◌, ◌^◌, ℕ, Bool, true, false, if◌then◌else◌, List, [], ◌∷◌, ◌++◌, length}
use Rattle.std.proofs.Common.{length-append, nat_lt, refl, sym, ap, ◌∙◌, append_assoc, arith}
use Rattle.std.proofs.lemmas.Grind.{flat_map-append}
use Rattle.std.proofs.lemmas.Bool.{lt-ltb, ne_eqb}
use Rattle.wbxml_ints.specs.Multibyte.{shortest}
use Rattle.wbxml_tables.specs.declared.Element.TheVariants.{ESyncML, ESyncBody, EFinal}
use Rattle.wbxml_tokens.specs.declared.token.Token.{Token}
use Rattle.wbxml_tokens.specs.declared.token.Token.TheVariants.{Tag, End, Text, Opaque}
use Rattle.wbxml_tokens.specs.Spelling.{token_bytes, page_after, spelled, page_behind, prologue}
use Rattle.syncml_types.specs.declared.values.Header.{Header}
use Rattle.syncml_types.specs.declared.command.Command.{Command}
use Rattle.syncml_types.specs.Canonical.{is_text, flag_tokens, header_tokens, command_tokens, commands_tokens}
use Rattle.syncml_types.specs.Canonical.{is_empty_body, parent_tokens, message_tokens, canonical}
use Rattle.syncml_types.specs.Lengths.{head_tokens}
use Rattle.syncml_parts.specs.Packing.{body_tag, tail_tokens, SpellsInParts, SpellsCommands, BoundsData}
use Rattle.syncml_types.proofs.Bare.{full_body}

pub spelled_append : (page : ℕ) (ts us : List Token)
    → spelled page (ts ++ us) ≡ spelled page ts ++ spelled (page_behind page ts) us
spelled_append page [] us = refl
spelled_append page (t ∷ ts) us =
    ap (λ l. token_bytes page t ++ l) (spelled_append (page_after page t) ts us)
    ∙ sym (append_assoc (token_bytes page t) (spelled (page_after page t) ts)
    (spelled (page_behind (page_after page t) ts) us))

pub page_append : (page : ℕ) (ts us : List Token) → page_behind page (ts ++ us) ≡ page_behind (page_behind page ts) us
page_append page [] us = refl
page_append page (t ∷ ts) us = page_append (page_after page t) ts us

pub spells_commands : SpellsCommands
unfolding commands_tokens
spells_commands page cs ds =
    let parted = flat_map-append command_tokens cs ds in (
      ap (spelled page) parted ∙ spelled_append page (commands_tokens cs) (commands_tokens ds),
      ap (page_behind page) parted ∙ page_append page (commands_tokens cs) (commands_tokens ds),
    )

-- tokens of a message whose body has children, in four parts
regrouped : (a : Token) (h : List Token) (b : Token) (cs f : List Token) (e : Token)
    → a ∷ (h ++ (b ∷ (cs ++ f) ++ e ∷ [])) ++ e ∷ [] ≡ (a ∷ h) ++ (b ∷ []) ++ cs ++ (f ++ e ∷ e ∷ [])
regrouped a h b cs f e =
    ap (λ l. a ∷ l)
    (append_assoc h (b ∷ (cs ++ f) ++ e ∷ []) (e ∷ [])
    ∙ ap (λ l. h ++ b ∷ l) (append_assoc (cs ++ f) (e ∷ []) (e ∷ []) ∙ append_assoc cs f (e ∷ e ∷ []))
    ∙ sym (append_assoc h (b ∷ []) (cs ++ (f ++ e ∷ e ∷ [])))
    ∙ sym (append_assoc (h ++ b ∷ []) cs (f ++ e ∷ e ∷ [])))

spelled_four : (page : ℕ) (a b c d : List Token) → spelled page (a ++ b ++ c ++ d)
    ≡ spelled page a ++ spelled (page_behind page a) b ++ spelled (page_behind (page_behind page a) b) c
    ++ spelled (page_behind (page_behind (page_behind page a) b) c) d
spelled_four page a b c d =
    spelled_append page (a ++ b ++ c) d
    ∙ ap (λ l. l ++ spelled (page_behind page (a ++ b ++ c)) d)
    (spelled_append page (a ++ b) c ∙ ap (λ l. l ++ spelled (page_behind page (a ++ b)) c) (spelled_append page a b))
    ∙ rw (page_append page (a ++ b) c, page_append page a b) refl

front_of : (p a b c d : List ℕ) → p ++ (a ++ b ++ c ++ d) ≡ (p ++ a) ++ b ++ c ++ d
front_of p a b c d =
    sym (append_assoc p (a ++ b ++ c) d)
    ∙ ap (λ l. l ++ d) (sym (append_assoc p (a ++ b) c) ∙ ap (λ l. l ++ c) (sym (append_assoc p a b)))

some_commands : (c : Command) (cs : List Command) (last : Bool) → is_empty_body (c ∷ cs) last ≡ false
some_commands c cs last = rw (ne_eqb (length (c ∷ cs)) 0 (λ e. omega (arith, e))) refl

message_parted : (h : Header) (c : Command) (cs : List Command) (last : Bool)
    → message_tokens (record { header = h; body = c ∷ cs; last = last })
    ≡ head_tokens h ++ body_tag ++ commands_tokens (c ∷ cs) ++ tail_tokens last
unfolding message_tokens
message_parted h c cs last =
    ap (λ l. parent_tokens ESyncML (header_tokens h ++ l)) (full_body (c ∷ cs) last (some_commands c cs last))
    ∙ regrouped (Tag ESyncML true) (header_tokens h) (Tag ESyncBody true) (commands_tokens (c ∷ cs))
    (flag_tokens EFinal last) End

pub spells_in_parts : SpellsInParts
unfolding canonical
spells_in_parts h c cs last =
    ap (λ ts. prologue ++ spelled 0 ts) (message_parted h c cs last)
    ∙ ap (λ l. prologue ++ l) (spelled_four 0 (head_tokens h) body_tag (commands_tokens (c ∷ cs)) (tail_tokens last))
    ∙ front_of prologue (spelled 0 (head_tokens h)) (spelled (page_behind 0 (head_tokens h)) body_tag)
    (spelled 0 (commands_tokens (c ∷ cs))) (spelled (page_behind 0 (commands_tokens (c ∷ cs))) (tail_tokens last))

-- ---- Data

digits_five : (n : ℕ) (a b c d : Bool) (v w x y z : List ℕ) → 1 ≤ length v → 1 ≤ length w → 1 ≤ length x → 1 ≤ length y
    → 1 ≤ length z
    → 1 ≤ length (if a then v else if b then w else if c then x else if d then y else z)
digits_five n true b c d v w x y z hv hw hx hy hz = hv
digits_five n false true c d v w x y z hv hw hx hy hz = hw
digits_five n false false true d v w x y z hv hw hx hy hz = hx
digits_five n false false false true v w x y z hv hw hx hy hz = hy
digits_five n false false false false v w x y z hv hw hx hy hz = hz

some_digit : (n : ℕ) → 1 ≤ length (shortest n)
some_digit n =
    digits_five n (nat_lt n 0x80) (nat_lt n 0x4000) (nat_lt n 0x200000) (nat_lt n 0x10000000) _ _ _ _ _
    (omega arith) (omega arith) (omega arith) (omega arith) (omega arith)

digits_three : (a b c : Bool) (v w x y : List ℕ) → length v ≤ 3 → length w ≤ 3 → length x ≤ 3 → c ≡ true
    → length (if a then v else if b then w else if c then x else y) ≤ 3
digits_three true b c v w x y hv hw hx h = hv
digits_three false true c v w x y hv hw hx h = hw
digits_three false false true v w x y hv hw hx h = hx
digits_three false false false v w x y hv hw hx h = cc

few_digits : (n : ℕ) → n < 2 ^ 21 → length (shortest n) ≤ 3
few_digits n h =
    digits_three (nat_lt n 0x80) (nat_lt n 0x4000) (nat_lt n 0x200000) _ _ _ _
    (omega arith) (omega arith) (omega arith) (lt-ltb n 0x200000 (omega (arith, h)))

text_long : (v : List ℕ) → length (token_bytes 0 (Text v)) ≡ length v + 2
text_long v = let sum = length-append v (0 ∷ []) in omega (arith, sum)

opaque_long : (v : List ℕ) → length (token_bytes 0 (Opaque v)) ≡ 1 + (length (shortest (length v)) + length v)
opaque_long v = let sum = length-append (shortest (length v)) v in omega (arith, sum)

bounds : (as_text : Bool) (v : List ℕ) → (length v + 2 ≤ length (token_bytes 0 (if as_text then Text v else Opaque v)))
    × (length v < 2 ^ 21 → length (token_bytes 0 (if as_text then Text v else Opaque v)) ≤ length v + 4)
bounds true v = let long = text_long v in (omega (arith, long), λ h. omega (arith, long))
bounds false v =
    let long = opaque_long v in
    let some = some_digit (length v) in
    (omega (arith, long, some), λ h. let few = few_digits (length v) h in omega (arith, long, few))

pub bounds_data : BoundsData
bounds_data v = bounds (is_text v) v
