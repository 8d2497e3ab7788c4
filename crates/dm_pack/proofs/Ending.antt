-- How long a message is, by where it has come to and what stands at its end.
use Rattle.std.proofs.Common.{◌≡◌, ◌⊎◌, inl, inr, ◌<◌, ◌≤◌, ◌+◌, ◌-◌, ◌^◌, ℕ, zero, suc, Bool, true, false, List, []}
use Rattle.std.proofs.Common.{◌∷◌, ◌++◌, length, length-append, min, take, drop, refl, sym, ap, ◌∙◌, arith}
use Rattle.std.specs.List.{AllByRecursion}
use Rattle.wbxml_tables.specs.declared.Element.TheVariants.{EFinal, ESyncML, ESyncBody}
use Rattle.wbxml_tokens.specs.declared.token.Token.TheVariants.{Tag, End}
use Rattle.wbxml_tokens.specs.Spelling.{spelled, page_behind}
use Rattle.syncml_types.specs.declared.values.Header.{Header}
use Rattle.syncml_types.specs.declared.command.Command.{Command}
use Rattle.syncml_types.specs.Canonical.{canonical, flag_tokens, header_tokens, body_tokens, message_tokens}
use Rattle.syncml_types.specs.Canonical.{commands_tokens}
use Rattle.syncml_types.specs.Lengths.{up_to_most}
use Rattle.syncml_parts.specs.Packing.{tail_tokens}
use Rattle.syncml_parts.proofs.Parted.{spells_commands}
use Rattle.dm_pack.specs.declared.place.Place.{Place}
use Rattle.dm_pack.specs.declared.filled.Tail.{Tail}
use Rattle.dm_pack.specs.declared.filled.Tail.TheVariants.{Final, NextMessage, Nothing}
use Rattle.dm_pack.specs.Entries.{Entry, IsReady}
use Rattle.dm_pack.specs.Filling.{Filling, numbered, commands_of, next_part, tail_of, tail_commands, is_final, fill}
use Rattle.dm_pack.specs.Filling.{IsReadyHeader}
use Rattle.dm_pack.specs.Measures.{ids_of, front_length, front_page, place_of, tail_length}
use Rattle.dm_pack.proofs.Measuring.{long_parted}
use Rattle.dm_pack.proofs.Numbers.{numbered_append}
use Rattle.dm_pack.proofs.Packed.{Packs, packed, packed_body, packed_place, parts_of, at_once}
use Rattle.dm_pack.proofs.Progress.{the_first_goes_out}
use Rattle.dm_pack.proofs.Within.{apart, one_more}

-- ---- a message with commands, or with Final

some_body : (h : Header) (cs : List Command) (t : Tail) → 0 < length (numbered 1 (cs ++ tail_commands t))
    → length (canonical (parts_of h (numbered 1 (cs ++ tail_commands t)) (is_final t)))
    ≡ front_length h cs + tail_length (place_of h cs) t
unfolding front_length front_page tail_length
some_body h cs t some =
    let a = numbered 1 cs in
    let d = numbered (1 + ids_of cs) (tail_commands t) in
    let body = numbered_append 1 cs (tail_commands t) in
    let whole = long_parted h (numbered 1 (cs ++ tail_commands t)) (is_final t) some in
    let tokens =
    ap (λ b. length (spelled 0 (commands_tokens b))) body
    ∙ ap length (spells_commands 0 a d).0
    ∙ length-append (spelled 0 (commands_tokens a)) (spelled (page_behind 0 (commands_tokens a)) (commands_tokens d)) in
    let page = ap (λ b. length (spelled (page_behind 0 (commands_tokens b)) (tail_tokens (is_final t)))) body
    ∙ ap (λ p. length (spelled p (tail_tokens (is_final t)))) (spells_commands 0 a d).1 in
    omega (arith, whole, tokens, page)

bare_final : (h : Header)
    → length (canonical (parts_of h [] true)) ≡ front_length h [] + tail_length (place_of h []) Final
unfolding canonical message_tokens body_tokens commands_tokens flag_tokens front_length front_page tail_length
bare_final h =
    let whole = one_more 0 (Tag ESyncML true) ((header_tokens h ++ body_tokens [] true) ++ End ∷ []) in
    let inside = apart 0 (header_tokens h ++ body_tokens [] true) (End ∷ []) in
    let children = apart 0 (header_tokens h) (body_tokens [] true) in
    let body = one_more (page_behind 0 (header_tokens h)) (Tag ESyncBody true) (Tag EFinal false ∷ End ∷ []) in
    let tag = one_more (page_behind 0 (header_tokens h)) (Tag ESyncBody true) [] in
    omega (arith, whole, inside, children, body, tag)

abbrev HasBody : List Command → Tail → Type 0
HasBody cs t = (0 < length cs) ⊎ (t ≡ tail_of [] (is_final t))

long_some : (cs : List Command) (ds : List Command) → 0 < length cs → 0 < length (numbered 1 (cs ++ ds))
long_some [] ds some = absurd (omega (arith, some))
long_some (c ∷ cs) ds some = omega arith

ended_at : (h : Header) (t : Tail) → t ≡ tail_of [] (is_final t)
    → length (canonical (parts_of h (numbered 1 (tail_commands t)) (is_final t)))
    ≡ front_length h [] + tail_length (place_of h []) t
ended_at h Final is = bare_final h
ended_at h NextMessage is = some_body h [] NextMessage (omega arith)
ended_at h Nothing is = absurd (cc)

ended_by : (h : Header) (cs : List Command) (t : Tail) → HasBody cs t
    → length (canonical (parts_of h (numbered 1 (cs ++ tail_commands t)) (is_final t)))
    ≡ front_length h cs + tail_length (place_of h cs) t
ended_by h cs t (inl some) = some_body h cs t (long_some cs (tail_commands t) some)
ended_by h [] t (inr is) = ended_at h t is
ended_by h (c ∷ cs) t (inr is) = some_body h (c ∷ cs) t (omega arith)

-- ---- which each message is

done_tail : (heard : Bool) → tail_of [] heard ≡ tail_of [] (is_final (tail_of [] heard))
done_tail true = refl
done_tail false = refl

some_taken : (whole : ℕ) (e : Entry) (es : List Entry) (rest : List Command) → 0 < whole
    → 0 < length (commands_of (take whole (e ∷ es)) ++ rest)
some_taken zero e es rest some = absurd (omega (arith, some))
some_taken (suc w) e es rest some = omega arith

some_cut : (n : ℕ) (e : Entry) (es : List Entry) → 0 < n → 0 < length (next_part n (e ∷ es))
some_cut zero e es some = absurd (omega (arith, some))
some_cut (suc n) e es some = omega arith

some_sent : (whole n : ℕ) (e : Entry) (es : List Entry) → (0 < whole) ⊎ ((whole ≡ 0) × (0 < n))
    → 0 < length (commands_of (take whole (e ∷ es)) ++ next_part n (drop whole (e ∷ es)))
some_sent whole n e es (inl some) = some_taken whole e es (next_part n (drop whole (e ∷ es))) some
some_sent whole n e es (inr some) =
    rw some.0 (some_cut n e es some.1)

sent_by : (h : Header) (es : List Entry) (room : ℕ) (heard : Bool) (whole n : ℕ) (t : Tail) → AllByRecursion IsReady es
    → IsReadyHeader h → 2048 ≤ room
    → at_once h es whole n t ≡ fill es h room heard → t ≡ tail_of (drop whole es) heard
    → HasBody (commands_of (take whole es) ++ next_part n (drop whole es)) t
sent_by h [] room heard whole n t ready header most is tail =
    inr (tail ∙ nothing_behind whole heard ∙ done_tail heard
    ∙ ap (λ u. tail_of [] (is_final u)) (sym (tail ∙ nothing_behind whole heard)))
  where
    nothing_behind : (whole : ℕ) (heard : Bool) → tail_of (drop whole []) heard ≡ tail_of [] heard
    nothing_behind zero heard = refl
    nothing_behind (suc w) heard = refl
sent_by h (e ∷ es) room heard whole n t ready header most is tail =
    let same_whole : (fill (e ∷ es) h room heard).whole ≡ whole = sym (ap (λ (f : Filling). f.whole) is) in
    let same_cut : (fill (e ∷ es) h room heard).cut ≡ n = sym (ap (λ (f : Filling). f.cut) is) in
    inl (some_sent whole n e es
    (goes_by _ _ whole n same_whole same_cut (the_first_goes_out e es h room heard ready.0 header most)))
  where
    goes_by : (w m whole n : ℕ) → w ≡ whole → m ≡ n → (0 < w) ⊎ ((w ≡ 0) × (0 < m))
        → (0 < whole) ⊎ ((whole ≡ 0) × (0 < n))
    goes_by w m whole n x y h = rw (sym x, sym y) h

pub packed_length : (h g : Header) (es : List Entry) (room : ℕ) (heard last : Bool) (whole n : ℕ)
    (place reached : Place) (t : Tail) (first more body : List Command) (end length_is : ℕ)
    → Packs h es room heard whole n place reached t first more body → g ≡ h → last ≡ is_final t
    → AllByRecursion IsReady es → IsReadyHeader h → 2048 ≤ room
    → end ≡ up_to_most (tail_length reached t) → length_is ≡ min (reached.used + end) (2 ^ 64 - 1)
    → length_is ≡ up_to_most (length (canonical (parts_of g body last)))
packed_length h g es room heard last whole n place reached t first more body end length_is p same final ready header
    most ends is =
    let sent = commands_of (take whole es) ++ next_part n (drop whole es) in
    let at = packed_place h es room heard whole n place reached t first more body p in
    let used = ap (λ (q : Place). q.used) at in
    let tail = ap (λ q. tail_length q t) at in
    let body_long =
    ap (λ b. length (canonical (parts_of h b (is_final t))))
    (packed_body h es room heard whole n place reached t first more body p) in
    let head_long = ap (λ x. length (canonical (parts_of x body last))) same in
    let last_long = ap (λ l. length (canonical (parts_of h body l))) final in
    let whole_long = ended_by h sent t
    (sent_by h es room heard whole n t ready header most
    (packed h es room heard whole n place reached t first more body p) p.tail_there) in
    omega (arith, used, tail, body_long, head_long, last_long, whole_long, ends, is)
