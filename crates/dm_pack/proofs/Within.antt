-- No message is longer than the room.
use Rattle.std.proofs.Common.{◌≡◌, ◌<◌, ◌≤◌, ◌+◌, ◌-◌, ◌^◌, ℕ, zero, suc, Bool, true, false, if◌then◌else◌, List, []}
use Rattle.std.proofs.Common.{◌∷◌, ◌++◌, length, length-append, min, take, drop, None, refl, sym, ap, ◌∙◌, arith}
use Rattle.std.proofs.Common.{append_assoc}
use Rattle.std.proofs.lemmas.List.{append-nil}
use Rattle.std.proofs.lemmas.Bool.{leb-true, le-leb}
use Rattle.std.proofs.lemmas.Fmt.{length-decimal-le}
use Rattle.std.specs.Fmt.{decimal}
use Rattle.wbxml_tables.specs.declared.Element.{Element}
use Rattle.wbxml_tables.specs.declared.Element.TheVariants.{EAlert, ENoResp, ECorrelator, ECmdID, EData, EFinal}
use Rattle.wbxml_tables.specs.declared.Element.TheVariants.{ESyncML, ESyncBody}
use Rattle.wbxml_tables.specs.Tables.{page_of}
use Rattle.wbxml_tokens.specs.declared.token.Token.{Token}
use Rattle.wbxml_tokens.specs.declared.token.Token.TheVariants.{Tag, End, Text}
use Rattle.wbxml_tokens.specs.Spelling.{token_bytes, page_after, spelled, page_behind}
use Rattle.syncml_types.specs.declared.values.Header.{Header}
use Rattle.syncml_types.specs.declared.command.Command.{Command}
use Rattle.syncml_types.specs.Canonical.{canonical, optional, parent_tokens, text_tokens, number_tokens, flag_tokens}
use Rattle.syncml_types.specs.Canonical.{items_tokens, alert_tokens, command_tokens, commands_tokens, header_tokens}
use Rattle.syncml_types.specs.Canonical.{body_tokens, message_tokens}
use Rattle.syncml_types.specs.Lengths.{head_tokens, up_to_most, spelled_length}
use Rattle.syncml_parts.specs.Numbering.{with_numbers}
use Rattle.syncml_parts.specs.Packing.{body_tag, tail_tokens}
use Rattle.syncml_parts.proofs.Parted.{spelled_append}
use Rattle.dm_pack.specs.declared.place.Place.{Place}
use Rattle.dm_pack.specs.declared.filled.Tail.{Tail}
use Rattle.dm_pack.specs.declared.filled.Tail.TheVariants.{Final, NextMessage, Nothing}
use Rattle.dm_pack.specs.Entries.{Entry, part_of, data_left}
use Rattle.dm_pack.specs.Filling.{numbered, asks_next, fits_room, commands_of, taken, greatest, cut, next_part}
use Rattle.dm_pack.specs.Filling.{next_rest}
use Rattle.dm_pack.specs.Filling.{tail_of, tail_commands, is_final, fill, IsReadyHeader}
use Rattle.dm_pack.specs.Measures.{ids_of, front_length, front_page, end_length, tail_length}
use Rattle.dm_pack.proofs.Numbers.{numbered_append, some_bytes}
use Rattle.dm_pack.proofs.Measuring.{one_alone, fits_is, long_parted, long_measured, head_long}

-- ---- how long tokens are at most

tag_most_by : (same : Bool) (p t : ℕ) → length (if same then t ∷ [] else 0 ∷ p ∷ t ∷ []) ≤ 3
tag_most_by true p t = omega arith
tag_most_by false p t = omega arith

pub tag_most : (p : ℕ) (e : Element) (content : Bool) → length (token_bytes p (Tag e content)) ≤ 3
tag_most p e content = tag_most_by _ _ _

tag_least_by : (same : Bool) (p t : ℕ) → 1 ≤ length (if same then t ∷ [] else 0 ∷ p ∷ t ∷ [])
tag_least_by true p t = omega arith
tag_least_by false p t = omega arith

pub tag_least : (p : ℕ) (e : Element) (content : Bool) → 1 ≤ length (token_bytes p (Tag e content))
tag_least p e content = tag_least_by _ _ _

pub apart : (p : ℕ) (a b : List Token)
    → length (spelled p (a ++ b)) ≡ length (spelled p a) + length (spelled (page_behind p a) b)
apart p a b = ap length (spelled_append p a b) ∙ length-append (spelled p a) (spelled (page_behind p a) b)

pub one_more : (p : ℕ) (t : Token) (ts : List Token)
    → length (spelled p (t ∷ ts)) ≡ length (token_bytes p t) + length (spelled (page_after p t) ts)
one_more p t ts = length-append (token_bytes p t) (spelled (page_after p t) ts)

pub text_most : (p : ℕ) (e : Element) (v : List ℕ) → length (spelled p (text_tokens e v)) ≤ length v + 6
unfolding text_tokens
text_most p e [] =
    let tag = tag_most p e false in
    let whole = one_more p (Tag e false) [] in
    omega (arith, tag, whole)
text_most p e (b ∷ bs) =
    let tag = tag_most p e true in
    let whole = one_more p (Tag e true) (Text (b ∷ bs) ∷ End ∷ []) in
    let text = one_more (page_of e) (Text (b ∷ bs)) (End ∷ []) in
    let inside = length-append (b ∷ bs) (0 ∷ []) in
    omega (arith, tag, whole, text, inside)

alert_children : (q : ℕ) (a b : List Token) (m n : ℕ) → ((p : ℕ) → length (spelled p a) ≤ m)
    → ((p : ℕ) → length (spelled p b) ≤ n)
    → length (spelled q (a ++ [] ++ b ++ [] ++ [])) ≤ m + n
alert_children q a b m n first second =
    let v = apart q (a ++ [] ++ b ++ []) [] in
    let w = apart q (a ++ [] ++ b) [] in
    let x = apart q (a ++ []) b in
    let y = apart q a [] in
    let f = first q in
    let s = second (page_behind q (a ++ [])) in
    omega (arith, v, w, x, y, f, s)

pub parent_most : (p : ℕ) (e : Element) (ts : List Token) (m : ℕ) → ((q : ℕ) → length (spelled q ts) ≤ m)
    → length (spelled p (parent_tokens e ts)) ≤ m + 4
parent_most p e ts m most =
    let tag = tag_most p e true in
    let whole = one_more p (Tag e true) (ts ++ End ∷ []) in
    let inside = apart (page_of e) ts (End ∷ []) in
    let one = most (page_of e) in
    omega (arith, tag, whole, inside, one)

alert_most : (p n : ℕ) → n < 2 ^ 32 → length (spelled p (command_tokens (with_numbers n asks_next))) ≤ 30
unfolding command_tokens with_numbers alert_tokens flag_tokens number_tokens items_tokens
alert_most p n low =
    let id = length-decimal-le 10 n (omega arith) (omega (arith, low)) (omega (arith, low)) in
    let code = length-decimal-le 4 1222 (omega arith) (omega arith) (omega arith) in
    let most = parent_most p EAlert _ _
    (λ q. alert_children q (text_tokens ECmdID (decimal n)) (text_tokens EData (decimal 1222)) (length (decimal n) + 6)
    (length (decimal 1222) + 6)
    (λ r. text_most r ECmdID (decimal n)) (λ r. text_most r EData (decimal 1222))) in
    omega (arith, id, code, most)

two_tokens : (e : Element) (ts : List Token) → 2 ≤ length (parent_tokens e ts)
two_tokens e ts = let sum = length-append ts (End ∷ []) in omega (arith, sum)

alert_least : (p n : ℕ) → 2 ≤ length (spelled p (command_tokens (with_numbers n asks_next)))
unfolding command_tokens with_numbers alert_tokens
alert_least p n =
    let tokens =
    two_tokens EAlert
    (number_tokens ECmdID n ++ flag_tokens ENoResp false ++ number_tokens EData 1222
    ++ optional (text_tokens ECorrelator) None ++ items_tokens []) in
    let bytes = some_bytes p (command_tokens (with_numbers n asks_next)) in
    omega (arith, tokens, bytes)

tail_most : (p : ℕ) (last : Bool) → length (spelled p (tail_tokens last)) ≤ 5
unfolding flag_tokens
tail_most p true =
    let tag = tag_most p EFinal false in
    let whole = one_more p (Tag EFinal false) (End ∷ End ∷ []) in
    omega (arith, tag, whole)
tail_most p false = omega arith

tail_least : (p : ℕ) → 3 ≤ length (spelled p (tail_tokens true))
unfolding flag_tokens
tail_least p =
    let tag = tag_least p EFinal false in
    let whole = one_more p (Tag EFinal false) (End ∷ End ∷ []) in
    omega (arith, tag, whole)

tail_open : (p : ℕ) → length (spelled p (tail_tokens false)) ≡ 2
unfolding flag_tokens
tail_open p = refl

pub end_most : (p n : ℕ) → n < 2 ^ 32 → end_length p n ≤ 35
unfolding end_length
end_most p n low =
    let alert = alert_most p n low in
    let tail = tail_most (page_behind p (command_tokens (with_numbers n asks_next))) true in
    omega (arith, alert, tail)

end_least : (p n : ℕ) → 5 ≤ end_length p n
unfolding end_length
end_least p n =
    let alert = alert_least p n in
    let tail = tail_least (page_behind p (command_tokens (with_numbers n asks_next))) in
    omega (arith, alert, tail)

-- ---- what stands at the end

pub final_end : (p : Place) (n : ℕ) → n ≡ length (spelled p.page (tail_tokens true))
    → n ≡ up_to_most (tail_length p Final)
unfolding tail_length commands_tokens
final_end p n is = let most = tail_most p.page true in omega (arith, is, most)

pub next_end : (p : Place) (bytes n : ℕ)
    → bytes ≡ spelled_length 0 p.page (command_tokens (with_numbers p.next asks_next))
    → n ≡ min (bytes + 2) (2 ^ 64 - 1) → n ≡ up_to_most (tail_length p NextMessage)
unfolding tail_length
next_end p bytes n is sum =
    let asks = with_numbers p.next asks_next in
    let one = ap (λ ts. length (spelled p.page ts)) (one_alone asks) in
    let two = tail_open (page_behind p.page (commands_tokens (asks ∷ []))) in
    omega (arith, is, sum, one, two)

pub nothing_end : (p : Place) → 2 ≡ up_to_most (tail_length p Nothing)
unfolding tail_length commands_tokens
nothing_end p = let two = tail_open p.page in omega (arith, two)

-- ---- a message without commands

body_tag_most : (p : ℕ) → length (spelled p body_tag) ≤ 3
body_tag_most p = let tag = tag_most p ESyncBody true in let whole = one_more p (Tag ESyncBody true) [] in
    omega (arith, tag, whole)

pub bare_front : (h : Header) → IsReadyHeader h → front_length h [] ≤ 609
unfolding front_length commands_tokens
bare_front h ready =
    let head = head_long h in
    let tag = body_tag_most (page_behind 0 (head_tokens h)) in
    let short = ready.short in
    omega (arith, head, tag, short)

pub fits_empty : (h : Header) (room : ℕ) → IsReadyHeader h → 2048 ≤ room → fits_room h room [] ≡ true
fits_empty h room ready most =
    let front = bare_front h ready in
    let end = end_most (front_page []) 1 (omega arith) in
    fits_is h room [] ∙ le-leb _ room (omega (arith, front, end, most))

bare_body : (p : ℕ) (last : Bool) → length (spelled p (body_tokens [] last)) ≤ 7
unfolding body_tokens commands_tokens flag_tokens
bare_body p true =
    let tag = tag_most p ESyncBody true in
    let whole = one_more p (Tag ESyncBody true) (Tag EFinal false ∷ End ∷ []) in
    let final = tag_most (page_of ESyncBody) EFinal false in
    let rest = one_more (page_of ESyncBody) (Tag EFinal false) (End ∷ []) in
    omega (arith, tag, whole, final, rest)
bare_body p false =
    let tag = tag_most p ESyncBody false in
    let whole = one_more p (Tag ESyncBody false) [] in
    omega (arith, tag, whole)

bare_message : (h : Header) (last : Bool) → IsReadyHeader h
    → length (canonical (record { header = h; body = []; last = last })) ≤ 614
unfolding canonical message_tokens
bare_message h last ready =
    let whole = one_more 0 (Tag ESyncML true) ((header_tokens h ++ body_tokens [] last) ++ End ∷ []) in
    let inside = apart 0 (header_tokens h ++ body_tokens [] last) (End ∷ []) in
    let children = apart 0 (header_tokens h) (body_tokens [] last) in
    let body = bare_body (page_behind 0 (header_tokens h)) last in
    let short = ready.short in
    omega (arith, whole, inside, children, body, short)

-- ---- what is taken fits

taken_by : (h : Header) (room : ℕ) (before : List Command) (e : Entry) (es : List Entry) (t : Bool)
    → fits_room h room (before ++ e.command ∷ []) ≡ t
    → fits_room h room before ≡ true
    → (fits_room h room (before ++ e.command ∷ []) ≡ true
    → fits_room h room ((before ++ e.command ∷ []) ++ commands_of (take (taken h room (before ++ e.command ∷ []) es) es))
    ≡ true)
    → fits_room h room (before
    ++ commands_of (take (if t then suc (taken h room (before ++ e.command ∷ []) es) else 0) (e ∷ es))) ≡ true
taken_by h room before e es true is fit more =
    ap (fits_room h room)
    (sym (append_assoc before (e.command ∷ []) (commands_of (take (taken h room (before ++ e.command ∷ []) es) es))))
    ∙ more is
taken_by h room before e es false is fit more = ap (fits_room h room) (append-nil before) ∙ fit

taken_fits : (h : Header) (room : ℕ) (before : List Command) (es : List Entry) → fits_room h room before ≡ true
    → fits_room h room (before ++ commands_of (take (taken h room before es) es)) ≡ true
taken_fits h room before [] fit = ap (fits_room h room) (append-nil before) ∙ fit
taken_fits h room before (e ∷ es) fit =
    taken_by h room before e es (fits_room h room (before ++ e.command ∷ [])) refl fit
    (λ is. taken_fits h room (before ++ e.command ∷ []) es is)

passes_by : (p : ℕ → Bool) (k : ℕ) (t : Bool) → p (suc k) ≡ t → (0 < greatest p k → p (greatest p k) ≡ true)
    → 0 < (if t then suc k else greatest p k) → p (if t then suc k else greatest p k) ≡ true
passes_by p k true is rest h = is
passes_by p k false is rest h = rest h

pub greatest_passes : (p : ℕ → Bool) (most : ℕ) → 0 < greatest p most → p (greatest p most) ≡ true
greatest_passes p zero h = absurd (omega (arith, h))
greatest_passes p (suc k) h = passes_by p k (p (suc k)) refl (greatest_passes p k) h

part_by : (h : Header) (room : ℕ) (before : List Command) (e : Entry) (es : List Entry) (n : ℕ)
    → fits_room h room before ≡ true
    → (0 < n → fits_room h room (before ++ part_of e n ∷ []) ≡ true) → fits_room h room (before ++ next_part n (e ∷ es)) ≡ true
part_by h room before e es zero fit passes = ap (fits_room h room) (append-nil before) ∙ fit
part_by h room before e es (suc n) fit passes = passes (omega arith)

part_fits : (h : Header) (room : ℕ) (before : List Command) (next : List Entry) → fits_room h room before ≡ true
    → fits_room h room (before ++ next_part (cut h room before next) next) ≡ true
part_fits h room before [] fit = ap (fits_room h room) (append-nil before) ∙ fit
part_fits h room before (e ∷ es) fit =
    part_by h room before e es (cut h room before (e ∷ es)) fit
    (greatest_passes (λ n. fits_room h room (before ++ part_of e n ∷ [])) (data_left e - 1))

-- ---- and so does the message

some_numbered : (cs : List Command) (c : Command) → 0 < length (numbered 1 (cs ++ c ∷ []))
some_numbered cs c =
    let apart_are = ap length (numbered_append 1 cs (c ∷ [])) in
    let sum = length-append (numbered 1 cs) (numbered (1 + ids_of cs) (c ∷ [])) in
    omega (arith, apart_are, sum)

open_within : (h : Header) (room : ℕ) (cs : List Command) → fits_room h room cs ≡ true
    → length (canonical (record { header = h; body = numbered 1 (cs ++ asks_next ∷ []); last = false })) ≤ room
unfolding fits_room
open_within h room cs fit =
    let ns = numbered 1 (cs ++ asks_next ∷ []) in
    let measured = leb-true _ room fit in
    let closed = long_parted h ns true (some_numbered cs asks_next) in
    let opened = long_parted h ns false (some_numbered cs asks_next) in
    let two = tail_open (page_behind 0 (commands_tokens ns)) in
    let three = tail_least (page_behind 0 (commands_tokens ns)) in
    omega (arith, measured, closed, opened, two, three)

bare_within : (h : Header) (room : ℕ) (cs : List Command) (last : Bool) → IsReadyHeader h → 2048 ≤ room
    → fits_room h room cs ≡ true
    → length (canonical (record { header = h; body = numbered 1 cs; last = last })) ≤ room
unfolding fits_room front_length
bare_within h room [] last ready most fit = let short = bare_message h last ready in omega (arith, short, most)
bare_within h room (c ∷ cs) last ready most fit =
    let low = leb-true _ room fit in
    let measured = long_measured h (c ∷ cs) in
    let whole = long_parted h (numbered 1 (c ∷ cs)) last (omega arith) in
    let end = end_least (front_page (c ∷ cs)) (1 + ids_of (c ∷ cs)) in
    let tail = tail_most (page_behind 0 (commands_tokens (numbered 1 (c ∷ cs)))) last in
    omega (arith, low, measured, whole, end, tail)

tail_within : (h : Header) (room : ℕ) (cs : List Command) (t : Tail) → IsReadyHeader h → 2048 ≤ room
    → fits_room h room cs ≡ true
    → length (canonical (record { header = h; body = numbered 1 (cs ++ tail_commands t); last = is_final t })) ≤ room
tail_within h room cs NextMessage ready most fit = open_within h room cs fit
tail_within h room cs Final ready most fit =
    let same = ap (λ l. length (canonical (record { header = h; body = numbered 1 l; last = true }))) (append-nil cs) in
    let short = bare_within h room cs true ready most fit in
    omega (arith, same, short)
tail_within h room cs Nothing ready most fit =
    let same =
    ap (λ l. length (canonical (record { header = h; body = numbered 1 l; last = false }))) (append-nil cs) in
    let short = bare_within h room cs false ready most fit in
    omega (arith, same, short)

pub fill_within : (h : Header) (es : List Entry) (room : ℕ) (heard : Bool) → IsReadyHeader h → 2048 ≤ room
    → length (canonical (fill es h room heard).message) ≤ room
unfolding fill
fill_within h es room heard ready most =
    let whole = taken h room [] es in
    let before = commands_of (take whole es) in
    let n = cut h room before (drop whole es) in
    tail_within h room (before ++ next_part n (drop whole es)) (tail_of (next_rest n (drop whole es)) heard) ready most
    (part_fits h room before (drop whole es) (taken_fits h room [] es (fits_empty h room ready most)))
