-- The message with which a session is denied can be spelled, and is short.
use Rattle.std.proofs.Common.{◌≡◌, ◌<◌, ◌≤◌, ◌+◌, ◌^◌, ℕ, Bool, true, false, List, [], ◌∷◌, ◌++◌, length, length-append}
use Rattle.std.proofs.Common.{map, None, refl, arith, if◌then◌else◌}
use Rattle.std.specs.List.{AllByRecursion}
use Rattle.wbxml_tables.specs.declared.Element.TheVariants.{EAlert, ECmdID, EData, EFinal}
use Rattle.wbxml_tokens.specs.declared.token.Token.TheVariants.{Tag, End}
use Rattle.wbxml_tokens.specs.Spelling.{spelled, page_behind}
use Rattle.syncml_types.specs.declared.values.Header.{Header}
use Rattle.syncml_types.specs.declared.command.Command.{Command}
use Rattle.syncml_types.specs.Message.{Parts}
use Rattle.syncml_types.specs.Canonical.{canonical, flag_tokens, items_tokens, alert_tokens, command_tokens}
use Rattle.syncml_types.specs.Canonical.{commands_tokens}
use Rattle.syncml_types.specs.Fitness.{IsFit}
use Rattle.syncml_parts.specs.Numbering.{ids_in, with_numbers}
use Rattle.syncml_parts.specs.Packing.{tail_tokens}
use Rattle.dm_headers.specs.Headers.{is_withheld, status_of, header_answer}
use Rattle.dm_pack.specs.Entries.{IsFitCommand, IsReady, whole_entry}
use Rattle.dm_pack.specs.Filling.{numbered, IsReadyHeader}
use Rattle.dm_pack.specs.Measures.{front_length}
use Rattle.dm_pack.proofs.Fit.{numbered_fit}
use Rattle.dm_pack.proofs.Measuring.{long_parted}
use Rattle.dm_pack.proofs.Within.{tag_most, one_more, bare_front}
use Rattle.dm_pack.proofs.Most.{Most, none, most_append, most_parent, most_number}
use Rattle.dm_pack.proofs.Ready.{alert_ready}
use Rattle.dm_ends.specs.Commands.{alert}
use Rattle.dm_ends.specs.Farewells.{farewell}
use Rattle.dm_ends.proofs.Answers.{IsNonce, status_most, answer_ready}

-- the Status of the header, where it isn't suppressed, and Alert 1223
abbrev pub last_words : Header → ℕ → List ℕ → List Command
last_words h code nonce = header_answer h code nonce ++ alert 1223 None [] ∷ []

-- ---- it is fit

fit_commands : (cs : List Command) → AllByRecursion IsReady (map whole_entry cs) → AllByRecursion IsFitCommand cs
fit_commands [] all = tt
fit_commands (c ∷ cs) all = (all.0.fit, fit_commands cs all.1)

all_last : (cs : List Command) (c : Command) → AllByRecursion IsFitCommand cs → IsFitCommand c
    → AllByRecursion IsFitCommand (cs ++ c ∷ [])
all_last [] c all fit = (fit, tt)
all_last (d ∷ ds) c all fit = (all.0, all_last ds c all.1 fit)

abort_ready : IsReady (whole_entry (alert 1223 None []))
abort_ready = alert_ready 1223 [] (omega arith) tt

pub last_words_fit : (own h : Header) (code : ℕ) (nonce : List ℕ) → IsReadyHeader own → 0 < h.msg → h.msg < 2 ^ 32
    → code < 2 ^ 32 → IsNonce nonce → IsFit own (numbered 1 (last_words h code nonce))
last_words_fit own h code nonce ready some msg low is =
    numbered_fit own (last_words h code nonce) ready.fit
    (all_last (header_answer h code nonce) (alert 1223 None [])
    (fit_commands (header_answer h code nonce) (answer_ready h code nonce some msg low is)) abort_ready.fit)

pub farewell_fit : (own : Header) (m : Parts) (code : ℕ) (nonce : List ℕ) → IsReadyHeader own → 0 < m.header.msg
    → m.header.msg < 2 ^ 32 → code < 2 ^ 32 → IsNonce nonce
    → IsFit (farewell own m code nonce).header (farewell own m code nonce).body
farewell_fit own m code nonce ready some msg low is = last_words_fit own m.header code nonce ready some msg low is

-- ---- it is short

abort_most : (n : ℕ) → n < 2 ^ 32 → Most 36 (command_tokens (with_numbers n (alert 1223 None [])))
unfolding command_tokens with_numbers alert_tokens flag_tokens items_tokens
abort_most n low =
    let inside = most_parent EAlert
    (most_append (most_append (most_append (most_append (most_number ECmdID n low) none)
    (most_number EData 1223 (omega arith))) none) none) in
    record { at = λ p. let most = inside.at p in omega (arith, most) }

words_most : (withheld : Bool) (h : Header) (code : ℕ) (nonce : List ℕ) → h.msg < 2 ^ 32 → code < 2 ^ 32 → IsNonce nonce
    → Most 286
    (commands_tokens (numbered 1 ((if withheld then [] else status_of h code nonce ∷ []) ++ alert 1223 None [] ∷ [])))
unfolding commands_tokens ids_in
words_most true h code nonce msg low is =
    let whole = most_append (abort_most 1 (omega arith)) none in
    record { at = λ p. let most = whole.at p in omega (arith, most) }
words_most false h code nonce msg low is =
    let whole = most_append (status_most h code nonce msg low is) (most_append (abort_most 2 (omega arith)) none) in
    record { at = λ p. let most = whole.at p in omega (arith, most) }

tail_most : (p : ℕ) → length (spelled p (tail_tokens true)) ≤ 5
unfolding flag_tokens
tail_most p =
    let tag = tag_most p EFinal false in
    let whole = one_more p (Tag EFinal false) (End ∷ End ∷ []) in
    omega (arith, tag, whole)

numbered_long : (n : ℕ) (cs : List Command) → length (numbered n cs) ≡ length cs
numbered_long n [] = refl
numbered_long n (c ∷ cs) = let rest = numbered_long (n + ids_in c) cs in omega (arith, rest)

short_unless : (withheld : Bool) (own h : Header) (code : ℕ) (nonce : List ℕ) → IsReadyHeader own → h.msg < 2 ^ 32
    → code < 2 ^ 32
    → IsNonce nonce
    → length (canonical (record {
      header = own;
      body = numbered 1 ((if withheld then [] else status_of h code nonce ∷ []) ++ alert 1223 None [] ∷ []);
      last = true;
    })) ≤ 2048
unfolding front_length commands_tokens
short_unless withheld own h code nonce ready msg low is =
    let cs : List Command = (if withheld then [] else status_of h code nonce ∷ []) ++ alert 1223 None [] ∷ [] in
    let count = numbered_long 1 cs in
    let some = length-append (if withheld then [] else status_of h code nonce ∷ []) (alert 1223 None [] ∷ []) in
    let whole = long_parted own (numbered 1 cs) true (omega (arith, count, some)) in
    let front = bare_front own ready in
    let words = (words_most withheld h code nonce msg low is).at 0 in
    let tail = tail_most (page_behind 0 (commands_tokens (numbered 1 cs))) in
    omega (arith, whole, front, words, tail)

-- at most 2,048 bytes
pub farewell_short : (own : Header) (m : Parts) (code : ℕ) (nonce : List ℕ) → IsReadyHeader own → m.header.msg < 2 ^ 32
    → code < 2 ^ 32 → IsNonce nonce → length (canonical (farewell own m code nonce)) ≤ 2048
unfolding header_answer
farewell_short own m code nonce ready msg low is =
    short_unless (is_withheld m.header code) own m.header code nonce ready msg low is
