-- What the next line of a source tells of the input that is to come.
use Rattle.std.proofs.Common.{None, Some, Ok, Err, ◌≡◌, ◌<◌, ◌≤◌, ◌+◌, ◌-◌, ◌==◌, ℕ, Bool, true, false, List, [], ◌∷◌}
use Rattle.std.proofs.Common.{◌++◌, refl, sym, ap, subst, ◌∙◌, length, take, arith, length-append, length-take}
use Rattle.std.proofs.Common.{append_assoc, if◌then◌else◌, nat_lt}
use Rattle.std.proofs.lemmas.Bool.{ne_eqb}
use Rattle.std.specs.Option.{option_map}
use Rattle.std.specs.declared.option.Option.{Option}
use Rattle.dm_base.specs.declared.outside.TakeError.{TakeError}
use Rattle.dm_base.specs.declared.outside.TakeError.TheVariants as take_error
use Rattle.dm_base.specs.declared.lines.LineReason.{LineReason}
use Rattle.dm_base.specs.declared.lines.LineReason.TheVariants as reason
use Rattle.dm_base.specs.declared.lines.LineOut.TheVariants as line_out
use Rattle.dm_base.specs.Lines.{AskedForMore, IsFeedless, ReadsLine}
use Rattle.dm_replay.specs.declared.reading.Halt.{Halt}
use Rattle.dm_replay.specs.declared.reading.Halt.TheVariants as halt
use Rattle.dm_replay.specs.Input.{Input, input_of, split}
use Rattle.dm_replay.specs.Trace.{bad, too_long, stopped, tail_stop, whole, ending_behind}
use Rattle.dm_replay.specs.From.{OfInput, Between, BeginsWithLine, why_no_line, ending_at, OfStop, HaltsAsking}
use Rattle.dm_replay.specs.From.{halt_after}
use Rattle.dm_replay.proofs.Splits.{not_lt, is_lt, input_line, input_cut, input_past, input_led, input_long}

pub line_leads : (a b : Option (List ℕ)) (r r' : ℕ) (line : List ℕ) → ReadsLine r a b line (Ok line_out.Line)
    → r' + (length line + 1) ≡ r → Between (option_map (input_of r) a) (option_map (input_of r') b)
    (λ i j. BeginsWithLine line i j)
line_leads None b r r' line h e = tt
line_leads (Some xs) None r r' line h e = absurd h.3
line_leads (Some xs) (Some ys) r r' line h e = (
  ap (input_of r) (h.3 ∙ append_assoc line (10 ∷ []) ys) ∙ input_line r r' line ys h.0 e,
  not_lt 8400000 (length line) h.1,
)

-- ---- the front of an input that has no line to give

tail_long : (n : ℕ) (tail : List ℕ) (more : Bool) → 8400000 < length tail → tail_stop n tail more ≡ bad n reason.Long
tail_long n tail more long =
    ap (λ c. if c then bad n reason.Long else if more then too_long else bad n reason.Cut)
    (is_lt 8400000 (length tail) long)

tail_short : (n : ℕ) (tail : List ℕ) (more : Bool) → length tail ≤ 8400000
    → tail_stop n tail more ≡ (if more then too_long else bad n reason.Cut)
tail_short n tail more short =
    ap (λ c. if c then bad n reason.Long else if more then too_long else bad n reason.Cut)
    (not_lt 8400000 (length tail) short)

end_tail_long : (n : ℕ) (tail : List ℕ) (more : Bool) → 8400000 < length tail
    → ending_behind n tail more ≡ stopped (bad n reason.Extra)
end_tail_long n tail more long =
    ap (λ c. if c then stopped (bad n reason.Extra) else if more then stopped too_long else if length
    tail == 0 then whole else stopped (bad n reason.Extra))
    (is_lt 8400000 (length tail) long)

end_tail_short : (n : ℕ) (tail : List ℕ) (more : Bool) → length tail ≤ 8400000
    → ending_behind n tail more ≡ (if more then stopped too_long else if length tail == 0 then whole else stopped
    (bad n reason.Extra))
end_tail_short n tail more short =
    ap (λ c. if c then stopped (bad n reason.Extra) else if more then stopped too_long else if length
    tail == 0 then whole else stopped (bad n reason.Extra))
    (not_lt 8400000 (length tail) short)

-- a property of the input holds at a bad line, where it holds at the front of a line and at each long one
bad_front : (a b : Option (List ℕ)) (r : ℕ) (last : List ℕ) (why : LineReason) (P : LineReason → Input → Type 0)
    → ((tail : List ℕ) → 0 < length tail → length tail ≤ 8400000
    → P reason.Cut (record { lines = []; tail = tail; more = false }))
    → ((line : List ℕ) (lines : List (List ℕ)) (tail : List ℕ) (more : Bool) → 8400000 < length line
    → P reason.Long (input_led line lines tail more))
    → ReadsLine r a b last (Ok (line_out.Bad why)) → OfInput (option_map (input_of r) a) (P why)
bad_front None b r last why P cut long h = tt
bad_front (Some xs) b r last reason.Cut P cut long h =
    subst (P reason.Cut) (sym (input_cut r xs h.1.feedless h.1.seen)) (cut xs h.1.some h.1.short)
bad_front (Some xs) b r last reason.Long P cut long h =
    let k = r - length h.1.0 in
    let s = split (take k h.1.1) in
    subst (P reason.Long)
    (sym (ap (input_of r) h.1.2 ∙ input_long r k h.1.0 h.1.1 h.1.3 (let e = h.1.5 in omega (arith, e))))
    (long h.1.0 s.lines s.tail (nat_lt r (length (h.1.0 ++ h.1.1))) h.1.4)
bad_front (Some xs) b r last reason.Word P cut long h = absurd h
bad_front (Some xs) b r last reason.Fields P cut long h = absurd h
bad_front (Some xs) b r last reason.Account P cut long h = absurd h
bad_front (Some xs) b r last reason.Tree P cut long h = absurd h
bad_front (Some xs) b r last reason.Extra P cut long h = absurd h
bad_front (Some xs) b r last reason.Message P cut long h = absurd h

longer : (a b : List ℕ) → 8400000 < length a → 8400000 < length (a ++ b)
longer a b h = let e = length-append a b in omega (arith, e, h)

stop_long : (n : ℕ) (line : List ℕ) (lines : List (List ℕ)) (tail : List ℕ) (more : Bool) → 8400000 < length line
    → why_no_line n (input_led line lines tail more) ≡ Some (bad n reason.Long)
stop_long n line [] tail more long = ap Some (tail_long n (line ++ tail) more (longer line tail long))
stop_long n line (l ∷ lines) tail more long =
    ap (λ c. if c then Some (bad n reason.Long) else None) (is_lt 8400000 (length (line ++ l)) (longer line l long))

end_long : (n : ℕ) (line : List ℕ) (lines : List (List ℕ)) (tail : List ℕ) (more : Bool) → 8400000 < length line
    → ending_at n (input_led line lines tail more) ≡ stopped (bad n reason.Extra)
end_long n line [] tail more long = end_tail_long n (line ++ tail) more (longer line tail long)
end_long n line (l ∷ lines) tail more long = refl

end_cut : (n : ℕ) (tail : List ℕ) → 0 < length tail → length tail ≤ 8400000
    → ending_behind n tail false ≡ stopped (bad n reason.Extra)
end_cut n [] some short = absurd (omega (arith, some))
end_cut n (b ∷ tail) some short =
    end_tail_short n (b ∷ tail) false short
    ∙ ap (λ c. if c then whole else stopped (bad n reason.Extra)) (ne_eqb (length (b ∷ tail)) 0 (λ e. omega (arith, e)))

pub bad_stops : (a b : Option (List ℕ)) (r n : ℕ) (last : List ℕ) (why : LineReason)
    → ReadsLine r a b last (Ok (line_out.Bad why))
    → OfInput (option_map (input_of r) a) (λ i. why_no_line n i ≡ Some (bad n why))
bad_stops a b r n last why h =
    bad_front a b r last why (λ w i. why_no_line n i ≡ Some (bad n w))
    (λ tail some short. ap Some (tail_short n tail false short))
    (λ line lines tail more. stop_long n line lines tail more) h

pub bad_behind : (a b : Option (List ℕ)) (r n : ℕ) (last : List ℕ) (why : LineReason)
    → ReadsLine r a b last (Ok (line_out.Bad why))
    → OfInput (option_map (input_of r) a) (λ i. ending_at n i ≡ stopped (bad n reason.Extra))
bad_behind a b r n last why h =
    bad_front a b r last why (λ w i. ending_at n i ≡ stopped (bad n reason.Extra))
    (λ tail some short. end_cut n tail some short)
    (λ line lines tail more. end_long n line lines tail more) h

pub line_behind : (a b : Option (List ℕ)) (r n : ℕ) (line : List ℕ) → ReadsLine r a b line (Ok line_out.Line)
    → OfInput (option_map (input_of r) a) (λ i. ending_at n i ≡ stopped (bad n reason.Extra))
line_behind None b r n line h = tt
line_behind (Some xs) None r n line h = absurd h.3
line_behind (Some xs) (Some ys) r n line h =
    let r' = r - (length line + 1) in
    let e : r' + (length line + 1) ≡ r = let less = h.2 in omega (arith, less) in
    ap (ending_at n) (line_leads (Some xs) (Some ys) r r' line h e).0

-- ---- the end of the input

nothing : (r : ℕ) → input_of r [] ≡ record { lines = []; tail = []; more = false }
nothing r = input_cut r [] (λ k below is. absurd (omega (arith, below))) (omega arith)

-- ---- past the bytes that are looked at

short_front : (r : ℕ) (xs : List ℕ) → r ≤ 8400000 → length (take r xs) ≤ 8400000
short_front r xs h = let e = length-take r xs in omega (arith, e, h)

pub error_stops : (a b : Option (List ℕ)) (r n : ℕ) (last : List ℕ) (error : TakeError)
    → ReadsLine r a b last (Err error)
    → OfInput (option_map (input_of r) a) (λ i. OfStop (halt_after error) (λ stop. why_no_line n i ≡ Some stop))
error_stops None b r n last error h = tt
error_stops (Some xs) b r n last take_error.Read h = tt
error_stops (Some xs) b r n last take_error.Memory h = tt
error_stops (Some xs) b r n last take_error.TooLong h =
    ap (why_no_line n) (input_past r xs h.feedless h.more)
    ∙ ap Some (tail_short n (take r xs) true (short_front r xs h.short))

pub error_behind : (a b : Option (List ℕ)) (r n : ℕ) (last : List ℕ) (error : TakeError)
    → ReadsLine r a b last (Err error)
    → OfInput (option_map (input_of r) a) (λ i. OfStop (halt_after error) (λ stop. ending_at n i ≡ stopped stop))
error_behind None b r n last error h = tt
error_behind (Some xs) b r n last take_error.Read h = tt
error_behind (Some xs) b r n last take_error.Memory h = tt
error_behind (Some xs) b r n last take_error.TooLong h =
    ap (ending_at n) (input_past r xs h.feedless h.more) ∙ end_tail_short n (take r xs) true (short_front r xs h.short)

pub asked_halts : (pending : List ℕ) (error : TakeError) → AskedForMore pending (Err error)
    → HaltsAsking pending (halt_after error)
asked_halts pending take_error.Read h = h
asked_halts pending take_error.TooLong h = tt
asked_halts pending take_error.Memory h = tt

pub feedless_at_read : (pending : List ℕ) (h : Halt) → HaltsAsking pending h → h ≡ halt.Read → IsFeedless pending
feedless_at_read pending (halt.Bad n why) h is = cc
feedless_at_read pending halt.TooLong h is = cc
feedless_at_read pending halt.Read h is = h
feedless_at_read pending halt.Memory h is = cc
