-- A message that is filled from what waits.
use Rattle.std.proofs.Common.{◌≡◌, ◌≤◌, ◌<◌, ◌+◌, ◌++◌, ℕ, zero, suc, Bool, List, [], ◌∷◌, length, take, drop, refl}
use Rattle.std.proofs.Common.{sym, ap}
use Rattle.std.proofs.Common.{subst, ◌∙◌, arith, append_assoc, get_or}
use Rattle.std.specs.List.{AllByRecursion}
use Rattle.std.proofs.lemmas.List.{length-append, length-drop}
use Rattle.syncml_types.specs.declared.values.Header.{Header}
use Rattle.syncml_types.specs.declared.command.Command.{Command}
use Rattle.syncml_types.specs.Message.{Parts}
use Rattle.syncml_types.specs.Canonical.{canonical}
use Rattle.dm_pack.specs.declared.filled.Filled.{Filled}
use Rattle.dm_pack.specs.Entries.{Entry, IsReady}
use Rattle.dm_pack.specs.Filling.{numbered, commands_of, taken, cut, next_part, next_rest, tail_of, tail_commands, fill}
use Rattle.dm_pack.specs.Filling.{HasMore, CanBeTaken}
use Rattle.dm_pack.specs.Measures.{ids_of}
use Rattle.dm_service.specs.Service.{Waiting}
use Rattle.dm_service.specs.Ready.{AreReadyWaiting}
use Rattle.dm_waiting.specs.declared.loads.Load.{Load}
use Rattle.dm_waiting.specs.Held.{IsIdAt}
use Rattle.dm_waiting.specs.Inside.{list_of, AreBeside, IsMessageOf}
use Rattle.dm_waiting.proofs.Low.{ids_low}
use Rattle.dm_waiting.proofs.Out.{body_long, id_is, front_taken}

all-entries : (es : List Entry) (ls : List Load) → AreBeside es ls → AreReadyWaiting (list_of es ls)
    → AllByRecursion IsReady es
all-entries [] ls h k = tt
all-entries (e ∷ es) [] h k = absurd h
all-entries (e ∷ es) (l ∷ ls) h k = (k.0, all-entries es ls h.2 k.1)

pub ready_entries : (es : List Entry) (ls : List Load) (ws : List Waiting) → AreBeside es ls → list_of es ls ≡ ws
    → AreReadyWaiting ws → AllByRecursion IsReady es
ready_entries es ls ws h is ready = all-entries es ls h (subst AreReadyWaiting (sym is) ready)

pub is_of : (es : List Entry) (h : Header) (room : ℕ) (heard : Bool) (f : Filled)
    → f.message ≡ (fill es h room heard).message → f.bytes ≡ canonical (fill es h room heard).message
    → f.whole ≡ (fill es h room heard).whole → f.cut ≡ (fill es h room heard).cut → CanBeTaken es f.whole f.cut
    → length f.bytes ≤ room → room ≤ 65536 → IsMessageOf es f
unfolding fill
is_of es h room heard f m b w n t low most =
    let whole = taken h room [] es in
    let bytes = cut h room (commands_of (take whole es)) (drop whole es) in
    let tail = tail_commands (tail_of (next_rest bytes (drop whole es)) heard) in
    let long = ap length b in
    let same = ap (λ (p : Parts). length (canonical p)) m in
    record {
      behind = tail;
      body =
          ap (λ (p : Parts). p.body) m
          ∙ ap (numbered 1) (append_assoc (commands_of (take whole es)) (next_part bytes (drop whole es)) tail)
          ∙ ap (λ x. numbered 1 (commands_of (take x es) ++ (next_part bytes (drop x es) ++ tail))) (sym w)
          ∙ ap (λ x. numbered 1 (commands_of (take f.whole es) ++ (next_part x (drop f.whole es) ++ tail))) (sym n);
      taken = t;
      short = omega (arith, long, same, low, most);
    }

-- the commands that it was numbered from
abbrev pub commands_in : (es : List Entry) (f : Filled) → IsMessageOf es f → List Command
commands_in es f of = commands_of (take f.whole es) ++ (next_part f.cut (drop f.whole es) ++ of.behind)

pub whole_there : (es : List Entry) (f : Filled) (at : ℕ) → IsMessageOf es f → at < f.whole → at < length f.message.body
whole_there es f at of h =
    let long = body_long f.whole es (next_part f.cut (drop f.whole es) ++ of.behind)
    (commands_in es f of) f.message.body
    of.taken.whole_there refl of.body in
    omega (arith, h, long)

pub queue_there : (es : List Entry) (f : Filled) → IsMessageOf es f → 0 < f.cut → f.whole < length es
queue_there es f of some =
    let long = length-drop f.whole es in
    let low = has-more f.cut (drop f.whole es) of.taken.part_there some in
    omega (arith, long, low)
  where
    has-more : (n : ℕ) (xs : List Entry) → HasMore n xs → 0 < n → 0 < length xs
    has-more n [] h k = absurd (omega (arith, h, k))
    has-more n (x ∷ xs) h k = omega arith

one-part : (n : ℕ) (xs : List Entry) → 0 < n → 0 < length xs → length (next_part n xs) ≡ 1
one-part zero xs h k = absurd (omega (arith, h))
one-part (suc n) [] h k = absurd (omega (arith, k))
one-part (suc n) (x ∷ xs) h k = refl

pub part_there : (es : List Entry) (f : Filled) → IsMessageOf es f → 0 < f.cut → f.whole < length f.message.body
part_there es f of some =
    let long = body_long f.whole es (next_part f.cut (drop f.whole es) ++ of.behind)
    (commands_in es f of) f.message.body
    of.taken.whole_there refl of.body in
    let more = length-append (next_part f.cut (drop f.whole es)) of.behind in
    let left = length-drop f.whole es in
    let there = queue_there es f of some in
    let one = one-part f.cut (drop f.whole es) some (omega (arith, left, there)) in
    omega (arith, long, more, one)

pub id_there : (es : List Entry) (f : Filled) (at id : ℕ) (body : List Command) → IsMessageOf es f → at ≤ f.whole
    → at < length f.message.body → body ≡ f.message.body → IsIdAt body at id
    → id ≡ 1 + ids_of (commands_of (take at es))
id_there es f at id body of h there same k =
    k.is
    ∙ id_is f.whole at es (next_part f.cut (drop f.whole es) ++ of.behind)
    (commands_in es f of) f.message.body k.command
    of.taken.whole_there refl of.body h there
    (sym (k.there ∙ ap (λ (b : List Command). get_or b at k.command) same))

pub id_small : (es : List Entry) (f : Filled) (at : ℕ) → IsMessageOf es f → at ≤ f.whole
    → 1 + ids_of (commands_of (take at es)) ≤ 70000
id_small es f at of h =
    let low = ids_low f.message (commands_in es f of) at of.body of.short in
    let more = next_part f.cut (drop f.whole es) ++ of.behind in
    let front = ap ids_of (front_taken at f.whole es more h of.taken.whole_there) in
    omega (arith, low, front)
