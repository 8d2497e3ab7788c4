-- The commands of the job that a message holds, entry by entry.
use Rattle.std.proofs.Common.{◌≡◌, ◌+◌, ◌-◌, ◌<◌, ◌≤◌, ℕ, zero, suc, Bool, true, false, List, [], ◌∷◌, ◌++◌, map}
use Rattle.std.proofs.Common.{length}
use Rattle.std.proofs.Common.{take, drop, IfSome, refl, sym, ap, subst, ◌∙◌, arith, append_assoc, get_or}
use Rattle.std.specs.Prelude.{is_some}
use Rattle.std.specs.List.{AllByRecursion}
use Rattle.std.proofs.lemmas.List.{length-append, append-nil}
use Rattle.syncml_types.specs.declared.command.Command.{Command}
use Rattle.syncml_parts.specs.Numbering.{ids_in, with_numbers}
use Rattle.dm_pack.specs.Entries.{Entry}
use Rattle.dm_pack.specs.Measures.{ids_of}
use Rattle.dm_pack.specs.Filling.{numbered, commands_of, CanBeTaken}
use Rattle.dm_service.specs.declared.sent.Sent.{Sent}
use Rattle.dm_service.specs.Service.{Waiting}
use Rattle.dm_service.specs.Sending.{rest_holds, part_holds, goes_out}
use Rattle.dm_waiting.specs.declared.loads.Load.{Load}
use Rattle.dm_waiting.specs.Held.{id_in, held, IsSmall, IsNumbered}
use Rattle.dm_waiting.specs.Inside.{list_of, AreBeside, TellsAt}
use Rattle.dm_waiting.proofs.Beside.{long_of}
use Rattle.dm_waiting.proofs.Held.{held_whole, held_part, held_numbered}

-- ---- CmdIDs

id-first : (n : ℕ) (c : Command) → id_in (with_numbers n c) ≡ n
unfolding with_numbers
id-first n c = grind arith

-- the CmdID of a command at a place of a numbered list
id-at : (n at : ℕ) (cs : List Command) (d : Command) → at < length cs
    → id_in (get_or (numbered n cs) at d) ≡ n + ids_of (take at cs)
id-at n at [] d h = absurd (omega (arith, h))
id-at n zero (c ∷ cs) d h = id-first n c ∙ omega arith
id-at n (suc at) (c ∷ cs) d h =
    let rest = id-at (n + ids_in c) at cs d (omega (arith, h)) in
    omega (arith, rest)

pub front_taken : (at whole : ℕ) (es : List Entry) (more : List Command) → at ≤ whole → whole ≤ length es
    → take at (commands_of (take whole es) ++ more) ≡ commands_of (take at es)
front_taken zero whole es more h k = refl
front_taken (suc at) zero es more h k = absurd (omega (arith, h))
front_taken (suc at) (suc whole) [] more h k = absurd (omega (arith, k))
front_taken (suc at) (suc whole) (e ∷ es) more h k =
    ap (λ (l : List Command). e.command ∷ l) (front_taken at whole es more (omega (arith, h)) (omega (arith, k)))

numbered-long : (n : ℕ) (cs : List Command) → length (numbered n cs) ≡ length cs
numbered-long n [] = refl
numbered-long n (c ∷ cs) = ap suc (numbered-long (n + ids_in c) cs)

whole-long : (whole : ℕ) (es : List Entry) → whole ≤ length es → length (commands_of (take whole es)) ≡ whole
whole-long zero es h = refl
whole-long (suc whole) [] h = absurd (omega (arith, h))
whole-long (suc whole) (e ∷ es) h = ap suc (whole-long whole es (omega (arith, h)))

-- commands that begin with those of whole entries
pub body_long : (whole : ℕ) (es : List Entry) (more cs body : List Command) → whole ≤ length es
    → cs ≡ commands_of (take whole es) ++ more → body ≡ numbered 1 cs → length body ≡ whole + length more
body_long whole es more cs body h is b =
    ap length b ∙ numbered-long 1 cs ∙ ap length is ∙ length-append (commands_of (take whole es)) more
    ∙ ap (λ n. n + length more) (whole-long whole es h)

pub id_is : (whole at : ℕ) (es : List Entry) (more cs body : List Command) (d : Command) → whole ≤ length es
    → cs ≡ commands_of (take whole es) ++ more → body ≡ numbered 1 cs → at ≤ whole → at < length body
    → get_or body at d ≡ d → id_in d ≡ 1 + ids_of (commands_of (take at es))
id_is whole at es more cs body d h is b low there same =
    ap id_in (sym same) ∙ ap (λ (l : List Command). id_in (get_or l at d)) b
    ∙ id-at 1 at cs d (let long = ap length b in let l = numbered-long 1 cs in omega (arith, there, long, l))
    ∙ ap (λ (l : List Command). 1 + ids_of (take at l)) is
    ∙ ap (λ (l : List Command). 1 + ids_of l) (front_taken at whole es more low h)

-- ---- one entry more

-- behind so many entries, what the others hold is put behind what these hold
abbrev pub Rest : ℕ → ℕ → ℕ → List Entry → List Load → ℕ → List Sent
Rest msg whole cut es ls at =
    goes_out msg (1 + ids_of (commands_of (take at es))) (whole - at) cut (drop at (list_of es ls))

ids-more : (at : ℕ) (es : List Entry) (e : Entry) → at < length es → get_or es at e ≡ e
    → 1 + ids_of (commands_of (take (suc at) es)) ≡ 1 + ids_of (commands_of (take at es)) + ids_in e.command
ids-more at [] e h is = absurd (omega (arith, h))
ids-more zero (x ∷ es) e h is =
    let same : ids_in x.command ≡ ids_in e.command = ap (λ (y : Entry). ids_in y.command) is in
    omega (arith, same)
ids-more (suc at) (x ∷ es) e h is = let rest = ids-more at es e (omega (arith, h)) is in omega (arith, rest)

-- what waits at a place
pub record IsAt (at : ℕ) (es : List Entry) (ls : List Load) (l : Load) : Type 0 where
  pub entry : Entry
  pub is : get_or es at entry ≡ entry
  pub begun : l.begun ≡ entry.begun
  pub small : IfSome l.carries IsSmall
  pub behind :
      drop at (list_of es ls) ≡ record { entry = entry; carries = l.carries } ∷ drop (suc at) (list_of es ls)

pub list_at : (at : ℕ) (es : List Entry) (ls : List Load) (l : Load) → AreBeside es ls → at < length es
    → get_or ls at l ≡ l → IsAt at es ls l
list_at at [] ls l h k is = absurd (omega (arith, k))
list_at at (e ∷ es) [] l h k is = absurd h
list_at zero (e ∷ es) (m ∷ ls) l h k is = record {
  entry = e;
  is = refl;
  begun = subst (λ (x : Load). x.begun ≡ e.begun) is h.0;
  small = subst (λ (x : Load). IfSome x.carries IsSmall) is h.1;
  behind = ap (λ (x : Load). record { entry = e; carries = x.carries } ∷ list_of es ls) is;
}
list_at (suc at) (e ∷ es) (m ∷ ls) l h k is =
    let rest = list_at at es ls l h.2 (omega (arith, k)) is in
    record { entry = rest.entry; is = rest.is; begun = rest.begun; small = rest.small; behind = rest.behind }

out-next : (msg command n left cut : ℕ) (w : Waiting) (ws : List Waiting) → n ≡ suc left
    → goes_out msg command n cut (w ∷ ws)
    ≡ rest_holds msg command w.entry.begun w.carries ++ goes_out msg (command + ids_in w.entry.command) left cut ws
out-next msg command n left cut w ws e = ap (λ k. goes_out msg command k cut (w ∷ ws)) e

-- one whole entry more
pub rest_next : (msg whole cut at id : ℕ) (es : List Entry) (ls : List Load) (l : Load) → AreBeside es ls
    → whole ≤ length es → at < whole → get_or ls at l ≡ l → id ≡ 1 + ids_of (commands_of (take at es))
    → Rest msg whole cut es ls at ≡ held false msg id l.begun l.carries ++ Rest msg whole cut es ls (suc at)
rest_next msg whole cut at id es ls l h there k is named =
    let x = list_at at es ls l h (omega (arith, k, there)) is in
    let command = 1 + ids_of (commands_of (take at es)) in
    ap (λ ws. goes_out msg command (whole - at) cut ws) x.behind
    ∙ out-next msg command (whole - at) (whole - suc at) cut (record { entry = x.entry; carries = l.carries })
    (drop (suc at) (list_of es ls)) (omega (arith, k))
    ∙ ap
    (λ n. rest_holds msg command x.entry.begun l.carries
    ++ goes_out msg n (whole - suc at) cut (drop (suc at) (list_of es ls)))
    (sym (ids-more at es x.entry (omega (arith, k, there)) x.is))
    ∙ ap (λ (b : Bool). rest_holds msg command b l.carries ++ Rest msg whole cut es ls (suc at)) (sym x.begun)
    ∙ ap (λ n. rest_holds msg n l.begun l.carries ++ Rest msg whole cut es ls (suc at)) (sym named)
    ∙ ap (λ hs. hs ++ Rest msg whole cut es ls (suc at)) (sym (held_whole msg id l.begun l.carries))

-- behind all whole ones
pub rest_none : (msg whole cut : ℕ) (es : List Entry) (ls : List Load) → cut ≡ 0 → Rest msg whole cut es ls whole ≡ []
rest_none msg whole cut es ls none =
    ap (λ n. goes_out msg (1 + ids_of (commands_of (take whole es))) n cut (drop whole (list_of es ls)))
    (omega arith)
    ∙ ap (λ n. goes_out msg (1 + ids_of (commands_of (take whole es))) 0 n (drop whole (list_of es ls))) none
    ∙ nothing (drop whole (list_of es ls))
  where
    nothing : (ws : List Waiting) → goes_out msg (1 + ids_of (commands_of (take whole es))) 0 0 ws ≡ []
    nothing [] = refl
    nothing (w ∷ ws) = refl

part-of : (msg command cut : ℕ) (w : Waiting) (ws : List Waiting) → 0 < cut
    → goes_out msg command 0 cut (w ∷ ws) ≡ part_holds (rest_holds msg command w.entry.begun w.carries)
part-of msg command zero w ws h = absurd (omega (arith, h))
part-of msg command (suc n) w ws h = refl

-- and a part of the next one
pub rest_part : (msg whole cut id : ℕ) (es : List Entry) (ls : List Load) (l : Load) → AreBeside es ls
    → whole < length es → 0 < cut → get_or ls whole l ≡ l → id ≡ 1 + ids_of (commands_of (take whole es))
    → Rest msg whole cut es ls whole ≡ held true msg id l.begun l.carries
rest_part msg whole cut id es ls l h there some is named =
    let x = list_at whole es ls l h there is in
    let command = 1 + ids_of (commands_of (take whole es)) in
    let w : Waiting = record { entry = x.entry; carries = l.carries } in
    let none : whole - whole ≡ 0 = omega arith in
    ap (λ ws. goes_out msg command (whole - whole) cut ws) x.behind
    ∙ ap (λ n. goes_out msg command n cut (w ∷ drop (suc whole) (list_of es ls))) none
    ∙ part-of msg command cut w (drop (suc whole) (list_of es ls)) some
    ∙ ap (λ (b : Bool). part_holds (rest_holds msg command b l.carries)) (sym x.begun)
    ∙ ap (λ n. part_holds (rest_holds msg n l.begun l.carries)) (sym named)
    ∙ sym (held_part msg id l.begun l.carries)

-- from the first on
pub rest_all : (msg whole cut : ℕ) (es : List Entry) (ls : List Load)
    → Rest msg whole cut es ls 0 ≡ goes_out msg 1 whole cut (list_of es ls)
rest_all msg whole cut es ls =
    let same : whole - 0 ≡ whole = omega arith in
    ap (λ n. goes_out msg 1 n cut (list_of es ls)) same

-- ---- put behind what was sent

pub one_held : (msg whole cut at id : ℕ) (es : List Entry) (ls : List Load) (l : Load) (first out new : List Sent)
    → AreBeside es ls → whole ≤ length es → at < whole → get_or ls at l ≡ l
    → id ≡ 1 + ids_of (commands_of (take at es)) → new ≡ out ++ held false msg id l.begun l.carries
    → out ++ Rest msg whole cut es ls at ≡ first ++ Rest msg whole cut es ls 0
    → new ++ Rest msg whole cut es ls (at + 1) ≡ first ++ Rest msg whole cut es ls 0
one_held msg whole cut at id es ls l first out new h there k is named made before =
    let next : at + 1 ≡ suc at = omega arith in
    ap (λ n. new ++ Rest msg whole cut es ls n) next
    ∙ ap (λ (x : List Sent). x ++ Rest msg whole cut es ls (suc at)) made
    ∙ append_assoc out (held false msg id l.begun l.carries) (Rest msg whole cut es ls (suc at))
    ∙ ap (λ (x : List Sent). out ++ x) (sym (rest_next msg whole cut at id es ls l h there k is named))
    ∙ before

all-of : (msg whole cut : ℕ) (es : List Entry) (ls : List Load) (ws : List Waiting) (first : List Sent)
    → list_of es ls ≡ ws → first ++ Rest msg whole cut es ls 0 ≡ first ++ goes_out msg 1 whole cut ws
all-of msg whole cut es ls ws first is =
    ap (λ (x : List Sent). first ++ x) (rest_all msg whole cut es ls ∙ ap (goes_out msg 1 whole cut) is)

pub part_held : (msg whole cut at id : ℕ) (es : List Entry) (ls : List Load) (ws : List Waiting) (l : Load)
    (first out new : List Sent)
    → AreBeside es ls → list_of es ls ≡ ws → at ≡ whole → whole < length es → 0 < cut → get_or ls whole l ≡ l
    → id ≡ 1 + ids_of (commands_of (take whole es)) → new ≡ out ++ held true msg id l.begun l.carries
    → out ++ Rest msg whole cut es ls at ≡ first ++ Rest msg whole cut es ls 0
    → new ≡ first ++ goes_out msg 1 whole cut ws
part_held msg whole cut at id es ls ws l first out new h seen end there some is named made before =
    made ∙ ap (λ (x : List Sent). out ++ x) (sym (rest_part msg whole cut id es ls l h there some is named))
    ∙ ap (λ n. out ++ Rest msg whole cut es ls n) (sym end) ∙ before ∙ all-of msg whole cut es ls ws first seen

pub none_held : (msg whole cut at : ℕ) (es : List Entry) (ls : List Load) (ws : List Waiting) (first out : List Sent)
    → list_of es ls ≡ ws → at ≡ whole → cut ≡ 0
    → out ++ Rest msg whole cut es ls at ≡ first ++ Rest msg whole cut es ls 0
    → out ≡ first ++ goes_out msg 1 whole cut ws
none_held msg whole cut at es ls ws first out seen end none before =
    sym (append-nil out) ∙ ap (λ (x : List Sent). out ++ x) (sym (rest_none msg whole cut es ls none))
    ∙ ap (λ n. out ++ Rest msg whole cut es ls n) (sym end) ∙ before ∙ all-of msg whole cut es ls ws first seen

-- what goes out is numbered
all-both : (xs ys : List Sent) → AllByRecursion IsNumbered xs → AllByRecursion IsNumbered ys
    → AllByRecursion IsNumbered (xs ++ ys)
all-both [] ys h k = k
all-both (x ∷ xs) ys h k = (h.0, all-both xs ys h.1 k)

pub out_numbered : (msg command whole cut : ℕ) (es : List Entry) (ls : List Load) → AreBeside es ls
    → AllByRecursion IsNumbered (goes_out msg command whole cut (list_of es ls))
out_numbered msg command zero zero [] ls h = tt
out_numbered msg command zero (suc n) [] ls h = tt
out_numbered msg command (suc whole) cut [] ls h = tt
out_numbered msg command whole cut (e ∷ es) [] h = absurd h
out_numbered msg command zero zero (e ∷ es) (l ∷ ls) h = tt
out_numbered msg command zero (suc n) (e ∷ es) (l ∷ ls) h =
    subst (AllByRecursion IsNumbered) (held_part msg command e.begun l.carries)
    (held_numbered true msg command e.begun l.carries h.1)
out_numbered msg command (suc whole) cut (e ∷ es) (l ∷ ls) h =
    all-both (rest_holds msg command e.begun l.carries)
    (goes_out msg (command + ids_in e.command) whole cut (list_of es ls))
    (subst (AllByRecursion IsNumbered) (held_whole msg command e.begun l.carries)
    (held_numbered false msg command e.begun l.carries h.1))
    (out_numbered msg (command + ids_in e.command) whole cut es ls h.2)

-- whether the entry at a place is of the job
pub told_at : (at : ℕ) (es : List Entry) (ls : List Load) (ws : List Waiting) (l : Load) (told : Bool)
    → AreBeside es ls → list_of es ls ≡ ws → at < length ws → l ≡ get_or ls at l → told ≡ is_some l.carries
    → TellsAt at ws told
told_at at es ls ws l told h is low same job =
    let long = long_of es ls ws h is in
    let x = list_at at es ls l h (omega (arith, low, long)) (sym same) in
    let w : Waiting = record { entry = x.entry; carries = l.carries } in
    let next : suc at ≡ at + 1 = omega arith in
    record {
      entry = w;
      behind = ap (drop at) (sym is) ∙ x.behind ∙ ap (λ n. w ∷ drop n (list_of es ls)) next
          ∙ ap (λ (v : List Waiting). w ∷ drop (at + 1) v) is;
      is = sym job;
    }

entries-long : (ws : List Waiting) → length (map (λ (w : Waiting). w.entry) ws) ≡ length ws
entries-long [] = refl
entries-long (w ∷ ws) = ap suc (entries-long ws)

pub whole_low : (ws : List Waiting) (whole n : ℕ) → CanBeTaken (map (λ (w : Waiting). w.entry) ws) whole n
    → whole ≤ length ws
whole_low ws whole n h = let low = h.whole_there in let same = entries-long ws in omega (arith, low, same)
