-- The Results that a client has still to send, and those on their way, are the pieces of values that it found, in
-- order.
use Rattle.std.proofs.Common.{zero, suc, ◌≡◌, ◌+◌, ℕ, Bool, true, false, cond, List, [], ◌∷◌, ◌++◌, map, Option, None}
use Rattle.std.proofs.Common.{Some, IfSome, refl, sym, ◌∙◌, ap, subst, take, drop, append_assoc}
use Rattle.std.specs.Prelude.{option_and_then}
use Rattle.std.specs.List.{Contains}
use Rattle.std.proofs.lemmas.List.{append-nil, take-append-drop}
use Rattle.std.proofs.lemmas.List.Elements.{Contains-append_left}
use Rattle.syncml_types.specs.declared.values.Header.{Header}
use Rattle.syncml_types.specs.declared.values.Meta.{Meta}
use Rattle.syncml_types.specs.declared.values.Item.{Item}
use Rattle.syncml_types.specs.declared.command.Command.{Command}
use Rattle.syncml_types.specs.declared.command.Command.TheVariants as command
use Rattle.syncml_parts.specs.Packing.{bytes_in, only_changed}
use Rattle.syncml_parts.specs.Numbering.{ids_in, with_numbers}
use Rattle.dm_commands.specs.declared.outcome.Found.{Found}
use Rattle.dm_atomic.specs.declared.tasks.Post.{Post}
use Rattle.dm_atomic.specs.Made.{Made, Status, Result, Broken, told, source_item, found_meta}
use Rattle.dm_pack.specs.declared.filled.Tail.{Tail}
use Rattle.dm_pack.specs.declared.filled.Tail.TheVariants as tail
use Rattle.dm_pack.specs.Entries.{Entry, whole_entry, part_of, rest_of, part_item, rest_item}
use Rattle.dm_pack.specs.Filling.{numbered, commands_of, taken, cut, next_part, next_rest, tail_of, tail_commands, fill}
use Rattle.dm_service.proofs.Codes.{first_in, later_in}
use Rattle.dm_world.specs.World.{InSession}
use Rattle.dm_world.proofs.Lists.{either, Each}
use Rattle.dm_world.proofs.SaysMade.{AreMade, sized-format, sized-media}

-- ---- a value on its way

-- found for what stood in a message under these two numbers, and what has gone out of it
pub record Going : Type 0 where
  pub msg : ℕ
  pub cmd : ℕ
  pub found : Found
  pub got : List ℕ

abbrev pub with_bytes : Going → List ℕ → Going
with_bytes x bytes = record x { got = x.got ++ bytes }

-- it was found in this session
pub record WasFoundAs (made : List (InSession Made)) (n : ℕ) (x : Going) : Type 0 where
  pub post : Post
  pub within : Contains made (record { session = n; what = Result post x.found })
  pub msg_is : post.msg ≡ x.msg
  pub command_is : post.command ≡ x.cmd

-- another value begins, or the one that has begun goes on
abbrev pub GoesOn : Option Going → Going → Type 0
GoesOn None x = x.got ≡ []
GoesOn (Some y) x = x ≡ y

-- an Item tells of a value
pub record TellsOf (found : Found) (i : Item) : Type 0 where
  pub source : i.source ≡ Some (record { uri = found.uri; name = None })
  pub format : option_and_then (λ (m : Meta). m.format) i.meta ≡ Some found.format
  pub media : option_and_then (λ (m : Meta). m.media) i.meta ≡ found.media

-- Results with these numbers, this Meta and these Items are the next piece of a value
pub record IsPiece (made : List (InSession Made)) (n : ℕ) (o : Option Going) (msg : Option ℕ) (cmd : ℕ)
    (meta : Option Meta) (items : List Item) : Type 0 where
  pub value : Going
  pub goes_on : GoesOn o value
  pub was_found : WasFoundAs made n value
  pub msg_is : msg ≡ Some value.msg
  pub command_is : cmd ≡ value.cmd
  pub meta_is : meta ≡ None
  pub item : Item
  pub only : items ≡ item ∷ []
  pub tells : TellsOf value.found item
  pub later : List ℕ
  pub bytes : value.got ++ (bytes_in item.value ++ later) ≡ bytes_in value.found.value
  pub last : item.more ≡ false → later ≡ []

-- the value that has begun behind a piece
abbrev pub behind : Going → Item → Option Going
behind x i = cond i.more (Some (with_bytes x (bytes_in i.value))) None

abbrev pub IsNothing : Option Going → Type 0
IsNothing None = Unit {0}
IsNothing (Some x) = ⊥

-- all Results among these commands, in order, where this value has begun before them
abbrev pub Flow : List (InSession Made) → ℕ → Option Going → List Command → Type 0
Flow made n o [] = IsNothing o
Flow made n o (command.Results r ∷ cs) =
    (p : IsPiece made n o r.msg_ref r.cmd_ref r.meta r.items) × Flow made n (behind p.value p.item) cs
Flow made n o (command.Plain p ∷ cs) = Flow made n o cs
Flow made n o (command.Alert a ∷ cs) = Flow made n o cs
Flow made n o (command.Atomic b ∷ cs) = Flow made n o cs
Flow made n o (command.Sequence b ∷ cs) = Flow made n o cs
Flow made n o (command.Status s ∷ cs) = Flow made n o cs

-- ---- one command and more

abbrev pub FlowsOn : List (InSession Made) → ℕ → List Command → List Command → Type 0
FlowsOn made n cs ds = (o : Option Going) → Flow made n o cs → Flow made n o ds

pub flow-cons : (made : List (InSession Made)) (n : ℕ) (c : Command) (cs ds : List Command) → FlowsOn made n cs ds
    → FlowsOn made n (c ∷ cs) (c ∷ ds)
flow-cons made n (command.Results r) cs ds f o h = (h.0, f (behind h.0.value h.0.item) h.1)
flow-cons made n (command.Plain p) cs ds f o h = f o h
flow-cons made n (command.Alert a) cs ds f o h = f o h
flow-cons made n (command.Atomic b) cs ds f o h = f o h
flow-cons made n (command.Sequence b) cs ds f o h = f o h
flow-cons made n (command.Status s) cs ds f o h = f o h

-- CmdIDs are nothing to it
flow-number : (made : List (InSession Made)) (n k : ℕ) (c : Command) (cs ds : List Command) → FlowsOn made n cs ds
    → FlowsOn made n (c ∷ cs) (with_numbers k c ∷ ds)
unfolding with_numbers
flow-number made n k (command.Results r) cs ds f o h = (h.0, f (behind h.0.value h.0.item) h.1)
flow-number made n k (command.Plain p) cs ds f o h = f o h
flow-number made n k (command.Alert a) cs ds f o h = f o h
flow-number made n k (command.Atomic b) cs ds f o h = f o h
flow-number made n k (command.Sequence b) cs ds f o h = f o h
flow-number made n k (command.Status s) cs ds f o h = f o h

flow-numbers : (made : List (InSession Made)) (n k : ℕ) (cs ds : List Command)
    → FlowsOn made n (cs ++ ds) (numbered k cs ++ ds)
flow-numbers made n k [] ds o h = h
flow-numbers made n k (c ∷ cs) ds o h =
    flow-number made n k c (cs ++ ds) (numbered (k + ids_in c) cs ++ ds) (flow-numbers made n (k + ids_in c) cs ds) o h

-- ---- commands without Results

abbrev pub IsSilent : Command → Type 0
IsSilent (command.Results r) = ⊥
IsSilent (command.Plain p) = Unit {0}
IsSilent (command.Alert a) = Unit {0}
IsSilent (command.Atomic b) = Unit {0}
IsSilent (command.Sequence b) = Unit {0}
IsSilent (command.Status s) = Unit {0}

pub silent-one : (made : List (InSession Made)) (n : ℕ) (c : Command) (cs : List Command) → IsSilent c
    → FlowsOn made n cs (c ∷ cs)
silent-one made n (command.Results r) cs s o h = absurd s
silent-one made n (command.Plain p) cs s o h = h
silent-one made n (command.Alert a) cs s o h = h
silent-one made n (command.Atomic b) cs s o h = h
silent-one made n (command.Sequence b) cs s o h = h
silent-one made n (command.Status x) cs s o h = h

pub silent-front : (made : List (InSession Made)) (n : ℕ) (cs ds : List Command) → Each IsSilent cs
    → FlowsOn made n ds (cs ++ ds)
silent-front made n [] ds s o h = h
silent-front made n (c ∷ cs) ds s o h =
    silent-one made n c (cs ++ ds) s.0 o (silent-front made n cs ds s.1 o h)

pub silent-off : (made : List (InSession Made)) (n : ℕ) (c : Command) (cs : List Command) → IsSilent c
    → FlowsOn made n (c ∷ cs) cs
silent-off made n (command.Results r) cs s o h = absurd s
silent-off made n (command.Plain p) cs s o h = h
silent-off made n (command.Alert a) cs s o h = h
silent-off made n (command.Atomic b) cs s o h = h
silent-off made n (command.Sequence b) cs s o h = h
silent-off made n (command.Status x) cs s o h = h

pub silent-past : (made : List (InSession Made)) (n : ℕ) (cs ds : List Command) → Each IsSilent cs
    → FlowsOn made n (cs ++ ds) ds
silent-past made n [] ds s o h = h
silent-past made n (c ∷ cs) ds s o h =
    silent-past made n cs ds s.1 o (silent-off made n c (cs ++ ds) s.0 o h)

-- in between
pub silent-within : (made : List (InSession Made)) (n : ℕ) (cs ms ds : List Command) → Each IsSilent ms
    → FlowsOn made n (cs ++ ds) ((cs ++ ms) ++ ds)
silent-within made n [] ms ds s o h = silent-front made n ms ds s o h
silent-within made n (c ∷ cs) ms ds s o h =
    flow-cons made n c (cs ++ ds) ((cs ++ ms) ++ ds) (silent-within made n cs ms ds s) o h

pub silent-without : (made : List (InSession Made)) (n : ℕ) (cs ms ds : List Command) → Each IsSilent ms
    → FlowsOn made n (cs ++ (ms ++ ds)) (cs ++ ds)
silent-without made n [] ms ds s o h = silent-past made n ms ds s o h
silent-without made n (c ∷ cs) ms ds s o h =
    flow-cons made n c (cs ++ (ms ++ ds)) (cs ++ ds) (silent-without made n cs ms ds s) o h

-- others behind them, where nothing has begun at their end
pub flow-append : (made : List (InSession Made)) (n : ℕ) (cs ds : List Command) → Flow made n None ds
    → FlowsOn made n cs (cs ++ ds)
flow-append made n [] ds k None h = k
flow-append made n [] ds k (Some x) h = absurd h
flow-append made n (c ∷ cs) ds k o h =
    flow-cons made n c cs (cs ++ ds) (flow-append made n cs ds k) o h

-- ---- a value cut in two

part-tells : (found : Found) (begun : Bool) (k : ℕ) (i : Item) → TellsOf found i → TellsOf found (part_item begun k i)
part-tells found true k i h = record { source = h.source; format = h.format; media = h.media }
part-tells found false k i h = record {
  source = h.source;
  format = sized-format _ i.meta ∙ h.format;
  media = sized-media _ i.meta ∙ h.media;
}

-- both parts of Results
flow-cut : (made : List (InSession Made)) (n : ℕ) (c : Command) (b : Bool) (k : ℕ) (cs : List Command)
    → FlowsOn made n (c ∷ cs)
    (part_of (record { command = c; begun = b }) k ∷ (rest_of (record { command = c; begun = b }) k).command ∷ cs)
unfolding part_of rest_of
flow-cut made n (command.Plain p) b k cs o h = h
flow-cut made n (command.Alert a) b k cs o h = h
flow-cut made n (command.Atomic x) b k cs o h = h
flow-cut made n (command.Sequence x) b k cs o h = h
flow-cut made n (command.Status s) b k cs o h = h
flow-cut made n (command.Results r) b k cs o h =
    let p = h.0 in
    let all = bytes_in p.item.value in
    let next = with_bytes p.value (take k all) in (
      record {
        value = p.value;
        goes_on = p.goes_on;
        was_found = p.was_found;
        msg_is = p.msg_is;
        command_is = p.command_is;
        meta_is = p.meta_is;
        item = part_item b k p.item;
        only = ap (only_changed (part_item b k)) p.only;
        tells = part-tells p.value.found b k p.item p.tells;
        later = drop k all ++ p.later;
        bytes = ap (λ l. p.value.got ++ l) (sym (append_assoc (take k all) (drop k all) p.later))
            ∙ ap (λ l. p.value.got ++ (l ++ p.later)) (take-append-drop k all) ∙ p.bytes;
        last = λ e. absurd (cc);
      },
      (
        record {
          value = next;
          goes_on = refl;
          was_found = record {
            post = p.was_found.post;
            within = p.was_found.within;
            msg_is = p.was_found.msg_is;
            command_is = p.was_found.command_is;
          };
          msg_is = p.msg_is;
          command_is = p.command_is;
          meta_is = p.meta_is;
          item = rest_item k p.item;
          only = ap (only_changed (rest_item k)) p.only;
          tells = record { source = p.tells.source; format = p.tells.format; media = p.tells.media };
          later = p.later;
          bytes = append_assoc p.value.got (take k all) (drop k all ++ p.later)
              ∙ ap (λ l. p.value.got ++ l) (sym (append_assoc (take k all) (drop k all) p.later))
              ∙ ap (λ l. p.value.got ++ (l ++ p.later)) (take-append-drop k all) ∙ p.bytes;
          last = p.last;
        },
        subst (λ g. Flow made n (cond p.item.more (Some (record p.value { got = g })) None) cs)
            (sym (append_assoc p.value.got (take k all) (drop k all)
            ∙ ap (λ l. p.value.got ++ l) (take-append-drop k all))) h.1,
      ),
    )

-- ---- a message, and what it leaves

flow-packs : (made : List (InSession Made)) (n whole k : ℕ) (es : List Entry)
    → FlowsOn made n (commands_of es)
    ((commands_of (take whole es) ++ next_part k (drop whole es)) ++ commands_of (next_rest k (drop whole es)))
flow-packs made n zero zero es o h = h
flow-packs made n zero (suc k) [] o h = h
flow-packs made n zero (suc k) (e ∷ es) o h = flow-cut made n e.command e.begun (suc k) (commands_of es) o h
flow-packs made n (suc whole) zero [] o h = h
flow-packs made n (suc whole) (suc k) [] o h = h
flow-packs made n (suc whole) k (e ∷ es) o h =
    flow-cons made n e.command (commands_of es)
    ((commands_of (take whole es) ++ next_part k (drop whole es)) ++ commands_of (next_rest k (drop whole es)))
    (flow-packs made n whole k es) o h

tail-silent : (t : Tail) → Each IsSilent (tail_commands t)
tail-silent tail.Final = tt
tail-silent tail.NextMessage = (tt, tt)
tail-silent tail.Nothing = tt

pub flow-fill : (made : List (InSession Made)) (n : ℕ) (es : List Entry) (h : Header) (room : ℕ) (heard : Bool)
    → FlowsOn made n (commands_of es)
    ((fill es h room heard).message.body ++ commands_of (fill es h room heard).left)
unfolding fill
flow-fill made n es h room heard o f =
    let whole = taken h room [] es in
    let before = commands_of (take whole es) in
    let k = cut h room before (drop whole es) in
    let left = next_rest k (drop whole es) in
    let part = next_part k (drop whole es) in
    let end = tail_commands (tail_of left heard) in
    flow-numbers made n 1 (before ++ part ++ end) (commands_of left) o
    (silent-within made n (before ++ part) end (commands_of left) (tail-silent (tail_of left heard)) o
    (flow-packs made n whole k es o f))

-- ---- more is made

pub later-found : (made more : List (InSession Made)) (n : ℕ) (x : Going) → WasFoundAs made n x
    → WasFoundAs (made ++ more) n x
later-found made more n x h = record {
  post = h.post;
  within = Contains-append_left made more _ h.within;
  msg_is = h.msg_is;
  command_is = h.command_is;
}

pub flow-later : (made more : List (InSession Made)) (n : ℕ) (o : Option Going) (cs : List Command)
    → Flow made n o cs
    → Flow (made ++ more) n o cs
flow-later made more n o [] h = h
flow-later made more n o (command.Results r ∷ cs) h =
    let p = h.0 in (
      record {
        value = p.value;
        goes_on = p.goes_on;
        was_found = later-found made more n p.value p.was_found;
        msg_is = p.msg_is;
        command_is = p.command_is;
        meta_is = p.meta_is;
        item = p.item;
        only = p.only;
        tells = p.tells;
        later = p.later;
        bytes = p.bytes;
        last = p.last;
      },
      flow-later made more n (behind p.value p.item) cs h.1,
    )
flow-later made more n o (command.Plain p ∷ cs) h = flow-later made more n o cs h
flow-later made more n o (command.Alert a ∷ cs) h = flow-later made more n o cs h
flow-later made more n o (command.Atomic b ∷ cs) h = flow-later made more n o cs h
flow-later made more n o (command.Sequence b ∷ cs) h = flow-later made more n o cs h
flow-later made more n o (command.Status s ∷ cs) h = flow-later made more n o cs h

-- what is told of what was made
pub told-flow : (all : List (InSession Made)) (n : ℕ) (ms : List Made) → AreMade all n ms → Flow all n None (told ms)
told-flow all n [] f = tt
told-flow all n (Status post code ∷ ms) f =
    let rest = told-flow all n ms (λ x h. f x (later_in x (Status post code) ms h)) in
    either (Flow all n None) post.quiet rest rest
told-flow all n (Result post found ∷ ms) f = (
  record {
    value = record { msg = post.msg; cmd = post.command; found = found; got = [] };
    goes_on = refl;
    was_found = record {
      post = post;
      within = f (Result post found) (first_in (Result post found) ms);
      msg_is = refl;
      command_is = refl;
    };
    msg_is = refl;
    command_is = refl;
    meta_is = refl;
    item = source_item found.uri (Some (found_meta found)) found.value;
    only = refl;
    tells = record { source = refl; format = refl; media = refl };
    later = [];
    bytes = append-nil (bytes_in found.value);
    last = λ e. refl;
  },
  told-flow all n ms (λ x h. f x (later_in x (Result post found) ms h)),
)
told-flow all n (Broken target ∷ ms) f = told-flow all n ms (λ x h. f x (later_in x (Broken target) ms h))

pub fresh-commands : (cs : List Command) → commands_of (map whole_entry cs) ≡ cs
fresh-commands [] = refl
fresh-commands (c ∷ cs) = ap (λ l. c ∷ l) (fresh-commands cs)

-- ---- where nothing was found nothing is told

-- no value was found in this session
abbrev pub FoundNone : List (InSession Made) → ℕ → Type 0
FoundNone made n = (post : Post) (found : Found) → Contains made (record { session = n; what = Result post found }) → ⊥

pub none-flows : (made : List (InSession Made)) (n : ℕ) (o : Option Going) (cs : List Command) → FoundNone made n
    → Flow made n o cs
    → IsNothing o × Each IsSilent cs
none-flows made n o [] none h = (h, tt)
none-flows made n o (command.Results r ∷ cs) none h =
    absurd (none h.0.was_found.post h.0.value.found h.0.was_found.within)
none-flows made n o (command.Plain p ∷ cs) none h =
    let x = none-flows made n o cs none h in (x.0, (tt, x.1))
none-flows made n o (command.Alert a ∷ cs) none h =
    let x = none-flows made n o cs none h in (x.0, (tt, x.1))
none-flows made n o (command.Atomic b ∷ cs) none h =
    let x = none-flows made n o cs none h in (x.0, (tt, x.1))
none-flows made n o (command.Sequence b ∷ cs) none h =
    let x = none-flows made n o cs none h in (x.0, (tt, x.1))
none-flows made n o (command.Status s ∷ cs) none h =
    let x = none-flows made n o cs none h in (x.0, (tt, x.1))

-- ---- behind some commands

-- a value that has begun behind them, and what flows then
pub record Behind (made : List (InSession Made)) (n : ℕ) (later : List Command) : Type 0 where
  pub going : Option Going
  pub flow : Flow made n going later
  pub was_found : IfSome going (WasFoundAs made n)

pub behind-found : (made : List (InSession Made)) (n : ℕ) (x : Going) (i : Item) → WasFoundAs made n x
    → IfSome (behind x i) (WasFoundAs made n)
behind-found made n x i h = by i.more
  where
    by : (b : Bool) → IfSome (cond b (Some (with_bytes x (bytes_in i.value))) None) (WasFoundAs made n)
    by true = record { post = h.post; within = h.within; msg_is = h.msg_is; command_is = h.command_is }
    by false = tt

pub flow-behind : (made : List (InSession Made)) (n : ℕ) (o : Option Going) (cs later : List Command)
    → IfSome o (WasFoundAs made n)
    → Flow made n o (cs ++ later)
    → Behind made n later
flow-behind made n o [] later w h = record { going = o; flow = h; was_found = w }
flow-behind made n o (command.Results r ∷ cs) later w h =
    flow-behind made n (behind h.0.value h.0.item) cs later
    (behind-found made n h.0.value h.0.item h.0.was_found) h.1
flow-behind made n o (command.Plain p ∷ cs) later w h = flow-behind made n o cs later w h
flow-behind made n o (command.Alert a ∷ cs) later w h = flow-behind made n o cs later w h
flow-behind made n o (command.Atomic b ∷ cs) later w h = flow-behind made n o cs later w h
flow-behind made n o (command.Sequence b ∷ cs) later w h = flow-behind made n o cs later w h
flow-behind made n o (command.Status s ∷ cs) later w h = flow-behind made n o cs later w h
