-- A large object, put together from its pieces (OMA DM protocol, "Large object handling").
use Rattle.std.specs.Prelude.{ℕ, ◌+◌, ◌==◌, ◌&&◌, Bool, true, false, not, if◌then◌else◌, nat_lt, List, [], ◌++◌, length}
use Rattle.std.specs.Prelude.{bytes_eq, Option, None, Some, is_some, unwrap_or}
use Rattle.syncml_types.specs.declared.command.Step.{Step}
use Rattle.syncml_types.specs.declared.command.Verb.{Verb}
use Rattle.syncml_types.specs.declared.command.Verb.TheVariants.{Add, Copy, Delete, Exec, Get, Replace}
use Rattle.syncml_types.specs.Verbs.{is_write}
use Rattle.dm_objects.specs.declared.object.Key.{Key}
use Rattle.dm_objects.specs.declared.object.Begun.{Begun}
use Rattle.dm_objects.specs.declared.object.Object.{Object}
use Rattle.dm_objects.specs.declared.object.Object.TheVariants.{Nothing, Buffering, Skipping}
use Rattle.dm_objects.specs.declared.piece.Piece.{Piece}
use Rattle.dm_objects.specs.declared.piece.What.{What}
use Rattle.dm_objects.specs.declared.piece.What.TheVariants.{Whole, Buffered, Refused}

-- ---- which pieces belong together

abbrev pub key_of : Step → Key
key_of step = record { verb = step.verb; target = step.target; in_atomic = step.in_atomic }

-- each verb by a number of its own
abbrev pub verb_number : Verb → ℕ
verb_number Add = 0
verb_number Copy = 1
verb_number Delete = 2
verb_number Exec = 3
verb_number Get = 4
verb_number Replace = 5

abbrev pub is_same_text : Option (List ℕ) → Option (List ℕ) → Bool
is_same_text None None = true
is_same_text (Some text) (Some other) = bytes_eq text other
is_same_text text other = false

abbrev pub is_same_place : Bool → Bool → Bool
is_same_place true inside = inside
is_same_place false inside = not inside

-- the same verb and target, both inside an Atomic or both outside
abbrev pub is_same_key : Key → Key → Bool
is_same_key key other =
    verb_number key.verb == verb_number other.verb && is_same_text key.target other.target
    && is_same_place key.in_atomic other.in_atomic

-- the piece is one more of the unfinished object
abbrev pub continues : Object → Piece → Bool
continues Nothing piece = false
continues (Buffering begun) piece = is_same_key begun.key (key_of piece.step)
continues (Skipping key code) piece = is_same_key key (key_of piece.step)

-- the target of an object that is being buffered
abbrev pub buffered_target : Object → Option (List ℕ)
buffered_target Nothing = None
buffered_target (Buffering begun) = Some (unwrap_or begun.key.target [])
buffered_target (Skipping key code) = None

-- ---- what a piece comes to

-- the object behind a piece, and what the piece is
pub record Came : Type 0 where
  pub object : Object
  pub what : What

abbrev pub came : Object → What → Came
came object what = record { object = object; what = what }

-- refused, and so are the pieces that continue it
abbrev pub skipped : Piece → ℕ → Came
skipped piece code = came (Skipping (key_of piece.step) code) (Refused code)

abbrev pub begun_object : Piece → ℕ → Begun
begun_object piece size = record {
  key = key_of piece.step;
  format = piece.step.format;
  media = piece.step.media;
  size = size;
  value = piece.step.value;
}

-- the first piece of several tells the Size of the object
abbrev pub first_of_several : ℕ → Piece → Option ℕ → Came
first_of_several max piece None = skipped piece 411
first_of_several max piece (Some size) =
    if nat_lt max size then skipped piece 416
    else if nat_lt size (length piece.step.value) then skipped piece 424
    else came (Buffering (begun_object piece size)) Buffered

-- a piece that is the whole object; its Size isn't looked at
abbrev pub single : ℕ → Piece → Came
single max piece =
    if nat_lt max (length piece.step.value) then came Nothing (Refused 416) else came Nothing (Whole piece.step)

-- the object is the concatenation of its pieces, with the Format and Type of the first
abbrev pub whole_step : Begun → Step → Step
whole_step begun step =
    record step { format = begun.format; media = begun.media; value = begun.value ++ step.value }

-- one piece more of an object that is being buffered
abbrev pub next_piece : Begun → Piece → Came
next_piece begun piece =
    let total = length begun.value + length piece.step.value in
    if nat_lt begun.size total then came (if piece.more then Skipping begun.key 424 else Nothing) (Refused 424)
    else if piece.more then came (Buffering (record begun { value = begun.value ++ piece.step.value })) Buffered
    else if total == begun.size then came Nothing (Whole (whole_step begun piece.step))
    else came Nothing (Refused 424)

-- a piece of a write with its target, by the object that it meets
abbrev pub write_piece : ℕ → Object → Piece → Came
write_piece max Nothing piece = if piece.more then first_of_several max piece piece.size else single max piece
write_piece max (Buffering begun) piece = next_piece begun piece
write_piece max (Skipping key code) piece = came (if piece.more then Skipping key code else Nothing) (Refused code)

-- other verbs have no pieces, and a write in pieces wants a target
abbrev pub by_rules : ℕ → Object → Piece → Came
by_rules max object piece =
    if not (is_write piece.step.verb) then came object (if piece.more then Refused 400 else Whole piece.step)
    else if piece.more && not (is_some piece.step.target) then came object (Refused 400)
    else write_piece max object piece

-- the object behind a piece, the target of the object that it broke, and what the piece is
pub record Gathered : Type 0 where
  pub object : Object
  pub broken : Option (List ℕ)
  pub what : What

abbrev pub gathered_by : ℕ → Object → Piece → Bool → Gathered
gathered_by max object piece continued =
    let behind = by_rules max (if continued then object else Nothing) piece in
    record {
      object = behind.object;
      broken = if continued then None else buffered_target object;
      what = behind.what;
    }

-- a piece that doesn't continue the unfinished object ends it; what the piece comes to is seen then
unfoldable pub gather : ℕ → Object → Piece → Gathered
gather max object piece = gathered_by max object piece (continues object piece)
