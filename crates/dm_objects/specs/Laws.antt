-- What gathering comes to, over its definition alone.
use Rattle.std.specs.Prelude.{◌≡◌, ℕ, ◌&&◌, Bool, true, false, List, [], ◌∷◌, ◌++◌, None, IfSome, is_some}
use Rattle.std.specs.List.{AllByRecursion, flat_map, last_or}
use Rattle.syncml_types.specs.declared.command.Step.{Step}
use Rattle.syncml_types.specs.Verbs.{is_write}
use Rattle.dm_objects.specs.declared.object.Object.{Object}
use Rattle.dm_objects.specs.declared.object.Object.TheVariants.{Nothing}
use Rattle.dm_objects.specs.declared.piece.Piece.{Piece}
use Rattle.dm_objects.specs.declared.piece.What.TheVariants.{Whole}
use Rattle.dm_objects.specs.Gathering.{gather, is_same_key, key_of}

-- the object that pieces leave of one
abbrev pub gather_all : ℕ → Object → List Piece → Object
gather_all max object [] = object
gather_all max object (p ∷ ps) = gather_all max (gather max object p).object ps

-- the bytes of pieces, one behind the other
abbrev pub bytes_of : List Piece → List ℕ
bytes_of ps = flat_map (λ (p : Piece). p.step.value) ps

-- more of its object is to come behind a piece: it is a write in pieces, and names its target
abbrev pub wants_more : Piece → Bool
wants_more piece = piece.more && is_write piece.step.verb && is_some piece.step.target

-- an earlier piece of the object that another one ends: of the same verb and target, both inside an Atomic or both
-- outside, and more of it is to come
abbrev pub is_earlier : Piece → Piece → Bool
is_earlier last piece = wants_more piece && is_same_key (key_of piece.step) (key_of last.step)

-- the first piece of an object
abbrev pub first_piece : List Piece → Piece → Piece
first_piece [] last = last
first_piece (p ∷ ps) last = p

-- A value that came with a piece behind others. That piece ends its object, whose earlier pieces are all those that
-- stand right in front: what stands before the first of them, if anything does, is no earlier piece of it. The value is
-- the bytes of all its pieces, one behind the other, with the Format and Type of the first.
pub record IsPutTogether (before : List Piece) (last : Piece) (value : Step) : Type 0 where
  pub old : List Piece
  pub earlier : List Piece
  pub run : before ≡ old ++ earlier
  pub of_one : AllByRecursion (λ (piece : Piece). is_earlier last piece ≡ true) earlier
  pub begins : IfSome (last_or None old) (λ piece. is_earlier last piece ≡ false)
  pub ends : last.more ≡ false
  pub bytes : value.value ≡ bytes_of (earlier ++ last ∷ [])
  pub format : value.format ≡ (first_piece earlier last).step.format
  pub media : value.media ≡ (first_piece earlier last).step.media
  pub target : value.target ≡ last.step.target

-- so is each value that comes whole
abbrev pub WholesArePutTogether : Type 0
WholesArePutTogether = (max : ℕ) (before : List Piece) (last : Piece) (value : Step)
    → (gather max (gather_all max Nothing before) last).what ≡ Whole value → IsPutTogether before last value
