-- What an engine keeps, over several steps.
use Rattle.std.proofs.Common.{◌≡◌, ◌∙◌, ◌<◌, ℕ, Bool, List, length, get_or, refl}
use Rattle.syncml_types.specs.declared.command.Command.{Command}
use Rattle.dm_tree.specs.Nodes.{Path}
use Rattle.dm_commands.specs.Promises.{none_moved}
use Rattle.dm_atomic.specs.declared.engine.Engine.{Engine}
use Rattle.dm_atomic.specs.Engine.{IsSoundEngine}
use Rattle.dm_atomic.specs.Marks.{whole_of}
use Rattle.dm_atomic.specs.Stays.{covers}
use Rattle.dm_atomic.proofs.Held.{holds_self, holds_then}
use Rattle.dm_atomic.proofs.Staying.{stay_self, stay_more, then_none}
use Rattle.dm_session.specs.Frames.{KeepsBut}
use Rattle.dm_session.specs.Stays.{body_covers}
use Rattle.dm_session.proofs.Kept.{body_goes_on}

pub keeps_self : (c : Path → Bool) (e : Engine) → IsSoundEngine e → KeepsBut c e e
keeps_self c e sound = record {
  clock = refl;
  max_obj = refl;
  ids = stay_self c (whole_of e);
  marks = holds_self e;
  sound = sound;
}

pub keeps_more : (c : Path → Bool) (e f : Engine) → KeepsBut none_moved e f → KeepsBut c e f
keeps_more c e f k = record {
  clock = k.clock;
  max_obj = k.max_obj;
  ids = stay_more c (whole_of e) (whole_of f) k.ids;
  marks = k.marks;
  sound = k.sound;
}

pub keeps_then_none : (c : Path → Bool) (e f g : Engine) → KeepsBut c e f → KeepsBut none_moved f g → KeepsBut c e g
keeps_then_none c e f g k l = record {
  clock = l.clock ∙ k.clock;
  max_obj = l.max_obj ∙ k.max_obj;
  ids = then_none c (whole_of e) (whole_of f) (whole_of g) k.ids l.ids;
  marks = holds_then e f g k.marks l.marks;
  sound = l.sound;
}

-- one command more of a body
pub keeps_on : (e m f : Engine) (cs : List Command) (k : ℕ) (c : Command) → k < length cs → c ≡ get_or cs k c
    → KeepsBut (body_covers cs) e m → KeepsBut (covers c) m f → KeepsBut (body_covers cs) e f
keeps_on e m f cs k c l is a b = record {
  clock = b.clock ∙ a.clock;
  max_obj = b.max_obj ∙ a.max_obj;
  ids = body_goes_on e m f cs k c l is a.ids b.ids;
  marks = holds_then e m f a.marks b.marks;
  sound = b.sound;
}
