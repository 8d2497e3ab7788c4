-- The tree that counts if nothing more comes, where a group is open and where none is.
use Rattle.std.proofs.Common.{◌≡◌, false, refl}
use Rattle.dm_atomic.specs.declared.engine.Engine.{Engine}
use Rattle.dm_atomic.specs.Run.{committed, opened}
use Rattle.dm_atomic.specs.Engine.{state_of}
use Rattle.dm_atomic.specs.Marks.{whole_of}
use Rattle.dm_atomic.specs.Stays.{committed_ids}
use Rattle.dm_atomic.proofs.Restores.{opened-base}

pub closed_tree : (e : Engine) → e.is_open ≡ false → (state_of e).tree ≡ committed (state_of e)
closed_tree e h = rw h refl

pub open_tree : (e : Engine) → (opened (state_of e)).base ≡ committed (state_of e)
open_tree e = opened-base (state_of e) (state_of e).group refl

pub closed_ids : (e : Engine) → e.is_open ≡ false → (whole_of e).ids ≡ committed_ids (whole_of e)
closed_ids e h = rw h refl
