-- What the code of `device` does behind its input.
use Rattle.std.specs.Prelude.{⊤}
use Rattle.dm_exit.specs.declared.exit.Exit.{Exit}
use Rattle.dm_exit.specs.declared.exit.Exit.TheVariants as exit
use Rattle.dm_device.specs.Ending.{IsAnswer}

-- the answers over an input that was read
abbrev pub IsManaged : Exit → Type 0
IsManaged exit.Usage = ⊤
IsManaged e = IsAnswer e
